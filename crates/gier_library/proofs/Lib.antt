pub mod ReadsInOrder
pub mod Numbers
pub mod LongerData
pub mod ToldSource
