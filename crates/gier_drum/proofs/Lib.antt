pub mod Pages
pub mod Chunks
pub mod Stored
pub mod View
