pub mod Stops
pub mod Passes
pub mod Handed
pub mod Fronted
pub mod Printed
pub mod Early
