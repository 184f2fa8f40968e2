pub mod Told
pub mod Blank
pub mod Errors
pub mod Plain
pub mod Early
pub mod Six
