pub mod Stops
pub mod WordLines
