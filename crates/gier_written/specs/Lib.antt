pub mod Renamed
pub mod Framed
