pub mod Misses
pub mod Counts
pub mod Table
pub mod Codes
pub mod Flat
