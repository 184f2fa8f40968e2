-- Samples of the flat run.
pub mod Values
pub mod Calls
pub mod Stops
pub mod Spoilt
