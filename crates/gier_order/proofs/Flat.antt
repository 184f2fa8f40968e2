-- The flat run: its samples, and that it ends.
pub mod Values
pub mod Calls
pub mod Stops
pub mod Spoilt
pub mod Falls
pub mod Ends
