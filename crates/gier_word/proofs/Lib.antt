pub mod Powers
pub mod SmallExponents
pub mod Cause
pub mod Options
mod Examples
