pub mod Bytes
pub mod Scan
pub mod StepCounts
pub mod Program
pub mod Puts
pub mod Scanning
pub mod TapeListing
