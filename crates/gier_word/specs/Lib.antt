pub mod Operations
pub mod Words
pub mod Alarm
pub mod Cause
pub mod Standard
pub mod Powers
