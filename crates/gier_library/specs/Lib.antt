pub mod Data
pub mod DataView
pub mod Places
pub mod Answers
pub mod Prints
