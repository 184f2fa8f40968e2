pub mod Padded
pub mod Entries
