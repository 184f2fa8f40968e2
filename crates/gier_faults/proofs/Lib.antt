pub mod Inserts
pub mod Orders
