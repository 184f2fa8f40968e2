pub mod WritesJoined
pub mod Lists
pub mod Prints
