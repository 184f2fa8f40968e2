pub mod Words
pub mod Lists
pub mod Steps
pub mod Knowledge
pub mod Exact
pub mod FromTheEnd
pub mod Examples
pub mod Invariant
