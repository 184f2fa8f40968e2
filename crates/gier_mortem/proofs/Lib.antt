pub mod GreatestSoFar
pub mod Searching
