pub mod Placed
pub mod Laws
pub mod Fitting
pub mod Examples
pub mod Written
