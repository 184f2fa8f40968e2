pub mod Lists
pub mod Costs
pub mod Grammar
pub mod Refinement
pub mod Found
pub mod Completion
pub mod Invariant
