pub mod NextUses
pub mod Least
pub mod Notes
pub mod Index
pub mod Latest
pub mod Sweep
pub mod Decide
pub mod ReferenceStep
mod Examples
