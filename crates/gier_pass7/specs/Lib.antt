pub mod Kinds
pub mod Operations
pub mod Codes
pub mod StateInvariants
pub mod SendProgress
pub mod Invariant
