pub mod EntryKinds
pub mod Kinds
pub mod Types
pub mod Uses
pub mod Actuals
pub mod StateInvariants
pub mod Invariant
