pub mod Faults
pub mod Scopes
pub mod Around
pub mod Uses
pub mod Places
pub mod ScopeFaults
pub mod ScopeExamples
pub mod LevelExamples
