pub mod Endings
pub mod State
pub mod RunInvariant
pub mod FlatRun
pub mod Live
