pub mod WalkStep
pub mod DisplayBuild
pub mod Extents
pub mod WalkLength
