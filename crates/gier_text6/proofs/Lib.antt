pub mod Rising
pub mod Fitting
pub mod Closing
pub mod Ladder
pub mod Parts
pub mod FittingParts
pub mod Assignments
pub mod Calls
