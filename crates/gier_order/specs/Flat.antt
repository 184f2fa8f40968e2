-- The flat run: what the order table says, order by order, over an object that is a list of words.
pub mod Region
pub mod Row
pub mod Kinds
pub mod Arrays
pub mod Rows
pub mod Live
pub mod Run
pub mod Sample
pub mod Samples
