pub mod Recency
pub mod CountInvariant
pub mod Table
pub mod Flat
