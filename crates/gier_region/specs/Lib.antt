pub mod Contents
pub mod Packing
