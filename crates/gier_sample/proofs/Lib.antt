pub mod Digits
pub mod LastPiece
