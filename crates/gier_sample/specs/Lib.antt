pub mod Sample
pub mod Piece
