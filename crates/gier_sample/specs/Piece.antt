-- The pieces that the sample program is given in.
use Rattle.std.specs.Prelude.{◌≡◌, ◌++◌, ◌<◌, ℕ, List, length}
use Rattle.gier_sample.specs.Sample.{head_text, tail_text}
use Rattle.gier_sample.specs.declared.piece.Piece.{Piece}
use Rattle.gier_sample.specs.declared.piece.Piece.TheVariants.{Head, Call, Tail}

abbrev pub piece_bytes : Piece → List ℕ
piece_bytes Head = head_text
piece_bytes (Call line) = line
piece_bytes Tail = tail_text

-- what was left is this piece, which isn't empty, and what is left behind it
pub record BeginsWith (old : List ℕ) (piece : Piece) (new : List ℕ) : Type 0 where
  pub whole : old ≡ piece_bytes piece ++ new
  pub some : 0 < length (piece_bytes piece)
