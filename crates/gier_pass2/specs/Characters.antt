-- Identifiers are told apart by all their letters and digits (Report 2.4).
use Rattle.std.specs.Prelude.{◌≡◌, ◌<◌, ◌⊎◌, ◌∷◌, [], ℕ, List, length, slice_index_or}
use Rattle.gier_symbol.specs.declared.symbol.Symbol.{Symbol}
use Rattle.gier_symbol.specs.Assembly.{AName, Piece, pieces, runs, standard_names}

-- an identifier of these characters stands there with this number
pub record IsNamed (characters : List ℕ) (number : ℕ) (piece : Piece) : Type 0 where
  pub line : ℕ
  pub run : piece.run ≡ AName characters line
  pub value : piece.symbol.value ≡ number

-- it stands among these
abbrev pub HasName : List ℕ → ℕ → List Piece → Type 0
HasName characters number [] = ⊥
HasName characters number (piece ∷ pieces) = IsNamed characters number piece ⊎ HasName characters number pieces

-- the runs of some symbols, each with its symbol
abbrev pub assembled_pieces : List Symbol → List Piece
assembled_pieces symbols = pieces (runs symbols 0) standard_names

-- whatever is assembled, identifiers have the same number just where they have the same characters, and a standard one has
-- its place among the standard ones
pub record AreToldApart (symbols : List Symbol) : Type 0 where
  pub same : (name : List ℕ) (a b : ℕ) → HasName name a (assembled_pieces symbols) → HasName name b (assembled_pieces symbols)
      → a ≡ b
  pub apart : (name other : List ℕ) (a : ℕ) → HasName name a (assembled_pieces symbols) → HasName other a (assembled_pieces symbols)
      → name ≡ other
  pub standard : (k a : ℕ) → k < length standard_names → HasName (slice_index_or standard_names k []) a (assembled_pieces symbols)
      → a ≡ k

abbrev pub AreCharacters : Type 0
AreCharacters = (symbols : List Symbol) → AreToldApart symbols
