-- The parameter commas of the definition of assembling, as far as the pass has come: what is written and what waits.
use Rattle.std.specs.Prelude.{◌≡◌, ◌++◌, ◌∷◌, [], ℕ, Bool, true, false, List, Option, None, Some}
use Rattle.std.specs.List.{list_all}
use Rattle.gier_symbol.specs.declared.symbol.Symbol.{Symbol}
use Rattle.gier_symbol.specs.declared.tag.Tag.TheVariants.{Identifier, Number, RightParenthesis, Colon as ColonTag}
use Rattle.gier_symbol.specs.Assembly.{Lexeme, AName, ANumber, ASymbol, Piece, is, with_commas}
use Rattle.gier_symbol.specs.Bytes.{is_letter}
use Rattle.gier_symbol.specs.Tags.{number_of}
use Rattle.gier_pass2.specs.declared.commas.PendingComma.{PendingComma}
use Rattle.gier_pass2.specs.declared.commas.PendingComma.TheVariants.{Nothing, Shut, Name, Colon}
use Rattle.gier_pass2.specs.declared.runs.AssembledToken.{AssembledToken}

abbrev pub symbol_piece : Symbol → Piece
symbol_piece s = record { run = ASymbol s; symbol = s }

abbrev pub name_piece : (name : List ℕ) → (line : ℕ) → Symbol → Piece
name_piece name line s = record { run = AName name line; symbol = s }

-- the pieces that wait
abbrev pub IsHeld : PendingComma → List Piece → Type 0
IsHeld Nothing held = held ≡ []
IsHeld (Shut shut) held = (held ≡ symbol_piece shut ∷ []) × (is RightParenthesis shut ≡ true)
IsHeld (Name shut name) held = (letters : List ℕ) × (line : ℕ) × (held ≡ symbol_piece shut ∷ name_piece letters line name ∷ []) ×
    (is RightParenthesis shut ≡ true) × (list_all is_letter letters ≡ true)
IsHeld (Colon shut name colon) held = (letters : List ℕ) × (line : ℕ) ×
    (held ≡ symbol_piece shut ∷ name_piece letters line name ∷ symbol_piece colon ∷ []) × (is RightParenthesis shut ≡ true) ×
    (list_all is_letter letters ≡ true) × (is ColonTag colon ≡ true)

-- these symbols are written of the pieces, and the rest is written as if those that wait began it
pub record IsGrouped (waiting : PendingComma) (done : List Piece) (written : List Symbol) : Type 0 where
  pub held : List Piece
  pub waits : IsHeld waiting held
  pub gives : (rest : List Piece) → with_commas (done ++ rest) 0 ≡ written ++ with_commas (held ++ rest) 0

-- the symbol of a run, and whether that is an identifier of letters only
abbrev pub IsAs : Lexeme → Symbol → Bool → Type 0
IsAs (AName name line) s plain = (s.tag ≡ number_of Identifier) × (list_all is_letter name ≡ plain)
IsAs (ANumber value line) s plain = (s.tag ≡ number_of Number) × (plain ≡ false)
IsAs (ASymbol t) s plain = (t ≡ s) × (plain ≡ false)

-- what a run gives at its end
abbrev pub Gives : Option AssembledToken → List Piece → Type 0
Gives None pieces = pieces ≡ []
Gives (Some word) pieces = (piece : Piece) × (pieces ≡ piece ∷ []) × (piece.symbol ≡ word.symbol)
    × IsAs piece.run word.symbol word.plain
