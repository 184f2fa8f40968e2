-- The parameter comma: `)`, an identifier of letters only, `:` and `(`, taken from left to right, are one `,` with the
-- line of the `)`. What may still become one waits.
use Rattle.std.specs.Prelude.{◌==◌, Bool, if◌then◌else◌, List, [], ◌∷◌, ◌++◌, Option, None, Some, ℕ}
use Rattle.gier_symbol.specs.declared.symbol.Symbol.{Symbol}
use Rattle.gier_symbol.specs.declared.tag.Tag.{Tag}
use Rattle.gier_symbol.specs.declared.tag.Tag.TheVariants.{Comma, Colon as ColonTag, LeftParenthesis, RightParenthesis}
use Rattle.gier_symbol.specs.Tags.{number_of}
use Rattle.gier_pass2.specs.declared.commas.PendingComma.{PendingComma}
use Rattle.gier_pass2.specs.Letters.{IsWritable}
use Rattle.gier_pass2.specs.declared.commas.PendingComma.TheVariants.{Nothing, Shut, Name, Colon}

abbrev pub symbols_of : PendingComma → List Symbol
symbols_of Nothing = []
symbols_of (Shut shut) = shut ∷ []
symbols_of (Name shut name) = shut ∷ name ∷ []
symbols_of (Colon shut name colon) = shut ∷ name ∷ colon ∷ []

-- each symbol that waits is one of text 2
abbrev pub IsWaiting : ℕ → PendingComma → Type 0
IsWaiting bytes Nothing = Unit {0}
IsWaiting bytes (Shut shut) = IsWritable bytes shut
IsWaiting bytes (Name shut name) = IsWritable bytes shut × IsWritable bytes name
IsWaiting bytes (Colon shut name colon) = IsWritable bytes shut × (IsWritable bytes name × IsWritable bytes colon)

abbrev pub is_kind : Tag → Symbol → Bool
is_kind kind s = s.tag == number_of kind

abbrev pub comma_at : ℕ → Symbol
comma_at line = record { tag = number_of Comma; value = 0; line = line }

-- what waits where the symbol may belong to the same comma
abbrev pub longer_by : PendingComma → Symbol → Bool → Option PendingComma
longer_by Nothing s plain = if is_kind RightParenthesis s then Some (Shut s) else None
longer_by (Shut shut) s plain = if plain then Some (Name shut s) else None
longer_by (Name shut name) s plain = if is_kind ColonTag s then Some (Colon shut name s) else None
longer_by (Colon shut name colon) s plain = None

-- what waits behind a symbol that doesn't belong to what waited
abbrev pub anew : Symbol → PendingComma
anew s = if is_kind RightParenthesis s then Shut s else Nothing

-- what is given then
abbrev pub given_behind : PendingComma → Symbol → List Symbol
given_behind waiting s = symbols_of waiting ++ (if is_kind RightParenthesis s then [] else s ∷ [])

-- what waits after the symbol
abbrev pub waits_after : PendingComma → Symbol → Bool → PendingComma
waits_after Nothing s plain = anew s
waits_after (Shut shut) s plain = if plain then Name shut s else anew s
waits_after (Name shut name) s plain = if is_kind ColonTag s then Colon shut name s else anew s
waits_after (Colon shut name colon) s plain = if is_kind LeftParenthesis s then Nothing else anew s

-- what the symbol gives
abbrev pub given_by : PendingComma → Symbol → Bool → List Symbol
given_by Nothing s plain = given_behind Nothing s
given_by (Shut shut) s plain = if plain then [] else given_behind (Shut shut) s
given_by (Name shut name) s plain = if is_kind ColonTag s then [] else given_behind (Name shut name) s
given_by (Colon shut name colon) s plain = if is_kind LeftParenthesis s then comma_at shut.line ∷ []
    else given_behind (Colon shut name colon) s
