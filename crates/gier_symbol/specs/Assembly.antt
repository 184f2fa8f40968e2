-- Identifiers and numbers assembled from letters and digits (Report 2.4, 2.5), and parameter commas (3.2.1, 4.7.1).
use Rattle.std.specs.Prelude.{◌==◌, ◌&&◌, ◌||◌, ◌+◌, ◌*◌, ℕ, zero, suc, Bool, true, false, nat_lt, List, [], ◌∷◌, ◌++◌, length}
use Rattle.std.specs.Prelude.{map, take_while, codes, Option, None, Some}
use Rattle.std.specs.List.{position, list_all}
use Rattle.std.specs.Str.{bytes_eq}
use Rattle.gier_symbol.specs.declared.symbol.Symbol.{Symbol}
use Rattle.gier_symbol.specs.declared.tag.Tag.{Tag}
use Rattle.gier_symbol.specs.declared.tag.Tag.TheVariants.{Letter, Digit, Identifier, Number, Comma, Colon, LeftParenthesis}
use Rattle.gier_symbol.specs.declared.tag.Tag.TheVariants.{RightParenthesis}
use Rattle.gier_symbol.specs.Bytes.{is_letter}
use Rattle.gier_symbol.specs.ByTag.{sym, word}
use Rattle.gier_symbol.specs.Listing.{FaultAt, SymbolFault, LargeNumber, Listing}
use Rattle.gier_symbol.specs.Reading.{zero_byte}
use Rattle.gier_symbol.specs.Tags.{number_of}

abbrev pub is : Tag → Symbol → Bool
is kind s = s.tag == number_of kind

abbrev pub is_letter_or_digit : Symbol → Bool
is_letter_or_digit s = is Letter s || is Digit s

-- a run of letters and digits that begins with a letter, a run of digits, or a symbol that stays as it is
pub data Lexeme : Type 0 where
  AName : (name : List ℕ) → (line : ℕ) → Lexeme
  ANumber : (value line : ℕ) → Lexeme
  ASymbol : Symbol → Lexeme

-- the byte of a letter or digit
abbrev pub byte_by : (digit : Bool) → (value : ℕ) → ℕ
byte_by true value = zero_byte + value
byte_by false value = value

abbrev pub byte_of : Symbol → ℕ
byte_of s = byte_by (is Digit s) s.value

-- the number that digits write, behind those that wrote this one
abbrev pub decimal : (before : ℕ) → List Symbol → ℕ
decimal before [] = before
decimal before (s ∷ digits) = decimal (before * 10 + s.value) digits

-- the runs of these symbols, where so many of them were taken already
abbrev pub run_at : (letter digit : Bool) → Symbol → (rest : List Symbol) → ((taken : ℕ) → List Lexeme) → List Lexeme
run_at true digit s rest go_on = AName (map byte_of (s ∷ take_while is_letter_or_digit rest)) s.line
    ∷ go_on (length (take_while is_letter_or_digit rest))
run_at false true s rest go_on = ANumber (decimal 0 (s ∷ take_while (is Digit) rest)) s.line
    ∷ go_on (length (take_while (is Digit) rest))
run_at false false s rest go_on = ASymbol s ∷ go_on 0

abbrev pub runs : List Symbol → (taken : ℕ) → List Lexeme
runs [] taken = []
runs (s ∷ rest) (suc taken) = runs rest taken
runs (s ∷ rest) zero = run_at (is Letter s) (is Digit s) s rest (runs rest)

-- the standard identifiers come first
abbrev pub standard_names : List (List ℕ)
standard_names = codes "outinteger" ∷ codes "outtext" ∷ codes "outcr" ∷ codes "outchar" ∷ codes "ininteger" ∷ codes "inchar"
    ∷ codes "abs" ∷ codes "sign" ∷ []

-- the number of a name: its place among the known ones, or the first one behind them
abbrev pub number_by : Option ℕ → (known : List (List ℕ)) → ℕ
number_by None known = length known
number_by (Some place) known = place

abbrev pub known_by : Option ℕ → (name : List ℕ) → (known : List (List ℕ)) → List (List ℕ)
known_by None name known = known ++ name ∷ []
known_by (Some place) name known = known

abbrev pub place_of : (name : List ℕ) → (known : List (List ℕ)) → Option ℕ
place_of name known = position (bytes_eq name) known

-- a number above `2^39 - 1` is a fault, and stands as 0
abbrev pub greatest_number : ℕ
greatest_number = 549755813887

abbrev pub is_large : ℕ → Bool
is_large value = nat_lt greatest_number value

abbrev pub fault_by : (large : Bool) → (line : ℕ) → List (FaultAt SymbolFault) → List (FaultAt SymbolFault)
fault_by true line faults = record { kind = LargeNumber; line = line } ∷ faults
fault_by false line faults = faults

abbrev pub number_faults : List Lexeme → List (FaultAt SymbolFault)
number_faults [] = []
number_faults (AName name line ∷ rest) = number_faults rest
number_faults (ANumber value line ∷ rest) = fault_by (is_large value) line (number_faults rest)
number_faults (ASymbol s ∷ rest) = number_faults rest

abbrev pub value_by : (large : Bool) → (value : ℕ) → ℕ
value_by true value = 0
value_by false value = value

-- a run and its symbol
pub record Piece : Type 0 where
  pub run : Lexeme
  pub symbol : Symbol

-- each name is numbered by its first occurrence
abbrev pub pieces : List Lexeme → (known : List (List ℕ)) → List Piece
pieces [] known = []
pieces (AName name line ∷ rest) known =
    let place = place_of name known in
    record { run = AName name line; symbol = sym Identifier (number_by place known) line } ∷ pieces rest (known_by place name known)
pieces (ANumber value line ∷ rest) known = record {
  run = ANumber value line;
  symbol = sym Number (value_by (is_large value) value) line;
} ∷ pieces rest known
pieces (ASymbol s ∷ rest) known = record { run = ASymbol s; symbol = s } ∷ pieces rest known

-- `)`, a name of letters only, `:` and `(` are a parameter comma, on the line of the `)`; its name has taken a number
abbrev pub is_group : Lexeme → Lexeme → Lexeme → Lexeme → Bool
is_group (ASymbol s) (AName name line) (ASymbol t) (ASymbol u) = is RightParenthesis s && list_all is_letter name && is Colon t
    && is LeftParenthesis u
is_group a b c d = false

abbrev pub begins_group : Piece → List Piece → Bool
begins_group a (b ∷ c ∷ d ∷ rest) = is_group a.run b.run c.run d.run
begins_group a rest = false

abbrev pub comma_at : (group : Bool) → Symbol → ((taken : ℕ) → List Symbol) → List Symbol
comma_at true s go_on = word Comma s.line ∷ go_on 3
comma_at false s go_on = s ∷ go_on 0

abbrev pub with_commas : List Piece → (taken : ℕ) → List Symbol
with_commas [] taken = []
with_commas (p ∷ rest) (suc taken) = with_commas rest taken
with_commas (p ∷ rest) zero = comma_at (begins_group p rest) p.symbol (with_commas rest)

-- the assembled symbols, and the numbers that are too large
abbrev pub assembly : List Symbol → Listing
assembly symbols = let r = runs symbols 0 in record { symbols = with_commas (pieces r standard_names) 0; faults = number_faults r }
