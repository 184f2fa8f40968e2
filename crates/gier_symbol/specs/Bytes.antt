-- What the first of some bytes may begin: layout, a letter, a digit, a word, a string, a sign, or nothing of the language
-- (Report 2.1 to 2.3).
use Rattle.std.specs.Prelude.{◌==◌, ◌&&◌, ◌||◌, ℕ, Bool, true, false, nat_le, List, [], ◌∷◌, length, take, find, Option, None, Some}
use Rattle.std.specs.Str.{bytes_eq}
use Rattle.gier_symbol.specs.declared.tag.Tag.{Tag}
use Rattle.gier_symbol.specs.declared.tag.Tag.TheVariants.{Plus, Minus, Times, Power, Less, NotGreater, Equal, NotLess, Greater}
use Rattle.gier_symbol.specs.declared.tag.Tag.TheVariants.{NotEqual, Comma, Colon, Semicolon, Becomes, LeftParenthesis}
use Rattle.gier_symbol.specs.declared.tag.Tag.TheVariants.{RightParenthesis, LeftBracket, RightBracket}
use Rattle.gier_symbol.specs.declared.word.Spelling.{Spelling}
use Rattle.gier_symbol.specs.Tags.{name_of}
use Rattle.gier_symbol.specs.Words.{word_byte}

-- tabulator, new line, carriage return and space
abbrev pub is_layout : ℕ → Bool
is_layout byte = byte == 9 || byte == 10 || byte == 13 || byte == 32

abbrev pub is_letter : ℕ → Bool
is_letter byte = (nat_le 97 byte && nat_le byte 122) || (nat_le 65 byte && nat_le byte 90)

abbrev pub is_digit : ℕ → Bool
is_digit byte = nat_le 48 byte && nat_le byte 57

-- the bytes that begin and end a string
abbrev pub opening_brace : ℕ
opening_brace = 123

abbrev pub closing_brace : ℕ
closing_brace = 125

-- the signs, the double ones first
abbrev pub sign_symbols : List Tag
sign_symbols = NotGreater ∷ NotLess ∷ NotEqual ∷ Becomes ∷ Plus ∷ Minus ∷ Times ∷ Power ∷ Less ∷ Equal ∷ Greater ∷ Comma ∷ Colon
    ∷ Semicolon ∷ LeftParenthesis ∷ RightParenthesis ∷ LeftBracket ∷ RightBracket ∷ []

abbrev pub begins_with : List ℕ → List ℕ → Bool
begins_with name bytes = bytes_eq name (take (length name) bytes)

-- the longest sign with which these bytes begin
abbrev pub sign_before : List ℕ → Option Tag
sign_before bytes = find (λ sign. begins_with (name_of sign) bytes) sign_symbols

pub data Front : Type 0 where
  ALayout : Front
  ALetter : Front
  ADigit : Front
  AWord : Front
  AString : Front
  ASign : Tag → Front
  Other : Front

abbrev pub sign_front : Option Tag → Front
sign_front None = Other
sign_front (Some sign) = ASign sign

-- by the first test that holds: layout, letter, digit, the byte of words, the opening brace
abbrev pub front_by : (layout letter digit word brace : Bool) → (bytes : List ℕ) → Front
front_by true letter digit word brace bytes = ALayout
front_by false true digit word brace bytes = ALetter
front_by false false true word brace bytes = ADigit
front_by false false false true brace bytes = AWord
front_by false false false false true bytes = AString
front_by false false false false false bytes = sign_front (sign_before bytes)

-- what this byte and the following ones begin
abbrev pub front_of : Spelling → (byte : ℕ) → (rest : List ℕ) → Front
front_of spelling byte rest = front_by (is_layout byte) (is_letter byte) (is_digit byte) (byte == word_byte spelling)
    (byte == opening_brace) (byte ∷ rest)
