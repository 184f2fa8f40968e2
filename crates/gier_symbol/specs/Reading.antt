-- The symbols of a program text (Report 2), and the faults of its bytes. What stands at the front of the bytes gives symbols or
-- a fault, takes some bytes, and what is left is read in the same way: one rule for each front.
use Rattle.std.specs.Prelude.{◌==◌, ◌+◌, ◌-◌, ℕ, zero, suc, Bool, true, false, List, [], ◌∷◌, length, drop, Option, None, Some}
use Rattle.std.specs.Prelude.{if◌then◌else◌}
use Rattle.gier_symbol.specs.declared.symbol.Symbol.{Symbol}
use Rattle.gier_symbol.specs.declared.tag.Tag.TheVariants.{Letter, Digit, StringBegin, StringByte, StringEnd, TextEnd}
use Rattle.gier_symbol.specs.declared.tag.Tag.TheVariants.{Semicolon, Begin, End}
use Rattle.gier_symbol.specs.declared.word.Spelling.{Spelling}
use Rattle.gier_symbol.specs.declared.word.Spelling.TheVariants.{Plain, Quoted}
use Rattle.gier_symbol.specs.Bytes.{Front, ALayout, ALetter, ADigit, AWord, AString, ASign, Other, front_of}
use Rattle.gier_symbol.specs.ByTag.{sym, word}
use Rattle.gier_symbol.specs.Listing.{SymbolFault, WrongByte, WrongWord, OpenString, Listing, listings_joined}
use Rattle.gier_symbol.specs.Spans.{string_bytes, comment_length, skipped_length}
use Rattle.gier_symbol.specs.Tags.{number_of, name_of}
use Rattle.gier_symbol.specs.Words.{word_of, comment_word}

-- what the front of the bytes gives: a listing, how many bytes it takes behind the first one, and whether a comment may
-- stand directly behind it
pub record Taken : Type 0 where
  pub gives : Listing
  pub more : ℕ
  pub fresh : Bool

abbrev pub gives_symbols : List Symbol → (more : ℕ) → (fresh : Bool) → Taken
gives_symbols symbols more fresh = record { gives = record { symbols = symbols; faults = [] }; more = more; fresh = fresh }

abbrev pub gives_fault : SymbolFault → (line more : ℕ) → Taken
gives_fault kind line more = record {
  gives = record { symbols = []; faults = record { kind = kind; line = line } ∷ [] };
  more = more;
  fresh = false;
}

-- the line of what stands behind a byte
abbrev pub line_behind : (byte line : ℕ) → ℕ
line_behind byte line = if byte == 10 then suc line else line

-- the symbols of a string: its bytes, each on its line, and its end
abbrev pub string_symbols : List ℕ → (line : ℕ) → List Symbol
string_symbols [] line = word StringEnd line ∷ []
string_symbols (byte ∷ bytes) line = sym StringByte byte line ∷ string_symbols bytes (line_behind byte line)

-- a string, whose opening brace stands on this line; an open one takes all that is left
abbrev pub takes_string : Option (List ℕ) → (rest : List ℕ) → (line : ℕ) → Taken
takes_string None rest line = gives_fault OpenString line (length rest)
takes_string (Some bytes) rest line = gives_symbols (word StringBegin line ∷ string_symbols bytes line) (length bytes + 1) false

-- a comment, where it may stand; else it is a wrong word
abbrev pub takes_comment : (fresh : Bool) → (taken : ℕ) → (rest : List ℕ) → (line : ℕ) → Taken
takes_comment true taken rest line = gives_symbols [] (taken + comment_length (drop taken rest)) true
takes_comment false taken rest line = gives_fault WrongWord line taken

-- the end word takes what is skipped behind it
abbrev pub takes_known : (comment end : Bool) → (tag : ℕ) → (taken : ℕ) → Spelling → (fresh : Bool) → (rest : List ℕ) → (line : ℕ)
    → Taken
takes_known true end tag taken spelling fresh rest line = takes_comment fresh taken rest line
takes_known false true tag taken spelling fresh rest line = gives_symbols (word End line ∷ [])
    (taken + skipped_length spelling (drop taken rest) 0) false
takes_known false false tag taken spelling fresh rest line = gives_symbols
    (record { tag = tag; value = 0; line = line } ∷ []) taken (tag == number_of Begin)

abbrev pub takes_word : Option ℕ → (taken : ℕ) → Spelling → (fresh : Bool) → (rest : List ℕ) → (line : ℕ) → Taken
takes_word None taken spelling fresh rest line = gives_fault WrongWord line taken
takes_word (Some tag) taken spelling fresh rest line = takes_known (tag == comment_word)
    (tag == number_of End) tag taken spelling fresh rest line

-- the zero digit
abbrev pub zero_byte : ℕ
zero_byte = 48

-- one rule for each front
abbrev pub taken_by : Front → Spelling → (fresh : Bool) → (byte : ℕ) → (rest : List ℕ) → (line : ℕ) → Taken
taken_by ALayout spelling fresh byte rest line = gives_symbols [] 0 fresh
taken_by ALetter spelling fresh byte rest line = gives_symbols (sym Letter byte line ∷ []) 0 false
taken_by ADigit spelling fresh byte rest line = gives_symbols (sym Digit (byte - zero_byte) line ∷ []) 0 false
taken_by AWord spelling fresh byte rest line = takes_word (word_of spelling rest).tag
    (word_of spelling rest).taken spelling fresh rest line
taken_by AString spelling fresh byte rest line = takes_string (string_bytes rest 0) rest line
taken_by (ASign sign) spelling fresh byte rest line = gives_symbols (word sign line ∷ []) (length (name_of sign) - 1)
    (number_of sign == number_of Semicolon)
taken_by Other spelling fresh byte rest line = gives_fault WrongByte line 0

-- what is read of these bytes, where so many of them were taken already, and the first one stands on this line
abbrev pub read : Spelling → List ℕ → (taken : ℕ) → (fresh : Bool) → (line : ℕ) → Listing
read spelling [] taken fresh line = record { symbols = word TextEnd line ∷ []; faults = [] }
read spelling (byte ∷ rest) (suc taken) fresh line = read spelling rest taken fresh (line_behind byte line)
read spelling (byte ∷ rest) zero fresh line =
    let t = taken_by (front_of spelling byte rest) spelling fresh byte rest line in
    listings_joined t.gives (read spelling rest t.more t.fresh (line_behind byte line))

-- `!` as the first byte gives nothing, and the rest is in the quoted spelling
abbrev pub quoting_byte : ℕ
quoting_byte = 33

abbrev pub read_by : (quoted : Bool) → (byte : ℕ) → (rest : List ℕ) → Listing
read_by true byte rest = read Quoted rest 0 false 1
read_by false byte rest = read Plain (byte ∷ rest) 0 false 1

-- the symbols of a program text with their lines, and its faults of bytes
abbrev pub symbols_of : List ℕ → Listing
symbols_of [] = read Plain [] 0 false 1
symbols_of (byte ∷ rest) = read_by (byte == quoting_byte) byte rest
