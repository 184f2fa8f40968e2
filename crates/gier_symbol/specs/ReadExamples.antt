-- Programs' bytes and what is read of them: an example for each rule.
use Rattle.std.specs.Prelude.{◌≡◌, ℕ, List, [], ◌∷◌, ◌++◌, codes}
use Rattle.gier_symbol.specs.declared.symbol.Symbol.{Symbol}
use Rattle.gier_symbol.specs.Assembly.{assembly}
use Rattle.gier_symbol.specs.Listing.{FaultAt, SymbolFault, WrongByte, WrongWord, OpenString, LargeNumber, Listing}
use Rattle.gier_symbol.specs.Reading.{symbols_of}

-- a symbol by its tag, value and line, a fault by its kind and line
abbrev pub row : (tag value line : ℕ) → Symbol
row tag value line = record { tag = tag; value = value; line = line }

abbrev pub fault : SymbolFault → (line : ℕ) → FaultAt SymbolFault
fault kind line = record { kind = kind; line = line }

abbrev pub listing : List Symbol → List (FaultAt SymbolFault) → Listing
listing symbols faults = record { symbols = symbols; faults = faults }

-- rule of layout: it separates the bytes of a sign, and nothing else
abbrev pub layout_bytes : List ℕ
layout_bytes = codes "a " ++ (9 ∷ []) ++ codes "1: =" ++ (10 ∷ []) ++ codes "2"

abbrev pub layout_read : Listing
layout_read = listing (row 1 97 1 ∷ row 2 1 1 ∷ row 29 0 1 ∷ row 17 0 1 ∷ row 2 2 2 ∷ row 8 0 2 ∷ []) ([])

-- letters and digits
abbrev pub letters_bytes : List ℕ
letters_bytes = codes "aZ09"

abbrev pub letters_read : Listing
letters_read = listing (row 1 97 1 ∷ row 1 90 1 ∷ row 2 0 1 ∷ row 2 9 1 ∷ row 8 0 1 ∷ []) ([])

-- each sign, the longest first
abbrev pub signs_bytes : List ℕ
signs_bytes = codes "+-*^<<==>=><>,:;:=()[]"

abbrev pub signs_read : Listing
signs_read = listing (row 10 0 1 ∷ row 11 0 1 ∷ row 12 0 1 ∷ row 14 0 1 ∷ row 15 0 1 ∷ row 16 0 1 ∷ row 17 0 1 ∷ row 18 0 1
    ∷ row 19 0 1 ∷ row 20 0 1 ∷ row 28 0 1 ∷ row 29 0 1 ∷ row 30 0 1 ∷ row 31 0 1 ∷ row 32 0 1 ∷ row 33 0 1 ∷ row 34 0 1
    ∷ row 35 0 1 ∷ row 8 0 1 ∷ []) ([])

-- double signs have adjacent bytes
abbrev pub sign_pairs_bytes : List ℕ
sign_pairs_bytes = codes "<=<>=<>"

abbrev pub sign_pairs_read : Listing
sign_pairs_read = listing (row 16 0 1 ∷ row 20 0 1 ∷ row 17 0 1 ∷ row 20 0 1 ∷ row 8 0 1 ∷ []) ([])

-- words, with and without layout behind them
abbrev pub words_bytes : List ℕ
words_bytes = codes "_begin _boolean_true" ++ (10 ∷ []) ++ codes "_own_ _End"

abbrev pub words_read : Listing
words_read = listing (row 36 0 1 ∷ row 48 0 1 ∷ row 26 0 1 ∷ row 55 0 2 ∷ row 1 69 2 ∷ row 1 110 2 ∷ row 1 100 2 ∷ row 8 0 2 ∷ [])
    (fault WrongWord 2 ∷ fault WrongWord 2 ∷ [])

-- a wrong word takes its letters
abbrev pub wrong_words_bytes : List ℕ
wrong_words_bytes = codes "_beginx _ _x1"

abbrev pub wrong_words_read : Listing
wrong_words_read = listing (row 2 1 1 ∷ row 8 0 1 ∷ []) (fault WrongWord 1 ∷ fault WrongWord 1 ∷ fault WrongWord 1 ∷ [])

-- strings nest, and keep layout
abbrev pub strings_bytes : List ℕ
strings_bytes = codes "{a{ }" ++ (10 ∷ []) ++ codes ";}b"

abbrev pub strings_read : Listing
strings_read = listing (row 5 0 1 ∷ row 6 97 1 ∷ row 6 123 1 ∷ row 6 32 1 ∷ row 6 125 1 ∷ row 6 10 1 ∷ row 6 59 2 ∷ row 7 0 2
    ∷ row 1 98 2 ∷ row 8 0 2 ∷ []) ([])

-- an open string takes the rest
abbrev pub open_string_bytes : List ℕ
open_string_bytes = codes "a" ++ (10 ∷ []) ++ codes "{b{c}"

abbrev pub open_string_read : Listing
open_string_read = listing (row 1 97 1 ∷ row 8 0 2 ∷ []) (fault OpenString 2 ∷ [])

-- comments behind ; and begin, with layout and comments between
abbrev pub comments_bytes : List ℕ
comments_bytes = codes "; _comment x_y; _begin" ++ (10 ∷ []) ++ codes "_comment;_comment" ++ (10 ∷ []) ++ codes ";a"

abbrev pub comments_read : Listing
comments_read = listing (row 30 0 1 ∷ row 36 0 1 ∷ row 1 97 3 ∷ row 8 0 3 ∷ []) ([])

-- a comment elsewhere is a wrong word
abbrev pub comment_apart_bytes : List ℕ
comment_apart_bytes = codes "a _comment;"

abbrev pub comment_apart_read : Listing
comment_apart_read = listing (row 1 97 1 ∷ row 30 0 1 ∷ row 8 0 1 ∷ []) (fault WrongWord 1 ∷ [])

-- a wrong byte between ends what stands directly behind
abbrev pub comment_fault_bytes : List ℕ
comment_fault_bytes = codes ";?_comment b;"

abbrev pub comment_fault_read : Listing
comment_fault_read = listing (row 30 0 1 ∷ row 1 98 1 ∷ row 30 0 1 ∷ row 8 0 1 ∷ []) (fault WrongByte 1 ∷ fault WrongWord 1 ∷ [])

-- an open comment takes the rest
abbrev pub open_comment_bytes : List ℕ
open_comment_bytes = codes ";_comment a" ++ (10 ∷ []) ++ codes "b"

abbrev pub open_comment_read : Listing
open_comment_read = listing (row 30 0 1 ∷ row 8 0 2 ∷ []) ([])

-- behind the end word all is skipped
abbrev pub skipped_bytes : List ℕ
skipped_bytes = codes "_end a{?" ++ (10 ∷ []) ++ codes "_begin _endx _end b _else ; c"

abbrev pub skipped_read : Listing
skipped_read = listing (row 37 0 1 ∷ row 37 0 2 ∷ row 40 0 2 ∷ row 30 0 2 ∷ row 1 99 2 ∷ row 8 0 2 ∷ []) ([])

-- up to the end of the text
abbrev pub skipped_to_end_bytes : List ℕ
skipped_to_end_bytes = codes "_end a" ++ (10 ∷ []) ++ codes "b"

abbrev pub skipped_to_end_read : Listing
skipped_to_end_read = listing (row 37 0 1 ∷ row 8 0 2 ∷ []) ([])

-- other bytes are faults
abbrev pub wrong_bytes_bytes : List ℕ
wrong_bytes_bytes = codes "'!}" ++ (34 ∷ []) ++ codes "?/"

abbrev pub wrong_bytes_read : Listing
wrong_bytes_read = listing (row 8 0 1 ∷ [])
    (fault WrongByte 1 ∷ fault WrongByte 1 ∷ fault WrongByte 1 ∷ fault WrongByte 1 ∷ fault WrongByte 1 ∷ fault WrongByte 1 ∷ [])

-- the quoted spelling
abbrev pub quoted_bytes : List ℕ
quoted_bytes = codes "!'BEGIN' a'DIV'" ++ (10 ∷ []) ++ codes "1"

abbrev pub quoted_read : Listing
quoted_read = listing (row 36 0 1 ∷ row 1 97 1 ∷ row 13 0 1 ∷ row 2 1 2 ∷ row 8 0 2 ∷ []) ([])

-- names of words, the second quote, and bytes of the other spelling
abbrev pub quoted_faults_bytes : List ℕ
quoted_faults_bytes = codes "!'begin''END 'X' _! 'IF'"

abbrev pub quoted_faults_read : Listing
quoted_faults_read = listing (row 1 98 1 ∷ row 1 101 1 ∷ row 1 103 1 ∷ row 1 105 1 ∷ row 1 110 1 ∷ row 1 69 1 ∷ row 1 78 1
    ∷ row 1 68 1 ∷ row 38 0 1 ∷ row 8 0 1 ∷ [])
    (fault WrongWord 1 ∷ fault WrongWord 1 ∷ fault WrongWord 1 ∷ fault WrongByte 1 ∷ fault WrongByte 1 ∷ [])

-- words in the skipped part
abbrev pub quoted_skipped_bytes : List ℕ
quoted_skipped_bytes = codes "!'END'x'END'';' 'ELSE'"

abbrev pub quoted_skipped_read : Listing
quoted_skipped_read = listing (row 37 0 1 ∷ row 37 0 1 ∷ row 30 0 1 ∷ row 40 0 1 ∷ row 8 0 1 ∷ []) (fault WrongWord 1 ∷ [])

-- a later ! is a wrong byte
abbrev pub bang_bytes : List ℕ
bang_bytes = codes "a!"

abbrev pub bang_read : Listing
bang_read = listing (row 1 97 1 ∷ row 8 0 1 ∷ []) (fault WrongByte 1 ∷ [])

-- no bytes
abbrev pub nothing_bytes : List ℕ
nothing_bytes = []

abbrev pub nothing_read : Listing
nothing_read = listing (row 8 0 1 ∷ []) ([])

-- identifiers by first occurrence, standard ones first
abbrev pub names_bytes : List ℕ
names_bytes = codes "b a1 outcr b sign a1x 1"

abbrev pub names_assembled : Listing
names_assembled = listing (row 3 8 1 ∷ row 8 0 1 ∷ []) ([])

-- layout has no significance
abbrev pub run_on_bytes : List ℕ
run_on_bytes = codes "out cr 1 2"

abbrev pub run_on_assembled : Listing
run_on_assembled = listing (row 3 8 1 ∷ row 8 0 1 ∷ []) ([])

-- a number ends where letters begin
abbrev pub number_then_name_bytes : List ℕ
number_then_name_bytes = codes "12ab 3"

abbrev pub number_then_name_assembled : Listing
number_then_name_assembled = listing (row 4 12 1 ∷ row 3 8 1 ∷ row 8 0 1 ∷ []) ([])

-- the greatest number, and one above it
abbrev pub large_bytes : List ℕ
large_bytes = codes "549755813887;549755813888;0001"

abbrev pub large_assembled : Listing
large_assembled = listing (row 4 549755813887 1 ∷ row 30 0 1 ∷ row 4 0 1 ∷ row 30 0 1 ∷ row 4 1 1 ∷ row 8 0 1 ∷ [])
    (fault LargeNumber 1 ∷ [])

-- a parameter comma, whose name takes a number
abbrev pub comma_bytes : List ℕ
comma_bytes = codes "p(a)  t :" ++ (10 ∷ []) ++ codes "(b):(c)x"

abbrev pub comma_assembled : Listing
comma_assembled = listing (row 3 8 1 ∷ row 32 0 1 ∷ row 3 9 1 ∷ row 28 0 1 ∷ row 3 11 2 ∷ row 33 0 2 ∷ row 29 0 2 ∷ row 32 0 2
    ∷ row 3 12 2 ∷ row 33 0 2 ∷ row 3 13 2 ∷ row 8 0 2 ∷ []) ([])

-- a digit in it, and no colon
abbrev pub no_comma_bytes : List ℕ
no_comma_bytes = codes "(a)t1:(b)c(d)e:f"

abbrev pub no_comma_assembled : Listing
no_comma_assembled = listing (row 32 0 1 ∷ row 3 8 1 ∷ row 33 0 1 ∷ row 3 9 1 ∷ row 29 0 1 ∷ row 32 0 1 ∷ row 3 10 1 ∷ row 33 0 1
    ∷ row 3 11 1 ∷ row 32 0 1 ∷ row 3 12 1 ∷ row 33 0 1 ∷ row 3 13 1 ∷ row 29 0 1 ∷ row 3 14 1 ∷ row 8 0 1 ∷ []) ([])

-- from left to right
abbrev pub two_commas_bytes : List ℕ
two_commas_bytes = codes ")a:()b:("

abbrev pub two_commas_assembled : Listing
two_commas_assembled = listing (row 28 0 1 ∷ row 28 0 1 ∷ row 8 0 1 ∷ []) ([])

pub record AreRead : Type 0 where
  pub layout : symbols_of layout_bytes ≡ layout_read
  pub letters : symbols_of letters_bytes ≡ letters_read
  pub signs : symbols_of signs_bytes ≡ signs_read
  pub sign_pairs : symbols_of sign_pairs_bytes ≡ sign_pairs_read
  pub words : symbols_of words_bytes ≡ words_read
  pub wrong_words : symbols_of wrong_words_bytes ≡ wrong_words_read
  pub strings : symbols_of strings_bytes ≡ strings_read
  pub open_string : symbols_of open_string_bytes ≡ open_string_read
  pub comments : symbols_of comments_bytes ≡ comments_read
  pub comment_apart : symbols_of comment_apart_bytes ≡ comment_apart_read
  pub comment_fault : symbols_of comment_fault_bytes ≡ comment_fault_read
  pub open_comment : symbols_of open_comment_bytes ≡ open_comment_read
  pub skipped : symbols_of skipped_bytes ≡ skipped_read
  pub skipped_to_end : symbols_of skipped_to_end_bytes ≡ skipped_to_end_read
  pub wrong_bytes : symbols_of wrong_bytes_bytes ≡ wrong_bytes_read
  pub quoted : symbols_of quoted_bytes ≡ quoted_read
  pub quoted_faults : symbols_of quoted_faults_bytes ≡ quoted_faults_read
  pub quoted_skipped : symbols_of quoted_skipped_bytes ≡ quoted_skipped_read
  pub bang : symbols_of bang_bytes ≡ bang_read
  pub nothing : symbols_of nothing_bytes ≡ nothing_read

pub record AreAssembled : Type 0 where
  pub names : assembly (symbols_of names_bytes).symbols ≡ names_assembled
  pub run_on : assembly (symbols_of run_on_bytes).symbols ≡ run_on_assembled
  pub number_then_name : assembly (symbols_of number_then_name_bytes).symbols ≡ number_then_name_assembled
  pub large : assembly (symbols_of large_bytes).symbols ≡ large_assembled
  pub comma : assembly (symbols_of comma_bytes).symbols ≡ comma_assembled
  pub no_comma : assembly (symbols_of no_comma_bytes).symbols ≡ no_comma_assembled
  pub two_commas : assembly (symbols_of two_commas_bytes).symbols ≡ two_commas_assembled
