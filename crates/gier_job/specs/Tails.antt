-- What stands behind what a program printed: each tail is byte 10, `*** `, a text, byte 10.
use Rattle.std.specs.Prelude.{ℕ, List, [], ◌∷◌, ◌++◌, codes, decimal}

abbrev pub wrong_word_tail : ℕ → List ℕ
wrong_word_tail number = (codes "\n*** word " ++ decimal number) ++ codes "\n"

abbrev pub alarm_tail : List ℕ → List ℕ
alarm_tail name = codes "\n*** alarm " ++ (name ++ codes "\n")

abbrev pub steps_tail : List ℕ
steps_tail = codes "\n*** steps\n"

-- the greatest number of live words, and the end of the report
abbrev pub report_words : ℕ → List ℕ
report_words words = (codes " words " ++ decimal words) ++ codes "\n"

abbrev pub report_transfers : ℕ → ℕ → List ℕ
report_transfers transfers words = (codes " transfers " ++ decimal transfers) ++ report_words words

abbrev pub report_tail : ℕ → ℕ → ℕ → List ℕ
report_tail steps transfers words = (codes "\n*** steps " ++ decimal steps) ++ report_transfers transfers words

-- the texts of the things in a list, one behind the other
abbrev pub row_of : {A : Type 0} → (A → List ℕ) → List A → List ℕ
row_of text [] = []
row_of text (x ∷ xs) = text x ++ row_of text xs

-- a number after one space
abbrev pub number_text : ℕ → List ℕ
number_text n = codes " " ++ decimal n

abbrev pub numbers_text : List ℕ → List ℕ
numbers_text ns = row_of number_text ns

abbrev pub table_tail : List ℕ → List ℕ
table_tail misses = codes "\n*** table" ++ (numbers_text misses ++ codes "\n")

-- a transfer: the track within the object and the place from 1
abbrev pub move_text : ℕ × ℕ → List ℕ
move_text move = (codes " " ++ decimal move.0) ++ (codes "/" ++ decimal move.1)

abbrev pub moves_text : List (ℕ × ℕ) → List ℕ
moves_text moves = row_of move_text moves

abbrev pub best_tail : ℕ → List (ℕ × ℕ) → List ℕ
best_tail cost moves = (codes "\n*** best " ++ decimal cost) ++ (moves_text moves ++ codes "\n")

abbrev pub too_long_tail : List ℕ
too_long_tail = codes "\n*** best too long\n"
