-- On which line of the program each word of its object was written, by its text 7: what a stop and an activation are told by.
use Rattle.std.specs.Prelude.{◌==◌, ◌&&◌, ℕ, zero, suc, Bool, true, false, not, if◌then◌else◌, List, [], ◌∷◌, slice_index}
use Rattle.gier_symbol.specs.declared.symbol.Symbol.{Symbol}
use Rattle.gier_symbol.specs.declared.tag.Tag.TheVariants.{LabelPlace, Need, ObjectWords}
use Rattle.gier_symbol.specs.Tags.{number_of}

-- a mark of a label, what an activation needs and the number of words are no words of the object
abbrev pub is_word : (tag : ℕ) → Bool
is_word tag = not (tag == number_of LabelPlace) && (not (tag == number_of Need) && not (tag == number_of ObjectWords))

-- the lines of the words, in order
abbrev pub word_lines : List Symbol → List ℕ
word_lines [] = []
word_lines (s ∷ ss) = if is_word s.tag then s.line ∷ word_lines ss else word_lines ss

-- the line of the word at an address; 0 where the text has no such word
abbrev pub line_at : List Symbol → (address : ℕ) → ℕ
line_at text address = slice_index (word_lines text) address

-- how many symbols stand before the word at an address
abbrev pub place_by : (here : Bool) → (address : ℕ) → (ℕ → ℕ) → ℕ
place_by true zero behind = 0
place_by true (suc address) behind = suc (behind address)
place_by false address behind = suc (behind address)

abbrev pub place_at : List Symbol → (address : ℕ) → ℕ
place_at [] address = 0
place_at (s ∷ ss) address = place_by (is_word s.tag) address (place_at ss)
