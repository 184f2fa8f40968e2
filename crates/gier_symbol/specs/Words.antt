-- The words of a program in both spellings: which word a name is, and what the letters behind the first byte of a word
-- give. Layout, signs, strings, comments and skipped parts aren't told here.
use Rattle.std.specs.Prelude.{◌==◌, ◌&&◌, ◌+◌, ℕ, Bool, false, nat_le, if◌then◌else◌, List, [], ◌∷◌, length, map, find}
use Rattle.std.specs.Prelude.{take_while, slice_get, codes, Option, None, Some}
use Rattle.std.specs.Option.{option_map}
use Rattle.std.specs.Str.{bytes_eq}
use Rattle.gier_symbol.specs.declared.tag.Tag.{Tag}
use Rattle.gier_symbol.specs.declared.tag.Tag.TheVariants.{Div, Not, And, Or, Impl, Equiv, True, False, Begin, End, If, Then}
use Rattle.gier_symbol.specs.declared.tag.Tag.TheVariants.{Else, For, Step, Until, While, Do, Goto, Integer, Boolean, Array}
use Rattle.gier_symbol.specs.declared.tag.Tag.TheVariants.{Switch, Procedure, String, Label, Value, Own}
use Rattle.gier_symbol.specs.declared.word.Spelling.{Spelling}
use Rattle.gier_symbol.specs.declared.word.Spelling.TheVariants.{Plain, Quoted}
use Rattle.gier_symbol.specs.Tags.{number_of, name_of}

-- the symbols that are spelled as words
abbrev pub word_symbols : List Tag
word_symbols = Div ∷ Not ∷ And ∷ Or ∷ Impl ∷ Equiv ∷ True ∷ False ∷ Begin ∷ End ∷ If ∷ Then ∷ Else ∷ For ∷ Step ∷ Until ∷ While
    ∷ Do ∷ Goto ∷ Integer ∷ Boolean ∷ Array ∷ Switch ∷ Procedure ∷ String ∷ Label ∷ Value ∷ Own ∷ []

-- the comment word is no symbol, but has a number like a tag
abbrev pub comment_word : ℕ
comment_word = 56

-- the number of the word that has this name in lower-case letters
unfoldable pub tag_named : List ℕ → Option ℕ
tag_named name =
    if bytes_eq (codes "comment") name then Some comment_word
    else option_map number_of (find (λ word. bytes_eq (name_of word) name) word_symbols)

-- the byte that begins a word: `_`, and `'`
abbrev pub word_byte : Spelling → ℕ
word_byte Plain = 95
word_byte Quoted = 39

-- the letters of names: lower-case ones, and upper-case ones
abbrev pub is_name_letter : Spelling → ℕ → Bool
is_name_letter Plain byte = nat_le 97 byte && nat_le byte 122
is_name_letter Quoted byte = nat_le 65 byte && nat_le byte 90

-- whether a letter follows, and not another byte or the end
abbrev pub is_next_letter : Spelling → Option ℕ → Bool
is_next_letter spelling None = false
is_next_letter spelling (Some byte) = is_name_letter spelling byte

-- the number of the word that has this name in the letters of the spelling
abbrev pub word_named : Spelling → List ℕ → Option ℕ
word_named Plain name = tag_named name
word_named Quoted name = tag_named (map (λ letter. letter + 32) name)

-- what a word gives: its number, or none where it is a word fault, and how many bytes belong to it behind its first one
pub record WordRead : Type 0 where
  pub tag : Option ℕ
  pub taken : ℕ

abbrev pub is_quote : Option ℕ → Bool
is_quote None = false
is_quote (Some byte) = byte == 39

-- what the word with these letters gives, where this byte or the end follows them: in the plain spelling what follows
-- doesn't belong to it; in the quoted spelling a second `'` does, and where there is none it is a fault
abbrev pub word_ended : Spelling → List ℕ → Option ℕ → WordRead
word_ended Plain letters next = record { tag = word_named Plain letters; taken = length letters }
word_ended Quoted letters next =
    if is_quote next
    then record { tag = word_named Quoted letters; taken = length letters + 1 }
    else record { tag = None; taken = length letters }

-- the letters behind the first byte of a word, as many as there are
abbrev pub word_letters : Spelling → List ℕ → List ℕ
word_letters spelling rest = take_while (is_name_letter spelling) rest

-- what the word gives, behind whose first byte these bytes stand
abbrev pub word_of : Spelling → List ℕ → WordRead
word_of spelling rest = word_ended spelling (word_letters spelling rest) (slice_get rest (length (word_letters spelling rest)))
