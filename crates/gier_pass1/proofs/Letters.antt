-- The numbers that the reader of words answers are those of words.
use Rattle.std.proofs.Common.{◌≡◌, ◌∷◌, [], ℕ, Bool, true, false, List, Option, None, Some, IfSome, IsTrue, refl, map, nat_lt, length, rules}
use Rattle.std.specs.Prelude.{find, codes, ◌&&◌, if◌then◌else◌, ◌+◌}
use Rattle.std.specs.List.{list_all}
use Rattle.std.specs.Option.{option_map}
use Rattle.std.specs.Str.{bytes_eq}
use Rattle.gier_symbol.specs.declared.tag.Tag.{Tag}
use Rattle.gier_symbol.specs.declared.word.Spelling.{Spelling}
use Rattle.gier_symbol.specs.declared.word.Spelling.TheVariants.{Plain, Quoted}
use Rattle.gier_symbol.specs.Tags.{name_of, number_of}
use Rattle.gier_symbol.specs.Words.{word_symbols, tag_named, WordRead, word_ended, is_quote, is_next_letter}
use Rattle.gier_strop.specs.declared.reader.Fed.TheVariants.{More}
use Rattle.gier_strop.specs.Reading.{answer_of, answer_to, answer_with, answer_before}
use Rattle.gier_pass1.specs.StepCounts.{is_word_number, IsKnown}

abbrev KnownIn : Option ℕ → Type 0
KnownIn tag = IfSome tag (λ number. IsTrue (is_word_number number))

is_word : Tag → Bool
is_word word = is_word_number (number_of word)

and_both : (a b : Bool) → (a && b) ≡ true → (a ≡ true) × (b ≡ true)
and_both true b h = (refl, h)
and_both false b h = cc

true_so : (b : Bool) → b ≡ true → IsTrue b
true_so b h = search (rules, h)

found_known : (test : Tag → Bool) (words : List Tag) → list_all is_word words ≡ true → KnownIn (option_map number_of (find test words))
unfolding is_word
found_known test [] h = tt
found_known test (word ∷ words) h =
    let both = and_both (is_word word) (list_all is_word words) h in
    elim (test word) as (λ (b : Bool). KnownIn (option_map number_of (if b then Some word else find test words))) [ true ↦ true_so (is_word word) both.0 | false ↦ found_known test words both.1 ]

named_known : (name : List ℕ) → KnownIn (tag_named name)
unfolding tag_named is_word
named_known name =
    elim (bytes_eq (codes "comment") name) as (λ (b : Bool). KnownIn (if b then Some 56 else option_map number_of (find (λ word. bytes_eq (name_of word) name) word_symbols))) [ true ↦ true_so (is_word_number 56) refl | false ↦ found_known (λ word. bytes_eq (name_of word) name) word_symbols refl ]

ended_known : (spelling : Spelling) (letters : List ℕ) (next : Option ℕ) → KnownIn (word_ended spelling letters next).tag
ended_known Plain letters next = named_known letters
ended_known Quoted letters next =
    elim (is_quote next) as (λ (b : Bool). KnownIn (if◌then◌else◌ {A = WordRead} b (record { tag = tag_named (map (λ letter. letter + 32) letters); taken = length letters + 1 }) (record { tag = None; taken = length letters })).tag) [ true ↦ named_known (map (λ letter. letter + 32) letters) | false ↦ tt ]

answer_known : (b : Bool) (tag : Option ℕ) → KnownIn tag → IsKnown (if b then answer_with tag else answer_before tag)
answer_known true None h = tt
answer_known true (Some number) h = h
answer_known false None h = tt
answer_known false (Some number) h = h

-- what the reader answers is the number of a word, where it is a number
pub fed_known : (spelling : Spelling) (letters : List ℕ) (next : Option ℕ) → IsKnown (answer_to spelling letters next)
fed_known spelling letters next =
    let read = word_ended spelling letters next in
    elim (is_next_letter spelling next) as (λ (b : Bool). IsKnown (if b then More else answer_of (length letters) (word_ended spelling letters next))) [ true ↦ tt | false ↦ answer_known (nat_lt (length letters) read.taken) read.tag (ended_known spelling letters next) ]
