-- What the rules of words give where the letters of a word and what follows them are known apart.
use Rattle.std.proofs.Common.{◌≡◌, ℕ, List, [], ◌∷◌, ◌++◌, length, ◌≤◌, ◌<◌, Bool, true, false, Option, None, refl, ◌∙◌, ap, arith}
use Rattle.std.specs.Prelude.{slice_get, find, codes, nat_lt, ◌&&◌}
use Rattle.std.specs.List.{list_all}
use Rattle.std.proofs.lemmas.List.Sums.{take_while-cons}
use Rattle.gier_symbol.specs.declared.word.Spelling.{Spelling}
use Rattle.std.specs.Str.{bytes_eq}
use Rattle.std.proofs.lemmas.Slice.Eq.{bytes_eq-Decides}
use Rattle.std.proofs.lemmas.Bool.Decides.{nat_tests}
use Rattle.gier_symbol.specs.declared.tag.Tag.{Tag}
use Rattle.gier_symbol.specs.Tags.{name_of}
use Rattle.gier_symbol.specs.Words.{word_symbols, is_name_letter, is_next_letter, word_letters, word_ended, word_of, tag_named}

and_both : (a b : Bool) → (a && b) ≡ true → (a ≡ true) × (b ≡ true)
and_both true b h = (refl, h)
and_both false b h = cc

letters_none : (spelling : Spelling) (rest : List ℕ) → is_next_letter spelling (slice_get rest 0) ≡ false → word_letters spelling rest ≡ []
letters_none spelling [] h = refl
letters_none spelling (x ∷ rest) h = take_while-cons (is_name_letter spelling) x rest ∙ rw h refl

-- the letters are all that is read, where no letter follows them
pub letters_before : (spelling : Spelling) (letters rest : List ℕ) → list_all (is_name_letter spelling) letters ≡ true → is_next_letter spelling (slice_get rest 0) ≡ false → word_letters spelling (letters ++ rest) ≡ letters
letters_before spelling [] rest h k = letters_none spelling rest k
letters_before spelling (x ∷ letters) rest h k =
    take_while-cons (is_name_letter spelling) x (letters ++ rest)
    ∙ rw (and_both (is_name_letter spelling x) (list_all (is_name_letter spelling) letters) h).0
    (ap (λ (l : List ℕ). x ∷ l) (letters_before spelling letters rest (and_both (is_name_letter spelling x) (list_all (is_name_letter spelling) letters) h).1 k))

next_after : (letters rest : List ℕ) → slice_get (letters ++ rest) (length letters) ≡ slice_get rest 0
next_after [] rest = refl
next_after (x ∷ letters) rest = next_after letters rest

-- what a word gives is told by its letters and by what follows them
pub word_of-letters : (spelling : Spelling) (letters rest : List ℕ) → list_all (is_name_letter spelling) letters ≡ true → is_next_letter spelling (slice_get rest 0) ≡ false → word_of spelling (letters ++ rest) ≡ word_ended spelling letters (slice_get rest 0)
word_of-letters spelling letters rest h k =
    ap (λ (l : List ℕ). word_ended spelling l (slice_get (letters ++ rest) (length l))) (letters_before spelling letters rest h k)
    ∙ ap (λ (o : Option ℕ). word_ended spelling letters o) (next_after letters rest)

false_if : (b : Bool) → (b ≡ true → ⊥) → b ≡ false
false_if true h = absurd (h refl)
false_if false h = refl

is_short : Tag → Bool
is_short word = nat_lt (length (name_of word)) 10

differs : (short name : List ℕ) → nat_lt (length short) 10 ≡ true → 10 ≤ length name → bytes_eq short name ≡ false
differs short name h le = false_if (bytes_eq short name) (λ same. let e : short ≡ name = (bytes_eq-Decides short name).0 same in let l : length short ≡ length name = ap length e in let lt : length short < 10 = grind (arith, nat_tests) in absurd (omega arith))

none_found : (words : List Tag) (name : List ℕ) → list_all is_short words ≡ true → 10 ≤ length name → find (λ word. bytes_eq (name_of word) name) words ≡ None
unfolding is_short
none_found [] name h le = refl
none_found (word ∷ words) name h le =
    let both = and_both (is_short word) (list_all is_short words) h in
    rw (differs (name_of word) name both.0 le) (none_found words name both.1 le)

-- no word is longer than `procedure`
pub long_name : (name : List ℕ) → 10 ≤ length name → tag_named name ≡ None
unfolding tag_named is_short
long_name name le = rw (differs (codes "comment") name refl le, none_found word_symbols name refl le) refl
