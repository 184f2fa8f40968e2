-- The sign of a symbol without a value of no use has the symbol's tag.
use Rattle.std.proofs.Common.{◌≡◌, ◌<◌, ℕ, zero, suc, Bool, true, false, refl, sym, arith, inl, inr}
use Rattle.std.specs.Prelude.{◌==◌, ◌&&◌, ◌||◌, IsTrue, not}
use Rattle.std.proofs.lemmas.Bool.{false≢true, cases_eq}
use Rattle.std.proofs.lemmas.Bool.Decides.{nat_tests}
use Rattle.gier_symbol.specs.declared.symbol.Symbol.{Symbol}
use Rattle.gier_symbol.specs.declared.tag.Tag.{Tag}
use Rattle.gier_symbol.specs.declared.tag.Tag.TheVariants.{Letter, Digit, Identifier, Number, StringByte, LeadingPlus, LeadingMinus, LabelColon, Declaring, Formal, ValueListed, Specified, OpenMark, ShutMark, Entry, Description, Used, Place, Count, Operation, Subscripted, Called, OwnNumber, OwnEntry, Word, LabelPlace, LabelOrder, LabelWord, OpenRoom, Need, ObjectWords}
use Rattle.gier_symbol.specs.Tags.{number_of}
use Rattle.gier_symbol.specs.Texts.{is_in_text2, stands_in}
use Rattle.gier_tree.specs.Signs.{sign_tag, sign_by, sign_of}
use Rattle.gier_pass3.proofs.EntryWords.{same_number}
use Rattle.gier_pass3.specs.Found.{has_value, IsBare}

sign_kind : (kind : Tag) (value : ℕ) (none : Bool) → (value == 0) ≡ none → is_in_text2 (number_of kind) ≡ true → (has_value (number_of kind) || none) ≡ true → sign_tag (sign_by (number_of kind == number_of Identifier) (number_of kind == number_of Number) (number_of kind == number_of StringByte) (number_of kind) value) ≡ kind
sign_kind Identifier value none z is bare = refl
sign_kind Number value none z is bare = refl
sign_kind StringByte value none z is bare = refl
sign_kind Letter value none z is bare = absurd (false≢true is)
sign_kind Digit value none z is bare = absurd (false≢true is)
sign_kind LeadingPlus value none z is bare = absurd (false≢true is)
sign_kind LeadingMinus value none z is bare = absurd (false≢true is)
sign_kind LabelColon value none z is bare = absurd (false≢true is)
sign_kind Declaring value none z is bare = absurd (false≢true is)
sign_kind Formal value none z is bare = absurd (false≢true is)
sign_kind ValueListed value none z is bare = absurd (false≢true is)
sign_kind Specified value none z is bare = absurd (false≢true is)
sign_kind OpenMark value none z is bare = absurd (false≢true is)
sign_kind ShutMark value none z is bare = absurd (false≢true is)
sign_kind Entry value none z is bare = absurd (false≢true is)
sign_kind Description value none z is bare = absurd (false≢true is)
sign_kind Used value none z is bare = absurd (false≢true is)
sign_kind Place value none z is bare = absurd (false≢true is)
sign_kind Count value none z is bare = absurd (false≢true is)
sign_kind Operation value none z is bare = absurd (false≢true is)
sign_kind Subscripted value none z is bare = absurd (false≢true is)
sign_kind Called value none z is bare = absurd (false≢true is)
sign_kind OwnNumber value none z is bare = absurd (false≢true is)
sign_kind OwnEntry value none z is bare = absurd (false≢true is)
sign_kind Word value none z is bare = absurd (false≢true is)
sign_kind LabelPlace value none z is bare = absurd (false≢true is)
sign_kind LabelOrder value none z is bare = absurd (false≢true is)
sign_kind LabelWord value none z is bare = absurd (false≢true is)
sign_kind OpenRoom value none z is bare = absurd (false≢true is)
sign_kind Need value none z is bare = absurd (false≢true is)
sign_kind ObjectWords value none z is bare = absurd (false≢true is)
sign_kind _ value false z is bare = absurd (false≢true bare)
sign_kind _ value true z is bare = rw z refl

pub kind_of_sign : (s : Symbol) (kind : Tag) → number_of kind ≡ s.tag → IsTrue (stands_in 2 s.tag) → IsBare s → sign_tag (sign_of s) ≡ kind
kind_of_sign s kind e is bare = rw (sym e) (sign_kind kind s.value (s.value == 0) refl (rw e is) (rw e bare))

-- there is a tag with each number of text 2
abbrev tag_for : ℕ → Tag
tag_for n = sign_tag (sign_by (n == number_of Identifier) (n == number_of Number) (n == number_of StringByte) n 0)

abbrev is_tagged : ℕ → Bool
is_tagged n = not (is_in_text2 n) || (number_of (tag_for n) == n)

abbrev all_tagged : ℕ → Bool
all_tagged zero = true
all_tagged (suc n) = is_tagged n && all_tagged n

pub both : (a b : Bool) → (a && b) ≡ true → (a ≡ true) × (b ≡ true)
both true true h = (refl, refl)
both true false h = absurd (false≢true h)
both false b h = absurd (false≢true h)

tagged_below : (n k : ℕ) → all_tagged n ≡ true → k < n → is_tagged k ≡ true
tagged_below zero k all lt = absurd (omega (arith, lt))
tagged_below (suc n) k all lt =
    let h = both (is_tagged n) (all_tagged n) all in
    elim (cases_eq k n) [
      | inl e ↦ rw e h.0
      | inr ne ↦ tagged_below n k h.1 (omega (arith, lt, ne))
    ]

small_tag : (n : ℕ) → is_in_text2 n ≡ true → n < 56
small_tag n is = grind (arith, nat_tests)

by_test : (a b : Bool) → (not a || b) ≡ true → a ≡ true → b ≡ true
by_test true b h is = h
by_test false b h is = absurd (false≢true is)

pub some_tag : (n : ℕ) → IsTrue (stands_in 2 n) → number_of (tag_for n) ≡ n
some_tag n is = same_number (number_of (tag_for n)) n (by_test (is_in_text2 n) (number_of (tag_for n) == n) (tagged_below 56 n refl (small_tag n is)) is)
