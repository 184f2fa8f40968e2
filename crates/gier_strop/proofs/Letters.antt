-- Ten letters of a name tell as much as all of them.
use Rattle.std.proofs.Common.{nat_lt, ◌≡◌, ◌+◌, ℕ, zero, suc, Bool, true, false, List, [], ◌∷◌, ◌++◌, length, take, Option, None, Some, IfSome, refl, sym, ap, ◌∙◌, arith, inl, inr}
use Rattle.std.proofs.lemmas.Bool.{cases_lt}
use Rattle.std.proofs.lemmas.Bool.Decides.{nat_tests}
use Rattle.std.proofs.lemmas.List.{map-append, take_all, length-take}
use Rattle.gier_symbol.specs.declared.word.Spelling.{Spelling}
use Rattle.gier_symbol.specs.declared.word.Spelling.TheVariants.{Plain, Quoted}
use Rattle.gier_symbol.specs.Words.{tag_named, word_named, word_ended, is_quote, is_next_letter}
use Rattle.gier_symbol.proofs.WordRules.{long_name}
use Rattle.gier_strop.specs.declared.reader.Fed.TheVariants.{More}
use Rattle.gier_strop.specs.Reading.{Reading, lower, lowered, answer_of, ended_by, Feeds}

take-take-append : (n : ℕ) (xs ys : List ℕ) → take n (take n xs ++ ys) ≡ take n (xs ++ ys)
take-take-append zero xs ys = refl
take-take-append (suc n) [] ys = refl
take-take-append (suc n) (x ∷ xs) ys = ap (λ (l : List ℕ). x ∷ l) (take-take-append n xs ys)

lowered-append : (spelling : Spelling) (letters : List ℕ) (letter : ℕ) → lowered spelling (letters ++ letter ∷ []) ≡ lowered spelling letters ++ lower spelling letter ∷ []
lowered-append Plain letters letter = refl
lowered-append Quoted letters letter = simp map-append

-- one more letter is kept
pub kept-append : (spelling : Spelling) (letters : List ℕ) (letter : ℕ) → take 10 (take 10 (lowered spelling letters) ++ lower spelling letter ∷ []) ≡ take 10 (lowered spelling (letters ++ letter ∷ []))
kept-append spelling letters letter =
    take-take-append 10 (lowered spelling letters) (lower spelling letter ∷ []) ∙ ap (λ (l : List ℕ). take 10 l) (sym (lowered-append spelling letters letter))

tag_named-take : (name : List ℕ) → tag_named (take 10 name) ≡ tag_named name
tag_named-take name =
    elim (cases_lt (length name) 10) [
      | inl lt ↦ ap tag_named (take_all 10 name (omega arith))
      | inr long ↦ long_name (take 10 name) (omega (arith, length-take 10 name)) ∙ sym (long_name name long)
    ]

word_named-lowered : (spelling : Spelling) (letters : List ℕ) → tag_named (lowered spelling letters) ≡ word_named spelling letters
word_named-lowered Plain letters = refl
word_named-lowered Quoted letters = refl

pub word_named-kept : (spelling : Spelling) (letters : List ℕ) → tag_named (take 10 (lowered spelling letters)) ≡ word_named spelling letters
word_named-kept spelling letters = tag_named-take (lowered spelling letters) ∙ word_named-lowered spelling letters

not_below : (n : ℕ) → nat_lt n n ≡ false
not_below n = grind (arith, nat_tests)

one_below : (n : ℕ) → nat_lt n (n + 1) ≡ true
one_below n = grind (arith, nat_tests)

quoted : (letters : List ℕ) (next : Option ℕ) (quote : Bool) → is_quote next ≡ quote → answer_of (length letters) (word_ended Quoted letters next) ≡ ended_by Quoted (word_named Quoted letters) next
quoted letters next true is = rw (is, one_below (length letters)) refl
quoted letters next false is = rw (is, not_below (length letters)) refl

-- what the rules give, told by the word's number and by what follows its letters
pub answer_of-ended : (spelling : Spelling) (letters : List ℕ) (next : Option ℕ) → answer_of (length letters) (word_ended spelling letters next) ≡ ended_by spelling (word_named spelling letters) next
answer_of-ended Plain letters next = rw (not_below (length letters)) refl
answer_of-ended Quoted letters next = quoted letters next (is_quote next) refl

quoted_ends : (tag : Option ℕ) (next : Option ℕ) (quote : Bool) → is_quote next ≡ quote → ended_by Quoted tag next ≡ More → ⊥
quoted_ends None next true is more = let fault = rw is at more in cc
quoted_ends (Some tag) next true is more = let word = rw is at more in cc
quoted_ends tag next false is more = let fault = rw is at more in cc

ends : (spelling : Spelling) (tag next : Option ℕ) → ended_by spelling tag next ≡ More → ⊥
ends Plain None next more = cc
ends Plain (Some tag) next more = cc
ends Quoted tag next more = quoted_ends tag next (is_quote next) refl more

-- the step at a letter
pub feeds-letter : (spelling : Spelling) (name letters : List ℕ) (next : Option ℕ) (letter : ℕ) → is_next_letter spelling next ≡ true → IfSome next (λ fed. letter ≡ lower spelling fed)
    → name ≡ take 10 (lowered spelling letters) → Feeds spelling letters next More (record { spelling = spelling; name = take 10 (name ++ letter ∷ []) })
feeds-letter spelling name letters None letter follows is kept = absurd cc
feeds-letter spelling name letters (Some fed) letter follows is kept = record {
  answered = rw follows refl;
  goes_on = λ _. ap (λ (l : List ℕ). let r : Reading = record { spelling = spelling; name = l } in r) (rw (kept, is) (kept-append spelling letters fed));
}

-- the step at anything else
pub feeds-end : (spelling : Spelling) (name letters : List ℕ) (next : Option ℕ) (new : Reading) → is_next_letter spelling next ≡ false
    → name ≡ take 10 (lowered spelling letters) → Feeds spelling letters next (ended_by spelling (tag_named name) next) new
feeds-end spelling name letters next new follows kept = record {
  answered = rw (follows, kept, word_named-kept spelling letters) (sym (answer_of-ended spelling letters next));
  goes_on = λ more. absurd (ends spelling (tag_named name) next more);
}

pub false_if : (b : Bool) → (b ≡ true → ⊥) → b ≡ false
false_if true h = absurd (h refl)
false_if false h = refl
