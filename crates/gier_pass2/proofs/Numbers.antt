-- Places among the names that are known.
use Rattle.std.proofs.Common.{◌≡◌, ◌≢◌, ◌<◌, ◌+◌, ◌∙◌, ℕ, suc, List, [], ◌∷◌, ◌++◌, length, refl, sym, ap, arith, Bool, true, false, Option, None, Some}
use Rattle.std.specs.Prelude.{if◌then◌else◌}
use Rattle.std.specs.List.{position, position_from}
use Rattle.std.specs.Str.{bytes_eq}
use Rattle.std.proofs.lemmas.Slice.Eq.{bytes_eq-Decides}
use Rattle.std.proofs.lemmas.Iterator.Adapters.{position_from-zero}
use Rattle.std.proofs.lemmas.List.Quantifiers.{position-Some}
use Rattle.gier_symbol.specs.Assembly.{place_of}

pub false_if : (b : Bool) → (b ≡ true → ⊥) → b ≡ false
false_if true h = absurd (h refl)
false_if false h = refl

pub bytes_same : (xs : List ℕ) → bytes_eq xs xs ≡ true
bytes_same xs = (bytes_eq-Decides xs xs).1 refl

pub bytes_differ : (xs ys : List ℕ) → xs ≢ ys → bytes_eq xs ys ≡ false
bytes_differ xs ys ne = false_if (bytes_eq xs ys) (λ e. ne ((bytes_eq-Decides xs ys).0 e))

pub as_from : (p : List ℕ → Bool) (xs : List (List ℕ)) → position p xs ≡ position_from p 0 xs
as_from p xs = position_from-zero p xs

found_by : (test : Bool) (i n : ℕ) (old new : Option ℕ) → (if test then Some i else old) ≡ None → (old ≡ None → new ≡ Some (i + 1 + n))
    → (if test then Some i else new) ≡ Some (i + suc n)
found_by true i n old new none h = cc
found_by false i n old new none h = let e : i + 1 + n ≡ i + suc n = omega arith in h none ∙ ap Some e

from_found : (p : List ℕ → Bool) (i : ℕ) (xs : List (List ℕ)) (y : List ℕ) → position_from p i xs ≡ None → p y ≡ true
    → position_from p i (xs ++ y ∷ []) ≡ Some (i + length xs)
from_found p i [] y none h = let e : i + 0 ≡ i = omega arith in rw (h, e) refl
from_found p i (x ∷ xs) y none h = found_by (p x) i (length xs) (position_from p (i + 1) xs) (position_from p (i + 1) (xs ++ y ∷ [])) none
    (λ more. from_found p (i + 1) xs y more h)

from_other : (p : List ℕ → Bool) (i : ℕ) (xs : List (List ℕ)) (y : List ℕ) → p y ≡ false
    → position_from p i (xs ++ y ∷ []) ≡ position_from p i xs
from_other p i [] y h = rw h refl
from_other p i (x ∷ xs) y h = rw (from_other p (i + 1) xs y h) refl

-- a new name has the number behind all others
pub place_new : (name : List ℕ) (names : List (List ℕ)) → place_of name names ≡ None
    → place_of name (names ++ name ∷ []) ≡ Some (length names)
place_new name names none =
    let length_is : 0 + length names ≡ length names = omega arith in
    as_from (bytes_eq name) (names ++ name ∷ []) ∙ from_found (bytes_eq name) 0 names name (sym (as_from (bytes_eq name) names) ∙ none)
    (bytes_same name) ∙ ap Some length_is

-- each other name keeps its number
pub place_kept : (other name : List ℕ) (names : List (List ℕ)) → other ≢ name → place_of other (names ++ name ∷ []) ≡ place_of other names
place_kept other name names ne =
    as_from (bytes_eq other) (names ++ name ∷ []) ∙ from_other (bytes_eq other) 0 names name (bytes_differ other name ne) ∙ sym
    (as_from (bytes_eq other) names)

pub place_below : (name : List ℕ) (names : List (List ℕ)) (place : ℕ) → place_of name names ≡ Some place → place < length names
place_below name names place h = (position-Some (bytes_eq name) names place [] h).0
