-- Each identifier has its place among all names, and keeps it.
use Rattle.std.proofs.Common.{◌≡◌, ◌<◌, ◌+◌, ◌∙◌, ℕ, zero, suc, List, [], ◌∷◌, ◌++◌, get_or, refl, sym, ap}
use Rattle.std.proofs.Common.{arith, inl, inr, Bool, true, false, Option, None, Some}
use Rattle.std.specs.Prelude.{if◌then◌else◌}
use Rattle.std.specs.List.{position_from}
use Rattle.std.specs.Str.{bytes_eq}
use Rattle.std.proofs.lemmas.Slice.Eq.{bytes_eq-Decides}
use Rattle.std.proofs.lemmas.List.Quantifiers.{position-Some}
use Rattle.gier_symbol.specs.declared.symbol.Symbol.{Symbol}
use Rattle.gier_symbol.specs.Assembly.{Lexeme, AName, ANumber, ASymbol, pieces, runs, place_of, known_by, number_by, standard_names}
use Rattle.gier_pass2.specs.Characters.{HasName, AreCharacters}
use Rattle.gier_pass2.specs.Reading.{names_after, names_of}
use Rattle.gier_pass2.proofs.Numbers.{as_from, place_new}

found_kept : (test : Bool) (i place : ℕ) (old new : Option ℕ) → (if test then Some i else old) ≡ Some place
    → (old ≡ Some place → new ≡ Some place) → (if test then Some i else new) ≡ Some place
found_kept true i place old new h more = h
found_kept false i place old new h more = more h

from_kept : (p : List ℕ → Bool) (i place : ℕ) (xs : List (List ℕ)) (y : List ℕ) → position_from p i xs ≡ Some place
    → position_from p i (xs ++ y ∷ []) ≡ Some place
from_kept p i place [] y h = cc
from_kept p i place (x ∷ xs) y h =
    found_kept (p x) i place (position_from p (i + 1) xs) (position_from p (i + 1) (xs ++ y ∷ [])) h
    (λ more. from_kept p (i + 1) place xs y more)

place_stays : (name other : List ℕ) (names : List (List ℕ)) (place : ℕ) → place_of name names ≡ Some place
    → place_of name (names ++ other ∷ []) ≡ Some place
place_stays name other names place h =
    as_from (bytes_eq name) (names ++ other ∷ []) ∙ from_kept (bytes_eq name) 0 place names other (sym (as_from (bytes_eq name) names) ∙ h)

known_stays : (found : Option ℕ) (name other : List ℕ) (names : List (List ℕ)) (place : ℕ) → place_of name names ≡ Some place
    → place_of name (known_by found other names) ≡ Some place
known_stays None name other names place h = place_stays name other names place h
known_stays (Some k) name other names place h = h

-- a place is kept by what comes later
place_after : (read : List Lexeme) (name : List ℕ) (names : List (List ℕ)) (place : ℕ) → place_of name names ≡ Some place
    → place_of name (names_after read names) ≡ Some place
place_after [] name names place h = h
place_after (AName other line ∷ read) name names place h =
    place_after read name (known_by (place_of other names) other names) place (known_stays (place_of other names) name other names place h)
place_after (ANumber value line ∷ read) name names place h = place_after read name names place h
place_after (ASymbol s ∷ read) name names place h = place_after read name names place h

-- a name has its number once it is known
number_known : (found : Option ℕ) (name : List ℕ) (names : List (List ℕ)) → place_of name names ≡ found
    → place_of name (known_by found name names) ≡ Some (number_by found names)
number_known None name names h = place_new name names h
number_known (Some k) name names h = h

name_same : (a b : List ℕ) (k l : ℕ) → AName a k ≡ AName b l → a ≡ b
name_same a b k l h = cc

not_named : (r : Lexeme) (name : List ℕ) (line : ℕ) → r ≡ AName name line → (r ≡ AName name line → ⊥) → ⊥
not_named r name line h k = k h

number_no_name : (value line : ℕ) (name : List ℕ) (at : ℕ) → ANumber value line ≡ AName name at → ⊥
number_no_name value line name at h = cc

symbol_no_name : (s : Symbol) (name : List ℕ) (at : ℕ) → ASymbol s ≡ AName name at → ⊥
symbol_no_name s name at h = cc

-- each identifier has the place of its characters among all names
pub has_place : (read : List Lexeme) (known : List (List ℕ)) (name : List ℕ) (number : ℕ) → HasName name number (pieces read known)
    → place_of name (names_after read known) ≡ Some number
has_place [] known name number h = absurd h
has_place (AName other line ∷ read) known name number (inl h) =
    let same : name ≡ other = sym (name_same other name line h.line h.run) in
    rw same (place_after read other (known_by (place_of other known) other known) number
    (number_known (place_of other known) other known refl ∙ ap Some h.value))
has_place (AName other line ∷ read) known name number (inr h) = has_place read (known_by (place_of other known) other known) name number h
has_place (ANumber value line ∷ read) known name number (inl h) = absurd (number_no_name value line name h.line h.run)
has_place (ANumber value line ∷ read) known name number (inr h) = has_place read known name number h
has_place (ASymbol s ∷ read) known name number (inl h) = absurd (symbol_no_name s name h.line h.run)
has_place (ASymbol s ∷ read) known name number (inr h) = has_place read known name number h

some_same : (a b : ℕ) → Some a ≡ Some b → a ≡ b
some_same a b h = cc

name_at : (name : List ℕ) (names : List (List ℕ)) (place : ℕ) → place_of name names ≡ Some place → name ≡ get_or names place []
name_at name names place h = (bytes_eq-Decides name (get_or names place [])).0 (position-Some (bytes_eq name) names place [] h).1

standard_place : (k : ℕ) → k < 8 → place_of (get_or standard_names k []) standard_names ≡ Some k
standard_place zero lt = refl
standard_place (suc zero) lt = refl
standard_place (suc (suc zero)) lt = refl
standard_place (suc (suc (suc zero))) lt = refl
standard_place (suc (suc (suc (suc zero)))) lt = refl
standard_place (suc (suc (suc (suc (suc zero))))) lt = refl
standard_place (suc (suc (suc (suc (suc (suc zero)))))) lt = refl
standard_place (suc (suc (suc (suc (suc (suc (suc zero))))))) lt = refl
standard_place (suc (suc (suc (suc (suc (suc (suc (suc k)))))))) lt = absurd (omega arith)

pub told_apart : AreCharacters
told_apart = λ symbols. let read = runs symbols 0 in record {
  same = λ name a b h k. some_same a b (sym (has_place read standard_names name a h) ∙ has_place read standard_names name b k);
  apart = λ name other a h k.
      name_at name (names_of read) a (has_place read standard_names name a h)
      ∙ sym (name_at other (names_of read) a (has_place read standard_names other a k));
  standard = λ k a lt h.
      some_same a k (sym (has_place read standard_names (get_or standard_names k []) a h)
      ∙ place_after read (get_or standard_names k []) standard_names k (standard_place k lt));
}
