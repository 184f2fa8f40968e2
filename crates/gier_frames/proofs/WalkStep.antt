-- The walk along the enclosing bases: more looks than the base's number change nothing, and what one step of it finds.
use Rattle.std.proofs.Common.{◌≡◌, ◌<◌, ◌≤◌, ◌+◌, ◌/◌, ◌%◌, ℕ, zero, suc, true, false, nat_lt, nat_eq, List, length, slice_index, refl, arith, inl, inr, Ok, Err}
use Rattle.std.proofs.lemmas.Bool.{cases_lt}
use Rattle.std.proofs.lemmas.Bool.Decides.{nat_tests}
use Rattle.gier_frames.specs.declared.halt.Halt.TheVariants.{Odd}
use Rattle.gier_frames.specs.Walk.{sought}

pub enough : (n m : ℕ) (words : List ℕ) (level base : ℕ) → base < n → base < m → sought n words level base ≡ sought m words level base
enough zero m words level base few less = absurd (omega arith)
enough (suc n) zero words level base few less = absurd (omega arith)
enough (suc n) (suc m) words level base few less =
    let next : ℕ = slice_index words (base + 1) % 16777216 in
    elim (cases_lt next base) [
      | inl lt ↦ rw (enough n m words level next (omega arith) (omega arith)) refl
      | inr ge ↦ let no : nat_lt next base ≡ false = grind (arith, nat_tests) in rw no refl
    ]

pub seek_on : (words : List ℕ) (level base : ℕ) → base + 1 < length words → (slice_index words (base + 1) / 16777216 ≡ level → ⊥) → slice_index words (base + 1) % 16777216 < base
    → sought (suc base) words level base ≡ sought (suc (slice_index words (base + 1) % 16777216)) words level (slice_index words (base + 1) % 16777216)
seek_on words level base within other falls =
    let next : ℕ = slice_index words (base + 1) % 16777216 in
    let inside : nat_lt (base + 1) (length words) ≡ true = grind (arith, nat_tests) in
    let differs : nat_eq (slice_index words (base + 1) / 16777216) level ≡ false = grind (arith, nat_tests) in
    let below : nat_lt next base ≡ true = grind (arith, nat_tests) in
    rw (inside, differs, below) (enough base (suc next) words level next falls (omega arith))

pub seek_found : (words : List ℕ) (level base : ℕ) → base + 1 < length words → slice_index words (base + 1) / 16777216 ≡ level → sought (suc base) words level base ≡ Ok base
seek_found words level base within same =
    let inside : nat_lt (base + 1) (length words) ≡ true = grind (arith, nat_tests) in
    let agrees : nat_eq (slice_index words (base + 1) / 16777216) level ≡ true = grind (arith, nat_tests) in
    rw (inside, agrees) refl

pub seek_ends : (words : List ℕ) (level base : ℕ) → base + 1 < length words → (slice_index words (base + 1) / 16777216 ≡ level → ⊥) → base ≤ slice_index words (base + 1) % 16777216
    → sought (suc base) words level base ≡ Err Odd
seek_ends words level base within other stays =
    let inside : nat_lt (base + 1) (length words) ≡ true = grind (arith, nat_tests) in
    let differs : nat_eq (slice_index words (base + 1) / 16777216) level ≡ false = grind (arith, nat_tests) in
    let no : nat_lt (slice_index words (base + 1) % 16777216) base ≡ false = grind (arith, nat_tests) in
    rw (inside, differs, no) refl

pub seek_past : (words : List ℕ) (level base : ℕ) → length words ≤ base + 1 → sought (suc base) words level base ≡ Err Odd
seek_past words level base past =
    let outside : nat_lt (base + 1) (length words) ≡ false = grind (arith, nat_tests) in
    rw outside refl
