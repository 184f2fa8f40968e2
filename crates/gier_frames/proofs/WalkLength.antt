-- The walk along the bases before the current one: more looks than the base's number change nothing, and one step of it.
use Rattle.std.proofs.Common.{◌≡◌, ◌<◌, ◌≤◌, ◌+◌, ◌-◌, ℕ, zero, suc, true, false, nat_le, List, length, slice_index, refl, ap, arith, inl, inr, None}
use Rattle.std.specs.List.{slice_get}
use Rattle.std.proofs.lemmas.Bool.{cases_lt}
use Rattle.std.proofs.lemmas.Bool.Decides.{nat_tests}
use Rattle.gier_frames.specs.Stop.{activations_from, number_from}

pub enough_listed : (n m : ℕ) (words marks : List ℕ) (top base : ℕ) → base < n → base < m → activations_from n words marks top base ≡ activations_from m words marks top base
enough_listed zero m words marks top base few less = absurd (omega arith)
enough_listed (suc n) zero words marks top base few less = absurd (omega arith)
enough_listed (suc n) (suc m) words marks top base few less =
    let old : ℕ = slice_index words base in
    elim (cases_lt old base) [
      | inl lt ↦ rw (enough_listed n m words marks base old (omega arith) (omega arith)) refl
      | inr ge ↦ let last : nat_le base old ≡ true = grind (arith, nat_tests) in rw last refl
    ]

pub enough_counted : (n m : ℕ) (words : List ℕ) (base : ℕ) → base < n → base < m → number_from n words base ≡ number_from m words base
enough_counted zero m words base few less = absurd (omega arith)
enough_counted (suc n) zero words base few less = absurd (omega arith)
enough_counted (suc n) (suc m) words base few less =
    let old : ℕ = slice_index words base in
    elim (cases_lt old base) [
      | inl lt ↦ rw (enough_counted n m words old (omega arith) (omega arith)) refl
      | inr ge ↦ let last : nat_le base old ≡ true = grind (arith, nat_tests) in rw last refl
    ]

pub number_on : (words : List ℕ) (base : ℕ) → slice_index words base < base
    → number_from (suc base) words base ≡ 1 + number_from (suc (slice_index words base)) words (slice_index words base)
number_on words base falls =
    let old : ℕ = slice_index words base in
    let more : nat_le base old ≡ false = grind (arith, nat_tests) in
    rw more (omega (arith, enough_counted base (suc old) words old falls (omega arith)))

pub number_ends : (words : List ℕ) (base : ℕ) → base ≤ slice_index words base → number_from (suc base) words base ≡ 1
number_ends words base stays =
    let last : nat_le base (slice_index words base) ≡ true = grind (arith, nat_tests) in
    rw last refl

pub length_activations : (n : ℕ) (words marks : List ℕ) (top base : ℕ) → length (activations_from n words marks top base) ≡ number_from n words base
length_activations zero words marks top base = refl
length_activations (suc n) words marks top base =
    let old : ℕ = slice_index words base in
    elim (cases_lt old base) [
      | inl lt ↦ let more : nat_le base old ≡ false = grind (arith, nat_tests) in rw more (ap suc (length_activations n words marks base old))
      | inr ge ↦ let last : nat_le base old ≡ true = grind (arith, nat_tests) in rw last refl
    ]

find_step : (words marks : List ℕ) (top base left : ℕ) → slice_index words base < base
    → slice_get (activations_from (suc base) words marks top base) (suc left) ≡ slice_get (activations_from (suc (slice_index words base)) words marks base (slice_index words base)) left
find_step words marks top base left falls =
    let old : ℕ = slice_index words base in
    let more : nat_le base old ≡ false = grind (arith, nat_tests) in
    rw (more, enough_listed base (suc old) words marks base old falls (omega arith)) refl

pub find_on : (words marks : List ℕ) (top base left : ℕ) → slice_index words base < base → 0 < left
    → slice_get (activations_from (suc base) words marks top base) left ≡ slice_get (activations_from (suc (slice_index words base)) words marks base (slice_index words base)) (left - 1)
find_on words marks top base zero falls some = absurd (omega arith)
find_on words marks top base (suc left) falls some =
    let one_less : suc left - 1 ≡ left = omega arith in
    rw one_less (find_step words marks top base left falls)

pub find_ends : (words marks : List ℕ) (top base left : ℕ) → base ≤ slice_index words base → 0 < left
    → slice_get (activations_from (suc base) words marks top base) left ≡ None
find_ends words marks top base zero stays some = absurd (omega arith)
find_ends words marks top base (suc left) stays some =
    let last : nat_le base (slice_index words base) ≡ true = grind (arith, nat_tests) in
    rw last refl
