-- The place found by one pass over the times is the lowest with the greatest time.
use Rattle.std.proofs.Common.{◌≡◌, ℕ, zero, suc, ◌<◌, ◌≤◌, inl, inr, true, false, nat_le, List, [], ◌∷◌, length, slice_index, arith, refl, ap}
use Rattle.std.specs.List.{list_all}
use Rattle.std.proofs.lemmas.Bool.{le-leb, lt-leb}
use Rattle.gier_best.specs.Plan.{lowest_greatest}
use Rattle.gier_best.proofs.NextUses.{two_ways}

-- of the first n times, the lowest place with the greatest
pub record IsLatestOf (due : List ℕ) (most place n : ℕ) : Type 0 where
  pub inside : place < length due
  pub value : most ≡ slice_index due place
  pub greatest : (k : ℕ) → k < n → slice_index due k ≤ most
  pub lowest : (k : ℕ) → k < place → slice_index due k < most

all_most : (xs : List ℕ) (x : ℕ) → ((k : ℕ) → k < length xs → slice_index xs k ≤ x) → list_all (λ y. nat_le y x) xs ≡ true
all_most [] x most = refl
all_most (y ∷ ys) x most =
    let here : y ≤ x = most 0 (omega arith) in
    rw (le-leb y x here) (all_most ys x (λ k lt. most (suc k) (omega arith)))

not_all : (xs : List ℕ) (x k : ℕ) → k < length xs → x < slice_index xs k → list_all (λ y. nat_le y x) xs ≡ false
not_all [] x k inside above = absurd (omega arith)
not_all (y ∷ ys) x zero inside above = rw (lt-leb y x above) refl
not_all (y ∷ ys) x (suc k) inside above = elim (two_ways (nat_le y x)) [
  | inl le ↦ rw le (not_all ys x k (omega arith) above)
  | inr gt ↦ rw gt refl
]

place_is : (xs : List ℕ) (p : ℕ) → p < length xs → ((k : ℕ) → k < length xs → slice_index xs k ≤ slice_index xs p) → ((k : ℕ) → k < p → slice_index xs k < slice_index xs p)
    → p ≡ lowest_greatest xs
place_is [] p inside greatest lowest = absurd (omega arith)
place_is (x ∷ xs) zero inside greatest lowest = rw (all_most xs x (λ k lt. greatest (suc k) (omega arith))) refl
place_is (x ∷ xs) (suc p) inside greatest lowest =
    rw (not_all xs x p (omega arith) (lowest 0 (omega arith)))
    (ap suc (place_is xs p (omega arith) (λ k lt. greatest (suc k) (omega arith)) (λ k lt. lowest (suc k) (omega arith))))

pub latest_is : (due : List ℕ) (most place n : ℕ) → IsLatestOf due most place n → length due ≤ n → place ≡ lowest_greatest due
latest_is due most place n is all =
    place_is due place is.inside
    (λ k lt. omega (arith, is.greatest k (omega arith), is.value))
    (λ k lt. omega (arith, is.lowest k lt, is.value))
