-- Products of extents and numbers of elements grow with the dimensions.
use Rattle.std.proofs.Common.{◌≡◌, ◌≤◌, ℕ, zero, suc, List, arith, inl, inr}
use Rattle.std.proofs.lemmas.Bool.{cases_eq}
use Rattle.gier_frames.specs.Numbers.{elements, offset}

pub elements_grow : (words : List ℕ) (at i d : ℕ) → i ≤ d → elements words at i ≤ elements words at d
elements_grow words at i zero le = let none : i ≡ 0 = omega arith in rw none (omega arith)
elements_grow words at i (suc d) le =
    elim (cases_eq i (suc d)) [
      | inl e ↦ rw e (omega arith)
      | inr ne ↦ omega (arith, elements_grow words at i d (omega arith))
    ]

pub offset_grows : (words : List ℕ) (at from i d : ℕ) → i ≤ d → offset words at from i ≤ offset words at from d
offset_grows words at from i zero le = let none : i ≡ 0 = omega arith in rw none (omega arith)
offset_grows words at from i (suc d) le =
    elim (cases_eq i (suc d)) [
      | inl e ↦ rw e (omega arith)
      | inr ne ↦ omega (arith, offset_grows words at from i d (omega arith))
    ]
