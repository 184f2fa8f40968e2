-- lists that are cut to a room, and numbers that stand in no list of 64-bit numbers
use Rattle.std.proofs.Common.{◌≡◌, ◌==◌, ◌+◌, ◌<◌, ◌≤◌, ◌-◌, ℕ, suc, false, All, List, [], ◌∷◌, ◌++◌, length, take, refl, sym, subst, arith}
use Rattle.std.proofs.lemmas.Bool.Decides.{nat_tests}
use Rattle.std.specs.List.{list_any}
use Rattle.std.proofs.Math.Seq.{take-append-add}

pub take_to_room : (held more : List ℕ) (room : ℕ) → length held ≤ room → take room (held ++ more) ≡ held ++ take (room - length held) more
take_to_room held more room fits =
    let split : room ≡ length held + (room - length held) = omega arith in
    let P : ℕ → Type 0 = λ n. take n (held ++ more) ≡ held ++ take (room - length held) more in
    subst P (sym split) (take-append-add held more (room - length held))

-- a number above all that stand in the list
pub none_above : (xs : List ℕ) (n : ℕ) → All (λ x. x < n) xs → list_any (λ x. x == n) xs ≡ false
none_above [] n small = refl
none_above (x ∷ xs) n small =
    let first : x < n = small 0 0 (omega arith) in
    let others : list_any (λ y. y == n) xs ≡ false = none_above xs n (λ k d below. small (suc k) d (omega (arith, below))) in
    grind (arith, nat_tests, first, others)
