-- Powers with a large exponent: those of 0 and 1 stay small, and all others pass every 64-bit number.
use Rattle.std.proofs.Common.{◌≡◌, ℕ, zero, suc, ◌+◌, ◌*◌, ◌^◌, ◌<◌, ◌≤◌, arith}
use Rattle.std.proofs.Math.Nat.{pow-le-pow_left, pow-le-pow_right}
use Rattle.std.proofs.Common.{refl}

pub zero_power : (n : ℕ) → 0 < n → 0 ^ n ≡ 0
zero_power zero lt = absurd (omega arith)
zero_power (suc n) lt = omega arith

pub one_power : (n : ℕ) → 1 ^ n ≡ 1
one_power zero = refl
one_power (suc n) = omega (arith, one_power n)

pub large_power : (a n : ℕ) → 2 ≤ a → 64 ≤ n → 2 ^ 64 ≤ a ^ n
large_power a n two many =
    let left : 2 ^ n ≤ a ^ n = pow-le-pow_left two n in
    let right : 2 ^ 64 ≤ 2 ^ n = pow-le-pow_right (omega arith) many in
    omega arith
