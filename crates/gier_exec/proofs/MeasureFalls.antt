-- When the measure falls: by an address ahead, where the weight doesn't rise, and by less weight, wherever the run goes on.
use Rattle.std.specs.Prelude.{◌≡◌, ◌+◌, ◌-◌, ◌*◌, ◌<◌, ◌≤◌, ℕ, suc}
use Rattle.std.proofs.Common.{arith}
use Rattle.std.proofs.Math.Nat.{mul-le-mul_right}
use Rattle.gier_exec.specs.Registers.{Registers, weight, Progresses}

-- less or the same weight, and an address ahead
ahead : (a b words place next : ℕ) → a ≤ b → place < next → next < words → a * (words + 1) + (words - next) < b * (words + 1) + (words - place)
ahead a b words place next less nearer within =
    let scaled : a * (words + 1) ≤ b * (words + 1) = mul-le-mul_right (words + 1) less in
    omega (arith, scaled, nearer, within)

-- less weight
paid : (a b words place next : ℕ) → a < b → a * (words + 1) + (words - next) < b * (words + 1) + (words - place)
paid a b words place next less =
    let scaled : suc a * (words + 1) ≤ b * (words + 1) = mul-le-mul_right (words + 1) less in
    let apart : suc a * (words + 1) ≡ (words + 1) + a * (words + 1) = grind arith in
    omega (arith, scaled, apart)

pub lighter_falls : (words next : ℕ) (old new : Registers) → weight new ≤ weight old → old.place < next → next < words → Progresses words old next new
lighter_falls words next old new less nearer within = record {
  within = within;
  falls = ahead (weight new) (weight old) words old.place next less nearer within;
}

pub ahead_falls : (words next : ℕ) (m : Registers) → m.place < next → next < words → Progresses words m next m
ahead_falls words next m nearer within = lighter_falls words next m m (omega arith) nearer within

pub paid_falls : (words next : ℕ) (old new : Registers) → weight new < weight old → next < words → Progresses words old next new
paid_falls words next old new less within = record { within = within; falls = paid (weight new) (weight old) words old.place next less }
