-- TURN, as a row.
use Rattle.std.specs.Prelude.{◌≡◌, ◌-◌, ◌<◌, ℕ, zero, suc, Bool, true, false, nat_lt, List, length, Ok, Err, if◌then◌else◌}
use Rattle.std.proofs.Common.{arith, refl, ap}
use Rattle.gier_order.specs.Flat.Row.{Regs, NoSteps, On, Ends, Row, plain, needs}
use Rattle.gier_order.specs.Flat.Rows.{pays}
use Rattle.gier_exec.specs.declared.stop.Stop.{Stop}
use Rattle.gier_exec.specs.declared.stop.Stop.TheVariants.{Odd}
use Rattle.gier_exec.specs.Following.{RefinesStop}

-- what TURN does when w was read
abbrev pub turns : (code : List ℕ) (size : ℕ) (m : Regs) → ℕ → Row
turns code size m w = needs (nat_lt w (length code)) (pays code size m m.left w m)

found_is : (word words : ℕ) (a : ℕ) → Ok a ≡ (if nat_lt word words then Ok word else Err Odd) → (nat_lt word words ≡ true) × (a ≡ word)
found_is word words a e = by (nat_lt word words) e
  where
    by : (b : Bool) → Ok a ≡ (if b then Ok word else Err Odd) → (b ≡ true) × (a ≡ word)
    by true e = (refl, cc)
    by false e = absurd cc

lost_is : (word words : ℕ) (stop : Stop) → Err stop ≡ (if nat_lt word words then Ok word else Err Odd) → (nat_lt word words ≡ false) × (stop ≡ Odd)
lost_is word words stop e = by (nat_lt word words) e
  where
    by : (b : Bool) → Err stop ≡ (if b then Ok word else Err Odd) → (b ≡ false) × (stop ≡ Odd)
    by true e = absurd cc
    by false e = (refl, cc)

pub turn_lost : (code : List ℕ) (size : ℕ) (m : Regs) (w words : ℕ) (stop : Stop) → length code ≡ words → Err stop ≡ (if nat_lt w words then Ok w else Err Odd) → RefinesStop (turns code size m w) m stop
turn_lost code size m w words stop same e = let lost = lost_is w words stop e in rw same (rw lost.0 (rw lost.1 refl))

pays_none : (code : List ℕ) (size : ℕ) (m m1 : Regs) (left a : ℕ) → left ≡ 0 → pays code size m left a m1 ≡ plain (Ends NoSteps m)
pays_none code size m m1 zero a e = refl
pays_none code size m m1 (suc left) a e = absurd (omega (arith, e))

pays_some : (code : List ℕ) (size : ℕ) (m m1 : Regs) (left a : ℕ) → 0 < left → pays code size m left a m1 ≡ plain (On (record m1 { left = left - 1; place = a }))
pays_some code size m m1 zero a e = absurd (omega (arith, e))
pays_some code size m m1 (suc left) a e = let less : left ≡ suc left - 1 = omega arith in ap (λ n. plain (On (record m1 { left = n; place = a }))) less

pub turn_no_step : (code : List ℕ) (size : ℕ) (m : Regs) (w words a : ℕ) → length code ≡ words → Ok a ≡ (if nat_lt w words then Ok w else Err Odd) → m.left ≡ 0 → turns code size m w ≡ plain (Ends NoSteps m)
turn_no_step code size m w words a same e none = let found = found_is w words a e in rw same (rw found.0 (pays_none code size m m m.left w none))

pub turn_goes : (code : List ℕ) (size : ℕ) (m : Regs) (w words a : ℕ) → length code ≡ words → Ok a ≡ (if nat_lt w words then Ok w else Err Odd) → 0 < m.left → turns code size m w ≡ plain (On (record m { left = m.left - 1; place = a }))
turn_goes code size m w words a same e some =
    let found = found_is w words a e in
    rw same (rw found.0 (rw found.1 (pays_some code size m m m.left w some)))
