-- What a refusal of the frames, or none, says of its conditions.
use Rattle.std.specs.Prelude.{◌≡◌, ◌<◌, ◌≤◌, ◌&&◌, ℕ, zero, suc, Bool, true, false, not, nat_lt, nat_le, None, Some, if◌then◌else◌}
use Rattle.std.proofs.Common.{arith, refl}
use Rattle.std.proofs.lemmas.Bool.Decides.{nat_tests}
use Rattle.gier_word.specs.declared.alarm.Alarm.{Alarm}
use Rattle.gier_word.specs.declared.alarm.Alarm.TheVariants.{Stack}
use Rattle.gier_frames.specs.declared.halt.Halt.{Halt}
use Rattle.gier_frames.specs.declared.halt.Halt.TheVariants.{Alarm as HaltAlarm, Odd as HaltOdd}
use Rattle.gier_frames.specs.Refusals.{room_refusal, odd_unless}

pub both_left : (a b : Bool) → (a && b) ≡ true → a ≡ true
both_left true b e = refl
both_left false b e = absurd cc

pub both_right : (a b : Bool) → (a && b) ≡ true → b ≡ true
both_right true b e = e
both_right false b e = absurd cc

pub not_left : (a b : Bool) → (a && b) ≡ false → a ≡ true → b ≡ false
not_left true b e h = e
not_left false b e h = absurd cc

pub unless_none : (b : Bool) → odd_unless b ≡ None → b ≡ true
unless_none true e = refl
unless_none false e = absurd cc

pub unless_odd : (b : Bool) (halt : Halt) → odd_unless b ≡ Some halt → (b ≡ false) × (halt ≡ HaltOdd)
unless_odd true halt e = absurd cc
unless_odd false halt e = (refl, cc)

room_by : (holds fits : Bool) → (if holds then (if fits then None else Some (HaltAlarm Stack)) else Some HaltOdd) ≡ None → (holds ≡ true) × (fits ≡ true)
room_by true true e = (refl, refl)
room_by true false e = absurd cc
room_by false fits e = absurd cc

pub room_free : (holds : Bool) (end size : ℕ) → room_refusal holds end size ≡ None → (holds ≡ true) × (end ≤ size)
room_free holds end size e = let both = room_by holds (nat_le end size) e in (both.0, let yes : nat_le end size ≡ true = both.1 in grind (arith, nat_tests, yes))

alarm_by : (holds fits : Bool) (alarm : Alarm) → (if holds then (if fits then None else Some (HaltAlarm Stack)) else Some HaltOdd) ≡ Some (HaltAlarm alarm) → (holds ≡ true) × ((fits ≡ false) × (alarm ≡ Stack))
alarm_by true true alarm e = absurd cc
alarm_by true false alarm e = (refl, (refl, cc))
alarm_by false fits alarm e = absurd cc

pub room_alarm : (holds : Bool) (end size : ℕ) (alarm : Alarm) → room_refusal holds end size ≡ Some (HaltAlarm alarm) → (holds ≡ true) × ((size < end) × (alarm ≡ Stack))
room_alarm holds end size alarm e = let all = alarm_by holds (nat_le end size) alarm e in (all.0, (let no : nat_le end size ≡ false = all.1.0 in grind (arith, nat_tests, no), all.1.1))

odd_by : (holds fits : Bool) → (if holds then (if fits then None else Some (HaltAlarm Stack)) else Some HaltOdd) ≡ Some HaltOdd → holds ≡ false
odd_by true true e = absurd cc
odd_by true false e = absurd cc
odd_by false fits e = refl

pub room_odd : (holds : Bool) (end size : ℕ) → room_refusal holds end size ≡ Some HaltOdd → holds ≡ false
room_odd holds end size e = odd_by holds (nat_le end size) e

pub le_of : (a b : ℕ) → nat_le a b ≡ true → a ≤ b
le_of a b e = grind (arith, nat_tests, e)

pub lt_of : (a b : ℕ) → nat_lt a b ≡ true → a < b
lt_of a b e = grind (arith, nat_tests, e)

pub some_of : (a b : ℕ) → a ≡ b → (a ≡ 0 → ⊥) → 0 < b
some_of a zero e never = absurd (never e)
some_of a (suc b) e never = omega arith

pub not_true : (b : Bool) → not b ≡ true → b ≡ false
not_true true e = absurd cc
not_true false e = refl
