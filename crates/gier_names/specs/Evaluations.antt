-- What begins and ends an evaluation: what refuses it, and what it makes of the frames.
use Rattle.std.specs.Prelude.{◌+◌, ◌-◌, ◌==◌, ◌&&◌, ℕ, ℤ, pos, negsuc, Bool, nat_le, if◌then◌else◌, slice_index, Option, None, Some}
use Rattle.gier_word.specs.declared.alarm.Alarm.TheVariants.{Assignment}
use Rattle.gier_order.specs.declared.order.Order.{Order}
use Rattle.gier_frames.specs.declared.halt.Halt.{Halt}
use Rattle.gier_frames.specs.declared.halt.Halt.TheVariants.{Alarm, Odd}
use Rattle.gier_frames.specs.State.{State}
use Rattle.gier_frames.specs.Refusals.{call_refusal, place_refusal, back_refusal}
use Rattle.gier_frames.specs.Effects.{after_call}
use Rattle.gier_names.specs.declared.wanted.Wanted.{Wanted}
use Rattle.gier_names.specs.declared.wanted.Wanted.TheVariants.{Value, Address, Label}

-- the number that stands for what is wanted in an evaluation's words
abbrev pub number_of : Wanted → ℕ
number_of Value = 1
number_of Address = 2
number_of Label = 3

abbrev pub wanted_at : ℕ → Option Wanted
wanted_at number = if number == 1 then Some Value
    else (if number == 2 then Some Address else (if number == 3 then Some Label else None))

-- THUNK, whose kind is 0 to 3
abbrev pub is_thunk : Order → Bool
is_thunk order = (order.op == 39) && nat_le order.level 3

-- an expression has no place
abbrev pub is_unassignable : Order → Wanted → Bool
is_unassignable thunk wanted = (thunk.level == 0) && (number_of wanted == 2)

-- what keeps an evaluation from being entered
abbrev pub entry_refusal : State → Order → ℕ → Option Halt
entry_refusal s thunk outer = if is_thunk thunk then call_refusal s thunk.address outer 0 0 else Some Odd

-- the alarm `assignment` comes behind all others
abbrev pub or_assignment : Option Halt → Order → Wanted → Option Halt
or_assignment None thunk wanted = if is_unassignable thunk wanted then Some (Alarm Assignment) else None
or_assignment (Some halt) thunk wanted = Some halt

abbrev pub begin_refusal : State → Order → ℕ → Wanted → Option Halt
begin_refusal s thunk outer wanted = or_assignment (entry_refusal s thunk outer) thunk wanted

-- the evaluation is entered where nothing keeps it from that
abbrev pub entered_unless : Option Halt → State → State → State
entered_unless None old new = new
entered_unless (Some halt) old new = old

abbrev pub begun : State → Order → ℕ → Wanted → ℕ → State
begun s thunk outer wanted back = entered_unless (entry_refusal s thunk outer) s
    (after_call s 0 thunk.address outer back (number_of wanted) 0 0)

-- what the current evaluation is wanted for
abbrev pub wanted_now : State → Option Wanted
wanted_now s = wanted_at (slice_index s.words (s.base + 4))

-- where a value is wanted, the variable's place is one of the stack's
abbrev pub refusal_for : Option Wanted → State → ℕ → Option Halt
refusal_for None s r = Some Odd
refusal_for (Some Value) s r = place_refusal s r
refusal_for (Some Address) s r = None
refusal_for (Some Label) s r = Some Odd

abbrev pub first_of : Option Halt → Option Halt → Option Halt
first_of None next = next
first_of (Some halt) next = Some halt

abbrev pub value_refusal : State → ℕ → Option Halt
value_refusal s r = first_of (place_refusal s (s.base + 4)) (refusal_for (wanted_now s) s r)

abbrev pub give_refusal : State → ℕ → Option Halt
give_refusal s r = first_of (value_refusal s r) (back_refusal s)

-- the variable's value or its place
abbrev pub given_for : Option Wanted → State → ℕ → ℕ
given_for None s r = r
given_for (Some Value) s r = slice_index s.words r
given_for (Some Address) s r = r
given_for (Some Label) s r = r

abbrev pub given : State → ℕ → ℕ
given s r = given_for (wanted_now s) s r

-- the subscript 1 to count, counted from 0
abbrev pub picked : ℤ → ℕ → Option ℕ
picked (pos n) count = if nat_le 1 n && nat_le n count then Some (n - 1) else None
picked (negsuc n) count = None
