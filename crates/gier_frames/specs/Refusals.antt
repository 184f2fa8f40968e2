-- What refuses each call, in the order of the order table. An odd call has no meaning; an alarm ends the run.
use Rattle.std.specs.Prelude.{◌+◌, ◌*◌, ◌/◌, ◌&&◌, ◌||◌, ℕ, Bool, not, nat_lt, nat_le, if◌then◌else◌, List, length, slice_index}
use Rattle.std.specs.Prelude.{Option, None, Some}
use Rattle.gier_word.specs.declared.alarm.Alarm.TheVariants.{Stack, Bounds}
use Rattle.gier_frames.specs.declared.halt.Halt.{Halt}
use Rattle.gier_frames.specs.declared.halt.Halt.TheVariants.{Alarm, Odd}
use Rattle.gier_frames.specs.State.{State}
use Rattle.gier_frames.specs.Numbers.{are_ordered, elements}

-- there is an activation, and a place is one of the stack's
abbrev pub is_place : State → ℕ → Bool
is_place s place = s.entered && nat_lt place (length s.words)

abbrev pub odd_unless : Bool → Option Halt
odd_unless holds = if holds then None else Some Odd

-- odd where a condition doesn't hold, and else the alarm `stack` where so many words are too many
abbrev pub room_refusal : Bool → ℕ → ℕ → Option Halt
room_refusal holds end size = if holds then (if nat_le end size then None else Some (Alarm Stack)) else Some Odd

-- there is none yet, and its room holds the header
abbrev pub start_refusal : State → ℕ → Option Halt
start_refusal s room = room_refusal (not s.entered && nat_le 3 room) room (length s.words)

-- there is one, and the room holds the header
abbrev pub block_refusal : State → ℕ → Option Halt
block_refusal s room = room_refusal (s.entered && nat_le 3 room) (s.top + room) (length s.words)

-- there is one, and the base before it is a place
abbrev pub leave_refusal : State → Option Halt
leave_refusal s = odd_unless (is_place s (slice_index s.words s.base))

abbrev pub place_refusal : State → ℕ → Option Halt
place_refusal s place = odd_unless (is_place s place)

abbrev pub base_refusal : State → Option Halt
base_refusal s = odd_unless s.entered

-- the dimensions are 1 to 30, and the descriptor, the bounds and the third header word are in the stack
abbrev pub is_array : ℕ → ℕ → ℕ → ℕ → ℕ → Bool
is_array size d place from base = nat_le 1 d && (nat_le d 30 && (nat_le (place + 2 + 2 * d) size && (nat_le (from + 2 * d) size
    && nat_lt (base + 2) size)))

-- the alarm `bounds` where an upper bound lies below its lower one, and else `stack` where the elements are too many
abbrev pub elements_refusal : List ℕ → ℕ → ℕ → ℕ → Option Halt
elements_refusal words from d top =
    if are_ordered words from d then (if nat_le (top + elements words from d) (length words) then None
    else Some (Alarm Stack)) else Some (Alarm Bounds)

abbrev pub array_refusal : State → ℕ → ℕ → ℕ → Option Halt
array_refusal s d place from =
    if s.entered && is_array (length s.words) d (s.base + place) (s.base + from) s.base
    then elements_refusal s.words (s.base + from) d s.top else Some Odd

-- what is passed is no more than a procedure takes, the room holds it with the header, the enclosing base is a place,
-- and the words of the actuals are in the stack
abbrev pub is_call : ℕ → ℕ → ℕ → ℕ → ℕ → Bool
is_call size room outer from count =
    nat_le count 511 && (nat_le (5 + count) room && (nat_lt outer size && (nat_lt count 2 || nat_le (from + count / 2 * 2) size)))

abbrev pub call_refusal : State → ℕ → ℕ → ℕ → ℕ → Option Halt
call_refusal s room outer from count =
    room_refusal (s.entered && is_call (length s.words) room outer (s.base + from) count) (s.top + room) (length s.words)

-- the base before it and the word with the order to return to are places, and that order's address has 32 bits
abbrev pub back_refusal : State → Option Halt
back_refusal s =
    odd_unless (is_place s (s.base + 3) && (nat_lt (slice_index s.words s.base) (length s.words)
    && nat_lt (slice_index s.words (s.base + 3)) 4294967296))

-- there is an activation, and the third header word at the base is in the stack and no more than its size
abbrev pub go_refusal : State → ℕ → Option Halt
go_refusal s base = odd_unless (is_place s (base + 2) && nat_le (slice_index s.words (base + 2)) (length s.words))
