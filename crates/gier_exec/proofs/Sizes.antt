-- No call of the frames changes how many words there are.
use Rattle.std.specs.Prelude.{◌≡◌, ◌+◌, ◌*◌, ◌/◌, ◌%◌, ℕ, zero, suc, List, length, slice_index, slice_set, Option, None, Some, Bool, true, false, if◌then◌else◌}
use Rattle.std.proofs.Common.{refl, ◌∙◌}
use Rattle.std.proofs.lemmas.List.{length-set}
use Rattle.gier_frames.specs.declared.halt.Halt.{Halt}
use Rattle.gier_frames.specs.declared.halt.Halt.TheVariants.{Alarm, Odd}
use Rattle.gier_word.specs.declared.alarm.Alarm.TheVariants.{Assignment}
use Rattle.gier_frames.specs.State.{State}
use Rattle.gier_frames.specs.Numbers.{elements}
use Rattle.gier_frames.specs.Writes.{with_zeros, words_from, with_values, with_two, with_header}
use Rattle.gier_frames.specs.Effects.{entered_one, after_start, entered_block, array_words, with_array, call_words, after_call}
use Rattle.gier_order.specs.declared.order.Order.{Order}
use Rattle.gier_names.specs.declared.wanted.Wanted.{Wanted}
use Rattle.gier_names.specs.Evaluations.{begun, entered_unless, entry_refusal, number_of, or_assignment, begin_refusal, is_unassignable}

length-with_zeros : (words : List ℕ) (at n : ℕ) → length (with_zeros words at n) ≡ length words
length-with_zeros words at zero = refl
length-with_zeros words at (suc n) = length-set (with_zeros words at n) (at + n) 0 ∙ length-with_zeros words at n

length-with_values : (words : List ℕ) (at : ℕ) (values : List ℕ) (n : ℕ) → length (with_values words at values n) ≡ length words
length-with_values words at values zero = refl
length-with_values words at values (suc n) = length-set (with_values words at values n) (at + n) (slice_index values n) ∙ length-with_values words at values n

length-two : (words : List ℕ) (at first second : ℕ) → length (with_two words at first second) ≡ length words
length-two words at first second = length-set (slice_set words at first) (at + 1) second ∙ length-set words at first

length-header : (words : List ℕ) (at old head end : ℕ) → length (with_header words at old head end) ≡ length words
length-header words at old head end = length-set (with_two words at old head) (at + 2) end ∙ length-two words at old head

length-entered : (s : State) (level room outer mark : ℕ) → length (entered_one s level room outer mark).words ≡ length s.words
length-entered s level room outer mark =
    length-header (with_zeros s.words s.top room) s.top s.base (level * 16777216 + outer) (s.top + room) ∙ length-with_zeros s.words s.top room

pub length_started : (s : State) (level room : ℕ) → length (after_start s level room).words ≡ length s.words
length_started s level room = length-entered (record s { base = 0; top = 0 }) level room 0 0

pub length_block : (s : State) (level room : ℕ) → length (entered_block s level room).words ≡ length s.words
length_block s level room = length-entered s level room s.base 0

length-array_words : (words : List ℕ) (d place from base top count : ℕ) → length (array_words words d place from base top count) ≡ length words
length-array_words words d place from base top count =
    length-set (with_values (with_two (with_zeros words top count) place top d) (place + 2) (words_from words from (2 * d)) (2 * d)) (base + 2) (top + count)
    ∙ length-with_values (with_two (with_zeros words top count) place top d) (place + 2) (words_from words from (2 * d)) (2 * d)
    ∙ length-two (with_zeros words top count) place top d
    ∙ length-with_zeros words top count

pub length_array : (s : State) (d place from : ℕ) → length (with_array s d place from).words ≡ length s.words
length_array s d place from = length-array_words s.words d (s.base + place) (s.base + from) s.base s.top (elements s.words (s.base + from) d)

length-call_words : (words : List ℕ) (at room old head back wanted from count : ℕ) → length (call_words words at room old head back wanted from count) ≡ length words
length-call_words words at room old head back wanted from count =
    length-with_values (with_two (with_header (with_zeros words at room) at old head (at + room)) (at + 3) back wanted) (at + 5 + count % 2) (words_from words from (count / 2 * 2)) (count / 2 * 2)
    ∙ length-two (with_header (with_zeros words at room) at old head (at + room)) (at + 3) back wanted
    ∙ length-header (with_zeros words at room) at old head (at + room)
    ∙ length-with_zeros words at room

pub length_called : (s : State) (level room outer back wanted from count : ℕ) → length (after_call s level room outer back wanted from count).words ≡ length s.words
length_called s level room outer back wanted from count =
    length-call_words s.words s.top room s.base (level * 16777216 + outer) back wanted (s.base + from) count

length-unless : (refusal : Option Halt) (old new : State) → length new.words ≡ length old.words → length (entered_unless refusal old new).words ≡ length old.words
length-unless None old new same = same
length-unless (Some halt) old new same = refl

pub length_begun : (s : State) (thunk : Order) (outer : ℕ) (wanted : Wanted) (back : ℕ) → length (begun s thunk outer wanted back).words ≡ length s.words
length_begun s thunk outer wanted back =
    length-unless (entry_refusal s thunk outer) s (after_call s 0 thunk.address outer back (number_of wanted) 0 0) (length_called s 0 thunk.address outer back (number_of wanted) 0 0)

-- an evaluation that is odd isn't entered
unless_odd : (refusal : Option Halt) (thunk : Order) (wanted : Wanted) (old new : State) → or_assignment refusal thunk wanted ≡ Some Odd → entered_unless refusal old new ≡ old
unless_odd (Some halt) thunk wanted old new is = refl
unless_odd None thunk wanted old new is = absurd (no (is_unassignable thunk wanted) is)
  where
    no : (b : Bool) → (if b then Some (Alarm Assignment) else None) ≡ Some Odd → ⊥
    no true is = cc
    no false is = cc

pub begun_odd : (s : State) (thunk : Order) (outer : ℕ) (wanted : Wanted) (back : ℕ) → begin_refusal s thunk outer wanted ≡ Some Odd → begun s thunk outer wanted back ≡ s
begun_odd s thunk outer wanted back is =
    unless_odd (entry_refusal s thunk outer) thunk wanted s (after_call s 0 thunk.address outer back (number_of wanted) 0 0) is
