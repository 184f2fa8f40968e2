-- What each call makes of the frames, in the order of the order table.
use Rattle.std.specs.Prelude.{◌+◌, ◌*◌, ◌/◌, ◌%◌, ℕ, true, max, List, slice_index, slice_set}
use Rattle.gier_frames.specs.State.{State}
use Rattle.gier_frames.specs.Numbers.{elements}
use Rattle.gier_frames.specs.Writes.{with_zeros, words_from, with_values, with_two, with_header}

-- enters an activation: takes the room, makes its words 0, writes the header
abbrev pub entered_one : State → ℕ → ℕ → ℕ → ℕ → State
entered_one s level room outer mark = record {
  words = with_header (with_zeros s.words s.top room) s.top s.base (level * 16777216 + outer) (s.top + room);
  marks = slice_set s.marks s.top mark;
  base = s.top;
  top = s.top + room;
  greatest = max s.greatest (s.top + room);
  entered = true;
}

-- START: the first activation
abbrev pub after_start : State → ℕ → ℕ → State
after_start s level room = entered_one (record s { base = 0; top = 0 }) level room 0 0

-- BLOCK: enclosed by the current activation
abbrev pub entered_block : State → ℕ → ℕ → State
entered_block s level room = entered_one s level room s.base 0

-- LEAVE
abbrev pub left : State → State
left s = record s { base = slice_index s.words s.base; top = s.base }

-- a write of one word, as of KEEP and PUT
abbrev pub after_write : State → ℕ → ℕ → State
after_write s place word = record s { words = slice_set s.words place word }

-- the words with a descriptor, its elements at the top, and the word after the activation corrected
abbrev pub array_words : List ℕ → ℕ → ℕ → ℕ → ℕ → ℕ → ℕ → List ℕ
array_words words d place from base top count =
    slice_set (with_values (with_two (with_zeros words top count) place top d) (place + 2) (words_from words from (2 * d))
    (2 * d)) (base + 2) (top + count)

-- ARRAY
abbrev pub with_array : State → ℕ → ℕ → ℕ → State
with_array s d place from = record s {
  words = array_words s.words d (s.base + place) (s.base + from) s.base s.top (elements s.words (s.base + from) d);
  top = s.top + elements s.words (s.base + from) d;
  greatest = max s.greatest (s.top + elements s.words (s.base + from) d);
}

-- the words with an activation that returns: its header, the order to return to, what is wanted, and the actuals
abbrev pub call_words : List ℕ → ℕ → ℕ → ℕ → ℕ → ℕ → ℕ → ℕ → ℕ → List ℕ
call_words words at room old head back wanted from count =
    with_values (with_two (with_header (with_zeros words at room) at old head (at + room)) (at + 3) back wanted)
    (at + 5 + count % 2) (words_from words from (count / 2 * 2)) (count / 2 * 2)

-- CALL, and the entry of an evaluation
abbrev pub after_call : State → ℕ → ℕ → ℕ → ℕ → ℕ → ℕ → ℕ → State
after_call s level room outer back wanted from count =
    record (entered_one s level room outer 1) {
      words = call_words s.words s.top room s.base
          (level * 16777216 + outer) back wanted (s.base + from) count;
    }

-- RETURN and BACK leave as LEAVE does
abbrev pub went_back : State → State
went_back s = left s

-- GO
abbrev pub after_go : State → ℕ → State
after_go s base = record s {
  base = base;
  top = slice_index s.words (base + 2);
  greatest = max s.greatest (slice_index s.words (base + 2));
}
