-- The registers of a flat run, as the machine, its frames and its data have them, and the words of an object on the drum.
use Rattle.std.specs.Prelude.{◌+◌, ◌/◌, ◌%◌, ◌++◌, ℕ, zero, suc, List, [], ◌∷◌, slice_index}
use Rattle.gier_frames.specs.State.{State}
use Rattle.gier_order.specs.declared.object.Object.{Object}
use Rattle.gier_order.specs.Flat.Row.{Regs, Step, Row}
use Rattle.gier_exec.specs.Registers.{Registers}

-- these data are left
abbrev pub regs_of : Registers → State → List ℕ → Regs
regs_of m s input = record {
  place = m.place;
  r = m.r;
  q = m.q;
  base = s.base;
  top = s.top;
  depth = m.depth;
  started = s.entered;
  left = m.steps;
  greatest = s.greatest;
  words = slice_index s.words;
  marks = slice_index s.marks;
  input = input;
}

-- how many words a track has
abbrev pub track_words : ℕ
track_words = 40

abbrev pub track_of : Object → ℕ → ℕ
track_of object a = object.first_track + a / track_words

abbrev pub track_at : List (List ℕ) → ℕ → List ℕ
track_at [] t = []
track_at (words ∷ tracks) zero = words
track_at (words ∷ tracks) (suc t) = track_at tracks t

-- the word at an address of the object, where a drum has these tracks
abbrev pub word_in : List (List ℕ) → Object → ℕ → ℕ
word_in tracks object a = slice_index (track_at tracks (track_of object a)) (a % track_words)

abbrev pub first_of : (ℕ → ℕ) → ℕ → List ℕ
first_of f zero = []
first_of f (suc n) = first_of f n ++ f n ∷ []

-- all of them
abbrev pub code_in : List (List ℕ) → Object → List ℕ
code_in tracks object = first_of (word_in tracks object) object.words

-- these words were read, and then all this
abbrev pub behind : List ℕ → Row → Row
behind refs row = record row { refs = refs ++ row.refs }

-- a row that read these words and printed nothing
abbrev pub reading_row : List ℕ → Step → Row
reading_row refs step = record { refs = refs; printed = []; step = step }
