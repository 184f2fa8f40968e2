-- A run of an object from its start: rows one after the other until one ends it. What it comes to is a report.
use Rattle.std.specs.Prelude.{◌+◌, ◌-◌, ◌*◌, ◌++◌, ℕ, zero, suc, false, List, [], length, slice_index}
use Rattle.gier_order.specs.Flat.Row.{Regs, Ending, Spoilt, Step, On, Ends, Odd, Row}
use Rattle.gier_order.specs.Flat.Rows.{row}
use Rattle.gier_order.specs.Flat.Live.{Live, live_in}

-- one move of a machine: it goes on, or that was the last one
pub data Move (M F : Type 0) : Type 0 where
  More : M → Move M F
  Last : F → Move M F

-- what so many moves come to
pub data Outcome (F : Type 0) : Type 0 where
  Over : F → Outcome F
  Unfinished : Outcome F

module _ {M F : Type 0} (one : M → Move M F) where
  abbrev pub then_on : Move M F → (M → Outcome F) → Outcome F
  then_on (More m) go = go m
  then_on (Last x) go = Over x

  -- at most n moves
  abbrev pub exec : ℕ → M → Outcome F
  exec zero m = Unfinished
  exec (suc n) m = then_on (one m) (exec n)

-- the registers, the addresses read so far and the bytes printed so far, both in order
pub record State : Type 0 where
  pub regs : Regs
  pub refs : List ℕ
  pub printed : List ℕ

pub record Final : Type 0 where
  pub ending : Ending
  pub state : State

abbrev pub with_row : State → Row → Regs → State
with_row s row m = record { regs = m; refs = s.refs ++ row.refs; printed = s.printed ++ row.printed }

-- An order that is spoilt changes nothing, and what it read stays read.
abbrev pub next_state : List ℕ → State → Row → Step → Move State Final
next_state code s row (On m) = More (with_row s row m)
next_state code s row (Ends ending m) = Last (record { ending = ending; state = with_row s row m })
next_state code s row Odd =
    Last (record { ending = Spoilt s.regs.place (slice_index code s.regs.place); state = with_row s row s.regs })

-- one order of an object, over a stack with so many words
abbrev pub one : List ℕ → ℕ → State → Move State Final
one code size s = next_state code s (row code size s.regs) (row code size s.regs).step

-- Every entry but START costs a step, every return lowers the depth, and all other orders go forward but TURN and GO,
-- which cost a step. So an order lowers the first of these numbers, or it lowers the second one and doesn't raise the first.
abbrev pub great : State → ℕ
great s = 2 * s.regs.left + s.regs.depth

abbrev pub small : List ℕ → State → ℕ
small code s = length code - s.regs.place

abbrev pub rounds : ℕ → ℕ → ℕ
rounds len zero = 0
rounds len (suc g) = suc len + rounds len g

-- more moves than these are never needed
abbrev pub enough : List ℕ → State → ℕ
enough code s = suc (rounds (length code) (suc (great s)))

-- all registers and words begin as 0
abbrev pub machine_at_start : (start : ℕ) → List ℕ → (steps : ℕ) → State
machine_at_start start input steps = record {
  regs = record {
    place = start;
    r = 0;
    q = 0;
    base = 0;
    top = 0;
    depth = 0;
    started = false;
    left = steps;
    greatest = 0;
    words = λ _. 0;
    marks = λ _. 0;
    input = input;
  };
  refs = [];
  printed = [];
}

-- the printed bytes, the ending, the steps charged, the greatest live words, the data left, the place of the order that
-- ended the run with the live activations, and the addresses of all words that were read, in the order read
pub record Report : Type 0 where
  pub printed : List ℕ
  pub ending : Ending
  pub steps : ℕ
  pub words : ℕ
  pub left : List ℕ
  pub place : ℕ
  pub live : List Live
  pub refs : List ℕ

abbrev pub report_of : ℕ → Final → Report
report_of steps final = record {
  printed = final.state.printed;
  ending = final.ending;
  steps = steps - final.state.regs.left;
  words = final.state.regs.greatest;
  left = final.state.regs.input;
  place = final.state.regs.place;
  live = live_in final.state.regs;
  refs = final.state.refs;
}

-- a run that isn't over, which can't be after enough moves, counts as spoilt where it began
abbrev pub final_of : State → Outcome Final → Final
final_of s (Over final) = final
final_of s Unfinished = record { ending = Spoilt s.regs.place 0; state = s }

-- the flat run of an object from a start, with these data, so many steps and so many stack words
abbrev pub flat : List ℕ → (start : ℕ) → List ℕ → (steps size : ℕ) → Report
flat code start input steps size =
    report_of steps
    (final_of (machine_at_start start input steps) (exec (one code size) (enough code (machine_at_start start input steps))
    (machine_at_start start input steps)))
