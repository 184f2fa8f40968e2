-- What a row of the order table comes to: the registers, what an order may end a run with, and the few words in which
-- the rows are written.
use Rattle.std.specs.Prelude.{◌+◌, ◌++◌, ℕ, zero, suc, Bool, true, false, max, nat_le, List, [], ◌∷◌, Option, None, Some, slice_get}
use Rattle.gier_word.specs.declared.alarm.Alarm.{Alarm}

-- The place of the next order, R, Q, the base of the current activation (C), the first free place of the stack (T), the
-- activations entered and not left by a return (D), whether there is an activation, the steps left, the greatest T, the
-- words of the stack, for each place 1 where the activation that was entered last of all that begin there is one of a
-- procedure or an evaluation, and the data left.
pub record Regs : Type 0 where
  pub place : ℕ
  pub r : ℕ
  pub q : ℕ
  pub base : ℕ
  pub top : ℕ
  pub depth : ℕ
  pub started : Bool
  pub left : ℕ
  pub greatest : ℕ
  pub words : ℕ → ℕ
  pub marks : ℕ → ℕ
  pub input : List ℕ

-- how a run ends; it is spoilt by the order at a place, with its word
pub data Ending : Type 0 where
  Ended : Ending
  Alarmed : Alarm → Ending
  NoSteps : Ending
  Spoilt : (place word : ℕ) → Ending

-- an order lets the run go on, ends it, or spoils it and then changes nothing
pub data Step : Type 0 where
  On : Regs → Step
  Ends : Ending → Regs → Step
  Odd : Step

-- the addresses of all words of the object that the order reads, the bytes that it prints, both in order, and its step
pub record Row : Type 0 where
  pub refs : List ℕ
  pub printed : List ℕ
  pub step : Step

abbrev pub plain : Step → Row
plain step = record { refs = []; printed = []; step = step }

abbrev pub odd : Row
odd = plain Odd

-- spoilt unless this holds
abbrev pub needs : Bool → Row → Row
needs true row = row
needs false row = odd

-- a word is read before all this
abbrev pub behind_ref : ℕ → Row → Row
behind_ref a row = record row { refs = a ∷ row.refs }

-- some bytes are printed before all this
abbrev pub behind_bytes : List ℕ → Row → Row
behind_bytes bytes row = record row { printed = bytes ++ row.printed }

abbrev pub on_word : ℕ → (ℕ → Row) → Option ℕ → Row
on_word a go None = odd
on_word a go (Some word) = behind_ref a (go word)

-- the word at an address of the object, which has to be one
abbrev pub reads : List ℕ → ℕ → (ℕ → Row) → Row
reads code a go = on_word a go (slice_get code a)

-- what taking a step and then room for an activation comes to
pub data Entry : Type 0 where
  NoStep : Entry
  NoRoom : (left : ℕ) → Entry
  Enters : (left greatest end : ℕ) → Entry

abbrev pub entry : (size left greatest top room : ℕ) → Entry
entry size zero greatest top room = NoStep
entry size (suc left) greatest top room =
    elim (nat_le (top + room) size) as (λ _. Entry) [
      | true ↦ Enters left (max greatest (top + room)) (top + room)
      | false ↦ NoRoom left
    ]
