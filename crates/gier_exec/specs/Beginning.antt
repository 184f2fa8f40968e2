-- What comes of an evaluation that was found, as a row.
use Rattle.std.specs.Prelude.{ℕ, List, Option, None, Some}
use Rattle.gier_names.specs.Evaluations.{number_of}
use Rattle.gier_order.specs.Flat.Row.{Regs, Row, needs}
use Rattle.gier_order.specs.Flat.Rows.{on, called, takes_room, can_enter, begins}
use Rattle.gier_exec.specs.declared.activations.Evaluation.{Evaluation}

-- entering it
abbrev pub evaluation_row : (code : List ℕ) (size : ℕ) (m : Regs) → Evaluation → Row
evaluation_row code size m found =
    needs (can_enter code size m found.thunk.address found.outer m.base 0) (takes_room code size m found.thunk.address
    (λ left greatest end.
    begins code size m found.thunk.level (number_of found.wanted) found.next
    (called code size m 0 found.thunk.address found.outer (number_of found.wanted) m.base 0 left greatest end)))

-- entering a switch's element, where there is one; else R and Q become 0
abbrev pub choice_row : (code : List ℕ) (size : ℕ) (m : Regs) → Option Evaluation → Row
choice_row code size m None = on code size m (record m { r = 0; q = 0 })
choice_row code size m (Some found) = evaluation_row code size m found
