-- What is found of a procedure by the words of the object, and how it is entered.
use Rattle.std.specs.Prelude.{◌≡◌, ◌+◌, ◌<◌, ◌≤◌, ℕ, List, Option, None, Some, Result, Ok, Err}
use Rattle.gier_order.specs.Flat.Row.{Regs, Row}
use Rattle.gier_order.specs.Flat.Rows.{enters}
use Rattle.gier_order.specs.Flat.Kinds.{Handed, Bare, Kinded, Neither}
use Rattle.gier_exec.specs.declared.activations.Entry.{Entry}
use Rattle.gier_exec.specs.declared.stop.Stop.{Stop}
use Rattle.gier_exec.specs.declared.stop.Stop.TheVariants.{Odd}

-- entering a procedure that was found, with the actuals from a place on that is counted from the current base
abbrev pub entry_row : (code : List ℕ) (size : ℕ) (m : Regs) → Entry → Row
entry_row code size m entry = enters code size m entry.level entry.room entry.outer (m.base + entry.from) entry.count entry.next

-- a procedure of which only the words at its address were read
pub record IsHead (entry : Entry) (address : ℕ) : Type 0 where
  pub outer : entry.outer ≡ 0
  pub from : entry.from ≡ 0
  pub next : entry.next ≡ address + 2

-- a procedure takes no more than it can tell, and has no actuals where it has no formals
pub record IsCallable (entry : Entry) : Type 0 where
  pub count : entry.count ≤ 511
  pub from : entry.count < 2 → entry.from ≡ 0

-- the number of formals of what is handed over, none for a PROC
abbrev pub formals_in : Handed → Result (Option ℕ) Stop
formals_in Bare = Ok None
formals_in (Kinded n) = Ok (Some n)
formals_in Neither = Err Odd
