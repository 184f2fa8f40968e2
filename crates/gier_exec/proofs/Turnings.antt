-- From the row of an order that neither prints nor takes data to what is said of every order, and from that on to the row
-- with the order's own word.
use Rattle.std.specs.Prelude.{◌≡◌, ◌≢◌, ◌-◌, ◌≤◌, ℕ, List, [], ◌∷◌, length, Option, None, Some, Result, Ok, Err}
use Rattle.std.proofs.Common.{arith, refl, ap, sym, subst, ◌∙◌}
use Rattle.std.proofs.lemmas.List.{append-nil}
use Rattle.gier_io.specs.Device.{Puts}
use Rattle.gier_order.specs.declared.operation.Operation.{Operation}
use Rattle.gier_order.specs.declared.operation.Operation.TheVariants.{Lib}
use Rattle.gier_order.specs.Flat.Row.{Regs, On, Row, behind_ref}
use Rattle.gier_order.specs.Flat.Rows.{effect}
use Rattle.gier_frames.specs.State.{State}
use Rattle.gier_exec.specs.declared.stop.Stop.TheVariants.{Ended, Alarm, Steps, Odd}
use Rattle.gier_exec.specs.declared.stop.Miss.{Miss}
use Rattle.gier_exec.specs.declared.stop.Miss.TheVariants.{Drum, Stop as Stopped}
use Rattle.gier_exec.specs.declared.stop.Quit.{Quit}
use Rattle.gier_exec.specs.declared.stop.Quit.TheVariants.{Miss as Missed, Read, Write}
use Rattle.gier_exec.specs.Registers.{Registers}
use Rattle.gier_exec.specs.Rows.{regs_of}
use Rattle.gier_exec.specs.References.{RefinesOrder, Begins}
use Rattle.gier_exec.specs.Turning.{printing_row, left_by, IsCut, RefinesExecution, RefinesTurn, turn_of_stop}
use Rattle.gier_exec.proofs.Inputs.{fed, effect_on}

pub puts_nothing : (holds : Option (List ℕ)) → Puts holds [] holds
puts_nothing None = refl
puts_nothing (Some held) = ap Some (sym (append-nil held))

-- the same order on other data
does_on : (input : List ℕ) (row other : Row) (refs : List ℕ) (regs : Regs) (result : Result ℕ Miss) → other ≡ fed input row → RefinesOrder row refs regs result → RefinesOrder other refs (record regs { input = input }) result
does_on input row other refs regs (Ok next) e h = e ∙ ap (fed input) h
does_on input row other refs regs (Err (Stopped Ended)) e h = e ∙ ap (fed input) h
does_on input row other refs regs (Err (Stopped (Alarm alarm))) e h = e ∙ ap (fed input) h
does_on input row other refs regs (Err (Stopped Steps)) e h = e ∙ ap (fed input) h
does_on input row other refs regs (Err (Stopped Odd)) e h = e ∙ ap (fed input) h
does_on input row other refs regs (Err Drum) e h = (h.0, ap (λ (r : Row). r.refs) e ∙ h.1)

-- what an order does with no data left it does with all others
pub does_always : (code : List ℕ) (size : ℕ) (m m1 : Registers) (s s1 : State) (operation : Operation) (l a : ℕ) (refs : List ℕ) (result : Result ℕ Miss) → operation ≢ Lib
    → RefinesOrder (effect code size (regs_of m s []) operation l a) refs (regs_of m1 s1 []) result → (input : List ℕ) → RefinesOrder (effect code size (regs_of m s input) operation l a) refs (regs_of m1 s1 input) result
does_always code size m m1 s s1 operation l a refs result other h input = does_on input _ _ refs (regs_of m1 s1 []) result (effect_on code size (regs_of m s []) input operation l a other) h

cut_begun : (row : Row) (before : Regs) (refs : List ℕ) → Begins refs row → IsCut row before refs [] []
cut_begun row before refs h = record { refs = h; printed = (row.printed, refl); input = omega arith }

pub obeys_miss : (row mid : Row) (before after : Regs) (refs : List ℕ) (miss : Miss) → row ≡ mid → RefinesOrder mid refs after (Err miss) → RefinesExecution row before after refs [] [] (Err (Missed miss))
obeys_miss row mid before after refs Drum e h = cut_begun row before refs (h.0, ap (λ (r : Row). r.refs) e ∙ h.1)
obeys_miss row mid before after refs (Stopped stop) e h = e ∙ h

-- nothing was read
pub cut_nothing : (row : Row) (before : Regs) → IsCut row before [] [] []
cut_nothing row before = record { refs = (row.refs, refl); printed = (row.printed, refl); input = omega arith }

-- its word is read before all that
cut_behind : (whole row : Row) (before : Regs) (place : ℕ) (read put taken : List ℕ) → whole ≡ behind_ref place row → IsCut row before read put taken → IsCut whole before (place ∷ read) put taken
cut_behind whole row before place read put taken e cut = record {
  refs = (cut.refs.0, ap (λ (r : Row). r.refs) e ∙ ap (λ xs. place ∷ xs) cut.refs.1);
  printed = (cut.printed.0, ap (λ (r : Row). r.printed) e ∙ cut.printed.1);
  input = subst (λ (r : Row). length taken ≤ length before.input - length (left_by before r.step)) (sym e) cut.input;
}

pub follows_on : (whole row : Row) (read put : List ℕ) (regs : Regs) (place next : ℕ) → whole ≡ behind_ref place row → row ≡ printing_row read put (On (record regs { place = next })) → whole ≡ printing_row (place ∷ read) put (On (record regs { place = next }))
follows_on whole row read put regs place next e h = e ∙ ap (λ r. behind_ref place r) h

pub follows_quit : (whole row : Row) (before after : Regs) (read put taken : List ℕ) (place word : ℕ) (quit : Quit) → whole ≡ behind_ref place row → RefinesExecution row before after read put taken (Err quit)
    → RefinesTurn whole before after (place ∷ read) put taken place word (turn_of_stop quit place word)
follows_quit whole row before after read put taken place word (Missed Drum) e h = cut_behind whole row before place read put taken e h
follows_quit whole row before after read put taken place word (Missed (Stopped Ended)) e h = e ∙ ap (λ r. behind_ref place r) h
follows_quit whole row before after read put taken place word (Missed (Stopped (Alarm alarm))) e h = e ∙ ap (λ r. behind_ref place r) h
follows_quit whole row before after read put taken place word (Missed (Stopped Steps)) e h = e ∙ ap (λ r. behind_ref place r) h
follows_quit whole row before after read put taken place word (Missed (Stopped Odd)) e h = (e ∙ ap (λ r. behind_ref place r) h, refl)
follows_quit whole row before after read put taken place word Read e h = cut_behind whole row before place read put taken e h
follows_quit whole row before after read put taken place word Write e h = cut_behind whole row before place read put taken e h
