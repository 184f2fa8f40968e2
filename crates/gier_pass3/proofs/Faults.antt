-- A fault of structure stands where no program goes on, and where there is none a program can be built.
use Rattle.std.proofs.Common.{◌≡◌, ◌∙◌, ℕ, List, [], ◌∷◌, ◌++◌, refl, sym, ap}
use Rattle.std.specs.Prelude.{Option, None, Some}
use Rattle.std.proofs.lemmas.Option.{none-some}
use Rattle.gier_symbol.specs.declared.symbol.Symbol.{Symbol}
use Rattle.gier_tree.specs.Trees.{Program}
use Rattle.gier_tree.specs.Signs.{STextEnd, sign_of}
use Rattle.gier_tree.specs.Wanted.{Item, WantProgram}
use Rattle.gier_tree.specs.Structure.{IsPrefix, IsStructureFault, step, structure_fault, program_spelled}
use Rattle.gier_pass3.proofs.Runs.{run, then_run, run_append, none_by, some_by, refusal, refused_at, program_of, run_program, begun}
use Rattle.gier_pass3.proofs.Completing.{completion_of, run_end}
use Rattle.gier_pass3.proofs.Spelled.{written_spelled}

-- what a program begins with leaves something wanted
prefix_run : (w : List Symbol) → IsPrefix w → (next : List Item) × (run w (WantProgram ∷ []) ≡ Some next)
prefix_run w p = begun w p.rest (WantProgram ∷ []) [] (ap (λ l. run l (WantProgram ∷ [])) (sym p.spelled) ∙ run_program p.program)

run_prefix : (w : List Symbol) (end : List Item) → run w (WantProgram ∷ []) ≡ Some end → IsPrefix w
run_prefix w end h =
    let c = completion_of w end h in
    record { program = c.program; rest = c.rest; spelled = written_spelled (w ++ c.rest) c.program c.written }

pub none_in : (w : List Symbol) → IsPrefix w → structure_fault w ≡ None
none_in w p = let next = prefix_run w p in none_by w (WantProgram ∷ []) next.0 next.1

pub completes : (w : List Symbol) → structure_fault w ≡ None → IsPrefix w
completes w h = let end = some_by w (WantProgram ∷ []) h in run_prefix w end.0 end.1

-- a symbol that is refused can't go on
one_more : (before : List Symbol) (s : Symbol) (end : List Item) → run before (WantProgram ∷ []) ≡ Some end → run (before ++ s ∷ []) (WantProgram ∷ []) ≡ then_run (step s end) (run [])
one_more before s end h = run_append before (s ∷ []) (WantProgram ∷ []) ∙ ap (λ o. then_run o (run (s ∷ []))) h

no_more : (before : List Symbol) (s : Symbol) (end : List Item) → run before (WantProgram ∷ []) ≡ Some end → step s end ≡ None → IsPrefix (before ++ s ∷ []) → ⊥
no_more before s end h none p =
    let next = prefix_run (before ++ s ∷ []) p in
    none-some next.0 (sym (ap (λ o. then_run o (run [])) none) ∙ sym (one_more before s end h) ∙ next.1)

pub fault_is : (w : List Symbol) (line : ℕ) → structure_fault w ≡ Some line → IsStructureFault w line
fault_is w line h =
    let r = refusal w (WantProgram ∷ []) line h in
    record {
      before = r.before;
      wrong = r.wrong;
      behind = r.behind;
      whole = r.whole;
      begins = run_prefix r.before r.end r.runs;
      refused = no_more r.before r.wrong r.end r.runs r.none;
      stands = r.stands;
    }

none_taken : (o : Option (List Item)) (before : List Symbol) (s : Symbol) (end : List Item) → step s end ≡ o → run before (WantProgram ∷ []) ≡ Some end → (IsPrefix (before ++ s ∷ []) → ⊥) → o ≡ None
none_taken None before s end e h refused = refl
none_taken (Some next) before s end e h refused = absurd (refused (run_prefix (before ++ s ∷ []) next (one_more before s end h ∙ ap (λ o. then_run o (run [])) e)))

pub fault_found : (w : List Symbol) (line : ℕ) → IsStructureFault w line → structure_fault w ≡ Some line
fault_found w line f =
    let end = prefix_run f.before f.begins in
    let none = none_taken (step f.wrong end.0) f.before f.wrong end.0 refl end.1 f.refused in
    ap structure_fault f.whole ∙ refused_at f.before f.behind f.wrong (WantProgram ∷ []) end.0 end.1 none ∙ ap Some (sym f.stands)

pub program_in : (before : List Symbol) (end : Symbol) → sign_of end ≡ STextEnd → structure_fault (before ++ end ∷ []) ≡ None → (t : Program) × (program_spelled (before ++ end ∷ []) ≡ Some t)
program_in before end e h =
    let last = some_by (before ++ end ∷ []) (WantProgram ∷ []) h in
    program_of (before ++ end ∷ []) (last.1 ∙ ap Some (run_end before end last.0 e last.1))
