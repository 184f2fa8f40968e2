-- A scope: a go to one of its labels goes on with the rest of its statements, again and again while steps are left.
use Rattle.std.proofs.Common.{◌≡◌, ℕ, ◌+◌, ◌≤◌, Bool, true, false, List, refl, sym, ap, ◌∙◌, subst, arith}
use Rattle.gier_tree.specs.Orders as code
use Rattle.gier_tree.specs.Orders.{Following}
use Rattle.gier_tree.specs.Places.{Places}
use Rattle.gier_tree.specs.Trees as tree
use Rattle.gier_tree.specs.Texts.{Where}
use Rattle.gier_tree.specs.Coded.{scopes_of}
use Rattle.gier_tree.specs.Need.{need_statement, need_statements}
use Rattle.gier_tree.specs.Text7.{code_statement, code_statements}
use Rattle.gier_meaning.specs.Plain.{statement, statements}
use Rattle.gier_meaning.specs.Tree as plain_tree
use Rattle.gier_meaning.specs.Live.{Live}
use Rattle.gier_meaning.specs.State.{State}
use Rattle.gier_meaning.specs.Outcome.{Outcome, Gives, Goes, Stops, Finished, either, is_among, caught}
use Rattle.gier_env.specs.Env.{Env}
use Rattle.gier_env.specs.Closures.{Closure}
use Rattle.gier_env.specs.Tasks.{Next}
use Rattle.gier_env.specs.Statements.{have, run, run_all, resume_all}
use Rattle.gier_env.specs.Meaning.{rest_run}
use Rattle.gier_flat.proofs.Positions.{At}
use Rattle.gier_flat.proofs.OrderRows.{Machine}
use Rattle.gier_flat.proofs.StackRelation.{Known, RunInvariant, StateAfter, RefinesOutcome, Behind, here_after}
use Rattle.gier_flat.proofs.Composition.{onwards, wants}
use Rattle.gier_flat.proofs.Assignments.{NothingShown}
use Rattle.gier_flat.specs.Fair.{FairStatement, FairStatements}
use Rattle.gier_flat.proofs.Setting.{Setting}
use Rattle.gier_flat.proofs.Statements.{statement_runs, statements_run}
use Rattle.gier_flat.proofs.NextRuns.{IsScope, Outside, AreWithin, NextRuns}
use Rattle.gier_flat.proofs.RestFromLabel.{resume_statements}

module _ (setting : Setting) where
  module _ (env : Env) (p : Places) (lives : Live) (next : Next) (steps : ℕ) (deeper : NextRuns setting steps next) (at : Where) (below : AreWithin p at.level) (own : List ℕ) (ss : tree.Statements) (f : FairStatements p at ss) (level : ℕ) where
    abbrev need : ℕ
    need = need_statements (scopes_of p) ss

    abbrev inside : ℕ → Bool
    inside e = have e env (statements ss)

    -- a part of the scope: a go to one of its labels goes on with the rest, and again
    pub catches : (K : Known) (w : ℕ) (m : Machine) (s : State Closure) (st : code.State) (go : Following) → s.left ≤ steps → RunInvariant setting.text setting.size K w (need_statements (scopes_of p) ss) env p m s lives → IsScope setting own (λ e. have e env (statements ss)) K m → At setting.text st (code_statements p at ss level w st go) → (r : Outcome Closure Finished) → RefinesOutcome setting.text setting.size Finished K K.label m s (Behind setting.text setting.size go) m.regs.base m.regs.top (NothingShown setting K) r → RefinesOutcome setting.text setting.size Finished K (Outside setting own K) m s (Behind setting.text setting.size go) m.regs.base m.regs.top (NothingShown setting K) (caught own (λ label s1. next.rest label own (statements ss) env lives s1) r)
    catches K w m s st go le h sc stands (Gives v s1) r = r
    catches K w m s st go le h sc stands (Stops why stop s1) r = r
    catches K w m s st go le h sc stands (Goes e s1) r = by (is_among e own) refl
      where
        there : is_among e own ≡ true → RefinesOutcome setting.text setting.size Finished K (Outside setting own K) m s (Behind setting.text setting.size go) m.regs.base m.regs.top (NothingShown setting K) (next.rest e own (statements ss) env lives s1)
        there is =
            let m1 : Machine = r.0 in
            let lab = sc.labels e m1.regs.base m1.regs.place is r.2 in
            let on_base : m1.regs.base ≡ m.regs.base = lab.0 in
            let on_top : m1.regs.top ≡ m.regs.top = r.3 ∙ ap (λ b. m1.regs.words (b + 2)) on_base ∙ r.5.keeps (m.regs.base + 2) sc.end ∙ sc.top in
            let af0 : StateAfter setting.text setting.size K m m1 s s1 m.regs.base m1.regs.top = subst (λ b. StateAfter setting.text setting.size K m m1 s s1 b m1.regs.top) on_base r.5 in
            let af : StateAfter setting.text setting.size K m m1 s s1 m.regs.base m.regs.top = subst (λ t. StateAfter setting.text setting.size K m m1 s s1 m.regs.base t) on_top af0 in
            let h1 = here_after setting.text setting.size K w need env p m m1 s s1 lives h af in
            let sc1 : IsScope setting own inside K m1 = record {
              labels = λ d b a i l. let x = sc.labels d b a i l in (x.0 ∙ sym on_base, x.1);
              end = subst (λ b. K.word (b + 2)) (sym on_base) sc.end;
              top = sym r.3;
            } in
            onwards setting.text setting.size Finished K (Outside setting own K) m m1 s s1 (Behind setting.text setting.size go) m.regs.base m.regs.top (NothingShown setting K) (next.rest e own (statements ss) env lives s1) r.1 af
            (deeper.rest env p lives at below ss f level own e K w m1 s1 st go (omega (arith, r.4, le)) h1 sc1 stands is r.2)

        by : (t : Bool) → is_among e own ≡ t → RefinesOutcome setting.text setting.size Finished K (Outside setting own K) m s (Behind setting.text setting.size go) m.regs.base m.regs.top (NothingShown setting K) (either t s1 (λ s2. next.rest e own (statements ss) env lives s2) (λ s2. Goes e s2))
        by true is = there is
        by false is = (r.0, r.1, (r.2, is), r.3, r.4, r.5)

    -- the statements of a block
    pub scope_runs : (K : Known) (w : ℕ) (m : Machine) (s : State Closure) (st : code.State) (go : Following) → s.left ≤ steps → RunInvariant setting.text setting.size K w (need_statements (scopes_of p) ss) env p m s lives → IsScope setting own (λ e. have e env (statements ss)) K m → At setting.text st (code_statements p at ss level w st go) → m.regs.place ≡ st.words → RefinesOutcome setting.text setting.size Finished K (Outside setting own K) m s (Behind setting.text setting.size go) m.regs.base m.regs.top (NothingShown setting K) (caught own (λ label s1. next.rest label own (statements ss) env lives s1) (run_all setting.size next (statements ss) env lives s))
    scope_runs K w m s st go le h sc stands here =
        catches K w m s st go le h sc stands (run_all setting.size next (statements ss) env lives s)
        (statements_run setting steps env p lives next deeper at below ss f level K w m s st go le h stands here)

    -- the rest of them from a label on
    pub rest_runs : (label : ℕ) (K : Known) (w : ℕ) (m : Machine) (s : State Closure) (st : code.State) (go : Following) → s.left ≤ steps → RunInvariant setting.text setting.size K w (need_statements (scopes_of p) ss) env p m s lives → IsScope setting own (λ e. have e env (statements ss)) K m → At setting.text st (code_statements p at ss level w st go) → is_among label own ≡ true → K.label label m.regs.base m.regs.place → RefinesOutcome setting.text setting.size Finished K (Outside setting own K) m s (Behind setting.text setting.size go) m.regs.base m.regs.top (NothingShown setting K) (rest_run setting.size next label own (statements ss) env lives s)
    rest_runs label K w m s st go le h sc stands is lab =
        let x = sc.labels label m.regs.base m.regs.place is lab in
        catches K w m s st go le h sc stands (resume_all setting.size next label (statements ss) env lives s)
        (resume_statements setting steps env p lives next label deeper at below ss f level K w m s st go le h lab stands x.1)

  -- the one statement of a program or of a procedure
  module _ (env : Env) (p : Places) (lives : Live) (next : Next) (steps : ℕ) (deeper : NextRuns setting steps next) (at : Where) (below : AreWithin p at.level) (own : List ℕ) (u : tree.Statement) (f : FairStatement p at u) (level : ℕ) where
    abbrev one : tree.Statements
    one = tree.MoreStatements 0 u tree.NoStatements

    pub body_runs : (K : Known) (w : ℕ) (m : Machine) (s : State Closure) (st : code.State) (go : Following) → s.left ≤ steps → RunInvariant setting.text setting.size K w (need_statement (scopes_of p) u) env p m s lives → IsScope setting own (λ label. have label env (plain_tree.MoreStatements (statement u) plain_tree.NoStatements)) K m → At setting.text st (code_statement p at u level w st go) → m.regs.place ≡ st.words → RefinesOutcome setting.text setting.size Finished K (Outside setting own K) m s (Behind setting.text setting.size go) m.regs.base m.regs.top (NothingShown setting K) (caught own (λ label s1. next.rest label own (plain_tree.MoreStatements (statement u) plain_tree.NoStatements) env lives s1) (run setting.size next (statement u) env lives s))
    body_runs K w m s st go le h sc stands here =
        catches env p lives next steps deeper at below own one (f, tt) level K w m s st go le
        (wants setting.text setting.size K w (need_statement (scopes_of p) u) (need_statements (scopes_of p) one) env p m s lives (omega arith) h) sc stands (run setting.size next (statement u) env lives s)
        (statement_runs setting steps env p lives next deeper at below u f level K w m s st go le h stands here)
