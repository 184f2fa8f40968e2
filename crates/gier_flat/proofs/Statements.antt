-- Statements: printing, sequences, labels and conditional statements.
use Rattle.std.proofs.Common.{◌≡◌, ℕ, suc, ◌+◌, ◌<◌, ◌≤◌, Bool, true, false, ℤ, List, [], ◌∷◌, ◌++◌, length, Option, Some, refl, sym, ap, ◌∙◌, subst, arith}
use Rattle.std.specs.Prelude.{◌^◌, map, Result, Ok, Err, max, if◌then◌else◌, ⊤}
use Rattle.std.proofs.lemmas.Bool.{lt-ltb}
use Rattle.std.proofs.lemmas.List.{append-nil}
use Rattle.gier_word.specs.declared.alarm.Alarm.{Alarm}
use Rattle.gier_word.specs.Standard.{integer_text, line_text, character_text}
use Rattle.gier_meaning.specs.Standard.{prints}
use Rattle.gier_order.specs.Flat.Row as row
use Rattle.gier_flat.proofs.StopReport.{stops_here}
use Rattle.gier_flat.proofs.Values.{line_here}
use Rattle.gier_flat.proofs.OrderRows.{stopped}
use Rattle.gier_order.specs.declared.operation.Operation.TheVariants as op
use Rattle.gier_order.specs.Flat.Row.{Regs, On, Ends, Row, plain, behind_ref, behind_bytes}
use Rattle.gier_order.specs.Flat.Rows as rows
use Rattle.gier_order.specs.Flat.Rows.{effect}
use Rattle.gier_order.specs.Flat.Run.{with_row}
use Rattle.gier_tree.specs.declared.kind.Kind.{Kind}
use Rattle.gier_tree.specs.Orders as code
use Rattle.gier_tree.specs.Orders.{Following, Code, order, behind_word}
use Rattle.gier_tree.specs.Coded.{scopes_of, code_expr}
use Rattle.gier_tree.specs.Need.{need_expr}
use Rattle.gier_env.specs.Statements.{run}
use Rattle.gier_meaning.specs.Tree.{Assign}
use Rattle.gier_tree.specs.Places.{Places}
use Rattle.gier_tree.specs.Trees.{Byte, Expr, Call, Alone, WithActuals, OneExpr, AString, NoActuals}
use Rattle.gier_meaning.specs.Plain.{expr}
use Rattle.gier_meaning.specs.Live.{Live}
use Rattle.gier_meaning.specs.State.{State}
use Rattle.gier_meaning.specs.Outcome.{Outcome, Gives, Goes, Stops, Alarmed, Finished, Done, then_do}
use Rattle.gier_env.specs.Env.{Env, Denoted, AStandard, found}
use Rattle.gier_env.specs.Tasks.{Next}
use Rattle.gier_env.specs.Closures.{Closure}
use Rattle.gier_env.specs.Expressions.{value, alone, handed}
use Rattle.gier_env.specs.Calls.{standard_passed, call as call_of}
use Rattle.gier_env.specs.Tasks.{AValue}
use Rattle.gier_tree.specs.Need.{call_need, first_need}
use Rattle.gier_flat.proofs.Positions.{At}
use Rattle.gier_flat.proofs.OrderRows.{Machine, object, Reach, onward}
use Rattle.gier_flat.proofs.StackRelation.{Known, Shows, RunInvariant, RefinesOutcome, Behind, here_after}
use Rattle.gier_flat.proofs.Composition.{follow_then, follow_on, onwards, wants}
use Rattle.gier_flat.proofs.Orders.{to, AtOrder, far, row_of, order_next, labelled_next, on_row, needed}
use Rattle.gier_flat.specs.Fair.{PrintsNumber, FairExpr, FairCalled}
use Rattle.gier_flat.proofs.Values.{Same, Runs}
use Rattle.gier_flat.proofs.Expressions.{expr_runs, choice_runs}
use Rattle.gier_flat.proofs.Assignments.{NothingShown, assignment_runs}
use Rattle.gier_flat.proofs.GoTo.{jump_runs}
use Rattle.gier_flat.proofs.TextPrinting.{text_runs}
use Rattle.gier_flat.proofs.AllPasses.{unconditional_passes, statement_passes}
use Rattle.gier_flat.proofs.Continuations.{Passes}
use Rattle.gier_flat.proofs.Expressions.{there, there_after, there_here, test_reach}
use Rattle.gier_flat.specs.Fair.{FairStatement, FairStatements, FairUnconditional, FairBasic, FairGroup, FairConditional}
use Rattle.gier_flat.proofs.Orders.{defined}
use Rattle.gier_flat.proofs.Numbers.{same_truth}
use Rattle.gier_tree.specs.Orders.{define, new, also, first_label}
use Rattle.gier_tree.specs.Text7.{labels_code, if_code, if_else_code, code_statement, code_statements, code_unconditional, code_basic, code_group, code_conditional}
use Rattle.gier_tree.specs.Texts.{Where, behind_statement, further}
use Rattle.gier_tree.specs.Entries.{numbers_unconditional}
use Rattle.gier_tree.specs.OwnCount.{owns_in_unconditional}
use Rattle.gier_tree.specs.Need.{need_statement, need_statements, need_unconditional, need_basic, need_group, need_conditional}
use Rattle.gier_tree.specs.Trees.{LabelPlace, Group, MkBlock, MkCompound, Statements, NoStatements, MoreStatements, Statement, OneUnconditional, OneConditional, OneLoop, Unconditional, MkUnconditional, Basic, OneGroup, Assign, Jump, CallStatement, Dummy, Conditional, IfThen, IfElse, IfLoop}
use Rattle.gier_meaning.specs.Plain.{statement, statements, unconditional, basic, group, conditional, with_labels}
use Rattle.gier_meaning.specs.Tree as plain_tree
use Rattle.gier_env.specs.Statements.{run_all}
use Rattle.gier_meaning.specs.State.{with_printed}
use Rattle.gier_tree.specs.declared.kind.Kind.TheVariants.{OutInteger, OutText, OutCr, OutChar}
use Rattle.gier_tree.specs.Coded.{code_call, call_code, alone_code, part_of, string_code}
use Rattle.gier_tree.specs.Need.{need_call}
use Rattle.gier_meaning.specs.Plain.{call, bytes_of}
use Rattle.gier_meaning.specs.Operators as meaning
use Rattle.gier_meaning.specs.Outcome.{either}
use Rattle.gier_flat.proofs.Setting.{Setting}
use Rattle.gier_flat.proofs.NextRuns.{RunsStatement, AreWithin, NextRuns}

abbrev IsNotOutCr : Kind → Type 0
IsNotOutCr OutCr = ⊥
IsNotOutCr kind = ⊤

abbrev IsNotOutText : Kind → Type 0
IsNotOutText OutText = ⊥
IsNotOutText kind = ⊤

same_bytes : (bytes : List Byte) → map (λ (b : Byte). b.value) bytes ≡ bytes_of bytes
same_bytes [] = refl
same_bytes (b ∷ bytes) = ap (λ bs. b.value ∷ bs) (same_bytes bytes)

module _ (setting : Setting) where
  module _ (n : ℕ) (env : Env) (p : Places) (lives : Live) where
    -- ---- printing

    -- a standard procedure that prints these bytes
    prints_run : (K : Known) (w need : ℕ) (m : Machine) (s : State Closure) (number line : ℕ) (bytes : List ℕ) (st : code.State) (go : Following) → number < 2 ^ 24 → RunInvariant setting.text setting.size K w need env p m s lives → At setting.text st (order op.Lib 0 number line st go) → m.regs.place ≡ st.words → rows.procedure (object setting.text) setting.size m.regs number ≡ rows.prints (object setting.text) setting.size m.regs bytes → RefinesOutcome setting.text setting.size Finished K K.label m s (Behind setting.text setting.size go) m.regs.base m.regs.top (NothingShown setting K) (Gives Done (with_printed bytes s))
    prints_run K w need m s number line bytes st go low h at here is =
        let sd : AtOrder setting.text setting.size setting.ends m op.Lib 0 number line st go = record { at = at; here = here; started = h.started; low = omega arith; small = low; fields = refl; other = λ e. absurd (omega (arith, e)) } in
        let next_is = far setting.text setting.size setting.ends m op.Lib 0 number line st go sd in
        let m1r : Regs = record m.regs { place = m.regs.place + 1 } in
        let row1 : Row = behind_bytes bytes (plain (On m1r)) in
        let e : effect (object setting.text) setting.size m.regs op.Lib 0 number ≡ row1 =
        needed _ _ (lt-ltb (m.regs.place + 1) (length (object setting.text)) next_is) ∙ is ∙ ap (behind_bytes bytes) (on_row setting.text setting.size setting.ends m.regs next_is m.regs) in
        let r : Row = behind_ref m.regs.place row1 in
        let m1 : Machine = with_row m r m1r in
        let reach = onward setting.text setting.size m r m1r (row_of setting.text setting.size setting.ends m op.Lib 0 number line st go sd ∙ ap (behind_ref m.regs.place) e) refl in
        let printed : m.printed ++ (bytes ++ []) ≡ s.printed ++ bytes = ap (λ b. m.printed ++ b) (append-nil bytes) ∙ ap (λ b. b ++ bytes) h.printed in (
          m1,
          reach,
          (behind_word st line, order_next setting.text setting.size setting.ends op.Lib 0 number line st go (λ e. absurd (omega (arith, e))) at, omega (arith, here)),
          tt,
          record {
            on_base = refl;
            at_top = refl;
            started = h.started;
            keeps = λ q i. refl;
            marks = λ q i. refl;
            holds = h.holds;
            sorts = λ k lt. refl;
            left = h.left;
            most = h.most;
            printed = printed;
            input = h.input;
            fresh = omega arith;
            fewer = omega arith;
            deeper = omega arith;
            higher = omega arith;
          },
        )

    -- `outchar`, which alarms for a number that is no byte
    character_run : (x : Result (List ℕ) Alarm) (K : Known) (w need : ℕ) (m : Machine) (s : State Closure) (line : ℕ) (st : code.State) (go : Following) → RunInvariant setting.text setting.size K w need env p m s lives → At setting.text st (order op.Lib 0 4 line st go) → m.regs.place ≡ st.words → rows.procedure (object setting.text) setting.size m.regs 4 ≡ rows.prints_or_alarms (object setting.text) setting.size m.regs x → RefinesOutcome setting.text setting.size Finished K K.label m s (Behind setting.text setting.size go) m.regs.base m.regs.top (NothingShown setting K) (then_do (prints x line lives s) (λ z s1. Gives Done s1))
    character_run (Ok bytes) K w need m s line st go h at here is = prints_run K w need m s 4 line bytes st go (omega arith) h at here is
    character_run (Err alarm) K w need m s line st go h at here is =
        let sd : AtOrder setting.text setting.size setting.ends m op.Lib 0 4 line st go = record { at = at; here = here; started = h.started; low = omega arith; small = omega arith; fields = refl; other = λ e. absurd (omega (arith, e)) } in
        let next_is = far setting.text setting.size setting.ends m op.Lib 0 4 line st go sd in
        let r : Row = behind_ref m.regs.place (plain (Ends (row.Alarmed alarm) m.regs)) in
        let e : effect (object setting.text) setting.size m.regs op.Lib 0 4 ≡ plain (Ends (row.Alarmed alarm) m.regs) = needed _ _ (lt-ltb (m.regs.place + 1) (length (object setting.text)) next_is) ∙ is in (
          1,
          record { ending = row.Alarmed alarm; state = with_row m r m.regs },
          stopped setting.text setting.size m r (row.Alarmed alarm) m.regs (row_of setting.text setting.size setting.ends m op.Lib 0 4 line st go sd ∙ ap (behind_ref m.regs.place) e) refl,
          stops_here setting.text setting.size K w need env p m s s lives (row.Alarmed alarm) m.regs r (Alarmed alarm) line h refl refl refl refl refl refl h.started refl refl h.left refl refl refl (line_here setting.text setting.size setting.ends setting.small m op.Lib 0 4 line st go sd),
        )

    module _ (next : Next) where
      -- `outinteger`
      printed_number : (e : Expr) (line : ℕ) (r : Outcome Closure ℤ)
          → then_do (then_do (then_do (then_do r (λ a s2. Gives (AValue a) s2)) (λ passed s1. Gives (passed ∷ []) s1)) (λ passed s1. standard_passed OutInteger passed line lives s1)) (λ v s1. Gives Done s1)
          ≡ then_do r (λ a s1. Gives Done (with_printed (integer_text a) s1))
      printed_number e line (Gives a s1) = refl
      printed_number e line (Goes k s1) = refl
      printed_number e line (Stops why stop s1) = refl

      printed_character : (e : Expr) (line : ℕ) (r : Outcome Closure ℤ)
          → then_do (then_do (then_do (then_do r (λ a s2. Gives (AValue a) s2)) (λ passed s1. Gives (passed ∷ []) s1)) (λ passed s1. standard_passed OutChar passed line lives s1)) (λ v s1. Gives Done s1)
          ≡ then_do r (λ a s1. then_do (prints (character_text a) line lives s1) (λ z s2. Gives Done s2))
      printed_character e line (Gives a s1) = refl
      printed_character e line (Goes k s1) = refl
      printed_character e line (Stops why stop s1) = refl

      out_integer : (kind : Kind) (count : ℕ) (formals : List Kind) (l a : ℕ) (d : Option Denoted) (e : Expr) (line level : ℕ) → PrintsNumber kind → FairExpr p e → ((K : Known) (w need : ℕ) (m : Machine) (s : State Closure) → RunInvariant setting.text setting.size K w need env p m s lives → (b : ℕ) → K.frame env p b → Shows setting.text K m.regs.words s.store b kind (record { what = record { kind = kind; count = count; formals = formals }; level = l; address = a }) d)
          → RunsStatement setting n env p lives (need_expr (scopes_of p) e) (call_code (record { what = record { kind = kind; count = count; formals = formals }; level = l; address = a }) line (part_of p (OneExpr e) ∷ []) level)
          (λ s. then_do (call_of setting.size next d (plain_tree.MoreExprs (expr e) plain_tree.NoExprs) env (λ kinds s1. handed setting.size next kinds (plain_tree.MoreExprs (expr e) plain_tree.NoExprs) env line lives s1) line lives s) (λ v s1. Gives Done s1))
      out_integer OutInteger count formals l a d e line level is f shows K w m s st go le h at here =
          let need : ℕ = need_expr (scopes_of p) e in
          let behind_e : Following = λ s1. order op.Lib 0 1 line s1 go in
          let is_standard : d ≡ Some (AStandard OutInteger) = shows K w need m s h h.sees.0 h.sees.3 in
          subst (λ d. RefinesOutcome setting.text setting.size Finished K K.label m s (Behind setting.text setting.size go) m.regs.base m.regs.top (NothingShown setting K) (then_do (call_of setting.size next d (plain_tree.MoreExprs (expr e) plain_tree.NoExprs) env (λ kinds s1. handed setting.size next kinds (plain_tree.MoreExprs (expr e) plain_tree.NoExprs) env line lives s1) line lives s) (λ v s1. Gives Done s1))) (sym is_standard)
          (subst (λ u. RefinesOutcome setting.text setting.size Finished K K.label m s (Behind setting.text setting.size go) m.regs.base m.regs.top (NothingShown setting K) u) (sym (printed_number e line (value setting.size next (expr e) env lives s)))
          (follow_then setting.text setting.size ℤ Finished K K.label m s (Behind setting.text setting.size behind_e) m.regs.base m.regs.top (Same setting.text setting.size setting.ends setting.small K) (value setting.size next (expr e) env lives s) (Behind setting.text setting.size go) m.regs.base m.regs.top (NothingShown setting K) (λ v s1. Gives Done (with_printed (integer_text v) s1))
          (expr_runs setting n env p lives next e f level K w m s st behind_e le h at here)
          (λ v s1 m1 reach goal shown af.
          let h1 = here_after setting.text setting.size K w need env p m m1 s s1 lives h af in
          onwards setting.text setting.size Finished K K.label m m1 s s1 (Behind setting.text setting.size go) m.regs.base m.regs.top (NothingShown setting K) (Gives Done (with_printed (integer_text v) s1)) reach af
          (prints_run K w need m1 s1 1 line (integer_text v) goal.0 go (omega arith) h1 goal.1 goal.2 (ap (λ z. rows.prints (object setting.text) setting.size m1.regs (integer_text z)) shown)))))
      out_integer OutChar count formals l a d e line level is f shows K w m s st go le h at here =
          let need : ℕ = need_expr (scopes_of p) e in
          let behind_e : Following = λ s1. order op.Lib 0 4 line s1 go in
          let is_standard : d ≡ Some (AStandard OutChar) = shows K w need m s h h.sees.0 h.sees.3 in
          subst (λ d. RefinesOutcome setting.text setting.size Finished K K.label m s (Behind setting.text setting.size go) m.regs.base m.regs.top (NothingShown setting K) (then_do (call_of setting.size next d (plain_tree.MoreExprs (expr e) plain_tree.NoExprs) env (λ kinds s1. handed setting.size next kinds (plain_tree.MoreExprs (expr e) plain_tree.NoExprs) env line lives s1) line lives s) (λ v s1. Gives Done s1))) (sym is_standard)
          (subst (λ u. RefinesOutcome setting.text setting.size Finished K K.label m s (Behind setting.text setting.size go) m.regs.base m.regs.top (NothingShown setting K) u) (sym (printed_character e line (value setting.size next (expr e) env lives s)))
          (follow_then setting.text setting.size ℤ Finished K K.label m s (Behind setting.text setting.size behind_e) m.regs.base m.regs.top (Same setting.text setting.size setting.ends setting.small K) (value setting.size next (expr e) env lives s) (Behind setting.text setting.size go) m.regs.base m.regs.top (NothingShown setting K) (λ v s1. then_do (prints (character_text v) line lives s1) (λ z s2. Gives Done s2))
          (expr_runs setting n env p lives next e f level K w m s st behind_e le h at here)
          (λ v s1 m1 reach goal shown af.
          let h1 = here_after setting.text setting.size K w need env p m m1 s s1 lives h af in
          onwards setting.text setting.size Finished K K.label m m1 s s1 (Behind setting.text setting.size go) m.regs.base m.regs.top (NothingShown setting K) (then_do (prints (character_text v) line lives s1) (λ z s2. Gives Done s2)) reach af
          (character_run (character_text v) K w need m1 s1 line goal.0 go h1 goal.1 goal.2 (ap (λ z. rows.prints_or_alarms (object setting.text) setting.size m1.regs (character_text z)) shown)))))
      out_integer kind count formals l a d e line level is f shows K w m s st go le h at here = absurd is

      -- ---- statements

      pub labels_runs : (ls : List LabelPlace) (c : Code) (level need : ℕ) (v : State Closure → Outcome Closure Finished) → RunsStatement setting n env p lives need (c level) v → RunsStatement setting n env p lives need (also (labels_code p ls) c level) v
      labels_runs [] c level need v r = r
      labels_runs (l ∷ ls) c level need v r = λ K w m s st go le h at here. labels_runs ls c level need v r K w m s st go le h (defined setting.text setting.size setting.ends (p l.name.number).address st (λ s1. labels_code p ls level w s1 (λ s2. c level w s2 go)) at) here

      run_labels : (ls : List LabelPlace) (s : plain_tree.Statement) (st : State Closure) → run setting.size next (with_labels ls s) env lives st ≡ run setting.size next s env lives st
      run_labels [] s st = refl
      run_labels (l ∷ ls) s st = run_labels ls s st

      pub behind_labels : (ls : List LabelPlace) (c : Code) (level need : ℕ) (s : plain_tree.Statement) → RunsStatement setting n env p lives need (c level) (λ st. run setting.size next s env lives st) → RunsStatement setting n env p lives need (also (labels_code p ls) c level) (λ st. run setting.size next (with_labels ls s) env lives st)
      behind_labels ls c level need s r K w m st cs go le h at here =
          subst (λ u. RefinesOutcome setting.text setting.size Finished K K.label m st (Behind setting.text setting.size go) m.regs.base m.regs.top (NothingShown setting K) u) (sym (run_labels ls s st))
          (labels_runs ls c level need (λ st. run setting.size next s env lives st) r K w m st cs go le h at here)

      pub seq_runs : (a b : Code) (level na nb : ℕ) (va vb : State Closure → Outcome Closure Finished) → RunsStatement setting n env p lives na (a level) va → RunsStatement setting n env p lives nb (b level) vb → RunsStatement setting n env p lives (max na nb) (also a b level) (λ s. then_do (va s) (λ d s1. vb s1))
      seq_runs a b level na nb va vb ra rb K w m s st go le h at here =
          let behind_a : Following = λ s1. b level w s1 go in
          follow_then setting.text setting.size Finished Finished K K.label m s (Behind setting.text setting.size behind_a) m.regs.base m.regs.top (NothingShown setting K) (va s) (Behind setting.text setting.size go) m.regs.base m.regs.top (NothingShown setting K) (λ d s1. vb s1)
          (ra K w m s st behind_a le (wants setting.text setting.size K w (max na nb) na env p m s lives (omega arith) h) at here)
          (λ d s1 m1 reach goal shown af.
          let fewer = af.fewer in
          let h1 = wants setting.text setting.size K w (max na nb) nb env p m1 s1 lives (omega arith) (here_after setting.text setting.size K w (max na nb) env p m m1 s s1 lives h af) in
          onwards setting.text setting.size Finished K K.label m m1 s s1 (Behind setting.text setting.size go) m.regs.base m.regs.top (NothingShown setting K) (vb s1) reach af
          (rb K w m1 s1 goal.0 go (omega (arith, fewer, le)) h1 goal.1 goal.2))

      nothing_runs : RunsStatement setting n env p lives 0 (λ w st go. go st) (λ s. Gives Done s)
      nothing_runs K w m s st go le h at here =
          (m, (λ k. (k, refl)), (st, at, here), tt, record { on_base = refl; at_top = refl; started = h.started; keeps = λ i k. refl; marks = λ i k. refl; holds = h.holds; sorts = λ k lt. refl; left = h.left; most = h.most; printed = h.printed; input = h.input; fresh = omega arith; fewer = omega arith; deeper = omega arith; higher = omega arith })

      -- a conditional statement with one branch
      if_runs : (line level na nb : ℕ) (a b : Code) (va : State Closure → Outcome Closure ℤ) (vb : State Closure → Outcome Closure Finished) → ((w : ℕ) → Passes setting.text setting.size setting.ends (b level w)) → Runs setting.text setting.size setting.ends setting.small n env p lives ℤ (Same setting.text setting.size setting.ends setting.small) na (a level) va → RunsStatement setting n env p lives nb (b level) vb → RunsStatement setting n env p lives (max na nb) (if_code line a b level) (λ s. then_do (va s) (λ x s1. either (meaning.is_true x) s1 (λ s2. vb s2) (λ s2. Gives Done s2)))
      if_runs line level na nb a b va vb pb ra rb K w m s st go le h at here =
          let most : ℕ = max na nb in
          let behind_b : ℕ → Following = λ x s3. define x s3 go in
          let behind_a : Following = λ s0. new s0 (λ x s1. code.with_label op.False 0 x line s1 (λ s2. b level w s2 (behind_b x))) in
          let second : ℤ → State Closure → Outcome Closure Finished = λ x s1. either (meaning.is_true x) s1 (λ s2. vb s2) (λ s2. Gives Done s2) in
          follow_then setting.text setting.size ℤ Finished K K.label m s (Behind setting.text setting.size behind_a) m.regs.base m.regs.top (Same setting.text setting.size setting.ends setting.small K) (va s) (Behind setting.text setting.size go) m.regs.base m.regs.top (NothingShown setting K) second
          (ra K w m s st behind_a le (wants setting.text setting.size K w most na env p m s lives (omega arith) h) at here)
          (λ v s1 m1 reach goal shown af.
          let h1 = here_after setting.text setting.size K w most env p m m1 s s1 lives h af in
          let fewer = af.fewer in
          let x : ℕ = first_label + goal.0.labels in
          let sx : code.State = record { labels = suc goal.0.labels; line = goal.0.line; words = goal.0.words } in
          let from_b : Following = λ s2. b level w s2 (behind_b x) in
          let s2 : code.State = behind_word sx line in
          let at_b = labelled_next setting.text setting.size setting.ends op.False 0 x line sx from_b goal.1 in
          let skip = pb w s2 (behind_b x) at_b in
          let ahead : suc sx.words ≤ skip.0.words = let e = skip.2 in omega arith in
          let tests = test_reach setting n env p lives K w most m1 s1 (meaning.is_true v) x line sx skip.0 from_b go h1 (same_truth m1.regs.r ∙ ap meaning.is_true shown) goal.1 goal.2 skip.1 ahead in
          onwards setting.text setting.size Finished K K.label m m1 s s1 (Behind setting.text setting.size go) m.regs.base m.regs.top (NothingShown setting K) (second v s1) reach af
          (by (meaning.is_true v) K w m1 s1 s2 skip.0 x go h1 (omega (arith, fewer, le)) at_b tests skip.1))
        where
          by : (t : Bool) (K : Known) (w : ℕ) (m1 : Machine) (s1 : State Closure) (s2 sx : code.State) (x : ℕ) (go : Following) → RunInvariant setting.text setting.size K w (max na nb) env p m1 s1 lives → s1.left ≤ n → At setting.text s2 (b level w s2 (λ s3. define x s3 go)) → Reach setting.text setting.size m1 (to setting.text setting.size setting.ends m1 (record m1.regs { place = if t then s2.words else sx.words })) → At setting.text sx (define x sx go) → RefinesOutcome setting.text setting.size Finished K K.label m1 s1 (Behind setting.text setting.size go) m1.regs.base m1.regs.top (NothingShown setting K) (either t s1 (λ s2. vb s2) (λ s2. Gives Done s2))
          by true K w m1 s1 s2 sx x go h le at_b reach at_x =
              let most : ℕ = max na nb in
              let behind_b : Following = λ s3. define x s3 go in
              let m2 : Machine = there setting n env p lives K w most m1 s1 s2.words h in
              let h2 = there_here setting n env p lives K w most m1 s1 s2.words h in
              onwards setting.text setting.size Finished K K.label m1 m2 s1 s1 (Behind setting.text setting.size go) m1.regs.base m1.regs.top (NothingShown setting K) (vb s1) reach (there_after setting n env p lives K w most m1 s1 s2.words h)
              (follow_on setting.text setting.size Finished K K.label m2 s1 (Behind setting.text setting.size behind_b) (Behind setting.text setting.size go) m2.regs.base m2.regs.top m2.regs.base m2.regs.top (NothingShown setting K) (NothingShown setting K) (vb s1)
              (rb K w m2 s1 s2 behind_b le (wants setting.text setting.size K w most nb env p m2 s1 lives (omega arith) h2) at_b refl)
              (λ d s3 m3 reach3 goal3 shown3 af3. (m3, reach3, (goal3.0, defined setting.text setting.size setting.ends x goal3.0 go goal3.1, goal3.2), tt, af3)))
          by false K w m1 s1 s2 sx x go h le at_b reach at_x =
              (there setting n env p lives K w (max na nb) m1 s1 sx.words h, reach, (sx, defined setting.text setting.size setting.ends x sx go at_x, refl), tt, there_after setting n env p lives K w (max na nb) m1 s1 sx.words h)

      called_runs : (c : Call) → FairCalled p c → (level : ℕ) → RunsStatement setting n env p lives (need_call (scopes_of p) c) (code_call p c level) (λ s. then_do (value setting.size next (call c) env lives s) (λ v s1. Gives Done s1))
      called_runs (Alone x) f level = out_cr (p x.number).what.kind (p x.number).what.count (p x.number).what.formals (p x.number).level (p x.number).address (found env x.number) x.line f (λ K w need m s h b i. h.frames env p b i x.number)
        where
          out_cr : (kind : Kind) (count : ℕ) (formals : List Kind) (l a : ℕ) (d : Option Denoted) (line : ℕ) → kind ≡ OutCr → ((K : Known) (w need : ℕ) (m : Machine) (s : State Closure) → RunInvariant setting.text setting.size K w need env p m s lives → (b : ℕ) → K.frame env p b → Shows setting.text K m.regs.words s.store b kind (record { what = record { kind = kind; count = count; formals = formals }; level = l; address = a }) d) → RunsStatement setting n env p lives 0 (alone_code (record { what = record { kind = kind; count = count; formals = formals }; level = l; address = a }) line level) (λ s. then_do (alone setting.size next d env line lives s) (λ v s1. Gives Done s1))
          out_cr OutCr count formals l a d line is shows = λ K w m s st go le h at here.
              let is_standard : d ≡ Some (AStandard OutCr) = shows K w 0 m s h h.sees.0 h.sees.3 in
              subst (λ d. RefinesOutcome setting.text setting.size Finished K K.label m s (Behind setting.text setting.size go) m.regs.base m.regs.top (NothingShown setting K) (then_do (alone setting.size next d env line lives s) (λ v s1. Gives Done s1))) (sym is_standard)
              (prints_run K w 0 m s 3 line line_text st go (omega arith) h at here refl)
          out_cr kind count formals l a d line is shows = absurd (subst IsNotOutCr is tt)
      called_runs (WithActuals x l (OneExpr e) NoActuals m) f level = λ K w m1 s st go le h at here. out_integer (p x.number).what.kind (p x.number).what.count (p x.number).what.formals (p x.number).level (p x.number).address (found env x.number) e x.line level f.0 f.1 (λ K w need m s h b i. h.frames env p b i x.number) K w m1 s st go le (wants setting.text setting.size K w (need_call (scopes_of p) (WithActuals x l (OneExpr e) NoActuals m)) (need_expr (scopes_of p) e) env p m1 s lives (need_out (p x.number).what.kind (p x.number).what.formals (need_expr (scopes_of p) e) f.0) h) at here
        where
          need_out : (kind : Kind) (formals : List Kind) (need : ℕ) → PrintsNumber kind → need ≤ call_need kind 1 (max (first_need formals 0 need) 0) (max need 0)
          need_out OutInteger formals need is = omega arith
          need_out OutChar formals need is = omega arith
          need_out kind formals need is = absurd is
      called_runs (WithActuals x l (AString k bytes j) NoActuals m) f level = out_text (p x.number).what.kind (p x.number).what.count (p x.number).what.formals (p x.number).level (p x.number).address (found env x.number) x.line f.0 (λ K w need m s h b i. h.frames env p b i x.number)
        where
          out_text : (kind : Kind) (count : ℕ) (formals : List Kind) (l a : ℕ) (d : Option Denoted) (line : ℕ) → kind ≡ OutText → ((K : Known) (w need : ℕ) (m : Machine) (s : State Closure) → RunInvariant setting.text setting.size K w need env p m s lives → (b : ℕ) → K.frame env p b → Shows setting.text K m.regs.words s.store b kind (record { what = record { kind = kind; count = count; formals = formals }; level = l; address = a }) d)
              → RunsStatement setting n env p lives (call_need kind 1 (max (first_need formals 0 0) 0) (max 0 0)) (call_code (record { what = record { kind = kind; count = count; formals = formals }; level = l; address = a }) line (part_of p (AString k bytes j) ∷ []) level)
              (λ s. then_do (call_of setting.size next d (plain_tree.MoreExprs (plain_tree.Quoted (bytes_of bytes) k) plain_tree.NoExprs) env (λ kinds s1. handed setting.size next kinds (plain_tree.MoreExprs (plain_tree.Quoted (bytes_of bytes) k) plain_tree.NoExprs) env line lives s1) line lives s) (λ v s1. Gives Done s1))
          out_text OutText count formals l a d line is shows = λ K w m s st go le h at here.
              let is_standard : d ≡ Some (AStandard OutText) = shows K w 0 m s h h.sees.0 h.sees.3 in
              subst (λ d. RefinesOutcome setting.text setting.size Finished K K.label m s (Behind setting.text setting.size go) m.regs.base m.regs.top (NothingShown setting K) (then_do (call_of setting.size next d (plain_tree.MoreExprs (plain_tree.Quoted (bytes_of bytes) k) plain_tree.NoExprs) env (λ kinds s1. handed setting.size next kinds (plain_tree.MoreExprs (plain_tree.Quoted (bytes_of bytes) k) plain_tree.NoExprs) env line lives s1) line lives s) (λ v s1. Gives Done s1))) (sym is_standard)
              (text_runs setting n env p lives K w 0 m s (bytes_of bytes) k line st go h f.1 (subst (λ b. At setting.text st (string_code b k st (λ s1. order op.Lib 0 2 line s1 go))) (same_bytes bytes) at) here)
          out_text kind count formals l a d line is shows = absurd (subst IsNotOutText is tt)
      called_runs (WithActuals x l a more m) f level = absurd f

      module _ (deeper : NextRuns setting n next) where
        mutual
          pub statement_runs : (at : Where) → AreWithin p at.level → (s : Statement) → FairStatement p at s → (level : ℕ) → RunsStatement setting n env p lives (need_statement (scopes_of p) s) (code_statement p at s level) (λ st. run setting.size next (statement s) env lives st)
          statement_runs at below (OneUnconditional u) f level = unconditional_runs at below u f level
          statement_runs at below (OneConditional c) f level = conditional_runs at below c f level
          statement_runs at below (OneLoop x) f level = absurd f

          pub statements_run : (at : Where) → AreWithin p at.level → (ss : Statements) → FairStatements p at ss → (level : ℕ) → RunsStatement setting n env p lives (need_statements (scopes_of p) ss) (code_statements p at ss level) (λ st. run_all setting.size next (statements ss) env lives st)
          statements_run at below NoStatements f level = nothing_runs
          statements_run at below (MoreStatements l s ss) f level = seq_runs (code_statement p at s) (code_statements p (behind_statement at s) ss) level (need_statement (scopes_of p) s) (need_statements (scopes_of p) ss) (λ st. run setting.size next (statement s) env lives st) (λ st. run_all setting.size next (statements ss) env lives st) (statement_runs at below s f.0 level) (statements_run (behind_statement at s) below ss f.1 level)

          unconditional_runs : (at : Where) → AreWithin p at.level → (u : Unconditional) → FairUnconditional p at u → (level : ℕ) → RunsStatement setting n env p lives (need_unconditional (scopes_of p) u) (code_unconditional p at u level) (λ st. run setting.size next (unconditional u) env lives st)
          unconditional_runs at below (MkUnconditional ls b) f level = behind_labels ls (code_basic p at b) level (need_basic (scopes_of p) b) (basic b) (basic_runs at below b f.1 level)

          basic_runs : (at : Where) → AreWithin p at.level → (b : Basic) → FairBasic p at b → (level : ℕ) → RunsStatement setting n env p lives (need_basic (scopes_of p) b) (code_basic p at b level) (λ st. run setting.size next (basic b) env lives st)
          basic_runs at below (OneGroup g) f level = group_runs at below g f level
          basic_runs at below (Assign q qs e) f level = assignment_runs setting n env p lives next q qs e (f.0, f.1) f.2 level
          basic_runs at below (Jump l e) f level = jump_runs setting n env p lives next l e f level
          basic_runs at below (CallStatement c) f level = called_runs c f level
          basic_runs at below Dummy f level = nothing_runs

          group_runs : (at : Where) → AreWithin p at.level → (g : Group) → FairGroup p at g → (level : ℕ) → RunsStatement setting n env p lives (need_group (scopes_of p) g) (code_group p at g level) (λ st. run setting.size next (group g) env lives st)
          group_runs at below (MkBlock l d m ds s ss k) f level = deeper.block env p lives at below l d m ds s ss k f level
          group_runs at below (MkCompound l s ss k) f level = seq_runs (code_statement p at s) (code_statements p (behind_statement at s) ss) level (need_statement (scopes_of p) s) (need_statements (scopes_of p) ss) (λ st. run setting.size next (statement s) env lives st) (λ st. run_all setting.size next (statements ss) env lives st) (statement_runs at below s f.0 level) (statements_run (behind_statement at s) below ss f.1 level)

          conditional_runs : (at : Where) → AreWithin p at.level → (c : Conditional) → FairConditional p at c → (level : ℕ) → RunsStatement setting n env p lives (need_conditional (scopes_of p) c) (code_conditional p at c level) (λ st. run setting.size next (conditional c) env lives st)
          conditional_runs at below (IfThen ls l e m u) f level =
              behind_labels ls (if_code l (code_expr p e) (code_unconditional p at u)) level (max (need_expr (scopes_of p) e) (need_unconditional (scopes_of p) u)) (plain_tree.If (expr e) (unconditional u))
              (if_runs l level (need_expr (scopes_of p) e) (need_unconditional (scopes_of p) u) (code_expr p e) (code_unconditional p at u) (λ st. value setting.size next (expr e) env lives st) (λ st. run setting.size next (unconditional u) env lives st) (unconditional_passes setting.text setting.size setting.ends p at u level) (expr_runs setting n env p lives next e f.1 level) (unconditional_runs at below u f.2 level))
          conditional_runs at below (IfElse ls l e m u k s) f level =
              let at1 : Where = further at (numbers_unconditional u) (owns_in_unconditional u) in
              behind_labels ls (if_else_code l (code_expr p e) (code_unconditional p at u) (code_statement p at1 s)) level (max (need_expr (scopes_of p) e) (max (need_unconditional (scopes_of p) u) (need_statement (scopes_of p) s))) (plain_tree.IfElse (expr e) (unconditional u) (statement s))
              (choice_runs setting n env p lives Finished (NothingShown setting) l level (need_expr (scopes_of p) e) (need_unconditional (scopes_of p) u) (need_statement (scopes_of p) s) (code_expr p e) (code_unconditional p at u) (code_statement p at1 s)
              (λ st. value setting.size next (expr e) env lives st) (λ st. run setting.size next (unconditional u) env lives st) (λ st. run setting.size next (statement s) env lives st)
              (unconditional_passes setting.text setting.size setting.ends p at u level) (statement_passes setting.text setting.size setting.ends p at1 s level) (λ K v m m1 er eq i. i)
              (expr_runs setting n env p lives next e f.1 level) (unconditional_runs at below u f.2 level) (statement_runs at1 below s f.3 level))
          conditional_runs at below (IfLoop ls l e m x) f level = absurd f
