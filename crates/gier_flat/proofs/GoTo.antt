-- Designational expressions, and the order GO.
use Rattle.std.proofs.Common.{◌≡◌, ℕ, zero, suc, ◌+◌, ◌<◌, ◌≤◌, List, length, refl, sym, ap, ap₂, ◌∙◌, subst, arith}
use Rattle.std.specs.Prelude.{◌&&◌, nat_lt, nat_le, max, if◌then◌else◌}
use Rattle.std.proofs.lemmas.Bool.{lt-ltb, le-leb, ne_eqb, eq-eqb}
use Rattle.std.proofs.lemmas.List.{append-nil}
use Rattle.gier_symbol.specs.declared.symbol.Symbol.{Symbol}
use Rattle.gier_order.specs.declared.operation.Operation.TheVariants as op
use Rattle.gier_order.specs.Flat.Row.{Regs, Ending, Step, On, Ends, Row, plain, needs, behind_ref, behind_bytes}
use Rattle.gier_order.specs.Flat.Row as row
use Rattle.gier_order.specs.Flat.Rows.{effect, word_at, pays, on}
use Rattle.gier_order.specs.Flat.Run.{with_row}
use Rattle.gier_tree.specs.Orders as code
use Rattle.gier_tree.specs.Orders.{Following, Code, order, with_label, number_of, behind_word}
use Rattle.gier_tree.specs.Coded.{scopes_of, code_expr, label_code}
use Rattle.gier_tree.specs.Coded as coded
use Rattle.gier_tree.specs.Need.{need_expr}
use Rattle.gier_tree.specs.Places.{Places}
use Rattle.gier_tree.specs.Trees.{Expr, OneSimple, IfExpr, Simple, OneImplication, OneDisjunction, OneConjunction, OneNegation, OneRelation, OneArithmetic, OneTerm, OneFactor, Primary, OnePrimary, Bracketed, OneCall, Alone}
use Rattle.gier_meaning.specs.Plain.{expr}
use Rattle.gier_meaning.specs.Live.{Live}
use Rattle.gier_meaning.specs.State.{State}
use Rattle.gier_meaning.specs.Accounts.{charged_by, with_left}
use Rattle.gier_meaning.specs.Destinations.{Destination, To, Undefined, goes_to}
use Rattle.gier_meaning.specs.Outcome.{Outcome, Goes, Stops, NoStepLeft, Finished, then_do}
use Rattle.gier_env.specs.Env.{Env, found}
use Rattle.gier_env.specs.Tasks.{Next}
use Rattle.gier_env.specs.Closures.{Closure}
use Rattle.gier_env.specs.Expressions.{value}
use Rattle.gier_flat.proofs.OrderRows.{Machine, object, stopped}
use Rattle.gier_flat.proofs.StackRelation.{Known, RunInvariant, RefinesOutcome, Behind, here_after}
use Rattle.gier_flat.proofs.Composition.{follow_then, onwards, Stays, stays_after}
use Rattle.gier_flat.proofs.Orders.{to, AtOrder, far, comes, row_of, goes_by, on_row, needed}
use Rattle.gier_flat.proofs.StopReport.{stops_here}
use Rattle.gier_flat.specs.Fair.{FairTarget, FairTargetSimple, FairTargetPrimary}
use Rattle.gier_flat.proofs.Values.{Runs, line_here}
use Rattle.gier_flat.proofs.Expressions.{expr_runs, choice_runs}
use Rattle.gier_flat.proofs.Assignments.{NothingShown, IsDestination, label_runs}
use Rattle.gier_flat.proofs.StatementContinuations.{passes_target, passes_target_simple}
use Rattle.gier_tree.specs.Coded.{code_label, code_simple_label, code_primary_label, code_call, call_code, alone_code, part_of, code_simple}
use Rattle.gier_tree.specs.Need.{need_simple, need_primary}
use Rattle.gier_meaning.specs.Plain.{simple, primary}
use Rattle.gier_env.specs.Expressions.{destination}
use Rattle.gier_flat.proofs.Setting.{Setting}

module _ (setting : Setting) where
  module _ (n : ℕ) (env : Env) (p : Places) (lives : Live) where
    module _ (next : Next) where
      abbrev Finds : (need : ℕ) → (c : (w : ℕ) → code.State → Following → List Symbol) → (State Closure → Outcome Closure Destination) → Type 1
      Finds need c v = Runs setting.text setting.size setting.ends setting.small n env p lives Destination (IsDestination setting n env p lives next) need c v

      destined : (K : Known) (d : Destination) (m m1 : Machine) → m1.regs.r ≡ m.regs.r → m1.regs.q ≡ m.regs.q → IsDestination setting n env p lives next K d m → IsDestination setting n env p lives next K d m1
      destined K (To e) m m1 er eq i = subst (λ r. K.label e m1.regs.q r) (sym er) (subst (λ q. K.label e q m.regs.r) (sym eq) i)
      destined K Undefined m m1 er eq i = er ∙ i

      mutual
        pub target_runs : (e : Expr) → FairTarget p e → (level : ℕ) → Finds (need_expr (scopes_of p) e) (code_label p e level) (λ s. destination setting.size next (expr e) env lives s)
        target_runs (OneSimple s) f level = target_simple s f level
        target_runs (IfExpr l c m s k e) f level =
            choice_runs setting n env p lives Destination (IsDestination setting n env p lives next) l level (need_expr (scopes_of p) c) (need_simple (scopes_of p) s) (need_expr (scopes_of p) e) (code_expr p c) (code_simple_label p s) (code_label p e)
            (λ x. value setting.size next (expr c) env lives x) (λ x. destination setting.size next (simple s) env lives x) (λ x. destination setting.size next (expr e) env lives x)
            (passes_target_simple setting.text setting.size setting.ends p s f.1 level) (passes_target setting.text setting.size setting.ends p e f.2 level) destined
            (expr_runs setting n env p lives next c f.0 level) (target_simple s f.1 level) (target_runs e f.2 level)

        target_simple : (s : Simple) → FairTargetSimple p s → (level : ℕ) → Finds (need_simple (scopes_of p) s) (code_simple_label p s level) (λ st. destination setting.size next (simple s) env lives st)
        target_simple (OneImplication (OneDisjunction (OneConjunction (OneNegation (OneRelation (OneArithmetic (OneTerm (OneFactor (OnePrimary q))))))))) f level = target_primary q f level
        target_simple s f level = absurd f

        target_primary : (q : Primary) → FairTargetPrimary p q → (level : ℕ) → Finds (need_primary (scopes_of p) q) (code_primary_label p q level) (λ st. destination setting.size next (primary q) env lives st)
        target_primary (Bracketed l e m) f level = target_runs e f level
        target_primary (OneCall (Alone x)) f level = label_runs setting n env p lives next (p x.number).what.kind (p x.number).what.count (p x.number).what.formals (p x.number).level (p x.number).address (found env x.number) x.line level f (λ K w need m s h b i. h.frames env p b i x.number)
        target_primary q f level = absurd f

      -- ---- the order GO

      module _ (K : Known) (w need : ℕ) (m : Machine) (line : ℕ) (st : code.State) (go : Following) (sd : AtOrder setting.text setting.size setting.ends m op.Go 0 0 line st go) where
        next_is : m.regs.place + 1 < length (object setting.text)
        next_is = far setting.text setting.size setting.ends m op.Go 0 0 line st go sd

        -- with no step left
        go_stops : (s : State Closure) → RunInvariant setting.text setting.size K w need env p m s lives → effect (object setting.text) setting.size m.regs op.Go 0 0 ≡ plain (Ends row.NoSteps m.regs) → RefinesOutcome setting.text setting.size Finished K K.label m s (Behind setting.text setting.size go) m.regs.base m.regs.top (NothingShown setting K) (Stops NoStepLeft (record { live = lives; line = line }) s)
        go_stops s h e =
            let r : Row = behind_ref m.regs.place (plain (Ends row.NoSteps m.regs)) in (
              1,
              record { ending = row.NoSteps; state = with_row m r m.regs },
              stopped setting.text setting.size m r row.NoSteps m.regs (row_of setting.text setting.size setting.ends m op.Go 0 0 line st go sd ∙ ap (behind_ref m.regs.place) e) refl,
              stops_here setting.text setting.size K w need env p m s s lives row.NoSteps m.regs r NoStepLeft line h refl refl refl refl refl refl h.started refl refl h.left refl refl refl (line_here setting.text setting.size setting.ends setting.small m op.Go 0 0 line st go sd),
            )

        -- the registers where it goes
        abbrev gone : ℕ → Regs
        gone left = record m.regs { left = left; base = m.regs.q; top = m.regs.words (m.regs.q + 2); greatest = max m.regs.greatest (m.regs.words (m.regs.q + 2)); place = m.regs.r }

        go_row : (left : ℕ) (s : State Closure) → RunInvariant setting.text setting.size K w need env p m s lives → (e : ℕ) → K.label e m.regs.q m.regs.r → m.regs.left ≡ left → effect (object setting.text) setting.size m.regs op.Go 0 0 ≡ pays (object setting.text) setting.size m.regs left m.regs.r (record m.regs { base = m.regs.q; top = m.regs.words (m.regs.q + 2); greatest = max m.regs.greatest (m.regs.words (m.regs.q + 2)) })
        go_row left s h e lab is =
            let l = h.label_ends e m.regs.q m.regs.r lab in
            let some : m.regs.r ≡ 0 → ⊥ = λ f. absurd (omega (arith, f, l.2)) in
            let fit : m.regs.q + 2 < setting.size = let a = h.low (m.regs.q + 2) l.0 in let f = h.fits in omega arith in
            let low : m.regs.words (m.regs.q + 2) ≤ setting.size = let f = h.fits in omega (arith, l.1, f) in
            let m1 : Regs = record m.regs { base = m.regs.q; top = m.regs.words (m.regs.q + 2); greatest = max m.regs.greatest (m.regs.words (m.regs.q + 2)) } in
            ap (λ t. if t then on (object setting.text) setting.size m.regs m.regs else word_at (object setting.text) setting.size m.regs (m.regs.q + 2) (λ top. needs (nat_le top setting.size && nat_lt m.regs.r (length (object setting.text))) (pays (object setting.text) setting.size m.regs m.regs.left m.regs.r (record m.regs { base = m.regs.q; top = top; greatest = max m.regs.greatest top })))) (ne_eqb m.regs.r 0 some)
            ∙ needed _ _ (lt-ltb (m.regs.q + 2) setting.size fit)
            ∙ needed _ _ (ap₂ (λ x y. x && y) (le-leb (m.regs.words (m.regs.q + 2)) setting.size low) (lt-ltb m.regs.r (length (object setting.text)) l.3))
            ∙ ap (λ k. pays (object setting.text) setting.size m.regs k m.regs.r m1) is

        go_goes : (e left : ℕ) (s : State Closure) → RunInvariant setting.text setting.size K w need env p m s lives → K.label e m.regs.q m.regs.r → s.left ≡ suc left → RefinesOutcome setting.text setting.size Finished K K.label m s (Behind setting.text setting.size go) m.regs.base m.regs.top (NothingShown setting K) (Goes e (with_left left s))
        go_goes e left s h lab is =
            let l = h.label_ends e m.regs.q m.regs.r lab in
            let row_is : effect (object setting.text) setting.size m.regs op.Go 0 0 ≡ plain (On (gone left)) = go_row (suc left) s h e lab (h.left ∙ is) in
            let reach = goes_by setting.text setting.size setting.ends m op.Go 0 0 (gone left) (row_of setting.text setting.size setting.ends m op.Go 0 0 line st go sd) row_is in
            let peak : max m.regs.greatest (m.regs.words (m.regs.q + 2)) ≡ m.regs.greatest = let k = h.peak in omega (arith, l.1, k) in (
              to setting.text setting.size setting.ends m (gone left),
              reach,
              lab,
              refl,
              omega (arith, is),
              record {
                on_base = refl;
                at_top = refl;
                started = h.started;
                keeps = λ q i. refl;
                marks = λ q i. refl;
                holds = h.holds;
                sorts = λ k lt. refl;
                left = refl;
                most = peak ∙ h.most;
                printed = append-nil m.printed ∙ h.printed;
                input = h.input;
                fresh = omega arith;
                fewer = omega (arith, is);
                deeper = omega arith;
                higher = omega (arith, peak);
              },
            )

        go_by : (left : ℕ) (e : ℕ) (s : State Closure) → RunInvariant setting.text setting.size K w need env p m s lives → K.label e m.regs.q m.regs.r → s.left ≡ left → RefinesOutcome setting.text setting.size Finished K K.label m s (Behind setting.text setting.size go) m.regs.base m.regs.top (NothingShown setting K) (charged_by left line lives s (λ s1. Goes e s1))
        go_by zero e s h lab is = go_stops s h (go_row zero s h e lab (h.left ∙ is))
        go_by (suc left) e s h lab is = go_goes e left s h lab is

        pub goes_run : (d : Destination) (s : State Closure) → RunInvariant setting.text setting.size K w need env p m s lives → IsDestination setting n env p lives next K d m → RefinesOutcome setting.text setting.size Finished K K.label m s (Behind setting.text setting.size go) m.regs.base m.regs.top (NothingShown setting K) (goes_to d line lives s)
        goes_run (To e) s h i = go_by s.left e s h i refl
        goes_run Undefined s h i =
            let m1 : Regs = record m.regs { place = m.regs.place + 1 } in
            let is : effect (object setting.text) setting.size m.regs op.Go 0 0 ≡ plain (On m1) = ap (λ t. if t then on (object setting.text) setting.size m.regs m.regs else word_at (object setting.text) setting.size m.regs (m.regs.q + 2) (λ top. needs (nat_le top setting.size && nat_lt m.regs.r (length (object setting.text))) (pays (object setting.text) setting.size m.regs m.regs.left m.regs.r (record m.regs { base = m.regs.q; top = top; greatest = max m.regs.greatest top })))) (eq-eqb m.regs.r 0 i) ∙ on_row setting.text setting.size setting.ends m.regs next_is m.regs in
            let c = comes setting.text setting.size setting.ends m op.Go 0 0 line st go m1 sd is refl in
            let stays : Stays setting.text setting.size m (to setting.text setting.size setting.ends m m1) = record { words = refl; marks = refl; base = refl; top = refl; started = refl; left = refl; most = refl; printed = append-nil m.printed; input = refl; depth = refl } in
            (to setting.text setting.size setting.ends m m1, c.reach, (behind_word st line, c.at, c.place), tt, stays_after setting.text setting.size K w need env p m (to setting.text setting.size setting.ends m m1) s lives h stays)

      pub jump_runs : (line : ℕ) (e : Expr) → FairTarget p e → (level : ℕ) → Runs setting.text setting.size setting.ends setting.small n env p lives Finished (NothingShown setting) (need_expr (scopes_of p) e) (coded.then_order op.Go line (code_label p e) level) (λ s. then_do (destination setting.size next (expr e) env lives s) (λ d s1. goes_to d line lives s1))
      jump_runs line e f level K w m s st go le h at here =
          let behind_label : Following = λ s1. order op.Go 0 0 line s1 go in
          let need : ℕ = need_expr (scopes_of p) e in
          follow_then setting.text setting.size Destination Finished K K.label m s (Behind setting.text setting.size behind_label) m.regs.base m.regs.top (IsDestination setting n env p lives next K) (destination setting.size next (expr e) env lives s) (Behind setting.text setting.size go) m.regs.base m.regs.top (NothingShown setting K) (λ d s1. goes_to d line lives s1)
          (target_runs e f level K w m s st behind_label le h at here)
          (λ d s1 m1 reach goal shown af.
          let h1 = here_after setting.text setting.size K w need env p m m1 s s1 lives h af in
          let sd : AtOrder setting.text setting.size setting.ends m1 op.Go 0 0 line goal.0 go = record { at = goal.1; here = goal.2; started = h1.started; low = omega arith; small = omega arith; fields = refl; other = λ e. absurd (omega (arith, e)) } in
          onwards setting.text setting.size Finished K K.label m m1 s s1 (Behind setting.text setting.size go) m.regs.base m.regs.top (NothingShown setting K) (goes_to d line lives s1) reach af
          (goes_run K w need m1 line goal.0 go sd d s1 h1 shown))
