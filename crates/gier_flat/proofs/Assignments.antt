-- Assignments: each left part receives the value; and what a label is worth as a value.
use Rattle.std.proofs.Common.{◌≡◌, ℕ, suc, ◌+◌, ◌<◌, ◌≤◌, ℤ, pos, List, [], ◌∷◌, length, Option, Some, None, refl, sym, ap, ◌∙◌, subst, arith, ⊎_elim}
use Rattle.std.specs.Prelude.{◌==◌, ◌^◌, if◌then◌else◌, ⊤}
use Rattle.std.proofs.lemmas.Bool.{lt-ltb, ne_eqb, eq-eqb, cases_eq}
use Rattle.std.proofs.lemmas.List.{append-nil}
use Rattle.gier_agree.specs.declared.kind.Kind.{Kind as Fitting}
use Rattle.gier_word.specs.Words.{int_of_word}
use Rattle.gier_order.specs.declared.operation.Operation.TheVariants as op
use Rattle.gier_order.specs.Flat.Row.{Regs, On, plain}
use Rattle.gier_order.specs.Flat.Region.{put}
use Rattle.gier_order.specs.Flat.Rows.{effect, on}
use Rattle.gier_tree.specs.declared.kind.Kind.{Kind}
use Rattle.gier_tree.specs.declared.kind.Kind.TheVariants.{Label}
use Rattle.gier_tree.specs.Orders as code
use Rattle.gier_tree.specs.Orders.{Following, Code, order, with_label, number_of, behind_word}
use Rattle.gier_tree.specs.Object.{words_of, piece_of}
use Rattle.gier_tree.specs.Object as object
use Rattle.gier_tree.specs.Coded.{scopes_of, label_code}
use Rattle.gier_tree.specs.Need.{need_assignment}
use Rattle.gier_tree.specs.Text7.{puts, assignment_code}
use Rattle.gier_tree.specs.Lines.{first_left}
use Rattle.gier_env.specs.Statements.{run}
use Rattle.gier_meaning.specs.Tree.{Assign}
use Rattle.gier_tree.specs.Places.{Placed, Places}
use Rattle.gier_tree.specs.Trees as tree
use Rattle.gier_tree.specs.Trees.{LeftSide, OneName, LeftElement, LeftPart}
use Rattle.gier_meaning.specs.Plain.{expr, left_parts}
use Rattle.gier_meaning.specs.Live.{Live}
use Rattle.gier_meaning.specs.State.{Entity, Nothing, ACell, AnArray, ALabel, Kept, State, with_entity, with_value}
use Rattle.gier_meaning.specs.Address.{Address, CellAt, ElementAt, value_in, cell_with, receive}
use Rattle.gier_meaning.specs.Arrays.{no_elements}
use Rattle.gier_meaning.specs.Entities.{label_at}
use Rattle.gier_meaning.specs.Destinations.{Destination, To, Undefined}
use Rattle.gier_meaning.specs.Outcome.{Outcome, Gives, Goes, Stops, Finished, Done, then_do}
use Rattle.gier_env.specs.Env.{Env, Denoted, AnEntity, AProcedure, AFormalProcedure, AText, AStandard, AnActual}
use Rattle.gier_env.specs.Tasks.{Next}
use Rattle.gier_env.specs.Closures.{Closure}
use Rattle.gier_env.specs.Expressions.{value, addresses}
use Rattle.gier_env.specs.Names.{destination_of}
use Rattle.gier_flat.proofs.Positions.{At}
use Rattle.gier_flat.proofs.OrderRows.{Machine, object}
use Rattle.gier_flat.proofs.StackRelation.{Known, sort, IsLabel, Shows, RunInvariant, StateAfter, RefinesOutcome, Behind, here_after}
use Rattle.gier_flat.proofs.Composition.{put_same, put_other, follow_then, onwards, stays_after}
use Rattle.gier_flat.proofs.Orders.{to, AtOrder, AtLabelledOrder, far, labelled_far, comes, labelled_row_of, goes_by, labelled_next, on_row, needed}
use Rattle.gier_flat.specs.Fair.{FairExpr, FairLefts}
use Rattle.gier_flat.proofs.Setting.{Setting}
use Rattle.gier_flat.proofs.Values.{Shown, Runs, no_cell}
use Rattle.gier_flat.proofs.LeftParts.{seeks, level_row, named_stays, paired, IsPlace, ArePlaces, Parts, parts, lefts_run}

-- what a cell is stays
sort_put : (x : Entity Closure) (v : ℤ) → sort (cell_with x v) ≡ sort x
sort_put Nothing v = refl
sort_put (ACell kind old) v = refl
sort_put (AnArray kind bounds elements) v = refl
sort_put ALabel v = refl
sort_put (Kept k) v = refl

sort_changed : (store : ℕ → Entity Closure) (e k : ℕ) (v : ℤ) → sort (with_value store e (cell_with (store e) v) k) ≡ sort (store k)
sort_changed store e k v = ⊎_elim (λ i. ap sort (if_is k e (cell_with (store e) v) (store k) i) ∙ sort_put (store e) v ∙ ap (λ x. sort (store x)) (sym i)) (λ i. ap sort (if_not k e (cell_with (store e) v) (store k) i)) (cases_eq k e)
  where
    if_is : (a b : ℕ) (x y : Entity Closure) → a ≡ b → (if a == b then x else y) ≡ x
    if_is a b x y i = ap (λ t. if t then x else y) (eq-eqb a b i)

    if_not : (a b : ℕ) (x y : Entity Closure) → (a ≡ b → ⊥) → (if a == b then x else y) ≡ y
    if_not a b x y i = ap (λ t. if t then x else y) (ne_eqb a b i)

put_value : (x : Entity Closure) (kind : Fitting) (v : ℤ) → sort x ≡ ACell kind (pos 0) → value_in (cell_with x v) ≡ v
put_value Nothing kind v e = absurd (no_cell Nothing kind e)
put_value (ACell k old) kind v e = refl
put_value (AnArray k bounds elements) kind v e = absurd (no_cell (AnArray k bounds no_elements) kind e)
put_value ALabel kind v e = absurd (no_cell ALabel kind e)
put_value (Kept k) kind v e = absurd (no_cell (Kept k) kind e)

abbrev NotLabel : Entity Closure → Type 0
NotLabel Nothing = ⊤
NotLabel (ACell k v) = ⊤
NotLabel (AnArray k bounds elements) = ⊤
NotLabel ALabel = ⊥
NotLabel (Kept k) = ⊤

abbrev IsNoLabel : Kind → Type 0
IsNoLabel Label = ⊥
IsNoLabel kind = ⊤

module _ (setting : Setting) where
  abbrev pub NothingShown : Shown setting.text setting.size setting.ends setting.small Finished
  NothingShown K d m = Unit {0}

  module _ (n : ℕ) (env : Env) (p : Places) (lives : Live) where
    -- one left part receives what R has
    module _ (K : Known) (w0 need : ℕ) (m : Machine) (s : State Closure) (e q : ℕ) (v : ℤ) (h : RunInvariant setting.text setting.size K w0 need env p m s lives) (cell : K.cell e q) (shown : int_of_word m.regs.r ≡ v) where
      abbrev pub put_there : Machine
      put_there = to setting.text setting.size setting.ends m (record m.regs { words = put m.regs.words q m.regs.r; place = m.regs.place + 1 })

      abbrev pub received : State Closure
      received = with_entity e (cell_with (s.store e) v) s

      put_other_cell : (d i : ℕ) → K.cell d i → (d ≡ e → ⊥) → int_of_word (put m.regs.words q m.regs.r i) ≡ value_in (with_value s.store e (cell_with (s.store e) v) d)
      put_other_cell d i c other =
          let away : i ≡ q → ⊥ = λ f. other (h.other d e q (subst (K.cell d) f c) cell) in
          ap int_of_word (put_other m.regs.words q m.regs.r i away) ∙ h.holds d i c ∙ sym (ap value_in (ap (λ t. if t then cell_with (s.store e) v else s.store d) (ne_eqb d e other)))

      put_this_cell : (d i : ℕ) → K.cell d i → d ≡ e → int_of_word (put m.regs.words q m.regs.r i) ≡ value_in (with_value s.store e (cell_with (s.store e) v) d)
      put_this_cell d i c f =
          let same : i ≡ q = h.one_cell e i q (subst (λ x. K.cell x i) f c) cell in
          let is = h.cells e q cell in
          ap int_of_word (put_same m.regs.words q m.regs.r i same) ∙ shown ∙ sym (ap value_in (ap (λ t. if t then cell_with (s.store e) v else s.store d) (eq-eqb d e f)) ∙ put_value (s.store e) is.0 v is.1)

      pub put_after : StateAfter setting.text setting.size K m put_there s received m.regs.base m.regs.top
      put_after = record {
        on_base = refl;
        at_top = refl;
        started = h.started;
        keeps = λ i k. put_other m.regs.words q m.regs.r i (λ f. absurd (h.apart e q cell (subst K.word f k)));
        marks = λ i k. refl;
        holds = λ d i c. ⊎_elim (put_this_cell d i c) (put_other_cell d i c) (cases_eq d e);
        sorts = λ k lt. sort_changed s.store e k v;
        left = h.left;
        most = h.most;
        printed = append-nil m.printed ∙ h.printed;
        input = h.input;
        fresh = omega arith;
        fewer = omega arith;
        deeper = omega arith;
        higher = omega arith;
      }

    module _ (next : Next) where
      places_keep : (K : Known) (words words1 : ℕ → ℕ) (those : List Address) (q : ℕ) → ((i : ℕ) → q ≤ i → i < q + length those → words1 i ≡ words i) → ArePlaces setting n env p lives next K words q those → ArePlaces setting n env p lives next K words1 q those
      places_keep K words words1 [] q same a = tt
      places_keep K words words1 (f ∷ those) q same a = (subst (IsPlace setting n env p lives K f) (sym (same q (omega arith) (omega arith))) a.0, places_keep K words words1 those (q + 1) (λ i lo hi. same i (omega (arith, lo)) (omega (arith, hi))) a.1)

      pub puts_run : (those : List Address) (v : ℤ) (K : Known) (w0 need w line : ℕ) (m : Machine) (s : State Closure) (st : code.State) (go : Following) → RunInvariant setting.text setting.size K w0 need env p m s lives → w0 ≤ w → w + length those ≤ w0 + need → ArePlaces setting n env p lives next K m.regs.words (m.regs.base + w) those → int_of_word m.regs.r ≡ v → At setting.text st (puts (length those) w line st go) → m.regs.place ≡ st.words → RefinesOutcome setting.text setting.size Finished K K.label m s (Behind setting.text setting.size go) m.regs.base m.regs.top (NothingShown K) (Gives Done (receive those v s))
      puts_run [] v K w0 need w line m s st go h lo hi places shown at here =
          (m, (λ k. (k, refl)), (st, at, here), tt, record { on_base = refl; at_top = refl; started = h.started; keeps = λ i k. refl; marks = λ i k. refl; holds = h.holds; sorts = λ k lt. refl; left = h.left; most = h.most; printed = h.printed; input = h.input; fresh = omega arith; fewer = omega arith; deeper = omega arith; higher = omega arith })
      puts_run (ElementAt e subscripts ∷ those) v K w0 need w line m s st go h lo hi places shown at here = absurd places.0
      puts_run (CellAt e ∷ those) v K w0 need w line m s st go h lo hi places shown at here =
          let q : ℕ = m.regs.words (m.regs.base + w) in
          let cell = places.0 in
          let fit : m.regs.base + w < setting.size = let r = h.room in let f = h.fits in omega (arith, hi) in
          let small_w : w < 2 ^ 24 = omega (arith, fit, setting.small) in
          let fit_q : q < setting.size = let l = h.low_cell e q cell in let f = h.fits in omega arith in
          let rest : Following = λ s1. puts (length those) (w + 1) line s1 go in
          let sd : AtOrder setting.text setting.size setting.ends m op.Put 0 w line st rest = record { at = at; here = here; started = h.started; low = omega arith; small = small_w; fields = refl; other = λ e. absurd (omega (arith, e)) } in
          let next_is = far setting.text setting.size setting.ends m op.Put 0 w line st rest sd in
          let m1r : Regs = record m.regs { words = put m.regs.words q m.regs.r; place = m.regs.place + 1 } in
          let is : effect (object setting.text) setting.size m.regs op.Put 0 w ≡ plain (On m1r) =
          needed _ _ (lt-ltb (m.regs.base + w) setting.size fit) ∙ needed _ _ (lt-ltb q setting.size fit_q) ∙ on_row setting.text setting.size setting.ends m.regs next_is (record m.regs { words = put m.regs.words q m.regs.r }) in
          let c = comes setting.text setting.size setting.ends m op.Put 0 w line st rest m1r sd is refl in
          let m1 : Machine = to setting.text setting.size setting.ends m m1r in
          let s1 : State Closure = with_entity e (cell_with (s.store e) v) s in
          let af : StateAfter setting.text setting.size K m m1 s s1 m.regs.base m.regs.top = put_after K w0 need m s e q v h cell shown in
          let h1 : RunInvariant setting.text setting.size K w0 need env p m1 s1 lives = here_after setting.text setting.size K w0 need env p m m1 s s1 lives h af in
          let same : (i : ℕ) → m.regs.base + w + 1 ≤ i → i < m.regs.base + w + 1 + length those → put m.regs.words q m.regs.r i ≡ m.regs.words i =
          λ i l u. put_other m.regs.words q m.regs.r i (λ f. ⊎_elim (λ g. absurd (omega (arith, f, g, l, lo))) (λ g. absurd (omega (arith, f, g, u, hi))) (h.spared_cell e q cell)) in
          let where_rest : m.regs.base + w + 1 ≡ m.regs.base + (w + 1) = omega arith in
          let kept1 = subst (λ i. ArePlaces setting n env p lives next K m1.regs.words i those) where_rest (places_keep K m.regs.words m1.regs.words those (m.regs.base + w + 1) same places.1) in
          onwards setting.text setting.size Finished K K.label m m1 s s1 (Behind setting.text setting.size go) m.regs.base m.regs.top (NothingShown K) (Gives Done (receive those v s1)) c.reach af
          (puts_run those v K w0 need (w + 1) line m1 s1 (behind_word st line) go h1 (omega (arith, lo)) (omega (arith, hi)) kept1 shown c.at c.place)

      -- ---- assignments

      need_enough : (qs : List LeftPart) (e : tree.Expr) (b : ℕ) → b + length qs ≤ need_assignment (scopes_of p) qs e b
      need_enough [] e b = omega arith
      need_enough (q ∷ qs) e b = let r = need_enough qs e (suc b) in omega arith

      assigned_parts : (r : Outcome Closure (List Address)) (f : State Closure → Outcome Closure ℤ)
          → then_do r (λ those s1. then_do (f s1) (λ v s2. Gives Done (receive those v s2)))
          ≡ then_do (then_do r (λ those s1. then_do (f s1) (λ v s2. paired setting n env p lives those v s2))) (λ x s3. Gives Done (receive x.0 x.1 s3))
      assigned_parts (Gives those s1) f = by (f s1)
        where
          by : (r : Outcome Closure ℤ) → then_do r (λ v s2. Gives Done (receive those v s2)) ≡ then_do (then_do r (λ v s2. paired setting n env p lives those v s2)) (λ x s3. Gives Done (receive x.0 x.1 s3))
          by (Gives v s2) = refl
          by (Goes k s2) = refl
          by (Stops why stop s2) = refl
      assigned_parts (Goes k s1) f = refl
      assigned_parts (Stops why stop s1) f = refl

      pub assignment_runs : (q : LeftPart) (qs : List LeftPart) (e : tree.Expr) → FairLefts p (q ∷ qs) → FairExpr p e → (level : ℕ) → Runs setting.text setting.size setting.ends setting.small n env p lives Finished NothingShown (need_assignment (scopes_of p) (q ∷ qs) e 0) (assignment_code p q qs e level) (λ s. run setting.size next (Assign (left_parts (q ∷ qs)) (expr e)) env lives s)
      assignment_runs q qs e fl fe level K w m s st go le h at here =
          let line : ℕ = first_left q.left in
          let need : ℕ = need_assignment (scopes_of p) (q ∷ qs) e 0 in
          let many : ℕ = suc (length qs) in
          let behind_right : Following = λ s1. puts many w line s1 go in
          let base : ℕ = m.regs.base in
          let top : ℕ = m.regs.top in
          let Pair : Type 0 = List Address × ℤ in
          subst (λ u. RefinesOutcome setting.text setting.size Finished K K.label m s (Behind setting.text setting.size go) base top (NothingShown K) u) (sym (assigned_parts (addresses setting.size next (left_parts (q ∷ qs)) env lives s) (λ s1. value setting.size next (expr e) env lives s1)))
          (follow_then setting.text setting.size Pair Finished K K.label m s (Behind setting.text setting.size behind_right) base top (Parts setting n env p lives next many w K) (parts setting n env p lives next (q ∷ qs) e s) (Behind setting.text setting.size go) base top (NothingShown K) (λ x s3. Gives Done (receive x.0 x.1 s3))
          (lefts_run setting n env p lives next (q ∷ qs) e fl fe line level K w m s st behind_right le h at here)
          (λ x s1 m1 reach goal shown af.
          let h1 = here_after setting.text setting.size K w need env p m m1 s s1 lives h af in
          let enough : w + length x.0 ≤ w + need = let r = need_enough (q ∷ qs) e 0 in let c = shown.2 in omega arith in
          let at1 : At setting.text goal.0 (puts (length x.0) w line goal.0 go) = subst (λ k. At setting.text goal.0 (puts k w line goal.0 go)) (sym shown.2) goal.1 in
          onwards setting.text setting.size Finished K K.label m m1 s s1 (Behind setting.text setting.size go) base top (NothingShown K) (Gives Done (receive x.0 x.1 s1)) reach af
          (puts_run x.0 x.1 K w need w line m1 s1 goal.0 go h1 (omega arith) enough shown.0 shown.1 at1 goal.2)))

      -- ---- go to

      abbrev pub IsDestination : Shown setting.text setting.size setting.ends setting.small Destination
      IsDestination K (To e) m = K.label e m.regs.q m.regs.r
      IsDestination K Undefined m = m.regs.r ≡ 0

      label_gives : (x : Entity Closure) (e line : ℕ) (s : State Closure) → sort x ≡ ALabel → label_at x e line lives s ≡ Gives (To e) s
      label_gives Nothing e line s f = absurd (subst NotLabel f tt)
      label_gives (ACell k v) e line s f = absurd (subst NotLabel f tt)
      label_gives (AnArray k bounds elements) e line s f = absurd (subst NotLabel f tt)
      label_gives ALabel e line s f = refl
      label_gives (Kept k) e line s f = absurd (subst NotLabel f tt)

      labelled_value : (at : Placed) (d : Option Denoted) (line : ℕ) → ((K : Known) (w need : ℕ) (m : Machine) (s : State Closure) → RunInvariant setting.text setting.size K w need env p m s lives → (b : ℕ) → K.frame env p b → IsLabel setting.text K m.regs.words s.store b at d) → Runs setting.text setting.size setting.ends setting.small n env p lives Destination IsDestination 0 (λ w. with_label op.Lab at.level at.address line) (λ s. destination_of setting.size next d line lives s)
      labelled_value at None line shows K w m s st go le h here place = absurd (shows K w 0 m s h h.sees.0 h.sees.3)
      labelled_value at (Some (AProcedure e)) line shows K w m s st go le h here place = absurd (shows K w 0 m s h h.sees.0 h.sees.3)
      labelled_value at (Some (AFormalProcedure e)) line shows K w m s st go le h here place = absurd (shows K w 0 m s h h.sees.0 h.sees.3)
      labelled_value at (Some (AText e)) line shows K w m s st go le h here place = absurd (shows K w 0 m s h h.sees.0 h.sees.3)
      labelled_value at (Some (AStandard e)) line shows K w m s st go le h here place = absurd (shows K w 0 m s h h.sees.0 h.sees.3)
      labelled_value at (Some (AnActual meant k e xe)) line shows K w m s st go le h here place = absurd (shows K w 0 m s h h.sees.0 h.sees.3)
      labelled_value at (Some (AnEntity e)) line shows K w m s st go le h here place =
          let v = shows K w 0 m s h h.sees.0 h.sees.3 in
          let a : ℕ = object.address_of setting.text at.address 0 in
          let found_at = seeks setting n env p lives K w 0 m s at.level v.0 v.1 h v.6 v.2 in
          let sd : AtLabelledOrder setting.text setting.size setting.ends m op.Lab at.level at.address line st go = record { at = here; here = place; started = h.started; low = v.7; small = v.8; near = v.9; fields = refl } in
          let next_is = labelled_far setting.text setting.size setting.ends m op.Lab at.level at.address line st go sd in
          let m1 : Regs = record m.regs { r = a; q = v.0; place = m.regs.place + 1 } in
          let is : effect (object setting.text) setting.size m.regs op.Lab at.level a ≡ plain (On m1) = level_row setting m.regs at.level v.0 (λ b. on (object setting.text) setting.size m.regs (record m.regs { r = a; q = b })) found_at ∙ on_row setting.text setting.size setting.ends m.regs next_is (record m.regs { r = a; q = v.0 }) in
          let reach = goes_by setting.text setting.size setting.ends m op.Lab at.level a m1 (labelled_row_of setting.text setting.size setting.ends m op.Lab at.level at.address line st go sd) is in
          subst (λ u. RefinesOutcome setting.text setting.size Destination K K.label m s (Behind setting.text setting.size go) m.regs.base m.regs.top (IsDestination K) u) (sym (label_gives (s.store e) e line s v.5))
          (to setting.text setting.size setting.ends m m1, reach, (behind_word st line, labelled_next setting.text setting.size setting.ends op.Lab at.level at.address line st go here, omega (arith, place)), v.3, stays_after setting.text setting.size K w 0 env p m (to setting.text setting.size setting.ends m m1) s lives h (named_stays setting m a v.0))

      pub label_runs : (kind : Kind) (count : ℕ) (formals : List Kind) (l a : ℕ) (d : Option Denoted) (line level : ℕ) → kind ≡ Label → ((K : Known) (w need : ℕ) (m : Machine) (s : State Closure) → RunInvariant setting.text setting.size K w need env p m s lives → (b : ℕ) → K.frame env p b → Shows setting.text K m.regs.words s.store b kind (record { what = record { kind = kind; count = count; formals = formals }; level = l; address = a }) d) → Runs setting.text setting.size setting.ends setting.small n env p lives Destination IsDestination 0 (label_code (record { what = record { kind = kind; count = count; formals = formals }; level = l; address = a }) line level) (λ s. destination_of setting.size next d line lives s)
      label_runs Label count formals l a d line level e shows = labelled_value (record { what = record { kind = Label; count = count; formals = formals }; level = l; address = a }) d line shows
      label_runs kind count formals l a d line level e shows = absurd (subst IsNoLabel e tt)
