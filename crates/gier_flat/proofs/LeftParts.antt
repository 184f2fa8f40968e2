-- The left parts of an assignment: their addresses come to be in working places.
use Rattle.std.proofs.Common.{◌≡◌, ℕ, suc, ◌+◌, ◌<◌, ◌≤◌, ℤ, pos, List, [], ◌∷◌, length, Option, Some, None, refl, sym, ap, ◌∙◌, subst, arith, inr}
use Rattle.std.specs.Prelude.{⊤}
use Rattle.std.proofs.lemmas.List.{append-nil}
use Rattle.gier_agree.specs.declared.kind.Kind.{Kind as Fitting}
use Rattle.gier_agree.specs.declared.kind.Kind.TheVariants.{Integer, Boolean}
use Rattle.gier_word.specs.Words.{int_of_word}
use Rattle.gier_order.specs.declared.operation.Operation.TheVariants as op
use Rattle.gier_order.specs.Flat.Row.{Regs, On, Row, plain}
use Rattle.gier_order.specs.Flat.Region.{seek}
use Rattle.gier_order.specs.Flat.Rows as rows
use Rattle.gier_order.specs.Flat.Rows.{effect, from_base, word_at, gives, goes, stops, pays, on, local}
use Rattle.gier_tree.specs.declared.kind.Kind.{Kind}
use Rattle.gier_tree.specs.declared.kind.Kind.TheVariants.{IntegerVariable, BooleanVariable, IntegerValue, BooleanValue}
use Rattle.gier_tree.specs.Orders as code
use Rattle.gier_tree.specs.Orders.{Following, Code, order, with_label, number_of, behind_word}
use Rattle.gier_tree.specs.Coded.{scopes_of, code_expr, label_code}
use Rattle.gier_tree.specs.Coded as coded
use Rattle.gier_tree.specs.Need.{need_expr, need_assignment}
use Rattle.gier_tree.specs.Text7.{left_code, lefts_code}
use Rattle.gier_tree.specs.Places.{Placed, Places}
use Rattle.gier_tree.specs.Trees as tree
use Rattle.gier_tree.specs.Trees.{LeftSide, OneName, LeftElement, LeftPart}
use Rattle.gier_meaning.specs.Plain.{expr, left_side, left_parts}
use Rattle.gier_meaning.specs.Live.{Live}
use Rattle.gier_meaning.specs.State.{Entity, Nothing, ACell, AnArray, ALabel, Kept, State}
use Rattle.gier_meaning.specs.Address.{Address, CellAt, ElementAt}
use Rattle.gier_meaning.specs.Arrays.{no_elements}
use Rattle.gier_meaning.specs.Entities.{cell_address}
use Rattle.gier_meaning.specs.Outcome.{Outcome, Gives, Goes, Stops, then_do}
use Rattle.gier_env.specs.Env.{Env, Denoted, AnEntity, AProcedure, AFormalProcedure, AText, AStandard, AnActual, found}
use Rattle.gier_env.specs.Tasks.{Next}
use Rattle.gier_env.specs.Closures.{Closure}
use Rattle.gier_env.specs.Expressions.{value, addresses, left_address}
use Rattle.gier_env.specs.Names.{address_of}
use Rattle.gier_flat.proofs.Positions.{At}
use Rattle.gier_flat.proofs.OrderRows.{Machine, object}
use Rattle.gier_flat.proofs.StackRelation.{Known, sort, Walk, behind_zeros, walked, IsVariable, Shows, IsPlain, RunInvariant, RefinesOutcome, Behind, here_after}
use Rattle.gier_flat.proofs.Composition.{follow_then, onwards, wants, WithKeptWord, Stays, stays_after}
use Rattle.gier_flat.proofs.Orders.{to, AtOrder, far, comes, on_row}
use Rattle.gier_flat.specs.Fair.{IsCell, FairExpr, FairLeft, FairLefts}
use Rattle.gier_flat.proofs.Setting.{Setting}
use Rattle.gier_flat.proofs.Values.{Shown, Same, Runs, keeps, no_cell}
use Rattle.gier_flat.proofs.Expressions.{expr_runs}

module _ (setting : Setting) where
  -- only R, Q and the place change
  pub named_stays : (m : Machine) (r q : ℕ) → Stays setting.text setting.size m (to setting.text setting.size setting.ends m (record m.regs { r = r; q = q; place = m.regs.place + 1 }))
  named_stays m r q = record { words = refl; marks = refl; base = refl; top = refl; started = refl; left = refl; most = refl; printed = append-nil m.printed; input = refl; depth = refl }

  pub level_row : (m : Regs) (l to : ℕ) (go : ℕ → Row) → seek (suc m.base) setting.size m.words l m.base ≡ Some to → rows.in_level (object setting.text) setting.size m l go ≡ go to
  level_row m l to go e = ap (from_base (object setting.text) setting.size m go) e

  module _ (n : ℕ) (env : Env) (p : Places) (lives : Live) where
    -- the activation of a level, from where the machine is
    pub seeks : (K : Known) (w need : ℕ) (m : Machine) (s : State Closure) (l b1 hops : ℕ) (h : RunInvariant setting.text setting.size K w need env p m s lives) → 0 < l → Walk K m.regs.words hops h.sees.0 l b1 → seek (suc m.regs.base) setting.size m.regs.words l m.regs.base ≡ Some b1
    seeks K w need m s l b1 hops h up walk =
        let inside : (i : ℕ) → K.word i → i < setting.size = λ i k. let a = h.low i k in let f = h.fits in omega arith in
        walked K m.regs.words setting.size (h.sees.1 + hops) (suc m.regs.base) m.regs.base l b1 inside (omega arith) (behind_zeros K m.regs.words h.sees.1 hops m.regs.base h.sees.0 l b1 up h.sees.2 walk)

    -- ---- addresses of variables

    abbrev pub IsPlace : Known → Address → ℕ → Type 0
    IsPlace K (CellAt e) q = K.cell e q
    IsPlace K (ElementAt e subscripts) q = ⊥

    abbrev pub InR : Shown setting.text setting.size setting.ends setting.small Address
    InR K a m = IsPlace K a m.regs.r

    cell_place : (kind : Fitting) (x : Entity Closure) → sort x ≡ ACell kind (pos 0) → (e line : ℕ) (s : State Closure) → cell_address x e line lives s ≡ Gives (CellAt e) s
    cell_place kind Nothing f e line s = absurd (no_cell Nothing kind f)
    cell_place kind (ACell k v) f e line s = refl
    cell_place kind (AnArray k bounds elements) f e line s = absurd (no_cell (AnArray k bounds no_elements) kind f)
    cell_place kind ALabel f e line s = absurd (no_cell ALabel kind f)
    cell_place kind (Kept k) f e line s = absurd (no_cell (Kept k) kind f)

    abbrev pub paired : List Address → ℤ → State Closure → Outcome Closure (List Address × ℤ)
    paired found v s = Gives (found, v) s

    abbrev preceded : Address → (List Address × ℤ) → State Closure → Outcome Closure (List Address × ℤ)
    preceded a x s = Gives (a ∷ x.0, x.1) s

    module _ (next : Next) where
      addressed : (K : Known) (w need : ℕ) (m : Machine) (s : State Closure) (kind : Fitting) (at : Placed) (d : Option Denoted) (line : ℕ) (st : code.State) (go : Following) → RunInvariant setting.text setting.size K w need env p m s lives → ((b : ℕ) → K.frame env p b → IsVariable setting.text K m.regs.words s.store b kind at d) → At setting.text st (order op.Addr at.level at.address line st go) → m.regs.place ≡ st.words → RefinesOutcome setting.text setting.size Address K K.label m s (Behind setting.text setting.size go) m.regs.base m.regs.top (InR K) (address_of setting.size next d line lives s)
      addressed K w need m s kind at None line st go h shows here place = absurd (shows h.sees.0 h.sees.3)
      addressed K w need m s kind at (Some (AProcedure e)) line st go h shows here place = absurd (shows h.sees.0 h.sees.3)
      addressed K w need m s kind at (Some (AFormalProcedure e)) line st go h shows here place = absurd (shows h.sees.0 h.sees.3)
      addressed K w need m s kind at (Some (AText e)) line st go h shows here place = absurd (shows h.sees.0 h.sees.3)
      addressed K w need m s kind at (Some (AStandard e)) line st go h shows here place = absurd (shows h.sees.0 h.sees.3)
      addressed K w need m s kind at (Some (AnActual meant k e xe)) line st go h shows here place = absurd (shows h.sees.0 h.sees.3)
      addressed K w need m s kind at (Some (AnEntity e)) line st go h shows here place =
          let v = shows h.sees.0 h.sees.3 in
          let q : ℕ = v.0 + at.address in
          let found_at = seeks K w need m s at.level v.0 v.1 h v.6 v.2 in
          let sd : AtOrder setting.text setting.size setting.ends m op.Addr at.level at.address line st go = record { at = here; here = place; started = h.started; low = v.7; small = v.8; fields = refl; other = λ e. absurd (omega (arith, e)) } in
          let next_is = far setting.text setting.size setting.ends m op.Addr at.level at.address line st go sd in
          let m1 : Regs = record m.regs { r = q; place = m.regs.place + 1 } in
          let is : effect (object setting.text) setting.size m.regs op.Addr at.level at.address ≡ plain (On m1) = level_row m.regs at.level v.0 (λ b. gives (object setting.text) setting.size m.regs (b + at.address)) found_at ∙ on_row setting.text setting.size setting.ends m.regs next_is (record m.regs { r = q }) in
          let c = comes setting.text setting.size setting.ends m op.Addr at.level at.address line st go m1 sd is refl in
          subst (λ u. RefinesOutcome setting.text setting.size Address K K.label m s (Behind setting.text setting.size go) m.regs.base m.regs.top (InR K) u) (sym (cell_place kind (s.store e) v.5 e line s))
          (to setting.text setting.size setting.ends m m1, c.reach, (behind_word st line, c.at, c.place), v.3, stays_after setting.text setting.size K w need env p m (to setting.text setting.size setting.ends m m1) s lives h (named_stays m q m.regs.q))

      address_runs : (kind : Kind) (count : ℕ) (formals : List Kind) (l a : ℕ) (d : Option Denoted) (line : ℕ) → IsCell kind → ((K : Known) (w need : ℕ) (m : Machine) (s : State Closure) → RunInvariant setting.text setting.size K w need env p m s lives → (b : ℕ) → K.frame env p b → Shows setting.text K m.regs.words s.store b kind (record { what = record { kind = kind; count = count; formals = formals }; level = l; address = a }) d) → Runs setting.text setting.size setting.ends setting.small n env p lives Address InR 0 (λ w. coded.address_of (record { what = record { kind = kind; count = count; formals = formals }; level = l; address = a }) line) (λ s. address_of setting.size next d line lives s)
      address_runs IntegerVariable count formals l a d line f shows = λ K w m s st go le h at here. addressed K w 0 m s Integer (record { what = record { kind = IntegerVariable; count = count; formals = formals }; level = l; address = a }) d line st go h (shows K w 0 m s h) at here
      address_runs BooleanVariable count formals l a d line f shows = λ K w m s st go le h at here. addressed K w 0 m s Boolean (record { what = record { kind = BooleanVariable; count = count; formals = formals }; level = l; address = a }) d line st go h (shows K w 0 m s h) at here
      address_runs IntegerValue count formals l a d line f shows = λ K w m s st go le h at here. addressed K w 0 m s Integer (record { what = record { kind = IntegerValue; count = count; formals = formals }; level = l; address = a }) d line st go h (shows K w 0 m s h) at here
      address_runs BooleanValue count formals l a d line f shows = λ K w m s st go le h at here. addressed K w 0 m s Boolean (record { what = record { kind = BooleanValue; count = count; formals = formals }; level = l; address = a }) d line st go h (shows K w 0 m s h) at here
      address_runs kind count formals l a d line f shows = absurd f

      plain_cell : (kind : Kind) → IsCell kind → IsPlain kind
      plain_cell IntegerVariable f = tt
      plain_cell BooleanVariable f = tt
      plain_cell IntegerValue f = tt
      plain_cell BooleanValue f = tt
      plain_cell kind f = absurd f

      left_runs : (q : LeftSide) → FairLeft p q → (level : ℕ) → Runs setting.text setting.size setting.ends setting.small n env p lives Address InR 0 (left_code p q level) (λ s. left_address setting.size next (left_side q) env lives s)
      left_runs (OneName x) f level = λ K w m s st go le h at here.
          let e = h.lefts env p h.sees.0 h.sees.3 x.number (plain_cell (p x.number).what.kind f) in
          subst (λ d. RefinesOutcome setting.text setting.size Address K K.label m s (Behind setting.text setting.size go) m.regs.base m.regs.top (InR K) (address_of setting.size next d x.line lives s)) (sym e)
          (address_runs (p x.number).what.kind (p x.number).what.count (p x.number).what.formals (p x.number).level (p x.number).address (found env x.number) x.line f (λ K w need m s h b i. h.frames env p b i x.number) K w m s st go le h at here)
      left_runs (LeftElement e) f level = absurd f

      -- ---- left parts, and then the setting.right side

      -- the addresses stand in working places from a place on
      abbrev pub ArePlaces : Known → (ℕ → ℕ) → ℕ → List Address → Type 0
      ArePlaces K words q [] = ⊤
      ArePlaces K words q (a ∷ as1) = IsPlace K a (words q) × ArePlaces K words (q + 1) as1

      abbrev pub Parts : (count w : ℕ) → Known → (List Address × ℤ) → Machine → Type 0
      Parts count w K x m = ArePlaces K m.regs.words (m.regs.base + w) x.0 × (int_of_word m.regs.r ≡ x.1) × (length x.0 ≡ count)

      abbrev pub parts : List LeftPart → tree.Expr → State Closure → Outcome Closure (List Address × ℤ)
      parts qs e s = then_do (addresses setting.size next (left_parts qs) env lives s) (λ found s1. then_do (value setting.size next (expr e) env lives s1) (λ v s2. paired found v s2))

      nested : (a : Address) (r : Outcome Closure (List Address)) (f : State Closure → Outcome Closure ℤ)
          → then_do (then_do r (λ rest s2. Gives (a ∷ rest) s2)) (λ found s1. then_do (f s1) (λ v s2. paired found v s2))
          ≡ then_do (then_do r (λ found s1. then_do (f s1) (λ v s2. paired found v s2))) (λ x s3. preceded a x s3)
      nested a (Gives rest s) f = by (f s)
        where
          by : (r : Outcome Closure ℤ) → then_do r (λ v s2. paired (a ∷ rest) v s2) ≡ then_do (then_do r (λ v s2. paired rest v s2)) (λ x s3. preceded a x s3)
          by (Gives v s2) = refl
          by (Goes k s2) = refl
          by (Stops why stop s2) = refl
      nested a (Goes k s) f = refl
      nested a (Stops why stop s) f = refl

      -- the first address is known, the others to come
      first_part : (q : LeftPart) (qs : List LeftPart) (e : tree.Expr) (r : Outcome Closure Address)
          → then_do (then_do r (λ a s1. then_do (addresses setting.size next (left_parts qs) env lives s1) (λ rest s2. Gives (a ∷ rest) s2))) (λ found s1. then_do (value setting.size next (expr e) env lives s1) (λ v s2. paired found v s2))
          ≡ then_do r (λ a s1. then_do (parts qs e s1) (λ x s3. preceded a x s3))
      first_part q qs e (Gives a s1) = nested a (addresses setting.size next (left_parts qs) env lives s1) (λ s2. value setting.size next (expr e) env lives s2)
      first_part q qs e (Goes k s1) = refl
      first_part q qs e (Stops why stop s1) = refl

      need_later : (qs : List LeftPart) (e : tree.Expr) (b : ℕ) → need_assignment (scopes_of p) qs e (suc b) ≡ suc (need_assignment (scopes_of p) qs e b)
      need_later [] e b = omega arith
      need_later (q ∷ qs) e b = let r = need_later qs e (suc b) in omega arith

      pub lefts_run : (qs : List LeftPart) (e : tree.Expr) → FairLefts p qs → FairExpr p e → (line level : ℕ) (K : Known) (w : ℕ) (m : Machine) (s : State Closure) (st : code.State) (go : Following) → s.left ≤ n → RunInvariant setting.text setting.size K w (need_assignment (scopes_of p) qs e 0) env p m s lives → At setting.text st (lefts_code p line qs (code_expr p e) level w st go) → m.regs.place ≡ st.words → RefinesOutcome setting.text setting.size (List Address × ℤ) K K.label m s (Behind setting.text setting.size go) m.regs.base m.regs.top (Parts (length qs) w K) (parts qs e s)
      lefts_run [] e fl fe line level K w m s st go le h at here =
          follow_then setting.text setting.size ℤ (List Address × ℤ) K K.label m s (Behind setting.text setting.size go) m.regs.base m.regs.top (Same setting.text setting.size setting.ends setting.small K) (value setting.size next (expr e) env lives s) (Behind setting.text setting.size go) m.regs.base m.regs.top (Parts 0 w K) (λ v s2. paired [] v s2)
          (expr_runs setting n env p lives next e fe level K w m s st go le (wants setting.text setting.size K w (need_assignment (scopes_of p) [] e 0) (need_expr (scopes_of p) e) env p m s lives (omega arith) h) at here)
          (λ v s1 m1 reach goal shown af. (m1, reach, goal, (tt, shown, refl), af))
      lefts_run (q ∷ qs) e fl fe line level K w m s st go le h at here =
          let need : ℕ = need_assignment (scopes_of p) (q ∷ qs) e 0 in
          let need1 : ℕ = need_assignment (scopes_of p) qs e 0 in
          let later : need_assignment (scopes_of p) qs e 1 ≡ suc need1 = need_later qs e 0 in
          let base : ℕ = m.regs.base in
          let top : ℕ = m.regs.top in
          let at_rest : Following = λ s1. lefts_code p line qs (code_expr p e) level (w + 1) s1 go in
          let behind_left : Following = λ s0. order op.Keep 0 w line s0 at_rest in
          let Pair : Type 0 = List Address × ℤ in
          let second : Address → State Closure → Outcome Closure Pair = λ a s1. then_do (parts qs e s1) (λ x s3. preceded a x s3) in
          subst (λ u. RefinesOutcome setting.text setting.size Pair K K.label m s (Behind setting.text setting.size go) base top (Parts (suc (length qs)) w K) u) (sym (first_part q qs e (left_address setting.size next (left_side q.left) env lives s)))
          (follow_then setting.text setting.size Address Pair K K.label m s (Behind setting.text setting.size behind_left) base top (InR K) (left_address setting.size next (left_side q.left) env lives s) (Behind setting.text setting.size go) base top (Parts (suc (length qs)) w K) second
          (left_runs q.left fl.0 level K w m s st behind_left le (wants setting.text setting.size K w need 0 env p m s lives (omega arith) h) at here)
          (λ a s1 m1 reach goal shown af.
          let h1 : RunInvariant setting.text setting.size K w (1 + need1) env p m1 s1 lives = wants setting.text setting.size K w need (1 + need1) env p m1 s1 lives (omega (arith, later)) (here_after setting.text setting.size K w need env p m m1 s s1 lives h af) in
          let fewer = af.fewer in
          onwards setting.text setting.size Pair K K.label m m1 s s1 (Behind setting.text setting.size go) base top (Parts (suc (length qs)) w K) (second a s1) reach af
          (keeps setting.text setting.size setting.ends setting.small n env p lives Pair K w need1 m1 s1 line goal.0 at_rest (Behind setting.text setting.size go) (Parts (suc (length qs)) w) (second a s1) h1 goal.1 goal.2
          (λ m2 h2 at2 here2 word2 base2 top2.
          let K1 : Known = WithKeptWord setting.text setting.size K (m1.regs.base + w) in
          follow_then setting.text setting.size Pair Pair K1 K.label m2 s1 (Behind setting.text setting.size go) m2.regs.base m2.regs.top (Parts (length qs) (w + 1) K1) (parts qs e s1) (Behind setting.text setting.size go) m2.regs.base m2.regs.top (Parts (suc (length qs)) w K) (λ x s3. preceded a x s3)
          (lefts_run qs e fl.1 fe line level K1 (w + 1) m2 s1 (behind_word goal.0 line) go (omega (arith, fewer, le)) h2 at2 here2)
          (λ x s3 m3 reach3 goal3 shown3 af3.
          let at_first : m3.regs.words (m3.regs.base + w) ≡ m1.regs.r = ap (λ b. m3.regs.words (b + w)) (af3.on_base ∙ base2) ∙ af3.keeps (m1.regs.base + w) (inr refl) ∙ word2 in
          let where_rest : m3.regs.base + (w + 1) ≡ m3.regs.base + w + 1 = omega arith in
          let places : ArePlaces K m3.regs.words (m3.regs.base + w + 1) x.0 = subst (λ q. ArePlaces K m3.regs.words q x.0) where_rest (same_places K1 K (λ e q i. i) m3.regs.words (m3.regs.base + (w + 1)) x.0 shown3.0) in
          (m3, reach3, goal3, ((subst (IsPlace K a) (sym at_first) shown, places), shown3.1, ap suc shown3.2), af3))))))
        where
          same_place : (K1 K : Known) → ((e q : ℕ) → K1.cell e q → K.cell e q) → (a : Address) (q : ℕ) → IsPlace K1 a q → IsPlace K a q
          same_place K1 K f (CellAt e) q i = f e q i
          same_place K1 K f (ElementAt e subscripts) q i = i

          same_places : (K1 K : Known) → ((e q : ℕ) → K1.cell e q → K.cell e q) → (words : ℕ → ℕ) (q : ℕ) (as1 : List Address) → ArePlaces K1 words q as1 → ArePlaces K words q as1
          same_places K1 K f words q [] i = tt
          same_places K1 K f words q (a ∷ as1) i = (same_place K1 K f a (words q) i.0, same_places K1 K f words (q + 1) as1 i.1)
