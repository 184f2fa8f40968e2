-- Expressions: their code gives their value.
use Rattle.std.proofs.Common.{◌≡◌, ℕ, suc, ◌+◌, ◌*◌, ◌<◌, ◌≤◌, Bool, true, false, ℤ, pos, List, length, Option, Some, None, refl, sym, ap, ◌∙◌, subst, arith, inr}
use Rattle.std.specs.Prelude.{◌==◌, ◌^◌, not, max, Result, Ok, Err, ⊤}
use Rattle.std.proofs.lemmas.Bool.{lt-ltb, eq-eqb}
use Rattle.std.proofs.lemmas.List.{append-nil}
use Rattle.gier_word.specs.Words.{int_of_word}
use Rattle.gier_word.specs.Alarm.{alarm_of}
use Rattle.gier_word.specs.declared.int40.Spoil.{Spoil}
use Rattle.gier_symbol.specs.declared.symbol.Symbol.{Symbol}
use Rattle.gier_order.specs.declared.operation.Operation.{Operation}
use Rattle.gier_order.specs.declared.operation.Operation.TheVariants as op
use Rattle.gier_order.specs.Codes.{is_row}
use Rattle.gier_order.specs.Flat.Row.{Regs, Ending, Step, On, Ends, Row, plain, needs, behind_ref}
use Rattle.gier_order.specs.Flat.Row as row
use Rattle.gier_order.specs.Flat.Region.{put, seek}
use Rattle.gier_order.specs.Flat.Rows as rows
use Rattle.gier_order.specs.Flat.Rows.{effect, from_base, word_at, gives}
use Rattle.gier_order.specs.Flat.Run.{with_row}
use Rattle.gier_tree.specs.Orders as code
use Rattle.gier_tree.specs.Orders.{Following, Code, order, number_of, behind_word}
use Rattle.gier_tree.specs.Object.{words_of}
use Rattle.gier_tree.specs.Coded.{both}
use Rattle.gier_tree.specs.Places.{Placed, Places}
use Rattle.gier_meaning.specs.Tree.{Operator}
use Rattle.gier_meaning.specs.Operators as meaning
use Rattle.gier_meaning.specs.Operators.{apply_operator}
use Rattle.gier_meaning.specs.Live.{Live}
use Rattle.gier_meaning.specs.State.{Entity, Nothing, ACell, AnArray, ALabel, Kept, State}
use Rattle.gier_meaning.specs.Address.{value_in}
use Rattle.gier_meaning.specs.Arrays.{no_elements}
use Rattle.gier_meaning.specs.Entities.{cell_value}
use Rattle.gier_agree.specs.declared.kind.Kind.{Kind as Fitting}
use Rattle.gier_meaning.specs.Standard.{value_or_alarm}
use Rattle.gier_meaning.specs.Outcome.{Outcome, Gives, Goes, Stops, Alarmed, then_do}
use Rattle.gier_env.specs.Env.{Env, Denoted, AnEntity, AProcedure, AFormalProcedure, AText, AStandard, AnActual}
use Rattle.gier_env.specs.Tasks.{Next}
use Rattle.gier_env.specs.Names.{value_of}
use Rattle.gier_env.specs.Closures.{Closure}
use Rattle.gier_complete.proofs.OrderPieces.{piece_is}
use Rattle.gier_flat.specs.Alike.{IsLine}
use Rattle.gier_tree.specs.Words.{HasStop}
use Rattle.gier_flat.proofs.Positions.{At}
use Rattle.gier_flat.proofs.OrderRows.{Machine, object, stopped}
use Rattle.gier_flat.proofs.StackRelation.{Known, sort, same_known, Walk, behind_zeros, walked, IsVariable, RunInvariant, RefinesOutcome, Behind, here_after}
use Rattle.gier_flat.proofs.Composition.{moves, inner, follow_then, wants, WithKeptWord, keeping, Wrote, kept, kept_moves, Stays, stays_after, onwards}
use Rattle.gier_flat.proofs.Numbers.{same_truth}
use Rattle.gier_flat.proofs.Orders.{to, AtOrder, comes, far, row_of, on_row, Settled, operation, never_stop, address_alone, joins, needed, truth_settles}
use Rattle.gier_flat.proofs.StopReport.{stops_here}

-- no other entity is a cell
abbrev pub IsACell : Entity Closure → Type 0
IsACell Nothing = ⊥
IsACell (ACell kind v) = ⊤
IsACell (AnArray kind bounds elements) = ⊥
IsACell ALabel = ⊥
IsACell (Kept k) = ⊥

pub no_cell : (x : Entity Closure) (kind : Fitting) → x ≡ ACell kind (pos 0) → IsACell x
no_cell x kind e = subst IsACell (sym e) tt

module _ (text : List Symbol) (size : ℕ) (ends : HasStop text) (small : size < 2 ^ 24) where
  abbrev pub Shown : Type 0 → Type 1
  Shown T = Known → T → Machine → Type 0

  abbrev pub Same : Shown ℤ
  Same K v m = int_of_word m.regs.r ≡ v

  -- the line of the order that stands here
  pub line_here : (m : Machine) (o : Operation) (l a line : ℕ) (st : code.State) (go : Following) → AtOrder text size ends m o l a line st go → IsLine text m.regs.place line
  line_here m o l a line st go s =
      let value : ℕ = l * 2 ^ 24 + a in
      let x : Symbol = record { tag = 128 + number_of o; value = value; line = line } in
      let h = s.here in
      (s.at.before, x, go (behind_word st line), s.at.whole, s.at.count ∙ sym h, ap words_of (piece_is o value line), refl)

  -- only R and the place change
  pub gets_stays : (m : Machine) (word : ℕ) → Stays text size m (to text size ends m (record m.regs { r = word; place = m.regs.place + 1 }))
  gets_stays m word = record { words = refl; marks = refl; base = refl; top = refl; started = refl; left = refl; most = refl; printed = append-nil m.printed; input = refl; depth = refl }

  module _ (n : ℕ) (env : Env) (p : Places) (lives : Live) where
    -- a piece of code with working places from w, and what it does
    abbrev pub Runs : (T : Type 0) → Shown T → (need : ℕ) → (c : (w : ℕ) → code.State → Following → List Symbol) → (State Closure → Outcome Closure T) → Type 1
    Runs T Shows need c v = (K : Known) (w : ℕ) (m : Machine) (s : State Closure) (st : code.State) (go : Following) → s.left ≤ n → RunInvariant text size K w need env p m s lives → At text st (c w st go) → m.regs.place ≡ st.words → RefinesOutcome text size T K K.label m s (Behind text size go) m.regs.base m.regs.top (Shows K) (v s)

    -- an order that gives a value at once
    pub gives_now : (K : Known) (w need : ℕ) (m : Machine) (s : State Closure) (o : Operation) (l a line : ℕ) (st : code.State) (go : Following) (word : ℕ) (v : ℤ) → RunInvariant text size K w need env p m s lives → AtOrder text size ends m o l a line st go → effect (object text) size m.regs o l a ≡ plain (On (record m.regs { r = word; place = m.regs.place + 1 })) → int_of_word word ≡ v → RefinesOutcome text size ℤ K K.label m s (Behind text size go) m.regs.base m.regs.top (Same K) (Gives v s)
    gives_now K w need m s o l a line st go word v h sd e is =
        let m1 : Regs = record m.regs { r = word; place = m.regs.place + 1 } in
        let c = comes text size ends m o l a line st go m1 sd e refl in
        (to text size ends m m1, c.reach, (behind_word st line, c.at, c.place), is, stays_after text size K w need env p m (to text size ends m m1) s lives h (gets_stays m word))

    -- an order that gives a value or alarms
    pub settles : (K : Known) (w need : ℕ) (m : Machine) (s : State Closure) (o : Operation) (l a line : ℕ) (st : code.State) (go : Following) (x : Result ℤ Spoil) → RunInvariant text size K w need env p m s lives → (sd : AtOrder text size ends m o l a line st go) → Settled text size ends m.regs (far text size ends m o l a line st go sd) (effect (object text) size m.regs o l a) x → RefinesOutcome text size ℤ K K.label m s (Behind text size go) m.regs.base m.regs.top (Same K) (value_or_alarm x line lives s)
    settles K w need m s o l a line st go (Ok v) h sd e = gives_now K w need m s o l a line st go e.0 v h sd e.2 e.1
    settles K w need m s o l a line st go (Err spoil) h sd e =
        let r : Row = behind_ref m.regs.place (plain (Ends (row.Alarmed (alarm_of spoil)) m.regs)) in (
          1,
          record { ending = row.Alarmed (alarm_of spoil); state = with_row m r m.regs },
          stopped text size m r (row.Alarmed (alarm_of spoil)) m.regs (row_of text size ends m o l a line st go sd ∙ ap (behind_ref m.regs.place) e) refl,
          stops_here text size K w need env p m s s lives (row.Alarmed (alarm_of spoil)) m.regs r (Alarmed (alarm_of spoil)) line h refl refl refl refl refl refl h.started refl refl h.left refl refl refl (line_here m o l a line st go sd),
        )

    -- R is kept in the first working place
    pub keeps : (T : Type 0) (K : Known) (w need : ℕ) (m : Machine) (s : State Closure) (line : ℕ) (st : code.State) (go : Following) (goal : ℕ → Type 0) (Shows : Shown T) (v : Outcome Closure T) → RunInvariant text size K w (1 + need) env p m s lives → At text st (order op.Keep 0 w line st go) → m.regs.place ≡ st.words
        → ((m1 : Machine) → RunInvariant text size (WithKeptWord text size K (m.regs.base + w)) (w + 1) need env p m1 s lives → At text (behind_word st line) (go (behind_word st line)) → m1.regs.place ≡ suc st.words → m1.regs.words (m.regs.base + w) ≡ m.regs.r → m1.regs.base ≡ m.regs.base → m1.regs.top ≡ m.regs.top → RefinesOutcome text size T (WithKeptWord text size K (m.regs.base + w)) K.label m1 s goal m1.regs.base m1.regs.top (Shows K) v)
        → RefinesOutcome text size T K K.label m s goal m.regs.base m.regs.top (Shows K) v
    keeps T K w need m s line st go goal Shows v h at here next =
        let q : ℕ = m.regs.base + w in
        let fit : q < size = let r = h.room in let f = h.fits in omega arith in
        let small_w : w < 2 ^ 24 = omega (arith, fit, small) in
        let m1r : Regs = record m.regs { words = put m.regs.words q m.regs.r; place = m.regs.place + 1 } in
        let m1 : Machine = to text size ends m m1r in
        let sd : AtOrder text size ends m op.Keep 0 w line st go = record { at = at; here = here; started = h.started; low = omega arith; small = small_w; fields = refl; other = λ e. absurd (omega (arith, e)) } in
        let next_is = far text size ends m op.Keep 0 w line st go sd in
        let e : effect (object text) size m.regs op.Keep 0 w ≡ plain (On m1r) = needed _ _ (lt-ltb q size fit) ∙ on_row text size ends m.regs next_is (record m.regs { words = put m.regs.words q m.regs.r }) in
        let c = comes text size ends m op.Keep 0 w line st go m1r sd e refl in
        let o : Wrote text size m m1 q m.regs.r = record { words = λ x. refl; marks = refl; base = refl; top = refl; started = refl; left = refl; most = refl; printed = append-nil m.printed; input = refl; depth = refl } in
        let h1 = kept text size K w need env p m m1 s lives m.regs.r h o in
        let wrote : put m.regs.words q m.regs.r q ≡ m.regs.r = rw (put, eq-eqb q q refl) refl in
        inner text size T K (WithKeptWord text size K q) K.label K.label m m1 s s goal m.regs.base m.regs.top (Shows K) v (keeping text size K q) (kept_moves text size K w need env p m m1 s lives m.regs.r h o c.reach) (λ x y z i. i)
        (next m1 h1 c.at c.place wrote refl refl)

    -- two operands, the first of which waits while the second is evaluated
    pub both_runs : (o : Operator) (line level na nb : ℕ) (a b : Code) (va vb : State Closure → Outcome Closure ℤ) → Runs ℤ Same na (a level) va → Runs ℤ Same nb (b level) vb → Runs ℤ Same (max na (1 + nb)) (both (operation o) line a b level) (λ s. then_do (va s) (λ x s1. then_do (vb s1) (λ y s2. value_or_alarm (apply_operator o x y) line lives s2)))
    both_runs o line level na nb a b va vb ra rb K w m s st go le h at here =
        let behind_b : Following = λ s2. order (operation o) 0 w line s2 go in
        let at_b : Following = λ s1. b level (w + 1) s1 behind_b in
        let behind_a : Following = λ s0. order op.Keep 0 w line s0 at_b in
        let base : ℕ = m.regs.base in
        let top : ℕ = m.regs.top in
        let second : ℤ → State Closure → Outcome Closure ℤ = λ x s1. then_do (vb s1) (λ y s2. value_or_alarm (apply_operator o x y) line lives s2) in
        let ha = wants text size K w (max na (1 + nb)) na env p m s lives (omega arith) h in
        follow_then text size ℤ ℤ K K.label m s (Behind text size behind_a) base top (Same K) (va s) (Behind text size go) base top (Same K) second
        (ra K w m s st behind_a le ha at here)
        (λ x s1 m1 reach goal shown af.
        let w1 = moves text size K m m1 s s1 base top reach af in
        let hb : RunInvariant text size K w (1 + nb) env p m1 s1 lives = wants text size K w (max na (1 + nb)) (1 + nb) env p m1 s1 lives (omega arith) (here_after text size K w (max na (1 + nb)) env p m m1 s s1 lives h af) in
        let fewer = af.fewer in
        let kept_so : RefinesOutcome text size ℤ K K.label m1 s1 (Behind text size go) m1.regs.base m1.regs.top (Same K) (second x s1) =
        keeps ℤ K w nb m1 s1 line goal.0 at_b (Behind text size go) Same (second x s1) hb goal.1 goal.2
        (λ m2 h2 at2 here2 word2 base2 top2.
        let K1 : Known = WithKeptWord text size K (m1.regs.base + w) in
        follow_then text size ℤ ℤ K1 K.label m2 s1 (Behind text size behind_b) m2.regs.base m2.regs.top (Same K1) (vb s1) (Behind text size go) m2.regs.base m2.regs.top (Same K) (λ y s2. value_or_alarm (apply_operator o x y) line lives s2)
        (rb K1 (w + 1) m2 s1 (behind_word goal.0 line) behind_b (omega (arith, fewer, le)) h2 at2 here2)
        (λ y s2 m3 reach3 goal3 shown3 af3.
        let h3 : RunInvariant text size K1 (w + 1) nb env p m3 s2 lives = here_after text size K1 (w + 1) nb env p m2 m3 s1 s2 lives h2 af3 in
        let fit : m3.regs.base + w < size = let r = h3.room in let f = h3.fits in omega arith in
        let small_w : w < 2 ^ 24 = omega (arith, fit, small) in
        let sd : AtOrder text size ends m3 (operation o) 0 w line goal3.0 go = record { at = goal3.1; here = goal3.2; started = h3.started; low = omega arith; small = small_w; fields = address_alone o w; other = never_stop o } in
        let same_base : m3.regs.base ≡ m1.regs.base = af3.on_base ∙ base2 in
        let first_word : m3.regs.words (m3.regs.base + w) ≡ m1.regs.r = ap (λ q. m3.regs.words (q + w)) same_base ∙ af3.keeps (m1.regs.base + w) (inr refl) ∙ word2 in
        let first : int_of_word (m3.regs.words (m3.regs.base + w)) ≡ x = ap int_of_word first_word ∙ shown in
        let far3 = far text size ends m3 (operation o) 0 w line goal3.0 go sd in
        let e0 : Settled text size ends m3.regs far3 (effect (object text) size m3.regs (operation o) 0 w) (apply_operator o (int_of_word (m3.regs.words (m3.regs.base + w))) (int_of_word m3.regs.r)) = joins text size ends m3.regs far3 w fit o in
        let e1 = subst (λ u. Settled text size ends m3.regs far3 (effect (object text) size m3.regs (operation o) 0 w) (apply_operator o u (int_of_word m3.regs.r))) first e0 in
        let e2 = subst (λ u. Settled text size ends m3.regs far3 (effect (object text) size m3.regs (operation o) 0 w) (apply_operator o x u)) shown3 e1 in
        let last : RefinesOutcome text size ℤ K1 K.label m3 s2 (Behind text size go) m3.regs.base m3.regs.top (Same K) (value_or_alarm (apply_operator o x y) line lives s2) = settles K1 (w + 1) nb m3 s2 (operation o) 0 w line goal3.0 go (apply_operator o x y) h3 sd e2 in
        let last1 = subst (λ u. RefinesOutcome text size ℤ K1 K.label m3 s2 (Behind text size go) u m3.regs.top (Same K) (value_or_alarm (apply_operator o x y) line lives s2)) af3.on_base last in
        let last2 = subst (λ u. RefinesOutcome text size ℤ K1 K.label m3 s2 (Behind text size go) m2.regs.base u (Same K) (value_or_alarm (apply_operator o x y) line lives s2)) af3.at_top last1 in
        inner text size ℤ K1 K1 K.label K.label m2 m3 s1 s2 (Behind text size go) m2.regs.base m2.regs.top (Same K) (value_or_alarm (apply_operator o x y) line lives s2) (same_known K1) (moves text size K1 m2 m3 s1 s2 m2.regs.base m2.regs.top reach3 af3) (λ i j k l. l) last2)) in
        let kept1 = subst (λ u. RefinesOutcome text size ℤ K K.label m1 s1 (Behind text size go) u m1.regs.top (Same K) (second x s1)) af.on_base kept_so in
        let kept2 = subst (λ u. RefinesOutcome text size ℤ K K.label m1 s1 (Behind text size go) base u (Same K) (second x s1)) af.at_top kept1 in
        inner text size ℤ K K K.label K.label m m1 s s1 (Behind text size go) base top (Same K) (second x s1) (same_known K) w1 (λ i j k l. l) kept2)

    -- one operand, and an order that settles what it comes to
    pub after_runs : (o : Operation) (number : ℕ) → number < 2 ^ 24 → (f : ℤ → Result ℤ Spoil) (line level na : ℕ) (a : Code) (va : State Closure → Outcome Closure ℤ) → (is_row (Some o) 0 number ≡ true) → (128 + number_of o ≡ 130 → ⊥) → ((m : Regs) (next : m.place + 1 < length (object text)) → Settled text size ends m next (effect (object text) size m o 0 number) (f (int_of_word m.r))) → Runs ℤ Same na (a level) va → Runs ℤ Same na (λ w st go. a level w st (λ s. order o 0 number line s go)) (λ s. then_do (va s) (λ x s1. value_or_alarm (f x) line lives s1))
    after_runs o number small_number f line level na a va fields other does ra K w m s st go le h at here =
        let behind_a : Following = λ s0. order o 0 number line s0 go in
        let base : ℕ = m.regs.base in
        let top : ℕ = m.regs.top in
        follow_then text size ℤ ℤ K K.label m s (Behind text size behind_a) base top (Same K) (va s) (Behind text size go) base top (Same K) (λ x s1. value_or_alarm (f x) line lives s1)
        (ra K w m s st behind_a le h at here)
        (λ x s1 m1 reach goal shown af.
        let h1 = here_after text size K w na env p m m1 s s1 lives h af in
        let sd : AtOrder text size ends m1 o 0 number line goal.0 go = record { at = goal.1; here = goal.2; started = h1.started; low = omega arith; small = small_number; fields = fields; other = other } in
        let far1 = far text size ends m1 o 0 number line goal.0 go sd in
        let e0 = does m1.regs far1 in
        let e1 = subst (λ u. Settled text size ends m1.regs far1 (effect (object text) size m1.regs o 0 number) (f u)) shown e0 in
        onwards text size ℤ K K.label m m1 s s1 (Behind text size go) base top (Same K) (value_or_alarm (f x) line lives s1) reach af
        (settles K w na m1 s1 o 0 number line goal.0 go (f x) h1 sd e1))

    twice_not : (b : Bool) → not (not b) ≡ b
    twice_not true = refl
    twice_not false = refl

    pub nots : (m : Regs) (next : m.place + 1 < length (object text)) → Settled text size ends m next (effect (object text) size m op.Not 0 0) (Ok (meaning.truth (not (meaning.is_true (int_of_word m.r)))))
    nots m next = truth_settles text size ends m next (m.r == 0) (not (meaning.is_true (int_of_word m.r))) (sym (twice_not (m.r == 0)) ∙ ap not (same_truth m.r))

    -- what is given as it is
    pub then_same : (K : Known) (m : Machine) (s : State Closure) (goal : ℕ → Type 0) (b t : ℕ) (r : Outcome Closure ℤ) → RefinesOutcome text size ℤ K K.label m s goal b t (Same K) r → RefinesOutcome text size ℤ K K.label m s goal b t (Same K) (then_do r (λ x s1. Gives x s1))
    then_same K m s goal b t (Gives v s1) r = r
    then_same K m s goal b t (Goes n s1) r = r
    then_same K m s goal b t (Stops why stop s1) r = r

    -- ---- a variable

    row_at : (m : Regs) (l a to : ℕ) (go : ℕ → ℕ → Row) → seek (suc m.base) size m.words l m.base ≡ Some to → to + a < size → rows.cell_word (object text) size m l a go ≡ go (to + a) (m.words (to + a))
    row_at m l a to go e lt = ap (from_base (object text) size m (λ b. word_at (object text) size m (b + a) (λ first. go (b + a) first))) e ∙ needed _ _ (lt-ltb (to + a) size lt)

    cell_gives : (kind : Fitting) (x : Entity Closure) → sort x ≡ ACell kind (pos 0) → (line : ℕ) (s : State Closure) → cell_value x line lives s ≡ Gives (value_in x) s
    cell_gives kind Nothing e line s = absurd (no_cell Nothing kind e)
    cell_gives kind (ACell k v) e line s = refl
    cell_gives kind (AnArray k bounds elements) e line s = absurd (no_cell (AnArray k bounds no_elements) kind e)
    cell_gives kind ALabel e line s = absurd (no_cell ALabel kind e)
    cell_gives kind (Kept k) e line s = absurd (no_cell (Kept k) kind e)

    pub takes : (K : Known) (w need : ℕ) (m : Machine) (s : State Closure) (kind : Fitting) (at : Placed) (d : Option Denoted) (line : ℕ) (next : Next) (st : code.State) (go : Following) → RunInvariant text size K w need env p m s lives → ((b : ℕ) → K.frame env p b → IsVariable text K m.regs.words s.store b kind at d) → At text st (order op.Take at.level at.address line st go) → m.regs.place ≡ st.words → RefinesOutcome text size ℤ K K.label m s (Behind text size go) m.regs.base m.regs.top (Same K) (value_of size next d line lives s)
    takes K w need m s kind at None line next st go h shows here place = absurd (shows h.sees.0 h.sees.3)
    takes K w need m s kind at (Some (AProcedure e)) line next st go h shows here place = absurd (shows h.sees.0 h.sees.3)
    takes K w need m s kind at (Some (AFormalProcedure e)) line next st go h shows here place = absurd (shows h.sees.0 h.sees.3)
    takes K w need m s kind at (Some (AText e)) line next st go h shows here place = absurd (shows h.sees.0 h.sees.3)
    takes K w need m s kind at (Some (AStandard e)) line next st go h shows here place = absurd (shows h.sees.0 h.sees.3)
    takes K w need m s kind at (Some (AnActual meant k e xe)) line next st go h shows here place = absurd (shows h.sees.0 h.sees.3)
    takes K w need m s kind at (Some (AnEntity e)) line next st go h shows here place =
        let v = shows h.sees.0 h.sees.3 in
        let q : ℕ = v.0 + at.address in
        let walk : Walk K m.regs.words (h.sees.1 + v.1) m.regs.base at.level v.0 = behind_zeros K m.regs.words h.sees.1 v.1 m.regs.base h.sees.0 at.level v.0 v.6 h.sees.2 v.2 in
        let inside : (i : ℕ) → K.word i → i < size = λ i k. let l = h.low i k in let f = h.fits in omega arith in
        let found_at : seek (suc m.regs.base) size m.regs.words at.level m.regs.base ≡ Some v.0 = walked K m.regs.words size (h.sees.1 + v.1) (suc m.regs.base) m.regs.base at.level v.0 inside (omega arith) walk in
        let fit : q < size = let l = h.low_cell e q v.3 in let f = h.fits in omega arith in
        let sd : AtOrder text size ends m op.Take at.level at.address line st go = record { at = here; here = place; started = h.started; low = v.7; small = v.8; fields = refl; other = λ e. absurd (omega (arith, e)) } in
        let next_is = far text size ends m op.Take at.level at.address line st go sd in
        let is : effect (object text) size m.regs op.Take at.level at.address ≡ plain (On (record m.regs { r = m.regs.words q; place = m.regs.place + 1 })) = row_at m.regs at.level at.address v.0 (λ i word. gives (object text) size m.regs word) found_at fit ∙ on_row text size ends m.regs next_is (record m.regs { r = m.regs.words q }) in
        subst (λ u. RefinesOutcome text size ℤ K K.label m s (Behind text size go) m.regs.base m.regs.top (Same K) u) (sym (cell_gives kind (s.store e) v.5 line s))
        (gives_now K w need m s op.Take at.level at.address line st go (m.regs.words q) (value_in (s.store e)) h sd is (h.holds e q v.3))
