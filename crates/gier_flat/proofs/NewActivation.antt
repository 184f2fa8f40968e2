-- A new activation: what its words are, what is known in it, and that a run stands in it.
use Rattle.std.proofs.Common.{◌≡◌, ℕ, suc, ◌+◌, ◌*◌, ◌<◌, ◌≤◌, Bool, true, false, pos, List, length, refl, sym, ap, ap₂, ◌∙◌, subst, arith, ◌⊎◌, inl, inr, ⊎_elim}
use Rattle.std.specs.Prelude.{◌&&◌, nat_le, nat_lt}
use Rattle.std.proofs.lemmas.Bool.{lt-ltb, le-leb, leb-true}
use Rattle.gier_agree.specs.declared.kind.Kind.{Kind as Fitting}
use Rattle.gier_word.specs.Words.{int_of_word}
use Rattle.gier_symbol.specs.declared.symbol.Symbol.{Symbol}
use Rattle.gier_order.specs.Flat.Region.{put, cleared_words, with_pair, with_activation, level_unit}
use Rattle.gier_tree.specs.Places.{Places}
use Rattle.gier_meaning.specs.State.{ACell, State}
use Rattle.gier_meaning.specs.Address.{value_in}
use Rattle.gier_meaning.specs.Live.{Live, live_words}
use Rattle.gier_env.specs.Env.{Env, found, denotation_as_left_part}
use Rattle.gier_env.specs.Closures.{Closure}
use Rattle.gier_flat.proofs.OrderRows.{Machine, object}
use Rattle.gier_flat.proofs.StackRelation.{Known, Within, sort, Shows, IsPlain, Chain, RunInvariant, shows_keeps}
use Rattle.gier_flat.proofs.Composition.{put_same, put_other}

-- ---- the words of an opened activation

pub fails : (a b : ℕ) → b < a → nat_le a b ≡ false
fails a b lt = by (nat_le a b) refl
  where
    by : (t : Bool) → nat_le a b ≡ t → t ≡ false
    by true e = let h : a ≤ b = leb-true a b e in absurd (omega (arith, h, lt))
    by false e = refl

module _ (words : ℕ → ℕ) (at old level outer room : ℕ) where
  header_below : (q : ℕ) → (q < at) ⊎ (at + 3 ≤ q) → with_activation words at old level outer room q ≡ cleared_words words at room q
  header_below q away =
      let not2 : q ≡ at + 2 → ⊥ = λ e. ⊎_elim (λ l. absurd (omega (arith, e, l))) (λ l. absurd (omega (arith, e, l))) away in
      let not1 : q ≡ at + 1 → ⊥ = λ e. ⊎_elim (λ l. absurd (omega (arith, e, l))) (λ l. absurd (omega (arith, e, l))) away in
      let not0 : q ≡ at → ⊥ = λ e. ⊎_elim (λ l. absurd (omega (arith, e, l))) (λ l. absurd (omega (arith, e, l))) away in
      put_other (with_pair (cleared_words words at room) at old (level * level_unit + outer)) (at + 2) (at + room) q not2
      ∙ put_other (put (cleared_words words at room) at old) (at + 1) (level * level_unit + outer) q not1
      ∙ put_other (cleared_words words at room) at old q not0

  pub opened_below : (q : ℕ) → q < at → with_activation words at old level outer room q ≡ words q
  opened_below q lt = header_below q (inl lt) ∙ ap (λ t. elim (t && nat_lt q (at + room)) as (λ _. ℕ) [ true ↦ 0 | false ↦ words q ]) (fails at q lt)

  pub opened_new : (q : ℕ) → at + 3 ≤ q → q < at + room → with_activation words at old level outer room q ≡ 0
  opened_new q lo hi = header_below q (inr lo) ∙ ap₂ (λ t u. elim (t && u) as (λ _. ℕ) [ true ↦ 0 | false ↦ words q ]) (le-leb at q (omega (arith, lo))) (lt-ltb q (at + room) hi)

  pub opened_old : with_activation words at old level outer room at ≡ old
  opened_old =
      put_other (with_pair (cleared_words words at room) at old (level * level_unit + outer)) (at + 2) (at + room) at (λ e. absurd (omega (arith, e)))
      ∙ put_other (put (cleared_words words at room) at old) (at + 1) (level * level_unit + outer) at (λ e. absurd (omega (arith, e)))
      ∙ put_same (cleared_words words at room) at old at refl

  pub opened_level : with_activation words at old level outer room (at + 1) ≡ level * level_unit + outer
  opened_level =
      put_other (with_pair (cleared_words words at room) at old (level * level_unit + outer)) (at + 2) (at + room) (at + 1) (λ e. absurd (omega (arith, e)))
      ∙ put_same (put (cleared_words words at room) at old) (at + 1) (level * level_unit + outer) (at + 1) refl

  pub opened_end : with_activation words at old level outer room (at + 2) ≡ at + room
  opened_end = put_same (with_pair (cleared_words words at room) at old (level * level_unit + outer)) (at + 2) (at + room) (at + 2) refl

module _ (text : List Symbol) (size : ℕ) where
  -- what is known of the stack below a place, where an activation is entered
  pub record StackBelow (K : Known) (m : Machine) (s : State Closure) (at : ℕ) : Type 0 where
    pub low : (q : ℕ) → K.word q → q < at
    pub low_cell : (e q : ℕ) → K.cell e q → q < at
    pub apart : (e q : ℕ) → K.cell e q → K.word q → ⊥
    pub one_cell : (e p q : ℕ) → K.cell e p → K.cell e q → p ≡ q
    pub other : (d e q : ℕ) → K.cell d q → K.cell e q → d ≡ e
    pub known : (e q : ℕ) → K.cell e q → e < K.fresh
    pub known_label : (e b a : ℕ) → K.label e b a → e < K.fresh
    pub cells : (e q : ℕ) → K.cell e q → (kind : Fitting) × (sort (s.store e) ≡ ACell kind (pos 0))
    pub one_label : (e b a b1 a1 : ℕ) → K.label e b a → K.label e b1 a1 → (b ≡ b1) × (a ≡ a1)
    pub holds : (e q : ℕ) → K.cell e q → int_of_word (m.regs.words q) ≡ value_in (s.store e)
    pub frames : (env : Env) (p : Places) (b : ℕ) → K.frame env p b → (x : ℕ) → Shows text K m.regs.words s.store b (p x).what.kind (p x) (found env x)
    pub lefts : (env : Env) (p : Places) (b : ℕ) → K.frame env p b → (x : ℕ) → IsPlain (p x).what.kind → denotation_as_left_part env x ≡ found env x
    pub label_ends : (e b a : ℕ) → K.label e b a → K.word (b + 2) × (m.regs.words (b + 2) ≤ at) × (0 < a) × (a < length (object text))

  pub under_here : (K : Known) (w need : ℕ) (env : Env) (p : Places) (m : Machine) (s : State Closure) (lives : Live) → RunInvariant text size K w need env p m s lives → StackBelow K m s m.regs.top
  under_here K w need env p m s lives h = record {
    low = h.low;
    low_cell = h.low_cell;
    apart = h.apart;
    one_cell = h.one_cell;
    other = h.other;
    known = h.known;
    known_label = h.known_label;
    cells = h.cells;
    one_label = h.one_label;
    holds = h.holds;
    frames = h.frames;
    lefts = h.lefts;
    label_ends = h.label_ends;
  }

  module _ (K : Known) (m m1 : Machine) (s s1 : State Closure) (env1 : Env) (p1 : Places) (at : ℕ) (NewCell NewLabel : ℕ → ℕ → Type 0) where
    -- the header's words don't change, and what is declared is known
    abbrev pub Inner : Known
    Inner = record {
      word = λ q. K.word q ⊎ ((at ≤ q) × (q < at + 3));
      cell = λ e q. K.cell e q ⊎ NewCell e q;
      label = λ e b a. K.label e b a ⊎ ((b ≡ at) × NewLabel e a);
      frame = λ env p b. K.frame env p b ⊎ ((env ≡ env1) × (p ≡ p1) × (b ≡ at));
      fresh = s1.fresh;
    }

    pub record NewActivation (old level outer w need room : ℕ) (lives1 : Live) : Type 0 where
      pub cell_in : (e q : ℕ) → NewCell e q → (at + 3 ≤ q) × (q < at + w)
      pub one_cell : (e q r : ℕ) → NewCell e q → NewCell e r → q ≡ r
      pub other : (d e q : ℕ) → NewCell d q → NewCell e q → d ≡ e
      pub fresh_cell : (e q : ℕ) → NewCell e q → (K.fresh ≤ e) × (e < s1.fresh)
      pub cell_is : (e q : ℕ) → NewCell e q → (kind : Fitting) × (s1.store e ≡ ACell kind (pos 0))
      pub one_label : (e a b : ℕ) → NewLabel e a → NewLabel e b → a ≡ b
      pub fresh_label : (e a : ℕ) → NewLabel e a → (K.fresh ≤ e) × (e < s1.fresh)
      pub label_ends : (e a : ℕ) → NewLabel e a → (0 < a) × (a < length (object text))
      pub kept : (n : ℕ) → n < K.fresh → s1.store n ≡ s.store n
      pub fresh : K.fresh ≤ s1.fresh
      pub shows : (x : ℕ) → Shows text Inner m1.regs.words s1.store at (p1 x).what.kind (p1 x) (found env1 x)
      pub lefts : (x : ℕ) → IsPlain (p1 x).what.kind → denotation_as_left_part env1 x ≡ found env1 x
      pub words : (q : ℕ) → m1.regs.words q ≡ with_activation m.regs.words at old level outer room q
      pub base : m1.regs.base ≡ at
      pub top : m1.regs.top ≡ at + room
      pub on_top : at + room ≡ live_words lives1
      pub chain : Chain text Inner m1.regs.words m1.regs.marks lives1 at (at + room)
      pub depth : length lives1 ≤ suc m1.regs.depth
      pub peak : at + room ≤ m1.regs.greatest
      pub fits : at + room ≤ size
      pub header : 3 ≤ w
      pub room_is : w + need ≤ room
      pub started : m1.regs.started ≡ true
      pub left : m1.regs.left ≡ s1.left
      pub most : m1.regs.greatest ≡ s1.most
      pub printed : m1.printed ≡ s1.printed
      pub input : m1.regs.input ≡ s1.unread

    module _ (old level outer w need room : ℕ) (lives1 : Live) (u : StackBelow K m s at) (n : NewActivation old level outer w need room lives1) where
      pub inner_within : Within K Inner
      inner_within = ((λ q i. inl i), (λ e q i. inl i), (λ e b a i. inl i), (λ env p b i. inl i), n.fresh)

      pub words_same : (q : ℕ) → K.word q → m1.regs.words q ≡ m.regs.words q
      words_same q i = n.words q ∙ opened_below m.regs.words at old level outer room q (u.low q i)

      sorts_same : (k : ℕ) → k < K.fresh → sort (s1.store k) ≡ sort (s.store k)
      sorts_same k lt = ap sort (n.kept k lt)

      old_holds : (e q : ℕ) → K.cell e q → int_of_word (m1.regs.words q) ≡ value_in (s1.store e)
      old_holds e q i = ap int_of_word (n.words q ∙ opened_below m.regs.words at old level outer room q (u.low_cell e q i)) ∙ u.holds e q i ∙ sym (ap value_in (n.kept e (u.known e q i)))

      new_holds : (e q : ℕ) → NewCell e q → int_of_word (m1.regs.words q) ≡ value_in (s1.store e)
      new_holds e q i =
          let c = n.cell_in e q i in
          ap int_of_word (n.words q ∙ opened_new m.regs.words at old level outer room q c.0 (omega (arith, c.1, n.room_is))) ∙ sym (ap value_in (n.cell_is e q i).1)

      low_word : (q : ℕ) → Inner.word q → q < at + 3
      low_word q i = ⊎_elim (λ a. let l = u.low q a in omega arith) (λ a. a.1) i

      low_cell : (e q : ℕ) → Inner.cell e q → q < at + w
      low_cell e q i = ⊎_elim (λ a. let l = u.low_cell e q a in omega arith) (λ a. (n.cell_in e q a).1) i

      new_frame : (env : Env) (p : Places) (b : ℕ) → env ≡ env1 → p ≡ p1 → b ≡ at → (x : ℕ) → Shows text Inner m1.regs.words s1.store b (p x).what.kind (p x) (found env x)
      new_frame env p b e f g x =
          subst (λ b. Shows text Inner m1.regs.words s1.store b (p x).what.kind (p x) (found env x)) (sym g)
          (subst (λ p. Shows text Inner m1.regs.words s1.store at (p x).what.kind (p x) (found env x)) (sym f)
          (subst (λ env. Shows text Inner m1.regs.words s1.store at (p1 x).what.kind (p1 x) (found env x)) (sym e) (n.shows x)))

      new_left : (env : Env) (p : Places) → env ≡ env1 → p ≡ p1 → (x : ℕ) → IsPlain (p x).what.kind → denotation_as_left_part env x ≡ found env x
      new_left env p e f x i = subst (λ env. denotation_as_left_part env x ≡ found env x) (sym e) (n.lefts x (subst (λ p. IsPlain (p x).what.kind) f i))

      old_ends : (e b a : ℕ) → K.label e b a → Inner.word (b + 2) × (m1.regs.words (b + 2) ≤ m1.regs.top) × (0 < a) × (a < length (object text))
      old_ends e b a i = let l = u.label_ends e b a i in let f = words_same (b + 2) l.0 in (inl l.0, omega (arith, f, l.1, n.top), l.2, l.3)

      new_ends : (e b a : ℕ) → b ≡ at → NewLabel e a → Inner.word (b + 2) × (m1.regs.words (b + 2) ≤ m1.regs.top) × (0 < a) × (a < length (object text))
      new_ends e b a f i =
          let l = n.label_ends e a i in
          let end : m1.regs.words (b + 2) ≡ at + room = ap (λ b. m1.regs.words (b + 2)) f ∙ n.words (at + 2) ∙ opened_end m.regs.words at old level outer room in
          (inr (omega (arith, f), omega (arith, f)), omega (arith, end, n.top), l.0, l.1)

      pub opens : RunInvariant text size Inner w need env1 p1 m1 s1 lives1
      opens = record {
        spared = λ q i. let l = low_word q i in inl (omega (arith, l, n.base, n.header));
        low = λ q i. let l = low_word q i in omega (arith, l, n.top, n.header, n.room_is);
        spared_cell = λ e q i. let l = low_cell e q i in inl (omega (arith, l, n.base));
        low_cell = λ e q i. let l = low_cell e q i in omega (arith, l, n.top, n.room_is);
        apart = λ e q i j. ⊎_elim
            (λ a. ⊎_elim (λ b. u.apart e q a b) (λ b. let l = u.low_cell e q a in absurd (omega (arith, l, b.0))) j)
            (λ a. let c = n.cell_in e q a in ⊎_elim (λ b. let l = u.low q b in absurd (omega (arith, l, c.0))) (λ b. absurd (omega (arith, c.0, b.1))) j) i;
        one_cell = λ e q r i j. ⊎_elim
            (λ a. ⊎_elim (λ b. u.one_cell e q r a b) (λ b. let k = u.known e q a in let f = n.fresh_cell e r b in absurd (omega (arith, k, f.0))) j)
            (λ a. let f = n.fresh_cell e q a in ⊎_elim (λ b. let k = u.known e r b in absurd (omega (arith, k, f.0))) (λ b. n.one_cell e q r a b) j) i;
        other = λ d e q i j. ⊎_elim
            (λ a. let l = u.low_cell d q a in ⊎_elim (λ b. u.other d e q a b) (λ b. let c = n.cell_in e q b in absurd (omega (arith, l, c.0))) j)
            (λ a. let c = n.cell_in d q a in ⊎_elim (λ b. let l = u.low_cell e q b in absurd (omega (arith, l, c.0))) (λ b. n.other d e q a b) j) i;
        known = λ e q i. ⊎_elim (λ a. let k = u.known e q a in let f = n.fresh in omega arith) (λ a. (n.fresh_cell e q a).1) i;
        known_label = λ e b a i. ⊎_elim (λ x. let k = u.known_label e b a x in let f = n.fresh in omega arith) (λ x. (n.fresh_label e a x.1).1) i;
        cells = λ e q i. ⊎_elim (λ a. let c = u.cells e q a in (c.0, sorts_same e (u.known e q a) ∙ c.1)) (λ a. let c = n.cell_is e q a in (c.0, ap sort c.1)) i;
        one_label = λ e b a b1 a1 i j. ⊎_elim
            (λ x. ⊎_elim (λ y. u.one_label e b a b1 a1 x y) (λ y. let k = u.known_label e b a x in let f = n.fresh_label e a1 y.1 in absurd (omega (arith, k, f.0))) j)
            (λ x. let f = n.fresh_label e a x.1 in ⊎_elim (λ y. let k = u.known_label e b1 a1 y in absurd (omega (arith, k, f.0))) (λ y. (x.0 ∙ sym y.0, n.one_label e a a1 x.1 y.1)) j) i;
        holds = λ e q i. ⊎_elim (λ a. old_holds e q a) (λ a. new_holds e q a) i;
        frames = λ env p b f x. ⊎_elim
            (λ a. shows_keeps text K Inner m.regs.words m1.regs.words s.store s1.store inner_within words_same sorts_same b (p x).what.kind (p x) (found env x) (u.frames env p b a x))
            (λ a. new_frame env p b a.0 a.1 a.2 x) f;
        lefts = λ env p b f x i. ⊎_elim (λ a. u.lefts env p b a x i) (λ a. new_left env p a.0 a.1 x i) f;
        label_ends = λ e b a i. ⊎_elim (λ x. old_ends e b a x) (λ x. new_ends e b a x.0 x.1) i;
        peak = let p = n.peak in let t = n.top in omega arith;
        sees = (at, 0, sym n.base, inr (refl, refl, refl));
        fresh = omega arith;
        started = n.started;
        left = n.left;
        most = n.most;
        printed = n.printed;
        input = n.input;
        on_top = n.top ∙ n.on_top;
        chain = subst (λ b. Chain text Inner m1.regs.words m1.regs.marks lives1 b m1.regs.top) (sym n.base) (subst (λ t. Chain text Inner m1.regs.words m1.regs.marks lives1 at t) (sym n.top) n.chain);
        depth = n.depth;
        room = omega (arith, n.base, n.top, n.room_is);
        fits = omega (arith, n.top, n.fits);
      }
