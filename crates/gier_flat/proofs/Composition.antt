-- How what is shown of the pieces of a statement gives what is shown of the whole.
use Rattle.std.proofs.Common.{◌≡◌, ℕ, ◌+◌, ◌<◌, ◌≤◌, List, refl, sym, ap, ◌∙◌, subst, arith, ◌⊎◌, inl, inr, ⊎_elim}
use Rattle.std.proofs.lemmas.Bool.{eq-eqb, ne_eqb}
use Rattle.gier_word.specs.Words.{int_of_word}
use Rattle.gier_symbol.specs.declared.symbol.Symbol.{Symbol}
use Rattle.gier_order.specs.Flat.Region.{put}
use Rattle.gier_tree.specs.Places.{Places}
use Rattle.gier_meaning.specs.State.{State}
use Rattle.gier_meaning.specs.Live.{Live}
use Rattle.gier_meaning.specs.Outcome.{Outcome, Gives, Goes, Stops, then_do}
use Rattle.gier_env.specs.Env.{Env, found}
use Rattle.gier_env.specs.Closures.{Closure}
use Rattle.gier_flat.proofs.OrderRows.{Machine, Reach, reach_on}
use Rattle.gier_flat.proofs.StackRelation.{Known, Within, same_known, sort, RunInvariant, StateAfter, RefinesOutcome, Chain, Zeros, shows_keeps, zeros_keep, chain_keeps}

pub put_same : (f : ℕ → ℕ) (p v q : ℕ) → q ≡ p → put f p v q ≡ v
put_same f p v q e = rw (put, eq-eqb q p e) refl

pub put_other : (f : ℕ → ℕ) (p v q : ℕ) → (q ≡ p → ⊥) → put f p v q ≡ f q
put_other f p v q e = rw (put, ne_eqb q p e) refl

module _ (text : List Symbol) (size : ℕ) where
  -- what was there before has not changed on the way from m to m1
  pub record MovesTo (K : Known) (m m1 : Machine) (s s1 : State Closure) : Type 0 where
    pub reach : Reach text size m m1
    pub keeps : (q : ℕ) → K.word q → m1.regs.words q ≡ m.regs.words q
    pub marks : (q : ℕ) → K.word q → m1.regs.marks q ≡ m.regs.marks q
    pub sorts : (n : ℕ) → n < K.fresh → sort (s1.store n) ≡ sort (s.store n)
    pub fresh : s.fresh ≤ s1.fresh
    pub fewer : s1.left ≤ s.left
    pub deeper : m.regs.depth ≤ m1.regs.depth
    pub higher : m.regs.greatest ≤ m1.regs.greatest

  pub moves : (K : Known) (m m1 : Machine) (s s1 : State Closure) (b t : ℕ) → Reach text size m m1 → StateAfter text size K m m1 s s1 b t → MovesTo K m m1 s s1
  moves K m m1 s s1 b t reach a = record { reach = reach; keeps = a.keeps; marks = a.marks; sorts = a.sorts; fresh = a.fresh; fewer = a.fewer; deeper = a.deeper; higher = a.higher }

  pub after_moves : (K K1 : Known) (m m1 m2 : Machine) (s s1 s2 : State Closure) (b t : ℕ) → Within K K1 → MovesTo K m m1 s s1 → StateAfter text size K1 m1 m2 s1 s2 b t → StateAfter text size K m m2 s s2 b t
  after_moves K K1 m m1 m2 s s1 s2 b t more w a = record {
    on_base = a.on_base;
    at_top = a.at_top;
    started = a.started;
    keeps = λ q i. a.keeps q (more.0 q i) ∙ w.keeps q i;
    marks = λ q i. a.marks q (more.0 q i) ∙ w.marks q i;
    holds = λ e q i. a.holds e q (more.1 e q i);
    sorts = λ n lt. let le = more.4 in let lt1 : n < K1.fresh = omega arith in a.sorts n lt1 ∙ w.sorts n lt;
    left = a.left;
    most = a.most;
    printed = a.printed;
    input = a.input;
    fresh = omega (arith, w.fresh, a.fresh);
    fewer = omega (arith, w.fewer, a.fewer);
    deeper = omega (arith, w.deeper, a.deeper);
    higher = omega (arith, w.higher, a.higher);
  }

  -- what follows from m1, where more is known, follows from m
  pub inner : (T : Type 0) (K K1 : Known) (G G1 : ℕ → ℕ → ℕ → Type 0) (m m1 : Machine) (s s1 : State Closure) (goal : ℕ → Type 0) (b t : ℕ) (Shown : T → Machine → Type 0) (r : Outcome Closure T) → Within K K1 → MovesTo K m m1 s s1 → ((n q a : ℕ) → G1 n q a → G n q a) → RefinesOutcome text size T K1 G1 m1 s1 goal b t Shown r → RefinesOutcome text size T K G m s goal b t Shown r
  inner T K K1 G G1 m m1 s s1 goal b t Shown (Gives v s2) more w back r =
      (r.0, reach_on text size m m1 r.0 w.reach r.1, r.2, r.3, after_moves K K1 m m1 r.0 s s1 s2 b t more w r.4)
  inner T K K1 G G1 m m1 s s1 goal b t Shown (Goes n s2) more w back r =
      (r.0, reach_on text size m m1 r.0 w.reach r.1, back n r.0.regs.base r.0.regs.place r.2, r.3, omega (arith, r.4, w.fewer), after_moves K K1 m m1 r.0 s s1 s2 r.0.regs.base r.0.regs.top more w r.5)
  inner T K K1 G G1 m m1 s s1 goal b t Shown (Stops why stop s2) more w back r =
      let a = w.reach r.0 in (a.0, r.1, a.1 ∙ r.2, r.3)

  -- a part that gives something, and the rest from there
  pub follow_then : (A B : Type 0) (K : Known) (G : ℕ → ℕ → ℕ → Type 0) (m : Machine) (s : State Closure) (goal : ℕ → Type 0) (b t : ℕ) (Shown : A → Machine → Type 0) (r : Outcome Closure A) (goal2 : ℕ → Type 0) (b2 t2 : ℕ) (Shown2 : B → Machine → Type 0) (go : A → State Closure → Outcome Closure B) → RefinesOutcome text size A K G m s goal b t Shown r → ((v : A) (s1 : State Closure) (m1 : Machine) → Reach text size m m1 → goal m1.regs.place → Shown v m1 → StateAfter text size K m m1 s s1 b t → RefinesOutcome text size B K G m s goal2 b2 t2 Shown2 (go v s1)) → RefinesOutcome text size B K G m s goal2 b2 t2 Shown2 (then_do r go)
  follow_then A B K G m s goal b t Shown (Gives v s1) goal2 b2 t2 Shown2 go r g = g v s1 r.0 r.1 r.2 r.3 r.4
  follow_then A B K G m s goal b t Shown (Goes n s1) goal2 b2 t2 Shown2 go r g = r
  follow_then A B K G m s goal b t Shown (Stops why stop s1) goal2 b2 t2 Shown2 go r g = r

  -- fewer working places are wanted
  pub wants : (K : Known) (w n n1 : ℕ) (env : Env) (p : Places) (m : Machine) (s : State Closure) (lives : Live) → n1 ≤ n → RunInvariant text size K w n env p m s lives → RunInvariant text size K w n1 env p m s lives
  wants K w n n1 env p m s lives le h = record {
    spared = λ q i. ⊎_elim (λ a. inl a) (λ a. inr (omega (arith, a, le))) (h.spared q i);
    low = h.low;
    spared_cell = λ e q i. ⊎_elim (λ a. inl a) (λ a. inr (omega (arith, a, le))) (h.spared_cell e q i);
    low_cell = h.low_cell;
    apart = h.apart;
    one_cell = h.one_cell;
    other = h.other;
    known = h.known;
    cells = h.cells;
    known_label = h.known_label;
    one_label = h.one_label;
    holds = h.holds;
    frames = h.frames;
    lefts = h.lefts;
    label_ends = h.label_ends;
    peak = h.peak;
    sees = h.sees;
    fresh = h.fresh;
    started = h.started;
    left = h.left;
    most = h.most;
    printed = h.printed;
    input = h.input;
    on_top = h.on_top;
    chain = h.chain;
    depth = h.depth;
    room = omega (arith, h.room, le);
    fits = h.fits;
  }

  -- a working place is kept from now on
  abbrev pub WithKeptWord : Known → ℕ → Known
  WithKeptWord K place = record K { word = λ q. K.word q ⊎ (q ≡ place) }

  pub keeping : (K : Known) (place : ℕ) → Within K (WithKeptWord K place)
  keeping K place = ((λ q i. inl i), (λ e q i. i), (λ e b a i. i), (λ env p b i. i), omega arith)

  -- one word was written at the first working place, and the machine went on
  pub record Wrote (m m1 : Machine) (place word : ℕ) : Type 0 where
    pub words : (q : ℕ) → m1.regs.words q ≡ put m.regs.words place word q
    pub marks : m1.regs.marks ≡ m.regs.marks
    pub base : m1.regs.base ≡ m.regs.base
    pub top : m1.regs.top ≡ m.regs.top
    pub started : m1.regs.started ≡ m.regs.started
    pub left : m1.regs.left ≡ m.regs.left
    pub most : m1.regs.greatest ≡ m.regs.greatest
    pub printed : m1.printed ≡ m.printed
    pub input : m1.regs.input ≡ m.regs.input
    pub depth : m1.regs.depth ≡ m.regs.depth

  wrote_same : (K : Known) (w n : ℕ) (env : Env) (p : Places) (m m1 : Machine) (s : State Closure) (lives : Live) (v : ℕ) → RunInvariant text size K w (1 + n) env p m s lives → Wrote m m1 (m.regs.base + w) v → (q : ℕ) → K.word q → m1.regs.words q ≡ m.regs.words q
  wrote_same K w n env p m m1 s lives v h o q i =
      let sp = h.spared q i in
      let no : q ≡ m.regs.base + w → ⊥ = λ e. ⊎_elim (λ l. absurd (omega (arith, l, e))) (λ l. absurd (omega (arith, l, e))) sp in
      o.words q ∙ put_other m.regs.words (m.regs.base + w) v q no

  pub kept_moves : (K : Known) (w n : ℕ) (env : Env) (p : Places) (m m1 : Machine) (s : State Closure) (lives : Live) (v : ℕ) → RunInvariant text size K w (1 + n) env p m s lives → Wrote m m1 (m.regs.base + w) v → Reach text size m m1 → MovesTo K m m1 s s
  kept_moves K w n env p m m1 s lives v h o reach = record {
    reach = reach;
    keeps = wrote_same K w n env p m m1 s lives v h o;
    marks = λ q i. ap (λ f. f q) o.marks;
    sorts = λ n lt. refl;
    fresh = omega arith;
    fewer = omega arith;
    deeper = omega (arith, o.depth);
    higher = omega (arith, o.most);
  }

  pub kept : (K : Known) (w n : ℕ) (env : Env) (p : Places) (m m1 : Machine) (s : State Closure) (lives : Live) (v : ℕ) → RunInvariant text size K w (1 + n) env p m s lives → Wrote m m1 (m.regs.base + w) v → RunInvariant text size (WithKeptWord K (m.regs.base + w)) (w + 1) n env p m1 s lives
  kept K w n env p m m1 s lives v h o =
      let place : ℕ = m.regs.base + w in
      let K1 : Known = WithKeptWord K place in
      let same = wrote_same K w n env p m m1 s lives v h o in
      let b = o.base in
      record {
        spared = λ q i. ⊎_elim (λ a. ⊎_elim (λ l. inl (omega (arith, l, b))) (λ l. inr (omega (arith, l, b))) (h.spared q a)) (λ e. inl (omega (arith, e, b))) i;
        low = λ q i. ⊎_elim (λ a. let l = h.low q a in omega (arith, l, o.top)) (λ e. omega (arith, e, h.room, o.top)) i;
        spared_cell = λ e q i. ⊎_elim (λ l. inl (omega (arith, l, b))) (λ l. inr (omega (arith, l, b))) (h.spared_cell e q i);
        low_cell = λ e q i. let l = h.low_cell e q i in omega (arith, l, o.top);
        apart = λ e q i j. ⊎_elim (λ j. h.apart e q i j) (λ j. ⊎_elim (λ l. absurd (omega (arith, l, j))) (λ l. absurd (omega (arith, l, j))) (h.spared_cell e q i)) j;
        one_cell = h.one_cell;
        other = h.other;
        known = h.known;
        cells = h.cells;
        known_label = h.known_label;
        one_label = h.one_label;
        holds = λ e q i. let no : q ≡ place → ⊥ = λ j. ⊎_elim (λ l. absurd (omega (arith, l, j))) (λ l. absurd (omega (arith, l, j))) (h.spared_cell e q i) in ap int_of_word (o.words q ∙ put_other m.regs.words place v q no) ∙ h.holds e q i;
        frames = λ env p b f x. shows_keeps text K K1 m.regs.words m1.regs.words s.store s.store (keeping K place) same (λ n lt. refl) b (p x).what.kind (p x) (found env x) (h.frames env p b f x);
        lefts = h.lefts;
        label_ends = λ e c a i. let l = h.label_ends e c a i in (inl l.0, subst (λ u. u ≤ m1.regs.top) (sym (same (c + 2) l.0)) (subst (λ t. m.regs.words (c + 2) ≤ t) (sym o.top) l.1), l.2, l.3);
        peak = omega (arith, h.peak, o.top, o.most);
        sees = let se = h.sees in (se.0, se.1, subst (λ u. Zeros K1 m1.regs.words se.1 u se.0) (sym b) (zeros_keep text K K1 m.regs.words m1.regs.words s.store s.store (keeping K place) same (λ n lt. refl) se.1 m.regs.base se.0 se.2), se.3);
        fresh = h.fresh;
        started = o.started ∙ h.started;
        left = o.left ∙ h.left;
        most = o.most ∙ h.most;
        printed = o.printed ∙ h.printed;
        input = o.input ∙ h.input;
        on_top = o.top ∙ h.on_top;
        chain = subst (λ u. Chain text K1 m1.regs.words m1.regs.marks lives u m1.regs.top) (sym b) (subst (λ u. Chain text K1 m1.regs.words m1.regs.marks lives m.regs.base u) (sym o.top) (chain_keeps text K K1 m.regs.words m1.regs.words m.regs.marks m1.regs.marks (λ q i. inl i) same (λ q i. ap (λ f. f q) o.marks) lives m.regs.base m.regs.top h.chain));
        depth = omega (arith, h.depth, o.depth);
        room = omega (arith, h.room, b, o.top);
        fits = omega (arith, h.fits, o.top);
      }

  -- the registers stay but for the place, R and Q, and so does the stack
  pub record Stays (m m1 : Machine) : Type 0 where
    pub words : m1.regs.words ≡ m.regs.words
    pub marks : m1.regs.marks ≡ m.regs.marks
    pub base : m1.regs.base ≡ m.regs.base
    pub top : m1.regs.top ≡ m.regs.top
    pub started : m1.regs.started ≡ m.regs.started
    pub left : m1.regs.left ≡ m.regs.left
    pub most : m1.regs.greatest ≡ m.regs.greatest
    pub printed : m1.printed ≡ m.printed
    pub input : m1.regs.input ≡ m.regs.input
    pub depth : m1.regs.depth ≡ m.regs.depth

  pub stays_after : (K : Known) (w n : ℕ) (env : Env) (p : Places) (m m1 : Machine) (s : State Closure) (lives : Live) → RunInvariant text size K w n env p m s lives → Stays m m1 → StateAfter text size K m m1 s s m.regs.base m.regs.top
  stays_after K w n env p m m1 s lives h o = record {
    on_base = o.base;
    at_top = o.top;
    started = o.started ∙ h.started;
    keeps = λ q i. ap (λ f. f q) o.words;
    marks = λ q i. ap (λ f. f q) o.marks;
    holds = λ e q i. ap (λ f. int_of_word (f q)) o.words ∙ h.holds e q i;
    sorts = λ n lt. refl;
    left = o.left ∙ h.left;
    most = o.most ∙ h.most;
    printed = o.printed ∙ h.printed;
    input = o.input ∙ h.input;
    fresh = omega arith;
    fewer = omega arith;
    deeper = omega (arith, o.depth);
    higher = omega (arith, o.most);
  }

  -- from where a part has come to
  pub onwards : (T : Type 0) (K : Known) (G : ℕ → ℕ → ℕ → Type 0) (m m1 : Machine) (s s1 : State Closure) (goal : ℕ → Type 0) (b t : ℕ) (Shown : T → Machine → Type 0) (r : Outcome Closure T) → Reach text size m m1 → StateAfter text size K m m1 s s1 b t → RefinesOutcome text size T K G m1 s1 goal m1.regs.base m1.regs.top Shown r → RefinesOutcome text size T K G m s goal b t Shown r
  onwards T K G m m1 s s1 goal b t Shown r reach a f =
      let f1 = subst (λ u. RefinesOutcome text size T K G m1 s1 goal u m1.regs.top Shown r) a.on_base f in
      let f2 = subst (λ u. RefinesOutcome text size T K G m1 s1 goal b u Shown r) a.at_top f1 in
      inner T K K G G m m1 s s1 goal b t Shown r (same_known K) (moves K m m1 s s1 b t reach a) (λ i j k l. l) f2

  -- what is given goes on a little
  pub follow_on : (T : Type 0) (K : Known) (G : ℕ → ℕ → ℕ → Type 0) (m : Machine) (s : State Closure) (goal goal2 : ℕ → Type 0) (b t b2 t2 : ℕ) (Shown Shown2 : T → Machine → Type 0) (r : Outcome Closure T) → RefinesOutcome text size T K G m s goal b t Shown r → ((v : T) (s1 : State Closure) (m1 : Machine) → Reach text size m m1 → goal m1.regs.place → Shown v m1 → StateAfter text size K m m1 s s1 b t → RefinesOutcome text size T K G m s goal2 b2 t2 Shown2 (Gives v s1)) → RefinesOutcome text size T K G m s goal2 b2 t2 Shown2 r
  follow_on T K G m s goal goal2 b t b2 t2 Shown Shown2 (Gives v s1) r g = g v s1 r.0 r.1 r.2 r.3 r.4
  follow_on T K G m s goal goal2 b t b2 t2 Shown Shown2 (Goes n s1) r g = r
  follow_on T K G m s goal goal2 b t b2 t2 Shown Shown2 (Stops why stop s1) r g = r
