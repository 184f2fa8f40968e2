-- How the stack of a flat run shows what an environment means, and what holds where a run stands.
use Rattle.std.proofs.Common.{◌≡◌, ℕ, zero, suc, ◌+◌, ◌<◌, ◌≤◌, true, pos, List, [], ◌∷◌, length, Option, Some, None, sym, ap, ◌∙◌, subst, arith, ◌⊎◌}
use Rattle.std.specs.Prelude.{◌^◌, ⊤}
use Rattle.std.proofs.lemmas.Bool.{lt-ltb, eq-eqb, ne_eqb}
use Rattle.gier_agree.specs.declared.kind.Kind.{Kind as Fitting}
use Rattle.gier_agree.specs.declared.kind.Kind.TheVariants.{Integer, Boolean}
use Rattle.gier_word.specs.Words.{int_of_word}
use Rattle.gier_symbol.specs.declared.symbol.Symbol.{Symbol}
use Rattle.gier_order.specs.Flat.Region.{level_in, outer_in, seek}
use Rattle.gier_order.specs.Flat.Live as flat
use Rattle.gier_order.specs.Flat.Run.{exec, one, Over, Final}
use Rattle.gier_tree.specs.declared.kind.Kind.{Kind}
use Rattle.gier_tree.specs.declared.kind.Kind.TheVariants.{Undeclared, IntegerVariable, BooleanVariable, IntegerValue, BooleanValue, IntegerProcedure, BooleanProcedure, Label, OutInteger, OutText, OutCr, OutChar, InInteger, InChar, Abs, Sign}
use Rattle.gier_tree.specs.Orders as code
use Rattle.gier_tree.specs.Orders.{Following}
use Rattle.gier_tree.specs.Object.{address_of}
use Rattle.gier_tree.specs.Places.{Placed, Places}
use Rattle.gier_meaning.specs.State.{Entity, Nothing, ACell, AnArray, ALabel, Kept, State}
use Rattle.gier_meaning.specs.Address.{value_in}
use Rattle.gier_meaning.specs.Arrays.{no_elements}
use Rattle.gier_meaning.specs.Live as live
use Rattle.gier_meaning.specs.Live.{Live, live_words, InProgram, InBlock, InProcedure, InEvaluation, Stop}
use Rattle.gier_meaning.specs.Outcome.{Outcome, Gives, Goes, Stops, Why}
use Rattle.gier_env.specs.Env.{Env, Denoted, AnEntity, AStandard, found, denotation_as_left_part}
use Rattle.gier_env.specs.Closures.{Closure}
use Rattle.gier_flat.specs.Alike.{IsLine, IsStop, AreAlike}
use Rattle.gier_flat.proofs.Positions.{At}
use Rattle.gier_flat.proofs.OrderRows.{Machine, object, Reach}

-- What is known of a stack: words that don't change, the cells of variables, the places that labels mean, the activations that stand for
-- environments, each with the places of its identifiers, and how many entities were given out.
pub record Known : Type 1 where
  pub word : ℕ → Type 0
  pub cell : (entity place : ℕ) → Type 0
  pub label : (entity base address : ℕ) → Type 0
  pub frame : Env → Places → (base : ℕ) → Type 0
  pub fresh : ℕ

-- what of an entity never changes
abbrev pub sort : Entity Closure → Entity Closure
sort Nothing = Nothing
sort (ACell kind value) = ACell kind (pos 0)
sort (AnArray kind bounds elements) = AnArray kind bounds no_elements
sort ALabel = ALabel
sort (Kept k) = Kept k

abbrev pub Within : Known → Known → Type 0
Within K K1 = ((q : ℕ) → K.word q → K1.word q) × ((e q : ℕ) → K.cell e q → K1.cell e q) × ((e b a : ℕ) → K.label e b a → K1.label e b a) × ((env : Env) (p : Places) (b : ℕ) → K.frame env p b → K1.frame env p b) × (K.fresh ≤ K1.fresh)

abbrev pub same_known : (K : Known) → Within K K
same_known K = ((λ q i. i), (λ e q i. i), (λ e b a i. i), (λ env p b i. i), omega arith)

-- ---- the activations that enclose one another

module _ (K : Known) (words : ℕ → ℕ) where
  -- the first activation of a level, so many behind this one
  abbrev pub Walk : (hops : ℕ) → (from level to : ℕ) → Type 0
  Walk zero b l to = K.word (b + 1) × (level_in (words (b + 1)) ≡ l) × (to ≡ b)
  Walk (suc h) b l to = K.word (b + 1) × (level_in (words (b + 1)) ≡ l → ⊥) × (outer_in (words (b + 1)) < b) × Walk h (outer_in (words (b + 1))) l to

  -- evaluations, one within the other
  abbrev pub Zeros : (hops : ℕ) → (from to : ℕ) → Type 0
  Zeros zero b to = to ≡ b
  Zeros (suc h) b to = K.word (b + 1) × (level_in (words (b + 1)) ≡ 0) × (outer_in (words (b + 1)) < b) × Zeros h (outer_in (words (b + 1))) to

  pub walked : (size h looks b l to : ℕ) → ((q : ℕ) → K.word q → q < size) → b < looks → Walk h b l to → seek looks size words l b ≡ Some to
  walked size zero zero b l to low less w = absurd (omega arith)
  walked size zero (suc looks) b l to low less w =
      rw (seek, lt-ltb (b + 1) size (low (b + 1) w.0)) (rw (eq-eqb (level_in (words (b + 1))) l w.1) (ap Some (sym w.2)))
  walked size (suc h) zero b l to low less w = absurd (omega arith)
  walked size (suc h) (suc looks) b l to low less w =
      rw (seek, lt-ltb (b + 1) size (low (b + 1) w.0)) (rw (ne_eqb (level_in (words (b + 1))) l w.1) (rw (lt-ltb (outer_in (words (b + 1))) b w.2)
      (walked size h looks (outer_in (words (b + 1))) l to low (omega (arith, w.2)) w.3)))

  -- evaluations are passed over, for a level above 0
  pub behind_zeros : (z h b b1 l to : ℕ) → 0 < l → Zeros z b b1 → Walk h b1 l to → Walk (z + h) b l to
  behind_zeros zero h b b1 l to up zs w =
      let e : h ≡ 0 + h = omega arith in
      subst (λ u. Walk (0 + h) u l to) zs (subst (λ k. Walk k b1 l to) e w)
  behind_zeros (suc z) h b b1 l to up zs w =
      let rest : Walk (z + h) (outer_in (words (b + 1))) l to = behind_zeros z h (outer_in (words (b + 1))) b1 l to up zs.3 w in
      let no : level_in (words (b + 1)) ≡ l → ⊥ = λ e. absurd (omega (arith, zs.1, e)) in
      let all : Walk (suc (z + h)) b l to = (zs.0, no, zs.2, rest) in
      let e : suc (z + h) ≡ suc z + h = omega arith in
      subst (λ k. Walk k b l to) e all

-- ---- what a place shows of a meaning

module _ (text : List Symbol) (K : Known) (words : ℕ → ℕ) (store : ℕ → Entity Closure) (b : ℕ) where
  abbrev pub IsVariable : Fitting → Placed → Option Denoted → Type 0
  IsVariable kind at (Some (AnEntity n)) =
      (to : ℕ) × (h : ℕ) × Walk K words h b at.level to × K.cell n (to + at.address) × (n < K.fresh) × (sort (store n) ≡ ACell kind (pos 0)) × (0 < at.level) × (at.level < 256) × (at.address < 2 ^ 24)
  IsVariable kind at d = ⊥

  abbrev pub IsLabel : Placed → Option Denoted → Type 0
  IsLabel at (Some (AnEntity n)) =
      (to : ℕ) × (h : ℕ) × Walk K words h b at.level to × K.label n to (address_of text at.address 0) × (n < K.fresh) × (sort (store n) ≡ ALabel) × (0 < at.level) × (at.level < 256) × (at.address < 2 ^ 24) × (address_of text at.address 0 < 2 ^ 24) × (0 < address_of text at.address 0)
  IsLabel at d = ⊥

  abbrev pub Shows : Kind → Placed → Option Denoted → Type 0
  Shows IntegerVariable at d = IsVariable Integer at d
  Shows BooleanVariable at d = IsVariable Boolean at d
  Shows IntegerValue at d = IsVariable Integer at d
  Shows BooleanValue at d = IsVariable Boolean at d
  Shows Label at d = IsLabel at d
  Shows OutInteger at d = d ≡ Some (AStandard OutInteger)
  Shows OutText at d = d ≡ Some (AStandard OutText)
  Shows OutCr at d = d ≡ Some (AStandard OutCr)
  Shows OutChar at d = d ≡ Some (AStandard OutChar)
  Shows InInteger at d = d ≡ Some (AStandard InInteger)
  Shows InChar at d = d ≡ Some (AStandard InChar)
  Shows Abs at d = d ≡ Some (AStandard Abs)
  Shows Sign at d = d ≡ Some (AStandard Sign)
  Shows Undeclared at d = d ≡ None
  Shows kind at d = ⊥

-- what is as a left part what it is elsewhere: all but functions
abbrev pub IsPlain : Kind → Type 0
IsPlain IntegerProcedure = ⊥
IsPlain BooleanProcedure = ⊥
IsPlain kind = ⊤

-- what stays the same keeps what is shown
module _ (text : List Symbol) (K K1 : Known) (words words1 : ℕ → ℕ) (store store1 : ℕ → Entity Closure) (more : Within K K1) (same : (q : ℕ) → K.word q → words1 q ≡ words q) (sorts : (n : ℕ) → n < K.fresh → sort (store1 n) ≡ sort (store n)) where
  pub walk_keeps : (h b l to : ℕ) → Walk K words h b l to → Walk K1 words1 h b l to
  walk_keeps zero b l to w = (more.0 _ w.0, ap level_in (same _ w.0) ∙ w.1, w.2)
  walk_keeps (suc h) b l to w =
      let e = same (b + 1) w.0 in
      (more.0 _ w.0, (λ f. w.1 (sym (ap level_in e) ∙ f)), subst (λ u. outer_in u < b) (sym e) w.2, subst (λ u. Walk K1 words1 h (outer_in u) l to) (sym e) (walk_keeps h _ l to w.3))

  pub zeros_keep : (h b to : ℕ) → Zeros K words h b to → Zeros K1 words1 h b to
  zeros_keep zero b to z = z
  zeros_keep (suc h) b to z =
      let e = same (b + 1) z.0 in
      (more.0 _ z.0, ap level_in e ∙ z.1, subst (λ u. outer_in u < b) (sym e) z.2, subst (λ u. Zeros K1 words1 h (outer_in u) to) (sym e) (zeros_keep h _ to z.3))

  less : (n : ℕ) → n < K.fresh → n < K1.fresh
  less n lt = let m = more.4 in omega arith

  variable_keeps : (b : ℕ) (kind : Fitting) (at : Placed) (d : Option Denoted) → IsVariable text K words store b kind at d → IsVariable text K1 words1 store1 b kind at d
  variable_keeps b kind at (Some (AnEntity n)) v = (v.0, v.1, walk_keeps v.1 b at.level v.0 v.2, more.1 _ _ v.3, less n v.4, sorts n v.4 ∙ v.5, v.6, v.7, v.8)
  variable_keeps b kind at d v = v

  label_keeps : (b : ℕ) (at : Placed) (d : Option Denoted) → IsLabel text K words store b at d → IsLabel text K1 words1 store1 b at d
  label_keeps b at (Some (AnEntity n)) v = (v.0, v.1, walk_keeps v.1 b at.level v.0 v.2, more.2 _ _ _ v.3, less n v.4, sorts n v.4 ∙ v.5, v.6, v.7, v.8, v.9, v.10)
  label_keeps b at d v = v

  pub shows_keeps : (b : ℕ) (kind : Kind) (at : Placed) (d : Option Denoted) → Shows text K words store b kind at d → Shows text K1 words1 store1 b kind at d
  shows_keeps b IntegerVariable at d v = variable_keeps b Integer at d v
  shows_keeps b BooleanVariable at d v = variable_keeps b Boolean at d v
  shows_keeps b IntegerValue at d v = variable_keeps b Integer at d v
  shows_keeps b BooleanValue at d v = variable_keeps b Boolean at d v
  shows_keeps b Label at d v = label_keeps b at d v
  shows_keeps b kind at d v = v

-- ---- the live activations

-- the mark and the level of an activation by its shape
abbrev pub HasShape : live.Shape → (mark level : ℕ) → Type 0
HasShape InProgram mark level = ⊥
HasShape InBlock mark level = mark ≡ 0
HasShape (InProcedure line) mark level = (mark ≡ 1) × (0 < level)
HasShape (InEvaluation line) mark level = (mark ≡ 1) × (level ≡ 0)

module _ (text : List Symbol) where
  module _ (K : Known) (words marks : ℕ → ℕ) where
    -- of what entered an activation; a block has no order to return to
    abbrev pub Entered : live.Shape → (base : ℕ) → Type 0
    Entered InProgram base = ⊤
    Entered InBlock base = ⊤
    Entered (InProcedure line) base = K.word (base + 3) × IsLine text (flat.before (words (base + 3))) line
    Entered (InEvaluation line) base = K.word (base + 3) × IsLine text (flat.before (words (base + 3))) line

    -- so many words from this base on belong to the innermost of these activations
    abbrev pub Chain : Live → (base top : ℕ) → Type 0
    Chain [] base top = ⊥
    Chain (a ∷ []) base top = (a.shape ≡ InProgram) × K.word base × (words base ≡ 0) × (base ≡ 0) × (top ≡ a.words)
    Chain (a ∷ outer ∷ more) base top =
        K.word base × (words base < base) × (base + a.words ≡ top) × HasShape a.shape (marks base) (level_in (words (base + 1))) × K.word (base + 1) × Entered a.shape base
        × Chain (outer ∷ more) (words base) base

  module _ (K K1 : Known) (words words1 marks marks1 : ℕ → ℕ) (more : (q : ℕ) → K.word q → K1.word q) (same : (q : ℕ) → K.word q → words1 q ≡ words q) (marked : (q : ℕ) → K.word q → marks1 q ≡ marks q) where
    entered_keeps : (shape : live.Shape) (base : ℕ) → Entered K words marks shape base → Entered K1 words1 marks1 shape base
    entered_keeps InProgram base e = tt
    entered_keeps InBlock base e = tt
    entered_keeps (InProcedure line) base e = (more _ e.0, subst (λ u. IsLine text (flat.before u) line) (sym (same _ e.0)) e.1)
    entered_keeps (InEvaluation line) base e = (more _ e.0, subst (λ u. IsLine text (flat.before u) line) (sym (same _ e.0)) e.1)

    pub chain_keeps : (lives : Live) (base top : ℕ) → Chain K words marks lives base top → Chain K1 words1 marks1 lives base top
    chain_keeps [] base top c = c
    chain_keeps (x ∷ []) base top c = (c.0, more _ c.1, same _ c.1 ∙ c.2, c.3, c.4)
    chain_keeps (x ∷ outer ∷ rest) base top c =
        let e = same base c.0 in (
          more _ c.0,
          subst (λ u. u < base) (sym e) c.1,
          c.2,
          subst (λ u. HasShape x.shape u (level_in (words1 (base + 1)))) (sym (marked base c.0)) (subst (λ u. HasShape x.shape (marks base) (level_in u)) (sym (same _ c.4)) c.3),
          more _ c.4,
          entered_keeps x.shape base c.5,
          subst (λ u. Chain K1 words1 marks1 (outer ∷ rest) u base) (sym e) (chain_keeps (outer ∷ rest) (words base) base c.6),
        )

  -- ---- where a run stands

  module _ (size : ℕ) where
    -- The words that are free for partial results are n from base + w on.
    pub record RunInvariant (K : Known) (w n : ℕ) (env : Env) (p : Places) (m : Machine) (s : State Closure) (lives : Live) : Type 0 where
      pub spared : (q : ℕ) → K.word q → (q < m.regs.base + w) ⊎ (m.regs.base + w + n ≤ q)
      pub low : (q : ℕ) → K.word q → q < m.regs.top
      pub spared_cell : (e q : ℕ) → K.cell e q → (q < m.regs.base + w) ⊎ (m.regs.base + w + n ≤ q)
      pub low_cell : (e q : ℕ) → K.cell e q → q < m.regs.top
      pub apart : (e q : ℕ) → K.cell e q → K.word q → ⊥
      pub one_cell : (e p q : ℕ) → K.cell e p → K.cell e q → p ≡ q
      pub other : (d e q : ℕ) → K.cell d q → K.cell e q → d ≡ e
      pub known : (e q : ℕ) → K.cell e q → e < K.fresh
      pub known_label : (e b a : ℕ) → K.label e b a → e < K.fresh
      pub cells : (e q : ℕ) → K.cell e q → (kind : Fitting) × (sort (s.store e) ≡ ACell kind (pos 0))
      pub one_label : (e b a b1 a1 : ℕ) → K.label e b a → K.label e b1 a1 → (b ≡ b1) × (a ≡ a1)
      pub holds : (e q : ℕ) → K.cell e q → int_of_word (m.regs.words q) ≡ value_in (s.store e)
      pub frames : (env : Env) (p : Places) (b : ℕ) → K.frame env p b → (x : ℕ) → Shows text K m.regs.words s.store b (p x).what.kind (p x) (found env x)
      pub lefts : (env : Env) (p : Places) (b : ℕ) → K.frame env p b → (x : ℕ) → IsPlain (p x).what.kind → denotation_as_left_part env x ≡ found env x
      pub label_ends : (e b a : ℕ) → K.label e b a → K.word (b + 2) × (m.regs.words (b + 2) ≤ m.regs.top) × (0 < a) × (a < length (object text))
      pub peak : m.regs.top ≤ m.regs.greatest
      pub sees : (b : ℕ) × (z : ℕ) × Zeros K m.regs.words z m.regs.base b × K.frame env p b
      pub fresh : K.fresh ≤ s.fresh
      pub started : m.regs.started ≡ true
      pub left : m.regs.left ≡ s.left
      pub most : m.regs.greatest ≡ s.most
      pub printed : m.printed ≡ s.printed
      pub input : m.regs.input ≡ s.unread
      pub on_top : m.regs.top ≡ live_words lives
      pub chain : Chain K m.regs.words m.regs.marks lives m.regs.base m.regs.top
      pub depth : length lives ≤ suc m.regs.depth
      pub room : m.regs.base + w + n ≤ m.regs.top
      pub fits : m.regs.top ≤ size

    -- what has not changed from m to m1, and what they show
    pub record StateAfter (K : Known) (m m1 : Machine) (s s1 : State Closure) (base top : ℕ) : Type 0 where
      pub on_base : m1.regs.base ≡ base
      pub at_top : m1.regs.top ≡ top
      pub started : m1.regs.started ≡ true
      pub keeps : (q : ℕ) → K.word q → m1.regs.words q ≡ m.regs.words q
      pub marks : (q : ℕ) → K.word q → m1.regs.marks q ≡ m.regs.marks q
      pub holds : (e q : ℕ) → K.cell e q → int_of_word (m1.regs.words q) ≡ value_in (s1.store e)
      pub sorts : (n : ℕ) → n < K.fresh → sort (s1.store n) ≡ sort (s.store n)
      pub left : m1.regs.left ≡ s1.left
      pub most : m1.regs.greatest ≡ s1.most
      pub printed : m1.printed ≡ s1.printed
      pub input : m1.regs.input ≡ s1.unread
      pub fresh : s.fresh ≤ s1.fresh
      pub fewer : s1.left ≤ s.left
      pub deeper : m.regs.depth ≤ m1.regs.depth
      pub higher : m.regs.greatest ≤ m1.regs.greatest

    -- ---- how a run ends

    pub record StopAgrees (final : Final) (why : Why) (stop : Stop) (s : State Closure) : Type 0 where
      pub ending : IsStop why final.ending
      pub printed : final.state.printed ≡ s.printed
      pub left : final.state.regs.left ≡ s.left
      pub most : final.state.regs.greatest ≡ s.most
      pub input : final.state.regs.input ≡ s.unread
      pub line : IsLine text final.state.regs.place stop.line
      pub alike : AreAlike text stop.live (flat.live_in final.state.regs)

    -- ---- a part that is executed

    abbrev pub RefinesOutcome : (T : Type 0) → Known → (G : ℕ → ℕ → ℕ → Type 0) → Machine → State Closure → (goal : ℕ → Type 0) → (base top : ℕ) → (T → Machine → Type 0) → Outcome Closure T → Type 0
    RefinesOutcome T K G m s goal base top Shown (Gives v s1) = (m1 : Machine) × Reach text size m m1 × goal m1.regs.place × Shown v m1 × StateAfter K m m1 s s1 base top
    RefinesOutcome T K G m s goal base top Shown (Goes n s1) = (m1 : Machine) × Reach text size m m1 × G n m1.regs.base m1.regs.place × (m1.regs.top ≡ m1.regs.words (m1.regs.base + 2)) × (s1.left < s.left) × StateAfter K m m1 s s1 m1.regs.base m1.regs.top
    RefinesOutcome T K G m s goal base top Shown (Stops why stop s1) = (j : ℕ) × (final : Final) × (exec (one (object text) size) j m ≡ Over final) × StopAgrees final why stop s1

    -- the code that goes on behind a part
    abbrev pub Behind : Following → ℕ → Type 0
    Behind go place = (st : code.State) × At text st (go st) × (place ≡ st.words)

    pub here_after : (K : Known) (w n : ℕ) (env : Env) (p : Places) (m m1 : Machine) (s s1 : State Closure) (lives : Live) → RunInvariant K w n env p m s lives → StateAfter K m m1 s s1 m.regs.base m.regs.top → RunInvariant K w n env p m1 s1 lives
    here_after K w n env p m m1 s s1 lives h a = record {
      spared = λ q i. subst (λ b. (q < b + w) ⊎ (b + w + n ≤ q)) (sym a.on_base) (h.spared q i);
      low = λ q i. subst (λ t. q < t) (sym a.at_top) (h.low q i);
      spared_cell = λ e q i. subst (λ b. (q < b + w) ⊎ (b + w + n ≤ q)) (sym a.on_base) (h.spared_cell e q i);
      low_cell = λ e q i. subst (λ t. q < t) (sym a.at_top) (h.low_cell e q i);
      apart = h.apart;
      one_cell = h.one_cell;
      other = h.other;
      known = h.known;
      cells = λ e q i. let c = h.cells e q i in (c.0, a.sorts e (h.known e q i) ∙ c.1);
      known_label = h.known_label;
      one_label = h.one_label;
      holds = a.holds;
      frames = λ env p b f x. shows_keeps text K K m.regs.words m1.regs.words s.store s1.store (same_known K) a.keeps a.sorts b (p x).what.kind (p x) (found env x) (h.frames env p b f x);
      lefts = h.lefts;
      label_ends = λ e b c i. let l = h.label_ends e b c i in (l.0, subst (λ u. u ≤ m1.regs.top) (sym (a.keeps (b + 2) l.0)) (subst (λ t. m.regs.words (b + 2) ≤ t) (sym a.at_top) l.1), l.2, l.3);
      peak = let k = h.peak in let g = a.higher in let t = a.at_top in omega arith;
      sees = let se = h.sees in (se.0, se.1, subst (λ b. Zeros K m1.regs.words se.1 b se.0) (sym a.on_base) (zeros_keep text K K m.regs.words m1.regs.words s.store s1.store (same_known K) a.keeps a.sorts se.1 m.regs.base se.0 se.2), se.3);
      fresh = let f = h.fresh in let g = a.fresh in omega arith;
      started = a.started;
      left = a.left;
      most = a.most;
      printed = a.printed;
      input = a.input;
      on_top = a.at_top ∙ h.on_top;
      chain = subst (λ b. Chain K m1.regs.words m1.regs.marks lives b m1.regs.top) (sym a.on_base) (subst (λ t. Chain K m1.regs.words m1.regs.marks lives m.regs.base t) (sym a.at_top) (chain_keeps K K m.regs.words m1.regs.words m.regs.marks m1.regs.marks (λ q i. i) a.keeps a.marks lives m.regs.base m.regs.top h.chain));
      depth = omega (arith, h.depth, a.deeper);
      room = omega (arith, a.on_base, a.at_top, h.room);
      fits = omega (arith, a.at_top, h.fits);
    }
