-- The activation of a block of this part: its variables are cells, its labels are known, and each identifier means what its place shows.
use Rattle.std.proofs.Common.{◌≡◌, ℕ, suc, ◌+◌, ◌*◌, ◌-◌, ◌<◌, ◌≤◌, Bool, true, false, List, [], ◌∷◌, ◌++◌, length, Option, Some, refl, sym, ap, ◌∙◌, subst, arith, inl, inr}
use Rattle.std.specs.Prelude.{◌==◌, ◌^◌, ◌%◌, max, if◌then◌else◌}
use Rattle.std.proofs.lemmas.Nat.{div-mul-add}
use Rattle.std.proofs.lemmas.List.{append-nil}
use Rattle.gier_order.specs.Flat.Region.{level_in, outer_in, level_unit}
use Rattle.gier_order.specs.Flat.Rows.{inside}
use Rattle.gier_tree.specs.declared.kind.Kind.TheVariants.{Label}
use Rattle.gier_tree.specs.Described.{plain, variable_kind}
use Rattle.gier_tree.specs.Entries.{Entry, entry, kind_words, kind_numbers, label_entries}
use Rattle.gier_tree.specs.Object.{address_of}
use Rattle.gier_tree.specs.Places.{Placed, Places, place_all}
use Rattle.gier_tree.specs.Trees.{Name, ValueType, IntegerType, BooleanType, LabelPlace}
use Rattle.gier_meaning.specs.Accounts.{with_left, with_most}
use Rattle.gier_meaning.specs.Live.{Live, live_words, InBlock}
use Rattle.gier_meaning.specs.Plain.{value_kind}
use Rattle.gier_meaning.specs.Scopes.{Declared, Quantity, quantities}
use Rattle.gier_meaning.specs.State.{State, given_out}
use Rattle.gier_meaning.specs.TurnLabels.{entities_from, labels_made}
use Rattle.gier_env.specs.Closures.{Closure}
use Rattle.gier_env.specs.Env.{Env, Inside, NoBindings, Denoted, AnEntity, found, found_in, assigned_in, denotation_as_left_part, with_entities}
use Rattle.gier_fair.specs.InScope.{AreDistinct, identifiers as entry_identifiers}
use Rattle.gier_flat.proofs.OrderRows.{Machine, object}
use Rattle.gier_flat.proofs.Setting.{Setting}
use Rattle.gier_flat.proofs.StackRelation.{Known, Within, sort, Shows, IsVariable, IsPlain, Chain, RunInvariant, shows_keeps, zeros_keep, chain_keeps}
use Rattle.gier_flat.proofs.Composition.{put_same, put_other as put_elsewhere}
use Rattle.gier_flat.proofs.Orders.{to}
use Rattle.gier_flat.proofs.NewActivation.{NewActivation, Inner, opened_below, opened_level, opened_old}
use Rattle.gier_flat.proofs.DeclaredQuantities.{InStep, shows_through, declared_shows}
use Rattle.gier_flat.proofs.DeclaredEntities.{Variable, numbers_of, numbers_count, Mean, mean, mean_both, put_all, AreCells, put_other, put_cells, put_same as put_state, cell_at}
use Rattle.gier_flat.proofs.BlockEntries.{variable_entries, quantities_both}
use Rattle.gier_flat.proofs.Labels.{identifiers, older_kept, label_made, labels_same}
use Rattle.gier_flat.proofs.LabelPlaces.{IsPlaced}

pub quantities_count : (xs : List ℕ) → length (quantities xs) ≡ length xs
quantities_count [] = refl
quantities_count (x ∷ xs) = ap suc (quantities_count xs)

count_both : (xs ys : List ℕ) → length (xs ++ ys) ≡ length xs + length ys
count_both [] ys = omega arith
count_both (x ∷ xs) ys = let e = count_both xs ys in omega (arith, e)

-- as left parts identifiers mean what they mean elsewhere, but for functions further out
left_alike : (es : List Entry) (level address number n : ℕ) (places : Places) (x : ℕ) (a b : Option Denoted) → (IsPlain (places x).what.kind → a ≡ b) → IsPlain (place_all level address number es places x).what.kind
    → assigned_in (with_entities n (quantities (entry_identifiers es)) NoBindings) x a ≡ found_in (with_entities n (quantities (entry_identifiers es)) NoBindings) x b
left_alike [] level address number n places x a b h i = h i
left_alike (e ∷ es) level address number n places x a b h i =
    by (x == e.name.number) _ (place_all level (address + kind_words e.what.kind e.what.count) (number + kind_numbers e.what.kind) es places x) i
    (left_alike es level (address + kind_words e.what.kind e.what.count) (number + kind_numbers e.what.kind) (suc n) places x a b h)
  where
    by : (t : Bool) (here there : Placed) → IsPlain (if t then here else there).what.kind
        → (IsPlain there.what.kind → assigned_in (with_entities (suc n) (quantities (entry_identifiers es)) NoBindings) x a ≡ found_in (with_entities (suc n) (quantities (entry_identifiers es)) NoBindings) x b)
        → (if t then Some (AnEntity n) else assigned_in (with_entities (suc n) (quantities (entry_identifiers es)) NoBindings) x a) ≡ (if t then Some (AnEntity n) else found_in (with_entities (suc n) (quantities (entry_identifiers es)) NoBindings) x b)
    by true here there j r = refl
    by false here there j r = r j

module _ (setting : Setting) (K : Known) (w0 need0 : ℕ) (env : Env) (p : Places) (m : Machine) (s : State Closure) (lives : Live) (h : RunInvariant setting.text setting.size K w0 need0 env p m s lives)
    (level numbers : ℕ) (vs : List Variable) (ls : List LabelPlace) (left words need : ℕ) where
  abbrev pub ys : List ℕ
  ys = identifiers ls

  abbrev pub xs : List ℕ
  xs = numbers_of vs ++ ys

  abbrev pub es : List Entry
  es = variable_entries vs ++ label_entries ls

  abbrev pub q : Places
  q = place_all level 3 numbers es p

  abbrev pub room : ℕ
  room = words + need

  abbrev pub live1 : Live
  live1 = record { shape = InBlock; words = room } ∷ lives

  abbrev pub top : ℕ
  top = m.regs.top

  abbrev pub m1 : Machine
  m1 = to setting.text setting.size setting.ends m (record (inside (object setting.text) setting.size m.regs level room m.regs.base 0 left (max m.regs.greatest (top + room)) (top + room)) { place = m.regs.place + 1 })

  abbrev pub before : State Closure
  before = with_left left (with_most (max s.most (live_words lives + room)) s)

  -- the entities of its labels stand behind those of its variables
  abbrev pub first : ℕ
  first = s.fresh + length (quantities (numbers_of vs))

  abbrev pub own : List ℕ
  own = entities_from first ys

  abbrev pub env1 : Env
  env1 = Inside (with_entities s.fresh (quantities xs) NoBindings) env

  abbrev pub labelled : State Closure
  labelled = given_out (length (quantities xs)) (labels_made own before)

  abbrev pub s1 : State Closure
  s1 = put_all env1 vs labelled

  abbrev pub NewCell : ℕ → ℕ → Type 0
  NewCell e c = (i : ℕ) × (i < length vs) × (e ≡ s.fresh + i) × (c ≡ top + (3 + i))

  abbrev pub NewLabel : ℕ → ℕ → Type 0
  NewLabel e a = (i : ℕ) × (i < length ys) × (e ≡ first + i) × (a ≡ address_of setting.text (numbers + i) 0)

  abbrev pub K1 : Known
  K1 = Inner setting.text setting.size K m m1 s s1 env1 q top NewCell NewLabel

  module _ (up : 0 < level) (below : level < 256) (words_are : words ≡ 3 + length vs) (low : room < 2 ^ 24) (distinct : AreDistinct xs) (outer : (x : ℕ) → (p x).level < level)
      (good : (i : ℕ) → i < length ys → IsPlaced setting (numbers + i)) (fit : top + room ≤ setting.size) where
    first_is : first ≡ s.fresh + length vs
    first_is = let a = quantities_count (numbers_of vs) in let b = numbers_count vs in omega (arith, a, b)

    means : Mean (found env1) s.fresh (numbers_of vs) × Mean (found env1) (s.fresh + length (numbers_of vs)) ys
    means = mean_both (found env1) s.fresh (numbers_of vs) ys (mean s.fresh xs (found env) distinct)

    pub labels_mean : Mean (found env1) first ys
    labels_mean =
        let a = quantities_count (numbers_of vs) in
        let e : s.fresh + length (numbers_of vs) ≡ first = omega (arith, a) in
        subst (λ k. Mean (found env1) k ys) e means.1

    fresh_is : s1.fresh ≡ s.fresh + (length vs + length ys)
    fresh_is =
        let a = (put_state env1 vs labelled).fresh in
        let b = (labels_same own before).fresh in
        let c = quantities_count xs in
        let d = count_both (numbers_of vs) ys in
        let e = numbers_count vs in
        omega (arith, a, b, c, d, e)

    kept : (n : ℕ) → n < K.fresh → s1.store n ≡ s.store n
    kept n lt =
        let f = h.fresh in
        put_other env1 vs s.fresh labelled means.0 n (inl (omega (arith, lt, f))) ∙ older_kept first ys before n (omega (arith, lt, f))

    cells : AreCells s1.store s.fresh vs
    cells = put_cells env1 vs s.fresh labelled means.0

    label_is : (i e : ℕ) → i < length ys → e ≡ first + i → sort (s1.store e) ≡ sort (labelled.store e)
    label_is i e lt is = ap sort (put_other env1 vs s.fresh labelled means.0 e (inr (omega (arith, is, first_is))))

    base_below : m.regs.base < top
    base_below = by lives h.chain
      where
        base_word : (those : Live) (base end : ℕ) → Chain setting.text K m.regs.words m.regs.marks those base end → K.word base
        base_word [] base end c = absurd c
        base_word (x ∷ []) base end c = c.1
        base_word (x ∷ outer ∷ more) base end c = c.0

        by : (those : Live) → Chain setting.text K m.regs.words m.regs.marks those m.regs.base m.regs.top → m.regs.base < top
        by those c = h.low m.regs.base (base_word those m.regs.base m.regs.top c)

    base_small : m.regs.base < level_unit
    base_small = let a = base_below in let b = setting.small in omega (arith, a, fit, b)

    level_is : level_in (m1.regs.words (top + 1)) ≡ level
    level_is = ap level_in (opened_level m.regs.words top m.regs.base level m.regs.base room) ∙ div-mul-add level level_unit m.regs.base base_small

    outer_is : outer_in (m1.regs.words (top + 1)) ≡ m.regs.base
    outer_is = ap outer_in (opened_level m.regs.words top m.regs.base level m.regs.base room) ∙ (let r = base_small in mod_is r)
      where
        mod_is : m.regs.base < level_unit → (level * level_unit + m.regs.base) % level_unit ≡ m.regs.base
        mod_is lt = omega (arith, lt)

    -- ---- what is declared stands in the order of the entries

    abbrev Stands : (address number n : ℕ) → List Entry → List Declared → Type 0
    Stands = InStep setting.text K1 m1.regs.words s1.store top level

    one : (t : ValueType) (x : Name) (address number n : ℕ) (rest : List Entry) (more : List Declared) → IsVariable setting.text K1 m1.regs.words s1.store top (value_kind t) (record { what = plain (variable_kind t); level = level; address = address }) (Some (AnEntity n))
        → ((a b : ℕ) → a ≡ address + 1 → b ≡ number → Stands a b (suc n) rest more) → Stands address number n (entry (plain (variable_kind t)) x ∷ rest) (Quantity x.number ∷ more)
    one IntegerType x address number n rest more v go = (refl, v, go (address + 1) (number + 0) refl (omega arith))
    one BooleanType x address number n rest more v go = (refl, v, go (address + 1) (number + 0) refl (omega arith))

    variables_stand : (us : List Variable) (address number n : ℕ) (rest : List Entry) (more : List Declared) → address + s.fresh ≡ n + 3 → s.fresh ≤ n → n + length us ≤ s.fresh + length vs → AreCells s1.store n us
        → ((a b c : ℕ) → b ≡ number → c ≡ n + length us → Stands a b c rest more) → Stands address number n (variable_entries us ++ rest) (quantities (numbers_of us) ++ more)
    variables_stand [] address number n rest more f g le c go = go address number n refl (omega arith)
    variables_stand (v ∷ us) address number n rest more f g le c go =
        let i : ℕ = address - 3 in
        let h3 : 3 ≤ address = omega (arith, f, g) in
        let at_i : address ≡ 3 + i = omega (arith, h3) in
        let n_is : n ≡ s.fresh + i = omega (arith, f, at_i) in
        let lt : i < length vs = omega (arith, le, n_is) in
        let wa = words_are in
        one v.type v.name address number n (variable_entries us ++ rest) (quantities (numbers_of us) ++ more)
        (top, 0, (inr (omega arith, omega arith), level_is, refl), inr (i, lt, n_is, omega (arith, at_i)), omega (arith, fresh_is, n_is, lt), ap sort c.0, up, below, omega (arith, at_i, lt, wa, low))
        (λ a b ea eb. variables_stand us a b (suc n) rest more (omega (arith, ea, f)) (omega (arith, g)) (omega (arith, le)) c.1
        (λ a1 b1 c1 e1 g1. go a1 b1 c1 (e1 ∙ eb) (omega (arith, g1))))

    labels_stand : (those : List LabelPlace) (address number n i : ℕ) → number ≡ numbers + i → n ≡ first + i → i + length (identifiers those) ≡ length ys → Stands address number n (label_entries those) (quantities (identifiers those))
    labels_stand [] address number n i e f g = tt
    labels_stand (l ∷ those) address number n i e f g =
        let lt : i < length ys = omega (arith, g) in
        let is = good i lt in
        let short = setting.short in
        let b = is.below in
        let here : Shows setting.text K1 m1.regs.words s1.store top Label (record { what = plain Label; level = level; address = numbers + i }) (Some (AnEntity n)) = (
          top,
          0,
          (inr (omega arith, omega arith), level_is, refl),
          inr (refl, (i, lt, f, refl)),
          omega (arith, fresh_is, first_is, f, lt),
          label_is i n lt f ∙ ap sort (label_made first ys before i n lt f),
          up,
          below,
          is.small,
          omega (arith, b, short),
          is.above,
        ) in (
          refl,
          subst (λ k. Shows setting.text K1 m1.regs.words s1.store top Label (record { what = plain Label; level = level; address = k }) (Some (AnEntity n))) (sym e) here,
          labels_stand those (address + 0) (number + 1) (suc n) (suc i) (omega (arith, e)) (omega (arith, f)) (omega (arith, g)),
        )

    all_stand : Stands 3 numbers s.fresh es (quantities xs)
    all_stand =
        subst (λ ds. Stands 3 numbers s.fresh es ds) (sym (quantities_both (numbers_of vs) ys))
        (variables_stand vs 3 numbers s.fresh (label_entries ls) (quantities ys) (omega arith) (omega arith) (omega arith) cells
        (λ a b c e g. labels_stand ls a b c 0 (omega (arith, e)) (omega (arith, g, first_is)) (omega arith)))

    -- ---- what is declared further out

    within_is : Within K K1
    within_is = let f = h.fresh in ((λ q i. inl i), (λ e q i. inl i), (λ e b a i. inl i), (λ env p b i. inl i), omega (arith, f, fresh_is))

    same : (q : ℕ) → K.word q → m1.regs.words q ≡ m.regs.words q
    same q i = opened_below m.regs.words top m.regs.base level m.regs.base room q (h.low q i)

    sorts : (n : ℕ) → n < K.fresh → sort (s1.store n) ≡ sort (s.store n)
    sorts n lt = ap sort (kept n lt)

    outer_shows : (x : ℕ) → Shows setting.text K1 m1.regs.words s1.store top (p x).what.kind (p x) (found env x)
    outer_shows x =
        let se = h.sees in
        let not : level_in (m1.regs.words (top + 1)) ≡ (p x).level → ⊥ = λ e. let lt = outer x in absurd (omega (arith, e, level_is, lt)) in
        shows_through setting.text K1 m1.regs.words s1.store top m.regs.base se.0 se.1 (inr (omega arith, omega arith)) outer_is base_below
        (zeros_keep setting.text K K1 m.regs.words m1.regs.words s.store s1.store within_is same sorts se.1 m.regs.base se.0 se.2) (p x).what.kind (p x) (found env x) not
        (shows_keeps setting.text K K1 m.regs.words m1.regs.words s.store s1.store within_is same sorts se.0 (p x).what.kind (p x) (found env x) (h.frames env p se.0 se.3 x))

    pub is_new : s.left ≡ suc left → entry_identifiers es ≡ xs → NewActivation setting.text setting.size K m m1 s s1 env1 q top NewCell NewLabel m.regs.base level m.regs.base words need room live1
    is_new e named =
        let same_state = labels_same own before in
        let put = put_state env1 vs labelled in
        let wa = words_are in
        record {
          cell_in = λ n c i. (omega (arith, i.3), omega (arith, i.3, i.1, wa));
          one_cell = λ n c d i j. omega (arith, i.2, i.3, j.2, j.3);
          other = λ n k c i j. omega (arith, i.2, i.3, j.2, j.3);
          fresh_cell = λ n c i. let f = h.fresh in (omega (arith, i.2, f), omega (arith, i.2, i.1, fresh_is));
          cell_is = λ n c i. let r = cell_at s1.store s.fresh vs i.0 n cells i.1 i.2 in (value_kind r.0, r.1);
          one_label = λ n a b i j. let f : i.0 ≡ j.0 = omega (arith, i.2, j.2) in i.3 ∙ ap (λ k. address_of setting.text (numbers + k) 0) f ∙ sym j.3;
          fresh_label = λ n a i. let f = h.fresh in (omega (arith, i.2, f), omega (arith, i.2, i.1, fresh_is, first_is));
          label_ends = λ n a i. let g = good i.0 i.1 in (subst (λ a. 0 < a) (sym i.3) g.above, subst (λ a. a < length (object setting.text)) (sym i.3) g.below);
          kept = kept;
          fresh = within_is.4;
          shows = λ x. declared_shows setting.text K1 m1.regs.words s1.store top level es (quantities xs) 3 numbers s.fresh p x (found env x) all_stand (outer_shows x);
          lefts = λ x i. subst (λ zs. assigned_in (with_entities s.fresh (quantities zs) NoBindings) x (denotation_as_left_part env x) ≡ found_in (with_entities s.fresh (quantities zs) NoBindings) x (found env x)) named
              (left_alike es level 3 numbers s.fresh p x (denotation_as_left_part env x) (found env x) (λ j. h.lefts env p h.sees.0 h.sees.3 x j) i);
          words = λ q. refl;
          base = refl;
          top = refl;
          on_top = let t = h.on_top in omega (arith, t);
          chain = chained lives h.chain;
          depth = let d = h.depth in omega (arith, d);
          peak = omega arith;
          fits = fit;
          header = omega (arith, wa);
          room_is = omega arith;
          started = h.started;
          left = sym (put.left ∙ same_state.left);
          most = let a = h.most in let b = h.on_top in let c = put.most in let d = same_state.most in omega (arith, a, b, c, d);
          printed = append-nil m.printed ∙ h.printed ∙ sym (put.printed ∙ same_state.printed);
          input = h.input ∙ sym (put.unread ∙ same_state.unread);
        }
      where
        chained : (those : Live) → Chain setting.text K m.regs.words m.regs.marks those m.regs.base m.regs.top → Chain setting.text K1 m1.regs.words m1.regs.marks (record { shape = InBlock; words = room } ∷ those) top (top + room)
        chained [] c = absurd c
        chained (a ∷ more) c =
            let old = opened_old m.regs.words top m.regs.base level m.regs.base room in
            let b = base_below in (
              inr (omega arith, omega arith),
              omega (arith, old, b),
              refl,
              put_same m.regs.marks top 0 top refl,
              inr (omega arith, omega arith),
              tt,
              subst (λ u. Chain setting.text K1 m1.regs.words m1.regs.marks (a ∷ more) u top) (sym old)
                  (chain_keeps setting.text K K1 m.regs.words m1.regs.words m.regs.marks m1.regs.marks (λ q i. inl i) same (λ q i. put_elsewhere m.regs.marks top 0 q (λ f. let l = h.low q i in absurd (omega (arith, f, l)))) (a ∷ more) m.regs.base m.regs.top c),
            )
