-- The activation of a program: its labels are known, and each identifier means what its place shows.
use Rattle.std.proofs.Common.{◌≡◌, ℕ, suc, ◌+◌, ◌<◌, ◌≤◌, Bool, true, false, List, [], ◌∷◌, length, Option, Some, refl, sym, ap, ◌∙◌, subst, arith, inr}
use Rattle.std.specs.Prelude.{◌==◌, if◌then◌else◌}
use Rattle.gier_order.specs.Flat.Region.{level_in}
use Rattle.gier_order.specs.Flat.Rows.{first_activation}
use Rattle.gier_order.specs.Flat.Run.{machine_at_start}
use Rattle.gier_tree.specs.declared.kind.Kind.TheVariants.{Label}
use Rattle.gier_tree.specs.Described.{Described, plain}
use Rattle.gier_tree.specs.Entries.{label_entries}
use Rattle.gier_tree.specs.Object.{address_of}
use Rattle.gier_tree.specs.Places.{Places, place_all, standard_places}
use Rattle.gier_tree.specs.Trees.{LabelPlace}
use Rattle.gier_meaning.specs.Accounts.{with_most}
use Rattle.gier_meaning.specs.Live.{Live, InProgram}
use Rattle.gier_meaning.specs.Scopes.{quantities}
use Rattle.gier_meaning.specs.Standing.{initial_state}
use Rattle.gier_meaning.specs.State.{State, given_out}
use Rattle.gier_meaning.specs.TurnLabels.{entities_from, labels_made}
use Rattle.gier_env.specs.Closures.{Closure}
use Rattle.gier_env.specs.Env.{Env, Outermost, Inside, NoBindings, Denoted, AnEntity, found, found_in, assigned_in, with_entities}
use Rattle.gier_env.specs.Standing.{standard_bindings}
use Rattle.gier_flat.proofs.OrderRows.{Machine, object}
use Rattle.gier_flat.proofs.Setting.{Setting}
use Rattle.gier_flat.proofs.LabelPlaces.{IsPlaced}
use Rattle.gier_flat.proofs.StackRelation.{Known, sort, Shows}
use Rattle.gier_flat.proofs.Orders.{to}
use Rattle.gier_flat.proofs.NewActivation.{NewActivation, Inner, opened_level}
use Rattle.gier_flat.proofs.StartAndStop.{NothingKnown}
use Rattle.gier_flat.proofs.DeclaredQuantities.{InStep, declared_shows}
use Rattle.gier_flat.proofs.Labels.{identifiers, entities_count, label_made, labels_same}

-- labels mean the same as left parts and elsewhere
assigned_labels : (n : ℕ) (xs : List ℕ) (x : ℕ) (outer : Option Denoted) → assigned_in (with_entities n (quantities xs) NoBindings) x outer ≡ found_in (with_entities n (quantities xs) NoBindings) x outer
assigned_labels n [] x outer = refl
assigned_labels n (y ∷ ys) x outer = ap (λ d. if x == y then Some (AnEntity n) else d) (assigned_labels (suc n) ys x outer)

-- what identifiers mean in the program, where they are placed, and the entities of its labels
abbrev pub env : List ℕ → Env
env xs = Inside (with_entities 0 (quantities xs) NoBindings) (Inside standard_bindings Outermost)

abbrev pub places : List LabelPlace → Places
places ls = place_all 1 0 0 (label_entries ls) standard_places

abbrev pub own : List ℕ → List ℕ
own xs = entities_from 0 xs

module _ (setting : Setting) (input : List ℕ) (steps : ℕ) (ls : List LabelPlace) (xs : List ℕ) (same : identifiers ls ≡ xs) (need : ℕ) where
  abbrev pub s0 : State Closure
  s0 = initial_state input steps

  abbrev pub s1 : State Closure
  s1 = given_out (length (own xs)) (labels_made (own xs) (with_most (3 + need) s0))

  abbrev pub lives : Live
  lives = record { shape = InProgram; words = 3 + need } ∷ []

  abbrev pub m0 : Machine
  m0 = machine_at_start 0 input steps

  abbrev pub m1 : Machine
  m1 = to setting.text setting.size setting.ends m0 (record (first_activation (object setting.text) setting.size m0.regs 1 (3 + need)) { place = 1 })

  -- the entity of a label has the label's number
  abbrev pub NewLabel : ℕ → ℕ → Type 0
  NewLabel e a = (e < length xs) × (a ≡ address_of setting.text e 0)

  abbrev pub K1 : Known
  K1 = Inner setting.text setting.size NothingKnown m0 m1 s0 s1 (env xs) (places ls) 0 (λ e q. ⊥) NewLabel

  module _ (good : (e : ℕ) → e < length xs → IsPlaced setting e) where
    fresh_is : s1.fresh ≡ length xs
    fresh_is =
        let same_fresh = (labels_same (own xs) (with_most (3 + need) s0)).fresh in
        let count = entities_count 0 xs in
        omega (arith, same_fresh, count)

    abbrev ShownAt : Described → Option Denoted → Type 0
    ShownAt a d = Shows setting.text K1 m1.regs.words s1.store 0 a.kind (record { what = a; level = 0; address = 0 }) d

    level_is : level_in (m1.regs.words 1) ≡ 1
    level_is = let e = opened_level m0.regs.words 0 0 1 0 (3 + need) in ap level_in e

    in_step : (ls : List LabelPlace) (address number n : ℕ) → number ≡ n → n + length (identifiers ls) ≡ length xs → InStep setting.text K1 m1.regs.words s1.store 0 1 address number n (label_entries ls) (quantities (identifiers ls))
    in_step [] address number n f g = tt
    in_step (l ∷ ls) address number n f g =
        let lt : n < length xs = omega (arith, g) in
        let short = setting.short in
        let is = good n lt in
        let low = is.below in
        let here : Shows setting.text K1 m1.regs.words s1.store 0 Label (record { what = plain Label; level = 1; address = n }) (Some (AnEntity n)) = (
          0,
          0,
          (inr (omega arith, omega arith), level_is, refl),
          inr (refl, (lt, refl)),
          omega (arith, fresh_is, lt),
          ap sort (label_made 0 xs (with_most (3 + need) s0) n n lt (omega arith)),
          omega arith,
          omega arith,
          is.small,
          omega (arith, low, short),
          is.above,
        ) in (
          refl,
          subst (λ k. Shows setting.text K1 m1.regs.words s1.store 0 Label (record { what = plain Label; level = 1; address = k }) (Some (AnEntity n))) (sym f) here,
          in_step ls (address + 0) (number + 1) (suc n) (omega (arith, f)) (omega (arith, g)),
        )

    abbrev outer : Env
    outer = Inside standard_bindings Outermost

    -- the standard procedures
    standard_shows : (x : ℕ) → Shows setting.text K1 m1.regs.words s1.store 0 (standard_places x).what.kind (standard_places x) (found outer x)
    standard_shows x =
        by (x == 0) _ _ _ _ refl (by (x == 1) _ _ _ _ refl (by (x == 2) _ _ _ _ refl (by (x == 3) _ _ _ _ refl (by (x == 4) _ _ _ _ refl
        (by (x == 5) _ _ _ _ refl (by (x == 6) _ _ _ _ refl (by (x == 7) _ _ _ _ refl refl)))))))
      where
        by : (t : Bool) (a b : Described) (c d : Option Denoted) → ShownAt a c → ShownAt b d → ShownAt (if t then a else b) (if t then c else d)
        by true a b c d i j = i
        by false a b c d i j = j

    pub shows : (x : ℕ) → Shows setting.text K1 m1.regs.words s1.store 0 (places ls x).what.kind (places ls x) (found (env xs) x)
    shows x =
        let same_length : length (identifiers ls) ≡ length xs = ap length same in
        declared_shows setting.text K1 m1.regs.words s1.store 0 1 (label_entries ls) (quantities xs) 0 0 0 standard_places x (found outer x)
        (subst (λ ys. InStep setting.text K1 m1.regs.words s1.store 0 1 0 0 0 (label_entries ls) (quantities ys)) same (in_step ls 0 0 0 refl (omega (arith, same_length)))) (standard_shows x)

    pub is_new : 3 + need ≤ setting.size → NewActivation setting.text setting.size NothingKnown m0 m1 s0 s1 (env xs) (places ls) 0 (λ e q. ⊥) NewLabel 0 1 0 3 need (3 + need) lives
    is_new fit =
        let same_state = labels_same (own xs) (with_most (3 + need) s0) in
        record {
          cell_in = λ e q i. absurd i;
          one_cell = λ e q r i j. absurd i;
          other = λ d e q i j. absurd i;
          fresh_cell = λ e q i. absurd i;
          cell_is = λ e q i. absurd i;
          one_label = λ e a b i j. i.1 ∙ sym j.1;
          fresh_label = λ e a i. (omega arith, omega (arith, fresh_is, i.0));
          label_ends = λ e a i. (subst (λ a. 0 < a) (sym i.1) (good e i.0).above, subst (λ a. a < length (object setting.text)) (sym i.1) (good e i.0).below);
          kept = λ n lt. absurd (omega (arith, lt));
          fresh = omega arith;
          shows = shows;
          lefts = λ x i. assigned_labels 0 xs x (found outer x);
          words = λ q. refl;
          base = refl;
          top = omega arith;
          on_top = omega arith;
          chain = (refl, inr (omega arith, omega arith), refl, refl, omega arith);
          depth = omega arith;
          peak = omega arith;
          fits = omega (arith, fit);
          header = omega arith;
          room_is = omega arith;
          started = refl;
          left = sym same_state.left;
          most = omega (arith, same_state.most);
          printed = sym same_state.printed;
          input = sym same_state.unread;
        }
