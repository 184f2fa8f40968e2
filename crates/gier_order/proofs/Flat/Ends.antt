-- A run of any machine, with a bound on its moves, ends alike with more moves; and it ends where each move lowers one
-- number, or lowers another bounded one and doesn't raise the first.
use Rattle.std.proofs.Common.{◌≡◌, ℕ, zero, suc, ◌+◌, ◌-◌, ◌<◌, ◌≤◌, ◌⊎◌, inl, inr, ⊎_elim, List, length, refl, sym, ap, ◌∙◌, subst, arith}
use Rattle.std.specs.Prelude.{slice_get}
use Rattle.std.proofs.lemmas.Bool.{cases_lt}
use Rattle.std.proofs.lemmas.Option.{slice_get_past}
use Rattle.gier_order.specs.Flat.Row.{Regs, Step, On, Ends, Odd, Row, on_word}
use Rattle.gier_order.specs.Flat.Rows.{row}
use Rattle.gier_order.specs.Flat.Run.{Move, More, Last, Outcome, Over, Unfinished, then_on, exec, State, Final, with_row, next_state, one, great, small, rounds, enough, machine_at_start, flat, report_of, final_of}
use Rattle.gier_order.proofs.Flat.Falls.{Lowers, Falls, row_falls}

module _ {M F : Type 0} (one : M → Move M F) where
  abbrev IsOver : Outcome F → Type 0
  IsOver (Over x) = Unit {0}
  IsOver Unfinished = ⊥

  on_longer : (f g : M → Outcome F) → ((m : M) (x : F) → f m ≡ Over x → g m ≡ Over x) → (s : Move M F) (x : F) → then_on one s f ≡ Over x → then_on one s g ≡ Over x
  on_longer f g h (More m) x e = h m x e
  on_longer f g h (Last y) x e = e

  pub longer : (k n : ℕ) → k ≤ n → (m : M) (x : F) → exec one k m ≡ Over x → exec one n m ≡ Over x
  longer zero n le m x e = absurd (subst IsOver (sym e) tt)
  longer (suc k) zero le m x e = absurd (omega (arith, le))
  longer (suc k) (suc n) le m x e = on_longer (exec one k) (exec one n) (λ m x e. longer k n (omega (arith, le)) m x e) (one m) x e

  -- the first number falls, or the second does, which is at most len
  module _ (len : ℕ) (first second : M → ℕ) (within : (m : M) → second m ≤ len) (falls : (m m1 : M) → one m ≡ More m1 → (first m1 < first m) ⊎ ((first m1 ≤ first m) × (second m1 < second m))) where
    on_over : (s : Move M F) (f : M → Outcome F) → ((m : M) → s ≡ More m → IsOver (f m)) → IsOver (then_on one s f)
    on_over (More m) f h = h m refl
    on_over (Last x) f h = tt

    -- g bounds the first, d the second
    ends : (k g d : ℕ) → d + rounds len g < k → (m : M) → first m ≤ g → second m ≤ d → IsOver (exec one k m)
    ends zero g d lt m a b = absurd (omega (arith, lt))
    ends (suc k) zero d lt m a b =
        on_over (one m) (exec one k) (λ m1 e. elim (falls m m1 e) [ inl x ↦ absurd (omega (arith, x, a)) | inr x ↦ second_zero k d m m1 lt a b x.0 x.1 (λ d1 lt1 a1 b1. ends k zero d1 lt1 m1 a1 b1) ])
      where
        second_zero : (k d : ℕ) (m m1 : M) → d + 0 < suc k → first m ≤ 0 → second m ≤ d → first m1 ≤ first m → second m1 < second m → ((d1 : ℕ) → d1 + 0 < k → first m1 ≤ 0 → second m1 ≤ d1 → IsOver (exec one k m1)) → IsOver (exec one k m1)
        second_zero k zero m m1 lt a b x y next = absurd (omega (arith, b, y))
        second_zero k (suc d) m m1 lt a b x y next = next d (omega (arith, lt)) (omega (arith, a, x)) (omega (arith, b, y))
    ends (suc k) (suc g) d lt m a b =
        on_over (one m) (exec one k) (λ m1 e. elim (falls m m1 e) [ inl x ↦ ends k g len (omega (arith, lt)) m1 (omega (arith, x, a)) (within m1) | inr x ↦ second_suc k g d m m1 lt a b x.0 x.1 (λ d1 lt1 a1 b1. ends k (suc g) d1 lt1 m1 a1 b1) ])
      where
        second_suc : (k g d : ℕ) (m m1 : M) → d + (suc len + rounds len g) < suc k → first m ≤ suc g → second m ≤ d → first m1 ≤ first m → second m1 < second m → ((d1 : ℕ) → d1 + (suc len + rounds len g) < k → first m1 ≤ suc g → second m1 ≤ d1 → IsOver (exec one k m1)) → IsOver (exec one k m1)
        second_suc k g zero m m1 lt a b x y next = absurd (omega (arith, b, y))
        second_suc k g (suc d) m m1 lt a b x y next = next d (omega (arith, lt)) (omega (arith, a, x)) (omega (arith, b, y))

    over_of : (o : Outcome F) → IsOver o → (x : F) × (o ≡ Over x)
    over_of (Over x) is = (x, refl)
    over_of Unfinished is = absurd is

    pub ends_so : (m : M) → (x : F) × (exec one (suc (rounds len (suc (first m)))) m ≡ Over x)
    ends_so m = over_of _ (ends (suc (rounds len (suc (first m)))) (first m) len (omega arith) m (omega arith) (within m))

    pub same_end : (k j : ℕ) (m : M) (x : F) → rounds len (suc (first m)) < k → exec one j m ≡ Over x → exec one k m ≡ Over x
    same_end k j m x lt e = ⊎_elim (λ l. longer j k (omega (arith, l)) m x e) (λ l. back (exec one k m) refl (ends k (first m) len (omega (arith, lt)) m (omega arith) (within m)) l) (cases_lt j k)
      where
        back : (o : Outcome F) → exec one k m ≡ o → IsOver o → k ≤ j → exec one k m ≡ Over x
        back (Over y) is over l = is ∙ (sym (longer k j l m y is) ∙ e)
        back Unfinished is over l = absurd over

-- the flat run is such a machine
module _ (code : List ℕ) (size : ℕ) where
  -- the order is one of the object's
  abbrev IsAt : Regs → Step → Type 0
  IsAt m (On m1) = m.place < length code
  IsAt m (Ends ending m1) = Unit {0}
  IsAt m Odd = Unit {0}

  any_at : (m : Regs) (step : Step) → m.place < length code → IsAt m step
  any_at m (On m1) lt = lt
  any_at m (Ends ending m1) lt = tt
  any_at m Odd lt = tt

  at_word : (m : Regs) (go : ℕ → Row) → ((m.place < length code) ⊎ (length code ≤ m.place)) → IsAt m (on_word m.place go (slice_get code m.place)).step
  at_word m go (inl lt) = any_at m _ lt
  at_word m go (inr past) = rw (slice_get_past code m.place past) tt

  row_at : (m : Regs) → IsAt m (row code size m).step
  row_at m = at_word m _ (cases_lt m.place (length code))

  small_falls : (p p1 : ℕ) → p < length code → p < p1 → length code - p1 < length code - p
  small_falls p p1 lt ahead = omega (arith, lt, ahead)

  lowered : (s s1 : State) → s.regs.place < length code → Lowers s.regs s1.regs → (great s1 < great s) ⊎ ((great s1 ≤ great s) × (small code s1 < small code s))
  lowered s s1 lt (inl less) = inl less
  lowered s s1 lt (inr (same, ahead)) = inr (same, small_falls s.regs.place s1.regs.place lt ahead)

  abbrev Same : Move State Final → State → Type 0
  Same (More s) s1 = s ≡ s1
  Same (Last x) s1 = ⊥

  same_of : (move : Move State Final) (s1 : State) → move ≡ More s1 → Same move s1
  same_of move s1 e = subst (λ move. Same move s1) (sym e) refl

  moved_falls : (s s1 : State) (r : Row) (step : Step) → IsAt s.regs step → Falls s.regs step → Same (next_state code s r step) s1 → (great s1 < great s) ⊎ ((great s1 ≤ great s) × (small code s1 < small code s))
  moved_falls s s1 r (On m1) at falls same = subst (λ t. (great t < great s) ⊎ ((great t ≤ great s) × (small code t < small code s))) same (lowered s (with_row s r m1) at falls)
  moved_falls s s1 r (Ends ending m1) at falls same = absurd same
  moved_falls s s1 r Odd at falls same = absurd same

  one_falls : (s s1 : State) → one code size s ≡ More s1 → (great s1 < great s) ⊎ ((great s1 ≤ great s) × (small code s1 < small code s))
  one_falls s s1 e = moved_falls s s1 (row code size s.regs) (row code size s.regs).step (row_at s.regs) (row_falls code size s.regs) (same_of _ s1 e)

  within : (s : State) → small code s ≤ length code
  within s = omega arith

  pub run_longer : (k n : ℕ) → k ≤ n → (s : State) (final : Final) → exec (one code size) k s ≡ Over final → exec (one code size) n s ≡ Over final
  run_longer = longer (one code size)

  pub run_ends : (s : State) → (final : Final) × (exec (one code size) (enough code s) s ≡ Over final)
  run_ends s = ends_so (one code size) (length code) great (small code) within one_falls s

  pub run_same : (j : ℕ) (s : State) (final : Final) → exec (one code size) j s ≡ Over final → exec (one code size) (enough code s) s ≡ Over final
  run_same j s final e = same_end (one code size) (length code) great (small code) within one_falls (enough code s) j s final (omega arith) e

  pub flat_is : (start : ℕ) (input : List ℕ) (steps j : ℕ) (final : Final) → exec (one code size) j (machine_at_start start input steps) ≡ Over final → flat code start input steps size ≡ report_of steps final
  flat_is start input steps j final e = ap (λ o. report_of steps (final_of (machine_at_start start input steps) o)) (run_same j (machine_at_start start input steps) final e)
