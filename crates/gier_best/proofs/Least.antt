-- No plan reads fewer tracks than the one that gives up the track wanted farthest ahead.
-- The one holding may have, for each time, some n fewer places that are wanted before that time than the other has.
-- From there its plan costs at most n more than any plan of the other.
use Rattle.std.proofs.Common.{◌≡◌, ℕ, zero, suc, ◌+◌, ◌<◌, ◌≤◌, ◌⊎◌, inl, inr, true, false, nat_eq, nat_lt, Option, Some, None, List, [], ◌∷◌, length, map, set, replicate, get_or, arith, refl, ap, ◌∙◌}
use Rattle.std.proofs.lemmas.List.{length-map, length-set, length-replicate}
use Rattle.std.proofs.lemmas.Bool.{lt-ltb, le-ltb, eqb-true}
use Rattle.gier_best.specs.Plan.{holds, next_use, held_next_use, place_for, IsPlan, IsPlanFor, farthest_from, farthest}
use Rattle.gier_best.proofs.NextUses.{one_if, before, before_without, copies, two_ways, one_if_most, before_most, with_reference, after_soon, after_late, none_before_zero, copies_if_held, no_copies_else, copies_most, whole, replaced, without_most, copies_of_read, greatest_before, greatest_inside}

-- no two places hold the same track
pub record Once (held : List (Option ℕ)) : Type 0 where
  pub once : (t : ℕ) → copies t held ≤ 1

-- for each time, at most n fewer places of ours are wanted before it
pub record Lags (refs : List ℕ) (ours theirs : List (Option ℕ)) (n : ℕ) : Type 0 where
  pub lags : (d : ℕ) → before (held_next_use refs) d theirs ≤ before (held_next_use refs) d ours + n

sooner : (x d : ℕ) → (x < d) ⊎ (d ≤ x)
sooner x d = grind arith

both_hold : (t : ℕ) (refs : List ℕ) (ours theirs : List (Option ℕ)) (n : ℕ)
    → copies t ours ≤ 1 → 1 ≤ copies t ours → 1 ≤ copies t theirs → Lags (t ∷ refs) ours theirs n → Lags refs ours theirs n
both_hold t refs ours theirs n once our their l = record { lags = at_time }
  where
    at_time : (d : ℕ) → before (held_next_use refs) d theirs ≤ before (held_next_use refs) d ours + n
    at_time d = elim (sooner (next_use refs t) d) [
      | inl soon ↦ omega (arith, l.lags (suc d), with_reference t refs d ours, with_reference t refs d theirs, after_soon t refs d ours soon, after_soon t refs d theirs soon)
      | inr late ↦ omega (arith, l.lags (suc d), with_reference t refs d ours, with_reference t refs d theirs, after_late t refs d ours late, after_late t refs d theirs late)
    ]

ours_holds : (t : ℕ) (refs : List ℕ) (ours theirs : List (Option ℕ)) (n q : ℕ)
    → copies t ours ≤ 1 → copies t theirs ≡ 0 → q < length theirs
    → Lags (t ∷ refs) ours theirs n → Lags refs ours (set theirs q (Some t)) (suc n)
ours_holds t refs ours theirs n q once none inside l = record { lags = at_time }
  where
    at_time : (d : ℕ) → before (held_next_use refs) d (set theirs q (Some t)) ≤ before (held_next_use refs) d ours + suc n
    at_time d = elim (sooner (next_use refs t) d) [
      | inl soon ↦ rw (replaced (held_next_use refs) d q (Some t) theirs inside, lt-ltb (next_use refs t) d soon)
          (omega (arith, l.lags (suc d), with_reference t refs d ours, with_reference t refs d theirs, after_soon t refs d ours soon, after_soon t refs d theirs soon, whole (held_next_use refs) d q theirs inside))
      | inr late ↦ rw (replaced (held_next_use refs) d q (Some t) theirs inside, le-ltb (next_use refs t) d late)
          (omega (arith, l.lags (suc d), with_reference t refs d ours, with_reference t refs d theirs, after_late t refs d ours late, after_late t refs d theirs late, whole (held_next_use refs) d q theirs inside))
    ]

some_lag : (t : ℕ) (refs : List ℕ) (ours theirs : List (Option ℕ)) (n : ℕ)
    → copies t ours ≡ 0 → 1 ≤ copies t theirs → Lags (t ∷ refs) ours theirs n → 1 ≤ n
some_lag t refs ours theirs n none their l =
    omega (arith, l.lags 1, with_reference t refs 0 ours, with_reference t refs 0 theirs, none_before_zero (held_next_use refs) t ours)

theirs_holds : (t : ℕ) (refs : List ℕ) (ours theirs : List (Option ℕ)) (n : ℕ)
    → copies t ours ≡ 0 → 1 ≤ copies t theirs → length ours ≡ length theirs → place_for refs ours < length ours
    → Lags (t ∷ refs) ours theirs (suc n) → Lags refs (set ours (place_for refs ours) (Some t)) theirs n
theirs_holds t refs ours theirs n none their same inside l = record { lags = at_time }
  where
    at_time : (d : ℕ) → before (held_next_use refs) d theirs ≤ before (held_next_use refs) d (set ours (place_for refs ours) (Some t)) + n
    at_time d = elim (sooner (next_use refs t) d) [
      | inl soon ↦ rw (replaced (held_next_use refs) d (place_for refs ours) (Some t) ours inside, lt-ltb (next_use refs t) d soon)
          (elim (sooner (held_next_use refs (get_or ours (place_for refs ours) None)) d) [
            | inl near ↦ omega (arith, greatest_before (held_next_use refs) d ours near, whole (held_next_use refs) d (place_for refs ours) ours inside, one_if_most (nat_lt (held_next_use refs (get_or ours (place_for refs ours) None)) d), before_most (held_next_use refs) d theirs)
            | inr far ↦ omega (arith, l.lags (suc d), with_reference t refs d ours, with_reference t refs d theirs, after_soon t refs d ours soon, after_soon t refs d theirs soon, ours_far d far)
          ])
      | inr late ↦ rw (replaced (held_next_use refs) d (place_for refs ours) (Some t) ours inside, le-ltb (next_use refs t) d late)
          (elim (sooner (held_next_use refs (get_or ours (place_for refs ours) None)) d) [
            | inl near ↦ omega (
              arith,
              greatest_before (held_next_use refs) d ours near,
              whole (held_next_use refs) d (place_for refs ours) ours inside,
              one_if_most (nat_lt (held_next_use refs (get_or ours (place_for refs ours) None)) d),
              with_reference t refs d theirs,
              after_late t refs d theirs late,
              before_most (held_next_use (t ∷ refs)) (suc d) theirs,
            )
            | inr far ↦ omega (arith, l.lags (suc d), with_reference t refs d ours, with_reference t refs d theirs, after_late t refs d ours late, after_late t refs d theirs late, ours_far d far)
          ])
    ]
      where
        ours_far : (d : ℕ) → d ≤ held_next_use refs (get_or ours (place_for refs ours) None) → before (held_next_use refs) d ours ≡ before_without (held_next_use refs) d (place_for refs ours) ours
        ours_far d far = whole (held_next_use refs) d (place_for refs ours) ours inside ∙ rw (le-ltb (held_next_use refs (get_or ours (place_for refs ours) None)) d far) (omega arith)

neither_holds : (t : ℕ) (refs : List ℕ) (ours theirs : List (Option ℕ)) (n q : ℕ)
    → copies t ours ≡ 0 → copies t theirs ≡ 0 → length ours ≡ length theirs → place_for refs ours < length ours → q < length theirs
    → Lags (t ∷ refs) ours theirs n → Lags refs (set ours (place_for refs ours) (Some t)) (set theirs q (Some t)) n
neither_holds t refs ours theirs n q none none_there same inside inside_there l = record { lags = at_time }
  where
    at_time : (d : ℕ) → before (held_next_use refs) d (set theirs q (Some t)) ≤ before (held_next_use refs) d (set ours (place_for refs ours) (Some t)) + n
    at_time d = elim (sooner (held_next_use refs (get_or ours (place_for refs ours) None)) d) [
      | inl near ↦ rw (replaced (held_next_use refs) d (place_for refs ours) (Some t) ours inside, replaced (held_next_use refs) d q (Some t) theirs inside_there)
          (omega (arith, greatest_before (held_next_use refs) d ours near, whole (held_next_use refs) d (place_for refs ours) ours inside, one_if_most (nat_lt (held_next_use refs (get_or ours (place_for refs ours) None)) d), without_most (held_next_use refs) d q theirs inside_there))
      | inr far ↦ rw (replaced (held_next_use refs) d (place_for refs ours) (Some t) ours inside, replaced (held_next_use refs) d q (Some t) theirs inside_there)
          (elim (sooner (next_use refs t) d) [
            | inl soon ↦ omega (arith, l.lags (suc d), with_reference t refs d ours, with_reference t refs d theirs, after_soon t refs d ours soon, after_soon t refs d theirs soon, ours_far d far, whole (held_next_use refs) d q theirs inside_there)
            | inr late ↦ omega (arith, l.lags (suc d), with_reference t refs d ours, with_reference t refs d theirs, after_late t refs d ours late, after_late t refs d theirs late, ours_far d far, whole (held_next_use refs) d q theirs inside_there)
          ])
    ]
      where
        ours_far : (d : ℕ) → d ≤ held_next_use refs (get_or ours (place_for refs ours) None) → before (held_next_use refs) d ours ≡ before_without (held_next_use refs) d (place_for refs ours) ours
        ours_far d far = whole (held_next_use refs) d (place_for refs ours) ours inside ∙ rw (le-ltb (held_next_use refs (get_or ours (place_for refs ours) None)) d far) (omega arith)

still_once : (t p : ℕ) (ours : List (Option ℕ)) → copies t ours ≡ 0 → Once ours → Once (set ours p (Some t))
still_once t p ours none o = record { once = each }
  where
    each : (u : ℕ) → copies u (set ours p (Some t)) ≤ 1
    each u = elim (two_ways (nat_eq u t)) [
      | inl same ↦
          let other : copies u ours ≡ copies t ours = ap (λ x. copies x ours) (eqb-true u t same) in
          omega (arith, copies_of_read u p (Some t) ours, one_if_most (nat_eq u t))
      | inr other ↦
          let new : copies u (set ours p (Some t)) ≤ copies u ours + one_if (nat_eq u t) = copies_of_read u p (Some t) ours in
          omega (arith, o.once u, rw other at new)
    ]

pub place_inside : (refs : List ℕ) (held : List (Option ℕ)) → 0 < length held → place_for refs held < length held
place_inside refs held some =
    let mapped : length (map (held_next_use refs) held) ≡ length held = length-map held (held_next_use refs) in
    omega (arith, greatest_inside (map (held_next_use refs) held) (omega arith))

-- what is to be shown of a list of references
abbrev IsBestFor : List ℕ → Type 0
IsBestFor refs = (ours theirs : List (Option ℕ)) (moves : List (ℕ × ℕ)) (n : ℕ)
    → length ours ≡ length theirs → Once ours → Lags refs ours theirs n → IsPlan refs theirs moves
    → length (farthest_from refs ours) ≤ length moves + n

pub least : (refs : List ℕ) (ours theirs : List (Option ℕ)) (moves : List (ℕ × ℕ)) (n : ℕ)
    → length ours ≡ length theirs → Once ours → Lags refs ours theirs n → IsPlan refs theirs moves
    → length (farthest_from refs ours) ≤ length moves + n
least [] ours theirs moves n same o l plan = omega arith
least (t ∷ refs) ours theirs moves n same o l plan = elim (two_ways (holds t ours)) [
  | inl ours_has ↦ rw ours_has (elim (two_ways (holds t theirs)) [
    | inl theirs_has ↦
        least refs ours theirs moves n same o
        (both_hold t refs ours theirs n (o.once t) (copies_if_held t ours ours_has) (copies_if_held t theirs theirs_has) l)
        (rw theirs_has at plan)
    | inr theirs_lacks ↦ read_there (least refs) (rw theirs_lacks at plan) ours_has theirs_lacks
  ])
  | inr ours_lacks ↦ rw ours_lacks (elim (two_ways (holds t theirs)) [
    | inl theirs_has ↦ read_here (least refs) (rw theirs_has at plan) ours_lacks theirs_has n refl
    | inr theirs_lacks ↦ read_both (least refs) (rw theirs_lacks at plan) ours_lacks theirs_lacks
  ])
]
  where
    Reads : Type 0
    Reads = (place : ℕ) × (later : List (ℕ × ℕ)) × (place < length theirs) × (moves ≡ (t, suc place) ∷ later) × IsPlan refs (set theirs place (Some t)) later

    read_there : IsBestFor refs → Reads → holds t ours ≡ true → holds t theirs ≡ false → length (farthest_from refs ours) ≤ length moves + n
    read_there rest r has lacks =
        let bound : length (farthest_from refs ours) ≤ length r.1 + suc n =
        rest ours (set theirs r.0 (Some t)) r.1 (suc n) (omega (arith, length-set theirs r.0 (Some t))) o
        (ours_holds t refs ours theirs n r.0 (o.once t) (no_copies_else t theirs lacks) r.2 l) r.4 in
        omega (arith, ap length r.3)

    read_here : IsBestFor refs → IsPlan refs theirs moves → holds t ours ≡ false → holds t theirs ≡ true → (m : ℕ) → m ≡ n
        → suc (length (farthest_from refs (set ours (place_for refs ours) (Some t)))) ≤ length moves + n
    read_here rest r lacks has zero eq = absurd (omega (arith, some_lag t refs ours theirs n (no_copies_else t ours lacks) (copies_if_held t theirs has) l))
    read_here rest r lacks has (suc m) eq =
        let inside : place_for refs ours < length ours = place_inside refs ours (omega (arith, copies_if_held t theirs has, copies_most t theirs)) in
        let ours_lag : Lags (t ∷ refs) ours theirs (suc m) = rw eq l in
        let bound : length (farthest_from refs (set ours (place_for refs ours) (Some t))) ≤ length moves + m =
        rest (set ours (place_for refs ours) (Some t)) theirs moves m
        (omega (arith, length-set ours (place_for refs ours) (Some t)))
        (still_once t (place_for refs ours) ours (no_copies_else t ours lacks) o)
        (theirs_holds t refs ours theirs m (no_copies_else t ours lacks) (copies_if_held t theirs has) same inside ours_lag) r in
        omega arith

    read_both : IsBestFor refs → Reads → holds t ours ≡ false → holds t theirs ≡ false
        → suc (length (farthest_from refs (set ours (place_for refs ours) (Some t)))) ≤ length moves + n
    read_both rest r lacks lacks_there =
        let inside : place_for refs ours < length ours = place_inside refs ours (omega (arith, r.2)) in
        let bound : length (farthest_from refs (set ours (place_for refs ours) (Some t))) ≤ length r.1 + n =
        rest (set ours (place_for refs ours) (Some t)) (set theirs r.0 (Some t)) r.1 n
        (omega (arith, length-set ours (place_for refs ours) (Some t), length-set theirs r.0 (Some t)))
        (still_once t (place_for refs ours) ours (no_copies_else t ours lacks) o)
        (neither_holds t refs ours theirs n r.0 (no_copies_else t ours lacks) (no_copies_else t theirs lacks_there) same inside r.2 l) r.4 in
        omega (arith, ap length r.3)

pub no_plan_is_cheaper : (refs : List ℕ) (places : ℕ) (moves : List (ℕ × ℕ)) → IsPlanFor refs places moves → length (farthest refs places) ≤ length moves
no_plan_is_cheaper refs places moves plan =
    let bound : length (farthest refs places) ≤ length moves + 0 = least refs (replicate places None) (replicate places None) moves 0 refl (record { once = empty_once places }) (record { lags = λ d. omega arith }) plan in
    omega arith
  where
    empty_once : (n t : ℕ) → copies t (replicate n None) ≤ 1
    empty_once zero t = omega arith
    empty_once (suc n) t = omega (arith, empty_once n t)

plan_from : (refs : List ℕ) (held : List (Option ℕ)) → 0 < length held → IsPlan refs held (farthest_from refs held)
plan_from [] held some = refl
plan_from (t ∷ refs) held some = elim (two_ways (holds t held)) [
  | inl has ↦ rw has (plan_from refs held some)
  | inr lacks ↦ rw lacks (
    place_for refs held,
    farthest_from refs (set held (place_for refs held) (Some t)),
    place_inside refs held some,
    refl,
    plan_from refs (set held (place_for refs held) (Some t)) (omega (arith, length-set held (place_for refs held) (Some t))),
  )
]

pub farthest_is_plan : (refs : List ℕ) (places : ℕ) → 1 ≤ places → IsPlanFor refs places (farthest refs places)
farthest_is_plan refs places some = plan_from refs (replicate places None) (omega (arith, length-replicate {A = Option ℕ} places None))
