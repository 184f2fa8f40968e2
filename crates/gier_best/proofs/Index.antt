-- The index of the places keeps step with what they hold.
use Rattle.std.proofs.Common.{◌≡◌, ◌≢◌, ℕ, zero, suc, ◌<◌, ◌≤◌, ◌⊎◌, inl, inr, List, [], ◌∷◌, ◌++◌, length, slice_index, set, replicate, arith, refl, sym, ap, ◌∙◌}
use Rattle.std.proofs.lemmas.List.{get_or-set_same, get_or-set_other, get_or_past, get_or_append_left, length-set, length-append}
use Rattle.std.proofs.lemmas.Grind.{get_or-set_at}
use Rattle.std.proofs.Math.Seq.{get_or-append_seam}
use Rattle.gier_best.specs.PlannerState.{IsIndex}

pub same_or_other : (a b : ℕ) → (a ≡ b) ⊎ (a ≢ b)
same_or_other a b = grind arith

-- what the index has for a track stands inside it
pub inside : (index : List ℕ) (t p : ℕ) → slice_index index t ≡ suc p → t < length index
inside index t p has = elim (within t (length index)) [ inl lt ↦ lt | inr past ↦ absurd (omega (arith, has, get_or_past index t 0 past)) ]
  where
    within : (a b : ℕ) → (a < b) ⊎ (b ≤ a)
    within a b = grind arith

pub moved : (index tracks : List ℕ) (p t : ℕ) → IsIndex index tracks → p < length tracks → t < length index → slice_index index t ≡ 0
    → IsIndex (set (set index (slice_index tracks p) 0) t (suc p)) (set tracks p t)
moved index tracks p t is lt track absent = record { placed = placed; holds = holds }
  where
    fits : t < length (set index (slice_index tracks p) 0)
    fits = omega (arith, track, length-set index (slice_index tracks p) 0)

    old_inside : slice_index tracks p < length index
    old_inside = inside index (slice_index tracks p) p (is.placed p lt)

    placed : (q : ℕ) → q < length (set tracks p t) → slice_index (set (set index (slice_index tracks p) 0) t (suc p)) (slice_index (set tracks p t) q) ≡ suc q
    placed q below = elim (same_or_other q p) [
      | inl eq ↦ rw (get_or-set_at tracks p q t 0 eq lt, get_or-set_same (set index (slice_index tracks p) 0) t (suc p) 0 fits) (ap suc (sym eq))
      | inr ne ↦
          let q_in : q < length tracks = omega (arith, below, length-set tracks p t) in
          let own : slice_index index (slice_index tracks q) ≡ suc q = is.placed q q_in in
          let not_t : slice_index tracks q ≢ t = λ e. omega (arith, own, absent, ap (slice_index index) e) in
          let not_old : slice_index tracks q ≢ slice_index tracks p = λ e. ne (omega (arith, own, is.placed p lt, ap (slice_index index) e)) in
          rw (get_or-set_other tracks p q t 0 ne, get_or-set_other (set index (slice_index tracks p) 0) t (slice_index tracks q) (suc p) 0 not_t, get_or-set_other index (slice_index tracks p) (slice_index tracks q) 0 0 not_old) own
    ]

    holds : (u q : ℕ) → slice_index (set (set index (slice_index tracks p) 0) t (suc p)) u ≡ suc q → (q < length (set tracks p t)) × (slice_index (set tracks p t) q ≡ u)
    holds u q has = elim (same_or_other u t) [
      | inl eq ↦
          let val : suc p ≡ suc q = sym (get_or-set_at (set index (slice_index tracks p) 0) t u (suc p) 0 eq fits) ∙ has in
          let same : q ≡ p = omega (arith, val) in
          (omega (arith, same, lt, length-set tracks p t), get_or-set_at tracks p q t 0 same lt ∙ sym eq)
      | inr ne ↦
          let left : slice_index (set index (slice_index tracks p) 0) u ≡ suc q = sym (get_or-set_other (set index (slice_index tracks p) 0) t u (suc p) 0 ne) ∙ has in
          elim (same_or_other u (slice_index tracks p)) [
            | inl eq ↦ absurd (omega (arith, left, get_or-set_at index (slice_index tracks p) u 0 0 eq old_inside))
            | inr apart ↦
                let before : slice_index index u ≡ suc q = sym (get_or-set_other index (slice_index tracks p) u 0 0 apart) ∙ left in
                let h : (q < length tracks) × (slice_index tracks q ≡ u) = is.holds u q before in
                let q_ne : q ≢ p = λ e. apart (sym h.1 ∙ ap (slice_index tracks) e) in
                (omega (arith, h.0, length-set tracks p t), get_or-set_other tracks p q t 0 q_ne ∙ h.1)
          ]
    ]

pub filled : (index tracks : List ℕ) (t : ℕ) → IsIndex index tracks → t < length index → slice_index index t ≡ 0
    → IsIndex (set index t (suc (length tracks))) (tracks ++ t ∷ [])
filled index tracks t is track absent = record { placed = placed; holds = holds }
  where
    placed : (q : ℕ) → q < length (tracks ++ t ∷ []) → slice_index (set index t (suc (length tracks))) (slice_index (tracks ++ t ∷ []) q) ≡ suc q
    placed q below = elim (same_or_other q (length tracks)) [
      | inl eq ↦ rw (eq, get_or-append_seam tracks t [] 0, get_or-set_same index t (suc (length tracks)) 0 track) refl
      | inr ne ↦
          let q_in : q < length tracks = omega (arith, below, length-append tracks (t ∷ [])) in
          let own : slice_index index (slice_index tracks q) ≡ suc q = is.placed q q_in in
          let not_t : slice_index tracks q ≢ t = λ e. omega (arith, own, absent, ap (slice_index index) e) in
          rw (get_or_append_left tracks (t ∷ []) 0 q q_in, get_or-set_other index t (slice_index tracks q) (suc (length tracks)) 0 not_t) own
    ]

    holds : (u q : ℕ) → slice_index (set index t (suc (length tracks))) u ≡ suc q → (q < length (tracks ++ t ∷ [])) × (slice_index (tracks ++ t ∷ []) q ≡ u)
    holds u q has = elim (same_or_other u t) [
      | inl eq ↦
          let val : suc (length tracks) ≡ suc q = sym (get_or-set_at index t u (suc (length tracks)) 0 eq track) ∙ has in
          let same : q ≡ length tracks = omega (arith, val) in
          (omega (arith, same, length-append tracks (t ∷ [])), rw (same, get_or-append_seam tracks t [] 0) (sym eq))
      | inr ne ↦
          let before : slice_index index u ≡ suc q = sym (get_or-set_other index t u (suc (length tracks)) 0 ne) ∙ has in
          let h : (q < length tracks) × (slice_index tracks q ≡ u) = is.holds u q before in
          (omega (arith, h.0, length-append tracks (t ∷ [])), get_or_append_left tracks (t ∷ []) 0 q h.0 ∙ h.1)
    ]

-- an index of nothing
pub none_placed : (n : ℕ) → IsIndex (replicate n 0) []
none_placed n = record { placed = λ p lt. absurd (omega arith); holds = λ t p has. absurd (omega (arith, has, all_zero n t)) }
  where
    all_zero : (m u : ℕ) → slice_index (replicate m 0) u ≡ 0
    all_zero zero u = refl
    all_zero (suc m) zero = refl
    all_zero (suc m) (suc u) = all_zero m u

pub filled_as : (index tracks new : List ℕ) (t n : ℕ) → IsIndex index tracks → t < length index → slice_index index t ≡ 0
    → new ≡ tracks ++ t ∷ [] → n ≡ suc (length tracks) → IsIndex (set index t n) new
filled_as index tracks new t n is track absent more place = rw (more, place) (filled index tracks t is track absent)
