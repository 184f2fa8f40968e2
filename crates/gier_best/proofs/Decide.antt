-- The changes of track alone decide the farthest plan: it makes the same reads over all references.
use Rattle.std.proofs.Common.{◌≡◌, ℕ, zero, suc, ◌<◌, ◌≤◌, inl, inr, true, false, nat_eq, nat_le, Option, Some, None, List, [], ◌∷◌, length, map, set, replicate, arith, refl, sym, ap, ◌∙◌}
use Rattle.std.specs.List.{list_all}
use Rattle.std.proofs.lemmas.Bool.{le-leb, lt-leb, eqb-true}
use Rattle.std.proofs.lemmas.Bool.Decides.{nat_tests}
use Rattle.std.proofs.lemmas.List.{length-set, length-replicate}
use Rattle.std.proofs.Common.{eq-eqb}
use Rattle.gier_best.specs.Plan.{is_track, holds, held_next_use, lowest_greatest, place_for, farthest_from, farthest}
use Rattle.gier_best.specs.Changes.{changes_from, changes_of}
use Rattle.gier_best.proofs.NextUses.{two_ways, later, at_once}
use Rattle.gier_best.proofs.Least.{place_inside}

-- two ways to tell times put what holds another track than t in the same order
pub record SameOrder (f g : Option ℕ → ℕ) (t : ℕ) : Type 0 where
  pub same : (a b : Option ℕ) → is_track t a ≡ false → is_track t b ≡ false → nat_le (f a) (f b) ≡ nat_le (g a) (g b)

same_all : (f g : Option ℕ → ℕ) (t : ℕ) (x : Option ℕ) (hs : List (Option ℕ)) → SameOrder f g t → is_track t x ≡ false → holds t hs ≡ false
    → list_all (λ y. nat_le y (f x)) (map f hs) ≡ list_all (λ y. nat_le y (g x)) (map g hs)
same_all f g t x [] o other lacks = refl
same_all f g t x (h ∷ hs) o other lacks = elim (two_ways (is_track t h)) [
  | inl same ↦ absurd (let wrong = rw same at lacks in cc)
  | inr apart ↦ rw (o.same h x apart other, same_all f g t x hs o other (rw apart at lacks)) refl
]

same_place : (f g : Option ℕ → ℕ) (t : ℕ) (hs : List (Option ℕ)) → SameOrder f g t → holds t hs ≡ false → lowest_greatest (map f hs) ≡ lowest_greatest (map g hs)
same_place f g t [] o lacks = refl
same_place f g t (h ∷ hs) o lacks = elim (two_ways (is_track t h)) [
  | inl same ↦ absurd (let wrong = rw same at lacks in cc)
  | inr apart ↦ rw (same_all f g t h hs o apart (rw apart at lacks), same_place f g t hs o (rw apart at lacks)) refl
]

one_more_each : (x y : ℕ) → nat_le (suc x) (suc y) ≡ nat_le x y
one_more_each x y = grind (arith, nat_tests)

same_track : (r t : ℕ) (a : Option ℕ) → nat_eq r t ≡ true → is_track t a ≡ false → is_track r a ≡ false
same_track r t a same apart = ap (λ x. is_track x a) (eqb-true r t same) ∙ apart

order : (t : ℕ) (refs : List ℕ) (a b : Option ℕ) → is_track t a ≡ false → is_track t b ≡ false
    → nat_le (held_next_use (changes_from (Some t) refs) a) (held_next_use (changes_from (Some t) refs) b) ≡ nat_le (held_next_use refs a) (held_next_use refs b)
order t [] a b no_a no_b = refl
order t (r ∷ refs) a b no_a no_b = elim (two_ways (nat_eq r t)) [
  | inl same ↦
      rw (same, later r refs a (same_track r t a same no_a), later r refs b (same_track r t b same no_b), one_more_each (held_next_use refs a) (held_next_use refs b))
      (order r refs a b (same_track r t a same no_a) (same_track r t b same no_b))
  | inr other ↦ rw other (elim (two_ways (is_track r a)) [
    | inl now_a ↦
        rw (at_once r (changes_from (Some r) refs) a now_a, at_once r refs a now_a)
        (le-leb 0 (held_next_use (r ∷ changes_from (Some r) refs) b) (omega arith) ∙ sym (le-leb 0 (held_next_use (r ∷ refs) b) (omega arith)))
    | inr later_a ↦
        rw (later r (changes_from (Some r) refs) a later_a, later r refs a later_a) (elim (two_ways (is_track r b)) [
          | inl now_b ↦
              rw (at_once r (changes_from (Some r) refs) b now_b, at_once r refs b now_b)
              (lt-leb (suc (held_next_use (changes_from (Some r) refs) a)) 0 (omega arith) ∙ sym (lt-leb (suc (held_next_use refs a)) 0 (omega arith)))
          | inr later_b ↦
              rw (later r (changes_from (Some r) refs) b later_b, later r refs b later_b, one_more_each (held_next_use (changes_from (Some r) refs) a) (held_next_use (changes_from (Some r) refs) b), one_more_each (held_next_use refs a) (held_next_use refs b))
              (order r refs a b later_a later_b)
        ])
  ])
]

place_same : (t : ℕ) (refs : List ℕ) (held : List (Option ℕ)) → holds t held ≡ false → place_for (changes_from (Some t) refs) held ≡ place_for refs held
place_same t refs held lacks = same_place (held_next_use (changes_from (Some t) refs)) (held_next_use refs) t held (record { same = order t refs }) lacks

held_when_read : (t p : ℕ) (hs : List (Option ℕ)) → p < length hs → holds t (set hs p (Some t)) ≡ true
held_when_read t p [] lt = absurd (omega arith)
held_when_read t zero (h ∷ hs) lt = rw (eq-eqb t t refl) refl
held_when_read t (suc p) (h ∷ hs) lt = elim (two_ways (is_track t h)) [
  | inl same ↦ rw same refl
  | inr other ↦ rw other (held_when_read t p hs (omega arith))
]

-- from places that hold the last track, the changes and the references give the same reads
abbrev GivesSame : ℕ → List ℕ → Type 0
GivesSame t refs = (held : List (Option ℕ)) → 0 < length held → holds t held ≡ true → farthest_from (changes_from (Some t) refs) held ≡ farthest_from refs held

after_change : (r : ℕ) (refs : List ℕ) → GivesSame r refs → (held : List (Option ℕ)) → 0 < length held
    → farthest_from (r ∷ changes_from (Some r) refs) held ≡ farthest_from (r ∷ refs) held
after_change r refs rest held some = elim (two_ways (holds r held)) [
  | inl has ↦ rw has (rest held some has)
  | inr lacks ↦ rw (lacks, place_same r refs held lacks)
      (ap (λ moves. (r, suc (place_for refs held)) ∷ moves)
      (rest (set held (place_for refs held) (Some r)) (omega (arith, length-set held (place_for refs held) (Some r)))
      (held_when_read r (place_for refs held) held (place_inside refs held some))))
]

gives_same : (t : ℕ) (refs : List ℕ) → GivesSame t refs
gives_same t [] held some has = refl
gives_same t (r ∷ refs) held some has = elim (two_ways (nat_eq r t)) [
  | inl same ↦
      let has_r : holds r held ≡ true = ap (λ x. holds x held) (eqb-true r t same) ∙ has in
      rw (same, has_r) (gives_same r refs held some has_r)
  | inr other ↦ rw other (after_change r refs (gives_same r refs) held some)
]

pub changes_decide : (refs : List ℕ) (places : ℕ) → 1 ≤ places → farthest (changes_of refs) places ≡ farthest refs places
changes_decide [] places some = refl
changes_decide (r ∷ refs) places some =
    after_change r refs (gives_same r refs) (replicate places None) (omega (arith, length-replicate {A = Option ℕ} places None))
