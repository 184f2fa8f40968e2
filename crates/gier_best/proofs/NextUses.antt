-- How many places hold something that is wanted before a given time, and how a reference and a read change that number.
use Rattle.std.proofs.Common.{◌≡◌, ℕ, zero, suc, ◌+◌, ◌<◌, ◌≤◌, ◌⊎◌, inl, inr, Bool, true, false, cond, nat_lt, nat_le, Option, Some, None, List, [], ◌∷◌, length, map, set, get_or, arith, refl, sym, ap}
use Rattle.std.specs.List.{list_all}
use Rattle.std.proofs.lemmas.Bool.{ltb-true, lt-ltb, le-ltb, leb-true, leb-false, eqb-true}
use Rattle.std.proofs.lemmas.Bool.Decides.{nat_tests}
use Rattle.gier_best.specs.Plan.{is_track, holds, next_use, held_next_use, lowest_greatest}

abbrev pub one_if : Bool → ℕ
one_if true = 1
one_if false = 0

-- how many places have a time before d
abbrev pub before : (Option ℕ → ℕ) → ℕ → List (Option ℕ) → ℕ
before f d [] = 0
before f d (h ∷ hs) = one_if (nat_lt (f h) d) + before f d hs

-- the same without the places that hold the track
abbrev pub before_others : (Option ℕ → ℕ) → ℕ → ℕ → List (Option ℕ) → ℕ
before_others f d t [] = 0
before_others f d t (h ∷ hs) = cond (is_track t h) 0 (one_if (nat_lt (f h) d)) + before_others f d t hs

-- how many places hold the track
abbrev pub copies : ℕ → List (Option ℕ) → ℕ
copies t [] = 0
copies t (h ∷ hs) = one_if (is_track t h) + copies t hs

-- the same as `before` without one place
abbrev pub before_without : (Option ℕ → ℕ) → ℕ → ℕ → List (Option ℕ) → ℕ
before_without f d p [] = 0
before_without f d zero (h ∷ hs) = before f d hs
before_without f d (suc p) (h ∷ hs) = one_if (nat_lt (f h) d) + before_without f d p hs

pub two_ways : (b : Bool) → (b ≡ true) ⊎ (b ≡ false)
two_ways true = inl refl
two_ways false = inr refl

pub one_if_most : (b : Bool) → one_if b ≤ 1
one_if_most true = omega arith
one_if_most false = omega arith

pub before_most : (f : Option ℕ → ℕ) (d : ℕ) (hs : List (Option ℕ)) → before f d hs ≤ length hs
before_most f d [] = omega arith
before_most f d (h ∷ hs) = omega (arith, before_most f d hs, one_if_most (nat_lt (f h) d))

-- a track that isn't referred to now is wanted one later, counted from now
pub later : (t : ℕ) (refs : List ℕ) (h : Option ℕ) → is_track t h ≡ false → held_next_use (t ∷ refs) h ≡ suc (held_next_use refs h)
later t refs None other = refl
later t refs (Some u) other = rw other refl

pub at_once : (t : ℕ) (refs : List ℕ) (h : Option ℕ) → is_track t h ≡ true → held_next_use (t ∷ refs) h ≡ 0
at_once t refs None same = cc
at_once t refs (Some u) same = rw same refl

again : (t : ℕ) (refs : List ℕ) (h : Option ℕ) → is_track t h ≡ true → held_next_use refs h ≡ next_use refs t
again t refs None same = cc
again t refs (Some u) same = ap (next_use refs) (sym (eqb-true t u same))

one_later : (x d : ℕ) → one_if (nat_lt (suc x) (suc d)) ≡ one_if (nat_lt x d)
one_later x d = grind (arith, nat_tests)

-- counted with the reference, the places that hold its track are wanted before anything else
pub with_reference : (t : ℕ) (refs : List ℕ) (d : ℕ) (hs : List (Option ℕ))
    → before (held_next_use (t ∷ refs)) (suc d) hs ≡ before_others (held_next_use refs) d t hs + copies t hs
with_reference t refs d [] = refl
with_reference t refs d (h ∷ hs) = elim (two_ways (is_track t h)) [
  | inl same ↦ rw (same, at_once t refs h same, lt-ltb 0 (suc d) (omega arith)) (omega (arith, with_reference t refs d hs))
  | inr other ↦ rw (other, later t refs h other) (omega (arith, with_reference t refs d hs, one_later (held_next_use refs h) d))
]

pub after_soon : (t : ℕ) (refs : List ℕ) (d : ℕ) (hs : List (Option ℕ)) → next_use refs t < d
    → before (held_next_use refs) d hs ≡ before_others (held_next_use refs) d t hs + copies t hs
after_soon t refs d [] soon = refl
after_soon t refs d (h ∷ hs) soon = elim (two_ways (is_track t h)) [
  | inl same ↦ rw (same, again t refs h same, lt-ltb (next_use refs t) d soon) (omega (arith, after_soon t refs d hs soon))
  | inr other ↦ rw other (omega (arith, after_soon t refs d hs soon))
]

pub after_late : (t : ℕ) (refs : List ℕ) (d : ℕ) (hs : List (Option ℕ)) → d ≤ next_use refs t
    → before (held_next_use refs) d hs ≡ before_others (held_next_use refs) d t hs
after_late t refs d [] late = refl
after_late t refs d (h ∷ hs) late = elim (two_ways (is_track t h)) [
  | inl same ↦ rw (same, again t refs h same, le-ltb (next_use refs t) d late) (omega (arith, after_late t refs d hs late))
  | inr other ↦ rw other (omega (arith, after_late t refs d hs late))
]

pub none_before_zero : (f : Option ℕ → ℕ) (t : ℕ) (hs : List (Option ℕ)) → before_others f 0 t hs ≡ 0
none_before_zero f t [] = refl
none_before_zero f t (h ∷ hs) = elim (two_ways (is_track t h)) [
  | inl same ↦ rw same (omega (arith, none_before_zero f t hs))
  | inr other ↦ rw (other, le-ltb (f h) 0 (omega arith)) (omega (arith, none_before_zero f t hs))
]

pub copies_most : (t : ℕ) (hs : List (Option ℕ)) → copies t hs ≤ length hs
copies_most t [] = omega arith
copies_most t (h ∷ hs) = omega (arith, copies_most t hs, one_if_most (is_track t h))

pub copies_if_held : (t : ℕ) (hs : List (Option ℕ)) → holds t hs ≡ true → 1 ≤ copies t hs
copies_if_held t [] held = cc
copies_if_held t (h ∷ hs) held = elim (two_ways (is_track t h)) [
  | inl same ↦ rw same (omega arith)
  | inr other ↦ rw other (omega (arith, copies_if_held t hs (rw other at held)))
]

pub no_copies_else : (t : ℕ) (hs : List (Option ℕ)) → holds t hs ≡ false → copies t hs ≡ 0
no_copies_else t [] held = refl
no_copies_else t (h ∷ hs) held = elim (two_ways (is_track t h)) [
  | inl same ↦ absurd (let wrong = rw same at held in cc)
  | inr other ↦ rw other (omega (arith, no_copies_else t hs (rw other at held)))
]

pub whole : (f : Option ℕ → ℕ) (d p : ℕ) (hs : List (Option ℕ)) → p < length hs
    → before f d hs ≡ before_without f d p hs + one_if (nat_lt (f (get_or hs p None)) d)
whole f d p [] lt = absurd (omega arith)
whole f d zero (h ∷ hs) lt = omega arith
whole f d (suc p) (h ∷ hs) lt = omega (arith, whole f d p hs (omega arith))

pub replaced : (f : Option ℕ → ℕ) (d p : ℕ) (x : Option ℕ) (hs : List (Option ℕ)) → p < length hs
    → before f d (set hs p x) ≡ before_without f d p hs + one_if (nat_lt (f x) d)
replaced f d p x [] lt = absurd (omega arith)
replaced f d zero x (h ∷ hs) lt = omega arith
replaced f d (suc p) x (h ∷ hs) lt = omega (arith, replaced f d p x hs (omega arith))

pub without_most : (f : Option ℕ → ℕ) (d p : ℕ) (hs : List (Option ℕ)) → p < length hs → before_without f d p hs + 1 ≤ length hs
without_most f d p [] lt = absurd (omega arith)
without_most f d zero (h ∷ hs) lt = omega (arith, before_most f d hs)
without_most f d (suc p) (h ∷ hs) lt = omega (arith, without_most f d p hs (omega arith), one_if_most (nat_lt (f h) d))

-- a read adds at most one copy of its own track, and none of another
pub copies_of_read : (t p : ℕ) (x : Option ℕ) (hs : List (Option ℕ)) → copies t (set hs p x) ≤ copies t hs + one_if (is_track t x)
copies_of_read t p x [] = omega arith
copies_of_read t zero x (h ∷ hs) = omega arith
copies_of_read t (suc p) x (h ∷ hs) = omega (arith, copies_of_read t p x hs)

-- where all times of later places are at most x, and x is before d, all are before d
all_before : (f : Option ℕ → ℕ) (x d : ℕ) (hs : List (Option ℕ)) → list_all (λ y. nat_le y x) (map f hs) ≡ true → x < d → before f d hs ≡ length hs
all_before f x d [] most lt = refl
all_before f x d (h ∷ hs) most lt = elim (two_ways (nat_le (f h) x)) [
  | inl le ↦
      let here : f h ≤ x = leb-true (f h) x le in
      rw (lt-ltb (f h) d (omega arith)) (omega (arith, all_before f x d hs (rw le at most) lt))
  | inr gt ↦ absurd (let wrong = rw gt at most in cc)
]

-- where a later place has a time above x, and all later places are before d, so is x
one_above : (f : Option ℕ → ℕ) (x d : ℕ) (hs : List (Option ℕ)) → list_all (λ y. nat_le y x) (map f hs) ≡ false → before f d hs ≡ length hs → x < d
one_above f x d [] most all = cc
one_above f x d (h ∷ hs) most all = elim (two_ways (nat_lt (f h) d)) [
  | inl soon ↦ elim (two_ways (nat_le (f h) x)) [
    | inl le ↦
        let rest : before f d hs ≡ length hs = omega (arith, rw soon at all) in
        one_above f x d hs (rw le at most) rest
    | inr gt ↦ omega (arith, leb-false (f h) x gt, ltb-true (f h) d soon)
  ]
  | inr late ↦ absurd (omega (arith, rw late at all, before_most f d hs))
]

-- where the greatest time is before d, all are
pub greatest_before : (f : Option ℕ → ℕ) (d : ℕ) (hs : List (Option ℕ)) → f (get_or hs (lowest_greatest (map f hs)) None) < d → before f d hs ≡ length hs
greatest_before f d [] lt = refl
greatest_before f d (h ∷ hs) lt = elim (two_ways (list_all (λ y. nat_le y (f h)) (map f hs))) [
  | inl first ↦
      let here : f h < d = rw first at lt in
      rw (lt-ltb (f h) d here) (omega (arith, all_before f (f h) d hs first here))
  | inr later ↦
      let rest : before f d hs ≡ length hs = greatest_before f d hs (rw later at lt) in
      rw (lt-ltb (f h) d (one_above f (f h) d hs later rest)) (omega arith)
]

pub greatest_inside : (xs : List ℕ) → 0 < length xs → lowest_greatest xs < length xs
greatest_inside [] some = absurd (omega arith)
greatest_inside (x ∷ []) some = omega arith
greatest_inside (x ∷ y ∷ ys) some = elim (two_ways (list_all (λ z. nat_le z x) (y ∷ ys))) [
  | inl first ↦ rw first (omega arith)
  | inr later ↦ rw later (omega (arith, greatest_inside (y ∷ ys) (omega arith)))
]
