-- One reference takes the plan one step on.
use Rattle.std.proofs.Common.{◌≡◌, ◌≢◌, ℕ, zero, suc, ◌+◌, ◌-◌, ◌<◌, ◌≤◌, inl, inr, true, false, cond, nat_eq, nat_lt, nat_le, Option, Some, None, List, [], ◌∷◌, ◌++◌, length, map, set, drop, replicate, slice_index, arith, refl, sym, ap, subst, ◌∙◌, eq-eqb, append_assoc}
use Rattle.std.specs.List.{list_all}
use Rattle.std.proofs.lemmas.Bool.{le-leb, lt-leb, lt-ltb, le-ltb, ltb-true, ltb-false}
use Rattle.std.proofs.lemmas.Bool.Decides.{nat_tests}
use Rattle.std.proofs.lemmas.List.{length-set, length-map, length-append, map-append, map-set, set-append_left}
use Rattle.std.proofs.Math.Seq.{set-append_seam, drop-cons}
use Rattle.gier_best.specs.Plan.{holds, next_use, held_next_use, lowest_greatest, place_for, farthest_from, farthest}
use Rattle.gier_best.specs.PlannerState.{places_holding, due_from, put, IsIndex, IsPlanned}
use Rattle.gier_best.proofs.NextUses.{two_ways, greatest_inside}
use Rattle.gier_best.proofs.Sweep.{tells_apart, next_use-other}

append_nil : (xs : List (Option ℕ)) → xs ++ [] ≡ xs
append_nil [] = refl
append_nil (x ∷ xs) = ap (λ ys. x ∷ ys) (append_nil xs)

append_nil_moves : (xs : List (ℕ × ℕ)) → xs ++ [] ≡ xs
append_nil_moves [] = refl
append_nil_moves (x ∷ xs) = ap (λ ys. x ∷ ys) (append_nil_moves xs)

-- no held track is t
abbrev pub Lacks : ℕ → List ℕ → Type 0
Lacks t tracks = (p : ℕ) → p < length tracks → slice_index tracks p ≢ t

held_at : (t : ℕ) (tracks : List ℕ) (n p : ℕ) → p < length tracks → slice_index tracks p ≡ t → holds t (map Some tracks ++ replicate n None) ≡ true
held_at t [] n p lt is = absurd (omega arith)
held_at t (x ∷ xs) n zero lt is = rw (eq-eqb t x (sym is)) refl
held_at t (x ∷ xs) n (suc p) lt is = elim (two_ways (nat_eq t x)) [
  | inl same ↦ rw same refl
  | inr other ↦ rw other (held_at t xs n p (omega arith) is)
]

held_not : (t : ℕ) (tracks : List ℕ) (n : ℕ) → Lacks t tracks → holds t (map Some tracks ++ replicate n None) ≡ false
held_not t [] zero lacks = refl
held_not t [] (suc n) lacks = held_not t [] n lacks
held_not t (x ∷ xs) n lacks = rw (tells_apart t x (λ e. lacks 0 (omega arith) (sym e))) (held_not t xs n (λ p lt. lacks (suc p) (omega arith)))

-- the times of tracks other than t don't change when t is referred to
due_later : (at t : ℕ) (rest tracks : List ℕ) → Lacks t tracks → due_from at (t ∷ rest) tracks ≡ due_from (suc at) rest tracks
due_later at t rest [] lacks = refl
due_later at t rest (x ∷ xs) lacks =
    let head : at + next_use (t ∷ rest) x ≡ suc at + next_use rest x = omega (arith, next_use-other t x rest (tells_apart t x (λ e. lacks 0 (omega arith) (sym e)))) in
    ap (λ y. y ∷ due_from at (t ∷ rest) xs) head ∙ ap (λ ys. (suc at + next_use rest x) ∷ ys) (due_later at t rest xs (λ p lt. lacks (suc p) (omega arith)))

due_kept : (at t : ℕ) (rest tracks : List ℕ) (p : ℕ) → p < length tracks → slice_index tracks p ≡ t
    → ((q : ℕ) → q < length tracks → q ≢ p → slice_index tracks q ≢ t)
    → set (due_from at (t ∷ rest) tracks) p (suc at + next_use rest t) ≡ due_from (suc at) rest tracks
due_kept at t rest [] p lt is others = absurd (omega arith)
due_kept at t rest (x ∷ xs) zero lt is others =
    ap (λ y. (suc at + next_use rest y) ∷ due_from at (t ∷ rest) xs) (sym is)
    ∙ ap (λ ys. (suc at + next_use rest x) ∷ ys) (due_later at t rest xs (λ q q_lt. others (suc q) (omega arith) (λ e. omega arith)))
due_kept at t rest (x ∷ xs) (suc p) lt is others =
    let head : at + next_use (t ∷ rest) x ≡ suc at + next_use rest x = omega (arith, next_use-other t x rest (tells_apart t x (λ e. others 0 (omega arith) (λ z. omega arith) (sym e)))) in
    ap (λ y. y ∷ set (due_from at (t ∷ rest) xs) p (suc at + next_use rest t)) head
    ∙ ap (λ ys. (suc at + next_use rest x) ∷ ys) (due_kept at t rest xs p (omega arith) is (λ q q_lt ne. others (suc q) (omega arith) (λ e. ne (omega arith))))

add_each : (n x y : ℕ) → nat_le (n + x) (n + y) ≡ nat_le x y
add_each n x y = grind (arith, nat_tests)

shifted_all : (n x : ℕ) (rest tracks : List ℕ)
    → list_all (λ y. nat_le y (n + x)) (due_from n rest tracks) ≡ list_all (λ y. nat_le y x) (map (held_next_use rest) (map Some tracks))
shifted_all n x rest [] = refl
shifted_all n x rest (z ∷ zs) = rw (add_each n (next_use rest z) x, shifted_all n x rest zs) refl

shifted_place : (n : ℕ) (rest tracks : List ℕ) → lowest_greatest (due_from n rest tracks) ≡ lowest_greatest (map (held_next_use rest) (map Some tracks))
shifted_place n rest [] = refl
shifted_place n rest (z ∷ zs) = rw (shifted_all n (next_use rest z) rest zs, shifted_place n rest zs) refl

next_use_most : (rest : List ℕ) (t : ℕ) → next_use rest t ≤ length rest
next_use_most [] t = omega arith
next_use_most (r ∷ rest) t = elim (two_ways (nat_eq r t)) [
  | inl same ↦ rw same (omega arith)
  | inr other ↦ rw other (omega (arith, next_use_most rest t))
]

empty_all : (rest : List ℕ) (n : ℕ) → list_all (λ y. nat_le y (suc (length rest))) (map (held_next_use rest) (replicate n None)) ≡ true
empty_all rest zero = refl
empty_all rest (suc n) = rw (le-leb (suc (length rest)) (suc (length rest)) (omega arith)) (empty_all rest n)

not_latest : (rest tracks : List ℕ) (n x : ℕ) → list_all (λ y. nat_le y (next_use rest x)) (map (held_next_use rest) (map Some tracks ++ replicate (suc n) None)) ≡ false
not_latest rest [] n x = rw (lt-leb (suc (length rest)) (next_use rest x) (omega (arith, next_use_most rest x))) refl
not_latest rest (z ∷ zs) n x = elim (two_ways (nat_le (next_use rest z) (next_use rest x))) [
  | inl le ↦ rw le (not_latest rest zs n x)
  | inr gt ↦ rw gt refl
]

empty_place : (rest tracks : List ℕ) (n : ℕ) → lowest_greatest (map (held_next_use rest) (map Some tracks ++ replicate (suc n) None)) ≡ length tracks
empty_place rest [] n = rw (empty_all rest n) refl
empty_place rest (z ∷ zs) n = rw (not_latest rest zs n z) (ap suc (empty_place rest zs n))

-- what a reference to a held track leaves to do
pub step_kept : (count at t p w : ℕ) (rest tracks due index : List ℕ) (made whole : List (ℕ × ℕ))
    → IsIndex index tracks → slice_index index t ≡ suc p → w ≡ suc at + next_use rest t
    → IsPlanned count at (t ∷ rest) tracks due made whole → IsPlanned count (suc at) rest tracks (set due p w) made whole
step_kept count at t p w rest tracks due index made whole is has when planned = record {
  times = ap (λ ys. set ys p w) planned.times ∙ ap (λ y. set (due_from at (t ∷ rest) tracks) p y) when ∙ due_kept at t rest tracks p held.0 held.1 others;
  follows = rw (held_at t tracks (count - length tracks) p held.0 held.1) at planned.follows;
}
  where
    held : (p < length tracks) × (slice_index tracks p ≡ t)
    held = is.holds t p has

    others : (q : ℕ) → q < length tracks → q ≢ p → slice_index tracks q ≢ t
    others q lt ne e = ne (omega (arith, has, is.placed q lt, ap (slice_index index) e))

-- what a read into the chosen place leaves to do
read_at : (count at t place w : ℕ) (rest tracks new due : List ℕ) (made whole : List (ℕ × ℕ))
    → Lacks t tracks → w ≡ suc at + next_use rest t
    → place_for rest (places_holding count tracks) ≡ place
    → set (places_holding count tracks) place (Some t) ≡ places_holding count new
    → IsPlanned count at (t ∷ rest) tracks due made whole
    → made ++ (t, suc place) ∷ [] ++ farthest_from rest (places_holding count new) ≡ whole
read_at count at t place w rest tracks new due made whole lacks when chosen reads planned =
    rw append_assoc (sym parts ∙ planned.follows)
  where
    parts : made ++ farthest_from (t ∷ rest) (places_holding count tracks) ≡ made ++ ((t, suc place) ∷ farthest_from rest (places_holding count new))
    parts = rw (held_not t tracks (count - length tracks) lacks, chosen, reads) refl

lacks_absent : (index tracks : List ℕ) (t : ℕ) → IsIndex index tracks → slice_index index t ≡ 0 → Lacks t tracks
lacks_absent index tracks t is absent = λ p lt e. omega (arith, absent, is.placed p lt, ap (slice_index index) e)

pub step_fill : (count at t w : ℕ) (rest tracks due index : List ℕ) (made whole : List (ℕ × ℕ))
    → IsIndex index tracks → slice_index index t ≡ 0 → w ≡ suc at + next_use rest t → length tracks < count
    → IsPlanned count at (t ∷ rest) tracks due made whole
    → IsPlanned count (suc at) rest (tracks ++ t ∷ []) (due ++ w ∷ []) (made ++ (t, suc (length tracks)) ∷ []) whole
step_fill count at t w rest tracks due index made whole is absent when room planned = record {
  times = ap (λ ys. ys ++ w ∷ []) (planned.times ∙ due_later at t rest tracks lacks)
      ∙ ap (λ y. due_from (suc at) rest tracks ++ y ∷ []) when
      ∙ sym (map-append (λ u. suc at + next_use rest u) tracks (t ∷ []));
  follows = read_at count at t (length tracks) w rest tracks (tracks ++ t ∷ []) due made whole lacks when chosen reads planned;
}
  where
    lacks : Lacks t tracks
    lacks = lacks_absent index tracks t is absent

    one_more : count - length tracks ≡ suc (count - suc (length tracks))
    one_more = omega arith

    chosen : place_for rest (places_holding count tracks) ≡ length tracks
    chosen = ap (λ n. lowest_greatest (map (held_next_use rest) (map Some tracks ++ replicate n None))) one_more ∙ empty_place rest tracks (count - suc (length tracks))

    mapped : length (map Some tracks) ≡ length tracks
    mapped = length-map tracks Some

    one_less : count - suc (length tracks) ≡ count - length (tracks ++ t ∷ [])
    one_less = omega (arith, length-append tracks (t ∷ []))

    joined : map Some tracks ++ Some t ∷ replicate (count - suc (length tracks)) None ≡ (map Some tracks ++ Some t ∷ []) ++ replicate (count - suc (length tracks)) None
    joined = rw append_assoc refl

    reads : set (places_holding count tracks) (length tracks) (Some t) ≡ places_holding count (tracks ++ t ∷ [])
    reads =
        ap (λ n. set (map Some tracks ++ replicate n None) (length tracks) (Some t)) one_more
        ∙ ap (λ n. set (map Some tracks ++ None ∷ replicate (count - suc (length tracks)) None) n (Some t)) (sym mapped)
        ∙ set-append_seam (map Some tracks) None (replicate (count - suc (length tracks)) None) (Some t)
        ∙ joined
        ∙ ap (λ xs. xs ++ replicate (count - suc (length tracks)) None) (sym (map-append Some tracks (t ∷ [])))
        ∙ ap (λ n. map Some (tracks ++ t ∷ []) ++ replicate n None) one_less

pub step_replace : (count at t w : ℕ) (rest tracks due index : List ℕ) (made whole : List (ℕ × ℕ))
    → IsIndex index tracks → slice_index index t ≡ 0 → w ≡ suc at + next_use rest t → count ≤ length tracks → length tracks ≤ count → 1 ≤ count
    → IsPlanned count at (t ∷ rest) tracks due made whole
    → IsPlanned count (suc at) rest (set tracks (lowest_greatest due) t) (set due (lowest_greatest due) w) (made ++ (t, suc (lowest_greatest due)) ∷ []) whole
step_replace count at t w rest tracks due index made whole is absent when full few some planned = record {
  times = ap (λ ys. set ys (lowest_greatest due) w) (planned.times ∙ due_later at t rest tracks lacks)
      ∙ ap (λ y. set (due_from (suc at) rest tracks) (lowest_greatest due) y) when
      ∙ sym (map-set (λ u. suc at + next_use rest u) tracks (lowest_greatest due) t);
  follows = read_at count at t (lowest_greatest due) w rest tracks (set tracks (lowest_greatest due) t) due made whole lacks when chosen reads planned;
}
  where
    lacks : Lacks t tracks
    lacks = lacks_absent index tracks t is absent

    none_left : count - length tracks ≡ 0
    none_left = omega arith

    all_full : places_holding count tracks ≡ map Some tracks
    all_full = ap (λ n. map Some tracks ++ replicate n None) none_left ∙ append_nil (map Some tracks)

    chosen : place_for rest (places_holding count tracks) ≡ lowest_greatest due
    chosen = ap (λ hs. lowest_greatest (map (held_next_use rest) hs)) all_full
        ∙ sym (shifted_place (suc at) rest tracks)
        ∙ ap lowest_greatest (sym (planned.times ∙ due_later at t rest tracks lacks))

    times_length : length due ≡ length tracks
    times_length = ap length planned.times ∙ length-map tracks (λ u. at + next_use (t ∷ rest) u)

    inside : lowest_greatest due < length (map Some tracks)
    inside = omega (arith, greatest_inside due (omega (arith, times_length)), times_length, length-map tracks Some)

    reads : set (places_holding count tracks) (lowest_greatest due) (Some t) ≡ places_holding count (set tracks (lowest_greatest due) t)
    reads = set-append_left (map Some tracks) (replicate (count - length tracks) None) (lowest_greatest due) (Some t) inside
        ∙ ap (λ xs. xs ++ replicate (count - length tracks) None) (sym (map-set Some tracks (lowest_greatest due) t))
        ∙ ap (λ n. map Some (set tracks (lowest_greatest due) t) ++ replicate (count - n) None) (sym (length-set tracks (lowest_greatest due) t))

-- the place that is chosen is in use or the lowest empty one
pub chosen_within : (count place : ℕ) (tracks due : List ℕ) → length due ≡ length tracks → length tracks ≤ count → 1 ≤ count
    → place ≡ cond (nat_lt (length tracks) count) (length tracks) (lowest_greatest due)
    → (place ≤ length tracks) × (place < count)
chosen_within count place tracks due even few some is = elim (two_ways (nat_lt (length tracks) count)) [
  | inl room ↦
      let here : place ≡ length tracks = rw room at is in
      (omega (arith, here), omega (arith, here, ltb-true (length tracks) count room))
  | inr full ↦
      let here : place ≡ lowest_greatest due = rw full at is in
      let all : count ≤ length tracks = ltb-false (length tracks) count full in
      let inside : lowest_greatest due < length due = greatest_inside due (omega arith) in
      (omega (arith, here), omega (arith, here))
]

pub step_read : (count at t place w : ℕ) (rest tracks due index : List ℕ) (made whole : List (ℕ × ℕ))
    → IsIndex index tracks → slice_index index t ≡ 0 → w ≡ suc at + next_use rest t → length due ≡ length tracks → length tracks ≤ count → 1 ≤ count
    → place ≡ cond (nat_lt (length tracks) count) (length tracks) (lowest_greatest due)
    → IsPlanned count at (t ∷ rest) tracks due made whole
    → IsPlanned count (suc at) rest (put tracks place t) (put due place w) (made ++ (t, suc place) ∷ []) whole
step_read count at t place w rest tracks due index made whole is absent when even few some choice planned = elim (two_ways (nat_lt (length tracks) count)) [
  | inl room ↦
      let here : place ≡ length tracks = rw room at choice in
      rw (here, le-ltb (length tracks) (length tracks) (omega arith), le-ltb (length tracks) (length due) (omega (arith, even)))
      (step_fill count at t w rest tracks due index made whole is absent when (ltb-true (length tracks) count room) planned)
  | inr full ↦
      let here : place ≡ lowest_greatest due = rw full at choice in
      let all : count ≤ length tracks = ltb-false (length tracks) count full in
      let inside : lowest_greatest due < length due = greatest_inside due (omega arith) in
      let inside_too : lowest_greatest due < length tracks = omega arith in
      rw (here, lt-ltb (lowest_greatest due) (length tracks) inside_too, lt-ltb (lowest_greatest due) (length due) inside)
      (step_replace count at t w rest tracks due index made whole is absent when all few some planned)
]

pub put_length : (xs : List ℕ) (place x : ℕ) → length (put xs place x) ≤ length xs + 1
put_length xs place x = elim (two_ways (nat_lt place (length xs))) [
  | inl old ↦ rw old (omega (arith, length-set xs place x))
  | inr new ↦ rw new (omega (arith, length-append xs (x ∷ [])))
]

pub put_few : (xs : List ℕ) (place x count : ℕ) → place < count → place ≤ length xs → length xs ≤ count → length (put xs place x) ≤ count
put_few xs place x count inside within few = elim (two_ways (nat_lt place (length xs))) [
  | inl old ↦ rw old (omega (arith, length-set xs place x))
  | inr new ↦ rw new (omega (arith, length-append xs (x ∷ []), ltb-false place (length xs) new))
]

-- a plan of which nothing is made
pub step_none : (count : ℕ) (refs : List ℕ) → IsPlanned count 0 refs [] [] [] (farthest refs count)
step_none count refs = record { times = refl; follows = ap (λ n. farthest_from refs (replicate n None)) (omega arith) }

-- a plan of which nothing is left
pub step_all : (count at : ℕ) (tracks due : List ℕ) (made whole : List (ℕ × ℕ)) → IsPlanned count at [] tracks due made whole → made ≡ whole
step_all count at tracks due made whole planned = sym (append_nil_moves made) ∙ planned.follows

-- the loop over the changes has come to this one
pub record HasPlanned (changes : List ℕ) (count at : ℕ) (tracks due : List ℕ) (made : List (ℕ × ℕ)) : Type 0 where
  pub planned : IsPlanned count at (drop at changes) tracks due made (farthest changes count)
  pub few : length tracks ≤ count
  pub reads : length made ≤ at

pub planned_at : (changes : List ℕ) (count at : ℕ) (tracks due : List ℕ) (made whole : List (ℕ × ℕ)) → at < length changes
    → IsPlanned count at (drop at changes) tracks due made whole → IsPlanned count at (slice_index changes at ∷ drop (suc at) changes) tracks due made whole
planned_at changes count at tracks due made whole lt planned =
    let P : List ℕ → Type 0 = λ rest. IsPlanned count at rest tracks due made whole in
    subst P (drop-cons changes at 0 lt) planned
