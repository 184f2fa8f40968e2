-- The counts that `Recent` keeps go on standing for its references, with one more of them.
use Rattle.std.proofs.Common.{◌≡◌, ◌+◌, ◌<◌, ◌≤◌, ◌==◌, ℕ, zero, suc, Bool, true, false, not, nat_lt, nat_le, if◌then◌else◌, cond, List, [], ◌∷◌, ◌++◌, length, take, drop, set, get_or, sum, replicate, reverse, Option, None, Some, inl, inr, refl, sym, ap, ◌∙◌, subst, arith, length-append, one-add, zero-add}
use Rattle.std.specs.Prelude.{position, remove}
use Rattle.std.specs.List.{position_or_len}
use Rattle.std.specs.Option.{option_map}
use Rattle.std.proofs.lemmas.Bool.{eqb-true}
use Rattle.std.proofs.lemmas.Bool.Decides.{nat_tests, eqb_tells, leb_tells}
use Rattle.std.proofs.lemmas.List.{take-take, take_all}
use Rattle.std.proofs.lemmas.List.Edits.{length-remove}
use Rattle.std.proofs.lemmas.List.Quantifiers.{position-Some}
use Rattle.std.proofs.lemmas.List.Sums.{sum_by-set, sum_by-take-drop}
use Rattle.gier_order.specs.Misses.{is_among, without, different, since, misses, most_recent}
use Rattle.gier_order.specs.Counts.{Counts, StandsFor, misses_at}
use Rattle.gier_order.proofs.Recency.{IsOnce, most_recent_once, most_recent_fits, depth, is_below, is_among-take, without_absent, most_recent-one_more, misses-one_more}

depth_head : (x : ℕ) (o : Option (List ℕ)) → option_map length (option_map (λ ts. x ∷ ts) o) ≡ option_map suc (option_map length o)
depth_head x None = refl
depth_head x (Some ts) = refl

place_head : (q n : ℕ) → cond (nat_lt (1 + q) (suc n)) (Some (1 + q)) None ≡ option_map suc (cond (nat_lt q n) (Some q) None)
place_head q n = elim (leb_tells (suc q) n) [
  | inl below ↦ rw (one-add, below.0) (grind (arith, nat_tests))
  | inr past ↦ rw (one-add, past.0) (grind (arith, nat_tests))
]

-- the first place of a track in a list is its depth there
position-depth : (track : ℕ) (ts : List ℕ) → position (λ t. t == track) ts ≡ depth track ts
position-depth track [] = refl
position-depth track (x ∷ xs) = elim (eqb_tells x track) [
  | inl found ↦ rw found.0 (grind (arith, nat_tests))
  | inr apart ↦ rw apart.0 (
      place_head (position_or_len (λ t. t == track) xs) (length xs)
      ∙ ap (option_map suc) (position-depth track xs)
      ∙ sym (depth_head x (since track xs)))
]

abbrev removed : Option ℕ → List ℕ → List ℕ
removed None ts = ts
removed (Some place) ts = remove ts place

removed_head : (x : ℕ) (xs : List ℕ) (o : Option ℕ) → removed (option_map suc o) (x ∷ xs) ≡ x ∷ removed o xs
removed_head x xs None = refl
removed_head x xs (Some place) = refl

removed-depth : (track : ℕ) (ts : List ℕ) → IsOnce ts → removed (depth track ts) ts ≡ without track ts
removed-depth track [] once = refl
removed-depth track (x ∷ xs) once = elim (eqb_tells x track) [
  | inl found ↦
      let absent : is_among track xs ≡ false = subst (λ (u : ℕ). is_among u xs ≡ false) found.1 once.0 in
      rw found.0 (sym (without_absent track xs absent))
  | inr apart ↦
      rw apart.0 (
      ap (λ (o : Option ℕ). removed o (x ∷ xs)) (depth_head x (since track xs))
      ∙ removed_head x xs (depth track xs)
      ∙ ap (λ (us : List ℕ). x ∷ us) (removed-depth track xs once.1))
]

sum-drop-set : (places place : ℕ) (hits : List ℕ) → place < length hits
    → sum (drop places (set hits place (get_or hits place 0 + 1))) ≡ sum (drop places hits) + (if nat_le places place then 1 else 0)
sum-drop-set zero place hits within = grind (arith, nat_tests, sum_by-set (λ x. x) hits place (get_or hits place 0 + 1) 0 within)
sum-drop-set (suc places) place [] within = absurd (omega arith)
sum-drop-set (suc places) zero (x ∷ xs) within = grind (arith, nat_tests)
sum-drop-set (suc places) (suc place) (x ∷ xs) within = grind (arith, nat_tests, sum-drop-set places place xs (omega arith))

sum-drop-zeros : (n places : ℕ) → sum (drop places (replicate n 0)) ≡ 0
sum-drop-zeros zero zero = refl
sum-drop-zeros zero (suc places) = refl
sum-drop-zeros (suc n) zero = grind (arith, sum-drop-zeros n 0)
sum-drop-zeros (suc n) (suc places) = sum-drop-zeros n places

pub sum_drop_le : (places : ℕ) (hits : List ℕ) → sum (drop places hits) ≤ sum hits
sum_drop_le places hits = omega (arith, sum_by-take-drop (λ x. x) hits places)

-- the newest track stays in front
pub first_kept : (track : ℕ) (ts : List ℕ) → position (λ t. t == track) ts ≡ Some 0 → ts ≡ track ∷ remove ts 0
first_kept track [] found = cc
first_kept track (x ∷ xs) found = ap (λ (t : ℕ). t ∷ xs) (eqb-true x track (position-Some (λ t. t == track) (x ∷ xs) 0 0 found).1)

pub stands_none : (counts : Counts) → counts.recent ≡ [] → counts.far ≡ 0 → counts.hits ≡ replicate 64 0 → StandsFor counts []
stands_none counts recent far hits = record {
  all = rw (far, hits) (zero-add _ ∙ sum-drop-zeros 64 0);
  latest = recent;
  misses_of = λ places most. rw (far, hits) (zero-add _ ∙ sum-drop-zeros 64 places);
}

longer_unless : (miss among : Bool) (t : ℕ) (old : List ℕ) → among ≡ not miss → length (if among then old else old ++ t ∷ []) ≡ length old + (if miss then 1 else 0)
longer_unless true among t old e = rw e (length-append old (t ∷ []))
longer_unless false among t old e = rw e (omega arith)

-- one more miss with so many places where the track stands no nearer
misses_after : (counts : Counts) (refs : List ℕ) (track places : ℕ) → StandsFor counts refs → places ≤ 64
    → length (misses (refs ++ track ∷ []) places) ≡ misses_at counts places + (if is_below places (position (λ t. t == track) counts.recent) then 1 else 0)
misses_after counts refs track places stands most =
    let same : most_recent places refs ≡ take places counts.recent =
    sym (take-take places 64 (different (reverse refs)) most) ∙ ap (take places) (sym stands.latest) in
    let among : is_among track (most_recent places refs) ≡ not (is_below places (position (λ t. t == track) counts.recent)) =
    ap (is_among track) same ∙ is_among-take track places counts.recent ∙ ap (λ (o : Option ℕ). not (is_below places o)) (sym (position-depth track counts.recent)) in
    ap length (misses-one_more refs places track)
    ∙ longer_unless (is_below places (position (λ t. t == track) counts.recent)) (is_among track (most_recent places refs)) track (misses refs places) among
    ∙ ap (λ (n : ℕ). n + (if is_below places (position (λ t. t == track) counts.recent) then 1 else 0)) (sym (stands.misses_of places most))

recent_fits : (counts : Counts) (refs : List ℕ) → StandsFor counts refs → length counts.recent ≤ 64
recent_fits counts refs stands = rw stands.latest (most_recent_fits 64 refs)

is_among-absent : (track : ℕ) (ts : List ℕ) → length ts ≤ 64 → depth track ts ≡ None → is_among track ts ≡ false
is_among-absent track ts fits absent =
    ap (is_among track) (sym (take_all 64 ts fits)) ∙ is_among-take track 64 ts ∙ ap (λ (o : Option ℕ). not (is_below 64 o)) absent

pub stands_miss : (counts new : Counts) (refs : List ℕ) (track : ℕ) → StandsFor counts refs
    → position (λ t. t == track) counts.recent ≡ None
    → new.recent ≡ take 64 (track ∷ counts.recent) → new.hits ≡ counts.hits → new.far ≡ counts.far + 1
    → StandsFor new (refs ++ track ∷ [])
stands_miss counts new refs track stands absent recent hits far =
    let gone : is_among track counts.recent ≡ false =
    is_among-absent track counts.recent (recent_fits counts refs stands) (sym (position-depth track counts.recent) ∙ absent) in
    record {
      all = grind (arith, length-append refs (track ∷ []), stands.all);
      latest =
          recent
          ∙ sym (most_recent-one_more 64 refs track
          ∙ ap (λ (us : List ℕ). take 64 (track ∷ us)) (ap (without track) (sym stands.latest) ∙ without_absent track counts.recent gone));
      misses_of = λ places most.
          let after = rw absent at (misses_after counts refs track places stands most) in
          rw (far, hits) (omega (arith, after));
    }

pub stands_hit : (counts new : Counts) (refs : List ℕ) (track place : ℕ) → StandsFor counts refs
    → position (λ t. t == track) counts.recent ≡ Some place → place < length counts.hits
    → new.recent ≡ track ∷ remove counts.recent place → new.hits ≡ set counts.hits place (get_or counts.hits place 0 + 1) → new.far ≡ counts.far
    → StandsFor new (refs ++ track ∷ [])
stands_hit counts new refs track place stands found within recent hits far =
    let once : IsOnce counts.recent = subst IsOnce (sym stands.latest) (most_recent_once 64 refs) in
    let at : depth track counts.recent ≡ Some place = sym (position-depth track counts.recent) ∙ found in
    let kept : remove counts.recent place ≡ without track counts.recent =
    ap (λ (o : Option ℕ). removed o counts.recent) (sym at) ∙ removed-depth track counts.recent once in
    let inside = (position-Some (λ t. t == track) counts.recent place 0 found).0 in
    let short : length (remove counts.recent place) ≤ 63 = omega (arith, length-remove counts.recent place inside, recent_fits counts refs stands) in
    record {
      all = rw (far, hits) (omega (arith, stands.all, length-append refs (track ∷ []), sum_by-set (λ x. x) counts.hits place (get_or counts.hits place 0 + 1) 0 within));
      latest =
          recent
          ∙ sym (most_recent-one_more 64 refs track
          ∙ ap (λ (us : List ℕ). take 64 (track ∷ us)) (ap (without track) (sym stands.latest) ∙ sym kept)
          ∙ ap (λ (us : List ℕ). track ∷ us) (take_all 63 (remove counts.recent place) short));
      misses_of = λ places most.
          let after = rw found at (misses_after counts refs track places stands most) in
          rw (far, hits) (omega (arith, sum-drop-set places place counts.hits within, after));
    }
