-- What one more reference does to the misses and to the tracks referred to last, and that more places miss no more.
use Rattle.std.proofs.Common.{◌≡◌, ◌≢◌, ◌≤◌, ◌==◌, ℕ, zero, suc, Bool, true, false, not, nat_le, if◌then◌else◌, List, [], ◌∷◌, ◌++◌, length, take, reverse, Option, None, Some, inl, inr, refl, sym, ap, ◌∙◌, subst, arith}
use Rattle.std.specs.Option.{option_map}
use Rattle.std.proofs.lemmas.Bool.Decides.{nat_tests, eqb_tells}
use Rattle.std.proofs.lemmas.List.{reverse-append, take-take, append-nil, length-take}
use mathlib.Core.List.{reverse_aux}
use Rattle.gier_order.specs.Misses.{is_among, without, different, since, is_far, is_miss, misses_behind, misses, most_recent}

without_same_head : (t x : ℕ) (o : Option (List ℕ)) → (x == t) ≡ true → option_map (without t) (option_map (λ ts. x ∷ ts) o) ≡ option_map (without t) o
without_same_head t x None same = refl
without_same_head t x (Some ts) same = rw same

without_other_head : (t x : ℕ) (o : Option (List ℕ)) → (x == t) ≡ false → option_map (without t) (option_map (λ ts. x ∷ ts) o) ≡ option_map (λ ts. x ∷ ts) (option_map (without t) o)
without_other_head t x None other = refl
without_other_head t x (Some ts) other = rw other

-- leaving out another track leaves it out of what was referred to since
since-without : (track t : ℕ) (ts : List ℕ) → track ≢ t → since track (without t ts) ≡ option_map (without t) (since track ts)
since-without track t [] ne = refl
since-without track t (x ∷ xs) ne = elim (eqb_tells x t) [
  | inl same ↦
      let apart : (x == track) ≡ false = grind (arith, nat_tests) in
      rw (same.0, apart) (since-without track t xs ne ∙ sym (without_same_head t x (since track xs) same.0))
  | inr other ↦ elim (eqb_tells x track) [
    | inl found ↦ rw (other.0, found.0) refl
    | inr apart ↦ rw (other.0, apart.0) (ap (option_map (λ ts. x ∷ ts)) (since-without track t xs ne) ∙ sym (without_other_head t x (since track xs) other.0))
  ]
]

different_head : (x : ℕ) (o : Option (List ℕ)) → option_map (λ ts. x ∷ ts) (option_map (without x) (option_map different o)) ≡ option_map different (option_map (λ ts. x ∷ ts) o)
different_head x None = refl
different_head x (Some ts) = refl

-- the different tracks before a track are the different ones of those referred to since
since-different : (track : ℕ) (ts : List ℕ) → since track (different ts) ≡ option_map different (since track ts)
since-different track [] = refl
since-different track (x ∷ xs) = elim (eqb_tells x track) [
  | inl found ↦ rw found.0 refl
  | inr apart ↦
      let ne : track ≢ x = λ e. apart.1 (sym e) in
      rw apart.0 (ap (option_map (λ ts. x ∷ ts)) (since-without track x (different xs) ne ∙ ap (option_map (without x)) (since-different track xs)) ∙ different_head x (since track xs))
]

-- where a track stands in a list: behind so many others
abbrev pub depth : ℕ → List ℕ → Option ℕ
depth track ts = option_map length (since track ts)

-- so many places don't reach the depth
abbrev pub is_below : ℕ → Option ℕ → Bool
is_below places None = true
is_below places (Some n) = nat_le places n

is_below_head : (x places : ℕ) (o : Option (List ℕ)) → is_below (suc places) (option_map length (option_map (λ ts. x ∷ ts) o)) ≡ is_below places (option_map length o)
is_below_head x places None = refl
is_below_head x places (Some ts) = grind (arith, nat_tests)

is_among-none : (track : ℕ) (o : Option (List ℕ)) → false ≡ not (is_below 0 (option_map length o))
is_among-none track None = refl
is_among-none track (Some ts) = grind (arith, nat_tests)

pub is_among-take : (track places : ℕ) (ts : List ℕ) → is_among track (take places ts) ≡ not (is_below places (depth track ts))
is_among-take track zero ts = is_among-none track (since track ts)
is_among-take track (suc places) [] = refl
is_among-take track (suc places) (x ∷ xs) = elim (eqb_tells x track) [
  | inl found ↦ rw found.0 (grind (arith, nat_tests))
  | inr apart ↦ rw apart.0 (is_among-take track places xs ∙ ap not (sym (is_below_head x places (since track xs))))
]

is_below-different : (places : ℕ) (o : Option (List ℕ)) → is_below places (option_map length (option_map different o)) ≡ is_far places o
is_below-different places None = refl
is_below-different places (Some ts) = refl

-- a reference misses exactly where its track is not among the different tracks referred to last
pub is_miss-among : (places track : ℕ) (before : List ℕ) → is_among track (take places (different before)) ≡ not (is_miss places track before)
is_miss-among places track before =
    is_among-take track places (different before)
    ∙ ap not (ap (λ (o : Option (List ℕ)). is_below places (option_map length o)) (since-different track before) ∙ is_below-different places (since track before))

far-more_places : (o : Option (List ℕ)) (fewer more : ℕ) → fewer ≤ more → is_far more o ≡ true → is_far fewer o ≡ true
far-more_places None fewer more h far = refl
far-more_places (Some between) fewer more h far = grind (arith, nat_tests)

misses_behind-more_places : (refs before : List ℕ) (fewer more : ℕ) → fewer ≤ more → length (misses_behind before refs more) ≤ length (misses_behind before refs fewer)
misses_behind-more_places [] before fewer more h = omega arith
misses_behind-more_places (t ∷ refs) before fewer more h =
    grind (arith, far-more_places (since t before) fewer more h, misses_behind-more_places refs (t ∷ before) fewer more h)

-- the number of misses doesn't rise with the number of places
pub misses-more_places : (refs : List ℕ) (fewer more : ℕ) → fewer ≤ more → length (misses refs more) ≤ length (misses refs fewer)
misses-more_places refs fewer more h = misses_behind-more_places refs [] fewer more h

-- no track stands twice
abbrev pub IsOnce : List ℕ → Type 0
IsOnce [] = Unit {0}
IsOnce (t ∷ ts) = (is_among t ts ≡ false) × IsOnce ts

is_among-without : (track t : ℕ) (ts : List ℕ) → is_among track ts ≡ false → is_among track (without t ts) ≡ false
is_among-without track t [] absent = refl
is_among-without track t (x ∷ xs) absent = elim (eqb_tells x t) [
  | inl same ↦ rw same.0 (is_among-without track t xs (grind (arith, nat_tests)))
  | inr other ↦ rw other.0 (grind (arith, nat_tests, is_among-without track t xs))
]

is_among-without_same : (t : ℕ) (ts : List ℕ) → is_among t (without t ts) ≡ false
is_among-without_same t [] = refl
is_among-without_same t (x ∷ xs) = elim (eqb_tells x t) [
  | inl same ↦ rw same.0 (is_among-without_same t xs)
  | inr other ↦ rw (other.0, other.0) (is_among-without_same t xs)
]

once_without : (t : ℕ) (ts : List ℕ) → IsOnce ts → IsOnce (without t ts)
once_without t [] once = tt
once_without t (x ∷ xs) once = elim (eqb_tells x t) [
  | inl same ↦ rw same.0 (once_without t xs once.1)
  | inr other ↦ rw other.0 (is_among-without x t xs once.0, once_without t xs once.1)
]

pub once_different : (ts : List ℕ) → IsOnce (different ts)
once_different [] = tt
once_different (t ∷ ts) = (is_among-without_same t (different ts), once_without t (different ts) (once_different ts))

pub without_absent : (t : ℕ) (ts : List ℕ) → is_among t ts ≡ false → without t ts ≡ ts
without_absent t [] absent = refl
without_absent t (x ∷ xs) absent = elim (eqb_tells x t) [
  | inl same ↦ absurd (grind (arith, nat_tests))
  | inr other ↦ rw other.0 (ap (λ (us : List ℕ). x ∷ us) (without_absent t xs (grind (arith, nat_tests))))
]

is_among-take_absent : (t places : ℕ) (ts : List ℕ) → is_among t ts ≡ false → is_among t (take places ts) ≡ false
is_among-take_absent t zero ts absent = refl
is_among-take_absent t (suc places) [] absent = refl
is_among-take_absent t (suc places) (x ∷ xs) absent = grind (arith, nat_tests, is_among-take_absent t places xs)

pub once_take : (places : ℕ) (ts : List ℕ) → IsOnce ts → IsOnce (take places ts)
once_take zero ts once = tt
once_take (suc places) [] once = tt
once_take (suc places) (x ∷ xs) once = (is_among-take_absent x places xs once.0, once_take places xs once.1)

pub most_recent_once : (places : ℕ) (refs : List ℕ) → IsOnce (most_recent places refs)
most_recent_once places refs = once_take places (different (reverse refs)) (once_different (reverse refs))

pub most_recent_fits : (places : ℕ) (refs : List ℕ) → length (most_recent places refs) ≤ places
most_recent_fits places refs = omega (arith, length-take places (different (reverse refs)))

-- of the list without a track, the first ones are those of one more of the list
take-without : (t places : ℕ) (ts : List ℕ) → IsOnce ts → take places (without t ts) ≡ take places (without t (take (suc places) ts))
take-without t zero ts once = refl
take-without t (suc places) [] once = refl
take-without t (suc places) (x ∷ xs) once = elim (eqb_tells x t) [
  | inl same ↦
      let absent : is_among t xs ≡ false = subst (λ (u : ℕ). is_among u xs ≡ false) same.1 once.0 in
      rw same.0 (
      ap (take (suc places)) (without_absent t xs absent)
      ∙ sym (take-take (suc places) (suc places) xs (omega arith))
      ∙ sym (ap (take (suc places)) (without_absent t (take (suc places) xs) (is_among-take_absent t (suc places) xs absent))))
  | inr other ↦ rw other.0 (ap (λ (us : List ℕ). x ∷ us) (take-without t places xs once.1))
]

-- behind one more reference, its track and then the others, of which the last one goes where there were so many
pub most_recent-one_more : (places : ℕ) (refs : List ℕ) (track : ℕ) → most_recent places (refs ++ track ∷ []) ≡ take places (track ∷ without track (most_recent places refs))
most_recent-one_more zero refs track = refl
most_recent-one_more (suc places) refs track =
    rw (reverse-append refs (track ∷ [])) (ap (λ (us : List ℕ). track ∷ us) (take-without track places (different (reverse refs)) (once_different (reverse refs))))

with_head : (b : Bool) (t : ℕ) (old new one : List ℕ) → new ≡ old ++ one → (if b then t ∷ new else new) ≡ (if b then t ∷ old else old) ++ one
with_head true t old new one e = ap (λ (us : List ℕ). t ∷ us) e
with_head false t old new one e = e

misses_behind-one_more : (refs before : List ℕ) (places track : ℕ)
    → misses_behind before (refs ++ track ∷ []) places ≡ misses_behind before refs places ++ (if is_miss places track (reverse_aux refs before) then track ∷ [] else [])
misses_behind-one_more [] before places track = refl
misses_behind-one_more (t ∷ refs) before places track =
    with_head (is_miss places t before) t (misses_behind (t ∷ before) refs places) (misses_behind (t ∷ before) (refs ++ track ∷ []) places)
    (if is_miss places track (reverse_aux refs (t ∷ before)) then track ∷ [] else [])
    (misses_behind-one_more refs (t ∷ before) places track)

unless_among : (miss among : Bool) (t : ℕ) (old : List ℕ) → among ≡ not miss → old ++ (if miss then t ∷ [] else []) ≡ (if among then old else old ++ t ∷ [])
unless_among true among t old e = rw e refl
unless_among false among t old e = rw e (append-nil old)

-- one more reference misses exactly where its track isn't among so many that were referred to last
pub misses-one_more : (refs : List ℕ) (places track : ℕ)
    → misses (refs ++ track ∷ []) places ≡ (if is_among track (most_recent places refs) then misses refs places else misses refs places ++ track ∷ [])
misses-one_more refs places track =
    misses_behind-one_more refs [] places track
    ∙ unless_among (is_miss places track (reverse refs)) (is_among track (most_recent places refs)) track (misses refs places) (is_miss-among places track (reverse refs))
