-- What a write does to pages that are kept in slots, on plain lists.
use Rattle.std.proofs.Common.{◌<◌, ◌≡◌, ◌≢◌, ℕ, zero, suc, ◌≤◌, List, [], ◌∷◌, ◌++◌, length, map, get_or, set, replicate, refl, ap, sym, ◌∙◌, arith, length-append, Some, inl, inr, ◌⊎◌}
use Rattle.std.specs.List.{slice_get}
use Rattle.std.proofs.lemmas.Bool.{cases_eq}
use Rattle.std.proofs.lemmas.List.{map-append, length-map, ext_get_or, get_or-map, length-set, get_or-set_same, get_or-set_other, get_or_append_left, get_or_at, get_or_past}
use Rattle.std.proofs.lemmas.Option.{slice_get-get_or}
use Rattle.gier_drum.specs.Pages.{page_at, pages, slots_in_use, IsIndex}

-- a longer index

blanks : (blank : List ℕ) (n : ℕ) (slots : List (List ℕ)) → map (page_at blank slots) (replicate n 0) ≡ replicate n blank
blanks blank zero slots = refl
blanks blank (suc n) slots = ap (λ z. blank ∷ z) (blanks blank n slots)

pub pages-grown : (blank : List ℕ) (index : List ℕ) (slots : List (List ℕ)) (n : ℕ) → pages blank (index ++ replicate n 0) slots ≡ pages blank index slots ++ replicate n blank
pages-grown blank index slots n = map-append (page_at blank slots) index (replicate n 0) ∙ ap (λ z. pages blank index slots ++ z) (blanks blank n slots)

pub get_or-grown : (index : List ℕ) (n t : ℕ) → get_or (index ++ replicate n 0) t 0 ≡ get_or index t 0
get_or-grown [] zero t = refl
get_or-grown [] (suc n) zero = refl
get_or-grown [] (suc n) (suc t) = get_or-grown [] n t ∙ get_or_past [] t 0 (omega arith) ∙ sym (get_or_past [] (suc t) 0 (omega arith))
get_or-grown (x ∷ index) n zero = refl
get_or-grown (x ∷ index) n (suc t) = get_or-grown index n t

all_zero : (n : ℕ) → slots_in_use (replicate n 0) ≡ 0
all_zero zero = refl
all_zero (suc n) = all_zero n

slots_in_use-grown : (n : ℕ) (index : List ℕ) → slots_in_use (index ++ replicate n 0) ≡ slots_in_use index
slots_in_use-grown n [] = all_zero n
slots_in_use-grown n (zero ∷ index) = slots_in_use-grown n index
slots_in_use-grown n (suc m ∷ index) = ap suc (slots_in_use-grown n index)

-- a place past the end has no slot
pub within_anywhere : (index : List ℕ) (slots : List (List ℕ)) → IsIndex index slots → (t : ℕ) → get_or index t 0 ≤ length slots
within_anywhere index slots ok t = elim (lt_or index t) [
  | inl lt ↦ ok.within t lt
  | inr le ↦ omega (arith, get_or_past index t 0 le)
]
  where
    lt_or : (index : List ℕ) (t : ℕ) → (t < length index) ⊎ (length index ≤ t)
    lt_or index t = grind arith

pub in_index : (index : List ℕ) (t : ℕ) → 0 < get_or index t 0 → t < length index
in_index [] t some = absurd (omega (arith, get_or_past {X = ℕ} [] t 0 (omega arith)))
in_index (x ∷ index) zero some = omega arith
in_index (x ∷ index) (suc t) some = omega (arith, in_index index t some)

pub IsIndex-grown : (index : List ℕ) (slots : List (List ℕ)) (n : ℕ) → IsIndex index slots → IsIndex (index ++ replicate n 0) slots
IsIndex-grown index slots n ok = record {
  within = λ t below. rw (get_or-grown index n t) (within_anywhere index slots ok t);
  apart = λ t u bt bu. rw (get_or-grown index n t, get_or-grown index n u) (λ same some.
      ok.apart t u (in_index index t some) (in_index index u (omega (arith, same, some))) same some);
  count = ok.count ∙ sym (slots_in_use-grown n index);
}

-- how many places have a slot

pub slots_in_use-set : (index : List ℕ) (t n : ℕ) → t < length index → get_or index t 0 ≡ 0 → slots_in_use (set index t (suc n)) ≡ suc (slots_in_use index)
slots_in_use-set [] t n lt is = absurd (omega arith)
slots_in_use-set (zero ∷ index) zero n lt is = refl
slots_in_use-set (suc m ∷ index) zero n lt is = absurd (omega arith)
slots_in_use-set (zero ∷ index) (suc t) n lt is = slots_in_use-set index t n (omega arith) is
slots_in_use-set (suc m ∷ index) (suc t) n lt is = ap suc (slots_in_use-set index t n (omega arith) is)

pub taken_le : (index : List ℕ) → slots_in_use index ≤ length index
taken_le [] = omega arith
taken_le (zero ∷ index) = omega (arith, taken_le index)
taken_le (suc n ∷ index) = omega (arith, taken_le index)

pub taken_lt : (index : List ℕ) (t : ℕ) → t < length index → get_or index t 0 ≡ 0 → slots_in_use index < length index
taken_lt [] t lt is = absurd (omega arith)
taken_lt (zero ∷ index) t lt is = omega (arith, taken_le index)
taken_lt (suc m ∷ index) zero lt is = absurd (omega arith)
taken_lt (suc m ∷ index) (suc t) lt is = let h : slots_in_use index < length index = taken_lt index t (omega arith) is in omega arith

-- reading a place

pub pages-at : (blank : List ℕ) (index : List ℕ) (slots : List (List ℕ)) (i : ℕ) → i < length index → get_or (pages blank index slots) i blank ≡ page_at blank slots (get_or index i 0)
pages-at blank index slots i lt = get_or-map (page_at blank slots) index i 0 blank lt

pub slice_get-pages : (blank : List ℕ) (index : List ℕ) (slots : List (List ℕ)) (t : ℕ) → t < length index → slice_get (pages blank index slots) t ≡ Some (page_at blank slots (get_or index t 0))
slice_get-pages blank index slots t lt =
    slice_get-get_or (pages blank index slots) t blank (omega (arith, length-map index (page_at blank slots)))
    ∙ ap Some (pages-at blank index slots t lt)

-- a new slot

pub page_at-append : (blank : List ℕ) (slots : List (List ℕ)) (x : List ℕ) (m : ℕ) → m ≤ length slots → page_at blank (slots ++ x ∷ []) m ≡ page_at blank slots m
page_at-append blank slots x zero le = refl
page_at-append blank slots x (suc m) le = get_or_append_left slots (x ∷ []) blank m (omega arith)

pub page_at-new : (blank : List ℕ) (slots : List (List ℕ)) (x : List ℕ) → page_at blank (slots ++ x ∷ []) (suc (length slots)) ≡ x
page_at-new blank slots x = get_or_at slots x [] blank (length slots) refl

pub page_at-other : (blank : List ℕ) (slots : List (List ℕ)) (x : List ℕ) (s m : ℕ) → m ≢ suc s → page_at blank (set slots s x) m ≡ page_at blank slots m
page_at-other blank slots x s zero ne = refl
page_at-other blank slots x s (suc m) ne = get_or-set_other slots s m x blank (λ e. ne (ap suc e))

pub page_at-same : (blank : List ℕ) (slots : List (List ℕ)) (x : List ℕ) (s : ℕ) → s < length slots → page_at blank (set slots s x) (suc s) ≡ x
page_at-same blank slots x s lt = get_or-set_same slots s x blank lt

new_at : (blank : List ℕ) (index : List ℕ) (slots : List (List ℕ)) (t : ℕ) (x : List ℕ) → IsIndex index slots → t < length index → t < length (pages blank index slots) → (i : ℕ) → i < length index → page_at blank (slots ++ x ∷ []) (get_or (set index t (suc (length slots))) i 0) ≡ get_or (set (pages blank index slots) t x) i blank
new_at blank index slots t x ok lt there i within =
    elim (cases_eq i t) [
      | inl e ↦ rw (e, get_or-set_same index t (suc (length slots)) 0 lt, get_or-set_same (pages blank index slots) t x blank there) (page_at-new blank slots x)
      | inr ne ↦ rw (get_or-set_other index t i (suc (length slots)) 0 ne, get_or-set_other (pages blank index slots) t i x blank ne, pages-at blank index slots i within) (page_at-append blank slots x (get_or index i 0) (ok.within i within))
    ]

pub pages-new : (blank : List ℕ) (index : List ℕ) (slots : List (List ℕ)) (t : ℕ) (x : List ℕ) → IsIndex index slots → t < length index → pages blank (set index t (suc (length slots))) (slots ++ x ∷ []) ≡ set (pages blank index slots) t x
pages-new blank index slots t x ok lt =
    let same_length : length (pages blank (set index t (suc (length slots))) (slots ++ x ∷ [])) ≡ length (set (pages blank index slots) t x) =
    length-map (set index t (suc (length slots))) (page_at blank (slots ++ x ∷ [])) ∙ length-set index t (suc (length slots)) ∙ sym (length-set (pages blank index slots) t x ∙ length-map index (page_at blank slots)) in
    ext_get_or blank _ _ same_length (λ i below.
    let within : i < length index = omega (arith, length-map (set index t (suc (length slots))) (page_at blank (slots ++ x ∷ [])), length-set index t (suc (length slots))) in
    let within_set : i < length (set index t (suc (length slots))) = omega (arith, length-set index t (suc (length slots))) in
    let there : t < length (pages blank index slots) = omega (arith, length-map index (page_at blank slots)) in
    pages-at blank (set index t (suc (length slots))) (slots ++ x ∷ []) i within_set
    ∙ new_at blank index slots t x ok lt there i within)

new_within : (index : List ℕ) (slots : List (List ℕ)) (t : ℕ) (x : List ℕ) → IsIndex index slots → (u : ℕ) → u < length index → get_or (set index t (suc (length slots))) u 0 ≤ length (slots ++ x ∷ [])
new_within index slots t x ok u below =
    elim (cases_eq u t) [
      | inl e ↦ rw (e, get_or-set_same index t (suc (length slots)) 0 (omega arith)) (omega (arith, length-append slots (x ∷ [])))
      | inr ne ↦ rw (get_or-set_other index t u (suc (length slots)) 0 ne) (omega (arith, ok.within u below, length-append slots (x ∷ [])))
    ]

new_apart : (index : List ℕ) (slots : List (List ℕ)) (t : ℕ) → IsIndex index slots → (u v : ℕ) → u < length index → v < length index → get_or (set index t (suc (length slots))) u 0 ≡ get_or (set index t (suc (length slots))) v 0 → 0 < get_or (set index t (suc (length slots))) u 0 → u ≡ v
new_apart index slots t ok u v bu bv = elim (cases_eq u t) [
  | inl e ↦ elim (cases_eq v t) [
    | inl f ↦ λ same some. e ∙ sym f
    | inr nf ↦ rw (e, get_or-set_same index t (suc (length slots)) 0 (omega arith), get_or-set_other index t v (suc (length slots)) 0 nf) (λ same some. absurd (omega (arith, ok.within v bv)))
  ]
  | inr ne ↦ elim (cases_eq v t) [
    | inl f ↦ rw (f, get_or-set_same index t (suc (length slots)) 0 (omega arith), get_or-set_other index t u (suc (length slots)) 0 ne) (λ same some. absurd (omega (arith, ok.within u bu)))
    | inr nf ↦ rw (get_or-set_other index t u (suc (length slots)) 0 ne, get_or-set_other index t v (suc (length slots)) 0 nf) (λ same some. ok.apart u v bu bv same some)
  ]
]

pub IsIndex-new : (index : List ℕ) (slots : List (List ℕ)) (t : ℕ) (x : List ℕ) → IsIndex index slots → t < length index → get_or index t 0 ≡ 0 → IsIndex (set index t (suc (length slots))) (slots ++ x ∷ [])
IsIndex-new index slots t x ok lt is = record {
  within = λ u below. new_within index slots t x ok u (omega (arith, length-set index t (suc (length slots))));
  apart = λ u v bu bv. new_apart index slots t ok u v (omega (arith, length-set index t (suc (length slots)))) (omega (arith, length-set index t (suc (length slots))));
  count = length-append slots (x ∷ []) ∙ (omega (arith, slots_in_use-set index t (length slots) lt is, ok.count));
}

-- another page in a slot

same_at : (blank : List ℕ) (index : List ℕ) (slots : List (List ℕ)) (t s : ℕ) (x : List ℕ) → IsIndex index slots → t < length index → get_or index t 0 ≡ suc s → t < length (pages blank index slots) → (i : ℕ) → i < length index → page_at blank (set slots s x) (get_or index i 0) ≡ get_or (set (pages blank index slots) t x) i blank
same_at blank index slots t s x ok lt is there i within =
    elim (cases_eq i t) [
      | inl e ↦ let in_slots : s < length slots = omega (arith, ok.within t lt) in
          rw (e, is, get_or-set_same (pages blank index slots) t x blank there) (page_at-same blank slots x s in_slots)
      | inr ne ↦ rw (get_or-set_other (pages blank index slots) t i x blank ne, pages-at blank index slots i within)
          (page_at-other blank slots x s (get_or index i 0) (λ e. ne (ok.apart i t within lt (e ∙ sym is) (omega arith))))
    ]

pub pages-same : (blank : List ℕ) (index : List ℕ) (slots : List (List ℕ)) (t s : ℕ) (x : List ℕ) → IsIndex index slots → t < length index → get_or index t 0 ≡ suc s → pages blank index (set slots s x) ≡ set (pages blank index slots) t x
pages-same blank index slots t s x ok lt is =
    let same_length : length (pages blank index (set slots s x)) ≡ length (set (pages blank index slots) t x) =
    length-map index (page_at blank (set slots s x)) ∙ sym (length-set (pages blank index slots) t x ∙ length-map index (page_at blank slots)) in
    ext_get_or blank _ _ same_length (λ i below.
    let within : i < length index = omega (arith, length-map index (page_at blank (set slots s x))) in
    let there : t < length (pages blank index slots) = omega (arith, length-map index (page_at blank slots)) in
    pages-at blank index (set slots s x) i within ∙ same_at blank index slots t s x ok lt is there i within)

pub IsIndex-same : (index : List ℕ) (slots : List (List ℕ)) (s : ℕ) (x : List ℕ) → IsIndex index slots → IsIndex index (set slots s x)
IsIndex-same index slots s x ok = record {
  within = λ u below. rw (length-set slots s x) (ok.within u below);
  apart = ok.apart;
  count = length-set slots s x ∙ ok.count;
}
