-- Lists of the values of a function at the numbers below one, and what is left of them.
use Rattle.std.proofs.Common.{◌<◌, ◌≡◌, ℕ, zero, suc, ◌+◌, ◌≤◌, List, [], ◌∷◌, ◌++◌, length, take, drop, get_or, replicate, reverse, refl, ap, sym, ◌∙◌, arith, inl, inr, length-append, length-drop, add-one}
use Rattle.std.proofs.lemmas.Bool.{cases_eq, cases_lt}
use Rattle.std.proofs.lemmas.List.{ext_get_or, get_or_append_left, get_or_at, get_or-drop, take_all, take-append-le, drop_more, reverse-append}
use Rattle.gier_text.specs.SymbolsOnTracks.{tabulated}
use Rattle.gier_text.specs.Own.{listed_same}

pub length-tabulated : {A : Type 0} (f : ℕ → A) (n : ℕ) → length (tabulated f n) ≡ n
length-tabulated f zero = refl
length-tabulated f (suc n) = length-append (tabulated f n) (f n ∷ []) ∙ omega (arith, length-tabulated f n)

pub get_or-tabulated : {A : Type 0} (f : ℕ → A) (n i : ℕ) (d : A) → i < n → get_or (tabulated f n) i d ≡ f i
get_or-tabulated f zero i d lt = absurd (omega arith)
get_or-tabulated f (suc n) i d lt = elim (cases_eq i n) [
  | inl e ↦ rw e (get_or_at (tabulated f n) (f n) [] d n (length-tabulated f n))
  | inr ne ↦ let below : i < length (tabulated f n) = omega (arith, length-tabulated f n) in get_or_append_left (tabulated f n) (f n ∷ []) d i below ∙ get_or-tabulated f n i d (omega arith)
]

pub take-tabulated : {A : Type 0} (f : ℕ → A) (m n : ℕ) → m ≤ n → take m (tabulated f n) ≡ tabulated f m
take-tabulated f m zero le = let none : m ≡ 0 = omega arith in rw none refl
take-tabulated f m (suc n) le = elim (cases_eq m (suc n)) [
  | inl e ↦ rw e (take_all (suc n) (tabulated f (suc n)) (omega (arith, length-tabulated f (suc n))))
  | inr ne ↦ let fits : m ≤ length (tabulated f n) = omega (arith, length-tabulated f n) in take-append-le m (tabulated f n) (f n ∷ []) fits ∙ take-tabulated f m n (omega arith)
]

nothing : {A : Type 0} (l : List A) → length l ≡ 0 → l ≡ []
nothing [] e = refl
nothing (x ∷ l) e = absurd (omega arith)

pub drop_past : {A : Type 0} (l : List A) (m : ℕ) → length l ≤ m → drop m l ≡ []
drop_past l zero le = nothing l (omega arith)
drop_past [] (suc m) le = refl
drop_past (x ∷ l) (suc m) le = drop_past l m (omega arith)

drop_same : {A : Type 0} (f g : ℕ → A) (n m : ℕ) → ((i : ℕ) → m ≤ i → i < n → f i ≡ g i) → drop m (tabulated f n) ≡ drop m (tabulated g n)
drop_same {A} f g n m same = elim (cases_lt m n) [
  | inl lt ↦ ext_get_or (f 0) (drop m (tabulated f n)) (drop m (tabulated g n)) (omega (arith, length-drop m (tabulated f n), length-drop m (tabulated g n), length-tabulated f n, length-tabulated g n))
      (λ i below. let within : m + i < n = omega (arith, length-drop m (tabulated f n), length-tabulated f n) in
      rw (get_or-drop m (tabulated f n) i (f 0), get_or-drop m (tabulated g n) i (f 0), get_or-tabulated f n (m + i) (f 0) within, get_or-tabulated g n (m + i) (f 0) within) (same (m + i) (omega arith) within))
  | inr past ↦ drop_past (tabulated f n) m (omega (arith, length-tabulated f n)) ∙ sym (drop_past (tabulated g n) m (omega (arith, length-tabulated g n)))
]

-- a step of reading, on plain functions
pub step_forward : {A : Type 0} (f g : ℕ → A) (n at : ℕ) → at < n → ((i : ℕ) → at ≤ i → i < n → f i ≡ g i) → drop at (tabulated f n) ≡ g at ∷ drop (at + 1) (tabulated g n)
step_forward {A} f g n at lt same =
    let below : at < length (tabulated f n) = omega (arith, length-tabulated f n) in
    drop_more (tabulated f n) at (f at) below
    ∙ rw (get_or-tabulated f n at (f at) lt, same at (omega arith) lt) (ap (λ (l : List A). g at ∷ l) (drop_same f g n (at + 1) (λ i from. same i (omega arith))))

pub step_backward : {A : Type 0} (f g : ℕ → A) (n at : ℕ) → at < n → ((i : ℕ) → i ≤ at → f i ≡ g i) → reverse (take (at + 1) (tabulated f n)) ≡ g at ∷ reverse (take at (tabulated g n))
step_backward f g n at lt same =
    rw (take-tabulated f (at + 1) n (omega arith), take-tabulated g at n (omega arith), add-one)
    (reverse-append (tabulated f at) (f at ∷ []) ∙ rw (same at (omega arith), listed_same f g at (λ i below. same i (omega arith))) refl)

pub listed_more : {A : Type 0} (f g : ℕ → A) (n : ℕ) (s : A) → ((i : ℕ) → i < n → f i ≡ g i) → g n ≡ s → tabulated g (n + 1) ≡ tabulated f n ++ s ∷ []
listed_more f g n s same here = rw (add-one, listed_same f g n same, here) refl

pub zeros : (n k : ℕ) → get_or {A = ℕ} (replicate n 0) k 0 ≡ 0
zeros zero k = refl
zeros (suc n) zero = refl
zeros (suc n) (suc k) = zeros n k
