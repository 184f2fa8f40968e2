-- What a table holds depends on its own words alone, and a write of one entry's words changes that entry alone.
use Rattle.std.proofs.Common.{◌<◌, ◌≡◌, ◌≢◌, ◌⊎◌, ℕ, zero, suc, ◌+◌, ◌*◌, ◌≤◌, List, [], ◌∷◌, ◌++◌, Option, length, take, drop, get_or, set, refl, sym, ap, ◌∙◌, arith, inl, inr, add-one, length-append, length-drop}
use Rattle.std.proofs.lemmas.Bool.{cases_lt}
use Rattle.std.proofs.lemmas.List.{ext_get_or, take_all, take-append-le, set-append_left, length-take, get_or-take, get_or-drop}
use Rattle.std.proofs.Math.Seq.{set-append_seam}
use Rattle.gier_region.specs.Contents.{ChangesOnly}
use Rattle.gier_region.specs.Packing.{Extent, words_at, entry, entries, tabulated}

pub length-tabulated : {A : Type 0} (f : ℕ → A) (n : ℕ) → length (tabulated f n) ≡ n
length-tabulated f zero = refl
length-tabulated f (suc n) = omega (arith, length-append (tabulated f n) (f n ∷ []), length-tabulated f n)

pub tabulated-same : {A : Type 0} (f g : ℕ → A) (n : ℕ) → ((k : ℕ) → k < n → f k ≡ g k) → tabulated f n ≡ tabulated g n
tabulated-same f g zero same = refl
tabulated-same f g (suc n) same = rw (tabulated-same f g n (λ k lt. same k (omega arith)), same n (omega arith)) refl

pub take-tabulated : {A : Type 0} (f : ℕ → A) (m n : ℕ) → m ≤ n → take m (tabulated f n) ≡ tabulated f m
take-tabulated f m zero le = let none : m ≡ 0 = omega arith in rw none refl
take-tabulated f m (suc n) le =
    elim (cases_lt m (suc n)) [
      | inl lt ↦ take-append-le m (tabulated f n) (f n ∷ []) (omega (arith, length-tabulated f n)) ∙ take-tabulated f m n (omega arith)
      | inr ge ↦ let all : m ≡ suc n = omega arith in rw all (take_all (suc n) (tabulated f (suc n)) (omega (arith, length-tabulated f (suc n))))
    ]

last_set : {A : Type 0} (xs : List A) (x y : A) (n : ℕ) → length xs ≡ n → set (xs ++ x ∷ []) n y ≡ xs ++ y ∷ []
last_set xs x y n is = rw (← is) (set-append_seam xs x [] y)

-- two functions that differ at one place at most
pub tabulated-set : {A : Type 0} (f g : ℕ → A) (n at : ℕ) → at < n → ((k : ℕ) → k < n → k ≢ at → g k ≡ f k) → tabulated g n ≡ set (tabulated f n) at (g at)
tabulated-set f g zero at lt same = absurd (omega arith)
tabulated-set f g (suc n) at lt same =
    elim (cases_lt at n) [
      | inl below ↦
          let last : g n ≡ f n = same n (omega arith) (omega arith) in
          let front : tabulated g n ≡ set (tabulated f n) at (g at) = tabulated-set f g n at below (λ k lt ne. same k (omega arith) ne) in
          rw (front, last) (sym (set-append_left (tabulated f n) (f n ∷ []) at (g at) (omega (arith, length-tabulated f n))))
      | inr above ↦
          let is : at ≡ n = omega arith in
          let front : tabulated g n ≡ tabulated f n = tabulated-same g f n (λ k lt. same k (omega arith) (omega arith)) in
          rw (front, is) (sym (last_set (tabulated f n) (f n) (g n) n (length-tabulated f n)))
    ]

-- a word of the words from a place on
pub get_or-words_at : (words : List ℕ) (place n k : ℕ) → k < n → get_or (words_at words place n) k 0 ≡ get_or words (place + k) 0
get_or-words_at words place n k lt = get_or-take n (drop place words) k 0 lt ∙ get_or-drop place words k 0

pub words_at-same : (a b : List ℕ) (place n : ℕ) → length a ≡ length b → ((k : ℕ) → place ≤ k → k < place + n → get_or a k 0 ≡ get_or b k 0) → words_at a place n ≡ words_at b place n
words_at-same a b place n long same =
    ext_get_or 0 (take n (drop place a)) (take n (drop place b))
    (simp (length-take, length-drop) (rw long refl))
    (λ k below.
    let lt : k < n = omega (arith, length-take n (drop place a)) in
    get_or-take n (drop place a) k 0 lt ∙ get_or-drop place a k 0 ∙ same (place + k) (omega arith) (omega arith) ∙ sym (get_or-take n (drop place b) k 0 lt ∙ get_or-drop place b k 0))

-- an entry is kept by what doesn't change its words
pub entry-kept : {A : Type 0} (value_of : List ℕ → Option A) (width : ℕ) (table : Extent) (old new : List ℕ) (place n k : ℕ) → ChangesOnly place n old new
    → (table.base + k * width + width ≤ place) ⊎ (place + n ≤ table.base + k * width) → entry value_of width table new k ≡ entry value_of width table old k
entry-kept value_of width table old new place n k only apart =
    ap value_of (words_at-same new old (table.base + k * width) width only.size (λ j from below. only.others j (elim apart [
      | inl before ↦ inl (omega arith)
      | inr behind ↦ inr (omega arith)
    ])))

row_below : (k at width : ℕ) → k < at → k * width + width ≤ at * width
row_below k at width lt = grind arith

-- the entries are kept by what changes none of the table's words
pub entries-kept : {A : Type 0} (value_of : List ℕ → Option A) (width : ℕ) (table : Extent) (old new : List ℕ) (place n : ℕ) → ChangesOnly place n old new
    → (table.base + table.len * width ≤ place) ⊎ (place + n ≤ table.base) → entries value_of width table new ≡ entries value_of width table old
entries-kept value_of width table old new place n only apart =
    tabulated-same (entry value_of width table new) (entry value_of width table old) table.len (λ k lt. entry-kept value_of width table old new place n k only (elim apart [
      | inl before ↦ inl (omega (arith, row_below k table.len width lt))
      | inr behind ↦ inr (omega arith)
    ]))

pub entries-pushed : {A : Type 0} (value_of : List ℕ → Option A) (width : ℕ) (table : Extent) (old new : List ℕ) (value : Option A)
    → ChangesOnly (table.base + table.len * width) width old new → value_of (words_at new (table.base + table.len * width) width) ≡ value
    → entries value_of width (record table { len = table.len + 1 }) new ≡ entries value_of width table old ++ value ∷ []
entries-pushed value_of width table old new value only is =
    rw (add-one table.len, entries-kept value_of width table old new (table.base + table.len * width) width only (inl (omega arith)), is) refl

other_row : (k at width base : ℕ) → k ≢ at → (base + k * width + width ≤ base + at * width) ⊎ (base + at * width + width ≤ base + k * width)
other_row k at width base ne =
    elim (cases_lt k at) [
      | inl lt ↦ inl (omega (arith, row_below k at width lt))
      | inr ge ↦ inr (omega (arith, row_below at k width (omega arith)))
    ]

pub entries-set : {A : Type 0} (value_of : List ℕ → Option A) (width : ℕ) (table : Extent) (old new : List ℕ) (value : Option A) (at : ℕ) → at < table.len
    → ChangesOnly (table.base + at * width) width old new → value_of (words_at new (table.base + at * width) width) ≡ value
    → entries value_of width table new ≡ set (entries value_of width table old) at value
entries-set value_of width table old new value at lt only is =
    let f : ℕ → Option _ = entry value_of width table old in
    let g : ℕ → Option _ = entry value_of width table new in
    rw (← is) (tabulated-set f g table.len at lt (λ k below ne. entry-kept value_of width table old new (table.base + at * width) width k only (other_row k at width table.base ne)))

-- in two regions that have the same words at a table's places it holds the same
pub entries-same : {A : Type 0} (value_of : List ℕ → Option A) (width : ℕ) (table : Extent) (a b : List ℕ) → length a ≡ length b
    → ((k : ℕ) → table.base ≤ k → k < table.base + table.len * width → get_or a k 0 ≡ get_or b k 0) → entries value_of width table a ≡ entries value_of width table b
entries-same value_of width table a b long same =
    tabulated-same (entry value_of width table a) (entry value_of width table b) table.len (λ k lt.
    ap value_of (words_at-same a b (table.base + k * width) width long (λ j from below. same j (omega arith) (omega (arith, row_below k table.len width lt)))))
