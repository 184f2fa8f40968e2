-- Lists that are filled up with zeros, read place by place.
use Rattle.std.proofs.Common.{◌<◌, ◌≡◌, ◌⊎◌, ℕ, zero, suc, ◌+◌, ◌-◌, ◌≤◌, List, [], ◌∷◌, ◌++◌, length, take, drop, get_or, set, replicate, refl, sym, ◌∙◌, arith, rules, inl, inr, length-append, length-set}
use Rattle.std.proofs.lemmas.Bool.{cases_eq, cases_lt}
use Rattle.std.proofs.lemmas.List.{ext_get_or, places, set-append_left, length-replicate, get_or_past, get_or-set_same, get_or-set_other}
use Rattle.gier_region.specs.Contents.{zero_filled}

pub length-zero_filled : (words : List ℕ) (size : ℕ) → length words ≤ size → length (zero_filled words size) ≡ size
length-zero_filled words size le = omega (arith, length-append words (replicate (size - length words) 0), length-replicate {A = ℕ} (size - length words) 0)

zeros : (n k : ℕ) → get_or {A = ℕ} (replicate n 0) k 0 ≡ 0
zeros zero k = refl
zeros (suc n) zero = refl
zeros (suc n) (suc k) = zeros n k

behind : (words : List ℕ) (n k : ℕ) → get_or (words ++ replicate n 0) k 0 ≡ get_or words k 0
behind [] n k = zeros n k
behind (x ∷ words) n zero = refl
behind (x ∷ words) n (suc k) = behind words n k

pub get_or-zero_filled : (words : List ℕ) (size k : ℕ) → get_or (zero_filled words size) k 0 ≡ get_or words k 0
get_or-zero_filled words size k = behind words (size - length words) k

-- a list that is filled up is the list with the same words
pub zero_filled-same : (words : List ℕ) (size : ℕ) (other : List ℕ) → length words ≤ size → length other ≡ size → ((k : ℕ) → get_or words k 0 ≡ get_or other k 0) → zero_filled words size ≡ other
zero_filled-same words size other le is same =
    ext_get_or 0 (zero_filled words size) other (length-zero_filled words size le ∙ sym is) (λ k below. get_or-zero_filled words size k ∙ same k)

-- a write within the list
pub zero_filled-set : (words : List ℕ) (size place word : ℕ) → place < length words → zero_filled (set words place word) size ≡ set (zero_filled words size) place word
zero_filled-set words size place word lt = rw (length-set words place word) (sym (set-append_left words (replicate (size - length words) 0) place word lt))

reached_at : (words new : List ℕ) (size place word : ℕ) → length words ≤ place → place < size → length new ≡ place + 1
    → get_or new place 0 ≡ word → ((k : ℕ) → k < place → get_or new k 0 ≡ get_or words k 0)
    → (k : ℕ) → get_or new k 0 ≡ get_or (set (zero_filled words size) place word) k 0
reached_at words new size place word le lt long written kept k =
    let inside : place < length (zero_filled words size) = omega (arith, length-zero_filled words size (omega arith)) in
    elim (cases_eq k place) [
      | inl e ↦ rw e (written ∙ sym (get_or-set_same (zero_filled words size) place word 0 inside))
      | inr ne ↦ rw (get_or-set_other (zero_filled words size) place k word 0 ne, get_or-zero_filled words size k) (elim (cases_lt k place) [
        | inl below ↦ kept k below
        | inr above ↦ get_or_past new k 0 (omega arith) ∙ sym (get_or_past words k 0 (omega arith))
      ])
    ]

-- a write behind the list, which reaches up to it afterwards
pub zero_filled-reached : (words new : List ℕ) (size place word : ℕ) → length words ≤ place → place < size → length new ≡ place + 1
    → get_or new place 0 ≡ word → ((k : ℕ) → k < place → get_or new k 0 ≡ get_or words k 0)
    → zero_filled new size ≡ set (zero_filled words size) place word
zero_filled-reached words new size place word le lt long written kept =
    zero_filled-same new size (set (zero_filled words size) place word) (omega arith)
    (length-set (zero_filled words size) place word ∙ length-zero_filled words size (omega arith))
    (reached_at words new size place word le lt long written kept)

zeroed : List ℕ → ℕ → ℕ → List ℕ
zeroed w u n = take u w ++ replicate n 0 ++ drop (u + n) w

length-with_zeros : (w : List ℕ) (u n : ℕ) → u + n ≤ length w → length (zeroed w u n) ≡ length w
unfolding zeroed
length-with_zeros w u n le = search (rules, places)

zeroed_below : (w : List ℕ) (u n k : ℕ) → u + n ≤ length w → k < u → get_or (zeroed w u n) k 0 ≡ get_or w k 0
unfolding zeroed
zeroed_below w u n k le lt = search (rules, places)

zeroed_inside : (w : List ℕ) (u n k : ℕ) → u + n ≤ length w → u ≤ k → k < u + n → get_or (zeroed w u n) k 0 ≡ 0
unfolding zeroed
zeroed_inside w u n k le from lt = search (rules, places)

zeroed_above : (w : List ℕ) (u n k : ℕ) → u + n ≤ length w → u + n ≤ k → get_or (zeroed w u n) k 0 ≡ get_or w k 0
unfolding zeroed
zeroed_above w u n k le from = search (rules, places)

zeroed_at : (old new : List ℕ) (size u n : ℕ) → length old ≤ size → u + n ≤ size
    → ((k : ℕ) → (k < u) ⊎ (u + n ≤ k) → get_or new k 0 ≡ get_or old k 0)
    → ((k : ℕ) → u ≤ k → k < u + n → get_or new k 0 ≡ 0)
    → (k : ℕ) → get_or new k 0 ≡ get_or (zeroed (zero_filled old size) u n) k 0
zeroed_at old new size u n le fits kept cleared k =
    let within : u + n ≤ length (zero_filled old size) = omega (arith, length-zero_filled old size le) in
    elim (cases_lt k u) [
      | inl lt ↦ kept k (inl lt) ∙ sym (zeroed_below (zero_filled old size) u n k within lt ∙ get_or-zero_filled old size k)
      | inr from ↦ elim (cases_lt k (u + n)) [
        | inl lt ↦ cleared k from lt ∙ sym (zeroed_inside (zero_filled old size) u n k within from lt)
        | inr past ↦ kept k (inr past) ∙ sym (zeroed_above (zero_filled old size) u n k within past ∙ get_or-zero_filled old size k)
      ]
    ]

-- n words from a place on become 0
pub zero_filled-cleared : (old new : List ℕ) (size u n : ℕ) → length old ≤ size → u + n ≤ size → length new ≤ length old
    → ((k : ℕ) → (k < u) ⊎ (u + n ≤ k) → get_or new k 0 ≡ get_or old k 0)
    → ((k : ℕ) → u ≤ k → k < u + n → get_or new k 0 ≡ 0)
    → zero_filled new size ≡ take u (zero_filled old size) ++ replicate n 0 ++ drop (u + n) (zero_filled old size)
unfolding zeroed
zero_filled-cleared old new size u n le fits shorter kept cleared =
    zero_filled-same new size (zeroed (zero_filled old size) u n) (omega arith)
    (length-with_zeros (zero_filled old size) u n (omega (arith, length-zero_filled old size le)) ∙ length-zero_filled old size le)
    (zeroed_at old new size u n le fits kept cleared)
