-- Lists that lie one behind the other: a call on one keeps all others.
use Rattle.std.proofs.Common.{◌<◌, ◌≡◌, ◌≢◌, ◌⊎◌, ℕ, zero, suc, ◌+◌, ◌*◌, ◌^◌, ◌-◌, ◌≤◌, List, [], ◌∷◌, ◌++◌, length, take, drop, get_or, set, map, refl, ap, sym, ◌∙◌, arith, rules, inl, inr, length-append, length-set}
use Rattle.std.proofs.lemmas.Bool.{cases_eq, cases_lt}
use Rattle.std.proofs.lemmas.List.{ext_get_or, places, set-get_or, get_or-set_same, get_or-set_other, get_or_append_left, get_or_at}
use Rattle.std.proofs.Math.Nat.{mul-le-mul_left}
use Rattle.std.proofs.Math.Seq.{get_or-append_right}
use Rattle.gier_text.specs.declared.extent.Extent.{Extent}
use Rattle.gier_text.specs.Lists.{TableList, no_extent, nth_extent, list_at, list_in, segment, end_of, with_entry, cut_to, with_word, word_at, IsLaid}

pub length-segment : (words : List ℕ) (from n : ℕ) → from + n ≤ length words → length (segment words from n) ≡ n
length-segment words from n le = search (rules, places)

pub get_or-segment : (words : List ℕ) (from n k : ℕ) → from + n ≤ length words → k < n → get_or (segment words from n) k 0 ≡ get_or words (from + k) 0
get_or-segment words from n k le lt = search (rules, places)

pub segment_same : (old new : List ℕ) (from n : ℕ) → from + n ≤ length old → length new ≡ length old → ((k : ℕ) → k < n → get_or new (from + k) 0 ≡ get_or old (from + k) 0) → segment new from n ≡ segment old from n
segment_same old new from n le long same =
    ext_get_or 0 (segment new from n) (segment old from n) (length-segment new from n (omega arith) ∙ sym (length-segment old from n le))
    (λ k below. let lt : k < n = omega (arith, length-segment new from n (omega arith)) in
    get_or-segment new from n k (omega arith) lt ∙ same k lt ∙ sym (get_or-segment old from n k le lt))

segment_pushed_at : (old new : List ℕ) (from n : ℕ) (entry : List ℕ) → from + n + length entry ≤ length old → length new ≡ length old → ((k : ℕ) → k < n → get_or new (from + k) 0 ≡ get_or old (from + k) 0) → ((k : ℕ) → k < length entry → get_or new (from + n + k) 0 ≡ get_or entry k 0)
    → (k : ℕ) → k < n + length entry → get_or (segment new from (n + length entry)) k 0 ≡ get_or (segment old from n ++ entry) k 0
segment_pushed_at old new from n entry le long same here k lt =
    let long_front : length (segment old from n) ≡ n = length-segment old from n (omega arith) in
    get_or-segment new from (n + length entry) k (omega arith) lt ∙ elim (cases_lt k n) [
      | inl front ↦ let below : k < length (segment old from n) = omega arith in same k front ∙ sym (get_or_append_left (segment old from n) entry 0 k below ∙ get_or-segment old from n k (omega arith) front)
      | inr back ↦
          let place : from + k ≡ from + n + (k - n) = omega arith in
          let behind : k - length (segment old from n) ≡ k - n = omega arith in
          ap (λ (p : ℕ). get_or new p 0) place ∙ here (k - n) (omega arith) ∙ sym (get_or-append_right (segment old from n) entry k 0 (omega arith) ∙ ap (λ (p : ℕ). get_or entry p 0) behind)
    ]

pub segment_pushed : (old new : List ℕ) (from n : ℕ) (entry : List ℕ) → from + n + length entry ≤ length old → length new ≡ length old → ((k : ℕ) → k < n → get_or new (from + k) 0 ≡ get_or old (from + k) 0) → ((k : ℕ) → k < length entry → get_or new (from + n + k) 0 ≡ get_or entry k 0)
    → segment new from (n + length entry) ≡ segment old from n ++ entry
segment_pushed old new from n entry le long same here =
    let all : length (segment new from (n + length entry)) ≡ n + length entry = length-segment new from (n + length entry) (omega arith) in
    ext_get_or 0 (segment new from (n + length entry)) (segment old from n ++ entry)
    (omega (arith, length-append (segment old from n) entry, length-segment old from n (omega arith)))
    (λ k below. segment_pushed_at old new from n entry le long same here k (omega arith))

pub segment_set : (words : List ℕ) (from n p word : ℕ) → from + n ≤ length words → p < n → segment (set words (from + p) word) from n ≡ set (segment words from n) p word
segment_set words from n p word le lt =
    let all : length (segment (set words (from + p) word) from n) ≡ n = length-segment (set words (from + p) word) from n (omega (arith, length-set words (from + p) word)) in
    let old_all : length (segment words from n) ≡ n = length-segment words from n le in
    ext_get_or 0 (segment (set words (from + p) word) from n) (set (segment words from n) p word)
    (omega (arith, length-set (segment words from n) p word))
    (λ k below. let within : k < n = omega arith in
    get_or-segment (set words (from + p) word) from n k (omega (arith, length-set words (from + p) word)) within ∙ elim (cases_eq k p) [
      | inl e ↦ rw e (get_or-set_same words (from + p) word 0 (omega arith) ∙ sym (get_or-set_same (segment words from n) p word 0 (omega arith)))
      | inr ne ↦ get_or-set_other words (from + p) (from + k) word 0 (λ e. ne (omega arith)) ∙ sym (get_or-set_other (segment words from n) p k word 0 ne ∙ get_or-segment words from n k le within)
    ])

take_less : (l : List ℕ) (m n : ℕ) → m ≤ n → take m l ≡ take m (take n l)
take_less [] zero zero le = refl
take_less [] zero (suc n) le = refl
take_less [] (suc m) zero le = absurd (omega arith)
take_less [] (suc m) (suc n) le = refl
take_less (x ∷ l) zero zero le = refl
take_less (x ∷ l) zero (suc n) le = refl
take_less (x ∷ l) (suc m) zero le = absurd (omega arith)
take_less (x ∷ l) (suc m) (suc n) le = ap (λ (t : List ℕ). x ∷ t) (take_less l m n (omega arith))

pub segment_cut : (words : List ℕ) (from n m : ℕ) → m ≤ n → segment words from m ≡ take m (segment words from n)
segment_cut words from n m le = take_less (drop from words) m n le

map_same : {A B : Type 0} (f g : A → B) (xs : List A) (d : A) → ((j : ℕ) → j < length xs → g (get_or xs j d) ≡ f (get_or xs j d)) → map g xs ≡ map f xs
map_same f g [] d same = refl
map_same f g (y ∷ xs) d same = rw (same zero (omega arith), map_same f g xs d (λ j below. same (suc j) (omega arith))) refl

-- a map over a list of which one element changes, by a function that differs at no other
pub map_set : {A B : Type 0} (f g : A → B) (xs : List A) (i : ℕ) (x d : A) → i < length xs → ((j : ℕ) → j < length xs → j ≢ i → g (get_or xs j d) ≡ f (get_or xs j d)) → map g (set xs i x) ≡ set (map f xs) i (g x)
map_set f g [] i x d lt same = absurd (omega arith)
map_set f g (y ∷ xs) zero x d lt same = ap (λ l. g x ∷ l) (map_same f g xs d (λ j below. same (suc j) (omega arith) (λ e. omega arith)))
map_set f g (y ∷ xs) (suc i) x d lt same = rw (same zero (omega arith) (λ e. omega arith)) (ap (λ l. f y ∷ l) (map_set f g xs i x d (omega arith) (λ j below ne. same (suc j) (omega arith) (λ e. ne (omega arith)))))

pub list_at-map : (words : List ℕ) (extents : List Extent) (k : ℕ) → list_at (map (list_in words) extents) k ≡ list_in words (nth_extent extents k)
list_at-map words [] k = refl
list_at-map words (e ∷ extents) zero = refl
list_at-map words (e ∷ extents) (suc k) = list_at-map words extents k

apart_places : (extents : List Extent) (used j i : ℕ) → IsLaid extents used → j < length extents → i < length extents → j ≢ i → (end_of (nth_extent extents j) ≤ (nth_extent extents i).base) ⊎ (end_of (nth_extent extents i) ≤ (nth_extent extents j).base)
apart_places extents used j i laid jl il ne = elim (cases_lt j i) [
  | inl lt ↦ inl (laid.disjoint j i lt il)
  | inr le ↦ inr (laid.disjoint i j (omega arith) jl)
]

abbrev pub listed_as : Extent → List ℕ → TableList
listed_as e words = record { width = e.width; capacity = e.capacity; count = e.count; words = words }

-- a list keeps its words where only words of another one change
pub list_kept : (extents : List Extent) (used i j : ℕ) (old new : List ℕ) → IsLaid extents used → used ≤ length old → length new ≡ length old → i < length extents → j < length extents → j ≢ i
    → ((k : ℕ) → (k < (nth_extent extents i).base) ⊎ (end_of (nth_extent extents i) ≤ k) → get_or new k 0 ≡ get_or old k 0)
    → list_in new (nth_extent extents j) ≡ list_in old (nth_extent extents j)
list_kept extents used i j old new laid fits long il jl ne kept =
    let e = nth_extent extents j in
    let few : e.width * e.count ≤ e.width * e.capacity = mul-le-mul_left e.width (laid.room j jl) in
    let end : end_of e ≤ used = laid.below j jl in
    ap (λ (l : List ℕ). listed_as e l) (segment_same old new e.base (e.width * e.count) (omega arith) long
    (λ k lt. kept (e.base + k) (elim (apart_places extents used j i laid jl il ne) [
      | inl before ↦ inl (omega arith)
      | inr after ↦ inr (omega arith)
    ])))

-- the first words of an entry stand from a place on, and all other words are as before
pub record Copied (place n : ℕ) (entry old new : List ℕ) : Type 0 where
  pub size : length new ≡ length old
  pub written : (k : ℕ) → k < n → get_or new (place + k) 0 ≡ get_or entry k 0
  pub others : (k : ℕ) → (k < place) ⊎ (place + n ≤ k) → get_or new k 0 ≡ get_or old k 0

pub copied_none : (place : ℕ) (entry words : List ℕ) → Copied place 0 entry words words
copied_none place entry words = record { size = refl; written = λ k lt. absurd (omega arith); others = λ k out. refl }

pub copied_more : (place n : ℕ) (entry old new : List ℕ) (word : ℕ) → Copied place n entry old new → place + n < length new → word ≡ get_or entry n 0 → Copied place (n + 1) entry old (set new (place + n) word)
copied_more place n entry old new word h fits is = record {
  size = length-set new (place + n) word ∙ h.size;
  written = λ k lt. elim (cases_eq k n) [
    | inl e ↦ rw e (get_or-set_same new (place + n) word 0 fits ∙ is)
    | inr ne ↦ get_or-set_other new (place + n) (place + k) word 0 (λ e. ne (omega arith)) ∙ h.written k (omega arith)
  ];
  others = λ k out. get_or-set_other new (place + n) k word 0 (λ e. elim out [ inl lt ↦ omega arith | inr le ↦ omega arith ]) ∙ h.others k (elim out [ inl lt ↦ inl lt | inr le ↦ inr (omega arith) ]);
}

-- an extent with another count
abbrev pub counted : Extent → ℕ → Extent
counted e n = record e { count = n }

pub nth_counted : (extents : List Extent) (i j n : ℕ) → i < length extents → (nth_extent (set extents i (counted (nth_extent extents i) n)) j).base ≡ (nth_extent extents j).base
    × (end_of (nth_extent (set extents i (counted (nth_extent extents i) n)) j) ≡ end_of (nth_extent extents j))
    × ((nth_extent (set extents i (counted (nth_extent extents i) n)) j).capacity ≡ (nth_extent extents j).capacity)
nth_counted extents i j n lt = elim (cases_eq j i) [
  | inl e ↦ rw (e, get_or-set_same extents i (counted (nth_extent extents i) n) no_extent lt) (refl, refl, refl)
  | inr ne ↦ rw (get_or-set_other extents i j (counted (nth_extent extents i) n) no_extent ne) (refl, refl, refl)
]

pub laid_counted : (extents : List Extent) (used i n : ℕ) → IsLaid extents used → i < length extents → n ≤ (nth_extent extents i).capacity → IsLaid (set extents i (counted (nth_extent extents i) n)) used
laid_counted extents used i n laid lt le =
    let long : length (set extents i (counted (nth_extent extents i) n)) ≡ length extents = length-set extents i (counted (nth_extent extents i) n) in
    record {
      below = λ k kl. rw (nth_counted extents i k n lt).1 (laid.below k (omega arith));
      disjoint = λ j k jk kl. rw ((nth_counted extents i j n lt).1, (nth_counted extents i k n lt).0) (laid.disjoint j k jk (omega arith));
      room = λ k kl. elim (cases_eq k i) [
        | inl e ↦ rw (e, get_or-set_same extents i (counted (nth_extent extents i) n) no_extent lt) le
        | inr ne ↦ rw (get_or-set_other extents i k (counted (nth_extent extents i) n) no_extent ne) (laid.room k (omega arith))
      ];
      narrow = λ k kl. rw (nth_counted extents i k n lt).2 (laid.narrow k (omega arith));
    }

pub laid_none : IsLaid [] 0
laid_none = record { below = λ k kl. absurd (omega arith); disjoint = λ j k jk kl. absurd (omega arith); room = λ k kl. absurd (omega arith); narrow = λ k kl. absurd (omega arith) }

abbrev pub new_extent : ℕ → ℕ → ℕ → Extent
new_extent used width capacity = record { base = used; width = width; capacity = capacity; count = 0 }

nth_last : (extents : List Extent) (e : Extent) (k : ℕ) → k ≡ length extents → nth_extent (extents ++ e ∷ []) k ≡ e
nth_last extents e k is = get_or_at extents e [] no_extent k (sym is)

nth_before : (extents : List Extent) (e : Extent) (k : ℕ) → k < length extents → nth_extent (extents ++ e ∷ []) k ≡ nth_extent extents k
nth_before extents e k lt = get_or_append_left extents (e ∷ []) no_extent k lt

pub laid_opened : (extents : List Extent) (used width capacity : ℕ) → IsLaid extents used → capacity < 2 ^ 32 → IsLaid (extents ++ new_extent used width capacity ∷ []) (used + width * capacity)
laid_opened extents used width capacity laid small =
    let e = new_extent used width capacity in
    let long : length (extents ++ e ∷ []) ≡ length extents + 1 = omega (arith, length-append extents (e ∷ [])) in
    record {
      below = λ k kl. elim (cases_lt k (length extents)) [
        | inl lt ↦ rw (nth_before extents e k lt) (let le : end_of (nth_extent extents k) ≤ used = laid.below k lt in omega arith)
        | inr ge ↦ rw (nth_last extents e k (omega arith)) (omega arith)
      ];
      disjoint = λ j k jk kl. elim (cases_lt k (length extents)) [
        | inl lt ↦ rw (nth_before extents e k lt, nth_before extents e j (omega arith)) (laid.disjoint j k jk lt)
        | inr ge ↦ rw (nth_last extents e k (omega arith), nth_before extents e j (omega arith)) (laid.below j (omega arith))
      ];
      room = λ k kl. elim (cases_lt k (length extents)) [
        | inl lt ↦ rw (nth_before extents e k lt) (laid.room k lt)
        | inr ge ↦ rw (nth_last extents e k (omega arith)) (omega arith)
      ];
      narrow = λ k kl. elim (cases_lt k (length extents)) [
        | inl lt ↦ rw (nth_before extents e k lt) (laid.narrow k lt)
        | inr ge ↦ rw (nth_last extents e k (omega arith)) small
      ];
    }

-- one list gets another count and other words, and all others stay
pub lists_changed : (extents : List Extent) (used i n : ℕ) (old new : List ℕ) → IsLaid extents used → used ≤ length old → length new ≡ length old → i < length extents
    → ((k : ℕ) → (k < (nth_extent extents i).base) ⊎ (end_of (nth_extent extents i) ≤ k) → get_or new k 0 ≡ get_or old k 0)
    → map (list_in new) (set extents i (counted (nth_extent extents i) n)) ≡ set (map (list_in old) extents) i (list_in new (counted (nth_extent extents i) n))
lists_changed extents used i n old new laid fits long il kept =
    map_set (list_in old) (list_in new) extents i (counted (nth_extent extents i) n) no_extent il
    (λ j jl ne. list_kept extents used i j old new laid fits long il jl ne kept)

under : (width at part count : ℕ) → at < count → part < width → width * at + part < width * count
under width at part count al pl = let le : width * (at + 1) ≤ width * count = mul-le-mul_left width (omega arith) in omega arith

pub place_under : (extents : List Extent) (used i at part : ℕ) → IsLaid extents used → i < length extents → at < (nth_extent extents i).count → part < (nth_extent extents i).width → (nth_extent extents i).base + ((nth_extent extents i).width * at + part) < used
place_under extents used i at part laid il al pl =
    let e = nth_extent extents i in
    let end : end_of e ≤ used = laid.below i il in
    let lt : e.width * at + part < e.width * e.capacity = under e.width at part e.capacity (omega (arith, laid.room i il)) pl in
    omega arith

pub entry_under : (extents : List Extent) (used i : ℕ) → IsLaid extents used → i < length extents → (nth_extent extents i).count < (nth_extent extents i).capacity → (nth_extent extents i).base + (nth_extent extents i).width * (nth_extent extents i).count + (nth_extent extents i).width ≤ end_of (nth_extent extents i)
entry_under extents used i laid il room =
    let e = nth_extent extents i in
    let le : e.width * (e.count + 1) ≤ e.width * e.capacity = mul-le-mul_left e.width (omega arith) in
    omega arith

pub lists_pushed : (extents : List Extent) (used i : ℕ) (old new entry : List ℕ) → IsLaid extents used → used ≤ length old → i < length extents → (nth_extent extents i).count < (nth_extent extents i).capacity → length entry ≡ (nth_extent extents i).width
    → length new ≡ length old
    → ((k : ℕ) → k < length entry → get_or new ((nth_extent extents i).base + ((nth_extent extents i).width * (nth_extent extents i).count + 0) + k) 0 ≡ get_or entry k 0)
    → ((k : ℕ) → (k < (nth_extent extents i).base + ((nth_extent extents i).width * (nth_extent extents i).count + 0)) ⊎ ((nth_extent extents i).base + ((nth_extent extents i).width * (nth_extent extents i).count + 0) + length entry ≤ k) → get_or new k 0 ≡ get_or old k 0)
    → map (list_in new) (set extents i (counted (nth_extent extents i) ((nth_extent extents i).count + 1))) ≡ set (map (list_in old) extents) i (with_entry (list_at (map (list_in old) extents) i) entry)
lists_pushed extents used i old new entry laid fits il room wide long written others =
    let e = nth_extent extents i in
    let end : end_of e ≤ used = laid.below i il in
    let inside : e.base + e.width * e.count + e.width ≤ end_of e = entry_under extents used i laid il room in
    let total : e.width * (e.count + 1) ≡ e.width * e.count + length entry = omega arith in
    let words : segment new e.base (e.width * (e.count + 1)) ≡ segment old e.base (e.width * e.count) ++ entry =
    rw total (segment_pushed old new e.base (e.width * e.count) entry (omega arith) long
    (λ k lt. others (e.base + k) (inl (omega arith)))
    (λ k lt. let place : e.base + e.width * e.count + k ≡ e.base + (e.width * e.count + 0) + k = omega arith in rw place (written k lt))) in
    lists_changed extents used i (e.count + 1) old new laid fits long il (λ k out. others k (elim out [ inl before ↦ inl (omega arith) | inr after ↦ inr (omega arith) ]))
    ∙ ap (λ (l : TableList). set (map (list_in old) extents) i l) (ap (λ (l : List ℕ). listed_as (counted e (e.count + 1)) l) words ∙ ap (λ (l : TableList). with_entry l entry) (sym (list_at-map old extents i)))

pub lists_cut : (extents : List Extent) (used i n : ℕ) (words : List ℕ) → IsLaid extents used → used ≤ length words → i < length extents → n ≤ (nth_extent extents i).count
    → map (list_in words) (set extents i (counted (nth_extent extents i) n)) ≡ set (map (list_in words) extents) i (cut_to (list_at (map (list_in words) extents) i) n)
lists_cut extents used i n words laid fits il le =
    let e = nth_extent extents i in
    lists_changed extents used i n words words laid fits refl il (λ k out. refl)
    ∙ ap (λ (l : TableList). set (map (list_in words) extents) i l) (ap (λ (l : List ℕ). listed_as (counted e n) l) (segment_cut words e.base (e.width * e.count) (e.width * n) (mul-le-mul_left e.width le)) ∙ ap (λ (l : TableList). cut_to l n) (sym (list_at-map words extents i)))

pub lists_word : (extents : List Extent) (used i at part word : ℕ) (words : List ℕ) → IsLaid extents used → used ≤ length words → i < length extents → at < (nth_extent extents i).count → part < (nth_extent extents i).width
    → map (list_in (set words ((nth_extent extents i).base + ((nth_extent extents i).width * at + part)) word)) extents ≡ set (map (list_in words) extents) i (with_word (list_at (map (list_in words) extents) i) at part word)
lists_word extents used i at part word words laid fits il al pl =
    let e = nth_extent extents i in
    let place = e.base + (e.width * at + part) in
    let new = set words place word in
    let end : end_of e ≤ used = laid.below i il in
    let few : e.width * e.count ≤ e.width * e.capacity = mul-le-mul_left e.width (laid.room i il) in
    let lt : e.width * at + part < e.width * e.count = under e.width at part e.count al pl in
    let same : set extents i (counted e e.count) ≡ extents = set-get_or extents i no_extent in
    ap (λ (l : List Extent). map (list_in new) l) (sym same)
    ∙ lists_changed extents used i e.count words new laid fits (length-set words place word) il (λ k out. get_or-set_other words place k word 0 (λ is. elim out [ inl before ↦ omega arith | inr after ↦ omega arith ]))
    ∙ ap (λ (l : TableList). set (map (list_in words) extents) i l) (ap (λ (l : List ℕ). listed_as e l) (segment_set words e.base (e.width * e.count) (e.width * at + part) word (omega arith) lt) ∙ ap (λ (l : TableList). with_word l at part word) (sym (list_at-map words extents i)))

pub word_there : (extents : List Extent) (used i at part : ℕ) (words : List ℕ) → IsLaid extents used → used ≤ length words → i < length extents → at < (nth_extent extents i).count → part < (nth_extent extents i).width
    → get_or words ((nth_extent extents i).base + ((nth_extent extents i).width * at + part)) 0 ≡ word_at (list_at (map (list_in words) extents) i) at part
word_there extents used i at part words laid fits il al pl =
    let e = nth_extent extents i in
    let end : end_of e ≤ used = laid.below i il in
    let few : e.width * e.count ≤ e.width * e.capacity = mul-le-mul_left e.width (laid.room i il) in
    let lt : e.width * at + part < e.width * e.count = under e.width at part e.count al pl in
    sym (get_or-segment words e.base (e.width * e.count) (e.width * at + part) (omega arith) lt)
    ∙ ap (λ (l : TableList). word_at l at part) (sym (list_at-map words extents i))

pub lists_opened : (extents : List Extent) (words : List ℕ) (used width capacity : ℕ) → map (list_in words) (extents ++ new_extent used width capacity ∷ []) ≡ map (list_in words) extents ++ record { width = width; capacity = capacity; count = 0; words = [] } ∷ []
lists_opened [] words used width capacity = let none : width * 0 ≡ 0 = omega arith in rw none refl
lists_opened (e ∷ extents) words used width capacity = ap (λ (l : List TableList). list_in words e ∷ l) (lists_opened extents words used width capacity)
