-- What a change of the list of labels does to the word of each of them.
use Rattle.std.proofs.Common.{◌≡◌, ◌≢◌, ◌<◌, ◌≤◌, ◌+◌, ◌*◌, ◌-◌, ◌∙◌, ℕ, [], ◌∷◌, Bool, true, false, arith, ap, refl}
use Rattle.std.proofs.Common.{length, inl, inr, get_or}
use Rattle.std.specs.Prelude.{nat_lt, if◌then◌else◌}
use Rattle.std.proofs.lemmas.Bool.{cases_lt, cases_eq}
use Rattle.std.proofs.lemmas.Bool.Decides.{nat_tests}
use Rattle.std.proofs.lemmas.List.{get_or-set_same, get_or-set_other, get_or_append_left, get_or-append_right, get_or_past, length-map}
use Rattle.gier_text.specs.declared.tables.Tables.{Tables}
use Rattle.gier_text.specs.TablesModel.{TablesModel, tables_model, with_at}
use Rattle.gier_text.specs.Lists.{TableList, list_at, list_in, with_entry, with_word, word_at}
use Rattle.gier_text.proofs.ListExtents.{list_at-map}
use Rattle.gier_text.proofs.OutboxSymbols.{listed_words}
use Rattle.gier_labels.specs.Labels.{HasLabels, part_of, word_of}
use Rattle.gier_tree.specs.Complete.{place_of}
use Rattle.gier_labels.proofs.Lists.{changed}

-- the word of a label in a list
abbrev word_in : TableList → ℕ → ℕ
word_in list number = if nat_lt (place_of number) list.count then word_at list (place_of number) (part_of number) else 0

-- the list holds as many words as its entries need
pub long : (room : ℕ) (t : Tables) → HasLabels room (tables_model t)
    → length (list_at (tables_model t).lists 0).words ≡ 2 * (list_at (tables_model t).lists 0).count
long room t h =
    let il : 0 < length t.lists.items = omega (arith, h.lists, length-map t.lists.items (list_in t.words.words)) in
    let there = list_at-map t.words.words t.lists.items 0 in
    let words : length (list_at (tables_model t).lists 0).words ≡ (list_at (tables_model t).lists 0).width * (list_at (tables_model t).lists 0).count = rw there
    (listed_words t.lists.items t.used 0 t.words.words t.laid (omega (arith, t.sized, t.fits)) il) in
    words ∙ ap (λ w. w * (list_at (tables_model t).lists 0).count) h.width

part_small : (b : Bool) → (if b then 0 else 1) < 2
part_small true = omega arith
part_small false = omega arith

two_zeros : (k : ℕ) → get_or {A = ℕ} (0 ∷ 0 ∷ []) k 0 ≡ 0
two_zeros k = elim (cases_lt k 2) [
  | inl lt ↦ elim (cases_eq k 0) [ inl e ↦ rw e refl | inr ne ↦ let one : k ≡ 1 = omega arith in rw one refl ]
  | inr le ↦ get_or_past (0 ∷ 0 ∷ []) k 0 le
]

-- an entry more, of zeros
zeros_in : (list : TableList) (number : ℕ) → list.width ≡ 2 → length list.words ≡ 2 * list.count
    → word_in (with_entry list (0 ∷ 0 ∷ [])) number ≡ word_in list number
zeros_in list number wide all =
    let p = place_of number in
    let q = part_of number in
    let small : q < 2 = part_small (nat_lt number 8388608) in
    elim (cases_lt p list.count) [
      | inl lt ↦
          let old : nat_lt p list.count ≡ true = grind (arith, nat_tests) in
          let new : nat_lt p (list.count + 1) ≡ true = grind (arith, nat_tests) in
          rw (old, new, wide) (get_or_append_left list.words (0 ∷ 0 ∷ []) 0 (2 * p + q) (omega (arith, all, small, lt)))
      | inr le ↦
          let old : nat_lt p list.count ≡ false = grind (arith, nat_tests) in
          rw old (elim (cases_eq p list.count) [
            | inl e ↦
                let new : nat_lt p (list.count + 1) ≡ true = grind (arith, nat_tests) in
                rw (new, wide) (get_or-append_right list.words (0 ∷ 0 ∷ []) (2 * list.count) (2 * p + q) 0 all (omega (arith, e))
                ∙ two_zeros (2 * p + q - 2 * list.count))
            | inr ne ↦ let new : nat_lt p (list.count + 1) ≡ false = grind (arith, nat_tests) in rw new refl
          ])
    ]

-- another word in an entry
set_in : (list : TableList) (number word : ℕ) → list.width ≡ 2 → length list.words ≡ 2 * list.count → place_of number < list.count
    → word_in (with_word list (place_of number) (part_of number) word) number ≡ word
set_in list number word wide all lt =
    let small : part_of number < 2 = part_small (nat_lt number 8388608) in
    let there : nat_lt (place_of number) list.count ≡ true = grind (arith, nat_tests) in
    rw there (get_or-set_same list.words (list.width * place_of number + part_of number) word 0 (rw wide (omega (arith, all, small, lt))))

low : (number : ℕ) → number < 8388608 → nat_lt number 8388608 ≡ true
low number lt = grind (arith, nat_tests)

high : (number : ℕ) → 8388608 ≤ number → nat_lt number 8388608 ≡ false
high number le = grind (arith, nat_tests)

-- two labels have different places or parts
apart : (label number : ℕ) → label ≢ number → 2 * place_of label + part_of label ≢ 2 * place_of number + part_of number
apart label number ne = λ e. ne (elim (cases_lt label 8388608) [
  | inl a ↦ elim (cases_lt number 8388608) [
    | inl b ↦ let h = rw (low label a, low number b) at e in omega (arith, h)
    | inr b ↦ let h = rw (low label a, high number b) at e in omega (arith, h)
  ]
  | inr a ↦ elim (cases_lt number 8388608) [
    | inl b ↦ let h = rw (high label a, low number b) at e in omega (arith, h)
    | inr b ↦ let h = rw (high label a, high number b) at e in omega (arith, h)
  ]
])

other_in : (list : TableList) (label number word : ℕ) → list.width ≡ 2 → label ≢ number
    → word_in (with_word list (place_of number) (part_of number) word) label ≡ word_in list label
other_in list label number word wide ne =
    let own = list.width * place_of number + part_of number in
    let at = list.width * place_of label + part_of label in
    ap (λ (w : ℕ). if nat_lt (place_of label) list.count then w else 0) (get_or-set_other list.words own at word 0 (rw wide (apart label number ne)))

word_as : (t u : TablesModel) (new : TableList) (number : ℕ) → 1 ≤ length t.lists → u ≡ with_at t 0 new → word_of u number ≡ word_in new number
word_as t u new number some same = ap (λ (l : TableList). word_in l number) (changed t u new some same)

pub words_pushed : (room : ℕ) (t : Tables) (u : TablesModel) → HasLabels room (tables_model t)
    → u ≡ with_at (tables_model t) 0 (with_entry (list_at (tables_model t).lists 0) (0 ∷ 0 ∷ [])) → (number : ℕ) → word_of u number ≡ word_of (tables_model t) number
words_pushed room t u h same number =
    let list = list_at (tables_model t).lists 0 in
    word_as (tables_model t) u (with_entry list (0 ∷ 0 ∷ [])) number h.lists same ∙ zeros_in list number h.width (long room t h)

pub word_set : (room : ℕ) (t : Tables) (u : TablesModel) (number word : ℕ) → HasLabels room (tables_model t)
    → place_of number < (list_at (tables_model t).lists 0).count
    → u ≡ with_at (tables_model t) 0 (with_word (list_at (tables_model t).lists 0) (place_of number) (part_of number) word) → word_of u number ≡ word
word_set room t u number word h there same =
    let list = list_at (tables_model t).lists 0 in
    word_as (tables_model t) u (with_word list (place_of number) (part_of number) word) number h.lists same
    ∙ set_in list number word h.width (long room t h) there

pub words_set : (room : ℕ) (t : Tables) (u : TablesModel) (number word : ℕ) → HasLabels room (tables_model t)
    → u ≡ with_at (tables_model t) 0 (with_word (list_at (tables_model t).lists 0) (place_of number) (part_of number) word) → (label : ℕ) → label ≢ number
    → word_of u label ≡ word_of (tables_model t) label
words_set room t u number word h same label ne =
    let list = list_at (tables_model t).lists 0 in
    word_as (tables_model t) u (with_word list (place_of number) (part_of number) word) label h.lists same
    ∙ other_in list label number word h.width ne
