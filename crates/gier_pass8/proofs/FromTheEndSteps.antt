-- One symbol more, taken from the end, keeps a text settled.
use Rattle.std.proofs.Common.{◌≡◌, ◌≤◌, ◌<◌, ◌⊎◌, ◌∷◌, ◌++◌, ◌+◌, ◌*◌, ◌-◌, ◌/◌, ◌%◌, ◌∙◌, ℕ, Bool, true, false, List, [], Option, None, Some}
use Rattle.std.proofs.Common.{length, reverse, append-nil, refl, sym, ap, arith, inl, inr}
use Rattle.std.specs.Prelude.{◌||◌, not, nat_eq, nat_le, nat_lt, if◌then◌else◌}
use Rattle.std.proofs.lemmas.Bool.{cases_eq, cases_Bool}
use Rattle.std.proofs.lemmas.Bool.Decides.{nat_tests}
use Rattle.std.proofs.lemmas.List.{reverse-append}
use Rattle.gier_symbol.specs.declared.symbol.Symbol.{Symbol}
use Rattle.gier_symbol.specs.declared.tag.Tag.TheVariants.{Word, LabelPlace, LabelOrder, LabelWord, OpenRoom, Need, ObjectWords}
use Rattle.gier_symbol.specs.ByTag.{sym as symbol}
use Rattle.gier_symbol.specs.Texts.{is_tag_of, stands_in}
use Rattle.gier_text.specs.TablesModel.{TablesModel}
use Rattle.gier_text.specs.Outbox.{if_any}
use Rattle.gier_tree.specs.Complete.{is_place, is_placed}
use Rattle.gier_labels.proofs.Pieces.{by_kind}
use Rattle.gier_tree.specs.Object.{Piece, APlace, AUse, AWordUse, ARoom, ANeed, ACount, AWord, AnOrder, piece_of, head_of, address_in}
use Rattle.gier_tree.specs.Object.{words_of, address_at, address_of, need_behind, is_use, is_used, known_order, kept_if}
use Rattle.gier_pass8.specs.declared.words.Label.{Label}
use Rattle.gier_pass8.specs.declared.words.Label.TheVariants.{New, Used, At}
use Rattle.gier_pass8.specs.Words.{sum_of, number_in, with_address}
use Rattle.gier_pass8.specs.Steps.{known, mark_with, order_with, word_with, last_need, text8_of, place_before}
use Rattle.gier_pass8.specs.Knowledge.{Knows, with_known, with_label_used, known_behind, needs_of, with_need, without_need, needs_behind}
use Rattle.gier_tree.specs.Words.{words_in}
use Rattle.gier_tree.specs.Complete.{needs_at, open_needs, IsOrderNumber, Suits}
use Rattle.gier_pass8.specs.FromTheEnd.{label_state, text8_by, text8_from, HasNeeds, IsWrittenFrom, WritesFromTheEnd}
use Rattle.gier_pass8.proofs.Needs.{same_self, differs, small_sum, small_alone, bound, filled_is, needs_stay, needs_more, needs_less, need_is, last_by}

-- what a step tells of the tables, the place and the symbol that it gives
pub record IsTaken (room : ℕ) (s : Symbol) (place next : ℕ) (t u : TablesModel) (o : Option Symbol) : Type 0 where
  pub labels : Knows room u (known_behind t place s)
  pub needs : needs_of u ≡ needs_behind room s (needs_of t)
  pub moved : next ≡ place_before place s
  pub symbol : o ≡ text8_of t s

-- what is known of a label behind a piece
abbrev state_by : Piece → (place : ℕ) → (later : List Symbol) → ℕ → Label
state_by piece place later label =
    if is_place label piece || is_placed label later then At (address_at piece label place (address_of later label (place + words_of piece)))
    else (if is_use label piece || is_used label later then Used else New)

abbrev NextTo : (room words : ℕ) → Piece → Symbol → (later : List Symbol) → (place : ℕ) → TablesModel → (written : List Symbol) → Type 0
NextTo room words piece s later place u written =
    (place + (words_of piece + words_in later) ≡ words) × Knows room u (state_by piece place later) × HasNeeds u (needs_at piece (open_needs later))
    × (reverse written ≡ text8_by piece place s later (text8_from (place + words_of piece) later))

-- what is given for a symbol with this tag
abbrev symbol_by : (tag : ℕ) → TablesModel → Symbol → Option Symbol
symbol_by tag t s =
    if is_tag_of ObjectWords tag then None
    else (if is_tag_of Need tag then None
    else (if is_tag_of LabelPlace tag then mark_with (known t s.value) s
    else (if is_tag_of OpenRoom tag then Some (with_address s (sum_of (number_in s.value) (last_need t)))
    else (if not (stands_in 8 tag) then None
    else (if is_tag_of LabelOrder tag then Some (order_with (known t (number_in s.value)) s)
    else (if is_tag_of LabelWord tag then Some (word_with (known t s.value) s)
    else Some s))))))

given : (t : TablesModel) (s : Symbol) (o : Option Symbol) (tag : ℕ) → o ≡ text8_of t s → s.tag ≡ tag → o ≡ symbol_by tag t s
given t s o tag is e = is ∙ ap (λ (k : ℕ). symbol_by k t s) e

-- the symbol that was given stands before what was written
behind_any : (written : List Symbol) (o : Option Symbol) → reverse (written ++ if_any o) ≡ if_any o ++ reverse written
behind_any written None = ap reverse (append-nil written)
behind_any written (Some s) = reverse-append written (s ∷ [])

-- what holds where one symbol is taken, if it is this piece
abbrev Branch : (room : ℕ) → (text : List Symbol) → Symbol → (later : List Symbol) → (next : ℕ) → TablesModel → (written : List Symbol)
    → (o : Option Symbol) → Piece → Type 0
Branch room text s later next u written o piece =
    Suits room text s.value piece later → words_of piece + words_in later ≤ words_in text
    → NextTo room (words_in text) piece s later next u (written ++ if_any o)

-- Places: all but marks and needs have one word

one_less : (place words all : ℕ) → place + words ≡ all → 1 + words ≤ all → (place - 1) + (1 + words) ≡ all
one_less place words all is le = omega (arith, is, le)

back_again : (place words all : ℕ) → place + words ≡ all → 1 + words ≤ all → (place - 1) + 1 ≡ place
back_again place words all is le = omega (arith, is, le)

-- A symbol that isn't a label leaves what is known of all of them

labels_stay : (room words place next more : ℕ) (later : List Symbol) (t u : TablesModel) (written : List Symbol)
    → IsWrittenFrom room words place later t written → next + more ≡ place → Knows room u (λ label. known t label)
    → Knows room u (λ label. if is_placed label later then At (address_of later label (next + more)) else (if is_used label later then Used else New))
labels_stay room words place next more later t u written h is knows = λ label small. rw is (knows label small ∙ h.labels label small)

-- Marks

marked : (used : Bool) (s : Symbol) (rest : List Symbol) → if_any (mark_with (if used then Used else New) s) ++ rest ≡ kept_if used s rest
marked true s rest = refl
marked false s rest = refl

mark_known : (room place next : ℕ) (number : ℕ) (later : List Symbol) (t u : TablesModel) → next ≡ place
    → Knows room t (label_state place later) → Knows room u (λ label. with_known number (At place) label (known t label))
    → Knows room u (state_by (APlace number) next later)
mark_known room place next number later t u is old knows = λ label small. elim (cases_eq label number) [
  | inl e ↦
      let here : known u number ≡ At place = rw (e, same_self number) at (knows label small) in
      rw (e, same_self number, is) here
  | inr ne ↦
      let test : nat_eq number label ≡ false = differs number label (λ (e : number ≡ label). ne (sym e)) in
      let none : next + 0 ≡ place = omega (arith, is) in
      let same : known u label ≡ known t label = rw (differs label number ne) at (knows label small) in
      rw (test, none) (same ∙ old label small)
]

branch_place : (room : ℕ) (text : List Symbol) (s : Symbol) (later : List Symbol) (place next : ℕ) (t u : TablesModel) (written : List Symbol)
    (o : Option Symbol) → IsWrittenFrom room (words_in text) place later t written → IsTaken room s place next t u o → s.tag ≡ 121
    → Branch room text s later next u written o (APlace s.value)
branch_place room text s later place next t u written o h taken e suits le =
    let is : next ≡ place = rw e at taken.moved in
    let gives : o ≡ mark_with (known t s.value) s = given t s o 121 taken.symbol e in
    let used : known t s.value ≡ (if is_used s.value later then Used else New) = rw (suits.1) at (h.labels s.value suits.0) in
    let needs : needs_of u ≡ needs_of t = rw e at taken.needs in
    let whole : place + words_in later ≡ words_in text = h.at suits.2 in
    let same : place ≡ next + 0 = omega (arith, is) in (
      omega (arith, is, whole),
      mark_known room place next s.value later t u is h.labels (rw e at taken.labels),
      needs_stay t u (open_needs later) needs h.needs,
      behind_any written o ∙ rw (gives, used, h.text) (marked (is_used s.value later) s (text8_from place later))
          ∙ ap (λ (p : ℕ). kept_if (is_used s.value later) s (text8_from p later)) same,
    )

-- Uses of labels

used_known : (room place next number : ℕ) (later : List Symbol) (t u : TablesModel) (state : Label)
    → next + 1 ≡ place → state ≡ label_state place later number → Knows room t (label_state place later)
    → Knows room u (λ label. with_label_used state number label (known t label))
    → Knows room u (λ label. if is_placed label later then At (address_of later label (next + 1))
    else (if nat_eq number label || is_used label later then Used else New))
used_known room place next number later t u state is all old knows = λ label small. elim (cases_eq label number) [
  | inl e ↦ rw (e, same_self number, is) (elim (cases_Bool (is_placed number later)) [
    | inl there ↦
        let state_is : state ≡ At (address_of later number place) = rw there at all in
        let kept_one : known u label ≡ known t label = rw state_is at (knows label small) in
        rw there (rw (e, there) at (kept_one ∙ old label small))
    | inr ahead ↦ rw ahead (elim (cases_Bool (is_used number later)) [
      | inl used ↦ let state_is : state ≡ Used = rw (ahead, used) at all in rw (state_is, e, same_self number) at (knows label small)
      | inr none ↦ let state_is : state ≡ New = rw (ahead, none) at all in rw (state_is, e, same_self number) at (knows label small)
    ])
  ])
  | inr ne ↦
      let test : nat_eq number label ≡ false = differs number label (λ (e : number ≡ label). ne (sym e)) in
      let same : known u label ≡ known t label = elim (cases_Bool (is_placed number later)) [
        | inl there ↦ let state_is : state ≡ At (address_of later number place) = rw there at all in rw state_is at (knows label small)
        | inr ahead ↦ elim (cases_Bool (is_used number later)) [
          | inl used ↦ let state_is : state ≡ Used = rw (ahead, used) at all in rw (state_is, differs label number ne) at (knows label small)
          | inr none ↦ let state_is : state ≡ New = rw (ahead, none) at all in rw (state_is, differs label number ne) at (knows label small)
        ]
      ] in
      rw (test, is) (same ∙ old label small)
]

use_settles : (place : ℕ) (s : Symbol) (later : List Symbol) (number : ℕ) (state : Label) → state ≡ label_state place later number
    → address_of later number place < 16777216 → IsOrderNumber (s.value / 16777216 / 256)
    → order_with state s ≡ (if is_placed number later then known_order (s.value / 16777216) (address_of later number place) s.line else s)
use_settles place s later number state is small order = elim (cases_Bool (is_placed number later)) [
  | inl there ↦
      let state_is : state ≡ At (address_of later number place) = rw there at is in
      rw (there, state_is, small_alone (address_of later number place) small) (filled_is s (address_of later number place) order)
  | inr ahead ↦ elim (cases_Bool (is_used number later)) [
    | inl used ↦ let state_is : state ≡ Used = rw (ahead, used) at is in rw (ahead, state_is) refl
    | inr none ↦ let state_is : state ≡ New = rw (ahead, none) at is in rw (ahead, state_is) refl
  ]
]

word_settles : (place : ℕ) (s : Symbol) (later : List Symbol) (number : ℕ) (state : Label) → state ≡ label_state place later number
    → address_of later number place < 16777216
    → word_with state s ≡ (if is_placed number later then symbol Word (address_of later number place) s.line else s)
word_settles place s later number state is small = elim (cases_Bool (is_placed number later)) [
  | inl there ↦
      let state_is : state ≡ At (address_of later number place) = rw there at is in
      rw (there, state_is, small_alone (address_of later number place) small) refl
  | inr ahead ↦ elim (cases_Bool (is_used number later)) [
    | inl used ↦ let state_is : state ≡ Used = rw (ahead, used) at is in rw (ahead, state_is) refl
    | inr none ↦ let state_is : state ≡ New = rw (ahead, none) at is in rw (ahead, state_is) refl
  ]
]

-- one symbol was given, and stands before those that were written
one_given : (place next : ℕ) (later written : List Symbol) (o : Option Symbol) (s : Symbol) → reverse written ≡ text8_from place later
    → next + 1 ≡ place → o ≡ Some s → reverse (written ++ if_any o) ≡ s ∷ text8_from (next + 1) later
one_given place next later written o s text is gives =
    behind_any written o ∙ rw (gives, is) (ap (λ (l : List Symbol). s ∷ l) text)

branch_use : (room : ℕ) (text : List Symbol) (s : Symbol) (later : List Symbol) (place next : ℕ) (t u : TablesModel) (written : List Symbol)
    (o : Option Symbol) → words_in text < 16777216 → IsWrittenFrom room (words_in text) place later t written
    → IsTaken room s place next t u o → s.tag ≡ 122 → Branch room text s later next u written o (AUse (head_of s.value) (address_in s.value))
branch_use room text s later place next t u written o few h taken e suits le =
    let number = s.value % 16777216 in
    let moved : next ≡ place - 1 = rw e at taken.moved in
    let whole : place + words_in later ≡ words_in text = h.at suits.2 in
    let is : next + 1 ≡ place = omega (arith, moved, whole, le) in
    let gives : o ≡ Some (order_with (known t number) s) = given t s o 122 taken.symbol e in
    let state : known t number ≡ label_state place later number = h.labels number suits.0.fits in
    let small : address_of later number place < 16777216 = omega (arith, bound later number place, whole, few) in
    let needs : needs_of u ≡ needs_of t = rw e at taken.needs in (
      omega (arith, is, whole),
      used_known room place next number later t u (known t number) is state h.labels (rw e at taken.labels),
      needs_stay t u (open_needs later) needs h.needs,
      one_given place next later written o (order_with (known t number) s) h.text is gives
          ∙ rw is (ap (λ (x : Symbol). x ∷ text8_from place later) (use_settles place s later number (known t number) state small suits.1)),
    )

branch_word_use : (room : ℕ) (text : List Symbol) (s : Symbol) (later : List Symbol) (place next : ℕ) (t u : TablesModel) (written : List Symbol)
    (o : Option Symbol) → words_in text < 16777216 → IsWrittenFrom room (words_in text) place later t written
    → IsTaken room s place next t u o → s.tag ≡ 123 → Branch room text s later next u written o (AWordUse s.value)
branch_word_use room text s later place next t u written o few h taken e suits le =
    let number = s.value in
    let moved : next ≡ place - 1 = rw e at taken.moved in
    let whole : place + words_in later ≡ words_in text = h.at suits.1 in
    let is : next + 1 ≡ place = omega (arith, moved, whole, le) in
    let gives : o ≡ Some (word_with (known t number) s) = given t s o 123 taken.symbol e in
    let state : known t number ≡ label_state place later number = h.labels number suits.0.fits in
    let small : address_of later number place < 16777216 = omega (arith, bound later number place, whole, few) in
    let needs : needs_of u ≡ needs_of t = rw e at taken.needs in (
      omega (arith, is, whole),
      used_known room place next number later t u (known t number) is state h.labels (rw e at taken.labels),
      needs_stay t u (open_needs later) needs h.needs,
      one_given place next later written o (word_with (known t number) s) h.text is gives
          ∙ rw is (ap (λ (x : Symbol). x ∷ text8_from place later) (word_settles place s later number (known t number) state small)),
    )

-- Rooms, needs, the number of words

branch_room : (room : ℕ) (text : List Symbol) (s : Symbol) (later : List Symbol) (place next : ℕ) (t u : TablesModel) (written : List Symbol)
    (o : Option Symbol) → (needs_of t).width ≡ 1 → IsWrittenFrom room (words_in text) place later t written
    → IsTaken room s place next t u o → s.tag ≡ 124 → Branch room text s later next u written o (ARoom (head_of s.value) (address_in s.value))
branch_room room text s later place next t u written o wide h taken e suits le =
    let words = s.value % 16777216 in
    let moved : next ≡ place - 1 = rw e at taken.moved in
    let whole : place + words_in later ≡ words_in text = h.at suits.2 in
    let is : next + 1 ≡ place = omega (arith, moved, whole, le) in
    let gives : o ≡ Some (with_address s (sum_of words (last_need t))) = given t s o 124 taken.symbol e in
    let need : last_need t ≡ need_behind later 0 = last_by t (open_needs later) wide h.needs ∙ sym (need_is later 0) in
    let sum : sum_of words (last_need t) ≡ words + need_behind later 0 =
    ap (λ (n : ℕ). sum_of words n) need ∙ small_sum words (need_behind later 0) suits.0 in
    let needs : needs_of u ≡ without_need (needs_of t) = rw e at taken.needs in (
      omega (arith, is, whole),
      labels_stay room (words_in text) place next 1 later t u written h is (rw e at taken.labels),
      needs_less t u (open_needs later) wide needs h.needs,
      one_given place next later written o (with_address s (sum_of words (last_need t))) h.text is gives
          ∙ ap (λ (x : Symbol). x ∷ text8_from (next + 1) later)
          (ap (λ (n : ℕ). with_address s n) sum ∙ filled_is s (words + need_behind later 0) suits.1),
    )

-- nothing was given
none_given : (place next : ℕ) (later written : List Symbol) (o : Option Symbol) → reverse written ≡ text8_from place later → next + 0 ≡ place
    → o ≡ None → reverse (written ++ if_any o) ≡ text8_from (next + 0) later
none_given place next later written o text is gives = behind_any written o ∙ rw (gives, is) text

branch_need : (room : ℕ) (text : List Symbol) (s : Symbol) (later : List Symbol) (place next : ℕ) (t u : TablesModel) (written : List Symbol)
    (o : Option Symbol) → IsWrittenFrom room (words_in text) place later t written → IsTaken room s place next t u o → s.tag ≡ 125
    → Branch room text s later next u written o (ANeed s.value)
branch_need room text s later place next t u written o h taken e suits le =
    let stays : next ≡ place = rw e at taken.moved in
    let is : next + 0 ≡ place = omega (arith, stays) in
    let whole : place + words_in later ≡ words_in text = h.at suits.1 in
    let gives : o ≡ None = given t s o 125 taken.symbol e in
    let needs : needs_of u ≡ with_need room s.value (needs_of t) = rw e at taken.needs in (
      omega (arith, is, whole),
      labels_stay room (words_in text) place next 0 later t u written h is (rw e at taken.labels),
      needs_more room s.value t u (open_needs later) suits.0 needs h.needs,
      none_given place next later written o h.text is gives,
    )

-- before the last symbol nothing is known yet
nothing_placed : (later : List Symbol) (label place : ℕ) → later ≡ [] → label_state place later label ≡ New
nothing_placed later label place none = rw none refl

no_words : (later : List Symbol) → later ≡ [] → words_in later ≡ 0
no_words later none = rw none refl

nothing_settled : (later : List Symbol) (place next : ℕ) → later ≡ [] → text8_from place later ≡ text8_from next later
nothing_settled later place next none = rw none refl

branch_count : (room : ℕ) (text : List Symbol) (s : Symbol) (later : List Symbol) (place next : ℕ) (t u : TablesModel) (written : List Symbol)
    (o : Option Symbol) → words_in text < 16777216 → IsWrittenFrom room (words_in text) place later t written
    → IsTaken room s place next t u o → s.tag ≡ 126 → Branch room text s later next u written o ACount
branch_count room text s later place next t u written o few h taken e suits le =
    let told : next ≡ sum_of s.value 0 = rw e at taken.moved in
    let all : next ≡ words_in text = told ∙ ap (λ (n : ℕ). sum_of n 0) suits.1 ∙ small_alone (words_in text) few in
    let gives : o ≡ None = given t s o 126 taken.symbol e in
    let same : Knows room u (λ label. known t label) = rw e at taken.labels in
    let needs : needs_of u ≡ needs_of t = rw e at taken.needs in (
      omega (arith, all, no_words later suits.0),
      (λ label small. same label small ∙ h.labels label small ∙ nothing_placed later label place suits.0
          ∙ sym (nothing_placed later label (next + 0) suits.0)),
      needs_stay t u (open_needs later) needs h.needs,
      behind_any written o ∙ rw gives (h.text ∙ nothing_settled later place (next + 0) suits.0),
    )

-- Words and orders

plain_given : (room : ℕ) (text : List Symbol) (s : Symbol) (later : List Symbol) (place next : ℕ) (t u : TablesModel) (written : List Symbol)
    (o : Option Symbol) → IsWrittenFrom room (words_in text) place later t written → next ≡ place - 1 → o ≡ Some s
    → Knows room u (λ label. known t label) → needs_of u ≡ needs_of t → 0 < length later → 1 + words_in later ≤ words_in text
    → (next + (1 + words_in later) ≡ words_in text)
    × Knows room u (λ label. if is_placed label later then At (address_of later label (next + 1)) else (if is_used label later then Used else New))
    × HasNeeds u (open_needs later) × (reverse (written ++ if_any o) ≡ s ∷ text8_from (next + 1) later)
plain_given room text s later place next t u written o h moved gives labels needs some le =
    let whole : place + words_in later ≡ words_in text = h.at some in
    let is : next + 1 ≡ place = omega (arith, moved, whole, le) in (
      omega (arith, is, whole),
      labels_stay room (words_in text) place next 1 later t u written h is labels,
      needs_stay t u (open_needs later) needs h.needs,
      one_given place next later written o s h.text is gives,
    )

branch_word : (room : ℕ) (text : List Symbol) (s : Symbol) (later : List Symbol) (place next : ℕ) (t u : TablesModel) (written : List Symbol)
    (o : Option Symbol) → IsWrittenFrom room (words_in text) place later t written → IsTaken room s place next t u o → s.tag ≡ 120
    → Branch room text s later next u written o (AWord s.value)
branch_word room text s later place next t u written o h taken e suits le =
    plain_given room text s later place next t u written o h (rw e at taken.moved) (given t s o 120 taken.symbol e) (rw e at taken.labels)
    (rw e at taken.needs) suits le

-- the tag of an order is none of those above, and stands in text 8
pub record IsOrderTag (tag : ℕ) : Type 0 where
  pub count : nat_eq tag 126 ≡ false
  pub need : nat_eq tag 125 ≡ false
  pub mark : nat_eq tag 121 ≡ false
  pub opens : nat_eq tag 124 ≡ false
  pub order : nat_eq tag 122 ≡ false
  pub word : nat_eq tag 123 ≡ false
  pub letter : stands_in 8 tag ≡ true

order_tag : (tag : ℕ) → IsOrderNumber (tag - 128) → IsOrderTag tag
order_tag tag order =
    let low : 128 < tag = omega (arith, order.least) in
    let high : tag ≤ 183 = omega (arith, order.most) in
    let t1 : nat_lt 128 tag ≡ true = grind (arith, nat_tests) in
    let t2 : nat_le tag 183 ≡ true = grind (arith, nat_tests) in
    let t3 : nat_le 120 tag ≡ true = grind (arith, nat_tests) in
    let t4 : nat_le tag 123 ≡ false = grind (arith, nat_tests) in
    record {
      count = grind (arith, nat_tests);
      need = grind (arith, nat_tests);
      mark = grind (arith, nat_tests);
      opens = grind (arith, nat_tests);
      order = grind (arith, nat_tests);
      word = grind (arith, nat_tests);
      letter = rw (t1, t2, t3, t4) refl;
    }

branch_order : (room : ℕ) (text : List Symbol) (s : Symbol) (later : List Symbol) (place next : ℕ) (t u : TablesModel) (written : List Symbol)
    (o : Option Symbol) → IsWrittenFrom room (words_in text) place later t written → IsTaken room s place next t u o
    → Branch room text s later next u written o (AnOrder (s.tag - 128) s.value)
branch_order room text s later place next t u written o h taken suits le =
    let tag = order_tag s.tag suits.0 in
    let moved : next ≡ place - 1 = rw (tag.count, tag.need, tag.mark) at taken.moved in
    let gives : o ≡ Some s = rw (tag.count, tag.need, tag.mark, tag.opens, tag.letter, tag.order, tag.word) at taken.symbol in
    let labels : Knows room u (λ label. known t label) =
    rw (tag.count, tag.need, tag.mark, tag.opens, tag.letter, tag.order, tag.word) at taken.labels in
    let needs : needs_of u ≡ needs_of t = rw (tag.count, tag.need, tag.mark, tag.opens) at taken.needs in
    plain_given room text s later place next t u written o h moved gives labels needs suits.1 le

one_more : (room : ℕ) (text : List Symbol) (s : Symbol) (later : List Symbol) (place next : ℕ) (t u : TablesModel) (written : List Symbol)
    (o : Option Symbol) → (needs_of t).width ≡ 1 → words_in text < 16777216 → IsWrittenFrom room (words_in text) place later t written
    → IsTaken room s place next t u o → Suits room text s.value (piece_of s) later
    → words_of (piece_of s) + words_in later ≤ words_in text → IsWrittenFrom room (words_in text) next (s ∷ later) u (written ++ if_any o)
one_more room text s later place next t u written o wide few h taken suits le =
    let more : NextTo room (words_in text) (piece_of s) s later next u (written ++ if_any o) = by_kind s (Branch room text s later next u written o)
    (branch_place room text s later place next t u written o h taken)
    (branch_use room text s later place next t u written o few h taken)
    (branch_word_use room text s later place next t u written o few h taken)
    (branch_room room text s later place next t u written o wide h taken)
    (branch_need room text s later place next t u written o h taken)
    (branch_count room text s later place next t u written o few h taken)
    (branch_word room text s later place next t u written o h taken)
    (λ (out : s.tag < 120 ⊎ 126 < s.tag). branch_order room text s later place next t u written o h taken) suits le in
    record { at = λ some. more.0; labels = more.1; needs = more.2; text = more.3 }

pub settles_more : (bytes place next : ℕ) (s : Symbol) (t u : TablesModel) (later written : List Symbol) (o : Option Symbol)
    → (needs_of t).width ≡ 1 → IsTaken (20 * bytes + 64) s place next t u o → WritesFromTheEnd bytes place t later written
    → WritesFromTheEnd bytes next u (s ∷ later) (written ++ if_any o)
settles_more bytes place next s t u later written o wide taken settles = λ text few suits le.
    one_more (20 * bytes + 64) text s later place next t u written o wide few
    (settles text few suits.1 (omega (arith, le))) taken suits.0 le
