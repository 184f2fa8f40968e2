-- Text 8 of a text 7 makes the object that is defined from text 7.
use Rattle.std.proofs.Common.{◌≡◌, ◌≢◌, ◌≤◌, ◌<◌, ◌⊎◌, ◌∷◌, ◌+◌, ◌*◌, ◌-◌, ◌/◌, ◌%◌, ◌∙◌, ℕ, suc, Bool, true, false, List, []}
use Rattle.std.proofs.Common.{Some, length, refl, sym, ap, arith, inl, inr}
use Rattle.std.specs.Prelude.{◌==◌, ◌||◌, All, IsTrue, min, nat_eq, nat_le, nat_lt, if◌then◌else◌}
use Rattle.std.specs.List.{list_any}
use Rattle.std.proofs.lemmas.Bool.{cases_eq, cases_lt, cases_Bool}
use Rattle.std.proofs.lemmas.Bool.Decides.{nat_tests}
use Rattle.gier_symbol.specs.declared.symbol.Symbol.{Symbol}
use Rattle.gier_symbol.specs.declared.tag.Tag.TheVariants.{Word}
use Rattle.gier_symbol.specs.ByTag.{sym as symbol}
use Rattle.gier_symbol.specs.Texts.{stands_in}
use Rattle.gier_tree.specs.Complete.{place_of}
use Rattle.gier_tree.specs.Complete.{is_place, is_placed}
use Rattle.gier_tree.specs.Object.{Piece, APlace, AUse, AWordUse, ARoom, ANeed, ACount, AWord, AnOrder, piece_of, head_of, address_in}
use Rattle.gier_tree.specs.Object.{words_of, address_at, address_of, need_behind, is_use, is_used, known_order, in_text8}
use Rattle.gier_tree.specs.Object.{with_place, known_from, text8_of, object_word, object_from, object_of}
use Rattle.gier_labels.proofs.Pieces.{by_kind}
use Rattle.gier_pass9.specs.Words.{room_of}
use Rattle.gier_pass9.specs.ObjectOfText.{Marks, no_marks, with_mark, word_by, words_from, object_words}
use Rattle.gier_pass9.specs.Objects.{Fits, AllFit, IsText7}

-- no address is above the number of words
bound_piece : (piece : Piece) (text behind : List Symbol) (rest : List ℕ) (label before later : ℕ)
    → later ≤ before + words_of piece + length rest
    → address_at piece label before later ≤ before + length (object_word piece text behind rest)
bound_piece (APlace found) text behind rest label before later le = elim (cases_eq found label) [
  | inl e ↦ let test : nat_eq found label ≡ true = grind (arith, nat_tests) in rw test (omega arith)
  | inr ne ↦ let test : nat_eq found label ≡ false = grind (arith, nat_tests) in rw test (omega (arith, le))
]
bound_piece (AUse head used) text behind rest label before later le = omega (arith, le)
bound_piece (AWordUse used) text behind rest label before later le = omega (arith, le)
bound_piece (ARoom head room) text behind rest label before later le = omega (arith, le)
bound_piece (ANeed need) text behind rest label before later le = omega (arith, le)
bound_piece ACount text behind rest label before later le = omega (arith, le)
bound_piece (AWord value) text behind rest label before later le = omega (arith, le)
bound_piece (AnOrder op value) text behind rest label before later le = omega (arith, le)

bound : (text behind : List Symbol) (label before : ℕ) → address_of behind label before ≤ before + length (object_from text behind)
bound text [] label before = omega arith
bound text (s ∷ behind) label before =
    bound_piece (piece_of s) text behind (object_from text behind) label before (address_of behind label (before + words_of (piece_of s)))
    (bound text behind label (before + words_of (piece_of s)))

-- marks that are known where they are used, and places that are still to come
abbrev KnownAs : (text : List Symbol) → List ℕ → Marks → (used : ℕ → Bool) → Type 0
KnownAs text seen marks used = (label : ℕ) → list_any (λ q. q == label) seen ≡ true → used label ≡ true
    → marks label ≡ Some (address_of text label 0)

abbrev PlacedAs : (text : List Symbol) → (placed : ℕ → Bool) → (at : ℕ → ℕ) → Type 0
PlacedAs text placed at = (label : ℕ) → placed label ≡ true → address_of text label 0 ≡ at label

-- from any symbol on the words are the same ones
abbrev Goes : (room : ℕ) → (text behind : List Symbol) → Type 0
Goes room text behind = (seen : List ℕ) (marks : Marks) (place : ℕ) → KnownAs text seen marks (λ label. is_used label behind)
    → PlacedAs text (λ label. is_placed label behind) (λ label. address_of behind label place)
    → words_from room marks place (known_from text seen behind) ≡ object_from text behind

-- and so they are from the symbol before on, which is this piece
abbrev Step : (room : ℕ) → (text : List Symbol) → List ℕ → Marks → (place : ℕ) → Symbol → (behind : List Symbol) → Piece → Type 0
Step room text seen marks place s behind piece =
    KnownAs text seen marks (λ label. is_use label piece || is_used label behind)
    → PlacedAs text (λ label. is_place label piece || is_placed label behind)
    (λ label. address_at piece label place (address_of behind label (place + words_of piece)))
    → Fits room piece behind → Goes room text behind
    → words_from room marks place (in_text8 piece text seen s behind (known_from text (with_place piece seen) behind))
    ≡ object_word piece text behind (object_from text behind)

or_right : (a b : Bool) → b ≡ true → (a || b) ≡ true
or_right true b e = refl
or_right false b e = e

same_self : (n : ℕ) → nat_eq n n ≡ true
same_self n = grind (arith, nat_tests)

differs : (a b : ℕ) → a ≢ b → nat_eq a b ≡ false
differs a b ne = grind (arith, nat_tests)

-- a symbol that isn't a mark makes its word
one_word : (room : ℕ) (marks : Marks) (place word : ℕ) (s : Symbol) (text : List Symbol) → nat_eq s.tag 121 ≡ false
    → word_by marks s ≡ word → words_from room marks place (s ∷ text) ≡ word ∷ words_from room marks (place + 1) text
one_word room marks place word s text test is = rw test (ap (λ (w : ℕ). w ∷ words_from room marks (place + 1) text) is)

no_address : (address : ℕ) → address < 16777216 → min address 16777215 ≡ address
no_address address lt = omega (arith, lt)

-- an order whose address is known
known_word : (marks : Marks) (head address line : ℕ) → address < 16777216
    → word_by marks (known_order head address line) ≡ head * 16777216 + address
known_word marks head address line lt =
    let t1 : nat_eq (128 + head / 256) 122 ≡ false = grind (arith, nat_tests) in
    let t2 : nat_eq (128 + head / 256) 123 ≡ false = grind (arith, nat_tests) in
    let t3 : nat_lt (128 + head / 256) 128 ≡ false = grind (arith, nat_tests) in
    rw (t1, t2, t3) (omega (arith, lt))

known_tag : (head : ℕ) → nat_eq (128 + head / 256) 121 ≡ false
known_tag head = grind (arith, nat_tests)

-- a use of a label that stands before it
used_order : (marks : Marks) (s : Symbol) (address : ℕ) → s.tag ≡ 122 → marks (s.value % 16777216) ≡ Some address → address < 16777216
    → word_by marks s ≡ s.value / 16777216 * 16777216 + address
used_order marks s address e is lt = rw (e, is, no_address address lt) refl

used_word : (marks : Marks) (s : Symbol) (address : ℕ) → s.tag ≡ 123 → marks s.value ≡ Some address → address < 16777216
    → word_by marks s ≡ address
used_word marks s address e is lt = rw (e, is, no_address address lt) refl

plain_word : (marks : Marks) (s : Symbol) → s.tag ≡ 120 → word_by marks s ≡ s.value
plain_word marks s e = rw e refl

plain_order : (marks : Marks) (s : Symbol) → 126 < s.tag → 128 ≤ s.tag → s.value < 4294967296
    → word_by marks s ≡ (s.tag - 128) * 4294967296 + s.value
plain_order marks s high ge lt =
    let t1 : nat_eq s.tag 122 ≡ false = grind (arith, nat_tests) in
    let t2 : nat_eq s.tag 123 ≡ false = grind (arith, nat_tests) in
    let t3 : nat_lt s.tag 128 ≡ false = grind (arith, nat_tests) in
    rw (t1, t2, t3) (omega (arith, lt))

-- a letter of text 7 behind the marks is an order
order_tag : (tag : ℕ) → IsTrue (stands_in 7 tag) → (tag < 120) ⊎ (126 < tag) → 128 ≤ tag
order_tag tag letter out = elim (cases_lt tag 128) [
  | inl lt ↦
      let t1 : nat_lt 128 tag ≡ false = grind (arith, nat_tests) in
      elim out [
        | inl low ↦
            let t2 : nat_le 120 tag ≡ false = grind (arith, nat_tests) in
            let no : false ≡ true = rw (t1, t2) at letter in
            absurd (cc)
        | inr high ↦
            let t2 : nat_le tag 126 ≡ false = grind (arith, nat_tests) in
            let t3 : nat_le 120 tag ≡ true = grind (arith, nat_tests) in
            let no : false ≡ true = rw (t1, t2, t3) at letter in
            absurd (cc)
      ]
  | inr ge ↦ ge
]

unlike : (f : ℕ → Bool) (a b : ℕ) → f a ≡ false → f b ≡ true → nat_eq a b ≡ false
unlike f a b out here = elim (cases_eq a b) [
  | inl e ↦ let bad : true ≡ false = sym here ∙ ap f (sym e) ∙ out in absurd (cc)
  | inr ne ↦ differs a b ne
]

lt_test : (a b : ℕ) → a < b → nat_lt a b ≡ true
lt_test a b lt = grind (arith, nat_tests)

-- a mark makes no word
one_mark : (room : ℕ) (marks : Marks) (place : ℕ) (s : Symbol) (text : List Symbol) → s.tag ≡ 121
    → words_from room marks place (s ∷ text) ≡ words_from room (with_mark room s.value place marks) place text
one_mark room marks place s text e = let zero : place + 0 ≡ place = omega arith in rw (e, zero) refl

known_mark : (room : ℕ) (text : List Symbol) (seen : List ℕ) (marks : Marks) (v place : ℕ) (behind : List Symbol)
    → KnownAs text seen marks (λ label. is_used label behind) → place_of v < room → address_of text v 0 ≡ place
    → KnownAs text (v ∷ seen) (with_mark room v place marks) (λ label. is_used label behind)
known_mark room text seen marks v place behind known fits here = λ label in_seen used. elim (cases_eq label v) [
  | inl e ↦ rw (e, same_self v, lt_test (place_of v) room fits) (ap (λ (a : ℕ). Some a) (sym here))
  | inr ne ↦ rw (differs label v ne) (known label (rw (differs v label (λ (same : v ≡ label). ne (sym same))) at in_seen) used)
]

known_passed : (text : List Symbol) (seen : List ℕ) (marks : Marks) (v : ℕ) (behind : List Symbol)
    → KnownAs text seen marks (λ label. is_used label behind) → is_used v behind ≡ false
    → KnownAs text (v ∷ seen) marks (λ label. is_used label behind)
known_passed text seen marks v behind known unused =
    λ label in_seen used. known label (rw (unlike (λ (l : ℕ). is_used l behind) v label unused used) at in_seen) used

placed_mark : (text : List Symbol) (v place : ℕ) (behind : List Symbol)
    → PlacedAs text (λ label. nat_eq v label || is_placed label behind)
    (λ label. if nat_eq v label then place else address_of behind label (place + 0)) → is_placed v behind ≡ false
    → PlacedAs text (λ label. is_placed label behind) (λ label. address_of behind label place)
placed_mark text v place behind placed once = λ label here.
    let zero : place + 0 ≡ place = omega arith in
    rw (unlike (λ (l : ℕ). is_placed l behind) v label once here, zero) at
    (placed label (or_right (nat_eq v label) (is_placed label behind) here))

placed_here : (text : List Symbol) (v place : ℕ) (behind : List Symbol)
    → PlacedAs text (λ label. nat_eq v label || is_placed label behind)
    (λ label. if nat_eq v label then place else address_of behind label (place + 0)) → address_of text v 0 ≡ place
placed_here text v place behind placed =
    let here : (nat_eq v v || is_placed v behind) ≡ true = rw (same_self v) refl in rw (same_self v) at (placed v here)

step_place : (room : ℕ) (text : List Symbol) (seen : List ℕ) (marks : Marks) (place : ℕ) (s : Symbol) (behind : List Symbol) → s.tag ≡ 121
    → Step room text seen marks place s behind (APlace s.value)
step_place room text seen marks place s behind e known placed fits go =
    let further = placed_mark text s.value place behind placed fits.1 in
    elim (cases_Bool (is_used s.value behind)) [
      | inl used ↦ rw used (one_mark room marks place s (known_from text (s.value ∷ seen) behind) e
          ∙ go (s.value ∷ seen) (with_mark room s.value place marks) place
          (known_mark room text seen marks s.value place behind known fits.0 (placed_here text s.value place behind placed)) further)
      | inr unused ↦ rw unused (go (s.value ∷ seen) marks place (known_passed text seen marks s.value behind known unused) further)
    ]

-- the words behind a word
word_behind : (room : ℕ) (text : List Symbol) (seen : List ℕ) (marks : Marks) (place word : ℕ) (s : Symbol) (behind : List Symbol)
    → nat_eq s.tag 121 ≡ false → word_by marks s ≡ word
    → KnownAs text seen marks (λ label. is_used label behind)
    → PlacedAs text (λ label. is_placed label behind) (λ label. address_of behind label (place + 1)) → Goes room text behind
    → words_from room marks place (s ∷ known_from text seen behind) ≡ word ∷ object_from text behind
word_behind room text seen marks place word s behind test is known placed go =
    one_word room marks place word s (known_from text seen behind) test is
    ∙ ap (λ (l : List ℕ). word ∷ l) (go seen marks (place + 1) known placed)

step_use : (room : ℕ) (text : List Symbol) (seen : List ℕ) (marks : Marks) (place : ℕ) (s : Symbol) (behind : List Symbol)
    → ((label : ℕ) → address_of text label 0 < 16777216) → s.tag ≡ 122
    → Step room text seen marks place s behind (AUse (head_of s.value) (address_in s.value))
step_use room text seen marks place s behind few e known placed fits go =
    let label = s.value % 16777216 in
    let head = s.value / 16777216 in
    let a = address_of text label 0 in
    let more : KnownAs text seen marks (λ l. is_used l behind) =
    λ l in_seen used. known l in_seen (or_right (nat_eq label l) (is_used l behind) used) in
    let self : (nat_eq label label || is_used label behind) ≡ true = rw (same_self label) refl in
    elim (cases_Bool (list_any (λ q. q == label) seen)) [
      | inl stood ↦
          let word = used_order marks s a e (known label stood self) (few label) in
          rw stood (word_behind room text seen marks place (head * 16777216 + a) s behind (rw e refl) word more placed go)
      | inr ahead ↦
          let order = known_order head a s.line in
          let word = known_word marks head a s.line (few label) in
          rw ahead (word_behind room text seen marks place (head * 16777216 + a) order behind (known_tag head) word more placed go)
    ]

step_word_use : (room : ℕ) (text : List Symbol) (seen : List ℕ) (marks : Marks) (place : ℕ) (s : Symbol) (behind : List Symbol)
    → ((label : ℕ) → address_of text label 0 < 16777216) → s.tag ≡ 123 → Step room text seen marks place s behind (AWordUse s.value)
step_word_use room text seen marks place s behind few e known placed fits go =
    let label = s.value in
    let a = address_of text label 0 in
    let more : KnownAs text seen marks (λ l. is_used l behind) =
    λ l in_seen used. known l in_seen (or_right (nat_eq label l) (is_used l behind) used) in
    let self : (nat_eq label label || is_used label behind) ≡ true = rw (same_self label) refl in
    elim (cases_Bool (list_any (λ q. q == label) seen)) [
      | inl stood ↦
          let word = used_word marks s a e (known label stood self) (few label) in
          rw stood (word_behind room text seen marks place a s behind (rw e refl) word more placed go)
      | inr ahead ↦ rw ahead (word_behind room text seen marks place a (symbol Word a s.line) behind refl refl more placed go)
    ]

step_room : (room : ℕ) (text : List Symbol) (seen : List ℕ) (marks : Marks) (place : ℕ) (s : Symbol) (behind : List Symbol)
    (head words : ℕ) → Step room text seen marks place s behind (ARoom head words)
step_room room text seen marks place s behind head words known placed fits go =
    let need = need_behind behind 0 in
    let is : head * 16777216 + (words + need) ≡ head * 16777216 + words + need = omega arith in
    word_behind room text seen marks place (head * 16777216 + words + need) (known_order head (words + need) s.line) behind
    (known_tag head) (known_word marks head (words + need) s.line fits ∙ is) known placed go

-- no word, and no mark
step_none : (room : ℕ) (text : List Symbol) (seen : List ℕ) (marks : Marks) (place : ℕ) (behind : List Symbol)
    → KnownAs text seen marks (λ label. is_used label behind)
    → PlacedAs text (λ label. is_placed label behind) (λ label. address_of behind label (place + 0))
    → Goes room text behind → words_from room marks place (known_from text seen behind) ≡ object_from text behind
step_none room text seen marks place behind known placed go =
    let zero : place + 0 ≡ place = omega arith in
    go seen marks place known (λ label here. rw zero at (placed label here))

step_word : (room : ℕ) (text : List Symbol) (seen : List ℕ) (marks : Marks) (place : ℕ) (s : Symbol) (behind : List Symbol) → s.tag ≡ 120
    → Step room text seen marks place s behind (AWord s.value)
step_word room text seen marks place s behind e known placed fits go =
    word_behind room text seen marks place s.value s behind (rw e refl) (plain_word marks s e) known placed go

step_order : (room : ℕ) (text : List Symbol) (seen : List ℕ) (marks : Marks) (place : ℕ) (s : Symbol) (behind : List Symbol) → 128 ≤ s.tag
    → Step room text seen marks place s behind (AnOrder (s.tag - 128) s.value)
step_order room text seen marks place s behind ge known placed fits go =
    let test : nat_eq s.tag 121 ≡ false = grind (arith, nat_tests) in
    word_behind room text seen marks place ((s.tag - 128) * 4294967296 + s.value) s behind test
    (plain_order marks s (omega arith) ge fits) known placed go

steps : (room : ℕ) (text : List Symbol) → ((label : ℕ) → address_of text label 0 < 16777216) → (behind : List Symbol)
    → All (λ s. IsTrue (stands_in 7 s.tag)) behind → AllFit room behind → Goes room text behind
steps room text few [] letters fits = λ seen marks place known placed. refl
steps room text few (s ∷ behind) letters fits = λ seen marks place known placed.
    by_kind s (Step room text seen marks place s behind)
    (step_place room text seen marks place s behind)
    (step_use room text seen marks place s behind few)
    (step_word_use room text seen marks place s behind few)
    (λ (e : s.tag ≡ 124). step_room room text seen marks place s behind (head_of s.value) (address_in s.value))
    (λ (e : s.tag ≡ 125) k p f. step_none room text seen marks place behind k p)
    (λ (e : s.tag ≡ 126) k p f. step_none room text seen marks place behind k p)
    (step_word room text seen marks place s behind)
    (λ (out : s.tag < 120 ⊎ 126 < s.tag). step_order room text seen marks place s behind (order_tag s.tag (letters 0 s (omega arith)) out))
    known placed fits.0 (steps room text few behind (λ k d lt. letters (suc k) d (omega (arith, lt))) fits.1)

pub same_words : (limit : ℕ) (text : List Symbol) → IsText7 limit text → object_words limit (text8_of text) ≡ object_of text
same_words limit text h =
    steps (room_of limit) text (λ label. omega (arith, bound text text label 0, h.few)) text h.letters h.fits [] no_marks 0
    (λ label none used. absurd (cc)) (λ label here. refl)
