-- A label that has a place stands behind the order START and before the order STOP.
use Rattle.std.proofs.Common.{◌≡◌, ◌<◌, ◌≤◌, inl, inr, ℕ, ◌+◌, Bool, true, false, List, [], ◌∷◌, refl, ap, arith}
use Rattle.std.specs.Prelude.{◌==◌, if◌then◌else◌, drop}
use Rattle.gier_symbol.specs.declared.symbol.Symbol.{Symbol}
use Rattle.gier_symbol.specs.declared.tag.Tag.TheVariants.{Word, LabelPlace, LabelOrder, LabelWord, OpenRoom, Need}
use Rattle.gier_symbol.specs.Texts.{order_base}
use Rattle.gier_symbol.specs.ByTag.{sym as symbol}
use Rattle.gier_tree.specs.Object.{piece_of, words_of, address_of}
use Rattle.gier_tree.specs.Orders.{number_of}
use Rattle.gier_tree.specs.Text7.{code_program}
use Rattle.gier_tree.specs.Trees.{MkProgram}
use Rattle.gier_tree.specs.Words.{words_in, HasStop}
use Rattle.gier_complete.proofs.Claims.{program_carries}
use Rattle.gier_complete.proofs.OrderPieces.{piece_is}
use Rattle.gier_complete.proofs.Passing.{Claim, IsCarried, none}
use Rattle.gier_placed.specs.Laws.{LabelsAreWithin}
use Rattle.gier_placed.specs.Placed.{places_in, times}
use Rattle.gier_placed.proofs.Addresses.{times_at, first_is, passed}
use Rattle.gier_placed.proofs.Numbers.{are_numbered}
use Rattle.gier_placed.proofs.Once.{one_place}

some_words : (text : List Symbol) → HasStop text → 1 ≤ words_in text
some_words [] stop = elim stop [ ]
some_words (s ∷ text) (inl stop) = let one : words_of (piece_of s) ≡ 1 = stop.1 in omega arith
some_words (s ∷ text) (inr later) = let more : 1 ≤ words_in text = some_words text later in omega arith

-- each label that stands in a text has its address among those of the text's words
abbrev pub AreAmong : List Symbol → Type 0
AreAmong text = (label w : ℕ) → 1 ≤ times label (places_in text)
    → (w ≤ address_of text label w) × (address_of text label w < w + words_in text)

abbrev among_claim : Claim
among_claim n st rest = HasStop rest × AreAmong rest

-- a symbol that isn't a place
over : (s : Symbol) (rest : List Symbol) → ((label : ℕ) → times_at label (piece_of s) ≡ 0) → AreAmong rest → AreAmong (s ∷ rest)
over s rest none h label w some =
    let no : times_at label (piece_of s) ≡ 0 = none label in
    let first : times label (places_in (s ∷ rest))
    ≡ times_at label (piece_of s) + times label (places_in rest) = first_is label s rest in
    let v = w + words_of (piece_of s) in
    let same : address_of (s ∷ rest) label w ≡ address_of rest label v = passed label w (address_of rest label v) (piece_of s) no in
    let least : v ≤ address_of rest label v = (h label v (omega arith)).0 in
    let most : address_of rest label v < v + words_in rest = (h label v (omega arith)).1 in
    (omega arith, omega arith)

placed : (x line : ℕ) (rest : List Symbol) → HasStop rest → AreAmong rest → AreAmong (symbol LabelPlace x line ∷ rest)
placed x line rest stop h label w some = by (x == label) some
  where
    chosen : Bool → ℕ
    chosen b = if b then 1 else 0

    by : (b : Bool) → 1 ≤ chosen b + times label (places_in rest)
        → (w ≤ (if b then w else address_of rest label (w + 0)))
        × ((if b then w else address_of rest label (w + 0)) < w + (0 + words_in rest))
    by true some = let words : 1 ≤ words_in rest = some_words rest stop in (omega arith, omega arith)
    by false some =
        let here : 1 ≤ 0 + times label (places_in rest) = some in
        let least : w + 0 ≤ address_of rest label (w + 0) = (h label (w + 0) (omega arith)).0 in
        let most : address_of rest label (w + 0) < (w + 0) + words_in rest = (h label (w + 0) (omega arith)).1 in
        (omega arith, omega arith)

among_carried : IsCarried among_claim
among_carried = record {
  an_order = λ o other value line n st rest h. (
    inr h.0,
    over (record { tag = order_base + number_of o; value = value; line = line }) rest (λ label.
        ap (times_at label) (piece_is o value line)) h.1,
  );
  a_use = λ value line n st rest h. (inr h.0, over (symbol LabelOrder value line) rest (λ label. refl) h.1);
  a_word_use = λ value line n st rest h. (inr h.0, over (symbol LabelWord value line) rest (λ label. refl) h.1);
  a_word = λ value line n st rest h. (inr h.0, over (symbol Word value line) rest (λ label. refl) h.1);
  a_room = λ value line n st rest h. (inr h.0, over (symbol OpenRoom value line) rest (λ label. refl) h.1);
  a_place = λ value line n st rest h. (inr h.0, placed value line rest h.0 h.1);
  a_need = λ value line n st rest h. (inr h.0, over (symbol Need value line) rest (λ label. refl) h.1);
  a_new = λ n st rest h. h;
  same = λ n m rooms places st rest h. h;
}

pub labels_are_within : LabelsAreWithin
labels_are_within (MkProgram ls g l) scopes few label declared =
    let t = MkProgram ls g l in
    let h = (are_numbered t scopes).1 in
    let rest = drop 1 (code_program t) in
    let within = program_carries among_claim among_carried ls g l (record { rooms = 1; places = none })
    (λ s. (inl (refl, refl), λ x w some. let none : ⊥ = omega arith in elim none [ ])) in
    let one : times label (places_in (code_program t)) ≡ 1 = one_place t (are_numbered t scopes).0 h few label (inl declared) in
    let same : times label (places_in (code_program t)) ≡ times label (places_in rest) = refl in
    let least : 0 + 1 ≤ address_of rest label (0 + 1) = (within.1 label (0 + 1) (omega arith)).0 in
    let most : address_of rest label (0 + 1) < (0 + 1) + words_in rest = (within.1 label (0 + 1) (omega arith)).1 in
    record { above = omega arith; below = omega arith }
