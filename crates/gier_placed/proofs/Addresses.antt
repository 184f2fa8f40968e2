-- The address of a label that stands once is the number of words before its place.
use Rattle.std.proofs.Common.{◌≡◌, ◌<◌, ◌≤◌, inl, inr, ℕ, ◌+◌, Bool, true, false, List, [], ◌∷◌, refl, sym, ap, ◌∙◌, arith}
use Rattle.std.specs.Prelude.{◌++◌, ◌==◌, ◌^◌, if◌then◌else◌}
use Rattle.std.proofs.lemmas.Bool.{eq-eqb}
use Rattle.gier_symbol.specs.declared.symbol.Symbol.{Symbol}
use Rattle.gier_symbol.specs.declared.tag.Tag.TheVariants.{LabelPlace}
use Rattle.gier_symbol.specs.ByTag.{sym as symbol}
use Rattle.gier_tree.specs.Object.{Piece, APlace, AUse, AWordUse, ARoom, ANeed, ACount, AWord, AnOrder, piece_of, words_of}
use Rattle.gier_tree.specs.Object.{address_at, address_of}
use Rattle.gier_tree.specs.Orders.{first_label}
use Rattle.gier_tree.specs.Text7.{code_program}
use Rattle.gier_tree.specs.Trees.{Program}
use Rattle.gier_tree.specs.Words.{words_in}
use Rattle.gier_placed.specs.Laws.{LabelsAreAddresses}
use Rattle.gier_placed.specs.Placed.{with_place, places_in, times, program_numbers, HasPlaces}
use Rattle.gier_placed.proofs.Numbers.{are_numbered}
use Rattle.gier_placed.proofs.Once.{IsNumber, few_declared, few_of_code, placed_once, is_number}

abbrev chosen : Bool → ℕ
chosen b = if b then 1 else 0

-- how often a label stands in a text, symbol by symbol
abbrev pub times_at : (label : ℕ) → Piece → ℕ
times_at label (APlace found) = if found == label then 1 else 0
times_at label piece = 0

at_front : (label : ℕ) (piece : Piece) (places : List ℕ)
    → times label (with_place piece places) ≡ times_at label piece + times label places
at_front label (APlace found) places = refl
at_front label (AUse head used) places = let e : times label places ≡ 0 + times label places = omega arith in e
at_front label (AWordUse used) places = let e : times label places ≡ 0 + times label places = omega arith in e
at_front label (ARoom head room) places = let e : times label places ≡ 0 + times label places = omega arith in e
at_front label (ANeed need) places = let e : times label places ≡ 0 + times label places = omega arith in e
at_front label ACount places = let e : times label places ≡ 0 + times label places = omega arith in e
at_front label (AWord value) places = let e : times label places ≡ 0 + times label places = omega arith in e
at_front label (AnOrder op value) places = let e : times label places ≡ 0 + times label places = omega arith in e

pub first_is : (label : ℕ) (s : Symbol) (text : List Symbol)
    → times label (places_in (s ∷ text)) ≡ times_at label (piece_of s) + times label (places_in text)
first_is label s text = at_front label (piece_of s) (places_in text)

pub parted : (label : ℕ) (before rest : List Symbol)
    → times label (places_in (before ++ rest)) ≡ times label (places_in before) + times label (places_in rest)
parted label [] rest = let e : times label (places_in rest) ≡ 0 + times label (places_in rest) = omega arith in e
parted label (s ∷ before) rest =
    let more : times label (places_in (before ++ rest))
    ≡ times label (places_in before) + times label (places_in rest) = parted label before rest in
    let whole : times label (places_in (s ∷ before ++ rest))
    ≡ times_at label (piece_of s) + times label (places_in (before ++ rest)) = first_is label s (before ++ rest) in
    let part : times label (places_in (s ∷ before))
    ≡ times_at label (piece_of s) + times label (places_in before) = first_is label s before in
    omega arith

-- a piece without the label's place isn't its address
pub passed : (label before later : ℕ) (piece : Piece) → times_at label piece ≡ 0 → address_at piece label before later ≡ later
passed label before later (APlace found) none = by (found == label) none
  where
    by : (b : Bool) → chosen b ≡ 0 → (if b then before else later) ≡ later
    by true h = let no : ⊥ = omega arith in absurd no
    by false h = refl
passed label before later (AUse head used) none = refl
passed label before later (AWordUse used) none = refl
passed label before later (ARoom head room) none = refl
passed label before later (ANeed need) none = refl
passed label before later ACount none = refl
passed label before later (AWord value) none = refl
passed label before later (AnOrder op value) none = refl

pub address_is : (label line w : ℕ) (before rest : List Symbol) → times label (places_in before) ≡ 0
    → address_of (before ++ symbol LabelPlace label line ∷ rest) label w ≡ w + words_in before
address_is label line w [] rest none =
    ap (λ b. if b then w else address_of rest label (w + 0)) (eq-eqb label label refl) ∙ (let e : w ≡ w + 0 = omega arith in e)
address_is label line w (s ∷ before) rest none =
    let parts : times label (places_in (s ∷ before))
    ≡ times_at label (piece_of s) + times label (places_in before) = first_is label s before in
    passed label w (address_of (before ++ symbol LabelPlace label line
    ∷ rest) label (w + words_of (piece_of s))) (piece_of s) (omega arith)
    ∙ address_is label line (w + words_of (piece_of s)) before rest (omega arith)
    ∙ (let e : (w + words_of (piece_of s)) + words_in before ≡ w + (words_of (piece_of s) + words_in before) = omega arith in e)

small_number : (t : Program) (code x : ℕ) → program_numbers t ≤ first_label → code ≤ first_label → IsNumber t code x → x < 2 ^ 24
small_number t code x d c (inl a) = omega arith
small_number t code x d c (inr (a, b)) = omega arith

pub labels_are_addresses : LabelsAreAddresses
labels_are_addresses t scopes few before rest label line whole =
    let code = (are_numbered t scopes).0 in
    let h : HasPlaces t code = (are_numbered t scopes).1 in
    let place = symbol LabelPlace label line in
    let here : times label (places_in (place ∷ rest)) ≡ chosen (label == label) + times label (places_in rest) = refl in
    let one : chosen (label == label) ≡ 1 = ap chosen (eq-eqb label label refl) in
    let parts : times label (places_in (before ++ place ∷ rest))
    ≡ times label (places_in before) + times label (places_in (place ∷ rest)) = parted label before (place ∷ rest) in
    let same : times label (places_in (before ++ place ∷ rest))
    ≡ times label (places_in (code_program t)) = ap (λ text. times label (places_in text)) whole in
    let most : times label (places_in (code_program t)) ≤ 1 = placed_once t code h few label in
    let none : times label (places_in before) ≡ 0 = omega arith in (
      small_number t code label (few_declared t code h few) (few_of_code t code h few) (is_number t code h few label (omega arith)),
      ap (λ text. address_of text label 0) (sym whole) ∙ address_is label line 0 before rest none
          ∙ (let e : 0 + words_in before ≡ words_in before = omega arith in e),
    )
