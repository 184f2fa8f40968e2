-- A text 7 whose uses, levels and rooms fit is complete.
use Rattle.std.proofs.Common.{◌≡◌, ◌<◌, ◌≤◌, ◌⊎◌, inl, inr, ℕ, zero, suc, ◌+◌, ◌-◌, Bool, true, false, List, [], ◌∷◌, refl, sym}
use Rattle.std.proofs.Common.{ap, subst, arith, length}
use Rattle.std.specs.Prelude.{◌==◌, ◌^◌, ◌||◌, if◌then◌else◌, drop, nat_lt}
use Rattle.std.proofs.lemmas.Bool.{eq-eqb, ltb-true}
use Rattle.gier_symbol.specs.declared.symbol.Symbol.{Symbol}
use Rattle.gier_tree.specs.Complete.{Suits, AllSuit, IsKnown, is_place, is_placed, place_of, open_needs, needs_at}
use Rattle.gier_tree.specs.Object.{Piece, APlace, AUse, AWordUse, ARoom, ANeed, ACount, AWord, AnOrder, piece_of, words_of}
use Rattle.gier_tree.specs.Text7.{code_program}
use Rattle.gier_tree.specs.Trees.{Program}
use Rattle.gier_tree.specs.Words.{words_in}
use Rattle.gier_complete.proofs.Claims.{are_whole}
use Rattle.gier_complete.specs.Whole.{closes_at, AreClosed, counted_at, IsCounted}
use Rattle.gier_fair.specs.InScope.{IsInScope}
use Rattle.gier_placed.specs.Fitting.{rooms_at, rooms_in, Fits, AllFit, most_of, HasSizes, FittingAreComplete}
use Rattle.gier_placed.specs.Laws.{HasFewLabels}
use Rattle.gier_placed.specs.Placed.{places_in, times, program_numbers}
use Rattle.gier_placed.proofs.Addresses.{times_at, first_is}
use Rattle.gier_placed.proofs.Numbers.{are_numbered}
use Rattle.gier_placed.proofs.Once.{IsNumber, few_declared, placed_once, is_number}
use Rattle.gier_placed.proofs.RightOrders.{IsRight, AllRight, all_right}

-- a text that is counted goes on
goes_on : (before : ℕ) (text : List Symbol) → IsCounted before text → 0 < length text
goes_on before [] counted = elim counted [ ]
goes_on before (s ∷ text) counted = omega arith

-- whether a label stands, by how often it does
abbrev chosen : Bool → ℕ
chosen b = if b then 1 else 0

stands_so : (label : ℕ) (q : Piece) (later : Bool) (often : ℕ) → (later ≡ true → 1 ≤ often) → (is_place label q || later) ≡ true
    → 1 ≤ times_at label q + often
stands_so label (APlace found) later often h e = by (found == label) e
  where
    by : (b : Bool) → (b || later) ≡ true → 1 ≤ chosen b + often
    by true e = omega arith
    by false e = let more : 1 ≤ often = h e in omega arith
stands_so label (AUse head used) later often h e = let more : 1 ≤ often = h e in omega arith
stands_so label (AWordUse used) later often h e = let more : 1 ≤ often = h e in omega arith
stands_so label (ARoom head room) later often h e = let more : 1 ≤ often = h e in omega arith
stands_so label (ANeed need) later often h e = let more : 1 ≤ often = h e in omega arith
stands_so label ACount later often h e = let more : 1 ≤ often = h e in omega arith
stands_so label (AWord value) later often h e = let more : 1 ≤ often = h e in omega arith
stands_so label (AnOrder op value) later often h e = let more : 1 ≤ often = h e in omega arith

stands : (label : ℕ) (text : List Symbol) → is_placed label text ≡ true → 1 ≤ times label (places_in text)
stands label [] e = cc
stands label (s ∷ text) e =
    subst (λ n. 1 ≤ n) (sym (first_is label s text)) (stands_so label (piece_of s) (is_placed label text) (times label
    (places_in text)) (stands label text) e)

absent_so : (b : Bool) (n : ℕ) → (b ≡ true → 1 ≤ n) → n ≡ 0 → b ≡ false
absent_so true n h e = let some : 1 ≤ n = h refl in let no : ⊥ = omega arith in elim no [ ]
absent_so false n h e = refl

absent : (label : ℕ) (text : List Symbol) → times label (places_in text) ≡ 0 → is_placed label text ≡ false
absent label text none = absent_so (is_placed label text) (times label (places_in text)) (stands label text) none

-- as many needs are open as rooms before
drop_one : (needs : List ℕ) (n : ℕ) → length needs ≡ suc n → length (drop 1 needs) ≡ n
drop_one [] n e = let no : ⊥ = omega arith in elim no [ ]
drop_one (x ∷ needs) n e = omega arith

open_so : (q : Piece) (n : ℕ) (behind : List Symbol) → ((m : ℕ) → AreClosed m behind → length (open_needs behind) ≡ m)
    → closes_at q n (λ m. AreClosed m behind) → length (needs_at q (open_needs behind)) ≡ n
open_so (APlace label) n behind h closed = h n closed
open_so (AUse head label) n behind h closed = h n closed
open_so (AWordUse label) n behind h closed = h n closed
open_so (ARoom head room) n behind h closed = drop_one (open_needs behind) n (h (suc n) closed)
open_so (ANeed need) zero behind h closed = elim closed [ ]
open_so (ANeed need) (suc n) behind h closed = let e : length (open_needs behind) ≡ n = h n closed in omega arith
open_so ACount n behind h closed = h n closed
open_so (AWord value) n behind h closed = h n closed
open_so (AnOrder op value) n behind h closed = h n closed

opened : (n : ℕ) (text : List Symbol) → AreClosed n text → length (open_needs text) ≡ n
opened n [] closed = sym closed
opened n (s ∷ text) closed = open_so (piece_of s) n text (λ m c. opened m text c) closed

-- which one of its sort a label is
place_below : (b : Bool) (label d c room : ℕ) → b ≡ nat_lt label (2 ^ 23)
    → (label < d) ⊎ ((2 ^ 23 ≤ label) × (label < 2 ^ 23 + c)) → d ≤ room → c ≤ room → d ≤ 2 ^ 23
    → (if b then label else label - 2 ^ 23) < room
place_below true label d c room e (inl small) dr cr dn = omega arith
place_below true label d c room e (inr (large, least)) dr cr dn =
    let less : label < 2 ^ 23 = ltb-true label (2 ^ 23) (sym e) in omega arith
place_below false label d c room e (inl small) dr cr dn = omega arith
place_below false label d c room e (inr (large, least)) dr cr dn = omega arith

module _ (t : Program) (bytes : ℕ) (scopes : IsInScope t) (few : HasFewLabels t) (sizes : HasSizes bytes (code_program t)) where
  abbrev text : List Symbol
  text = code_program t

  abbrev code : ℕ
  code = (are_numbered t scopes).0

  abbrev number : (label : ℕ) → 1 ≤ times label (places_in text) → IsNumber t code label
  number label some = is_number t code (are_numbered t scopes).1 few label some

  place_fits : (label : ℕ) → IsNumber t code label → place_of label < most_of bytes
  place_fits label n =
      let all : length (places_in text) ≡ program_numbers t + code = (are_numbered t scopes).1.all in
      let most : length (places_in text) ≤ most_of bytes = sizes.labels in
      place_below (nat_lt label (2 ^ 23)) label (program_numbers t) code (most_of bytes) refl n (omega arith) (omega arith)
      (few_declared t code (are_numbered t scopes).1 few)

  known : (label : ℕ) → is_placed label text ≡ true → IsKnown (most_of bytes) label text
  known label e = record { fits = place_fits label (number label (stands label text e)); stands = e }

  -- one symbol, where those behind it suit
  one_suits : (q : Piece) (value w n : ℕ) (behind : List Symbol) → counted_at q value w behind (IsCounted (words_of q + w) behind)
      → w + (words_of q + words_in behind) ≡ words_in text → closes_at q n (λ m. AreClosed m behind)
      → n + rooms_at q (rooms_in behind) ≤ rooms_in text
      → ((label : ℕ) → times_at label q + times label (places_in behind) ≤ times label (places_in text)) → Fits text q behind
      → IsRight q
      → ((m : ℕ) → IsCounted (words_of q + w) behind → AreClosed m behind → m + rooms_in behind ≤ rooms_in text
      → AllSuit (most_of bytes) text behind)
      → Suits (most_of bytes) text value q behind × AllSuit (most_of bytes) text behind
  one_suits (APlace label) value w n behind counted words closed rooms part fits right next =
      let one : chosen (label == label) ≡ 1 = ap chosen (eq-eqb label label refl) in
      let here : chosen (label == label) + times label (places_in behind) ≤ times label (places_in text) = part label in
      let most : times label (places_in text) ≤ 1 = placed_once t code (are_numbered t scopes).1 few label in (
        (
          place_fits label (number label (omega arith)),
          absent label behind (omega arith),
          goes_on (0 + w) behind
              counted,
        ),
        next n counted closed rooms,
      )
  one_suits (AUse head label) value w n behind counted words closed rooms part fits right next =
      ((known label fits.0, fits.1, goes_on (1 + w) behind counted), next n counted closed rooms)
  one_suits (AWordUse label) value w n behind counted words closed rooms part fits right next =
      ((known label fits, goes_on (1 + w) behind counted), next n counted closed rooms)
  one_suits (ARoom head room) value w n behind counted words closed rooms part fits right next =
      ((fits.0, fits.1, goes_on (1 + w) behind counted), next (suc n) counted closed (omega arith))
  one_suits (ANeed need) value w zero behind counted words closed rooms part fits right next = elim closed [ ]
  one_suits (ANeed need) value w (suc n) behind counted words closed rooms part fits right next =
      let are : length (open_needs behind) ≡ n = opened n behind closed in
      let most : rooms_in text ≤ most_of bytes = sizes.rooms in
      ((omega arith, goes_on (0 + w) behind counted), next n counted closed (omega arith))
  one_suits ACount value w n behind counted words closed rooms part fits right next =
      let none : words_in behind ≡ 0 = ap words_in counted.0 in
      let same : value ≡ w = counted.1 in
      ((counted.0, omega arith), subst (AllSuit (most_of bytes) text) (sym counted.0) tt)
  one_suits (AWord word) value w n behind counted words closed rooms part fits right next =
      (goes_on (1 + w) behind counted, next n counted closed rooms)
  one_suits (AnOrder op value1) value w n behind counted words closed rooms part fits right next =
      ((right, goes_on (1 + w) behind counted), next n counted closed rooms)

  all_suit : (w n : ℕ) (rest : List Symbol) → IsCounted w rest → w + words_in rest ≡ words_in text → AreClosed n rest
      → n + rooms_in rest ≤ rooms_in text
      → ((label : ℕ) → times label (places_in rest) ≤ times label (places_in text)) → AllFit text rest → AllRight rest
      → AllSuit (most_of bytes) text rest
  all_suit w n [] counted words closed rooms part fits right = tt
  all_suit w n (s ∷ rest) counted words closed rooms part fits right =
      let parts : (label : ℕ) → times_at label (piece_of s) + times label (places_in rest) ≤ times label (places_in text) =
      λ label. subst (λ k. k ≤ times label (places_in text)) (first_is label s rest) (part label) in
      one_suits (piece_of s) s.value w n rest counted words closed rooms parts fits.0 right.0
      (λ m c d r. all_suit (words_of (piece_of s) + w) m rest c (let e : w + (words_of (piece_of s) + words_in rest)
      ≡ words_in text = words in omega arith) d r
      (λ label. let less : times_at label (piece_of s) + times label (places_in rest) ≤ times label (places_in text) =
      parts label in omega arith) fits.1 right.1)

pub fitting_are_complete : FittingAreComplete
fitting_are_complete t bytes scopes few sizes fits = record {
  few = sizes.words;
  suits = all_suit t bytes scopes few sizes 0 0 (code_program t) (are_whole t).counted (omega arith) (are_whole t).closed (omega
      arith)
      (λ label. omega arith) fits (all_right t);
}
