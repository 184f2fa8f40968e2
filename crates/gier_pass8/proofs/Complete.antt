-- Whether a text is complete can be computed.
use Rattle.std.proofs.Common.{◌≡◌, ◌<◌, ◌+◌, ◌*◌, ◌/◌, ℕ, Bool, true, false, not, List, [], ◌∷◌, length, refl, arith, inl, inr}
use Rattle.std.specs.Prelude.{◌&&◌, nat_eq, nat_lt}
use Rattle.std.proofs.lemmas.Bool.{cases_eq, cases_lt}
use Rattle.std.proofs.lemmas.Bool.Decides.{nat_tests}
use Rattle.gier_symbol.specs.declared.symbol.Symbol.{Symbol}
use Rattle.gier_tree.specs.Complete.{place_of}
use Rattle.gier_tree.specs.Complete.{is_placed}
use Rattle.gier_tree.specs.Object.{Piece, APlace, AUse, AWordUse, ARoom, ANeed, ACount, AWord, AnOrder, piece_of, need_behind}
use Rattle.gier_tree.specs.Words.{words_in}
use Rattle.gier_tree.specs.Complete.{open_needs, IsOrderNumber, IsKnown, Suits, AllSuit, IsComplete}

both : (a b : Bool) → (a && b) ≡ true → (a ≡ true) × (b ≡ true)
both true true h = (refl, refl)
both true false h = absurd (cc)
both false b h = absurd (cc)

out : (a : Bool) → not a ≡ true → a ≡ false
out true h = absurd (cc)
out false h = refl

less : (a b : ℕ) → nat_lt a b ≡ true → a < b
less a b h = elim (cases_lt a b) [
  | inl lt ↦ lt
  | inr ge ↦ let test : nat_lt a b ≡ false = grind (arith, nat_tests) in absurd (cc)
]

same : (a b : ℕ) → nat_eq a b ≡ true → a ≡ b
same a b h = elim (cases_eq a b) [
  | inl e ↦ e
  | inr ne ↦ let test : nat_eq a b ≡ false = grind (arith, nat_tests) in absurd (cc)
]

abbrev is_some : List Symbol → Bool
is_some [] = false
is_some (s ∷ text) = true

some : (text : List Symbol) → is_some text ≡ true → 0 < length text
some [] h = absurd (cc)
some (s ∷ text) h = omega arith

none : (text : List Symbol) → not (is_some text) ≡ true → text ≡ []
none [] h = refl
none (s ∷ text) h = absurd (cc)

abbrev is_order : ℕ → Bool
is_order op = nat_lt 0 op && nat_lt op 56

order : (op : ℕ) → is_order op ≡ true → IsOrderNumber op
order op h = let tests = both (nat_lt 0 op) (nat_lt op 56) h in record { least = less 0 op tests.0; most = omega (arith, less op 56 tests.1) }

abbrev is_known : (room label : ℕ) → List Symbol → Bool
is_known room label text = nat_lt (place_of label) room && is_placed label text

known : (room label : ℕ) (text : List Symbol) → is_known room label text ≡ true → IsKnown room label text
known room label text h =
    let tests = both (nat_lt (place_of label) room) (is_placed label text) h in record { fits = less (place_of label) room tests.0; stands = tests.1 }

abbrev suits : (room : ℕ) → (text : List Symbol) → (value : ℕ) → Piece → (behind : List Symbol) → Bool
suits room text value (APlace label) behind = nat_lt (place_of label) room && (not (is_placed label behind) && is_some behind)
suits room text value (AUse head label) behind = is_known room label text && (is_order (head / 256) && is_some behind)
suits room text value (AWordUse label) behind = is_known room label text && is_some behind
suits room text value (ARoom head words) behind = nat_lt (words + need_behind behind 0) 16777216 && (is_order (head / 256) && is_some behind)
suits room text value (ANeed need) behind = nat_lt (length (open_needs behind)) room && is_some behind
suits room text value ACount behind = not (is_some behind) && nat_eq value (words_in text)
suits room text value (AWord word) behind = is_some behind
suits room text value (AnOrder op address) behind = is_order op && is_some behind

suited : (room : ℕ) (text : List Symbol) (value : ℕ) (piece : Piece) (behind : List Symbol) → suits room text value piece behind ≡ true
    → Suits room text value piece behind
suited room text value (APlace label) behind h =
    let first = both (nat_lt (place_of label) room) (not (is_placed label behind) && is_some behind) h in
    let last = both (not (is_placed label behind)) (is_some behind) first.1 in
    (less (place_of label) room first.0, out (is_placed label behind) last.0, some behind last.1)
suited room text value (AUse head label) behind h =
    let first = both (is_known room label text) (is_order (head / 256) && is_some behind) h in
    let last = both (is_order (head / 256)) (is_some behind) first.1 in
    (known room label text first.0, order (head / 256) last.0, some behind last.1)
suited room text value (AWordUse label) behind h =
    let tests = both (is_known room label text) (is_some behind) h in (known room label text tests.0, some behind tests.1)
suited room text value (ARoom head words) behind h =
    let first = both (nat_lt (words + need_behind behind 0) 16777216) (is_order (head / 256) && is_some behind) h in
    let last = both (is_order (head / 256)) (is_some behind) first.1 in
    (less (words + need_behind behind 0) 16777216 first.0, order (head / 256) last.0, some behind last.1)
suited room text value (ANeed need) behind h =
    let tests = both (nat_lt (length (open_needs behind)) room) (is_some behind) h in
    (less (length (open_needs behind)) room tests.0, some behind tests.1)
suited room text value ACount behind h =
    let tests = both (not (is_some behind)) (nat_eq value (words_in text)) h in (none behind tests.0, same value (words_in text) tests.1)
suited room text value (AWord word) behind h = some behind h
suited room text value (AnOrder op address) behind h =
    let tests = both (is_order op) (is_some behind) h in (order op tests.0, some behind tests.1)

abbrev all_suit : (room : ℕ) → (text : List Symbol) → List Symbol → Bool
all_suit room text [] = true
all_suit room text (s ∷ behind) = suits room text s.value (piece_of s) behind && all_suit room text behind

all_suited : (room : ℕ) (text behind : List Symbol) → all_suit room text behind ≡ true → AllSuit room text behind
all_suited room text [] h = tt
all_suited room text (s ∷ behind) h =
    let tests = both (suits room text s.value (piece_of s) behind) (all_suit room text behind) h in
    (suited room text s.value (piece_of s) behind tests.0, all_suited room text behind tests.1)

pub complete : (bytes : ℕ) (text : List Symbol) → nat_lt (words_in text) 16777216 ≡ true → all_suit (20 * bytes + 64) text text ≡ true
    → IsComplete bytes text
complete bytes text few suit = record { few = less (words_in text) 16777216 few; suits = all_suited (20 * bytes + 64) text text suit }
