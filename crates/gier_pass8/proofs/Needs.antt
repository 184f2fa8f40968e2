-- Addresses, orders and needs of a text that is taken from its end.
use Rattle.std.proofs.Common.{◌≡◌, ◌≢◌, ◌≤◌, ◌<◌, ◌∷◌, ◌++◌, ◌+◌, ◌*◌, ◌-◌, ◌/◌, ◌%◌, ◌∙◌, ℕ, zero, suc, true, false, List, []}
use Rattle.std.proofs.Common.{length, take, drop, reverse, refl, sym, ap, arith, inl, inr, get_or}
use Rattle.std.specs.Prelude.{nat_eq, nat_le, nat_lt}
use Rattle.std.proofs.lemmas.Bool.{cases_eq}
use Rattle.std.proofs.lemmas.Bool.Decides.{nat_tests}
use Rattle.std.proofs.lemmas.List.{length-reverse, reverse-append}
use Rattle.std.proofs.Math.Seq.{take-append_seam, get_or-append_seam}
use Rattle.gier_symbol.specs.declared.symbol.Symbol.{Symbol}
use Rattle.gier_text.specs.TablesModel.{TablesModel}
use Rattle.gier_text.specs.Lists.{TableList, with_entry, cut_to}
use Rattle.gier_tree.specs.Object.{Piece, APlace, AUse, AWordUse, ARoom, ANeed, ACount, AWord, AnOrder, piece_of}
use Rattle.gier_tree.specs.Object.{words_of, address_at, address_of, need_at, need_behind, known_order}
use Rattle.gier_pass8.specs.Words.{sum_of, with_address}
use Rattle.gier_pass8.specs.Steps.{last_need}
use Rattle.gier_pass8.specs.Knowledge.{needs_of, with_need, without_need}
use Rattle.gier_tree.specs.Words.{words_in}
use Rattle.gier_tree.specs.Complete.{needs_at, open_needs, IsOrderNumber}
use Rattle.gier_pass8.specs.FromTheEnd.{HasNeeds}

-- Numbers and labels

pub same_self : (n : ℕ) → nat_eq n n ≡ true
same_self n = grind (arith, nat_tests)

pub differs : (a b : ℕ) → a ≢ b → nat_eq a b ≡ false
differs a b ne = grind (arith, nat_tests)

pub small_sum : (a b : ℕ) → a + b < 16777216 → sum_of a b ≡ a + b
small_sum a b lt = let test : nat_lt (a + b) 16777216 ≡ true = grind (arith, nat_tests) in rw test refl

pub small_alone : (a : ℕ) → a < 16777216 → sum_of a 0 ≡ a
small_alone a lt = let none : a + 0 ≡ a = omega arith in small_sum a 0 (omega (arith, lt)) ∙ none

bound_by : (piece : Piece) (label before words later : ℕ) → later ≤ before + words_of piece + words
    → address_at piece label before later ≤ before + (words_of piece + words)
bound_by (APlace found) label before words later le = elim (cases_eq found label) [
  | inl e ↦ let test : nat_eq found label ≡ true = grind (arith, nat_tests) in rw test (omega arith)
  | inr ne ↦ rw (differs found label ne) (omega (arith, le))
]
bound_by (AUse head used) label before words later le = omega (arith, le)
bound_by (AWordUse used) label before words later le = omega (arith, le)
bound_by (ARoom head room) label before words later le = omega (arith, le)
bound_by (ANeed need) label before words later le = omega (arith, le)
bound_by ACount label before words later le = omega (arith, le)
bound_by (AWord value) label before words later le = omega (arith, le)
bound_by (AnOrder op value) label before words later le = omega (arith, le)

-- no address is above the number of words
pub bound : (behind : List Symbol) (label before : ℕ) → address_of behind label before ≤ before + words_in behind
bound [] label before = omega arith
bound (s ∷ behind) label before =
    bound_by (piece_of s) label before (words_in behind) (address_of behind label (before + words_of (piece_of s)))
    (bound behind label (before + words_of (piece_of s)))

-- an order of the text becomes one with an address
pub filled_is : (s : Symbol) (address : ℕ) → IsOrderNumber (s.value / 16777216 / 256)
    → with_address s address ≡ known_order (s.value / 16777216) address s.line
filled_is s address order =
    let is : s.value / 16777216 / 256 ≡ s.value / 4294967296 = omega arith in
    let level : s.value % 4294967296 / 16777216 ≡ s.value / 16777216 % 256 = omega arith in
    let some : nat_lt 0 (s.value / 4294967296) ≡ true = grind (arith, nat_tests, order.least, is) in
    let few : nat_le (s.value / 4294967296) 55 ≡ true = grind (arith, nat_tests, order.most, is) in
    rw (some, few, level, is) refl

-- Needs

turned : (need : ℕ) (needs : List ℕ) → reverse (need ∷ needs) ≡ reverse needs ++ need ∷ []
turned need needs = reverse-append (need ∷ []) needs

pub needs_stay : (t u : TablesModel) (needs : List ℕ) → needs_of u ≡ needs_of t → HasNeeds t needs → HasNeeds u needs
needs_stay t u needs same h = record {
  words = ap (λ (l : TableList). l.words) same ∙ h.words;
  count = ap (λ (l : TableList). l.count) same ∙ h.count;
}

pub needs_more : (room need : ℕ) (t u : TablesModel) (needs : List ℕ) → length needs < room → needs_of u ≡ with_need room need (needs_of t)
    → HasNeeds t needs → HasNeeds u (need ∷ needs)
needs_more room need t u needs fits same h =
    let test : nat_lt (needs_of t).count room ≡ true = grind (arith, nat_tests, h.count, fits) in
    let more : needs_of u ≡ with_entry (needs_of t) (need ∷ []) = rw test at same in
    record {
      words = ap (λ (l : TableList). l.words) more ∙ ap (λ (l : List ℕ). l ++ need ∷ []) h.words ∙ sym (turned need needs);
      count = omega (arith, ap (λ (l : TableList). l.count) more, h.count);
    }

cut_last : (width : ℕ) (needs : List ℕ) (need : ℕ) (words : List ℕ) (count : ℕ) → width ≡ 1 → words ≡ reverse needs ++ need ∷ []
    → count ≡ length needs → take (width * count) words ≡ reverse needs
cut_last width needs need words count wide is all =
    let whole : width * count ≡ length (reverse needs) = rw wide (omega (arith, all, length-reverse needs)) in
    rw (whole, is) (take-append_seam (reverse needs) (need ∷ []))

pub needs_less : (t u : TablesModel) (needs : List ℕ) → (needs_of t).width ≡ 1 → needs_of u ≡ without_need (needs_of t) → HasNeeds t needs
    → HasNeeds u (drop 1 needs)
needs_less t u [] wide same h =
    let none : (needs_of t).count ≡ 0 = h.count in
    let test : nat_eq (needs_of t).count 0 ≡ true = grind (arith, nat_tests, none) in
    needs_stay t u [] (rw test at same) h
needs_less t u (need ∷ needs) wide same h =
    let some : (needs_of t).count ≡ suc (length needs) = h.count in
    let test : nat_eq (needs_of t).count 0 ≡ false = grind (arith, nat_tests, some) in
    let less : needs_of u ≡ cut_to (needs_of t) ((needs_of t).count - 1) = rw test at same in
    let all : (needs_of t).count - 1 ≡ length needs = omega (arith, some) in
    record {
      words = ap (λ (l : TableList). l.words) less
          ∙ cut_last (needs_of t).width needs need (needs_of t).words ((needs_of t).count - 1) wide (h.words ∙ turned need needs) all;
      count = ap (λ (l : TableList). l.count) less ∙ all;
    }

-- the innermost need is the one that the definition looks for
nth_dropped : (needs : List ℕ) (k : ℕ) → get_or (drop 1 needs) k 0 ≡ get_or needs (suc k) 0
nth_dropped [] k = refl
nth_dropped (need ∷ needs) k = refl

need_by : (piece : Piece) (go_on : ℕ → ℕ) (needs : List ℕ) (inner : ℕ) → ((k : ℕ) → go_on k ≡ get_or needs k 0)
    → need_at piece inner go_on ≡ get_or (needs_at piece needs) inner 0
need_by (APlace label) go_on needs inner same = same inner
need_by (AUse head label) go_on needs inner same = same inner
need_by (AWordUse label) go_on needs inner same = same inner
need_by (ARoom head words) go_on needs inner same = same (suc inner) ∙ sym (nth_dropped needs inner)
need_by (ANeed need) go_on needs zero same = refl
need_by (ANeed need) go_on needs (suc inner) same = same inner
need_by ACount go_on needs inner same = same inner
need_by (AWord value) go_on needs inner same = same inner
need_by (AnOrder op value) go_on needs inner same = same inner

pub need_is : (behind : List Symbol) (inner : ℕ) → need_behind behind inner ≡ get_or (open_needs behind) inner 0
need_is [] inner = refl
need_is (s ∷ behind) inner = need_by (piece_of s) (need_behind behind) (open_needs behind) inner (need_is behind)

pub last_by : (t : TablesModel) (needs : List ℕ) → (needs_of t).width ≡ 1 → HasNeeds t needs → last_need t ≡ get_or needs 0 0
last_by t [] wide h =
    let none : (needs_of t).count ≡ 0 = h.count in
    let test : nat_eq (needs_of t).count 0 ≡ true = grind (arith, nat_tests, none) in
    rw test refl
last_by t (need ∷ needs) wide h =
    let some : (needs_of t).count ≡ suc (length needs) = h.count in
    let test : nat_eq (needs_of t).count 0 ≡ false = grind (arith, nat_tests, some) in
    let at : (needs_of t).width * ((needs_of t).count - 1) + 0 ≡ length (reverse needs) = rw wide (omega (arith, some, length-reverse needs)) in
    rw (test, at, h.words, turned need needs) (get_or-append_seam (reverse needs) need [] 0)
