-- A symbol that waits in a list gets another value: the list stays what it was, and weighs what it weighed.
use Rattle.std.proofs.Common.{◌<◌, ◌≡◌, ℕ, zero, suc, ◌+◌, ◌*◌, ◌/◌, ◌%◌, ◌^◌, ◌≤◌, List, [], ◌∷◌, ◌++◌, Option, None, Some, length, get_or, refl, ap, sym, ◌∙◌, arith, inl, inr, length-append, length-set, append_assoc, Bool, true, false}
use Rattle.std.specs.Prelude.{◌≢◌, ◌&&◌, nat_lt, if◌then◌else◌, slice_set, All}
use Rattle.std.proofs.lemmas.Bool.{cases_eq}
use Rattle.std.proofs.lemmas.Bool.Decides.{nat_tests}
use Rattle.std.proofs.lemmas.List.{get_or-set_same, get_or-set_other}
use Rattle.std.proofs.lemmas.List.Elements.{All-append}
use Rattle.gier_symbol.specs.declared.symbol.Symbol.{Symbol}
use Rattle.gier_symbol.specs.Symbols.{symbol_of_code}
use Rattle.gier_symbol.specs.declared.tag.Tag.TheVariants.{Description}
use Rattle.gier_symbol.specs.Tags.{number_of}
use Rattle.gier_text.specs.Potential.{potential, potential_of}
use Rattle.gier_text.specs.TablesModel.{TablesModel, with_at}
use Rattle.gier_text.specs.Lists.{TableList, with_word, word_at}
use Rattle.gier_text.specs.Outbox.{outbox_symbols, outbox_symbols_until, symbol_at, if_any}
use Rattle.gier_pass4.specs.Lists.{IsLetter, IsQueue, Grows, potential_stored}
use Rattle.gier_pass4.proofs.Weights.{weight_append, All-left, All-last}
use Rattle.gier_pass4.proofs.ListReplacement.{same_at, other_at}

abbrev pub with_value : Symbol → ℕ → Symbol
with_value s v = record { tag = s.tag; value = v; line = s.line }

abbrev some_of : Symbol → Option Symbol → Symbol
some_of s None = s
some_of s (Some x) = x

decoded_by : (b c d : Bool) (tag line value v : ℕ) (s : Symbol) → d ≡ true → (if b && c then Some (record { tag = tag; value = value; line = line }) else None) ≡ Some s → (if b && d then Some (record { tag = tag; value = v; line = line }) else None) ≡ Some (with_value s v)
decoded_by true true d tag line value v s small is = rw small (ap (λ (x : Symbol). Some (with_value x v)) (ap (λ (o : Option Symbol). some_of s o) is))
decoded_by true false d tag line value v s small is = absurd (cc is)
decoded_by false c d tag line value v s small is = absurd (cc is)

lt_true : (m n : ℕ) → m < n → nat_lt m n ≡ true
lt_true m n h = grind (arith, nat_tests)

decoded : (head value v : ℕ) (s : Symbol) → v < 2 ^ 40 → symbol_of_code head value ≡ Some s → symbol_of_code head v ≡ Some (with_value s v)
decoded head value v s small is = decoded_by _ (nat_lt value (2 ^ 40)) (nat_lt v (2 ^ 40)) (head / 2 ^ 24) (head % 2 ^ 24) value v s (lt_true v (2 ^ 40) small) is

-- words of a list whose entries have two
value_here : (words : List ℕ) (at v : ℕ) → 2 * at + 1 < length words → get_or (slice_set words (2 * at + 1) v) (2 * at + 1) 0 ≡ v
value_here words at v lt = get_or-set_same words (2 * at + 1) v 0 lt

other_word : (words : List ℕ) (at v k : ℕ) → k ≢ 2 * at + 1 → get_or (slice_set words (2 * at + 1) v) k 0 ≡ get_or words k 0
other_word words at v k ne = get_or-set_other words (2 * at + 1) k v 0 ne

pub given_at : (list : TableList) (at v : ℕ) (s : Symbol) → list.width ≡ 2 → 2 * at + 1 < length list.words → v < 2 ^ 40 → symbol_at list at ≡ Some s → symbol_at (with_word list at 1 v) at ≡ Some (with_value s v)
given_at list at v s wide lt small is =
    let head : word_at (with_word list at 1 v) at 0 ≡ word_at list at 0 = rw wide (other_word list.words at v (2 * at + 0) (λ e. omega arith)) in
    let value : word_at (with_word list at 1 v) at 1 ≡ v = rw wide (value_here list.words at v lt) in
    rw (head, value) (decoded (word_at list at 0) (word_at list at 1) v s small is)

pub kept_at : (list : TableList) (at v k : ℕ) → list.width ≡ 2 → k ≢ at → symbol_at (with_word list at 1 v) k ≡ symbol_at list k
kept_at list at v k wide ne =
    let head : word_at (with_word list at 1 v) k 0 ≡ word_at list k 0 = rw wide (other_word list.words at v (2 * k + 0) (λ e. omega arith)) in
    let value : word_at (with_word list at 1 v) k 1 ≡ word_at list k 1 = rw wide (other_word list.words at v (2 * k + 1) (λ e. ne (omega arith))) in
    rw (head, value) refl

-- one symbol of a list in place of another
record Replaces (s new : Symbol) (xs ys : List Symbol) : Type 0 where
  pub before : List Symbol
  pub behind : List Symbol
  pub old : xs ≡ before ++ s ∷ behind
  pub now : ys ≡ before ++ new ∷ behind

kept_until : (list : TableList) (at v n : ℕ) → list.width ≡ 2 → n ≤ at → outbox_symbols_until (with_word list at 1 v) n ≡ outbox_symbols_until list n
kept_until list at v zero wide le = refl
kept_until list at v (suc n) wide le = rw (kept_until list at v n wide (omega arith), kept_at list at v n wide (λ e. omega arith)) refl

replaced_more : (s new : Symbol) (xs ys more : List Symbol) → Replaces s new xs ys → Replaces s new (xs ++ more) (ys ++ more)
replaced_more s new xs ys more r = record {
  before = r.before;
  behind = r.behind ++ more;
  old = rw r.old (append_assoc r.before (s ∷ r.behind) more);
  now = rw r.now (append_assoc r.before (new ∷ r.behind) more);
}

replaced_until : (list : TableList) (at v n : ℕ) (s : Symbol) → list.width ≡ 2 → 2 * at + 1 < length list.words → v < 2 ^ 40 → symbol_at list at ≡ Some s → at < n → Replaces s (with_value s v) (outbox_symbols_until list n) (outbox_symbols_until (with_word list at 1 v) n)
replaced_until list at v zero s wide lt small is few = absurd (omega arith)
replaced_until list at v (suc n) s wide lt small is few = elim (cases_eq n at) [
  | inl e ↦ rw e (record {
    before = outbox_symbols_until list at;
    behind = [];
    old = rw is refl;
    now = rw (kept_until list at v at wide (omega arith), given_at list at v s wide lt small is) refl;
  })
  | inr ne ↦ rw (kept_at list at v n wide ne) (replaced_more s (with_value s v) (outbox_symbols_until list n) (outbox_symbols_until (with_word list at 1 v) n) (if_any (symbol_at list n)) (replaced_until list at v n s wide lt small is (omega arith)))
]

replaced_length : (s new : Symbol) (xs ys : List Symbol) → Replaces s new xs ys → length ys ≡ length xs
replaced_length s new xs ys r = rw (r.old, r.now) (omega (arith, length-append r.before (s ∷ r.behind), length-append r.before (new ∷ r.behind)))

replaced_weight : (s new : Symbol) (xs ys : List Symbol) → new.tag ≡ s.tag → Replaces s new xs ys → potential 4 ys ≡ potential 4 xs
replaced_weight s new xs ys same r =
    let one : potential_of 4 new.tag ≡ potential_of 4 s.tag = ap (λ (n : ℕ). potential_of 4 n) same in
    rw (r.old, r.now) (omega (arith, one, weight_append 4 r.before (s ∷ r.behind), weight_append 4 r.before (new ∷ r.behind)))

All-tail : (P : Symbol → Type 0) (x : Symbol) (xs : List Symbol) → All P (x ∷ xs) → All P xs
All-tail P x xs h = λ k d lt. h (suc k) d (omega arith)

All-right : (P : Symbol → Type 0) (xs ys : List Symbol) → All P (xs ++ ys) → All P ys
All-right P [] ys h = h
All-right P (x ∷ xs) ys h = All-right P xs ys (All-tail P x (xs ++ ys) h)

All-cons : (P : Symbol → Type 0) (x : Symbol) (xs : List Symbol) → P x → All P xs → All P (x ∷ xs)
All-cons P x xs h hs = All-append P (x ∷ []) xs (λ k d lt. let none : k ≡ 0 = omega arith in rw none h) hs

replaced_all : (P : Symbol → Type 0) (s new : Symbol) (xs ys : List Symbol) → (P s → P new) → Replaces s new xs ys → All P xs → All P ys
replaced_all P s new xs ys f r h =
    let parts : All P (r.before ++ s ∷ r.behind) = rw (sym r.old) h in
    let behind : All P r.behind = All-tail P s r.behind (All-right P r.before (s ∷ r.behind) parts) in
    rw r.now (All-append P r.before (new ∷ r.behind) (All-left P r.before (s ∷ r.behind) parts) (All-cons P new r.behind (f (All-last P r.before s r.behind parts)) behind))

pub queue_given : (bytes room : ℕ) (list : TableList) (at v : ℕ) (s : Symbol) → IsQueue bytes list room → at < list.count → v < 2 ^ 40 → symbol_at list at ≡ Some s → (IsLetter bytes s → IsLetter bytes (with_value s v)) → IsQueue bytes (with_word list at 1 v) room
queue_given bytes room list at v s is lt small here letter =
    let replaces : Replaces s (with_value s v) (outbox_symbols list) (outbox_symbols (with_word list at 1 v)) = replaced_until list at v list.count s is.width (omega (arith, is.words, lt)) small here lt in
    record {
      width = is.width;
      capacity = is.capacity;
      words = length-set list.words (list.width * at + 1) v ∙ is.words;
      whole = replaced_length s (with_value s v) _ _ replaces ∙ is.whole;
      letters = replaced_all (IsLetter bytes) s (with_value s v) _ _ letter replaces is.letters;
    }

pub weight_given : (bytes room : ℕ) (list : TableList) (at v : ℕ) (s : Symbol) → IsQueue bytes list room → at < list.count → v < 2 ^ 40 → symbol_at list at ≡ Some s → potential 4 (outbox_symbols (with_word list at 1 v)) ≡ potential 4 (outbox_symbols list)
weight_given bytes room list at v s is lt small here = replaced_weight s (with_value s v) _ _ refl (replaced_until list at v list.count s is.width (omega (arith, is.words, lt)) small here lt)

-- no list becomes heavier
same_stored : (t u : TablesModel) (i k : ℕ) (x : TableList) → i < length t.lists → u ≡ with_at t i x → potential 4 (outbox_symbols x) ≡ potential_stored t i → potential_stored u k ≡ potential_stored t k
same_stored t u i k x lt e same = elim (cases_eq k i) [
  | inl is ↦ rw is (ap (λ (kept : TablesModel). potential_stored kept i) e ∙ ap (λ (l : TableList). potential 4 (outbox_symbols l)) (same_at t i x lt) ∙ same)
  | inr ne ↦ ap (λ (kept : TablesModel). potential_stored kept k) e ∙ ap (λ (l : TableList). potential 4 (outbox_symbols l)) (other_at t i k x ne)
]

pub grows_none : (t u : TablesModel) (i : ℕ) (x : TableList) → i < length t.lists → u ≡ with_at t i x → potential 4 (outbox_symbols x) ≡ potential_stored t i → Grows t u 0 0 0 0 0
grows_none t u i x lt e same = record {
  out = omega (arith, same_stored t u i 0 x lt e same);
  entries = omega (arith, same_stored t u i 1 x lt e same);
  own_entries = omega (arith, same_stored t u i 2 x lt e same);
  owns = omega (arith, same_stored t u i 3 x lt e same);
  formals = omega (arith, same_stored t u i 4 x lt e same);
  limit = ap (λ (kept : TablesModel). kept.limit) e;
}

-- a kind's number in place of another value of a description
pub letter_given : (bytes v : ℕ) (s : Symbol) → v < 2 ^ 40 → s.tag ≡ number_of Description → IsLetter bytes s → IsLetter bytes (with_value s v)
letter_given bytes v s small is h = record {
  symbol = record { tag = h.symbol.tag; value = small; line = h.symbol.line };
  letter = h.letter;
  numbered = rw is refl;
}
