-- Symbols that wait in a list: one more is put behind them, and how many of them are written.
use Rattle.std.proofs.Common.{◌<◌, ◌≡◌, ℕ, zero, suc, ◌+◌, ◌*◌, ◌-◌, ◌≤◌, List, [], ◌∷◌, ◌++◌, Option, None, Some, length, get_or, refl, ap, sym, ◌∙◌, arith, inl, inr, length-append, add-one}
use Rattle.std.proofs.lemmas.Bool.{cases_eq}
use Rattle.std.proofs.lemmas.List.{get_or_append_left}
use Rattle.std.proofs.Math.Seq.{get_or-append_right}
use Rattle.gier_symbol.specs.declared.symbol.Symbol.{Symbol}
use Rattle.gier_symbol.specs.Symbols.{IsSymbol, code_of, symbol_of_code}
use Rattle.gier_text.specs.declared.extent.Extent.{Extent}
use Rattle.gier_text.specs.Lists.{TableList, with_entry, list_in, nth_extent, end_of, IsLaid}
use Rattle.gier_text.specs.Outbox.{symbol_at, if_any, outbox_symbols_until, outbox_symbols}
use Rattle.gier_text.proofs.ListExtents.{length-segment}
use Rattle.gier_text.proofs.Writing.{decoded_code}
use Rattle.std.proofs.Math.Nat.{mul-le-mul_left}
use Rattle.gier_text.specs.Passes.{HasLess}
use Rattle.gier_text.specs.View.{View, WritesAll, IsFull}

until_same : (a b : TableList) (n : ℕ) → ((k : ℕ) → k < n → symbol_at a k ≡ symbol_at b k) → outbox_symbols_until a n ≡ outbox_symbols_until b n
until_same a b zero same = refl
until_same a b (suc n) same = rw (until_same a b n (λ k lt. same k (omega arith)), same n (omega arith)) refl

-- the words of an entry that was there before
kept_word : (words : List ℕ) (s : Symbol) (k p : ℕ) → p < length words → get_or (words ++ code_of s) p 0 ≡ get_or words p 0
kept_word words s k p lt = get_or_append_left words (code_of s) 0 p lt

kept_symbol : (list : TableList) (s : Symbol) (k : ℕ) → list.width ≡ 2 → length list.words ≡ 2 * list.count → k < list.count → symbol_at (with_entry list (code_of s)) k ≡ symbol_at list k
kept_symbol list s k wide long lt =
    let h : get_or (list.words ++ code_of s) (list.width * k + 0) 0 ≡ get_or list.words (list.width * k + 0) 0 = get_or_append_left list.words (code_of s) 0 (list.width * k + 0) (rw wide (omega arith)) in
    let v : get_or (list.words ++ code_of s) (list.width * k + 1) 0 ≡ get_or list.words (list.width * k + 1) 0 = get_or_append_left list.words (code_of s) 0 (list.width * k + 1) (rw wide (omega arith)) in
    ap (λ (x : ℕ). symbol_of_code x (get_or (list.words ++ code_of s) (list.width * k + 1) 0)) h ∙ ap (λ (x : ℕ). symbol_of_code (get_or list.words (list.width * k + 0) 0) x) v

put_word : (words code : List ℕ) (at part : ℕ) → length words ≡ at → get_or (words ++ code) (at + part) 0 ≡ get_or code part 0
put_word words code at part long =
    let place : (at + part) - length words ≡ part = omega arith in
    get_or-append_right words code (at + part) 0 (omega arith) ∙ ap (λ (p : ℕ). get_or code p 0) place

put_symbol : (list : TableList) (s : Symbol) → list.width ≡ 2 → length list.words ≡ 2 * list.count → IsSymbol s → symbol_at (with_entry list (code_of s)) list.count ≡ Some s
put_symbol list s wide long is =
    let h : get_or (list.words ++ code_of s) (list.width * list.count + 0) 0 ≡ s.tag * 16777216 + s.line = put_word list.words (code_of s) (list.width * list.count) 0 (rw wide long) in
    let v : get_or (list.words ++ code_of s) (list.width * list.count + 1) 0 ≡ s.value = put_word list.words (code_of s) (list.width * list.count) 1 (rw wide long) in
    ap (λ (x : ℕ). symbol_of_code x (get_or (list.words ++ code_of s) (list.width * list.count + 1) 0)) h ∙ ap (λ (x : ℕ). symbol_of_code (s.tag * 16777216 + s.line) x) v ∙ decoded_code s is

-- the words of a list are as many as its entries need
pub listed_words : (extents : List Extent) (used i : ℕ) (words : List ℕ) → IsLaid extents used → used ≤ length words → i < length extents → length (list_in words (nth_extent extents i)).words ≡ (nth_extent extents i).width * (nth_extent extents i).count
listed_words extents used i words laid fits il =
    let e = nth_extent extents i in
    let few : e.width * e.count ≤ e.width * e.capacity = mul-le-mul_left e.width (laid.room i il) in
    let end : end_of e ≤ used = laid.below i il in
    length-segment words e.base (e.width * e.count) (omega arith)

pub waiting_pushed : (list : TableList) (s : Symbol) → list.width ≡ 2 → length list.words ≡ 2 * list.count → IsSymbol s → outbox_symbols (with_entry list (code_of s)) ≡ outbox_symbols list ++ s ∷ []
waiting_pushed list s wide long is =
    rw (add-one, until_same (with_entry list (code_of s)) list list.count (λ k lt. kept_symbol list s k wide long lt), put_symbol list s wide long is) refl

-- fewer entries are no more symbols, and fewer where one of those between is a symbol
until_fewer : (list : TableList) (m n : ℕ) → m ≤ n → length (outbox_symbols_until list m) ≤ length (outbox_symbols_until list n)
until_fewer list m zero le = let none : m ≡ 0 = omega arith in rw none (omega arith)
until_fewer list m (suc n) le = elim (cases_eq m (suc n)) [
  | inl e ↦ rw e (omega arith)
  | inr ne ↦ omega (arith, until_fewer list m n (omega arith), length-append (outbox_symbols_until list n) (if_any (symbol_at list n)))
]

pub until_less : (list : TableList) (at n : ℕ) (s : Symbol) → at < n → symbol_at list at ≡ Some s → length (outbox_symbols_until list at) < length (outbox_symbols_until list n)
until_less list at n s lt is =
    let one : length (if_any (symbol_at list at)) ≡ 1 = ap (λ (o : Option Symbol). length (if_any o)) is in
    omega (arith, one, until_fewer list (suc at) n (omega arith), length-append (outbox_symbols_until list at) (if_any (symbol_at list at)))

pub until_more : (list : TableList) (at : ℕ) → outbox_symbols_until list (at + 1) ≡ outbox_symbols_until list at ++ if_any (symbol_at list at)
until_more list at = rw add-one refl

some_there : (o : Option Symbol) → 0 < length (if_any o) → (s : Symbol) × (o ≡ Some s)
some_there None lt = absurd (omega arith)
some_there (Some s) lt = (s, refl)

-- a text that holds its capacity before the last of them is written has less room than all of them want
pub less_room : (old new : View) (list : TableList) (at : ℕ) → WritesAll old (outbox_symbols_until list at) new → at < list.count → IsFull new × (0 < length (if_any (symbol_at list at))) → HasLess old (old.count + length (outbox_symbols list))
less_room old new list at writes lt full =
    let there = some_there (symbol_at list at) full.1 in
    (new.count, sym writes.capacity ∙ full.0, omega (arith, writes.count, until_less list at list.count there.0 lt there.1))
