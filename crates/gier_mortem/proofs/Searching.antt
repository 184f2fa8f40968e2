-- The search passes one symbol after the other: what that does to the words that were passed and to those that were asked for.
use Rattle.std.proofs.Common.{◌≡◌, ◌≢◌, ◌<◌, ◌≤◌, ◌+◌, ℕ, zero, suc, Bool, true, false, if◌then◌else◌, List, [], ◌∷◌, ◌++◌, length, map, Option, Some, inl, inr, refl, ap, sym, subst, ◌∙◌, arith, append_assoc}
use Rattle.std.specs.List.{All, slice_get}
use Rattle.std.proofs.lemmas.Bool.Decides.{eqb_tells}
use Rattle.std.proofs.lemmas.List.{length-append, length-map}
use Rattle.gier_symbol.specs.declared.symbol.Symbol.{Symbol}
use Rattle.gier_text.specs.declared.text.Way.TheVariants.{Forward}
use Rattle.gier_text.specs.SymbolsOnTracks.{symbols_of, all_symbols, text_on}
use Rattle.gier_text.specs.Own.{found_on}
use Rattle.gier_text.specs.View.{LeftFrom, IsLeftIn, OrdersLeft}
use Rattle.gier_mortem.specs.declared.lines.Asked.{Asked}
use Rattle.gier_tree.specs.WordLines.{is_word, word_lines}
use Rattle.gier_mortem.specs.WordLines.{addresses, greatest, told_line, AreFound, AreFoundBelow, Searched}

-- lines of words

if_true : (b : Bool) (xs ys : List ℕ) → b ≡ true → (if b then xs else ys) ≡ xs
if_true true xs ys is = refl
if_true false xs ys is = cc

if_false : (b : Bool) (xs ys : List ℕ) → b ≡ false → (if b then xs else ys) ≡ ys
if_false true xs ys is = cc
if_false false xs ys is = refl

if_append : (b : Bool) (n : ℕ) (xs ys : List ℕ) → (if b then n ∷ (xs ++ ys) else xs ++ ys) ≡ (if b then n ∷ xs else xs) ++ ys
if_append true n xs ys = refl
if_append false n xs ys = refl

lines-append : (ss ts : List Symbol) → word_lines (ss ++ ts) ≡ word_lines ss ++ word_lines ts
lines-append [] ts = refl
lines-append (s ∷ ss) ts = rw (lines-append ss ts) (if_append (is_word s.tag) s.line (word_lines ss) (word_lines ts))

lines_mark : (read : List Symbol) (s : Symbol) → is_word s.tag ≡ false → word_lines (read ++ s ∷ []) ≡ word_lines read
lines_mark read s mark = lines-append read (s ∷ []) ∙ ap (λ ns. word_lines read ++ ns) (if_false (is_word s.tag) (s.line ∷ []) [] mark) ∙ nothing (word_lines read)
  where
    nothing : (ns : List ℕ) → ns ++ [] ≡ ns
    nothing [] = refl
    nothing (n ∷ ns) = ap (λ ms. n ∷ ms) (nothing ns)

lines_word : (read : List Symbol) (s : Symbol) → is_word s.tag ≡ true → length (word_lines (read ++ s ∷ [])) ≡ length (word_lines read) + 1
lines_word read s word =
    ap length (lines-append read (s ∷ []) ∙ ap (λ ns. word_lines read ++ ns) (if_true (is_word s.tag) (s.line ∷ []) [] word)) ∙ length-append (word_lines read) (s.line ∷ [])

at_end : (ns : List ℕ) (n : ℕ) (ms : List ℕ) (k : ℕ) → length ns ≡ k → slice_get (ns ++ n ∷ ms) k ≡ Some n
at_end [] n ms zero is = refl
at_end [] n ms (suc k) is = absurd (omega arith)
at_end (m ∷ ns) n ms zero is = absurd (omega arith)
at_end (m ∷ ns) n ms (suc k) is = at_end ns n ms k (omega arith)

line_at : (read : List Symbol) (s : Symbol) (rest : List Symbol) (address : ℕ) → is_word s.tag ≡ true → length (word_lines read) ≡ address → slice_get (word_lines (read ++ s ∷ rest)) address ≡ Some s.line
line_at read s rest address word is =
    ap (λ ns. slice_get ns address) (lines-append read (s ∷ rest) ∙ ap (λ ns. word_lines read ++ ns) (if_true (is_word s.tag) (s.line ∷ word_lines rest) (word_lines rest) word))
    ∙ at_end (word_lines read) s.line (word_lines rest) address is

-- a line that is told

pub as_many : (asked all_symbols : List Asked) → addresses all_symbols ≡ addresses asked → length all_symbols ≡ length asked
as_many asked all_symbols same =
    sym (length-map all_symbols (λ (a : Asked). a.address)) ∙ ap length same ∙ length-map asked (λ (a : Asked). a.address)

pub all_symbols-addresses : (address line : ℕ) (asked : List Asked) → addresses (map (told_line address line) asked) ≡ addresses asked
all_symbols-addresses address line [] = refl
all_symbols-addresses address line (a ∷ asked) = elim (eqb_tells a.address address) [
  | inl same ↦ rw same.0 (ap (λ ns. a.address ∷ ns) (all_symbols-addresses address line asked))
  | inr other ↦ rw other.0 (ap (λ ns. a.address ∷ ns) (all_symbols-addresses address line asked))
]

abbrev IsFoundBelow : List ℕ → ℕ → Asked → Type 0
IsFoundBelow lines address a = a.address < address → slice_get lines a.address ≡ Some a.line

told_one : (lines : List ℕ) (address line : ℕ) (a : Asked) → slice_get lines address ≡ Some line → IsFoundBelow lines address a → IsFoundBelow lines (address + 1) (told_line address line a)
told_one lines address line a here found = elim (eqb_tells a.address address) [
  | inl same ↦ rw same.0 (λ below. ap (λ n. slice_get lines n) same.1 ∙ here)
  | inr other ↦ rw other.0 (λ below. found (grind (arith, other.1)))
]

all_cons : (P : Asked → Type 0) (a : Asked) (asked : List Asked) → P a → All P asked → All P (a ∷ asked)
all_cons P a asked first others zero d lt = first
all_cons P a asked first others (suc k) d lt = others k d (omega arith)

told_all : (lines : List ℕ) (address line : ℕ) (asked : List Asked) → slice_get lines address ≡ Some line → AreFoundBelow lines address asked → AreFoundBelow lines (address + 1) (map (told_line address line) asked)
told_all lines address line [] here found = λ k d lt. absurd (omega arith)
told_all lines address line (a ∷ asked) here found =
    all_cons (IsFoundBelow lines (address + 1)) (told_line address line a) (map (told_line address line) asked) (told_one lines address line a here (found 0 a (omega arith)))
    (told_all lines address line asked here (λ k d lt. found (suc k) d (omega arith)))

-- steps

pub begins : (before : Option (List Symbol)) (asked : List Asked) (last : ℕ) → Searched before (addresses asked) before asked 0 last
begins before asked last = record {
  same = refl;
  within = omega arith;
  passed = λ list all_symbols. ([], list, refl, all_symbols, refl, λ k d lt below. absurd (omega arith));
}

pub passes_mark : (before : Option (List Symbol)) (wanted : List ℕ) (left new : Option (List Symbol)) (asked : List Asked) (address last : ℕ) (s : Symbol) → Searched before wanted left asked address last → LeftFrom left (s ∷ []) new → is_word s.tag ≡ false → Searched before wanted new asked address last
passes_mark before wanted left new asked address last s searched from mark = record {
  same = searched.same;
  within = searched.within;
  passed = λ list all_symbols.
      let was = searched.passed list all_symbols in
      let next = subst (λ (l : Option (List Symbol)). LeftFrom l (s ∷ []) new) was.3 from in
      let whole : list ≡ (was.0 ++ s ∷ []) ++ next.0 = was.2 ∙ ap (λ (ss : List Symbol). was.0 ++ ss) next.1 ∙ sym (append_assoc was.0 (s ∷ []) next.0) in
      (was.0 ++ s ∷ [], next.0, whole, next.2, ap length (lines_mark was.0 s mark) ∙ was.4, was.5);
}

after_word : (before left new : Option (List Symbol)) (wanted : List ℕ) (asked all_symbols : List Asked) (address last : ℕ) (s : Symbol) → Searched before wanted left asked address last → LeftFrom left (s ∷ []) new → is_word s.tag ≡ true → all_symbols ≡ map (told_line address s.line) asked → (list : List Symbol) → before ≡ Some list → (read rest : List Symbol) × (list ≡ read ++ rest) × (new ≡ Some rest) × (length (word_lines read) ≡ address + 1) × AreFoundBelow (word_lines list) (address + 1) all_symbols
after_word before left new wanted asked all_symbols address last s searched from word is list is_told =
    let was = searched.passed list is_told in
    let next = subst (λ (l : Option (List Symbol)). LeftFrom l (s ∷ []) new) was.3 from in
    let split : list ≡ was.0 ++ s ∷ next.0 = was.2 ∙ ap (λ (ss : List Symbol). was.0 ++ ss) next.1 in
    let whole : list ≡ (was.0 ++ s ∷ []) ++ next.0 = split ∙ sym (append_assoc was.0 (s ∷ []) next.0) in
    let line : slice_get (word_lines list) address ≡ Some s.line = ap (λ (ss : List Symbol). slice_get (word_lines ss) address) split ∙ line_at was.0 s next.0 address word was.4 in
    (was.0 ++ s ∷ [], next.0, whole, next.2, lines_word was.0 s word ∙ ap (λ (n : ℕ). n + 1) was.4, rw is (told_all (word_lines list) address s.line asked line was.5))

pub passes_word : (before left new : Option (List Symbol)) (wanted : List ℕ) (asked all_symbols : List Asked) (address last : ℕ) (s : Symbol) → Searched before wanted left asked address last → LeftFrom left (s ∷ []) new → is_word s.tag ≡ true → all_symbols ≡ map (told_line address s.line) asked → address ≢ last → Searched before wanted new all_symbols (address + 1) last
passes_word before left new wanted asked all_symbols address last s searched from word is other = record {
  same = rw is (all_symbols-addresses address s.line asked ∙ searched.same);
  within = grind (arith, searched.within, other);
  passed = after_word before left new wanted asked all_symbols address last s searched from word is;
}

-- all that were asked for lie below one more than the greatest

below_greatest : (asked : List Asked) (most : ℕ) → greatest (addresses asked) ≤ most → All (λ (a : Asked). a.address < most + 1) asked
below_greatest [] most le = λ k d lt. absurd (omega arith)
below_greatest (a ∷ asked) most le = all_cons (λ (b : Asked). b.address < most + 1) a asked (omega (arith, le)) (below_greatest asked most (omega (arith, le)))

pub finds : (before left new : Option (List Symbol)) (wanted : List ℕ) (asked all_symbols : List Asked) (address last : ℕ) (s : Symbol) → Searched before wanted left asked address last → LeftFrom left (s ∷ []) new → is_word s.tag ≡ true → all_symbols ≡ map (told_line address s.line) asked → address ≡ last → last ≡ greatest wanted → (list : List Symbol) → before ≡ Some list → AreFound (word_lines list) all_symbols
finds before left new wanted asked all_symbols address last s searched from word is same last_is list is_told =
    let found = (after_word before left new wanted asked all_symbols address last s searched from word is list is_told).5 in
    let addresses_are : addresses all_symbols ≡ wanted = rw is (all_symbols-addresses address s.line asked ∙ searched.same) in
    let most : greatest (addresses all_symbols) ≤ address = omega (arith, ap greatest addresses_are, same, last_is) in
    λ k d lt. found k d lt (below_greatest all_symbols address most k d lt)

pub too_short : (before left : Option (List Symbol)) (wanted : List ℕ) (asked : List Asked) (address last : ℕ) → Searched before wanted left asked address last → IsLeftIn left [] → last ≡ greatest wanted → (list : List Symbol) → before ≡ Some list → length (word_lines list) ≤ greatest wanted
too_short before left wanted asked address last searched ends last_is list is_told =
    let was = searched.passed list is_told in
    let none : was.1 ≡ [] = subst (λ (l : Option (List Symbol)). IsLeftIn l []) was.3 ends in
    let split : word_lines list ≡ word_lines was.0 ++ [] = ap word_lines (was.2 ∙ ap (λ (ss : List Symbol). was.0 ++ ss) none) ∙ lines-append was.0 [] in
    omega (arith, ap length split, length-append (word_lines was.0) [], was.4, searched.within, last_is)

-- a text of which nothing was read

pub left_whole : (tracks : Option (List (List ℕ))) (first loaded : ℕ) (buffer : List ℕ) (count from symbols : ℕ) (left : Option (List Symbol)) (list : List Symbol) → loaded ≡ 0 → first ≡ from → count ≡ symbols → OrdersLeft (all_symbols (symbols_of tracks first loaded buffer count)) Forward left → text_on tracks from symbols ≡ Some list → left ≡ Some list
left_whole tracks first loaded buffer count from symbols left list none here all orders is =
    let held : all_symbols (symbols_of tracks first loaded buffer count) ≡ Some list = found_on tracks first loaded buffer count none ∙ rw (here, all) is in
    subst (λ (h : Option (List Symbol)). OrdersLeft h Forward left) held orders
