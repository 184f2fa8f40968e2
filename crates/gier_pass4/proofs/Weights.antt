-- What symbols weigh, and what waits in a list of which the last entries are cut off.
use Rattle.std.proofs.Common.{◌<◌, ◌≡◌, ℕ, zero, suc, ◌+◌, ◌*◌, ◌≤◌, List, [], ◌∷◌, ◌++◌, Option, None, Some, length, get_or, refl, ap, subst, ◌∙◌, arith, inl, inr, length-append, add-one, Bool, true, false, take}
use Rattle.std.specs.Prelude.{All, IsTrue, not, ◌≢◌, ◌||◌, if◌then◌else◌}
use Rattle.std.proofs.lemmas.Bool.{cases_eq}
use Rattle.std.proofs.lemmas.List.{get_or_append_left, get_or-take}
use Rattle.gier_symbol.specs.declared.symbol.Symbol.{Symbol}
use Rattle.gier_symbol.specs.Symbols.{symbol_of_code}
use Rattle.gier_text.specs.Potential.{is_name, is_number_in, is_numbered, potential, potential_of}
use Rattle.gier_text.specs.TablesModel.{TablesModel}
use Rattle.gier_text.specs.Lists.{TableList, cut_to, list_at}
use Rattle.gier_text.specs.Outbox.{symbol_at, if_any, outbox_symbols_until, outbox_symbols}
use Rattle.gier_pass4.specs.Lists.{Adds, Copies}

pub weight_append : (text : ℕ) (xs ys : List Symbol) → potential text (xs ++ ys) ≡ potential text xs + potential text ys
weight_append text [] ys = omega arith
weight_append text (x ∷ xs) ys = omega (arith, weight_append text xs ys)

some_by : (b : Bool) → 1 ≤ (if b then 4 else 1)
some_by true = omega arith
some_by false = omega arith

pub some_weight : (tag : ℕ) → 1 ≤ potential_of 4 tag
some_weight tag = some_by _

pub length_weight : (xs : List Symbol) → length xs ≤ potential 4 xs
length_weight [] = omega arith
length_weight (x ∷ xs) = omega (arith, length_weight xs, some_weight x.tag)

lighter_by : (a b c d : Bool) → (if c then 4 else 1) ≤ (if a then 6 else (if b then 5 else (if c || d then 4 else 1)))
lighter_by true b true d = omega arith
lighter_by true b false d = omega arith
lighter_by false true true d = omega arith
lighter_by false true false d = omega arith
lighter_by false false true d = omega arith
lighter_by false false false true = omega arith
lighter_by false false false false = omega arith

-- a symbol that is handed on isn't heavier in text 4
pub lighter : (tag : ℕ) → potential_of 4 tag ≤ potential_of 3 tag
lighter tag = lighter_by _ _ _ _

pub All-left : {X : Type 0} (P : X → Type 0) → (xs ys : List X) → All P (xs ++ ys) → All P xs
All-left P xs ys h = λ k d lt. subst P (get_or_append_left xs ys d k lt) (h k d (omega (arith, length-append xs ys)))

pub All-last : {X : Type 0} (P : X → Type 0) → (xs : List X) (y : X) (ys : List X) → All P (xs ++ y ∷ ys) → P y
All-last P [] y ys h = h 0 y (omega arith)
All-last P (x ∷ xs) y ys h = All-last P xs y ys (λ k d lt. h (suc k) d (omega arith))

one_any : (o : Option Symbol) → length (if_any o) ≤ 1
one_any None = omega arith
one_any (Some s) = omega arith

until_length : (list : TableList) (n : ℕ) → length (outbox_symbols_until list n) ≤ n
until_length list zero = omega arith
until_length list (suc n) = omega (arith, until_length list n, one_any (symbol_at list n), length-append (outbox_symbols_until list n) (if_any (symbol_at list n)))

-- where each entry is a symbol's, so it is with the first ones
pub until_whole : (list : TableList) (m n : ℕ) → m ≤ n → length (outbox_symbols_until list n) ≡ n → length (outbox_symbols_until list m) ≡ m
until_whole list m zero le whole = let none : m ≡ 0 = omega arith in rw none refl
until_whole list m (suc n) le whole = elim (cases_eq m (suc n)) [
  | inl e ↦ rw e whole
  | inr ne ↦ until_whole list m n (omega arith) (omega (arith, whole, until_length list n, one_any (symbol_at list n), length-append (outbox_symbols_until list n) (if_any (symbol_at list n))))
]

pub until_weight : (list : TableList) (m n : ℕ) → m ≤ n → potential 4 (outbox_symbols_until list m) ≤ potential 4 (outbox_symbols_until list n)
until_weight list m zero le = let none : m ≡ 0 = omega arith in rw none (omega arith)
until_weight list m (suc n) le = elim (cases_eq m (suc n)) [
  | inl e ↦ rw e (omega arith)
  | inr ne ↦ omega (arith, until_weight list m n (omega arith), weight_append 4 (outbox_symbols_until list n) (if_any (symbol_at list n)))
]

pub until_all : (P : Symbol → Type 0) (list : TableList) (m n : ℕ) → m ≤ n → All P (outbox_symbols_until list n) → All P (outbox_symbols_until list m)
until_all P list m zero le h = let none : m ≡ 0 = omega arith in rw none h
until_all P list m (suc n) le h = elim (cases_eq m (suc n)) [
  | inl e ↦ rw e h
  | inr ne ↦ until_all P list m n (omega arith) (All-left P (outbox_symbols_until list n) (if_any (symbol_at list n)) h)
]

-- an entry among those that were there
pub entry_all : (P : Symbol → Type 0) (list : TableList) (at n : ℕ) (s : Symbol) → at < n → symbol_at list at ≡ Some s → All P (outbox_symbols_until list n) → P s
entry_all P list at n s lt is h =
    let here : All P (outbox_symbols_until list at ++ if_any (symbol_at list at)) = until_all P list (suc at) n (omega arith) h in
    All-last P (outbox_symbols_until list at) s [] (rw is at here)

pub until_next : (list : TableList) (at : ℕ) → potential 4 (outbox_symbols_until list (at + 1)) ≡ potential 4 (outbox_symbols_until list at) + potential 4 (if_any (symbol_at list at))
until_next list at = rw add-one (weight_append 4 (outbox_symbols_until list at) (if_any (symbol_at list at)))

cut_symbol : (list : TableList) (n k : ℕ) → list.width ≡ 2 → k < n → symbol_at (cut_to list n) k ≡ symbol_at list k
cut_symbol list n k wide lt =
    let h : get_or (take (list.width * n) list.words) (list.width * k + 0) 0 ≡ get_or list.words (list.width * k + 0) 0 = get_or-take (list.width * n) list.words (list.width * k + 0) 0 (rw wide (omega arith)) in
    let v : get_or (take (list.width * n) list.words) (list.width * k + 1) 0 ≡ get_or list.words (list.width * k + 1) 0 = get_or-take (list.width * n) list.words (list.width * k + 1) 0 (rw wide (omega arith)) in
    ap (λ (x : ℕ). symbol_of_code x (get_or (take (list.width * n) list.words) (list.width * k + 1) 0)) h ∙ ap (λ (x : ℕ). symbol_of_code (get_or list.words (list.width * k + 0) 0) x) v

until_cut : (list : TableList) (n m : ℕ) → list.width ≡ 2 → m ≤ n → outbox_symbols_until (cut_to list n) m ≡ outbox_symbols_until list m
until_cut list n zero wide le = refl
until_cut list n (suc m) wide le = rw (until_cut list n m wide (omega arith), cut_symbol list n m wide (omega arith)) refl

pub waiting_cut : (list : TableList) (n : ℕ) → list.width ≡ 2 → outbox_symbols (cut_to list n) ≡ outbox_symbols_until list n
waiting_cut list n wide = until_cut list n n wide (omega arith)

renumbered_by : (b : Bool) (small : ℕ → Bool) (old new : ℕ) → IsTrue (not b || small old) → (IsTrue b → new ≡ old) → IsTrue (not b || small new)
renumbered_by true small old new h same = rw (same refl) h
renumbered_by false small old new h same = refl

-- another value that isn't the number of an identifier
pub renumbered : (bytes : ℕ) (s : Symbol) (value at_line : ℕ) → IsTrue (is_numbered 4 bytes s) → (IsTrue (is_name s.tag) → value ≡ s.value) → IsTrue (is_numbered 4 bytes (record { tag = s.tag; value = value; line = at_line }))
renumbered bytes s value at_line h same = renumbered_by (is_name s.tag) (is_number_in 4 bytes) s.value value h same

-- what is copied weighs what it weighed
pub copies_some : (t u : TablesModel) (from to at : ℕ) (s new : Symbol) → Adds to (potential_of 4 new.tag) t u → new.tag ≡ s.tag → from ≢ to → symbol_at (list_at t.lists from) at ≡ Some s → Copies from to (potential 4 (if_any (symbol_at (list_at t.lists from) at))) t u
copies_some t u from to at s new adds tag apart is =
    let one : potential 4 (if_any (symbol_at (list_at t.lists from) at)) ≡ potential_of 4 s.tag + 0 = ap (λ (o : Option Symbol). potential 4 (if_any o)) is in
    let same : potential_of 4 new.tag ≡ potential_of 4 s.tag = ap (λ (n : ℕ). potential_of 4 n) tag in
    record {
      more = omega (arith, adds.more, one, same);
      source = adds.others from apart;
      others = λ k ne. ap (λ (l : TableList). potential 4 (outbox_symbols l)) (adds.others k ne);
      limit = adds.limit;
    }
