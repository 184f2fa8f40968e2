-- RETURN, BACK and GIVE, as rows.
use Rattle.std.specs.Prelude.{◌≡◌, ◌≢◌, ◌+◌, ◌-◌, ◌<◌, ◌≤◌, ◌^◌, ◌&&◌, ◌||◌, ◌==◌, ℕ, Bool, true, false, nat_lt, nat_le, if◌then◌else◌, List, length, slice_index, Option, None, Some, Result, Ok, Err}
use Rattle.std.proofs.Common.{arith, refl, ap, ◌⊎◌, inl, inr, ⊎_elim, ◌∙◌}
use Rattle.std.proofs.lemmas.Bool.Decides.{nat_tests}
use Rattle.gier_frames.specs.declared.halt.Halt.{Halt}
use Rattle.gier_frames.specs.declared.halt.Halt.TheVariants.{Odd as HaltOdd}
use Rattle.gier_frames.specs.State.{State}
use Rattle.gier_frames.specs.Effects.{left}
use Rattle.gier_frames.specs.Refusals.{place_refusal, back_refusal}
use Rattle.gier_names.specs.declared.wanted.Wanted.{Wanted}
use Rattle.gier_names.specs.declared.wanted.Wanted.TheVariants.{Value, Address, Label}
use Rattle.gier_names.specs.Evaluations.{number_of, wanted_at, wanted_now, refusal_for, first_of, given_for, give_refusal, given}
use Rattle.gier_order.specs.declared.operation.Operation.TheVariants.{Return}
use Rattle.gier_order.specs.Flat.Row.{Regs, On, Row, plain, needs, odd}
use Rattle.gier_order.specs.Flat.Rows.{effect, leaves, goes, outside, local}
use Rattle.gier_exec.specs.declared.stop.Stop.{Stop}
use Rattle.gier_exec.specs.declared.stop.Stop.TheVariants.{Odd}
use Rattle.gier_exec.specs.Registers.{Registers}
use Rattle.gier_exec.specs.Rows.{regs_of}
use Rattle.gier_exec.specs.Following.{RefinesJump, can_return, word_of}
use Rattle.gier_exec.proofs.Refusings.{both_left, both_right, not_left, unless_none, unless_odd, lt_of}

-- What leaves an activation

four : (a b c d e : Bool) (row : Row) → needs a (needs b (needs c (needs (d && e) row))) ≡ needs (a && (b && (c && (d && e)))) row
four true true true d e row = refl
four true true false d e row = refl
four true false c d e row = refl
four false b c d e row = refl

abbrev may_leave : (words : ℕ) → Registers → State → Bool
may_leave words m s =
    nat_lt 0 m.depth && (nat_lt (s.base + 3) (length s.words) && (nat_lt s.base (length s.words)
    && (nat_lt (slice_index s.words (s.base + 3)) words && nat_lt (slice_index s.words s.base) (length s.words))))

leaves_flat : (code input : List ℕ) (m : Registers) (s : State) (word : ℕ)
    → leaves code (length s.words) (regs_of m s input) word
    ≡ needs (may_leave (length code) m s) (goes code (length s.words) (regs_of m s input) (slice_index s.words (s.base + 3)) (record (outside code (length s.words) (regs_of m s input)) { r = word }))
leaves_flat code input m s word =
    four (nat_lt 0 m.depth) (nat_lt (s.base + 3) (length s.words)) (nat_lt s.base (length s.words)) (nat_lt (slice_index s.words (s.base + 3)) (length code)) (nat_lt (slice_index s.words s.base) (length s.words)) _

leaves_by : (code input : List ℕ) (m : Registers) (s : State) (word : ℕ) → may_leave (length code) m s ≡ false → leaves code (length s.words) (regs_of m s input) word ≡ odd
leaves_by code input m s word lost =
    leaves_flat code input m s word
    ∙ ap (λ b. needs b (goes code (length s.words) (regs_of m s input) (slice_index s.words (s.base + 3)) (record (outside code (length s.words) (regs_of m s input)) { r = word }))) lost

pub leaves_no : (code input : List ℕ) (m : Registers) (s : State) (word words : ℕ) → length code ≡ words → can_return words m s ≡ false → leaves code (length s.words) (regs_of m s input) word ≡ odd
leaves_no code input m s word words same lost =
    leaves_by code input m s word (rw same (none (nat_lt 0 m.depth) (nat_lt (s.base + 3) (length s.words)) (nat_lt s.base (length s.words)) (nat_lt (slice_index s.words (s.base + 3)) words) (nat_lt (slice_index s.words s.base) (length s.words)) lost))
  where
    none : (a b c d e : Bool) → (a && (b && d)) ≡ false → (a && (b && (c && (d && e)))) ≡ false
    none true true true true e h = absurd cc
    none true true true false e h = refl
    none true true false d e h = refl
    none true false c d e h = refl
    none false b c d e h = refl

-- the frames are odd where this order can't be returned from
pub leaves_back : (code input : List ℕ) (m : Registers) (s : State) (word words : ℕ) (halt : Halt) → length code ≡ words → words < 2 ^ 32 → s.entered ≡ true → can_return words m s ≡ true
    → back_refusal s ≡ Some halt → (halt ≡ HaltOdd) × (leaves code (length s.words) (regs_of m s input) word ≡ odd)
leaves_back code input m s word words halt same few entered can refused =
    let there = both_left (nat_lt (s.base + 3) (length s.words)) (nat_lt (slice_index s.words (s.base + 3)) words) (both_right (nat_lt 0 m.depth) _ can) in
    let back = lt_of _ _ (both_right (nat_lt (s.base + 3) (length s.words)) (nat_lt (slice_index s.words (s.base + 3)) words) (both_right (nat_lt 0 m.depth) _ can)) in
    let small : nat_lt (slice_index s.words (s.base + 3)) 4294967296 ≡ true = grind (arith, nat_tests, back, few) in
    let is = unless_odd _ halt refused in
    (is.1, leaves_by code input m s word (none (nat_lt 0 m.depth) s.entered (nat_lt (s.base + 3) (length s.words)) (nat_lt s.base (length s.words)) (nat_lt (slice_index s.words (s.base + 3)) (length code)) (nat_lt (slice_index s.words s.base) (length s.words)) (nat_lt (slice_index s.words (s.base + 3)) 4294967296) entered there small is.0))
  where
    none : (a n b c d e f : Bool) → n ≡ true → b ≡ true → f ≡ true → ((n && b) && (e && f)) ≡ false → (a && (b && (c && (d && e)))) ≡ false
    none false n b c d e f en eb ef h = refl
    none true n false c d e f en eb ef h = refl
    none true n true false d e f en eb ef h = refl
    none true n true true false e f en eb ef h = refl
    none true n true true true false f en eb ef h = refl
    none true n true true true true f en eb ef h = absurd cc

pub leaves_goes : (code input : List ℕ) (m : Registers) (s : State) (word words : ℕ) → length code ≡ words → s.entered ≡ true → can_return words m s ≡ true → back_refusal s ≡ None
    → leaves code (length s.words) (regs_of m s input) word ≡ plain (On (record (regs_of (record m { depth = m.depth - 1; r = word }) (left s) input) { place = slice_index s.words (s.base + 3) }))
leaves_goes code input m s word words same entered can free =
    let held = unless_none _ free in
    let there : nat_lt (s.base + 3) (length s.words) ≡ true = both_left (nat_lt (s.base + 3) (length s.words)) (nat_lt (slice_index s.words (s.base + 3)) words) (both_right (nat_lt 0 m.depth) _ can) in
    let past = lt_of _ _ there in
    let base : nat_lt s.base (length s.words) ≡ true = grind (arith, nat_tests, past) in
    let yes : may_leave (length code) m s ≡ true =
    rw same (all (nat_lt 0 m.depth) (s.entered && nat_lt (s.base + 3) (length s.words)) (nat_lt (s.base + 3) (length s.words)) (nat_lt s.base (length s.words)) (nat_lt (slice_index s.words (s.base + 3)) words) (nat_lt (slice_index s.words s.base) (length s.words)) (nat_lt (slice_index s.words (s.base + 3)) 4294967296) base can held) in
    leaves_flat code input m s word
    ∙ ap (λ b. needs b (goes code (length s.words) (regs_of m s input) (slice_index s.words (s.base + 3)) (record (outside code (length s.words) (regs_of m s input)) { r = word }))) yes
  where
    all : (a n b c d e f : Bool) → c ≡ true → (a && (b && d)) ≡ true → (n && (e && f)) ≡ true → (a && (b && (c && (d && e)))) ≡ true
    all true true true true true true f ec can h = refl
    all true true true true true false f ec can h = absurd cc
    all true true true true false e f ec can h = absurd cc
    all true true true false d e f ec can h = absurd cc
    all true true false c d e f ec can h = absurd cc
    all true false b c d e f ec can h = absurd cc
    all false n b c d e f ec can h = absurd cc

pub return_found : (b : Bool) (word a : ℕ) → Ok a ≡ (if b then Ok word else Err Odd) → (b ≡ true) × (a ≡ word)
return_found true word a e = (refl, cc)
return_found false word a e = absurd cc

pub return_lost : (b : Bool) (word : ℕ) (stop : Stop) → Err stop ≡ (if b then Ok word else Err Odd) → (b ≡ false) × (stop ≡ Odd)
return_lost true word stop e = absurd cc
return_lost false word stop e = (refl, cc)

-- What is wanted

needed : (b : Bool) (row : Row) → b ≡ true → needs b row ≡ row
needed true row e = refl
needed false row e = absurd cc

refused : (b : Bool) (row : Row) → b ≡ false → needs b row ≡ odd
refused true row e = absurd cc
refused false row e = refl

pub wanted_some : (n : ℕ) (wanted : Wanted) (go : ℕ → Row) → Some wanted ≡ wanted_at n → needs (nat_le 1 n && nat_le n 3) (go n) ≡ go (number_of wanted)
wanted_some n wanted go is = by (n == 1) (n == 2) (n == 3) refl refl refl is
  where
    one : (k : ℕ) → n ≡ k → 1 ≤ k → k ≤ 3 → needs (nat_le 1 n && nat_le n 3) (go n) ≡ go k
    one k e least most =
        let holds : (nat_le 1 n && nat_le n 3) ≡ true = grind (arith, nat_tests, e, least, most) in
        needed _ (go n) holds ∙ ap go e

    by : (a b c : Bool) → (n == 1) ≡ a → (n == 2) ≡ b → (n == 3) ≡ c → Some wanted ≡ (if a then Some Value else (if b then Some Address else (if c then Some Label else None)))
        → needs (nat_le 1 n && nat_le n 3) (go n) ≡ go (number_of wanted)
    by true b c ea eb ec h = let e : n ≡ 1 = grind (arith, nat_tests, ea) in let w : wanted ≡ Value = cc in rw w (one 1 e (omega arith) (omega arith))
    by false true c ea eb ec h = let e : n ≡ 2 = grind (arith, nat_tests, eb) in let w : wanted ≡ Address = cc in rw w (one 2 e (omega arith) (omega arith))
    by false false true ea eb ec h = let e : n ≡ 3 = grind (arith, nat_tests, ec) in let w : wanted ≡ Label = cc in rw w (one 3 e (omega arith) (omega arith))
    by false false false ea eb ec h = absurd cc

pub wanted_none : (n : ℕ) (row : Row) → None ≡ wanted_at n → needs (nat_le 1 n && nat_le n 3) row ≡ odd
wanted_none n row is = by (n == 1) (n == 2) (n == 3) refl refl refl is
  where
    by : (a b c : Bool) → (n == 1) ≡ a → (n == 2) ≡ b → (n == 3) ≡ c → None ≡ (if a then Some Value else (if b then Some Address else (if c then Some Label else None))) → needs (nat_le 1 n && nat_le n 3) row ≡ odd
    by true b c ea eb ec h = absurd cc
    by false true c ea eb ec h = absurd cc
    by false false true ea eb ec h = absurd cc
    by false false false ea eb ec h = let no : (nat_le 1 n && nat_le n 3) ≡ false = grind (arith, nat_tests, ea, eb, ec) in refused _ row no

any_odd : (b : Bool) (row : Row) → row ≡ odd → needs b row ≡ odd
any_odd true row e = e
any_odd false row e = refl

-- What GIVE gives

first_none : (a b : Option Halt) → first_of a b ≡ None → (a ≡ None) × (b ≡ None)
first_none None b e = (refl, e)
first_none (Some halt) b e = absurd cc

abbrev either : Option Halt → Option Halt → Halt → Type 0
either a b halt = (a ≡ Some halt) ⊎ ((a ≡ None) × (b ≡ Some halt))

first_some : (a b : Option Halt) (halt : Halt) → first_of a b ≡ Some halt → either a b halt
first_some None b halt e = inr (refl, e)
first_some (Some found) b halt e = inl e

-- the row of GIVE behind w, where R is a place or not, and what is wanted is a value or a place or neither
abbrev give_by : (value address is_place : Bool) → (kept given : Row) → Row
give_by value address is_place kept given = needs (value || address) (if value then needs is_place kept else given)

abbrev wanted_by : (value address label : Bool) → Option Wanted
wanted_by value address label = if value then Some Value else (if address then Some Address else (if label then Some Label else None))

pub give_given : (value address label : Bool) (s : State) (r : ℕ) (leave : ℕ → Row) → refusal_for (wanted_by value address label) s r ≡ None
    → give_by value address (nat_lt r (length s.words)) (leave (slice_index s.words r)) (leave r) ≡ leave (given_for (wanted_by value address label) s r)
give_given true address label s r leave e = needed _ (leave (slice_index s.words r)) (both_right s.entered (nat_lt r (length s.words)) (unless_none _ e))
give_given false true label s r leave e = refl
give_given false false true s r leave e = absurd cc
give_given false false false s r leave e = absurd cc

give_refused : (value address label : Bool) (s : State) (r : ℕ) (kept given : Row) (halt : Halt) → s.entered ≡ true → refusal_for (wanted_by value address label) s r ≡ Some halt
    → (halt ≡ HaltOdd) × (give_by value address (nat_lt r (length s.words)) kept given ≡ odd)
give_refused true address label s r kept given halt entered e = let no = unless_odd _ halt e in (no.1, refused _ kept (not_left s.entered (nat_lt r (length s.words)) no.0 entered))
give_refused false true label s r kept given halt entered e = absurd cc
give_refused false false true s r kept given halt entered e = (cc, refl)
give_refused false false false s r kept given halt entered e = (cc, refl)

give_odd : (value address : Bool) (is_place : Bool) (kept given : Row) → kept ≡ odd → given ≡ odd → give_by value address is_place kept given ≡ odd
give_odd true address true kept given e h = e
give_odd true address false kept given e h = refl
give_odd false true is_place kept given e h = h
give_odd false false is_place kept given e h = refl

abbrev give_row : (code input : List ℕ) (m : Registers) (s : State) → Row
give_row code input m s = local code (length s.words) (regs_of m s input) 4 (λ wanted. give_by (wanted == 1) (wanted == 2) (nat_lt m.r (length s.words))
    (leaves code (length s.words) (regs_of m s input) (slice_index s.words m.r)) (leaves code (length s.words) (regs_of m s input) m.r))

pub give_goes : (code input : List ℕ) (m : Registers) (s : State) (words : ℕ) → length code ≡ words → s.entered ≡ true → can_return words m s ≡ true → give_refusal s m.r ≡ None
    → give_row code input m s ≡ plain (On (record (regs_of (record m { depth = m.depth - 1; r = given s m.r }) (left s) input) { place = slice_index s.words (s.base + 3) }))
give_goes code input m s words same entered can free =
    let both = first_none _ _ free in
    let inner = first_none _ _ both.0 in
    let wanted = slice_index s.words (s.base + 4) in
    needed _ _ (both_right s.entered (nat_lt (s.base + 4) (length s.words)) (unless_none _ inner.0))
    ∙ give_given (wanted == 1) (wanted == 2) (wanted == 3) s m.r (λ word. leaves code (length s.words) (regs_of m s input) word) inner.1
    ∙ leaves_goes code input m s (given s m.r) words same entered can both.1

pub give_halts : (code input : List ℕ) (m : Registers) (s : State) (words : ℕ) (halt : Halt) → length code ≡ words → words < 2 ^ 32 → s.entered ≡ true → can_return words m s ≡ true → give_refusal s m.r ≡ Some halt
    → (halt ≡ HaltOdd) × (give_row code input m s ≡ odd)
give_halts code input m s words halt same few entered can is =
    ⊎_elim (λ first. ⊎_elim outer behind (first_some _ _ halt first)) (λ later. at_last later.1) (first_some _ _ halt is)
  where
    at_last : back_refusal s ≡ Some halt → (halt ≡ HaltOdd) × (give_row code input m s ≡ odd)
    at_last e =
        let back : (word : ℕ) → (halt ≡ HaltOdd) × (leaves code (length s.words) (regs_of m s input) word ≡ odd) = λ word. leaves_back code input m s word words halt same few entered can e in
        ((back m.r).0, any_odd (nat_lt (s.base + 4) (length s.words)) _ (give_odd (slice_index s.words (s.base + 4) == 1) (slice_index s.words (s.base + 4) == 2) (nat_lt m.r (length s.words)) _ _ (back (slice_index s.words m.r)).1 (back m.r).1))

    outer : place_refusal s (s.base + 4) ≡ Some halt → (halt ≡ HaltOdd) × (give_row code input m s ≡ odd)
    outer e = let no = unless_odd _ halt e in (no.1, refused _ _ (not_left s.entered (nat_lt (s.base + 4) (length s.words)) no.0 entered))

    behind : (place_refusal s (s.base + 4) ≡ None) × (refusal_for (wanted_now s) s m.r ≡ Some halt) → (halt ≡ HaltOdd) × (give_row code input m s ≡ odd)
    behind e =
        let wanted = slice_index s.words (s.base + 4) in
        let no = give_refused (wanted == 1) (wanted == 2) (wanted == 3) s m.r (leaves code (length s.words) (regs_of m s input) (slice_index s.words m.r)) (leaves code (length s.words) (regs_of m s input) m.r) halt entered e.1 in
        (no.0, any_odd (nat_lt (s.base + 4) (length s.words)) _ no.1)

pub give_no : (code input : List ℕ) (m : Registers) (s : State) (words : ℕ) → length code ≡ words → can_return words m s ≡ false → give_row code input m s ≡ odd
give_no code input m s words same lost =
    any_odd (nat_lt (s.base + 4) (length s.words)) _
    (give_odd (slice_index s.words (s.base + 4) == 1) (slice_index s.words (s.base + 4) == 2) (nat_lt m.r (length s.words)) _ _ (leaves_no code input m s (slice_index s.words m.r) words same lost) (leaves_no code input m s m.r words same lost))

-- The order to return to

pub return_none : (words : ℕ) (m : Registers) (s : State) → m.depth ≡ 0 → Err Odd ≡ (if can_return words m s then Ok (slice_index s.words (s.base + 3)) else Err Odd)
return_none words m s e = let no : nat_lt 0 m.depth ≡ false = grind (arith, nat_tests, e) in rw no refl

pub return_by : (word words : ℕ) (m : Registers) (s : State) → 0 < m.depth → Ok word ≡ word_of s (s.base + 3)
    → (if nat_lt word words then Ok word else Err Odd) ≡ (if can_return words m s then Ok (slice_index s.words (s.base + 3)) else Err Odd)
return_by word words m s some e =
    let found = return_found (nat_lt (s.base + 3) (length s.words)) (slice_index s.words (s.base + 3)) word e in
    let yes : nat_lt 0 m.depth ≡ true = grind (arith, nat_tests, some) in
    rw found.1 (rw yes (rw found.0 refl))

pub return_err : (words : ℕ) (m : Registers) (s : State) (stop : Stop) → Err stop ≡ word_of s (s.base + 3) → Err stop ≡ (if can_return words m s then Ok (slice_index s.words (s.base + 3)) else Err Odd)
return_err words m s stop e =
    let lost = return_lost (nat_lt (s.base + 3) (length s.words)) (slice_index s.words (s.base + 3)) stop e in
    rw lost.1 (rw lost.0 (by (nat_lt 0 m.depth)))
  where
    by : (a : Bool) → Err Odd ≡ (if a && false then Ok (slice_index s.words (s.base + 3)) else Err Odd)
    by true = refl
    by false = refl

-- a row that is another one comes to what that comes to
pub comes_as : (row mid : Row) (m : Regs) (result : Result ℕ Stop) → row ≡ mid → RefinesJump mid m result → RefinesJump row m result
comes_as row mid m result e h = rw e h

pub return_past : (code : List ℕ) (size : ℕ) (m : Regs) (l kind : ℕ) → kind ≢ 0 → kind ≢ 1 → effect code size m Return l kind ≡ odd
return_past code size m l kind none one =
    let no : nat_le kind 1 ≡ false = grind (arith, nat_tests, none, one) in
    refused (nat_le kind 1) (if kind == 1 then local code size m 5 (λ value. leaves code size m value) else leaves code size m m.r) no
