-- What refuses a read of the frames refuses it in the row too.
use Rattle.std.specs.Prelude.{◌≡◌, ◌+◌, ◌%◌, ◌<◌, ◌^◌, ◌&&◌, ⊤, ℕ, zero, suc, Bool, true, false, nat_lt, List, length, slice_index, Option, None, Some, Result, Ok, Err, if◌then◌else◌}
use Rattle.std.proofs.Common.{arith, refl, ap, ◌∙◌}
use Rattle.gier_frames.specs.declared.halt.Halt.{Halt}
use Rattle.gier_frames.specs.declared.halt.Halt.TheVariants.{Odd as HaltOdd}
use Rattle.gier_frames.specs.State.{State, IsKept}
use Rattle.std.proofs.Math.Path.{fun_ext}
use Rattle.std.proofs.lemmas.Bool.{ltb-true}
use Rattle.gier_frames.specs.Refusals.{odd_unless, place_refusal, base_refusal}
use Rattle.gier_frames.specs.Walk.{sought, cell_of}
use Rattle.gier_order.specs.Flat.Row.{Regs, Row, needs, odd}
use Rattle.gier_order.specs.Flat.Region.{seek}
use Rattle.gier_order.specs.Flat.Rows.{word_at, in_level, from_base}
use Rattle.gier_exec.specs.declared.stop.Stop.{Stop}
use Rattle.gier_exec.specs.declared.stop.Stop.TheVariants.{Odd as StopOdd}
use Rattle.gier_exec.specs.Registers.{Registers}
use Rattle.gier_exec.specs.Rows.{regs_of}
use Rattle.gier_exec.specs.Following.{RefinesValue, RefinesRefusal, stop_of, word_of}
use Rattle.gier_exec.proofs.Regions.{found_in, seek_is}

unless_refused : (b : Bool) (halt : Halt) → odd_unless b ≡ Some halt → (b ≡ false) × (halt ≡ HaltOdd)
unless_refused true halt e = absurd cc
unless_refused false halt e = (refl, cc)

and_false : (a b : Bool) → (a && b) ≡ false → a ≡ true → b ≡ false
and_false true b e h = e
and_false false b e h = absurd cc

needs_refused : {A : Type 0} (b : Bool) (halt : Halt) (row : Row) (go : A → Row) → b ≡ false → halt ≡ HaltOdd → RefinesValue (needs b row) go (Err (stop_of halt))
needs_refused b halt row go e h = rw e (rw h refl)

pub word_refused : (s : State) (p : ℕ) (halt : Halt) → place_refusal s p ≡ Some halt → (code input : List ℕ) (m : Registers) (go : ℕ → Row) → s.entered ≡ true → RefinesValue (word_at code (length s.words) (regs_of m s input) p go) go (Err (stop_of halt))
word_refused s p halt refused code input m go entered =
    let no = unless_refused _ halt refused in
    needs_refused (nat_lt p (length s.words)) halt (go (slice_index s.words p)) go (and_false s.entered (nat_lt p (length s.words)) no.0 entered) no.1

-- the word that was read is the one of the state
pub read_found : (s : State) (p word : ℕ) → place_refusal s p ≡ None → word ≡ slice_index s.words p → Ok word ≡ word_of s p
read_found s p word free is = rw is (by s.entered (nat_lt p (length s.words)) free)
  where
    by : (a b : Bool) → odd_unless (a && b) ≡ None → Ok (slice_index s.words p) ≡ (if b then Ok (slice_index s.words p) else Err StopOdd)
    by true true e = refl
    by true false e = absurd cc
    by false b e = absurd cc

pub read_refused : (s : State) (p : ℕ) (halt : Halt) → place_refusal s p ≡ Some halt → s.entered ≡ true → Err (stop_of halt) ≡ word_of s p
read_refused s p halt refused entered =
    let no = unless_refused _ halt refused in
    let past : nat_lt p (length s.words) ≡ false = and_false s.entered (nat_lt p (length s.words)) no.0 entered in
    rw no.1 (rw past refl)

-- the level's base in the row is that of the frames
level_found : (s : State) (level : ℕ) (result : Result ℕ Halt) → s.entered ≡ true → result ≡ sought (suc s.base) s.words level s.base → found_in result ≡ seek (suc s.base) (length s.words) (slice_index s.words) level s.base
level_found s level result entered is = ap found_in is ∙ seek_is (suc s.base) s.words level s.base

abbrev pub stopped : {A : Type 0} → Result A Halt → Result A Stop
stopped (Ok x) = Ok x
stopped (Err halt) = Err (stop_of halt)

pub here_refused : (s : State) (halt : Halt) → base_refusal s ≡ Some halt → s.entered ≡ true → ⊥
here_refused s halt refused entered = let no = unless_refused _ halt refused in cc

pub here_small : (s : State) (place address : ℕ) → IsKept s → s.entered ≡ true → place ≡ s.base + address → address < 2 ^ 32 → place < 2 ^ 40
here_small s place address kept entered is small =
    let base : s.base < length s.words = kept.base entered in
    let size : length s.words < 2 ^ 24 = kept.size in
    omega (arith, is, base, size, small)

abbrev OnlyOdd : Result ℕ Halt → Type 0
OnlyOdd (Ok base) = ⊤
OnlyOdd (Err halt) = halt ≡ HaltOdd

only_in : (a b c : Bool) (base : ℕ) (rest : Result ℕ Halt) → OnlyOdd rest → OnlyOdd (if a then (if b then Ok base else (if c then rest else Err HaltOdd)) else Err HaltOdd)
only_in false b c base rest h = refl
only_in true true c base rest h = tt
only_in true false true base rest h = h
only_in true false false base rest h = refl

sought_only : (looks : ℕ) (ws : List ℕ) (level base : ℕ) → OnlyOdd (sought looks ws level base)
sought_only zero ws level base = refl
sought_only (suc looks) ws level base = only_in _ _ _ base _ (sought_only looks ws level (slice_index ws (base + 1) % 16777216))

abbrev IsBelow : ℕ → Result ℕ Halt → Type 0
IsBelow size (Ok base) = base < size
IsBelow size (Err halt) = ⊤

below_in : (size : ℕ) (a b c : Bool) (base : ℕ) (rest : Result ℕ Halt) → (a ≡ true → base < size) → IsBelow size rest → IsBelow size (if a then (if b then Ok base else (if c then rest else Err HaltOdd)) else Err HaltOdd)
below_in size false b c base rest lt h = tt
below_in size true true c base rest lt h = lt refl
below_in size true false true base rest lt h = h
below_in size true false false base rest lt h = tt

sought_below : (looks : ℕ) (ws : List ℕ) (level base : ℕ) → IsBelow (length ws) (sought looks ws level base)
sought_below zero ws level base = tt
sought_below (suc looks) ws level base =
    below_in (length ws) _ _ _ base _ (λ e. let lt : base + 1 < length ws = ltb-true (base + 1) (length ws) e in omega (arith, lt)) (sought_below looks ws level (slice_index ws (base + 1) % 16777216))

abbrev cell_at : Result ℕ Halt → ℕ → Result ℕ Halt
cell_at found address = elim found as (λ _. Result ℕ Halt) [ Ok base ↦ Ok (base + address) | Err halt ↦ Err halt ]

level_case : (code input : List ℕ) (m : Registers) (s : State) (address : ℕ) (go : ℕ → Row) (r : Result ℕ Halt) (found : Option ℕ) → found_in r ≡ found → OnlyOdd r
    → RefinesValue (from_base code (length s.words) (regs_of m s input) (λ b. go (b + address)) found) go (stopped (cell_at r address))
level_case code input m s address go (Ok base) (Some b) e only = let same : b ≡ base = cc in ap (λ b. go (b + address)) same
level_case code input m s address go (Ok base) None e only = absurd cc
level_case code input m s address go (Err halt) None e only = needs_refused false halt odd go refl only
level_case code input m s address go (Err halt) (Some b) e only = absurd cc

entered_cell : (s : State) (level address : ℕ) → s.entered ≡ true → cell_of s level address ≡ cell_at (sought (suc s.base) s.words level s.base) address
entered_cell s level address entered = ap (λ b. cell_at (if b then sought (suc s.base) s.words level s.base else Err HaltOdd) address) entered

-- a cell of the row is that of the frames
pub cell_row : (s : State) (level address : ℕ) (result : Result ℕ Halt) → result ≡ cell_of s level address → (code input : List ℕ) (m : Registers) (go : ℕ → Row) → s.entered ≡ true
    → RefinesValue (in_level code (length s.words) (regs_of m s input) level (λ b. go (b + address))) go (stopped result)
cell_row s level address result is code input m go entered =
    rw (is ∙ entered_cell s level address entered)
    (level_case code input m s address go (sought (suc s.base) s.words level s.base) (seek (suc s.base) (length s.words) (slice_index s.words) level s.base)
    (seek_is (suc s.base) s.words level s.base) (sought_only (suc s.base) s.words level s.base))

pub cell_found : (s : State) (level address place : ℕ) → Ok place ≡ cell_of s level address → (code input : List ℕ) (m : Registers) (go : ℕ → Row) → s.entered ≡ true
    → in_level code (length s.words) (regs_of m s input) level (λ b. go (b + address)) ≡ go place
cell_found s level address place is = cell_row s level address (Ok place) is

pub cell_refused : (s : State) (level address : ℕ) (halt : Halt) → Err halt ≡ cell_of s level address → (code input : List ℕ) (m : Registers) (go : ℕ → Row) → s.entered ≡ true
    → RefinesValue (in_level code (length s.words) (regs_of m s input) level (λ b. go (b + address))) go (Err (stop_of halt))
cell_refused s level address halt is = cell_row s level address (Err halt) is

small_in : (size address place : ℕ) (r : Result ℕ Halt) → IsBelow size r → size < 2 ^ 24 → address < 2 ^ 32 → Ok place ≡ cell_at r address → place < 2 ^ 40
small_in size address place (Ok base) below few small is = let same : place ≡ base + address = cc in omega (arith, below, few, small, same)
small_in size address place (Err halt) below few small is = absurd cc

pub cell_small : (s : State) (level address place : ℕ) → IsKept s → Ok place ≡ cell_of s level address → address < 2 ^ 32 → s.entered ≡ true → place < 2 ^ 40
cell_small s level address place kept is small entered =
    small_in (length s.words) address place (sought (suc s.base) s.words level s.base) (sought_below (suc s.base) s.words level s.base) kept.size small (is ∙ entered_cell s level address entered)

-- a row that is another one is refused as that is
pub led : (row mid : Row) (stop : Stop) → row ≡ mid → RefinesRefusal mid stop → RefinesRefusal row stop
led row mid stop e h = rw e h

-- what follows the place of cell, where the word there and the one behind it are read
abbrev pub pair_at : (code : List ℕ) (size : ℕ) (m : Regs) → (ℕ → ℕ → Row) → ℕ → Row
pair_at code size m go p = word_at code size m p (λ first. word_at code size m (p + 1) (λ second. go first second))

pub led_on : {A : Type 0} (row mid : Row) (go : A → Row) (result : Result A Stop) → row ≡ mid → RefinesValue mid go result → RefinesValue row go result
led_on row mid go result e h = rw e h

-- the base of a level is its place with the address 0
pub base_only : (code input : List ℕ) (m : Registers) (s : State) (level : ℕ) (go : ℕ → Row)
    → in_level code (length s.words) (regs_of m s input) level (λ b. go b) ≡ in_level code (length s.words) (regs_of m s input) level (λ b. go (b + 0))
base_only code input m s level go = ap (λ f. in_level code (length s.words) (regs_of m s input) level f) (fun_ext (λ b. ap go (same b)))
  where
    same : (b : ℕ) → b ≡ b + 0
    same b = omega arith

-- what is known of the place of a cell
pub ruleset cell_answers = (cell_found, cell_refused, cell_small)
