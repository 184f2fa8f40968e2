-- That the walk builds the display which Shows asks for, and that a write elsewhere leaves it right.
use Rattle.std.proofs.Common.{◌≡◌, ◌<◌, ◌≤◌, ◌+◌, ◌/◌, ◌%◌, ◌∙◌, ℕ, zero, suc, Bool, true, false, if◌then◌else◌, nat_lt, nat_eq, Result, List, length, slice_index, slice_set, replicate, refl, sym, ap, arith, inl, inr, Ok, Err}
use Rattle.std.proofs.lemmas.Bool.{cases_lt, cases_eq}
use Rattle.std.proofs.lemmas.Bool.Decides.{nat_tests}
use Rattle.std.proofs.lemmas.List.{get_or-set_same, get_or-set_other, length-set, get_or-replicate, get_or_past, length-replicate}
use Rattle.gier_frames.specs.declared.halt.Halt.{Halt}
use Rattle.gier_frames.specs.declared.halt.Halt.TheVariants.{Odd}
use Rattle.gier_frames.specs.Walk.{sought}
use Rattle.gier_frames.specs.Display.{Shown, base_or_halt, answered_or, with_levels_noted, KeepsLit, AreLit, Shows, Building}
use Rattle.gier_frames.proofs.WalkStep.{seek_on, seek_found, seek_ends, seek_past}

-- more looks than the base's number change nothing
pub lit_enough : (n m : ℕ) (words lit : List ℕ) (base : ℕ) → base < n → base < m → AreLit n words lit base → AreLit m words lit base
lit_enough zero m words lit base few less so = absurd (omega arith)
lit_enough (suc n) zero words lit base few less so = absurd (omega arith)
lit_enough (suc n) (suc m) words lit base few less so =
    λ within. ((so within).0, λ falls. lit_enough n m words lit (slice_index words (base + 1) % 16777216) (omega arith) (omega arith) ((so within).1 falls))

-- an activation of another level leaves a level as it is
noted_other : (by_level : List ℕ) (kind level base : ℕ) → (kind ≡ level → ⊥) → slice_index (with_levels_noted by_level kind base) level ≡ slice_index by_level level
noted_other by_level kind level base other =
    elim (cases_lt kind 256) [
      | inr ge ↦ let no : nat_lt kind 256 ≡ false = grind (arith, nat_tests) in rw no refl
      | inl lt ↦ let yes_ : nat_lt kind 256 ≡ true = grind (arith, nat_tests) in
          elim (cases_eq (slice_index by_level kind) 0) [
            | inl e ↦ let none : nat_eq (slice_index by_level kind) 0 ≡ true = grind (arith, nat_tests) in
                rw (yes_, none) (get_or-set_other by_level kind level (suc base) 0 (λ e. other (sym e)))
            | inr ne ↦ let some : nat_eq (slice_index by_level kind) 0 ≡ false = grind (arith, nat_tests) in rw (yes_, some) refl
          ]
    ]

known : (n : ℕ) (rest more : Result ℕ Halt) → (n ≡ 0 → ⊥) → answered_or n rest ≡ answered_or n more
known zero rest more ne = absurd (ne refl)
known (suc n) rest more ne = refl

-- one of the level itself is the first, or is behind the first
noted_same : (by_level : List ℕ) (level base : ℕ) (rest more : Result ℕ Halt) → length by_level ≡ 256 → level < 256 → more ≡ Ok base
    → answered_or (slice_index (with_levels_noted by_level level base) level) rest ≡ answered_or (slice_index by_level level) more
noted_same by_level level base rest more long small is =
    let yes_ : nat_lt level 256 ≡ true = grind (arith, nat_tests) in
    elim (cases_eq (slice_index by_level level) 0) [
      | inl e ↦ let none : nat_eq (slice_index by_level level) 0 ≡ true = grind (arith, nat_tests) in
          rw (yes_, none, get_or-set_same by_level level (suc base) 0 (omega arith), e, is) refl
      | inr ne ↦ let some : nat_eq (slice_index by_level level) 0 ≡ false = grind (arith, nat_tests) in
          rw (yes_, some) (known (slice_index by_level level) rest more ne)
    ]

answer_on : (by_level : List ℕ) (kind level base : ℕ) (rest more : Result ℕ Halt) → length by_level ≡ 256 → level < 256 → (kind ≡ level → more ≡ Ok base) → ((kind ≡ level → ⊥) → more ≡ rest)
    → answered_or (slice_index (with_levels_noted by_level kind base) level) rest ≡ answered_or (slice_index by_level level) more
answer_on by_level kind level base rest more long small found on = elim (cases_eq kind level) [
  | inl e ↦ rw (sym e) (noted_same by_level kind base rest more long (omega arith) (found e))
  | inr ne ↦ rw (noted_other by_level kind level base ne, on ne) refl
]

long_either : (a b : Bool) (xs ys : List ℕ) → length ys ≡ length xs → length (if a then (if b then ys else xs) else xs) ≡ length xs
long_either false b xs ys same = refl
long_either true false xs ys same = refl
long_either true true xs ys same = same

long_noted : (by_level : List ℕ) (kind base : ℕ) → length (with_levels_noted by_level kind base) ≡ length by_level
long_noted by_level kind base =
    long_either (nat_lt kind 256) (nat_eq (slice_index by_level kind) 0) by_level (slice_set by_level kind (suc base)) (length-set by_level kind (suc base))

ends_odd : (n : ℕ) → base_or_halt n ≡ answered_or n (Err Odd)
ends_odd zero = refl
ends_odd (suc n) = refl

pub begin : (shown : Shown) (words : List ℕ) (base : ℕ) → length shown.by_level ≡ 256 → ((level : ℕ) → slice_index shown.by_level level ≡ 0) → Building shown words base base
begin shown words base long none = record { answers = λ level small. rw (none level) refl; marks = λ lit keeps so. so; levels = long }

-- the walk goes on
pub step : (old new : Shown) (words : List ℕ) (first base : ℕ) → Building old words first base → base + 1 < length words
    → new.by_level ≡ with_levels_noted old.by_level (slice_index words (base + 1) / 16777216) base → slice_index new.lit (base + 1) ≡ 1 → KeepsLit old.lit new.lit
    → slice_index words (base + 1) % 16777216 < base → Building new words first (slice_index words (base + 1) % 16777216)
step old new words first base so within is lit keeps falls =
    let next : ℕ = slice_index words (base + 1) % 16777216 in
    let kind : ℕ = slice_index words (base + 1) / 16777216 in record {
      answers = λ level small. rw is (answer_on old.by_level kind level base (sought (suc next) words level next) (sought (suc base) words level base) so.levels small
          (λ e. seek_found words level base within e) (λ ne. seek_on words level base within ne falls) ∙ so.answers level small);
      marks = λ later kept marked. so.marks later (λ k one. kept k (keeps k one)) (λ inside. (kept (base + 1) lit, λ falls. lit_enough (suc next) base words later next (omega arith) falls marked));
      levels = rw (is, long_noted old.by_level kind base) so.levels;
    }

-- the walk ends at a base whose enclosing base isn't below it
pub ends : (old new : Shown) (words : List ℕ) (first base : ℕ) → Building old words first base → base + 1 < length words
    → new.by_level ≡ with_levels_noted old.by_level (slice_index words (base + 1) / 16777216) base → slice_index new.lit (base + 1) ≡ 1 → KeepsLit old.lit new.lit
    → base ≤ slice_index words (base + 1) % 16777216 → Shows new words first
ends old new words first base so within is lit keeps stays =
    let kind : ℕ = slice_index words (base + 1) / 16777216 in record {
      answers = λ level small. ends_odd (slice_index new.by_level level) ∙ rw is (answer_on old.by_level kind level base (Err Odd) (sought (suc base) words level base) so.levels small
          (λ e. seek_found words level base within e) (λ ne. seek_ends words level base within ne stays) ∙ so.answers level small);
      marks = so.marks new.lit keeps (λ inside. (lit, λ falls. absurd (omega arith)));
    }

-- or at a base with no second header word
pub past : (shown : Shown) (words : List ℕ) (first base : ℕ) → Building shown words first base → length words ≤ base + 1 → Shows shown words first
past shown words first base so behind = record {
  answers = λ level small. ends_odd (slice_index shown.by_level level) ∙ ap (answered_or (slice_index shown.by_level level)) (sym (seek_past words level base behind)) ∙ so.answers level small;
  marks = so.marks shown.lit (λ k one. one) (λ inside. absurd (omega arith));
}

-- a write at a word that the walk didn't read changes nothing of it
elsewhere : (looks : ℕ) (words lit : List ℕ) (base place word level : ℕ) → AreLit looks words lit base → (slice_index lit place ≡ 1 → ⊥)
    → sought looks (slice_set words place word) level base ≡ sought looks words level base
elsewhere zero words lit base place word level so other = refl
elsewhere (suc looks) words lit base place word level so other = elim (cases_lt (base + 1) (length words)) [
  | inr ge ↦ let no : nat_lt (base + 1) (length words) ≡ false = grind (arith, nat_tests) in rw (length-set words place word, no) refl
  | inl lt ↦
      let apart : base + 1 ≡ place → ⊥ = λ e. other (rw (sym e) (so lt).0) in
      let next : ℕ = slice_index words (base + 1) % 16777216 in
      elim (cases_lt next base) [
        | inl falls ↦ rw (length-set words place word, get_or-set_other words place (base + 1) word 0 apart, elsewhere looks words lit next place word level ((so lt).1 falls) other) refl
        | inr ge ↦ let no : nat_lt next base ≡ false = grind (arith, nat_tests) in rw (length-set words place word, get_or-set_other words place (base + 1) word 0 apart, no) refl
      ]
]

lit_elsewhere : (looks : ℕ) (words lit : List ℕ) (base place word : ℕ) → AreLit looks words lit base → (slice_index lit place ≡ 1 → ⊥) → AreLit looks (slice_set words place word) lit base
lit_elsewhere zero words lit base place word so other = so
lit_elsewhere (suc looks) words lit base place word so other = λ inside.
    let lt : base + 1 < length words = omega (arith, length-set words place word) in
    let apart : base + 1 ≡ place → ⊥ = λ e. other (rw (sym e) (so lt).0) in
    rw (get_or-set_other words place (base + 1) word 0 apart) ((so lt).0, λ falls. lit_elsewhere looks words lit (slice_index words (base + 1) % 16777216) place word ((so lt).1 falls) other)

pub stays_shown : (shown : Shown) (words : List ℕ) (base place word : ℕ) → Shows shown words base → nat_eq (slice_index shown.lit place) 1 ≡ false → Shows shown (slice_set words place word) base
stays_shown shown words base place word so unread =
    let other : slice_index shown.lit place ≡ 1 → ⊥ = grind (arith, nat_tests) in record {
      answers = λ level small. so.answers level small ∙ sym (elsewhere (suc base) words shown.lit base place word level so.marks other);
      marks = lit_elsewhere (suc base) words shown.lit base place word so.marks other;
    }

pub none_at : (n level : ℕ) → slice_index (replicate n 0) level ≡ 0
none_at n level = elim (cases_lt level n) [
  | inl lt ↦ get_or-replicate n level 0 0 lt
  | inr ge ↦ get_or_past (replicate n 0) level 0 (omega (arith, length-replicate {A = ℕ} n 0))
]

pub shown_answers : (shown : Shown) (words : List ℕ) (base level : ℕ) → Shows shown words base → level < 256 → base_or_halt (slice_index shown.by_level level) ≡ sought (suc base) words level base
shown_answers shown words base level so small = so.answers level small

-- how the walk begins, goes on and ends
pub ruleset display_walk = (begin, step, ends, past)
