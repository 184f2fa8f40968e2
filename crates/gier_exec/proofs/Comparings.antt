-- AGREE and BYVAL, as rows.
use Rattle.std.specs.Prelude.{◌≡◌, ◌≢◌, ◌+◌, ◌-◌, ◌*◌, ◌<◌, ◌≤◌, ◌&&◌, ◌==◌, ◌⊎◌, ℕ, suc, Bool, true, false, nat_lt, nat_le, List, length, Result, Ok, Err, if◌then◌else◌}
use Rattle.std.proofs.Common.{arith, refl, ap, sym, inl, inr, ◌∙◌}
use Rattle.std.proofs.lemmas.Bool.Decides.{nat_tests}
use Rattle.gier_word.specs.declared.alarm.Alarm.TheVariants.{Parameters}
use Rattle.gier_order.specs.declared.object.Object.{Object}
use Rattle.gier_order.specs.declared.order.Order.{Order}
use Rattle.gier_order.specs.Flat.Row.{Regs, Alarmed, On, Ends, Row, plain, needs, odd, reads}
use Rattle.gier_order.specs.Flat.Rows.{goes, gives, truth, cell_word, reads_order, agrees, agrees_with, is_address, looks_in, looks_at}
use Rattle.gier_order.specs.Flat.Kinds.{Handed, Bare, Kinded, Neither, groups_for, formals_handed}
use Rattle.gier_exec.specs.declared.stop.Stop.{Stop}
use Rattle.gier_exec.specs.declared.stop.Stop.TheVariants.{Odd}
use Rattle.gier_exec.specs.declared.stop.Miss.{Miss}
use Rattle.gier_exec.specs.Reading.{Stand}
use Rattle.gier_exec.specs.References.{Refers, RefinesFetch, fetched_at, stop_step}
use Rattle.gier_exec.specs.Searching.{RefinesSearch}
use Rattle.gier_exec.specs.Agreeing.{match_row}
use Rattle.gier_exec.proofs.Searches.{needs_yes, needs_no, search_as, search_found}
use Rattle.gier_exec.proofs.SearchReach.{search_word}

and_no : (a b : Bool) → b ≡ false → (a && b) ≡ false
and_no true b e = e
and_no false b e = refl

no_and : (a b : Bool) → a ≡ false → (a && b) ≡ false
no_and true b e = absurd cc
no_and false b e = refl

all_yes : (a b c : Bool) → a ≡ true → b ≡ true → c ≡ true → (a && (b && c)) ≡ true
all_yes true true c x y z = z
all_yes true false c x y z = absurd cc
all_yes false b c x y z = absurd cc

-- Ten kinds after ten

module _ (code : List ℕ) (size : ℕ) (m : Regs) where
  pub agrees_from : (groups g formals actuals count : ℕ) → Row
  agrees_from groups g formals actuals count = agrees code size m (groups - g) (formals + g) (actuals + g) (count - g * 10)

  pub agrees_first : (groups formals actuals count : ℕ) → agrees code size m groups formals actuals count ≡ agrees_from groups 0 formals actuals count
  unfolding agrees_from
  agrees_first groups formals actuals count =
      let e : groups ≡ groups - 0 = omega arith in
      let f : formals ≡ formals + 0 = omega arith in
      let a : actuals ≡ actuals + 0 = omega arith in
      let l : count ≡ count - 0 * 10 = omega arith in
      ap (λ n. agrees code size m n formals actuals count) e
      ∙ ap (λ n. agrees code size m (groups - 0) n actuals count) f
      ∙ ap (λ n. agrees code size m (groups - 0) (formals + 0) n count) a
      ∙ ap (λ n. agrees code size m (groups - 0) (formals + 0) (actuals + 0) n) l

  pub agrees_next : (groups g formals actuals count : ℕ) → g < groups
      → agrees_from groups g formals actuals count ≡ match_row code m (formals + g) (actuals + g) (count - g * 10) (agrees_from groups (g + 1) formals actuals count)
  unfolding agrees_from
  agrees_next groups g formals actuals count more =
      let n = groups - (g + 1) in
      let e : groups - g ≡ suc (groups - (g + 1)) = omega (arith, more) in
      let f : formals + g + 1 ≡ formals + (g + 1) = omega arith in
      let a : actuals + g + 1 ≡ actuals + (g + 1) = omega arith in
      let l : count - g * 10 - 10 ≡ count - (g + 1) * 10 = omega arith in
      ap (λ k. agrees code size m k (formals + g) (actuals + g) (count - g * 10)) e
      ∙ ap (λ k. match_row code m (formals + g) (actuals + g) (count - g * 10) (agrees code size m n k (actuals + g + 1) (count - g * 10 - 10))) f
      ∙ ap (λ k. match_row code m (formals + g) (actuals + g) (count - g * 10) (agrees code size m n (formals + (g + 1)) k (count - g * 10 - 10))) a
      ∙ ap (λ k. match_row code m (formals + g) (actuals + g) (count - g * 10) (agrees code size m n (formals + (g + 1)) (actuals + (g + 1)) k)) l

  pub agrees_last : (groups g formals actuals count : ℕ) → g ≡ groups → agrees_from groups g formals actuals count ≡ goes code size m (actuals + groups) m
  unfolding agrees_from
  agrees_last groups g formals actuals count is =
      let none : groups - g ≡ 0 = omega (arith, is) in
      ap (λ k. agrees code size m k (formals + g) (actuals + g) (count - g * 10)) none ∙ ap (λ k. goes code size m (actuals + k) m) is

  -- The number of formals

  pub count_odd : (k list count : ℕ) (what : Handed) → (nat_le 1 count && nat_le count 255) ≡ false → agrees_with code size m k list count what ≡ odd
  count_odd k list count Bare none = rw (none, agrees_with) refl
  count_odd k list count (Kinded n) none = rw (none, agrees_with) refl
  count_odd k list count Neither none = refl

  pub count_same : (k list count n : ℕ) → (nat_le 1 count && nat_le count 255) ≡ true → n ≡ count
      → agrees_with code size m k list count (Kinded n) ≡ needs (is_address code size m (list + groups_for count)) (agrees code size m (groups_for count) (k + 1) list count)
  count_same k list count n within same = let is : (n == count) ≡ true = grind (arith, nat_tests, same) in rw (within, agrees_with) (rw is refl)

  pub count_other : (k list count n : ℕ) → (nat_le 1 count && nat_le count 255) ≡ true → n ≢ count → agrees_with code size m k list count (Kinded n) ≡ plain (Ends (Alarmed Parameters) m)
  count_other k list count n within other = let is : (n == count) ≡ false = grind (arith, nat_tests, other) in rw (within, agrees_with) (rw is refl)

  pub count_bare : (k list count : ℕ) → (nat_le 1 count && nat_le count 255) ≡ true → agrees_with code size m k list count Bare ≡ plain (Ends (Alarmed Parameters) m)
  count_bare k list count within = rw (within, agrees_with) refl

pub count_within : (count : ℕ) → count ≢ 0 → count ≤ 255 → (nat_le 1 count && nat_le count 255) ≡ true
count_within count some few = grind (arith, nat_tests, some, few)

pub count_none : (count : ℕ) → count ≡ 0 → (nat_le 1 count && nat_le count 255) ≡ false
count_none count none = grind (arith, nat_tests, none)

pub count_many : (count : ℕ) → 255 < count → (nat_le 1 count && nat_le count 255) ≡ false
count_many count many = grind (arith, nat_tests, many)

-- AGREE

abbrev pub agree_head : (code : List ℕ) (size : ℕ) (m : Regs) (count k : ℕ) → Order → Row
agree_head code size m count k head = agrees_with code size m k (m.place + 1 + 1) count (formals_handed head)

abbrev pub agree_word : (code : List ℕ) (size : ℕ) (m : Regs) (l a : ℕ) → ℕ → Row
agree_word code size m l a count = cell_word code size m l a (λ place k. reads_order code size m k (agree_head code size m count k))

abbrev pub agree_row : (code : List ℕ) (size : ℕ) (m : Regs) (l a : ℕ) → Row
agree_row code size m l a = reads code (m.place + 1) (agree_word code size m l a)

-- the word behind the order is read
pub agree_count : (object : Object) (old new : Stand) (code : List ℕ) (size : ℕ) (m : Regs) (l a b : ℕ) (result : Result ℕ Miss) → b ≡ m.place + 1 → Refers object (fetched_at b result) old new
    → RefinesFetch (reads code b (agree_word code size m l a)) (agree_word code size m l a) b result → RefinesSearch object old new (agree_row code size m l a) m (agree_word code size m l a) result
agree_count object old new code size m l a b result is refers h =
    search_as object old new (agree_row code size m l a) (reads code b (agree_word code size m l a)) m (agree_word code size m l a) result
    (ap (λ p. reads code p (agree_word code size m l a)) (sym is)) (search_word object old new (reads code b (agree_word code size m l a)) b m (agree_word code size m l a) result refers h)

-- then the address in cell
pub agree_address : (object : Object) (old new : Stand) (code : List ℕ) (size : ℕ) (m : Regs) (l a count k : ℕ) → RefinesSearch object old new (agree_row code size m l a) m (agree_word code size m l a) (Ok count)
    → agree_word code size m l a count ≡ reads_order code size m k (agree_head code size m count k)
    → RefinesSearch object old new (agree_row code size m l a) m (λ (done : Unit {0}). reads_order code size m k (agree_head code size m count k)) (Ok tt)
agree_address object old new code size m l a count k h is =
    search_found object old new (agree_row code size m l a) m (agree_word code size m l a) count (λ (done : Unit {0}). reads_order code size m k (agree_head code size m count k)) tt h is

abbrev pub agree_list : (code : List ℕ) (size : ℕ) (m : Regs) (count k : ℕ) → Row
agree_list code size m count k = needs (is_address code size m (m.place + 1 + 1 + groups_for count)) (agrees code size m (groups_for count) (k + 1) (m.place + 1 + 1) count)

found_or : (e words a : ℕ) → Ok a ≡ (if nat_lt e words then Ok e else Err Odd) → (nat_lt e words ≡ true) × (a ≡ e)
found_or e words a is = by (nat_lt e words) is
  where
    by : (b : Bool) → Ok a ≡ (if b then Ok e else Err Odd) → (b ≡ true) × (a ≡ e)
    by true is = (refl, cc)
    by false is = absurd cc

lost_or : (e words : ℕ) (stop : Stop) → Err stop ≡ (if nat_lt e words then Ok e else Err Odd) → (nat_lt e words ≡ false) × (stop ≡ Odd)
lost_or e words stop is = by (nat_lt e words) is
  where
    by : (b : Bool) → Err stop ≡ (if b then Ok e else Err Odd) → (b ≡ false) × (stop ≡ Odd)
    by true is = absurd cc
    by false is = (refl, cc)

pub list_lost : (code : List ℕ) (size : ℕ) (m : Regs) (count k e words : ℕ) (stop : Stop) → length code ≡ words → e ≡ m.place + 1 + 1 + groups_for count → Err stop ≡ (if nat_lt e words then Ok e else Err Odd) → agree_list code size m count k ≡ plain (stop_step m stop)
list_lost code size m count k e words stop same is lost =
    let no = lost_or e words stop lost in
    rw no.1 (needs_no (is_address code size m (m.place + 1 + 1 + groups_for count)) _ (rw same (rw (sym is) no.0)))

pub list_there : (code : List ℕ) (size : ℕ) (m : Regs) (count k b e words next : ℕ) → length code ≡ words → b ≡ m.place + 1 → e ≡ m.place + 1 + 1 + groups_for count → Ok next ≡ (if nat_lt e words then Ok e else Err Odd)
    → (agree_list code size m count k ≡ agrees code size m (groups_for count) (k + 1) (b + 1) count) × (goes code size m (b + 1 + groups_for count) m ≡ plain (On (record m { place = next })))
list_there code size m count k b e words next same at is found =
    let yes = found_or e words next found in
    let here : m.place + 1 + 1 ≡ b + 1 = omega (arith, at) in
    let end : b + 1 + groups_for count ≡ next = let e_is = is in let next_is = yes.1 in omega (arith, at, e_is, next_is) in (
      needs_yes (is_address code size m (m.place + 1 + 1 + groups_for count)) _ (rw same (rw (sym is) yes.0)) ∙ ap (λ n. agrees code size m (groups_for count) (k + 1) n count) here,
      ap (λ n. goes code size m n m) end,
    )

-- BYVAL

abbrev pub looks_row : (code : List ℕ) (size : ℕ) (m : Regs) (l a : ℕ) → Row
looks_row code size m l a = cell_word code size m l a (λ place k. reads_order code size m k (λ head. looks_in code size m k (formals_handed head)))

abbrev pub look_go : (code : List ℕ) (size : ℕ) (m : Regs) → ℕ → Row
look_go code size m kind = gives code size m (truth (nat_le kind 2))

pub looks_odd : (code : List ℕ) (size : ℕ) (m : Regs) (k count : ℕ) → (m.r ≡ 0) ⊎ (count < m.r) → looks_in code size m k (Kinded count) ≡ odd
looks_odd code size m k count (inl none) =
    let no : (nat_le 1 m.r && (nat_le m.r count && is_address code size m (m.place + 1))) ≡ false = let least : nat_le 1 m.r ≡ false = grind (arith, nat_tests, none) in no_and (nat_le 1 m.r) (nat_le m.r count && is_address code size m (m.place + 1)) least in
    needs_no _ (looks_at code size m k (m.r - 1) count) no
looks_odd code size m k count (inr past) =
    let no : (nat_le 1 m.r && (nat_le m.r count && is_address code size m (m.place + 1))) ≡ false =
    let most : nat_le m.r count ≡ false = grind (arith, nat_tests, past) in and_no (nat_le 1 m.r) (nat_le m.r count && is_address code size m (m.place + 1)) (no_and (nat_le m.r count) (is_address code size m (m.place + 1)) most) in
    needs_no _ (looks_at code size m k (m.r - 1) count) no

pub looks_past : (code : List ℕ) (size : ℕ) (m : Regs) (k count e words : ℕ) (stop : Stop) → length code ≡ words → e ≡ m.place + 1 → Err stop ≡ (if nat_lt e words then Ok e else Err Odd) → looks_in code size m k (Kinded count) ≡ plain (stop_step m stop)
looks_past code size m k count e words stop same is lost =
    let gone = lost_or e words stop lost in
    let none : is_address code size m (m.place + 1) ≡ false = rw same (rw (sym is) gone.0) in
    rw gone.1 (needs_no _ (looks_at code size m k (m.r - 1) count) (and_no (nat_le 1 m.r) (nat_le m.r count && is_address code size m (m.place + 1)) (and_no (nat_le m.r count) (is_address code size m (m.place + 1)) none)))

-- the kind is looked at, and the order after is next
pub looks_there : (code : List ℕ) (size : ℕ) (m : Regs) (k count e words next n : ℕ) → length code ≡ words → e ≡ m.place + 1 → Ok next ≡ (if nat_lt e words then Ok e else Err Odd) → m.r ≢ 0 → m.r ≤ count → n ≡ m.r - 1
    → (looks_in code size m k (Kinded count) ≡ looks_at code size m k n count) × ((kind : ℕ) → look_go code size m kind ≡ plain (On (record m { r = truth (nat_le kind 2); place = next })))
looks_there code size m k count e words next n same is found some few number =
    let there = found_or e words next found in
    let here : is_address code size m (m.place + 1) ≡ true = rw same (rw (sym is) there.0) in
    let least : nat_le 1 m.r ≡ true = grind (arith, nat_tests, some) in
    let most : nat_le m.r count ≡ true = grind (arith, nat_tests, few) in (
      needs_yes _ (looks_at code size m k (m.r - 1) count) (all_yes (nat_le 1 m.r) (nat_le m.r count) (is_address code size m (m.place + 1)) least most here) ∙ ap (λ i. looks_at code size m k i count) (sym number),
      λ kind. needs_yes _ (goes code size m (m.place + 1) (record m { r = truth (nat_le kind 2) })) here ∙ ap (λ p. plain (On (record m { r = truth (nat_le kind 2); place = p }))) (sym (there.1 ∙ is)),
    )

pub truth_is : (b : Bool) (x : ℕ) → (b ≡ true → x ≡ 1) → (b ≡ false → x ≡ 0) → truth b ≡ x
truth_is true x one none = sym (one refl)
truth_is false x one none = sym (none refl)
