-- Evaluations that are found by words of the object, as rows.
use Rattle.std.specs.Prelude.{◌≡◌, ◌≢◌, ◌+◌, ◌-◌, ◌<◌, ◌≤◌, ◌==◌, ◌&&◌, ◌||◌, ℕ, ℤ, pos, negsuc, Bool, true, false, nat_lt, nat_le, if◌then◌else◌, List, [], ◌∷◌, length, Option, None, Some, Result, Ok, Err}
use Rattle.std.proofs.Common.{arith, refl, ap, sym, subst, ◌∙◌}
use Rattle.std.proofs.lemmas.Bool.Decides.{nat_tests}
use Rattle.std.proofs.Math.Path.{fun_ext}
use Rattle.gier_places.specs.Contents.{Agrees}
use Rattle.gier_names.specs.declared.wanted.Wanted.{Wanted}
use Rattle.gier_names.specs.declared.wanted.Wanted.TheVariants.{Value, Address, Label}
use Rattle.gier_names.specs.Evaluations.{number_of, is_thunk, picked}
use Rattle.gier_order.specs.declared.object.Object.{Object}
use Rattle.gier_order.specs.declared.order.Order.{Order}
use Rattle.gier_order.specs.declared.operation.Operation.{Operation}
use Rattle.gier_order.specs.declared.operation.Operation.TheVariants.{Thunk, Value as ValueOrder, Place, NameL, Pass, Switch, SwForm}
use Rattle.gier_order.specs.Flat.Row.{Regs, On, Row, plain, needs, odd, reads}
use Rattle.gier_order.specs.Flat.Kinds.{is_a}
use Rattle.gier_order.specs.Flat.Rows.{evaluates, reads_order, can_enter, takes_room, called, begins, effect, local, cell_pair, element_index, chooses, on}
use Rattle.gier_exec.specs.declared.activations.Evaluation.{Evaluation}
use Rattle.gier_exec.specs.declared.stop.Stop.{Stop}
use Rattle.gier_exec.specs.declared.stop.Stop.TheVariants.{Odd}
use Rattle.gier_exec.specs.Reading.{Stand}
use Rattle.gier_exec.specs.Numbers.{is_evaluation, is_choice}
use Rattle.gier_exec.specs.References.{Refers, RefinesFetch, fetched_at}
use Rattle.gier_exec.specs.Following.{RefinesValue, RefinesStop, RefinesJump}
use Rattle.gier_exec.specs.Searching.{RefinesSearch}
use Rattle.gier_exec.specs.Beginning.{evaluation_row}
use Rattle.gier_exec.proofs.Searches.{finds_missed, needs_yes, needs_no}
use Rattle.gier_exec.specs.declared.stop.Miss.{Miss}

-- A THUNK

needs_both : (a b : Bool) (row : Row) → needs (a && b) row ≡ needs a (needs b row)
needs_both true b row = refl
needs_both false b row = refl

abbrev begun_by : (code : List ℕ) (size : ℕ) (m : Regs) (a outer wanted : ℕ) → Order → Row
begun_by code size m a outer wanted head =
    needs (can_enter code size m head.address outer m.base 0) (takes_room code size m head.address (λ left greatest end.
    begins code size m head.level wanted (a + 1) (called code size m 0 head.address outer wanted m.base 0 left greatest end)))

-- what follows a THUNK that was read
abbrev pub thunk_go : (code : List ℕ) (size : ℕ) (m : Regs) (a outer wanted : ℕ) → Order → Row
thunk_go code size m a outer wanted head = needs (nat_le head.level 3 && nat_lt (a + 1) (length code)) (begun_by code size m a outer wanted head)

pub thunk_row : (code : List ℕ) (size : ℕ) (m : Regs) (a outer wanted : ℕ)
    → evaluates code size m a outer wanted ≡ reads_order code size m a (λ head. needs (is_a Thunk head) (thunk_go code size m a outer wanted head))
thunk_row code size m a outer wanted =
    ap (λ f. reads_order code size m a f) (fun_ext (λ head. needs_both (is_a Thunk head) (nat_le head.level 3 && nat_lt (a + 1) (length code)) (begun_by code size m a outer wanted head)))

pub thunk_level : (code : List ℕ) (size : ℕ) (m : Regs) (a outer wanted : ℕ) (head : Order) → 3 < head.level → thunk_go code size m a outer wanted head ≡ odd
thunk_level code size m a outer wanted head past =
    let no : (nat_le head.level 3 && nat_lt (a + 1) (length code)) ≡ false = grind (arith, nat_tests, past) in
    needs_no _ (begun_by code size m a outer wanted head) no

pub thunk_last : (code : List ℕ) (size : ℕ) (m : Regs) (a outer wanted : ℕ) (head : Order) → length code ≤ a + 1 → thunk_go code size m a outer wanted head ≡ odd
thunk_last code size m a outer wanted head past =
    let no : (nat_le head.level 3 && nat_lt (a + 1) (length code)) ≡ false = grind (arith, nat_tests, past) in
    needs_no _ (begun_by code size m a outer wanted head) no

pub thunk_found : (code : List ℕ) (size : ℕ) (m : Regs) (a : ℕ) (found : Evaluation) → found.thunk.level ≤ 3 → a + 1 < length code → found.next ≡ a + 1
    → thunk_go code size m a found.outer (number_of found.wanted) found.thunk ≡ evaluation_row code size m found
thunk_found code size m a found least next is =
    let yes : (nat_le found.thunk.level 3 && nat_lt (a + 1) (length code)) ≡ true = grind (arith, nat_tests, least, next) in
    needs_yes _ (begun_by code size m a found.outer (number_of found.wanted) found.thunk) yes
    ∙ ap (λ at. needs (can_enter code size m found.thunk.address found.outer m.base 0) (takes_room code size m found.thunk.address (λ left greatest end.
    begins code size m found.thunk.level (number_of found.wanted) at (called code size m 0 found.thunk.address found.outer (number_of found.wanted) m.base 0 left greatest end)))) (sym is)

pub thunk_is : (thunk : Order) → is_a Thunk thunk ≡ true → thunk.level ≤ 3 → is_thunk thunk ≡ true
thunk_is thunk is least = let yes : nat_le thunk.level 3 ≡ true = grind (arith, nat_tests, least) in rw yes (rw is refl)

-- A word that is read first

pub search_word : (object : Object) (old new : Stand) (row : Row) (regs : Regs) (go : ℕ → Row) (a word : ℕ) → Refers object (fetched_at a (Ok word)) old new → RefinesFetch row go a (Ok word) → RefinesSearch object old new row regs go (Ok word)
search_word object old new row regs go a word refers h = (a ∷ [], refers, h)

pub search_missed : {A : Type 0} (object : Object) (old new : Stand) (row : Row) (regs : Regs) (go : ℕ → Row) (other : A → Row) (a : ℕ) (miss : Miss) → Refers object (fetched_at a (Err miss)) old new → RefinesFetch row go a (Err miss)
    → RefinesSearch object old new row regs other (Err miss)
search_missed object old new row regs go other a miss refers h = ([], refers, finds_missed row a regs go other miss h)

pub agrees_behind : (object : Object) (refs : List ℕ) (old new : Stand) (tracks : List (List ℕ)) → Refers object refs old new → old.tracks ≡ Some tracks → new.tracks ≡ old.tracks → Agrees (Some tracks) old.places.held → Agrees (Some tracks) new.places.held
agrees_behind object refs old new tracks refers told same h =
    subst (λ t. Agrees t new.places.held) (same ∙ told) (refers.agrees (subst (λ t. Agrees t old.places.held) (sym told) h))

-- What is wanted

either_no : (w : ℕ) (row : Row) → needs ((w == 1) || (w == 2)) row ≡ needs (nat_le 1 w && nat_le w 3) (needs ((w == 1) || (w == 2)) row)
either_no w row = by (w == 1) (w == 2) refl refl
  where
    by : (a b : Bool) → (w == 1) ≡ a → (w == 2) ≡ b → needs (a || b) row ≡ needs (nat_le 1 w && nat_le w 3) (needs (a || b) row)
    by true b ea eb = let yes : (nat_le 1 w && nat_le w 3) ≡ true = grind (arith, nat_tests, ea) in rw yes refl
    by false true ea eb = let yes : (nat_le 1 w && nat_le w 3) ≡ true = grind (arith, nat_tests, eb) in rw yes refl
    by false false ea eb = any (nat_le 1 w && nat_le w 3)
      where
        any : (c : Bool) → odd ≡ needs c odd
        any true = refl
        any false = refl

abbrev pub pass_cell : (code : List ℕ) (size : ℕ) (m : Regs) (l a wanted : ℕ) → Row
pass_cell code size m l a wanted = cell_pair code size m l a (λ k outer. evaluates code size m k outer wanted)

-- what PASS does when it was read what is wanted
abbrev pub pass_go : (code : List ℕ) (size : ℕ) (m : Regs) (l a wanted : ℕ) → Row
pass_go code size m l a wanted = needs ((wanted == 1) || (wanted == 2)) (pass_cell code size m l a wanted)

pub pass_row : (code : List ℕ) (size : ℕ) (m : Regs) (l a : ℕ) → effect code size m Pass l a ≡ local code size m 4 (λ wanted. needs (nat_le 1 wanted && nat_le wanted 3) (pass_go code size m l a wanted))
pass_row code size m l a = ap (λ row. needs (nat_lt (m.base + 4) size) row) (either_no (m.words (m.base + 4)) (pass_cell code size m l a (m.words (m.base + 4))))

-- what is wanted is handed on, but no label
pub pass_gets : (code : List ℕ) (size : ℕ) (m : Regs) (l a : ℕ) (wanted : Wanted) (result : Result Wanted Stop) → (wanted ≡ Label → result ≡ Err Odd) → (wanted ≢ Label → result ≡ Ok wanted)
    → RefinesValue (pass_go code size m l a (number_of wanted)) (λ w. pass_cell code size m l a (number_of w)) result
pass_gets code size m l a Value result label other = rw (other (λ e. absurd cc)) refl
pass_gets code size m l a Address result label other = rw (other (λ e. absurd cc)) refl
pass_gets code size m l a Label result label other = rw (label refl) refl

pub pass_is : (operation : Operation) → operation ≢ ValueOrder → operation ≢ Place → operation ≢ NameL → is_evaluation operation ≡ true → operation ≡ Pass
pass_is ValueOrder a b c is = absurd (a refl)
pass_is Place a b c is = absurd (b refl)
pass_is NameL a b c is = absurd (c refl)
pass_is Pass a b c is = refl
pass_is operation a b c is = absurd cc

-- Switches

pub switch_is : (operation : Operation) → operation ≢ SwForm → is_choice operation ≡ true → operation ≡ Switch
switch_is SwForm other is = absurd (other refl)
switch_is Switch other is = refl
switch_is operation other is = absurd cc

abbrev some_if : Bool → ℕ → Option ℕ
some_if b n = if b then Some n else None

pub chosen_none : (z : ℤ) (count : ℕ) → None ≡ picked z count → element_index z count ≡ None
chosen_none (negsuc n) count e = refl
chosen_none (pos n) count e = by (nat_le 1 n && nat_le n count) e
  where
    by : (b : Bool) → None ≡ some_if b (n - 1) → some_if b n ≡ None
    by true h = absurd cc
    by false h = refl

pub chosen_some : (z : ℤ) (count at : ℕ) → Some at ≡ picked z count → element_index z count ≡ Some (at + 1)
chosen_some (negsuc n) count at e = absurd cc
chosen_some (pos n) count at e = by (nat_le 1 n && nat_le n count) refl e
  where
    by : (b : Bool) → (nat_le 1 n && nat_le n count) ≡ b → Some at ≡ some_if b (n - 1) → some_if b n ≡ Some (at + 1)
    by true is h =
        let least : 1 ≤ n = grind (arith, nat_tests, is) in
        let same : at ≡ n - 1 = cc in
        let back : n ≡ at + 1 = omega (arith, least, same) in
        ap Some back
    by false is h = absurd cc

pub none_goes : (code : List ℕ) (size : ℕ) (m : Regs) (e words next_at : ℕ) → e ≡ m.place + 1 → length code ≡ words → Ok next_at ≡ (if nat_lt e words then Ok e else Err Odd)
    → on code size m (record m { r = 0; q = 0 }) ≡ plain (On (record m { r = 0; q = 0; place = next_at }))
none_goes code size m e words next_at at same is =
    let found = found_at (nat_lt e words) is in
    rw (found.1 ∙ at) (needs_yes (nat_lt (m.place + 1) (length code)) _ (rw (sym at) (rw same found.0)))
  where
    found_at : (b : Bool) → Ok next_at ≡ (if b then Ok e else Err Odd) → (b ≡ true) × (next_at ≡ e)
    found_at true h = (refl, cc)
    found_at false h = absurd cc

pub none_lost : (code : List ℕ) (size : ℕ) (m regs : Regs) (e words : ℕ) (stop : Stop) → e ≡ m.place + 1 → length code ≡ words → Err stop ≡ (if nat_lt e words then Ok e else Err Odd)
    → RefinesStop (on code size m (record m { r = 0; q = 0 })) regs stop
none_lost code size m regs e words stop at same is =
    let lost = lost_at (nat_lt e words) is in
    rw lost.1 (needs_no (nat_lt (m.place + 1) (length code)) _ (rw (sym at) (rw same lost.0)))
  where
    lost_at : (b : Bool) → Err stop ≡ (if b then Ok e else Err Odd) → (b ≡ false) × (stop ≡ Odd)
    lost_at true h = absurd cc
    lost_at false h = (refl, cc)

-- the element with a number
pub element_row : (code : List ℕ) (size : ℕ) (m : Regs) (table outer count at : ℕ) (z : ℤ) → Some at ≡ picked z count
    → chooses code size m table outer (element_index z count) ≡ reads code (table + 1 + at) (λ a. evaluates code size m a outer 3)
element_row code size m table outer count at z is =
    let there : table + (at + 1) ≡ table + 1 + at = omega arith in
    ap (λ x. chooses code size m table outer x) (chosen_some z count at is)
    ∙ ap (λ a. reads code a (λ a. evaluates code size m a outer 3)) there
