-- No order but LIB looks at the data that are left: on other data its row is the same, with those left.
use Rattle.std.specs.Prelude.{◌≡◌, ◌≢◌, ◌+◌, ◌-◌, ◌==◌, ◌&&◌, ◌||◌, ℕ, ℤ, zero, suc, Bool, true, false, not, if◌then◌else◌, nat_lt, int_lt, int_le, max, List, length, Option, None, Some, Result, Ok, Err, slice_get}
use Rattle.std.proofs.Common.{refl, ap}
use Rattle.gier_word.specs.Words.{int_of_word, word_of_int}
use Rattle.gier_word.specs.Operations.{sum_of, difference_of, product_of, quotient_of, power_of, negative_of, sign_of}
use Rattle.gier_word.specs.declared.alarm.Alarm.{Alarm}
use Rattle.gier_word.specs.declared.alarm.Alarm.TheVariants.{Bounds, Subscript, Stack, Parameters}
use Rattle.gier_word.specs.declared.int40.Spoil.{Spoil}
use Rattle.gier_order.specs.Codes.{order_at}
use Rattle.gier_order.specs.declared.order.Order.{Order}
use Rattle.gier_order.specs.declared.operation.Operation.{Operation}
use Rattle.gier_order.specs.declared.operation.Operation.TheVariants.{Start, Stop, Take, Short, Long, Keep, Addr, Fetch, Put, Add, Sub, Mul, Div, Pow, Neg, Lt, Le, Eq, Ge, Gt, Ne, Not, And, Or, Impl, Equiv, Jump, False, Test, Turn, Block, Leave, Array, Index, Proc, Call, Formal, Return, Thunk, Value, Place, NameL, Pass, Back, Give, Lib, Switch, SwForm, Lab, Go, Base, Kinds, Agree, ByVal, CallF}
use Rattle.gier_order.specs.Flat.Row.{Regs, Ending, Step, On, Ends, Odd, Row, plain, odd, needs, behind_ref, on_word, Entry, NoStep, NoRoom, Enters, entry}
use Rattle.gier_order.specs.Flat.Region.{put}
use Rattle.gier_order.specs.Flat.Kinds.{Handed, Bare, Kinded, Neither, formals_handed}
use Rattle.gier_order.specs.Flat.Arrays.{elements}
use Rattle.gier_order.specs.Flat.Rows

-- the step with these data left
abbrev pub fed_step : List ℕ → Step → Step
fed_step input (On m) = On (record m { input = input })
fed_step input (Ends ending m) = Ends ending (record m { input = input })
fed_step input Odd = Odd

abbrev pub fed : List ℕ → Row → Row
fed input row = record { refs = row.refs; printed = row.printed; step = fed_step input row.step }

-- kept shut, so that what a row is can be found from what is said of it
pub IsFed : List ℕ → Row → Row → Type 0
IsFed input row other = other ≡ fed input row

pub fed_of : (input : List ℕ) (row other : Row) → IsFed input row other → other ≡ fed input row
unfolding IsFed
fed_of input row other h = h

module _ (input : List ℕ) where
  odd_fed : IsFed input odd odd
  unfolding IsFed
  odd_fed = refl

  goes_fed : (m : Regs) → IsFed input (plain (On m)) (plain (On (record m { input = input })))
  unfolding IsFed
  goes_fed m = refl

  ends_fed : (ending : Ending) (m : Regs) → IsFed input (plain (Ends ending m)) (plain (Ends ending (record m { input = input })))
  unfolding IsFed
  ends_fed ending m = refl

  ref_fed : (a : ℕ) (row other : Row) → IsFed input row other → IsFed input (behind_ref a row) (behind_ref a other)
  unfolding IsFed
  ref_fed a row other h = ap (λ r. behind_ref a r) h

  needs_fed : (b : Bool) (row other : Row) → IsFed input row other → IsFed input (needs b row) (needs b other)
  needs_fed true row other h = h
  needs_fed false row other h = odd_fed

  if_fed : (b : Bool) (x x' y y' : Row) → IsFed input x x' → IsFed input y y' → IsFed input (if b then x else y) (if b then x' else y')
  if_fed true x x' y y' h k = h
  if_fed false x x' y y' h k = k

  word_fed : (a : ℕ) (go go' : ℕ → Row) (found : Option ℕ) → ((word : ℕ) → IsFed input (go word) (go' word)) → IsFed input (on_word a go found) (on_word a go' found)
  word_fed a go go' None h = odd_fed
  word_fed a go go' (Some word) h = ref_fed a (go word) (go' word) (h word)

-- on these data, and on those
module _ (code : List ℕ) (size : ℕ) (m : Regs) (input : List ℕ) where
  abbrev n : Regs
  n = record m { input = input }

  on_fed : (m1 : Regs) → IsFed input (Rows.on code size m m1) (Rows.on code size n (record m1 { input = input }))
  on_fed m1 = needs_fed input _ _ _ (goes_fed input (record m1 { place = m.place + 1 }))

  gives_fed : (word : ℕ) → IsFed input (Rows.gives code size m word) (Rows.gives code size n word)
  gives_fed word = on_fed (record m { r = word })

  answered_fed : (x : Result ℤ Spoil) → IsFed input (Rows.answered code size m x) (Rows.answered code size n x)
  answered_fed (Ok z) = gives_fed (word_of_int z)
  answered_fed (Err spoil) = needs_fed input _ _ _ (ends_fed input _ m)

  tested_fed : (x : Result ℤ Spoil) → IsFed input (Rows.tested code size m x) (Rows.tested code size n x)
  tested_fed (Ok z) = gives_fed _
  tested_fed (Err spoil) = needs_fed input _ _ _ (ends_fed input _ m)

  alarms_fed : (alarm : Alarm) → IsFed input (Rows.alarms code size m alarm) (Rows.alarms code size n alarm)
  alarms_fed alarm = ends_fed input _ m

  stack_fed : (p : ℕ) (go go' : ℕ → Row) → ((word : ℕ) → IsFed input (go word) (go' word)) → IsFed input (Rows.word_at code size m p go) (Rows.word_at code size n p go')
  stack_fed p go go' h = needs_fed input _ _ _ (h (m.words p))

  base_fed : (go go' : ℕ → Row) (found : Option ℕ) → ((b : ℕ) → IsFed input (go b) (go' b)) → IsFed input (Rows.from_base code size m go found) (Rows.from_base code size n go' found)
  base_fed go go' None h = odd_fed input
  base_fed go go' (Some b) h = h b

  level_fed : (l : ℕ) (go go' : ℕ → Row) → ((b : ℕ) → IsFed input (go b) (go' b)) → IsFed input (Rows.in_level code size m l go) (Rows.in_level code size n l go')
  level_fed l go go' h = base_fed go go' (Rows.visible code size m l) h

  pair_fed : (l a : ℕ) (go go' : ℕ → ℕ → Row) → ((first second : ℕ) → IsFed input (go first second) (go' first second))
      → IsFed input (Rows.cell_pair code size m l a go) (Rows.cell_pair code size n l a go')
  pair_fed l a go go' h = level_fed l _ _ (λ b. stack_fed (b + a) _ _ (λ first. stack_fed (b + a + 1) _ _ (λ second. h first second)))

  cell_fed : (l a : ℕ) (go go' : ℕ → ℕ → Row) → ((place word : ℕ) → IsFed input (go place word) (go' place word))
      → IsFed input (Rows.cell_word code size m l a go) (Rows.cell_word code size n l a go')
  cell_fed l a go go' h = level_fed l _ _ (λ b. stack_fed (b + a) _ _ (λ word. h (b + a) word))

  reads_fed : (a : ℕ) (go go' : ℕ → Row) → ((word : ℕ) → IsFed input (go word) (go' word)) → IsFed input (on_word a go (slice_get code a)) (on_word a go' (slice_get code a))
  reads_fed a go go' h = word_fed input a go go' (slice_get code a) h

  on_order_fed : (go go' : Order → Row) (found : Option Order) → ((order : Order) → IsFed input (go order) (go' order))
      → IsFed input (Rows.on_order code size m go found) (Rows.on_order code size n go' found)
  on_order_fed go go' None h = odd_fed input
  on_order_fed go go' (Some order) h = h order

  order_fed : (a : ℕ) (go go' : Order → Row) → ((order : Order) → IsFed input (go order) (go' order)) → IsFed input (Rows.reads_order code size m a go) (Rows.reads_order code size n a go')
  order_fed a go go' h = reads_fed a _ _ (λ word. on_order_fed go go' (order_at word) h)

  count_fed : (a most : ℕ) (go go' : ℕ → Row) → ((count : ℕ) → IsFed input (go count) (go' count)) → IsFed input (Rows.reads_count code size m a most go) (Rows.reads_count code size n a most go')
  count_fed a most go go' h = reads_fed (a + 1) _ _ (λ count. needs_fed input _ _ _ (h count))

  procedure_fed : (a : ℕ) (go go' : Order → ℕ → Row) → ((head : Order) (count : ℕ) → IsFed input (go head count) (go' head count))
      → IsFed input (Rows.reads_procedure code size m a go) (Rows.reads_procedure code size n a go')
  procedure_fed a go go' h = order_fed a _ _ (λ head. needs_fed input _ _ _ (count_fed a 511 _ _ (λ count. h head count)))

  thunk_fed : (a : ℕ) (go go' : Order → Row) → ((head : Order) → IsFed input (go head) (go' head)) → IsFed input (Rows.reads_thunk code size m a go) (Rows.reads_thunk code size n a go')
  thunk_fed a go go' h = order_fed a _ _ (λ head. needs_fed input _ _ _ (h head))

  taken_fed : (found : Entry) (go go' : ℕ → ℕ → ℕ → Row) → ((left greatest end : ℕ) → IsFed input (go left greatest end) (go' left greatest end))
      → IsFed input (Rows.taken_by code size m found go) (Rows.taken_by code size n found go')
  taken_fed NoStep go go' h = ends_fed input _ m
  taken_fed (NoRoom left) go go' h = ends_fed input _ (record m { left = left })
  taken_fed (Enters left greatest end) go go' h = h left greatest end

  room_fed : (room : ℕ) (go go' : ℕ → ℕ → ℕ → Row) → ((left greatest end : ℕ) → IsFed input (go left greatest end) (go' left greatest end))
      → IsFed input (Rows.takes_room code size m room go) (Rows.takes_room code size n room go')
  room_fed room go go' h = taken_fed (entry size m.left m.greatest m.top room) go go' h

  enters_fed : (level room outer from count a : ℕ) → IsFed input (Rows.enters code size m level room outer from count a) (Rows.enters code size n level room outer from count a)
  enters_fed level room outer from count a = needs_fed input _ _ _ (room_fed room _ _ (λ left greatest end. goes_fed input (record (Rows.called code size m level room outer 0 from count left greatest end) { place = a })))

  begins_fed : (kind wanted a : ℕ) (m1 : Regs) → IsFed input (Rows.begins code size m kind wanted a m1) (Rows.begins code size n kind wanted a (record m1 { input = input }))
  begins_fed kind wanted a m1 = if_fed input _ _ _ _ _ (ends_fed input _ m1) (goes_fed input (record m1 { place = a }))

  evaluates_fed : (a outer wanted : ℕ) → IsFed input (Rows.evaluates code size m a outer wanted) (Rows.evaluates code size n a outer wanted)
  evaluates_fed a outer wanted = thunk_fed a _ _ (λ head. needs_fed input _ _ _ (room_fed head.address _ _ (λ left greatest end.
      begins_fed head.level wanted (a + 1) (Rows.called code size m 0 head.address outer wanted m.base 0 left greatest end))))

  leaves_fed : (word : ℕ) → IsFed input (Rows.leaves code size m word) (Rows.leaves code size n word)
  leaves_fed word = needs_fed input (nat_lt 0 m.depth) _ _ (needs_fed input (nat_lt (m.base + 3) size) _ _ (needs_fed input (nat_lt m.base size) _ _
      (needs_fed input (nat_lt (m.words (m.base + 3)) (length code) && nat_lt (m.words m.base) size) _ _ (goes_fed input (record (Rows.outside code size m) { r = word; place = m.words (m.base + 3) })))))

  jumps_fed : (a : ℕ) → IsFed input (Rows.jumps code size m a) (Rows.jumps code size n a)
  jumps_fed a = needs_fed input _ _ _ (goes_fed input (record m { place = a }))

  pays_fed : (left a : ℕ) (m1 : Regs) → IsFed input (Rows.pays code size m left a m1) (Rows.pays code size n left a (record m1 { input = input }))
  pays_fed zero a m1 = ends_fed input _ m
  pays_fed (suc left) a m1 = goes_fed input (record m1 { left = left; place = a })

  computed_fed : (a : ℕ) (op : ℤ → ℤ → Result ℤ Spoil) → IsFed input (Rows.computes code size m a op) (Rows.computes code size n a op)
  computed_fed a op = needs_fed input _ _ _ (answered_fed (op (int_of_word (m.words (m.base + a))) (int_of_word m.r)))

  compared_fed : (a : ℕ) (op : ℤ → ℤ → Bool) → IsFed input (Rows.compares code size m a op) (Rows.compares code size n a op)
  compared_fed a op = needs_fed input _ _ _ (gives_fed _)

  decided_fed : (a : ℕ) (op : Bool → Bool → Bool) → IsFed input (Rows.decides code size m a op) (Rows.decides code size n a op)
  decided_fed a op = needs_fed input _ _ _ (gives_fed _)

  elements_fed : (d at from count : ℕ) → IsFed input (Rows.takes_elements code size m d at from count) (Rows.takes_elements code size n d at from count)
  elements_fed d at from count = if_fed input _ _ _ _ _ (on_fed (Rows.with_array code size m d at from count)) (alarms_fed Stack)

  array_fed : (d at from : ℕ) → IsFed input (Rows.array code size m d at from) (Rows.array code size n d at from)
  array_fed d at from = needs_fed input _ _ _ (if_fed input _ _ _ _ _ (elements_fed d at from (elements m.words from d)) (alarms_fed Bounds))

  element_by_fed : (d at from : ℕ) → IsFed input (Rows.element_by code size m d at from) (Rows.element_by code size n d at from)
  element_by_fed d at from = needs_fed input _ _ _ (if_fed input _ _ _ _ _ (needs_fed input _ _ _ (gives_fed _)) (alarms_fed Subscript))

  element_fed : (d at from : ℕ) → IsFed input (Rows.element code size m d at from) (Rows.element code size n d at from)
  element_fed d at from = needs_fed input _ _ _ (if_fed input _ _ _ _ _ (element_by_fed d at from) (alarms_fed Subscript))

  chooses_fed : (table outer : ℕ) (found : Option ℕ) → IsFed input (Rows.chooses code size m table outer found) (Rows.chooses code size n table outer found)
  chooses_fed table outer None = on_fed (record m { r = 0; q = 0 })
  chooses_fed table outer (Some k) = reads_fed (table + k) _ _ (λ a. evaluates_fed a outer Rows.for_label)

  switches_fed : (table outer : ℕ) → IsFed input (Rows.switches code size m table outer) (Rows.switches code size n table outer)
  switches_fed table outer = reads_fed table _ _ (λ count. chooses_fed table outer (Rows.element_index (int_of_word m.r) count))

  agrees_fed : (groups formals actuals left : ℕ) → IsFed input (Rows.agrees code size m groups formals actuals left) (Rows.agrees code size n groups formals actuals left)
  agrees_fed zero formals actuals left = goes_fed input (record m { place = actuals })
  agrees_fed (suc k) formals actuals left = reads_fed formals _ _ (λ wanted. needs_fed input _ _ _ (reads_fed actuals _ _ (λ given. needs_fed input _ _ _
      (if_fed input _ _ _ _ _ (agrees_fed k (formals + 1) (actuals + 1) (left - 10)) (alarms_fed Parameters)))))

  either_fed : (b : Bool) (x x' : Row) → IsFed input x x' → IsFed input (elim b as (λ _. Row) [ true ↦ x | false ↦ odd ]) (elim b as (λ _. Row) [ true ↦ x' | false ↦ odd ])
  either_fed true x x' h = h
  either_fed false x x' h = odd_fed input

  agrees_with_fed : (k list count : ℕ) (what : Handed) → IsFed input (Rows.agrees_with code size m k list count what) (Rows.agrees_with code size n k list count what)
  agrees_with_fed k list count Neither = odd_fed input
  agrees_with_fed k list count Bare = either_fed _ _ _ (alarms_fed Parameters)
  agrees_with_fed k list count (Kinded formals) = either_fed _ _ _ (if_fed input _ _ _ _ _ (needs_fed input _ _ _ (agrees_fed _ (k + 1) list count)) (alarms_fed Parameters))

  looks_fed : (k at count : ℕ) → IsFed input (Rows.looks_at code size m k at count) (Rows.looks_at code size n k at count)
  looks_fed k at count = reads_fed _ _ _ (λ word. needs_fed input _ _ _ (gives_fed _))

  looks_in_fed : (k : ℕ) (what : Handed) → IsFed input (Rows.looks_in code size m k what) (Rows.looks_in code size n k what)
  looks_in_fed k Bare = odd_fed input
  looks_in_fed k (Kinded count) = needs_fed input _ _ _ (looks_fed k (m.r - 1) count)
  looks_in_fed k Neither = odd_fed input

  bare_fed : (k place : ℕ) (head : Order) (what : Handed) → IsFed input (Rows.calls_bare code size m k place head what) (Rows.calls_bare code size n k place head what)
  bare_fed k place head Bare = count_fed k 1 _ _ (λ count. needs_fed input _ _ _ (enters_fed head.level head.address (m.words place) m.base count (k + 2)))
  bare_fed k place head (Kinded formals) = alarms_fed Parameters
  bare_fed k place head Neither = odd_fed input

  kinded_fed : (place : ℕ) (kinds : Order) (what : Handed) → IsFed input (Rows.calls_kinded code size m place kinds what) (Rows.calls_kinded code size n place kinds what)
  kinded_fed place kinds Bare = odd_fed input
  kinded_fed place kinds (Kinded formals) = procedure_fed kinds.address _ _ (λ head count. needs_fed input _ _ _ (needs_fed input _ _ _
      (enters_fed head.level head.address (m.words place) (m.base + m.r) count (kinds.address + 2))))
  kinded_fed place kinds Neither = odd_fed input

  effect_fed : (operation : Operation) (l a : ℕ) → operation ≢ Lib → IsFed input (Rows.effect code size m operation l a) (Rows.effect code size n operation l a)
  effect_fed Start l a other = needs_fed input _ _ _ (if_fed input _ _ _ _ _ (on_fed (Rows.first_activation code size m l a)) (alarms_fed Stack))
  effect_fed Stop l a other = ends_fed input _ m
  effect_fed Take l a other = cell_fed l a _ _ (λ place word. gives_fed word)
  effect_fed Short l a other = gives_fed a
  effect_fed Long l a other = reads_fed (m.place + 1) _ _ (λ word. needs_fed input _ _ _ (goes_fed input (record m { r = word; place = m.place + 1 + 1 })))
  effect_fed Keep l a other = needs_fed input _ _ _ (on_fed (record m { words = put m.words (m.base + a) m.r }))
  effect_fed Addr l a other = level_fed l _ _ (λ b. gives_fed (b + a))
  effect_fed Fetch l a other = needs_fed input _ _ _ (gives_fed (m.words m.r))
  effect_fed Put l a other = needs_fed input _ _ _ (needs_fed input _ _ _ (on_fed (record m { words = put m.words (m.words (m.base + a)) m.r })))
  effect_fed Add l a other = computed_fed a sum_of
  effect_fed Sub l a other = computed_fed a difference_of
  effect_fed Mul l a other = computed_fed a product_of
  effect_fed Div l a other = computed_fed a quotient_of
  effect_fed Pow l a other = computed_fed a power_of
  effect_fed Neg l a other = answered_fed (negative_of (int_of_word m.r))
  effect_fed Lt l a other = compared_fed a (λ w r. int_lt w r)
  effect_fed Le l a other = compared_fed a (λ w r. int_le w r)
  effect_fed Eq l a other = compared_fed a (λ w r. Rows.are_equal w r)
  effect_fed Ge l a other = compared_fed a (λ w r. int_le r w)
  effect_fed Gt l a other = compared_fed a (λ w r. int_lt r w)
  effect_fed Ne l a other = compared_fed a (λ w r. not (Rows.are_equal w r))
  effect_fed Not l a other = gives_fed _
  effect_fed And l a other = decided_fed a (λ w r. w && r)
  effect_fed Or l a other = decided_fed a (λ w r. w || r)
  effect_fed Impl l a other = decided_fed a (λ w r. not w || r)
  effect_fed Equiv l a other = decided_fed a (λ w r. (w && r) || (not w && not r))
  effect_fed Jump l a other = jumps_fed a
  effect_fed False l a other = if_fed input _ _ _ _ _ (jumps_fed a) (on_fed m)
  effect_fed Test l a other = needs_fed input _ _ _ (tested_fed (product_of (int_of_word (m.words (m.base + a))) (sign_of (int_of_word m.r))))
  effect_fed Turn l a other = needs_fed input _ _ _ (needs_fed input _ _ _ (pays_fed m.left (m.words (m.base + a)) m))
  effect_fed Block l a other = needs_fed input _ _ _ (room_fed a _ _ (λ left greatest end. on_fed (Rows.inside code size m l a m.base 0 left greatest end)))
  effect_fed Leave l a other = needs_fed input (nat_lt 0 m.depth) _ _ (needs_fed input (nat_lt m.base size) _ _ (needs_fed input (nat_lt (m.words m.base) size) _ _ (on_fed (Rows.outside code size m))))
  effect_fed Array l a other = array_fed l (m.base + a) (m.base + m.r)
  effect_fed Index l a other = needs_fed input _ _ _ (element_fed l (m.words (m.base + a)) (m.base + a + 1))
  effect_fed Proc l a other = odd_fed input
  effect_fed Call l a other = procedure_fed a _ _ (λ head count. level_fed l _ _ (λ outer. enters_fed head.level head.address outer (m.base + m.r) count (a + 2)))
  effect_fed Formal l a other = cell_fed l a _ _ (λ place k. order_fed k _ _ (λ head. bare_fed k (place + 1) head (formals_handed head)))
  effect_fed Return l a other = needs_fed input _ _ _ (if_fed input _ _ _ _ _ (needs_fed input _ _ _ (leaves_fed (m.words (m.base + 5)))) (leaves_fed m.r))
  effect_fed Thunk l a other = odd_fed input
  effect_fed Value l a other = pair_fed l a _ _ (λ k outer. evaluates_fed k outer Rows.for_value)
  effect_fed Place l a other = pair_fed l a _ _ (λ k outer. evaluates_fed k outer Rows.for_address)
  effect_fed NameL l a other = pair_fed l a _ _ (λ k outer. evaluates_fed k outer Rows.for_label)
  effect_fed Pass l a other = needs_fed input _ _ _ (needs_fed input _ _ _ (pair_fed l a _ _ (λ k outer. evaluates_fed k outer (m.words (m.base + 4)))))
  effect_fed Back l a other = needs_fed input _ _ _ (needs_fed input _ _ _ (leaves_fed m.r))
  effect_fed Give l a other =
      let wanted = m.words (m.base + 4) in
      needs_fed input (nat_lt (m.base + 4) size) _ _ (needs_fed input ((wanted == Rows.for_value) || (wanted == Rows.for_address)) _ _
      (if_fed input (wanted == Rows.for_value) _ _ _ _ (needs_fed input (nat_lt m.r size) _ _ (leaves_fed (m.words m.r))) (leaves_fed m.r)))
  effect_fed Lib l a other = absurd (other refl)
  effect_fed Switch l a other = level_fed l _ _ (λ outer. switches_fed a outer)
  effect_fed SwForm l a other = pair_fed l a _ _ (λ table outer. switches_fed table outer)
  effect_fed Lab l a other = level_fed l _ _ (λ b. on_fed (record m { r = a; q = b }))
  effect_fed Go l a other = if_fed input _ _ _ _ _ (on_fed m) (needs_fed input _ _ _ (needs_fed input _ _ _ (pays_fed m.left m.r (record m { base = m.q; top = m.words (m.q + 2); greatest = max m.greatest (m.words (m.q + 2)) }))))
  effect_fed Base l a other = if_fed input _ _ _ _ _ (gives_fed m.base) (level_fed l _ _ (λ b. gives_fed b))
  effect_fed Kinds l a other = odd_fed input
  effect_fed Agree l a other = reads_fed (m.place + 1) _ _ (λ count. cell_fed l a _ _ (λ place k. order_fed k _ _ (λ head. agrees_with_fed k (m.place + 1 + 1) count (formals_handed head))))
  effect_fed ByVal l a other = cell_fed l a _ _ (λ place k. order_fed k _ _ (λ head. looks_in_fed k (formals_handed head)))
  effect_fed CallF l a other = cell_fed l a _ _ (λ place k. order_fed k _ _ (λ kinds. kinded_fed (place + 1) kinds (formals_handed kinds)))

  pub effect_on : (operation : Operation) (l a : ℕ) → operation ≢ Lib → Rows.effect code size n operation l a ≡ fed input (Rows.effect code size m operation l a)
  effect_on operation l a other = fed_of input _ _ (effect_fed operation l a other)
