-- An order lowers twice the steps left and the depth together, or it leaves them no greater and goes forward.
use Rattle.std.proofs.Common.{◌≡◌, ◌+◌, ◌-◌, ◌*◌, ◌<◌, ◌≤◌, ◌⊎◌, inl, inr, ◌==◌, ◌&&◌, ℕ, zero, suc, ℤ, Bool, true, false, nat_lt, nat_le, List, length, Option, None, Some, Result, Ok, Err, refl, arith}
use Rattle.std.specs.Prelude.{◌||◌, ⊤, max, not, int_lt, int_le, slice_get, if◌then◌else◌}
use Rattle.gier_word.specs.Words.{int_of_word, word_of_int}
use Rattle.std.proofs.lemmas.Bool.{ltb-true}
use Rattle.gier_word.specs.Operations.{sum_of, difference_of, product_of, quotient_of, power_of, sign_of}
use Rattle.gier_word.specs.Standard.{line_text}
use Rattle.gier_word.specs.declared.alarm.Alarm.{Alarm}
use Rattle.gier_word.specs.declared.alarm.Alarm.TheVariants.{Parameters, Subscript}
use Rattle.gier_word.specs.declared.int40.Spoil.{Spoil}
use Rattle.gier_order.specs.Codes.{order_at}
use Rattle.gier_order.specs.Table.{operation_at}
use Rattle.gier_order.specs.declared.order.Order.{Order}
use Rattle.gier_order.specs.declared.operation.Operation.{Operation}
use Rattle.gier_order.specs.declared.operation.Operation.TheVariants.{Start, Stop, Take, Short, Long, Keep, Addr, Fetch, Put, Add, Sub, Mul, Div, Pow, Neg, Lt, Le, Eq, Ge, Gt, Ne, Not, And, Or, Impl, Equiv, Jump, False, Test, Turn, Block, Leave, Array, Index, Proc, Call, Formal, Return, Thunk, Value, Place, NameL, Pass, Back, Give, Lib, Switch, SwForm, Lab, Go, Base, Kinds, Agree, ByVal, CallF}
use Rattle.gier_order.specs.Flat.Row.{Regs, Ending, Alarmed, Step, On, Ends, Odd, Row, plain, odd, needs, behind_ref, behind_bytes, on_word, reads, Entry, NoRoom, Enters, entry}
use Rattle.gier_order.specs.Flat.Region.{put}
use Rattle.gier_order.specs.Flat.Arrays.{elements, offset}
use Rattle.gier_order.specs.Flat.Kinds.{groups_for, has_formals, formals_handed, Handed, Bare, Kinded, Neither}
use Rattle.gier_order.specs.Flat.Rows

-- the first number, and what a step of a row does to it from these registers
abbrev pub weight : Regs → ℕ
weight m = 2 * m.left + m.depth

abbrev pub Lowers : Regs → Regs → Type 0
Lowers m m1 = (weight m1 < weight m) ⊎ ((weight m1 ≤ weight m) × (m.place < m1.place))

abbrev pub Falls : Regs → Step → Type 0
Falls m (On m1) = Lowers m m1
Falls m (Ends ending m1) = ⊤
Falls m Odd = ⊤

module _ (code : List ℕ) (size : ℕ) (m : Regs) where
  F : Row → Type 0
  F row = Falls m row.step

  odd_f : F odd
  unfolding F
  odd_f = tt

  ends_f : (ending : Ending) (m1 : Regs) → F (plain (Ends ending m1))
  unfolding F
  ends_f ending m1 = tt

  more_f : (m1 : Regs) → Lowers m m1 → F (plain (On m1))
  unfolding F
  more_f m1 h = h

  ref_f : (a : ℕ) (row : Row) → F row → F (behind_ref a row)
  unfolding F
  ref_f a row h = h

  bytes_f : (bytes : List ℕ) (row : Row) → F row → F (behind_bytes bytes row)
  unfolding F
  bytes_f bytes row h = h

  needs_f : (b : Bool) (row : Row) → (b ≡ true → F row) → F (needs b row)
  needs_f true row h = h refl
  needs_f false row h = odd_f

  needs_same : (b : Bool) (row : Row) → F row → F (needs b row)
  needs_same true row h = h
  needs_same false row h = odd_f

  if_f : (b : Bool) (x y : Row) → F x → F y → F (if b then x else y)
  if_f true x y h k = h
  if_f false x y h k = k

  on_word_f : (a : ℕ) (go : ℕ → Row) (word : Option ℕ) → ((w : ℕ) → F (go w)) → F (on_word a go word)
  on_word_f a go None h = odd_f
  on_word_f a go (Some w) h = ref_f a (go w) (h w)

  reads_f : (a : ℕ) (go : ℕ → Row) → ((w : ℕ) → F (go w)) → F (reads code a go)
  reads_f a go h = on_word_f a go (slice_get code a) h

  -- goes forward
  goes_f : (a : ℕ) (m1 : Regs) → m.place < a → weight m1 ≤ weight m → F (Rows.goes code size m a m1)
  goes_f a m1 ahead calm = more_f (record m1 { place = a }) (inr (calm, ahead))

  goes_less : (a : ℕ) (m1 : Regs) → weight m1 < weight m → F (Rows.goes code size m a m1)
  goes_less a m1 less = more_f (record m1 { place = a }) (inl less)

  on_f : (m1 : Regs) → weight m1 ≤ weight m → F (Rows.on code size m m1)
  on_f m1 calm = needs_same _ _ (goes_f (m.place + 1) m1 (omega arith) calm)

  on_less : (m1 : Regs) → weight m1 < weight m → F (Rows.on code size m m1)
  on_less m1 less = needs_same _ _ (goes_less (m.place + 1) m1 less)

  calm : weight m ≤ weight m
  calm = omega arith

  gives_f : (word : ℕ) → F (Rows.gives code size m word)
  gives_f word = on_f (record m { r = word }) calm

  answered_f : (result : Result ℤ Spoil) → F (Rows.answered code size m result)
  answered_f (Ok z) = gives_f _
  answered_f (Err spoil) = needs_same _ _ (ends_f _ _)

  tested_f : (result : Result ℤ Spoil) → F (Rows.tested code size m result)
  tested_f (Ok z) = gives_f _
  tested_f (Err spoil) = needs_same _ _ (ends_f _ _)

  word_at_f : (p : ℕ) (go : ℕ → Row) → ((w : ℕ) → F (go w)) → F (Rows.word_at code size m p go)
  word_at_f p go h = needs_same _ _ (h _)

  from_base_f : (go : ℕ → Row) (found : Option ℕ) → ((b : ℕ) → F (go b)) → F (Rows.from_base code size m go found)
  from_base_f go None h = odd_f
  from_base_f go (Some b) h = h b

  in_level_f : (l : ℕ) (go : ℕ → Row) → ((b : ℕ) → F (go b)) → F (Rows.in_level code size m l go)
  in_level_f l go h = from_base_f go (Rows.visible code size m l) h

  cell_pair_f : (l a : ℕ) (go : ℕ → ℕ → Row) → ((x y : ℕ) → F (go x y)) → F (Rows.cell_pair code size m l a go)
  cell_pair_f l a go h = in_level_f l _ (λ b. word_at_f (b + a) _ (λ x. word_at_f (b + a + 1) _ (λ y. h x y)))

  cell_word_f : (l a : ℕ) (go : ℕ → ℕ → Row) → ((p x : ℕ) → F (go p x)) → F (Rows.cell_word code size m l a go)
  cell_word_f l a go h = in_level_f l _ (λ b. word_at_f (b + a) _ (λ x. h (b + a) x))

  on_order_f : (go : Order → Row) (found : Option Order) → ((order : Order) → F (go order)) → F (Rows.on_order code size m go found)
  on_order_f go None h = odd_f
  on_order_f go (Some order) h = h order

  reads_order_f : (a : ℕ) (go : Order → Row) → ((order : Order) → F (go order)) → F (Rows.reads_order code size m a go)
  reads_order_f a go h = reads_f a _ (λ w. on_order_f go (order_at w) h)

  reads_count_f : (a most : ℕ) (go : ℕ → Row) → ((count : ℕ) → F (go count)) → F (Rows.reads_count code size m a most go)
  reads_count_f a most go h = reads_f _ _ (λ w. needs_same _ _ (h w))

  reads_procedure_f : (a : ℕ) (go : Order → ℕ → Row) → ((head : Order) (count : ℕ) → F (go head count)) → F (Rows.reads_procedure code size m a go)
  reads_procedure_f a go h = reads_order_f a _ (λ head. needs_same _ _ (reads_count_f _ _ _ (λ count. h head count)))

  reads_thunk_f : (a : ℕ) (go : Order → Row) → ((head : Order) → F (go head)) → F (Rows.reads_thunk code size m a go)
  reads_thunk_f a go h = reads_order_f a _ (λ head. needs_same _ _ (h head))

  -- an entry costs a step
  room_f : (room left : ℕ) (fits : Bool) (go : ℕ → ℕ → ℕ → Row) → suc left ≡ m.left → ((left greatest end : ℕ) → suc left ≡ m.left → F (go left greatest end)) → F (Rows.taken_by code size m (elim fits as (λ _. Entry) [ true ↦ Enters left (max m.greatest (m.top + room)) (m.top + room) | false ↦ NoRoom left ]) go)
  room_f room left true go e h = h _ _ _ e
  room_f room left false go e h = ends_f _ _

  entry_f : (room left : ℕ) (go : ℕ → ℕ → ℕ → Row) → left ≡ m.left → ((left greatest end : ℕ) → suc left ≡ m.left → F (go left greatest end)) → F (Rows.taken_by code size m (entry size left m.greatest m.top room) go)
  entry_f room zero go e h = ends_f _ _
  entry_f room (suc left) go e h = room_f room left (nat_le (m.top + room) size) go e h

  takes_room_f : (room : ℕ) (go : ℕ → ℕ → ℕ → Row) → ((left greatest end : ℕ) → suc left ≡ m.left → F (go left greatest end)) → F (Rows.takes_room code size m room go)
  takes_room_f room go h = entry_f room m.left go refl h

  pays_f : (left a : ℕ) (m1 : Regs) → left ≡ m.left → m1.depth ≤ m.depth → F (Rows.pays code size m left a m1)
  pays_f zero a m1 e h = ends_f _ _
  pays_f (suc left) a m1 e h = goes_less a (record m1 { left = left }) (omega (arith, e, h))

  enters_f : (level room outer from count a : ℕ) → F (Rows.enters code size m level room outer from count a)
  enters_f level room outer from count a = needs_same _ _ (takes_room_f room _ (λ left greatest end e. goes_less a (Rows.called code size m level room outer 0 from count left greatest end) (omega (arith, e))))

  begins_f : (kind wanted a : ℕ) (m1 : Regs) → weight m1 < weight m → F (Rows.begins code size m kind wanted a m1)
  begins_f kind wanted a m1 less = if_f _ _ _ (ends_f _ _) (goes_less a m1 less)

  evaluates_f : (a outer wanted : ℕ) → F (Rows.evaluates code size m a outer wanted)
  evaluates_f a outer wanted = reads_thunk_f a _ (λ head. needs_same _ _ (takes_room_f head.address _ (λ left greatest end e. begins_f head.level wanted (a + 1) (Rows.called code size m 0 head.address outer wanted m.base 0 left greatest end) (omega (arith, e)))))

  outside_less : nat_lt 0 m.depth ≡ true → weight (Rows.outside code size m) < weight m
  outside_less e = let some : 0 < m.depth = ltb-true 0 m.depth e in omega (arith, some)

  leaves_f : (word : ℕ) → F (Rows.leaves code size m word)
  leaves_f word = needs_f _ _ (λ e. word_at_f (m.base + 3) _ (λ back. word_at_f m.base _ (λ old. needs_same (nat_lt back (length code) && nat_lt old size) _ (goes_less back (record (Rows.outside code size m) { r = word }) (outside_less e)))))

  computes_f : (a : ℕ) (op : ℤ → ℤ → Result ℤ Spoil) → F (Rows.computes code size m a op)
  computes_f a op = word_at_f (m.base + a) _ (λ w. answered_f (op (int_of_word w) (int_of_word m.r)))

  compares_f : (a : ℕ) (op : ℤ → ℤ → Bool) → F (Rows.compares code size m a op)
  compares_f a op = word_at_f (m.base + a) _ (λ w. gives_f (Rows.truth (op (int_of_word w) (int_of_word m.r))))

  decides_f : (a : ℕ) (op : Bool → Bool → Bool) → F (Rows.decides code size m a op)
  decides_f a op = word_at_f (m.base + a) _ (λ w. gives_f (Rows.truth (op (Rows.is_true w) (Rows.is_true m.r))))

  jump_f : (b c : Bool) (a : ℕ) → (b ≡ true → m.place < a) → F (needs (b && c) (Rows.goes code size m a m))
  jump_f true c a h = needs_same c _ (goes_f a m (h refl) calm)
  jump_f false c a h = odd_f

  jumps_f : (a : ℕ) → F (Rows.jumps code size m a)
  jumps_f a = jump_f (nat_lt m.place a) _ a (λ e. ltb-true m.place a e)

  array_f : (d at from : ℕ) → F (Rows.array code size m d at from)
  array_f d at from = needs_same _ _ (if_f _ _ _ (if_f _ _ _ (on_f (Rows.with_array code size m d at from (elements m.words from d)) calm) (ends_f _ _)) (ends_f _ _))

  element_by_f : (d at from : ℕ) → F (Rows.element_by code size m d at from)
  element_by_f d at from =
      needs_same _ _ (if_f _ _ _ (needs_same _ _ (gives_f (m.words at + offset m.words (at + 2) from d))) (ends_f _ _))

  element_f : (d at from : ℕ) → F (Rows.element code size m d at from)
  element_f d at from = word_at_f (at + 1) _ (λ count. if_f (count == d) _ _ (element_by_f d at from) (ends_f (Alarmed Subscript) m))

  prints_or_alarms_f : (text : Result (List ℕ) Alarm) → F (Rows.prints_or_alarms code size m text)
  prints_or_alarms_f (Ok bytes) = bytes_f bytes _ (on_f m calm)
  prints_or_alarms_f (Err alarm) = ends_f _ _

  prints_words_f : (words a bytes : ℕ) → F (Rows.prints_words code size m words a bytes)
  prints_words_f zero a bytes = on_f m calm
  prints_words_f (suc n) a bytes = reads_f a _ (λ w. bytes_f _ _ (prints_words_f n (a + 1) (bytes - 5)))

  prints_some : (b : Bool) (row : Row) → F row → F (elim b as (λ _. Row) [ true ↦ row | false ↦ plain Odd ])
  prints_some true row h = h
  prints_some false row h = odd_f

  prints_string_f : (a : ℕ) → F (Rows.prints_string code size m a)
  prints_string_f a = reads_f a _ (λ bytes. prints_some _ _ (prints_words_f _ _ _))

  received_f : (outcome : Result ℤ Alarm) (input : List ℕ) → F (Rows.received code size m outcome input)
  received_f (Ok z) input = on_f (record m { r = word_of_int z; input = input }) calm
  received_f (Err alarm) input = ends_f _ _

  procedure_f : (n : ℕ) → F (Rows.procedure code size m n)
  procedure_f zero = odd_f
  procedure_f (suc zero) = bytes_f _ _ (on_f m calm)
  procedure_f (suc (suc zero)) = prints_string_f m.r
  procedure_f (suc (suc (suc zero))) = bytes_f line_text _ (on_f m calm)
  procedure_f (suc (suc (suc (suc zero)))) = prints_or_alarms_f _
  procedure_f (suc (suc (suc (suc (suc zero))))) = received_f _ _
  procedure_f (suc (suc (suc (suc (suc (suc zero)))))) = received_f _ _
  procedure_f (suc (suc (suc (suc (suc (suc (suc zero))))))) = answered_f _
  procedure_f (suc (suc (suc (suc (suc (suc (suc (suc zero)))))))) = gives_f _
  procedure_f (suc (suc (suc (suc (suc (suc (suc (suc (suc n))))))))) = odd_f

  chooses_f : (table outer : ℕ) (found : Option ℕ) → F (Rows.chooses code size m table outer found)
  chooses_f table outer None = on_f (record m { r = 0; q = 0 }) calm
  chooses_f table outer (Some n) = reads_f (table + n) _ (λ a. evaluates_f a outer Rows.for_label)

  switches_f : (table outer : ℕ) → F (Rows.switches code size m table outer)
  switches_f table outer = reads_f _ _ (λ count. chooses_f table outer _)

  agrees_f : (groups formals actuals left : ℕ) → m.place < actuals → F (Rows.agrees code size m groups formals actuals left)
  agrees_f zero formals actuals left ahead = goes_f actuals m ahead calm
  agrees_f (suc n) formals actuals left ahead =
      reads_f _ _ (λ w. needs_same _ _ (reads_f _ _ (λ v. needs_same _ _ (if_f _ _ _ (agrees_f n (formals + 1) (actuals + 1) (left - 10) (omega (arith, ahead))) (ends_f _ _)))))

  agrees_some : (k list count : ℕ) (what : Bool) → m.place < list → F (if what then needs (Rows.is_address code size m (list + groups_for count)) (Rows.agrees code size m (groups_for count) (k + 1) list count) else Rows.alarms code size m Parameters)
  agrees_some k list count what ahead = if_f _ _ _ (needs_same _ _ (agrees_f _ _ list count ahead)) (ends_f _ _)

  agrees_with_f : (k list count : ℕ) (what : Handed) → m.place < list → F (Rows.agrees_with code size m k list count what)
  agrees_with_f k list count Bare ahead = prints_some _ _ (agrees_some k list count (has_formals count Bare) ahead)
  agrees_with_f k list count (Kinded n) ahead = prints_some _ _ (agrees_some k list count (has_formals count (Kinded n)) ahead)
  agrees_with_f k list count Neither ahead = odd_f

  looks_in_f : (k : ℕ) (what : Handed) → F (Rows.looks_in code size m k what)
  looks_in_f k Bare = odd_f
  looks_in_f k (Kinded count) = needs_same _ _ (reads_f _ _ (λ w. needs_same _ _ (gives_f _)))
  looks_in_f k Neither = odd_f

  calls_bare_f : (k place : ℕ) (head : Order) (what : Handed) → F (Rows.calls_bare code size m k place head what)
  calls_bare_f k place head Bare = reads_count_f k 1 _ (λ count. word_at_f place _ (λ outer. enters_f head.level head.address outer m.base count (k + 2)))
  calls_bare_f k place head (Kinded n) = ends_f _ _
  calls_bare_f k place head Neither = odd_f

  calls_kinded_f : (place : ℕ) (kinds : Order) (what : Handed) → F (Rows.calls_kinded code size m place kinds what)
  calls_kinded_f place kinds Bare = odd_f
  calls_kinded_f place kinds (Kinded n) = reads_procedure_f kinds.address _ (λ head count. needs_same _ _ (word_at_f place _ (λ outer. enters_f head.level head.address outer (m.base + m.r) count (kinds.address + 2))))
  calls_kinded_f place kinds Neither = odd_f

  effect_f : (operation : Operation) (l a : ℕ) → F (Rows.effect code size m operation l a)
  effect_f Start l a = needs_same _ _ (if_f _ _ _ (on_f (Rows.first_activation code size m l a) (omega arith)) (ends_f _ _))
  effect_f Stop l a = ends_f _ _
  effect_f Take l a = cell_word_f l a _ (λ p w. gives_f w)
  effect_f Short l a = gives_f _
  effect_f Long l a = reads_f (m.place + 1) _ (λ w. needs_same _ _ (goes_f (m.place + 1 + 1) (record m { r = w }) (omega arith) calm))
  effect_f Keep l a = needs_same _ _ (on_f (record m { words = put m.words (m.base + a) m.r }) calm)
  effect_f Addr l a = in_level_f l _ (λ b. gives_f (b + a))
  effect_f Fetch l a = word_at_f m.r _ (λ w. gives_f w)
  effect_f Put l a = word_at_f (m.base + a) _ (λ w. needs_same (nat_lt w size) _ (on_f (record m { words = put m.words w m.r }) calm))
  effect_f Add l a = computes_f a sum_of
  effect_f Sub l a = computes_f a difference_of
  effect_f Mul l a = computes_f a product_of
  effect_f Div l a = computes_f a quotient_of
  effect_f Pow l a = computes_f a power_of
  effect_f Neg l a = answered_f _
  effect_f Lt l a = compares_f a (λ w r. int_lt w r)
  effect_f Le l a = compares_f a (λ w r. int_le w r)
  effect_f Eq l a = compares_f a (λ w r. Rows.are_equal w r)
  effect_f Ge l a = compares_f a (λ w r. int_le r w)
  effect_f Gt l a = compares_f a (λ w r. int_lt r w)
  effect_f Ne l a = compares_f a (λ w r. not (Rows.are_equal w r))
  effect_f Not l a = gives_f _
  effect_f And l a = decides_f a (λ w r. w && r)
  effect_f Or l a = decides_f a (λ w r. w || r)
  effect_f Impl l a = decides_f a (λ w r. not w || r)
  effect_f Equiv l a = decides_f a (λ w r. (w && r) || (not w && not r))
  effect_f Jump l a = jumps_f a
  effect_f False l a = if_f _ _ _ (jumps_f a) (on_f m calm)
  effect_f Test l a = word_at_f (m.base + a) _ (λ w. tested_f (product_of (int_of_word w) (sign_of (int_of_word m.r))))
  effect_f Turn l a = word_at_f (m.base + a) _ (λ w. needs_same (nat_lt w (length code)) _ (pays_f m.left w m refl (omega arith)))
  effect_f Block l a = needs_same _ _ (takes_room_f a _ (λ left greatest end e. on_less (Rows.inside code size m l a m.base 0 left greatest end) (omega (arith, e))))
  effect_f Leave l a = needs_f _ _ (λ e. word_at_f m.base _ (λ old. needs_same (nat_lt old size) _ (on_less (Rows.outside code size m) (outside_less e))))
  effect_f Array l a = array_f l (m.base + a) (m.base + m.r)
  effect_f Index l a = needs_same _ _ (element_f l (m.words (m.base + a)) (m.base + a + 1))
  effect_f Proc l a = odd_f
  effect_f Call l a = reads_procedure_f a _ (λ head count. in_level_f l _ (λ outer. enters_f head.level head.address outer (m.base + m.r) count (a + 2)))
  effect_f Formal l a = cell_word_f l a _ (λ place k. reads_order_f k _ (λ head. calls_bare_f k (place + 1) head (formals_handed head)))
  effect_f Return l a = needs_same _ _ (if_f _ _ _ (word_at_f (m.base + 5) _ (λ value. leaves_f value)) (leaves_f m.r))
  effect_f Thunk l a = odd_f
  effect_f Value l a = cell_pair_f l a _ (λ k outer. evaluates_f k outer Rows.for_value)
  effect_f Place l a = cell_pair_f l a _ (λ k outer. evaluates_f k outer Rows.for_address)
  effect_f NameL l a = cell_pair_f l a _ (λ k outer. evaluates_f k outer Rows.for_label)
  effect_f Pass l a = word_at_f (m.base + 4) _ (λ wanted. needs_same ((wanted == Rows.for_value) || (wanted == Rows.for_address)) _ (cell_pair_f l a _ (λ k outer. evaluates_f k outer wanted)))
  effect_f Back l a = word_at_f (m.base + 4) _ (λ wanted. needs_same (nat_le 1 wanted && nat_le wanted 3) _ (leaves_f m.r))
  effect_f Give l a = word_at_f (m.base + 4) _ (λ wanted. needs_same ((wanted == Rows.for_value) || (wanted == Rows.for_address)) _ (if_f (wanted == Rows.for_value) _ _ (word_at_f m.r _ (λ value. leaves_f value)) (leaves_f m.r)))
  effect_f Lib l a = needs_same _ _ (procedure_f a)
  effect_f Switch l a = in_level_f l _ (λ outer. switches_f a outer)
  effect_f SwForm l a = cell_pair_f l a _ (λ table outer. switches_f table outer)
  effect_f Lab l a = in_level_f l _ (λ b. on_f (record m { r = a; q = b }) calm)
  effect_f Go l a = if_f _ _ _ (on_f m calm) (word_at_f (m.q + 2) _ (λ top. needs_same (nat_le top size && nat_lt m.r (length code)) _ (pays_f m.left m.r (record m { base = m.q; top = top; greatest = max m.greatest top }) refl (omega arith))))
  effect_f Base l a = if_f _ _ _ (gives_f _) (in_level_f l _ (λ b. gives_f b))
  effect_f Kinds l a = odd_f
  effect_f Agree l a = reads_f (m.place + 1) _ (λ count. cell_word_f l a _ (λ place k. reads_order_f k _ (λ head. agrees_with_f k (m.place + 1 + 1) count (formals_handed head) (omega arith))))
  effect_f ByVal l a = cell_word_f l a _ (λ place k. reads_order_f k _ (λ head. looks_in_f k (formals_handed head)))
  effect_f CallF l a = cell_word_f l a _ (λ place k. reads_order_f k _ (λ kinds. calls_kinded_f (place + 1) kinds (formals_handed kinds)))

  does_f : (order : Order) (operation : Option Operation) → F (Rows.does code size m order operation)
  does_f order None = odd_f
  does_f order (Some operation) = needs_same _ _ (effect_f operation order.level order.address)

  -- the row of the order at the place
  row_f : F (Rows.row code size m)
  row_f = reads_order_f m.place _ (λ order. does_f order (operation_at order.op))

  pub row_falls : Falls m (Rows.row code size m).step
  unfolding F
  row_falls = row_f
