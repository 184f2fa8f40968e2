-- The rows of the order table, in its order: what an order of an object does to the registers. Each reads its words of
-- the object first and is spoilt by what it finds there or in the stack; then it charges its step, and then it takes its room.
use Rattle.std.specs.Prelude.{◌+◌, ◌-◌, ◌*◌, ◌/◌, ◌%◌, ◌==◌, ◌&&◌, ◌||◌, ◌^◌, ℕ, zero, suc, ℤ, pos, negsuc, Bool, true, false}
use Rattle.std.specs.Prelude.{not, max, min, nat_lt, nat_le, int_lt, int_le, if◌then◌else◌, List, [], ◌∷◌, length, take, drop}
use Rattle.std.specs.Prelude.{Option, None, Some, Result, Ok, Err}
use Rattle.gier_word.specs.Words.{int_of_word, word_of_int}
use Rattle.gier_word.specs.Operations.{sum_of, difference_of, product_of, quotient_of, power_of, negative_of, modulus_of, sign_of}
use Rattle.gier_word.specs.Standard.{Reading, integer_text, line_text, character_text, integer_read, character_read}
use Rattle.gier_word.specs.Alarm.{alarm_of}
use Rattle.gier_word.specs.declared.alarm.Alarm.{Alarm}
use Rattle.gier_word.specs.declared.alarm.Alarm.TheVariants.{Bounds, Subscript, Assignment, Stack, Parameters}
use Rattle.gier_word.specs.declared.int40.Spoil.{Spoil}
use Rattle.gier_agree.specs.Packed.{kind_in}
use Rattle.gier_order.specs.Codes.{order_at}
use Rattle.gier_order.specs.Table.{operation_at}
use Rattle.gier_order.specs.declared.order.Order.{Order}
use Rattle.gier_order.specs.declared.operation.Operation.{Operation}
use Rattle.gier_order.specs.declared.operation.Operation.TheVariants.{Start, Stop, Take, Short, Long, Keep, Addr, Fetch, Put, Add}
use Rattle.gier_order.specs.declared.operation.Operation.TheVariants.{Sub, Mul, Div, Pow, Neg, Lt, Le, Eq, Ge, Gt, Ne, Not, And}
use Rattle.gier_order.specs.declared.operation.Operation.TheVariants.{Or, Impl, Equiv, Jump, False, Test, Turn, Block, Leave}
use Rattle.gier_order.specs.declared.operation.Operation.TheVariants.{Array, Index, Proc, Call, Formal, Return, Thunk, Value}
use Rattle.gier_order.specs.declared.operation.Operation.TheVariants.{Place, NameL, Pass, Back, Give, Lib, Switch, SwForm, Lab}
use Rattle.gier_order.specs.declared.operation.Operation.TheVariants.{Go, Base, Kinds, Agree, ByVal, CallF}
use Rattle.gier_order.specs.Flat.Region.{put, cleared_words, with_copy, with_pair, with_activation, seek}
use Rattle.gier_order.specs.Flat.Row.{Regs, Ending, Ended, Alarmed, NoSteps, On, Ends, Row, plain, odd, needs, behind_bytes}
use Rattle.gier_order.specs.Flat.Row.{reads, Entry, NoStep, NoRoom, Enters, entry}
use Rattle.gier_order.specs.Flat.Kinds.{groups_for, group, is_a, Handed, Bare, Kinded, Neither, formals_handed, has_formals}
use Rattle.gier_order.specs.Flat.Kinds.{is_packed, all_fit}
use Rattle.gier_order.specs.Flat.Arrays.{are_ordered, elements, are_within, offset}

-- 1 for true
abbrev pub truth : Bool → ℕ
truth holds = if holds then 1 else 0

-- a word that is true
abbrev pub is_true : ℕ → Bool
is_true word = not (word == 0)

abbrev pub are_equal : ℤ → ℤ → Bool
are_equal a b = int_le a b && int_le b a

-- the subscript of a switch with so many elements, where it is one
abbrev pub element_index : ℤ → ℕ → Option ℕ
element_index (pos n) count = if nat_le 1 n && nat_le n count then Some n else None
element_index (negsuc n) count = None

-- the five bytes of a word of a string, the first in its highest bits
abbrev pub bytes_of : ℕ → List ℕ
bytes_of word = word / 2 ^ 32 % 256 ∷ word / 2 ^ 24 % 256 ∷ word / 2 ^ 16 % 256 ∷ word / 2 ^ 8 % 256 ∷ word % 256 ∷ []

-- bytes in a word of a string
abbrev pub piece : ℕ
piece = 5

-- what is wanted of an evaluation; a procedure has 0 in its place
abbrev pub for_value : ℕ
for_value = 1

abbrev pub for_address : ℕ
for_address = 2

abbrev pub for_label : ℕ
for_label = 3

-- the object, the size of the stack, and the registers before the order
module _ (code : List ℕ) (size : ℕ) (m : Regs) where
  -- Addresses, and how an order goes on

  abbrev pub is_address : ℕ → Bool
  is_address a = nat_lt a (length code)

  abbrev pub is_place : ℕ → Bool
  is_place p = nat_lt p size

  -- the address of the order after
  abbrev pub next : ℕ
  next = m.place + 1

  abbrev pub goes : ℕ → Regs → Row
  goes a m1 = plain (On (record m1 { place = a }))

  abbrev pub stops : Ending → Regs → Row
  stops ending m1 = plain (Ends ending m1)

  -- goes on with the order after
  abbrev pub on : Regs → Row
  on m1 = needs (is_address next) (goes next m1)

  abbrev pub gives : ℕ → Row
  gives word = on (record m { r = word })

  abbrev pub answered : Result ℤ Spoil → Row
  answered (Ok z) = gives (word_of_int z)
  answered (Err spoil) = needs (is_address next) (stops (Alarmed (alarm_of spoil)) m)

  -- 0 for a product above 0, and else 1
  abbrev pub tested : Result ℤ Spoil → Row
  tested (Ok z) = gives (truth (int_le z (pos 0)))
  tested (Err spoil) = needs (is_address next) (stops (Alarmed (alarm_of spoil)) m)

  abbrev pub alarms : Alarm → Row
  alarms alarm = stops (Alarmed alarm) m

  -- Words of the stack

  abbrev pub word_at : ℕ → (ℕ → Row) → Row
  word_at p go = needs (is_place p) (go (m.words p))

  -- w
  abbrev pub local : ℕ → (ℕ → Row) → Row
  local a go = word_at (m.base + a) go

  abbrev pub visible : ℕ → Option ℕ
  visible l = seek (suc m.base) size m.words l m.base

  abbrev pub from_base : (ℕ → Row) → Option ℕ → Row
  from_base go None = odd
  from_base go (Some b) = go b

  abbrev pub in_level : ℕ → (ℕ → Row) → Row
  in_level l go = from_base go (visible l)

  -- the word of cell and the one after it
  abbrev pub cell_pair : ℕ → ℕ → (ℕ → ℕ → Row) → Row
  cell_pair l a go = in_level l (λ b. word_at (b + a) (λ first. word_at (b + a + 1) (λ second. go first second)))

  -- the word of cell, and its place
  abbrev pub cell_word : ℕ → ℕ → (ℕ → ℕ → Row) → Row
  cell_word l a go = in_level l (λ b. word_at (b + a) (λ first. go (b + a) first))

  -- Orders of the object that are looked at, and not executed

  abbrev pub on_order : (Order → Row) → Option Order → Row
  on_order go None = odd
  on_order go (Some order) = go order

  abbrev pub reads_order : ℕ → (Order → Row) → Row
  reads_order a go = reads code a (λ word. on_order go (order_at word))

  -- the word behind a PROC, where the procedure's first order follows: twice the number of formals, and 1 more for a function
  abbrev pub reads_count : ℕ → ℕ → (ℕ → Row) → Row
  reads_count a most go = reads code (a + 1) (λ count. needs (nat_le count most && is_address (a + 2)) (go count))

  -- PROC and that word
  abbrev pub reads_procedure : ℕ → (Order → ℕ → Row) → Row
  reads_procedure a go = reads_order a (λ head. needs (is_a Proc head) (reads_count a 511 (λ count. go head count)))

  -- THUNK, whose first order follows
  abbrev pub reads_thunk : ℕ → (Order → Row) → Row
  reads_thunk a go = reads_order a (λ head. needs (is_a Thunk head && (nat_le head.level 3 && is_address (a + 1))) (go head))

  -- Entering and leaving

  -- the registers in a new activation
  abbrev pub inside : (level room outer mark : ℕ) → (left greatest end : ℕ) → Regs
  inside level room outer mark left greatest end = record m {
    words = with_activation m.words m.top m.base level outer room;
    marks = put m.marks m.top mark;
    base = m.top;
    top = end;
    depth = m.depth + 1;
    left = left;
    greatest = greatest;
  }

  -- the same for one that returns, with the order to return to, what is wanted, and the actuals from a place on
  abbrev pub called : (level room outer wanted from count : ℕ) → (left greatest end : ℕ) → Regs
  called level room outer wanted from count left greatest end = record (inside level room outer 1 left greatest end) {
    words = with_copy (with_pair (with_activation m.words m.top m.base level outer room) (m.top + 3) next wanted)
        (m.top + 5 + count % 2) m.words from (count / 2 * 2);
  }

  abbrev pub taken_by : Entry → (ℕ → ℕ → ℕ → Row) → Row
  taken_by NoStep go = stops NoSteps m
  taken_by (NoRoom left) go = stops (Alarmed Stack) (record m { left = left })
  taken_by (Enters left greatest end) go = go left greatest end

  -- charges a step, then takes the room
  abbrev pub takes_room : ℕ → (ℕ → ℕ → ℕ → Row) → Row
  takes_room room go = taken_by (entry size m.left m.greatest m.top room) go

  -- the room holds header, value and formals, the enclosing base is a place, and the actuals lie in the stack
  abbrev pub can_enter : (room outer from count : ℕ) → Bool
  can_enter room outer from count =
      nat_le (5 + count) room && (is_place outer && (nat_lt count 2 || nat_le (from + count / 2 * 2) size))

  -- a procedure with its first order at an address
  abbrev pub enters : (level room outer from count a : ℕ) → Row
  enters level room outer from count a =
      needs (can_enter room outer from count) (takes_room room (λ left greatest end.
      goes a (called level room outer 0 from count left greatest end)))

  -- an expression has no address
  abbrev pub begins : (kind wanted a : ℕ) → Regs → Row
  begins kind wanted a m1 =
      if (kind == 0) && (wanted == for_address) then stops (Alarmed Assignment) m1 else goes a m1

  -- the evaluation of the THUNK at an address
  abbrev pub evaluates : (a outer wanted : ℕ) → Row
  evaluates a outer wanted = reads_thunk a (λ head.
      needs (can_enter head.address outer m.base 0) (takes_room head.address (λ left greatest end.
      begins head.level wanted (a + 1) (called 0 head.address outer wanted m.base 0 left greatest end))))

  -- the activation before is the current one again
  abbrev pub outside : Regs
  outside = record m { base = m.words m.base; top = m.base; depth = m.depth - 1 }

  -- leaves by a return, with this in R
  abbrev pub leaves : ℕ → Row
  leaves word =
      needs (nat_lt 0 m.depth) (local 3 (λ back. word_at m.base (λ old. needs (is_address back && is_place old) (goes back
      (record outside { r = word })))))

  -- Groups of rows

  abbrev pub computes : ℕ → (ℤ → ℤ → Result ℤ Spoil) → Row
  computes a op = local a (λ w. answered (op (int_of_word w) (int_of_word m.r)))

  abbrev pub compares : ℕ → (ℤ → ℤ → Bool) → Row
  compares a op = local a (λ w. gives (truth (op (int_of_word w) (int_of_word m.r))))

  abbrev pub decides : ℕ → (Bool → Bool → Bool) → Row
  decides a op = local a (λ w. gives (truth (op (is_true w) (is_true m.r))))

  abbrev pub jumps : ℕ → Row
  jumps a = needs (nat_lt m.place a && is_address a) (goes a m)

  -- charges a step, and goes on elsewhere
  abbrev pub pays : ℕ → ℕ → Regs → Row
  pays zero a m1 = stops NoSteps m
  pays (suc left) a m1 = goes a (record m1 { left = left })

  abbrev pub first_activation : ℕ → ℕ → Regs
  first_activation l a = record m {
    words = with_activation m.words 0 0 l 0 a;
    marks = put m.marks 0 0;
    base = 0;
    top = a;
    depth = 0;
    started = true;
    greatest = max m.greatest a;
  }

  -- the stack with an array's elements and its descriptor: the first element's place, d, and the bounds
  abbrev pub described : (d at from count : ℕ) → ℕ → ℕ
  described d at from count = with_copy (with_pair (cleared_words m.words m.top count) at m.top d) (at + 2) m.words from (2 * d)

  abbrev pub with_array : (d at from count : ℕ) → Regs
  with_array d at from count = record m {
    words = put (described d at from count) (m.base + 2) (m.top + count);
    top = m.top + count;
    greatest = max m.greatest (m.top + count);
  }

  abbrev pub takes_elements : (d at from count : ℕ) → Row
  takes_elements d at from count = if nat_le (m.top + count) size then on (with_array d at from count) else alarms Stack

  abbrev pub is_array : (d at from : ℕ) → Bool
  is_array d at from =
      nat_le 1 d && (nat_le d 30 && (nat_le (at + 2 + 2 * d) size && (nat_le (from + 2 * d) size && (is_place (m.base + 2)
      && is_address next))))

  abbrev pub array : (d at from : ℕ) → Row
  array d at from =
      needs (is_array d at from) (if are_ordered m.words from d
      then takes_elements d at from (elements m.words from d) else alarms Bounds)

  -- the element of the array with a descriptor at a place, by the subscripts from another place on
  abbrev pub element_by : (d at from : ℕ) → Row
  element_by d at from =
      needs (nat_le (at + 2 + 2 * d) size)
      (if are_within m.words (at + 2) from d
      then needs (is_place (m.words at + offset m.words (at + 2) from d)) (gives (m.words at + offset m.words (at + 2) from d))
      else alarms Subscript)

  abbrev pub element : (d at from : ℕ) → Row
  element d at from = word_at (at + 1) (λ count. if count == d then element_by d at from else alarms Subscript)

  abbrev pub is_index : (d a : ℕ) → Bool
  is_index d a = nat_le 1 d && (nat_le d 30 && (is_place (m.base + a + d) && is_address next))

  -- Standard procedures

  abbrev pub prints : List ℕ → Row
  prints bytes = behind_bytes bytes (on m)

  abbrev pub prints_or_alarms : Result (List ℕ) Alarm → Row
  prints_or_alarms (Ok bytes) = prints bytes
  prints_or_alarms (Err alarm) = alarms alarm

  -- the words of a string from an address on, of which so many bytes are left; each word's are printed before the next is read
  abbrev pub prints_words : (words a bytes : ℕ) → Row
  prints_words zero a bytes = on m
  prints_words (suc n) a bytes =
      reads code a (λ word. behind_bytes (take (min bytes piece) (bytes_of word)) (prints_words n (a + 1) (bytes - piece)))

  abbrev pub pieces_for : ℕ → ℕ
  pieces_for bytes = (bytes + 4) / piece

  -- the string at an address: the number of its bytes, and the words with them
  abbrev pub prints_string : ℕ → Row
  prints_string a = reads code a (λ bytes. elim (is_address (a + pieces_for bytes)) as (λ _. Row) [
    | true ↦ prints_words (pieces_for bytes) (a + 1) bytes
    | false ↦ odd
  ])

  abbrev pub received : Result ℤ Alarm → List ℕ → Row
  received (Ok z) input = on (record m { r = word_of_int z; input = input })
  received (Err alarm) input = stops (Alarmed alarm) (record m { input = input })

  abbrev pub receives : Reading → Row
  receives reading = received reading.outcome (drop reading.taken m.input)

  -- the standard procedure with a number
  abbrev pub procedure : ℕ → Row
  procedure zero = odd
  procedure (suc zero) = prints (integer_text (int_of_word m.r))
  procedure (suc (suc zero)) = prints_string m.r
  procedure (suc (suc (suc zero))) = prints line_text
  procedure (suc (suc (suc (suc zero)))) = prints_or_alarms (character_text (int_of_word m.r))
  procedure (suc (suc (suc (suc (suc zero))))) = receives (integer_read m.input)
  procedure (suc (suc (suc (suc (suc (suc zero)))))) = receives (character_read m.input)
  procedure (suc (suc (suc (suc (suc (suc (suc zero))))))) = answered (modulus_of (int_of_word m.r))
  procedure (suc (suc (suc (suc (suc (suc (suc (suc zero)))))))) = gives (word_of_int (sign_of (int_of_word m.r)))
  procedure (suc (suc (suc (suc (suc (suc (suc (suc (suc n))))))))) = odd

  -- Switches

  abbrev pub chooses : (table outer : ℕ) → Option ℕ → Row
  chooses table outer None = on (record m { r = 0; q = 0 })
  chooses table outer (Some n) = reads code (table + n) (λ a. evaluates a outer for_label)

  abbrev pub switches : (table outer : ℕ) → Row
  switches table outer = reads code table (λ count. chooses table outer (element_index (int_of_word m.r) count))

  -- Formal procedures

  -- compares so many groups of kinds from two addresses on, of which so many kinds are left, and goes on at the end
  abbrev pub agrees : (groups formals actuals left : ℕ) → Row
  agrees zero formals actuals left = goes actuals m
  agrees (suc n) formals actuals left =
      reads code formals (λ wanted. needs (is_packed 1 left wanted) (
      reads code actuals (λ given. needs (is_packed 3 left given) (
      if all_fit wanted given then agrees n (formals + 1) (actuals + 1) (left - group) else alarms Parameters))))

  abbrev pub agrees_with : (k list count : ℕ) → Handed → Row
  agrees_with k list count Neither = odd
  agrees_with k list count what = elim (nat_le 1 count && nat_le count 255) as (λ _. Row) [
    | true ↦ if has_formals count what
        then needs (is_address (list + groups_for count)) (agrees (groups_for count) (k + 1) list count)
        else alarms Parameters
    | false ↦ odd
  ]

  -- the kind of formal number n from 0 of those at k, of which there are so many
  abbrev pub looks_at : (k n count : ℕ) → Row
  looks_at k n count = reads code (k + 1 + n / group) (λ word.
      needs (is_packed 1 (count - n / group * group) word) (gives (truth (nat_le (kind_in word (n % group)) 2))))

  abbrev pub looks_in : ℕ → Handed → Row
  looks_in k Bare = odd
  looks_in k (Kinded count) = needs (nat_le 1 m.r && (nat_le m.r count && is_address next)) (looks_at k (m.r - 1) count)
  looks_in k Neither = odd

  -- FORMAL: the procedure at k, with no formals, enclosed by the base at a place
  abbrev pub calls_bare : (k place : ℕ) → Order → Handed → Row
  calls_bare k place head Bare =
      reads_count k 1 (λ count. word_at place (λ outer. enters head.level head.address outer m.base count (k + 2)))
  calls_bare k place head (Kinded n) = alarms Parameters
  calls_bare k place head Neither = odd

  -- CALLF: the procedure that the KINDS tells, with so many formals, enclosed by the base at a place
  abbrev pub calls_kinded : (place : ℕ) → Order → Handed → Row
  calls_kinded place kinds Bare = odd
  calls_kinded place kinds (Kinded n) = reads_procedure kinds.address (λ head count.
      needs (count / 2 == n) (word_at place (λ outer. enters head.level head.address outer (m.base + m.r) count
      (kinds.address + 2))))
  calls_kinded place kinds Neither = odd

  -- The table

  abbrev pub effect : Operation → (l a : ℕ) → Row
  effect Start l a =
      needs (not m.started && (nat_le 3 a && is_address next)) (if nat_le a size then on (first_activation l a) else alarms Stack)
  effect Stop l a = stops Ended m
  effect Take l a = cell_word l a (λ place word. gives word)
  effect Short l a = gives a
  effect Long l a = reads code next (λ word. needs (is_address (next + 1)) (goes (next + 1) (record m { r = word })))
  effect Keep l a = needs (is_place (m.base + a)) (on (record m { words = put m.words (m.base + a) m.r }))
  effect Addr l a = in_level l (λ b. gives (b + a))
  effect Fetch l a = word_at m.r (λ word. gives word)
  effect Put l a = local a (λ w. needs (is_place w) (on (record m { words = put m.words w m.r })))
  effect Add l a = computes a sum_of
  effect Sub l a = computes a difference_of
  effect Mul l a = computes a product_of
  effect Div l a = computes a quotient_of
  effect Pow l a = computes a power_of
  effect Neg l a = answered (negative_of (int_of_word m.r))
  effect Lt l a = compares a (λ w r. int_lt w r)
  effect Le l a = compares a (λ w r. int_le w r)
  effect Eq l a = compares a (λ w r. are_equal w r)
  effect Ge l a = compares a (λ w r. int_le r w)
  effect Gt l a = compares a (λ w r. int_lt r w)
  effect Ne l a = compares a (λ w r. not (are_equal w r))
  effect Not l a = gives (truth (m.r == 0))
  effect And l a = decides a (λ w r. w && r)
  effect Or l a = decides a (λ w r. w || r)
  effect Impl l a = decides a (λ w r. not w || r)
  effect Equiv l a = decides a (λ w r. (w && r) || (not w && not r))
  effect Jump l a = jumps a
  effect False l a = if m.r == 0 then jumps a else on m
  effect Test l a = local a (λ w. tested (product_of (int_of_word w) (sign_of (int_of_word m.r))))
  effect Turn l a = local a (λ w. needs (is_address w) (pays m.left w m))
  effect Block l a =
      needs (nat_le 3 a && (is_place m.base && is_address next)) (takes_room a (λ left greatest end.
      on (inside l a m.base 0 left greatest end)))
  effect Leave l a = needs (nat_lt 0 m.depth) (word_at m.base (λ old. needs (is_place old) (on outside)))
  effect Array l a = array l (m.base + a) (m.base + m.r)
  effect Index l a = needs (is_index l a) (element l (m.words (m.base + a)) (m.base + a + 1))
  effect Proc l a = odd
  effect Call l a =
      reads_procedure a (λ head count. in_level l (λ outer. enters head.level head.address outer (m.base + m.r) count (a + 2)))
  effect Formal l a = cell_word l a (λ place k. reads_order k (λ head. calls_bare k (place + 1) head (formals_handed head)))
  effect Return l a = needs (nat_le a 1) (if a == 1 then local 5 (λ value. leaves value) else leaves m.r)
  effect Thunk l a = odd
  effect Value l a = cell_pair l a (λ k outer. evaluates k outer for_value)
  effect Place l a = cell_pair l a (λ k outer. evaluates k outer for_address)
  effect NameL l a = cell_pair l a (λ k outer. evaluates k outer for_label)
  effect Pass l a =
      local 4 (λ wanted. needs ((wanted == for_value) || (wanted == for_address)) (cell_pair l a (λ k outer.
      evaluates k outer wanted)))
  effect Back l a = local 4 (λ wanted. needs (nat_le 1 wanted && nat_le wanted 3) (leaves m.r))
  effect Give l a = local 4 (λ wanted.
      needs ((wanted == for_value) || (wanted == for_address)) (if wanted == for_value
      then word_at m.r (λ value. leaves value) else leaves m.r))
  effect Lib l a = needs (is_address next) (procedure a)
  effect Switch l a = in_level l (λ outer. switches a outer)
  effect SwForm l a = cell_pair l a (λ table outer. switches table outer)
  effect Lab l a = in_level l (λ b. on (record m { r = a; q = b }))
  effect Go l a = if m.r == 0 then on m else word_at (m.q + 2) (λ top.
      needs (nat_le top size && is_address m.r) (pays m.left m.r (record m {
        base = m.q;
        top = top;
        greatest = max m.greatest top;
      })))
  effect Base l a = if l == 0 then gives m.base else in_level l (λ b. gives b)
  effect Kinds l a = odd
  effect Agree l a = reads code next (λ count. cell_word l a (λ place k. reads_order k (λ head.
      agrees_with k (next + 1) count (formals_handed head))))
  effect ByVal l a = cell_word l a (λ place k. reads_order k (λ head. looks_in k (formals_handed head)))
  effect CallF l a = cell_word l a (λ place k. reads_order k (λ kinds. calls_kinded (place + 1) kinds (formals_handed kinds)))

  -- there is an activation, or the order is START
  abbrev pub does : Order → Option Operation → Row
  does order None = odd
  does order (Some operation) = needs (m.started || is_a Start order) (effect operation order.level order.address)

  -- the order at the place
  abbrev pub row : Row
  row = reads_order m.place (λ order. does order (operation_at order.op))
