-- An order that goes on with the next one is odd where there is none.
use Rattle.std.specs.Prelude.{◌≡◌, ◌+◌, ◌*◌, ◌≤◌, ◌&&◌, ℕ, ℤ, Bool, true, false, not, nat_lt, nat_le, List, length, Option, None, Some, Result, Ok, Err, if◌then◌else◌}
use Rattle.std.proofs.Common.{arith, refl}
use Rattle.std.proofs.lemmas.Bool.Decides.{nat_tests}
use Rattle.gier_word.specs.Words.{int_of_word}
use Rattle.gier_word.specs.Operations.{sum_of, difference_of, product_of, quotient_of, power_of, negative_of, sign_of}
use Rattle.gier_word.specs.declared.int40.Spoil.{Spoil}
use Rattle.gier_order.specs.declared.operation.Operation.{Operation}
use Rattle.gier_order.specs.declared.operation.Operation.TheVariants.{Start, Take, Short, Keep, Addr, Fetch, Put, Add, Sub, Mul, Div, Pow, Neg, Lt, Le, Eq, Ge, Gt, Ne, Not, And, Or, Impl, Equiv, Test, Block, Leave, Array, Index, Lab, Base}
use Rattle.gier_order.specs.Flat.Row.{Regs, Row, needs, odd}
use Rattle.gier_order.specs.Flat.Rows
use Rattle.gier_exec.specs.Numbers.{is_plain}

-- kept shut, so that what a row is can be found from what is said of it
pub IsOdd : Row → Type 0
IsOdd row = row ≡ odd

odd_odd : IsOdd odd
unfolding IsOdd
odd_odd = refl

pub odd_of : (row : Row) → IsOdd row → row ≡ odd
unfolding IsOdd
odd_of row h = h

needs_odd : (b : Bool) (row : Row) → IsOdd row → IsOdd (needs b row)
needs_odd true row e = e
needs_odd false row e = odd_odd

needs_no : (b : Bool) (row : Row) → b ≡ false → IsOdd (needs b row)
needs_no true row e = absurd cc
needs_no false row e = odd_odd

if_odd : (b : Bool) (x y : Row) → IsOdd x → IsOdd y → IsOdd (if b then x else y)
if_odd true x y e f = e
if_odd false x y e f = f

and_no : (a b : Bool) → b ≡ false → (a && b) ≡ false
and_no true b e = e
and_no false b e = refl

array_no : (a b c d e n : Bool) → n ≡ false → (a && (b && (c && (d && (e && n))))) ≡ false
array_no a b c d e n h = and_no a (b && (c && (d && (e && n)))) (and_no b (c && (d && (e && n))) (and_no c (d && (e && n)) (and_no d (e && n) (and_no e n h))))

module _ (code : List ℕ) (size : ℕ) (m : Regs) (past : length code ≤ m.place + 1) where
  no_next : nat_lt (m.place + 1) (length code) ≡ false
  no_next = grind (arith, nat_tests, past)

  on_odd : (m1 : Regs) → IsOdd (Rows.on code size m m1)
  on_odd m1 = needs_no _ _ no_next

  gives_odd : (word : ℕ) → IsOdd (Rows.gives code size m word)
  gives_odd word = needs_no _ _ no_next

  answered_odd : (x : Result ℤ Spoil) → IsOdd (Rows.answered code size m x)
  answered_odd (Ok z) = needs_no _ _ no_next
  answered_odd (Err spoil) = needs_no _ _ no_next

  tested_odd : (x : Result ℤ Spoil) → IsOdd (Rows.tested code size m x)
  tested_odd (Ok z) = needs_no _ _ no_next
  tested_odd (Err spoil) = needs_no _ _ no_next

  from_odd : (go : ℕ → Row) (found : Option ℕ) → ((b : ℕ) → IsOdd (go b)) → IsOdd (Rows.from_base code size m go found)
  from_odd go None h = odd_odd
  from_odd go (Some b) h = h b

  past_odd : (operation : Operation) (l a : ℕ) → is_plain operation ≡ true → IsOdd (Rows.effect code size m operation l a)
  past_odd Start l a is = needs_no _ _ (and_no (not m.started) (nat_le 3 a && nat_lt (m.place + 1) (length code)) (and_no (nat_le 3 a) (nat_lt (m.place + 1) (length code)) no_next))
  past_odd Take l a is =
      from_odd (λ b. needs (nat_lt (b + a) size) (Rows.gives code size m (m.words (b + a)))) (Rows.visible code size m l) (λ b. needs_odd (nat_lt (b + a) size) (Rows.gives code size m (m.words (b + a))) (gives_odd (m.words (b + a))))
  past_odd Short l a is = needs_no _ _ no_next
  past_odd Keep l a is = needs_odd _ _ (needs_no _ _ no_next)
  past_odd Addr l a is = from_odd _ _ (λ b. needs_no _ _ no_next)
  past_odd Fetch l a is = needs_odd _ _ (needs_no _ _ no_next)
  past_odd Put l a is = needs_odd _ _ (needs_odd _ _ (needs_no _ _ no_next))
  past_odd Add l a is = needs_odd _ _ (answered_odd (sum_of (int_of_word (m.words (m.base + a))) (int_of_word m.r)))
  past_odd Sub l a is = needs_odd _ _ (answered_odd (difference_of (int_of_word (m.words (m.base + a))) (int_of_word m.r)))
  past_odd Mul l a is = needs_odd _ _ (answered_odd (product_of (int_of_word (m.words (m.base + a))) (int_of_word m.r)))
  past_odd Div l a is = needs_odd _ _ (answered_odd (quotient_of (int_of_word (m.words (m.base + a))) (int_of_word m.r)))
  past_odd Pow l a is = needs_odd _ _ (answered_odd (power_of (int_of_word (m.words (m.base + a))) (int_of_word m.r)))
  past_odd Neg l a is = answered_odd (negative_of (int_of_word m.r))
  past_odd Lt l a is = needs_odd _ _ (needs_no _ _ no_next)
  past_odd Le l a is = needs_odd _ _ (needs_no _ _ no_next)
  past_odd Eq l a is = needs_odd _ _ (needs_no _ _ no_next)
  past_odd Ge l a is = needs_odd _ _ (needs_no _ _ no_next)
  past_odd Gt l a is = needs_odd _ _ (needs_no _ _ no_next)
  past_odd Ne l a is = needs_odd _ _ (needs_no _ _ no_next)
  past_odd Not l a is = needs_no _ _ no_next
  past_odd And l a is = needs_odd _ _ (needs_no _ _ no_next)
  past_odd Or l a is = needs_odd _ _ (needs_no _ _ no_next)
  past_odd Impl l a is = needs_odd _ _ (needs_no _ _ no_next)
  past_odd Equiv l a is = needs_odd _ _ (needs_no _ _ no_next)
  past_odd Test l a is = needs_odd _ _ (tested_odd (product_of (int_of_word (m.words (m.base + a))) (sign_of (int_of_word m.r))))
  past_odd Block l a is = needs_no _ _ (and_no (nat_le 3 a) (nat_lt m.base size && nat_lt (m.place + 1) (length code)) (and_no (nat_lt m.base size) (nat_lt (m.place + 1) (length code)) no_next))
  past_odd Leave l a is =
      needs_odd (nat_lt 0 m.depth) _ (needs_odd (nat_lt m.base size) _ (needs_odd (nat_lt (m.words m.base) size) (Rows.on code size m (Rows.outside code size m)) (on_odd (Rows.outside code size m))))
  past_odd Array l a is = needs_no _ _ (array_no (nat_le 1 l) (nat_le l 30) (nat_le (m.base + a + 2 + 2 * l) size) (nat_le (m.base + m.r + 2 * l) size) (nat_lt (m.base + 2) size) (nat_lt (m.place + 1) (length code)) no_next)
  past_odd Index l a is = needs_no _ _ (and_no (nat_le 1 l) (nat_le l 30 && (nat_lt (m.base + a + l) size && nat_lt (m.place + 1) (length code))) (and_no (nat_le l 30) (nat_lt (m.base + a + l) size && nat_lt (m.place + 1) (length code)) (and_no (nat_lt (m.base + a + l) size) (nat_lt (m.place + 1) (length code)) no_next)))
  past_odd Lab l a is = from_odd _ _ (λ b. needs_no _ _ no_next)
  past_odd Base l a is = if_odd _ _ _ (needs_no _ _ no_next) (from_odd _ _ (λ b. needs_no _ _ no_next))
  past_odd operation l a is = absurd cc

  pub plain_past : (operation : Operation) (l a : ℕ) → is_plain operation ≡ true → Rows.effect code size m operation l a ≡ odd
  plain_past operation l a is = odd_of _ (past_odd operation l a is)
