-- The orders of the standard functions give what the functions mean.
use Rattle.std.proofs.Common.{◌≡◌, ℕ, zero, suc, ◌+◌, ◌<◌, true, ℤ, pos, negsuc, List, length, refl, ap, arith}
use Rattle.std.specs.Prelude.{nat_abs, min, Ok}
use Rattle.std.proofs.lemmas.Bool.{lt-ltb}
use Rattle.gier_word.specs.Words.{int_of_word, word_of_int}
use Rattle.gier_word.specs.Operations.{is_in_range, modulus_of, sign_of}
use Rattle.gier_symbol.specs.declared.symbol.Symbol.{Symbol}
use Rattle.gier_order.specs.declared.operation.Operation.TheVariants as op
use Rattle.gier_order.specs.Flat.Row.{Regs}
use Rattle.gier_order.specs.Flat.Rows.{effect, answered, gives}
use Rattle.gier_tree.specs.Words.{HasStop}
use Rattle.gier_flat.proofs.OrderRows.{object}
use Rattle.gier_flat.proofs.Numbers.{round_trip}
use Rattle.gier_flat.proofs.Orders.{Settled, held_settles, settled_by, needed, on_row}

sign_in_range : (z : ℤ) → is_in_range (sign_of z) ≡ true
sign_in_range (pos zero) = refl
sign_in_range (pos (suc n)) = let e : min (suc n) 1 ≡ 1 = omega arith in ap (λ k. is_in_range (pos k)) e
sign_in_range (negsuc n) = refl

module _ (text : List Symbol) (size : ℕ) (ends : HasStop text) (m : Regs) (next : m.place + 1 < length (object text)) where
  pub modulus_settles : Settled text size ends m next (effect (object text) size m op.Lib 0 7) (modulus_of (int_of_word m.r))
  modulus_settles =
      settled_by text size ends m next (effect (object text) size m op.Lib 0 7) (answered (object text) size m (modulus_of (int_of_word m.r))) (modulus_of (int_of_word m.r)) (needed _ _ (lt-ltb (m.place + 1) (length (object text)) next))
      (held_settles text size ends m next (pos (nat_abs (int_of_word m.r))))

  pub sign_settles : Settled text size ends m next (effect (object text) size m op.Lib 0 8) (Ok (sign_of (int_of_word m.r)))
  sign_settles =
      settled_by text size ends m next (effect (object text) size m op.Lib 0 8) (gives (object text) size m (word_of_int (sign_of (int_of_word m.r)))) (Ok (sign_of (int_of_word m.r))) (needed _ _ (lt-ltb (m.place + 1) (length (object text)) next))
      (word_of_int (sign_of (int_of_word m.r)), round_trip (sign_of (int_of_word m.r)) (sign_in_range (int_of_word m.r)), on_row text size ends m next (record m { r = word_of_int (sign_of (int_of_word m.r)) }))
