-- Orders as words: what an order is, its code, and the order that a word is the code of.
use Rattle.std.specs.Prelude.{◌==◌, ◌&&◌, ◌+◌, ◌*◌, ◌/◌, ◌%◌, ◌^◌, ◌<◌, ℕ, Bool, true, false, IsTrue, if◌then◌else◌, Option, None}
use Rattle.std.specs.Prelude.{Some}
use Rattle.gier_order.specs.declared.operation.Operation.{Operation}
use Rattle.gier_order.specs.declared.operation.Fields.{Fields}
use Rattle.gier_order.specs.declared.operation.Fields.TheVariants.{Both, Level, Address, Neither}
use Rattle.gier_order.specs.declared.order.Order.{Order}
use Rattle.gier_order.specs.Table.{row_of, operation_at}

-- which fields an order uses
abbrev pub level_used : Fields → Bool
level_used Both = true
level_used Level = true
level_used Address = false
level_used Neither = false

abbrev pub address_used : Fields → Bool
address_used Both = true
address_used Level = false
address_used Address = true
address_used Neither = false

-- the fields that an order doesn't use are 0
abbrev pub unused_are_zero : Fields → ℕ → ℕ → Bool
unused_are_zero Both level address = true
unused_are_zero Level level address = address == 0
unused_are_zero Address level address = level == 0
unused_are_zero Neither level address = (level == 0) && (address == 0)

abbrev pub is_row : Option Operation → ℕ → ℕ → Bool
is_row None level address = false
is_row (Some operation) level address = unused_are_zero (row_of operation).fields level address

-- a number of the table, with zero in each field that it doesn't use
pub record IsOrder (order : Order) : Type 0 where
  pub level_fits : order.level < 256
  pub address_fits : order.address < 2 ^ 24
  pub in_table : IsTrue (is_row (operation_at order.op) order.level order.address)

abbrev pub code_of : Order → ℕ
code_of order = order.op * 2 ^ 32 + order.level * 2 ^ 24 + order.address

abbrev pub parts_of : ℕ → Order
parts_of word = record { op = word / 2 ^ 32; level = word / 2 ^ 24 % 256; address = word % 2 ^ 24 }

-- the order whose code the word is, None where there is none
abbrev pub order_at : ℕ → Option Order
order_at word =
    if is_row (operation_at (word / 2 ^ 32)) (word / 2 ^ 24 % 256) (word % 2 ^ 24) then Some (parts_of word) else None
