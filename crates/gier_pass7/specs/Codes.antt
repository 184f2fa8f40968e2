-- The words of what is written.
use Rattle.std.specs.Prelude.{◌+◌, ◌-◌, ◌*◌, ◌^◌, ℕ, min, nat_lt, if◌then◌else◌}
use Rattle.gier_order.specs.declared.operation.Operation.{Operation}
use Rattle.gier_order.specs.Table.{row_of}

-- the first word of a symbol; a line that is greater than the greatest becomes that
abbrev pub head : ℕ → ℕ → ℕ
head tag line = tag * 2 ^ 24 + min line (2 ^ 24 - 1)

-- level and address of an order; what is greater than the greatest becomes that
abbrev pub fields : ℕ → ℕ → ℕ
fields level address = min level 255 * 2 ^ 24 + min address (2 ^ 24 - 1)

-- an order with its number
abbrev pub order_code : Operation → ℕ → ℕ → ℕ
order_code operation level address = (row_of operation).number * 2 ^ 32 + fields level address

-- a label number, where labels from the first one on have numbers from the target on
abbrev pub relocated_label : ℕ → ℕ → ℕ → ℕ
relocated_label label first target = if nat_lt label first then label else min (label - first + target) (2 ^ 64 - 1)
