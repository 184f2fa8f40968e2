-- What the pass writes, told from its end. A hole takes its value from the symbol behind it that fills it, so that nothing is
-- changed after it was written: holes nest, and the values that fill them are a stack.
use Rattle.std.specs.Prelude.{◌+◌, ◌*◌, ◌^◌, ℕ, List, [], ◌∷◌}
use Rattle.gier_order.specs.declared.operation.Operation.{Operation}
use Rattle.gier_symbol.specs.declared.symbol.Symbol.{Symbol}
use Rattle.gier_symbol.specs.declared.tag.Tag.TheVariants.{LabelOrder, OpenRoom}
use Rattle.gier_symbol.specs.ByTag.{sym}
use Rattle.gier_symbol.specs.Texts.{order_base}
use Rattle.gier_tree.specs.Orders.{number_of}

-- what is written from here on, and the values with which holes before it are filled, the innermost first
pub record Answer : Type 0 where
  pub text : List Symbol
  pub fills : List ℕ

abbrev pub given : List Symbol → List ℕ → Answer
given t f = record { text = t; fills = f }

abbrev pub first : List ℕ → ℕ
first [] = 0
first (v ∷ vs) = v

abbrev pub others : List ℕ → List ℕ
others [] = []
others (v ∷ vs) = vs

abbrev pub put : Symbol → Answer → Answer
put s a = given (s ∷ a.text) a.fills

-- a symbol that is told by the value with which its hole is filled, and the filling
abbrev pub hole : (ℕ → Symbol) → Answer → Answer
hole f a = given (f (first a.fills) ∷ a.text) (others a.fills)

abbrev pub fill : ℕ → Answer → Answer
fill v a = given a.text (v ∷ a.fills)

-- symbols of text 7
abbrev pub order_of : Operation → (level address line : ℕ) → Symbol
order_of op level address line = record { tag = order_base + number_of op; value = level * 2 ^ 24 + address; line = line }

abbrev pub placed_order : Operation → (place line : ℕ) → Symbol
placed_order op place line = record { tag = order_base + number_of op; value = place; line = line }

abbrev pub labelled_of : Operation → (level label line : ℕ) → Symbol
labelled_of op level label line = sym LabelOrder (number_of op * 2 ^ 32 + level * 2 ^ 24 + label) line

abbrev pub room_of : Operation → (level room line : ℕ) → Symbol
room_of op level room line = sym OpenRoom (number_of op * 2 ^ 32 + level * 2 ^ 24 + room) line
