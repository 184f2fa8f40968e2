-- The types of expressions (Report 3), and which of them agree. An unknown type agrees with each, so that one fault raises no
-- other.
use Rattle.std.specs.Prelude.{Bool, true, false, if◌then◌else◌}

pub data ExprType : Type 0 where
  OfInteger : ExprType
  OfBoolean : ExprType
  OfLabel : ExprType
  Unknown : ExprType

abbrev pub is_known : ExprType → Bool
is_known Unknown = false
is_known t = true

-- one type, and known
abbrev pub is_same : (a b : ExprType) → Bool
is_same OfInteger OfInteger = true
is_same OfBoolean OfBoolean = true
is_same OfLabel OfLabel = true
is_same a b = false

abbrev pub agree : (a b : ExprType) → Bool
agree Unknown b = true
agree a Unknown = true
agree a b = is_same a b

-- the type of a conditional expression, by those of its branches (3.3.3, 3.4.3, 3.5.3)
abbrev pub either_type : (a b : ExprType) → ExprType
either_type Unknown b = b
either_type a Unknown = a
either_type a b = if is_same a b then a else Unknown
