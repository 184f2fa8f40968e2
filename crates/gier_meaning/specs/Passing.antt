-- Which kind an actual has, how the actual of a formal by name is meant, and whether the actuals of a call of a formal procedure
-- agree with the formals (Report 4.7.5). What a name is, is asked of `what`.
use Rattle.std.specs.Prelude.{◌&&◌, ℕ, nat_eq, nat_le, Bool, true, false, List, [], ◌∷◌, length}
use Rattle.gier_agree.specs.declared.kind.Kind.{Kind}
use Rattle.gier_agree.specs.declared.kind.Kind.TheVariants as kind
use Rattle.gier_agree.specs.Kinds.{number_of, wanted_by}
use Rattle.gier_meaning.specs.Tree.{Operator, Adds, Multiplies, Raises, Prefix, Signs, Nots, Meant, AsExpression, AsVariable}
use Rattle.gier_meaning.specs.Tree.{AsFormal, Name, Expr, Number, Logical, Alone, Subscripted, Called, Bracketed, Prefixed}
use Rattle.gier_meaning.specs.Tree.{Joined, IfExpr, Quoted, Exprs, NoExprs, MoreExprs}
use Rattle.gier_meaning.specs.What.{What, Unknown, IsVariable, IsByName, IsArray, IsLabel, IsSwitch, IsString, IsProcedure}
use Rattle.gier_meaning.specs.What.{IsFormalProcedure, IsStandard}

-- the kind of a function's value
abbrev pub result_kind : Kind → Kind
result_kind kind.BooleanProcedure = kind.Boolean
result_kind _ = kind.Integer

abbrev pub element_kind : Kind → Kind
element_kind kind.BooleanArray = kind.Boolean
element_kind _ = kind.Integer

-- the kind of an expression that is this name alone, with subscripts, or with actuals
abbrev pub value_kind : What → Kind
value_kind Unknown = kind.Integer
value_kind (IsVariable kind) = kind
value_kind (IsByName kind) = kind
value_kind (IsArray kind) = element_kind kind
value_kind IsLabel = kind.Label
value_kind IsSwitch = kind.Label
value_kind IsString = kind.String
value_kind (IsProcedure kind formals) = result_kind kind
value_kind (IsFormalProcedure kind) = result_kind kind
value_kind (IsStandard standard) = kind.Integer

abbrev pub joined_kind : Operator → Kind
joined_kind (Adds op) = kind.Integer
joined_kind (Multiplies op) = kind.Integer
joined_kind Raises = kind.Integer
joined_kind _ = kind.Boolean

abbrev pub prefixed_kind : Prefix → Kind
prefixed_kind (Signs sign) = kind.Integer
prefixed_kind Nots = kind.Boolean

-- an actual that is this name alone
abbrev pub alone_kind : What → Kind
alone_kind (IsArray kind) = kind
alone_kind IsSwitch = kind.Switch
alone_kind (IsProcedure kind formals) = kind
alone_kind (IsFormalProcedure kind) = kind
alone_kind what = value_kind what

abbrev pub meant_alone : What → Meant
meant_alone (IsVariable kind) = AsVariable
meant_alone (IsByName kind) = AsFormal
meant_alone _ = AsExpression

-- a formal takes an actual of the kind that it wants
abbrev pub fits : Kind → Kind → Bool
fits formal actual = nat_eq (number_of (wanted_by formal)) (number_of actual)

abbrev pub all_fit : List Kind → List Kind → Bool
all_fit [] [] = true
all_fit [] (actual ∷ actuals) = false
all_fit (formal ∷ formals) [] = false
all_fit (formal ∷ formals) (actual ∷ actuals) = fits formal actual && all_fit formals actuals

abbrev pub most_formals : ℕ
most_formals = 80

-- as many actuals as formals, at most so many, and each pair fits
abbrev pub agree : List Kind → List Kind → Bool
agree formals actuals = nat_le (length formals) most_formals && all_fit formals actuals

abbrev pub is_by_value : Kind → Bool
is_by_value kind.IntegerByValue = true
is_by_value kind.BooleanByValue = true
is_by_value _ = false

module _ (what : Name → What) where
  abbrev pub expr_kind : Expr → Kind
  expr_kind (Number value line) = kind.Integer
  expr_kind (Logical value line) = kind.Boolean
  expr_kind (Alone name line) = value_kind (what name)
  expr_kind (Subscripted name line es) = value_kind (what name)
  expr_kind (Called name line es) = value_kind (what name)
  expr_kind (Bracketed line e) = expr_kind e
  expr_kind (Prefixed op line e) = prefixed_kind op
  expr_kind (Joined a op line b) = joined_kind op
  expr_kind (IfExpr line test a b) = expr_kind a
  expr_kind (Quoted bytes line) = kind.String

  abbrev pub actual_kind : Expr → Kind
  actual_kind (Alone name line) = alone_kind (what name)
  actual_kind e = expr_kind e

  abbrev pub actual_kinds : Exprs → List Kind
  actual_kinds NoExprs = []
  actual_kinds (MoreExprs e es) = actual_kind e ∷ actual_kinds es

  -- an actual of a formal by name of a type: a variable or a formal by name only where it is that alone
  abbrev pub meant : Expr → Meant
  meant (Alone name line) = meant_alone (what name)
  meant (Subscripted name line es) = AsVariable
  meant e = AsExpression
