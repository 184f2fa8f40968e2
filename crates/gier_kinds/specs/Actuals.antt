-- Which actuals fit which formals (Report 4.7.5), and how many a call has to have. At a call of a formal procedure the formals
-- aren't known: there only what can't be an actual at all doesn't fit, and all else is found out when the call is executed.
use Rattle.std.specs.Prelude.{◌==◌, ℕ, Bool, true, false, not, nat_le, List, [], ◌∷◌, length, Option, None, Some}
use Rattle.gier_tree.specs.declared.kind.Kind.{Kind}
use Rattle.gier_tree.specs.declared.kind.Kind.TheVariants.{IntegerArray, BooleanArray, Switch, Procedure, IntegerProcedure}
use Rattle.gier_tree.specs.declared.kind.Kind.TheVariants.{BooleanProcedure, IntegerValue, BooleanValue, IntegerFormal}
use Rattle.gier_tree.specs.declared.kind.Kind.TheVariants.{BooleanFormal, IntegerArrayFormal, BooleanArrayFormal, LabelFormal}
use Rattle.gier_tree.specs.declared.kind.Kind.TheVariants.{SwitchFormal, StringFormal, ProcedureFormal, IntegerProcedureFormal}
use Rattle.gier_tree.specs.declared.kind.Kind.TheVariants.{BooleanProcedureFormal, OutInteger, OutText, OutCr, OutChar, InInteger}
use Rattle.gier_tree.specs.declared.kind.Kind.TheVariants.{InChar, Abs, Sign}
use Rattle.gier_tree.specs.Described.{Described, Scopes}
use Rattle.gier_tree.specs.Trees.{Name, Expr, Actual, OneExpr, AString}
use Rattle.gier_tree.specs.Written.{name_alone}
use Rattle.gier_kinds.specs.AllowedUses.{alone_type}
use Rattle.gier_kinds.specs.ExprTypes.{type_expr}
use Rattle.gier_kinds.specs.Types.{ExprType, OfInteger, OfBoolean, OfLabel, Unknown, is_same}

-- the kinds of the formals of a procedure that is declared or standard; nothing else has known formals
abbrev pub formals_by : Kind → List Kind → Option (List Kind)
formals_by Procedure formals = Some formals
formals_by IntegerProcedure formals = Some formals
formals_by BooleanProcedure formals = Some formals
formals_by OutInteger formals = Some (IntegerValue ∷ [])
formals_by OutText formals = Some (StringFormal ∷ [])
formals_by OutCr formals = Some ([])
formals_by OutChar formals = Some (IntegerValue ∷ [])
formals_by InInteger formals = Some ([])
formals_by InChar formals = Some ([])
formals_by Abs formals = Some (IntegerValue ∷ [])
formals_by Sign formals = Some (IntegerValue ∷ [])
formals_by kind formals = None

abbrev pub known_formals : Described → Option (List Kind)
known_formals d = formals_by d.kind d.formals

-- so many actuals aren't as many as the formals
abbrev pub is_other_count : Option (List Kind) → (actuals : ℕ) → Bool
is_other_count None actuals = false
is_other_count (Some formals) actuals = not (length formals == actuals)

-- a procedure with more formals is no actual
abbrev pub most_formals_of_actual : ℕ
most_formals_of_actual = 80

abbrev pub may_be_actual : (formals : ℕ) → Bool
may_be_actual formals = nat_le formals most_formals_of_actual

-- an identifier alone for a formal of a kind; a function alone is a call where a value is wanted
abbrev pub name_fits : (formal kind : Kind) → (formals : ℕ) → Bool
name_fits IntegerValue kind formals = is_same OfInteger (alone_type kind formals)
name_fits IntegerFormal kind formals = is_same OfInteger (alone_type kind formals)
name_fits BooleanValue kind formals = is_same OfBoolean (alone_type kind formals)
name_fits BooleanFormal kind formals = is_same OfBoolean (alone_type kind formals)
name_fits LabelFormal kind formals = is_same OfLabel (alone_type kind formals)
name_fits IntegerArrayFormal IntegerArray formals = true
name_fits IntegerArrayFormal IntegerArrayFormal formals = true
name_fits BooleanArrayFormal BooleanArray formals = true
name_fits BooleanArrayFormal BooleanArrayFormal formals = true
name_fits SwitchFormal Switch formals = true
name_fits SwitchFormal SwitchFormal formals = true
name_fits StringFormal StringFormal formals = true
name_fits ProcedureFormal Procedure formals = may_be_actual formals
name_fits ProcedureFormal ProcedureFormal formals = true
name_fits IntegerProcedureFormal IntegerProcedure formals = may_be_actual formals
name_fits IntegerProcedureFormal IntegerProcedureFormal formals = true
name_fits BooleanProcedureFormal BooleanProcedure formals = may_be_actual formals
name_fits BooleanProcedureFormal BooleanProcedureFormal formals = true
name_fits formal kind formals = false

-- another expression of a type for a formal of a kind
abbrev pub type_fits : (formal : Kind) → ExprType → Bool
type_fits formal Unknown = true
type_fits IntegerValue OfInteger = true
type_fits IntegerFormal OfInteger = true
type_fits BooleanValue OfBoolean = true
type_fits BooleanFormal OfBoolean = true
type_fits LabelFormal OfLabel = true
type_fits formal t = false

abbrev pub string_fits : (formal : Kind) → Bool
string_fits StringFormal = true
string_fits formal = false

-- an identifier alone at a call of a formal procedure
abbrev pub name_passes : Kind → (formals : ℕ) → Bool
name_passes Procedure formals = may_be_actual formals
name_passes IntegerProcedure formals = may_be_actual formals
name_passes BooleanProcedure formals = may_be_actual formals
name_passes OutInteger formals = false
name_passes OutText formals = false
name_passes OutCr formals = false
name_passes OutChar formals = false
name_passes Abs formals = false
name_passes Sign formals = false
name_passes kind formals = true

-- what the actuals of a call are to fit: formals, those that a formal procedure will have, or nothing, where what is called may
-- not be called so
pub data Wanted : Type 0 where
  TheseFormals : List Kind → Wanted
  SomeFormals : Wanted
  NoFormals : Wanted

abbrev pub wanted_by : (allowed : Bool) → Option (List Kind) → Wanted
wanted_by true (Some formals) = TheseFormals formals
wanted_by true None = SomeFormals
wanted_by false formals = NoFormals

-- of the actuals behind the first one
abbrev pub wanted_behind : Wanted → Wanted
wanted_behind (TheseFormals []) = TheseFormals ([])
wanted_behind (TheseFormals (formal ∷ formals)) = TheseFormals formals
wanted_behind SomeFormals = SomeFormals
wanted_behind NoFormals = NoFormals

-- the first actual of these; one beyond the formals has only its own faults
abbrev pub name_fits_in : Wanted → Described → Bool
name_fits_in (TheseFormals []) d = true
name_fits_in (TheseFormals (formal ∷ formals)) d = name_fits formal d.kind d.count
name_fits_in SomeFormals d = name_passes d.kind d.count
name_fits_in NoFormals d = true

abbrev pub type_fits_in : Wanted → ExprType → Bool
type_fits_in (TheseFormals (formal ∷ formals)) t = type_fits formal t
type_fits_in wanted t = true

abbrev pub string_fits_in : Wanted → Bool
string_fits_in (TheseFormals (formal ∷ formals)) = string_fits formal
string_fits_in wanted = true

abbrev pub fits_by : Option Name → Scopes → Wanted → Expr → Bool
fits_by (Some x) at wanted e = name_fits_in wanted (at x.number)
fits_by None at wanted e = type_fits_in wanted (type_expr at e)

abbrev pub actual_fits : Scopes → Wanted → Actual → Bool
actual_fits at wanted (OneExpr e) = fits_by (name_alone e) at wanted e
actual_fits at wanted (AString l bs m) = string_fits_in wanted
