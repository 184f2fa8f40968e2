-- The marks of constructs: what is noted where one begins, and what is tested where one ends.
use Rattle.std.specs.Prelude.{◌==◌, ◌&&◌, ◌*◌, ℕ, zero, suc, Bool, true, false, not, List, ◌∷◌, length, Option, None, Some}
use Rattle.gier_tree.specs.declared.construct.Construct.{Construct}
use Rattle.gier_tree.specs.declared.construct.Construct.TheVariants.{Program, Block, Compound, TypeDeclaration, ArraySegment}
use Rattle.gier_tree.specs.declared.construct.Construct.TheVariants.{SwitchDeclaration, ProcedureDeclaration, ProcedureBody}
use Rattle.gier_tree.specs.declared.construct.Construct.TheVariants.{ForStatement, ControlledStatement, ConditionalStatement}
use Rattle.gier_tree.specs.declared.construct.Construct.TheVariants.{Actual, Subscript, Bound, SwitchElement, ForElement, GoTo}
use Rattle.gier_tree.specs.declared.construct.Construct.TheVariants.{ConditionalExpression}
use Rattle.gier_tree.specs.Described.{Described}
use Rattle.gier_tree.specs.Written.{Unknown as AnyExpected, further_expected, is_called_as}
use Rattle.gier_kinds.specs.Actuals.{NoFormals, wanted_behind, name_fits_in, type_fits_in, string_fits_in}
use Rattle.gier_kinds.specs.ExprFaults.{most_subscripts, most_actuals, too_long}
use Rattle.gier_kinds.specs.Faults.{TypeFault, WrongSubscripts, WrongActual, WrongBound, WrongElement, WrongCondition}
use Rattle.gier_kinds.specs.Faults.{WrongBranches, WrongTarget, falls}
use Rattle.gier_kinds.specs.Types.{ExprType, OfInteger, OfBoolean, OfLabel, Unknown, agree, either_type}
use Rattle.gier_text6.specs.PassState.{Context, AtStatement, AtActual, AtOperand, Use, Held, AUse, AText, Open, Brackets, Calls}
use Rattle.gier_text6.specs.PassState.{Subscripting, Passing, Bounding, Choosing, Turning, Repeating, Going, Deciding}
use Rattle.gier_text6.specs.PassState.{Branching, InBlock, InSegment, InProcedure, Plain, World, Core, core, raises}
use Rattle.gier_text6.specs.Entering.{use_described, opened_by, with_formals}
use Rattle.gier_text6.specs.Uses.{settle, calls_if}
use Rattle.gier_text6.specs.Ending.{finished, ended}

-- what begins behind an open mark
abbrev pub behind_open : Option Construct → Context
behind_open (Some Actual) = AtActual
behind_open (Some ArraySegment) = AtOperand
behind_open (Some ProcedureDeclaration) = AtOperand
behind_open (Some Subscript) = AtOperand
behind_open (Some Bound) = AtOperand
behind_open (Some SwitchElement) = AtOperand
behind_open (Some ForElement) = AtOperand
behind_open (Some GoTo) = AtOperand
behind_open (Some ConditionalExpression) = AtOperand
behind_open construct = AtStatement

-- a bound is one of a pair
abbrev pub most_bounds : ℕ
most_bounds = 2 * most_subscripts

-- the number of the switch or procedure whose declaration begins
abbrev pub next_declared : List Open → Option ℕ
next_declared (InBlock next ∷ st) = Some next
next_declared st = None

abbrev pub next_taken : List Open → List Open
next_taken (InBlock next ∷ st) = InBlock (suc next) ∷ st
next_taken st = st

-- the place is that of the symbol before the mark; each part of a list is counted
abbrev pub opens_subscript : List Open → (position line : ℕ) → Core → Core
opens_subscript (Brackets u a q i first ∷ st) n l c =
    core c.world (Subscripting n l ∷ Brackets u (suc a) q i first ∷ st) c.value (raises n l (too_long most_subscripts a) c.found)
opens_subscript st n l c = core c.world (Subscripting n l ∷ st) c.value c.found

abbrev pub opens_actual : List Open → (position line : ℕ) → Core → Core
opens_actual (Calls d w e a q i first ∷ st) n l c =
    core c.world (Passing w e n l ∷ Calls d (wanted_behind w) (further_expected e) (suc a) q i first ∷ st) c.value
    (raises n l (too_long most_actuals a) c.found)
opens_actual st n l c = core c.world (Passing NoFormals AnyExpected n l ∷ st) c.value c.found

abbrev pub opens_bound : List Open → (position line : ℕ) → Core → Core
opens_bound (InSegment a ∷ st) n l c =
    core c.world (Bounding a n l ∷ InSegment (suc a) ∷ st) c.value (raises n l (too_long most_bounds a) c.found)
opens_bound st n l c = core c.world (Bounding 0 n l ∷ st) c.value c.found

abbrev pub with_stack : List Open → Core → Core
with_stack st c = core c.world st c.value c.found

abbrev pub with_world : World → Core → Core
with_world W c = core W c.stack c.value c.found

abbrev pub opens_procedure : Option ℕ → Core → Core
opens_procedure number c =
    core (with_formals (opened_by number true c.world) 0) (InProcedure number ∷ next_taken c.stack) c.value c.found

abbrev pub opens : Option Construct → (position line : ℕ) → Core → Core
opens (Some Block) n l c = with_stack (InBlock (length c.world.numbered) ∷ c.stack) c
opens (Some ArraySegment) n l c = with_stack (InSegment 0 ∷ c.stack) c
opens (Some SwitchDeclaration) n l c = with_stack (Plain ∷ next_taken c.stack) c
opens (Some ProcedureDeclaration) n l c = opens_procedure (next_declared c.stack) c
opens (Some ConditionalStatement) n l c = with_stack (Deciding n l ∷ c.stack) c
opens (Some Actual) n l c = opens_actual c.stack n l c
opens (Some Subscript) n l c = opens_subscript c.stack n l c
opens (Some Bound) n l c = opens_bound c.stack n l c
opens (Some SwitchElement) n l c = with_stack (Choosing n l ∷ c.stack) c
opens (Some ForElement) n l c = with_stack (Turning n l ∷ c.stack) c
opens (Some GoTo) n l c = with_stack (Going n l ∷ c.stack) c
opens (Some ConditionalExpression) n l c = with_stack (Branching Unknown n l ∷ c.stack) c
opens construct n l c = with_stack (Plain ∷ c.stack) c

-- a part that isn't the first one: where the list is too long, that is the fault there
abbrev pub further : (most before : ℕ) → (fits : Bool) → TypeFault → List TypeFault
further most before fits kind = falls (not (before == most) && not fits) kind

-- a part has ended; whether the first one fits is kept until the list ends
abbrev pub subscript_ends : (fits : Bool) → (position line : ℕ) → List Open → Core → Core
subscript_ends fits q l (Brackets u (suc zero) r i first ∷ st) c = with_stack (Brackets u 1 r i fits ∷ st) c
subscript_ends fits q l (Brackets u (suc (suc a)) r i first ∷ st) c =
    core c.world (Brackets u (suc (suc a)) r i first ∷ st) c.value
    (raises q l (further most_subscripts (suc a) fits WrongSubscripts) c.found)
subscript_ends fits q l st c = with_stack st c

abbrev pub actual_ends : (fits : Bool) → (position line : ℕ) → List Open → Core → Core
actual_ends fits q l (Calls d w e (suc zero) r i first ∷ st) c = with_stack (Calls d w e 1 r i fits ∷ st) c
actual_ends fits q l (Calls d w e (suc (suc a)) r i first ∷ st) c =
    core c.world (Calls d w e (suc (suc a)) r i first ∷ st) c.value
    (raises q l (further most_actuals (suc a) fits WrongActual) c.found)
actual_ends fits q l st c = with_stack st c

abbrev pub wants : ExprType → TypeFault → (position line : ℕ) → List Open → Core → Core
wants t kind q l st c = core c.world st c.value (raises q l (falls (not (agree t c.value)) kind) c.found)

-- the construct that ends is the one on the top
abbrev pub shuts_top : Option Construct → List Open → Core → Core
shuts_top (Some Block) (InBlock next ∷ st) c = with_stack st c
shuts_top (Some ArraySegment) (InSegment bounds ∷ st) c = with_stack st c
shuts_top (Some ProcedureDeclaration) (InProcedure number ∷ st) c =
    core (opened_by number false c.world) st c.value c.found
shuts_top (Some ConditionalStatement) (Deciding q l ∷ st) c = with_stack st c
shuts_top (Some Actual) (Passing w e q l ∷ st) c = actual_ends (type_fits_in w c.value) q l st c
shuts_top (Some Subscript) (Subscripting q l ∷ st) c = subscript_ends (agree OfInteger c.value) q l st c
shuts_top (Some Bound) (Bounding a q l ∷ st) c =
    core c.world st c.value (raises q l (further most_bounds a (agree OfInteger c.value) WrongBound) c.found)
shuts_top (Some SwitchElement) (Choosing q l ∷ st) c = wants OfLabel WrongTarget q l st c
shuts_top (Some ForElement) (Turning q l ∷ st) c = wants OfInteger WrongElement q l st c
shuts_top (Some ForElement) (Repeating q l ∷ st) c = wants OfBoolean WrongCondition q l st c
shuts_top (Some GoTo) (Going q l ∷ st) c = wants OfLabel WrongTarget q l st c
shuts_top (Some ConditionalExpression) (Branching t q l ∷ st) c =
    core c.world st (either_type t c.value) (raises q l (falls (not (agree t c.value)) WrongBranches) c.found)
shuts_top (Some Program) (Plain ∷ st) c = with_stack st c
shuts_top (Some Compound) (Plain ∷ st) c = with_stack st c
shuts_top (Some TypeDeclaration) (Plain ∷ st) c = with_stack st c
shuts_top (Some SwitchDeclaration) (Plain ∷ st) c = with_stack st c
shuts_top (Some ProcedureBody) (Plain ∷ st) c = with_stack st c
shuts_top (Some ForStatement) (Plain ∷ st) c = with_stack st c
shuts_top (Some ControlledStatement) (Plain ∷ st) c = with_stack st c
shuts_top construct st c = c

abbrev pub shuts_any : Option Construct → Core → Core
shuts_any construct c = shuts_top construct c.stack c

-- an actual that is an identifier alone; it is a call where its formal wants what the call gives
abbrev pub name_ends : Described → (at_line : ℕ) → List Open → Core → Core
name_ends d i (Passing w e q l ∷ st) c =
    actual_ends (name_fits_in w d) q l st (core c.world st c.value (calls_if (is_called_as e d) i c.found))
name_ends d i st c = c

abbrev pub text_ends : List Open → Core → Core
text_ends (Passing w e q l ∷ st) c = actual_ends (string_fits_in w) q l st c
text_ends st c = c

abbrev pub settled_end : Option Construct → Held → Core → Core
settled_end construct held c = shuts_any construct (ended (finished 0 (settle held c)))

abbrev pub use_ends : Context → Use → Core → Core
use_ends AtActual u c = name_ends (use_described c.world u) u.line c.stack c
use_ends context u c = settled_end (Some Actual) (AUse u) c

abbrev pub shuts : Option Construct → Held → Core → Core
shuts (Some Actual) (AUse u) c = use_ends u.context u c
shuts (Some Actual) AText c = text_ends c.stack c
shuts construct held c = settled_end construct held c
