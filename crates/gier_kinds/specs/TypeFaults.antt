-- The faults of types of a hoisted program, in the order of its symbols (Report 4, 5). Each part adds those of its own symbols
-- to those of its parts; an own declaration has none, since its quantities are declared in the block around the program.
use Rattle.std.specs.Prelude.{◌++◌, ℕ, suc, not, List, [], ◌∷◌}
use Rattle.std.specs.List.{flat_map}
use Rattle.gier_tree.specs.Described.{Scopes}
use Rattle.gier_tree.specs.Trees.{Expr, Exprs, NoExprs, MoreExprs, Subscripted, BoundPair, MkPair, NextPair, Segment, MkSegment}
use Rattle.gier_tree.specs.Trees.{LeftSide, OneName, LeftElement, LeftPart, Turns, OneValue, StepUntil, WhileTrue, Declaration}
use Rattle.gier_tree.specs.Trees.{DeclareType, DeclareOwn, DeclareArrays, DeclareOwnArrays, DeclareSwitch, DeclareProcedure}
use Rattle.gier_tree.specs.Trees.{Declarations, NoDeclarations, MoreDeclarations, Group, MkBlock, MkCompound, Statements}
use Rattle.gier_tree.specs.Trees.{NoStatements, MoreStatements, Statement, OneUnconditional, OneConditional, OneLoop}
use Rattle.gier_tree.specs.Trees.{Unconditional, MkUnconditional, Basic, OneGroup, Assign, Jump, CallStatement, Dummy}
use Rattle.gier_tree.specs.Trees.{Conditional, IfThen, IfElse, IfLoop, Loop, MkLoop, Program, MkProgram}
use Rattle.gier_kinds.specs.AllowedUses.{array_type, left_type, is_controllable}
use Rattle.gier_kinds.specs.Around.{Around, in_block, in_procedure, in_turn, in_program}
use Rattle.gier_kinds.specs.ExprFaults.{AsStatement, most_subscripts, too_long, use_fault, condition_fault, faults_expr}
use Rattle.gier_kinds.specs.ExprFaults.{faults_call, faults_element}
use Rattle.gier_kinds.specs.ExprTypes.{type_expr}
use Rattle.gier_kinds.specs.Faults.{TypeFault, WrongBound, WrongElement, WrongTarget, WrongAssignment, TypeFaults, falls, on_symbol}
use Rattle.gier_kinds.specs.Headings.{faults_heading}
use Rattle.gier_kinds.specs.Types.{ExprType, OfInteger, OfLabel, agree, is_known}

-- a bound and the symbol before it, on which these faults fall too (5.2)
abbrev pub faults_bound : Scopes → (line : ℕ) → List TypeFault → Expr → TypeFaults
faults_bound at line kinds e =
    on_symbol line (kinds ++ falls (not (agree OfInteger (type_expr at e))) WrongBound) ++ faults_expr at e

abbrev pub faults_pair : Scopes → (line : ℕ) → List TypeFault → BoundPair → TypeFaults
faults_pair at line kinds (MkPair a l b) = faults_bound at line kinds a ++ faults_bound at l [] b

-- behind so many bound pairs
abbrev pub faults_pairs : Scopes → (before : ℕ) → List NextPair → TypeFaults
faults_pairs at before [] = []
faults_pairs at before (next ∷ ps) =
    faults_pair at next.comma (too_long most_subscripts before) next.pair ++ faults_pairs at (suc before) ps

abbrev pub faults_segment : Scopes → Segment → TypeFaults
faults_segment at (MkSegment ns l p ps m) = faults_pair at l [] p ++ faults_pairs at 1 ps

-- an expression that has to be a label, and the symbol before it (3.5, 4.3, 5.3)
abbrev pub faults_target : Scopes → (line : ℕ) → Expr → TypeFaults
faults_target at line e = on_symbol line (falls (not (agree OfLabel (type_expr at e))) WrongTarget) ++ faults_expr at e

abbrev pub faults_targets : Scopes → Exprs → TypeFaults
faults_targets at NoExprs = []
faults_targets at (MoreExprs l e es) = faults_target at l e ++ faults_targets at es

-- left parts, whose type has to be that of the right side (4.2)
abbrev pub type_left : Around → LeftSide → ExprType
type_left a (OneName x) = left_type (a.scopes x.number).kind (a.within x.number)
type_left a (LeftElement (Subscripted x l e es m)) = array_type (a.scopes x.number).kind

abbrev pub faults_left : Around → LeftSide → TypeFaults
faults_left a (OneName x) = use_fault (is_known (type_left a (OneName x))) x
faults_left a (LeftElement e) = faults_element array_type a.scopes e

abbrev pub faults_part : Around → (right : ExprType) → LeftPart → TypeFaults
faults_part a right p = faults_left a p.left ++ on_symbol p.becomes (falls (not (agree (type_left a p.left) right)) WrongAssignment)

-- elements of a for list, each with the symbol before it (4.6)
abbrev pub faults_integer : Scopes → (line : ℕ) → Expr → TypeFaults
faults_integer at line e = on_symbol line (falls (not (agree OfInteger (type_expr at e))) WrongElement) ++ faults_expr at e

abbrev pub faults_condition : Scopes → (line : ℕ) → Expr → TypeFaults
faults_condition at line e = condition_fault (type_expr at e) line ++ faults_expr at e

abbrev pub faults_turns : Scopes → (line : ℕ) → Turns → TypeFaults
faults_turns at line (OneValue e) = faults_integer at line e
faults_turns at line (StepUntil a l b m c) = faults_integer at line a ++ faults_integer at l b ++ faults_integer at m c
faults_turns at line (WhileTrue e l c) = faults_integer at line e ++ faults_condition at l c

abbrev mutual
  pub faults_declaration : Around → Declaration → TypeFaults
  faults_declaration a (DeclareType t ns) = []
  faults_declaration a (DeclareOwn l t ns) = []
  faults_declaration a (DeclareArrays t l s ss) =
      faults_segment a.scopes s ++ flat_map (λ next. faults_segment a.scopes next.segment) ss
  faults_declaration a (DeclareOwnArrays k t l s ss) = []
  faults_declaration a (DeclareSwitch l x m e es) = faults_target a.scopes m e ++ faults_targets a.scopes es
  faults_declaration a (DeclareProcedure h s) = faults_heading h ++ faults_statement (in_procedure h s a) s

  pub faults_declarations : Around → Declarations → TypeFaults
  faults_declarations a NoDeclarations = []
  faults_declarations a (MoreDeclarations d l ds) = faults_declaration a d ++ faults_declarations a ds

  pub faults_group : Around → Group → TypeFaults
  faults_group a (MkBlock l d m ds s ss n) =
      let b = in_block d ds s ss a in
      faults_declaration b d ++ faults_declarations b ds ++ faults_statement b s ++ faults_statements b ss
  faults_group a (MkCompound l s ss m) = faults_statement a s ++ faults_statements a ss

  pub faults_statements : Around → Statements → TypeFaults
  faults_statements a NoStatements = []
  faults_statements a (MoreStatements l s ss) = faults_statement a s ++ faults_statements a ss

  pub faults_statement : Around → Statement → TypeFaults
  faults_statement a (OneUnconditional u) = faults_unconditional a u
  faults_statement a (OneConditional c) = faults_conditional a c
  faults_statement a (OneLoop f) = faults_loop a f

  pub faults_unconditional : Around → Unconditional → TypeFaults
  faults_unconditional a (MkUnconditional ls b) = faults_basic a b

  pub faults_basic : Around → Basic → TypeFaults
  faults_basic a (OneGroup g) = faults_group a g
  faults_basic a (Assign p ps e) = flat_map (faults_part a (type_expr a.scopes e)) (p ∷ ps) ++ faults_expr a.scopes e
  faults_basic a (Jump l e) = faults_target a.scopes l e
  faults_basic a (CallStatement c) = faults_call AsStatement a.scopes c
  faults_basic a Dummy = []

  pub faults_conditional : Around → Conditional → TypeFaults
  faults_conditional a (IfThen ls l e m u) = faults_condition a.scopes l e ++ faults_unconditional a u
  faults_conditional a (IfElse ls l e m u n s) = faults_condition a.scopes l e ++ faults_unconditional a u ++ faults_statement a s
  faults_conditional a (IfLoop ls l e m f) = faults_condition a.scopes l e ++ faults_loop a f

  pub faults_loop : Around → Loop → TypeFaults
  faults_loop a (MkLoop ls l x m t ts n s) =
      use_fault (is_controllable (a.scopes x.number).kind) x ++ faults_turns a.scopes m t
      ++ flat_map (λ next. faults_turns a.scopes next.comma next.turns) ts ++ faults_statement (in_turn s a) s

abbrev pub type_faults : (hoisted : Program) → TypeFaults
type_faults (MkProgram ls g l) = faults_group (in_program (MkProgram ls g l)) g
