-- Fair programs: their scopes are right, and each place has what it takes (Report 4, 5). Each statement stands where its places
-- tell what each identifier is, and within some functions, whose values may be assigned there.
use Rattle.std.specs.Prelude.{◌≡◌, ◌≤◌, ℕ, suc, Bool, true, false, ◌∷◌, length, ⊤}
use Rattle.std.specs.List.{AllByRecursion}
use Rattle.gier_tree.specs.Declaring.{formals_of, name_of_heading}
use Rattle.gier_tree.specs.Described.{kind_in}
use Rattle.gier_tree.specs.Entries.{entries_numbers, block_entries, procedure_entries, turn_entries, numbers_unconditional}
use Rattle.gier_tree.specs.Need.{count_actuals}
use Rattle.gier_tree.specs.OwnCount.{owns_in_unconditional}
use Rattle.gier_tree.specs.Places.{Places, block_places, procedure_places, turn_places, program_places}
use Rattle.gier_tree.specs.Texts.{Where, further, behind_statement, behind_declaration, behind_declarations, inner}
use Rattle.gier_tree.specs.Trees.{BoundPair, MkPair, Segment, MkSegment, Heading, Call, Alone, WithActuals}
use Rattle.gier_tree.specs.Trees.{LeftSide, OneName, LeftElement, Turns, OneValue, StepUntil, WhileTrue, Declaration}
use Rattle.gier_tree.specs.Trees.{DeclareType, DeclareOwn, DeclareArrays, DeclareOwnArrays, DeclareSwitch, DeclareProcedure}
use Rattle.gier_tree.specs.Trees.{Declarations, NoDeclarations, MoreDeclarations, Group, MkBlock, MkCompound, Statements}
use Rattle.gier_tree.specs.Trees.{NoStatements, MoreStatements, Statement, OneUnconditional, OneConditional, OneLoop}
use Rattle.gier_tree.specs.Trees.{Unconditional, MkUnconditional, Basic, OneGroup, Assign, Jump, CallStatement, Dummy}
use Rattle.gier_tree.specs.Trees.{Conditional, IfThen, IfElse, IfLoop, Loop, MkLoop, Program, MkProgram}
use Rattle.gier_scope.specs.Places.{value_places}
use Rattle.gier_kinds.specs.Actuals.{wanted_behind}
use Rattle.gier_kinds.specs.AllowedUses.{array_type, left_type, is_controllable, is_statement, is_called_statement}
use Rattle.gier_kinds.specs.Around.{hide, within_named}
use Rattle.gier_kinds.specs.ExprFaults.{most_subscripts, most_actuals}
use Rattle.gier_kinds.specs.Headings.{is_value}
use Rattle.gier_kinds.specs.Types.{ExprType, OfInteger, OfBoolean, OfLabel}
use Rattle.gier_fair.specs.Expressions.{Gives, FairActualCount, first_wanted, FairExpr, FairExprs, FairElement, FairActual}
use Rattle.gier_fair.specs.Expressions.{FairActuals}
use Rattle.gier_fair.specs.InScope.{in_program, IsInScope}

abbrev pub FairPair : Places → BoundPair → Type 0
FairPair p (MkPair a l b) = FairExpr p OfInteger a × FairExpr p OfInteger b

abbrev pub FairSegment : Places → Segment → Type 0
FairSegment p (MkSegment ns l b bs m) =
    FairPair p b × AllByRecursion (λ next. FairPair p next.pair) bs × (suc (length bs) ≤ most_subscripts)

-- so many formals, and each by value is integer or Boolean
abbrev pub FairHeading : Heading → Type 0
FairHeading h =
    (length (formals_of h) ≤ most_actuals) × AllByRecursion (λ x. is_value (kind_in h x.number) ≡ true) (value_places h)

-- a left part of this type
abbrev pub FairLeft : Places → (within : ℕ → Bool) → ExprType → LeftSide → Type 0
FairLeft p f t (OneName x) = Gives (left_type (p x.number).what.kind (f x.number)) t
FairLeft p f t (LeftElement e) = FairElement p array_type t e

abbrev pub FairTurns : Places → Turns → Type 0
FairTurns p (OneValue e) = FairExpr p OfInteger e
FairTurns p (StepUntil a l b m c) = FairExpr p OfInteger a × FairExpr p OfInteger b × FairExpr p OfInteger c
FairTurns p (WhileTrue e l c) = FairExpr p OfInteger e × FairExpr p OfBoolean c

abbrev pub FairCallStatement : Places → Call → Type 0
FairCallStatement p (Alone x) = is_statement (p x.number).what.kind (p x.number).what.count ≡ true
FairCallStatement p (WithActuals x l a more m) =
    let d = (p x.number).what in
    (is_called_statement d.kind d.count ≡ true) × FairActualCount d (suc (count_actuals more))
    × FairActual p (first_wanted d) a × FairActuals p (wanted_behind (first_wanted d)) more

abbrev mutual
  pub FairDeclaration : Places → (within : ℕ → Bool) → Where → Declaration → Type 0
  FairDeclaration p f w (DeclareType t ns) = ⊤
  FairDeclaration p f w (DeclareOwn l t ns) = ⊤
  FairDeclaration p f w (DeclareArrays t l s ss) = FairSegment p s × AllByRecursion (λ next. FairSegment p next.segment) ss
  FairDeclaration p f w (DeclareOwnArrays k t l s ss) = ⊤
  FairDeclaration p f w (DeclareSwitch l x m e es) = FairExpr p OfLabel e × FairExprs p OfLabel es
  FairDeclaration p f w (DeclareProcedure h s) =
      let es = procedure_entries h s in
      FairHeading h
      × FairStatement (procedure_places (suc w.level) w.numbers h s p) (hide es (within_named (name_of_heading h) f)) (inner w es) s

  pub FairDeclarations : Places → (within : ℕ → Bool) → Where → Declarations → Type 0
  FairDeclarations p f w NoDeclarations = ⊤
  FairDeclarations p f w (MoreDeclarations d l ds) = FairDeclaration p f w d × FairDeclarations p f (behind_declaration w d) ds

  pub FairGroup : Places → (within : ℕ → Bool) → Where → Group → Type 0
  FairGroup p f w (MkBlock l d m ds s ss n) =
      let q = block_places (suc w.level) w.numbers d ds s ss p in
      let g = hide (block_entries d ds s ss) f in
      let w1 = inner w (block_entries d ds s ss) in
      let w2 = behind_declaration w1 d in
      let w3 = behind_declarations w2 ds in
      FairDeclaration q g w1 d × FairDeclarations q g w2 ds × FairStatement q g w3 s
      × FairStatements q g (behind_statement w3 s) ss
  FairGroup p f w (MkCompound l s ss m) = FairStatement p f w s × FairStatements p f (behind_statement w s) ss

  pub FairStatements : Places → (within : ℕ → Bool) → Where → Statements → Type 0
  FairStatements p f w NoStatements = ⊤
  FairStatements p f w (MoreStatements l s ss) = FairStatement p f w s × FairStatements p f (behind_statement w s) ss

  pub FairStatement : Places → (within : ℕ → Bool) → Where → Statement → Type 0
  FairStatement p f w (OneUnconditional u) = FairUnconditional p f w u
  FairStatement p f w (OneConditional c) = FairConditional p f w c
  FairStatement p f w (OneLoop x) = FairLoop p f w x

  pub FairUnconditional : Places → (within : ℕ → Bool) → Where → Unconditional → Type 0
  FairUnconditional p f w (MkUnconditional ls b) = FairBasic p f w b

  pub FairBasic : Places → (within : ℕ → Bool) → Where → Basic → Type 0
  FairBasic p f w (OneGroup g) = FairGroup p f w g
  FairBasic p f w (Assign q qs e) =
      (t : ExprType) × AllByRecursion (λ part. FairLeft p f t part.left) (q ∷ qs) × FairExpr p t e
  FairBasic p f w (Jump l e) = FairExpr p OfLabel e
  FairBasic p f w (CallStatement c) = FairCallStatement p c
  FairBasic p f w Dummy = ⊤

  pub FairConditional : Places → (within : ℕ → Bool) → Where → Conditional → Type 0
  FairConditional p f w (IfThen ls l e m u) = FairExpr p OfBoolean e × FairUnconditional p f w u
  FairConditional p f w (IfElse ls l e m u n s) =
      FairExpr p OfBoolean e × FairUnconditional p f w u
      × FairStatement p f (further w (numbers_unconditional u) (owns_in_unconditional u)) s
  FairConditional p f w (IfLoop ls l e m x) = FairExpr p OfBoolean e × FairLoop p f w x

  pub FairLoop : Places → (within : ℕ → Bool) → Where → Loop → Type 0
  FairLoop p f w (MkLoop ls l x m t ts n s) =
      let es = turn_entries s in
      (is_controllable (p x.number).what.kind ≡ true) × FairTurns p t × AllByRecursion (λ next. FairTurns p next.turns) ts
      × FairStatement (turn_places w.level w.numbers s p) (hide es f) (further w (entries_numbers es) 0) s

abbrev pub FairProgram : (hoisted : Program) → Type 0
FairProgram (MkProgram ls g l) =
    let t = MkProgram ls g l in
    FairGroup (program_places t) (λ x. false) (in_program t) g

-- what all that stands behind the faults may rely on
pub record IsFair (hoisted : Program) : Type 0 where
  pub scopes : IsInScope hoisted
  pub uses : FairProgram hoisted
