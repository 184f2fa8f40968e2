-- Programs whose blocks declare identifiers below the fresh ones, which hoisting gives to own quantities.
use Rattle.std.specs.Prelude.{◌≡◌, ◌<◌, ℕ, true, ⊤}
use Rattle.gier_tree.specs.Hoist.{first_fresh}
use Rattle.gier_tree.specs.Trees.{Declaration, DeclareType, DeclareOwn, DeclareArrays, DeclareOwnArrays, DeclareSwitch}
use Rattle.gier_tree.specs.Trees.{DeclareProcedure, Declarations, NoDeclarations, MoreDeclarations, Group, MkBlock, MkCompound}
use Rattle.gier_tree.specs.Trees.{Statements, NoStatements, MoreStatements, Statement, OneUnconditional, OneConditional, OneLoop}
use Rattle.gier_tree.specs.Trees.{Unconditional, MkUnconditional, Basic, OneGroup, Assign, Jump, CallStatement, Dummy}
use Rattle.gier_tree.specs.Trees.{Conditional, IfThen, IfElse, IfLoop, Loop, MkLoop, Program, MkProgram}
use Rattle.gier_scope.specs.Scopes.{Scope, declares, block_scope, program_scope}

abbrev pub AreBelowFresh : Scope → Type 0
AreBelowFresh scope = (x : ℕ) → declares scope x ≡ true → x < first_fresh

abbrev mutual
  pub FewNamesDeclaration : Declaration → Type 0
  FewNamesDeclaration (DeclareType t ns) = ⊤
  FewNamesDeclaration (DeclareOwn l t ns) = ⊤
  FewNamesDeclaration (DeclareArrays t l s ss) = ⊤
  FewNamesDeclaration (DeclareOwnArrays k t l s ss) = ⊤
  FewNamesDeclaration (DeclareSwitch l x m e es) = ⊤
  FewNamesDeclaration (DeclareProcedure h s) = FewNamesStatement s

  pub FewNamesDeclarations : Declarations → Type 0
  FewNamesDeclarations NoDeclarations = ⊤
  FewNamesDeclarations (MoreDeclarations d l ds) = FewNamesDeclaration d × FewNamesDeclarations ds

  pub FewNamesGroup : Group → Type 0
  FewNamesGroup (MkBlock l d m ds s ss n) =
      AreBelowFresh (block_scope d ds s ss) × FewNamesDeclaration d × FewNamesDeclarations ds × FewNamesStatement s
      × FewNamesStatements ss
  FewNamesGroup (MkCompound l s ss m) = FewNamesStatement s × FewNamesStatements ss

  pub FewNamesStatements : Statements → Type 0
  FewNamesStatements NoStatements = ⊤
  FewNamesStatements (MoreStatements l s ss) = FewNamesStatement s × FewNamesStatements ss

  pub FewNamesStatement : Statement → Type 0
  FewNamesStatement (OneUnconditional u) = FewNamesUnconditional u
  FewNamesStatement (OneConditional c) = FewNamesConditional c
  FewNamesStatement (OneLoop f) = FewNamesLoop f

  pub FewNamesUnconditional : Unconditional → Type 0
  FewNamesUnconditional (MkUnconditional ls b) = FewNamesBasic b

  pub FewNamesBasic : Basic → Type 0
  FewNamesBasic (OneGroup g) = FewNamesGroup g
  FewNamesBasic (Assign q qs e) = ⊤
  FewNamesBasic (Jump l e) = ⊤
  FewNamesBasic (CallStatement c) = ⊤
  FewNamesBasic Dummy = ⊤

  pub FewNamesConditional : Conditional → Type 0
  FewNamesConditional (IfThen ls l e m u) = FewNamesUnconditional u
  FewNamesConditional (IfElse ls l e m u n s) = FewNamesUnconditional u × FewNamesStatement s
  FewNamesConditional (IfLoop ls l e m f) = FewNamesLoop f

  pub FewNamesLoop : Loop → Type 0
  FewNamesLoop (MkLoop ls l x m t ts n s) = FewNamesStatement s

abbrev pub HasFewNames : (written : Program) → Type 0
HasFewNames (MkProgram ls g l) = AreBelowFresh (program_scope (MkProgram ls g l)) × FewNamesGroup g
