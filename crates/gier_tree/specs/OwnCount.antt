-- How many own quantities there are in the parts of a program, and the own declarations in the order of the text (5).
use Rattle.std.specs.Prelude.{ℕ, ◌+◌, List, [], ◌∷◌, length}
use Rattle.gier_tree.specs.Declaring.{own_names}
use Rattle.gier_tree.specs.Trees.{Declaration, DeclareType, DeclareOwn, DeclareArrays, DeclareOwnArrays, DeclareSwitch}
use Rattle.gier_tree.specs.Trees.{DeclareProcedure, Declarations, NoDeclarations, MoreDeclarations, Group, MkBlock, MkCompound}
use Rattle.gier_tree.specs.Trees.{Statements, NoStatements, MoreStatements, Statement, OneUnconditional, OneConditional, OneLoop}
use Rattle.gier_tree.specs.Trees.{Unconditional, MkUnconditional, Basic, OneGroup, Assign, Jump, CallStatement, Dummy}
use Rattle.gier_tree.specs.Trees.{Conditional, IfThen, IfElse, IfLoop, Loop, MkLoop, Program, MkProgram}

-- the own declarations of a part, and those that follow
abbrev mutual
  pub owns_of_declaration : Declaration → List Declaration → List Declaration
  owns_of_declaration (DeclareType t ns) rest = rest
  owns_of_declaration (DeclareOwn l t ns) rest = DeclareOwn l t ns ∷ rest
  owns_of_declaration (DeclareArrays t l s ss) rest = rest
  owns_of_declaration (DeclareOwnArrays k t l s ss) rest = DeclareOwnArrays k t l s ss ∷ rest
  owns_of_declaration (DeclareSwitch l x m e es) rest = rest
  owns_of_declaration (DeclareProcedure h s) rest = owns_of_statement s rest

  pub owns_of_declarations : Declarations → List Declaration → List Declaration
  owns_of_declarations NoDeclarations rest = rest
  owns_of_declarations (MoreDeclarations d l ds) rest = owns_of_declaration d (owns_of_declarations ds rest)

  pub owns_of_group : Group → List Declaration → List Declaration
  owns_of_group (MkBlock l d m ds s ss n) rest =
      owns_of_declaration d (owns_of_declarations ds (owns_of_statement s (owns_of_statements ss rest)))
  owns_of_group (MkCompound l s ss m) rest = owns_of_statement s (owns_of_statements ss rest)

  pub owns_of_statements : Statements → List Declaration → List Declaration
  owns_of_statements NoStatements rest = rest
  owns_of_statements (MoreStatements l s ss) rest = owns_of_statement s (owns_of_statements ss rest)

  pub owns_of_statement : Statement → List Declaration → List Declaration
  owns_of_statement (OneUnconditional u) rest = owns_of_unconditional u rest
  owns_of_statement (OneConditional c) rest = owns_of_conditional c rest
  owns_of_statement (OneLoop f) rest = owns_of_loop f rest

  pub owns_of_unconditional : Unconditional → List Declaration → List Declaration
  owns_of_unconditional (MkUnconditional ls b) rest = owns_of_basic b rest

  pub owns_of_basic : Basic → List Declaration → List Declaration
  owns_of_basic (OneGroup g) rest = owns_of_group g rest
  owns_of_basic (Assign p ps e) rest = rest
  owns_of_basic (Jump l e) rest = rest
  owns_of_basic (CallStatement c) rest = rest
  owns_of_basic Dummy rest = rest

  pub owns_of_conditional : Conditional → List Declaration → List Declaration
  owns_of_conditional (IfThen ls l e m u) rest = owns_of_unconditional u rest
  owns_of_conditional (IfElse ls l e m u n s) rest = owns_of_unconditional u (owns_of_statement s rest)
  owns_of_conditional (IfLoop ls l e m f) rest = owns_of_loop f rest

  pub owns_of_loop : Loop → List Declaration → List Declaration
  owns_of_loop (MkLoop ls l x m t ts n s) rest = owns_of_statement s rest

abbrev pub owns_of_program : Program → List Declaration
owns_of_program (MkProgram ls g l) = owns_of_group g []

-- how many quantities own declarations declare
abbrev pub count_owns : List Declaration → ℕ
count_owns [] = 0
count_owns (d ∷ ds) = length (own_names d) + count_owns ds

abbrev pub owns_in_declaration : Declaration → ℕ
owns_in_declaration d = count_owns (owns_of_declaration d [])

abbrev pub owns_in_declarations : Declarations → ℕ
owns_in_declarations ds = count_owns (owns_of_declarations ds [])

abbrev pub owns_in_statement : Statement → ℕ
owns_in_statement s = count_owns (owns_of_statement s [])

abbrev pub owns_in_unconditional : Unconditional → ℕ
owns_in_unconditional u = count_owns (owns_of_unconditional u [])
