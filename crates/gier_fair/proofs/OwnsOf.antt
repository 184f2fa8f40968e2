-- The own quantities of joined parts are as many as those of each part.
use Rattle.std.proofs.Common.{◌≡◌, List, [], arith}
use Rattle.std.specs.Prelude.{◌+◌}
use Rattle.gier_tree.specs.OwnCount.{count_owns, owns_of_declaration, owns_of_declarations, owns_of_group, owns_of_statements, owns_of_statement, owns_of_unconditional, owns_of_basic, owns_of_conditional, owns_of_loop}
use Rattle.gier_tree.specs.Trees.{Declaration, DeclareType, DeclareOwn, DeclareArrays, DeclareOwnArrays, DeclareSwitch, DeclareProcedure, Declarations, NoDeclarations, MoreDeclarations, Group, MkBlock, MkCompound, Statements, NoStatements, MoreStatements, Statement, OneUnconditional, OneConditional, OneLoop, Unconditional, MkUnconditional, Basic, OneGroup, Assign, Jump, CallStatement, Dummy, Conditional, IfThen, IfElse, IfLoop, Loop, MkLoop}

-- what puts its own declarations before those that follow
abbrev Counts : (List Declaration → List Declaration) → Type 0
Counts of = (rest : List Declaration) → count_owns (of rest) ≡ count_owns (of []) + count_owns rest

none : Counts (λ rest. rest)
none rest = omega arith

both_counted : (of by : List Declaration → List Declaration) → Counts of → Counts by → Counts (λ rest. of (by rest))
both_counted of by h k rest =
    let a = h (by rest) in
    let b = k rest in
    let c = h (by []) in
    omega (arith, a, b, c)

mutual
  pub counted_declaration : (d : Declaration) (rest : List Declaration) → count_owns (owns_of_declaration d rest) ≡ count_owns (owns_of_declaration d []) + count_owns rest
  counted_declaration (DeclareType t ns) rest = none rest
  counted_declaration (DeclareOwn l t ns) rest = omega arith
  counted_declaration (DeclareArrays t l s ss) rest = none rest
  counted_declaration (DeclareOwnArrays k t l s ss) rest = omega arith
  counted_declaration (DeclareSwitch l x m e es) rest = none rest
  counted_declaration (DeclareProcedure h s) rest = counted_statement s rest

  pub counted_declarations : (ds : Declarations) (rest : List Declaration) → count_owns (owns_of_declarations ds rest) ≡ count_owns (owns_of_declarations ds []) + count_owns rest
  counted_declarations NoDeclarations rest = none rest
  counted_declarations (MoreDeclarations d l ds) rest = both_counted (owns_of_declaration d) (owns_of_declarations ds) (λ r. counted_declaration d r) (λ r. counted_declarations ds r) rest

  pub counted_group : (g : Group) (rest : List Declaration) → count_owns (owns_of_group g rest) ≡ count_owns (owns_of_group g []) + count_owns rest
  counted_group (MkBlock l d m ds s ss n) rest =
      both_counted (owns_of_declaration d) (λ r. owns_of_declarations ds (owns_of_statement s (owns_of_statements ss r))) (λ r. counted_declaration d r)
      (λ r. both_counted (owns_of_declarations ds) (λ q. owns_of_statement s (owns_of_statements ss q)) (λ q. counted_declarations ds q)
      (λ q. both_counted (owns_of_statement s) (owns_of_statements ss) (λ o. counted_statement s o) (λ o. counted_statements ss o) q) r) rest
  counted_group (MkCompound l s ss m) rest = both_counted (owns_of_statement s) (owns_of_statements ss) (λ r. counted_statement s r) (λ r. counted_statements ss r) rest

  pub counted_statements : (ss : Statements) (rest : List Declaration) → count_owns (owns_of_statements ss rest) ≡ count_owns (owns_of_statements ss []) + count_owns rest
  counted_statements NoStatements rest = none rest
  counted_statements (MoreStatements l s ss) rest = both_counted (owns_of_statement s) (owns_of_statements ss) (λ r. counted_statement s r) (λ r. counted_statements ss r) rest

  pub counted_statement : (s : Statement) (rest : List Declaration) → count_owns (owns_of_statement s rest) ≡ count_owns (owns_of_statement s []) + count_owns rest
  counted_statement (OneUnconditional u) rest = counted_unconditional u rest
  counted_statement (OneConditional c) rest = counted_conditional c rest
  counted_statement (OneLoop f) rest = counted_loop f rest

  pub counted_unconditional : (u : Unconditional) (rest : List Declaration) → count_owns (owns_of_unconditional u rest) ≡ count_owns (owns_of_unconditional u []) + count_owns rest
  counted_unconditional (MkUnconditional ls b) rest = counted_basic b rest

  counted_basic : (b : Basic) (rest : List Declaration) → count_owns (owns_of_basic b rest) ≡ count_owns (owns_of_basic b []) + count_owns rest
  counted_basic (OneGroup g) rest = counted_group g rest
  counted_basic (Assign p ps e) rest = none rest
  counted_basic (Jump l e) rest = none rest
  counted_basic (CallStatement c) rest = none rest
  counted_basic Dummy rest = none rest

  counted_conditional : (c : Conditional) (rest : List Declaration) → count_owns (owns_of_conditional c rest) ≡ count_owns (owns_of_conditional c []) + count_owns rest
  counted_conditional (IfThen ls l e m u) rest = counted_unconditional u rest
  counted_conditional (IfElse ls l e m u n s) rest = both_counted (owns_of_unconditional u) (owns_of_statement s) (λ r. counted_unconditional u r) (λ r. counted_statement s r) rest
  counted_conditional (IfLoop ls l e m f) rest = counted_loop f rest

  counted_loop : (f : Loop) (rest : List Declaration) → count_owns (owns_of_loop f rest) ≡ count_owns (owns_of_loop f []) + count_owns rest
  counted_loop (MkLoop ls l x m t ts n s) rest = counted_statement s rest
