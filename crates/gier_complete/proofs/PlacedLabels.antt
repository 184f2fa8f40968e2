-- Which declared labels, switches and procedures the code of a part has the places of: those that the scopes within it declare, and
-- of the scope around it those that are declared or stand in it. Each is told by the number that its identifier has in its place.
use Rattle.std.proofs.Common.{suc, List, [], ◌∷◌}
use Rattle.gier_tree.specs.Declaring.{name_of_heading}
use Rattle.gier_tree.specs.Entries.{block_entries, procedure_entries, turn_entries, entries_numbers, numbers_unconditional}
use Rattle.gier_tree.specs.OwnCount.{owns_in_unconditional}
use Rattle.gier_tree.specs.Places.{Places, block_places, procedure_places, turn_places}
use Rattle.gier_tree.specs.Texts.{Where, inner, further, behind_statement, behind_declaration, behind_declarations}
use Rattle.gier_tree.specs.Trees.{LabelPlace}
use Rattle.gier_tree.specs.Trees.{Declaration, DeclareType, DeclareOwn, DeclareArrays, DeclareOwnArrays, DeclareSwitch}
use Rattle.gier_tree.specs.Trees.{DeclareProcedure, Declarations, NoDeclarations, MoreDeclarations, Group, MkBlock, MkCompound}
use Rattle.gier_tree.specs.Trees.{Statements, NoStatements, MoreStatements, Statement, OneUnconditional, OneConditional, OneLoop}
use Rattle.gier_tree.specs.Trees.{Unconditional, MkUnconditional, Basic, OneGroup, Assign, Jump, CallStatement, Dummy}
use Rattle.gier_tree.specs.Trees.{Conditional, IfThen, IfElse, IfLoop, Loop, MkLoop}
use Rattle.gier_complete.proofs.Passing.{Labels, one, none, joined}

-- those before a statement
abbrev pub placed_labels : Places → List LabelPlace → Labels
placed_labels p [] = none
placed_labels p (l ∷ ls) = joined (one (p l.name.number).address) (placed_labels p ls)

abbrev mutual
  pub placed_declaration : Places → Where → Declaration → Labels
  placed_declaration p at (DeclareType y ns) = none
  placed_declaration p at (DeclareOwn l y ns) = none
  placed_declaration p at (DeclareArrays y l s ss) = none
  placed_declaration p at (DeclareOwnArrays o y l s ss) = none
  placed_declaration p at (DeclareSwitch l x m e es) = one (p x.number).address
  placed_declaration p at (DeclareProcedure g s) =
      joined (one (p (name_of_heading g).number).address)
      (placed_statement (procedure_places (suc at.level) at.numbers g s p) (inner at (procedure_entries g s)) s)

  pub placed_declarations : Places → Where → Declarations → Labels
  placed_declarations p at NoDeclarations = none
  placed_declarations p at (MoreDeclarations d l ds) =
      joined (placed_declaration p at d) (placed_declarations p (behind_declaration at d) ds)

  pub placed_group : Places → Where → Group → Labels
  placed_group p at (MkBlock l d m ds s ss e) =
      let q = block_places (suc at.level) at.numbers d ds s ss p in
      let w1 = inner at (block_entries d ds s ss) in
      let w2 = behind_declaration w1 d in
      let w3 = behind_declarations w2 ds in
      joined (placed_declaration q w1 d) (joined (placed_declarations q w2 ds)
      (joined (placed_statement q w3 s) (placed_statements q (behind_statement w3 s) ss)))
  placed_group p at (MkCompound l s ss e) = joined (placed_statement p at s) (placed_statements p (behind_statement at s) ss)

  pub placed_statements : Places → Where → Statements → Labels
  placed_statements p at NoStatements = none
  placed_statements p at (MoreStatements l s ss) =
      joined (placed_statement p at s) (placed_statements p (behind_statement at s) ss)

  pub placed_statement : Places → Where → Statement → Labels
  placed_statement p at (OneUnconditional u) = placed_unconditional p at u
  placed_statement p at (OneConditional c) = placed_conditional p at c
  placed_statement p at (OneLoop f) = placed_loop p at f

  pub placed_unconditional : Places → Where → Unconditional → Labels
  placed_unconditional p at (MkUnconditional ls b) = joined (placed_labels p ls) (placed_basic p at b)

  pub placed_basic : Places → Where → Basic → Labels
  placed_basic p at (OneGroup g) = placed_group p at g
  placed_basic p at (Assign q qs e) = none
  placed_basic p at (Jump l e) = none
  placed_basic p at (CallStatement c) = none
  placed_basic p at Dummy = none

  pub placed_conditional : Places → Where → Conditional → Labels
  placed_conditional p at (IfThen ls l e m u) = joined (placed_labels p ls) (placed_unconditional p at u)
  placed_conditional p at (IfElse ls l e m u n s) =
      joined (placed_labels p ls) (joined (placed_unconditional p at u)
      (placed_statement p (further at (numbers_unconditional u) (owns_in_unconditional u)) s))
  placed_conditional p at (IfLoop ls l e m f) = joined (placed_labels p ls) (placed_loop p at f)

  pub placed_loop : Places → Where → Loop → Labels
  placed_loop p at (MkLoop ls l x m t ts n s) =
      joined (placed_labels p ls)
      (placed_statement (turn_places at.level at.numbers s p) (further at (entries_numbers (turn_entries s)) 0) s)
