-- Closing a tree: identifiers that are declared outside it are replaced, as a map says (Report 4.7.3.2 and 4.7.3.3). What an
-- inner scope declares stays until that scope is entered. An actual that already stands in the tree is closed.
use Rattle.std.specs.Prelude.{ℕ, List, [], ◌∷◌}
use Rattle.gier_meaning.specs.Tree.{Name, Identifier, AnEntity, AProcedure, AFormalProcedure, AText, AStandard, AnActual, Expr}
use Rattle.gier_meaning.specs.Tree.{Number, Logical, Alone, Subscripted, Called, Bracketed, Prefixed, Joined, IfExpr, Quoted}
use Rattle.gier_meaning.specs.Tree.{Exprs, NoExprs, MoreExprs, Element, Once, StepUntil, While, Statement, Labelled, Dummy}
use Rattle.gier_meaning.specs.Tree.{Compound, Block, Assign, GoTo, CallOf, If, IfElse, For, Statements, NoStatements}
use Rattle.gier_meaning.specs.Tree.{MoreStatements, Declarations, NoDeclarations, Variables, Arrays, Switch, Procedure}
use Rattle.gier_meaning.specs.Scopes.{labels, of_block, identifiers_of, of_procedure}
use Rattle.gier_meaning.specs.Maps.{Map, map_without, hidden_in_body}

-- by the map for uses, or by that for left parts
abbrev pub close_name : (ℕ → Name) → Name → Name
close_name names (Identifier x) = names x
close_name names (AnEntity n) = AnEntity n
close_name names (AProcedure n) = AProcedure n
close_name names (AFormalProcedure n) = AFormalProcedure n
close_name names (AText bytes) = AText bytes
close_name names (AStandard standard) = AStandard standard
close_name names (AnActual meant kind e) = AnActual meant kind e

abbrev mutual
  pub close : (ℕ → Name) → Expr → Expr
  close names (Number value line) = Number value line
  close names (Logical value line) = Logical value line
  close names (Alone name line) = Alone (close_name names name) line
  close names (Subscripted name line es) = Subscripted (close_name names name) line (close_all names es)
  close names (Called name line es) = Called (close_name names name) line (close_all names es)
  close names (Bracketed line e) = Bracketed line (close names e)
  close names (Prefixed op line e) = Prefixed op line (close names e)
  close names (Joined a op line b) = Joined (close names a) op line (close names b)
  close names (IfExpr line test a b) = IfExpr line (close names test) (close names a) (close names b)
  close names (Quoted bytes line) = Quoted bytes line

  pub close_all : (ℕ → Name) → Exprs → Exprs
  close_all names NoExprs = NoExprs
  close_all names (MoreExprs e es) = MoreExprs (close names e) (close_all names es)

abbrev pub close_left : Map → Expr → Expr
close_left m (Alone name line) = Alone (close_name m.assigned name) line
close_left m e = close m.used e

abbrev pub close_lefts : Map → Exprs → Exprs
close_lefts m NoExprs = NoExprs
close_lefts m (MoreExprs e es) = MoreExprs (close_left m e) (close_lefts m es)

abbrev pub close_element : Map → Element → Element
close_element m (Once e) = Once (close m.used e)
close_element m (StepUntil a b c) = StepUntil (close m.used a) (close m.used b) (close m.used c)
close_element m (While e test) = While (close m.used e) (close m.used test)

abbrev pub close_elements : Map → List Element → List Element
close_elements m [] = []
close_elements m (element ∷ elements) = close_element m element ∷ close_elements m elements

abbrev pub close_names : Map → List Name → List Name
close_names m [] = []
close_names m (name ∷ names) = close_name m.used name ∷ close_names m names

abbrev mutual
  pub close_in : Map → Statement → Statement
  close_in m (Labelled name s) = Labelled (close_name m.used name) (close_in m s)
  close_in m Dummy = Dummy
  close_in m (Compound ss) = Compound (close_statements m ss)
  close_in m (Block line ds ss) =
      Block line (close_declarations (map_without (identifiers_of (of_block ds ss)) m) ds)
      (close_statements (map_without (identifiers_of (of_block ds ss)) m) ss)
  close_in m (Assign lefts e) = Assign (close_lefts m lefts) (close m.used e)
  close_in m (GoTo line e) = GoTo line (close m.used e)
  close_in m (CallOf e) = CallOf (close m.used e)
  close_in m (If test s) = If (close m.used test) (close_in m s)
  close_in m (IfElse test s other) = IfElse (close m.used test) (close_in m s) (close_in m other)
  close_in m (For line variable place elements s) =
      For line (close_name m.used variable) place (close_elements m elements) (close_in (map_without (labels s) m) s)

  pub close_statements : Map → Statements → Statements
  close_statements m NoStatements = NoStatements
  close_statements m (MoreStatements s ss) = MoreStatements (close_in m s) (close_statements m ss)

  -- the declaring places too, when their block is entered
  pub close_declarations : Map → Declarations → Declarations
  close_declarations m NoDeclarations = NoDeclarations
  close_declarations m (Variables kind names ds) = Variables kind (close_names m names) (close_declarations m ds)
  close_declarations m (Arrays kind line names bounds ds) =
      Arrays kind line (close_names m names) (close_all m.used bounds) (close_declarations m ds)
  close_declarations m (Switch line name elements ds) =
      Switch line (close_name m.used name) (close_all m.used elements) (close_declarations m ds)
  close_declarations m (Procedure line kind own name formals body ds) =
      Procedure line kind own (close_name m.used name) formals
      (close_in (hidden_in_body kind own (of_procedure formals body) m) body) (close_declarations m ds)
