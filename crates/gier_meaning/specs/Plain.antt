-- The tree that is executed, from the tree of a program: symbols that only part others are left out, expressions of all rules
-- become expressions of one type, and each identifier is itself. An own declaration declares nothing, since own quantities are
-- declared in the block to which they were hoisted.
use Rattle.std.specs.Prelude.{◌==◌, ◌||◌, ℕ, Bool, true, false, List, [], ◌∷◌, map, Option, Some, None, if◌then◌else◌}
use Rattle.gier_agree.specs.declared.kind.Kind.{Kind}
use Rattle.gier_agree.specs.declared.kind.Kind.TheVariants as kind
use Rattle.gier_tree.specs.Trees as tree
use Rattle.gier_tree.specs.Trees.{MkNames, MkPair, MkSegment, IntegerType, BooleanType, ValueType}
use Rattle.gier_meaning.specs.Tree.{Adds, Multiplies, Raises, Compares, Ands, Ors, Implies, Equals, Signs, Nots, Name, Identifier}
use Rattle.gier_meaning.specs.Tree.{Expr, Number, Logical, Alone, Subscripted, Called, Bracketed, Prefixed, Joined, IfExpr}
use Rattle.gier_meaning.specs.Tree.{Quoted, Exprs, NoExprs, MoreExprs, Element, Once, StepUntil, While, Formal, Statement}
use Rattle.gier_meaning.specs.Tree.{Labelled, Dummy, Compound, Block, Assign, GoTo, CallOf, If, IfElse, For, Statements}
use Rattle.gier_meaning.specs.Tree.{NoStatements, MoreStatements, Declarations, NoDeclarations, Variables, Arrays, Switch}
use Rattle.gier_meaning.specs.Tree.{Procedure, Whole}

abbrev pub name_of : tree.Name → Name
name_of name = Identifier name.number

abbrev pub bytes_of : List tree.Byte → List ℕ
bytes_of [] = []
bytes_of (byte ∷ bytes) = byte.value ∷ bytes_of bytes

abbrev mutual
  pub expr : tree.Expr → Expr
  expr (tree.OneSimple e) = simple e
  expr (tree.IfExpr line test behind yes_part other no_part) = IfExpr line (expr test) (simple yes_part) (expr no_part)

  pub simple : tree.Simple → Expr
  simple (tree.OneImplication e) = implication e
  simple (tree.Equivalent a line b) = Joined (simple a) Equals line (implication b)

  pub implication : tree.Implication → Expr
  implication (tree.OneDisjunction e) = disjunction e
  implication (tree.Implies a line b) = Joined (implication a) Implies line (disjunction b)

  pub disjunction : tree.Disjunction → Expr
  disjunction (tree.OneConjunction e) = conjunction e
  disjunction (tree.Either a line b) = Joined (disjunction a) Ors line (conjunction b)

  pub conjunction : tree.Conjunction → Expr
  conjunction (tree.OneNegation e) = negation e
  conjunction (tree.Both a line b) = Joined (conjunction a) Ands line (negation b)

  pub negation : tree.Negation → Expr
  negation (tree.OneRelation e) = relation e
  negation (tree.Negated line e) = Prefixed Nots line (relation e)

  pub relation : tree.Relation → Expr
  relation (tree.OneArithmetic e) = arithmetic e
  relation (tree.Compared a op line b) = Joined (arithmetic a) (Compares op) line (arithmetic b)

  pub arithmetic : tree.Arithmetic → Expr
  arithmetic (tree.OneTerm e) = term e
  arithmetic (tree.Signed sign line e) = Prefixed (Signs sign) line (term e)
  arithmetic (tree.Summed a op line b) = Joined (arithmetic a) (Adds op) line (term b)

  pub term : tree.Term → Expr
  term (tree.OneFactor e) = factor e
  term (tree.Multiplied a op line b) = Joined (term a) (Multiplies op) line (factor b)

  pub factor : tree.Factor → Expr
  factor (tree.OnePrimary e) = primary e
  factor (tree.Raised a line b) = Joined (factor a) Raises line (primary b)

  pub primary : tree.Primary → Expr
  primary (tree.Numeral value line) = Number value line
  primary (tree.Logical value line) = Logical value line
  primary (tree.Bracketed line e right) = Bracketed line (expr e)
  primary (tree.OneCall e) = call e
  primary (tree.OneElement e) = element e

  pub call : tree.Call → Expr
  call (tree.Alone name) = Alone (name_of name) name.line
  call (tree.WithActuals name left a as_ right) = Called (name_of name) name.line (MoreExprs (actual a) (actuals as_))

  pub element : tree.Element → Expr
  element (tree.Subscripted name left e es right) = Subscripted (name_of name) name.line (MoreExprs (expr e) (exprs es))

  pub actual : tree.Actual → Expr
  actual (tree.OneExpr e) = expr e
  actual (tree.AString line bytes right) = Quoted (bytes_of bytes) line

  pub actuals : tree.Actuals → Exprs
  actuals tree.NoActuals = NoExprs
  actuals (tree.MoreActuals comma a as_) = MoreExprs (actual a) (actuals as_)

  pub exprs : tree.Exprs → Exprs
  exprs tree.NoExprs = NoExprs
  exprs (tree.MoreExprs comma e es) = MoreExprs (expr e) (exprs es)

abbrev pub more_names : List tree.NextName → List tree.Name
more_names [] = []
more_names (next ∷ rest) = next.name ∷ more_names rest

abbrev pub name_list : tree.Names → List tree.Name
name_list (MkNames name rest) = name ∷ more_names rest

abbrev pub names : tree.Names → List Name
names ns = map name_of (name_list ns)

abbrev pub first_line : tree.Names → ℕ
first_line (MkNames name rest) = name.line

-- the kinds of a variable and of an array of a type, and of a procedure with a type or without
abbrev pub value_kind : ValueType → Kind
value_kind IntegerType = kind.Integer
value_kind BooleanType = kind.Boolean

abbrev pub array_kind : ValueType → Kind
array_kind IntegerType = kind.IntegerArray
array_kind BooleanType = kind.BooleanArray

abbrev pub function_kind : ValueType → Kind
function_kind IntegerType = kind.IntegerProcedure
function_kind BooleanType = kind.BooleanProcedure

abbrev pub procedure_kind : Option tree.TypeWord → Kind
procedure_kind None = kind.Procedure
procedure_kind (Some word) = function_kind word.type

-- a formal by value, or by name (Report 4.7.3.1 and 4.7.3.2)
abbrev pub passed_kind : ValueType → (by_value : Bool) → Kind
passed_kind IntegerType true = kind.IntegerByValue
passed_kind IntegerType false = kind.Integer
passed_kind BooleanType true = kind.BooleanByValue
passed_kind BooleanType false = kind.Boolean

abbrev pub specified_kind : tree.Specifier → (by_value : Bool) → Kind
specified_kind (tree.ValueSpec word) by_value = passed_kind word.type by_value
specified_kind (tree.ArraySpec word array) by_value = array_kind word.type
specified_kind (tree.LabelSpec label) by_value = kind.Label
specified_kind (tree.SwitchSpec switch) by_value = kind.Switch
specified_kind (tree.StringSpec string) by_value = kind.String
specified_kind (tree.ProcedureSpec procedure) by_value = kind.Procedure
specified_kind (tree.FunctionSpec word procedure) by_value = function_kind word.type

abbrev pub is_in : ℕ → List tree.Name → Bool
is_in x [] = false
is_in x (name ∷ rest) = (x == name.number) || is_in x rest

abbrev pub is_by_value : ℕ → tree.ValuePart → Bool
is_by_value x tree.NoValues = false
is_by_value x (tree.ValueList line ns semicolon) = is_in x (name_list ns)

-- by the first specification that names it; each formal of a tree without faults has one (Report 5.4.5)
abbrev pub formal_kind : ℕ → (by_value : Bool) → List tree.Specification → Kind
formal_kind x by_value [] = kind.Integer
formal_kind x by_value (specification ∷ rest) =
    if is_in x (name_list specification.names) then specified_kind specification.specifier by_value else formal_kind x by_value rest

abbrev pub formals_from : tree.ValuePart → List tree.Specification → List tree.Name → List Formal
formals_from listing specifications [] = []
formals_from listing specifications (name ∷ rest) =
    record { identifier = name.number; kind = formal_kind name.number (is_by_value name.number listing) specifications }
    ∷ formals_from listing specifications rest

abbrev pub formals : tree.Formals → tree.ValuePart → List tree.Specification → List Formal
formals tree.NoFormals listing specifications = []
formals (tree.FormalList left ns right) listing specifications = formals_from listing specifications (name_list ns)

-- the line of a procedure declaration's first symbol
abbrev pub heading_line : Option tree.TypeWord → (procedure : ℕ) → ℕ
heading_line None procedure = procedure
heading_line (Some word) procedure = word.line

abbrev pub bounds : tree.BoundPair → List tree.NextPair → Exprs
bounds (MkPair lower colon upper) [] = MoreExprs (expr lower) (MoreExprs (expr upper) NoExprs)
bounds (MkPair lower colon upper) (next ∷ rest) = MoreExprs (expr lower) (MoreExprs (expr upper) (bounds next.pair rest))

abbrev pub segment : Kind → tree.Segment → Declarations → Declarations
segment kind (MkSegment ns left pair pairs right) rest = Arrays kind (first_line ns) (names ns) (bounds pair pairs) rest

abbrev pub segments : Kind → List tree.NextSegment → Declarations → Declarations
segments kind [] rest = rest
segments kind (next ∷ others) rest = segment kind next.segment (segments kind others rest)

abbrev pub with_labels : List tree.LabelPlace → Statement → Statement
with_labels [] s = s
with_labels (label ∷ labels) s = Labelled (name_of label.name) (with_labels labels s)

abbrev pub left_side : tree.LeftSide → Expr
left_side (tree.OneName name) = Alone (name_of name) name.line
left_side (tree.LeftElement e) = element e

abbrev pub left_parts : List tree.LeftPart → Exprs
left_parts [] = NoExprs
left_parts (part ∷ parts) = MoreExprs (left_side part.left) (left_parts parts)

abbrev pub turns : tree.Turns → Element
turns (tree.OneValue e) = Once (expr e)
turns (tree.StepUntil a step b until c) = StepUntil (expr a) (expr b) (expr c)
turns (tree.WhileTrue e line f) = While (expr e) (expr f)

abbrev pub more_turns : List tree.NextTurns → List Element
more_turns [] = []
more_turns (next ∷ rest) = turns next.turns ∷ more_turns rest

abbrev mutual
  pub declaration : tree.Declaration → Declarations → Declarations
  declaration (tree.DeclareType word ns) rest = Variables (value_kind word.type) (names ns) rest
  declaration (tree.DeclareOwn own word ns) rest = rest
  declaration (tree.DeclareArrays word array first others) rest =
      segment (array_kind word.type) first (segments (array_kind word.type) others rest)
  declaration (tree.DeclareOwnArrays own word array first others) rest = rest
  declaration (tree.DeclareSwitch line name becomes e es) rest = Switch line (name_of name) (MoreExprs (expr e) (exprs es)) rest
  declaration (tree.DeclareProcedure (tree.MkHeading type line name fs semicolon listing specifications) body) rest =
      Procedure (heading_line type line) (procedure_kind type) name.number (name_of name) (formals fs listing specifications)
      (statement body) rest

  pub declarations : tree.Declarations → Declarations
  declarations tree.NoDeclarations = NoDeclarations
  declarations (tree.MoreDeclarations d semicolon rest) = declaration d (declarations rest)

  pub group : tree.Group → Statement
  group (tree.MkBlock line d semicolon ds s ss end) =
      Block line (declaration d (declarations ds)) (MoreStatements (statement s) (statements ss))
  group (tree.MkCompound line s ss end) = Compound (MoreStatements (statement s) (statements ss))

  pub statements : tree.Statements → Statements
  statements tree.NoStatements = NoStatements
  statements (tree.MoreStatements semicolon s ss) = MoreStatements (statement s) (statements ss)

  pub statement : tree.Statement → Statement
  statement (tree.OneUnconditional s) = unconditional s
  statement (tree.OneConditional s) = conditional s
  statement (tree.OneLoop s) = loop s

  pub unconditional : tree.Unconditional → Statement
  unconditional (tree.MkUnconditional labels s) = with_labels labels (basic s)

  pub basic : tree.Basic → Statement
  basic (tree.OneGroup s) = group s
  basic (tree.Assign part parts e) = Assign (MoreExprs (left_side part.left) (left_parts parts)) (expr e)
  basic (tree.Jump line e) = GoTo line (expr e)
  basic (tree.CallStatement e) = CallOf (call e)
  basic tree.Dummy = Dummy

  pub conditional : tree.Conditional → Statement
  conditional (tree.IfThen labels line test behind s) = with_labels labels (If (expr test) (unconditional s))
  conditional (tree.IfElse labels line test behind s else_line other) =
      with_labels labels (IfElse (expr test) (unconditional s) (statement other))
  conditional (tree.IfLoop labels line test behind s) = with_labels labels (If (expr test) (loop s))

  pub loop : tree.Loop → Statement
  loop (tree.MkLoop labels line name becomes first others doing s) =
      with_labels labels (For line (name_of name) name.line (turns first ∷ more_turns others) (statement s))

-- the line of a group's `_begin`
abbrev pub begin_line : tree.Group → ℕ
begin_line (tree.MkBlock line d semicolon ds s ss end) = line
begin_line (tree.MkCompound line s ss end) = line

abbrev pub plain : tree.Program → Whole
plain (tree.MkProgram labels s end) = record { line = begin_line s; statement = with_labels labels (group s) }
