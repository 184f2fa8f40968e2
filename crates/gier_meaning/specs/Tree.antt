-- The trees that are executed (Report 3, 4, 5). They are those of gier_tree without the symbols that only part others, and
-- expressions of all rules are of one type; Plain makes them. In the place of an identifier stands a name: the identifier, or
-- what replaced it when the tree was closed (Report 4.7.3.2 and 4.7.3.3). A node keeps the line of its first symbol, or of
-- its operator.
use Rattle.std.specs.Prelude.{ℕ, Bool, List}
use Rattle.gier_agree.specs.declared.kind.Kind.{Kind}
use Rattle.gier_tree.specs.declared.kind.Kind.{Kind as Standard}
use Rattle.gier_tree.specs.Trees.{Adding, Multiplying, Comparing}

-- how the actual of a formal by name is meant: only as an expression, as a variable, as a label, or as a formal by name of the
-- place of the call
pub data Meant : Type 0 where
  AsExpression AsVariable AsLabel AsFormal : Meant

pub data Operator : Type 0 where
  Adds : Adding → Operator
  Multiplies : Multiplying → Operator
  Raises : Operator
  Compares : Comparing → Operator
  Ands Ors Implies Equals : Operator

-- what stands before one operand
pub data Prefix : Type 0 where
  Signs : Adding → Prefix
  Nots : Prefix

-- A kind, here and below, is that of gier_agree: of an actual that is this name or expression.
mutual
  pub data Name : Type 0 where
    Identifier : ℕ → Name
    -- a variable, an array, a label or a switch
    AnEntity : ℕ → Name
    -- a declared procedure, and one that a formal stands for
    AProcedure : ℕ → Name
    AFormalProcedure : ℕ → Name
    AText : List ℕ → Name
    AStandard : Standard → Name
    -- the actual of a formal by name, a closed expression
    AnActual : Meant → Kind → Expr → Name

  pub data Expr : Type 0 where
    Number : (value line : ℕ) → Expr
    Logical : Bool → (line : ℕ) → Expr
    Alone : Name → (line : ℕ) → Expr
    Subscripted : Name → (line : ℕ) → Exprs → Expr
    Called : Name → (line : ℕ) → Exprs → Expr
    Bracketed : (line : ℕ) → Expr → Expr
    Prefixed : Prefix → (line : ℕ) → Expr → Expr
    Joined : Expr → Operator → (line : ℕ) → Expr → Expr
    IfExpr : (line : ℕ) → Expr → Expr → Expr → Expr
    -- a string, which only an actual may be
    Quoted : List ℕ → (line : ℕ) → Expr

  pub data Exprs : Type 0 where
    NoExprs : Exprs
    MoreExprs : Expr → Exprs → Exprs

-- an element of a for list (Report 4.6.2)
pub data Element : Type 0 where
  Once : Expr → Element
  StepUntil : Expr → Expr → Expr → Element
  While : Expr → Expr → Element

pub record Formal : Type 0 where
  pub identifier : ℕ
  pub kind : Kind

mutual
  pub data Statement : Type 0 where
    Labelled : Name → Statement → Statement
    Dummy : Statement
    Compound : Statements → Statement
    Block : (line : ℕ) → Declarations → Statements → Statement
    -- its left parts and its right side
    Assign : Exprs → Expr → Statement
    GoTo : (line : ℕ) → Expr → Statement
    CallOf : Expr → Statement
    If : Expr → Statement → Statement
    IfElse : Expr → Statement → Statement → Statement
    -- the controlled variable with its line, the for list, the controlled statement
    For : (line : ℕ) → Name → (variable : ℕ) → List Element → Statement → Statement

  pub data Statements : Type 0 where
    NoStatements : Statements
    MoreStatements : Statement → Statements → Statements

  pub data Declarations : Type 0 where
    NoDeclarations : Declarations
    Variables : Kind → List Name → Declarations → Declarations
    -- one segment; the bounds are the lower and the upper one of each pair
    Arrays : Kind → (line : ℕ) → List Name → Exprs → Declarations → Declarations
    Switch : (line : ℕ) → Name → Exprs → Declarations → Declarations
    -- its own identifier, which its left parts keep, and its declaring place
    Procedure : (line : ℕ) → Kind → (own : ℕ) → Name → List Formal → Statement → Declarations → Declarations

-- the statement of a program, with the line of its first symbol behind the labels
pub record Whole : Type 0 where
  pub line : ℕ
  pub statement : Statement
