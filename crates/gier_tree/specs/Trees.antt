-- The trees of programs (Revised Report 2 to 5, cut to the profile): one kind of node for each rule of the grammar. A node
-- keeps the line of each symbol that it writes, in the order of the symbols, so that trees of one spelling are equal.
-- How a tree is spelled stands in Spell; what it means isn't told here.
--
-- A constructor whose name begins with One only passes through: its node is what stands below. Operators of one rule
-- group from the left, as in the Report: the left operand is of the node's own rule.
use Rattle.std.specs.Prelude.{ℕ, zero, suc, Bool, List, Option}

-- an identifier: its number, and the line where it stands
pub record Name : Type 0 where
  pub number : ℕ
  pub line : ℕ

-- a byte of a string
pub record Byte : Type 0 where
  pub value : ℕ
  pub line : ℕ

-- `+` and `-`; `*` and `_div`; the six relations (3.3.1, 3.4.1)
pub data Adding : Type 0 where
  Add : Adding
  Subtract : Adding

pub data Multiplying : Type 0 where
  Multiply : Multiplying
  Divide : Multiplying

pub data Comparing : Type 0 where
  LessThan : Comparing
  AtMost : Comparing
  EqualTo : Comparing
  AtLeast : Comparing
  MoreThan : Comparing
  Unequal : Comparing

-- expressions (3)
mutual
  pub data Expr : Type 0 where
    OneSimple : Simple → Expr
    IfExpr : (if : ℕ) → Expr → (then : ℕ) → Simple → (else : ℕ) → Expr → Expr

  pub data Simple : Type 0 where
    OneImplication : Implication → Simple
    Equivalent : Simple → (line : ℕ) → Implication → Simple

  pub data Implication : Type 0 where
    OneDisjunction : Disjunction → Implication
    Implies : Implication → (line : ℕ) → Disjunction → Implication

  pub data Disjunction : Type 0 where
    OneConjunction : Conjunction → Disjunction
    Either : Disjunction → (line : ℕ) → Conjunction → Disjunction

  pub data Conjunction : Type 0 where
    OneNegation : Negation → Conjunction
    Both : Conjunction → (line : ℕ) → Negation → Conjunction

  pub data Negation : Type 0 where
    OneRelation : Relation → Negation
    Negated : (line : ℕ) → Relation → Negation

  pub data Relation : Type 0 where
    OneArithmetic : Arithmetic → Relation
    Compared : Arithmetic → Comparing → (line : ℕ) → Arithmetic → Relation

  -- a leading sign takes the first term alone
  pub data Arithmetic : Type 0 where
    OneTerm : Term → Arithmetic
    Signed : Adding → (line : ℕ) → Term → Arithmetic
    Summed : Arithmetic → Adding → (line : ℕ) → Term → Arithmetic

  pub data Term : Type 0 where
    OneFactor : Factor → Term
    Multiplied : Term → Multiplying → (line : ℕ) → Factor → Term

  pub data Factor : Type 0 where
    OnePrimary : Primary → Factor
    Raised : Factor → (line : ℕ) → Primary → Factor

  pub data Primary : Type 0 where
    Numeral : (value line : ℕ) → Primary
    Logical : Bool → (line : ℕ) → Primary
    Bracketed : (left : ℕ) → Expr → (right : ℕ) → Primary
    OneCall : Call → Primary
    OneElement : Element → Primary

  -- an identifier alone, which need not be a call, or one with actuals (3.2, 4.7)
  pub data Call : Type 0 where
    Alone : Name → Call
    WithActuals : Name → (left : ℕ) → Actual → Actuals → (right : ℕ) → Call

  -- an array element or a switch designator (3.1, 3.5)
  pub data Element : Type 0 where
    Subscripted : Name → (left : ℕ) → Expr → Exprs → (right : ℕ) → Element

  pub data Actual : Type 0 where
    OneExpr : Expr → Actual
    AString : (left : ℕ) → List Byte → (right : ℕ) → Actual

  pub data Actuals : Type 0 where
    NoActuals : Actuals
    MoreActuals : (comma : ℕ) → Actual → Actuals → Actuals

  pub data Exprs : Type 0 where
    NoExprs : Exprs
    MoreExprs : (comma : ℕ) → Expr → Exprs → Exprs

-- the expression that is one primary alone
abbrev pub only : Primary → Expr
only p = OneSimple (OneImplication (OneDisjunction (OneConjunction (OneNegation (OneRelation (OneArithmetic (OneTerm (OneFactor
    (OnePrimary p)))))))))

-- identifiers with commas between them
pub record NextName : Type 0 where
  pub comma : ℕ
  pub name : Name

pub data Names : Type 0 where
  MkNames : Name → List NextName → Names

-- the two types of values (5.1), where the type's word stands
pub data ValueType : Type 0 where
  IntegerType : ValueType
  BooleanType : ValueType

pub record TypeWord : Type 0 where
  pub type : ValueType
  pub line : ℕ

-- a bound pair, and an array segment (5.2)
pub data BoundPair : Type 0 where
  MkPair : Expr → (colon : ℕ) → Expr → BoundPair

pub record NextPair : Type 0 where
  pub comma : ℕ
  pub pair : BoundPair

pub data Segment : Type 0 where
  MkSegment : Names → (left : ℕ) → BoundPair → List NextPair → (right : ℕ) → Segment

pub record NextSegment : Type 0 where
  pub comma : ℕ
  pub segment : Segment

-- the same of an own array, whose bounds are constants: a number with a sign or without
pub data Constant : Type 0 where
  Unsigned : (value line : ℕ) → Constant
  WithSign : Adding → (sign : ℕ) → (value line : ℕ) → Constant

pub data FixedPair : Type 0 where
  MkFixedPair : Constant → (colon : ℕ) → Constant → FixedPair

pub data Further (T : Type 0) : Type 0 where
  NoFurther : Further T
  MoreFurther : (comma : ℕ) → FixedPair → T → Further T

-- at most so many more pairs; an own array has at most 30 in all
abbrev pub FurtherPairs : ℕ → Type 0
FurtherPairs zero = Unit {0}
FurtherPairs (suc n) = Further (FurtherPairs n)

abbrev pub most_further : ℕ
most_further = 29

pub data FixedSegment : Type 0 where
  MkFixed : Names → (left : ℕ) → FixedPair → FurtherPairs most_further → (right : ℕ) → FixedSegment

pub record NextFixed : Type 0 where
  pub comma : ℕ
  pub segment : FixedSegment

-- the heading of a procedure (5.4)
pub data Formals : Type 0 where
  NoFormals : Formals
  FormalList : (left : ℕ) → Names → (right : ℕ) → Formals

pub data ValuePart : Type 0 where
  NoValues : ValuePart
  ValueList : (value : ℕ) → Names → (semicolon : ℕ) → ValuePart

pub data Specifier : Type 0 where
  ValueSpec : TypeWord → Specifier
  ArraySpec : TypeWord → (array : ℕ) → Specifier
  LabelSpec : (label : ℕ) → Specifier
  SwitchSpec : (switch : ℕ) → Specifier
  StringSpec : (string : ℕ) → Specifier
  ProcedureSpec : (procedure : ℕ) → Specifier
  FunctionSpec : TypeWord → (procedure : ℕ) → Specifier

pub record Specification : Type 0 where
  pub specifier : Specifier
  pub names : Names
  pub semicolon : ℕ

pub data Heading : Type 0 where
  MkHeading : Option TypeWord → (procedure : ℕ) → Name → Formals → (semicolon : ℕ) → ValuePart → List Specification → Heading

-- a label with its colon (4.1)
pub record LabelPlace : Type 0 where
  pub name : Name
  pub colon : ℕ

-- a left part with its `:=` (4.2)
pub data LeftSide : Type 0 where
  OneName : Name → LeftSide
  LeftElement : Element → LeftSide

pub record LeftPart : Type 0 where
  pub left : LeftSide
  pub becomes : ℕ

-- an element of a for list (4.6)
pub data Turns : Type 0 where
  OneValue : Expr → Turns
  StepUntil : Expr → (step : ℕ) → Expr → (until : ℕ) → Expr → Turns
  WhileTrue : Expr → (while : ℕ) → Expr → Turns

pub record NextTurns : Type 0 where
  pub comma : ℕ
  pub turns : Turns

-- declarations (5) and statements (4); where own quantities have been hoisted, an own declaration stays in its place and
-- declares nothing
mutual
  pub data Declaration : Type 0 where
    DeclareType : TypeWord → Names → Declaration
    DeclareOwn : (own : ℕ) → TypeWord → Names → Declaration
    DeclareArrays : TypeWord → (array : ℕ) → Segment → List NextSegment → Declaration
    DeclareOwnArrays : (own : ℕ) → TypeWord → (array : ℕ) → FixedSegment → List NextFixed → Declaration
    DeclareSwitch : (switch : ℕ) → Name → (becomes : ℕ) → Expr → Exprs → Declaration
    DeclareProcedure : Heading → Statement → Declaration

  pub data Declarations : Type 0 where
    NoDeclarations : Declarations
    MoreDeclarations : Declaration → (semicolon : ℕ) → Declarations → Declarations

  -- a block or a compound statement (4.1)
  pub data Group : Type 0 where
    MkBlock : (begin : ℕ) → Declaration → (semicolon : ℕ) → Declarations → Statement → Statements → (end : ℕ) → Group
    MkCompound : (begin : ℕ) → Statement → Statements → (end : ℕ) → Group

  pub data Statements : Type 0 where
    NoStatements : Statements
    MoreStatements : (semicolon : ℕ) → Statement → Statements → Statements

  pub data Statement : Type 0 where
    OneUnconditional : Unconditional → Statement
    OneConditional : Conditional → Statement
    OneLoop : Loop → Statement

  pub data Unconditional : Type 0 where
    MkUnconditional : List LabelPlace → Basic → Unconditional

  pub data Basic : Type 0 where
    OneGroup : Group → Basic
    Assign : LeftPart → List LeftPart → Expr → Basic
    Jump : (goto : ℕ) → Expr → Basic
    CallStatement : Call → Basic
    Dummy : Basic

  -- a conditional statement (4.5): what stands behind `_then` is a for statement, or an unconditional one
  pub data Conditional : Type 0 where
    IfThen : List LabelPlace → (if : ℕ) → Expr → (then : ℕ) → Unconditional → Conditional
    IfElse : List LabelPlace → (if : ℕ) → Expr → (then : ℕ) → Unconditional → (else : ℕ) → Statement → Conditional
    IfLoop : List LabelPlace → (if : ℕ) → Expr → (then : ℕ) → Loop → Conditional

  -- a for statement (4.6)
  pub data Loop : Type 0 where
    MkLoop : List LabelPlace → (for : ℕ) → Name → (becomes : ℕ) → Turns → List NextTurns → (doing : ℕ) → Statement → Loop

-- a program, with the line of the text's end
pub data Program : Type 0 where
  MkProgram : List LabelPlace → Group → (end : ℕ) → Program
