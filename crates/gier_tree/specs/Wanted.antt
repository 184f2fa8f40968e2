-- What may be wanted next where a program is read from left to right: the items, and for each the tree, or part of one, that
-- stands there. An operator and its right operand are read behind what they are joined to, so a level of operators is
-- read as its first operand and the list of those that follow; the functions with_ and shut_ make trees of them.
use Rattle.std.specs.Prelude.{ℕ, List, [], ◌∷◌}
use Rattle.gier_tree.specs.Signs.{Sign}
use Rattle.gier_tree.specs.Trees.{Name, Byte, Adding, Multiplying, Comparing, Expr, Simple, OneImplication, Equivalent}
use Rattle.gier_tree.specs.Trees.{Implication, OneDisjunction, Implies, Disjunction, OneConjunction, Either, Conjunction}
use Rattle.gier_tree.specs.Trees.{OneNegation, Both, Negation, OneRelation, Negated, Relation, OneArithmetic, Compared}
use Rattle.gier_tree.specs.Trees.{Arithmetic, OneTerm, Signed, Summed, Term, OneFactor, Multiplied, Factor, OnePrimary, Raised}
use Rattle.gier_tree.specs.Trees.{Primary, Actual, Actuals, Exprs, NextName, Names, TypeWord, NextPair, Segment, NextSegment}
use Rattle.gier_tree.specs.Trees.{Constant, FurtherPairs, FixedSegment, NextFixed, Formals, ValuePart, Specification, LeftPart}
use Rattle.gier_tree.specs.Trees.{NextTurns, Declarations, Statements, Statement, Unconditional, Loop, Program}

-- an operand with the operator before it
pub record Next (T : Type 0) : Type 0 where
  pub line : ℕ
  pub operand : T

pub record NextBy (Op T : Type 0) : Type 0 where
  pub operator : Op
  pub line : ℕ
  pub operand : T

-- the rest of a list, and the symbol that ends it
pub record Ended (T : Type 0) : Type 0 where
  pub more : T
  pub end : ℕ

pub data MayBeNot : Type 0 where
  NoNot : MayBeNot
  ANot : (line : ℕ) → MayBeNot

pub data MayBeSign : Type 0 where
  NoSign : MayBeSign
  ASign : Adding → (line : ℕ) → MayBeSign

pub data MayBeRelation : Type 0 where
  NoRelation : MayBeRelation
  ARelation : Comparing → (line : ℕ) → Arithmetic → MayBeRelation

pub data Part : Type 0 where
  NoPart : Part
  SomeSubscripts : (left : ℕ) → Expr → Ended Exprs → Part
  SomeActuals : (left : ℕ) → Actual → Ended Actuals → Part

-- what stands behind the first operand of each level
abbrev pub Powers : Type 0
Powers = List (Next Primary)

abbrev pub Products : Type 0
Products = List (NextBy Multiplying Factor)

abbrev pub Sums : Type 0
Sums = List (NextBy Adding Term)

abbrev pub Ands : Type 0
Ands = List (Next Negation)

abbrev pub Ors : Type 0
Ors = List (Next Conjunction)

abbrev pub Impls : Type 0
Impls = List (Next Disjunction)

abbrev pub Equivs : Type 0
Equivs = List (Next Implication)

-- what stands behind the first operand of all levels
pub record Tails : Type 0 where
  pub powers : Powers
  pub products : Products
  pub sums : Sums
  pub relation : MayBeRelation
  pub ands : Ands
  pub ors : Ors
  pub impls : Impls
  pub equivs : Equivs

-- what stands behind `:=`: more left parts, and the expression
pub record Right : Type 0 where
  pub lefts : List LeftPart
  pub value : Expr

-- behind an element that stands behind `:=`
pub data AfterElement : Type 0 where
  ElementIsLeft : (becomes : ℕ) → Right → AfterElement
  ElementIsOperand : Tails → AfterElement

-- behind a name that stands behind `:=`
pub data AfterRight : Type 0 where
  NameIsLeft : (becomes : ℕ) → Right → AfterRight
  NameIsOperand : Tails → AfterRight
  NameHasSubscripts : (left : ℕ) → Expr → Ended Exprs → AfterElement → AfterRight
  NameHasActuals : (left : ℕ) → Actual → Ended Actuals → Tails → AfterRight

-- behind a name that begins a statement
pub data AfterName : Type 0 where
  NameLabels : (colon : ℕ) → Statement → AfterName
  NameAssigned : (becomes : ℕ) → Right → AfterName
  ElementAssigned : (left : ℕ) → Expr → Ended Exprs → (becomes : ℕ) → Right → AfterName
  NameCalled : (left : ℕ) → Actual → Ended Actuals → AfterName
  NameAlone : AfterName

-- what stands behind `_then` in a statement
pub data MayBeElse : Type 0 where
  NoElse : MayBeElse
  AnElse : (line : ℕ) → Statement → MayBeElse

pub data Branch : Type 0 where
  BranchLoop : Loop → Branch
  BranchUnconditional : Unconditional → MayBeElse → Branch

pub data AfterBranchName : Type 0 where
  BranchLabels : (colon : ℕ) → Branch → AfterBranchName
  BranchAssigned : (becomes : ℕ) → Right → MayBeElse → AfterBranchName
  BranchElement : (left : ℕ) → Expr → Ended Exprs → (becomes : ℕ) → Right → MayBeElse → AfterBranchName
  BranchCalled : (left : ℕ) → Actual → Ended Actuals → MayBeElse → AfterBranchName
  BranchAlone : MayBeElse → AfterBranchName

pub data MayBeStep : Type 0 where
  NoStep : MayBeStep
  AStep : (step : ℕ) → Expr → (until : ℕ) → Expr → MayBeStep
  AWhile : (line : ℕ) → Expr → MayBeStep

-- behind a type, and behind `_own` and a type, in a declaration
pub data AfterType : Type 0 where
  TypeNames : Names → AfterType
  TypeArrays : (array : ℕ) → Segment → List NextSegment → AfterType
  TypeProcedure : (procedure : ℕ) → Name → Formals → (semicolon : ℕ) → ValuePart → List Specification → Statement → AfterType

pub data AfterOwnType : Type 0 where
  OwnNames : Names → AfterOwnType
  OwnArrays : (array : ℕ) → FixedSegment → List NextFixed → AfterOwnType

-- behind a type in a specification
pub data MayBeWord : Type 0 where
  NoWord : MayBeWord
  ArrayWord : (line : ℕ) → MayBeWord
  ProcedureWord : (line : ℕ) → MayBeWord

-- a number in a place where nothing else may stand
pub record NumberPlace : Type 0 where
  pub value : ℕ
  pub line : ℕ

pub data Item : Type 0 where
  -- this symbol
  Want : Sign → Item
  WantName : Item
  WantNumber : Item
  WantExpr : Item
  WantSimple : Item
  MayNot : Item
  MaySign : Item
  WantPrimary : Item
  MayPower : Item
  MayTimes : Item
  MaySum : Item
  MayRelation : Item
  MayAnd : Item
  MayOr : Item
  MayImpl : Item
  MayEquiv : Item
  MayPart : Item
  -- `]`, or `,` and one subscript more
  WantSubscripts : Item
  WantActual : Item
  -- `)`, or `,` and one actual more
  WantActuals : Item
  -- bytes of a string, and its end
  WantBytes : Item
  WantRight : Item
  WantAfterRight : Item
  WantAfterElement : Item
  MayNames : Item
  MayExprs : Item
  WantType : Item
  WantAfterType : Item
  WantAfterOwnType : Item
  WantSegment : Item
  WantPairs : Item
  MaySegments : Item
  WantConstant : Item
  WantFixed : Item
  -- `]`, or `,` and one pair more, where so many are allowed
  WantFurther : ℕ → Item
  MayFixed : Item
  MayFormals : Item
  MayValues : Item
  MaySpecifications : Item
  MayWord : Item
  MayDeclarations : Item
  WantStatement : Item
  WantAfterName : Item
  WantBranch : Item
  WantAfterBranchName : Item
  MayElse : Item
  MayStep : Item
  -- `_do`, or `,` and one element more
  WantTurns : Item
  -- `_end`, or `;` and one statement more
  WantStatements : Item
  WantProgram : Item

-- what stands at an item's place
abbrev pub TreeOf : Item → Type 0
TreeOf (Want sign) = ℕ
TreeOf WantName = Name
TreeOf WantNumber = NumberPlace
TreeOf WantExpr = Expr
TreeOf WantSimple = Simple
TreeOf MayNot = MayBeNot
TreeOf MaySign = MayBeSign
TreeOf WantPrimary = Primary
TreeOf MayPower = Powers
TreeOf MayTimes = Products
TreeOf MaySum = Sums
TreeOf MayRelation = MayBeRelation
TreeOf MayAnd = Ands
TreeOf MayOr = Ors
TreeOf MayImpl = Impls
TreeOf MayEquiv = Equivs
TreeOf MayPart = Part
TreeOf WantSubscripts = Ended Exprs
TreeOf WantActual = Actual
TreeOf WantActuals = Ended Actuals
TreeOf WantBytes = Ended (List Byte)
TreeOf WantRight = Right
TreeOf WantAfterRight = AfterRight
TreeOf WantAfterElement = AfterElement
TreeOf MayNames = List NextName
TreeOf MayExprs = Exprs
TreeOf WantType = TypeWord
TreeOf WantAfterType = AfterType
TreeOf WantAfterOwnType = AfterOwnType
TreeOf WantSegment = Segment
TreeOf WantPairs = Ended (List NextPair)
TreeOf MaySegments = List NextSegment
TreeOf WantConstant = Constant
TreeOf WantFixed = FixedSegment
TreeOf (WantFurther n) = Ended (FurtherPairs n)
TreeOf MayFixed = List NextFixed
TreeOf MayFormals = Formals
TreeOf MayValues = ValuePart
TreeOf MaySpecifications = List Specification
TreeOf MayWord = MayBeWord
TreeOf MayDeclarations = Declarations
TreeOf WantStatement = Statement
TreeOf WantAfterName = AfterName
TreeOf WantBranch = Branch
TreeOf WantAfterBranchName = AfterBranchName
TreeOf MayElse = MayBeElse
TreeOf MayStep = MayBeStep
TreeOf WantTurns = Ended (List NextTurns)
TreeOf WantStatements = Ended Statements
TreeOf WantProgram = Program

-- the same of a list of items
abbrev pub Trees : List Item → Type 0
Trees [] = Unit {0}
Trees (i ∷ st) = TreeOf i × Trees st

-- the items of each level
abbrev pub factor_items : List Item
factor_items = WantPrimary ∷ MayPower ∷ []

abbrev pub term_items : List Item
term_items = WantPrimary ∷ MayPower ∷ MayTimes ∷ []

abbrev pub arithmetic_items : List Item
arithmetic_items = MaySign ∷ WantPrimary ∷ MayPower ∷ MayTimes ∷ MaySum ∷ []

abbrev pub negation_items : List Item
negation_items = MayNot ∷ MaySign ∷ WantPrimary ∷ MayPower ∷ MayTimes ∷ MaySum ∷ MayRelation ∷ []

abbrev pub tail_items : List Item
tail_items = MayPower ∷ MayTimes ∷ MaySum ∷ MayRelation ∷ MayAnd ∷ MayOr ∷ MayImpl ∷ MayEquiv ∷ []

-- operands joined from the left
abbrev pub with_powers : Factor → Powers → Factor
with_powers f [] = f
with_powers f (n ∷ ns) = with_powers (Raised f n.line n.operand) ns

abbrev pub with_products : Term → Products → Term
with_products t [] = t
with_products t (n ∷ ns) = with_products (Multiplied t n.operator n.line n.operand) ns

abbrev pub with_sums : Arithmetic → Sums → Arithmetic
with_sums a [] = a
with_sums a (n ∷ ns) = with_sums (Summed a n.operator n.line n.operand) ns

abbrev pub with_relation : Arithmetic → MayBeRelation → Relation
with_relation a NoRelation = OneArithmetic a
with_relation a (ARelation o l b) = Compared a o l b

abbrev pub with_ands : Conjunction → Ands → Conjunction
with_ands c [] = c
with_ands c (n ∷ ns) = with_ands (Both c n.line n.operand) ns

abbrev pub with_ors : Disjunction → Ors → Disjunction
with_ors d [] = d
with_ors d (n ∷ ns) = with_ors (Either d n.line n.operand) ns

abbrev pub with_impls : Implication → Impls → Implication
with_impls i [] = i
with_impls i (n ∷ ns) = with_impls (Implies i n.line n.operand) ns

abbrev pub with_equivs : Simple → Equivs → Simple
with_equivs s [] = s
with_equivs s (n ∷ ns) = with_equivs (Equivalent s n.line n.operand) ns

abbrev pub with_sign : MayBeSign → Term → Arithmetic
with_sign NoSign t = OneTerm t
with_sign (ASign o l) t = Signed o l t

abbrev pub with_not : MayBeNot → Relation → Negation
with_not NoNot r = OneRelation r
with_not (ANot l) r = Negated l r

-- what stands at the items of a level is one tree; what stands at the items below them stays
abbrev pub shut_factor : {R : Type 0} → Primary × (Powers × R) → Factor × R
shut_factor ts = (with_powers (OnePrimary ts.0) ts.1.0, ts.1.1)

abbrev pub shut_term : {R : Type 0} → Primary × (Powers × (Products × R)) → Term × R
shut_term ts = let f = shut_factor ts in (with_products (OneFactor f.0) f.1.0, f.1.1)

abbrev pub shut_arithmetic : {R : Type 0} → MayBeSign × (Primary × (Powers × (Products × (Sums × R)))) → Arithmetic × R
shut_arithmetic ts = let t = shut_term ts.1 in (with_sums (with_sign ts.0 t.0) t.1.0, t.1.1)

abbrev pub shut_relation : {R : Type 0} → MayBeSign × (Primary × (Powers × (Products × (Sums × (MayBeRelation × R))))) → Relation
    × R
shut_relation ts = let a = shut_arithmetic ts in (with_relation a.0 a.1.0, a.1.1)

abbrev pub shut_negation : {R : Type 0} → MayBeNot
    × (MayBeSign × (Primary × (Powers × (Products × (Sums × (MayBeRelation × R)))))) → Negation × R
shut_negation ts = let r = shut_relation ts.1 in (with_not ts.0 r.0, r.1)

abbrev pub shut_conjunction : {R : Type 0} → MayBeNot
    × (MayBeSign × (Primary × (Powers × (Products × (Sums × (MayBeRelation × (Ands × R))))))) → Conjunction × R
shut_conjunction ts = let n = shut_negation ts in (with_ands (OneNegation n.0) n.1.0, n.1.1)

abbrev pub shut_disjunction : {R : Type 0} → MayBeNot
    × (MayBeSign × (Primary × (Powers × (Products × (Sums × (MayBeRelation × (Ands × (Ors × R)))))))) → Disjunction × R
shut_disjunction ts = let c = shut_conjunction ts in (with_ors (OneConjunction c.0) c.1.0, c.1.1)

abbrev pub shut_implication : {R : Type 0} → MayBeNot
    × (MayBeSign × (Primary × (Powers × (Products × (Sums × (MayBeRelation × (Ands × (Ors × (Impls × R))))))))) → Implication × R
shut_implication ts = let d = shut_disjunction ts in (with_impls (OneDisjunction d.0) d.1.0, d.1.1)

abbrev pub shut_simple : {R : Type 0} → MayBeNot × (MayBeSign × (Primary × (Powers × (Products × (Sums × (MayBeRelation × (Ands
    × (Ors × (Impls × (Equivs × R)))))))))) → Simple × R
shut_simple ts = let i = shut_implication ts in (with_equivs (OneImplication i.0) i.1.0, i.1.1)

abbrev pub tails_of : Trees tail_items → Tails
tails_of ts = record {
  powers = ts.0;
  products = ts.1.0;
  sums = ts.1.1.0;
  relation = ts.1.1.1.0;
  ands = ts.1.1.1.1.0;
  ors = ts.1.1.1.1.1.0;
  impls = ts.1.1.1.1.1.1.0;
  equivs = ts.1.1.1.1.1.1.1.0;
}

-- a simple expression that begins with this operand
abbrev pub simple_of : MayBeNot → MayBeSign → Primary → Trees tail_items → Simple
simple_of n g p ts = (shut_simple (n, (g, (p, ts)))).0

abbrev pub simple_from : Primary → Tails → Simple
simple_from p t =
    simple_of NoNot NoSign p (t.powers, (t.products, (t.sums, (t.relation, (t.ands, (t.ors, (t.impls, (t.equivs, tt))))))))
