-- Which trees use only the part of the language for which the law is proved. It is told by their form alone: what an identifier is
-- in its place isn't asked, for a program without faults has there what the place takes. Of the standard procedures the identifiers
-- themselves are told, whose numbers are those of their order in the outermost scope.
use Rattle.std.specs.Prelude.{◌≡◌, ◌≢◌, ◌<◌, ◌^◌, ◌⊎◌, ℕ, List, [], ◌∷◌, ⊤}
use Rattle.gier_tree.specs.Trees.{Expr, OneSimple, IfExpr, Simple, OneImplication, Equivalent, Implication, OneDisjunction}
use Rattle.gier_tree.specs.Trees.{Implies, Disjunction, OneConjunction, Either, Conjunction, OneNegation, Both, Negation}
use Rattle.gier_tree.specs.Trees.{OneRelation, Negated, Relation, OneArithmetic, Compared, Arithmetic, OneTerm, Signed, Summed}
use Rattle.gier_tree.specs.Trees.{Term, OneFactor, Multiplied, Factor, OnePrimary, Raised, Primary, Numeral, Logical, Bracketed}
use Rattle.gier_tree.specs.Trees.{OneCall, OneElement, Call, Alone, WithActuals, OneExpr, NoActuals}
use Rattle.gier_tree.specs.Trees.{Declaration, Declarations}
use Rattle.gier_tree.specs.Trees.{LeftSide, OneName, LeftElement, LeftPart, Group, MkBlock, MkCompound, Statements, NoStatements}
use Rattle.gier_tree.specs.Trees.{MoreStatements, Statement, OneUnconditional, OneConditional, OneLoop, Unconditional}
use Rattle.gier_tree.specs.Trees.{MkUnconditional, Basic, OneGroup, Assign, Jump, CallStatement, Dummy, Conditional, IfThen}
use Rattle.gier_tree.specs.Trees.{IfElse, IfLoop, Program, MkProgram}
use Rattle.gier_flat.specs.FairScope.{IsSimple, AreSimple}

abbrev pub outinteger : ℕ
outinteger = 0

abbrev pub outcr : ℕ
outcr = 2

abbrev pub outchar : ℕ
outchar = 3

abbrev pub inchar : ℕ
inchar = 5

-- expressions and designational expressions: no elements, and numbers that a word holds
abbrev mutual
  pub PartExpr : Expr → Type 0
  PartExpr (OneSimple s) = PartSimple s
  PartExpr (IfExpr l c m s n e) = PartExpr c × PartSimple s × PartExpr e

  pub PartSimple : Simple → Type 0
  PartSimple (OneImplication y) = PartImplication y
  PartSimple (Equivalent s l i) = PartSimple s × PartImplication i

  pub PartImplication : Implication → Type 0
  PartImplication (OneDisjunction y) = PartDisjunction y
  PartImplication (Implies i l d) = PartImplication i × PartDisjunction d

  pub PartDisjunction : Disjunction → Type 0
  PartDisjunction (OneConjunction y) = PartConjunction y
  PartDisjunction (Either d l c) = PartDisjunction d × PartConjunction c

  pub PartConjunction : Conjunction → Type 0
  PartConjunction (OneNegation y) = PartNegation y
  PartConjunction (Both c l n) = PartConjunction c × PartNegation n

  pub PartNegation : Negation → Type 0
  PartNegation (OneRelation y) = PartRelation y
  PartNegation (Negated l r) = PartRelation r

  pub PartRelation : Relation → Type 0
  PartRelation (OneArithmetic y) = PartArithmetic y
  PartRelation (Compared a o l b) = PartArithmetic a × PartArithmetic b

  pub PartArithmetic : Arithmetic → Type 0
  PartArithmetic (OneTerm y) = PartTerm y
  PartArithmetic (Signed o l u) = PartTerm u
  PartArithmetic (Summed a o l u) = PartArithmetic a × PartTerm u

  pub PartTerm : Term → Type 0
  PartTerm (OneFactor y) = PartFactor y
  PartTerm (Multiplied u o l f) = PartTerm u × PartFactor f

  pub PartFactor : Factor → Type 0
  PartFactor (OnePrimary y) = PartPrimary y
  PartFactor (Raised f l q) = PartFactor f × PartPrimary q

  pub PartPrimary : Primary → Type 0
  PartPrimary (Numeral n l) = n < 2 ^ 39
  PartPrimary (Logical b l) = ⊤
  PartPrimary (Bracketed l e m) = PartExpr e
  PartPrimary (OneCall c) = PartCall c
  PartPrimary (OneElement e) = ⊥

  -- an identifier alone, but not the procedure that reads a character, and a function of one expression
  pub PartCall : Call → Type 0
  PartCall (Alone x) = x.number ≢ inchar
  PartCall (WithActuals x l (OneExpr e) NoActuals m) = PartExpr e
  PartCall (WithActuals x l a more m) = ⊥

abbrev pub PartLeft : LeftSide → Type 0
PartLeft (OneName x) = ⊤
PartLeft (LeftElement e) = ⊥

abbrev pub PartLefts : List LeftPart → Type 0
PartLefts [] = ⊤
PartLefts (q ∷ qs) = PartLeft q.left × PartLefts qs

-- what is printed: a line's end, or an expression as a number or as a character
abbrev pub PartCalled : Call → Type 0
PartCalled (Alone x) = x.number ≡ outcr
PartCalled (WithActuals x l (OneExpr e) NoActuals m) = ((x.number ≡ outinteger) ⊎ (x.number ≡ outchar)) × PartExpr e
PartCalled (WithActuals x l a more m) = ⊥

-- statements: no loops, and blocks that declare only variables
abbrev mutual
  pub PartStatement : Statement → Type 0
  PartStatement (OneUnconditional u) = PartUnconditional u
  PartStatement (OneConditional c) = PartConditional c
  PartStatement (OneLoop f) = ⊥

  pub PartStatements : Statements → Type 0
  PartStatements NoStatements = ⊤
  PartStatements (MoreStatements l s ss) = PartStatement s × PartStatements ss

  pub PartUnconditional : Unconditional → Type 0
  PartUnconditional (MkUnconditional ls b) = PartBasic b

  pub PartBasic : Basic → Type 0
  PartBasic (OneGroup g) = PartGroup g
  PartBasic (Assign q qs e) = PartLeft q.left × PartLefts qs × PartExpr e
  PartBasic (Jump l e) = PartExpr e
  PartBasic (CallStatement c) = PartCalled c
  PartBasic Dummy = ⊤

  pub PartGroup : Group → Type 0
  PartGroup (MkBlock l d m ds s ss n) = IsSimple d × AreSimple ds × PartStatement s × PartStatements ss
  PartGroup (MkCompound l s ss m) = PartStatement s × PartStatements ss

  pub PartConditional : Conditional → Type 0
  PartConditional (IfThen ls l e m u) = PartExpr e × PartUnconditional u
  PartConditional (IfElse ls l e m u n s) = PartExpr e × PartUnconditional u × PartStatement s
  PartConditional (IfLoop ls l e m f) = ⊥

abbrev pub PartProgram : Program → Type 0
PartProgram (MkProgram ls g l) = PartGroup g
