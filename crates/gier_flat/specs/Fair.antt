-- The part of the language for which the law is proved: what it asks of expressions and statements in these places.
use Rattle.std.proofs.Common.{◌≡◌, ◌<◌, suc, List, [], ◌∷◌}
use Rattle.std.specs.Prelude.{⊤, ℕ}
use Rattle.gier_tree.specs.declared.kind.Kind.{Kind}
use Rattle.gier_tree.specs.declared.kind.Kind.TheVariants.{IntegerVariable, BooleanVariable, IntegerValue, BooleanValue, Label}
use Rattle.gier_tree.specs.declared.kind.Kind.TheVariants.{OutInteger, OutText, OutCr, OutChar, InInteger, Abs, Sign}
use Rattle.gier_tree.specs.Entries.{entries_numbers, block_entries, program_entries, numbers_unconditional}
use Rattle.gier_tree.specs.OwnCount.{owns_in_unconditional}
use Rattle.gier_tree.specs.Places.{Places, block_places, program_places}
use Rattle.gier_tree.specs.Texts.{Where, further, behind_statement, behind_declaration, behind_declarations, inner}
use Rattle.gier_tree.specs.Trees.{Expr, OneSimple, IfExpr, Simple, OneImplication, Equivalent, Implication, OneDisjunction}
use Rattle.gier_tree.specs.Trees.{Implies, Disjunction, OneConjunction, Either, Conjunction, OneNegation, Both, Negation}
use Rattle.gier_tree.specs.Trees.{OneRelation, Negated, Relation, OneArithmetic, Compared, Arithmetic, OneTerm, Signed, Summed}
use Rattle.gier_tree.specs.Trees.{Term, OneFactor, Multiplied, Factor, OnePrimary, Raised, Primary, Numeral, Logical, Bracketed}
use Rattle.gier_tree.specs.Trees.{OneCall, OneElement, Call, Alone, WithActuals, OneExpr, AString, NoActuals, LeftSide}
use Rattle.gier_tree.specs.Trees.{OneName, LeftElement, LeftPart, LabelPlace, Group, MkBlock, MkCompound, Statements, NoStatements}
use Rattle.gier_tree.specs.Trees.{MoreStatements, Statement, OneUnconditional, OneConditional, OneLoop, Unconditional}
use Rattle.gier_tree.specs.Trees.{MkUnconditional, Basic, OneGroup, Assign, Jump, CallStatement, Dummy, Conditional, IfThen}
use Rattle.gier_tree.specs.Trees.{IfElse, IfLoop, Program, MkProgram}
use Rattle.gier_meaning.specs.Plain.{bytes_of}
use Rattle.gier_flat.specs.FairScope.{FairScope}

abbrev pub IsCell : Kind → Type 0
IsCell IntegerVariable = ⊤
IsCell BooleanVariable = ⊤
IsCell IntegerValue = ⊤
IsCell BooleanValue = ⊤
IsCell kind = ⊥

-- what an identifier alone may be for its value: a variable, a formal by value, or the procedure that reads a number
-- (not the one that reads a character: what it gives has a word only where the data are bytes, which the law doesn't ask)
abbrev pub IsTaken : Kind → Type 0
IsTaken InInteger = ⊤
IsTaken kind = IsCell kind

-- the standard functions of a number
abbrev pub IsFunction : Kind → Type 0
IsFunction Abs = ⊤
IsFunction Sign = ⊤
IsFunction kind = ⊥

-- the standard procedures that print a number
abbrev pub PrintsNumber : Kind → Type 0
PrintsNumber OutInteger = ⊤
PrintsNumber OutChar = ⊤
PrintsNumber kind = ⊥

-- each of them fits in a byte
abbrev pub AreBytes : List ℕ → Type 0
AreBytes [] = ⊤
AreBytes (b ∷ bytes) = (b < 256) × AreBytes bytes

module _ (p : Places) where
  abbrev mutual
    pub FairExpr : Expr → Type 0
    FairExpr (OneSimple s) = FairSimple s
    FairExpr (IfExpr l c m s n e) = FairExpr c × FairSimple s × FairExpr e

    pub FairSimple : Simple → Type 0
    FairSimple (OneImplication i) = FairImplication i
    FairSimple (Equivalent s l i) = FairSimple s × FairImplication i

    pub FairImplication : Implication → Type 0
    FairImplication (OneDisjunction d) = FairDisjunction d
    FairImplication (Implies i l d) = FairImplication i × FairDisjunction d

    pub FairDisjunction : Disjunction → Type 0
    FairDisjunction (OneConjunction c) = FairConjunction c
    FairDisjunction (Either d l c) = FairDisjunction d × FairConjunction c

    pub FairConjunction : Conjunction → Type 0
    FairConjunction (OneNegation n) = FairNegation n
    FairConjunction (Both c l n) = FairConjunction c × FairNegation n

    pub FairNegation : Negation → Type 0
    FairNegation (OneRelation r) = FairRelation r
    FairNegation (Negated l r) = FairRelation r

    pub FairRelation : Relation → Type 0
    FairRelation (OneArithmetic a) = FairArithmetic a
    FairRelation (Compared a o l b) = FairArithmetic a × FairArithmetic b

    pub FairArithmetic : Arithmetic → Type 0
    FairArithmetic (OneTerm t) = FairTerm t
    FairArithmetic (Signed o l t) = FairTerm t
    FairArithmetic (Summed a o l t) = FairArithmetic a × FairTerm t

    pub FairTerm : Term → Type 0
    FairTerm (OneFactor f) = FairFactor f
    FairTerm (Multiplied t o l f) = FairTerm t × FairFactor f

    pub FairFactor : Factor → Type 0
    FairFactor (OnePrimary q) = FairPrimary q
    FairFactor (Raised f l q) = FairFactor f × FairPrimary q

    pub FairPrimary : Primary → Type 0
    FairPrimary (Numeral n l) = n < 549755813888
    FairPrimary (Logical b l) = ⊤
    FairPrimary (Bracketed l e m) = FairExpr e
    FairPrimary (OneCall c) = FairCall c
    FairPrimary (OneElement e) = ⊥

    pub FairCall : Call → Type 0
    FairCall (Alone x) = IsTaken (p x.number).what.kind
    FairCall (WithActuals x l (OneExpr e) NoActuals m) = IsFunction (p x.number).what.kind × FairExpr e
    FairCall (WithActuals x l a more m) = ⊥

  -- designational expressions
  abbrev mutual
    pub FairTarget : Expr → Type 0
    FairTarget (OneSimple s) = FairTargetSimple s
    FairTarget (IfExpr l c m s n e) = FairExpr c × FairTargetSimple s × FairTarget e

    pub FairTargetSimple : Simple → Type 0
    FairTargetSimple (OneImplication
        (OneDisjunction (OneConjunction (OneNegation (OneRelation (OneArithmetic (OneTerm (OneFactor (OnePrimary q))))))))) =
        FairTargetPrimary q
    FairTargetSimple s = ⊥

    pub FairTargetPrimary : Primary → Type 0
    FairTargetPrimary (Bracketed l e m) = FairTarget e
    FairTargetPrimary (OneCall (Alone x)) = (p x.number).what.kind ≡ Label
    FairTargetPrimary q = ⊥

  abbrev pub FairLabels : List LabelPlace → Type 0
  FairLabels [] = ⊤
  FairLabels (l ∷ ls) = ((p l.name.number).what.kind ≡ Label) × FairLabels ls

  abbrev pub FairLeft : LeftSide → Type 0
  FairLeft (OneName x) = IsCell (p x.number).what.kind
  FairLeft (LeftElement e) = ⊥

  abbrev pub FairLefts : List LeftPart → Type 0
  FairLefts [] = ⊤
  FairLefts (q ∷ qs) = FairLeft q.left × FairLefts qs

  -- what is printed
  abbrev pub FairCalled : Call → Type 0
  FairCalled (Alone x) = (p x.number).what.kind ≡ OutCr
  FairCalled (WithActuals x l (AString k bytes j) NoActuals m) = ((p x.number).what.kind ≡ OutText) × AreBytes (bytes_of bytes)
  FairCalled (WithActuals x l (OneExpr e) NoActuals m) = PrintsNumber (p x.number).what.kind × FairExpr e
  FairCalled (WithActuals x l a more m) = ⊥

-- statements, where they stand
abbrev mutual
  pub FairStatement : Places → Where → Statement → Type 0
  FairStatement p at (OneUnconditional u) = FairUnconditional p at u
  FairStatement p at (OneConditional c) = FairConditional p at c
  FairStatement p at (OneLoop f) = ⊥

  pub FairStatements : Places → Where → Statements → Type 0
  FairStatements p at NoStatements = ⊤
  FairStatements p at (MoreStatements l s ss) = FairStatement p at s × FairStatements p (behind_statement at s) ss

  pub FairUnconditional : Places → Where → Unconditional → Type 0
  FairUnconditional p at (MkUnconditional ls b) = FairLabels p ls × FairBasic p at b

  pub FairBasic : Places → Where → Basic → Type 0
  FairBasic p at (OneGroup g) = FairGroup p at g
  FairBasic p at (Assign q qs e) = FairLeft p q.left × FairLefts p qs × FairExpr p e
  FairBasic p at (Jump l e) = FairTarget p e
  FairBasic p at (CallStatement c) = FairCalled p c
  FairBasic p at Dummy = ⊤

  pub FairGroup : Places → Where → Group → Type 0
  FairGroup p at (MkBlock l d m ds s ss n) =
      let q = block_places (suc at.level) at.numbers d ds s ss p in
      let within = behind_declarations (behind_declaration (inner at (block_entries d ds s ss)) d) ds in
      FairScope p at d ds s ss × FairStatement q within s × FairStatements q (behind_statement within s) ss
  FairGroup p at (MkCompound l s ss m) = FairStatement p at s × FairStatements p (behind_statement at s) ss

  pub FairConditional : Places → Where → Conditional → Type 0
  FairConditional p at (IfThen ls l e m u) = FairLabels p ls × FairExpr p e × FairUnconditional p at u
  FairConditional p at (IfElse ls l e m u n s) =
      FairLabels p ls × FairExpr p e × FairUnconditional p at u
      × FairStatement p (further at (numbers_unconditional u) (owns_in_unconditional u)) s
  FairConditional p at (IfLoop ls l e m f) = ⊥

-- a program without own quantities
abbrev pub FairProgram : Program → Type 0
FairProgram (MkProgram ls g l) =
    let t = MkProgram ls g l in
    let p = program_places t in
    FairLabels p ls × FairGroup p (record { level = 1; numbers = entries_numbers (program_entries t); owns = 0 }) g
