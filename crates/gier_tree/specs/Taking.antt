-- The table of the grammar: what each item does with each sign. An item refuses the sign; or it is nothing here, and the item
-- below it meets the same sign; or the sign is taken, and items are pushed in its place, of whose trees its own is made.
use Rattle.std.specs.Prelude.{◌==◌, ℕ, zero, suc, Bool, true, false, List, [], ◌∷◌, ◌++◌, None, Some}
use Rattle.gier_symbol.specs.Tags.{number_of}
use Rattle.gier_tree.specs.Signs.{Sign, SName, SNumber, SByte, SStringBegin, SStringEnd, STextEnd, SAdding, SMultiplying, SPower}
use Rattle.gier_tree.specs.Signs.{SComparing, SNot, SAnd, SOr, SImpl, SEquiv, SLogical, SComma, SColon, SSemicolon, SBecomes}
use Rattle.gier_tree.specs.Signs.{SLeftParenthesis, SRightParenthesis, SLeftBracket, SRightBracket, SBegin, SEnd, SIf, SThen}
use Rattle.gier_tree.specs.Signs.{SElse, SFor, SStep, SUntil, SWhile, SDo, SGoto, SType, SArray, SSwitch, SProcedure, SString}
use Rattle.gier_tree.specs.Signs.{SLabel, SValue, SOwn, sign_tag}
use Rattle.gier_tree.specs.Trees.{Name, Expr, OneSimple, IfExpr, Simple, Primary, Numeral, Logical, Bracketed, OneCall}
use Rattle.gier_tree.specs.Trees.{OneElement, Call, Alone, WithActuals, Element, Subscripted, Actual, OneExpr, AString, Actuals}
use Rattle.gier_tree.specs.Trees.{NoActuals, MoreActuals, Exprs, NoExprs, MoreExprs, NextName, MkNames, ValueType, TypeWord}
use Rattle.gier_tree.specs.Trees.{MkPair, MkSegment, Unsigned, WithSign, MkFixedPair, NoFurther, MoreFurther, FurtherPairs}
use Rattle.gier_tree.specs.Trees.{most_further, MkFixed, NoFormals, FormalList, NoValues, ValueList, Specifier, ValueSpec}
use Rattle.gier_tree.specs.Trees.{ArraySpec, LabelSpec, SwitchSpec, StringSpec, ProcedureSpec, FunctionSpec, Specification}
use Rattle.gier_tree.specs.Trees.{MkHeading, LabelPlace, LeftSide, OneName, LeftElement, Turns, OneValue, StepUntil, WhileTrue}
use Rattle.gier_tree.specs.Trees.{Declaration, DeclareType, DeclareOwn, DeclareArrays, DeclareOwnArrays, DeclareSwitch}
use Rattle.gier_tree.specs.Trees.{DeclareProcedure, Declarations, NoDeclarations, MoreDeclarations, Group, MkBlock, MkCompound}
use Rattle.gier_tree.specs.Trees.{Statements, NoStatements, MoreStatements, Statement, OneUnconditional, OneConditional, OneLoop}
use Rattle.gier_tree.specs.Trees.{Unconditional, MkUnconditional, Basic, OneGroup, Assign, Jump, CallStatement, Dummy}
use Rattle.gier_tree.specs.Trees.{Conditional, IfThen, IfElse, IfLoop, Loop, MkLoop, Program, MkProgram}
use Rattle.gier_tree.specs.Wanted.{Ended, NoNot, ANot, NoSign, ASign, MayBeRelation, NoRelation, ARelation, Part, NoPart}
use Rattle.gier_tree.specs.Wanted.{SomeSubscripts, SomeActuals, Powers, Products, Sums, Ands, Ors, Impls, Equivs, Tails, Right}
use Rattle.gier_tree.specs.Wanted.{AfterElement, ElementIsLeft, ElementIsOperand, AfterRight, NameIsLeft, NameIsOperand}
use Rattle.gier_tree.specs.Wanted.{NameHasSubscripts, NameHasActuals, AfterName, NameLabels, NameAssigned, ElementAssigned}
use Rattle.gier_tree.specs.Wanted.{NameCalled, NameAlone, MayBeElse, NoElse, AnElse, Branch, BranchLoop, BranchUnconditional}
use Rattle.gier_tree.specs.Wanted.{AfterBranchName, BranchLabels, BranchAssigned, BranchElement, BranchCalled, BranchAlone}
use Rattle.gier_tree.specs.Wanted.{MayBeStep, NoStep, AStep, AWhile, AfterType, TypeNames, TypeArrays, TypeProcedure}
use Rattle.gier_tree.specs.Wanted.{AfterOwnType, OwnNames, OwnArrays, MayBeWord, NoWord, ArrayWord, ProcedureWord, Item, Want}
use Rattle.gier_tree.specs.Wanted.{WantName, WantNumber, WantExpr, WantSimple, MayNot, MaySign, WantPrimary, MayPower, MayTimes}
use Rattle.gier_tree.specs.Wanted.{MaySum, MayRelation, MayAnd, MayOr, MayImpl, MayEquiv, MayPart, WantSubscripts, WantActual}
use Rattle.gier_tree.specs.Wanted.{WantActuals, WantBytes, WantRight, WantAfterRight, WantAfterElement, MayNames, MayExprs}
use Rattle.gier_tree.specs.Wanted.{WantType, WantAfterType, WantAfterOwnType, WantSegment, WantPairs, MaySegments, WantConstant}
use Rattle.gier_tree.specs.Wanted.{WantFixed, WantFurther, MayFixed, MayFormals, MayValues, MaySpecifications, MayWord}
use Rattle.gier_tree.specs.Wanted.{MayDeclarations, WantStatement, WantAfterName, WantBranch, WantAfterBranchName, MayElse}
use Rattle.gier_tree.specs.Wanted.{MayStep, WantTurns, WantStatements, WantProgram, TreeOf, Trees, factor_items, term_items}
use Rattle.gier_tree.specs.Wanted.{arithmetic_items, negation_items, tail_items, shut_factor, shut_term, shut_arithmetic}
use Rattle.gier_tree.specs.Wanted.{shut_negation, shut_conjunction, shut_disjunction, shut_implication, tails_of, simple_of}
use Rattle.gier_tree.specs.Wanted.{simple_from}

pub data Act (T : Type 0) : Type 0 where
  Refuse : Act T
  Pass : T → Act T
  Push : (is : List Item) → (Trees is → T) → Act T

abbrev pub name_at : (number line : ℕ) → Name
name_at x l = record { number = x; line = l }

abbrev pub type_at : ValueType → (line : ℕ) → TypeWord
type_at t l = record { type = t; line = l }

-- primaries and parts of expressions
abbrev pub call_of : Name → (left : ℕ) → Actual → Ended Actuals → Call
call_of x l a as' = WithActuals x l a as'.more as'.end

abbrev pub element_of : Name → (left : ℕ) → Expr → Ended Exprs → Element
element_of x l e es = Subscripted x l e es.more es.end

abbrev pub primary_of : Name → Part → Primary
primary_of x NoPart = OneCall (Alone x)
primary_of x (SomeSubscripts l e es) = OneElement (element_of x l e es)
primary_of x (SomeActuals l a as') = OneCall (call_of x l a as')

-- a simple expression that begins here
abbrev pub simple_act : {T : Type 0} → (Simple → T) → Sign → (line : ℕ) → Act T
simple_act f SNot l = Push (MaySign ∷ WantPrimary ∷ tail_items) (λ ts. f (simple_of (ANot l) ts.0 ts.1.0 ts.1.1))
simple_act f (SAdding o) l = Push (WantPrimary ∷ tail_items) (λ ts. f (simple_of NoNot (ASign o l) ts.0 ts.1))
simple_act f (SNumber v) l = Push tail_items (λ ts. f (simple_of NoNot NoSign (Numeral v l) ts))
simple_act f (SLogical b) l = Push tail_items (λ ts. f (simple_of NoNot NoSign (Logical b l) ts))
simple_act f (SName x) l = Push (MayPart ∷ tail_items) (λ ts. f (simple_of NoNot NoSign (primary_of (name_at x l) ts.0) ts.1))
simple_act f SLeftParenthesis l =
    Push (WantExpr ∷ Want SRightParenthesis ∷ tail_items) (λ ts. f (simple_of NoNot NoSign (Bracketed l ts.0 ts.1.0) ts.1.1))
simple_act f _ l = Refuse

-- an expression that begins here
abbrev pub expr_act : {T : Type 0} → (Expr → T) → Sign → (line : ℕ) → Act T
expr_act f SIf l = Push (WantExpr ∷ Want SThen ∷ WantSimple ∷ Want SElse ∷ WantExpr ∷ [])
    (λ ts. f (IfExpr l ts.0 ts.1.0 ts.1.1.0 ts.1.1.1.0 ts.1.1.1.1.0))
expr_act f s l = simple_act (λ t. f (OneSimple t)) s l

abbrev pub tails_from : Powers → Products → Sums → MayBeRelation → Ands → Ors → Impls → Equivs → Tails
tails_from pw pr sm r an os im eq =
    record { powers = pw; products = pr; sums = sm; relation = r; ands = an; ors = os; impls = im; equivs = eq }

-- what stands behind a first operand, by the first operator there
abbrev pub tails_act : {T : Type 0} → (Tails → T) → Sign → (line : ℕ) → Act T
tails_act f SPower l = Push (WantPrimary ∷ tail_items) (λ ts. f (tails_of (record { line = l; operand = ts.0 } ∷ ts.1.0, ts.1.1)))
tails_act f (SMultiplying o) l =
    Push (WantPrimary ∷ tail_items)
    (λ ts. let t = shut_factor ts in f (tails_of ([], (record { operator = o; line = l; operand = t.0 } ∷ t.1.0, t.1.1))))
tails_act f (SAdding o) l =
    Push (WantPrimary ∷ tail_items)
    (λ ts. let t = shut_term ts in f (tails_of ([], ([], (record { operator = o; line = l; operand = t.0 } ∷ t.1.0, t.1.1)))))
tails_act f (SComparing o) l = Push (MaySign ∷ WantPrimary ∷ MayPower ∷ MayTimes ∷ MaySum ∷ MayAnd ∷ MayOr ∷ MayImpl ∷ MayEquiv
    ∷ []) (λ ts. let t = shut_arithmetic ts in f (tails_of ([], ([], ([], (ARelation o l t.0, t.1))))))
tails_act f SAnd l = Push (negation_items ++ MayAnd ∷ MayOr ∷ MayImpl ∷ MayEquiv ∷ [])
    (λ ts. let t = shut_negation ts in f (tails_of (
      [],
      (
        [],
        (
          [],
          (
            NoRelation,
            (
              record { line = l; operand = t.0 }
                  ∷ t.1.0,
              t.1.1,
            ),
          ),
        ),
      ),
    )))
tails_act f SOr l = Push (negation_items ++ MayAnd ∷ MayOr ∷ MayImpl ∷ MayEquiv ∷ [])
    (λ ts. let t = shut_conjunction ts in f (tails_of (
      [],
      (
        [],
        (
          [],
          (
            NoRelation,
            (
              [],
              (
                record { line = l; operand = t.0 }
                    ∷ t.1.0,
                t.1.1,
              ),
            ),
          ),
        ),
      ),
    )))
tails_act f SImpl l = Push (negation_items ++ MayAnd ∷ MayOr ∷ MayImpl ∷ MayEquiv ∷ [])
    (λ ts. let t = shut_disjunction ts in f (tails_of (
      [],
      (
        [],
        (
          [],
          (
            NoRelation,
            (
              [],
              (
                [],
                (
                  record { line = l; operand = t.0 }
                      ∷ t.1.0,
                  t.1.1,
                ),
              ),
            ),
          ),
        ),
      ),
    )))
tails_act f SEquiv l = Push (negation_items ++ MayAnd ∷ MayOr ∷ MayImpl ∷ MayEquiv ∷ [])
    (λ ts. let t = shut_implication ts in f (tails_of (
      [],
      (
        [],
        (
          [],
          (
            NoRelation,
            (
              [],
              (
                [],
                (
                  [],
                  (
                    record
                        { line = l; operand = t.0 } ∷ t.1.0,
                    tt,
                  ),
                ),
              ),
            ),
          ),
        ),
      ),
    )))
tails_act f _ l = Pass (f (tails_from [] [] [] NoRelation [] [] [] []))

-- behind `:=`
abbrev pub no_lefts : Expr → Right
no_lefts e = record { lefts = []; value = e }

abbrev pub with_left : LeftSide → (becomes : ℕ) → Right → Right
with_left p m r = record { lefts = record { left = p; becomes = m } ∷ r.lefts; value = r.value }

abbrev pub right_element : Element → AfterElement → Right
right_element e (ElementIsLeft m r) = with_left (LeftElement e) m r
right_element e (ElementIsOperand t) = no_lefts (OneSimple (simple_from (OneElement e) t))

abbrev pub right_of : Name → AfterRight → Right
right_of x (NameIsLeft m r) = with_left (OneName x) m r
right_of x (NameIsOperand t) = no_lefts (OneSimple (simple_from (OneCall (Alone x)) t))
right_of x (NameHasSubscripts l e es a) = right_element (element_of x l e es) a
right_of x (NameHasActuals l a as' t) = no_lefts (OneSimple (simple_from (OneCall (call_of x l a as')) t))

-- statements and their labels
abbrev pub basic : Basic → Statement
basic b = OneUnconditional (MkUnconditional [] b)

abbrev pub assignment_tree : LeftSide → (becomes : ℕ) → Right → Basic
assignment_tree p m r = Assign (record { left = p; becomes = m }) r.lefts r.value

abbrev pub label_unconditional : LabelPlace → Unconditional → Unconditional
label_unconditional p (MkUnconditional ls b) = MkUnconditional (p ∷ ls) b

abbrev pub label_conditional : LabelPlace → Conditional → Conditional
label_conditional p (IfThen ls l e m u) = IfThen (p ∷ ls) l e m u
label_conditional p (IfElse ls l e m u n s) = IfElse (p ∷ ls) l e m u n s
label_conditional p (IfLoop ls l e m f) = IfLoop (p ∷ ls) l e m f

abbrev pub label_loop : LabelPlace → Loop → Loop
label_loop p (MkLoop ls l x m t ts n s) = MkLoop (p ∷ ls) l x m t ts n s

abbrev pub label_statement : LabelPlace → Statement → Statement
label_statement p (OneUnconditional u) = OneUnconditional (label_unconditional p u)
label_statement p (OneConditional c) = OneConditional (label_conditional p c)
label_statement p (OneLoop f) = OneLoop (label_loop p f)

abbrev pub label_branch : LabelPlace → Branch → Branch
label_branch p (BranchLoop f) = BranchLoop (label_loop p f)
label_branch p (BranchUnconditional u e) = BranchUnconditional (label_unconditional p u) e

abbrev pub label_program : LabelPlace → Program → Program
label_program p (MkProgram ls g l) = MkProgram (p ∷ ls) g l

abbrev pub label_at : Name → (colon : ℕ) → LabelPlace
label_at x m = record { name = x; colon = m }

abbrev pub named_statement : Name → AfterName → Statement
named_statement x (NameLabels m s) = label_statement (label_at x m) s
named_statement x (NameAssigned m r) = basic (assignment_tree (OneName x) m r)
named_statement x (ElementAssigned l e es m r) = basic (assignment_tree (LeftElement (element_of x l e es)) m r)
named_statement x (NameCalled l a as') = basic (CallStatement (call_of x l a as'))
named_statement x NameAlone = basic (CallStatement (Alone x))

abbrev pub basic_branch : Basic → MayBeElse → Branch
basic_branch b e = BranchUnconditional (MkUnconditional [] b) e

abbrev pub named_branch : Name → AfterBranchName → Branch
named_branch x (BranchLabels m b) = label_branch (label_at x m) b
named_branch x (BranchAssigned m r e) = basic_branch (assignment_tree (OneName x) m r) e
named_branch x (BranchElement l e es m r el) = basic_branch (assignment_tree (LeftElement (element_of x l e es)) m r) el
named_branch x (BranchCalled l a as' e) = basic_branch (CallStatement (call_of x l a as')) e
named_branch x (BranchAlone e) = basic_branch (CallStatement (Alone x)) e

abbrev pub conditional_of : (if : ℕ) → Expr → (then : ℕ) → Branch → Conditional
conditional_of l e m (BranchLoop f) = IfLoop [] l e m f
conditional_of l e m (BranchUnconditional u NoElse) = IfThen [] l e m u
conditional_of l e m (BranchUnconditional u (AnElse n s)) = IfElse [] l e m u n s

abbrev pub group_of : (begin : ℕ) → Declarations → Statement → Ended Statements → Group
group_of l NoDeclarations s ss = MkCompound l s ss.more ss.end
group_of l (MoreDeclarations d m ds) s ss = MkBlock l d m ds s ss.more ss.end

abbrev pub turns_of : Expr → MayBeStep → Turns
turns_of a NoStep = OneValue a
turns_of a (AStep l b m c) = StepUntil a l b m c
turns_of a (AWhile l f) = WhileTrue a l f

abbrev pub loop_items : List Item
loop_items = WantName ∷ Want SBecomes ∷ WantExpr ∷ MayStep ∷ WantTurns ∷ WantStatement ∷ []

abbrev pub loop_of : (for : ℕ) → Trees loop_items → Loop
loop_of l ts = MkLoop [] l ts.0 ts.1.0 (turns_of ts.1.1.0 ts.1.1.1.0) ts.1.1.1.1.0.more ts.1.1.1.1.0.end ts.1.1.1.1.1.0

-- declarations
abbrev pub procedure_items : List Item
procedure_items = WantName ∷ MayFormals ∷ Want SSemicolon ∷ MayValues ∷ MaySpecifications ∷ WantStatement ∷ []

abbrev pub declare_by_type : TypeWord → AfterType → Declaration
declare_by_type t (TypeNames ns) = DeclareType t ns
declare_by_type t (TypeArrays l s ss) = DeclareArrays t l s ss
declare_by_type t (TypeProcedure l x fs m vs ss s) = DeclareProcedure (MkHeading (Some t) l x fs m vs ss) s

abbrev pub declare_own : (own : ℕ) → TypeWord → AfterOwnType → Declaration
declare_own l t (OwnNames ns) = DeclareOwn l t ns
declare_own l t (OwnArrays m s ss) = DeclareOwnArrays l t m s ss

abbrev pub specifier_of : TypeWord → MayBeWord → Specifier
specifier_of t NoWord = ValueSpec t
specifier_of t (ArrayWord l) = ArraySpec t l
specifier_of t (ProcedureWord l) = FunctionSpec t l

abbrev pub specification_of : Specifier → Name → List NextName → (semicolon : ℕ) → Specification
specification_of s x ns l = record { specifier = s; names = MkNames x ns; semicolon = l }

abbrev pub word_specification : Specifier → Act (List Specification)
word_specification s = Push (WantName ∷ MayNames ∷ Want SSemicolon ∷ MaySpecifications ∷ [])
    (λ ts. specification_of s ts.0 ts.1.0 ts.1.1.0 ∷ ts.1.1.1.0)

abbrev pub segment_items : List Item
segment_items = MayNames ∷ Want SLeftBracket ∷ WantExpr ∷ Want SColon ∷ WantExpr ∷ WantPairs ∷ []

abbrev pub fixed_items : List Item
fixed_items = MayNames ∷ Want SLeftBracket ∷ WantConstant ∷ Want SColon ∷ WantConstant ∷ WantFurther most_further ∷ []

abbrev pub no_further : (n : ℕ) → FurtherPairs n
no_further zero = tt
no_further (suc n) = NoFurther

-- a further pair, where one more is allowed
abbrev pub further_act : (n : ℕ) → (comma : ℕ) → Act (Ended (FurtherPairs n))
further_act zero l = Refuse
further_act (suc n) l = Push (WantConstant ∷ Want SColon ∷ WantConstant ∷ WantFurther n ∷ [])
    (λ ts. record { more = MoreFurther l (MkFixedPair ts.0 ts.1.0 ts.1.1.0) ts.1.1.1.0.more; end = ts.1.1.1.0.end })

-- the sign that is wanted, and no other
abbrev pub same_sign : Sign → Sign → Bool
same_sign a b = number_of (sign_tag a) == number_of (sign_tag b)

abbrev pub want_by : (same : Bool) → (line : ℕ) → Act ℕ
want_by true l = Push [] (λ ts. l)
want_by false l = Refuse

abbrev pub act : (i : Item) → Sign → (line : ℕ) → Act (TreeOf i)
act (Want sign) s l = want_by (same_sign sign s) l
act WantName (SName x) l = Push [] (λ ts. name_at x l)
act WantName _ l = Refuse
act WantNumber (SNumber v) l = Push [] (λ ts. record { value = v; line = l })
act WantNumber _ l = Refuse
act WantExpr s l = expr_act (λ e. e) s l
act WantSimple s l = simple_act (λ t. t) s l
act MayNot SNot l = Push [] (λ ts. ANot l)
act MayNot _ l = Pass NoNot
act MaySign (SAdding o) l = Push [] (λ ts. ASign o l)
act MaySign _ l = Pass NoSign
act WantPrimary (SNumber v) l = Push [] (λ ts. Numeral v l)
act WantPrimary (SLogical b) l = Push [] (λ ts. Logical b l)
act WantPrimary (SName x) l = Push (MayPart ∷ []) (λ ts. primary_of (name_at x l) ts.0)
act WantPrimary SLeftParenthesis l = Push (WantExpr ∷ Want SRightParenthesis ∷ []) (λ ts. Bracketed l ts.0 ts.1.0)
act WantPrimary _ l = Refuse
act MayPower SPower l = Push factor_items (λ ts. record { line = l; operand = ts.0 } ∷ ts.1.0)
act MayPower _ l = Pass []
act MayTimes (SMultiplying o) l =
    Push term_items (λ ts. let t = shut_factor ts in record { operator = o; line = l; operand = t.0 } ∷ t.1.0)
act MayTimes _ l = Pass []
act MaySum (SAdding o) l =
    Push (term_items ++ MaySum ∷ []) (λ ts. let t = shut_term ts in record { operator = o; line = l; operand = t.0 } ∷ t.1.0)
act MaySum _ l = Pass []
act MayRelation (SComparing o) l = Push arithmetic_items (λ ts. ARelation o l (shut_arithmetic ts).0)
act MayRelation _ l = Pass NoRelation
act MayAnd SAnd l =
    Push (negation_items ++ MayAnd ∷ []) (λ ts. let t = shut_negation ts in record { line = l; operand = t.0 } ∷ t.1.0)
act MayAnd _ l = Pass []
act MayOr SOr l =
    Push (negation_items ++ MayAnd ∷ MayOr ∷ []) (λ ts. let t = shut_conjunction ts in record { line = l; operand = t.0 } ∷ t.1.0)
act MayOr _ l = Pass []
act MayImpl SImpl l = Push (negation_items ++ MayAnd ∷ MayOr ∷ MayImpl ∷ [])
    (λ ts. let t = shut_disjunction ts in record { line = l; operand = t.0 } ∷ t.1.0)
act MayImpl _ l = Pass []
act MayEquiv SEquiv l = Push (negation_items ++ MayAnd ∷ MayOr ∷ MayImpl ∷ MayEquiv ∷ [])
    (λ ts. let t = shut_implication ts in record { line = l; operand = t.0 } ∷ t.1.0)
act MayEquiv _ l = Pass []
act MayPart SLeftBracket l = Push (WantExpr ∷ WantSubscripts ∷ []) (λ ts. SomeSubscripts l ts.0 ts.1.0)
act MayPart SLeftParenthesis l = Push (WantActual ∷ WantActuals ∷ []) (λ ts. SomeActuals l ts.0 ts.1.0)
act MayPart _ l = Pass NoPart
act WantSubscripts SComma l =
    Push (WantExpr ∷ WantSubscripts ∷ []) (λ ts. record { more = MoreExprs l ts.0 ts.1.0.more; end = ts.1.0.end })
act WantSubscripts SRightBracket l = Push [] (λ ts. record { more = NoExprs; end = l })
act WantSubscripts _ l = Refuse
act WantActual SStringBegin l = Push (WantBytes ∷ []) (λ ts. AString l ts.0.more ts.0.end)
act WantActual s l = expr_act (λ e. OneExpr e) s l
act WantActuals SComma l =
    Push (WantActual ∷ WantActuals ∷ []) (λ ts. record { more = MoreActuals l ts.0 ts.1.0.more; end = ts.1.0.end })
act WantActuals SRightParenthesis l = Push [] (λ ts. record { more = NoActuals; end = l })
act WantActuals _ l = Refuse
act WantBytes (SByte b) l =
    Push (WantBytes ∷ []) (λ ts. record { more = record { value = b; line = l } ∷ ts.0.more; end = ts.0.end })
act WantBytes SStringEnd l = Push [] (λ ts. record { more = []; end = l })
act WantBytes _ l = Refuse
act WantRight (SName x) l = Push (WantAfterRight ∷ []) (λ ts. right_of (name_at x l) ts.0)
act WantRight s l = expr_act no_lefts s l
act WantAfterRight SBecomes l = Push (WantRight ∷ []) (λ ts. NameIsLeft l ts.0)
act WantAfterRight SLeftBracket l =
    Push (WantExpr ∷ WantSubscripts ∷ WantAfterElement ∷ []) (λ ts. NameHasSubscripts l ts.0 ts.1.0 ts.1.1.0)
act WantAfterRight SLeftParenthesis l =
    Push (WantActual ∷ WantActuals ∷ tail_items) (λ ts. NameHasActuals l ts.0 ts.1.0 (tails_of ts.1.1))
act WantAfterRight s l = tails_act (λ t. NameIsOperand t) s l
act WantAfterElement SBecomes l = Push (WantRight ∷ []) (λ ts. ElementIsLeft l ts.0)
act WantAfterElement s l = tails_act (λ t. ElementIsOperand t) s l
act MayNames SComma l = Push (WantName ∷ MayNames ∷ []) (λ ts. record { comma = l; name = ts.0 } ∷ ts.1.0)
act MayNames _ l = Pass []
act MayExprs SComma l = Push (WantExpr ∷ MayExprs ∷ []) (λ ts. MoreExprs l ts.0 ts.1.0)
act MayExprs _ l = Pass NoExprs
act WantType (SType t) l = Push [] (λ ts. type_at t l)
act WantType _ l = Refuse
act WantAfterType (SName x) l = Push (MayNames ∷ []) (λ ts. TypeNames (MkNames (name_at x l) ts.0))
act WantAfterType SArray l = Push (WantSegment ∷ MaySegments ∷ []) (λ ts. TypeArrays l ts.0 ts.1.0)
act WantAfterType SProcedure l =
    Push procedure_items (λ ts. TypeProcedure l ts.0 ts.1.0 ts.1.1.0 ts.1.1.1.0 ts.1.1.1.1.0 ts.1.1.1.1.1.0)
act WantAfterType _ l = Refuse
act WantAfterOwnType (SName x) l = Push (MayNames ∷ []) (λ ts. OwnNames (MkNames (name_at x l) ts.0))
act WantAfterOwnType SArray l = Push (WantFixed ∷ MayFixed ∷ []) (λ ts. OwnArrays l ts.0 ts.1.0)
act WantAfterOwnType _ l = Refuse
act WantSegment (SName x) l =
    Push segment_items
    (λ ts.
    MkSegment (MkNames (name_at x l) ts.0) ts.1.0 (MkPair ts.1.1.0 ts.1.1.1.0 ts.1.1.1.1.0) ts.1.1.1.1.1.0.more
    ts.1.1.1.1.1.0.end)
act WantSegment _ l = Refuse
act WantPairs SComma l = Push (WantExpr ∷ Want SColon ∷ WantExpr ∷ WantPairs ∷ [])
    (λ ts. record { more = record { comma = l; pair = MkPair ts.0 ts.1.0 ts.1.1.0 } ∷ ts.1.1.1.0.more; end = ts.1.1.1.0.end })
act WantPairs SRightBracket l = Push [] (λ ts. record { more = []; end = l })
act WantPairs _ l = Refuse
act MaySegments SComma l = Push (WantSegment ∷ MaySegments ∷ []) (λ ts. record { comma = l; segment = ts.0 } ∷ ts.1.0)
act MaySegments _ l = Pass []
act WantConstant (SNumber v) l = Push [] (λ ts. Unsigned v l)
act WantConstant (SAdding o) l = Push (WantNumber ∷ []) (λ ts. WithSign o l ts.0.value ts.0.line)
act WantConstant _ l = Refuse
act WantFixed (SName x) l =
    Push fixed_items
    (λ ts.
    MkFixed (MkNames (name_at x l) ts.0) ts.1.0 (MkFixedPair ts.1.1.0 ts.1.1.1.0 ts.1.1.1.1.0) ts.1.1.1.1.1.0.more
    ts.1.1.1.1.1.0.end)
act WantFixed _ l = Refuse
act (WantFurther n) SComma l = further_act n l
act (WantFurther n) SRightBracket l = Push [] (λ ts. record { more = no_further n; end = l })
act (WantFurther n) _ l = Refuse
act MayFixed SComma l = Push (WantFixed ∷ MayFixed ∷ []) (λ ts. record { comma = l; segment = ts.0 } ∷ ts.1.0)
act MayFixed _ l = Pass []
act MayFormals SLeftParenthesis l =
    Push (WantName ∷ MayNames ∷ Want SRightParenthesis ∷ []) (λ ts. FormalList l (MkNames ts.0 ts.1.0) ts.1.1.0)
act MayFormals _ l = Pass NoFormals
act MayValues SValue l = Push (WantName ∷ MayNames ∷ Want SSemicolon ∷ []) (λ ts. ValueList l (MkNames ts.0 ts.1.0) ts.1.1.0)
act MayValues _ l = Pass NoValues
act MaySpecifications (SType t) l = Push (MayWord ∷ WantName ∷ MayNames ∷ Want SSemicolon ∷ MaySpecifications ∷ [])
    (λ ts. specification_of (specifier_of (type_at t l) ts.0) ts.1.0 ts.1.1.0 ts.1.1.1.0 ∷ ts.1.1.1.1.0)
act MaySpecifications SLabel l = word_specification (LabelSpec l)
act MaySpecifications SSwitch l = word_specification (SwitchSpec l)
act MaySpecifications SString l = word_specification (StringSpec l)
act MaySpecifications SProcedure l = word_specification (ProcedureSpec l)
act MaySpecifications _ l = Pass []
act MayWord SArray l = Push [] (λ ts. ArrayWord l)
act MayWord SProcedure l = Push [] (λ ts. ProcedureWord l)
act MayWord _ l = Pass NoWord
act MayDeclarations (SType t) l = Push (WantAfterType ∷ Want SSemicolon ∷ MayDeclarations ∷ [])
    (λ ts. MoreDeclarations (declare_by_type (type_at t l) ts.0) ts.1.0 ts.1.1.0)
act MayDeclarations SOwn l = Push (WantType ∷ WantAfterOwnType ∷ Want SSemicolon ∷ MayDeclarations ∷ [])
    (λ ts. MoreDeclarations (declare_own l ts.0 ts.1.0) ts.1.1.0 ts.1.1.1.0)
act MayDeclarations SSwitch l = Push (WantName ∷ Want SBecomes ∷ WantExpr ∷ MayExprs ∷ Want SSemicolon ∷ MayDeclarations ∷ [])
    (λ ts. MoreDeclarations (DeclareSwitch l ts.0 ts.1.0 ts.1.1.0 ts.1.1.1.0) ts.1.1.1.1.0 ts.1.1.1.1.1.0)
act MayDeclarations SProcedure l = Push (procedure_items ++ Want SSemicolon ∷ MayDeclarations ∷ [])
    (λ ts. MoreDeclarations (DeclareProcedure (MkHeading None l ts.0 ts.1.0 ts.1.1.0 ts.1.1.1.0 ts.1.1.1.1.0) ts.1.1.1.1.1.0)
    ts.1.1.1.1.1.1.0 ts.1.1.1.1.1.1.1.0)
act MayDeclarations _ l = Pass NoDeclarations
act WantStatement (SName x) l = Push (WantAfterName ∷ []) (λ ts. named_statement (name_at x l) ts.0)
act WantStatement SBegin l =
    Push (MayDeclarations ∷ WantStatement ∷ WantStatements ∷ []) (λ ts. basic (OneGroup (group_of l ts.0 ts.1.0 ts.1.1.0)))
act WantStatement SGoto l = Push (WantExpr ∷ []) (λ ts. basic (Jump l ts.0))
act WantStatement SIf l =
    Push (WantExpr ∷ Want SThen ∷ WantBranch ∷ []) (λ ts. OneConditional (conditional_of l ts.0 ts.1.0 ts.1.1.0))
act WantStatement SFor l = Push loop_items (λ ts. OneLoop (loop_of l ts))
act WantStatement _ l = Pass (basic Dummy)
act WantAfterName SColon l = Push (WantStatement ∷ []) (λ ts. NameLabels l ts.0)
act WantAfterName SBecomes l = Push (WantRight ∷ []) (λ ts. NameAssigned l ts.0)
act WantAfterName SLeftBracket l =
    Push (WantExpr ∷ WantSubscripts ∷ Want SBecomes ∷ WantRight ∷ []) (λ ts. ElementAssigned l ts.0 ts.1.0 ts.1.1.0 ts.1.1.1.0)
act WantAfterName SLeftParenthesis l = Push (WantActual ∷ WantActuals ∷ []) (λ ts. NameCalled l ts.0 ts.1.0)
act WantAfterName _ l = Pass NameAlone
act WantBranch (SName x) l = Push (WantAfterBranchName ∷ []) (λ ts. named_branch (name_at x l) ts.0)
act WantBranch SBegin l = Push (MayDeclarations ∷ WantStatement ∷ WantStatements ∷ MayElse ∷ [])
    (λ ts. basic_branch (OneGroup (group_of l ts.0 ts.1.0 ts.1.1.0)) ts.1.1.1.0)
act WantBranch SGoto l = Push (WantExpr ∷ MayElse ∷ []) (λ ts. basic_branch (Jump l ts.0) ts.1.0)
act WantBranch SFor l = Push loop_items (λ ts. BranchLoop (loop_of l ts))
act WantBranch SElse l = Push (WantStatement ∷ []) (λ ts. basic_branch Dummy (AnElse l ts.0))
act WantBranch SIf l = Refuse
act WantBranch _ l = Pass (basic_branch Dummy NoElse)
act WantAfterBranchName SColon l = Push (WantBranch ∷ []) (λ ts. BranchLabels l ts.0)
act WantAfterBranchName SBecomes l = Push (WantRight ∷ MayElse ∷ []) (λ ts. BranchAssigned l ts.0 ts.1.0)
act WantAfterBranchName SLeftBracket l = Push (WantExpr ∷ WantSubscripts ∷ Want SBecomes ∷ WantRight ∷ MayElse ∷ [])
    (λ ts. BranchElement l ts.0 ts.1.0 ts.1.1.0 ts.1.1.1.0 ts.1.1.1.1.0)
act WantAfterBranchName SLeftParenthesis l =
    Push (WantActual ∷ WantActuals ∷ MayElse ∷ []) (λ ts. BranchCalled l ts.0 ts.1.0 ts.1.1.0)
act WantAfterBranchName SElse l = Push (WantStatement ∷ []) (λ ts. BranchAlone (AnElse l ts.0))
act WantAfterBranchName _ l = Pass (BranchAlone NoElse)
act MayElse SElse l = Push (WantStatement ∷ []) (λ ts. AnElse l ts.0)
act MayElse _ l = Pass NoElse
act MayStep SStep l = Push (WantExpr ∷ Want SUntil ∷ WantExpr ∷ []) (λ ts. AStep l ts.0 ts.1.0 ts.1.1.0)
act MayStep SWhile l = Push (WantExpr ∷ []) (λ ts. AWhile l ts.0)
act MayStep _ l = Pass NoStep
act WantTurns SComma l = Push (WantExpr ∷ MayStep ∷ WantTurns ∷ [])
    (λ ts. record { more = record { comma = l; turns = turns_of ts.0 ts.1.0 } ∷ ts.1.1.0.more; end = ts.1.1.0.end })
act WantTurns SDo l = Push [] (λ ts. record { more = []; end = l })
act WantTurns _ l = Refuse
act WantStatements SSemicolon l =
    Push (WantStatement ∷ WantStatements ∷ []) (λ ts. record { more = MoreStatements l ts.0 ts.1.0.more; end = ts.1.0.end })
act WantStatements SEnd l = Push [] (λ ts. record { more = NoStatements; end = l })
act WantStatements _ l = Refuse
act WantProgram (SName x) l = Push (Want SColon ∷ WantProgram ∷ []) (λ ts. label_program (label_at (name_at x l) ts.0) ts.1.0)
act WantProgram SBegin l = Push (MayDeclarations ∷ WantStatement ∷ WantStatements ∷ Want STextEnd ∷ [])
    (λ ts. MkProgram [] (group_of l ts.0 ts.1.0 ts.1.1.0) ts.1.1.1.0)
act WantProgram _ l = Refuse
