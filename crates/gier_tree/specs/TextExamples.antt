-- The texts 3 to 6 of some programs.
use Rattle.std.specs.Prelude.{◌≡◌, true, List, [], ◌∷◌, None, Some}
use Rattle.gier_symbol.specs.declared.symbol.Symbol.{Symbol}
use Rattle.gier_tree.specs.Trees.{Add, Subtract, Multiply, Divide, LessThan, EqualTo, AtLeast, OneSimple, IfExpr, OneImplication}
use Rattle.gier_tree.specs.Trees.{OneDisjunction, OneConjunction, OneNegation, Both, OneRelation, Negated, OneArithmetic}
use Rattle.gier_tree.specs.Trees.{Compared, OneTerm, Signed, Summed, OneFactor, Multiplied, OnePrimary, Raised, Numeral, Logical}
use Rattle.gier_tree.specs.Trees.{Bracketed, OneCall, OneElement, Alone, WithActuals, Subscripted, OneExpr, AString, NoActuals}
use Rattle.gier_tree.specs.Trees.{MoreActuals, NoExprs, MoreExprs, only, MkNames, IntegerType, BooleanType, MkPair, MkSegment}
use Rattle.gier_tree.specs.Trees.{Unsigned, WithSign, MkFixedPair, NoFurther, MoreFurther, MkFixed, NoFormals, FormalList}
use Rattle.gier_tree.specs.Trees.{NoValues, ValueList, ValueSpec, ArraySpec, LabelSpec, SwitchSpec, StringSpec, ProcedureSpec}
use Rattle.gier_tree.specs.Trees.{MkHeading, OneName, LeftElement, OneValue, StepUntil, WhileTrue, DeclareType, DeclareOwn}
use Rattle.gier_tree.specs.Trees.{DeclareArrays, DeclareOwnArrays, DeclareSwitch, DeclareProcedure, NoDeclarations}
use Rattle.gier_tree.specs.Trees.{MoreDeclarations, MkBlock, MkCompound, NoStatements, MoreStatements, OneUnconditional}
use Rattle.gier_tree.specs.Trees.{OneConditional, OneLoop, MkUnconditional, OneGroup, Assign, Jump, CallStatement, Dummy, IfElse}
use Rattle.gier_tree.specs.Trees.{IfLoop, MkLoop, Program, MkProgram}
use Rattle.gier_tree.specs.SpellExamples.{at, row}
use Rattle.gier_tree.specs.TextsOf.{text3, text4, text5, text6}

-- expressions and a call
abbrev pub text_sums : Program
text_sums =
    MkProgram ([])
    (MkBlock 1 (DeclareType (record { type = IntegerType; line = 1 }) (MkNames (at 8 1) (record { comma = 1; name = (at 9 1) }
    ∷ []))) 1 NoDeclarations
    (OneUnconditional (MkUnconditional ([]) (Assign (record { left = OneName (at 8 2); becomes = 2 })
    (record { left = OneName (at 9 2); becomes = 2 } ∷ []) (OneSimple (OneImplication (OneDisjunction (OneConjunction
    (OneNegation (OneRelation (OneArithmetic (Summed (Signed Subtract 2 (OneFactor (OnePrimary (Numeral 1 2)))) Add 2
    (Multiplied (OneFactor (OnePrimary (Numeral 2 2))) Multiply 2 (OnePrimary (Bracketed 2
    (OneSimple (OneImplication (OneDisjunction (OneConjunction (OneNegation (OneRelation (OneArithmetic (Summed
    (OneTerm (OneFactor (OnePrimary (OneCall (Alone (at 8 2)))))) Subtract 2 (OneFactor (OnePrimary (OneCall (Alone
    (at 9 2))))))))))))) 2))))))))))))))
    (MoreStatements 3 (OneUnconditional (MkUnconditional ([]) (CallStatement (WithActuals (at 0 3) 3
    (OneExpr (OneSimple (OneImplication (OneDisjunction (OneConjunction (OneNegation (OneRelation (OneArithmetic (OneTerm
    (Multiplied (OneFactor (Raised (OnePrimary (OneCall (Alone (at 8 3)))) 3 (Numeral 2 3))) Divide 3 (OnePrimary
    (Numeral 3 3)))))))))))) NoActuals 3)))) (MoreStatements 3
    (OneUnconditional (MkUnconditional ([]) (CallStatement (WithActuals (at 1 3) 3
    (AString 3 (record { value = 120; line = 3 } ∷ []) 3) NoActuals 3)))) NoStatements)) 3) 3

abbrev pub text_sums_3 : List Symbol
text_sums_3 = row 67 1 1 ∷ row 67 2 1 ∷ row 36 0 1 ∷ row 67 4 1 ∷ row 47 0 1 ∷ row 63 8 1 ∷ row 28 0 1 ∷ row 63 9 1 ∷ row 68 4 1
    ∷ row 30 0 1 ∷ row 3 8 2 ∷ row 31 0 2 ∷ row 3 9 2 ∷ row 31 0 2 ∷ row 61 0 2 ∷ row 4 1 2 ∷ row 10 0 2 ∷ row 4 2 2 ∷ row 12 0 2
    ∷ row 32 0 2 ∷ row 3 8 2 ∷ row 11 0 2 ∷ row 3 9 2 ∷ row 33 0 2 ∷ row 30 0 3 ∷ row 3 0 3 ∷ row 32 0 3 ∷ row 67 12 3 ∷ row 3 8 3
    ∷ row 14 0 3 ∷ row 4 2 3 ∷ row 13 0 3 ∷ row 4 3 3 ∷ row 68 12 3 ∷ row 33 0 3 ∷ row 30 0 3 ∷ row 3 1 3 ∷ row 32 0 3
    ∷ row 67 12 3 ∷ row 5 0 3 ∷ row 6 120 3 ∷ row 7 0 3 ∷ row 68 12 3 ∷ row 33 0 3 ∷ row 37 0 3 ∷ row 68 2 3 ∷ row 68 1 3
    ∷ row 8 0 3 ∷ []

abbrev pub text_sums_4 : List Symbol
text_sums_4 = row 67 1 1 ∷ row 67 2 1 ∷ row 69 8 1 ∷ row 70 1 1 ∷ row 69 9 1 ∷ row 70 1 1 ∷ row 36 0 1 ∷ row 67 4 1 ∷ row 47 0 1
    ∷ row 63 8 1 ∷ row 28 0 1 ∷ row 63 9 1 ∷ row 68 4 1 ∷ row 30 0 1 ∷ row 3 8 2 ∷ row 31 0 2 ∷ row 3 9 2 ∷ row 31 0 2
    ∷ row 61 0 2 ∷ row 4 1 2 ∷ row 10 0 2 ∷ row 4 2 2 ∷ row 12 0 2 ∷ row 32 0 2 ∷ row 3 8 2 ∷ row 11 0 2 ∷ row 3 9 2 ∷ row 33 0 2
    ∷ row 30 0 3 ∷ row 3 0 3 ∷ row 32 0 3 ∷ row 67 12 3 ∷ row 3 8 3 ∷ row 14 0 3 ∷ row 4 2 3 ∷ row 13 0 3 ∷ row 4 3 3
    ∷ row 68 12 3 ∷ row 33 0 3 ∷ row 30 0 3 ∷ row 3 1 3 ∷ row 32 0 3 ∷ row 67 12 3 ∷ row 5 0 3 ∷ row 6 120 3 ∷ row 7 0 3
    ∷ row 68 12 3 ∷ row 33 0 3 ∷ row 37 0 3 ∷ row 68 2 3 ∷ row 68 1 3 ∷ row 8 0 3 ∷ []

abbrev pub text_sums_5 : List Symbol
text_sums_5 = row 67 1 1 ∷ row 67 2 1 ∷ row 69 8 1 ∷ row 70 1 1 ∷ row 69 9 1 ∷ row 70 1 1 ∷ row 36 0 1 ∷ row 67 4 1 ∷ row 47 0 1
    ∷ row 63 8 1 ∷ row 28 0 1 ∷ row 63 9 1 ∷ row 68 4 1 ∷ row 30 0 1 ∷ row 71 1 2 ∷ row 72 33554435 2 ∷ row 31 0 2 ∷ row 71 1 2
    ∷ row 72 33554436 2 ∷ row 31 0 2 ∷ row 61 0 2 ∷ row 4 1 2 ∷ row 10 0 2 ∷ row 4 2 2 ∷ row 12 0 2 ∷ row 32 0 2 ∷ row 71 1 2
    ∷ row 72 33554435 2 ∷ row 11 0 2 ∷ row 71 1 2 ∷ row 72 33554436 2 ∷ row 33 0 2 ∷ row 30 0 3 ∷ row 71 31 3 ∷ row 72 0 3
    ∷ row 32 0 3 ∷ row 67 12 3 ∷ row 71 1 3 ∷ row 72 33554435 3 ∷ row 14 0 3 ∷ row 4 2 3 ∷ row 13 0 3 ∷ row 4 3 3 ∷ row 68 12 3
    ∷ row 33 0 3 ∷ row 30 0 3 ∷ row 71 32 3 ∷ row 72 0 3 ∷ row 32 0 3 ∷ row 67 12 3 ∷ row 5 0 3 ∷ row 6 120 3 ∷ row 7 0 3
    ∷ row 68 12 3 ∷ row 33 0 3 ∷ row 37 0 3 ∷ row 68 2 3 ∷ row 68 1 3 ∷ row 8 0 3 ∷ []

abbrev pub text_sums_6 : List Symbol
text_sums_6 = row 67 1 1 ∷ row 67 2 1 ∷ row 69 8 1 ∷ row 70 1 1 ∷ row 69 9 1 ∷ row 70 1 1 ∷ row 36 0 1 ∷ row 67 4 1 ∷ row 47 0 1
    ∷ row 63 8 1 ∷ row 28 0 1 ∷ row 63 9 1 ∷ row 68 4 1 ∷ row 30 0 1 ∷ row 71 1 2 ∷ row 72 33554435 2 ∷ row 31 0 2 ∷ row 71 1 2
    ∷ row 72 33554436 2 ∷ row 31 0 2 ∷ row 4 1 2 ∷ row 74 61 2 ∷ row 4 2 2 ∷ row 32 0 2 ∷ row 71 1 2 ∷ row 72 33554435 2
    ∷ row 71 1 2 ∷ row 72 33554436 2 ∷ row 74 11 2 ∷ row 33 0 2 ∷ row 74 12 2 ∷ row 74 10 2 ∷ row 30 0 3 ∷ row 71 31 3
    ∷ row 72 0 3 ∷ row 67 12 3 ∷ row 71 1 3 ∷ row 72 33554435 3 ∷ row 4 2 3 ∷ row 74 14 3 ∷ row 4 3 3 ∷ row 74 13 3 ∷ row 68 12 3
    ∷ row 76 1 3 ∷ row 30 0 3 ∷ row 71 32 3 ∷ row 72 0 3 ∷ row 67 12 3 ∷ row 5 0 3 ∷ row 6 120 3 ∷ row 7 0 3 ∷ row 68 12 3
    ∷ row 76 1 3 ∷ row 37 0 3 ∷ row 68 2 3 ∷ row 68 1 3 ∷ row 8 0 3 ∷ []

-- labels, empty statements, conditionals and for statements
abbrev pub text_labels : Program
text_labels = MkProgram (record { name = (at 8 1); colon = 1 } ∷ [])
    (MkBlock 1 (DeclareType (record { type = IntegerType; line = 2 }) (MkNames (at 9 2) ([]))) 2 NoDeclarations
    (OneLoop (MkLoop (record { name = (at 10 3); colon = 3 } ∷ []) 3 (at 9 3) 3 (OneValue (only (Numeral 1 3)))
    (record { comma = 3; turns = (StepUntil (only (Numeral 2 3)) 3 (only (OneCall (Alone (at 9 3)))) 3 (only (Numeral 3 3))) }
    ∷ record {
      comma = 3;
      turns = (WhileTrue (only (OneCall (Alone (at 9 3)))) 3 (OneSimple (OneImplication (OneDisjunction (OneConjunction
          (OneNegation (OneRelation (Compared (OneTerm (OneFactor (OnePrimary (OneCall (Alone (at 9 3)))))) LessThan 3
          (OneTerm (OneFactor (OnePrimary (Numeral 4 3))))))))))));
    } ∷ []) 3 (OneUnconditional (MkUnconditional
    (record { name = (at 11 5); colon = 5 } ∷ []) Dummy))))
    (MoreStatements 5
    (OneConditional (IfElse ([]) 6 (OneSimple (OneImplication (OneDisjunction (OneConjunction (OneNegation (OneRelation
    (Compared (OneTerm (OneFactor (OnePrimary (OneCall (Alone (at 9 6)))))) EqualTo 6 (OneTerm (OneFactor (OnePrimary
    (Numeral 1 6))))))))))) 6 (MkUnconditional ([]) Dummy) 7 (OneUnconditional (MkUnconditional ([]) (Jump 7 (only
    (OneCall (Alone (at 8 7))))))))) (MoreStatements 7
    (OneConditional (IfLoop ([]) 8
    (OneSimple (OneImplication (OneDisjunction (OneConjunction (Both
    (OneNegation (Negated 8 (Compared (OneTerm (OneFactor (OnePrimary (OneCall (Alone (at 9 8)))))) AtLeast 8 (OneTerm
    (OneFactor (OnePrimary (Numeral 2 8))))))) 8 (OneRelation (OneArithmetic (OneTerm (OneFactor (OnePrimary
    (Logical true 8))))))))))) 8 (MkLoop ([]) 8 (at 9 8) 8 (OneValue (only (Numeral 5 8))) ([]) 8 (OneUnconditional
    (MkUnconditional ([]) Dummy))))) (MoreStatements 8
    (OneUnconditional (MkUnconditional (record { name = (at 12 8); colon = 8 } ∷ []) Dummy)) NoStatements))) 8) 9

abbrev pub text_labels_3 : List Symbol
text_labels_3 = row 67 1 1 ∷ row 63 8 1 ∷ row 62 0 1 ∷ row 67 2 1 ∷ row 36 0 1 ∷ row 67 4 2 ∷ row 47 0 2 ∷ row 63 9 2 ∷ row 68 4 2
    ∷ row 30 0 2 ∷ row 67 9 3 ∷ row 63 10 3 ∷ row 62 0 3 ∷ row 41 0 3 ∷ row 3 9 3 ∷ row 31 0 3 ∷ row 67 16 3 ∷ row 4 1 3
    ∷ row 68 16 3 ∷ row 28 0 3 ∷ row 67 16 3 ∷ row 4 2 3 ∷ row 42 0 3 ∷ row 3 9 3 ∷ row 43 0 3 ∷ row 4 3 3 ∷ row 68 16 3
    ∷ row 28 0 3 ∷ row 67 16 3 ∷ row 3 9 3 ∷ row 44 0 3 ∷ row 3 9 3 ∷ row 15 0 3 ∷ row 4 4 3 ∷ row 68 16 3 ∷ row 45 0 3
    ∷ row 67 10 5 ∷ row 63 11 5 ∷ row 62 0 5 ∷ row 68 10 5 ∷ row 68 9 5 ∷ row 30 0 5 ∷ row 67 11 6 ∷ row 38 0 6 ∷ row 3 9 6
    ∷ row 17 0 6 ∷ row 4 1 6 ∷ row 39 0 6 ∷ row 40 0 7 ∷ row 67 17 7 ∷ row 46 0 7 ∷ row 3 8 7 ∷ row 68 17 7 ∷ row 68 11 7
    ∷ row 30 0 7 ∷ row 67 11 8 ∷ row 38 0 8 ∷ row 21 0 8 ∷ row 3 9 8 ∷ row 18 0 8 ∷ row 4 2 8 ∷ row 22 0 8 ∷ row 26 0 8
    ∷ row 39 0 8 ∷ row 67 9 8 ∷ row 41 0 8 ∷ row 3 9 8 ∷ row 31 0 8 ∷ row 67 16 8 ∷ row 4 5 8 ∷ row 68 16 8 ∷ row 45 0 8
    ∷ row 67 10 8 ∷ row 68 10 8 ∷ row 68 9 8 ∷ row 68 11 8 ∷ row 30 0 8 ∷ row 63 12 8 ∷ row 62 0 8 ∷ row 37 0 8 ∷ row 68 2 8
    ∷ row 68 1 8 ∷ row 8 0 9 ∷ []

abbrev pub text_labels_4 : List Symbol
text_labels_4 = row 67 1 1 ∷ row 69 8 1 ∷ row 70 5 1 ∷ row 63 8 1 ∷ row 62 0 1 ∷ row 67 2 1 ∷ row 69 9 1 ∷ row 70 1 1
    ∷ row 69 10 1 ∷ row 70 5 1 ∷ row 69 12 1 ∷ row 70 5 1 ∷ row 36 0 1 ∷ row 67 4 2 ∷ row 47 0 2 ∷ row 63 9 2 ∷ row 68 4 2
    ∷ row 30 0 2 ∷ row 67 9 3 ∷ row 63 10 3 ∷ row 62 0 3 ∷ row 41 0 3 ∷ row 3 9 3 ∷ row 31 0 3 ∷ row 67 16 3 ∷ row 4 1 3
    ∷ row 68 16 3 ∷ row 28 0 3 ∷ row 67 16 3 ∷ row 4 2 3 ∷ row 42 0 3 ∷ row 3 9 3 ∷ row 43 0 3 ∷ row 4 3 3 ∷ row 68 16 3
    ∷ row 28 0 3 ∷ row 67 16 3 ∷ row 3 9 3 ∷ row 44 0 3 ∷ row 3 9 3 ∷ row 15 0 3 ∷ row 4 4 3 ∷ row 68 16 3 ∷ row 45 0 3
    ∷ row 67 10 5 ∷ row 69 11 5 ∷ row 70 5 5 ∷ row 63 11 5 ∷ row 62 0 5 ∷ row 68 10 5 ∷ row 68 9 5 ∷ row 30 0 5 ∷ row 67 11 6
    ∷ row 38 0 6 ∷ row 3 9 6 ∷ row 17 0 6 ∷ row 4 1 6 ∷ row 39 0 6 ∷ row 40 0 7 ∷ row 67 17 7 ∷ row 46 0 7 ∷ row 3 8 7
    ∷ row 68 17 7 ∷ row 68 11 7 ∷ row 30 0 7 ∷ row 67 11 8 ∷ row 38 0 8 ∷ row 21 0 8 ∷ row 3 9 8 ∷ row 18 0 8 ∷ row 4 2 8
    ∷ row 22 0 8 ∷ row 26 0 8 ∷ row 39 0 8 ∷ row 67 9 8 ∷ row 41 0 8 ∷ row 3 9 8 ∷ row 31 0 8 ∷ row 67 16 8 ∷ row 4 5 8
    ∷ row 68 16 8 ∷ row 45 0 8 ∷ row 67 10 8 ∷ row 68 10 8 ∷ row 68 9 8 ∷ row 68 11 8 ∷ row 30 0 8 ∷ row 63 12 8 ∷ row 62 0 8
    ∷ row 37 0 8 ∷ row 68 2 8 ∷ row 68 1 8 ∷ row 8 0 9 ∷ []

abbrev pub text_labels_5 : List Symbol
text_labels_5 = row 67 1 1 ∷ row 69 8 1 ∷ row 70 5 1 ∷ row 63 8 1 ∷ row 62 0 1 ∷ row 67 2 1 ∷ row 69 9 1 ∷ row 70 1 1
    ∷ row 69 10 1 ∷ row 70 5 1 ∷ row 69 12 1 ∷ row 70 5 1 ∷ row 36 0 1 ∷ row 67 4 2 ∷ row 47 0 2 ∷ row 63 9 2 ∷ row 68 4 2
    ∷ row 30 0 2 ∷ row 67 9 3 ∷ row 63 10 3 ∷ row 62 0 3 ∷ row 41 0 3 ∷ row 71 1 3 ∷ row 72 33554435 3 ∷ row 31 0 3 ∷ row 67 16 3
    ∷ row 4 1 3 ∷ row 68 16 3 ∷ row 28 0 3 ∷ row 67 16 3 ∷ row 4 2 3 ∷ row 42 0 3 ∷ row 71 1 3 ∷ row 72 33554435 3 ∷ row 43 0 3
    ∷ row 4 3 3 ∷ row 68 16 3 ∷ row 28 0 3 ∷ row 67 16 3 ∷ row 71 1 3 ∷ row 72 33554435 3 ∷ row 44 0 3 ∷ row 71 1 3
    ∷ row 72 33554435 3 ∷ row 15 0 3 ∷ row 4 4 3 ∷ row 68 16 3 ∷ row 45 0 3 ∷ row 67 10 5 ∷ row 69 11 5 ∷ row 70 5 5 ∷ row 63 11 5
    ∷ row 62 0 5 ∷ row 68 10 5 ∷ row 68 9 5 ∷ row 30 0 5 ∷ row 67 11 6 ∷ row 38 0 6 ∷ row 71 1 6 ∷ row 72 33554435 6 ∷ row 17 0 6
    ∷ row 4 1 6 ∷ row 39 0 6 ∷ row 40 0 7 ∷ row 67 17 7 ∷ row 46 0 7 ∷ row 71 5 7 ∷ row 72 16777216 7 ∷ row 68 17 7 ∷ row 68 11 7
    ∷ row 30 0 7 ∷ row 67 11 8 ∷ row 38 0 8 ∷ row 21 0 8 ∷ row 71 1 8 ∷ row 72 33554435 8 ∷ row 18 0 8 ∷ row 4 2 8 ∷ row 22 0 8
    ∷ row 26 0 8 ∷ row 39 0 8 ∷ row 67 9 8 ∷ row 41 0 8 ∷ row 71 1 8 ∷ row 72 33554435 8 ∷ row 31 0 8 ∷ row 67 16 8 ∷ row 4 5 8
    ∷ row 68 16 8 ∷ row 45 0 8 ∷ row 67 10 8 ∷ row 68 10 8 ∷ row 68 9 8 ∷ row 68 11 8 ∷ row 30 0 8 ∷ row 63 12 8 ∷ row 62 0 8
    ∷ row 37 0 8 ∷ row 68 2 8 ∷ row 68 1 8 ∷ row 8 0 9 ∷ []

abbrev pub text_labels_6 : List Symbol
text_labels_6 = row 67 1 1 ∷ row 69 8 1 ∷ row 70 5 1 ∷ row 63 8 1 ∷ row 62 0 1 ∷ row 67 2 1 ∷ row 69 9 1 ∷ row 70 1 1
    ∷ row 69 10 1 ∷ row 70 5 1 ∷ row 69 12 1 ∷ row 70 5 1 ∷ row 36 0 1 ∷ row 67 4 2 ∷ row 47 0 2 ∷ row 63 9 2 ∷ row 68 4 2
    ∷ row 30 0 2 ∷ row 67 9 3 ∷ row 63 10 3 ∷ row 62 0 3 ∷ row 41 0 3 ∷ row 71 1 3 ∷ row 72 33554435 3 ∷ row 31 0 3 ∷ row 67 16 3
    ∷ row 4 1 3 ∷ row 68 16 3 ∷ row 28 0 3 ∷ row 67 16 3 ∷ row 4 2 3 ∷ row 42 0 3 ∷ row 71 1 3 ∷ row 72 33554435 3 ∷ row 43 0 3
    ∷ row 4 3 3 ∷ row 68 16 3 ∷ row 28 0 3 ∷ row 67 16 3 ∷ row 71 1 3 ∷ row 72 33554435 3 ∷ row 44 0 3 ∷ row 71 1 3
    ∷ row 72 33554435 3 ∷ row 4 4 3 ∷ row 74 15 3 ∷ row 68 16 3 ∷ row 45 0 3 ∷ row 67 10 5 ∷ row 69 11 5 ∷ row 70 5 5
    ∷ row 63 11 5 ∷ row 62 0 5 ∷ row 68 10 5 ∷ row 68 9 5 ∷ row 30 0 5 ∷ row 67 11 6 ∷ row 38 0 6 ∷ row 71 1 6 ∷ row 72 33554435 6
    ∷ row 4 1 6 ∷ row 74 17 6 ∷ row 39 0 6 ∷ row 40 0 7 ∷ row 67 17 7 ∷ row 46 0 7 ∷ row 71 5 7 ∷ row 72 16777216 7 ∷ row 68 17 7
    ∷ row 68 11 7 ∷ row 30 0 7 ∷ row 67 11 8 ∷ row 38 0 8 ∷ row 71 1 8 ∷ row 72 33554435 8 ∷ row 4 2 8 ∷ row 74 18 8 ∷ row 74 21 8
    ∷ row 26 0 8 ∷ row 74 22 8 ∷ row 39 0 8 ∷ row 67 9 8 ∷ row 41 0 8 ∷ row 71 1 8 ∷ row 72 33554435 8 ∷ row 31 0 8 ∷ row 67 16 8
    ∷ row 4 5 8 ∷ row 68 16 8 ∷ row 45 0 8 ∷ row 67 10 8 ∷ row 68 10 8 ∷ row 68 9 8 ∷ row 68 11 8 ∷ row 30 0 8 ∷ row 63 12 8
    ∷ row 62 0 8 ∷ row 37 0 8 ∷ row 68 2 8 ∷ row 68 1 8 ∷ row 8 0 9 ∷ []

-- arrays, switches and conditional expressions
abbrev pub text_arrays : Program
text_arrays =
    MkProgram ([])
    (MkBlock 1
    (DeclareArrays (record { type = BooleanType; line = 1 }) 1
    (MkSegment (MkNames (at 8 1) (record { comma = 1; name = (at 9 1) } ∷ [])) 1
    (MkPair (only (Numeral 1 1)) 1 (only (Numeral 2 1))) ([]) 1) (record {
      comma = 1;
      segment = (MkSegment (MkNames (at 10 1) ([])) 1
          (MkPair (OneSimple (OneImplication (OneDisjunction (OneConjunction (OneNegation (OneRelation (OneArithmetic
          (Signed Subtract 1 (OneFactor (OnePrimary (Numeral 1 1))))))))))) 1 (only (Numeral 2 1)))
          (record { comma = 1; pair = (MkPair (only (Numeral 3 2)) 2 (only (Numeral 4 2))) } ∷ []) 2);
    } ∷ [])) 2
    (MoreDeclarations (DeclareSwitch 2 (at 11 2) 2 (only (OneCall (Alone (at 12 2)))) (MoreExprs 2
    (IfExpr 2 (only (OneElement (Subscripted (at 8 2) 2 (only (Numeral 1 2)) NoExprs 2))) 2
    (OneImplication (OneDisjunction (OneConjunction (OneNegation (OneRelation (OneArithmetic (OneTerm (OneFactor
    (OnePrimary (OneElement (Subscripted (at 11 2) 2 (only (Numeral 1 2)) NoExprs 2))))))))))) 2 (only (OneCall (Alone
    (at 13 2))))) NoExprs)) 2 NoDeclarations)
    (OneUnconditional (MkUnconditional (record { name = (at 12 3); colon = 3 } ∷ []) (Assign
    (record { left = LeftElement (Subscripted (at 8 3) 3 (only (Numeral 1 3)) NoExprs 3); becomes = 3 })
    (record {
      left = LeftElement (Subscripted (at 10 3) 3 (only (Numeral 2 3)) (MoreExprs 3 (only (Numeral 3 3)) NoExprs) 3);
      becomes = 3;
    } ∷ []) (only (OneElement (Subscripted (at 9 3) 3
    (OneSimple (OneImplication (OneDisjunction (OneConjunction (OneNegation (OneRelation (OneArithmetic (Summed
    (OneTerm (OneFactor (OnePrimary (Numeral 1 3)))) Add 3 (OneFactor (OnePrimary (Numeral 1 4))))))))))) NoExprs 4))))))
    (MoreStatements 4 (OneUnconditional (MkUnconditional (record { name = (at 13 5); colon = 5 } ∷ []) (Jump 5 (only
    (OneElement (Subscripted (at 11 5) 5 (only (Numeral 2 5)) NoExprs 5)))))) NoStatements) 5) 5

abbrev pub text_arrays_3 : List Symbol
text_arrays_3 = row 67 1 1 ∷ row 67 2 1 ∷ row 36 0 1 ∷ row 48 0 1 ∷ row 49 0 1 ∷ row 67 5 1 ∷ row 63 8 1 ∷ row 28 0 1 ∷ row 63 9 1
    ∷ row 34 0 1 ∷ row 67 14 1 ∷ row 4 1 1 ∷ row 68 14 1 ∷ row 29 0 1 ∷ row 67 14 1 ∷ row 4 2 1 ∷ row 68 14 1 ∷ row 35 0 1
    ∷ row 68 5 1 ∷ row 28 0 1 ∷ row 67 5 1 ∷ row 63 10 1 ∷ row 34 0 1 ∷ row 67 14 1 ∷ row 61 0 1 ∷ row 4 1 1 ∷ row 68 14 1
    ∷ row 29 0 1 ∷ row 67 14 1 ∷ row 4 2 1 ∷ row 68 14 1 ∷ row 28 0 1 ∷ row 67 14 2 ∷ row 4 3 2 ∷ row 68 14 2 ∷ row 29 0 2
    ∷ row 67 14 2 ∷ row 4 4 2 ∷ row 68 14 2 ∷ row 35 0 2 ∷ row 68 5 2 ∷ row 30 0 2 ∷ row 67 6 2 ∷ row 50 0 2 ∷ row 63 11 2
    ∷ row 31 0 2 ∷ row 67 15 2 ∷ row 3 12 2 ∷ row 68 15 2 ∷ row 28 0 2 ∷ row 67 15 2 ∷ row 67 18 2 ∷ row 38 0 2 ∷ row 3 8 2
    ∷ row 34 0 2 ∷ row 67 13 2 ∷ row 4 1 2 ∷ row 68 13 2 ∷ row 35 0 2 ∷ row 39 0 2 ∷ row 3 11 2 ∷ row 34 0 2 ∷ row 67 13 2
    ∷ row 4 1 2 ∷ row 68 13 2 ∷ row 35 0 2 ∷ row 40 0 2 ∷ row 3 13 2 ∷ row 68 18 2 ∷ row 68 15 2 ∷ row 68 6 2 ∷ row 30 0 2
    ∷ row 63 12 3 ∷ row 62 0 3 ∷ row 3 8 3 ∷ row 34 0 3 ∷ row 67 13 3 ∷ row 4 1 3 ∷ row 68 13 3 ∷ row 35 0 3 ∷ row 31 0 3
    ∷ row 3 10 3 ∷ row 34 0 3 ∷ row 67 13 3 ∷ row 4 2 3 ∷ row 68 13 3 ∷ row 28 0 3 ∷ row 67 13 3 ∷ row 4 3 3 ∷ row 68 13 3
    ∷ row 35 0 3 ∷ row 31 0 3 ∷ row 3 9 3 ∷ row 34 0 3 ∷ row 67 13 3 ∷ row 4 1 3 ∷ row 10 0 3 ∷ row 4 1 4 ∷ row 68 13 4
    ∷ row 35 0 4 ∷ row 30 0 4 ∷ row 63 13 5 ∷ row 62 0 5 ∷ row 67 17 5 ∷ row 46 0 5 ∷ row 3 11 5 ∷ row 34 0 5 ∷ row 67 13 5
    ∷ row 4 2 5 ∷ row 68 13 5 ∷ row 35 0 5 ∷ row 68 17 5 ∷ row 37 0 5 ∷ row 68 2 5 ∷ row 68 1 5 ∷ row 8 0 5 ∷ []

abbrev pub text_arrays_4 : List Symbol
text_arrays_4 = row 67 1 1 ∷ row 67 2 1 ∷ row 69 8 1 ∷ row 70 4 1 ∷ row 73 1 1 ∷ row 69 9 1 ∷ row 70 4 1 ∷ row 73 1 1
    ∷ row 69 10 1 ∷ row 70 4 1 ∷ row 73 2 1 ∷ row 69 11 1 ∷ row 70 6 1 ∷ row 69 12 1 ∷ row 70 5 1 ∷ row 69 13 1 ∷ row 70 5 1
    ∷ row 36 0 1 ∷ row 48 0 1 ∷ row 49 0 1 ∷ row 67 5 1 ∷ row 63 8 1 ∷ row 28 0 1 ∷ row 63 9 1 ∷ row 34 0 1 ∷ row 67 14 1
    ∷ row 4 1 1 ∷ row 68 14 1 ∷ row 29 0 1 ∷ row 67 14 1 ∷ row 4 2 1 ∷ row 68 14 1 ∷ row 35 0 1 ∷ row 68 5 1 ∷ row 28 0 1
    ∷ row 67 5 1 ∷ row 63 10 1 ∷ row 34 0 1 ∷ row 67 14 1 ∷ row 61 0 1 ∷ row 4 1 1 ∷ row 68 14 1 ∷ row 29 0 1 ∷ row 67 14 1
    ∷ row 4 2 1 ∷ row 68 14 1 ∷ row 28 0 1 ∷ row 67 14 2 ∷ row 4 3 2 ∷ row 68 14 2 ∷ row 29 0 2 ∷ row 67 14 2 ∷ row 4 4 2
    ∷ row 68 14 2 ∷ row 35 0 2 ∷ row 68 5 2 ∷ row 30 0 2 ∷ row 67 6 2 ∷ row 50 0 2 ∷ row 63 11 2 ∷ row 31 0 2 ∷ row 67 15 2
    ∷ row 3 12 2 ∷ row 68 15 2 ∷ row 28 0 2 ∷ row 67 15 2 ∷ row 67 18 2 ∷ row 38 0 2 ∷ row 3 8 2 ∷ row 34 0 2 ∷ row 67 13 2
    ∷ row 4 1 2 ∷ row 68 13 2 ∷ row 35 0 2 ∷ row 39 0 2 ∷ row 3 11 2 ∷ row 34 0 2 ∷ row 67 13 2 ∷ row 4 1 2 ∷ row 68 13 2
    ∷ row 35 0 2 ∷ row 40 0 2 ∷ row 3 13 2 ∷ row 68 18 2 ∷ row 68 15 2 ∷ row 68 6 2 ∷ row 30 0 2 ∷ row 63 12 3 ∷ row 62 0 3
    ∷ row 3 8 3 ∷ row 34 0 3 ∷ row 67 13 3 ∷ row 4 1 3 ∷ row 68 13 3 ∷ row 35 0 3 ∷ row 31 0 3 ∷ row 3 10 3 ∷ row 34 0 3
    ∷ row 67 13 3 ∷ row 4 2 3 ∷ row 68 13 3 ∷ row 28 0 3 ∷ row 67 13 3 ∷ row 4 3 3 ∷ row 68 13 3 ∷ row 35 0 3 ∷ row 31 0 3
    ∷ row 3 9 3 ∷ row 34 0 3 ∷ row 67 13 3 ∷ row 4 1 3 ∷ row 10 0 3 ∷ row 4 1 4 ∷ row 68 13 4 ∷ row 35 0 4 ∷ row 30 0 4
    ∷ row 63 13 5 ∷ row 62 0 5 ∷ row 67 17 5 ∷ row 46 0 5 ∷ row 3 11 5 ∷ row 34 0 5 ∷ row 67 13 5 ∷ row 4 2 5 ∷ row 68 13 5
    ∷ row 35 0 5 ∷ row 68 17 5 ∷ row 37 0 5 ∷ row 68 2 5 ∷ row 68 1 5 ∷ row 8 0 5 ∷ []

abbrev pub text_arrays_5 : List Symbol
text_arrays_5 = row 67 1 1 ∷ row 67 2 1 ∷ row 69 8 1 ∷ row 70 4 1 ∷ row 73 1 1 ∷ row 69 9 1 ∷ row 70 4 1 ∷ row 73 1 1
    ∷ row 69 10 1 ∷ row 70 4 1 ∷ row 73 2 1 ∷ row 69 11 1 ∷ row 70 6 1 ∷ row 69 12 1 ∷ row 70 5 1 ∷ row 69 13 1 ∷ row 70 5 1
    ∷ row 36 0 1 ∷ row 48 0 1 ∷ row 49 0 1 ∷ row 67 5 1 ∷ row 63 8 1 ∷ row 28 0 1 ∷ row 63 9 1 ∷ row 34 0 1 ∷ row 67 14 1
    ∷ row 4 1 1 ∷ row 68 14 1 ∷ row 29 0 1 ∷ row 67 14 1 ∷ row 4 2 1 ∷ row 68 14 1 ∷ row 35 0 1 ∷ row 68 5 1 ∷ row 28 0 1
    ∷ row 67 5 1 ∷ row 63 10 1 ∷ row 34 0 1 ∷ row 67 14 1 ∷ row 61 0 1 ∷ row 4 1 1 ∷ row 68 14 1 ∷ row 29 0 1 ∷ row 67 14 1
    ∷ row 4 2 1 ∷ row 68 14 1 ∷ row 28 0 1 ∷ row 67 14 2 ∷ row 4 3 2 ∷ row 68 14 2 ∷ row 29 0 2 ∷ row 67 14 2 ∷ row 4 4 2
    ∷ row 68 14 2 ∷ row 35 0 2 ∷ row 68 5 2 ∷ row 30 0 2 ∷ row 67 6 2 ∷ row 50 0 2 ∷ row 63 11 2 ∷ row 31 0 2 ∷ row 67 15 2
    ∷ row 71 5 2 ∷ row 72 33554433 2 ∷ row 68 15 2 ∷ row 28 0 2 ∷ row 67 15 2 ∷ row 67 18 2 ∷ row 38 0 2 ∷ row 71 4 2
    ∷ row 72 33554435 2 ∷ row 73 1 2 ∷ row 34 0 2 ∷ row 67 13 2 ∷ row 4 1 2 ∷ row 68 13 2 ∷ row 35 0 2 ∷ row 39 0 2 ∷ row 71 6 2
    ∷ row 72 33554432 2 ∷ row 34 0 2 ∷ row 67 13 2 ∷ row 4 1 2 ∷ row 68 13 2 ∷ row 35 0 2 ∷ row 40 0 2 ∷ row 71 5 2
    ∷ row 72 33554434 2 ∷ row 68 18 2 ∷ row 68 15 2 ∷ row 68 6 2 ∷ row 30 0 2 ∷ row 63 12 3 ∷ row 62 0 3 ∷ row 71 4 3
    ∷ row 72 33554435 3 ∷ row 73 1 3 ∷ row 34 0 3 ∷ row 67 13 3 ∷ row 4 1 3 ∷ row 68 13 3 ∷ row 35 0 3 ∷ row 31 0 3 ∷ row 71 4 3
    ∷ row 72 33554443 3 ∷ row 73 2 3 ∷ row 34 0 3 ∷ row 67 13 3 ∷ row 4 2 3 ∷ row 68 13 3 ∷ row 28 0 3 ∷ row 67 13 3 ∷ row 4 3 3
    ∷ row 68 13 3 ∷ row 35 0 3 ∷ row 31 0 3 ∷ row 71 4 3 ∷ row 72 33554439 3 ∷ row 73 1 3 ∷ row 34 0 3 ∷ row 67 13 3 ∷ row 4 1 3
    ∷ row 10 0 3 ∷ row 4 1 4 ∷ row 68 13 4 ∷ row 35 0 4 ∷ row 30 0 4 ∷ row 63 13 5 ∷ row 62 0 5 ∷ row 67 17 5 ∷ row 46 0 5
    ∷ row 71 6 5 ∷ row 72 33554432 5 ∷ row 34 0 5 ∷ row 67 13 5 ∷ row 4 2 5 ∷ row 68 13 5 ∷ row 35 0 5 ∷ row 68 17 5 ∷ row 37 0 5
    ∷ row 68 2 5 ∷ row 68 1 5 ∷ row 8 0 5 ∷ []

abbrev pub text_arrays_6 : List Symbol
text_arrays_6 = row 67 1 1 ∷ row 67 2 1 ∷ row 69 8 1 ∷ row 70 4 1 ∷ row 73 1 1 ∷ row 69 9 1 ∷ row 70 4 1 ∷ row 73 1 1
    ∷ row 69 10 1 ∷ row 70 4 1 ∷ row 73 2 1 ∷ row 69 11 1 ∷ row 70 6 1 ∷ row 69 12 1 ∷ row 70 5 1 ∷ row 69 13 1 ∷ row 70 5 1
    ∷ row 36 0 1 ∷ row 48 0 1 ∷ row 49 0 1 ∷ row 67 5 1 ∷ row 63 8 1 ∷ row 28 0 1 ∷ row 63 9 1 ∷ row 34 0 1 ∷ row 67 14 1
    ∷ row 4 1 1 ∷ row 68 14 1 ∷ row 29 0 1 ∷ row 67 14 1 ∷ row 4 2 1 ∷ row 68 14 1 ∷ row 35 0 1 ∷ row 68 5 1 ∷ row 28 0 1
    ∷ row 67 5 1 ∷ row 63 10 1 ∷ row 34 0 1 ∷ row 67 14 1 ∷ row 4 1 1 ∷ row 74 61 1 ∷ row 68 14 1 ∷ row 29 0 1 ∷ row 67 14 1
    ∷ row 4 2 1 ∷ row 68 14 1 ∷ row 28 0 1 ∷ row 67 14 2 ∷ row 4 3 2 ∷ row 68 14 2 ∷ row 29 0 2 ∷ row 67 14 2 ∷ row 4 4 2
    ∷ row 68 14 2 ∷ row 35 0 2 ∷ row 68 5 2 ∷ row 30 0 2 ∷ row 67 6 2 ∷ row 50 0 2 ∷ row 63 11 2 ∷ row 31 0 2 ∷ row 67 15 2
    ∷ row 71 5 2 ∷ row 72 33554433 2 ∷ row 68 15 2 ∷ row 28 0 2 ∷ row 67 15 2 ∷ row 67 18 2 ∷ row 38 0 2 ∷ row 71 4 2
    ∷ row 72 33554435 2 ∷ row 73 1 2 ∷ row 67 13 2 ∷ row 4 1 2 ∷ row 68 13 2 ∷ row 75 1 2 ∷ row 39 0 2 ∷ row 71 6 2
    ∷ row 72 33554432 2 ∷ row 67 13 2 ∷ row 4 1 2 ∷ row 68 13 2 ∷ row 75 1 2 ∷ row 40 0 2 ∷ row 71 5 2 ∷ row 72 33554434 2
    ∷ row 68 18 2 ∷ row 68 15 2 ∷ row 68 6 2 ∷ row 30 0 2 ∷ row 63 12 3 ∷ row 62 0 3 ∷ row 71 4 3 ∷ row 72 33554435 3 ∷ row 73 1 3
    ∷ row 67 13 3 ∷ row 4 1 3 ∷ row 68 13 3 ∷ row 75 1 3 ∷ row 31 0 3 ∷ row 71 4 3 ∷ row 72 33554443 3 ∷ row 73 2 3 ∷ row 67 13 3
    ∷ row 4 2 3 ∷ row 68 13 3 ∷ row 67 13 3 ∷ row 4 3 3 ∷ row 68 13 3 ∷ row 75 2 3 ∷ row 31 0 3 ∷ row 71 4 3 ∷ row 72 33554439 3
    ∷ row 73 1 3 ∷ row 67 13 3 ∷ row 4 1 3 ∷ row 4 1 4 ∷ row 74 10 3 ∷ row 68 13 4 ∷ row 75 1 3 ∷ row 30 0 4 ∷ row 63 13 5
    ∷ row 62 0 5 ∷ row 67 17 5 ∷ row 46 0 5 ∷ row 71 6 5 ∷ row 72 33554432 5 ∷ row 67 13 5 ∷ row 4 2 5 ∷ row 68 13 5 ∷ row 75 1 5
    ∷ row 68 17 5 ∷ row 37 0 5 ∷ row 68 2 5 ∷ row 68 1 5 ∷ row 8 0 5 ∷ []

-- procedures and their calls
abbrev pub text_calls : Program
text_calls = MkProgram ([]) (MkBlock 1 (DeclareType (record { type = IntegerType; line = 1 }) (MkNames (at 8 1) ([]))) 1
    (MoreDeclarations
    (DeclareProcedure (MkHeading (Some (record { type = IntegerType; line = 1 })) 1 (at 9 1) NoFormals 1 NoValues ([]))
    (OneUnconditional (MkUnconditional ([]) (Assign (record { left = OneName (at 9 1); becomes = 1 }) ([]) (only
    (Numeral 1 1)))))) 1 (MoreDeclarations
    (DeclareProcedure
    (MkHeading None 2 (at 10 2)
    (FormalList 2 (MkNames (at 11 2) (record { comma = 2; name = (at 12 2) } ∷ record { comma = 2; name = (at 13 2) }
    ∷ record { comma = 2; name = (at 14 2) } ∷ record { comma = 2; name = (at 15 2) }
    ∷ record { comma = 2; name = (at 16 2) } ∷ record { comma = 2; name = (at 17 2) } ∷ [])) 2) 2
    (ValueList 2 (MkNames (at 11 2) ([])) 2) (record {
      specifier = ValueSpec (record { type = IntegerType; line = 2 });
      names = (MkNames (at 11 2) (record { comma = 2; name = (at 12 2) } ∷ []));
      semicolon = 2;
    }
    ∷ record {
      specifier = ArraySpec (record { type = IntegerType; line = 2 }) 2;
      names = (MkNames (at 13 2) ([]));
      semicolon = 2;
    } ∷ record { specifier = LabelSpec 2; names = (MkNames (at 14 2) ([])); semicolon = 2 }
    ∷ record { specifier = SwitchSpec 2; names = (MkNames (at 15 2) ([])); semicolon = 2 }
    ∷ record { specifier = StringSpec 3; names = (MkNames (at 16 3) ([])); semicolon = 3 }
    ∷ record { specifier = ProcedureSpec 3; names = (MkNames (at 17 3) ([])); semicolon = 3 } ∷ [])) (OneUnconditional
    (MkUnconditional ([]) (OneGroup (MkCompound 3
    (OneUnconditional (MkUnconditional ([]) (CallStatement (WithActuals (at 17 3) 3
    (OneExpr (only (OneCall (Alone (at 11 3))))) (MoreActuals 3 (OneExpr (only (OneCall (Alone (at 9 3))))) (MoreActuals 3
    (OneExpr (only (OneCall (Alone (at 4 3))))) (MoreActuals 3 (OneExpr (only (OneCall (Alone (at 16 3))))) NoActuals)))
    3)))) (MoreStatements 3 (OneUnconditional (MkUnconditional ([]) (CallStatement (Alone (at 17 3))))) (MoreStatements 3
    (OneUnconditional (MkUnconditional ([]) (CallStatement (WithActuals (at 1 3) 3
    (OneExpr (only (OneCall (Alone (at 16 3))))) NoActuals 3)))) (MoreStatements 3
    (OneUnconditional (MkUnconditional ([]) Dummy)) NoStatements))) 3))))) 3 (MoreDeclarations
    (DeclareProcedure (MkHeading None 4 (at 18 4) NoFormals 4 NoValues ([])) (OneUnconditional (MkUnconditional ([]) Dummy)))
    4 (MoreDeclarations
    (DeclareArrays (record { type = IntegerType; line = 4 }) 4
    (MkSegment (MkNames (at 19 4) ([])) 4 (MkPair (only (Numeral 1 4)) 4 (only (Numeral 2 4))) ([]) 4) ([])) 4
    (MoreDeclarations (DeclareSwitch 4 (at 20 4) 4 (only (OneCall (Alone (at 21 4)))) NoExprs) 4 NoDeclarations)))))
    (OneUnconditional (MkUnconditional ([]) (Assign (record { left = OneName (at 8 5); becomes = 5 }) ([]) (OneSimple
    (OneImplication (OneDisjunction (OneConjunction (OneNegation (OneRelation (OneArithmetic (Summed
    (Summed (OneTerm (OneFactor (OnePrimary (OneCall (Alone (at 9 5)))))) Add 5 (OneFactor (OnePrimary (Bracketed 5
    (only (OneCall (Alone (at 9 5)))) 5)))) Add 5 (OneFactor (OnePrimary (OneCall (Alone (at 4 5))))))))))))))))
    (MoreStatements 5 (OneUnconditional (MkUnconditional ([]) (CallStatement (WithActuals (at 10 5) 5
    (OneExpr (only (OneCall (Alone (at 9 5))))) (MoreActuals 5 (OneExpr (only (OneCall (Alone (at 9 5))))) (MoreActuals 5
    (OneExpr (only (OneCall (Alone (at 19 5))))) (MoreActuals 5 (OneExpr (only (OneCall (Alone (at 21 5)))))
    (MoreActuals 5 (OneExpr (only (OneCall (Alone (at 20 5))))) (MoreActuals 5
    (AString 5 (record { value = 121; line = 5 } ∷ []) 5) (MoreActuals 5
    (OneExpr (only (OneCall (Alone (at 18 5))))) NoActuals)))))) 5)))) (MoreStatements 5
    (OneUnconditional (MkUnconditional ([]) (CallStatement (Alone (at 9 5))))) (MoreStatements 5
    (OneUnconditional (MkUnconditional ([]) (CallStatement (Alone (at 18 5))))) (MoreStatements 5
    (OneUnconditional (MkUnconditional (record { name = (at 21 5); colon = 5 } ∷ []) Dummy)) NoStatements)))) 5) 5

abbrev pub text_calls_3 : List Symbol
text_calls_3 = row 67 1 1 ∷ row 67 2 1 ∷ row 36 0 1 ∷ row 67 4 1 ∷ row 47 0 1 ∷ row 63 8 1 ∷ row 68 4 1 ∷ row 30 0 1 ∷ row 67 7 1
    ∷ row 47 0 1 ∷ row 51 0 1 ∷ row 63 9 1 ∷ row 30 0 1 ∷ row 67 8 1 ∷ row 3 9 1 ∷ row 31 0 1 ∷ row 4 1 1 ∷ row 68 8 1
    ∷ row 68 7 1 ∷ row 30 0 1 ∷ row 67 7 2 ∷ row 51 0 2 ∷ row 63 10 2 ∷ row 32 0 2 ∷ row 64 11 2 ∷ row 28 0 2 ∷ row 64 12 2
    ∷ row 28 0 2 ∷ row 64 13 2 ∷ row 28 0 2 ∷ row 64 14 2 ∷ row 28 0 2 ∷ row 64 15 2 ∷ row 28 0 2 ∷ row 64 16 2 ∷ row 28 0 2
    ∷ row 64 17 2 ∷ row 33 0 2 ∷ row 30 0 2 ∷ row 54 0 2 ∷ row 65 11 2 ∷ row 30 0 2 ∷ row 47 0 2 ∷ row 66 11 2 ∷ row 28 0 2
    ∷ row 66 12 2 ∷ row 30 0 2 ∷ row 47 0 2 ∷ row 49 0 2 ∷ row 66 13 2 ∷ row 30 0 2 ∷ row 53 0 2 ∷ row 66 14 2 ∷ row 30 0 2
    ∷ row 50 0 2 ∷ row 66 15 2 ∷ row 30 0 2 ∷ row 52 0 3 ∷ row 66 16 3 ∷ row 30 0 3 ∷ row 51 0 3 ∷ row 66 17 3 ∷ row 30 0 3
    ∷ row 67 8 3 ∷ row 67 3 3 ∷ row 36 0 3 ∷ row 3 17 3 ∷ row 32 0 3 ∷ row 67 12 3 ∷ row 3 11 3 ∷ row 68 12 3 ∷ row 28 0 3
    ∷ row 67 12 3 ∷ row 3 9 3 ∷ row 68 12 3 ∷ row 28 0 3 ∷ row 67 12 3 ∷ row 3 4 3 ∷ row 68 12 3 ∷ row 28 0 3 ∷ row 67 12 3
    ∷ row 3 16 3 ∷ row 68 12 3 ∷ row 33 0 3 ∷ row 30 0 3 ∷ row 3 17 3 ∷ row 30 0 3 ∷ row 3 1 3 ∷ row 32 0 3 ∷ row 67 12 3
    ∷ row 3 16 3 ∷ row 68 12 3 ∷ row 33 0 3 ∷ row 30 0 3 ∷ row 37 0 3 ∷ row 68 3 3 ∷ row 68 8 3 ∷ row 68 7 3 ∷ row 30 0 3
    ∷ row 67 7 4 ∷ row 51 0 4 ∷ row 63 18 4 ∷ row 30 0 4 ∷ row 67 8 4 ∷ row 68 8 4 ∷ row 68 7 4 ∷ row 30 0 4 ∷ row 47 0 4
    ∷ row 49 0 4 ∷ row 67 5 4 ∷ row 63 19 4 ∷ row 34 0 4 ∷ row 67 14 4 ∷ row 4 1 4 ∷ row 68 14 4 ∷ row 29 0 4 ∷ row 67 14 4
    ∷ row 4 2 4 ∷ row 68 14 4 ∷ row 35 0 4 ∷ row 68 5 4 ∷ row 30 0 4 ∷ row 67 6 4 ∷ row 50 0 4 ∷ row 63 20 4 ∷ row 31 0 4
    ∷ row 67 15 4 ∷ row 3 21 4 ∷ row 68 15 4 ∷ row 68 6 4 ∷ row 30 0 4 ∷ row 3 8 5 ∷ row 31 0 5 ∷ row 3 9 5 ∷ row 10 0 5
    ∷ row 32 0 5 ∷ row 3 9 5 ∷ row 33 0 5 ∷ row 10 0 5 ∷ row 3 4 5 ∷ row 30 0 5 ∷ row 3 10 5 ∷ row 32 0 5 ∷ row 67 12 5
    ∷ row 3 9 5 ∷ row 68 12 5 ∷ row 28 0 5 ∷ row 67 12 5 ∷ row 3 9 5 ∷ row 68 12 5 ∷ row 28 0 5 ∷ row 67 12 5 ∷ row 3 19 5
    ∷ row 68 12 5 ∷ row 28 0 5 ∷ row 67 12 5 ∷ row 3 21 5 ∷ row 68 12 5 ∷ row 28 0 5 ∷ row 67 12 5 ∷ row 3 20 5 ∷ row 68 12 5
    ∷ row 28 0 5 ∷ row 67 12 5 ∷ row 5 0 5 ∷ row 6 121 5 ∷ row 7 0 5 ∷ row 68 12 5 ∷ row 28 0 5 ∷ row 67 12 5 ∷ row 3 18 5
    ∷ row 68 12 5 ∷ row 33 0 5 ∷ row 30 0 5 ∷ row 3 9 5 ∷ row 30 0 5 ∷ row 3 18 5 ∷ row 30 0 5 ∷ row 63 21 5 ∷ row 62 0 5
    ∷ row 37 0 5 ∷ row 68 2 5 ∷ row 68 1 5 ∷ row 8 0 5 ∷ []

abbrev pub text_calls_4 : List Symbol
text_calls_4 = row 67 1 1 ∷ row 67 2 1 ∷ row 69 8 1 ∷ row 70 1 1 ∷ row 69 9 1 ∷ row 70 8 1 ∷ row 69 10 1 ∷ row 70 7 1
    ∷ row 70 11 1 ∷ row 70 13 1 ∷ row 70 15 1 ∷ row 70 17 1 ∷ row 70 18 1 ∷ row 70 19 1 ∷ row 70 20 1 ∷ row 69 18 1 ∷ row 70 7 1
    ∷ row 69 19 1 ∷ row 70 3 1 ∷ row 73 1 1 ∷ row 69 20 1 ∷ row 70 6 1 ∷ row 69 21 1 ∷ row 70 5 1 ∷ row 36 0 1 ∷ row 67 4 1
    ∷ row 47 0 1 ∷ row 63 8 1 ∷ row 68 4 1 ∷ row 30 0 1 ∷ row 67 7 1 ∷ row 47 0 1 ∷ row 51 0 1 ∷ row 63 9 1 ∷ row 30 0 1
    ∷ row 67 8 1 ∷ row 3 9 1 ∷ row 31 0 1 ∷ row 4 1 1 ∷ row 68 8 1 ∷ row 68 7 1 ∷ row 30 0 1 ∷ row 67 7 2 ∷ row 69 11 2
    ∷ row 70 11 2 ∷ row 69 12 2 ∷ row 70 13 2 ∷ row 69 13 2 ∷ row 70 15 2 ∷ row 69 14 2 ∷ row 70 17 2 ∷ row 69 15 2 ∷ row 70 18 2
    ∷ row 69 16 2 ∷ row 70 19 2 ∷ row 69 17 2 ∷ row 70 20 2 ∷ row 51 0 2 ∷ row 63 10 2 ∷ row 32 0 2 ∷ row 64 11 2 ∷ row 28 0 2
    ∷ row 64 12 2 ∷ row 28 0 2 ∷ row 64 13 2 ∷ row 28 0 2 ∷ row 64 14 2 ∷ row 28 0 2 ∷ row 64 15 2 ∷ row 28 0 2 ∷ row 64 16 2
    ∷ row 28 0 2 ∷ row 64 17 2 ∷ row 33 0 2 ∷ row 30 0 2 ∷ row 54 0 2 ∷ row 65 11 2 ∷ row 30 0 2 ∷ row 47 0 2 ∷ row 66 11 2
    ∷ row 28 0 2 ∷ row 66 12 2 ∷ row 30 0 2 ∷ row 47 0 2 ∷ row 49 0 2 ∷ row 66 13 2 ∷ row 30 0 2 ∷ row 53 0 2 ∷ row 66 14 2
    ∷ row 30 0 2 ∷ row 50 0 2 ∷ row 66 15 2 ∷ row 30 0 2 ∷ row 52 0 3 ∷ row 66 16 3 ∷ row 30 0 3 ∷ row 51 0 3 ∷ row 66 17 3
    ∷ row 30 0 3 ∷ row 67 8 3 ∷ row 67 3 3 ∷ row 36 0 3 ∷ row 3 17 3 ∷ row 32 0 3 ∷ row 67 12 3 ∷ row 3 11 3 ∷ row 68 12 3
    ∷ row 28 0 3 ∷ row 67 12 3 ∷ row 3 9 3 ∷ row 68 12 3 ∷ row 28 0 3 ∷ row 67 12 3 ∷ row 3 4 3 ∷ row 68 12 3 ∷ row 28 0 3
    ∷ row 67 12 3 ∷ row 3 16 3 ∷ row 68 12 3 ∷ row 33 0 3 ∷ row 30 0 3 ∷ row 3 17 3 ∷ row 30 0 3 ∷ row 3 1 3 ∷ row 32 0 3
    ∷ row 67 12 3 ∷ row 3 16 3 ∷ row 68 12 3 ∷ row 33 0 3 ∷ row 30 0 3 ∷ row 37 0 3 ∷ row 68 3 3 ∷ row 68 8 3 ∷ row 68 7 3
    ∷ row 30 0 3 ∷ row 67 7 4 ∷ row 51 0 4 ∷ row 63 18 4 ∷ row 30 0 4 ∷ row 67 8 4 ∷ row 68 8 4 ∷ row 68 7 4 ∷ row 30 0 4
    ∷ row 47 0 4 ∷ row 49 0 4 ∷ row 67 5 4 ∷ row 63 19 4 ∷ row 34 0 4 ∷ row 67 14 4 ∷ row 4 1 4 ∷ row 68 14 4 ∷ row 29 0 4
    ∷ row 67 14 4 ∷ row 4 2 4 ∷ row 68 14 4 ∷ row 35 0 4 ∷ row 68 5 4 ∷ row 30 0 4 ∷ row 67 6 4 ∷ row 50 0 4 ∷ row 63 20 4
    ∷ row 31 0 4 ∷ row 67 15 4 ∷ row 3 21 4 ∷ row 68 15 4 ∷ row 68 6 4 ∷ row 30 0 4 ∷ row 3 8 5 ∷ row 31 0 5 ∷ row 3 9 5
    ∷ row 10 0 5 ∷ row 32 0 5 ∷ row 3 9 5 ∷ row 33 0 5 ∷ row 10 0 5 ∷ row 3 4 5 ∷ row 30 0 5 ∷ row 3 10 5 ∷ row 32 0 5
    ∷ row 67 12 5 ∷ row 3 9 5 ∷ row 68 12 5 ∷ row 28 0 5 ∷ row 67 12 5 ∷ row 3 9 5 ∷ row 68 12 5 ∷ row 28 0 5 ∷ row 67 12 5
    ∷ row 3 19 5 ∷ row 68 12 5 ∷ row 28 0 5 ∷ row 67 12 5 ∷ row 3 21 5 ∷ row 68 12 5 ∷ row 28 0 5 ∷ row 67 12 5 ∷ row 3 20 5
    ∷ row 68 12 5 ∷ row 28 0 5 ∷ row 67 12 5 ∷ row 5 0 5 ∷ row 6 121 5 ∷ row 7 0 5 ∷ row 68 12 5 ∷ row 28 0 5 ∷ row 67 12 5
    ∷ row 3 18 5 ∷ row 68 12 5 ∷ row 33 0 5 ∷ row 30 0 5 ∷ row 3 9 5 ∷ row 30 0 5 ∷ row 3 18 5 ∷ row 30 0 5 ∷ row 63 21 5
    ∷ row 62 0 5 ∷ row 37 0 5 ∷ row 68 2 5 ∷ row 68 1 5 ∷ row 8 0 5 ∷ []

abbrev pub text_calls_5 : List Symbol
text_calls_5 = row 67 1 1 ∷ row 67 2 1 ∷ row 69 8 1 ∷ row 70 1 1 ∷ row 69 9 1 ∷ row 70 8 1 ∷ row 69 10 1 ∷ row 70 7 1
    ∷ row 70 11 1 ∷ row 70 13 1 ∷ row 70 15 1 ∷ row 70 17 1 ∷ row 70 18 1 ∷ row 70 19 1 ∷ row 70 20 1 ∷ row 69 18 1 ∷ row 70 7 1
    ∷ row 69 19 1 ∷ row 70 3 1 ∷ row 73 1 1 ∷ row 69 20 1 ∷ row 70 6 1 ∷ row 69 21 1 ∷ row 70 5 1 ∷ row 36 0 1 ∷ row 67 4 1
    ∷ row 47 0 1 ∷ row 63 8 1 ∷ row 68 4 1 ∷ row 30 0 1 ∷ row 67 7 1 ∷ row 47 0 1 ∷ row 51 0 1 ∷ row 63 9 1 ∷ row 30 0 1
    ∷ row 67 8 1 ∷ row 71 8 1 ∷ row 72 33554432 1 ∷ row 73 0 1 ∷ row 31 0 1 ∷ row 4 1 1 ∷ row 68 8 1 ∷ row 68 7 1 ∷ row 30 0 1
    ∷ row 67 7 2 ∷ row 69 11 2 ∷ row 70 11 2 ∷ row 69 12 2 ∷ row 70 13 2 ∷ row 69 13 2 ∷ row 70 15 2 ∷ row 69 14 2 ∷ row 70 17 2
    ∷ row 69 15 2 ∷ row 70 18 2 ∷ row 69 16 2 ∷ row 70 19 2 ∷ row 69 17 2 ∷ row 70 20 2 ∷ row 51 0 2 ∷ row 63 10 2 ∷ row 32 0 2
    ∷ row 64 11 2 ∷ row 28 0 2 ∷ row 64 12 2 ∷ row 28 0 2 ∷ row 64 13 2 ∷ row 28 0 2 ∷ row 64 14 2 ∷ row 28 0 2 ∷ row 64 15 2
    ∷ row 28 0 2 ∷ row 64 16 2 ∷ row 28 0 2 ∷ row 64 17 2 ∷ row 33 0 2 ∷ row 30 0 2 ∷ row 54 0 2 ∷ row 65 11 2 ∷ row 30 0 2
    ∷ row 47 0 2 ∷ row 66 11 2 ∷ row 28 0 2 ∷ row 66 12 2 ∷ row 30 0 2 ∷ row 47 0 2 ∷ row 49 0 2 ∷ row 66 13 2 ∷ row 30 0 2
    ∷ row 53 0 2 ∷ row 66 14 2 ∷ row 30 0 2 ∷ row 50 0 2 ∷ row 66 15 2 ∷ row 30 0 2 ∷ row 52 0 3 ∷ row 66 16 3 ∷ row 30 0 3
    ∷ row 51 0 3 ∷ row 66 17 3 ∷ row 30 0 3 ∷ row 67 8 3 ∷ row 67 3 3 ∷ row 36 0 3 ∷ row 71 20 3 ∷ row 72 50331665 3 ∷ row 32 0 3
    ∷ row 67 12 3 ∷ row 71 11 3 ∷ row 72 50331653 3 ∷ row 68 12 3 ∷ row 28 0 3 ∷ row 67 12 3 ∷ row 71 8 3 ∷ row 72 33554432 3
    ∷ row 73 0 3 ∷ row 68 12 3 ∷ row 28 0 3 ∷ row 67 12 3 ∷ row 71 35 3 ∷ row 72 0 3 ∷ row 68 12 3 ∷ row 28 0 3 ∷ row 67 12 3
    ∷ row 71 19 3 ∷ row 72 50331663 3 ∷ row 68 12 3 ∷ row 33 0 3 ∷ row 30 0 3 ∷ row 71 20 3 ∷ row 72 50331665 3 ∷ row 30 0 3
    ∷ row 71 32 3 ∷ row 72 0 3 ∷ row 32 0 3 ∷ row 67 12 3 ∷ row 71 19 3 ∷ row 72 50331663 3 ∷ row 68 12 3 ∷ row 33 0 3
    ∷ row 30 0 3 ∷ row 37 0 3 ∷ row 68 3 3 ∷ row 68 8 3 ∷ row 68 7 3 ∷ row 30 0 3 ∷ row 67 7 4 ∷ row 51 0 4 ∷ row 63 18 4
    ∷ row 30 0 4 ∷ row 67 8 4 ∷ row 68 8 4 ∷ row 68 7 4 ∷ row 30 0 4 ∷ row 47 0 4 ∷ row 49 0 4 ∷ row 67 5 4 ∷ row 63 19 4
    ∷ row 34 0 4 ∷ row 67 14 4 ∷ row 4 1 4 ∷ row 68 14 4 ∷ row 29 0 4 ∷ row 67 14 4 ∷ row 4 2 4 ∷ row 68 14 4 ∷ row 35 0 4
    ∷ row 68 5 4 ∷ row 30 0 4 ∷ row 67 6 4 ∷ row 50 0 4 ∷ row 63 20 4 ∷ row 31 0 4 ∷ row 67 15 4 ∷ row 71 5 4 ∷ row 72 33554436 4
    ∷ row 68 15 4 ∷ row 68 6 4 ∷ row 30 0 4 ∷ row 71 1 5 ∷ row 72 33554435 5 ∷ row 31 0 5 ∷ row 71 8 5 ∷ row 72 33554432 5
    ∷ row 73 0 5 ∷ row 10 0 5 ∷ row 32 0 5 ∷ row 71 8 5 ∷ row 72 33554432 5 ∷ row 73 0 5 ∷ row 33 0 5 ∷ row 10 0 5 ∷ row 71 35 5
    ∷ row 72 0 5 ∷ row 30 0 5 ∷ row 71 7 5 ∷ row 72 33554433 5 ∷ row 73 7 5 ∷ row 32 0 5 ∷ row 67 12 5 ∷ row 71 8 5
    ∷ row 72 33554432 5 ∷ row 73 0 5 ∷ row 68 12 5 ∷ row 28 0 5 ∷ row 67 12 5 ∷ row 71 8 5 ∷ row 72 33554432 5 ∷ row 73 0 5
    ∷ row 68 12 5 ∷ row 28 0 5 ∷ row 67 12 5 ∷ row 71 3 5 ∷ row 72 33554436 5 ∷ row 73 1 5 ∷ row 68 12 5 ∷ row 28 0 5
    ∷ row 67 12 5 ∷ row 71 5 5 ∷ row 72 33554436 5 ∷ row 68 12 5 ∷ row 28 0 5 ∷ row 67 12 5 ∷ row 71 6 5 ∷ row 72 33554435 5
    ∷ row 68 12 5 ∷ row 28 0 5 ∷ row 67 12 5 ∷ row 5 0 5 ∷ row 6 121 5 ∷ row 7 0 5 ∷ row 68 12 5 ∷ row 28 0 5 ∷ row 67 12 5
    ∷ row 71 7 5 ∷ row 72 33554434 5 ∷ row 73 0 5 ∷ row 68 12 5 ∷ row 33 0 5 ∷ row 30 0 5 ∷ row 71 8 5 ∷ row 72 33554432 5
    ∷ row 73 0 5 ∷ row 30 0 5 ∷ row 71 7 5 ∷ row 72 33554434 5 ∷ row 73 0 5 ∷ row 30 0 5 ∷ row 63 21 5 ∷ row 62 0 5 ∷ row 37 0 5
    ∷ row 68 2 5 ∷ row 68 1 5 ∷ row 8 0 5 ∷ []

abbrev pub text_calls_6 : List Symbol
text_calls_6 = row 67 1 1 ∷ row 67 2 1 ∷ row 69 8 1 ∷ row 70 1 1 ∷ row 69 9 1 ∷ row 70 8 1 ∷ row 69 10 1 ∷ row 70 7 1
    ∷ row 70 11 1 ∷ row 70 13 1 ∷ row 70 15 1 ∷ row 70 17 1 ∷ row 70 18 1 ∷ row 70 19 1 ∷ row 70 20 1 ∷ row 69 18 1 ∷ row 70 7 1
    ∷ row 69 19 1 ∷ row 70 3 1 ∷ row 73 1 1 ∷ row 69 20 1 ∷ row 70 6 1 ∷ row 69 21 1 ∷ row 70 5 1 ∷ row 36 0 1 ∷ row 67 4 1
    ∷ row 47 0 1 ∷ row 63 8 1 ∷ row 68 4 1 ∷ row 30 0 1 ∷ row 67 7 1 ∷ row 47 0 1 ∷ row 51 0 1 ∷ row 63 9 1 ∷ row 30 0 1
    ∷ row 67 8 1 ∷ row 71 8 1 ∷ row 72 33554432 1 ∷ row 73 0 1 ∷ row 31 0 1 ∷ row 4 1 1 ∷ row 68 8 1 ∷ row 68 7 1 ∷ row 30 0 1
    ∷ row 67 7 2 ∷ row 69 11 2 ∷ row 70 11 2 ∷ row 69 12 2 ∷ row 70 13 2 ∷ row 69 13 2 ∷ row 70 15 2 ∷ row 69 14 2 ∷ row 70 17 2
    ∷ row 69 15 2 ∷ row 70 18 2 ∷ row 69 16 2 ∷ row 70 19 2 ∷ row 69 17 2 ∷ row 70 20 2 ∷ row 51 0 2 ∷ row 63 10 2 ∷ row 32 0 2
    ∷ row 64 11 2 ∷ row 28 0 2 ∷ row 64 12 2 ∷ row 28 0 2 ∷ row 64 13 2 ∷ row 28 0 2 ∷ row 64 14 2 ∷ row 28 0 2 ∷ row 64 15 2
    ∷ row 28 0 2 ∷ row 64 16 2 ∷ row 28 0 2 ∷ row 64 17 2 ∷ row 33 0 2 ∷ row 30 0 2 ∷ row 54 0 2 ∷ row 65 11 2 ∷ row 30 0 2
    ∷ row 47 0 2 ∷ row 66 11 2 ∷ row 28 0 2 ∷ row 66 12 2 ∷ row 30 0 2 ∷ row 47 0 2 ∷ row 49 0 2 ∷ row 66 13 2 ∷ row 30 0 2
    ∷ row 53 0 2 ∷ row 66 14 2 ∷ row 30 0 2 ∷ row 50 0 2 ∷ row 66 15 2 ∷ row 30 0 2 ∷ row 52 0 3 ∷ row 66 16 3 ∷ row 30 0 3
    ∷ row 51 0 3 ∷ row 66 17 3 ∷ row 30 0 3 ∷ row 67 8 3 ∷ row 67 3 3 ∷ row 36 0 3 ∷ row 71 20 3 ∷ row 72 50331665 3 ∷ row 67 12 3
    ∷ row 71 11 3 ∷ row 72 50331653 3 ∷ row 68 12 3 ∷ row 67 12 3 ∷ row 71 8 3 ∷ row 72 33554432 3 ∷ row 73 0 3 ∷ row 68 12 3
    ∷ row 67 12 3 ∷ row 71 35 3 ∷ row 72 0 3 ∷ row 76 0 3 ∷ row 68 12 3 ∷ row 67 12 3 ∷ row 71 19 3 ∷ row 72 50331663 3
    ∷ row 68 12 3 ∷ row 76 4 3 ∷ row 30 0 3 ∷ row 71 20 3 ∷ row 72 50331665 3 ∷ row 76 0 3 ∷ row 30 0 3 ∷ row 71 32 3 ∷ row 72 0 3
    ∷ row 67 12 3 ∷ row 71 19 3 ∷ row 72 50331663 3 ∷ row 68 12 3 ∷ row 76 1 3 ∷ row 30 0 3 ∷ row 37 0 3 ∷ row 68 3 3 ∷ row 68 8 3
    ∷ row 68 7 3 ∷ row 30 0 3 ∷ row 67 7 4 ∷ row 51 0 4 ∷ row 63 18 4 ∷ row 30 0 4 ∷ row 67 8 4 ∷ row 68 8 4 ∷ row 68 7 4
    ∷ row 30 0 4 ∷ row 47 0 4 ∷ row 49 0 4 ∷ row 67 5 4 ∷ row 63 19 4 ∷ row 34 0 4 ∷ row 67 14 4 ∷ row 4 1 4 ∷ row 68 14 4
    ∷ row 29 0 4 ∷ row 67 14 4 ∷ row 4 2 4 ∷ row 68 14 4 ∷ row 35 0 4 ∷ row 68 5 4 ∷ row 30 0 4 ∷ row 67 6 4 ∷ row 50 0 4
    ∷ row 63 20 4 ∷ row 31 0 4 ∷ row 67 15 4 ∷ row 71 5 4 ∷ row 72 33554436 4 ∷ row 68 15 4 ∷ row 68 6 4 ∷ row 30 0 4 ∷ row 71 1 5
    ∷ row 72 33554435 5 ∷ row 31 0 5 ∷ row 71 8 5 ∷ row 72 33554432 5 ∷ row 73 0 5 ∷ row 76 0 5 ∷ row 32 0 5 ∷ row 71 8 5
    ∷ row 72 33554432 5 ∷ row 73 0 5 ∷ row 76 0 5 ∷ row 33 0 5 ∷ row 74 10 5 ∷ row 71 35 5 ∷ row 72 0 5 ∷ row 76 0 5 ∷ row 74 10 5
    ∷ row 30 0 5 ∷ row 71 7 5 ∷ row 72 33554433 5 ∷ row 73 7 5 ∷ row 67 12 5 ∷ row 71 8 5 ∷ row 72 33554432 5 ∷ row 73 0 5
    ∷ row 76 0 5 ∷ row 68 12 5 ∷ row 67 12 5 ∷ row 71 8 5 ∷ row 72 33554432 5 ∷ row 73 0 5 ∷ row 76 0 5 ∷ row 68 12 5
    ∷ row 67 12 5 ∷ row 71 3 5 ∷ row 72 33554436 5 ∷ row 73 1 5 ∷ row 68 12 5 ∷ row 67 12 5 ∷ row 71 5 5 ∷ row 72 33554436 5
    ∷ row 68 12 5 ∷ row 67 12 5 ∷ row 71 6 5 ∷ row 72 33554435 5 ∷ row 68 12 5 ∷ row 67 12 5 ∷ row 5 0 5 ∷ row 6 121 5 ∷ row 7 0 5
    ∷ row 68 12 5 ∷ row 67 12 5 ∷ row 71 7 5 ∷ row 72 33554434 5 ∷ row 73 0 5 ∷ row 68 12 5 ∷ row 76 7 5 ∷ row 30 0 5 ∷ row 71 8 5
    ∷ row 72 33554432 5 ∷ row 73 0 5 ∷ row 76 0 5 ∷ row 30 0 5 ∷ row 71 7 5 ∷ row 72 33554434 5 ∷ row 73 0 5 ∷ row 76 0 5
    ∷ row 30 0 5 ∷ row 63 21 5 ∷ row 62 0 5 ∷ row 37 0 5 ∷ row 68 2 5 ∷ row 68 1 5 ∷ row 8 0 5 ∷ []

-- own quantities
abbrev pub text_own : Program
text_own = MkProgram ([]) (MkBlock 1 (DeclareType (record { type = IntegerType; line = 1 }) (MkNames (at 8 1) ([]))) 1
    (MoreDeclarations (DeclareOwn 1 (record { type = IntegerType; line = 1 }) (MkNames (at 9 1) (record
    { comma = 1; name = (at 10 1) } ∷ []))) 1 (MoreDeclarations
    (DeclareOwnArrays 1 (record { type = BooleanType; line = 1 }) 1
    (MkFixed (MkNames (at 11 1) (record { comma = 1; name = (at 12 1) } ∷ [])) 1
    (MkFixedPair (Unsigned 1 1) 1 (Unsigned 2 1))
    (MoreFurther 1 (MkFixedPair (WithSign Subtract 1 3 1) 1 (WithSign Add 1 4 1)) NoFurther) 1) (record
    { comma = 1; segment = (MkFixed (MkNames (at 13 1) ([])) 1 (MkFixedPair (Unsigned 0 1) 1 (Unsigned 1 1)) NoFurther 1) }
    ∷ [])) 1 (MoreDeclarations (DeclareProcedure (MkHeading None 2 (at 14 2) NoFormals 2 NoValues ([])) (OneUnconditional
    (MkUnconditional ([]) (OneGroup (MkBlock 2 (DeclareOwn 2 (record { type = BooleanType; line = 2 }) (MkNames (at 10 2)
    ([]))) 2 NoDeclarations
    (OneUnconditional (MkUnconditional ([]) (Assign (record { left = OneName (at 10 2); becomes = 2 }) ([]) (only
    (OneElement (Subscripted (at 11 2) 2 (only (Numeral 1 2)) (MoreExprs 2 (only (Numeral 2 2)) NoExprs) 2))))))
    NoStatements 2))))) 2 NoDeclarations))) (OneUnconditional (MkUnconditional (record { name = (at 15 3); colon = 3 } ∷ [])
    (Assign (record { left = OneName (at 9 3); becomes = 3 }) ([]) (OneSimple (OneImplication (OneDisjunction (OneConjunction
    (OneNegation (OneRelation (OneArithmetic (Summed (OneTerm (OneFactor (OnePrimary (OneCall (Alone (at 10 3)))))) Add 3
    (OneFactor (OnePrimary (OneCall (Alone (at 8 3))))))))))))))))
    (MoreStatements 3
    (OneUnconditional (MkUnconditional ([]) (Assign
    (record {
      left = LeftElement
          (Subscripted (at 11 3) 3 (only (Numeral 1 3)) (MoreExprs 3 (only (Numeral 2 3)) NoExprs) 3);
      becomes = 3;
    }) ([]) (only
    (OneElement (Subscripted (at 13 3) 3 (only (Numeral 0 3)) NoExprs 3)))))) NoStatements) 3) 3

abbrev pub text_own_3 : List Symbol
text_own_3 = row 67 1 1 ∷ row 67 2 1 ∷ row 36 0 1 ∷ row 67 4 1 ∷ row 47 0 1 ∷ row 63 8 1 ∷ row 68 4 1 ∷ row 30 0 1 ∷ row 67 4 1
    ∷ row 55 0 1 ∷ row 47 0 1 ∷ row 63 9 1 ∷ row 77 0 1 ∷ row 28 0 1 ∷ row 63 10 1 ∷ row 77 1 1 ∷ row 68 4 1 ∷ row 30 0 1
    ∷ row 55 0 1 ∷ row 48 0 1 ∷ row 49 0 1 ∷ row 67 5 1 ∷ row 63 11 1 ∷ row 77 2 1 ∷ row 28 0 1 ∷ row 63 12 1 ∷ row 77 3 1
    ∷ row 34 0 1 ∷ row 67 14 1 ∷ row 4 1 1 ∷ row 68 14 1 ∷ row 29 0 1 ∷ row 67 14 1 ∷ row 4 2 1 ∷ row 68 14 1 ∷ row 28 0 1
    ∷ row 67 14 1 ∷ row 61 0 1 ∷ row 4 3 1 ∷ row 68 14 1 ∷ row 29 0 1 ∷ row 67 14 1 ∷ row 60 0 1 ∷ row 4 4 1 ∷ row 68 14 1
    ∷ row 35 0 1 ∷ row 68 5 1 ∷ row 28 0 1 ∷ row 67 5 1 ∷ row 63 13 1 ∷ row 77 4 1 ∷ row 34 0 1 ∷ row 67 14 1 ∷ row 4 0 1
    ∷ row 68 14 1 ∷ row 29 0 1 ∷ row 67 14 1 ∷ row 4 1 1 ∷ row 68 14 1 ∷ row 35 0 1 ∷ row 68 5 1 ∷ row 30 0 1 ∷ row 67 7 2
    ∷ row 51 0 2 ∷ row 63 14 2 ∷ row 30 0 2 ∷ row 67 8 2 ∷ row 67 2 2 ∷ row 36 0 2 ∷ row 67 4 2 ∷ row 55 0 2 ∷ row 48 0 2
    ∷ row 63 10 2 ∷ row 77 5 2 ∷ row 68 4 2 ∷ row 30 0 2 ∷ row 3 10 2 ∷ row 31 0 2 ∷ row 3 11 2 ∷ row 34 0 2 ∷ row 67 13 2
    ∷ row 4 1 2 ∷ row 68 13 2 ∷ row 28 0 2 ∷ row 67 13 2 ∷ row 4 2 2 ∷ row 68 13 2 ∷ row 35 0 2 ∷ row 37 0 2 ∷ row 68 2 2
    ∷ row 68 8 2 ∷ row 68 7 2 ∷ row 30 0 2 ∷ row 63 15 3 ∷ row 62 0 3 ∷ row 3 9 3 ∷ row 31 0 3 ∷ row 3 10 3 ∷ row 10 0 3
    ∷ row 3 8 3 ∷ row 30 0 3 ∷ row 3 11 3 ∷ row 34 0 3 ∷ row 67 13 3 ∷ row 4 1 3 ∷ row 68 13 3 ∷ row 28 0 3 ∷ row 67 13 3
    ∷ row 4 2 3 ∷ row 68 13 3 ∷ row 35 0 3 ∷ row 31 0 3 ∷ row 3 13 3 ∷ row 34 0 3 ∷ row 67 13 3 ∷ row 4 0 3 ∷ row 68 13 3
    ∷ row 35 0 3 ∷ row 37 0 3 ∷ row 68 2 3 ∷ row 68 1 3 ∷ row 8 6 3 ∷ []

abbrev pub text_own_4 : List Symbol
text_own_4 = row 67 1 1 ∷ row 67 2 1 ∷ row 69 4294967296 1 ∷ row 70 1 1 ∷ row 69 4294967297 1 ∷ row 70 1 1 ∷ row 69 4294967298 1
    ∷ row 70 4 1 ∷ row 73 2 1 ∷ row 69 4294967299 1 ∷ row 70 4 1 ∷ row 73 2 1 ∷ row 69 4294967300 1 ∷ row 70 4 1 ∷ row 73 1 1
    ∷ row 69 4294967301 1 ∷ row 70 2 1 ∷ row 36 0 1 ∷ row 67 4 1 ∷ row 47 0 1 ∷ row 63 4294967296 1 ∷ row 28 0 1
    ∷ row 63 4294967297 1 ∷ row 68 4 1 ∷ row 30 0 1 ∷ row 48 0 1 ∷ row 49 0 1 ∷ row 67 5 1 ∷ row 63 4294967298 1 ∷ row 28 0 1
    ∷ row 63 4294967299 1 ∷ row 34 0 1 ∷ row 67 14 1 ∷ row 4 1 1 ∷ row 68 14 1 ∷ row 29 0 1 ∷ row 67 14 1 ∷ row 4 2 1
    ∷ row 68 14 1 ∷ row 28 0 1 ∷ row 67 14 1 ∷ row 61 0 1 ∷ row 4 3 1 ∷ row 68 14 1 ∷ row 29 0 1 ∷ row 67 14 1 ∷ row 60 0 1
    ∷ row 4 4 1 ∷ row 68 14 1 ∷ row 35 0 1 ∷ row 68 5 1 ∷ row 28 0 1 ∷ row 67 5 1 ∷ row 63 4294967300 1 ∷ row 34 0 1 ∷ row 67 14 1
    ∷ row 4 0 1 ∷ row 68 14 1 ∷ row 29 0 1 ∷ row 67 14 1 ∷ row 4 1 1 ∷ row 68 14 1 ∷ row 35 0 1 ∷ row 68 5 1 ∷ row 30 0 1
    ∷ row 67 4 2 ∷ row 48 0 2 ∷ row 63 4294967301 2 ∷ row 68 4 2 ∷ row 30 0 2 ∷ row 67 2 1 ∷ row 69 8 1 ∷ row 70 1 1 ∷ row 69 9 1
    ∷ row 78 4294967296 1 ∷ row 69 10 1 ∷ row 78 4294967297 1 ∷ row 69 11 1 ∷ row 78 4294967298 1 ∷ row 69 12 1
    ∷ row 78 4294967299 1 ∷ row 69 13 1 ∷ row 78 4294967300 1 ∷ row 69 14 1 ∷ row 70 7 1 ∷ row 69 15 1 ∷ row 70 5 1 ∷ row 36 0 1
    ∷ row 67 4 1 ∷ row 47 0 1 ∷ row 63 8 1 ∷ row 68 4 1 ∷ row 30 0 1 ∷ row 30 0 1 ∷ row 30 0 1 ∷ row 67 7 2 ∷ row 51 0 2
    ∷ row 63 14 2 ∷ row 30 0 2 ∷ row 67 8 2 ∷ row 67 2 2 ∷ row 69 10 2 ∷ row 78 4294967301 2 ∷ row 36 0 2 ∷ row 30 0 2
    ∷ row 3 10 2 ∷ row 31 0 2 ∷ row 3 11 2 ∷ row 34 0 2 ∷ row 67 13 2 ∷ row 4 1 2 ∷ row 68 13 2 ∷ row 28 0 2 ∷ row 67 13 2
    ∷ row 4 2 2 ∷ row 68 13 2 ∷ row 35 0 2 ∷ row 37 0 2 ∷ row 68 2 2 ∷ row 68 8 2 ∷ row 68 7 2 ∷ row 30 0 2 ∷ row 63 15 3
    ∷ row 62 0 3 ∷ row 3 9 3 ∷ row 31 0 3 ∷ row 3 10 3 ∷ row 10 0 3 ∷ row 3 8 3 ∷ row 30 0 3 ∷ row 3 11 3 ∷ row 34 0 3
    ∷ row 67 13 3 ∷ row 4 1 3 ∷ row 68 13 3 ∷ row 28 0 3 ∷ row 67 13 3 ∷ row 4 2 3 ∷ row 68 13 3 ∷ row 35 0 3 ∷ row 31 0 3
    ∷ row 3 13 3 ∷ row 34 0 3 ∷ row 67 13 3 ∷ row 4 0 3 ∷ row 68 13 3 ∷ row 35 0 3 ∷ row 37 0 3 ∷ row 68 2 3 ∷ row 37 0 3
    ∷ row 68 2 3 ∷ row 68 1 3 ∷ row 8 0 3 ∷ []

abbrev pub text_own_5 : List Symbol
text_own_5 = row 67 1 1 ∷ row 67 2 1 ∷ row 69 4294967296 1 ∷ row 70 1 1 ∷ row 69 4294967297 1 ∷ row 70 1 1 ∷ row 69 4294967298 1
    ∷ row 70 4 1 ∷ row 73 2 1 ∷ row 69 4294967299 1 ∷ row 70 4 1 ∷ row 73 2 1 ∷ row 69 4294967300 1 ∷ row 70 4 1 ∷ row 73 1 1
    ∷ row 69 4294967301 1 ∷ row 70 2 1 ∷ row 36 0 1 ∷ row 67 4 1 ∷ row 47 0 1 ∷ row 63 4294967296 1 ∷ row 28 0 1
    ∷ row 63 4294967297 1 ∷ row 68 4 1 ∷ row 30 0 1 ∷ row 48 0 1 ∷ row 49 0 1 ∷ row 67 5 1 ∷ row 63 4294967298 1 ∷ row 28 0 1
    ∷ row 63 4294967299 1 ∷ row 34 0 1 ∷ row 67 14 1 ∷ row 4 1 1 ∷ row 68 14 1 ∷ row 29 0 1 ∷ row 67 14 1 ∷ row 4 2 1
    ∷ row 68 14 1 ∷ row 28 0 1 ∷ row 67 14 1 ∷ row 61 0 1 ∷ row 4 3 1 ∷ row 68 14 1 ∷ row 29 0 1 ∷ row 67 14 1 ∷ row 60 0 1
    ∷ row 4 4 1 ∷ row 68 14 1 ∷ row 35 0 1 ∷ row 68 5 1 ∷ row 28 0 1 ∷ row 67 5 1 ∷ row 63 4294967300 1 ∷ row 34 0 1 ∷ row 67 14 1
    ∷ row 4 0 1 ∷ row 68 14 1 ∷ row 29 0 1 ∷ row 67 14 1 ∷ row 4 1 1 ∷ row 68 14 1 ∷ row 35 0 1 ∷ row 68 5 1 ∷ row 30 0 1
    ∷ row 67 4 2 ∷ row 48 0 2 ∷ row 63 4294967301 2 ∷ row 68 4 2 ∷ row 30 0 2 ∷ row 67 2 1 ∷ row 69 8 1 ∷ row 70 1 1 ∷ row 69 14 1
    ∷ row 70 7 1 ∷ row 69 15 1 ∷ row 70 5 1 ∷ row 36 0 1 ∷ row 67 4 1 ∷ row 47 0 1 ∷ row 63 8 1 ∷ row 68 4 1 ∷ row 30 0 1
    ∷ row 30 0 1 ∷ row 30 0 1 ∷ row 67 7 2 ∷ row 51 0 2 ∷ row 63 14 2 ∷ row 30 0 2 ∷ row 67 8 2 ∷ row 67 2 2 ∷ row 36 0 2
    ∷ row 30 0 2 ∷ row 71 2 2 ∷ row 72 33554453 2 ∷ row 31 0 2 ∷ row 71 4 2 ∷ row 72 33554437 2 ∷ row 73 2 2 ∷ row 34 0 2
    ∷ row 67 13 2 ∷ row 4 1 2 ∷ row 68 13 2 ∷ row 28 0 2 ∷ row 67 13 2 ∷ row 4 2 2 ∷ row 68 13 2 ∷ row 35 0 2 ∷ row 37 0 2
    ∷ row 68 2 2 ∷ row 68 8 2 ∷ row 68 7 2 ∷ row 30 0 2 ∷ row 63 15 3 ∷ row 62 0 3 ∷ row 71 1 3 ∷ row 72 33554435 3 ∷ row 31 0 3
    ∷ row 71 1 3 ∷ row 72 33554436 3 ∷ row 10 0 3 ∷ row 71 1 3 ∷ row 72 50331651 3 ∷ row 30 0 3 ∷ row 71 4 3 ∷ row 72 33554437 3
    ∷ row 73 2 3 ∷ row 34 0 3 ∷ row 67 13 3 ∷ row 4 1 3 ∷ row 68 13 3 ∷ row 28 0 3 ∷ row 67 13 3 ∷ row 4 2 3 ∷ row 68 13 3
    ∷ row 35 0 3 ∷ row 31 0 3 ∷ row 71 4 3 ∷ row 72 33554449 3 ∷ row 73 1 3 ∷ row 34 0 3 ∷ row 67 13 3 ∷ row 4 0 3 ∷ row 68 13 3
    ∷ row 35 0 3 ∷ row 37 0 3 ∷ row 68 2 3 ∷ row 37 0 3 ∷ row 68 2 3 ∷ row 68 1 3 ∷ row 8 0 3 ∷ []

abbrev pub text_own_6 : List Symbol
text_own_6 = row 67 1 1 ∷ row 67 2 1 ∷ row 69 4294967296 1 ∷ row 70 1 1 ∷ row 69 4294967297 1 ∷ row 70 1 1 ∷ row 69 4294967298 1
    ∷ row 70 4 1 ∷ row 73 2 1 ∷ row 69 4294967299 1 ∷ row 70 4 1 ∷ row 73 2 1 ∷ row 69 4294967300 1 ∷ row 70 4 1 ∷ row 73 1 1
    ∷ row 69 4294967301 1 ∷ row 70 2 1 ∷ row 36 0 1 ∷ row 67 4 1 ∷ row 47 0 1 ∷ row 63 4294967296 1 ∷ row 28 0 1
    ∷ row 63 4294967297 1 ∷ row 68 4 1 ∷ row 30 0 1 ∷ row 48 0 1 ∷ row 49 0 1 ∷ row 67 5 1 ∷ row 63 4294967298 1 ∷ row 28 0 1
    ∷ row 63 4294967299 1 ∷ row 34 0 1 ∷ row 67 14 1 ∷ row 4 1 1 ∷ row 68 14 1 ∷ row 29 0 1 ∷ row 67 14 1 ∷ row 4 2 1
    ∷ row 68 14 1 ∷ row 28 0 1 ∷ row 67 14 1 ∷ row 4 3 1 ∷ row 74 61 1 ∷ row 68 14 1 ∷ row 29 0 1 ∷ row 67 14 1 ∷ row 4 4 1
    ∷ row 74 60 1 ∷ row 68 14 1 ∷ row 35 0 1 ∷ row 68 5 1 ∷ row 28 0 1 ∷ row 67 5 1 ∷ row 63 4294967300 1 ∷ row 34 0 1
    ∷ row 67 14 1 ∷ row 4 0 1 ∷ row 68 14 1 ∷ row 29 0 1 ∷ row 67 14 1 ∷ row 4 1 1 ∷ row 68 14 1 ∷ row 35 0 1 ∷ row 68 5 1
    ∷ row 30 0 1 ∷ row 67 4 2 ∷ row 48 0 2 ∷ row 63 4294967301 2 ∷ row 68 4 2 ∷ row 30 0 2 ∷ row 67 2 1 ∷ row 69 8 1 ∷ row 70 1 1
    ∷ row 69 14 1 ∷ row 70 7 1 ∷ row 69 15 1 ∷ row 70 5 1 ∷ row 36 0 1 ∷ row 67 4 1 ∷ row 47 0 1 ∷ row 63 8 1 ∷ row 68 4 1
    ∷ row 30 0 1 ∷ row 30 0 1 ∷ row 30 0 1 ∷ row 67 7 2 ∷ row 51 0 2 ∷ row 63 14 2 ∷ row 30 0 2 ∷ row 67 8 2 ∷ row 67 2 2
    ∷ row 36 0 2 ∷ row 30 0 2 ∷ row 71 2 2 ∷ row 72 33554453 2 ∷ row 31 0 2 ∷ row 71 4 2 ∷ row 72 33554437 2 ∷ row 73 2 2
    ∷ row 67 13 2 ∷ row 4 1 2 ∷ row 68 13 2 ∷ row 67 13 2 ∷ row 4 2 2 ∷ row 68 13 2 ∷ row 75 2 2 ∷ row 37 0 2 ∷ row 68 2 2
    ∷ row 68 8 2 ∷ row 68 7 2 ∷ row 30 0 2 ∷ row 63 15 3 ∷ row 62 0 3 ∷ row 71 1 3 ∷ row 72 33554435 3 ∷ row 31 0 3 ∷ row 71 1 3
    ∷ row 72 33554436 3 ∷ row 71 1 3 ∷ row 72 50331651 3 ∷ row 74 10 3 ∷ row 30 0 3 ∷ row 71 4 3 ∷ row 72 33554437 3 ∷ row 73 2 3
    ∷ row 67 13 3 ∷ row 4 1 3 ∷ row 68 13 3 ∷ row 67 13 3 ∷ row 4 2 3 ∷ row 68 13 3 ∷ row 75 2 3 ∷ row 31 0 3 ∷ row 71 4 3
    ∷ row 72 33554449 3 ∷ row 73 1 3 ∷ row 67 13 3 ∷ row 4 0 3 ∷ row 68 13 3 ∷ row 75 1 3 ∷ row 37 0 3 ∷ row 68 2 3 ∷ row 37 0 3
    ∷ row 68 2 3 ∷ row 68 1 3 ∷ row 8 0 3 ∷ []

pub record AreTexts : Type 0 where
  pub text_sums_is_3 : text3 text_sums ≡ text_sums_3
  pub text_sums_is_4 : text4 text_sums ≡ text_sums_4
  pub text_sums_is_5 : text5 text_sums ≡ text_sums_5
  pub text_sums_is_6 : text6 text_sums ≡ text_sums_6
  pub text_labels_is_3 : text3 text_labels ≡ text_labels_3
  pub text_labels_is_4 : text4 text_labels ≡ text_labels_4
  pub text_labels_is_5 : text5 text_labels ≡ text_labels_5
  pub text_labels_is_6 : text6 text_labels ≡ text_labels_6
  pub text_arrays_is_3 : text3 text_arrays ≡ text_arrays_3
  pub text_arrays_is_4 : text4 text_arrays ≡ text_arrays_4
  pub text_arrays_is_5 : text5 text_arrays ≡ text_arrays_5
  pub text_arrays_is_6 : text6 text_arrays ≡ text_arrays_6
  pub text_calls_is_3 : text3 text_calls ≡ text_calls_3
  pub text_calls_is_4 : text4 text_calls ≡ text_calls_4
  pub text_calls_is_5 : text5 text_calls ≡ text_calls_5
  pub text_calls_is_6 : text6 text_calls ≡ text_calls_6
  pub text_own_is_3 : text3 text_own ≡ text_own_3
  pub text_own_is_4 : text4 text_own ≡ text_own_4
  pub text_own_is_5 : text5 text_own ≡ text_own_5
  pub text_own_is_6 : text6 text_own ≡ text_own_6
