-- The texts 7 and 8 and the objects of some programs.
use Rattle.std.specs.Prelude.{◌≡◌, ℕ, true, false, List, [], ◌∷◌, None, Some}
use Rattle.gier_symbol.specs.declared.symbol.Symbol.{Symbol}
use Rattle.gier_tree.specs.Trees.{Add, Subtract, Multiply, Divide, LessThan, EqualTo, AtLeast, OneSimple, IfExpr, OneImplication}
use Rattle.gier_tree.specs.Trees.{Equivalent, OneDisjunction, Implies, OneConjunction, Either, OneNegation, Both, OneRelation}
use Rattle.gier_tree.specs.Trees.{Negated, OneArithmetic, Compared, OneTerm, Signed, Summed, OneFactor, Multiplied, OnePrimary}
use Rattle.gier_tree.specs.Trees.{Raised, Numeral, Logical, Bracketed, OneCall, OneElement, Alone, WithActuals, Subscripted}
use Rattle.gier_tree.specs.Trees.{OneExpr, AString, NoActuals, MoreActuals, NoExprs, MoreExprs, only, MkNames, IntegerType}
use Rattle.gier_tree.specs.Trees.{BooleanType, MkPair, MkSegment, Unsigned, WithSign, MkFixedPair, NoFurther, MoreFurther}
use Rattle.gier_tree.specs.Trees.{MkFixed, NoFormals, FormalList, NoValues, ValueList, ValueSpec, ArraySpec, LabelSpec}
use Rattle.gier_tree.specs.Trees.{SwitchSpec, StringSpec, ProcedureSpec, FunctionSpec, MkHeading, OneName, LeftElement, OneValue}
use Rattle.gier_tree.specs.Trees.{StepUntil, WhileTrue, DeclareType, DeclareOwn, DeclareArrays, DeclareOwnArrays, DeclareSwitch}
use Rattle.gier_tree.specs.Trees.{DeclareProcedure, NoDeclarations, MoreDeclarations, MkBlock, MkCompound, NoStatements}
use Rattle.gier_tree.specs.Trees.{MoreStatements, OneUnconditional, OneConditional, OneLoop, MkUnconditional, OneGroup, Assign}
use Rattle.gier_tree.specs.Trees.{Jump, CallStatement, Dummy, IfThen, IfElse, MkLoop, Program, MkProgram}
use Rattle.gier_tree.specs.SpellExamples.{at, row}
use Rattle.gier_tree.specs.Text7.{text7}
use Rattle.gier_tree.specs.Object.{text8_of, object_of}

-- expressions, assignments, and standard procedures
abbrev pub code_sums : Program
code_sums =
    MkProgram ([])
    (MkBlock 1 (DeclareType (record { type = IntegerType; line = 1 }) (MkNames (at 8 1) (record { comma = 1; name = (at 9 1) }
    ∷ []))) 1
    (MoreDeclarations (DeclareType (record { type = BooleanType; line = 1 }) (MkNames (at 10 1) ([]))) 1 NoDeclarations)
    (OneUnconditional (MkUnconditional ([]) (Assign (record { left = OneName (at 8 2); becomes = 2 })
    (record { left = OneName (at 9 2); becomes = 2 } ∷ []) (OneSimple (OneImplication (OneDisjunction (OneConjunction
    (OneNegation (OneRelation (OneArithmetic (Summed (Signed Subtract 2 (OneFactor (OnePrimary (Numeral 1 2)))) Add 2
    (Multiplied (OneFactor (OnePrimary (Numeral 2 2))) Multiply 2 (OnePrimary (Bracketed 2
    (OneSimple (OneImplication (OneDisjunction (OneConjunction (OneNegation (OneRelation (OneArithmetic (Summed
    (OneTerm (OneFactor (OnePrimary (OneCall (Alone (at 8 2)))))) Subtract 2 (OneFactor (OnePrimary
    (Numeral 16777216 2))))))))))) 2))))))))))))))
    (MoreStatements 3 (OneUnconditional (MkUnconditional ([]) (Assign (record { left = OneName (at 10 3); becomes = 3 }) ([])
    (OneSimple (Equivalent
    (OneImplication (Implies
    (OneDisjunction (Either
    (OneConjunction (Both
    (OneNegation (Negated 3 (Compared (OneTerm (OneFactor (OnePrimary (OneCall (Alone (at 8 3)))))) LessThan 3
    (OneTerm (OneFactor (OnePrimary (OneCall (Alone (at 9 3))))))))) 3 (OneRelation (OneArithmetic (OneTerm (OneFactor
    (OnePrimary (Logical true 3)))))))) 3 (OneNegation (OneRelation (OneArithmetic (OneTerm (OneFactor (OnePrimary
    (OneCall (Alone (at 10 3))))))))))) 3 (OneConjunction (OneNegation (OneRelation (OneArithmetic (OneTerm (OneFactor
    (OnePrimary (Logical false 3)))))))))) 3 (OneDisjunction (OneConjunction (OneNegation (OneRelation (OneArithmetic
    (OneTerm (OneFactor (OnePrimary (OneCall (Alone (at 10 3)))))))))))))))) (MoreStatements 3
    (OneUnconditional (MkUnconditional ([]) (CallStatement (WithActuals (at 0 3) 3
    (OneExpr (IfExpr 3 (only (OneCall (Alone (at 10 3)))) 3
    (OneImplication (OneDisjunction (OneConjunction (OneNegation (OneRelation (OneArithmetic (OneTerm (OneFactor (Raised
    (OnePrimary (OneCall (Alone (at 8 3)))) 3 (Numeral 2 3)))))))))) 3 (OneSimple (OneImplication (OneDisjunction
    (OneConjunction (OneNegation (OneRelation (OneArithmetic (OneTerm (Multiplied
    (OneFactor (OnePrimary (OneCall (Alone (at 9 3))))) Divide 3 (OnePrimary (Numeral 3 3))))))))))))) NoActuals 3))))
    (MoreStatements 3 (OneUnconditional (MkUnconditional ([]) (CallStatement (WithActuals (at 1 3) 3
    (AString 3 (record { value = 97; line = 3 } ∷ record { value = 98; line = 3 } ∷ record { value = 99; line = 3 }
    ∷ record { value = 100; line = 3 } ∷ record { value = 101; line = 3 } ∷ record { value = 102; line = 3 }
    ∷ record { value = 103; line = 3 } ∷ []) 3) NoActuals 3)))) (MoreStatements 3
    (OneUnconditional (MkUnconditional ([]) (CallStatement (Alone (at 2 3))))) (MoreStatements 3
    (OneUnconditional (MkUnconditional ([]) (Assign (record { left = OneName (at 8 3); becomes = 3 }) ([]) (only (OneCall
    (WithActuals (at 6 3) 3 (OneExpr (only (OneCall (Alone (at 4 3))))) NoActuals 3)))))) NoStatements))))) 3) 3

abbrev pub code_sums_7 : List Symbol
code_sums_7 = row 124 4311744515 1 ∷ row 124 133177540614 1 ∷ row 135 33554435 2 ∷ row 134 6 2 ∷ row 135 33554436 2 ∷ row 134 7 2
    ∷ row 132 1 2 ∷ row 143 0 2 ∷ row 134 8 2 ∷ row 132 2 2 ∷ row 134 9 2 ∷ row 131 33554435 2 ∷ row 134 10 2 ∷ row 133 0 2
    ∷ row 120 16777216 2 ∷ row 139 10 2 ∷ row 140 9 2 ∷ row 138 8 2 ∷ row 137 6 2 ∷ row 137 7 2 ∷ row 135 33554437 3 ∷ row 134 6 3
    ∷ row 131 33554435 3 ∷ row 134 7 3 ∷ row 131 33554436 3 ∷ row 144 7 3 ∷ row 150 0 3 ∷ row 134 7 3 ∷ row 132 1 3 ∷ row 151 7 3
    ∷ row 134 7 3 ∷ row 131 33554437 3 ∷ row 152 7 3 ∷ row 134 7 3 ∷ row 132 0 3 ∷ row 153 7 3 ∷ row 134 7 3 ∷ row 131 33554437 3
    ∷ row 154 7 3 ∷ row 137 6 3 ∷ row 131 33554437 3 ∷ row 122 120267472896 3 ∷ row 131 33554435 3 ∷ row 134 6 3 ∷ row 132 2 3
    ∷ row 142 6 3 ∷ row 122 115972505601 3 ∷ row 121 8388608 3 ∷ row 131 33554436 3 ∷ row 134 6 3 ∷ row 132 3 3 ∷ row 141 6 3
    ∷ row 121 8388609 3 ∷ row 174 1 3 ∷ row 122 115972505602 3 ∷ row 121 8388611 3 ∷ row 120 7 3 ∷ row 120 418262508645 3
    ∷ row 120 439814717440 3 ∷ row 121 8388610 3 ∷ row 122 17188257795 3 ∷ row 174 2 3 ∷ row 174 3 3 ∷ row 135 33554435 3
    ∷ row 134 6 3 ∷ row 174 5 3 ∷ row 174 7 3 ∷ row 137 6 3 ∷ row 160 0 1 ∷ row 125 5 1 ∷ row 130 0 1 ∷ row 125 0 1 ∷ row 126 66 1
    ∷ []

abbrev pub code_sums_8 : List Symbol
code_sums_8 = row 129 16777219 1 ∷ row 159 33554443 1 ∷ row 135 33554435 2 ∷ row 134 6 2 ∷ row 135 33554436 2 ∷ row 134 7 2
    ∷ row 132 1 2 ∷ row 143 0 2 ∷ row 134 8 2 ∷ row 132 2 2 ∷ row 134 9 2 ∷ row 131 33554435 2 ∷ row 134 10 2 ∷ row 133 0 2
    ∷ row 120 16777216 2 ∷ row 139 10 2 ∷ row 140 9 2 ∷ row 138 8 2 ∷ row 137 6 2 ∷ row 137 7 2 ∷ row 135 33554437 3 ∷ row 134 6 3
    ∷ row 131 33554435 3 ∷ row 134 7 3 ∷ row 131 33554436 3 ∷ row 144 7 3 ∷ row 150 0 3 ∷ row 134 7 3 ∷ row 132 1 3 ∷ row 151 7 3
    ∷ row 134 7 3 ∷ row 131 33554437 3 ∷ row 152 7 3 ∷ row 134 7 3 ∷ row 132 0 3 ∷ row 153 7 3 ∷ row 134 7 3 ∷ row 131 33554437 3
    ∷ row 154 7 3 ∷ row 137 6 3 ∷ row 131 33554437 3 ∷ row 156 47 3 ∷ row 131 33554435 3 ∷ row 134 6 3 ∷ row 132 2 3 ∷ row 142 6 3
    ∷ row 155 51 3 ∷ row 131 33554436 3 ∷ row 134 6 3 ∷ row 132 3 3 ∷ row 141 6 3 ∷ row 174 1 3 ∷ row 155 56 3 ∷ row 121 8388611 3
    ∷ row 120 7 3 ∷ row 120 418262508645 3 ∷ row 120 439814717440 3 ∷ row 122 17188257795 3 ∷ row 174 2 3 ∷ row 174 3 3
    ∷ row 135 33554435 3 ∷ row 134 6 3 ∷ row 174 5 3 ∷ row 174 7 3 ∷ row 137 6 3 ∷ row 160 0 1 ∷ row 130 0 1 ∷ []

abbrev pub code_sums_object : List ℕ
code_sums_object = 4311744515 ∷ 133177540619 ∷ 30098325507 ∷ 25769803782 ∷ 30098325508 ∷ 25769803783 ∷ 17179869185 ∷ 64424509440
    ∷ 25769803784 ∷ 17179869186 ∷ 25769803785 ∷ 12918456323 ∷ 25769803786 ∷ 21474836480 ∷ 16777216 ∷ 47244640266 ∷ 51539607561
    ∷ 42949672968 ∷ 38654705670 ∷ 38654705671 ∷ 30098325509 ∷ 25769803782 ∷ 12918456323 ∷ 25769803783 ∷ 12918456324 ∷ 68719476743
    ∷ 94489280512 ∷ 25769803783 ∷ 17179869185 ∷ 98784247815 ∷ 25769803783 ∷ 12918456325 ∷ 103079215111 ∷ 25769803783 ∷ 17179869184
    ∷ 107374182407 ∷ 25769803783 ∷ 12918456325 ∷ 111669149703 ∷ 38654705670 ∷ 12918456325 ∷ 120259084335 ∷ 12918456323
    ∷ 25769803782 ∷ 17179869186 ∷ 60129542150 ∷ 115964117043 ∷ 12918456324 ∷ 25769803782 ∷ 17179869187 ∷ 55834574854
    ∷ 197568495617 ∷ 115964117048 ∷ 7 ∷ 418262508645 ∷ 439814717440 ∷ 17179869237 ∷ 197568495618 ∷ 197568495619 ∷ 30098325507
    ∷ 25769803782 ∷ 197568495621 ∷ 197568495623 ∷ 38654705670 ∷ 137438953472 ∷ 8589934592 ∷ []

-- labels, conditionals and for statements
abbrev pub code_loops : Program
code_loops = MkProgram (record { name = (at 8 1); colon = 1 } ∷ [])
    (MkBlock 1 (DeclareType (record { type = IntegerType; line = 2 }) (MkNames (at 9 2) ([]))) 2 NoDeclarations
    (OneLoop (MkLoop (record { name = (at 10 3); colon = 3 } ∷ []) 3 (at 9 3) 3 (OneValue (only (Numeral 1 3)))
    (record { comma = 3; turns = (StepUntil (only (Numeral 2 3)) 3 (only (OneCall (Alone (at 9 3)))) 3 (only (Numeral 3 3))) }
    ∷ record {
      comma = 3;
      turns = (WhileTrue (OneSimple (OneImplication (OneDisjunction (OneConjunction (OneNegation (OneRelation (OneArithmetic
          (Summed (OneTerm (OneFactor (OnePrimary (OneCall (Alone (at 9 4)))))) Add 4 (OneFactor (OnePrimary
          (Numeral 1 4))))))))))) 4 (OneSimple (OneImplication (OneDisjunction (OneConjunction (OneNegation (OneRelation
          (Compared (OneTerm (OneFactor (OnePrimary (OneCall (Alone (at 9 4)))))) LessThan 4 (OneTerm (OneFactor (OnePrimary
          (Numeral 4 4))))))))))));
    } ∷ record { comma = 4; turns = (OneValue (only (Numeral 7 4))) } ∷ []) 4 (OneUnconditional
    (MkUnconditional (record { name = (at 11 5); colon = 5 } ∷ []) (Assign (record { left = OneName (at 9 5); becomes = 5 })
    ([]) (OneSimple (OneImplication (OneDisjunction (OneConjunction (OneNegation (OneRelation (OneArithmetic (Summed
    (OneTerm (OneFactor (OnePrimary (OneCall (Alone (at 9 5)))))) Add 5 (OneFactor (OnePrimary (Numeral 1 5))))))))))))))))
    (MoreStatements 5
    (OneConditional (IfElse ([]) 6 (OneSimple (OneImplication (OneDisjunction (OneConjunction (OneNegation (OneRelation
    (Compared (OneTerm (OneFactor (OnePrimary (OneCall (Alone (at 9 6)))))) EqualTo 6 (OneTerm (OneFactor (OnePrimary
    (Numeral 1 6))))))))))) 6 (MkUnconditional ([]) (Jump 6 (only (OneCall (Alone (at 10 6)))))) 7 (OneUnconditional
    (MkUnconditional ([]) (Jump 7 (only (OneCall (Alone (at 8 7))))))))) (MoreStatements 7
    (OneConditional (IfThen ([]) 8 (OneSimple (OneImplication (OneDisjunction (OneConjunction (OneNegation (OneRelation
    (Compared (OneTerm (OneFactor (OnePrimary (OneCall (Alone (at 9 8)))))) AtLeast 8 (OneTerm (OneFactor (OnePrimary
    (Numeral 2 8))))))))))) 8 (MkUnconditional ([]) (Assign (record { left = OneName (at 9 8); becomes = 8 }) ([]) (only
    (OneCall (Alone (at 9 8)))))))) (MoreStatements 8
    (OneUnconditional (MkUnconditional ([]) (OneGroup (MkCompound 8
    (OneUnconditional (MkUnconditional (record { name = (at 12 8); colon = 8 } ∷ []) (Jump 8 (IfExpr 8
    (OneSimple (OneImplication (OneDisjunction (OneConjunction (OneNegation (OneRelation (Compared
    (OneTerm (OneFactor (OnePrimary (OneCall (Alone (at 9 8)))))) EqualTo 8 (OneTerm (OneFactor (OnePrimary
    (Numeral 1 8))))))))))) 8 (OneImplication (OneDisjunction (OneConjunction (OneNegation (OneRelation (OneArithmetic
    (OneTerm (OneFactor (OnePrimary (Bracketed 8 (only (OneCall (Alone (at 12 8)))) 8)))))))))) 8 (only (OneCall (Alone
    (at 8 8)))))))) NoStatements 8)))) NoStatements))) 8) 8

abbrev pub code_loops_7 : List Symbol
code_loops_7 = row 124 4311744515 1 ∷ row 121 0 1 ∷ row 124 133177540612 1 ∷ row 121 1 1 ∷ row 135 33554435 3 ∷ row 134 5 3
    ∷ row 132 1 3 ∷ row 137 5 3 ∷ row 122 17188257792 3 ∷ row 134 4 3 ∷ row 122 115972505601 3 ∷ row 121 8388608 3
    ∷ row 135 33554435 3 ∷ row 134 5 3 ∷ row 132 2 3 ∷ row 137 5 3 ∷ row 122 115972505602 3 ∷ row 121 8388611 3
    ∷ row 135 33554435 3 ∷ row 134 5 3 ∷ row 131 33554435 3 ∷ row 134 6 3 ∷ row 131 33554435 3 ∷ row 138 6 3 ∷ row 137 5 3
    ∷ row 121 8388610 3 ∷ row 131 33554435 3 ∷ row 134 5 3 ∷ row 132 3 3 ∷ row 139 5 3 ∷ row 134 5 3 ∷ row 131 33554435 3
    ∷ row 157 5 3 ∷ row 122 120267472900 3 ∷ row 122 17188257795 3 ∷ row 134 4 3 ∷ row 122 115972505601 3 ∷ row 121 8388612 3
    ∷ row 121 8388613 3 ∷ row 135 33554435 3 ∷ row 134 5 4 ∷ row 131 33554435 4 ∷ row 134 6 4 ∷ row 132 1 4 ∷ row 138 6 4
    ∷ row 137 5 4 ∷ row 131 33554435 4 ∷ row 134 5 4 ∷ row 132 4 4 ∷ row 144 5 4 ∷ row 122 120267472902 4 ∷ row 122 17188257797 4
    ∷ row 134 4 4 ∷ row 122 115972505601 4 ∷ row 121 8388614 4 ∷ row 135 33554435 3 ∷ row 134 5 4 ∷ row 132 7 4 ∷ row 137 5 4
    ∷ row 122 17188257799 4 ∷ row 134 4 4 ∷ row 122 115972505601 4 ∷ row 121 8388615 4 ∷ row 122 115972505608 3
    ∷ row 121 8388609 3 ∷ row 121 3 3 ∷ row 135 33554435 5 ∷ row 134 5 5 ∷ row 131 33554435 5 ∷ row 134 6 5 ∷ row 132 1 5
    ∷ row 138 6 5 ∷ row 137 5 5 ∷ row 158 4 3 ∷ row 121 8388616 3 ∷ row 131 33554435 6 ∷ row 134 4 6 ∷ row 132 1 6 ∷ row 146 4 6
    ∷ row 122 120267472905 6 ∷ row 122 210486951937 6 ∷ row 178 0 6 ∷ row 122 115972505610 6 ∷ row 121 8388617 6
    ∷ row 122 210470174720 7 ∷ row 178 0 7 ∷ row 121 8388618 7 ∷ row 131 33554435 8 ∷ row 134 4 8 ∷ row 132 2 8 ∷ row 147 4 8
    ∷ row 122 120267472907 8 ∷ row 135 33554435 8 ∷ row 134 4 8 ∷ row 131 33554435 8 ∷ row 137 4 8 ∷ row 121 8388619 8
    ∷ row 121 2 8 ∷ row 131 33554435 8 ∷ row 134 4 8 ∷ row 132 1 8 ∷ row 146 4 8 ∷ row 122 120267472908 8 ∷ row 122 210486951938 8
    ∷ row 122 115972505613 8 ∷ row 121 8388620 8 ∷ row 122 210470174720 8 ∷ row 121 8388621 8 ∷ row 178 0 8 ∷ row 160 0 1
    ∷ row 125 3 1 ∷ row 130 0 1 ∷ row 125 0 1 ∷ row 126 93 1 ∷ []

abbrev pub code_loops_8 : List Symbol
code_loops_8 = row 129 16777219 1 ∷ row 121 0 1 ∷ row 159 33554439 1 ∷ row 121 1 1 ∷ row 135 33554435 3 ∷ row 134 5 3
    ∷ row 132 1 3 ∷ row 137 5 3 ∷ row 132 9 3 ∷ row 134 4 3 ∷ row 155 55 3 ∷ row 135 33554435 3 ∷ row 134 5 3 ∷ row 132 2 3
    ∷ row 137 5 3 ∷ row 155 21 3 ∷ row 121 8388611 3 ∷ row 135 33554435 3 ∷ row 134 5 3 ∷ row 131 33554435 3 ∷ row 134 6 3
    ∷ row 131 33554435 3 ∷ row 138 6 3 ∷ row 137 5 3 ∷ row 131 33554435 3 ∷ row 134 5 3 ∷ row 132 3 3 ∷ row 139 5 3 ∷ row 134 5 3
    ∷ row 131 33554435 3 ∷ row 157 5 3 ∷ row 156 32 3 ∷ row 122 17188257795 3 ∷ row 134 4 3 ∷ row 155 55 3 ∷ row 121 8388613 3
    ∷ row 135 33554435 3 ∷ row 134 5 4 ∷ row 131 33554435 4 ∷ row 134 6 4 ∷ row 132 1 4 ∷ row 138 6 4 ∷ row 137 5 4
    ∷ row 131 33554435 4 ∷ row 134 5 4 ∷ row 132 4 4 ∷ row 144 5 4 ∷ row 156 47 4 ∷ row 122 17188257797 4 ∷ row 134 4 4
    ∷ row 155 55 4 ∷ row 135 33554435 3 ∷ row 134 5 4 ∷ row 132 7 4 ∷ row 137 5 4 ∷ row 132 54 4 ∷ row 134 4 4 ∷ row 155 55 4
    ∷ row 155 63 3 ∷ row 135 33554435 5 ∷ row 134 5 5 ∷ row 131 33554435 5 ∷ row 134 6 5 ∷ row 132 1 5 ∷ row 138 6 5 ∷ row 137 5 5
    ∷ row 158 4 3 ∷ row 131 33554435 6 ∷ row 134 4 6 ∷ row 132 1 6 ∷ row 146 4 6 ∷ row 156 71 6 ∷ row 122 210486951937 6
    ∷ row 178 0 6 ∷ row 155 73 6 ∷ row 122 210470174720 7 ∷ row 178 0 7 ∷ row 131 33554435 8 ∷ row 134 4 8 ∷ row 132 2 8
    ∷ row 147 4 8 ∷ row 156 82 8 ∷ row 135 33554435 8 ∷ row 134 4 8 ∷ row 131 33554435 8 ∷ row 137 4 8 ∷ row 121 2 8
    ∷ row 131 33554435 8 ∷ row 134 4 8 ∷ row 132 1 8 ∷ row 146 4 8 ∷ row 156 89 8 ∷ row 122 210486951938 8 ∷ row 155 90 8
    ∷ row 122 210470174720 8 ∷ row 178 0 8 ∷ row 160 0 1 ∷ row 130 0 1 ∷ []

abbrev pub code_loops_object : List ℕ
code_loops_object = 4311744515 ∷ 133177540615 ∷ 30098325507 ∷ 25769803781 ∷ 17179869185 ∷ 38654705669 ∷ 17179869193 ∷ 25769803780
    ∷ 115964117047 ∷ 30098325507 ∷ 25769803781 ∷ 17179869186 ∷ 38654705669 ∷ 115964117013 ∷ 30098325507 ∷ 25769803781
    ∷ 12918456323 ∷ 25769803782 ∷ 12918456323 ∷ 42949672966 ∷ 38654705669 ∷ 12918456323 ∷ 25769803781 ∷ 17179869187 ∷ 47244640261
    ∷ 25769803781 ∷ 12918456323 ∷ 124554051589 ∷ 120259084320 ∷ 17179869198 ∷ 25769803780 ∷ 115964117047 ∷ 30098325507
    ∷ 25769803781 ∷ 12918456323 ∷ 25769803782 ∷ 17179869185 ∷ 42949672966 ∷ 38654705669 ∷ 12918456323 ∷ 25769803781 ∷ 17179869188
    ∷ 68719476741 ∷ 120259084335 ∷ 17179869216 ∷ 25769803780 ∷ 115964117047 ∷ 30098325507 ∷ 25769803781 ∷ 17179869191
    ∷ 38654705669 ∷ 17179869238 ∷ 25769803780 ∷ 115964117047 ∷ 115964117055 ∷ 30098325507 ∷ 25769803781 ∷ 12918456323
    ∷ 25769803782 ∷ 17179869185 ∷ 42949672966 ∷ 38654705669 ∷ 128849018884 ∷ 12918456323 ∷ 25769803780 ∷ 17179869185 ∷ 77309411332
    ∷ 120259084359 ∷ 210486951938 ∷ 214748364800 ∷ 115964117065 ∷ 210470174721 ∷ 214748364800 ∷ 12918456323 ∷ 25769803780
    ∷ 17179869186 ∷ 81604378628 ∷ 120259084370 ∷ 30098325507 ∷ 25769803780 ∷ 12918456323 ∷ 38654705668 ∷ 12918456323 ∷ 25769803780
    ∷ 17179869185 ∷ 77309411332 ∷ 120259084377 ∷ 210486952018 ∷ 115964117082 ∷ 210470174721 ∷ 214748364800 ∷ 137438953472
    ∷ 8589934592 ∷ []

-- arrays and switches
abbrev pub code_arrays : Program
code_arrays =
    MkProgram ([]) (MkBlock 1 (DeclareType (record { type = IntegerType; line = 1 }) (MkNames (at 8 1) ([]))) 1 NoDeclarations
    (OneUnconditional (MkUnconditional ([]) (OneGroup (MkBlock 1
    (DeclareArrays (record { type = BooleanType; line = 1 }) 1
    (MkSegment (MkNames (at 9 1) (record { comma = 1; name = (at 10 1) } ∷ [])) 1
    (MkPair (only (Numeral 1 1)) 1 (only (Numeral 2 1)))
    (record {
      comma = 1;
      pair = (MkPair (only (OneCall (Alone (at 8 1)))) 1 (OneSimple (OneImplication (OneDisjunction (OneConjunction
          (OneNegation (OneRelation (OneArithmetic (Summed (OneTerm (OneFactor (OnePrimary (OneCall (Alone (at 8 1)))))) Add
          1 (OneFactor (OnePrimary (Numeral 1 1))))))))))));
    } ∷ []) 1) (record {
      comma = 1;
      segment = (MkSegment (MkNames (at 11 2) ([])) 2
          (MkPair (OneSimple (OneImplication (OneDisjunction (OneConjunction (OneNegation (OneRelation (OneArithmetic
          (Signed Subtract 2 (OneFactor (OnePrimary (Numeral 1 2))))))))))) 2 (only (Numeral 2 2))) ([]) 2);
    } ∷ [])) 2
    (MoreDeclarations (DeclareSwitch 2 (at 12 2) 2 (only (OneCall (Alone (at 13 2)))) (MoreExprs 2
    (IfExpr 2
    (only (OneElement (Subscripted (at 9 2) 2 (only (Numeral 1 2))
    (MoreExprs 2 (only (OneCall (Alone (at 8 2)))) NoExprs) 2))) 2
    (OneImplication (OneDisjunction (OneConjunction (OneNegation (OneRelation (OneArithmetic (OneTerm (OneFactor
    (OnePrimary (OneElement (Subscripted (at 12 2) 2 (only (Numeral 1 2)) NoExprs 2))))))))))) 2 (only (OneCall (Alone
    (at 14 2))))) NoExprs)) 2 NoDeclarations)
    (OneUnconditional (MkUnconditional (record { name = (at 13 3); colon = 3 } ∷ []) (Assign
    (record {
      left = LeftElement
          (Subscripted (at 9 3) 3 (only (Numeral 1 3)) (MoreExprs 3 (only (Numeral 2 3)) NoExprs) 3);
      becomes = 3;
    })
    (record { left = LeftElement (Subscripted (at 11 3) 3 (only (OneCall (Alone (at 8 3)))) NoExprs 3); becomes = 3 }
    ∷ []) (only (OneElement (Subscripted (at 10 3) 3
    (OneSimple (OneImplication (OneDisjunction (OneConjunction (OneNegation (OneRelation (OneArithmetic (Summed
    (OneTerm (OneFactor (OnePrimary (OneCall (Alone (at 8 3)))))) Add 3 (OneFactor (OnePrimary (Numeral 1 3)))))))))))
    (MoreExprs 3 (only (Numeral 2 3)) NoExprs) 3))))))
    (MoreStatements 3 (OneUnconditional (MkUnconditional (record { name = (at 14 4); colon = 4 } ∷ []) (Jump 4 (only
    (OneElement (Subscripted (at 12 4) 4 (OneSimple (OneImplication (OneDisjunction (OneConjunction (OneNegation
    (OneRelation (OneArithmetic (OneTerm (Multiplied (OneFactor (OnePrimary (OneCall (Alone (at 8 4))))) Multiply 4
    (OnePrimary (Numeral 2 4))))))))))) NoExprs 4)))))) NoStatements) 4)))) NoStatements 4) 4

abbrev pub code_arrays_7 : List Symbol
code_arrays_7 = row 124 4311744515 1 ∷ row 124 133177540612 1 ∷ row 124 133194317843 1 ∷ row 132 1 1 ∷ row 134 19 1 ∷ row 132 2 1
    ∷ row 134 20 1 ∷ row 131 33554435 1 ∷ row 134 21 1 ∷ row 131 33554435 1 ∷ row 134 22 1 ∷ row 132 1 1 ∷ row 138 22 1
    ∷ row 134 22 1 ∷ row 132 19 1 ∷ row 161 33554435 1 ∷ row 132 19 1 ∷ row 161 33554441 1 ∷ row 132 1 2 ∷ row 143 0 2
    ∷ row 134 19 2 ∷ row 132 2 2 ∷ row 134 20 2 ∷ row 132 19 2 ∷ row 161 16777231 2 ∷ row 122 115972505600 2 ∷ row 121 0 2
    ∷ row 120 2 2 ∷ row 123 8388609 2 ∷ row 123 8388610 2 ∷ row 121 8388609 2 ∷ row 124 167537278981 2 ∷ row 122 210503729153 2
    ∷ row 172 0 2 ∷ row 125 0 2 ∷ row 121 8388610 2 ∷ row 124 167537278981 2 ∷ row 135 50331651 2 ∷ row 134 5 2 ∷ row 132 1 2
    ∷ row 134 6 2 ∷ row 131 33554435 2 ∷ row 134 7 2 ∷ row 162 33554437 2 ∷ row 136 0 2 ∷ row 122 120267472899 2 ∷ row 132 1 2
    ∷ row 122 201913794560 2 ∷ row 122 115972505604 2 ∷ row 121 8388611 2 ∷ row 122 210503729154 2 ∷ row 121 8388612 2
    ∷ row 172 0 2 ∷ row 125 3 2 ∷ row 121 8388608 2 ∷ row 121 1 2 ∷ row 135 50331651 3 ∷ row 134 19 3 ∷ row 132 1 3 ∷ row 134 20 3
    ∷ row 132 2 3 ∷ row 134 21 3 ∷ row 162 33554451 3 ∷ row 134 19 3 ∷ row 135 50331663 3 ∷ row 134 20 3 ∷ row 131 33554435 3
    ∷ row 134 21 3 ∷ row 162 16777236 3 ∷ row 134 20 3 ∷ row 135 50331657 3 ∷ row 134 21 3 ∷ row 131 33554435 3 ∷ row 134 22 3
    ∷ row 132 1 3 ∷ row 138 22 3 ∷ row 134 22 3 ∷ row 132 2 3 ∷ row 134 23 3 ∷ row 162 33554453 3 ∷ row 136 0 3 ∷ row 137 19 3
    ∷ row 137 20 3 ∷ row 121 2 3 ∷ row 131 33554435 4 ∷ row 134 19 4 ∷ row 132 2 4 ∷ row 140 19 4 ∷ row 122 201913794560 4
    ∷ row 178 0 4 ∷ row 160 0 1 ∷ row 125 5 1 ∷ row 160 0 1 ∷ row 125 0 1 ∷ row 130 0 1 ∷ row 125 0 1 ∷ row 126 83 1 ∷ []

abbrev pub code_arrays_8 : List Symbol
code_arrays_8 = row 129 16777219 1 ∷ row 159 33554436 1 ∷ row 159 50331672 1 ∷ row 132 1 1 ∷ row 134 19 1 ∷ row 132 2 1
    ∷ row 134 20 1 ∷ row 131 33554435 1 ∷ row 134 21 1 ∷ row 131 33554435 1 ∷ row 134 22 1 ∷ row 132 1 1 ∷ row 138 22 1
    ∷ row 134 22 1 ∷ row 132 19 1 ∷ row 161 33554435 1 ∷ row 132 19 1 ∷ row 161 33554441 1 ∷ row 132 1 2 ∷ row 143 0 2
    ∷ row 134 19 2 ∷ row 132 2 2 ∷ row 134 20 2 ∷ row 132 19 2 ∷ row 161 16777231 2 ∷ row 155 47 2 ∷ row 121 0 2 ∷ row 120 2 2
    ∷ row 120 29 2 ∷ row 120 32 2 ∷ row 167 33554437 2 ∷ row 177 50331695 2 ∷ row 172 0 2 ∷ row 167 33554440 2
    ∷ row 135 50331651 2 ∷ row 134 5 2 ∷ row 132 1 2 ∷ row 134 6 2 ∷ row 131 33554435 2 ∷ row 134 7 2 ∷ row 162 33554437 2
    ∷ row 136 0 2 ∷ row 156 45 2 ∷ row 132 1 2 ∷ row 122 201913794560 2 ∷ row 155 46 2 ∷ row 177 50331722 2 ∷ row 172 0 2
    ∷ row 135 50331651 3 ∷ row 134 19 3 ∷ row 132 1 3 ∷ row 134 20 3 ∷ row 132 2 3 ∷ row 134 21 3 ∷ row 162 33554451 3
    ∷ row 134 19 3 ∷ row 135 50331663 3 ∷ row 134 20 3 ∷ row 131 33554435 3 ∷ row 134 21 3 ∷ row 162 16777236 3 ∷ row 134 20 3
    ∷ row 135 50331657 3 ∷ row 134 21 3 ∷ row 131 33554435 3 ∷ row 134 22 3 ∷ row 132 1 3 ∷ row 138 22 3 ∷ row 134 22 3
    ∷ row 132 2 3 ∷ row 134 23 3 ∷ row 162 33554453 3 ∷ row 136 0 3 ∷ row 137 19 3 ∷ row 137 20 3 ∷ row 131 33554435 4
    ∷ row 134 19 4 ∷ row 132 2 4 ∷ row 140 19 4 ∷ row 122 201913794560 4 ∷ row 178 0 4 ∷ row 160 0 1 ∷ row 160 0 1 ∷ row 130 0 1
    ∷ []

abbrev pub code_arrays_object : List ℕ
code_arrays_object = 4311744515 ∷ 133177540612 ∷ 133194317848 ∷ 17179869185 ∷ 25769803795 ∷ 17179869186 ∷ 25769803796
    ∷ 12918456323 ∷ 25769803797 ∷ 12918456323 ∷ 25769803798 ∷ 17179869185 ∷ 42949672982 ∷ 25769803798 ∷ 17179869203 ∷ 141767475203
    ∷ 17179869203 ∷ 141767475209 ∷ 17179869185 ∷ 64424509440 ∷ 25769803795 ∷ 17179869186 ∷ 25769803796 ∷ 17179869203
    ∷ 141750697999 ∷ 115964117039 ∷ 2 ∷ 29 ∷ 32 ∷ 167537278981 ∷ 210503729199 ∷ 188978561024 ∷ 167537278984 ∷ 30115102723
    ∷ 25769803781 ∷ 17179869185 ∷ 25769803782 ∷ 12918456323 ∷ 25769803783 ∷ 146062442501 ∷ 34359738368 ∷ 120259084333
    ∷ 17179869185 ∷ 201913794586 ∷ 115964117038 ∷ 210503729226 ∷ 188978561024 ∷ 30115102723 ∷ 25769803795 ∷ 17179869185
    ∷ 25769803796 ∷ 17179869186 ∷ 25769803797 ∷ 146062442515 ∷ 25769803795 ∷ 30115102735 ∷ 25769803796 ∷ 12918456323 ∷ 25769803797
    ∷ 146045665300 ∷ 25769803796 ∷ 30115102729 ∷ 25769803797 ∷ 12918456323 ∷ 25769803798 ∷ 17179869185 ∷ 42949672982 ∷ 25769803798
    ∷ 17179869186 ∷ 25769803799 ∷ 146062442517 ∷ 34359738368 ∷ 38654705683 ∷ 38654705684 ∷ 12918456323 ∷ 25769803795 ∷ 17179869186
    ∷ 51539607571 ∷ 201913794586 ∷ 214748364800 ∷ 137438953472 ∷ 137438953472 ∷ 8589934592 ∷ []

-- procedures, and actuals of each kind
abbrev pub code_calls : Program
code_calls = MkProgram ([]) (MkBlock 1 (DeclareType (record { type = IntegerType; line = 1 }) (MkNames (at 8 1) ([]))) 1
    (MoreDeclarations
    (DeclareProcedure (MkHeading (Some (record { type = IntegerType; line = 1 })) 1 (at 9 1) NoFormals 1 NoValues ([]))
    (OneUnconditional (MkUnconditional ([]) (Assign (record { left = OneName (at 9 1); becomes = 1 }) ([]) (only
    (Numeral 1 1)))))) 1 (MoreDeclarations
    (DeclareArrays (record { type = BooleanType; line = 1 }) 1
    (MkSegment (MkNames (at 10 1) ([])) 1 (MkPair (only (Numeral 1 1)) 1 (only (Numeral 2 1))) ([]) 1) ([])) 1
    (MoreDeclarations (DeclareSwitch 1 (at 11 1) 1 (only (OneCall (Alone (at 12 1)))) NoExprs) 1 (MoreDeclarations
    (DeclareProcedure
    (MkHeading None 2 (at 13 2)
    (FormalList 2 (MkNames (at 14 2) (record { comma = 2; name = (at 15 2) } ∷ record { comma = 2; name = (at 16 2) }
    ∷ record { comma = 2; name = (at 17 2) } ∷ record { comma = 2; name = (at 18 2) }
    ∷ record { comma = 2; name = (at 19 2) } ∷ record { comma = 2; name = (at 20 2) }
    ∷ record { comma = 2; name = (at 21 2) } ∷ [])) 2) 2 (ValueList 2 (MkNames (at 14 2) ([])) 2) (record {
      specifier = ValueSpec (record { type = IntegerType; line = 2 });
      names = (MkNames (at 14 2) (record { comma = 2; name = (at 15 2) } ∷ []));
      semicolon = 2;
    }
    ∷ record {
      specifier = ArraySpec (record { type = BooleanType; line = 2 }) 2;
      names = (MkNames (at 16 2) ([]));
      semicolon = 2;
    } ∷ record { specifier = LabelSpec 2; names = (MkNames (at 17 2) ([])); semicolon = 2 }
    ∷ record { specifier = SwitchSpec 2; names = (MkNames (at 18 2) ([])); semicolon = 2 }
    ∷ record { specifier = StringSpec 3; names = (MkNames (at 19 3) ([])); semicolon = 3 }
    ∷ record { specifier = ProcedureSpec 3; names = (MkNames (at 20 3) ([])); semicolon = 3 }
    ∷ record {
      specifier = FunctionSpec (record { type = IntegerType; line = 3 }) 3;
      names = (MkNames (at 21 3) ([]));
      semicolon = 3;
    } ∷ [])) (OneUnconditional (MkUnconditional ([]) (OneGroup (MkCompound 4
    (OneUnconditional (MkUnconditional ([]) (Assign (record { left = OneName (at 15 4); becomes = 4 }) ([]) (OneSimple
    (OneImplication (OneDisjunction (OneConjunction (OneNegation (OneRelation (OneArithmetic (Summed
    (Summed (OneTerm (OneFactor (OnePrimary (OneCall (Alone (at 14 4)))))) Add 4 (OneFactor (OnePrimary (OneCall (Alone
    (at 15 4)))))) Add 4 (OneFactor (OnePrimary (OneCall (Alone (at 21 4))))))))))))))))
    (MoreStatements 4 (OneUnconditional (MkUnconditional ([]) (Jump 4 (only (OneCall (Alone (at 17 4)))))))
    (MoreStatements 4 (OneUnconditional (MkUnconditional ([]) (Jump 4 (only (OneElement (Subscripted (at 18 4) 4
    (only (Numeral 1 4)) NoExprs 4)))))) (MoreStatements 4
    (OneUnconditional (MkUnconditional ([]) (Assign
    (record { left = LeftElement (Subscripted (at 16 4) 4 (only (Numeral 1 4)) NoExprs 4); becomes = 4 }) ([]) (only
    (OneElement (Subscripted (at 16 4) 4 (only (Numeral 2 4)) NoExprs 4)))))) (MoreStatements 4
    (OneUnconditional (MkUnconditional ([]) (CallStatement (WithActuals (at 1 4) 4
    (OneExpr (only (OneCall (Alone (at 19 4))))) NoActuals 4)))) (MoreStatements 4
    (OneUnconditional (MkUnconditional ([]) (CallStatement (Alone (at 20 4))))) (MoreStatements 4
    (OneUnconditional (MkUnconditional ([]) (CallStatement (WithActuals (at 13 4) 4
    (OneExpr (only (OneCall (Alone (at 14 4)))))
    (MoreActuals 4 (OneExpr (only (OneCall (Alone (at 15 4))))) (MoreActuals 4
    (OneExpr (only (OneCall (Alone (at 16 4))))) (MoreActuals 4 (OneExpr (only (OneCall (Alone (at 17 4)))))
    (MoreActuals 4 (OneExpr (only (OneCall (Alone (at 18 4))))) (MoreActuals 4
    (OneExpr (only (OneCall (Alone (at 19 4))))) (MoreActuals 4 (OneExpr (only (OneCall (Alone (at 20 4)))))
    (MoreActuals 4 (OneExpr (only (OneCall (Alone (at 21 4))))) NoActuals))))))) 4)))) NoStatements)))))) 4))))) 4
    (MoreDeclarations (DeclareProcedure (MkHeading None 5 (at 22 5) NoFormals 5 NoValues ([])) (OneUnconditional
    (MkUnconditional ([]) Dummy))) 5 NoDeclarations)))))
    (OneUnconditional (MkUnconditional ([]) (CallStatement (WithActuals (at 13 6) 6
    (OneExpr (OneSimple (OneImplication (OneDisjunction (OneConjunction (OneNegation (OneRelation (OneArithmetic (Summed
    (OneTerm (OneFactor (OnePrimary (OneCall (Alone (at 8 6)))))) Add 6 (OneFactor (OnePrimary (Numeral 1 6))))))))))))
    (MoreActuals 6 (OneExpr (only (OneCall (Alone (at 9 6))))) (MoreActuals 6 (OneExpr (only (OneCall (Alone (at 10 6)))))
    (MoreActuals 6 (OneExpr (only (OneCall (Alone (at 12 6))))) (MoreActuals 6 (OneExpr (only (OneCall (Alone (at 11 6)))))
    (MoreActuals 6 (AString 6 (record { value = 121; line = 6 } ∷ record { value = 122; line = 6 } ∷ []) 6) (MoreActuals 6
    (OneExpr (only (OneCall (Alone (at 22 6))))) (MoreActuals 6 (OneExpr (only (OneCall (Alone (at 9 6))))) NoActuals)))))))
    6))))
    (MoreStatements 6 (OneUnconditional (MkUnconditional ([]) (CallStatement (WithActuals (at 13 7) 7
    (OneExpr (only (OneCall (Alone (at 8 7))))) (MoreActuals 7 (OneExpr (only (OneCall (Alone (at 8 7))))) (MoreActuals 7
    (OneExpr (only (OneCall (Alone (at 10 7))))) (MoreActuals 7 (OneExpr (only (OneCall (Alone (at 12 7)))))
    (MoreActuals 7 (OneExpr (only (OneCall (Alone (at 11 7))))) (MoreActuals 7 (AString 7 ([]) 7) (MoreActuals 7
    (OneExpr (only (OneCall (Alone (at 22 7))))) (MoreActuals 7
    (OneExpr (only (OneCall (Alone (at 9 7))))) NoActuals))))))) 7)))) (MoreStatements 7
    (OneUnconditional (MkUnconditional ([]) (Assign (record { left = OneName (at 8 7); becomes = 7 }) ([]) (only (OneCall
    (Alone (at 9 7))))))) (MoreStatements 7
    (OneUnconditional (MkUnconditional (record { name = (at 12 7); colon = 7 } ∷ []) Dummy)) NoStatements))) 7) 7

abbrev pub code_calls_7 : List Symbol
code_calls_7 = row 124 4311744515 1 ∷ row 124 133177540616 1 ∷ row 122 115972505600 1 ∷ row 121 0 1 ∷ row 124 150374187014 1
    ∷ row 120 1 1 ∷ row 135 50331653 1 ∷ row 134 6 1 ∷ row 132 1 1 ∷ row 137 6 1 ∷ row 166 1 1 ∷ row 125 1 1 ∷ row 121 8388608 1
    ∷ row 132 1 1 ∷ row 134 8 1 ∷ row 132 2 1 ∷ row 134 9 1 ∷ row 132 8 1 ∷ row 161 16777220 1 ∷ row 122 115972505601 1
    ∷ row 121 1 1 ∷ row 120 1 1 ∷ row 123 8388610 1 ∷ row 121 8388610 1 ∷ row 124 167537278981 1 ∷ row 122 210486951940 1
    ∷ row 172 0 1 ∷ row 125 0 1 ∷ row 121 8388609 1 ∷ row 122 115972505603 2 ∷ row 121 2 2 ∷ row 124 150374187029 2 ∷ row 120 16 2
    ∷ row 169 50331655 4 ∷ row 134 21 4 ∷ row 131 50331653 4 ∷ row 134 22 4 ∷ row 168 50331655 4 ∷ row 138 22 4 ∷ row 134 22 4
    ∷ row 165 50331667 4 ∷ row 138 22 4 ∷ row 137 21 4 ∷ row 170 50331659 4 ∷ row 178 0 4 ∷ row 132 1 4 ∷ row 176 50331661 4
    ∷ row 178 0 4 ∷ row 131 50331657 4 ∷ row 134 21 4 ∷ row 132 1 4 ∷ row 134 22 4 ∷ row 162 16777237 4 ∷ row 134 21 4
    ∷ row 131 50331657 4 ∷ row 134 22 4 ∷ row 132 2 4 ∷ row 134 23 4 ∷ row 162 16777238 4 ∷ row 136 0 4 ∷ row 137 21 4
    ∷ row 131 50331663 4 ∷ row 174 2 4 ∷ row 165 50331665 4 ∷ row 131 50331653 4 ∷ row 134 21 4 ∷ row 122 115972505604 4
    ∷ row 121 8388613 4 ∷ row 124 167554056197 4 ∷ row 171 50331655 4 ∷ row 172 0 4 ∷ row 125 0 4 ∷ row 121 8388612 4
    ∷ row 122 17188257797 4 ∷ row 134 23 4 ∷ row 179 0 4 ∷ row 134 24 4 ∷ row 131 50331657 4 ∷ row 134 25 4
    ∷ row 122 115972505606 4 ∷ row 121 8388615 4 ∷ row 124 167537278981 4 ∷ row 170 50331659 4 ∷ row 172 0 4 ∷ row 125 0 4
    ∷ row 121 8388614 4 ∷ row 122 17188257799 4 ∷ row 134 27 4 ∷ row 179 0 4 ∷ row 134 28 4 ∷ row 131 50331661 4 ∷ row 134 29 4
    ∷ row 131 50331662 4 ∷ row 134 30 4 ∷ row 131 50331663 4 ∷ row 134 31 4 ∷ row 131 50331665 4 ∷ row 134 33 4
    ∷ row 131 50331666 4 ∷ row 134 34 4 ∷ row 131 50331667 4 ∷ row 134 35 4 ∷ row 131 50331668 4 ∷ row 134 36 4 ∷ row 132 21 4
    ∷ row 122 154652377090 4 ∷ row 166 0 2 ∷ row 125 16 2 ∷ row 121 8388611 2 ∷ row 122 115972505608 5 ∷ row 121 3 5
    ∷ row 124 150374187013 5 ∷ row 120 0 5 ∷ row 166 0 5 ∷ row 125 0 5 ∷ row 121 8388616 5 ∷ row 131 33554435 6 ∷ row 134 8 6
    ∷ row 132 1 6 ∷ row 138 8 6 ∷ row 134 8 6 ∷ row 122 115972505609 6 ∷ row 121 8388618 6 ∷ row 124 167503724549 6 ∷ row 132 5 6
    ∷ row 122 154652377088 6 ∷ row 172 0 6 ∷ row 125 0 6 ∷ row 121 8388617 6 ∷ row 122 17188257802 6 ∷ row 134 10 6 ∷ row 179 0 6
    ∷ row 134 11 6 ∷ row 135 33554436 6 ∷ row 134 12 6 ∷ row 122 115972505611 6 ∷ row 121 8388620 6 ∷ row 124 167537278981 6
    ∷ row 122 210486951940 6 ∷ row 172 0 6 ∷ row 125 0 6 ∷ row 121 8388619 6 ∷ row 122 17188257804 6 ∷ row 134 14 6 ∷ row 179 0 6
    ∷ row 134 15 6 ∷ row 122 17179869185 6 ∷ row 134 16 6 ∷ row 179 33554432 6 ∷ row 134 17 6 ∷ row 122 115972505613 6
    ∷ row 121 8388622 6 ∷ row 120 2 6 ∷ row 120 521737863168 6 ∷ row 121 8388621 6 ∷ row 122 17188257806 6 ∷ row 134 18 6
    ∷ row 122 17179869187 6 ∷ row 134 20 6 ∷ row 179 33554432 6 ∷ row 134 21 6 ∷ row 122 17179869184 6 ∷ row 134 22 6
    ∷ row 179 33554432 6 ∷ row 134 23 6 ∷ row 132 8 6 ∷ row 122 154652377090 6 ∷ row 131 33554435 7 ∷ row 134 8 7
    ∷ row 122 115972505615 7 ∷ row 121 8388624 7 ∷ row 124 167520501765 7 ∷ row 135 33554435 7 ∷ row 173 0 7 ∷ row 125 0 7
    ∷ row 121 8388623 7 ∷ row 122 17188257808 7 ∷ row 134 10 7 ∷ row 179 0 7 ∷ row 134 11 7 ∷ row 135 33554436 7 ∷ row 134 12 7
    ∷ row 122 115972505617 7 ∷ row 121 8388626 7 ∷ row 124 167537278981 7 ∷ row 122 210486951940 7 ∷ row 172 0 7 ∷ row 125 0 7
    ∷ row 121 8388625 7 ∷ row 122 17188257810 7 ∷ row 134 14 7 ∷ row 179 0 7 ∷ row 134 15 7 ∷ row 122 17179869185 7 ∷ row 134 16 7
    ∷ row 179 33554432 7 ∷ row 134 17 7 ∷ row 122 115972505619 7 ∷ row 121 8388628 7 ∷ row 120 0 7 ∷ row 121 8388627 7
    ∷ row 122 17188257812 7 ∷ row 134 18 7 ∷ row 122 17179869187 7 ∷ row 134 20 7 ∷ row 179 33554432 7 ∷ row 134 21 7
    ∷ row 122 17179869184 7 ∷ row 134 22 7 ∷ row 179 33554432 7 ∷ row 134 23 7 ∷ row 132 8 7 ∷ row 122 154652377090 7
    ∷ row 135 33554435 7 ∷ row 134 8 7 ∷ row 132 9 7 ∷ row 122 154652377088 7 ∷ row 137 8 7 ∷ row 121 4 7 ∷ row 160 0 1
    ∷ row 125 16 1 ∷ row 130 0 1 ∷ row 125 0 1 ∷ row 126 185 1 ∷ []

abbrev pub code_calls_8 : List Symbol
code_calls_8 = row 129 16777219 1 ∷ row 159 33554456 1 ∷ row 155 10 1 ∷ row 121 0 1 ∷ row 163 50331655 1 ∷ row 120 1 1
    ∷ row 135 50331653 1 ∷ row 134 6 1 ∷ row 132 1 1 ∷ row 137 6 1 ∷ row 166 1 1 ∷ row 132 1 1 ∷ row 134 8 1 ∷ row 132 2 1
    ∷ row 134 9 1 ∷ row 132 8 1 ∷ row 161 16777220 1 ∷ row 155 22 1 ∷ row 121 1 1 ∷ row 120 1 1 ∷ row 120 19 1
    ∷ row 167 33554437 1 ∷ row 177 33554615 1 ∷ row 172 0 1 ∷ row 155 93 2 ∷ row 121 2 2 ∷ row 163 50331685 2 ∷ row 120 16 2
    ∷ row 169 50331655 4 ∷ row 134 21 4 ∷ row 131 50331653 4 ∷ row 134 22 4 ∷ row 168 50331655 4 ∷ row 138 22 4 ∷ row 134 22 4
    ∷ row 165 50331667 4 ∷ row 138 22 4 ∷ row 137 21 4 ∷ row 170 50331659 4 ∷ row 178 0 4 ∷ row 132 1 4 ∷ row 176 50331661 4
    ∷ row 178 0 4 ∷ row 131 50331657 4 ∷ row 134 21 4 ∷ row 132 1 4 ∷ row 134 22 4 ∷ row 162 16777237 4 ∷ row 134 21 4
    ∷ row 131 50331657 4 ∷ row 134 22 4 ∷ row 132 2 4 ∷ row 134 23 4 ∷ row 162 16777238 4 ∷ row 136 0 4 ∷ row 137 21 4
    ∷ row 131 50331663 4 ∷ row 174 2 4 ∷ row 165 50331665 4 ∷ row 131 50331653 4 ∷ row 134 21 4 ∷ row 155 62 4 ∷ row 121 8388613 4
    ∷ row 167 50331653 4 ∷ row 171 50331655 4 ∷ row 172 0 4 ∷ row 122 17188257797 4 ∷ row 134 23 4 ∷ row 179 0 4 ∷ row 134 24 4
    ∷ row 131 50331657 4 ∷ row 134 25 4 ∷ row 155 72 4 ∷ row 121 8388615 4 ∷ row 167 33554437 4 ∷ row 170 50331659 4 ∷ row 172 0 4
    ∷ row 122 17188257799 4 ∷ row 134 27 4 ∷ row 179 0 4 ∷ row 134 28 4 ∷ row 131 50331661 4 ∷ row 134 29 4 ∷ row 131 50331662 4
    ∷ row 134 30 4 ∷ row 131 50331663 4 ∷ row 134 31 4 ∷ row 131 50331665 4 ∷ row 134 33 4 ∷ row 131 50331666 4 ∷ row 134 34 4
    ∷ row 131 50331667 4 ∷ row 134 35 4 ∷ row 131 50331668 4 ∷ row 134 36 4 ∷ row 132 21 4 ∷ row 122 154652377090 4 ∷ row 166 0 2
    ∷ row 155 97 5 ∷ row 121 3 5 ∷ row 163 50331653 5 ∷ row 120 0 5 ∷ row 166 0 5 ∷ row 131 33554435 6 ∷ row 134 8 6 ∷ row 132 1 6
    ∷ row 138 8 6 ∷ row 134 8 6 ∷ row 155 107 6 ∷ row 121 8388618 6 ∷ row 167 5 6 ∷ row 132 5 6 ∷ row 122 154652377088 6
    ∷ row 172 0 6 ∷ row 122 17188257802 6 ∷ row 134 10 6 ∷ row 179 0 6 ∷ row 134 11 6 ∷ row 135 33554436 6 ∷ row 134 12 6
    ∷ row 155 117 6 ∷ row 121 8388620 6 ∷ row 167 33554437 6 ∷ row 177 33554615 6 ∷ row 172 0 6 ∷ row 122 17188257804 6
    ∷ row 134 14 6 ∷ row 179 0 6 ∷ row 134 15 6 ∷ row 122 17179869185 6 ∷ row 134 16 6 ∷ row 179 33554432 6 ∷ row 134 17 6
    ∷ row 155 128 6 ∷ row 121 8388622 6 ∷ row 120 2 6 ∷ row 120 521737863168 6 ∷ row 122 17188257806 6 ∷ row 134 18 6
    ∷ row 122 17179869187 6 ∷ row 134 20 6 ∷ row 179 33554432 6 ∷ row 134 21 6 ∷ row 122 17179869184 6 ∷ row 134 22 6
    ∷ row 179 33554432 6 ∷ row 134 23 6 ∷ row 132 8 6 ∷ row 122 154652377090 6 ∷ row 131 33554435 7 ∷ row 134 8 7 ∷ row 155 146 7
    ∷ row 121 8388624 7 ∷ row 167 16777221 7 ∷ row 135 33554435 7 ∷ row 173 0 7 ∷ row 122 17188257808 7 ∷ row 134 10 7
    ∷ row 179 0 7 ∷ row 134 11 7 ∷ row 135 33554436 7 ∷ row 134 12 7 ∷ row 155 156 7 ∷ row 121 8388626 7 ∷ row 167 33554437 7
    ∷ row 177 33554615 7 ∷ row 172 0 7 ∷ row 122 17188257810 7 ∷ row 134 14 7 ∷ row 179 0 7 ∷ row 134 15 7 ∷ row 122 17179869185 7
    ∷ row 134 16 7 ∷ row 179 33554432 7 ∷ row 134 17 7 ∷ row 155 166 7 ∷ row 121 8388628 7 ∷ row 120 0 7 ∷ row 122 17188257812 7
    ∷ row 134 18 7 ∷ row 122 17179869187 7 ∷ row 134 20 7 ∷ row 179 33554432 7 ∷ row 134 21 7 ∷ row 122 17179869184 7
    ∷ row 134 22 7 ∷ row 179 33554432 7 ∷ row 134 23 7 ∷ row 132 8 7 ∷ row 122 154652377090 7 ∷ row 135 33554435 7 ∷ row 134 8 7
    ∷ row 132 9 7 ∷ row 122 154652377088 7 ∷ row 137 8 7 ∷ row 160 0 1 ∷ row 130 0 1 ∷ []

abbrev pub code_calls_object : List ℕ
code_calls_object = 4311744515 ∷ 133177540632 ∷ 115964117002 ∷ 150374187015 ∷ 1 ∷ 30115102725 ∷ 25769803782 ∷ 17179869185
    ∷ 38654705670 ∷ 163208757249 ∷ 17179869185 ∷ 25769803784 ∷ 17179869186 ∷ 25769803785 ∷ 17179869192 ∷ 141750697988
    ∷ 115964117014 ∷ 1 ∷ 19 ∷ 167537278981 ∷ 210486952119 ∷ 188978561024 ∷ 115964117085 ∷ 150374187045 ∷ 16 ∷ 176143990791
    ∷ 25769803797 ∷ 12935233541 ∷ 25769803798 ∷ 171849023495 ∷ 42949672982 ∷ 25769803798 ∷ 158964121619 ∷ 42949672982
    ∷ 38654705685 ∷ 180438958091 ∷ 214748364800 ∷ 17179869185 ∷ 206208761869 ∷ 214748364800 ∷ 12935233545 ∷ 25769803797
    ∷ 17179869185 ∷ 25769803798 ∷ 146045665301 ∷ 25769803797 ∷ 12935233545 ∷ 25769803798 ∷ 17179869186 ∷ 25769803799
    ∷ 146045665302 ∷ 34359738368 ∷ 38654705685 ∷ 12935233551 ∷ 197568495618 ∷ 158964121617 ∷ 12935233541 ∷ 25769803797
    ∷ 115964117054 ∷ 167554056197 ∷ 184733925383 ∷ 188978561024 ∷ 17179869243 ∷ 25769803799 ∷ 219043332096 ∷ 25769803800
    ∷ 12935233545 ∷ 25769803801 ∷ 115964117064 ∷ 167537278981 ∷ 180438958091 ∷ 188978561024 ∷ 17179869253 ∷ 25769803803
    ∷ 219043332096 ∷ 25769803804 ∷ 12935233549 ∷ 25769803805 ∷ 12935233550 ∷ 25769803806 ∷ 12935233551 ∷ 25769803807 ∷ 12935233553
    ∷ 25769803809 ∷ 12935233554 ∷ 25769803810 ∷ 12935233555 ∷ 25769803811 ∷ 12935233556 ∷ 25769803812 ∷ 17179869205 ∷ 154652377111
    ∷ 163208757248 ∷ 115964117089 ∷ 150374187013 ∷ 0 ∷ 163208757248 ∷ 12918456323 ∷ 25769803784 ∷ 17179869185 ∷ 42949672968
    ∷ 25769803784 ∷ 115964117099 ∷ 167503724549 ∷ 17179869189 ∷ 154652377091 ∷ 188978561024 ∷ 17179869287 ∷ 25769803786
    ∷ 219043332096 ∷ 25769803787 ∷ 30098325508 ∷ 25769803788 ∷ 115964117109 ∷ 167537278981 ∷ 210486952119 ∷ 188978561024
    ∷ 17179869298 ∷ 25769803790 ∷ 219043332096 ∷ 25769803791 ∷ 17179869201 ∷ 25769803792 ∷ 219076886528 ∷ 25769803793
    ∷ 115964117120 ∷ 2 ∷ 521737863168 ∷ 17179869310 ∷ 25769803794 ∷ 17179869278 ∷ 25769803796 ∷ 219076886528 ∷ 25769803797
    ∷ 17179869187 ∷ 25769803798 ∷ 219076886528 ∷ 25769803799 ∷ 17179869192 ∷ 154652377111 ∷ 12918456323 ∷ 25769803784
    ∷ 115964117138 ∷ 167520501765 ∷ 30098325507 ∷ 193273528320 ∷ 17179869327 ∷ 25769803786 ∷ 219043332096 ∷ 25769803787
    ∷ 30098325508 ∷ 25769803788 ∷ 115964117148 ∷ 167537278981 ∷ 210486952119 ∷ 188978561024 ∷ 17179869337 ∷ 25769803790
    ∷ 219043332096 ∷ 25769803791 ∷ 17179869201 ∷ 25769803792 ∷ 219076886528 ∷ 25769803793 ∷ 115964117158 ∷ 0 ∷ 17179869349
    ∷ 25769803794 ∷ 17179869278 ∷ 25769803796 ∷ 219076886528 ∷ 25769803797 ∷ 17179869187 ∷ 25769803798 ∷ 219076886528
    ∷ 25769803799 ∷ 17179869192 ∷ 154652377111 ∷ 30098325507 ∷ 25769803784 ∷ 17179869193 ∷ 154652377091 ∷ 38654705672
    ∷ 137438953472 ∷ 8589934592 ∷ []

-- calls of formal procedures with actuals
abbrev pub code_formals : Program
code_formals = MkProgram ([]) (MkBlock 1 (DeclareType (record { type = IntegerType; line = 1 }) (MkNames (at 8 1) ([]))) 1
    (MoreDeclarations
    (DeclareArrays (record { type = BooleanType; line = 1 }) 1
    (MkSegment (MkNames (at 9 1) ([])) 1 (MkPair (only (Numeral 1 1)) 1 (only (Numeral 2 1))) ([]) 1) ([])) 1
    (MoreDeclarations (DeclareSwitch 1 (at 10 1) 1 (only (OneCall (Alone (at 11 1)))) NoExprs) 1 (MoreDeclarations
    (DeclareProcedure (MkHeading (Some (record { type = BooleanType; line = 2 })) 2 (at 12 2) NoFormals 2 NoValues ([]))
    (OneUnconditional (MkUnconditional ([]) (Assign (record { left = OneName (at 12 2); becomes = 2 }) ([]) (only
    (Logical true 2)))))) 2 (MoreDeclarations
    (DeclareProcedure
    (MkHeading None 3 (at 13 3) (FormalList 3 (MkNames (at 14 3) (record { comma = 3; name = (at 15 3) } ∷ [])) 3) 3
    (ValueList 3 (MkNames (at 14 3) ([])) 3) (record {
      specifier = ValueSpec (record { type = IntegerType; line = 3 });
      names = (MkNames (at 14 3) ([]));
      semicolon = 3;
    }
    ∷ record {
      specifier = FunctionSpec (record { type = BooleanType; line = 3 }) 3;
      names = (MkNames (at 15 3) ([]));
      semicolon = 3;
    } ∷ [])) (OneUnconditional (MkUnconditional ([]) Dummy))) 3 (MoreDeclarations
    (DeclareProcedure
    (MkHeading None 4 (at 16 4)
    (FormalList 4 (MkNames (at 15 4) (record { comma = 4; name = (at 17 4) } ∷ record { comma = 4; name = (at 18 4) }
    ∷ [])) 4) 4 NoValues (record {
      specifier = ProcedureSpec 4;
      names = (MkNames (at 15 4) (record { comma = 4; name = (at 18 4) } ∷ []));
      semicolon = 4;
    }
    ∷ record {
      specifier = ValueSpec (record { type = IntegerType; line = 4 });
      names = (MkNames (at 17 4) ([]));
      semicolon = 4;
    } ∷ [])) (OneUnconditional (MkUnconditional ([]) (OneGroup (MkCompound 5
    (OneUnconditional (MkUnconditional ([]) (CallStatement (WithActuals (at 15 5) 5 (OneExpr (only (Numeral 1 5)))
    (MoreActuals 5 (OneExpr (only (OneCall (Alone (at 17 5))))) (MoreActuals 5 (OneExpr (only (OneCall (Alone (at 8 5)))))
    (MoreActuals 5 (OneExpr (only (OneElement (Subscripted (at 9 5) 5 (only (Numeral 1 5)) NoExprs 5)))) (MoreActuals 5
    (OneExpr (only (OneCall (Alone (at 12 5))))) (MoreActuals 5 (OneExpr (only (OneCall (Alone (at 11 5)))))
    (MoreActuals 5 (OneExpr (only (OneCall (Alone (at 9 5))))) (MoreActuals 5
    (OneExpr (only (OneCall (Alone (at 10 5))))) (MoreActuals 5 (AString 5 (record { value = 97; line = 5 } ∷ []) 5)
    (MoreActuals 5 (OneExpr (only (OneCall (Alone (at 18 5))))) (MoreActuals 5
    (OneExpr (only (Bracketed 5 (only (OneCall (Alone (at 12 5)))) 5))) (MoreActuals 5
    (OneExpr (only (OneCall (Alone (at 4 5))))) NoActuals))))))))))) 5))))
    (MoreStatements 5 (OneUnconditional (MkUnconditional ([]) (CallStatement (WithActuals (at 15 6) 6
    (OneExpr (only (OneCall (Alone (at 13 6))))) NoActuals 6)))) NoStatements) 6))))) 6 NoDeclarations)))))
    (OneUnconditional (MkUnconditional ([]) (CallStatement (WithActuals (at 16 7) 7 (OneExpr (only (OneCall (Alone (at 13 7)))))
    (MoreActuals 7 (OneExpr (only (Numeral 1 7))) (MoreActuals 7 (OneExpr (only (OneCall (Alone (at 16 7))))) NoActuals))
    7))))
    (MoreStatements 7 (OneUnconditional (MkUnconditional (record { name = (at 11 7); colon = 7 } ∷ []) Dummy)) NoStatements) 7)
    7

abbrev pub code_formals_7 : List Symbol
code_formals_7 = row 124 4311744515 1 ∷ row 124 133177540616 1 ∷ row 132 1 1 ∷ row 134 8 1 ∷ row 132 2 1 ∷ row 134 9 1
    ∷ row 132 8 1 ∷ row 161 16777220 1 ∷ row 122 115972505600 1 ∷ row 121 0 1 ∷ row 120 1 1 ∷ row 123 8388609 1
    ∷ row 121 8388609 1 ∷ row 124 167537278981 1 ∷ row 122 210486951940 1 ∷ row 172 0 1 ∷ row 125 0 1 ∷ row 121 8388608 1
    ∷ row 122 115972505602 2 ∷ row 121 1 2 ∷ row 124 150374187014 2 ∷ row 120 1 2 ∷ row 135 50331653 2 ∷ row 134 6 2 ∷ row 132 1 2
    ∷ row 137 6 2 ∷ row 166 1 2 ∷ row 125 1 2 ∷ row 121 8388610 2 ∷ row 122 115972505603 3 ∷ row 121 2 3 ∷ row 124 150374187017 3
    ∷ row 120 4 3 ∷ row 166 0 3 ∷ row 125 0 3 ∷ row 121 8388611 3 ∷ row 122 115972505604 4 ∷ row 121 3 4 ∷ row 124 150374187019 4
    ∷ row 120 6 4 ∷ row 181 50331653 5 ∷ row 120 12 5 ∷ row 120 219928688794 5 ∷ row 120 287762808832 5 ∷ row 122 115972505605 5
    ∷ row 121 8388614 5 ∷ row 124 167503724549 5 ∷ row 132 1 5 ∷ row 172 0 5 ∷ row 125 0 5 ∷ row 121 8388613 5
    ∷ row 122 17188257798 5 ∷ row 134 11 5 ∷ row 179 0 5 ∷ row 134 12 5 ∷ row 122 115972505607 5 ∷ row 121 8388616 5
    ∷ row 124 167554056197 5 ∷ row 171 50331655 5 ∷ row 172 0 5 ∷ row 125 0 5 ∷ row 121 8388615 5 ∷ row 122 17188257800 5
    ∷ row 134 13 5 ∷ row 179 0 5 ∷ row 134 14 5 ∷ row 122 115972505609 5 ∷ row 121 8388618 5 ∷ row 124 167520501765 5
    ∷ row 135 33554435 5 ∷ row 173 0 5 ∷ row 125 0 5 ∷ row 121 8388617 5 ∷ row 122 17188257802 5 ∷ row 134 15 5 ∷ row 179 0 5
    ∷ row 134 16 5 ∷ row 122 115972505611 5 ∷ row 121 8388620 5 ∷ row 124 167520501765 5 ∷ row 135 33554436 5 ∷ row 134 5 5
    ∷ row 132 1 5 ∷ row 134 6 5 ∷ row 162 16777221 5 ∷ row 173 0 5 ∷ row 125 2 5 ∷ row 121 8388619 5 ∷ row 122 17188257804 5
    ∷ row 134 17 5 ∷ row 179 0 5 ∷ row 134 18 5 ∷ row 122 17179869185 5 ∷ row 134 19 5 ∷ row 179 33554432 5 ∷ row 134 20 5
    ∷ row 122 115972505613 5 ∷ row 121 8388622 5 ∷ row 124 167537278981 5 ∷ row 122 210486951940 5 ∷ row 172 0 5 ∷ row 125 0 5
    ∷ row 121 8388621 5 ∷ row 122 17188257806 5 ∷ row 134 21 5 ∷ row 179 0 5 ∷ row 134 22 5 ∷ row 135 33554436 5 ∷ row 134 23 5
    ∷ row 122 17179869184 5 ∷ row 134 25 5 ∷ row 179 33554432 5 ∷ row 134 26 5 ∷ row 122 115972505615 5 ∷ row 121 8388624 5
    ∷ row 120 1 5 ∷ row 120 416611827712 5 ∷ row 121 8388623 5 ∷ row 122 17188257808 5 ∷ row 134 27 5 ∷ row 131 50331657 5
    ∷ row 134 29 5 ∷ row 131 50331658 5 ∷ row 134 30 5 ∷ row 122 115972505617 5 ∷ row 121 8388626 5 ∷ row 124 167503724549 5
    ∷ row 132 5 5 ∷ row 122 154652377089 5 ∷ row 172 0 5 ∷ row 125 0 5 ∷ row 121 8388625 5 ∷ row 122 17188257810 5 ∷ row 134 31 5
    ∷ row 179 0 5 ∷ row 134 32 5 ∷ row 122 115972505619 5 ∷ row 121 8388628 5 ∷ row 124 167503724549 5 ∷ row 174 5 5 ∷ row 172 0 5
    ∷ row 125 0 5 ∷ row 121 8388627 5 ∷ row 122 17188257812 5 ∷ row 134 33 5 ∷ row 179 0 5 ∷ row 134 34 5 ∷ row 132 1 5
    ∷ row 182 50331653 5 ∷ row 122 120267472917 5 ∷ row 168 50331659 5 ∷ row 134 11 5 ∷ row 121 8388629 5 ∷ row 132 2 5
    ∷ row 182 50331653 5 ∷ row 122 120267472918 5 ∷ row 168 50331661 5 ∷ row 134 13 5 ∷ row 121 8388630 5 ∷ row 132 3 5
    ∷ row 182 50331653 5 ∷ row 122 120267472919 5 ∷ row 168 50331663 5 ∷ row 134 15 5 ∷ row 121 8388631 5 ∷ row 132 4 5
    ∷ row 182 50331653 5 ∷ row 122 120267472920 5 ∷ row 168 50331665 5 ∷ row 134 17 5 ∷ row 121 8388632 5 ∷ row 132 11 5
    ∷ row 182 50331653 5 ∷ row 122 120267472921 5 ∷ row 168 50331679 5 ∷ row 134 31 5 ∷ row 121 8388633 5 ∷ row 132 12 5
    ∷ row 182 50331653 5 ∷ row 122 120267472922 5 ∷ row 168 50331681 5 ∷ row 134 33 5 ∷ row 121 8388634 5 ∷ row 132 11 5
    ∷ row 183 50331653 5 ∷ row 181 50331653 6 ∷ row 120 1 6 ∷ row 120 687194767360 6 ∷ row 122 115972505627 6 ∷ row 121 8388636 6
    ∷ row 122 223371853826 6 ∷ row 120 120259084288 6 ∷ row 121 8388635 6 ∷ row 122 17188257820 6 ∷ row 134 11 6
    ∷ row 179 33554432 6 ∷ row 134 12 6 ∷ row 132 11 6 ∷ row 183 50331653 6 ∷ row 166 0 4 ∷ row 125 24 4 ∷ row 121 8388612 4
    ∷ row 122 115972505629 7 ∷ row 121 8388638 7 ∷ row 122 223371853826 7 ∷ row 120 120259084288 7 ∷ row 121 8388637 7
    ∷ row 122 17188257822 7 ∷ row 134 8 7 ∷ row 179 33554432 7 ∷ row 134 9 7 ∷ row 122 115972505631 7 ∷ row 121 8388640 7
    ∷ row 124 167503724549 7 ∷ row 132 1 7 ∷ row 172 0 7 ∷ row 125 0 7 ∷ row 121 8388639 7 ∷ row 122 17188257824 7 ∷ row 134 10 7
    ∷ row 179 0 7 ∷ row 134 11 7 ∷ row 122 115972505633 7 ∷ row 121 8388642 7 ∷ row 122 223388631043 7 ∷ row 120 702764023808 7
    ∷ row 121 8388641 7 ∷ row 122 17188257826 7 ∷ row 134 12 7 ∷ row 179 33554432 7 ∷ row 134 13 7 ∷ row 132 8 7
    ∷ row 122 154652377091 7 ∷ row 121 4 7 ∷ row 160 0 1 ∷ row 125 6 1 ∷ row 130 0 1 ∷ row 125 0 1 ∷ row 126 184 1 ∷ []

abbrev pub code_formals_8 : List Symbol
code_formals_8 = row 129 16777219 1 ∷ row 159 33554446 1 ∷ row 132 1 1 ∷ row 134 8 1 ∷ row 132 2 1 ∷ row 134 9 1 ∷ row 132 8 1
    ∷ row 161 16777220 1 ∷ row 155 14 1 ∷ row 121 0 1 ∷ row 120 1 1 ∷ row 120 11 1 ∷ row 167 33554437 1 ∷ row 177 33554614 1
    ∷ row 172 0 1 ∷ row 155 22 2 ∷ row 121 1 2 ∷ row 163 50331655 2 ∷ row 120 1 2 ∷ row 135 50331653 2 ∷ row 134 6 2 ∷ row 132 1 2
    ∷ row 137 6 2 ∷ row 166 1 2 ∷ row 155 26 3 ∷ row 121 2 3 ∷ row 163 50331657 3 ∷ row 120 4 3 ∷ row 166 0 3 ∷ row 155 158 4
    ∷ row 121 3 4 ∷ row 163 50331683 4 ∷ row 120 6 4 ∷ row 181 50331653 5 ∷ row 120 12 5 ∷ row 120 219928688794 5
    ∷ row 120 287762808832 5 ∷ row 155 37 5 ∷ row 121 8388614 5 ∷ row 167 5 5 ∷ row 132 1 5 ∷ row 172 0 5 ∷ row 122 17188257798 5
    ∷ row 134 11 5 ∷ row 179 0 5 ∷ row 134 12 5 ∷ row 155 45 5 ∷ row 121 8388616 5 ∷ row 167 50331653 5 ∷ row 171 50331655 5
    ∷ row 172 0 5 ∷ row 122 17188257800 5 ∷ row 134 13 5 ∷ row 179 0 5 ∷ row 134 14 5 ∷ row 155 53 5 ∷ row 121 8388618 5
    ∷ row 167 16777221 5 ∷ row 135 33554435 5 ∷ row 173 0 5 ∷ row 122 17188257802 5 ∷ row 134 15 5 ∷ row 179 0 5 ∷ row 134 16 5
    ∷ row 155 65 5 ∷ row 121 8388620 5 ∷ row 167 16777223 5 ∷ row 135 33554436 5 ∷ row 134 5 5 ∷ row 132 1 5 ∷ row 134 6 5
    ∷ row 162 16777221 5 ∷ row 173 0 5 ∷ row 122 17188257804 5 ∷ row 134 17 5 ∷ row 179 0 5 ∷ row 134 18 5 ∷ row 122 17179869185 5
    ∷ row 134 19 5 ∷ row 179 33554432 5 ∷ row 134 20 5 ∷ row 155 77 5 ∷ row 121 8388622 5 ∷ row 167 33554437 5
    ∷ row 177 33554614 5 ∷ row 172 0 5 ∷ row 122 17188257806 5 ∷ row 134 21 5 ∷ row 179 0 5 ∷ row 134 22 5 ∷ row 135 33554436 5
    ∷ row 134 23 5 ∷ row 122 17179869184 5 ∷ row 134 25 5 ∷ row 179 33554432 5 ∷ row 134 26 5 ∷ row 155 90 5 ∷ row 121 8388624 5
    ∷ row 120 1 5 ∷ row 120 416611827712 5 ∷ row 122 17188257808 5 ∷ row 134 27 5 ∷ row 131 50331657 5 ∷ row 134 29 5
    ∷ row 131 50331658 5 ∷ row 134 30 5 ∷ row 155 101 5 ∷ row 121 8388626 5 ∷ row 167 5 5 ∷ row 132 5 5 ∷ row 122 154652377089 5
    ∷ row 172 0 5 ∷ row 122 17188257810 5 ∷ row 134 31 5 ∷ row 179 0 5 ∷ row 134 32 5 ∷ row 155 109 5 ∷ row 121 8388628 5
    ∷ row 167 5 5 ∷ row 174 5 5 ∷ row 172 0 5 ∷ row 122 17188257812 5 ∷ row 134 33 5 ∷ row 179 0 5 ∷ row 134 34 5 ∷ row 132 1 5
    ∷ row 182 50331653 5 ∷ row 156 118 5 ∷ row 168 50331659 5 ∷ row 134 11 5 ∷ row 132 2 5 ∷ row 182 50331653 5 ∷ row 156 123 5
    ∷ row 168 50331661 5 ∷ row 134 13 5 ∷ row 132 3 5 ∷ row 182 50331653 5 ∷ row 156 128 5 ∷ row 168 50331663 5 ∷ row 134 15 5
    ∷ row 132 4 5 ∷ row 182 50331653 5 ∷ row 156 133 5 ∷ row 168 50331665 5 ∷ row 134 17 5 ∷ row 132 11 5 ∷ row 182 50331653 5
    ∷ row 156 138 5 ∷ row 168 50331679 5 ∷ row 134 31 5 ∷ row 132 12 5 ∷ row 182 50331653 5 ∷ row 156 143 5 ∷ row 168 50331681 5
    ∷ row 134 33 5 ∷ row 132 11 5 ∷ row 183 50331653 5 ∷ row 181 50331653 6 ∷ row 120 1 6 ∷ row 120 687194767360 6 ∷ row 155 151 6
    ∷ row 121 8388636 6 ∷ row 122 223371853826 6 ∷ row 120 120259084288 6 ∷ row 122 17188257820 6 ∷ row 134 11 6
    ∷ row 179 33554432 6 ∷ row 134 12 6 ∷ row 132 11 6 ∷ row 183 50331653 6 ∷ row 166 0 4 ∷ row 155 161 7 ∷ row 121 8388638 7
    ∷ row 122 223371853826 7 ∷ row 120 120259084288 7 ∷ row 122 17188257822 7 ∷ row 134 8 7 ∷ row 179 33554432 7 ∷ row 134 9 7
    ∷ row 155 169 7 ∷ row 121 8388640 7 ∷ row 167 5 7 ∷ row 132 1 7 ∷ row 172 0 7 ∷ row 122 17188257824 7 ∷ row 134 10 7
    ∷ row 179 0 7 ∷ row 134 11 7 ∷ row 155 176 7 ∷ row 121 8388642 7 ∷ row 122 223388631043 7 ∷ row 120 702764023808 7
    ∷ row 122 17188257826 7 ∷ row 134 12 7 ∷ row 179 33554432 7 ∷ row 134 13 7 ∷ row 132 8 7 ∷ row 122 154652377091 7
    ∷ row 160 0 1 ∷ row 130 0 1 ∷ []

abbrev pub code_formals_object : List ℕ
code_formals_object = 4311744515 ∷ 133177540622 ∷ 17179869185 ∷ 25769803784 ∷ 17179869186 ∷ 25769803785 ∷ 17179869192
    ∷ 141750697988 ∷ 115964117006 ∷ 1 ∷ 11 ∷ 167537278981 ∷ 210486952118 ∷ 188978561024 ∷ 115964117014 ∷ 150374187015 ∷ 1
    ∷ 30115102725 ∷ 25769803782 ∷ 17179869185 ∷ 38654705670 ∷ 163208757249 ∷ 115964117018 ∷ 150374187017 ∷ 4 ∷ 163208757248
    ∷ 115964117150 ∷ 150374187043 ∷ 6 ∷ 227683598341 ∷ 12 ∷ 219928688794 ∷ 287762808832 ∷ 115964117029 ∷ 167503724549
    ∷ 17179869185 ∷ 188978561024 ∷ 17179869218 ∷ 25769803787 ∷ 219043332096 ∷ 25769803788 ∷ 115964117037 ∷ 167554056197
    ∷ 184733925383 ∷ 188978561024 ∷ 17179869226 ∷ 25769803789 ∷ 219043332096 ∷ 25769803790 ∷ 115964117045 ∷ 167520501765
    ∷ 30098325507 ∷ 193273528320 ∷ 17179869234 ∷ 25769803791 ∷ 219043332096 ∷ 25769803792 ∷ 115964117057 ∷ 167520501767
    ∷ 30098325508 ∷ 25769803781 ∷ 17179869185 ∷ 25769803782 ∷ 146045665285 ∷ 193273528320 ∷ 17179869242 ∷ 25769803793
    ∷ 219043332096 ∷ 25769803794 ∷ 17179869199 ∷ 25769803795 ∷ 219076886528 ∷ 25769803796 ∷ 115964117069 ∷ 167537278981
    ∷ 210486952118 ∷ 188978561024 ∷ 17179869258 ∷ 25769803797 ∷ 219043332096 ∷ 25769803798 ∷ 30098325508 ∷ 25769803799
    ∷ 17179869193 ∷ 25769803801 ∷ 219076886528 ∷ 25769803802 ∷ 115964117082 ∷ 1 ∷ 416611827712 ∷ 17179869272 ∷ 25769803803
    ∷ 12935233545 ∷ 25769803805 ∷ 12935233546 ∷ 25769803806 ∷ 115964117093 ∷ 167503724549 ∷ 17179869189 ∷ 154652377103
    ∷ 188978561024 ∷ 17179869281 ∷ 25769803807 ∷ 219043332096 ∷ 25769803808 ∷ 115964117101 ∷ 167503724549 ∷ 197568495621
    ∷ 188978561024 ∷ 17179869290 ∷ 25769803809 ∷ 219043332096 ∷ 25769803810 ∷ 17179869185 ∷ 231978565637 ∷ 120259084406
    ∷ 171849023499 ∷ 25769803787 ∷ 17179869186 ∷ 231978565637 ∷ 120259084411 ∷ 171849023501 ∷ 25769803789 ∷ 17179869187
    ∷ 231978565637 ∷ 120259084416 ∷ 171849023503 ∷ 25769803791 ∷ 17179869188 ∷ 231978565637 ∷ 120259084421 ∷ 171849023505
    ∷ 25769803793 ∷ 17179869195 ∷ 231978565637 ∷ 120259084426 ∷ 171849023519 ∷ 25769803807 ∷ 17179869196 ∷ 231978565637
    ∷ 120259084431 ∷ 171849023521 ∷ 25769803809 ∷ 17179869195 ∷ 236273532933 ∷ 227683598341 ∷ 1 ∷ 687194767360 ∷ 115964117143
    ∷ 223371853847 ∷ 120259084288 ∷ 17179869333 ∷ 25769803787 ∷ 219076886528 ∷ 25769803788 ∷ 17179869195 ∷ 236273532933
    ∷ 163208757248 ∷ 115964117153 ∷ 223371853847 ∷ 120259084288 ∷ 17179869343 ∷ 25769803784 ∷ 219076886528 ∷ 25769803785
    ∷ 115964117161 ∷ 167503724549 ∷ 17179869185 ∷ 188978561024 ∷ 17179869350 ∷ 25769803786 ∷ 219043332096 ∷ 25769803787
    ∷ 115964117168 ∷ 223388631067 ∷ 702764023808 ∷ 17179869358 ∷ 25769803788 ∷ 219076886528 ∷ 25769803789 ∷ 17179869192
    ∷ 154652377115 ∷ 137438953472 ∷ 8589934592 ∷ []

-- own quantities
abbrev pub code_own : Program
code_own =
    MkProgram ([])
    (MkBlock 1 (DeclareOwn 1 (record { type = IntegerType; line = 1 }) (MkNames (at 8 1) (record { comma = 1; name = (at 9 1) }
    ∷ []))) 1
    (MoreDeclarations
    (DeclareOwnArrays 1 (record { type = BooleanType; line = 1 }) 1
    (MkFixed (MkNames (at 10 1) ([])) 1 (MkFixedPair (Unsigned 1 1) 1 (Unsigned 2 1))
    (MoreFurther 1 (MkFixedPair (WithSign Subtract 1 3 1) 1 (WithSign Add 1 4 1)) NoFurther) 1) ([])) 1
    (MoreDeclarations (DeclareProcedure (MkHeading None 2 (at 11 2) NoFormals 2 NoValues ([])) (OneUnconditional
    (MkUnconditional ([]) (OneGroup (MkBlock 2 (DeclareOwn 2 (record { type = BooleanType; line = 2 }) (MkNames (at 9 2)
    ([]))) 2 NoDeclarations
    (OneUnconditional (MkUnconditional ([]) (Assign (record { left = OneName (at 9 2); becomes = 2 }) ([]) (only
    (OneElement (Subscripted (at 10 2) 2 (only (Numeral 1 2)) (MoreExprs 2 (only (Numeral 2 2)) NoExprs) 2))))))
    NoStatements 2))))) 2 NoDeclarations))
    (OneUnconditional (MkUnconditional ([]) (Assign (record { left = OneName (at 8 3); becomes = 3 }) ([]) (only (OneCall
    (Alone (at 9 3)))))))
    (MoreStatements 3 (OneUnconditional (MkUnconditional ([]) (CallStatement (Alone (at 11 3))))) NoStatements) 3) 3

abbrev pub code_own_7 : List Symbol
code_own_7 = row 124 4311744515 1 ∷ row 124 133177540620 1 ∷ row 132 1 1 ∷ row 134 12 1 ∷ row 132 2 1 ∷ row 134 13 1 ∷ row 132 3 1
    ∷ row 143 0 1 ∷ row 134 14 1 ∷ row 132 4 1 ∷ row 134 15 1 ∷ row 132 12 1 ∷ row 161 33554437 1 ∷ row 124 133194317827 1
    ∷ row 122 115972505600 2 ∷ row 121 0 2 ∷ row 124 150390964229 2 ∷ row 120 0 2 ∷ row 124 133227872259 2 ∷ row 135 33554443 2
    ∷ row 134 3 2 ∷ row 135 33554437 2 ∷ row 134 4 2 ∷ row 132 1 2 ∷ row 134 5 2 ∷ row 132 2 2 ∷ row 134 6 2 ∷ row 162 33554436 2
    ∷ row 136 0 2 ∷ row 137 3 2 ∷ row 160 0 2 ∷ row 125 4 2 ∷ row 166 0 2 ∷ row 125 0 2 ∷ row 121 8388608 2 ∷ row 135 33554435 3
    ∷ row 134 3 3 ∷ row 131 33554436 3 ∷ row 137 3 3 ∷ row 132 3 3 ∷ row 122 154669154304 3 ∷ row 160 0 1 ∷ row 125 1 1
    ∷ row 160 0 1 ∷ row 125 4 1 ∷ row 130 0 1 ∷ row 125 0 1 ∷ row 126 40 1 ∷ []

abbrev pub code_own_8 : List Symbol
code_own_8 = row 129 16777219 1 ∷ row 159 33554448 1 ∷ row 132 1 1 ∷ row 134 12 1 ∷ row 132 2 1 ∷ row 134 13 1 ∷ row 132 3 1
    ∷ row 143 0 1 ∷ row 134 14 1 ∷ row 132 4 1 ∷ row 134 15 1 ∷ row 132 12 1 ∷ row 161 33554437 1 ∷ row 159 50331652 1
    ∷ row 155 31 2 ∷ row 121 0 2 ∷ row 163 67108869 2 ∷ row 120 0 2 ∷ row 159 83886087 2 ∷ row 135 33554443 2 ∷ row 134 3 2
    ∷ row 135 33554437 2 ∷ row 134 4 2 ∷ row 132 1 2 ∷ row 134 5 2 ∷ row 132 2 2 ∷ row 134 6 2 ∷ row 162 33554436 2 ∷ row 136 0 2
    ∷ row 137 3 2 ∷ row 160 0 2 ∷ row 166 0 2 ∷ row 135 33554435 3 ∷ row 134 3 3 ∷ row 131 33554436 3 ∷ row 137 3 3 ∷ row 132 3 3
    ∷ row 122 154669154304 3 ∷ row 160 0 1 ∷ row 160 0 1 ∷ row 130 0 1 ∷ []

abbrev pub code_own_object : List ℕ
code_own_object = 4311744515 ∷ 133177540624 ∷ 17179869185 ∷ 25769803788 ∷ 17179869186 ∷ 25769803789 ∷ 17179869187 ∷ 64424509440
    ∷ 25769803790 ∷ 17179869188 ∷ 25769803791 ∷ 17179869196 ∷ 141767475205 ∷ 133194317828 ∷ 115964117023 ∷ 150390964229 ∷ 0
    ∷ 133227872263 ∷ 30098325515 ∷ 25769803779 ∷ 30098325509 ∷ 25769803780 ∷ 17179869185 ∷ 25769803781 ∷ 17179869186 ∷ 25769803782
    ∷ 146062442500 ∷ 34359738368 ∷ 38654705667 ∷ 137438953472 ∷ 163208757248 ∷ 30098325507 ∷ 25769803779 ∷ 12918456324
    ∷ 38654705667 ∷ 17179869187 ∷ 154669154319 ∷ 137438953472 ∷ 137438953472 ∷ 8589934592 ∷ []

pub record AreCoded : Type 0 where
  pub code_sums_is_7 : text7 code_sums ≡ code_sums_7
  pub code_sums_is_8 : text8_of code_sums_7 ≡ code_sums_8
  pub code_sums_is_object : object_of code_sums_7 ≡ code_sums_object
  pub code_loops_is_7 : text7 code_loops ≡ code_loops_7
  pub code_loops_is_8 : text8_of code_loops_7 ≡ code_loops_8
  pub code_loops_is_object : object_of code_loops_7 ≡ code_loops_object
  pub code_arrays_is_7 : text7 code_arrays ≡ code_arrays_7
  pub code_arrays_is_8 : text8_of code_arrays_7 ≡ code_arrays_8
  pub code_arrays_is_object : object_of code_arrays_7 ≡ code_arrays_object
  pub code_calls_is_7 : text7 code_calls ≡ code_calls_7
  pub code_calls_is_8 : text8_of code_calls_7 ≡ code_calls_8
  pub code_calls_is_object : object_of code_calls_7 ≡ code_calls_object
  pub code_formals_is_7 : text7 code_formals ≡ code_formals_7
  pub code_formals_is_8 : text8_of code_formals_7 ≡ code_formals_8
  pub code_formals_is_object : object_of code_formals_7 ≡ code_formals_object
  pub code_own_is_7 : text7 code_own ≡ code_own_7
  pub code_own_is_8 : text8_of code_own_7 ≡ code_own_8
  pub code_own_is_object : object_of code_own_7 ≡ code_own_object
