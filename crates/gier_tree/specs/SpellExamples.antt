-- Trees and their spellings: three programs. The symbols are those that the bytes of each program give.
use Rattle.std.specs.Prelude.{◌≡◌, ℕ, true, List, [], ◌∷◌, Some}
use Rattle.gier_symbol.specs.declared.symbol.Symbol.{Symbol}
use Rattle.gier_tree.specs.Trees.{only, Name, Add, Subtract, Multiply, Divide, LessThan, AtLeast, OneSimple, IfExpr}
use Rattle.gier_tree.specs.Trees.{OneImplication, OneDisjunction, OneConjunction, OneNegation, Both, OneRelation, Negated}
use Rattle.gier_tree.specs.Trees.{OneArithmetic, Compared, OneTerm, Signed, Summed, OneFactor, Multiplied, OnePrimary, Raised}
use Rattle.gier_tree.specs.Trees.{Numeral, Logical, Bracketed, OneCall, OneElement, Alone, WithActuals, Subscripted, OneExpr}
use Rattle.gier_tree.specs.Trees.{AString, NoActuals, NoExprs, MoreExprs, MkNames, IntegerType, BooleanType, MkPair, MkSegment}
use Rattle.gier_tree.specs.Trees.{Unsigned, WithSign, MkFixedPair, NoFurther, MoreFurther, MkFixed, FormalList, ValueList}
use Rattle.gier_tree.specs.Trees.{ValueSpec, LabelSpec, MkHeading, OneName, LeftElement, OneValue, StepUntil, WhileTrue}
use Rattle.gier_tree.specs.Trees.{DeclareType, DeclareOwn, DeclareArrays, DeclareOwnArrays, DeclareSwitch, DeclareProcedure}
use Rattle.gier_tree.specs.Trees.{NoDeclarations, MoreDeclarations, MkBlock, MkCompound, NoStatements, MoreStatements}
use Rattle.gier_tree.specs.Trees.{OneUnconditional, OneConditional, OneLoop, MkUnconditional, Assign, Jump, CallStatement, Dummy}
use Rattle.gier_tree.specs.Trees.{IfElse, MkLoop, Program, MkProgram}
use Rattle.gier_tree.specs.Spell.{spell_program}

-- an identifier of this number on a line, and a symbol by its tag, value and line
abbrev pub at : (number line : ℕ) → Name
at number line = record { number = number; line = line }

abbrev pub row : (tag value line : ℕ) → Symbol
row tag value line = record { tag = tag; value = value; line = line }

-- assignment, operators from the left, and calls with a string and an expression
abbrev pub sums_tree : Program
sums_tree =
    MkProgram ([]) (MkBlock 1 (DeclareType (record { type = IntegerType; line = 1 }) (MkNames (at 8 1) ([]))) 1 NoDeclarations
    (OneUnconditional (MkUnconditional ([]) (Assign (record { left = OneName (at 8 2); becomes = 2 }) ([]) (OneSimple
    (OneImplication (OneDisjunction (OneConjunction (OneNegation (OneRelation (OneArithmetic (OneTerm (Multiplied
    (OneFactor (OnePrimary (Bracketed 2 (OneSimple (OneImplication (OneDisjunction (OneConjunction (OneNegation (OneRelation
    (OneArithmetic (Summed (OneTerm (OneFactor (OnePrimary (Numeral 1 2)))) Add 2 (OneFactor (OnePrimary
    (Numeral 2 2))))))))))) 2))) Multiply 2 (Raised (OnePrimary (Numeral 3 2)) 2 (Numeral 2 2))))))))))))))
    (MoreStatements 2 (OneUnconditional (MkUnconditional ([]) (CallStatement (WithActuals (at 1 3) 3
    (AString 3 (record { value = 97; line = 3 } ∷ record { value = 10; line = 3 } ∷ []) 4) NoActuals 4))))
    (MoreStatements 4 (OneUnconditional (MkUnconditional ([]) (CallStatement (WithActuals (at 0 4) 4
    (OneExpr (OneSimple (OneImplication (OneDisjunction (OneConjunction (OneNegation (OneRelation (OneArithmetic
    (Signed Subtract 4 (Multiplied (OneFactor (OnePrimary (OneCall (Alone (at 8 4))))) Divide 4 (OnePrimary
    (Numeral 2 4)))))))))))) NoActuals 4)))) NoStatements)) 4) 4

abbrev pub sums_symbols : List Symbol
sums_symbols = row 36 0 1 ∷ row 47 0 1 ∷ row 3 8 1 ∷ row 30 0 1 ∷ row 3 8 2 ∷ row 31 0 2 ∷ row 32 0 2 ∷ row 4 1 2 ∷ row 10 0 2
    ∷ row 4 2 2 ∷ row 33 0 2 ∷ row 12 0 2 ∷ row 4 3 2 ∷ row 14 0 2 ∷ row 4 2 2 ∷ row 30 0 2 ∷ row 3 1 3 ∷ row 32 0 3 ∷ row 5 0 3
    ∷ row 6 97 3 ∷ row 6 10 3 ∷ row 7 0 4 ∷ row 33 0 4 ∷ row 30 0 4 ∷ row 3 0 4 ∷ row 32 0 4 ∷ row 11 0 4 ∷ row 3 8 4 ∷ row 13 0 4
    ∷ row 4 2 4 ∷ row 33 0 4 ∷ row 37 0 4 ∷ row 8 0 4 ∷ []

-- for elements, labels, left parts, and a conditional statement and expression
abbrev pub loop_tree : Program
loop_tree = MkProgram (record { name = (at 8 1); colon = 1 } ∷ [])
    (MkCompound 1
    (OneLoop (MkLoop ([]) 2 (at 9 2) 2 (StepUntil (only (Numeral 1 2)) 2 (only (Numeral 1 2)) 2 (only (OneCall (Alone
    (at 10 2)))))
    (record {
      comma = 2;
      turns = (WhileTrue (only (OneCall (Alone (at 11 2)))) 2 (OneSimple (OneImplication (OneDisjunction (OneConjunction
          (Both (OneNegation (Negated 2 (Compared (OneTerm (OneFactor (OnePrimary (OneCall (Alone (at 9 2)))))) LessThan 2
          (OneTerm (OneFactor (OnePrimary (OneCall (Alone (at 11 2))))))))) 2 (OneRelation (OneArithmetic (OneTerm (OneFactor
          (OnePrimary (Logical true 2))))))))))));
    } ∷ record { comma = 2; turns = (OneValue (only (Numeral 0 2))) } ∷ []) 2
    (OneConditional (IfElse (record { name = (at 12 3); colon = 3 } ∷ []) 3
    (OneSimple (OneImplication (OneDisjunction (OneConjunction (OneNegation (OneRelation (Compared
    (OneTerm (OneFactor (OnePrimary (OneElement (Subscripted (at 13 3) 3 (only (Numeral 1 3))
    (MoreExprs 3 (only (Numeral 2 3)) NoExprs) 3))))) AtLeast 3 (OneTerm (OneFactor (OnePrimary (Numeral 0 3))))))))))) 3
    (MkUnconditional ([]) (Assign
    (record { left = LeftElement (Subscripted (at 14 3) 3 (only (OneCall (Alone (at 9 3)))) NoExprs 3); becomes = 3 })
    (record { left = OneName (at 15 3); becomes = 3 } ∷ []) (IfExpr 3 (only (OneCall (Alone (at 16 3)))) 3
    (OneImplication (OneDisjunction (OneConjunction (OneNegation (OneRelation (OneArithmetic (OneTerm (OneFactor (OnePrimary
    (OneCall (Alone (at 17 3)))))))))))) 3 (only (OneCall (Alone (at 18 3))))))) 4 (OneUnconditional (MkUnconditional ([])
    (Jump 4 (only (OneElement (Subscripted (at 19 4) 4 (only (OneCall (Alone (at 9 4)))) NoExprs 4)))))))))) NoStatements 4) 4

abbrev pub loop_symbols : List Symbol
loop_symbols = row 3 8 1 ∷ row 29 0 1 ∷ row 36 0 1 ∷ row 41 0 2 ∷ row 3 9 2 ∷ row 31 0 2 ∷ row 4 1 2 ∷ row 42 0 2 ∷ row 4 1 2
    ∷ row 43 0 2 ∷ row 3 10 2 ∷ row 28 0 2 ∷ row 3 11 2 ∷ row 44 0 2 ∷ row 21 0 2 ∷ row 3 9 2 ∷ row 15 0 2 ∷ row 3 11 2
    ∷ row 22 0 2 ∷ row 26 0 2 ∷ row 28 0 2 ∷ row 4 0 2 ∷ row 45 0 2 ∷ row 3 12 3 ∷ row 29 0 3 ∷ row 38 0 3 ∷ row 3 13 3
    ∷ row 34 0 3 ∷ row 4 1 3 ∷ row 28 0 3 ∷ row 4 2 3 ∷ row 35 0 3 ∷ row 18 0 3 ∷ row 4 0 3 ∷ row 39 0 3 ∷ row 3 14 3 ∷ row 34 0 3
    ∷ row 3 9 3 ∷ row 35 0 3 ∷ row 31 0 3 ∷ row 3 15 3 ∷ row 31 0 3 ∷ row 38 0 3 ∷ row 3 16 3 ∷ row 39 0 3 ∷ row 3 17 3
    ∷ row 40 0 3 ∷ row 3 18 3 ∷ row 40 0 4 ∷ row 46 0 4 ∷ row 3 19 4 ∷ row 34 0 4 ∷ row 3 9 4 ∷ row 35 0 4 ∷ row 37 0 4
    ∷ row 8 0 4 ∷ []

-- declarations, own ones and a procedure among them
abbrev pub declared_tree : Program
declared_tree =
    MkProgram ([])
    (MkBlock 1
    (DeclareOwnArrays 1 (record { type = IntegerType; line = 1 }) 1
    (MkFixed (MkNames (at 8 1) (record { comma = 1; name = (at 9 1) } ∷ [])) 1
    (MkFixedPair (WithSign Subtract 1 1 1) 1 (WithSign Add 1 2 1))
    (MoreFurther 1 (MkFixedPair (Unsigned 3 1) 1 (Unsigned 4 1)) NoFurther) 1) ([])) 1
    (MoreDeclarations (DeclareOwn 1 (record { type = BooleanType; line = 1 }) (MkNames (at 10 1) ([]))) 1 (MoreDeclarations
    (DeclareArrays (record { type = IntegerType; line = 2 }) 2
    (MkSegment (MkNames (at 11 2) ([])) 2 (MkPair (only (Numeral 1 2)) 2 (only (OneCall (Alone (at 12 2))))) ([]) 2) ([]))
    2 (MoreDeclarations (DeclareSwitch 2 (at 13 2) 2 (only (OneCall (Alone (at 14 2)))) (MoreExprs 2
    (only (OneCall (Alone (at 15 2)))) NoExprs)) 2 (MoreDeclarations
    (DeclareProcedure (MkHeading (Some (record { type = IntegerType; line = 3 })) 3 (at 16 3)
    (FormalList 3 (MkNames (at 17 3) (record { comma = 3; name = (at 18 3) } ∷ [])) 3) 3
    (ValueList 3 (MkNames (at 17 3) ([])) 3) (record {
      specifier = ValueSpec (record { type = IntegerType; line = 3 });
      names = (MkNames (at 17 3) ([]));
      semicolon = 3;
    }
    ∷ record { specifier = LabelSpec 3; names = (MkNames (at 18 3) ([])); semicolon = 3 } ∷ [])) (OneUnconditional
    (MkUnconditional ([]) (Assign (record { left = OneName (at 16 4); becomes = 4 }) ([]) (only (OneCall (Alone
    (at 17 4)))))))) 4 NoDeclarations))))
    (OneUnconditional (MkUnconditional (record { name = (at 14 5); colon = 5 } ∷ record { name = (at 15 5); colon = 5 }
    ∷ []) Dummy)) NoStatements 5) 5

abbrev pub declared_symbols : List Symbol
declared_symbols = row 36 0 1 ∷ row 55 0 1 ∷ row 47 0 1 ∷ row 49 0 1 ∷ row 3 8 1 ∷ row 28 0 1 ∷ row 3 9 1 ∷ row 34 0 1
    ∷ row 11 0 1 ∷ row 4 1 1 ∷ row 29 0 1 ∷ row 10 0 1 ∷ row 4 2 1 ∷ row 28 0 1 ∷ row 4 3 1 ∷ row 29 0 1 ∷ row 4 4 1 ∷ row 35 0 1
    ∷ row 30 0 1 ∷ row 55 0 1 ∷ row 48 0 1 ∷ row 3 10 1 ∷ row 30 0 1 ∷ row 47 0 2 ∷ row 49 0 2 ∷ row 3 11 2 ∷ row 34 0 2
    ∷ row 4 1 2 ∷ row 29 0 2 ∷ row 3 12 2 ∷ row 35 0 2 ∷ row 30 0 2 ∷ row 50 0 2 ∷ row 3 13 2 ∷ row 31 0 2 ∷ row 3 14 2
    ∷ row 28 0 2 ∷ row 3 15 2 ∷ row 30 0 2 ∷ row 47 0 3 ∷ row 51 0 3 ∷ row 3 16 3 ∷ row 32 0 3 ∷ row 3 17 3 ∷ row 28 0 3
    ∷ row 3 18 3 ∷ row 33 0 3 ∷ row 30 0 3 ∷ row 54 0 3 ∷ row 3 17 3 ∷ row 30 0 3 ∷ row 47 0 3 ∷ row 3 17 3 ∷ row 30 0 3
    ∷ row 53 0 3 ∷ row 3 18 3 ∷ row 30 0 3 ∷ row 3 16 4 ∷ row 31 0 4 ∷ row 3 17 4 ∷ row 30 0 4 ∷ row 3 14 5 ∷ row 29 0 5
    ∷ row 3 15 5 ∷ row 29 0 5 ∷ row 37 0 5 ∷ row 8 0 5 ∷ []

pub record AreSpelled : Type 0 where
  pub sums : spell_program sums_tree ≡ sums_symbols
  pub loop : spell_program loop_tree ≡ loop_symbols
  pub declared : spell_program declared_tree ≡ declared_symbols
