-- Hoisted programs, told by their spelling: an own declaration still stands in its place.
use Rattle.std.specs.Prelude.{◌≡◌, true, false, List, [], ◌∷◌, None}
use Rattle.gier_symbol.specs.declared.symbol.Symbol.{Symbol}
use Rattle.gier_tree.specs.Trees.{Add, Subtract, Multiply, Divide, LessThan, EqualTo, AtLeast, OneSimple, IfExpr, OneImplication}
use Rattle.gier_tree.specs.Trees.{Equivalent, OneDisjunction, Implies, OneConjunction, Either, OneNegation, Both, OneRelation}
use Rattle.gier_tree.specs.Trees.{Negated, OneArithmetic, Compared, OneTerm, Signed, Summed, OneFactor, Multiplied, OnePrimary}
use Rattle.gier_tree.specs.Trees.{Raised, Numeral, Logical, Bracketed, OneCall, OneElement, Alone, WithActuals, Subscripted}
use Rattle.gier_tree.specs.Trees.{OneExpr, AString, NoActuals, MoreActuals, NoExprs, MoreExprs, only, MkNames, IntegerType}
use Rattle.gier_tree.specs.Trees.{BooleanType, MkPair, MkSegment, Unsigned, WithSign, MkFixedPair, NoFurther, MoreFurther}
use Rattle.gier_tree.specs.Trees.{MkFixed, Dummy, NoFormals, FormalList, NoValues, ValueSpec, StringSpec, MkHeading, OneName}
use Rattle.gier_tree.specs.Trees.{LeftElement, OneValue, StepUntil, WhileTrue, DeclareType, DeclareOwn, DeclareArrays}
use Rattle.gier_tree.specs.Trees.{DeclareOwnArrays, DeclareSwitch, DeclareProcedure, NoDeclarations, MoreDeclarations, MkBlock}
use Rattle.gier_tree.specs.Trees.{MkCompound, NoStatements, MoreStatements, OneUnconditional, OneConditional, OneLoop}
use Rattle.gier_tree.specs.Trees.{MkUnconditional, OneGroup, Assign, Jump, CallStatement, IfThen, IfElse, MkLoop, Program}
use Rattle.gier_tree.specs.Trees.{MkProgram}
use Rattle.gier_tree.specs.SpellExamples.{at, row}
use Rattle.gier_tree.specs.Spell.{spell_program}
use Rattle.gier_tree.specs.Hoist.{hoist}

-- a program without own declarations stays
abbrev pub no_own : Program
no_own = MkProgram (record { name = (at 8 1); colon = 1 } ∷ [])
    (MkBlock 1 (DeclareType (record { type = IntegerType; line = 1 }) (MkNames (at 9 1) ([]))) 1 NoDeclarations
    (OneUnconditional (MkUnconditional ([]) (Assign (record { left = OneName (at 9 2); becomes = 2 }) ([]) (only
    (Numeral 1 2))))) NoStatements 2) 2

abbrev pub no_own_symbols : List Symbol
no_own_symbols = row 3 8 1 ∷ row 29 0 1 ∷ row 36 0 1 ∷ row 47 0 1 ∷ row 3 9 1 ∷ row 30 0 1 ∷ row 3 9 2 ∷ row 31 0 2 ∷ row 4 1 2
    ∷ row 37 0 2 ∷ row 8 0 2 ∷ []

-- an own variable
abbrev pub one_own : Program
one_own =
    MkProgram ([]) (MkBlock 1 (DeclareOwn 2 (record { type = IntegerType; line = 2 }) (MkNames (at 8 2) ([]))) 2 NoDeclarations
    (OneUnconditional (MkUnconditional ([]) (Assign (record { left = OneName (at 8 2); becomes = 2 }) ([]) (OneSimple
    (OneImplication (OneDisjunction (OneConjunction (OneNegation (OneRelation (OneArithmetic (Summed
    (OneTerm (OneFactor (OnePrimary (OneCall (Alone (at 8 2)))))) Add 2 (OneFactor (OnePrimary (Numeral 1 2))))))))))))))
    (MoreStatements 2 (OneUnconditional (MkUnconditional ([]) (CallStatement (WithActuals (at 1 3) 3
    (AString 3 (record { value = 97; line = 3 } ∷ []) 3) NoActuals 3)))) NoStatements) 3) 4

abbrev pub one_own_symbols : List Symbol
one_own_symbols = row 36 0 1 ∷ row 47 0 2 ∷ row 3 4294967296 2 ∷ row 30 0 2 ∷ row 36 0 1 ∷ row 55 0 2 ∷ row 47 0 2 ∷ row 3 8 2
    ∷ row 30 0 2 ∷ row 3 4294967296 2 ∷ row 31 0 2 ∷ row 3 4294967296 2 ∷ row 10 0 2 ∷ row 4 1 2 ∷ row 30 0 2 ∷ row 3 1 3
    ∷ row 32 0 3 ∷ row 5 0 3 ∷ row 6 97 3 ∷ row 7 0 3 ∷ row 33 0 3 ∷ row 37 0 3 ∷ row 37 0 4 ∷ row 8 0 4 ∷ []

-- own arrays, a semicolon on the line of the last symbol, and signs in bounds
abbrev pub own_array : Program
own_array = MkProgram (record { name = (at 8 1); colon = 1 } ∷ record { name = (at 9 1); colon = 1 } ∷ [])
    (MkBlock 2
    (DeclareOwnArrays 2 (record { type = BooleanType; line = 2 }) 2
    (MkFixed (MkNames (at 10 2) (record { comma = 2; name = (at 11 2) } ∷ [])) 2
    (MkFixedPair (WithSign Subtract 2 1 2) 2 (WithSign Add 2 2 2))
    (MoreFurther 2 (MkFixedPair (Unsigned 3 2) 2 (Unsigned 4 2)) NoFurther) 2) (record
    { comma = 2; segment = (MkFixed (MkNames (at 12 3) ([])) 3 (MkFixedPair (Unsigned 0 3) 3 (Unsigned 1 3)) NoFurther 3) }
    ∷ [])) 4 NoDeclarations
    (OneUnconditional (MkUnconditional ([]) (Assign
    (record {
      left = LeftElement (Subscripted (at 10 4) 4 (only (Numeral 1 4)) (MoreExprs 4 (only (Numeral 3 4)) NoExprs) 4);
      becomes = 4;
    })
    (record {
      left = LeftElement (Subscripted (at 11 4) 4 (only (Numeral 0 4)) (MoreExprs 4 (only (Numeral 4 4)) NoExprs) 4);
      becomes = 4;
    } ∷ []) (only (OneElement (Subscripted (at 12 4) 4 (only (Numeral 1 4)) NoExprs 4)))))) NoStatements 4) 4

abbrev pub own_array_symbols : List Symbol
own_array_symbols = row 36 0 1 ∷ row 48 0 2 ∷ row 49 0 2 ∷ row 3 4294967296 2 ∷ row 28 0 2 ∷ row 3 4294967297 2 ∷ row 34 0 2
    ∷ row 11 0 2 ∷ row 4 1 2 ∷ row 29 0 2 ∷ row 10 0 2 ∷ row 4 2 2 ∷ row 28 0 2 ∷ row 4 3 2 ∷ row 29 0 2 ∷ row 4 4 2 ∷ row 35 0 2
    ∷ row 28 0 2 ∷ row 3 4294967298 3 ∷ row 34 0 3 ∷ row 4 0 3 ∷ row 29 0 3 ∷ row 4 1 3 ∷ row 35 0 3 ∷ row 30 0 3 ∷ row 3 8 1
    ∷ row 29 0 1 ∷ row 3 9 1 ∷ row 29 0 1 ∷ row 36 0 2 ∷ row 55 0 2 ∷ row 48 0 2 ∷ row 49 0 2 ∷ row 3 10 2 ∷ row 28 0 2
    ∷ row 3 11 2 ∷ row 34 0 2 ∷ row 11 0 2 ∷ row 4 1 2 ∷ row 29 0 2 ∷ row 10 0 2 ∷ row 4 2 2 ∷ row 28 0 2 ∷ row 4 3 2 ∷ row 29 0 2
    ∷ row 4 4 2 ∷ row 35 0 2 ∷ row 28 0 2 ∷ row 3 12 3 ∷ row 34 0 3 ∷ row 4 0 3 ∷ row 29 0 3 ∷ row 4 1 3 ∷ row 35 0 3 ∷ row 30 0 4
    ∷ row 3 4294967296 4 ∷ row 34 0 4 ∷ row 4 1 4 ∷ row 28 0 4 ∷ row 4 3 4 ∷ row 35 0 4 ∷ row 31 0 4 ∷ row 3 4294967297 4
    ∷ row 34 0 4 ∷ row 4 0 4 ∷ row 28 0 4 ∷ row 4 4 4 ∷ row 35 0 4 ∷ row 31 0 4 ∷ row 3 4294967298 4 ∷ row 34 0 4 ∷ row 4 1 4
    ∷ row 35 0 4 ∷ row 37 0 4 ∷ row 37 0 4 ∷ row 8 0 4 ∷ []

-- declarations in between hide an own quantity: a variable, a formal, a label
abbrev pub own_hidden : Program
own_hidden =
    MkProgram ([])
    (MkBlock 1 (DeclareOwn 1 (record { type = IntegerType; line = 1 }) (MkNames (at 8 1) (record { comma = 1; name = (at 9 1) }
    ∷ []))) 1 NoDeclarations
    (OneUnconditional (MkUnconditional ([]) (OneGroup (MkBlock 2
    (DeclareType (record { type = IntegerType; line = 2 }) (MkNames (at 8 2) ([]))) 2 NoDeclarations
    (OneUnconditional (MkUnconditional ([]) (Assign (record { left = OneName (at 8 2); becomes = 2 }) ([]) (only (OneCall
    (Alone (at 9 2))))))) NoStatements 2))))
    (MoreStatements 2
    (OneUnconditional (MkUnconditional ([]) (OneGroup (MkBlock 3
    (DeclareProcedure (MkHeading None 3 (at 10 3) (FormalList 3 (MkNames (at 9 3) ([])) 3) 3 NoValues (record {
      specifier = ValueSpec (record { type = IntegerType; line = 3 });
      names = (MkNames (at 9 3) ([]));
      semicolon = 3;
    } ∷ [])) (OneUnconditional (MkUnconditional ([]) (Assign (record {
      left = OneName (at 9 3);
      becomes = 3;
    }) ([]) (only (OneCall (Alone (at 8 3)))))))) 3 NoDeclarations
    (OneUnconditional (MkUnconditional ([]) (CallStatement (WithActuals (at 10 3) 3
    (OneExpr (only (OneCall (Alone (at 8 3))))) NoActuals 3)))) NoStatements 3)))) (MoreStatements 3
    (OneLoop (MkLoop ([]) 4 (at 8 4) 4 (OneValue (only (OneCall (Alone (at 9 4))))) ([]) 4 (OneUnconditional
    (MkUnconditional ([]) (OneGroup (MkCompound 4
    (OneUnconditional (MkUnconditional (record { name = (at 9 4); colon = 4 } ∷ []) (Jump 4 (only (OneCall (Alone
    (at 9 4))))))) NoStatements 4)))))) (MoreStatements 4
    (OneUnconditional (MkUnconditional ([]) (Assign (record { left = OneName (at 8 5); becomes = 5 }) ([]) (only (OneCall
    (Alone (at 9 5))))))) NoStatements))) 5) 5

abbrev pub own_hidden_symbols : List Symbol
own_hidden_symbols = row 36 0 1 ∷ row 47 0 1 ∷ row 3 4294967296 1 ∷ row 28 0 1 ∷ row 3 4294967297 1 ∷ row 30 0 1 ∷ row 36 0 1
    ∷ row 55 0 1 ∷ row 47 0 1 ∷ row 3 8 1 ∷ row 28 0 1 ∷ row 3 9 1 ∷ row 30 0 1 ∷ row 36 0 2 ∷ row 47 0 2 ∷ row 3 8 2 ∷ row 30 0 2
    ∷ row 3 8 2 ∷ row 31 0 2 ∷ row 3 4294967297 2 ∷ row 37 0 2 ∷ row 30 0 2 ∷ row 36 0 3 ∷ row 51 0 3 ∷ row 3 10 3 ∷ row 32 0 3
    ∷ row 3 9 3 ∷ row 33 0 3 ∷ row 30 0 3 ∷ row 47 0 3 ∷ row 3 9 3 ∷ row 30 0 3 ∷ row 3 9 3 ∷ row 31 0 3 ∷ row 3 4294967296 3
    ∷ row 30 0 3 ∷ row 3 10 3 ∷ row 32 0 3 ∷ row 3 4294967296 3 ∷ row 33 0 3 ∷ row 37 0 3 ∷ row 30 0 3 ∷ row 41 0 4
    ∷ row 3 4294967296 4 ∷ row 31 0 4 ∷ row 3 4294967297 4 ∷ row 45 0 4 ∷ row 36 0 4 ∷ row 3 9 4 ∷ row 29 0 4 ∷ row 46 0 4
    ∷ row 3 9 4 ∷ row 37 0 4 ∷ row 30 0 4 ∷ row 3 4294967296 5 ∷ row 31 0 5 ∷ row 3 4294967297 5 ∷ row 37 0 5 ∷ row 37 0 5
    ∷ row 8 0 5 ∷ []

-- own quantities of inner blocks and procedures are numbered in the order of the text
abbrev pub own_inner : Program
own_inner = MkProgram ([]) (MkBlock 1 (DeclareType (record { type = IntegerType; line = 1 }) (MkNames (at 8 1) ([]))) 1
    (MoreDeclarations (DeclareProcedure (MkHeading None 1 (at 9 1) NoFormals 1 NoValues ([])) (OneUnconditional (MkUnconditional
    ([]) (OneGroup (MkBlock 1 (DeclareOwn 1 (record { type = IntegerType; line = 1 }) (MkNames (at 8 1) ([]))) 1
    NoDeclarations (OneUnconditional (MkUnconditional ([]) (Assign (record { left = OneName (at 8 1); becomes = 1 }) ([])
    (OneSimple (OneImplication (OneDisjunction (OneConjunction (OneNegation (OneRelation (OneArithmetic (Summed
    (OneTerm (OneFactor (OnePrimary (OneCall (Alone (at 8 1)))))) Add 1 (OneFactor (OnePrimary (Numeral 1 1))))))))))))))
    NoStatements 1))))) 1 (MoreDeclarations (DeclareOwn 2 (record { type = IntegerType; line = 2 }) (MkNames (at 10 2)
    ([]))) 2 NoDeclarations))
    (OneUnconditional (MkUnconditional ([]) (Assign (record { left = OneName (at 8 2); becomes = 2 }) ([]) (only (OneCall (Alone
    (at 10 2)))))))
    (MoreStatements 2
    (OneConditional (IfElse ([]) 3 (OneSimple (OneImplication (OneDisjunction (OneConjunction (OneNegation (OneRelation
    (Compared (OneTerm (OneFactor (OnePrimary (OneCall (Alone (at 8 3)))))) EqualTo 3 (OneTerm (OneFactor (OnePrimary
    (Numeral 1 3))))))))))) 3
    (MkUnconditional ([]) (OneGroup (MkBlock 3 (DeclareOwn 3 (record { type = BooleanType; line = 3 }) (MkNames (at 8 3)
    (record { comma = 3; name = (at 11 3) } ∷ []))) 3 NoDeclarations
    (OneUnconditional (MkUnconditional ([]) (Assign (record { left = OneName (at 8 3); becomes = 3 }) ([]) (only (OneCall
    (Alone (at 11 3))))))) NoStatements 3))) 4 (OneUnconditional (MkUnconditional ([]) (OneGroup (MkBlock 4
    (DeclareOwn 4 (record { type = IntegerType; line = 4 }) (MkNames (at 8 4) ([]))) 4 NoDeclarations
    (OneUnconditional (MkUnconditional ([]) (Assign (record { left = OneName (at 8 4); becomes = 4 }) ([]) (only (OneCall
    (Alone (at 10 4))))))) NoStatements 4)))))) NoStatements) 4) 4

abbrev pub own_inner_symbols : List Symbol
own_inner_symbols = row 36 0 1 ∷ row 47 0 1 ∷ row 3 4294967296 1 ∷ row 30 0 1 ∷ row 47 0 2 ∷ row 3 4294967297 2 ∷ row 30 0 2
    ∷ row 48 0 3 ∷ row 3 4294967298 3 ∷ row 28 0 3 ∷ row 3 4294967299 3 ∷ row 30 0 3 ∷ row 47 0 4 ∷ row 3 4294967300 4
    ∷ row 30 0 4 ∷ row 36 0 1 ∷ row 47 0 1 ∷ row 3 8 1 ∷ row 30 0 1 ∷ row 51 0 1 ∷ row 3 9 1 ∷ row 30 0 1 ∷ row 36 0 1
    ∷ row 55 0 1 ∷ row 47 0 1 ∷ row 3 8 1 ∷ row 30 0 1 ∷ row 3 4294967296 1 ∷ row 31 0 1 ∷ row 3 4294967296 1 ∷ row 10 0 1
    ∷ row 4 1 1 ∷ row 37 0 1 ∷ row 30 0 1 ∷ row 55 0 2 ∷ row 47 0 2 ∷ row 3 10 2 ∷ row 30 0 2 ∷ row 3 8 2 ∷ row 31 0 2
    ∷ row 3 4294967297 2 ∷ row 30 0 2 ∷ row 38 0 3 ∷ row 3 8 3 ∷ row 17 0 3 ∷ row 4 1 3 ∷ row 39 0 3 ∷ row 36 0 3 ∷ row 55 0 3
    ∷ row 48 0 3 ∷ row 3 8 3 ∷ row 28 0 3 ∷ row 3 11 3 ∷ row 30 0 3 ∷ row 3 4294967298 3 ∷ row 31 0 3 ∷ row 3 4294967299 3
    ∷ row 37 0 3 ∷ row 40 0 4 ∷ row 36 0 4 ∷ row 55 0 4 ∷ row 47 0 4 ∷ row 3 8 4 ∷ row 30 0 4 ∷ row 3 4294967300 4 ∷ row 31 0 4
    ∷ row 3 4294967297 4 ∷ row 37 0 4 ∷ row 37 0 4 ∷ row 37 0 4 ∷ row 8 0 4 ∷ []

-- uses in each place
abbrev pub own_places : Program
own_places =
    MkProgram ([])
    (MkBlock 1 (DeclareOwn 1 (record { type = IntegerType; line = 1 }) (MkNames (at 8 1) (record { comma = 1; name = (at 9 1) }
    ∷ []))) 1
    (MoreDeclarations
    (DeclareOwnArrays 1 (record { type = IntegerType; line = 1 }) 1
    (MkFixed (MkNames (at 10 1) ([])) 1 (MkFixedPair (Unsigned 1 1) 1 (Unsigned 2 1)) NoFurther 1) ([])) 1
    (MoreDeclarations (DeclareSwitch 1 (at 11 1) 1 (only (OneCall (Alone (at 12 1)))) NoExprs) 1 (MoreDeclarations
    (DeclareProcedure
    (MkHeading None 2 (at 13 2) (FormalList 2 (MkNames (at 14 2) (record { comma = 2; name = (at 15 2) } ∷ [])) 2) 2
    NoValues (record {
      specifier = ValueSpec (record { type = IntegerType; line = 2 });
      names = (MkNames (at 14 2) ([]));
      semicolon = 2;
    }
    ∷ record { specifier = StringSpec 2; names = (MkNames (at 15 2) ([])); semicolon = 2 } ∷ [])) (OneUnconditional
    (MkUnconditional ([]) (Assign (record { left = OneName (at 14 2); becomes = 2 }) ([]) (only (OneCall (Alone
    (at 8 2)))))))) 2 NoDeclarations)))
    (OneUnconditional (MkUnconditional ([]) (OneGroup (MkBlock 3
    (DeclareArrays (record { type = IntegerType; line = 3 }) 3
    (MkSegment (MkNames (at 16 3) ([])) 3 (MkPair (only (OneCall (Alone (at 8 3)))) 3 (only (OneCall (Alone (at 9 3)))))
    ([]) 3) ([])) 3 NoDeclarations
    (OneUnconditional (MkUnconditional ([]) (Assign
    (record { left = LeftElement (Subscripted (at 16 3) 3 (only (OneCall (Alone (at 8 3)))) NoExprs 3); becomes = 3 })
    ([]) (only (OneElement (Subscripted (at 10 3) 3 (only (OneCall (Alone (at 9 3)))) NoExprs 3)))))) NoStatements 3))))
    (MoreStatements 3 (OneLoop (MkLoop (record { name = (at 12 4); colon = 4 } ∷ []) 4 (at 8 4) 4
    (StepUntil (only (OneCall (Alone (at 9 4)))) 4 (only (OneCall (Alone (at 8 4)))) 4 (only (OneElement (Subscripted
    (at 10 4) 4 (only (Numeral 1 4)) NoExprs 4))))
    (record {
      comma = 4;
      turns = (WhileTrue (only (OneCall (Alone (at 9 4)))) 4 (OneSimple (OneImplication (OneDisjunction (OneConjunction
          (OneNegation (OneRelation (Compared (Signed Subtract 4 (OneFactor (OnePrimary (OneCall (Alone (at 9 4))))))
          LessThan 4 (OneTerm (OneFactor (OnePrimary (OneCall (Alone (at 8 4))))))))))))));
    } ∷ []) 4 (OneUnconditional
    (MkUnconditional ([]) (CallStatement (WithActuals (at 13 4) 4
    (OneExpr (only (Bracketed 4 (OneSimple (OneImplication (OneDisjunction (OneConjunction (OneNegation (OneRelation
    (OneArithmetic (Summed (OneTerm (OneFactor (OnePrimary (OneCall (Alone (at 8 4)))))) Add 4 (Multiplied
    (OneFactor (OnePrimary (OneCall (Alone (at 9 4))))) Multiply 4 (OnePrimary (OneCall (Alone (at 8 4)))))))))))))
    4))) (MoreActuals 4 (AString 4 (record { value = 105; line = 4 } ∷ []) 4) NoActuals) 4)))))) (MoreStatements 4
    (OneConditional (IfThen ([]) 5
    (OneSimple (Equivalent
    (OneImplication (Implies
    (OneDisjunction (Either
    (OneConjunction (Both
    (OneNegation (Negated 5 (Compared (OneTerm (OneFactor (OnePrimary (OneCall (Alone (at 8 5)))))) EqualTo 5 (OneTerm
    (OneFactor (OnePrimary (OneCall (Alone (at 9 5))))))))) 5 (OneRelation (OneArithmetic (OneTerm (OneFactor
    (OnePrimary (Logical true 5)))))))) 5 (OneNegation (OneRelation (Compared
    (OneTerm (Multiplied
    (OneFactor (Raised (OnePrimary (OneElement (Subscripted (at 10 5) 5 (only (OneCall (Alone (at 8 5)))) NoExprs 5)))
    5 (OneCall (Alone (at 9 5))))) Divide 5 (OnePrimary (Numeral 2 5)))) AtLeast 5 (OneTerm (OneFactor (OnePrimary
    (Numeral 0 5))))))))) 5 (OneConjunction (OneNegation (OneRelation (OneArithmetic (OneTerm (OneFactor (OnePrimary
    (Logical false 5)))))))))) 5 (OneDisjunction (OneConjunction (OneNegation (OneRelation (OneArithmetic (OneTerm
    (OneFactor (OnePrimary (Logical true 5))))))))))) 5 (MkUnconditional ([]) (Jump 5 (IfExpr 5
    (OneSimple (OneImplication (OneDisjunction (OneConjunction (OneNegation (OneRelation (Compared
    (OneTerm (OneFactor (OnePrimary (OneCall (Alone (at 8 5)))))) EqualTo 5 (OneTerm (OneFactor (OnePrimary
    (Numeral 1 5))))))))))) 5 (OneImplication (OneDisjunction (OneConjunction (OneNegation (OneRelation (OneArithmetic
    (OneTerm (OneFactor (OnePrimary (OneCall (Alone (at 12 5)))))))))))) 5 (only (OneElement (Subscripted (at 11 5) 5
    (only (OneCall (Alone (at 9 5)))) NoExprs 5)))))))) NoStatements)) 5) 5

abbrev pub own_places_symbols : List Symbol
own_places_symbols = row 36 0 1 ∷ row 47 0 1 ∷ row 3 4294967296 1 ∷ row 28 0 1 ∷ row 3 4294967297 1 ∷ row 30 0 1 ∷ row 47 0 1
    ∷ row 49 0 1 ∷ row 3 4294967298 1 ∷ row 34 0 1 ∷ row 4 1 1 ∷ row 29 0 1 ∷ row 4 2 1 ∷ row 35 0 1 ∷ row 30 0 1 ∷ row 36 0 1
    ∷ row 55 0 1 ∷ row 47 0 1 ∷ row 3 8 1 ∷ row 28 0 1 ∷ row 3 9 1 ∷ row 30 0 1 ∷ row 55 0 1 ∷ row 47 0 1 ∷ row 49 0 1
    ∷ row 3 10 1 ∷ row 34 0 1 ∷ row 4 1 1 ∷ row 29 0 1 ∷ row 4 2 1 ∷ row 35 0 1 ∷ row 30 0 1 ∷ row 50 0 1 ∷ row 3 11 1
    ∷ row 31 0 1 ∷ row 3 12 1 ∷ row 30 0 1 ∷ row 51 0 2 ∷ row 3 13 2 ∷ row 32 0 2 ∷ row 3 14 2 ∷ row 28 0 2 ∷ row 3 15 2
    ∷ row 33 0 2 ∷ row 30 0 2 ∷ row 47 0 2 ∷ row 3 14 2 ∷ row 30 0 2 ∷ row 52 0 2 ∷ row 3 15 2 ∷ row 30 0 2 ∷ row 3 14 2
    ∷ row 31 0 2 ∷ row 3 4294967296 2 ∷ row 30 0 2 ∷ row 36 0 3 ∷ row 47 0 3 ∷ row 49 0 3 ∷ row 3 16 3 ∷ row 34 0 3
    ∷ row 3 4294967296 3 ∷ row 29 0 3 ∷ row 3 4294967297 3 ∷ row 35 0 3 ∷ row 30 0 3 ∷ row 3 16 3 ∷ row 34 0 3
    ∷ row 3 4294967296 3 ∷ row 35 0 3 ∷ row 31 0 3 ∷ row 3 4294967298 3 ∷ row 34 0 3 ∷ row 3 4294967297 3 ∷ row 35 0 3
    ∷ row 37 0 3 ∷ row 30 0 3 ∷ row 3 12 4 ∷ row 29 0 4 ∷ row 41 0 4 ∷ row 3 4294967296 4 ∷ row 31 0 4 ∷ row 3 4294967297 4
    ∷ row 42 0 4 ∷ row 3 4294967296 4 ∷ row 43 0 4 ∷ row 3 4294967298 4 ∷ row 34 0 4 ∷ row 4 1 4 ∷ row 35 0 4 ∷ row 28 0 4
    ∷ row 3 4294967297 4 ∷ row 44 0 4 ∷ row 11 0 4 ∷ row 3 4294967297 4 ∷ row 15 0 4 ∷ row 3 4294967296 4 ∷ row 45 0 4
    ∷ row 3 13 4 ∷ row 32 0 4 ∷ row 32 0 4 ∷ row 3 4294967296 4 ∷ row 10 0 4 ∷ row 3 4294967297 4 ∷ row 12 0 4
    ∷ row 3 4294967296 4 ∷ row 33 0 4 ∷ row 28 0 4 ∷ row 5 0 4 ∷ row 6 105 4 ∷ row 7 0 4 ∷ row 33 0 4 ∷ row 30 0 4 ∷ row 38 0 5
    ∷ row 21 0 5 ∷ row 3 4294967296 5 ∷ row 17 0 5 ∷ row 3 4294967297 5 ∷ row 22 0 5 ∷ row 26 0 5 ∷ row 23 0 5
    ∷ row 3 4294967298 5 ∷ row 34 0 5 ∷ row 3 4294967296 5 ∷ row 35 0 5 ∷ row 14 0 5 ∷ row 3 4294967297 5 ∷ row 13 0 5 ∷ row 4 2 5
    ∷ row 18 0 5 ∷ row 4 0 5 ∷ row 24 0 5 ∷ row 27 0 5 ∷ row 25 0 5 ∷ row 26 0 5 ∷ row 39 0 5 ∷ row 46 0 5 ∷ row 38 0 5
    ∷ row 3 4294967296 5 ∷ row 17 0 5 ∷ row 4 1 5 ∷ row 39 0 5 ∷ row 3 12 5 ∷ row 40 0 5 ∷ row 3 11 5 ∷ row 34 0 5
    ∷ row 3 4294967297 5 ∷ row 35 0 5 ∷ row 37 0 5 ∷ row 37 0 5 ∷ row 8 0 5 ∷ []

-- an own array whose `]` stands on a later line: the new semicolon has the line of the last identifier, the old one keeps its own
abbrev pub own_bracket_below : Program
own_bracket_below = MkProgram [] (MkBlock 1
    (DeclareOwnArrays 1 (record { type = IntegerType; line = 1 }) 1
    (MkFixed (MkNames (at 8 1) []) 1 (MkFixedPair (Unsigned 1 1) 1 (Unsigned 2 2)) NoFurther 2) [])
    2 NoDeclarations (OneUnconditional (MkUnconditional [] Dummy)) NoStatements 2) 2

abbrev pub own_bracket_below_symbols : List Symbol
own_bracket_below_symbols =
    row 36 0 1 ∷ row 47 0 1 ∷ row 49 0 1 ∷ row 3 4294967296 1 ∷ row 34 0 1 ∷ row 4 1 1 ∷ row 29 0 1 ∷ row 4 2 2 ∷
    row 35 0 2 ∷ row 30 0 1 ∷ row 36 0 1 ∷ row 55 0 1 ∷ row 47 0 1 ∷ row 49 0 1 ∷ row 3 8 1 ∷ row 34 0 1 ∷ row 4 1 1 ∷ row 29 0 1
    ∷ row 4 2 2 ∷
    row 35 0 2 ∷ row 30 0 2 ∷ row 37 0 2 ∷ row 37 0 2 ∷ row 8 0 2 ∷ []

pub record AreHoisted : Type 0 where
  pub no_own_hoisted : spell_program (hoist no_own) ≡ no_own_symbols
  pub one_own_hoisted : spell_program (hoist one_own) ≡ one_own_symbols
  pub own_array_hoisted : spell_program (hoist own_array) ≡ own_array_symbols
  pub own_hidden_hoisted : spell_program (hoist own_hidden) ≡ own_hidden_symbols
  pub own_inner_hoisted : spell_program (hoist own_inner) ≡ own_inner_symbols
  pub own_places_hoisted : spell_program (hoist own_places) ≡ own_places_symbols
  pub own_bracket_below_hoisted : spell_program (hoist own_bracket_below) ≡ own_bracket_below_symbols
