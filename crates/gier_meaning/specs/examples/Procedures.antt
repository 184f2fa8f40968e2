-- Procedures, functions, formals by value, recursion (Report 4.7, 5.4).
use Rattle.std.specs.Prelude.{[], ◌∷◌, codes, Some, None, true, false}
use Rattle.gier_tree.specs.Trees.{MkNames, MkPair, MkSegment, Add, Subtract, LessThan, EqualTo, MoreThan, IfExpr, OneImplication}
use Rattle.gier_tree.specs.Trees.{OneDisjunction, OneConjunction, OneNegation, Both, OneRelation, OneArithmetic, Compared}
use Rattle.gier_tree.specs.Trees.{OneTerm, Summed, OneFactor, OnePrimary, Numeral, Logical, OneCall, OneElement, Alone}
use Rattle.gier_tree.specs.Trees.{WithActuals, Subscripted, OneExpr, NoActuals, MoreActuals, NoExprs, only, NoFormals, FormalList}
use Rattle.gier_tree.specs.Trees.{NoValues, ValueList, ValueSpec, MkHeading, OneName, LeftElement, DeclareType, DeclareArrays}
use Rattle.gier_tree.specs.Trees.{DeclareProcedure, NoDeclarations, MoreDeclarations, MkBlock, MkCompound, NoStatements}
use Rattle.gier_tree.specs.Trees.{MoreStatements, OneUnconditional, OneConditional, MkUnconditional, OneGroup, Assign, Jump}
use Rattle.gier_tree.specs.Trees.{CallStatement, IfThen, MkProgram}
use Rattle.gier_meaning.specs.Observation.{Ended}
use Rattle.gier_meaning.specs.Example.{Example, told_as, name, comma_name, label_place, integer_word, boolean_word}
use Rattle.gier_meaning.specs.Example.{conjunction_expr, relation_expr, sum_expr, number, alone, plainly}

--     _begin _integer a; _procedure p(x); _value x; _integer x; _begin x := x + 1; outinteger(x) _end; a := 4; p(a);
--     outinteger(a) _end
abbrev pub value_is_a_copy : Example
value_is_a_copy = record {
  program = (MkProgram []
      (MkBlock 1 (DeclareType (integer_word 1) (MkNames (name 8 1) [])) 1
      (MoreDeclarations
      (DeclareProcedure
      (MkHeading None 1 (name 9 1) (FormalList 1 (MkNames (name 10 1) []) 1) 1 (ValueList 1 (MkNames (name 10 1) []) 1)
      (record { specifier = (ValueSpec (integer_word 1)); names = (MkNames (name 10 1) []); semicolon = 1 } ∷ []))
      (plainly
      (OneGroup
      (MkCompound 1
      (plainly
      (Assign (record { left = (OneName (name 10 1)); becomes = 1 }) []
      (sum_expr (Summed (OneTerm (OneFactor (OnePrimary (OneCall (Alone (name 10 1)))))) Add 1 (OneFactor
      (OnePrimary (Numeral 1 1)))))))
      (MoreStatements 1 (plainly (CallStatement (WithActuals (name 0 1) 1 (OneExpr (alone 10 1)) NoActuals 1))) NoStatements)
      1)))) 1 NoDeclarations)
      (plainly (Assign (record { left = (OneName (name 8 1)); becomes = 1 }) [] (number 4 1)))
      (MoreStatements 1 (plainly (CallStatement (WithActuals (name 9 1) 1 (OneExpr (alone 8 1)) NoActuals 1)))
      (MoreStatements 1 (plainly (CallStatement (WithActuals (name 0 1) 1 (OneExpr (alone 8 1)) NoActuals 1))) NoStatements))
      1) 1);
  unread = [];
  permitted = 60;
  limit = 400;
  told = told_as (codes "54") Ended 2 18 ([]) None;
}

--     _begin _procedure p(x, y); _value y, x; _boolean x, y; _if x _and y _then outchar(98); p(_true, 1 < 2) _end
abbrev pub boolean_by_value : Example
boolean_by_value = record {
  program = (MkProgram []
      (MkBlock 1
      (DeclareProcedure
      (MkHeading None 1 (name 8 1) (FormalList 1 (MkNames (name 9 1) (comma_name 1 10 1 ∷ [])) 1) 1
      (ValueList 1 (MkNames (name 10 1) (comma_name 1 9 1 ∷ [])) 1)
      (record { specifier = (ValueSpec (boolean_word 1)); names = (MkNames (name 9 1) (comma_name 1 10 1 ∷ [])); semicolon = 1 } ∷
      []))
      (OneConditional
      (IfThen [] 1
      (conjunction_expr
      (Both (OneNegation (OneRelation (OneArithmetic (OneTerm (OneFactor (OnePrimary (OneCall (Alone (name 9 1))))))))) 1
      (OneRelation (OneArithmetic (OneTerm (OneFactor (OnePrimary (OneCall (Alone (name 10 1)))))))))) 1
      (MkUnconditional [] (CallStatement (WithActuals (name 3 1) 1 (OneExpr (number 98 1)) NoActuals 1)))))) 1
      NoDeclarations
      (plainly
      (CallStatement
      (WithActuals (name 8 1) 1 (OneExpr (only (Logical true 1)))
      (MoreActuals 1
      (OneExpr
      (relation_expr
      (Compared (OneTerm (OneFactor (OnePrimary (Numeral 1 1)))) LessThan 1 (OneTerm (OneFactor (OnePrimary (Numeral 2 1)))))))
      NoActuals) 1))) NoStatements 1) 1);
  unread = [];
  permitted = 60;
  limit = 400;
  told = told_as (codes "b") Ended 2 20 ([]) None;
}

--     _begin _integer _procedure d(n); _value n; _integer n; d := _if n = 0 _then 0 _else d(n-1) + 1; outinteger(d(3)) _end
abbrev pub recursion : Example
recursion = record {
  program = (MkProgram []
      (MkBlock 1
      (DeclareProcedure
      (MkHeading (Some (integer_word 1)) 1 (name 8 1) (FormalList 1 (MkNames (name 9 1) []) 1) 1
      (ValueList 1 (MkNames (name 9 1) []) 1)
      (record { specifier = (ValueSpec (integer_word 1)); names = (MkNames (name 9 1) []); semicolon = 1 } ∷ []))
      (plainly
      (Assign (record { left = (OneName (name 8 1)); becomes = 1 }) []
      (IfExpr 1
      (relation_expr
      (Compared (OneTerm (OneFactor (OnePrimary (OneCall (Alone (name 9 1)))))) EqualTo 1
      (OneTerm (OneFactor (OnePrimary (Numeral 0 1)))))) 1
      (OneImplication
      (OneDisjunction (OneConjunction (OneNegation (OneRelation (OneArithmetic (OneTerm (OneFactor (OnePrimary
      (Numeral 0 1))))))))))
      1
      (sum_expr
      (Summed
      (OneTerm
      (OneFactor
      (OnePrimary
      (OneCall
      (WithActuals (name 8 1) 1
      (OneExpr
      (sum_expr
      (Summed (OneTerm (OneFactor (OnePrimary (OneCall (Alone (name 9 1)))))) Subtract 1 (OneFactor (OnePrimary (Numeral 1 1))))))
      NoActuals 1))))) Add 1 (OneFactor (OnePrimary (Numeral 1 1))))))))) 1 NoDeclarations
      (plainly
      (CallStatement
      (WithActuals (name 0 1) 1
      (OneExpr (only (OneCall (WithActuals (name 8 1) 1 (OneExpr (number 3 1)) NoActuals 1)))) NoActuals 1)))
      NoStatements 1) 1);
  unread = [];
  permitted = 60;
  limit = 400;
  told = told_as (codes "3") Ended 5 52 ([]) None;
}

--     _begin _boolean _procedure even(n); _value n; _integer n; even := _if n = 0 _then _true _else odd(n-1);
--     _boolean _procedure odd(n); _value n; _integer n; odd := _if n = 0 _then _false _else even(n-1);
--     _if even(4) _then outchar(101) _end
abbrev pub both_recur : Example
both_recur = record {
  program = (MkProgram []
      (MkBlock 1
      (DeclareProcedure
      (MkHeading (Some (boolean_word 1)) 1 (name 8 1) (FormalList 1 (MkNames (name 9 1) []) 1) 1
      (ValueList 1 (MkNames (name 9 1) []) 1)
      (record { specifier = (ValueSpec (integer_word 1)); names = (MkNames (name 9 1) []); semicolon = 1 } ∷ []))
      (plainly
      (Assign (record { left = (OneName (name 8 1)); becomes = 1 }) []
      (IfExpr 1
      (relation_expr
      (Compared (OneTerm (OneFactor (OnePrimary (OneCall (Alone (name 9 1)))))) EqualTo 1
      (OneTerm (OneFactor (OnePrimary (Numeral 0 1)))))) 1
      (OneImplication
      (OneDisjunction (OneConjunction (OneNegation (OneRelation (OneArithmetic (OneTerm (OneFactor (OnePrimary
      (Logical true 1))))))))))
      1
      (only
      (OneCall
      (WithActuals (name 10 1) 1
      (OneExpr
      (sum_expr
      (Summed (OneTerm (OneFactor (OnePrimary (OneCall (Alone (name 9 1)))))) Subtract 1 (OneFactor (OnePrimary (Numeral 1 1))))))
      NoActuals 1))))))) 1
      (MoreDeclarations
      (DeclareProcedure
      (MkHeading (Some (boolean_word 2)) 2 (name 10 2) (FormalList 2 (MkNames (name 9 2) []) 2) 2
      (ValueList 2 (MkNames (name 9 2) []) 2)
      (record { specifier = (ValueSpec (integer_word 2)); names = (MkNames (name 9 2) []); semicolon = 2 } ∷ []))
      (plainly
      (Assign (record { left = (OneName (name 10 2)); becomes = 2 }) []
      (IfExpr 2
      (relation_expr
      (Compared (OneTerm (OneFactor (OnePrimary (OneCall (Alone (name 9 2)))))) EqualTo 2
      (OneTerm (OneFactor (OnePrimary (Numeral 0 2)))))) 2
      (OneImplication
      (OneDisjunction
      (OneConjunction (OneNegation (OneRelation (OneArithmetic (OneTerm (OneFactor (OnePrimary (Logical false 2))))))))))
      2
      (only
      (OneCall
      (WithActuals (name 8 2) 2
      (OneExpr
      (sum_expr
      (Summed (OneTerm (OneFactor (OnePrimary (OneCall (Alone (name 9 2)))))) Subtract 2 (OneFactor (OnePrimary (Numeral 1 2))))))
      NoActuals 2))))))) 2 NoDeclarations)
      (OneConditional
      (IfThen [] 3 (only (OneCall (WithActuals (name 8 3) 3 (OneExpr (number 4 3)) NoActuals 3))) 3
      (MkUnconditional [] (CallStatement (WithActuals (name 3 3) 3 (OneExpr (number 101 3)) NoActuals 3)))))
      NoStatements 3) 3);
  unread = [];
  permitted = 60;
  limit = 400;
  told = told_as (codes "e") Ended 6 63 ([]) None;
}

--     _begin _integer _procedure f(x); _value x; _integer x; _if x > 0 _then f := x; outinteger(f(3)); outinteger(f(0)) _end
abbrev pub starts_at_zero : Example
starts_at_zero = record {
  program = (MkProgram []
      (MkBlock 1
      (DeclareProcedure
      (MkHeading (Some (integer_word 1)) 1 (name 8 1) (FormalList 1 (MkNames (name 9 1) []) 1) 1
      (ValueList 1 (MkNames (name 9 1) []) 1)
      (record { specifier = (ValueSpec (integer_word 1)); names = (MkNames (name 9 1) []); semicolon = 1 } ∷ []))
      (OneConditional
      (IfThen [] 1
      (relation_expr
      (Compared (OneTerm (OneFactor (OnePrimary (OneCall (Alone (name 9 1)))))) MoreThan 1
      (OneTerm (OneFactor (OnePrimary (Numeral 0 1)))))) 1
      (MkUnconditional [] (Assign (record { left = (OneName (name 8 1)); becomes = 1 }) [] (alone 9 1)))))) 1
      NoDeclarations
      (plainly
      (CallStatement
      (WithActuals (name 0 1) 1
      (OneExpr (only (OneCall (WithActuals (name 8 1) 1 (OneExpr (number 3 1)) NoActuals 1)))) NoActuals 1)))
      (MoreStatements 1
      (plainly
      (CallStatement
      (WithActuals (name 0 1) 1
      (OneExpr (only (OneCall (WithActuals (name 8 1) 1 (OneExpr (number 0 1)) NoActuals 1)))) NoActuals 1)))
      NoStatements) 1) 1);
  unread = [];
  permitted = 60;
  limit = 400;
  told = told_as (codes "30") Ended 3 17 ([]) None;
}

--     _begin _integer _procedure f; _begin _procedure g; f := 7; g _end; outinteger(f) _end
abbrev pub assigned_further_in : Example
assigned_further_in = record {
  program = (MkProgram []
      (MkBlock 1
      (DeclareProcedure (MkHeading (Some (integer_word 1)) 1 (name 8 1) NoFormals 1 NoValues [])
      (plainly
      (OneGroup
      (MkBlock 1
      (DeclareProcedure (MkHeading None 1 (name 9 1) NoFormals 1 NoValues [])
      (plainly (Assign (record { left = (OneName (name 8 1)); becomes = 1 }) [] (number 7 1)))) 1 NoDeclarations
      (plainly (CallStatement (Alone (name 9 1)))) NoStatements 1)))) 1 NoDeclarations
      (plainly (CallStatement (WithActuals (name 0 1) 1 (OneExpr (alone 8 1)) NoActuals 1))) NoStatements 1) 1);
  unread = [];
  permitted = 60;
  limit = 400;
  told = told_as (codes "7") Ended 4 21 ([]) None;
}

--     _begin _integer _procedure f; _begin outchar(102); f := 1 _end; f; outinteger(f) _end
abbrev pub value_is_dropped : Example
value_is_dropped = record {
  program = (MkProgram []
      (MkBlock 1
      (DeclareProcedure (MkHeading (Some (integer_word 1)) 1 (name 8 1) NoFormals 1 NoValues [])
      (plainly
      (OneGroup
      (MkCompound 1 (plainly (CallStatement (WithActuals (name 3 1) 1 (OneExpr (number 102 1)) NoActuals 1)))
      (MoreStatements 1 (plainly (Assign (record { left = (OneName (name 8 1)); becomes = 1 }) [] (number 1 1))) NoStatements)
      1)))) 1 NoDeclarations (plainly (CallStatement (Alone (name 8 1))))
      (MoreStatements 1 (plainly (CallStatement (WithActuals (name 0 1) 1 (OneExpr (alone 8 1)) NoActuals 1))) NoStatements)
      1) 1);
  unread = [];
  permitted = 60;
  limit = 400;
  told = told_as (codes "ff1") Ended 3 13 ([]) None;
}

--     _begin _integer a; _procedure p; outinteger(a); a := 1; _begin _integer a; a := 2; p _end _end
abbrev pub where_it_is_declared : Example
where_it_is_declared = record {
  program = (MkProgram []
      (MkBlock 1 (DeclareType (integer_word 1) (MkNames (name 8 1) [])) 1
      (MoreDeclarations
      (DeclareProcedure (MkHeading None 1 (name 9 1) NoFormals 1 NoValues [])
      (plainly (CallStatement (WithActuals (name 0 1) 1 (OneExpr (alone 8 1)) NoActuals 1)))) 1 NoDeclarations)
      (plainly (Assign (record { left = (OneName (name 8 1)); becomes = 1 }) [] (number 1 1)))
      (MoreStatements 1
      (plainly
      (OneGroup
      (MkBlock 1 (DeclareType (integer_word 1) (MkNames (name 8 1) [])) 1 NoDeclarations
      (plainly (Assign (record { left = (OneName (name 8 1)); becomes = 1 }) [] (number 2 1)))
      (MoreStatements 1 (plainly (CallStatement (Alone (name 9 1)))) NoStatements) 1))) NoStatements) 1) 1);
  unread = [];
  permitted = 60;
  limit = 400;
  told = told_as (codes "1") Ended 3 18 ([]) None;
}

--     _begin _integer c; _integer _procedure n; _begin c := c + 1; n := c _end; _procedure p(x, y, z); _value z, x; _integer x,
--     y, z; _begin outinteger(x); outinteger(z); outinteger(y) _end; p(n, n, n) _end
abbrev pub actuals_in_order : Example
actuals_in_order = record {
  program = (MkProgram []
      (MkBlock 1 (DeclareType (integer_word 1) (MkNames (name 8 1) [])) 1
      (MoreDeclarations
      (DeclareProcedure (MkHeading (Some (integer_word 1)) 1 (name 9 1) NoFormals 1 NoValues [])
      (plainly
      (OneGroup
      (MkCompound 1
      (plainly
      (Assign (record { left = (OneName (name 8 1)); becomes = 1 }) []
      (sum_expr (Summed (OneTerm (OneFactor (OnePrimary (OneCall (Alone (name 8 1)))))) Add 1 (OneFactor
      (OnePrimary (Numeral 1 1)))))))
      (MoreStatements 1 (plainly (Assign (record { left = (OneName (name 9 1)); becomes = 1 }) [] (alone 8 1))) NoStatements)
      1)))) 1
      (MoreDeclarations
      (DeclareProcedure
      (MkHeading None 1 (name 10 1) (FormalList 1 (MkNames (name 11 1) (comma_name 1 12 1 ∷ comma_name 1 13 1 ∷ [])) 1) 1
      (ValueList 1 (MkNames (name 13 1) (comma_name 1 11 1 ∷ [])) 1)
      (record {
        specifier = (ValueSpec (integer_word 1));
        names = (MkNames (name 11 1) (comma_name 1 12 1 ∷ comma_name 1 13 1 ∷ []));
        semicolon = 1;
      } ∷ []))
      (plainly
      (OneGroup
      (MkCompound 1 (plainly (CallStatement (WithActuals (name 0 1) 1 (OneExpr (alone 11 1)) NoActuals 1)))
      (MoreStatements 1 (plainly (CallStatement (WithActuals (name 0 1) 1 (OneExpr (alone 13 1)) NoActuals 1)))
      (MoreStatements 1 (plainly (CallStatement (WithActuals (name 0 1) 1 (OneExpr (alone 12 1)) NoActuals 1))) NoStatements))
      1)))) 1 NoDeclarations))
      (plainly
      (CallStatement
      (WithActuals (name 10 1) 1 (OneExpr (alone 9 1))
      (MoreActuals 1 (OneExpr (alone 9 1)) (MoreActuals 1 (OneExpr (alone 9 1)) NoActuals)) 1))) NoStatements 1) 1);
  unread = [];
  permitted = 60;
  limit = 400;
  told = told_as (codes "123") Ended 6 37 ([]) None;
}

--     _begin _procedure p(n); _value n; _integer n; L: _if n > 0 _then _begin outinteger(n); n := n - 1; _goto L _end; p(2) _end
abbrev pub labels_of_a_body : Example
labels_of_a_body = record {
  program = (MkProgram []
      (MkBlock 1
      (DeclareProcedure
      (MkHeading None 1 (name 8 1) (FormalList 1 (MkNames (name 9 1) []) 1) 1 (ValueList 1 (MkNames (name 9 1) []) 1)
      (record { specifier = (ValueSpec (integer_word 1)); names = (MkNames (name 9 1) []); semicolon = 1 } ∷ []))
      (OneConditional
      (IfThen (label_place 10 1 1 ∷ []) 1
      (relation_expr
      (Compared (OneTerm (OneFactor (OnePrimary (OneCall (Alone (name 9 1)))))) MoreThan 1
      (OneTerm (OneFactor (OnePrimary (Numeral 0 1)))))) 1
      (MkUnconditional []
      (OneGroup
      (MkCompound 1 (plainly (CallStatement (WithActuals (name 0 1) 1 (OneExpr (alone 9 1)) NoActuals 1)))
      (MoreStatements 1
      (plainly
      (Assign (record { left = (OneName (name 9 1)); becomes = 1 }) []
      (sum_expr
      (Summed (OneTerm (OneFactor (OnePrimary (OneCall (Alone (name 9 1)))))) Subtract 1 (OneFactor (OnePrimary (Numeral 1 1)))))))
      (MoreStatements 1 (plainly (Jump 1 (alone 10 1))) NoStatements)) 1)))))) 1 NoDeclarations
      (plainly (CallStatement (WithActuals (name 8 1) 1 (OneExpr (number 2 1)) NoActuals 1))) NoStatements 1) 1);
  unread = [];
  permitted = 60;
  limit = 400;
  told = told_as (codes "21") Ended 4 17 ([]) None;
}

--     _begin _procedure p(n); _value n; _integer n; _begin _if n = 0 _then _goto L; p(n-1); outchar(97) _end; p(2);
--     outchar(98); L: outchar(99) _end
abbrev pub out_of_procedures : Example
out_of_procedures = record {
  program = (MkProgram []
      (MkBlock 1
      (DeclareProcedure
      (MkHeading None 1 (name 8 1) (FormalList 1 (MkNames (name 9 1) []) 1) 1 (ValueList 1 (MkNames (name 9 1) []) 1)
      (record { specifier = (ValueSpec (integer_word 1)); names = (MkNames (name 9 1) []); semicolon = 1 } ∷ []))
      (plainly
      (OneGroup
      (MkCompound 1
      (OneConditional
      (IfThen [] 1
      (relation_expr
      (Compared (OneTerm (OneFactor (OnePrimary (OneCall (Alone (name 9 1)))))) EqualTo 1
      (OneTerm (OneFactor (OnePrimary (Numeral 0 1)))))) 1 (MkUnconditional [] (Jump 1 (alone 10 1)))))
      (MoreStatements 1
      (plainly
      (CallStatement
      (WithActuals (name 8 1) 1
      (OneExpr
      (sum_expr
      (Summed (OneTerm (OneFactor (OnePrimary (OneCall (Alone (name 9 1)))))) Subtract 1 (OneFactor (OnePrimary (Numeral 1 1))))))
      NoActuals 1)))
      (MoreStatements 1 (plainly (CallStatement (WithActuals (name 3 1) 1 (OneExpr (number 97 1)) NoActuals 1))) NoStatements))
      1)))) 1 NoDeclarations (plainly (CallStatement (WithActuals (name 8 1) 1 (OneExpr (number 2 1)) NoActuals 1)))
      (MoreStatements 1 (plainly (CallStatement (WithActuals (name 3 1) 1 (OneExpr (number 98 1)) NoActuals 1)))
      (MoreStatements 1
      (OneUnconditional
      (MkUnconditional (label_place 10 1 1 ∷ []) (CallStatement (WithActuals (name 3 1) 1 (OneExpr (number 99 1)) NoActuals 1))))
      NoStatements)) 1) 1);
  unread = [];
  permitted = 60;
  limit = 400;
  told = told_as (codes "c") Ended 5 35 ([]) None;
}

--     _begin _procedure p(a) and: (b); _value a, b; _integer a, b; _begin outinteger(a); outinteger(b) _end; p(1) then comes:
--     (2) _end
abbrev pub parts_of_a_call : Example
parts_of_a_call = record {
  program = (MkProgram []
      (MkBlock 1
      (DeclareProcedure
      (MkHeading None 1 (name 8 1) (FormalList 1 (MkNames (name 9 1) (comma_name 1 11 1 ∷ [])) 1) 1
      (ValueList 1 (MkNames (name 9 1) (comma_name 1 11 1 ∷ [])) 1)
      (record { specifier = (ValueSpec (integer_word 1)); names = (MkNames (name 9 1) (comma_name 1 11 1 ∷ [])); semicolon = 1 } ∷
      []))
      (plainly
      (OneGroup
      (MkCompound 1 (plainly (CallStatement (WithActuals (name 0 1) 1 (OneExpr (alone 9 1)) NoActuals 1)))
      (MoreStatements 1 (plainly (CallStatement (WithActuals (name 0 1) 1 (OneExpr (alone 11 1)) NoActuals 1))) NoStatements)
      1)))) 1 NoDeclarations
      (plainly (CallStatement (WithActuals (name 8 1) 1 (OneExpr (number 1 1)) (MoreActuals 1 (OneExpr (number 2 1)) NoActuals) 1)))
      NoStatements 1) 1);
  unread = [];
  permitted = 60;
  limit = 400;
  told = told_as (codes "12") Ended 2 19 ([]) None;
}

--     _begin _procedure p(n); _value n; _integer n; _begin _integer _array a[n:n+1]; a[n] := n; _if n > 0 _then p(n-1);
--     outinteger(a[n]) _end; p(2) _end
abbrev pub array_in_recursion : Example
array_in_recursion = record {
  program = (MkProgram []
      (MkBlock 1
      (DeclareProcedure
      (MkHeading None 1 (name 8 1) (FormalList 1 (MkNames (name 9 1) []) 1) 1 (ValueList 1 (MkNames (name 9 1) []) 1)
      (record { specifier = (ValueSpec (integer_word 1)); names = (MkNames (name 9 1) []); semicolon = 1 } ∷ []))
      (plainly
      (OneGroup
      (MkBlock 1
      (DeclareArrays (integer_word 1) 1
      (MkSegment (MkNames (name 10 1) []) 1
      (MkPair (alone 9 1) 1
      (sum_expr (Summed (OneTerm (OneFactor (OnePrimary (OneCall (Alone (name 9 1)))))) Add 1 (OneFactor
      (OnePrimary (Numeral 1 1))))))
      [] 1) []) 1 NoDeclarations
      (plainly
      (Assign (record { left = (LeftElement (Subscripted (name 10 1) 1 (alone 9 1) NoExprs 1)); becomes = 1 }) [] (alone 9 1)))
      (MoreStatements 1
      (OneConditional
      (IfThen [] 1
      (relation_expr
      (Compared (OneTerm (OneFactor (OnePrimary (OneCall (Alone (name 9 1)))))) MoreThan 1
      (OneTerm (OneFactor (OnePrimary (Numeral 0 1)))))) 1
      (MkUnconditional []
      (CallStatement
      (WithActuals (name 8 1) 1
      (OneExpr
      (sum_expr
      (Summed (OneTerm (OneFactor (OnePrimary (OneCall (Alone (name 9 1)))))) Subtract 1 (OneFactor (OnePrimary (Numeral 1 1))))))
      NoActuals 1)))))
      (MoreStatements 1
      (plainly
      (CallStatement
      (WithActuals (name 0 1) 1 (OneExpr (only (OneElement (Subscripted (name 10 1) 1 (alone 9 1) NoExprs 1)))) NoActuals 1)))
      NoStatements)) 1)))) 1 NoDeclarations
      (plainly (CallStatement (WithActuals (name 8 1) 1 (OneExpr (number 2 1)) NoActuals 1))) NoStatements 1) 1);
  unread = [];
  permitted = 60;
  limit = 400;
  told = told_as (codes "012") Ended 7 62 ([]) None;
}
