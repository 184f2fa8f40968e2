-- Blocks, arrays and own quantities (Report 4.1, 5.1, 5.2).
use Rattle.std.specs.Prelude.{[], ◌∷◌, codes, Some, None, true}
use Rattle.gier_tree.specs.Trees.{MkNames, MkPair, MkSegment, Add, Subtract, Multiply, MoreThan, OneNegation, Both, OneRelation}
use Rattle.gier_tree.specs.Trees.{Negated, OneArithmetic, Compared, OneTerm, Signed, Summed, OneFactor, Multiplied, OnePrimary}
use Rattle.gier_tree.specs.Trees.{Numeral, Logical, OneCall, OneElement, Alone, WithActuals, Subscripted, OneExpr, NoActuals}
use Rattle.gier_tree.specs.Trees.{NoExprs, MoreExprs, only, NoFormals, FormalList, NoValues, ValueList, ValueSpec, ArraySpec}
use Rattle.gier_tree.specs.Trees.{MkHeading, OneName, LeftElement, OneValue, StepUntil, DeclareType, DeclareOwn, DeclareArrays}
use Rattle.gier_tree.specs.Trees.{DeclareProcedure, NoDeclarations, MoreDeclarations, MkBlock, MkCompound, NoStatements}
use Rattle.gier_tree.specs.Trees.{MoreStatements, OneConditional, OneLoop, MkUnconditional, OneGroup, Assign, CallStatement}
use Rattle.gier_tree.specs.Trees.{Dummy, IfThen, MkLoop, MkProgram}
use Rattle.gier_word.specs.declared.alarm.Alarm.TheVariants.{Bounds, Subscript, Stack}
use Rattle.gier_meaning.specs.Live.{InProgram, InBlock, InProcedure}
use Rattle.gier_meaning.specs.Outcome.{Alarmed}
use Rattle.gier_meaning.specs.Observation.{Ended, Stopped}
use Rattle.gier_meaning.specs.Example.{Example, told_as, live, stop_at, name, comma_name, integer_word, boolean_word}
use Rattle.gier_meaning.specs.Example.{conjunction_expr, negation_expr, relation_expr, sum_expr, term_expr, number, alone}
use Rattle.gier_meaning.specs.Example.{plainly}

--     _begin _integer i; _for i := 1, 2 _do _begin _integer a; outinteger(a); a := 7 _end _end
abbrev pub fresh_each_time : Example
fresh_each_time = record {
  program = (MkProgram []
      (MkBlock 1 (DeclareType (integer_word 1) (MkNames (name 8 1) [])) 1 NoDeclarations
      (OneLoop
      (MkLoop [] 1 (name 8 1) 1 (OneValue (number 1 1)) (record { comma = 1; turns = (OneValue (number 2 1)) } ∷ []) 1
      (plainly
      (OneGroup
      (MkBlock 1 (DeclareType (integer_word 1) (MkNames (name 9 1) [])) 1 NoDeclarations
      (plainly (CallStatement (WithActuals (name 0 1) 1 (OneExpr (alone 9 1)) NoActuals 1)))
      (MoreStatements 1 (plainly (Assign (record { left = (OneName (name 9 1)); becomes = 1 }) [] (number 7 1))) NoStatements)
      1))))) NoStatements 1) 1);
  unread = [];
  permitted = 60;
  limit = 400;
  told = told_as (codes "00") Ended 5 14 ([]) None;
}

--     _begin _integer a; a := 1; _begin _boolean a; a := _true; _if a _then outchar(116) _end; outinteger(a) _end
abbrev pub hides : Example
hides = record {
  program = (MkProgram []
      (MkBlock 1 (DeclareType (integer_word 1) (MkNames (name 8 1) [])) 1 NoDeclarations
      (plainly (Assign (record { left = (OneName (name 8 1)); becomes = 1 }) [] (number 1 1)))
      (MoreStatements 1
      (plainly
      (OneGroup
      (MkBlock 1 (DeclareType (boolean_word 1) (MkNames (name 8 1) [])) 1 NoDeclarations
      (plainly (Assign (record { left = (OneName (name 8 1)); becomes = 1 }) [] (only (Logical true 1))))
      (MoreStatements 1
      (OneConditional
      (IfThen [] 1 (alone 8 1) 1 (MkUnconditional [] (CallStatement (WithActuals (name 3 1) 1
      (OneExpr (number 116 1)) NoActuals 1)))))
      NoStatements) 1)))
      (MoreStatements 1 (plainly (CallStatement (WithActuals (name 0 1) 1 (OneExpr (alone 8 1)) NoActuals 1))) NoStatements))
      1) 1);
  unread = [];
  permitted = 60;
  limit = 400;
  told = told_as (codes "t1") Ended 2 13 ([]) None;
}

--     _begin _integer n; n := 3; _begin _integer _array a[1:n, -1:n-2]; _integer i; _for i := 1 _step 1 _until n _do a[i, i-2]
--     := i*i;
--     outinteger(a[3, 1]); outinteger(a[2, 0]); outinteger(a[1, 1]) _end _end
abbrev pub dynamic_array : Example
dynamic_array = record {
  program = (MkProgram []
      (MkBlock 1 (DeclareType (integer_word 1) (MkNames (name 8 1) [])) 1 NoDeclarations
      (plainly (Assign (record { left = (OneName (name 8 1)); becomes = 1 }) [] (number 3 1)))
      (MoreStatements 1
      (plainly
      (OneGroup
      (MkBlock 1
      (DeclareArrays (integer_word 1) 1
      (MkSegment (MkNames (name 9 1) []) 1 (MkPair (number 1 1) 1 (alone 8 1))
      (record {
        comma = 1;
        pair =
            (MkPair (sum_expr (Signed Subtract 1 (OneFactor (OnePrimary (Numeral 1 1))))) 1
            (sum_expr
            (Summed (OneTerm (OneFactor (OnePrimary (OneCall (Alone (name 8 1)))))) Subtract 1 (OneFactor
            (OnePrimary (Numeral 2 1))))));
      } ∷ []) 1) []) 1
      (MoreDeclarations (DeclareType (integer_word 1) (MkNames (name 10 1) [])) 1 NoDeclarations)
      (OneLoop
      (MkLoop [] 1 (name 10 1) 1 (StepUntil (number 1 1) 1 (number 1 1) 1 (alone 8 1)) [] 1
      (plainly
      (Assign
      (record {
        left =
            (LeftElement
            (Subscripted (name 9 1) 1 (alone 10 1)
            (MoreExprs 1
            (sum_expr
            (Summed (OneTerm (OneFactor (OnePrimary (OneCall (Alone (name 10 1)))))) Subtract 1 (OneFactor
            (OnePrimary (Numeral 2 1)))))
            NoExprs) 1));
        becomes = 1;
      }) []
      (term_expr
      (Multiplied (OneFactor (OnePrimary (OneCall (Alone (name 10 1))))) Multiply 1 (OnePrimary (OneCall (Alone (name 10 1))))))))))
      (MoreStatements 1
      (plainly
      (CallStatement
      (WithActuals (name 0 2) 2
      (OneExpr (only (OneElement (Subscripted (name 9 2) 2 (number 3 2) (MoreExprs 2 (number 1 2) NoExprs) 2))))
      NoActuals 2)))
      (MoreStatements 2
      (plainly
      (CallStatement
      (WithActuals (name 0 2) 2
      (OneExpr (only (OneElement (Subscripted (name 9 2) 2 (number 2 2) (MoreExprs 2 (number 0 2) NoExprs) 2))))
      NoActuals 2)))
      (MoreStatements 2
      (plainly
      (CallStatement
      (WithActuals (name 0 2) 2
      (OneExpr (only (OneElement (Subscripted (name 9 2) 2 (number 1 2) (MoreExprs 2 (number 1 2) NoExprs) 2))))
      NoActuals 2))) NoStatements))) 2))) NoStatements) 2) 2);
  unread = [];
  permitted = 60;
  limit = 400;
  told = told_as (codes "940") Ended 5 31 ([]) None;
}

--     _begin _integer _procedure f; _begin outchar(102); f := 2 _end; _begin _integer _array a, b[1:f], c[f:f]; a[1] := 1; b[1]
--     := 2; outinteger(a[1]); outinteger(b[1]); outinteger(c[2]) _end _end
abbrev pub bounds_once : Example
bounds_once = record {
  program = (MkProgram []
      (MkBlock 1
      (DeclareProcedure (MkHeading (Some (integer_word 1)) 1 (name 8 1) NoFormals 1 NoValues [])
      (plainly
      (OneGroup
      (MkCompound 1 (plainly (CallStatement (WithActuals (name 3 1) 1 (OneExpr (number 102 1)) NoActuals 1)))
      (MoreStatements 1 (plainly (Assign (record { left = (OneName (name 8 1)); becomes = 1 }) [] (number 2 1))) NoStatements)
      1)))) 1 NoDeclarations
      (plainly
      (OneGroup
      (MkBlock 1
      (DeclareArrays (integer_word 1) 1
      (MkSegment (MkNames (name 9 1) (comma_name 1 10 1 ∷ [])) 1 (MkPair (number 1 1) 1 (alone 8 1)) [] 1)
      (record { comma = 1; segment = (MkSegment (MkNames (name 11 1) []) 1 (MkPair (alone 8 1) 1 (alone 8 1)) [] 1) } ∷ []))
      1 NoDeclarations
      (plainly
      (Assign (record { left = (LeftElement (Subscripted (name 9 1) 1 (number 1 1) NoExprs 1)); becomes = 1 }) [] (number 1 1)))
      (MoreStatements 1
      (plainly
      (Assign (record { left = (LeftElement (Subscripted (name 10 1) 1 (number 1 1) NoExprs 1)); becomes = 1 }) [] (number 2 1)))
      (MoreStatements 1
      (plainly
      (CallStatement
      (WithActuals (name 0 1) 1 (OneExpr (only (OneElement (Subscripted (name 9 1) 1 (number 1 1) NoExprs 1)))) NoActuals 1)))
      (MoreStatements 1
      (plainly
      (CallStatement
      (WithActuals (name 0 1) 1 (OneExpr (only (OneElement (Subscripted (name 10 1) 1 (number 1 1) NoExprs 1)))) NoActuals 1)))
      (MoreStatements 1
      (plainly
      (CallStatement
      (WithActuals (name 0 1) 1 (OneExpr (only (OneElement (Subscripted (name 11 1) 1 (number 2 1) NoExprs 1)))) NoActuals 1)))
      NoStatements)))) 1))) NoStatements 1) 1);
  unread = [];
  permitted = 60;
  limit = 400;
  told = told_as (codes "fff120") Ended 5 34 ([]) None;
}

--     _begin _boolean _array b[0:1]; b[1] := _true; _if b[1] _and _not b[0] _then outchar(98) _end
abbrev pub boolean_array : Example
boolean_array = record {
  program = (MkProgram []
      (MkBlock 1
      (DeclareArrays (boolean_word 1) 1 (MkSegment (MkNames (name 8 1) []) 1 (MkPair (number 0 1) 1 (number 1 1)) [] 1) [])
      1 NoDeclarations
      (plainly
      (Assign (record { left = (LeftElement (Subscripted (name 8 1) 1 (number 1 1) NoExprs 1)); becomes = 1 }) []
      (only (Logical true 1))))
      (MoreStatements 1
      (OneConditional
      (IfThen [] 1
      (conjunction_expr
      (Both
      (OneNegation
      (OneRelation (OneArithmetic (OneTerm (OneFactor (OnePrimary (OneElement (Subscripted (name 8 1) 1
      (number 1 1) NoExprs 1))))))))
      1
      (Negated 1 (OneArithmetic (OneTerm (OneFactor (OnePrimary (OneElement (Subscripted (name 8 1) 1
      (number 0 1) NoExprs 1)))))))))
      1 (MkUnconditional [] (CallStatement (WithActuals (name 3 1) 1 (OneExpr (number 98 1)) NoActuals 1)))))
      NoStatements) 1) 1);
  unread = [];
  permitted = 60;
  limit = 400;
  told = told_as (codes "b") Ended 1 15 ([]) None;
}

--     _begin _integer _array a[1:2]; a[1] := 5;
--     outinteger(a[1]); a[
--     0] := 1 _end
abbrev pub subscript_below : Example
subscript_below = record {
  program = (MkProgram []
      (MkBlock 1
      (DeclareArrays (integer_word 1) 1 (MkSegment (MkNames (name 8 1) []) 1 (MkPair (number 1 1) 1 (number 2 1)) [] 1) [])
      1 NoDeclarations
      (plainly
      (Assign (record { left = (LeftElement (Subscripted (name 8 1) 1 (number 1 1) NoExprs 1)); becomes = 1 }) [] (number 5 1)))
      (MoreStatements 1
      (plainly
      (CallStatement
      (WithActuals (name 0 2) 2 (OneExpr (only (OneElement (Subscripted (name 8 2) 2 (number 1 2) NoExprs 2)))) NoActuals 2)))
      (MoreStatements 2
      (plainly
      (Assign (record { left = (LeftElement (Subscripted (name 8 2) 2 (number 0 3) NoExprs 3)); becomes = 3 }) [] (number 1 3)))
      NoStatements)) 3) 3);
  unread = [];
  permitted = 60;
  limit = 400;
  told = told_as (codes "5") (Stopped (Alarmed Subscript)) 1 14 ([]) (stop_at (live InBlock 11 ∷ live InProgram 3 ∷ []) 2);
}

--     _begin _integer _array a[1:2, 1:2]; a[2, 2] := 1; outinteger(a[2,
--     3]) _end
abbrev pub subscript_above : Example
subscript_above = record {
  program = (MkProgram []
      (MkBlock 1
      (DeclareArrays (integer_word 1) 1
      (MkSegment (MkNames (name 8 1) []) 1 (MkPair (number 1 1) 1 (number 2 1))
      (record { comma = 1; pair = (MkPair (number 1 1) 1 (number 2 1)) } ∷ []) 1) []) 1 NoDeclarations
      (plainly
      (Assign
      (record { left = (LeftElement (Subscripted (name 8 1) 1 (number 2 1) (MoreExprs 1 (number 2 1) NoExprs) 1)); becomes = 1 })
      [] (number 1 1)))
      (MoreStatements 1
      (plainly
      (CallStatement
      (WithActuals (name 0 1) 1
      (OneExpr (only (OneElement (Subscripted (name 8 1) 1 (number 2 1) (MoreExprs 1 (number 3 2) NoExprs) 2))))
      NoActuals 2))) NoStatements) 2) 2);
  unread = [];
  permitted = 60;
  limit = 400;
  told = told_as ([]) (Stopped (Alarmed Subscript)) 1 20 ([]) (stop_at (live InBlock 17 ∷ live InProgram 3 ∷ []) 1);
}

--     _begin _integer _array a[1:2]; _procedure p(b); _integer _array b; outinteger(
--     b[1, 1]);
--     p(a) _end
abbrev pub subscripts_of_another_number : Example
subscripts_of_another_number = record {
  program = (MkProgram []
      (MkBlock 1
      (DeclareArrays (integer_word 1) 1 (MkSegment (MkNames (name 8 1) []) 1 (MkPair (number 1 1) 1 (number 2 1)) [] 1) [])
      1
      (MoreDeclarations
      (DeclareProcedure
      (MkHeading None 1 (name 9 1) (FormalList 1 (MkNames (name 10 1) []) 1) 1 NoValues
      (record { specifier = (ArraySpec (integer_word 1) 1); names = (MkNames (name 10 1) []); semicolon = 1 } ∷ []))
      (plainly
      (CallStatement
      (WithActuals (name 0 1) 1
      (OneExpr (only (OneElement (Subscripted (name 10 2) 2 (number 1 2) (MoreExprs 2 (number 1 2) NoExprs) 2))))
      NoActuals 2)))) 2 NoDeclarations)
      (plainly (CallStatement (WithActuals (name 9 3) 3 (OneExpr (alone 8 3)) NoActuals 3))) NoStatements 3) 3);
  unread = [];
  permitted = 60;
  limit = 400;
  told = told_as ([]) (Stopped (Alarmed Subscript)) 2 24 ([])
      (stop_at (live (InProcedure 3) 10 ∷ live InBlock 11 ∷ live InProgram 3 ∷ []) 2);
}

--     _begin _integer n; _begin
--     _integer _array
--      a, b[0:0, 1:n]; outchar(97) _end _end
abbrev pub no_elements : Example
no_elements = record {
  program = (MkProgram []
      (MkBlock 1 (DeclareType (integer_word 1) (MkNames (name 8 1) [])) 1 NoDeclarations
      (plainly
      (OneGroup
      (MkBlock 1
      (DeclareArrays (integer_word 2) 2
      (MkSegment (MkNames (name 9 3) (comma_name 3 10 3 ∷ [])) 3 (MkPair (number 0 3) 3 (number 0 3))
      (record { comma = 3; pair = (MkPair (number 1 3) 3 (alone 8 3)) } ∷ []) 3) []) 3 NoDeclarations
      (plainly (CallStatement (WithActuals (name 3 3) 3 (OneExpr (number 97 3)) NoActuals 3))) NoStatements 3)))
      NoStatements 3) 3);
  unread = [];
  permitted = 60;
  limit = 400;
  told = told_as ([]) (Stopped (Alarmed Bounds)) 2 26 ([]) (stop_at (live InBlock 19 ∷ live InBlock 4 ∷ live InProgram 3 ∷ []) 3);
}

--     _begin _integer _array a[0:549755813886, 0:549755813886]; _end
abbrev pub elements_above_the_words : Example
elements_above_the_words = record {
  program = (MkProgram []
      (MkBlock 1
      (DeclareArrays (integer_word 1) 1
      (MkSegment (MkNames (name 8 1) []) 1 (MkPair (number 0 1) 1 (number 549755813886 1))
      (record { comma = 1; pair = (MkPair (number 0 1) 1 (number 549755813886 1)) } ∷ []) 1) []) 1 NoDeclarations
      (plainly Dummy) NoStatements 1) 1);
  unread = [];
  permitted = 60;
  limit = 400;
  told = told_as ([]) (Stopped (Alarmed Stack)) 1 16 ([]) (stop_at (live InBlock 13 ∷ live InProgram 3 ∷ []) 1);
}

--     _begin _procedure p; _begin _own _integer c; c := c + 1; outinteger(c) _end; p; p; p _end
abbrev pub own_counter : Example
own_counter = record {
  program = (MkProgram []
      (MkBlock 1 (DeclareType (integer_word 1) (MkNames (name 4294967296 1) [])) 1 NoDeclarations
      (plainly
      (OneGroup
      (MkBlock 1
      (DeclareProcedure (MkHeading None 1 (name 8 1) NoFormals 1 NoValues [])
      (plainly
      (OneGroup
      (MkBlock 1 (DeclareOwn 1 (integer_word 1) (MkNames (name 9 1) [])) 1 NoDeclarations
      (plainly
      (Assign (record { left = (OneName (name 4294967296 1)); becomes = 1 }) []
      (sum_expr
      (Summed (OneTerm (OneFactor (OnePrimary (OneCall (Alone (name 4294967296 1)))))) Add 1 (OneFactor
      (OnePrimary (Numeral 1 1)))))))
      (MoreStatements 1
      (plainly (CallStatement (WithActuals (name 0 1) 1 (OneExpr (alone 4294967296 1)) NoActuals 1))) NoStatements)
      1)))) 1 NoDeclarations (plainly (CallStatement (Alone (name 8 1))))
      (MoreStatements 1 (plainly (CallStatement (Alone (name 8 1))))
      (MoreStatements 1 (plainly (CallStatement (Alone (name 8 1)))) NoStatements)) 1))) NoStatements 1) 1);
  unread = [];
  permitted = 60;
  limit = 400;
  told = told_as (codes "123") Ended 8 20 ([]) None;
}

--     _begin _procedure q; _begin _own _integer _array a[0:1]; a[0] := a[0] + 1; a[1] := a[0] * a[0]; outinteger(a[1]) _end; q;
--     q _end
abbrev pub own_array : Example
own_array = record {
  program = (MkProgram []
      (MkBlock 1
      (DeclareArrays (integer_word 1) 1 (MkSegment (MkNames (name 4294967296 1) []) 1 (MkPair (number 0 1) 1 (number 1 1)) [] 1) [])
      1 NoDeclarations
      (plainly
      (OneGroup
      (MkBlock 1
      (DeclareProcedure (MkHeading None 1 (name 8 1) NoFormals 1 NoValues [])
      (plainly
      (OneGroup
      (MkBlock 1 (DeclareOwn 1 (integer_word 1) (MkNames (name 0 1) [])) 1 NoDeclarations
      (plainly
      (Assign (record { left = (LeftElement (Subscripted (name 4294967296 1) 1 (number 0 1) NoExprs 1)); becomes = 1 }) []
      (sum_expr
      (Summed (OneTerm (OneFactor (OnePrimary (OneElement (Subscripted (name 4294967296 1) 1 (number 0 1) NoExprs 1))))) Add 1
      (OneFactor (OnePrimary (Numeral 1 1)))))))
      (MoreStatements 1
      (plainly
      (Assign (record { left = (LeftElement (Subscripted (name 4294967296 1) 1 (number 1 1) NoExprs 1)); becomes = 1 }) []
      (term_expr
      (Multiplied (OneFactor (OnePrimary (OneElement (Subscripted (name 4294967296 1) 1 (number 0 1) NoExprs 1)))) Multiply 1
      (OnePrimary (OneElement (Subscripted (name 4294967296 1) 1 (number 0 1) NoExprs 1)))))))
      (MoreStatements 1
      (plainly
      (CallStatement
      (WithActuals (name 0 1) 1
      (OneExpr (only (OneElement (Subscripted (name 4294967296 1) 1 (number 1 1) NoExprs 1)))) NoActuals 1)))
      NoStatements)) 1)))) 1 NoDeclarations (plainly (CallStatement (Alone (name 8 1))))
      (MoreStatements 1 (plainly (CallStatement (Alone (name 8 1)))) NoStatements) 1))) NoStatements 1) 1);
  unread = [];
  permitted = 60;
  limit = 400;
  told = told_as (codes "14") Ended 6 29 ([]) None;
}

--     _begin _procedure r(n); _value n; _integer n; _begin _own _boolean b; _integer c; _if _not b _then outinteger(n); b :=
--     _not b; _if n > 0 _then r(n-1) _end; r(3) _end
abbrev pub own_in_recursion : Example
own_in_recursion = record {
  program = (MkProgram []
      (MkBlock 1 (DeclareType (boolean_word 1) (MkNames (name 4294967296 1) [])) 1 NoDeclarations
      (plainly
      (OneGroup
      (MkBlock 1
      (DeclareProcedure
      (MkHeading None 1 (name 8 1) (FormalList 1 (MkNames (name 9 1) []) 1) 1 (ValueList 1 (MkNames (name 9 1) []) 1)
      (record { specifier = (ValueSpec (integer_word 1)); names = (MkNames (name 9 1) []); semicolon = 1 } ∷ []))
      (plainly
      (OneGroup
      (MkBlock 1 (DeclareOwn 1 (boolean_word 1) (MkNames (name 10 1) [])) 1
      (MoreDeclarations (DeclareType (integer_word 1) (MkNames (name 11 1) [])) 1 NoDeclarations)
      (OneConditional
      (IfThen [] 1
      (negation_expr (Negated 1 (OneArithmetic (OneTerm (OneFactor (OnePrimary (OneCall (Alone (name 4294967296 1)))))))))
      1 (MkUnconditional [] (CallStatement (WithActuals (name 0 1) 1 (OneExpr (alone 9 1)) NoActuals 1)))))
      (MoreStatements 1
      (plainly
      (Assign (record { left = (OneName (name 4294967296 1)); becomes = 1 }) []
      (negation_expr (Negated 1 (OneArithmetic (OneTerm (OneFactor (OnePrimary (OneCall (Alone (name 4294967296 1)))))))))))
      (MoreStatements 1
      (OneConditional
      (IfThen [] 1
      (relation_expr
      (Compared (OneTerm (OneFactor (OnePrimary (OneCall (Alone (name 9 1)))))) MoreThan 1
      (OneTerm (OneFactor (OnePrimary (Numeral 0 1)))))) 1
      (MkUnconditional []
      (CallStatement
      (WithActuals (name 8 1) 1
      (OneExpr
      (sum_expr
      (Summed (OneTerm (OneFactor (OnePrimary (OneCall (Alone (name 9 1)))))) Subtract 1 (OneFactor (OnePrimary (Numeral 1 1))))))
      NoActuals 1))))) NoStatements)) 1)))) 1 NoDeclarations
      (plainly (CallStatement (WithActuals (name 8 1) 1 (OneExpr (number 3 1)) NoActuals 1))) NoStatements 1)))
      NoStatements 1) 1);
  unread = [];
  permitted = 60;
  limit = 400;
  told = told_as (codes "31") Ended 10 64 ([]) None;
}

--     _begin _own _integer _array a[1:0]; outchar(97) _end
abbrev pub own_bounds : Example
own_bounds = record {
  program = (MkProgram []
      (MkBlock 1
      (DeclareArrays (integer_word 1) 1 (MkSegment (MkNames (name 4294967296 1) []) 1 (MkPair (number 1 1) 1 (number 0 1)) [] 1) [])
      1 NoDeclarations
      (plainly
      (OneGroup
      (MkBlock 1 (DeclareOwn 1 (integer_word 1) (MkNames (name 0 1) [])) 1 NoDeclarations
      (plainly (CallStatement (WithActuals (name 3 1) 1 (OneExpr (number 97 1)) NoActuals 1))) NoStatements 1)))
      NoStatements 1) 1);
  unread = [];
  permitted = 60;
  limit = 400;
  told = told_as ([]) (Stopped (Alarmed Bounds)) 1 12 ([]) (stop_at (live InBlock 9 ∷ live InProgram 3 ∷ []) 1);
}
