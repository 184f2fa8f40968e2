-- Formals by name (Report 4.7.3.2): Jensen's device, side effects, addresses.
use Rattle.std.specs.Prelude.{[], ◌∷◌, codes, Some, None}
use Rattle.gier_tree.specs.Trees.{MkNames, MkPair, MkSegment, Add, Subtract, Multiply, Divide, AtMost, EqualTo, Negated}
use Rattle.gier_tree.specs.Trees.{OneArithmetic, Compared, OneTerm, Signed, Summed, OneFactor, Multiplied, OnePrimary, Numeral}
use Rattle.gier_tree.specs.Trees.{Bracketed, OneCall, OneElement, Alone, WithActuals, Subscripted, OneExpr, NoActuals}
use Rattle.gier_tree.specs.Trees.{MoreActuals, NoExprs, only, NoFormals, FormalList, NoValues, ValueList, ValueSpec, MkHeading}
use Rattle.gier_tree.specs.Trees.{OneName, LeftElement, StepUntil, DeclareType, DeclareArrays, DeclareProcedure, NoDeclarations}
use Rattle.gier_tree.specs.Trees.{MoreDeclarations, MkBlock, MkCompound, NoStatements, MoreStatements, OneUnconditional}
use Rattle.gier_tree.specs.Trees.{OneConditional, OneLoop, MkUnconditional, OneGroup, Assign, Jump, CallStatement, IfThen, IfElse}
use Rattle.gier_tree.specs.Trees.{MkLoop, MkProgram}
use Rattle.gier_word.specs.declared.alarm.Alarm.TheVariants.{Assignment}
use Rattle.gier_meaning.specs.Live.{InProgram, InBlock, InProcedure, InEvaluation}
use Rattle.gier_meaning.specs.Outcome.{Alarmed}
use Rattle.gier_meaning.specs.Observation.{Ended, Stopped}
use Rattle.gier_meaning.specs.Example.{Example, told_as, live, stop_at, name, comma_name, label_place, integer_word, boolean_word}
use Rattle.gier_meaning.specs.Example.{negation_expr, relation_expr, sum_expr, term_expr, number, alone, plainly}

--     _begin _integer i;
--     _integer _procedure sum(k, l, u, t); _value l, u; _integer k, l, u, t;
--     _begin _integer s; s := 0; _for k := l _step 1 _until u _do s := s + t; sum := s _end;
--     outinteger(sum(i, 1, 3, i*i)) _end
abbrev pub jensen : Example
jensen = record {
  program = (MkProgram []
      (MkBlock 1 (DeclareType (integer_word 1) (MkNames (name 8 1) [])) 1
      (MoreDeclarations
      (DeclareProcedure
      (MkHeading (Some (integer_word 2)) 2 (name 9 2)
      (FormalList 2 (MkNames (name 10 2) (comma_name 2 11 2 ∷ comma_name 2 12 2 ∷ comma_name 2 13 2 ∷ [])) 2) 2
      (ValueList 2 (MkNames (name 11 2) (comma_name 2 12 2 ∷ [])) 2)
      (record {
        specifier = (ValueSpec (integer_word 2));
        names =
            (MkNames (name 10 2) (comma_name 2 11 2 ∷ comma_name 2 12 2 ∷ comma_name 2 13 2 ∷ []));
        semicolon = 2;
      } ∷ []))
      (plainly
      (OneGroup
      (MkBlock 3 (DeclareType (integer_word 3) (MkNames (name 14 3) [])) 3 NoDeclarations
      (plainly (Assign (record { left = (OneName (name 14 3)); becomes = 3 }) [] (number 0 3)))
      (MoreStatements 3
      (OneLoop
      (MkLoop [] 3 (name 10 3) 3 (StepUntil (alone 11 3) 3 (number 1 3) 3 (alone 12 3)) [] 3
      (plainly
      (Assign (record { left = (OneName (name 14 3)); becomes = 3 }) []
      (sum_expr
      (Summed (OneTerm (OneFactor (OnePrimary (OneCall (Alone (name 14 3)))))) Add 3
      (OneFactor (OnePrimary (OneCall (Alone (name 13 3)))))))))))
      (MoreStatements 3 (plainly (Assign (record { left = (OneName (name 9 3)); becomes = 3 }) [] (alone 14 3))) NoStatements))
      3)))) 3 NoDeclarations)
      (plainly
      (CallStatement
      (WithActuals (name 0 4) 4
      (OneExpr
      (only
      (OneCall
      (WithActuals (name 9 4) 4 (OneExpr (alone 8 4))
      (MoreActuals 4 (OneExpr (number 1 4))
      (MoreActuals 4 (OneExpr (number 3 4))
      (MoreActuals 4
      (OneExpr
      (term_expr
      (Multiplied (OneFactor (OnePrimary (OneCall (Alone (name 8 4))))) Multiply 4 (OnePrimary (OneCall (Alone (name 8 4)))))))
      NoActuals))) 4)))) NoActuals 4))) NoStatements 4) 4);
  unread = [];
  permitted = 60;
  limit = 400;
  told = told_as (codes "14") Ended 20 42 ([]) None;
}

--     _begin _integer i; _integer _array a[1:2];
--     _procedure swap(x, y); _integer x, y; _begin _integer t; t := x; x := y; y := t _end;
--     i := 1; a[1] := 2; a[2] := 9; swap(i, a[i]);
--     outinteger(i); outinteger(a[1]); outinteger(a[2]) _end
abbrev pub swap : Example
swap = record {
  program = (MkProgram []
      (MkBlock 1 (DeclareType (integer_word 1) (MkNames (name 8 1) [])) 1
      (MoreDeclarations
      (DeclareArrays (integer_word 1) 1 (MkSegment (MkNames (name 9 1) []) 1 (MkPair (number 1 1) 1 (number 2 1)) [] 1) [])
      1
      (MoreDeclarations
      (DeclareProcedure
      (MkHeading None 2 (name 10 2) (FormalList 2 (MkNames (name 11 2) (comma_name 2 12 2 ∷ [])) 2) 2 NoValues
      (record { specifier = (ValueSpec (integer_word 2)); names = (MkNames (name 11 2) (comma_name 2 12 2 ∷ [])); semicolon = 2 } ∷
      []))
      (plainly
      (OneGroup
      (MkBlock 2 (DeclareType (integer_word 2) (MkNames (name 13 2) [])) 2 NoDeclarations
      (plainly (Assign (record { left = (OneName (name 13 2)); becomes = 2 }) [] (alone 11 2)))
      (MoreStatements 2 (plainly (Assign (record { left = (OneName (name 11 2)); becomes = 2 }) [] (alone 12 2)))
      (MoreStatements 2 (plainly (Assign (record { left = (OneName (name 12 2)); becomes = 2 }) [] (alone 13 2))) NoStatements))
      2)))) 2 NoDeclarations))
      (plainly (Assign (record { left = (OneName (name 8 3)); becomes = 3 }) [] (number 1 3)))
      (MoreStatements 3
      (plainly
      (Assign (record { left = (LeftElement (Subscripted (name 9 3) 3 (number 1 3) NoExprs 3)); becomes = 3 }) [] (number 2 3)))
      (MoreStatements 3
      (plainly
      (Assign (record { left = (LeftElement (Subscripted (name 9 3) 3 (number 2 3) NoExprs 3)); becomes = 3 }) [] (number 9 3)))
      (MoreStatements 3
      (plainly
      (CallStatement
      (WithActuals (name 10 3) 3 (OneExpr (alone 8 3))
      (MoreActuals 3 (OneExpr (only (OneElement (Subscripted (name 9 3) 3 (alone 8 3) NoExprs 3)))) NoActuals) 3)))
      (MoreStatements 3 (plainly (CallStatement (WithActuals (name 0 4) 4 (OneExpr (alone 8 4)) NoActuals 4)))
      (MoreStatements 4
      (plainly
      (CallStatement
      (WithActuals (name 0 4) 4 (OneExpr (only (OneElement (Subscripted (name 9 4) 4 (number 1 4) NoExprs 4)))) NoActuals 4)))
      (MoreStatements 4
      (plainly
      (CallStatement
      (WithActuals (name 0 4) 4 (OneExpr (only (OneElement (Subscripted (name 9 4) 4 (number 2 4) NoExprs 4)))) NoActuals 4)))
      NoStatements)))))) 4) 4);
  unread = [];
  permitted = 60;
  limit = 400;
  told = told_as (codes "221") Ended 7 38 ([]) None;
}

--     _begin _integer c; _integer _procedure n; _begin c := c + 1; n := c _end; _procedure p(x); _integer x; _begin
--     outinteger(x); outinteger(x + x) _end; p(n) _end
abbrev pub each_use_evaluates : Example
each_use_evaluates = record {
  program = (MkProgram []
      (MkBlock 1 (DeclareType (integer_word 1) (MkNames (name 8 1) [])) 1
      (MoreDeclarations
      (DeclareProcedure (MkHeading (Some (integer_word 1)) 1 (name 9 1) NoFormals 1 NoValues [])
      (plainly
      (OneGroup
      (MkCompound 1
      (plainly
      (Assign (record { left = (OneName (name 8 1)); becomes = 1 }) []
      (sum_expr (Summed (OneTerm (OneFactor (OnePrimary (OneCall (Alone (name 8 1)))))) Add 1 (OneFactor
      (OnePrimary (Numeral 1 1)))))))
      (MoreStatements 1 (plainly (Assign (record { left = (OneName (name 9 1)); becomes = 1 }) [] (alone 8 1))) NoStatements)
      1)))) 1
      (MoreDeclarations
      (DeclareProcedure
      (MkHeading None 1 (name 10 1) (FormalList 1 (MkNames (name 11 1) []) 1) 1 NoValues
      (record { specifier = (ValueSpec (integer_word 1)); names = (MkNames (name 11 1) []); semicolon = 1 } ∷ []))
      (plainly
      (OneGroup
      (MkCompound 1 (plainly (CallStatement (WithActuals (name 0 1) 1 (OneExpr (alone 11 1)) NoActuals 1)))
      (MoreStatements 1
      (plainly
      (CallStatement
      (WithActuals (name 0 1) 1
      (OneExpr
      (sum_expr
      (Summed (OneTerm (OneFactor (OnePrimary (OneCall (Alone (name 11 1)))))) Add 1
      (OneFactor (OnePrimary (OneCall (Alone (name 11 1)))))))) NoActuals 1))) NoStatements) 1))))
      1 NoDeclarations)) (plainly (CallStatement (WithActuals (name 10 1) 1 (OneExpr (alone 9 1)) NoActuals 1)))
      NoStatements 1) 1);
  unread = [];
  permitted = 60;
  limit = 400;
  told = told_as (codes "15") Ended 8 30 ([]) None;
}

--     _begin _procedure p(x); _integer x; outchar(112); p(1 _div 0) _end
abbrev pub no_use_no_evaluation : Example
no_use_no_evaluation = record {
  program = (MkProgram []
      (MkBlock 1
      (DeclareProcedure
      (MkHeading None 1 (name 8 1) (FormalList 1 (MkNames (name 9 1) []) 1) 1 NoValues
      (record { specifier = (ValueSpec (integer_word 1)); names = (MkNames (name 9 1) []); semicolon = 1 } ∷ []))
      (plainly (CallStatement (WithActuals (name 3 1) 1 (OneExpr (number 112 1)) NoActuals 1)))) 1 NoDeclarations
      (plainly
      (CallStatement
      (WithActuals (name 8 1) 1
      (OneExpr (term_expr (Multiplied (OneFactor (OnePrimary (Numeral 1 1))) Divide 1 (OnePrimary (Numeral 0 1)))))
      NoActuals 1))) NoStatements 1) 1);
  unread = [];
  permitted = 60;
  limit = 400;
  told = told_as (codes "p") Ended 2 15 ([]) None;
}

--     _begin _integer a; _procedure p(x); _integer x; _begin _integer a; a := 5; outinteger(x); x := 7 _end; a := 3; p(a);
--     outinteger(a) _end
abbrev pub place_of_the_call : Example
place_of_the_call = record {
  program = (MkProgram []
      (MkBlock 1 (DeclareType (integer_word 1) (MkNames (name 8 1) [])) 1
      (MoreDeclarations
      (DeclareProcedure
      (MkHeading None 1 (name 9 1) (FormalList 1 (MkNames (name 10 1) []) 1) 1 NoValues
      (record { specifier = (ValueSpec (integer_word 1)); names = (MkNames (name 10 1) []); semicolon = 1 } ∷ []))
      (plainly
      (OneGroup
      (MkBlock 1 (DeclareType (integer_word 1) (MkNames (name 8 1) [])) 1 NoDeclarations
      (plainly (Assign (record { left = (OneName (name 8 1)); becomes = 1 }) [] (number 5 1)))
      (MoreStatements 1 (plainly (CallStatement (WithActuals (name 0 1) 1 (OneExpr (alone 10 1)) NoActuals 1)))
      (MoreStatements 1 (plainly (Assign (record { left = (OneName (name 10 1)); becomes = 1 }) [] (number 7 1))) NoStatements))
      1)))) 1 NoDeclarations)
      (plainly (Assign (record { left = (OneName (name 8 1)); becomes = 1 }) [] (number 3 1)))
      (MoreStatements 1 (plainly (CallStatement (WithActuals (name 9 1) 1 (OneExpr (alone 8 1)) NoActuals 1)))
      (MoreStatements 1 (plainly (CallStatement (WithActuals (name 0 1) 1 (OneExpr (alone 8 1)) NoActuals 1))) NoStatements))
      1) 1);
  unread = [];
  permitted = 60;
  limit = 400;
  told = told_as (codes "37") Ended 5 26 ([]) None;
}

--     _begin _integer a; _procedure p(x); _integer x; x := x + 1; _procedure q(y); _integer y; _begin p(y); p(y) _end; q(a);
--     outinteger(a) _end
abbrev pub name_of_a_name : Example
name_of_a_name = record {
  program = (MkProgram []
      (MkBlock 1 (DeclareType (integer_word 1) (MkNames (name 8 1) [])) 1
      (MoreDeclarations
      (DeclareProcedure
      (MkHeading None 1 (name 9 1) (FormalList 1 (MkNames (name 10 1) []) 1) 1 NoValues
      (record { specifier = (ValueSpec (integer_word 1)); names = (MkNames (name 10 1) []); semicolon = 1 } ∷ []))
      (plainly
      (Assign (record { left = (OneName (name 10 1)); becomes = 1 }) []
      (sum_expr (Summed (OneTerm (OneFactor (OnePrimary (OneCall (Alone (name 10 1)))))) Add 1 (OneFactor (OnePrimary
      (Numeral 1 1))))))))
      1
      (MoreDeclarations
      (DeclareProcedure
      (MkHeading None 1 (name 11 1) (FormalList 1 (MkNames (name 12 1) []) 1) 1 NoValues
      (record { specifier = (ValueSpec (integer_word 1)); names = (MkNames (name 12 1) []); semicolon = 1 } ∷ []))
      (plainly
      (OneGroup
      (MkCompound 1 (plainly (CallStatement (WithActuals (name 9 1) 1 (OneExpr (alone 12 1)) NoActuals 1)))
      (MoreStatements 1 (plainly (CallStatement (WithActuals (name 9 1) 1 (OneExpr (alone 12 1)) NoActuals 1))) NoStatements)
      1)))) 1 NoDeclarations))
      (plainly (CallStatement (WithActuals (name 11 1) 1 (OneExpr (alone 8 1)) NoActuals 1)))
      (MoreStatements 1 (plainly (CallStatement (WithActuals (name 0 1) 1 (OneExpr (alone 8 1)) NoActuals 1))) NoStatements)
      1) 1);
  unread = [];
  permitted = 60;
  limit = 400;
  told = told_as (codes "2") Ended 12 37 ([]) None;
}

--     _begin _integer _procedure f(x); _integer x; _begin f := x; x := 5 _end; _integer a; a := 2; outinteger(f(a));
--     outinteger(a); outinteger(f((a))) _end
abbrev pub changes_its_formal : Example
changes_its_formal = record {
  program = (MkProgram []
      (MkBlock 1
      (DeclareProcedure
      (MkHeading (Some (integer_word 1)) 1 (name 8 1) (FormalList 1 (MkNames (name 9 1) []) 1) 1 NoValues
      (record { specifier = (ValueSpec (integer_word 1)); names = (MkNames (name 9 1) []); semicolon = 1 } ∷ []))
      (plainly
      (OneGroup
      (MkCompound 1 (plainly (Assign (record { left = (OneName (name 8 1)); becomes = 1 }) [] (alone 9 1)))
      (MoreStatements 1 (plainly (Assign (record { left = (OneName (name 9 1)); becomes = 1 }) [] (number 5 1))) NoStatements)
      1)))) 1 (MoreDeclarations (DeclareType (integer_word 1) (MkNames (name 10 1) [])) 1 NoDeclarations)
      (plainly (Assign (record { left = (OneName (name 10 1)); becomes = 1 }) [] (number 2 1)))
      (MoreStatements 1
      (plainly
      (CallStatement
      (WithActuals (name 0 1) 1
      (OneExpr (only (OneCall (WithActuals (name 8 1) 1 (OneExpr (alone 10 1)) NoActuals 1)))) NoActuals 1)))
      (MoreStatements 1 (plainly (CallStatement (WithActuals (name 0 1) 1 (OneExpr (alone 10 1)) NoActuals 1)))
      (MoreStatements 1
      (plainly
      (CallStatement
      (WithActuals (name 0 1) 1
      (OneExpr (only (OneCall (WithActuals (name 8 1) 1 (OneExpr (only (Bracketed 1 (alone 10 1) 1))) NoActuals 1))))
      NoActuals 1))) NoStatements))) 1) 1);
  unread = [];
  permitted = 60;
  limit = 400;
  told = told_as (codes "25") (Stopped (Alarmed Assignment)) 7 23 ([])
      (stop_at (live (InEvaluation 1) 5 ∷ live (InProcedure 1) 9 ∷ live InBlock 6 ∷ live InProgram 3 ∷ []) 1);
}

--     _begin _integer i; _procedure until(b); _boolean b; _begin L: i := i + 1; _if _not b _then _goto L _end; until(i = 3);
--     outinteger(i) _end
abbrev pub boolean_by_name : Example
boolean_by_name = record {
  program = (MkProgram []
      (MkBlock 1 (DeclareType (integer_word 1) (MkNames (name 8 1) [])) 1
      (MoreDeclarations
      (DeclareProcedure
      (MkHeading None 1 (name 9 1) (FormalList 1 (MkNames (name 10 1) []) 1) 1 NoValues
      (record { specifier = (ValueSpec (boolean_word 1)); names = (MkNames (name 10 1) []); semicolon = 1 } ∷ []))
      (plainly
      (OneGroup
      (MkCompound 1
      (OneUnconditional
      (MkUnconditional (label_place 11 1 1 ∷ [])
      (Assign (record { left = (OneName (name 8 1)); becomes = 1 }) []
      (sum_expr (Summed (OneTerm (OneFactor (OnePrimary (OneCall (Alone (name 8 1)))))) Add 1 (OneFactor (OnePrimary
      (Numeral 1 1))))))))
      (MoreStatements 1
      (OneConditional
      (IfThen [] 1 (negation_expr (Negated 1 (OneArithmetic (OneTerm (OneFactor (OnePrimary (OneCall (Alone (name 10 1))))))))) 1
      (MkUnconditional [] (Jump 1 (alone 11 1))))) NoStatements) 1)))) 1 NoDeclarations)
      (plainly
      (CallStatement
      (WithActuals (name 9 1) 1
      (OneExpr
      (relation_expr
      (Compared (OneTerm (OneFactor (OnePrimary (OneCall (Alone (name 8 1)))))) EqualTo 1
      (OneTerm (OneFactor (OnePrimary (Numeral 3 1))))))) NoActuals 1)))
      (MoreStatements 1 (plainly (CallStatement (WithActuals (name 0 1) 1 (OneExpr (alone 8 1)) NoActuals 1))) NoStatements)
      1) 1);
  unread = [];
  permitted = 60;
  limit = 400;
  told = told_as (codes "3") Ended 7 24 ([]) None;
}

--     _begin
--     _procedure p(x); _integer x;
--       x := 1;
--     p(2+3)
--     _end
abbrev pub no_variable : Example
no_variable = record {
  program = (MkProgram []
      (MkBlock 1
      (DeclareProcedure
      (MkHeading None 2 (name 8 2) (FormalList 2 (MkNames (name 9 2) []) 2) 2 NoValues
      (record { specifier = (ValueSpec (integer_word 2)); names = (MkNames (name 9 2) []); semicolon = 2 } ∷ []))
      (plainly (Assign (record { left = (OneName (name 9 3)); becomes = 3 }) [] (number 1 3)))) 3 NoDeclarations
      (plainly
      (CallStatement
      (WithActuals (name 8 4) 4
      (OneExpr (sum_expr (Summed (OneTerm (OneFactor (OnePrimary (Numeral 2 4)))) Add 4 (OneFactor (OnePrimary (Numeral 3 4))))))
      NoActuals 4))) NoStatements 5) 5);
  unread = [];
  permitted = 60;
  limit = 400;
  told = told_as ([]) (Stopped (Alarmed Assignment)) 3 22 ([])
      (stop_at (live (InEvaluation 3) 6 ∷ live (InProcedure 4) 8 ∷ live InBlock 5 ∷ live InProgram 3 ∷ []) 3);
}

--     _begin
--     _procedure p(x); _integer x;
--       x := 1;
--     _procedure q(y); _integer y;
--       p(
--     y);
--     q(
--     2+3)
--     _end
abbrev pub no_variable_behind_a_name : Example
no_variable_behind_a_name = record {
  program = (MkProgram []
      (MkBlock 1
      (DeclareProcedure
      (MkHeading None 2 (name 8 2) (FormalList 2 (MkNames (name 9 2) []) 2) 2 NoValues
      (record { specifier = (ValueSpec (integer_word 2)); names = (MkNames (name 9 2) []); semicolon = 2 } ∷ []))
      (plainly (Assign (record { left = (OneName (name 9 3)); becomes = 3 }) [] (number 1 3)))) 3
      (MoreDeclarations
      (DeclareProcedure
      (MkHeading None 4 (name 10 4) (FormalList 4 (MkNames (name 11 4) []) 4) 4 NoValues
      (record { specifier = (ValueSpec (integer_word 4)); names = (MkNames (name 11 4) []); semicolon = 4 } ∷ []))
      (plainly (CallStatement (WithActuals (name 8 5) 5 (OneExpr (alone 11 6)) NoActuals 6)))) 6 NoDeclarations)
      (plainly
      (CallStatement
      (WithActuals (name 10 7) 7
      (OneExpr (sum_expr (Summed (OneTerm (OneFactor (OnePrimary (Numeral 2 8)))) Add 8 (OneFactor (OnePrimary (Numeral 3 8))))))
      NoActuals 8))) NoStatements 9) 9);
  unread = [];
  permitted = 60;
  limit = 400;
  told = told_as ([]) (Stopped (Alarmed Assignment)) 5 36 ([])
      (stop_at (live (InEvaluation 6) 6 ∷ live (InEvaluation 3) 5 ∷ live (InProcedure 5) 8 ∷ live (InProcedure 7) 9
      ∷ live InBlock 5 ∷ live InProgram 3 ∷ []) 6);
}

--     _begin _integer _array a[1:3]; _integer k; _procedure p(x); _integer x; _begin k := 2; x := 4; k := 3; x := 6 _end;
--     p(a[k]); outinteger(a[2]); outinteger(a[3]) _end
abbrev pub name_in_a_subscript : Example
name_in_a_subscript = record {
  program = (MkProgram []
      (MkBlock 1
      (DeclareArrays (integer_word 1) 1 (MkSegment (MkNames (name 8 1) []) 1 (MkPair (number 1 1) 1 (number 3 1)) [] 1) [])
      1
      (MoreDeclarations (DeclareType (integer_word 1) (MkNames (name 9 1) [])) 1
      (MoreDeclarations
      (DeclareProcedure
      (MkHeading None 1 (name 10 1) (FormalList 1 (MkNames (name 11 1) []) 1) 1 NoValues
      (record { specifier = (ValueSpec (integer_word 1)); names = (MkNames (name 11 1) []); semicolon = 1 } ∷ []))
      (plainly
      (OneGroup
      (MkCompound 1 (plainly (Assign (record { left = (OneName (name 9 1)); becomes = 1 }) [] (number 2 1)))
      (MoreStatements 1 (plainly (Assign (record { left = (OneName (name 11 1)); becomes = 1 }) [] (number 4 1)))
      (MoreStatements 1 (plainly (Assign (record { left = (OneName (name 9 1)); becomes = 1 }) [] (number 3 1)))
      (MoreStatements 1 (plainly (Assign (record { left = (OneName (name 11 1)); becomes = 1 }) [] (number 6 1))) NoStatements)))
      1)))) 1 NoDeclarations))
      (plainly
      (CallStatement
      (WithActuals (name 10 1) 1 (OneExpr (only (OneElement (Subscripted (name 8 1) 1 (alone 9 1) NoExprs 1)))) NoActuals 1)))
      (MoreStatements 1
      (plainly
      (CallStatement
      (WithActuals (name 0 1) 1 (OneExpr (only (OneElement (Subscripted (name 8 1) 1 (number 2 1) NoExprs 1)))) NoActuals 1)))
      (MoreStatements 1
      (plainly
      (CallStatement
      (WithActuals (name 0 1) 1 (OneExpr (only (OneElement (Subscripted (name 8 1) 1 (number 3 1) NoExprs 1)))) NoActuals 1)))
      NoStatements)) 1) 1);
  unread = [];
  permitted = 60;
  limit = 400;
  told = told_as (codes "46") Ended 4 31 ([]) None;
}

--     _begin _integer _procedure f; _begin f := 1; _goto L _end; _procedure p(x); _integer x; _begin outchar(97);
--     outinteger(x); outchar(98) _end; p(1 + f); outchar(99); L: outchar(100) _end
abbrev pub out_of_an_evaluation : Example
out_of_an_evaluation = record {
  program = (MkProgram []
      (MkBlock 1
      (DeclareProcedure (MkHeading (Some (integer_word 1)) 1 (name 8 1) NoFormals 1 NoValues [])
      (plainly
      (OneGroup
      (MkCompound 1 (plainly (Assign (record { left = (OneName (name 8 1)); becomes = 1 }) [] (number 1 1)))
      (MoreStatements 1 (plainly (Jump 1 (alone 9 1))) NoStatements) 1)))) 1
      (MoreDeclarations
      (DeclareProcedure
      (MkHeading None 1 (name 10 1) (FormalList 1 (MkNames (name 11 1) []) 1) 1 NoValues
      (record { specifier = (ValueSpec (integer_word 1)); names = (MkNames (name 11 1) []); semicolon = 1 } ∷ []))
      (plainly
      (OneGroup
      (MkCompound 1 (plainly (CallStatement (WithActuals (name 3 1) 1 (OneExpr (number 97 1)) NoActuals 1)))
      (MoreStatements 1 (plainly (CallStatement (WithActuals (name 0 1) 1 (OneExpr (alone 11 1)) NoActuals 1)))
      (MoreStatements 1 (plainly (CallStatement (WithActuals (name 3 1) 1 (OneExpr (number 98 1)) NoActuals 1))) NoStatements))
      1)))) 1 NoDeclarations)
      (plainly
      (CallStatement
      (WithActuals (name 10 1) 1
      (OneExpr
      (sum_expr (Summed (OneTerm (OneFactor (OnePrimary (Numeral 1 1)))) Add 1 (OneFactor (OnePrimary (OneCall
      (Alone (name 8 1))))))))
      NoActuals 1)))
      (MoreStatements 1 (plainly (CallStatement (WithActuals (name 3 1) 1 (OneExpr (number 99 1)) NoActuals 1)))
      (MoreStatements 1
      (OneUnconditional
      (MkUnconditional (label_place 9 1 1 ∷ []) (CallStatement (WithActuals (name 3 1) 1 (OneExpr (number 100 1)) NoActuals 1))))
      NoStatements)) 1) 1);
  unread = [];
  permitted = 60;
  limit = 400;
  told = told_as (codes "ad") Ended 5 28 ([]) None;
}

--     _begin _integer _procedure A(k, x1, x2, x3, x4, x5); _value k;
--     _integer k, x1, x2, x3, x4, x5;
--     _begin _integer _procedure B;
--       _begin k := k - 1; B := A := A(k, B, x1, x2, x3, x4) _end;
--     _if k <= 0 _then A := x4 + x5 _else B _end;
--     outinteger(A(2, 1, -1, -1, 1, 0)) _end
abbrev pub man_or_boy : Example
man_or_boy = record {
  program = (MkProgram []
      (MkBlock 1
      (DeclareProcedure
      (MkHeading (Some (integer_word 1)) 1 (name 8 1)
      (FormalList 1
      (MkNames (name 9 1) (comma_name 1 10 1 ∷ comma_name 1 11 1 ∷ comma_name 1 12 1 ∷ comma_name 1 13 1 ∷ comma_name 1 14 1 ∷ []))
      1) 1 (ValueList 1 (MkNames (name 9 1) []) 1)
      (record {
        specifier = (ValueSpec (integer_word 2));
        names =
            (MkNames (name 9 2) (comma_name 2 10 2 ∷ comma_name 2 11 2 ∷ comma_name 2 12 2 ∷ comma_name 2 13 2
            ∷ comma_name 2 14 2 ∷ []));
        semicolon = 2;
      } ∷ []))
      (plainly
      (OneGroup
      (MkBlock 3
      (DeclareProcedure (MkHeading (Some (integer_word 3)) 3 (name 15 3) NoFormals 3 NoValues [])
      (plainly
      (OneGroup
      (MkCompound 4
      (plainly
      (Assign (record { left = (OneName (name 9 4)); becomes = 4 }) []
      (sum_expr
      (Summed (OneTerm (OneFactor (OnePrimary (OneCall (Alone (name 9 4)))))) Subtract 4 (OneFactor (OnePrimary (Numeral 1 4)))))))
      (MoreStatements 4
      (plainly
      (Assign (record { left = (OneName (name 15 4)); becomes = 4 }) (record { left = (OneName (name 8 4)); becomes = 4 } ∷ [])
      (only
      (OneCall
      (WithActuals (name 8 4) 4 (OneExpr (alone 9 4))
      (MoreActuals 4 (OneExpr (alone 15 4))
      (MoreActuals 4 (OneExpr (alone 10 4))
      (MoreActuals 4 (OneExpr (alone 11 4)) (MoreActuals 4 (OneExpr (alone 12 4)) (MoreActuals 4
      (OneExpr (alone 13 4)) NoActuals)))))
      4))))) NoStatements) 4)))) 4 NoDeclarations
      (OneConditional
      (IfElse [] 5
      (relation_expr
      (Compared (OneTerm (OneFactor (OnePrimary (OneCall (Alone (name 9 5)))))) AtMost 5
      (OneTerm (OneFactor (OnePrimary (Numeral 0 5)))))) 5
      (MkUnconditional []
      (Assign (record { left = (OneName (name 8 5)); becomes = 5 }) []
      (sum_expr
      (Summed (OneTerm (OneFactor (OnePrimary (OneCall (Alone (name 13 5)))))) Add 5
      (OneFactor (OnePrimary (OneCall (Alone (name 14 5))))))))) 5
      (plainly (CallStatement (Alone (name 15 5)))))) NoStatements 5)))) 5 NoDeclarations
      (plainly
      (CallStatement
      (WithActuals (name 0 6) 6
      (OneExpr
      (only
      (OneCall
      (WithActuals (name 8 6) 6 (OneExpr (number 2 6))
      (MoreActuals 6 (OneExpr (number 1 6))
      (MoreActuals 6 (OneExpr (sum_expr (Signed Subtract 6 (OneFactor (OnePrimary (Numeral 1 6))))))
      (MoreActuals 6 (OneExpr (sum_expr (Signed Subtract 6 (OneFactor (OnePrimary (Numeral 1 6))))))
      (MoreActuals 6 (OneExpr (number 1 6)) (MoreActuals 6 (OneExpr (number 0 6)) NoActuals))))) 6))))
      NoActuals 6))) NoStatements 6) 6);
  unread = [];
  permitted = 200;
  limit = 1000;
  told = told_as (codes "-2") Ended 15 142 ([]) None;
}
