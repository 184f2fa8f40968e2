-- Arrays, strings, switches and procedures as actuals, and calls of formal procedures (Report 4.7.5).
use Rattle.std.specs.Prelude.{[], ◌∷◌, codes, Some, None, true}
use Rattle.gier_tree.specs.Trees.{MkNames, MkPair, MkSegment, Add, Subtract, LessThan, MoreThan, OneNegation, Both, OneRelation}
use Rattle.gier_tree.specs.Trees.{Negated, OneArithmetic, Compared, OneTerm, Signed, Summed, OneFactor, OnePrimary, Numeral}
use Rattle.gier_tree.specs.Trees.{Logical, Bracketed, OneCall, OneElement, Alone, WithActuals, Subscripted, OneExpr, AString}
use Rattle.gier_tree.specs.Trees.{NoActuals, MoreActuals, NoExprs, only, NoFormals, FormalList, NoValues, ValueList, ValueSpec}
use Rattle.gier_tree.specs.Trees.{ArraySpec, LabelSpec, SwitchSpec, StringSpec, ProcedureSpec, FunctionSpec, MkHeading, OneName}
use Rattle.gier_tree.specs.Trees.{LeftElement, DeclareType, DeclareArrays, DeclareSwitch, DeclareProcedure, NoDeclarations}
use Rattle.gier_tree.specs.Trees.{MoreDeclarations, MkBlock, MkCompound, NoStatements, MoreStatements, OneUnconditional}
use Rattle.gier_tree.specs.Trees.{OneConditional, MkUnconditional, OneGroup, Assign, Jump, CallStatement, IfThen, IfElse}
use Rattle.gier_tree.specs.Trees.{MkProgram}
use Rattle.gier_word.specs.declared.alarm.Alarm.TheVariants.{Parameters}
use Rattle.gier_meaning.specs.Live.{InProgram, InBlock, InProcedure}
use Rattle.gier_meaning.specs.Outcome.{Alarmed}
use Rattle.gier_meaning.specs.Observation.{Ended, Stopped}
use Rattle.gier_meaning.specs.Example.{Example, told_as, live, stop_at, name, comma_name, byte, label_place, integer_word}
use Rattle.gier_meaning.specs.Example.{boolean_word, conjunction_expr, negation_expr, relation_expr, sum_expr, number, alone}
use Rattle.gier_meaning.specs.Example.{plainly}

--     _begin _integer _array a[1:2]; _procedure p(b, i); _value i; _integer _array b; _integer i; b[i] := b[i] + i; p(a, 2);
--     p(a, 2); outinteger(a[2]) _end
abbrev pub array_formal : Example
array_formal = record {
  program = (MkProgram []
      (MkBlock 1
      (DeclareArrays (integer_word 1) 1 (MkSegment (MkNames (name 8 1) []) 1 (MkPair (number 1 1) 1 (number 2 1)) [] 1) [])
      1
      (MoreDeclarations
      (DeclareProcedure
      (MkHeading None 1 (name 9 1) (FormalList 1 (MkNames (name 10 1) (comma_name 1 11 1 ∷ [])) 1) 1
      (ValueList 1 (MkNames (name 11 1) []) 1)
      (record { specifier = (ArraySpec (integer_word 1) 1); names = (MkNames (name 10 1) []); semicolon = 1 } ∷ record {
        specifier =
            (ValueSpec (integer_word 1));
        names = (MkNames (name 11 1) []);
        semicolon = 1;
      } ∷ []))
      (plainly
      (Assign (record { left = (LeftElement (Subscripted (name 10 1) 1 (alone 11 1) NoExprs 1)); becomes = 1 }) []
      (sum_expr
      (Summed (OneTerm (OneFactor (OnePrimary (OneElement (Subscripted (name 10 1) 1 (alone 11 1) NoExprs 1))))) Add 1
      (OneFactor (OnePrimary (OneCall (Alone (name 11 1)))))))))) 1 NoDeclarations)
      (plainly (CallStatement (WithActuals (name 9 1) 1 (OneExpr (alone 8 1)) (MoreActuals 1 (OneExpr (number 2 1)) NoActuals) 1)))
      (MoreStatements 1
      (plainly (CallStatement (WithActuals (name 9 1) 1 (OneExpr (alone 8 1)) (MoreActuals 1 (OneExpr (number 2 1)) NoActuals) 1)))
      (MoreStatements 1
      (plainly
      (CallStatement
      (WithActuals (name 0 1) 1 (OneExpr (only (OneElement (Subscripted (name 8 1) 1 (number 2 1) NoExprs 1)))) NoActuals 1)))
      NoStatements)) 1) 1);
  unread = [];
  permitted = 60;
  limit = 400;
  told = told_as (codes "4") Ended 3 28 ([]) None;
}

--     _begin _boolean _array a[1:2]; _procedure p(b); _boolean _array b; b[2] := _not b[1]; p(a); _if a[2] _then outchar(98) _end
abbrev pub boolean_array_formal : Example
boolean_array_formal = record {
  program = (MkProgram []
      (MkBlock 1
      (DeclareArrays (boolean_word 1) 1 (MkSegment (MkNames (name 8 1) []) 1 (MkPair (number 1 1) 1 (number 2 1)) [] 1) [])
      1
      (MoreDeclarations
      (DeclareProcedure
      (MkHeading None 1 (name 9 1) (FormalList 1 (MkNames (name 10 1) []) 1) 1 NoValues
      (record { specifier = (ArraySpec (boolean_word 1) 1); names = (MkNames (name 10 1) []); semicolon = 1 } ∷ []))
      (plainly
      (Assign (record { left = (LeftElement (Subscripted (name 10 1) 1 (number 2 1) NoExprs 1)); becomes = 1 }) []
      (negation_expr
      (Negated 1 (OneArithmetic (OneTerm (OneFactor (OnePrimary (OneElement (Subscripted (name 10 1) 1
      (number 1 1) NoExprs 1)))))))))))
      1 NoDeclarations) (plainly (CallStatement (WithActuals (name 9 1) 1 (OneExpr (alone 8 1)) NoActuals 1)))
      (MoreStatements 1
      (OneConditional
      (IfThen [] 1 (only (OneElement (Subscripted (name 8 1) 1 (number 2 1) NoExprs 1))) 1
      (MkUnconditional [] (CallStatement (WithActuals (name 3 1) 1 (OneExpr (number 98 1)) NoActuals 1)))))
      NoStatements) 1) 1);
  unread = [];
  permitted = 60;
  limit = 400;
  told = told_as (codes "b") Ended 2 24 ([]) None;
}

--     _begin _procedure p(t, f); _string t; _procedure f; _begin outtext(t); f _end; _procedure q; outchar(33); p({hi}, q) _end
abbrev pub string_and_procedure : Example
string_and_procedure = record {
  program = (MkProgram []
      (MkBlock 1
      (DeclareProcedure
      (MkHeading None 1 (name 8 1) (FormalList 1 (MkNames (name 9 1) (comma_name 1 10 1 ∷ [])) 1) 1 NoValues
      (record { specifier = (StringSpec 1); names = (MkNames (name 9 1) []); semicolon = 1 } ∷ record {
        specifier =
            (ProcedureSpec 1);
        names = (MkNames (name 10 1) []);
        semicolon = 1;
      } ∷ []))
      (plainly
      (OneGroup
      (MkCompound 1 (plainly (CallStatement (WithActuals (name 1 1) 1 (OneExpr (alone 9 1)) NoActuals 1)))
      (MoreStatements 1 (plainly (CallStatement (Alone (name 10 1)))) NoStatements) 1)))) 1
      (MoreDeclarations
      (DeclareProcedure (MkHeading None 1 (name 11 1) NoFormals 1 NoValues [])
      (plainly (CallStatement (WithActuals (name 3 1) 1 (OneExpr (number 33 1)) NoActuals 1)))) 1 NoDeclarations)
      (plainly
      (CallStatement
      (WithActuals (name 8 1) 1 (AString 1 (byte 104 1 ∷ byte 105 1 ∷ []) 1) (MoreActuals 1 (OneExpr (alone 11 1)) NoActuals) 1)))
      NoStatements 1) 1);
  unread = [];
  permitted = 60;
  limit = 400;
  told = told_as (codes "hi!") Ended 3 24 ([]) None;
}

--     _begin _procedure p(t); _string t; outtext(t); _procedure q(t); _string t; p(t); q({a{b}c}) _end
abbrev pub string_passed_on : Example
string_passed_on = record {
  program = (MkProgram []
      (MkBlock 1
      (DeclareProcedure
      (MkHeading None 1 (name 8 1) (FormalList 1 (MkNames (name 9 1) []) 1) 1 NoValues
      (record { specifier = (StringSpec 1); names = (MkNames (name 9 1) []); semicolon = 1 } ∷ []))
      (plainly (CallStatement (WithActuals (name 1 1) 1 (OneExpr (alone 9 1)) NoActuals 1)))) 1
      (MoreDeclarations
      (DeclareProcedure
      (MkHeading None 1 (name 10 1) (FormalList 1 (MkNames (name 9 1) []) 1) 1 NoValues
      (record { specifier = (StringSpec 1); names = (MkNames (name 9 1) []); semicolon = 1 } ∷ []))
      (plainly (CallStatement (WithActuals (name 8 1) 1 (OneExpr (alone 9 1)) NoActuals 1)))) 1 NoDeclarations)
      (plainly
      (CallStatement
      (WithActuals (name 10 1) 1 (AString 1 (byte 97 1 ∷ byte 123 1 ∷ byte 98 1 ∷ byte 125 1 ∷ byte 99 1 ∷ []) 1) NoActuals 1)))
      NoStatements 1) 1);
  unread = [];
  permitted = 60;
  limit = 400;
  told = told_as (codes "a{b}c") Ended 3 24 ([]) None;
}

--     _begin _procedure ap(f, n); _value n; _integer n; _procedure f; f(n, n + 1); _procedure show(a, b); _value a; _integer a,
--     b; _begin outinteger(a); outinteger(b) _end; ap(show, 4) _end
abbrev pub agrees : Example
agrees = record {
  program = (MkProgram []
      (MkBlock 1
      (DeclareProcedure
      (MkHeading None 1 (name 8 1) (FormalList 1 (MkNames (name 9 1) (comma_name 1 10 1 ∷ [])) 1) 1
      (ValueList 1 (MkNames (name 10 1) []) 1)
      (record { specifier = (ValueSpec (integer_word 1)); names = (MkNames (name 10 1) []); semicolon = 1 } ∷ record {
        specifier =
            (ProcedureSpec 1);
        names = (MkNames (name 9 1) []);
        semicolon = 1;
      } ∷ []))
      (plainly
      (CallStatement
      (WithActuals (name 9 1) 1 (OneExpr (alone 10 1))
      (MoreActuals 1
      (OneExpr
      (sum_expr (Summed (OneTerm (OneFactor (OnePrimary (OneCall (Alone (name 10 1)))))) Add 1 (OneFactor
      (OnePrimary (Numeral 1 1))))))
      NoActuals) 1)))) 1
      (MoreDeclarations
      (DeclareProcedure
      (MkHeading None 1 (name 11 1) (FormalList 1 (MkNames (name 12 1) (comma_name 1 13 1 ∷ [])) 1) 1
      (ValueList 1 (MkNames (name 12 1) []) 1)
      (record { specifier = (ValueSpec (integer_word 1)); names = (MkNames (name 12 1) (comma_name 1 13 1 ∷ [])); semicolon = 1 } ∷
      []))
      (plainly
      (OneGroup
      (MkCompound 1 (plainly (CallStatement (WithActuals (name 0 1) 1 (OneExpr (alone 12 1)) NoActuals 1)))
      (MoreStatements 1 (plainly (CallStatement (WithActuals (name 0 1) 1 (OneExpr (alone 13 1)) NoActuals 1))) NoStatements)
      1)))) 1 NoDeclarations)
      (plainly (CallStatement (WithActuals (name 8 1) 1 (OneExpr (alone 11 1)) (MoreActuals 1 (OneExpr (number 4 1)) NoActuals) 1)))
      NoStatements 1) 1);
  unread = [];
  permitted = 60;
  limit = 400;
  told = told_as (codes "45") Ended 5 38 ([]) None;
}

--     _begin _procedure ap(f, n); _value n; _integer n; _procedure f;
--     f(n); _procedure show(a, b); _value a; _integer a, b; _begin outinteger(a); outinteger(b) _end;
--     ap(show, 4) _end
abbrev pub too_few : Example
too_few = record {
  program = (MkProgram []
      (MkBlock 1
      (DeclareProcedure
      (MkHeading None 1 (name 8 1) (FormalList 1 (MkNames (name 9 1) (comma_name 1 10 1 ∷ [])) 1) 1
      (ValueList 1 (MkNames (name 10 1) []) 1)
      (record { specifier = (ValueSpec (integer_word 1)); names = (MkNames (name 10 1) []); semicolon = 1 } ∷ record {
        specifier =
            (ProcedureSpec 1);
        names = (MkNames (name 9 1) []);
        semicolon = 1;
      } ∷ []))
      (plainly (CallStatement (WithActuals (name 9 2) 2 (OneExpr (alone 10 2)) NoActuals 2)))) 2
      (MoreDeclarations
      (DeclareProcedure
      (MkHeading None 2 (name 11 2) (FormalList 2 (MkNames (name 12 2) (comma_name 2 13 2 ∷ [])) 2) 2
      (ValueList 2 (MkNames (name 12 2) []) 2)
      (record { specifier = (ValueSpec (integer_word 2)); names = (MkNames (name 12 2) (comma_name 2 13 2 ∷ [])); semicolon = 2 } ∷
      []))
      (plainly
      (OneGroup
      (MkCompound 2 (plainly (CallStatement (WithActuals (name 0 2) 2 (OneExpr (alone 12 2)) NoActuals 2)))
      (MoreStatements 2 (plainly (CallStatement (WithActuals (name 0 2) 2 (OneExpr (alone 13 2)) NoActuals 2))) NoStatements)
      2)))) 2 NoDeclarations)
      (plainly (CallStatement (WithActuals (name 8 3) 3 (OneExpr (alone 11 3)) (MoreActuals 3 (OneExpr (number 4 3)) NoActuals) 3)))
      NoStatements 3) 3);
  unread = [];
  permitted = 60;
  limit = 400;
  told = told_as ([]) (Stopped (Alarmed Parameters)) 2 21 ([])
      (stop_at (live (InProcedure 3) 11 ∷ live InBlock 7 ∷ live InProgram 3 ∷ []) 2);
}

--     _begin _procedure ap(f); _procedure f;
--     f; _procedure show(a); _value a; _integer a; outinteger(a); ap(show) _end
abbrev pub none : Example
none = record {
  program = (MkProgram []
      (MkBlock 1
      (DeclareProcedure
      (MkHeading None 1 (name 8 1) (FormalList 1 (MkNames (name 9 1) []) 1) 1 NoValues
      (record { specifier = (ProcedureSpec 1); names = (MkNames (name 9 1) []); semicolon = 1 } ∷ []))
      (plainly (CallStatement (Alone (name 9 2))))) 2
      (MoreDeclarations
      (DeclareProcedure
      (MkHeading None 2 (name 10 2) (FormalList 2 (MkNames (name 11 2) []) 2) 2 (ValueList 2 (MkNames (name 11 2) []) 2)
      (record { specifier = (ValueSpec (integer_word 2)); names = (MkNames (name 11 2) []); semicolon = 2 } ∷ []))
      (plainly (CallStatement (WithActuals (name 0 2) 2 (OneExpr (alone 11 2)) NoActuals 2)))) 2 NoDeclarations)
      (plainly (CallStatement (WithActuals (name 8 2) 2 (OneExpr (alone 10 2)) NoActuals 2))) NoStatements 2) 2);
  unread = [];
  permitted = 60;
  limit = 400;
  told = told_as ([]) (Stopped (Alarmed Parameters)) 2 15 ([])
      (stop_at (live (InProcedure 2) 7 ∷ live InBlock 5 ∷ live InProgram 3 ∷ []) 2);
}

--     _begin _procedure ap(f); _procedure f; f(1, _true); _procedure show(a, b); _value a; _integer a, b; outinteger(a);
--     outchar(97); ap(show) _end
abbrev pub another_kind : Example
another_kind = record {
  program = (MkProgram []
      (MkBlock 1
      (DeclareProcedure
      (MkHeading None 1 (name 8 1) (FormalList 1 (MkNames (name 9 1) []) 1) 1 NoValues
      (record { specifier = (ProcedureSpec 1); names = (MkNames (name 9 1) []); semicolon = 1 } ∷ []))
      (plainly
      (CallStatement (WithActuals (name 9 1) 1 (OneExpr (number 1 1))
      (MoreActuals 1 (OneExpr (only (Logical true 1))) NoActuals) 1))))
      1
      (MoreDeclarations
      (DeclareProcedure
      (MkHeading None 1 (name 10 1) (FormalList 1 (MkNames (name 11 1) (comma_name 1 12 1 ∷ [])) 1) 1
      (ValueList 1 (MkNames (name 11 1) []) 1)
      (record { specifier = (ValueSpec (integer_word 1)); names = (MkNames (name 11 1) (comma_name 1 12 1 ∷ [])); semicolon = 1 } ∷
      [])) (plainly (CallStatement (WithActuals (name 0 1) 1 (OneExpr (alone 11 1)) NoActuals 1)))) 1 NoDeclarations)
      (plainly (CallStatement (WithActuals (name 3 1) 1 (OneExpr (number 97 1)) NoActuals 1)))
      (MoreStatements 1 (plainly (CallStatement (WithActuals (name 8 1) 1 (OneExpr (alone 10 1)) NoActuals 1))) NoStatements)
      1) 1);
  unread = [];
  permitted = 60;
  limit = 400;
  told = told_as (codes "a") (Stopped (Alarmed Parameters)) 2 19 ([])
      (stop_at (live (InProcedure 1) 11 ∷ live InBlock 5 ∷ live InProgram 3 ∷ []) 1);
}

--     _begin _integer _procedure g; g := 4; _procedure ap(f); _procedure f; _begin f((g)); f(g) _end; _procedure show(a);
--     _integer a; outinteger(a); ap(show) _end
abbrev pub function_is_no_expression : Example
function_is_no_expression = record {
  program = (MkProgram []
      (MkBlock 1
      (DeclareProcedure (MkHeading (Some (integer_word 1)) 1 (name 8 1) NoFormals 1 NoValues [])
      (plainly (Assign (record { left = (OneName (name 8 1)); becomes = 1 }) [] (number 4 1)))) 1
      (MoreDeclarations
      (DeclareProcedure
      (MkHeading None 1 (name 9 1) (FormalList 1 (MkNames (name 10 1) []) 1) 1 NoValues
      (record { specifier = (ProcedureSpec 1); names = (MkNames (name 10 1) []); semicolon = 1 } ∷ []))
      (plainly
      (OneGroup
      (MkCompound 1 (plainly (CallStatement (WithActuals (name 10 1) 1 (OneExpr (only (Bracketed 1 (alone 8 1) 1))) NoActuals 1)))
      (MoreStatements 1 (plainly (CallStatement (WithActuals (name 10 1) 1 (OneExpr (alone 8 1)) NoActuals 1))) NoStatements)
      1)))) 1
      (MoreDeclarations
      (DeclareProcedure
      (MkHeading None 1 (name 11 1) (FormalList 1 (MkNames (name 12 1) []) 1) 1 NoValues
      (record { specifier = (ValueSpec (integer_word 1)); names = (MkNames (name 12 1) []); semicolon = 1 } ∷ []))
      (plainly (CallStatement (WithActuals (name 0 1) 1 (OneExpr (alone 12 1)) NoActuals 1)))) 1 NoDeclarations))
      (plainly (CallStatement (WithActuals (name 9 1) 1 (OneExpr (alone 11 1)) NoActuals 1))) NoStatements 1) 1);
  unread = [];
  permitted = 60;
  limit = 400;
  told = told_as (codes "4") (Stopped (Alarmed Parameters)) 5 36 ([])
      (stop_at (live (InProcedure 1) 9 ∷ live InBlock 5 ∷ live InProgram 3 ∷ []) 1);
}

--     _begin _integer _array a[1:1]; _boolean _array b[1:1]; _switch s := L; _integer _procedure g; g := 8; _boolean _procedure
--     h; h := _true; _procedure o; outchar(111);
--     _procedure q(i, j, k, l, m, x, y, t, c, d, e, r); _value i, k; _integer i, j; _boolean k, l; _label m; _integer _array x;
--     _boolean _array y; _switch t; _string c; _procedure d; _integer _procedure e; _boolean _procedure r;
--     _begin outinteger(i); outinteger(j); x[1] := 5; y[1] := k _and l; outtext(c); d; outinteger(e); _if r _then _goto t[1];
--     _goto m _end;
--     _procedure ap(f); _procedure f; f(1, a[1], _true, b[1], M, a, b, s, {st}, o, g, h);
--     ap(q); M: outchar(109); L: outinteger(a[1]); _if b[1] _then outchar(98) _end
abbrev pub all_kinds : Example
all_kinds = record {
  program = (MkProgram []
      (MkBlock 1
      (DeclareArrays (integer_word 1) 1 (MkSegment (MkNames (name 8 1) []) 1 (MkPair (number 1 1) 1 (number 1 1)) [] 1) [])
      1
      (MoreDeclarations
      (DeclareArrays (boolean_word 1) 1 (MkSegment (MkNames (name 9 1) []) 1 (MkPair (number 1 1) 1 (number 1 1)) [] 1) [])
      1
      (MoreDeclarations (DeclareSwitch 1 (name 10 1) 1 (alone 11 1) NoExprs) 1
      (MoreDeclarations
      (DeclareProcedure (MkHeading (Some (integer_word 1)) 1 (name 12 1) NoFormals 1 NoValues [])
      (plainly (Assign (record { left = (OneName (name 12 1)); becomes = 1 }) [] (number 8 1)))) 1
      (MoreDeclarations
      (DeclareProcedure (MkHeading (Some (boolean_word 1)) 1 (name 13 1) NoFormals 1 NoValues [])
      (plainly (Assign (record { left = (OneName (name 13 1)); becomes = 1 }) [] (only (Logical true 1))))) 1
      (MoreDeclarations
      (DeclareProcedure (MkHeading None 1 (name 14 1) NoFormals 1 NoValues [])
      (plainly (CallStatement (WithActuals (name 3 1) 1 (OneExpr (number 111 1)) NoActuals 1)))) 1
      (MoreDeclarations
      (DeclareProcedure
      (MkHeading None 2 (name 15 2)
      (FormalList 2
      (MkNames (name 16 2)
      (comma_name 2 17 2 ∷ comma_name 2 18 2 ∷ comma_name 2 19 2 ∷ comma_name 2 20 2 ∷ comma_name 2 21 2 ∷ comma_name 2 22 2 ∷
      comma_name 2 23 2 ∷ comma_name 2 24 2 ∷ comma_name 2 25 2 ∷ comma_name 2 26 2 ∷ comma_name 2 27
      2 ∷ [])) 2) 2 (ValueList 2 (MkNames (name 16 2) (comma_name 2 18 2 ∷ [])) 2)
      (record { specifier = (ValueSpec (integer_word 2)); names = (MkNames (name 16 2) (comma_name 2 17 2 ∷ [])); semicolon = 2 } ∷
      record {
        specifier = (ValueSpec (boolean_word 2));
        names =
            (MkNames (name 18 2) (comma_name 2 19 2 ∷ []));
        semicolon = 2;
      } ∷ record {
        specifier =
            (LabelSpec 2);
        names = (MkNames (name 20 2) []);
        semicolon = 2;
      } ∷ record {
        specifier =
            (ArraySpec (integer_word 2) 2);
        names = (MkNames (name 21 2) []);
        semicolon = 2;
      } ∷ record {
        specifier = (ArraySpec (boolean_word 2) 2);
        names = (MkNames (name 22 2) []);
        semicolon = 2;
      } ∷
      record { specifier = (SwitchSpec 2); names = (MkNames (name 23 2) []); semicolon = 2 } ∷ record {
        specifier = (StringSpec 2);
        names = (MkNames (name 24 2) []);
        semicolon = 2;
      } ∷ record {
        specifier
            = (ProcedureSpec 2);
        names = (MkNames (name 25 2) []);
        semicolon = 2;
      } ∷ record {
        specifier =
            (FunctionSpec (integer_word 2) 2);
        names = (MkNames (name 26 2) []);
        semicolon = 2;
      } ∷ record {
        specifier = (FunctionSpec (boolean_word 2) 2);
        names = (MkNames (name 27 2) []);
        semicolon = 2;
      } ∷
      []))
      (plainly
      (OneGroup
      (MkCompound 3 (plainly (CallStatement (WithActuals (name 0 3) 3 (OneExpr (alone 16 3)) NoActuals 3)))
      (MoreStatements 3 (plainly (CallStatement (WithActuals (name 0 3) 3 (OneExpr (alone 17 3)) NoActuals 3)))
      (MoreStatements 3
      (plainly
      (Assign (record { left = (LeftElement (Subscripted (name 21 3) 3 (number 1 3) NoExprs 3)); becomes = 3 }) [] (number 5 3)))
      (MoreStatements 3
      (plainly
      (Assign (record { left = (LeftElement (Subscripted (name 22 3) 3 (number 1 3) NoExprs 3)); becomes = 3 }) []
      (conjunction_expr
      (Both (OneNegation (OneRelation (OneArithmetic (OneTerm (OneFactor (OnePrimary (OneCall (Alone (name 18 3))))))))) 3
      (OneRelation (OneArithmetic (OneTerm (OneFactor (OnePrimary (OneCall (Alone (name 19 3))))))))))))
      (MoreStatements 3 (plainly (CallStatement (WithActuals (name 1 3) 3 (OneExpr (alone 24 3)) NoActuals 3)))
      (MoreStatements 3 (plainly (CallStatement (Alone (name 25 3))))
      (MoreStatements 3 (plainly (CallStatement (WithActuals (name 0 3) 3 (OneExpr (alone 26 3)) NoActuals 3)))
      (MoreStatements 3
      (OneConditional
      (IfThen [] 3 (alone 27 3) 3 (MkUnconditional [] (Jump 3 (only (OneElement (Subscripted (name 23 3) 3
      (number 1 3) NoExprs 3)))))))
      (MoreStatements 3 (plainly (Jump 3 (alone 20 3))) NoStatements)))))))) 3)))) 3
      (MoreDeclarations
      (DeclareProcedure
      (MkHeading None 4 (name 28 4) (FormalList 4 (MkNames (name 29 4) []) 4) 4 NoValues
      (record { specifier = (ProcedureSpec 4); names = (MkNames (name 29 4) []); semicolon = 4 } ∷ []))
      (plainly
      (CallStatement
      (WithActuals (name 29 4) 4 (OneExpr (number 1 4))
      (MoreActuals 4 (OneExpr (only (OneElement (Subscripted (name 8 4) 4 (number 1 4) NoExprs 4))))
      (MoreActuals 4 (OneExpr (only (Logical true 4)))
      (MoreActuals 4 (OneExpr (only (OneElement (Subscripted (name 9 4) 4 (number 1 4) NoExprs 4))))
      (MoreActuals 4 (OneExpr (alone 30 4))
      (MoreActuals 4 (OneExpr (alone 8 4))
      (MoreActuals 4 (OneExpr (alone 9 4))
      (MoreActuals 4 (OneExpr (alone 10 4))
      (MoreActuals 4 (AString 4 (byte 115 4 ∷ byte 116 4 ∷ []) 4)
      (MoreActuals 4 (OneExpr (alone 14 4)) (MoreActuals 4 (OneExpr (alone 12 4)) (MoreActuals 4
      (OneExpr (alone 13 4)) NoActuals)))))))))))
      4)))) 4 NoDeclarations)))))))
      (plainly (CallStatement (WithActuals (name 28 5) 5 (OneExpr (alone 15 5)) NoActuals 5)))
      (MoreStatements 5
      (OneUnconditional
      (MkUnconditional (label_place 30 5 5 ∷ []) (CallStatement (WithActuals (name 3 5) 5 (OneExpr (number 109 5)) NoActuals 5))))
      (MoreStatements 5
      (OneUnconditional
      (MkUnconditional (label_place 11 5 5 ∷ [])
      (CallStatement
      (WithActuals (name 0 5) 5 (OneExpr (only (OneElement (Subscripted (name 8 5) 5 (number 1 5) NoExprs 5)))) NoActuals 5))))
      (MoreStatements 5
      (OneConditional
      (IfThen [] 5 (only (OneElement (Subscripted (name 9 5) 5 (number 1 5) NoExprs 5))) 5
      (MkUnconditional [] (CallStatement (WithActuals (name 3 5) 5 (OneExpr (number 98 5)) NoActuals 5)))))
      NoStatements))) 5) 5);
  unread = [];
  permitted = 60;
  limit = 600;
  told = told_as (codes "10sto85") Ended 12 87 ([]) None;
}

--     _begin _integer _procedure twice(f, x); _value x; _integer x; _integer _procedure f; twice := f(f(x)); _integer
--     _procedure inc(x); _value x; _integer x; inc := x + 1; outinteger(twice(inc, 3)) _end
abbrev pub formal_function : Example
formal_function = record {
  program = (MkProgram []
      (MkBlock 1
      (DeclareProcedure
      (MkHeading (Some (integer_word 1)) 1 (name 8 1) (FormalList 1 (MkNames (name 9 1) (comma_name 1 10 1 ∷ [])) 1) 1
      (ValueList 1 (MkNames (name 10 1) []) 1)
      (record { specifier = (ValueSpec (integer_word 1)); names = (MkNames (name 10 1) []); semicolon = 1 } ∷ record {
        specifier =
            (FunctionSpec (integer_word 1) 1);
        names = (MkNames (name 9 1) []);
        semicolon = 1;
      } ∷ []))
      (plainly
      (Assign (record { left = (OneName (name 8 1)); becomes = 1 }) []
      (only
      (OneCall
      (WithActuals (name 9 1) 1
      (OneExpr (only (OneCall (WithActuals (name 9 1) 1 (OneExpr (alone 10 1)) NoActuals 1)))) NoActuals 1))))))
      1
      (MoreDeclarations
      (DeclareProcedure
      (MkHeading (Some (integer_word 1)) 1 (name 11 1) (FormalList 1 (MkNames (name 10 1) []) 1) 1
      (ValueList 1 (MkNames (name 10 1) []) 1)
      (record { specifier = (ValueSpec (integer_word 1)); names = (MkNames (name 10 1) []); semicolon = 1 } ∷ []))
      (plainly
      (Assign (record { left = (OneName (name 11 1)); becomes = 1 }) []
      (sum_expr (Summed (OneTerm (OneFactor (OnePrimary (OneCall (Alone (name 10 1)))))) Add 1 (OneFactor (OnePrimary
      (Numeral 1 1))))))))
      1 NoDeclarations)
      (plainly
      (CallStatement
      (WithActuals (name 0 1) 1
      (OneExpr (only (OneCall (WithActuals (name 8 1) 1 (OneExpr (alone 11 1))
      (MoreActuals 1 (OneExpr (number 3 1)) NoActuals) 1))))
      NoActuals 1))) NoStatements 1) 1);
  unread = [];
  permitted = 60;
  limit = 400;
  told = told_as (codes "5") Ended 6 40 ([]) None;
}

--     _begin _procedure r(f, n); _value n; _integer n; _procedure f; _if n > 0 _then r(f, n - 1) _else f(n); _procedure
--     show(a); _integer a; outinteger(a + 7); r(show, 1) _end
abbrev pub formal_passed_on : Example
formal_passed_on = record {
  program = (MkProgram []
      (MkBlock 1
      (DeclareProcedure
      (MkHeading None 1 (name 8 1) (FormalList 1 (MkNames (name 9 1) (comma_name 1 10 1 ∷ [])) 1) 1
      (ValueList 1 (MkNames (name 10 1) []) 1)
      (record { specifier = (ValueSpec (integer_word 1)); names = (MkNames (name 10 1) []); semicolon = 1 } ∷ record {
        specifier =
            (ProcedureSpec 1);
        names = (MkNames (name 9 1) []);
        semicolon = 1;
      } ∷ []))
      (OneConditional
      (IfElse [] 1
      (relation_expr
      (Compared (OneTerm (OneFactor (OnePrimary (OneCall (Alone (name 10 1)))))) MoreThan 1
      (OneTerm (OneFactor (OnePrimary (Numeral 0 1)))))) 1
      (MkUnconditional []
      (CallStatement
      (WithActuals (name 8 1) 1 (OneExpr (alone 9 1))
      (MoreActuals 1
      (OneExpr
      (sum_expr
      (Summed (OneTerm (OneFactor (OnePrimary (OneCall (Alone (name 10 1)))))) Subtract 1 (OneFactor (OnePrimary (Numeral 1 1))))))
      NoActuals) 1))) 1
      (plainly (CallStatement (WithActuals (name 9 1) 1 (OneExpr (alone 10 1)) NoActuals 1)))))) 1
      (MoreDeclarations
      (DeclareProcedure
      (MkHeading None 1 (name 11 1) (FormalList 1 (MkNames (name 12 1) []) 1) 1 NoValues
      (record { specifier = (ValueSpec (integer_word 1)); names = (MkNames (name 12 1) []); semicolon = 1 } ∷ []))
      (plainly
      (CallStatement
      (WithActuals (name 0 1) 1
      (OneExpr
      (sum_expr (Summed (OneTerm (OneFactor (OnePrimary (OneCall (Alone (name 12 1)))))) Add 1 (OneFactor
      (OnePrimary (Numeral 7 1))))))
      NoActuals 1)))) 1 NoDeclarations)
      (plainly (CallStatement (WithActuals (name 8 1) 1 (OneExpr (alone 11 1)) (MoreActuals 1 (OneExpr (number 1 1)) NoActuals) 1)))
      NoStatements 1) 1);
  unread = [];
  permitted = 60;
  limit = 400;
  told = told_as (codes "7") Ended 5 49 ([]) None;
}

--     _begin _integer n; _procedure p(f); _procedure f; _begin _integer k; _procedure g; outinteger(k); k := 9 + n; n := n + 1;
--     _if n < 2 _then p(g) _else f _end; _procedure z; outchar(122); p(z) _end
abbrev pub remembers_its_activation : Example
remembers_its_activation = record {
  program = (MkProgram []
      (MkBlock 1 (DeclareType (integer_word 1) (MkNames (name 8 1) [])) 1
      (MoreDeclarations
      (DeclareProcedure
      (MkHeading None 1 (name 9 1) (FormalList 1 (MkNames (name 10 1) []) 1) 1 NoValues
      (record { specifier = (ProcedureSpec 1); names = (MkNames (name 10 1) []); semicolon = 1 } ∷ []))
      (plainly
      (OneGroup
      (MkBlock 1 (DeclareType (integer_word 1) (MkNames (name 11 1) [])) 1
      (MoreDeclarations
      (DeclareProcedure (MkHeading None 1 (name 12 1) NoFormals 1 NoValues [])
      (plainly (CallStatement (WithActuals (name 0 1) 1 (OneExpr (alone 11 1)) NoActuals 1)))) 1
      NoDeclarations)
      (plainly
      (Assign (record { left = (OneName (name 11 1)); becomes = 1 }) []
      (sum_expr (Summed (OneTerm (OneFactor (OnePrimary (Numeral 9 1)))) Add 1 (OneFactor (OnePrimary (OneCall
      (Alone (name 8 1)))))))))
      (MoreStatements 1
      (plainly
      (Assign (record { left = (OneName (name 8 1)); becomes = 1 }) []
      (sum_expr (Summed (OneTerm (OneFactor (OnePrimary (OneCall (Alone (name 8 1)))))) Add 1 (OneFactor
      (OnePrimary (Numeral 1 1)))))))
      (MoreStatements 1
      (OneConditional
      (IfElse [] 1
      (relation_expr
      (Compared (OneTerm (OneFactor (OnePrimary (OneCall (Alone (name 8 1)))))) LessThan 1
      (OneTerm (OneFactor (OnePrimary (Numeral 2 1)))))) 1
      (MkUnconditional [] (CallStatement (WithActuals (name 9 1) 1 (OneExpr (alone 12 1)) NoActuals 1))) 1
      (plainly (CallStatement (Alone (name 10 1)))))) NoStatements)) 1)))) 1
      (MoreDeclarations
      (DeclareProcedure (MkHeading None 1 (name 13 1) NoFormals 1 NoValues [])
      (plainly (CallStatement (WithActuals (name 3 1) 1 (OneExpr (number 122 1)) NoActuals 1)))) 1 NoDeclarations))
      (plainly (CallStatement (WithActuals (name 9 1) 1 (OneExpr (alone 13 1)) NoActuals 1))) NoStatements 1) 1);
  unread = [];
  permitted = 60;
  limit = 400;
  told = told_as (codes "9") Ended 6 40 ([]) None;
}

--     _begin _integer c; _integer _procedure n; _begin c := c + 1; n := c _end; _procedure show(a, b, d); _value d, a; _integer
--     a, b, d; _begin outinteger(a); outinteger(d); outinteger(b) _end; _procedure ap(f); _procedure f; f(n + 0, n + 0, n + 0);
--     ap(show) _end
abbrev pub value_through_a_formal : Example
value_through_a_formal = record {
  program = (MkProgram []
      (MkBlock 1 (DeclareType (integer_word 1) (MkNames (name 8 1) [])) 1
      (MoreDeclarations
      (DeclareProcedure (MkHeading (Some (integer_word 1)) 1 (name 9 1) NoFormals 1 NoValues [])
      (plainly
      (OneGroup
      (MkCompound 1
      (plainly
      (Assign (record { left = (OneName (name 8 1)); becomes = 1 }) []
      (sum_expr (Summed (OneTerm (OneFactor (OnePrimary (OneCall (Alone (name 8 1)))))) Add 1 (OneFactor
      (OnePrimary (Numeral 1 1)))))))
      (MoreStatements 1 (plainly (Assign (record { left = (OneName (name 9 1)); becomes = 1 }) [] (alone 8 1))) NoStatements)
      1)))) 1
      (MoreDeclarations
      (DeclareProcedure
      (MkHeading None 1 (name 10 1) (FormalList 1 (MkNames (name 11 1) (comma_name 1 12 1 ∷ comma_name 1 13 1 ∷ [])) 1) 1
      (ValueList 1 (MkNames (name 13 1) (comma_name 1 11 1 ∷ [])) 1)
      (record {
        specifier = (ValueSpec (integer_word 1));
        names = (MkNames (name 11 1) (comma_name 1 12 1 ∷ comma_name 1 13 1 ∷ []));
        semicolon = 1;
      } ∷ []))
      (plainly
      (OneGroup
      (MkCompound 1 (plainly (CallStatement (WithActuals (name 0 1) 1 (OneExpr (alone 11 1)) NoActuals 1)))
      (MoreStatements 1 (plainly (CallStatement (WithActuals (name 0 1) 1 (OneExpr (alone 13 1)) NoActuals 1)))
      (MoreStatements 1 (plainly (CallStatement (WithActuals (name 0 1) 1 (OneExpr (alone 12 1)) NoActuals 1))) NoStatements))
      1)))) 1
      (MoreDeclarations
      (DeclareProcedure
      (MkHeading None 1 (name 14 1) (FormalList 1 (MkNames (name 15 1) []) 1) 1 NoValues
      (record { specifier = (ProcedureSpec 1); names = (MkNames (name 15 1) []); semicolon = 1 } ∷ []))
      (plainly
      (CallStatement
      (WithActuals (name 15 1) 1
      (OneExpr
      (sum_expr (Summed (OneTerm (OneFactor (OnePrimary (OneCall (Alone (name 9 1)))))) Add 1 (OneFactor
      (OnePrimary (Numeral 0 1))))))
      (MoreActuals 1
      (OneExpr
      (sum_expr (Summed (OneTerm (OneFactor (OnePrimary (OneCall (Alone (name 9 1)))))) Add 1 (OneFactor
      (OnePrimary (Numeral 0 1))))))
      (MoreActuals 1
      (OneExpr
      (sum_expr (Summed (OneTerm (OneFactor (OnePrimary (OneCall (Alone (name 9 1)))))) Add 1 (OneFactor
      (OnePrimary (Numeral 0 1))))))
      NoActuals)) 1)))) 1 NoDeclarations)))
      (plainly (CallStatement (WithActuals (name 14 1) 1 (OneExpr (alone 10 1)) NoActuals 1))) NoStatements 1) 1);
  unread = [];
  permitted = 60;
  limit = 400;
  told = told_as (codes "123") Ended 9 47 ([]) None;
}

--     _begin _procedure ap(f); _procedure f; f(inchar, abs(-2)); _procedure show(a, b); _value a, b; _integer a, b;
--     outinteger(a + b); ap(show) _end
abbrev pub standard_as_expression : Example
standard_as_expression = record {
  program = (MkProgram []
      (MkBlock 1
      (DeclareProcedure
      (MkHeading None 1 (name 8 1) (FormalList 1 (MkNames (name 9 1) []) 1) 1 NoValues
      (record { specifier = (ProcedureSpec 1); names = (MkNames (name 9 1) []); semicolon = 1 } ∷ []))
      (plainly
      (CallStatement
      (WithActuals (name 9 1) 1 (OneExpr (alone 5 1))
      (MoreActuals 1
      (OneExpr
      (only
      (OneCall (WithActuals (name 6 1) 1
      (OneExpr (sum_expr (Signed Subtract 1 (OneFactor (OnePrimary (Numeral 2 1)))))) NoActuals 1))))
      NoActuals) 1)))) 1
      (MoreDeclarations
      (DeclareProcedure
      (MkHeading None 1 (name 10 1) (FormalList 1 (MkNames (name 11 1) (comma_name 1 12 1 ∷ [])) 1) 1
      (ValueList 1 (MkNames (name 11 1) (comma_name 1 12 1 ∷ [])) 1)
      (record { specifier = (ValueSpec (integer_word 1)); names = (MkNames (name 11 1) (comma_name 1 12 1 ∷ [])); semicolon = 1 } ∷
      []))
      (plainly
      (CallStatement
      (WithActuals (name 0 1) 1
      (OneExpr
      (sum_expr
      (Summed (OneTerm (OneFactor (OnePrimary (OneCall (Alone (name 11 1)))))) Add 1
      (OneFactor (OnePrimary (OneCall (Alone (name 12 1)))))))) NoActuals 1)))) 1 NoDeclarations)
      (plainly (CallStatement (WithActuals (name 8 1) 1 (OneExpr (alone 10 1)) NoActuals 1))) NoStatements 1) 1);
  unread = codes "A";
  permitted = 60;
  limit = 400;
  told = told_as (codes "67") Ended 5 29 ([]) None;
}
