-- For statements (Report 4.6).
use Rattle.std.specs.Prelude.{[], ◌∷◌, codes, Some, None, false}
use Rattle.gier_tree.specs.Trees.{MkNames, MkPair, MkSegment, Add, Subtract, Multiply, LessThan, EqualTo, Compared, OneTerm}
use Rattle.gier_tree.specs.Trees.{Signed, Summed, OneFactor, Multiplied, OnePrimary, Numeral, Logical, OneCall, OneElement, Alone}
use Rattle.gier_tree.specs.Trees.{WithActuals, Subscripted, OneExpr, NoActuals, NoExprs, only, NoFormals, FormalList, NoValues}
use Rattle.gier_tree.specs.Trees.{ValueSpec, LabelSpec, MkHeading, OneName, OneValue, StepUntil, WhileTrue, DeclareType}
use Rattle.gier_tree.specs.Trees.{DeclareArrays, DeclareProcedure, NoDeclarations, MoreDeclarations, MkBlock, MkCompound}
use Rattle.gier_tree.specs.Trees.{NoStatements, MoreStatements, OneUnconditional, OneConditional, OneLoop, MkUnconditional}
use Rattle.gier_tree.specs.Trees.{OneGroup, Assign, Jump, CallStatement, Dummy, IfThen, MkLoop, MkProgram}
use Rattle.gier_word.specs.declared.alarm.Alarm.TheVariants.{Spill}
use Rattle.gier_meaning.specs.Live.{InProgram, InBlock}
use Rattle.gier_meaning.specs.Outcome.{Alarmed, NoStepLeft}
use Rattle.gier_meaning.specs.Observation.{Ended, Stopped}
use Rattle.gier_meaning.specs.Example.{Example, told_as, live, stop_at, name, comma_name, label_place, integer_word}
use Rattle.gier_meaning.specs.Example.{relation_expr, sum_expr, number, alone, plainly}

--     _begin _integer i, s; _for i := 1 _step 1 _until 3, 20, i + 1 _while i < 23 _do s := s + i; outinteger(s); outinteger(i) _end
abbrev pub three_elements : Example
three_elements = record {
  program = (MkProgram []
      (MkBlock 1 (DeclareType (integer_word 1) (MkNames (name 8 1) (comma_name 1 9 1 ∷ []))) 1 NoDeclarations
      (OneLoop
      (MkLoop [] 1 (name 8 1) 1 (StepUntil (number 1 1) 1 (number 1 1) 1 (number 3 1))
      (record { comma = 1; turns = (OneValue (number 20 1)) } ∷ record {
        comma = 1;
        turns =
            (WhileTrue
            (sum_expr (Summed (OneTerm (OneFactor (OnePrimary (OneCall (Alone (name 8 1)))))) Add 1 (OneFactor
            (OnePrimary (Numeral 1 1)))))
            1
            (relation_expr
            (Compared (OneTerm (OneFactor (OnePrimary (OneCall (Alone (name 8 1)))))) LessThan 1
            (OneTerm (OneFactor (OnePrimary (Numeral 23 1)))))));
      } ∷ []) 1
      (plainly
      (Assign (record { left = (OneName (name 9 1)); becomes = 1 }) []
      (sum_expr
      (Summed (OneTerm (OneFactor (OnePrimary (OneCall (Alone (name 9 1)))))) Add 1
      (OneFactor (OnePrimary (OneCall (Alone (name 8 1)))))))))))
      (MoreStatements 1 (plainly (CallStatement (WithActuals (name 0 1) 1 (OneExpr (alone 9 1)) NoActuals 1)))
      (MoreStatements 1 (plainly (CallStatement (WithActuals (name 0 1) 1 (OneExpr (alone 8 1)) NoActuals 1))) NoStatements))
      1) 1);
  unread = [];
  permitted = 60;
  limit = 400;
  told = told_as (codes "6923") Ended 7 11 ([]) None;
}

--     _begin _integer i; _for i := 3 _step 1 _until 2, 1 _while _false _do outchar(97); outinteger(i) _end
abbrev pub no_turn : Example
no_turn = record {
  program = (MkProgram []
      (MkBlock 1 (DeclareType (integer_word 1) (MkNames (name 8 1) [])) 1 NoDeclarations
      (OneLoop
      (MkLoop [] 1 (name 8 1) 1 (StepUntil (number 3 1) 1 (number 1 1) 1 (number 2 1))
      (record { comma = 1; turns = (WhileTrue (number 1 1) 1 (only (Logical false 1))) } ∷ []) 1
      (plainly (CallStatement (WithActuals (name 3 1) 1 (OneExpr (number 97 1)) NoActuals 1)))))
      (MoreStatements 1 (plainly (CallStatement (WithActuals (name 0 1) 1 (OneExpr (alone 8 1)) NoActuals 1))) NoStatements)
      1) 1);
  unread = [];
  permitted = 60;
  limit = 400;
  told = told_as (codes "1") Ended 1 10 ([]) None;
}

--     _begin _integer i; _for i := 2 _step -1 _until 0 _do outinteger(i); outinteger(i) _end
abbrev pub downward : Example
downward = record {
  program = (MkProgram []
      (MkBlock 1 (DeclareType (integer_word 1) (MkNames (name 8 1) [])) 1 NoDeclarations
      (OneLoop
      (MkLoop [] 1 (name 8 1) 1
      (StepUntil (number 2 1) 1 (sum_expr (Signed Subtract 1 (OneFactor (OnePrimary (Numeral 1 1))))) 1 (number 0 1)) []
      1 (plainly (CallStatement (WithActuals (name 0 1) 1 (OneExpr (alone 8 1)) NoActuals 1)))))
      (MoreStatements 1 (plainly (CallStatement (WithActuals (name 0 1) 1 (OneExpr (alone 8 1)) NoActuals 1))) NoStatements)
      1) 1);
  unread = [];
  permitted = 60;
  limit = 400;
  told = told_as (codes "210-1") Ended 4 10 ([]) None;
}

--     _begin _integer i; _integer _procedure g; _begin outchar(103); g := 2 _end; _for i := 1 _step g _until 5 _do
--     outinteger(i); outinteger(i) _end
abbrev pub step_evaluated_twice : Example
step_evaluated_twice = record {
  program = (MkProgram []
      (MkBlock 1 (DeclareType (integer_word 1) (MkNames (name 8 1) [])) 1
      (MoreDeclarations
      (DeclareProcedure (MkHeading (Some (integer_word 1)) 1 (name 9 1) NoFormals 1 NoValues [])
      (plainly
      (OneGroup
      (MkCompound 1 (plainly (CallStatement (WithActuals (name 3 1) 1 (OneExpr (number 103 1)) NoActuals 1)))
      (MoreStatements 1 (plainly (Assign (record { left = (OneName (name 9 1)); becomes = 1 }) [] (number 2 1))) NoStatements)
      1)))) 1 NoDeclarations)
      (OneLoop
      (MkLoop [] 1 (name 8 1) 1 (StepUntil (number 1 1) 1 (alone 9 1) 1 (number 5 1)) [] 1
      (plainly (CallStatement (WithActuals (name 0 1) 1 (OneExpr (alone 8 1)) NoActuals 1)))))
      (MoreStatements 1 (plainly (CallStatement (WithActuals (name 0 1) 1 (OneExpr (alone 8 1)) NoActuals 1))) NoStatements)
      1) 1);
  unread = [];
  permitted = 60;
  limit = 400;
  told = told_as (codes "g1gg3gg5gg7") Ended 11 17 ([]) None;
}

--     _begin _integer i;
--     _for i := 1 _step 0 _until 0 _do
--      outinteger(i) _end
abbrev pub step_zero : Example
step_zero = record {
  program = (MkProgram []
      (MkBlock 1 (DeclareType (integer_word 1) (MkNames (name 8 1) [])) 1 NoDeclarations
      (OneLoop
      (MkLoop [] 2 (name 8 2) 2 (StepUntil (number 1 2) 2 (number 0 2) 2 (number 0 2)) [] 2
      (plainly (CallStatement (WithActuals (name 0 3) 3 (OneExpr (alone 8 3)) NoActuals 3))))) NoStatements 3) 3);
  unread = [];
  permitted = 4;
  limit = 400;
  told = told_as (codes "1111") (Stopped NoStepLeft) 4 10 ([]) (stop_at (live InBlock 7 ∷ live InProgram 3 ∷ []) 2);
}

--     _begin _integer i, j; _for i := 1, 2 _do _for j := i _step 1 _until 2 _do _begin outinteger(i); outinteger(j) _end _end
abbrev pub nested : Example
nested = record {
  program = (MkProgram []
      (MkBlock 1 (DeclareType (integer_word 1) (MkNames (name 8 1) (comma_name 1 9 1 ∷ []))) 1 NoDeclarations
      (OneLoop
      (MkLoop [] 1 (name 8 1) 1 (OneValue (number 1 1)) (record { comma = 1; turns = (OneValue (number 2 1)) } ∷ []) 1
      (OneLoop
      (MkLoop [] 1 (name 9 1) 1 (StepUntil (alone 8 1) 1 (number 1 1) 1 (number 2 1)) [] 1
      (plainly
      (OneGroup
      (MkCompound 1 (plainly (CallStatement (WithActuals (name 0 1) 1 (OneExpr (alone 8 1)) NoActuals 1)))
      (MoreStatements 1 (plainly (CallStatement (WithActuals (name 0 1) 1 (OneExpr (alone 9 1)) NoActuals 1))) NoStatements)
      1))))))) NoStatements 1) 1);
  unread = [];
  permitted = 60;
  limit = 400;
  told = told_as (codes "111222") Ended 6 12 ([]) None;
}

--     _begin _integer i, j; _for i := 1, 2 _do _begin j := 0; L: j := j + 1; outinteger(j); _if j < i _then _goto L _end;
--     outchar(101) _end
abbrev pub label_in_a_turn : Example
label_in_a_turn = record {
  program = (MkProgram []
      (MkBlock 1 (DeclareType (integer_word 1) (MkNames (name 8 1) (comma_name 1 9 1 ∷ []))) 1 NoDeclarations
      (OneLoop
      (MkLoop [] 1 (name 8 1) 1 (OneValue (number 1 1)) (record { comma = 1; turns = (OneValue (number 2 1)) } ∷ []) 1
      (plainly
      (OneGroup
      (MkCompound 1 (plainly (Assign (record { left = (OneName (name 9 1)); becomes = 1 }) [] (number 0 1)))
      (MoreStatements 1
      (OneUnconditional
      (MkUnconditional (label_place 10 1 1 ∷ [])
      (Assign (record { left = (OneName (name 9 1)); becomes = 1 }) []
      (sum_expr (Summed (OneTerm (OneFactor (OnePrimary (OneCall (Alone (name 9 1)))))) Add 1 (OneFactor (OnePrimary
      (Numeral 1 1))))))))
      (MoreStatements 1 (plainly (CallStatement (WithActuals (name 0 1) 1 (OneExpr (alone 9 1)) NoActuals 1)))
      (MoreStatements 1
      (OneConditional
      (IfThen [] 1
      (relation_expr
      (Compared (OneTerm (OneFactor (OnePrimary (OneCall (Alone (name 9 1)))))) LessThan 1
      (OneTerm (OneFactor (OnePrimary (OneCall (Alone (name 8 1)))))))) 1
      (MkUnconditional [] (Jump 1 (alone 10 1))))) NoStatements))) 1)))))
      (MoreStatements 1 (plainly (CallStatement (WithActuals (name 3 1) 1 (OneExpr (number 101 1)) NoActuals 1))) NoStatements)
      1) 1);
  unread = [];
  permitted = 60;
  limit = 400;
  told = told_as (codes "112e") Ended 4 11 ([]) None;
}

--     _begin _integer i; _for i := 1, 2, 3 _do _begin _if i = 2 _then _goto L; outinteger(i); L: _end; outinteger(i) _end
abbrev pub ends_a_turn : Example
ends_a_turn = record {
  program = (MkProgram []
      (MkBlock 1 (DeclareType (integer_word 1) (MkNames (name 8 1) [])) 1 NoDeclarations
      (OneLoop
      (MkLoop [] 1 (name 8 1) 1 (OneValue (number 1 1))
      (record { comma = 1; turns = (OneValue (number 2 1)) } ∷ record { comma = 1; turns = (OneValue (number 3 1)) } ∷ [])
      1
      (plainly
      (OneGroup
      (MkCompound 1
      (OneConditional
      (IfThen [] 1
      (relation_expr
      (Compared (OneTerm (OneFactor (OnePrimary (OneCall (Alone (name 8 1)))))) EqualTo 1
      (OneTerm (OneFactor (OnePrimary (Numeral 2 1)))))) 1 (MkUnconditional [] (Jump 1 (alone 9 1)))))
      (MoreStatements 1 (plainly (CallStatement (WithActuals (name 0 1) 1 (OneExpr (alone 8 1)) NoActuals 1)))
      (MoreStatements 1 (OneUnconditional (MkUnconditional (label_place 9 1 1 ∷ []) Dummy)) NoStatements)) 1)))))
      (MoreStatements 1 (plainly (CallStatement (WithActuals (name 0 1) 1 (OneExpr (alone 8 1)) NoActuals 1))) NoStatements)
      1) 1);
  unread = [];
  permitted = 60;
  limit = 400;
  told = told_as (codes "133") Ended 5 9 ([]) None;
}

--     _begin _integer i; _for i := 1 _step 1 _until 9 _do _begin outinteger(i); _if i = 2 _then _goto L _end; outchar(97); L:
--     outinteger(i) _end
abbrev pub out_of_a_turn : Example
out_of_a_turn = record {
  program = (MkProgram []
      (MkBlock 1 (DeclareType (integer_word 1) (MkNames (name 8 1) [])) 1 NoDeclarations
      (OneLoop
      (MkLoop [] 1 (name 8 1) 1 (StepUntil (number 1 1) 1 (number 1 1) 1 (number 9 1)) [] 1
      (plainly
      (OneGroup
      (MkCompound 1 (plainly (CallStatement (WithActuals (name 0 1) 1 (OneExpr (alone 8 1)) NoActuals 1)))
      (MoreStatements 1
      (OneConditional
      (IfThen [] 1
      (relation_expr
      (Compared (OneTerm (OneFactor (OnePrimary (OneCall (Alone (name 8 1)))))) EqualTo 1
      (OneTerm (OneFactor (OnePrimary (Numeral 2 1)))))) 1 (MkUnconditional [] (Jump 1 (alone 9 1)))))
      NoStatements) 1)))))
      (MoreStatements 1 (plainly (CallStatement (WithActuals (name 3 1) 1 (OneExpr (number 97 1)) NoActuals 1)))
      (MoreStatements 1
      (OneUnconditional
      (MkUnconditional (label_place 9 1 1 ∷ []) (CallStatement (WithActuals (name 0 1) 1 (OneExpr (alone 8 1)) NoActuals 1))))
      NoStatements)) 1) 1);
  unread = [];
  permitted = 60;
  limit = 400;
  told = told_as (codes "122") Ended 3 10 ([]) None;
}

--     _begin _integer i, j; _procedure p(l); _label l; _begin outchar(112); _goto l _end;
--     _for i := 1, 2 _do _for j := 1, 2 _do _begin p(M); outchar(97); M: outinteger(10*i+j) _end _end
abbrev pub labels_of_two_turns : Example
labels_of_two_turns = record {
  program = (MkProgram []
      (MkBlock 1 (DeclareType (integer_word 1) (MkNames (name 8 1) (comma_name 1 9 1 ∷ []))) 1
      (MoreDeclarations
      (DeclareProcedure
      (MkHeading None 1 (name 10 1) (FormalList 1 (MkNames (name 11 1) []) 1) 1 NoValues
      (record { specifier = (LabelSpec 1); names = (MkNames (name 11 1) []); semicolon = 1 } ∷ []))
      (plainly
      (OneGroup
      (MkCompound 1 (plainly (CallStatement (WithActuals (name 3 1) 1 (OneExpr (number 112 1)) NoActuals 1)))
      (MoreStatements 1 (plainly (Jump 1 (alone 11 1))) NoStatements) 1)))) 1 NoDeclarations)
      (OneLoop
      (MkLoop [] 2 (name 8 2) 2 (OneValue (number 1 2)) (record { comma = 2; turns = (OneValue (number 2 2)) } ∷ []) 2
      (OneLoop
      (MkLoop [] 2 (name 9 2) 2 (OneValue (number 1 2)) (record { comma = 2; turns = (OneValue (number 2 2)) } ∷ []) 2
      (plainly
      (OneGroup
      (MkCompound 2 (plainly (CallStatement (WithActuals (name 10 2) 2 (OneExpr (alone 12 2)) NoActuals 2)))
      (MoreStatements 2 (plainly (CallStatement (WithActuals (name 3 2) 2 (OneExpr (number 97 2)) NoActuals 2)))
      (MoreStatements 2
      (OneUnconditional
      (MkUnconditional (label_place 12 2 2 ∷ [])
      (CallStatement
      (WithActuals (name 0 2) 2
      (OneExpr
      (sum_expr
      (Summed (OneTerm (Multiplied (OneFactor (OnePrimary (Numeral 10 2))) Multiply 2 (OnePrimary (OneCall
      (Alone (name 8 2)))))) Add
      2 (OneFactor (OnePrimary (OneCall (Alone (name 9 2)))))))) NoActuals 2))))
      NoStatements)) 2))))))) NoStatements 2) 2);
  unread = [];
  permitted = 60;
  limit = 400;
  told = told_as (codes "p11p12p21p22") Ended 19 24 ([]) None;
}

--     _begin _integer i, j; _for i := 1, 2 _do _begin _for j := 1 _do _begin _goto L; outchar(97); L: outinteger(j) _end; _goto
--     L; outchar(98); L: outinteger(i) _end _end
abbrev pub same_label_inside : Example
same_label_inside = record {
  program = (MkProgram []
      (MkBlock 1 (DeclareType (integer_word 1) (MkNames (name 8 1) (comma_name 1 9 1 ∷ []))) 1 NoDeclarations
      (OneLoop
      (MkLoop [] 1 (name 8 1) 1 (OneValue (number 1 1)) (record { comma = 1; turns = (OneValue (number 2 1)) } ∷ []) 1
      (plainly
      (OneGroup
      (MkCompound 1
      (OneLoop
      (MkLoop [] 1 (name 9 1) 1 (OneValue (number 1 1)) [] 1
      (plainly
      (OneGroup
      (MkCompound 1 (plainly (Jump 1 (alone 10 1)))
      (MoreStatements 1 (plainly (CallStatement (WithActuals (name 3 1) 1 (OneExpr (number 97 1)) NoActuals 1)))
      (MoreStatements 1
      (OneUnconditional
      (MkUnconditional (label_place 10 1 1 ∷ []) (CallStatement (WithActuals (name 0 1) 1 (OneExpr (alone 9 1)) NoActuals 1))))
      NoStatements)) 1)))))
      (MoreStatements 1 (plainly (Jump 1 (alone 10 1)))
      (MoreStatements 1 (plainly (CallStatement (WithActuals (name 3 1) 1 (OneExpr (number 98 1)) NoActuals 1)))
      (MoreStatements 1
      (OneUnconditional
      (MkUnconditional (label_place 10 1 1 ∷ []) (CallStatement (WithActuals (name 0 1) 1 (OneExpr (alone 8 1)) NoActuals 1))))
      NoStatements))) 1))))) NoStatements 1) 1);
  unread = [];
  permitted = 60;
  limit = 400;
  told = told_as (codes "1112") Ended 9 11 ([]) None;
}

--     _begin _integer _array a[1:2]; _integer k; _procedure p(v); _integer v; _for v := 1 _step 1 _until 2 _do outinteger(v); k
--     := 1; p(a[k]); outinteger(a[1]) _end
abbrev pub variable_by_name : Example
variable_by_name = record {
  program = (MkProgram []
      (MkBlock 1
      (DeclareArrays (integer_word 1) 1 (MkSegment (MkNames (name 8 1) []) 1 (MkPair (number 1 1) 1 (number 2 1)) [] 1) [])
      1
      (MoreDeclarations (DeclareType (integer_word 1) (MkNames (name 9 1) [])) 1
      (MoreDeclarations
      (DeclareProcedure
      (MkHeading None 1 (name 10 1) (FormalList 1 (MkNames (name 11 1) []) 1) 1 NoValues
      (record { specifier = (ValueSpec (integer_word 1)); names = (MkNames (name 11 1) []); semicolon = 1 } ∷ []))
      (OneLoop
      (MkLoop [] 1 (name 11 1) 1 (StepUntil (number 1 1) 1 (number 1 1) 1 (number 2 1)) [] 1
      (plainly (CallStatement (WithActuals (name 0 1) 1 (OneExpr (alone 11 1)) NoActuals 1)))))) 1 NoDeclarations))
      (plainly (Assign (record { left = (OneName (name 9 1)); becomes = 1 }) [] (number 1 1)))
      (MoreStatements 1
      (plainly
      (CallStatement
      (WithActuals (name 10 1) 1 (OneExpr (only (OneElement (Subscripted (name 8 1) 1 (alone 9 1) NoExprs 1)))) NoActuals 1)))
      (MoreStatements 1
      (plainly
      (CallStatement
      (WithActuals (name 0 1) 1 (OneExpr (only (OneElement (Subscripted (name 8 1) 1 (number 1 1) NoExprs 1)))) NoActuals 1)))
      NoStatements)) 1) 1);
  unread = [];
  permitted = 60;
  limit = 400;
  told = told_as (codes "123") Ended 14 32 ([]) None;
}

--     _begin _integer i; _for
--     i :=
--     -549755813887 _step 1 _until 2 _do outchar(97) _end
abbrev pub spill_of_a_difference : Example
spill_of_a_difference = record {
  program = (MkProgram []
      (MkBlock 1 (DeclareType (integer_word 1) (MkNames (name 8 1) [])) 1 NoDeclarations
      (OneLoop
      (MkLoop [] 1 (name 8 2) 2
      (StepUntil (sum_expr (Signed Subtract 3 (OneFactor (OnePrimary (Numeral 549755813887 3))))) 3 (number 1 3) 3 (number 2 3))
      [] 3 (plainly (CallStatement (WithActuals (name 3 3) 3 (OneExpr (number 97 3)) NoActuals 3))))) NoStatements 3) 3);
  unread = [];
  permitted = 60;
  limit = 400;
  told = told_as ([]) (Stopped (Alarmed Spill)) 1 10 ([]) (stop_at (live InBlock 7 ∷ live InProgram 3 ∷ []) 3);
}

--     _begin _integer i; _for i :=
--     549755813887 _step
--     1 _until 549755813887 _do outchar(97) _end
abbrev pub spill_of_the_variable : Example
spill_of_the_variable = record {
  program = (MkProgram []
      (MkBlock 1 (DeclareType (integer_word 1) (MkNames (name 8 1) [])) 1 NoDeclarations
      (OneLoop
      (MkLoop [] 1 (name 8 1) 1 (StepUntil (number 549755813887 2) 2 (number 1 3) 3 (number 549755813887 3)) [] 3
      (plainly (CallStatement (WithActuals (name 3 3) 3 (OneExpr (number 97 3)) NoActuals 3))))) NoStatements 3) 3);
  unread = [];
  permitted = 60;
  limit = 400;
  told = told_as (codes "a") (Stopped (Alarmed Spill)) 2 10 ([]) (stop_at (live InBlock 7 ∷ live InProgram 3 ∷ []) 2);
}
