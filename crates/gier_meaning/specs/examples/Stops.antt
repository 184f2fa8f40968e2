-- Where steps or words are used up, and what was live then.
use Rattle.std.specs.Prelude.{[], ◌∷◌, codes, Some, None}
use Rattle.gier_tree.specs.Trees.{MkNames, MkPair, MkSegment, Add, Subtract, EqualTo, IfExpr, OneImplication, OneDisjunction}
use Rattle.gier_tree.specs.Trees.{OneConjunction, OneNegation, OneRelation, OneArithmetic, Compared, OneTerm, Summed, OneFactor}
use Rattle.gier_tree.specs.Trees.{OnePrimary, Numeral, OneCall, OneElement, Alone, WithActuals, Subscripted, OneExpr, NoActuals}
use Rattle.gier_tree.specs.Trees.{NoExprs, MoreExprs, only, FormalList, NoValues, ValueList, ValueSpec, MkHeading, OneName}
use Rattle.gier_tree.specs.Trees.{LeftElement, OneValue, DeclareType, DeclareArrays, DeclareSwitch, DeclareProcedure}
use Rattle.gier_tree.specs.Trees.{NoDeclarations, MoreDeclarations, MkBlock, MkCompound, NoStatements, MoreStatements}
use Rattle.gier_tree.specs.Trees.{OneUnconditional, OneLoop, MkUnconditional, OneGroup, Assign, Jump, CallStatement, MkLoop}
use Rattle.gier_tree.specs.Trees.{MkProgram}
use Rattle.gier_word.specs.declared.alarm.Alarm.TheVariants.{Stack}
use Rattle.gier_meaning.specs.Live.{InProgram, InBlock, InProcedure, InEvaluation}
use Rattle.gier_meaning.specs.Outcome.{Alarmed, NoStepLeft}
use Rattle.gier_meaning.specs.Observation.{Ended, Stopped}
use Rattle.gier_meaning.specs.Example.{Example, told_as, live, stop_at, name, comma_name, label_place, integer_word, boolean_word}
use Rattle.gier_meaning.specs.Example.{relation_expr, sum_expr, number, alone, plainly}

--     _begin _integer i, j;
--     _procedure p(x); _integer x;
--       i := i +
--         x;
--     _switch s := L;
--     j := 2;
--     p(j + 1);
--     _for j := 1, 2 _do
--       i := i + 1;
--     _begin _integer k; k := i; outinteger(k) _end;
--     _goto s[1];
--     outchar(97);
--     L: outchar(98) _end
abbrev pub enough_steps : Example
enough_steps = record {
  program = (MkProgram []
      (MkBlock 1 (DeclareType (integer_word 1) (MkNames (name 8 1) (comma_name 1 9 1 ∷ []))) 1
      (MoreDeclarations
      (DeclareProcedure
      (MkHeading None 2 (name 10 2) (FormalList 2 (MkNames (name 11 2) []) 2) 2 NoValues
      (record { specifier = (ValueSpec (integer_word 2)); names = (MkNames (name 11 2) []); semicolon = 2 } ∷ []))
      (plainly
      (Assign (record { left = (OneName (name 8 3)); becomes = 3 }) []
      (sum_expr
      (Summed (OneTerm (OneFactor (OnePrimary (OneCall (Alone (name 8 3)))))) Add 3
      (OneFactor (OnePrimary (OneCall (Alone (name 11 4)))))))))) 4
      (MoreDeclarations (DeclareSwitch 5 (name 12 5) 5 (alone 13 5) NoExprs) 5 NoDeclarations))
      (plainly (Assign (record { left = (OneName (name 9 6)); becomes = 6 }) [] (number 2 6)))
      (MoreStatements 6
      (plainly
      (CallStatement
      (WithActuals (name 10 7) 7
      (OneExpr
      (sum_expr (Summed (OneTerm (OneFactor (OnePrimary (OneCall (Alone (name 9 7)))))) Add 7 (OneFactor
      (OnePrimary (Numeral 1 7))))))
      NoActuals 7)))
      (MoreStatements 7
      (OneLoop
      (MkLoop [] 8 (name 9 8) 8 (OneValue (number 1 8)) (record { comma = 8; turns = (OneValue (number 2 8)) } ∷ []) 8
      (plainly
      (Assign (record { left = (OneName (name 8 9)); becomes = 9 }) []
      (sum_expr (Summed (OneTerm (OneFactor (OnePrimary (OneCall (Alone (name 8 9)))))) Add 9 (OneFactor (OnePrimary
      (Numeral 1 9)))))))))
      (MoreStatements 9
      (plainly
      (OneGroup
      (MkBlock 10 (DeclareType (integer_word 10) (MkNames (name 14 10) [])) 10 NoDeclarations
      (plainly (Assign (record { left = (OneName (name 14 10)); becomes = 10 }) [] (alone 8 10)))
      (MoreStatements 10 (plainly (CallStatement (WithActuals (name 0 10) 10 (OneExpr (alone 14 10)) NoActuals 10))) NoStatements)
      10)))
      (MoreStatements 10 (plainly (Jump 11 (only (OneElement (Subscripted (name 12 11) 11 (number 1 11) NoExprs 11)))))
      (MoreStatements 11 (plainly (CallStatement (WithActuals (name 3 12) 12 (OneExpr (number 97 12)) NoActuals 12)))
      (MoreStatements 12
      (OneUnconditional
      (MkUnconditional (label_place 13 13 13 ∷ []) (CallStatement (WithActuals (name 3 13) 13
      (OneExpr (number 98 13)) NoActuals 13))))
      NoStatements)))))) 13) 13);
  unread = [];
  permitted = 8;
  limit = 400;
  told = told_as (codes "5b") Ended 8 26 ([]) None;
}

-- the program of enough_steps
abbrev pub no_step_for_a_block : Example
no_step_for_a_block = record {
  program = enough_steps.program;
  unread = [];
  permitted = 0;
  limit = 400;
  told = told_as ([]) (Stopped NoStepLeft) 0 3 ([]) (stop_at (live InProgram 3 ∷ []) 1);
}

-- the program of enough_steps
abbrev pub no_step_for_a_procedure : Example
no_step_for_a_procedure = record {
  program = enough_steps.program;
  unread = [];
  permitted = 1;
  limit = 400;
  told = told_as ([]) (Stopped NoStepLeft) 1 11 ([]) (stop_at (live InBlock 8 ∷ live InProgram 3 ∷ []) 7);
}

-- the program of enough_steps
abbrev pub no_step_for_an_evaluation : Example
no_step_for_an_evaluation = record {
  program = enough_steps.program;
  unread = [];
  permitted = 2;
  limit = 400;
  told = told_as ([]) (Stopped NoStepLeft) 2 20 ([]) (stop_at (live (InProcedure 7) 9 ∷ live InBlock 8 ∷ live InProgram 3 ∷ []) 4);
}

-- the program of enough_steps
abbrev pub no_step_for_a_turn : Example
no_step_for_a_turn = record {
  program = enough_steps.program;
  unread = [];
  permitted = 3;
  limit = 400;
  told = told_as ([]) (Stopped NoStepLeft) 3 26 ([]) (stop_at (live InBlock 8 ∷ live InProgram 3 ∷ []) 8);
}

-- the program of enough_steps
abbrev pub no_step_for_an_inner_block : Example
no_step_for_an_inner_block = record {
  program = enough_steps.program;
  unread = [];
  permitted = 5;
  limit = 400;
  told = told_as ([]) (Stopped NoStepLeft) 5 26 ([]) (stop_at (live InBlock 8 ∷ live InProgram 3 ∷ []) 10);
}

-- the program of enough_steps
abbrev pub no_step_for_an_element : Example
no_step_for_an_element = record {
  program = enough_steps.program;
  unread = [];
  permitted = 6;
  limit = 400;
  told = told_as (codes "5") (Stopped NoStepLeft) 6 26 ([]) (stop_at (live InBlock 8 ∷ live InProgram 3 ∷ []) 11);
}

-- the program of enough_steps
abbrev pub no_step_for_a_go_to : Example
no_step_for_a_go_to = record {
  program = enough_steps.program;
  unread = [];
  permitted = 7;
  limit = 400;
  told = told_as (codes "5") (Stopped NoStepLeft) 7 26 ([]) (stop_at (live InBlock 8 ∷ live InProgram 3 ∷ []) 11);
}

-- the program of enough_steps
abbrev pub enough_words : Example
enough_words = record {
  program = enough_steps.program;
  unread = [];
  permitted = 60;
  limit = 26;
  told = told_as (codes "5b") Ended 8 26 ([]) None;
}

-- the program of enough_steps
abbrev pub no_room_for_an_evaluation : Example
no_room_for_an_evaluation = record {
  program = enough_steps.program;
  unread = [];
  permitted = 60;
  limit = 25;
  told = told_as ([]) (Stopped (Alarmed Stack)) 3 20 ([])
      (stop_at (live (InProcedure 7) 9 ∷ live InBlock 8 ∷ live InProgram 3 ∷ []) 4);
}

-- the program of enough_steps
abbrev pub no_room_for_a_procedure : Example
no_room_for_a_procedure = record {
  program = enough_steps.program;
  unread = [];
  permitted = 60;
  limit = 19;
  told = told_as ([]) (Stopped (Alarmed Stack)) 2 11 ([]) (stop_at (live InBlock 8 ∷ live InProgram 3 ∷ []) 7);
}

-- the program of enough_steps
abbrev pub no_room_for_a_block : Example
no_room_for_a_block = record {
  program = enough_steps.program;
  unread = [];
  permitted = 60;
  limit = 10;
  told = told_as ([]) (Stopped (Alarmed Stack)) 1 3 ([]) (stop_at (live InProgram 3 ∷ []) 1);
}

-- the program of enough_steps
abbrev pub no_room_for_the_program : Example
no_room_for_the_program = record {
  program = enough_steps.program;
  unread = [];
  permitted = 60;
  limit = 2;
  told = told_as ([]) (Stopped (Alarmed Stack)) 0 0 ([]) (stop_at [] 1);
}

--     _begin L: _goto L _end
abbrev pub forever : Example
forever = record {
  program =
      (MkProgram []
      (MkCompound 1 (OneUnconditional (MkUnconditional (label_place 8 1 1 ∷ []) (Jump 1 (alone 8 1)))) NoStatements 1) 1);
  unread = [];
  permitted = 5;
  limit = 400;
  told = told_as ([]) (Stopped NoStepLeft) 5 3 ([]) (stop_at (live InProgram 3 ∷ []) 1);
}

--     _begin _integer _procedure d(n); _value n; _integer n; d := _if n = 0 _then 0 _else d(n-1) + 1;
--     outinteger(d(3)) _end
abbrev pub deep_enough : Example
deep_enough = record {
  program = (MkProgram []
      (MkBlock 1
      (DeclareProcedure
      (MkHeading (Some (integer_word 1)) 1 (name 8 1) (FormalList 1 (MkNames (name 9 1) []) 1) 1
      (ValueList 1 (MkNames (name 9 1) []) 1)
      (record { specifier = (ValueSpec (integer_word 1)); names = (MkNames (name 9 1) []); semicolon = 1 } ∷ []))
      (plainly
      (Assign (record { left = (OneName (name 8 1)); becomes = 1 }) []
      (IfExpr 1
      (relation_expr
      (Compared (OneTerm (OneFactor (OnePrimary (OneCall (Alone (name 9 1)))))) EqualTo 1
      (OneTerm (OneFactor (OnePrimary (Numeral 0 1)))))) 1
      (OneImplication
      (OneDisjunction (OneConjunction (OneNegation (OneRelation (OneArithmetic (OneTerm (OneFactor (OnePrimary
      (Numeral 0 1))))))))))
      1
      (sum_expr
      (Summed
      (OneTerm
      (OneFactor
      (OnePrimary
      (OneCall
      (WithActuals (name 8 1) 1
      (OneExpr
      (sum_expr
      (Summed (OneTerm (OneFactor (OnePrimary (OneCall (Alone (name 9 1)))))) Subtract 1 (OneFactor (OnePrimary (Numeral 1 1))))))
      NoActuals 1))))) Add 1 (OneFactor (OnePrimary (Numeral 1 1))))))))) 1 NoDeclarations
      (plainly
      (CallStatement
      (WithActuals (name 0 2) 2
      (OneExpr (only (OneCall (WithActuals (name 8 2) 2 (OneExpr (number 3 2)) NoActuals 2)))) NoActuals 2)))
      NoStatements 2) 2);
  unread = [];
  permitted = 60;
  limit = 52;
  told = told_as (codes "3") Ended 5 52 ([]) None;
}

-- the program of deep_enough
abbrev pub one_word_too_deep : Example
one_word_too_deep = record {
  program = deep_enough.program;
  unread = [];
  permitted = 60;
  limit = 51;
  told = told_as ([]) (Stopped (Alarmed Stack)) 5 41 ([])
      (stop_at (live (InProcedure 1) 11 ∷ live (InProcedure 1) 11 ∷ live (InProcedure 2) 11 ∷ live InBlock 5
      ∷ live InProgram 3 ∷ []) 1);
}

--     _begin _integer n; n := 3; _begin _integer _array a, b[1:n];
--     _boolean _array
--      c[0:n]; outchar(97) _end _end
abbrev pub elements_fit : Example
elements_fit = record {
  program = (MkProgram []
      (MkBlock 1 (DeclareType (integer_word 1) (MkNames (name 8 1) [])) 1 NoDeclarations
      (plainly (Assign (record { left = (OneName (name 8 1)); becomes = 1 }) [] (number 3 1)))
      (MoreStatements 1
      (plainly
      (OneGroup
      (MkBlock 1
      (DeclareArrays (integer_word 1) 1
      (MkSegment (MkNames (name 9 1) (comma_name 1 10 1 ∷ [])) 1 (MkPair (number 1 1) 1 (alone 8 1)) [] 1) []) 1
      (MoreDeclarations
      (DeclareArrays (boolean_word 2) 2 (MkSegment (MkNames (name 11 3) []) 3 (MkPair (number 0 3) 3 (alone 8 3)) [] 3) [])
      3 NoDeclarations) (plainly (CallStatement (WithActuals (name 3 3) 3 (OneExpr (number 97 3)) NoActuals 3)))
      NoStatements 3))) NoStatements) 3) 3);
  unread = [];
  permitted = 60;
  limit = 35;
  told = told_as (codes "a") Ended 2 35 ([]) None;
}

-- the program of elements_fit
abbrev pub one_element_too_many : Example
one_element_too_many = record {
  program = elements_fit.program;
  unread = [];
  permitted = 60;
  limit = 34;
  told = told_as ([]) (Stopped (Alarmed Stack)) 2 31 ([]) (stop_at (live InBlock 23 ∷ live InBlock 5 ∷ live InProgram 3 ∷ []) 3);
}

--     _begin _integer i; _for i := 3, 3 _do _begin _integer _array a[1:i]; a[i] := i; outinteger(a[i]) _end _end
abbrev pub room_of_left_arrays : Example
room_of_left_arrays = record {
  program = (MkProgram []
      (MkBlock 1 (DeclareType (integer_word 1) (MkNames (name 8 1) [])) 1 NoDeclarations
      (OneLoop
      (MkLoop [] 1 (name 8 1) 1 (OneValue (number 3 1)) (record { comma = 1; turns = (OneValue (number 3 1)) } ∷ []) 1
      (plainly
      (OneGroup
      (MkBlock 1
      (DeclareArrays (integer_word 1) 1 (MkSegment (MkNames (name 9 1) []) 1 (MkPair (number 1 1) 1 (alone 8 1)) [] 1) [])
      1 NoDeclarations
      (plainly
      (Assign (record { left = (LeftElement (Subscripted (name 9 1) 1 (alone 8 1) NoExprs 1)); becomes = 1 }) [] (alone 8 1)))
      (MoreStatements 1
      (plainly
      (CallStatement
      (WithActuals (name 0 1) 1 (OneExpr (only (OneElement (Subscripted (name 9 1) 1 (alone 8 1) NoExprs 1)))) NoActuals 1)))
      NoStatements) 1))))) NoStatements 1) 1);
  unread = [];
  permitted = 60;
  limit = 24;
  told = told_as (codes "33") Ended 5 21 ([]) None;
}

--     _begin _switch s := L, _if i = 0 _then s[1] _else M; _integer i; _goto s[2]; M: outchar(109);
--     L: outchar(108) _end
abbrev pub element_without_room : Example
element_without_room = record {
  program = (MkProgram []
      (MkBlock 1
      (DeclareSwitch 1 (name 8 1) 1 (alone 9 1)
      (MoreExprs 1
      (IfExpr 1
      (relation_expr
      (Compared (OneTerm (OneFactor (OnePrimary (OneCall (Alone (name 10 1)))))) EqualTo 1
      (OneTerm (OneFactor (OnePrimary (Numeral 0 1)))))) 1
      (OneImplication
      (OneDisjunction
      (OneConjunction
      (OneNegation
      (OneRelation (OneArithmetic (OneTerm (OneFactor (OnePrimary (OneElement (Subscripted (name 8 1) 1
      (number 1 1) NoExprs 1)))))))))))
      1 (alone 11 1)) NoExprs)) 1
      (MoreDeclarations (DeclareType (integer_word 1) (MkNames (name 10 1) [])) 1 NoDeclarations)
      (plainly (Jump 1 (only (OneElement (Subscripted (name 8 1) 1 (number 2 1) NoExprs 1)))))
      (MoreStatements 1
      (OneUnconditional
      (MkUnconditional (label_place 11 1 1 ∷ []) (CallStatement (WithActuals (name 3 1) 1 (OneExpr (number 109 1)) NoActuals 1))))
      (MoreStatements 1
      (OneUnconditional
      (MkUnconditional (label_place 9 2 2 ∷ []) (CallStatement (WithActuals (name 3 2) 2 (OneExpr (number 108 2)) NoActuals 2))))
      NoStatements)) 2) 2);
  unread = [];
  permitted = 60;
  limit = 15;
  told = told_as ([]) (Stopped (Alarmed Stack)) 3 13 ([])
      (stop_at (live (InEvaluation 1) 6 ∷ live InBlock 4 ∷ live InProgram 3 ∷ []) 1);
}
