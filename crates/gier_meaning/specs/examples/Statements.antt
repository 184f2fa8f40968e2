-- Assignments, conditional statements and go to (Report 4.2, 4.3, 4.5).
use Rattle.std.specs.Prelude.{[], ◌∷◌, codes, Some, None, false}
use Rattle.gier_tree.specs.Trees.{MkNames, MkPair, MkSegment, Add, LessThan, EqualTo, MoreThan, Compared, OneTerm, Summed}
use Rattle.gier_tree.specs.Trees.{OneFactor, OnePrimary, Numeral, Logical, OneCall, OneElement, Alone, WithActuals, Subscripted}
use Rattle.gier_tree.specs.Trees.{OneExpr, NoActuals, NoExprs, only, NoFormals, NoValues, MkHeading, OneName, LeftElement}
use Rattle.gier_tree.specs.Trees.{DeclareType, DeclareArrays, DeclareProcedure, NoDeclarations, MoreDeclarations, MkBlock}
use Rattle.gier_tree.specs.Trees.{MkCompound, NoStatements, MoreStatements, OneUnconditional, OneConditional, MkUnconditional}
use Rattle.gier_tree.specs.Trees.{OneGroup, Assign, Jump, CallStatement, Dummy, IfThen, IfElse, MkProgram}
use Rattle.gier_meaning.specs.Observation.{Ended}
use Rattle.gier_meaning.specs.Example.{Example, told_as, name, comma_name, label_place, integer_word, relation_expr, sum_expr}
use Rattle.gier_meaning.specs.Example.{number, alone, plainly}

--     _begin _integer c; _integer _array a, b[1:3]; _integer _procedure f; _begin c := c + 1; f := c _end;
--     a[f] := b[f] := f; outinteger(a[1]); outinteger(b[2]); outinteger(c) _end
abbrev pub left_parts_first : Example
left_parts_first = record {
  program = (MkProgram []
      (MkBlock 1 (DeclareType (integer_word 1) (MkNames (name 8 1) [])) 1
      (MoreDeclarations
      (DeclareArrays (integer_word 1) 1
      (MkSegment (MkNames (name 9 1) (comma_name 1 10 1 ∷ [])) 1 (MkPair (number 1 1) 1 (number 3 1)) [] 1) []) 1
      (MoreDeclarations
      (DeclareProcedure (MkHeading (Some (integer_word 1)) 1 (name 11 1) NoFormals 1 NoValues [])
      (plainly
      (OneGroup
      (MkCompound 1
      (plainly
      (Assign (record { left = (OneName (name 8 1)); becomes = 1 }) []
      (sum_expr (Summed (OneTerm (OneFactor (OnePrimary (OneCall (Alone (name 8 1)))))) Add 1 (OneFactor
      (OnePrimary (Numeral 1 1)))))))
      (MoreStatements 1 (plainly (Assign (record { left = (OneName (name 11 1)); becomes = 1 }) [] (alone 8 1))) NoStatements)
      1)))) 1 NoDeclarations))
      (plainly
      (Assign (record { left = (LeftElement (Subscripted (name 9 2) 2 (alone 11 2) NoExprs 2)); becomes = 2 })
      (record { left = (LeftElement (Subscripted (name 10 2) 2 (alone 11 2) NoExprs 2)); becomes = 2 } ∷ [])
      (alone 11 2)))
      (MoreStatements 2
      (plainly
      (CallStatement
      (WithActuals (name 0 2) 2 (OneExpr (only (OneElement (Subscripted (name 9 2) 2 (number 1 2) NoExprs 2)))) NoActuals 2)))
      (MoreStatements 2
      (plainly
      (CallStatement
      (WithActuals (name 0 2) 2 (OneExpr (only (OneElement (Subscripted (name 10 2) 2 (number 2 2) NoExprs 2)))) NoActuals 2)))
      (MoreStatements 2 (plainly (CallStatement (WithActuals (name 0 2) 2 (OneExpr (alone 8 2)) NoActuals 2))) NoStatements)))
      2) 2);
  unread = [];
  permitted = 60;
  limit = 400;
  told = told_as (codes "333") Ended 4 32 ([]) None;
}

--     _begin _integer i; i := 3; _if i = 3 _then outchar(97); _if i > 3 _then outchar(98) _else _if i < 3 _then outchar(99)
--     _else outchar(100);
--     _if _false _then outchar(101) _end
abbrev pub conditionals : Example
conditionals = record {
  program = (MkProgram []
      (MkBlock 1 (DeclareType (integer_word 1) (MkNames (name 8 1) [])) 1 NoDeclarations
      (plainly (Assign (record { left = (OneName (name 8 1)); becomes = 1 }) [] (number 3 1)))
      (MoreStatements 1
      (OneConditional
      (IfThen [] 1
      (relation_expr
      (Compared (OneTerm (OneFactor (OnePrimary (OneCall (Alone (name 8 1)))))) EqualTo 1
      (OneTerm (OneFactor (OnePrimary (Numeral 3 1)))))) 1
      (MkUnconditional [] (CallStatement (WithActuals (name 3 1) 1 (OneExpr (number 97 1)) NoActuals 1)))))
      (MoreStatements 1
      (OneConditional
      (IfElse [] 1
      (relation_expr
      (Compared (OneTerm (OneFactor (OnePrimary (OneCall (Alone (name 8 1)))))) MoreThan 1
      (OneTerm (OneFactor (OnePrimary (Numeral 3 1)))))) 1
      (MkUnconditional [] (CallStatement (WithActuals (name 3 1) 1 (OneExpr (number 98 1)) NoActuals 1))) 1
      (OneConditional
      (IfElse [] 1
      (relation_expr
      (Compared (OneTerm (OneFactor (OnePrimary (OneCall (Alone (name 8 1)))))) LessThan 1
      (OneTerm (OneFactor (OnePrimary (Numeral 3 1)))))) 1
      (MkUnconditional [] (CallStatement (WithActuals (name 3 1) 1 (OneExpr (number 99 1)) NoActuals 1))) 1
      (plainly (CallStatement (WithActuals (name 3 1) 1 (OneExpr (number 100 1)) NoActuals 1)))))))
      (MoreStatements 1
      (OneConditional
      (IfThen [] 2 (only (Logical false 2)) 2
      (MkUnconditional [] (CallStatement (WithActuals (name 3 2) 2 (OneExpr (number 101 2)) NoActuals 2)))))
      NoStatements))) 2) 2);
  unread = [];
  permitted = 60;
  limit = 400;
  told = told_as (codes "ad") Ended 1 8 ([]) None;
}

--     _begin _if _false _then _begin outchar(65) _end of _begin loop _else outchar(66) _end
abbrev pub skips_behind_end : Example
skips_behind_end = record {
  program = (MkProgram []
      (MkCompound 1
      (OneConditional
      (IfElse [] 1 (only (Logical false 1)) 1
      (MkUnconditional []
      (OneGroup (MkCompound 1
      (plainly (CallStatement (WithActuals (name 3 1) 1 (OneExpr (number 65 1)) NoActuals 1))) NoStatements 1)))
      1 (plainly (CallStatement (WithActuals (name 3 1) 1 (OneExpr (number 66 1)) NoActuals 1))))) NoStatements 1) 1);
  unread = [];
  permitted = 60;
  limit = 400;
  told = told_as (codes "B") Ended 0 3 ([]) None;
}

--     _begin _integer i; L: i := i + 1; _if i < 4 _then _goto L _else _begin outinteger(i); outcr _end; _end
abbrev pub loop_by_go_to : Example
loop_by_go_to = record {
  program = (MkProgram []
      (MkBlock 1 (DeclareType (integer_word 1) (MkNames (name 8 1) [])) 1 NoDeclarations
      (OneUnconditional
      (MkUnconditional (label_place 9 1 1 ∷ [])
      (Assign (record { left = (OneName (name 8 1)); becomes = 1 }) []
      (sum_expr (Summed (OneTerm (OneFactor (OnePrimary (OneCall (Alone (name 8 1)))))) Add 1 (OneFactor (OnePrimary
      (Numeral 1 1))))))))
      (MoreStatements 1
      (OneConditional
      (IfElse [] 1
      (relation_expr
      (Compared (OneTerm (OneFactor (OnePrimary (OneCall (Alone (name 8 1)))))) LessThan 1
      (OneTerm (OneFactor (OnePrimary (Numeral 4 1)))))) 1 (MkUnconditional [] (Jump 1 (alone 9 1))) 1
      (plainly
      (OneGroup
      (MkCompound 1 (plainly (CallStatement (WithActuals (name 0 1) 1 (OneExpr (alone 8 1)) NoActuals 1)))
      (MoreStatements 1 (plainly (CallStatement (Alone (name 2 1)))) NoStatements) 1)))))
      (MoreStatements 1 (plainly Dummy) NoStatements)) 1) 1);
  unread = [];
  permitted = 60;
  limit = 400;
  told = told_as ((52 ∷ 10 ∷ [])) Ended 4 9 ([]) None;
}

--     _begin _integer i; _goto M; _if i > 0 _then _begin outchar(97); M: outchar(98); i := i + 1; N: outchar(99) _end _else
--     outchar(100);
--     _if i < 2 _then _goto M; outchar(101) _end
abbrev pub into_a_branch : Example
into_a_branch = record {
  program = (MkProgram []
      (MkBlock 1 (DeclareType (integer_word 1) (MkNames (name 8 1) [])) 1 NoDeclarations (plainly (Jump 1 (alone 9 1)))
      (MoreStatements 1
      (OneConditional
      (IfElse [] 1
      (relation_expr
      (Compared (OneTerm (OneFactor (OnePrimary (OneCall (Alone (name 8 1)))))) MoreThan 1
      (OneTerm (OneFactor (OnePrimary (Numeral 0 1)))))) 1
      (MkUnconditional []
      (OneGroup
      (MkCompound 1 (plainly (CallStatement (WithActuals (name 3 1) 1 (OneExpr (number 97 1)) NoActuals 1)))
      (MoreStatements 1
      (OneUnconditional
      (MkUnconditional (label_place 9 1 1 ∷ []) (CallStatement (WithActuals (name 3 1) 1 (OneExpr (number 98 1)) NoActuals 1))))
      (MoreStatements 1
      (plainly
      (Assign (record { left = (OneName (name 8 1)); becomes = 1 }) []
      (sum_expr (Summed (OneTerm (OneFactor (OnePrimary (OneCall (Alone (name 8 1)))))) Add 1 (OneFactor
      (OnePrimary (Numeral 1 1)))))))
      (MoreStatements 1
      (OneUnconditional
      (MkUnconditional (label_place 10 1 1 ∷ []) (CallStatement (WithActuals (name 3 1) 1 (OneExpr (number 99 1)) NoActuals 1))))
      NoStatements))) 1))) 1
      (plainly (CallStatement (WithActuals (name 3 1) 1 (OneExpr (number 100 1)) NoActuals 1)))))
      (MoreStatements 1
      (OneConditional
      (IfThen [] 2
      (relation_expr
      (Compared (OneTerm (OneFactor (OnePrimary (OneCall (Alone (name 8 2)))))) LessThan 2
      (OneTerm (OneFactor (OnePrimary (Numeral 2 2)))))) 2 (MkUnconditional [] (Jump 2 (alone 9 2)))))
      (MoreStatements 2 (plainly (CallStatement (WithActuals (name 3 2) 2 (OneExpr (number 101 2)) NoActuals 2))) NoStatements)))
      2) 2);
  unread = [];
  permitted = 60;
  limit = 400;
  told = told_as (codes "bcbce") Ended 3 9 ([]) None;
}

--     _begin _integer i; _goto M; _if i > 0 _then outchar(97) _else _begin outchar(98); M: outchar(99) _end; outchar(100) _end
abbrev pub into_the_other_branch : Example
into_the_other_branch = record {
  program = (MkProgram []
      (MkBlock 1 (DeclareType (integer_word 1) (MkNames (name 8 1) [])) 1 NoDeclarations (plainly (Jump 1 (alone 9 1)))
      (MoreStatements 1
      (OneConditional
      (IfElse [] 1
      (relation_expr
      (Compared (OneTerm (OneFactor (OnePrimary (OneCall (Alone (name 8 1)))))) MoreThan 1
      (OneTerm (OneFactor (OnePrimary (Numeral 0 1)))))) 1
      (MkUnconditional [] (CallStatement (WithActuals (name 3 1) 1 (OneExpr (number 97 1)) NoActuals 1))) 1
      (plainly
      (OneGroup
      (MkCompound 1 (plainly (CallStatement (WithActuals (name 3 1) 1 (OneExpr (number 98 1)) NoActuals 1)))
      (MoreStatements 1
      (OneUnconditional
      (MkUnconditional (label_place 9 1 1 ∷ []) (CallStatement (WithActuals (name 3 1) 1 (OneExpr (number 99 1)) NoActuals 1))))
      NoStatements) 1)))))
      (MoreStatements 1 (plainly (CallStatement (WithActuals (name 3 1) 1 (OneExpr (number 100 1)) NoActuals 1))) NoStatements))
      1) 1);
  unread = [];
  permitted = 60;
  limit = 400;
  told = told_as (codes "cd") Ended 2 8 ([]) None;
}

--     A: B: _begin _integer i; i := ininteger; outinteger(i); _if i > 0 _then _goto B _end
abbrev pub program_label : Example
program_label = record {
  program = (MkProgram (label_place 8 1 1 ∷ label_place 9 1 1 ∷ [])
      (MkBlock 1 (DeclareType (integer_word 1) (MkNames (name 10 1) [])) 1 NoDeclarations
      (plainly (Assign (record { left = (OneName (name 10 1)); becomes = 1 }) [] (alone 4 1)))
      (MoreStatements 1 (plainly (CallStatement (WithActuals (name 0 1) 1 (OneExpr (alone 10 1)) NoActuals 1)))
      (MoreStatements 1
      (OneConditional
      (IfThen [] 1
      (relation_expr
      (Compared (OneTerm (OneFactor (OnePrimary (OneCall (Alone (name 10 1)))))) MoreThan 1
      (OneTerm (OneFactor (OnePrimary (Numeral 0 1)))))) 1 (MkUnconditional [] (Jump 1 (alone 9 1)))))
      NoStatements)) 1) 1);
  unread = codes "2 1 0";
  permitted = 60;
  limit = 400;
  told = told_as (codes "210") Ended 5 8 ([]) None;
}

--     _begin _integer i; i := 1; _begin _integer j; j := 2; _begin _integer i; i := 3; _goto L; outchar(97) _end; outchar(98)
--     _end; L: outinteger(i) _end
abbrev pub out_of_blocks : Example
out_of_blocks = record {
  program = (MkProgram []
      (MkBlock 1 (DeclareType (integer_word 1) (MkNames (name 8 1) [])) 1 NoDeclarations
      (plainly (Assign (record { left = (OneName (name 8 1)); becomes = 1 }) [] (number 1 1)))
      (MoreStatements 1
      (plainly
      (OneGroup
      (MkBlock 1 (DeclareType (integer_word 1) (MkNames (name 9 1) [])) 1 NoDeclarations
      (plainly (Assign (record { left = (OneName (name 9 1)); becomes = 1 }) [] (number 2 1)))
      (MoreStatements 1
      (plainly
      (OneGroup
      (MkBlock 1 (DeclareType (integer_word 1) (MkNames (name 8 1) [])) 1 NoDeclarations
      (plainly (Assign (record { left = (OneName (name 8 1)); becomes = 1 }) [] (number 3 1)))
      (MoreStatements 1 (plainly (Jump 1 (alone 10 1)))
      (MoreStatements 1 (plainly (CallStatement (WithActuals (name 3 1) 1 (OneExpr (number 97 1)) NoActuals 1))) NoStatements))
      1)))
      (MoreStatements 1 (plainly (CallStatement (WithActuals (name 3 1) 1 (OneExpr (number 98 1)) NoActuals 1))) NoStatements))
      1)))
      (MoreStatements 1
      (OneUnconditional
      (MkUnconditional (label_place 10 1 1 ∷ []) (CallStatement (WithActuals (name 0 1) 1 (OneExpr (alone 8 1)) NoActuals 1))))
      NoStatements)) 1) 1);
  unread = [];
  permitted = 60;
  limit = 400;
  told = told_as (codes "1") Ended 4 18 ([]) None;
}

--     _begin _goto B; A: B: C: outchar(97) _end
abbrev pub two_labels : Example
two_labels = record {
  program = (MkProgram []
      (MkCompound 1 (plainly (Jump 1 (alone 8 1)))
      (MoreStatements 1
      (OneUnconditional
      (MkUnconditional (label_place 9 1 1 ∷ label_place 8 1 1 ∷ label_place 10 1 1 ∷ [])
      (CallStatement (WithActuals (name 3 1) 1 (OneExpr (number 97 1)) NoActuals 1)))) NoStatements) 1) 1);
  unread = [];
  permitted = 60;
  limit = 400;
  told = told_as (codes "a") Ended 1 3 ([]) None;
}

--     _begin _begin _goto L; outchar(97) _end; outchar(98); _begin outchar(99); L: outchar(100) _end; outchar(101) _end
abbrev pub statements_of_a_compound : Example
statements_of_a_compound = record {
  program = (MkProgram []
      (MkCompound 1
      (plainly
      (OneGroup
      (MkCompound 1 (plainly (Jump 1 (alone 8 1)))
      (MoreStatements 1 (plainly (CallStatement (WithActuals (name 3 1) 1 (OneExpr (number 97 1)) NoActuals 1))) NoStatements)
      1)))
      (MoreStatements 1 (plainly (CallStatement (WithActuals (name 3 1) 1 (OneExpr (number 98 1)) NoActuals 1)))
      (MoreStatements 1
      (plainly
      (OneGroup
      (MkCompound 1 (plainly (CallStatement (WithActuals (name 3 1) 1 (OneExpr (number 99 1)) NoActuals 1)))
      (MoreStatements 1
      (OneUnconditional
      (MkUnconditional (label_place 8 1 1 ∷ []) (CallStatement (WithActuals (name 3 1) 1 (OneExpr (number 100 1)) NoActuals 1))))
      NoStatements) 1)))
      (MoreStatements 1 (plainly (CallStatement (WithActuals (name 3 1) 1 (OneExpr (number 101 1)) NoActuals 1))) NoStatements)))
      1) 1);
  unread = [];
  permitted = 60;
  limit = 400;
  told = told_as (codes "de") Ended 1 3 ([]) None;
}
