-- Label formals, switches, and what is undefined (Report 3.5, 4.3.5, 5.3).
use Rattle.std.specs.Prelude.{[], ◌∷◌, codes, Some, None, true, false}
use Rattle.gier_tree.specs.Trees.{MkNames, Add, Subtract, EqualTo, IfExpr, OneImplication, OneDisjunction, OneConjunction}
use Rattle.gier_tree.specs.Trees.{OneNegation, OneRelation, OneArithmetic, Compared, OneTerm, Summed, OneFactor, OnePrimary}
use Rattle.gier_tree.specs.Trees.{Numeral, Logical, Bracketed, OneCall, OneElement, Alone, WithActuals, Subscripted, OneExpr}
use Rattle.gier_tree.specs.Trees.{NoActuals, MoreActuals, NoExprs, MoreExprs, only, NoFormals, FormalList, NoValues, ValueList}
use Rattle.gier_tree.specs.Trees.{ValueSpec, LabelSpec, SwitchSpec, MkHeading, OneName, DeclareType, DeclareSwitch}
use Rattle.gier_tree.specs.Trees.{DeclareProcedure, NoDeclarations, MoreDeclarations, MkBlock, MkCompound, NoStatements}
use Rattle.gier_tree.specs.Trees.{MoreStatements, OneUnconditional, OneConditional, MkUnconditional, OneGroup, Assign, Jump}
use Rattle.gier_tree.specs.Trees.{CallStatement, IfThen, MkProgram}
use Rattle.gier_meaning.specs.Observation.{Ended}
use Rattle.gier_meaning.specs.Example.{Example, told_as, name, comma_name, label_place, integer_word, relation_expr, sum_expr}
use Rattle.gier_meaning.specs.Example.{number, alone, plainly}

--     _begin _switch s := L, M; _goto s[0]; outchar(97); _goto s[3]; outchar(98); _goto s[2]; outchar(99); L: outchar(100); M:
--     outchar(101) _end
abbrev pub switch : Example
switch = record {
  program = (MkProgram []
      (MkBlock 1 (DeclareSwitch 1 (name 8 1) 1 (alone 9 1) (MoreExprs 1 (alone 10 1) NoExprs)) 1 NoDeclarations
      (plainly (Jump 1 (only (OneElement (Subscripted (name 8 1) 1 (number 0 1) NoExprs 1)))))
      (MoreStatements 1 (plainly (CallStatement (WithActuals (name 3 1) 1 (OneExpr (number 97 1)) NoActuals 1)))
      (MoreStatements 1 (plainly (Jump 1 (only (OneElement (Subscripted (name 8 1) 1 (number 3 1) NoExprs 1)))))
      (MoreStatements 1 (plainly (CallStatement (WithActuals (name 3 1) 1 (OneExpr (number 98 1)) NoActuals 1)))
      (MoreStatements 1 (plainly (Jump 1 (only (OneElement (Subscripted (name 8 1) 1 (number 2 1) NoExprs 1)))))
      (MoreStatements 1 (plainly (CallStatement (WithActuals (name 3 1) 1 (OneExpr (number 99 1)) NoActuals 1)))
      (MoreStatements 1
      (OneUnconditional
      (MkUnconditional (label_place 9 1 1 ∷ []) (CallStatement (WithActuals (name 3 1) 1 (OneExpr (number 100 1)) NoActuals 1))))
      (MoreStatements 1
      (OneUnconditional
      (MkUnconditional (label_place 10 1 1 ∷ []) (CallStatement (WithActuals (name 3 1) 1 (OneExpr (number 101 1)) NoActuals 1))))
      NoStatements))))))) 1) 1);
  unread = [];
  permitted = 60;
  limit = 400;
  told = told_as (codes "abe") Ended 3 11 ([]) None;
}

--     _begin _procedure q(l); _label l; _goto l; q(M); outchar(97); M: outchar(98) _end
abbrev pub label_formal : Example
label_formal = record {
  program = (MkProgram []
      (MkBlock 1
      (DeclareProcedure
      (MkHeading None 1 (name 8 1) (FormalList 1 (MkNames (name 9 1) []) 1) 1 NoValues
      (record { specifier = (LabelSpec 1); names = (MkNames (name 9 1) []); semicolon = 1 } ∷ []))
      (plainly (Jump 1 (alone 9 1)))) 1 NoDeclarations
      (plainly (CallStatement (WithActuals (name 8 1) 1 (OneExpr (alone 10 1)) NoActuals 1)))
      (MoreStatements 1 (plainly (CallStatement (WithActuals (name 3 1) 1 (OneExpr (number 97 1)) NoActuals 1)))
      (MoreStatements 1
      (OneUnconditional
      (MkUnconditional (label_place 10 1 1 ∷ []) (CallStatement (WithActuals (name 3 1) 1 (OneExpr (number 98 1)) NoActuals 1))))
      NoStatements)) 1) 1);
  unread = [];
  permitted = 60;
  limit = 400;
  told = told_as (codes "b") Ended 4 20 ([]) None;
}

--     _begin _switch s := L; _procedure g(m); _label m; _goto m; g(s[2]); outchar(97); L: outchar(98) _end
abbrev pub undefined_through_a_formal : Example
undefined_through_a_formal = record {
  program = (MkProgram []
      (MkBlock 1 (DeclareSwitch 1 (name 8 1) 1 (alone 9 1) NoExprs) 1
      (MoreDeclarations
      (DeclareProcedure
      (MkHeading None 1 (name 10 1) (FormalList 1 (MkNames (name 11 1) []) 1) 1 NoValues
      (record { specifier = (LabelSpec 1); names = (MkNames (name 11 1) []); semicolon = 1 } ∷ []))
      (plainly (Jump 1 (alone 11 1)))) 1 NoDeclarations)
      (plainly
      (CallStatement
      (WithActuals (name 10 1) 1 (OneExpr (only (OneElement (Subscripted (name 8 1) 1 (number 2 1) NoExprs 1)))) NoActuals 1)))
      (MoreStatements 1 (plainly (CallStatement (WithActuals (name 3 1) 1 (OneExpr (number 97 1)) NoActuals 1)))
      (MoreStatements 1
      (OneUnconditional
      (MkUnconditional (label_place 9 1 1 ∷ []) (CallStatement (WithActuals (name 3 1) 1 (OneExpr (number 98 1)) NoActuals 1))))
      NoStatements)) 1) 1);
  unread = [];
  permitted = 60;
  limit = 400;
  told = told_as (codes "ab") Ended 3 20 ([]) None;
}

--     _begin _switch s := L, (_if _true _then s[5] _else L); _goto _if _false _then L _else s[0]; outchar(97); _goto (s[2]);
--     outchar(98); L: outchar(99) _end
abbrev pub undefined_in_a_branch : Example
undefined_in_a_branch = record {
  program = (MkProgram []
      (MkBlock 1
      (DeclareSwitch 1 (name 8 1) 1 (alone 9 1)
      (MoreExprs 1
      (only
      (Bracketed 1
      (IfExpr 1 (only (Logical true 1)) 1
      (OneImplication
      (OneDisjunction
      (OneConjunction
      (OneNegation
      (OneRelation (OneArithmetic (OneTerm (OneFactor (OnePrimary (OneElement (Subscripted (name 8 1) 1
      (number 5 1) NoExprs 1)))))))))))
      1 (alone 9 1)) 1)) NoExprs)) 1 NoDeclarations
      (plainly
      (Jump 1
      (IfExpr 1 (only (Logical false 1)) 1
      (OneImplication
      (OneDisjunction
      (OneConjunction (OneNegation (OneRelation (OneArithmetic (OneTerm (OneFactor (OnePrimary (OneCall (Alone (name 9 1))))))))))))
      1 (only (OneElement (Subscripted (name 8 1) 1 (number 0 1) NoExprs 1))))))
      (MoreStatements 1 (plainly (CallStatement (WithActuals (name 3 1) 1 (OneExpr (number 97 1)) NoActuals 1)))
      (MoreStatements 1
      (plainly (Jump 1 (only (Bracketed 1 (only (OneElement (Subscripted (name 8 1) 1 (number 2 1) NoExprs 1))) 1))))
      (MoreStatements 1 (plainly (CallStatement (WithActuals (name 3 1) 1 (OneExpr (number 98 1)) NoActuals 1)))
      (MoreStatements 1
      (OneUnconditional
      (MkUnconditional (label_place 9 1 1 ∷ []) (CallStatement (WithActuals (name 3 1) 1 (OneExpr (number 99 1)) NoActuals 1))))
      NoStatements)))) 1) 1);
  unread = [];
  permitted = 60;
  limit = 400;
  told = told_as (codes "abc") Ended 2 11 ([]) None;
}

--     _begin _integer i; _switch s := _if i = 1 _then L _else M, s[1]; i := 1; _goto s[2]; M: outchar(109); L: outchar(108) _end
abbrev pub elements_evaluated_at_use : Example
elements_evaluated_at_use = record {
  program = (MkProgram []
      (MkBlock 1 (DeclareType (integer_word 1) (MkNames (name 8 1) [])) 1
      (MoreDeclarations
      (DeclareSwitch 1 (name 9 1) 1
      (IfExpr 1
      (relation_expr
      (Compared (OneTerm (OneFactor (OnePrimary (OneCall (Alone (name 8 1)))))) EqualTo 1
      (OneTerm (OneFactor (OnePrimary (Numeral 1 1)))))) 1
      (OneImplication
      (OneDisjunction
      (OneConjunction (OneNegation (OneRelation (OneArithmetic (OneTerm (OneFactor (OnePrimary (OneCall (Alone
      (name 10 1))))))))))))
      1 (alone 11 1)) (MoreExprs 1 (only (OneElement (Subscripted (name 9 1) 1 (number 1 1) NoExprs 1))) NoExprs)) 1
      NoDeclarations) (plainly (Assign (record { left = (OneName (name 8 1)); becomes = 1 }) [] (number 1 1)))
      (MoreStatements 1 (plainly (Jump 1 (only (OneElement (Subscripted (name 9 1) 1 (number 2 1) NoExprs 1)))))
      (MoreStatements 1
      (OneUnconditional
      (MkUnconditional (label_place 11 1 1 ∷ []) (CallStatement (WithActuals (name 3 1) 1 (OneExpr (number 109 1)) NoActuals 1))))
      (MoreStatements 1
      (OneUnconditional
      (MkUnconditional (label_place 10 1 1 ∷ []) (CallStatement (WithActuals (name 3 1) 1 (OneExpr (number 108 1)) NoActuals 1))))
      NoStatements))) 1) 1);
  unread = [];
  permitted = 60;
  limit = 400;
  told = told_as (codes "l") Ended 4 19 ([]) None;
}

--     _begin _procedure p(s, i); _value i; _switch s; _integer i; _begin _goto s[i]; outinteger(i) _end; _switch t := L, M;
--     p(t, 3); p(t, 2); L: outchar(108); M: outchar(109) _end
abbrev pub switch_formal : Example
switch_formal = record {
  program = (MkProgram []
      (MkBlock 1
      (DeclareProcedure
      (MkHeading None 1 (name 8 1) (FormalList 1 (MkNames (name 9 1) (comma_name 1 10 1 ∷ [])) 1) 1
      (ValueList 1 (MkNames (name 10 1) []) 1)
      (record { specifier = (SwitchSpec 1); names = (MkNames (name 9 1) []); semicolon = 1 } ∷ record {
        specifier =
            (ValueSpec (integer_word 1));
        names = (MkNames (name 10 1) []);
        semicolon = 1;
      } ∷ []))
      (plainly
      (OneGroup
      (MkCompound 1 (plainly (Jump 1 (only (OneElement (Subscripted (name 9 1) 1 (alone 10 1) NoExprs 1)))))
      (MoreStatements 1 (plainly (CallStatement (WithActuals (name 0 1) 1 (OneExpr (alone 10 1)) NoActuals 1))) NoStatements)
      1)))) 1
      (MoreDeclarations (DeclareSwitch 1 (name 11 1) 1 (alone 12 1) (MoreExprs 1 (alone 13 1) NoExprs)) 1 NoDeclarations)
      (plainly (CallStatement (WithActuals (name 8 1) 1 (OneExpr (alone 11 1)) (MoreActuals 1 (OneExpr (number 3 1)) NoActuals) 1)))
      (MoreStatements 1
      (plainly (CallStatement (WithActuals (name 8 1) 1 (OneExpr (alone 11 1)) (MoreActuals 1 (OneExpr (number 2 1)) NoActuals) 1)))
      (MoreStatements 1
      (OneUnconditional
      (MkUnconditional (label_place 12 1 1 ∷ []) (CallStatement (WithActuals (name 3 1) 1 (OneExpr (number 108 1)) NoActuals 1))))
      (MoreStatements 1
      (OneUnconditional
      (MkUnconditional (label_place 13 1 1 ∷ []) (CallStatement (WithActuals (name 3 1) 1 (OneExpr (number 109 1)) NoActuals 1))))
      NoStatements))) 1) 1);
  unread = [];
  permitted = 60;
  limit = 400;
  told = told_as (codes "3m") Ended 5 24 ([]) None;
}

--     _begin _switch s := L; _begin _integer i; _goto s[1]; L: outchar(97) _end; L: outchar(98) _end
abbrev pub switch_where_it_is_declared : Example
switch_where_it_is_declared = record {
  program = (MkProgram []
      (MkBlock 1 (DeclareSwitch 1 (name 8 1) 1 (alone 9 1) NoExprs) 1 NoDeclarations
      (plainly
      (OneGroup
      (MkBlock 1 (DeclareType (integer_word 1) (MkNames (name 10 1) [])) 1 NoDeclarations
      (plainly (Jump 1 (only (OneElement (Subscripted (name 8 1) 1 (number 1 1) NoExprs 1)))))
      (MoreStatements 1
      (OneUnconditional
      (MkUnconditional (label_place 9 1 1 ∷ []) (CallStatement (WithActuals (name 3 1) 1 (OneExpr (number 97 1)) NoActuals 1))))
      NoStatements) 1)))
      (MoreStatements 1
      (OneUnconditional
      (MkUnconditional (label_place 9 1 1 ∷ []) (CallStatement (WithActuals (name 3 1) 1 (OneExpr (number 98 1)) NoActuals 1))))
      NoStatements) 1) 1);
  unread = [];
  permitted = 60;
  limit = 400;
  told = told_as (codes "b") Ended 4 15 ([]) None;
}

--     _begin _procedure p(n, l); _value n; _integer n; _label l; _begin _if n = 0 _then _goto l; p(n - 1, _if n = 2 _then M
--     _else l); outchar(97); M: outinteger(n) _end; p(2, N); outchar(98); N: outchar(99) _end
abbrev pub label_of_its_activation : Example
label_of_its_activation = record {
  program = (MkProgram []
      (MkBlock 1
      (DeclareProcedure
      (MkHeading None 1 (name 8 1) (FormalList 1 (MkNames (name 9 1) (comma_name 1 10 1 ∷ [])) 1) 1
      (ValueList 1 (MkNames (name 9 1) []) 1)
      (record { specifier = (ValueSpec (integer_word 1)); names = (MkNames (name 9 1) []); semicolon = 1 } ∷ record {
        specifier =
            (LabelSpec 1);
        names = (MkNames (name 10 1) []);
        semicolon = 1;
      } ∷ []))
      (plainly
      (OneGroup
      (MkCompound 1
      (OneConditional
      (IfThen [] 1
      (relation_expr
      (Compared (OneTerm (OneFactor (OnePrimary (OneCall (Alone (name 9 1)))))) EqualTo 1
      (OneTerm (OneFactor (OnePrimary (Numeral 0 1)))))) 1 (MkUnconditional [] (Jump 1 (alone 10 1)))))
      (MoreStatements 1
      (plainly
      (CallStatement
      (WithActuals (name 8 1) 1
      (OneExpr
      (sum_expr
      (Summed (OneTerm (OneFactor (OnePrimary (OneCall (Alone (name 9 1)))))) Subtract 1 (OneFactor (OnePrimary (Numeral 1 1))))))
      (MoreActuals 1
      (OneExpr
      (IfExpr 1
      (relation_expr
      (Compared (OneTerm (OneFactor (OnePrimary (OneCall (Alone (name 9 1)))))) EqualTo 1
      (OneTerm (OneFactor (OnePrimary (Numeral 2 1)))))) 1
      (OneImplication
      (OneDisjunction
      (OneConjunction (OneNegation (OneRelation (OneArithmetic (OneTerm (OneFactor (OnePrimary (OneCall (Alone
      (name 11 1))))))))))))
      1 (alone 10 1))) NoActuals) 1)))
      (MoreStatements 1 (plainly (CallStatement (WithActuals (name 3 1) 1 (OneExpr (number 97 1)) NoActuals 1)))
      (MoreStatements 1
      (OneUnconditional
      (MkUnconditional (label_place 11 1 1 ∷ []) (CallStatement (WithActuals (name 0 1) 1 (OneExpr (alone 9 1)) NoActuals 1))))
      NoStatements))) 1)))) 1 NoDeclarations
      (plainly (CallStatement (WithActuals (name 8 1) 1 (OneExpr (number 2 1)) (MoreActuals 1 (OneExpr (alone 12 1)) NoActuals) 1)))
      (MoreStatements 1 (plainly (CallStatement (WithActuals (name 3 1) 1 (OneExpr (number 98 1)) NoActuals 1)))
      (MoreStatements 1
      (OneUnconditional
      (MkUnconditional (label_place 12 1 1 ∷ []) (CallStatement (WithActuals (name 3 1) 1 (OneExpr (number 99 1)) NoActuals 1))))
      NoStatements)) 1) 1);
  unread = [];
  permitted = 60;
  limit = 400;
  told = told_as (codes "2bc") Ended 7 61 ([]) None;
}

--     _begin _integer c; _integer _procedure n; _begin c := c + 1; n := c _end; _switch s := L, M; _goto s[n + n]; L:
--     outchar(108); M: outinteger(c) _end
abbrev pub subscript_with_side_effects : Example
subscript_with_side_effects = record {
  program = (MkProgram []
      (MkBlock 1 (DeclareType (integer_word 1) (MkNames (name 8 1) [])) 1
      (MoreDeclarations
      (DeclareProcedure (MkHeading (Some (integer_word 1)) 1 (name 9 1) NoFormals 1 NoValues [])
      (plainly
      (OneGroup
      (MkCompound 1
      (plainly
      (Assign (record { left = (OneName (name 8 1)); becomes = 1 }) []
      (sum_expr (Summed (OneTerm (OneFactor (OnePrimary (OneCall (Alone (name 8 1)))))) Add 1 (OneFactor
      (OnePrimary (Numeral 1 1)))))))
      (MoreStatements 1 (plainly (Assign (record { left = (OneName (name 9 1)); becomes = 1 }) [] (alone 8 1))) NoStatements)
      1)))) 1
      (MoreDeclarations (DeclareSwitch 1 (name 10 1) 1 (alone 11 1) (MoreExprs 1 (alone 12 1) NoExprs)) 1 NoDeclarations))
      (plainly
      (Jump 1
      (only
      (OneElement
      (Subscripted (name 10 1) 1
      (sum_expr
      (Summed (OneTerm (OneFactor (OnePrimary (OneCall (Alone (name 9 1)))))) Add 1
      (OneFactor (OnePrimary (OneCall (Alone (name 9 1))))))) NoExprs 1)))))
      (MoreStatements 1
      (OneUnconditional
      (MkUnconditional (label_place 11 1 1 ∷ []) (CallStatement (WithActuals (name 3 1) 1 (OneExpr (number 108 1)) NoActuals 1))))
      (MoreStatements 1
      (OneUnconditional
      (MkUnconditional (label_place 12 1 1 ∷ []) (CallStatement (WithActuals (name 0 1) 1 (OneExpr (alone 8 1)) NoActuals 1))))
      NoStatements)) 1) 1);
  unread = [];
  permitted = 60;
  limit = 400;
  told = told_as (codes "l2") Ended 3 16 ([]) None;
}

--     _begin _integer _procedure f; _begin f := 1; _goto M _end; _switch s := L, _if f = 1 _then L _else M; _goto s[2]; L:
--     outchar(108); M: outchar(109) _end
abbrev pub leaves_a_switch_element : Example
leaves_a_switch_element = record {
  program = (MkProgram []
      (MkBlock 1
      (DeclareProcedure (MkHeading (Some (integer_word 1)) 1 (name 8 1) NoFormals 1 NoValues [])
      (plainly
      (OneGroup
      (MkCompound 1 (plainly (Assign (record { left = (OneName (name 8 1)); becomes = 1 }) [] (number 1 1)))
      (MoreStatements 1 (plainly (Jump 1 (alone 9 1))) NoStatements) 1)))) 1
      (MoreDeclarations
      (DeclareSwitch 1 (name 10 1) 1 (alone 11 1)
      (MoreExprs 1
      (IfExpr 1
      (relation_expr
      (Compared (OneTerm (OneFactor (OnePrimary (OneCall (Alone (name 8 1)))))) EqualTo 1
      (OneTerm (OneFactor (OnePrimary (Numeral 1 1)))))) 1
      (OneImplication
      (OneDisjunction
      (OneConjunction (OneNegation (OneRelation (OneArithmetic (OneTerm (OneFactor (OnePrimary (OneCall (Alone
      (name 11 1))))))))))))
      1 (alone 9 1)) NoExprs)) 1 NoDeclarations)
      (plainly (Jump 1 (only (OneElement (Subscripted (name 10 1) 1 (number 2 1) NoExprs 1)))))
      (MoreStatements 1
      (OneUnconditional
      (MkUnconditional (label_place 11 1 1 ∷ []) (CallStatement (WithActuals (name 3 1) 1 (OneExpr (number 108 1)) NoActuals 1))))
      (MoreStatements 1
      (OneUnconditional
      (MkUnconditional (label_place 9 1 1 ∷ []) (CallStatement (WithActuals (name 3 1) 1 (OneExpr (number 109 1)) NoActuals 1))))
      NoStatements)) 1) 1);
  unread = [];
  permitted = 60;
  limit = 400;
  told = told_as (codes "m") Ended 4 19 ([]) None;
}
