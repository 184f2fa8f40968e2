-- Operators, standard procedures and data, with their alarms (Report 3.3, 3.4).
use Rattle.std.specs.Prelude.{[], ◌∷◌, codes, Some, None, true, false}
use Rattle.gier_tree.specs.Trees.{MkNames, Add, Subtract, Multiply, Divide, LessThan, AtMost, EqualTo, AtLeast, MoreThan, Unequal}
use Rattle.gier_tree.specs.Trees.{IfExpr, OneImplication, Equivalent, OneDisjunction, Implies, OneConjunction, Either}
use Rattle.gier_tree.specs.Trees.{OneNegation, Both, OneRelation, Negated, OneArithmetic, Compared, OneTerm, Signed, Summed}
use Rattle.gier_tree.specs.Trees.{OneFactor, Multiplied, OnePrimary, Raised, Numeral, Logical, Bracketed, OneCall, Alone}
use Rattle.gier_tree.specs.Trees.{WithActuals, OneExpr, AString, NoActuals, only, NoFormals, FormalList, NoValues, ValueList}
use Rattle.gier_tree.specs.Trees.{ValueSpec, MkHeading, OneName, DeclareType, DeclareProcedure, NoDeclarations, MkBlock}
use Rattle.gier_tree.specs.Trees.{MkCompound, NoStatements, MoreStatements, OneConditional, MkUnconditional, OneGroup, Assign}
use Rattle.gier_tree.specs.Trees.{CallStatement, IfThen, MkProgram}
use Rattle.gier_word.specs.declared.alarm.Alarm.TheVariants.{Spill, Division, Power, Character, Data}
use Rattle.gier_meaning.specs.Live.{InProgram, InBlock}
use Rattle.gier_meaning.specs.Outcome.{Alarmed}
use Rattle.gier_meaning.specs.Observation.{Ended, Stopped}
use Rattle.gier_meaning.specs.Example.{Example, told_as, live, stop_at, name, byte, integer_word, boolean_word, simple_expr}
use Rattle.gier_meaning.specs.Example.{implication_expr, disjunction_expr, conjunction_expr, negation_expr, relation_expr}
use Rattle.gier_meaning.specs.Example.{sum_expr, term_expr, factor_expr, number, alone, plainly}

--     _begin _integer a; a := 1+2*3; outinteger(a) _end
abbrev pub sum_and_product : Example
sum_and_product = record {
  program = (MkProgram []
      (MkBlock 1 (DeclareType (integer_word 1) (MkNames (name 8 1) [])) 1 NoDeclarations
      (plainly
      (Assign (record { left = (OneName (name 8 1)); becomes = 1 }) []
      (sum_expr
      (Summed (OneTerm (OneFactor (OnePrimary (Numeral 1 1)))) Add 1
      (Multiplied (OneFactor (OnePrimary (Numeral 2 1))) Multiply 1 (OnePrimary (Numeral 3 1)))))))
      (MoreStatements 1 (plainly (CallStatement (WithActuals (name 0 1) 1 (OneExpr (alone 8 1)) NoActuals 1))) NoStatements)
      1) 1);
  unread = [];
  permitted = 60;
  limit = 400;
  told = told_as (codes "7") Ended 1 10 ([]) None;
}

--     _begin outinteger(2^3^2); outinteger(-2^2); outinteger((-7) _div 2); outinteger(7-2-1) _end
abbrev pub from_the_left : Example
from_the_left = record {
  program = (MkProgram []
      (MkCompound 1
      (plainly
      (CallStatement
      (WithActuals (name 0 1) 1 (OneExpr (factor_expr (Raised (Raised (OnePrimary (Numeral 2 1)) 1 (Numeral 3 1)) 1 (Numeral 2 1))))
      NoActuals 1)))
      (MoreStatements 1
      (plainly
      (CallStatement
      (WithActuals (name 0 1) 1
      (OneExpr (sum_expr (Signed Subtract 1 (OneFactor (Raised (OnePrimary (Numeral 2 1)) 1 (Numeral 2 1))))))
      NoActuals 1)))
      (MoreStatements 1
      (plainly
      (CallStatement
      (WithActuals (name 0 1) 1
      (OneExpr
      (term_expr
      (Multiplied (OneFactor (OnePrimary (Bracketed 1 (sum_expr (Signed Subtract 1 (OneFactor (OnePrimary (Numeral 7 1))))) 1)))
      Divide 1 (OnePrimary (Numeral 2 1))))) NoActuals 1)))
      (MoreStatements 1
      (plainly
      (CallStatement
      (WithActuals (name 0 1) 1
      (OneExpr
      (sum_expr
      (Summed (Summed (OneTerm (OneFactor (OnePrimary (Numeral 7 1)))) Subtract 1 (OneFactor (OnePrimary (Numeral 2 1)))) Subtract 1
      (OneFactor (OnePrimary (Numeral 1 1)))))) NoActuals 1))) NoStatements))) 1) 1);
  unread = [];
  permitted = 60;
  limit = 400;
  told = told_as (codes "64-4-34") Ended 0 4 ([]) None;
}

--     _begin _integer _procedure n(b); _value b; _boolean b; n := _if b _then 1 _else 0;
--     outinteger(n(1<2)); outinteger(n(2<=1)); outinteger(n(3=3)); outinteger(n(3>=4)); outinteger(n(4>3)); outinteger(n(4<>4))
--     _end
abbrev pub relations : Example
relations = record {
  program = (MkProgram []
      (MkBlock 1
      (DeclareProcedure
      (MkHeading (Some (integer_word 1)) 1 (name 8 1) (FormalList 1 (MkNames (name 9 1) []) 1) 1
      (ValueList 1 (MkNames (name 9 1) []) 1)
      (record { specifier = (ValueSpec (boolean_word 1)); names = (MkNames (name 9 1) []); semicolon = 1 } ∷ []))
      (plainly
      (Assign (record { left = (OneName (name 8 1)); becomes = 1 }) []
      (IfExpr 1 (alone 9 1) 1
      (OneImplication
      (OneDisjunction (OneConjunction (OneNegation (OneRelation (OneArithmetic (OneTerm (OneFactor (OnePrimary
      (Numeral 1 1))))))))))
      1 (number 0 1))))) 1 NoDeclarations
      (plainly
      (CallStatement
      (WithActuals (name 0 2) 2
      (OneExpr
      (only
      (OneCall
      (WithActuals (name 8 2) 2
      (OneExpr
      (relation_expr
      (Compared (OneTerm (OneFactor (OnePrimary (Numeral 1 2)))) LessThan 2 (OneTerm (OneFactor (OnePrimary (Numeral 2 2)))))))
      NoActuals 2)))) NoActuals 2)))
      (MoreStatements 2
      (plainly
      (CallStatement
      (WithActuals (name 0 2) 2
      (OneExpr
      (only
      (OneCall
      (WithActuals (name 8 2) 2
      (OneExpr
      (relation_expr
      (Compared (OneTerm (OneFactor (OnePrimary (Numeral 2 2)))) AtMost 2 (OneTerm (OneFactor (OnePrimary (Numeral 1 2)))))))
      NoActuals 2)))) NoActuals 2)))
      (MoreStatements 2
      (plainly
      (CallStatement
      (WithActuals (name 0 2) 2
      (OneExpr
      (only
      (OneCall
      (WithActuals (name 8 2) 2
      (OneExpr
      (relation_expr
      (Compared (OneTerm (OneFactor (OnePrimary (Numeral 3 2)))) EqualTo 2 (OneTerm (OneFactor (OnePrimary (Numeral 3 2)))))))
      NoActuals 2)))) NoActuals 2)))
      (MoreStatements 2
      (plainly
      (CallStatement
      (WithActuals (name 0 2) 2
      (OneExpr
      (only
      (OneCall
      (WithActuals (name 8 2) 2
      (OneExpr
      (relation_expr
      (Compared (OneTerm (OneFactor (OnePrimary (Numeral 3 2)))) AtLeast 2 (OneTerm (OneFactor (OnePrimary (Numeral 4 2)))))))
      NoActuals 2)))) NoActuals 2)))
      (MoreStatements 2
      (plainly
      (CallStatement
      (WithActuals (name 0 2) 2
      (OneExpr
      (only
      (OneCall
      (WithActuals (name 8 2) 2
      (OneExpr
      (relation_expr
      (Compared (OneTerm (OneFactor (OnePrimary (Numeral 4 2)))) MoreThan 2 (OneTerm (OneFactor (OnePrimary (Numeral 3 2)))))))
      NoActuals 2)))) NoActuals 2)))
      (MoreStatements 2
      (plainly
      (CallStatement
      (WithActuals (name 0 2) 2
      (OneExpr
      (only
      (OneCall
      (WithActuals (name 8 2) 2
      (OneExpr
      (relation_expr
      (Compared (OneTerm (OneFactor (OnePrimary (Numeral 4 2)))) Unequal 2 (OneTerm (OneFactor (OnePrimary (Numeral 4 2)))))))
      NoActuals 2)))) NoActuals 2))) NoStatements))))) 2) 2);
  unread = [];
  permitted = 60;
  limit = 400;
  told = told_as (codes "101010") Ended 7 17 ([]) None;
}

--     _begin _integer _procedure n(b); _value b; _boolean b; n := _if b _then 1 _else 0;
--     outinteger(n(_not _true)); outinteger(n(_true _and _false)); outinteger(n(_true _or _false));
--     outinteger(n(_false _impl _false)); outinteger(n(_true _equiv _false)) _end
abbrev pub logical : Example
logical = record {
  program = (MkProgram []
      (MkBlock 1
      (DeclareProcedure
      (MkHeading (Some (integer_word 1)) 1 (name 8 1) (FormalList 1 (MkNames (name 9 1) []) 1) 1
      (ValueList 1 (MkNames (name 9 1) []) 1)
      (record { specifier = (ValueSpec (boolean_word 1)); names = (MkNames (name 9 1) []); semicolon = 1 } ∷ []))
      (plainly
      (Assign (record { left = (OneName (name 8 1)); becomes = 1 }) []
      (IfExpr 1 (alone 9 1) 1
      (OneImplication
      (OneDisjunction (OneConjunction (OneNegation (OneRelation (OneArithmetic (OneTerm (OneFactor (OnePrimary
      (Numeral 1 1))))))))))
      1 (number 0 1))))) 1 NoDeclarations
      (plainly
      (CallStatement
      (WithActuals (name 0 2) 2
      (OneExpr
      (only
      (OneCall
      (WithActuals (name 8 2) 2
      (OneExpr (negation_expr (Negated 2 (OneArithmetic (OneTerm (OneFactor (OnePrimary (Logical true 2))))))))
      NoActuals 2)))) NoActuals 2)))
      (MoreStatements 2
      (plainly
      (CallStatement
      (WithActuals (name 0 2) 2
      (OneExpr
      (only
      (OneCall
      (WithActuals (name 8 2) 2
      (OneExpr
      (conjunction_expr
      (Both (OneNegation (OneRelation (OneArithmetic (OneTerm (OneFactor (OnePrimary (Logical true 2))))))) 2
      (OneRelation (OneArithmetic (OneTerm (OneFactor (OnePrimary (Logical false 2))))))))) NoActuals
      2)))) NoActuals 2)))
      (MoreStatements 2
      (plainly
      (CallStatement
      (WithActuals (name 0 2) 2
      (OneExpr
      (only
      (OneCall
      (WithActuals (name 8 2) 2
      (OneExpr
      (disjunction_expr
      (Either (OneConjunction (OneNegation (OneRelation (OneArithmetic (OneTerm (OneFactor (OnePrimary (Logical true 2)))))))) 2
      (OneNegation (OneRelation (OneArithmetic (OneTerm (OneFactor (OnePrimary (Logical false 2))))))))))
      NoActuals 2)))) NoActuals 2)))
      (MoreStatements 2
      (plainly
      (CallStatement
      (WithActuals (name 0 3) 3
      (OneExpr
      (only
      (OneCall
      (WithActuals (name 8 3) 3
      (OneExpr
      (implication_expr
      (Implies
      (OneDisjunction
      (OneConjunction (OneNegation (OneRelation (OneArithmetic (OneTerm (OneFactor (OnePrimary (Logical false 3)))))))))
      3
      (OneConjunction (OneNegation (OneRelation (OneArithmetic (OneTerm (OneFactor (OnePrimary (Logical false 3)))))))))))
      NoActuals 3)))) NoActuals 3)))
      (MoreStatements 3
      (plainly
      (CallStatement
      (WithActuals (name 0 3) 3
      (OneExpr
      (only
      (OneCall
      (WithActuals (name 8 3) 3
      (OneExpr
      (simple_expr
      (Equivalent
      (OneImplication
      (OneDisjunction (OneConjunction (OneNegation (OneRelation (OneArithmetic (OneTerm (OneFactor (OnePrimary
      (Logical true 3))))))))))
      3
      (OneDisjunction
      (OneConjunction (OneNegation (OneRelation (OneArithmetic (OneTerm (OneFactor (OnePrimary (Logical false 3))))))))))))
      NoActuals 3)))) NoActuals 3))) NoStatements)))) 3) 3);
  unread = [];
  permitted = 60;
  limit = 400;
  told = told_as (codes "00110") Ended 6 17 ([]) None;
}

--     _begin _boolean _procedure p; _begin outchar(112); p := _true _end; _if _true _or p _then outcr _end
abbrev pub both_operands : Example
both_operands = record {
  program = (MkProgram []
      (MkBlock 1
      (DeclareProcedure (MkHeading (Some (boolean_word 1)) 1 (name 8 1) NoFormals 1 NoValues [])
      (plainly
      (OneGroup
      (MkCompound 1 (plainly (CallStatement (WithActuals (name 3 1) 1 (OneExpr (number 112 1)) NoActuals 1)))
      (MoreStatements 1 (plainly (Assign (record { left = (OneName (name 8 1)); becomes = 1 }) [] (only (Logical true 1))))
      NoStatements) 1)))) 1 NoDeclarations
      (OneConditional
      (IfThen [] 1
      (disjunction_expr
      (Either (OneConjunction (OneNegation (OneRelation (OneArithmetic (OneTerm (OneFactor (OnePrimary (Logical true 1)))))))) 1
      (OneNegation (OneRelation (OneArithmetic (OneTerm (OneFactor (OnePrimary (OneCall (Alone (name 8 1)))))))))))
      1 (MkUnconditional [] (CallStatement (Alone (name 2 1)))))) NoStatements 1) 1);
  unread = [];
  permitted = 60;
  limit = 400;
  told = told_as ((112 ∷ 10 ∷ [])) Ended 2 14 ([]) None;
}

--     _begin outinteger(abs(-5)); outinteger(sign(-5)); outinteger(sign(0)); outtext({ok}); outchar(33) _end
abbrev pub standard : Example
standard = record {
  program = (MkProgram []
      (MkCompound 1
      (plainly
      (CallStatement
      (WithActuals (name 0 1) 1
      (OneExpr
      (only
      (OneCall (WithActuals (name 6 1) 1
      (OneExpr (sum_expr (Signed Subtract 1 (OneFactor (OnePrimary (Numeral 5 1)))))) NoActuals 1))))
      NoActuals 1)))
      (MoreStatements 1
      (plainly
      (CallStatement
      (WithActuals (name 0 1) 1
      (OneExpr
      (only
      (OneCall (WithActuals (name 7 1) 1
      (OneExpr (sum_expr (Signed Subtract 1 (OneFactor (OnePrimary (Numeral 5 1)))))) NoActuals 1))))
      NoActuals 1)))
      (MoreStatements 1
      (plainly
      (CallStatement
      (WithActuals (name 0 1) 1
      (OneExpr (only (OneCall (WithActuals (name 7 1) 1 (OneExpr (number 0 1)) NoActuals 1)))) NoActuals 1)))
      (MoreStatements 1
      (plainly (CallStatement (WithActuals (name 1 1) 1 (AString 1 (byte 111 1 ∷ byte 107 1 ∷ []) 1) NoActuals 1)))
      (MoreStatements 1 (plainly (CallStatement (WithActuals (name 3 1) 1 (OneExpr (number 33 1)) NoActuals 1))) NoStatements))))
      1) 1);
  unread = [];
  permitted = 60;
  limit = 400;
  told = told_as (codes "5-10ok!") Ended 0 3 ([]) None;
}

--     _begin outinteger(ininteger); outinteger(ininteger); outinteger(inchar); outinteger(inchar) _end
abbrev pub reads : Example
reads = record {
  program = (MkProgram []
      (MkCompound 1 (plainly (CallStatement (WithActuals (name 0 1) 1 (OneExpr (alone 4 1)) NoActuals 1)))
      (MoreStatements 1 (plainly (CallStatement (WithActuals (name 0 1) 1 (OneExpr (alone 4 1)) NoActuals 1)))
      (MoreStatements 1 (plainly (CallStatement (WithActuals (name 0 1) 1 (OneExpr (alone 5 1)) NoActuals 1)))
      (MoreStatements 1 (plainly (CallStatement (WithActuals (name 0 1) 1 (OneExpr (alone 5 1)) NoActuals 1))) NoStatements)))
      1) 1);
  unread = codes " -12,7;AB";
  permitted = 60;
  limit = 400;
  told = told_as (codes "-1276566") Ended 0 3 ([]) None;
}

--     _begin outinteger(inchar); inchar; outinteger(ininteger) _end
abbrev pub end_of_data : Example
end_of_data = record {
  program = (MkProgram []
      (MkCompound 1 (plainly (CallStatement (WithActuals (name 0 1) 1 (OneExpr (alone 5 1)) NoActuals 1)))
      (MoreStatements 1 (plainly (CallStatement (Alone (name 5 1))))
      (MoreStatements 1 (plainly (CallStatement (WithActuals (name 0 1) 1 (OneExpr (alone 4 1)) NoActuals 1))) NoStatements))
      1) 1);
  unread = codes "a";
  permitted = 60;
  limit = 400;
  told = told_as (codes "97") (Stopped (Alarmed Data)) 0 3 ([]) (stop_at (live InProgram 3 ∷ []) 1);
}

--     _begin
--     outtext({a});
--     ininteger _end
abbrev pub no_digit : Example
no_digit = record {
  program = (MkProgram []
      (MkCompound 1 (plainly (CallStatement (WithActuals (name 1 2) 2 (AString 2 (byte 97 2 ∷ []) 2) NoActuals 2)))
      (MoreStatements 2 (plainly (CallStatement (Alone (name 4 3)))) NoStatements) 3) 3);
  unread = codes "  x1";
  permitted = 60;
  limit = 400;
  told = told_as (codes "a") (Stopped (Alarmed Data)) 0 3 (codes "1") (stop_at (live InProgram 3 ∷ []) 3);
}

--     _begin outinteger(549755813887);
--     outinteger(549755813887+1) _end
abbrev pub spill : Example
spill = record {
  program = (MkProgram []
      (MkCompound 1 (plainly (CallStatement (WithActuals (name 0 1) 1 (OneExpr (number 549755813887 1)) NoActuals 1)))
      (MoreStatements 1
      (plainly
      (CallStatement
      (WithActuals (name 0 2) 2
      (OneExpr
      (sum_expr (Summed (OneTerm (OneFactor (OnePrimary (Numeral 549755813887 2)))) Add 2 (OneFactor (OnePrimary (Numeral 1 2))))))
      NoActuals 2))) NoStatements) 2) 2);
  unread = [];
  permitted = 60;
  limit = 400;
  told = told_as (codes "549755813887") (Stopped (Alarmed Spill)) 0 4 ([]) (stop_at (live InProgram 4 ∷ []) 2);
}

--     _begin outinteger(-549755813887-1);
--     outinteger(
--     -(-549755813887-1)) _end
abbrev pub spill_of_a_sign : Example
spill_of_a_sign = record {
  program = (MkProgram []
      (MkCompound 1
      (plainly
      (CallStatement
      (WithActuals (name 0 1) 1
      (OneExpr
      (sum_expr
      (Summed (Signed Subtract 1 (OneFactor (OnePrimary (Numeral 549755813887 1)))) Subtract 1 (OneFactor
      (OnePrimary (Numeral 1 1))))))
      NoActuals 1)))
      (MoreStatements 1
      (plainly
      (CallStatement
      (WithActuals (name 0 2) 2
      (OneExpr
      (sum_expr
      (Signed Subtract 3
      (OneFactor
      (OnePrimary
      (Bracketed 3
      (sum_expr
      (Summed (Signed Subtract 3 (OneFactor (OnePrimary (Numeral 549755813887 3)))) Subtract 3 (OneFactor
      (OnePrimary (Numeral 1 3)))))
      3)))))) NoActuals 3))) NoStatements) 3) 3);
  unread = [];
  permitted = 60;
  limit = 400;
  told = told_as (codes "-549755813888") (Stopped (Alarmed Spill)) 0 4 ([]) (stop_at (live InProgram 4 ∷ []) 3);
}

--     _begin outinteger(
--     abs(-549755813887-1)) _end
abbrev pub spill_of_abs : Example
spill_of_abs = record {
  program = (MkProgram []
      (MkCompound 1
      (plainly
      (CallStatement
      (WithActuals (name 0 1) 1
      (OneExpr
      (only
      (OneCall
      (WithActuals (name 6 2) 2
      (OneExpr
      (sum_expr
      (Summed (Signed Subtract 2 (OneFactor (OnePrimary (Numeral 549755813887 2)))) Subtract 2 (OneFactor
      (OnePrimary (Numeral 1 2))))))
      NoActuals 2)))) NoActuals 2))) NoStatements 2) 2);
  unread = [];
  permitted = 60;
  limit = 400;
  told = told_as ([]) (Stopped (Alarmed Spill)) 0 4 ([]) (stop_at (live InProgram 4 ∷ []) 2);
}

--     _begin _integer z; outinteger(7
--     _div z) _end
abbrev pub division_by_zero : Example
division_by_zero = record {
  program = (MkProgram []
      (MkBlock 1 (DeclareType (integer_word 1) (MkNames (name 8 1) [])) 1 NoDeclarations
      (plainly
      (CallStatement
      (WithActuals (name 0 1) 1
      (OneExpr (term_expr (Multiplied (OneFactor (OnePrimary (Numeral 7 1))) Divide 2 (OnePrimary (OneCall (Alone (name 8 2)))))))
      NoActuals 2))) NoStatements 2) 2);
  unread = [];
  permitted = 60;
  limit = 400;
  told = told_as ([]) (Stopped (Alarmed Division)) 1 8 ([]) (stop_at (live InBlock 5 ∷ live InProgram 3 ∷ []) 2);
}

--     _begin outinteger(0^5); outinteger(5^0); outinteger(0
--     ^0) _end
abbrev pub zero_to_zero : Example
zero_to_zero = record {
  program = (MkProgram []
      (MkCompound 1
      (plainly
      (CallStatement
      (WithActuals (name 0 1) 1 (OneExpr (factor_expr (Raised (OnePrimary (Numeral 0 1)) 1 (Numeral 5 1)))) NoActuals 1)))
      (MoreStatements 1
      (plainly
      (CallStatement
      (WithActuals (name 0 1) 1 (OneExpr (factor_expr (Raised (OnePrimary (Numeral 5 1)) 1 (Numeral 0 1)))) NoActuals 1)))
      (MoreStatements 1
      (plainly
      (CallStatement
      (WithActuals (name 0 1) 1 (OneExpr (factor_expr (Raised (OnePrimary (Numeral 0 1)) 2 (Numeral 0 2)))) NoActuals 2)))
      NoStatements)) 2) 2);
  unread = [];
  permitted = 60;
  limit = 400;
  told = told_as (codes "01") (Stopped (Alarmed Power)) 0 4 ([]) (stop_at (live InProgram 4 ∷ []) 2);
}

--     _begin outinteger(2^(-1)) _end
abbrev pub negative_exponent : Example
negative_exponent = record {
  program = (MkProgram []
      (MkCompound 1
      (plainly
      (CallStatement
      (WithActuals (name 0 1) 1
      (OneExpr
      (factor_expr
      (Raised (OnePrimary (Numeral 2 1)) 1 (Bracketed 1 (sum_expr (Signed Subtract 1 (OneFactor (OnePrimary (Numeral 1 1))))) 1))))
      NoActuals 1))) NoStatements 1) 1);
  unread = [];
  permitted = 60;
  limit = 400;
  told = told_as ([]) (Stopped (Alarmed Power)) 0 4 ([]) (stop_at (live InProgram 4 ∷ []) 1);
}

--     _begin outchar(255); outchar(256) _end
abbrev pub no_character : Example
no_character = record {
  program = (MkProgram []
      (MkCompound 1 (plainly (CallStatement (WithActuals (name 3 1) 1 (OneExpr (number 255 1)) NoActuals 1)))
      (MoreStatements 1 (plainly (CallStatement (WithActuals (name 3 1) 1 (OneExpr (number 256 1)) NoActuals 1))) NoStatements)
      1) 1);
  unread = [];
  permitted = 60;
  limit = 400;
  told = told_as ((255 ∷ [])) (Stopped (Alarmed Character)) 0 3 ([]) (stop_at (live InProgram 3 ∷ []) 1);
}
