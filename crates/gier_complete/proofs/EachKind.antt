-- A claim on each kind, from one proof for each; and a placed quantity with another kind.
use Rattle.gier_tree.specs.declared.kind.Kind.{Kind}
use Rattle.gier_tree.specs.declared.kind.Kind.TheVariants.{Undeclared, IntegerVariable, BooleanVariable, IntegerArray}
use Rattle.gier_tree.specs.declared.kind.Kind.TheVariants.{BooleanArray, Label, Switch, Procedure, IntegerProcedure}
use Rattle.gier_tree.specs.declared.kind.Kind.TheVariants.{BooleanProcedure, IntegerValue, BooleanValue, IntegerFormal}
use Rattle.gier_tree.specs.declared.kind.Kind.TheVariants.{BooleanFormal, IntegerArrayFormal, BooleanArrayFormal, LabelFormal}
use Rattle.gier_tree.specs.declared.kind.Kind.TheVariants.{SwitchFormal, StringFormal, ProcedureFormal, IntegerProcedureFormal}
use Rattle.gier_tree.specs.declared.kind.Kind.TheVariants.{BooleanProcedureFormal, OutInteger, OutText, OutCr, OutChar}
use Rattle.gier_tree.specs.declared.kind.Kind.TheVariants.{InInteger, InChar, Abs, Sign}
use Rattle.gier_tree.specs.Places.{Placed}

abbrev pub with_kind : Placed → Kind → Placed
with_kind at kind = record { what = record { kind = kind; count = at.what.count; formals = at.what.formals }; level = at.level; address = at.address }

pub each_kind : (Q : Kind → Type 0) → Q Undeclared → Q IntegerVariable → Q BooleanVariable → Q IntegerArray → Q BooleanArray → Q Label → Q Switch → Q Procedure → Q IntegerProcedure → Q BooleanProcedure → Q IntegerValue → Q BooleanValue → Q IntegerFormal → Q BooleanFormal → Q IntegerArrayFormal → Q BooleanArrayFormal → Q LabelFormal → Q SwitchFormal → Q StringFormal → Q ProcedureFormal → Q IntegerProcedureFormal → Q BooleanProcedureFormal → Q OutInteger → Q OutText → Q OutCr → Q OutChar → Q InInteger → Q InChar → Q Abs → Q Sign → (k : Kind) → Q k
each_kind Q x0 q1 q2 q3 q4 q5 q6 q7 q8 q9 q10 q11 q12 q13 q14 q15 q16 q17 q18 q19 q20 q21 q22 q23 q24 q25 q26 q27 q28 q29 Undeclared = x0
each_kind Q q0 x1 q2 q3 q4 q5 q6 q7 q8 q9 q10 q11 q12 q13 q14 q15 q16 q17 q18 q19 q20 q21 q22 q23 q24 q25 q26 q27 q28 q29 IntegerVariable = x1
each_kind Q q0 q1 x2 q3 q4 q5 q6 q7 q8 q9 q10 q11 q12 q13 q14 q15 q16 q17 q18 q19 q20 q21 q22 q23 q24 q25 q26 q27 q28 q29 BooleanVariable = x2
each_kind Q q0 q1 q2 x3 q4 q5 q6 q7 q8 q9 q10 q11 q12 q13 q14 q15 q16 q17 q18 q19 q20 q21 q22 q23 q24 q25 q26 q27 q28 q29 IntegerArray = x3
each_kind Q q0 q1 q2 q3 x4 q5 q6 q7 q8 q9 q10 q11 q12 q13 q14 q15 q16 q17 q18 q19 q20 q21 q22 q23 q24 q25 q26 q27 q28 q29 BooleanArray = x4
each_kind Q q0 q1 q2 q3 q4 x5 q6 q7 q8 q9 q10 q11 q12 q13 q14 q15 q16 q17 q18 q19 q20 q21 q22 q23 q24 q25 q26 q27 q28 q29 Label = x5
each_kind Q q0 q1 q2 q3 q4 q5 x6 q7 q8 q9 q10 q11 q12 q13 q14 q15 q16 q17 q18 q19 q20 q21 q22 q23 q24 q25 q26 q27 q28 q29 Switch = x6
each_kind Q q0 q1 q2 q3 q4 q5 q6 x7 q8 q9 q10 q11 q12 q13 q14 q15 q16 q17 q18 q19 q20 q21 q22 q23 q24 q25 q26 q27 q28 q29 Procedure = x7
each_kind Q q0 q1 q2 q3 q4 q5 q6 q7 x8 q9 q10 q11 q12 q13 q14 q15 q16 q17 q18 q19 q20 q21 q22 q23 q24 q25 q26 q27 q28 q29 IntegerProcedure = x8
each_kind Q q0 q1 q2 q3 q4 q5 q6 q7 q8 x9 q10 q11 q12 q13 q14 q15 q16 q17 q18 q19 q20 q21 q22 q23 q24 q25 q26 q27 q28 q29 BooleanProcedure = x9
each_kind Q q0 q1 q2 q3 q4 q5 q6 q7 q8 q9 x10 q11 q12 q13 q14 q15 q16 q17 q18 q19 q20 q21 q22 q23 q24 q25 q26 q27 q28 q29 IntegerValue = x10
each_kind Q q0 q1 q2 q3 q4 q5 q6 q7 q8 q9 q10 x11 q12 q13 q14 q15 q16 q17 q18 q19 q20 q21 q22 q23 q24 q25 q26 q27 q28 q29 BooleanValue = x11
each_kind Q q0 q1 q2 q3 q4 q5 q6 q7 q8 q9 q10 q11 x12 q13 q14 q15 q16 q17 q18 q19 q20 q21 q22 q23 q24 q25 q26 q27 q28 q29 IntegerFormal = x12
each_kind Q q0 q1 q2 q3 q4 q5 q6 q7 q8 q9 q10 q11 q12 x13 q14 q15 q16 q17 q18 q19 q20 q21 q22 q23 q24 q25 q26 q27 q28 q29 BooleanFormal = x13
each_kind Q q0 q1 q2 q3 q4 q5 q6 q7 q8 q9 q10 q11 q12 q13 x14 q15 q16 q17 q18 q19 q20 q21 q22 q23 q24 q25 q26 q27 q28 q29 IntegerArrayFormal = x14
each_kind Q q0 q1 q2 q3 q4 q5 q6 q7 q8 q9 q10 q11 q12 q13 q14 x15 q16 q17 q18 q19 q20 q21 q22 q23 q24 q25 q26 q27 q28 q29 BooleanArrayFormal = x15
each_kind Q q0 q1 q2 q3 q4 q5 q6 q7 q8 q9 q10 q11 q12 q13 q14 q15 x16 q17 q18 q19 q20 q21 q22 q23 q24 q25 q26 q27 q28 q29 LabelFormal = x16
each_kind Q q0 q1 q2 q3 q4 q5 q6 q7 q8 q9 q10 q11 q12 q13 q14 q15 q16 x17 q18 q19 q20 q21 q22 q23 q24 q25 q26 q27 q28 q29 SwitchFormal = x17
each_kind Q q0 q1 q2 q3 q4 q5 q6 q7 q8 q9 q10 q11 q12 q13 q14 q15 q16 q17 x18 q19 q20 q21 q22 q23 q24 q25 q26 q27 q28 q29 StringFormal = x18
each_kind Q q0 q1 q2 q3 q4 q5 q6 q7 q8 q9 q10 q11 q12 q13 q14 q15 q16 q17 q18 x19 q20 q21 q22 q23 q24 q25 q26 q27 q28 q29 ProcedureFormal = x19
each_kind Q q0 q1 q2 q3 q4 q5 q6 q7 q8 q9 q10 q11 q12 q13 q14 q15 q16 q17 q18 q19 x20 q21 q22 q23 q24 q25 q26 q27 q28 q29 IntegerProcedureFormal = x20
each_kind Q q0 q1 q2 q3 q4 q5 q6 q7 q8 q9 q10 q11 q12 q13 q14 q15 q16 q17 q18 q19 q20 x21 q22 q23 q24 q25 q26 q27 q28 q29 BooleanProcedureFormal = x21
each_kind Q q0 q1 q2 q3 q4 q5 q6 q7 q8 q9 q10 q11 q12 q13 q14 q15 q16 q17 q18 q19 q20 q21 x22 q23 q24 q25 q26 q27 q28 q29 OutInteger = x22
each_kind Q q0 q1 q2 q3 q4 q5 q6 q7 q8 q9 q10 q11 q12 q13 q14 q15 q16 q17 q18 q19 q20 q21 q22 x23 q24 q25 q26 q27 q28 q29 OutText = x23
each_kind Q q0 q1 q2 q3 q4 q5 q6 q7 q8 q9 q10 q11 q12 q13 q14 q15 q16 q17 q18 q19 q20 q21 q22 q23 x24 q25 q26 q27 q28 q29 OutCr = x24
each_kind Q q0 q1 q2 q3 q4 q5 q6 q7 q8 q9 q10 q11 q12 q13 q14 q15 q16 q17 q18 q19 q20 q21 q22 q23 q24 x25 q26 q27 q28 q29 OutChar = x25
each_kind Q q0 q1 q2 q3 q4 q5 q6 q7 q8 q9 q10 q11 q12 q13 q14 q15 q16 q17 q18 q19 q20 q21 q22 q23 q24 q25 x26 q27 q28 q29 InInteger = x26
each_kind Q q0 q1 q2 q3 q4 q5 q6 q7 q8 q9 q10 q11 q12 q13 q14 q15 q16 q17 q18 q19 q20 q21 q22 q23 q24 q25 q26 x27 q28 q29 InChar = x27
each_kind Q q0 q1 q2 q3 q4 q5 q6 q7 q8 q9 q10 q11 q12 q13 q14 q15 q16 q17 q18 q19 q20 q21 q22 q23 q24 q25 q26 q27 x28 q29 Abs = x28
each_kind Q q0 q1 q2 q3 q4 q5 q6 q7 q8 q9 q10 q11 q12 q13 q14 q15 q16 q17 q18 q19 q20 q21 q22 q23 q24 q25 q26 q27 q28 x29 Sign = x29
