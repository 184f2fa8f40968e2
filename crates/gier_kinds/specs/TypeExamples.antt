-- Programs with faults of types in declarations, statements and operators, and without, each told by its bytes.
-- The faults are those that an independent model lists.
use Rattle.std.specs.Prelude.{◌≡◌, ◌++◌, ℕ, List, [], ◌∷◌, codes, Some}
use Rattle.gier_kinds.specs.Faults.{ListTooLong, WrongValue, WrongUse, WrongSubscripts, WrongCount, WrongActual, WrongBound}
use Rattle.gier_kinds.specs.Faults.{WrongElement, WrongCondition, WrongBranches, WrongTarget, WrongAssignment, WrongOperand}
use Rattle.gier_kinds.specs.UseExamples.{fault, faults_in}

-- bounds are integer
abbrev pub bounds : List ℕ
bounds =
    codes "_begin _boolean b; _integer i; _begin _integer _array v[1:i], w[i:2, 3:4]; _boolean _array t[b:2, 3\n"
    ++ codes ":b,\n"
    ++ codes "_true:i = 1], u\n"
    ++ codes "[l:outcr, 1:i[2]]; _integer _array x, y[\n"
    ++ codes "abs(b):2]; _end; l: _end"

-- elements of for lists are integer, conditions Boolean
abbrev pub for_elements : List ℕ
for_elements =
    codes "_begin _integer i, j; _boolean b, c; _integer _array v[1:2], w[1:2, 1:2]; _boolean _array t[1:2];\n"
    ++ codes "_for i := 1, i _step 2 _until j, j _while b, abs(1) _while i = j _do; _for i := b,\n"
    ++ codes "b _step\n"
    ++ codes "b _until\n"
    ++ codes "b, j, b _while\n"
    ++ codes "i _do _for j\n"
    ++ codes ":= l _while l, _true, 1\n"
    ++ codes "_step i = 1 _until b _do; l: _end"

-- of conditional statements and expressions
abbrev pub conditions : List ℕ
conditions =
    codes "_begin _integer i, j; _boolean b, c; _integer _array v[1:2], w[1:2, 1:2]; _boolean _array t[1:2];\n"
    ++ codes "_if b _then i := 1 _else i := 2; _if i = 1 _and c _then; _if i _then\n"
    ++ codes "i := 3; _if _if b _then b _else c _then; i := _if\n"
    ++ codes "1 _then 2 _else 3; _if\n"
    ++ codes "l _then l: _end"

-- of a conditional expression
abbrev pub branches : List ℕ
branches =
    codes "_begin _integer i, j; _boolean b, c; _integer _array v[1:2], w[1:2, 1:2]; _boolean _array t[1:2];\n"
    ++ codes "i := _if b _then 1 _else _if c _then 2 _else 3; i := _if b _then 1\n"
    ++ codes "_else c; b := _if b _then (_if c _then 1 _else b)\n"
    ++ codes "_else c; _goto _if b _then l\n"
    ++ codes "_else 1; _goto _if b _then l _else l; l: i := _if b _then v\n"
    ++ codes "_else b _end"

-- a conditional expression has the type of a branch that has one
abbrev pub branch_types : List ℕ
branch_types =
    codes "_begin _integer i, j; _boolean b, c; _integer _array v[1:2], w[1:2, 1:2]; _boolean _array t[1:2];\n"
    ++ codes "i := (_if b _then v _else c) + 1;\n"
    ++ codes "i := _if b _then v _else 1; b := _if b _then 1 _else c;\n"
    ++ codes "b := _if b _then 1 _else v; i := (_if b _then 1 _else c) _and v[1] _end"

-- a go to and switch elements
abbrev pub designational : List ℕ
designational =
    codes "_begin _integer i; _boolean b; _switch s := l, s[1], _if b _then l _else s[2], (l); _switch t := i,\n"
    ++ codes "b, 1,\n"
    ++ codes "_if b _then 2 _else 3, outcr; l: _goto l; _goto s[1]; _goto (l);\n"
    ++ codes "_goto i;\n"
    ++ codes "_goto 1; _goto\n"
    ++ codes "b _end"

-- the symbol before the first element
abbrev pub switch_becomes : List ℕ
switch_becomes =
    codes "_begin _integer i; _switch s\n"
    ++ codes ":= i, l; l: _goto\n"
    ++ codes "s[1] _end"

-- left parts and right side have one type
abbrev pub assignments : List ℕ
assignments =
    codes "_begin _integer i, j; _boolean b, c; _integer _array v[1:2], w[1:2, 1:2]; _boolean _array t[1:2];\n"
    ++ codes "i := 1; b := _true; i := v[1] := 2; t[1] := b := c; i\n"
    ++ codes ":= b; b := i; i\n"
    ++ codes ":= b\n"
    ++ codes ":= 1; t[1]\n"
    ++ codes ":= v[1] := l; l: _end"

-- an unknown type agrees
abbrev pub assignments_unknown : List ℕ
assignments_unknown =
    codes "_begin _integer i, j; _boolean b, c; _integer _array v[1:2], w[1:2, 1:2]; _boolean _array t[1:2];\n"
    ++ codes "i := b := v; v := i := 1; v := 1 + b;\n"
    ++ codes "i := l := _true;\n"
    ++ codes "l: i := outcr _end"

-- the type of a function is that of its value
abbrev pub assigned_functions : List ℕ
assigned_functions =
    codes "_begin _integer _procedure f; _begin f := 1;\n"
    ++ codes "f := _true _end; _boolean _procedure g; g := f\n"
    ++ codes "= 1; _boolean _procedure h;\n"
    ++ codes "h := f; h; g _end"

-- signs and operators of numbers
abbrev pub arithmetic : List ℕ
arithmetic =
    codes "_begin _integer i, j; _boolean b, c; _integer _array v[1:2], w[1:2, 1:2]; _boolean _array t[1:2];\n"
    ++ codes "i := -i + 1 - 2 * 3 _div 4 ^ 5; i := +b;\n"
    ++ codes "i := -\n"
    ++ codes "b; i := i + b; i := b - i;\n"
    ++ codes "i := b * i _div\n"
    ++ codes "b ^ i ^\n"
    ++ codes "c _end"

-- compare numbers and give a Boolean
abbrev pub relations : List ℕ
relations =
    codes "_begin _integer i, j; _boolean b, c; _integer _array v[1:2], w[1:2, 1:2]; _boolean _array t[1:2];\n"
    ++ codes "b := i < 1; b := 1 <= i; b := i = j; b := i >= j; b := i > j; b := i <> j;\n"
    ++ codes "b := b = c; b := i < b;\n"
    ++ codes "b := c <=\n"
    ++ codes "i; b := b <> c; i := i > j _end"

-- operators of Booleans
abbrev pub logical : List ℕ
logical =
    codes "_begin _integer i, j; _boolean b, c; _integer _array v[1:2], w[1:2, 1:2]; _boolean _array t[1:2];\n"
    ++ codes "b := _not b _and c _or b _impl c _equiv b; b := _not i; b := i\n"
    ++ codes "_and b; b := b\n"
    ++ codes "_or i; b := i\n"
    ++ codes "_impl i; b := b\n"
    ++ codes "_equiv 1; b := _not (i\n"
    ++ codes "+ b) _end"

-- an operator with two wrong operands has one fault, and each its own
abbrev pub one_operator : List ℕ
one_operator =
    codes "_begin _integer i, j; _boolean b, c; _integer _array v[1:2], w[1:2, 1:2]; _boolean _array t[1:2];\n"
    ++ codes "i := (b + c) *\n"
    ++ codes "(c - b); b := i _and j; i := (b + l)\n"
    ++ codes "* (i < b); l: _end"

-- faults of the left operand, of the operator, of the right one
abbrev pub order_of_operands : List ℕ
order_of_operands =
    codes "_begin _integer i, j; _boolean b, c; _integer _array v[1:2], w[1:2, 1:2]; _boolean _array t[1:2];\n"
    ++ codes "i := v\n"
    ++ codes "+ b\n"
    ++ codes "* w[1]; b := i\n"
    ++ codes "_and outcr\n"
    ++ codes "_or (l\n"
    ++ codes "_impl inchar); l: _begin _integer s; _end _end"

-- a formal by value is integer or Boolean
abbrev pub no_values : List ℕ
no_values =
    codes "_begin _procedure p(a, b, c, d); _value a, b,\n"
    ++ codes "c,\n"
    ++ codes "d; _integer a; _boolean b; _label c; _integer _array d; outcr; _procedure q(a, b, c); _value a,\n"
    ++ codes "b, c; _string a; _integer _procedure b; _integer c; outcr; outcr _end"

-- thirty bound pairs, and one more
abbrev pub long_bounds : List ℕ
long_bounds =
    codes "_begin _integer _array v[1:2, 1:2, 1:2, 1:2, 1:2, 1:2, 1:2, 1:2, 1:2, 1:2, 1:2, 1:2, 1:2, 1:2, 1:2, 1:2, 1:2, 1:2, "
    ++ codes "1:2, 1:2, 1:2, 1:2, 1:2, 1:2, 1:2, 1:2, 1:2, 1:2, 1:2, 1:2], w[\n"
    ++ codes "1:2, 1:2, 1:2, 1:2, 1:2, 1:2, 1:2, 1:2, 1:2, 1:2,\n"
    ++ codes "1:2, 1:2, 1:2, 1:2, 1:2, 1:2, 1:2, 1:2, 1:2, 1:2,\n"
    ++ codes "1:2, 1:2, 1:2, 1:2, 1:2, 1:2, 1:2, 1:2, 1:2, 1:2\n"
    ++ codes ", 1:2]; outcr _end"

-- a list that is too long comes before a wrong bound
abbrev pub long_bounds_twice : List ℕ
long_bounds_twice =
    codes "_begin _integer _array w[\n"
    ++ codes "1:2, 1:2, 1:2, 1:2, 1:2, 1:2, 1:2, 1:2, 1:2, 1:2,\n"
    ++ codes "1:2, 1:2, 1:2, 1:2, 1:2, 1:2, 1:2, 1:2, 1:2, 1:2,\n"
    ++ codes "1:2, 1:2, 1:2, 1:2, 1:2, 1:2, 1:2, 1:2, 1:2, 1:2\n"
    ++ codes ", _true:2, _true\n"
    ++ codes ":1]; outcr _end"

-- thirty subscripts, and one more, which comes before a wrong one
abbrev pub long_subscripts : List ℕ
long_subscripts =
    codes "_begin _procedure p(v); _integer _array v; _begin v[1, 1, 1, 1, 1, 1, 1, 1, 1, 1, 1, 1, 1, 1, 1, 1, 1, 1, 1, 1, 1, "
    ++ codes "1, 1, 1, 1, 1, 1, 1, 1, 1] := v[\n"
    ++ codes "1, 1, 1, 1, 1, 1, 1, 1, 1, 1, 1, 1, 1, 1, 1, 1, 1, 1, 1, 1, 1, 1, 1, 1, 1, 1, 1, 1, 1, 1\n"
    ++ codes ", 1]; v[\n"
    ++ codes "1, 1, 1, 1, 1, 1, 1, 1, 1, 1, 1, 1, 1, 1, 1, 1, 1, 1, 1, 1, 1, 1, 1, 1, 1, 1, 1, 1, 1, 1\n"
    ++ codes ", _true\n"
    ++ codes ", _true] := 1 _end; outcr _end"

-- an own declaration raises none, and its quantities are what they were declared
abbrev pub own_faults : List ℕ
own_faults =
    codes "_begin _own _integer i; _own _boolean b; _own _integer _array v[-1:2, +3:4]; i := v[1, 2]; b := i = 1; i := b;\n"
    ++ codes "v[1] := 2; b := v[1, b];\n"
    ++ codes "_begin _own _boolean i; i := b; i\n"
    ++ codes ":= 1 _end; i := 2 _end"

-- an own quantity with the identifier of a function
abbrev pub own_function : List ℕ
own_function =
    codes "_begin _integer _procedure f; _begin f := 1; _begin _own _boolean f; f := _true;\n"
    ++ codes "f := 2 _end; f := 3 _end; outinteger(f);\n"
    ++ codes "f := 4 _end"

-- the description of the nearest scope, inside and behind it
abbrev pub nested_scopes : List ℕ
nested_scopes =
    codes "_begin _integer x; _boolean y; _procedure p(x); _boolean x; _begin x := y; y\n"
    ++ codes ":= 1; outcr _end; x := 1; _begin _boolean x; x := y; x\n"
    ++ codes ":= 1; _begin _integer _array x[1:2]; x[1] := 1;\n"
    ++ codes "x := 2 _end; x := _true _end; x := 1;\n"
    ++ codes "x := _true; _for x := 1 _do _begin y: _goto y; y := _true _end; y\n"
    ++ codes ":= _false _end"

-- in labelled, conditional, compound and controlled statements
abbrev pub in_statements : List ℕ
in_statements =
    codes "_begin _integer i, j; _boolean b, c; _integer _array v[1:2], w[1:2, 1:2]; _boolean _array t[1:2];\n"
    ++ codes "_procedure p; l: _begin k: _goto i; _begin m: _if i _then n: i := b _else\n"
    ++ codes "o: _begin b := i _end _end _end; _if b _then _for i := b _do\n"
    ++ codes "q: _if 1 _then _goto r _else s; r: s: _end"

-- each of them, in order
abbrev pub many_faults : List ℕ
many_faults =
    codes "_begin _integer i; _boolean b; _procedure p(x, y); _value x; _label x; _integer y; outcr;\n"
    ++ codes "_integer _array v[_true:1]; _switch s := i; l: i := v[1, 2] +\n"
    ++ codes "v[b]; p(l); p(1,\n"
    ++ codes "l); outcr(\n"
    ++ codes "b + 1); _for b := b _step b\n"
    ++ codes "_until 1 _do _if i _then b := 1 _else _goto\n"
    ++ codes "1; i := _if 1 _then 2 _else b; i\n"
    ++ codes ":= b _and 1; p _end"

-- a program of every construct without a fault
abbrev pub no_fault : List ℕ
no_fault =
    codes "_begin _own _boolean e; _integer a, b; _integer _array c, d[1:2, 0:3]; _switch s := l, s[1], _if e _then l _else m;\n"
    ++ codes "_integer _procedure f(x, y, z); _value x; _integer x; _label y; _procedure z; _begin f := x; z; _goto y _end;\n"
    ++ codes "_procedure p; a := f(1, l, p); l: m: _for a := 1, a _step 1 _until b, a _while e _do c[1, a] := d[a, b] := -a;\n"
    ++ codes "_if e _then _goto s[a] _else p; outtext({x}); e := _not e _and a < b ^ 2 _end"

pub record AreTyped : Type 0 where
  pub bounds_told : faults_in bounds ≡ Some (
      fault WrongBound 1 ∷ fault WrongBound 2 ∷ fault WrongBound 2 ∷ fault WrongBound 3 ∷ fault WrongBound 4 ∷ fault WrongUse 4
      ∷ fault WrongUse 4 ∷ fault WrongActual 5 ∷ [])
  pub for_elements_told : faults_in for_elements ≡ Some (
      fault WrongElement 2 ∷ fault WrongElement 2 ∷ fault WrongElement 3 ∷ fault WrongElement 4 ∷ fault WrongElement 5
      ∷ fault WrongCondition 5 ∷ fault WrongElement 7 ∷ fault WrongCondition 7 ∷ fault WrongElement 7 ∷ fault WrongElement 8
      ∷ fault WrongElement 8 ∷ [])
  pub conditions_told : faults_in conditions ≡ Some (fault WrongCondition 2 ∷ fault WrongCondition 3 ∷ fault WrongCondition 4 ∷ [])
  pub branches_told : faults_in branches ≡ Some (
      fault WrongBranches 3 ∷ fault WrongBranches 3 ∷ fault WrongBranches 5 ∷ fault WrongAssignment 5 ∷ fault WrongUse 5 ∷ [])
  pub branch_types_told : faults_in branch_types ≡ Some (
      fault WrongUse 2 ∷ fault WrongOperand 2 ∷ fault WrongUse 3 ∷ fault WrongBranches 3 ∷ fault WrongAssignment 4
      ∷ fault WrongUse 4 ∷ fault WrongAssignment 4 ∷ fault WrongBranches 4 ∷ fault WrongOperand 4 ∷ [])
  pub designational_told : faults_in designational ≡ Some (
      fault WrongTarget 1 ∷ fault WrongTarget 1 ∷ fault WrongTarget 2 ∷ fault WrongTarget 2 ∷ fault WrongUse 3 ∷ fault WrongTarget 4
      ∷ fault WrongTarget 5 ∷ fault WrongTarget 5 ∷ [])
  pub switch_becomes_told : faults_in switch_becomes ≡ Some (fault WrongTarget 2 ∷ [])
  pub assignments_told : faults_in assignments ≡ Some (
      fault WrongAssignment 3 ∷ fault WrongAssignment 3 ∷ fault WrongAssignment 5 ∷ fault WrongAssignment 6
      ∷ fault WrongAssignment 6 ∷ [])
  pub assignments_unknown_told : faults_in assignments_unknown ≡ Some (
      fault WrongUse 2 ∷ fault WrongUse 2 ∷ fault WrongUse 2 ∷ fault WrongOperand 2 ∷ fault WrongAssignment 3 ∷ fault WrongUse 3
      ∷ fault WrongUse 4 ∷ [])
  pub assigned_functions_told : faults_in assigned_functions ≡ Some (fault WrongAssignment 2 ∷ fault WrongAssignment 4 ∷ [])
  pub arithmetic_told : faults_in arithmetic ≡ Some (
      fault WrongOperand 2 ∷ fault WrongOperand 3 ∷ fault WrongOperand 4 ∷ fault WrongOperand 4 ∷ fault WrongOperand 5
      ∷ fault WrongOperand 6 ∷ fault WrongOperand 6 ∷ [])
  pub relations_told : faults_in relations ≡ Some (
      fault WrongOperand 3 ∷ fault WrongOperand 3 ∷ fault WrongOperand 4 ∷ fault WrongOperand 5 ∷ fault WrongAssignment 5 ∷ [])
  pub logical_told : faults_in logical ≡ Some (
      fault WrongOperand 2 ∷ fault WrongOperand 3 ∷ fault WrongOperand 4 ∷ fault WrongOperand 5 ∷ fault WrongOperand 6
      ∷ fault WrongOperand 6 ∷ fault WrongOperand 7 ∷ [])
  pub one_operator_told : faults_in one_operator ≡ Some (
      fault WrongOperand 2 ∷ fault WrongOperand 3 ∷ fault WrongOperand 3 ∷ fault WrongOperand 3 ∷ fault WrongOperand 4
      ∷ fault WrongOperand 4 ∷ [])
  pub order_of_operands_told : faults_in order_of_operands ≡ Some (
      fault WrongUse 2 ∷ fault WrongOperand 4 ∷ fault WrongSubscripts 4 ∷ fault WrongOperand 5 ∷ fault WrongUse 5
      ∷ fault WrongOperand 7 ∷ [])
  pub no_values_told : faults_in no_values ≡ Some (
      fault WrongValue 2 ∷ fault WrongValue 3 ∷ fault WrongValue 3 ∷ fault WrongValue 4 ∷ [])
  pub long_bounds_told : faults_in long_bounds ≡ Some (fault ListTooLong 5 ∷ [])
  pub long_bounds_twice_told : faults_in long_bounds_twice ≡ Some (fault ListTooLong 5 ∷ fault WrongBound 5 ∷ [])
  pub long_subscripts_told : faults_in long_subscripts
      ≡ Some (fault ListTooLong 3 ∷ fault ListTooLong 5 ∷ fault WrongSubscripts 6 ∷ [])
  pub own_faults_told : faults_in own_faults ≡ Some (
      fault WrongAssignment 1 ∷ fault WrongSubscripts 2 ∷ fault WrongAssignment 2 ∷ fault WrongSubscripts 2
      ∷ fault WrongAssignment 4 ∷ [])
  pub own_function_told : faults_in own_function ≡ Some (fault WrongAssignment 2 ∷ fault WrongUse 3 ∷ [])
  pub nested_scopes_told : faults_in nested_scopes ≡ Some (
      fault WrongAssignment 2 ∷ fault WrongAssignment 3 ∷ fault WrongUse 4 ∷ fault WrongAssignment 5 ∷ fault WrongUse 5 ∷ [])
  pub in_statements_told : faults_in in_statements ≡ Some (
      fault WrongTarget 2 ∷ fault WrongCondition 2 ∷ fault WrongAssignment 2 ∷ fault WrongAssignment 3 ∷ fault WrongElement 3
      ∷ fault WrongCondition 4 ∷ fault WrongUse 4 ∷ [])
  pub many_faults_told : faults_in many_faults ≡ Some (
      fault WrongValue 1 ∷ fault WrongBound 2 ∷ fault WrongTarget 2 ∷ fault WrongSubscripts 2 ∷ fault WrongSubscripts 3
      ∷ fault WrongCount 3 ∷ fault WrongActual 3 ∷ fault WrongActual 3 ∷ fault WrongUse 4 ∷ fault WrongCount 4
      ∷ fault WrongOperand 5 ∷ fault WrongUse 5 ∷ fault WrongElement 5 ∷ fault WrongElement 5 ∷ fault WrongCondition 6
      ∷ fault WrongAssignment 6 ∷ fault WrongTarget 6 ∷ fault WrongCondition 7 ∷ fault WrongBranches 7 ∷ fault WrongAssignment 8
      ∷ fault WrongOperand 8 ∷ fault WrongUse 8 ∷ [])
  pub no_fault_told : faults_in no_fault ≡ Some ([])
