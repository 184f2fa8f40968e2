-- Programs with wrong uses of identifiers, subscripts and actuals, and without, each told by its bytes.
-- The faults are those that an independent model lists.
use Rattle.std.specs.Prelude.{◌≡◌, ◌++◌, ℕ, List, [], ◌∷◌, codes, Option, Some}
use Rattle.std.specs.Option.{option_map}
use Rattle.gier_symbol.specs.Assembly.{assembly}
use Rattle.gier_symbol.specs.Listing.{FaultAt}
use Rattle.gier_symbol.specs.Reading.{symbols_of}
use Rattle.gier_tree.specs.Hoist.{hoist}
use Rattle.gier_tree.specs.Structure.{program_spelled}
use Rattle.gier_kinds.specs.Faults.{TypeFault, WrongUse, WrongSubscripts, WrongCount, WrongActual, WrongBranches, WrongAssignment}
use Rattle.gier_kinds.specs.Faults.{WrongOperand, TypeFaults}
use Rattle.gier_kinds.specs.TypeFaults.{type_faults}

abbrev pub fault : TypeFault → (line : ℕ) → FaultAt TypeFault
fault kind line = record { kind = kind; line = line }

-- the faults of types of the program that the bytes are, where they are one
abbrev pub faults_in : List ℕ → Option TypeFaults
faults_in bytes = option_map (λ t. type_faults (hoist t)) (program_spelled (assembly (symbols_of bytes).symbols).symbols)

-- an identifier alone in an expression
abbrev pub uses_alone : List ℕ
uses_alone =
    codes "_begin _integer i; _boolean b; _integer _array v[1:2]; _switch s := l; _procedure p; outcr; _integer _procedure f; f "
    ++ codes ":= 1;\n"
    ++ codes "_integer _procedure g(x); _integer x; g := x; l: i := i + f + ininteger + inchar;\n"
    ++ codes "i := v;\n"
    ++ codes "i := s;\n"
    ++ codes "i := p;\n"
    ++ codes "i := g;\n"
    ++ codes "i := abs;\n"
    ++ codes "i := outcr; i :=\n"
    ++ codes "outinteger _end"

-- formals alone
abbrev pub uses_alone_formals : List ℕ
uses_alone_formals =
    codes "_begin _procedure p(i, b, v, l, s, t, q, f, g); _integer i; _boolean b; _integer _array v; _label l; _switch s; "
    ++ codes "_string t;\n"
    ++ codes "_procedure q; _integer _procedure f; _boolean _procedure g; _begin i := i + f; b := b _and g; _goto l;\n"
    ++ codes "i := v;\n"
    ++ codes "i := s;\n"
    ++ codes "i := t;\n"
    ++ codes "i := q _end; outcr _end"

-- with subscripts
abbrev pub uses_subscripted : List ℕ
uses_subscripted =
    codes "_begin _integer i; _boolean b; _integer _array v[1:2]; _switch s := l; _integer _procedure f(x); _integer x; f := x;\n"
    ++ codes "_procedure p(w, r); _boolean _array w; _switch r; _begin b := w[1]; _goto r[1]; i := i[1];\n"
    ++ codes "_goto l[1] _end; l: i := v[1]; _goto s[1];\n"
    ++ codes "i := f[1];\n"
    ++ codes "i := abs[i] _end"

-- with actuals in an expression
abbrev pub uses_called : List ℕ
uses_called =
    codes "_begin _integer i; _boolean b; _integer _array v[1:2]; _integer _procedure f(x); _integer x; f := x; _procedure "
    ++ codes "p(x); _integer x; outcr;\n"
    ++ codes "_procedure r(q, g, h); _procedure q; _integer _procedure g; _boolean _procedure h; _begin i := g(1, 2); b := h(b);\n"
    ++ codes "i := q(1) _end; _integer _procedure n; n := 1; i := f(1) + abs(i) + sign(-1);\n"
    ++ codes "i := p(1);\n"
    ++ codes "i := i(1);\n"
    ++ codes "i := v(1);\n"
    ++ codes "i := n(1);\n"
    ++ codes "i := outinteger(1);\n"
    ++ codes "i := inchar(1) _end"

-- left parts alone
abbrev pub left_parts : List ℕ
left_parts =
    codes "_begin _integer i; _boolean b; _integer _array v[1:2]; l: _begin _procedure p(i, b, m, v, f); _integer i; _boolean "
    ++ codes "b; _label m;\n"
    ++ codes "_integer _array v; _integer _procedure f; _begin i := 1; b := _true;\n"
    ++ codes "m := 1;\n"
    ++ codes "v := 1;\n"
    ++ codes "f := 1; p := 1 _end; i := 1; b := _false;\n"
    ++ codes "v := 1;\n"
    ++ codes "l := 1;\n"
    ++ codes "abs := 1 _end _end"

-- a function within its own declaration, however deep, and not outside
abbrev pub left_functions : List ℕ
left_functions =
    codes "_begin _integer i; _integer _procedure f; _begin f := 1; _begin _boolean _procedure g(x); _integer x; _begin g := x "
    ++ codes "= 1; f := 2 _end;\n"
    ++ codes "g := _true;\n"
    ++ codes "f := 3 _end _end;\n"
    ++ codes "f := 4; _for i := 1 _do f := i _end"

-- where its identifier is declared anew it means something else
abbrev pub left_function_anew : List ℕ
left_function_anew =
    codes "_begin _integer _procedure f; _begin f := 1; _begin _integer _procedure f; f := 2;\n"
    ++ codes "f := 3 _end; _begin _integer f; f := 4 _end; _begin _procedure q(f); _integer f; f := 5; f := 6 _end;\n"
    ++ codes "_begin _integer i; _for i := 1 _do f: i := 7; f := 8 _end; _begin _integer i; _for i := 1 _do _begin\n"
    ++ codes "f: f := 9 _end _end _end; outinteger(f) _end"

-- left parts with subscripts
abbrev pub left_elements : List ℕ
left_elements =
    codes "_begin _integer i; _integer _array v[1:2]; _switch s := l; _procedure p(w, r); _boolean _array w; _switch r; _begin "
    ++ codes "w[1] := _true;\n"
    ++ codes "r[1] := 1 _end; l: v[1] := 1;\n"
    ++ codes "s[1] := 1;\n"
    ++ codes "i[1] := 1 _end"

-- controlled variables
abbrev pub controlled : List ℕ
controlled =
    codes "_begin _integer i; _boolean b; _integer _array v[1:2]; _procedure p(x, y, z); _value x; _integer x, y; _boolean z; "
    ++ codes "_begin _for x := 1 _do; _for y := 2 _do;\n"
    ++ codes "_for z := 3 _do; _end; _integer _procedure f; _begin f := 1;\n"
    ++ codes "_for f := 4 _do; _end; _for i := 1 _do;\n"
    ++ codes "_for b := 5 _do;\n"
    ++ codes "_for v := 6 _do; _end"

-- an identifier as a statement
abbrev pub statements_alone : List ℕ
statements_alone =
    codes "_begin _integer i; _procedure p; outcr; _integer _procedure f; f := 1; _procedure q(x, y); _procedure x; _integer "
    ++ codes "_procedure y; _begin x; y _end;\n"
    ++ codes "l: p; f; outcr; ininteger; inchar;\n"
    ++ codes "i;\n"
    ++ codes "q;\n"
    ++ codes "l;\n"
    ++ codes "abs;\n"
    ++ codes "outinteger; outtext _end"

-- with actuals as a statement
abbrev pub statements_called : List ℕ
statements_called =
    codes "_begin _integer i; _procedure p(x); _integer x; outcr; _boolean _procedure f(x); _integer x; f := _true; _procedure "
    ++ codes "q(x, y); _procedure x;\n"
    ++ codes "_integer _procedure y; _begin x(1); y(1, 2) _end; _procedure r; outcr;\n"
    ++ codes "p(1); f(2); outinteger(3); outtext({x}); outchar(4); abs(5); sign(6);\n"
    ++ codes "i(1);\n"
    ++ codes "r(1);\n"
    ++ codes "outcr(1);\n"
    ++ codes "inchar(1) _end"

-- a wrong use of a procedure leaves the number of its actuals wrong
abbrev pub kind_and_count : List ℕ
kind_and_count =
    codes "_begin _integer i; _procedure p; outcr; i :=\n"
    ++ codes "outcr(1) +\n"
    ++ codes "p(2, 3); outinteger(\n"
    ++ codes "i(4)) _end"

-- a standard identifier that is declared anew
abbrev pub standard_anew : List ℕ
standard_anew =
    codes "_begin _integer abs; _integer _procedure sign(x, y); _integer x, y; sign := x; _integer _array outcr[1:2];\n"
    ++ codes "abs := sign(abs, outcr[1]); abs := abs(1);\n"
    ++ codes "outcr; _begin _procedure outcr; ; outcr _end;\n"
    ++ codes "abs := sign(2) _end"

-- the number of subscripts of a declared array
abbrev pub array_subscripts : List ℕ
array_subscripts =
    codes "_begin _integer i, j; _boolean b, c; _integer _array v[1:2], w[1:2, 1:2]; _boolean _array t[1:2];\n"
    ++ codes "i := v[1] + w[1, 2]; v[2] := 1; t[1] := b;\n"
    ++ codes "i := v[1, 2];\n"
    ++ codes "i := w[1]; w\n"
    ++ codes "[2] := 1; w[1, 2,\n"
    ++ codes "3] := 1; t[i, j] := b _end"

-- that of an array formal may be any, that of a switch is one
abbrev pub formal_subscripts : List ℕ
formal_subscripts =
    codes "_begin _switch s := l; _procedure p(v, r); _integer _array v; _switch r; _begin v[1] := v[1, 2]; _goto r[1];\n"
    ++ codes "_goto r\n"
    ++ codes "[1, 2] _end; l: _goto s[1];\n"
    ++ codes "_goto s[2, 3] _end"

-- a subscript that is not integer, on the symbol before it
abbrev pub wrong_subscripts : List ℕ
wrong_subscripts =
    codes "_begin _integer i, j; _boolean b, c; _integer _array v[1:2], w[1:2, 1:2]; _boolean _array t[1:2];\n"
    ++ codes "v[b] := 1; w[1,\n"
    ++ codes "b] := w[c\n"
    ++ codes ", 2]; v[v\n"
    ++ codes "[b]] := t[t[1]]; i := w[\n"
    ++ codes "l, 2]; l: _end"

-- the number and the first subscript fall on one symbol
abbrev pub subscripts_twice : List ℕ
subscripts_twice =
    codes "_begin _integer i, j; _boolean b, c; _integer _array v[1:2], w[1:2, 1:2]; _boolean _array t[1:2];\n"
    ++ codes "v[b, 1] := 2; v[b,\n"
    ++ codes "c] := 3; w[b] := 4 _end"

-- subscripts are looked at also where the identifier may have none
abbrev pub subscripts_of_none : List ℕ
subscripts_of_none =
    codes "_begin _integer i; _boolean b; l: i := i[b,\n"
    ++ codes "b]; outcr _end"

-- the number of actuals
abbrev pub actual_count : List ℕ
actual_count =
    codes "_begin _integer i; _procedure p(x, y); _integer x, y; outcr; _procedure q(r); _procedure r; _begin r(1); r(1, 2) "
    ++ codes "_end;\n"
    ++ codes "_integer _procedure f(x); _integer x; f := x; p(1, 2); i := f(1);\n"
    ++ codes "p(1);\n"
    ++ codes "p(1, 2,\n"
    ++ codes "3);\n"
    ++ codes "i := f(1, 2) +\n"
    ++ codes "abs(1, 2); outinteger\n"
    ++ codes "(1, 2); sign(3, 4, 5) _end"

-- what fits an integer or Boolean formal
abbrev pub value_actuals : List ℕ
value_actuals =
    codes "_begin _integer i, j; _boolean b, c; _integer _array v[1:2], w[1:2, 1:2]; _boolean _array t[1:2];\n"
    ++ codes "_procedure p(x, y); _value x; _integer x; _boolean y; outcr; _integer _procedure f; f := 1; _boolean _procedure "
    ++ codes "g(x); _integer x; g := b;\n"
    ++ codes "p(i + 1, b); p(v[1], t[2]); p(f, g(1)); p(ininteger, i = j); p((f), _if b _then b _else c);\n"
    ++ codes "p(b,\n"
    ++ codes "i); p(v,\n"
    ++ codes "t); p({x},\n"
    ++ codes "{y}); p(l,\n"
    ++ codes "g); p(p, outcr); p(\n"
    ++ codes "i = 1, 1 + i); l: _end"

-- what fits a label or switch formal
abbrev pub label_actuals : List ℕ
label_actuals =
    codes "_begin _integer i; _switch s := l, m; _procedure p(x, y); _label x; _switch y; _begin _goto x; _goto y[1]; p(x, y) "
    ++ codes "_end;\n"
    ++ codes "l: m: p(l, s); p(s[1], s); p(_if i = 1 _then l _else m, s); p((l), s);\n"
    ++ codes "p(s,\n"
    ++ codes "l); p(i,\n"
    ++ codes "i); p(1,\n"
    ++ codes "(s[1])); p({x}, {y}) _end"

-- what fits an array formal
abbrev pub array_actuals : List ℕ
array_actuals =
    codes "_begin _integer i, j; _boolean b, c; _integer _array v[1:2], w[1:2, 1:2]; _boolean _array t[1:2];\n"
    ++ codes "_procedure p(x, y); _integer _array x; _boolean _array y; _begin x[1] := 1; p(x, y); p(y,\n"
    ++ codes "x) _end; p(v, t); p(w, t);\n"
    ++ codes "p(t,\n"
    ++ codes "v); p(i,\n"
    ++ codes "v[1]); p((v), {x}) _end"

-- what fits a procedure formal
abbrev pub procedure_actuals : List ℕ
procedure_actuals =
    codes "_begin _procedure p(x, y, z); _procedure x; _integer _procedure y; _boolean _procedure z; _begin x; p(x, y, z);\n"
    ++ codes "p(y,\n"
    ++ codes "z,\n"
    ++ codes "x) _end; _integer _procedure f; f := 1; _boolean _procedure g(x, y); _integer x, y; g := x = y; _procedure n; outcr; "
    ++ codes "p(n, f, g); p(p, f, g);\n"
    ++ codes "p(f,\n"
    ++ codes "g,\n"
    ++ codes "n); p(outcr,\n"
    ++ codes "ininteger,\n"
    ++ codes "1); p({x},\n"
    ++ codes "(f), _true) _end"

-- what fits a string formal
abbrev pub string_actuals : List ℕ
string_actuals =
    codes "_begin _procedure p(x); _string x; _begin outtext(x); outtext({y}); p(x); p({z});\n"
    ++ codes "outtext(1);\n"
    ++ codes "outtext(p) _end; p({x});\n"
    ++ codes "p(l); outtext\n"
    ++ codes "((1)); l: _end"

-- an actual of unknown type fits each formal, but an identifier alone has none
abbrev pub unknown_actuals : List ℕ
unknown_actuals =
    codes "_begin _integer i; _procedure p(x, y, z); _integer _array x; _procedure y; _string z; p(x, y, z); l: p\n"
    ++ codes "(i(1),\n"
    ++ codes "i[2],\n"
    ++ codes "_if _true _then 1 _else l) _end"

-- actuals have their own faults too, also where nothing is called and beyond the formals
abbrev pub own_faults_of_actuals : List ℕ
own_faults_of_actuals =
    codes "_begin _integer i; _boolean b; _procedure p(x); _integer x; outcr; l: p(i + b);\n"
    ++ codes "p(b + b = 1,\n"
    ++ codes "l + 1, p, b[1]); i\n"
    ++ codes "(b + 1, p, {x},\n"
    ++ codes "b[1]) _end"

-- actuals of a formal procedure
abbrev pub formal_calls : List ℕ
formal_calls =
    codes "_begin _integer i; _integer _array v[1:2]; _procedure p(q, t); _procedure q; _string t; _begin q(i, v, l, s, q, p, "
    ++ codes "{x}, t, ininteger, f, i + 1);\n"
    ++ codes "q(abs,\n"
    ++ codes "outinteger,\n"
    ++ codes "outcr, sign, outtext,\n"
    ++ codes "outchar, i + _true) _end; _integer _procedure f(x); _integer x; f := x; _switch s := l; l: _end"

pub record AreUsed : Type 0 where
  pub uses_alone_told : faults_in uses_alone ≡ Some (
      fault WrongUse 3 ∷ fault WrongUse 4 ∷ fault WrongUse 5 ∷ fault WrongUse 6 ∷ fault WrongUse 7 ∷ fault WrongUse 8
      ∷ fault WrongUse 9 ∷ [])
  pub uses_alone_formals_told : faults_in uses_alone_formals ≡ Some (
      fault WrongUse 3 ∷ fault WrongUse 4 ∷ fault WrongUse 5 ∷ fault WrongUse 6 ∷ [])
  pub uses_subscripted_told : faults_in uses_subscripted ≡ Some (
      fault WrongUse 2 ∷ fault WrongUse 3 ∷ fault WrongUse 4 ∷ fault WrongUse 5 ∷ [])
  pub uses_called_told : faults_in uses_called ≡ Some (
      fault WrongUse 3 ∷ fault WrongUse 4 ∷ fault WrongUse 5 ∷ fault WrongUse 6 ∷ fault WrongUse 7 ∷ fault WrongCount 7
      ∷ fault WrongUse 8 ∷ fault WrongUse 9 ∷ fault WrongCount 9 ∷ [])
  pub left_parts_told : faults_in left_parts ≡ Some (
      fault WrongUse 3 ∷ fault WrongUse 4 ∷ fault WrongUse 5 ∷ fault WrongUse 5 ∷ fault WrongUse 6 ∷ fault WrongUse 7
      ∷ fault WrongUse 8 ∷ [])
  pub left_functions_told : faults_in left_functions ≡ Some (fault WrongUse 2 ∷ fault WrongUse 4 ∷ fault WrongUse 4 ∷ [])
  pub left_function_anew_told : faults_in left_function_anew ≡ Some (fault WrongUse 2 ∷ fault WrongUse 4 ∷ [])
  pub left_elements_told : faults_in left_elements ≡ Some (fault WrongUse 2 ∷ fault WrongUse 3 ∷ fault WrongUse 4 ∷ [])
  pub controlled_told : faults_in controlled ≡ Some (fault WrongUse 2 ∷ fault WrongUse 3 ∷ fault WrongUse 4 ∷ fault WrongUse 5 ∷ [])
  pub statements_alone_told : faults_in statements_alone ≡ Some (
      fault WrongUse 3 ∷ fault WrongUse 4 ∷ fault WrongUse 5 ∷ fault WrongUse 6 ∷ fault WrongUse 7 ∷ fault WrongUse 7 ∷ [])
  pub statements_called_told : faults_in statements_called ≡ Some (
      fault WrongUse 4 ∷ fault WrongUse 5 ∷ fault WrongCount 5 ∷ fault WrongUse 6 ∷ fault WrongCount 6 ∷ fault WrongUse 7
      ∷ fault WrongCount 7 ∷ [])
  pub kind_and_count_told : faults_in kind_and_count ≡ Some (
      fault WrongUse 2 ∷ fault WrongCount 2 ∷ fault WrongUse 3 ∷ fault WrongCount 3 ∷ fault WrongUse 4 ∷ [])
  pub standard_anew_told : faults_in standard_anew ≡ Some (fault WrongUse 2 ∷ fault WrongUse 3 ∷ fault WrongCount 4 ∷ [])
  pub array_subscripts_told : faults_in array_subscripts ≡ Some (
      fault WrongSubscripts 3 ∷ fault WrongSubscripts 4 ∷ fault WrongSubscripts 5 ∷ fault WrongSubscripts 5
      ∷ fault WrongSubscripts 6 ∷ [])
  pub formal_subscripts_told : faults_in formal_subscripts ≡ Some (fault WrongSubscripts 3 ∷ fault WrongSubscripts 4 ∷ [])
  pub wrong_subscripts_told : faults_in wrong_subscripts ≡ Some (
      fault WrongSubscripts 2 ∷ fault WrongSubscripts 2 ∷ fault WrongSubscripts 3 ∷ fault WrongSubscripts 5
      ∷ fault WrongAssignment 5 ∷ fault WrongSubscripts 5 ∷ fault WrongSubscripts 5 ∷ [])
  pub subscripts_twice_told : faults_in subscripts_twice ≡ Some (
      fault WrongSubscripts 2 ∷ fault WrongSubscripts 2 ∷ fault WrongSubscripts 2 ∷ fault WrongSubscripts 3 ∷ [])
  pub subscripts_of_none_told : faults_in subscripts_of_none ≡ Some (
      fault WrongUse 1 ∷ fault WrongSubscripts 1 ∷ fault WrongSubscripts 1 ∷ [])
  pub actual_count_told : faults_in actual_count ≡ Some (
      fault WrongCount 3 ∷ fault WrongCount 4 ∷ fault WrongCount 6 ∷ fault WrongCount 7 ∷ fault WrongCount 8 ∷ fault WrongCount 8
      ∷ [])
  pub value_actuals_told : faults_in value_actuals ≡ Some (
      fault WrongActual 4 ∷ fault WrongActual 4 ∷ fault WrongActual 5 ∷ fault WrongActual 5 ∷ fault WrongActual 6
      ∷ fault WrongActual 6 ∷ fault WrongActual 7 ∷ fault WrongActual 7 ∷ fault WrongActual 8 ∷ fault WrongActual 8
      ∷ fault WrongActual 8 ∷ fault WrongActual 9 ∷ [])
  pub label_actuals_told : faults_in label_actuals ≡ Some (
      fault WrongActual 3 ∷ fault WrongActual 3 ∷ fault WrongActual 4 ∷ fault WrongActual 4 ∷ fault WrongActual 5
      ∷ fault WrongActual 5 ∷ fault WrongActual 6 ∷ fault WrongActual 6 ∷ [])
  pub array_actuals_told : faults_in array_actuals ≡ Some (
      fault WrongActual 2 ∷ fault WrongActual 2 ∷ fault WrongActual 4 ∷ fault WrongActual 4 ∷ fault WrongActual 5
      ∷ fault WrongActual 5 ∷ fault WrongUse 6 ∷ fault WrongActual 6 ∷ [])
  pub procedure_actuals_told : faults_in procedure_actuals ≡ Some (
      fault WrongActual 2 ∷ fault WrongActual 2 ∷ fault WrongActual 3 ∷ fault WrongActual 5 ∷ fault WrongActual 5
      ∷ fault WrongActual 6 ∷ fault WrongActual 7 ∷ fault WrongActual 7 ∷ fault WrongActual 8 ∷ fault WrongActual 9
      ∷ fault WrongActual 9 ∷ fault WrongActual 10 ∷ [])
  pub string_actuals_told : faults_in string_actuals ≡ Some (
      fault WrongActual 2 ∷ fault WrongActual 3 ∷ fault WrongActual 4 ∷ fault WrongActual 5 ∷ [])
  pub unknown_actuals_told : faults_in unknown_actuals ≡ Some (fault WrongUse 2 ∷ fault WrongUse 3 ∷ fault WrongBranches 4 ∷ [])
  pub own_faults_of_actuals_told : faults_in own_faults_of_actuals ≡ Some (
      fault WrongOperand 1 ∷ fault WrongCount 2 ∷ fault WrongOperand 2 ∷ fault WrongOperand 3 ∷ fault WrongUse 3 ∷ fault WrongUse 3
      ∷ fault WrongOperand 4 ∷ fault WrongUse 5 ∷ [])
  pub formal_calls_told : faults_in formal_calls ≡ Some (
      fault WrongActual 2 ∷ fault WrongActual 2 ∷ fault WrongActual 3 ∷ fault WrongActual 4 ∷ fault WrongActual 4
      ∷ fault WrongActual 4 ∷ fault WrongOperand 5 ∷ [])
