-- Programs with faults of scopes and without, each told by its bytes. The faults are those that an independent model lists.
use Rattle.std.specs.Prelude.{◌≡◌, ◌++◌, ℕ, List, [], ◌∷◌, codes, Option, Some}
use Rattle.std.specs.Option.{option_map}
use Rattle.gier_symbol.specs.Assembly.{assembly}
use Rattle.gier_symbol.specs.Listing.{FaultAt}
use Rattle.gier_symbol.specs.Reading.{symbols_of}
use Rattle.gier_tree.specs.Structure.{program_spelled}
use Rattle.gier_scope.specs.Faults.{ScopeFault, DeclaredTwice, NotDeclared, LocalInBound, NotFormal, SpecifiedTwice, NotSpecified}
use Rattle.gier_scope.specs.Faults.{ScopeFaults}
use Rattle.gier_scope.specs.ScopeFaults.{scope_faults}

abbrev pub fault : ScopeFault → (line : ℕ) → FaultAt ScopeFault
fault kind line = record { kind = kind; line = line }

-- the faults of scopes of the program that the bytes are, where they are one
abbrev pub faults_in : List ℕ → Option ScopeFaults
faults_in bytes = option_map scope_faults (program_spelled (assembly (symbols_of bytes).symbols).symbols)

-- each declaring place but the first one, in a list of identifiers and across declarations
abbrev pub twice_variable : List ℕ
twice_variable =
    codes "_begin _integer a, b,\n"
    ++ codes "a; _boolean c,\n"
    ++ codes "b; a := 1 _end"

abbrev pub once_variable : List ℕ
once_variable =
    codes "_begin _integer a, b,\n"
    ++ codes "c; _boolean d,\n"
    ++ codes "e; a := 1 _end"

-- all sorts of declarations, in one scope
abbrev pub twice_sorts : List ℕ
twice_sorts =
    codes "_begin _integer a; _integer _array a, b[1:2],\n"
    ++ codes "b, c[1:3]; _switch\n"
    ++ codes "c := d;\n"
    ++ codes "_procedure d;; d: _end"

abbrev pub once_sorts : List ℕ
once_sorts =
    codes "_begin _integer a; _integer _array b, c[1:2],\n"
    ++ codes "d, e[1:3]; _switch\n"
    ++ codes "f := g;\n"
    ++ codes "_procedure h;; g: _end"

-- labels belong to the block, also those in compounds and conditionals
abbrev pub twice_label : List ℕ
twice_label =
    codes "_begin _integer a;\n"
    ++ codes "p: _begin q: _begin\n"
    ++ codes "p: _end; _if a = 1 _then\n"
    ++ codes "q: r: _else\n"
    ++ codes "r: s: _end;\n"
    ++ codes "a: s: _end"

-- a label before a conditional and a for statement
abbrev pub twice_label_if : List ℕ
twice_label_if =
    codes "_begin _integer a; p:\n"
    ++ codes "q: _if a = 1 _then\n"
    ++ codes "p: _for a := 1 _do;\n"
    ++ codes "q: _for a := 2 _do; _end"

-- labels of a controlled statement are its own; its for statement stands outside
abbrev pub once_label_loop : List ℕ
once_label_loop =
    codes "_begin _integer a; p:\n"
    ++ codes "q: _for a := 1 _do p: q:\n"
    ++ codes "_begin r: a := 2 _end; r: _end"

abbrev pub twice_label_loop : List ℕ
twice_label_loop =
    codes "_begin _integer a; p:\n"
    ++ codes "q: _for a := 1 _do p: q:\n"
    ++ codes "_begin r: q: a := 2; r: _end; q: _end"

-- an inner block declares anew, and behind it the outer scope goes on
abbrev pub twice_inner : List ℕ
twice_inner =
    codes "_begin _integer a; _begin _integer a; a := 1 _end;\n"
    ++ codes "b: _begin _integer b; a := b _end;\n"
    ++ codes "b: _end"

-- labels of the program are in a scope around its block
abbrev pub twice_program : List ℕ
twice_program =
    codes "a: b: _begin _integer a; b: a := 1; a:\n"
    ++ codes "_end"

abbrev pub twice_program_label : List ℕ
twice_program_label =
    codes "a: b:\n"
    ++ codes "a: _begin b: _end"

-- formals and labels of the body are in one scope, within that of the procedure identifier
abbrev pub twice_formal : List ℕ
twice_formal =
    codes "_begin _procedure p(p, a,\n"
    ++ codes "a); _integer p, a; _begin p := 1;\n"
    ++ codes "a: _end; p(1, 2, 3);\n"
    ++ codes "p: _end"

-- a block as a body is a scope of its own
abbrev pub twice_formal_block : List ℕ
twice_formal_block =
    codes "_begin _procedure p(a); _integer a; _begin _integer a; a := 1;\n"
    ++ codes "a: _end; p(1) _end"

-- an own quantity is declared in the block of its declaration
abbrev pub twice_own : List ℕ
twice_own =
    codes "_begin _own _integer a, b; _integer\n"
    ++ codes "a; _begin _own _integer a; _own _integer _array b, c[1:2],\n"
    ++ codes "c[1:1]; b[a] := 1 _end; c:\n"
    ++ codes "b: _end"

abbrev pub once_own : List ℕ
once_own =
    codes "_begin _own _integer a, b; _integer c; _begin _own _integer a; _own _integer _array b, c[1:2], d[1:1]; b[a] := 1 "
    ++ codes "_end;\n"
    ++ codes "d: _end"

-- standard identifiers may be declared anew, once in a scope
abbrev pub twice_standard : List ℕ
twice_standard =
    codes "_begin _integer abs, sign; _integer\n"
    ++ codes "sign; _begin _integer sign; sign := abs; outcr _end _end"

-- no scope around the use declares it
abbrev pub undeclared_variable : List ℕ
undeclared_variable =
    codes "_begin _integer a; a := b + 1;\n"
    ++ codes "b := a; outinteger(\n"
    ++ codes "c); outcr _end"

abbrev pub declared_variable : List ℕ
declared_variable =
    codes "_begin _integer a, b, c; a := b + 1;\n"
    ++ codes "b := a; outinteger(\n"
    ++ codes "c); outcr _end"

-- behind its block an identifier is no longer declared
abbrev pub undeclared_behind : List ℕ
undeclared_behind =
    codes "_begin _integer a; _begin _integer b; b := a _end;\n"
    ++ codes "b := 1; a := 1; _begin _integer c; c := a; b := c _end; a :=\n"
    ++ codes "c _end"

-- nor behind its procedure
abbrev pub undeclared_behind_procedure : List ℕ
undeclared_behind_procedure =
    codes "_begin _procedure p(x); _integer x; _begin l: x := 1; _goto l _end;\n"
    ++ codes "p(x);\n"
    ++ codes "_goto l _end"

-- and so with own quantities
abbrev pub undeclared_behind_own : List ℕ
undeclared_behind_own =
    codes "_begin _integer a; _begin _own _integer b; b := a _end;\n"
    ++ codes "b := 1 _end"

-- labels of a controlled statement are not declared outside it
abbrev pub undeclared_into_loop : List ℕ
undeclared_into_loop =
    codes "_begin _integer a; _for a := 1 _do l: _begin m: _goto l; _goto m _end;\n"
    ++ codes "_goto l;\n"
    ++ codes "_goto m _end"

abbrev pub declared_out_of_loop : List ℕ
declared_out_of_loop =
    codes "_begin _integer a; l: _for a := 1 _do _begin _begin m: _goto l; _goto m _end _end;\n"
    ++ codes "_goto l; m: _goto m _end"

-- each use in order: controlled variable, for elements, subscripts, actuals, switches, conditions
abbrev pub undeclared_everywhere : List ℕ
undeclared_everywhere =
    codes "_begin _integer a; _switch s := t,\n"
    ++ codes "u; _for b := c\n"
    ++ codes "_step d _until e,\n"
    ++ codes "f _while g _do h[i,\n"
    ++ codes "j] := k(l, {m}, _if n _then o _else\n"
    ++ codes "p); _if q _then r _else\n"
    ++ codes "v: _goto w _end"

-- each use of one identifier has the fault
abbrev pub undeclared_same_twice : List ℕ
undeclared_same_twice =
    codes "_begin outinteger(a + a);\n"
    ++ codes "a := a _end"

-- a procedure uses what its block declares behind it
abbrev pub declared_later : List ℕ
declared_later = codes "_begin _procedure p; q(1); _procedure q(a); _integer a; _begin _goto l; p _end; l: _end"

-- a procedure does not see the formals of another, nor its own outside
abbrev pub undeclared_sibling : List ℕ
undeclared_sibling =
    codes "_begin _procedure p(a); _integer a; a := 1;\n"
    ++ codes "_procedure q(b); _integer b; a :=\n"
    ++ codes "b; p(1) _end"

-- a bound is evaluated outside its block
abbrev pub local_variable : List ℕ
local_variable =
    codes "_begin _integer n; n := 1; _begin _integer n, m; _integer _array a[1:n,\n"
    ++ codes "m:abs(\n"
    ++ codes "a)]; a[1] := n _end _end"

abbrev pub outer_variable : List ℕ
outer_variable =
    codes "_begin _integer n; n := 1; _begin _integer m; _integer _array a[1:n,\n"
    ++ codes "1:abs(\n"
    ++ codes "n)]; a[1, 1] := m _end _end"

-- also what the block declares behind the bound, its labels and its own quantities
abbrev pub local_later : List ℕ
local_later =
    codes "_begin _integer _array a[l:f(\n"
    ++ codes "1), 1:o]; _integer _procedure f(x); _value x; _integer x; f := x;\n"
    ++ codes "_own _integer o;\n"
    ++ codes "l: _end"

-- the block of a bound in a procedure is that of the body, not the procedure
abbrev pub local_procedure : List ℕ
local_procedure =
    codes "_begin _procedure p(n); _value n; _integer n; _begin _integer m; _integer _array a[1:n], b[1:\n"
    ++ codes "m]; a[1] := 1 _end; p(2) _end"

-- both faults of a bound in order
abbrev pub local_and_not_declared : List ℕ
local_and_not_declared =
    codes "_begin _integer n; _integer _array a[n:\n"
    ++ codes "m], b[k:\n"
    ++ codes "n + n]; _end"

-- in the value list and in specifications
abbrev pub no_formal : List ℕ
no_formal =
    codes "_begin _integer c; _procedure p(a, b); _value a,\n"
    ++ codes "c; _integer a, b,\n"
    ++ codes "c; _label\n"
    ++ codes "d; a := b; p(1, 2) _end"

abbrev pub formal : List ℕ
formal =
    codes "_begin _procedure p(a, b, c, d); _value a,\n"
    ++ codes "c; _integer a, b,\n"
    ++ codes "c; _label\n"
    ++ codes "d; a := b; _end"

-- the procedure identifier is no formal
abbrev pub no_formal_own_name : List ℕ
no_formal_own_name =
    codes "_begin _procedure p; _value\n"
    ++ codes "p; _integer\n"
    ++ codes "p; outcr; _procedure q(q); _value q; _integer q; outcr; p _end"

-- in the value list
abbrev pub twice_by_value : List ℕ
twice_by_value =
    codes "_begin _procedure p(a, b); _value a, b,\n"
    ++ codes "a; _integer a, b; a := b; p(1, 2) _end"

abbrev pub once_by_value : List ℕ
once_by_value = codes "_begin _procedure p(a, b); _value a, b; _integer a, b; a := b; p(1, 2) _end"

-- within one specification and across them, whatever they say
abbrev pub specified_twice : List ℕ
specified_twice =
    codes "_begin _procedure p(a, b); _value a; _integer a,\n"
    ++ codes "a; _integer b; _label\n"
    ++ codes "a; _integer _array\n"
    ++ codes "b; outcr; p(1, 2) _end"

-- what is no formal has that fault at each place
abbrev pub no_formal_twice : List ℕ
no_formal_twice =
    codes "_begin _procedure p(a); _value b,\n"
    ++ codes "b; _integer a,\n"
    ++ codes "b; _integer\n"
    ++ codes "b; a := 1; p(1) _end"

-- at the formal list, also where the value list has it
abbrev pub not_specified : List ℕ
not_specified =
    codes "_begin _procedure p(a,\n"
    ++ codes "b, c,\n"
    ++ codes "d); _value a, d; _integer a; _label c; a := 1; p(1, 2, 3, 4) _end"

abbrev pub all_specified : List ℕ
all_specified =
    codes "_begin _procedure p(a,\n"
    ++ codes "b, c,\n"
    ++ codes "d); _value a, d; _integer a; _boolean _procedure b; _label c; _integer d; a := 1; _end"

-- of two places of such a formal the second one declares twice
abbrev pub not_specified_twice : List ℕ
not_specified_twice =
    codes "_begin _procedure p(a,\n"
    ++ codes "a,\n"
    ++ codes "a); _value a; outcr; p(1, 2, 3) _end"

-- a heading with each of its faults, and faults around it, in order
abbrev pub whole_heading : List ℕ
whole_heading =
    codes "_begin _integer p; _procedure\n"
    ++ codes "p(a, b,\n"
    ++ codes "a, c); _value b, x,\n"
    ++ codes "b; _integer c,\n"
    ++ codes "a; _boolean y,\n"
    ++ codes "c; _begin a := z;\n"
    ++ codes "b: _end; p(1);\n"
    ++ codes "w _end"

-- blocks, procedures, labels and controlled statements within each other
abbrev pub deep_scopes : List ℕ
deep_scopes =
    codes "l: _begin _integer a; _procedure p(a); _integer a; _begin\n"
    ++ codes "_for a := 1 _do l: _begin _integer b;\n"
    ++ codes "_procedure q(c); _integer c; m: _begin\n"
    ++ codes "a := b := c := d; _goto m; _goto l; n: _end;\n"
    ++ codes "_goto m; _goto n; q(b) _end;\n"
    ++ codes "_goto l; b := 1 _end;\n"
    ++ codes "p(a); l: _goto l; _goto m _end"

-- a program of every construct without a fault
abbrev pub no_fault : List ℕ
no_fault =
    codes "_begin _own _boolean e; _integer a, b; _integer _array c, d[1:2, 0:3]; _switch s := l, s[1], _if e _then l _else m;\n"
    ++ codes "_integer _procedure f(x, y, z); _value x; _integer x; _label y; _procedure z; _begin f := x; z; _goto y _end;\n"
    ++ codes "_procedure p; a := f(1, l, p); l: m: _for a := 1, a _step 1 _until b, a _while e _do c[1, a] := d[a, b] := -a;\n"
    ++ codes "_if e _then _goto s[a] _else p; outtext({x}); e := _not e _and a < b ^ 2 _end"

pub record AreScoped : Type 0 where
  pub twice_variable_told : faults_in twice_variable ≡ Some (fault DeclaredTwice 2 ∷ fault DeclaredTwice 3 ∷ [])
  pub once_variable_told : faults_in once_variable ≡ Some ([])
  pub twice_sorts_told : faults_in twice_sorts ≡ Some (
      fault DeclaredTwice 1 ∷ fault DeclaredTwice 2 ∷ fault DeclaredTwice 3 ∷ fault DeclaredTwice 4 ∷ [])
  pub once_sorts_told : faults_in once_sorts ≡ Some ([])
  pub twice_label_told : faults_in twice_label ≡ Some (
      fault DeclaredTwice 3 ∷ fault DeclaredTwice 4 ∷ fault DeclaredTwice 5 ∷ fault DeclaredTwice 6 ∷ fault DeclaredTwice 6 ∷ [])
  pub twice_label_if_told : faults_in twice_label_if ≡ Some (fault DeclaredTwice 3 ∷ fault DeclaredTwice 4 ∷ [])
  pub once_label_loop_told : faults_in once_label_loop ≡ Some ([])
  pub twice_label_loop_told : faults_in twice_label_loop ≡ Some (
      fault DeclaredTwice 3 ∷ fault DeclaredTwice 3 ∷ fault DeclaredTwice 3 ∷ [])
  pub twice_inner_told : faults_in twice_inner ≡ Some (fault DeclaredTwice 3 ∷ [])
  pub twice_program_told : faults_in twice_program ≡ Some (fault DeclaredTwice 1 ∷ [])
  pub twice_program_label_told : faults_in twice_program_label ≡ Some (fault DeclaredTwice 2 ∷ fault DeclaredTwice 2 ∷ [])
  pub twice_formal_told : faults_in twice_formal ≡ Some (fault DeclaredTwice 2 ∷ fault DeclaredTwice 3 ∷ fault DeclaredTwice 4 ∷ [])
  pub twice_formal_block_told : faults_in twice_formal_block ≡ Some (fault DeclaredTwice 2 ∷ [])
  pub twice_own_told : faults_in twice_own ≡ Some (fault DeclaredTwice 2 ∷ fault DeclaredTwice 3 ∷ fault DeclaredTwice 4 ∷ [])
  pub once_own_told : faults_in once_own ≡ Some ([])
  pub twice_standard_told : faults_in twice_standard ≡ Some (fault DeclaredTwice 2 ∷ [])
  pub undeclared_variable_told : faults_in undeclared_variable ≡ Some (
      fault NotDeclared 1 ∷ fault NotDeclared 2 ∷ fault NotDeclared 3 ∷ [])
  pub declared_variable_told : faults_in declared_variable ≡ Some ([])
  pub undeclared_behind_told : faults_in undeclared_behind
      ≡ Some (fault NotDeclared 2 ∷ fault NotDeclared 2 ∷ fault NotDeclared 3 ∷ [])
  pub undeclared_behind_procedure_told : faults_in undeclared_behind_procedure
      ≡ Some (fault NotDeclared 2 ∷ fault NotDeclared 3 ∷ [])
  pub undeclared_behind_own_told : faults_in undeclared_behind_own ≡ Some (fault NotDeclared 2 ∷ [])
  pub undeclared_into_loop_told : faults_in undeclared_into_loop ≡ Some (fault NotDeclared 2 ∷ fault NotDeclared 3 ∷ [])
  pub declared_out_of_loop_told : faults_in declared_out_of_loop ≡ Some ([])
  pub undeclared_everywhere_told : faults_in undeclared_everywhere ≡ Some (
      fault NotDeclared 1 ∷ fault NotDeclared 2 ∷ fault NotDeclared 2 ∷ fault NotDeclared 2 ∷ fault NotDeclared 3
      ∷ fault NotDeclared 3 ∷ fault NotDeclared 4 ∷ fault NotDeclared 4 ∷ fault NotDeclared 4 ∷ fault NotDeclared 4
      ∷ fault NotDeclared 5 ∷ fault NotDeclared 5 ∷ fault NotDeclared 5 ∷ fault NotDeclared 5 ∷ fault NotDeclared 5
      ∷ fault NotDeclared 6 ∷ fault NotDeclared 6 ∷ fault NotDeclared 6 ∷ fault NotDeclared 7 ∷ [])
  pub undeclared_same_twice_told : faults_in undeclared_same_twice ≡ Some (
      fault NotDeclared 1 ∷ fault NotDeclared 1 ∷ fault NotDeclared 2 ∷ fault NotDeclared 2 ∷ [])
  pub declared_later_told : faults_in declared_later ≡ Some ([])
  pub undeclared_sibling_told : faults_in undeclared_sibling ≡ Some (fault NotDeclared 2 ∷ [])
  pub local_variable_told : faults_in local_variable
      ≡ Some (fault LocalInBound 1 ∷ fault LocalInBound 2 ∷ fault LocalInBound 3 ∷ [])
  pub outer_variable_told : faults_in outer_variable ≡ Some ([])
  pub local_later_told : faults_in local_later ≡ Some (fault LocalInBound 1 ∷ fault LocalInBound 1 ∷ fault LocalInBound 2 ∷ [])
  pub local_procedure_told : faults_in local_procedure ≡ Some (fault LocalInBound 2 ∷ [])
  pub local_and_not_declared_told : faults_in local_and_not_declared ≡ Some (
      fault LocalInBound 1 ∷ fault NotDeclared 2 ∷ fault NotDeclared 2 ∷ fault LocalInBound 3 ∷ fault LocalInBound 3 ∷ [])
  pub no_formal_told : faults_in no_formal ≡ Some (fault NotFormal 2 ∷ fault NotFormal 3 ∷ fault NotFormal 4 ∷ [])
  pub formal_told : faults_in formal ≡ Some ([])
  pub no_formal_own_name_told : faults_in no_formal_own_name ≡ Some (fault NotFormal 2 ∷ fault NotFormal 3 ∷ [])
  pub twice_by_value_told : faults_in twice_by_value ≡ Some (fault SpecifiedTwice 2 ∷ [])
  pub once_by_value_told : faults_in once_by_value ≡ Some ([])
  pub specified_twice_told : faults_in specified_twice ≡ Some (
      fault SpecifiedTwice 2 ∷ fault SpecifiedTwice 3 ∷ fault SpecifiedTwice 4 ∷ [])
  pub no_formal_twice_told : faults_in no_formal_twice ≡ Some (
      fault NotFormal 1 ∷ fault NotFormal 2 ∷ fault NotFormal 3 ∷ fault NotFormal 4 ∷ [])
  pub not_specified_told : faults_in not_specified ≡ Some (fault NotSpecified 2 ∷ fault NotSpecified 3 ∷ [])
  pub all_specified_told : faults_in all_specified ≡ Some ([])
  pub not_specified_twice_told : faults_in not_specified_twice ≡ Some (
      fault NotSpecified 1 ∷ fault DeclaredTwice 2 ∷ fault DeclaredTwice 3 ∷ [])
  pub whole_heading_told : faults_in whole_heading ≡ Some (
      fault DeclaredTwice 2 ∷ fault NotSpecified 2 ∷ fault DeclaredTwice 3 ∷ fault NotFormal 3 ∷ fault SpecifiedTwice 4
      ∷ fault NotFormal 5 ∷ fault SpecifiedTwice 6 ∷ fault NotDeclared 6 ∷ fault DeclaredTwice 7 ∷ fault NotDeclared 8 ∷ [])
  pub deep_scopes_told : faults_in deep_scopes ≡ Some (
      fault NotDeclared 4 ∷ fault NotDeclared 5 ∷ fault NotDeclared 5 ∷ fault NotDeclared 6 ∷ fault NotDeclared 7 ∷ [])
  pub no_fault_told : faults_in no_fault ≡ Some ([])
