-- Errors of program texts, one of each list, and the lists in their order. The lines are those that an independent model prints.
use Rattle.std.specs.Prelude.{◌≡◌, ◌++◌, ℕ, List, [], codes, length}
use Rattle.gier_kinds.specs.Errors.{TooLong, Listed, errors, first_filled, five_lists}
use Rattle.gier_kinds.specs.ErrorTexts.{error_lines}

-- faults of bytes are listed alone, all of them
abbrev pub wrong_bytes : List ℕ
wrong_bytes =
    codes "_begin _integer a; a := ? _foo;\n"
    ++ codes "b := 999999999999999 | _end _end {"

abbrev pub open_string : List ℕ
open_string =
    codes "_begin _integer a; outtext(a);\n"
    ++ codes "outtext({x) _end"

-- then those of numbers
abbrev pub large_numbers : List ℕ
large_numbers =
    codes "_begin _integer a; a := 999999999999999;\n"
    ++ codes "b := 549755813888 + 549755813887 _end _end"

-- then that of structure
abbrev pub wrong_structure : List ℕ
wrong_structure =
    codes "_begin _integer a; a := b;\n"
    ++ codes "a := a ) _end"

-- at the end, where the text ends too early
abbrev pub structure_at_end : List ℕ
structure_at_end =
    codes "_begin _integer a; a := b;\n"
    ++ codes "a := b\n"

-- then those of scopes
abbrev pub wrong_scopes : List ℕ
wrong_scopes =
    codes "_begin _integer a, a; a := b + _true;\n"
    ++ codes "c := a _end"

-- then those of types
abbrev pub wrong_types : List ℕ
wrong_types =
    codes "_begin _integer a; a := _true;\n"
    ++ codes "a := a _and 1 _end"

-- and where there are none, it is a program
abbrev pub no_errors : List ℕ
no_errors =
    codes "_begin _integer a; a := 1;\n"
    ++ codes "a := a + 1 _end"

-- types are looked at where own quantities stand in the block around
abbrev pub own_types : List ℕ
own_types =
    codes "_begin _integer a; _begin _own _integer b; b := 1;\n"
    ++ codes "b := _true; a := b _end _end"

-- in the other spelling
abbrev pub quoted_scopes : List ℕ
quoted_scopes =
    codes "!'BEGIN' 'INTEGER' A; A := 1;\n"
    ++ codes "B := A 'END' "

abbrev pub quoted_types : List ℕ
quoted_types =
    codes "!'BEGIN' 'INTEGER' 'PROCEDURE' F; F := 1;\n"
    ++ codes "F := 2 'END' "

-- no bytes are no program
abbrev pub nothing : List ℕ
nothing = ([])

-- each text of a fault of scopes
abbrev pub each_scope_text : List ℕ
each_scope_text =
    codes "_begin _integer a, a; _procedure p(x, y); _value z, x,\n"
    ++ codes "x; _integer x; x := q;\n"
    ++ codes "_integer _array v[1:a]; p(1, 2) _end"

-- each text of a fault of types
abbrev pub each_type_text : List ℕ
each_type_text =
    codes "_begin _integer i; _boolean b; _procedure p(x); _value x; _label x; _goto x; _integer _array v[1:_true];\n"
    ++ codes "_procedure q(x); _integer x; i := q; p(1,\n"
    ++ codes "2); q(b);\n"
    ++ codes "v[b] := 1; _for i := b _do _if i _then _goto 1 _else b := _if b _then 1 _else b; b := 1 + i;\n"
    ++ codes "i := _not 1 _end"

pub record AreErrors : Type 0 where
  pub wrong_bytes_printed : error_lines (errors wrong_bytes) ≡
      codes "line 1 character\n" ++ codes "line 1 word\n" ++ codes "line 2 character\n"
  pub open_string_printed : error_lines (errors open_string) ≡ codes "line 2 string\n"
  pub large_numbers_printed : error_lines (errors large_numbers) ≡ codes "line 1 number\n" ++ codes "line 2 number\n"
  pub wrong_structure_printed : error_lines (errors wrong_structure) ≡ codes "line 2 structure\n"
  pub structure_at_end_printed : error_lines (errors structure_at_end) ≡ codes "line 3 structure\n"
  pub wrong_scopes_printed : error_lines (errors wrong_scopes) ≡
      codes "line 1 declared twice\n" ++ codes "line 1 not declared\n" ++ codes "line 2 not declared\n"
  pub wrong_types_printed : error_lines (errors wrong_types) ≡
      codes "line 1 assignment\n" ++ codes "line 2 assignment\n" ++ codes "line 2 operand\n"
  pub no_errors_printed : error_lines (errors no_errors) ≡ ([])
  pub own_types_printed : error_lines (errors own_types) ≡ codes "line 2 assignment\n"
  pub quoted_scopes_printed : error_lines (errors quoted_scopes) ≡ codes "line 2 not declared\n"
  pub quoted_types_printed : error_lines (errors quoted_types) ≡ codes "line 2 kind\n"
  pub nothing_printed : error_lines (errors nothing) ≡ codes "line 1 structure\n"
  pub each_scope_text_printed : error_lines (errors each_scope_text) ≡
      codes "line 1 declared twice\n" ++ codes "line 1 not specified\n" ++ codes "line 1 not formal\n"
      ++ codes "line 2 specified twice\n" ++ codes "line 2 not declared\n" ++ codes "line 3 local in bound\n"
  pub each_type_text_printed : error_lines (errors each_type_text) ≡
      codes "line 1 value\n" ++ codes "line 1 bound\n" ++ codes "line 2 kind\n" ++ codes "line 2 parameter count\n"
      ++ codes "line 3 parameter\n" ++ codes "line 4 subscripts\n" ++ codes "line 4 for\n" ++ codes "line 4 condition\n"
      ++ codes "line 4 designational\n" ++ codes "line 4 branches\n" ++ codes "line 4 assignment\n" ++ codes "line 5 assignment\n"
      ++ codes "line 5 operand\n"
  -- a text of the greatest length has the faults of its lists; one byte more, and that it is too long is its only error
  pub longest : (bytes : List ℕ) → length bytes ≡ 524288 → errors bytes ≡ Listed (first_filled (five_lists bytes))
  pub too_long : (bytes : List ℕ) → length bytes ≡ 524289 → errors bytes ≡ TooLong
  pub too_long_printed : error_lines TooLong ≡ codes "program too long\n"
