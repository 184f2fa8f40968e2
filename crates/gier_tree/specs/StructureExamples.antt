-- Programs with a fault of structure and without, told by their symbols: the line of the first symbol with which they are no
-- prefix of a program.
use Rattle.std.specs.Prelude.{◌≡◌, List, [], ◌∷◌, None, Some}
use Rattle.gier_symbol.specs.declared.symbol.Symbol.{Symbol}
use Rattle.gier_tree.specs.SpellExamples.{row, sums_tree, sums_symbols, loop_tree, loop_symbols, declared_tree, declared_symbols}
use Rattle.gier_tree.specs.Structure.{structure_fault, program_spelled}

-- a program is a block or compound
abbrev pub no_program : List Symbol
no_program = row 3 8 1 ∷ row 31 0 1 ∷ row 4 1 1 ∷ row 8 0 1 ∷ []

-- labels, and then a group
abbrev pub label_alone : List Symbol
label_alone = row 3 8 1 ∷ row 29 0 1 ∷ row 3 9 1 ∷ row 29 0 1 ∷ row 36 0 1 ∷ row 37 0 1 ∷ row 8 0 1 ∷ []

-- nothing stands behind it
abbrev pub group_twice : List Symbol
group_twice = row 36 0 1 ∷ row 37 0 1 ∷ row 30 0 1 ∷ row 36 0 2 ∷ row 37 0 2 ∷ row 8 0 2 ∷ []

-- where the text ends too early, the fault is at its end
abbrev pub open_group : List Symbol
open_group = row 36 0 1 ∷ row 3 8 1 ∷ row 31 0 1 ∷ row 4 1 1 ∷ row 30 0 1 ∷ row 8 0 2 ∷ []

-- declarations stand before statements
abbrev pub late_declaration : List Symbol
late_declaration =
    row 36 0 1 ∷ row 3 8 1 ∷ row 31 0 1 ∷ row 4 1 1 ∷ row 30 0 1 ∷ row 47 0 2 ∷ row 3 9 2 ∷ row 37 0 2 ∷ row 8 0 2 ∷ []

-- behind a declaration stands a semicolon
abbrev pub no_semicolon : List Symbol
no_semicolon = row 36 0 1 ∷ row 47 0 1 ∷ row 3 8 1 ∷ row 37 0 2 ∷ row 8 0 2 ∷ []

-- no conditional statement stands behind then
abbrev pub if_then_if : List Symbol
if_then_if = row 36 0 1 ∷ row 38 0 1 ∷ row 3 8 1 ∷ row 39 0 1 ∷ row 38 0 2 ∷ row 3 9 2 ∷ row 39 0 2 ∷ row 3 10 2 ∷ row 37 0 2
    ∷ row 8 0 2 ∷ []

-- labelled or not
abbrev pub labelled_if : List Symbol
labelled_if = row 36 0 1 ∷ row 38 0 1 ∷ row 3 8 1 ∷ row 39 0 1 ∷ row 3 9 1 ∷ row 29 0 1 ∷ row 38 0 2 ∷ row 3 10 2 ∷ row 39 0 2
    ∷ row 3 11 2 ∷ row 37 0 2 ∷ row 8 0 2 ∷ []

-- a for statement behind then takes no else of that if
abbrev pub loop_else : List Symbol
loop_else = row 36 0 1 ∷ row 38 0 1 ∷ row 3 8 1 ∷ row 39 0 1 ∷ row 41 0 1 ∷ row 3 9 1 ∷ row 31 0 1 ∷ row 4 1 1 ∷ row 45 0 1
    ∷ row 3 10 1 ∷ row 40 0 2 ∷ row 3 11 2 ∷ row 37 0 2 ∷ row 8 0 2 ∷ []

-- an else in its controlled statement belongs to the if there
abbrev pub inner_else : List Symbol
inner_else = row 36 0 1 ∷ row 38 0 1 ∷ row 3 8 1 ∷ row 39 0 1 ∷ row 41 0 1 ∷ row 3 9 1 ∷ row 31 0 1 ∷ row 4 1 1 ∷ row 45 0 1
    ∷ row 38 0 1 ∷ row 3 10 1 ∷ row 39 0 1 ∷ row 3 11 1 ∷ row 40 0 2 ∷ row 3 12 2 ∷ row 37 0 2 ∷ row 8 0 2 ∷ []

-- a dummy statement stands before else
abbrev pub dummy_else : List Symbol
dummy_else = row 36 0 1 ∷ row 38 0 1 ∷ row 3 8 1 ∷ row 39 0 1 ∷ row 40 0 2 ∷ row 37 0 2 ∷ row 8 0 2 ∷ []

-- a relation has two sides
abbrev pub two_relations : List Symbol
two_relations = row 36 0 1 ∷ row 3 8 1 ∷ row 31 0 1 ∷ row 3 9 1 ∷ row 15 0 1 ∷ row 3 10 1 ∷ row 15 0 2 ∷ row 3 11 2 ∷ row 37 0 2
    ∷ row 8 0 2 ∷ []

-- a sign stands first
abbrev pub second_sign : List Symbol
second_sign = row 36 0 1 ∷ row 3 8 1 ∷ row 31 0 1 ∷ row 3 9 1 ∷ row 12 0 1 ∷ row 11 0 2 ∷ row 3 10 2 ∷ row 37 0 2 ∷ row 8 0 2 ∷ []

-- one not
abbrev pub not_not : List Symbol
not_not = row 36 0 1 ∷ row 3 8 1 ∷ row 31 0 1 ∷ row 21 0 1 ∷ row 21 0 2 ∷ row 3 9 2 ∷ row 37 0 2 ∷ row 8 0 2 ∷ []

-- a sign stands first on each side
abbrev pub sign_in_relation : List Symbol
sign_in_relation = row 36 0 1 ∷ row 3 8 1 ∷ row 31 0 1 ∷ row 11 0 1 ∷ row 3 9 1 ∷ row 15 0 1 ∷ row 11 0 2 ∷ row 3 10 2
    ∷ row 37 0 2 ∷ row 8 0 2 ∷ []

-- a conditional expression as an operand stands in parentheses
abbrev pub if_operand : List Symbol
if_operand = row 36 0 1 ∷ row 3 8 1 ∷ row 31 0 1 ∷ row 4 1 1 ∷ row 10 0 1 ∷ row 38 0 2 ∷ row 3 9 2 ∷ row 39 0 2 ∷ row 3 10 2
    ∷ row 40 0 2 ∷ row 3 11 2 ∷ row 37 0 2 ∷ row 8 0 2 ∷ []

-- the branch behind then is simple
abbrev pub then_if_expr : List Symbol
then_if_expr = row 36 0 1 ∷ row 3 8 1 ∷ row 31 0 1 ∷ row 38 0 1 ∷ row 3 9 1 ∷ row 39 0 1 ∷ row 38 0 2 ∷ row 3 10 2 ∷ row 39 0 2
    ∷ row 3 11 2 ∷ row 40 0 2 ∷ row 3 12 2 ∷ row 40 0 2 ∷ row 3 13 2 ∷ row 37 0 2 ∷ row 8 0 2 ∷ []

-- a call is no left part
abbrev pub left_call : List Symbol
left_call = row 36 0 1 ∷ row 3 8 1 ∷ row 32 0 1 ∷ row 4 1 1 ∷ row 33 0 1 ∷ row 31 0 2 ∷ row 4 2 2 ∷ row 37 0 2 ∷ row 8 0 2 ∷ []

-- nor a sum, behind a first left part
abbrev pub sum_left : List Symbol
sum_left = row 36 0 1 ∷ row 3 8 1 ∷ row 31 0 1 ∷ row 3 9 1 ∷ row 10 0 1 ∷ row 3 10 1 ∷ row 31 0 2 ∷ row 4 2 2 ∷ row 37 0 2
    ∷ row 8 0 2 ∷ []

-- left parts with subscripts
abbrev pub element_left : List Symbol
element_left = row 36 0 1 ∷ row 3 8 1 ∷ row 34 0 1 ∷ row 4 1 1 ∷ row 35 0 1 ∷ row 31 0 1 ∷ row 3 9 1 ∷ row 34 0 1 ∷ row 3 10 1
    ∷ row 34 0 1 ∷ row 4 2 1 ∷ row 35 0 1 ∷ row 35 0 1 ∷ row 31 0 1 ∷ row 3 11 1 ∷ row 31 0 2 ∷ row 3 12 2 ∷ row 34 0 2
    ∷ row 4 3 2 ∷ row 35 0 2 ∷ row 10 0 2 ∷ row 4 4 2 ∷ row 12 0 2 ∷ row 4 5 2 ∷ row 37 0 2 ∷ row 8 0 2 ∷ []

-- actuals are not empty
abbrev pub empty_actuals : List Symbol
empty_actuals = row 36 0 1 ∷ row 3 8 1 ∷ row 32 0 1 ∷ row 33 0 2 ∷ row 37 0 2 ∷ row 8 0 2 ∷ []

-- a string is an actual alone
abbrev pub string_alone : List Symbol
string_alone = row 36 0 1 ∷ row 3 8 1 ∷ row 31 0 1 ∷ row 5 0 2 ∷ row 6 98 2 ∷ row 7 0 2 ∷ row 37 0 2 ∷ row 8 0 2 ∷ []

-- as one of several
abbrev pub string_actual : List Symbol
string_actual = row 36 0 1 ∷ row 3 8 1 ∷ row 32 0 1 ∷ row 4 1 1 ∷ row 28 0 1 ∷ row 5 0 1 ∷ row 6 98 1 ∷ row 7 0 1 ∷ row 28 0 1
    ∷ row 38 0 1 ∷ row 3 9 1 ∷ row 39 0 1 ∷ row 3 10 1 ∷ row 40 0 1 ∷ row 3 11 1 ∷ row 33 0 1 ∷ row 37 0 1 ∷ row 8 0 1 ∷ []

-- a bound of an own array is constant
abbrev pub own_bound : List Symbol
own_bound = row 36 0 1 ∷ row 55 0 1 ∷ row 47 0 1 ∷ row 49 0 1 ∷ row 3 8 1 ∷ row 34 0 1 ∷ row 4 1 1 ∷ row 29 0 1 ∷ row 3 9 2
    ∷ row 35 0 2 ∷ row 30 0 2 ∷ row 37 0 2 ∷ row 8 0 2 ∷ []

-- with a sign or without
abbrev pub own_sign : List Symbol
own_sign = row 36 0 1 ∷ row 55 0 1 ∷ row 48 0 1 ∷ row 49 0 1 ∷ row 3 8 1 ∷ row 34 0 1 ∷ row 11 0 1 ∷ row 4 1 1 ∷ row 29 0 1
    ∷ row 10 0 1 ∷ row 4 2 1 ∷ row 28 0 1 ∷ row 4 3 1 ∷ row 29 0 1 ∷ row 4 4 1 ∷ row 35 0 1 ∷ row 28 0 1 ∷ row 3 9 1 ∷ row 28 0 1
    ∷ row 3 10 1 ∷ row 34 0 1 ∷ row 4 1 1 ∷ row 29 0 1 ∷ row 4 2 1 ∷ row 35 0 1 ∷ row 30 0 1 ∷ row 37 0 1 ∷ row 8 0 1 ∷ []

-- step and until
abbrev pub step_without_until : List Symbol
step_without_until = row 36 0 1 ∷ row 41 0 1 ∷ row 3 8 1 ∷ row 31 0 1 ∷ row 4 1 1 ∷ row 42 0 1 ∷ row 4 2 1 ∷ row 45 0 2
    ∷ row 37 0 2 ∷ row 8 0 2 ∷ []

-- values stand before specifications
abbrev pub value_later : List Symbol
value_later = row 36 0 1 ∷ row 51 0 1 ∷ row 3 8 1 ∷ row 32 0 1 ∷ row 3 9 1 ∷ row 33 0 1 ∷ row 30 0 1 ∷ row 47 0 1 ∷ row 3 9 1
    ∷ row 30 0 1 ∷ row 54 0 2 ∷ row 3 9 2 ∷ row 30 0 2 ∷ row 30 0 2 ∷ row 37 0 2 ∷ row 8 0 2 ∷ []

-- an array has a type
abbrev pub array_no_type : List Symbol
array_no_type = row 36 0 1 ∷ row 49 0 2 ∷ row 3 8 2 ∷ row 34 0 2 ∷ row 4 1 2 ∷ row 29 0 2 ∷ row 4 2 2 ∷ row 35 0 2 ∷ row 30 0 2
    ∷ row 37 0 2 ∷ row 8 0 2 ∷ []

-- each specification
abbrev pub spec_kinds : List Symbol
spec_kinds = row 36 0 1 ∷ row 47 0 1 ∷ row 51 0 1 ∷ row 3 8 1 ∷ row 32 0 1 ∷ row 3 9 1 ∷ row 28 0 1 ∷ row 3 10 1 ∷ row 28 0 1
    ∷ row 3 11 1 ∷ row 28 0 1 ∷ row 3 12 1 ∷ row 28 0 1 ∷ row 3 13 1 ∷ row 28 0 1 ∷ row 3 14 1 ∷ row 28 0 1 ∷ row 3 15 1
    ∷ row 33 0 1 ∷ row 30 0 1 ∷ row 54 0 1 ∷ row 3 9 1 ∷ row 30 0 1 ∷ row 47 0 1 ∷ row 3 9 1 ∷ row 30 0 1 ∷ row 48 0 1
    ∷ row 49 0 1 ∷ row 3 10 1 ∷ row 30 0 1 ∷ row 53 0 1 ∷ row 3 11 1 ∷ row 30 0 1 ∷ row 50 0 1 ∷ row 3 12 1 ∷ row 30 0 1
    ∷ row 52 0 1 ∷ row 3 13 1 ∷ row 30 0 1 ∷ row 51 0 1 ∷ row 3 14 1 ∷ row 30 0 1 ∷ row 48 0 1 ∷ row 51 0 1 ∷ row 3 15 1
    ∷ row 30 0 1 ∷ row 30 0 1 ∷ row 37 0 1 ∷ row 8 0 1 ∷ []

-- thirty pairs in a bound list
abbrev pub thirty_pairs : List Symbol
thirty_pairs = row 36 0 1 ∷ row 55 0 1 ∷ row 47 0 1 ∷ row 49 0 1 ∷ row 3 8 1 ∷ row 34 0 1 ∷ row 4 1 1 ∷ row 29 0 1 ∷ row 4 2 1
    ∷ row 28 0 1 ∷ row 4 1 1 ∷ row 29 0 1 ∷ row 4 2 1 ∷ row 28 0 1 ∷ row 4 1 1 ∷ row 29 0 1 ∷ row 4 2 1 ∷ row 28 0 1 ∷ row 4 1 1
    ∷ row 29 0 1 ∷ row 4 2 1 ∷ row 28 0 1 ∷ row 4 1 1 ∷ row 29 0 1 ∷ row 4 2 1 ∷ row 28 0 1 ∷ row 4 1 1 ∷ row 29 0 1 ∷ row 4 2 1
    ∷ row 28 0 1 ∷ row 4 1 1 ∷ row 29 0 1 ∷ row 4 2 1 ∷ row 28 0 1 ∷ row 4 1 1 ∷ row 29 0 1 ∷ row 4 2 1 ∷ row 28 0 1 ∷ row 4 1 1
    ∷ row 29 0 1 ∷ row 4 2 1 ∷ row 28 0 1 ∷ row 4 1 1 ∷ row 29 0 1 ∷ row 4 2 1 ∷ row 28 0 1 ∷ row 4 1 1 ∷ row 29 0 1 ∷ row 4 2 1
    ∷ row 28 0 1 ∷ row 4 1 1 ∷ row 29 0 1 ∷ row 4 2 1 ∷ row 28 0 1 ∷ row 4 1 1 ∷ row 29 0 1 ∷ row 4 2 1 ∷ row 28 0 1 ∷ row 4 1 1
    ∷ row 29 0 1 ∷ row 4 2 1 ∷ row 28 0 1 ∷ row 4 1 1 ∷ row 29 0 1 ∷ row 4 2 1 ∷ row 28 0 1 ∷ row 4 1 1 ∷ row 29 0 1 ∷ row 4 2 1
    ∷ row 28 0 1 ∷ row 4 1 1 ∷ row 29 0 1 ∷ row 4 2 1 ∷ row 28 0 1 ∷ row 4 1 1 ∷ row 29 0 1 ∷ row 4 2 1 ∷ row 28 0 1 ∷ row 4 1 1
    ∷ row 29 0 1 ∷ row 4 2 1 ∷ row 28 0 1 ∷ row 4 1 1 ∷ row 29 0 1 ∷ row 4 2 1 ∷ row 28 0 1 ∷ row 4 1 1 ∷ row 29 0 1 ∷ row 4 2 1
    ∷ row 28 0 1 ∷ row 4 1 1 ∷ row 29 0 1 ∷ row 4 2 1 ∷ row 28 0 1 ∷ row 4 1 1 ∷ row 29 0 1 ∷ row 4 2 1 ∷ row 28 0 1 ∷ row 4 1 1
    ∷ row 29 0 1 ∷ row 4 2 1 ∷ row 28 0 1 ∷ row 4 1 1 ∷ row 29 0 1 ∷ row 4 2 1 ∷ row 28 0 1 ∷ row 4 1 1 ∷ row 29 0 1 ∷ row 4 2 1
    ∷ row 28 0 1 ∷ row 4 1 1 ∷ row 29 0 1 ∷ row 4 2 1 ∷ row 28 0 1 ∷ row 4 1 1 ∷ row 29 0 1 ∷ row 4 2 1 ∷ row 28 0 1 ∷ row 4 1 1
    ∷ row 29 0 1 ∷ row 4 2 1 ∷ row 28 0 1 ∷ row 4 1 1 ∷ row 29 0 1 ∷ row 4 2 1 ∷ row 35 0 1 ∷ row 30 0 1 ∷ row 37 0 1 ∷ row 8 0 1
    ∷ []

-- and not one more
abbrev pub more_pairs : List Symbol
more_pairs = row 36 0 1 ∷ row 55 0 1 ∷ row 47 0 1 ∷ row 49 0 1 ∷ row 3 8 1 ∷ row 34 0 1 ∷ row 4 1 1 ∷ row 29 0 1 ∷ row 4 2 1
    ∷ row 28 0 1 ∷ row 4 1 1 ∷ row 29 0 1 ∷ row 4 2 1 ∷ row 28 0 1 ∷ row 4 1 1 ∷ row 29 0 1 ∷ row 4 2 1 ∷ row 28 0 1 ∷ row 4 1 1
    ∷ row 29 0 1 ∷ row 4 2 1 ∷ row 28 0 1 ∷ row 4 1 1 ∷ row 29 0 1 ∷ row 4 2 1 ∷ row 28 0 1 ∷ row 4 1 1 ∷ row 29 0 1 ∷ row 4 2 1
    ∷ row 28 0 1 ∷ row 4 1 1 ∷ row 29 0 1 ∷ row 4 2 1 ∷ row 28 0 1 ∷ row 4 1 1 ∷ row 29 0 1 ∷ row 4 2 1 ∷ row 28 0 1 ∷ row 4 1 1
    ∷ row 29 0 1 ∷ row 4 2 1 ∷ row 28 0 1 ∷ row 4 1 1 ∷ row 29 0 1 ∷ row 4 2 1 ∷ row 28 0 1 ∷ row 4 1 1 ∷ row 29 0 1 ∷ row 4 2 1
    ∷ row 28 0 1 ∷ row 4 1 1 ∷ row 29 0 1 ∷ row 4 2 1 ∷ row 28 0 1 ∷ row 4 1 1 ∷ row 29 0 1 ∷ row 4 2 1 ∷ row 28 0 1 ∷ row 4 1 1
    ∷ row 29 0 1 ∷ row 4 2 1 ∷ row 28 0 1 ∷ row 4 1 1 ∷ row 29 0 1 ∷ row 4 2 1 ∷ row 28 0 1 ∷ row 4 1 1 ∷ row 29 0 1 ∷ row 4 2 1
    ∷ row 28 0 1 ∷ row 4 1 1 ∷ row 29 0 1 ∷ row 4 2 1 ∷ row 28 0 1 ∷ row 4 1 1 ∷ row 29 0 1 ∷ row 4 2 1 ∷ row 28 0 1 ∷ row 4 1 1
    ∷ row 29 0 1 ∷ row 4 2 1 ∷ row 28 0 1 ∷ row 4 1 1 ∷ row 29 0 1 ∷ row 4 2 1 ∷ row 28 0 1 ∷ row 4 1 1 ∷ row 29 0 1 ∷ row 4 2 1
    ∷ row 28 0 1 ∷ row 4 1 1 ∷ row 29 0 1 ∷ row 4 2 1 ∷ row 28 0 1 ∷ row 4 1 1 ∷ row 29 0 1 ∷ row 4 2 1 ∷ row 28 0 1 ∷ row 4 1 1
    ∷ row 29 0 1 ∷ row 4 2 1 ∷ row 28 0 1 ∷ row 4 1 1 ∷ row 29 0 1 ∷ row 4 2 1 ∷ row 28 0 1 ∷ row 4 1 1 ∷ row 29 0 1 ∷ row 4 2 1
    ∷ row 28 0 1 ∷ row 4 1 1 ∷ row 29 0 1 ∷ row 4 2 1 ∷ row 28 0 1 ∷ row 4 1 1 ∷ row 29 0 1 ∷ row 4 2 1 ∷ row 28 0 1 ∷ row 4 1 1
    ∷ row 29 0 1 ∷ row 4 2 1 ∷ row 28 0 1 ∷ row 4 1 1 ∷ row 29 0 1 ∷ row 4 2 1 ∷ row 28 0 2 ∷ row 4 1 2 ∷ row 29 0 2 ∷ row 4 2 2
    ∷ row 35 0 2 ∷ row 30 0 2 ∷ row 37 0 2 ∷ row 8 0 2 ∷ []

pub record AreStructured : Type 0 where
  pub no_program_fault : structure_fault no_program ≡ Some 1
  pub label_alone_fault : structure_fault label_alone ≡ None
  pub group_twice_fault : structure_fault group_twice ≡ Some 1
  pub open_group_fault : structure_fault open_group ≡ Some 2
  pub late_declaration_fault : structure_fault late_declaration ≡ Some 2
  pub no_semicolon_fault : structure_fault no_semicolon ≡ Some 2
  pub if_then_if_fault : structure_fault if_then_if ≡ Some 2
  pub labelled_if_fault : structure_fault labelled_if ≡ Some 2
  pub loop_else_fault : structure_fault loop_else ≡ Some 2
  pub inner_else_fault : structure_fault inner_else ≡ None
  pub dummy_else_fault : structure_fault dummy_else ≡ None
  pub two_relations_fault : structure_fault two_relations ≡ Some 2
  pub second_sign_fault : structure_fault second_sign ≡ Some 2
  pub not_not_fault : structure_fault not_not ≡ Some 2
  pub sign_in_relation_fault : structure_fault sign_in_relation ≡ None
  pub if_operand_fault : structure_fault if_operand ≡ Some 2
  pub then_if_expr_fault : structure_fault then_if_expr ≡ Some 2
  pub left_call_fault : structure_fault left_call ≡ Some 2
  pub sum_left_fault : structure_fault sum_left ≡ Some 2
  pub element_left_fault : structure_fault element_left ≡ None
  pub empty_actuals_fault : structure_fault empty_actuals ≡ Some 2
  pub string_alone_fault : structure_fault string_alone ≡ Some 2
  pub string_actual_fault : structure_fault string_actual ≡ None
  pub own_bound_fault : structure_fault own_bound ≡ Some 2
  pub own_sign_fault : structure_fault own_sign ≡ None
  pub step_without_until_fault : structure_fault step_without_until ≡ Some 2
  pub value_later_fault : structure_fault value_later ≡ Some 2
  pub array_no_type_fault : structure_fault array_no_type ≡ Some 2
  pub spec_kinds_fault : structure_fault spec_kinds ≡ None
  pub thirty_pairs_fault : structure_fault thirty_pairs ≡ None
  pub more_pairs_fault : structure_fault more_pairs ≡ Some 2
  pub sums_written : program_spelled sums_symbols ≡ Some sums_tree
  pub loop_written : program_spelled loop_symbols ≡ Some loop_tree
  pub declared_written : program_spelled declared_symbols ≡ Some declared_tree
  pub none_written : program_spelled loop_else ≡ None
