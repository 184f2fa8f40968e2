-- Small objects that call procedures, evaluate names, and go to labels, and what a flat run makes of them, by the same model.
use Rattle.std.specs.Prelude.{List, [], ◌∷◌}
use Rattle.gier_order.specs.declared.operation.Operation.TheVariants.{Start, Stop, Take, Short, Keep, Addr, Add, Mul, Jump, False}
use Rattle.gier_order.specs.declared.operation.Operation.TheVariants.{Block, Leave, Proc, Call, Formal, Return, Thunk, Value}
use Rattle.gier_order.specs.declared.operation.Operation.TheVariants.{Place, NameL, Pass, Back, Give, Lib, Switch, SwForm, Lab}
use Rattle.gier_order.specs.declared.operation.Operation.TheVariants.{Go, Base, Kinds, Agree, ByVal, CallF}
use Rattle.gier_order.specs.Flat.Row.{Ended}
use Rattle.gier_order.specs.Flat.Sample.{Sample, sample, order, report, program}

-- a function with a formal by value
abbrev pub function : Sample
function = sample
    (order Start 1 8 ∷ order Jump 0 9 ∷ order Proc 2 9 ∷ 3 ∷ order Take 2 6 ∷ order Keep 0 8 ∷ order Mul 0 8 ∷ order Keep 0 5 ∷
    order Return 0 1 ∷ order Short 0 20 ∷ order Keep 0 3 ∷ order Short 0 3 ∷ order Call 1 2 ∷ order Lib 0 1 ∷ order Stop 0 0 ∷ [])
    [] 20 60
    (report (52 ∷ 48 ∷ 48 ∷ []) Ended 1 17 [] 14 (program 8 ∷ [])
    (0 ∷ 1 ∷ 9 ∷ 10 ∷ 11 ∷ 12 ∷ 2 ∷ 3 ∷ 4 ∷ 5 ∷ 6 ∷ 7 ∷ 8 ∷ 13 ∷ 14 ∷ []))

-- a procedure that gives nothing, called within a block
abbrev pub proper_procedure : Sample
proper_procedure = sample
    (order Start 1 6 ∷ order Jump 0 7 ∷ order Proc 2 7 ∷ 0 ∷ order Short 0 3 ∷ order Lib 0 1 ∷ order Return 0 0 ∷ order Block 2 5 ∷
    order Short 0 3 ∷ order Call 1 2 ∷ order Leave 0 0 ∷ order Lib 0 1 ∷ order Stop 0 0 ∷ [])
    [] 20 60
    (report (51 ∷ 51 ∷ []) Ended 2 18 [] 12 (program 6 ∷ [])
    (0 ∷ 1 ∷ 7 ∷ 8 ∷ 9 ∷ 2 ∷ 3 ∷ 4 ∷ 5 ∷ 6 ∷ 10 ∷ 11 ∷ 12 ∷ []))

-- an expression by name, evaluated for its value
abbrev pub expression : Sample
expression = sample
    (order Start 1 9 ∷ order Short 0 30 ∷ order Keep 0 3 ∷ order Jump 0 10 ∷ order Thunk 0 6 ∷ order Take 1 3 ∷ order Keep 0 5 ∷
    order Short 0 2 ∷ order Add 0 5 ∷ order Back 0 0 ∷ order Short 0 4 ∷ order Keep 0 5 ∷ order Base 0 0 ∷ order Keep 0 6 ∷
    order Value 1 5 ∷ order Lib 0 1 ∷ order Stop 0 0 ∷ [])
    [] 20 60
    (report (51 ∷ 50 ∷ []) Ended 1 15 [] 16 (program 9 ∷ [])
    (0 ∷ 1 ∷ 2 ∷ 3 ∷ 10 ∷ 11 ∷ 12 ∷ 13 ∷ 14 ∷ 4 ∷ 5 ∷ 6 ∷ 7 ∷ 8 ∷ 9 ∷ 15 ∷ 16 ∷ []))

-- a variable by name, for its value
abbrev pub variable_value : Sample
variable_value = sample
    (order Start 1 9 ∷ order Short 0 30 ∷ order Keep 0 3 ∷ order Jump 0 7 ∷ order Thunk 1 6 ∷ order Addr 1 3 ∷ order Give 0 0 ∷
    order Short 0 4 ∷ order Keep 0 5 ∷ order Base 1 0 ∷ order Keep 0 6 ∷ order Value 1 5 ∷ order Lib 0 1 ∷ order Stop 0 0 ∷ [])
    [] 20 60
    (report (51 ∷ 48 ∷ []) Ended 1 15 [] 13 (program 9 ∷ [])
    (0 ∷ 1 ∷ 2 ∷ 3 ∷ 7 ∷ 8 ∷ 9 ∷ 10 ∷ 11 ∷ 4 ∷ 5 ∷ 6 ∷ 12 ∷ 13 ∷ []))

-- the same for its address
abbrev pub variable_place : Sample
variable_place = sample
    (order Start 1 9 ∷ order Short 0 30 ∷ order Keep 0 3 ∷ order Jump 0 7 ∷ order Thunk 1 6 ∷ order Addr 1 3 ∷ order Give 0 0 ∷
    order Short 0 4 ∷ order Keep 0 5 ∷ order Base 1 0 ∷ order Keep 0 6 ∷ order Place 1 5 ∷ order Lib 0 1 ∷ order Stop 0 0 ∷ [])
    [] 20 60
    (report (51 ∷ []) Ended 1 15 [] 13 (program 9 ∷ [])
    (0 ∷ 1 ∷ 2 ∷ 3 ∷ 7 ∷ 8 ∷ 9 ∷ 10 ∷ 11 ∷ 4 ∷ 5 ∷ 6 ∷ 12 ∷ 13 ∷ []))

-- a name formal passed on: the inner evaluation is for the same
abbrev pub passed_on : Sample
passed_on = sample
    (order Start 1 11 ∷ order Short 0 30 ∷ order Keep 0 3 ∷ order Jump 0 10 ∷ order Thunk 1 5 ∷ order Addr 1 3 ∷ order Give 0 0 ∷
    order Thunk 3 5 ∷ order Pass 1 5 ∷ order Back 0 0 ∷ order Short 0 4 ∷ order Keep 0 5 ∷ order Base 1 0 ∷ order Keep 0 6 ∷
    order Short 0 7 ∷ order Keep 0 7 ∷ order Base 1 0 ∷ order Keep 0 8 ∷ order Value 1 7 ∷ order Lib 0 1 ∷ order Place 1 7 ∷
    order Lib 0 1 ∷ order Stop 0 0 ∷ [])
    [] 20 60
    (report (51 ∷ 48 ∷ 51 ∷ []) Ended 4 21 [] 22 (program 11 ∷ [])
    (0 ∷ 1 ∷ 2 ∷ 3 ∷ 10 ∷ 11 ∷ 12 ∷ 13 ∷ 14 ∷ 15 ∷ 16 ∷ 17 ∷ 18 ∷ 7 ∷ 8 ∷ 4 ∷ 5 ∷ 6 ∷ 9 ∷ 19 ∷ 20 ∷ 7 ∷ 8 ∷ 4 ∷ 5 ∷ 6
    ∷ 9 ∷ 21 ∷ 22 ∷ []))

-- a go to that leaves a procedure, by a label formal
abbrev pub label_formal : Sample
label_formal = sample
    (order Start 1 9 ∷ order Jump 0 9 ∷ order Thunk 2 5 ∷ order Lab 1 16 ∷ order Back 0 0 ∷ order Proc 2 8 ∷ 2 ∷ order NameL 2 5 ∷
    order Go 0 0 ∷ order Short 0 2 ∷ order Keep 0 3 ∷ order Base 0 0 ∷ order Keep 0 4 ∷ order Short 0 3 ∷ order Call 1 5 ∷
    order Lib 0 1 ∷ order Short 0 6 ∷ order Lib 0 1 ∷ order Stop 0 0 ∷ [])
    [] 20 60
    (report (54 ∷ []) Ended 3 22 [] 18 (program 9 ∷ [])
    (0 ∷ 1 ∷ 9 ∷ 10 ∷ 11 ∷ 12 ∷ 13 ∷ 14 ∷ 5 ∷ 6 ∷ 7 ∷ 2 ∷ 3 ∷ 4 ∷ 8 ∷ 16 ∷ 17 ∷ 18 ∷ []))

-- the first element of a switch
abbrev pub switch : Sample
switch = sample
    (order Start 1 7 ∷ order Jump 0 11 ∷ 2 ∷ 5 ∷ 8 ∷ order Thunk 2 5 ∷ order Lab 1 16 ∷ order Back 0 0 ∷ order Thunk 2 5 ∷
    order Lab 1 18 ∷ order Back 0 0 ∷ order Short 0 1 ∷ order Switch 1 2 ∷ order Go 0 0 ∷ order Lib 0 1 ∷ order Stop 0 0 ∷
    order Short 0 8 ∷ order Lib 0 1 ∷ order Short 0 9 ∷ order Lib 0 1 ∷ order Stop 0 0 ∷ [])
    [] 20 60
    (report (56 ∷ 57 ∷ []) Ended 2 12 [] 20 (program 7 ∷ [])
    (0 ∷ 1 ∷ 11 ∷ 12 ∷ 2 ∷ 3 ∷ 5 ∷ 6 ∷ 7 ∷ 13 ∷ 16 ∷ 17 ∷ 18 ∷ 19 ∷ 20 ∷ []))

-- the third of two elements: the go to does nothing
abbrev pub undefined_switch : Sample
undefined_switch = sample
    (order Start 1 7 ∷ order Jump 0 11 ∷ 2 ∷ 5 ∷ 8 ∷ order Thunk 2 5 ∷ order Lab 1 16 ∷ order Back 0 0 ∷ order Thunk 2 5 ∷
    order Lab 1 18 ∷ order Back 0 0 ∷ order Short 0 3 ∷ order Switch 1 2 ∷ order Go 0 0 ∷ order Lib 0 1 ∷ order Stop 0 0 ∷
    order Short 0 8 ∷ order Lib 0 1 ∷ order Short 0 9 ∷ order Lib 0 1 ∷ order Stop 0 0 ∷ [])
    [] 20 60
    (report (48 ∷ []) Ended 0 7 [] 15 (program 7 ∷ [])
    (0 ∷ 1 ∷ 11 ∷ 12 ∷ 2 ∷ 13 ∷ 14 ∷ 15 ∷ []))

-- an element of a switch that was handed over
abbrev pub switch_formal : Sample
switch_formal = sample
    (order Start 1 7 ∷ order Jump 0 7 ∷ 1 ∷ 4 ∷ order Thunk 2 5 ∷ order Lab 1 14 ∷ order Back 0 0 ∷ order Short 0 2 ∷
    order Keep 0 3 ∷ order Base 1 0 ∷ order Keep 0 4 ∷ order Short 0 1 ∷ order SwForm 1 3 ∷ order Go 0 0 ∷ order Short 0 8 ∷
    order Lib 0 1 ∷ order Stop 0 0 ∷ [])
    [] 20 60
    (report (56 ∷ []) Ended 2 12 [] 16 (program 7 ∷ [])
    (0 ∷ 1 ∷ 7 ∷ 8 ∷ 9 ∷ 10 ∷ 11 ∷ 12 ∷ 2 ∷ 3 ∷ 4 ∷ 5 ∷ 6 ∷ 13 ∷ 14 ∷ 15 ∷ 16 ∷ []))

-- a procedure that was handed over, called without actuals
abbrev pub formal_procedure : Sample
formal_procedure = sample
    (order Start 1 7 ∷ order Jump 0 7 ∷ order Proc 2 5 ∷ 0 ∷ order Short 0 4 ∷ order Lib 0 1 ∷ order Return 0 0 ∷ order Short 0 2 ∷
    order Keep 0 3 ∷ order Base 1 0 ∷ order Keep 0 4 ∷ order Formal 1 3 ∷ order Lib 0 1 ∷ order Stop 0 0 ∷ [])
    [] 20 60
    (report (52 ∷ 52 ∷ []) Ended 1 12 [] 13 (program 7 ∷ [])
    (0 ∷ 1 ∷ 7 ∷ 8 ∷ 9 ∷ 10 ∷ 11 ∷ 2 ∷ 3 ∷ 4 ∷ 5 ∷ 6 ∷ 12 ∷ 13 ∷ []))

-- two actuals that agree with the formals, of which the first is by value
abbrev pub agreeing : Sample
agreeing = sample
    (order Start 1 12 ∷ order Jump 0 12 ∷ order Proc 2 9 ∷ 4 ∷ order Take 2 5 ∷ order Lib 0 1 ∷ order Lib 0 3 ∷ order Value 2 7 ∷
    order Lib 0 1 ∷ order Return 0 0 ∷ order Kinds 2 2 ∷ 81604378624 ∷ order Short 0 10 ∷ order Keep 0 3 ∷ order Base 1 0 ∷
    order Keep 0 4 ∷ order Agree 1 3 ∷ 2 ∷ 219043332096 ∷ order Jump 0 23 ∷ order Thunk 0 5 ∷ order Short 0 21 ∷ order Back 0 0 ∷
    order Short 0 20 ∷ order Keep 0 6 ∷ order Base 0 0 ∷ order Keep 0 7 ∷ order Short 0 20 ∷ order Keep 0 8 ∷ order Base 0 0 ∷
    order Keep 0 9 ∷ order Short 0 1 ∷ order ByVal 1 3 ∷ order False 0 36 ∷ order Value 1 6 ∷ order Keep 0 6 ∷ order Short 0 2 ∷
    order ByVal 1 3 ∷ order False 0 41 ∷ order Value 1 8 ∷ order Keep 0 8 ∷ order Short 0 6 ∷ order CallF 1 3 ∷ order Stop 0 0 ∷ [])
    [] 20 60
    (report (50 ∷ 49 ∷ 10 ∷ 50 ∷ 49 ∷ []) Ended 3 26 [] 43 (program 12 ∷ [])
    (0 ∷ 1 ∷ 12 ∷ 13 ∷ 14 ∷ 15 ∷ 16 ∷ 17 ∷ 10 ∷ 11 ∷ 18 ∷ 19 ∷ 23 ∷ 24 ∷ 25 ∷ 26 ∷ 27 ∷ 28 ∷ 29 ∷ 30 ∷ 31 ∷ 32 ∷ 10 ∷ 11 ∷ 33 ∷ 34 ∷
    20 ∷ 21 ∷ 22 ∷ 35 ∷ 36 ∷ 37 ∷ 10 ∷ 11 ∷ 38 ∷ 41 ∷ 42 ∷ 10 ∷ 2 ∷ 3 ∷ 4 ∷ 5 ∷ 6 ∷ 7 ∷ 20 ∷ 21 ∷ 22 ∷ 8 ∷ 9 ∷ 43 ∷ []))

abbrev pub samples : List Sample
samples =
    function ∷ proper_procedure ∷ expression ∷ variable_value ∷ variable_place ∷ passed_on ∷ label_formal ∷ switch ∷
    undefined_switch ∷ switch_formal ∷ formal_procedure ∷ agreeing ∷ []
