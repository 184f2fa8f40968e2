-- Small objects whose runs end by an alarm or by a step that is not left, by the same model.
use Rattle.std.specs.Prelude.{List, [], ◌∷◌}
use Rattle.gier_word.specs.declared.alarm.Alarm.TheVariants.{Spill, Division, Power, Bounds, Subscript, Assignment, Character}
use Rattle.gier_word.specs.declared.alarm.Alarm.TheVariants.{Data, Stack, Parameters}
use Rattle.gier_order.specs.declared.operation.Operation.TheVariants.{Start, Stop, Take, Short, Long, Keep, Addr, Fetch, Put, Add}
use Rattle.gier_order.specs.declared.operation.Operation.TheVariants.{Mul, Div, Pow, Neg, Jump, False, Test, Block, Array, Index}
use Rattle.gier_order.specs.declared.operation.Operation.TheVariants.{Proc, Call, Formal, Return, Thunk, Value, Place, NameL}
use Rattle.gier_order.specs.declared.operation.Operation.TheVariants.{Back, Give, Lib, Lab, Go, Base, Kinds, Agree, ByVal, CallF}
use Rattle.gier_order.specs.Flat.Row.{Alarmed, NoSteps}
use Rattle.gier_order.specs.Flat.Sample.{Sample, sample, order, report, program, procedure, evaluation}

-- a subscript past its bound
abbrev pub subscript : Sample
subscript = sample
    (order Start 1 16 ∷ order Short 0 2 ∷ order Keep 0 10 ∷ order Short 0 3 ∷ order Keep 0 11 ∷ order Short 0 1 ∷ order Neg 0 0 ∷
    order Keep 0 12 ∷ order Short 0 1 ∷ order Keep 0 13 ∷ order Short 0 10 ∷ order Array 2 4 ∷ order Addr 1 4 ∷ order Keep 0 10 ∷
    order Short 0 4 ∷ order Keep 0 11 ∷ order Short 0 1 ∷ order Keep 0 12 ∷ order Index 2 10 ∷ order Keep 0 10 ∷ order Short 0 77 ∷
    order Put 0 10 ∷ order Take 1 10 ∷ order Lib 0 1 ∷ order Fetch 0 0 ∷ order Lib 0 1 ∷ order Stop 0 0 ∷ [])
    [] 20 60
    (report [] (Alarmed Subscript) 0 22 [] 18 (program 22 ∷ [])
    (0 ∷ 1 ∷ 2 ∷ 3 ∷ 4 ∷ 5 ∷ 6 ∷ 7 ∷ 8 ∷ 9 ∷ 10 ∷ 11 ∷ 12 ∷ 13 ∷ 14 ∷ 15 ∷ 16 ∷ 17 ∷ 18 ∷ []))

-- an array of more elements than there is room for
abbrev pub no_room_for_elements : Sample
no_room_for_elements = sample
    (order Start 1 16 ∷ order Short 0 2 ∷ order Keep 0 10 ∷ order Short 0 3 ∷ order Keep 0 11 ∷ order Short 0 1 ∷ order Neg 0 0 ∷
    order Keep 0 12 ∷ order Short 0 1 ∷ order Keep 0 13 ∷ order Short 0 10 ∷ order Array 2 4 ∷ order Addr 1 4 ∷ order Keep 0 10 ∷
    order Short 0 3 ∷ order Keep 0 11 ∷ order Short 0 1 ∷ order Keep 0 12 ∷ order Index 2 10 ∷ order Keep 0 10 ∷ order Short 0 77 ∷
    order Put 0 10 ∷ order Take 1 10 ∷ order Lib 0 1 ∷ order Fetch 0 0 ∷ order Lib 0 1 ∷ order Stop 0 0 ∷ [])
    [] 20 21
    (report [] (Alarmed Stack) 0 16 [] 11 (program 16 ∷ [])
    (0 ∷ 1 ∷ 2 ∷ 3 ∷ 4 ∷ 5 ∷ 6 ∷ 7 ∷ 8 ∷ 9 ∷ 10 ∷ 11 ∷ []))

-- an upper bound below the lower one
abbrev pub bounds : Sample
bounds = sample
    (order Start 1 10 ∷ order Short 0 2 ∷ order Keep 0 7 ∷ order Short 0 1 ∷ order Keep 0 8 ∷ order Short 0 7 ∷ order Array 1 3 ∷
    order Stop 0 0 ∷ [])
    [] 20 60
    (report [] (Alarmed Bounds) 0 10 [] 6 (program 10 ∷ [])
    (0 ∷ 1 ∷ 2 ∷ 3 ∷ 4 ∷ 5 ∷ 6 ∷ []))

-- no step is left for the call
abbrev pub no_step_for_call : Sample
no_step_for_call = sample
    (order Start 1 8 ∷ order Jump 0 9 ∷ order Proc 2 9 ∷ 3 ∷ order Take 2 6 ∷ order Keep 0 8 ∷ order Mul 0 8 ∷ order Keep 0 5 ∷
    order Return 0 1 ∷ order Short 0 20 ∷ order Keep 0 3 ∷ order Short 0 3 ∷ order Call 1 2 ∷ order Lib 0 1 ∷ order Stop 0 0 ∷ [])
    [] 0 60
    (report [] NoSteps 0 8 [] 12 (program 8 ∷ [])
    (0 ∷ 1 ∷ 9 ∷ 10 ∷ 11 ∷ 12 ∷ 2 ∷ 3 ∷ []))

-- no room is left for the call
abbrev pub no_room_for_call : Sample
no_room_for_call = sample
    (order Start 1 8 ∷ order Jump 0 9 ∷ order Proc 2 9 ∷ 3 ∷ order Take 2 6 ∷ order Keep 0 8 ∷ order Mul 0 8 ∷ order Keep 0 5 ∷
    order Return 0 1 ∷ order Short 0 20 ∷ order Keep 0 3 ∷ order Short 0 3 ∷ order Call 1 2 ∷ order Lib 0 1 ∷ order Stop 0 0 ∷ [])
    [] 20 16
    (report [] (Alarmed Stack) 1 8 [] 12 (program 8 ∷ [])
    (0 ∷ 1 ∷ 9 ∷ 10 ∷ 11 ∷ 12 ∷ 2 ∷ 3 ∷ []))

-- a division by 0 in a function; the live activations have the procedure first
abbrev pub alarm_in_function : Sample
alarm_in_function = sample
    (order Start 1 8 ∷ order Jump 0 10 ∷ order Proc 2 9 ∷ 3 ∷ order Take 2 6 ∷ order Keep 0 8 ∷ order Short 0 0 ∷ order Div 0 8 ∷
    order Keep 0 5 ∷ order Return 0 1 ∷ order Short 0 20 ∷ order Keep 0 3 ∷ order Short 0 3 ∷ order Call 1 2 ∷ order Lib 0 1 ∷
    order Stop 0 0 ∷ [])
    [] 20 60
    (report [] (Alarmed Division) 1 17 [] 7 (procedure 9 13 ∷ program 8 ∷ [])
    (0 ∷ 1 ∷ 10 ∷ 11 ∷ 12 ∷ 13 ∷ 2 ∷ 3 ∷ 4 ∷ 5 ∷ 6 ∷ 7 ∷ []))

-- the address of an expression is wanted, whose step and room were taken
abbrev pub assignment : Sample
assignment = sample
    (order Start 1 9 ∷ order Short 0 30 ∷ order Keep 0 3 ∷ order Jump 0 7 ∷ order Thunk 0 6 ∷ order Addr 1 3 ∷ order Give 0 0 ∷
    order Short 0 4 ∷ order Keep 0 5 ∷ order Base 1 0 ∷ order Keep 0 6 ∷ order Place 1 5 ∷ order Lib 0 1 ∷ order Stop 0 0 ∷ [])
    [] 20 60
    (report [] (Alarmed Assignment) 1 15 [] 11 (evaluation 6 11 ∷ program 9 ∷ [])
    (0 ∷ 1 ∷ 2 ∷ 3 ∷ 7 ∷ 8 ∷ 9 ∷ 10 ∷ 11 ∷ 4 ∷ []))

-- the same where no step is left for the go to
abbrev pub no_step_for_go_to : Sample
no_step_for_go_to = sample
    (order Start 1 9 ∷ order Jump 0 9 ∷ order Thunk 2 5 ∷ order Lab 1 16 ∷ order Back 0 0 ∷ order Proc 2 8 ∷ 2 ∷ order NameL 2 5 ∷
    order Go 0 0 ∷ order Short 0 2 ∷ order Keep 0 3 ∷ order Base 0 0 ∷ order Keep 0 4 ∷ order Short 0 3 ∷ order Call 1 5 ∷
    order Lib 0 1 ∷ order Short 0 6 ∷ order Lib 0 1 ∷ order Stop 0 0 ∷ [])
    [] 2 60
    (report [] NoSteps 2 22 [] 8 (procedure 8 14 ∷ program 9 ∷ [])
    (0 ∷ 1 ∷ 9 ∷ 10 ∷ 11 ∷ 12 ∷ 13 ∷ 14 ∷ 5 ∷ 6 ∷ 7 ∷ 2 ∷ 3 ∷ 4 ∷ 8 ∷ []))

-- the same where it has formals
abbrev pub formal_with_formals : Sample
formal_with_formals = sample
    (order Start 1 7 ∷ order Jump 0 7 ∷ order Kinds 1 2 ∷ 68719476736 ∷ order Short 0 4 ∷ order Lib 0 1 ∷ order Return 0 0 ∷
    order Short 0 2 ∷ order Keep 0 3 ∷ order Base 1 0 ∷ order Keep 0 4 ∷ order Formal 1 3 ∷ order Lib 0 1 ∷ order Stop 0 0 ∷ [])
    [] 20 60
    (report [] (Alarmed Parameters) 0 7 [] 11 (program 7 ∷ [])
    (0 ∷ 1 ∷ 7 ∷ 8 ∷ 9 ∷ 10 ∷ 11 ∷ 2 ∷ []))

-- the address of a formal procedure with formals in the last word of the stack: the base after it is not read
abbrev pub formal_in_last_word : Sample
formal_in_last_word = sample
    (order Start 1 60 ∷ order Jump 0 7 ∷ order Proc 2 7 ∷ 2 ∷ order Return 0 0 ∷ order Kinds 1 2 ∷ 206158430208 ∷ order Short 0 5 ∷
    order Keep 0 59 ∷ order Formal 1 59 ∷ order Stop 0 0 ∷ [])
    [] 20 60
    (report [] (Alarmed Parameters) 0 60 [] 9 (program 60 ∷ [])
    (0 ∷ 1 ∷ 7 ∷ 8 ∷ 9 ∷ 5 ∷ []))

-- a Boolean actual for an integer formal
abbrev pub disagreeing : Sample
disagreeing = sample
    (order Start 1 12 ∷ order Jump 0 12 ∷ order Proc 2 9 ∷ 4 ∷ order Take 2 5 ∷ order Lib 0 1 ∷ order Lib 0 3 ∷ order Value 2 7 ∷
    order Lib 0 1 ∷ order Return 0 0 ∷ order Kinds 2 2 ∷ 81604378624 ∷ order Short 0 10 ∷ order Keep 0 3 ∷ order Base 1 0 ∷
    order Keep 0 4 ∷ order Agree 1 3 ∷ 2 ∷ 223338299392 ∷ order Jump 0 23 ∷ order Thunk 0 5 ∷ order Short 0 21 ∷ order Back 0 0 ∷
    order Short 0 20 ∷ order Keep 0 6 ∷ order Base 0 0 ∷ order Keep 0 7 ∷ order Short 0 20 ∷ order Keep 0 8 ∷ order Base 0 0 ∷
    order Keep 0 9 ∷ order Short 0 1 ∷ order ByVal 1 3 ∷ order False 0 36 ∷ order Value 1 6 ∷ order Keep 0 6 ∷ order Short 0 2 ∷
    order ByVal 1 3 ∷ order False 0 41 ∷ order Value 1 8 ∷ order Keep 0 8 ∷ order Short 0 6 ∷ order CallF 1 3 ∷ order Stop 0 0 ∷ [])
    [] 20 60
    (report [] (Alarmed Parameters) 0 12 [] 16 (program 12 ∷ [])
    (0 ∷ 1 ∷ 12 ∷ 13 ∷ 14 ∷ 15 ∷ 16 ∷ 17 ∷ 10 ∷ 11 ∷ 18 ∷ []))

-- three actuals for two formals
abbrev pub too_many_actuals : Sample
too_many_actuals = sample
    (order Start 1 12 ∷ order Jump 0 12 ∷ order Proc 2 9 ∷ 4 ∷ order Take 2 5 ∷ order Lib 0 1 ∷ order Lib 0 3 ∷ order Value 2 7 ∷
    order Lib 0 1 ∷ order Return 0 0 ∷ order Kinds 2 2 ∷ 81604378624 ∷ order Short 0 10 ∷ order Keep 0 3 ∷ order Base 1 0 ∷
    order Keep 0 4 ∷ order Agree 1 3 ∷ 3 ∷ 219848638464 ∷ order Jump 0 23 ∷ order Thunk 0 5 ∷ order Short 0 21 ∷ order Back 0 0 ∷
    order Short 0 20 ∷ order Keep 0 6 ∷ order Base 0 0 ∷ order Keep 0 7 ∷ order Short 0 20 ∷ order Keep 0 8 ∷ order Base 0 0 ∷
    order Keep 0 9 ∷ order Short 0 1 ∷ order ByVal 1 3 ∷ order False 0 36 ∷ order Value 1 6 ∷ order Keep 0 6 ∷ order Short 0 2 ∷
    order ByVal 1 3 ∷ order False 0 41 ∷ order Value 1 8 ∷ order Keep 0 8 ∷ order Short 0 6 ∷ order CallF 1 3 ∷ order Stop 0 0 ∷ [])
    [] 20 60
    (report [] (Alarmed Parameters) 0 12 [] 16 (program 12 ∷ [])
    (0 ∷ 1 ∷ 12 ∷ 13 ∷ 14 ∷ 15 ∷ 16 ∷ 17 ∷ 10 ∷ []))

-- a number that is no byte
abbrev pub character : Sample
character = sample
    (order Start 1 5 ∷ order Short 0 65 ∷ order Lib 0 4 ∷ order Short 0 256 ∷ order Lib 0 4 ∷ order Stop 0 0 ∷ [])
    [] 20 60
    (report (65 ∷ []) (Alarmed Character) 0 5 [] 4 (program 5 ∷ [])
    (0 ∷ 1 ∷ 2 ∷ 3 ∷ 4 ∷ []))

-- a letter where a number has to come
abbrev pub no_number : Sample
no_number = sample
    (order Start 1 5 ∷ order Lib 0 5 ∷ order Lib 0 1 ∷ order Lib 0 5 ∷ order Stop 0 0 ∷ [])
    (53 ∷ 32 ∷ 44 ∷ 121 ∷ 55 ∷ []) 20 60
    (report (53 ∷ []) (Alarmed Data) 0 5 (55 ∷ []) 3 (program 5 ∷ [])
    (0 ∷ 1 ∷ 2 ∷ 3 ∷ []))

-- the end of the data gives -1 to inchar, and an alarm to ininteger
abbrev pub end_of_data : Sample
end_of_data = sample
    (order Start 1 5 ∷ order Lib 0 6 ∷ order Lib 0 1 ∷ order Lib 0 5 ∷ order Stop 0 0 ∷ [])
    [] 20 60
    (report (45 ∷ 49 ∷ []) (Alarmed Data) 0 5 [] 3 (program 5 ∷ [])
    (0 ∷ 1 ∷ 2 ∷ 3 ∷ []))

-- 2^39 is no number of the machine
abbrev pub spill : Sample
spill = sample
    (order Start 1 5 ∷ order Long 0 0 ∷ 549755813887 ∷ order Keep 0 3 ∷ order Short 0 1 ∷ order Add 0 3 ∷ order Stop 0 0 ∷ [])
    [] 20 60
    (report [] (Alarmed Spill) 0 5 [] 5 (program 5 ∷ [])
    (0 ∷ 1 ∷ 2 ∷ 3 ∷ 4 ∷ 5 ∷ []))

-- nor is abs of the least one
abbrev pub abs_spill : Sample
abs_spill = sample
    (order Start 1 5 ∷ order Long 0 0 ∷ 549755813888 ∷ order Lib 0 7 ∷ order Stop 0 0 ∷ [])
    [] 20 60
    (report [] (Alarmed Spill) 0 5 [] 3 (program 5 ∷ [])
    (0 ∷ 1 ∷ 2 ∷ 3 ∷ []))

-- a division by 0
abbrev pub division : Sample
division = sample
    (order Start 1 5 ∷ order Short 0 0 ∷ order Div 0 3 ∷ order Stop 0 0 ∷ [])
    [] 20 60
    (report [] (Alarmed Division) 0 5 [] 2 (program 5 ∷ [])
    (0 ∷ 1 ∷ 2 ∷ []))

-- a power with a negative exponent
abbrev pub power : Sample
power = sample
    (order Start 1 5 ∷ order Short 0 2 ∷ order Keep 0 3 ∷ order Short 0 1 ∷ order Neg 0 0 ∷ order Pow 0 3 ∷ order Stop 0 0 ∷ [])
    [] 20 60
    (report [] (Alarmed Power) 0 5 [] 5 (program 5 ∷ [])
    (0 ∷ 1 ∷ 2 ∷ 3 ∷ 4 ∷ 5 ∷ []))

-- the test of the least number with a step below 0
abbrev pub test_spill : Sample
test_spill = sample
    (order Start 1 5 ∷ order Long 0 0 ∷ 549755813888 ∷ order Keep 0 3 ∷ order Short 0 1 ∷ order Neg 0 0 ∷ order Test 0 3 ∷
    order Stop 0 0 ∷ [])
    [] 20 60
    (report [] (Alarmed Spill) 0 5 [] 6 (program 5 ∷ [])
    (0 ∷ 1 ∷ 2 ∷ 3 ∷ 4 ∷ 5 ∷ 6 ∷ []))

-- the first activation has no room: there is none
abbrev pub no_room_for_start : Sample
no_room_for_start = sample
    (order Start 1 61 ∷ order Stop 0 0 ∷ [])
    [] 20 60
    (report [] (Alarmed Stack) 0 0 [] 0 []
    (0 ∷ []))

-- a block has no room; its step was charged
abbrev pub no_room_for_block : Sample
no_room_for_block = sample
    (order Start 1 30 ∷ order Block 2 31 ∷ order Stop 0 0 ∷ [])
    [] 20 60
    (report [] (Alarmed Stack) 1 30 [] 1 (program 30 ∷ [])
    (0 ∷ 1 ∷ []))

-- a block has no step
abbrev pub no_step_for_block : Sample
no_step_for_block = sample
    (order Start 1 30 ∷ order Block 2 31 ∷ order Stop 0 0 ∷ [])
    [] 0 60
    (report [] NoSteps 0 30 [] 1 (program 30 ∷ [])
    (0 ∷ 1 ∷ []))

abbrev pub samples : List Sample
samples =
    subscript ∷ no_room_for_elements ∷ bounds ∷ no_step_for_call ∷ no_room_for_call ∷ alarm_in_function ∷ assignment ∷
    no_step_for_go_to ∷ formal_with_formals ∷ formal_in_last_word ∷ disagreeing ∷ too_many_actuals ∷ character ∷ no_number ∷
    end_of_data ∷ spill ∷ abs_spill ∷ division ∷ power ∷ test_spill ∷ no_room_for_start ∷ no_room_for_block ∷ no_step_for_block ∷ []
