-- Small objects with an order that is not allowed in its place, by the same model.
use Rattle.std.specs.Prelude.{List, [], ◌∷◌}
use Rattle.gier_order.specs.declared.operation.Operation.TheVariants.{Start, Stop, Take, Short, Keep, Addr, Fetch, Mul, Not, Jump}
use Rattle.gier_order.specs.declared.operation.Operation.TheVariants.{False, Leave, Proc, Call, Formal, Return, Thunk, Value}
use Rattle.gier_order.specs.declared.operation.Operation.TheVariants.{Back, Give, Lib, Base, Kinds, Agree, ByVal, CallF}
use Rattle.gier_order.specs.Flat.Row.{Spoilt}
use Rattle.gier_order.specs.Flat.Sample.{Sample, sample, order, report, program, procedure}

-- a procedure whose room does not hold its formals
abbrev pub room_below_formals : Sample
room_below_formals = sample
    (order Start 1 8 ∷ order Jump 0 9 ∷ order Proc 2 7 ∷ 3 ∷ order Take 2 6 ∷ order Keep 0 8 ∷ order Mul 0 8 ∷ order Keep 0 5 ∷
    order Return 0 1 ∷ order Short 0 20 ∷ order Keep 0 3 ∷ order Short 0 3 ∷ order Call 1 2 ∷ order Lib 0 1 ∷ order Stop 0 0 ∷ [])
    [] 20 60
    (report [] (Spoilt 12 154635599874) 0 8 [] 12 (program 8 ∷ [])
    (0 ∷ 1 ∷ 9 ∷ 10 ∷ 11 ∷ 12 ∷ 2 ∷ 3 ∷ []))

-- an evaluation of a kind that there is not
abbrev pub kind_past_last : Sample
kind_past_last = sample
    (order Start 1 9 ∷ order Short 0 30 ∷ order Keep 0 3 ∷ order Jump 0 7 ∷ order Thunk 4 6 ∷ order Addr 1 3 ∷ order Give 0 0 ∷
    order Short 0 4 ∷ order Keep 0 5 ∷ order Base 1 0 ∷ order Keep 0 6 ∷ order Value 1 5 ∷ order Lib 0 1 ∷ order Stop 0 0 ∷ [])
    [] 20 60
    (report [] (Spoilt 11 171815469061) 0 9 [] 11 (program 9 ∷ [])
    (0 ∷ 1 ∷ 2 ∷ 3 ∷ 7 ∷ 8 ∷ 9 ∷ 10 ∷ 11 ∷ 4 ∷ []))

-- the same where the word behind PROC is above 1
abbrev pub formal_function_word : Sample
formal_function_word = sample
    (order Start 1 7 ∷ order Jump 0 7 ∷ order Proc 2 9 ∷ 2 ∷ order Short 0 4 ∷ order Lib 0 1 ∷ order Return 0 0 ∷ order Short 0 2 ∷
    order Keep 0 3 ∷ order Base 1 0 ∷ order Keep 0 4 ∷ order Formal 1 3 ∷ order Lib 0 1 ∷ order Stop 0 0 ∷ [])
    [] 20 60
    (report [] (Spoilt 11 158930567171) 0 7 [] 11 (program 7 ∷ [])
    (0 ∷ 1 ∷ 7 ∷ 8 ∷ 9 ∷ 10 ∷ 11 ∷ 2 ∷ 3 ∷ []))

-- the same where the base is needed: the words of the object were read first
abbrev pub callf_in_last_word : Sample
callf_in_last_word = sample
    (order Start 1 60 ∷ order Jump 0 7 ∷ order Proc 2 7 ∷ 2 ∷ order Return 0 0 ∷ order Kinds 1 2 ∷ 206158430208 ∷ order Short 0 5 ∷
    order Keep 0 59 ∷ order Short 0 5 ∷ order CallF 1 59 ∷ order Stop 0 0 ∷ [])
    [] 20 60
    (report [] (Spoilt 10 236239978555) 0 60 [] 10 (program 60 ∷ [])
    (0 ∷ 1 ∷ 7 ∷ 8 ∷ 9 ∷ 10 ∷ 5 ∷ 2 ∷ 3 ∷ []))

-- a packed kind of an actual that there is not, behind a pair that does not fit
abbrev pub odd_kind : Sample
odd_kind = sample
    (order Start 1 12 ∷ order Jump 0 12 ∷ order Proc 2 9 ∷ 4 ∷ order Take 2 5 ∷ order Lib 0 1 ∷ order Lib 0 3 ∷ order Value 2 7 ∷
    order Lib 0 1 ∷ order Return 0 0 ∷ order Kinds 2 2 ∷ 81604378624 ∷ order Short 0 10 ∷ order Keep 0 3 ∷ order Base 1 0 ∷
    order Keep 0 4 ∷ order Agree 1 3 ∷ 2 ∷ 399431958528 ∷ order Jump 0 23 ∷ order Thunk 0 5 ∷ order Short 0 21 ∷ order Back 0 0 ∷
    order Short 0 20 ∷ order Keep 0 6 ∷ order Base 0 0 ∷ order Keep 0 7 ∷ order Short 0 20 ∷ order Keep 0 8 ∷ order Base 0 0 ∷
    order Keep 0 9 ∷ order Short 0 1 ∷ order ByVal 1 3 ∷ order False 0 36 ∷ order Value 1 6 ∷ order Keep 0 6 ∷ order Short 0 2 ∷
    order ByVal 1 3 ∷ order False 0 41 ∷ order Value 1 8 ∷ order Keep 0 8 ∷ order Short 0 6 ∷ order CallF 1 3 ∷ order Stop 0 0 ∷ [])
    [] 20 60
    (report [] (Spoilt 16 227650043907) 0 12 [] 16 (program 12 ∷ [])
    (0 ∷ 1 ∷ 12 ∷ 13 ∷ 14 ∷ 15 ∷ 16 ∷ 17 ∷ 10 ∷ 11 ∷ 18 ∷ []))

-- a packed kind past the last formal
abbrev pub field_past_last : Sample
field_past_last = sample
    (order Start 1 12 ∷ order Jump 0 12 ∷ order Proc 2 9 ∷ 4 ∷ order Take 2 5 ∷ order Lib 0 1 ∷ order Lib 0 3 ∷ order Value 2 7 ∷
    order Lib 0 1 ∷ order Return 0 0 ∷ order Kinds 2 2 ∷ 82409684992 ∷ order Short 0 10 ∷ order Keep 0 3 ∷ order Base 1 0 ∷
    order Keep 0 4 ∷ order Agree 1 3 ∷ 2 ∷ 219043332096 ∷ order Jump 0 23 ∷ order Thunk 0 5 ∷ order Short 0 21 ∷ order Back 0 0 ∷
    order Short 0 20 ∷ order Keep 0 6 ∷ order Base 0 0 ∷ order Keep 0 7 ∷ order Short 0 20 ∷ order Keep 0 8 ∷ order Base 0 0 ∷
    order Keep 0 9 ∷ order Short 0 1 ∷ order ByVal 1 3 ∷ order False 0 36 ∷ order Value 1 6 ∷ order Keep 0 6 ∷ order Short 0 2 ∷
    order ByVal 1 3 ∷ order False 0 41 ∷ order Value 1 8 ∷ order Keep 0 8 ∷ order Short 0 6 ∷ order CallF 1 3 ∷ order Stop 0 0 ∷ [])
    [] 20 60
    (report [] (Spoilt 16 227650043907) 0 12 [] 16 (program 12 ∷ [])
    (0 ∷ 1 ∷ 12 ∷ 13 ∷ 14 ∷ 15 ∷ 16 ∷ 17 ∷ 10 ∷ 11 ∷ []))

-- the procedure has not as many formals as its KINDS
abbrev pub callf_of_others : Sample
callf_of_others = sample
    (order Start 1 12 ∷ order Jump 0 7 ∷ order Proc 2 9 ∷ 2 ∷ order Return 0 0 ∷ order Kinds 2 2 ∷ 0 ∷ order Short 0 5 ∷
    order Keep 0 3 ∷ order Base 1 0 ∷ order Keep 0 4 ∷ order Short 0 6 ∷ order CallF 1 3 ∷ order Stop 0 0 ∷ [])
    [] 20 60
    (report [] (Spoilt 12 236239978499) 0 12 [] 12 (program 12 ∷ [])
    (0 ∷ 1 ∷ 7 ∷ 8 ∷ 9 ∷ 10 ∷ 11 ∷ 12 ∷ 5 ∷ 2 ∷ 3 ∷ []))

-- a string that the object does not hold
abbrev pub string_past_end : Sample
string_past_end = sample
    (order Start 1 5 ∷ order Jump 0 3 ∷ 60 ∷ order Short 0 2 ∷ order Lib 0 2 ∷ order Stop 0 0 ∷ [])
    [] 20 60
    (report [] (Spoilt 4 197568495618) 0 5 [] 4 (program 5 ∷ [])
    (0 ∷ 1 ∷ 3 ∷ 4 ∷ 2 ∷ []))

-- an order before there is an activation
abbrev pub not_started : Sample
not_started = sample
    (order Short 0 1 ∷ order Stop 0 0 ∷ [])
    [] 20 60
    (report [] (Spoilt 0 17179869185) 0 0 [] 0 []
    (0 ∷ []))

-- START within a run
abbrev pub started_twice : Sample
started_twice = sample
    (order Start 1 5 ∷ order Start 1 5 ∷ order Stop 0 0 ∷ [])
    [] 20 60
    (report [] (Spoilt 1 4311744517) 0 5 [] 1 (program 5 ∷ [])
    (0 ∷ 1 ∷ []))

-- a word that is no order
abbrev pub no_order : Sample
no_order = sample
    (order Start 1 5 ∷ 12 ∷ order Stop 0 0 ∷ [])
    [] 20 60
    (report [] (Spoilt 1 12) 0 5 [] 1 (program 5 ∷ [])
    (0 ∷ 1 ∷ []))

-- PROC is not executed
abbrev pub proc_executed : Sample
proc_executed = sample
    (order Start 1 5 ∷ order Proc 2 5 ∷ order Stop 0 0 ∷ [])
    [] 20 60
    (report [] (Spoilt 1 150357409797) 0 5 [] 1 (program 5 ∷ [])
    (0 ∷ 1 ∷ []))

-- nor is THUNK
abbrev pub thunk_executed : Sample
thunk_executed = sample
    (order Start 1 5 ∷ order Thunk 0 5 ∷ order Stop 0 0 ∷ [])
    [] 20 60
    (report [] (Spoilt 1 167503724549) 0 5 [] 1 (program 5 ∷ [])
    (0 ∷ 1 ∷ []))

-- nor is KINDS
abbrev pub kinds_executed : Sample
kinds_executed = sample
    (order Start 1 5 ∷ order Kinds 1 0 ∷ order Stop 0 0 ∷ [])
    [] 20 60
    (report [] (Spoilt 1 223355076608) 0 5 [] 1 (program 5 ∷ [])
    (0 ∷ 1 ∷ []))

-- a jump back
abbrev pub backward : Sample
backward = sample
    (order Start 1 5 ∷ order Short 0 1 ∷ order Jump 0 1 ∷ order Stop 0 0 ∷ [])
    [] 20 60
    (report [] (Spoilt 2 115964116993) 0 5 [] 2 (program 5 ∷ [])
    (0 ∷ 1 ∷ 2 ∷ []))

-- nothing is jumped to that is not there; a condition that holds needs no address ahead
abbrev pub not_there : Sample
not_there = sample
    (order Start 1 5 ∷ order Short 0 1 ∷ order False 0 0 ∷ order Not 0 0 ∷ order False 0 6 ∷ order Stop 0 0 ∷ [])
    [] 20 60
    (report [] (Spoilt 4 120259084294) 0 5 [] 4 (program 5 ∷ [])
    (0 ∷ 1 ∷ 2 ∷ 3 ∷ 4 ∷ []))

-- the order after the last one
abbrev pub past_the_end : Sample
past_the_end = sample
    (order Start 1 5 ∷ order Short 0 1 ∷ [])
    [] 20 60
    (report [] (Spoilt 1 17179869185) 0 5 [] 1 (program 5 ∷ [])
    (0 ∷ 1 ∷ []))

-- a word past the stack
abbrev pub no_place : Sample
no_place = sample
    (order Start 1 5 ∷ order Short 0 60 ∷ order Fetch 0 0 ∷ order Stop 0 0 ∷ [])
    [] 20 60
    (report [] (Spoilt 2 34359738368) 0 5 [] 2 (program 5 ∷ [])
    (0 ∷ 1 ∷ 2 ∷ []))

-- no activation of that level is visible
abbrev pub no_level : Sample
no_level = sample
    (order Start 1 5 ∷ order Take 2 3 ∷ order Stop 0 0 ∷ [])
    [] 20 60
    (report [] (Spoilt 1 12918456323) 0 5 [] 1 (program 5 ∷ [])
    (0 ∷ 1 ∷ []))

-- a block is left where none was entered
abbrev pub nothing_entered : Sample
nothing_entered = sample
    (order Start 1 5 ∷ order Leave 0 0 ∷ order Stop 0 0 ∷ [])
    [] 20 60
    (report [] (Spoilt 1 137438953472) 0 5 [] 1 (program 5 ∷ [])
    (0 ∷ 1 ∷ []))

-- what is wanted of the program
abbrev pub not_wanted : Sample
not_wanted = sample
    (order Start 1 5 ∷ order Back 0 0 ∷ order Stop 0 0 ∷ [])
    [] 20 60
    (report [] (Spoilt 1 188978561024) 0 5 [] 1 (program 5 ∷ [])
    (0 ∷ 1 ∷ []))

-- a standard procedure that there is not
abbrev pub no_such_procedure : Sample
no_such_procedure = sample
    (order Start 1 5 ∷ order Lib 0 9 ∷ order Stop 0 0 ∷ [])
    [] 20 60
    (report [] (Spoilt 1 197568495625) 0 5 [] 1 (program 5 ∷ [])
    (0 ∷ 1 ∷ []))

-- a call of what is no procedure: its word was read
abbrev pub no_proc_there : Sample
no_proc_there = sample
    (order Start 1 5 ∷ order Call 1 3 ∷ order Stop 0 0 ∷ 7 ∷ [])
    [] 20 60
    (report [] (Spoilt 1 154635599875) 0 5 [] 1 (program 5 ∷ [])
    (0 ∷ 1 ∷ 3 ∷ []))

-- the word behind PROC is above 511
abbrev pub count_too_great : Sample
count_too_great = sample
    (order Start 1 5 ∷ order Call 1 3 ∷ order Stop 0 0 ∷ order Proc 2 600 ∷ 512 ∷ order Return 0 0 ∷ [])
    [] 20 60
    (report [] (Spoilt 1 154635599875) 0 5 [] 1 (program 5 ∷ [])
    (0 ∷ 1 ∷ 3 ∷ 4 ∷ []))

-- an order to return to that is not there
abbrev pub return_past_end : Sample
return_past_end = sample
    (order Start 1 9 ∷ order Jump 0 7 ∷ order Proc 2 5 ∷ 0 ∷ order Short 0 99 ∷ order Keep 0 3 ∷ order Return 0 0 ∷ order Call 1 2 ∷
    order Stop 0 0 ∷ [])
    [] 20 60
    (report [] (Spoilt 6 163208757248) 1 14 [] 6 (procedure 5 98 ∷ program 9 ∷ [])
    (0 ∷ 1 ∷ 7 ∷ 2 ∷ 3 ∷ 4 ∷ 5 ∷ 6 ∷ []))

abbrev pub samples : List Sample
samples =
    room_below_formals ∷ kind_past_last ∷ formal_function_word ∷ callf_in_last_word ∷ odd_kind ∷ field_past_last ∷ callf_of_others ∷
    string_past_end ∷ not_started ∷ started_twice ∷ no_order ∷ proc_executed ∷ thunk_executed ∷ kinds_executed ∷ backward ∷
    not_there ∷ past_the_end ∷ no_place ∷ no_level ∷ nothing_entered ∷ not_wanted ∷ no_such_procedure ∷ no_proc_there ∷
    count_too_great ∷ return_past_end ∷ []
