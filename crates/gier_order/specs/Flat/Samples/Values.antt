-- Small objects whose orders are about values, blocks, arrays and the standard procedures, and what a flat run makes of
-- them. What it makes of them was computed by a model in another language.
use Rattle.std.specs.Prelude.{List, [], ◌∷◌}
use Rattle.gier_order.specs.declared.operation.Operation.TheVariants.{Start, Stop, Take, Short, Long, Keep, Addr, Fetch, Put, Add}
use Rattle.gier_order.specs.declared.operation.Operation.TheVariants.{Sub, Mul, Div, Pow, Neg, Lt, Le, Eq, Ge, Gt, Ne, Not, And}
use Rattle.gier_order.specs.declared.operation.Operation.TheVariants.{Or, Impl, Equiv, Jump, False, Test, Turn, Block, Leave}
use Rattle.gier_order.specs.declared.operation.Operation.TheVariants.{Array, Index, Lib}
use Rattle.gier_order.specs.Flat.Row.{Ended}
use Rattle.gier_order.specs.Flat.Sample.{Sample, sample, order, report, program}

-- values, words of an activation, and a number of its own
abbrev pub sums : Sample
sums = sample
    (order Start 1 8 ∷ order Short 0 5 ∷ order Keep 0 3 ∷ order Long 0 0 ∷ 34359738368 ∷ order Add 0 3 ∷ order Keep 0 4 ∷
    order Take 1 4 ∷ order Lib 0 1 ∷ order Stop 0 0 ∷ [])
    [] 20 60
    (report (51 ∷ 52 ∷ 51 ∷ 53 ∷ 57 ∷ 55 ∷ 51 ∷ 56 ∷ 51 ∷ 55 ∷ 51 ∷ []) Ended 0 8 [] 9 (program 8 ∷ [])
    (0 ∷ 1 ∷ 2 ∷ 3 ∷ 4 ∷ 5 ∷ 6 ∷ 7 ∷ 8 ∷ 9 ∷ []))

-- a word found and written by its place
abbrev pub places : Sample
places = sample
    (order Start 1 8 ∷ order Addr 1 5 ∷ order Keep 0 3 ∷ order Short 0 7 ∷ order Put 0 3 ∷ order Addr 1 5 ∷ order Fetch 0 0 ∷
    order Lib 0 1 ∷ order Lib 0 3 ∷ order Stop 0 0 ∷ [])
    [] 20 60
    (report (55 ∷ 10 ∷ []) Ended 0 8 [] 9 (program 8 ∷ [])
    (0 ∷ 1 ∷ 2 ∷ 3 ∷ 4 ∷ 5 ∷ 6 ∷ 7 ∷ 8 ∷ 9 ∷ []))

-- a difference, a product, a quotient of a negative number, a power
abbrev pub arithmetic : Sample
arithmetic = sample
    (order Start 1 8 ∷ order Short 0 7 ∷ order Neg 0 0 ∷ order Keep 0 3 ∷ order Short 0 2 ∷ order Div 0 3 ∷ order Lib 0 1 ∷
    order Sub 0 3 ∷ order Lib 0 1 ∷ order Mul 0 3 ∷ order Lib 0 1 ∷ order Keep 0 4 ∷ order Short 0 3 ∷ order Pow 0 4 ∷
    order Lib 0 1 ∷ order Stop 0 0 ∷ [])
    [] 20 60
    (report (45 ∷ 51 ∷ 45 ∷ 52 ∷ 50 ∷ 56 ∷ 50 ∷ 49 ∷ 57 ∷ 53 ∷ 50 ∷ []) Ended 0 8 [] 15 (program 8 ∷ [])
    (0 ∷ 1 ∷ 2 ∷ 3 ∷ 4 ∷ 5 ∷ 6 ∷ 7 ∷ 8 ∷ 9 ∷ 10 ∷ 11 ∷ 12 ∷ 13 ∷ 14 ∷ 15 ∷ []))

-- 2 and 3 in each relation
abbrev pub relations : Sample
relations = sample
    (order Start 1 8 ∷ order Short 0 2 ∷ order Keep 0 3 ∷ order Short 0 3 ∷ order Lt 0 3 ∷ order Lib 0 1 ∷ order Short 0 3 ∷
    order Le 0 3 ∷ order Lib 0 1 ∷ order Short 0 3 ∷ order Eq 0 3 ∷ order Lib 0 1 ∷ order Short 0 3 ∷ order Ge 0 3 ∷ order Lib 0 1 ∷
    order Short 0 3 ∷ order Gt 0 3 ∷ order Lib 0 1 ∷ order Short 0 3 ∷ order Ne 0 3 ∷ order Lib 0 1 ∷ order Stop 0 0 ∷ [])
    [] 20 60
    (report (49 ∷ 49 ∷ 48 ∷ 48 ∷ 48 ∷ 49 ∷ []) Ended 0 8 [] 21 (program 8 ∷ [])
    (0 ∷ 1 ∷ 2 ∷ 3 ∷ 4 ∷ 5 ∷ 6 ∷ 7 ∷ 8 ∷ 9 ∷ 10 ∷ 11 ∷ 12 ∷ 13 ∷ 14 ∷ 15 ∷ 16 ∷ 17 ∷ 18 ∷ 19 ∷ 20 ∷ 21 ∷ []))

-- a negative number lies below a positive one
abbrev pub negatives : Sample
negatives = sample
    (order Start 1 8 ∷ order Short 0 2 ∷ order Neg 0 0 ∷ order Keep 0 3 ∷ order Short 0 3 ∷ order Lt 0 3 ∷ order Lib 0 1 ∷
    order Short 0 3 ∷ order Ge 0 3 ∷ order Lib 0 1 ∷ order Take 1 3 ∷ order Eq 0 3 ∷ order Lib 0 1 ∷ order Stop 0 0 ∷ [])
    [] 20 60
    (report (49 ∷ 48 ∷ 49 ∷ []) Ended 0 8 [] 13 (program 8 ∷ [])
    (0 ∷ 1 ∷ 2 ∷ 3 ∷ 4 ∷ 5 ∷ 6 ∷ 7 ∷ 8 ∷ 9 ∷ 10 ∷ 11 ∷ 12 ∷ 13 ∷ []))

-- each Boolean operator with false before it and true behind it
abbrev pub logic : Sample
logic = sample
    (order Start 1 8 ∷ order Short 0 1 ∷ order And 0 3 ∷ order Lib 0 1 ∷ order Short 0 1 ∷ order Or 0 3 ∷ order Lib 0 1 ∷
    order Short 0 1 ∷ order Impl 0 3 ∷ order Lib 0 1 ∷ order Short 0 1 ∷ order Equiv 0 3 ∷ order Lib 0 1 ∷ order Short 0 0 ∷
    order Equiv 0 3 ∷ order Lib 0 1 ∷ order Not 0 0 ∷ order Lib 0 1 ∷ order Stop 0 0 ∷ [])
    [] 20 60
    (report (48 ∷ 49 ∷ 49 ∷ 48 ∷ 49 ∷ 48 ∷ []) Ended 0 8 [] 18 (program 8 ∷ [])
    (0 ∷ 1 ∷ 2 ∷ 3 ∷ 4 ∷ 5 ∷ 6 ∷ 7 ∷ 8 ∷ 9 ∷ 10 ∷ 11 ∷ 12 ∷ 13 ∷ 14 ∷ 15 ∷ 16 ∷ 17 ∷ 18 ∷ []))

-- jumps over a branch
abbrev pub conditional : Sample
conditional = sample
    (order Start 1 8 ∷ order Short 0 0 ∷ order False 0 5 ∷ order Short 0 7 ∷ order Jump 0 6 ∷ order Short 0 8 ∷ order Lib 0 1 ∷
    order Short 0 1 ∷ order False 0 10 ∷ order Lib 0 1 ∷ order Stop 0 0 ∷ [])
    [] 20 60
    (report (56 ∷ 49 ∷ []) Ended 0 8 [] 10 (program 8 ∷ [])
    (0 ∷ 1 ∷ 2 ∷ 5 ∷ 6 ∷ 7 ∷ 8 ∷ 9 ∷ 10 ∷ []))

-- a loop that counts down to 0
abbrev pub countdown : Sample
countdown = sample
    (order Start 1 8 ∷ order Short 0 3 ∷ order Keep 0 3 ∷ order Short 0 5 ∷ order Keep 0 4 ∷ order Take 1 3 ∷ order Lib 0 1 ∷
    order Short 0 1 ∷ order Sub 0 3 ∷ order Keep 0 3 ∷ order False 0 12 ∷ order Turn 0 4 ∷ order Stop 0 0 ∷ [])
    [] 20 60
    (report (51 ∷ 50 ∷ 49 ∷ []) Ended 2 8 [] 12 (program 8 ∷ [])
    (0 ∷ 1 ∷ 2 ∷ 3 ∷ 4 ∷ 5 ∷ 6 ∷ 7 ∷ 8 ∷ 9 ∷ 10 ∷ 11 ∷ 5 ∷ 6 ∷ 7 ∷ 8 ∷ 9 ∷ 10 ∷ 11 ∷ 5 ∷ 6 ∷ 7 ∷ 8 ∷ 9 ∷ 10 ∷ 12 ∷ []))

-- the test of a step element, with a step below 0
abbrev pub tests : Sample
tests = sample
    (order Start 1 8 ∷ order Short 0 5 ∷ order Keep 0 3 ∷ order Short 0 2 ∷ order Neg 0 0 ∷ order Test 0 3 ∷ order Lib 0 1 ∷
    order Short 0 5 ∷ order Keep 0 3 ∷ order Short 0 2 ∷ order Test 0 3 ∷ order Lib 0 1 ∷ order Stop 0 0 ∷ [])
    [] 20 60
    (report (49 ∷ 48 ∷ []) Ended 0 8 [] 12 (program 8 ∷ [])
    (0 ∷ 1 ∷ 2 ∷ 3 ∷ 4 ∷ 5 ∷ 6 ∷ 7 ∷ 8 ∷ 9 ∷ 10 ∷ 11 ∷ 12 ∷ []))

-- a block within the program, with a word of each
abbrev pub block : Sample
block = sample
    (order Start 1 6 ∷ order Short 0 4 ∷ order Keep 0 3 ∷ order Block 2 5 ∷ order Take 1 3 ∷ order Keep 0 3 ∷ order Short 0 9 ∷
    order Add 0 3 ∷ order Lib 0 1 ∷ order Take 2 4 ∷ order Lib 0 1 ∷ order Leave 0 0 ∷ order Take 1 3 ∷ order Lib 0 1 ∷
    order Stop 0 0 ∷ [])
    [] 20 60
    (report (49 ∷ 51 ∷ 48 ∷ 52 ∷ []) Ended 1 11 [] 14 (program 6 ∷ [])
    (0 ∷ 1 ∷ 2 ∷ 3 ∷ 4 ∷ 5 ∷ 6 ∷ 7 ∷ 8 ∷ 9 ∷ 10 ∷ 11 ∷ 12 ∷ 13 ∷ 14 ∷ []))

-- an array of two dimensions, and an element of it
abbrev pub array : Sample
array = sample
    (order Start 1 16 ∷ order Short 0 2 ∷ order Keep 0 10 ∷ order Short 0 3 ∷ order Keep 0 11 ∷ order Short 0 1 ∷ order Neg 0 0 ∷
    order Keep 0 12 ∷ order Short 0 1 ∷ order Keep 0 13 ∷ order Short 0 10 ∷ order Array 2 4 ∷ order Addr 1 4 ∷ order Keep 0 10 ∷
    order Short 0 3 ∷ order Keep 0 11 ∷ order Short 0 1 ∷ order Keep 0 12 ∷ order Index 2 10 ∷ order Keep 0 10 ∷ order Short 0 77 ∷
    order Put 0 10 ∷ order Take 1 10 ∷ order Lib 0 1 ∷ order Fetch 0 0 ∷ order Lib 0 1 ∷ order Stop 0 0 ∷ [])
    [] 20 60
    (report (50 ∷ 49 ∷ 55 ∷ 55 ∷ []) Ended 0 22 [] 26 (program 22 ∷ [])
    (0 ∷ 1 ∷ 2 ∷ 3 ∷ 4 ∷ 5 ∷ 6 ∷ 7 ∷ 8 ∷ 9 ∷ 10 ∷ 11 ∷ 12 ∷ 13 ∷ 14 ∷ 15 ∷ 16 ∷ 17 ∷ 18 ∷ 19 ∷ 20 ∷ 21 ∷ 22 ∷ 23
    ∷ 24 ∷ 25 ∷ 26 ∷ []))

-- a string of seven bytes, a byte, a new line
abbrev pub printing : Sample
printing = sample
    (order Start 1 5 ∷ order Jump 0 5 ∷ 7 ∷ 310939249775 ∷ 189515431936 ∷ order Short 0 2 ∷ order Lib 0 2 ∷ order Lib 0 3 ∷
    order Short 0 33 ∷ order Lib 0 4 ∷ order Stop 0 0 ∷ [])
    [] 20 60
    (report (72 ∷ 101 ∷ 108 ∷ 108 ∷ 111 ∷ 44 ∷ 32 ∷ 10 ∷ 33 ∷ []) Ended 0 5 [] 10 (program 5 ∷ [])
    (0 ∷ 1 ∷ 5 ∷ 6 ∷ 2 ∷ 3 ∷ 4 ∷ 7 ∷ 8 ∷ 9 ∷ 10 ∷ []))

-- two numbers and a byte; the first other byte behind a number is taken
abbrev pub reading : Sample
reading = sample
    (order Start 1 5 ∷ order Lib 0 5 ∷ order Lib 0 1 ∷ order Lib 0 3 ∷ order Lib 0 5 ∷ order Lib 0 1 ∷ order Lib 0 3 ∷
    order Lib 0 6 ∷ order Lib 0 1 ∷ order Stop 0 0 ∷ [])
    (32 ∷ 49 ∷ 55 ∷ 44 ∷ 45 ∷ 50 ∷ 48 ∷ 51 ∷ 32 ∷ 120 ∷ []) 20 60
    (report (49 ∷ 55 ∷ 10 ∷ 45 ∷ 50 ∷ 48 ∷ 51 ∷ 10 ∷ 49 ∷ 50 ∷ 48 ∷ []) Ended 0 5 [] 9 (program 5 ∷ [])
    (0 ∷ 1 ∷ 2 ∷ 3 ∷ 4 ∷ 5 ∷ 6 ∷ 7 ∷ 8 ∷ 9 ∷ []))

-- abs and sign
abbrev pub signs : Sample
signs = sample
    (order Start 1 5 ∷ order Short 0 9 ∷ order Neg 0 0 ∷ order Lib 0 7 ∷ order Lib 0 1 ∷ order Neg 0 0 ∷ order Lib 0 8 ∷
    order Lib 0 1 ∷ order Lib 0 8 ∷ order Lib 0 1 ∷ order Short 0 0 ∷ order Lib 0 8 ∷ order Lib 0 1 ∷ order Stop 0 0 ∷ [])
    [] 20 60
    (report (57 ∷ 45 ∷ 49 ∷ 45 ∷ 49 ∷ 48 ∷ []) Ended 0 5 [] 13 (program 5 ∷ [])
    (0 ∷ 1 ∷ 2 ∷ 3 ∷ 4 ∷ 5 ∷ 6 ∷ 7 ∷ 8 ∷ 9 ∷ 10 ∷ 11 ∷ 12 ∷ 13 ∷ []))

abbrev pub samples : List Sample
samples =
    sums ∷ places ∷ arithmetic ∷ relations ∷ negatives ∷ logic ∷ conditional ∷ countdown ∷ tests ∷ block ∷ array ∷ printing ∷
    reading ∷ signs ∷ []
