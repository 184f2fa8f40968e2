-- The places of declared quantities: addresses within an activation, and numbers of labels, switches and procedures.
use Rattle.std.specs.Prelude.{◌+◌, ◌*◌, ◌^◌, ℕ, min}
use Rattle.gier_pass5.specs.declared.kinds.Class.{Class}
use Rattle.gier_pass5.specs.declared.kinds.Class.TheVariants.{Variable, Array, Numbered, Procedure, Function, Formal, Standard}

-- the address or number behind so many more
abbrev pub behind : ℕ → ℕ → ℕ
behind address words = min (address + words) 16777215

-- how many words a quantity takes, an array without its dimensions
abbrev pub words_of : Class → ℕ
words_of Variable = 1
words_of Array = 2
words_of Formal = 2
words_of Numbered = 0
words_of Procedure = 0
words_of Function = 0
words_of Standard = 0

-- how many numbers it takes
abbrev pub numbers_of : Class → ℕ
numbers_of Variable = 0
numbers_of Array = 0
numbers_of Formal = 0
numbers_of Numbered = 1
numbers_of Procedure = 1
numbers_of Function = 1
numbers_of Standard = 0

-- the place of a quantity, from its level, the next address and the next number
abbrev pub place_at : Class → ℕ → ℕ → ℕ → ℕ
place_at Variable level address number = level * 2 ^ 24 + address
place_at Array level address number = level * 2 ^ 24 + address
place_at Formal level address number = level * 2 ^ 24 + address
place_at Numbered level address number = level * 2 ^ 24 + number
place_at Procedure level address number = level * 2 ^ 24 + number
place_at Function level address number = level * 2 ^ 24 + number
place_at Standard level address number = 0
