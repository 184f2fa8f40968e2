-- Two's complement: which whole number a word of 40 bits stands for, and back.
use Rattle.std.specs.Prelude.{◌+◌, ◌-◌, ◌<◌, ℕ, ℤ, pos, negsuc, nat_lt, if◌then◌else◌}

-- the lower half of the words are the numbers from 0, the upper half those from -2^39
abbrev pub int_of_word : ℕ → ℤ
int_of_word word = if nat_lt word 549755813888 then pos word else negsuc (1099511627775 - word)

-- the number itself, or 2^40 more where it is negative
abbrev pub word_of_int : ℤ → ℕ
word_of_int (pos n) = n
word_of_int (negsuc n) = 1099511627775 - n
