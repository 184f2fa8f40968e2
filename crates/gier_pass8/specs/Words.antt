-- Words that pack an order, or what is known of a label.
use Rattle.std.specs.Prelude.{◌+◌, ◌-◌, ◌*◌, ◌/◌, ◌%◌, ◌^◌, ◌&&◌, ℕ, zero, suc, nat_lt, nat_le, if◌then◌else◌}
use Rattle.gier_symbol.specs.declared.symbol.Symbol.{Symbol}
use Rattle.gier_symbol.specs.declared.tag.Tag.TheVariants.{Word}
use Rattle.gier_symbol.specs.Tags.{number_of}
use Rattle.gier_pass8.specs.declared.words.Label.{Label}
use Rattle.gier_pass8.specs.declared.words.Label.TheVariants.{New, Used, At}

-- a sum, but at most the greatest address
abbrev pub sum_of : ℕ → ℕ → ℕ
sum_of a b = if nat_lt (a + b) (2 ^ 24) then a + b else 2 ^ 24 - 1

abbrev pub word_of : Label → ℕ
word_of New = 0
word_of Used = 1
word_of (At address) = address + 2

abbrev pub label_of : ℕ → Label
label_of zero = New
label_of (suc zero) = Used
label_of (suc (suc address)) = At address

-- the address, or the label number in its place
abbrev pub number_in : ℕ → ℕ
number_in packed = packed % 2 ^ 24

-- the order with another address; what has no order's number becomes a word
abbrev pub with_address : Symbol → ℕ → Symbol
with_address s address =
    if nat_lt 0 (s.value / 2 ^ 32) && nat_le (s.value / 2 ^ 32) 55
    then record { tag = 128 + s.value / 2 ^ 32; value = s.value % 2 ^ 32 / 2 ^ 24 * 2 ^ 24 + address; line = s.line }
    else record { tag = number_of Word; value = s.value; line = s.line }
