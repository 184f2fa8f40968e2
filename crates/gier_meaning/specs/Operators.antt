-- The operators (Report 3.3 and 3.4). A logical value is a number: 1 is true, 0 is false.
use Rattle.std.specs.Prelude.{◌&&◌, ◌||◌, not, ℤ, pos, int_le, int_lt, Bool, true, false, Result, Ok}
use Rattle.gier_word.specs.declared.int40.Spoil.{Spoil}
use Rattle.gier_word.specs.Operations.{is_zero, sum_of, difference_of, product_of, quotient_of, power_of, negative_of}
use Rattle.gier_tree.specs.Trees.{Add, Subtract, Multiply, Divide, Comparing, LessThan, AtMost, EqualTo, AtLeast, MoreThan, Unequal}
use Rattle.gier_meaning.specs.Tree.{Operator, Adds, Multiplies, Raises, Compares, Ands, Ors, Implies, Equals, Prefix, Signs, Nots}

abbrev pub truth : Bool → ℤ
truth true = pos 1
truth false = pos 0

abbrev pub is_true : ℤ → Bool
is_true value = not (is_zero value)

abbrev pub compares : Comparing → ℤ → ℤ → Bool
compares LessThan a b = int_lt a b
compares AtMost a b = int_le a b
compares EqualTo a b = int_le a b && int_le b a
compares AtLeast a b = int_le b a
compares MoreThan a b = int_lt b a
compares Unequal a b = int_lt a b || int_lt b a

abbrev pub are_alike : Bool → Bool → Bool
are_alike true b = b
are_alike false b = not b

abbrev pub apply_operator : Operator → ℤ → ℤ → Result ℤ Spoil
apply_operator (Adds Add) a b = sum_of a b
apply_operator (Adds Subtract) a b = difference_of a b
apply_operator (Multiplies Multiply) a b = product_of a b
apply_operator (Multiplies Divide) a b = quotient_of a b
apply_operator Raises a b = power_of a b
apply_operator (Compares op) a b = Ok (truth (compares op a b))
apply_operator Ands a b = Ok (truth (is_true a && is_true b))
apply_operator Ors a b = Ok (truth (is_true a || is_true b))
apply_operator Implies a b = Ok (truth (not (is_true a) || is_true b))
apply_operator Equals a b = Ok (truth (are_alike (is_true a) (is_true b)))

abbrev pub apply_prefix : Prefix → ℤ → Result ℤ Spoil
apply_prefix (Signs Add) a = Ok a
apply_prefix (Signs Subtract) a = negative_of a
apply_prefix Nots a = Ok (truth (not (is_true a)))
