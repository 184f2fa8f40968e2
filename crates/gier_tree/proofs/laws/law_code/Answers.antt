use Rattle.std.proofs.Common.{refl}
use Rattle.gier_agree.specs.Packed.{kinds_word}
use Rattle.gier_tree.proofs.laws.law_code.Goals as goal

pub returns : goal.returns
unfolding kinds_word
returns c = record { code_sums_is_7 = refl; code_sums_is_8 = refl; code_sums_is_object = refl; code_loops_is_7 = refl; code_loops_is_8 = refl; code_loops_is_object = refl; code_arrays_is_7 = refl; code_arrays_is_8 = refl; code_arrays_is_object = refl; code_calls_is_7 = refl; code_calls_is_8 = refl; code_calls_is_object = refl; code_formals_is_7 = refl; code_formals_is_8 = refl; code_formals_is_object = refl; code_own_is_7 = refl; code_own_is_8 = refl; code_own_is_object = refl }
