use Rattle.std.proofs.Common.{refl}
use Rattle.gier_kinds.proofs.laws.law_uses.Goals as goal
use Rattle.gier_symbol.specs.Words.{tag_named}

pub returns : goal.returns
unfolding tag_named
returns c = record { uses_alone_told = refl; uses_alone_formals_told = refl; uses_subscripted_told = refl; uses_called_told = refl; left_parts_told = refl; left_functions_told = refl; left_function_anew_told = refl; left_elements_told = refl; controlled_told = refl; statements_alone_told = refl; statements_called_told = refl; kind_and_count_told = refl; standard_anew_told = refl; array_subscripts_told = refl; formal_subscripts_told = refl; wrong_subscripts_told = refl; subscripts_twice_told = refl; subscripts_of_none_told = refl; actual_count_told = refl; value_actuals_told = refl; label_actuals_told = refl; array_actuals_told = refl; procedure_actuals_told = refl; string_actuals_told = refl; unknown_actuals_told = refl; own_faults_of_actuals_told = refl; formal_calls_told = refl }
