use Rattle.std.proofs.Common.{refl}
use Rattle.gier_kinds.proofs.laws.law_types.Goals as goal
use Rattle.gier_symbol.specs.Words.{tag_named}

pub returns : goal.returns
unfolding tag_named
returns c = record { bounds_told = refl; for_elements_told = refl; conditions_told = refl; branches_told = refl; branch_types_told = refl; designational_told = refl; switch_becomes_told = refl; assignments_told = refl; assignments_unknown_told = refl; assigned_functions_told = refl; arithmetic_told = refl; relations_told = refl; logical_told = refl; one_operator_told = refl; order_of_operands_told = refl; no_values_told = refl; long_bounds_told = refl; long_bounds_twice_told = refl; long_subscripts_told = refl; own_faults_told = refl; own_function_told = refl; nested_scopes_told = refl; in_statements_told = refl; many_faults_told = refl; no_fault_told = refl }
