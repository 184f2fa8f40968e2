use Rattle.std.proofs.Common.{refl}
use Rattle.gier_scope.proofs.laws.law_scopes.Goals as goal
use Rattle.gier_symbol.specs.Words.{tag_named}

pub returns : goal.returns
unfolding tag_named
returns c = record { twice_variable_told = refl; once_variable_told = refl; twice_sorts_told = refl; once_sorts_told = refl; twice_label_told = refl; twice_label_if_told = refl; once_label_loop_told = refl; twice_label_loop_told = refl; twice_inner_told = refl; twice_program_told = refl; twice_program_label_told = refl; twice_formal_told = refl; twice_formal_block_told = refl; twice_own_told = refl; once_own_told = refl; twice_standard_told = refl; undeclared_variable_told = refl; declared_variable_told = refl; undeclared_behind_told = refl; undeclared_behind_procedure_told = refl; undeclared_behind_own_told = refl; undeclared_into_loop_told = refl; declared_out_of_loop_told = refl; undeclared_everywhere_told = refl; undeclared_same_twice_told = refl; declared_later_told = refl; undeclared_sibling_told = refl; local_variable_told = refl; outer_variable_told = refl; local_later_told = refl; local_procedure_told = refl; local_and_not_declared_told = refl; no_formal_told = refl; formal_told = refl; no_formal_own_name_told = refl; twice_by_value_told = refl; once_by_value_told = refl; specified_twice_told = refl; no_formal_twice_told = refl; not_specified_told = refl; all_specified_told = refl; not_specified_twice_told = refl; whole_heading_told = refl; deep_scopes_told = refl; no_fault_told = refl }
