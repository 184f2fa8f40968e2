use Rattle.std.proofs.Common.{refl}
use Rattle.gier_tree.proofs.laws.law_structured.Goals as goal

pub returns : goal.returns
returns c = record { no_program_fault = refl; label_alone_fault = refl; group_twice_fault = refl; open_group_fault = refl; late_declaration_fault = refl; no_semicolon_fault = refl; if_then_if_fault = refl; labelled_if_fault = refl; loop_else_fault = refl; inner_else_fault = refl; dummy_else_fault = refl; two_relations_fault = refl; second_sign_fault = refl; not_not_fault = refl; sign_in_relation_fault = refl; if_operand_fault = refl; then_if_expr_fault = refl; left_call_fault = refl; sum_left_fault = refl; element_left_fault = refl; empty_actuals_fault = refl; string_alone_fault = refl; string_actual_fault = refl; own_bound_fault = refl; own_sign_fault = refl; step_without_until_fault = refl; value_later_fault = refl; array_no_type_fault = refl; spec_kinds_fault = refl; thirty_pairs_fault = refl; more_pairs_fault = refl; sums_written = refl; loop_written = refl; declared_written = refl; none_written = refl }
