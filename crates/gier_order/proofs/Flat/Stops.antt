-- A flat run makes of each sample what the model makes of it.
use Rattle.std.proofs.Common.{refl}
use Rattle.std.specs.Fmt.{digits}
use Rattle.gier_agree.specs.Packed.{kind_in}
use Rattle.gier_order.specs.Table.{operations, operation_at}
use Rattle.gier_order.specs.Flat.Sample.{IsAnswered, AreAnswered}
use Rattle.gier_order.specs.Flat.Samples.Stops.{samples, subscript, no_room_for_elements, bounds, no_step_for_call, no_room_for_call, alarm_in_function, assignment, no_step_for_go_to, formal_with_formals, formal_in_last_word, disagreeing, too_many_actuals, character, no_number, end_of_data, spill, abs_spill, division, power, test_spill, no_room_for_start, no_room_for_block, no_step_for_block}

subscript_answered : IsAnswered subscript
unfolding operation_at operations digits kind_in
subscript_answered = refl

no_room_for_elements_answered : IsAnswered no_room_for_elements
unfolding operation_at operations digits kind_in
no_room_for_elements_answered = refl

bounds_answered : IsAnswered bounds
unfolding operation_at operations digits kind_in
bounds_answered = refl

no_step_for_call_answered : IsAnswered no_step_for_call
unfolding operation_at operations digits kind_in
no_step_for_call_answered = refl

no_room_for_call_answered : IsAnswered no_room_for_call
unfolding operation_at operations digits kind_in
no_room_for_call_answered = refl

alarm_in_function_answered : IsAnswered alarm_in_function
unfolding operation_at operations digits kind_in
alarm_in_function_answered = refl

assignment_answered : IsAnswered assignment
unfolding operation_at operations digits kind_in
assignment_answered = refl

no_step_for_go_to_answered : IsAnswered no_step_for_go_to
unfolding operation_at operations digits kind_in
no_step_for_go_to_answered = refl

formal_with_formals_answered : IsAnswered formal_with_formals
unfolding operation_at operations digits kind_in
formal_with_formals_answered = refl

formal_in_last_word_answered : IsAnswered formal_in_last_word
unfolding operation_at operations digits kind_in
formal_in_last_word_answered = refl

disagreeing_answered : IsAnswered disagreeing
unfolding operation_at operations digits kind_in
disagreeing_answered = refl

too_many_actuals_answered : IsAnswered too_many_actuals
unfolding operation_at operations digits kind_in
too_many_actuals_answered = refl

character_answered : IsAnswered character
unfolding operation_at operations digits kind_in
character_answered = refl

no_number_answered : IsAnswered no_number
unfolding operation_at operations digits kind_in
no_number_answered = refl

end_of_data_answered : IsAnswered end_of_data
unfolding operation_at operations digits kind_in
end_of_data_answered = refl

spill_answered : IsAnswered spill
unfolding operation_at operations digits kind_in
spill_answered = refl

abs_spill_answered : IsAnswered abs_spill
unfolding operation_at operations digits kind_in
abs_spill_answered = refl

division_answered : IsAnswered division
unfolding operation_at operations digits kind_in
division_answered = refl

power_answered : IsAnswered power
unfolding operation_at operations digits kind_in
power_answered = refl

test_spill_answered : IsAnswered test_spill
unfolding operation_at operations digits kind_in
test_spill_answered = refl

no_room_for_start_answered : IsAnswered no_room_for_start
unfolding operation_at operations digits kind_in
no_room_for_start_answered = refl

no_room_for_block_answered : IsAnswered no_room_for_block
unfolding operation_at operations digits kind_in
no_room_for_block_answered = refl

no_step_for_block_answered : IsAnswered no_step_for_block
unfolding operation_at operations digits kind_in
no_step_for_block_answered = refl

pub all_answered : AreAnswered samples
all_answered = (
  subscript_answered,
  (
    no_room_for_elements_answered,
    (
      bounds_answered,
      (
        no_step_for_call_answered,
        (
          no_room_for_call_answered,
          (
            alarm_in_function_answered,
            (
              assignment_answered,
              (
                no_step_for_go_to_answered,
                (
                  formal_with_formals_answered,
                  (
                    formal_in_last_word_answered,
                    (
                      disagreeing_answered,
                      (
                        too_many_actuals_answered,
                        (
                          character_answered,
                          (
                            no_number_answered,
                            (
                              end_of_data_answered,
                              (
                                spill_answered,
                                (
                                  abs_spill_answered,
                                  (
                                    division_answered,
                                    (
                                      power_answered,
                                      (
                                        test_spill_answered,
                                        (no_room_for_start_answered, (no_room_for_block_answered, (no_step_for_block_answered, tt))),
                                      ),
                                    ),
                                  ),
                                ),
                              ),
                            ),
                          ),
                        ),
                      ),
                    ),
                  ),
                ),
              ),
            ),
          ),
        ),
      ),
    ),
  ),
)
