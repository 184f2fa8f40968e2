-- A flat run makes of each sample what the model makes of it.
use Rattle.std.proofs.Common.{refl}
use Rattle.std.specs.Fmt.{digits}
use Rattle.gier_agree.specs.Packed.{kind_in}
use Rattle.gier_order.specs.Table.{operations, operation_at}
use Rattle.gier_order.specs.Flat.Sample.{IsAnswered, AreAnswered}
use Rattle.gier_order.specs.Flat.Samples.Spoilt.{samples, room_below_formals, kind_past_last, formal_function_word, callf_in_last_word, odd_kind, field_past_last, callf_of_others, string_past_end, not_started, started_twice, no_order, proc_executed, thunk_executed, kinds_executed, backward, not_there, past_the_end, no_place, no_level, nothing_entered, not_wanted, no_such_procedure, no_proc_there, count_too_great, return_past_end}

room_below_formals_answered : IsAnswered room_below_formals
unfolding operation_at operations digits kind_in
room_below_formals_answered = refl

kind_past_last_answered : IsAnswered kind_past_last
unfolding operation_at operations digits kind_in
kind_past_last_answered = refl

formal_function_word_answered : IsAnswered formal_function_word
unfolding operation_at operations digits kind_in
formal_function_word_answered = refl

callf_in_last_word_answered : IsAnswered callf_in_last_word
unfolding operation_at operations digits kind_in
callf_in_last_word_answered = refl

odd_kind_answered : IsAnswered odd_kind
unfolding operation_at operations digits kind_in
odd_kind_answered = refl

field_past_last_answered : IsAnswered field_past_last
unfolding operation_at operations digits kind_in
field_past_last_answered = refl

callf_of_others_answered : IsAnswered callf_of_others
unfolding operation_at operations digits kind_in
callf_of_others_answered = refl

string_past_end_answered : IsAnswered string_past_end
unfolding operation_at operations digits kind_in
string_past_end_answered = refl

not_started_answered : IsAnswered not_started
unfolding operation_at operations digits kind_in
not_started_answered = refl

started_twice_answered : IsAnswered started_twice
unfolding operation_at operations digits kind_in
started_twice_answered = refl

no_order_answered : IsAnswered no_order
unfolding operation_at operations digits kind_in
no_order_answered = refl

proc_executed_answered : IsAnswered proc_executed
unfolding operation_at operations digits kind_in
proc_executed_answered = refl

thunk_executed_answered : IsAnswered thunk_executed
unfolding operation_at operations digits kind_in
thunk_executed_answered = refl

kinds_executed_answered : IsAnswered kinds_executed
unfolding operation_at operations digits kind_in
kinds_executed_answered = refl

backward_answered : IsAnswered backward
unfolding operation_at operations digits kind_in
backward_answered = refl

not_there_answered : IsAnswered not_there
unfolding operation_at operations digits kind_in
not_there_answered = refl

past_the_end_answered : IsAnswered past_the_end
unfolding operation_at operations digits kind_in
past_the_end_answered = refl

no_place_answered : IsAnswered no_place
unfolding operation_at operations digits kind_in
no_place_answered = refl

no_level_answered : IsAnswered no_level
unfolding operation_at operations digits kind_in
no_level_answered = refl

nothing_entered_answered : IsAnswered nothing_entered
unfolding operation_at operations digits kind_in
nothing_entered_answered = refl

not_wanted_answered : IsAnswered not_wanted
unfolding operation_at operations digits kind_in
not_wanted_answered = refl

no_such_procedure_answered : IsAnswered no_such_procedure
unfolding operation_at operations digits kind_in
no_such_procedure_answered = refl

no_proc_there_answered : IsAnswered no_proc_there
unfolding operation_at operations digits kind_in
no_proc_there_answered = refl

count_too_great_answered : IsAnswered count_too_great
unfolding operation_at operations digits kind_in
count_too_great_answered = refl

return_past_end_answered : IsAnswered return_past_end
unfolding operation_at operations digits kind_in
return_past_end_answered = refl

pub all_answered : AreAnswered samples
all_answered = (
  room_below_formals_answered,
  (
    kind_past_last_answered,
    (
      formal_function_word_answered,
      (
        callf_in_last_word_answered,
        (
          odd_kind_answered,
          (
            field_past_last_answered,
            (
              callf_of_others_answered,
              (
                string_past_end_answered,
                (
                  not_started_answered,
                  (
                    started_twice_answered,
                    (
                      no_order_answered,
                      (
                        proc_executed_answered,
                        (
                          thunk_executed_answered,
                          (
                            kinds_executed_answered,
                            (
                              backward_answered,
                              (
                                not_there_answered,
                                (
                                  past_the_end_answered,
                                  (
                                    no_place_answered,
                                    (
                                      no_level_answered,
                                      (
                                        nothing_entered_answered,
                                        (
                                          not_wanted_answered,
                                          (
                                            no_such_procedure_answered,
                                            (
                                              no_proc_there_answered,
                                              (
                                                count_too_great_answered,
                                                (return_past_end_answered, tt),
                                              ),
                                            ),
                                          ),
                                        ),
                                      ),
                                    ),
                                  ),
                                ),
                              ),
                            ),
                          ),
                        ),
                      ),
                    ),
                  ),
                ),
              ),
            ),
          ),
        ),
      ),
    ),
  ),
)
