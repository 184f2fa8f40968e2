-- A flat run makes of each sample what the model makes of it.
use Rattle.std.proofs.Common.{refl}
use Rattle.std.specs.Fmt.{digits}
use Rattle.gier_agree.specs.Packed.{kind_in}
use Rattle.gier_order.specs.Table.{operations, operation_at}
use Rattle.gier_order.specs.Flat.Sample.{IsAnswered, AreAnswered}
use Rattle.gier_order.specs.Flat.Samples.Calls.{samples, function, proper_procedure, expression, variable_value, variable_place, passed_on, label_formal, switch, undefined_switch, switch_formal, formal_procedure, agreeing}

function_answered : IsAnswered function
unfolding operation_at operations digits kind_in
function_answered = refl

proper_procedure_answered : IsAnswered proper_procedure
unfolding operation_at operations digits kind_in
proper_procedure_answered = refl

expression_answered : IsAnswered expression
unfolding operation_at operations digits kind_in
expression_answered = refl

variable_value_answered : IsAnswered variable_value
unfolding operation_at operations digits kind_in
variable_value_answered = refl

variable_place_answered : IsAnswered variable_place
unfolding operation_at operations digits kind_in
variable_place_answered = refl

passed_on_answered : IsAnswered passed_on
unfolding operation_at operations digits kind_in
passed_on_answered = refl

label_formal_answered : IsAnswered label_formal
unfolding operation_at operations digits kind_in
label_formal_answered = refl

switch_answered : IsAnswered switch
unfolding operation_at operations digits kind_in
switch_answered = refl

undefined_switch_answered : IsAnswered undefined_switch
unfolding operation_at operations digits kind_in
undefined_switch_answered = refl

switch_formal_answered : IsAnswered switch_formal
unfolding operation_at operations digits kind_in
switch_formal_answered = refl

formal_procedure_answered : IsAnswered formal_procedure
unfolding operation_at operations digits kind_in
formal_procedure_answered = refl

agreeing_answered : IsAnswered agreeing
unfolding operation_at operations digits kind_in
agreeing_answered = refl

pub all_answered : AreAnswered samples
all_answered = (
  function_answered,
  (
    proper_procedure_answered,
    (
      expression_answered,
      (
        variable_value_answered,
        (
          variable_place_answered,
          (
            passed_on_answered,
            (
              label_formal_answered,
              (
                switch_answered,
                (
                  undefined_switch_answered,
                  (
                    switch_formal_answered,
                    (formal_procedure_answered, (agreeing_answered, tt)),
                  ),
                ),
              ),
            ),
          ),
        ),
      ),
    ),
  ),
)
