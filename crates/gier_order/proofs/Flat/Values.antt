-- A flat run makes of each sample what the model makes of it.
use Rattle.std.proofs.Common.{refl}
use Rattle.std.specs.Fmt.{digits}
use Rattle.gier_order.specs.Table.{operations, operation_at}
use Rattle.gier_order.specs.Flat.Sample.{IsAnswered, AreAnswered}
use Rattle.gier_order.specs.Flat.Samples.Values.{samples, sums, places, arithmetic, relations, negatives, logic, conditional, countdown, tests, block, array, printing, reading, signs}

sums_answered : IsAnswered sums
unfolding operation_at operations digits
sums_answered = refl

places_answered : IsAnswered places
unfolding operation_at operations digits
places_answered = refl

arithmetic_answered : IsAnswered arithmetic
unfolding operation_at operations digits
arithmetic_answered = refl

relations_answered : IsAnswered relations
unfolding operation_at operations digits
relations_answered = refl

negatives_answered : IsAnswered negatives
unfolding operation_at operations digits
negatives_answered = refl

logic_answered : IsAnswered logic
unfolding operation_at operations digits
logic_answered = refl

conditional_answered : IsAnswered conditional
unfolding operation_at operations digits
conditional_answered = refl

countdown_answered : IsAnswered countdown
unfolding operation_at operations digits
countdown_answered = refl

tests_answered : IsAnswered tests
unfolding operation_at operations digits
tests_answered = refl

block_answered : IsAnswered block
unfolding operation_at operations digits
block_answered = refl

array_answered : IsAnswered array
unfolding operation_at operations digits
array_answered = refl

printing_answered : IsAnswered printing
unfolding operation_at operations digits
printing_answered = refl

reading_answered : IsAnswered reading
unfolding operation_at operations digits
reading_answered = refl

signs_answered : IsAnswered signs
unfolding operation_at operations digits
signs_answered = refl

pub all_answered : AreAnswered samples
all_answered = (
  sums_answered,
  (
    places_answered,
    (
      arithmetic_answered,
      (
        relations_answered,
        (
          negatives_answered,
          (
            logic_answered,
            (
              conditional_answered,
              (
                countdown_answered,
                (
                  tests_answered,
                  (
                    block_answered,
                    (
                      array_answered,
                      (
                        printing_answered,
                        (reading_answered, (signs_answered, tt)),
                      ),
                    ),
                  ),
                ),
              ),
            ),
          ),
        ),
      ),
    ),
  ),
)
