use Rattle.std.proofs.Common.{refl, arith}
use Rattle.gier_job.proofs.laws.law_calls.Goals as goal
use Rattle.gier_symbol.specs.Words.{tag_named}
use Rattle.gier_sample.specs.Sample.{head_text, tail_text}
use Rattle.gier_agree.specs.Packed.{kinds_word, kind_in}
use Rattle.gier_order.specs.Table.{operations, operation_at}
use Rattle.std.specs.Fmt.{digits}

pub returns : goal.returns
unfolding tag_named head_text tail_text digits kinds_word kind_in operations operation_at
returns c = record {
  ended = record { ended = refl; put = refl; took = refl };
  broken_off = record { put = (1, refl); count = 37; within = omega arith; took = refl };
  nothing_done = (refl, refl);
  wrong_word = record { ended = refl; put = refl; took = refl };
}
