use Rattle.std.proofs.Common.{refl}
use Rattle.gier_job.proofs.laws.law_told.Goals as goal
use Rattle.gier_symbol.specs.Words.{tag_named}
use Rattle.gier_sample.specs.Sample.{head_text, tail_text}
use Rattle.gier_agree.specs.Packed.{kinds_word, kind_in}
use Rattle.gier_order.specs.Table.{operations, operation_at}
use Rattle.std.specs.Fmt.{digits}

pub returns : goal.returns
unfolding tag_named head_text tail_text digits kinds_word kind_in operations operation_at
returns c = record {
  printed = (refl, refl);
  repeated = (refl, refl);
  stopped = (refl, refl);
  out_of_steps = (refl, refl);
  at_line_end = (refl, refl);
  counted = (refl, refl);
  taken = (refl, refl);
}
