use Rattle.std.proofs.Common.{refl, []}
use Rattle.gier_job.specs.Journal.{works_from, writes_object, writes_text}
use Rattle.gier_job.proofs.Journals.{in_turn, works_in_turn, equal_lengths}
use Rattle.gier_job.proofs.laws.law_journals.Goals as goal
use Rattle.gier_symbol.specs.Words.{tag_named}
use Rattle.gier_sample.specs.Sample.{head_text, tail_text}
use Rattle.gier_agree.specs.Packed.{kinds_word, kind_in}
use Rattle.gier_order.specs.Table.{operations, operation_at}
use Rattle.std.specs.Fmt.{digits}

pub returns : goal.returns
unfolding tag_named head_text tail_text digits kinds_word kind_in operations operation_at
returns c = record {
  run =
      let works = works_from 1 [] (equal_lengths 8 1) (writes_object 1) in
      record { compiling = in_turn works; compiled = works_in_turn works; all = refl };
  checked =
      let works = works_from 1 [] (equal_lengths 5 1) (writes_text 6 1) in
      record { compiling = in_turn works; compiled = works_in_turn works; all = refl };
  searched =
      let works = works_from 1 [] (equal_lengths 8 21) (writes_object 1) in
      record { compiling = in_turn works; compiled = works_in_turn works; all = refl };
}
