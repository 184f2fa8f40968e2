use Rattle.std.proofs.Common.{refl}
use Rattle.gier_tree.specs.CodeExamples.{code_sums_7, code_loops_7, code_arrays_7, code_calls_7, code_formals_7, code_own_7}
use Rattle.gier_pass8.proofs.Complete.{complete}
use Rattle.gier_pass8.proofs.laws.law_complete.Goals as goal

pub returns : goal.returns
returns c = record {
  sums = complete 1000 code_sums_7 refl refl;
  loops = complete 1000 code_loops_7 refl refl;
  arrays = complete 1000 code_arrays_7 refl refl;
  calls = complete 1000 code_calls_7 refl refl;
  formals = complete 1000 code_formals_7 refl refl;
  own = complete 1000 code_own_7 refl refl;
}
