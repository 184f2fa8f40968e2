-- The texts 7 of some programs are complete.
use Rattle.gier_tree.specs.CodeExamples.{code_sums_7, code_loops_7, code_arrays_7, code_calls_7, code_formals_7, code_own_7}
use Rattle.gier_tree.specs.Complete.{IsComplete}

pub record AreComplete : Type 0 where
  pub sums : IsComplete 1000 code_sums_7
  pub loops : IsComplete 1000 code_loops_7
  pub arrays : IsComplete 1000 code_arrays_7
  pub calls : IsComplete 1000 code_calls_7
  pub formals : IsComplete 1000 code_formals_7
  pub own : IsComplete 1000 code_own_7
