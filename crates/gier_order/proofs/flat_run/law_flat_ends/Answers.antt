use Rattle.gier_order.proofs.flat_run.law_flat_ends.Goals as goal
use Rattle.gier_order.proofs.Flat.Ends.{run_longer, run_ends, flat_is}

pub returns : goal.returns
returns c = record {
  ends = run_ends;
  longer = λ code size k n le. run_longer code size k n le;
  gives = λ code start input steps size moves final over. flat_is code size start input steps moves final over;
}
