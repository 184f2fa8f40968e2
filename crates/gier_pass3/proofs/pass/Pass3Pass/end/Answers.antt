use Rattle.std.proofs.Common.{arith, ap, length, List, ◌*◌, ◌+◌}
use Rattle.gier_symbol.specs.declared.symbol.Symbol.{Symbol}
use Rattle.gier_text.specs.TablesModel.{tables_model}
use Rattle.gier_text.proofs.DriveLoop.{OnOk-map}
use Rattle.gier_pass3.specs.Lists.{ready_by}
use Rattle.gier_pass3.proofs.Potentials.{length_weight}
use Rattle.gier_pass3.proofs.InvariantSteps.{less_more, both_ok, relates_whole}
use Rattle.gier_pass3.proofs.pass.Pass3Pass.end.Goals as goal

pub returns-clause-roomy : goal.returns-clause-roomy
returns-clause-roomy g c = λ whole full.
    less_more (g.T.Text.view c.args.out.now c.args.store.now) _ (8 * c.args.self.now.bytes + 64) (c.flush.ensures.roomy full) (omega (arith, whole.counted, ap (λ (l : List Symbol). length l) whole.so_far.none_ready, length_weight whole.written, whole.so_far.light, whole.so_far.taken, whole.so_far.ready.within))

pub returns-clause-bounded : goal.returns-clause-bounded
returns-clause-bounded g c = λ whole.
    OnOk-map c.flush.result _ _ (λ wrote. omega (arith, wrote.count, whole.counted, ap (λ (l : List Symbol). length l) whole.so_far.none_ready, length_weight whole.written, whole.so_far.light, whole.so_far.taken, whole.so_far.ready.within)) c.flush.ensures.written

pub returns-clause-ok : goal.returns-clause-ok
returns-clause-ok g c =
    let pass = c.args.self.now in
    let t = tables_model c.args.tables.now in
    both_ok c.flush.result _ _ _ (λ wrote emptied. (ready_by t, wrote, λ read written stands. rw emptied (relates_whole pass t read written stands))) c.flush.ensures.written c.flush.ensures.emptied
