use Rattle.std.proofs.Common.{◌∙◌, ◌+◌, ◌++◌, ap, arith, drop}
use Rattle.gier_text.specs.TablesModel.{tables_model}
use Rattle.gier_pass3.specs.Lists.{ready_by}
use Rattle.gier_text3.specs.PurePass.{actions_on}
use Rattle.gier_pass3.specs.Refinement.{writer_state_in}
use Rattle.gier_grammar.specs.declared.production.Action.TheVariants.{Open}
use Rattle.gier_tree.specs.declared.construct.Construct.TheVariants.{Program}
use Rattle.gier_pass3.proofs.Steps.{actions_next}
use Rattle.gier_pass3.proofs.Potentials.{costs_next}
use Rattle.gier_pass3.proofs.pass.Pass3.perform_all.Goals as goal

pub loop-action-preserved : goal.loop-action-preserved
loop-action-preserved c =
    let inv = c.loop-action.invariant in
    let change = c.perform.ensures.preserves in
    let moves = change.state in
    let actions = c.args.actions.now in
    let at = c.loop-action.action-index in
    let t = tables_model c.loop-action.tables in
    record {
      holds = moves.holds;
      light = omega (arith, inv.light, moves.total_potential, costs_next actions at (Open Program) c.loop-action-test.true);
      grown = omega (arith, inv.grown, change.owned);
      owned = omega (arith, inv.owned, change.counted, costs_next actions at (Open Program) c.loop-action-test.true);
      wrote = λ next. inv.wrote next ∙ ap (λ x. ready_by t ++ x) (actions_next actions at (Open Program) c.args.s (writer_state_in c.loop-action.self t) next c.loop-action-test.true) ∙ c.perform.ensures.wrote (λ e. actions_on (drop (at + 1) actions) c.args.s e next);
      deep = omega (arith, inv.deep, moves.depth);
      stack = change.stack ∙ inv.stack;
      bytes = moves.bytes ∙ inv.bytes;
      read = moves.read ∙ inv.read;
      stopped = moves.stopped ∙ inv.stopped;
      limit = moves.limit ∙ inv.limit;
      faults = moves.faults ∙ inv.faults;
    }
