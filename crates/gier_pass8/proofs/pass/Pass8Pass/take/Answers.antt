use Rattle.std.proofs.Common.{◌<◌, ◌+◌, ◌*◌, arith, refl, subst}
use Rattle.gier_symbol.specs.declared.symbol.Symbol.{Symbol}
use Rattle.gier_text.specs.TablesModel.{tables_model}
use Rattle.gier_text.specs.Outbox.{if_any}
use Rattle.gier_text.proofs.DriveLoop.{OnOk-map}
use Rattle.gier_pass8.specs.declared.pass.Pass8.{Pass8}
use Rattle.gier_pass8.proofs.FromTheEndSteps.{IsTaken}
use Rattle.gier_pass8.proofs.InvariantSteps.{stands_more}
use Rattle.gier_pass8.proofs.pass.Pass8Pass.take.Goals as goal

pub returns-clause-ok : goal.returns-clause-ok
returns-clause-ok g c =
    let pass = c.args.self.now in
    let new : Pass8 = record { taken = pass.taken + 1; work = c.step-written.new.self } in
    let fits : pass.taken < 24 * pass.work.bytes + 64 = omega (arith, c.if-self-capacity.false, c.capacity.ensures) in
    let room = 20 * pass.work.bytes + 64 in
    let old = tables_model c.args.tables.now in
    let tables = tables_model c.step-written.new.tables in
    let step : IsTaken room c.symbol-symbol.result pass.work.place c.step-written.new.self.place old tables c.step-written.result = record {
      labels = c.step-written.ensures.labels;
      needs = c.step-written.ensures.needs;
      moved = c.step-written.ensures.place;
      symbol = c.step-written.ensures.value;
    } in
    let taken : IsTaken room c.args.s.symbol pass.work.place c.step-written.new.self.place old tables c.step-written.result =
    subst (λ (s : Symbol). IsTaken room s pass.work.place c.step-written.new.self.place old tables c.step-written.result)
    c.symbol-symbol.ensures.value step in
    OnOk-map c.write_any.result _ _ (λ wrote. (
      if_any c.step-written.result,
      wrote,
      λ read written stands.
          stands_more pass new (tables_model c.args.tables.now) (tables_model c.step-written.new.tables) read written c.args.s.symbol c.step-written.result stands
          fits refl c.step-written.ensures.bytes c.step-written.ensures.lists.lists c.step-written.ensures.written taken,
    )) c.write_any.ensures.written
