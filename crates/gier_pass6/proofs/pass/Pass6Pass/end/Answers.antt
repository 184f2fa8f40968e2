use Rattle.std.proofs.Common.{refl}
use Rattle.gier_text.specs.TablesModel.{tables_model}
use Rattle.gier_text.specs.Lists.{list_at}
use Rattle.gier_text.specs.Outbox.{outbox_symbols}
use Rattle.gier_text.proofs.DriveLoop.{OnOk-map}
use Rattle.gier_pass6.proofs.InvariantSteps.{relates_end}
use Rattle.gier_pass6.proofs.pass.Pass6Pass.end.Goals as goal

pub returns-clause-ok : goal.returns-clause-ok
returns-clause-ok g c =
    OnOk-map c.flush.result _ _ (λ wrote. (outbox_symbols (list_at (tables_model c.args.tables.now).lists 0), wrote, λ read written stands. relates_end c.args.self.now c.args.self.now.work.bytes (tables_model c.args.tables.now) read written refl stands)) c.flush.ensures.written
