use Rattle.std.proofs.Common.{◌∷◌, [], refl}
use Rattle.gier_text.specs.TablesModel.{tables_model}
use Rattle.gier_text.proofs.DriveLoop.{writes_none}
use Rattle.gier_pass7.specs.declared.pass.Pass7.{Pass7}
use Rattle.gier_pass7.proofs.InvariantSteps.{stands_more, stands_waiting}
use Rattle.gier_pass7.proofs.pass.Pass7Pass.take.Goals as goal

pub returns-then-self-gt0-clause-ok : goal.returns-then-self-gt0-clause-ok
returns-then-self-gt0-clause-ok g c =
    let pass = c.args.self.now in
    let new : Pass7 = record { left = pass.left; work = c.step.new.self } in
    ([], writes_none (g.T.Text.view c.args.out.now c.args.store.now), λ read written stands. stands_waiting pass new (tables_model c.args.tables.now) (tables_model c.step.new.tables) read (c.args.s.symbol ∷ []) written stands c.step.ensures refl)

pub returns-in-Ok-clause-ok : goal.returns-in-Ok-clause-ok
returns-in-Ok-clause-ok g c =
    let pass = c.args.self.now in
    let new : Pass7 = record { left = c.in-Ok.left; work = c.step.new.self } in
    let sent = c.in-Ok.ensures.written in
    (sent.list, sent.writes, λ read written stands. stands_more pass new (tables_model c.args.tables.now) (tables_model c.step.new.tables) (tables_model c.send.new.tables) read (c.args.s.symbol ∷ []) written sent.list stands c.step.ensures c.send.ensures.lists sent.spent sent.letters)
