use Rattle.std.proofs.Common.{◌≡◌, ◌≤◌, ◌+◌, ◌∙◌, ap, refl, arith}
use Rattle.gier_symbol.specs.declared.symbol.Symbol.{Symbol}
use Rattle.gier_text.specs.Potential.{potential_of}
use Rattle.gier_text.specs.TablesModel.{tables_model}
use Rattle.gier_text.specs.Lists.{list_at}
use Rattle.gier_text.specs.Outbox.{outbox_symbols}
use Rattle.gier_text.proofs.DriveLoop.{OnOk-map}
use Rattle.gier_pass6.specs.StateInvariants.{most}
use Rattle.gier_pass6.proofs.InvariantSteps.{stands_more, not_heavier, within_most, on_both, less_most}
use Rattle.gier_pass6.proofs.pass.Pass6Pass.take.Goals as goal

pub returns-then-potential-room-clause-sound : goal.returns-then-potential-room-clause-sound
returns-then-potential-room-clause-sound g c = λ e.
    not_heavier c.args.self.now (tables_model c.args.tables.now) (g.T.Text.view c.args.out.now c.args.store.now) c.args.s.symbol c.potential_of-potential.result c.room.result e (c.potential_of-potential.ensures ∙ ap (λ (x : Symbol). potential_of 5 x.tag) c.symbol-symbol.ensures.value) c.room.ensures c.if-potential-room.true

pub returns-clause-ok : goal.returns-clause-ok
returns-clause-ok g c =
    let pass = c.args.self.now in
    let t = tables_model c.args.tables.now in
    let u = tables_model c.step.new.tables in
    let more = c.potential_of-potential.result in
    let weighs : more ≡ potential_of 5 c.args.s.symbol.tag = c.potential_of-potential.ensures ∙ ap (λ (x : Symbol). potential_of 5 x.tag) c.symbol-symbol.ensures.value in
    let fits : pass.potential + more ≤ most pass.work.bytes = omega (arith, c.room.ensures, c.if-potential-room.false, c.requires.stands.so_far.within) in
    on_both c.flush.result (λ wrote emptied. (outbox_symbols (list_at u.lists 0), wrote, λ read written stands. stands_more pass (record { potential = pass.potential + more; work = c.step.new.self }) t u (tables_model c.flush.new.tables) read written c.args.s.symbol more stands weighs fits c.step.ensures emptied refl)) c.flush.ensures.written c.flush.ensures.emptied

pub returns-clause-roomy : goal.returns-clause-roomy
returns-clause-roomy g c = λ e full.
    let pass = c.args.self.now in
    let more = c.potential_of-potential.result in
    let fits : pass.potential + more ≤ most pass.work.bytes = omega (arith, c.room.ensures, c.if-potential-room.false, e.so_far.within) in
    less_most (g.T.Text.view c.args.out.now c.args.store.now) _ _ (within_most pass (tables_model c.args.tables.now) (tables_model c.step.new.tables) e.read e.written _ more c.step.new.self.bytes c.step.new.self.potential_left e.so_far fits c.step.ensures e.counted) (c.flush.ensures.roomy full)

pub returns-clause-bounded : goal.returns-clause-bounded
returns-clause-bounded g c = λ e.
    let pass = c.args.self.now in
    let more = c.potential_of-potential.result in
    let fits : pass.potential + more ≤ most pass.work.bytes = omega (arith, c.room.ensures, c.if-potential-room.false, e.so_far.within) in
    let few = within_most pass (tables_model c.args.tables.now) (tables_model c.step.new.tables) e.read e.written _ more c.step.new.self.bytes c.step.new.self.potential_left e.so_far fits c.step.ensures e.counted in
    OnOk-map c.flush.result _ _ (λ wrote. omega (arith, wrote.count, few)) c.flush.ensures.written
