use Rattle.std.proofs.Common.{ap, subst}
use Rattle.std.specs.Prelude.{Err}
use Rattle.gier_text.specs.TablesModel.{TablesModel}
use Rattle.gier_pass1.specs.Program.{Takes}
use Rattle.gier_front.proofs.Early.{counted, first_ok, first_long, one_added}
use Rattle.gier_front.proofs.passes.read_tape.Goals as goal

pub returns-in-Ok-no_faults-clause-early : goal.returns-in-Ok-no_faults-clause-early
returns-in-Ok-no_faults-clause-early g c = λ tape is blank.
    first_ok (g.S.Source.left c.args.tape.now) tape c.read.new.tables.faults.items (g.T.Text.view c.args.text.now c.args.store.now) (g.T.Text.view c.read.new.out c.read.new.store) (g.T.Text.journal c.args.store.now) (g.T.Text.journal c.read.new.store) c.in-Ok.bytes is c.in-Ok.ensures.told c.in-Ok.ensures.taken.0 c.in-Ok-no_faults.ensures.none blank

pub returns-in-Err-TooLong-clause-early : goal.returns-in-Err-TooLong-clause-early
returns-in-Err-TooLong-clause-early g c = λ tape is blank.
    let none = ap (λ (t : TablesModel). t.faults) c.drop_faults.ensures in
    let added = ap (λ (t : TablesModel). t.faults) c.add_fault.ensures.inserted in
    let one = one_added c.drop_faults.new.self.faults.items c.add_fault.new.self.faults.items c.add_fault.ensures.at _ none added in
    first_long (g.S.Source.left c.args.tape.now) tape c.add_fault.new.self.faults.items is (subst (λ stop. Takes (Err stop) (g.S.Source.left c.args.tape.now) (g.S.Source.left c.read.new.tape)) c.in-Err-TooLong.field-0-is c.in-Err-TooLong.ensures.taken).1 one

pub returns-in-Ok-no_faults-clause-counted : goal.returns-in-Ok-no_faults-clause-counted
returns-in-Ok-no_faults-clause-counted g c = λ tape is.
    counted (g.S.Source.left c.args.tape.now) tape c.read.new.tables.faults.items (g.T.Text.view c.args.text.now c.args.store.now)
    (g.T.Text.view c.read.new.out c.read.new.store) (g.T.Text.journal c.args.store.now) (g.T.Text.journal c.read.new.store) c.in-Ok.bytes is
    c.in-Ok.ensures.told
