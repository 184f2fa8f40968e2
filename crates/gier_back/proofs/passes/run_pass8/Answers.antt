use Rattle.std.proofs.Common.{◌≡◌, reverse, arith}
use Rattle.gier_back.proofs.PassSteps.{short_back, writes_as}
use Rattle.gier_back.proofs.passes.run_pass8.Goals as goal

pub returns-clause-writes : goal.returns-clause-writes
returns-clause-writes g c = λ list held blank.
    let same : c.drive_turned.new.pass.work.bytes ≡ c.args.bytes = omega (arith, c.drive_turned.ensures.most, c.open-pass.ensures.bytes) in
    writes_as c.drive_turned.result _ (reverse list) c.drive_turned.new.pass.work.bytes c.args.bytes same (c.drive_turned.ensures.writes list held blank)

pub returns-clause-sound : goal.returns-clause-sound
returns-clause-sound g c = λ grows list held short room.
    let bytes = c.open-pass.ensures.bytes in
    c.drive_turned.ensures.sound grows list held (rw bytes (short_back 7 c.args.bytes list short)) (room.0, room.1, rw bytes room.2)
