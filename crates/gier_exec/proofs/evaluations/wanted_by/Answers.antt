use Rattle.std.proofs.Common.{length, ◌∙◌}
use Rattle.gier_names.specs.Evaluations.{number_of}
use Rattle.gier_exec.specs.Rows.{regs_of}
use Rattle.gier_exec.proofs.FrameReads.{led, led_on}
use Rattle.gier_exec.proofs.Evaluatings.{pass_cell, pass_go, pass_row, pass_gets, pass_is}
use Rattle.gier_exec.proofs.evaluations.wanted_by.Goals as goal

pub returns-in-Ok : goal.returns-in-Ok
returns-in-Ok c = record {
  row = λ code input m l a entered is.
      let size = length c.args.frames.now.words in
      let regs = regs_of m c.args.frames.now input in
      rw (pass_is c.args.operation c.in_default.not-Value c.in_default.not-Place c.in_default.not-NameL is)
      (led_on _ _ (λ wanted. pass_cell code size regs l a (number_of wanted)) c.unless_label.result
      (pass_row code size regs l a ∙ c.in-Ok.ensures.row code input m (λ wanted. pass_go code size regs l a wanted) entered)
      (pass_gets code size regs l a c.in-Ok.wanted c.unless_label.result c.unless_label.ensures.label c.unless_label.ensures.other));
}

pub returns-in-Err : goal.returns-in-Err
returns-in-Err c = record {
  row = λ code input m l a entered is.
      let size = length c.args.frames.now.words in
      let regs = regs_of m c.args.frames.now input in
      rw (pass_is c.args.operation c.in_default.not-Value c.in_default.not-Place c.in_default.not-NameL is)
      (led _ _ c.in-Err.stop (pass_row code size regs l a) (c.in-Err.ensures.row code input m (λ wanted. pass_go code size regs l a wanted) entered));
}
