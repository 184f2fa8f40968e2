use Rattle.std.proofs.Common.{ℕ, length, arith, ◌∙◌}
use Rattle.gier_order.specs.Flat.Row.{Row}
use Rattle.gier_order.specs.Flat.Rows.{switches}
use Rattle.gier_exec.specs.Rows.{regs_of}
use Rattle.gier_exec.proofs.FrameReads.{led, base_only}
use Rattle.gier_exec.proofs.Evaluatings.{switch_is}
use Rattle.gier_exec.proofs.evaluations.find_table.Goals as goal

pub returns-in-SwForm-clause-row : goal.returns-in-SwForm-clause-row
returns-in-SwForm-clause-row c = λ code input m entered is.
    rw c.in-SwForm.is (c.read_pair.ensures.row code input m (λ table outer. switches code (length c.args.frames.now.words) (regs_of m c.args.frames.now input) table outer) entered)

pub returns-in-Ok : goal.returns-in-Ok
returns-in-Ok c = record {
  row = λ code input m entered is.
      let size = length c.args.frames.now.words in
      let regs = regs_of m c.args.frames.now input in
      let go : ℕ → Row = λ outer. switches code size regs c.args.order.address outer in
      rw (switch_is c.args.operation c.in_default.not-SwForm is) (rw c.from.ensures (
      base_only code input m c.args.frames.now c.args.order.level go ∙ c.in-Ok.ensures.row code input m go entered));
  small = omega (arith, c.from.ensures);
}

pub returns-in-Err : goal.returns-in-Err
returns-in-Err c = record {
  row = λ code input m entered is.
      let size = length c.args.frames.now.words in
      let regs = regs_of m c.args.frames.now input in
      let go : ℕ → Row = λ outer. switches code size regs c.args.order.address outer in
      rw (switch_is c.args.operation c.in_default.not-SwForm is)
      (led _ _ c.in-Err.stop (base_only code input m c.args.frames.now c.args.order.level go) (c.in-Err.ensures.row code input m go entered));
  small = tt;
}
