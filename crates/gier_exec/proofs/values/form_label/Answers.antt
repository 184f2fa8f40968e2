use Rattle.std.proofs.Common.{ℕ, length, refl, ◌∙◌}
use Rattle.gier_order.specs.Flat.Row.{Row}
use Rattle.gier_order.specs.Flat.Rows.{on}
use Rattle.gier_exec.specs.Rows.{regs_of}
use Rattle.gier_exec.proofs.FrameReads.{led, base_only}
use Rattle.gier_exec.proofs.RowResults.{on_is, refused_halts}
use Rattle.gier_exec.proofs.values.form_label.Goals as goal

pub returns-in-Ok-clause-row : goal.returns-in-Ok-clause-row
returns-in-Ok-clause-row c = λ code input entered next.
    let s = c.args.frames.now in
    let m = c.args.m.now in
    let size = length s.words in
    let go : ℕ → Row = λ b. on code size (regs_of m s input) (record (regs_of m s input) { r = c.args.order.address; q = b }) in
    base_only code input m s c.args.order.level go
    ∙ c.in-Ok.ensures.row code input m go entered
    ∙ on_is code size (regs_of m s input) (record (regs_of m s input) { r = c.args.order.address; q = c.in-Ok.base }) next
    ∙ rw c.set_r.ensures (rw c.from.ensures (rw c.set_q.ensures refl))

pub returns-in-Err-clause-row : goal.returns-in-Err-clause-row
returns-in-Err-clause-row c = λ code input entered next.
    let s = c.args.frames.now in
    let m = c.args.m.now in
    let size = length s.words in
    let go : ℕ → Row = λ b. on code size (regs_of m s input) (record (regs_of m s input) { r = c.args.order.address; q = b }) in
    refused_halts _ _ c.in-Err.stop (led _ _ c.in-Err.stop (base_only code input m s c.args.order.level go) (c.in-Err.ensures.row code input m go entered))
