use Rattle.std.proofs.Common.{length}
use Rattle.gier_order.specs.Flat.Rows.{word_at}
use Rattle.gier_exec.specs.Rows.{regs_of}
use Rattle.gier_exec.proofs.FrameReads.{led_on}
use Rattle.gier_exec.proofs.kinds.formal_address.Goals as goal

pub returns-in-Ok-clause-row : goal.returns-in-Ok-clause-row
returns-in-Ok-clause-row c = λ code input m go entered.
    led_on _ _ go c.read.result (c.in-Ok.ensures.row code input m (λ p. word_at code (length c.args.frames.now.words) (regs_of m c.args.frames.now input) p go) entered)
    (c.read.ensures.row code input m go entered)

pub returns-in-Err-clause-row : goal.returns-in-Err-clause-row
returns-in-Err-clause-row c = λ code input m go entered.
    c.in-Err.ensures.row code input m (λ p. word_at code (length c.args.frames.now.words) (regs_of m c.args.frames.now input) p go) entered
