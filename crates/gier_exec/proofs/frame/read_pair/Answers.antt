use Rattle.std.proofs.Common.{◌+◌, length, ◌∙◌}
use Rattle.gier_order.specs.Flat.Rows.{word_at}
use Rattle.gier_exec.specs.Rows.{regs_of}
use Rattle.gier_exec.proofs.FrameReads.{led, pair_at}
use Rattle.gier_exec.proofs.frame.read_pair.Goals as goal

pub returns-in-Err-clause-row : goal.returns-in-Err-clause-row
returns-in-Err-clause-row c = λ code input m go entered.
    (c.in-Err.ensures.row code input m (pair_at code (length c.args.frames.now.words) (regs_of m c.args.frames.now input) go) entered)

pub returns-in-Err-read-clause-row : goal.returns-in-Err-read-clause-row
returns-in-Err-read-clause-row c = λ code input m go entered.
    let size = length c.args.frames.now.words in
    let regs = regs_of m c.args.frames.now input in
    led _ _ c.in-Err-read.stop (c.in-Ok.ensures.row code input m (pair_at code size regs go) entered)
    ((c.in-Err-read.ensures.row code input m (λ first. word_at code size regs (c.in-Ok.place + 1) (λ second. go first second)) entered))

pub returns-in-Ok-read-2-clause-row : goal.returns-in-Ok-read-2-clause-row
returns-in-Ok-read-2-clause-row c = λ code input m go entered.
    let size = length c.args.frames.now.words in
    let regs = regs_of m c.args.frames.now input in
    c.in-Ok.ensures.row code input m (pair_at code size regs go) entered
    ∙ c.in-Ok-read.ensures.row code input m (λ first. word_at code size regs (c.in-Ok.place + 1) (λ second. go first second)) entered
    ∙ c.in-Ok-read-2.ensures.row code input m (λ second. go c.in-Ok-read.word second) entered

pub returns-in-Err-read-2-clause-row : goal.returns-in-Err-read-2-clause-row
returns-in-Err-read-2-clause-row c = λ code input m go entered.
    let size = length c.args.frames.now.words in
    let regs = regs_of m c.args.frames.now input in
    led _ _ c.in-Err-read-2.stop
    (c.in-Ok.ensures.row code input m (pair_at code size regs go) entered
    ∙ c.in-Ok-read.ensures.row code input m (λ first. word_at code size regs (c.in-Ok.place + 1) (λ second. go first second)) entered)
    ((c.in-Err-read-2.ensures.row code input m (λ second. go c.in-Ok-read.word second) entered))
