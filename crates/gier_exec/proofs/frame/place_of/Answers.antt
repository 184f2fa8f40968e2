use Rattle.std.proofs.Common.{◌≡◌, Ok, sym, ◌∙◌}
use Rattle.gier_frames.specs.Walk.{cell_of}
use Rattle.gier_exec.proofs.FrameReads.{cell_found, cell_refused, cell_small}
use Rattle.gier_exec.proofs.frame.place_of.Goals as goal

pub returns-in-Ok-clause-row : goal.returns-in-Ok-clause-row
returns-in-Ok-clause-row c = λ code input m go entered.
    let s = c.args.frames.now in
    let found : Ok c.in-Ok.place ≡ cell_of s c.args.level c.args.address = sym c.in-Ok.is ∙ c.cell.ensures.value in
    rw (c.as_word.ensures.same (cell_small s c.args.level c.args.address c.in-Ok.place c.cell.ensures.kept found c.ranges.address.fits entered))
    (cell_found s c.args.level c.args.address c.in-Ok.place found code input m go entered)

pub returns-in-Err-clause-row : goal.returns-in-Err-clause-row
returns-in-Err-clause-row c = λ code input m go entered.
    rw c.from.ensures (cell_refused c.args.frames.now c.args.level c.args.address c.in-Err.halt (sym c.in-Err.is ∙ c.cell.ensures.value) code input m go entered)
