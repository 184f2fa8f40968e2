use Rattle.std.proofs.Common.{◌≡◌, Ok, sym, ◌∙◌}
use Rattle.gier_frames.specs.Walk.{element_of}
use Rattle.gier_exec.proofs.ArrayRows.{element_row, element_small}
use Rattle.gier_exec.proofs.values.element.Goals as goal

pub returns-in-Ok-clause-row : goal.returns-in-Ok-clause-row
returns-in-Ok-clause-row c = λ code input m entered next.
    let s = c.args.frames.now in
    let found : Ok c.in-Ok.place ≡ element_of s c.args.order.level c.args.order.address = sym c.in-Ok.is ∙ c.index.ensures in
    rw (c.as_word.ensures.same (element_small s c.args.order.level c.args.order.address c.in-Ok.place c.requires.kept entered found))
    (element_row code input m s c.args.order.level c.args.order.address (Ok c.in-Ok.place) next entered found)
