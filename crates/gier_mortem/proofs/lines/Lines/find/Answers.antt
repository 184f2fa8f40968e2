use Rattle.std.proofs.Common.{refl}
use Rattle.gier_mortem.proofs.Searching.{left_whole}
use Rattle.gier_mortem.proofs.lines.Lines.find.Goals as goal

pub returns-in-Ok-clause-lines : goal.returns-in-Ok-clause-lines
returns-in-Ok-clause-lines g c = λ list is.
    let text = c.again-text.result in
    c.search.ensures.lines list (left_whole (g.D.Drum.tracks c.args.drum.now) text.first text.loaded text.buffer text.count c.args.first_track c.args.symbols _ list c.again-text.ensures.on_drum c.again-text.ensures.place.0 c.again-text.ensures.whole.0 c.in-Ok.ensures.rewound.left is)

pub returns-in-Ok-clause-spoilt : goal.returns-in-Ok-clause-spoilt
returns-in-Ok-clause-spoilt g c = λ list is.
    let text = c.again-text.result in
    c.search.ensures.spoilt list refl (left_whole (g.D.Drum.tracks c.args.drum.now) text.first text.loaded text.buffer text.count c.args.first_track c.args.symbols _ list c.again-text.ensures.on_drum c.again-text.ensures.place.0 c.again-text.ensures.whole.0 c.in-Ok.ensures.rewound.left is)
