use Rattle.gier_pass9.proofs.Pages.{apart_same}
use Rattle.gier_pass9.proofs.writer.finish.Goals as goal

pub returns-in-Ok-clause-text : goal.returns-in-Ok-clause-text
returns-in-Ok-clause-text g c =
    let same = c.requires.same in
    g.met.T.Text.own c.args.text.now c.args.drum.now c.close.new.drum
    (rw (same.same_tracks c.args.drum.now, same.same_tracks c.close.new.drum)
    (apart_same _ _ _ _ _ _ c.close.ensures.tracks c.requires.apart))
