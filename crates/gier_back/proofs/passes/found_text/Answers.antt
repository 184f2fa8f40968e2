use Rattle.gier_text.specs.Own.{found_on}
use Rattle.gier_back.proofs.passes.found_text.Goals as goal

pub returns-clause-held : goal.returns-clause-held
returns-clause-held g c = λ drum.
    let t = c.again.result in
    let whole = c.again.ensures.whole in
    rw (c.again.ensures.place.0, c.first_track.ensures, whole.0) (found_on (g.D.Drum.tracks drum) 0 t.loaded t.buffer c.args.fronted.now.symbols (t.found whole.1 whole.2).0)
