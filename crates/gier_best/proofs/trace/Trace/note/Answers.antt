use Rattle.std.proofs.Common.{◌≡◌, true, false, sym, subst, arith}
use Rattle.gier_best.specs.Plan.{is_track}
use Rattle.gier_best.specs.TraceModel.{Traced, AreTracks}
use Rattle.gier_best.proofs.Notes.{noted_again, noted_change, change_tracks}
use Rattle.gier_best.proofs.trace.Trace.note.Goals as goal

pub returns-then-not-is_last-clause-noted : goal.returns-then-not-is_last-clause-noted
returns-then-not-is_last-clause-noted c = λ refs noted.
    let other : is_track c.args.track c.args.self.now.last ≡ false = first_of (cc, grind arith) in
    rw c.change.ensures (noted_change c.args.self.now refs c.args.track other noted)

pub returns-then-not-is_last-clause-tracks : goal.returns-then-not-is_last-clause-tracks
returns-then-not-is_last-clause-tracks c = λ is all.
    let P : Traced → Type 0 = λ trace. AreTracks trace in
    subst P (sym c.change.ensures) (change_tracks c.args.self.now c.args.track is all)

pub returns-else-not-is_last-clause-noted : goal.returns-else-not-is_last-clause-noted
returns-else-not-is_last-clause-noted c = λ refs noted.
    let same : is_track c.args.track c.args.self.now.last ≡ true = first_of (cc, grind arith) in
    noted_again c.args.self.now refs c.args.track same noted
