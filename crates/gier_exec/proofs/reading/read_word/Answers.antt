use Rattle.std.proofs.Common.{◌≡◌, ◌+◌, ◌/◌, ◌%◌, Some, ap, sym, subst, arith, refl}
use Rattle.std.specs.Prelude.{slice_get, slice_index}
use Rattle.gier_drum.specs.Drum.{GivesTrack}
use Rattle.gier_exec.proofs.Referrings.{refers_kept, after_ok, after_err, track_is}
use Rattle.gier_places.specs.Contents.{Refers, is_held}
use Rattle.gier_exec.proofs.Readings.{reads_by, refers_of, one_at_most}
use Rattle.gier_exec.proofs.reading.read_word.Goals as goal

pub returns-clause-reads : goal.returns-clause-reads
returns-clause-reads g c =
    let old = c.args.pager.now.places.now in
    let new = c.refer.follows.lender-at-none in
    let track = c.args.object.now.first_track + c.args.address / 40 in
    let refers : Refers old track new = refers_of (g.D.Drum.tracks c.args.pager.now.drum.now) old new track c.refer.result c.in-Ok.words c.refer.follows.holds-at-none c.in-Ok.is in
    record {
      room = c.in-Ok.ensures.room;
      tracks = c.in-Ok.ensures.tracks;
      journal = reads_by (is_held old track) (g.D.Drum.journal c.args.pager.now.drum.now) (g.D.Drum.journal c.refer.new.drum) track (λ there. ap g.D.Drum.journal (c.in-Ok.ensures.hit there).1) c.in-Ok.ensures.read;
      faults = c.in-Ok.ensures.cause.later;
      places = refers.places;
      transfers = one_at_most (is_held old track) old.transfers new.transfers refers.transfers;
      references = omega (arith, c.refer-2.ensures.one_more);
      settings = c.note.ensures.settings;
      noted = λ least were. c.note.ensures.tracks (omega (arith, least, c.requires.within)) were;
    }

pub returns-clause-refers : goal.returns-clause-refers
returns-clause-refers g c =
    let track = c.args.object.now.first_track + c.args.address / 40 in
    let after = after_ok (g.D.Drum.tracks c.args.pager.now.drum.now) c.args.pager.now.places.now c.refer.follows.lender-at-none track c.refer.result c.in-Ok.words c.refer.follows.holds-at-none c.in-Ok.is in
    record {
      agrees = λ h. rw c.in-Ok.ensures.tracks (after.1 h);
      recent = c.refer-2.ensures.stands;
      noted = c.note.ensures.noted;
      stands = after.0.stands;
      reads = λ before journal stands h. c.in-Ok.ensures.reads before journal stands h;
    }

pub returns-clause-word : goal.returns-clause-word
returns-clause-word g c = λ tracks told agrees.
    let track = c.args.object.now.first_track + c.args.address / 40 in
    let given : GivesTrack (g.D.Drum.tracks c.args.pager.now.drum.now) track c.in-Ok.words.now = c.in-Ok.ensures.given (rw told agrees) in
    let got : slice_get tracks track ≡ Some c.in-Ok.words.now = subst (λ t. GivesTrack t track c.in-Ok.words.now) told given in
    ap (λ ws. slice_index ws (c.args.address % 40)) (sym (track_is tracks track c.in-Ok.words.now got))

pub returns-in-Err-clause-refers : goal.returns-in-Err-clause-refers
returns-in-Err-clause-refers g c =
    let track = c.args.object.now.first_track + c.args.address / 40 in
    refers_kept c.args.object.now _ _ c.in-Err.ensures.tracks c.in-Err.ensures.unlogged
    (after_err (g.D.Drum.tracks c.args.pager.now.drum.now) c.args.pager.now.places.now c.refer.follows.lender-at-none track c.refer.result c.in-Err.failed c.refer.follows.holds-at-none c.in-Err.is) refl refl
