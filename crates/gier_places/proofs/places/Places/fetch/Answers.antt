use Rattle.std.proofs.Common.{◌≡◌, ◌==◌, ◌∙◌, true, false, length, None, Some, sym, ap, arith}
use Rattle.std.specs.List.{position}
use Rattle.std.proofs.lemmas.List.{length-take}
use Rattle.gier_places.specs.HeldTracks.{HeldTrack}
use Rattle.gier_places.proofs.References.{found_in, absent_in, present, Refers-held, Refers-read, Agrees-held, Agrees-read, given-held, latest_words-take, LogsReads-held, LogsReads-read}
use Rattle.gier_places.proofs.MoveToFront.{length-moved}
use Rattle.gier_places.proofs.places.Places.fetch.Goals as goal

pub returns-in-Some-clause-after : goal.returns-in-Some-clause-after
returns-in-Some-clause-after g c =
    let old = c.args.self.now in
    let found : Some c.in-Some.place ≡ position (λ (h : HeldTrack). h.track == c.args.track) old.held = cc in
    let there = found_in c.args.track old.held c.in-Some.place found in
    let moves = c.bring_forward.ensures in (
      Refers-held old c.bring_forward.new.self c.args.track c.in-Some.place moves.places moves.transfers moves.held c.place_of.ensures.fits there.0 there.1,
      Agrees-held (g.D.Drum.tracks c.args.drum.now) old.held c.bring_forward.new.self.held c.in-Some.place moves.held there.0,
    )

pub returns-in-Some-clause-some : goal.returns-in-Some-clause-some
returns-in-Some-clause-some g c =
    let old = c.args.self.now in
    let found : Some c.in-Some.place ≡ position (λ (h : HeldTrack). h.track == c.args.track) old.held = cc in
    let there = found_in c.args.track old.held c.in-Some.place found in
    omega (arith, there.0, ap length c.bring_forward.ensures.held, length-moved old.held c.in-Some.place)

pub returns-in-Some-clause-given : goal.returns-in-Some-clause-given
returns-in-Some-clause-given g c =
    let old = c.args.self.now in
    let found : Some c.in-Some.place ≡ position (λ (h : HeldTrack). h.track == c.args.track) old.held = cc in
    let there = found_in c.args.track old.held c.in-Some.place found in
    given-held (g.D.Drum.tracks c.args.drum.now) old.held c.bring_forward.new.self.held c.args.track c.in-Some.place c.bring_forward.ensures.held there.0 there.1

pub returns-in-Some-clause-read : goal.returns-in-Some-clause-read
returns-in-Some-clause-read g c = λ absent.
    let old = c.args.self.now in
    let found : Some c.in-Some.place ≡ position (λ (h : HeldTrack). h.track == c.args.track) old.held = cc in
    let there = found_in c.args.track old.held c.in-Some.place found in
    let no : true ≡ false = sym (present c.args.track old.held c.in-Some.place there.0 there.1) ∙ absent in
    absurd (cc)

pub returns-in-Some-clause-reads : goal.returns-in-Some-clause-reads
returns-in-Some-clause-reads g c =
    let old = c.args.self.now in
    let found : Some c.in-Some.place ≡ position (λ (h : HeldTrack). h.track == c.args.track) old.held = cc in
    let there = found_in c.args.track old.held c.in-Some.place found in
    λ refs before. LogsReads-held before (g.D.Drum.journal c.args.drum.now) old refs c.args.track (present c.args.track old.held c.in-Some.place there.0 there.1)

pub returns-in_err-read-clause-hit : goal.returns-in_err-read-clause-hit
returns-in_err-read-clause-hit g c = λ among.
    let old = c.args.self.now in
    let none : None ≡ position (λ (h : HeldTrack). h.track == c.args.track) old.held = cc in
    let no : true ≡ false = sym among ∙ absent_in c.args.track old.held none in
    absurd (cc)

pub returns-clause-hit : goal.returns-clause-hit
returns-clause-hit g c = λ among.
    let old = c.args.self.now in
    let none : None ≡ position (λ (h : HeldTrack). h.track == c.args.track) old.held = cc in
    let no : true ≡ false = sym among ∙ absent_in c.args.track old.held none in
    absurd (cc)

pub returns-clause-after : goal.returns-clause-after
returns-clause-after g c =
    let old = c.args.self.now in
    let none : None ≡ position (λ (h : HeldTrack). h.track == c.args.track) old.held = cc in
    let takes = c.take_in.ensures in (
      Refers-read old c.take_in.new.self c.args.track c.read.new.into takes.places takes.transfers takes.held c.place_of.ensures.least (absent_in c.args.track old.held none),
      λ agrees. rw takes.held (Agrees-read (g.D.Drum.tracks c.args.drum.now) old.held old.places c.args.track c.read.new.into c.in_ok-read.ensures.given agrees),
    )

pub returns-clause-some : goal.returns-clause-some
returns-clause-some g c =
    let old = c.args.self.now in
    omega (arith, c.place_of.ensures.least, ap length c.take_in.ensures.held, length-take {A = HeldTrack} old.places)

pub returns-clause-given : goal.returns-clause-given
returns-clause-given g c = λ agrees.
    let old = c.args.self.now in
    rw (c.take_in.ensures.held, latest_words-take old.places _ old.held c.place_of.ensures.least) c.in_ok-read.ensures.given

pub returns-clause-reads : goal.returns-clause-reads
returns-clause-reads g c =
    let old = c.args.self.now in
    let none : None ≡ position (λ (h : HeldTrack). h.track == c.args.track) old.held = cc in
    λ refs before. LogsReads-read before (g.D.Drum.journal c.args.drum.now) (g.D.Drum.journal c.read.new.self) old refs c.args.track (absent_in c.args.track old.held none) c.in_ok-read.ensures.journal
