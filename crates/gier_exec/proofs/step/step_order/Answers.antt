use Rattle.std.proofs.Common.{rules, ◌≡◌, [], ◌∷◌, ◌++◌, length, Some, None, ap, sym, subst, ◌∙◌}
use Rattle.gier_library.proofs.ReadsInOrder.{takes_nothing}
use Rattle.gier_library.specs.DataView.{stand_of}
use Rattle.gier_order.specs.Codes.{order_at}
use Rattle.gier_order.specs.Flat.Rows.{row}
use Rattle.gier_places.specs.Contents.{Agrees}
use Rattle.gier_exec.specs.Rows.{regs_of, code_in, word_in}
use Rattle.gier_exec.specs.Turning.{RefinesTurn, turn_of_stop}
use Rattle.gier_best.specs.TraceModel.{AreTracks}
use Rattle.gier_exec.specs.Reading.{ReadsMore}
use Rattle.gier_exec.proofs.Pagers.{refers_by}
use Rattle.gier_exec.proofs.Readings.{reads_both}
use Rattle.gier_exec.proofs.Referrings.{refers_both, refers_at}
use Rattle.gier_exec.proofs.WholeOrders.{row_none, row_some}
use Rattle.gier_exec.proofs.Turnings.{puts_nothing, cut_nothing, follows_on, follows_quit}
use Rattle.gier_exec.proofs.step.step_order.Goals as goal

pub returns-in-Ok-execute-clause-journal : goal.returns-in-Ok-execute-clause-journal
returns-in-Ok-execute-clause-journal g c =
    let is_drum : c.drum-2-1.given.0 ≡ c.execute.new.pager.drum.now = search rules in
    subst (λ drum. ReadsMore (g.D.Drum.journal c.args.drum.now) (g.D.Drum.journal drum)) (sym is_drum) (reads_both _ _ _ c.read_word.ensures.reads.journal c.execute.ensures.reads.journal)

pub returns-in-Err-execute-clause-journal : goal.returns-in-Err-execute-clause-journal
returns-in-Err-execute-clause-journal g c =
    let is_drum : c.drum-2-1.given.0 ≡ c.execute.new.pager.drum.now = search rules in
    subst (λ drum. ReadsMore (g.D.Drum.journal c.args.drum.now) (g.D.Drum.journal drum)) (sym is_drum) (reads_both _ _ _ c.read_word.ensures.reads.journal c.execute.ensures.reads.journal)

pub returns-in-Err-clause-row : goal.returns-in-Err-clause-row
returns-in-Err-clause-row g c = λ tracks told agrees.
    let is_drum : c.drum-1.given.0 ≡ c.read_word.new.pager.drum.now = search rules in
    let is_places : c.places-1.given.0 ≡ c.read_word.new.pager.places.now = search rules in
    let is_recent : c.recent-1.given.0 ≡ c.read_word.new.pager.recent.now = search rules in
    let is_trace : c.trace-1.given.0 ≡ c.read_word.new.pager.trace.now = search rules in (
      [],
      [],
      [],
      refers_by g.D.Drum.room g.D.Drum.tracks g.D.Drum.journal g.D.Drum.faults _ _ _ c.read_word.new.pager _ _ _ _ is_drum is_places is_recent is_trace (c.in-Err.ensures.refers),
      puts_nothing _,
      takes_nothing (stand_of g.S.Source.left c.args.input.now) c.args.input.now.limited c.args.input.now.below,
      λ rest is. cut_nothing _ _,
    )

pub returns-in-Ok-execute-clause-noted : goal.returns-in-Ok-execute-clause-noted
returns-in-Ok-execute-clause-noted g c = λ least were.
    let is_trace : c.trace-2-1.given.0 ≡ c.execute.new.pager.trace.now = search rules in
    subst (λ trace. AreTracks trace) (sym is_trace) (c.execute.ensures.reads.noted (rw c.read_word.ensures.reads.settings.tracks least) (c.read_word.ensures.reads.noted least were))

pub returns-in_default-clause-row : goal.returns-in_default-clause-row
returns-in_default-clause-row g c = λ tracks told agrees.
    let is_drum : c.drum-in_default-1.given.0 ≡ c.read_word.new.pager.drum.now = search rules in
    let is_places : c.places-in_default-1.given.0 ≡ c.read_word.new.pager.places.now = search rules in
    let is_recent : c.recent-in_default-1.given.0 ≡ c.read_word.new.pager.recent.now = search rules in
    let is_trace : c.trace-in_default-1.given.0 ≡ c.read_word.new.pager.trace.now = search rules in
    let place = c.args.m.now.place in
    let object = c.args.object.now in
    let word : c.in-Ok.word ≡ word_in tracks object place = subst (λ p. c.in-Ok.word ≡ word_in tracks object p) c.place-place.ensures (c.in-Ok.ensures.word tracks told agrees) in
    let none : order_at c.in-Ok.word ≡ None = sym c.decode.ensures.value ∙ c.in_default.is in (
      place ∷ [],
      [],
      [],
      refers_by g.D.Drum.room g.D.Drum.tracks g.D.Drum.journal g.D.Drum.faults _ _ _ c.read_word.new.pager _ _ _ _ is_drum is_places is_recent is_trace (refers_at object _ _ _ _ c.place-place.ensures c.in-Ok.ensures.refers),
      puts_nothing _,
      takes_nothing (stand_of g.S.Source.left c.args.input.now) c.args.input.now.limited c.args.input.now.below,
      λ rest is. rw c.spoilt.ensures (
        row_none tracks object (length c.args.frames.now.words) (regs_of c.args.m.now c.args.frames.now rest) c.in-Ok.word c.requires.place word none,
        rw c.place-place.ensures (ap (λ w. record { place = place; word = w }) word),
      ),
    )

pub returns-in-Ok-execute-clause-row : goal.returns-in-Ok-execute-clause-row
returns-in-Ok-execute-clause-row g c = λ tracks told agrees.
    let is_drum : c.drum-2-1.given.0 ≡ c.execute.new.pager.drum.now = search rules in
    let is_places : c.places-2-1.given.0 ≡ c.execute.new.pager.places.now = search rules in
    let is_recent : c.recent-2-1.given.0 ≡ c.execute.new.pager.recent.now = search rules in
    let is_trace : c.trace-2-1.given.0 ≡ c.execute.new.pager.trace.now = search rules in
    let place = c.args.m.now.place in
    let object = c.args.object.now in
    let word : c.in-Ok.word ≡ word_in tracks object place = subst (λ p. c.in-Ok.word ≡ word_in tracks object p) c.place-place.ensures (c.in-Ok.ensures.word tracks told agrees) in
    let some : order_at c.in-Ok.word ≡ Some c.in-Some.order = sym c.decode.ensures.value ∙ c.in-Some.is in
    let told_mid : g.D.Drum.tracks c.read_word.new.pager.drum.now ≡ Some tracks = c.read_word.ensures.reads.tracks ∙ told in
    let agrees_mid : Agrees (Some tracks) c.read_word.new.pager.places.now.held = subst (λ t. Agrees t c.read_word.new.pager.places.now.held) told_mid (c.in-Ok.ensures.refers.agrees (subst (λ t. Agrees t c.args.places.now.held) (sym told) agrees)) in
    let did = c.in-Ok-execute.ensures.row tracks told_mid agrees_mid in (
      place ∷ did.0,
      did.1,
      did.2,
      refers_by g.D.Drum.room g.D.Drum.tracks g.D.Drum.journal g.D.Drum.faults _ _ _ c.execute.new.pager _ _ _ _ is_drum is_places is_recent is_trace (refers_both object (place ∷ []) did.0 _ _ _ c.read_word.ensures.reads.places (refers_at object _ _ _ _ c.place-place.ensures c.in-Ok.ensures.refers) did.3),
      did.4,
      did.5,
      λ rest is. rw c.set_place.ensures (follows_on _ _ did.0 did.1 (regs_of c.execute.new.m c.execute.new.frames rest) place c.in-Ok-execute.next
          (row_some tracks object (length c.args.frames.now.words) (regs_of c.args.m.now c.args.frames.now (did.2 ++ rest)) c.in-Ok.word c.in-Some.order c.requires.place word some) (did.6 rest is)),
    )

pub returns-in-Err-execute-clause-row : goal.returns-in-Err-execute-clause-row
returns-in-Err-execute-clause-row g c = λ tracks told agrees.
    let is_drum : c.drum-2-1.given.0 ≡ c.execute.new.pager.drum.now = search rules in
    let is_places : c.places-2-1.given.0 ≡ c.execute.new.pager.places.now = search rules in
    let is_recent : c.recent-2-1.given.0 ≡ c.execute.new.pager.recent.now = search rules in
    let is_trace : c.trace-2-1.given.0 ≡ c.execute.new.pager.trace.now = search rules in
    let place = c.args.m.now.place in
    let object = c.args.object.now in
    let found = word_in tracks object place in
    let word : c.in-Ok.word ≡ found = subst (λ p. c.in-Ok.word ≡ word_in tracks object p) c.place-place.ensures (c.in-Ok.ensures.word tracks told agrees) in
    let some : order_at c.in-Ok.word ≡ Some c.in-Some.order = sym c.decode.ensures.value ∙ c.in-Some.is in
    let told_mid : g.D.Drum.tracks c.read_word.new.pager.drum.now ≡ Some tracks = c.read_word.ensures.reads.tracks ∙ told in
    let agrees_mid : Agrees (Some tracks) c.read_word.new.pager.places.now.held = subst (λ t. Agrees t c.read_word.new.pager.places.now.held) told_mid (c.in-Ok.ensures.refers.agrees (subst (λ t. Agrees t c.args.places.now.held) (sym told) agrees)) in
    let did = c.in-Err-execute.ensures.row tracks told_mid agrees_mid in (
      place ∷ did.0,
      did.1,
      did.2,
      refers_by g.D.Drum.room g.D.Drum.tracks g.D.Drum.journal g.D.Drum.faults _ _ _ c.execute.new.pager _ _ _ _ is_drum is_places is_recent is_trace (refers_both object (place ∷ []) did.0 _ _ _ c.read_word.ensures.reads.places (refers_at object _ _ _ _ c.place-place.ensures c.in-Ok.ensures.refers) did.3),
      did.4,
      did.5,
      λ rest is.
          let before = regs_of c.args.m.now c.args.frames.now (did.2 ++ rest) in
          let after = regs_of c.execute.new.m c.execute.new.frames rest in
          let whole = row (code_in tracks object) (length c.args.frames.now.words) before in
          rw c.turn_of.ensures.value (subst (λ p. RefinesTurn whole before after (place ∷ did.0) did.1 did.2 place found (turn_of_stop c.in-Err-execute.quit p c.in-Ok.word)) (sym c.place-place.ensures)
          (subst (λ w. RefinesTurn whole before after (place ∷ did.0) did.1 did.2 place found (turn_of_stop c.in-Err-execute.quit place w)) (sym word)
          (follows_quit whole _ before after did.0 did.1 did.2 place found c.in-Err-execute.quit
          (row_some tracks object (length c.args.frames.now.words) before c.in-Ok.word c.in-Some.order c.requires.place word some) (did.6 rest is)))),
    )
