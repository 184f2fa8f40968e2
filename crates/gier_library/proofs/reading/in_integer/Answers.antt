use Rattle.std.proofs.Common.{◌≡◌, ◌∙◌, ◌≤◌, ap, refl, arith}
use Rattle.gier_library.specs.Data.{Stand}
use Rattle.gier_library.specs.DataView.{source_of, stand_of}
use Rattle.gier_library.proofs.Numbers.{reading_goes, reading_stops, reading_ends}
use Rattle.gier_library.proofs.reading.in_integer.Goals as goal

pub loop-byte-preserved : goal.loop-byte-preserved
loop-byte-preserved g c =
    let left = g.S.Source.left in
    let faults = g.S.Source.faults in
    let taken = rw c.in-Ok-Some.field-0-is at c.in-Ok-Some.ensures.taken in
    let so_far = c.loop-byte.invariant.1 in (
      c.next.ensures.same_reference ∙ c.loop-byte.invariant.0,
      record {
        reading = reading_goes (stand_of left c.args.input.now) (stand_of left c.loop-byte.input) (stand_of left c.next.new.self) c.loop-byte.place c.in-Goes.next c.in-Ok-Some.byte so_far.reading taken c.in-Goes.ensures;
        rests = λ h.
            let e : stand_of left c.loop-byte.input ≡ stand_of left c.args.input.now = so_far.reading.takes.stays h in
            let over = c.in-Ok-Some.ensures.stays (ap (λ (s : Stand). s.ended) e ∙ h) in
            let none = over.0 in
            absurd (cc (none, c.in-Ok-Some.field-0-is));
        later =
            let h : faults (source_of c.args.input.now) ≤ faults (source_of c.loop-byte.input) = so_far.later in
            let k : faults (source_of c.loop-byte.input) ≤ faults (source_of c.next.new.self) = c.next.ensures.cause.later in
            omega (arith, h, k);
      },
    )

pub returns-in-Stops-clause-read : goal.returns-in-Stops-clause-read
returns-in-Stops-clause-read g c =
    let left = g.S.Source.left in
    let taken = rw c.in-Ok-Some.field-0-is at c.in-Ok-Some.ensures.taken in
    rw c.answer.ensures (reading_stops (stand_of left c.args.input.now) (stand_of left c.loop-byte.input) (stand_of left c.next.new.self) c.loop-byte.place c.in-Ok-Some.byte c.in-Stops.outcome c.loop-byte.invariant.1.reading taken c.in-Stops.ensures)

pub returns-in-Ok-None-clause-read : goal.returns-in-Ok-None-clause-read
returns-in-Ok-None-clause-read g c =
    let left = g.S.Source.left in
    let taken = rw c.in-Ok-None.field-0-is at c.in-Ok-None.ensures.taken in
    let ended = rw c.in-Ok-None.field-0-is at c.in-Ok-None.ensures.end in
    rw (c.answer-in-Ok-None.ensures, c.outcome_at_end.ensures) (reading_ends (stand_of left c.args.input.now) (stand_of left c.loop-byte.input) (stand_of left c.next.new.self) c.loop-byte.place c.loop-byte.invariant.1.reading taken (ended refl))
