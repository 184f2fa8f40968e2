use Rattle.std.proofs.Common.{◌≡◌, ◌++◌, ◌∙◌, List, length, take, drop, ap, sym, arith}
use Rattle.gier_places.specs.declared.slots.Slot.{Slot}
use Rattle.gier_places.specs.Contents.{Contents}
use Rattle.gier_places.specs.HeldTracks.{HeldTrack, held_at, held_in, moved_first}
use Rattle.gier_places.proofs.MoveToFront.{length-moved, map-moved, whole}
use Rattle.gier_places.proofs.SlotsApart.{placed-moved}
use Rattle.gier_places.proofs.places.Places.bring_forward.Goals as goal

pub invariant_of-self : goal.invariant_of-self
invariant_of-self c =
    let inside = c.self.inside in
    let items = c.self.inside.slots.items in
    let new = c.move_first.new.slots in
    let is : new ≡ moved_first items c.args.place = c.move_first.ensures ∙ ap (λ (slots : List Slot). moved_first slots c.args.place) c.as_mut_slice.ensures.value in
    let long : length new ≡ inside.slots.len = ap length is ∙ length-moved items c.args.place ∙ sym inside.slots.ok.0 in
    let same : take inside.slots.len (new ++ drop (length new) items) ≡ new = whole items new inside.slots.len long in
    rw (same, is) (record {
      least = c.self.invariant.least;
      most = c.self.invariant.most;
      fits = omega (arith, c.self.invariant.fits, length-moved items c.args.place);
      slots_reserved = c.self.invariant.slots_reserved;
      words_reserved = c.self.invariant.words_reserved;
      placed = placed-moved items inside.words.items c.args.place c.self.invariant.placed;
    })

pub returns-clause-held : goal.returns-clause-held
returns-clause-held c =
    let inside = c.self.inside in
    let items = c.self.inside.slots.items in
    let new = c.move_first.new.slots in
    let is : new ≡ moved_first items c.args.place = c.move_first.ensures ∙ ap (λ (slots : List Slot). moved_first slots c.args.place) c.as_mut_slice.ensures.value in
    let long : length new ≡ inside.slots.len = ap length is ∙ length-moved items c.args.place ∙ sym inside.slots.ok.0 in
    let same : take inside.slots.len (new ++ drop (length new) items) ≡ new = whole items new inside.slots.len long in
    let view : held_in inside.words.items items ≡ c.args.self.now.held = ap (λ (a : Contents). a.held) c.self.view_is in
    rw (same, is) (map-moved (held_at inside.words.items) items c.args.place ∙ ap (λ (held : List HeldTrack). moved_first held c.args.place) view)
