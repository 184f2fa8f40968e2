use Rattle.std.proofs.Common.{◌==◌, ◌∙◌, List, ap}
use Rattle.std.specs.List.{position}
use Rattle.gier_places.specs.declared.slots.Slot.{Slot}
use Rattle.gier_places.specs.Contents.{Contents}
use Rattle.gier_places.specs.HeldTracks.{HeldTrack}
use Rattle.gier_places.proofs.SlotsApart.{position-held}
use Rattle.gier_places.proofs.places.Places.place_of.Goals as goal

pub returns-clause-found : goal.returns-clause-found
returns-clause-found c =
    let inside = c.self.inside in
    c.place_in.ensures
    ∙ ap (λ (slots : List Slot). position (λ (slot : Slot). slot.track == c.args.track) slots) c.as_slice.ensures.value
    ∙ position-held inside.words.items inside.slots.items c.args.track
    ∙ ap (λ (a : Contents). position (λ (h : HeldTrack). h.track == c.args.track) a.held) c.self.view_is
