use Rattle.std.proofs.Common.{◌≡◌, ◌<◌, ◌-◌, ◌∙◌, suc, length, get_or, Some, ap, sym, arith}
use Rattle.std.proofs.lemmas.List.{get_or_default, length-map}
use Rattle.gier_drum.specs.Drum.{zero_track}
use Rattle.gier_drum.specs.Pages.{pages, page_at}
use Rattle.gier_drum.proofs.Pages.{slice_get-pages}
use Rattle.gier_drum.proofs.Stored.{zero_words}
use Rattle.gier_drum.proofs.tracks.Tracks.read.Goals as goal

pub returns-then-slot-eq0-clause-words : goal.returns-then-slot-eq0-clause-words
returns-then-slot-eq0-clause-words c = zero_words

pub returns-else-slot-eq0-clause-given : goal.returns-else-slot-eq0-clause-given
returns-else-slot-eq0-clause-given c =
    let inside = c.self.inside in
    let s = c.get-slot.result - 1 in
    let slots = inside.slots.items in
    let track_in : c.args.track < length (pages zero_track inside.index slots) = rw c.self.view_is c.requires in
    let within : c.args.track < length inside.index = omega (arith, length-map inside.index (page_at zero_track slots)) in
    let was : get_or inside.index c.args.track 0 ≡ suc s = omega arith in
    let lt : s < length slots = omega (arith, c.self.invariant.indexed.within c.args.track within) in
    rw (← c.self.view_is) (slice_get-pages zero_track inside.index slots c.args.track within ∙ (rw was (ap Some (get_or_default slots s zero_track c.index.result.now lt ∙ sym c.index.ensures))))
