use Rattle.std.proofs.Common.{◌≡◌, ◌<◌, ◌-◌, suc, length, get_or, set, arith}
use Rattle.std.proofs.lemmas.List.{length-map}
use Rattle.gier_drum.specs.Drum.{zero_track, IsTrack}
use Rattle.gier_drum.specs.Pages.{page_at}
use Rattle.gier_drum.proofs.Pages.{taken_lt, pages-new, pages-same}
use Rattle.gier_drum.proofs.Stored.{AreTracks-pages, IsStored-new, IsStored-same}
use Rattle.gier_drum.proofs.tracks.Tracks.write.Goals as goal

pub push_reserved-requires : goal.push_reserved-requires
push_reserved-requires c =
    let inside = c.self.inside in
    let within : c.args.track < length inside.index = omega (arith, rw (← c.self.view_is) at c.requires.in_room, length-map inside.index (page_at zero_track inside.slots.items)) in
    let was : get_or inside.index c.args.track 0 ≡ 0 = omega arith in
    omega (arith, taken_lt inside.index c.args.track within was, c.self.invariant.indexed.count, c.self.invariant.reserved, inside.slots.ok.0)

pub overflow_cast-len : goal.overflow_cast-len
overflow_cast-len c =
    let inside = c.self.inside in
    let within : c.args.track < length inside.index = omega (arith, rw (← c.self.view_is) at c.requires.in_room, length-map inside.index (page_at zero_track inside.slots.items)) in
    let was : get_or inside.index c.args.track 0 ≡ 0 = omega arith in
    omega (arith, taken_lt inside.index c.args.track within was, c.self.invariant.indexed.count, c.self.invariant.few, inside.slots.ok.0)

pub invariant_of-self : goal.invariant_of-self
invariant_of-self c =
    let inside = c.self.inside in
    let within : c.args.track < length inside.index = omega (arith, rw (← c.self.view_is) at c.requires.in_room, length-map inside.index (page_at zero_track inside.slots.items)) in
    let was : get_or inside.index c.args.track 0 ≡ 0 = omega arith in
    let is : c.len.result ≡ suc (length inside.slots.items) = omega (arith, inside.slots.ok.0) in
    let track : IsTrack c.args.from.now = record { long = omega arith; small = c.requires.words } in
    rw (c.set.ensures, c.push_reserved.ensures.items, is) (IsStored-new inside.index inside.slots.items c.args.track _ _ c.args.from.now c.self.invariant within was track c.push_reserved.ensures.capacity)

pub returns-then-slot-eq0-clause-set : goal.returns-then-slot-eq0-clause-set
returns-then-slot-eq0-clause-set c =
    let inside = c.self.inside in
    let within : c.args.track < length inside.index = omega (arith, rw (← c.self.view_is) at c.requires.in_room, length-map inside.index (page_at zero_track inside.slots.items)) in
    let is : c.len.result ≡ suc (length inside.slots.items) = omega (arith, inside.slots.ok.0) in
    rw (c.set.ensures, c.push_reserved.ensures.items, is, ← c.self.view_is) (pages-new zero_track inside.index inside.slots.items c.args.track c.args.from.now c.self.invariant.indexed within)

pub returns-then-slot-eq0-clause-tracks : goal.returns-then-slot-eq0-clause-tracks
returns-then-slot-eq0-clause-tracks c =
    let inside = c.self.inside in
    let within : c.args.track < length inside.index = omega (arith, rw (← c.self.view_is) at c.requires.in_room, length-map inside.index (page_at zero_track inside.slots.items)) in
    let was : get_or inside.index c.args.track 0 ≡ 0 = omega arith in
    let is : c.len.result ≡ suc (length inside.slots.items) = omega (arith, inside.slots.ok.0) in
    let track : IsTrack c.args.from.now = record { long = omega arith; small = c.requires.words } in
    rw (c.set.ensures, c.push_reserved.ensures.items, is) (AreTracks-pages _ _ _ (IsStored-new inside.index inside.slots.items c.args.track _ _ c.args.from.now c.self.invariant within was track c.push_reserved.ensures.capacity))

pub returns-else-slot-eq0-clause-set : goal.returns-else-slot-eq0-clause-set
returns-else-slot-eq0-clause-set c =
    let inside = c.self.inside in
    let within : c.args.track < length inside.index = omega (arith, rw (← c.self.view_is) at c.requires.in_room, length-map inside.index (page_at zero_track inside.slots.items)) in
    let was : get_or inside.index c.args.track 0 ≡ suc (c.get-slot.result - 1) = omega arith in
    rw (← c.self.view_is) (pages-same zero_track inside.index inside.slots.items c.args.track (c.get-slot.result - 1) c.args.from.now c.self.invariant.indexed within was)

pub returns-else-slot-eq0-clause-tracks : goal.returns-else-slot-eq0-clause-tracks
returns-else-slot-eq0-clause-tracks c =
    let inside = c.self.inside in
    let track : IsTrack c.args.from.now = record { long = omega arith; small = c.requires.words } in
    AreTracks-pages inside.index (set inside.slots.items (c.get-slot.result - 1) c.args.from.now) _ (IsStored-same inside.index inside.slots.items (c.get-slot.result - 1) _ c.args.from.now c.self.invariant track)
