use Rattle.std.proofs.Common.{◌≡◌, ◌≤◌, ◌<◌, ◌^◌, ◌-◌, length, arith}
use Rattle.std.proofs.lemmas.List.{length-map}
use Rattle.gier_drum.specs.Drum.{zero_track}
use Rattle.gier_drum.specs.Pages.{page_at}
use Rattle.gier_drum.proofs.Pages.{taken_le, pages-grown}
use Rattle.gier_drum.proofs.Stored.{AreTracks-pages, IsStored-grown}
use Rattle.gier_drum.proofs.tracks.Tracks.make_room.Goals as goal

pub returns-then-wanted-len-clause-tracks : goal.returns-then-wanted-len-clause-tracks
returns-then-wanted-len-clause-tracks c =
    let inside = c.self.inside in
    rw (← c.self.view_is) (AreTracks-pages inside.index inside.slots.items _ c.self.invariant)

pub reserve-requires : goal.reserve-requires
reserve-requires c =
    omega (arith, c.self.invariant.indexed.count, taken_le c.self.inside.index)

pub returns-in_err-reserve-clause-tracks : goal.returns-in_err-reserve-clause-tracks
returns-in_err-reserve-clause-tracks c =
    let inside = c.self.inside in
    rw c.reserve.ensures.items (AreTracks-pages inside.index inside.slots.items _ c.self.invariant)

pub returns-in_err-grow-clause-tracks : goal.returns-in_err-grow-clause-tracks
returns-in_err-grow-clause-tracks c =
    let inside = c.self.inside in
    rw (c.in_err-grow.ensures.kept, c.reserve.ensures.items) (AreTracks-pages inside.index inside.slots.items _ c.self.invariant)

pub invariant_of-self-2 : goal.invariant_of-self-2
invariant_of-self-2 c =
    let inside = c.self.inside in
    let few : c.args.wanted < 2 ^ 32 = omega arith in
    let le : length inside.index ≤ c.args.wanted = omega arith in
    rw (c.in_ok-grow.ensures.grown, c.reserve.ensures.items) (IsStored-grown inside.index inside.slots.items _ _ c.args.wanted c.self.invariant few le c.in_ok-reserve.ensures.room)

pub returns-clause-grown : goal.returns-clause-grown
returns-clause-grown c =
    let inside = c.self.inside in
    let long : length c.args.self.now ≡ length inside.index = rw (← c.self.view_is) (length-map inside.index (page_at zero_track inside.slots.items)) in
    rw (c.in_ok-grow.ensures.grown, c.reserve.ensures.items, long, ← c.self.view_is) (pages-grown zero_track inside.index inside.slots.items (c.args.wanted - length inside.index))

pub returns-clause-tracks : goal.returns-clause-tracks
returns-clause-tracks c =
    let inside = c.self.inside in
    let few : c.args.wanted < 2 ^ 32 = omega arith in
    let le : length inside.index ≤ c.args.wanted = omega arith in
    rw (c.in_ok-grow.ensures.grown, c.reserve.ensures.items) (AreTracks-pages _ inside.slots.items _ (IsStored-grown inside.index inside.slots.items _ _ c.args.wanted c.self.invariant few le c.in_ok-reserve.ensures.room))
