use Rattle.std.proofs.Common.{◌≡◌, ◌∷◌, ◌∙◌, ℕ, List, length, ap}
use Rattle.gier_places.specs.declared.slots.Slot.{Slot}
use Rattle.gier_places.specs.HeldTracks.{held_in}
use Rattle.gier_places.proofs.SlotsApart.{added}
use Rattle.gier_places.proofs.slots.put_first.Goals as goal

pub returns-clause-placed : goal.returns-clause-placed
returns-clause-placed c =
    let at : c.len-at.result ≡ length c.args.words.now.items = c.len-at.ensures ∙ c.args.words.now.ok.0 in
    rw (c.put_slot.ensures.items, c.push_reserved.ensures.items)
    (added c.args.slots.now.items c.args.words.now.items c.len-at.result c.args.track c.args.new.now at c.requires.placed c.requires.small).placed

pub returns-clause-held : goal.returns-clause-held
returns-clause-held c =
    let at : c.len-at.result ≡ length c.args.words.now.items = c.len-at.ensures ∙ c.args.words.now.ok.0 in
    ap (λ (slots : List Slot). held_in c.push_reserved.new.self.items slots) c.put_slot.ensures.items
    ∙ ap (λ (words : List (List ℕ)). held_in words (record { track = c.args.track; at = c.len-at.result } ∷ c.args.slots.now.items)) c.push_reserved.ensures.items
    ∙ (added c.args.slots.now.items c.args.words.now.items c.len-at.result c.args.track c.args.new.now at c.requires.placed c.requires.small).held
