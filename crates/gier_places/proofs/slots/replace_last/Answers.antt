use Rattle.std.proofs.Common.{◌≡◌, ◌-◌, ◌∷◌, ℕ, suc, length, take, get_or, set, refl, subst, arith}
use Rattle.gier_places.specs.HeldTracks.{held_in}
use Rattle.gier_places.proofs.SlotsApart.{none, has_words, replaced}
use Rattle.gier_places.proofs.slots.replace_last.Goals as goal

pub bounds-words-at : goal.bounds-words-at
bounds-words-at c = has_words c.args.slots.now c.args.words.now (length c.args.slots.now - 1) (omega (arith, c.requires.some)) c.requires.placed

pub returns-clause-placed : goal.returns-clause-placed
returns-clause-placed c =
    let last : suc (length c.args.slots.now - 1) ≡ length c.args.slots.now = omega (arith, c.requires.some) in
    (replaced c.args.slots.now c.args.words.now (length c.args.slots.now - 1) _ c.args.track c.args.new.now c.move_first.new.slots last refl c.move_first.ensures c.requires.placed c.requires.small).placed

pub returns-clause-held : goal.returns-clause-held
returns-clause-held c =
    let last : suc (length c.args.slots.now - 1) ≡ length c.args.slots.now = omega (arith, c.requires.some) in
    subst (λ (n : ℕ). held_in (set c.args.words.now (get_or c.args.slots.now (length c.args.slots.now - 1) none).at c.args.new.now) c.move_first.new.slots ≡ take n (record { track = c.args.track; words = c.args.new.now } ∷ held_in c.args.words.now c.args.slots.now)) last ((replaced c.args.slots.now c.args.words.now (length c.args.slots.now - 1) _ c.args.track c.args.new.now c.move_first.new.slots last refl c.move_first.ensures c.requires.placed c.requires.small).held)
