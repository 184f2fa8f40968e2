use Rattle.std.proofs.Common.{◌≡◌, ◌<◌, ◌==◌, ◌∷◌, ℕ, List, Some, None, position, length, refl, sym, ap, ◌∙◌, subst, arith}
use Rattle.std.proofs.lemmas.Grind.{common_steps}
use Rattle.gier_order.specs.Counts.{Counts, StandsFor}
use Rattle.gier_order.proofs.recent.Recent.refer.Goals as goal
use Rattle.gier_order.proofs.CountInvariant.{stands_miss, stands_hit, first_kept}

pub returns-in-Some-eq0-clause-stands : goal.returns-in-Some-eq0-clause-stands
returns-in-Some-eq0-clause-stands c = λ refs stands.
    let counts : Counts = record { recent = c.self.inside.tracks.items; hits = c.self.inside.hits; far = c.self.inside.far } in
    let before : StandsFor counts refs = subst (λ (v : Counts). StandsFor v refs) (sym c.self.view_is) stands in
    let found : position (λ t. t == c.args.track) c.self.inside.tracks.items ≡ Some 0 =
    rw c.as_slice.ensures.value at (sym c.place_of.ensures ∙ c.in-Some-eq0.is ∙ ap (λ (n : ℕ). Some n) c.in-Some-eq0.field-0-test) in
    stands_hit counts _ refs c.args.track 0 before found (omega (arith, c.self.told)) (first_kept c.args.track c.self.inside.tracks.items found) refl refl

pub returns-in-Some-clause-stands : goal.returns-in-Some-clause-stands
returns-in-Some-clause-stands c = λ refs stands.
    let counts : Counts = record { recent = c.self.inside.tracks.items; hits = c.self.inside.hits; far = c.self.inside.far } in
    let before : StandsFor counts refs = subst (λ (v : Counts). StandsFor v refs) (sym c.self.view_is) stands in
    let found : position (λ t. t == c.args.track) c.self.inside.tracks.items ≡ Some c.in-Some.place = rw c.as_slice.ensures.value at (sym c.place_of.ensures ∙ c.in-Some.is) in
    let within : c.in-Some.place < length c.self.inside.hits = grind (arith, common_steps) in
    stands_hit counts _ refs c.args.track c.in-Some.place before found within
    (c.insert.ensures.items ∙ ap (λ (us : List ℕ). c.args.track ∷ us) c.remove.ensures.items) refl refl

pub returns-in-None-clause-stands : goal.returns-in-None-clause-stands
returns-in-None-clause-stands c = λ refs stands.
    let counts : Counts = record { recent = c.self.inside.tracks.items; hits = c.self.inside.hits; far = c.self.inside.far } in
    let before : StandsFor counts refs = subst (λ (v : Counts). StandsFor v refs) (sym c.self.view_is) stands in
    let absent : position (λ t. t == c.args.track) c.self.inside.tracks.items ≡ None = rw c.as_slice.ensures.value at (sym c.place_of.ensures ∙ c.in-None.is) in
    stands_miss counts _ refs c.args.track before absent c.put_first.ensures refl refl
