use Rattle.std.proofs.Common.{◌+◌, ℕ, ap, ◌∙◌}
use Rattle.gier_order.specs.Counts.{Counts, misses_at}
use Rattle.gier_order.proofs.recent.Recent.misses.Goals as goal

pub returns : goal.returns
returns c = λ refs stands.
    ap (λ (n : ℕ). c.self.inside.far + n) c.total_from.ensures.value
    ∙ ap (λ (v : Counts). misses_at v c.args.places) c.self.view_is
    ∙ stands.misses_of c.args.places c.requires.most
