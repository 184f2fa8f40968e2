use Rattle.std.proofs.Common.{◌∙◌, ◌++◌, ◌∷◌, [], sym}
use Rattle.gier_pass3.proofs.pass.Pass3.add_label.Goals as goal

pub add_lookahead-requires-clause-fit : goal.add_lookahead-requires-clause-fit
add_lookahead-requires-clause-fit c = c.in_role.ensures.fit c.args.self.now.bytes (rw c.in-Some.is at c.requires.room.holds.name)

pub returns-in-Some-clause-wrote : goal.returns-in-Some-clause-wrote
returns-in-Some-clause-wrote c = λ next.
    rw (c.in-Some.is, sym c.in_role.ensures.value, sym c.in_role-in-Some.ensures.value) (c.add_lookahead.ensures.wrote (λ d. next (record { lookahead = d.lookahead ++ c.in_role-in-Some.result ∷ []; name = d.name; last = d.last; owns = d.owns })) ∙ c.add_lookahead-in-Some.ensures.wrote next)
