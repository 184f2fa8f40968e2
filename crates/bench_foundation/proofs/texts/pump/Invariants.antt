use Rattle.std.proofs.Common.{◌≡◌, ◌≤◌, true, false}
use Rattle.bench_foundation.proofs.texts.pump.Given as goal

abbrev pub invariant-loop-k : goal.invariant-loop-k
invariant-loop-k g l = ((g.T.Text.view l.text l.store).rewound ≡ false) × (g.T.Text.end_track l.text ≤ g.T.Text.room l.store)

abbrev pub invariant-loop-s : goal.invariant-loop-s
invariant-loop-s g l = ((g.T.Text.view l.text l.store).rewound ≡ true) × (g.T.Text.end_track l.text ≤ g.T.Text.room l.store)

abbrev pub decreases-loop-s : goal.decreases-loop-s
decreases-loop-s g l = (g.T.Text.view l.text l.store).unread
