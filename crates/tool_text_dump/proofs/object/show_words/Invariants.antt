use Rattle.std.proofs.Common.{◌≡◌}
use Rattle.tool_text_dump.proofs.object.show_words.Given as goal

abbrev pub invariant-loop-at : goal.invariant-loop-at
invariant-loop-at g l = g.D.Drum.room l.drum ≡ g.D.Drum.room l.initial.drum
