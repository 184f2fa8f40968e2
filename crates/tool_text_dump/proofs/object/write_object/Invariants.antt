use Rattle.std.proofs.Common.{◌≡◌, ◌≤◌, ◌+◌, ◌^◌, true, false}
use Rattle.gier_text.specs.SymbolsOnTracks.{tracks_for}
use Rattle.tool_text_dump.proofs.object.write_object.Given as goal

abbrev pub invariant-loop-s : goal.invariant-loop-s
invariant-loop-s g l = record {
  reading : l.list.rewound ≡ true;
  writing : l.text.rewound ≡ false;
  first : l.text.first ≡ 0;
  end : l.text.first + tracks_for l.text.capacity ≡ 2 ^ 20;
  room : g.D.Drum.room l.drum ≡ g.D.Drum.room l.initial.drum;
}

abbrev pub decreases-loop-s : goal.decreases-loop-s
decreases-loop-s g l = l.list.unread
