use Rattle.std.proofs.Common.{◌≡◌, ◌≤◌, ◌+◌, true}
use Rattle.gier_text.specs.SymbolsOnTracks.{tracks_for}
use Rattle.gier_rows.proofs.listing.put_rows.Given as goal

-- the text stays where it is and is being read, the drum keeps its room, and faults only grow
abbrev pub invariant-loop : goal.invariant-loop
invariant-loop g l = record {
  reading : l.text.rewound ≡ true;
  placed : l.text.first + tracks_for l.text.capacity ≤ g.D.Drum.room l.drum;
  room : g.D.Drum.room l.drum ≡ g.D.Drum.room l.initial.drum;
  drum_later : g.D.Drum.faults l.initial.drum ≤ g.D.Drum.faults l.drum;
  sink_later : g.K.Sink.faults l.initial.out ≤ g.K.Sink.faults l.out;
}
