use Rattle.std.proofs.Common.{◌≡◌, ◌≤◌, ◌+◌, true}
use Rattle.gier_mortem.specs.WordLines.{addresses, greatest, Searched}
use Rattle.gier_mortem.proofs.lines.Lines.search.Given as goal

-- the text stays where it is and is being read, and no more words were met than symbols
abbrev pub invariant-loop-symbol : goal.invariant-loop-symbol
invariant-loop-symbol g l = record {
  reading : (g.T.Text.view l.text l.store).rewound ≡ true;
  placed : g.T.Text.end_track l.text ≤ g.T.Text.room l.store;
  room : g.T.Text.room l.store ≡ g.T.Text.room l.initial.store;
  tracks : g.T.Text.tracks l.store ≡ g.T.Text.tracks l.initial.store;
  later : g.T.Text.faults l.initial.store ≤ g.T.Text.faults l.store;
  few : l.address + (g.T.Text.view l.text l.store).unread ≤ l.symbols;
  last : l.last ≡ greatest (addresses l.initial.self.asked.items);
  searched : Searched (g.T.Text.view l.initial.text l.initial.store).left (addresses l.initial.self.asked.items) (g.T.Text.view l.text l.store).left l.self.asked.items l.address l.last;
}

abbrev pub decreases-loop-symbol : goal.decreases-loop-symbol
decreases-loop-symbol g l = (g.T.Text.view l.text l.store).unread
