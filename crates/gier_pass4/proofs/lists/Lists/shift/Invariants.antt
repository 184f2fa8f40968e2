use Rattle.std.proofs.Common.{◌≡◌, ◌+◌, ℕ}
use Rattle.std.specs.Prelude.{◌≢◌}
use Rattle.gier_text.specs.Potential.{potential}
use Rattle.gier_text.specs.TablesModel.{tables_model}
use Rattle.gier_text.specs.Lists.{list_at}
use Rattle.gier_text.specs.Outbox.{outbox_symbols_until}
use Rattle.gier_pass4.specs.Lists.{HasLists, potential_stored}
use Rattle.gier_pass4.proofs.lists.Lists.shift.Given as goal

abbrev pub invariant-loop-at : goal.invariant-loop-at
invariant-loop-at l = record {
  lists : HasLists l.self.bytes (tables_model l.tables);
  source : list_at (tables_model l.tables).lists l.from ≡ list_at (tables_model l.initial.tables).lists l.from;
  moved : potential_stored (tables_model l.tables) l.to + potential 4 (outbox_symbols_until (list_at (tables_model l.initial.tables).lists l.from) l.base) ≡ potential_stored (tables_model l.initial.tables) l.to + potential 4 (outbox_symbols_until (list_at (tables_model l.initial.tables).lists l.from) l.at);
  others : (k : ℕ) → k ≢ l.to → potential_stored (tables_model l.tables) k ≡ potential_stored (tables_model l.initial.tables) k;
  limit : (tables_model l.tables).limit ≡ (tables_model l.initial.tables).limit;
}
