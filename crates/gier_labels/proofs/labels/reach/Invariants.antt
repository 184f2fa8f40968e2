use Rattle.std.proofs.Common.{◌≡◌, ℕ}
use Rattle.gier_text.specs.TablesModel.{tables_model}
use Rattle.gier_text.specs.Lists.{list_at}
use Rattle.gier_labels.specs.Labels.{HasLabels, KeepsOthers, word_of}
use Rattle.gier_labels.proofs.labels.reach.Given as goal

abbrev pub invariant-loop-turn : goal.invariant-loop-turn
invariant-loop-turn l = record {
  labels : HasLabels l.room (tables_model l.tables);
  others : KeepsOthers (tables_model l.initial.tables) (tables_model l.tables);
  words : (number : ℕ) → word_of (tables_model l.tables) number ≡ word_of (tables_model l.initial.tables) number;
  count : (list_at (tables_model l.tables).lists 0).count ≡ l._turn;
}
