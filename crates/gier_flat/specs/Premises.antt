-- What the law asks of a hoisted program beside that it is of the part of the language for which it is proved.
use Rattle.std.specs.Prelude.{◌<◌, ◌+◌, ◌^◌}
use Rattle.gier_tree.specs.Room.{block_header}
use Rattle.gier_tree.specs.Text7.{code_program}
use Rattle.gier_tree.specs.Trees.{Program}
use Rattle.gier_tree.specs.Words.{words_in}
use Rattle.gier_complete.specs.Whole.{program_need}
use Rattle.gier_fair.specs.InScope.{IsInScope}
use Rattle.gier_placed.specs.Laws.{HasFewLabels}
use Rattle.gier_flat.specs.Fair.{FairProgram}

pub record Premises (t : Program) : Type 0 where
  -- the part of the language, and its scopes are right
  pub part : FairProgram t
  pub scopes : IsInScope t
  -- its text 7 is short and has no more labels than there are numbers for those that are declared
  pub short : words_in (code_program t) < 2 ^ 24
  pub few : HasFewLabels t
  -- its room is known
  pub room : block_header + program_need t < 2 ^ 24
