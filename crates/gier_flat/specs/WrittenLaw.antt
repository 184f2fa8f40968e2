-- The law of programs as they are written: one without faults, that uses only the part of the language, and isn't too long.
use Rattle.std.specs.Prelude.{◌≡◌, ◌+◌, ◌<◌, ◌^◌, ℕ, List, []}
use Rattle.gier_order.specs.Flat.Run.{flat}
use Rattle.gier_tree.specs.Hoist.{hoist}
use Rattle.gier_tree.specs.Object.{code}
use Rattle.gier_tree.specs.Room.{block_header}
use Rattle.gier_tree.specs.Text7.{text7}
use Rattle.gier_tree.specs.Trees.{Program}
use Rattle.gier_tree.specs.Words.{words_in}
use Rattle.gier_env.specs.Meaning.{meaning}
use Rattle.gier_scope.specs.ScopeFaults.{scope_faults}
use Rattle.gier_kinds.specs.TypeFaults.{type_faults}
use Rattle.gier_complete.specs.Whole.{program_need}
use Rattle.gier_fair.specs.FewNames.{HasFewNames}
use Rattle.gier_placed.specs.Laws.{HasFewLabels}
use Rattle.gier_flat.specs.Alike.{TellsTheSame}
use Rattle.gier_flat.specs.BlockRooms.{RoomProgram}
use Rattle.gier_flat.specs.Part.{PartProgram}

-- of a written program
pub record IsFaultless (t : Program) : Type 0 where
  pub few_names : HasFewNames t
  pub scopes : scope_faults t ≡ []
  pub types : type_faults (hoist t) ≡ []
  -- hoisted, it uses only the part
  pub part : PartProgram (hoist t)
  -- its code is short, with no more labels than there are numbers for those that are declared, and its rooms have addresses
  pub short : words_in (text7 t) < 2 ^ 24
  pub few : HasFewLabels (hoist t)
  pub room : block_header + program_need (hoist t) < 2 ^ 24
  pub blocks : RoomProgram (hoist t)

abbrev pub FaultlessRuns : Type 0
FaultlessRuns =
    (t : Program) → IsFaultless t → (input : List ℕ) (steps size : ℕ) → size < 2 ^ 24
    → TellsTheSame (text7 t) (flat (code t) 0 input steps size) (meaning size (hoist t) input steps)
