-- The room of a whole program: text 7 tells it by the scopes of the program, the meaning by what its store holds before anything is
-- executed, which is nothing. Both give the same words.
use Rattle.std.specs.Prelude.{◌≡◌, ◌+◌, ℕ, List}
use Rattle.gier_tree.specs.Coded.{scopes_of}
use Rattle.gier_tree.specs.Need.{need_group}
use Rattle.gier_tree.specs.Places.{program_places}
use Rattle.gier_tree.specs.Room.{block_header, room_program}
use Rattle.gier_tree.specs.Trees.{LabelPlace, Group, Program, MkProgram}
use Rattle.gier_meaning.specs.Plain.{plain}
use Rattle.gier_meaning.specs.Room.{program_room}
use Rattle.gier_meaning.specs.Scopes.{quantities, labels}
use Rattle.gier_meaning.specs.Standing.{initial_state}
use Rattle.gier_env.specs.Closures.{what_of}
use Rattle.gier_env.specs.Env.{Env, Inside, Outermost, NoBindings, with_entities}
use Rattle.gier_env.specs.Standing.{standard_bindings}

-- what identifiers mean where the program begins
abbrev pub first_env : Program → Env
first_env t = Inside (with_entities 0 (quantities (labels (plain t).statement)) NoBindings) (Inside standard_bindings Outermost)

abbrev pub ProgramsAreEqual : Type 0
ProgramsAreEqual = (t : Program) (unread : List ℕ) (permitted : ℕ)
    → room_program t ≡ program_room (what_of (first_env t) (initial_state unread permitted)) (plain t).statement

-- text 7 asks the places of the program, which tell the same
abbrev pub PlacesTellTheNeed : Type 0
PlacesTellTheNeed = (ls : List LabelPlace) (g : Group) (l : ℕ)
    → block_header + need_group (scopes_of (program_places (MkProgram ls g l))) g ≡ room_program (MkProgram ls g l)
