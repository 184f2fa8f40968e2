-- The rooms of a program's blocks, those of loops and procedures left out: each is smaller than what an address tells.
use Rattle.std.specs.Prelude.{◌<◌, ◌^◌, ◌+◌, suc, ⊤}
use Rattle.gier_tree.specs.Coded.{scopes_of}
use Rattle.gier_tree.specs.Entries.{block_entries, numbers_unconditional}
use Rattle.gier_tree.specs.Need.{need_block}
use Rattle.gier_tree.specs.OwnCount.{owns_in_unconditional}
use Rattle.gier_tree.specs.Places.{Places, block_places, program_places}
use Rattle.gier_tree.specs.Room.{block_words}
use Rattle.gier_tree.specs.Texts.{Where, further, behind_statement, behind_declaration, behind_declarations, inner}
use Rattle.gier_tree.specs.Trees.{Group, MkBlock, MkCompound, Statements, NoStatements}
use Rattle.gier_tree.specs.Trees.{MoreStatements, Statement, OneUnconditional, OneConditional, OneLoop, Unconditional}
use Rattle.gier_tree.specs.Trees.{MkUnconditional, Basic, OneGroup, Assign, Jump, CallStatement, Dummy, Conditional, IfThen}
use Rattle.gier_tree.specs.Trees.{IfElse, IfLoop, Program, MkProgram}
use Rattle.gier_fair.specs.InScope.{in_program}

abbrev mutual
  pub RoomStatement : Places → Where → Statement → Type 0
  RoomStatement p w (OneUnconditional u) = RoomUnconditional p w u
  RoomStatement p w (OneConditional c) = RoomConditional p w c
  RoomStatement p w (OneLoop f) = ⊤

  pub RoomStatements : Places → Where → Statements → Type 0
  RoomStatements p w NoStatements = ⊤
  RoomStatements p w (MoreStatements l s ss) = RoomStatement p w s × RoomStatements p (behind_statement w s) ss

  pub RoomUnconditional : Places → Where → Unconditional → Type 0
  RoomUnconditional p w (MkUnconditional ls b) = RoomBasic p w b

  pub RoomBasic : Places → Where → Basic → Type 0
  RoomBasic p w (OneGroup g) = RoomGroup p w g
  RoomBasic p w (Assign q qs e) = ⊤
  RoomBasic p w (Jump l e) = ⊤
  RoomBasic p w (CallStatement c) = ⊤
  RoomBasic p w Dummy = ⊤

  pub RoomGroup : Places → Where → Group → Type 0
  RoomGroup p w (MkBlock l d m ds s ss n) =
      let q = block_places (suc w.level) w.numbers d ds s ss p in
      let within = behind_declarations (behind_declaration (inner w (block_entries d ds s ss)) d) ds in
      (block_words d ds + need_block (scopes_of q) d ds s ss < 2 ^ 24)
      × RoomStatement q within s × RoomStatements q (behind_statement within s) ss
  RoomGroup p w (MkCompound l s ss m) = RoomStatement p w s × RoomStatements p (behind_statement w s) ss

  pub RoomConditional : Places → Where → Conditional → Type 0
  RoomConditional p w (IfThen ls l e m u) = RoomUnconditional p w u
  RoomConditional p w (IfElse ls l e m u n s) =
      RoomUnconditional p w u × RoomStatement p (further w (numbers_unconditional u) (owns_in_unconditional u)) s
  RoomConditional p w (IfLoop ls l e m f) = ⊤

abbrev pub RoomProgram : Program → Type 0
RoomProgram (MkProgram ls g l) =
    let t = MkProgram ls g l in
    RoomGroup (program_places t) (in_program t) g
