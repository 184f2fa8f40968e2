-- What the pure pass writes of a program: its text 3.
use Rattle.std.specs.Prelude.{◌≡◌}
use Rattle.gier_tree.specs.Spell.{spell_program}
use Rattle.gier_tree.specs.TextsOf.{text3}
use Rattle.gier_tree.specs.Trees.{Program}
use Rattle.gier_text3.specs.PurePass.{pass3_text}

-- over the spelling of a program it writes text 3 of the program
abbrev pub WritesText3 : Type 0
WritesText3 = (program : Program) → pass3_text (spell_program program) ≡ text3 program
