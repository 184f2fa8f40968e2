-- The texts 3 to 6 of a program. Text 3 is that of the program as it was written, the others are those of the hoisted one.
use Rattle.std.specs.Prelude.{ℕ, ◌++◌, List, [], ◌∷◌, length}
use Rattle.gier_symbol.specs.declared.symbol.Symbol.{Symbol}
use Rattle.gier_symbol.specs.declared.tag.Tag.TheVariants.{TextEnd}
use Rattle.gier_symbol.specs.ByTag.{sym}
use Rattle.gier_tree.specs.declared.construct.Construct.TheVariants.{Program as MProgram}
use Rattle.gier_tree.specs.Declaring.{own_names}
use Rattle.gier_tree.specs.Entries.{program_entries, entries_numbers}
use Rattle.gier_tree.specs.Hoist.{hoist}
use Rattle.gier_tree.specs.Lines.{first_program, group_end}
use Rattle.gier_tree.specs.OwnCount.{owns_of_program}
use Rattle.gier_tree.specs.Places.{program_places}
use Rattle.gier_tree.specs.Texts.{entries, text_labels, text_group}
use Rattle.gier_tree.specs.Written.{Stage, Marked, Collected, Distributed, Polished, Text, opens, shuts}
use Rattle.gier_tree.specs.Trees.{Name, Declaration, Program, MkProgram}

-- the own quantities of a program, in the order of the text
abbrev pub names_of_owns : List Declaration → List Name
names_of_owns [] = []
names_of_owns (d ∷ ds) = own_names d ++ names_of_owns ds

-- a program, where the end of the text has this value
abbrev pub text_program : Text → (value : ℕ) → Program → List Symbol
text_program t value (MkProgram ls g l) =
    let u = MkProgram ls g l in
    opens MProgram (first_program u)
    ∷ entries t.stage (program_entries u) (first_program u)
    (text_labels ls
    (text_group t (program_places u) (record { level = 1; numbers = entries_numbers (program_entries u); owns = 0 }) g
    (shuts MProgram (group_end g) ∷ sym TextEnd value l ∷ [])))

abbrev pub text_by : Stage → (written : Program) → Text
text_by stage t = record { stage = stage; owns = names_of_owns (owns_of_program t) }

-- in text 3 the end has the number of own quantities
abbrev pub text3 : (written : Program) → List Symbol
text3 t = text_program (text_by Marked t) (length (names_of_owns (owns_of_program t))) t

abbrev pub text4 : (written : Program) → List Symbol
text4 t = text_program (text_by Collected t) 0 (hoist t)

abbrev pub text5 : (written : Program) → List Symbol
text5 t = text_program (text_by Distributed t) 0 (hoist t)

abbrev pub text6 : (written : Program) → List Symbol
text6 t = text_program (text_by Polished t) 0 (hoist t)
