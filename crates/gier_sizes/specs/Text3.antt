-- How many symbols text 3 of a program has: its own, with the marks of its constructs and the numbers of own quantities.
use Rattle.std.specs.Prelude.{◌*◌, ◌≤◌, ℕ, List, length}
use Rattle.gier_symbol.specs.Assembly.{assembly}
use Rattle.gier_symbol.specs.Reading.{symbols_of}
use Rattle.gier_tree.specs.Spell.{spell_program}
use Rattle.gier_tree.specs.Structure.{IsWritten}
use Rattle.gier_tree.specs.TextsOf.{text3}
use Rattle.gier_tree.specs.Trees.{Program}
use Rattle.gier_sizes.specs.Symbols.{most_symbols}

-- so many for each symbol of the program
abbrev pub growth_of_text3 : ℕ
growth_of_text3 = 3

abbrev pub Text3IsShort : Type 0
Text3IsShort = (t : Program) → length (text3 t) ≤ growth_of_text3 * length (spell_program t)

-- and so, of the program that a text is, by the bytes of the text
abbrev pub Text3FitsItsBytes : Type 0
Text3FitsItsBytes =
    (text : List ℕ) (t : Program) → IsWritten t (assembly (symbols_of text).symbols).symbols
    → length (text3 t) ≤ growth_of_text3 * most_symbols text
