-- A program whose text 3 has more than twice as many symbols.
use Rattle.std.specs.Prelude.{◌≡◌, ℕ, List, [], codes, length, None}
use Rattle.gier_symbol.specs.Assembly.{assembly}
use Rattle.gier_symbol.specs.Reading.{symbols_of}
use Rattle.gier_tree.specs.Spell.{spell_program}
use Rattle.gier_tree.specs.SpellExamples.{at}
use Rattle.gier_tree.specs.Structure.{IsWritten}
use Rattle.gier_tree.specs.TextsOf.{text3}
use Rattle.gier_tree.specs.Trees.{Statement, OneUnconditional, MkUnconditional, Dummy, NoStatements, MkHeading, NoFormals, NoValues}
use Rattle.gier_tree.specs.Trees.{DeclareProcedure, NoDeclarations, MkBlock, Program, MkProgram}

abbrev pub procedure_text : List ℕ
procedure_text = codes "_begin _procedure p;;_end"

abbrev pub nothing : Statement
nothing = OneUnconditional (MkUnconditional [] Dummy)

abbrev pub procedure_program : Program
procedure_program =
    MkProgram [] (MkBlock 1 (DeclareProcedure (MkHeading None 1 (at 8 1) NoFormals 1 NoValues []) nothing) 1 NoDeclarations nothing
    NoStatements 1) 1

-- a block, a procedure and its body are within marks
pub record IsMarked : Type 0 where
  pub written : IsWritten procedure_program (assembly (symbols_of procedure_text).symbols).symbols
  pub symbols : length (spell_program procedure_program) ≡ 7
  pub marked : length (text3 procedure_program) ≡ 15
