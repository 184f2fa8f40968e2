-- Text 4 said of the program as it was written: where it has own quantities, a block around it declares them, and nothing is
-- renamed. It says nothing of text 5, in which places count.
use Rattle.std.specs.Prelude.{◌≡◌, List, [], ◌∷◌, length}
use Rattle.gier_symbol.specs.declared.symbol.Symbol.{Symbol}
use Rattle.gier_tree.specs.Declaring.{own_names}
use Rattle.gier_tree.specs.Hoist.{first_line, end_line, without_own, last_own, hoisted_declarations}
use Rattle.gier_tree.specs.OwnCount.{owns_of_program}
use Rattle.gier_tree.specs.TextsOf.{names_of_owns, text4, text_by, text_program}
use Rattle.gier_tree.specs.Trees.{Declaration, Statement, OneUnconditional, MkUnconditional, OneGroup, NoStatements, MkBlock}
use Rattle.gier_tree.specs.Trees.{Program, MkProgram}
use Rattle.gier_tree.specs.Written.{Collected}
use Rattle.gier_written.specs.Renamed.{AreSmall}

-- a program as the statement of a block
abbrev pub as_statement : Program → Statement
as_statement (MkProgram ls g l) = OneUnconditional (MkUnconditional ls (OneGroup g))

abbrev pub frame_by : List Declaration → Program → Program
frame_by [] t = t
frame_by (d ∷ ds) t =
    MkProgram [] (MkBlock (first_line t) (without_own d 0) (last_own d) (hoisted_declarations ds (length (own_names d)))
    (as_statement t) NoStatements (end_line t)) (end_line t)

-- the program in the block that declares its own quantities
abbrev pub framed : Program → Program
framed t = frame_by (owns_of_program t) t

-- text 4, without a renaming
abbrev pub written_text4 : (written : Program) → List Symbol
written_text4 t = text_program (text_by Collected t) 0 (framed t)

abbrev pub IsFramed : Type 0
IsFramed = (t : Program) → AreSmall (names_of_owns (owns_of_program t)) → text4 t ≡ written_text4 t
