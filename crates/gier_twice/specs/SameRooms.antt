-- Rooms and needs are defined twice: over the tree that is spelled, for texts, and over the tree that is executed, for meanings.
-- The two are equal, for right trees and wrong ones.
use Rattle.std.specs.Prelude.{◌≡◌, ℕ, List, Option}
use Rattle.gier_tree.specs.Trees as tree
use Rattle.gier_tree.specs.Room as tree_room
use Rattle.gier_tree.specs.Described.{Scopes, block_scopes, procedure_scopes, turn_scopes}
use Rattle.gier_meaning.specs.Plain.{expr, statement, statements, declaration, declarations, formals, procedure_kind}
use Rattle.gier_meaning.specs.Room as meaning
use Rattle.gier_meaning.specs.Tree.{Name, MoreStatements}
use Rattle.gier_meaning.specs.What.{What, in_block, in_procedure, in_controlled}
use Rattle.gier_twice.specs.SameNeeds.{AreAlike}

-- what scopes tell and what a meaning asks stay alike within a block, a procedure and a controlled statement
abbrev pub BlocksStayAlike : Type 0
BlocksStayAlike = (scopes : Scopes) (what : Name → What) → AreAlike scopes what → (d : tree.Declaration) (ds : tree.Declarations)
    (s : tree.Statement) (ss : tree.Statements)
    → AreAlike (block_scopes d ds s ss scopes)
    (in_block (declaration d (declarations ds)) (MoreStatements (statement s) (statements ss)) what)

abbrev pub ProceduresStayAlike : Type 0
ProceduresStayAlike = (scopes : Scopes) (what : Name → What) → AreAlike scopes what → (type : Option tree.TypeWord) (l : ℕ)
    (x : tree.Name) (fs : tree.Formals) (m : ℕ) (vs : tree.ValuePart) (ss : List tree.Specification) (s : tree.Statement)
    → AreAlike (procedure_scopes (tree.MkHeading type l x fs m vs ss) s scopes)
    (in_procedure (formals fs vs ss) (statement s) what)

abbrev pub TurnsStayAlike : Type 0
TurnsStayAlike = (scopes : Scopes) (what : Name → What) → AreAlike scopes what → (s : tree.Statement)
    → AreAlike (turn_scopes s scopes) (in_controlled (statement s) what)

-- the rooms of an evaluation, of a block and of a procedure, each in the scopes around it
abbrev pub EvaluationsAreEqual : Type 0
EvaluationsAreEqual = (scopes : Scopes) (what : Name → What) → AreAlike scopes what → (e : tree.Expr)
    → tree_room.room_evaluation scopes e ≡ meaning.evaluation_room what (expr e)

abbrev pub BlocksAreEqual : Type 0
BlocksAreEqual = (scopes : Scopes) (what : Name → What) → AreAlike scopes what → (d : tree.Declaration) (ds : tree.Declarations)
    (s : tree.Statement) (ss : tree.Statements)
    → tree_room.room_block scopes d ds s ss
    ≡ meaning.block_room what (declaration d (declarations ds)) (MoreStatements (statement s) (statements ss))

abbrev pub ProceduresAreEqual : Type 0
ProceduresAreEqual = (scopes : Scopes) (what : Name → What) → AreAlike scopes what → (type : Option tree.TypeWord) (l : ℕ)
    (x : tree.Name) (fs : tree.Formals) (m : ℕ) (vs : tree.ValuePart) (ss : List tree.Specification) (s : tree.Statement)
    → tree_room.room_procedure scopes (tree.MkHeading type l x fs m vs ss) s
    ≡ meaning.procedure_room what (procedure_kind type) (formals fs vs ss) (statement s)
