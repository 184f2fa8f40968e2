-- What a block, a procedure and a controlled statement declare (Report 4.1.3 and 5): names of declarations, and labels.
use Rattle.std.specs.Prelude.{ℕ, List, [], ◌∷◌, ◌++◌}
use Rattle.gier_meaning.specs.Tree.{Name, Identifier, AnEntity, AProcedure, AFormalProcedure, AText, AStandard, AnActual, Formal}
use Rattle.gier_meaning.specs.Tree.{Statement, Labelled, Dummy, Compound, Block, Assign, GoTo, CallOf, If, IfElse, For}
use Rattle.gier_meaning.specs.Tree.{Statements, NoStatements, MoreStatements, Declarations, NoDeclarations, Variables, Arrays}
use Rattle.gier_meaning.specs.Tree.{Switch, Procedure}

-- an identifier in a declaring place, where nothing replaced it yet
abbrev pub identifier_in : Name → List ℕ
identifier_in (Identifier x) = x ∷ []
identifier_in (AnEntity n) = []
identifier_in (AProcedure n) = []
identifier_in (AFormalProcedure n) = []
identifier_in (AText bytes) = []
identifier_in (AStandard standard) = []
identifier_in (AnActual meant kind e) = []

abbrev pub identifiers_in : List Name → List ℕ
identifiers_in [] = []
identifiers_in (name ∷ names) = identifier_in name ++ identifiers_in names

-- the labels of the scope in which a statement stands: not those of its blocks and of its controlled statements
abbrev mutual
  pub labels : Statement → List ℕ
  labels (Labelled name s) = identifier_in name ++ labels s
  labels Dummy = []
  labels (Compound ss) = all_labels ss
  labels (Block line ds ss) = []
  labels (Assign lefts e) = []
  labels (GoTo line e) = []
  labels (CallOf e) = []
  labels (If test s) = labels s
  labels (IfElse test s other) = labels s ++ labels other
  labels (For line variable place elements s) = []

  pub all_labels : Statements → List ℕ
  all_labels NoStatements = []
  all_labels (MoreStatements s ss) = labels s ++ all_labels ss

-- what a declaration makes its identifier: an entity, or a procedure
pub data Declared : Type 0 where
  Quantity : ℕ → Declared
  ProcedureName : ℕ → Declared

abbrev pub quantities : List ℕ → List Declared
quantities [] = []
quantities (x ∷ xs) = Quantity x ∷ quantities xs

abbrev pub procedures : List ℕ → List Declared
procedures [] = []
procedures (x ∷ xs) = ProcedureName x ∷ procedures xs

-- the identifiers of declarations, in source order
abbrev pub declared_names : Declarations → List Declared
declared_names NoDeclarations = []
declared_names (Variables kind names ds) = quantities (identifiers_in names) ++ declared_names ds
declared_names (Arrays kind line names bounds ds) = quantities (identifiers_in names) ++ declared_names ds
declared_names (Switch line name elements ds) = quantities (identifier_in name) ++ declared_names ds
declared_names (Procedure line kind own name formals body ds) = procedures (identifier_in name) ++ declared_names ds

-- those of a block: of its declarations, then its labels
abbrev pub of_block : Declarations → Statements → List Declared
of_block ds ss = declared_names ds ++ quantities (all_labels ss)

abbrev pub identifier_of : Declared → ℕ
identifier_of (Quantity x) = x
identifier_of (ProcedureName x) = x

abbrev pub identifiers_of : List Declared → List ℕ
identifiers_of [] = []
identifiers_of (d ∷ ds) = identifier_of d ∷ identifiers_of ds

abbrev pub formal_identifiers : List Formal → List ℕ
formal_identifiers [] = []
formal_identifiers (formal ∷ formals) = formal.identifier ∷ formal_identifiers formals

-- those of a procedure: its formals, then the labels of its body
abbrev pub of_procedure : List Formal → Statement → List ℕ
of_procedure formals body = formal_identifiers formals ++ labels body
