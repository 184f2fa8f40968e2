-- Scopes (Report 2.4.3, 4.1.3, 4.6.6, 5, 5.4.3): the identifiers that a block, a procedure, a controlled statement or a program
-- declares, in the order of the text. It speaks of programs as they were written: an own quantity is declared in the block of
-- its declaration. What an identifier is declared as isn't told here, since no fault of scopes asks it.
use Rattle.std.specs.Prelude.{◌==◌, ◌++◌, ℕ, Bool, List, [], ◌∷◌, map}
use Rattle.std.specs.List.{list_any}
use Rattle.gier_tree.specs.Declaring.{list_of, names_of_segment, names_of_segments, own_names, formals_of, name_of_heading}
use Rattle.gier_tree.specs.Declaring.{labels_of_statement, labels_of_statements, labels_of_program}
use Rattle.gier_tree.specs.Trees.{Name, LabelPlace, Heading, Declaration, DeclareType, DeclareOwn, DeclareArrays}
use Rattle.gier_tree.specs.Trees.{DeclareOwnArrays, DeclareSwitch, DeclareProcedure, Declarations, NoDeclarations}
use Rattle.gier_tree.specs.Trees.{MoreDeclarations, Statement, Statements, Program}

-- the numbers of the identifiers that it declares
abbrev pub Scope : Type 0
Scope = List ℕ

abbrev pub scope_of : List Name → Scope
scope_of xs = map (λ x. x.number) xs

abbrev pub declares : Scope → (x : ℕ) → Bool
declares scope x = list_any (λ y. y == x) scope

-- looking outwards from a use: whether one of the scopes around it declares the identifier
abbrev pub is_declared : List Scope → (x : ℕ) → Bool
is_declared scopes x = list_any (λ scope. declares scope x) scopes

-- the standard identifiers stand in the outermost scope (3.2.4)
abbrev pub standard_scope : Scope
standard_scope = 0 ∷ 1 ∷ 2 ∷ 3 ∷ 4 ∷ 5 ∷ 6 ∷ 7 ∷ []

-- the places of a declaration that declare
abbrev pub declared_by : Declaration → List Name
declared_by (DeclareType t ns) = list_of ns
declared_by (DeclareOwn l t ns) = list_of ns
declared_by (DeclareArrays t l s ss) = names_of_segment s ++ names_of_segments ss
declared_by (DeclareOwnArrays k t l s ss) = own_names (DeclareOwnArrays k t l s ss)
declared_by (DeclareSwitch l x m e es) = x ∷ []
declared_by (DeclareProcedure h s) = name_of_heading h ∷ []

abbrev pub declared_by_all : Declarations → List Name
declared_by_all NoDeclarations = []
declared_by_all (MoreDeclarations d l ds) = declared_by d ++ declared_by_all ds

abbrev pub label_names : List LabelPlace → List Name
label_names ls = map (λ l. l.name) ls

-- a block declares what its declarations do, and the labels of its statements
abbrev pub block_scope : Declaration → Declarations → Statement → Statements → Scope
block_scope d ds s ss =
    scope_of (declared_by d ++ declared_by_all ds ++ label_names (labels_of_statement s (labels_of_statements ss [])))

-- a procedure declares its formals, and the labels of its body that stand in no block there
abbrev pub procedure_scope : Heading → Statement → Scope
procedure_scope h s = scope_of (formals_of h ++ label_names (labels_of_statement s []))

-- labels within a controlled statement are its own
abbrev pub turn_scope : Statement → Scope
turn_scope s = scope_of (label_names (labels_of_statement s []))

abbrev pub program_scope : Program → Scope
program_scope t = scope_of (label_names (labels_of_program t))
