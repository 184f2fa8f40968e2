-- Where a part of a program stands: the scopes around it, what its own scope declares before it, and its level. A part is
-- within a block, a procedure, a controlled statement or the program; only the first two have a level of their own.
use Rattle.std.specs.Prelude.{◌++◌, ℕ, suc, List, [], ◌∷◌}
use Rattle.gier_tree.specs.Declaring.{formals_of, labels_of_statement}
use Rattle.gier_tree.specs.OwnCount.{owns_of_program}
use Rattle.gier_tree.specs.Trees.{Name, LabelPlace, Heading, Declaration, Declarations, Statement, Statements, Program}
use Rattle.gier_scope.specs.Scopes.{Scope, scope_of, standard_scope, label_names, block_scope, procedure_scope, turn_scope}
use Rattle.gier_scope.specs.Scopes.{program_scope}

-- the innermost scope is the first one
pub record Around : Type 0 where
  pub scopes : List Scope
  pub before : Scope
  pub level : ℕ

-- behind places that declare in the same scope
abbrev pub behind : List Name → Around → Around
behind xs a = record { scopes = a.scopes; before = scope_of xs ++ a.before; level = a.level }

abbrev pub behind_labels : List LabelPlace → Around → Around
behind_labels ls a = behind (label_names ls) a

abbrev pub behind_statement : Statement → Around → Around
behind_statement s a = behind_labels (labels_of_statement s []) a

abbrev pub in_block : Declaration → Declarations → Statement → Statements → Around → Around
in_block d ds s ss a = record { scopes = block_scope d ds s ss ∷ a.scopes; before = []; level = suc a.level }

-- within the body of a procedure, behind its formals
abbrev pub in_procedure : Heading → Statement → Around → Around
in_procedure h s a = record { scopes = procedure_scope h s ∷ a.scopes; before = scope_of (formals_of h); level = suc a.level }

abbrev pub in_turn : Statement → Around → Around
in_turn s a = record { scopes = turn_scope s ∷ a.scopes; before = []; level = a.level }

-- a program has level 1; where it has own quantities, their block has level 2 and stands around all that was written
abbrev pub level_by : List Declaration → ℕ
level_by [] = 1
level_by (d ∷ ds) = 2

abbrev pub in_program : Program → Around
in_program t = record { scopes = program_scope t ∷ standard_scope ∷ []; before = []; level = level_by (owns_of_program t) }
