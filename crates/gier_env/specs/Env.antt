-- Environments: an activation is a map from the identifiers that it declares to what they mean, and it names the activation
-- that encloses it. A turn of a controlled statement has such a map for its labels. The actual of a formal by name is an
-- expression with the environment of the call.
use Rattle.std.specs.Prelude.{◌==◌, ℕ, suc, List, [], ◌∷◌, Option, Some, None, if◌then◌else◌}
use Rattle.gier_agree.specs.declared.kind.Kind.{Kind}
use Rattle.gier_tree.specs.declared.kind.Kind.{Kind as Standard}
use Rattle.gier_meaning.specs.Tree as name
use Rattle.gier_meaning.specs.Tree.{Meant, Name, Identifier, Expr}
use Rattle.gier_meaning.specs.Scopes.{Declared, Quantity, ProcedureName}

mutual
  pub data Env : Type 0 where
    Outermost : Env
    Inside : Bindings → Env → Env

  pub data Bindings : Type 0 where
    NoBindings : Bindings
    Means : ℕ → Denoted → Bindings → Bindings
    -- the cell of a function's value, for the function's own left parts
    Returns : ℕ → (cell : ℕ) → Bindings → Bindings

  pub data Denoted : Type 0 where
    AnEntity : ℕ → Denoted
    AProcedure : ℕ → Denoted
    AFormalProcedure : ℕ → Denoted
    AText : List ℕ → Denoted
    AStandard : Standard → Denoted
    AnActual : Meant → Kind → Expr → Env → Denoted

abbrev pub found_in : Bindings → ℕ → Option Denoted → Option Denoted
found_in NoBindings x outer = outer
found_in (Means y denotation bindings) x outer = if x == y then Some denotation else found_in bindings x outer
found_in (Returns y cell bindings) x outer = found_in bindings x outer

-- what an identifier means: by the innermost activation that declares it; None where none does
abbrev pub found : Env → ℕ → Option Denoted
found Outermost x = None
found (Inside bindings env) x = found_in bindings x (found env x)

abbrev pub assigned_in : Bindings → ℕ → Option Denoted → Option Denoted
assigned_in NoBindings x outer = outer
assigned_in (Means y denotation bindings) x outer = if x == y then Some denotation else assigned_in bindings x outer
assigned_in (Returns y cell bindings) x outer = if x == y then Some (AnEntity cell) else assigned_in bindings x outer

-- the same of a left part, where a function's identifier means the cell of its value
abbrev pub denotation_as_left_part : Env → ℕ → Option Denoted
denotation_as_left_part Outermost x = None
denotation_as_left_part (Inside bindings env) x = assigned_in bindings x (denotation_as_left_part env x)

-- of a name in a tree. A tree keeps its identifiers here; any other name would mean what it is
abbrev pub denoted_by : (ℕ → Option Denoted) → Name → Option Denoted
denoted_by meaning (Identifier x) = meaning x
denoted_by meaning (name.AnEntity n) = Some (AnEntity n)
denoted_by meaning (name.AProcedure n) = Some (AProcedure n)
denoted_by meaning (name.AFormalProcedure n) = Some (AFormalProcedure n)
denoted_by meaning (name.AText bytes) = Some (AText bytes)
denoted_by meaning (name.AStandard standard) = Some (AStandard standard)
denoted_by meaning (name.AnActual meant kind e) = Some (AnActual meant kind e Outermost)

abbrev pub denotation : Env → Name → Option Denoted
denotation env name = denoted_by (found env) name

abbrev pub left_meaning : Env → Name → Option Denoted
left_meaning env name = denoted_by (denotation_as_left_part env) name

-- entities from n on for these identifiers, in front of others
abbrev pub with_entities : ℕ → List Declared → Bindings → Bindings
with_entities n [] bindings = bindings
with_entities n (Quantity x ∷ ds) bindings = Means x (AnEntity n) (with_entities (suc n) ds bindings)
with_entities n (ProcedureName x ∷ ds) bindings = Means x (AProcedure n) (with_entities (suc n) ds bindings)
