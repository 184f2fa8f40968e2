-- Maps from identifiers to names, by which trees are closed. A use and a left part may differ: the identifier of a procedure
-- as a left part stays until that procedure is activated, and then it means the cell of its value (Report 5.4.4).
use Rattle.std.specs.Prelude.{◌==◌, ℕ, suc, List, [], ◌∷◌, ◌++◌, if◌then◌else◌}
use Rattle.gier_agree.specs.declared.kind.Kind.{Kind}
use Rattle.gier_agree.specs.declared.kind.Kind.TheVariants as kind
use Rattle.gier_meaning.specs.Tree.{Name, Identifier, AnEntity, AProcedure}
use Rattle.gier_meaning.specs.Scopes.{Declared, Quantity, ProcedureName}
use Rattle.gier_meaning.specs.Outcome.{is_among}

pub record Map : Type 0 where
  pub used : ℕ → Name
  pub assigned : ℕ → Name

pub data Binding : Type 0 where
  Means : ℕ → Name → Binding
  Returns : ℕ → (cell : ℕ) → Binding

abbrev pub used_in : List Binding → ℕ → Name
used_in [] x = Identifier x
used_in (Means y name ∷ bindings) x = if x == y then name else used_in bindings x
used_in (Returns y cell ∷ bindings) x = used_in bindings x

abbrev pub assigned_in : List Binding → ℕ → Name
assigned_in [] x = Identifier x
assigned_in (Means y name ∷ bindings) x = if x == y then name else assigned_in bindings x
assigned_in (Returns y cell ∷ bindings) x = if x == y then AnEntity cell else assigned_in bindings x

abbrev pub map_of : List Binding → Map
map_of bindings = record { used = used_in bindings; assigned = assigned_in bindings }

abbrev pub hidden_from : List ℕ → (ℕ → Name) → ℕ → Name
hidden_from xs names x = if is_among x xs then Identifier x else names x

-- what an inner scope declares stays as it is
abbrev pub map_without : List ℕ → Map → Map
map_without xs m = record { used = hidden_from xs m.used; assigned = hidden_from xs m.assigned }

-- a function's own left parts stay until it is activated
abbrev pub own_left : Kind → ℕ → List ℕ
own_left kind.IntegerProcedure own = own ∷ []
own_left kind.BooleanProcedure own = own ∷ []
own_left _ own = []

-- the same of a procedure with its own identifier
abbrev pub hidden_in_body : Kind → (own : ℕ) → List ℕ → Map → Map
hidden_in_body kind own xs m = record { used = hidden_from xs m.used; assigned = hidden_from (own_left kind own ++ xs) m.assigned }

-- entities from n on, for these identifiers
abbrev pub entity_bindings : ℕ → List Declared → List Binding
entity_bindings n [] = []
entity_bindings n (Quantity x ∷ ds) = Means x (AnEntity n) ∷ entity_bindings (suc n) ds
entity_bindings n (ProcedureName x ∷ ds) = Means x (AProcedure n) ∷ entity_bindings (suc n) ds
