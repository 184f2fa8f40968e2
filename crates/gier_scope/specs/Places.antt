-- Faults at single places: one that declares, one that uses, one in the heading of a procedure (Report 2.4.3, 5, 5.2.4.2, 5.4.3
-- to 5.4.5), and the first symbol of a block or procedure.
use Rattle.std.specs.Prelude.{◌++◌, ◌&&◌, ℕ, not, nat_lt, List, [], ◌∷◌}
use Rattle.std.specs.List.{flat_map}
use Rattle.gier_tree.specs.Declaring.{list_of, formals_of}
use Rattle.gier_tree.specs.Trees.{Name, ValuePart, NoValues, ValueList, Heading, MkHeading}
use Rattle.gier_scope.specs.Faults.{DeclaredTwice, NotDeclared, LocalInBound, NotFormal, SpecifiedTwice, NotSpecified, TooDeep}
use Rattle.gier_scope.specs.Faults.{ScopeFaults, fault_where}
use Rattle.gier_scope.specs.Scopes.{Scope, scope_of, declares, is_declared}

-- of the places of a scope that declare one identifier, each but the first one has a fault
abbrev pub declared_twice : (before : Scope) → List Name → ScopeFaults
declared_twice before [] = []
declared_twice before (x ∷ xs) =
    fault_where (declares before x.number) DeclaredTwice x.line ++ declared_twice (x.number ∷ before) xs

-- a use has a fault where no scope around it declares the identifier
abbrev pub not_declared : List Scope → List Name → ScopeFaults
not_declared scopes xs = flat_map (λ x. fault_where (not (is_declared scopes x.number)) NotDeclared x.line) xs

-- a use in a bound has a fault also where the bound's own block, the innermost scope, declares the identifier: bounds are
-- evaluated before the block's quantities are there
abbrev pub in_bound : List Scope → Name → ScopeFaults
in_bound [] x = []
in_bound (block ∷ outer) x =
    fault_where (declares block x.number) LocalInBound x.line
    ++ fault_where (not (is_declared (block ∷ outer) x.number)) NotDeclared x.line

abbrev pub in_bounds : List Scope → List Name → ScopeFaults
in_bounds scopes xs = flat_map (in_bound scopes) xs

-- the places in the specifications of a heading, and in its value list
abbrev pub specified_places : Heading → List Name
specified_places (MkHeading t l x fs m vs ss) = flat_map (λ s. list_of s.names) ss

abbrev pub names_by_value : ValuePart → List Name
names_by_value NoValues = []
names_by_value (ValueList l ns m) = list_of ns

abbrev pub value_places : Heading → List Name
value_places (MkHeading t l x fs m vs ss) = names_by_value vs

-- a place there has a fault where no formal has the identifier, and where a place before it in the same part has it
abbrev pub heading_places : (formals before : Scope) → List Name → ScopeFaults
heading_places formals before [] = []
heading_places formals before (x ∷ xs) =
    fault_where (not (declares formals x.number)) NotFormal x.line
    ++ fault_where (declares formals x.number && declares before x.number) SpecifiedTwice x.line
    ++ heading_places formals (x.number ∷ before) xs

-- the first place of a formal has a fault where no specification has it, each other one since it declares again
abbrev pub formal_places : (specified before : Scope) → List Name → ScopeFaults
formal_places specified before [] = []
formal_places specified before (x ∷ xs) =
    fault_where (declares before x.number) DeclaredTwice x.line
    ++ fault_where (not (declares before x.number) && not (declares specified x.number)) NotSpecified x.line
    ++ formal_places specified (x.number ∷ before) xs

-- the formal list, the value list and the specifications, in this order
abbrev pub heading_faults : Heading → ScopeFaults
heading_faults h =
    formal_places (scope_of (specified_places h)) [] (formals_of h)
    ++ heading_places (scope_of (formals_of h)) [] (value_places h)
    ++ heading_places (scope_of (formals_of h)) [] (specified_places h)

-- levels go up to this one; the symbol that begins a block or procedure above it has a fault
abbrev pub greatest_level : ℕ
greatest_level = 255

abbrev pub too_deep : (level line : ℕ) → ScopeFaults
too_deep level line = fault_where (nat_lt greatest_level level) TooDeep line
