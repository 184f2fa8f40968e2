-- Faults in the heading of a procedure (Report 5.4.3 to 5.4.5): too many formals, and a formal by value that is neither integer nor
-- Boolean.
use Rattle.std.specs.Prelude.{◌++◌, ◌&&◌, ℕ, suc, Bool, true, false, not, List, [], ◌∷◌}
use Rattle.std.specs.List.{flat_map}
use Rattle.gier_tree.specs.declared.kind.Kind.{Kind}
use Rattle.gier_tree.specs.declared.kind.Kind.TheVariants.{IntegerValue, BooleanValue}
use Rattle.gier_tree.specs.Declaring.{formals_of}
use Rattle.gier_tree.specs.Described.{kind_in}
use Rattle.gier_tree.specs.Trees.{Name, NextName, MkNames, Formals, NoFormals, FormalList, Heading, MkHeading}
use Rattle.gier_scope.specs.Places.{value_places}
use Rattle.gier_scope.specs.Scopes.{scope_of, declares}
use Rattle.gier_kinds.specs.ExprFaults.{most_actuals, too_long}
use Rattle.gier_kinds.specs.Faults.{WrongValue, TypeFaults, falls, on_symbol}

-- behind so many formals
abbrev pub faults_commas : (before : ℕ) → List NextName → TypeFaults
faults_commas before [] = []
faults_commas before (n ∷ ns) = on_symbol n.comma (too_long most_actuals before) ++ faults_commas (suc before) ns

abbrev pub faults_formals : Formals → TypeFaults
faults_formals NoFormals = []
faults_formals (FormalList l (MkNames x ns) m) = faults_commas 1 ns

abbrev pub formal_list : Heading → Formals
formal_list (MkHeading t l x fs m vs ss) = fs

abbrev pub is_value : Kind → Bool
is_value IntegerValue = true
is_value BooleanValue = true
is_value kind = false

-- a place in the value list
abbrev pub value_fault : Heading → Name → TypeFaults
value_fault h x =
    on_symbol x.line (falls (declares (scope_of (formals_of h)) x.number && not (is_value (kind_in h x.number))) WrongValue)

abbrev pub faults_heading : Heading → TypeFaults
faults_heading h = faults_formals (formal_list h) ++ flat_map (value_fault h) (value_places h)
