-- The labels of the turns of controlled statements (Report 4.6.1 and 4.6.6): each turn makes its own. What stands in a turn is
-- closed with them when it is reached; a tree that stands in none is closed already.
use Rattle.std.specs.Prelude.{ℕ, suc, List, [], ◌∷◌}
use Rattle.gier_meaning.specs.Tree.{Name, Expr, Exprs, Element, Statements, Declarations}
use Rattle.gier_meaning.specs.State.{ALabel, State, with_entity}
use Rattle.gier_meaning.specs.Scopes.{of_block, identifiers_of}
use Rattle.gier_meaning.specs.Maps.{Map, Binding, map_of, used_in, map_without}
use Rattle.gier_meaning.specs.Close.{close_name, close, close_lefts, close_elements, close_statements, close_declarations}

abbrev pub name_in_turn : List Binding → Name → Name
name_in_turn [] name = name
name_in_turn (binding ∷ turn) name = close_name (used_in (binding ∷ turn)) name

abbrev pub in_turn : List Binding → Expr → Expr
in_turn [] e = e
in_turn (binding ∷ turn) e = close (used_in (binding ∷ turn)) e

abbrev pub lefts_in_turn : List Binding → Exprs → Exprs
lefts_in_turn [] lefts = lefts
lefts_in_turn (binding ∷ turn) lefts = close_lefts (map_of (binding ∷ turn)) lefts

abbrev pub elements_in_turn : List Binding → List Element → List Element
elements_in_turn [] elements = elements
elements_in_turn (binding ∷ turn) elements = close_elements (map_of (binding ∷ turn)) elements

-- of a block, whose own identifiers stay
abbrev pub inner : List Binding → Declarations → Statements → Map
inner turn ds ss = map_without (identifiers_of (of_block ds ss)) (map_of turn)

abbrev pub declarations_in_turn : List Binding → Declarations → Statements → Declarations
declarations_in_turn [] ds ss = ds
declarations_in_turn (binding ∷ turn) ds ss = close_declarations (inner (binding ∷ turn) ds ss) ds

abbrev pub statements_in_turn : List Binding → Declarations → Statements → Statements
statements_in_turn [] ds ss = ss
statements_in_turn (binding ∷ turn) ds ss = close_statements (inner (binding ∷ turn) ds ss) ss

-- as many entities from n on as there are identifiers
abbrev pub entities_from : ℕ → List ℕ → List ℕ
entities_from n [] = []
entities_from n (x ∷ xs) = n ∷ entities_from (suc n) xs

abbrev pub labels_made : {K : Type 0} → List ℕ → State K → State K
labels_made [] s = s
labels_made (n ∷ ns) s = labels_made ns (with_entity n ALabel s)
