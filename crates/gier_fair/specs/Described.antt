-- What identifiers are in their places.
use Rattle.std.specs.Prelude.{◌≢◌, List}
use Rattle.std.specs.List.{AllByRecursion}
use Rattle.gier_tree.specs.declared.kind.Kind.TheVariants.{Undeclared}
use Rattle.gier_tree.specs.Described.{Scopes}
use Rattle.gier_tree.specs.Places.{Places}
use Rattle.gier_tree.specs.Trees.{Name}

abbrev pub described : Places → Scopes
described p x = (p x).what

abbrev pub AreDeclared : Places → List Name → Type 0
AreDeclared p xs = AllByRecursion (λ x. (p x.number).what.kind ≢ Undeclared) xs
