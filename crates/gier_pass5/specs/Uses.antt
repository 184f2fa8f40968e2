-- What is written for a used identifier.
use Rattle.std.specs.Prelude.{ℕ, List, [], ◌∷◌, if◌then◌else◌}
use Rattle.gier_symbol.specs.declared.symbol.Symbol.{Symbol}
use Rattle.gier_symbol.specs.declared.tag.Tag.TheVariants.{Used, Place, Count}
use Rattle.gier_symbol.specs.Tags.{number_of}
use Rattle.gier_pass5.specs.declared.binding.Binding.{Binding}
use Rattle.gier_pass5.specs.Kinds.{class_at, is_counted}

-- its description and place, and a count where the kind has one
abbrev pub symbols_of : Binding → ℕ → List Symbol
symbols_of meant at_line =
    record { tag = number_of Used; value = meant.kind; line = at_line }
    ∷ record { tag = number_of Place; value = meant.place; line = at_line }
    ∷ (if is_counted (class_at meant.kind) then record { tag = number_of Count; value = meant.count; line = at_line } ∷ [] else [])
