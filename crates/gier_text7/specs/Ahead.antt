-- What the pass sees ahead: how many elements a switch has, whether an element of a for list has `_while`, and the symbols of a
-- step expression, which it codes twice.
use Rattle.std.specs.Prelude.{◌==◌, ℕ, suc, Bool, true, false, List, [], ◌∷◌}
use Rattle.gier_symbol.specs.declared.symbol.Symbol.{Symbol}
use Rattle.gier_symbol.specs.declared.tag.Tag.{Tag}
use Rattle.gier_symbol.specs.declared.tag.Tag.TheVariants.{OpenMark, ShutMark, While as TWhile, Step, Until}
use Rattle.gier_tree.specs.declared.construct.Construct.TheVariants.{SwitchDeclaration, SwitchElement, ForElement}
use Rattle.gier_text7.specs.Tags.{tag_at, is_mark}

-- the elements of the switch whose symbols come
abbrev pub elements_by : Tag → (element switch : Bool) → ℕ → ℕ
elements_by OpenMark true switch n = suc n
elements_by ShutMark element true n = 0
elements_by tag element switch n = n

abbrev pub elements_ahead : List Symbol → ℕ
elements_ahead [] = 0
elements_ahead (s ∷ w) = elements_by (tag_at s.tag) (is_mark SwitchElement s) (is_mark SwitchDeclaration s) (elements_ahead w)

-- whether the for element whose symbols come has `_while`
abbrev pub while_by : Tag → (element : Bool) → Bool → Bool
while_by TWhile element b = true
while_by Step element b = false
while_by ShutMark true b = false
while_by tag element b = b

abbrev pub while_ahead : List Symbol → Bool
while_ahead [] = false
while_ahead (s ∷ w) = while_by (tag_at s.tag) (is_mark ForElement s) (while_ahead w)

-- the symbols of a step expression, which end at `_until`
abbrev pub until_by : Tag → Symbol → (onto w : List Symbol) → List Symbol
until_by Until s onto w = onto
until_by tag s onto w = s ∷ w

-- put before other symbols
abbrev pub until_onto : (onto w : List Symbol) → List Symbol
until_onto onto [] = onto
until_onto onto (s ∷ w) = until_by (tag_at s.tag) s onto (until_onto onto w)
