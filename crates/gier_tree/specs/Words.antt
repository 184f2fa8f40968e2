-- The words of a text 7 in the object: how many a piece of it has, that one of them is STOP, and that the addresses of labels are
-- those of their places.
use Rattle.std.specs.Prelude.{◌≡◌, ◌<◌, ◌+◌, ◌^◌, ◌⊎◌, ℕ, List, [], ◌∷◌, ◌++◌}
use Rattle.gier_symbol.specs.declared.symbol.Symbol.{Symbol}
use Rattle.gier_symbol.specs.declared.tag.Tag.TheVariants.{LabelPlace}
use Rattle.gier_symbol.specs.ByTag.{sym}
use Rattle.gier_symbol.specs.Texts.{order_base}
use Rattle.gier_order.specs.declared.operation.Operation.TheVariants.{Stop}
use Rattle.gier_tree.specs.Orders.{number_of}
use Rattle.gier_tree.specs.Object.{piece_of, words_of, address_of}

abbrev pub words_in : List Symbol → ℕ
words_in [] = 0
words_in (s ∷ ss) = words_of (piece_of s) + words_in ss

abbrev pub stop_tag : ℕ
stop_tag = order_base + number_of Stop

-- one of the words is the order STOP
abbrev pub HasStop : List Symbol → Type 0
HasStop [] = ⊥
HasStop (s ∷ ss) = ((s.tag ≡ stop_tag) × (words_of (piece_of s) ≡ 1)) ⊎ HasStop ss

-- the address of a label is the number of words before its place
abbrev pub PlacesAreAddresses : List Symbol → Type 0
PlacesAreAddresses text =
    (before rest : List Symbol) (label line : ℕ) → before ++ sym LabelPlace label line ∷ rest ≡ text
    → (label < 2 ^ 24) × (address_of text label 0 ≡ words_in before)
