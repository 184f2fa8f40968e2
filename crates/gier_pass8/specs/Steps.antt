-- What is written for a symbol of text 7, by what was read behind it.
use Rattle.std.specs.Prelude.{◌+◌, ◌-◌, ◌==◌, ℕ, Bool, not, if◌then◌else◌, Option, None, Some}
use Rattle.gier_symbol.specs.declared.symbol.Symbol.{Symbol}
use Rattle.gier_symbol.specs.declared.tag.Tag.TheVariants.{Word, LabelPlace, LabelOrder, LabelWord, OpenRoom, Need, ObjectWords}
use Rattle.gier_symbol.specs.Tags.{number_of}
use Rattle.gier_symbol.specs.Texts.{is_tag_of, stands_in}
use Rattle.gier_text.specs.TablesModel.{TablesModel}
use Rattle.gier_text.specs.Lists.{list_at, word_at}
use Rattle.gier_labels.specs.Labels.{word_of as label_word}
use Rattle.gier_pass8.specs.declared.words.Label.{Label}
use Rattle.gier_pass8.specs.declared.words.Label.TheVariants.{New, Used, At}
use Rattle.gier_pass8.specs.Words.{label_of, sum_of, number_in, with_address}

-- what is known of a label
abbrev pub known : TablesModel → ℕ → Label
known t number = label_of (label_word t number)

-- a mark stays where there are uses behind it
abbrev pub mark_with : Label → Symbol → Option Symbol
mark_with New s = None
mark_with other s = Some s

-- an order with a label number gets the address where the mark stands behind it
abbrev pub order_with : Label → Symbol → Symbol
order_with (At address) s = with_address s (sum_of address 0)
order_with other s = s

-- and so does a word that is a label number
abbrev pub word_with : Label → Symbol → Symbol
word_with (At address) s = record { tag = number_of Word; value = sum_of address 0; line = s.line }
word_with other s = s

-- what the innermost activation needs that was read whole
abbrev pub last_need : TablesModel → ℕ
last_need t = if (list_at t.lists 1).count == 0 then 0 else word_at (list_at t.lists 1) ((list_at t.lists 1).count - 1) 0

-- orders and words
abbrev pub word8_of : TablesModel → Symbol → Option Symbol
word8_of t s =
    if not (stands_in 8 s.tag) then None
    else (if is_tag_of LabelOrder s.tag then Some (order_with (known t (number_in s.value)) s)
    else (if is_tag_of LabelWord s.tag then Some (word_with (known t s.value) s)
    else Some s))

-- what is written for a symbol
abbrev pub text8_of : TablesModel → Symbol → Option Symbol
text8_of t s =
    if is_tag_of ObjectWords s.tag then None
    else (if is_tag_of Need s.tag then None
    else (if is_tag_of LabelPlace s.tag then mark_with (known t s.value) s
    else (if is_tag_of OpenRoom s.tag then Some (with_address s (sum_of (number_in s.value) (last_need t)))
    else word8_of t s)))

-- how many words of the object stand before the symbol
abbrev pub place_before : ℕ → Symbol → ℕ
place_before place s =
    if is_tag_of ObjectWords s.tag then sum_of s.value 0
    else (if is_tag_of Need s.tag then place
    else (if is_tag_of LabelPlace s.tag then place
    else place - 1))
