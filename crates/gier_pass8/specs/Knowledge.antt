-- What the pass knows of labels and needs when a symbol was taken, by what it knew before.
use Rattle.std.specs.Prelude.{◌≡◌, ◌<◌, ◌-◌, ◌==◌, ℕ, not, nat_lt, if◌then◌else◌, [], ◌∷◌}
use Rattle.gier_symbol.specs.declared.symbol.Symbol.{Symbol}
use Rattle.gier_symbol.specs.declared.tag.Tag.TheVariants.{LabelPlace, LabelOrder, LabelWord, OpenRoom, Need, ObjectWords}
use Rattle.gier_symbol.specs.Texts.{is_tag_of, stands_in}
use Rattle.gier_text.specs.TablesModel.{TablesModel}
use Rattle.gier_text.specs.Lists.{TableList, list_at, with_entry, cut_to}
use Rattle.gier_tree.specs.Complete.{place_of}
use Rattle.gier_pass8.specs.declared.words.Label.{Label}
use Rattle.gier_pass8.specs.declared.words.Label.TheVariants.{Used, At}
use Rattle.gier_pass8.specs.Words.{number_in}
use Rattle.gier_pass8.specs.Steps.{known}

-- this is known of each label that there is room for
abbrev pub Knows : (room : ℕ) → TablesModel → (ℕ → Label) → Type 0
Knows room t what = (label : ℕ) → place_of label < room → known t label ≡ what label

-- one label is known anew
abbrev pub with_known : (number : ℕ) → Label → (label : ℕ) → (before : Label) → Label
with_known number what label before = if label == number then what else before

-- a label that is used is known as such, unless its mark was read
abbrev pub with_label_used : Label → (number label : ℕ) → (before : Label) → Label
with_label_used (At address) number label before = before
with_label_used other number label before = with_known number Used label before

-- behind an order or a word
abbrev pub known_word : TablesModel → Symbol → (label : ℕ) → Label
known_word t s label =
    if not (stands_in 8 s.tag) then known t label
    else (if is_tag_of LabelOrder s.tag then with_label_used (known t (number_in s.value)) (number_in s.value) label (known t label)
    else (if is_tag_of LabelWord s.tag then with_label_used (known t s.value) s.value label (known t label)
    else known t label))

-- behind a symbol, with so many words of the object before it
abbrev pub known_behind : TablesModel → (place : ℕ) → Symbol → (label : ℕ) → Label
known_behind t place s label =
    if is_tag_of ObjectWords s.tag then known t label
    else (if is_tag_of Need s.tag then known t label
    else (if is_tag_of LabelPlace s.tag then with_known s.value (At place) label (known t label)
    else (if is_tag_of OpenRoom s.tag then known t label
    else known_word t s label)))

-- the list of needs
abbrev pub needs_of : TablesModel → TableList
needs_of t = list_at t.lists 1

abbrev pub with_need : (room need : ℕ) → TableList → TableList
with_need room need needs = if nat_lt needs.count room then with_entry needs (need ∷ []) else needs

abbrev pub without_need : TableList → TableList
without_need needs = if needs.count == 0 then needs else cut_to needs (needs.count - 1)

-- the needs behind a symbol
abbrev pub needs_behind : (room : ℕ) → Symbol → TableList → TableList
needs_behind room s needs =
    if is_tag_of ObjectWords s.tag then needs
    else (if is_tag_of Need s.tag then with_need room s.value needs
    else (if is_tag_of LabelPlace s.tag then needs
    else (if is_tag_of OpenRoom s.tag then without_need needs
    else needs)))
