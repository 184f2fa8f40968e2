-- The word of the object for a symbol of text 8, by what is known of labels.
use Rattle.std.specs.Prelude.{◌≡◌, ◌+◌, ◌-◌, ◌*◌, ◌/◌, ◌%◌, ◌^◌, ℕ, min, nat_lt, if◌then◌else◌}
use Rattle.gier_symbol.specs.declared.symbol.Symbol.{Symbol}
use Rattle.gier_symbol.specs.declared.tag.Tag.TheVariants.{LabelOrder, LabelWord}
use Rattle.gier_symbol.specs.Texts.{is_tag_of}
use Rattle.gier_text.specs.TablesModel.{TablesModel}
use Rattle.gier_labels.specs.Labels.{HasLabels, word_of as label_word}

-- how many labels of either kind there is room for
abbrev pub room_of : ℕ → ℕ
room_of limit = 20 * limit + 64

-- one less than the word of a label, and no more than the greatest address
abbrev pub address_in : ℕ → ℕ
address_in word = min (word - 1) (2 ^ 24 - 1)

abbrev pub address_of : TablesModel → ℕ → ℕ
address_of t label = address_in (label_word t label)

abbrev pub with_address : ℕ → ℕ → ℕ
with_address word address = word / 2 ^ 24 * 2 ^ 24 + address

abbrev pub order_word : Symbol → ℕ
order_word s = (s.tag - 128) * 2 ^ 32 + s.value % 2 ^ 32

abbrev pub word_of : TablesModel → Symbol → ℕ
word_of t s =
    if is_tag_of LabelOrder s.tag then with_address s.value (address_of t (s.value % 2 ^ 24))
    else (if is_tag_of LabelWord s.tag then address_of t s.value
    else (if nat_lt s.tag 128 then s.value
    else order_word s))

-- the words of labels stay a list with room for so many, and the faults stay
pub record KeepsLabels (room : ℕ) (old new : TablesModel) : Type 0 where
  pub labels : HasLabels room new
  pub limit : new.limit ≡ old.limit
  pub faults : new.faults ≡ old.faults
