-- What a row of a listing shows of a word of an object.
use Rattle.std.specs.Prelude.{◌≡◌, ◌/◌, ◌%◌, ◌+◌, ◌||◌, ℕ, Bool, List, [], Option, None, Some, if◌then◌else◌, slice_index}
use Rattle.std.specs.Prelude.{slice_index_or}
use Rattle.gier_symbol.specs.declared.symbol.Symbol.{Symbol}
use Rattle.gier_symbol.specs.declared.tag.Tag.TheVariants.{Word, LabelWord}
use Rattle.gier_symbol.specs.Texts.{is_tag_of}
use Rattle.gier_order.specs.declared.order.Order.{Order}
use Rattle.gier_order.specs.Codes.{order_at}
use Rattle.gier_rows.specs.declared.row.Row.{Row}
use Rattle.gier_rows.specs.declared.row.Shown.{Shown}
use Rattle.gier_rows.specs.declared.row.Shown.TheVariants.{Decoded, Bare}

-- data stand in the text of orders as a word or as the number of a label; all other words are orders
abbrev pub is_data : ℕ → Bool
is_data tag = is_tag_of Word tag || is_tag_of LabelWord tag

-- a word that is the code of no order is shown as it is
abbrev pub shown_order : ℕ → Option Order → Shown
shown_order word None = Bare word
shown_order word (Some order) = Decoded order

abbrev pub shown_of : (tag word : ℕ) → Shown
shown_of tag word = if is_data tag then Bare word else shown_order word (order_at word)

-- the word of this address, where the object's tracks begin with the first one
abbrev pub word_on : List (List ℕ) → (first address : ℕ) → ℕ
word_on tracks first address = slice_index (slice_index_or tracks (first + address / 40) []) (address % 40)

-- The fields of a row: the address with its track and place, the order whose code the word is, or the word itself where it is no
-- order, and the line of its symbol.
pub record IsRow (address word : ℕ) (symbol : Symbol) (row : Row) : Type 0 where
  pub same : row.address ≡ address
  pub on_track : row.track ≡ address / 40
  pub at_place : row.place ≡ address % 40
  pub content : row.shown ≡ shown_of symbol.tag word
  pub of_line : row.line ≡ symbol.line
