-- The object that a text 8 makes: its words, and the tracks on which they stand.
use Rattle.std.specs.Prelude.{◌≡◌, ◌<◌, ◌+◌, ◌-◌, ◌*◌, ◌/◌, ◌%◌, ◌^◌, ◌==◌, ◌&&◌, ◌++◌, ⊤, ℕ, zero, suc, List, [], ◌∷◌, length}
use Rattle.std.specs.Prelude.{min, nat_lt}
use Rattle.std.specs.Prelude.{slice_index, slice_index_or, Option, None, Some, if◌then◌else◌}
use Rattle.gier_symbol.specs.declared.symbol.Symbol.{Symbol}
use Rattle.gier_symbol.specs.declared.tag.Tag.TheVariants.{LabelPlace, LabelOrder, LabelWord}
use Rattle.gier_symbol.specs.Texts.{is_tag_of}
use Rattle.gier_text.specs.SymbolsOnTracks.{tabulated}
use Rattle.gier_text.specs.TablesModel.{TablesModel}
use Rattle.gier_text.specs.View.{View, IsLeft}
use Rattle.gier_labels.specs.Labels.{word_of as label_word}
use Rattle.gier_tree.specs.Complete.{place_of}
use Rattle.gier_pass9.specs.declared.object.Object.{Object}
use Rattle.gier_pass9.specs.Object.{tracks_of}
use Rattle.gier_pass9.specs.Words.{room_of, with_address, order_word}
use Rattle.gier_pass9.specs.PassOutput.{words_for}

-- the addresses of the labels whose marks were read
abbrev pub Marks : Type 0
Marks = ℕ → Option ℕ

abbrev pub no_marks : Marks
no_marks label = None

-- the mark of a label stands before the word with this number, where the label has room
abbrev pub with_mark : (room label place : ℕ) → Marks → Marks
with_mark room label place marks other = if other == label && nat_lt (place_of label) room then Some place else marks other

-- a label without a mark has the address 0, and no address is above the greatest one
abbrev pub address_by : Option ℕ → ℕ
address_by None = 0
address_by (Some place) = min place (2 ^ 24 - 1)

-- the word that a symbol other than a mark stands for
abbrev pub word_by : Marks → Symbol → ℕ
word_by marks s =
    if is_tag_of LabelOrder s.tag then with_address s.value (address_by (marks (s.value % 2 ^ 24)))
    else (if is_tag_of LabelWord s.tag then address_by (marks s.value)
    else (if nat_lt s.tag 128 then s.value
    else order_word s))

-- what a symbol adds to the words, and to the marks
abbrev pub words_with : Marks → Symbol → List ℕ
words_with marks s = if is_tag_of LabelPlace s.tag then [] else word_by marks s ∷ []

abbrev pub marks_behind : (room place : ℕ) → Symbol → Marks → Marks
marks_behind room place s marks = if is_tag_of LabelPlace s.tag then with_mark room s.value place marks else marks

-- the words of a text, where these marks and so many words stand before it
abbrev pub words_from : (room : ℕ) → Marks → (place : ℕ) → List Symbol → List ℕ
words_from room marks place [] = []
words_from room marks place (s ∷ text) = words_with marks s
    ++ words_from room (marks_behind room place s marks) (place + words_for s) text

-- the words of the object of a text, where the longest program has so many bytes
abbrev pub object_words : (limit : ℕ) → List Symbol → List ℕ
object_words limit text = words_from (room_of limit) no_marks 0 text

-- the words of a track: forty of these, and zeros behind the last of them
abbrev pub page : List ℕ → (track : ℕ) → List ℕ
page words track = tabulated (λ k. slice_index words (40 * track + k)) 40

-- so many tracks from the first one on hold these words, where the tracks are told
abbrev pub HoldsPages : Option (List (List ℕ)) → (first count : ℕ) → (words : List ℕ) → Type 0
HoldsPages None first count words = ⊤
HoldsPages (Some tracks) first count words = (t : ℕ) → t < count → slice_index_or tracks (first + t) [] ≡ page words t

-- all these words stand on the tracks from the first one on
abbrev pub HoldsWords : Option (List (List ℕ)) → (first : ℕ) → (words : List ℕ) → Type 0
HoldsWords tracks first words = HoldsPages tracks first (tracks_of (length words)) words

-- the object so far has these words: those that fill tracks stand on the drum, and the others in its own track
pub record HasWords (object : Object) (tracks : Option (List (List ℕ))) (words : List ℕ) : Type 0 where
  pub count : length words ≡ object.count
  pub full : HoldsPages tracks object.first (object.count / 40) words
  pub rest : object.track ≡ page words (object.count / 40)

-- the object of the symbols that were left has so many words, and stands on the tracks from the first one on
pub record Makes (text : View) (limit first : ℕ) (tracks : Option (List (List ℕ))) (words : ℕ) : Type 0 where
  pub list : List Symbol
  pub left : IsLeft text list
  pub count : length (object_words limit list) ≡ words
  pub holds : HoldsWords tracks first (object_words limit list)

-- the word of a label is one more than its address
abbrev pub mark_in : ℕ → Option ℕ
mark_in zero = None
mark_in (suc place) = Some place

-- the marks that are known
abbrev pub marks_of : TablesModel → Marks
marks_of t label = mark_in (label_word t label)
