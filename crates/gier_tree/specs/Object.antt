-- Text 8 and the object, from text 7: the places of labels and the rooms of activations become known. Text 8 keeps a label's
-- place where the label is used behind it, and a use whose label stands before it; the object has addresses alone.
use Rattle.std.specs.Prelude.{ℕ, zero, suc, ◌+◌, ◌-◌, ◌*◌, ◌/◌, ◌%◌, ◌^◌, ◌==◌, Bool, true, false, List, [], ◌∷◌, if◌then◌else◌}
use Rattle.std.specs.List.{list_any}
use Rattle.gier_symbol.specs.declared.symbol.Symbol.{Symbol}
use Rattle.gier_symbol.specs.declared.tag.Tag.TheVariants.{Word, LabelPlace, LabelOrder, LabelWord, OpenRoom, Need, ObjectWords}
use Rattle.gier_symbol.specs.ByTag.{sym}
use Rattle.gier_symbol.specs.Tags.{number_of}
use Rattle.gier_symbol.specs.Texts.{order_base}
use Rattle.gier_tree.specs.Text7.{text7}
use Rattle.gier_tree.specs.Trees.{Program}

-- what a symbol of text 7 is: a label's place, a use of one as an address or as a word, an order with an open room, what an
-- activation needs, the number of words, a word, or an order
pub data Piece : Type 0 where
  APlace : (label : ℕ) → Piece
  AUse : (head label : ℕ) → Piece
  AWordUse : (label : ℕ) → Piece
  ARoom : (head room : ℕ) → Piece
  ANeed : (need : ℕ) → Piece
  ACount : Piece
  AWord : (value : ℕ) → Piece
  AnOrder : (op value : ℕ) → Piece

-- operation and level, and the address
abbrev pub head_of : ℕ → ℕ
head_of value = value / 2 ^ 24

abbrev pub address_in : ℕ → ℕ
address_in value = value % 2 ^ 24

abbrev pub piece_of : Symbol → Piece
piece_of s =
    if s.tag == number_of LabelPlace then APlace s.value
    else (if s.tag == number_of LabelOrder then AUse (head_of s.value) (address_in s.value)
    else (if s.tag == number_of LabelWord then AWordUse s.value
    else (if s.tag == number_of OpenRoom then ARoom (head_of s.value) (address_in s.value)
    else (if s.tag == number_of Need then ANeed s.value
    else (if s.tag == number_of ObjectWords then ACount
    else (if s.tag == number_of Word then AWord s.value else AnOrder (s.tag - order_base) s.value))))))

-- how many words a piece has in the object
abbrev pub words_of : Piece → ℕ
words_of (APlace label) = 0
words_of (AUse head label) = 1
words_of (AWordUse label) = 1
words_of (ARoom head room) = 1
words_of (ANeed need) = 0
words_of ACount = 0
words_of (AWord value) = 1
words_of (AnOrder op value) = 1

-- the address of a label: the number of words before its place
abbrev pub address_at : Piece → (label before : ℕ) → (later : ℕ) → ℕ
address_at (APlace found) label before later = if found == label then before else later
address_at piece label before later = later

abbrev pub address_of : List Symbol → (label before : ℕ) → ℕ
address_of [] label before = before
address_of (s ∷ text) label before = address_at (piece_of s) label before (address_of text label (before + words_of (piece_of s)))

-- what the activation needs that is entered before these symbols, where so many others are entered behind it
abbrev pub need_at : Piece → (inner : ℕ) → ((inner : ℕ) → ℕ) → ℕ
need_at (ARoom head room) inner go_on = go_on (suc inner)
need_at (ANeed need) zero go_on = need
need_at (ANeed need) (suc inner) go_on = go_on inner
need_at piece inner go_on = go_on inner

abbrev pub need_behind : List Symbol → (inner : ℕ) → ℕ
need_behind [] inner = 0
need_behind (s ∷ text) inner = need_at (piece_of s) inner (need_behind text)

-- whether a label is used in these symbols
abbrev pub is_use : (label : ℕ) → Piece → Bool
is_use label (AUse head used) = used == label
is_use label (AWordUse used) = used == label
is_use label piece = false

abbrev pub is_used : (label : ℕ) → List Symbol → Bool
is_used label text = list_any (λ s. is_use label (piece_of s)) text

-- an order whose head is its operation and level
abbrev pub known_order : (head address line : ℕ) → Symbol
known_order head address line = record { tag = order_base + head / 256; value = head % 256 * 2 ^ 24 + address; line = line }

abbrev pub kept_if : Bool → Symbol → List Symbol → List Symbol
kept_if true s rest = s ∷ rest
kept_if false s rest = rest

-- a symbol, of a text, in text 8, where these labels stand before it
abbrev pub in_text8 : Piece → (text : List Symbol) → (seen : List ℕ) → Symbol → (behind : List Symbol) → List Symbol → List Symbol
in_text8 (APlace label) text seen s behind rest = kept_if (is_used label behind) s rest
in_text8 (AUse head label) text seen s behind rest =
    (if list_any (λ q. q == label) seen then s else known_order head (address_of text label 0) s.line) ∷ rest
in_text8 (AWordUse label) text seen s behind rest =
    (if list_any (λ q. q == label) seen then s else sym Word (address_of text label 0) s.line) ∷ rest
in_text8 (ARoom head room) text seen s behind rest = known_order head (room + need_behind behind 0) s.line ∷ rest
in_text8 (ANeed need) text seen s behind rest = rest
in_text8 ACount text seen s behind rest = rest
in_text8 piece text seen s behind rest = s ∷ rest

abbrev pub with_place : Piece → List ℕ → List ℕ
with_place (APlace label) seen = label ∷ seen
with_place piece seen = seen

abbrev pub known_from : (text : List Symbol) → (seen : List ℕ) → List Symbol → List Symbol
known_from text seen [] = []
known_from text seen (s ∷ behind) = in_text8 (piece_of s) text seen s behind (known_from text (with_place (piece_of s) seen) behind)

abbrev pub text8_of : List Symbol → List Symbol
text8_of text = known_from text [] text

abbrev pub text8 : (written : Program) → List Symbol
text8 t = text8_of (text7 t)

-- the words of the object
abbrev pub object_word : Piece → (text behind : List Symbol) → List ℕ → List ℕ
object_word (APlace label) text behind rest = rest
object_word (AUse head label) text behind rest = (head * 2 ^ 24 + address_of text label 0) ∷ rest
object_word (AWordUse label) text behind rest = address_of text label 0 ∷ rest
object_word (ARoom head room) text behind rest = (head * 2 ^ 24 + room + need_behind behind 0) ∷ rest
object_word (ANeed need) text behind rest = rest
object_word ACount text behind rest = rest
object_word (AWord value) text behind rest = value ∷ rest
object_word (AnOrder op value) text behind rest = (op * 2 ^ 32 + value) ∷ rest

abbrev pub object_from : (text : List Symbol) → List Symbol → List ℕ
object_from text [] = []
object_from text (s ∷ behind) = object_word (piece_of s) text behind (object_from text behind)

abbrev pub object_of : List Symbol → List ℕ
object_of text = object_from text text

abbrev pub code : (written : Program) → List ℕ
code t = let text = text7 t in object_of text
