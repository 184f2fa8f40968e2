-- Pieces of code as symbols of text 7: orders, words, and the places of labels. Code is told the level of the activation in
-- which it stands, 0 in an evaluation, and the offset of the first free working place; it is written before what follows it.
use Rattle.std.specs.Prelude.{ℕ, suc, ◌+◌, ◌*◌, ◌^◌, List, [], ◌∷◌, Option, None, Some}
use Rattle.gier_order.specs.declared.operation.Operation.{Operation}
use Rattle.gier_order.specs.declared.operation.Operation.TheVariants.{Jump as OJump}
use Rattle.gier_order.specs.Table.{row_of}
use Rattle.gier_symbol.specs.declared.symbol.Symbol.{Symbol}
use Rattle.gier_symbol.specs.declared.tag.Tag.TheVariants.{Word, LabelPlace, LabelOrder, LabelWord, OpenRoom, Need}
use Rattle.gier_symbol.specs.ByTag.{sym}
use Rattle.gier_symbol.specs.Texts.{order_base}

-- what is known of the symbols before: how many labels of code there are, the line of the last symbol, the number of words
pub record State : Type 0 where
  pub labels : ℕ
  pub line : ℕ
  pub words : ℕ

abbrev pub Following : Type 0
Following = State → List Symbol

abbrev pub Code : Type 0
Code = (level w : ℕ) → State → Following → List Symbol

abbrev pub number_of : Operation → ℕ
number_of op = (row_of op).number

-- a word of the object was written on this line
abbrev pub behind_word : State → (line : ℕ) → State
behind_word st line = record { labels = st.labels; line = line; words = suc st.words }

abbrev pub order : Operation → (level address line : ℕ) → State → Following → List Symbol
order op level address line st go =
    record { tag = order_base + number_of op; value = level * 2 ^ 24 + address; line = line } ∷ go (behind_word st line)

-- an order whose address is a label, and one whose address is a room that is still open
abbrev pub with_label : Operation → (level label line : ℕ) → State → Following → List Symbol
with_label op level label line st go =
    sym LabelOrder (number_of op * 2 ^ 32 + level * 2 ^ 24 + label) line ∷ go (behind_word st line)

abbrev pub room_order : Operation → (level room line : ℕ) → State → Following → List Symbol
room_order op level room line st go = sym OpenRoom (number_of op * 2 ^ 32 + level * 2 ^ 24 + room) line ∷ go (behind_word st line)

abbrev pub data_word : (value line : ℕ) → State → Following → List Symbol
data_word value line st go = sym Word value line ∷ go (behind_word st line)

abbrev pub label_word : (label line : ℕ) → State → Following → List Symbol
label_word label line st go = sym LabelWord label line ∷ go (behind_word st line)

-- a label stands here; and an activation ends here, which needs so many words
abbrev pub define : (label : ℕ) → State → Following → List Symbol
define label st go = sym LabelPlace label st.line ∷ go st

abbrev pub needs : (need : ℕ) → State → Following → List Symbol
needs need st go = sym Need need st.line ∷ go st

-- a new label, numbered where text 7 first has it
abbrev pub first_label : ℕ
first_label = 2 ^ 23

abbrev pub new : State → ((label : ℕ) → Following) → List Symbol
new st go = go (first_label + st.labels) (record { labels = suc st.labels; line = st.line; words = st.words })

abbrev pub new_unless : Option ℕ → State → ((label : ℕ) → Following) → List Symbol
new_unless None st go = new st go
new_unless (Some label) st go = go label st

-- no code
abbrev pub no_code : Code
no_code level w st go = go st

-- one piece behind another, at the same place
abbrev pub also : Code → Code → Code
also a b level w st go = a level w st (λ s. b level w s go)

-- words of the object in order
abbrev pub data_words : List ℕ → (line : ℕ) → State → Following → List Symbol
data_words [] line st go = go st
data_words (v ∷ vs) line st go = data_word v line st (λ s. data_words vs line s go)

-- the orders of a jump over a piece that begins with a label
abbrev pub jumped_over : (line : ℕ) → State → ((start : ℕ) → State → Following → List Symbol) → ((start : ℕ) → Following)
    → List Symbol
jumped_over line st piece go = new st (λ x s. with_label OJump 0 x line s (λ s1. new s1 (λ start s2. define start s2 (λ s3.
    piece start s3 (λ s4. define x s4 (go start))))))
