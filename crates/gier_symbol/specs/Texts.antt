-- Which tags there are, and which of them stand in each of the eight texts.
use Rattle.std.specs.Prelude.{◌==◌, ◌&&◌, ◌||◌, ◌+◌, ℕ, Bool, false, not, nat_le, nat_lt, if◌then◌else◌}
use Rattle.gier_symbol.specs.declared.tag.Tag.{Tag}
use Rattle.gier_symbol.specs.declared.tag.Tag.TheVariants.{Letter, Digit, Identifier, StringBegin, TextEnd, Plus, Equiv, Own}
use Rattle.gier_symbol.specs.declared.tag.Tag.TheVariants.{LeadingPlus, LeadingMinus, ShutMark, Description, Used, Place, Count}
use Rattle.gier_symbol.specs.declared.tag.Tag.TheVariants.{Operation, Called, OwnNumber, OwnEntry, Word, LabelWord, ObjectWords}
use Rattle.gier_symbol.specs.Tags.{number_of}

-- an order's tag is this and the order's number
abbrev pub order_base : ℕ
order_base = 128

-- the orders are numbered from 1 up to this
abbrev pub last_order : ℕ
last_order = 55

-- a tag from this one up to that one
abbrev pub is_from : Tag → Tag → ℕ → Bool
is_from first last tag = nat_le (number_of first) tag && nat_le tag (number_of last)

abbrev pub is_tag_of : Tag → ℕ → Bool
is_tag_of kind tag = tag == number_of kind

abbrev pub is_order_tag : ℕ → Bool
is_order_tag tag = nat_lt order_base tag && nat_le tag (order_base + last_order)

-- any tag at all
abbrev pub is_tag : ℕ → Bool
is_tag tag = is_from Letter TextEnd tag || is_from Plus Own tag || is_from LeadingPlus OwnEntry tag
    || is_from Word ObjectWords tag || is_order_tag tag

-- letters and digits one by one
abbrev pub is_in_text1 : ℕ → Bool
is_in_text1 tag = is_from Letter Digit tag || is_from StringBegin TextEnd tag || is_from Plus Own tag

-- identifiers and numbers
abbrev pub is_in_text2 : ℕ → Bool
is_in_text2 tag = is_from Identifier TextEnd tag || is_from Plus Own tag

-- text 2 with leading signs, the places of identifiers, marks, and the numbers of own quantities
abbrev pub is_in_text3 : ℕ → Bool
is_in_text3 tag = is_in_text2 tag || is_from LeadingPlus ShutMark tag || is_tag_of OwnNumber tag

-- text 3 with the entries of scopes, and without the numbers of own quantities
abbrev pub is_in_text4 : ℕ → Bool
is_in_text4 tag = is_in_text2 tag || is_from LeadingPlus Description tag || is_tag_of Count tag || is_tag_of OwnEntry tag

-- text 4 with descriptions and places in place of used identifiers
abbrev pub is_in_text5 : ℕ → Bool
is_in_text5 tag = (is_in_text4 tag && not (is_tag_of Identifier tag) && not (is_tag_of OwnEntry tag)) || is_from Used Place tag

-- text 5 with operations behind their operands
abbrev pub is_in_text6 : ℕ → Bool
is_in_text6 tag = (is_in_text5 tag && not (is_from Plus Equiv tag) && not (is_from LeadingPlus LeadingMinus tag))
    || is_from Operation Called tag

-- orders and words, with marks
abbrev pub is_in_text7 : ℕ → Bool
is_in_text7 tag = is_from Word ObjectWords tag || is_order_tag tag

-- orders and words, with the places of labels
abbrev pub is_in_text8 : ℕ → Bool
is_in_text8 tag = is_from Word LabelWord tag || is_order_tag tag

-- whether a tag stands in the text of this number; there are eight
abbrev pub stands_in : ℕ → ℕ → Bool
stands_in text tag =
    if text == 1 then is_in_text1 tag
    else (if text == 2 then is_in_text2 tag
    else (if text == 3 then is_in_text3 tag
    else (if text == 4 then is_in_text4 tag
    else (if text == 5 then is_in_text5 tag
    else (if text == 6 then is_in_text6 tag
    else (if text == 7 then is_in_text7 tag
    else (if text == 8 then is_in_text8 tag else false)))))))
