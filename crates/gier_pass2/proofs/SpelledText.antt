-- The letters and digits of a program text are spelled.
use Rattle.std.proofs.Common.{◌≡◌, ◌<◌, ◌≤◌, ◌+◌, ◌-◌, ◌==◌, ℕ, zero, suc, List, [], ◌∷◌, refl, arith}
use Rattle.std.proofs.Common.{Bool, true, false, Option, None, Some}
use Rattle.std.specs.Prelude.{All, not, find, map, codes, nat_le, if◌then◌else◌}
use Rattle.std.specs.List.{list_all}
use Rattle.std.specs.Option.{option_map}
use Rattle.std.specs.Str.{bytes_eq}
use Rattle.std.proofs.lemmas.Bool.Decides.{nat_tests}
use Rattle.std.proofs.lemmas.List.Elements.{All-append}
use Rattle.gier_symbol.specs.declared.symbol.Symbol.{Symbol}
use Rattle.gier_symbol.specs.declared.tag.Tag.{Tag}
use Rattle.gier_symbol.specs.declared.word.Spelling.{Spelling}
use Rattle.gier_symbol.specs.declared.word.Spelling.TheVariants.{Plain, Quoted}
use Rattle.gier_symbol.specs.Bytes.{Front, ALayout, ALetter, ADigit, AWord, AString, ASign, Other, front_of, front_by, sign_front, sign_before, sign_symbols, begins_with, is_layout, is_letter, is_digit, opening_brace}
use Rattle.gier_symbol.specs.Reading.{taken_by, takes_word, takes_known, takes_string, string_symbols, line_behind, read, read_by, quoting_byte}
use Rattle.gier_symbol.specs.Spans.{string_bytes}
use Rattle.gier_symbol.specs.Tags.{number_of, name_of}
use Rattle.gier_symbol.specs.Words.{word_symbols, tag_named, comment_word, word_named, word_ended, word_of, word_byte, is_quote}
use Rattle.gier_pass2.specs.Spelled.{IsSpelled, ReadsSpelled}
use Rattle.gier_pass2.proofs.RunSplitting.{and_both}

none_spelled : All IsSpelled []
none_spelled = λ k d lt. absurd (omega arith)

one_spelled : (s : Symbol) → IsSpelled s → All IsSpelled (s ∷ [])
one_spelled s h = λ k d lt. let first : k ≡ 0 = omega arith in rw first h

both : (b : Bool) → b ≡ false → b ≡ true → ⊥
both b h k = cc

-- a symbol of value 0 is spelled where it is no letter
no_letter_spelled : (tag line : ℕ) → (tag == 1) ≡ false → IsSpelled (record { tag = tag; value = 0; line = line })
no_letter_spelled tag line h = record { letter = λ is. absurd (both (tag == 1) h is); digit = λ is. omega arith }

no_letter : Option ℕ → Bool
no_letter None = true
no_letter (Some tag) = not (tag == 1)

is_other : Tag → Bool
is_other tag = not (number_of tag == 1)

found_none : no_letter None ≡ true
unfolding no_letter
found_none = refl

comment_other : no_letter (Some comment_word) ≡ true
unfolding no_letter
comment_other = refl

words_other : list_all is_other word_symbols ≡ true
unfolding is_other
words_other = refl

signs_other : list_all is_other sign_symbols ≡ true
unfolding is_other
signs_other = refl

found_by : (test : Bool) (tag : Tag) (rest : Option Tag) → is_other tag ≡ true → no_letter (option_map number_of rest) ≡ true
    → no_letter (option_map number_of (if test then Some tag else rest)) ≡ true
unfolding no_letter is_other
found_by true tag rest h k = h
found_by false tag rest h k = k

-- none of these symbols is a letter
none_found : (p : Tag → Bool) (tags : List Tag) → list_all is_other tags ≡ true → no_letter (option_map number_of (find p tags)) ≡ true
none_found p [] h = found_none
none_found p (tag ∷ tags) h =
    let each = and_both (is_other tag) (list_all is_other tags) h in
    found_by (p tag) tag (find p tags) each.0 (none_found p tags each.1)

chosen : (test : Bool) (a b : Option ℕ) → no_letter a ≡ true → no_letter b ≡ true → no_letter (if test then a else b) ≡ true
chosen true a b h k = h
chosen false a b h k = k

named_other : (name : List ℕ) → no_letter (tag_named name) ≡ true
unfolding tag_named
named_other name =
    chosen (bytes_eq (codes "comment") name) (Some comment_word)
    (option_map number_of (find (λ word. bytes_eq (name_of word) name) word_symbols))
    comment_other (none_found (λ word. bytes_eq (name_of word) name) word_symbols words_other)

word_other : (spelling : Spelling) (name : List ℕ) → no_letter (word_named spelling name) ≡ true
word_other Plain name = named_other name
word_other Quoted name = named_other (map (λ letter. letter + 32) name)

quoted_other : (test : Bool) (letters : List ℕ) (next : Option ℕ) → is_quote next ≡ test
    → no_letter (word_ended Quoted letters next).tag ≡ true
quoted_other true letters next h = rw h (word_other Quoted letters)
quoted_other false letters next h = rw h found_none

ended_other : (spelling : Spelling) (letters : List ℕ) (next : Option ℕ) → no_letter (word_ended spelling letters next).tag ≡ true
ended_other Plain letters next = word_other Plain letters
ended_other Quoted letters next = quoted_other (is_quote next) letters next refl

known_spelled : (comment end : Bool) (tag taken : ℕ) (spelling : Spelling) (fresh : Bool) (rest : List ℕ) (line : ℕ) → (tag == 1) ≡ false
    → All IsSpelled (takes_known comment end tag taken spelling fresh rest line).gives.symbols
known_spelled true end tag taken spelling true rest line h = none_spelled
known_spelled true end tag taken spelling false rest line h = none_spelled
known_spelled false true tag taken spelling fresh rest line h = one_spelled _ (no_letter_spelled 37 line refl)
known_spelled false false tag taken spelling fresh rest line h = one_spelled _ (no_letter_spelled tag line h)

not_true : (b : Bool) → not b ≡ true → b ≡ false
not_true true h = cc
not_true false h = refl

word_spelled : (tag : Option ℕ) (taken : ℕ) (spelling : Spelling) (fresh : Bool) (rest : List ℕ) (line : ℕ) → no_letter tag ≡ true
    → All IsSpelled (takes_word tag taken spelling fresh rest line).gives.symbols
unfolding no_letter
word_spelled None taken spelling fresh rest line h = none_spelled
word_spelled (Some tag) taken spelling fresh rest line h = known_spelled (tag == comment_word) _ tag taken spelling fresh rest line
    (not_true (tag == 1) h)

byte_spelled : (tag byte line : ℕ) → (tag == 1) ≡ false → (tag == 2) ≡ false → IsSpelled (record { tag = tag; value = byte; line = line })
byte_spelled tag byte line h k = record { letter = λ is. absurd (both (tag == 1) h is); digit = λ is. absurd (both (tag == 2) k is) }

bytes_spelled : (bytes : List ℕ) (line : ℕ) → All IsSpelled (string_symbols bytes line)
bytes_spelled [] line = one_spelled _ (byte_spelled 7 0 line refl refl)
bytes_spelled (byte ∷ bytes) line =
    All-append IsSpelled (_ ∷ []) (string_symbols bytes (line_behind byte line)) (one_spelled _ (byte_spelled 6 byte line refl refl))
    (bytes_spelled bytes (line_behind byte line))

string_spelled : (bytes : Option (List ℕ)) (rest : List ℕ) (line : ℕ) → All IsSpelled (takes_string bytes rest line).gives.symbols
string_spelled None rest line = none_spelled
string_spelled (Some bytes) rest line = All-append IsSpelled (_ ∷ []) (string_symbols bytes line)
    (one_spelled _ (byte_spelled 5 0 line refl refl)) (bytes_spelled bytes line)

-- what is known of the first byte by its front
Fits : Front → ℕ → Type 0
Fits ALayout byte = Unit {0}
Fits ALetter byte = is_letter byte ≡ true
Fits ADigit byte = is_digit byte ≡ true
Fits AWord byte = Unit {0}
Fits AString byte = Unit {0}
Fits (ASign sign) byte = (number_of sign == 1) ≡ false
Fits Other byte = Unit {0}

sign_fits : (sign : Option Tag) (byte : ℕ) → no_letter (option_map number_of sign) ≡ true → Fits (sign_front sign) byte
unfolding Fits no_letter
sign_fits None byte h = tt
sign_fits (Some sign) byte h = not_true (number_of sign == 1) h

front_fits_by : (layout letter digit word brace : Bool) (bytes : List ℕ) (byte : ℕ) → is_letter byte ≡ letter → is_digit byte ≡ digit
    → Fits (front_by layout letter digit word brace bytes) byte
unfolding Fits
front_fits_by true letter digit word brace bytes byte h k = tt
front_fits_by false true digit word brace bytes byte h k = h
front_fits_by false false true word brace bytes byte h k = k
front_fits_by false false false true brace bytes byte h k = tt
front_fits_by false false false false true bytes byte h k = tt
front_fits_by false false false false false bytes byte h k = sign_fits (sign_before bytes) byte (none_found (λ sign. begins_with (name_of sign) bytes) sign_symbols signs_other)

below_by : (byte : ℕ) → nat_le byte 57 ≡ true → byte - 48 < 10
below_by byte h = let le : byte ≤ 57 = grind (arith, nat_tests) in omega arith

digit_below : (byte : ℕ) → is_digit byte ≡ true → byte - 48 < 10
digit_below byte h = let both_ends = and_both (nat_le 48 byte) (nat_le byte 57) h in below_by byte both_ends.1

taken_spelled : (front : Front) (spelling : Spelling) (fresh : Bool) (byte : ℕ) (rest : List ℕ) (line : ℕ) → Fits front byte
    → All IsSpelled (taken_by front spelling fresh byte rest line).gives.symbols
unfolding Fits
taken_spelled ALayout spelling fresh byte rest line h = none_spelled
taken_spelled ALetter spelling fresh byte rest line h = one_spelled _ (record { letter = λ is. h; digit = λ is. cc })
taken_spelled ADigit spelling fresh byte rest line h = one_spelled _ (record { letter = λ is. cc; digit = λ is. digit_below byte h })
taken_spelled AWord spelling fresh byte rest line h = word_spelled (word_of spelling rest).tag
    (word_of spelling rest).taken spelling fresh rest line (ended_other spelling _ _)
taken_spelled AString spelling fresh byte rest line h = string_spelled (string_bytes rest 0) rest line
taken_spelled (ASign sign) spelling fresh byte rest line h = one_spelled _ (no_letter_spelled (number_of sign) line h)
taken_spelled Other spelling fresh byte rest line h = none_spelled

read_spelled : (spelling : Spelling) (bytes : List ℕ) (taken : ℕ) (fresh : Bool) (line : ℕ)
    → All IsSpelled (read spelling bytes taken fresh line).symbols
read_spelled spelling [] taken fresh line = one_spelled _ (byte_spelled 8 0 line refl refl)
read_spelled spelling (byte ∷ rest) (suc taken) fresh line = read_spelled spelling rest taken fresh (line_behind byte line)
read_spelled spelling (byte ∷ rest) zero fresh line =
    let t = taken_by (front_of spelling byte rest) spelling fresh byte rest line in
    All-append IsSpelled t.gives.symbols (read spelling rest t.more t.fresh (line_behind byte line)).symbols
    (taken_spelled (front_of spelling byte rest) spelling fresh byte rest line
    (front_fits_by (is_layout byte) (is_letter byte) (is_digit byte) (byte == word_byte spelling) (byte == opening_brace)
    (byte ∷ rest) byte refl refl))
    (read_spelled spelling rest t.more t.fresh (line_behind byte line))

quoted_read : (test : Bool) (byte : ℕ) (rest : List ℕ) → All IsSpelled (read_by test byte rest).symbols
quoted_read true byte rest = read_spelled Quoted rest 0 false 1
quoted_read false byte rest = read_spelled Plain (byte ∷ rest) 0 false 1

pub text_spelled : ReadsSpelled
text_spelled [] = read_spelled Plain [] 0 false 1
text_spelled (byte ∷ rest) = quoted_read (byte == quoting_byte) byte rest
