-- The symbols of a program text have values only where their tags have a use for one: letters, digits and bytes of strings have,
-- and once they are assembled, identifiers, numbers and bytes of strings.
use Rattle.std.proofs.Common.{◌≡◌, ◌==◌, ◌&&◌, ◌||◌, ◌<◌, ◌≤◌, ◌+◌, ◌-◌, ℕ, zero, suc, Bool, true, false, nat_lt, nat_le, cond, if◌then◌else◌, codes, map, List, [], ◌∷◌, ◌++◌, length, drop, Option, None, Some, IsTrue, refl, ap, sym, subst, ◌∙◌, arith, inl, inr}
use Rattle.gier_word.proofs.Options.{some_same}
use Rattle.std.specs.List.{All, find, list_all, take_while}
use Rattle.std.specs.Option.{option_map}
use Rattle.std.specs.Str.{bytes_eq}
use Rattle.std.proofs.lemmas.Bool.Decides.{nat_tests}
use Rattle.gier_symbol.specs.declared.symbol.Symbol.{Symbol}
use Rattle.gier_symbol.specs.declared.tag.Tag.{Tag}
use Rattle.gier_symbol.specs.declared.tag.Tag.TheVariants.{Letter, Digit, Identifier, Number, StringBegin, StringByte, StringEnd, TextEnd, End}
use Rattle.gier_symbol.specs.declared.word.Spelling.{Spelling}
use Rattle.gier_symbol.specs.declared.word.Spelling.TheVariants.{Plain, Quoted}
use Rattle.gier_symbol.specs.Assembly.{is, is_letter_or_digit, Lexeme, AName, ANumber, ASymbol, run_at, runs, Piece, pieces, known_by, place_of, comma_at, begins_group, with_commas, standard_names, assembly}
use Rattle.gier_pass2.specs.Spelled.{IsSpelled}
use Rattle.gier_pass3.specs.Found.{IsBare}
use Rattle.gier_front.specs.Early.{IsPlain, ArePlain}
use Rattle.gier_symbol.specs.Bytes.{is_layout, is_letter, is_digit, Front, ALayout, ALetter, ADigit, AWord, AString, ASign, Other, front_by, front_of, sign_front, sign_before, sign_symbols, begins_with, opening_brace}
use Rattle.gier_symbol.specs.ByTag.{sym as symbol, word}
use Rattle.gier_symbol.specs.Listing.{Listing, listings_joined}
use Rattle.gier_symbol.specs.Reading.{Taken, string_symbols, takes_string, takes_comment, takes_known, takes_word, taken_by, read, read_by, symbols_of, line_behind, quoting_byte, zero_byte}
use Rattle.gier_symbol.specs.Spans.{string_bytes}
use Rattle.gier_symbol.specs.Tags.{number_of, name_of}
use Rattle.gier_symbol.specs.Words.{word_symbols, comment_word, tag_named, word_named, word_byte, word_of, word_ended, is_quote, word_letters, WordRead}

pub plain_append : (xs ys : List Symbol) → ArePlain xs → ArePlain ys → ArePlain (xs ++ ys)
plain_append [] ys a b = b
plain_append (x ∷ xs) ys a b = (a.0, plain_append xs ys a.1 b)

-- one symbol

or_true : (a b : Bool) → IsTrue (a || b || true)
or_true true b = refl
or_true false true = refl
or_true false false = refl

plain_tag : (tag line : ℕ) → 2 < tag → IsPlain (record { tag = tag; value = 0; line = line })
plain_tag tag line high = record {
  letter = λ is. absurd (grind (arith, nat_tests, is, high));
  digit = λ is. omega arith;
  other = or_true (is_letter_or_digit (record { tag = tag; value = 0; line = line })) (is StringByte (record { tag = tag; value = 0; line = line }));
}

plain_letter : (byte line : ℕ) → is_letter byte ≡ true → IsPlain (symbol Letter byte line)
plain_letter byte line letter = record { letter = λ is. letter; digit = λ is. cc; other = refl }

plain_digit : (value line : ℕ) → value < 10 → IsPlain (symbol Digit value line)
plain_digit value line small = record { letter = λ is. cc; digit = λ is. small; other = refl }

plain_byte : (byte line : ℕ) → IsPlain (symbol StringByte byte line)
plain_byte byte line = record { letter = λ is. cc; digit = λ is. cc; other = refl }

-- tags of words and signs

is_high : Tag → Bool
is_high kind = nat_lt 2 (number_of kind)

high_step : (test here others : Bool) (x y : Tag) (found : Option Tag) → is_high x ≡ here → (here && others) ≡ true → cond test (Some x) found ≡ Some y → (others ≡ true → found ≡ Some y → is_high y ≡ true) → is_high y ≡ true
high_step true true others x y found is all same go_on = subst (λ (t : Tag). is_high t ≡ true) (some_same x y same) is
high_step true false others x y found is all same go_on = cc
high_step false true others x y found is all same go_on = go_on all same
high_step false false others x y found is all same go_on = cc

high_found : (p : Tag → Bool) (xs : List Tag) (y : Tag) → list_all is_high xs ≡ true → find p xs ≡ Some y → is_high y ≡ true
high_found p [] y all found = cc
high_found p (x ∷ xs) y all found = high_step (p x) (is_high x) (list_all is_high xs) x y (find p xs) refl all found (λ a b. high_found p xs y a b)

is_above : (kind : Tag) → is_high kind ≡ true → 2 < number_of kind
unfolding is_high
is_above kind high = grind (arith, nat_tests, high)

words_high : list_all is_high word_symbols ≡ true
unfolding is_high
words_high = refl

signs_high : list_all is_high sign_symbols ≡ true
unfolding is_high
signs_high = refl

named_by : (test : Bool) (found : Option Tag) (tag : ℕ) → ((kind : Tag) → found ≡ Some kind → 2 < number_of kind) → (if test then Some comment_word else option_map number_of found) ≡ Some tag → 2 < tag
named_by true found tag high is = let same : comment_word ≡ tag = some_same comment_word tag is in omega (arith, same)
named_by false None tag high is = absurd cc
named_by false (Some kind) tag high is = let same : number_of kind ≡ tag = some_same (number_of kind) tag is in omega (arith, same, high kind refl)

tag_high : (name : List ℕ) (tag : ℕ) → tag_named name ≡ Some tag → 2 < tag
unfolding tag_named
tag_high name tag is = named_by (bytes_eq (codes "comment") name) (find (λ kind. bytes_eq (name_of kind) name) word_symbols) tag
    (λ kind found. is_above kind (high_found (λ kind. bytes_eq (name_of kind) name) word_symbols kind words_high found)) is

read_high : (test : Bool) (a b : WordRead) (tag : ℕ) → (a.tag ≡ Some tag → 2 < tag) → b.tag ≡ None → (if test then a else b).tag ≡ Some tag → 2 < tag
read_high true a b tag high none is = high is
read_high false a b tag high none is = absurd cc

ended_high : (spelling : Spelling) (letters : List ℕ) (next : Option ℕ) (tag : ℕ) → (word_ended spelling letters next).tag ≡ Some tag → 2 < tag
ended_high Plain letters next tag is = tag_high letters tag is
ended_high Quoted letters next tag is = read_high (is_quote next) (record { tag = word_named Quoted letters; taken = length letters + 1 }) (record { tag = None; taken = length letters }) tag (λ found. tag_high (map (λ letter. letter + 32) letters) tag found) refl is

-- what stands at the front of the bytes

plain_comment : (fresh : Bool) (taken : ℕ) (rest : List ℕ) (line : ℕ) → ArePlain (takes_comment fresh taken rest line).gives.symbols
plain_comment true taken rest line = tt
plain_comment false taken rest line = tt

plain_known : (comment end : Bool) (tag taken : ℕ) (spelling : Spelling) (fresh : Bool) (rest : List ℕ) (line : ℕ) → 2 < tag → ArePlain (takes_known comment end tag taken spelling fresh rest line).gives.symbols
plain_known true end tag taken spelling fresh rest line high = plain_comment fresh taken rest line
plain_known false true tag taken spelling fresh rest line high = (plain_tag (number_of End) line (omega arith), tt)
plain_known false false tag taken spelling fresh rest line high = (plain_tag tag line high, tt)

plain_word : (found : Option ℕ) (taken : ℕ) (spelling : Spelling) (fresh : Bool) (rest : List ℕ) (line : ℕ) → ((tag : ℕ) → found ≡ Some tag → 2 < tag) → ArePlain (takes_word found taken spelling fresh rest line).gives.symbols
plain_word None taken spelling fresh rest line high = tt
plain_word (Some tag) taken spelling fresh rest line high = plain_known (tag == comment_word) (tag == number_of End) tag taken spelling fresh rest line (high tag refl)

plain_bytes : (bytes : List ℕ) (line : ℕ) → ArePlain (string_symbols bytes line)
plain_bytes [] line = (plain_tag (number_of StringEnd) line (omega arith), tt)
plain_bytes (byte ∷ bytes) line = (plain_byte byte line, plain_bytes bytes (line_behind byte line))

plain_string : (bytes : Option (List ℕ)) (rest : List ℕ) (line : ℕ) → ArePlain (takes_string bytes rest line).gives.symbols
plain_string None rest line = tt
plain_string (Some bytes) rest line = (plain_tag (number_of StringBegin) line (omega arith), plain_bytes bytes line)

plain_sign : (found : Option Tag) (spelling : Spelling) (fresh : Bool) (byte : ℕ) (rest : List ℕ) (line : ℕ) → sign_before (byte ∷ rest) ≡ found → ArePlain (taken_by (sign_front found) spelling fresh byte rest line).gives.symbols
plain_sign None spelling fresh byte rest line is = tt
plain_sign (Some kind) spelling fresh byte rest line is =
    (plain_tag (number_of kind) line (is_above kind (high_found (λ sign. begins_with (name_of sign) (byte ∷ rest)) sign_symbols kind signs_high is)), tt)

small_digit : (byte : ℕ) → is_digit byte ≡ true → byte - zero_byte < 10
small_digit byte is = grind (arith, nat_tests, is)

plain_by : (layout letter digit word brace : Bool) (spelling : Spelling) (fresh : Bool) (byte : ℕ) (rest : List ℕ) (line : ℕ) → (letter ≡ true → is_letter byte ≡ true) → (digit ≡ true → is_digit byte ≡ true) → ArePlain (taken_by (front_by layout letter digit word brace (byte ∷ rest)) spelling fresh byte rest line).gives.symbols
plain_by true letter digit word brace spelling fresh byte rest line letters digits = tt
plain_by false true digit word brace spelling fresh byte rest line letters digits = (plain_letter byte line (letters refl), tt)
plain_by false false true word brace spelling fresh byte rest line letters digits = (plain_digit (byte - zero_byte) line (small_digit byte (digits refl)), tt)
plain_by false false false true brace spelling fresh byte rest line letters digits =
    plain_word (word_of spelling rest).tag (word_of spelling rest).taken spelling fresh rest line (λ tag is. ended_high spelling (word_letters spelling rest) _ tag is)
plain_by false false false false true spelling fresh byte rest line letters digits = plain_string (string_bytes rest 0) rest line
plain_by false false false false false spelling fresh byte rest line letters digits = plain_sign (sign_before (byte ∷ rest)) spelling fresh byte rest line refl

-- a program text

plain_read : (spelling : Spelling) (bytes : List ℕ) (taken : ℕ) (fresh : Bool) (line : ℕ) → ArePlain (read spelling bytes taken fresh line).symbols
plain_read spelling [] taken fresh line = (plain_tag (number_of TextEnd) line (omega arith), tt)
plain_read spelling (byte ∷ rest) (suc taken) fresh line = plain_read spelling rest taken fresh (line_behind byte line)
plain_read spelling (byte ∷ rest) zero fresh line =
    let t = taken_by (front_of spelling byte rest) spelling fresh byte rest line in
    plain_append t.gives.symbols (read spelling rest t.more t.fresh (line_behind byte line)).symbols
    (plain_by (is_layout byte) (is_letter byte) (is_digit byte) (byte == word_byte spelling) (byte == opening_brace) spelling fresh byte rest line (λ is. is) (λ is. is))
    (plain_read spelling rest t.more t.fresh (line_behind byte line))

plain_quoted : (quoted : Bool) (byte : ℕ) (rest : List ℕ) → ArePlain (read_by quoted byte rest).symbols
plain_quoted true byte rest = plain_read Quoted rest 0 false 1
plain_quoted false byte rest = plain_read Plain (byte ∷ rest) 0 false 1

pub plain_symbols : (bytes : List ℕ) → ArePlain (symbols_of bytes).symbols
plain_symbols [] = plain_read Plain [] 0 false 1
plain_symbols (byte ∷ rest) = plain_quoted (byte == quoting_byte) byte rest

-- what is assembled of such symbols

abbrev pub AreBare : List Symbol → Type 0
AreBare [] = Unit {0}
AreBare (s ∷ list) = IsBare s × AreBare list

bare_by : (letter digit byte none identifier number : Bool) → letter ≡ false → digit ≡ false → IsTrue ((letter || digit) || byte || none) → IsTrue ((identifier || number || byte) || none)
bare_by true digit byte none identifier number no_letter no_digit other = cc
bare_by false true byte none identifier number no_letter no_digit other = cc
bare_by false false byte none true number no_letter no_digit other = refl
bare_by false false byte none false true no_letter no_digit other = refl
bare_by false false true none false false no_letter no_digit other = refl
bare_by false false false true false false no_letter no_digit other = refl
bare_by false false false false false false no_letter no_digit other = cc

abbrev pub RunsBare : List Lexeme → Type 0
RunsBare [] = Unit {0}
RunsBare (ASymbol s ∷ rest) = IsBare s × RunsBare rest
RunsBare (AName name line ∷ rest) = RunsBare rest
RunsBare (ANumber value line ∷ rest) = RunsBare rest

run_bare : (letter digit : Bool) (s : Symbol) (rest : List Symbol) (go_on : ℕ → List Lexeme) → is Letter s ≡ letter → is Digit s ≡ digit → IsPlain s → ((taken : ℕ) → RunsBare (go_on taken)) → RunsBare (run_at letter digit s rest go_on)
run_bare true digit s rest go_on l d plain more = more (length (take_while is_letter_or_digit rest))
run_bare false true s rest go_on l d plain more = more (length (take_while (is Digit) rest))
run_bare false false s rest go_on l d plain more = (bare_by (is Letter s) (is Digit s) (is StringByte s) (s.value == 0) (is Identifier s) (is Number s) l d plain.other, more 0)

runs_bare : (symbols : List Symbol) (taken : ℕ) → ArePlain symbols → RunsBare (runs symbols taken)
runs_bare [] taken plain = tt
runs_bare (s ∷ rest) (suc taken) plain = runs_bare rest taken plain.1
runs_bare (s ∷ rest) zero plain = run_bare (is Letter s) (is Digit s) s rest (runs rest) refl refl plain.0 (λ taken. runs_bare rest taken plain.1)

abbrev pub PiecesBare : List Piece → Type 0
PiecesBare [] = Unit {0}
PiecesBare (p ∷ rest) = IsBare p.symbol × PiecesBare rest

pieces_bare : (all : List Lexeme) (known : List (List ℕ)) → RunsBare all → PiecesBare (pieces all known)
pieces_bare [] known bare = tt
pieces_bare (AName name line ∷ rest) known bare = (refl, pieces_bare rest (known_by (place_of name known) name known) bare)
pieces_bare (ANumber value line ∷ rest) known bare = (refl, pieces_bare rest known bare)
pieces_bare (ASymbol s ∷ rest) known bare = (bare.0, pieces_bare rest known bare.1)

comma_bare : (group : Bool) (s : Symbol) (go_on : ℕ → List Symbol) → IsBare s → ((taken : ℕ) → AreBare (go_on taken)) → AreBare (comma_at group s go_on)
comma_bare true s go_on bare more = (refl, more 3)
comma_bare false s go_on bare more = (bare, more 0)

commas_bare : (all : List Piece) (taken : ℕ) → PiecesBare all → AreBare (with_commas all taken)
commas_bare [] taken bare = tt
commas_bare (p ∷ rest) (suc taken) bare = commas_bare rest taken bare.1
commas_bare (p ∷ rest) zero bare = comma_bare (begins_group p rest) p.symbol (with_commas rest) bare.0 (λ taken. commas_bare rest taken bare.1)

pub assembled_bare : (symbols : List Symbol) → ArePlain symbols → AreBare (assembly symbols).symbols
assembled_bare symbols plain = commas_bare (pieces (runs symbols 0) standard_names) 0 (pieces_bare (runs symbols 0) standard_names (runs_bare symbols 0 plain))

-- at each place

pub all_spelled : (symbols : List Symbol) → ArePlain symbols → All IsSpelled symbols
all_spelled [] plain k d lt = absurd (omega arith)
all_spelled (s ∷ rest) plain zero d lt = record { letter = plain.0.letter; digit = plain.0.digit }
all_spelled (s ∷ rest) plain (suc k) d lt = all_spelled rest plain.1 k d (omega arith)

pub all_bare : (symbols : List Symbol) → AreBare symbols → All IsBare symbols
all_bare [] bare k d lt = absurd (omega arith)
all_bare (s ∷ rest) bare zero d lt = bare.0
all_bare (s ∷ rest) bare (suc k) d lt = all_bare rest bare.1 k d (omega arith)
