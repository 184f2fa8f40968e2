-- The symbols of a text are few, and none of them has a number of an identifier.
use Rattle.std.proofs.Common.{◌≡◌, ◌≤◌, ◌+◌, ◌-◌, ◌==◌, ◌++◌, ℕ, zero, suc, List, [], ◌∷◌, length, refl, arith, Bool, true, false, Option, None, Some}
use Rattle.std.specs.Prelude.{All, ⊤}
use Rattle.std.specs.Option.{option_map}
use Rattle.std.proofs.lemmas.List.{length-append}
use Rattle.std.proofs.lemmas.List.Elements.{All-append, All-cons, All-nil}
use Rattle.gier_symbol.specs.declared.symbol.Symbol.{Symbol}
use Rattle.gier_symbol.specs.declared.word.Spelling.{Spelling}
use Rattle.gier_symbol.specs.declared.word.Spelling.TheVariants.{Plain, Quoted}
use Rattle.gier_symbol.specs.Bytes.{Front, ALayout, ALetter, ADigit, AWord, AString, ASign, Other, front_of, opening_brace, closing_brace}
use Rattle.gier_symbol.specs.Reading.{Taken, taken_by, takes_word, takes_known, takes_string, string_symbols, line_behind, read, read_by, symbols_of, quoting_byte}
use Rattle.gier_symbol.specs.Spans.{string_bytes, string_step}
use Rattle.gier_symbol.specs.Words.{word_of, comment_word}
use Rattle.gier_sizes.specs.Symbols.{ReadSymbolsAreFew}

-- the bytes of a string and its closing brace are among so many bytes
abbrev AreWithin : Option (List ℕ) → ℕ → Type 0
AreWithin None n = ⊤
AreWithin (Some bytes) n = length bytes + 1 ≤ n

one_more : (byte : ℕ) (o : Option (List ℕ)) (n : ℕ) → AreWithin o n → AreWithin (option_map (λ (l : List ℕ). byte ∷ l) o) (suc n)
one_more byte None n h = tt
one_more byte (Some bytes) n h = omega (arith, h)

step_within : (opens closes : Bool) (inner byte n : ℕ) (go_on : ℕ → Option (List ℕ)) → ((k : ℕ) → AreWithin (go_on k) n)
    → AreWithin (string_step opens closes inner byte go_on) (suc n)
step_within true closes inner byte n go_on h = one_more byte (go_on (suc inner)) n (h (suc inner))
step_within false true zero byte n go_on h = omega arith
step_within false true (suc inner) byte n go_on h = one_more byte (go_on inner) n (h inner)
step_within false false inner byte n go_on h = one_more byte (go_on inner) n (h inner)

string_within : (rest : List ℕ) (inner : ℕ) → AreWithin (string_bytes rest inner) (length rest)
string_within [] inner = tt
string_within (byte ∷ rest) inner = step_within (byte == opening_brace) (byte == closing_brace) inner byte (length rest) (string_bytes rest)
    (string_within rest)

string_length : (bytes : List ℕ) (line : ℕ) → length (string_symbols bytes line) ≡ suc (length bytes)
string_length [] line = refl
string_length (byte ∷ bytes) line = omega (arith, string_length bytes (line_behind byte line))

-- what a front gives is no more than the bytes that it takes, and one
abbrev IsFew : (rest : ℕ) → Taken → Type 0
IsFew rest t = length t.gives.symbols + (rest - t.more) ≤ rest + 1

few_of_string : (o : Option (List ℕ)) (rest : List ℕ) (line : ℕ) → AreWithin o (length rest) → IsFew (length rest) (takes_string o rest line)
few_of_string None rest line h = omega arith
few_of_string (Some bytes) rest line h = omega (arith, h, string_length bytes line)

few_of_known : (comment end : Bool) (tag taken : ℕ) (spelling : Spelling) (fresh : Bool) (rest : List ℕ) (line : ℕ)
    → IsFew (length rest) (takes_known comment end tag taken spelling fresh rest line)
few_of_known true end tag taken spelling true rest line = omega arith
few_of_known true end tag taken spelling false rest line = omega arith
few_of_known false true tag taken spelling fresh rest line = omega arith
few_of_known false false tag taken spelling fresh rest line = omega arith

few_of_word : (tag : Option ℕ) (taken : ℕ) (spelling : Spelling) (fresh : Bool) (rest : List ℕ) (line : ℕ)
    → IsFew (length rest) (takes_word tag taken spelling fresh rest line)
few_of_word None taken spelling fresh rest line = omega arith
few_of_word (Some tag) taken spelling fresh rest line = few_of_known (tag == comment_word) _ tag taken spelling fresh rest line

few_of_front : (front : Front) (spelling : Spelling) (fresh : Bool) (byte : ℕ) (rest : List ℕ) (line : ℕ)
    → IsFew (length rest) (taken_by front spelling fresh byte rest line)
few_of_front ALayout spelling fresh byte rest line = omega arith
few_of_front ALetter spelling fresh byte rest line = omega arith
few_of_front ADigit spelling fresh byte rest line = omega arith
few_of_front AWord spelling fresh byte rest line = few_of_word (word_of spelling rest).tag (word_of spelling rest).taken spelling fresh rest line
few_of_front AString spelling fresh byte rest line = few_of_string (string_bytes rest 0) rest line (string_within rest 0)
few_of_front (ASign sign) spelling fresh byte rest line = omega arith
few_of_front Other spelling fresh byte rest line = omega arith

few_of_both : (t : Taken) (rest : ℕ) (later : List Symbol) → IsFew rest t → length later ≤ (rest - t.more) + 1
    → length (t.gives.symbols ++ later) ≤ suc rest + 1
few_of_both t rest later h k = omega (arith, h, k, length-append t.gives.symbols later)

few_read : (spelling : Spelling) (bytes : List ℕ) (taken : ℕ) (fresh : Bool) (line : ℕ)
    → length (read spelling bytes taken fresh line).symbols ≤ (length bytes - taken) + 1
few_read spelling [] taken fresh line = omega arith
few_read spelling (byte ∷ rest) (suc taken) fresh line =
    let e : suc (length rest) - suc taken ≡ length rest - taken = omega arith in
    omega (arith, e, few_read spelling rest taken fresh (line_behind byte line))
few_read spelling (byte ∷ rest) zero fresh line =
    let t = taken_by (front_of spelling byte rest) spelling fresh byte rest line in
    let none_taken : suc (length rest) - 0 ≡ suc (length rest) = omega arith in
    rw none_taken (few_of_both t (length rest) (read spelling rest t.more t.fresh (line_behind byte line)).symbols
    (few_of_front (front_of spelling byte rest) spelling fresh byte rest line)
    (few_read spelling rest t.more t.fresh (line_behind byte line)))

few_by : (quoted : Bool) (byte : ℕ) (rest : List ℕ) → length (read_by quoted byte rest).symbols ≤ suc (length rest) + 1
few_by true byte rest = omega (arith, few_read Quoted rest 0 false 1)
few_by false byte rest = omega (arith, few_read Plain (byte ∷ rest) 0 false 1)

pub read_few : ReadSymbolsAreFew
read_few [] = omega arith
read_few (byte ∷ rest) = few_by (byte == quoting_byte) byte rest

-- a symbol that has the tag of an identifier has no value: none has a number yet
abbrev pub IsUnnumbered : Symbol → Type 0
IsUnnumbered s = s.tag ≡ 3 → s.value ≡ 0

none_unnumbered : All IsUnnumbered []
none_unnumbered = All-nil IsUnnumbered

one_unnumbered : (s : Symbol) → IsUnnumbered s → All IsUnnumbered (s ∷ [])
one_unnumbered s h = All-cons IsUnnumbered s [] h none_unnumbered

string_unnumbered : (bytes : List ℕ) (line : ℕ) → All IsUnnumbered (string_symbols bytes line)
string_unnumbered [] line = one_unnumbered _ (λ e. refl)
string_unnumbered (byte ∷ bytes) line = All-cons IsUnnumbered _ (string_symbols bytes (line_behind byte line)) (λ e. absurd (omega (arith, e)))
    (string_unnumbered bytes (line_behind byte line))

unnumbered_string : (o : Option (List ℕ)) (rest : List ℕ) (line : ℕ) → All IsUnnumbered (takes_string o rest line).gives.symbols
unnumbered_string None rest line = none_unnumbered
unnumbered_string (Some bytes) rest line = All-cons IsUnnumbered _ (string_symbols bytes line) (λ e. refl) (string_unnumbered bytes line)

unnumbered_known : (comment end : Bool) (tag taken : ℕ) (spelling : Spelling) (fresh : Bool) (rest : List ℕ) (line : ℕ)
    → All IsUnnumbered (takes_known comment end tag taken spelling fresh rest line).gives.symbols
unnumbered_known true end tag taken spelling true rest line = none_unnumbered
unnumbered_known true end tag taken spelling false rest line = none_unnumbered
unnumbered_known false true tag taken spelling fresh rest line = one_unnumbered _ (λ e. refl)
unnumbered_known false false tag taken spelling fresh rest line = one_unnumbered _ (λ e. refl)

unnumbered_word : (tag : Option ℕ) (taken : ℕ) (spelling : Spelling) (fresh : Bool) (rest : List ℕ) (line : ℕ)
    → All IsUnnumbered (takes_word tag taken spelling fresh rest line).gives.symbols
unnumbered_word None taken spelling fresh rest line = none_unnumbered
unnumbered_word (Some tag) taken spelling fresh rest line = unnumbered_known (tag == comment_word) _ tag taken spelling fresh rest line

unnumbered_front : (front : Front) (spelling : Spelling) (fresh : Bool) (byte : ℕ) (rest : List ℕ) (line : ℕ)
    → All IsUnnumbered (taken_by front spelling fresh byte rest line).gives.symbols
unnumbered_front ALayout spelling fresh byte rest line = none_unnumbered
unnumbered_front ALetter spelling fresh byte rest line = one_unnumbered _ (λ e. absurd (omega (arith, e)))
unnumbered_front ADigit spelling fresh byte rest line = one_unnumbered _ (λ e. absurd (omega (arith, e)))
unnumbered_front AWord spelling fresh byte rest line = unnumbered_word (word_of spelling rest).tag (word_of spelling rest).taken spelling fresh rest line
unnumbered_front AString spelling fresh byte rest line = unnumbered_string (string_bytes rest 0) rest line
unnumbered_front (ASign sign) spelling fresh byte rest line = one_unnumbered _ (λ e. refl)
unnumbered_front Other spelling fresh byte rest line = none_unnumbered

unnumbered_read : (spelling : Spelling) (bytes : List ℕ) (taken : ℕ) (fresh : Bool) (line : ℕ)
    → All IsUnnumbered (read spelling bytes taken fresh line).symbols
unnumbered_read spelling [] taken fresh line = one_unnumbered _ (λ e. refl)
unnumbered_read spelling (byte ∷ rest) (suc taken) fresh line = unnumbered_read spelling rest taken fresh (line_behind byte line)
unnumbered_read spelling (byte ∷ rest) zero fresh line =
    let t = taken_by (front_of spelling byte rest) spelling fresh byte rest line in
    All-append IsUnnumbered t.gives.symbols (read spelling rest t.more t.fresh (line_behind byte line)).symbols
    (unnumbered_front (front_of spelling byte rest) spelling fresh byte rest line)
    (unnumbered_read spelling rest t.more t.fresh (line_behind byte line))

unnumbered_by : (quoted : Bool) (byte : ℕ) (rest : List ℕ) → All IsUnnumbered (read_by quoted byte rest).symbols
unnumbered_by true byte rest = unnumbered_read Quoted rest 0 false 1
unnumbered_by false byte rest = unnumbered_read Plain (byte ∷ rest) 0 false 1

pub read_unnumbered : (text : List ℕ) → All IsUnnumbered (symbols_of text).symbols
read_unnumbered [] = unnumbered_read Plain [] 0 false 1
read_unnumbered (byte ∷ rest) = unnumbered_by (byte == quoting_byte) byte rest
