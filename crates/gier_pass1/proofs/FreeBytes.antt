-- A byte that belongs to no sign or word that was begun gives what the rules give for it.
use Rattle.std.proofs.Common.{◌≡◌, ◌≤◌, ◌+◌, ◌-◌, ◌∙◌, ℕ, zero, suc, Bool, true, false, if◌then◌else◌, List, [], ◌∷◌, length, Option, None, Some, eqb, nat_le, refl, sym, ap, subst, arith}
use Rattle.std.specs.Option.{option_map}
use Rattle.std.proofs.lemmas.Bool.Decides.{nat_tests}
use Rattle.gier_symbol.specs.declared.tag.Tag.TheVariants.{StringByte, StringEnd}
use Rattle.gier_symbol.specs.declared.word.Spelling.{Spelling}
use Rattle.gier_symbol.specs.declared.word.Spelling.TheVariants.{Plain, Quoted}
use Rattle.gier_symbol.specs.ByTag.{sym as symbol, word}
use Rattle.gier_symbol.specs.Listing.{Listing, listings_joined}
use Rattle.gier_symbol.specs.Reading.{read, line_behind, read_by, string_symbols}
use Rattle.gier_symbol.specs.Spans.{string_bytes, comment_length, skipped_length, string_step as string_as, comment_step as comment_as, skipped_step as skipped_as}
use Rattle.gier_symbol.specs.Words.{word_byte, word_of}
use Rattle.gier_pass1.specs.declared.state.Mode.{Mode}
use Rattle.gier_pass1.specs.declared.state.Mode.TheVariants.{Start, Between, AfterPrefix, InWord, InString, InComment, InSkipped, InSkippedWord}
use Rattle.gier_pass1.specs.declared.state.State.{State}
use Rattle.gier_pass1.specs.declared.state.Step.{Step}
use Rattle.gier_pass1.specs.Scan.{start_state, begin_step, opens, goes, first_step, string_step, comment_step, taken_step, line_after, at_next_byte}
use Rattle.gier_pass1.proofs.SymbolStarts.{Steps, fronts, same_line, same_byte, not_closed}
use Rattle.gier_pass1.proofs.RestOfProgram.{to_come_in, string_to_come, Begins, begins_joined, begins_as}

read_line : (spelling : Spelling) (rest : List ℕ) (n : ℕ) (fresh : Bool) (byte line : ℕ)
    → read spelling rest n fresh (line_behind byte line) ≡ read spelling rest n fresh (line_after line byte)
read_line spelling rest n fresh byte line = ap (λ (l : ℕ). read spelling rest n fresh l) (same_line byte line)

first_by : (quoted : Bool) (byte : ℕ) (rest : List ℕ) → eqb byte 33 ≡ quoted
    → Steps (read_by quoted byte rest) (first_step start_state byte) byte rest
first_by true byte rest is = rw (same_byte byte 33 is) (begins_as _ _ refl)
first_by false byte rest is = rw is (fronts start_state byte rest)

string_on : (bytes : Option (List ℕ)) (spelling : Spelling) (fresh : Bool) (began line byte : ℕ) (rest : List ℕ)
    → Begins (string_to_come (option_map (λ (l : List ℕ). byte ∷ l) bytes) spelling fresh began line (byte ∷ rest))
    (symbol StringByte byte line ∷ []) [] (string_to_come bytes spelling fresh began (line_after line byte) rest)
string_on None spelling fresh began line byte rest = record { faults = refl; symbols = λ closed. absurd (not_closed began [] closed) }
string_on (Some bytes) spelling fresh began line byte rest =
    let e : suc (length bytes) + 1 ≡ suc (length bytes + 1) = omega arith in
    begins_joined _ _ (record { symbols = symbol StringByte byte line ∷ []; faults = [] })
    (ap (λ (n : ℕ). listings_joined (record { symbols = symbol StringByte byte line ∷ string_symbols bytes (line_behind byte line); faults = [] })
    (read spelling (byte ∷ rest) n fresh line)) e
    ∙ ap (λ (l : ℕ). listings_joined (record { symbols = symbol StringByte byte line ∷ string_symbols bytes l; faults = [] })
    (read spelling rest (length bytes + 1) fresh l)) (same_line byte line))

string_at : (depth inner : ℕ) (s : State) (byte : ℕ) (rest : List ℕ) → depth - 1 ≡ inner
    → Begins (string_to_come (option_map (λ (l : List ℕ). byte ∷ l) (string_bytes rest inner)) s.spelling s.may_comment s.began.line
    s.here.line (byte ∷ rest)) (symbol StringByte byte s.here.line ∷ []) [] (to_come_in (InString depth) (at_next_byte s byte) [] rest)
string_at depth inner s byte rest is = rw is (string_on (string_bytes rest inner) s.spelling s.may_comment s.began.line s.here.line byte
    rest)

below : (inner : ℕ) → nat_le (suc (suc inner)) 1 ≡ false
below inner = grind (arith, nat_tests)

string_shuts : (inner : ℕ) (s : State) (depth byte : ℕ) (rest : List ℕ) → depth ≡ suc inner → eqb byte 123 ≡ false → eqb byte 125 ≡ true
    → Steps (string_to_come (string_as false true inner byte (string_bytes rest)) s.spelling s.may_comment s.began.line s.here.line
    (byte ∷ rest)) (string_step s depth byte) byte rest
string_shuts zero s depth byte rest is o c = rw (is, o, c)
    (begins_joined _ _ (record { symbols = word StringEnd s.here.line ∷ []; faults = [] })
    (ap (λ (l : Listing). listings_joined (record { symbols = word StringEnd s.here.line ∷ []; faults = [] }) l)
    (read_line s.spelling rest 0 s.may_comment byte s.here.line)))
string_shuts (suc inner) s depth byte rest is o c =
    let more : nat_le depth 1 ≡ false = rw is (below inner) in
    rw (o, c, more) (string_at (depth - 1) inner s byte rest (omega (arith, is)))

strings_by : (opens closes : Bool) (inner : ℕ) (s : State) (depth byte : ℕ) (rest : List ℕ) → depth ≡ suc inner → eqb byte 123 ≡ opens
    → eqb byte 125 ≡ closes → Steps (string_to_come (string_as opens closes inner byte (string_bytes rest)) s.spelling s.may_comment
    s.began.line s.here.line (byte ∷ rest)) (string_step s depth byte) byte rest
strings_by true closes inner s depth byte rest is o c = rw o (string_at (depth + 1) (suc inner) s byte rest (omega (arith, is)))
strings_by false true inner s depth byte rest is o c = string_shuts inner s depth byte rest is o c
strings_by false false inner s depth byte rest is o c = rw (o, c) (string_at depth inner s byte rest (omega (arith, is)))

strings : (s : State) (depth byte : ℕ) (rest : List ℕ) → 1 ≤ depth
    → Steps (to_come_in (InString depth) s [] (byte ∷ rest)) (string_step s depth byte) byte rest
strings s depth byte rest is = strings_by (eqb byte 123) (eqb byte 125) (depth - 1) s depth byte rest (omega (arith, is)) refl refl

comments_by : (ends : Bool) (s : State) (byte : ℕ) (rest : List ℕ) → eqb byte 59 ≡ ends
    → Steps (read s.spelling (byte ∷ rest) (comment_as ends (comment_length rest)) s.may_comment s.here.line)
    (comment_step (record s { mode = InComment }) byte) byte rest
comments_by true s byte rest is = rw is (begins_as _ _ (read_line s.spelling rest 0 s.may_comment byte s.here.line))
comments_by false s byte rest is = rw is (begins_as _ _ (read_line s.spelling rest (comment_length rest) s.may_comment byte s.here.line))

skipped_front : (spelling : Spelling) (byte : ℕ) (rest : List ℕ) (fresh : Bool) (line : ℕ) → byte ≡ word_byte spelling
    → read spelling (byte ∷ rest) (skipped_as false true (word_of spelling rest) (skipped_length spelling rest)) fresh line ≡ read
    spelling (word_byte spelling ∷ rest) (skipped_length spelling (word_byte spelling ∷ rest) 0) fresh (line_after line byte)
skipped_front Plain byte rest fresh line is = rw is refl
skipped_front Quoted byte rest fresh line is = rw is refl

abbrev skip : (ends begins : Bool) → State → ℕ → Step
skip ends begins s byte = if ends then begin_step s byte else (if begins then opens s InSkippedWord else goes s)

skips_by : (ends begins : Bool) (s : State) (byte : ℕ) (rest : List ℕ) → eqb byte (word_byte s.spelling) ≡ begins
    → Steps (read s.spelling (byte ∷ rest) (skipped_as ends begins (word_of s.spelling rest) (skipped_length s.spelling rest))
    s.may_comment s.here.line) (skip ends begins (record s { mode = InSkipped }) byte) byte rest
skips_by true begins s byte rest w = fronts (record s { mode = InSkipped }) byte rest
skips_by false true s byte rest w = begins_as _ _ (skipped_front s.spelling byte rest s.may_comment s.here.line
    (same_byte byte (word_byte s.spelling) w))
skips_by false false s byte rest w = begins_as _ _ (read_line s.spelling rest (skipped_length s.spelling rest 0) s.may_comment byte
    s.here.line)

-- no sign or word was begun, and a string has open braces
abbrev pub IsQuiet : Mode → Type 0
IsQuiet Start = Unit {0}
IsQuiet Between = Unit {0}
IsQuiet (AfterPrefix opener) = ⊥
IsQuiet InWord = ⊥
IsQuiet (InString depth) = 1 ≤ depth
IsQuiet InComment = Unit {0}
IsQuiet InSkipped = Unit {0}
IsQuiet InSkippedWord = ⊥

pub quiet_steps : (mode : Mode) (s : State) (byte : ℕ) (rest : List ℕ) → IsQuiet mode
    → (mode ≡ Start → record s { mode = mode } ≡ start_state)
    → Steps (to_come_in mode (record s { mode = mode }) [] (byte ∷ rest)) (taken_step (record s { mode = mode }) byte) byte rest
quiet_steps Start s byte rest quiet first = subst (λ (t : State). Steps (to_come_in Start s [] (byte ∷ rest)) (taken_step t byte) byte
    rest) (sym (first refl)) (first_by (eqb byte 33) byte rest refl)
quiet_steps Between s byte rest quiet first = fronts (record s { mode = Between }) byte rest
quiet_steps (AfterPrefix opener) s byte rest quiet first = absurd quiet
quiet_steps InWord s byte rest quiet first = absurd quiet
quiet_steps (InString depth) s byte rest quiet first = strings (record s { mode = InString depth }) depth byte rest quiet
quiet_steps InComment s byte rest quiet first = comments_by (eqb byte 59) s byte rest refl
quiet_steps InSkipped s byte rest quiet first = skips_by (eqb byte 59) (eqb byte (word_byte s.spelling)) s byte rest refl
quiet_steps InSkippedWord s byte rest quiet first = absurd quiet
