-- A byte with which a symbol may begin gives what the rules give for it.
use Rattle.std.proofs.Common.{◌≡◌, ◌+◌, ◌-◌, ℕ, suc, Bool, true, false, if◌then◌else◌, List, [], ◌∷◌, length, map, Option, None, Some, eqb, refl, ap, arith}
use Rattle.std.proofs.lemmas.Bool.Decides.{nat_tests}
use Rattle.gier_symbol.specs.declared.tag.Tag.{Tag}
use Rattle.gier_symbol.specs.declared.tag.Tag.TheVariants.{Letter, Digit, StringBegin}
use Rattle.gier_symbol.specs.declared.word.Spelling.{Spelling}
use Rattle.gier_symbol.specs.declared.word.Spelling.TheVariants.{Plain, Quoted}
use Rattle.gier_symbol.specs.Bytes.{Front, AWord, AString, is_layout, is_letter, is_digit, sign_front, sign_before, front_by}
use Rattle.gier_symbol.specs.ByTag.{sym as symbol, word}
use Rattle.gier_symbol.specs.Listing.{FaultAt, SymbolFault, WrongByte, OpenString, Listing, listings_joined}
use Rattle.gier_symbol.specs.Reading.{read, line_behind, taken_by, takes_string}
use Rattle.gier_symbol.specs.Spans.{string_bytes}
use Rattle.gier_symbol.specs.Words.{word_byte}
use Rattle.gier_text.specs.declared.fault.FaultKind.{FaultKind}
use Rattle.gier_text.specs.declared.fault.FaultKind.TheVariants.{Unclosed}
use Rattle.gier_pass1.specs.declared.bytes.Kind.{Kind}
use Rattle.gier_pass1.specs.declared.bytes.Kind.TheVariants.{Layout, Letter as LetterKind, Digit as DigitKind, WordStart, StringStart}
use Rattle.gier_pass1.specs.declared.bytes.DoubleSignPrefix.{DoubleSignPrefix}
use Rattle.gier_pass1.specs.declared.bytes.DoubleSignPrefix.TheVariants.{Less, Greater, Colon}
use Rattle.gier_pass1.specs.declared.state.State.{State}
use Rattle.gier_pass1.specs.declared.state.Step.{Step}
use Rattle.gier_pass1.specs.Bytes.{plain_kind, sign_of, sign_kind}
use Rattle.gier_pass1.specs.Puts.{letters_in}
use Rattle.gier_pass1.specs.Scan.{begin_as, begin_step, line_after, at_next_byte}
use Rattle.gier_text.specs.Faults.{as_fault}
use Rattle.gier_pass1.proofs.Signs.{sign_alone, sign_single, single}
use Rattle.gier_pass1.proofs.RestOfProgram.{to_come, string_to_come, opener_byte, faults_found, Closed, Begins, begins_joined, begins_as}

line_by : (test : Bool) (line : ℕ) → (if test then suc line else line) ≡ (if test then line + 1 else line)
line_by true line = omega arith
line_by false line = refl

pub same_line : (byte line : ℕ) → line_behind byte line ≡ line_after line byte
same_line byte line = line_by (eqb byte 10) line

-- what a front gives, and what is read behind it
abbrev pub by_front : Front → Spelling → Bool → ℕ → List ℕ → ℕ → Listing
by_front front spelling fresh byte rest line =
    let t = taken_by front spelling fresh byte rest line in
    listings_joined t.gives (read spelling rest t.more t.fresh (line_behind byte line))

-- the step that takes this byte is what these bytes begin with
abbrev pub Steps : Listing → Step → ℕ → List ℕ → Type 0
Steps whole step byte rest = Begins whole (letters_in step.found) (faults_found step.found) (to_come (at_next_byte step.state byte) [] rest)

begins_one : (spelling : Spelling) (rest : List ℕ) (more : ℕ) (fresh : Bool) (byte line : ℕ) (gives : Listing)
    → Begins (listings_joined gives (read spelling rest more fresh (line_behind byte line))) gives.symbols (map as_fault gives.faults)
    (read spelling rest more fresh (line_after line byte))
begins_one spelling rest more fresh byte line gives =
    begins_joined _ (read spelling rest more fresh (line_after line byte)) gives
    (ap (λ (l : ℕ). listings_joined gives (read spelling rest more fresh l)) (same_line byte line))

word_front : (spelling : Spelling) (fresh : Bool) (byte : ℕ) (rest : List ℕ) (line : ℕ) → byte ≡ word_byte spelling
    → by_front AWord spelling fresh byte rest line ≡ read spelling (word_byte spelling ∷ rest) 0 fresh (line_after line byte)
word_front Plain fresh byte rest line is = rw is refl
word_front Quoted fresh byte rest line is = rw is refl

pub opener_front : (opener : DoubleSignPrefix) (spelling : Spelling) (fresh : Bool) (byte : ℕ) (rest : List ℕ) (line : ℕ)
    → byte ≡ opener_byte opener → by_front (sign_front (sign_before (byte ∷ rest))) spelling fresh byte rest line ≡ read spelling
    (opener_byte opener ∷ rest) 0 fresh (line_after line byte)
opener_front Less Plain fresh byte rest line is = rw is refl
opener_front Less Quoted fresh byte rest line is = rw is refl
opener_front Greater Plain fresh byte rest line is = rw is refl
opener_front Greater Quoted fresh byte rest line is = rw is refl
opener_front Colon Plain fresh byte rest line is = rw is refl
opener_front Colon Quoted fresh byte rest line is = rw is refl

-- nothing is wrong behind all bytes
pub faultless : (spelling : Spelling) (rest : List ℕ) (fresh : Bool) (line : ℕ) → (read spelling rest (length rest) fresh line).faults ≡ []
faultless spelling [] fresh line = refl
faultless spelling (byte ∷ rest) fresh line = faultless spelling rest fresh (line_behind byte line)

pub not_closed : (line : ℕ) (more : List (FaultAt FaultKind)) → Closed (record { kind = Unclosed; line = line } ∷ more) → ⊥
not_closed line more closed = closed 0 (record { kind = Unclosed; line = line }) (omega arith) refl

string_by : (bytes : Option (List ℕ)) (s : State) (rest : List ℕ)
    → Begins (listings_joined (takes_string bytes rest s.here.line).gives
    (read s.spelling rest (takes_string bytes rest s.here.line).more (takes_string bytes rest s.here.line).fresh s.here.line))
    (word StringBegin s.here.line ∷ []) [] (string_to_come bytes s.spelling false s.here.line s.here.line rest)
string_by None s rest = record {
  faults = ap (λ (l : List (FaultAt SymbolFault)). map as_fault (record { kind = OpenString; line = s.here.line } ∷ l))
      (faultless s.spelling rest false s.here.line);
  symbols = λ closed. absurd (not_closed s.here.line _ closed);
}
string_by (Some bytes) s rest = begins_joined _ _ (record { symbols = word StringBegin s.here.line ∷ []; faults = [] }) refl

string_front : (s : State) (byte : ℕ) (rest : List ℕ) → byte ≡ 123
    → Steps (by_front AString s.spelling s.may_comment byte rest s.here.line) (begin_as StringStart s byte) byte rest
string_front s byte rest is = rw is (string_by (string_bytes rest 0) s rest)

abbrev Signs : State → ℕ → List ℕ → Type 0
Signs s byte rest = Steps (by_front (sign_front (sign_before (byte ∷ rest))) s.spelling s.may_comment byte rest s.here.line)
    (begin_as (sign_kind byte) s byte) byte rest

sign_front_alone : (s : State) (byte : ℕ) (rest : List ℕ) (sign : Option Tag) → sign_of byte ≡ sign
    → Steps (by_front (sign_front sign) s.spelling s.may_comment byte rest s.here.line) (begin_as (plain_kind sign) s byte) byte rest
sign_front_alone s byte rest None is = begins_one s.spelling rest 0 false byte s.here.line
    (record { symbols = []; faults = record { kind = WrongByte; line = s.here.line } ∷ [] })
sign_front_alone s byte rest (Some sign) is =
    rw (single (sign_of byte) sign (sign_single byte) is)
    (begins_one s.spelling rest 0 _ byte s.here.line (record { symbols = word sign s.here.line ∷ []; faults = [] }))

pub same_byte : (a b : ℕ) → eqb a b ≡ true → a ≡ b
same_byte a b h = grind (arith, nat_tests)

signs_by : (less greater colon : Bool) (s : State) (byte : ℕ) (rest : List ℕ) → eqb byte 60 ≡ less → eqb byte 62 ≡ greater
    → eqb byte 58 ≡ colon → Signs s byte rest
signs_by true greater colon s byte rest l g c = rw l (begins_as _ _
    (opener_front Less s.spelling s.may_comment byte rest s.here.line (same_byte byte 60 l)))
signs_by false true colon s byte rest l g c = rw (l, g) (begins_as _ _
    (opener_front Greater s.spelling s.may_comment byte rest s.here.line (same_byte byte 62 g)))
signs_by false false true s byte rest l g c = rw (l, g, c)
    (begins_as _ _ (opener_front Colon s.spelling s.may_comment byte rest s.here.line (same_byte byte 58 c)))
signs_by false false false s byte rest l g c = rw (l, g, c, sign_alone byte rest l g c) (sign_front_alone s byte rest (sign_of byte) refl)

abbrev kind_by : (layout letter digit word brace : Bool) → ℕ → Kind
kind_by layout letter digit word brace byte =
    if layout then Layout else (if letter then LetterKind else
    (if digit then DigitKind else (if word then WordStart else (if brace then StringStart else sign_kind byte))))

fronts_by : (layout letter digit word brace : Bool) (s : State) (byte : ℕ) (rest : List ℕ) → (word ≡ true → byte ≡ word_byte s.spelling)
    → (brace ≡ true → byte ≡ 123) → Steps (by_front (front_by layout letter digit word brace (byte ∷ rest)) s.spelling s.may_comment byte
    rest s.here.line) (begin_as (kind_by layout letter digit word brace byte) s byte) byte rest
fronts_by true letter digit word brace s byte rest w b = begins_one s.spelling rest 0 s.may_comment byte s.here.line
    (record { symbols = []; faults = [] })
fronts_by false true digit word brace s byte rest w b = begins_one s.spelling rest 0 false byte s.here.line
    (record { symbols = symbol Letter byte s.here.line ∷ []; faults = [] })
fronts_by false false true word brace s byte rest w b = begins_one s.spelling rest 0 false byte s.here.line
    (record { symbols = symbol Digit (byte - 48) s.here.line ∷ []; faults = [] })
fronts_by false false false true brace s byte rest w b = begins_as _ _ (word_front s.spelling s.may_comment byte rest s.here.line (w refl))
fronts_by false false false false true s byte rest w b = string_front s byte rest (b refl)
fronts_by false false false false false s byte rest w b = signs_by (eqb byte 60) (eqb byte 62) (eqb byte 58) s byte rest refl refl refl

-- each byte with which a symbol may begin
pub fronts : (s : State) (byte : ℕ) (rest : List ℕ) → Steps (read s.spelling (byte ∷ rest) 0 s.may_comment s.here.line)
    (begin_step s byte) byte rest
fronts s byte rest = fronts_by (is_layout byte) (is_letter byte) (is_digit byte) (eqb byte (word_byte s.spelling)) (eqb byte 123) s byte
    rest (λ h. same_byte byte (word_byte s.spelling) h) (λ h. same_byte byte 123 h)
