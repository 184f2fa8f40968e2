-- Where a sign or a word has ended nothing is read but single bytes, comments and skipped parts.
use Rattle.std.proofs.Common.{◌≡◌, ◌∙◌, ℕ, Bool, true, false, List, [], Option, Some, eqb, slice_get, refl, sym, ap, subst}
use Rattle.std.specs.List.{list_all}
use Rattle.gier_symbol.specs.Words.{is_name_letter, is_next_letter}
use Rattle.gier_strop.specs.declared.reader.Fed.{Fed}
use Rattle.gier_strop.specs.Reading.{answer_to}
use Rattle.gier_pass1.specs.declared.bytes.DoubleSignPrefix.{DoubleSignPrefix}
use Rattle.gier_pass1.specs.declared.bytes.DoubleSignPrefix.TheVariants.{Less, Greater, Colon}
use Rattle.gier_pass1.specs.declared.state.Mode.{Mode}
use Rattle.gier_pass1.specs.declared.state.Mode.TheVariants.{Start, Between, AfterPrefix, InWord, InString, InComment, InSkipped, InSkippedWord}
use Rattle.gier_pass1.specs.declared.state.State.{State}
use Rattle.gier_pass1.specs.declared.state.Step.{Step}
use Rattle.gier_pass1.specs.Scan.{word_step, sign_ended, at_next_byte}
use Rattle.gier_pass1.proofs.SymbolStarts.{same_byte}
use Rattle.gier_pass1.proofs.FreeBytes.{IsQuiet}
use Rattle.gier_pass1.proofs.RestOfProgram.{to_come_in}
use Rattle.gier_pass1.proofs.PlacesOfFaults.{IsWellIn, floor_in, IsCalm, EndsCalm, WordFaults, word_calm}
use Rattle.gier_pass1.proofs.WordsFed.{word_mode, answered, fed_by, taken_so}

-- the byte belongs to what ended, and ends no line
pub come_on : (mode : Mode) (s : State) (byte : ℕ) (rest : List ℕ) → IsCalm mode → eqb byte 10 ≡ false
    → to_come_in mode s [] rest ≡ to_come_in mode (at_next_byte s byte) [] rest
come_on Start s byte rest calm line = absurd calm
come_on Between s byte rest calm line = rw line refl
come_on (AfterPrefix opener) s byte rest calm line = absurd calm
come_on InWord s byte rest calm line = absurd calm
come_on (InString depth) s byte rest calm line = absurd calm
come_on InComment s byte rest calm line = rw line refl
come_on InSkipped s byte rest calm line = rw line refl
come_on InSkippedWord s byte rest calm line = absurd calm

pub calm_well : (mode : Mode) (s : State) → IsCalm mode → IsWellIn mode s
calm_well Start s calm = absurd calm
calm_well Between s calm = tt
calm_well (AfterPrefix opener) s calm = absurd calm
calm_well InWord s calm = absurd calm
calm_well (InString depth) s calm = absurd calm
calm_well InComment s calm = tt
calm_well InSkipped s calm = tt
calm_well InSkippedWord s calm = absurd calm

pub calm_floor : (mode : Mode) (s : State) → IsCalm mode → floor_in mode s ≡ s.here.at
calm_floor Start s calm = absurd calm
calm_floor Between s calm = refl
calm_floor (AfterPrefix opener) s calm = absurd calm
calm_floor InWord s calm = absurd calm
calm_floor (InString depth) s calm = absurd calm
calm_floor InComment s calm = refl
calm_floor InSkipped s calm = refl
calm_floor InSkippedWord s calm = absurd calm

pub calm_quiet : (mode : Mode) → IsCalm mode → IsQuiet mode
calm_quiet Start calm = absurd calm
calm_quiet Between calm = tt
calm_quiet (AfterPrefix opener) calm = absurd calm
calm_quiet InWord calm = absurd calm
calm_quiet (InString depth) calm = absurd calm
calm_quiet InComment calm = tt
calm_quiet InSkipped calm = tt
calm_quiet InSkippedWord calm = absurd calm

pub calm_started : (mode : Mode) → IsCalm mode → mode ≡ Start → ⊥
calm_started mode calm start = subst (λ (m : Mode). IsCalm m) start calm

-- a step that takes the byte that is next ends no line
abbrev pub EndsNoLine : Step → Option ℕ → Type 0
EndsNoLine step next = step.taken ≡ true → (byte : ℕ) → next ≡ Some byte → eqb byte 10 ≡ false

pub word_ends_calm : (skipped : Bool) (s : State) (letters rest : List ℕ) → list_all (is_name_letter s.spelling) letters ≡ true
    → is_next_letter s.spelling (slice_get rest 0) ≡ false
    → EndsCalm (WordFaults skipped (record s { mode = word_mode skipped })) (record s { mode = word_mode skipped })
    (word_step (record s { mode = word_mode skipped }) (answer_to s.spelling letters (slice_get rest 0))) × EndsNoLine
    (word_step (record s { mode = word_mode skipped }) (answer_to s.spelling letters (slice_get rest 0))) (slice_get rest 0)
word_ends_calm skipped s letters rest all next =
    let state : State = record s { mode = word_mode skipped } in
    let r = answered s.spelling letters rest all next in
    let is = ap (λ (f : Fed). word_step state f) r.answer ∙ fed_by skipped r.taken r.tag s in
    subst (λ (step : Step). EndsCalm (WordFaults skipped state) state step × EndsNoLine step (slice_get rest 0)) (sym is)
    (word_calm skipped r.tag state r.taken, λ taken byte same. r.ends (sym (taken_so skipped r.taken r.tag state) ∙ taken) byte same)

no_line : (sign byte : ℕ) → eqb sign 10 ≡ false → eqb byte sign ≡ true → eqb byte 10 ≡ false
no_line sign byte line is = subst (λ (b : ℕ). eqb b 10 ≡ false) (sym (same_byte byte sign is)) line

less_line : (not_greater not_equal : Bool) (s : State) (byte : ℕ) → eqb byte 61 ≡ not_greater → eqb byte 62 ≡ not_equal
    → (sign_ended s Less (Some byte)).taken ≡ true → eqb byte 10 ≡ false
less_line true not_equal s byte e n taken = no_line 61 byte refl e
less_line false true s byte e n taken = no_line 62 byte refl n
less_line false false s byte e n taken = absurd (let none : (sign_ended s Less (Some byte)).taken ≡ false = rw (e, n) refl in cc)

greater_line : (not_less : Bool) (s : State) (byte : ℕ) → eqb byte 61 ≡ not_less → (sign_ended s Greater (Some byte)).taken ≡ true
    → eqb byte 10 ≡ false
greater_line true s byte e taken = no_line 61 byte refl e
greater_line false s byte e taken = absurd (let none : (sign_ended s Greater (Some byte)).taken ≡ false = rw e refl in cc)

colon_line : (becomes : Bool) (s : State) (byte : ℕ) → eqb byte 61 ≡ becomes → (sign_ended s Colon (Some byte)).taken ≡ true
    → eqb byte 10 ≡ false
colon_line true s byte e taken = no_line 61 byte refl e
colon_line false s byte e taken = absurd (let none : (sign_ended s Colon (Some byte)).taken ≡ false = rw e refl in cc)

pub sign_line : (opener : DoubleSignPrefix) (s : State) (byte : ℕ) → (sign_ended s opener (Some byte)).taken ≡ true → eqb byte 10 ≡ false
sign_line Less s byte taken = less_line (eqb byte 61) (eqb byte 62) s byte refl refl taken
sign_line Greater s byte taken = greater_line (eqb byte 61) s byte refl taken
sign_line Colon s byte taken = colon_line (eqb byte 61) s byte refl taken
