-- Every byte gives what the rules give for it, wherever the reading stands, and so does the end.
use Rattle.std.proofs.Common.{◌≡◌, ◌≤◌, ◌++◌, ◌∙◌, ℕ, Bool, true, false, List, [], ◌∷◌, None, Some, eqb, refl, sym, ap, subst, arith}
use Rattle.std.specs.List.{list_all}
use Rattle.gier_symbol.specs.declared.tag.Tag.TheVariants.{TextEnd}
use Rattle.gier_symbol.specs.ByTag.{word}
use Rattle.gier_symbol.specs.Listing.{Listing}
use Rattle.gier_symbol.specs.Words.{is_name_letter}
use Rattle.gier_strop.specs.Reading.{answer_to}
use Rattle.gier_text.specs.declared.fault.Fault.{Fault}
use Rattle.gier_pass1.specs.declared.bytes.DoubleSignPrefix.{DoubleSignPrefix}
use Rattle.gier_pass1.specs.declared.state.Mode.{Mode}
use Rattle.gier_pass1.specs.declared.state.Mode.TheVariants.{Start, Between, AfterPrefix, InWord, InString, InComment, InSkipped, InSkippedWord}
use Rattle.gier_pass1.specs.declared.state.Place.{Place}
use Rattle.gier_pass1.specs.declared.state.State.{State}
use Rattle.gier_pass1.specs.declared.state.Token.{Token}
use Rattle.gier_pass1.specs.declared.state.Token.TheVariants.{Nothing}
use Rattle.gier_pass1.specs.declared.state.Step.{Step}
use Rattle.gier_pass1.specs.Puts.{letters_in}
use Rattle.gier_pass1.specs.Scan.{start_state, in_word, word_step, at_next_byte, at_end, at_end_in, double_behind}
use Rattle.gier_pass1.specs.Scanning.{ended_step, begun_step, letters_behind}
use Rattle.gier_pass1.proofs.SingleBytes.{word_ends_calm, sign_line}
use Rattle.gier_pass1.proofs.SymbolStarts.{not_closed}
use Rattle.gier_pass1.proofs.SignEnds.{sign_ends}
use Rattle.gier_pass1.proofs.ByteSteps.{IsWell, Stepped, floor, letter_goes, quiet_stepped, calm_by, EndsIn, fault_map}
use Rattle.gier_pass1.proofs.RestOfProgram.{to_come, to_come_in, faults_found, Begins, begins_joined, begins_more}
use Rattle.gier_pass1.proofs.PlacesOfFaults.{IsWellIn, OnFault, EndsCalm, IsCalm, sign_calm, WordFaults, well_floor}
use Rattle.gier_pass1.proofs.WordsFed.{word_mode, word_ended_so, left_by, Ended}

-- this byte, where the reading stands there
abbrev pub Takes : State → (letters : List ℕ) → (byte : ℕ) → Type 0
Takes s letters byte =
    let ended = ended_step s letters (Some byte) in
    let begun = begun_step ended byte in
    Stepped s letters byte ended.found begun.found (at_next_byte begun.state byte) (letters_behind s letters (Some byte))

quiet_takes : (s : State) (letters : List ℕ) (byte : ℕ) → letters ≡ [] → Takes s [] byte → Takes s letters byte
quiet_takes s letters byte none takes = subst (λ (l : List ℕ). Takes s l byte) (sym none) takes

sign_takes : (opener : DoubleSignPrefix) (s : State) (byte : ℕ) → s.began.line ≡ s.here.line → Takes (record s { mode = AfterPrefix opener }) [] byte
sign_takes opener s byte line =
    let state : State = record s { mode = AfterPrefix opener } in
    let step = ended_step state [] (Some byte) in
    calm_by step.taken (λ f. ⊥) state [] byte step refl (sign_calm state opener (double_behind opener (Some byte)))
    (λ f no_fault. absurd no_fault) (omega arith)
    (λ taken other same. let e : byte ≡ other = cc in subst (λ (b : ℕ). eqb b 10 ≡ false) e (sign_line opener state byte taken))
    (λ rest. sign_ends opener s [] (byte ∷ rest) line)

word_faults : (skipped : Bool) (s : State) → IsWellIn (word_mode skipped) (record s { mode = word_mode skipped })
    → EndsIn (WordFaults skipped (record s { mode = word_mode skipped })) (record s { mode = word_mode skipped })
word_faults true s well = λ f no_fault. absurd no_fault
word_faults false s well = λ f at. (omega (arith, at), omega (arith, at, well.1))

reads_word : (skipped : Bool) → in_word (word_mode skipped) ≡ true
reads_word true = refl
reads_word false = refl

word_well : (skipped : Bool) (s : State) → IsWellIn (word_mode skipped) (record s { mode = word_mode skipped }) → s.began.line ≡ s.here.line
word_well true s well = well
word_well false s well = well.0

word_takes : (letter : Bool) (skipped : Bool) (s : State) (letters : List ℕ) (byte : ℕ) → is_name_letter s.spelling byte ≡ letter
    → list_all (is_name_letter s.spelling) letters ≡ true → IsWellIn (word_mode skipped) (record s { mode = word_mode skipped })
    → Takes (record s { mode = word_mode skipped }) letters byte
word_takes true true s letters byte is all well = rw is (letter_goes true s letters byte all is well)
word_takes true false s letters byte is all well = rw is (letter_goes false s letters byte all is well)
word_takes false skipped s letters byte is all well =
    let state : State = record s { mode = word_mode skipped } in
    let reads : in_word state.mode ≡ true = reads_word skipped in
    let none : letters_behind state letters (Some byte) ≡ [] = rw (reads, is) refl in
    let step = word_step state (answer_to s.spelling letters (Some byte)) in
    let same : step ≡ ended_step state letters (Some byte) = rw reads refl in
    let calm = word_ends_calm skipped s letters (byte ∷ []) all is in
    rw none (subst (λ (t : Step). Stepped state letters byte t.found (begun_step t byte).found (at_next_byte (begun_step t byte).state byte) [])
    same
    (calm_by step.taken (WordFaults skipped state) state letters byte step refl calm.0 (word_faults skipped s well)
    (well_floor (word_mode skipped) state well) calm.1
    (λ rest. word_ended_so skipped s letters (byte ∷ rest) all is (word_well skipped s well))))

takes_in : (mode : Mode) (s : State) (letters : List ℕ) (byte : ℕ) → IsWell (record s { mode = mode }) letters
    → Takes (record s { mode = mode }) letters byte
takes_in Start s letters byte well = quiet_takes (record s { mode = Start }) letters byte well.are
    (quiet_stepped Start s byte tt well.state)
takes_in Between s letters byte well = quiet_takes (record s { mode = Between }) letters byte well.are
    (quiet_stepped Between s byte tt well.state)
takes_in (AfterPrefix opener) s letters byte well = quiet_takes (record s { mode = AfterPrefix opener }) letters byte well.are
    (sign_takes opener s byte well.state)
takes_in InWord s letters byte well = word_takes (is_name_letter s.spelling byte) false s letters byte refl well.are well.state
takes_in (InString depth) s letters byte well = quiet_takes (record s { mode = InString depth }) letters byte well.are
    (quiet_stepped (InString depth) s byte well.state.0 well.state)
takes_in InComment s letters byte well = quiet_takes (record s { mode = InComment }) letters byte well.are
    (quiet_stepped InComment s byte tt well.state)
takes_in InSkipped s letters byte well = quiet_takes (record s { mode = InSkipped }) letters byte well.are
    (quiet_stepped InSkipped s byte tt well.state)
takes_in InSkippedWord s letters byte well = word_takes (is_name_letter s.spelling byte) true s letters byte refl well.are well.state

pub takes : (s : State) (letters : List ℕ) (byte : ℕ) → IsWell s letters → Takes s letters byte
takes s letters byte well = takes_in s.mode s letters byte well

abbrev pub nothing : Listing
nothing = record { symbols = []; faults = [] }

-- what the end gives is all that was to come
pub record Ends (s : State) (letters : List ℕ) (found : Token) : Type 0 where
  pub begins : Begins (to_come s letters []) (letters_in found ++ word TextEnd s.here.line ∷ []) (faults_found found ++ []) nothing
  pub fault : OnFault (λ fault. floor s ≤ fault.position) found

text_end : (line : ℕ) → Begins (record { symbols = word TextEnd line ∷ []; faults = [] }) (word TextEnd line ∷ []) [] nothing
text_end line = begins_joined _ _ (record { symbols = word TextEnd line ∷ []; faults = [] }) refl

none_left : (taken : Bool) → left_by taken [] ≡ []
none_left true = refl
none_left false = refl

calm_end : (mode : Mode) (step : Step) → IsCalm mode → at_end_in mode step ≡ step.found
calm_end Start step calm = absurd calm
calm_end Between step calm = refl
calm_end (AfterPrefix opener) step calm = absurd calm
calm_end InWord step calm = absurd calm
calm_end (InString depth) step calm = absurd calm
calm_end InComment step calm = refl
calm_end InSkipped step calm = refl
calm_end InSkippedWord step calm = absurd calm

calm_left : (mode : Mode) (s : State) → IsCalm mode → to_come_in mode s []
    [] ≡ record { symbols = word TextEnd s.here.line ∷ []; faults = [] }
calm_left Start s calm = absurd calm
calm_left Between s calm = refl
calm_left (AfterPrefix opener) s calm = absurd calm
calm_left InWord s calm = absurd calm
calm_left (InString depth) s calm = absurd calm
calm_left InComment s calm = refl
calm_left InSkipped s calm = refl
calm_left InSkippedWord s calm = absurd calm

calm_ends : (P : Fault → Type 0) (s : State) (letters : List ℕ) (step : Step) → EndsCalm P s step → EndsIn P s → Ended step s letters []
    → Ends s letters (at_end step)
calm_ends P s letters step calm faults ends =
    let left = ap (λ (l : List ℕ). to_come step.state [] l) (none_left step.taken) ∙ calm_left step.state.mode step.state calm.calm
    ∙ ap (λ (p : Place). record { symbols = word TextEnd p.line ∷ []; faults = [] }) calm.here in
    subst (λ (found : Token). Ends s letters found) (sym (calm_end step.state.mode step calm.calm)) (record {
      begins = begins_more (to_come s letters []) (record { symbols = word TextEnd s.here.line ∷ []; faults = [] }) nothing
          (letters_in step.found) (word TextEnd s.here.line ∷ []) (faults_found step.found) []
          (subst (λ (l : Listing). Begins (to_come s letters []) (letters_in step.found) (faults_found step.found) l) left ends)
          (text_end s.here.line);
      fault = fault_map P (λ f. floor s ≤ f.position) step.found (λ f p. (faults f p).0) calm.fault;
    })

word_ends_so : (skipped : Bool) (s : State) (letters : List ℕ) → list_all (is_name_letter s.spelling) letters ≡ true
    → IsWellIn (word_mode skipped) (record s { mode = word_mode skipped })
    → Ends (record s { mode = word_mode skipped }) letters
    (at_end (word_step (record s { mode = word_mode skipped }) (answer_to s.spelling letters None)))
word_ends_so skipped s letters all well =
    let state : State = record s { mode = word_mode skipped } in
    let step = word_step state (answer_to s.spelling letters None) in
    let calm = word_ends_calm skipped s letters [] all refl in
    calm_ends (WordFaults skipped state) state letters step calm.0 (word_faults skipped s well)
    (word_ended_so skipped s letters [] all refl (word_well skipped s well))

start_ends : (s : State) → s ≡ start_state → Ends s [] Nothing
start_ends s is = subst (λ (t : State). Ends t [] Nothing) (sym is) (record { begins = text_end 1; fault = tt })

ends_in : (mode : Mode) (s : State) (letters : List ℕ) → IsWell (record s { mode = mode }) letters
    → Ends (record s { mode = mode }) letters (at_end (ended_step (record s { mode = mode }) letters None))
ends_in Start s letters well = rw well.are (start_ends (record s { mode = Start }) well.state)
ends_in Between s letters well = record { begins = text_end s.here.line; fault = tt }
ends_in (AfterPrefix opener) s letters well = calm_ends (λ f. ⊥) (record s { mode = AfterPrefix opener }) letters _
    (sign_calm (record s { mode = AfterPrefix opener }) opener None) (λ f no_fault. absurd no_fault)
    (sign_ends opener s letters [] well.state)
ends_in InWord s letters well = word_ends_so false s letters well.are well.state
ends_in (InString depth) s letters well = record {
  begins = record {
    faults = refl;
    symbols = λ closed. absurd
        (not_closed s.began.line [] closed);
  };
  fault = omega arith;
}
ends_in InComment s letters well = record { begins = text_end s.here.line; fault = tt }
ends_in InSkipped s letters well = record { begins = text_end s.here.line; fault = tt }
ends_in InSkippedWord s letters well = word_ends_so true s letters well.are well.state

pub ends : (s : State) (letters : List ℕ) → IsWell s letters → Ends s letters (at_end (ended_step s letters None))
ends s letters well = ends_in s.mode s letters well
