-- A byte gives what the rules give for it, wherever the reading stands, and so does the end.
use Rattle.std.proofs.Common.{◌≡◌, ◌≤◌, ◌<◌, ◌+◌, ◌++◌, ◌∙◌, ℕ, Bool, true, false, List, [], ◌∷◌, Some, refl, sym, ap, subst, arith, append_assoc}
use Rattle.std.specs.List.{list_all}
use Rattle.std.proofs.lemmas.List.Folds.{list_all-append}
use Rattle.gier_symbol.specs.declared.word.Spelling.{Spelling}
use Rattle.gier_symbol.specs.Words.{is_name_letter, word_byte}
use Rattle.gier_symbol.specs.Reading.{read}
use Rattle.gier_symbol.specs.Spans.{skipped_length}
use Rattle.gier_text.specs.declared.fault.Fault.{Fault}
use Rattle.gier_pass1.specs.declared.state.Mode.{Mode}
use Rattle.gier_pass1.specs.declared.state.Place.{Place}
use Rattle.gier_pass1.specs.declared.state.State.{State}
use Rattle.gier_pass1.specs.declared.state.Token.{Token}
use Rattle.gier_pass1.specs.declared.state.Token.TheVariants.{Nothing, Written, LexError}
use Rattle.gier_pass1.specs.declared.state.Step.{Step}
use Rattle.gier_pass1.specs.Puts.{letters_in}
use Rattle.gier_pass1.specs.Scan.{in_word, taken_step, at_next_byte, line_after}
use Rattle.gier_pass1.specs.Scanning.{begun_step}
use Rattle.gier_pass1.proofs.SingleBytes.{come_on, calm_well, calm_floor, calm_quiet, EndsNoLine}
use Rattle.gier_pass1.proofs.InLine.{letter_in_line}
use Rattle.gier_pass1.proofs.FreeBytes.{IsQuiet, quiet_steps}
use Rattle.gier_pass1.proofs.RestOfProgram.{to_come, faults_found, Begins, begins_as, begins_more}
use Rattle.gier_pass1.proofs.PlacesOfFaults.{IsWellIn, floor_in, OnFault, quiet_goes, EndsCalm, well_floor, well_start}
use Rattle.gier_pass1.proofs.WordsFed.{word_mode, left_by, Ended}

-- the letters of the word that is read, or none
abbrev pub AreLetters : Bool → Spelling → List ℕ → Type 0
AreLetters true spelling letters = list_all (is_name_letter spelling) letters ≡ true
AreLetters false spelling letters = letters ≡ []

pub record IsWell (s : State) (letters : List ℕ) : Type 0 where
  pub state : IsWellIn s.mode s
  pub are : AreLetters (in_word s.mode) s.spelling letters

abbrev pub floor : State → ℕ
floor s = floor_in s.mode s

abbrev pub Within : ℕ → ℕ → Fault → Type 0
Within low high fault = (low ≤ fault.position) × (fault.position < high)

-- a byte after which what holds between two bytes holds again; its faults stand behind those before it, in order
pub record Stepped (s : State) (letters : List ℕ) (byte : ℕ) (ended begun : Token) (new : State) (later : List ℕ) : Type 0 where
  pub well : IsWell new later
  pub begins : (rest : List ℕ) → Begins (to_come s letters (byte ∷ rest)) (letters_in ended ++ letters_in begun)
      (faults_found ended ++ faults_found begun) (to_come new later rest)
  pub rises : floor s ≤ floor new
  pub first : OnFault (Within (floor s) (floor new)) ended
  pub second : OnFault (Within (floor s) (floor new)) begun
  pub order : OnFault (λ fault. OnFault (λ later. fault.position < later.position) begun) ended

no_letters : (in_word : Bool) (spelling : Spelling) → AreLetters in_word spelling []
no_letters true spelling = refl
no_letters false spelling = refl

pub fault_map : (P Q : Fault → Type 0) (found : Token) → ((fault : Fault) → P fault → Q fault) → OnFault P found → OnFault Q found
fault_map P Q Nothing f h = tt
fault_map P Q (Written s) f h = tt
fault_map P Q (LexError fault) f h = f fault h

fault_all : (Q : Fault → Type 0) (found : Token) → ((fault : Fault) → Q fault) → OnFault Q found
fault_all Q Nothing f = tt
fault_all Q (Written s) f = tt
fault_all Q (LexError fault) f = f fault

-- another letter of the word
abbrev pub Letter : Bool → State → List ℕ → ℕ → Type 0
Letter skipped s letters byte = Stepped (record s { mode = word_mode skipped }) letters byte Nothing Nothing
    (at_next_byte (record s { mode = word_mode skipped }) byte) (letters ++ byte ∷ [])

more_letters : (spelling : Spelling) (letters : List ℕ) (byte : ℕ) → list_all (is_name_letter spelling) letters ≡ true
    → is_name_letter spelling byte ≡ true → list_all (is_name_letter spelling) (letters ++ byte ∷ []) ≡ true
more_letters spelling letters byte all letter = list_all-append (is_name_letter spelling) letters (byte ∷ []) ∙ rw (all, letter) refl

pub same_line : (spelling : Spelling) (byte line : ℕ) → is_name_letter spelling byte ≡ true → line ≡ line_after line byte
same_line spelling byte line letter = rw (letter_in_line spelling byte letter) refl

word_goes : (spelling : Spelling) (letters : List ℕ) (byte : ℕ) (rest : List ℕ) (fresh : Bool) (line : ℕ)
    → is_name_letter spelling byte ≡ true → read spelling (word_byte spelling ∷ letters ++ byte ∷ rest) 0 fresh line ≡ read spelling
    (word_byte spelling ∷ (letters ++ byte ∷ []) ++ rest) 0 fresh (line_after line byte)
word_goes spelling letters byte rest fresh line letter =
    ap (λ (l : List ℕ). read spelling (word_byte spelling ∷ l) 0 fresh line) (sym (append_assoc letters (byte ∷ []) rest))
    ∙ ap (λ (l : ℕ). read spelling (word_byte spelling ∷ (letters ++ byte ∷ []) ++ rest) 0 fresh l) (same_line spelling byte line letter)

skip_goes : (spelling : Spelling) (letters : List ℕ) (byte : ℕ) (rest : List ℕ) (fresh : Bool) (line : ℕ)
    → is_name_letter spelling byte ≡ true → read spelling (word_byte spelling ∷ letters ++ byte ∷ rest)
    (skipped_length spelling (word_byte spelling ∷ letters ++ byte ∷ rest) 0) fresh line ≡ read spelling
    (word_byte spelling ∷ (letters ++ byte ∷ []) ++ rest)
    (skipped_length spelling (word_byte spelling ∷ (letters ++ byte ∷ []) ++ rest) 0) fresh (line_after line byte)
skip_goes spelling letters byte rest fresh line letter =
    ap (λ (l : List ℕ). read spelling (word_byte spelling ∷ l) (skipped_length spelling (word_byte spelling ∷ l) 0) fresh line)
    (sym (append_assoc letters (byte ∷ []) rest))
    ∙ ap (λ (l : ℕ). read spelling (word_byte spelling ∷ (letters ++ byte ∷ []) ++ rest)
    (skipped_length spelling (word_byte spelling ∷ (letters ++ byte ∷ []) ++ rest) 0) fresh l) (same_line spelling byte line letter)

pub letter_goes : (skipped : Bool) (s : State) (letters : List ℕ) (byte : ℕ) → list_all (is_name_letter s.spelling) letters ≡ true
    → is_name_letter s.spelling byte ≡ true → IsWellIn (word_mode skipped) (record s { mode = word_mode skipped })
    → Letter skipped s letters byte
letter_goes true s letters byte all letter well = record {
  well = record { state = well ∙ same_line s.spelling byte s.here.line letter; are = more_letters s.spelling letters byte all letter };
  begins = λ rest. begins_as _ _ (skip_goes s.spelling letters byte rest s.may_comment s.here.line letter);
  rises = omega arith;
  first = tt;
  second = tt;
  order = tt;
}
letter_goes false s letters byte all letter well = record {
  well = record {
    state = (well.0 ∙ same_line s.spelling byte s.here.line letter, omega (arith, well.1));
    are = more_letters s.spelling
        letters byte all letter;
  };
  begins = λ rest. begins_as _ _ (word_goes s.spelling letters byte rest s.may_comment s.here.line letter);
  rises = omega arith;
  first = tt;
  second = tt;
  order = tt;
}

-- a byte that belongs to nothing that was begun
pub quiet_stepped : (mode : Mode) (s : State) (byte : ℕ) → IsQuiet mode → IsWellIn mode (record s { mode = mode })
    → Stepped (record s { mode = mode }) [] byte Nothing (taken_step (record s { mode = mode }) byte).found
    (at_next_byte (taken_step (record s { mode = mode }) byte).state byte) []
quiet_stepped mode s byte quiet well =
    let state : State = record s { mode = mode } in
    let goes = quiet_goes mode s byte quiet well in
    let low = well_floor mode state well in
    let step = taken_step state byte in
    record {
      well = record { state = goes.well; are = no_letters (in_word step.state.mode) step.state.spelling };
      begins = λ rest. quiet_steps mode s byte rest quiet (well_start mode state well);
      rises = goes.floor;
      first = tt;
      second = fault_map (λ f. (f.position ≡ s.here.at) × (s.here.at < floor (at_next_byte step.state byte)))
          (Within (floor state) (floor (at_next_byte step.state byte))) step.found (λ f h. (omega (arith, h.0, low), omega (arith, h.0, h.1)))
          goes.fault;
      order = tt;
    }

-- the faults of what ends stand where it began
abbrev pub EndsIn : (Fault → Type 0) → State → Type 0
EndsIn P s = (fault : Fault) → P fault → (floor s ≤ fault.position) × (fault.position < s.here.at)

-- a byte with which a sign or a word ended, or before which it did
pub calm_by : (taken : Bool) (P : Fault → Type 0) (s : State) (letters : List ℕ) (byte : ℕ) (step : Step) → step.taken ≡ taken
    → EndsCalm P s step → EndsIn P s → floor s ≤ s.here.at → EndsNoLine step (Some byte)
    → ((rest : List ℕ) → Ended step s letters (byte ∷ rest))
    → Stepped s letters byte step.found (begun_step step byte).found (at_next_byte (begun_step step byte).state byte) []
calm_by true P s letters byte step taken calm faults low line ends =
    let mode = step.state.mode in
    let at : step.state.here.at ≡ s.here.at = ap (λ (p : Place). p.at) calm.here in
    let now : floor (at_next_byte step.state byte) ≡ step.state.here.at + 1 = calm_floor mode (at_next_byte step.state byte) calm.calm in
    rw taken (record {
      well = record { state = calm_well mode (at_next_byte step.state byte) calm.calm; are = no_letters (in_word mode) step.state.spelling };
      begins = λ rest. begins_more (to_come s letters (byte ∷ rest)) (to_come step.state [] rest)
          (to_come (at_next_byte step.state byte) [] rest) (letters_in step.found) [] (faults_found step.found) []
          (subst (λ (b : Bool). Begins (to_come s letters (byte ∷ rest)) (letters_in step.found) (faults_found step.found)
          (to_come step.state [] (left_by b (byte ∷ rest)))) taken (ends rest))
          (begins_as _ _ (come_on mode step.state byte rest calm.calm (line taken byte refl)));
      rises = omega (arith, low, now, at);
      first = fault_map P (Within (floor s) (floor (at_next_byte step.state byte))) step.found
          (λ f p. ((faults f p).0, omega (arith, (faults f p).1, now, at))) calm.fault;
      second = tt;
      order = fault_all (λ f. Unit {0}) step.found (λ f. tt);
    })
calm_by false P s letters byte step taken calm faults low line ends =
    let mode = step.state.mode in
    let at : step.state.here.at ≡ s.here.at = ap (λ (p : Place). p.at) calm.here in
    let now : floor step.state ≡ step.state.here.at = calm_floor mode step.state calm.calm in
    let next = taken_step step.state byte in
    let more = quiet_stepped mode step.state byte (calm_quiet mode calm.calm) (calm_well mode step.state calm.calm) in
    rw taken (record {
      well = more.well;
      begins = λ rest. begins_more (to_come s letters (byte ∷ rest)) (to_come step.state [] (byte ∷ rest))
          (to_come (at_next_byte next.state byte) [] rest) (letters_in step.found) (letters_in next.found) (faults_found step.found)
          (faults_found next.found) (subst (λ (b : Bool). Begins (to_come s letters (byte ∷ rest)) (letters_in step.found)
          (faults_found step.found) (to_come step.state [] (left_by b (byte ∷ rest)))) taken (ends rest)) (more.begins rest);
      rises = omega (arith, low, now, at, more.rises);
      first = fault_map P (Within (floor s) (floor (at_next_byte next.state byte))) step.found
          (λ f p. ((faults f p).0, omega (arith, (faults f p).1, now, at, more.rises))) calm.fault;
      second = fault_map (Within (floor step.state) (floor (at_next_byte next.state byte))) (Within (floor s) (floor (at_next_byte next.state byte)))
          next.found (λ f h. (omega (arith, h.0, low, now, at), h.1)) more.second;
      order = fault_map P (λ f. OnFault (λ later. f.position < later.position) next.found) step.found
          (λ f p. fault_map (Within (floor step.state) (floor (at_next_byte next.state byte))) (λ later. f.position < later.position) next.found
          (λ later h. omega (arith, (faults f p).1, h.0, now, at)) more.second) calm.fault;
    })
