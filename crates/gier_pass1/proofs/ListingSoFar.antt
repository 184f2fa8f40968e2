-- What was written and added so far, and what is still to come, are the listing of the whole text.
use Rattle.std.proofs.Common.{◌≡◌, ◌≤◌, ◌<◌, ◌++◌, ◌∙◌, ℕ, Bool, List, [], ◌∷◌, map, None, Some, append-nil, append_assoc, refl, sym, ap, subst, arith}
use Rattle.std.specs.Prelude.{All}
use Rattle.std.proofs.lemmas.List.Elements.{All-nil}
use Rattle.gier_symbol.specs.declared.symbol.Symbol.{Symbol}
use Rattle.gier_symbol.specs.declared.tag.Tag.TheVariants.{TextEnd}
use Rattle.gier_symbol.specs.ByTag.{word}
use Rattle.gier_symbol.specs.Listing.{FaultAt}
use Rattle.gier_symbol.specs.Reading.{symbols_of}
use Rattle.gier_text.specs.declared.fault.Fault.{Fault}
use Rattle.gier_text.specs.declared.fault.FaultKind.{FaultKind}
use Rattle.gier_pass1.specs.declared.scanner.ScanResult.{ScanResult}
use Rattle.gier_pass1.specs.declared.scanner.Scanner.{Scanner}
use Rattle.gier_pass1.specs.declared.state.Token.{Token}
use Rattle.gier_pass1.specs.declared.state.Token.TheVariants.{Nothing, Written, LexError}
use Rattle.gier_pass1.specs.declared.state.State.{State}
use Rattle.gier_pass1.specs.Puts.{letters_in}
use Rattle.gier_pass1.specs.Scan.{start_state, at_end, here_symbol}
use Rattle.gier_pass1.specs.Scanning.{ReadsLetters, TakesByte, ended_step, letters_behind}
use Rattle.gier_text.specs.Faults.{as_fault, without_position}
use Rattle.gier_pass1.specs.TapeListing.{AddsFound, AddsFounds, IsClosed}
use Rattle.gier_pass1.proofs.FaultOrder.{fault_in, Rising, AllBefore, added, rising_more, all_found, told_found, closed_named}
use Rattle.gier_pass1.proofs.EveryByte.{takes, ends, nothing}
use Rattle.gier_pass1.proofs.ByteSteps.{IsWell, AreLetters, Stepped, floor, Within, fault_map}
use Rattle.gier_pass1.proofs.RestOfProgram.{to_come, faults_found, Begins, begins_none, begins_more}
use Rattle.gier_pass1.proofs.PlacesOfFaults.{OnFault}

pub record IsTelling (scanner : Scanner) (text : List ℕ) (symbols : List Symbol) (faults : List Fault) : Type 0 where
  pub letters : List ℕ
  pub reads : ReadsLetters scanner.state scanner.reader letters
  pub well : IsWell scanner.state letters
  pub begins : (rest : List ℕ) → Begins (symbols_of (text ++ rest)) symbols (map without_position faults)
      (to_come scanner.state letters rest)
  pub below : All (λ fault. fault.position < floor scanner.state) faults
  pub rising : Rising faults

first_state : (s : State) → s ≡ start_state → IsWell s []
first_state s is = subst (λ (t : State). IsWell t []) (sym is) (record { state = refl; are = refl })

first_begins : (s : State) → s ≡ start_state → (rest : List ℕ) → Begins (symbols_of rest) [] [] (to_come s [] rest)
first_begins s is rest = subst (λ (t : State). Begins (symbols_of rest) [] [] (to_come t [] rest)) (sym is) (begins_none (symbols_of rest))

-- before the first byte
pub telling_first : (scanner : Scanner) (faults : List Fault) → scanner.state ≡ start_state → ReadsLetters scanner.state scanner.reader []
    → faults ≡ [] → IsTelling scanner [] [] faults
telling_first scanner faults start reads none = rw none (record {
  letters = [];
  reads = reads;
  well = first_state scanner.state start;
  begins = first_begins scanner.state start;
  below = All-nil (λ (f : Fault). f.position < floor scanner.state);
  rising = λ i j d lt within. absurd (omega (arith, within));
})

low_before : (faults : List Fault) (low : ℕ) (found : Token) → All (λ fault. fault.position < low) faults
    → OnFault (λ fault. low ≤ fault.position) found → AllBefore faults found
low_before faults low Nothing below above = tt
low_before faults low (Written s) below above = tt
low_before faults low (LexError fault) below above = λ k d lt. let h : _ < low = below k d lt in omega (arith, h, above)

first_before : (faults : List Fault) (low high : ℕ) (found : Token) → All (λ fault. fault.position < low) faults
    → OnFault (Within low high) found → AllBefore faults found
first_before faults low high found below within = low_before faults low found below
    (fault_map (Within low high) (λ f. low ≤ f.position) found (λ f h. h.0) within)

second_before : (faults : List Fault) (low high : ℕ) (first second : Token) → All (λ fault. fault.position < low) faults
    → OnFault (Within low high) second → OnFault (λ fault. OnFault (λ later. fault.position < later.position) second) first
    → AllBefore (faults ++ fault_in first) second
second_before faults low high first Nothing below within order = tt
second_before faults low high first (Written s) below within order = tt
second_before faults low high first (LexError fault) below within order = all_found (λ before. before.position < fault.position) faults first
    (first_before faults low high (LexError fault) below within) order

-- both findings are added, and the list still rises
pub record AreAdded (faults new : List Fault) (first second : Token) (high : ℕ) : Type 0 where
  pub told : map without_position new ≡ map without_position faults ++ (faults_found first ++ faults_found second)
  pub below : All (λ fault. fault.position < high) new
  pub rising : Rising new

pub are_added : (faults new : List Fault) (first second : Token) (low high : ℕ) → AddsFounds faults first second new
    → All (λ fault. fault.position < low) faults → Rising faults → low ≤ high → OnFault (Within low high) first
    → OnFault (Within low high) second → OnFault (λ fault. OnFault (λ later. fault.position < later.position) second) first
    → AreAdded faults new first second high
are_added faults new first second low high adds below rising rises one two order =
    let before = first_before faults low high first below one in
    let mid : adds.0 ≡ faults ++ fault_in first = added faults adds.0 first adds.1 before in
    let then = second_before faults low high first second below two order in
    let all : new ≡ (faults ++ fault_in first) ++ fault_in second = added (faults ++ fault_in first) new second
    (subst (λ (l : List Fault). AddsFound l second new) mid adds.2) then in
    rw all (record {
      told = told_found (faults ++ fault_in first) second
          ∙ ap (λ (l : List (FaultAt FaultKind)). l ++ faults_found second) (told_found faults first)
          ∙ append_assoc (map without_position faults) (faults_found first) (faults_found second);
      below = all_found (λ f. f.position < high) (faults ++ fault_in first) second
          (all_found (λ f. f.position < high) faults first (λ k d lt. let h : _ < low = below k d lt in omega (arith, h, rises))
          (fault_map (Within low high) (λ f. f.position < high) first (λ f h. h.1) one))
          (fault_map (Within low high) (λ f. f.position < high) second (λ f h. h.1) two);
      rising = rising_more (faults ++ fault_in first) second (rising_more faults first rising before) then;
    })

stepped : (scanner new : Scanner) (letters : List ℕ) (byte : ℕ) (founds : ScanResult) → IsWell scanner.state letters
    → TakesByte scanner letters byte founds new → Stepped scanner.state letters byte founds.ended founds.begun new.state
    (letters_behind scanner.state letters (Some byte))
stepped scanner new letters byte founds well took = rw (took.ended, took.begun, took.state) (takes scanner.state letters byte well)

-- one byte more
pub telling_more : (scanner new : Scanner) (text : List ℕ) (byte : ℕ) (symbols : List Symbol) (faults more : List Fault) (founds : ScanResult)
    → (telling : IsTelling scanner text symbols faults) → TakesByte scanner telling.letters byte founds new
    → AddsFounds faults founds.ended founds.begun more
    → IsTelling new (text ++ byte ∷ []) (symbols ++ (letters_in founds.ended ++ letters_in founds.begun)) more
telling_more scanner new text byte symbols faults more founds telling took adds =
    let later = letters_behind scanner.state telling.letters (Some byte) in
    let step = stepped scanner new telling.letters byte founds telling.well took in
    let add = are_added faults more founds.ended founds.begun (floor scanner.state) (floor new.state) adds telling.below telling.rising
    step.rises step.first step.second step.order in
    record {
      letters = later;
      reads = record {
        behind_them = took.reader;
        outside = λ out. subst (λ (b : Bool). AreLetters b new.state.spelling later) out
            step.well.are;
      };
      well = step.well;
      begins = λ rest. rw (append_assoc text (byte ∷ []) rest, add.told)
          (begins_more (symbols_of (text ++ byte ∷ rest)) (to_come scanner.state telling.letters (byte ∷ rest))
          (to_come new.state later rest) symbols (letters_in founds.ended ++ letters_in founds.begun) (map without_position faults)
          (faults_found founds.ended ++ faults_found founds.begun) (telling.begins (byte ∷ rest)) (step.begins rest));
      below = add.below;
      rising = add.rising;
    }

-- the end adds one fault at most
ended_added : (faults more : List Fault) (found : Token) (s : Symbol) (low : ℕ) → AddsFounds faults found (Written s) more
    → All (λ fault. fault.position < low) faults → Rising faults → OnFault (λ fault. low ≤ fault.position) found
    → (map without_position more ≡ map without_position faults ++ (faults_found found ++ [])) × Rising more
ended_added faults more found s low adds below rising above =
    let before = low_before faults low found below above in
    let all : more ≡ faults ++ fault_in found = adds.2 ∙ added faults adds.0 found adds.1 before in
    rw all (
      told_found faults found ∙ ap (λ (l : List (FaultAt FaultKind)). map without_position faults ++ l)
          (sym (append-nil (faults_found found))),
      rising_more faults found rising before,
    )

-- the listing of the text, symbols where no string is open
pub record IsListed (text : List ℕ) (symbols : List Symbol) (faults : List Fault) : Type 0 where
  pub told : map without_position faults ≡ map as_fault (symbols_of text).faults
  pub rising : Rising faults
  pub written : IsClosed (symbols_of text) → (symbols_of text).symbols ≡ symbols

-- the end
pub telling_ends : (scanner : Scanner) (text : List ℕ) (symbols : List Symbol) (faults more : List Fault) (founds : ScanResult)
    → (telling : IsTelling scanner text symbols faults) → founds.ended ≡ at_end (ended_step scanner.state telling.letters None)
    → founds.begun ≡ here_symbol scanner.state TextEnd 0 → AddsFounds faults founds.ended founds.begun more
    → IsListed text (symbols ++ (letters_in founds.ended ++ letters_in founds.begun)) more
telling_ends scanner text symbols faults more founds telling ended begun adds =
    let s = scanner.state in
    let found = at_end (ended_step s telling.letters None) in
    let final = here_symbol s TextEnd 0 in
    let end = ends s telling.letters telling.well in
    let whole : Begins (symbols_of text) (symbols ++ (letters_in found ++ letters_in final))
    (map without_position faults ++ (faults_found found ++ [])) nothing =
    begins_more (symbols_of text) (to_come s telling.letters []) nothing symbols (letters_in found ++ letters_in final)
    (map without_position faults) (faults_found found ++ [])
    (subst (λ (l : List ℕ). Begins (symbols_of l) symbols (map without_position faults) (to_come s telling.letters []))
    (append-nil text) (telling.begins [])) end.begins in
    let adds : AddsFounds faults found final more = subst (λ (f : Token). AddsFounds faults f final more) ended
    (subst (λ (f : Token). AddsFounds faults founds.ended f more) begun adds) in
    let add = ended_added faults more found (word TextEnd s.here.line) (floor s) adds telling.below telling.rising end.fault in
    rw (ended, begun) (record {
      told = add.0 ∙ sym (append-nil (map without_position faults ++ (faults_found found ++ []))) ∙ sym whole.faults;
      rising = add.1;
      written = λ closed. whole.symbols (closed_named (symbols_of text).faults closed)
          ∙ append-nil (symbols ++ (letters_in found ++ letters_in final));
    })
