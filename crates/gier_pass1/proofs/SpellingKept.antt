-- What ends keeps the spelling, and never stands before the first byte again.
use Rattle.std.proofs.Common.{◌≡◌, ◌∙◌, ℕ, Bool, true, false, List, [], Option, None, Some, refl, sym, ap}
use Rattle.gier_symbol.specs.declared.word.Spelling.{Spelling}
use Rattle.gier_strop.specs.declared.reader.Fed.{Fed}
use Rattle.gier_strop.specs.declared.reader.Fed.TheVariants.{More, Word, Fault, WordBefore, FaultBefore}
use Rattle.gier_strop.specs.Reading.{Reading, behind, answer_to}
use Rattle.gier_text.specs.declared.fault.Fault.{Fault as TextFault}
use Rattle.gier_pass1.specs.declared.state.Mode.{Mode}
use Rattle.gier_pass1.specs.declared.state.Mode.TheVariants.{Start, Between, AfterPrefix, InWord, InString, InComment, InSkipped, InSkippedWord}
use Rattle.gier_pass1.specs.declared.state.State.{State}
use Rattle.gier_pass1.specs.declared.state.Step.{Step}
use Rattle.gier_pass1.specs.Scan.{word_step, double_behind}
use Rattle.gier_pass1.specs.Scanning.{EndsStep, ended_step, letters_behind}
use Rattle.gier_pass1.proofs.SingleBytes.{calm_started}
use Rattle.gier_pass1.proofs.PlacesOfFaults.{EndsCalm, WordFaults, word_calm, sign_calm}
use Rattle.gier_pass1.proofs.WordEnds.{by_number}
use Rattle.gier_pass1.proofs.WordsFed.{word_mode}

abbrev Keeps : State → Step → Type 0
Keeps s step = (step.state.spelling ≡ s.spelling) × (step.state.mode ≡ Start → ⊥)

calm_keeps : (P : TextFault → Type 0) (s : State) (step : Step) → EndsCalm P s step → Keeps s step
calm_keeps P s step calm = (calm.spelling, calm_started step.state.mode calm.calm)

word_keeps : (skipped : Bool) (tag : Option ℕ) (s : State) (taken : Bool) → Keeps s (by_number (word_mode skipped) tag s taken)
word_keeps skipped tag s taken = calm_keeps (WordFaults skipped s) s _ (word_calm skipped tag s taken)

fed_keeps : (skipped : Bool) (s : State) (fed : Fed) → Keeps (record s { mode = word_mode skipped })
    (word_step (record s { mode = word_mode skipped }) fed)
fed_keeps true s More = (refl, λ start. absurd (cc))
fed_keeps true s (Word number) = word_keeps true (Some number) (record s { mode = InSkippedWord }) true
fed_keeps true s Fault = word_keeps true None (record s { mode = InSkippedWord }) true
fed_keeps true s (WordBefore number) = word_keeps true (Some number) (record s { mode = InSkippedWord }) false
fed_keeps true s FaultBefore = word_keeps true None (record s { mode = InSkippedWord }) false
fed_keeps false s More = (refl, λ start. absurd (cc))
fed_keeps false s (Word number) = word_keeps false (Some number) (record s { mode = InWord }) true
fed_keeps false s Fault = word_keeps false None (record s { mode = InWord }) true
fed_keeps false s (WordBefore number) = word_keeps false (Some number) (record s { mode = InWord }) false
fed_keeps false s FaultBefore = word_keeps false None (record s { mode = InWord }) false

-- the same, with the letters of a word
abbrev KeepsLetters : State → List ℕ → Option ℕ → Type 0
KeepsLetters s letters next = ((ended_step s letters next).state.spelling ≡ s.spelling)
    × ((ended_step s letters next).state.mode ≡ Start → letters_behind s letters next ≡ [])

keeps_in : (mode : Mode) (s : State) (letters : List ℕ) (next : Option ℕ) → KeepsLetters (record s { mode = mode }) letters next
keeps_in Start s letters next = (refl, λ start. refl)
keeps_in Between s letters next = (refl, λ start. refl)
keeps_in (AfterPrefix opener) s letters next = (
  (calm_keeps (λ f. ⊥) (record s { mode = AfterPrefix opener }) _
      (sign_calm (record s { mode = AfterPrefix opener }) opener (double_behind opener next))).0,
  λ start. refl,
)
keeps_in InWord s letters next = let k = fed_keeps false s (answer_to s.spelling letters next) in (k.0, λ start. absurd (k.1 start))
keeps_in (InString depth) s letters next = (refl, λ start. refl)
keeps_in InComment s letters next = (refl, λ start. refl)
keeps_in InSkipped s letters next = (refl, λ start. refl)
keeps_in InSkippedWord s letters next = let k = fed_keeps true s (answer_to s.spelling letters next) in (k.0, λ start. absurd (k.1 start))

keeps : (s : State) (letters : List ℕ) (next : Option ℕ) → KeepsLetters s letters next
keeps s letters next = keeps_in s.mode s letters next

-- the reader behind what ended, with the spelling that was told by then
pub ended_reader : (s : State) (letters : List ℕ) (next : Option ℕ) (step : Step) (reader : Reading) → EndsStep s letters next step reader
    → reader ≡ behind step.state.spelling (letters_behind s letters next)
ended_reader s letters next step reader ended =
    ended.is_reader ∙ ap (λ (sp : Spelling). behind sp (letters_behind s letters next))
    (sym (ap (λ (t : Step). t.state.spelling) ended.is_step ∙ (keeps s letters next).0))

pub ended_start : (s : State) (letters : List ℕ) (next : Option ℕ) (step : Step) (reader : Reading) → EndsStep s letters next step reader
    → step.state.mode ≡ Start → letters_behind s letters next ≡ []
ended_start s letters next step reader ended start = (keeps s letters next).1 (sym (ap (λ (t : Step). t.state.mode) ended.is_step) ∙ start)
