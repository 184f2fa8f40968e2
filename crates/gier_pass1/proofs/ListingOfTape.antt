-- Where the tape is told, its program text was read, and what is told of the text is told of the tape.
use Rattle.std.proofs.Common.{◌≡◌, ◌++◌, ◌∙◌, ℕ, Bool, true, false, if◌then◌else◌, List, [], ◌∷◌, length, map, Option, None, Some, eqb, append-nil, refl, sym, ap, subst}
use Rattle.std.specs.Prelude.{◌≢◌}
use Rattle.std.proofs.lemmas.List.Elements.{All-nil}
use Rattle.gier_drum.specs.declared.drum.Entry.{Entry}
use Rattle.gier_symbol.specs.declared.symbol.Symbol.{Symbol}
use Rattle.gier_symbol.specs.Listing.{FaultAt, SymbolFault, OpenString}
use Rattle.gier_symbol.specs.Reading.{symbols_of}
use Rattle.gier_symbol.specs.Tape.{program_of as program_text, before_parting}
use Rattle.gier_text.specs.declared.fault.Fault.{Fault}
use Rattle.gier_text.specs.declared.fault.FaultKind.{FaultKind}
use Rattle.gier_text.specs.View.{View, Appends}
use Rattle.gier_pass1.specs.Program.{program_of, GivesEnd}
use Rattle.gier_pass1.specs.Puts.{Puts}
use Rattle.gier_text.specs.Faults.{as_fault, without_position}
use Rattle.gier_pass1.specs.TapeListing.{Tells, TellsTape, IsClosed}
use Rattle.gier_pass1.proofs.ListingSoFar.{IsListed}
use Rattle.gier_pass1.proofs.Texts.{HasRead, program_behind}

same_by : (mark : Bool) (byte : ℕ) (more same : List ℕ) → more ≡ same → before_parting mark byte more ≡ (if mark then [] else byte ∷ same)
same_by true byte more same h = refl
same_by false byte more same h = ap (λ (l : List ℕ). byte ∷ l) h

same_program : (tape : List ℕ) → program_text tape ≡ program_of tape
same_program [] = refl
same_program (byte ∷ tape) = same_by (eqb byte 35) byte (program_text tape) (program_of tape) (same_program tape)

-- the bytes that were read when the end came
whole_text : (tape text : List ℕ) (now new : Option (List ℕ)) → HasRead (Some tape) text now → GivesEnd now new → program_text tape ≡ text
whole_text tape text now new read gives =
    let given : GivesEnd (Some read.0) new = subst (λ (m : Option (List ℕ)). GivesEnd m new) read.1 gives in
    same_program tape ∙ ap program_of read.2.cut ∙ program_behind text read.0 read.2.plain ∙ ap (λ (l : List ℕ). text ++ l) given.0
    ∙ append-nil text

listed_told : (text : List ℕ) (symbols : List Symbol) (faults : List Fault) (old new : View) (before after : Option (List Entry))
    → IsListed text symbols faults → Puts symbols old new before after → Tells (symbols_of text) faults old new before after
listed_told text symbols faults old new before after listed puts = record {
  faults = listed.told;
  rising = listed.rising;
  symbols = λ closed. subst (λ (ws : List Symbol). Puts ws old new before after) (sym (listed.written closed)) puts;
}

pub tells_tape : (tape : Option (List ℕ)) (text : List ℕ) (now left : Option (List ℕ)) (symbols : List Symbol) (faults : List Fault)
    (old new : View) (before after : Option (List Entry)) (bytes : ℕ) → HasRead tape text now → GivesEnd now left → bytes ≡ length text
    → IsListed text symbols faults → Puts symbols old new before after → TellsTape tape faults old new before after bytes
tells_tape None text now left symbols faults old new before after bytes read gives counted listed puts = tt
tells_tape (Some tape) text now left symbols faults old new before after bytes read gives counted listed puts =
    let whole = whole_text tape text now left read gives in
    rw whole (counted, listed_told text symbols faults old new before after listed puts)

none_named : (faults : List (FaultAt SymbolFault)) → [] ≡ map as_fault faults → faults ≡ []
none_named [] is = refl
none_named (fault ∷ faults) is = absurd (cc)

-- without faults in the tables the listing has none, and its symbols were written
pub clean_told : (tape : List ℕ) (added : List Fault) (old new : View) (before after : Option (List Entry)) (bytes : ℕ)
    → TellsTape (Some tape) added old new before after bytes → added ≡ []
    → ((symbols_of (program_text tape)).faults ≡ []) × Puts (symbols_of (program_text tape)).symbols old new before after
clean_told tape added old new before after bytes told none =
    let listing = symbols_of (program_text tape) in
    let clean = none_named listing.faults (sym (ap (λ (l : List Fault). map without_position l) none) ∙ told.1.faults) in
    let closed : IsClosed listing = rw clean (All-nil (λ (f : FaultAt SymbolFault). f.kind ≢ OpenString)) in
    (clean, told.1.symbols closed)

-- and they are what a text holds then that held nothing
pub clean_held : (tape : List ℕ) (added : List Fault) (old new : View) (before after : Option (List Entry)) (bytes : ℕ)
    → TellsTape (Some tape) added old new before after bytes → added ≡ [] → old.held ≡ Some []
    → new.held ≡ Some (symbols_of (program_text tape)).symbols
clean_held tape added old new before after bytes told none empty =
    let puts = (clean_told tape added old new before after bytes told none).1 in
    subst (λ (held : Option (List Symbol)). Appends held (symbols_of (program_text tape)).symbols new.held) empty puts.written.held
