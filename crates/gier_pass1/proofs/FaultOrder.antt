-- Faults that are found one behind the other: their list rises.
use Rattle.std.proofs.Common.{◌≡◌, ◌≢◌, ◌<◌, ◌++◌, ◌∙◌, List, [], ◌∷◌, map, append-nil, refl, sym, arith}
use Rattle.std.specs.Prelude.{All, AllPairs}
use Rattle.std.proofs.lemmas.List.{map-append}
use Rattle.std.proofs.lemmas.List.Elements.{All-nil, All-cons, All-head, All-tail, All-push}
use Rattle.std.proofs.lemmas.List.Quantifiers.{all_pairs_push}
use Rattle.gier_symbol.specs.Listing.{FaultAt, SymbolFault, WrongByte, WrongWord, OpenString, LargeNumber}
use Rattle.gier_text.specs.declared.fault.Fault.{Fault}
use Rattle.gier_text.specs.declared.fault.FaultKind.{FaultKind}
use Rattle.gier_text.specs.declared.fault.FaultKind.TheVariants.{Unclosed}
use Rattle.gier_pass1.specs.declared.state.Token.{Token}
use Rattle.gier_pass1.specs.declared.state.Token.TheVariants.{Nothing, Written, LexError}
use Rattle.gier_text.specs.Faults.{kind_of_symbol_fault, as_fault, without_position}
use Rattle.gier_pass1.specs.TapeListing.{AddsFound}
use Rattle.gier_pass1.proofs.RestOfProgram.{faults_found, Closed}
use Rattle.gier_pass1.proofs.PlacesOfFaults.{OnFault}

-- the fault that was found
abbrev pub fault_in : Token → List Fault
fault_in Nothing = []
fault_in (Written s) = []
fault_in (LexError fault) = fault ∷ []

abbrev pub Rising : List Fault → Type 0
Rising faults = AllPairs (λ fault later. fault.position < later.position) faults

-- all that were there stand before the one that was found
abbrev pub AllBefore : List Fault → Token → Type 0
AllBefore faults found = OnFault (λ fault. All (λ before. before.position < fault.position) faults) found

pub added : (faults new : List Fault) (found : Token) → AddsFound faults found new → AllBefore faults found → new ≡ faults ++ fault_in found
added faults new Nothing adds before = adds ∙ sym (append-nil faults)
added faults new (Written s) adds before = adds ∙ sym (append-nil faults)
added faults new (LexError fault) adds before = adds (λ k d lt. let h : _ < fault.position = before k d lt in omega (arith, h))

pub rising_more : (faults : List Fault) (found : Token) → Rising faults → AllBefore faults found → Rising (faults ++ fault_in found)
rising_more faults Nothing rising before = rw (append-nil faults) rising
rising_more faults (Written s) rising before = rw (append-nil faults) rising
rising_more faults (LexError fault) rising before = all_pairs_push (λ f g. f.position < g.position) faults fault rising before

pub all_found : (P : Fault → Type 0) (faults : List Fault) (found : Token) → All P faults → OnFault P found
    → All P (faults ++ fault_in found)
all_found P faults Nothing all h = rw (append-nil faults) all
all_found P faults (Written s) all h = rw (append-nil faults) all
all_found P faults (LexError fault) all h = All-push P faults fault all h

pub told_found : (faults : List Fault) (found : Token) → map without_position (faults ++ fault_in found) ≡ map without_position
    faults ++ faults_found found
told_found faults Nothing = map-append without_position faults []
told_found faults (Written s) = map-append without_position faults []
told_found faults (LexError fault) = map-append without_position faults (fault ∷ [])

open_called : (kind : SymbolFault) → kind ≢ OpenString → kind_of_symbol_fault kind ≢ Unclosed
open_called WrongByte other = λ is. absurd (cc)
open_called WrongWord other = λ is. absurd (cc)
open_called OpenString other = λ is. other refl
open_called LargeNumber other = λ is. absurd (cc)

-- where no fault of the listing is an open string, none is one by its name
pub closed_named : (faults : List (FaultAt SymbolFault)) → All (λ fault. fault.kind ≢ OpenString) faults → Closed (map as_fault faults)
closed_named [] all = All-nil (λ (f : FaultAt FaultKind). f.kind ≢ Unclosed)
closed_named (fault ∷ faults) all =
    All-cons (λ (f : FaultAt FaultKind). f.kind ≢ Unclosed) (as_fault fault) (map as_fault faults)
    (open_called fault.kind (All-head (λ (f : FaultAt SymbolFault). f.kind ≢ OpenString) fault faults all))
    (closed_named faults (All-tail (λ (f : FaultAt SymbolFault). f.kind ≢ OpenString) fault faults all))
