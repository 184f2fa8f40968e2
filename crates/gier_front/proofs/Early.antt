-- Faults that are found early are the definition's.
use Rattle.std.proofs.Common.{◌≡◌, ◌≢◌, ◌==◌, ◌<◌, ◌≤◌, ℕ, zero, suc, Bool, true, false, nat_lt, List, [], ◌∷◌, ◌++◌, length, map, Option, None, Some, if◌then◌else◌, refl, ap, sym, subst, ◌∙◌, arith}
use Rattle.std.specs.Prelude.{Result, Ok, Err, IsErrOf, IsErrAnd}
use Rattle.std.specs.List.{All, insert}
use Rattle.std.proofs.lemmas.Bool.Decides.{nat_tests}
use Rattle.std.proofs.lemmas.List.{length-map}
use Rattle.gier_drum.specs.declared.drum.Entry.{Entry}
use Rattle.gier_symbol.specs.declared.symbol.Symbol.{Symbol}
use Rattle.gier_symbol.specs.Assembly.{assembly}
use Rattle.gier_symbol.specs.Listing.{FaultAt, SymbolFault, OpenString, Listing}
use Rattle.gier_symbol.specs.Reading.{symbols_of}
use Rattle.gier_symbol.specs.Tape.{before_parting, program_of}
use Rattle.gier_text.specs.declared.fault.Fault.{Fault}
use Rattle.gier_text.specs.declared.fault.FaultKind.{FaultKind}
use Rattle.gier_text.specs.declared.fault.FaultKind.TheVariants.{TooLong}
use Rattle.gier_text.specs.Faults.{as_fault, without_position}
use Rattle.gier_text.specs.TablesModel.{TablesModel}
use Rattle.gier_text.specs.View.{View, Appends}
use Rattle.gier_tree.specs.Structure.{structure_fault}
use Rattle.gier_pass1.specs.Program.{program_of as text_of, IsTooLong}
use Rattle.gier_pass1.specs.TapeListing.{TellsTape}
use Rattle.gier_pass2.specs.declared.pass.Pass2.{Pass2}
use Rattle.gier_pass2.specs.Exact.{IsExact}
use Rattle.gier_pass3.specs.Found.{IsBare, AreFound, faults_of}
use Rattle.gier_limits.specs.Areas.{longest}
use Rattle.gier_front.specs.declared.stop.FrontStop.{FrontStop}
use Rattle.gier_front.specs.declared.stop.FrontStop.TheVariants.{Errors, Read, Drum, Spoilt}
use Rattle.gier_front.specs.Passes.{IsToldAs, IsNothing, IfDriven}
use Rattle.gier_front.specs.Early.{too_long, structure_faults, or_else, faults_of_two, faults_of_one, early_by, early_faults, AreEarly, FindsEarly, FindsFirst, ArePlain}
use Rattle.gier_front.proofs.Plain.{all_spelled, all_bare, assembled_bare, plain_symbols}

-- lists that are mapped to no fault have none

none_mapped : {A B : Type 0} (f : A → B) (xs : List A) → map f xs ≡ [] → xs ≡ []
none_mapped f [] is = refl
none_mapped f (x ∷ xs) is = absurd cc

or_else_none : {T : Type 0} (faults later : List T) → faults ≡ [] → or_else faults later ≡ later
or_else_none faults later none = rw none refl

or_else_some : {T : Type 0} (faults later : List T) → 0 < length faults → or_else faults later ≡ faults
or_else_some [] later some = absurd (omega arith)
or_else_some (fault ∷ faults) later some = refl

are_early : (early : List (FaultAt FaultKind)) (found : List Fault) → map without_position found ≡ early → AreEarly early found
are_early [] found is = tt
are_early (fault ∷ faults) found is = is

some_mapped : (found : List Fault) (early : List (FaultAt FaultKind)) → map without_position found ≡ early → 0 < length found → 0 < length early
some_mapped found early is some = omega (arith, some, ap length is, length-map found without_position)

-- assembling

pub one_goes_on : (t : TablesModel) (list written : List Symbol) → IsExact t list written → t.faults ≡ [] → faults_of_one list ≡ faults_of_two written
one_goes_on t list written exact none =
    let nothing : map as_fault (assembly list).faults ≡ [] = sym exact.faults ∙ ap (λ (f : List Fault). map without_position f) none in
    or_else_none (map as_fault (assembly list).faults) (faults_of_two (assembly list).symbols) nothing ∙ ap faults_of_two (sym exact.symbols)

pub one_finds : (t : TablesModel) (list written : List Symbol) → IsExact t list written → 0 < length t.faults → AreEarly (faults_of_one list) t.faults
one_finds t list written exact some =
    let all : faults_of_one list ≡ map as_fault (assembly list).faults = or_else_some (map as_fault (assembly list).faults) (faults_of_two (assembly list).symbols) (some_mapped t.faults (map as_fault (assembly list).faults) exact.faults some) in
    are_early (faults_of_one list) t.faults (exact.faults ∙ sym all)

-- structure

two_goes_on_by : (fault : Option ℕ) (read : List Symbol) (faults : List Fault) → AreFound fault read faults → faults ≡ [] → structure_faults fault ≡ []
two_goes_on_by None read faults found none = refl
two_goes_on_by (Some line) read faults found none = let wrong : length faults ≡ 0 = ap length none in absurd (omega (arith, wrong, ap length found.told))

two_finds_by : (fault : Option ℕ) (read : List Symbol) (faults : List Fault) → AreFound fault read faults → 0 < length faults → map without_position faults ≡ structure_faults fault
two_finds_by None read faults found some = absurd (omega (arith, some, ap length found))
two_finds_by (Some line) read faults found some = ap (λ (f : List Fault). map without_position f) found.told

pub two_goes_on : (t : TablesModel) (read : List Symbol) → AreFound (structure_fault read) read t.faults → t.faults ≡ [] → faults_of_two read ≡ []
two_goes_on t read found none = two_goes_on_by (structure_fault read) read t.faults found none

pub two_finds : (t : TablesModel) (read : List Symbol) → AreFound (structure_fault read) read t.faults → 0 < length t.faults → AreEarly (faults_of_two read) t.faults
two_finds t read found some = are_early (faults_of_two read) t.faults (two_finds_by (structure_fault read) read t.faults found some)

-- a stop that finds no early fault

pub finds_none : {T : Type 0} (r : Result T FrontStop) (early : List (FaultAt FaultKind)) (found : List Fault) → early ≡ [] → FindsEarly r early found
finds_none (Ok x) early found none = none
finds_none (Err Errors) early found none = subst (λ (e : List (FaultAt FaultKind)). AreEarly e found) (sym none) tt
finds_none (Err Read) early found none = tt
finds_none (Err Drum) early found none = tt
finds_none (Err (Spoilt odd)) early found none = tt

-- a stop is handed on

finds_by : (T U : Type 0) (stop : FrontStop) (D : Type 0) (early : List (FaultAt FaultKind)) (found : List Fault) → IfDriven {T = T} (Err stop) D → (IsErrOf {T = T} (Err stop) Errors → 0 < length found) → (D → 0 < length found → AreEarly early found) → FindsEarly {T = U} (Err stop) early found
finds_by T U Errors D early found driven some finds = finds driven (some refl)
finds_by T U Read D early found driven some finds = tt
finds_by T U Drum D early found driven some finds = tt
finds_by T U (Spoilt odd) D early found driven some finds = tt

pub finds_on : (T U : Type 0) (q : Result U FrontStop) (P : FrontStop → Type 0) (stop : FrontStop) (D : Type 0) (early : List (FaultAt FaultKind)) (found : List Fault) → IsErrAnd q P → ((e : FrontStop) → P e → e ≡ stop) → IfDriven {T = T} (Err stop) D → (IsErrOf {T = T} (Err stop) Errors → 0 < length found) → (D → 0 < length found → AreEarly early found) → FindsEarly q early found
finds_on T U (Ok x) P stop D early found is same driven some finds = absurd is
finds_on T U (Err e) P stop D early found is same driven some finds =
    subst (λ (s : FrontStop). FindsEarly {T = U} (Err s) early found) (sym (same e is)) (finds_by T U stop D early found driven some finds)

-- both definitions of a program text are one

same_by : (b : Bool) (byte : ℕ) (xs ys : List ℕ) → xs ≡ ys → (if b then [] else byte ∷ xs) ≡ before_parting b byte ys
same_by true byte xs ys same = refl
same_by false byte xs ys same = ap (λ (zs : List ℕ). byte ∷ zs) same

text_same : (tape : List ℕ) → text_of tape ≡ program_of tape
text_same [] = refl
text_same (byte ∷ tape) = same_by (byte == 35) byte (text_of tape) (program_of tape) (text_same tape)

-- pass 1

early_short : (program : List ℕ) → length program ≤ longest → early_faults program ≡ or_else (map as_fault (symbols_of program).faults) (faults_of_one (symbols_of program).symbols)
early_short program short = let no : nat_lt longest (length program) ≡ false = grind (arith, nat_tests, short) in rw no refl

no_open : (faults : List (FaultAt SymbolFault)) → faults ≡ [] → All (λ fault. fault.kind ≢ OpenString) faults
no_open faults none = rw none (λ k d lt. absurd (omega (arith, lt)))

nothing_yet : (old new : Option (List Symbol)) (symbols : List Symbol) → IsToldAs IsNothing old → Appends old symbols new → new ≡ Some symbols
nothing_yet None new symbols blank appends = absurd blank
nothing_yet (Some list) new symbols blank appends = appends ∙ ap (λ (l : List Symbol). Some (l ++ symbols)) blank

-- a tape that is told has so many bytes of program text
pub counted : (left : Option (List ℕ)) (tape : List ℕ) (added : List Fault) (old new : View) (before after : Option (List Entry)) (bytes : ℕ)
    → left ≡ Some tape → TellsTape left added old new before after bytes → bytes ≡ length (program_of tape)
counted left tape added old new before after bytes is tells =
    (subst (λ (l : Option (List ℕ)). TellsTape l added old new before after bytes) is tells).0

pub first_ok : (left : Option (List ℕ)) (tape : List ℕ) (added : List Fault) (old new : View) (before after : Option (List Entry)) (bytes : ℕ) → left ≡ Some tape → TellsTape left added old new before after bytes → bytes ≤ longest → added ≡ [] → IsToldAs IsNothing old.held → (early_faults (program_of tape) ≡ faults_of_one (symbols_of (program_of tape)).symbols) × (new.held ≡ Some (symbols_of (program_of tape)).symbols)
first_ok left tape added old new before after bytes is tells short none blank =
    let told = subst (λ (l : Option (List ℕ)). TellsTape l added old new before after bytes) is tells in
    let program = program_of tape in
    let few : length program ≤ longest = omega (arith, told.0, short) in
    let nothing : map as_fault (symbols_of program).faults ≡ [] = sym told.1.faults ∙ ap (λ (f : List Fault). map without_position f) none in (
      early_short program few ∙ or_else_none (map as_fault (symbols_of program).faults) (faults_of_one (symbols_of program).symbols) nothing,
      nothing_yet old.held new.held (symbols_of program).symbols blank (told.1.symbols (no_open (symbols_of program).faults (none_mapped as_fault (symbols_of program).faults nothing))).written.held,
    )

pub first_finds : (left : Option (List ℕ)) (tape : List ℕ) (added : List Fault) (old new : View) (before after : Option (List Entry)) (bytes : ℕ) → left ≡ Some tape → TellsTape left added old new before after bytes → bytes ≤ longest → 0 < length added → AreEarly (early_faults (program_of tape)) added
first_finds left tape added old new before after bytes is tells short some =
    let told = subst (λ (l : Option (List ℕ)). TellsTape l added old new before after bytes) is tells in
    let program = program_of tape in
    let few : length program ≤ longest = omega (arith, told.0, short) in
    let early : early_faults program ≡ map as_fault (symbols_of program).faults =
    early_short program few ∙ or_else_some (map as_fault (symbols_of program).faults) (faults_of_one (symbols_of program).symbols) (some_mapped added (map as_fault (symbols_of program).faults) told.1.faults some) in
    are_early (early_faults program) added (told.1.faults ∙ sym early)

insert_first : {T : Type 0} (at : ℕ) (x : T) → insert [] at x ≡ x ∷ []
insert_first zero x = refl
insert_first (suc at) x = refl

pub one_added : (dropped added : List Fault) (at : ℕ) (fault : Fault) → dropped ≡ [] → added ≡ insert dropped at fault → added ≡ fault ∷ []
one_added dropped added at fault none is = is ∙ ap (λ (l : List Fault). insert l at fault) none ∙ insert_first at fault

pub first_long : (left : Option (List ℕ)) (tape : List ℕ) (added : List Fault) → left ≡ Some tape → IsTooLong left → added ≡ record { position = 0; line = 0; kind = TooLong } ∷ [] → AreEarly (early_faults (program_of tape)) added
first_long left tape added is long one =
    let longer : longest < length (text_of tape) = subst IsTooLong is long in
    let program = program_of tape in
    let yes_long : nat_lt longest (length program) ≡ true = grind (arith, nat_tests, longer, ap length (text_same tape)) in
    let early : early_faults program ≡ too_long = rw yes_long refl in
    are_early (early_faults program) added (ap (λ (f : List Fault). map without_position f) one ∙ sym early)
