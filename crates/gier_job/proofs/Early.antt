-- Early faults of the front are the early errors of the definition, and are printed alike.
use Rattle.std.proofs.Common.{◌≡◌, ◌==◌, ◌<◌, ◌≤◌, ◌+◌, ◌%◌, ◌^◌, ℕ, zero, suc, Bool, true, false, nat_lt, List, [], ◌∷◌, ◌++◌, length, map, Option, None, Some, codes, decimal, append_assoc, refl, ap, sym, subst, ◌∙◌, arith}
use Rattle.std.specs.Prelude.{Result, Ok, Err}
use Rattle.std.proofs.lemmas.Bool.Decides.{nat_tests}
use Rattle.std.proofs.lemmas.Fmt.{decimal_by_steps}
use Rattle.gier_io.specs.Device.{Puts}
use Rattle.gier_symbol.specs.Assembly.{assembly}
use Rattle.gier_symbol.specs.Listing.{FaultAt, SymbolFault, WrongByte, WrongWord, OpenString, LargeNumber}
use Rattle.gier_symbol.specs.Reading.{symbols_of}
use Rattle.gier_symbol.specs.Tape.{before_parting, program_of, parting_byte}
use Rattle.gier_sample.specs.Sample.{head_text, tail_text, call_line, call_lines, sample_text}
use Rattle.gier_text.specs.declared.fault.Fault.{Fault}
use Rattle.gier_text.specs.declared.fronted.Fronted.{Fronted}
use Rattle.gier_text.specs.declared.fault.FaultKind.{FaultKind}
use Rattle.gier_text.specs.declared.fault.FaultKind.TheVariants.{TooLong}
use Rattle.gier_text.specs.Faults.{as_fault, without_position}
use Rattle.gier_tree.specs.Hoist.{hoist}
use Rattle.gier_tree.specs.Structure.{structure_fault, program_spelled}
use Rattle.gier_tree.specs.Trees.{Program}
use Rattle.gier_scope.specs.Faults.{ScopeFault}
use Rattle.gier_scope.specs.ScopeFaults.{scope_faults}
use Rattle.gier_kinds.specs.Errors.{OfSymbols, OfScopes, OfTypes, Faults, Errors as AllErrors, Listed, faults_as, structure_list, scope_list, type_list, first_filled, errors_by, errors}
use Rattle.gier_kinds.specs.ErrorTexts.{fault_line, fault_lines, error_lines}
use Rattle.gier_kinds.specs.Faults.{TypeFault}
use Rattle.gier_kinds.specs.TypeFaults.{type_faults}
use Rattle.gier_limits.specs.Areas.{longest}
use Rattle.gier_front.specs.declared.stop.FrontStop.{FrontStop}
use Rattle.gier_front.specs.declared.stop.FrontStop.TheVariants.{Errors as HasErrors}
use Rattle.gier_front.specs.Early.{or_else, structure_faults, early_by, early_faults, AreEarly, FindsEarly}
use Rattle.gier_front.specs.Printed.{errors_text, line_by, fault_line as line_of}
use Rattle.gier_job.specs.Early.{are_early, AnswersEarly}
use Rattle.gier_job.specs.Status.{IsOfRun}
use Rattle.gier_job.specs.declared.status.Status.{Status}
use Rattle.gier_job.specs.declared.status.Status.TheVariants.{Done, Errors, Alarm, Steps}

-- A fault of the tables that stands on a line, wherever its position

abbrev placed : FaultAt FaultKind → Fault
placed fault = record { position = 0; line = fault.line; kind = fault.kind }

same_line : (kind : FaultKind) (fault : Fault) → line_by kind fault ≡ line_by kind (placed (without_position fault))
same_line TooLong fault = refl
same_line _ fault = refl

same_lines : (found : List Fault) → errors_text found ≡ errors_text (map placed (map without_position found))
same_lines [] = refl
same_lines (fault ∷ found) =
    ap (λ (l : List ℕ). l ++ errors_text found) (same_line fault.kind fault)
    ∙ ap (λ (l : List ℕ). line_by fault.kind (placed (without_position fault)) ++ l) (same_lines found)

-- The lines of both definitions

joined : (a b c d e : List ℕ) → (a ++ b) ++ ((c ++ d) ++ e) ≡ (((a ++ b) ++ c) ++ d) ++ e
joined a b c d e = sym (append_assoc (a ++ b) (c ++ d) e) ∙ ap (λ (l : List ℕ). l ++ e) (sym (append_assoc (a ++ b) c d))

line_with : (line : ℕ) (text : List ℕ)
    → (codes "line " ++ decimal line) ++ ((codes " " ++ text) ++ codes "\n") ≡ codes "line " ++ decimal line ++ codes " " ++ text ++ codes "\n"
line_with line text = joined (codes "line ") (decimal line) (codes " ") text (codes "\n")

symbol_line : (kind : SymbolFault) (line : ℕ)
    → line_of (placed (as_fault (record { kind = kind; line = line }))) ≡ fault_line (record { kind = OfSymbols kind; line = line })
symbol_line WrongByte line = line_with line (codes "character")
symbol_line WrongWord line = line_with line (codes "word")
symbol_line OpenString line = line_with line (codes "string")
symbol_line LargeNumber line = line_with line (codes "number")

symbol_lines : (found : List (FaultAt SymbolFault)) → errors_text (map placed (map as_fault found)) ≡ fault_lines (faults_as OfSymbols found)
symbol_lines [] = refl
symbol_lines (fault ∷ found) =
    ap (λ (l : List ℕ). l ++ errors_text (map placed (map as_fault found))) (symbol_line fault.kind fault.line)
    ∙ ap (λ (l : List ℕ). fault_line (record { kind = OfSymbols fault.kind; line = fault.line }) ++ l) (symbol_lines found)

-- Early faults are the errors, or these are no early ones

abbrev Agrees : List (FaultAt FaultKind) → AllErrors → Type 0
Agrees [] all = are_early all ≡ false
Agrees (fault ∷ faults) all = errors_text (map placed (fault ∷ faults)) ≡ error_lines all

abbrev late_lists : Option Program → List Faults
late_lists t = scope_list t ∷ type_list t ∷ []

late_by : (scopes : List (FaultAt ScopeFault)) (types : List (FaultAt TypeFault))
    → are_early (Listed (first_filled (faults_as OfScopes scopes ∷ faults_as OfTypes types ∷ []))) ≡ false
late_by [] [] = refl
late_by [] (fault ∷ types) = refl
late_by (fault ∷ scopes) types = refl

late : (t : Option Program) → are_early (Listed (first_filled (late_lists t))) ≡ false
late None = refl
late (Some t) = late_by (scope_faults t) (type_faults (hoist t))

with_structure : (fault : Option ℕ) (t : Option Program)
    → Agrees (structure_faults fault) (Listed (first_filled (structure_list fault ∷ late_lists t)))
with_structure None t = late t
with_structure (Some line) t = ap (λ (l : List ℕ). l ++ []) (line_with line (codes "structure"))

with_numbers : (numbers : List (FaultAt SymbolFault)) (fault : Option ℕ) (t : Option Program)
    → Agrees (or_else (map as_fault numbers) (structure_faults fault))
    (Listed (first_filled (faults_as OfSymbols numbers ∷ structure_list fault ∷ late_lists t)))
with_numbers [] fault t = with_structure fault t
with_numbers (number ∷ numbers) fault t = symbol_lines (number ∷ numbers)

with_bytes : (bytes numbers : List (FaultAt SymbolFault)) (fault : Option ℕ) (t : Option Program)
    → Agrees (or_else (map as_fault bytes) (or_else (map as_fault numbers) (structure_faults fault)))
    (Listed (first_filled (faults_as OfSymbols bytes ∷ faults_as OfSymbols numbers ∷ structure_list fault ∷ late_lists t)))
with_bytes [] numbers fault t = with_numbers numbers fault t
with_bytes (byte ∷ bytes) numbers fault t = symbol_lines (byte ∷ bytes)

agree_by : (long : Bool) (text : List ℕ) → Agrees (early_by long (symbols_of text)) (errors_by long text)
agree_by true text = refl
agree_by false text =
    let read = symbols_of text in
    let two = assembly read.symbols in
    with_bytes read.faults two.faults (structure_fault two.symbols) (program_spelled two.symbols)

agree : (text : List ℕ) → Agrees (early_faults text) (errors text)
agree text = agree_by (nat_lt longest (length text)) text

-- What the front found

pub none_early : (text : List ℕ) → early_faults text ≡ [] → are_early (errors text) ≡ false
none_early text none = subst (λ (early : List (FaultAt FaultKind)). Agrees early (errors text)) none (agree text)

printed_by : (early : List (FaultAt FaultKind)) (found : List Fault) (all : AllErrors) → Agrees early all → AreEarly early found
    → are_early all ≡ true → errors_text found ≡ error_lines all
printed_by [] found all agrees are early = absurd cc
printed_by (fault ∷ faults) found all agrees are early =
    same_lines found ∙ ap (λ (l : List (FaultAt FaultKind)). errors_text (map placed l)) are ∙ agrees

pub puts_early : (text : List ℕ) (found : List Fault) (old new : Option (List ℕ)) → AreEarly (early_faults text) found
    → Puts old (errors_text found) new → are_early (errors text) ≡ true → Puts old (error_lines (errors text)) new
puts_early text found old new are put early =
    subst (λ (l : List ℕ). Puts old l new) (printed_by (early_faults text) found (errors text) (agree text) are early) put

pub erring : (found : Result Fronted FrontStop) (stop : FrontStop) (early : List (FaultAt FaultKind)) (faults : List Fault)
    → found ≡ Err stop → stop ≡ HasErrors → FindsEarly found early faults → AreEarly early faults
erring found stop early faults is errors_are finds =
    let all : found ≡ Err HasErrors = is ∙ ap (λ (s : FrontStop). Err s) errors_are in
    subst (λ (r : Result Fronted FrontStop). FindsEarly r early faults) all finds

pub ending_well : (text : List ℕ) (found : Result Fronted FrontStop) (x : Fronted) (faults : List Fault) → found ≡ Ok x
    → FindsEarly found (early_faults text) faults → are_early (errors text) ≡ false
ending_well text found x faults is finds =
    none_early text (subst (λ (r : Result Fronted FrontStop). FindsEarly r (early_faults text) faults) is finds)

-- a run answers no errors, and so much is known where the front found none
pub answers_none : (text : List ℕ) (status : Status) (old new : Option (List ℕ)) → early_faults text ≡ [] → IsOfRun status
    → AnswersEarly status (errors text) old new
answers_none text Done old new none of_run = none_early text none
answers_none text Alarm old new none of_run = none_early text none
answers_none text Steps old new none of_run = none_early text none
answers_none text Errors old new none of_run = absurd of_run
answers_none text _ old new none of_run = tt

-- A sample has no parting byte, so that all of it is program text

abbrev whole_by : (parts rest : Bool) → Bool
whole_by true rest = false
whole_by false rest = rest

abbrev is_whole : List ℕ → Bool
is_whole [] = true
is_whole (byte ∷ bytes) = whole_by (byte == parting_byte) (is_whole bytes)

by_more : (parts rest more : Bool) → (rest ≡ true → more ≡ true) → whole_by parts rest ≡ true → whole_by parts more ≡ true
by_more true rest more further whole = absurd cc
by_more false rest more further whole = further whole

whole_append : (xs ys : List ℕ) → is_whole ys ≡ true → is_whole xs ≡ true → is_whole (xs ++ ys) ≡ true
whole_append [] ys further first = further
whole_append (x ∷ xs) ys further first = by_more (x == parting_byte) (is_whole xs) (is_whole (xs ++ ys)) (whole_append xs ys further) first

no_parting : (digit : ℕ) → (48 + digit == parting_byte) ≡ false
no_parting digit = grind (arith, nat_tests)

whole_digit : (digit : ℕ) → is_whole ((48 + digit) ∷ []) ≡ true
whole_digit digit = ap (λ (parts : Bool). whole_by parts true) (no_parting digit)

whole_decimal : (n : ℕ) → n < 2 ^ 64 → is_whole (decimal n) ≡ true
whole_decimal =
    decimal_by_steps (λ m ds. is_whole ds ≡ true) (λ m small. whole_digit m)
    (λ m ds small whole. whole_append ds ((48 + m % 10) ∷ []) (whole_digit (m % 10)) whole)

whole_head : is_whole head_text ≡ true
unfolding head_text
whole_head = refl

whole_tail : is_whole tail_text ≡ true
unfolding tail_text
whole_tail = refl

whole_call : (i : ℕ) → i < 2 ^ 64 → is_whole (call_line i) ≡ true
whole_call i small =
    whole_append (codes "p(s+" ++ decimal i) (codes ");\n") refl (whole_append (codes "p(s+") (decimal i) (whole_decimal i small) refl)

whole_calls : (first count : ℕ) → first + count < 2 ^ 64 → is_whole (call_lines first count) ≡ true
whole_calls first zero small = refl
whole_calls first (suc count) small =
    whole_append (call_line first) (call_lines (suc first) count) (whole_calls (suc first) count (omega (arith, small)))
    (whole_call first (omega (arith, small)))

whole_sample : (k : ℕ) → k ≤ 2000 → is_whole (sample_text k) ≡ true
whole_sample k few =
    whole_append (head_text ++ call_lines 1 k) tail_text whole_tail
    (whole_append head_text (call_lines 1 k) (whole_calls 1 k (omega (arith, few))) whole_head)

program_by : (parts rest : Bool) (byte : ℕ) (program bytes : List ℕ) → (rest ≡ true → program ≡ bytes) → whole_by parts rest ≡ true
    → before_parting parts byte program ≡ byte ∷ bytes
program_by true rest byte program bytes further whole = absurd cc
program_by false rest byte program bytes further whole = ap (λ (l : List ℕ). byte ∷ l) (further whole)

whole_program : (bytes : List ℕ) → is_whole bytes ≡ true → program_of bytes ≡ bytes
whole_program [] whole = refl
whole_program (byte ∷ bytes) whole =
    program_by (byte == parting_byte) (is_whole bytes) byte (program_of bytes) bytes (whole_program bytes) whole

pub sample_program : (k : ℕ) → k ≤ 2000 → program_of (sample_text k) ≡ sample_text k
sample_program k few = whole_program (sample_text k) (whole_sample k few)
