-- The runs of the definition of assembling, as far as the pass has read them: those that have ended, and the symbols of
-- the one that is read.
use Rattle.std.specs.Prelude.{◌≡◌, ◌<◌, ◌^◌, ◌++◌, ◌∷◌, [], ℕ, Bool, true, if◌then◌else◌, min, List, map, All}
use Rattle.std.specs.List.{list_all}
use Rattle.gier_symbol.specs.declared.symbol.Symbol.{Symbol}
use Rattle.gier_symbol.specs.declared.tag.Tag.TheVariants.{Letter, Digit}
use Rattle.gier_symbol.specs.Assembly.{Lexeme as RunOf, AName, ANumber, ASymbol, is, is_letter_or_digit, byte_of, decimal, runs}
use Rattle.gier_symbol.specs.Assembly.{number_faults, standard_names, known_by, place_of}
use Rattle.gier_symbol.specs.Bytes.{is_letter}
use Rattle.gier_text.specs.declared.fault.Fault.{Fault}
use Rattle.gier_text.specs.TablesModel.{TablesModel}
use Rattle.gier_pass2.specs.declared.runs.Lexeme.{Lexeme}
use Rattle.gier_pass2.specs.declared.runs.Lexeme.TheVariants.{Nothing, Name, Number}
use Rattle.gier_text.specs.Faults.{as_fault, without_position}
use Rattle.gier_pass2.specs.Tree.{Tree, Knows}

-- the names that are known after some runs
abbrev pub names_after : List RunOf → List (List ℕ) → List (List ℕ)
names_after [] known = known
names_after (AName name line ∷ rest) known = names_after rest (known_by (place_of name known) name known)
names_after (ANumber value line ∷ rest) known = names_after rest known
names_after (ASymbol s ∷ rest) known = names_after rest known

abbrev pub names_of : List RunOf → List (List ℕ)
names_of done = names_after done standard_names

-- what a symbol ends at once, and what it begins, where it doesn't go on with a run
abbrev pub run_ended : Symbol → List RunOf
run_ended s = if is_letter_or_digit s then [] else ASymbol s ∷ []

abbrev pub begun_by : Symbol → List Symbol
begun_by s = if is_letter_or_digit s then s ∷ [] else []

-- the symbols that were read are these runs, and then these begin the next one
abbrev pub IsCut : List Symbol → List RunOf → List Symbol → Type 0
IsCut read done pending = (rest : List Symbol) → runs (read ++ rest) 0 ≡ done ++ runs (pending ++ rest) 0

-- an identifier is read, of these symbols
pub record IsName (tree : Tree) (node at_line : ℕ) (is_plain : Bool) (pending : List Symbol) : Type 0 where
  pub first : Symbol
  pub more : List Symbol
  pub symbols : pending ≡ first ∷ more
  pub letter : is Letter first ≡ true
  pub signs : list_all is_letter_or_digit more ≡ true
  pub name : tree.name node ≡ map byte_of pending
  pub line : first.line ≡ at_line
  pub plain : list_all is_letter (map byte_of pending) ≡ is_plain

-- a number is read, of these symbols
pub record IsNumber (total at_line : ℕ) (pending : List Symbol) : Type 0 where
  pub first : Symbol
  pub more : List Symbol
  pub symbols : pending ≡ first ∷ more
  pub digit : is Digit first ≡ true
  pub digits : list_all (is Digit) more ≡ true
  pub value : total ≡ min (decimal 0 pending) (2 ^ 39)
  pub line : first.line ≡ at_line

abbrev pub IsRunOf : Tree → Lexeme → List Symbol → Type 0
IsRunOf tree Nothing pending = pending ≡ []
IsRunOf tree (Name node line plain) pending = IsName tree node line plain pending
IsRunOf tree (Number value line position) pending = IsNumber value line pending

-- how many symbols came before the number that is read, and before what comes next where none is read
abbrev pub begin_of : Lexeme → ℕ → ℕ
begin_of Nothing read = read
begin_of (Name node line plain) read = read
begin_of (Number value line position) read = position

abbrev pub HasBegun : Lexeme → ℕ → Type 0
HasBegun Nothing read = Unit {0}
HasBegun (Name node line plain) read = Unit {0}
HasBegun (Number value line position) read = position < read

-- the faults are those of the runs that have ended, and have places before the run that is read
pub record HasFaultsOf (faults : List Fault) (done : List RunOf) (run : Lexeme) (read : ℕ) : Type 0 where
  pub same : map without_position faults ≡ map as_fault (number_faults done)
  pub before : All (λ fault. fault.position < begin_of run read) faults
  pub begun : HasBegun run read

-- these runs have ended, and one is read, of these symbols
pub record IsReading (t : TablesModel) (known : ℕ) (current : Lexeme) (read : ℕ) (done : List RunOf)
    (pending : List Symbol) : Type 0 where
  pub tree : Tree
  pub knows : Knows t tree known (names_of done)
  pub run : IsRunOf tree current pending
  pub faults : HasFaultsOf t.faults done current read
