-- What the first pass writes and adds where the tape is told: the symbols and the faults of its program text, by the rules of
-- the language.
use Rattle.std.specs.Prelude.{◌≡◌, ◌≢◌, ◌<◌, ◌≤◌, ◌++◌, ℕ, List, [], ◌∷◌, length, map, All, AllPairs, Option, None, Some}
use Rattle.gier_drum.specs.declared.drum.Entry.{Entry}
use Rattle.gier_symbol.specs.Listing.{OpenString, Listing}
use Rattle.gier_symbol.specs.Reading.{symbols_of}
use Rattle.gier_symbol.specs.Tape.{program_of}
use Rattle.gier_text.specs.declared.fault.Fault.{Fault}
use Rattle.gier_text.specs.declared.tables.Tables.{Tables}
use Rattle.gier_text.specs.TablesModel.{tables_model}
use Rattle.gier_text.specs.Faults.{as_fault, without_position}
use Rattle.gier_text.specs.View.{View}
use Rattle.gier_pass1.specs.declared.state.Token.{Token}
use Rattle.gier_pass1.specs.declared.state.Token.TheVariants.{Nothing, Written, LexError}
use Rattle.gier_pass1.specs.Puts.{Puts}

-- each string has its end
abbrev pub IsClosed : Listing → Type 0
IsClosed listing = All (λ fault. fault.kind ≢ OpenString) listing.faults

-- the fault that was found, where there is one, is put behind those that are there already, where none of them has a later
-- position
abbrev pub AddsFound : List Fault → Token → List Fault → Type 0
AddsFound old Nothing new = new ≡ old
AddsFound old (Written s) new = new ≡ old
AddsFound old (LexError fault) new = All (λ before. before.position ≤ fault.position) old → new ≡ old ++ fault ∷ []

-- what two findings add, one behind the other
abbrev pub AddsFounds : List Fault → Token → Token → List Fault → Type 0
AddsFounds old first second new = (mid : List Fault) × AddsFound old first mid × AddsFound mid second new

-- the faults are those of the listing, in order, and so are the symbols, where no string is open
pub record Tells (listing : Listing) (added : List Fault) (old new : View) (before after : Option (List Entry)) : Type 0 where
  pub faults : map without_position added ≡ map as_fault listing.faults
  pub rising : AllPairs (λ fault later. fault.position < later.position) added
  pub symbols : IsClosed listing → Puts listing.symbols old new before after

-- a tape that is told has a program text of so many bytes, and its symbols and faults are told
abbrev pub TellsTape : Option (List ℕ) → List Fault → (old new : View) → (before after : Option (List Entry)) → (bytes : ℕ) → Type 0
TellsTape None added old new before after bytes = Unit {0}
TellsTape (Some tape) added old new before after bytes =
    (bytes ≡ length (program_of tape)) × Tells (symbols_of (program_of tape)) added old new before after

-- the same by what texts, stores and tables are
abbrev pub TellsAll : {T S : Type 0} → Option (List ℕ) → Tables → (T → S → View) → (S → Option (List Entry)) → T → S → T → S → ℕ
    → Type 0
TellsAll tape tables view journal out store new_out new_store bytes =
    TellsTape tape (tables_model tables).faults (view out store) (view new_out new_store) (journal store) (journal new_store) bytes
