-- Where the quantity of an identifier is found: the level of its activation and its address there. A label, switch or procedure
-- has in place of an address its number among all of them, in the order of their entries.
use Rattle.std.specs.Prelude.{ℕ, ◌+◌, ◌==◌, List, [], ◌∷◌, if◌then◌else◌}
use Rattle.gier_tree.specs.declared.kind.Kind.{Kind}
use Rattle.gier_tree.specs.declared.kind.Kind.TheVariants.{Label, Switch, Procedure, IntegerProcedure, BooleanProcedure}
use Rattle.gier_tree.specs.Described.{Described, standard_scopes}
use Rattle.gier_tree.specs.Entries.{Entry, kind_words, kind_numbers, block_entries, procedure_entries, turn_entries}
use Rattle.gier_tree.specs.Entries.{program_entries}
use Rattle.gier_tree.specs.Room.{block_header, call_header, result_words}
use Rattle.gier_tree.specs.Trees.{Heading, MkHeading, Declaration, Declarations, Statement, Statements, Program}

pub record Placed : Type 0 where
  pub what : Described
  pub level : ℕ
  pub address : ℕ

abbrev pub Places : Type 0
Places = ℕ → Placed

abbrev pub address_or_number : Kind → (address number : ℕ) → ℕ
address_or_number Label address number = number
address_or_number Switch address number = number
address_or_number Procedure address number = number
address_or_number IntegerProcedure address number = number
address_or_number BooleanProcedure address number = number
address_or_number kind address number = address

-- entries from this address and number on
abbrev pub place_all : (level address number : ℕ) → List Entry → Places → Places
place_all level address number [] places x = places x
place_all level address number (e ∷ es) places x =
    if x == e.name.number then record { what = e.what; level = level; address = address_or_number e.what.kind address number }
    else place_all level (address + kind_words e.what.kind e.what.count) (number + kind_numbers e.what.kind) es places x

-- the standard procedures have no place
abbrev pub standard_places : Places
standard_places x = record { what = standard_scopes x; level = 0; address = 0 }

abbrev pub block_places : (level number : ℕ) → Declaration → Declarations → Statement → Statements → Places → Places
block_places level number d ds s ss places = place_all level block_header number (block_entries d ds s ss) places

-- formals stand behind a function's value
abbrev pub first_formal : Heading → ℕ
first_formal (MkHeading t l x fs m vs ss) = call_header + result_words t

abbrev pub procedure_places : (level number : ℕ) → Heading → Statement → Places → Places
procedure_places level number h s places = place_all level (first_formal h) number (procedure_entries h s) places

abbrev pub turn_places : (level number : ℕ) → Statement → Places → Places
turn_places level number s places = place_all level 0 number (turn_entries s) places

abbrev pub program_places : Program → Places
program_places t = place_all 1 0 0 (program_entries t) standard_places
