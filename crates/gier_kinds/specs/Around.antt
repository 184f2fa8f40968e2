-- Where a part of a hoisted program stands: what each identifier is there, and whether it means a procedure within whose own
-- declaration the part is, so that a function may be assigned its value (Report 5.4.4).
use Rattle.std.specs.Prelude.{◌==◌, ◌||◌, ◌&&◌, ℕ, Bool, false, not, List}
use Rattle.std.specs.List.{list_any}
use Rattle.gier_tree.specs.Declaring.{name_of_heading}
use Rattle.gier_tree.specs.Described.{Scopes, block_scopes, procedure_scopes, turn_scopes, program_scopes}
use Rattle.gier_tree.specs.Entries.{Entry, block_entries, procedure_entries, turn_entries}
use Rattle.gier_tree.specs.Trees.{Name, Heading, Declaration, Declarations, Statement, Statements, Program}

pub record Around : Type 0 where
  pub scopes : Scopes
  pub within : (x : ℕ) → Bool

-- in a scope with these entries an identifier that it declares means none of the procedures around
abbrev pub hide : List Entry → (ℕ → Bool) → ℕ → Bool
hide entries within x = not (list_any (λ e. e.name.number == x) entries) && within x

abbrev pub in_block : Declaration → Declarations → Statement → Statements → Around → Around
in_block d ds s ss a = record { scopes = block_scopes d ds s ss a.scopes; within = hide (block_entries d ds s ss) a.within }

-- within its declaration an identifier means the procedure
abbrev pub within_named : Name → (ℕ → Bool) → ℕ → Bool
within_named p within x = x == p.number || within x

-- unless a formal or a label has that identifier
abbrev pub in_procedure : Heading → Statement → Around → Around
in_procedure h s a =
    record {
      scopes = procedure_scopes h s a.scopes;
      within = hide (procedure_entries h s) (within_named (name_of_heading h) a.within);
    }

abbrev pub in_turn : Statement → Around → Around
in_turn s a = record { scopes = turn_scopes s a.scopes; within = hide (turn_entries s) a.within }

abbrev pub in_program : Program → Around
in_program t = record { scopes = program_scopes t; within = λ x. false }
