-- What the pass keeps while it takes symbols, what holds at its end, and which lists it is meant for.
use Rattle.std.specs.Prelude.{Bool, true, false, ◌≡◌, ◌≤◌, ◌<◌, ◌+◌, ◌*◌, ◌^◌, ℕ, List, [], length, All, IsTrue, Option, None, Some}
use Rattle.gier_symbol.specs.declared.symbol.Symbol.{Symbol}
use Rattle.gier_symbol.specs.Symbols.{IsSymbol}
use Rattle.gier_symbol.specs.Texts.{stands_in}
use Rattle.gier_text.specs.Potential.{potential, is_numbered, IsWithinPotential}
use Rattle.gier_text.specs.TablesModel.{TablesModel}
use Rattle.gier_pass3.specs.declared.pass.Pass3.{Pass3}
use Rattle.gier_tree.specs.Structure.{structure_fault, IsWritten}
use Rattle.gier_tree.specs.TextsOf.{text3}
use Rattle.gier_tree.specs.Trees.{Program}
use Rattle.gier_pass3.specs.Refinement.{WritesPrefix}
use Rattle.gier_pass3.specs.Lists.{ListsInvariant, stack_in, lookahead_in, ready_in, depth, credit, lookahead_by, ready_by}
use Rattle.gier_pass3.specs.Found.{IsBare, AreFound, FaultInvariant}

-- a symbol of this text of a program of so many bytes
pub record IsFit (text bytes : ℕ) (s : Symbol) : Type 0 where
  pub symbol : IsSymbol s
  pub letter : IsTrue (stands_in text s.tag)
  pub numbered : IsTrue (is_numbered text bytes s)

-- an identifier that is looked ahead may still become a label
abbrev pub name_weight : Option Symbol → ℕ
name_weight None = 0
name_weight (Some name) = 6

abbrev pub IsName : ℕ → Option Symbol → Type 0
IsName bytes None = Unit {0}
IsName bytes (Some name) = IsFit 2 bytes name

-- what is looked ahead and ready, and what the grammar symbols that are wanted may still write
abbrev pub total_potential : Pass3 → TablesModel → ℕ
total_potential pass t = credit t + potential 3 (lookahead_by t) + potential 3 (ready_by t) + name_weight pass.name

-- fields and tables fit each other
pub record StateInvariant (pass : Pass3) (t : TablesModel) : Type 0 where
  pub lists : ListsInvariant t
  pub stack_room : (stack_in t).capacity ≡ 12 * pass.bytes + 32
  pub lookahead_room : (lookahead_in t).capacity ≡ 8 * pass.bytes + 16
  pub ready_room : (ready_in t).capacity ≡ 8 * pass.bytes + 16
  pub lookahead : All (IsFit 3 pass.bytes) (lookahead_by t)
  pub ready : All (IsFit 3 pass.bytes) (ready_by t)
  pub name : IsName pass.bytes pass.name
  pub line : pass.last < 2 ^ 24

-- fields and tables fit each other, with room for so much more potential and so many more symbols that are wanted
pub record HasRoom (cost deeper : ℕ) (pass : Pass3) (t : TablesModel) : Type 0 where
  pub holds : StateInvariant pass t
  pub total_potential : total_potential pass t + cost ≤ 8 * pass.bytes + 16
  pub depth : depth t + deeper ≤ 12 * pass.bytes + 32

-- the potential grows at most by so much, and the stack by so many entries
pub record PreservesState (cost deeper : ℕ) (pass new : Pass3) (t u : TablesModel) : Type 0 where
  pub holds : StateInvariant new u
  pub total_potential : total_potential new u ≤ total_potential pass t + cost
  pub depth : depth u ≤ depth t + deeper
  pub bytes : new.bytes ≡ pass.bytes
  pub read : new.read ≡ pass.read
  pub stopped : new.stopped ≡ pass.stopped
  pub limit : u.limit ≡ t.limit
  pub faults : u.faults ≡ t.faults

-- the same with the stack as it was, where at most so many own quantities were counted
pub record PreservesStack (cost more : ℕ) (pass new : Pass3) (t u : TablesModel) : Type 0 where
  pub state : PreservesState cost 0 pass new t u
  pub stack : stack_in u ≡ stack_in t
  pub owned : pass.owns ≤ new.owns
  pub counted : new.owns ≤ pass.owns + more

-- at most one fault
abbrev pub stops : Bool → ℕ
stops true = 1
stops false = 0

-- a symbol was met: it was taken, or there is a fault
pub record PreservesOnSymbol (pass new : Pass3) (t u : TablesModel) : Type 0 where
  pub holds : StateInvariant new u
  pub total_potential : total_potential new u ≤ total_potential pass t + 8
  pub depth : depth u ≤ depth t + 12
  pub bytes : new.bytes ≡ pass.bytes
  pub read : new.read ≡ pass.read
  pub limit : u.limit ≡ t.limit
  pub few : length u.faults ≤ stops new.stopped

-- between symbols, where so many may be taken
pub record SymbolInvariant (pass : Pass3) (t : TablesModel) : Type 0 where
  pub holds : StateInvariant pass t
  pub few : length t.faults ≤ stops pass.stopped
  pub deep : depth t ≤ 12 * pass.read + 4
  pub within : pass.read ≤ pass.bytes + 1
  pub owned : pass.owns ≤ 32 * pass.read
  pub limit : pass.bytes ≤ t.limit
  pub small : t.limit ≤ 524288

-- a symbol was taken: no more than eight is added to the potential
pub record PreservesInvariant (pass new : Pass3) (t u : TablesModel) : Type 0 where
  pub ready : SymbolInvariant new u
  pub total_potential : total_potential new u ≤ total_potential pass t + 8
  pub read : new.read ≡ pass.read + 1
  pub bytes : new.bytes ≡ pass.bytes
  pub limit : u.limit ≡ t.limit

-- so many symbols were taken; what is written is of text 3, and not too heavy with what is looked ahead
pub record PassInvariant (pass : Pass3) (t : TablesModel) (read written : List Symbol) : Type 0 where
  pub ready : SymbolInvariant pass t
  pub none_ready : ready_by t ≡ []
  pub taken : pass.read ≡ length read
  pub letters : All (IsFit 3 pass.bytes) written
  pub light : potential 3 written + total_potential pass t ≤ 8 * length read + 2
  pub found : All IsBare read → FaultInvariant pass.stopped t read
  pub writes : All IsBare read → WritesPrefix pass t read written

-- letters of text 2 with small numbers of identifiers, at most one for each byte and one for the end
pub record IsTextTwo (bytes : ℕ) (list : List Symbol) : Type 0 where
  pub letters : All (λ s. IsTrue (stands_in 2 s.tag)) list
  pub numbered : All (λ s. IsTrue (is_numbered 2 bytes s)) list
  pub few : length list ≤ bytes + 1

-- what is written is a text 3 that isn't too heavy; at most one fault was found, and where no symbol has a value that its tag
-- has no use for, it is the fault of structure of what was read
pub record Relates (pass : Pass3) (t : TablesModel) (read written : List Symbol) : Type 0 where
  pub light : IsWithinPotential 3 pass.bytes written
  pub few : length t.faults ≤ 1
  pub found : All IsBare read → AreFound (structure_fault read) read t.faults
  pub text : All IsBare read → (program : Program) → IsWritten program read → written ≡ text3 program

-- the three lists are there, and empty
pub record OpensLists (bytes : ℕ) (t u : TablesModel) : Type 0 where
  pub lists : ListsInvariant u
  pub stack_room : (stack_in u).capacity ≡ 12 * bytes + 32
  pub lookahead_room : (lookahead_in u).capacity ≡ 8 * bytes + 16
  pub ready_room : (ready_in u).capacity ≡ 8 * bytes + 16
  pub no_item : depth u ≡ 0
  pub no_word : (stack_in u).words ≡ []
  pub no_lookahead : lookahead_by u ≡ []
  pub none_ready : ready_by u ≡ []
  pub limit : u.limit ≡ t.limit
  pub faults : u.faults ≡ t.faults
