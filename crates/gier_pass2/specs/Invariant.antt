-- What the pass keeps while it takes symbols, what holds at its end, and which lists it is meant for.
use Rattle.std.specs.Prelude.{Bool, true, false, ◌≡◌, ◌≤◌, ◌+◌, ℕ, List, length, All, IsTrue}
use Rattle.gier_symbol.specs.declared.symbol.Symbol.{Symbol}
use Rattle.gier_symbol.specs.Texts.{stands_in}
use Rattle.gier_text.specs.TablesModel.{TablesModel}
use Rattle.gier_text.specs.Lists.{list_at}
use Rattle.gier_pass2.specs.declared.pass.Pass2.{Pass2}
use Rattle.gier_pass2.specs.Exact.{IsExact}
use Rattle.gier_pass2.specs.Progress.{Follows}
use Rattle.gier_pass2.specs.Letters.{IsWritable, IsEnded, ends, ends_with}
use Rattle.gier_pass2.specs.Names.{HasNodes, node_count}
use Rattle.gier_pass2.specs.Lexemes.{IsRun, lexeme_symbols}
use Rattle.gier_pass2.specs.Spelled.{IsSpelled}
use Rattle.gier_pass2.specs.ParameterComma.{symbols_of, IsWaiting}

-- how many symbols are still to be given for those that were taken
abbrev pub symbols_pending : Pass2 → ℕ
symbols_pending pass = length (symbols_of pass.waiting) + lexeme_symbols pass.run

-- fields and tables fit each other; there are no more nodes, numbers of identifiers and faults than symbols and the
-- standard identifiers need
pub record TablesInvariant (pass : Pass2) (t : TablesModel) : Type 0 where
  pub nodes : HasNodes t
  pub capacity : (list_at t.lists 0).capacity ≡ pass.bytes + 64
  pub few_nodes : node_count t ≤ 60 + pass.read
  pub few_names : pass.known ≤ 60 + pass.read
  pub few_faults : length t.faults ≤ pass.read
  pub small : t.limit ≤ 524288
  pub limit : pass.bytes ≤ t.limit
  pub within : pass.read ≤ pass.bytes + 1
  pub waiting : IsWaiting pass.bytes pass.waiting

-- the same in a run
pub record HasRun (pass : Pass2) (t : TablesModel) : Type 0 where
  pub ready : TablesInvariant pass t
  pub run : IsRun pass.run (node_count t)
  pub room : length t.faults + lexeme_symbols pass.run ≤ pass.read
  pub names : pass.known + lexeme_symbols pass.run ≤ 60 + pass.read

-- these symbols end a text, whatever stands before them
abbrev pub Closes : List Symbol → Type 0
Closes list = (before : Bool) → ends_with before list ≡ true

-- so many symbols were taken; no more are written or wait, and those that are written are letters of text 2
pub record PassInvariant (pass : Pass2) (t : TablesModel) (read written : List Symbol) : Type 0 where
  pub run : HasRun pass t
  pub taken : pass.read ≡ length read
  pub few : length written + symbols_pending pass ≤ length read
  pub letters : All (IsWritable pass.bytes) written
  pub inner : ends (symbols_of pass.waiting) ≡ 0
  pub same_ends : ends written ≡ ends read
  pub last : ends_with false read ≡ true → (ends_with false written ≡ true) × (symbols_pending pass ≡ 0)
  pub follows : All IsSpelled read → Follows pass t read written

-- no more symbols are written than were taken, and they are letters of text 2; where the end is last and
-- nowhere else in what was taken, so it is in what was written; where all letters and digits are spelled, they are what
-- the definition assembles of those that were taken, and the faults are its faults
pub record Relates (pass : Pass2) (t : TablesModel) (read written : List Symbol) : Type 0 where
  pub few : length written ≤ length read
  pub letters : All (IsWritable pass.bytes) written
  pub ended : IsEnded read → IsEnded written
  pub exact : All IsSpelled read → IsExact t read written

-- letters of text 1, at most one for each byte and one for the end
pub record IsTextOne (bytes : ℕ) (list : List Symbol) : Type 0 where
  pub letters : All (λ s. IsTrue (stands_in 1 s.tag)) list
  pub few : length list ≤ bytes + 1
