-- What the pass keeps while it takes symbols, and what holds at its end.
use Rattle.std.specs.Prelude.{◌≡◌, ◌<◌, ◌≤◌, ◌+◌, ◌*◌, ◌^◌, ℕ, List, All, IsTrue, Option, None, Some}
use Rattle.gier_symbol.specs.declared.symbol.Symbol.{Symbol}
use Rattle.gier_text.specs.TablesModel.{TablesModel}
use Rattle.gier_text.specs.Potential.{is_number_in, potential}
use Rattle.gier_pass4.specs.declared.owns.Frame.{Frame}
use Rattle.gier_pass4.specs.declared.owns.Frame.TheVariants.{Nothing, Whole, Beginning}
use Rattle.gier_pass4.specs.declared.owns.Owned.{Owned}
use Rattle.gier_pass4.specs.declared.owns.Owned.TheVariants.{Yes}
use Rattle.gier_pass4.specs.declared.pass.Pass4.{Pass4}
use Rattle.gier_pass4.specs.Kinds.{procedure_of}
use Rattle.gier_pass4.specs.Lists.{HasLists, IsLetter, potential_stored}

-- the number of an identifier of the program or of an own quantity
abbrev pub IsName : ℕ → ℕ → Type 0
IsName bytes n = (n < 2 ^ 40) × IsTrue (is_number_in 4 bytes n)

abbrev pub IsNameIn : ℕ → Option ℕ → Type 0
IsNameIn bytes None = Unit {0}
IsNameIn bytes (Some n) = IsName bytes n

-- how many symbols of the block around the program are still to be written
abbrev pub rest_of : Frame → ℕ
rest_of Nothing = 0
rest_of (Whole line) = 4
rest_of Beginning = 2

-- the line of the end of the block around the program
abbrev pub HasLine : Frame → Type 0
HasLine (Whole line) = line < 2 ^ 24
HasLine frame = Unit {0}

-- the next own quantity has an identifier, and its type a line
abbrev pub IsOwnIn : ℕ → Owned → Type 0
IsOwnIn bytes (Yes own) = IsName bytes own.fresh × (own.type_line < 2 ^ 24)
IsOwnIn bytes owned = Unit {0}

-- how many symbols the procedure's own entry will have
abbrev pub entry_of : Option ℕ → ℕ
entry_of None = 0
entry_of (Some n) = 2

-- what weighs that which is still to be written for the symbols that were taken
abbrev pub potential_held : Pass4 → TablesModel → ℕ
potential_held pass t = potential_stored t 0 + potential_stored t 1 + potential_stored t 2 + potential_stored t 3
    + potential_stored t 4 + rest_of pass.frame + entry_of (procedure_of pass.place)

-- what the fields say fits texts
pub record HasFields (pass : Pass4) : Type 0 where
  pub frame : HasLine pass.frame
  pub owned : IsOwnIn pass.lists.bytes pass.owned
  pub procedure : IsNameIn pass.lists.bytes (procedure_of pass.place)

-- the lists have room for what the symbols that were taken come to, and for so much more as the last one weighs
pub record StateInvariant (pass : Pass4) (t : TablesModel) (spare : ℕ) : Type 0 where
  pub lists : HasLists pass.lists.bytes t
  pub fields : HasFields pass
  pub few : pass.taken ≤ 8 * pass.lists.bytes + 64
  pub light : potential_held pass t + spare ≤ pass.taken
  pub entries : 4 * (potential_stored t 1 + potential_stored t 4 + entry_of (procedure_of pass.place)) + 3 * spare ≤ 3 * pass.taken
  pub own_entries : 2 * potential_stored t 2 + spare ≤ pass.taken
  pub formals : 4 * potential_stored t 4 + spare ≤ pass.taken

-- a symbol of this weight was worked off
pub record PreservesState (w : ℕ) (old : Pass4) (t : TablesModel) (new : Pass4) (u : TablesModel) : Type 0 where
  pub ready : StateInvariant new u 0
  pub light : potential_held new u ≤ potential_held old t + w
  pub bytes : new.lists.bytes ≡ old.lists.bytes
  pub taken : new.taken ≡ old.taken
  pub limit : u.limit ≡ t.limit

-- so much was taken; what was written are letters of text 4, and together with what is still to be written they aren't heavier
pub record PassInvariant (pass : Pass4) (t : TablesModel) (read written : List Symbol) : Type 0 where
  pub taken : pass.taken ≡ potential 3 read
  pub ready : StateInvariant pass t 0
  pub light : potential 4 written + potential_held pass t ≤ pass.taken
  pub letters : All (IsLetter pass.lists.bytes) written
