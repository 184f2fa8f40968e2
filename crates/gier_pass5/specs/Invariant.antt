-- What the pass keeps while it takes symbols, what holds at its end, and which lists it is meant for.
use Rattle.std.specs.Prelude.{◌≡◌, ◌≤◌, ◌+◌, ◌*◌, ℕ, List, All, Option, None, Some, IfSome, IsTrue, length}
use Rattle.gier_symbol.specs.declared.symbol.Symbol.{Symbol}
use Rattle.gier_symbol.specs.declared.tag.Tag.TheVariants.{Entry}
use Rattle.gier_symbol.specs.Symbols.{IsSymbol}
use Rattle.gier_symbol.specs.Texts.{is_tag_of}
use Rattle.gier_text.specs.Potential.{potential, is_numbered}
use Rattle.gier_text.specs.TablesModel.{TablesModel}
use Rattle.gier_pass5.specs.declared.pass.Pass5.{Pass5}
use Rattle.gier_pass5.specs.Letters.{IsWritable}
use Rattle.gier_pass5.specs.Lists.{HasLists, out_of, entry_count, entry_room, scope_count, scope_room, row_count}

-- what an entry weighs whose description is still to come
abbrev pub potential_held : Option Symbol → ℕ
potential_held None = 0
potential_held (Some s) = 1

-- it is an entry
pub record IsEntry (s : Symbol) : Type 0 where
  pub symbol : IsSymbol s
  pub tag : IsTrue (is_tag_of Entry s.tag)

-- its number is that of an identifier
abbrev pub IsHeldNumbered : ℕ → Option Symbol → Type 0
IsHeldNumbered bytes entry = IfSome entry (λ s. IsTrue (is_numbered 5 bytes s))

-- fields and tables fit each other; there are no more entries and scopes than symbols were taken
pub record StateInvariant (pass : Pass5) (t : TablesModel) : Type 0 where
  pub lists : HasLists t
  pub out_room : (out_of t).capacity ≡ 3
  pub entry_room : entry_room t ≡ 4 * pass.bytes + 40
  pub scope_room : scope_room t ≡ 8 * pass.bytes + 65
  pub rows : row_count t ≡ 2 * pass.bytes + 65
  pub entries : 2 * entry_count t + potential_held pass.entry ≤ 16 + pass.taken
  pub scopes : scope_count t ≤ 1 + pass.taken
  pub within : pass.taken ≤ 8 * pass.bytes + 64
  pub faults : length t.faults ≤ pass.bytes + 1
  pub limit : pass.bytes ≤ t.limit
  pub small : t.limit ≤ 524288
  pub entry : IfSome pass.entry IsEntry

-- the same while a symbol is taken, with room for what it adds
pub record TakingInvariant (pass : Pass5) (t : TablesModel) : Type 0 where
  pub ready : StateInvariant pass t
  pub entries : 2 * entry_count t + potential_held pass.entry + 1 ≤ 16 + pass.taken
  pub scopes : scope_count t ≤ pass.taken

-- a symbol is noted that is written as it is
pub record PreservesState (pass : Pass5) (t : TablesModel) (new : Pass5) (u : TablesModel) : Type 0 where
  pub ready : StateInvariant new u
  pub limit : u.limit ≡ t.limit
  pub out : out_of u ≡ out_of t
  pub bytes : new.bytes ≡ pass.bytes
  pub taken : new.taken ≡ pass.taken
  pub entry : new.entry ≡ pass.entry

-- the symbols that were taken weigh so much; those that are written are letters of text 5, and with the entry that is held they
-- weigh no more; their numbers of identifiers are as small as those that were taken
pub record PassInvariant (pass : Pass5) (t : TablesModel) (read written : List Symbol) : Type 0 where
  pub ready : StateInvariant pass t
  pub empty : (out_of t).count ≡ 0
  pub taken : pass.taken ≡ potential 4 read
  pub light : potential 5 written + potential_held pass.entry ≤ potential 4 read
  pub letters : All IsWritable written
  pub numbered : All (λ s. IsTrue (is_numbered 4 pass.bytes s)) read → All (λ s. IsTrue (is_numbered 5 pass.bytes s)) written
      × IsHeldNumbered pass.bytes pass.entry

-- what is written has no more weight than what was taken, and is letters of text 5; its numbers of identifiers are as small
pub record Relates (pass : Pass5) (read written : List Symbol) : Type 0 where
  pub light : potential 5 written ≤ potential 4 read
  pub letters : All IsWritable written
  pub numbered : All (λ s. IsTrue (is_numbered 4 pass.bytes s)) read → All (λ s. IsTrue (is_numbered 5 pass.bytes s)) written
