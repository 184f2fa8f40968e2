-- What one symbol does.
use Rattle.std.specs.Prelude.{◌≡◌, ◌≤◌, ◌+◌, List, [], ◌∷◌, All, Option, None, Some, IsTrue}
use Rattle.gier_symbol.specs.declared.symbol.Symbol.{Symbol}
use Rattle.gier_text.specs.Potential.{potential, potential_of, is_numbered}
use Rattle.gier_text.specs.TablesModel.{TablesModel}
use Rattle.gier_text.specs.Outbox.{outbox_symbols}
use Rattle.gier_pass5.specs.declared.pass.Pass5.{Pass5}
use Rattle.gier_pass5.specs.Letters.{IsWritable}
use Rattle.gier_pass5.specs.Lists.{out_of}
use Rattle.gier_pass5.specs.Invariant.{StateInvariant, IsHeldNumbered, potential_held}

-- a description has its entry before it, if one was held
abbrev pub entry_and_description : Option Symbol → Symbol → List Symbol
entry_and_description None s = s ∷ []
entry_and_description (Some entry) s = entry ∷ s ∷ []

-- fields and tables are ready again, and these symbols wait
pub record Takes (pass : Pass5) (t : TablesModel) (new : Pass5) (u : TablesModel) (symbols : List Symbol) : Type 0 where
  pub ready : StateInvariant new u
  pub limit : u.limit ≡ t.limit
  pub waits : outbox_symbols (out_of u) ≡ symbols
  pub bytes : new.bytes ≡ pass.bytes
  pub taken : new.taken ≡ pass.taken

-- what waits then are letters of text 5; with the entry that is held they weigh no more than the symbol and what was held, and
-- their numbers of identifiers are as small
pub record Steps (pass : Pass5) (t : TablesModel) (s : Symbol) (new : Pass5) (u : TablesModel) : Type 0 where
  pub ready : StateInvariant new u
  pub limit : u.limit ≡ t.limit
  pub bytes : new.bytes ≡ pass.bytes
  pub taken : new.taken ≡ pass.taken + potential_of 4 s.tag
  pub letters : All IsWritable (outbox_symbols (out_of u))
  pub light : potential 5 (outbox_symbols (out_of u)) + potential_held new.entry ≤ potential_held pass.entry + potential_of 4 s.tag
  pub numbered : IsTrue (is_numbered 4 pass.bytes s) → IsHeldNumbered pass.bytes pass.entry
      → All (λ x. IsTrue (is_numbered 5 pass.bytes x)) (outbox_symbols (out_of u)) × IsHeldNumbered pass.bytes new.entry
