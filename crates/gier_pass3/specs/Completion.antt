-- What a fault of structure is, said by programs: it stands at the first symbol with which no program goes on. And of which
-- symbols a
-- program is built.
use Rattle.std.specs.Prelude.{◌≡◌, ℕ, List, [], ◌∷◌, ◌++◌, None, Some}
use Rattle.gier_symbol.specs.declared.symbol.Symbol.{Symbol}
use Rattle.gier_tree.specs.Signs.{STextEnd, sign_of}
use Rattle.gier_tree.specs.Trees.{Program}
use Rattle.gier_tree.specs.Structure.{IsWritten, IsPrefix, IsStructureFault, structure_fault, program_spelled}

pub record IsCompletion : Type 0 where
  -- the fault that is found is one, and each is found
  pub fault : (symbols : List Symbol) (line : ℕ) → structure_fault symbols ≡ Some line → IsStructureFault symbols line
  pub only : (symbols : List Symbol) (line : ℕ) → IsStructureFault symbols line → structure_fault symbols ≡ Some line
  -- symbols have no fault where a program begins with them, and nowhere else
  pub none : (symbols : List Symbol) → IsPrefix symbols → structure_fault symbols ≡ None
  pub completion : (symbols : List Symbol) → structure_fault symbols ≡ None → IsPrefix symbols
  -- where they also end with the end of the text, a program is built of them
  pub program : (before : List Symbol) (end : Symbol) → sign_of end ≡ STextEnd
      → structure_fault (before ++ end ∷ []) ≡ None → (t : Program) × (program_spelled (before ++ end ∷ []) ≡ Some t)
  -- and a program that is built of symbols is spelled as they are
  pub spelled : (symbols : List Symbol) (t : Program) → program_spelled symbols ≡ Some t → IsWritten t symbols
