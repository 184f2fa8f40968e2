-- The structure of a program: the tree whose spelling the symbols are, and the first symbol with which they are no prefix of
-- any program's spelling. Both are said by the spellings alone, and computed by the table of the grammar.
use Rattle.std.specs.Prelude.{◌≡◌, ℕ, List, [], ◌∷◌, ◌++◌, Option, None, Some}
use Rattle.gier_symbol.specs.declared.symbol.Symbol.{Symbol}
use Rattle.gier_tree.specs.Trees.{Program}
use Rattle.gier_tree.specs.Signs.{Sign, sign_of}
use Rattle.gier_tree.specs.Spell.{spell_program}
use Rattle.gier_tree.specs.Taking.{Act, Refuse, Pass, Push, act}
use Rattle.gier_tree.specs.Wanted.{Item, WantProgram, Trees}

-- the symbols are those of this program
abbrev pub IsWritten : Program → List Symbol → Type 0
IsWritten t symbols = spell_program t ≡ symbols

-- a program's spelling begins with the symbols
pub record IsPrefix (symbols : List Symbol) : Type 0 where
  pub program : Program
  pub rest : List Symbol
  pub spelled : spell_program program ≡ symbols ++ rest

-- with this symbol, behind those before it, no program's spelling begins
pub record IsStructureFault (symbols : List Symbol) (line : ℕ) : Type 0 where
  pub before : List Symbol
  pub wrong : Symbol
  pub behind : List Symbol
  pub whole : symbols ≡ before ++ wrong ∷ behind
  pub begins : IsPrefix before
  pub refused : IsPrefix (before ++ wrong ∷ []) → ⊥
  pub stands : line ≡ wrong.line

-- the items that are wanted behind a symbol
abbrev pub next_of : {T : Type 0} → Act T → List Item → Option (List Item) → Option (List Item)
next_of Refuse st below = None
next_of (Pass t) st below = below
next_of (Push is f) st below = Some (is ++ st)

abbrev pub step_sign : Sign → (line : ℕ) → List Item → Option (List Item)
step_sign s l [] = None
step_sign s l (i ∷ st) = next_of (act i s l) st (step_sign s l st)

abbrev pub step : Symbol → List Item → Option (List Item)
step s st = step_sign (sign_of s) s.line st

-- the line of the first symbol that nothing wanted takes
abbrev pub fault_on : Option (List Item) → (line : ℕ) → (List Item → Option ℕ) → Option ℕ
fault_on None line go_on = Some line
fault_on (Some st) line go_on = go_on st

abbrev pub first_refused : List Symbol → List Item → Option ℕ
first_refused [] st = None
first_refused (s ∷ w) st = fault_on (step s st) s.line (first_refused w)

-- the line of the fault of structure, where there is one
abbrev pub structure_fault : List Symbol → Option ℕ
structure_fault symbols = first_refused symbols (WantProgram ∷ [])

-- the trees that the items stand for
abbrev pub split : (is st : List Item) → Trees (is ++ st) → Trees is × Trees st
split [] st ts = (tt, ts)
split (i ∷ is) st ts = let r = split is st ts.1 in ((ts.0, r.0), r.1)

abbrev pub with_tree : {T R : Type 0} → T → Option R → Option (T × R)
with_tree t None = None
with_tree t (Some r) = Some (t, r)

abbrev pub gather : {T : Type 0} → (is st : List Item) → (Trees is → T) → Option (Trees (is ++ st)) → Option (T × Trees st)
gather is st f None = None
gather is st f (Some ts) = let r = split is st ts in Some (f r.0, r.1)

abbrev pub build_act : {T : Type 0} → Act T → (st : List Item) → ((st : List Item) → Option (Trees st)) → Option (Trees st)
    → Option (T × Trees st)
build_act Refuse st next below = None
build_act (Pass t) st next below = with_tree t below
build_act (Push is f) st next below = gather is st f (next (is ++ st))

abbrev pub build_at : Sign → (line : ℕ) → ((st : List Item) → Option (Trees st)) → (st : List Item) → Option (Trees st)
build_at s l next [] = None
build_at s l next (i ∷ st) = build_act (act i s l) st next (build_at s l next st)

abbrev pub build_end : (st : List Item) → Option (Trees st)
build_end [] = Some tt
build_end (i ∷ st) = None

-- the trees of all that is wanted, where the symbols are their spelling
abbrev pub build : List Symbol → (st : List Item) → Option (Trees st)
build [] st = build_end st
build (s ∷ w) st = build_at (sign_of s) s.line (build w) st

abbrev pub first_tree : {T : Type 0} → Option (T × Unit {0}) → Option T
first_tree None = None
first_tree (Some r) = Some r.0

-- the program whose spelling the symbols are, where there is one
abbrev pub program_spelled : List Symbol → Option Program
program_spelled symbols = first_tree (build symbols (WantProgram ∷ []))

-- there is at most one such program, and it is found
pub record IsUnique : Type 0 where
  pub equal : (t u : Program) → spell_program t ≡ spell_program u → t ≡ u
  pub read : (t : Program) → program_spelled (spell_program t) ≡ Some t
