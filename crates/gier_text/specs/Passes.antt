-- What a pass does with the symbols that it takes, and why it stops.
use Rattle.std.specs.Prelude.{◌≡◌, ◌<◌, ◌++◌, ◌∷◌, ◌⊎◌, ℕ, List, [], length, Some, Result, Ok, Err}
use Rattle.gier_drum.specs.declared.drum.Entry.{Entry}
use Rattle.gier_symbol.specs.declared.symbol.Symbol.{Symbol}
use Rattle.gier_text.specs.declared.pass.PassStop.{PassStop}
use Rattle.gier_text.specs.declared.pass.PassStop.TheVariants.{Drum, Memory, Full, Spoilt}
use Rattle.gier_text.specs.View.{View}

-- some symbols were taken and some written, and what was written is all that the output holds
pub record InvariantHolds (stands : List Symbol → List Symbol → Type 0) (out : View) : Type 0 where
  pub read : List Symbol
  pub written : List Symbol
  pub so_far : stands read written
  pub counted : out.count ≡ length written

-- the symbols that were taken, and these, begin a list that the pass expects
pub record Expected (stands : List Symbol → List Symbol → Type 0) (expects : List Symbol → Type 0) (out : View)
    (more : List Symbol) : Type 0 where
  pub read : List Symbol
  pub written : List Symbol
  pub rest : List Symbol
  pub so_far : stands read written
  pub counted : out.count ≡ length written
  pub expected : expects (read ++ more ++ rest)

-- the symbols that were taken are a list that the pass expects
pub record ExpectedWhole (stands : List Symbol → List Symbol → Type 0) (expects : List Symbol → Type 0) (out : View) : Type 0 where
  pub read : List Symbol
  pub written : List Symbol
  pub so_far : stands read written
  pub counted : out.count ≡ length written
  pub expected : expects read

-- the text may hold fewer symbols than these
abbrev pub HasLess : View → ℕ → Type 0
HasLess text most = (capacity : ℕ) × (text.capacity ≡ Some capacity) × (capacity < most)

-- the answer is Spoilt only where this holds
abbrev pub SpoiltIf : {T : Type 0} → Result T PassStop → Type 0 → Type 0
SpoiltIf (Ok x) P = Unit {0}
SpoiltIf (Err Drum) P = Unit {0}
SpoiltIf (Err Memory) P = Unit {0}
SpoiltIf (Err Full) P = Unit {0}
SpoiltIf (Err (Spoilt odd)) P = P

-- two lists of entries, one entry now of the one and now of the other
abbrev pub Mixed : List Entry → List Entry → List Entry → Type 0
Mixed reads writes [] = (reads ≡ []) × (writes ≡ [])
Mixed reads writes (entry ∷ entries) = ((rest : List Entry) × (reads ≡ entry ∷ rest) × Mixed rest writes entries)
    ⊎ ((rest : List Entry) × (writes ≡ entry ∷ rest) × Mixed reads rest entries)
