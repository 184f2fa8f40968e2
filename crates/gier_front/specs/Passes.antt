-- What a pass of the front finds and what it leaves.
use Rattle.std.specs.Prelude.{◌≡◌, ◌≤◌, ◌+◌, ◌*◌, ℕ, Bool, true, false, List, [], Option, None, Some, Result, Ok, Err, length}
use Rattle.std.specs.Prelude.{All, IsTrue}
use Rattle.gier_front.specs.declared.stop.FrontStop.{FrontStop}
use Rattle.gier_front.specs.declared.stop.FrontStop.TheVariants.{Errors, Read, Drum, Spoilt}
use Rattle.gier_symbol.specs.declared.symbol.Symbol.{Symbol}
use Rattle.gier_symbol.specs.Texts.{stands_in}
use Rattle.gier_text.specs.Potential.{is_numbered}
use Rattle.gier_text.specs.TablesModel.{TablesModel}

-- the list is told, and is of this kind
abbrev pub IsToldAs : (List Symbol → Type 0) → Option (List Symbol) → Type 0
IsToldAs P None = ⊥
IsToldAs P (Some list) = P list

abbrev pub IsNothing : List Symbol → Type 0
IsNothing list = list ≡ []

-- the tables hold no fault, and are for programs of at least so many bytes
pub record AreClean (bytes : ℕ) (t : TablesModel) : Type 0 where
  pub faults : t.faults ≡ []
  pub limit : bytes ≤ t.limit

-- text 2: letters of it with small numbers of identifiers, at most one for each byte and one for the end
pub record IsTextTwo (bytes : ℕ) (list : List Symbol) : Type 0 where
  pub letters : All (λ s. IsTrue (stands_in 2 s.tag)) list
  pub numbered : All (λ s. IsTrue (is_numbered 2 bytes s)) list
  pub few : length list ≤ bytes + 1

-- the pass over a program of so many bytes went to its end, and these symbols stand in its output
pub record Drives {P T : Type 0} (bytes_of : P → ℕ)
    (relates : P → T → List Symbol → List Symbol → Type 0) (bytes : ℕ) (read : List Symbol) (tables : T)
    (held : Option (List Symbol)) : Type 0 where
  pub pass : P
  pub written : List Symbol
  pub same : bytes_of pass ≡ bytes
  pub related : relates pass tables read written
  pub there : held ≡ Some written

-- it did so unless a device failed or something was refused
abbrev pub IfDriven : {T : Type 0} → Result T FrontStop → Type 0 → Type 0
IfDriven (Ok x) told = told
IfDriven (Err Errors) told = told
IfDriven (Err Read) told = Unit {0}
IfDriven (Err Drum) told = Unit {0}
IfDriven (Err (Spoilt odd)) told = Unit {0}
