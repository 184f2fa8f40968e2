-- What an order does to the registers and to the frames, whatever it is: where it may go on, and that an order that isn't
-- allowed changes nothing.
use Rattle.std.specs.Prelude.{◌≡◌, ◌≤◌, ℕ, length, Result, Err, IfOk}
use Rattle.gier_frames.specs.State.{State}
use Rattle.gier_exec.specs.Registers.{Registers, PreservesPlace, Progresses, weight}
use Rattle.gier_exec.specs.declared.stop.Stop.{Stop}
use Rattle.gier_exec.specs.declared.stop.Stop.TheVariants.{Odd}

-- The order leaves the place and the size of the stack, and gives an address of the object at which the run can go on.
pub record Obeys {E : Type 0} (odd : E) (words : ℕ) (old new : Registers) (before after : State) (result : Result ℕ E)
    : Type 0 where
  pub keeps : PreservesPlace old new
  pub goes : IfOk result (λ next. Progresses words old next new)
  pub size : length after.words ≡ length before.words
  pub same : result ≡ Err odd → (new ≡ old) × (after ≡ before)

-- The order goes on with the next one: it leaves the place and the size of the stack, and raises no weight.
pub record ObeysInPlace {A : Type 0} (old new : Registers) (before after : State) (result : Result A Stop) : Type 0 where
  pub keeps : PreservesPlace old new
  pub lighter : weight new ≤ weight old
  pub size : length after.words ≡ length before.words
  pub same : result ≡ Err Odd → (new ≡ old) × (after ≡ before)
