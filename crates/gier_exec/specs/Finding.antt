-- What the words of the object tell of an activation that is to be entered.
use Rattle.std.specs.Prelude.{◌≡◌, ◌<◌, ℕ, true}
use Rattle.gier_order.specs.Codes.{IsOrder}
use Rattle.gier_names.specs.Evaluations.{is_thunk}
use Rattle.gier_exec.specs.declared.activations.Evaluation.{Evaluation}

-- an evaluation of a THUNK whose first order is in an object with so many words
pub record IsFound (words : ℕ) (found : Evaluation) : Type 0 where
  pub thunk : IsOrder found.thunk
  pub kind : is_thunk found.thunk ≡ true
  pub next : found.next < words
