-- What is needed to turn a text and drive a pass over it, and what that leaves of the output.
use Rattle.std.specs.Prelude.{◌≡◌, ◌≤◌, ℕ, false}
use Rattle.gier_text.specs.View.{View, IsEmpty, Apart}

-- an input that isn't turned yet and an empty output, each in the room of the store, with no track in common
pub record CanDrive {T S : Type 0} (view : T → S → View) (first end : T → ℕ) (room : S → ℕ) (input output : T)
    (store : S) : Type 0 where
  pub writing : (view input store).rewound ≡ false
  pub blank : IsEmpty (view output store)
  pub input_placed : end input ≤ room store
  pub output_placed : end output ≤ room store
  pub are_apart : Apart (first input) (end input) (first output) (end output)

-- more may be written, up to the same capacity
pub record GoesOn (old new : View) : Type 0 where
  pub writing : new.rewound ≡ false
  pub capacity : new.capacity ≡ old.capacity
