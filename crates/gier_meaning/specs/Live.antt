-- The live activations of a run: what was entered and not left yet. Each has a shape and the words that it holds, and a call
-- or an evaluation also the line of what entered it. The list is passed down, so that leaving needs no word.
use Rattle.std.specs.Prelude.{ℕ, ◌+◌, List, [], ◌∷◌}

pub data Shape : Type 0 where
  InProgram InBlock : Shape
  InProcedure InEvaluation : (line : ℕ) → Shape

pub record Activation : Type 0 where
  pub shape : Shape
  pub words : ℕ

-- the innermost first
abbrev pub Live : Type 0
Live = List Activation

abbrev pub live_words : Live → ℕ
live_words [] = 0
live_words (activation ∷ outer) = activation.words + live_words outer

-- with these words, which its arrays take, the innermost activation holds more
abbrev pub with_elements : ℕ → Live → Live
with_elements n [] = []
with_elements n (activation ∷ outer) = record activation { words = activation.words + n } ∷ outer

-- where a run stopped: what was live, and the line of the construct that stopped
pub record Stop : Type 0 where
  pub live : Live
  pub line : ℕ
