-- The live activations, from the innermost outward, as a report of a stopped run shows them.
use Rattle.std.specs.Prelude.{◌+◌, ◌-◌, ◌/◌, ◌==◌, ◌&&◌, ◌||◌, ℕ, zero, suc, nat_lt, nat_le, if◌then◌else◌, List, [], ◌∷◌}
use Rattle.std.specs.Prelude.{slice_index}
use Rattle.gier_frames.specs.State.{State}
use Rattle.gier_frames.specs.declared.stop.Shape.{Shape}
use Rattle.gier_frames.specs.declared.stop.Shape.TheVariants.{Program, Block, Procedure, Evaluation}
use Rattle.gier_frames.specs.declared.stop.Activation.{Activation}

-- The outermost is the first whose base before it isn't below its own. A procedure or an evaluation is known by its
-- mark, and an evaluation by the level 0.
abbrev pub shape_at : List ℕ → List ℕ → ℕ → Shape
shape_at words marks base =
    if nat_le base (slice_index words base) then Program
    else (if slice_index marks base == 0 then Block else (if slice_index words (base + 1) / 16777216 == 0 then Evaluation
    else Procedure))

-- the order to return to, where it is from 1 to 2^32 - 1, and else the last of these
abbrev pub return_at : ℕ → ℕ
return_at word = if nat_le 1 word && nat_lt word 4294967296 then word else 4294967295

abbrev pub back_at : List ℕ → List ℕ → ℕ → ℕ
back_at words marks base = if nat_le base (slice_index words base) || (slice_index marks base == 0) then 0
    else return_at (slice_index words (base + 3))

-- the activation at a base, whose words end at `top`
abbrev pub activation_at : List ℕ → List ℕ → ℕ → ℕ → Activation
activation_at words marks top base = record {
  shape = shape_at words marks base;
  words = top - base;
  back = back_at words marks base;
}

-- the activation at a base and those before it; bases fall, so one more look than the base's number is enough
abbrev pub activations_from : ℕ → List ℕ → List ℕ → ℕ → ℕ → List Activation
activations_from zero words marks top base = []
activations_from (suc looks) words marks top base =
    activation_at words marks top base ∷ (if nat_le base (slice_index words base) then []
    else activations_from looks words marks base (slice_index words base))

-- how many these are
abbrev pub number_from : ℕ → List ℕ → ℕ → ℕ
number_from zero words base = 0
number_from (suc looks) words base = suc (if nat_le base (slice_index words base) then 0
    else number_from looks words (slice_index words base))

-- all live activations
abbrev pub activations : State → List Activation
activations s = if s.entered then activations_from (suc s.base) s.words s.marks s.top s.base else []
