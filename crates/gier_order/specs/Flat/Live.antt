-- The live activations where a flat run stops, the innermost first.
use Rattle.std.specs.Prelude.{◌+◌, ◌-◌, ◌==◌, ◌&&◌, ℕ, zero, suc, true, false, nat_lt, nat_le, if◌then◌else◌, List, [], ◌∷◌}
use Rattle.gier_order.specs.Flat.Region.{level_in}
use Rattle.gier_order.specs.Flat.Row.{Regs}

pub data Shape : Type 0 where
  Program : Shape
  Block : Shape
  Procedure : Shape
  Evaluation : Shape

-- the shape, how many words, and for a procedure or an evaluation the address of the order that entered it, else 0
pub record Live : Type 0 where
  pub shape : Shape
  pub words : ℕ
  pub entered_by : ℕ

-- The outermost activation is the first whose base before it isn't below its own.
abbrev pub shape_at : (ℕ → ℕ) → (ℕ → ℕ) → ℕ → Shape
shape_at words marks base =
    if nat_le base (words base) then Program
    else (if marks base == 0 then Block else (if level_in (words (base + 1)) == 0 then Evaluation else Procedure))

-- the order before the one to return to, which has an address from 1 to 2^32 - 1, or counts as the last of these
abbrev pub before : ℕ → ℕ
before back = if nat_le 1 back && nat_lt back 4294967296 then back - 1 else 4294967294

abbrev pub entered_at : Shape → ℕ → ℕ
entered_at Program back = 0
entered_at Block back = 0
entered_at Procedure back = before back
entered_at Evaluation back = before back

abbrev pub live_at : (ℕ → ℕ) → (ℕ → ℕ) → (top base : ℕ) → Live
live_at words marks top base =
    record {
      shape = shape_at words marks base;
      words = top - base;
      entered_by = entered_at (shape_at words marks base)
          (words (base + 3));
    }

-- the activation at a base, whose words end at `top`, and those before it; bases fall, so one more look than the base's
-- number is enough
abbrev pub live_from : (looks : ℕ) → (ℕ → ℕ) → (ℕ → ℕ) → (top base : ℕ) → List Live
live_from zero words marks top base = []
live_from (suc looks) words marks top base =
    live_at words marks top base
    ∷ elim (nat_le base (words base)) as (λ _. List Live) [
      | true ↦ []
      | false ↦ live_from looks words marks base (words base)
    ]

-- all of them; none where there is no activation yet
abbrev pub live_in : Regs → List Live
live_in m = if m.started then live_from (suc m.base) m.words m.marks m.top m.base else []
