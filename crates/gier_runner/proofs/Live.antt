-- The activations that the frames tell are those of the flat run.
use Rattle.std.specs.Prelude.{◌≡◌, ◌+◌, ◌-◌, ◌/◌, ◌==◌, ◌&&◌, ◌||◌, ℕ, zero, suc, Bool, true, false, nat_lt, nat_le, if◌then◌else◌, List, [], ◌∷◌, map, slice_index}
use Rattle.std.proofs.Common.{refl, ap, ◌∙◌}
use Rattle.gier_frames.specs.State.{State}
use Rattle.gier_frames.specs.Stop.{activation_at, activations_from, activations, return_at}
use Rattle.gier_frames.specs.declared.stop.Activation.{Activation}
use Rattle.gier_frames.specs.declared.stop.Shape.{Shape}
use Rattle.gier_frames.specs.declared.stop.Shape.TheVariants.{Program, Block, Procedure, Evaluation}
use Rattle.gier_order.specs.Flat.Live.{Live, Shape as FlatShape, Program as OfProgram, Block as OfBlock, Procedure as OfProcedure, Evaluation as OfEvaluation, live_at, live_from, live_in, before, entered_at}
use Rattle.gier_exec.specs.Registers.{Registers}
use Rattle.gier_exec.specs.Rows.{regs_of}
use Rattle.gier_runner.specs.Live.{live_of}

before_by : (back : ℕ) (is : Bool) → (if is then back - 1 else 4294967294) ≡ (if is then back else 4294967295) - 1
before_by back true = refl
before_by back false = refl

before_is : (back : ℕ) → before back ≡ return_at back - 1
before_is back = before_by back (nat_le 1 back && nat_lt back 4294967296)

-- by what the frames ask of a base: whether it is outermost, whether it has no mark, and whether its level is 0
abbrev shape_by : (outermost unmarked level_0 : Bool) → Shape
shape_by outermost unmarked level_0 = if outermost then Program else (if unmarked then Block else (if level_0 then Evaluation else Procedure))

abbrev flat_shape_by : (outermost unmarked level_0 : Bool) → FlatShape
flat_shape_by outermost unmarked level_0 = if outermost then OfProgram else (if unmarked then OfBlock else (if level_0 then OfEvaluation else OfProcedure))

live_by : (width back : ℕ) (outermost unmarked level_0 : Bool)
    → record { shape = flat_shape_by outermost unmarked level_0; words = width; entered_by = entered_at (flat_shape_by outermost unmarked level_0) back }
    ≡ live_of (record { shape = shape_by outermost unmarked level_0; words = width; back = if outermost || unmarked then 0 else return_at back })
live_by width back true unmarked level_0 = refl
live_by width back false true level_0 = refl
live_by width back false false true = ap (λ n. record { shape = OfEvaluation; words = width; entered_by = n }) (before_is back)
live_by width back false false false = ap (λ n. record { shape = OfProcedure; words = width; entered_by = n }) (before_is back)

live_at_is : (words marks : List ℕ) (top base : ℕ)
    → live_at (slice_index words) (slice_index marks) top base ≡ live_of (activation_at words marks top base)
live_at_is words marks top base =
    live_by (top - base) (slice_index words (base + 3)) (nat_le base (slice_index words base)) (slice_index marks base == 0) (slice_index words (base + 1) / 16777216 == 0)

outer_by : (outermost : Bool) (xs : List Live) (ys : List Activation) → xs ≡ map live_of ys
    → elim outermost as (λ _. List Live) [ true ↦ [] | false ↦ xs ] ≡ map live_of (if outermost then [] else ys)
outer_by true xs ys e = refl
outer_by false xs ys e = e

live_from_is : (looks : ℕ) (words marks : List ℕ) (top base : ℕ)
    → live_from looks (slice_index words) (slice_index marks) top base ≡ map live_of (activations_from looks words marks top base)
live_from_is zero words marks top base = refl
live_from_is (suc looks) words marks top base =
    ap (λ live. live ∷ elim (nat_le base (slice_index words base)) as (λ _. List Live) [ true ↦ [] | false ↦ live_from looks (slice_index words) (slice_index marks) base (slice_index words base) ]) (live_at_is words marks top base)
    ∙ ap (λ outer. live_of (activation_at words marks top base) ∷ outer) (outer_by (nat_le base (slice_index words base)) _ _ (live_from_is looks words marks base (slice_index words base)))

entered_by : (entered : Bool) (xs : List Live) (ys : List Activation) → xs ≡ map live_of ys
    → (if entered then xs else []) ≡ map live_of (if entered then ys else [])
entered_by true xs ys e = e
entered_by false xs ys e = refl

pub live_is : (m : Registers) (s : State) (input : List ℕ) → live_in (regs_of m s input) ≡ map live_of (activations s)
live_is m s input = entered_by s.entered _ _ (live_from_is (suc s.base) s.words s.marks s.top s.base)
