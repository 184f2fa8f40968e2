-- The law: the flat run of a program's code tells what its meaning with environments tells.
use Rattle.std.specs.Prelude.{◌<◌, ◌^◌, ℕ, List}
use Rattle.gier_order.specs.Flat.Run.{flat}
use Rattle.gier_tree.specs.Hoist.{hoist}
use Rattle.gier_tree.specs.Object.{code}
use Rattle.gier_tree.specs.Text7.{text7}
use Rattle.gier_tree.specs.Trees.{Program}
use Rattle.gier_env.specs.Meaning.{meaning}
use Rattle.gier_flat.specs.Alike.{TellsTheSame}
use Rattle.gier_flat.specs.Premises.{Premises}

-- a run begins at the first word, with these data, so many permitted steps, and so many words of stack
abbrev pub RunIsMeaning : Type 0
RunIsMeaning =
    (t : Program) → Premises (hoist t) → (input : List ℕ) (steps size : ℕ) → size < 2 ^ 24
    → TellsTheSame (text7 t) (flat (code t) 0 input steps size) (meaning size (hoist t) input steps)
