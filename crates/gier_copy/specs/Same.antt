-- What it is that both definitions of the meaning are equal.
use Rattle.std.specs.Prelude.{◌≡◌, ℕ, List}
use Rattle.gier_tree.specs.Trees.{Program}
use Rattle.gier_meaning.specs.Meaning.{meaning}
use Rattle.gier_env.specs.Meaning.{meaning as env_meaning}

-- of each program, with all data, permitted steps and words, they tell the same six parts
abbrev pub AreSame : Type 0
AreSame = (limit : ℕ) (program : Program) (unread : List ℕ) (permitted : ℕ)
    → meaning limit program unread permitted ≡ env_meaning limit program unread permitted
