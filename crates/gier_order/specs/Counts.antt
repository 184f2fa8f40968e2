-- What `Recent` keeps, and which list of references it stands for.
use Rattle.std.specs.Prelude.{◌≡◌, ◌+◌, ◌≤◌, ℕ, List, length, drop, sum}
use Rattle.gier_order.specs.Misses.{misses, most_recent}

-- `recent` are the tracks referred to last, `hits` has for each place of that list the number of references that found
-- their track there, and `far` is the number of all other references
pub record Counts : Type 0 where
  pub recent : List ℕ
  pub hits : List ℕ
  pub far : ℕ

-- how many references were taken
abbrev pub references_taken : Counts → ℕ
references_taken counts = counts.far + sum counts.hits

-- how many of them missed with so many places
abbrev pub misses_at : Counts → ℕ → ℕ
misses_at counts places = counts.far + sum (drop places counts.hits)

pub record StandsFor (counts : Counts) (refs : List ℕ) : Type 0 where
  pub all : references_taken counts ≡ length refs
  pub latest : counts.recent ≡ most_recent 64 refs
  pub misses_of : (places : ℕ) → places ≤ 64 → misses_at counts places ≡ length (misses refs places)
