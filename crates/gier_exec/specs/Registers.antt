-- The registers of the machine, and the number that falls with each order that lets a run go on.
use Rattle.std.specs.Prelude.{◌≡◌, ◌+◌, ◌-◌, ◌*◌, ◌<◌, ◌≤◌, ◌^◌, ℕ}

-- the place of the next order, R, Q, the number of activations entered and not left by a return, and the steps left
pub record Registers : Type 0 where
  pub place : ℕ
  pub r : ℕ
  pub q : ℕ
  pub depth : ℕ
  pub steps : ℕ

-- at the first order
abbrev pub first_registers : ℕ → ℕ → Registers
first_registers start steps = record { place = start; r = 0; q = 0; depth = 0; steps = steps }

-- R and Q are words, and the depth never passes what a register of 64 bits holds
pub record AreWords (m : Registers) : Type 0 where
  pub r_small : m.r < 2 ^ 40
  pub q_small : m.q < 2 ^ 40
  pub few : m.depth + m.steps < 2 ^ 64

-- an entry costs a step and raises the depth by 1, a return lowers the depth, and no order raises this
abbrev pub weight : Registers → ℕ
weight m = 2 * m.steps + m.depth

-- An order that doesn't go forward lowers the weight, and every other one goes forward in an object with so many words.
abbrev pub measure : ℕ → Registers → ℕ
measure words m = (2 * m.steps + m.depth) * (words + 1) + (words - m.place)

-- what every order leaves: the place, and no more steps than there were
pub record PreservesPlace (old new : Registers) : Type 0 where
  pub place : new.place ≡ old.place
  pub steps : new.steps ≤ old.steps

-- the run can go on there, and the measure falls
pub record Progresses (words : ℕ) (old : Registers) (next : ℕ) (new : Registers) : Type 0 where
  pub within : next < words
  pub falls : measure words (record new { place = next }) < measure words old
