use Rattle.std.proofs.Common.{◌≡◌, ◌<◌, ◌≤◌, ℕ, get_or, replicate, arith, inl, inr, ◌⊎◌}
use Rattle.std.proofs.lemmas.List.{get_or-replicate, get_or_past, length-replicate}
use Rattle.gier_drum.proofs.sparse_index.blank.Goals as goal

zeros_at : (n k : ℕ) → get_or (replicate {A = ℕ} n 0) k 0 ≡ 0
zeros_at n k = elim (lt_or k n) [
  | inl lt ↦ get_or-replicate n k 0 0 lt
  | inr le ↦ get_or_past (replicate n 0) k 0 (omega (arith, length-replicate {A = ℕ} n 0))
]
  where
    lt_or : (k n : ℕ) → (k < n) ⊎ (n ≤ k)
    lt_or k n = grind arith

pub returns-clause-zeros : goal.returns-clause-zeros
returns-clause-zeros c = zeros_at 256
