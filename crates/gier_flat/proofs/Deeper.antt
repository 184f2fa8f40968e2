-- What is entered runs as its meaning says, by induction on the permitted steps: a step was charged for each entry.
use Rattle.std.proofs.Common.{◌≡◌, ℕ, zero, suc, ◌<◌, subst, arith, inl, inr, ◌⊎◌, ⊎_elim}
use Rattle.gier_tree.specs.Places.{Places}
use Rattle.gier_tree.specs.Text7.{code_group}
use Rattle.gier_tree.specs.Texts.{Where}
use Rattle.gier_tree.specs.Trees as tree
use Rattle.gier_meaning.specs.Live.{Live}
use Rattle.gier_meaning.specs.Plain.{group}
use Rattle.gier_env.specs.Env.{Env}
use Rattle.gier_env.specs.Meaning.{within}
use Rattle.gier_env.specs.Statements.{run}
use Rattle.gier_flat.specs.Fair.{FairGroup}
use Rattle.gier_flat.proofs.Setting.{Setting}
use Rattle.gier_flat.proofs.NextRuns.{AreWithin, RunsStatement, NextRuns, BlockRuns, RestRuns}
use Rattle.gier_flat.proofs.Scopes.{scope_runs, rest_runs}
use Rattle.gier_flat.proofs.BlockRuns.{ScopeRuns}
use Rattle.gier_flat.proofs.DeclaredBlock as block

apart : (j n : ℕ) → j < suc n → (j < n) ⊎ (n ≡ j)
apart zero zero lt = inr (omega arith)
apart zero (suc n) lt = inl (omega arith)
apart (suc j) zero lt = absurd (omega (arith, lt))
apart (suc j) (suc n) lt = ⊎_elim (λ a. inl (omega (arith, a))) (λ a. inr (omega (arith, a))) (apart j n (omega (arith, lt)))

module _ (setting : Setting) where
  abbrev Before : ℕ → Type 1
  Before n = (j : ℕ) → j < n → NextRuns setting j (within setting.size j)

  module _ (n : ℕ) (before : Before n) (p : Places) (at : Where) (below : AreWithin p at.level) (l : ℕ) (d : tree.Declaration) (mark : ℕ) (ds : tree.Declarations) (b : tree.Statement) (bs : tree.Statements) (end : ℕ) (f : FairGroup p at (tree.MkBlock l d mark ds b bs end)) where
    -- the statements of a block, where a step was charged for it
    within_block : (k : ℕ) → k < n → ScopeRuns setting k (block.q setting p at l d mark ds b bs end f.0 below) (block.inside setting p at l d mark ds b bs end f.0 below) (tree.MoreStatements mark b bs) (suc at.level)
    within_block k lt env lives own K w m s st go le h sc stands here =
        scope_runs setting env (block.q setting p at l d mark ds b bs end f.0 below) lives (within setting.size k) k (before k lt) (block.inside setting p at l d mark ds b bs end f.0 below)
        (block.places_within setting p at l d mark ds b bs end f.0 below) own (tree.MoreStatements mark b bs) (f.1, f.2) (suc at.level) K w m s st go le h sc stands here

    a_block : (env : Env) (lives : Live) (level : ℕ) → RunsStatement setting n env p lives 0 (code_group p at (tree.MkBlock l d mark ds b bs end) level) (λ st. run setting.size (within setting.size n) (group (tree.MkBlock l d mark ds b bs end)) env lives st)
    a_block env lives level K w m s st go le h stands here =
        block.block_follows setting p at l d mark ds b bs end f.0 below n level within_block env lives K w 0 m s st go le h stands here

  blocks : (n : ℕ) → Before n → BlockRuns setting n (within setting.size n)
  blocks n before env p lives at below l d mark ds b bs end f level = a_block n before p at below l d mark ds b bs end f env lives level

  rests : (n : ℕ) → Before n → RestRuns setting n (within setting.size n)
  rests zero before env p lives at below ss f level own label K w m s st go lt h sc stands is lab = absurd (omega (arith, lt))
  rests (suc k) before env p lives at below ss f level own label K w m s st go lt h sc stands is lab =
      rest_runs setting env p lives (within setting.size k) k (before k (omega arith)) at below own ss f level label K w m s st go (omega (arith, lt)) h sc stands is lab

  now : (n : ℕ) → Before n → NextRuns setting n (within setting.size n)
  now n before = record { block = blocks n before; rest = rests n before }

  from_all : (n : ℕ) → Before n → NextRuns setting n (within setting.size n) → Before (suc n)
  from_all n before last j lt = ⊎_elim (λ a. before j a) (λ e. subst (λ j. NextRuns setting j (within setting.size j)) e last) (apart j n lt)

  before : (n : ℕ) → Before n
  before zero j lt = absurd (omega (arith, lt))
  before (suc n) j lt = from_all n (before n) (now n (before n)) j lt

  pub deeper : (n : ℕ) → NextRuns setting n (within setting.size n)
  deeper n = now n (before n)
