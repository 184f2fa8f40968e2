-- What is said of a block's run, and what of its statements' run it is proved from.
use Rattle.std.proofs.Common.{◌≡◌, ℕ, ◌≤◌, List}
use Rattle.gier_tree.specs.Orders as code
use Rattle.gier_tree.specs.Orders.{Following}
use Rattle.gier_tree.specs.Coded.{scopes_of}
use Rattle.gier_tree.specs.Need.{need_statements}
use Rattle.gier_tree.specs.Places.{Places}
use Rattle.gier_tree.specs.Text7.{code_group, code_statements}
use Rattle.gier_tree.specs.Texts.{Where}
use Rattle.gier_tree.specs.Trees as tree
use Rattle.gier_tree.specs.Trees.{Group}
use Rattle.gier_meaning.specs.Live.{Live}
use Rattle.gier_meaning.specs.Outcome.{Finished, caught}
use Rattle.gier_meaning.specs.Plain.{group, statements}
use Rattle.gier_meaning.specs.State.{State}
use Rattle.gier_env.specs.Closures.{Closure}
use Rattle.gier_env.specs.Env.{Env}
use Rattle.gier_env.specs.Meaning.{within}
use Rattle.gier_env.specs.Statements.{have, run, run_all}
use Rattle.gier_flat.proofs.Positions.{At}
use Rattle.gier_flat.proofs.OrderRows.{Machine}
use Rattle.gier_flat.proofs.StackRelation.{Known, RunInvariant, RefinesOutcome, Behind}
use Rattle.gier_flat.proofs.Assignments.{NothingShown}
use Rattle.gier_flat.proofs.Setting.{Setting}
use Rattle.gier_flat.proofs.NextRuns.{IsScope, Outside}
pub use Rattle.gier_flat.proofs.NextRuns.{AreWithin}

module _ (setting : Setting) where
  -- the statements of a scope, in the scope's activation, with the gos to its labels
  abbrev pub ScopeRuns : (steps : ℕ) (q : Places) (at : Where) (ss : tree.Statements) (level : ℕ) → Type 1
  ScopeRuns steps q at ss level =
      (env : Env) (lives : Live) (own : List ℕ) (K : Known) (w : ℕ) (m : Machine) (s : State Closure) (st : code.State) (go : Following) → s.left ≤ steps
      → RunInvariant setting.text setting.size K w (need_statements (scopes_of q) ss) env q m s lives → IsScope setting own (λ label. have label env (statements ss)) K m
      → At setting.text st (code_statements q at ss level w st go) → m.regs.place ≡ st.words
      → RefinesOutcome setting.text setting.size Finished K (Outside setting own K) m s (Behind setting.text setting.size go) m.regs.base m.regs.top (NothingShown setting K) (caught own (λ label s1. (within setting.size steps).rest label own (statements ss) env lives s1) (run_all setting.size (within setting.size steps) (statements ss) env lives s))

  -- a block, from its order BLOCK on behind its order LEAVE; what runs within it has fewer steps left
  abbrev pub BlockRuns : (steps : ℕ) (p : Places) (at : Where) (g : Group) (level : ℕ) → Type 1
  BlockRuns steps p at g level =
      (env : Env) (lives : Live) (K : Known) (w need : ℕ) (m : Machine) (s : State Closure) (st : code.State) (go : Following) → s.left ≤ steps
      → RunInvariant setting.text setting.size K w need env p m s lives → At setting.text st (code_group p at g level w st go) → m.regs.place ≡ st.words
      → RefinesOutcome setting.text setting.size Finished K K.label m s (Behind setting.text setting.size go) m.regs.base m.regs.top (NothingShown setting K) (run setting.size (within setting.size steps) (group g) env lives s)
