-- What the code does at deeper entries: the premise on which statements are executed.
use Rattle.std.proofs.Common.{◌≡◌, ℕ, ◌+◌, ◌<◌, ◌≤◌, Bool, true, false, List, []}
use Rattle.gier_symbol.specs.declared.symbol.Symbol.{Symbol}
use Rattle.gier_tree.specs.Orders as code
use Rattle.gier_tree.specs.Orders.{Following}
use Rattle.gier_tree.specs.Coded.{scopes_of}
use Rattle.gier_tree.specs.Need.{need_statements}
use Rattle.gier_tree.specs.Places.{Places}
use Rattle.gier_tree.specs.Text7.{code_group, code_statements}
use Rattle.gier_tree.specs.Texts.{Where}
use Rattle.gier_tree.specs.Trees.{Declaration, Declarations, Statement, Statements, MkBlock}
use Rattle.gier_meaning.specs.Plain.{group, statements}
use Rattle.gier_meaning.specs.Live.{Live}
use Rattle.gier_meaning.specs.State.{State}
use Rattle.gier_meaning.specs.Outcome.{Outcome, Finished, is_among}
use Rattle.gier_env.specs.Env.{Env}
use Rattle.gier_env.specs.Closures.{Closure}
use Rattle.gier_env.specs.Statements.{have, run}
use Rattle.gier_env.specs.Tasks.{Next}
use Rattle.gier_flat.specs.Fair.{FairStatements, FairGroup}
use Rattle.gier_flat.proofs.Positions.{At}
use Rattle.gier_flat.proofs.OrderRows.{Machine}
use Rattle.gier_flat.proofs.StackRelation.{Known, RunInvariant, RefinesOutcome, Behind}
use Rattle.gier_flat.proofs.Setting.{Setting}
use Rattle.gier_flat.proofs.Values.{Runs}
use Rattle.gier_flat.proofs.Assignments.{NothingShown}

-- identifiers whose places are in activations of this level or further out, and none of them has formals
abbrev pub AreWithin : Places → (level : ℕ) → Type 0
AreWithin p level = (x : ℕ) → ((p x).level ≤ level) × ((p x).what.formals ≡ [])

module _ (setting : Setting) where
  abbrev pub RunsStatement : (n : ℕ) → Env → Places → Live → (need : ℕ) → (c : (w : ℕ) → code.State → Following → List Symbol) → (State Closure → Outcome Closure Finished) → Type 1
  RunsStatement n env p lives need c v = Runs setting.text setting.size setting.ends setting.small n env p lives Finished (NothingShown setting) need c v

  -- the labels of a scope are places in its activation, and this is known of the activation's end
  pub record IsScope (own : List ℕ) (inside : ℕ → Bool) (K : Known) (m : Machine) : Type 0 where
    pub labels : (e b a : ℕ) → is_among e own ≡ true → K.label e b a → (b ≡ m.regs.base) × (inside e ≡ true)
    pub end : K.word (m.regs.base + 2)
    pub top : m.regs.words (m.regs.base + 2) ≡ m.regs.top

  -- only a label of another scope is left over
  abbrev pub Outside : List ℕ → Known → ℕ → ℕ → ℕ → Type 0
  Outside own K e b a = K.label e b a × (is_among e own ≡ false)

  -- a block, from the order that enters it to behind the order that leaves it
  abbrev pub BlockRuns : ℕ → Next → Type 1
  BlockRuns n next =
      (env : Env) (p : Places) (lives : Live) (at : Where) → AreWithin p at.level → (l : ℕ) (d : Declaration) (m : ℕ) (ds : Declarations) (s : Statement) (ss : Statements) (end : ℕ)
      → FairGroup p at (MkBlock l d m ds s ss end) → (level : ℕ)
      → RunsStatement n env p lives 0 (code_group p at (MkBlock l d m ds s ss end) level) (λ st. run setting.size next (group (MkBlock l d m ds s ss end)) env lives st)

  -- the rest of a scope from one of its labels on, to which a go to has come; the gos to its labels come again
  abbrev pub RestRuns : ℕ → Next → Type 1
  RestRuns n next =
      (env : Env) (p : Places) (lives : Live) (at : Where) → AreWithin p at.level → (ss : Statements) → FairStatements p at ss → (level : ℕ) (own : List ℕ) (label : ℕ)
      (K : Known) (w : ℕ) (m : Machine) (s : State Closure) (st : code.State) (go : Following) → s.left < n → RunInvariant setting.text setting.size K w (need_statements (scopes_of p) ss) env p m s lives
      → IsScope own (λ e. have e env (statements ss)) K m → At setting.text st (code_statements p at ss level w st go) → is_among label own ≡ true → K.label label m.regs.base m.regs.place
      → RefinesOutcome setting.text setting.size Finished K (Outside own K) m s (Behind setting.text setting.size go) m.regs.base m.regs.top (NothingShown setting K) (next.rest label own (statements ss) env lives s)

  -- for so many permitted steps
  pub record NextRuns (n : ℕ) (next : Next) : Type 1 where
    pub block : BlockRuns n next
    pub rest : RestRuns n next
