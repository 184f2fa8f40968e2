-- Statements (Report 4), and the rest of a statement from a label on (Report 4.1.3 and 4.3.3). `turn` has the labels of the turns
-- in which a statement stands.
use Rattle.std.specs.Prelude.{◌==◌, ◌||◌, ℕ, Bool, false, List}
use Rattle.gier_meaning.specs.Tree.{Name, AnEntity, Statement, Labelled, Dummy, Compound, Block, Assign, GoTo, CallOf, If, IfElse}
use Rattle.gier_meaning.specs.Tree.{For, Statements, NoStatements, MoreStatements, Declarations}
use Rattle.gier_meaning.specs.Live.{InBlock}
use Rattle.gier_meaning.specs.Address.{receive}
use Rattle.gier_meaning.specs.Outcome.{Gives, Finished, Done, then_do, either}
use Rattle.gier_meaning.specs.Accounts.{enter}
use Rattle.gier_meaning.specs.Operators.{is_true}
use Rattle.gier_meaning.specs.Room.{block_room}
use Rattle.gier_meaning.specs.Maps.{Binding}
use Rattle.gier_meaning.specs.TurnLabels.{name_in_turn, in_turn, lefts_in_turn, elements_in_turn, declarations_in_turn}
use Rattle.gier_meaning.specs.TurnLabels.{statements_in_turn}
use Rattle.gier_meaning.specs.Computation.{Computation}
use Rattle.gier_meaning.specs.Destinations.{goes_to}
use Rattle.gier_meaning.specs.Tasks.{Next}
use Rattle.gier_meaning.specs.Names.{what_of}
use Rattle.gier_meaning.specs.Expressions.{value, addresses, destination}
use Rattle.gier_meaning.specs.Loops.{elements}

abbrev pub is_label : ℕ → Name → Bool
is_label label (AnEntity n) = n == label
is_label label _ = false

-- the label stands at this statement or in it, in the same scope
abbrev mutual
  pub has : ℕ → List Binding → Statement → Bool
  has label turn (Labelled name s) = is_label label (name_in_turn turn name) || has label turn s
  has label turn Dummy = false
  has label turn (Compound ss) = have label turn ss
  has label turn (Block line ds ss) = false
  has label turn (Assign lefts e) = false
  has label turn (GoTo line e) = false
  has label turn (CallOf e) = false
  has label turn (If test s) = has label turn s
  has label turn (IfElse test s other) = has label turn s || has label turn other
  has label turn (For line variable place elements s) = false

  pub have : ℕ → List Binding → Statements → Bool
  have label turn NoStatements = false
  have label turn (MoreStatements s ss) = has label turn s || have label turn ss

module _ (limit : ℕ) where
  abbrev pub block : Next → Declarations → Statements → (line : ℕ) → Computation Finished
  block next ds ss line live s =
      enter limit InBlock (block_room (what_of s) ds ss) line live s (λ live1 s1. next.block ds ss live1 s1)

  abbrev mutual
    pub run : Next → List Binding → Statement → Computation Finished
    run next turn (Labelled name s) live st = run next turn s live st
    run next turn Dummy live st = Gives Done st
    run next turn (Compound ss) live st = run_all next turn ss live st
    run next turn (Block line ds ss) live st =
        block next (declarations_in_turn turn ds ss) (statements_in_turn turn ds ss) line live st
    run next turn (Assign lefts e) live st =
        then_do (addresses limit next (lefts_in_turn turn lefts) live st) (λ found s1.
        then_do (value limit next (in_turn turn e) live s1) (λ v s2. Gives Done (receive found v s2)))
    run next turn (GoTo line e) live st =
        then_do (destination limit next (in_turn turn e) live st) (λ to s1. goes_to to line live s1)
    run next turn (CallOf e) live st = then_do (value limit next (in_turn turn e) live st) (λ v s1. Gives Done s1)
    run next turn (If test s) live st =
        then_do (value limit next (in_turn turn test) live st) (λ v s1.
        either (is_true v) s1 (λ s2. run next turn s live s2) (λ s2. Gives Done s2))
    run next turn (IfElse test s other) live st =
        then_do (value limit next (in_turn turn test) live st) (λ v s1.
        either (is_true v) s1 (λ s2. run next turn s live s2) (λ s2. run next turn other live s2))
    run next turn (For line variable place list s) live st =
        elements limit next
        (record { line = line; variable = name_in_turn turn variable; place = place; turn = turn; body = s })
        (λ inner s1. run next inner s live s1)
        (elements_in_turn turn list) live st

    pub run_all : Next → List Binding → Statements → Computation Finished
    run_all next turn NoStatements live st = Gives Done st
    run_all next turn (MoreStatements s ss) live st =
        then_do (run next turn s live st) (λ done s1. run_all next turn ss live s1)

  -- from the label on; no inner scope is entered
  abbrev mutual
    pub resume : Next → (label : ℕ) → List Binding → Statement → Computation Finished
    resume next label turn (Labelled name s) live st =
        either (is_label label (name_in_turn turn name)) st
        (λ s1. run next turn s live s1)
        (λ s1. resume next label turn s live s1)
    resume next label turn Dummy live st = Gives Done st
    resume next label turn (Compound ss) live st = resume_all next label turn ss live st
    resume next label turn (Block line ds ss) live st = Gives Done st
    resume next label turn (Assign lefts e) live st = Gives Done st
    resume next label turn (GoTo line e) live st = Gives Done st
    resume next label turn (CallOf e) live st = Gives Done st
    resume next label turn (If test s) live st = resume next label turn s live st
    resume next label turn (IfElse test s other) live st =
        either (has label turn s) st
        (λ s1. resume next label turn s live s1)
        (λ s1. resume next label turn other live s1)
    resume next label turn (For line variable place list s) live st = Gives Done st

    pub resume_all : Next → (label : ℕ) → List Binding → Statements → Computation Finished
    resume_all next label turn NoStatements live st = Gives Done st
    resume_all next label turn (MoreStatements s ss) live st =
        either (has label turn s) st
        (λ s1. then_do (resume next label turn s live s1) (λ done s2. run_all next turn ss live s2))
        (λ s1. resume_all next label turn ss live s1)
