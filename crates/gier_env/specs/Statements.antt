-- Statements in an environment (Report 4), and the rest of a statement from a label on (Report 4.1.3 and 4.3.3).
use Rattle.std.specs.Prelude.{Option, Some, ◌==◌, ◌||◌, ℕ, Bool, false}
use Rattle.gier_meaning.specs.Tree.{Statement, Labelled, Dummy, Compound, Block, Assign, GoTo, CallOf, If, IfElse, For}
use Rattle.gier_meaning.specs.Tree.{Statements, NoStatements, MoreStatements}
use Rattle.gier_meaning.specs.Live.{InBlock}
use Rattle.gier_meaning.specs.Address.{receive}
use Rattle.gier_meaning.specs.Outcome.{Gives, Finished, Done, then_do, either}
use Rattle.gier_meaning.specs.Accounts.{enter}
use Rattle.gier_meaning.specs.Operators.{is_true}
use Rattle.gier_meaning.specs.Room.{block_room}
use Rattle.gier_meaning.specs.Destinations.{goes_to}
use Rattle.gier_env.specs.Env.{Env, Denoted, AnEntity, denotation}
use Rattle.gier_env.specs.Computation.{Computation}
use Rattle.gier_env.specs.Closures.{what_of}
use Rattle.gier_env.specs.Tasks.{Next}
use Rattle.gier_env.specs.Expressions.{value, addresses, destination}
use Rattle.gier_env.specs.Loops.{elements}

abbrev pub is_label : ℕ → Option Denoted → Bool
is_label label (Some (AnEntity n)) = n == label
is_label label _ = false

-- the label stands at this statement or in it, in the same scope
abbrev mutual
  pub has : ℕ → Env → Statement → Bool
  has label env (Labelled name s) = is_label label (denotation env name) || has label env s
  has label env Dummy = false
  has label env (Compound ss) = have label env ss
  has label env (Block line ds ss) = false
  has label env (Assign lefts e) = false
  has label env (GoTo line e) = false
  has label env (CallOf e) = false
  has label env (If test s) = has label env s
  has label env (IfElse test s other) = has label env s || has label env other
  has label env (For line variable place list s) = false

  pub have : ℕ → Env → Statements → Bool
  have label env NoStatements = false
  have label env (MoreStatements s ss) = has label env s || have label env ss

module _ (limit : ℕ) where
  abbrev mutual
    pub run : Next → Statement → Env → Computation Finished
    run next (Labelled name s) env live st = run next s env live st
    run next Dummy env live st = Gives Done st
    run next (Compound ss) env live st = run_all next ss env live st
    run next (Block line ds ss) env live st =
        enter limit InBlock (block_room (what_of env st) ds ss) line live st (λ live1 s1. next.block ds ss env live1 s1)
    run next (Assign lefts e) env live st =
        then_do (addresses limit next lefts env live st) (λ found s1.
        then_do (value limit next e env live s1) (λ v s2. Gives Done (receive found v s2)))
    run next (GoTo line e) env live st =
        then_do (destination limit next e env live st) (λ to s1. goes_to to line live s1)
    run next (CallOf e) env live st = then_do (value limit next e env live st) (λ v s1. Gives Done s1)
    run next (If test s) env live st =
        then_do (value limit next test env live st) (λ v s1.
        either (is_true v) s1 (λ s2. run next s env live s2) (λ s2. Gives Done s2))
    run next (IfElse test s other) env live st =
        then_do (value limit next test env live st) (λ v s1.
        either (is_true v) s1 (λ s2. run next s env live s2) (λ s2. run next other env live s2))
    run next (For line variable place list s) env live st =
        elements limit next
        (record { line = line; variable = variable; place = place; body = s; env = env })
        (λ inner s1. run next s inner live s1)
        list live st

    pub run_all : Next → Statements → Env → Computation Finished
    run_all next NoStatements env live st = Gives Done st
    run_all next (MoreStatements s ss) env live st =
        then_do (run next s env live st) (λ done s1. run_all next ss env live s1)

  -- from the label on; no inner scope is entered
  abbrev mutual
    pub resume : Next → (label : ℕ) → Statement → Env → Computation Finished
    resume next label (Labelled name s) env live st =
        either (is_label label (denotation env name)) st
        (λ s1. run next s env live s1)
        (λ s1. resume next label s env live s1)
    resume next label Dummy env live st = Gives Done st
    resume next label (Compound ss) env live st = resume_all next label ss env live st
    resume next label (Block line ds ss) env live st = Gives Done st
    resume next label (Assign lefts e) env live st = Gives Done st
    resume next label (GoTo line e) env live st = Gives Done st
    resume next label (CallOf e) env live st = Gives Done st
    resume next label (If test s) env live st = resume next label s env live st
    resume next label (IfElse test s other) env live st =
        either (has label env s) st
        (λ s1. resume next label s env live s1)
        (λ s1. resume next label other env live s1)
    resume next label (For line variable place list s) env live st = Gives Done st

    pub resume_all : Next → (label : ℕ) → Statements → Env → Computation Finished
    resume_all next label NoStatements env live st = Gives Done st
    resume_all next label (MoreStatements s ss) env live st =
        either (has label env s) st
        (λ s1. then_do (resume next label s env live s1) (λ done s2. run_all next ss env live s2))
        (λ s1. resume_all next label ss env live s1)
