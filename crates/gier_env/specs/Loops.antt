-- For statements in an environment (Report 4.6). The labels of a turn stand in an environment of their own, which has no room.
use Rattle.std.specs.Prelude.{ℕ, ℤ, pos, int_lt, List, [], ◌∷◌, length}
use Rattle.gier_word.specs.Operations.{sum_of, difference_of, product_of, sign_of}
use Rattle.gier_meaning.specs.Tree.{Expr, Alone, Element, Once, StepUntil, While, MoreStatements, NoStatements}
use Rattle.gier_meaning.specs.Lines.{line_of}
use Rattle.gier_meaning.specs.Live.{Live}
use Rattle.gier_meaning.specs.State.{State, given_out}
use Rattle.gier_meaning.specs.Address.{receives}
use Rattle.gier_meaning.specs.Outcome.{Outcome, Gives, Finished, Done, then_do, either, caught}
use Rattle.gier_meaning.specs.Accounts.{charge}
use Rattle.gier_meaning.specs.Operators.{is_true}
use Rattle.gier_meaning.specs.Standard.{value_or_alarm}
use Rattle.gier_meaning.specs.Scopes.{labels, quantities}
use Rattle.gier_meaning.specs.TurnLabels.{entities_from, labels_made}
use Rattle.gier_env.specs.Env.{Env, Inside, NoBindings, with_entities}
use Rattle.gier_env.specs.Computation.{Computation}
use Rattle.gier_env.specs.Closures.{Closure}
use Rattle.gier_env.specs.Tasks.{Loop, Next}
use Rattle.gier_env.specs.Expressions.{value, address}

-- executes the controlled statement in the environment of a turn
abbrev pub Execute : Type 0
Execute = Env → State Closure → Outcome Closure Finished

abbrev pub variable : Loop → Expr
variable loop = Alone loop.variable loop.place

-- one turn with its fresh labels, which are these entities; a go to one of them executes the rest
abbrev pub labelled_turn : Next → Loop → Execute → (own : List ℕ) → (turn : Env) → Computation Finished
labelled_turn next loop execute own turn live s =
    caught own
    (λ label s1. next.rest label own (MoreStatements loop.body NoStatements) turn live s1)
    (execute turn (given_out (length own) (labels_made own s)))

abbrev pub turn : Next → Loop → Execute → Live → State Closure → (State Closure → Outcome Closure Finished)
    → Outcome Closure Finished
turn next loop execute live s go =
    let own : List ℕ = entities_from s.fresh (labels loop.body) in
    let inner : Env = Inside (with_entities s.fresh (quantities (labels loop.body)) NoBindings) loop.env in
    then_do (labelled_turn next loop execute own inner live s) (λ done s1. charge loop.line live s1 go)

module _ (limit : ℕ) where
  -- V := E
  abbrev pub sets : Next → Loop → Expr → Live → State Closure → (State Closure → Outcome Closure Finished)
      → Outcome Closure Finished
  sets next loop e live s go =
      then_do (address limit next (variable loop) loop.env live s) (λ a s1.
      then_do (value limit next e loop.env live s1) (λ v s2. go (receives a v s2)))

  -- V := V + B
  abbrev pub advances : Next → Loop → Expr → (line : ℕ) → Live → State Closure → (State Closure → Outcome Closure Finished)
      → Outcome Closure Finished
  advances next loop b line live s go =
      then_do (address limit next (variable loop) loop.env live s) (λ a s1.
      then_do (value limit next (variable loop) loop.env live s1) (λ v s2.
      then_do (value limit next b loop.env live s2) (λ x s3.
      then_do (value_or_alarm (sum_of v x) line live s3) (λ sum s4. go (receives a sum s4)))))

  -- (V - C) * sign(B)
  abbrev pub distance : Next → Loop → Expr → Expr → (line : ℕ) → Computation ℤ
  distance next loop b c line live s =
      then_do (value limit next (variable loop) loop.env live s) (λ v s1.
      then_do (value limit next c loop.env live s1) (λ x s2.
      then_do (value_or_alarm (difference_of v x) line live s2) (λ difference s3.
      then_do (value limit next b loop.env live s3) (λ y s4. value_or_alarm (product_of difference (sign_of y)) line live s4))))

  -- a step element from its test on; `exhausted` goes on with the elements behind it
  abbrev pub steps : Next → Loop → Execute → Expr → Expr → Expr → List Element → Live → State Closure
      → (State Closure → Outcome Closure Finished) → Outcome Closure Finished
  steps next loop execute a b c rest live s exhausted =
      then_do (distance next loop b c (line_of a) live s) (λ d s1.
      either (int_lt (pos 0) d) s1 exhausted
      (λ s2. turn next loop execute live s2 (λ s3. next.again loop (StepUntil a b c) rest live s3)))

  abbrev pub elements : Next → Loop → Execute → List Element → Computation Finished
  elements next loop execute [] live s = Gives Done s
  elements next loop execute (Once e ∷ rest) live s =
      sets next loop e live s (λ s1. turn next loop execute live s1 (λ s2. elements next loop execute rest live s2))
  elements next loop execute (StepUntil a b c ∷ rest) live s =
      sets next loop a live s (λ s1. steps next loop execute a b c rest live s1 (λ s2. elements next loop execute rest live s2))
  elements next loop execute (While e test ∷ rest) live s =
      sets next loop e live s (λ s1.
      then_do (value limit next test loop.env live s1) (λ v s2.
      either (is_true v) s2
      (λ s3. turn next loop execute live s3 (λ s4. next.again loop (While e test) rest live s4))
      (λ s3. elements next loop execute rest live s3)))

  -- after the end of a turn of an element
  abbrev pub again : Next → Loop → Execute → Element → List Element → Computation Finished
  again next loop execute (Once e) rest live s = elements next loop execute rest live s
  again next loop execute (StepUntil a b c) rest live s =
      advances next loop b (line_of a) live s (λ s1.
      steps next loop execute a b c rest live s1 (λ s2. elements next loop execute rest live s2))
  again next loop execute (While e test) rest live s = elements next loop execute (While e test ∷ rest) live s
