-- Entered blocks and procedures (Report 4.1.3, 5, 4.7.3): fresh entities are made for all that is declared, and an activation
-- maps the identifiers to them. A go to one of its own labels executes the rest of its statements.
use Rattle.std.specs.Prelude.{Option, Some, ℕ, suc, ◌+◌, ℤ, pos, List, [], ◌∷◌, length}
use Rattle.gier_agree.specs.declared.kind.Kind.{Kind}
use Rattle.gier_agree.specs.declared.kind.Kind.TheVariants as kind
use Rattle.gier_agree.specs.Kinds.{wanted_by}
use Rattle.gier_word.specs.declared.alarm.Alarm.TheVariants.{Bounds}
use Rattle.gier_meaning.specs.Tree.{AsExpression, Alone, Identifier, Name, Formal, Statement, Statements, NoStatements}
use Rattle.gier_meaning.specs.Tree.{MoreStatements, Declarations, NoDeclarations, Variables, Arrays, Switch, Procedure}
use Rattle.gier_meaning.specs.Live.{Live}
use Rattle.gier_meaning.specs.State.{Pair, ACell, AnArray, Kept, Entity, State, with_entity, given_out}
use Rattle.gier_meaning.specs.Address.{CellAt, value_at}
use Rattle.gier_meaning.specs.Arrays.{bound_pairs, are_bounds, elements_of, no_elements}
use Rattle.gier_meaning.specs.Outcome.{Gives, Alarmed, Finished, then_do, stops, either, caught}
use Rattle.gier_meaning.specs.Accounts.{take_elements}
use Rattle.gier_meaning.specs.Scopes.{declared_names, of_block, quantities, labels, all_labels}
use Rattle.gier_meaning.specs.TurnLabels.{entities_from, labels_made}
use Rattle.gier_meaning.specs.Bodies.{ProcedureBody, SwitchList}
use Rattle.gier_env.specs.Env.{Env, Inside, Bindings, NoBindings, Means, Returns, Outermost, Denoted, AnActual, AnEntity}
use Rattle.gier_env.specs.Env.{AProcedure, denotation, with_entities}
use Rattle.gier_env.specs.Computation.{Computation}
use Rattle.gier_env.specs.Closures.{Closure}
use Rattle.gier_env.specs.Tasks.{Passed, AValue, AMeaning, Next}
use Rattle.gier_env.specs.Expressions.{values}
use Rattle.gier_env.specs.Statements.{run, run_all}

abbrev pub entity_of : Option Denoted → ℕ
entity_of (Some (AnEntity n)) = n
entity_of (Some (AProcedure n)) = n
entity_of _ = 0

-- the entity in a declaring place
abbrev pub entity_in : Env → Name → ℕ
entity_in env name = entity_of (denotation env name)

-- each of these names gets such an entity
abbrev pub all_made : Env → List Name → Entity Closure → State Closure → State Closure
all_made env [] entity s = s
all_made env (name ∷ names) entity s = all_made env names entity (with_entity (entity_in env name) entity s)

-- the store says what declarations declare; an array has no bounds yet
abbrev pub made : Env → Declarations → State Closure → State Closure
made env NoDeclarations s = s
made env (Variables kind names ds) s = made env ds (all_made env names (ACell kind (pos 0)) s)
made env (Arrays kind line names bounds ds) s = made env ds (all_made env names (AnArray kind [] no_elements) s)
made env (Switch line name elements ds) s =
    made env ds (with_entity (entity_in env name) (Kept (record { body = SwitchList elements; home = env })) s)
made env (Procedure line kind own name formals body ds) s =
    made env ds (with_entity (entity_in env name) (Kept (record { body = ProcedureBody own kind formals body; home = env })) s)

module _ (limit : ℕ) where
  -- the arrays of a segment take their elements, which are 0 or false
  abbrev pub arrays_taken : Env → Kind → List Name → List Pair → (line : ℕ) → Computation Live
  arrays_taken env kind [] pairs line live s = Gives live s
  arrays_taken env kind (name ∷ names) pairs line live s =
      then_do (take_elements limit (elements_of pairs) line live s) (λ live1 s1.
      arrays_taken env kind names pairs line live1 (with_entity (entity_in env name) (AnArray kind pairs no_elements) s1))

  abbrev pub segment : Env → Kind → List Name → List Pair → (line : ℕ) → Computation Live
  segment env kind names pairs line live s =
      either (are_bounds pairs) s
      (λ s1. arrays_taken env kind names pairs line live s1)
      (λ s1. stops (Alarmed Bounds) line live s1)

  -- array segments in source order, each with its bounds from left to right (Report 5.2.4)
  abbrev pub arrays : Next → Declarations → Env → Computation Live
  arrays next NoDeclarations env live s = Gives live s
  arrays next (Variables kind names ds) env live s = arrays next ds env live s
  arrays next (Arrays kind line names bounds ds) env live s =
      then_do (values limit next bounds env live s) (λ found s1.
      then_do (segment env kind names (bound_pairs found) line live s1) (λ live1 s2. arrays next ds env live1 s2))
  arrays next (Switch line name elements ds) env live s = arrays next ds env live s
  arrays next (Procedure line kind own name formals body ds) env live s = arrays next ds env live s

  -- a block in its own activation, with the entities of its labels
  abbrev pub activated_block : Next → Declarations → Statements → (own : List ℕ) → Env → Computation Finished
  activated_block next ds ss own env live s =
      then_do (arrays next ds env live (made env ds s)) (λ live1 s1.
      caught own (λ label s2. next.rest label own ss env live1 s2) (run_all limit next ss env live1 s1))

  abbrev pub entered_block : Next → Declarations → Statements → Env → Computation Finished
  entered_block next ds ss env live s =
      let first : ℕ = s.fresh + length (declared_names ds) in
      let own : List ℕ = entities_from first (all_labels ss) in
      activated_block next ds ss own (Inside (with_entities s.fresh (of_block ds ss) NoBindings) env) live
      (given_out (length (of_block ds ss)) (labels_made own s))

-- in the place of an actual that is missing, which is so in no call of a tree without faults
abbrev pub no_actual : Formal → Denoted
no_actual formal = AnActual AsExpression formal.kind (Alone (Identifier formal.identifier) 0) Outermost

-- what the formals come to, in front of others, with fresh cells from n on for those by value
abbrev pub formals_bound : ℕ → List Formal → List Passed → Bindings → Bindings
formals_bound n [] passed bindings = bindings
formals_bound n (formal ∷ formals) [] bindings = Means formal.identifier (no_actual formal) (formals_bound n formals [] bindings)
formals_bound n (formal ∷ formals) (AValue value ∷ passed) bindings =
    Means formal.identifier (AnEntity n) (formals_bound (suc n) formals passed bindings)
formals_bound n (formal ∷ formals) (AMeaning meaning ∷ passed) bindings =
    Means formal.identifier meaning (formals_bound n formals passed bindings)

-- those cells are made
abbrev pub formals_made : List Formal → List Passed → State Closure → State Closure
formals_made [] passed s = s
formals_made (formal ∷ formals) [] s = s
formals_made (formal ∷ formals) (AValue value ∷ passed) s =
    formals_made formals passed (given_out 1 (with_entity s.fresh (ACell (wanted_by formal.kind) value) s))
formals_made (formal ∷ formals) (AMeaning meaning ∷ passed) s = formals_made formals passed s

module _ (limit : ℕ) where
  -- the one statement of a scope in its activation, with the entities of its labels
  abbrev pub activated_body : Next → Statement → (own : List ℕ) → Env → Computation Finished
  activated_body next body own env live s =
      caught own
      (λ label s1. next.rest label own (MoreStatements body NoStatements) env live s1)
      (run limit next body env live (given_out (length own) (labels_made own s)))

  -- the body of a procedure; `formals` puts what the formals mean in front of the labels
  abbrev pub body_run : Next → (Bindings → Bindings) → Bindings → Statement → (home : Env) → Computation Finished
  body_run next formals result body home live s =
      activated_body next body (entities_from s.fresh (labels body))
      (Inside (formals (with_entities s.fresh (quantities (labels body)) result)) home) live s

  -- a procedure without type has no value; 0 stands for none
  abbrev pub proper_run : Next → (Bindings → Bindings) → Statement → (home : Env) → Computation ℤ
  proper_run next formals body home live s =
      then_do (body_run next formals NoBindings body home live s) (λ done s1. Gives (pos 0) s1)

  -- a function's value is what its own cell has in the end (Report 5.4.4)
  abbrev pub function_run : Next → (own cell : ℕ) → (Bindings → Bindings) → Statement → (home : Env) → Computation ℤ
  function_run next own cell formals body home live s =
      then_do (body_run next formals (Returns own cell NoBindings) body home live s)
      (λ done s1. Gives (value_at (CellAt cell) s1) s1)

  abbrev pub procedure_run : Next → (own : ℕ) → Kind → (Bindings → Bindings) → Statement → (home : Env) → Computation ℤ
  procedure_run next own kind.IntegerProcedure formals body home live s =
      function_run next own s.fresh formals body home live (given_out 1 (with_entity s.fresh (ACell kind.Integer (pos 0)) s))
  procedure_run next own kind.BooleanProcedure formals body home live s =
      function_run next own s.fresh formals body home live (given_out 1 (with_entity s.fresh (ACell kind.Boolean (pos 0)) s))
  procedure_run next own _ formals body home live s = proper_run next formals body home live s

  abbrev pub entered_procedure : Next → (own : ℕ) → Kind → List Formal → Statement → (home : Env) → List Passed → Computation ℤ
  entered_procedure next own kind formals body home passed live s =
      procedure_run next own kind (formals_bound s.fresh formals passed) body home live (formals_made formals passed s)
