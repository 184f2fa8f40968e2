-- Entered blocks and procedures (Report 4.1.3, 5, 4.7.3): fresh entities are made for all that is declared, the tree is closed
-- with them, and it is executed. A go to one of its own labels executes the rest of its statements.
use Rattle.std.specs.Prelude.{ℕ, suc, ◌+◌, ℤ, pos, List, [], ◌∷◌, ◌++◌, length}
use Rattle.gier_agree.specs.declared.kind.Kind.{Kind}
use Rattle.gier_agree.specs.declared.kind.Kind.TheVariants as kind
use Rattle.gier_agree.specs.Kinds.{wanted_by}
use Rattle.gier_word.specs.declared.alarm.Alarm.TheVariants.{Bounds}
use Rattle.gier_meaning.specs.Tree.{AsExpression, Alone, AnActual, Name, Identifier, AnEntity, AProcedure, Formal, Statement}
use Rattle.gier_meaning.specs.Tree.{Statements, NoStatements, MoreStatements, Declarations, NoDeclarations, Variables, Arrays}
use Rattle.gier_meaning.specs.Tree.{Switch, Procedure}
use Rattle.gier_meaning.specs.Live.{Live}
use Rattle.gier_meaning.specs.State.{Pair, ACell, AnArray, Kept, Entity, State, with_entity, given_out}
use Rattle.gier_meaning.specs.Address.{CellAt, value_at}
use Rattle.gier_meaning.specs.Arrays.{bound_pairs, are_bounds, elements_of, no_elements}
use Rattle.gier_meaning.specs.Outcome.{Gives, Alarmed, Finished, then_do, stops, either, caught}
use Rattle.gier_meaning.specs.Accounts.{take_elements}
use Rattle.gier_meaning.specs.Scopes.{declared_names, of_block, quantities, labels, all_labels}
use Rattle.gier_meaning.specs.Maps.{Map, Binding, Means, Returns, map_of, entity_bindings}
use Rattle.gier_meaning.specs.Close.{close_in, close_statements, close_declarations}
use Rattle.gier_meaning.specs.TurnLabels.{entities_from, labels_made}
use Rattle.gier_meaning.specs.Computation.{Computation}
use Rattle.gier_meaning.specs.Bodies.{Body, ProcedureBody, SwitchList}
use Rattle.gier_meaning.specs.Tasks.{Passed, AValue, AName, Next}
use Rattle.gier_meaning.specs.Expressions.{values}
use Rattle.gier_meaning.specs.Statements.{run, run_all}

-- the entity in a declaring place
abbrev pub entity_in : Name → ℕ
entity_in (AnEntity n) = n
entity_in (AProcedure n) = n
entity_in _ = 0

-- each of these names gets such an entity
abbrev pub all_made : List Name → Entity Body → State Body → State Body
all_made [] entity s = s
all_made (name ∷ names) entity s = all_made names entity (with_entity (entity_in name) entity s)

-- the store says what closed declarations declare; an array has no bounds yet
abbrev pub made : Declarations → State Body → State Body
made NoDeclarations s = s
made (Variables kind names ds) s = made ds (all_made names (ACell kind (pos 0)) s)
made (Arrays kind line names bounds ds) s = made ds (all_made names (AnArray kind [] no_elements) s)
made (Switch line name elements ds) s = made ds (with_entity (entity_in name) (Kept (SwitchList elements)) s)
made (Procedure line kind own name formals body ds) s =
    made ds (with_entity (entity_in name) (Kept (ProcedureBody own kind formals body)) s)

module _ (limit : ℕ) where
  -- the arrays of a segment take their elements, which are 0 or false
  abbrev pub arrays_taken : Kind → List Name → List Pair → (line : ℕ) → Computation Live
  arrays_taken kind [] pairs line live s = Gives live s
  arrays_taken kind (name ∷ names) pairs line live s =
      then_do (take_elements limit (elements_of pairs) line live s) (λ live1 s1.
      arrays_taken kind names pairs line live1 (with_entity (entity_in name) (AnArray kind pairs no_elements) s1))

  abbrev pub segment : Kind → List Name → List Pair → (line : ℕ) → Computation Live
  segment kind names pairs line live s =
      either (are_bounds pairs) s
      (λ s1. arrays_taken kind names pairs line live s1)
      (λ s1. stops (Alarmed Bounds) line live s1)

  -- array segments in source order, each with its bounds from left to right (Report 5.2.4)
  abbrev pub arrays : Next → Declarations → Computation Live
  arrays next NoDeclarations live s = Gives live s
  arrays next (Variables kind names ds) live s = arrays next ds live s
  arrays next (Arrays kind line names bounds ds) live s =
      then_do (values limit next bounds live s) (λ found s1.
      then_do (segment kind names (bound_pairs found) line live s1) (λ live1 s2. arrays next ds live1 s2))
  arrays next (Switch line name elements ds) live s = arrays next ds live s
  arrays next (Procedure line kind own name formals body ds) live s = arrays next ds live s

  -- a closed block, with the entities of its labels
  abbrev pub closed_block : Next → Declarations → Statements → (own : List ℕ) → Computation Finished
  closed_block next ds ss own live s =
      then_do (arrays next ds live (made ds s)) (λ live1 s1.
      caught own (λ label s2. next.rest label own [] ss live1 s2) (run_all limit next [] ss live1 s1))

  abbrev pub entered_block : Next → Declarations → Statements → Computation Finished
  entered_block next ds ss live s =
      let first : ℕ = s.fresh + length (declared_names ds) in
      let own : List ℕ = entities_from first (all_labels ss) in
      let m : Map = map_of (entity_bindings s.fresh (of_block ds ss)) in
      closed_block next (close_declarations m ds) (close_statements m ss) own live
      (given_out (length (of_block ds ss)) (labels_made own s))

-- in the place of an actual that is missing, which is so in no call of a tree without faults
abbrev pub no_actual : Formal → Name
no_actual formal = AnActual AsExpression formal.kind (Alone (Identifier formal.identifier) 0)

-- what the formals come to, with fresh cells from n on for those by value
abbrev pub formals_bound : ℕ → List Formal → List Passed → List Binding
formals_bound n [] passed = []
formals_bound n (formal ∷ formals) [] = Means formal.identifier (no_actual formal) ∷ formals_bound n formals []
formals_bound n (formal ∷ formals) (AValue value ∷ passed) =
    Means formal.identifier (AnEntity n) ∷ formals_bound (suc n) formals passed
formals_bound n (formal ∷ formals) (AName name ∷ passed) = Means formal.identifier name ∷ formals_bound n formals passed

-- those cells are made
abbrev pub formals_made : List Formal → List Passed → State Body → State Body
formals_made [] passed s = s
formals_made (formal ∷ formals) [] s = s
formals_made (formal ∷ formals) (AValue value ∷ passed) s =
    formals_made formals passed (given_out 1 (with_entity s.fresh (ACell (wanted_by formal.kind) value) s))
formals_made (formal ∷ formals) (AName name ∷ passed) s = formals_made formals passed s

module _ (limit : ℕ) where
  -- a statement closed with these bindings, as the one statement of its scope, with the entities of its labels
  abbrev pub closed_body : Next → Statement → (own : List ℕ) → Computation Finished
  closed_body next body own live s =
      caught own
      (λ label s1. next.rest label own [] (MoreStatements body NoStatements) live s1)
      (run limit next [] body live (given_out (length own) (labels_made own s)))

  -- the body of a procedure, where the formals mean this
  abbrev pub body_run : Next → List Binding → List Binding → Statement → Computation Finished
  body_run next formals result body live s =
      closed_body next
      (close_in (map_of (formals ++ (entity_bindings s.fresh (quantities (labels body)) ++ result))) body)
      (entities_from s.fresh (labels body)) live s

  -- a procedure without type has no value; 0 stands for none
  abbrev pub proper_run : Next → List Binding → Statement → Computation ℤ
  proper_run next formals body live s = then_do (body_run next formals [] body live s) (λ done s1. Gives (pos 0) s1)

  -- a function's value is what its own cell has in the end (Report 5.4.4)
  abbrev pub function_run : Next → (own cell : ℕ) → List Binding → Statement → Computation ℤ
  function_run next own cell formals body live s =
      then_do (body_run next formals (Returns own cell ∷ []) body live s) (λ done s1. Gives (value_at (CellAt cell) s1) s1)

  abbrev pub procedure_run : Next → (own : ℕ) → Kind → List Binding → Statement → Computation ℤ
  procedure_run next own kind.IntegerProcedure formals body live s =
      function_run next own s.fresh formals body live (given_out 1 (with_entity s.fresh (ACell kind.Integer (pos 0)) s))
  procedure_run next own kind.BooleanProcedure formals body live s =
      function_run next own s.fresh formals body live (given_out 1 (with_entity s.fresh (ACell kind.Boolean (pos 0)) s))
  procedure_run next own _ formals body live s = proper_run next formals body live s

  abbrev pub entered_procedure : Next → (own : ℕ) → Kind → List Formal → Statement → List Passed → Computation ℤ
  entered_procedure next own kind formals body passed live s =
      procedure_run next own kind (formals_bound s.fresh formals passed) body live (formals_made formals passed s)
