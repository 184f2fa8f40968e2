-- What an identifier is replaced by, where it is looked up in an environment; and the state of the copy rule that belongs to
-- a state with environments.
use Rattle.std.specs.Prelude.{◌==◌, ℕ, List, [], ◌∷◌, if◌then◌else◌}
use Rattle.gier_meaning.specs.Tree as name
use Rattle.gier_meaning.specs.Tree.{Name, Identifier, Exprs}
use Rattle.gier_meaning.specs.State.{Entity, Nothing, ACell, AnArray, ALabel, Kept, State}
use Rattle.gier_meaning.specs.Outcome.{Outcome, Gives, Goes, Stops}
use Rattle.gier_meaning.specs.Scopes.{of_procedure}
use Rattle.gier_meaning.specs.Maps.{Map, hidden_in_body}
use Rattle.gier_meaning.specs.Close.{close, close_all, close_in}
use Rattle.gier_meaning.specs.Bodies.{Body, ProcedureBody, SwitchList}
use Rattle.gier_meaning.specs.Tasks.{Passed, AValue, AName}
use Rattle.gier_env.specs.Env.{Env, Outermost, Inside, Bindings, NoBindings, Means, Returns, Denoted, AnEntity, AProcedure, AFormalProcedure, AText, AStandard, AnActual}
use Rattle.gier_env.specs.Closures.{Closure}
use Rattle.gier_env.specs.Tasks as env

abbrev mutual
  pub used : Env → ℕ → Name
  used Outermost x = Identifier x
  used (Inside bindings env) x = used_by bindings x (used env x)

  pub used_by : Bindings → ℕ → Name → Name
  used_by NoBindings x outer = outer
  used_by (Means y denoted bindings) x outer = if x == y then name_of denoted else used_by bindings x outer
  used_by (Returns y cell bindings) x outer = used_by bindings x outer

  pub name_of : Denoted → Name
  name_of (AnEntity n) = name.AnEntity n
  name_of (AProcedure n) = name.AProcedure n
  name_of (AFormalProcedure n) = name.AFormalProcedure n
  name_of (AText bytes) = name.AText bytes
  name_of (AStandard standard) = name.AStandard standard
  name_of (AnActual meant kind e env) = name.AnActual meant kind (close (used env) e)

abbrev pub assigned_by : Bindings → ℕ → Name → Name
assigned_by NoBindings x outer = outer
assigned_by (Means y denoted bindings) x outer = if x == y then name_of denoted else assigned_by bindings x outer
assigned_by (Returns y cell bindings) x outer = if x == y then name.AnEntity cell else assigned_by bindings x outer

abbrev pub assigned : Env → ℕ → Name
assigned Outermost x = Identifier x
assigned (Inside bindings env) x = assigned_by bindings x (assigned env x)

abbrev pub map_in : Env → Map
map_in env = record { used = used env; assigned = assigned env }

abbrev pub body_in : Env → Body → Body
body_in env (ProcedureBody own kind formals body) =
    ProcedureBody own kind formals (close_in (hidden_in_body kind own (of_procedure formals body) (map_in env)) body)
body_in env (SwitchList elements) = SwitchList (close_all (used env) elements)

abbrev pub entity_of : Entity Closure → Entity Body
entity_of Nothing = Nothing
entity_of (ACell kind value) = ACell kind value
entity_of (AnArray kind bounds elements) = AnArray kind bounds elements
entity_of ALabel = ALabel
entity_of (Kept closure) = Kept (body_in closure.home closure.body)

abbrev pub state_of : State Closure → State Body
state_of s = record {
  fresh = s.fresh;
  store = λ n. entity_of (s.store n);
  unread = s.unread;
  printed = s.printed;
  left = s.left;
  most = s.most;
}

abbrev pub carried : {A B : Type 0} → (A → B) → Outcome Closure A → Outcome Body B
carried f (Gives a s) = Gives (f a) (state_of s)
carried f (Goes label s) = Goes label (state_of s)
carried f (Stops why stop s) = Stops why stop (state_of s)

abbrev pub same : {A : Type 0} → A → A
same a = a

abbrev pub passed_of : env.Passed → Passed
passed_of (env.AValue value) = AValue value
passed_of (env.AMeaning meaning) = AName (name_of meaning)

abbrev pub all_passed : List env.Passed → List Passed
all_passed [] = []
all_passed (passed ∷ rest) = passed_of passed ∷ all_passed rest
