-- Both meanings are the same, at each number of steps and of the whole program.
use Rattle.std.proofs.Common.{◌≡◌, ℕ, zero, suc, ◌+◌, List, [], ◌∷◌, ◌++◌, Option, Some, None, refl, sym, ap, ap₂, ◌∙◌, append-nil}
use mathlib.Core.Path.{fun_ext}
use Rattle.gier_meaning.specs.Tree.{Meant, AsExpression, AsVariable, AsLabel, AsFormal, Expr, Element, Statement, Statements, Whole}
use Rattle.gier_meaning.specs.Plain.{plain}
use Rattle.gier_meaning.specs.Entry.{live_after_taking}
use Rattle.gier_meaning.specs.Live.{Live, InProgram}
use Rattle.gier_meaning.specs.State.{State}
use Rattle.gier_meaning.specs.Outcome.{Outcome, Gives, Goes, Stops, Finished, Done}
use Rattle.gier_meaning.specs.Scopes.{labels, quantities}
use Rattle.gier_meaning.specs.Room.{program_room}
use Rattle.gier_meaning.specs.Maps as list
use Rattle.gier_meaning.specs.Maps.{Map, Binding, map_of, used_in, assigned_in, map_without}
use Rattle.gier_meaning.specs.Close.{close, close_element, close_elements, close_in, close_statements}
use Rattle.gier_meaning.specs.TurnLabels.{entities_from}
use Rattle.gier_meaning.specs.Standing.{standard_bindings, initial_state}
use Rattle.gier_meaning.specs.Observation.{observation}
use Rattle.gier_meaning.specs.Tasks as copy
use Rattle.gier_meaning.specs.Statements as copied
use Rattle.gier_meaning.specs.Meaning as closed
use Rattle.gier_env.specs.Env.{Env, Outermost, Inside, NoBindings, with_entities}
use Rattle.gier_env.specs.Closures.{Closure, what_of}
use Rattle.gier_env.specs.Standing as standing
use Rattle.gier_env.specs.Tasks as env
use Rattle.gier_env.specs.Statements as stated
use Rattle.gier_env.specs.Meaning as here
use Rattle.gier_copy.specs.Same.{AreSame}
use Rattle.gier_copy.proofs.Images.{used, used_by, assigned, assigned_by, map_in, state_of, carried, same}
use Rattle.gier_copy.proofs.Envs.{proper_in, numbered_list, used_before, assigned_before}
use Rattle.gier_copy.proofs.Rooms.{statement_same}
use Rattle.gier_copy.proofs.States.{caught_same}
use Rattle.gier_copy.proofs.Agree.{Agree, Fits, what_closed, what_match, loop_of}
use Rattle.gier_copy.proofs.Parts.{value_same, address_same, destination_same}
use Rattle.gier_copy.proofs.ForLoops.{again_same}
use Rattle.gier_copy.proofs.StatementsAgree.{run_same, resume_all_same}
use Rattle.gier_copy.proofs.EntriesAgree.{block_entered, procedure_entered, body_activated}

module _ (limit : ℕ) (next : copy.Next) (next1 : env.Next) (agrees : Agree next next1) where
  actual_same : (meant : Meant) (e : Expr) (env : Env) (line : ℕ) (live : Live) (s : State Closure)
      → closed.actual_address limit next meant (close (used env) e) line live (state_of s)
      ≡ carried same (here.actual_address limit next1 meant e env line live s)
  actual_same AsExpression e env line live s = refl
  actual_same AsVariable e env line live s = address_same limit next next1 agrees e env live s
  actual_same AsLabel e env line live s = refl
  actual_same AsFormal e env line live s = address_same limit next next1 agrees e env live s

  rest_same : (label : ℕ) (own : List ℕ) (m : Map) (turn : List Binding) (ss : Statements) (env : Env) → Fits m turn env
      → (live : Live) (s : State Closure)
      → closed.rest_run limit next label own turn (close_statements m ss) live (state_of s)
      ≡ carried same (here.rest_run limit next1 label own ss env live s)
  rest_same label own m turn ss env fits live s =
      caught_same same own (λ label1 s1. next1.rest label1 own ss env live s1)
      (λ label1 s1. next.rest label1 own turn (close_statements m ss) live s1) _ _
      (resume_all_same limit next next1 agrees label ss m turn env fits live s)
      (λ label1 s1. agrees.rest label1 own m turn ss env fits live s1)

  turns_same : (loop : env.Loop) (m : Map) (turn : List Binding) (fits : Fits m turn loop.env) (element : Element)
      (elements : List Element) (live : Live) (s : State Closure)
      → closed.turns_again limit next (loop_of m turn loop) (close_element (map_in loop.env) element)
      (close_elements (map_in loop.env) elements) live (state_of s)
      ≡ carried same (here.turns_again limit next1 loop element elements live s)
  turns_same loop m turn fits element elements live s =
      again_same limit next next1 agrees m turn loop fits
      (λ inner s1. stated.run limit next1 loop.body inner live s1)
      (λ inner s1. copied.run limit next inner (close_in (map_without (labels loop.body) m) loop.body) live s1)
      (λ turn1 inner fits1 s1. run_same limit next next1 agrees loop.body (map_without (labels loop.body) m) turn1 inner fits1 live s1)
      element elements live s

  entered_agree : Agree (closed.entered limit next) (here.entered limit next1)
  entered_agree = record {
    value = value_same limit next next1 agrees;
    address = actual_same;
    destination = destination_same limit next next1 agrees;
    procedure = procedure_entered limit next next1 agrees;
    block = block_entered limit next next1 agrees;
    rest = rest_same;
    again = turns_same;
  }

nothing_agrees : Agree closed.nothing_entered here.nothing_entered
nothing_agrees = record {
  value = λ e env live s. refl;
  address = λ meant e env line live s. refl;
  destination = λ e env live s. refl;
  procedure = λ own kind formals body home passed live s. refl;
  block = λ ds ss env live s. refl;
  rest = λ label own m turn ss env fits live s. refl;
  again = λ loop m turn fits element elements live s. refl;
}

all_agree : (limit n : ℕ) → Agree (closed.within limit n) (here.within limit n)
all_agree limit zero = nothing_agrees
all_agree limit (suc n) = entered_agree limit (closed.within limit n) (here.within limit n) (all_agree limit n)

-- ---- a program

abbrev standing_env : Env
standing_env = Inside standing.standard_bindings Outermost

abbrev program_env : List ℕ → Env
program_env own = Inside (with_entities 0 (quantities own) NoBindings) standing_env

program_used : (own : List ℕ) (x : ℕ) → used_in (list.entity_bindings 0 (quantities own) ++ standard_bindings) x ≡ used (program_env own) x
program_used own x =
    ap (λ l. used_in (l ++ standard_bindings) x) (sym (append-nil (list.entity_bindings 0 (quantities own)))
    ∙ numbered_list 0 (quantities own) NoBindings)
    ∙ used_before (with_entities 0 (quantities own) NoBindings) standard_bindings x
    ∙ ap (used_by (with_entities 0 (quantities own) NoBindings) x) (used_before standing.standard_bindings [] x)

program_assigned : (own : List ℕ) (x : ℕ) → assigned_in (list.entity_bindings 0 (quantities own) ++ standard_bindings) x
    ≡ assigned (program_env own) x
program_assigned own x =
    ap (λ l. assigned_in (l ++ standard_bindings) x)
    (sym (append-nil (list.entity_bindings 0 (quantities own))) ∙ numbered_list 0 (quantities own) NoBindings)
    ∙ assigned_before (with_entities 0 (quantities own) NoBindings) standard_bindings x
    ∙ ap (assigned_by (with_entities 0 (quantities own) NoBindings) x) (assigned_before standing.standard_bindings [] x)

program_map : (own : List ℕ) → map_of (list.entity_bindings 0 (quantities own) ++ standard_bindings) ≡ map_in (program_env own)
program_map own = ap₂ (λ f g. record { used = f; assigned = g }) (fun_ext (program_used own)) (fun_ext (program_assigned own))

run_told : (limit n line : ℕ) (s : Statement) (own : List ℕ) (e : Env) (o : Option ℕ) (room : ℕ) (st : State Closure)
    → closed.program_run limit (closed.within limit n) line (close_in (map_in e) s) own o room (state_of st)
    ≡ carried same (here.program_run limit (here.within limit n) line s own e o room st)
run_told limit n line s own e None room st = refl
run_told limit n line s own e (Some most) room st =
    body_activated limit (closed.within limit n) (here.within limit n) (all_agree limit n) s own e
    (record { shape = InProgram; words = room } ∷ []) (record st { most = most })

executed_same : (limit n line : ℕ) (s : Statement) (own : List ℕ) (e : Env) (st : State Closure)
    → closed.executed limit n line (close_in (map_in e) s) own (state_of st) ≡ carried same (here.executed limit n line s own e st)
executed_same limit n line s own e st =
    ap (λ room. closed.program_run limit (closed.within limit n) line (close_in (map_in e) s) own (live_after_taking limit 0 0 room) room (state_of st))
    (ap (λ u. 3 + u) (statement_same (map_in e) (what_closed st) (what_of e st) (proper_in e).used (what_match e st) s))
    ∙ run_told limit n line s own e (live_after_taking limit 0 0 (program_room (what_of e st) s)) (program_room (what_of e st) s) st

told_same : (n : ℕ) (r : Outcome Closure Finished) → observation n (carried same r) ≡ observation n r
told_same n (Gives Done s) = refl
told_same n (Goes label s) = refl
told_same n (Stops why stop s) = refl

pub same_meaning : AreSame
same_meaning limit program unread permitted =
    let whole : Whole = plain program in
    let own : List ℕ = labels whole.statement in
    ap (λ m. observation permitted (closed.executed limit permitted whole.line (close_in m whole.statement) (entities_from 0 own)
    (initial_state unread permitted))) (program_map own)
    ∙ ap (observation permitted) (executed_same limit permitted whole.line whole.statement (entities_from 0 own) (program_env own)
    (initial_state unread permitted))
    ∙ told_same permitted (here.executed limit permitted whole.line whole.statement (entities_from 0 own) (program_env own)
    (initial_state unread permitted))
