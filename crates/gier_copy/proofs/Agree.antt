-- When what is entered by the copy rule agrees with what is entered with environments.
use Rattle.std.proofs.Common.{◌≡◌, ℕ, List, [], ◌∷◌, Option, Some, None, refl, sym, ap, ap₂, ◌∙◌}
use mathlib.Core.Path.{fun_ext}
use Rattle.gier_agree.specs.declared.kind.Kind.{Kind}
use Rattle.gier_meaning.specs.Tree as name
use Rattle.gier_meaning.specs.Tree.{Meant, Name, Identifier, Expr, Exprs, Element, Formal, Statement, Statements, Declarations}
use Rattle.gier_meaning.specs.Live.{Live}
use Rattle.gier_meaning.specs.State.{Entity, Nothing, ACell, AnArray, ALabel, Kept, State}
use Rattle.gier_meaning.specs.Scopes.{labels, of_block, identifiers_of, of_procedure}
use Rattle.gier_meaning.specs.What.{What}
use Rattle.gier_meaning.specs.Maps.{Map, Binding, map_of, used_in, assigned_in, map_without, hidden_in_body}
use Rattle.gier_meaning.specs.Close.{close_name, close, close_lefts, close_element, close_elements, close_in, close_statements, close_declarations}
use Rattle.gier_meaning.specs.TurnLabels.{name_in_turn, in_turn, lefts_in_turn, elements_in_turn, inner, declarations_in_turn, statements_in_turn}
use Rattle.gier_meaning.specs.Bodies.{Body, ProcedureBody, SwitchList, body_what, entity_what, as_formal, what_in}
use Rattle.gier_meaning.specs.Tasks as copy
use Rattle.gier_env.specs.Env.{Env, Denoted, AnEntity, AProcedure, AFormalProcedure, AText, AStandard, AnActual, denotation, left_meaning, found}
use Rattle.gier_env.specs.Closures.{Closure, closure_what, denoted_what, option_what, what_of}
use Rattle.gier_env.specs.Tasks as env
use Rattle.gier_copy.proofs.Images.{used, assigned, name_of, map_in, body_in, entity_of, state_of, carried, same, all_passed}
use Rattle.gier_copy.proofs.Closing.{ProperMap, then_map, name_same, close_then, lefts_then, elements_then, statements_then, declarations_then, block_stays, keeps_hidden, proper_map, hidden_map}
use Rattle.gier_copy.proofs.Envs.{name_in, name_meant, left_meant}
use Rattle.gier_copy.proofs.Rooms.{Match}

-- a statement closed by m, which stands in these turns, belongs to the statement itself in an environment
pub record Fits (m : Map) (turn : List Binding) (e : Env) : Type 0 where
  pub proper : ProperMap m
  pub used : (x : ℕ) → close_name (used_in turn) (m.used x) ≡ used e x
  pub assigned : (x : ℕ) → close_name (assigned_in turn) (m.assigned x) ≡ assigned e x

-- a for statement closed so
abbrev pub loop_of : Map → List Binding → env.Loop → copy.Loop
loop_of m turn loop = record {
  line = loop.line;
  variable = close_name (used loop.env) loop.variable;
  place = loop.place;
  turn = turn;
  body = close_in (map_without (labels loop.body) m) loop.body;
}

pub record Agree (next : copy.Next) (next1 : env.Next) : Type 0 where
  pub value : (e : Expr) (env : Env) (live : Live) (s : State Closure) → next.value (close (used env) e) live (state_of s)
      ≡ carried same (next1.value e env live s)
  pub address : (meant : Meant) (e : Expr) (env : Env) (line : ℕ) (live : Live) (s : State Closure)
      → next.address meant (close (used env) e) line live (state_of s) ≡ carried same (next1.address meant e env line live s)
  pub destination : (e : Expr) (env : Env) (live : Live) (s : State Closure) → next.destination (close (used env) e) live (state_of s)
      ≡ carried same (next1.destination e env live s)
  pub procedure : (own : ℕ) (kind : Kind) (formals : List Formal) (body : Statement) (home : Env) (passed : List env.Passed) (live : Live)
      (s : State Closure)
      → next.procedure own kind formals (close_in (hidden_in_body kind own (of_procedure formals body) (map_in home)) body)
      (all_passed passed) live (state_of s)
      ≡ carried same (next1.procedure own kind formals body home passed live s)
  pub block : (ds : Declarations) (ss : Statements) (env : Env) (live : Live) (s : State Closure)
      → next.block (close_declarations (map_without (identifiers_of (of_block ds ss)) (map_in env)) ds)
      (close_statements (map_without (identifiers_of (of_block ds ss)) (map_in env)) ss) live (state_of s)
      ≡ carried same (next1.block ds ss env live s)
  pub rest : (label : ℕ) (own : List ℕ) (m : Map) (turn : List Binding) (ss : Statements) (env : Env) → Fits m turn env
      → (live : Live) (s : State Closure)
      → next.rest label own turn (close_statements m ss) live (state_of s) ≡ carried same (next1.rest label own ss env live s)
  pub again : (loop : env.Loop) (m : Map) (turn : List Binding) → Fits m turn loop.env
      → (element : Element) (elements : List Element) (live : Live) (s : State Closure)
      → next.again (loop_of m turn loop) (close_element (map_in loop.env) element) (close_elements (map_in loop.env) elements) live
      (state_of s)
      ≡ carried same (next1.again loop element elements live s)

-- ---- names

-- a closed name and what is meant
abbrev pub Meets : Name → Option Denoted → Type 0
Meets n None = (x : ℕ) × (n ≡ Identifier x)
Meets n (Some d) = n ≡ name_of d

meets_by : (n u : Name) (x : ℕ) (o : Option Denoted) → n ≡ Identifier x → u ≡ name_in n o → Meets u o
meets_by n u x None e p = (x, p ∙ e)
meets_by n u x (Some d) e p = p

pub name_meets : (e : Env) (n : Name) → Meets (close_name (used e) n) (denotation e n)
name_meets e (Identifier x) = meets_by (Identifier x) (used e x) x (found e x) refl (name_meant e (Identifier x))
name_meets e (name.AnEntity n) = refl
name_meets e (name.AProcedure n) = refl
name_meets e (name.AFormalProcedure n) = refl
name_meets e (name.AText bytes) = refl
name_meets e (name.AStandard standard) = refl
name_meets e (name.AnActual meant kind a) = name_meant e (name.AnActual meant kind a)

pub left_meets : (e : Env) (n : Name) → Meets (close_name (assigned e) n) (left_meaning e n)
left_meets e (Identifier x) = meets_by (Identifier x) (assigned e x) x (left_meaning e (Identifier x)) refl (left_meant e (Identifier x))
left_meets e (name.AnEntity n) = refl
left_meets e (name.AProcedure n) = refl
left_meets e (name.AFormalProcedure n) = refl
left_meets e (name.AText bytes) = refl
left_meets e (name.AStandard standard) = refl
left_meets e (name.AnActual meant kind a) = left_meant e (name.AnActual meant kind a)

body_what_same : (e : Env) (b : Body) → body_what (body_in e b) ≡ body_what b
body_what_same e (ProcedureBody own kind formals body) = refl
body_what_same e (SwitchList elements) = refl

entity_what_same : (e : Entity Closure) → entity_what body_what (entity_of e) ≡ entity_what closure_what e
entity_what_same Nothing = refl
entity_what_same (ACell kind v) = refl
entity_what_same (AnArray kind bounds elements) = refl
entity_what_same ALabel = refl
entity_what_same (Kept closure) = body_what_same closure.home closure.body

abbrev pub what_closed : State Closure → Name → What
what_closed s = what_in body_what (λ n. entity_of (s.store n))

denoted_what_same : (s : State Closure) (d : Denoted) → what_closed s (name_of d) ≡ denoted_what s.store d
denoted_what_same s (AnEntity n) = entity_what_same (s.store n)
denoted_what_same s (AProcedure n) = entity_what_same (s.store n)
denoted_what_same s (AFormalProcedure n) = ap as_formal (entity_what_same (s.store n))
denoted_what_same s (AText bytes) = refl
denoted_what_same s (AStandard standard) = refl
denoted_what_same s (AnActual meant kind e env) = refl

option_what_same : (s : State Closure) (n : Name) (o : Option Denoted) → Meets n o → what_closed s n ≡ option_what s.store o
option_what_same s n None m = ap (what_closed s) m.1
option_what_same s n (Some d) m = ap (what_closed s) m ∙ denoted_what_same s d

pub what_match : (e : Env) (s : State Closure) → Match (used e) (what_closed s) (what_of e s)
what_match e s n = option_what_same s (close_name (used e) n) (denotation e n) (name_meets e n)

-- ---- in turns

-- with the labels of the turns, m is the map of the environment
pub fits_map : (m : Map) (turn : List Binding) (e : Env) → Fits m turn e → then_map m (map_of turn) ≡ map_in e
fits_map m turn e fits = ap₂ (λ f g. record { used = f; assigned = g }) (fun_ext fits.used) (fun_ext fits.assigned)

fits_none : (m : Map) (e : Env) → Fits m [] e → m ≡ map_in e
fits_none m e fits =
    ap₂ (λ f g. record { used = f; assigned = g }) (fun_ext (λ x. sym (name_same (m.used x)) ∙ fits.used x))
    (fun_ext (λ x. sym (name_same (m.assigned x)) ∙ fits.assigned x))

abbrev used_of : Map → ℕ → Name
used_of m = m.used

pub name_turned : (m : Map) (turn : List Binding) (e : Env) → Fits m turn e → (n : Name) → name_in_turn turn (close_name m.used n)
    ≡ close_name (used e) n
name_turned m [] e fits n = ap (λ k. close_name (used_of k) n) (fits_none m e fits)
name_turned m (b ∷ turn) e fits n = by n
  where
    by : (n : Name) → close_name (used_in (b ∷ turn)) (close_name m.used n) ≡ close_name (used e) n
    by (Identifier x) = fits.used x
    by (name.AnEntity n) = refl
    by (name.AProcedure n) = refl
    by (name.AFormalProcedure n) = refl
    by (name.AText bytes) = refl
    by (name.AStandard standard) = refl
    by (name.AnActual meant kind a) = refl

pub turned : (m : Map) (turn : List Binding) (e : Env) → Fits m turn e → (a : Expr) → in_turn turn (close m.used a) ≡ close (used e) a
turned m [] e fits a = ap (λ k. close (used_of k) a) (fits_none m e fits)
turned m (b ∷ turn) e fits a = close_then m.used (used_in (b ∷ turn)) a ∙ ap (λ k. close (used_of k) a) (fits_map m (b ∷ turn) e fits)

pub lefts_turned : (m : Map) (turn : List Binding) (e : Env) → Fits m turn e → (as_ : Exprs) → lefts_in_turn turn (close_lefts m as_)
    ≡ close_lefts (map_in e) as_
lefts_turned m [] e fits as_ = ap (λ k. close_lefts k as_) (fits_none m e fits)
lefts_turned m (b ∷ turn) e fits as_ = lefts_then m (map_of (b ∷ turn)) as_ ∙ ap (λ k. close_lefts k as_) (fits_map m (b ∷ turn) e fits)

pub elements_turned : (m : Map) (turn : List Binding) (e : Env) → Fits m turn e → (es : List Element)
    → elements_in_turn turn (close_elements m es) ≡ close_elements (map_in e) es
elements_turned m [] e fits es = ap (λ k. close_elements k es) (fits_none m e fits)
elements_turned m (b ∷ turn) e fits es = elements_then m (map_of (b ∷ turn)) es
    ∙ ap (λ k. close_elements k es) (fits_map m (b ∷ turn) e fits)

module _ (m : Map) (turn : List Binding) (e : Env) (fits : Fits m turn e) (ds : Declarations) (ss : Statements) where
  abbrev own : List ℕ
  own = identifiers_of (of_block ds ss)

  abbrev ds1 : Declarations
  ds1 = close_declarations (map_without own m) ds

  abbrev ss1 : Statements
  ss1 = close_statements (map_without own m) ss

  own_same : identifiers_of (of_block ds1 ss1) ≡ own
  own_same = ap identifiers_of (block_stays (map_without own m) ds ss (keeps_hidden own m.used))

  inner_map : then_map (map_without own m) (map_without own (map_of turn)) ≡ map_without own (map_in e)
  inner_map = hidden_map own m (map_of turn) fits.proper ∙ ap (map_without own) (fits_map m turn e fits)

  declarations_inner : close_declarations (inner turn ds1 ss1) ds1 ≡ close_declarations (map_without own (map_in e)) ds
  declarations_inner =
      ap (λ u. close_declarations (map_without u (map_of turn)) ds1) own_same
      ∙ declarations_then (map_without own m) (map_without own (map_of turn)) (proper_map own m fits.proper) ds
      ∙ ap (λ k. close_declarations k ds) inner_map

  statements_inner : close_statements (inner turn ds1 ss1) ss1 ≡ close_statements (map_without own (map_in e)) ss
  statements_inner =
      ap (λ u. close_statements (map_without u (map_of turn)) ss1) own_same
      ∙ statements_then (map_without own m) (map_without own (map_of turn)) (proper_map own m fits.proper) ss
      ∙ ap (λ k. close_statements k ss) inner_map

pub declarations_turned : (m : Map) (turn : List Binding) (e : Env) → Fits m turn e → (ds : Declarations) (ss : Statements)
    → declarations_in_turn turn (close_declarations (map_without (identifiers_of (of_block ds ss)) m) ds)
    (close_statements (map_without (identifiers_of (of_block ds ss)) m) ss)
    ≡ close_declarations (map_without (identifiers_of (of_block ds ss)) (map_in e)) ds
declarations_turned m [] e fits ds ss = ap (λ k. close_declarations (map_without (identifiers_of (of_block ds ss)) k) ds) (fits_none m e fits)
declarations_turned m (b ∷ turn) e fits ds ss = declarations_inner m (b ∷ turn) e fits ds ss

pub statements_turned : (m : Map) (turn : List Binding) (e : Env) → Fits m turn e → (ds : Declarations) (ss : Statements)
    → statements_in_turn turn (close_declarations (map_without (identifiers_of (of_block ds ss)) m) ds)
    (close_statements (map_without (identifiers_of (of_block ds ss)) m) ss)
    ≡ close_statements (map_without (identifiers_of (of_block ds ss)) (map_in e)) ss
statements_turned m [] e fits ds ss = ap (λ k. close_statements (map_without (identifiers_of (of_block ds ss)) k) ss) (fits_none m e fits)
statements_turned m (b ∷ turn) e fits ds ss = statements_inner m (b ∷ turn) e fits ds ss
