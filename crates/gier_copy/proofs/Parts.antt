-- Names, calls and expressions give the same.
use Rattle.std.proofs.Common.{◌≡◌, ℕ, zero, suc, ℤ, pos, negsuc, List, [], ◌∷◌, Option, Some, None, refl, sym, ap, ap₂, ◌∙◌}
use Rattle.gier_agree.specs.declared.kind.Kind.{Kind}
use Rattle.gier_agree.specs.declared.kind.Kind.TheVariants as kind
use Rattle.gier_agree.specs.Kinds.{wanted_by}
use Rattle.gier_tree.specs.declared.kind.Kind.{Kind as Standard}
use Rattle.gier_tree.specs.declared.kind.Kind.TheVariants.{OutText}
use Rattle.gier_meaning.specs.Tree as name
use Rattle.gier_meaning.specs.Tree.{Meant, AsExpression, AsLabel, Name, Identifier, Expr, Number, Logical, Alone, Subscripted, Called, Bracketed, Prefixed, Joined, IfExpr, Quoted, Exprs, NoExprs, MoreExprs, Formal, Statement}
use Rattle.gier_meaning.specs.Lines.{line_of}
use Rattle.gier_meaning.specs.Live.{Live, InProcedure, InEvaluation}
use Rattle.gier_meaning.specs.State.{Entity, Nothing, ACell, AnArray, ALabel, Kept, State}
use Rattle.gier_meaning.specs.Outcome.{Outcome, Gives, senseless}
use Rattle.gier_meaning.specs.Operators.{is_true, apply_operator, apply_prefix}
use Rattle.gier_meaning.specs.Scopes.{of_procedure}
use Rattle.gier_meaning.specs.What.{kinds}
use Rattle.gier_meaning.specs.Room.{evaluation_room, procedure_room}
use Rattle.gier_meaning.specs.Passing.{agree, actual_kinds, is_by_value, meant}
use Rattle.gier_meaning.specs.Maps.{hidden_in_body}
use Rattle.gier_meaning.specs.Close.{close_name, close, close_all, close_left, close_lefts, close_in}
use Rattle.gier_meaning.specs.Bodies.{Body, ProcedureBody, SwitchList}
use Rattle.gier_meaning.specs.Tasks as copy
use Rattle.gier_meaning.specs.Names as named
use Rattle.gier_meaning.specs.Names.{switch_element, picked_from}
use Rattle.gier_meaning.specs.Calls as called
use Rattle.gier_meaning.specs.Calls.{standard_formals}
use Rattle.gier_meaning.specs.Expressions as closed
use Rattle.gier_env.specs.Env.{Env, Denoted, AnEntity, AProcedure, AFormalProcedure, AText, AStandard, AnActual, denotation, left_meaning}
use Rattle.gier_env.specs.Closures.{Closure, what_of}
use Rattle.gier_env.specs.Tasks as env
use Rattle.gier_env.specs.Names as names
use Rattle.gier_env.specs.Calls as calls
use Rattle.gier_env.specs.Expressions as here
use Rattle.gier_copy.proofs.Images.{used, assigned, name_of, map_in, body_in, entity_of, state_of, carried, same, passed_of, all_passed}
use Rattle.gier_copy.proofs.Closing.{close_same}
use Rattle.gier_copy.proofs.Envs.{proper_in, name_in, found_named}
use Rattle.gier_copy.proofs.Rooms.{room_same, procedure_same, meant_same, actual_kinds_same}
use Rattle.gier_copy.proofs.States.{value_found, then_same, either_same, enter_same, settled_same, standard_alone_same, standard_of_same, cell_value_same, cell_address_same, label_at_same, element_address_same}
use Rattle.gier_copy.proofs.Agree.{Agree, Meets, name_meets, left_meets, what_closed, what_match}

-- ---- what is handed over

pub line_same : (f : ℕ → Name) (e : Expr) → line_of (close f e) ≡ line_of e
line_same f (Number value line) = refl
line_same f (Logical b line) = refl
line_same f (Alone n line) = refl
line_same f (Subscripted n line es) = refl
line_same f (Called n line es) = refl
line_same f (Bracketed line e) = refl
line_same f (Prefixed op line e) = refl
line_same f (Joined a op line b) = line_same f a
line_same f (IfExpr line test a b) = refl
line_same f (Quoted bytes line) = refl

alone_handed_name : (k : Kind) (line : ℕ) (d : Denoted) → called.alone_handed k (name_of d) line ≡ name_of d
alone_handed_name k line (AnEntity n) = refl
alone_handed_name k line (AProcedure n) = refl
alone_handed_name k line (AFormalProcedure n) = refl
alone_handed_name k line (AText bytes) = refl
alone_handed_name k line (AStandard standard) = refl
alone_handed_name k line (AnActual meant kind e env) = refl

alone_handed_same : (env : Env) (k : Kind) (n : Name) (line : ℕ) → called.alone_handed k (close_name (used env) n) line
    ≡ name_of (calls.alone_handed k n line (denotation env n))
alone_handed_same env k (Identifier x) line = by (used env x) (denotation env (Identifier x)) (found_named env x)
  where
    by : (u : Name) (o : Option Denoted) → u ≡ name_in (Identifier x) o → called.alone_handed k u line
        ≡ name_of (calls.alone_handed k (Identifier x) line o)
    by u None e = ap (λ v. called.alone_handed k v line) e
    by u (Some d) e = ap (λ v. called.alone_handed k v line) e ∙ alone_handed_name k line d
alone_handed_same env k (name.AnEntity n) line = refl
alone_handed_same env k (name.AProcedure n) line = refl
alone_handed_same env k (name.AFormalProcedure n) line = refl
alone_handed_same env k (name.AText bytes) line = refl
alone_handed_same env k (name.AStandard standard) line = refl
alone_handed_same env k (name.AnActual meant kind e) line = ap (name.AnActual meant kind) (sym (close_same e))

as_it_is_same : (env : Env) (k : Kind) (e : Expr) → called.as_it_is k (close (used env) e) ≡ name_of (calls.as_it_is env k e)
as_it_is_same env k (Number value line) = refl
as_it_is_same env k (Logical b line) = refl
as_it_is_same env k (Alone n line) = alone_handed_same env k n line
as_it_is_same env k (Subscripted n line es) = refl
as_it_is_same env k (Called n line es) = refl
as_it_is_same env k (Bracketed line e) = refl
as_it_is_same env k (Prefixed op line e) = refl
as_it_is_same env k (Joined a op line b) = refl
as_it_is_same env k (IfExpr line test a b) = refl
as_it_is_same env k (Quoted bytes line) = refl

through_same : (d : Denoted) → called.through_formal (name_of d) ≡ name_of (calls.through_formal d)
through_same (AnEntity n) = refl
through_same (AProcedure n) = refl
through_same (AFormalProcedure n) = refl
through_same (AText bytes) = refl
through_same (AStandard standard) = refl
through_same (AnActual meant kind e env) = refl

passed_same : (s : State Closure) (env : Env) (k : Kind) (e : Expr) → called.passed_name (what_closed s) k (close (used env) e)
    ≡ name_of (calls.passed_meaning s env k e)
passed_same s env kind.Integer e = ap (λ u. name.AnActual u kind.Integer (close (used env) e))
    (meant_same (used env) (what_closed s) (what_of env s) (what_match env s) e)
passed_same s env kind.Boolean e = ap (λ u. name.AnActual u kind.Boolean (close (used env) e))
    (meant_same (used env) (what_closed s) (what_of env s) (what_match env s) e)
passed_same s env kind.Label e = refl
passed_same s env kind.Procedure e = ap called.through_formal (as_it_is_same env kind.Procedure e)
    ∙ through_same (calls.as_it_is env kind.Procedure e)
passed_same s env kind.IntegerProcedure e = ap called.through_formal (as_it_is_same env kind.IntegerProcedure e)
    ∙ through_same (calls.as_it_is env kind.IntegerProcedure e)
passed_same s env kind.BooleanProcedure e = ap called.through_formal (as_it_is_same env kind.BooleanProcedure e)
    ∙ through_same (calls.as_it_is env kind.BooleanProcedure e)
passed_same s env k e = as_it_is_same env k e

abbrev all_names : List Denoted → List Name
all_names [] = []
all_names (d ∷ ds) = name_of d ∷ all_names ds

all_passed_same : (s : State Closure) (env : Env) (formals : List Kind) (es : Exprs)
    → called.passed_names (what_closed s) formals (close_all (used env) es) ≡ all_names (calls.passed_meanings s env formals es)
all_passed_same s env [] es = refl
all_passed_same s env (k ∷ ks) NoExprs = refl
all_passed_same s env (k ∷ ks) (MoreExprs e es) = ap₂ ◌∷◌ (passed_same s env (wanted_by k) e) (all_passed_same s env ks es)

standard_passed_same : (k : Standard) (passed : List env.Passed) (line : ℕ) (live : Live) (s : State Closure)
    → called.standard_passed k (all_passed passed) line live (state_of s) ≡ carried same (calls.standard_passed k passed line live s)
standard_passed_same k (env.AValue v ∷ []) line live s = standard_of_same k v line live s
standard_passed_same OutText (env.AMeaning (AText bytes) ∷ []) line live s = refl
standard_passed_same _ _ line live s = refl

picked_from_same : (f : ℕ → Name) (i : ℕ) (es : Exprs) (P : Option Expr → Option Expr → Type 0) → P None None
    → ((e : Expr) → P (Some (close f e)) (Some e)) → P (picked_from i (close_all f es)) (picked_from i es)
picked_from_same f zero NoExprs P p q = p
picked_from_same f (suc i) NoExprs P p q = p
picked_from_same f zero (MoreExprs e es) P p q = q e
picked_from_same f (suc i) (MoreExprs e es) P p q = picked_from_same f i es P p q

picked_same : (f : ℕ → Name) (i : ℤ) (es : Exprs) (P : Option Expr → Option Expr → Type 0) → P None None
    → ((e : Expr) → P (Some (close f e)) (Some e)) → P (switch_element i (close_all f es)) (switch_element i es)
picked_same f (pos zero) es P p q = p
picked_same f (pos (suc i)) es P p q = picked_from_same f i es P p q
picked_same f (negsuc i) es P p q = p

-- ---- names

element_denoted : (d : Denoted) (xs : List ℤ) (line : ℕ) (live : Live) (s : State Closure)
    → named.element_of (name_of d) xs line live (state_of s) ≡ carried same (names.element_of (Some d) xs line live s)
element_denoted (AnEntity n) xs line live s = element_address_same (s.store n) n xs line live s
element_denoted (AProcedure n) xs line live s = refl
element_denoted (AFormalProcedure n) xs line live s = refl
element_denoted (AText bytes) xs line live s = refl
element_denoted (AStandard standard) xs line live s = refl
element_denoted (AnActual meant kind e env) xs line live s = refl

element_same : (u : Name) (o : Option Denoted) → Meets u o → (xs : List ℤ) (line : ℕ) (live : Live) (s : State Closure)
    → named.element_of u xs line live (state_of s) ≡ carried same (names.element_of o xs line live s)
element_same u None m xs line live s = ap (λ v. named.element_of v xs line live (state_of s)) m.1
element_same u (Some d) m xs line live s = ap (λ v. named.element_of v xs line live (state_of s)) m ∙ element_denoted d xs line live s

module _ (limit : ℕ) (next : copy.Next) (next1 : env.Next) (agrees : Agree next next1) where
  evaluation_same : {T : Type 0} (e : Expr) (env : Env) (line : ℕ) (live : Live) (s : State Closure)
      (go : Live → State Closure → Outcome Closure T) (go1 : Live → State Body → Outcome Body T)
      → ((live : Live) (s : State Closure) → go1 live (state_of s) ≡ carried same (go live s))
      → named.evaluation limit (close (used env) e) line live (state_of s) go1 ≡ carried same (names.evaluation limit e env line live s go)
  evaluation_same e env line live s go go1 each =
      enter_same same limit (InEvaluation line) (evaluation_room (what_of env s) e)
      (evaluation_room (what_closed s) (close (used env) e)) line live s go go1
      (room_same (used env) (what_closed s) (what_of env s) (what_match env s) e) each

  value_denoted : (d : Denoted) (line : ℕ) (live : Live) (s : State Closure) → named.value_of limit next (name_of d) line live (state_of s)
      ≡ carried same (names.value_of limit next1 (Some d) line live s)
  value_denoted (AnEntity n) line live s = cell_value_same (s.store n) line live s
  value_denoted (AProcedure n) line live s = refl
  value_denoted (AFormalProcedure n) line live s = refl
  value_denoted (AText bytes) line live s = refl
  value_denoted (AStandard standard) line live s = refl
  value_denoted (AnActual meant kind e env) line live s = evaluation_same e env line live s _ _ (λ live1 s1. agrees.value e env live1 s1)

  address_denoted : (d : Denoted) (line : ℕ) (live : Live) (s : State Closure)
      → named.address_of limit next (name_of d) line live (state_of s) ≡ carried same (names.address_of limit next1 (Some d) line live s)
  address_denoted (AnEntity n) line live s = cell_address_same (s.store n) n line live s
  address_denoted (AProcedure n) line live s = refl
  address_denoted (AFormalProcedure n) line live s = refl
  address_denoted (AText bytes) line live s = refl
  address_denoted (AStandard standard) line live s = refl
  address_denoted (AnActual meant kind e env) line live s = evaluation_same e env line live s _ _
      (λ live1 s1. agrees.address meant e env line live1 s1)

  address_named : (u : Name) (o : Option Denoted) → Meets u o → (line : ℕ) (live : Live) (s : State Closure)
      → named.address_of limit next u line live (state_of s) ≡ carried same (names.address_of limit next1 o line live s)
  address_named u None m line live s = ap (λ v. named.address_of limit next v line live (state_of s)) m.1
  address_named u (Some d) m line live s = ap (λ v. named.address_of limit next v line live (state_of s)) m ∙ address_denoted d line live s

  destination_denoted : (d : Denoted) (line : ℕ) (live : Live) (s : State Closure)
      → named.destination_of limit next (name_of d) line live (state_of s)
      ≡ carried same (names.destination_of limit next1 (Some d) line live s)
  destination_denoted (AnEntity n) line live s = label_at_same (s.store n) n line live s
  destination_denoted (AProcedure n) line live s = refl
  destination_denoted (AFormalProcedure n) line live s = refl
  destination_denoted (AText bytes) line live s = refl
  destination_denoted (AStandard standard) line live s = refl
  destination_denoted (AnActual meant kind e env) line live s = evaluation_same e env line live s _ _
      (λ live1 s1. agrees.destination e env live1 s1)

  destination_named : (u : Name) (o : Option Denoted) → Meets u o → (line : ℕ) (live : Live) (s : State Closure)
      → named.destination_of limit next u line live (state_of s) ≡ carried same (names.destination_of limit next1 o line live s)
  destination_named u None m line live s = ap (λ v. named.destination_of limit next v line live (state_of s)) m.1
  destination_named u (Some d) m line live s = ap (λ v. named.destination_of limit next v line live (state_of s)) m
      ∙ destination_denoted d line live s

  picked_destination_same : (env : Env) (i : ℤ) (es : Exprs) (line : ℕ) (live : Live) (s : State Closure)
      → named.picked_destination limit next (switch_element i (close_all (used env) es)) line live (state_of s)
      ≡ carried same (names.picked_destination limit next1 (switch_element i es) env line live s)
  picked_destination_same env i es line live s =
      picked_same (used env) i es (λ o1 o. named.picked_destination limit next o1 line live (state_of s)
      ≡ carried same (names.picked_destination limit next1 o env line live s))
      refl (λ e. evaluation_same e env line live s _ _ (λ live1 s1. agrees.destination e env live1 s1))

  list_same : (b : Body) (env : Env) (xs : List ℤ) (line : ℕ) (live : Live) (s : State Closure)
      → named.switch_destination limit next (Kept (body_in env b)) xs line live (state_of s)
      ≡ carried same (names.list_destination limit next1 b env xs line live s)
  list_same (SwitchList es) env (i ∷ []) line live s = picked_destination_same env i es line live s
  list_same (SwitchList es) env [] line live s = refl
  list_same (SwitchList es) env (i ∷ j ∷ xs) line live s = refl
  list_same (ProcedureBody own kind formals body) env xs line live s = refl

  switch_same : (e : Entity Closure) (xs : List ℤ) (line : ℕ) (live : Live) (s : State Closure)
      → named.switch_destination limit next (entity_of e) xs line live (state_of s)
      ≡ carried same (names.switch_destination limit next1 e xs line live s)
  switch_same (Kept closure) xs line live s = list_same closure.body closure.home xs line live s
  switch_same Nothing xs line live s = refl
  switch_same (ACell kind v) xs line live s = refl
  switch_same (AnArray kind bounds elements) xs line live s = refl
  switch_same ALabel xs line live s = refl

  designator_denoted : (d : Denoted) (xs : List ℤ) (line : ℕ) (live : Live) (s : State Closure)
      → named.designator limit next (name_of d) xs line live (state_of s)
      ≡ carried same (names.designator limit next1 (Some d) xs line live s)
  designator_denoted (AnEntity n) xs line live s = switch_same (s.store n) xs line live s
  designator_denoted (AProcedure n) xs line live s = refl
  designator_denoted (AFormalProcedure n) xs line live s = refl
  designator_denoted (AText bytes) xs line live s = refl
  designator_denoted (AStandard standard) xs line live s = refl
  designator_denoted (AnActual meant kind e env) xs line live s = refl

  designator_named : (u : Name) (o : Option Denoted) → Meets u o → (xs : List ℤ) (line : ℕ) (live : Live) (s : State Closure)
      → named.designator limit next u xs line live (state_of s) ≡ carried same (names.designator limit next1 o xs line live s)
  designator_named u None m xs line live s = ap (λ v. named.designator limit next v xs line live (state_of s)) m.1
  designator_named u (Some d) m xs line live s = ap (λ v. named.designator limit next v xs line live (state_of s)) m
      ∙ designator_denoted d xs line live s

  -- ---- calls

  activation_same : (own : ℕ) (k : Kind) (formals : List Formal) (body : Statement) (home : Env) (passed : List env.Passed) (line : ℕ)
      (live : Live) (s : State Closure)
      → called.activation limit next own k formals (close_in (hidden_in_body k own (of_procedure formals body) (map_in home)) body)
      (all_passed passed) line live (state_of s)
      ≡ carried same (calls.activation limit next1 own k formals body home passed line live s)
  activation_same own k formals body home passed line live s =
      enter_same same limit (InProcedure line) (procedure_room (what_of home s) k formals body)
      (procedure_room (what_closed s) k formals (close_in
      (hidden_in_body k own (of_procedure formals body) (map_in home)) body)) line live s _ _
      (procedure_same (map_in home) (what_closed s) (what_of home s) (proper_in home).used (what_match home s) k own formals body)
      (λ live1 s1. agrees.procedure own k formals body home passed live1 s1)

  evaluated_same : (formals : List Kind) (ds : List Denoted) (line : ℕ) (live : Live) (s : State Closure)
      → called.evaluated limit next formals (all_names ds) line live (state_of s)
      ≡ carried all_passed (calls.evaluated limit next1 formals ds line live s)
  evaluated_same [] ds line live s = refl
  evaluated_same (k ∷ ks) [] line live s = refl
  evaluated_same (k ∷ ks) (d ∷ ds) line live s =
      then_same passed_of all_passed _ _ _ _
      (either_same passed_of (is_by_value k) (is_by_value k) s _ _ _ _ refl
      (λ s1. then_same same passed_of _ _ _ _ (value_denoted d line live s1) (λ v s2. refl))
      (λ s1. refl))
      (λ passed s1. then_same all_passed all_passed _ _ _ _ (evaluated_same ks ds line live s1) (λ rest s2. refl))

  formal_body_same : (b : Body) (home : Env) (es : Exprs) (here : Env) (line : ℕ) (live : Live) (s : State Closure)
      → called.formal_call limit next (Kept (body_in home b)) (close_all (used here) es) line live (state_of s)
      ≡ carried same (calls.formal_body_call limit next1 b home es here line live s)
  formal_body_same (ProcedureBody own k formals body) home es here line live s =
      either_same same (agree (kinds formals) (actual_kinds (what_of here s) es))
      (agree (kinds formals) (actual_kinds (what_closed s) (close_all (used here) es))) s _ _ _ _
      (ap (agree (kinds formals)) (actual_kinds_same (used here) (what_closed s) (what_of here s) (what_match here s) es))
      (λ s1. then_same all_passed same _ _ _ _
      (ap (λ u. called.evaluated limit next (kinds formals) u line live (state_of s1)) (all_passed_same s1 here (kinds formals) es)
      ∙ evaluated_same (kinds formals) (calls.passed_meanings s1 here (kinds formals) es) line live s1)
      (λ passed s2. activation_same own k formals body home passed line live s2))
      (λ s1. refl)
  formal_body_same (SwitchList elements) home es here line live s = refl

  formal_same : (e : Entity Closure) (es : Exprs) (here : Env) (line : ℕ) (live : Live) (s : State Closure)
      → called.formal_call limit next (entity_of e) (close_all (used here) es) line live (state_of s)
      ≡ carried same (calls.formal_call limit next1 e es here line live s)
  formal_same (Kept closure) es here line live s = formal_body_same closure.body closure.home es here line live s
  formal_same Nothing es here line live s = refl
  formal_same (ACell kind v) es here line live s = refl
  formal_same (AnArray kind bounds elements) es here line live s = refl
  formal_same ALabel es here line live s = refl

  -- what hands the actuals over
  abbrev Handing : (List Kind → State Closure → Outcome Closure (List env.Passed))
      → (List Kind → State Body → Outcome Body (List copy.Passed)) → Type 0
  Handing handed handed1 = (formals : List Kind) (s : State Closure) → handed1 formals (state_of s) ≡ carried all_passed (handed formals s)

  declared_body_same : (b : Body) (home : Env) (handed : List Kind → State Closure → Outcome Closure (List env.Passed))
      (handed1 : List Kind → State Body → Outcome Body (List copy.Passed)) → Handing handed handed1
      → (line : ℕ) (live : Live) (s : State Closure)
      → called.declared_call limit next (Kept (body_in home b)) handed1 line live (state_of s)
      ≡ carried same (calls.declared_body_call limit next1 b home handed line live s)
  declared_body_same (ProcedureBody own k formals body) home handed handed1 hands line live s =
      then_same all_passed same _ _ _ _ (hands (kinds formals) s) (λ passed s1. activation_same own k formals body home passed line live s1)
  declared_body_same (SwitchList elements) home handed handed1 hands line live s = refl

  declared_same : (e : Entity Closure) (handed : List Kind → State Closure → Outcome Closure (List env.Passed))
      (handed1 : List Kind → State Body → Outcome Body (List copy.Passed)) → Handing handed handed1
      → (line : ℕ) (live : Live) (s : State Closure) → called.declared_call limit next (entity_of e) handed1 line live (state_of s)
      ≡ carried same (calls.declared_call limit next1 e handed line live s)
  declared_same (Kept closure) handed handed1 hands line live s = declared_body_same closure.body closure.home handed handed1 hands line live s
  declared_same Nothing handed handed1 hands line live s = refl
  declared_same (ACell kind v) handed handed1 hands line live s = refl
  declared_same (AnArray kind bounds elements) handed handed1 hands line live s = refl
  declared_same ALabel handed handed1 hands line live s = refl

  standard_call_same : (k : Standard) (f : ℕ → Name) (es : Exprs) (handed : List Kind → State Closure → Outcome Closure (List env.Passed))
      (handed1 : List Kind → State Body → Outcome Body (List copy.Passed)) → Handing handed handed1
      → (line : ℕ) (live : Live) (s : State Closure) → called.standard_call k (close_all f es) handed1 line live (state_of s)
      ≡ carried same (calls.standard_call k es handed line live s)
  standard_call_same k f NoExprs handed handed1 hands line live s = standard_alone_same k line live s
  standard_call_same k f (MoreExprs e es) handed handed1 hands line live s =
      then_same all_passed same _ _ _ _ (hands (standard_formals k) s) (λ passed s1. standard_passed_same k passed line live s1)

  call_denoted : (d : Denoted) (es : Exprs) (here : Env) (handed : List Kind → State Closure → Outcome Closure (List env.Passed))
      (handed1 : List Kind → State Body → Outcome Body (List copy.Passed)) → Handing handed handed1
      → (line : ℕ) (live : Live) (s : State Closure)
      → called.call limit next (name_of d) (close_all (used here) es) handed1 line live (state_of s)
      ≡ carried same (calls.call limit next1 (Some d) es here handed line live s)
  call_denoted (AProcedure n) es here handed handed1 hands line live s = declared_same (s.store n) handed handed1 hands line live s
  call_denoted (AFormalProcedure n) es here handed handed1 hands line live s = formal_same (s.store n) es here line live s
  call_denoted (AStandard standard) es here handed handed1 hands line live s = standard_call_same standard
      (used here) es handed handed1 hands line live s
  call_denoted (AnEntity n) es here handed handed1 hands line live s = refl
  call_denoted (AText bytes) es here handed handed1 hands line live s = refl
  call_denoted (AnActual meant kind e env) es here handed handed1 hands line live s = refl

  call_named : (u : Name) (o : Option Denoted) → Meets u o
      → (es : Exprs) (here : Env) (handed : List Kind → State Closure → Outcome Closure (List env.Passed))
      (handed1 : List Kind → State Body → Outcome Body (List copy.Passed)) → Handing handed handed1
      → (line : ℕ) (live : Live) (s : State Closure) → called.call limit next u (close_all (used here) es) handed1 line live (state_of s)
      ≡ carried same (calls.call limit next1 o es here handed line live s)
  call_named u None m es here handed handed1 hands line live s = ap
      (λ v. called.call limit next v (close_all (used here) es) handed1 line live (state_of s)) m.1
  call_named u (Some d) m es here handed handed1 hands line live s = ap
      (λ v. called.call limit next v (close_all (used here) es) handed1 line live (state_of s)) m
      ∙ call_denoted d es here handed handed1 hands line live s

  -- ---- expressions

  none_same : (line : ℕ) (live : Live) → Handing (here.none_handed line live) (closed.none_handed line live)
  none_same line live [] s = refl
  none_same line live (k ∷ ks) s = refl

  alone_denoted : (d : Denoted) (env : Env) (line : ℕ) (live : Live) (s : State Closure)
      → closed.alone limit next (name_of d) line live (state_of s) ≡ carried same (here.alone limit next1 (Some d) env line live s)
  alone_denoted (AProcedure n) env line live s = call_denoted (AProcedure n) NoExprs env (here.none_handed line live)
      (closed.none_handed line live) (none_same line live) line live s
  alone_denoted (AFormalProcedure n) env line live s = call_denoted (AFormalProcedure n) NoExprs env (here.none_handed line live)
      (closed.none_handed line live) (none_same line live) line live s
  alone_denoted (AStandard standard) env line live s = call_denoted (AStandard standard) NoExprs env (here.none_handed line live)
      (closed.none_handed line live) (none_same line live) line live s
  alone_denoted (AnEntity n) env line live s = value_denoted (AnEntity n) line live s
  alone_denoted (AText bytes) env line live s = refl
  alone_denoted (AnActual meant kind e home) env line live s = value_denoted (AnActual meant kind e home) line live s

  alone_named : (u : Name) (o : Option Denoted) → Meets u o → (env : Env) (line : ℕ) (live : Live) (s : State Closure)
      → closed.alone limit next u line live (state_of s) ≡ carried same (here.alone limit next1 o env line live s)
  alone_named u None m env line live s = ap (λ v. closed.alone limit next v line live (state_of s)) m.1
  alone_named u (Some d) m env line live s = ap (λ v. closed.alone limit next v line live (state_of s)) m ∙ alone_denoted d env line live s

  mutual
    pub value_same : (e : Expr) (env : Env) (live : Live) (s : State Closure)
        → closed.value limit next (close (used env) e) live (state_of s) ≡ carried same (here.value limit next1 e env live s)
    value_same (Number n line) env live s = refl
    value_same (Logical b line) env live s = refl
    value_same (Alone n line) env live s = alone_named (close_name (used env) n) (denotation env n) (name_meets env n) env line live s
    value_same (Subscripted n line es) env live s =
        then_same same same _ _ _ _ (values_same es env live s) (λ xs s1.
        then_same same same _ _ _ _ (element_same (close_name (used env) n) (denotation env n) (name_meets env n) xs line live s1)
        (λ a s2. ap (λ v. Gives v (state_of s2)) (value_found a s2)))
    value_same (Called n line es) env live s =
        call_named (close_name (used env) n) (denotation env n) (name_meets env n) es env
        (λ formals s1. here.handed limit next1 formals es env line live s1)
        (λ formals s1. closed.handed limit next formals (close_all (used env) es) line live s1)
        (λ formals s1. handed_same formals es env line live s1) line live s
    value_same (Bracketed line e) env live s = value_same e env live s
    value_same (Prefixed op line e) env live s = then_same same same _ _ _ _ (value_same e env live s)
        (λ a s1. settled_same (apply_prefix op a) line live s1)
    value_same (Joined e op line f) env live s =
        then_same same same _ _ _ _ (value_same e env live s) (λ a s1.
        then_same same same _ _ _ _ (value_same f env live s1) (λ b s2. settled_same (apply_operator op a b) line live s2))
    value_same (IfExpr line test e f) env live s =
        then_same same same _ _ _ _ (value_same test env live s) (λ a s1.
        either_same same (is_true a) (is_true a) s1 _ _ _ _ refl (λ s2. value_same e env live s2) (λ s2. value_same f env live s2))
    value_same (Quoted bytes line) env live s = refl

    pub values_same : (es : Exprs) (env : Env) (live : Live) (s : State Closure)
        → closed.values limit next (close_all (used env) es) live (state_of s) ≡ carried same (here.values limit next1 es env live s)
    values_same NoExprs env live s = refl
    values_same (MoreExprs e es) env live s =
        then_same same same _ _ _ _ (value_same e env live s) (λ a s1.
        then_same same same _ _ _ _ (values_same es env live s1) (λ rest s2. refl))

    handed_same : (formals : List Kind) (es : Exprs) (env : Env) (line : ℕ) (live : Live) (s : State Closure)
        → closed.handed limit next formals (close_all (used env) es) line live (state_of s)
        ≡ carried all_passed (here.handed limit next1 formals es env line live s)
    handed_same [] NoExprs env line live s = refl
    handed_same (k ∷ ks) NoExprs env line live s = refl
    handed_same [] (MoreExprs e es) env line live s = refl
    handed_same (k ∷ ks) (MoreExprs e es) env line live s =
        then_same passed_of all_passed _ _ _ _
        (either_same passed_of (is_by_value k) (is_by_value k) s _ _ _ _ refl
        (λ s1. then_same same passed_of _ _ _ _ (value_same e env live s1) (λ a s2. refl))
        (λ s1. ap (λ u. Gives (copy.AName u) (state_of s1)) (passed_same s1 env k e)))
        (λ passed s1. then_same all_passed all_passed _ _ _ _ (handed_same ks es env line live s1) (λ rest s2. refl))

  pub address_same : (e : Expr) (env : Env) (live : Live) (s : State Closure)
      → closed.address limit next (close (used env) e) live (state_of s) ≡ carried same (here.address limit next1 e env live s)
  address_same (Alone n line) env live s = address_named (close_name (used env) n) (denotation env n) (name_meets env n) line live s
  address_same (Subscripted n line es) env live s =
      then_same same same _ _ _ _ (values_same es env live s)
      (λ xs s1. element_same (close_name (used env) n) (denotation env n) (name_meets env n) xs line live s1)
  address_same (Number n line) env live s = refl
  address_same (Logical b line) env live s = refl
  address_same (Called n line es) env live s = refl
  address_same (Bracketed line e) env live s = refl
  address_same (Prefixed op line e) env live s = refl
  address_same (Joined e op line f) env live s = ap (λ l. senseless l live (state_of s)) (line_same (used env) e)
  address_same (IfExpr line test e f) env live s = refl
  address_same (Quoted bytes line) env live s = refl

  left_address_same : (e : Expr) (env : Env) (live : Live) (s : State Closure)
      → closed.address limit next (close_left (map_in env) e) live (state_of s) ≡ carried same (here.left_address limit next1 e env live s)
  left_address_same (Alone n line) env live s = address_named (close_name (assigned env) n) (left_meaning env n)
      (left_meets env n) line live s
  left_address_same (Subscripted n line es) env live s = address_same (Subscripted n line es) env live s
  left_address_same (Number n line) env live s = refl
  left_address_same (Logical b line) env live s = refl
  left_address_same (Called n line es) env live s = refl
  left_address_same (Bracketed line e) env live s = refl
  left_address_same (Prefixed op line e) env live s = refl
  left_address_same (Joined e op line f) env live s = address_same (Joined e op line f) env live s
  left_address_same (IfExpr line test e f) env live s = refl
  left_address_same (Quoted bytes line) env live s = refl

  pub addresses_same : (es : Exprs) (env : Env) (live : Live) (s : State Closure)
      → closed.addresses limit next (close_lefts (map_in env) es) live (state_of s)
      ≡ carried same (here.addresses limit next1 es env live s)
  addresses_same NoExprs env live s = refl
  addresses_same (MoreExprs e es) env live s =
      then_same same same _ _ _ _ (left_address_same e env live s) (λ a s1.
      then_same same same _ _ _ _ (addresses_same es env live s1) (λ rest s2. refl))

  pub destination_same : (e : Expr) (env : Env) (live : Live) (s : State Closure)
      → closed.destination limit next (close (used env) e) live (state_of s) ≡ carried same (here.destination limit next1 e env live s)
  destination_same (Alone n line) env live s = destination_named (close_name (used env) n) (denotation env n) (name_meets env n) line live s
  destination_same (Subscripted n line es) env live s =
      then_same same same _ _ _ _ (values_same es env live s)
      (λ xs s1. designator_named (close_name (used env) n) (denotation env n) (name_meets env n) xs line live s1)
  destination_same (Bracketed line e) env live s = destination_same e env live s
  destination_same (IfExpr line test e f) env live s =
      then_same same same _ _ _ _ (value_same test env live s) (λ a s1.
      either_same same (is_true a) (is_true a) s1 _ _ _ _ refl (λ s2. destination_same e env live s2)
      (λ s2. destination_same f env live s2))
  destination_same (Number n line) env live s = refl
  destination_same (Logical b line) env live s = refl
  destination_same (Called n line es) env live s = refl
  destination_same (Prefixed op line e) env live s = refl
  destination_same (Joined e op line f) env live s = ap (λ l. senseless l live (state_of s)) (line_same (used env) e)
  destination_same (Quoted bytes line) env live s = refl
