-- Entered blocks and procedures give the same.
use Rattle.std.proofs.Common.{◌≡◌, ℕ, ◌+◌, pos, length, Bool, true, false, List, [], ◌∷◌, ◌++◌, Option, Some, None, refl, sym, ap, ap₂, ◌∙◌, subst, append-nil}
use Rattle.std.specs.Prelude.{◌==◌, ◌||◌}
use Rattle.gier_agree.specs.declared.kind.Kind.{Kind}
use Rattle.gier_agree.specs.declared.kind.Kind.TheVariants as kind
use Rattle.gier_agree.specs.Kinds.{wanted_by}
use Rattle.gier_meaning.specs.Tree.{Name, Formal, Statement, Statements, NoStatements, MoreStatements, Declarations, NoDeclarations, Variables, Arrays, Switch, Procedure}
use Rattle.gier_meaning.specs.Live.{Live}
use Rattle.gier_meaning.specs.State.{Pair, Entity, ACell, AnArray, Kept, State, with_entity, given_out}
use Rattle.gier_meaning.specs.Address.{CellAt}
use Rattle.gier_meaning.specs.Arrays.{bound_pairs, are_bounds, elements_of, no_elements}
use Rattle.gier_meaning.specs.Outcome.{Outcome, Gives, Finished, is_among}
use Rattle.gier_meaning.specs.Scopes.{Declared, declared_names, of_block, quantities, labels, all_labels, identifiers_of, formal_identifiers, of_procedure}
use Rattle.gier_meaning.specs.Maps as list
use Rattle.gier_meaning.specs.Maps.{Map, Binding, map_of, used_in, assigned_in, map_without, own_left, hidden_in_body}
use Rattle.gier_meaning.specs.Close.{close_name, close_names, close_in, close_statements, close_declarations}
use Rattle.gier_meaning.specs.TurnLabels.{entities_from, labels_made}
use Rattle.gier_meaning.specs.Bodies.{Body, ProcedureBody, SwitchList}
use Rattle.gier_meaning.specs.Tasks as copy
use Rattle.gier_meaning.specs.Statements as copied
use Rattle.gier_meaning.specs.Blocks as blocks
use Rattle.gier_env.specs.Env.{Env, Inside, Bindings, NoBindings, Returns, Denoted, AnEntity, AProcedure, AFormalProcedure, AText, AStandard, AnActual, denotation, with_entities}
use Rattle.gier_env.specs.Closures.{Closure}
use Rattle.gier_env.specs.Tasks as env
use Rattle.gier_env.specs.Blocks as here
use Rattle.gier_copy.proofs.Images.{used, assigned, name_of, map_in, entity_of, state_of, carried, same, all_passed}
use Rattle.gier_copy.proofs.Closing.{then_map, Keeps, of_quantities, keeps_hidden, keeps_left, keeps_right, declared_stay, all_labels_stay, labels_stay, block_identifiers, declarations_then, statements_then, in_then, proper_map, proper_body, name_same, among_append}
use Rattle.gier_copy.proofs.Envs.{proper_in, list_of, numbered_list, formals_list, means_in, all_in, numbered_means, numbered_all, formals_means, formals_all, entering_used, entering_assigned}
use Rattle.gier_copy.proofs.States.{entity_put, value_found, labels_of, then_same, either_same, caught_same, take_same}
use Rattle.gier_copy.proofs.Agree.{Agree, Fits, Meets, name_meets}
use Rattle.gier_copy.proofs.Parts.{values_same}
use Rattle.gier_copy.proofs.StatementsAgree.{run_same, run_all_same}

abbrev as_map : (ℕ → Name) → (ℕ → Name) → Map
as_map f g = record { used = f; assigned = g }

pub fits_in : (e : Env) → Fits (map_in e) [] e
fits_in e = record { proper = proper_in e; used = λ x. name_same (used e x); assigned = λ x. name_same (assigned e x) }

-- the map within an activation, where xs and ys stayed
within_map : (e : Env) (bs : Bindings) (l : List Binding) (xs ys : List ℕ) → l ≡ list_of bs
    → ((x : ℕ) → is_among x (means_in bs) ≡ is_among x xs) → ((x : ℕ) → is_among x (all_in bs) ≡ is_among x ys)
    → then_map (as_map (list.hidden_from xs (used e)) (list.hidden_from ys (assigned e))) (map_of l) ≡ map_in (Inside bs e)
within_map e bs l xs ys is means all =
    ap (λ u. then_map (as_map (list.hidden_from xs (used e)) (list.hidden_from ys (assigned e))) (map_of u))
    (is ∙ sym (append-nil (list_of bs)))
    ∙ ap₂ as_map
    (entering_used bs [] xs (used e) (used e) (proper_in e).used means (λ x. name_same (used e x)))
    (entering_assigned bs [] ys (assigned e) (assigned e) (proper_in e).assigned all (λ x. name_same (assigned e x)))

-- ---- what is declared is made

entity_denoted : (d : Denoted) → blocks.entity_in (name_of d) ≡ here.entity_of (Some d)
entity_denoted (AnEntity n) = refl
entity_denoted (AProcedure n) = refl
entity_denoted (AFormalProcedure n) = refl
entity_denoted (AText bytes) = refl
entity_denoted (AStandard standard) = refl
entity_denoted (AnActual meant kind e env) = refl

entity_named : (u : Name) (o : Option Denoted) → Meets u o → blocks.entity_in u ≡ here.entity_of o
entity_named u None m = ap blocks.entity_in m.1
entity_named u (Some d) m = ap blocks.entity_in m ∙ entity_denoted d

entity_same : (e : Env) (n : Name) → blocks.entity_in (close_name (used e) n) ≡ here.entity_in e n
entity_same e n = entity_named (close_name (used e) n) (denotation e n) (name_meets e n)

put_same : (e : Env) (n : Name) (x : Entity Closure) (s : State Closure)
    → state_of (with_entity (here.entity_in e n) x s) ≡ with_entity (blocks.entity_in (close_name (used e) n)) (entity_of x) (state_of s)
put_same e n x s = entity_put (here.entity_in e n) x s ∙ ap (λ k. with_entity k (entity_of x) (state_of s)) (sym (entity_same e n))

all_made_same : (e : Env) (ns : List Name) (x : Entity Closure) (s : State Closure)
    → state_of (here.all_made e ns x s) ≡ blocks.all_made (close_names (map_in e) ns) (entity_of x) (state_of s)
all_made_same e [] x s = refl
all_made_same e (n ∷ ns) x s =
    all_made_same e ns x (with_entity (here.entity_in e n) x s)
    ∙ ap (blocks.all_made (close_names (map_in e) ns) (entity_of x)) (put_same e n x s)

made_same : (e : Env) (ds : Declarations) (s : State Closure) → state_of (here.made e ds s)
    ≡ blocks.made (close_declarations (map_in e) ds) (state_of s)
made_same e NoDeclarations s = refl
made_same e (Variables kind ns ds) s =
    made_same e ds (here.all_made e ns (ACell kind (pos 0)) s)
    ∙ ap (blocks.made (close_declarations (map_in e) ds)) (all_made_same e ns (ACell kind (pos 0)) s)
made_same e (Arrays kind line ns bounds ds) s =
    made_same e ds (here.all_made e ns (AnArray kind [] no_elements) s)
    ∙ ap (blocks.made (close_declarations (map_in e) ds)) (all_made_same e ns (AnArray kind [] no_elements) s)
made_same e (Switch line n elements ds) s =
    let x : Entity Closure = Kept (record { body = SwitchList elements; home = e }) in
    made_same e ds (with_entity (here.entity_in e n) x s)
    ∙ ap (blocks.made (close_declarations (map_in e) ds)) (put_same e n x s)
made_same e (Procedure line kind own n formals body ds) s =
    let x : Entity Closure = Kept (record { body = ProcedureBody own kind formals body; home = e }) in
    made_same e ds (with_entity (here.entity_in e n) x s)
    ∙ ap (blocks.made (close_declarations (map_in e) ds)) (put_same e n x s)

formals_made_same : (formals : List Formal) (passed : List env.Passed) (s : State Closure)
    → state_of (here.formals_made formals passed s) ≡ blocks.formals_made formals (all_passed passed) (state_of s)
formals_made_same [] passed s = refl
formals_made_same (formal ∷ formals) [] s = refl
formals_made_same (formal ∷ formals) (env.AValue v ∷ passed) s =
    formals_made_same formals passed (given_out 1 (with_entity s.fresh (ACell (wanted_by formal.kind) v) s))
    ∙ ap (λ st. blocks.formals_made formals (all_passed passed) (given_out 1 st)) (entity_put s.fresh (ACell (wanted_by formal.kind) v) s)
formals_made_same (formal ∷ formals) (env.AMeaning d ∷ passed) s = formals_made_same formals passed s

-- ---- which identifiers stayed

or_nothing : (t : Bool) → (t || false) ≡ t
or_nothing true = refl
or_nothing false = refl

own_first : (t u v : Bool) → (t || (u || (v || false))) ≡ (v || (t || u))
own_first true u true = refl
own_first true u false = refl
own_first false true true = refl
own_first false true false = refl
own_first false false true = refl
own_first false false false = refl

-- the bindings of a procedure
abbrev procedure_bindings : ℕ → List Formal → List env.Passed → ℕ → Statement → Bindings → Bindings
procedure_bindings n formals passed k body result = here.formals_bound n formals passed (with_entities k (quantities (labels body)) result)

module _ (n : ℕ) (formals : List Formal) (passed : List env.Passed) (k : ℕ) (body : Statement) where
  means_same : (result : Bindings) → means_in result ≡ [] → (x : ℕ)
      → is_among x (means_in (procedure_bindings n formals passed k body result)) ≡ is_among x (of_procedure formals body)
  means_same result none x =
      ap (is_among x)
      (formals_means n formals passed (with_entities k (quantities (labels body)) result)
      ∙ ap (λ u. formal_identifiers formals ++ u)
      (numbered_means k (quantities (labels body)) result
      ∙ ap₂ ◌++◌ (of_quantities (labels body)) none
      ∙ append-nil (labels body)))

  all_proper : (x : ℕ) → is_among x (all_in (procedure_bindings n formals passed k body NoBindings))
      ≡ is_among x (of_procedure formals body)
  all_proper x =
      ap (is_among x)
      (formals_all n formals passed (with_entities k (quantities (labels body)) NoBindings)
      ∙ ap (λ u. formal_identifiers formals ++ u)
      (numbered_all k (quantities (labels body)) NoBindings
      ∙ ap (λ u. u ++ []) (of_quantities (labels body))
      ∙ append-nil (labels body)))

  all_function : (own cell : ℕ) (x : ℕ) → is_among x (all_in (procedure_bindings n formals passed k body (Returns own cell NoBindings)))
      ≡ is_among x (own ∷ of_procedure formals body)
  all_function own cell x =
      let fs : List ℕ = formal_identifiers formals in
      let ls : List ℕ = labels body in
      ap (is_among x)
      (formals_all n formals passed (with_entities k (quantities ls) (Returns own cell NoBindings))
      ∙ ap (λ u. fs ++ u) (numbered_all k (quantities ls) (Returns own cell NoBindings) ∙ ap (λ u. u ++ (own ∷ [])) (of_quantities ls)))
      ∙ among_append x fs (ls ++ (own ∷ []))
      ∙ ap (λ u. is_among x fs || u) (among_append x ls (own ∷ []))
      ∙ own_first (is_among x fs) (is_among x ls) (x == own)
      ∙ ap (λ u. (x == own) || u) (sym (among_append x fs ls))

module _ (limit : ℕ) (next : copy.Next) (next1 : env.Next) (agrees : Agree next next1) where
  -- ---- blocks

  taken_same : (e : Env) (k : Kind) (ns : List Name) (pairs : List Pair) (line : ℕ) (live : Live) (s : State Closure)
      → blocks.arrays_taken limit k (close_names (map_in e) ns) pairs line live (state_of s)
      ≡ carried same (here.arrays_taken limit e k ns pairs line live s)
  taken_same e k [] pairs line live s = refl
  taken_same e k (n ∷ ns) pairs line live s =
      then_same same same _ _ _ _ (take_same limit (elements_of pairs) line live s) (λ live1 s1.
      ap (blocks.arrays_taken limit k (close_names (map_in e) ns) pairs line live1) (sym (put_same e n (AnArray k pairs no_elements) s1))
      ∙ taken_same e k ns pairs line live1 (with_entity (here.entity_in e n) (AnArray k pairs no_elements) s1))

  segment_same : (e : Env) (k : Kind) (ns : List Name) (pairs : List Pair) (line : ℕ) (live : Live) (s : State Closure)
      → blocks.segment limit k (close_names (map_in e) ns) pairs line live (state_of s)
      ≡ carried same (here.segment limit e k ns pairs line live s)
  segment_same e k ns pairs line live s =
      either_same same (are_bounds pairs) (are_bounds pairs) s _ _ _ _ refl (λ s1. taken_same e k ns pairs line live s1) (λ s1. refl)

  arrays_same : (ds : Declarations) (e : Env) (live : Live) (s : State Closure)
      → blocks.arrays limit next (close_declarations (map_in e) ds) live (state_of s) ≡ carried same (here.arrays limit next1 ds e live s)
  arrays_same NoDeclarations e live s = refl
  arrays_same (Variables kind ns ds) e live s = arrays_same ds e live s
  arrays_same (Arrays kind line ns bounds ds) e live s =
      then_same same same _ _ _ _ (values_same limit next next1 agrees bounds e live s) (λ found s1.
      then_same same same _ _ _ _ (segment_same e kind ns (bound_pairs found) line live s1) (λ live1 s2. arrays_same ds e live1 s2))
  arrays_same (Switch line n elements ds) e live s = arrays_same ds e live s
  arrays_same (Procedure line kind own n formals body ds) e live s = arrays_same ds e live s

  activated_same : (ds : Declarations) (ss : Statements) (own : List ℕ) (e : Env) (live : Live) (s : State Closure)
      → blocks.closed_block limit next (close_declarations (map_in e) ds) (close_statements (map_in e) ss) own live (state_of s)
      ≡ carried same (here.activated_block limit next1 ds ss own e live s)
  activated_same ds ss own e live s =
      then_same same same _ _ _ _
      (ap (blocks.arrays limit next (close_declarations (map_in e) ds) live) (sym (made_same e ds s))
      ∙ arrays_same ds e live (here.made e ds s))
      (λ live1 s1. caught_same same own (λ label s2. next1.rest label own ss e live1 s2)
      (λ label s2. next.rest label own [] (close_statements (map_in e) ss) live1 s2) _ _
      (run_all_same limit next next1 agrees ss (map_in e) [] e (fits_in e) live1 s1)
      (λ label s2. agrees.rest label own (map_in e) [] ss e (fits_in e) live1 s2))

  -- a closed block, where it declares D and has the labels L
  abbrev entered_as : Declarations → Statements → Live → State Body → List Declared → List ℕ → Outcome Body Finished
  entered_as ds ss live s D L =
      blocks.closed_block limit next (close_declarations (map_of (list.entity_bindings s.fresh (D ++ quantities L))) ds)
      (close_statements (map_of (list.entity_bindings s.fresh (D ++ quantities L))) ss)
      (entities_from (s.fresh + length D) L) live (given_out (length (D ++ quantities L))
      (labels_made (entities_from (s.fresh + length D) L) s))

  pub block_entered : (ds : Declarations) (ss : Statements) (e : Env) (live : Live) (s : State Closure)
      → blocks.entered_block limit next (close_declarations (map_without (identifiers_of (of_block ds ss)) (map_in e)) ds)
      (close_statements (map_without (identifiers_of (of_block ds ss)) (map_in e)) ss) live (state_of s)
      ≡ carried same (here.entered_block limit next1 ds ss e live s)
  block_entered ds ss e live s =
      let xs : List ℕ = identifiers_of (of_block ds ss) in
      let m : Map = map_without xs (map_in e) in
      let ds1 : Declarations = close_declarations m ds in
      let ss1 : Statements = close_statements m ss in
      let keeps = subst (Keeps m.used) (block_identifiers ds ss) (keeps_hidden xs (used e)) in
      let bs : Bindings = with_entities s.fresh (of_block ds ss) NoBindings in
      let l : List Binding = list.entity_bindings s.fresh (of_block ds ss) in
      let own : List ℕ = entities_from (s.fresh + length (declared_names ds)) (all_labels ss) in
      let p = proper_map xs (map_in e) (proper_in e) in
      let is : l ≡ list_of bs = sym (append-nil l) ∙ numbered_list s.fresh (of_block ds ss) NoBindings in
      let means : (x : ℕ) → is_among x (means_in bs)
      ≡ is_among x xs = λ x. ap (is_among x) (numbered_means s.fresh (of_block ds ss) NoBindings ∙ append-nil xs) in
      let all : (x : ℕ) → is_among x (all_in bs) ≡ is_among x xs = λ x. ap (is_among x) (numbered_all s.fresh (of_block ds ss) NoBindings
      ∙ append-nil xs) in
      let within : then_map m (map_of l) ≡ map_in (Inside bs e) = within_map e bs l xs xs is means all in
      ap₂ (λ D L. entered_as ds1 ss1 live (state_of s) D L)
      (declared_stay m ds (keeps_left (identifiers_of (declared_names ds)) (all_labels ss) keeps))
      (all_labels_stay m ss (keeps_right (identifiers_of (declared_names ds)) (all_labels ss) keeps))
      ∙ ap₂ (λ d u. blocks.closed_block limit next d u own live (given_out (length (of_block ds ss)) (labels_made own (state_of s))))
      (declarations_then m (map_of l) p ds ∙ ap (λ k. close_declarations k ds) within)
      (statements_then m (map_of l) p ss ∙ ap (λ k. close_statements k ss) within)
      ∙ ap (λ st. blocks.closed_block limit next (close_declarations (map_in (Inside bs e)) ds)
      (close_statements (map_in (Inside bs e)) ss) own live (given_out (length (of_block ds ss)) st))
      (sym (labels_of own s))
      ∙ activated_same ds ss own (Inside bs e) live (given_out (length (of_block ds ss)) (labels_made own s))

  -- ---- procedures

  pub body_activated : (body : Statement) (own : List ℕ) (e : Env) (live : Live) (s : State Closure)
      → blocks.closed_body limit next (close_in (map_in e) body) own live (state_of s)
      ≡ carried same (here.activated_body limit next1 body own e live s)
  body_activated body own e live s =
      caught_same same own (λ label s1. next1.rest label own (MoreStatements body NoStatements) e live s1)
      (λ label s1. next.rest label own [] (MoreStatements (close_in (map_in e) body) NoStatements) live s1) _ _
      (ap (λ st. copied.run limit next [] (close_in (map_in e) body) live (given_out (length own) st)) (sym (labels_of own s))
      ∙ run_same limit next next1 agrees body (map_in e) [] e (fits_in e) live (given_out (length own) (labels_made own s)))
      (λ label s1. agrees.rest label own (map_in e) [] (MoreStatements body NoStatements) e (fits_in e) live s1)

  module _ (own : ℕ) (k : Kind) (n : ℕ) (formals : List Formal) (passed : List env.Passed) (body : Statement) (home : Env) where
    abbrev xs : List ℕ
    xs = of_procedure formals body

    abbrev m : Map
    m = hidden_in_body k own xs (map_in home)

    body_run_same : (result : Bindings) → means_in result ≡ []
        → ((j x : ℕ) → is_among x (all_in (procedure_bindings n formals passed j body result)) ≡ is_among x (own_left k own ++ xs))
        → (live : Live) (s : State Closure)
        → blocks.body_run limit next (blocks.formals_bound n formals (all_passed passed)) (list_of result) (close_in m body) live
        (state_of s)
        ≡ carried same (here.body_run limit next1 (here.formals_bound n formals passed) result body home live s)
    body_run_same result none all live s =
        let fs : List Binding = blocks.formals_bound n formals (all_passed passed) in
        let bs : Bindings = procedure_bindings n formals passed s.fresh body result in
        let l : List Binding = fs ++ (list.entity_bindings s.fresh (quantities (labels body)) ++ list_of result) in
        let is : l ≡ list_of bs =
        ap (λ u. fs ++ u) (numbered_list s.fresh (quantities (labels body)) result)
        ∙ formals_list n formals passed (with_entities s.fresh (quantities (labels body)) result) in
        let within : then_map m (map_of l) ≡ map_in (Inside bs home) =
        within_map home bs l xs (own_left k own ++ xs) is (means_same n formals passed s.fresh body result none) (all s.fresh) in
        ap (λ u. blocks.closed_body limit next (close_in (map_of (fs ++ (list.entity_bindings s.fresh (quantities u) ++ list_of result)))
        (close_in m body)) (entities_from s.fresh u) live (state_of s))
        (labels_stay m body (keeps_right (formal_identifiers formals) (labels body) (keeps_hidden xs (used home))))
        ∙ ap (λ u. blocks.closed_body limit next u (entities_from s.fresh (labels body)) live (state_of s))
        (in_then m (map_of l) (proper_body k own xs (map_in home) (proper_in home)) body ∙ ap (λ k. close_in k body) within)
        ∙ body_activated body (entities_from s.fresh (labels body)) (Inside bs home) live s

  proper_same : (own : ℕ) (k : Kind) → own_left k own ≡ []
      → (n : ℕ) (formals : List Formal) (passed : List env.Passed) (body : Statement) (home : Env) (live : Live) (s : State Closure)
      → blocks.proper_run limit next (blocks.formals_bound n formals (all_passed passed))
      (close_in (hidden_in_body k own (of_procedure formals body) (map_in home)) body) live (state_of s)
      ≡ carried same (here.proper_run limit next1 (here.formals_bound n formals passed) body home live s)
  proper_same own k none n formals passed body home live s =
      then_same same same _ _ _ _
      (body_run_same own k n formals passed body home NoBindings refl
      (λ j x. all_proper n formals passed j body x ∙ ap (λ u. is_among x (u ++ of_procedure formals body)) (sym none)) live s)
      (λ done s1. refl)

  function_same : (own : ℕ) (k : Kind) → own_left k own ≡ own ∷ []
      → (n : ℕ) (formals : List Formal) (passed : List env.Passed) (body : Statement) (home : Env) (cell : ℕ) (live : Live)
      (s : State Closure)
      → blocks.function_run limit next own cell (blocks.formals_bound n formals (all_passed passed))
      (close_in (hidden_in_body k own (of_procedure formals body) (map_in home)) body) live (state_of s)
      ≡ carried same (here.function_run limit next1 own cell (here.formals_bound n formals passed) body home live s)
  function_same own k one n formals passed body home cell live s =
      then_same same same _ _ _ _
      (body_run_same own k n formals passed body home (Returns own cell NoBindings) refl
      (λ j x. all_function n formals passed j body own cell x ∙ ap (λ u. is_among x (u ++ of_procedure formals body)) (sym one)) live s)
      (λ done s1. ap (λ v. Gives v (state_of s1)) (value_found (CellAt cell) s1))

  procedure_run_same : (own : ℕ) (k : Kind) (n : ℕ) (formals : List Formal) (passed : List env.Passed) (body : Statement) (home : Env)
      (live : Live) (s : State Closure)
      → blocks.procedure_run limit next own k (blocks.formals_bound n formals (all_passed passed))
      (close_in (hidden_in_body k own (of_procedure formals body) (map_in home)) body) live (state_of s)
      ≡ carried same (here.procedure_run limit next1 own k (here.formals_bound n formals passed) body home live s)
  procedure_run_same own kind.IntegerProcedure n formals passed body home live s =
      ap (λ st. blocks.function_run limit next own s.fresh (blocks.formals_bound n formals (all_passed passed))
      (close_in (hidden_in_body kind.IntegerProcedure own (of_procedure formals body) (map_in home)) body) live (given_out 1 st))
      (sym (entity_put s.fresh (ACell kind.Integer (pos 0)) s))
      ∙ function_same own kind.IntegerProcedure refl n formals passed body home s.fresh live
      (given_out 1 (with_entity s.fresh (ACell kind.Integer (pos 0)) s))
  procedure_run_same own kind.BooleanProcedure n formals passed body home live s =
      ap (λ st. blocks.function_run limit next own s.fresh (blocks.formals_bound n formals (all_passed passed))
      (close_in (hidden_in_body kind.BooleanProcedure own (of_procedure formals body) (map_in home)) body) live (given_out 1 st))
      (sym (entity_put s.fresh (ACell kind.Boolean (pos 0)) s))
      ∙ function_same own kind.BooleanProcedure refl n formals passed body home s.fresh live
      (given_out 1 (with_entity s.fresh (ACell kind.Boolean (pos 0)) s))
  procedure_run_same own k n formals passed body home live s = proper_same own k refl n formals passed body home live s

  pub procedure_entered : (own : ℕ) (k : Kind) (formals : List Formal) (body : Statement) (home : Env) (passed : List env.Passed)
      (live : Live) (s : State Closure)
      → blocks.entered_procedure limit next own k formals (close_in (hidden_in_body k own (of_procedure formals body) (map_in home)) body)
      (all_passed passed) live (state_of s)
      ≡ carried same (here.entered_procedure limit next1 own k formals body home passed live s)
  procedure_entered own k formals body home passed live s =
      ap (blocks.procedure_run limit next own k (blocks.formals_bound s.fresh formals (all_passed passed))
      (close_in (hidden_in_body k own (of_procedure formals body) (map_in home)) body) live)
      (sym (formals_made_same formals passed s))
      ∙ procedure_run_same own k s.fresh formals passed body home live (here.formals_made formals passed s)
