-- The maps of environments: what they keep, what a name comes to, and the map within an activation.
use Rattle.std.proofs.Common.{◌≡◌, ℕ, suc, Bool, true, false, List, [], ◌∷◌, ◌++◌, Option, Some, None, refl, sym, ap, ◌∙◌, true≢false}
use Rattle.std.specs.Prelude.{◌==◌, ◌||◌, if◌then◌else◌}
use mathlib.Core.Path.{fun_ext}
use Rattle.gier_meaning.specs.Tree as name
use Rattle.gier_meaning.specs.Tree.{Name, Identifier, Formal, Statement}
use Rattle.gier_meaning.specs.Outcome.{is_among}
use Rattle.gier_meaning.specs.Scopes.{Declared, Quantity, ProcedureName, identifiers_of, formal_identifiers}
use Rattle.gier_meaning.specs.Maps as list
use Rattle.gier_meaning.specs.Maps.{Map, Binding, used_in, assigned_in, hidden_from}
use Rattle.gier_meaning.specs.Close.{close_name}
use Rattle.gier_meaning.specs.Blocks as copy
use Rattle.gier_env.specs.Env.{Env, Outermost, Inside, Bindings, NoBindings, Means, Returns, Denoted, AnEntity, AProcedure, AFormalProcedure, AText, AStandard, AnActual, found_in, found, denotation, left_meaning, with_entities}
use Rattle.gier_env.specs.Env as env
use Rattle.gier_env.specs.Tasks as task
use Rattle.gier_env.specs.Blocks.{formals_bound}
use Rattle.gier_copy.proofs.Images.{used, used_by, name_of, assigned_by, assigned, map_in, all_passed}
use Rattle.gier_copy.proofs.Closing.{Stays, Proper, ProperMap, then_names, close_same}

-- ---- what they keep

name_stays : (d : Denoted) (x : ℕ) → Stays (name_of d) x
name_stays (AnEntity n) x = tt
name_stays (AProcedure n) x = tt
name_stays (AFormalProcedure n) x = tt
name_stays (AText bytes) x = tt
name_stays (AStandard standard) x = tt
name_stays (AnActual meant kind e env) x = tt

either_stays : (t : Bool) (a b : Name) (x : ℕ) → Stays a x → Stays b x → Stays (if t then a else b) x
either_stays true a b x p q = p
either_stays false a b x p q = q

used_stays : (bs : Bindings) (x : ℕ) (outer : Name) → Stays outer x → Stays (used_by bs x outer) x
used_stays NoBindings x outer s = s
used_stays (Means y d bs) x outer s = either_stays (x == y) (name_of d) (used_by bs x outer) x (name_stays d x) (used_stays bs x outer s)
used_stays (Returns y cell bs) x outer s = used_stays bs x outer s

assigned_stays : (bs : Bindings) (x : ℕ) (outer : Name) → Stays outer x → Stays (assigned_by bs x outer) x
assigned_stays NoBindings x outer s = s
assigned_stays (Means y d bs) x outer s = either_stays (x == y) (name_of d) (assigned_by bs x outer) x (name_stays d x)
    (assigned_stays bs x outer s)
assigned_stays (Returns y cell bs) x outer s = either_stays (x == y) (name.AnEntity cell) (assigned_by bs x outer) x tt
    (assigned_stays bs x outer s)

proper_used : (e : Env) → Proper (used e)
proper_used Outermost x = refl
proper_used (Inside bs e) x = used_stays bs x (used e x) (proper_used e x)

proper_assigned : (e : Env) → Proper (assigned e)
proper_assigned Outermost x = refl
proper_assigned (Inside bs e) x = assigned_stays bs x (assigned e x) (proper_assigned e x)

pub proper_in : (e : Env) → ProperMap (map_in e)
proper_in e = record { used = proper_used e; assigned = proper_assigned e }

-- ---- what a name comes to

-- the name itself, where nothing declares it
abbrev pub name_in : Name → Option Denoted → Name
name_in n None = n
name_in n (Some d) = name_of d

two_ways : (n : Name) (t : Bool) (d : Denoted) (u : Name) (o : Option Denoted) → u ≡ name_in n o
    → (if t then name_of d else u) ≡ name_in n (if t then Some d else o)
two_ways n true d u o p = refl
two_ways n false d u o p = p

used_named : (bs : Bindings) (x : ℕ) (u : Name) (o : Option Denoted) → u ≡ name_in (Identifier x) o → used_by bs x u
    ≡ name_in (Identifier x) (found_in bs x o)
used_named NoBindings x u o p = p
used_named (Means y d bs) x u o p = two_ways (Identifier x) (x == y) d (used_by bs x u) (found_in bs x o) (used_named bs x u o p)
used_named (Returns y cell bs) x u o p = used_named bs x u o p

pub found_named : (e : Env) (x : ℕ) → used e x ≡ name_in (Identifier x) (found e x)
found_named Outermost x = refl
found_named (Inside bs e) x = used_named bs x (used e x) (found e x) (found_named e x)

assigned_named : (bs : Bindings) (x : ℕ) (u : Name) (o : Option Denoted) → u ≡ name_in (Identifier x) o → assigned_by bs x u
    ≡ name_in (Identifier x) (env.assigned_in bs x o)
assigned_named NoBindings x u o p = p
assigned_named (Means y d bs) x u o p = two_ways (Identifier x) (x == y) d (assigned_by bs x u) (env.assigned_in bs x o)
    (assigned_named bs x u o p)
assigned_named (Returns y cell bs) x u o p = two_ways (Identifier x) (x == y) (AnEntity cell) (assigned_by bs x u) (env.assigned_in bs x o)
    (assigned_named bs x u o p)

left_named : (e : Env) (x : ℕ) → assigned e x ≡ name_in (Identifier x) (env.denotation_as_left_part e x)
left_named Outermost x = refl
left_named (Inside bs e) x = assigned_named bs x (assigned e x) (env.denotation_as_left_part e x) (left_named e x)

pub name_meant : (e : Env) (n : Name) → close_name (used e) n ≡ name_in n (denotation e n)
name_meant e (Identifier x) = found_named e x
name_meant e (name.AnEntity n) = refl
name_meant e (name.AProcedure n) = refl
name_meant e (name.AFormalProcedure n) = refl
name_meant e (name.AText bytes) = refl
name_meant e (name.AStandard standard) = refl
name_meant e (name.AnActual meant kind x) = ap (name.AnActual meant kind) (sym (close_same x))

pub left_meant : (e : Env) (n : Name) → close_name (assigned e) n ≡ name_in n (left_meaning e n)
left_meant e (Identifier x) = left_named e x
left_meant e (name.AnEntity n) = refl
left_meant e (name.AProcedure n) = refl
left_meant e (name.AFormalProcedure n) = refl
left_meant e (name.AText bytes) = refl
left_meant e (name.AStandard standard) = refl
left_meant e (name.AnActual meant kind x) = ap (name.AnActual meant kind) (sym (close_same x))

-- ---- bindings as a list

abbrev pub list_of : Bindings → List Binding
list_of NoBindings = []
list_of (Means y d bs) = list.Means y (name_of d) ∷ list_of bs
list_of (Returns y cell bs) = list.Returns y cell ∷ list_of bs

pub numbered_list : (n : ℕ) (ds : List Declared) (bs : Bindings) → list.entity_bindings n ds ++ list_of bs ≡ list_of (with_entities n ds bs)
numbered_list n [] bs = refl
numbered_list n (Quantity x ∷ ds) bs = ap (◌∷◌ (list.Means x (name.AnEntity n))) (numbered_list (suc n) ds bs)
numbered_list n (ProcedureName x ∷ ds) bs = ap (◌∷◌ (list.Means x (name.AProcedure n))) (numbered_list (suc n) ds bs)

pub formals_list : (n : ℕ) (formals : List Formal) (passed : List task.Passed) (bs : Bindings)
    → copy.formals_bound n formals (all_passed passed) ++ list_of bs ≡ list_of (formals_bound n formals passed bs)
formals_list n [] passed bs = refl
formals_list n (formal ∷ formals) [] bs = ap (◌∷◌ (list.Means formal.identifier (copy.no_actual formal))) (formals_list n formals [] bs)
formals_list n (formal ∷ formals) (task.AValue value ∷ passed) bs = ap (◌∷◌ (list.Means formal.identifier (name.AnEntity n)))
    (formals_list (suc n) formals passed bs)
formals_list n (formal ∷ formals) (task.AMeaning d ∷ passed) bs = ap (◌∷◌ (list.Means formal.identifier (name_of d)))
    (formals_list n formals passed bs)

-- ---- which identifiers bindings declare, for uses and for left parts

abbrev pub means_in : Bindings → List ℕ
means_in NoBindings = []
means_in (Means y d bs) = y ∷ means_in bs
means_in (Returns y cell bs) = means_in bs

abbrev pub all_in : Bindings → List ℕ
all_in NoBindings = []
all_in (Means y d bs) = y ∷ all_in bs
all_in (Returns y cell bs) = y ∷ all_in bs

pub numbered_means : (n : ℕ) (ds : List Declared) (bs : Bindings) → means_in (with_entities n ds bs) ≡ identifiers_of ds ++ means_in bs
numbered_means n [] bs = refl
numbered_means n (Quantity x ∷ ds) bs = ap (◌∷◌ x) (numbered_means (suc n) ds bs)
numbered_means n (ProcedureName x ∷ ds) bs = ap (◌∷◌ x) (numbered_means (suc n) ds bs)

pub numbered_all : (n : ℕ) (ds : List Declared) (bs : Bindings) → all_in (with_entities n ds bs) ≡ identifiers_of ds ++ all_in bs
numbered_all n [] bs = refl
numbered_all n (Quantity x ∷ ds) bs = ap (◌∷◌ x) (numbered_all (suc n) ds bs)
numbered_all n (ProcedureName x ∷ ds) bs = ap (◌∷◌ x) (numbered_all (suc n) ds bs)

pub formals_means : (n : ℕ) (formals : List Formal) (passed : List task.Passed) (bs : Bindings)
    → means_in (formals_bound n formals passed bs) ≡ formal_identifiers formals ++ means_in bs
formals_means n [] passed bs = refl
formals_means n (formal ∷ formals) [] bs = ap (◌∷◌ formal.identifier) (formals_means n formals [] bs)
formals_means n (formal ∷ formals) (task.AValue value ∷ passed) bs = ap (◌∷◌ formal.identifier) (formals_means (suc n) formals passed bs)
formals_means n (formal ∷ formals) (task.AMeaning d ∷ passed) bs = ap (◌∷◌ formal.identifier) (formals_means n formals passed bs)

pub formals_all : (n : ℕ) (formals : List Formal) (passed : List task.Passed) (bs : Bindings)
    → all_in (formals_bound n formals passed bs) ≡ formal_identifiers formals ++ all_in bs
formals_all n [] passed bs = refl
formals_all n (formal ∷ formals) [] bs = ap (◌∷◌ formal.identifier) (formals_all n formals [] bs)
formals_all n (formal ∷ formals) (task.AValue value ∷ passed) bs = ap (◌∷◌ formal.identifier) (formals_all (suc n) formals passed bs)
formals_all n (formal ∷ formals) (task.AMeaning d ∷ passed) bs = ap (◌∷◌ formal.identifier) (formals_all n formals passed bs)

-- ---- looking up

if_same : (t : Bool) (a u v : Name) → (t ≡ false → u ≡ v) → (if t then a else u) ≡ (if t then a else v)
if_same true a u v h = refl
if_same false a u v h = h refl

pub used_before : (bs : Bindings) (turn : List Binding) (x : ℕ) → used_in (list_of bs ++ turn) x ≡ used_by bs x (used_in turn x)
used_before NoBindings turn x = refl
used_before (Means y d bs) turn x = ap (λ u. if x == y then name_of d else u) (used_before bs turn x)
used_before (Returns y cell bs) turn x = used_before bs turn x

pub assigned_before : (bs : Bindings) (turn : List Binding) (x : ℕ) → assigned_in (list_of bs ++ turn) x
    ≡ assigned_by bs x (assigned_in turn x)
assigned_before NoBindings turn x = refl
assigned_before (Means y d bs) turn x = ap (λ u. if x == y then name_of d else u) (assigned_before bs turn x)
assigned_before (Returns y cell bs) turn x = ap (λ u. if x == y then name.AnEntity cell else u) (assigned_before bs turn x)

used_there : (bs : Bindings) (x : ℕ) (u v : Name) → is_among x (means_in bs) ≡ true → used_by bs x u ≡ used_by bs x v
used_there NoBindings x u v e = elim (true≢false (sym e)) [ ]
used_there (Means y d bs) x u v e = if_same (x == y) (name_of d) (used_by bs x u) (used_by bs x v)
    (λ f. used_there bs x u v (sym (ap (λ t. t || is_among x (means_in bs)) f) ∙ e))
used_there (Returns y cell bs) x u v e = used_there bs x u v e

assigned_there : (bs : Bindings) (x : ℕ) (u v : Name) → is_among x (all_in bs) ≡ true → assigned_by bs x u ≡ assigned_by bs x v
assigned_there NoBindings x u v e = elim (true≢false (sym e)) [ ]
assigned_there (Means y d bs) x u v e = if_same (x == y) (name_of d) (assigned_by bs x u) (assigned_by bs x v)
    (λ f. assigned_there bs x u v (sym (ap (λ t. t || is_among x (all_in bs)) f) ∙ e))
assigned_there (Returns y cell bs) x u v e = if_same (x == y) (name.AnEntity cell) (assigned_by bs x u) (assigned_by bs x v)
    (λ f. assigned_there bs x u v (sym (ap (λ t. t || is_among x (all_in bs)) f) ∙ e))

first_false : (t u : Bool) → (t || u) ≡ false → t ≡ false
first_false true u e = e
first_false false u e = refl

second_false : (t u : Bool) → (t || u) ≡ false → u ≡ false
second_false true u e = elim (true≢false e) [ ]
second_false false u e = e

used_elsewhere : (bs : Bindings) (x : ℕ) (u : Name) → is_among x (means_in bs) ≡ false → used_by bs x u ≡ u
used_elsewhere NoBindings x u e = refl
used_elsewhere (Means y d bs) x u e =
    ap (λ t. if t then name_of d else used_by bs x u) (first_false (x == y) (is_among x (means_in bs)) e)
    ∙ used_elsewhere bs x u (second_false (x == y) (is_among x (means_in bs)) e)
used_elsewhere (Returns y cell bs) x u e = used_elsewhere bs x u e

assigned_elsewhere : (bs : Bindings) (x : ℕ) (u : Name) → is_among x (all_in bs) ≡ false → assigned_by bs x u ≡ u
assigned_elsewhere NoBindings x u e = refl
assigned_elsewhere (Means y d bs) x u e =
    ap (λ t. if t then name_of d else assigned_by bs x u) (first_false (x == y) (is_among x (all_in bs)) e)
    ∙ assigned_elsewhere bs x u (second_false (x == y) (is_among x (all_in bs)) e)
assigned_elsewhere (Returns y cell bs) x u e =
    ap (λ t. if t then name.AnEntity cell else assigned_by bs x u) (first_false (x == y) (is_among x (all_in bs)) e)
    ∙ assigned_elsewhere bs x u (second_false (x == y) (is_among x (all_in bs)) e)

-- ---- the map within an activation

-- one that replaces identifiers by `inner`, where the others have been replaced by g
module _ (inner : ℕ → Name) (by : ℕ → Name → Name) (dom : ℕ → Bool) (g turn target : ℕ → Name) (proper : Proper g)
    (before : (x : ℕ) → inner x ≡ by x (turn x))
    (there : (x : ℕ) (u v : Name) → dom x ≡ true → by x u ≡ by x v)
    (elsewhere : (x : ℕ) (u : Name) → dom x ≡ false → by x u ≡ u)
    (rest : (x : ℕ) → close_name turn (g x) ≡ target x) where
  entering_name : (x : ℕ) (t : Bool) (n : Name) → Stays n x → dom x ≡ t → close_name turn n ≡ target x
      → close_name inner (if t then Identifier x else n) ≡ by x (target x)
  entering_name x true n stays e r = before x ∙ there x (turn x) (target x) e
  entering_name x false (Identifier y) stays e r =
      before y ∙ elsewhere y (turn y) (ap dom stays ∙ e) ∙ r ∙ sym (elsewhere x (target x) e)
  entering_name x false (name.AnEntity n) stays e r = r ∙ sym (elsewhere x (target x) e)
  entering_name x false (name.AProcedure n) stays e r = r ∙ sym (elsewhere x (target x) e)
  entering_name x false (name.AFormalProcedure n) stays e r = r ∙ sym (elsewhere x (target x) e)
  entering_name x false (name.AText bytes) stays e r = r ∙ sym (elsewhere x (target x) e)
  entering_name x false (name.AStandard standard) stays e r = r ∙ sym (elsewhere x (target x) e)
  entering_name x false (name.AnActual meant kind e1) stays e r = r ∙ sym (elsewhere x (target x) e)

  entering : (x : ℕ) → close_name inner (if dom x then Identifier x else g x) ≡ by x (target x)
  entering x = entering_name x (dom x) (g x) (proper x) refl (rest x)

pub entering_used : (bs : Bindings) (turn : List Binding) (xs : List ℕ) (g target : ℕ → Name) → Proper g
    → ((x : ℕ) → is_among x (means_in bs) ≡ is_among x xs) → ((x : ℕ) → close_name (used_in turn) (g x) ≡ target x)
    → then_names (hidden_from xs g) (used_in (list_of bs ++ turn)) ≡ (λ x. used_by bs x (target x))
entering_used bs turn xs g target proper same rest =
    fun_ext (entering (used_in (list_of bs ++ turn)) (used_by bs) (λ x. is_among x xs) g (used_in turn) target proper
    (used_before bs turn) (λ x u v e. used_there bs x u v (same x ∙ e)) (λ x u e. used_elsewhere bs x u (same x ∙ e)) rest)

pub entering_assigned : (bs : Bindings) (turn : List Binding) (xs : List ℕ) (g target : ℕ → Name) → Proper g
    → ((x : ℕ) → is_among x (all_in bs) ≡ is_among x xs) → ((x : ℕ) → close_name (assigned_in turn) (g x) ≡ target x)
    → then_names (hidden_from xs g) (assigned_in (list_of bs ++ turn)) ≡ (λ x. assigned_by bs x (target x))
entering_assigned bs turn xs g target proper same rest =
    fun_ext (entering (assigned_in (list_of bs ++ turn)) (assigned_by bs) (λ x. is_among x xs) g (assigned_in turn) target proper
    (assigned_before bs turn) (λ x u v e. assigned_there bs x u v (same x ∙ e)) (λ x u e. assigned_elsewhere bs x u (same x ∙ e)) rest)
