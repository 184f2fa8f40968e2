-- Closing with one map, then with another; and what stays.
use Rattle.std.proofs.Common.{◌≡◌, ℕ, Bool, true, false, List, [], ◌∷◌, ◌++◌, refl, sym, ap, ap₂, ◌∙◌, subst}
use Rattle.std.specs.Prelude.{◌==◌, ◌||◌, if◌then◌else◌}
use mathlib.Core.Path.{fun_ext}
use Rattle.std.proofs.lemmas.Bool.{eq-eqb}
use Rattle.gier_agree.specs.declared.kind.Kind.{Kind}
use Rattle.gier_meaning.specs.Tree.{Name, Identifier, AnEntity, AProcedure, AFormalProcedure, AText, AStandard, AnActual, Expr, Number, Logical, Alone, Subscripted, Called, Bracketed, Prefixed, Joined, IfExpr, Quoted, Exprs, NoExprs, MoreExprs, Element, Once, StepUntil, While, Formal, Statement, Labelled, Dummy, Compound, Block, Assign, GoTo, CallOf, If, IfElse, For, Statements, NoStatements, MoreStatements, Declarations, NoDeclarations, Variables, Arrays, Switch, Procedure}
use Rattle.gier_meaning.specs.Outcome.{is_among}
use Rattle.gier_meaning.specs.Scopes.{identifier_in, identifiers_in, labels, all_labels, Declared, quantities, procedures, declared_names, of_block, identifier_of, identifiers_of, formal_identifiers, of_procedure}
use Rattle.gier_meaning.specs.Maps.{Map, map_without, hidden_from, own_left, hidden_in_body}
use Rattle.gier_meaning.specs.Close.{close_name, close, close_all, close_left, close_lefts, close_element, close_elements, close_names, close_in, close_statements, close_declarations}

-- a map leaves an identifier as it is or replaces it by what is none
abbrev pub Stays : Name → ℕ → Type 0
Stays (Identifier y) x = y ≡ x
Stays (AnEntity n) x = Unit {0}
Stays (AProcedure n) x = Unit {0}
Stays (AFormalProcedure n) x = Unit {0}
Stays (AText bytes) x = Unit {0}
Stays (AStandard standard) x = Unit {0}
Stays (AnActual meant kind e) x = Unit {0}

abbrev pub Proper : (ℕ → Name) → Type 0
Proper f = (x : ℕ) → Stays (f x) x

abbrev pub then_names : (ℕ → Name) → (ℕ → Name) → ℕ → Name
then_names f g x = close_name g (f x)

-- ---- names

pub name_then : (f g : ℕ → Name) (n : Name) → close_name g (close_name f n) ≡ close_name (then_names f g) n
name_then f g (Identifier x) = refl
name_then f g (AnEntity n) = refl
name_then f g (AProcedure n) = refl
name_then f g (AFormalProcedure n) = refl
name_then f g (AText bytes) = refl
name_then f g (AStandard standard) = refl
name_then f g (AnActual meant kind e) = refl

pub name_same : (n : Name) → close_name (λ x. Identifier x) n ≡ n
name_same (Identifier x) = refl
name_same (AnEntity n) = refl
name_same (AProcedure n) = refl
name_same (AFormalProcedure n) = refl
name_same (AText bytes) = refl
name_same (AStandard standard) = refl
name_same (AnActual meant kind e) = refl

-- ---- expressions

mutual
  pub close_then : (f g : ℕ → Name) (e : Expr) → close g (close f e) ≡ close (then_names f g) e
  close_then f g (Number value line) = refl
  close_then f g (Logical b line) = refl
  close_then f g (Alone n line) = ap (λ u. Alone u line) (name_then f g n)
  close_then f g (Subscripted n line es) = ap₂ (λ u v. Subscripted u line v) (name_then f g n) (close_all_then f g es)
  close_then f g (Called n line es) = ap₂ (λ u v. Called u line v) (name_then f g n) (close_all_then f g es)
  close_then f g (Bracketed line e) = ap (Bracketed line) (close_then f g e)
  close_then f g (Prefixed op line e) = ap (Prefixed op line) (close_then f g e)
  close_then f g (Joined a op line b) = ap₂ (λ u v. Joined u op line v) (close_then f g a) (close_then f g b)
  close_then f g (IfExpr line test a b) =
      ap₂ (λ t u. IfExpr line t u (close g (close f b))) (close_then f g test) (close_then f g a)
      ∙ ap (IfExpr line (close (then_names f g) test) (close (then_names f g) a)) (close_then f g b)
  close_then f g (Quoted bytes line) = refl

  pub close_all_then : (f g : ℕ → Name) (es : Exprs) → close_all g (close_all f es) ≡ close_all (then_names f g) es
  close_all_then f g NoExprs = refl
  close_all_then f g (MoreExprs e es) = ap₂ MoreExprs (close_then f g e) (close_all_then f g es)

mutual
  pub close_same : (e : Expr) → close (λ x. Identifier x) e ≡ e
  close_same (Number value line) = refl
  close_same (Logical b line) = refl
  close_same (Alone n line) = ap (λ u. Alone u line) (name_same n)
  close_same (Subscripted n line es) = ap₂ (λ u v. Subscripted u line v) (name_same n) (close_all_same es)
  close_same (Called n line es) = ap₂ (λ u v. Called u line v) (name_same n) (close_all_same es)
  close_same (Bracketed line e) = ap (Bracketed line) (close_same e)
  close_same (Prefixed op line e) = ap (Prefixed op line) (close_same e)
  close_same (Joined a op line b) = ap₂ (λ u v. Joined u op line v) (close_same a) (close_same b)
  close_same (IfExpr line test a b) =
      ap₂ (λ t u. IfExpr line t u (close (λ x. Identifier x) b)) (close_same test) (close_same a) ∙ ap (IfExpr line test a) (close_same b)
  close_same (Quoted bytes line) = refl

  pub close_all_same : (es : Exprs) → close_all (λ x. Identifier x) es ≡ es
  close_all_same NoExprs = refl
  close_all_same (MoreExprs e es) = ap₂ MoreExprs (close_same e) (close_all_same es)

-- ---- hiding

hidden_name : (xs : List ℕ) (g : ℕ → Name) (x : ℕ) (t : Bool) (n : Name) → Stays n x → is_among x xs ≡ t
    → close_name (hidden_from xs g) (if t then Identifier x else n) ≡ (if t then Identifier x else close_name g n)
hidden_name xs g x true n stays e = ap (λ u. if u then Identifier x else g x) e
hidden_name xs g x false (Identifier y) stays e = ap (λ u. if u then Identifier y else g y) (ap (λ z. is_among z xs) stays ∙ e)
hidden_name xs g x false (AnEntity n) stays e = refl
hidden_name xs g x false (AProcedure n) stays e = refl
hidden_name xs g x false (AFormalProcedure n) stays e = refl
hidden_name xs g x false (AText bytes) stays e = refl
hidden_name xs g x false (AStandard standard) stays e = refl
hidden_name xs g x false (AnActual meant kind e) stays e1 = refl

pub hidden_then : (xs : List ℕ) (f g : ℕ → Name) → Proper f
    → then_names (hidden_from xs f) (hidden_from xs g) ≡ hidden_from xs (then_names f g)
hidden_then xs f g proper = fun_ext (λ x. hidden_name xs g x (is_among x xs) (f x) (proper x) refl)

stays_hidden : (x : ℕ) (t : Bool) (n : Name) → Stays n x → Stays (if t then Identifier x else n) x
stays_hidden x true n s = refl
stays_hidden x false n s = s

pub proper_hidden : (xs : List ℕ) (f : ℕ → Name) → Proper f → Proper (hidden_from xs f)
proper_hidden xs f proper x = stays_hidden x (is_among x xs) (f x) (proper x)

pub record ProperMap (m : Map) : Type 0 where
  pub used : Proper m.used
  pub assigned : Proper m.assigned

abbrev pub then_map : Map → Map → Map
then_map m k = record { used = then_names m.used k.used; assigned = then_names m.assigned k.assigned }

abbrev as_map : (ℕ → Name) → (ℕ → Name) → Map
as_map f g = record { used = f; assigned = g }

-- ---- what a map keeps

abbrev pub Keeps : (ℕ → Name) → List ℕ → Type 0
Keeps f xs = (x : ℕ) → is_among x xs ≡ true → f x ≡ Identifier x

or_true : (t : Bool) → (t || true) ≡ true
or_true true = refl
or_true false = refl

or_among : (t u v : Bool) → ((t || u) || v) ≡ (t || (u || v))
or_among true u v = refl
or_among false u v = refl

pub among_append : (x : ℕ) (xs ys : List ℕ) → is_among x (xs ++ ys) ≡ (is_among x xs || is_among x ys)
among_append x [] ys = refl
among_append x (y ∷ xs) ys = ap (λ t. (x == y) || t) (among_append x xs ys) ∙ sym (or_among (x == y) (is_among x xs) (is_among x ys))

pub keeps_left : {f : ℕ → Name} (xs ys : List ℕ) → Keeps f (xs ++ ys) → Keeps f xs
keeps_left xs ys k x e = k x (among_append x xs ys ∙ ap (λ t. t || is_among x ys) e)

pub keeps_right : {f : ℕ → Name} (xs ys : List ℕ) → Keeps f (xs ++ ys) → Keeps f ys
keeps_right xs ys k x e = k x (among_append x xs ys ∙ ap (λ t. is_among x xs || t) e ∙ or_true (is_among x xs))

pub keeps_hidden : (xs : List ℕ) (f : ℕ → Name) → Keeps (hidden_from xs f) xs
keeps_hidden xs f x e = ap (λ t. if t then Identifier x else f x) e

pub identifier_stays : (f : ℕ → Name) (n : Name) → Keeps f (identifier_in n) → identifier_in (close_name f n) ≡ identifier_in n
identifier_stays f (Identifier x) k = ap identifier_in (k x (ap (λ t. t || false) (eq-eqb x x refl)))
identifier_stays f (AnEntity n) k = refl
identifier_stays f (AProcedure n) k = refl
identifier_stays f (AFormalProcedure n) k = refl
identifier_stays f (AText bytes) k = refl
identifier_stays f (AStandard standard) k = refl
identifier_stays f (AnActual meant kind e) k = refl

pub names_stay : (m : Map) (ns : List Name) → Keeps m.used (identifiers_in ns) → identifiers_in (close_names m ns) ≡ identifiers_in ns
names_stay m [] k = refl
names_stay m (n ∷ ns) k =
    ap₂ ◌++◌ (identifier_stays m.used n (keeps_left (identifier_in n) (identifiers_in ns) k))
    (names_stay m ns (keeps_right (identifier_in n) (identifiers_in ns) k))

mutual
  pub labels_stay : (m : Map) (s : Statement) → Keeps m.used (labels s) → labels (close_in m s) ≡ labels s
  labels_stay m (Labelled n s) k =
      ap₂ ◌++◌ (identifier_stays m.used n (keeps_left (identifier_in n) (labels s) k))
      (labels_stay m s (keeps_right (identifier_in n) (labels s) k))
  labels_stay m Dummy k = refl
  labels_stay m (Compound ss) k = all_labels_stay m ss k
  labels_stay m (Block line ds ss) k = refl
  labels_stay m (Assign lefts e) k = refl
  labels_stay m (GoTo line e) k = refl
  labels_stay m (CallOf e) k = refl
  labels_stay m (If test s) k = labels_stay m s k
  labels_stay m (IfElse test s other) k =
      ap₂ ◌++◌ (labels_stay m s (keeps_left (labels s) (labels other) k)) (labels_stay m other (keeps_right (labels s) (labels other) k))
  labels_stay m (For line variable place elements s) k = refl

  pub all_labels_stay : (m : Map) (ss : Statements) → Keeps m.used (all_labels ss) → all_labels (close_statements m ss) ≡ all_labels ss
  all_labels_stay m NoStatements k = refl
  all_labels_stay m (MoreStatements s ss) k =
      ap₂ ◌++◌ (labels_stay m s (keeps_left (labels s) (all_labels ss) k)) (all_labels_stay m ss (keeps_right (labels s) (all_labels ss) k))

pub of_quantities : (xs : List ℕ) → identifiers_of (quantities xs) ≡ xs
of_quantities [] = refl
of_quantities (x ∷ xs) = ap (◌∷◌ x) (of_quantities xs)

of_procedures : (xs : List ℕ) → identifiers_of (procedures xs) ≡ xs
of_procedures [] = refl
of_procedures (x ∷ xs) = ap (◌∷◌ x) (of_procedures xs)

identifiers_append : (as_ bs : List Declared) → identifiers_of (as_ ++ bs) ≡ identifiers_of as_ ++ identifiers_of bs
identifiers_append [] bs = refl
identifiers_append (a ∷ as_) bs = ap (◌∷◌ (identifier_of a)) (identifiers_append as_ bs)

pub quantities_first : (xs : List ℕ) (ds : List Declared) → identifiers_of (quantities xs ++ ds) ≡ xs ++ identifiers_of ds
quantities_first xs ds = identifiers_append (quantities xs) ds ∙ ap (λ u. u ++ identifiers_of ds) (of_quantities xs)

pub procedures_first : (xs : List ℕ) (ds : List Declared) → identifiers_of (procedures xs ++ ds) ≡ xs ++ identifiers_of ds
procedures_first xs ds = identifiers_append (procedures xs) ds ∙ ap (λ u. u ++ identifiers_of ds) (of_procedures xs)

pub block_identifiers : (ds : Declarations) (ss : Statements) → identifiers_of (of_block ds ss)
    ≡ identifiers_of (declared_names ds) ++ all_labels ss
block_identifiers ds ss = identifiers_append (declared_names ds) (quantities (all_labels ss))
    ∙ ap (λ u. identifiers_of (declared_names ds) ++ u) (of_quantities (all_labels ss))

pub declared_stay : (m : Map) (ds : Declarations) → Keeps m.used (identifiers_of (declared_names ds)) → declared_names (close_declarations m ds)
    ≡ declared_names ds
declared_stay m NoDeclarations k = refl
declared_stay m (Variables kind ns ds) k =
    let xs = identifiers_in ns in
    let k1 = subst (Keeps m.used) (quantities_first xs (declared_names ds)) k in
    ap₂ (λ u v. quantities u ++ v) (names_stay m ns (keeps_left xs (identifiers_of (declared_names ds)) k1))
    (declared_stay m ds (keeps_right xs (identifiers_of (declared_names ds)) k1))
declared_stay m (Arrays kind line ns bounds ds) k =
    let xs = identifiers_in ns in
    let k1 = subst (Keeps m.used) (quantities_first xs (declared_names ds)) k in
    ap₂ (λ u v. quantities u ++ v) (names_stay m ns (keeps_left xs (identifiers_of (declared_names ds)) k1))
    (declared_stay m ds (keeps_right xs (identifiers_of (declared_names ds)) k1))
declared_stay m (Switch line n elements ds) k =
    let xs = identifier_in n in
    let k1 = subst (Keeps m.used) (quantities_first xs (declared_names ds)) k in
    ap₂ (λ u v. quantities u ++ v) (identifier_stays m.used n (keeps_left xs (identifiers_of (declared_names ds)) k1))
    (declared_stay m ds (keeps_right xs (identifiers_of (declared_names ds)) k1))
declared_stay m (Procedure line kind own n formals body ds) k =
    let xs = identifier_in n in
    let k1 = subst (Keeps m.used) (procedures_first xs (declared_names ds)) k in
    ap₂ (λ u v. procedures u ++ v) (identifier_stays m.used n (keeps_left xs (identifiers_of (declared_names ds)) k1))
    (declared_stay m ds (keeps_right xs (identifiers_of (declared_names ds)) k1))

pub block_stays : (m : Map) (ds : Declarations) (ss : Statements) → Keeps m.used (identifiers_of (of_block ds ss))
    → of_block (close_declarations m ds) (close_statements m ss) ≡ of_block ds ss
block_stays m ds ss k =
    let k1 = subst (Keeps m.used) (block_identifiers ds ss) k in
    ap₂ (λ u v. u ++ quantities v) (declared_stay m ds (keeps_left (identifiers_of (declared_names ds)) (all_labels ss) k1))
    (all_labels_stay m ss (keeps_right (identifiers_of (declared_names ds)) (all_labels ss) k1))

pub procedure_stays : (m : Map) (formals : List Formal) (body : Statement) → Keeps m.used (of_procedure formals body)
    → of_procedure formals (close_in m body) ≡ of_procedure formals body
procedure_stays m formals body k = ap (λ u. formal_identifiers formals ++ u)
    (labels_stay m body (keeps_right (formal_identifiers formals) (labels body) k))

-- ---- statements

left_then : (m k : Map) (e : Expr) → close_left k (close_left m e) ≡ close_left (then_map m k) e
left_then m k (Number value line) = refl
left_then m k (Logical b line) = refl
left_then m k (Alone n line) = ap (λ u. Alone u line) (name_then m.assigned k.assigned n)
left_then m k (Subscripted n line es) = close_then m.used k.used (Subscripted n line es)
left_then m k (Called n line es) = close_then m.used k.used (Called n line es)
left_then m k (Bracketed line e) = close_then m.used k.used (Bracketed line e)
left_then m k (Prefixed op line e) = close_then m.used k.used (Prefixed op line e)
left_then m k (Joined a op line b) = close_then m.used k.used (Joined a op line b)
left_then m k (IfExpr line test a b) = close_then m.used k.used (IfExpr line test a b)
left_then m k (Quoted bytes line) = refl

pub lefts_then : (m k : Map) (es : Exprs) → close_lefts k (close_lefts m es) ≡ close_lefts (then_map m k) es
lefts_then m k NoExprs = refl
lefts_then m k (MoreExprs e es) = ap₂ MoreExprs (left_then m k e) (lefts_then m k es)

element_then : (m k : Map) (e : Element) → close_element k (close_element m e) ≡ close_element (then_map m k) e
element_then m k (Once e) = ap Once (close_then m.used k.used e)
element_then m k (StepUntil a b c) =
    ap₂ (λ u v. StepUntil u v (close k.used (close m.used c))) (close_then m.used k.used a) (close_then m.used k.used b)
    ∙ ap (StepUntil (close (then_names m.used k.used) a) (close (then_names m.used k.used) b)) (close_then m.used k.used c)
element_then m k (While e test) = ap₂ While (close_then m.used k.used e) (close_then m.used k.used test)

pub elements_then : (m k : Map) (es : List Element) → close_elements k (close_elements m es) ≡ close_elements (then_map m k) es
elements_then m k [] = refl
elements_then m k (e ∷ es) = ap₂ ◌∷◌ (element_then m k e) (elements_then m k es)

pub names_then : (m k : Map) (ns : List Name) → close_names k (close_names m ns) ≡ close_names (then_map m k) ns
names_then m k [] = refl
names_then m k (n ∷ ns) = ap₂ ◌∷◌ (name_then m.used k.used n) (names_then m k ns)

pub hidden_map : (xs : List ℕ) (m k : Map) → ProperMap m → then_map (map_without xs m) (map_without xs k) ≡ map_without xs (then_map m k)
hidden_map xs m k proper = ap₂ as_map (hidden_then xs m.used k.used proper.used) (hidden_then xs m.assigned k.assigned proper.assigned)

pub hidden_body : (kind : Kind) (own : ℕ) (xs : List ℕ) (m k : Map) → ProperMap m
    → then_map (hidden_in_body kind own xs m) (hidden_in_body kind own xs k) ≡ hidden_in_body kind own xs (then_map m k)
hidden_body kind own xs m k proper = ap₂ as_map (hidden_then xs m.used k.used proper.used)
    (hidden_then (own_left kind own ++ xs) m.assigned k.assigned proper.assigned)

pub proper_map : (xs : List ℕ) (m : Map) → ProperMap m → ProperMap (map_without xs m)
proper_map xs m proper = record { used = proper_hidden xs m.used proper.used; assigned = proper_hidden xs m.assigned proper.assigned }

pub proper_body : (kind : Kind) (own : ℕ) (xs : List ℕ) (m : Map) → ProperMap m → ProperMap (hidden_in_body kind own xs m)
proper_body kind own xs m proper = record {
  used = proper_hidden xs m.used proper.used;
  assigned = proper_hidden
      (own_left kind own ++ xs) m.assigned proper.assigned;
}

mutual
  pub in_then : (m k : Map) → ProperMap m → (s : Statement) → close_in k (close_in m s) ≡ close_in (then_map m k) s
  in_then m k proper (Labelled n s) = ap₂ Labelled (name_then m.used k.used n) (in_then m k proper s)
  in_then m k proper Dummy = refl
  in_then m k proper (Compound ss) = ap Compound (statements_then m k proper ss)
  in_then m k proper (Block line ds ss) =
      let xs : List ℕ = identifiers_of (of_block ds ss) in
      let m1 : Map = map_without xs m in
      let stays = ap identifiers_of (block_stays m1 ds ss (keeps_hidden xs m.used)) in
      let p = proper_map xs m proper in
      ap (λ u. Block line (close_declarations (map_without u k) (close_declarations m1 ds))
      (close_statements (map_without u k) (close_statements m1 ss))) stays
      ∙ ap₂ (Block line) (declarations_then m1 (map_without xs k) p ds) (statements_then m1 (map_without xs k) p ss)
      ∙ ap (λ u. Block line (close_declarations u ds) (close_statements u ss)) (hidden_map xs m k proper)
  in_then m k proper (Assign lefts e) = ap₂ Assign (lefts_then m k lefts) (close_then m.used k.used e)
  in_then m k proper (GoTo line e) = ap (GoTo line) (close_then m.used k.used e)
  in_then m k proper (CallOf e) = ap CallOf (close_then m.used k.used e)
  in_then m k proper (If test s) = ap₂ If (close_then m.used k.used test) (in_then m k proper s)
  in_then m k proper (IfElse test s other) =
      ap₂ (λ t u. IfElse t u (close_in k (close_in m other))) (close_then m.used k.used test) (in_then m k proper s)
      ∙ ap (IfElse (close (then_names m.used k.used) test) (close_in (then_map m k) s)) (in_then m k proper other)
  in_then m k proper (For line variable place elements s) =
      let xs : List ℕ = labels s in
      let m1 : Map = map_without xs m in
      let stays = labels_stay m1 s (keeps_hidden xs m.used) in
      let p = proper_map xs m proper in
      ap (λ u. For line (close_name k.used (close_name m.used variable)) place (close_elements k (close_elements m elements))
      (close_in (map_without u k) (close_in m1 s))) stays
      ∙ ap₂ (λ u v. For line u place v (close_in (map_without xs k) (close_in m1 s))) (name_then m.used k.used variable)
      (elements_then m k elements)
      ∙ ap (For line (close_name (then_names m.used k.used) variable) place (close_elements (then_map m k) elements))
      (in_then m1 (map_without xs k) p s ∙ ap (λ u. close_in u s) (hidden_map xs m k proper))

  pub statements_then : (m k : Map) → ProperMap m → (ss : Statements) → close_statements k (close_statements m ss)
      ≡ close_statements (then_map m k) ss
  statements_then m k proper NoStatements = refl
  statements_then m k proper (MoreStatements s ss) = ap₂ MoreStatements (in_then m k proper s) (statements_then m k proper ss)

  pub declarations_then : (m k : Map) → ProperMap m → (ds : Declarations) → close_declarations k (close_declarations m ds)
      ≡ close_declarations (then_map m k) ds
  declarations_then m k proper NoDeclarations = refl
  declarations_then m k proper (Variables kind ns ds) = ap₂ (Variables kind) (names_then m k ns) (declarations_then m k proper ds)
  declarations_then m k proper (Arrays kind line ns bounds ds) =
      ap₂ (λ u v. Arrays kind line u v (close_declarations k (close_declarations m ds))) (names_then m k ns)
      (close_all_then m.used k.used bounds)
      ∙ ap (Arrays kind line (close_names (then_map m k) ns) (close_all (then_names m.used k.used) bounds))
      (declarations_then m k proper ds)
  declarations_then m k proper (Switch line n elements ds) =
      ap₂ (λ u v. Switch line u v (close_declarations k (close_declarations m ds))) (name_then m.used k.used n)
      (close_all_then m.used k.used elements)
      ∙ ap (Switch line (close_name (then_names m.used k.used) n) (close_all (then_names m.used k.used) elements))
      (declarations_then m k proper ds)
  declarations_then m k proper (Procedure line kind own n formals body ds) =
      let xs : List ℕ = of_procedure formals body in
      let m1 : Map = hidden_in_body kind own xs m in
      let stays = procedure_stays m1 formals body (keeps_hidden xs m.used) in
      let p = proper_body kind own xs m proper in
      ap (λ u. Procedure line kind own (close_name k.used (close_name m.used n)) formals
      (close_in (hidden_in_body kind own u k) (close_in m1 body)) (close_declarations k (close_declarations m ds))) stays
      ∙ ap₂ (λ u v. Procedure line kind own u formals v (close_declarations k (close_declarations m ds))) (name_then m.used k.used n)
      (in_then m1 (hidden_in_body kind own xs k) p body ∙ ap (λ u. close_in u body) (hidden_body kind own xs m k proper))
      ∙ ap (Procedure line kind own (close_name (then_names m.used k.used) n) formals
      (close_in (hidden_in_body kind own xs (then_map m k)) body)) (declarations_then m k proper ds)
