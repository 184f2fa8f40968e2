-- What scopes tell of identifiers and what a meaning asks of them stay alike within blocks, procedures and controlled statements.
use Rattle.std.proofs.Common.{◌≡◌, ◌∙◌, ◌++◌, ℕ, suc, Bool, true, false, List, [], ◌∷◌, refl, sym as back, ap, ap₂, subst, arith}
use Rattle.std.specs.Prelude.{◌==◌, ◌||◌, map, Option, None, Some, if◌then◌else◌, length}
use Rattle.std.specs.List.{list_any}
use Rattle.std.proofs.lemmas.Bool.Decides.{nat_tests}
use Rattle.std.proofs.lemmas.List.{append-nil}
use Rattle.gier_agree.specs.declared.kind.Kind.{Kind as Fitting}
use Rattle.gier_agree.specs.declared.kind.Kind.TheVariants as agree_kind
use Rattle.gier_tree.specs.declared.kind.Kind.{Kind}
use Rattle.gier_tree.specs.declared.kind.Kind.TheVariants.{Undeclared, Label, Switch}
use Rattle.gier_tree.specs.Declaring.{list_of, formals_of, labels_of_statement, labels_of_statements, labels_of_unconditional}
use Rattle.gier_tree.specs.Declaring.{labels_of_basic, labels_of_group, labels_of_conditional, labels_of_loop}
use Rattle.gier_tree.specs.Described as scope
use Rattle.gier_tree.specs.Described.{Described, Scopes, description}
use Rattle.gier_tree.specs.Trees as tree
use Rattle.gier_tree.specs.Trees.{LabelPlace, NextName, MkNames, MkHeading, MkSegment, IntegerType, BooleanType, TypeWord, ValueType}
use Rattle.gier_meaning.specs.Outcome.{is_among}
use Rattle.gier_meaning.specs.Plain as plain
use Rattle.gier_meaning.specs.Scopes.{identifiers_in, labels, all_labels}
use Rattle.gier_meaning.specs.Tree.{Name, Identifier, Statement, MoreStatements, Declarations}
use Rattle.gier_meaning.specs.What.{What, IsVariable, IsArray, IsLabel, IsSwitch, IsProcedure, kinds, declared_by, formal_what}
use Rattle.gier_meaning.specs.What.{specified_by, labels_by, in_block, in_procedure, in_controlled}
use Rattle.gier_twice.specs.SameNeeds.{AreAlike, AreSameFormals, IsSameFormal, NeedsAlike}

-- the same names, in both trees

abbrev pub numbers : List tree.Name → List ℕ
numbers [] = []
numbers (x ∷ xs) = x.number ∷ numbers xs

abbrev pub label_names : List LabelPlace → List tree.Name
label_names ls = map (λ l. l.name) ls

more_same : (ns : List NextName) → plain.more_names ns ≡ map (λ n. n.name) ns
more_same [] = refl
more_same (n ∷ ns) = ap (λ r. n.name ∷ r) (more_same ns)

pub list_same : (ns : tree.Names) → plain.name_list ns ≡ list_of ns
list_same (MkNames x ns) = ap (λ r. x ∷ r) (more_same ns)

identifiers_same : (xs : List tree.Name) → identifiers_in (map plain.name_of xs) ≡ numbers xs
identifiers_same [] = refl
identifiers_same (x ∷ xs) = ap (λ r. x.number ∷ r) (identifiers_same xs)

names_same : (ns : tree.Names) → identifiers_in (plain.names ns) ≡ numbers (list_of ns)
names_same ns = identifiers_same (plain.name_list ns) ∙ ap numbers (list_same ns)

-- labels

numbers_both : (as_ bs : List LabelPlace) → numbers (label_names (as_ ++ bs)) ≡ numbers (label_names as_) ++ numbers (label_names bs)
numbers_both [] bs = refl
numbers_both (a ∷ as_) bs = ap (λ r. a.name.number ∷ r) (numbers_both as_ bs)

both_from_left : (xs ys zs : List ℕ) → (xs ++ ys) ++ zs ≡ xs ++ (ys ++ zs)
both_from_left [] ys zs = refl
both_from_left (x ∷ xs) ys zs = ap (λ r. x ∷ r) (both_from_left xs ys zs)

labelled : (ls : List LabelPlace) (s : Statement) → labels (plain.with_labels ls s) ≡ numbers (label_names ls) ++ labels s
labelled [] s = refl
labelled (l ∷ ls) s = ap (λ r. l.name.number ∷ r) (labelled ls s)

-- labels before a statement whose own are told
before : (ls rest behind : List LabelPlace) (s : Statement) → numbers (label_names rest) ≡ labels s ++ numbers (label_names behind)
    → numbers (label_names (ls ++ rest)) ≡ labels (plain.with_labels ls s) ++ numbers (label_names behind)
before ls rest behind s h = numbers_both ls rest ∙ ap (λ r. numbers (label_names ls) ++ r) h
    ∙ back (both_from_left (numbers (label_names ls)) (labels s) (numbers (label_names behind)))
    ∙ ap (λ r. r ++ numbers (label_names behind)) (back (labelled ls s))

-- two parts, one behind the other
chained : (first middle behind : List ℕ) (xs : List ℕ) → xs ≡ first ++ middle → (own : List ℕ) → middle ≡ own ++ behind
    → xs ≡ (first ++ own) ++ behind
chained first middle behind xs h own g = h ∙ ap (λ r. first ++ r) g ∙ back (both_from_left first own behind)

mutual
  pub labels_same : (s : tree.Statement) (r : List LabelPlace)
      → numbers (label_names (labels_of_statement s r)) ≡ labels (plain.statement s) ++ numbers (label_names r)
  labels_same (tree.OneUnconditional u) r = unconditional_labels u r
  labels_same (tree.OneConditional c) r = conditional_labels c r
  labels_same (tree.OneLoop f) r = loop_labels f r

  pub all_labels_same : (ss : tree.Statements) (r : List LabelPlace)
      → numbers (label_names (labels_of_statements ss r)) ≡ all_labels (plain.statements ss) ++ numbers (label_names r)
  all_labels_same tree.NoStatements r = refl
  all_labels_same (tree.MoreStatements l s ss) r =
      chained (labels (plain.statement s)) _ (numbers (label_names r)) _ (labels_same s (labels_of_statements ss r)) (all_labels (plain.statements ss)) (all_labels_same ss r)

  unconditional_labels : (u : tree.Unconditional) (r : List LabelPlace)
      → numbers (label_names (labels_of_unconditional u r)) ≡ labels (plain.unconditional u) ++ numbers (label_names r)
  unconditional_labels (tree.MkUnconditional ls b) r = before ls (labels_of_basic b r) r (plain.basic b) (basic_labels b r)

  basic_labels : (b : tree.Basic) (r : List LabelPlace)
      → numbers (label_names (labels_of_basic b r)) ≡ labels (plain.basic b) ++ numbers (label_names r)
  basic_labels (tree.OneGroup g) r = group_labels g r
  basic_labels (tree.Assign p ps e) r = refl
  basic_labels (tree.Jump l e) r = refl
  basic_labels (tree.CallStatement c) r = refl
  basic_labels tree.Dummy r = refl

  group_labels : (g : tree.Group) (r : List LabelPlace)
      → numbers (label_names (labels_of_group g r)) ≡ labels (plain.group g) ++ numbers (label_names r)
  group_labels (tree.MkBlock l d m ds s ss n) r = refl
  group_labels (tree.MkCompound l s ss m) r =
      chained (labels (plain.statement s)) _ (numbers (label_names r)) _ (labels_same s (labels_of_statements ss r)) (all_labels (plain.statements ss)) (all_labels_same ss r)

  conditional_labels : (c : tree.Conditional) (r : List LabelPlace)
      → numbers (label_names (labels_of_conditional c r)) ≡ labels (plain.conditional c) ++ numbers (label_names r)
  conditional_labels (tree.IfThen ls l e m u) r = before ls _ r _ (unconditional_labels u r)
  conditional_labels (tree.IfElse ls l e m u n s) r = before ls _ r _
      (chained (labels (plain.unconditional u)) _ (numbers (label_names r)) _ (unconditional_labels u (labels_of_statement s r)) (labels (plain.statement s)) (labels_same s r))
  conditional_labels (tree.IfLoop ls l e m f) r = before ls _ r _ (loop_labels f r)

  loop_labels : (f : tree.Loop) (r : List LabelPlace)
      → numbers (label_names (labels_of_loop f r)) ≡ labels (plain.loop f) ++ numbers (label_names r)
  loop_labels (tree.MkLoop ls l x m t ts n s) r = before ls r r _ refl

-- what is bound

by_test : (b c : Bool) (d : Described) (w : What) → NeedsAlike d w → (e : Described) (v : What) → NeedsAlike e (if c then w else v)
    → NeedsAlike (if b then d else e) (if b || c then w else v)
by_test true c d w a e v r = a
by_test false c d w a e v r = r

all_alike : (xs : List tree.Name) (d : Described) (w : What) → NeedsAlike d w → (scopes : Scopes) (outer : ℕ → What)
    → ((y : ℕ) → NeedsAlike (scopes y) (outer y))
    → (y : ℕ) → NeedsAlike (scope.bind_all xs d scopes y) (if is_among y (numbers xs) then w else outer y)
all_alike [] d w a scopes outer h y = h y
all_alike (x ∷ xs) d w a scopes outer h y =
    by_test (y == x.number) (is_among y (numbers xs)) d w a _ (outer y) (all_alike xs d w a scopes outer h y)

names_alike : (ns : tree.Names) (d : Described) (w : What) → NeedsAlike d w → (scopes : Scopes) (outer : ℕ → What)
    → ((y : ℕ) → NeedsAlike (scopes y) (outer y))
    → (y : ℕ) → NeedsAlike (scope.bind_all (list_of ns) d scopes y) (if is_among y (identifiers_in (plain.names ns)) then w else outer y)
names_alike ns d w a scopes outer h y =
    subst (λ is. NeedsAlike (scope.bind_all (list_of ns) d scopes y) (if is_among y is then w else outer y)) (back (names_same ns))
    (all_alike (list_of ns) d w a scopes outer h y)

label_alike : NeedsAlike (scope.plain Label) IsLabel
label_alike = record { element = λ c f a. refl; call = λ c b g. refl; formals = tt }

pub labels_alike : (ls : List LabelPlace) (own : List ℕ) → numbers (label_names ls) ≡ own → (scopes : Scopes) (outer : ℕ → What)
    → ((y : ℕ) → NeedsAlike (scopes y) (outer y)) → (y : ℕ) → NeedsAlike (scope.bind_labels ls scopes y) (labels_by own y (outer y))
labels_alike ls own e scopes outer h y =
    subst (λ is. NeedsAlike (scope.bind_labels ls scopes y) (if is_among y is then IsLabel else outer y)) e
    (all_alike (label_names ls) (scope.plain Label) IsLabel label_alike scopes outer h y)

variable_alike : (t : ValueType) → NeedsAlike (scope.plain (scope.variable_kind t)) (IsVariable (plain.value_kind t))
variable_alike IntegerType = record { element = λ c f a. refl; call = λ c b g. refl; formals = tt }
variable_alike BooleanType = record { element = λ c f a. refl; call = λ c b g. refl; formals = tt }

array_alike : (t : ValueType) (n : ℕ) → NeedsAlike (description (scope.array_kind t) n []) (IsArray (plain.array_kind t))
array_alike IntegerType n = record { element = λ c f a. refl; call = λ c b g. refl; formals = tt }
array_alike BooleanType n = record { element = λ c f a. refl; call = λ c b g. refl; formals = tt }

switch_alike : NeedsAlike (scope.plain Switch) IsSwitch
switch_alike = record { element = λ c f a. refl; call = λ c b g. refl; formals = tt }

-- formals

same_test : (a b : ℕ) → (a == b) ≡ (b == a)
same_test a b = grind (arith, nat_tests)

in_list : (x : ℕ) (xs : List tree.Name) → list_any (λ n. n.number == x) xs ≡ plain.is_in x xs
in_list x [] = refl
in_list x (y ∷ ys) = ap₂ (λ a b. a || b) (same_test y.number x) (in_list x ys)

named_same : (x : ℕ) (ns : tree.Names) → scope.is_named x ns ≡ plain.is_in x (plain.name_list ns)
named_same x ns = in_list x (list_of ns) ∙ ap (plain.is_in x) (back (list_same ns))

by_value_same : (x : ℕ) (vs : tree.ValuePart) → scope.is_by_value x vs ≡ plain.is_by_value x vs
by_value_same x tree.NoValues = refl
by_value_same x (tree.ValueList l ns m) = named_same x ns

specified_formal : (s : tree.Specifier) (b : Bool) → IsSameFormal (scope.specified_kind s b) (plain.specified_kind s b)
specified_formal (tree.ValueSpec t) b = typed t.type b
  where
    typed : (t : ValueType) (b : Bool) → IsSameFormal (scope.specified_kind (tree.ValueSpec (record { type = t; line = 0 })) b) (plain.passed_kind t b)
    typed IntegerType true = λ before need. refl
    typed IntegerType false = λ before need. refl
    typed BooleanType true = λ before need. refl
    typed BooleanType false = λ before need. refl
specified_formal (tree.ArraySpec t l) b = typed t.type
  where
    typed : (t : ValueType) → IsSameFormal (scope.array_formal_kind t) (plain.array_kind t)
    typed IntegerType = λ before need. refl
    typed BooleanType = λ before need. refl
specified_formal (tree.LabelSpec l) b = λ before need. refl
specified_formal (tree.SwitchSpec l) b = λ before need. refl
specified_formal (tree.StringSpec l) b = λ before need. refl
specified_formal (tree.ProcedureSpec l) b = λ before need. refl
specified_formal (tree.FunctionSpec t l) b = typed t.type
  where
    typed : (t : ValueType) → IsSameFormal (scope.function_formal_kind t) (plain.function_kind t)
    typed IntegerType = λ before need. refl
    typed BooleanType = λ before need. refl

specified_alike : (s : tree.Specifier) (b : Bool) → NeedsAlike (scope.plain (scope.specified_kind s b)) (formal_what (plain.specified_kind s b))
specified_alike (tree.ValueSpec t) b = typed t.type b
  where
    typed : (t : ValueType) (b : Bool) → NeedsAlike (scope.plain (scope.specified_kind (tree.ValueSpec (record { type = t; line = 0 })) b)) (formal_what (plain.passed_kind t b))
    typed IntegerType true = record { element = λ c f a. refl; call = λ c b g. refl; formals = tt }
    typed IntegerType false = record { element = λ c f a. refl; call = λ c b g. refl; formals = tt }
    typed BooleanType true = record { element = λ c f a. refl; call = λ c b g. refl; formals = tt }
    typed BooleanType false = record { element = λ c f a. refl; call = λ c b g. refl; formals = tt }
specified_alike (tree.ArraySpec t l) b = typed t.type
  where
    typed : (t : ValueType) → NeedsAlike (scope.plain (scope.array_formal_kind t)) (formal_what (plain.array_kind t))
    typed IntegerType = record { element = λ c f a. refl; call = λ c b g. refl; formals = tt }
    typed BooleanType = record { element = λ c f a. refl; call = λ c b g. refl; formals = tt }
specified_alike (tree.LabelSpec l) b = label_formal
  where
    label_formal : NeedsAlike (scope.plain (scope.specified_kind (tree.LabelSpec l) b)) IsLabel
    label_formal = record { element = λ c f a. refl; call = λ c b g. refl; formals = tt }
specified_alike (tree.SwitchSpec l) b = record { element = λ c f a. refl; call = λ c b g. refl; formals = tt }
specified_alike (tree.StringSpec l) b = record { element = λ c f a. refl; call = λ c b g. refl; formals = tt }
specified_alike (tree.ProcedureSpec l) b = record { element = λ c f a. refl; call = λ c b g. refl; formals = tt }
specified_alike (tree.FunctionSpec t l) b = typed t.type
  where
    typed : (t : ValueType) → NeedsAlike (scope.plain (scope.function_formal_kind t)) (formal_what (plain.function_kind t))
    typed IntegerType = record { element = λ c f a. refl; call = λ c b g. refl; formals = tt }
    typed BooleanType = record { element = λ c f a. refl; call = λ c b g. refl; formals = tt }

-- by the first specification that names it, in both
pub formal_by : (P : Kind → Fitting → Type 0) → P Undeclared agree_kind.Integer
    → ((s : tree.Specifier) (b : Bool) → P (scope.specified_kind s b) (plain.specified_kind s b))
    → (ss : List tree.Specification) (vs : tree.ValuePart) (x : ℕ)
    → P (scope.formal_kind ss vs x) (plain.formal_kind x (plain.is_by_value x vs) ss)
formal_by P none some [] vs x = none
formal_by P none some (s ∷ ss) vs x =
    subst (λ t. P (if t then scope.specified_kind s.specifier (scope.is_by_value x vs) else scope.formal_kind ss vs x)
    (plain.formal_kind x (plain.is_by_value x vs) (s ∷ ss))) (back (named_same x s.names))
    (subst (λ v. P (if plain.is_in x (plain.name_list s.names) then scope.specified_kind s.specifier v else scope.formal_kind ss vs x)
    (plain.formal_kind x (plain.is_by_value x vs) (s ∷ ss))) (back (by_value_same x vs))
    (either_way (plain.is_in x (plain.name_list s.names)) (some s.specifier (plain.is_by_value x vs)) (formal_by P none some ss vs x)))
  where
    either_way : (t : Bool) → P (scope.specified_kind s.specifier (plain.is_by_value x vs)) (plain.specified_kind s.specifier (plain.is_by_value x vs))
        → P (scope.formal_kind ss vs x) (plain.formal_kind x (plain.is_by_value x vs) ss)
        → P (if t then scope.specified_kind s.specifier (plain.is_by_value x vs) else scope.formal_kind ss vs x)
        (if t then plain.specified_kind s.specifier (plain.is_by_value x vs) else plain.formal_kind x (plain.is_by_value x vs) ss)
    either_way true a r = a
    either_way false a r = r

same_formals : (ss : List tree.Specification) (vs : tree.ValuePart) (xs : List tree.Name)
    → AreSameFormals (map (λ x. scope.formal_kind ss vs x.number) xs) (kinds (plain.formals_from vs ss xs))
same_formals ss vs [] = tt
same_formals ss vs (x ∷ xs) =
    (formal_by IsSameFormal (λ before need. refl) specified_formal ss vs x.number, same_formals ss vs xs)

heading_formals : (ss : List tree.Specification) (vs : tree.ValuePart) (fs : tree.Formals) (t : Option TypeWord) (l : ℕ) (x : tree.Name) (m : ℕ)
    → AreSameFormals (scope.formal_kinds (MkHeading t l x fs m vs ss)) (kinds (plain.formals fs vs ss))
heading_formals ss vs tree.NoFormals t l x m = tt
heading_formals ss vs (tree.FormalList k ns n) t l x m =
    subst (λ xs. AreSameFormals (map (λ x. scope.formal_kind ss vs x.number) (list_of ns)) (kinds (plain.formals_from vs ss xs)))
    (back (list_same ns)) (same_formals ss vs (list_of ns))

procedure_alike : (t : Option TypeWord) (n : ℕ) (ks : List Kind) (gs : List Fitting) → AreSameFormals ks gs
    → NeedsAlike (description (scope.procedure_kind t) n ks) (IsProcedure (plain.procedure_kind t) gs)
procedure_alike None n ks gs f = record { element = λ c f a. refl; call = λ c b g. refl; formals = f }
procedure_alike (Some w) n ks gs f = typed w.type
  where
    typed : (t : ValueType) → NeedsAlike (description (scope.procedure_kind (Some (record { type = t; line = 0 }))) n ks) (IsProcedure (plain.function_kind t) gs)
    typed IntegerType = record { element = λ c f a. refl; call = λ c b g. refl; formals = f }
    typed BooleanType = record { element = λ c f a. refl; call = λ c b g. refl; formals = f }

-- formals within a procedure

formals_alike : (ss : List tree.Specification) (vs : tree.ValuePart) (xs : List tree.Name) (h : tree.Heading)
    → ((x : ℕ) → scope.kind_in h x ≡ scope.formal_kind ss vs x) → (scopes : Scopes) (outer : ℕ → What)
    → ((y : ℕ) → NeedsAlike (scopes y) (outer y))
    → (y : ℕ) → NeedsAlike (scope.bind_formals h xs scopes y) (specified_by (plain.formals_from vs ss xs) y (outer y))
formals_alike ss vs [] h e scopes outer a y = a y
formals_alike ss vs (x ∷ xs) h e scopes outer a y =
    either_way (y == x.number)
    (subst (λ k. NeedsAlike (scope.plain k) (formal_what (plain.formal_kind x.number (plain.is_by_value x.number vs) ss)))
    (back (e x.number))
    (formal_by (λ k g. NeedsAlike (scope.plain k) (formal_what g)) (record { element = λ c f a. refl; call = λ c b g. refl; formals = tt })
    specified_alike ss vs x.number))
    (formals_alike ss vs xs h e scopes outer a y)
  where
    either_way : (t : Bool)
        → NeedsAlike (scope.plain (scope.kind_in h x.number)) (formal_what (plain.formal_kind x.number (plain.is_by_value x.number vs) ss))
        → NeedsAlike (scope.bind_formals h xs scopes y) (specified_by (plain.formals_from vs ss xs) y (outer y))
        → NeedsAlike (if t then scope.plain (scope.kind_in h x.number) else scope.bind_formals h xs scopes y)
        (if t then formal_what (plain.formal_kind x.number (plain.is_by_value x.number vs) ss)
        else specified_by (plain.formals_from vs ss xs) y (outer y))
    either_way true now later = now
    either_way false now later = later

pub within_procedures : (scopes : Scopes) (what : Name → What) → AreAlike scopes what → (t : Option TypeWord) (l : ℕ) (x : tree.Name)
    (fs : tree.Formals) (m : ℕ) (vs : tree.ValuePart) (ss : List tree.Specification) (s : tree.Statement)
    → AreAlike (scope.procedure_scopes (MkHeading t l x fs m vs ss) s scopes) (in_procedure (plain.formals fs vs ss) (plain.statement s) what)
within_procedures scopes what a t l x fs m vs ss s =
    listed fs
  where
    labels_here : (y : ℕ) → NeedsAlike (scope.bind_labels (labels_of_statement s []) scopes y)
        (labels_by (labels (plain.statement s)) y (what (Identifier y)))
    labels_here = labels_alike (labels_of_statement s []) (labels (plain.statement s)) (labels_same s [] ∙ append-nil (labels (plain.statement s)))
        scopes (λ y. what (Identifier y)) a

    listed : (fs : tree.Formals) → (y : ℕ) → NeedsAlike (scope.bind_formals (MkHeading t l x fs m vs ss) (formals_of (MkHeading t l x fs m vs ss))
        (scope.bind_labels (labels_of_statement s []) scopes) y)
        (specified_by (plain.formals fs vs ss) y (labels_by (labels (plain.statement s)) y (what (Identifier y))))
    listed tree.NoFormals y = labels_here y
    listed (tree.FormalList k ns n) y =
        subst (λ xs. NeedsAlike (scope.bind_formals (MkHeading t l x (tree.FormalList k ns n) m vs ss) (list_of ns)
        (scope.bind_labels (labels_of_statement s []) scopes) y)
        (specified_by (plain.formals_from vs ss xs) y (labels_by (labels (plain.statement s)) y (what (Identifier y))))) (back (list_same ns))
        (formals_alike ss vs (list_of ns) (MkHeading t l x (tree.FormalList k ns n) m vs ss) (λ x. refl)
        (scope.bind_labels (labels_of_statement s []) scopes) (λ y. labels_by (labels (plain.statement s)) y (what (Identifier y))) labels_here y)

pub within_turns : (scopes : Scopes) (what : Name → What) → AreAlike scopes what → (s : tree.Statement)
    → AreAlike (scope.turn_scopes s scopes) (in_controlled (plain.statement s) what)
within_turns scopes what a s =
    labels_alike (labels_of_statement s []) (labels (plain.statement s)) (labels_same s [] ∙ append-nil (labels (plain.statement s)))
    scopes (λ y. what (Identifier y)) a

-- declarations within a block

one_alike : (x : tree.Name) (d : Described) (w : What) → NeedsAlike d w → (scopes : Scopes) (outer : ℕ → What)
    → ((y : ℕ) → NeedsAlike (scopes y) (outer y))
    → (y : ℕ) → NeedsAlike (scope.bind x.number d scopes y) (if is_among y (x.number ∷ []) then w else outer y)
one_alike x d w a scopes outer h y = by_test (y == x.number) false d w a (scopes y) (outer y) (h y)

segment_alike : (t : ValueType) (s : tree.Segment) (rest : Declarations) (scopes : Scopes) (outer : ℕ → What)
    → ((y : ℕ) → NeedsAlike (scopes y) (declared_by rest y (outer y)))
    → (y : ℕ) → NeedsAlike (scope.bind_segment t s scopes y) (declared_by (plain.segment (plain.array_kind t) s rest) y (outer y))
segment_alike t (MkSegment ns l p ps m) rest scopes outer h =
    names_alike ns (description (scope.array_kind t) (suc (length ps)) []) (IsArray (plain.array_kind t)) (array_alike t (suc (length ps)))
    scopes (λ y. declared_by rest y (outer y)) h

segments_alike : (t : ValueType) (ss : List tree.NextSegment) (rest : Declarations) (scopes : Scopes) (outer : ℕ → What)
    → ((y : ℕ) → NeedsAlike (scopes y) (declared_by rest y (outer y)))
    → (y : ℕ) → NeedsAlike (scope.bind_segments t ss scopes y) (declared_by (plain.segments (plain.array_kind t) ss rest) y (outer y))
segments_alike t [] rest scopes outer h = h
segments_alike t (s ∷ ss) rest scopes outer h =
    segment_alike t s.segment (plain.segments (plain.array_kind t) ss rest) (scope.bind_segments t ss scopes) outer
    (segments_alike t ss rest scopes outer h)

declaration_alike : (d : tree.Declaration) (rest : Declarations) (scopes : Scopes) (outer : ℕ → What)
    → ((y : ℕ) → NeedsAlike (scopes y) (declared_by rest y (outer y)))
    → (y : ℕ) → NeedsAlike (scope.bind_declaration d scopes y) (declared_by (plain.declaration d rest) y (outer y))
declaration_alike (tree.DeclareType t ns) rest scopes outer h =
    names_alike ns (scope.plain (scope.variable_kind t.type)) (IsVariable (plain.value_kind t.type)) (variable_alike t.type)
    scopes (λ y. declared_by rest y (outer y)) h
declaration_alike (tree.DeclareOwn l t ns) rest scopes outer h = h
declaration_alike (tree.DeclareArrays t l s ss) rest scopes outer h =
    segment_alike t.type s (plain.segments (plain.array_kind t.type) ss rest) (scope.bind_segments t.type ss scopes) outer
    (segments_alike t.type ss rest scopes outer h)
declaration_alike (tree.DeclareOwnArrays k t l s ss) rest scopes outer h = h
declaration_alike (tree.DeclareSwitch l x m e es) rest scopes outer h =
    one_alike x (scope.plain Switch) IsSwitch switch_alike scopes (λ y. declared_by rest y (outer y)) h
declaration_alike (tree.DeclareProcedure (MkHeading t l x fs m vs ss) s) rest scopes outer h =
    one_alike x (scope.procedure_described (MkHeading t l x fs m vs ss)) (IsProcedure (plain.procedure_kind t) (kinds (plain.formals fs vs ss)))
    (procedure_alike t _ _ _ (heading_formals ss vs fs t l x m)) scopes (λ y. declared_by rest y (outer y)) h

declarations_alike : (ds : tree.Declarations) (scopes : Scopes) (outer : ℕ → What) → ((y : ℕ) → NeedsAlike (scopes y) (outer y))
    → (y : ℕ) → NeedsAlike (scope.bind_declarations ds scopes y) (declared_by (plain.declarations ds) y (outer y))
declarations_alike tree.NoDeclarations scopes outer h = h
declarations_alike (tree.MoreDeclarations d l ds) scopes outer h =
    declaration_alike d (plain.declarations ds) (scope.bind_declarations ds scopes) outer (declarations_alike ds scopes outer h)

pub within_blocks : (scopes : Scopes) (what : Name → What) → AreAlike scopes what → (d : tree.Declaration) (ds : tree.Declarations)
    (s : tree.Statement) (ss : tree.Statements)
    → AreAlike (scope.block_scopes d ds s ss scopes)
    (in_block (plain.declaration d (plain.declarations ds)) (MoreStatements (plain.statement s) (plain.statements ss)) what)
within_blocks scopes what a d ds s ss =
    let own = all_labels (MoreStatements (plain.statement s) (plain.statements ss)) in
    let ls = labels_of_statement s (labels_of_statements ss []) in
    let told : numbers (label_names ls) ≡ own = labels_same s (labels_of_statements ss [])
    ∙ ap (λ r. labels (plain.statement s) ++ r) (all_labels_same ss [] ∙ append-nil (all_labels (plain.statements ss))) in
    let outer : (ℕ → What) = λ y. labels_by own y (what (Identifier y)) in
    declaration_alike d (plain.declarations ds) (scope.bind_declarations ds (scope.bind_labels ls scopes)) outer
    (declarations_alike ds (scope.bind_labels ls scopes) outer (labels_alike ls own told scopes (λ y. what (Identifier y)) a))
