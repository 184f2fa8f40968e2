-- A heading without faults of scopes has formals that are distinct, each specified once.
use Rattle.std.proofs.Common.{◌≡◌, ◌≢◌, ℕ, Bool, true, false, List, [], ◌∷◌, refl, ap, sym, ◌∙◌}
use Rattle.std.specs.Prelude.{◌==◌, ◌||◌, ◌&&◌, not, if◌then◌else◌}
use Rattle.std.specs.List.{AllByRecursion, flat_map, list_any}
use Rattle.gier_tree.specs.declared.kind.Kind.TheVariants.{Undeclared}
use Rattle.gier_tree.specs.Declaring.{list_of, formals_of}
use Rattle.gier_tree.specs.Described.{kind_in, formal_kind, specified_kind, is_named, is_by_value}
use Rattle.gier_tree.specs.Trees.{Name, IntegerType, BooleanType, ValueType, ValuePart, Specifier, ValueSpec, ArraySpec, LabelSpec, SwitchSpec, StringSpec, ProcedureSpec, FunctionSpec, Specification, Heading, MkHeading}
use Rattle.gier_tree.specs.Described.{value_kind, name_kind, array_formal_kind, function_formal_kind}
use Rattle.gier_scope.specs.Faults.{DeclaredTwice, NotFormal, SpecifiedTwice, NotSpecified, fault_where}
use Rattle.gier_scope.specs.Places.{formal_places, heading_places, heading_faults, specified_places, value_places}
use Rattle.gier_scope.specs.Scopes.{Scope, scope_of, declares}
use Rattle.gier_fair.specs.InScope.{HasFormals}
use Rattle.gier_fair.proofs.Apart.{no_fault, Apart, nothing_apart, one_apart, joined}
use Rattle.gier_fair.proofs.Lists.{three_empty}
use Rattle.gier_fair.proofs.RenamedUses.{mapped}

specified : (a b : Bool) → (not a && not b) ≡ false → a ≡ false → b ≡ true
specified false true e h = refl
specified false false e h = cc
specified true b e h = cc

second_false : (a b : Bool) → (a && b) ≡ false → a ≡ true → b ≡ false
second_false true b e h = e
second_false false b e h = cc

not_false : (a : Bool) → not a ≡ false → a ≡ true
not_false true e = refl
not_false false e = cc

formals_right : (specs before : Scope) (xs : List Name) → formal_places specs before xs ≡ [] → Apart before (scope_of xs) × AllByRecursion (λ x. declares specs x.number ≡ true) xs
formals_right specs before [] e = (nothing_apart before, tt)
formals_right specs before (x ∷ xs) e =
    let out = declares before x.number in
    let unspecified = not out && not (declares specs x.number) in
    let q = three_empty (fault_where out DeclaredTwice x.line) (fault_where unspecified NotSpecified x.line) (formal_places specs (x.number ∷ before) xs) e in
    let new = no_fault out DeclaredTwice x.line q.0 in
    let r = formals_right specs (x.number ∷ before) xs q.2 in
    (one_apart before (scope_of xs) x.number new r.0, (specified out (declares specs x.number) (no_fault unspecified NotSpecified x.line q.1) new, r.1))

places_right : (formals before : Scope) (xs : List Name) → heading_places formals before xs ≡ [] → Apart before (scope_of xs) × AllByRecursion (λ x. declares formals x.number ≡ true) xs
places_right formals before [] e = (nothing_apart before, tt)
places_right formals before (x ∷ xs) e =
    let is = declares formals x.number in
    let twice = is && declares before x.number in
    let q = three_empty (fault_where (not is) NotFormal x.line) (fault_where twice SpecifiedTwice x.line) (heading_places formals (x.number ∷ before) xs) e in
    let formal = not_false is (no_fault (not is) NotFormal x.line q.0) in
    let r = places_right formals (x.number ∷ before) xs q.2 in
    (one_apart before (scope_of xs) x.number (second_false is (declares before x.number) (no_fault twice SpecifiedTwice x.line q.1) formal) r.0, (formal, r.1))

value_seen : (t : ValueType) → value_kind t ≢ Undeclared
value_seen IntegerType e = cc
value_seen BooleanType e = cc

name_seen : (t : ValueType) → name_kind t ≢ Undeclared
name_seen IntegerType e = cc
name_seen BooleanType e = cc

array_seen : (t : ValueType) → array_formal_kind t ≢ Undeclared
array_seen IntegerType e = cc
array_seen BooleanType e = cc

function_seen : (t : ValueType) → function_formal_kind t ≢ Undeclared
function_seen IntegerType e = cc
function_seen BooleanType e = cc

specifier_seen : (s : Specifier) (by_value : Bool) → specified_kind s by_value ≢ Undeclared
specifier_seen (ValueSpec t) true = value_seen t.type
specifier_seen (ValueSpec t) false = name_seen t.type
specifier_seen (ArraySpec t l) b = array_seen t.type
specifier_seen (LabelSpec l) b = λ e. cc
specifier_seen (SwitchSpec l) b = λ e. cc
specifier_seen (StringSpec l) b = λ e. cc
specifier_seen (ProcedureSpec l) b = λ e. cc
specifier_seen (FunctionSpec t l) b = function_seen t.type

named_is : (xs : List Name) (x : ℕ) → list_any (λ (n : Name). n.number == x) xs ≡ declares (scope_of xs) x
named_is [] x = refl
named_is (y ∷ xs) x = ap (λ b. (y.number == x) || b) (named_is xs x)

formal_seen : (ss : List Specification) (vs : ValuePart) (x : ℕ) → declares (scope_of (flat_map (λ (s : Specification). list_of s.names) ss)) x ≡ true → formal_kind ss vs x ≢ Undeclared
formal_seen [] vs x e = cc
formal_seen (s ∷ ss) vs x e = by (is_named x s.names) (declares (scope_of (list_of s.names)) x) (named_is (list_of s.names) x) (sym (ap (λ xs. declares xs x) (mapped (λ y. y.number) (list_of s.names) more) ∙ joined (scope_of (list_of s.names)) (scope_of more) x) ∙ e) (λ r. formal_seen ss vs x r)
  where
    more : List Name
    more = flat_map (λ (s : Specification). list_of s.names) ss

    by : (c d : Bool) → c ≡ d → (d || declares (scope_of more) x) ≡ true → (declares (scope_of more) x ≡ true → formal_kind ss vs x ≢ Undeclared)
        → (if c then specified_kind s.specifier (is_by_value x vs) else formal_kind ss vs x) ≢ Undeclared
    by true d same q rest = specifier_seen s.specifier (is_by_value x vs)
    by false false same q rest = rest q
    by false true same q rest = cc

kind_seen : (h : Heading) (x : ℕ) → declares (scope_of (specified_places h)) x ≡ true → kind_in h x ≢ Undeclared
kind_seen (MkHeading t l y fs m vs ss) x e = formal_seen ss vs x e

all_seen : (h : Heading) (xs : List Name) → AllByRecursion (λ x. declares (scope_of (specified_places h)) x.number ≡ true) xs → AllByRecursion (λ x. kind_in h x.number ≢ Undeclared) xs
all_seen h [] k = tt
all_seen h (x ∷ xs) k = (kind_seen h x.number k.0, all_seen h xs k.1)

pub heading_right : (h : Heading) → heading_faults h ≡ [] → HasFormals h × Apart [] (scope_of (formals_of h))
heading_right h e =
    let formals = scope_of (formals_of h) in
    let specs = scope_of (specified_places h) in
    let q = three_empty (formal_places specs [] (formals_of h)) (heading_places formals [] (value_places h)) (heading_places formals [] (specified_places h)) e in
    let f = formals_right specs [] (formals_of h) q.0 in
    let v = places_right formals [] (value_places h) q.1 in
    let s = places_right formals [] (specified_places h) q.2 in
    (record { every = all_seen h (formals_of h) f.1; specified = (s.0.0, s.1); by_value = (v.0.0, v.1) }, f.0)
