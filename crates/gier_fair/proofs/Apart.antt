-- Scopes without faults declare distinct identifiers.
use Rattle.std.proofs.Common.{◌≡◌, ◌⊎◌, inl, inr, ℕ, Bool, true, false, List, [], ◌∷◌, refl, ap, sym, subst, ◌∙◌}
use Rattle.std.specs.Prelude.{◌++◌, ◌==◌, ◌||◌}
use Rattle.std.proofs.lemmas.Bool.{eqb-true, eqb-false}
use Rattle.std.proofs.lemmas.List.Folds.{list_any-append}
use Rattle.gier_tree.specs.Trees.{Name, LabelPlace}
use Rattle.gier_scope.specs.Faults.{ScopeFault, DeclaredTwice, fault_where}
use Rattle.gier_scope.specs.Places.{declared_twice}
use Rattle.gier_scope.specs.Scopes.{Scope, scope_of, declares, label_names}
use Rattle.gier_fair.specs.InScope.{AreDistinct}
use Rattle.gier_fair.proofs.Lists.{both_empty}
use Rattle.gier_fair.proofs.RenamedUses.{mapped}

pub no_fault : (c : Bool) (kind : ScopeFault) (line : ℕ) → fault_where c kind line ≡ [] → c ≡ false
no_fault false kind line e = refl
no_fault true kind line e = cc

pub neither : (a b : Bool) → (a || b) ≡ false → (a ≡ false) × (b ≡ false)
neither false b e = (refl, e)
neither true b e = cc

pub joined : (xs ys : Scope) (n : ℕ) → declares (xs ++ ys) n ≡ (declares xs n || declares ys n)
joined xs ys n = list_any-append (λ y. y == n) xs ys

pub outside_both : (xs ys : Scope) (n : ℕ) → declares (xs ++ ys) n ≡ false → (declares xs n ≡ false) × (declares ys n ≡ false)
outside_both xs ys n e = neither (declares xs n) (declares ys n) (sym (joined xs ys n) ∙ e)

inside : (a b c : Bool) → c ≡ (a || b) → c ≡ true → (a ≡ true) ⊎ (b ≡ true)
inside true b c e h = inl refl
inside false b c e h = inr (sym e ∙ h)

pub inside_one : (xs ys : Scope) (n : ℕ) → declares (xs ++ ys) n ≡ true → (declares xs n ≡ true) ⊎ (declares ys n ≡ true)
inside_one xs ys n e = inside (declares xs n) (declares ys n) (declares (xs ++ ys) n) (joined xs ys n) e

-- what can't be declared lacks
pub lacks : (c : Bool) → (c ≡ true → ⊥) → c ≡ false
lacks false h = refl
lacks true h = absurd (h refl)

pub contrary : (c : Bool) → c ≡ true → c ≡ false → ⊥
contrary true e f = cc
contrary false e f = cc

itself : (x : ℕ) (b : Bool) → ((x == x) || b) ≡ false → ⊥
itself x b e = eqb-false x x (neither (x == x) b e).0 refl

-- identifiers that are distinct, and none of which is declared before
abbrev pub Apart : (before xs : Scope) → Type 0
Apart before xs = AreDistinct xs × ((n : ℕ) → declares xs n ≡ true → declares before n ≡ false)

pub nothing_apart : (before : Scope) → Apart before []
nothing_apart before = (tt, λ n e. cc)

pub one_apart : (before xs : Scope) (x : ℕ) → declares before x ≡ false → Apart (x ∷ before) xs → Apart before (x ∷ xs)
one_apart before xs x h k = (
  (lacks (declares xs x) (λ q. itself x (declares before x) (k.1 x q)), k.0),
  λ n e. by n (x == n) refl (declares xs n) refl e,
)
  where
    by : (n : ℕ) (c : Bool) → (x == n) ≡ c → (b : Bool) → declares xs n ≡ b → (c || b) ≡ true → declares before n ≡ false
    by n true q b r e = subst (λ n. declares before n ≡ false) (eqb-true x n q) h
    by n false q b r e = (neither (x == n) (declares before n) (k.1 n (r ∙ e))).1

pub names_apart : (before : Scope) (xs : List Name) → declared_twice before xs ≡ [] → Apart before (scope_of xs)
names_apart before [] e = nothing_apart before
names_apart before (x ∷ xs) e =
    let q = both_empty (fault_where (declares before x.number) DeclaredTwice x.line) (declared_twice (x.number ∷ before) xs) e in
    one_apart before (scope_of xs) x.number (no_fault (declares before x.number) DeclaredTwice x.line q.0) (names_apart (x.number ∷ before) xs q.1)

pub distinct_both : (xs ys : Scope) → AreDistinct xs → AreDistinct ys → ((n : ℕ) → declares ys n ≡ true → declares xs n ≡ false) → AreDistinct (xs ++ ys)
distinct_both [] ys h k f = k
distinct_both (x ∷ xs) ys h k f =
    let here = lacks (declares ys x) (λ q. itself x (declares xs x) (f x q)) in
    (joined xs ys x ∙ ap (λ b. b || declares ys x) h.0 ∙ here, distinct_both xs ys h.1 k (λ n q. (neither (x == n) (declares xs n) (f n q)).1))

pub both_apart : (before xs ys : Scope) → Apart before xs → Apart (xs ++ before) ys → Apart before (xs ++ ys)
both_apart before xs ys h k = (
  distinct_both xs ys h.0 k.0 (λ n q. (outside_both xs before n (k.1 n q)).0),
  λ n q. by n (inside_one xs ys n q),
)
  where
    by : (n : ℕ) → (declares xs n ≡ true) ⊎ (declares ys n ≡ true) → declares before n ≡ false
    by n (inl q) = h.1 n q
    by n (inr q) = (outside_both xs before n (k.1 n q)).1

pub more_apart : (before : Scope) (xs ys : List Name) → Apart before (scope_of xs) → Apart (scope_of xs ++ before) (scope_of ys) → Apart before (scope_of (xs ++ ys))
more_apart before xs ys h k = subst (Apart before) (sym (mapped (λ x. x.number) xs ys)) (both_apart before (scope_of xs) (scope_of ys) h k)

pub labels_apart : (before : Scope) (ls ms : List LabelPlace) → Apart before (scope_of (label_names ls)) → Apart (scope_of (label_names ls) ++ before) (scope_of (label_names ms)) → Apart before (scope_of (label_names (ls ++ ms)))
labels_apart before ls ms h k =
    subst (λ xs. Apart before (scope_of xs)) (sym (mapped (λ l. l.name) ls ms)) (more_apart before (label_names ls) (label_names ms) h k)

-- ---- parts of a scope

distinct_left : (xs ys : Scope) → AreDistinct (xs ++ ys) → AreDistinct xs
distinct_left [] ys h = tt
distinct_left (x ∷ xs) ys h = ((outside_both xs ys x h.0).0, distinct_left xs ys h.1)

distinct_right : (xs ys : Scope) → AreDistinct (xs ++ ys) → AreDistinct ys
distinct_right [] ys h = h
distinct_right (x ∷ xs) ys h = distinct_right xs ys h.1

distinct_between : (xs ys : Scope) → AreDistinct (xs ++ ys) → (n : ℕ) → declares ys n ≡ true → declares xs n ≡ false
distinct_between [] ys h n q = refl
distinct_between (x ∷ xs) ys h n q = by (x == n) refl (distinct_between xs ys h.1 n q)
  where
    by : (c : Bool) → (x == n) ≡ c → declares xs n ≡ false → (c || declares xs n) ≡ false
    by true e r =
        let u : declares ys x ≡ false = (outside_both xs ys x h.0).1 in
        let v : declares ys x ≡ true = subst (λ m. declares ys m ≡ true) (sym (eqb-true x n e)) q in
        absurd (contrary (declares ys x) v u)
    by false e r = r

-- some of the identifiers of a scope, in their order
abbrev pub SomeOf : (xs ys : Scope) → Type 0
SomeOf xs ys = (AreDistinct ys → AreDistinct xs) × ((n : ℕ) → declares xs n ≡ true → declares ys n ≡ true)

pub all_of : (xs : Scope) → SomeOf xs xs
all_of xs = (λ h. h, λ n e. e)

pub none_of : (ys : Scope) → SomeOf [] ys
none_of ys = (λ h. tt, λ n e. cc)

pub both_of : (xs us ys vs : Scope) → SomeOf xs us → SomeOf ys vs → SomeOf (xs ++ ys) (us ++ vs)
both_of xs us ys vs h k = (
  λ d. distinct_both xs ys (h.0 (distinct_left us vs d)) (k.0 (distinct_right us vs d)) (λ n q. lacks (declares xs n) (λ r. contrary (declares us n) (h.1 n r) (distinct_between us vs d n (k.1 n q)))),
  λ n q. by n (inside_one xs ys n q),
)
  where
    by : (n : ℕ) → (declares xs n ≡ true) ⊎ (declares ys n ≡ true) → declares (us ++ vs) n ≡ true
    by n (inl q) = joined us vs n ∙ left (declares us n) (declares vs n) (h.1 n q)
      where
        left : (a b : Bool) → a ≡ true → (a || b) ≡ true
        left true b e = refl
        left false b e = cc
    by n (inr q) = joined us vs n ∙ right (declares us n) (declares vs n) (k.1 n q)
      where
        right : (a b : Bool) → b ≡ true → (a || b) ≡ true
        right true b e = refl
        right false b e = e
