-- What a scope makes of an identifier, in the written program and in the hoisted one: it leaves it to the scopes around, declares it,
-- or has an own quantity of that identifier, which then has a fresh one.
use Rattle.std.proofs.Common.{◌≡◌, ◌<◌, ◌≤◌, ◌⊎◌, inl, inr, ℕ, suc, Bool, true, false, List, [], ◌∷◌, length, refl, ap, sym, subst, ◌∙◌, arith}
use Rattle.std.specs.Prelude.{◌++◌, ◌==◌, ◌||◌, ◌+◌, if◌then◌else◌}
use Rattle.std.specs.List.{AllByRecursion}
use Rattle.std.proofs.lemmas.Bool.{eqb-true, eqb-false, eq-eqb, ne_eqb}
use Rattle.gier_tree.specs.Declaring.{list_of, own_names, name_of_heading, names_of_segment, names_of_segments}
use Rattle.gier_tree.specs.Described.{Described, Scopes}
use Rattle.gier_tree.specs.Entries.{Entry}
use Rattle.gier_tree.specs.Hoist.{first_fresh, fresh, means, hide, own, behind_declaration, behind_declarations}
use Rattle.gier_tree.specs.OwnCount.{owns_in_declaration, owns_in_declarations, owns_of_declarations}
use Rattle.gier_tree.specs.Rename.{Renaming}
use Rattle.gier_tree.specs.Trees.{Name, Declaration, DeclareType, DeclareOwn, DeclareArrays, DeclareOwnArrays, DeclareSwitch, DeclareProcedure, Declarations, NoDeclarations, MoreDeclarations}
use Rattle.gier_scope.specs.Scopes.{Scope, scope_of, declares, declared_by}
use Rattle.gier_fair.specs.Hoisted.{IsSeen, Sees}
use Rattle.gier_fair.specs.InScope.{identifiers}
use Rattle.gier_fair.proofs.Apart.{joined}
use Rattle.gier_fair.proofs.OwnsOf.{counted_declaration}
use Rattle.gier_fair.proofs.PlacesTell.{bind_entries}

pub left_in : (a b : Bool) → a ≡ true → (a || b) ≡ true
left_in true b e = refl
left_in false b e = cc

pub right_in : (a b : Bool) → b ≡ true → (a || b) ≡ true
right_in true b e = refl
right_in false b e = e

pub neither_in : (a b : Bool) → a ≡ false → b ≡ false → (a || b) ≡ false
neither_in false b e h = h
neither_in true b e h = cc

module _ (owns : ℕ) where
  -- what is named by a scope, and what of it is kept there; what the identifier means outside of it and within it
  abbrev pub AtLayer : (names kept : Scope) (x outside within : ℕ) → Type 0
  AtLayer names kept x outside within =
      ((declares names x ≡ false) × (within ≡ outside))
      ⊎ (((within ≡ x) × (declares kept x ≡ true)) ⊎ ((j : ℕ) × (j < owns) × (within ≡ fresh j)))

  abbrev pub Layer : (names kept : Scope) (f g : Renaming) → Type 0
  Layer names kept f g = (x : ℕ) → AtLayer names kept x (f x) (g x)

  pub no_layer : (f : Renaming) → Layer [] [] f f
  no_layer f x = inl (refl, refl)

  pub both_layers : (outer_names outer_kept names kept : Scope) (f g h : Renaming) → Layer outer_names outer_kept f g → Layer names kept g h
      → Layer (names ++ outer_names) (kept ++ outer_kept) f h
  both_layers outer_names outer_kept names kept f g h a b x = by (a x) (b x)
    where
      by : AtLayer outer_names outer_kept x (f x) (g x) → AtLayer names kept x (g x) (h x) → AtLayer (names ++ outer_names) (kept ++ outer_kept) x (f x) (h x)
      by (inl u) (inl v) = inl (joined names outer_names x ∙ neither_in (declares names x) (declares outer_names x) v.0 u.0, v.1 ∙ u.1)
      by (inr (inl u)) (inl v) = inr (inl (v.1 ∙ u.0, joined kept outer_kept x ∙ right_in (declares kept x) (declares outer_kept x) u.1))
      by (inr (inr u)) (inl v) = inr (inr (u.0, u.1, v.1 ∙ u.2))
      by u (inr (inl v)) = inr (inl (v.0, joined kept outer_kept x ∙ left_in (declares kept x) (declares outer_kept x) v.1))
      by u (inr (inr v)) = inr (inr v)

  one_hidden : (x : ℕ) (f : Renaming) → Layer (x ∷ []) (x ∷ []) f (means x x f)
  one_hidden x f y = by (y == x) refl
    where
      by : (c : Bool) → (y == x) ≡ c → AtLayer (x ∷ []) (x ∷ []) y (f y) (if c then x else f y)
      by true e = let same : x ≡ y = sym (eqb-true y x e) in inr (inl (same, ap (λ b. b || false) (eq-eqb x y same)))
      by false e = inl (ap (λ b. b || false) (ne_eqb x y (λ q. eqb-false y x e (sym q))), refl)

  one_own : (x j : ℕ) (f : Renaming) → j < owns → Layer (x ∷ []) [] f (means x (fresh j) f)
  one_own x j f lt y = by (y == x) refl
    where
      by : (c : Bool) → (y == x) ≡ c → AtLayer (x ∷ []) [] y (f y) (if c then fresh j else f y)
      by true e = inr (inr (j, lt, refl))
      by false e = inl (ap (λ b. b || false) (ne_eqb x y (λ q. eqb-false y x e (sym q))), refl)

  pub hidden : (xs : List Name) (f : Renaming) → Layer (scope_of xs) (scope_of xs) f (hide xs f)
  hidden [] f = no_layer f
  hidden (x ∷ xs) f = both_layers (scope_of xs) (scope_of xs) (x.number ∷ []) (x.number ∷ []) f (hide xs f) (means x.number x.number (hide xs f)) (hidden xs f) (one_hidden x.number (hide xs f))

  pub owned : (xs : List Name) (i : ℕ) (f : Renaming) → i + length xs ≤ owns → Layer (scope_of xs) [] f (own xs i f)
  owned [] i f le = no_layer f
  owned (x ∷ xs) i f le =
      both_layers (scope_of xs) [] (x.number ∷ []) [] f (own xs (suc i) f) (means x.number (fresh i) (own xs (suc i) f)) (owned xs (suc i) f (omega (arith, le))) (one_own x.number i (own xs (suc i) f) (omega (arith, le)))

  -- of what a declaration declares, what the hoisted one does
  abbrev pub kept_by : Declaration → Scope
  kept_by (DeclareType t ns) = scope_of (list_of ns)
  kept_by (DeclareOwn l t ns) = []
  kept_by (DeclareArrays t l s ss) = scope_of (names_of_segment s ++ names_of_segments ss)
  kept_by (DeclareOwnArrays k t l s ss) = []
  kept_by (DeclareSwitch l x m e es) = x.number ∷ []
  kept_by (DeclareProcedure h s) = (name_of_heading h).number ∷ []

  abbrev pub kept_by_all : Declarations → Scope
  kept_by_all NoDeclarations = []
  kept_by_all (MoreDeclarations d l ds) = kept_by d ++ kept_by_all ds

  abbrev pub names_by_all : Declarations → Scope
  names_by_all NoDeclarations = []
  names_by_all (MoreDeclarations d l ds) = scope_of (declared_by d) ++ names_by_all ds

  pub declaration_layer : (d : Declaration) (i : ℕ) (f : Renaming) → i + owns_in_declaration d ≤ owns → Layer (scope_of (declared_by d)) (kept_by d) f (behind_declaration d i f)
  declaration_layer (DeclareType t ns) i f le = hidden (list_of ns) f
  declaration_layer (DeclareOwn l t ns) i f le = owned (list_of ns) i f (omega (arith, le))
  declaration_layer (DeclareArrays t l s ss) i f le = hidden (names_of_segment s ++ names_of_segments ss) f
  declaration_layer (DeclareOwnArrays k t l s ss) i f le = owned (own_names (DeclareOwnArrays k t l s ss)) i f (omega (arith, le))
  declaration_layer (DeclareSwitch l x m e es) i f le = hidden (x ∷ []) f
  declaration_layer (DeclareProcedure h s) i f le = hidden (name_of_heading h ∷ []) f

  pub declarations_layer : (ds : Declarations) (i : ℕ) (f : Renaming) → i + owns_in_declarations ds ≤ owns → Layer (names_by_all ds) (kept_by_all ds) f (behind_declarations ds i f)
  declarations_layer NoDeclarations i f le = no_layer f
  declarations_layer (MoreDeclarations d l ds) i f le =
      let counted = counted_declaration d (owns_of_declarations ds []) in
      let j = i + owns_in_declaration d in
      both_layers (names_by_all ds) (kept_by_all ds) (scope_of (declared_by d)) (kept_by d) f (behind_declarations ds j f) (behind_declaration d i (behind_declarations ds j f)) (declarations_layer ds j f (omega (arith, le, counted))) (declaration_layer d i (behind_declarations ds j f) (omega (arith, le, counted)))

-- ---- what is declared is described

abbrev pub AreSeen : List Entry → Type 0
AreSeen es = AllByRecursion (λ e. IsSeen e.what) es

chosen_seen : (c : Bool) (a b : Described) → IsSeen a → IsSeen b → IsSeen (if c then a else b)
chosen_seen true a b h k = h
chosen_seen false a b h k = k

pub seen_outside : (es : List Entry) (at : Scopes) (y : ℕ) → AreSeen es → IsSeen (at y) → IsSeen (bind_entries es at y)
seen_outside [] at y h k = k
seen_outside (e ∷ es) at y h k = chosen_seen (y == e.name.number) e.what (bind_entries es at y) h.0 (seen_outside es at y h.1 k)

pub seen_inside : (es : List Entry) (at : Scopes) (y : ℕ) → AreSeen es → declares (identifiers es) y ≡ true → IsSeen (bind_entries es at y)
seen_inside [] at y h q = cc
seen_inside (e ∷ es) at y h q = by (y == e.name.number) refl (λ r. seen_inside es at y h.1 r) q
  where
    by : (c : Bool) → (y == e.name.number) ≡ c → (declares (identifiers es) y ≡ true → IsSeen (bind_entries es at y)) → ((e.name.number == y) || declares (identifiers es) y) ≡ true
        → IsSeen (if c then e.what else bind_entries es at y)
    by true u rest q = h.0
    by false u rest q = rest (subst (λ b. (b || declares (identifiers es) y) ≡ true) (ne_eqb e.name.number y (λ r. eqb-false y e.name.number u (sym r))) q)

pub within : (owns : ℕ) (Declared : ℕ → Bool) (f g : Renaming) (at : Scopes) (names : Scope) (es : List Entry) → AreSeen es → Layer owns names (identifiers es) f g
    → Sees owns Declared f at → Sees owns (λ x. declares names x || Declared x) g (bind_entries es at)
within owns Declared f g at names es h layer k = record {
  sees = λ x q. sees_by x (layer x) q;
  fresh_seen = λ j lt. seen_outside es at (fresh j) h (k.fresh_seen j lt);
  stays = λ x. stays_by x (layer x) (k.stays x);
}
  where
    second : (a b : Bool) → a ≡ false → (a || b) ≡ true → b ≡ true
    second false b e q = q
    second true b e q = cc

    sees_by : (x : ℕ) → AtLayer owns names (identifiers es) x (f x) (g x) → (declares names x || Declared x) ≡ true → IsSeen (bind_entries es at (g x))
    sees_by x (inl u) q = subst (λ y. IsSeen (bind_entries es at y)) (sym u.1) (seen_outside es at (f x) h (k.sees x (second (declares names x) (Declared x) u.0 q)))
    sees_by x (inr (inl u)) q = subst (λ y. IsSeen (bind_entries es at y)) (sym u.0) (seen_inside es at x h u.1)
    sees_by x (inr (inr u)) q = subst (λ y. IsSeen (bind_entries es at y)) (sym u.2) (seen_outside es at (fresh u.0) h (k.fresh_seen u.0 u.1))

    stays_by : (x : ℕ) → AtLayer owns names (identifiers es) x (f x) (g x) → (f x ≡ x) ⊎ (first_fresh ≤ f x) → (g x ≡ x) ⊎ (first_fresh ≤ g x)
    stays_by x (inl u) (inl v) = inl (u.1 ∙ v)
    stays_by x (inl u) (inr v) = inr (subst (λ y. first_fresh ≤ y) (sym u.1) v)
    stays_by x (inr (inl u)) v = inl u.0
    stays_by x (inr (inr u)) v = inr (subst (λ y. first_fresh ≤ y) (sym u.2) (omega arith))
