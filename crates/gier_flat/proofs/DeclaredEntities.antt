-- Distinct identifiers mean as many entities, in their order; and what the store says of those of variables.
use Rattle.std.proofs.Common.{◌≡◌, ℕ, zero, suc, ◌+◌, ◌<◌, ◌≤◌, true, false, pos, List, [], ◌∷◌, ◌++◌, length, Option, Some, refl, sym, ap, ◌∙◌, subst, arith, ◌⊎◌, inl, inr, ⊎_elim}
use Rattle.std.specs.Prelude.{◌==◌, ◌||◌, if◌then◌else◌, ⊤}
use Rattle.std.proofs.lemmas.Bool.{eq-eqb, ne_eqb}
use Rattle.gier_tree.specs.Trees.{Name, ValueType}
use Rattle.gier_meaning.specs.Outcome.{is_among}
use Rattle.gier_meaning.specs.Plain.{value_kind}
use Rattle.gier_meaning.specs.Scopes.{quantities}
use Rattle.gier_meaning.specs.State.{Entity, State, ACell, with_entity}
use Rattle.gier_meaning.specs.Tree.{Identifier}
use Rattle.gier_scope.specs.Scopes.{declares}
use Rattle.gier_env.specs.Blocks.{entity_of, entity_in}
use Rattle.gier_env.specs.Closures.{Closure}
use Rattle.gier_env.specs.Env.{Env, NoBindings, Denoted, AnEntity, found, found_in, with_entities}
use Rattle.gier_fair.specs.InScope.{AreDistinct}
use Rattle.gier_fair.proofs.Apart.{neither}
use Rattle.gier_flat.proofs.Labels.{IsSame, or_true}

-- these identifiers mean the entities from n on
abbrev pub Mean : (ℕ → Option Denoted) → ℕ → List ℕ → Type 0
Mean f n [] = ⊤
Mean f n (x ∷ xs) = (f x ≡ Some (AnEntity n)) × Mean f (suc n) xs

skipped : (x : ℕ) (d : Option Denoted) (f : ℕ → Option Denoted) (n : ℕ) (ys : List ℕ) → declares ys x ≡ false → Mean f n ys → Mean (λ y. if y == x then d else f y) n ys
skipped x d f n [] e m = tt
skipped x d f n (y ∷ ys) e m =
    let r = neither (y == x) (declares ys x) e in
    (ap (λ t. if t then d else f y) r.0 ∙ m.0, skipped x d f (suc n) ys r.1 m.1)

pub mean : (n : ℕ) (xs : List ℕ) (outer : ℕ → Option Denoted) → AreDistinct xs → Mean (λ x. found_in (with_entities n (quantities xs) NoBindings) x (outer x)) n xs
mean n [] outer h = tt
mean n (x ∷ xs) outer h = (
  ap (λ t. if t then Some (AnEntity n) else found_in (with_entities (suc n) (quantities xs) NoBindings) x (outer x)) (eq-eqb x x refl),
  skipped x (Some (AnEntity n)) (λ y. found_in (with_entities (suc n) (quantities xs) NoBindings) y (outer y)) (suc n) xs h.0 (mean (suc n) xs outer h.1),
)

pub mean_both : (f : ℕ → Option Denoted) (n : ℕ) (xs ys : List ℕ) → Mean f n (xs ++ ys) → Mean f n xs × Mean f (n + length xs) ys
mean_both f n [] ys m = let e : n ≡ n + 0 = omega arith in (tt, subst (λ k. Mean f k ys) e m)
mean_both f n (x ∷ xs) ys m =
    let r = mean_both f (suc n) xs ys m.1 in
    let e : suc n + length xs ≡ n + suc (length xs) = omega arith in
    ((m.0, r.0), subst (λ k. Mean f k ys) e r.1)

-- one of them
pub mean_at : (f : ℕ → Option Denoted) (n : ℕ) (xs : List ℕ) (i e : ℕ) → Mean f n xs → i < length xs → e ≡ n + i → (x : ℕ) × (is_among x xs ≡ true) × (f x ≡ Some (AnEntity e))
mean_at f n [] i e m lt is = absurd (omega (arith, lt))
mean_at f n (x ∷ xs) zero e m lt is =
    let g : n ≡ e = omega (arith, is) in
    (x, ap (λ t. t || is_among x xs) (eq-eqb x x refl), subst (λ k. f x ≡ Some (AnEntity k)) g m.0)
mean_at f n (x ∷ xs) (suc i) e m lt is =
    let r = mean_at f (suc n) xs i e m.1 (omega (arith, lt)) (omega (arith, is)) in
    (r.0, ap (λ t. (r.0 == x) || t) r.1 ∙ or_true (r.0 == x), r.2)

-- ---- variables

pub record Variable : Type 0 where
  pub type : ValueType
  pub name : Name

abbrev pub numbers_of : List Variable → List ℕ
numbers_of [] = []
numbers_of (v ∷ vs) = v.name.number ∷ numbers_of vs

pub numbers_count : (vs : List Variable) → length (numbers_of vs) ≡ length vs
numbers_count [] = refl
numbers_count (v ∷ vs) = ap suc (numbers_count vs)

-- the store has a cell for each of them
abbrev pub put_all : Env → List Variable → State Closure → State Closure
put_all env [] s = s
put_all env (v ∷ vs) s = put_all env vs (with_entity (entity_in env (Identifier v.name.number)) (ACell (value_kind v.type) (pos 0)) s)

abbrev pub AreCells : (ℕ → Entity Closure) → ℕ → List Variable → Type 0
AreCells store n [] = ⊤
AreCells store n (v ∷ vs) = (store n ≡ ACell (value_kind v.type) (pos 0)) × AreCells store (suc n) vs

module _ (env : Env) where
  pub put_other : (vs : List Variable) (n : ℕ) (s : State Closure) → Mean (found env) n (numbers_of vs) → (k : ℕ) → (k < n) ⊎ (n + length vs ≤ k) → (put_all env vs s).store k ≡ s.store k
  put_other [] n s m k away = refl
  put_other (v ∷ vs) n s m k away =
      let c : Entity Closure = ACell (value_kind v.type) (pos 0) in
      let is : entity_in env (Identifier v.name.number) ≡ n = ap entity_of m.0 in
      put_other vs (suc n) (with_entity (entity_in env (Identifier v.name.number)) c s) m.1 k (⊎_elim (λ l. inl (omega (arith, l))) (λ l. inr (omega (arith, l))) away)
      ∙ ap (λ t. if t then c else s.store k) (ne_eqb k (entity_in env (Identifier v.name.number)) (λ e. ⊎_elim (λ l. absurd (omega (arith, l, is, e))) (λ l. absurd (omega (arith, l, is, e))) away))

  pub put_cells : (vs : List Variable) (n : ℕ) (s : State Closure) → Mean (found env) n (numbers_of vs) → AreCells (put_all env vs s).store n vs
  put_cells [] n s m = tt
  put_cells (v ∷ vs) n s m =
      let c : Entity Closure = ACell (value_kind v.type) (pos 0) in
      let is : entity_in env (Identifier v.name.number) ≡ n = ap entity_of m.0 in (
        put_other vs (suc n) (with_entity (entity_in env (Identifier v.name.number)) c s) m.1 n (inl (omega arith))
            ∙ ap (λ t. if t then c else s.store n) (eq-eqb n (entity_in env (Identifier v.name.number)) (sym is)),
        put_cells vs (suc n) (with_entity (entity_in env (Identifier v.name.number)) c s) m.1,
      )

  pub put_same : (vs : List Variable) (s : State Closure) → IsSame s (put_all env vs s)
  put_same [] s = record { fresh = refl; unread = refl; printed = refl; left = refl; most = refl }
  put_same (v ∷ vs) s =
      let r = put_same vs (with_entity (entity_in env (Identifier v.name.number)) (ACell (value_kind v.type) (pos 0)) s) in
      record { fresh = r.fresh; unread = r.unread; printed = r.printed; left = r.left; most = r.most }

-- a cell of one of them
pub cell_at : (store : ℕ → Entity Closure) (n : ℕ) (vs : List Variable) (i e : ℕ) → AreCells store n vs → i < length vs → e ≡ n + i → (type : ValueType) × (store e ≡ ACell (value_kind type) (pos 0))
cell_at store n [] i e c lt is = absurd (omega (arith, lt))
cell_at store n (v ∷ vs) zero e c lt is = let g : n ≡ e = omega (arith, is) in (v.type, subst (λ k. store k ≡ ACell (value_kind v.type) (pos 0)) g c.0)
cell_at store n (v ∷ vs) (suc i) e c lt is = cell_at store (suc n) vs i e c.1 (omega (arith, lt)) (omega (arith, is))
