-- The pass copies the bounds of arrays and counts them.
use Rattle.std.proofs.Common.{◌≡◌, ◌∙◌, ◌+◌, ◌*◌, ℕ, zero, suc, List, [], ◌∷◌, length, refl, ap, arith}
use Rattle.gier_symbol.specs.declared.symbol.Symbol.{Symbol}
use Rattle.gier_symbol.specs.declared.tag.Tag.TheVariants.{Number, Comma, Colon}
use Rattle.gier_symbol.specs.ByTag.{sym, word}
use Rattle.gier_tree.specs.declared.construct.Construct.TheVariants.{Bound as MBound}
use Rattle.gier_tree.specs.Hoist.{further_pairs}
use Rattle.gier_tree.specs.Lines.{first_expr, last_expr}
use Rattle.gier_tree.specs.Places.{Places}
use Rattle.gier_tree.specs.Texts.{text_bound, text_pair, text_pairs, text_constant, text_fixed_pair, text_further_pairs}
use Rattle.gier_tree.specs.Trees.{Name, Expr, BoundPair, MkPair, NextPair, Constant, Unsigned, WithSign, FixedPair, MkFixedPair}
use Rattle.gier_tree.specs.Trees.{FurtherPairs, NoFurther, MoreFurther}
use Rattle.gier_tree.specs.Written.{opens, shuts, leading_tag}
use Rattle.gier_written.specs.Renamed.{collected_text}
use Rattle.gier_text4.specs.PurePass.{step}
use Rattle.gier_text4.specs.State.{NotOwn, MayBeOwn, IsOwn, Place, Statements, InType, InSegment, BetweenSegments}
use Rattle.gier_text4.specs.State.{InSwitch, InHeading, State, MkState, put}
use Rattle.gier_text4.proofs.Copying.{fold_written, marked_text, Copies, MkCopies, one, nothing}
use Rattle.gier_text4.proofs.CopiedExpressions.{copied_expr, leading_copied, leading_unused}

abbrev pub more_bounds : (n : ℕ) → Place → Place
more_bounds n (InSegment b h i) = InSegment (n + b) h i
more_bounds n at = at

abbrev pub counted_on : (n : ℕ) → State → State
counted_on n (MkState o d sc w f own at fr) = MkState o d sc w f own (more_bounds n at) fr

-- of the one part it writes the other, and counts so many bounds
pub data CopiesBounds (os : List Name) (n : ℕ) (g h : List Symbol → List Symbol) : Type 0 where
  MkCopiesBounds : ((k : List Symbol) → fold_written os (g k) ≡ put h (counted_on n (fold_written os k))) → CopiesBounds os n g h

pub copies_bounds : (os : List Name) (n : ℕ) (g h : List Symbol → List Symbol) → CopiesBounds os n g h → (k : List Symbol)
    → fold_written os (g k) ≡ put h (counted_on n (fold_written os k))
copies_bounds os n g h (MkCopiesBounds e) k = e k

bounds_sum : (m n : ℕ) (at : Place) → more_bounds m (more_bounds n at) ≡ more_bounds (m + n) at
bounds_sum m n (InSegment b h i) =
    let e : m + (n + b) ≡ m + n + b = omega arith in
    ap (λ z. InSegment z h i) e
bounds_sum m n Statements = refl
bounds_sum m n (InType h i) = refl
bounds_sum m n (BetweenSegments h i) = refl
bounds_sum m n InSwitch = refl
bounds_sum m n (InHeading s ss vs x) = refl

no_bounds : (at : Place) → at ≡ more_bounds 0 at
no_bounds (InSegment b h i) =
    let e : b ≡ 0 + b = omega arith in
    ap (λ z. InSegment z h i) e
no_bounds Statements = refl
no_bounds (InType h i) = refl
no_bounds (BetweenSegments h i) = refl
no_bounds InSwitch = refl
no_bounds (InHeading s ss vs x) = refl

counted_none : (c : State) → c ≡ counted_on 0 c
counted_none (MkState o d sc w f own at fr) = ap (λ z. MkState o d sc w f own z fr) (no_bounds at)

put_counted : (g h : List Symbol → List Symbol) (m n : ℕ) (c : State)
    → put g (counted_on m (put h (counted_on n c))) ≡ put (λ k. g (h k)) (counted_on (m + n) c)
put_counted g h m n (MkState o d sc w f NotOwn at fr) = ap (λ z. MkState (g (h o)) d sc w f NotOwn z fr) (bounds_sum m n at)
put_counted g h m n (MkState o d sc w f (MayBeOwn part) at fr) =
    ap (λ z. MkState o d sc w f (MayBeOwn (λ k. g (h (part k)))) z fr) (bounds_sum m n at)
put_counted g h m n (MkState o d sc w f (IsOwn y t) at fr) =
    ap (λ z. MkState o (g (h d)) sc w f (IsOwn y t) z fr) (bounds_sum m n at)

pub both_counted : {os : List Name} {m n : ℕ} {g g' h h' : List Symbol → List Symbol} → CopiesBounds os m g g'
    → CopiesBounds os n h h' → CopiesBounds os (m + n) (λ k. g (h k)) (λ k. g' (h' k))
both_counted {os} {m} {n} {g} {g'} {h} {h'} (MkCopiesBounds a) (MkCopiesBounds b) =
    MkCopiesBounds (λ k. a (h k) ∙ ap (λ c. put g' (counted_on m c)) (b k) ∙ put_counted g' h' m n (fold_written os k))

pub uncounted : {os : List Name} {g h : List Symbol → List Symbol} → Copies os g h → CopiesBounds os 0 g h
uncounted {os} {g} {h} (MkCopies a) = MkCopiesBounds (λ k. a k ∙ ap (put h) (counted_none (fold_written os k)))

pub so_many : {os : List Name} {m n : ℕ} {g h : List Symbol → List Symbol} → m ≡ n → CopiesBounds os m g h → CopiesBounds os n g h
so_many {os} {m} {n} {g} {h} e (MkCopiesBounds a) = MkCopiesBounds (λ k. a k ∙ ap (λ z. put h (counted_on z (fold_written os k))) e)

-- the mark behind a bound
shut_counted : (l : ℕ) (c : State) → step (shuts MBound l) c ≡ put (λ k. shuts MBound l ∷ k) (counted_on 1 c)
shut_counted l (MkState o d sc w f own (InSegment b h i) fr) =
    let e : suc b ≡ 1 + b = omega arith in
    ap (λ z. put (λ k. shuts MBound l ∷ k) (MkState o d sc w f own (InSegment z h i) fr)) e
shut_counted l (MkState o d sc w f own Statements fr) = refl
shut_counted l (MkState o d sc w f own (InType h i) fr) = refl
shut_counted l (MkState o d sc w f own (BetweenSegments h i) fr) = refl
shut_counted l (MkState o d sc w f own InSwitch fr) = refl
shut_counted l (MkState o d sc w f own (InHeading s ss vs x) fr) = refl

bound_shuts : (os : List Name) (l : ℕ) → CopiesBounds os 1 (λ k. shuts MBound l ∷ k) (λ k. shuts MBound l ∷ k)
bound_shuts os l = MkCopiesBounds (λ k. shut_counted l (fold_written os k))

bound_opens : (os : List Name) (l : ℕ) → CopiesBounds os 0 (λ k. opens MBound l ∷ k) (λ k. opens MBound l ∷ k)
bound_opens os l = uncounted (MkCopies (λ k. refl))

-- bounds and pairs of bounds
copied_bound : (os : List Name) (p q : Places) (e : Expr) → CopiesBounds os 1 (text_bound (marked_text os) p e)
    (text_bound (collected_text os) q e)
copied_bound os p q e =
    both_counted (bound_opens os (first_expr e)) (both_counted (uncounted (copied_expr os p q e)) (bound_shuts os (last_expr e)))

copied_pair : (os : List Name) (p q : Places) (x : BoundPair) → CopiesBounds os 2 (text_pair (marked_text os) p x)
    (text_pair (collected_text os) q x)
copied_pair os p q (MkPair a l b) =
    both_counted (copied_bound os p q a) (both_counted (uncounted (one os (word Colon l) refl refl)) (copied_bound os p q b))

copied_pairs : (os : List Name) (p q : Places) (xs : List NextPair) → CopiesBounds os (2 * length xs)
    (text_pairs (marked_text os) p xs) (text_pairs (collected_text os) q xs)
copied_pairs os p q [] = uncounted (nothing os)
copied_pairs os p q (x ∷ xs) =
    let e : 0 + (2 + 2 * length xs) ≡ 2 * length (x ∷ xs) = omega arith in
    so_many e (both_counted (uncounted (one os (word Comma x.comma) refl refl))
    (both_counted (copied_pair os p q x.pair) (copied_pairs os p q xs)))

pub copied_all_pairs : (os : List Name) (p q : Places) (x : BoundPair) (xs : List NextPair)
    → CopiesBounds os (2 + 2 * length xs) (λ k. text_pair (marked_text os) p x (text_pairs (marked_text os) p xs k))
    (λ k. text_pair (collected_text os) q x (text_pairs (collected_text os) q xs k))
copied_all_pairs os p q x xs = both_counted (copied_pair os p q x) (copied_pairs os p q xs)

-- those of own arrays
copied_constant : (os : List Name) (x : Constant) → CopiesBounds os 1 (text_constant x) (text_constant x)
copied_constant os (Unsigned n l) =
    both_counted (bound_opens os l) (both_counted (uncounted (one os (sym Number n l) refl refl)) (bound_shuts os l))
copied_constant os (WithSign o k n l) =
    both_counted (bound_opens os k) (both_counted (uncounted
    (one os (word (leading_tag o) k) (leading_copied o) (leading_unused o)))
    (both_counted (uncounted (one os (sym Number n l) refl refl)) (bound_shuts os l)))

copied_fixed : (os : List Name) (x : FixedPair) → CopiesBounds os 2 (text_fixed_pair x) (text_fixed_pair x)
copied_fixed os (MkFixedPair a l b) =
    both_counted (copied_constant os a) (both_counted (uncounted (one os (word Colon l) refl refl)) (copied_constant os b))

copied_further : (os : List Name) (n : ℕ) (x : FurtherPairs n) → CopiesBounds os (2 * length (further_pairs n x))
    (text_further_pairs n x) (text_further_pairs n x)
copied_further os zero x = uncounted (nothing os)
copied_further os (suc n) NoFurther = uncounted (nothing os)
copied_further os (suc n) (MoreFurther l q more) =
    let e : 0 + (2 + 2 * length (further_pairs n more)) ≡ 2 * length (further_pairs (suc n) (MoreFurther l q more)) = omega arith in
    so_many e (both_counted (uncounted (one os (word Comma l) refl refl))
    (both_counted (copied_fixed os q) (copied_further os n more)))

pub copied_all_fixed : (os : List Name) (n : ℕ) (x : FixedPair) (xs : FurtherPairs n)
    → CopiesBounds os (2 + 2 * length (further_pairs n xs)) (λ k. text_fixed_pair x (text_further_pairs n xs k))
    (λ k. text_fixed_pair x (text_further_pairs n xs k))
copied_all_fixed os n x xs = both_counted (copied_fixed os x) (copied_further os n xs)
