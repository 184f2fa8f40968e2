-- What holds of each item of two lists that are joined.
use Rattle.std.proofs.Common.{◌≡◌, List, [], ◌∷◌, refl}
use Rattle.std.specs.Prelude.{◌++◌}
use Rattle.std.specs.List.{AllByRecursion, flat_map}

pub empty_left : {X : Type 0} (xs ys : List X) → xs ++ ys ≡ [] → xs ≡ []
empty_left [] ys e = refl
empty_left (x ∷ xs) ys e = cc

pub empty_right : {X : Type 0} (xs ys : List X) → xs ++ ys ≡ [] → ys ≡ []
empty_right [] ys e = e
empty_right (x ∷ xs) ys e = cc

pub both_empty : {X : Type 0} (xs ys : List X) → xs ++ ys ≡ [] → (xs ≡ []) × (ys ≡ [])
both_empty xs ys e = (empty_left xs ys e, empty_right xs ys e)

pub three_empty : {X : Type 0} (xs ys zs : List X) → xs ++ ys ++ zs ≡ [] → (xs ≡ []) × (ys ≡ []) × (zs ≡ [])
three_empty xs ys zs e = let r = both_empty (xs ++ ys) zs e in (empty_left xs ys r.0, empty_right xs ys r.0, r.1)

pub four_empty : {X : Type 0} (xs ys zs us : List X) → xs ++ ys ++ zs ++ us ≡ [] → (xs ≡ []) × (ys ≡ []) × (zs ≡ []) × (us ≡ [])
four_empty xs ys zs us e =
    let r = both_empty (xs ++ ys ++ zs) us e in
    let q = three_empty xs ys zs r.0 in
    (q.0, q.1, q.2, r.1)

pub five_empty : {X : Type 0} (xs ys zs us vs : List X) → xs ++ ys ++ zs ++ us ++ vs ≡ []
    → (xs ≡ []) × (ys ≡ []) × (zs ≡ []) × (us ≡ []) × (vs ≡ [])
five_empty xs ys zs us vs e =
    let r = both_empty (xs ++ ys ++ zs ++ us) vs e in
    let q = four_empty xs ys zs us r.0 in
    (q.0, q.1, q.2, q.3, r.1)

module _ {X : Type 0} (P : X → Type 0) where
  pub each_left : (xs ys : List X) → AllByRecursion P (xs ++ ys) → AllByRecursion P xs
  each_left [] ys h = tt
  each_left (x ∷ xs) ys h = (h.0, each_left xs ys h.1)

  pub each_right : (xs ys : List X) → AllByRecursion P (xs ++ ys) → AllByRecursion P ys
  each_right [] ys h = h
  each_right (x ∷ xs) ys h = each_right xs ys h.1

  pub each_both : (xs ys : List X) → AllByRecursion P xs → AllByRecursion P ys → AllByRecursion P (xs ++ ys)
  each_both [] ys h k = k
  each_both (x ∷ xs) ys h k = (h.0, each_both xs ys h.1 k)

-- lists that are joined of those of each item
module _ {X Y : Type 0} (of : X → List Y) where
  pub each_empty : (xs : List X) → flat_map of xs ≡ [] → AllByRecursion (λ x. of x ≡ []) xs
  each_empty [] e = tt
  each_empty (x ∷ xs) e = let r = both_empty (of x) (flat_map of xs) e in (r.0, each_empty xs r.1)

  pub each_of : (P : Y → Type 0) (xs : List X) → AllByRecursion P (flat_map of xs) → AllByRecursion (λ x. AllByRecursion P (of x)) xs
  each_of P [] h = tt
  each_of P (x ∷ xs) h = (each_left P (of x) (flat_map of xs) h, each_of P xs (each_right P (of x) (flat_map of xs) h))

pub each_with : {X : Type 0} (P Q R : X → Type 0) → ((x : X) → P x → Q x → R x) → (xs : List X) → AllByRecursion P xs → AllByRecursion Q xs
    → AllByRecursion R xs
each_with P Q R f [] h k = tt
each_with P Q R f (x ∷ xs) h k = (f x h.0 k.0, each_with P Q R f xs h.1 k.1)
