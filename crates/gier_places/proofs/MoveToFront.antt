-- An element of a list is moved to the front.
use Rattle.std.proofs.Common.{◌≡◌, ◌≤◌, ◌<◌, ℕ, zero, suc, List, [], ◌∷◌, ◌++◌, length, map, take, drop, get_or, set, refl, ap, ◌∙◌, arith}
use Rattle.std.specs.List.{remove, swap}
use Rattle.std.proofs.lemmas.List.{take_all, take-append-le}
use Rattle.gier_places.specs.HeldTracks.{behind, moved_first}

pub moved : {T : Type 0} (d : T) (xs : List T) (place : ℕ) → place < length xs → moved_first xs place ≡ get_or xs place d ∷ remove xs place
moved d [] place lt = absurd (omega arith)
moved d (x ∷ xs) zero lt = refl
moved d (x ∷ xs) (suc place) lt = ap (behind x) (moved d xs place (omega arith))

pub moved_none : {T : Type 0} (xs : List T) (place : ℕ) → place ≡ 0 → xs ≡ moved_first xs place
moved_none [] place is = refl
moved_none (x ∷ xs) zero is = refl
moved_none (x ∷ xs) (suc place) is = absurd (omega arith)

length-behind : {T : Type 0} (x : T) (xs : List T) → length (behind x xs) ≡ suc (length xs)
length-behind x [] = refl
length-behind x (first ∷ others) = refl

pub length-moved : {T : Type 0} (xs : List T) (place : ℕ) → length (moved_first xs place) ≡ length xs
length-moved [] place = refl
length-moved (x ∷ xs) zero = refl
length-moved (x ∷ xs) (suc place) = length-behind x (moved_first xs place) ∙ ap suc (length-moved xs place)

map-behind : {T R : Type 0} (f : T → R) (x : T) (xs : List T) → map f (behind x xs) ≡ behind (f x) (map f xs)
map-behind f x [] = refl
map-behind f x (first ∷ others) = refl

pub map-moved : {T R : Type 0} (f : T → R) (xs : List T) (place : ℕ) → map f (moved_first xs place) ≡ moved_first (map f xs) place
map-moved f [] place = refl
map-moved f (x ∷ xs) zero = refl
map-moved f (x ∷ xs) (suc place) = map-behind f x (moved_first xs place) ∙ ap (behind (f x)) (map-moved f xs place)

swapped_at : {T : Type 0} (d : T) (xs : List T) (before : ℕ) → suc before < length xs → moved_first (set (set xs before (get_or xs (suc before) d)) (suc before) (get_or xs before d)) before ≡ moved_first xs (suc before)
swapped_at d [] before lt = absurd (omega arith)
swapped_at d (a ∷ []) before lt = absurd (omega arith)
swapped_at d (a ∷ b ∷ xs) zero lt = refl
swapped_at d (a ∷ b ∷ xs) (suc before) lt = ap (behind a) (swapped_at d (b ∷ xs) before (omega arith))

-- a swap with the element before it brings an element one place nearer to the front
pub swapped : {T : Type 0} (xs new : List T) (before place : ℕ) → place ≡ suc before → place < length xs → new ≡ swap xs before place → moved_first new before ≡ moved_first xs place
swapped [] new before place next lt is = absurd (omega arith)
swapped (d ∷ xs) new before place next lt is =
    let in_range : suc before < length (d ∷ xs) = omega arith in
    rw (is, next) (swapped_at d (d ∷ xs) before in_range)

-- another element in place of the last one, moved to the front
pub moved_last : {T : Type 0} (xs : List T) (last : ℕ) (x : T) → suc last ≡ length xs → moved_first (set xs last x) last ≡ x ∷ take last xs
moved_last [] last x is = absurd (omega arith)
moved_last (a ∷ []) zero x is = refl
moved_last (a ∷ b ∷ xs) zero x is = absurd (omega arith)
moved_last (a ∷ xs) (suc last) x is = ap (behind a) (moved_last xs last x (omega arith))

-- what a whole slice of the list was changed to
pub whole : {T : Type 0} (old new : List T) (n : ℕ) → length new ≡ n → take n (new ++ drop (length new) old) ≡ new
whole old new n long =
    let within : n ≤ length new = omega arith in
    rw take-append-le (take_all n new (omega arith))
