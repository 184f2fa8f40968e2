-- A list whose elements are changed one by one, and the greatest of the elements so far.
use Rattle.std.proofs.Common.{◌≡◌, ◌<◌, ◌≤◌, ℕ, zero, suc, List, [], ◌∷◌, ◌++◌, length, map, take, drop, get_or, set, max, refl, ap, arith}
use Rattle.gier_mortem.specs.declared.lines.Asked.{Asked}
use Rattle.gier_mortem.specs.WordLines.{addresses, greatest}

abbrev pub none : Asked
none = record { address = 0; line = 0 }

-- the first so many elements changed
abbrev pub changed_to : {T : Type 0} → (T → T) → ℕ → List T → List T
changed_to f n xs = map f (take n xs) ++ drop n xs

pub changed_next : {T : Type 0} (f : T → T) (n : ℕ) (xs : List T) (d : T) → n < length xs → set (changed_to f n xs) n (f (get_or (changed_to f n xs) n d)) ≡ changed_to f (suc n) xs
changed_next f n [] d lt = absurd (omega arith)
changed_next f zero (x ∷ xs) d lt = refl
changed_next f (suc n) (x ∷ xs) d lt = ap (λ ys. f x ∷ ys) (changed_next f n xs d (omega arith))

pub changed_all : {T : Type 0} (f : T → T) (n : ℕ) (xs : List T) → length xs ≤ n → changed_to f n xs ≡ map f xs
changed_all f zero [] le = refl
changed_all f (suc n) [] le = refl
changed_all f zero (x ∷ xs) le = absurd (omega arith)
changed_all f (suc n) (x ∷ xs) le = ap (λ ys. f x ∷ ys) (changed_all f n xs (omega arith))

pub greatest_next : (n : ℕ) (ns : List ℕ) → n < length ns → greatest (take (suc n) ns) ≡ max (greatest (take n ns)) (get_or ns n 0)
greatest_next n [] lt = absurd (omega arith)
greatest_next zero (m ∷ ns) lt = omega arith
greatest_next (suc n) (m ∷ ns) lt = omega (arith, greatest_next n ns (omega arith))

pub address_at : (asked : List Asked) (n : ℕ) (d : Asked) → n < length asked → get_or (addresses asked) n 0 ≡ (get_or asked n d).address
address_at [] n d lt = absurd (omega arith)
address_at (a ∷ asked) zero d lt = refl
address_at (a ∷ asked) (suc n) d lt = address_at asked n d (omega arith)
