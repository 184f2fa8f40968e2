-- Things printed one after the other: what is out when some of them are, and when the next one fails.
use Rattle.std.proofs.Common.{◌≡◌, ◌≤◌, ◌<◌, ◌+◌, ℕ, zero, suc, List, [], ◌∷◌, ◌++◌, Option, length, take, drop, get_or, slice_get, None, Some, refl, ap, sym, ◌∙◌, arith, append_assoc, append-nil}
use Rattle.gier_io.specs.Device.{Puts, PutsPart}
use Rattle.gier_job.specs.Tails.{row_of}
use Rattle.gier_io.proofs.Prints.{puts_more, part_more}

-- so many of them were printed
pub record HasPut {A : Type 0} (text : A → List ℕ) (xs : List A) (at : ℕ) (old now : Option (List ℕ)) (count_old count_now : ℕ) : Type 0 where
  pub put : Puts old (row_of text (take at xs)) now
  pub later : count_old ≤ count_now

row_more : {A : Type 0} (text : A → List ℕ) (xs : List A) (at : ℕ) (d : A) → at < length xs → row_of text (take (suc at) xs) ≡ row_of text (take at xs) ++ text (get_or xs at d)
row_more text [] at d lt = absurd (omega arith)
row_more text (x ∷ xs) zero d lt = append-nil (text x)
row_more text (x ∷ xs) (suc at) d lt = ap (λ (l : List ℕ). text x ++ l) (row_more text xs at d (omega arith)) ∙ sym (append_assoc (text x) (row_of text (take at xs)) (text (get_or xs at d)))

row_split : {A : Type 0} (text : A → List ℕ) (xs : List A) (at : ℕ) (d : A) → at < length xs → row_of text xs ≡ row_of text (take at xs) ++ (text (get_or xs at d) ++ row_of text (drop (suc at) xs))
row_split text [] at d lt = absurd (omega arith)
row_split text (x ∷ xs) zero d lt = refl
row_split text (x ∷ xs) (suc at) d lt = ap (λ (l : List ℕ). text x ++ l) (row_split text xs at d (omega arith)) ∙ sym (append_assoc (text x) (row_of text (take at xs)) _)

-- one more
pub put_more : {A : Type 0} (text : A → List ℕ) (xs : List A) (at : ℕ) (d : A) (a b c : Option (List ℕ)) → at < length xs → Puts a (row_of text (take at xs)) b → Puts b (text (get_or xs at d)) c → Puts a (row_of text (take (suc at) xs)) c
put_more text xs at d a b c lt put then = rw (row_more text xs at d lt) (puts_more a b c (row_of text (take at xs)) (text (get_or xs at d)) put then)

-- a part of the next one
pub part_of_row : {A : Type 0} (text : A → List ℕ) (xs : List A) (at : ℕ) (d : A) (a b c : Option (List ℕ)) → at < length xs → Puts a (row_of text (take at xs)) b → PutsPart b (text (get_or xs at d)) c → PutsPart a (row_of text xs) c
part_of_row text xs at d a b c lt put part = rw (row_split text xs at d lt) (part_more a b c (row_of text (take at xs)) (text (get_or xs at d)) (row_of text (drop (suc at) xs)) put part)

-- the same where what stands at the place is told
abbrev some_or : {A : Type 0} → A → Option A → A
some_or d None = d
some_or d (Some x) = x

get_is : {A : Type 0} (xs : List A) (at : ℕ) (x : A) → slice_get xs at ≡ Some x → get_or xs at x ≡ x
get_is [] at x e = refl
get_is (y ∷ xs) zero x e = ap (some_or x) e
get_is (y ∷ xs) (suc at) x e = get_is xs at x e

pub put_told : {A : Type 0} (text : A → List ℕ) (xs : List A) (at : ℕ) (x : A) (a b c : Option (List ℕ)) → slice_get xs at ≡ Some x → at < length xs → Puts a (row_of text (take at xs)) b → Puts b (text x) c → Puts a (row_of text (take (suc at) xs)) c
put_told text xs at x a b c told lt put then = put_more text xs at x a b c lt put (rw (get_is xs at x told) then)

pub part_told : {A : Type 0} (text : A → List ℕ) (xs : List A) (at : ℕ) (x : A) (a b c : Option (List ℕ)) → slice_get xs at ≡ Some x → at < length xs → Puts a (row_of text (take at xs)) b → PutsPart b (text x) c → PutsPart a (row_of text xs) c
part_told text xs at x a b c told lt put part = part_of_row text xs at x a b c lt put (rw (get_is xs at x told) part)
