-- The words of an object as a list, and the registers that a run begins with.
use Rattle.std.specs.Prelude.{◌≡◌, ◌+◌, ◌-◌, ◌<◌, ◌++◌, ℕ, zero, suc, false, List, [], ◌∷◌, length, replicate, slice_index}
use Rattle.std.proofs.Common.{arith, refl, ap, sym, ◌∙◌, ⊎_elim}
use Rattle.std.proofs.Math.Path.{fun_ext}
use Rattle.std.proofs.lemmas.List.{length-append, length-replicate, get_or-replicate, get_or_past, get_or_append_left, get_or-append_right}
use Rattle.std.proofs.lemmas.Bool.{cases_lt}
use Rattle.gier_frames.specs.State.{fresh}
use Rattle.gier_order.specs.declared.object.Object.{Object}
use Rattle.gier_order.specs.Flat.Row.{Regs}
use Rattle.gier_order.specs.Flat.Run.{machine_at_start}
use Rattle.gier_exec.specs.Registers.{first_registers}
use Rattle.gier_exec.specs.Rows.{regs_of, first_of, word_in, code_in}

length_first : (f : ℕ → ℕ) (n : ℕ) → length (first_of f n) ≡ n
length_first f zero = refl
length_first f (suc n) = length-append (first_of f n) (f n ∷ []) ∙ ap (λ k. k + 1) (length_first f n) ∙ omega arith

last_first : (f : ℕ → ℕ) (n k : ℕ) → k ≡ n → slice_index (first_of f n ++ f n ∷ []) k ≡ f k
last_first f n k same =
    get_or-append_right (first_of f n) (f n ∷ []) n k 0 (length_first f n) (omega (arith, same))
    ∙ ap (λ j. slice_index (f n ∷ []) j) (let none : k - n ≡ 0 = omega (arith, same) in none) ∙ ap f (sym same)

index_first : (f : ℕ → ℕ) (n k : ℕ) → k < n → slice_index (first_of f n) k ≡ f k
index_first f zero k lt = absurd (omega (arith, lt))
index_first f (suc n) k lt = ⊎_elim
    (λ less. get_or_append_left (first_of f n) (f n ∷ []) 0 k (rw (length_first f n) less) ∙ index_first f n k less)
    (λ past. last_first f n k (omega (arith, lt, past)))
    (cases_lt k n)

pub word_is : (tracks : List (List ℕ)) (object : Object) (a : ℕ) → a < object.words
    → slice_index (code_in tracks object) a ≡ word_in tracks object a
word_is tracks object a lt = index_first (word_in tracks object) object.words a lt

zero_at : (n q : ℕ) → slice_index (replicate n 0) q ≡ 0
zero_at n q = ⊎_elim (λ lt. get_or-replicate n q 0 0 lt) (λ past. get_or_past (replicate n 0) q 0 (rw (length-replicate {A = ℕ} n 0) past)) (cases_lt q n)

abbrev begins_with : (start steps : ℕ) → List ℕ → (ℕ → ℕ) → Regs
begins_with start steps input f = record {
  place = start;
  r = 0;
  q = 0;
  base = 0;
  top = 0;
  depth = 0;
  started = false;
  left = steps;
  greatest = 0;
  words = f;
  marks = f;
  input = input;
}

-- a machine and frames that begin are where the flat run begins
pub begins_so : (start steps size : ℕ) (input : List ℕ) → regs_of (first_registers start steps) (fresh size) input ≡ (machine_at_start start input steps).regs
begins_so start steps size input = ap (begins_with start steps input) (fun_ext (zero_at size))
