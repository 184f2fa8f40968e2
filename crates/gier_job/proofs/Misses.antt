-- The table of misses, filled place by place.
use Rattle.std.specs.Prelude.{◌≡◌, ◌≢◌, ◌+◌, ◌<◌, ℕ, zero, suc, List, [], ◌∷◌, length, slice_index, slice_set}
use Rattle.std.proofs.Common.{arith, refl, ap, ◌∙◌, ⊎_elim}
use Rattle.std.proofs.lemmas.List.{get_or-set_same, get_or-set_other}
use Rattle.std.proofs.lemmas.Bool.{cases_lt}
use Rattle.gier_job.specs.RunTails.{transfers, table_from}

-- so many places are filled, of a table that begins with 1 place
pub record IsFilled (tracks : List ℕ) (count : ℕ) (table : List ℕ) : Type 0 where
  pub each : (k : ℕ) → k < count → slice_index table k ≡ transfers tracks (suc k)

pub filled_none : (tracks table : List ℕ) → IsFilled tracks 0 table
filled_none tracks table = record { each = λ k lt. absurd (omega (arith, lt)) }

set_at : (table : List ℕ) (at k number wanted : ℕ) → at < length table → k ≡ at → number ≡ wanted
    → slice_index (slice_set table at number) k ≡ wanted
set_at table at k number wanted lt same is = rw same (get_or-set_same table at number 0 lt ∙ is)

set_before : (table : List ℕ) (at k number : ℕ) → k ≢ at → slice_index (slice_set table at number) k ≡ slice_index table k
set_before table at k number other = get_or-set_other table at k number 0 other

pub filled_more : (tracks table : List ℕ) (at number : ℕ) → at < length table → IsFilled tracks at table
    → number ≡ transfers tracks (at + 1) → IsFilled tracks (at + 1) (slice_set table at number)
filled_more tracks table at number lt so is = record {
  each = λ k less. ⊎_elim
      (λ before. set_before table at k number (λ same. absurd (omega (arith, before, same))) ∙ so.each k before)
      (λ past. let same : k ≡ at = omega (arith, less, past) in
      set_at table at k number (transfers tracks (suc k)) lt same (is ∙ ap (λ n. transfers tracks n) (let one : at + 1 ≡ suc k = omega (arith, same) in one)))
      (cases_lt k at);
}

table_by : (tracks table : List ℕ) (count first : ℕ) → length table ≡ count
    → ((k : ℕ) → k < count → slice_index table k ≡ transfers tracks (first + k)) → table ≡ table_from tracks count first
table_by tracks [] zero first all each = refl
table_by tracks (x ∷ table) zero first all each = absurd (omega (arith, all))
table_by tracks [] (suc count) first all each = absurd (omega (arith, all))
table_by tracks (x ∷ table) (suc count) first all each =
    ap (λ y. y ∷ table) (each 0 (omega arith) ∙ ap (λ n. transfers tracks n) (let same : first + 0 ≡ first = omega arith in same))
    ∙ ap (λ ys. transfers tracks first ∷ ys) (table_by tracks table count (suc first) (omega (arith, all))
    (λ k lt. each (suc k) (omega (arith, lt)) ∙ ap (λ n. transfers tracks n) (let same : first + suc k ≡ suc first + k = omega arith in same)))

pub table_is : (tracks table : List ℕ) → length table ≡ 64 → IsFilled tracks 64 table → table ≡ table_from tracks 64 1
table_is tracks table all so = table_by tracks table 64 1 all (λ k lt. so.each k lt ∙ ap (λ n. transfers tracks n) (let same : suc k ≡ 1 + k = omega arith in same))
