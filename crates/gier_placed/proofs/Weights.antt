-- What labels weigh together, whatever a label weighs: in a list, and as a row of numbers.
use Rattle.std.proofs.Common.{◌≡◌, ℕ, zero, suc, ◌+◌, List, [], ◌∷◌, length, refl, ap, ◌∙◌, arith}
use Rattle.std.specs.Prelude.{◌==◌, if◌then◌else◌}
use Rattle.gier_placed.specs.Placed.{times, numbered}

module _ (weight : ℕ → ℕ) where
  abbrev pub sum : List ℕ → ℕ
  sum [] = 0
  sum (x ∷ xs) = weight x + sum xs

  abbrev pub row : (from count : ℕ) → ℕ
  row from zero = 0
  row from (suc count) = weight from + row (suc from) count

  pub row_from : (a b count : ℕ) → a ≡ b → row a count ≡ row b count
  row_from a b count e = ap (λ from. row from count) e

  pub rows : (from a b : ℕ) → row from (a + b) ≡ row from a + row (from + a) b
  rows from zero b =
      let start : row from b ≡ row (from + 0) b = row_from from (from + 0) b (omega arith) in
      ap (row from) (let e : 0 + b ≡ b = omega arith in e) ∙ start
      ∙ (let e : row (from + 0) b ≡ 0 + row (from + 0) b = omega arith in e)
  rows from (suc a) b =
      let one : suc a + b ≡ suc (a + b) = omega arith in
      let r : row (suc from) (a + b) ≡ row (suc from) a + row (suc from + a) b = rows (suc from) a b in
      let q : row (suc from + a) b ≡ row (from + suc a) b = row_from (suc from + a) (from + suc a) b (omega arith) in
      ap (row from) one ∙ ap (λ n. weight from + n) (r ∙ ap (λ n. row (suc from) a + n) q)
      ∙ grouped (weight from) (row (suc from) a) (row (from + suc a) b)
    where
      grouped : (x y z : ℕ) → x + (y + z) ≡ (x + y) + z
      grouped x y z = omega arith

  pub row_is : (from count : ℕ) → row from count ≡ sum (numbered from count)
  row_is from zero = refl
  row_is from (suc count) = ap (λ n. weight from + n) (row_is (suc from) count)

-- what a label weighs where one is looked for, and where all are counted
abbrev pub chosen : (x : ℕ) → ℕ → ℕ
chosen x y = if y == x then 1 else 0

abbrev pub each : ℕ → ℕ
each y = 1

pub times_is : (x : ℕ) (ys : List ℕ) → sum (chosen x) ys ≡ times x ys
times_is x [] = refl
times_is x (y ∷ ys) = ap (λ n. chosen x y + n) (times_is x ys)

pub length_is : (ys : List ℕ) → sum each ys ≡ length ys
length_is [] = refl
length_is (y ∷ ys) = let e : sum each ys ≡ length ys = length_is ys in omega arith

pub length_of : (from count : ℕ) → row each from count ≡ count
length_of from zero = refl
length_of from (suc count) = let e : row each (suc from) count ≡ count = length_of (suc from) count in omega arith
