-- Packed kinds: which words have them, and which actuals fit, as rows.
use Rattle.std.specs.Prelude.{◌≡◌, ◌<◌, ◌&&◌, ◌||◌, ◌==◌, ℕ, zero, suc, Bool, true, false, IsTrue, Option, None, Some}
use Rattle.std.proofs.Common.{arith, refl, ap, sym, inl, inr, ◌∙◌, ⊎_elim}
use Rattle.std.proofs.Math.Logic.{◌↔◌}
use Rattle.std.proofs.lemmas.Bool.Decides.{nat_tests}
use Rattle.std.proofs.lemmas.Bool.{cases_lt}
use Rattle.gier_agree.specs.declared.kind.Kind.{Kind}
use Rattle.gier_agree.specs.declared.kind.Kind.TheVariants.{IntegerByValue, BooleanByValue, Integer, Boolean, Label, IntegerArray, BooleanArray, Switch, String, Procedure, IntegerProcedure, BooleanProcedure}
use Rattle.gier_agree.specs.Kinds.{number_of, wanted_by, Fits}
use Rattle.gier_agree.specs.Packed.{kind_in}
use Rattle.gier_agree.specs.Agreement.{Agree, PairAgrees}
use Rattle.gier_order.specs.Flat.Kinds.{is_field, are_fields, kind_of, takes, is_pair, are_pairs, all_fit}

and_no : (a b : Bool) → b ≡ false → (a && b) ≡ false
and_no true b e = e
and_no false b e = refl

no_and : (a b : Bool) → a ≡ false → (a && b) ≡ false
no_and true b e = absurd cc
no_and false b e = refl

-- one field that isn't right is enough
pub fields_no : (first left word n k : ℕ) → k < n → is_field first left word k ≡ false → are_fields first left word n ≡ false
fields_no first left word zero k lt off = absurd (omega (arith, lt))
fields_no first left word (suc n) k lt off = ⊎_elim
    (λ less. no_and (are_fields first left word n) (is_field first left word n) (fields_no first left word n k less off))
    (λ past. let same : n ≡ k = omega (arith, lt, past) in and_no (are_fields first left word n) (is_field first left word n) (rw same off))
    (cases_lt k n)

-- Kinds and their numbers

kind_number : (x : ℕ) (kind : Kind) → kind_of x ≡ Some kind → number_of kind ≡ x
kind_number zero kind e = absurd cc
kind_number (suc zero) kind e = let same : kind ≡ IntegerByValue = cc in rw same refl
kind_number (suc (suc zero)) kind e = let same : kind ≡ BooleanByValue = cc in rw same refl
kind_number (suc (suc (suc zero))) kind e = let same : kind ≡ Integer = cc in rw same refl
kind_number (suc (suc (suc (suc zero)))) kind e = let same : kind ≡ Boolean = cc in rw same refl
kind_number (suc (suc (suc (suc (suc zero))))) kind e = let same : kind ≡ Label = cc in rw same refl
kind_number (suc (suc (suc (suc (suc (suc zero)))))) kind e = let same : kind ≡ IntegerArray = cc in rw same refl
kind_number (suc (suc (suc (suc (suc (suc (suc zero))))))) kind e = let same : kind ≡ BooleanArray = cc in rw same refl
kind_number (suc (suc (suc (suc (suc (suc (suc (suc zero)))))))) kind e = let same : kind ≡ Switch = cc in rw same refl
kind_number (suc (suc (suc (suc (suc (suc (suc (suc (suc zero))))))))) kind e = let same : kind ≡ String = cc in rw same refl
kind_number (suc (suc (suc (suc (suc (suc (suc (suc (suc (suc zero)))))))))) kind e = let same : kind ≡ Procedure = cc in rw same refl
kind_number (suc (suc (suc (suc (suc (suc (suc (suc (suc (suc (suc zero))))))))))) kind e = let same : kind ≡ IntegerProcedure = cc in rw same refl
kind_number (suc (suc (suc (suc (suc (suc (suc (suc (suc (suc (suc (suc zero)))))))))))) kind e = let same : kind ≡ BooleanProcedure = cc in rw same refl
kind_number (suc (suc (suc (suc (suc (suc (suc (suc (suc (suc (suc (suc (suc n))))))))))))) kind e = absurd cc

of_number : (kind : Kind) → kind_of (number_of kind) ≡ Some kind
of_number IntegerByValue = refl
of_number BooleanByValue = refl
of_number Integer = refl
of_number Boolean = refl
of_number Label = refl
of_number IntegerArray = refl
of_number BooleanArray = refl
of_number Switch = refl
of_number String = refl
of_number Procedure = refl
of_number IntegerProcedure = refl
of_number BooleanProcedure = refl

takes_fits : (x y : ℕ) → takes (kind_of x) y ≡ true → Fits x y
takes_fits x y h = by (kind_of x) refl h
  where
    by : (found : Option Kind) → kind_of x ≡ found → takes found y ≡ true → Fits x y
    by None e is = absurd cc
    by (Some kind) e is = (kind, kind_number x kind e, grind (arith, nat_tests, is))

fits_takes : (x y : ℕ) → Fits x y → takes (kind_of x) y ≡ true
fits_takes x y fits =
    let yes : (number_of (wanted_by fits.0) == y) ≡ true = let same = fits.2 in grind (arith, nat_tests, same) in
    ap (λ n. takes (kind_of n) y) (sym fits.1) ∙ ap (λ found. takes found y) (of_number fits.0) ∙ yes

both_zero : (x y : ℕ) → ((x == 0) && (y == 0)) ≡ true → (x ≡ 0) × (y ≡ 0)
both_zero x y h = (grind (arith, nat_tests, h), grind (arith, nat_tests, h))

pair_true : (x y : ℕ) → is_pair x y ≡ true → PairAgrees x y
pair_true x y h = by (takes (kind_of x) y) refl h
  where
    by : (b : Bool) → takes (kind_of x) y ≡ b → (b || ((x == 0) && (y == 0))) ≡ true → PairAgrees x y
    by true e is = inl (takes_fits x y e)
    by false e is = inr (both_zero x y is)

or_left : (a b : Bool) → a ≡ true → (a || b) ≡ true
or_left true b e = refl
or_left false b e = absurd cc

or_right : (a b : Bool) → b ≡ true → (a || b) ≡ true
or_right true b e = refl
or_right false b e = e

pair_agrees : (x y : ℕ) → PairAgrees x y → is_pair x y ≡ true
pair_agrees x y (inl fits) = or_left (takes (kind_of x) y) ((x == 0) && (y == 0)) (fits_takes x y fits)
pair_agrees x y (inr none) =
    let first = none.0 in
    let second = none.1 in
    or_right (takes (kind_of x) y) ((x == 0) && (y == 0)) (grind (arith, nat_tests, first, second))

-- All pairs of two words

and_left : (a b : Bool) → (a && b) ≡ true → a ≡ true
and_left true b e = refl
and_left false b e = absurd cc

and_right : (a b : Bool) → (a && b) ≡ true → b ≡ true
and_right true b e = e
and_right false b e = absurd cc

and_both : (a b : Bool) → a ≡ true → b ≡ true → (a && b) ≡ true
and_both true b e f = f
and_both false b e f = absurd cc

pairs_true : (f a n : ℕ) → are_pairs f a n ≡ true → (k : ℕ) → k < n → is_pair (kind_in f k) (kind_in a k) ≡ true
pairs_true f a zero all k lt = absurd (omega (arith, lt))
pairs_true f a (suc n) all k lt = ⊎_elim
    (λ less. pairs_true f a n (and_left (are_pairs f a n) (is_pair (kind_in f n) (kind_in a n)) all) k less)
    (λ past. let same : k ≡ n = omega (arith, lt, past) in rw same (and_right (are_pairs f a n) (is_pair (kind_in f n) (kind_in a n)) all))
    (cases_lt k n)

pairs_all : (f a n : ℕ) → ((k : ℕ) → k < n → is_pair (kind_in f k) (kind_in a k) ≡ true) → are_pairs f a n ≡ true
pairs_all f a zero each = refl
pairs_all f a (suc n) each =
    and_both (are_pairs f a n) (is_pair (kind_in f n) (kind_in a n)) (pairs_all f a n (λ k lt. each k (omega (arith, lt)))) (each n (omega arith))

same_bool : (a b : Bool) → (a ≡ true → b ≡ true) → (b ≡ true → a ≡ true) → a ≡ b
same_bool true b f g = sym (f refl)
same_bool false true f g = g refl
same_bool false false f g = refl

pub agree_is : (result : Bool) (f a : ℕ) → IsTrue result ↔ Agree f a → result ≡ all_fit f a
agree_is result f a both = same_bool result (all_fit f a)
    (λ yes. pairs_all f a 10 (λ k lt. pair_agrees (kind_in f k) (kind_in a k) (both.0 yes k lt)))
    (λ yes. both.1 (λ k lt. pair_true (kind_in f k) (kind_in a k) (pairs_true f a 10 yes k lt)))
