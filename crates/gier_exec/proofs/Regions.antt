-- What the frames make of their words, seen as a function from places, is what the flat run makes of its stack.
use Rattle.std.specs.Prelude.{◌≡◌, ◌≢◌, ◌+◌, ◌-◌, ◌*◌, ◌/◌, ◌%◌, ◌==◌, ◌<◌, ◌≤◌, ℕ, zero, suc, Bool, true, false, nat_lt, List, [], ◌∷◌, length, slice_index, slice_set, Option, None, Some, Result, Ok, Err, if◌then◌else◌}
use Rattle.std.proofs.Common.{arith, refl, ap, sym, ◌∙◌, ⊎_elim}
use Rattle.std.proofs.Math.Path.{fun_ext}
use Rattle.std.proofs.lemmas.List.{length-set, length-append, get_or-set_same, get_or-set_other, get_or_append_left, get_or-append_right}
use Rattle.std.proofs.lemmas.Bool.Decides.{nat_tests}
use Rattle.std.proofs.lemmas.Bool.{cases_lt}
use Rattle.gier_frames.specs.declared.halt.Halt.{Halt}
use Rattle.gier_frames.specs.declared.halt.Halt.TheVariants.{Odd}
use Rattle.gier_frames.specs.Writes.{with_zeros, words_from, with_values, with_two, with_header as frames_header}
use Rattle.gier_frames.specs.Walk.{sought}
use Rattle.gier_order.specs.Flat.Region.{put, cleared_words, with_copy, with_pair, with_activation, seek, is_within}

-- one word
put_at : (ws : List ℕ) (p v q : ℕ) → p < length ws → (b : Bool) → (q == p) ≡ b → slice_index (slice_set ws p v) q ≡ elim b as (λ _. ℕ) [ true ↦ v | false ↦ slice_index ws q ]
put_at ws p v q lt true e = let same : q ≡ p = grind (arith, nat_tests, e) in rw same (get_or-set_same ws p v 0 lt)
put_at ws p v q lt false e = let other : q ≢ p = grind (arith, nat_tests, e) in get_or-set_other ws p q v 0 other

pub put_is : (ws : List ℕ) (p v : ℕ) → p < length ws → slice_index (slice_set ws p v) ≡ put (slice_index ws) p v
put_is ws p v lt = fun_ext (λ q. put_at ws p v q lt (q == p) refl)

pub length-with_zeros : (ws : List ℕ) (at n : ℕ) → length (with_zeros ws at n) ≡ length ws
length-with_zeros ws at zero = refl
length-with_zeros ws at (suc n) = length-set (with_zeros ws at n) (at + n) 0 ∙ length-with_zeros ws at n

length-with_values : (ws : List ℕ) (at : ℕ) (values : List ℕ) (n : ℕ) → length (with_values ws at values n) ≡ length ws
length-with_values ws at values zero = refl
length-with_values ws at values (suc n) = length-set (with_values ws at values n) (at + n) (slice_index values n) ∙ length-with_values ws at values n

none_within : (at q : ℕ) → is_within at 0 q ≡ false
none_within at q = grind (arith, nat_tests)

last_within : (n at q : ℕ) → q ≡ at + n → is_within at (suc n) q ≡ true
last_within n at q e = grind (arith, nat_tests, e)

same_within : (n at q : ℕ) → q ≢ at + n → is_within at n q ≡ is_within at (suc n) q
same_within n at q other = grind (arith, nat_tests, other)

abbrev choice : Bool → ℕ → ℕ → ℕ
choice b x y = elim b as (λ _. ℕ) [ true ↦ x | false ↦ y ]

-- one more word of a run
one_more : (f g : ℕ → ℕ) (at n q : ℕ) (b : Bool) → (q == at + n) ≡ b → choice b (g n) (choice (is_within at n q) (g (q - at)) (f q)) ≡ choice (is_within at (suc n) q) (g (q - at)) (f q)
one_more f g at n q true e =
    let same : q ≡ at + n = grind (arith, nat_tests, e) in
    let number : q - at ≡ n = omega (arith, same) in
    sym (ap (λ b. choice b (g (q - at)) (f q)) (last_within n at q same) ∙ ap g number)
one_more f g at n q false e =
    let other : q ≢ at + n = grind (arith, nat_tests, e) in
    ap (λ b. choice b (g (q - at)) (f q)) (same_within n at q other)

put_cleared : (f : ℕ → ℕ) (at n : ℕ) → put (cleared_words f at n) (at + n) 0 ≡ cleared_words f at (suc n)
put_cleared f at n = fun_ext (λ q. one_more f (λ k. 0) at n q (q == at + n) refl)

put_copied : (f g : ℕ → ℕ) (at from n : ℕ) → put (with_copy f at g from n) (at + n) (g (from + n)) ≡ with_copy f at g from (suc n)
put_copied f g at from n = fun_ext (λ q. one_more f (λ k. g (from + k)) at n q (q == at + n) refl)

-- a run of zeros
pub cleared_is : (ws : List ℕ) (at n : ℕ) → at + n ≤ length ws → slice_index (with_zeros ws at n) ≡ cleared_words (slice_index ws) at n
cleared_is ws at zero fits = fun_ext (λ q. sym (ap (λ b. choice b 0 (slice_index ws q)) (none_within at q)))
cleared_is ws at (suc n) fits =
    put_is (with_zeros ws at n) (at + n) 0 (rw (length-with_zeros ws at n) (omega (arith, fits)))
    ∙ ap (λ f. put f (at + n) 0) (cleared_is ws at n (omega (arith, fits)))
    ∙ put_cleared (slice_index ws) at n

-- a run of values that stand in another list from a place on
pub copied_is : (ws values : List ℕ) (g : ℕ → ℕ) (at from n : ℕ) → ((k : ℕ) → k < n → slice_index values k ≡ g (from + k)) → at + n ≤ length ws → slice_index (with_values ws at values n) ≡ with_copy (slice_index ws) at g from n
copied_is ws values g at from zero are fits = fun_ext (λ q. sym (ap (λ b. choice b (g (from + (q - at))) (slice_index ws q)) (none_within at q)))
copied_is ws values g at from (suc n) are fits =
    put_is (with_values ws at values n) (at + n) (slice_index values n) (rw (length-with_values ws at values n) (omega (arith, fits)))
    ∙ ap (λ f. put f (at + n) (slice_index values n)) (copied_is ws values g at from n (λ k lt. are k (omega (arith, lt))) (omega (arith, fits)))
    ∙ ap (λ v. put (with_copy (slice_index ws) at g from n) (at + n) v) (are n (omega arith))
    ∙ put_copied (slice_index ws) g at from n

length-from : (ws : List ℕ) (from n : ℕ) → length (words_from ws from n) ≡ n
length-from ws from zero = refl
length-from ws from (suc n) = length-append (words_from ws from n) (slice_index ws (from + n) ∷ []) ∙ ap (λ k. k + 1) (length-from ws from n) ∙ omega arith

from_last : (ws : List ℕ) (from n k : ℕ) → k ≡ n → slice_index (words_from ws from (suc n)) k ≡ slice_index ws (from + k)
from_last ws from n k same =
    let none : n - n ≡ 0 = omega arith in
    rw same (get_or-append_right (words_from ws from n) (slice_index ws (from + n) ∷ []) n n 0 (length-from ws from n) (omega arith) ∙ ap (λ j. slice_index (slice_index ws (from + n) ∷ []) j) none)

from_at : (ws : List ℕ) (from n k : ℕ) → k < n → slice_index (words_from ws from n) k ≡ slice_index ws (from + k)
from_at ws from zero k lt = absurd (omega (arith, lt))
from_at ws from (suc n) k lt = ⊎_elim
    (λ less. get_or_append_left (words_from ws from n) _ 0 k (rw (length-from ws from n) less) ∙ from_at ws from n k less)
    (λ past. from_last ws from n k (omega (arith, lt, past)))
    (cases_lt k n)

-- a run of words moved
pub moved_is : (ws source : List ℕ) (at from n : ℕ) → at + n ≤ length ws → slice_index (with_values ws at (words_from source from n) n) ≡ with_copy (slice_index ws) at (slice_index source) from n
moved_is ws source at from n fits = copied_is ws (words_from source from n) (slice_index source) at from n (λ k lt. from_at source from n k lt) fits

pub pair_is : (ws : List ℕ) (at first second : ℕ) → at + 2 ≤ length ws → slice_index (with_two ws at first second) ≡ with_pair (slice_index ws) at first second
pair_is ws at first second fits =
    put_is (slice_set ws at first) (at + 1) second (rw (length-set ws at first) (omega (arith, fits)))
    ∙ ap (λ f. put f (at + 1) second) (put_is ws at first (omega (arith, fits)))

-- a new activation
pub opened_is : (ws : List ℕ) (at old level outer room : ℕ) → 3 ≤ room → at + room ≤ length ws → slice_index (frames_header (with_zeros ws at room) at old (level * 16777216 + outer) (at + room)) ≡ with_activation (slice_index ws) at old level outer room
opened_is ws at old level outer room least fits =
    let long : length (with_zeros ws at room) ≡ length ws = length-with_zeros ws at room in
    let two : length (with_two (with_zeros ws at room) at old (level * 16777216 + outer)) ≡ length ws = length-set _ _ _ ∙ length-set _ _ _ ∙ long in
    put_is (with_two (with_zeros ws at room) at old (level * 16777216 + outer)) (at + 2) (at + room) (rw two (omega (arith, least, fits)))
    ∙ ap (λ f. put f (at + 2) (at + room)) (pair_is (with_zeros ws at room) at old (level * 16777216 + outer) (rw long (omega (arith, least, fits))))
    ∙ ap (λ f. put (with_pair f at old (level * 16777216 + outer)) (at + 2) (at + room)) (cleared_is ws at room fits)

-- the walk along the enclosing activations
abbrev pub found_in : Result ℕ Halt → Option ℕ
found_in (Ok base) = Some base
found_in (Err halt) = None

walk : (rest : Result ℕ Halt) (more : Option ℕ) (base : ℕ) (a b c : Bool) → found_in rest ≡ more → found_in (if a then (if b then Ok base else (if c then rest else Err Odd)) else Err Odd)
    ≡ elim a as (λ _. Option ℕ) [ false ↦ None | true ↦ elim b as (λ _. Option ℕ) [ true ↦ Some base | false ↦ elim c as (λ _. Option ℕ) [ true ↦ more | false ↦ None ] ] ]
walk rest more base false b c e = refl
walk rest more base true true c e = refl
walk rest more base true false true e = e
walk rest more base true false false e = refl

pub seek_is : (looks : ℕ) (ws : List ℕ) (level base : ℕ) → found_in (sought looks ws level base) ≡ seek looks (length ws) (slice_index ws) level base
seek_is zero ws level base = refl
seek_is (suc looks) ws level base =
    walk (sought looks ws level (slice_index ws (base + 1) % 16777216)) (seek looks (length ws) (slice_index ws) level (slice_index ws (base + 1) % 16777216)) base
    (nat_lt (base + 1) (length ws)) (slice_index ws (base + 1) / 16777216 == level) (nat_lt (slice_index ws (base + 1) % 16777216) base)
    (seek_is looks ws level (slice_index ws (base + 1) % 16777216))
