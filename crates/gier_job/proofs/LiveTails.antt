-- The activations of a post-mortem, told one after another.
use Rattle.std.specs.Prelude.{◌≡◌, ◌≤◌, ◌+◌, ◌++◌, ℕ, zero, suc, List, [], ◌∷◌, length, take, map, codes, slice_get, Option, None, Some, Result, Ok, Err, OnOk}
use Rattle.std.proofs.Common.{arith, refl, ap, sym, subst, ◌∙◌}
use Rattle.std.proofs.lemmas.List.{append_assoc, append-nil, length-append}
use Rattle.std.proofs.lemmas.Bool.{le-leb}
use Rattle.gier_io.specs.Device.{Puts}
use Rattle.gier_io.proofs.Prints.{puts_none, puts_more}
use Rattle.gier_frames.specs.declared.stop.Activation.{Activation}
use Rattle.gier_order.specs.Flat.Live.{Live}
use Rattle.gier_runner.specs.Live.{live_of}
use Rattle.gier_job.specs.RunTails.{most_told}
use Rattle.gier_job.specs.Mortem.{line_text, live_text, live_texts, untold_text, lives_text, PutsLives, PutsMortem}

-- so many were told
pub record HasTold (lives : List Live) (at : ℕ) (old now : Option (List ℕ)) : Type 0 where
  pub lines : List ℕ
  pub count : length lines ≡ at
  pub put : Puts old (live_texts (take at lives) lines) now

pub told_none : (lives : List Live) (a : Option (List ℕ)) → HasTold lives 0 a a
told_none lives a = record { lines = []; count = refl; put = puts_none a }

texts_more : (lives : List Live) (at : ℕ) (lines : List ℕ) (live : Live) (line : ℕ) → length lines ≡ at → slice_get lives at ≡ Some live
    → live_texts (take (suc at) lives) (lines ++ line ∷ []) ≡ live_texts (take at lives) lines ++ live_text live line
texts_more [] at lines live line count is = absurd cc
texts_more (x ∷ lives) zero [] live line count is = append-nil (live_text x line) ∙ ap (λ (l : Live). live_text l line) (let same : x ≡ live = cc in same)
texts_more (x ∷ lives) zero (m ∷ lines) live line count is = absurd (omega (arith, count))
texts_more (x ∷ lives) (suc at) [] live line count is = absurd (omega (arith, count))
texts_more (x ∷ lives) (suc at) (m ∷ lines) live line count is =
    ap (λ (xs : List ℕ). live_text x m ++ xs) (texts_more lives at lines live line (omega (arith, count)) is)
    ∙ sym (append_assoc (live_text x m) (live_texts (take at lives) lines) (live_text live line))

get_live : (acts : List Activation) (at : ℕ) (a : Activation) → slice_get acts at ≡ Some a
    → slice_get (map live_of acts) at ≡ Some (live_of a)
get_live [] at a is = absurd cc
get_live (x ∷ acts) zero a is = ap (λ (y : Activation). Some (live_of y)) (let same : x ≡ a = cc in same)
get_live (x ∷ acts) (suc at) a is = get_live acts at a is

past_end : (acts : List Activation) (at : ℕ) → slice_get acts at ≡ None → length (map live_of acts) ≤ at
past_end [] at is = omega arith
past_end (x ∷ acts) zero is = absurd cc
past_end (x ∷ acts) (suc at) is = let h : length (map live_of acts) ≤ at = past_end acts at is in omega (arith, h)

pub told_more : (acts : List Activation) (at : ℕ) (a : Activation) (line : ℕ) (old now new : Option (List ℕ))
    → HasTold (map live_of acts) at old now → slice_get acts at ≡ Some a → Puts now (live_text (live_of a) line) new
    → HasTold (map live_of acts) (at + 1) old new
told_more acts at a line old now new so is put = record {
  lines = so.lines ++ line ∷ [];
  count = length-append so.lines (line ∷ []) ∙ ap (λ n. n + 1) so.count;
  put =
      let one : at + 1 ≡ suc at = omega arith in
      rw one (rw (texts_more (map live_of acts) at so.lines (live_of a) line so.count (get_live acts at a is)) (puts_more old now new (live_texts (take at (map live_of acts)) so.lines) (live_text (live_of a) line) so.put put));
}

take_all : (n : ℕ) (xs : List Live) → length xs ≤ n → take n xs ≡ xs
take_all zero [] few = refl
take_all zero (x ∷ xs) few = absurd (omega (arith, few))
take_all (suc n) [] few = refl
take_all (suc n) (x ∷ xs) few = ap (λ ys. x ∷ ys) (take_all n xs (omega (arith, few)))

length_lives : (acts : List Activation) → length (map live_of acts) ≡ length acts
length_lives [] = refl
length_lives (a ∷ acts) = ap suc (length_lives acts)

untold_none : (count : ℕ) → count ≤ 64 → untold_text count ≡ []
untold_none count few = rw (le-leb count 64 few) refl

-- all of them, where none stands at a place
pub told_all : (acts : List Activation) (at : ℕ) (old new : Option (List ℕ)) → at ≤ 64 → slice_get acts at ≡ None
    → HasTold (map live_of acts) at old new → PutsLives (map live_of acts) old new
told_all acts at old new few none so =
    let lives : List Live = map live_of acts in
    let end : length lives ≤ at = past_end acts at none in
    let most : length lives ≤ 64 = omega (arith, few, end) in
    let some : take at lives ≡ lives = take_all at lives end in
    let all : take most_told lives ≡ lives = take_all 64 lives most in
    record {
      lines = so.lines;
      enough = rw all (let count : length so.lines ≡ at = so.count in omega (arith, count, end));
      put = rw all (rw (untold_none (length lives) most) (rw (append-nil (live_texts lives so.lines)) (subst (λ (ls : List Live). Puts old (live_texts ls so.lines) new) some so.put)));
    }

length_take : (n : ℕ) (xs : List Live) → length (take n xs) ≤ n
length_take zero xs = omega arith
length_take (suc n) [] = omega arith
length_take (suc n) (x ∷ xs) = let h : length (take n xs) ≤ n = length_take n xs in omega (arith, h)

-- and the number of the others
pub told_rest : {T E : Type 0} (result : Result T E) (acts : List Activation) (at count : ℕ) (old now new : Option (List ℕ)) → at ≡ 64
    → count ≡ length acts → HasTold (map live_of acts) at old now
    → OnOk result (Puts now (untold_text count) new) → OnOk result (PutsLives (map live_of acts) old new)
told_rest (Ok done) acts at count old now new end is so put = record {
  lines = so.lines;
  enough = let h : length (take 64 (map live_of acts)) ≤ 64 = length_take 64 (map live_of acts) in let n : length so.lines ≡ at = so.count in omega (arith, h, n, end);
  put =
      let same : count ≡ length (map live_of acts) = is ∙ sym (length_lives acts) in
      puts_more old now new (live_texts (take 64 (map live_of acts)) so.lines) (untold_text (length (map live_of acts)))
      (subst (λ n. Puts old (live_texts (take n (map live_of acts)) so.lines) now) end so.put)
      (subst (λ n. Puts now (untold_text n) new) same put);
}
told_rest (Err failed) acts at count old now new end is so put = tt

-- The line of the order before them, and a tail before that

pub mortem_of : {T E : Type 0} (result : Result T E) (line : ℕ) (lives : List Live) (old now new : Option (List ℕ))
    → Puts old (line_text (codes "\n*** mortem line ") line) now → OnOk result (PutsLives lives now new)
    → OnOk result (PutsMortem [] lives old new)
mortem_of (Ok done) line lives old now new first then = record {
  line = line;
  lines = then.lines;
  enough = then.enough;
  put = puts_more old now new (line_text (codes "\n*** mortem line ") line) (lives_text lives then.lines) first then.put;
}
mortem_of (Err failed) line lives old now new first then = tt

pub mortem_behind : (tail : List ℕ) (lives : List Live) (old now new : Option (List ℕ)) → Puts old tail now → PutsMortem [] lives now new
    → PutsMortem tail lives old new
mortem_behind tail lives old now new first then = record {
  line = then.line;
  lines = then.lines;
  enough = then.enough;
  put = puts_more old now new tail (line_text (codes "\n*** mortem line ") then.line ++ lives_text lives then.lines) first then.put;
}
