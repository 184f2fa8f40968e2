-- How the pass goes on standing when symbols are written.
use Rattle.std.proofs.Common.{◌≡◌, ◌≤◌, ◌+◌, ◌∙◌, List, [], ◌∷◌, ◌++◌, arith, length, length-append, sym, refl, subst, Bool, true, false}
use Rattle.std.specs.Prelude.{All, IsTrue}
use Rattle.std.proofs.Math.Seq.{get_or-append_seam}
use Rattle.std.proofs.lemmas.List.{append-nil, get_or_append_left}
use Rattle.std.proofs.lemmas.List.Elements.{All-append}
use Rattle.gier_symbol.specs.declared.symbol.Symbol.{Symbol}
use Rattle.gier_text.specs.TablesModel.{TablesModel}
use Rattle.gier_pass2.specs.declared.pass.Pass2.{Pass2}
use Rattle.gier_pass2.specs.Exact.{IsExact}
use Rattle.gier_pass2.specs.Progress.{Follows}
use Rattle.gier_pass2.specs.Letters.{IsWritable, is_end, end_in, ends, ends_with}
use Rattle.gier_pass2.specs.Spelled.{IsSpelled}
use Rattle.gier_pass2.specs.ParameterComma.{symbols_of}
use Rattle.gier_pass2.specs.Invariant.{HasRun, PassInvariant, Relates, Closes, symbols_pending}

pub ends_append : (xs ys : List Symbol) → ends (xs ++ ys) ≡ ends xs + ends ys
ends_append [] ys = omega arith
ends_append (x ∷ xs) ys = omega (arith, ends_append xs ys)

pub with_append : (before : Bool) (xs ys : List Symbol) → ends_with before (xs ++ ys) ≡ ends_with (ends_with before xs) ys
with_append before [] ys = refl
with_append before (x ∷ xs) ys = with_append (is_end x) xs ys

none_left : (xs : List Symbol) → length xs ≤ 0 → xs ≡ []
none_left [] h = refl
none_left (x ∷ xs) h = absurd (omega arith)

last_more : (written ws : List Symbol) → Closes ws → ends_with false (written ++ ws) ≡ true
last_more written ws closes = with_append false written ws ∙ closes (ends_with false written)

all_before : (P : Symbol → Type 0) (xs : List Symbol) (s : Symbol) → All P (xs ++ s ∷ []) → All P xs
all_before P xs s h = λ k d lt. subst P (get_or_append_left xs (s ∷ []) d k lt) (h k d (omega (arith, length-append xs (s ∷ []))))

all_last : (P : Symbol → Type 0) (xs : List Symbol) (s : Symbol) → All P (xs ++ s ∷ []) → P s
all_last P xs s h = subst P (get_or-append_seam xs s [] s) (h (length xs) s (omega (arith, length-append xs (s ∷ []))))

pub stands_more : (pass new : Pass2) (t u : TablesModel) (read written ws : List Symbol) (s : Symbol) → PassInvariant pass t read written → HasRun new u
    → new.bytes ≡ pass.bytes → new.read ≡ pass.read + 1 → length ws + symbols_pending new ≤ symbols_pending pass + 1
    → All (IsWritable pass.bytes) ws → ends (symbols_of new.waiting) ≡ 0 → ends ws ≡ end_in (is_end s)
    → (IsTrue (is_end s) → Closes ws × (symbols_pending new ≡ 0))
    → (Follows pass t read written → IsSpelled s → Follows new u (read ++ s ∷ []) (written ++ ws))
    → PassInvariant new u (read ++ s ∷ []) (written ++ ws)
stands_more pass new t u read written ws s h run same_bytes more few writable inner same last follows = record {
  run = run;
  taken = omega (arith, h.taken, more, length-append read (s ∷ []));
  few = omega (arith, h.few, few, length-append read (s ∷ []), length-append written ws);
  letters = rw same_bytes (All-append (IsWritable pass.bytes) written ws h.letters writable);
  inner = inner;
  same_ends = omega (arith, h.same_ends, same, ends_append written ws, ends_append read (s ∷ []));
  last = λ ended. let closed = last (sym (with_append false read (s ∷ [])) ∙ ended) in (last_more written ws closed.0, closed.1);
  follows = λ spelled. follows (h.follows (all_before IsSpelled read s spelled)) (all_last IsSpelled read s spelled);
}

pub relates_end : (pass new : Pass2) (t u : TablesModel) (read written ws : List Symbol) → PassInvariant pass t read written → new.bytes ≡ pass.bytes
    → length ws ≤ symbols_pending pass → All (IsWritable pass.bytes) ws → ends ws ≡ 0
    → (Follows pass t read written → IsExact u read (written ++ ws)) → Relates new u read (written ++ ws)
relates_end pass new t u read written ws h same_bytes few writable none exact = record {
  few = omega (arith, h.few, few, length-append written ws);
  letters = rw same_bytes (All-append (IsWritable pass.bytes) written ws h.letters writable);
  ended = λ ended. record {
    once = omega (arith, h.same_ends, ended.once, none, ends_append written ws);
    last = let closed = h.last ended.last in let empty : ws ≡ [] = none_left ws (omega (arith, closed.1, few)) in rw
        (empty, append-nil written) closed.0;
  };
  exact = λ spelled. exact (h.follows spelled);
}
