-- Printing in pieces: what was put before and what is put now are put one after the other.
use Rattle.std.proofs.Common.{◌≡◌, ◌≤◌, arith, Result, Ok, Err, IsErr, ℕ, List, [], ◌++◌, ◌+◌, Option, None, Some, length, take, drop, append_assoc, append-nil, zero-add, refl, ap, sym, ◌∙◌, subst}
use Rattle.std.proofs.lemmas.Result.{on_ok_weaker, on_err_weaker}
use Rattle.gier_word.specs.Cause.{HasCause}
use Rattle.gier_word.proofs.Cause.{risen_from}
use Rattle.gier_io.specs.Device.{Puts, PutsPart}
use Rattle.gier_io.specs.View.{SinkView, PutsOrFails}
use Rattle.std.proofs.Math.Seq.{take-append_seam, take-append-add}
use Rattle.std.proofs.lemmas.List.{take-append-drop}

pub puts_none : (a : Option (List ℕ)) → Puts a [] a
puts_none None = refl
puts_none (Some held) = ap Some (sym (append-nil held))

puts_none_kept : (b c : Option (List ℕ)) (ys : List ℕ) → b ≡ None → Puts b ys c → c ≡ None
puts_none_kept b c ys none then = subst (λ (m : Option (List ℕ)). Puts m ys c) none then

-- a prefix of the second piece makes a prefix of all three
taken_join : (xs ys zs : List ℕ) (n : ℕ) → xs ++ take n ys ≡ take (length xs + length (take n ys)) (xs ++ (ys ++ zs))
taken_join xs ys zs n =
    let split : ys ++ zs ≡ take n ys ++ (drop n ys ++ zs) = ap (λ (l : List ℕ). l ++ zs) (sym (take-append-drop n ys)) ∙ append_assoc (take n ys) (drop n ys) zs in
    let front : take (length (take n ys)) (ys ++ zs) ≡ take n ys = ap (take (length (take n ys))) split ∙ take-append_seam (take n ys) (drop n ys ++ zs) in
    sym (take-append-add xs (ys ++ zs) (length (take n ys)) ∙ ap (λ (l : List ℕ). xs ++ l) front)

parts_join : (held xs ys zs : List ℕ) (c : Option (List ℕ)) → PutsPart (Some (held ++ xs)) ys c → PutsPart (Some held) (xs ++ (ys ++ zs)) c
parts_join held xs ys zs c part =
    (length xs + length (take part.0 ys), part.1 ∙ ap Some (append_assoc held xs (take part.0 ys)) ∙ ap (λ (l : List ℕ). Some (held ++ l)) (taken_join xs ys zs part.0))

pub puts_more : (a b c : Option (List ℕ)) (xs ys : List ℕ) → Puts a xs b → Puts b ys c → Puts a (xs ++ ys) c
puts_more None b c xs ys first then = puts_none_kept b c ys first then
puts_more (Some held) b c xs ys first then =
    let second : Puts (Some (held ++ xs)) ys c = subst (λ (m : Option (List ℕ)). Puts m ys c) first then in
    second ∙ ap Some (append_assoc held xs ys)

pub part_more : (a b c : Option (List ℕ)) (xs ys zs : List ℕ) → Puts a xs b → PutsPart b ys c → PutsPart a (xs ++ (ys ++ zs)) c
part_more None b c xs ys zs first then = subst (λ (m : Option (List ℕ)). PutsPart m ys c) first then
part_more (Some held) b c xs ys zs first then =
    let second : PutsPart (Some (held ++ xs)) ys c = subst (λ (m : Option (List ℕ)). PutsPart m ys c) first then in
    parts_join held xs ys zs c second

-- a part of the first piece is a part of both
pub part_first : (a b : Option (List ℕ)) (xs ys : List ℕ) → PutsPart a xs b → PutsPart a (xs ++ ys) b
part_first None b xs ys part = part
part_first (Some held) b xs ys part =
    (length (take part.0 xs), part.1 ∙ ap (λ (l : List ℕ). Some (held ++ l)) (taken_join [] xs ys part.0 ∙ ap (λ (n : ℕ). take n (xs ++ ys)) (zero-add (length (take part.0 xs)))))

pub part_second : (a b c : Option (List ℕ)) (xs ys : List ℕ) → Puts a xs b → PutsPart b ys c → PutsPart a (xs ++ ys) c
part_second a b c xs ys first then = rw (← append-nil ys) (part_more a b c xs ys [] first then)

-- what is put behind a piece that was put
pub puts_behind : {T E : Type 0} (first second : List ℕ) (a b c : SinkView) (r : Result T E) → Puts a.held first b.held → a.faults ≤ b.faults → PutsOrFails second b c r → PutsOrFails (first ++ second) a c r
puts_behind first second a b c r put later then = record {
  put = on_ok_weaker r (puts_more a.held b.held c.held first second put) then.put;
  part = on_err_weaker r (part_second a.held b.held c.held first second put) then.part;
  cause = record { later = omega (arith, later, then.cause.later); failed = λ err. risen_from a.faults b.faults c.faults later (then.cause.failed err) };
}

-- a part was put, since a sink failed behind what was put before
pub fails_behind : {T U E F : Type 0} (whole : List ℕ) (a b c : SinkView) (e : E) (r : Result U F) → IsErr r → a.faults ≤ b.faults → PutsPart a.held whole c.held → HasCause {T = T} b.faults c.faults (Err e) → PutsOrFails whole a c r
fails_behind whole a b c e (Ok x) err later part cause = absurd (cc)
fails_behind whole a b c e (Err f) err later part cause = record {
  put = tt;
  part = part;
  cause = record { later = omega (arith, later, cause.later); failed = λ is. risen_from a.faults b.faults c.faults later (cause.failed refl) };
}

-- where the first piece failed, nothing of the second was put
pub fails_before : {T U E F : Type 0} (first second : List ℕ) (a b : SinkView) (e : E) (r : Result U F) → IsErr r → PutsOrFails {T = T} first a b (Err e) → PutsOrFails (first ++ second) a b r
fails_before first second a b e r err failed =
    fails_behind (first ++ second) a a b e r err (omega arith) (part_first a.held b.held first second failed.part) failed.cause
