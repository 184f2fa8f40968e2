-- writes one after another, as one write
use Rattle.std.proofs.Common.{◌≡◌, ℕ, List, [], ◌++◌, Option, None, Some, sym, ap, ◌∙◌, length, take, append_assoc, append-nil}
use Rattle.std.proofs.Math.Seq.{take-append_seam}
use Rattle.std.specs.Io.KnownBytes.{Appends, Keeps}
use Rattle.gier_io.specs.Adapter.{WritesFront, WritesPart}

pub Appends-none : (a : Option (List ℕ)) → Appends a a []
Appends-none None = tt
Appends-none (Some xs) = sym (append-nil xs)

pub Appends-then : (a b c : Option (List ℕ)) (first more : List ℕ) → Appends a b first → Appends b c more → Appends a c (first ++ more)
Appends-then None b c first more p q = tt
Appends-then (Some xs) None c first more p q = absurd p
Appends-then (Some xs) (Some ys) None first more p q = absurd q
Appends-then (Some xs) (Some ys) (Some zs) first more p q = q ∙ ap (λ us. us ++ more) p ∙ append_assoc xs first more

pub Appends-kept : (a b c : Option (List ℕ)) (first : List ℕ) → Appends a b first → Keeps b c → Appends a c first
Appends-kept None b c first p q = tt
Appends-kept (Some xs) None c first p q = absurd p
Appends-kept (Some xs) (Some ys) None first p q = absurd q
Appends-kept (Some xs) (Some ys) (Some zs) first p q = q ∙ p

pub front_then : (a b c : Option (List ℕ)) (bytes mid rest : List ℕ) → WritesFront a bytes mid b → WritesFront b mid rest c → WritesFront a bytes rest c
front_then a b c bytes mid rest p q =
    (p.0 ++ q.0, p.1 ∙ ap (λ us. p.0 ++ us) q.1 ∙ sym (append_assoc p.0 q.0 rest), Appends-then a b c p.0 q.0 p.2 q.2)

pub front_kept : (a b c : Option (List ℕ)) (bytes rest : List ℕ) → WritesFront a bytes rest b → Keeps b c → WritesPart a bytes c
front_kept a b c bytes rest p q =
    let cut : take (length p.0) bytes ≡ p.0 = ap (take (length p.0)) p.1 ∙ take-append_seam p.0 rest in
    (length p.0, rw cut (Appends-kept a b c p.0 p.2 q))
