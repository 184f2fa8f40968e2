-- Insertion by position.
use Rattle.std.proofs.Common.{◌≡◌, ◌∙◌, ◌≤◌, ◌<◌, ℕ, suc, Bool, true, false, List, [], ◌∷◌, refl, sym as back, ap, arith}
use Rattle.std.specs.Prelude.{nat_lt}
use Rattle.std.proofs.lemmas.Bool.Decides.{nat_tests}
use Rattle.gier_text.specs.declared.fault.Fault.{Fault}
use Rattle.gier_faults.specs.Insertion.{insert_by, insert_all, IsRising}

lt_true : (a b : ℕ) → a < b → nat_lt a b ≡ true
lt_true a b h = grind (arith, nat_tests)

lt_false : (a b : ℕ) → b ≤ a → nat_lt a b ≡ false
lt_false a b h = grind (arith, nat_tests)

lt_trans : (a b c : ℕ) → a < b → nat_lt b c ≡ true → nat_lt a c ≡ true
lt_trans a b c h g = grind (arith, nat_tests)

-- where positions differ, the order of two insertions doesn't matter
pub swap_below : (f g : Fault) → f.position < g.position → (hs : List Fault) → insert_by f (insert_by g hs) ≡ insert_by g (insert_by f hs)
swap_below f g less [] = rw (lt_true f.position g.position less, lt_false g.position f.position (omega (arith, less))) refl
swap_below f g less (h ∷ hs) = by_tests (swap_below f g less hs) (nat_lt f.position h.position) refl (nat_lt g.position h.position) refl
  where
    by_tests : insert_by f (insert_by g hs) ≡ insert_by g (insert_by f hs) → (a : Bool) → nat_lt f.position h.position ≡ a → (b : Bool) → nat_lt g.position h.position ≡ b → insert_by f (insert_by g (h ∷ hs)) ≡ insert_by g (insert_by f (h ∷ hs))
    by_tests again a fh true gh = rw (gh, lt_true f.position g.position less, lt_trans f.position g.position h.position less gh, lt_false g.position f.position (omega (arith, less)), gh) refl
    by_tests again true fh false gh = rw (gh, fh, lt_false g.position f.position (omega (arith, less)), gh) refl
    by_tests again false fh false gh = rw (gh, fh, gh) (ap (λ w. h ∷ w) again)

pub rising_ends : (low high : ℕ) (ps : List Fault) → IsRising low high ps → low ≤ high
rising_ends low high [] r = r
rising_ends low high (p ∷ ps) r = omega (arith, r.0, rising_ends (suc p.position) high ps r.1)

-- one before all of a rising list
pub insert_past : (f : Fault) (low high : ℕ) (ps : List Fault) → IsRising low high ps → f.position < low → (F : List Fault) → insert_by f (insert_all ps F) ≡ insert_all ps (insert_by f F)
insert_past f low high [] r less F = refl
insert_past f low high (p ∷ ps) r less F =
    insert_past f (suc p.position) high ps r.1 (omega (arith, r.0, less)) (insert_by p F) ∙ ap (insert_all ps) (swap_below f p (omega (arith, r.0, less)) F)

-- a rising list inserted into none is that list
first_of_rising : (p : Fault) (high : ℕ) (ps : List Fault) → IsRising (suc p.position) high ps → insert_by p ps ≡ p ∷ ps
first_of_rising p high [] r = refl
first_of_rising p high (q ∷ qs) r = rw (lt_true p.position q.position (omega (arith, r.0))) refl

pub insert_rising : (low high : ℕ) (ps : List Fault) → IsRising low high ps → insert_all ps [] ≡ ps
insert_rising low high [] r = refl
insert_rising low high (p ∷ ps) r =
    back (insert_past p (suc p.position) high ps r.1 (omega arith) []) ∙ ap (insert_by p) (insert_rising (suc p.position) high ps r.1) ∙ first_of_rising p high ps r.1
