-- Lists of faults at rising positions: one behind another, and with what is found late.
use Rattle.std.proofs.Common.{◌≡◌, ◌∙◌, ◌≤◌, ◌<◌, ◌++◌, ℕ, suc, Bool, true, false, List, [], ◌∷◌, refl, sym as back, ap, arith}
use Rattle.std.specs.Prelude.{map, not, ◌&&◌}
use Rattle.gier_text.specs.declared.fault.Fault.{Fault}
use Rattle.gier_kinds.specs.Faults.{TypeFault, TypeFaults, ListTooLong, WrongOperand, falls, on_symbol}
use Rattle.gier_faults.specs.Insertion.{insert_by, insert_all, IsRising}
use Rattle.gier_faults.proofs.Inserts.{insert_past, rising_ends}
use Rattle.gier_text6.specs.PlacedFaults.{fault_kind, on_place, raise, unplaced, as_told, Fits}

pub insert_append : (ps qs F : List Fault) → insert_all (ps ++ qs) F ≡ insert_all qs (insert_all ps F)
insert_append [] qs F = refl
insert_append (p ∷ ps) qs F = insert_append ps qs (insert_by p F)

-- what is found late stands before what was found since
pub late : (q l : ℕ) (kinds : List TypeFault) (low high : ℕ) (ps : List Fault) → IsRising low high ps → q < low
    → (F : List Fault) → insert_all (on_place q l kinds) (insert_all ps F) ≡ insert_all ps (insert_all (on_place q l kinds) F)
late q l [] low high ps r less F = refl
late q l (kind ∷ kinds) low high ps r less F =
    insert_past (record { position = q; line = l; kind = fault_kind kind }) low high ps r less F

-- rising lists
pub lower : (low lower high : ℕ) (ps : List Fault) → lower ≤ low → IsRising low high ps → IsRising lower high ps
lower a b high [] h r = omega (arith, h, r)
lower a b high (p ∷ ps) h r = (omega (arith, h, r.0), r.1)

higher : (low high more : ℕ) (ps : List Fault) → high ≤ more → IsRising low high ps → IsRising low more ps
higher low a b [] h r = omega (arith, h, r)
higher low a b (p ∷ ps) h r = (r.0, higher (suc p.position) a b ps h r.1)

rising_both : (a b c : ℕ) (ps qs : List Fault) → IsRising a b ps → IsRising b c qs → IsRising a c (ps ++ qs)
rising_both a b c [] qs r s = lower b a c qs r s
rising_both a b c (p ∷ ps) qs r s = (r.0, rising_both (suc p.position) b c ps qs r.1 s)

unplaced_both : (ps qs : List Fault) → map unplaced (ps ++ qs) ≡ map unplaced ps ++ map unplaced qs
unplaced_both [] qs = refl
unplaced_both (p ∷ ps) qs = ap (λ w. unplaced p ∷ w) (unplaced_both ps qs)

told_both : (fs gs : TypeFaults) → map as_told (fs ++ gs) ≡ map as_told fs ++ map as_told gs
told_both [] gs = refl
told_both (f ∷ fs) gs = ap (λ w. as_told f ∷ w) (told_both fs gs)

pub both : (a b c : ℕ) (ps qs : List Fault) (fs gs : TypeFaults) → Fits a b ps fs → Fits b c qs gs → Fits a c (ps ++ qs) (fs ++ gs)
both a b c ps qs fs gs f g = record {
  rising = rising_both a b c ps qs f.rising g.rising;
  same = unplaced_both ps qs ∙ ap (λ w. w ++ map unplaced qs) f.same ∙ ap (λ w. map as_told fs ++ w) g.same
      ∙ back (told_both fs gs);
}

pub one : (q l : ℕ) (kinds : List TypeFault) → Fits q (suc q) (on_place q l kinds) (on_symbol l kinds)
one q l [] = record { rising = omega arith; same = refl }
one q l (kind ∷ kinds) = record { rising = (omega arith, omega arith); same = refl }

pub none : (a b : ℕ) → a ≤ b → Fits a b [] []
none a b h = record { rising = h; same = refl }

pub widen : (a b c d : ℕ) (ps : List Fault) (fs : TypeFaults) → a ≤ b → c ≤ d → Fits b c ps fs → Fits a d ps fs
widen a b c d ps fs h g f = record { rising = lower b a d ps h (higher b c d ps g f.rising); same = f.same }

pub ends : (a b : ℕ) (ps : List Fault) (fs : TypeFaults) → Fits a b ps fs → a ≤ b
ends a b ps fs f = rising_ends a b ps f.rising

-- the fault of an operator, whose left operand was found wrong when it was taken, or whose right one when it ended
pub operator : (fx fy : Bool) (q i : ℕ) (px py F : List Fault) (high : ℕ) → IsRising (suc q) high py
    → raise q i (falls (fx && not fy) WrongOperand) (insert_all py (raise q i (falls (not fx) WrongOperand) (insert_all px F)))
    ≡ insert_all (px ++ on_place q i (falls (not (fx && fy)) WrongOperand) ++ py) F
operator fx fy q i px py F high r = by_both fx fy
    ∙ back (insert_append (px ++ on_place q i (falls (not (fx && fy)) WrongOperand)) py F
    ∙ ap (insert_all py) (insert_append px (on_place q i (falls (not (fx && fy)) WrongOperand)) F))
  where
    by_both : (fx fy : Bool) → raise q i (falls (fx && not fy) WrongOperand) (insert_all py (raise q i
        (falls (not fx) WrongOperand) (insert_all px F))) ≡ insert_all py (raise q i (falls (not (fx &&
        fy)) WrongOperand) (insert_all px F))
    by_both false fy = refl
    by_both true true = refl
    by_both true false = late q i (WrongOperand ∷ []) (suc q) high py r (omega arith) (insert_all px F)

pub prefix : (q i : ℕ) (kinds : List TypeFault) (py F : List Fault) (high : ℕ) → IsRising (suc q) high py
    → raise q i kinds (insert_all py F) ≡ insert_all (on_place q i kinds ++ py) F
prefix q i kinds py F high r = late q i kinds (suc q) high py r (omega arith) F ∙ back (insert_append (on_place q i kinds) py F)

-- a part of a list that isn't the first one
pub in_list : (t fits : Bool) (kind : TypeFault) (q i : ℕ) (py F : List Fault) (low high : ℕ) → IsRising low high py
    → suc q ≡ low → raise q i (falls (not t && not fits) kind) (insert_all py (raise q i (falls t ListTooLong) F))
    ≡ insert_all (on_place q i (falls t ListTooLong ++ falls (not fits) kind) ++ py) F
in_list t fits kind q i py F low high r h = by_test t
    ∙ back (insert_append (on_place q i (falls t ListTooLong ++ falls (not fits) kind)) py F)
  where
    by_test : (t : Bool) → raise q i (falls (not t && not fits) kind) (insert_all py (raise q i (falls t ListTooLong) F))
        ≡ insert_all py (raise q i (falls t ListTooLong ++ falls (not fits) kind) F)
    by_test true = refl
    by_test false = late q i (falls (not fits) kind) low high py r (omega (arith, h)) F

pub down : (low lower high : ℕ) (ps : List Fault) → low ≤ lower → IsRising lower high ps → IsRising low high ps
down a b high ps h r = lower b a high ps h r
