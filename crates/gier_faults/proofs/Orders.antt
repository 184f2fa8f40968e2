-- A rising list inserted in any order is that list, and what tables do with a fault is insertion by position.
use Rattle.std.proofs.Common.{◌≡◌, ◌∙◌, ◌≤◌, ◌<◌, ◌-◌, ℕ, zero, suc, Bool, true, false, List, [], ◌∷◌, refl, sym as back, ap, subst, arith, length}
use Rattle.std.specs.Prelude.{nat_lt, ◌==◌, insert, slice_index_or}
use Rattle.std.proofs.lemmas.Bool.Decides.{nat_tests}
use Rattle.gier_text.specs.declared.fault.Fault.{Fault}
use Rattle.gier_text.specs.TablesModel.{TablesModel, AddsFault}
use Rattle.gier_faults.specs.Insertion.{insert_by, insert_all, IsRising, IsSorted, Reordered, Empty, Before, Swapped, Followed}
use Rattle.gier_faults.proofs.Inserts.{swap_below, insert_rising}

abbrev pub Differ : Fault → List Fault → Type 0
Differ f [] = f.position ≡ f.position
Differ f (g ∷ gs) = (f.position == g.position ≡ false) × Differ f gs

-- no two at one position
abbrev pub AllDiffer : List Fault → Type 0
AllDiffer [] = true ≡ true
AllDiffer (f ∷ fs) = Differ f fs × AllDiffer fs

not_equal : (a b : ℕ) → a == b ≡ false → b == a ≡ false
not_equal a b h = grind (arith, nat_tests)

less_or : (a b : ℕ) → a == b ≡ false → nat_lt a b ≡ false → b < a
less_or a b h g = grind (arith, nat_tests)

less_by : (a b : ℕ) → nat_lt a b ≡ true → a < b
less_by a b h = grind (arith, nat_tests)

pub swap : (f g : Fault) → f.position == g.position ≡ false → (hs : List Fault) → insert_by f (insert_by g hs) ≡ insert_by g (insert_by f hs)
swap f g differ hs = by_test (nat_lt f.position g.position) refl
  where
    by_test : (a : Bool) → nat_lt f.position g.position ≡ a → insert_by f (insert_by g hs) ≡ insert_by g (insert_by f hs)
    by_test true h = swap_below f g (less_by f.position g.position h) hs
    by_test false h = back (swap_below g f (less_or f.position g.position differ h) hs)

differ_kept : (f : Fault) (xs ys : List Fault) → Reordered xs ys → Differ f xs → Differ f ys
differ_kept f _ _ Empty d = d
differ_kept f _ _ (Before g xs ys r) d = (d.0, differ_kept f xs ys r d.1)
differ_kept f _ _ (Swapped g h xs) d = (d.1.0, (d.0, d.1.1))
differ_kept f _ _ (Followed xs ys zs r s) d = differ_kept f ys zs s (differ_kept f xs ys r d)

all_kept : (xs ys : List Fault) → Reordered xs ys → AllDiffer xs → AllDiffer ys
all_kept _ _ Empty d = d
all_kept _ _ (Before f xs ys r) d = (differ_kept f xs ys r d.0, all_kept xs ys r d.1)
all_kept _ _ (Swapped f g xs) d = ((not_equal f.position g.position d.0.0, d.1.0), (d.0.1, d.1.1))
all_kept _ _ (Followed xs ys zs r s) d = all_kept ys zs s (all_kept xs ys r d)

pub any_order : (xs ys : List Fault) → Reordered xs ys → AllDiffer xs → (F : List Fault) → insert_all xs F ≡ insert_all ys F
any_order _ _ Empty d F = refl
any_order _ _ (Before f xs ys r) d F = any_order xs ys r d.1 (insert_by f F)
any_order _ _ (Swapped f g xs) d F = ap (insert_all xs) (swap g f (not_equal f.position g.position d.0.0) F)
any_order _ _ (Followed xs ys zs r s) d F = any_order xs ys r d F ∙ any_order ys zs s (all_kept xs ys r d) F

rising_differs : (f : Fault) (low high : ℕ) (ps : List Fault) → IsRising low high ps → f.position < low → Differ f ps
rising_differs f low high [] r h = refl
rising_differs f low high (p ∷ ps) r h = (apart f.position p.position (omega (arith, r.0, h)), rising_differs f (suc p.position) high ps r.1 (omega (arith, r.0, h)))
  where
    apart : (a b : ℕ) → a < b → a == b ≡ false
    apart a b less = grind (arith, nat_tests)

rising_all : (low high : ℕ) (ps : List Fault) → IsRising low high ps → AllDiffer ps
rising_all low high [] r = refl
rising_all low high (p ∷ ps) r = (rising_differs p (suc p.position) high ps r.1 (omega arith), rising_all (suc p.position) high ps r.1)

pub any_rising : (low high : ℕ) (ps ys : List Fault) → IsRising low high ps → Reordered ps ys → insert_all ys [] ≡ ps
any_rising low high ps ys r o = back (any_order ps ys o (rising_all low high ps r) []) ∙ insert_rising low high ps r

-- what tables do with a fault
least : (low : ℕ) (ps : List Fault) (a : ℕ) (d : Fault) → IsSorted low ps → a < length ps → low ≤ (slice_index_or ps a d).position
least low [] a d s h = omega (arith, h)
least low (p ∷ ps) zero d s h = s.0
least low (p ∷ ps) (suc a) d s h = omega (arith, s.0, least p.position ps a d s.1 (omega (arith, h)))

less_false : (a b : ℕ) → b ≤ a → nat_lt a b ≡ false
less_false a b h = grind (arith, nat_tests)

less_true : (a b : ℕ) → a < b → nat_lt a b ≡ true
less_true a b h = grind (arith, nat_tests)

no : {A : Type 0} → 1 ≤ 0 → A
no h = grind (arith, nat_tests)

one_less : (a : ℕ) → suc a - 1 ≡ a
one_less a = omega arith

pub added : (f : Fault) (low : ℕ) (old : List Fault) (a : ℕ) → IsSorted low old → a ≤ length old → ((k : ℕ) (d : Fault) → a ≤ k → k < length old → f.position < (slice_index_or old k d).position) → ((d : Fault) → 0 < a → (slice_index_or old (a - 1) d).position ≤ f.position) → insert old a f ≡ insert_by f old
added f low [] zero s h later last = refl
added f low [] (suc a) s h later last = no (omega (arith, h))
added f low (g ∷ gs) zero s h later last = rw (less_true f.position g.position (later 0 f (omega arith) (omega arith))) refl
added f low (g ∷ gs) (suc a) s h later last =
    let here = subst (λ n. (slice_index_or (g ∷ gs) n f).position ≤ f.position) (one_less a) (last f (omega arith)) in
    let over = least g.position (g ∷ gs) a f (omega arith, s.1) (omega (arith, h)) in
    rw (less_false f.position g.position (omega (arith, here, over)))
    (ap (λ w. g ∷ w) (added f g.position gs a s.1 (omega (arith, h)) (λ k d i j. later (suc k) d (omega (arith, i)) (omega (arith, j))) (behind a last)))
  where
    behind : (a : ℕ) → ((d : Fault) → 0 < suc a → (slice_index_or (g ∷ gs) (suc a - 1) d).position ≤ f.position) → (d : Fault) → 0 < a → (slice_index_or gs (a - 1) d).position ≤ f.position
    behind zero last d i = omega (arith, i)
    behind (suc a) last d i = subst (λ n. (slice_index_or gs n d).position ≤ f.position) (back (one_less a)) (subst (λ n. (slice_index_or (g ∷ gs) n d).position ≤ f.position) (one_less (suc a)) (last d (omega arith)))

below : (a b : ℕ) → a < b → a ≤ b
below a b l = omega (arith, l)

not_less : (a b : ℕ) → nat_lt a b ≡ false → b ≤ a
not_less a b l = grind (arith, nat_tests)

-- positions still don't fall
kept_sorted : (f : Fault) (low : ℕ) (old : List Fault) → low ≤ f.position → IsSorted low old → IsSorted low (insert_by f old)
kept_sorted f low [] h s = (h, omega arith)
kept_sorted f low (g ∷ gs) h s =
    by_test (nat_lt f.position g.position) refl (λ r. kept_sorted f g.position gs r s.1)
  where
    by_test : (b : Bool) → nat_lt f.position g.position ≡ b
        → (g.position ≤ f.position → IsSorted g.position (insert_by f gs)) → IsSorted low (insert_by f (g ∷ gs))
    by_test true less more = rw less (h, (below f.position g.position (less_by f.position g.position less), s.1))
    by_test false less more = rw less (s.0, more (not_less f.position g.position less))

pub tables_insert : (old new : TablesModel) (f : Fault) → IsSorted 0 old.faults → AddsFault old f new
    → (new ≡ record old { faults = insert_by f old.faults }) × IsSorted 0 new.faults
tables_insert old new f s a =
    let e : insert old.faults a.at f ≡ insert_by f old.faults = added f 0 old.faults a.at s a.within a.later a.last in
    let told = a.inserted ∙ ap (λ fs. record old { faults = fs }) e in
    (told, subst (λ t. IsSorted 0 t.faults) (back told) (kept_sorted f 0 old.faults (omega arith) s))
