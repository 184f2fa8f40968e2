-- A trace goes on to have noted the references when one more is noted.
use Rattle.std.proofs.Common.{◌≡◌, ℕ, zero, suc, ◌<◌, ◌≤◌, min, inl, inr, true, false, cond, nat_lt, Option, Some, None, List, [], ◌∷◌, ◌++◌, length, take, All, arith, refl, sym, ap, ◌∙◌}
use Rattle.std.proofs.lemmas.Bool.{ltb-true, ltb-false, lt-ltb, le-ltb, eqb-true}
use Rattle.std.proofs.lemmas.List.{take-append-le, length-append, length-take}
use Rattle.std.proofs.lemmas.Grind.{common_steps}
use Rattle.gier_best.specs.Plan.{is_track}
use Rattle.gier_best.specs.Changes.{last_from, changes_from, changes_of}
use Rattle.gier_best.specs.TraceModel.{Traced, after_change, HasNoted, AreTracks}
use Rattle.gier_best.proofs.NextUses.{two_ways}

last_from-append : (last : Option ℕ) (refs : List ℕ) (t : ℕ) → last_from last (refs ++ t ∷ []) ≡ Some t
last_from-append last [] t = refl
last_from-append last (r ∷ refs) t = last_from-append (Some r) refs t

changes_from-append : (last : Option ℕ) (refs : List ℕ) (t : ℕ)
    → changes_from last (refs ++ t ∷ []) ≡ changes_from last refs ++ cond (is_track t (last_from last refs)) [] (t ∷ [])
changes_from-append last [] t = refl
changes_from-append last (r ∷ refs) t = elim (two_ways (is_track r last)) [
  | inl same ↦ rw same (changes_from-append (Some r) refs t)
  | inr other ↦ rw other (ap (λ xs. r ∷ xs) (changes_from-append (Some r) refs t))
]

changes_same : (refs : List ℕ) (t : ℕ) → is_track t (last_from None refs) ≡ true → changes_of (refs ++ t ∷ []) ≡ changes_of refs
changes_same refs t same = changes_from-append None refs t ∙ rw same (append-nil (changes_of refs))
  where
    append-nil : (xs : List ℕ) → xs ++ [] ≡ xs
    append-nil xs = grind (arith, common_steps)

changes_other : (refs : List ℕ) (t : ℕ) → is_track t (last_from None refs) ≡ false → changes_of (refs ++ t ∷ []) ≡ changes_of refs ++ t ∷ []
changes_other refs t other = changes_from-append None refs t ∙ rw other refl

some_track : (t : ℕ) (last : Option ℕ) → is_track t last ≡ true → last ≡ Some t
some_track t None same = cc
some_track t (Some u) same = ap Some (sym (eqb-true t u same))

pub noted_again : (trace : Traced) (refs : List ℕ) (t : ℕ) → is_track t trace.last ≡ true → HasNoted trace refs → HasNoted trace (refs ++ t ∷ [])
noted_again trace refs t same noted =
    let as_before : changes_of (refs ++ t ∷ []) ≡ changes_of refs = changes_same refs t (sym (ap (is_track t) noted.last) ∙ same) in
    record {
      last = some_track t trace.last same ∙ sym (last_from-append None refs t);
      too_long = rw as_before noted.too_long;
      kept = rw as_before noted.kept;
    }

take_all : (n : ℕ) (xs : List ℕ) → length xs ≤ n → take n xs ≡ xs
take_all zero [] le = refl
take_all (suc n) [] le = refl
take_all zero (x ∷ xs) le = absurd (omega arith)
take_all (suc n) (x ∷ xs) le = ap (λ ys. x ∷ ys) (take_all n xs (omega arith))

pub noted_change : (trace : Traced) (refs : List ℕ) (t : ℕ) → is_track t trace.last ≡ false → HasNoted trace refs → HasNoted (after_change trace t) (refs ++ t ∷ [])
noted_change trace refs t other noted = elim (two_ways (nat_lt (length trace.kept) trace.limit)) [
  | inl room ↦
      let below : length trace.kept < trace.limit = ltb-true (length trace.kept) trace.limit room in
      let few : length (changes_of refs) < trace.limit = omega (arith, below, kept_length) in
      let longer : length (changes_of refs ++ t ∷ []) ≡ suc (length (changes_of refs)) = length-append (changes_of refs) (t ∷ []) ∙ omega arith in
      let all : trace.kept ≡ changes_of refs = noted.kept ∙ take_all trace.limit (changes_of refs) (omega arith) in
      record {
        last = sym (last_from-append None refs t);
        too_long = rw (room, one_more) (noted.too_long ∙ le-ltb trace.limit (length (changes_of refs)) (omega arith) ∙ sym (le-ltb trace.limit (length (changes_of refs ++ t ∷ [])) (omega arith)));
        kept = rw (room, one_more) (ap (λ ys. ys ++ t ∷ []) all ∙ sym (take_all trace.limit (changes_of refs ++ t ∷ []) (omega arith)));
      }
  | inr full ↦
      let above : trace.limit ≤ length trace.kept = ltb-false (length trace.kept) trace.limit full in
      let many : trace.limit ≤ length (changes_of refs) = omega (arith, above, kept_length) in
      let longer : length (changes_of refs ++ t ∷ []) ≡ suc (length (changes_of refs)) = length-append (changes_of refs) (t ∷ []) ∙ omega arith in
      record {
        last = sym (last_from-append None refs t);
        too_long = rw (full, one_more) (sym (lt-ltb trace.limit (length (changes_of refs ++ t ∷ [])) (omega arith)));
        kept = rw (full, one_more) (noted.kept ∙ sym (take-append-le trace.limit (changes_of refs) (t ∷ []) many));
      }
]
  where
    one_more : changes_of (refs ++ t ∷ []) ≡ changes_of refs ++ t ∷ []
    one_more = changes_other refs t (sym (ap (is_track t) noted.last) ∙ other)

    kept_length : length trace.kept ≡ min trace.limit (length (changes_of refs))
    kept_length = ap length noted.kept ∙ length-take trace.limit (changes_of refs)

-- a trace that isn't too long keeps all changes
pub keeps_all : (trace : Traced) (refs : List ℕ) → trace.too_long ≡ false → HasNoted trace refs → trace.kept ≡ changes_of refs
keeps_all trace refs short noted =
    noted.kept ∙ take_all trace.limit (changes_of refs) (ltb-false trace.limit (length (changes_of refs)) (sym noted.too_long ∙ short))

pub change_tracks : (trace : Traced) (t : ℕ) → t < trace.tracks → AreTracks trace → AreTracks (after_change trace t)
change_tracks trace t is all = elim (two_ways (nat_lt (length trace.kept) trace.limit)) [
  | inl room ↦ rw room (one_more trace.kept all)
  | inr full ↦ rw full all
]
  where
    one_more : (xs : List ℕ) → All (λ track. track < trace.tracks) xs → All (λ track. track < trace.tracks) (xs ++ t ∷ [])
    one_more xs below = grind (arith, common_steps)
