-- One sweep from the last change to the first finds each next use.
use Rattle.std.proofs.Common.{◌≡◌, ◌≢◌, ℕ, suc, ◌+◌, ◌<◌, ◌≤◌, inl, inr, true, false, nat_eq, List, [], ◌∷◌, length, drop, slice_index, set, replicate, arith, refl, sym, ap, subst, ◌∙◌, eq-eqb}
use Rattle.std.proofs.lemmas.List.{get_or-set_same, get_or-set_other, get_or-replicate, length-set}
use Rattle.std.proofs.lemmas.Grind.{get_or-set_at}
use Rattle.std.proofs.Math.Seq.{drop-cons}
use Rattle.std.proofs.lemmas.Bool.{eqb-true}
use Rattle.gier_best.specs.Plan.{next_use}
use Rattle.gier_best.specs.PlannerState.{AreNextUses}
use Rattle.gier_best.proofs.NextUses.{two_ways}
use Rattle.gier_best.proofs.Index.{same_or_other}

-- the sweep has come down to this change
pub record HasSwept (changes seen next : List ℕ) (at : ℕ) : Type 0 where
  pub within : at ≤ length changes
  pub even : length next ≡ length changes
  pub soonest : (t : ℕ) → t < length seen → slice_index seen t ≡ at + next_use (drop at changes) t
  pub found : (k : ℕ) → at ≤ k → k < length changes → slice_index next k ≡ suc k + next_use (drop (suc k) changes) (slice_index changes k)

pub next_use-other : (r t : ℕ) (refs : List ℕ) → nat_eq r t ≡ false → next_use (r ∷ refs) t ≡ suc (next_use refs t)
next_use-other r t refs other = rw other refl

pub next_use-same : (r t : ℕ) (refs : List ℕ) → nat_eq r t ≡ true → next_use (r ∷ refs) t ≡ 0
next_use-same r t refs same = rw same refl

pub tells_apart : (a b : ℕ) → a ≢ b → nat_eq a b ≡ false
tells_apart a b ne = elim (two_ways (nat_eq a b)) [ inl same ↦ absurd (ne (eqb-true a b same)) | inr other ↦ other ]

swept_at : (changes seen next : List ℕ) (at : ℕ) → HasSwept changes seen next (suc at) → slice_index changes at < length seen
    → HasSwept changes (set seen (slice_index changes at) at) (set next at (slice_index seen (slice_index changes at))) at
swept_at changes seen next at has track = record { within = omega (arith, has.within); even = length-set next at (slice_index seen (slice_index changes at)) ∙ has.even; soonest = soonest; found = found }
  where
    in_changes : at < length changes
    in_changes = omega (arith, has.within)

    in_next : at < length next
    in_next = omega (arith, has.within, has.even)

    front : drop at changes ≡ slice_index changes at ∷ drop (suc at) changes
    front = drop-cons changes at 0 in_changes

    soonest : (t : ℕ) → t < length (set seen (slice_index changes at) at) → slice_index (set seen (slice_index changes at) at) t ≡ at + next_use (drop at changes) t
    soonest t lt = elim (same_or_other t (slice_index changes at)) [
      | inl eq ↦
          let now : next_use (slice_index changes at ∷ drop (suc at) changes) t ≡ 0 = next_use-same (slice_index changes at) t (drop (suc at) changes) (eq-eqb (slice_index changes at) t (sym eq)) in
          get_or-set_at seen (slice_index changes at) t at 0 eq track ∙ rw front (omega (arith, now))
      | inr ne ↦
          let t_in : t < length seen = omega (arith, lt, length-set seen (slice_index changes at) at) in
          let other : next_use (slice_index changes at ∷ drop (suc at) changes) t ≡ suc (next_use (drop (suc at) changes) t) = next_use-other (slice_index changes at) t (drop (suc at) changes) (tells_apart (slice_index changes at) t (λ e. ne (sym e))) in
          get_or-set_other seen (slice_index changes at) t at 0 ne ∙ has.soonest t t_in ∙ rw front (omega (arith, other))
    ]

    found : (k : ℕ) → at ≤ k → k < length changes → slice_index (set next at (slice_index seen (slice_index changes at))) k ≡ suc k + next_use (drop (suc k) changes) (slice_index changes k)
    found k from lt = elim (same_or_other k at) [
      | inl eq ↦ rw (eq, get_or-set_same next at (slice_index seen (slice_index changes at)) 0 in_next) (has.soonest (slice_index changes at) track)
      | inr ne ↦ get_or-set_other next at k (slice_index seen (slice_index changes at)) 0 ne ∙ has.found k (omega arith) lt
    ]

pub swept_one : (changes seen next : List ℕ) (at before : ℕ) → suc at ≡ before → HasSwept changes seen next before → slice_index changes at < length seen
    → HasSwept changes (set seen (slice_index changes at) at) (set next at (slice_index seen (slice_index changes at))) at
swept_one changes seen next at before step has track =
    let P : ℕ → Type 0 = λ b. HasSwept changes seen next b in
    swept_at changes seen next at (subst P (sym step) has) track

pub swept_none : (changes seen next : List ℕ) → length next ≡ length changes → seen ≡ replicate (length seen) (length changes) → HasSwept changes seen next (length changes)
swept_none changes seen next even unseen = record {
  within = omega arith;
  even = even;
  soonest = λ t lt.
      let full : slice_index (replicate (length seen) (length changes)) t ≡ length changes = get_or-replicate (length seen) t (length changes) 0 lt in
      let none : next_use (drop (length changes) changes) t ≡ 0 = rw (drop_all changes) refl in
      ap (λ xs. slice_index xs t) unseen ∙ full ∙ omega (arith, none);
  found = λ k from lt. absurd (omega arith);
}
  where
    drop_all : (xs : List ℕ) → drop (length xs) xs ≡ []
    drop_all [] = refl
    drop_all (x ∷ xs) = drop_all xs

pub swept_all : (changes seen next : List ℕ) (at : ℕ) → at ≤ 0 → HasSwept changes seen next at → AreNextUses changes next
swept_all changes seen next at start has = record { even = has.even; each = λ k lt. has.found k (omega arith) lt }
