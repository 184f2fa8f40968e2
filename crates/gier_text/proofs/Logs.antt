-- What a write, a rewind and a read of a text on a drum add to its log.
use Rattle.std.proofs.Common.{◌<◌, ◌≡◌, ◌⊎◌, ℕ, suc, ◌+◌, ◌/◌, ◌%◌, ◌-◌, ◌≤◌, List, [], ◌∷◌, ◌++◌, refl, ap, sym, ◌∙◌, arith, inl, inr, Option, None, Some, Bool, true, false, append_assoc, add-one}
use Rattle.std.proofs.lemmas.Bool.{cases_eq}
use Rattle.std.proofs.lemmas.Bool.Decides.{nat_tests}
use Rattle.std.proofs.lemmas.List.{append-nil}
use Rattle.std.specs.Prelude.{nat_eq}
use Rattle.gier_drum.specs.declared.drum.Entry.{Entry}
use Rattle.gier_drum.specs.declared.drum.Entry.TheVariants.{Read, Write}
use Rattle.gier_drum.specs.Drum.{Logs}
use Rattle.gier_text.specs.declared.text.Way.{Way}
use Rattle.gier_text.specs.declared.text.Way.TheVariants.{Forward, Backward}
use Rattle.gier_text.specs.SymbolsOnTracks.{tabulated, tracks_for}
use Rattle.gier_text.specs.Log.{writes_of, reads_of, writing_log, log_of, new_read, last_write, LogsAll}
use Rattle.gier_text.proofs.Reading.{IsForward, IsBackward}

pub logs_none : (journal : Option (List Entry)) → LogsAll journal [] journal
logs_none None = refl
logs_none (Some entries) = ap Some (sym (append-nil entries))

pub logs_one : (before after : Option (List Entry)) (entry : Entry) → Logs before entry after → LogsAll before (entry ∷ []) after
logs_one None after entry is = is
logs_one (Some entries) after entry is = is

pub log_pushed : (fresh rewound : Bool) (first count : ℕ) (way : Way) (loaded mark : ℕ) → rewound ≡ false → count % 20 < 19 → log_of fresh rewound first (count + 1) way mark ≡ log_of fresh rewound first count way loaded ++ []
unfolding log_of
log_pushed fresh true first count way loaded mark writing some = absurd (cc)
log_pushed fresh false first count way loaded mark writing some = let same : (count + 1) / 20 ≡ count / 20 = omega arith in rw same (sym (append-nil (writing_log fresh first (count / 20))))

pub log_pushed_over : (fresh rewound : Bool) (first count : ℕ) (way : Way) (loaded mark : ℕ) → fresh ≡ true → rewound ≡ false → count % 20 ≡ 19 → log_of fresh rewound first (count + 1) way mark ≡ log_of fresh rewound first count way loaded ++ Write (first + count / 20) ∷ []
unfolding log_of
log_pushed_over false rewound first count way loaded mark here writing some = absurd (cc)
log_pushed_over true true first count way loaded mark here writing some = absurd (cc)
log_pushed_over true false first count way loaded mark here writing some = let next : (count + 1) / 20 ≡ suc (count / 20) = omega arith in rw next refl

no_reads : (way : Way) (first all : ℕ) → reads_of way first all 0 ≡ []
no_reads Forward first all = refl
no_reads Backward first all = refl

written_last : (fresh : Bool) (first count : ℕ) → writing_log fresh first (tracks_for count) ≡ writing_log fresh first (count / 20) ++ last_write fresh first count
written_last false first count = refl
written_last true first count = elim (cases_eq (count % 20) 0) [
  | inl e ↦ let same : (count + 19) / 20 ≡ count / 20 = omega arith in rw (same, e) (sym (append-nil (writes_of first (count / 20))))
  | inr ne ↦ let next : (count + 19) / 20 ≡ suc (count / 20) = omega arith in let test : nat_eq (count % 20) 0 ≡ false = grind (arith, nat_tests) in rw (next, test) refl
]

pub log_rewound : (fresh rewound : Bool) (first count : ℕ) (old new : Way) (loaded : ℕ) → rewound ≡ false → log_of fresh true first count new 0 ≡ log_of fresh rewound first count old loaded ++ last_write fresh first count
unfolding log_of
log_rewound fresh true first count old new loaded writing = absurd (cc)
log_rewound fresh false first count old new loaded writing =
    rw (no_reads new first (tracks_for count)) (append-nil (writing_log fresh first (tracks_for count)) ∙ written_last fresh first count)

reads_more : (way : Way) (first all loaded t : ℕ) → (t + 1 ≡ loaded → ⊥) → (IsForward way → loaded ≡ t) → (IsBackward way → ((loaded ≡ 0) × (t + 1 ≡ all)) ⊎ ((loaded ≡ t + 2) × (loaded ≤ all))) → reads_of way first all (t + 1) ≡ reads_of way first all loaded ++ Read (first + t) ∷ []
reads_more Forward first all loaded t other ahead behind = rw (ahead tt, add-one) refl
reads_more Backward first all loaded t other ahead behind = elim (behind tt) [
  | inl h ↦
      let one : all + 1 - (t + 1) ≡ 1 = omega arith in
      let track : all - 1 - 0 ≡ t = omega arith in
      let test : nat_eq (t + 1) 0 ≡ false = grind (arith, nat_tests) in
      rw (h.0, test, one) (ap (λ (n : ℕ). Read (first + n) ∷ []) track)
  | inr h ↦
      let more : all + 1 - (t + 1) ≡ suc (all + 1 - (t + 2)) = omega arith in
      let track : all - 1 - (all + 1 - (t + 2)) ≡ t = omega arith in
      let test : nat_eq (t + 1) 0 ≡ false = grind (arith, nat_tests) in
      let other_test : nat_eq (t + 2) 0 ≡ false = grind (arith, nat_tests) in
      rw (h.0, test, other_test, more) (ap (λ (n : ℕ). tabulated (λ (k : ℕ). Read (first + (all - 1 - k))) (all + 1 - (t + 2)) ++ Read (first + n) ∷ []) track)
]

pub log_read : (fresh rewound : Bool) (first count : ℕ) (way : Way) (loaded t : ℕ) → rewound ≡ true → ((t + 1 ≡ loaded → ⊥) → IsForward way → loaded ≡ t) → ((t + 1 ≡ loaded → ⊥) → IsBackward way → ((loaded ≡ 0) × (t + 1 ≡ tracks_for count)) ⊎ ((loaded ≡ t + 2) × (loaded ≤ tracks_for count)))
    → log_of fresh rewound first count way (t + 1) ≡ log_of fresh rewound first count way loaded ++ new_read first t loaded
unfolding log_of
log_read fresh false first count way loaded t reading ahead behind = absurd (cc)
log_read fresh true first count way loaded t reading ahead behind = elim (cases_eq (t + 1) loaded) [
  | inl e ↦ let test : nat_eq (t + 1) loaded ≡ true = grind (arith, nat_tests) in
      rw (test, e) (sym (append-nil (writing_log fresh first (tracks_for count) ++ reads_of way first (tracks_for count) loaded)))
  | inr ne ↦ let test : nat_eq (t + 1) loaded ≡ false = grind (arith, nat_tests) in
      rw (test, reads_more way first (tracks_for count) loaded t ne (ahead ne) (behind ne))
      (sym (append_assoc (writing_log fresh first (tracks_for count)) (reads_of way first (tracks_for count) loaded) (Read (first + t) ∷ [])))
]
