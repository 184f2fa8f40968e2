-- LONG, as a row.
use Rattle.std.specs.Prelude.{◌≡◌, ◌+◌, ℕ, Bool, true, false, nat_lt, List, [], ◌∷◌, length, Ok, Err, if◌then◌else◌}
use Rattle.std.proofs.Common.{refl, ap, sym, subst, ◌∙◌}
use Rattle.gier_order.specs.declared.operation.Operation.TheVariants.{Long}
use Rattle.gier_order.specs.Flat.Row.{Regs, On, Odd as OddStep, Row, needs, reads, behind_ref}
use Rattle.gier_order.specs.Flat.Rows.{effect, goes}
use Rattle.gier_exec.specs.declared.stop.Stop.{Stop}
use Rattle.gier_exec.specs.declared.stop.Stop.TheVariants.{Ended, Alarm, Steps, Odd}
use Rattle.gier_exec.specs.declared.stop.Miss.{Miss}
use Rattle.gier_exec.specs.declared.stop.Miss.TheVariants.{Drum, Stop as Stopped}
use Rattle.gier_exec.specs.Rows.{reading_row}
use Rattle.gier_exec.specs.References.{RefinesFetch, RefinesOrder}

-- what LONG does with the word
abbrev pub long_go : (code : List ℕ) (size : ℕ) (m : Regs) → ℕ → Row
long_go code size m word = needs (nat_lt (m.place + 1 + 1) (length code)) (goes code size m (m.place + 1 + 1) (record m { r = word }))

missed : (row : Row) (go : ℕ → Row) (a : ℕ) (regs : Regs) (miss : Miss) → RefinesFetch row go a (Err miss) → RefinesOrder row [] regs (Err miss)
missed row go a regs Drum h = (row.refs, refl)
missed row go a regs (Stopped Ended) h = absurd h
missed row go a regs (Stopped (Alarm alarm)) h = absurd h
missed row go a regs (Stopped Steps) h = absurd h
missed row go a regs (Stopped Odd) h = h

pub long_missed : (code : List ℕ) (size : ℕ) (m : Regs) (l a b : ℕ) (miss : Miss) → b ≡ m.place + 1 → ((go : ℕ → Row) → RefinesFetch (reads code b go) go b (Err miss)) → RefinesOrder (effect code size m Long l a) [] m (Err miss)
long_missed code size m l a b miss at h =
    subst (λ p. RefinesOrder (reads code p (long_go code size m)) [] m (Err miss)) at (missed (reads code b (long_go code size m)) (long_go code size m) b m miss (h (long_go code size m)))

ahead_lost : (e words : ℕ) (stop : Stop) → Err stop ≡ (if nat_lt e words then Ok e else Err Odd) → (nat_lt e words ≡ false) × (stop ≡ Odd)
ahead_lost e words stop is = by (nat_lt e words) is
  where
    by : (b : Bool) → Err stop ≡ (if b then Ok e else Err Odd) → (b ≡ false) × (stop ≡ Odd)
    by true is = absurd cc
    by false is = (refl, cc)

ahead_found : (e words a : ℕ) → Ok a ≡ (if nat_lt e words then Ok e else Err Odd) → (nat_lt e words ≡ true) × (a ≡ e)
ahead_found e words a is = by (nat_lt e words) is
  where
    by : (b : Bool) → Ok a ≡ (if b then Ok e else Err Odd) → (b ≡ true) × (a ≡ e)
    by true is = (refl, cc)
    by false is = absurd cc

pub long_lost : (code : List ℕ) (size : ℕ) (m : Regs) (l a b e words word : ℕ) (stop : Stop) → b ≡ m.place + 1 → e ≡ m.place + 1 + 1 → length code ≡ words → ((go : ℕ → Row) → RefinesFetch (reads code b go) go b (Ok word))
    → Err stop ≡ (if nat_lt e words then Ok e else Err Odd) → RefinesOrder (effect code size m Long l a) (b ∷ []) m (Err (Stopped stop))
long_lost code size m l a b e words word stop at next same read is =
    let lost = ahead_lost e words stop is in
    let no : nat_lt (m.place + 1 + 1) (length code) ≡ false = rw (sym next) (rw same lost.0) in
    rw lost.1 (subst (λ p. reads code p (long_go code size m) ≡ reading_row (b ∷ []) OddStep) at
    (read (long_go code size m) ∙ ap (λ t. behind_ref b (needs t (goes code size m (m.place + 1 + 1) (record m { r = word })))) no))

pub long_goes : (code : List ℕ) (size : ℕ) (m : Regs) (l a b e words word next_at : ℕ) → b ≡ m.place + 1 → e ≡ m.place + 1 + 1 → length code ≡ words → ((go : ℕ → Row) → RefinesFetch (reads code b go) go b (Ok word))
    → Ok next_at ≡ (if nat_lt e words then Ok e else Err Odd) → effect code size m Long l a ≡ reading_row (b ∷ []) (On (record m { r = word; place = next_at }))
long_goes code size m l a b e words word next_at at next same read is =
    let found = ahead_found e words next_at is in
    let yes : nat_lt (m.place + 1 + 1) (length code) ≡ true = rw (sym next) (rw same found.0) in
    rw (found.1 ∙ next) (subst (λ p. reads code p (long_go code size m) ≡ reading_row (b ∷ []) (On (record m { r = word; place = m.place + 1 + 1 }))) at
    (read (long_go code size m) ∙ ap (λ t. behind_ref b (needs t (goes code size m (m.place + 1 + 1) (record m { r = word })))) yes))
