-- Writes into the frames, as rows.
use Rattle.std.specs.Prelude.{◌≡◌, ◌+◌, ◌<◌, ◌≤◌, ℕ, false, nat_lt, List, length, slice_index, Result, Ok, Err}
use Rattle.std.proofs.Common.{arith, refl, ap, sym, ◌∙◌, ⊎_elim}
use Rattle.std.proofs.lemmas.Bool.Decides.{nat_tests}
use Rattle.std.proofs.lemmas.Bool.{lt-ltb, cases_lt}
use Rattle.gier_frames.specs.State.{State}
use Rattle.gier_frames.specs.Effects.{after_write}
use Rattle.gier_order.specs.Flat.Region.{put}
use Rattle.gier_order.specs.Flat.Row.{On, plain, needs}
use Rattle.gier_order.specs.Flat.Rows.{on}
use Rattle.gier_exec.specs.declared.stop.Stop.{Stop}
use Rattle.gier_exec.specs.declared.stop.Stop.TheVariants.{Odd}
use Rattle.gier_exec.specs.Registers.{Registers}
use Rattle.gier_exec.specs.Rows.{regs_of}
use Rattle.gier_exec.specs.Following.{RefinesNext}
use Rattle.gier_exec.proofs.Regions.{put_is}
use Rattle.gier_exec.proofs.RowResults.{on_is}

not_lt : (a b : ℕ) → b ≤ a → nat_lt a b ≡ false
not_lt a b le = grind (arith, nat_tests, le)

with_words : (m : Registers) (s : State) (input : List ℕ) (f g : ℕ → ℕ) → f ≡ g → plain (On (record (regs_of m s input) { words = f; place = m.place + 1 })) ≡ plain (On (record (regs_of m s input) { words = g; place = m.place + 1 }))
with_words m s input f g e = ap (λ f. plain (On (record (regs_of m s input) { words = f; place = m.place + 1 }))) e

-- R is written at a place, and the order after is next
pub store_row : (code input : List ℕ) (m : Registers) (s new : State) (p : ℕ) (result : Result (Unit {0}) Stop) → m.place + 1 < length code
    → (p < length s.words → (result ≡ Ok tt) × (new ≡ after_write s p m.r)) → (length s.words ≤ p → result ≡ Err Odd)
    → RefinesNext (needs (nat_lt p (length s.words)) (on code (length s.words) (regs_of m s input) (record (regs_of m s input) { words = put (slice_index s.words) p m.r }))) (regs_of m new input) result
store_row code input m s new p result next writes refused = ⊎_elim
    (λ lt. let done = writes lt in
    rw (lt-ltb p (length s.words) lt) (rw done.0 (rw done.1 (
    on_is code (length s.words) (regs_of m s input) (record (regs_of m s input) { words = put (slice_index s.words) p m.r }) next
    ∙ with_words m s input _ _ (sym (put_is s.words p m.r lt))))))
    (λ past. rw (not_lt p (length s.words) past) (rw (refused past) refl))
    (cases_lt p (length s.words))
