-- That the counts of a run stay within their numbers: each order adds at most a bound, and there are at most so many orders.
use Rattle.std.proofs.Common.{◌≡◌, ◌<◌, ◌≤◌, ◌+◌, ◌*◌, ◌^◌, ℕ, arith}
use Rattle.std.proofs.lemmas.Nat.{mul-le}
use Rattle.gier_order.specs.Counts.{Counts, references_taken}
use Rattle.gier_places.specs.Contents.{Contents}
use Rattle.gier_exec.specs.Registers.{Registers, first_registers, measure}
use Rattle.gier_runner.specs.RunInvariant.{Counted}
use Rattle.gier_runner.specs.State.{State, Begun}
use Rattle.gier_runner.specs.declared.settings.Settings.{Settings}

-- one order fewer is to come, and it added its part
more : (a b c n m k : ℕ) → a + n * k ≤ c → m < n → b ≤ a + k → b + m * k ≤ c
more a b c n m k most falls adds =
    let step : (m + 1) * k ≤ n * k = mul-le (m + 1) k n k (omega arith) (omega arith) in
    grind (arith, step)

pub next_counts : (words : ℕ) (old new : Registers) (recent after : Counts) (places later : Contents) → Counted words old recent places → measure words new < measure words old
    → references_taken after ≤ references_taken recent + 2 * words + 2 → later.transfers ≤ places.transfers + 2 * words + 2 → Counted words new after later
next_counts words old new recent after places later so falls references transfers = record {
  references = more (references_taken recent) (references_taken after) (2 ^ 118) (measure words old) (measure words new) (2 * words + 2) so.references falls (omega arith);
  transfers = more places.transfers later.transfers (2 ^ 118) (measure words old) (measure words new) (2 * words + 2) so.transfers falls (omega arith);
}

first_most : (words start steps : ℕ) → start < words → words ≤ 2 ^ 24 → steps < 2 ^ 64 → measure words (first_registers start steps) * (2 * words + 2) ≤ 2 ^ 118
first_most words start steps within few small =
    let turns : (2 * steps + 0) * (words + 1) ≤ 2 ^ 65 * 2 ^ 25 = mul-le (2 * steps + 0) (words + 1) (2 ^ 65) (2 ^ 25) (omega arith) (omega arith) in
    let both : measure words (first_registers start steps) * (2 * words + 2) ≤ 2 ^ 91 * 2 ^ 26 = mul-le (measure words (first_registers start steps)) (2 * words + 2) (2 ^ 91) (2 ^ 26) (omega (arith, turns)) (omega arith) in
    omega (arith, both)

pub first_counts : (words start steps : ℕ) (recent : Counts) (places : Contents) → start < words → words ≤ 2 ^ 24 → steps < 2 ^ 64 → references_taken recent ≡ 0 → places.transfers ≡ 0
    → Counted words (first_registers start steps) recent places
first_counts words start steps recent places within few small none unread =
    let most : measure words (first_registers start steps) * (2 * words + 2) ≤ 2 ^ 118 = first_most words start steps within few small in
    record { references = grind (arith, none, most); transfers = grind (arith, unread, most) }

pub begun_counts : (words start : ℕ) (given : Settings) (s : State) → Begun given start s → start < words → words ≤ 2 ^ 24 → given.steps < 2 ^ 64 → Counted words s.machine s.recent s.places
begun_counts words start given s so within few small = rw so.machine (first_counts words start given.steps s.recent s.places within few small so.none so.unread)
