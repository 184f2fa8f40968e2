-- How the pass goes on standing when what waits is written.
use Rattle.std.proofs.Common.{◌≡◌, ◌<◌, ◌≤◌, ◌+◌, ◌*◌, ◌-◌, ◌∙◌, ℕ, zero, suc, arith, ap, refl, length, length-append, List, [], ◌∷◌, ◌++◌, Option, None, Some}
use Rattle.std.specs.Prelude.{OnOk, Result, Ok, Err}
use Rattle.gier_text.specs.Passes.{Expected, HasLess}
use Rattle.gier_text.specs.View.{View}
use Rattle.std.proofs.lemmas.List.{get_or-set_same, append-nil}
use Rattle.std.proofs.lemmas.List.Elements.{All-append}
use Rattle.gier_symbol.specs.declared.symbol.Symbol.{Symbol}
use Rattle.gier_text.specs.Potential.{potential, potential_of, IsWithinPotential}
use Rattle.gier_text.specs.TablesModel.{TablesModel, with_at}
use Rattle.gier_text.specs.Lists.{TableList, list_at, no_list, cut_to}
use Rattle.gier_text.specs.Outbox.{outbox_symbols, outbox_symbols_until, if_any, symbol_at}
use Rattle.gier_pass6.specs.declared.pass.Pass6.{Pass6}
use Rattle.gier_pass6.specs.StateInvariants.{IsWritable, TablesInvariant, PreservesTables, most}
use Rattle.gier_pass6.specs.Invariant.{PassInvariant}
use Rattle.gier_pass6.proofs.ListChanges.{lists_at}

one_any : (o : Option Symbol) → length (if_any o) ≤ 1
one_any None = omega arith
one_any (Some s) = omega arith

until_few : (l : TableList) (n : ℕ) → length (outbox_symbols_until l n) ≤ n
until_few l zero = omega arith
until_few l (suc n) = omega (arith, until_few l n, one_any (symbol_at l n), length-append (outbox_symbols_until l n) (if_any (symbol_at l n)))

pub waiting_few : (l : TableList) → length (outbox_symbols l) ≤ l.count
waiting_few l = until_few l l.count

pub weight_append : (text : ℕ) (xs ys : List Symbol) → potential text (xs ++ ys) ≡ potential text xs + potential text ys
weight_append text [] ys = omega arith
weight_append text (x ∷ xs) ys = omega (arith, weight_append text xs ys)

weight_six : (xs : List Symbol) → potential 6 xs ≡ length xs
weight_six [] = refl
weight_six (x ∷ xs) = omega (arith, weight_six xs)

-- nothing waits
pub none_waits : (l : TableList) → l.count ≡ 0 → outbox_symbols l ≡ []
none_waits l none = ap (outbox_symbols_until l) none

pub ready_of : (pass : Pass6) (t : TablesModel) (read written : List Symbol) (more : ℕ) → PassInvariant pass t read written → pass.potential + more ≤ most pass.work.bytes → TablesInvariant pass.work.bytes (pass.work.potential_left + more) t
ready_of pass t read written more h fits = record {
  lists = h.lists;
  writable = rw (none_waits (list_at t.lists 0) h.empty) (λ k d below. absurd (omega arith));
  room = omega (arith, h.empty, h.spent, fits);
}

pub stands_more : (pass new : Pass6) (t u v : TablesModel) (read written : List Symbol) (s : Symbol) (more : ℕ) → PassInvariant pass t read written → more ≡ potential_of 5 s.tag → pass.potential + more ≤ most pass.work.bytes → PreservesTables pass.work.bytes (pass.work.potential_left + more) t new.work.bytes new.work.potential_left u → v ≡ with_at u 0 (cut_to (list_at u.lists 0) 0) → new.potential ≡ pass.potential + more → PassInvariant new v (read ++ s ∷ []) (written ++ outbox_symbols (list_at u.lists 0))
stands_more pass new t u v read written s more h weighs fits goes is grown =
    let l = list_at u.lists 0 in
    let here : (list_at v.lists 0).count ≡ 0 = ap (λ (k : TablesModel). (list_at k.lists 0).count) is ∙ ap (λ (x : TableList). x.count) (get_or-set_same u.lists 0 (cut_to l 0) no_list (omega (arith, goes.ready.lists.count))) in
    record {
      lists = rw is (lists_at new.work.bytes u 0 (cut_to l 0) goes.ready.lists refl refl);
      empty = here;
      weighed = omega (arith, grown, weighs, h.weighed, weight_append 5 read (s ∷ []));
      within = rw goes.same (omega (arith, grown, fits));
      spent = omega (arith, grown, h.spent, h.empty, goes.total, waiting_few l, length-append written (outbox_symbols l));
      writable = All-append (IsWritable new.work.bytes) written (outbox_symbols l) (rw goes.same h.writable) goes.ready.writable;
    }

-- what was written at the end
pub relates_end : (pass : Pass6) (bytes : ℕ) (t : TablesModel) (read written : List Symbol) → bytes ≡ pass.work.bytes → PassInvariant pass t read written → IsWithinPotential 6 bytes (written ++ outbox_symbols (list_at t.lists 0))
relates_end pass bytes t read written is h = rw (is, none_waits (list_at t.lists 0) h.empty, append-nil written) (record {
  letters = λ k d below. (h.writable k d below).letter;
  numbered = λ k d below. (h.writable k d below).numbered;
  light = omega (arith, weight_six written, h.spent, h.within);
})

-- a letter of a text that the pass is meant for isn't too heavy
pub not_heavier : (pass : Pass6) (t : TablesModel) (out : View) (s : Symbol) (more room : ℕ) → Expected (PassInvariant pass t) (IsWithinPotential 5 pass.work.bytes) out (s ∷ []) → more ≡ potential_of 5 s.tag → room ≡ 8 * pass.work.bytes + 64 → room - pass.potential < more → ⊥
not_heavier pass t out s more room e weighs is heavy =
    absurd (omega (arith, heavy, is, weighs, e.so_far.weighed, e.expected.light, weight_append 5 (e.read ++ s ∷ []) e.rest, weight_append 5 e.read (s ∷ [])))

-- what was written and what waits isn't more than was taken
pub within_most : (pass : Pass6) (t u : TablesModel) (read written : List Symbol) (count more new_bytes new_credit : ℕ) → PassInvariant pass t read written → pass.potential + more ≤ most pass.work.bytes → PreservesTables pass.work.bytes (pass.work.potential_left + more) t new_bytes new_credit u → count ≡ length written → count + length (outbox_symbols (list_at u.lists 0)) ≤ 8 * pass.work.bytes + 64
within_most pass t u read written count more new_bytes new_credit h fits goes counted = omega (arith, fits, h.spent, h.empty, goes.total, counted, waiting_few (list_at u.lists 0))

pub on_both : {T E P Q R : Type 0} (r : Result T E) → (P → Q → R) → OnOk r P → OnOk r Q → OnOk r R
on_both (Ok x) f p q = f p q
on_both (Err e) f p q = tt

pub less_most : (view : View) (most n : ℕ) → n ≤ most → HasLess view n → HasLess view most
less_most view most n le h = (h.0, h.1, omega (arith, le, h.2))
