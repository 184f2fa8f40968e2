-- How the pass goes on standing when a symbol was taken, and what holds at its end.
use Rattle.std.proofs.Common.{◌≡◌, ◌≤◌, ◌+◌, ◌*◌, ◌∙◌, ℕ, List, [], ◌∷◌, ◌++◌, arith, length, append_assoc, refl, ap, subst, Bool, true}
use Rattle.std.specs.Prelude.{IsTrue, ◌&&◌, nat_le, OnOk, Result, Ok, Err}
use Rattle.std.proofs.lemmas.List.{append-nil}
use Rattle.std.proofs.lemmas.List.Elements.{All-append}
use Rattle.std.proofs.lemmas.Bool.Decides.{nat_tests}
use Rattle.gier_symbol.specs.declared.symbol.Symbol.{Symbol}
use Rattle.gier_text.specs.Potential.{IsWithinPotential, is_numbered, potential, potential_of}
use Rattle.gier_text.specs.TablesModel.{TablesModel, with_at}
use Rattle.gier_text.specs.Lists.{list_at, cut_to}
use Rattle.gier_text.specs.Outbox.{outbox_symbols}
use Rattle.gier_text.specs.Passes.{Expected}
use Rattle.gier_text.specs.View.{View}
use Rattle.gier_pass4.specs.declared.pass.Pass4.{Pass4}
use Rattle.gier_pass4.specs.Lists.{HasLists, IsLetter, potential_stored, room_of}
use Rattle.gier_pass4.specs.Invariant.{StateInvariant, PreservesState, PassInvariant, potential_held}
use Rattle.gier_pass4.proofs.Weights.{weight_append, length_weight, All-last}
use Rattle.gier_pass4.proofs.ListReplacement.{with_queue, queue_cut, same_at, other_at}

pub light_end : (pass : Pass4) (t : TablesModel) (read written : List Symbol) → PassInvariant pass t read written → IsWithinPotential 4 pass.lists.bytes (written ++ [])
light_end pass t read written h = rw append-nil (record {
  letters = λ k d lt. (h.letters k d lt).letter;
  numbered = λ k d lt. (h.letters k d lt).numbered;
  light = omega (arith, h.light, h.ready.few);
})

pub few_written : (pass : Pass4) (t : TablesModel) (read written : List Symbol) → PassInvariant pass t read written → length written + potential_stored t 0 ≤ 8 * pass.lists.bytes + 64
few_written pass t read written h = omega (arith, length_weight written, h.light, h.ready.few)

-- a symbol was taken and is to be worked off
pub ready_more : (pass new : Pass4) (t : TablesModel) (w : ℕ) → StateInvariant pass t 0 → new ≡ record pass { taken = pass.taken + w } → pass.taken + w ≤ 8 * pass.lists.bytes + 64 → StateInvariant new t w
ready_more pass new t w h e few = rw e (record {
  lists = h.lists;
  fields = record { frame = h.fields.frame; owned = h.fields.owned; procedure = h.fields.procedure };
  few = few;
  light = omega (arith, h.light);
  entries = omega (arith, h.entries);
  own_entries = omega (arith, h.own_entries);
  formals = omega (arith, h.formals);
})

pub stands_more : (pass new : Pass4) (t u : TablesModel) (read written : List Symbol) (s : Symbol) → PassInvariant pass t read written → PreservesState (potential_of 3 s.tag) (record pass { taken = pass.taken + potential_of 3 s.tag }) t new u → PassInvariant new u (read ++ s ∷ []) (written ++ [])
stands_more pass new t u read written s h works = rw append-nil (record {
  taken = omega (arith, works.taken, h.taken, weight_append 3 read (s ∷ []));
  ready = works.ready;
  light = omega (arith, works.light, works.taken, h.light);
  letters = rw works.bytes h.letters;
})

held_cut : (pass : Pass4) (u v : TablesModel) → HasLists pass.lists.bytes u → v ≡ with_at u 0 (cut_to (list_at u.lists 0) 0) → potential_held pass v + potential_stored u 0 ≡ potential_held pass u
held_cut pass u v lists e =
    let none : potential_stored v 0 ≡ 0 = ap (λ (k : TablesModel). potential_stored k 0) e ∙ ap (λ l. potential 4 (outbox_symbols l)) (same_at u 0 (cut_to (list_at u.lists 0) 0) (omega (arith, lists.number))) in
    let one : potential_stored v 1 ≡ potential_stored u 1 = ap (λ (k : TablesModel). potential_stored k 1) e ∙ ap (λ l. potential 4 (outbox_symbols l)) (other_at u 0 1 (cut_to (list_at u.lists 0) 0) (λ e. omega arith)) in
    let two : potential_stored v 2 ≡ potential_stored u 2 = ap (λ (k : TablesModel). potential_stored k 2) e ∙ ap (λ l. potential 4 (outbox_symbols l)) (other_at u 0 2 (cut_to (list_at u.lists 0) 0) (λ e. omega arith)) in
    let three : potential_stored v 3 ≡ potential_stored u 3 = ap (λ (k : TablesModel). potential_stored k 3) e ∙ ap (λ l. potential 4 (outbox_symbols l)) (other_at u 0 3 (cut_to (list_at u.lists 0) 0) (λ e. omega arith)) in
    let four : potential_stored v 4 ≡ potential_stored u 4 = ap (λ (k : TablesModel). potential_stored k 4) e ∙ ap (λ l. potential 4 (outbox_symbols l)) (other_at u 0 4 (cut_to (list_at u.lists 0) 0) (λ e. omega arith)) in
    omega (arith, none, one, two, three, four)

ready_cut : (pass : Pass4) (u v : TablesModel) → StateInvariant pass u 0 → v ≡ with_at u 0 (cut_to (list_at u.lists 0) 0) → StateInvariant pass v 0
ready_cut pass u v h e =
    let one : potential_stored v 1 ≡ potential_stored u 1 = ap (λ (k : TablesModel). potential_stored k 1) e ∙ ap (λ l. potential 4 (outbox_symbols l)) (other_at u 0 1 (cut_to (list_at u.lists 0) 0) (λ e. omega arith)) in
    let two : potential_stored v 2 ≡ potential_stored u 2 = ap (λ (k : TablesModel). potential_stored k 2) e ∙ ap (λ l. potential 4 (outbox_symbols l)) (other_at u 0 2 (cut_to (list_at u.lists 0) 0) (λ e. omega arith)) in
    let four : potential_stored v 4 ≡ potential_stored u 4 = ap (λ (k : TablesModel). potential_stored k 4) e ∙ ap (λ l. potential 4 (outbox_symbols l)) (other_at u 0 4 (cut_to (list_at u.lists 0) 0) (λ e. omega arith)) in
    record {
      lists = rw e (with_queue pass.lists.bytes u 0 (cut_to (list_at u.lists 0) 0) h.lists (omega arith) (queue_cut pass.lists.bytes (room_of pass.lists.bytes 0) (list_at u.lists 0) 0 (h.lists.queues 0 (omega arith)) (omega arith)));
      fields = h.fields;
      few = h.few;
      light = omega (arith, h.light, held_cut pass u v h.lists e);
      entries = omega (arith, h.entries, one, four);
      own_entries = omega (arith, h.own_entries, two);
      formals = omega (arith, h.formals, four);
    }

pub stands_written : (pass new : Pass4) (t u v : TablesModel) (read written : List Symbol) (s : Symbol) → PassInvariant pass t read written → PreservesState (potential_of 3 s.tag) (record pass { taken = pass.taken + potential_of 3 s.tag }) t new u → v ≡ with_at u 0 (cut_to (list_at u.lists 0) 0) → PassInvariant new v (read ++ s ∷ []) (written ++ outbox_symbols (list_at u.lists 0))
stands_written pass new t u v read written s h works e = record {
  taken = omega (arith, works.taken, h.taken, weight_append 3 read (s ∷ []));
  ready = ready_cut new u v works.ready e;
  light = omega (arith, works.light, works.taken, h.light, held_cut new u v works.ready.lists e, weight_append 4 written (outbox_symbols (list_at u.lists 0)));
  letters = All-append (IsLetter new.lists.bytes) written (outbox_symbols (list_at u.lists 0)) (rw works.bytes h.letters) (works.ready.lists.queues 0 (omega arith)).letters;
}

-- a list with this symbol that the pass is meant for is light enough, and the symbol has a small number
pub light_next : (bytes : ℕ) (read rest : List Symbol) (s : Symbol) → IsWithinPotential 3 bytes (read ++ s ∷ rest) → potential 3 read + potential_of 3 s.tag ≤ 8 * bytes + 64
light_next bytes read rest s h = omega (arith, h.light, weight_append 3 read (s ∷ rest))

pub numbered_next : (bytes : ℕ) (read rest : List Symbol) (s : Symbol) → IsWithinPotential 3 bytes (read ++ s ∷ rest) → IsTrue (is_numbered 3 bytes s)
numbered_next bytes read rest s h = All-last (λ x. IsTrue (is_numbered 3 bytes x)) read s rest h.numbered

-- the test of a symbol refuses none of a list that the pass is meant for
le_true : (m n : ℕ) → m ≤ n → nat_le m n ≡ true
le_true m n h = grind (arith, nat_tests)

both_true : (a b : Bool) → a ≡ true → b ≡ true → (a && b) ≡ true
both_true a b h k = rw (h, k) refl

pub never_refused : (pass : Pass4) (t : TablesModel) (view : View) (s : Symbol) → Expected (PassInvariant pass t) (IsWithinPotential 3 pass.lists.bytes) view (s ∷ []) → (nat_le (pass.taken + potential_of 3 s.tag) (8 * pass.lists.bytes + 64) && is_numbered 3 pass.lists.bytes s) ≡ true
never_refused pass t view s e =
    let expected : IsWithinPotential 3 pass.lists.bytes (e.read ++ s ∷ e.rest) = subst (λ (xs : List Symbol). IsWithinPotential 3 pass.lists.bytes xs) (append_assoc e.read (s ∷ []) e.rest) e.expected in
    both_true (nat_le (pass.taken + potential_of 3 s.tag) (8 * pass.lists.bytes + 64)) (is_numbered 3 pass.lists.bytes s)
    (le_true (pass.taken + potential_of 3 s.tag) (8 * pass.lists.bytes + 64) (omega (arith, e.so_far.taken, light_next pass.lists.bytes e.read e.rest s expected)))
    (numbered_next pass.lists.bytes e.read e.rest s expected)

pub few_after : (pass new : Pass4) (t u : TablesModel) (read written : List Symbol) (w : ℕ) → PassInvariant pass t read written → PreservesState w (record pass { taken = pass.taken + w }) t new u → length written + length (outbox_symbols (list_at u.lists 0)) ≤ 8 * pass.lists.bytes + 64
few_after pass new t u read written w h works =
    omega (arith, length_weight written, length_weight (outbox_symbols (list_at u.lists 0)), h.light, works.light, works.taken, works.bytes, works.ready.few)

pub OnOk-both : {X E : Type 0} (r : Result X E) (A B C : Type 0) → (A → B → C) → OnOk r A → OnOk r B → OnOk r C
OnOk-both (Ok x) A B C f a b = f a b
OnOk-both (Err e) A B C f a b = tt
