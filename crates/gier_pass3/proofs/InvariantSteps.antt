-- How the pass goes on standing when symbols are written, and how many they are.
use Rattle.std.proofs.Common.{◌≡◌, ◌≤◌, ◌+◌, ◌*◌, ◌∙◌, ℕ, List, [], ◌∷◌, ◌++◌, arith, ap, length, length-append, refl, subst, Bool, true, false, get_or}
use Rattle.std.specs.Prelude.{All, IsTrue, not, OnOk, Result, Ok, Err}
use Rattle.std.proofs.lemmas.List.{get_or-set_same, get_or-set_other, get_or_append_left, length-set}
use Rattle.std.proofs.lemmas.List.Elements.{All-append}
use Rattle.gier_symbol.specs.declared.symbol.Symbol.{Symbol}
use Rattle.gier_text.specs.Potential.{potential, is_numbered, IsWithinPotential}
use Rattle.gier_text.specs.TablesModel.{TablesModel, with_at}
use Rattle.gier_text.specs.Lists.{no_list, cut_to}
use Rattle.gier_text.specs.Outbox.{outbox_symbols}
use Rattle.gier_text.specs.Passes.{HasLess}
use Rattle.gier_text.specs.View.{View}
use Rattle.gier_pass3.specs.declared.pass.Pass3.{Pass3}
use Rattle.gier_pass3.specs.Lists.{credit_in}
use Rattle.gier_pass3.specs.Lists.{ListsInvariant, stack_in, lookahead_in, ready_in, ready_by}
use Rattle.gier_pass3.specs.Grammar.{StackInvariant}
use Rattle.gier_pass3.specs.Found.{IsBare, faults_of, FaultInvariant, Follows}
use Rattle.gier_pass3.specs.Invariant.{IsFit, StateInvariant, SymbolInvariant, PreservesInvariant, PassInvariant, Relates, total_potential, stops}
use Rattle.gier_pass3.specs.Refinement.{RefinesMeet}
use Rattle.gier_tree.specs.Signs.{sign_of, sign_tag}
use Rattle.gier_pass3.proofs.Written.{writes_more, items_of, whole_text}
use Rattle.gier_pass3.proofs.GrammarSteps.{found_kept, found_more, found_whole}
use Rattle.gier_pass3.proofs.Potentials.{weight_append, length_weight, no_fit}

pub less_more : (text : View) (m n : ℕ) → HasLess text m → m ≤ n → HasLess text n
less_more text m n less le = (less.0, less.1, omega (arith, less.2, le))

pub both_ok : {T E : Type 0} (r : Result T E) (P Q R : Type 0) → (P → Q → R) → OnOk r P → OnOk r Q → OnOk r R
both_ok (Ok x) P Q R f p q = f p q
both_ok (Err e) P Q R f p q = tt

-- the list of symbols that are ready, emptied
abbrev emptied : TablesModel → TablesModel
emptied u = with_at u 2 (cut_to (ready_in u) 0)

ready_after : (u : TablesModel) → ListsInvariant u → ready_in (emptied u) ≡ cut_to (ready_in u) 0
ready_after u h = get_or-set_same u.lists 2 (cut_to (ready_in u) 0) no_list (omega (arith, h.lists))

stack_after : (u : TablesModel) → ListsInvariant u → stack_in (emptied u) ≡ stack_in u
stack_after u h = get_or-set_other u.lists 2 0 (cut_to (ready_in u) 0) no_list (λ e. absurd (omega (arith, e)))

held_after : (u : TablesModel) → ListsInvariant u → lookahead_in (emptied u) ≡ lookahead_in u
held_after u h = get_or-set_other u.lists 2 1 (cut_to (ready_in u) 0) no_list (λ e. absurd (omega (arith, e)))

none_after : (u : TablesModel) → ListsInvariant u → ready_by (emptied u) ≡ []
none_after u h = ap outbox_symbols (ready_after u h)

lists_after : (u : TablesModel) → ListsInvariant u → ListsInvariant (emptied u)
lists_after u h = record {
  lists = length-set u.lists 2 (cut_to (ready_in u) 0) ∙ h.lists;
  stack = ap (λ l. l.width) (stack_after u h) ∙ h.stack;
  lookahead = ap (λ l. l.width) (held_after u h) ∙ h.lookahead;
  ready = ap (λ l. l.width) (ready_after u h) ∙ h.ready;
  all_lookahead = rw (held_after u h) h.all_lookahead;
  all_ready = rw (ready_after u h) refl;
}

holds_after : (pass : Pass3) (u : TablesModel) → StateInvariant pass u → StateInvariant pass (emptied u)
holds_after pass u h = record {
  lists = lists_after u h.lists;
  stack_room = ap (λ l. l.capacity) (stack_after u h.lists) ∙ h.stack_room;
  lookahead_room = ap (λ l. l.capacity) (held_after u h.lists) ∙ h.lookahead_room;
  ready_room = ap (λ l. l.capacity) (ready_after u h.lists) ∙ h.ready_room;
  lookahead = rw (held_after u h.lists) h.lookahead;
  ready = rw (none_after u h.lists) (no_fit pass.bytes);
  name = h.name;
  line = h.line;
}

is_ready_after : (pass : Pass3) (u : TablesModel) → SymbolInvariant pass u → SymbolInvariant pass (emptied u)
is_ready_after pass u h = record {
  holds = holds_after pass u h.holds;
  few = h.few;
  deep = omega (arith, ap (λ l. l.count) (stack_after u h.holds.lists), h.deep);
  within = h.within;
  limit = h.limit;
  small = h.small;
  owned = h.owned;
}

load_after : (pass : Pass3) (u : TablesModel) → ListsInvariant u → total_potential pass (emptied u) + potential 3 (ready_by u) ≡ total_potential pass u
load_after pass u h = omega (arith, ap credit_in (stack_after u h), ap (λ l. potential 3 (outbox_symbols l)) (held_after u h), ap (λ l. potential 3 l) (none_after u h))

same_fit : (old new : ℕ) (list : List Symbol) → new ≡ old → All (IsFit 3 old) list → All (IsFit 3 new) list
same_fit old new list e h = rw e h

middle : (read rest : List Symbol) (s : Symbol) → get_or (read ++ (s ∷ []) ++ rest) (length read) s ≡ s
middle [] rest s = refl
middle (x ∷ read) rest s = middle read rest s

-- the symbols before the last one, and the last one
bare_before : (read : List Symbol) (s : Symbol) → All IsBare (read ++ s ∷ []) → All IsBare read
bare_before read s all = λ k d lt. subst IsBare (get_or_append_left read (s ∷ []) d k lt) (all k d (omega (arith, lt, length-append read (s ∷ []))))

last_of : (read : List Symbol) (s : Symbol) → get_or (read ++ s ∷ []) (length read) s ≡ s
last_of [] s = refl
last_of (x ∷ read) s = last_of read s

bare_last : (read : List Symbol) (s : Symbol) → All IsBare (read ++ s ∷ []) → IsBare s
bare_last read s all = subst IsBare (last_of read s) (all (length read) s (omega (arith, length-append read (s ∷ []))))

-- what is known of the fault when a symbol was taken
pub record FaultStep (pass new : Pass3) (t u : TablesModel) (s : Symbol) : Type 0 where
  pub stays : pass.stopped ≡ true → (new.stopped ≡ true) × (u.faults ≡ t.faults)
  pub told : pass.stopped ≡ false → u.faults ≡ faults_of new.stopped pass.read s.line
  pub follows : pass.stopped ≡ false → IsBare s → StackInvariant t → Follows new.stopped s t u
  pub silent : pass.stopped ≡ true → ready_by u ≡ ready_by t
  pub wrote : pass.stopped ≡ false → IsBare s → StackInvariant t → RefinesMeet (sign_tag (sign_of s)) s pass t new u

found_after : (pass new : Pass3) (t u : TablesModel) (read : List Symbol) (s : Symbol) → pass.read ≡ length read → ListsInvariant u → FaultStep pass new t u s → (All IsBare read → FaultInvariant pass.stopped t read) → All IsBare (read ++ s ∷ []) → FaultInvariant new.stopped (emptied u) (read ++ s ∷ [])
found_after pass new t u read s taken lists sees found bare =
    let told = λ (going : pass.stopped ≡ false). sees.told going ∙ ap (λ n. faults_of new.stopped n s.line) taken in
    found_kept new.stopped u (emptied u) (read ++ s ∷ []) (stack_after u lists) refl (found_more pass.stopped new.stopped t u read s (found (bare_before read s bare)) sees.stays told (λ going. sees.follows going (bare_last read s bare)))

pub stands_more : (pass new : Pass3) (t u : TablesModel) (read written : List Symbol) (s : Symbol) → PassInvariant pass t read written → PreservesInvariant pass new t u → FaultStep pass new t u s → PassInvariant new (emptied u) (read ++ s ∷ []) (written ++ ready_by u)
stands_more pass new t u read written s h steps sees = record {
  ready = is_ready_after new u steps.ready;
  none_ready = none_after u steps.ready.holds.lists;
  taken = omega (arith, steps.read, h.taken, length-append read (s ∷ []));
  letters = All-append (IsFit 3 new.bytes) written (ready_by u) (same_fit pass.bytes new.bytes written steps.bytes h.letters) steps.ready.holds.ready;
  light = omega (arith, h.light, steps.total_potential, load_after new u steps.ready.holds.lists, weight_append written (ready_by u), length-append read (s ∷ []));
  found = found_after pass new t u read s h.taken steps.ready.holds.lists sees h.found;
  writes = λ bare. writes_more pass new t u (emptied u) read written s h.none_ready sees.silent (λ (e : pass.stopped ≡ true). (sees.stays e).0) (λ going. sees.wrote going (bare_last read s bare)) (λ going. items_of pass.stopped t read (h.found (bare_before read s bare)) going) (stack_after u steps.ready.holds.lists) (held_after u steps.ready.holds.lists) (h.writes (bare_before read s bare));
}

pub few_more : (pass new : Pass3) (t u : TablesModel) (read written : List Symbol) → PassInvariant pass t read written → PreservesInvariant pass new t u → pass.read ≤ pass.bytes → length written + length (ready_by u) ≤ 8 * pass.bytes + 10
few_more pass new t u read written h steps more = omega (arith, h.light, h.taken, steps.total_potential, length_weight written, length_weight (ready_by u), more)

pub numbered_at : (bytes : ℕ) (read rest : List Symbol) (s : Symbol) → All (λ s. IsTrue (is_numbered 2 bytes s)) (read ++ (s ∷ []) ++ rest) → IsTrue (is_numbered 2 bytes s)
numbered_at bytes read rest s all = subst (λ x. IsTrue (is_numbered 2 bytes x)) (middle read rest s) (all (length read) s (omega (arith, length-append (read ++ (s ∷ [])) rest, length-append read (s ∷ []))))

pub refuted : (r n : Bool) → r ≡ not n → r ≡ true → n ≡ true → ⊥
refuted r true e is well = grind arith
refuted r false e is well = grind arith

at_most_one : (stopped : Bool) → stops stopped ≤ 1
at_most_one true = omega arith
at_most_one false = omega arith

all_light : (pass : Pass3) (t : TablesModel) (read written : List Symbol) → PassInvariant pass t read written → IsWithinPotential 3 pass.bytes (written ++ ready_by t)
all_light pass t read written h =
    let fit = All-append (IsFit 3 pass.bytes) written (ready_by t) h.letters h.ready.holds.ready in
    record {
      letters = λ k d lt. (fit k d lt).letter;
      numbered = λ k d lt. (fit k d lt).numbered;
      light = omega (arith, h.light, h.taken, h.ready.within, weight_append written (ready_by t));
    }

pub relates_whole : (pass : Pass3) (t : TablesModel) (read written : List Symbol) → PassInvariant pass t read written → Relates pass (emptied t) read (written ++ ready_by t)
relates_whole pass t read written h = record {
  light = all_light pass t read written h;
  few = omega (arith, h.ready.few, at_most_one pass.stopped);
  found = λ bare. found_whole pass.stopped t read (h.found bare);
  text = λ bare program spelled. whole_text pass t read written program h.none_ready (h.writes bare) spelled;
}
