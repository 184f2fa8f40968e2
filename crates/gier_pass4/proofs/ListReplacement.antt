-- The lists stay what they are when one of them is replaced.
use Rattle.std.proofs.Common.{◌<◌, ◌≡◌, ℕ, ◌+◌, ◌*◌, ◌≤◌, List, [], ◌∷◌, ◌++◌, length, refl, ap, sym, ◌∙◌, arith, inl, inr, length-append, length-set}
use Rattle.std.specs.Prelude.{◌≢◌}
use Rattle.std.proofs.lemmas.Bool.{cases_eq}
use Rattle.std.proofs.lemmas.List.{get_or-set_same, get_or-set_other, length-take-le}
use Rattle.std.proofs.lemmas.List.Elements.{All-append}
use Rattle.gier_symbol.specs.declared.symbol.Symbol.{Symbol}
use Rattle.gier_text.specs.Potential.{potential, potential_of}
use Rattle.gier_text.specs.TablesModel.{TablesModel, with_at}
use Rattle.gier_text.specs.Lists.{TableList, list_at, no_list, with_entry, cut_to}
use Rattle.gier_text.specs.Outbox.{outbox_symbols, outbox_symbols_until}
use Rattle.gier_pass4.specs.Lists.{IsLetter, IsQueue, IsTable, HasLists, room_of, potential_stored, Adds, Moves, Grows, Fills}
use Rattle.gier_pass4.proofs.Weights.{weight_append, until_weight, until_whole, until_all, waiting_cut}

pub same_at : (t : TablesModel) (i : ℕ) (x : TableList) → i < length t.lists → list_at (with_at t i x).lists i ≡ x
same_at t i x lt = get_or-set_same t.lists i x no_list lt

pub other_at : (t : TablesModel) (i j : ℕ) (x : TableList) → j ≢ i → list_at (with_at t i x).lists j ≡ list_at t.lists j
other_at t i j x ne = get_or-set_other t.lists i j x no_list ne

queue_at : (bytes : ℕ) (t : TablesModel) (i : ℕ) (x : TableList) (k : ℕ) → i < length t.lists → IsQueue bytes x (room_of bytes i) → IsQueue bytes (list_at t.lists k) (room_of bytes k) → IsQueue bytes (list_at (with_at t i x).lists k) (room_of bytes k)
queue_at bytes t i x k lt new old = elim (cases_eq k i) [
  | inl e ↦ rw (e, same_at t i x lt) new
  | inr ne ↦ rw (other_at t i k x ne) old
]

-- another list in place of one in which symbols wait
pub with_queue : (bytes : ℕ) (t : TablesModel) (i : ℕ) (x : TableList) → HasLists bytes t → i < 5 → IsQueue bytes x (room_of bytes i) → HasLists bytes (with_at t i x)
with_queue bytes t i x h lt is = record {
  number = length-set t.lists i x ∙ h.number;
  small = h.small;
  queues = λ k few. queue_at bytes t i x k (omega (arith, h.number)) is (h.queues k few);
  scopes = rw (other_at t i 5 x (λ e. omega arith)) h.scopes;
  specifications = rw (other_at t i 6 x (λ e. omega arith)) h.specifications;
  rows = rw (other_at t i 7 x (λ e. omega arith)) h.rows;
}

-- another list in place of that of scopes, specifications or rows
pub with_scopes : (bytes : ℕ) (t : TablesModel) (x : TableList) → HasLists bytes t → IsTable x 1 (bytes + 2) → HasLists bytes (with_at t 5 x)
with_scopes bytes t x h is = record {
  number = length-set t.lists 5 x ∙ h.number;
  small = h.small;
  queues = λ k few. rw (other_at t 5 k x (λ e. omega arith)) (h.queues k few);
  scopes = rw (same_at t 5 x (omega (arith, h.number))) is;
  specifications = rw (other_at t 5 6 x (λ e. omega arith)) h.specifications;
  rows = rw (other_at t 5 7 x (λ e. omega arith)) h.rows;
}

pub with_specifications : (bytes : ℕ) (t : TablesModel) (x : TableList) → HasLists bytes t → IsTable x 1 (bytes + 2) → HasLists bytes (with_at t 6 x)
with_specifications bytes t x h is = record {
  number = length-set t.lists 6 x ∙ h.number;
  small = h.small;
  queues = λ k few. rw (other_at t 6 k x (λ e. omega arith)) (h.queues k few);
  scopes = rw (other_at t 6 5 x (λ e. omega arith)) h.scopes;
  specifications = rw (same_at t 6 x (omega (arith, h.number))) is;
  rows = rw (other_at t 6 7 x (λ e. omega arith)) h.rows;
}

pub with_rows : (bytes : ℕ) (t : TablesModel) (x : TableList) → HasLists bytes t → IsTable x 3 (bytes + 64) → HasLists bytes (with_at t 7 x)
with_rows bytes t x h is = record {
  number = length-set t.lists 7 x ∙ h.number;
  small = h.small;
  queues = λ k few. rw (other_at t 7 k x (λ e. omega arith)) (h.queues k few);
  scopes = rw (other_at t 7 5 x (λ e. omega arith)) h.scopes;
  specifications = rw (other_at t 7 6 x (λ e. omega arith)) h.specifications;
  rows = rw (same_at t 7 x (omega (arith, h.number))) is;
}

same_load : (t : TablesModel) (i j : ℕ) (x : TableList) → j ≢ i → potential_stored (with_at t i x) j ≡ potential_stored t j
same_load t i j x ne = ap (λ (l : TableList). potential 4 (outbox_symbols l)) (other_at t i j x ne)

-- no symbol waits in the lists of scopes, specifications and rows
pub table_grows : (t u : TablesModel) (i : ℕ) (x : TableList) → 5 ≤ i → u ≡ with_at t i x → Grows t u 0 0 0 0 0
table_grows t u i x le e = rw e (record {
  out = omega (arith, same_load t i 0 x (λ e. omega arith));
  entries = omega (arith, same_load t i 1 x (λ e. omega arith));
  own_entries = omega (arith, same_load t i 2 x (λ e. omega arith));
  owns = omega (arith, same_load t i 3 x (λ e. omega arith));
  formals = omega (arith, same_load t i 4 x (λ e. omega arith));
  limit = refl;
})

pub no_grows : (t : TablesModel) → Grows t t 0 0 0 0 0
no_grows t = record { out = omega arith; entries = omega arith; own_entries = omega arith; owns = omega arith; formals = omega arith; limit = refl }

-- a queue with one more letter
pub queue_more : (bytes room : ℕ) (old new : TableList) (s : Symbol) → IsQueue bytes old room → new.width ≡ old.width → new.capacity ≡ old.capacity → new.count ≡ old.count + 1 → length new.words ≡ length old.words + 2 → outbox_symbols new ≡ outbox_symbols old ++ s ∷ [] → IsLetter bytes s → IsQueue bytes new room
queue_more bytes room old new s is width capacity count words waits letter = record {
  width = width ∙ is.width;
  capacity = capacity ∙ is.capacity;
  words = omega (arith, words, is.words, count);
  whole = rw waits (omega (arith, is.whole, count, length-append (outbox_symbols old) (s ∷ [])));
  letters = rw waits (All-append (IsLetter bytes) (outbox_symbols old) (s ∷ []) is.letters (λ k d lt. let none : k ≡ 0 = omega arith in rw none letter));
}

pub weight_more : (old new : TableList) (s : Symbol) → outbox_symbols new ≡ outbox_symbols old ++ s ∷ [] → potential 4 (outbox_symbols new) ≡ potential 4 (outbox_symbols old) + potential_of 4 s.tag
weight_more old new s waits = rw waits (omega (arith, weight_append 4 (outbox_symbols old) (s ∷ [])))

-- a queue of which the last letters are cut off
pub queue_cut : (bytes room : ℕ) (list : TableList) (n : ℕ) → IsQueue bytes list room → n ≤ list.count → IsQueue bytes (cut_to list n) room
queue_cut bytes room list n is le = record {
  width = is.width;
  capacity = is.capacity;
  words = let wide : list.width * n ≡ 2 * n = ap (λ (w : ℕ). w * n) is.width in rw wide (length-take-le (2 * n) list.words (omega (arith, is.words, le)));
  whole = rw (waiting_cut list n is.width) (until_whole list n list.count le is.whole);
  letters = rw (waiting_cut list n is.width) (until_all (IsLetter bytes) list n list.count le is.letters);
}

-- one more letter in a queue
pub put_lists : (bytes : ℕ) (t u : TablesModel) (i : ℕ) (code : List ℕ) (s : Symbol) → HasLists bytes t → i < 5 → length code ≡ 2 → u ≡ with_at t i (with_entry (list_at t.lists i) code) → outbox_symbols (list_at u.lists i) ≡ outbox_symbols (list_at t.lists i) ++ s ∷ [] → IsLetter bytes s → HasLists bytes u
put_lists bytes t u i code s h lt two e waits letter =
    let there : list_at u.lists i ≡ with_entry (list_at t.lists i) code = ap (λ (k : TablesModel). list_at k.lists i) e ∙ same_at t i (with_entry (list_at t.lists i) code) (omega (arith, h.number)) in
    let more : outbox_symbols (with_entry (list_at t.lists i) code) ≡ outbox_symbols (list_at t.lists i) ++ s ∷ [] = sym (ap outbox_symbols there) ∙ waits in
    rw e (with_queue bytes t i (with_entry (list_at t.lists i) code) h lt (queue_more bytes (room_of bytes i) (list_at t.lists i) (with_entry (list_at t.lists i) code) s (h.queues i lt) refl refl refl (omega (arith, two, length-append (list_at t.lists i).words code)) more letter))

pub put_adds : (t u : TablesModel) (i : ℕ) (x : TableList) (s : Symbol) → u ≡ with_at t i x → outbox_symbols (list_at u.lists i) ≡ outbox_symbols (list_at t.lists i) ++ s ∷ [] → Adds i (potential_of 4 s.tag) t u
put_adds t u i x s e waits = record {
  more = weight_more (list_at t.lists i) (list_at u.lists i) s waits;
  others = λ k ne. ap (λ (kept : TablesModel). list_at kept.lists k) e ∙ other_at t i k x ne;
  limit = ap (λ (kept : TablesModel). kept.limit) e;
}

same_weight : (i w k : ℕ) (t u : TablesModel) → Adds i w t u → k ≢ i → potential_stored u k ≡ potential_stored t k + 0
same_weight i w k t u adds ne = let e : potential_stored u k ≡ potential_stored t k = ap (λ (l : TableList). potential 4 (outbox_symbols l)) (adds.others k ne) in omega (arith, e)

pub grows_out : (t u : TablesModel) (w : ℕ) → Adds 0 w t u → Grows t u w 0 0 0 0
grows_out t u w adds = record { out = adds.more; entries = same_weight 0 w 1 t u adds (λ e. omega arith); own_entries = same_weight 0 w 2 t u adds (λ e. omega arith); owns = same_weight 0 w 3 t u adds (λ e. omega arith); formals = same_weight 0 w 4 t u adds (λ e. omega arith); limit = adds.limit }

pub grows_entry : (t u : TablesModel) (w : ℕ) → Adds 1 w t u → Grows t u 0 w 0 0 0
grows_entry t u w adds = record { out = same_weight 1 w 0 t u adds (λ e. omega arith); entries = adds.more; own_entries = same_weight 1 w 2 t u adds (λ e. omega arith); owns = same_weight 1 w 3 t u adds (λ e. omega arith); formals = same_weight 1 w 4 t u adds (λ e. omega arith); limit = adds.limit }

pub grows_own_entry : (t u : TablesModel) (w : ℕ) → Adds 2 w t u → Grows t u 0 0 w 0 0
grows_own_entry t u w adds = record { out = same_weight 2 w 0 t u adds (λ e. omega arith); entries = same_weight 2 w 1 t u adds (λ e. omega arith); own_entries = adds.more; owns = same_weight 2 w 3 t u adds (λ e. omega arith); formals = same_weight 2 w 4 t u adds (λ e. omega arith); limit = adds.limit }

pub grows_own : (t u : TablesModel) (w : ℕ) → Adds 3 w t u → Grows t u 0 0 0 w 0
grows_own t u w adds = record { out = same_weight 3 w 0 t u adds (λ e. omega arith); entries = same_weight 3 w 1 t u adds (λ e. omega arith); own_entries = same_weight 3 w 2 t u adds (λ e. omega arith); owns = adds.more; formals = same_weight 3 w 4 t u adds (λ e. omega arith); limit = adds.limit }

pub grows_formal : (t u : TablesModel) (w : ℕ) → Adds 4 w t u → Grows t u 0 0 0 0 w
grows_formal t u w adds = record { out = same_weight 4 w 0 t u adds (λ e. omega arith); entries = same_weight 4 w 1 t u adds (λ e. omega arith); own_entries = same_weight 4 w 2 t u adds (λ e. omega arith); owns = same_weight 4 w 3 t u adds (λ e. omega arith); formals = adds.more; limit = adds.limit }

-- what was put behind another list's symbols is cut off
pub cut_moves : (t u v : TablesModel) (from to base : ℕ) → from < length u.lists → from ≢ to → (list_at t.lists from).width ≡ 2 → list_at u.lists from ≡ list_at t.lists from → base ≤ (list_at t.lists from).count → potential_stored u to + potential 4 (outbox_symbols_until (list_at t.lists from) base) ≡ potential_stored t to + potential_stored t from → ((k : ℕ) → k ≢ to → potential_stored u k ≡ potential_stored t k) → u.limit ≡ t.limit → v ≡ with_at u from (cut_to (list_at u.lists from) base) → Moves from to base t v
cut_moves t u v from to base lt apart wide source le moved others limit e =
    let there : list_at v.lists from ≡ cut_to (list_at t.lists from) base = ap (λ (k : TablesModel). list_at k.lists from) e ∙ same_at u from (cut_to (list_at u.lists from) base) lt ∙ ap (λ (l : TableList). cut_to l base) source in
    let rest : potential_stored v from ≡ potential 4 (outbox_symbols_until (list_at t.lists from) base) = ap (λ (l : TableList). potential 4 (outbox_symbols l)) there ∙ ap (λ (xs : List Symbol). potential 4 xs) (waiting_cut (list_at t.lists from) base wide) in
    let kept_to : potential_stored v to ≡ potential_stored u to = ap (λ (k : TablesModel). potential_stored k to) e ∙ same_load u from to (cut_to (list_at u.lists from) base) (λ eq. apart (sym eq)) in
    record {
      both = omega (arith, rest, kept_to, moved);
      rest = ap outbox_symbols there ∙ waiting_cut (list_at t.lists from) base wide;
      less = omega (arith, rest, until_weight (list_at t.lists from) base (list_at t.lists from).count le);
      others = λ k not_from not_to. ap (λ (kk : TablesModel). potential_stored kk k) e ∙ same_load u from k (cut_to (list_at u.lists from) base) not_from ∙ others k not_to;
      limit = ap (λ (k : TablesModel). k.limit) e ∙ limit;
    }

-- one more entry in a list of scopes, specifications or rows
pub fills_more : (i : ℕ) (t u v : TablesModel) (entry : List ℕ) → i < length u.lists → Fills i t u → v ≡ with_at u i (with_entry (list_at u.lists i) entry) → Fills i t v
fills_more i t u v entry lt h e =
    let there : list_at v.lists i ≡ with_entry (list_at u.lists i) entry = ap (λ (k : TablesModel). list_at k.lists i) e ∙ same_at u i (with_entry (list_at u.lists i) entry) lt in
    record {
      number = ap (λ (k : TablesModel). length k.lists) e ∙ length-set u.lists i (with_entry (list_at u.lists i) entry) ∙ h.number;
      width = ap (λ (l : TableList). l.width) there ∙ h.width;
      capacity = ap (λ (l : TableList). l.capacity) there ∙ h.capacity;
      others = λ k ne. ap (λ (kk : TablesModel). list_at kk.lists k) e ∙ other_at u i k (with_entry (list_at u.lists i) entry) ne ∙ h.others k ne;
      limit = ap (λ (k : TablesModel). k.limit) e ∙ h.limit;
      faults = ap (λ (k : TablesModel). k.faults) e ∙ h.faults;
    }

pub pushed_count : (i : ℕ) (u v : TablesModel) (entry : List ℕ) → i < length u.lists → v ≡ with_at u i (with_entry (list_at u.lists i) entry) → (list_at v.lists i).count ≡ (list_at u.lists i).count + 1
pushed_count i u v entry lt e = ap (λ (k : TablesModel). (list_at k.lists i).count) e ∙ ap (λ (l : TableList). l.count) (same_at u i (with_entry (list_at u.lists i) entry) lt)
