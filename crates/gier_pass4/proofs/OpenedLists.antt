-- The lists after they were opened and filled.
use Rattle.std.proofs.Common.{◌<◌, ◌≡◌, ℕ, zero, suc, ◌+◌, ◌*◌, ◌≤◌, List, length, refl, ap, ◌∙◌, arith}
use Rattle.gier_text.specs.Potential.{potential}
use Rattle.gier_text.specs.TablesModel.{TablesModel}
use Rattle.gier_text.specs.Lists.{TableList, list_at}
use Rattle.gier_text.specs.Outbox.{outbox_symbols}
use Rattle.gier_pass4.specs.Lists.{IsQueue, HasLists, room_of, potential_stored, Fills, lists_when_opened, empty_list}

empty_queue : (bytes room : ℕ) → IsQueue bytes (empty_list 2 room) room
empty_queue bytes room = record { width = refl; capacity = refl; words = refl; whole = refl; letters = λ k d lt. absurd (omega arith) }

opened_queue : (bytes k : ℕ) → k < 5 → IsQueue bytes (list_at (lists_when_opened bytes) k) (room_of bytes k)
opened_queue bytes zero lt = empty_queue bytes (8 * bytes + 64)
opened_queue bytes (suc zero) lt = empty_queue bytes (6 * bytes + 48)
opened_queue bytes (suc (suc zero)) lt = empty_queue bytes (4 * bytes + 32)
opened_queue bytes (suc (suc (suc zero))) lt = empty_queue bytes (8 * bytes + 64)
opened_queue bytes (suc (suc (suc (suc zero)))) lt = empty_queue bytes (2 * bytes + 16)
opened_queue bytes (suc (suc (suc (suc (suc k))))) lt = absurd (omega arith)

filled : (bytes : ℕ) (t u : TablesModel) (k : ℕ) → t.lists ≡ lists_when_opened bytes → Fills 7 t u → k < 7 → list_at u.lists k ≡ list_at (lists_when_opened bytes) k
filled bytes t u k is rows lt = rows.others k (λ e. omega arith) ∙ ap (λ (ls : List TableList). list_at ls k) is

pub opened_lists : (bytes : ℕ) (t u : TablesModel) → bytes ≤ 524288 → t.lists ≡ lists_when_opened bytes → Fills 7 t u → HasLists bytes u
opened_lists bytes t u small is rows =
    let rows_before : list_at t.lists 7 ≡ empty_list 3 (bytes + 64) = ap (λ (ls : List TableList). list_at ls 7) is in
    record {
      number = rows.number ∙ ap (λ (ls : List TableList). length ls) is;
      small = small;
      queues = λ k lt. rw (filled bytes t u k is rows (omega arith)) (opened_queue bytes k lt);
      scopes = rw (filled bytes t u 5 is rows (omega arith)) (record { width = refl; capacity = refl });
      specifications = rw (filled bytes t u 6 is rows (omega arith)) (record { width = refl; capacity = refl });
      rows = record { width = rows.width ∙ ap (λ (l : TableList). l.width) rows_before; capacity = rows.capacity ∙ ap (λ (l : TableList). l.capacity) rows_before };
    }

none : (bytes k : ℕ) → k < 5 → potential 4 (outbox_symbols (list_at (lists_when_opened bytes) k)) ≡ 0
none bytes zero lt = refl
none bytes (suc zero) lt = refl
none bytes (suc (suc zero)) lt = refl
none bytes (suc (suc (suc zero))) lt = refl
none bytes (suc (suc (suc (suc zero)))) lt = refl
none bytes (suc (suc (suc (suc (suc k))))) lt = absurd (omega arith)

pub opened_load : (bytes : ℕ) (t u : TablesModel) (k : ℕ) → t.lists ≡ lists_when_opened bytes → Fills 7 t u → k < 5 → potential_stored u k ≡ 0
opened_load bytes t u k is rows lt = ap (λ (l : TableList). potential 4 (outbox_symbols l)) (filled bytes t u k is rows (omega arith)) ∙ none bytes k lt
