-- What a change of one list keeps.
use Rattle.std.proofs.Common.{◌≡◌, ◌<◌, ◌+◌, ◌-◌, ◌∙◌, ℕ, zero, suc, arith, ap, refl, List, [], ◌∷◌, ◌++◌, set}
use Rattle.std.specs.Prelude.{All}
use Rattle.std.proofs.lemmas.List.{get_or-set_same, length-set}
use Rattle.std.proofs.lemmas.List.Elements.{All-append}
use Rattle.gier_symbol.specs.declared.symbol.Symbol.{Symbol}
use Rattle.gier_symbol.specs.Symbols.{code_of}
use Rattle.gier_text.specs.TablesModel.{TablesModel, with_at}
use Rattle.gier_text.specs.Lists.{TableList, list_at, no_list, with_entry}
use Rattle.gier_text.specs.Outbox.{outbox_symbols}
use Rattle.gier_pass6.specs.StateInvariants.{IsList, HasLists, IsWritable, TablesInvariant, PreservesTables}

set_shape : (xs : List TableList) (k j : ℕ) (new : TableList) (w n : ℕ) → new.width ≡ (list_at xs k).width → new.capacity ≡ (list_at xs k).capacity → IsList w n (list_at xs j) → IsList w n (list_at (set xs k new) j)
set_shape [] k j new w n a b h = h
set_shape (x ∷ xs) zero zero new w n a b h = record { width = a ∙ h.width; capacity = b ∙ h.capacity }
set_shape (x ∷ xs) zero (suc j) new w n a b h = h
set_shape (x ∷ xs) (suc k) zero new w n a b h = h
set_shape (x ∷ xs) (suc k) (suc j) new w n a b h = set_shape xs k j new w n a b h

pub lists_at : (bytes : ℕ) (t : TablesModel) (k : ℕ) (new : TableList) → HasLists bytes t → new.width ≡ (list_at t.lists k).width → new.capacity ≡ (list_at t.lists k).capacity → HasLists bytes (with_at t k new)
lists_at bytes t k new h a b = record {
  count = length-set t.lists k new ∙ h.count;
  outbox = set_shape t.lists k 0 new _ _ a b h.outbox;
  stack = set_shape t.lists k 1 new _ _ a b h.stack;
  names = set_shape t.lists k 2 new _ _ a b h.names;
  numbered = set_shape t.lists k 3 new _ _ a b h.numbered;
  descriptions = set_shape t.lists k 4 new _ _ a b h.descriptions;
  within = h.within;
  small = h.small;
}

one : (bytes : ℕ) (s : Symbol) → IsWritable bytes s → All (IsWritable bytes) (s ∷ [])
one bytes s is = λ k d below. let none_before : k ≡ 0 = omega arith in rw none_before is

-- one more symbol waits
pub put_goes : (bytes potential_left : ℕ) (t u : TablesModel) (s : Symbol) → TablesInvariant bytes potential_left t → IsWritable bytes s → 0 < potential_left → u ≡ with_at t 0 (with_entry (list_at t.lists 0) (code_of s)) → outbox_symbols (list_at u.lists 0) ≡ outbox_symbols (list_at t.lists 0) ++ s ∷ [] → PreservesTables bytes potential_left t bytes (potential_left - 1) u
put_goes bytes potential_left t u s ready writable some is waits =
    let l = list_at t.lists 0 in
    let new = with_entry l (code_of s) in
    let here : (list_at u.lists 0).count ≡ l.count + 1 = ap (λ (k : TablesModel). (list_at k.lists 0).count) is ∙ ap (λ (x : TableList). x.count) (get_or-set_same t.lists 0 new no_list (omega (arith, ready.lists.count))) in
    record {
      same = refl;
      ready = record {
        lists = rw is (lists_at bytes t 0 new ready.lists refl refl);
        writable = rw waits (All-append (IsWritable bytes) (outbox_symbols l) (s ∷ []) ready.writable (one bytes s writable));
        room = omega (arith, here, ready.room);
      };
      total = omega (arith, here);
      limit = ap (λ (k : TablesModel). k.limit) is;
    }
