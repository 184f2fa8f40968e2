-- What a change of the list of labels keeps.
use Rattle.std.proofs.Common.{◌≡◌, ◌≤◌, ◌∙◌, ℕ, arith, ap, refl, length}
use Rattle.std.proofs.lemmas.List.{get_or-set_same, get_or-set_other, length-set}
use Rattle.gier_text.specs.TablesModel.{TablesModel, with_at}
use Rattle.gier_text.specs.Lists.{TableList, list_at, no_list}
use Rattle.gier_labels.specs.Labels.{HasLabels, KeepsOthers}

pub changed : (t u : TablesModel) (new : TableList) → 1 ≤ length t.lists → u ≡ with_at t 0 new → list_at u.lists 0 ≡ new
changed t u new some same = rw same (get_or-set_same t.lists 0 new no_list (omega (arith, some)))

-- the list changes to one with the same room
pub labels_at : (room : ℕ) (t u : TablesModel) (new : TableList) → HasLabels room t → new.width ≡ 2 → new.capacity ≡ room → new.count ≤ room → u ≡ with_at t 0 new → HasLabels room u
labels_at room t u new h width capacity fits same =
    let at : list_at u.lists 0 ≡ new = changed t u new h.lists same in
    record {
      lists = rw same (omega (arith, length-set t.lists 0 new, h.lists));
      width = rw at width;
      capacity = rw at capacity;
      fits = rw at fits;
    }

pub others_at : (first t u : TablesModel) (new : TableList) → KeepsOthers first t → u ≡ with_at t 0 new → KeepsOthers first u
others_at first t u new h same = rw same (record {
  lists = length-set t.lists 0 new ∙ h.lists;
  others = λ j behind. get_or-set_other t.lists 0 j new no_list (λ e. omega arith) ∙ h.others j behind;
  used = h.used;
  limit = h.limit;
  faults = h.faults;
})

pub others_none : (t : TablesModel) → KeepsOthers t t
others_none t = record { lists = refl; others = λ j behind. refl; used = refl; limit = refl; faults = refl }

pub count_at : (t u : TablesModel) (new : TableList) → 1 ≤ length t.lists → u ≡ with_at t 0 new → (list_at u.lists 0).count ≡ new.count
count_at t u new some same = ap (λ (l : TableList). l.count) (changed t u new some same)
