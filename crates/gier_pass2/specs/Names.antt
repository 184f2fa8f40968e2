-- The tree of names in the lists of the tables.
use Rattle.std.specs.Prelude.{◌≡◌, ◌<◌, ◌≤◌, ℕ, length}
use Rattle.gier_text.specs.TablesModel.{TablesModel}
use Rattle.gier_text.specs.Lists.{list_at}

abbrev pub node_count : TablesModel → ℕ
node_count t = (list_at t.lists 0).count

-- the only list is that of the nodes, five words each, and there is a first one
pub record HasNodes (t : TablesModel) : Type 0 where
  pub lists : length t.lists ≡ 1
  pub width : (list_at t.lists 0).width ≡ 5
  pub root : 0 < node_count t

-- nothing changes but the nodes, and there are no fewer of them
pub record KeepsNodes (old new : TablesModel) : Type 0 where
  pub nodes : HasNodes new
  pub limit : new.limit ≡ old.limit
  pub faults : new.faults ≡ old.faults
  pub capacity : (list_at new.lists 0).capacity ≡ (list_at old.lists 0).capacity
  pub more : node_count old ≤ node_count new
