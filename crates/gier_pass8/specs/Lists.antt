-- The lists of the pass.
use Rattle.std.specs.Prelude.{◌≡◌, ◌+◌, ◌*◌, ℕ, IsTrue, length}
use Rattle.gier_symbol.specs.declared.symbol.Symbol.{Symbol}
use Rattle.gier_symbol.specs.Symbols.{IsSymbol}
use Rattle.gier_symbol.specs.Texts.{stands_in}
use Rattle.gier_text.specs.TablesModel.{TablesModel}
use Rattle.gier_text.specs.Lists.{list_at}
use Rattle.gier_labels.specs.Labels.{HasLabels}

-- a symbol of text 8
pub record IsWritable (s : Symbol) : Type 0 where
  pub symbol : IsSymbol s
  pub letter : IsTrue (stands_in 8 s.tag)

-- the words of labels, and the needs
pub record HasLists (bytes : ℕ) (t : TablesModel) : Type 0 where
  pub count : length t.lists ≡ 2
  pub labels : HasLabels (20 * bytes + 64) t
  pub width : (list_at t.lists 1).width ≡ 1
  pub capacity : (list_at t.lists 1).capacity ≡ 20 * bytes + 64

pub record Keeps (bytes : ℕ) (old new : TablesModel) : Type 0 where
  pub lists : HasLists bytes new
  pub limit : new.limit ≡ old.limit
