-- The pass assembles: what it writes is what the definition gives, and so are the faults of its tables.
use Rattle.std.specs.Prelude.{◌≡◌, List, map}
use Rattle.gier_symbol.specs.declared.symbol.Symbol.{Symbol}
use Rattle.gier_symbol.specs.Assembly.{assembly}
use Rattle.gier_text.specs.Faults.{as_fault, without_position}
use Rattle.gier_text.specs.TablesModel.{TablesModel}

-- of these symbols those are assembled, and the tables have a fault for each number that is too large, in order, and no other
pub record IsExact (t : TablesModel) (read written : List Symbol) : Type 0 where
  pub symbols : written ≡ (assembly read).symbols
  pub faults : map without_position t.faults ≡ map as_fault (assembly read).faults
