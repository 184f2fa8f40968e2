-- How what a part of the machine finds by words of the object stands to a row of the order table. Such a part goes on with
-- what it found behind the words that it read, and so does the row; or the order stops, and so by the row.
use Rattle.std.specs.Prelude.{◌≡◌, ℕ, List, Result, Ok, Err}
use Rattle.gier_order.specs.declared.object.Object.{Object}
use Rattle.gier_order.specs.Flat.Row.{Regs, Row}
use Rattle.gier_exec.specs.Reading.{Stand}
use Rattle.gier_exec.specs.Rows.{behind, reading_row}
use Rattle.gier_exec.specs.References.{Refers, Begins, RefinesOrder, stop_step}
use Rattle.gier_exec.specs.declared.stop.Miss.{Miss}
use Rattle.gier_exec.specs.declared.stop.Miss.TheVariants.{Drum, Stop as Stopped}

-- The row reads these words, and goes on with what was found. Where the drum failed, the words that were read are the
-- first of the row's.
abbrev pub RefinesFinding : {A : Type 0} → Row → List ℕ → Regs → (A → Row) → Result A Miss → Type 0
RefinesFinding row refs regs go (Ok x) = row ≡ behind refs (go x)
RefinesFinding row refs regs go (Err (Stopped stop)) = row ≡ reading_row refs (stop_step regs stop)
RefinesFinding row refs regs go (Err Drum) = Begins refs row

-- the words that were read are those of the row
abbrev pub RefinesSearch : {A : Type 0} → Object → (old new : Stand) → Row → Regs → (A → Row) → Result A Miss → Type 0
RefinesSearch object old new row regs go result = (refs : List ℕ) × Refers object refs old new
    × RefinesFinding row refs regs go result

abbrev pub RefinesReading : Object → (old new : Stand) → Row → Regs → Result ℕ Miss → Type 0
RefinesReading object old new row regs result = (refs : List ℕ) × Refers object refs old new × RefinesOrder row refs regs result
