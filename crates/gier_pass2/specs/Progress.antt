-- How far the pass has come in the definition of assembling.
use Rattle.std.specs.Prelude.{◌++◌, [], ℕ, List, Option}
use Rattle.gier_symbol.specs.declared.symbol.Symbol.{Symbol}
use Rattle.gier_symbol.specs.Assembly.{Lexeme, runs, pieces, standard_names}
use Rattle.gier_text.specs.TablesModel.{TablesModel}
use Rattle.gier_pass2.specs.declared.pass.Pass2.{Pass2}
use Rattle.gier_pass2.specs.declared.runs.AssembledToken.{AssembledToken}
use Rattle.gier_pass2.specs.declared.runs.Lexeme.TheVariants.{Nothing}
use Rattle.gier_pass2.specs.Grouping.{IsGrouped, Gives}
use Rattle.gier_pass2.specs.Reading.{IsCut, IsReading, names_of}

-- the run that was read has ended, and given its piece
pub record IsEndedRun (t : TablesModel) (known read : ℕ) (done : List Lexeme) (pending : List Symbol)
    (word : Option AssembledToken) : Type 0 where
  pub reading : IsReading t known Nothing read (done ++ runs pending 0) []
  pub gives : Gives word (pieces (runs pending 0) (names_of done))

-- of these runs those symbols are written
pub record IsDoing (pass : Pass2) (t : TablesModel) (done : List Lexeme) (pending written : List Symbol) : Type 0 where
  pub reading : IsReading t pass.known pass.run pass.read done pending
  pub grouped : IsGrouped pass.waiting (pieces done standard_names) written

-- these symbols were taken and those written
pub record Follows (pass : Pass2) (t : TablesModel) (read written : List Symbol) : Type 0 where
  pub done : List Lexeme
  pub pending : List Symbol
  pub cut : IsCut read done pending
  pub doing : IsDoing pass t done pending written
