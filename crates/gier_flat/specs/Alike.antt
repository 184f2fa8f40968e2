-- When the report of a flat run and what the meaning tells say the same of a run.
use Rattle.std.specs.Prelude.{◌≡◌, ⊤, ℕ, List, [], ◌∷◌, ◌++◌, Option, Some, None}
use Rattle.gier_symbol.specs.declared.symbol.Symbol.{Symbol}
use Rattle.gier_order.specs.Flat.Live as flat
use Rattle.gier_order.specs.Flat.Row as row
use Rattle.gier_order.specs.Flat.Run.{Report}
use Rattle.gier_tree.specs.Object.{piece_of, words_of}
use Rattle.gier_meaning.specs.Live.{Live, Shape, InProgram, InBlock, InProcedure, InEvaluation, Stop}
use Rattle.gier_meaning.specs.Outcome.{Why, Alarmed, NoStepLeft, Senseless}
use Rattle.gier_meaning.specs.Observation.{Ending, Ended, Stopped, Observation}
use Rattle.gier_tree.specs.Words.{words_in}

-- a stop of the meaning that has no sense is none of a run
abbrev pub IsStop : Why → row.Ending → Type 0
IsStop (Alarmed alarm) ending = ending ≡ row.Alarmed alarm
IsStop NoStepLeft ending = ending ≡ row.NoSteps
IsStop Senseless ending = ⊥

abbrev pub IsEnding : Ending → row.Ending → Type 0
IsEnding Ended ending = ending ≡ row.Ended
IsEnding (Stopped why) ending = IsStop why ending

module _ (text : List Symbol) where
  -- the word at an address was written on this line
  abbrev pub IsLine : (address line : ℕ) → Type 0
  IsLine address line =
      (before : List Symbol) × (s : Symbol) × (rest : List Symbol) × (before ++ s ∷ rest ≡ text)
      × (words_in before ≡ address) × (words_of (piece_of s) ≡ 1) × (s.line ≡ line)

  -- of a procedure and of an evaluation the order that entered it was written on that line
  abbrev pub IsShape : Shape → flat.Shape → (entered_by : ℕ) → Type 0
  IsShape InProgram shape by = shape ≡ flat.Program
  IsShape InBlock shape by = shape ≡ flat.Block
  IsShape (InProcedure line) shape by = (shape ≡ flat.Procedure) × IsLine by line
  IsShape (InEvaluation line) shape by = (shape ≡ flat.Evaluation) × IsLine by line

  -- live activations with the same words, in the same order
  abbrev pub AreAlike : Live → List flat.Live → Type 0
  AreAlike [] [] = ⊤
  AreAlike [] (f ∷ fs) = ⊥
  AreAlike (a ∷ more) [] = ⊥
  AreAlike (a ∷ more) (f ∷ fs) = IsShape a.shape f.shape f.entered_by × (f.words ≡ a.words) × AreAlike more fs

  -- where the meaning stops, the run does so at an order of that line, with those live activations
  abbrev pub IsStopOf : Report → Option Stop → Type 0
  IsStopOf report None = ⊤
  IsStopOf report (Some stop) = IsLine report.place stop.line × AreAlike stop.live report.live

  pub record TellsTheSame (report : Report) (told : Observation) : Type 0 where
    pub printed : report.printed ≡ told.printed
    pub ending : IsEnding told.ending report.ending
    pub steps : report.steps ≡ told.steps
    pub words : report.words ≡ told.words
    pub left : report.left ≡ told.unread
    pub stop : IsStopOf report told.stop
