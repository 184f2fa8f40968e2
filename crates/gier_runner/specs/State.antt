-- What a runner holds: its settings, and what the last run left.
use Rattle.std.specs.Prelude.{◌≡◌, ◌-◌, ◌≤◌, ℕ, [], length}
use Rattle.gier_frames.specs.State.{State as Frames, fresh as no_frames}
use Rattle.gier_places.specs.Contents.{Contents, StandsFor as Places}
use Rattle.gier_order.specs.Counts.{Counts, StandsFor as Counted, references_taken}
use Rattle.gier_best.specs.TraceModel.{Traced, HasNoted, AreTracks}
use Rattle.gier_exec.specs.Registers.{Registers, first_registers}
use Rattle.gier_runner.specs.declared.settings.Settings.{Settings}
use Rattle.gier_runner.specs.declared.settings.Report.{Report}

pub record State : Type 0 where
  pub settings : Settings
  pub machine : Registers
  pub frames : Frames
  pub places : Contents
  pub recent : Counts
  pub trace : Traced

-- the steps charged, the tracks read, and the greatest number of words in use
abbrev pub report_of : State → Report
report_of s = record { steps = s.settings.steps - s.machine.steps; transfers = s.places.transfers; words = s.frames.greatest }

-- the settings are kept
pub record Agrees (s : State) : Type 0 where
  pub steps : s.machine.steps ≤ s.settings.steps
  pub stack : length s.frames.words ≡ s.settings.stack
  pub places : s.places.places ≡ s.settings.places

-- nothing was obeyed yet, and nothing is left of an earlier run
pub record Begun (given : Settings) (start : ℕ) (s : State) : Type 0 where
  pub settings : s.settings ≡ given
  pub machine : s.machine ≡ first_registers start given.steps
  pub frames : s.frames ≡ no_frames given.stack
  pub places : s.places.places ≡ given.places
  pub empty : Places s.places []
  pub unread : s.places.transfers ≡ 0
  pub counted : Counted s.recent []
  pub none : references_taken s.recent ≡ 0
  pub noted : HasNoted s.trace []
  pub tracks : AreTracks s.trace
