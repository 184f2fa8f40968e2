-- What the three devices are for a caller, and which of them an answer may name.
use Rattle.std.specs.Prelude.{◌≡◌, ◌≤◌, ℕ, List, Option, Result, IfErr, IsErrOf}
use Rattle.gier_word.specs.Cause.{HasRisen}
use Rattle.gier_io.specs.View.{SourceView, source_view, SinkView, sink_view}
use Rattle.gier_drum.specs.declared.drum.Entry.{Entry}
use Rattle.gier_drum.specs.View.{DrumView, drum_view, KeepsDrum}
use Rattle.gier_text.specs.View.{KeepsTracks}
use Rattle.gier_limits.specs.Areas.{first_of, object_first}
use Rattle.gier_job.specs.Status.{IsStop}
use Rattle.gier_job.specs.declared.status.Status.{Status}
use Rattle.gier_job.specs.declared.status.Status.TheVariants.{Tape, Printer, Drum}

pub record Devices : Type 0 where
  pub tape : SourceView
  pub printer : SinkView
  pub drum : DrumView

abbrev pub devices : {S K D : Type 0} → (S → Option (List ℕ)) → (S → ℕ) → (K → Option (List ℕ)) → (K → ℕ)
    → (D → ℕ) → (D → Option (List (List ℕ))) → (D → Option (List Entry)) → (D → ℕ) → S → K → D → Devices
devices left tape_faults held printer_faults room tracks journal drum_faults tape printer drum = record {
  tape = source_view left tape_faults tape;
  printer = sink_view held printer_faults printer;
  drum = drum_view room tracks journal drum_faults drum;
}

-- A device is named only where it failed in this call, and no count of faults falls.
pub record NamesFailed (status : Status) (old new : Devices) : Type 0 where
  pub tape_fault : status ≡ Tape → HasRisen old.tape.faults new.tape.faults
  pub printer_fault : status ≡ Printer → HasRisen old.printer.faults new.printer.faults
  pub drum_fault : status ≡ Drum → HasRisen old.drum.faults new.drum.faults
  pub tape_later : old.tape.faults ≤ new.tape.faults
  pub printer_later : old.printer.faults ≤ new.printer.faults
  pub drum_later : old.drum.faults ≤ new.drum.faults

-- What is printed behind a run stops for the printer or the drum where that failed in this call, or because the drum is spoilt.
-- Tracks change only where text 7 lies.
pub record StopsBehind {T : Type 0} (result : Result T Status) (printer printer_now : SinkView) (old new : DrumView) : Type 0 where
  pub stop : IfErr result IsStop
  pub printer_fault : IsErrOf result Printer → HasRisen printer.faults printer_now.faults
  pub drum_fault : IsErrOf result Drum → HasRisen old.faults new.faults
  pub printer_later : printer.faults ≤ printer_now.faults
  pub keeps : KeepsDrum (KeepsTracks (first_of 7) object_first) old new
