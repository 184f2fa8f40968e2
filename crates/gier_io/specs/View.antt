-- What a source and a sink are for a caller, and what a call that prints does to a sink.
use Rattle.std.specs.Prelude.{◌≡◌, ◌≤◌, ℕ, List, Option, Result, OnOk, OnErr}
use Rattle.gier_word.specs.Cause.{HasCause}
use Rattle.gier_io.specs.Device.{Puts, PutsPart}

-- the bytes that are left, where they are told, and how often it has failed
pub record SourceView : Type 0 where
  pub left : Option (List ℕ)
  pub faults : ℕ

abbrev pub source_view : {S : Type 0} → (S → Option (List ℕ)) → (S → ℕ) → S → SourceView
source_view left faults source = record { left = left source; faults = faults source }

-- the bytes that it holds, where they are told, and how often it has failed
pub record SinkView : Type 0 where
  pub held : Option (List ℕ)
  pub faults : ℕ

abbrev pub sink_view : {K : Type 0} → (K → Option (List ℕ)) → (K → ℕ) → K → SinkView
sink_view held faults sink = record { held = held sink; faults = faults sink }

-- All the bytes were put; or the call failed, a prefix of them was put, and the count of faults rose. The count never falls.
pub record PutsOrFails {T E : Type 0} (bytes : List ℕ) (old new : SinkView) (result : Result T E) : Type 0 where
  pub put : OnOk result (Puts old.held bytes new.held)
  pub part : OnErr result (PutsPart old.held bytes new.held)
  pub cause : HasCause old.faults new.faults result
