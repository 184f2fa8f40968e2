-- What the std adapters are seen as, and what their calls do to the bytes of the reader and the writer within, where
-- std tells those.
use Rattle.std.specs.Prelude.{◌≡◌, ◌++◌, ℕ, List, [], ◌∷◌, take, Option, None, Some}
use Rattle.std.specs.Io.KnownBytes.{Appends, Consumes, Keeps, IsAtEnd}
use Rattle.gier_io.specs.declared.std_source.StdSource.{StdSource}
use Rattle.gier_io.specs.declared.std_sink.StdSink.{StdSink}

abbrev pub reader_of : {R : Type 0} → StdSource R → R
reader_of s = s.inner

abbrev pub source_faults : {R : Type 0} → StdSource R → ℕ
source_faults s = s.failed

abbrev pub writer_of : {W : Type 0} → StdSink W → W
writer_of s = s.inner

abbrev pub sink_faults : {W : Type 0} → StdSink W → ℕ
sink_faults s = s.failed

-- the reader lost this byte; None comes only where it had no byte left
abbrev pub ReadsByte : Option (List ℕ) → Option ℕ → Option (List ℕ) → Type 0
ReadsByte old None new = Keeps old new × IsAtEnd old
ReadsByte old (Some byte) new = Consumes old new (byte ∷ [])

-- the writer took all of these bytes but this rest at their end
abbrev pub WritesFront : Option (List ℕ) → List ℕ → List ℕ → Option (List ℕ) → Type 0
WritesFront old bytes rest new = (front : List ℕ) × (bytes ≡ front ++ rest) × Appends old new front

-- the writer took a prefix of the bytes
abbrev pub WritesPart : Option (List ℕ) → List ℕ → Option (List ℕ) → Type 0
WritesPart old bytes new = (n : ℕ) × Appends old new (take n bytes)
