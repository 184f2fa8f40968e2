-- What `Data` is seen as.
use Rattle.std.specs.Prelude.{ℕ, Bool, List, Option}
use Rattle.gier_library.specs.Data.{Stand}
use Rattle.gier_library.specs.declared.data.Data.{Data}

-- the source within
abbrev pub source_of : {S : Type 0} → Data S → S
source_of input = input.source.now

-- how many bytes the source gave to the data
abbrev pub bytes_given : {S : Type 0} → Data S → ℕ
bytes_given input = input.given

-- whether the data have ended: from the first None of the source on, or from the limit on
abbrev pub has_ended : {S : Type 0} → Data S → Bool
has_ended input = input.ended

abbrev pub stand_of : {S : Type 0} → (S → Option (List ℕ)) → Data S → Stand
stand_of left input = record { left = left input.source.now; given = input.given; ended = input.ended }
