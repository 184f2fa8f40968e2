-- What a `MemDrum` holds.
use Rattle.gier_drum.specs.declared.mem_drum.MemDrum.{MemDrum}
use Rattle.gier_drum.specs.Memory.{Memory}

abbrev pub memory_of : MemDrum → Memory
memory_of drum = record { tracks = drum.tracks; log = drum.journal }
