use Rattle.std.proofs.Common.{◌≡◌, ◌-◌}
use Rattle.gier_library.specs.Data.{limit}
use Rattle.gier_library.specs.DataView.{source_of, stand_of}
use Rattle.gier_library.proofs.Numbers.{Holds}
use Rattle.gier_library.proofs.reading.in_integer.Given as goal

abbrev pub invariant-loop-byte : goal.invariant-loop-byte
invariant-loop-byte g l =
    (l.input.source.ghost_name ≡ l.initial.input.source.ghost_name)
    × Holds g.S.Source.faults (source_of l.initial.input) (source_of l.input) (stand_of g.S.Source.left l.initial.input) l.place (stand_of g.S.Source.left l.input)

abbrev pub decreases-loop-byte : goal.decreases-loop-byte
decreases-loop-byte g l = limit - l.input.given
