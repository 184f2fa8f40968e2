use Rattle.std.proofs.Common.{◌≡◌, length}
use Rattle.gier_io.specs.Adapter.{WritesFront}
use Rattle.gier_io.proofs.std_sink.StdSinkSink.put.Given as goal

abbrev pub invariant-loop-rest : goal.invariant-loop-rest
invariant-loop-rest g l =
    WritesFront (g.W.Write.contents l.initial.self.inner) l.bytes l.rest (g.W.Write.contents l.self.inner) × (l.self.failed ≡ l.initial.self.failed)

abbrev pub decreases-loop-rest : goal.decreases-loop-rest
decreases-loop-rest g l = length l.rest
