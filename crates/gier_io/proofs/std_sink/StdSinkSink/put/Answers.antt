use Rattle.std.proofs.Common.{rules}
use Rattle.gier_io.specs.Adapter.{writer_of, WritesPart}
use Rattle.gier_io.proofs.WritesJoined.{front_then, front_kept}
use Rattle.gier_io.proofs.std_sink.StdSinkSink.put.Goals as goal

pub returns-in_err-rest-clause-begun : goal.returns-in_err-rest-clause-begun
returns-in_err-rest-clause-begun g c =
    let part : WritesPart (g.W.Write.contents (writer_of c.args.self.now)) c.args.bytes.now (g.W.Write.contents (writer_of c.write_some.new.self)) = front_kept _ _ _ _ _ c.loop-rest.invariant.0 c.in_err-rest.ensures.kept in
    search (rules, part)

pub loop-rest-preserved : goal.loop-rest-preserved
loop-rest-preserved g c =
    (front_then _ _ _ _ _ _ c.loop-rest.invariant.0 c.in_ok-rest.ensures.written, search (rules, c.in_ok-rest.ensures.count, c.loop-rest.invariant.1))
