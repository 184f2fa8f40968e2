use Rattle.std.proofs.Common.{◌-◌, length, refl}
use Rattle.gier_io.proofs.mem_sink.MemSinkSink.put.Goals as goal

pub returns-clause-part : goal.returns-clause-part
returns-clause-part c =
    (c.self.inside.room - length c.self.inside.bytes.items, rw (← c.self.view_is, c.fault.ensures.after, c.append-2.ensures.items, c.len.ensures, c.self.inside.bytes.ok.0) refl)
