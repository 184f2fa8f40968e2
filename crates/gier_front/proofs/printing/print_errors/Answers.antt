use Rattle.std.proofs.Common.{◌<◌, ◌++◌, arith, length, subst, add-one, take}
use Rattle.gier_io.specs.View.{sink_view, PutsOrFails}
use Rattle.gier_io.proofs.Prints.{puts_more, fails_behind}
use Rattle.gier_text.specs.declared.fault.Fault.{Fault}
use Rattle.gier_front.specs.Printed.{errors_text, fault_line}
use Rattle.gier_front.proofs.Errors.{take_more, part_of_all}
use Rattle.gier_front.proofs.printing.print_errors.Goals as goal

pub returns-in_err-print_fault : goal.returns-in_err-print_fault
returns-in_err-print_fault g c =
    let faults = c.args.tables.now.faults.items in
    let holds = g.K.Sink.holds in
    let view = sink_view g.K.Sink.holds g.K.Sink.faults in
    let lt : c.loop-at.at < length faults = omega (arith, c.loop-at-test.true, c.faults-at-end.ensures) in
    let line = rw c.fault.ensures at c.in_err-print_fault.ensures in
    fails_behind (errors_text faults) (view c.args.out.now) (view c.loop-at.out) (view c.print_fault.new.out) c.in_err-print_fault.field-0.0
    c.from_residual.result c.from_residual.ensures.0 c.loop-at.invariant.later
    (part_of_all faults c.loop-at.at c.fault.result (holds c.args.out.now) (holds c.loop-at.out) (holds c.print_fault.new.out) lt c.loop-at.invariant.put line.part)
    line.cause

pub loop-at-preserved : goal.loop-at-preserved
loop-at-preserved g c =
    let faults = c.args.tables.now.faults.items in
    let holds = g.K.Sink.holds in
    let lt : c.loop-at.at < length faults = omega (arith, c.loop-at-test.true, c.faults-at-end.ensures) in
    let line = rw c.fault.ensures at c.in_ok-print_fault.ensures in
    record {
      put = rw (add-one, take_more faults c.loop-at.at c.fault.result lt) (puts_more (holds c.args.out.now) (holds c.loop-at.out) (holds c.print_fault.new.out) (errors_text (take c.loop-at.at faults)) _ c.loop-at.invariant.put line.put);
      later = omega (arith, c.loop-at.invariant.later, line.cause.later);
    }
