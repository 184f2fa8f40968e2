use Rattle.std.proofs.Common.{◌≡◌, ◌++◌, ◌∙◌, codes, decimal}
use Rattle.gier_io.specs.View.{sink_view}
use Rattle.gier_io.proofs.Prints.{puts_behind, fails_before}
use Rattle.gier_text.specs.Faults.{text_of_fault}
use Rattle.gier_front.proofs.printing.print_located.Goals as goal

pub returns-in_err-put_both : goal.returns-in_err-put_both
returns-in_err-put_both g c =
    let view = sink_view g.K.Sink.holds g.K.Sink.faults in
    let digits : c.as_bytes.result.now ≡ decimal c.args.fault.line = c.as_bytes.ensures.value ∙ c.format.ensures.text in
    fails_before (codes "line " ++ decimal c.args.fault.line) ((codes " " ++ text_of_fault c.args.fault.kind) ++ codes "\n") (view c.args.out.now) (view c.put_both.new.out)
    c.in_err-put_both.field-0.0 c.from_residual.result c.from_residual.ensures.0 (rw digits at c.in_err-put_both.ensures)

pub returns-in_err-put_both-2 : goal.returns-in_err-put_both-2
returns-in_err-put_both-2 g c =
    let view = sink_view g.K.Sink.holds g.K.Sink.faults in
    let digits : c.as_bytes.result.now ≡ decimal c.args.fault.line = c.as_bytes.ensures.value ∙ c.format.ensures.text in
    let text : c.as_bytes-2.result.now ≡ text_of_fault c.args.fault.kind = c.as_bytes-2.ensures.value ∙ c.text.ensures in
    let first = rw digits at c.in_ok-put_both.ensures in
    let r = c.from_residual-in_err-put_both-2.result in
    let second = fails_before (codes " " ++ text_of_fault c.args.fault.kind) (codes "\n") (view c.put_both.new.out) (view c.put_both-2.new.out)
    c.in_err-put_both-2.field-0.0 r c.from_residual-in_err-put_both-2.ensures.0 (rw text at c.in_err-put_both-2.ensures) in
    puts_behind (codes "line " ++ decimal c.args.fault.line) ((codes " " ++ text_of_fault c.args.fault.kind) ++ codes "\n") (view c.args.out.now) (view c.put_both.new.out) (view c.put_both-2.new.out) r
    first.put first.cause.later second

pub returns : goal.returns
returns g c =
    let view = sink_view g.K.Sink.holds g.K.Sink.faults in
    let digits : c.as_bytes.result.now ≡ decimal c.args.fault.line = c.as_bytes.ensures.value ∙ c.format.ensures.text in
    let text : c.as_bytes-2.result.now ≡ text_of_fault c.args.fault.kind = c.as_bytes-2.ensures.value ∙ c.text.ensures in
    let first = rw digits at c.in_ok-put_both.ensures in
    let second = rw text at c.in_ok-put_both-2.ensures in
    puts_behind (codes "line " ++ decimal c.args.fault.line) ((codes " " ++ text_of_fault c.args.fault.kind) ++ codes "\n") (view c.args.out.now) (view c.put_both.new.out) (view c.put.new.self) c.put.result
    first.put first.cause.later
    (puts_behind (codes " " ++ text_of_fault c.args.fault.kind) (codes "\n") (view c.put_both.new.out) (view c.put_both-2.new.out) (view c.put.new.self) c.put.result
    second.put second.cause.later (record { put = c.put.ensures.put; part = c.put.ensures.part; cause = c.put.ensures.cause }))
