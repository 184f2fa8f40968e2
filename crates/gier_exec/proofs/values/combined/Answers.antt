use Rattle.std.proofs.Common.{length, sym, Ok, Err, ◌∙◌}
use Rattle.gier_exec.specs.Rows.{regs_of}
use Rattle.gier_exec.proofs.RowResults.{combined_comes, combined_refused}
use Rattle.gier_exec.proofs.values.combined.Goals as goal

pub returns-in-Err-clause-row : goal.returns-in-Err-clause-row
returns-in-Err-clause-row c = λ code input entered lt l is.
    combined_refused code (length c.args.frames.now.words) (regs_of c.args.m.now c.args.frames.now input) c.args.operation l c.args.address c.in-Err.stop is lt
    (λ go. c.in-Err.ensures.row code input c.args.m.now go entered)

pub returns-in-Ok-combination-clause-row : goal.returns-in-Ok-combination-clause-row
returns-in-Ok-combination-clause-row c = λ code input entered lt l is.
    combined_comes code (length c.args.frames.now.words) (regs_of c.args.m.now c.args.frames.now input) c.args.operation l c.args.address c.in-Ok.word (Ok c.in-Ok-combination.word) is lt
    (λ go. c.in-Ok.ensures.row code input c.args.m.now go entered)
    (sym c.in-Ok-combination.is ∙ rw (sym c.r.ensures.value) (c.combination.ensures.value is))

pub returns-in-Err-combination-clause-row : goal.returns-in-Err-combination-clause-row
returns-in-Err-combination-clause-row c = λ code input entered lt l is.
    combined_comes code (length c.args.frames.now.words) (regs_of c.args.m.now c.args.frames.now input) c.args.operation l c.args.address c.in-Ok.word (Err c.in-Err-combination.alarm) is lt
    (λ go. c.in-Ok.ensures.row code input c.args.m.now go entered)
    (sym c.in-Err-combination.is ∙ rw (sym c.r.ensures.value) (c.combination.ensures.value is))
