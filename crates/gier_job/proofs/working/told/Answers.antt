use Rattle.std.proofs.Common.{◌≡◌}
use Rattle.gier_front.specs.declared.stop.FrontStop.TheVariants.{Errors as HasErrors}
use Rattle.gier_front.specs.Early.{early_faults}
use Rattle.gier_text.specs.TablesModel.{tables_model}
use Rattle.gier_job.proofs.Early.{puts_early, erring, ending_well}
use Rattle.gier_job.proofs.working.told.Goals as goal

pub returns-in-Ok-clause-early : goal.returns-in-Ok-clause-early
returns-in-Ok-clause-early g c = λ text finds. ending_well text c.args.found c.in-Ok.field-0 (tables_model c.args.tables.now).faults c.in-Ok.is finds

pub returns-in-Ok-print_errors-clause-early : goal.returns-in-Ok-print_errors-clause-early
returns-in-Ok-print_errors-clause-early g c = λ text finds.
    let faults = (tables_model c.args.tables.now).faults in
    let errors_are : c.in-Err-Errors.field-0 ≡ HasErrors = rw c.in-Err-Errors.is at c.in-Err-Errors.field-0-is in
    puts_early text faults (g.K.Sink.holds c.args.out.now) (g.K.Sink.holds c.print_errors.new.out)
    (erring c.args.found c.in-Err-Errors.field-0 (early_faults text) faults c.in-Err-Errors.is errors_are finds)
    c.in-Ok-print_errors.ensures.put
