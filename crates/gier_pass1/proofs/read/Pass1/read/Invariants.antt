use Rattle.std.proofs.Common.{◌-◌}
use Rattle.gier_pass1.specs.Program.{longest}
use Rattle.gier_pass1.proofs.ScanInvariant.{IsReading}
use Rattle.gier_pass1.proofs.read.Pass1.read.Given as goal

abbrev pub invariant-bytes : goal.invariant-bytes
invariant-bytes g l = IsReading g.T.Text.view g.T.Text.first_track g.T.Text.end_track g.T.Text.room g.T.Text.tracks g.T.Text.journal g.T.Text.faults (g.S.Source.left l.initial.tape) (g.S.Source.left l.tape) (g.S.Source.faults l.initial.tape) (g.S.Source.faults l.tape) l.scanner l.initial.out l.initial.store l.initial.tables l.out l.store l.tables

abbrev pub decreases-bytes : goal.decreases-bytes
decreases-bytes g l = longest - l.scanner.state.here.at
