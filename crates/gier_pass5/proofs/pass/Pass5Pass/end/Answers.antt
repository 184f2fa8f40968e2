use Rattle.std.proofs.Common.{[], arith}
use Rattle.gier_text.specs.TablesModel.{tables_model}
use Rattle.gier_text.proofs.DriveLoop.{writes_none}
use Rattle.gier_pass5.proofs.InvariantSteps.{relates_end, few_whole}
use Rattle.gier_pass5.proofs.pass.Pass5Pass.end.Goals as goal

pub returns-clause-ok : goal.returns-clause-ok
returns-clause-ok g c = ([], writes_none (g.T.Text.view c.args._out.now c.args._store.now), λ read written stands. relates_end c.args.self.now (tables_model c.args._tables.now) read written stands)

pub returns-clause-bounded : goal.returns-clause-bounded
returns-clause-bounded g c = λ expected. omega (arith, few_whole c.args.self.now (tables_model c.args._tables.now) expected.read expected.written expected.so_far, expected.counted)
