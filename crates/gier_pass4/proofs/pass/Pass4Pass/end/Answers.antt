use Rattle.std.proofs.Common.{[], arith}
use Rattle.gier_text.specs.TablesModel.{tables_model}
use Rattle.gier_text.proofs.DriveLoop.{writes_none}
use Rattle.gier_pass4.proofs.InvariantSteps.{light_end, few_written}
use Rattle.gier_pass4.proofs.pass.Pass4Pass.end.Goals as goal

pub returns-clause-ok : goal.returns-clause-ok
returns-clause-ok g c = ([], writes_none (g.T.Text.view c.args._out.now c.args._store.now), λ read written stands. light_end c.args.self.now (tables_model c.args._tables.now) read written stands)

pub returns-clause-bounded : goal.returns-clause-bounded
returns-clause-bounded g c = λ expected. omega (arith, expected.counted, few_written c.args.self.now (tables_model c.args._tables.now) expected.read expected.written expected.so_far)
