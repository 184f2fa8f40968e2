use Rattle.gier_runner.proofs.Live.{live_is}
use Rattle.gier_runner.proofs.runner.Runner.frames.Goals as goal

-- src/runner.rt:170:5
pub returns-clause-live : goal.returns-clause-live
returns-clause-live c = λ rest. live_is c.args.self.now.machine c.args.self.now.frames rest
