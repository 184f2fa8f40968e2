use Rattle.gier_exec.proofs.FrameReads.{read_found, read_refused}
use Rattle.gier_exec.proofs.frame.read.Goals as goal

pub returns-in-Ok-clause-found : goal.returns-in-Ok-clause-found
returns-in-Ok-clause-found c = λ entered. read_found c.args.frames.now c.args.place c.in-Ok.word c.in-Ok.ensures.refused c.in-Ok.ensures.word

pub returns-in-Err-clause-found : goal.returns-in-Err-clause-found
returns-in-Err-clause-found c = λ entered. rw c.from.ensures (read_refused c.args.frames.now c.args.place c.in-Err.halt c.in-Err.ensures.refused entered)
