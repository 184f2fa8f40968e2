use Rattle.gier_job.proofs.mortem.put_mortem.Goals as goal

pub put_stop-requires-clause-all : goal.put_stop-requires-clause-all
put_stop-requires-clause-all g c at few live =
    rw c.find_lines.ensures.asked (c.asked_lines-lines.ensures.all at few (rw c.frames.ensures.value at live))
