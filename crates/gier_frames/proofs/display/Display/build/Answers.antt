use Rattle.std.proofs.Common.{rules, sym}
use Rattle.gier_frames.proofs.DisplayBuild.{step}
use Rattle.gier_frames.proofs.display.Display.build.Goals as goal

pub loop-base-preserved : goal.loop-base-preserved
loop-base-preserved c = (
  search rules,
  search rules,
  search rules,
  rw c.get-head.ensures.word (step c.loop-base.self c.note.new.self c.args.words.now.words c.args.base c.loop-base.base c.loop-base.invariant.3
      (search rules) (rw (sym c.get-head.ensures.word) c.note.ensures.by_level) c.note.ensures.lit c.note.ensures.kept (rw (sym c.get-head.ensures.word) (search rules))),
)
