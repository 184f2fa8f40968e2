use Rattle.std.proofs.Common.{rules}
use Rattle.gier_frames.proofs.DisplayBuild.{stays_shown}
use Rattle.gier_frames.proofs.display.Display.write.Goals as goal

pub returns-else-rests_on-clause-shows : goal.returns-else-rests_on-clause-shows
returns-else-rests_on-clause-shows c =
    rw c.set.ensures.written (stays_shown c.args.self.now c.args.words.now.words c.args.base c.args.place c.args.word c.requires.shown (search rules))
