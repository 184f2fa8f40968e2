use Rattle.std.proofs.Common.{length}
use Rattle.gier_sample.proofs.tests.bytes_of.Given as goal

abbrev pub decreases-loop-bytes : goal.decreases-loop-bytes
decreases-loop-bytes l = length l.source
