use Rattle.std.proofs.Common.{◌≤◌, vec_len}
use Rattle.gier_console.proofs.arguments.read_arguments.Given as goal

abbrev pub invariant-loop-i : goal.invariant-loop-i
invariant-loop-i g l = vec_len l.words ≤ l.i
