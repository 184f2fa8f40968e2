use Rattle.std.proofs.Common.{map, take}
use Rattle.std.specs.String.{string_bytes}
use Rattle.gier_job.proofs.Reading.{IsRead}
use Rattle.gier_job.proofs.command.read_words.Given as goal

abbrev pub invariant-loop-word : goal.invariant-loop-word
invariant-loop-word l = IsRead l.check (take l.word-index (map string_bytes l.rest)) l.given.items
