use Rattle.gier_twice.proofs.ProgramsEqual.{programs_equal, places_equal}
use Rattle.gier_twice.proofs.SameScopes.{within_blocks, within_procedures, within_turns}
use Rattle.gier_twice.proofs.StatementNeeds.{evaluations_equal, blocks_equal, procedures_equal}
use Rattle.gier_twice.proofs.laws.law_same_rooms.Goals as goal

pub returns-clause-evaluations : goal.returns-clause-evaluations
returns-clause-evaluations c = evaluations_equal

pub returns-clause-blocks : goal.returns-clause-blocks
returns-clause-blocks c = blocks_equal

pub returns-clause-procedures : goal.returns-clause-procedures
returns-clause-procedures c = procedures_equal

pub returns-clause-within_blocks : goal.returns-clause-within_blocks
returns-clause-within_blocks c = within_blocks

pub returns-clause-within_procedures : goal.returns-clause-within_procedures
returns-clause-within_procedures c = within_procedures

pub returns-clause-within_turns : goal.returns-clause-within_turns
returns-clause-within_turns c = within_turns

pub returns-clause-programs : goal.returns-clause-programs
returns-clause-programs c = programs_equal

pub returns-clause-places : goal.returns-clause-places
returns-clause-places c = places_equal
