use Rattle.gier_twice.proofs.PartsEqual.{labels_equal, program_labels_equal}
use Rattle.gier_twice.proofs.laws.law_same_labels.Goals as goal

pub returns-clause-statements : goal.returns-clause-statements
returns-clause-statements c = labels_equal

pub returns-clause-programs : goal.returns-clause-programs
returns-clause-programs c = program_labels_equal
