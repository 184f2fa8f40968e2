use Rattle.gier_sizes.proofs.AssembledSymbols.{assembled_few, numbers_small}
use Rattle.gier_sizes.proofs.ReadSymbols.{read_few}
use Rattle.gier_sizes.proofs.laws.law_symbols.Goals as goal

pub returns-clause-read : goal.returns-clause-read
returns-clause-read c = read_few

pub returns-clause-assembled : goal.returns-clause-assembled
returns-clause-assembled c = assembled_few

pub returns-clause-numbers : goal.returns-clause-numbers
returns-clause-numbers c = numbers_small
