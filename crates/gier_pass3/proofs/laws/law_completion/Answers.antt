use Rattle.gier_pass3.proofs.Faults.{fault_is, fault_found, none_in, completes, program_in}
use Rattle.gier_pass3.proofs.Spelled.{written_spelled}
use Rattle.gier_pass3.proofs.laws.law_completion.Goals as goal

pub returns : goal.returns
returns c = record { fault = fault_is; only = fault_found; none = none_in; completion = completes; program = program_in; spelled = written_spelled }
