use Rattle.std.proofs.Common.{refl}
use Rattle.std.specs.Fmt.{digits}
use Rattle.gier_env.proofs.laws.law_environments.Goals as goal

pub returns-clause-where_it_is_declared : goal.returns-clause-where_it_is_declared
unfolding digits
returns-clause-where_it_is_declared c = refl

pub returns-clause-starts_at_zero : goal.returns-clause-starts_at_zero
unfolding digits
returns-clause-starts_at_zero c = refl

pub returns-clause-name_of_a_name : goal.returns-clause-name_of_a_name
unfolding digits
returns-clause-name_of_a_name c = refl

pub returns-clause-remembers_its_activation : goal.returns-clause-remembers_its_activation
unfolding digits
returns-clause-remembers_its_activation c = refl

pub returns-clause-another_kind : goal.returns-clause-another_kind
unfolding digits
returns-clause-another_kind c = refl

pub returns-clause-label_of_its_activation : goal.returns-clause-label_of_its_activation
unfolding digits
returns-clause-label_of_its_activation c = refl

pub returns-clause-labels_of_two_turns : goal.returns-clause-labels_of_two_turns
unfolding digits
returns-clause-labels_of_two_turns c = refl
