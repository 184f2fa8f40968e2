use Rattle.gier_tree.specs.Text7.{text7}
use Rattle.gier_pass9.proofs.Objects.{same_words}
use Rattle.gier_pass9.proofs.laws.law_objects.Goals as goal

pub returns : goal.returns
returns c = record { texts = same_words; programs = λ limit written. same_words limit (text7 written) }
