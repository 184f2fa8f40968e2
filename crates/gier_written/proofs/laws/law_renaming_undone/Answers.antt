use Rattle.std.proofs.Common.{refl}
use Rattle.gier_written.proofs.HoistedStatements.{same_statement}
use Rattle.gier_written.proofs.laws.law_renaming_undone.Goals as goal

pub returns : goal.returns
returns c = λ os f p q w v next s r k small h e t. same_statement os small f h p q w v w.owns refl e next s r t k
