-- A small program whose first statement has a label, and whose second is a conditional statement: `again` has the number 0, and the
-- orders behind the test and behind the first part jump to labels of the code.
use Rattle.std.specs.Prelude.{◌≡◌, ◌+◌, [], ◌∷◌}
use Rattle.gier_tree.specs.Orders.{first_label}
use Rattle.gier_tree.specs.Text7.{code_program}
use Rattle.gier_tree.specs.Words.{words_in}
use Rattle.gier_fair.specs.Examples.{with, choosing}
use Rattle.gier_placed.specs.Fitting.{rooms_in, AllFit}
use Rattle.gier_placed.specs.Placed.{places_in, program_numbers}

pub record AreExamples : Type 0 where
  pub places : places_in (code_program (with choosing)) ≡ 0 ∷ first_label ∷ (first_label + 1) ∷ []
  pub declared : program_numbers (with choosing) ≡ 1
  pub rooms : rooms_in (code_program (with choosing)) ≡ 1
  pub words : words_in (code_program (with choosing)) ≡ 16
  pub fits : AllFit (code_program (with choosing)) (code_program (with choosing))
