use Rattle.std.proofs.Common.{[], ◌++◌, ◌∷◌, subst, List, ℕ}
use Rattle.gier_symbol.specs.Assembly.{byte_of}
use Rattle.gier_text.specs.TablesModel.{tables_model}
use Rattle.gier_pass2.specs.Tree.{Names}
use Rattle.gier_pass2.proofs.names.first.Goals as goal

pub returns-clause-names : goal.returns-clause-names
returns-clause-names c = λ tree known names knows sign. subst
    (λ (root : List ℕ). Names (tables_model c.step.new.tables) known names c.step.result (root ++ byte_of c.args.s ∷ [])) knows.fits.root
    (c.step.ensures.names tree known names knows sign)
