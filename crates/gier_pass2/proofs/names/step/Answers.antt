use Rattle.std.proofs.Common.{arith, subst, sym, ◌≡◌, ◌++◌, ◌∷◌, [], ℕ}
use Rattle.gier_symbol.specs.Assembly.{byte_of}
use Rattle.gier_text.specs.TablesModel.{tables_model}
use Rattle.gier_pass2.specs.Tree.{Names, IsChild, nodes_of}
use Rattle.gier_pass2.proofs.ChildTree.{names_added}
use Rattle.gier_pass2.proofs.names.step.Goals as goal

pub returns-clause-names : goal.returns-clause-names
returns-clause-names c = λ tree known names knows sign.
    let none : c.child-known.result ≡ 0 = omega (arith, c.if-known-ne-ROOT.false) in
    let child = subst (λ (n : ℕ). IsChild (nodes_of (tables_model c.args.tables.now)) tree c.args.node c.args.s n) none
    (c.child-known.ensures.found tree knows.fits) in
    subst (λ (n : ℕ). Names (tables_model c.add_child.new.tables) known names n (tree.name c.args.node ++ byte_of c.args.s ∷ []))
    (sym c.add_child.ensures.last)
    (names_added (tables_model c.args.tables.now) (tables_model c.add_child.new.tables) tree c.args.node c.args.s known names knows c.requires.node sign
    child c.add_child.ensures.added)
