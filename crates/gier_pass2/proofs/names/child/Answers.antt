use Rattle.std.proofs.Common.{arith, ◌<◌, ◌≡◌, ◌∙◌, sym, true}
use Rattle.gier_text.specs.TablesModel.{tables_model}
use Rattle.gier_pass2.specs.Tree.{nodes_of, sign_at, is_same}
use Rattle.gier_pass2.proofs.ChildSearch.{search_fails, search_finds}
use Rattle.gier_pass2.proofs.names.child.Goals as goal

pub returns-else-not-is_at-clause-found : goal.returns-else-not-is_at-clause-found
returns-else-not-is_at-clause-found c = λ tree fits.
    let some : 0 < c.loop-at.at = omega (arith, c.loop-at-test.true) in
    let same : is_same (sign_at (nodes_of (tables_model c.args.tables.now)) c.loop-at.at) c.args.s ≡ true = sym c.is_at.ensures
    ∙ c.if-not-is_at.false in
    search_finds (nodes_of (tables_model c.args.tables.now)) tree c.args.node c.args.s c.loop-at.at some same
    (c.loop-at.invariant.searched tree fits)

pub returns-after-loop-at-clause-found : goal.returns-after-loop-at-clause-found
returns-after-loop-at-clause-found c = λ tree fits.
    let none : c.loop-at.at ≡ 0 = omega (arith, c.loop-at-test.false) in
    search_fails (nodes_of (tables_model c.args.tables.now)) tree c.args.node c.args.s c.loop-at.at none (c.loop-at.invariant.searched tree fits)
