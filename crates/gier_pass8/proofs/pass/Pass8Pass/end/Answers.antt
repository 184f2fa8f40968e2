use Rattle.std.proofs.Common.{append-nil, subst, sym, [], List}
use Rattle.gier_symbol.specs.declared.symbol.Symbol.{Symbol}
use Rattle.gier_text.specs.TablesModel.{tables_model}
use Rattle.gier_text.proofs.DriveLoop.{writes_none}
use Rattle.gier_pass8.specs.Invariant.{Relates}
use Rattle.gier_pass8.proofs.InvariantSteps.{relates}
use Rattle.gier_pass8.proofs.pass.Pass8Pass.end.Goals as goal

pub returns-clause-ok : goal.returns-clause-ok
returns-clause-ok g c =
    let pass = c.args.self.now in (
      [],
      writes_none _,
      λ read written stands.
          subst (λ (list : List Symbol). Relates pass.work.bytes read list) (sym (append-nil written))
          (relates pass (tables_model c.args._tables.now) read written stands),
    )
