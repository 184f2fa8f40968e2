use Rattle.std.proofs.Common.{arith, ap, length, ◌≤◌, List}
use Rattle.gier_symbol.specs.declared.symbol.Symbol.{Symbol}
use Rattle.gier_text.specs.TablesModel.{tables_model}
use Rattle.gier_text.proofs.DriveLoop.{OnOk-map}
use Rattle.gier_pass2.specs.Invariant.{symbols_pending}
use Rattle.gier_pass2.proofs.InvariantSteps.{relates_end}
use Rattle.gier_pass2.proofs.pass.Pass2Pass.end.Goals as goal

pub returns-clause-ok : goal.returns-clause-ok
returns-clause-ok g c =
    let ws = c.as_slice.result.now in
    let few : length ws ≤ symbols_pending c.args.self.now = omega (arith, ap (λ (l : List Symbol). length l) c.as_slice.ensures.listed, c.rest-ready.ensures.few) in
    OnOk-map c.write_all.result _ _ (λ wrote. (ws, wrote, λ read written stands. relates_end c.args.self.now c.rest-ready.new.self (tables_model c.args.tables.now) (tables_model c.rest-ready.new.tables) read written ws stands c.rest-ready.ensures.bytes few (rw c.rest-ready.ensures.of_bytes at c.as_slice.ensures.writable) (rw c.as_slice.ensures.listed c.rest-ready.ensures.no_end) (λ follows. rw c.as_slice.ensures.listed (c.rest-ready.ensures.exact read written follows)))) c.write_all.ensures.written
