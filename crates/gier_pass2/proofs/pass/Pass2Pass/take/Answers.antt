use Rattle.std.proofs.Common.{subst, ◌++◌, ◌∷◌, [], arith, ap, length, ◌≤◌, ◌+◌, List}
use Rattle.gier_symbol.specs.declared.symbol.Symbol.{Symbol}
use Rattle.gier_text.specs.TablesModel.{tables_model}
use Rattle.gier_text.proofs.DriveLoop.{OnOk-map}
use Rattle.gier_pass2.specs.Invariant.{symbols_pending, PassInvariant}
use Rattle.gier_pass2.proofs.InvariantSteps.{stands_more}
use Rattle.gier_pass2.proofs.pass.Pass2Pass.take.Goals as goal

pub returns-clause-ok : goal.returns-clause-ok
returns-clause-ok g c =
    let ws = c.as_slice.result.now in
    let few : length ws + symbols_pending c.step-ready.new.self ≤ symbols_pending c.args.self.now + 1 = omega (arith, ap (λ (l : List Symbol). length l) c.as_slice.ensures.listed, c.step-ready.ensures.few) in
    OnOk-map c.write_all.result _ _ (λ wrote. (ws, wrote, λ read written stands. subst (λ (x : Symbol). PassInvariant c.step-ready.new.self (tables_model c.step-ready.new.tables) (read ++ x ∷ []) (written ++ ws)) c.symbol-symbol.ensures.value (stands_more c.args.self.now c.step-ready.new.self (tables_model c.args.tables.now) (tables_model c.step-ready.new.tables) read written ws c.symbol-symbol.result stands c.step-ready.ensures.stands c.step-ready.ensures.bytes c.step-ready.ensures.read few (rw c.step-ready.ensures.of_bytes at c.as_slice.ensures.writable) c.step-ready.ensures.inner (rw c.as_slice.ensures.listed c.step-ready.ensures.ends) (rw c.as_slice.ensures.listed c.step-ready.ensures.last) (λ follows spelled. rw c.as_slice.ensures.listed (c.step-ready.ensures.follows read written follows spelled))))) c.write_all.ensures.written
