use Rattle.std.proofs.Common.{◌≡◌, ◌∙◌, ◌++◌, ◌∷◌, [], arith, subst, true}
use Rattle.gier_symbol.specs.declared.symbol.Symbol.{Symbol}
use Rattle.gier_text.specs.Potential.{potential_of}
use Rattle.gier_text.specs.TablesModel.{tables_model}
use Rattle.gier_text.specs.Lists.{list_at}
use Rattle.gier_text.specs.Outbox.{outbox_symbols}
use Rattle.gier_text.proofs.DriveLoop.{OnOk-map, writes_none}
use Rattle.gier_pass4.specs.Invariant.{PassInvariant}
use Rattle.gier_pass4.proofs.InvariantSteps.{OnOk-both, few_after, never_refused, stands_more, stands_written}
use Rattle.gier_pass4.proofs.pass.Pass4Pass.take.Goals as goal

pub returns-then-not-may_take-clause-sound : goal.returns-then-not-may_take-clause-sound
returns-then-not-may_take-clause-sound g c = λ expected.
    let yes : c.may_take.result ≡ true = c.may_take.ensures ∙ rw c.symbol-symbol.ensures.value (never_refused c.args.self.now (tables_model c.args.tables.now) (g.T.Text.view c.args.out.now c.args.store.now) c.args.s.symbol expected) in
    cc (yes, c.if-not-may_take.ensures)

pub returns-then-eq-clause-ok : goal.returns-then-eq-clause-ok
returns-then-eq-clause-ok g c =
    let works = rw c.potential_of.ensures.value at c.step.ensures in
    ([], writes_none (g.T.Text.view c.args.out.now c.args.store.now), λ read written stands. subst (λ (x : Symbol). PassInvariant c.step.new.self (tables_model c.step.new.tables) (read ++ x ∷ []) (written ++ [])) c.symbol-symbol.ensures.value (stands_more c.args.self.now c.step.new.self (tables_model c.args.tables.now) (tables_model c.step.new.tables) read written c.symbol-symbol.result stands works))

pub returns-then-eq-clause-bounded : goal.returns-then-eq-clause-bounded
returns-then-eq-clause-bounded g c = λ expected.
    let works = rw c.potential_of.ensures.value at c.step.ensures in
    omega (arith, expected.counted, few_after c.args.self.now c.step.new.self (tables_model c.args.tables.now) (tables_model c.step.new.tables) expected.read expected.written (potential_of 3 c.symbol-symbol.result.tag) expected.so_far works)

pub flush-requires-clause-width : goal.flush-requires-clause-width
flush-requires-clause-width g c = (c.step.ensures.ready.lists.queues 0 (omega arith)).width

pub returns-clause-ok : goal.returns-clause-ok
returns-clause-ok g c =
    let works = rw c.potential_of.ensures.value at c.step.ensures in
    let ws = outbox_symbols (list_at (tables_model c.step.new.tables).lists 0) in
    OnOk-both c.flush.result _ _ _ (λ wrote emptied. (ws, wrote, λ read written stands. subst (λ (x : Symbol). PassInvariant c.step.new.self (tables_model c.flush.new.tables) (read ++ x ∷ []) (written ++ ws)) c.symbol-symbol.ensures.value (stands_written c.args.self.now c.step.new.self (tables_model c.args.tables.now) (tables_model c.step.new.tables) (tables_model c.flush.new.tables) read written c.symbol-symbol.result stands works emptied))) c.flush.ensures.written c.flush.ensures.emptied

pub returns-clause-roomy : goal.returns-clause-roomy
returns-clause-roomy g c = λ expected full.
    let works = rw c.potential_of.ensures.value at c.step.ensures in
    let less = c.flush.ensures.roomy full in
    let few = few_after c.args.self.now c.step.new.self (tables_model c.args.tables.now) (tables_model c.step.new.tables) expected.read expected.written (potential_of 3 c.symbol-symbol.result.tag) expected.so_far works in
    (less.0, less.1, omega (arith, less.2, expected.counted, few))

pub returns-clause-bounded : goal.returns-clause-bounded
returns-clause-bounded g c = λ expected.
    let works = rw c.potential_of.ensures.value at c.step.ensures in
    let few = few_after c.args.self.now c.step.new.self (tables_model c.args.tables.now) (tables_model c.step.new.tables) expected.read expected.written (potential_of 3 c.symbol-symbol.result.tag) expected.so_far works in
    OnOk-map c.flush.result _ _ (λ wrote. omega (arith, wrote.count, expected.counted, few)) c.flush.ensures.written
