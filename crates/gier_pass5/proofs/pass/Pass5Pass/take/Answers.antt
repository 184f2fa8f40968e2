use Rattle.std.proofs.Common.{◌≤◌, ◌+◌, ◌*◌, ◌∙◌, ◌++◌, ◌∷◌, [], Result, Ok, Err, OnOk, arith, ap, subst, length}
use Rattle.gier_symbol.specs.declared.symbol.Symbol.{Symbol}
use Rattle.gier_text.specs.Potential.{potential_of}
use Rattle.gier_text.specs.TablesModel.{tables_model}
use Rattle.gier_text.specs.Outbox.{outbox_symbols}
use Rattle.gier_text.proofs.DriveLoop.{OnOk-map}
use Rattle.gier_pass5.specs.Lists.{out_of}
use Rattle.gier_pass5.specs.Invariant.{PassInvariant}
use Rattle.gier_pass5.proofs.InvariantSteps.{stands_more, fits_in, few_written, less_more}
use Rattle.gier_pass5.proofs.pass.Pass5Pass.take.Goals as goal

both : {T E : Type 0} (r : Result T E) (P Q R : Type 0) → (P → Q → R) → OnOk r P → OnOk r Q → OnOk r R
both (Ok x) P Q R f p q = f p q
both (Err e) P Q R f p q = tt

pub returns-then-self-potential_of-clause-sound : goal.returns-then-self-potential_of-clause-sound
returns-then-self-potential_of-clause-sound g c = λ expected.
    let fits = fits_in c.args.self.now (tables_model c.args.tables.now) expected.read expected.written expected.rest c.args.s.symbol expected.so_far expected.expected in
    omega (arith, fits, c.if-self-potential_of.true, c.potential_of.ensures, c.greatest.ensures, ap (λ (x : Symbol). potential_of 4 x.tag) c.symbol-symbol.ensures.value)

pub returns-clause-ok : goal.returns-clause-ok
returns-clause-ok g c =
    let old = tables_model c.args.tables.now in
    let after = tables_model c.step.new.tables in
    let new = tables_model c.flush.new.tables in
    let ws = outbox_symbols (out_of after) in
    both c.flush.result _ _ _ (λ wrote emptied. (ws, wrote, λ read written stands. subst (λ (x : Symbol). PassInvariant c.step.new.self new (read ++ x ∷ []) (written ++ ws)) c.symbol-symbol.ensures.value (stands_more c.args.self.now c.step.new.self old after new read written c.symbol-symbol.result stands c.step.ensures emptied))) c.flush.ensures.written c.flush.ensures.emptied

pub returns-clause-roomy : goal.returns-clause-roomy
returns-clause-roomy g c = λ expected full.
    let fits : c.args.self.now.taken + potential_of 4 c.symbol-symbol.result.tag ≤ 8 * c.args.self.now.bytes + 64 = omega (arith, c.if-self-potential_of.false, c.potential_of.ensures, c.greatest.ensures) in
    let few = few_written c.args.self.now c.step.new.self (tables_model c.args.tables.now) (tables_model c.step.new.tables) expected.read expected.written c.symbol-symbol.result (8 * c.args.self.now.bytes + 64) expected.so_far c.step.ensures fits in
    less_more (g.T.Text.view c.args.out.now c.args.store.now) ((g.T.Text.view c.args.out.now c.args.store.now).count + length (outbox_symbols (out_of (tables_model c.step.new.tables)))) (8 * c.args.self.now.bytes + 64) (omega (arith, few, expected.counted)) (c.flush.ensures.roomy full)

pub returns-clause-bounded : goal.returns-clause-bounded
returns-clause-bounded g c = λ expected.
    let fits : c.args.self.now.taken + potential_of 4 c.symbol-symbol.result.tag ≤ 8 * c.args.self.now.bytes + 64 = omega (arith, c.if-self-potential_of.false, c.potential_of.ensures, c.greatest.ensures) in
    let few = few_written c.args.self.now c.step.new.self (tables_model c.args.tables.now) (tables_model c.step.new.tables) expected.read expected.written c.symbol-symbol.result (8 * c.args.self.now.bytes + 64) expected.so_far c.step.ensures fits in
    OnOk-map c.flush.result _ _ (λ wrote. omega (arith, wrote.count, few, expected.counted)) c.flush.ensures.written

pub returns-clause-limit : goal.returns-clause-limit
returns-clause-limit g c = c.flush.ensures.limit ∙ c.step.ensures.limit
