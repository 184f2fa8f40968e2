use Rattle.std.proofs.Common.{arith, subst, sym, ◌++◌, ◌∷◌, [], ◌*◌, ◌+◌, length-append}
use Rattle.std.specs.Prelude.{IsTrue}
use Rattle.gier_symbol.specs.declared.symbol.Symbol.{Symbol}
use Rattle.gier_text.specs.Potential.{is_numbered}
use Rattle.gier_text.specs.TablesModel.{tables_model}
use Rattle.gier_text.proofs.DriveLoop.{OnOk-map}
use Rattle.gier_pass3.specs.Lists.{ready_by}
use Rattle.gier_pass3.proofs.InvariantSteps.{FaultStep, less_more, both_ok, stands_more, few_more, numbered_at, refuted}
use Rattle.gier_pass3.proofs.pass.Pass3Pass.take.Goals as goal
use Rattle.gier_pass3.proofs.pass.Pass3Pass.take.Goals.{then-self-via-then-self, then-self-via-else-self+then-is_unnumbered}

pub returns-then-self-clause-sound : goal.returns-then-self-clause-sound
returns-then-self-clause-sound g c = λ expected.
    let s = c.args.s.symbol in
    let bytes = c.args.self.now.bytes in
    elim c.then-self.branch [
      | then-self-via-then-self w ↦ omega (arith, expected.so_far.taken, expected.expected.few, length-append (expected.read ++ (s ∷ [])) expected.rest, length-append expected.read (s ∷ []), w.if-self.true)
      | then-self-via-else-self+then-is_unnumbered w ↦
          let is = numbered_at bytes expected.read expected.rest s expected.expected.numbered in
          refuted w.is_unnumbered.result (is_numbered 2 bytes c.symbol-symbol.result) w.is_unnumbered.ensures w.if-is_unnumbered.true (subst (λ (x : Symbol). IsTrue (is_numbered 2 bytes x)) (sym c.symbol-symbol.ensures.value) is)
    ]

pub returns-clause-ok : goal.returns-clause-ok
returns-clause-ok g c =
    let pass = c.args.self.now in
    let new = c.step.new.self in
    let t = tables_model c.args.tables.now in
    let u = tables_model c.step.new.tables in
    let sees : FaultStep pass new t u c.symbol-symbol.result = record { stays = λ is. c.step.ensures.stays is; told = λ is. c.step.ensures.told is; follows = λ is bare items. c.step.ensures.follows is bare items; silent = λ is. c.step.ensures.silent is; wrote = λ is bare items. c.step.ensures.wrote is bare items } in
    let sees_it = subst (λ x. FaultStep pass new t u x) c.symbol-symbol.ensures.value sees in
    both_ok c.flush.result _ _ _ (λ wrote emptied. (ready_by u, wrote, λ read written stands. rw emptied (stands_more pass new t u read written c.args.s.symbol stands c.step.ensures.steps sees_it))) c.flush.ensures.written c.flush.ensures.emptied

pub returns-clause-roomy : goal.returns-clause-roomy
returns-clause-roomy g c = λ expected full.
    let few = few_more c.args.self.now c.step.new.self (tables_model c.args.tables.now) (tables_model c.step.new.tables) expected.read expected.written expected.so_far c.step.ensures.steps (omega (arith, c.if-self.false)) in
    less_more (g.T.Text.view c.args.out.now c.args.store.now) _ (8 * c.args.self.now.bytes + 64) (c.flush.ensures.roomy full) (omega (arith, few, expected.counted))

pub returns-clause-bounded : goal.returns-clause-bounded
returns-clause-bounded g c = λ expected.
    let few = few_more c.args.self.now c.step.new.self (tables_model c.args.tables.now) (tables_model c.step.new.tables) expected.read expected.written expected.so_far c.step.ensures.steps (omega (arith, c.if-self.false)) in
    OnOk-map c.flush.result _ _ (λ wrote. omega (arith, few, expected.counted, wrote.count)) c.flush.ensures.written
