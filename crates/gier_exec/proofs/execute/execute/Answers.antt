use Rattle.std.proofs.Common.{ap, Some, ◌++◌, ◌≡◌, ◌≢◌, ◌||◌, [], Ok, Err, false, IsTrue, length, sym, ◌∙◌}
use Rattle.gier_library.proofs.ReadsInOrder.{takes_nothing}
use Rattle.gier_library.specs.DataView.{stand_of}
use Rattle.gier_order.specs.declared.operation.Operation.TheVariants.{Lib}
use Rattle.gier_exec.specs.Rows.{regs_of, code_in}
use Rattle.gier_exec.specs.Numbers.{is_start}
use Rattle.gier_exec.proofs.Referrings.{refers_none}
use Rattle.gier_exec.proofs.WholeOrders.{does_is, does_odd}
use Rattle.gier_exec.proofs.Turnings.{puts_nothing, does_always, obeys_miss}
use Rattle.gier_exec.proofs.Procedures.{does_lib, obeys_by}
use Rattle.gier_exec.proofs.execute.execute.Goals as goal

pub returns-in-Lib-clause-row : goal.returns-in-Lib-clause-row
returns-in-Lib-clause-row g c = λ tracks told agrees.
    let code = code_in tracks c.args.object.now in
    let size = length c.args.frames.now.words in
    let did = c.procedure.ensures.row tracks told agrees in (
      did.0,
      did.1,
      did.2,
      did.3,
      did.4,
      did.5,
      λ rest is.
          let before = regs_of c.args.m.now c.args.frames.now (did.2 ++ rest) in
          obeys_by _ _ before (regs_of c.procedure.new.m c.args.frames.now rest) did.0 did.1 did.2 c.procedure.result
          (does_lib code size before c.args.order (c.operation-operation.ensures ∙ ap Some c.in-Lib.is)) (did.6 rest c.args.order.level is),
    )

pub returns-in-Ok-clause-row : goal.returns-in-Ok-clause-row
returns-in-Ok-clause-row g c = λ tracks told agrees.
    let operation = c.operation-operation.result in
    let code = code_in tracks c.args.object.now in
    let size = length c.args.frames.now.words in
    let there : IsTrue (c.args.frames.now.entered || is_start operation) = sym c.is_allowed.ensures.value ∙ c.if-is_allowed.true in
    let other : operation ≢ Lib = c.in_default.not-Lib in
    let did = c.in-Ok.ensures.row tracks [] told agrees there in (
      did.0,
      [],
      [],
      did.1,
      puts_nothing _,
      takes_nothing (stand_of g.S.Source.left c.args.input.now) c.args.input.now.limited c.args.input.now.below,
      λ rest is. does_is code size (regs_of c.args.m.now c.args.frames.now rest) c.args.order operation c.operation-operation.ensures there
          ∙ does_always code size c.args.m.now c.dispatch.new.m c.args.frames.now c.dispatch.new.frames operation c.args.order.level c.args.order.address did.0 (Ok c.in-Ok.next) other did.2 rest,
    )

pub returns-in-Err-clause-row : goal.returns-in-Err-clause-row
returns-in-Err-clause-row g c = λ tracks told agrees.
    let operation = c.operation-operation.result in
    let code = code_in tracks c.args.object.now in
    let size = length c.args.frames.now.words in
    let there : IsTrue (c.args.frames.now.entered || is_start operation) = sym c.is_allowed.ensures.value ∙ c.if-is_allowed.true in
    let other : operation ≢ Lib = c.in_default.not-Lib in
    let did = c.in-Err.ensures.row tracks [] told agrees there in (
      did.0,
      [],
      [],
      did.1,
      puts_nothing _,
      takes_nothing (stand_of g.S.Source.left c.args.input.now) c.args.input.now.limited c.args.input.now.below,
      λ rest is. obeys_miss _ _ (regs_of c.args.m.now c.args.frames.now rest) (regs_of c.dispatch.new.m c.dispatch.new.frames rest) did.0 c.in-Err.miss
          (does_is code size (regs_of c.args.m.now c.args.frames.now rest) c.args.order operation c.operation-operation.ensures there)
          (does_always code size c.args.m.now c.dispatch.new.m c.args.frames.now c.dispatch.new.frames operation c.args.order.level c.args.order.address did.0 (Err c.in-Err.miss) other did.2 rest),
    )

pub returns-clause-row : goal.returns-clause-row
returns-clause-row g c = λ tracks told agrees.
    let operation = c.operation-operation.result in
    let no_one : (c.args.frames.now.entered || is_start operation) ≡ false = sym c.is_allowed.ensures.value ∙ c.if-is_allowed.false in (
      [],
      [],
      [],
      refers_none _ _,
      puts_nothing _,
      takes_nothing (stand_of g.S.Source.left c.args.input.now) c.args.input.now.limited c.args.input.now.below,
      λ rest is. does_odd (code_in tracks c.args.object.now) (length c.args.frames.now.words) (regs_of c.args.m.now c.args.frames.now rest) c.args.order operation c.operation-operation.ensures no_one,
    )
