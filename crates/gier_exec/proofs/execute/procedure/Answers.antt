use Rattle.std.proofs.Common.{◌≡◌, ◌+◌, ◌<◌, ◌≤◌, ◌++◌, [], Err, true, length, ap, sym, ◌∙◌, arith}
use Rattle.gier_library.proofs.ReadsInOrder.{takes_nothing}
use Rattle.gier_library.specs.DataView.{stand_of}
use Rattle.gier_order.specs.Flat.Row.{On}
use Rattle.gier_exec.specs.Rows.{regs_of, code_in}
use Rattle.gier_exec.specs.Turning.{printing_row}
use Rattle.gier_exec.proofs.Referrings.{refers_none, length_code}
use Rattle.gier_exec.proofs.Turnings.{puts_nothing}
use Rattle.gier_exec.proofs.Procedures.{next_in, lib_alone, lib_past, lib_is, obeys_by}
use Rattle.gier_exec.proofs.execute.procedure.Goals as goal

pub returns-then-behind-from-clause-row : goal.returns-then-behind-from-clause-row
returns-then-behind-from-clause-row g c = λ tracks told agrees.
    let code = code_in tracks c.args.object.now in
    let all : length code ≡ c.args.object.now.words = length_code tracks c.args.object.now in
    let past : length code ≤ c.args.m.now.place + 1 = omega (arith, all, c.behind.ensures.value, c.from.ensures, c.if-behind-from.true) in (
      [],
      [],
      [],
      refers_none _ _,
      puts_nothing _,
      takes_nothing (stand_of g.S.Source.left c.args.input.now) c.args.input.now.limited c.args.input.now.below,
      λ rest l is. lib_past c.args.frames.now.entered code (length c.args.frames.now.words) (regs_of c.args.m.now c.args.frames.now rest) l c.args.number past,
    )

pub returns-in-Ok-clause-row : goal.returns-in-Ok-clause-row
returns-in-Ok-clause-row g c = λ tracks known agrees.
    let s = c.args.frames.now in
    let entered : s.entered ≡ true = sym c.is_entered.ensures.value ∙ c.if-is_entered.true in
    let lt : c.args.m.now.place + 1 < c.args.object.now.words = omega (arith, c.behind.ensures.value, c.from.ensures, c.if-behind-from.false) in
    let did = c.in-Ok.ensures.row tracks known agrees lt in (
      did.0,
      did.1,
      did.2,
      did.3,
      did.4,
      did.5,
      λ rest l is.
          lib_is s.entered (code_in tracks c.args.object.now) (length s.words) (regs_of c.args.m.now s (did.2 ++ rest)) l c.args.number entered (next_in tracks c.args.object.now c.args.m.now.place lt)
          ∙ did.6 s rest is
          ∙ ap (λ p. printing_row did.0 did.1 (On (record (regs_of c.library.new.m s rest) { place = p + 1 }))) (sym (c.place.ensures ∙ c.library.ensures.keeps.place)),
    )

pub returns-in-Err-clause-row : goal.returns-in-Err-clause-row
returns-in-Err-clause-row g c = λ tracks told agrees.
    let s = c.args.frames.now in
    let entered : s.entered ≡ true = sym c.is_entered.ensures.value ∙ c.if-is_entered.true in
    let lt : c.args.m.now.place + 1 < c.args.object.now.words = omega (arith, c.behind.ensures.value, c.from.ensures, c.if-behind-from.false) in
    let did = c.in-Err.ensures.row tracks told agrees lt in (
      did.0,
      did.1,
      did.2,
      did.3,
      did.4,
      did.5,
      λ rest l is.
          let before = regs_of c.args.m.now s (did.2 ++ rest) in
          obeys_by _ _ before (regs_of c.library.new.m s rest) did.0 did.1 did.2 (Err c.in-Err.quit)
          (lib_is s.entered (code_in tracks c.args.object.now) (length s.words) before l c.args.number entered (next_in tracks c.args.object.now c.args.m.now.place lt)) (did.6 s rest is),
    )

pub returns-clause-row : goal.returns-clause-row
returns-clause-row g c = λ tracks told agrees. (
  [],
  [],
  [],
  refers_none _ _,
  puts_nothing _,
  takes_nothing (stand_of g.S.Source.left c.args.input.now) c.args.input.now.limited c.args.input.now.below,
  λ rest l is. lib_alone c.args.frames.now.entered _ (sym c.is_entered.ensures.value ∙ c.if-is_entered.false),
)
