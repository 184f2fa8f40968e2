use Rattle.std.proofs.Common.{length, subst}
use Rattle.gier_order.specs.Flat.Rows.{gives, word_at}
use Rattle.gier_exec.specs.Following.{RefinesResult}
use Rattle.gier_exec.specs.Rows.{regs_of}
use Rattle.gier_exec.proofs.RowResults.{gets_comes, value_combined}
use Rattle.gier_exec.proofs.values.value.Goals as goal

pub returns-in-Take-clause-row : goal.returns-in-Take-clause-row
returns-in-Take-clause-row c = λ code input entered next is.
    let regs = regs_of c.args.m.now c.args.frames.now input in
    let size = length c.args.frames.now.words in
    rw c.in-Take.is (gets_comes code size regs _ c.take.result next (c.take.ensures.row code input c.args.m.now (λ word. gives code size regs word) entered))

pub returns-in-Addr-clause-row : goal.returns-in-Addr-clause-row
returns-in-Addr-clause-row c = λ code input entered next is.
    let regs = regs_of c.args.m.now c.args.frames.now input in
    let size = length c.args.frames.now.words in
    rw c.in-Addr.is (gets_comes code size regs _ c.place_of.result next (c.place_of.ensures.row code input c.args.m.now (λ word. gives code size regs word) entered))

pub returns-in-Fetch-clause-row : goal.returns-in-Fetch-clause-row
returns-in-Fetch-clause-row c = λ code input entered next is.
    let regs = regs_of c.args.m.now c.args.frames.now input in
    let size = length c.args.frames.now.words in
    rw c.in-Fetch.is (subst (λ p. RefinesResult (word_at code size regs p (λ word. gives code size regs word)) regs c.read.result) c.r.ensures.value
    (gets_comes code size regs _ c.read.result next (c.read.ensures.row code input c.args.m.now (λ word. gives code size regs word) entered)))

pub returns-in-Index-clause-row : goal.returns-in-Index-clause-row
returns-in-Index-clause-row c = λ code input entered next is. rw c.in-Index.is (c.element.ensures.row code input c.args.m.now entered next)

pub returns-in-Base-clause-row : goal.returns-in-Base-clause-row
returns-in-Base-clause-row c = λ code input entered next is.
    let regs = regs_of c.args.m.now c.args.frames.now input in
    let size = length c.args.frames.now.words in
    rw c.in-Base.is (gets_comes code size regs _ c.base.result next (c.base.ensures.row code input c.args.m.now (λ word. gives code size regs word) entered))

pub returns-in_default : goal.returns-in_default
returns-in_default c = record {
  row = λ code input entered next is.
      c.combined.ensures.row code input entered next c.args.order.level
      (value_combined c.args.operation c.in_default.not-Take c.in_default.not-Short c.in_default.not-Addr c.in_default.not-Fetch c.in_default.not-Neg c.in_default.not-Not c.in_default.not-Index c.in_default.not-Base is);
  small = c.combined.ensures.small;
}
