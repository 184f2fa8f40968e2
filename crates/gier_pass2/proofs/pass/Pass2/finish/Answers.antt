use Rattle.std.proofs.Common.{arith, ◌≡◌, ◌∙◌, refl, ap, subst, Option}
use Rattle.std.proofs.lemmas.List.{append-nil}
use Rattle.gier_text.specs.TablesModel.{tables_model}
use Rattle.gier_pass2.specs.declared.runs.AssembledToken.{AssembledToken}
use Rattle.gier_pass2.specs.Progress.{IsEndedRun}
use Rattle.gier_pass2.specs.TokensGiven.{buffered}
use Rattle.gier_pass2.specs.Letters.{ends}
use Rattle.gier_pass2.specs.ParameterComma.{given_by}
use Rattle.gier_pass2.proofs.Ends.{fed_ends}
use Rattle.gier_pass2.proofs.ProgressSteps.{grouped_word, grouped_no_word}
use Rattle.gier_pass2.proofs.pass.Pass2.finish.Goals as goal
use Rattle.gier_pass2.proofs.pass.Pass2.finish.Goals.{in-Some, in_default}

pub returns-clause-no_end : goal.returns-clause-no_end
returns-clause-no_end c = elim c.match-ended.branch [
  | in-Some w ↦
      let none : ends (buffered c.none-ready.result) ≡ 0 = ap ends c.none-ready.ensures.none in
      let sum = fed_ends c.args.self.now.waiting w.in-Some.word.symbol w.in-Some.word.plain (buffered c.none-ready.result)
      (buffered w.feed-self.new.ready) w.feed-self.result c.requires.inner none w.feed-self.ensures.given w.feed-self.ensures.waits in
      rw (w.ready-is, w.self-is) (rw w.in-Some.ensures.no_end at sum)
  | in_default w ↦ rw (w.ready-is, w.self-is, c.none-ready.ensures.none) (omega (arith, c.requires.inner))
]

pub feed-self-requires-clause-writable : goal.feed-self-requires-clause-writable
feed-self-requires-clause-writable c = rw c.none-ready.ensures.bytes
    (c.in-Some.ensures.writable c.args.self.now.bytes (omega
    (arith, c.ended.ensures.few, c.requires.run.names, c.requires.run.ready.within)))

pub returns-clause-doing : goal.returns-clause-doing
returns-clause-doing c = λ done pending written doing.
    let read = c.args.self.now.read in
    let old = c.args.self.now.waiting in
    let reads = c.ended.ensures.reads read done pending doing.reading in
    elim c.match-ended.branch [
      | in-Some w ↦
          let ended = subst (λ (o : Option AssembledToken). IsEndedRun
          (tables_model c.ended.new.tables) c.ended.new.known read done pending o) w.in-Some.is reads in
          let given : buffered w.feed-self.new.ready ≡ given_by old w.in-Some.word.symbol w.in-Some.word.plain = w.feed-self.ensures.given
          ∙ rw c.none-ready.ensures.none refl in
          rw (w.ready-is, w.self-is) (record {
            reading = reads.reading;
            grouped = grouped_word (tables_model c.ended.new.tables) c.ended.new.known read old w.feed-self.result done pending written
                (buffered w.feed-self.new.ready) w.in-Some.word ended w.feed-self.ensures.waits given doing.grouped;
          })
      | in_default w ↦
          let ended = subst (λ (o : Option AssembledToken). IsEndedRun
          (tables_model c.ended.new.tables) c.ended.new.known read done pending o) w.in_default.is reads in
          rw (w.ready-is, w.self-is, c.none-ready.ensures.none, append-nil written) (record {
            reading = reads.reading;
            grouped = grouped_no_word (tables_model c.ended.new.tables) c.ended.new.known read old done pending written ended doing.grouped;
          })
    ]
