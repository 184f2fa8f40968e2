use Rattle.std.proofs.Common.{arith, ◌≡◌, ◌∙◌, ap, sym, refl, subst, ℕ, length, false}
use Rattle.std.specs.Prelude.{All}
use Rattle.std.proofs.lemmas.List.Elements.{All-take}
use Rattle.gier_text.specs.TablesModel.{tables_model}
use Rattle.gier_pass2.specs.TokensGiven.{buffered}
use Rattle.gier_pass2.specs.Letters.{ends, IsWritable}
use Rattle.gier_pass2.specs.Lexemes.{lexeme_symbols, goes_on}
use Rattle.gier_pass2.specs.ParameterComma.{symbols_of}
use Rattle.gier_pass2.proofs.Ends.{fed_ends, no_end_waits, end_closes, after_end, end_begins}
use Rattle.gier_pass2.proofs.ProgressSteps.{follows_on, follows_begun, follows_alone, no_run, nothing_runs, sign_begins, none_begins}
use Rattle.gier_pass2.proofs.pass.Pass2.step.Goals as goal

pub returns-then-is_none-clause-inner : goal.returns-then-is_none-clause-inner
returns-then-is_none-clause-inner c =
    let none : ends (symbols_of c.finish-ready.new.self.waiting) ≡ 0 = omega (arith, c.finish-ready.ensures.no_end) in
    let empty : ends (buffered c.finish-ready.result) ≡ 0 = omega (arith, c.finish-ready.ensures.no_end) in
    let sum = fed_ends c.finish-ready.new.self.waiting c.args.s false (buffered c.finish-ready.result)
    (buffered c.feed-self.new.ready) c.feed-self.result none empty c.feed-self.ensures.given c.feed-self.ensures.waits in
    no_end_waits c.finish-ready.new.self.waiting c.args.s (buffered c.feed-self.new.ready) c.feed-self.result sum c.feed-self.ensures.waits

pub returns-then-is_none-clause-ends : goal.returns-then-is_none-clause-ends
returns-then-is_none-clause-ends c =
    let none : ends (symbols_of c.finish-ready.new.self.waiting) ≡ 0 = omega (arith, c.finish-ready.ensures.no_end) in
    let empty : ends (buffered c.finish-ready.result) ≡ 0 = omega (arith, c.finish-ready.ensures.no_end) in
    let sum = fed_ends c.finish-ready.new.self.waiting c.args.s false (buffered c.finish-ready.result)
    (buffered c.feed-self.new.ready) c.feed-self.result none empty c.feed-self.ensures.given c.feed-self.ensures.waits in
    let rest = no_end_waits c.finish-ready.new.self.waiting c.args.s
    (buffered c.feed-self.new.ready) c.feed-self.result sum c.feed-self.ensures.waits in
    omega (arith, sum, rest)

pub returns-then-is_none-clause-last : goal.returns-then-is_none-clause-last
returns-then-is_none-clause-last c = λ is. (
  end_closes c.finish-ready.new.self.waiting c.args.s (buffered c.finish-ready.result)
      (buffered c.feed-self.new.ready) c.feed-self.ensures.given is,
  (let gone : length (symbols_of c.feed-self.result) ≡ 0 = ap (λ w. length (symbols_of w))
      (c.feed-self.ensures.waits ∙ after_end c.finish-ready.new.self.waiting c.args.s is) in
      let still : lexeme_symbols c.begun-self.result ≡ 0 = c.begun-self.ensures.running ∙ end_begins c.args.s is in
      omega (arith, gone, still)),
)

pub returns-then-goes_on-clause-follows : goal.returns-then-goes_on-clause-follows
returns-then-goes_on-clause-follows c = λ read written follows spelled.
    let reading = c.grown-self.ensures.reads c.args.self.now.known c.args.self.now.read follows.done follows.pending follows.doing.reading
    spelled in
    follows_on c.args.self.now _ (tables_model c.args.tables.now) (tables_model c.grown-self.new.tables) read written
    (buffered c.none.result) c.args.s follows reading refl c.none.ensures.none

pub returns-then-is_none-clause-writable : goal.returns-then-is_none-clause-writable
returns-then-is_none-clause-writable c =
    let ready = c.feed-self.new.ready in
    let same : ready.bytes ≡ c.args.self.now.bytes = c.feed-self.ensures.bytes ∙ c.finish-ready.ensures.of_bytes in
    subst (λ (bytes : ℕ). All (IsWritable bytes) (buffered ready)) same
    (All-take (IsWritable ready.bytes) ready.count ready.symbols ready.writable)

pub returns-then-is_none-clause-follows : goal.returns-then-is_none-clause-follows
returns-then-is_none-clause-follows c = λ read written follows spelled.
    let doing = c.finish-ready.ensures.doing follows.done follows.pending written follows.doing in
    let stops : goes_on c.args.self.now.run c.args.s ≡ false = sym c.goes_on.ensures ∙ c.if-goes_on.false in
    let begun = c.begun-self.ensures.reads c.finish-ready.new.self.known _
    (no_run (tables_model c.finish-ready.new.tables) c.finish-ready.new.self c.finish-ready.ensures.run doing) spelled in
    let idle : lexeme_symbols c.begun-self.result ≡ 0 = c.is_none.ensures.none c.if-is_none.true in
    follows_alone c.args.self.now _ (tables_model c.args.tables.now) (tables_model c.begun-self.new.tables) c.finish-ready.new.self.waiting read written
    (buffered c.finish-ready.result) (buffered c.feed-self.new.ready) c.args.s follows stops
    (none_begins c.args.s c.begun-self.result c.begun-self.ensures.running idle)
    (nothing_runs c.begun-self.result idle) begun doing.grouped c.feed-self.ensures.waits c.feed-self.ensures.given

pub returns-else-is_none-clause-follows : goal.returns-else-is_none-clause-follows
returns-else-is_none-clause-follows c = λ read written follows spelled.
    let doing = c.finish-ready.ensures.doing follows.done follows.pending written follows.doing in
    let stops : goes_on c.args.self.now.run c.args.s ≡ false = sym c.goes_on.ensures ∙ c.if-goes_on.false in
    let begun = c.begun-self.ensures.reads c.finish-ready.new.self.known _
    (no_run (tables_model c.finish-ready.new.tables) c.finish-ready.new.self c.finish-ready.ensures.run doing) spelled in
    follows_begun c.args.self.now _ (tables_model c.args.tables.now) (tables_model c.begun-self.new.tables) read written
    (buffered c.finish-ready.result) c.args.s follows stops
    (sign_begins c.args.s c.begun-self.result c.begun-self.ensures.running (c.is_none.ensures.some c.if-is_none.false)) begun doing.grouped
