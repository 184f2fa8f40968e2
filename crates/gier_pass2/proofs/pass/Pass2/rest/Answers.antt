use Rattle.std.proofs.Common.{arith, ◌≤◌, length}
use Rattle.gier_text.specs.TablesModel.{tables_model}
use Rattle.gier_pass2.specs.TokensGiven.{buffered}
use Rattle.gier_pass2.specs.declared.commas.PendingComma.{PendingComma}
use Rattle.gier_pass2.specs.declared.commas.PendingComma.TheVariants.{Nothing as NothingWaits, Shut, Name as NameWaits, Colon}
use Rattle.gier_pass2.specs.declared.runs.Lexeme.{Lexeme}
use Rattle.gier_pass2.specs.declared.runs.Lexeme.TheVariants.{Nothing, Name, Number}
use Rattle.gier_pass2.specs.Lexemes.{lexeme_symbols}
use Rattle.gier_pass2.specs.ParameterComma.{symbols_of}
use Rattle.gier_pass2.proofs.ProgressSteps.{exact_end, no_run}
use Rattle.gier_pass2.proofs.InvariantSteps.{ends_append}
use Rattle.gier_pass2.proofs.pass.Pass2.rest.Goals as goal

three_wait : (waiting : PendingComma) → length (symbols_of waiting) ≤ 3
three_wait NothingWaits = omega arith
three_wait (Shut shut) = omega arith
three_wait (NameWaits shut name) = omega arith
three_wait (Colon shut name colon) = omega arith

one_run : (run : Lexeme) → lexeme_symbols run ≤ 1
one_run Nothing = omega arith
one_run (Name node line plain) = omega arith
one_run (Number value line position) = omega arith

pub give-requires-clause-room : goal.give-requires-clause-room
give-requires-clause-room c = omega (arith, c.finish-ready.ensures.few, three_wait c.args.self.now.waiting, one_run c.args.self.now.run)

pub returns-clause-no_end : goal.returns-clause-no_end
returns-clause-no_end c = rw c.give.ensures.given (omega
    (arith, ends_append (buffered c.finish-ready.result) (symbols_of c.finish-ready.new.self.waiting), c.finish-ready.ensures.no_end))

pub returns-clause-exact : goal.returns-clause-exact
returns-clause-exact c = λ read written follows.
    let doing = c.finish-ready.ensures.doing follows.done follows.pending written follows.doing in
    exact_end c.args.self.now (tables_model c.args.tables.now)
    (tables_model c.finish-ready.new.tables) c.finish-ready.new.self.known c.finish-ready.new.self.read c.finish-ready.new.self.waiting read
    written (buffered c.finish-ready.result) (buffered c.give.new.ready) follows
    (no_run (tables_model c.finish-ready.new.tables) c.finish-ready.new.self c.finish-ready.ensures.run doing) doing.grouped c.give.ensures.given
