use Rattle.std.proofs.Common.{◌≡◌, ◌∙◌, Bool, false, sym, subst, ap, arith}
use Rattle.gier_text.specs.Potential.{potential}
use Rattle.gier_text.specs.TablesModel.{tables_model}
use Rattle.gier_text.specs.Lists.{TableList}
use Rattle.gier_text.specs.Outbox.{outbox_symbols}
use Rattle.gier_pass3.specs.Found.{Follows}
use Rattle.gier_pass3.proofs.GrammarSteps.{one_passed, one_refused, one_taken}
use Rattle.gier_pass3.proofs.Steps.{met_passed, met_taken, met_refused, met_nothing}
use Rattle.gier_pass3.proofs.Potentials.{small_price}
use Rattle.gier_pass3.proofs.pass.Pass3.meet.Goals as goal

pub returns-in-Error-clause-follows : goal.returns-in-Error-clause-follows
returns-in-Error-clause-follows c = λ e items.
    let t = tables_model c.args.tables.now in
    let u = tables_model c.loop-wanted.tables in
    let pops = c.in-Some.ensures.read (c.loop-wanted.invariant.passed items).items in
    let none = one_refused c.args.kind t u (tables_model c.pop.new.tables) c.in-Some.wanted c.args.s (c.loop-wanted.invariant.passed items) pops (sym c.in-Error.ensures.value) e in
    subst (λ (b : Bool). Follows b c.args.s t (tables_model c.fail.new.tables)) (sym c.fail.ensures.stopped) none

pub returns-in-Expand-clause-follows : goal.returns-in-Expand-clause-follows
returns-in-Expand-clause-follows c = λ e items.
    let t = tables_model c.args.tables.now in
    let u = tables_model c.loop-wanted.tables in
    let w = tables_model c.expand.new.tables in
    let pops = c.in-Some.ensures.read (c.loop-wanted.invariant.passed items).items in
    let takes = one_taken c.args.kind t u (tables_model c.pop.new.tables) w c.in-Some.wanted c.in-Expand.production c.args.s (c.loop-wanted.invariant.passed items) pops (sym c.in-Expand.ensures.value) c.expand.ensures.read c.expand.ensures.items e in
    let goes : c.expand.new.self.stopped ≡ false = c.expand.ensures.moves.stopped ∙ c.loop-wanted.invariant.stopped ∙ c.requires.going in
    subst (λ (b : Bool). Follows b c.args.s t w) (sym goes) takes

pub loop-wanted-preserved : goal.loop-wanted-preserved
loop-wanted-preserved c =
    let inv = c.loop-wanted.invariant in
    let queues = c.in-Some.ensures.queues in
    let change = c.write_epsilon-opened.ensures.preserves in
    let moves = change.state in
    record {
      holds = moves.holds;
      light = omega (arith, inv.light, moves.total_potential, c.in-Some.ensures.paid, ap (λ (l : TableList). potential 3 (outbox_symbols l)) c.in-Some.ensures.queues.lookahead, ap (λ (l : TableList). potential 3 (outbox_symbols l)) c.in-Some.ensures.queues.ready);
      deep = omega (arith, inv.deep, moves.depth, c.in-Some.ensures.less);
      passed = λ items. one_passed c.args.kind (tables_model c.args.tables.now) (tables_model c.loop-wanted.tables) (tables_model c.pop.new.tables) (tables_model c.write_epsilon-opened.new.tables) c.in-Some.wanted (inv.passed items) (c.in-Some.ensures.read (inv.passed items).items) (sym c.in-Epsilon.ensures.value) change.stack;
      owned = omega (arith, change.owned, change.counted, inv.owned);
      wrote = λ items next. inv.wrote items next ∙ met_passed c.args.kind c.args.s next c.loop-wanted.self c.write_epsilon-opened.new.self (tables_model c.loop-wanted.tables) (tables_model c.pop.new.tables) (tables_model c.write_epsilon-opened.new.tables) c.in-Some.wanted c.loop-wanted.opened c.write_epsilon-opened.result (c.in-Some.ensures.entries (inv.passed items).items) c.in-Some.ensures.queues.lookahead c.in-Some.ensures.queues.ready (sym c.in-Epsilon.ensures.value) c.write_epsilon-opened.ensures.wrote change.stack;
      bytes = moves.bytes ∙ inv.bytes;
      read = moves.read ∙ inv.read;
      stopped = moves.stopped ∙ inv.stopped;
      limit = moves.limit ∙ queues.lists.limit ∙ inv.limit;
      faults = moves.faults ∙ queues.lists.faults ∙ inv.faults;
    }

pub returns-in-Error-clause-wrote : goal.returns-in-Error-clause-wrote
returns-in-Error-clause-wrote c = λ items next.
    c.loop-wanted.invariant.wrote items next ∙ met_refused c.args.kind c.args.s next c.loop-wanted.self c.fail.new.self (tables_model c.loop-wanted.tables) (tables_model c.pop.new.tables) (tables_model c.fail.new.tables) c.in-Some.wanted c.loop-wanted.opened (c.in-Some.ensures.entries (c.loop-wanted.invariant.passed items).items) c.in-Some.ensures.queues.lookahead c.in-Some.ensures.queues.ready (sym c.in-Error.ensures.value) c.fail.ensures.ready c.fail.ensures.stopped

pub returns-in-Expand-clause-wrote : goal.returns-in-Expand-clause-wrote
returns-in-Expand-clause-wrote c = λ items next.
    c.loop-wanted.invariant.wrote items next ∙ met_taken c.args.kind c.args.s next c.loop-wanted.self c.expand.new.self (tables_model c.loop-wanted.tables) (tables_model c.pop.new.tables) (tables_model c.expand.new.tables) c.in-Some.wanted c.in-Expand.production c.loop-wanted.opened (c.in-Some.ensures.entries (c.loop-wanted.invariant.passed items).items) c.in-Some.ensures.queues.lookahead c.in-Some.ensures.queues.ready (sym c.in-Expand.ensures.value) c.expand.ensures.wrote (c.expand.ensures.moves.stopped ∙ c.loop-wanted.invariant.stopped ∙ c.requires.going)

pub returns-in-Error-clause-owns : goal.returns-in-Error-clause-owns
returns-in-Error-clause-owns c = omega (arith, c.fail.ensures.owns, c.loop-wanted.invariant.owned)

pub expand-requires-clause-owns : goal.expand-requires-clause-owns
expand-requires-clause-owns c = omega (arith, c.loop-wanted.invariant.owned, c.requires.owns, small_price c.in-Expand.production, c.requires.within)

pub returns-in-Expand-clause-owns : goal.returns-in-Expand-clause-owns
returns-in-Expand-clause-owns c = omega (arith, c.expand.ensures.owns, c.loop-wanted.invariant.owned, small_price c.in-Expand.production)
