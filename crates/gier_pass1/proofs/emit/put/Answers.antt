use Rattle.gier_pass1.specs.Puts.{letters_in}
use Rattle.gier_pass1.proofs.WritesJoined.{puts_on}
use Rattle.gier_pass1.proofs.emit.put.Goals as goal

pub returns-clause-puts : goal.returns-clause-puts
returns-clause-puts g c =
    let view = g.T.Text.view in
    let journal = g.T.Text.journal in
    puts_on c.emit-2.result (letters_in c.args.founds.ended) (letters_in c.args.founds.begun) (view c.args.out.now c.args.store.now) (view c.emit.new.out c.emit.new.store) (view c.emit-2.new.out c.emit-2.new.store) (journal c.args.store.now) (journal c.emit.new.store) (journal c.emit-2.new.store) c.in_ok-emit.ensures.puts c.emit-2.ensures.puts
