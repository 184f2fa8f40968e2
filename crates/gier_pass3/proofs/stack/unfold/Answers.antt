use Rattle.std.proofs.Common.{◌%◌, ◌/◌, ◌∙◌, ap, sym}
use Rattle.std.specs.Prelude.{Some}
use Rattle.gier_grammar.specs.declared.grammar_symbol.GrammarSymbol.{GrammarSymbol}
use Rattle.gier_grammar.specs.declared.stack_entry.StackEntry.{StackEntry}
use Rattle.gier_pass3.proofs.EntryWords.{item_number, number_same}
use Rattle.gier_pass3.proofs.stack.unfold.Goals as goal

pub returns-in-Some-clause-wanted : goal.returns-in-Some-clause-wanted
returns-in-Some-clause-wanted c = λ item e.
    let same = number_same c.in-Some.item item (c.in-Some.ensures.some ∙ sym (item_number (c.args.word % 256) item e)) in
    ap (λ (i : GrammarSymbol). let w : StackEntry = record { symbol = i; left = c.args.word / 256 } in Some w) same

pub returns-in-None-clause-wanted : goal.returns-in-None-clause-wanted
returns-in-None-clause-wanted c = λ item e. absurd (c.in-None.ensures.none item (item_number (c.args.word % 256) item e))
