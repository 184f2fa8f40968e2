use Rattle.std.proofs.Common.{◌≡◌, length, Option, ap, sym, ◌∙◌, subst, arith}
use Rattle.gier_symbol.specs.declared.symbol.Symbol.{Symbol}
use Rattle.gier_text.specs.View.{LeftFrom, as_list}
use Rattle.gier_mortem.specs.WordLines.{addresses}
use Rattle.gier_mortem.proofs.Searching.{all_symbols-addresses, passes_mark, passes_word, finds}
use Rattle.gier_mortem.proofs.lines.Lines.search.Goals as goal

pub returns-then-address-last-clause-addresses : goal.returns-then-address-last-clause-addresses
returns-then-address-last-clause-addresses g c =
    ap addresses c.tell.ensures ∙ all_symbols-addresses c.loop-symbol.address c.in-Ok-Some.symbol.line c.loop-symbol.self.asked.items ∙ c.loop-symbol.invariant.searched.same

pub returns-then-address-last-clause-lines : goal.returns-then-address-last-clause-lines
returns-then-address-last-clause-lines g c =
    let from = subst (λ (o : Option Symbol). LeftFrom (g.T.Text.view c.loop-symbol.text c.loop-symbol.store).left (as_list o) (g.T.Text.view c.read_next.new.self c.read_next.new.store).left) c.in-Ok-Some.field-0-is c.in-Ok-Some.ensures.given.read.left in
    finds (g.T.Text.view c.args.text.now c.args.store.now).left (g.T.Text.view c.loop-symbol.text c.loop-symbol.store).left (g.T.Text.view c.read_next.new.self c.read_next.new.store).left (addresses c.args.self.now.asked.items) c.loop-symbol.self.asked.items c.tell.new.self.asked.items c.loop-symbol.address c.last-last.result c.in-Ok-Some.symbol c.loop-symbol.invariant.searched from (sym c.is_word.ensures ∙ c.if-is_word.true) c.tell.ensures c.if-address-last.true c.last-last.ensures

pub loop-symbol-preserved-then-is_word : goal.loop-symbol-preserved-then-is_word
loop-symbol-preserved-then-is_word g c =
    let from = subst (λ (o : Option Symbol). LeftFrom (g.T.Text.view c.loop-symbol.text c.loop-symbol.store).left (as_list o) (g.T.Text.view c.read_next.new.self c.read_next.new.store).left) c.in-Ok-Some.field-0-is c.in-Ok-Some.ensures.given.read.left in
    let was = c.loop-symbol.invariant in
    let one : length (as_list c.in-Ok-Some.field-0) ≡ 1 = ap (λ (o : Option Symbol). length (as_list o)) c.in-Ok-Some.field-0-is in
    record {
      reading = c.in-Ok-Some.ensures.given.read.rewound ∙ was.reading;
      placed = omega (arith, was.placed, c.read_next.ensures.place.ends, c.read_next.ensures.room);
      room = c.read_next.ensures.room ∙ was.room;
      tracks = c.read_next.ensures.tracks ∙ was.tracks;
      later = omega (arith, was.later, c.read_next.ensures.later);
      few = omega (arith, was.few, one, c.in-Ok-Some.ensures.given.read.unread);
      last = was.last;
      searched = passes_word (g.T.Text.view c.args.text.now c.args.store.now).left (g.T.Text.view c.loop-symbol.text c.loop-symbol.store).left (g.T.Text.view c.read_next.new.self c.read_next.new.store).left (addresses c.args.self.now.asked.items) c.loop-symbol.self.asked.items c.tell.new.self.asked.items c.loop-symbol.address c.last-last.result c.in-Ok-Some.symbol was.searched from (sym c.is_word.ensures ∙ c.if-is_word.true) c.tell.ensures c.if-address-last.false;
    }

pub loop-symbol-preserved : goal.loop-symbol-preserved
loop-symbol-preserved g c =
    let from = subst (λ (o : Option Symbol). LeftFrom (g.T.Text.view c.loop-symbol.text c.loop-symbol.store).left (as_list o) (g.T.Text.view c.read_next.new.self c.read_next.new.store).left) c.in-Ok-Some.field-0-is c.in-Ok-Some.ensures.given.read.left in
    let was = c.loop-symbol.invariant in
    let one : length (as_list c.in-Ok-Some.field-0) ≡ 1 = ap (λ (o : Option Symbol). length (as_list o)) c.in-Ok-Some.field-0-is in
    record {
      reading = c.in-Ok-Some.ensures.given.read.rewound ∙ was.reading;
      placed = omega (arith, was.placed, c.read_next.ensures.place.ends, c.read_next.ensures.room);
      room = c.read_next.ensures.room ∙ was.room;
      tracks = c.read_next.ensures.tracks ∙ was.tracks;
      later = omega (arith, was.later, c.read_next.ensures.later);
      few = omega (arith, was.few, one, c.in-Ok-Some.ensures.given.read.unread);
      last = was.last;
      searched = passes_mark (g.T.Text.view c.args.text.now c.args.store.now).left (addresses c.args.self.now.asked.items) (g.T.Text.view c.loop-symbol.text c.loop-symbol.store).left (g.T.Text.view c.read_next.new.self c.read_next.new.store).left c.loop-symbol.self.asked.items c.loop-symbol.address c.last-last.result c.in-Ok-Some.symbol was.searched from (sym c.is_word.ensures ∙ c.if-is_word.false);
    }
