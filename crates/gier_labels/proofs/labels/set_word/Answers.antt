use Rattle.std.proofs.Common.{◌∙◌}
use Rattle.gier_text.specs.TablesModel.{tables_model}
use Rattle.gier_labels.proofs.Words.{word_set, words_set}
use Rattle.gier_labels.proofs.labels.set_word.Goals as goal

pub returns-then-place-from-clause-set : goal.returns-then-place-from-clause-set
returns-then-place-from-clause-set c = λ small.
    let there = rw c.place_of-place.ensures at c.reach.ensures.reached in
    let same = rw (c.place_of-place.ensures, c.part_of.ensures) at c.set_word.ensures in
    word_set c.args.room c.reach.new.tables (tables_model c.set_word.new.self) c.args.number c.args.word c.reach.ensures.labels there same

pub returns-then-place-from-clause-rest : goal.returns-then-place-from-clause-rest
returns-then-place-from-clause-rest c = λ label ne.
    let same = rw (c.place_of-place.ensures, c.part_of.ensures) at c.set_word.ensures in
    words_set c.args.room c.reach.new.tables (tables_model c.set_word.new.self) c.args.number c.args.word c.reach.ensures.labels same label ne
    ∙ c.reach.ensures.words label
