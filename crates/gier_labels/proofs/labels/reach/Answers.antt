use Rattle.std.proofs.Common.{◌∙◌, [], ◌∷◌, arith}
use Rattle.gier_text.specs.TablesModel.{tables_model}
use Rattle.gier_text.specs.Lists.{list_at, with_entry}
use Rattle.gier_labels.proofs.Lists.{labels_at, others_at, count_at}
use Rattle.gier_labels.proofs.Words.{words_pushed}
use Rattle.gier_labels.proofs.labels.reach.Goals as goal

pub loop-turn-preserved : goal.loop-turn-preserved
loop-turn-preserved c =
    let now = c.loop-turn.invariant in
    let t = tables_model c.loop-turn.tables in
    let list = list_at t.lists 0 in
    let new = with_entry list (0 ∷ 0 ∷ []) in
    let u = tables_model c.push.new.self in
    record {
      labels = labels_at c.args.room t u new now.labels now.labels.width now.labels.capacity
          (omega (arith, now.count, c.loop-turn-test, c.requires.place)) c.push.ensures;
      others = others_at (tables_model c.args.tables.now) t u new now.others c.push.ensures;
      words = λ number. words_pushed c.args.room c.loop-turn.tables u now.labels c.push.ensures number ∙ now.words number;
      count = omega (arith, count_at t u new now.labels.lists c.push.ensures, now.count);
    }
