use Rattle.std.proofs.Common.{arith, ◌<◌, length}
use Rattle.gier_text.specs.TablesModel.{tables_model}
use Rattle.gier_pass4.proofs.ListReplacement.{fills_more, pushed_count}
use Rattle.gier_pass4.proofs.names.fill.Goals as goal

pub loop-at-preserved : goal.loop-at-preserved
loop-at-preserved c =
    let there : 7 < length (tables_model c.loop-at.tables).lists = omega (arith, c.loop-at.invariant.fills.number, c.requires.open) in
    record {
      fills = fills_more 7 (tables_model c.args.tables.now) (tables_model c.loop-at.tables) (tables_model c.push.new.self) _ there c.loop-at.invariant.fills c.push.ensures;
      count = omega (arith, c.loop-at.invariant.count, pushed_count 7 (tables_model c.loop-at.tables) (tables_model c.push.new.self) _ there c.push.ensures);
    }
