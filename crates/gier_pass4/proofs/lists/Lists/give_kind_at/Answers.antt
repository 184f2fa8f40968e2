use Rattle.std.proofs.Common.{◌≡◌, ◌<◌, ◌^◌, ℕ, sym, ◌∙◌, arith}
use Rattle.gier_symbol.specs.declared.tag.Tag.TheVariants.{Description}
use Rattle.gier_symbol.specs.Tags.{number_of}
use Rattle.gier_text.specs.TablesModel.{tables_model}
use Rattle.gier_text.specs.Lists.{list_at, with_word}
use Rattle.gier_pass4.specs.Lists.{room_of}
use Rattle.gier_pass4.proofs.ListReplacement.{with_queue}
use Rattle.gier_pass4.proofs.GivenKinds.{queue_given, weight_given, grows_none, letter_given}
use Rattle.gier_pass4.proofs.lists.Lists.give_kind_at.Goals as goal

pub returns-then-symbol-number-clause-lists : goal.returns-then-symbol-number-clause-lists
returns-then-symbol-number-clause-lists c =
    let bytes : ℕ = c.args.self.bytes in
    let list = list_at (tables_model c.args.tables.now).lists c.args.list in
    let v : ℕ = c.number-then-symbol-number.result in
    let small : v < 2 ^ 40 = omega (arith, c.number-then-symbol-number.ensures.small) in
    let is : c.in-Some.symbol.tag ≡ number_of Description = c.if-symbol-number.true ∙ c.number.ensures in
    let queue = queue_given bytes (room_of bytes c.args.list) list c.args.at v c.in-Some.symbol (c.requires.lists.queues c.args.list c.requires.list) c.requires.entry small (sym c.in-Some.ensures.value) (letter_given bytes v c.in-Some.symbol small is) in
    rw c.set_word.ensures (with_queue bytes (tables_model c.args.tables.now) c.args.list (with_word list c.args.at 1 v) c.requires.lists c.requires.list queue)

pub returns-then-symbol-number-clause-grows : goal.returns-then-symbol-number-clause-grows
returns-then-symbol-number-clause-grows c =
    let bytes : ℕ = c.args.self.bytes in
    let list = list_at (tables_model c.args.tables.now).lists c.args.list in
    let v : ℕ = c.number-then-symbol-number.result in
    let small : v < 2 ^ 40 = omega (arith, c.number-then-symbol-number.ensures.small) in
    grows_none (tables_model c.args.tables.now) (tables_model c.set_word.new.self) c.args.list (with_word list c.args.at 1 v) (omega (arith, c.requires.lists.number, c.requires.list)) c.set_word.ensures (weight_given bytes (room_of bytes c.args.list) list c.args.at v c.in-Some.symbol (c.requires.lists.queues c.args.list c.requires.list) c.requires.entry small (sym c.in-Some.ensures.value))
