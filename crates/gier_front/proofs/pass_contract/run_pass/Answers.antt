use Rattle.std.proofs.Common.{◌≡◌, ◌∙◌, ap, subst, sym, refl, List}
use Rattle.gier_symbol.specs.declared.symbol.Symbol.{Symbol}
use Rattle.gier_text.specs.View.{in_way, View, Appends}
use Rattle.gier_front.proofs.Told.{handed, written_all, on_ok, is_told, told_is, if_driven}
use Rattle.gier_front.proofs.pass_contract.run_pass.Goals as goal

pub returns-in-Ok-drive-clause-gives : goal.returns-in-Ok-drive-clause-gives
returns-in-Ok-drive-clause-gives g c = λ told blank.
    let view = g.T.Text.view in
    let same = g.met.P.PassContract.same c.drive.new.pass c.start-pass.result c.drive.ensures.most ∙ c.start-pass.ensures.bytes in
    let out_kept = c.rewind.ensures.kept c.args.output.now c.requires.can.are_apart in
    let drove = c.in-Ok-drive.ensures.relates in
    let hand = handed (g.P.PassContract.wants c.args.bytes) (view c.args.input.now c.args.store.now).held c.way.result (view c.rewind.new.self c.rewind.new.store).left drove.0 told c.in-Ok.ensures.rewound.left drove.2.0 in
    let wanted = subst (λ n. g.P.PassContract.wants n hand.0) (sym same) hand.1 in
    let ordered_is = hand.2 ∙ ap (λ way. in_way way hand.0) c.way.ensures in
    let related = subst (λ (read : List Symbol). g.P.Pass.relates c.drive.new.pass c.drive.new.tables read drove.1) ordered_is drove.4 in
    let gives = subst (λ n. g.P.PassContract.gives n drove.1) same (g.met.P.PassContract.given c.drive.new.pass c.drive.new.tables hand.0 drove.1 wanted related) in
    let appended = subst (λ (v : View). Appends v.held drove.1 (view c.drive.new.output c.drive.new.store).held) out_kept drove.3.held in
    on_ok c.no_faults.result _ (written_all (g.P.PassContract.gives c.args.bytes) (view c.args.output.now c.args.store.now).held (view c.drive.new.output c.drive.new.store).held drove.1 blank appended gives)

pub returns-in-Ok-drive-clause-driven : goal.returns-in-Ok-drive-clause-driven
returns-in-Ok-drive-clause-driven g c = λ list is blank.
    let view = g.T.Text.view in
    let same = g.met.P.PassContract.same c.drive.new.pass c.start-pass.result c.drive.ensures.most ∙ c.start-pass.ensures.bytes in
    let out_kept = c.rewind.ensures.kept c.args.output.now c.requires.can.are_apart in
    let drove = c.in-Ok-drive.ensures.relates in
    let told = is_told (view c.args.input.now c.args.store.now).held list is in
    let hand = handed (λ l. l ≡ list) (view c.args.input.now c.args.store.now).held c.way.result (view c.rewind.new.self c.rewind.new.store).left drove.0 told c.in-Ok.ensures.rewound.left drove.2.0 in
    let ordered_is = hand.2 ∙ ap (λ way. in_way way hand.0) c.way.ensures ∙ ap (λ l. in_way g.P.PassContract.reads l) hand.1 in
    let related = subst (λ (read : List Symbol). g.P.Pass.relates c.drive.new.pass c.drive.new.tables read drove.1) ordered_is drove.4 in
    let appended = subst (λ (v : View). Appends v.held drove.1 (view c.drive.new.output c.drive.new.store).held) out_kept drove.3.held in
    let there = told_is (view c.drive.new.output c.drive.new.store).held drove.1 (written_all (λ l. l ≡ drove.1) (view c.args.output.now c.args.store.now).held (view c.drive.new.output c.drive.new.store).held drove.1 blank appended refl) in
    if_driven c.no_faults.result _ (record { pass = c.drive.new.pass; written = drove.1; same = same; related = related; there = there })
