use Rattle.std.proofs.Common.{◌∙◌, refl, sym, subst}
use Rattle.gier_drum.specs.View.{drum_view}
use Rattle.gier_back.proofs.PassSteps.{changes_of, changes_more, on_ok}
use Rattle.gier_text.specs.View.{View, Rewinds}
use Rattle.gier_text.proofs.DriveLoop.{apart_as, apart_back}
use Rattle.gier_back.proofs.turned.drive_turned.Goals as goal

pub returns-clause-stays : goal.returns-clause-stays
returns-clause-stays g c =
    let view = g.T.Text.view in
    let place = c.rewind.ensures.place in
    let apart = apart_as _ _ _ _ _ _ _ _ (apart_back _ _ _ _ c.requires.can.are_apart) refl refl place.begins place.ends in
    let kept = c.drive.ensures.kept c.rewind.new.self apart in
    on_ok c.drive.result _ (record {
      turned = c.rewind.new.self;
      place = place;
      rewinds = subst (λ (v : View). Rewinds (view c.args.input.now c.args.store.now) c.args.way v) (sym kept) c.in-Ok.ensures.rewound;
    })
