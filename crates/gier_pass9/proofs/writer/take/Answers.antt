use Rattle.std.proofs.Common.{◌≡◌, false, arith, refl}
use Rattle.std.proofs.lemmas.Bool.Decides.{nat_tests}
use Rattle.gier_symbol.specs.declared.tag.Tag.TheVariants.{LabelPlace}
use Rattle.gier_symbol.specs.Texts.{is_tag_of}
use Rattle.gier_text.proofs.DriveLoop.{OnOk-map}
use Rattle.gier_pass9.proofs.WordsMade.{on_ok}
use Rattle.gier_pass9.proofs.writer.take.Goals as goal

pub returns-clause-marks : goal.returns-clause-marks
returns-clause-marks g c =
    let word : is_tag_of LabelPlace c.args.s.tag ≡ false = grind (arith, nat_tests, c.number.ensures, c.if-s-number) in
    on_ok c.put.result _ (λ label. rw word refl)

pub returns-clause-made : goal.returns-clause-made
returns-clause-made g c =
    let word : is_tag_of LabelPlace c.args.s.tag ≡ false = grind (arith, nat_tests, c.number.ensures, c.if-s-number) in
    OnOk-map c.put.result _ _ (λ made words h. rw (word, ← c.word_for.ensures.made) (made words h)) c.put.ensures.made
