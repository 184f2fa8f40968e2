use Rattle.std.proofs.Common.{◌≡◌, ◌+◌, ◌/◌, ◌<◌, ◌++◌, [], Some, sym, subst, ◌∙◌, arith}
use Rattle.gier_places.specs.Contents.{Agrees}
use Rattle.gier_exec.specs.Rows.{code_in}
use Rattle.gier_exec.proofs.Pagers.{same_pager, same_pager_both}
use Rattle.gier_exec.proofs.Readings.{reads_joined, reads_nothing}
use Rattle.gier_exec.proofs.Referrings.{refers_none, refers_both}
use Rattle.gier_exec.proofs.Turnings.{puts_nothing}
use Rattle.gier_exec.proofs.Strings.{puts_both, printed_none, printed_more, printed_stops, printed_all}
use Rattle.gier_exec.proofs.library.print_words.Goals as goal

pub loop-at-init : goal.loop-at-init
loop-at-init g c = (reads_nothing 0 _ _, omega arith, same_pager _, λ tracks told agrees. ([], [], refers_none _ _, puts_nothing _, printed_none _ _ _ _))

pub returns-in-Err-clause-reads : goal.returns-in-Err-clause-reads
returns-in-Err-clause-reads g c = reads_joined c.loop-at.at 1 ((c.args.length + 4) / 5) _ _ _ _ c.loop-at.invariant.0 c.print_word.ensures.reads (omega (arith, c.div_ceil-at-end.ensures, c.loop-at-test.true))

pub returns-in-Err-clause-row : goal.returns-in-Err-clause-row
returns-in-Err-clause-row g c = λ tracks told agrees.
    let object = c.args.object.now in
    let so_far = c.loop-at.invariant.3 tracks told agrees in
    let told_mid : g.D.Drum.tracks c.loop-at.pager.drum.now ≡ Some tracks = c.loop-at.invariant.0.tracks ∙ told in
    let agrees_mid : Agrees (Some tracks) c.loop-at.pager.places.now.held = subst (λ t. Agrees t c.loop-at.pager.places.now.held) told_mid (so_far.2.agrees (subst (λ t. Agrees t c.args.pager.now.places.now.held) (sym told) agrees)) in
    let one = c.in-Err.ensures.row tracks told_mid agrees_mid in
    let lt : c.loop-at.at < (c.args.length + 4) / 5 = omega (arith, c.div_ceil-at-end.ensures, c.loop-at-test.true) in (
      so_far.0 ++ one.0,
      so_far.1 ++ one.1,
      refers_both object so_far.0 one.0 _ _ _ c.loop-at.invariant.0.places so_far.2 one.2,
      puts_both _ _ _ so_far.1 one.1 so_far.3 one.3,
      λ size m. printed_stops (code_in tracks object) ((c.args.length + 4) / 5) c.args.address c.args.length c.loop-at.at so_far.0 so_far.1 one.0 one.1 c.in-Err.quit so_far.4 lt one.4 size m,
    )

pub loop-at-preserved : goal.loop-at-preserved
loop-at-preserved g c = (
  reads_joined c.loop-at.at 1 (c.loop-at.at + 1) _ _ _ _ c.loop-at.invariant.0 c.print_word.ensures.reads (omega arith),
  omega (arith, c.loop-at.invariant.1, c.print_word.ensures.sink.later),
  same_pager_both _ _ _ c.loop-at.invariant.2 c.print_word.ensures.pager.same,
  λ tracks told agrees.
      let object = c.args.object.now in
      let so_far = c.loop-at.invariant.3 tracks told agrees in
      let told_mid : g.D.Drum.tracks c.loop-at.pager.drum.now ≡ Some tracks = c.loop-at.invariant.0.tracks ∙ told in
      let agrees_mid : Agrees (Some tracks) c.loop-at.pager.places.now.held = subst (λ t. Agrees t c.loop-at.pager.places.now.held) told_mid (so_far.2.agrees (subst (λ t. Agrees t c.args.pager.now.places.now.held) (sym told) agrees)) in
      let one = c.in-Ok.ensures.row tracks told_mid agrees_mid in (
        so_far.0 ++ one.0,
        so_far.1 ++ one.1,
        refers_both object so_far.0 one.0 _ _ _ c.loop-at.invariant.0.places so_far.2 one.2,
        puts_both _ _ _ so_far.1 one.1 so_far.3 one.3,
        printed_more (code_in tracks object) ((c.args.length + 4) / 5) c.args.address c.args.length c.loop-at.at so_far.0 so_far.1 one.0 one.1 so_far.4 one.4,
      ),
)

pub returns-clause-row : goal.returns-clause-row
returns-clause-row g c = λ tracks told agrees.
    let so_far = c.loop-at.invariant.3 tracks told agrees in
    (so_far.0, so_far.1, so_far.2, so_far.3, printed_all (code_in tracks c.args.object.now) ((c.args.length + 4) / 5) c.args.address c.args.length c.loop-at.at so_far.0 so_far.1 so_far.4 (omega (arith, c.loop-at-test.false, c.loop-at.auto.at-end, c.div_ceil-at-end.ensures)))
