use Rattle.std.proofs.Common.{◌≡◌, ◌+◌, ◌*◌, ◌/◌, ◌<◌, Ok, Err, arith, ◌∙◌}
use Rattle.gier_order.specs.Flat.Row.{Row}
use Rattle.gier_order.specs.Flat.Rows.{goes}
use Rattle.gier_order.specs.Flat.Kinds.{groups_for}
use Rattle.gier_exec.specs.Rows.{code_in}
use Rattle.gier_exec.proofs.Pagers.{same_pager, same_pager_both}
use Rattle.gier_exec.proofs.Readings.{reads_joined, reads_nothing}
use Rattle.gier_exec.proofs.SearchReach.{search_told}
use Rattle.gier_exec.proofs.Searches.{search_as, search_none, search_other, search_then, search_found}
use Rattle.gier_exec.proofs.Comparings.{agrees_from, agrees_first, agrees_next, agrees_last}
use Rattle.gier_exec.proofs.kinds.compare_groups.Goals as goal

pub returns-in-Err-clause-reads : goal.returns-in-Err-clause-reads
returns-in-Err-clause-reads g c = reads_joined (2 * c.loop-group.group) 2 (2 * ((c.args.count + 9) / 10)) _ _ _ _ c.loop-group.invariant.0 c.compare_group.ensures.reads (omega (arith, c.div_ceil-group-end.ensures, c.loop-group-test.true))

pub loop-group-init : goal.loop-group-init
loop-group-init g c = (
  reads_nothing _ _ _,
  same_pager _,
  λ tracks size regs told agree.
      let code = code_in tracks c.args.object.now in
      let next : Unit {0} → Row = λ done. agrees_from code size regs (groups_for c.args.count) 0 c.args.formals c.args.actuals c.args.count in
      search_none _ _ _ regs next tt (agrees_first code size regs (groups_for c.args.count) c.args.formals c.args.actuals c.args.count),
)

pub loop-group-preserved : goal.loop-group-preserved
loop-group-preserved g c = (
  reads_joined (2 * c.loop-group.group) 2 (2 * (c.loop-group.group + 1)) _ _ _ _ c.loop-group.invariant.0 c.compare_group.ensures.reads (omega arith),
  same_pager_both _ _ _ c.loop-group.invariant.1 c.compare_group.ensures.pager.same,
  λ tracks size regs told agree.
      let code = code_in tracks c.args.object.now in
      let groups = groups_for c.args.count in
      let n = c.loop-group.group in
      let from : Unit {0} → Row = λ done. agrees_from code size regs groups n c.args.formals c.args.actuals c.args.count in
      let next : Unit {0} → Row = λ done. agrees_from code size regs groups (n + 1) c.args.formals c.args.actuals c.args.count in
      let so_far = c.loop-group.invariant.2 tracks size regs told agree in
      let same = c.loop-group.invariant.0.tracks in
      let more : n < groups = omega (arith, c.div_ceil-group-end.ensures, c.loop-group-test.true) in
      search_then _ _ _ _ _ regs from tt next (Ok tt) c.loop-group.invariant.0.places so_far
      (search_as _ _ _ _ _ regs next (Ok tt) (agrees_next code size regs groups n c.args.formals c.args.actuals c.args.count more)
      (c.in-Ok.ensures.row tracks regs (next tt) (same ∙ told) (search_told _ _ _ _ regs from (Ok tt) tracks so_far same told agree))),
)

pub returns-in-Err-clause-row : goal.returns-in-Err-clause-row
returns-in-Err-clause-row g c = λ tracks size regs told agree.
    let code = code_in tracks c.args.object.now in
    let groups = groups_for c.args.count in
    let n = c.loop-group.group in
    let from : Unit {0} → Row = λ done. agrees_from code size regs groups n c.args.formals c.args.actuals c.args.count in
    let next : Unit {0} → Row = λ done. agrees_from code size regs groups (n + 1) c.args.formals c.args.actuals c.args.count in
    let last : Unit {0} → Row = λ done. goes code size regs (c.args.actuals + groups) regs in
    let so_far = c.loop-group.invariant.2 tracks size regs told agree in
    let same = c.loop-group.invariant.0.tracks in
    let more : n < groups = omega (arith, c.div_ceil-group-end.ensures, c.loop-group-test.true) in
    search_then _ _ _ _ _ regs from tt last (Err c.in-Err.miss) c.loop-group.invariant.0.places so_far
    (search_as _ _ _ _ _ regs last (Err c.in-Err.miss) (agrees_next code size regs groups n c.args.formals c.args.actuals c.args.count more)
    (search_other _ _ _ _ regs next last c.in-Err.miss
    (c.in-Err.ensures.row tracks regs (next tt) (same ∙ told) (search_told _ _ _ _ regs from (Ok tt) tracks so_far same told agree))))

pub returns-clause-row : goal.returns-clause-row
returns-clause-row g c = λ tracks size regs told agree.
    let code = code_in tracks c.args.object.now in
    let groups = groups_for c.args.count in
    let n = c.loop-group.group in
    let from : Unit {0} → Row = λ done. agrees_from code size regs groups n c.args.formals c.args.actuals c.args.count in
    let last : Unit {0} → Row = λ done. goes code size regs (c.args.actuals + groups) regs in
    let end : n ≡ groups = omega (arith, c.div_ceil-group-end.ensures, c.loop-group-test.false) in
    search_found _ _ _ _ regs from tt last tt (c.loop-group.invariant.2 tracks size regs told agree) (agrees_last code size regs groups n c.args.formals c.args.actuals c.args.count end)
