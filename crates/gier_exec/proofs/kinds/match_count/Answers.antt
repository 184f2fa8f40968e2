use Rattle.std.proofs.Common.{◌≡◌, ◌+◌, ◌&&◌, nat_le, false, Ok, ap, sym, ◌∙◌}
use Rattle.gier_word.specs.declared.alarm.Alarm.TheVariants.{Parameters}
use Rattle.gier_order.specs.Flat.Row.{Row, needs}
use Rattle.gier_order.specs.Flat.Rows.{agrees, agrees_with, is_address}
use Rattle.gier_order.specs.Flat.Kinds.{groups_for, formals_handed}
use Rattle.gier_order.specs.declared.order.Order.{Order}
use Rattle.gier_exec.specs.Rows.{code_in}
use Rattle.gier_exec.specs.declared.stop.Stop.TheVariants.{Alarm as AlarmStop, Odd}
use Rattle.gier_exec.proofs.Searches.{search_other, search_found, search_stops}
use Rattle.gier_exec.proofs.Callings.{bare_of, kinded_of, neither_of}
use Rattle.gier_exec.proofs.Comparings.{count_odd, count_same, count_other, count_bare, count_within, count_none, count_many}
use Rattle.gier_exec.proofs.kinds.match_count.Goals.{then-count-eq0-via-then-count-eq0, then-count-eq0-via-else-count-eq0+then-count-gt-MOST_ACTUALS}
use Rattle.gier_exec.proofs.kinds.match_count.Goals as goal

pub returns-in-Err-clause-row : goal.returns-in-Err-clause-row
returns-in-Err-clause-row g c = λ tracks size regs list told agree.
    let code = code_in tracks c.args.object.now in
    let next : Order → Row = λ head. agrees_with code size regs c.args.address list c.args.count (formals_handed head) in
    let found : Unit {0} → Row = λ done. needs (is_address code size regs (list + groups_for c.args.count)) (agrees code size regs (groups_for c.args.count) (c.args.address + 1) list c.args.count) in
    search_other _ _ _ _ regs next found c.in-Err.miss (c.in-Err.ensures.row tracks size regs next told agree)

pub returns-in-Err-formals_of-clause-row : goal.returns-in-Err-formals_of-clause-row
returns-in-Err-formals_of-clause-row g c = λ tracks size regs list told agree.
    let code = code_in tracks c.args.object.now in
    let head = c.in-Ok.head in
    let next : Order → Row = λ head. agrees_with code size regs c.args.address list c.args.count (formals_handed head) in
    let found : Unit {0} → Row = λ done. needs (is_address code size regs (list + groups_for c.args.count)) (agrees code size regs (groups_for c.args.count) (c.args.address + 1) list c.args.count) in
    let neither = neither_of (formals_handed head) c.in-Err-formals_of.stop (sym c.formals_of.ensures.value ∙ c.in-Err-formals_of.is) in
    rw neither.1 (search_stops _ _ _ _ regs next head found Odd (c.in-Ok.ensures.row tracks size regs next told agree)
    (ap (λ what. agrees_with code size regs c.args.address list c.args.count what) neither.0))

pub returns-then-count-eq0-clause-row : goal.returns-then-count-eq0-clause-row
returns-then-count-eq0-clause-row g c = λ tracks size regs list told agree.
    let code = code_in tracks c.args.object.now in
    let k = c.args.address in
    let count = c.args.count in
    let head = c.in-Ok.head in
    let next : Order → Row = λ head. agrees_with code size regs k list count (formals_handed head) in
    let found : Unit {0} → Row = λ done. needs (is_address code size regs (list + groups_for count)) (agrees code size regs (groups_for count) (k + 1) list count) in
    let first = c.in-Ok.ensures.row tracks size regs next told agree in
    let none : (nat_le 1 count && nat_le count 255) ≡ false = elim c.then-count-eq0.branch [
      | then-count-eq0-via-then-count-eq0 w ↦ count_none count w.if-count-eq0.true
      | then-count-eq0-via-else-count-eq0+then-count-gt-MOST_ACTUALS w ↦ count_many count w.if-count-gt-MOST_ACTUALS.true
    ] in
    search_stops _ _ _ _ regs next head found Odd first (count_odd code size regs k list count (formals_handed head) none)

pub returns-in-Some-clause-row : goal.returns-in-Some-clause-row
returns-in-Some-clause-row g c = λ tracks size regs list told agree.
    let code = code_in tracks c.args.object.now in
    let k = c.args.address in
    let count = c.args.count in
    let head = c.in-Ok.head in
    let next : Order → Row = λ head. agrees_with code size regs k list count (formals_handed head) in
    let found : Unit {0} → Row = λ done. needs (is_address code size regs (list + groups_for count)) (agrees code size regs (groups_for count) (k + 1) list count) in
    let first = c.in-Ok.ensures.row tracks size regs next told agree in
    let within = count_within count c.if-count-eq0.false c.if-count-gt-MOST_ACTUALS.false in
    let kinded = kinded_of (formals_handed head) _ (sym c.formals_of.ensures.value ∙ c.in-Ok-formals_of.is ∙ ap Ok c.in-Some.is) in
    search_found _ _ _ _ regs next head found tt first (ap (λ what. agrees_with code size regs k list count what) kinded ∙ count_same code size regs k list count _ within (sym c.from.ensures ∙ c.if-from-count.true))

pub returns-in_default-2-clause-row : goal.returns-in_default-2-clause-row
returns-in_default-2-clause-row g c = λ tracks size regs list told agree.
    let code = code_in tracks c.args.object.now in
    let k = c.args.address in
    let count = c.args.count in
    let head = c.in-Ok.head in
    let next : Order → Row = λ head. agrees_with code size regs k list count (formals_handed head) in
    let found : Unit {0} → Row = λ done. needs (is_address code size regs (list + groups_for count)) (agrees code size regs (groups_for count) (k + 1) list count) in
    let first = c.in-Ok.ensures.row tracks size regs next told agree in
    let within = count_within count c.if-count-eq0.false c.if-count-gt-MOST_ACTUALS.false in
    let bare = bare_of (formals_handed head) (sym c.formals_of.ensures.value ∙ c.in-Ok-formals_of.is ∙ ap Ok c.in_default.is) in
    search_stops _ _ _ _ regs next head found (AlarmStop Parameters) first (ap (λ what. agrees_with code size regs k list count what) bare ∙ count_bare code size regs k list count within)

pub returns-in_default-clause-row : goal.returns-in_default-clause-row
returns-in_default-clause-row g c = λ tracks size regs list told agree.
    let code = code_in tracks c.args.object.now in
    let k = c.args.address in
    let count = c.args.count in
    let head = c.in-Ok.head in
    let next : Order → Row = λ head. agrees_with code size regs k list count (formals_handed head) in
    let found : Unit {0} → Row = λ done. needs (is_address code size regs (list + groups_for count)) (agrees code size regs (groups_for count) (k + 1) list count) in
    let first = c.in-Ok.ensures.row tracks size regs next told agree in
    let within = count_within count c.if-count-eq0.false c.if-count-gt-MOST_ACTUALS.false in
    let kinded = kinded_of (formals_handed head) _ (sym c.formals_of.ensures.value ∙ c.in-Ok-formals_of.is ∙ ap Ok c.in-Some.is) in
    search_stops _ _ _ _ regs next head found (AlarmStop Parameters) first (ap (λ what. agrees_with code size regs k list count what) kinded ∙ count_other code size regs k list count _ within (λ same. c.if-from-count.false (c.from.ensures ∙ same)))
