use Rattle.std.proofs.Common.{Ok, ap, sym, ◌∙◌}
use Rattle.gier_order.specs.Flat.Row.{Row}
use Rattle.gier_order.specs.Flat.Kinds.{Kinded, formals_handed}
use Rattle.gier_order.specs.declared.order.Order.{Order}
use Rattle.gier_exec.specs.declared.stop.Stop.TheVariants.{Odd}
use Rattle.gier_exec.proofs.Searches.{search_other, search_found, search_stops}
use Rattle.gier_exec.proofs.Callings.{bare_of, kinded_of, kinded_level, neither_of}
use Rattle.gier_exec.proofs.calls.fetch_kinds.Goals as goal

pub returns-in-Err-clause-row : goal.returns-in-Err-clause-row
returns-in-Err-clause-row g c = λ tracks size regs go bare neither told agrees.
    let next : Order → Row = λ head. go head (formals_handed head) in
    search_other _ _ _ _ regs next (λ (kinds : Order). go kinds (Kinded kinds.level)) c.in-Err.miss (c.in-Err.ensures.row tracks size regs next told agrees)

pub returns-in-Ok-Some-clause-row : goal.returns-in-Ok-Some-clause-row
returns-in-Ok-Some-clause-row g c = λ tracks size regs go bare neither told agrees.
    let head = c.in-Ok.head in
    let next : Order → Row = λ head. go head (formals_handed head) in
    let kinded = kinded_of (formals_handed head) _ (sym c.formals_of.ensures.value ∙ c.in-Ok-Some.is ∙ ap Ok c.in-Ok-Some.field-0-is) in
    search_found _ _ _ _ regs next head (λ (kinds : Order). go kinds (Kinded kinds.level)) head (c.in-Ok.ensures.row tracks size regs next told agrees)
    (ap (λ what. go head what) kinded ∙ ap (λ n. go head (Kinded n)) (kinded_level head _ kinded))

pub returns-in-Ok-None-clause-row : goal.returns-in-Ok-None-clause-row
returns-in-Ok-None-clause-row g c = λ tracks size regs go bare neither told agrees.
    let head = c.in-Ok.head in
    let next : Order → Row = λ head. go head (formals_handed head) in
    search_stops _ _ _ _ regs next head (λ (kinds : Order). go kinds (Kinded kinds.level)) Odd (c.in-Ok.ensures.row tracks size regs next told agrees)
    (ap (λ what. go head what) (bare_of (formals_handed head) (sym c.formals_of.ensures.value ∙ c.in-Ok-None.is ∙ ap Ok c.in-Ok-None.field-0-is)) ∙ bare head)

pub returns-in-Err-formals_of-clause-row : goal.returns-in-Err-formals_of-clause-row
returns-in-Err-formals_of-clause-row g c = λ tracks size regs go bare neither told agrees.
    let head = c.in-Ok.head in
    let next : Order → Row = λ head. go head (formals_handed head) in
    let none = neither_of (formals_handed head) c.in-Err-formals_of.stop (sym c.formals_of.ensures.value ∙ c.in-Err-formals_of.is) in
    rw none.1 (search_stops _ _ _ _ regs next head (λ (kinds : Order). go kinds (Kinded kinds.level)) Odd (c.in-Ok.ensures.row tracks size regs next told agrees)
    (ap (λ what. go head what) none.0 ∙ neither head))
