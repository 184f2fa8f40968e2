use Rattle.std.proofs.Common.{◌⊎◌, ◌≡◌, ◌≢◌, ◌-◌, ◌<◌, ◌≤◌, ℕ, nat_le, Ok, Err, length, inl, inr, ap, sym, refl, arith, ◌∙◌}
use Rattle.gier_order.specs.Flat.Row.{On, Row, plain}
use Rattle.gier_order.specs.Flat.Rows.{reads_order, looks_in, looks_at, truth}
use Rattle.gier_order.specs.Flat.Kinds.{Handed, Kinded, formals_handed}
use Rattle.gier_order.specs.declared.order.Order.{Order}
use Rattle.gier_exec.specs.Rows.{regs_of, code_in}
use Rattle.gier_exec.specs.declared.stop.Stop.TheVariants.{Odd}
use Rattle.gier_exec.specs.declared.stop.Miss.TheVariants.{Stop as Stopped}
use Rattle.gier_exec.proofs.Readings.{reads_joined}
use Rattle.gier_exec.proofs.Referrings.{length_code}
use Rattle.gier_exec.proofs.SearchReach.{search_told}
use Rattle.gier_exec.proofs.Searches.{search_acts, search_as, search_then, search_stops, search_goes, search_refused}
use Rattle.gier_exec.proofs.Comparings.{looks_odd, looks_past, looks_there, look_go, truth_is}
use Rattle.gier_exec.proofs.kinds.look_at_kind.Goals.{then-r-eq0-via-then-r-eq0, then-r-eq0-via-else-r-eq0+then-r-count}
use Rattle.gier_exec.proofs.kinds.look_at_kind.Goals as goal

pub returns-in-Err-clause-row : goal.returns-in-Err-clause-row
returns-in-Err-clause-row g c = λ tracks input told agree entered.
    let code = code_in tracks c.args.object.now in
    let size = length c.args.frames.now.words in
    let m = c.args.m.now in
    let regs = regs_of m c.args.frames.now input in
    let at : ℕ → Row = λ k. reads_order code size regs k (λ head. looks_in code size regs k (formals_handed head)) in
    search_acts _ _ _ _ regs at (Stopped c.in-Err.stop) (search_refused _ _ _ regs at c.in-Err.stop (c.in-Err.ensures.row code input m at entered))

pub returns-in-Err-fetch_kinds-clause-row : goal.returns-in-Err-fetch_kinds-clause-row
returns-in-Err-fetch_kinds-clause-row g c = λ tracks input told agree entered.
    let code = code_in tracks c.args.object.now in
    let size = length c.args.frames.now.words in
    let m = c.args.m.now in
    let regs = regs_of m c.args.frames.now input in
    let k = c.in-Ok.address in
    let at : ℕ → Row = λ k. reads_order code size regs k (λ head. looks_in code size regs k (formals_handed head)) in
    let go : Order → Handed → Row = λ head what. looks_in code size regs k what in
    search_acts _ _ _ _ regs (λ (kinds : Order). go kinds (Kinded kinds.level)) c.in-Err-fetch_kinds.miss
    (search_as _ _ _ _ _ regs (λ (kinds : Order). go kinds (Kinded kinds.level)) (Err c.in-Err-fetch_kinds.miss) (c.in-Ok.ensures.row code input m at entered) (c.in-Err-fetch_kinds.ensures.row tracks size regs go (λ head. refl) (λ head. refl) told agree))

pub returns-then-r-eq0-clause-row : goal.returns-then-r-eq0-clause-row
returns-then-r-eq0-clause-row g c = λ tracks input told agree entered.
    let code = code_in tracks c.args.object.now in
    let size = length c.args.frames.now.words in
    let m = c.args.m.now in
    let regs = regs_of m c.args.frames.now input in
    let k = c.in-Ok.address in
    let count = c.in-Ok-fetch_kinds.kinds.level in
    let at : ℕ → Row = λ k. reads_order code size regs k (λ head. looks_in code size regs k (formals_handed head)) in
    let go : Order → Handed → Row = λ head what. looks_in code size regs k what in
    let go_kinds : Order → Row = λ kinds. go kinds (Kinded kinds.level) in
    let here = c.in-Ok.ensures.row code input m at entered in
    let first = c.in-Ok-fetch_kinds.ensures.row tracks size regs go (λ head. refl) (λ head. refl) told agree in
    let off : (regs.r ≡ 0) ⊎ (count < regs.r) = elim c.then-r-eq0.branch [
      | then-r-eq0-via-then-r-eq0 w ↦ inl (sym c.r.ensures.value ∙ w.if-r-eq0.true)
      | then-r-eq0-via-else-r-eq0+then-r-count w ↦ inr (omega (arith, w.if-r-count.true, w.r-else-r-eq0.ensures.value, c.from-count.ensures))
    ] in
    search_acts _ _ _ _ regs go_kinds (Stopped Odd) (search_as _ _ _ _ _ regs go_kinds (Err (Stopped Odd)) here
    (search_stops _ _ _ _ regs go_kinds c.in-Ok-fetch_kinds.kinds go_kinds Odd first (looks_odd code size regs k count off)))

pub returns-in-Err-ahead-clause-row : goal.returns-in-Err-ahead-clause-row
returns-in-Err-ahead-clause-row g c = λ tracks input told agree entered.
    let code = code_in tracks c.args.object.now in
    let size = length c.args.frames.now.words in
    let m = c.args.m.now in
    let regs = regs_of m c.args.frames.now input in
    let k = c.in-Ok.address in
    let count = c.in-Ok-fetch_kinds.kinds.level in
    let at : ℕ → Row = λ k. reads_order code size regs k (λ head. looks_in code size regs k (formals_handed head)) in
    let go : Order → Handed → Row = λ head what. looks_in code size regs k what in
    let go_kinds : Order → Row = λ kinds. go kinds (Kinded kinds.level) in
    let here = c.in-Ok.ensures.row code input m at entered in
    let first = c.in-Ok-fetch_kinds.ensures.row tracks size regs go (λ head. refl) (λ head. refl) told agree in
    let stop = c.in-Err-ahead.stop in
    search_acts _ _ _ _ regs go_kinds (Stopped stop) (search_as _ _ _ _ _ regs go_kinds (Err (Stopped stop)) here
    (search_stops _ _ _ _ regs go_kinds c.in-Ok-fetch_kinds.kinds go_kinds stop first
    (looks_past code size regs k count c.behind.result c.args.object.now.words stop (length_code tracks c.args.object.now) c.behind.ensures.value (sym c.in-Err-ahead.is ∙ c.ahead.ensures.value))))

pub returns-in-Err-fetch_kind-clause-row : goal.returns-in-Err-fetch_kind-clause-row
returns-in-Err-fetch_kind-clause-row g c = λ tracks input told agree entered.
    let code = code_in tracks c.args.object.now in
    let size = length c.args.frames.now.words in
    let m = c.args.m.now in
    let regs = regs_of m c.args.frames.now input in
    let k = c.in-Ok.address in
    let count = c.in-Ok-fetch_kinds.kinds.level in
    let at : ℕ → Row = λ k. reads_order code size regs k (λ head. looks_in code size regs k (formals_handed head)) in
    let go : Order → Handed → Row = λ head what. looks_in code size regs k what in
    let go_kinds : Order → Row = λ kinds. go kinds (Kinded kinds.level) in
    let here = c.in-Ok.ensures.row code input m at entered in
    let first = c.in-Ok-fetch_kinds.ensures.row tracks size regs go (λ head. refl) (λ head. refl) told agree in
    let kinds = c.in-Ok-fetch_kinds.kinds in
    let n = c.r-at.result - 1 in
    let some : regs.r ≢ 0 = λ none. c.if-r-eq0.false (c.r.ensures.value ∙ none) in
    let few : regs.r ≤ count = omega (arith, c.if-r-count.false, c.r-else-r-eq0.ensures.value, c.from-count.ensures) in
    let there = looks_there code size regs k count c.behind.result c.args.object.now.words c.in-Ok-ahead.next n (length_code tracks c.args.object.now) c.behind.ensures.value (sym c.in-Ok-ahead.is ∙ c.ahead.ensures.value) some few (ap (λ x. x - 1) c.r-at.ensures.value) in
    let mid : looks_in code size regs k (Kinded count) ≡ looks_at code size regs k n c.from-count.result = there.0 ∙ ap (λ x. looks_at code size regs k n x) (sym c.from-count.ensures) in
    let same = c.fetch_kinds.ensures.reads.tracks in
    let looked : ℕ → Row = look_go code size regs in
    let agree_then = search_told _ _ _ _ regs go_kinds (Ok kinds) tracks first same told agree in
    let miss = c.in-Err-fetch_kind.miss in
    search_acts _ _ _ _ regs looked miss (search_as _ _ _ _ _ regs looked (Err miss) here
    (search_then _ _ _ _ _ regs go_kinds kinds looked (Err miss) c.fetch_kinds.ensures.reads.places first
    (search_as _ _ _ _ _ regs looked (Err miss) mid (c.in-Err-fetch_kind.ensures.row tracks regs looked (same ∙ told) agree_then))))

pub returns-in-Err-fetch_kind-clause-reads : goal.returns-in-Err-fetch_kind-clause-reads
returns-in-Err-fetch_kind-clause-reads g c = reads_joined 1 1 2 _ _ _ _ c.fetch_kinds.ensures.reads c.fetch_kind.ensures.reads (omega arith)

pub returns-clause-reads : goal.returns-clause-reads
returns-clause-reads g c = reads_joined 1 1 2 _ _ _ _ c.fetch_kinds.ensures.reads c.fetch_kind.ensures.reads (omega arith)

pub returns-clause-row : goal.returns-clause-row
returns-clause-row g c = λ tracks input told agree entered.
    let code = code_in tracks c.args.object.now in
    let size = length c.args.frames.now.words in
    let m = c.args.m.now in
    let regs = regs_of m c.args.frames.now input in
    let k = c.in-Ok.address in
    let count = c.in-Ok-fetch_kinds.kinds.level in
    let at : ℕ → Row = λ k. reads_order code size regs k (λ head. looks_in code size regs k (formals_handed head)) in
    let go : Order → Handed → Row = λ head what. looks_in code size regs k what in
    let go_kinds : Order → Row = λ kinds. go kinds (Kinded kinds.level) in
    let here = c.in-Ok.ensures.row code input m at entered in
    let first = c.in-Ok-fetch_kinds.ensures.row tracks size regs go (λ head. refl) (λ head. refl) told agree in
    let kinds = c.in-Ok-fetch_kinds.kinds in
    let n = c.r-at.result - 1 in
    let some : regs.r ≢ 0 = λ none. c.if-r-eq0.false (c.r.ensures.value ∙ none) in
    let few : regs.r ≤ count = omega (arith, c.if-r-count.false, c.r-else-r-eq0.ensures.value, c.from-count.ensures) in
    let there = looks_there code size regs k count c.behind.result c.args.object.now.words c.in-Ok-ahead.next n (length_code tracks c.args.object.now) c.behind.ensures.value (sym c.in-Ok-ahead.is ∙ c.ahead.ensures.value) some few (ap (λ x. x - 1) c.r-at.ensures.value) in
    let mid : looks_in code size regs k (Kinded count) ≡ looks_at code size regs k n c.from-count.result = there.0 ∙ ap (λ x. looks_at code size regs k n x) (sym c.from-count.ensures) in
    let same = c.fetch_kinds.ensures.reads.tracks in
    let looked : ℕ → Row = look_go code size regs in
    let agree_then = search_told _ _ _ _ regs go_kinds (Ok kinds) tracks first same told agree in
    let kind = c.in-Ok-fetch_kind.kind in
    let next = c.in-Ok-ahead.next in
    let word : truth (nat_le kind 2) ≡ c.from.result = truth_is (nat_le kind 2) c.from.result (λ e. c.from.ensures ∙ rw e refl) (λ e. c.from.ensures ∙ rw e refl) in
    search_goes _ _ _ _ regs (regs_of c.set_r.new.self c.args.frames.now input) looked kind next (search_as _ _ _ _ _ regs looked (Ok kind) here
    (search_then _ _ _ _ _ regs go_kinds kinds looked (Ok kind) c.fetch_kinds.ensures.reads.places first
    (search_as _ _ _ _ _ regs looked (Ok kind) mid (c.in-Ok-fetch_kind.ensures.row tracks regs looked (same ∙ told) agree_then))))
    (rw c.set_r.ensures (there.1 kind ∙ ap (λ x. plain (On (record regs { r = x; place = next }))) word))
