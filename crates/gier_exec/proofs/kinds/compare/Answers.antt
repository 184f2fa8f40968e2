use Rattle.std.proofs.Common.{◌≡◌, ◌+◌, ◌*◌, ◌/◌, Ok, Err, length, sym, arith, ◌∙◌}
use Rattle.gier_order.specs.Flat.Row.{Row}
use Rattle.gier_order.specs.Flat.Rows.{goes, reads_order}
use Rattle.gier_order.specs.Flat.Kinds.{groups_for}
use Rattle.gier_exec.specs.Rows.{regs_of, code_in}
use Rattle.gier_exec.specs.declared.stop.Miss.TheVariants.{Stop as Stopped}
use Rattle.gier_exec.proofs.Readings.{reads_joined}
use Rattle.gier_exec.proofs.Referrings.{length_code}
use Rattle.gier_exec.proofs.SearchReach.{search_told}
use Rattle.gier_exec.proofs.Searches.{search_acts, search_as, search_then, search_stops, search_goes, refused_stops}
use Rattle.gier_exec.proofs.Comparings.{agree_word, agree_head, agree_list, agree_count, agree_address, list_lost, list_there}
use Rattle.gier_exec.proofs.kinds.compare.Goals as goal

pub returns-in-Err-clause-row : goal.returns-in-Err-clause-row
returns-in-Err-clause-row g c = λ tracks input told agree entered.
    let code = code_in tracks c.args.object.now in
    let size = length c.args.frames.now.words in
    let m = c.args.m.now in
    let regs = regs_of m c.args.frames.now input in
    let l = c.args.order.level in
    let a = c.args.order.address in
    search_acts _ _ _ _ regs (agree_word code size regs l a) c.in-Err.miss
    (agree_count _ _ _ code size regs l a c.behind-list.result (Err c.in-Err.miss) c.behind-list.ensures.value c.in-Err.ensures.refers (c.in-Err.ensures.row tracks told agree (agree_word code size regs l a)))

pub returns-in-Err-formal_address-clause-row : goal.returns-in-Err-formal_address-clause-row
returns-in-Err-formal_address-clause-row g c = λ tracks input told agree entered.
    let code = code_in tracks c.args.object.now in
    let size = length c.args.frames.now.words in
    let m = c.args.m.now in
    let regs = regs_of m c.args.frames.now input in
    let l = c.args.order.level in
    let a = c.args.order.address in
    let count = c.in-Ok.count in
    let word = agree_count _ _ _ code size regs l a c.behind-list.result (Ok count) c.behind-list.ensures.value c.in-Ok.ensures.refers (c.in-Ok.ensures.row tracks told agree (agree_word code size regs l a)) in
    let stop = c.in-Err-formal_address.stop in
    search_acts _ _ _ _ regs (agree_word code size regs l a) (Stopped stop)
    (search_stops _ _ _ _ regs (agree_word code size regs l a) count (agree_word code size regs l a) stop word
    (refused_stops _ regs stop (c.in-Err-formal_address.ensures.row code input m (λ k. reads_order code size regs k (agree_head code size regs count k)) entered)))

pub returns-in-Err-match_count-clause-row : goal.returns-in-Err-match_count-clause-row
returns-in-Err-match_count-clause-row g c = λ tracks input told agree entered.
    let code = code_in tracks c.args.object.now in
    let size = length c.args.frames.now.words in
    let m = c.args.m.now in
    let regs = regs_of m c.args.frames.now input in
    let l = c.args.order.level in
    let a = c.args.order.address in
    let count = c.in-Ok.count in
    let word = agree_count _ _ _ code size regs l a c.behind-list.result (Ok count) c.behind-list.ensures.value c.in-Ok.ensures.refers (c.in-Ok.ensures.row tracks told agree (agree_word code size regs l a)) in
    let k = c.in-Ok-formal_address.address in
    let cell : Unit {0} → Row = λ done. reads_order code size regs k (agree_head code size regs count k) in
    let lists : Unit {0} → Row = λ done. agree_list code size regs count k in
    let first = agree_address _ _ _ code size regs l a count k word (c.in-Ok-formal_address.ensures.row code input m (λ k. reads_order code size regs k (agree_head code size regs count k)) entered) in
    let told_then = c.fetch.ensures.reads.tracks ∙ told in
    let agree_then = search_told _ _ _ _ regs (agree_word code size regs l a) (Ok count) tracks word c.fetch.ensures.reads.tracks told agree in
    search_acts _ _ _ _ regs lists c.in-Err-match_count.miss
    (search_then _ _ _ _ _ regs cell tt lists (Err c.in-Err-match_count.miss) c.fetch.ensures.reads.places first (c.in-Err-match_count.ensures.row tracks size regs (regs.place + 1 + 1) told_then agree_then))

pub returns-in-Err-ahead-clause-row : goal.returns-in-Err-ahead-clause-row
returns-in-Err-ahead-clause-row g c = λ tracks input told agree entered.
    let code = code_in tracks c.args.object.now in
    let size = length c.args.frames.now.words in
    let m = c.args.m.now in
    let regs = regs_of m c.args.frames.now input in
    let l = c.args.order.level in
    let a = c.args.order.address in
    let count = c.in-Ok.count in
    let word = agree_count _ _ _ code size regs l a c.behind-list.result (Ok count) c.behind-list.ensures.value c.in-Ok.ensures.refers (c.in-Ok.ensures.row tracks told agree (agree_word code size regs l a)) in
    let k = c.in-Ok-formal_address.address in
    let cell : Unit {0} → Row = λ done. reads_order code size regs k (agree_head code size regs count k) in
    let lists : Unit {0} → Row = λ done. agree_list code size regs count k in
    let first = agree_address _ _ _ code size regs l a count k word (c.in-Ok-formal_address.ensures.row code input m (λ k. reads_order code size regs k (agree_head code size regs count k)) entered) in
    let told_then = c.fetch.ensures.reads.tracks ∙ told in
    let agree_then = search_told _ _ _ _ regs (agree_word code size regs l a) (Ok count) tracks word c.fetch.ensures.reads.tracks told agree in
    let matched = c.in-Ok-match_count.ensures.row tracks size regs (regs.place + 1 + 1) told_then agree_then in
    let both = search_then _ _ _ _ _ regs cell tt lists (Ok tt) c.fetch.ensures.reads.places first matched in
    let list : c.behind-list.result + 1 + c.div_ceil-groups.result ≡ regs.place + 1 + 1 + groups_for count = omega (arith, c.behind-list.ensures.value, c.div_ceil-groups.ensures) in
    search_acts _ _ _ _ regs lists (Stopped c.in-Err-ahead.stop)
    (search_stops _ _ _ _ regs lists tt lists c.in-Err-ahead.stop both
    (list_lost code size regs count k (c.behind-list.result + 1 + c.div_ceil-groups.result) c.args.object.now.words c.in-Err-ahead.stop (length_code tracks c.args.object.now) list (sym c.in-Err-ahead.is ∙ c.ahead.ensures.value)))

pub returns-in-Ok-compare_groups-clause-row : goal.returns-in-Ok-compare_groups-clause-row
returns-in-Ok-compare_groups-clause-row g c = λ tracks input told agree entered.
    let code = code_in tracks c.args.object.now in
    let size = length c.args.frames.now.words in
    let m = c.args.m.now in
    let regs = regs_of m c.args.frames.now input in
    let l = c.args.order.level in
    let a = c.args.order.address in
    let count = c.in-Ok.count in
    let word = agree_count _ _ _ code size regs l a c.behind-list.result (Ok count) c.behind-list.ensures.value c.in-Ok.ensures.refers (c.in-Ok.ensures.row tracks told agree (agree_word code size regs l a)) in
    let k = c.in-Ok-formal_address.address in
    let cell : Unit {0} → Row = λ done. reads_order code size regs k (agree_head code size regs count k) in
    let lists : Unit {0} → Row = λ done. agree_list code size regs count k in
    let first = agree_address _ _ _ code size regs l a count k word (c.in-Ok-formal_address.ensures.row code input m (λ k. reads_order code size regs k (agree_head code size regs count k)) entered) in
    let told_then = c.fetch.ensures.reads.tracks ∙ told in
    let agree_then = search_told _ _ _ _ regs (agree_word code size regs l a) (Ok count) tracks word c.fetch.ensures.reads.tracks told agree in
    let matched = c.in-Ok-match_count.ensures.row tracks size regs (regs.place + 1 + 1) told_then agree_then in
    let both = search_then _ _ _ _ _ regs cell tt lists (Ok tt) c.fetch.ensures.reads.places first matched in
    let list : c.behind-list.result + 1 + c.div_ceil-groups.result ≡ regs.place + 1 + 1 + groups_for count = omega (arith, c.behind-list.ensures.value, c.div_ceil-groups.ensures) in
    let there = list_there code size regs count k c.behind-list.result (c.behind-list.result + 1 + c.div_ceil-groups.result) c.args.object.now.words c.in-Ok-ahead.next (length_code tracks c.args.object.now) c.behind-list.ensures.value list (sym c.in-Ok-ahead.is ∙ c.ahead.ensures.value) in
    let told_last = c.match_count.ensures.reads.tracks ∙ told_then in
    let agree_last = search_told _ _ _ _ regs lists (Ok tt) tracks matched c.match_count.ensures.reads.tracks told_then agree_then in
    let goes_on : Unit {0} → Row = λ done. goes code size regs (c.behind-list.result + 1 + groups_for count) regs in
    let same = c.match_count.ensures.reads.places ∙ c.fetch.ensures.reads.places in
    search_goes _ _ _ _ regs regs goes_on tt c.in-Ok-ahead.next
    (search_then _ _ _ _ _ regs lists tt goes_on (Ok tt) same both
    (search_as _ _ _ _ _ regs goes_on (Ok tt) there.0 (c.in-Ok-compare_groups.ensures.row tracks size regs told_last agree_last)))
    there.1

pub returns-in-Err-compare_groups-clause-row : goal.returns-in-Err-compare_groups-clause-row
returns-in-Err-compare_groups-clause-row g c = λ tracks input told agree entered.
    let code = code_in tracks c.args.object.now in
    let size = length c.args.frames.now.words in
    let m = c.args.m.now in
    let regs = regs_of m c.args.frames.now input in
    let l = c.args.order.level in
    let a = c.args.order.address in
    let count = c.in-Ok.count in
    let word = agree_count _ _ _ code size regs l a c.behind-list.result (Ok count) c.behind-list.ensures.value c.in-Ok.ensures.refers (c.in-Ok.ensures.row tracks told agree (agree_word code size regs l a)) in
    let k = c.in-Ok-formal_address.address in
    let cell : Unit {0} → Row = λ done. reads_order code size regs k (agree_head code size regs count k) in
    let lists : Unit {0} → Row = λ done. agree_list code size regs count k in
    let first = agree_address _ _ _ code size regs l a count k word (c.in-Ok-formal_address.ensures.row code input m (λ k. reads_order code size regs k (agree_head code size regs count k)) entered) in
    let told_then = c.fetch.ensures.reads.tracks ∙ told in
    let agree_then = search_told _ _ _ _ regs (agree_word code size regs l a) (Ok count) tracks word c.fetch.ensures.reads.tracks told agree in
    let matched = c.in-Ok-match_count.ensures.row tracks size regs (regs.place + 1 + 1) told_then agree_then in
    let both = search_then _ _ _ _ _ regs cell tt lists (Ok tt) c.fetch.ensures.reads.places first matched in
    let list : c.behind-list.result + 1 + c.div_ceil-groups.result ≡ regs.place + 1 + 1 + groups_for count = omega (arith, c.behind-list.ensures.value, c.div_ceil-groups.ensures) in
    let there = list_there code size regs count k c.behind-list.result (c.behind-list.result + 1 + c.div_ceil-groups.result) c.args.object.now.words c.in-Ok-ahead.next (length_code tracks c.args.object.now) c.behind-list.ensures.value list (sym c.in-Ok-ahead.is ∙ c.ahead.ensures.value) in
    let told_last = c.match_count.ensures.reads.tracks ∙ told_then in
    let agree_last = search_told _ _ _ _ regs lists (Ok tt) tracks matched c.match_count.ensures.reads.tracks told_then agree_then in
    let goes_on : Unit {0} → Row = λ done. goes code size regs (c.behind-list.result + 1 + groups_for count) regs in
    let same = c.match_count.ensures.reads.places ∙ c.fetch.ensures.reads.places in
    search_acts _ _ _ _ regs goes_on c.in-Err-compare_groups.miss
    (search_then _ _ _ _ _ regs lists tt goes_on (Err c.in-Err-compare_groups.miss) same both
    (search_as _ _ _ _ _ regs goes_on (Err c.in-Err-compare_groups.miss) there.0 (c.in-Err-compare_groups.ensures.row tracks size regs told_last agree_last)))

pub returns-in-Err-match_count-clause-reads : goal.returns-in-Err-match_count-clause-reads
returns-in-Err-match_count-clause-reads g c = reads_joined 1 1 (2 * c.args.object.now.words) _ _ _ _ c.fetch.ensures.reads c.match_count.ensures.reads (omega (arith, c.requires.place))

pub returns-in-Err-ahead-clause-reads : goal.returns-in-Err-ahead-clause-reads
returns-in-Err-ahead-clause-reads g c = reads_joined 1 1 (2 * c.args.object.now.words) _ _ _ _ c.fetch.ensures.reads c.match_count.ensures.reads (omega (arith, c.requires.place))

pub returns-in-Ok-compare_groups-clause-reads : goal.returns-in-Ok-compare_groups-clause-reads
returns-in-Ok-compare_groups-clause-reads g c = reads_joined 2 (2 * ((c.in-Ok.count + 9) / 10)) (2 * c.args.object.now.words) _ _ _ _ (reads_joined 1 1 2 _ _ _ _ c.fetch.ensures.reads c.match_count.ensures.reads (omega arith)) c.compare_groups.ensures.reads (omega (arith, c.in-Ok-ahead.ensures.goes.0, c.in-Ok-ahead.ensures.goes.1.within, c.div_ceil-groups.ensures, c.behind-list.ensures.value))

pub returns-in-Err-compare_groups-clause-reads : goal.returns-in-Err-compare_groups-clause-reads
returns-in-Err-compare_groups-clause-reads g c = reads_joined 2 (2 * ((c.in-Ok.count + 9) / 10)) (2 * c.args.object.now.words) _ _ _ _ (reads_joined 1 1 2 _ _ _ _ c.fetch.ensures.reads c.match_count.ensures.reads (omega arith)) c.compare_groups.ensures.reads (omega (arith, c.in-Ok-ahead.ensures.goes.0, c.in-Ok-ahead.ensures.goes.1.within, c.div_ceil-groups.ensures, c.behind-list.ensures.value))
