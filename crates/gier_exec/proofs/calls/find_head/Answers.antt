use Rattle.std.proofs.Common.{Ok, arith, ◌∙◌}
use Rattle.gier_order.specs.Flat.Row.{Row}
use Rattle.gier_order.specs.Flat.Rows.{reads_count}
use Rattle.gier_order.specs.declared.order.Order.{Order}
use Rattle.gier_exec.specs.Rows.{code_in}
use Rattle.gier_exec.specs.declared.activations.Entry.{Entry}
use Rattle.gier_exec.proofs.Readings.{reads_joined}
use Rattle.gier_exec.proofs.SearchReach.{search_told}
use Rattle.gier_exec.proofs.Searches.{search_other, search_then}
use Rattle.gier_exec.proofs.Callings.{search_head}
use Rattle.gier_exec.proofs.calls.find_head.Goals as goal

pub returns-in-Err-clause-row : goal.returns-in-Err-clause-row
returns-in-Err-clause-row g c = λ tracks size regs go made is told agrees.
    let next : Order → Row = λ head. reads_count (code_in tracks c.args.object.now) size regs c.args.address 511 (λ count. go head count) in
    search_other _ _ _ _ regs next (λ (e : Entry). made e.level e.room e.count) c.in-Err.miss (c.in-Err.ensures.row tracks size regs next told agrees)

pub returns-clause-row : goal.returns-clause-row
returns-clause-row g c = λ tracks size regs go made is told agrees.
    let head = c.in-Ok.head in
    let next : Order → Row = λ head. reads_count (code_in tracks c.args.object.now) size regs c.args.address 511 (λ count. go head count) in
    let first = c.in-Ok.ensures.row tracks size regs next told agrees in
    search_then _ _ _ _ _ regs next head (λ (e : Entry). made e.level e.room e.count) c.find_entry.result c.fetch_only.ensures.reads.places first
    (search_head _ _ _ _ regs head go made c.find_entry.result is c.find_entry.ensures.level c.find_entry.ensures.room
    (c.find_entry.ensures.row tracks size regs (λ count. go head count) (c.fetch_only.ensures.reads.tracks ∙ told) (search_told _ _ _ _ regs next (Ok head) tracks first c.fetch_only.ensures.reads.tracks told agrees)))

pub returns-clause-reads : goal.returns-clause-reads
returns-clause-reads g c = reads_joined 1 1 2 _ _ _ _ c.fetch_only.ensures.reads c.find_entry.ensures.reads (omega arith)
