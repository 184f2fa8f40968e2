use Rattle.std.proofs.Common.{ℕ, length, nat_lt, sym}
use Rattle.std.specs.Prelude.{slice_index}
use Rattle.gier_order.specs.Flat.Region.{put}
use Rattle.gier_order.specs.Flat.Row.{Row, needs}
use Rattle.gier_order.specs.Flat.Rows.{on}
use Rattle.gier_exec.specs.Rows.{regs_of}
use Rattle.gier_exec.proofs.RowResults.{refused_halts, comes_on}
use Rattle.gier_exec.proofs.Stores.{store_row}
use Rattle.gier_exec.proofs.values.put.Goals as goal

pub returns-in-Ok-clause-row : goal.returns-in-Ok-clause-row
returns-in-Ok-clause-row c = λ code input l entered next.
    let s = c.args.frames.now in
    let m = c.args.m.now in
    let size = length s.words in
    let go : ℕ → Row = λ w. needs (nat_lt w size) (on code size (regs_of m s input) (record (regs_of m s input) { words = put (slice_index s.words) w m.r })) in
    comes_on _ _ _ c.write.result (c.in-Ok.ensures.row code input m go entered)
    (store_row code input m s c.write.new.frames c.in-Ok.place c.write.result next (λ lt. rw (sym c.r.ensures.value) (c.write.ensures.writes entered lt)) c.write.ensures.refused)

pub returns-in-Err-clause-row : goal.returns-in-Err-clause-row
returns-in-Err-clause-row c = λ code input l entered next.
    let s = c.args.frames.now in
    let m = c.args.m.now in
    let size = length s.words in
    let go : ℕ → Row = λ w. needs (nat_lt w size) (on code size (regs_of m s input) (record (regs_of m s input) { words = put (slice_index s.words) w m.r })) in
    refused_halts _ _ c.in-Err.stop (c.in-Err.ensures.row code input m go entered)
