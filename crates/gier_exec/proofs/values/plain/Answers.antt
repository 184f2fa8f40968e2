use Rattle.std.proofs.Common.{refl, arith}
use Rattle.gier_exec.proofs.RowResults.{NotOthers, plain_value, value_starts, entered_of}
use Rattle.gier_exec.proofs.values.plain.Goals as goal

pub returns-in-Keep-clause-row : goal.returns-in-Keep-clause-row
returns-in-Keep-clause-row c = λ code input there is next. rw c.in-Keep.is (c.keep.ensures.row code input c.args.order.level (entered_of _ (rw c.in-Keep.is at there)) next)

pub returns-in-Put-clause-row : goal.returns-in-Put-clause-row
returns-in-Put-clause-row c = λ code input there is next. rw c.in-Put.is (c.put.ensures.row code input c.args.order.level (entered_of _ (rw c.in-Put.is at there)) next)

pub returns-in-Block-clause-row : goal.returns-in-Block-clause-row
returns-in-Block-clause-row c = λ code input there is next. rw c.in-Block.is (c.enter_block.ensures.row code input (entered_of _ (rw c.in-Block.is at there)) next)

pub returns-in-Leave-clause-row : goal.returns-in-Leave-clause-row
returns-in-Leave-clause-row c = λ code input there is next. rw c.in-Leave.is (c.leave_block.ensures.row code input c.args.order.level c.args.order.address (entered_of _ (rw c.in-Leave.is at there)) next)

pub returns-in-Array-clause-row : goal.returns-in-Array-clause-row
returns-in-Array-clause-row c = λ code input there is next. rw c.in-Array.is (c.take_array.ensures.row code input (entered_of _ (rw c.in-Array.is at there)) next)

pub returns-in-Lab-clause-row : goal.returns-in-Lab-clause-row
returns-in-Lab-clause-row c = λ code input there is next. rw c.in-Lab.is (c.form_label.ensures.row code input (entered_of _ (rw c.in-Lab.is at there)) next)

pub returns-in-Start-clause-row : goal.returns-in-Start-clause-row
returns-in-Start-clause-row c = λ code input there is next. rw c.in-Start.is (c.start.ensures.row code input next)

pub returns-in-Err : goal.returns-in-Err
returns-in-Err c =
    let others : NotOthers c.args.operation = (c.in_default.not-Keep, c.in_default.not-Put, c.in_default.not-Block, c.in_default.not-Leave, c.in_default.not-Array, c.in_default.not-Lab, c.in_default.not-Start) in
    record {
      row = λ code input there is next.
          let value = plain_value c.args.operation others is in
          c.in-Err.ensures.row code input (entered_of _ (rw (value_starts c.args.operation value) at there)) next value;
      stays = record {
        keeps = record { place = refl; steps = omega arith };
        lighter = omega arith;
        size = refl;
        same = λ e. (refl, refl);
      };
    }
