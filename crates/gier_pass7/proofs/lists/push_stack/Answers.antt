use Rattle.gier_pass7.proofs.EntryWords.{twelve_small}
use Rattle.gier_pass7.proofs.lists.push_stack.Goals as goal

pub push-requires-clause-small : goal.push-requires-clause-small
push-requires-clause-small c = twelve_small c.short.result c.short-then-len-room.result c.short-then-len-room-2.result c.short-then-len-room-3.result c.short-then-len-room-4.result c.short-then-len-room-5.result c.short-then-len-room-6.result c.short-then-len-room-7.result c.short-then-len-room-8.result c.short-then-len-room-9.result c.short-then-len-room-10.result c.short-then-len-room-11.result c.short.ensures c.short-then-len-room.ensures c.short-then-len-room-2.ensures c.short-then-len-room-3.ensures c.short-then-len-room-4.ensures c.short-then-len-room-5.ensures c.short-then-len-room-6.ensures c.short-then-len-room-7.ensures c.short-then-len-room-8.ensures c.short-then-len-room-9.ensures c.short-then-len-room-10.ensures c.short-then-len-room-11.ensures
