-- What sources and sinks in memory are, and what each call makes of them.
use Rattle.std.specs.Prelude.{◌+◌, ◌-◌, ◌^◌, ◌==◌, ◌++◌, ℕ, Bool, min, if◌then◌else◌, nat_le, List, length, drop, take}
use Rattle.std.specs.List.{list_any}

-- a count after one more; it stops at the last number of 64 bits
abbrev pub count_after : ℕ → ℕ
count_after n = min (n + 1) (2 ^ 64 - 1)

-- the numbers, from 0, of the calls that are to fail, and that of the next call;
-- the latter stops at 2^64, which is no number of 64 bits and so stands in no list
pub record Plan : Type 0 where
  pub fails : List ℕ
  pub call : ℕ

-- whether the next call is to fail
abbrev pub is_due : Plan → Bool
is_due plan = list_any (λ n. n == plan.call) plan.fails

abbrev pub after_call : Plan → Plan
after_call plan = record plan { call = min (plan.call + 1) (2 ^ 64) }

-- a source with planned failures
pub record Planned : Type 0 where
  pub left : List ℕ
  pub plan : Plan
  pub faults : ℕ

-- a planned failure takes no byte and is counted
abbrev pub after_next : Planned → Planned
after_next s = record {
  left = if is_due s.plan then s.left else drop 1 s.left;
  plan = after_call s.plan;
  faults = if is_due s.plan then count_after s.faults else s.faults;
}

-- a sink in memory: the bytes that it holds, how many it can hold, and how often it has failed
pub record Held : Type 0 where
  pub bytes : List ℕ
  pub room : ℕ
  pub faults : ℕ

abbrev pub fits : Held → List ℕ → Bool
fits s more = nat_le (length s.bytes + length more) s.room

abbrev pub after_fault : Held → Held
after_fault s = record s { faults = count_after s.faults }

-- it keeps what fits, and where that isn't all it is a fault
abbrev pub after_put : Held → List ℕ → Held
after_put s more = record {
  bytes = take s.room (s.bytes ++ more);
  room = s.room;
  faults = if fits s more then s.faults else count_after s.faults;
}

-- a sink with planned failures
pub record PlannedSink : Type 0 where
  pub sink : Held
  pub plan : Plan

-- a planned failure keeps nothing of the bytes
abbrev pub after_planned_put : PlannedSink → List ℕ → PlannedSink
after_planned_put s more = record {
  sink = if is_due s.plan then after_fault s.sink else after_put s.sink more;
  plan = after_call s.plan;
}
