use Rattle.std.proofs.Common.{◌≡◌, ◌≤◌, length, vec_capacity}
use Rattle.gier_best.proofs.ReferenceStep.{HasPlanned}
use Rattle.gier_best.proofs.planner.plan_reads.Given as goal

abbrev pub invariant-loop-at : goal.invariant-loop-at
invariant-loop-at l =
    HasPlanned l.changes l.count l.at l.places.tracks.items l.places.due.items l.plan.items
    × (length l.places.index.items ≡ length l.initial.places.index.items)
    × (vec_capacity l.initial.plan ≤ vec_capacity l.plan)
    × (vec_capacity l.initial.places.index ≤ vec_capacity l.places.index)
