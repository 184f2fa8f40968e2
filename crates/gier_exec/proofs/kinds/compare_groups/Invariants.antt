use Rattle.std.proofs.Common.{◌≡◌, ◌*◌, ℕ, List, Some, Ok}
use Rattle.gier_places.specs.Contents.{Agrees}
use Rattle.gier_order.specs.Flat.Row.{Regs}
use Rattle.gier_order.specs.Flat.Rows.{agrees}
use Rattle.gier_order.specs.Flat.Kinds.{groups_for}
use Rattle.gier_exec.specs.Rows.{code_in}
use Rattle.gier_exec.specs.Reading.{Reads, SamePager, pager_view}
use Rattle.gier_exec.specs.Searching.{RefinesSearch}
use Rattle.gier_exec.proofs.Comparings.{agrees_from}
use Rattle.gier_exec.proofs.kinds.compare_groups.Given as goal

abbrev pub invariant-loop-group : goal.invariant-loop-group
invariant-loop-group g l =
    Reads (2 * l.group) l.object
    (pager_view g.D.Drum.room g.D.Drum.tracks g.D.Drum.journal g.D.Drum.faults l.initial.pager)
    (pager_view g.D.Drum.room g.D.Drum.tracks g.D.Drum.journal g.D.Drum.faults l.pager)
    × SamePager l.initial.pager l.pager
    × ((tracks : List (List ℕ)) (size : ℕ) (regs : Regs) → g.D.Drum.tracks l.initial.pager.drum.now ≡ Some tracks → Agrees (Some tracks) l.initial.pager.places.now.held
    → RefinesSearch l.object
    (pager_view g.D.Drum.room g.D.Drum.tracks g.D.Drum.journal g.D.Drum.faults l.initial.pager)
    (pager_view g.D.Drum.room g.D.Drum.tracks g.D.Drum.journal g.D.Drum.faults l.pager)
    (agrees (code_in tracks l.object) size regs (groups_for l.count) l.formals l.actuals l.count) regs
    (λ (done : Unit {0}). agrees_from (code_in tracks l.object) size regs (groups_for l.count) l.group l.formals l.actuals l.count) (Ok tt))
