-- A pager goes on with what it borrowed: through no read, and through several.
use Rattle.std.specs.Prelude.{◌≡◌, ℕ, List, Option}
use Rattle.std.proofs.Common.{refl, ◌∙◌}
use Rattle.gier_drum.specs.declared.drum.Entry.{Entry}
use Rattle.gier_order.specs.Counts.{Counts}
use Rattle.gier_order.specs.declared.object.Object.{Object}
use Rattle.gier_places.specs.Contents.{Contents}
use Rattle.gier_best.specs.TraceModel.{Traced}
use Rattle.gier_exec.specs.declared.pager.Pager.{Pager}
use Rattle.gier_exec.specs.Reading.{Stand, SamePager, view_of, pager_view}
use Rattle.gier_exec.specs.References.{Refers}

pub same_pager : {D : Type 0} → (pager : Pager D) → SamePager pager pager
same_pager pager = record { drum = refl; places = refl; recent = refl; trace = refl }

pub same_pager_both : {D : Type 0} → (old mid new : Pager D) → SamePager old mid → SamePager mid new → SamePager old new
same_pager_both old mid new first second = record {
  drum = second.drum ∙ first.drum;
  places = second.places ∙ first.places;
  recent = second.recent ∙ first.recent;
  trace = second.trace ∙ first.trace;
}

-- what was read through a pager was read by what it borrowed
pub refers_by : {D : Type 0} → (room : D → ℕ) (tracks : D → Option (List (List ℕ))) (journal : D → Option (List Entry)) (faults : D → ℕ) (object : Object) (refs : List ℕ) (old : Stand) (pager : Pager D) (drum : D) (places : Contents) (recent : Counts) (trace : Traced)
    → drum ≡ pager.drum.now → places ≡ pager.places.now → recent ≡ pager.recent.now → trace ≡ pager.trace.now
    → Refers object refs old (pager_view room tracks journal faults pager) → Refers object refs old (view_of room tracks journal faults drum places recent trace)
refers_by room tracks journal faults object refs old pager drum places recent trace d p r t h = rw d (rw p (rw r (rw t h)))
