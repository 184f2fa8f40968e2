use Rattle.std.proofs.Common.{◌≡◌, ◌≤◌, ◌+◌, ◌/◌, ℕ, List, Some}
use Rattle.gier_io.specs.Device.{Puts}
use Rattle.gier_places.specs.Contents.{Agrees}
use Rattle.gier_exec.specs.Reading.{Reads, SamePager, pager_view}
use Rattle.gier_exec.specs.Rows.{code_in}
use Rattle.gier_exec.specs.References.{Refers}
use Rattle.gier_exec.proofs.Strings.{Printed}
use Rattle.gier_exec.proofs.library.print_words.Given as goal

abbrev pub invariant-loop-at : goal.invariant-loop-at
invariant-loop-at g l =
    let seen_of = pager_view g.D.Drum.room g.D.Drum.tracks g.D.Drum.journal g.D.Drum.faults in
    let old = seen_of l.initial.pager in
    let new = seen_of l.pager in
    Reads l.at l.object old new
    × (g.K.Sink.faults l.initial.out ≤ g.K.Sink.faults l.out)
    × SamePager l.initial.pager l.pager
    × ((tracks : List (List ℕ)) → g.D.Drum.tracks l.initial.pager.drum.now ≡ Some tracks → Agrees (Some tracks) l.initial.pager.places.now.held
    → (read put : List ℕ) × Refers l.object read old new × Puts (g.K.Sink.holds l.initial.out) put (g.K.Sink.holds l.out) × Printed (code_in tracks l.object) ((l.length + 4) / 5) l.address l.length l.at read put)
