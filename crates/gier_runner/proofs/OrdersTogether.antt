-- That what each order keeps is kept by all of them together.
use Rattle.std.proofs.Common.{◌≡◌, ◌≤◌, ◌++◌, ◌∙◌, ℕ, List, [], length, Option, None, Some, map, refl, ap, sym, arith, inl, inr}
use Rattle.std.proofs.lemmas.List.{append_assoc, map-append, append-nil}
use Rattle.gier_word.specs.Cause.{HasRisen}
use Rattle.gier_drum.specs.declared.drum.Entry.{Entry}
use Rattle.gier_drum.specs.declared.drum.Entry.TheVariants.{Read}
use Rattle.gier_places.specs.Contents.{LogsReads}
use Rattle.gier_best.specs.TraceModel.{AreTracks, KeepsSettings}
use Rattle.gier_exec.specs.Reading.{ReadsMore, tracks_for}
use Rattle.gier_runner.specs.RunInvariant.{Devices, Parts, OnlyReads, KeepsSizes}

logs_none : (entries : Option (List Entry)) → LogsReads entries [] entries
logs_none None = refl
logs_none (Some entries) = rw (append-nil entries) refl

logs_at : (old mid new : Option (List Entry)) (tracks : List ℕ) → mid ≡ old → LogsReads mid tracks new → LogsReads old tracks new
logs_at old mid new tracks same so = rw (sym same) so

logs_both : (old mid new : Option (List Entry)) (first second : List ℕ) → LogsReads old first mid → LogsReads mid second new → LogsReads old (first ++ second) new
logs_both None mid new first second one two = logs_at None mid new second one two
logs_both (Some entries) mid new first second one two =
    logs_at (Some (entries ++ map Read first)) mid new second one two ∙ ap Some (append_assoc entries (map Read first) (map Read second) ∙ ap (λ reads. entries ++ reads) (sym (map-append Read first second)))

reads_both : (old mid new : Option (List Entry)) → ReadsMore old mid → ReadsMore mid new → ReadsMore old new
reads_both old mid new one two = (one.0 ++ two.0, logs_both old mid new one.0 two.0 one.1 two.1)

pub reads_begin : (d : Devices) → OnlyReads d d
reads_begin d = record { room = refl; tracks = refl; journal = ([], logs_none d.journal); drum_later = omega arith; source_later = omega arith; sink_later = omega arith }

pub reads_more : (old mid new : Devices) → OnlyReads old mid → new.room ≡ mid.room → new.tracks ≡ mid.tracks → ReadsMore mid.journal new.journal
    → mid.drum_faults ≤ new.drum_faults → mid.source_faults ≤ new.source_faults → mid.sink_faults ≤ new.sink_faults → OnlyReads old new
reads_more old mid new so room tracks journal drum source sink = record {
  room = room ∙ so.room;
  tracks = tracks ∙ so.tracks;
  journal = reads_both old.journal mid.journal new.journal so.journal journal;
  drum_later = omega (arith, so.drum_later);
  source_later = omega (arith, so.source_later);
  sink_later = omega (arith, so.sink_later);
}

pub sizes_begin : (words : ℕ) (p : Parts) → KeepsSizes words p p
sizes_begin words p = record { steps = omega arith; frames = refl; places = refl; trace = record { limit = refl; tracks = refl; plan = refl }; noted = λ enough tracks. tracks }

pub sizes_more : (words : ℕ) (old mid new : Parts) → KeepsSizes words old mid → new.machine.steps ≤ mid.machine.steps → length new.frames.words ≡ length mid.frames.words
    → new.places.places ≡ mid.places.places → KeepsSettings mid.trace new.trace → (tracks_for words ≤ mid.trace.tracks → AreTracks mid.trace → AreTracks new.trace) → KeepsSizes words old new
sizes_more words old mid new so steps frames places trace noted = record {
  steps = omega (arith, so.steps);
  frames = frames ∙ so.frames;
  places = places ∙ so.places;
  trace = record { limit = trace.limit ∙ so.trace.limit; tracks = trace.tracks ∙ so.trace.tracks; plan = trace.plan ∙ so.trace.plan };
  noted = λ enough tracks. noted (rw so.trace.tracks enough) (so.noted enough tracks);
}

pub risen_later : (old mid new : ℕ) → old ≤ mid → HasRisen mid new → HasRisen old new
risen_later old mid new later (inl rose) = inl (omega arith)
risen_later old mid new later (inr at_end) = inr at_end

-- what holds before the first order, and what one more order keeps
pub ruleset one_more = (reads_begin, reads_more, sizes_begin, sizes_more, risen_later)
