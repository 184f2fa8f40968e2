-- What one read of a word of the object does, and several one after another.
use Rattle.std.specs.Prelude.{◌≡◌, ◌+◌, ◌≤◌, ℕ, Bool, true, false, IsTrue, if◌then◌else◌, List, [], ◌∷◌, ◌++◌, map, Option, None, Some, Result, Ok, Err}
use Rattle.std.proofs.Common.{arith, rules, refl, ap, sym, inl, inr, ◌∙◌}
use Rattle.std.proofs.lemmas.List.{append-nil, append_assoc, map-append}
use Rattle.gier_drum.specs.declared.drum.Entry.{Entry}
use Rattle.gier_drum.specs.declared.drum.Entry.TheVariants.{Read}
use Rattle.gier_drum.specs.Drum.{Logs}
use Rattle.gier_word.specs.Cause.{HasRisen}
use Rattle.gier_order.specs.declared.object.Object.{Object}
use Rattle.gier_places.specs.Contents.{Contents, LogsReads, AfterRefer, Refers}
use Rattle.gier_best.specs.TraceModel.{Traced, KeepsSettings}
use Rattle.gier_exec.specs.Reading.{Stand, CanRead, Reads, ReadsMore}

-- a read that fails or finds its track in a place leaves the journal
pub reads_none : (old : Option (List Entry)) → ReadsMore old old
reads_none None = ([], refl)
reads_none (Some entries) = ([], ap Some (sym (append-nil entries)))

reads_one : (old new : Option (List Entry)) (track : ℕ) → Logs old (Read track) new → ReadsMore old new
reads_one None new track logs = (track ∷ [], logs)
reads_one (Some entries) new track logs = (track ∷ [], logs)

pub reads_by : (held : Bool) (old new : Option (List Entry)) (track : ℕ) → (IsTrue held → new ≡ old) → (held ≡ false → Logs old (Read track) new) → ReadsMore old new
reads_by true old new track hit read = let same : new ≡ old = hit (search rules) in rw same (reads_none old)
reads_by false old new track hit read = reads_one old new track (read refl)

both : (old mid new : Option (List Entry)) (first second : List ℕ) → LogsReads old first mid → LogsReads mid second new → LogsReads old (first ++ second) new
both None None new first second is_mid is_new = is_new
both None (Some entries) new first second is_mid is_new = absurd cc
both (Some entries) None new first second is_mid is_new = absurd cc
both (Some entries) (Some more) new first second is_mid is_new =
    let same : more ≡ entries ++ map Read first = cc in
    is_new ∙ ap Some (ap (λ es. es ++ map Read second) same ∙ append_assoc entries (map Read first) (map Read second) ∙ ap (λ es. entries ++ es) (sym (map-append Read first second)))

pub reads_both : (old mid new : Option (List Entry)) → ReadsMore old mid → ReadsMore mid new → ReadsMore old new
reads_both old mid new first second = (first.0 ++ second.0, both old mid new first.0 second.0 first.1 second.1)

settings_both : {old mid new : Traced} → KeepsSettings old mid → KeepsSettings mid new → KeepsSettings old new
settings_both first second = record { limit = second.limit ∙ first.limit; tracks = second.tracks ∙ first.tracks; plan = second.plan ∙ first.plan }

pub reads_joined : (a b n : ℕ) (object : Object) (old mid new : Stand) → Reads a object old mid → Reads b object mid new → a + b ≤ n → Reads n object old new
reads_joined a b n object old mid new first second fits = record {
  room = second.room ∙ first.room;
  tracks = second.tracks ∙ first.tracks;
  journal = reads_both old.journal mid.journal new.journal first.journal second.journal;
  faults = omega (arith, first.faults, second.faults);
  places = second.places ∙ first.places;
  transfers = omega (arith, first.transfers, second.transfers, fits);
  references = omega (arith, first.references, second.references, fits);
  settings = settings_both first.settings second.settings;
  noted = λ least were. second.noted (rw (first.settings.tracks) least) (first.noted least were);
}

-- what a reference that succeeded leaves
pub refers_of : {T E : Type 0} → (tracks : Option (List (List ℕ))) (old new : Contents) (track : ℕ) (result : Result T E) (x : T) → AfterRefer tracks old track result new → result ≡ Ok x → Refers old track new
refers_of tracks old new track (Ok y) x after is = after.0
refers_of tracks old new track (Err failed) x after is = absurd cc

pub one_at_most : (held : Bool) (old new : ℕ) → new ≡ (if held then old else old + 1) → new ≤ old + 1
one_at_most true old new is = omega (arith, is)
one_at_most false old new is = omega (arith, is)

-- nothing was read
pub reads_nothing : (n : ℕ) (object : Object) (s : Stand) → Reads n object s s
reads_nothing n object s = record {
  room = refl;
  tracks = refl;
  journal = reads_none s.journal;
  faults = omega arith;
  places = refl;
  transfers = omega arith;
  references = omega arith;
  settings = record { limit = refl; tracks = refl; plan = refl };
  noted = λ least were. were;
}

pub reads_fewer : (a n : ℕ) (object : Object) (old new : Stand) → Reads a object old new → a ≤ n → Reads n object old new
reads_fewer a n object old new first fits = record {
  room = first.room;
  tracks = first.tracks;
  journal = first.journal;
  faults = first.faults;
  places = first.places;
  transfers = omega (arith, first.transfers, fits);
  references = omega (arith, first.references, fits);
  settings = first.settings;
  noted = first.noted;
}

-- fewer words can be read too, and what is left after some were read
pub can_fewer : (a n : ℕ) (object : Object) (s : Stand) → CanRead n object s → a ≤ n → CanRead a object s
can_fewer a n object s can fits = record {
  words = can.words;
  in_room = can.in_room;
  references = omega (arith, can.references, fits);
  transfers = omega (arith, can.transfers, fits);
}

pub can_behind : (a b n : ℕ) (object : Object) (old new : Stand) → CanRead n object old → Reads a object old new → a + b ≤ n → CanRead b object new
can_behind a b n object old new can first fits = record {
  words = can.words;
  in_room = rw first.room can.in_room;
  references = omega (arith, can.references, first.references, fits);
  transfers = omega (arith, can.transfers, first.transfers, fits);
}

-- the count of faults rose in all, where it rose at last
pub risen_behind : (old mid new : ℕ) → old ≤ mid → HasRisen mid new → HasRisen old new
risen_behind old mid new later (inl rose) = inl (omega (arith, later, rose))
risen_behind old mid new later (inr stands) = inr stands
