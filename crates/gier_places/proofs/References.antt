-- What one reference does to the tracks that are held, on plain lists.
use Rattle.std.proofs.Common.{◌≡◌, ◌≤◌, ◌<◌, ◌+◌, ◌==◌, ℕ, zero, suc, Bool, true, false, cond, nat_lt, if◌then◌else◌, List, [], ◌∷◌, ◌++◌, length, map, take, get_or, Option, None, Some, inl, inr, refl, sym, ap, ◌∙◌, subst, arith, append_assoc}
use Rattle.std.specs.List.{All, remove, position, position_or_len, slice_get}
use Rattle.std.proofs.lemmas.Bool.Decides.{nat_tests, eqb_tells}
use Rattle.std.proofs.lemmas.List.{length-map, map-append, take_all, take-map, length-append}
use Rattle.std.proofs.lemmas.List.Elements.{All-take, All-drop, All-append}
use Rattle.std.proofs.lemmas.List.Quantifiers.{position-Some}
use Rattle.gier_drum.specs.declared.drum.Entry.{Entry}
use Rattle.gier_drum.specs.declared.drum.Entry.TheVariants.{Read}
use Rattle.gier_drum.specs.Drum.{GivesTrack, Logs}
use Rattle.gier_order.specs.Misses.{is_among, without, misses, most_recent}
use Rattle.gier_order.proofs.Recency.{IsOnce, without_absent, most_recent_once, most_recent-one_more, misses-one_more}
use Rattle.gier_places.specs.HeldTracks.{HeldTrack, moved_first, latest_words}
use Rattle.gier_places.proofs.MoveToFront.{moved, length-moved}
use Rattle.gier_places.specs.Contents.{Contents, tracks_of, is_held, StandsFor, Agrees, Refers, LogsReads}

abbrev pub blank : HeldTrack
blank = record { track = 0; words = [] }

-- finding a track

equal : (a b : ℕ) → (a == b) ≡ true → a ≡ b
equal a b same = grind (arith, nat_tests)

pub found_in : (track : ℕ) (held : List HeldTrack) (place : ℕ) → Some place ≡ position (λ (h : HeldTrack). h.track == track) held → (place < length held) × ((get_or held place blank).track ≡ track)
found_in track held place found =
    let there = position-Some (λ (h : HeldTrack). h.track == track) held place blank (sym found) in
    (there.0, equal (get_or held place blank).track track there.1)

is_false : (b : Bool) (n : ℕ) → None ≡ cond b (Some n) None → b ≡ false
is_false true n none = cc
is_false false n none = refl

absent_by : (track : ℕ) (held : List HeldTrack) → nat_lt (position_or_len (λ (h : HeldTrack). h.track == track) held) (length held) ≡ false → is_among track (tracks_of held) ≡ false
absent_by track [] past = refl
absent_by track (h ∷ held) past = elim (eqb_tells h.track track) [
  | inl same ↦ absurd (grind (arith, nat_tests, rw same.0 at past))
  | inr other ↦ rw other.0 (absent_by track held (grind (arith, nat_tests, rw other.0 at past)))
]

pub absent_in : (track : ℕ) (held : List HeldTrack) → None ≡ position (λ (h : HeldTrack). h.track == track) held → is_among track (tracks_of held) ≡ false
absent_in track held none = absent_by track held (is_false _ _ none)

pub present : (track : ℕ) (held : List HeldTrack) (place : ℕ) → place < length held → (get_or held place blank).track ≡ track → is_among track (tracks_of held) ≡ true
present track [] place lt is = absurd (omega arith)
present track (h ∷ held) zero lt is = elim (eqb_tells h.track track) [
  | inl same ↦ rw same.0 refl
  | inr other ↦ absurd (other.1 is)
]
present track (h ∷ held) (suc place) lt is = elim (eqb_tells h.track track) [
  | inl same ↦ rw same.0 refl
  | inr other ↦ rw other.0 (present track held place (omega arith) is)
]

pub tracks_of-remove : (track : ℕ) (held : List HeldTrack) (place : ℕ) → IsOnce (tracks_of held) → place < length held → (get_or held place blank).track ≡ track → tracks_of (remove held place) ≡ without track (tracks_of held)
tracks_of-remove track [] place once lt is = absurd (omega arith)
tracks_of-remove track (h ∷ held) zero once lt is = elim (eqb_tells h.track track) [
  | inl same ↦
      let apart : is_among track (tracks_of held) ≡ false = subst (λ (t : ℕ). is_among t (tracks_of held) ≡ false) same.1 once.0 in
      rw same.0 (sym (without_absent track (tracks_of held) apart))
  | inr other ↦ absurd (other.1 is)
]
tracks_of-remove track (h ∷ held) (suc place) once lt is = elim (eqb_tells h.track track) [
  | inl same ↦
      let apart : is_among track (tracks_of held) ≡ false = subst (λ (t : ℕ). is_among t (tracks_of held) ≡ false) same.1 once.0 in
      let there : is_among track (tracks_of held) ≡ true = present track held place (omega arith) is in
      let no : true ≡ false = sym there ∙ apart in
      cc
  | inr other ↦ rw other.0 (ap (λ (ts : List ℕ). h.track ∷ ts) (tracks_of-remove track held place once.1 (omega arith) is))
]

-- the misses

if_true : (b : Bool) (xs ys : List ℕ) → b ≡ true → (if b then xs else ys) ≡ xs
if_true true xs ys is = refl
if_true false xs ys is = cc

if_false : (b : Bool) (xs ys : List ℕ) → b ≡ false → (if b then xs else ys) ≡ ys
if_false true xs ys is = cc
if_false false xs ys is = refl

misses-held : (refs : List ℕ) (places track : ℕ) → is_among track (most_recent places refs) ≡ true → misses (refs ++ track ∷ []) places ≡ misses refs places
misses-held refs places track among = misses-one_more refs places track ∙ if_true _ (misses refs places) _ among

misses-absent : (refs : List ℕ) (places track : ℕ) → is_among track (most_recent places refs) ≡ false → misses (refs ++ track ∷ []) places ≡ misses refs places ++ track ∷ []
misses-absent refs places track absent = misses-one_more refs places track ∙ if_false _ (misses refs places) _ absent

among_stands : (b : Bool) (old : Contents) (refs : List ℕ) (track : ℕ) → StandsFor old refs → is_held old track ≡ b → is_among track (most_recent old.places refs) ≡ b
among_stands b old refs track stands is = subst (λ (ts : List ℕ). is_among track ts ≡ b) stands.tracks is

recent_stands : (old : Contents) (refs : List ℕ) (track : ℕ) → StandsFor old refs → most_recent old.places (refs ++ track ∷ []) ≡ take old.places (track ∷ without track (tracks_of old.held))
recent_stands old refs track stands =
    most_recent-one_more old.places refs track ∙ ap (λ (ts : List ℕ). take old.places (track ∷ without track ts)) (sym stands.tracks)

-- a track that is held

pub Refers-held : (old new : Contents) (track place : ℕ) → new.places ≡ old.places → new.transfers ≡ old.transfers → new.held ≡ moved_first old.held place → length old.held ≤ old.places → place < length old.held → (get_or old.held place blank).track ≡ track → Refers old track new
Refers-held old new track place places transfers held fits lt is =
    let now : new.held ≡ get_or old.held place blank ∷ remove old.held place = held ∙ moved blank old.held place lt in
    let among : is_held old track ≡ true = present track old.held place lt is in
    let long : length (tracks_of new.held) ≤ old.places = omega (arith, length-map new.held (λ (h : HeldTrack). h.track), ap length held, length-moved old.held place) in
    record {
      places = places;
      latest = rw now (ap Some is);
      transfers = rw among transfers;
      stands = λ refs stands.
          let once : IsOnce (tracks_of old.held) = subst IsOnce (sym stands.tracks) (most_recent_once old.places refs) in
          let tracks : tracks_of new.held ≡ track ∷ without track (tracks_of old.held) =
          ap tracks_of now
          ∙ ap (λ (t : ℕ). t ∷ tracks_of (remove old.held place)) is
          ∙ ap (λ (ts : List ℕ). track ∷ ts) (tracks_of-remove track old.held place once lt is) in
          record {
            tracks = rw places (sym (recent_stands old refs track stands ∙ ap (take old.places) (sym tracks) ∙ take_all old.places (tracks_of new.held) long));
            transfers = rw places (transfers ∙ stands.transfers ∙ ap length (sym (misses-held refs old.places track (among_stands true old refs track stands among))));
          };
    }

-- a track that was read

first_taken : (n : ℕ) (h : HeldTrack) (held : List HeldTrack) → 1 ≤ n → slice_get (tracks_of (take n (h ∷ held))) 0 ≡ Some h.track
first_taken zero h held some = absurd (omega arith)
first_taken (suc n) h held some = refl

pub Refers-read : (old new : Contents) (track : ℕ) (words : List ℕ) → new.places ≡ old.places → new.transfers ≡ old.transfers + 1 → new.held ≡ take old.places (record { track = track; words = words } ∷ old.held) → 1 ≤ old.places → is_held old track ≡ false → Refers old track new
Refers-read old new track words places transfers held some absent = record {
  places = places;
  latest = rw held (first_taken old.places (record { track = track; words = words }) old.held some);
  transfers = rw absent transfers;
  stands = λ refs stands.
      let others : without track (tracks_of old.held) ≡ tracks_of old.held = without_absent track (tracks_of old.held) absent in
      let tracks : tracks_of new.held ≡ take old.places (track ∷ tracks_of old.held) =
      ap tracks_of held ∙ sym (take-map (λ (h : HeldTrack). h.track) old.places (record { track = track; words = words } ∷ old.held)) in
      let more : misses (refs ++ track ∷ []) old.places ≡ misses refs old.places ++ track ∷ [] = misses-absent refs old.places track (among_stands false old refs track stands absent) in
      record {
        tracks = rw places (tracks ∙ sym (recent_stands old refs track stands ∙ ap (λ (ts : List ℕ). take old.places (track ∷ ts)) others));
        transfers = rw places (omega (arith, transfers, stands.transfers, ap length more, length-append (misses refs old.places) (track ∷ [])));
      };
}

-- the words

all_cons : (P : HeldTrack → Type 0) (h : HeldTrack) (held : List HeldTrack) → P h → All P held → All P (h ∷ held)
all_cons P h held first others zero d lt = first
all_cons P h held first others (suc k) d lt = others k d (omega arith)

all_remove : (P : HeldTrack → Type 0) (held : List HeldTrack) (place : ℕ) → All P held → All P (remove held place)
all_remove P held place all = All-append P _ _ (All-take P place held all) (All-drop P (suc place) held all)

pub Agrees-held : (tracks : Option (List (List ℕ))) (held new : List HeldTrack) (place : ℕ) → new ≡ moved_first held place → place < length held → Agrees tracks held → Agrees tracks new
Agrees-held None held new place is lt agrees = tt
Agrees-held (Some tracks) held new place is lt agrees =
    rw (is, moved blank held place lt) (all_cons (λ (h : HeldTrack). slice_get tracks h.track ≡ Some h.words) (get_or held place blank) (remove held place) (agrees place blank lt) (all_remove (λ (h : HeldTrack). slice_get tracks h.track ≡ Some h.words) held place agrees))

pub given-held : (tracks : Option (List (List ℕ))) (held new : List HeldTrack) (track place : ℕ) → new ≡ moved_first held place → place < length held → (get_or held place blank).track ≡ track → Agrees tracks held → GivesTrack tracks track (latest_words new)
given-held None held new track place is lt same agrees = tt
given-held (Some tracks) held new track place is lt same agrees = rw (is, moved blank held place lt, ← same) (agrees place blank lt)

pub Agrees-read : (tracks : Option (List (List ℕ))) (held : List HeldTrack) (places track : ℕ) (words : List ℕ) → GivesTrack tracks track words → Agrees tracks held → Agrees tracks (take places (record { track = track; words = words } ∷ held))
Agrees-read None held places track words given agrees = tt
Agrees-read (Some tracks) held places track words given agrees =
    All-take (λ (h : HeldTrack). slice_get tracks h.track ≡ Some h.words) places _ (all_cons (λ (h : HeldTrack). slice_get tracks h.track ≡ Some h.words) (record { track = track; words = words }) held given agrees)

pub latest_words-take : (places : ℕ) (h : HeldTrack) (held : List HeldTrack) → 1 ≤ places → latest_words (take places (h ∷ held)) ≡ h.words
latest_words-take zero h held some = absurd (omega arith)
latest_words-take (suc n) h held some = refl

-- the journal

pub LogsReads-held : (before journal : Option (List Entry)) (old : Contents) (refs : List ℕ) (track : ℕ) → is_held old track ≡ true → StandsFor old refs → LogsReads before (misses refs old.places) journal → LogsReads before (misses (refs ++ track ∷ []) old.places) journal
LogsReads-held before journal old refs track among stands logs =
    rw (misses-held refs old.places track (among_stands true old refs track stands among)) logs

logs_more : (before old new : Option (List Entry)) (tracks : List ℕ) (track : ℕ) → Logs old (Read track) new → LogsReads before tracks old → LogsReads before (tracks ++ track ∷ []) new
logs_more None None new tracks track more logs = more
logs_more None (Some entries) new tracks track more logs = cc
logs_more (Some first) None new tracks track more logs = cc
logs_more (Some first) (Some entries) new tracks track more logs =
    let were : entries ≡ first ++ map Read tracks = cc in
    more ∙ ap Some (rw (were, map-append Read tracks (track ∷ [])) (append_assoc first (map Read tracks) (Read track ∷ [])))

pub LogsReads-read : (before journal new : Option (List Entry)) (old : Contents) (refs : List ℕ) (track : ℕ) → is_held old track ≡ false → Logs journal (Read track) new → StandsFor old refs → LogsReads before (misses refs old.places) journal → LogsReads before (misses (refs ++ track ∷ []) old.places) new
LogsReads-read before journal new old refs track absent more stands logs =
    rw (misses-absent refs old.places track (among_stands false old refs track stands absent)) (logs_more before journal new (misses refs old.places) track more logs)
