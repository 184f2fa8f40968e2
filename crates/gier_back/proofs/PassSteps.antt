-- What a pass of the back does, put together from the calls of texts and of the pass.
use Rattle.std.proofs.Common.{false, ◌≡◌, ◌≤◌, ◌<◌, ◌++◌, ◌∙◌, ◌-◌, ℕ, List, [], Option, None, Some, Result, Ok, Err, true, length, refl, sym, ap, subst, arith, inl, inr, reverse, append_assoc, ◌+◌}
use Rattle.std.specs.Prelude.{IfOk, IsErrOf, OnOk, IsTrue, is_some}
use Rattle.std.proofs.lemmas.List.{length-reverse, get_or-reverse, reverse-reverse}
use Rattle.gier_drum.specs.declared.drum.Entry.{Entry}
use Rattle.gier_symbol.specs.declared.symbol.Symbol.{Symbol}
use Rattle.gier_symbol.specs.Texts.{stands_in}
use Rattle.gier_word.specs.declared.refusal.Odd.{Odd}
use Rattle.gier_text.specs.declared.pass.PassStop.{PassStop}
use Rattle.gier_text.specs.declared.pass.PassStop.TheVariants.{Drum, Memory, Full, Spoilt}
use Rattle.gier_text.specs.SymbolsOnTracks.{symbols_of, all_symbols, tracks_for}
use Rattle.gier_text.specs.Drive.{SpoiltAs}
use Rattle.gier_text.specs.Log.{LogsAll}
use Rattle.gier_text.specs.Own.{own_view}
use Rattle.gier_text.specs.declared.text.Way.TheVariants.{Backward}
use Rattle.gier_text.specs.View.{View, KeepsTracks, SameTracks, OrdersLeft}
use Rattle.gier_text.specs.Potential.{IsShort}
use Rattle.gier_limits.specs.Areas.{longest}
use Rattle.gier_pass8.specs.Exact.{WritesText8}
use Rattle.gier_tree.specs.Complete.{IsComplete}
use Rattle.gier_pass8.specs.Invariant.{Relates}
use Rattle.gier_pass9.specs.ObjectOfText.{object_words, HoldsWords, Makes}
use Rattle.gier_pass9.specs.Objects.{IsText7}
use Rattle.gier_pass9.proofs.Objects.{same_words}
use Rattle.gier_tree.specs.Object.{text8_of, object_of}
use Rattle.gier_drum.specs.View.{DrumView, Extends, PreservesDrum}
use Rattle.gier_drum.proofs.View.{preserves_more}
use Rattle.gier_back.specs.Passes.{Writes}
use Rattle.gier_back.specs.declared.stop.BackStop.{BackStop}
use Rattle.gier_back.specs.declared.stop.BackStop.TheVariants.{Drum as BackDrum}
use Rattle.gier_back.specs.Stops.{stop_of, OnlyDrum, DrumOr, SpoiltAs as BackSpoiltAs}

-- what a call of a text adds to the journal
pub extends_by : (entries : List Entry) (before after : Option (List Entry)) → LogsAll before entries after → Extends before after
extends_by entries None after logged = logged
extends_by entries (Some old) after logged = (entries, logged)

pub tracks_wider : (first to end : ℕ) (old new : Option (List (List ℕ))) → to ≤ end → KeepsTracks first to old new → KeepsTracks 0 end old new
tracks_wider first to end old new le h = record {
  told = h.told;
  others = λ t out. h.others t (elim out [ inl before ↦ absurd (omega arith) | inr behind ↦ inr (omega arith) ]);
}

pub tracks_both : (end : ℕ) (old mid new : Option (List (List ℕ))) → KeepsTracks 0 end old mid → KeepsTracks 0 end mid new → KeepsTracks 0 end old new
tracks_both end old mid new h k = record { told = k.told ∙ h.told; others = λ t out. k.others t out ∙ h.others t out }

pub changes_more : (end : ℕ) (old mid new : DrumView) → PreservesDrum (KeepsTracks 0 end) old mid → PreservesDrum (KeepsTracks 0 end) mid new
    → PreservesDrum (KeepsTracks 0 end) old new
changes_more end old mid new h k = preserves_more (KeepsTracks 0 end) (tracks_both end) old mid new h k

-- a call that changes tracks before this one
pub changes_of : (first to end : ℕ) (entries : List Entry) (old new : DrumView) → to ≤ end → new.room ≡ old.room
    → KeepsTracks first to old.tracks new.tracks → LogsAll old.journal entries new.journal → old.faults ≤ new.faults
    → PreservesDrum (KeepsTracks 0 end) old new
changes_of first to end entries old new le room tracks logged later = record {
  keeps = record { same_room = room; same_tracks = tracks_wider first to end old.tracks new.tracks le tracks; later = later };
  logged = extends_by entries old.journal new.journal logged;
}

-- what pass 7 writes is meant for pass 8, backward
pub short_back : (text bytes : ℕ) (list : List Symbol) → IsShort text bytes list → IsShort text bytes (reverse list)
short_back text bytes list h = record {
  letters = λ k d lt.
      let within : k < length list = omega (arith, lt, length-reverse list) in
      subst (λ s. IsTrue (stands_in text s.tag)) (sym (get_or-reverse list k d within)) (h.letters (length list - 1 - k) d (omega (arith, within)));
  short = omega (arith, h.short, length-reverse list);
}

pub blank_on : (tracks : Option (List (List ℕ))) (first loaded : ℕ) (buffer : List ℕ) (count : ℕ) → count ≡ 0 → is_some tracks ≡ true → all_symbols (symbols_of tracks first loaded buffer count) ≡ Some []
unfolding symbols_of
blank_on None first loaded buffer count none all_symbols = cc
blank_on (Some tracks) first loaded buffer count none all_symbols = rw none refl

-- tracks are told where a text on them is
pub told_on : (tracks : Option (List (List ℕ))) (first count : ℕ) (list : List Symbol) → all_symbols (symbols_of tracks first 0 [] count) ≡ Some list → is_some tracks ≡ true
unfolding symbols_of
told_on None first count list is = cc
told_on (Some tracks) first count list is = refl

-- a pass that never wants memory or is full is stopped by the drum, or by what it finds
pub drum_or : (r : Result ℕ PassStop) (P : Odd → Type 0) → (r ≡ Err Memory → ⊥) → (r ≡ Err Full → ⊥) → SpoiltAs r P → DrumOr r P
drum_or (Ok x) P memory full spoilt = tt
drum_or (Err Drum) P memory full spoilt = tt
drum_or (Err Memory) P memory full spoilt = memory refl
drum_or (Err Full) P memory full spoilt = full refl
drum_or (Err (Spoilt odd)) P memory full spoilt = spoilt

-- what is left of a text that is read backward from its end
pub left_back : (held : Option (List Symbol)) (list : List Symbol) (left : Option (List Symbol)) → held ≡ Some list → OrdersLeft held Backward left → left ≡ Some (reverse list)
left_back None list left is orders = cc
left_back (Some xs) list left is orders = let same : xs ≡ list = cc in subst (λ l. left ≡ Some (reverse l)) same orders

-- the back stops for the drum only where a pass did
pub err_drum : {T : Type 0} (stop : PassStop) (result : BackStop) → result ≡ stop_of stop → IsErrOf {T = T} {E = BackStop} (Err result) BackDrum → stop ≡ Drum
err_drum Drum result is h = refl
err_drum Memory result is h = cc
err_drum Full result is h = cc
err_drum (Spoilt odd) result is h = cc

pub only_drum : (stop : PassStop) (result : BackStop) (P : Odd → Type 0) → result ≡ stop_of stop → OnlyDrum {T = ℕ} (Err stop) → BackSpoiltAs {T = ℕ} (Err result) P
only_drum Drum result P is only = rw is tt
only_drum Memory result P is only = absurd only
only_drum Full result P is only = absurd only
only_drum (Spoilt odd) result P is only = absurd only

pub drum_or_as : (stop : PassStop) (result : BackStop) (P Q : Odd → Type 0) → result ≡ stop_of stop → ((odd : Odd) → P odd → Q odd) → DrumOr {T = ℕ} (Err stop) P → BackSpoiltAs {T = ℕ} (Err result) Q
drum_or_as Drum result P Q is f h = rw is tt
drum_or_as Memory result P Q is f h = absurd h
drum_or_as Full result P Q is f h = absurd h
drum_or_as (Spoilt odd) result P Q is f h = rw is (f odd h)

pub on_ok : {T E : Type 0} (r : Result T E) (P : Type 0) → P → OnOk r P
on_ok (Ok x) P p = p
on_ok (Err e) P p = tt

-- tracks that lie behind the changed ones, or before them
pub same_behind : (first end from to : ℕ) (old new : Option (List (List ℕ))) → end ≤ from → KeepsTracks first end old new → SameTracks from to old new
same_behind first end from to old new le h = record { told = h.told; own = λ t ge lt. h.others t (inr (omega arith)) }

pub same_before : (first end from to : ℕ) (old new : Option (List (List ℕ))) → to ≤ first → KeepsTracks first end old new → SameTracks from to old new
same_before first end from to old new le h = record { told = h.told; own = λ t ge lt. h.others t (inl (omega arith)) }

pub same_both : (from to : ℕ) (old mid new : Option (List (List ℕ))) → SameTracks from to old mid → SameTracks from to mid new → SameTracks from to old new
same_both from to old mid new h k = record { told = k.told ∙ h.told; own = λ t ge lt. k.own t ge lt ∙ h.own t ge lt }

same_part : (from to end : ℕ) (old new : Option (List (List ℕ))) → end ≤ to → SameTracks from to old new → SameTracks from end old new
same_part from to end old new le h = record { told = h.told; own = λ t ge lt. h.own t ge (omega arith) }

-- a text on the tracks from one up to another
pub text_same : (from to count : ℕ) (old new : Option (List (List ℕ))) → from + tracks_for count ≤ to → SameTracks from to old new → all_symbols (symbols_of new from 0 [] count) ≡ all_symbols (symbols_of old from 0 [] count)
text_same from to count old new le h = ap (λ (v : View). v.held) (own_view old new from 0 [] count count false Backward 0 [] (omega arith) (same_part from to (from + tracks_for count) old new le h))

-- what pass 9 made of the list that was left
pub made_of : (text : View) (limit first : ℕ) (tracks : Option (List (List ℕ))) (list : List Symbol) (r : Result ℕ PassStop)
    → text.left ≡ Some list → IfOk r (λ n. Makes text limit first tracks n)
    → IfOk r (λ n. (length (object_words limit list) ≡ n) × HoldsWords tracks first (object_words limit list))
made_of text limit first tracks list (Ok n) all_symbols made =
    let same : list ≡ made.list = rw all_symbols at made.left.0 in
    rw same (made.count, made.holds)
made_of text limit first tracks list (Err stop) all_symbols made = tt

-- text 8 of a text 7 makes the object that is defined from it
pub made_from : (bytes : ℕ) (seven eight : List Symbol) → WritesText8 bytes (reverse seven) eight → IsComplete bytes seven → IsText7 longest seven
    → object_words longest (reverse eight) ≡ object_of seven
made_from bytes seven eight writes complete made =
    let turned : reverse (reverse seven) ≡ seven = reverse-reverse seven in
    let exact : reverse eight ≡ text8_of seven = rw turned at (writes.text (rw turned complete)) in
    ap (λ (l : List Symbol). object_words longest l) exact ∙ same_words longest seven made

-- what pass 8 wrote, of a program of as many bytes
pub writes_as : {T E : Type 0} (r : Result T E) (text : View) (read : List Symbol) (some bytes : ℕ) → some ≡ bytes
    → OnOk r (Writes (Relates some read) text) → OnOk r (Writes (Relates bytes read) text)
writes_as r text read some bytes same wrote = subst (λ (n : ℕ). OnOk r (Writes (Relates n read) text)) same wrote
