-- References one after the other, and the words of an object as a list.
use Rattle.std.specs.Prelude.{◌≡◌, ◌+◌, ◌/◌, ◌<◌, ◌≤◌, ◌++◌, ℕ, zero, suc, List, [], ◌∷◌, length, map, slice_get, Option, Some, Result, Ok, Err}
use Rattle.std.proofs.Common.{arith, refl, ap, sym, subst, ◌∙◌, ⊎_elim}
use Rattle.std.proofs.lemmas.List.{append-nil, append_assoc, map-append, length-append}
use Rattle.std.proofs.lemmas.Option.{slice_get_past}
use Rattle.std.proofs.lemmas.Bool.{cases_lt}
use Rattle.gier_order.specs.Counts.{StandsFor as RecentFor}
use Rattle.gier_order.specs.Misses.{misses}
use Rattle.gier_order.specs.declared.object.Object.{Object}
use Rattle.gier_order.specs.Flat.Row.{Row, reads, on_word, behind_ref, odd}
use Rattle.gier_places.specs.Contents.{Contents, Agrees, LogsReads, AfterRefer, StandsFor as PlacesFor, Refers as PlacesRefers}
use Rattle.gier_best.specs.TraceModel.{HasNoted}
use Rattle.gier_exec.specs.Reading.{Stand}
use Rattle.gier_exec.specs.Rows.{track_of, track_at, word_in, first_of, code_in}
use Rattle.gier_exec.specs.References.{Refers, tracks_of}

-- nothing was read
pub refers_none : (object : Object) (s : Stand) → Refers object [] s s
refers_none object s = record {
  agrees = λ h. h;
  recent = λ before h. rw (append-nil before) h;
  noted = λ before h. rw (append-nil before) h;
  stands = λ before h. rw (append-nil before) h;
  reads = λ before journal stands h. rw (append-nil before) h;
}

-- nothing that tells of references changed
pub refers_kept : (object : Object) (old new : Stand) → new.tracks ≡ old.tracks → new.journal ≡ old.journal → new.places ≡ old.places → new.recent ≡ old.recent → new.trace ≡ old.trace → Refers object [] old new
refers_kept object old new tracks journal places recent trace = record {
  agrees = λ h. rw tracks (rw places h);
  recent = λ before h. rw recent (rw (append-nil before) h);
  noted = λ before h. rw trace (rw (append-nil before) h);
  stands = λ before h. rw places (rw (append-nil before) h);
  reads = λ before log stands h. rw journal (rw (append-nil before) h);
}

pub after_ok : {T E : Type 0} → (tracks : Option (List (List ℕ))) (old new : Contents) (track : ℕ) (result : Result T E) (x : T) → AfterRefer tracks old track result new → result ≡ Ok x → PlacesRefers old track new × (Agrees tracks old.held → Agrees tracks new.held)
after_ok tracks old new track (Ok y) x after is = after
after_ok tracks old new track (Err failed) x after is = absurd cc

pub after_err : {T E : Type 0} → (tracks : Option (List (List ℕ))) (old new : Contents) (track : ℕ) (result : Result T E) (x : E) → AfterRefer tracks old track result new → result ≡ Err x → new ≡ old
after_err tracks old new track (Ok y) x after is = absurd cc
after_err tracks old new track (Err failed) x after is = after

behind_both : (f : ℕ → ℕ) (before first second : List ℕ) → (before ++ map f first) ++ map f second ≡ before ++ map f (first ++ second)
behind_both f before first second = append_assoc before (map f first) (map f second) ∙ ap (λ xs. before ++ xs) (sym (map-append f first second))

pub refers_both : (object : Object) (first second : List ℕ) (old mid new : Stand) → mid.places.places ≡ old.places.places → Refers object first old mid → Refers object second mid new → Refers object (first ++ second) old new
refers_both object first second old mid new same a b = record {
  agrees = λ h. b.agrees (a.agrees h);
  recent = λ before h. subst (λ refs. RecentFor new.recent refs) (behind_both (track_of object) before first second) (b.recent _ (a.recent before h));
  noted = λ before h. subst (λ refs. HasNoted new.trace refs) (behind_both (λ a. a / 40) before first second) (b.noted _ (a.noted before h));
  stands = λ before h. subst (λ refs. PlacesFor new.places refs) (behind_both (track_of object) before first second) (b.stands _ (a.stands before h));
  reads = λ before journal stands h.
      subst (λ refs. LogsReads journal (misses refs old.places.places) new.journal) (behind_both (track_of object) before first second)
      (subst (λ places. LogsReads journal (misses ((before ++ tracks_of object first) ++ tracks_of object second) places) new.journal) same
      (b.reads (before ++ tracks_of object first) journal (a.stands before stands) (subst (λ places. LogsReads journal (misses (before ++ tracks_of object first) places) mid.journal) (sym same) (a.reads before journal stands h))));
}

-- the address, by another name
pub refers_at : (object : Object) (p q : ℕ) (old new : Stand) → p ≡ q → Refers object (p ∷ []) old new → Refers object (q ∷ []) old new
refers_at object p q old new e h = subst (λ a. Refers object (a ∷ []) old new) e h

-- The words of an object

length-first : (f : ℕ → ℕ) (n : ℕ) → length (first_of f n) ≡ n
length-first f zero = refl
length-first f (suc n) = length-append (first_of f n) (f n ∷ []) ∙ ap (λ k. k + 1) (length-first f n) ∙ omega arith

pub length_code : (tracks : List (List ℕ)) (object : Object) → length (code_in tracks object) ≡ object.words
length_code tracks object = length-first (word_in tracks object) object.words

get_left : (xs ys : List ℕ) (k : ℕ) → k < length xs → slice_get (xs ++ ys) k ≡ slice_get xs k
get_left [] ys k lt = absurd (omega (arith, lt))
get_left (x ∷ xs) ys zero lt = refl
get_left (x ∷ xs) ys (suc k) lt = get_left xs ys k (omega (arith, lt))

get_seam : (xs : List ℕ) (y k : ℕ) → k ≡ length xs → slice_get (xs ++ y ∷ []) k ≡ Some y
get_seam [] y k is = rw is refl
get_seam (x ∷ xs) y zero is = absurd (omega (arith, is))
get_seam (x ∷ xs) y (suc k) is = get_seam xs y k (omega (arith, is))

get_first : (f : ℕ → ℕ) (n k : ℕ) → k < n → slice_get (first_of f n) k ≡ Some (f k)
get_first f zero k lt = absurd (omega (arith, lt))
get_first f (suc n) k lt = ⊎_elim
    (λ less. get_left (first_of f n) (f n ∷ []) k (rw (length-first f n) less) ∙ get_first f n k less)
    (λ past. let same : k ≡ n = omega (arith, lt, past) in get_seam (first_of f n) (f n) k (rw (length-first f n) same) ∙ ap (λ j. Some (f j)) (sym same))
    (cases_lt k n)

pub word_read : (tracks : List (List ℕ)) (object : Object) (a word : ℕ) (go : ℕ → Row) → a < object.words → word ≡ word_in tracks object a → reads (code_in tracks object) a go ≡ behind_ref a (go word)
word_read tracks object a word go lt is = ap (λ found. on_word a go found) (get_first (word_in tracks object) object.words a lt) ∙ ap (λ w. behind_ref a (go w)) (sym is)

pub word_past : (tracks : List (List ℕ)) (object : Object) (a : ℕ) (go : ℕ → Row) → object.words ≤ a → reads (code_in tracks object) a go ≡ odd
word_past tracks object a go past = ap (λ found. on_word a go found) (slice_get_past (code_in tracks object) a (rw (length_code tracks object) past))

pub track_is : (tracks : List (List ℕ)) (t : ℕ) (words : List ℕ) → slice_get tracks t ≡ Some words → track_at tracks t ≡ words
track_is [] t words e = absurd cc
track_is (x ∷ tracks) zero words e = cc
track_is (x ∷ tracks) (suc t) words e = track_is tracks t words e

-- what is known of a word that is read, or of none
pub ruleset word_answers = (refers_none, word_read, word_past)
