-- A program's run answers what the flat run of its object reports.
use Rattle.std.specs.Prelude.{◌≡◌, ◌≤◌, ◌-◌, ◌%◌, ◌++◌, ℕ, zero, suc, Bool, true, false, is_some, List, [], ◌∷◌, length, map, slice_index, Option, None, Some}
use Rattle.std.proofs.Common.{arith, inr, refl, ap, sym, subst, ◌∙◌}
use Rattle.std.proofs.lemmas.List.{append_assoc}
use Rattle.gier_drum.specs.declared.drum.Entry.{Entry}
use Rattle.gier_io.specs.Device.{Puts}
use Rattle.gier_io.proofs.Prints.{puts_more}
use Rattle.gier_order.specs.Misses.{misses}
use Rattle.gier_order.specs.declared.object.Object.{Object}
use Rattle.gier_order.specs.Flat.Run.{Report as FlatReport, flat}
use Rattle.gier_places.specs.Contents.{LogsReads}
use Rattle.gier_text.specs.View.{track_in, KeepsTracks}
use Rattle.gier_frames.specs.Stop.{activations}
use Rattle.gier_order.specs.Flat.Live.{Live, live_in}
use Rattle.gier_runner.specs.Live.{live_of}
use Rattle.gier_runner.proofs.Live.{live_is}
use Rattle.gier_exec.specs.Rows.{regs_of, track_at, track_of, word_in, first_of as first_words, code_in}
use Rattle.gier_exec.specs.References.{tracks_of, notes_of}
use Rattle.gier_runner.specs.State.{State, report_of}
use Rattle.gier_runner.specs.FlatRun.{HasRead, Reports, flat_ending}
use Rattle.gier_runner.specs.declared.ending.Ending.{Ending}
use Rattle.gier_runner.specs.declared.ending.Ending.TheVariants as ending
use Rattle.gier_runner.specs.declared.settings.Report.{Report}
use Rattle.gier_runner.specs.declared.settings.Settings.{Settings}
use Rattle.gier_job.specs.Status.{of_ending}
use Rattle.gier_job.specs.Mortem.{PutsTails}
use Rattle.gier_job.specs.TailsOfRun.{has_mortem, end_tail, count_tails, run_tails}
use Rattle.gier_job.specs.RunAnswer.{IsRunEnd, IsAnswered}
use Rattle.gier_job.specs.declared.command.Command.{Command}
use Rattle.gier_job.specs.declared.status.Status.{Status}

-- Nothing of the object changes where only other tracks do

pub track_is : (tracks : List (List ℕ)) (t : ℕ) → track_at tracks t ≡ track_in (Some tracks) t
track_is [] t = refl
track_is (words ∷ tracks) zero = refl
track_is (words ∷ tracks) (suc t) = track_is tracks t

word_kept : (first end : ℕ) (old new : List (List ℕ)) (object : Object) (a : ℕ) → KeepsTracks first end (Some old) (Some new)
    → end ≤ object.first_track → word_in new object a ≡ word_in old object a
word_kept first end old new object a keeps behind =
    ap (λ words. slice_index words (a % 40))
    (track_is new (track_of object a) ∙ keeps.others (track_of object a) (inr (omega (arith, behind))) ∙ sym (track_is old (track_of object a)))

first_same : (f g : ℕ → ℕ) (n : ℕ) → ((a : ℕ) → f a ≡ g a) → first_words f n ≡ first_words g n
first_same f g zero same = refl
first_same f g (suc n) same = ap (λ words. words ++ f n ∷ []) (first_same f g n same) ∙ ap (λ word. first_words g n ++ word ∷ []) (same n)

pub code_kept : (first end : ℕ) (old new : List (List ℕ)) (object : Object) → KeepsTracks first end (Some old) (Some new)
    → end ≤ object.first_track → code_in new object ≡ code_in old object
code_kept first end old new object keeps behind = first_same (word_in new object) (word_in old object) object.words (λ a. word_kept first end old new object a keeps behind)

some_so : (tracks : Option (List (List ℕ))) → is_some tracks ≡ true → (old : List (List ℕ)) × (tracks ≡ Some old)
some_so None e = absurd cc
some_so (Some old) e = (old, refl)

-- the tracks were told before where they are told afterwards
pub told_before : (first end : ℕ) (old now : Option (List (List ℕ))) (new : List (List ℕ)) → KeepsTracks first end old now → now ≡ Some new
    → (tracks : List (List ℕ)) × (old ≡ Some tracks) × KeepsTracks first end (Some tracks) (Some new)
told_before first end old now new keeps told =
    let so = some_so old (sym keeps.told ∙ ap is_some told) in
    (so.0, so.1, subst (λ o. KeepsTracks first end o (Some new)) so.1 (subst (λ n. KeepsTracks first end old n) told keeps))

-- a run changes no track
pub told_through : (old mid : Option (List (List ℕ))) (tracks : List (List ℕ)) → mid ≡ old → mid ≡ Some tracks → old ≡ Some tracks
told_through old mid tracks same told = sym same ∙ told

-- What is printed

tails_behind : (wanted : Bool) (put tail : List ℕ) (lives : List Live) (a b c : Option (List ℕ)) → Puts a put b
    → PutsTails wanted tail lives b c → PutsTails wanted (put ++ tail) lives a c
tails_behind true put tail lives a b c first then = record {
  line = then.line;
  lines = then.lines;
  enough = then.enough;
  put = subst (λ xs. Puts a xs c) (sym (append_assoc put tail _)) (puts_more a b c put (tail ++ _) first then.put);
}
tails_behind false put tail lives a b c first then = puts_more a b c put tail first then

-- the runner's report, as the flat run has it
abbrev told_by : State → (object : Object) → (read : List ℕ) → (places : ℕ) → Report
told_by s object read places =
    record { steps = s.settings.steps - s.machine.steps; transfers = length (misses (tracks_of object read) places); words = s.frames.greatest }

report_is : (s : State) (object : Object) (read : List ℕ) (places : ℕ) (old new : Option (List Entry)) → HasRead object read s old new
    → s.places.places ≡ places → report_of s ≡ told_by s object read places
report_is s object read places old new has same =
    ap (λ n. record { steps = s.settings.steps - s.machine.steps; transfers = n; words = s.frames.greatest })
    (has.places.transfers ∙ ap (λ p. length (misses (tracks_of object read) p)) same)

printed_so : (wanted : Bool) (front : List ℕ) (c : Command) (most : ℕ) (s : State) (object : Object) (read put rest : List ℕ) (journal later : Option (List Entry)) (old mid new : Option (List ℕ))
    → HasRead object read s journal later → s.places.places ≡ c.settings.places → Puts old put mid
    → PutsTails wanted (front ++ count_tails c (report_of s) most (tracks_of object read) (notes_of read)) (map live_of (activations s.frames)) mid new
    → PutsTails wanted (put ++ (front ++ count_tails c (told_by s object read c.settings.places) most (tracks_of object read) (notes_of read))) (live_in (regs_of s.machine s.frames rest)) old new
printed_so wanted front c most s object read put rest journal later old mid new has places first then =
    let tail : List ℕ = front ++ count_tails c (told_by s object read c.settings.places) most (tracks_of object read) (notes_of read) in
    let by_report : PutsTails wanted tail (map live_of (activations s.frames)) mid new =
    subst (λ r. PutsTails wanted (front ++ count_tails c r most (tracks_of object read) (notes_of read)) (map live_of (activations s.frames)) mid new)
    (report_is s object read c.settings.places journal later has places) then in
    tails_behind wanted put tail (live_in (regs_of s.machine s.frames rest)) old mid new first
    (subst (λ lives. PutsTails wanted tail lives mid new) (sym (live_is s.machine s.frames rest)) by_report)

read_so : (c : Command) (s : State) (object : Object) (read : List ℕ) (journal later last : Option (List Entry))
    → HasRead object read s journal later → s.settings.places ≡ c.settings.places
    → (c.mortem ≡ false → last ≡ later) → c.mortem ≡ false
    → (before : Option (List Entry)) × LogsReads before (misses (tracks_of object read) c.settings.places) last
read_so c s object read journal later last has given kept off =
    (journal, subst (λ j. LogsReads journal (misses (tracks_of object read) c.settings.places) j) (sym (kept off)) (subst (λ p. LogsReads journal (misses (tracks_of object read) p) later) given has.reads))

pub answered : (end : Ending) (c : Command) (most : ℕ) (s : State) (object : Object) (read put rest : List ℕ) (journal later : Option (List Entry)) (report : FlatReport) (old mid new : Option (List ℕ))
    → IsRunEnd (of_ending end) → Reports (flat_ending end) s read put rest report → HasRead object read s journal later
    → s.places.places ≡ c.settings.places → Puts old put mid
    → PutsTails (has_mortem c.mortem end) (run_tails end c (report_of s) most (tracks_of object read) (notes_of read)) (map live_of (activations s.frames)) mid new
    → s.settings.places ≡ c.settings.places
    → (last : Option (List Entry)) → (c.mortem ≡ false → last ≡ later) → IsAnswered c most object report (of_ending end) old new last
answered ending.Ended c most s object read put rest journal later report old mid new is reports has places first then given last kept =
    rw reports (record {
      ended = refl;
      printed = printed_so false [] c most s object read put rest journal later old mid new has places first then;
      read = read_so c s object read journal later last has given kept;
    })
answered (ending.Alarm alarm) c most s object read put rest journal later report old mid new is reports has places first then given last kept =
    rw reports (record {
      ended = refl;
      printed = printed_so c.mortem (end_tail (ending.Alarm alarm)) c most s object read put rest journal later old mid new has places first then;
      read = read_so c s object read journal later last has given kept;
    })
answered ending.Steps c most s object read put rest journal later report old mid new is reports has places first then given last kept =
    rw reports (record {
      ended = refl;
      printed = printed_so c.mortem (end_tail ending.Steps) c most s object read put rest journal later old mid new has places first then;
      read = read_so c s object read journal later last has given kept;
    })
answered ending.Read c most s object read put rest journal later report old mid new is reports has places first then given last kept = absurd is
answered ending.Write c most s object read put rest journal later report old mid new is reports has places first then given last kept = absurd is
answered ending.Drum c most s object read put rest journal later report old mid new is reports has places first then given last kept = absurd is
answered (ending.Spoilt odd) c most s object read put rest journal later report old mid new is reports has places first then given last kept = absurd is

-- the same by other names
pub answered_so : (c : Command) (most limit : ℕ) (object : Object) (code same : List ℕ) (given : Settings) (bytes : List ℕ) (status : Status) (end : Ending) (old new : Option (List ℕ)) (last : Option (List Entry)) → status ≡ of_ending end → code ≡ same → given ≡ c.settings → limit ≡ most
    → IsAnswered c limit object (flat same object.start bytes given.steps given.stack) (of_ending end) old new last
    → IsAnswered c most object (flat code object.start bytes c.settings.steps c.settings.stack) status old new last
answered_so c most limit object code same given bytes status end old new last is words settings kept h =
    let by_settings : IsAnswered c limit object (flat same object.start bytes c.settings.steps c.settings.stack) (of_ending end) old new last =
    subst (λ s. IsAnswered c limit object (flat same object.start bytes s.steps s.stack) (of_ending end) old new last) settings h in
    let by_words : IsAnswered c limit object (flat code object.start bytes c.settings.steps c.settings.stack) (of_ending end) old new last =
    subst (λ words. IsAnswered c limit object (flat words object.start bytes c.settings.steps c.settings.stack) (of_ending end) old new last) (sym words) by_settings in
    let by_limit : IsAnswered c most object (flat code object.start bytes c.settings.steps c.settings.stack) (of_ending end) old new last =
    subst (λ m. IsAnswered c m object (flat code object.start bytes c.settings.steps c.settings.stack) (of_ending end) old new last) kept by_words in
    subst (λ status. IsAnswered c most object (flat code object.start bytes c.settings.steps c.settings.stack) status old new last) (sym is) by_limit
