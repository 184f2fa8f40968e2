-- A whole run, from what its orders did together.
use Rattle.std.specs.Prelude.{◌≡◌, ◌++◌, ◌+◌, ◌-◌, ◌≤◌, ℕ, Bool, true, false, List, [], ◌∷◌, length, take, drop, Option, None, Some}
use Rattle.std.proofs.Common.{rules, arith, inl, inr, refl, ap, sym, subst, ◌∙◌}
use Rattle.std.proofs.Math.Seq.{take-append-add, take-nil, drop-append_seam}
use Rattle.std.proofs.lemmas.List.{append-nil, length-replicate}
use Rattle.gier_drum.specs.declared.drum.Entry.{Entry}
use Rattle.gier_io.specs.Device.{Puts}
use Rattle.gier_library.specs.Data.{limit, Stand as Data, Takes, IsUsedUp}
use Rattle.gier_frames.specs.State.{State as Frames}
use Rattle.gier_order.specs.Misses.{misses}
use Rattle.gier_order.specs.declared.object.Object.{Object}
use Rattle.gier_order.specs.Flat.Row.{Regs, Ending as FlatEnding}
use Rattle.gier_order.specs.Flat.Run.{Final, Over, exec, one, machine_at_start, flat, Report, report_of}
use Rattle.gier_order.proofs.Flat.Ends.{flat_is}
use Rattle.gier_places.specs.Contents.{Contents, Agrees, LogsReads, StandsFor as PlacesFor, tracks_of as tracks_held}
use Rattle.gier_places.specs.HeldTracks.{HeldTrack}
use Rattle.gier_exec.specs.Registers.{first_registers}
use Rattle.gier_exec.specs.Rows.{regs_of}
use Rattle.gier_exec.specs.References.{Refers, tracks_of}
use Rattle.gier_exec.specs.Turning.{IsRest}
use Rattle.gier_runner.specs.declared.ending.Ending.{Ending}
use Rattle.gier_runner.specs.declared.settings.Settings.{Settings}
use Rattle.gier_runner.specs.State.{State, Begun}
use Rattle.gier_runner.specs.FlatRun.{from, flat_ending, Comes, RunsTo, IsPart, HasRead, Reports, unread, read_up}
use Rattle.gier_runner.proofs.RunSteps.{Now, regs, Runs}
use Rattle.gier_runner.proofs.Words.{begins_so}

-- The places begin empty

none_held : (held : List HeldTrack) → tracks_held held ≡ [] → held ≡ []
none_held [] e = refl
none_held (h ∷ held) e = absurd cc

agrees_none : (tracks : List (List ℕ)) (held : List HeldTrack) → held ≡ [] → Agrees (Some tracks) held
agrees_none tracks held e = rw e (search rules)

pub begins_agreed : (tracks : List (List ℕ)) (contents : Contents) → PlacesFor contents [] → Agrees (Some tracks) contents.held
begins_agreed tracks contents h = agrees_none tracks contents.held (none_held contents.held (h.tracks ∙ take-nil contents.places))

logs_none : (journal : Option (List Entry)) → LogsReads journal [] journal
logs_none None = refl
logs_none (Some entries) = rw (append-nil entries) refl

-- From orders to the run

-- what a runner with these settings has there
abbrev pub state : Settings → Now → State
state given s = record { settings = given; machine = s.machine; frames = s.frames; places = s.stand.places; recent = s.stand.recent; trace = s.stand.trace }

has_read : (object : Object) (given : Settings) (start : ℕ) (read : List ℕ) (old new : Now) → Begun given start (state given old)
    → Refers object read old.stand new.stand
    → HasRead object read (state given new) old.stand.journal new.stand.journal
has_read object given start read old new so h = record {
  recent = h.recent [] so.counted;
  noted = h.noted [] so.noted;
  places = h.stands [] so.empty;
  reads = subst (λ places. LogsReads old.stand.journal (misses (tracks_of object read) places) new.stand.journal) so.places (h.reads [] old.stand.journal so.empty (logs_none old.stand.journal));
}

takes_so : (old new : Data) (left : Option (List ℕ)) (taken : List ℕ) → old ≡ unread left → Takes old taken new
    → Takes (unread left) taken (read_up new.left (length taken) new.ended)
takes_so old new left taken fresh takes =
    let from_none : Takes (unread left) taken new = subst (λ (s : Data). Takes s taken new) fresh takes in
    let given : new.given ≡ length taken = omega (arith, from_none.counted) in
    subst (λ n. Takes (unread left) taken (read_up new.left n new.ended)) given from_none

reports_by : (end : Option FlatEnding) (given : Settings) (new : Now) (read put rest : List ℕ) (final : Final) (report : Report)
    → report ≡ report_of given.steps final
    → Comes end (regs new rest) read put final → Reports end (state given new) read put rest report
reports_by (Some end) given new read put rest final report is h = is ∙ ap (λ (f : Final). report_of given.steps f) h
reports_by None given new read put rest final report is h = subst (λ (r : Report). IsPart read put rest r.refs r.printed r.left) (sym is) h

reports_so : (code : List ℕ) (given : Settings) (start : ℕ) (input : List ℕ) (old new : Now) (read put rest : List ℕ) (ending : Ending)
    → Begun given start (state given old)
    → RunsTo code given.stack (regs old input) (regs new rest) read put ending
    → Reports (flat_ending ending) (state given new) read put rest (flat code start input given.steps given.stack)
reports_so code given start input old new read put rest ending so runs =
    let final : Final = runs.1 in
    let begins : regs old input ≡ (machine_at_start start input given.steps).regs =
    ap (λ m. regs_of m old.frames input) so.machine ∙ ap (λ f. regs_of (first_registers start given.steps) f input) so.frames ∙ begins_so start given.steps given.stack input in
    let over : exec (one code given.stack) runs.0 (machine_at_start start input given.steps) ≡ Over final = subst (λ (m : Regs). exec (one code given.stack) runs.0 (from m) ≡ Over final) begins runs.2 in
    reports_by (flat_ending ending) given new read put rest final _ (flat_is code given.stack start input given.steps runs.0 final over) runs.3

pub unread_so : (s : Data) (left : Option (List ℕ)) → s.left ≡ left → s.given ≡ 0 → s.ended ≡ false → s ≡ unread left
unread_so s left same none on = ap (λ l. read_up l s.given s.ended) same ∙ ap (λ n. read_up left n s.ended) none ∙ ap (λ e. read_up left 0 e) on

pub stack_so : (given : Settings) (start : ℕ) (s : State) → Begun given start s → length s.frames.words ≡ given.stack
stack_so given start s so = ap (λ (f : Frames). length f.words) so.frames ∙ length-replicate given.stack 0

-- what a run tells of the flat run of these words: the runner kept its settings, and the source had this before and after
abbrev pub Ran : (code : List ℕ) → Object → (kept given : Settings) → (start : ℕ) → (old new : Now) → (left after : Option (List ℕ))
    → Ending → Type 0
Ran code object kept given start old new left after ending =
    (read put taken : List ℕ) × (ended : Bool) × HasRead object read (state kept new) old.stand.journal new.stand.journal
    × Puts old.holds put new.holds × Takes (unread left) taken (read_up after (length taken) ended)
    × ((rest : List ℕ) → IsRest ended rest → Reports (flat_ending ending) (state kept new) read put rest (flat code start (taken ++ rest) given.steps given.stack))

ran_so : (code : List ℕ) (object : Object) (given : Settings) (start : ℕ) (old new : Now) (left : Option (List ℕ)) (ending : Ending)
    → Begun given start (state given old) → old.input ≡ unread left
    → Runs code given.stack object old new ending → Ran code object given given start old new left new.input.left ending
ran_so code object given start old new left ending so fresh runs =
    let read : List ℕ = runs.0 in
    let put : List ℕ = runs.1 in
    let taken : List ℕ = runs.2 in (
      read,
      put,
      taken,
      new.input.ended,
      has_read object given start read old new so runs.3,
      runs.4,
      takes_so old.input new.input left taken fresh runs.5,
      λ rest is. reports_so code given start (taken ++ rest) old new read put rest ending so (runs.6 rest is),
    )

pub whole_run : (code : List ℕ) (object : Object) (kept given : Settings) (start : ℕ) (old new : Now) (left after : Option (List ℕ)) (ending : Ending) → Begun given start (state kept old) → old.input ≡ unread left
    → after ≡ new.input.left → Runs code given.stack object old new ending → Ran code object kept given start old new left after ending
whole_run code object kept given start old new left after ending so fresh same runs =
    let begun_so : Begun given start (state given old) = subst (λ k. Begun given start (state k old)) so.settings so in
    subst (λ k. Ran code object k given start old new left after ending) (sym so.settings)
    (subst (λ l. Ran code object given given start old new left l ending) (sym same) (ran_so code object given start old new left ending begun_so fresh runs))

-- Where the source tells its bytes, the data are those up to the limit.

is_rest : (ended : Bool) (rest : List ℕ) → (ended ≡ true → rest ≡ []) → IsRest ended rest
is_rest true rest h = h refl
is_rest false rest h = tt

used_up : (left : Option (List ℕ)) (rest : List ℕ) → left ≡ Some rest → IsUsedUp left → rest ≡ []
used_up left rest e h = let none : IsUsedUp (Some rest) = subst IsUsedUp e h in none

behind_none : (bytes taken more : List ℕ) (left : Option (List ℕ)) (ended : Bool)
    → Takes (unread (Some bytes)) taken (read_up left (length taken) ended) → left ≡ Some more → ended ≡ true
    → take (limit - length taken) more ≡ []
behind_none bytes taken more left ended takes is e =
    elim (takes.ends e) [
      | inl never ↦ absurd cc
      | inr (inl full) ↦ (let none : limit - length taken ≡ 0 = omega (arith, full) in ap (λ (n : ℕ). take n more) none)
      | inr (inr up) ↦ ap (take (limit - length taken)) (used_up left more is up) ∙ take-nil (limit - length taken)
    ]

pub told_data : (bytes taken : List ℕ) (left : Option (List ℕ)) (ended : Bool)
    → Takes (unread (Some bytes)) taken (read_up left (length taken) ended)
    → (rest : List ℕ) × (take limit bytes ≡ taken ++ rest) × IsRest ended rest × (left ≡ Some (drop (length taken) bytes))
told_data bytes taken left ended takes =
    let more : List ℕ = takes.lost.0 in
    let few : length taken ≤ limit = takes.limited in
    let all : bytes ≡ taken ++ more = takes.lost.1 in
    let room : limit ≡ length taken + (limit - length taken) = omega (arith, few) in (
      take (limit - length taken) more,
      ap (λ (n : ℕ). take n bytes) room ∙ ap (take (length taken + (limit - length taken))) all ∙ take-append-add taken more (limit - length taken),
      is_rest ended _ (behind_none bytes taken more left ended takes takes.lost.2),
      takes.lost.2 ∙ ap Some (sym (ap (drop (length taken)) all ∙ drop-append_seam taken more)),
    )

-- the same of a run whose source tells these bytes
pub told_run : (code : List ℕ) (object : Object) (kept given : Settings) (start : ℕ) (old new : Now) (left after : Option (List ℕ)) (bytes : List ℕ) (ending : Ending) → left ≡ Some bytes
    → Ran code object kept given start old new left after ending
    → (read put taken rest : List ℕ) × HasRead object read (state kept new) old.stand.journal new.stand.journal × Puts old.holds put new.holds
    × (take limit bytes ≡ taken ++ rest) × (after ≡ Some (drop (length taken) bytes))
    × Reports (flat_ending ending) (state kept new) read put rest (flat code start (take limit bytes) given.steps given.stack)
told_run code object kept given start old new left after bytes ending told ran =
    let taken : List ℕ = ran.2 in
    let all = told_data bytes taken after ran.3 (subst (λ l. Takes (unread l) taken (read_up after (length taken) ran.3)) told ran.6) in (
      ran.0,
      ran.1,
      taken,
      all.0,
      ran.4,
      ran.5,
      all.1,
      all.3,
      subst (λ input. Reports (flat_ending ending) (state kept new) ran.0 ran.1 all.0 (flat code start input given.steps given.stack)) (sym all.1) (ran.7 all.0 all.2),
    )
