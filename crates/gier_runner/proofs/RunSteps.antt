-- What the orders of a run did, one after another, and then the last one, is what the flat run does.
use Rattle.std.specs.Prelude.{◌≡◌, ◌++◌, ◌+◌, ℕ, Bool, true, false, List, [], length, slice_index, Option, None, Some}
use Rattle.std.proofs.Common.{arith, refl, ap, sym, subst, ◌∙◌}
use Rattle.std.proofs.lemmas.List.{append_assoc, append-nil, nil_from_length}
use Rattle.gier_io.specs.Device.{Puts}
use Rattle.gier_library.specs.Data.{Stand as Data, Takes}
use Rattle.gier_library.proofs.ReadsInOrder.{takes_more}
use Rattle.gier_frames.specs.State.{State as Frames}
use Rattle.gier_order.specs.declared.object.Object.{Object}
use Rattle.gier_order.specs.Flat.Row.{Regs, Ending as FlatEnding, Ended as HasEnded, Alarmed, NoSteps, Spoilt as IsSpoilt, Ends, Odd as OddStep, Row}
use Rattle.gier_order.specs.Flat.Rows.{row}
use Rattle.gier_order.specs.Flat.Run.{State, Final, Over, exec, one, next_state}
use Rattle.gier_exec.specs.Registers.{Registers}
use Rattle.gier_exec.specs.Reading.{Stand}
use Rattle.gier_exec.specs.Rows.{regs_of}
use Rattle.gier_exec.specs.References.{Refers}
use Rattle.gier_exec.specs.Turning.{IsRest, RefinesTurn, IsCut, printing_row}
use Rattle.gier_exec.proofs.Referrings.{refers_none, refers_both}
use Rattle.gier_exec.specs.declared.turn.Turn.{Turn}
use Rattle.gier_exec.specs.declared.turn.Turn.TheVariants.{On as TurnOn, Ended as TurnEnded, Alarm as TurnAlarm, Steps as TurnSteps, Read as TurnRead, Write as TurnWrite, Drum as TurnDrum, Spoilt as TurnSpoilt}
use Rattle.gier_runner.specs.declared.ending.Ending.{Ending}
use Rattle.gier_word.specs.declared.refusal.Odd.{Odd}
use Rattle.gier_runner.specs.Endings.{ending_of}
use Rattle.gier_runner.specs.FlatRun.{from, Comes, RunsTo}
use Rattle.gier_runner.proofs.Moves.{Reaches, reaches_none, reaches_more, reaches_last, cut_runs}

-- What was put, and the data behind what was taken

puts_none : (a : Option (List ℕ)) → Puts a [] a
puts_none None = refl
puts_none (Some held) = ap Some (sym (append-nil held))

puts_more : (a b c : Option (List ℕ)) (xs ys : List ℕ) → Puts a xs b → Puts b ys c → Puts a (xs ++ ys) c
puts_more None b c xs ys first then = subst (λ (m : Option (List ℕ)). Puts m ys c) first then
puts_more (Some held) b c xs ys first then =
    let second : Puts (Some (held ++ xs)) ys c = subst (λ (m : Option (List ℕ)). Puts m ys c) first then in
    second ∙ ap Some (append_assoc held xs ys)

none_taken : (a b : Data) (taken : List ℕ) → Takes a taken b → b ≡ a → taken ≡ []
none_taken a b taken takes same =
    let given : b.given ≡ a.given = ap (λ (s : Data). s.given) same in
    let counted : b.given ≡ a.given + length taken = takes.counted in
    nil_from_length taken (omega (arith, given, counted))

rest_by : (a b : Data) (taken rest : List ℕ) (ended : Bool) → a.ended ≡ ended → Takes a taken b → IsRest b.ended rest
    → IsRest ended (taken ++ rest)
rest_by a b taken rest true e takes is =
    let same : b ≡ a = takes.stays e in
    let none : rest ≡ [] = subst (λ ended. IsRest ended rest) (ap (λ (s : Data). s.ended) same ∙ e) is in
    rw (none_taken a b taken takes same) none
rest_by a b taken rest false e takes is = tt

rest_before : (a b : Data) (taken rest : List ℕ) → Takes a taken b → IsRest b.ended rest → IsRest a.ended (taken ++ rest)
rest_before a b taken rest takes is = rest_by a b taken rest a.ended refl takes is

-- What a run is at between two orders

pub record Now : Type 0 where
  pub stand : Stand
  pub holds : Option (List ℕ)
  pub input : Data
  pub machine : Registers
  pub frames : Frames

abbrev pub now : Stand → Option (List ℕ) → Data → Registers → Frames → Now
now stand holds input machine frames = record { stand = stand; holds = holds; input = input; machine = machine; frames = frames }

-- its registers, where these data are left
abbrev pub regs : Now → List ℕ → Regs
regs now input = regs_of now.machine now.frames input

some_is : {F : Type 0} (x y : F) → Some x ≡ Some y → x ≡ y
some_is x y e = cc

module _ (code : List ℕ) (size : ℕ) (object : Object) where
  -- Some orders let the run go on.
  pub record Goes (old new : Now) : Type 0 where
    pub read : List ℕ
    pub put : List ℕ
    pub taken : List ℕ
    pub refers : Refers object read old.stand new.stand
    pub puts : Puts old.holds put new.holds
    pub takes : Takes old.input taken new.input
    pub reaches : (rest : List ℕ) → IsRest new.input.ended rest
        → Reaches code size (from (regs old (taken ++ rest))) (record { regs = regs new rest; refs = read; printed = put })

  -- what one more order does, with this word
  abbrev pub Turns : (old new : Now) → (word : ℕ) → Turn → Type 0
  Turns old new word turn =
      (read put taken : List ℕ) × Refers object read old.stand new.stand × Puts old.holds put new.holds × Takes old.input taken new.input
      × ((rest : List ℕ) → IsRest new.input.ended rest
      → RefinesTurn (row code size (regs old (taken ++ rest))) (regs old (taken ++ rest)) (regs new rest) read put taken old.machine.place word turn)

  -- what all of them do together
  abbrev pub Runs : (old new : Now) → Ending → Type 0
  Runs old new ending =
      (read put taken : List ℕ) × Refers object read old.stand new.stand × Puts old.holds put new.holds × Takes old.input taken new.input
      × ((rest : List ℕ) → IsRest new.input.ended rest → RunsTo code size (regs old (taken ++ rest)) (regs new rest) read put ending)

  pub goes_none : (s : Now) → Takes s.input [] s.input → Goes s s
  goes_none s takes = record {
    read = [];
    put = [];
    taken = [];
    refers = refers_none object s.stand;
    puts = puts_none s.holds;
    takes = takes;
    reaches = λ rest is. reaches_none code size (from (regs s rest));
  }

  pub goes_more : (old mid new : Now) (word : ℕ) → mid.stand.places.places ≡ old.stand.places.places → Goes old mid
      → Turns mid new word TurnOn → Goes old new
  goes_more old mid new word places so h =
      let read : List ℕ = h.0 in
      let put : List ℕ = h.1 in
      let taken : List ℕ = h.2 in record {
        read = so.read ++ read;
        put = so.put ++ put;
        taken = so.taken ++ taken;
        refers = refers_both object so.read read old.stand mid.stand new.stand places so.refers h.3;
        puts = puts_more old.holds mid.holds new.holds so.put put so.puts h.4;
        takes = takes_more old.input mid.input new.input so.taken taken so.takes h.5;
        reaches = λ rest is.
            subst (λ input. Reaches code size (from (regs old input)) (record { regs = regs new rest; refs = so.read ++ read; printed = so.put ++ put }))
            (sym (append_assoc so.taken taken rest))
            (reaches_more code size _ (record { regs = regs mid (taken ++ rest); refs = so.read; printed = so.put }) _
            (so.reaches (taken ++ rest) (rest_before mid.input new.input taken rest h.5 is))
            (ap (λ (r : Row). next_state code (record { regs = regs mid (taken ++ rest); refs = so.read; printed = so.put }) r r.step) (h.6 rest is)));
      }

  -- The last order

  ends_by : (before after : Regs) (t : State) (read put : List ℕ) (end : FlatEnding) → Reaches code size (from before) t
      → row code size t.regs ≡ printing_row read put (Ends end after)
      → (moves : ℕ) × (final : Final) × (exec (one code size) moves (from before) ≡ Over final)
      × Comes (Some end) after (t.refs ++ read) (t.printed ++ put) final
  ends_by before after t read put end h is =
      let final : Final = record { ending = end; state = record { regs = after; refs = t.refs ++ read; printed = t.printed ++ put } } in
      let last = reaches_last code size (from before) t final h (ap (λ (r : Row). next_state code t r r.step) is) in
      (last.0, final, last.1, refl)

  odd_by : (before after : Regs) (t : State) (read put : List ℕ) (place word : ℕ) → Reaches code size (from before) t
      → row code size t.regs ≡ printing_row read put OddStep → after ≡ t.regs
      → t.regs.place ≡ place → slice_index code t.regs.place ≡ word
      → (moves : ℕ) × (final : Final) × (exec (one code size) moves (from before) ≡ Over final)
      × Comes (Some (IsSpoilt place word)) after (t.refs ++ read) (t.printed ++ put) final
  odd_by before after t read put place word h is same at reads =
      let state : State = record { regs = t.regs; refs = t.refs ++ read; printed = t.printed ++ put } in
      let final : Final = record { ending = IsSpoilt t.regs.place (slice_index code t.regs.place); state = state } in
      let last = reaches_last code size (from before) t final h (ap (λ (r : Row). next_state code t r r.step) is) in
      (last.0, final, last.1, rw same (rw (sym at) (rw (sym reads) refl)))

  cut_short : (before after : Regs) (t : State) (read put taken : List ℕ) → Reaches code size (from before) t
      → IsCut (row code size t.regs) t.regs read put taken → t.regs.input ≡ taken ++ after.input
      → (moves : ℕ) × (final : Final) × (exec (one code size) moves (from before) ≡ Over final)
      × Comes None after (t.refs ++ read) (t.printed ++ put) final
  cut_short before after t read put taken h cut is =
      let runs = cut_runs code size t read put taken after.input cut is in
      let first = h runs.0 in
      (first.0, runs.1, first.1 ∙ runs.2, runs.3)

  abbrev To : (before after : Regs) → State → (read put : List ℕ) → Ending → Type 0
  To before after t read put ending = RunsTo code size before after (t.refs ++ read) (t.printed ++ put) ending

  last_runs : (before after : Regs) (t : State) (read put taken : List ℕ) (word : ℕ) (turn : Turn) (ending : Ending)
      → ending_of turn ≡ Some ending → Reaches code size (from before) t
      → RefinesTurn (row code size t.regs) t.regs after read put taken t.regs.place word turn → t.regs.input ≡ taken ++ after.input
      → slice_index code t.regs.place ≡ word
      → ((odd : Odd) → turn ≡ TurnSpoilt odd → after ≡ t.regs)
      → To before after t read put ending
  last_runs before after t read put taken word TurnOn ending e h follows is reads stays = absurd cc
  last_runs before after t read put taken word TurnEnded ending e h follows is reads stays =
      subst (To before after t read put) (some_is _ _ e) (ends_by before after t read put HasEnded h follows)
  last_runs before after t read put taken word (TurnAlarm alarm) ending e h follows is reads stays =
      subst (To before after t read put) (some_is _ _ e) (ends_by before after t read put (Alarmed alarm) h follows)
  last_runs before after t read put taken word TurnSteps ending e h follows is reads stays =
      subst (To before after t read put) (some_is _ _ e) (ends_by before after t read put NoSteps h follows)
  last_runs before after t read put taken word TurnRead ending e h follows is reads stays =
      subst (To before after t read put) (some_is _ _ e) (cut_short before after t read put taken h follows is)
  last_runs before after t read put taken word TurnWrite ending e h follows is reads stays =
      subst (To before after t read put) (some_is _ _ e) (cut_short before after t read put taken h follows is)
  last_runs before after t read put taken word TurnDrum ending e h follows is reads stays =
      subst (To before after t read put) (some_is _ _ e) (cut_short before after t read put taken h follows is)
  last_runs before after t read put taken word (TurnSpoilt odd) ending e h follows is reads stays =
      subst (To before after t read put) (some_is _ _ e)
      (odd_by before after t read put odd.place odd.word h follows.0 (stays odd refl)
      (ap (λ (o : Odd). o.place) (sym follows.1)) (reads ∙ ap (λ (o : Odd). o.word) (sym follows.1)))

  pub runs_so : (old mid new : Now) (word : ℕ) (turn : Turn) (ending : Ending) → ending_of turn ≡ Some ending
      → mid.stand.places.places ≡ old.stand.places.places → Goes old mid → Turns mid new word turn
      → slice_index code mid.machine.place ≡ word
      → ((odd : Odd) → turn ≡ TurnSpoilt odd → (new.machine ≡ mid.machine) × (new.frames ≡ mid.frames) × (new.input ≡ mid.input))
      → Runs old new ending
  runs_so old mid new word turn ending e places so h reads stays =
      let read : List ℕ = h.0 in
      let put : List ℕ = h.1 in
      let taken : List ℕ = h.2 in (
        so.read ++ read,
        so.put ++ put,
        so.taken ++ taken,
        refers_both object so.read read old.stand mid.stand new.stand places so.refers h.3,
        puts_more old.holds mid.holds new.holds so.put put so.puts h.4,
        takes_more old.input mid.input new.input so.taken taken so.takes h.5,
        λ rest is.
            subst (λ input. RunsTo code size (regs old input) (regs new rest) (so.read ++ read) (so.put ++ put) ending)
            (sym (append_assoc so.taken taken rest))
            (last_runs (regs old (so.taken ++ (taken ++ rest))) (regs new rest)
            (record { regs = regs mid (taken ++ rest); refs = so.read; printed = so.put }) read put taken word turn ending e
            (so.reaches (taken ++ rest) (rest_before mid.input new.input taken rest h.5 is))
            (h.6 rest is) refl reads
            (λ odd spoilt. let same = stays odd spoilt in rw same.0 (rw same.1 (rw (none_taken mid.input new.input taken h.5 same.2) refl)))),
      )
