-- A flat run goes on from where some of its orders left it.
use Rattle.std.specs.Prelude.{◌≡◌, ◌++◌, ◌≤◌, ◌+◌, ◌-◌, ℕ, zero, suc, List, [], ◌∷◌, length}
use Rattle.std.proofs.Common.{arith, refl, ap, sym, subst, ◌∙◌}
use Rattle.std.proofs.lemmas.List.{append_assoc, append-nil, length-append}
use Rattle.gier_order.specs.Flat.Row.{Regs, Step, On, Ends, Odd, Row}
use Rattle.gier_order.specs.Flat.Rows.{row}
use Rattle.gier_order.specs.Flat.Run.{Move, More, Last, Over, then_on, exec, State, Final, with_row, next_state, one, enough}
use Rattle.gier_order.proofs.Flat.Ends.{run_ends}
use Rattle.gier_exec.specs.Turning.{left_by, StartsWith, IsCut}
use Rattle.gier_runner.specs.FlatRun.{EndsWith, IsPart}
use Rattle.gier_runner.proofs.DataTaken.{Drops, row_drops}

-- Lists that begin and end alike

starts_none : (xs : List ℕ) → StartsWith xs xs
starts_none xs = ([], sym (append-nil xs))

starts_more : (a b c : List ℕ) → StartsWith a b → StartsWith b c → StartsWith a c
starts_more a b c first then = (first.0 ++ then.0, then.1 ∙ ap (λ xs. xs ++ then.0) first.1 ∙ append_assoc a first.0 then.0)

starts_behind : (before a b : List ℕ) → StartsWith a b → StartsWith (before ++ a) (before ++ b)
starts_behind before a b h = (h.0, ap (λ xs. before ++ xs) h.1 ∙ sym (append_assoc before a h.0))

starts_with : (a b : List ℕ) → StartsWith a (a ++ b)
starts_with a b = (b, refl)

ends_more : (a b c : List ℕ) → EndsWith b a → EndsWith c b → EndsWith c a
ends_more a b c first then = (first.0 ++ then.0, first.1 ∙ ap (λ xs. first.0 ++ xs) then.1 ∙ sym (append_assoc first.0 then.0 c))

-- where no more is left than this, it is the end of it
ends_behind : (taken rest first last : List ℕ) → taken ++ rest ≡ first ++ last → length taken ≤ length first → EndsWith last rest
ends_behind [] rest first last e few = (first, e)
ends_behind (x ∷ taken) rest [] last e few = absurd (omega (arith, few))
ends_behind (x ∷ taken) rest (y ∷ first) last e few = ends_behind taken rest first last (ap tail e) (omega (arith, few))
  where
    tail : List ℕ → List ℕ
    tail [] = []
    tail (z ∷ zs) = zs

-- What is to come adds to what was read and printed, and takes from the data.
record Grows (s t : State) : Type 0 where
  refs : StartsWith s.refs t.refs
  printed : StartsWith s.printed t.printed
  input : EndsWith t.regs.input s.regs.input

grows_none : (s : State) → Grows s s
grows_none s = record { refs = starts_none s.refs; printed = starts_none s.printed; input = ([], refl) }

grows_more : (s t u : State) → Grows s t → Grows t u → Grows s u
grows_more s t u first then = record {
  refs = starts_more s.refs t.refs u.refs first.refs then.refs;
  printed = starts_more s.printed t.printed u.printed first.printed then.printed;
  input = ends_more s.regs.input t.regs.input u.regs.input first.input then.input;
}

with_row_grows : (s : State) (row : Row) (m : Regs) → EndsWith m.input s.regs.input → Grows s (with_row s row m)
with_row_grows s row m h = record { refs = starts_with s.refs row.refs; printed = starts_with s.printed row.printed; input = h }

over_is : {F : Type 0} (x y : F) → Over x ≡ Over y → x ≡ y
over_is x y e = cc

module _ (code : List ℕ) (size : ℕ) where
  -- the state that a move leads to
  abbrev after : Move State Final → State
  after (More s) = s
  after (Last final) = final.state

  moved_grows : (s : State) (row : Row) (step : Step) → Drops s.regs step → Grows s (after (next_state code s row step))
  moved_grows s row (On m) h = with_row_grows s row m h
  moved_grows s row (Ends ending m) h = with_row_grows s row m h
  moved_grows s row Odd h = with_row_grows s row s.regs ([], refl)

  one_grows : (s : State) → Grows s (after (one code size s))
  one_grows s = moved_grows s (row code size s.regs) (row code size s.regs).step (row_drops code size s.regs)

  then_grows : (n : ℕ) (move : Move State Final) (final : Final)
      → ((t : State) → exec (one code size) n t ≡ Over final → Grows t final.state)
      → then_on (one code size) move (exec (one code size) n) ≡ Over final → Grows (after move) final.state
  then_grows n (More t) final more e = more t e
  then_grows n (Last x) final more e = let same : x ≡ final = over_is x final e in subst (λ (y : Final). Grows x.state y.state) same (grows_none x.state)

  exec_grows : (n : ℕ) (final : Final) (s : State) → exec (one code size) n s ≡ Over final → Grows s final.state
  exec_grows zero final s e = absurd cc
  exec_grows (suc n) final s e = grows_more s (after (one code size s)) final.state (one_grows s) (then_grows n (one code size s) final (exec_grows n final) e)

  -- An order that a device cut off

  part_by : (t : State) (row : Row) (m : Regs) (read put taken rest : List ℕ) → StartsWith read row.refs → StartsWith put row.printed
      → EndsWith m.input t.regs.input
      → length taken ≤ length t.regs.input - length m.input → t.regs.input ≡ taken ++ rest
      → IsPart (t.refs ++ read) (t.printed ++ put) rest (with_row t row m).refs (with_row t row m).printed m.input
  part_by t row m read put taken rest refs printed drops few is = record {
    refs = starts_behind t.refs read row.refs refs;
    printed = starts_behind t.printed put row.printed printed;
    input =
        let all : length t.regs.input ≡ length drops.0 + length m.input = ap length drops.1 ∙ length-append drops.0 m.input in
        ends_behind taken rest drops.0 m.input (sym is ∙ drops.1) (omega (arith, few, all));
  }

  cut_by : (t : State) (row : Row) (step : Step) (read put taken rest : List ℕ) → StartsWith read row.refs → StartsWith put row.printed
      → Drops t.regs step
      → length taken ≤ length t.regs.input - length (left_by t.regs step) → t.regs.input ≡ taken ++ rest
      → IsPart (t.refs ++ read) (t.printed ++ put) rest (after (next_state code t row step)).refs (after (next_state code t row step)).printed (after (next_state code t row step)).regs.input
  cut_by t row (On m) read put taken rest refs printed drops few is = part_by t row m read put taken rest refs printed drops few is
  cut_by t row (Ends ending m) read put taken rest refs printed drops few is = part_by t row m read put taken rest refs printed drops few is
  cut_by t row Odd read put taken rest refs printed drops few is = part_by t row t.regs read put taken rest refs printed ([], refl) few is

  part_more : (read put rest : List ℕ) (s t : State) → IsPart read put rest s.refs s.printed s.regs.input → Grows s t
      → IsPart read put rest t.refs t.printed t.regs.input
  part_more read put rest s t part h = record {
    refs = starts_more read s.refs t.refs part.refs h.refs;
    printed = starts_more put s.printed t.printed part.printed h.printed;
    input = ends_more rest s.regs.input t.regs.input part.input h.input;
  }

  -- the flat run goes on to an end, and what was read, printed and taken is its first part
  pub cut_runs : (t : State) (read put taken rest : List ℕ) → IsCut (row code size t.regs) t.regs read put taken
      → t.regs.input ≡ taken ++ rest
      → (moves : ℕ) × (final : Final) × (exec (one code size) moves t ≡ Over final)
      × IsPart (t.refs ++ read) (t.printed ++ put) rest final.state.refs final.state.printed final.state.regs.input
  cut_runs t read put taken rest cut is =
      let end = run_ends code size t in
      let first = cut_by t (row code size t.regs) (row code size t.regs).step read put taken rest cut.refs cut.printed (row_drops code size t.regs) cut.input is in
      (enough code t, end.0, end.1, part_more (t.refs ++ read) (t.printed ++ put) rest (after (one code size t)) end.0.state first (then_grows _ (one code size t) end.0 (exec_grows _ end.0) end.1))

  -- Orders one after the other

  -- what the flat run comes to from one state, it comes to from the other
  abbrev pub Reaches : State → State → Type 0
  Reaches s t = (n : ℕ) → (j : ℕ) × (exec (one code size) j s ≡ exec (one code size) n t)

  pub reaches_none : (s : State) → Reaches s s
  reaches_none s = λ n. (n, refl)

  pub reaches_more : (s t u : State) → Reaches s t → one code size t ≡ More u → Reaches s u
  reaches_more s t u h e = λ n. let so = h (suc n) in (so.0, so.1 ∙ ap (λ move. then_on (one code size) move (exec (one code size) n)) e)

  pub reaches_last : (s t : State) (final : Final) → Reaches s t → one code size t ≡ Last final
      → (j : ℕ) × (exec (one code size) j s ≡ Over final)
  reaches_last s t final h e = let so = h 1 in (so.0, so.1 ∙ ap (λ move. then_on (one code size) move (exec (one code size) 0)) e)
