-- Replies to commands, as an independent model gives them: what is printed, with which status, and what is taken from the tape.
use Rattle.std.specs.Prelude.{◌≡◌, ℕ, false, true, List, [], ◌++◌, Some, codes}
use Rattle.gier_job.specs.Command.{plain_command}
use Rattle.gier_job.specs.Reply.{Reply, reply_to}
use Rattle.gier_job.specs.declared.command.Command.{Command}
use Rattle.gier_job.specs.declared.status.Status.{Status}
use Rattle.gier_job.specs.declared.status.Status.TheVariants.{Done, Errors, Alarm, Steps}

abbrev pub reply : Status → (printed taken : List ℕ) → Reply
reply status printed taken = record { status = status; printed = printed; taken = taken }

-- `run` with so few steps and words that a run is computed at once
abbrev pub short_run : (places steps : ℕ) → Command
short_run places steps = record (plain_command false) { settings = record { places = places; steps = steps; stack = 100 } }

abbrev pub prints : List ℕ
prints = codes "_begin outinteger(2+3); outcr _end"

abbrev pub loops : List ℕ
loops = codes "_begin _integer i; _for i := 1, 7 _do outinteger(i) _end"

abbrev pub takes_data : List ℕ
takes_data = codes "_begin outinteger(ininteger) _end#"

abbrev pub line_feed : List ℕ
line_feed = codes "_begin outcr _end"

abbrev pub with_error : List ℕ
with_error = codes "_begin\na := b _end#"

abbrev pub assigns_to_sum : List ℕ
assigns_to_sum = codes "_begin\n_procedure p(x); _integer x;\n  x := 1;\np(2+3)\n_end"

abbrev pub endless : List ℕ
endless = codes "_begin l: outchar(65); _goto l _end"

abbrev pub counts_own : List ℕ
counts_own = codes "_begin _procedure p; _begin _own _integer c; c := c + 1; outinteger(c) _end; p; p _end"

abbrev pub stopped_in_sum : List ℕ
stopped_in_sum =
    codes "\n*** alarm assignment\n\n*** mortem line 3\n\n*** evaluation line 3 words 6\n\n*** procedure line 4 words 8\n"
    ++ codes "\n*** block words 5\n\n*** program words 3\n"

pub record AreReplied : Type 0 where
  pub printed : reply_to (short_run 8 50) prints ≡ reply Done (codes "5\n") prints
  pub reported : reply_to (record (short_run 8 50) { report = true }) loops ≡ reply Done
      (codes "17\n*** steps 3 transfers 1 words 9\n") loops
  pub taken : reply_to (short_run 8 50) (takes_data ++ codes "42 7") ≡ reply Done (codes "42") (takes_data ++ codes "42 ")
  pub checked : reply_to (plain_command true) (line_feed ++ codes "#rest") ≡ reply Done [] (line_feed ++ codes "#")
  pub refused : reply_to (plain_command true) (with_error ++ codes "rest") ≡ reply Errors
      (codes "line 2 not declared\nline 2 not declared\n") with_error
  pub stopped : reply_to (record (short_run 8 50) { mortem = true }) assigns_to_sum ≡ reply Alarm stopped_in_sum assigns_to_sum
  pub out_of_steps : reply_to (short_run 8 3) endless ≡ reply Steps (codes "AAAA\n*** steps\n") endless
  pub planned : reply_to (record (short_run 1 50) { best = true }) line_feed ≡ reply Done (codes "\n\n*** best 1 0/1\n") line_feed
  pub counted : reply_to (record (short_run 8 50) { report = true }) counts_own ≡ reply Done
      (codes "12\n*** steps 6 transfers 1 words 20\n") counts_own
  pub sampled : reply_to (record (short_run 8 50) { sample = Some 0 }) (codes "abc") ≡ reply Done (codes "0\n") []
