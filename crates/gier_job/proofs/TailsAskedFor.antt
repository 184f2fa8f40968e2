-- Tails that are printed where they are asked for.
use Rattle.std.specs.Prelude.{◌≡◌, ◌++◌, ◌⊎◌, ℕ, Bool, true, false, List, [], Option, Result, Ok, Err, OnOk}
use Rattle.std.proofs.Common.{inl, inr, refl}
use Rattle.gier_io.specs.Device.{Puts}
use Rattle.gier_word.specs.declared.alarm.Alarm.{Alarm}
use Rattle.gier_word.specs.declared.refusal.Failed.{Failed}
use Rattle.gier_order.specs.Flat.Live.{Live}
use Rattle.gier_runner.specs.declared.ending.Ending.{Ending}
use Rattle.gier_runner.specs.declared.ending.Ending.TheVariants as ending
use Rattle.gier_runner.specs.declared.settings.Report.{Report}
use Rattle.gier_job.specs.Status.{of_printer}
use Rattle.gier_job.specs.RunTails.{if_asked}
use Rattle.gier_job.specs.Mortem.{PutsMortem, PutsTails}
use Rattle.gier_job.specs.TailsOfRun.{has_mortem, end_tail, count_tails, run_tails}
use Rattle.gier_job.specs.declared.command.Command.{Command}
use Rattle.gier_job.proofs.LiveTails.{mortem_behind}

-- what was put where the printer didn't fail
pub when_printed : {T : Type 0} {P : Type 0} (put : Result T Failed) (done : T) → of_printer put ≡ Ok done → OnOk put P → P
when_printed (Ok x) done e h = h
when_printed (Err failed) done e h = absurd cc

-- the tails of a run that an alarm or want of steps ended
pub stopped_is : (end : Ending) (c : Command) (report : Report) (most : ℕ) (tracks notes : List ℕ)
    → ((alarm : Alarm) × (end ≡ ending.Alarm alarm)) ⊎ (end ≡ ending.Steps)
    → run_tails end c report most tracks notes ≡ end_tail end ++ count_tails c report most tracks notes
stopped_is end c report most tracks notes (inl h) = rw h.1 refl
stopped_is end c report most tracks notes (inr e) = rw e refl

-- a tail that was asked for
pub ok_asked : {T E : Type 0} (result : Result T E) (asked : Bool) (tail : List ℕ) (a b : Option (List ℕ)) → asked ≡ true
    → OnOk result (Puts a tail b) → OnOk result (Puts a (if_asked asked tail) b)
ok_asked result true tail a b e put = put
ok_asked result false tail a b e put = absurd cc

abbrev pub IsStopped : Ending → Type 0
IsStopped end = ((alarm : Alarm) × (end ≡ ending.Alarm alarm)) ⊎ (end ≡ ending.Steps)

wanted_is : (asked : Bool) (end : Ending) → IsStopped end → has_mortem asked end ≡ asked
wanted_is asked end (inl h) = rw h.1 refl
wanted_is asked end (inr e) = rw e refl

-- with a post-mortem, and without
pub tails_with : {T E : Type 0} (result : Result T E) (asked : Bool) (end : Ending) (tail : List ℕ) (lives : List Live) (a b c : Option (List ℕ)) → IsStopped end → asked ≡ true → Puts a tail b
    → OnOk result (PutsMortem [] lives b c) → OnOk result (PutsTails (has_mortem asked end) tail lives a c)
tails_with (Ok done) true end tail lives a b c is on put mortem = rw (wanted_is true end is) (mortem_behind tail lives a b c put mortem)
tails_with (Ok done) false end tail lives a b c is on put mortem = absurd cc
tails_with (Err failed) asked end tail lives a b c is on put mortem = tt

pub tails_without : (asked : Bool) (end : Ending) (tail : List ℕ) (lives : List Live) (a b : Option (List ℕ)) → IsStopped end
    → asked ≡ false → Puts a tail b → PutsTails (has_mortem asked end) tail lives a b
tails_without true end tail lives a b is off put = absurd cc
tails_without false end tail lives a b is off put = rw (wanted_is false end is) put
