-- What the flat run's report and the meaning tell of a run, and that they agree.
use Rattle.std.proofs.Common.{ℕ, ◌-◌, List, sym, ap, subst}
use Rattle.gier_order.specs.Flat.Run.{Final, report_of, machine_at_start, flat}
use Rattle.gier_order.proofs.Flat.Ends.{flat_is}
use Rattle.gier_meaning.specs.Observation.{observation}
use Rattle.gier_meaning.specs.Outcome.{Outcome, Gives, Goes, Stops, Finished}
use Rattle.gier_env.specs.Closures.{Closure}
use Rattle.gier_flat.specs.Alike.{TellsTheSame}
use Rattle.gier_flat.proofs.Setting.{Setting}
use Rattle.gier_flat.proofs.OrderRows.{object}
use Rattle.gier_flat.proofs.StartAndStop.{EndAgrees, ComesTo}

module _ (setting : Setting) where
  agree : (steps : ℕ) (final : Final) (r : Outcome Closure Finished) → EndAgrees setting final r → TellsTheSame setting.text (report_of steps final) (observation steps r)
  agree steps final (Gives _ s) a = record { printed = a.1; ending = a.0; steps = ap (λ k. steps - k) a.2; words = a.3; left = a.4; stop = tt }
  agree steps final (Goes n s) a = absurd a
  agree steps final (Stops why stop s) a = record { printed = a.printed; ending = a.ending; steps = ap (λ k. steps - k) a.left; words = a.most; left = a.input; stop = (a.line, a.alike) }

  -- of whatever number of moves a run is over with, that is what the flat run tells
  pub reports : (input : List ℕ) (steps : ℕ) (r : Outcome Closure Finished) → ComesTo setting (machine_at_start 0 input steps) r → TellsTheSame setting.text (flat (object setting.text) 0 input steps setting.size) (observation steps r)
  reports input steps r c = subst (λ report. TellsTheSame setting.text report (observation steps r)) (sym (flat_is (object setting.text) setting.size 0 input steps c.0 c.1 c.2)) (agree steps c.1 r c.3)
