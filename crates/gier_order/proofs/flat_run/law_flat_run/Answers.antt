use Rattle.gier_order.proofs.flat_run.law_flat_run.Goals as goal
use Rattle.gier_order.proofs.Flat.Values.{all_answered as values_answered}
use Rattle.gier_order.proofs.Flat.Calls.{all_answered as calls_answered}
use Rattle.gier_order.proofs.Flat.Stops.{all_answered as stops_answered}
use Rattle.gier_order.proofs.Flat.Spoilt.{all_answered as spoilt_answered}

pub returns : goal.returns
returns c = record { values = values_answered; calls = calls_answered; stops = stops_answered; spoilt = spoilt_answered }
