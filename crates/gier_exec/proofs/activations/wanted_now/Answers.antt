use Rattle.std.proofs.Common.{nat_le, ◌&&◌, sym, ◌∙◌}
use Rattle.gier_order.specs.Flat.Row.{needs}
use Rattle.gier_exec.proofs.Leavings.{wanted_some, wanted_none}
use Rattle.gier_exec.proofs.activations.wanted_now.Goals as goal

pub returns-in-Some : goal.returns-in-Some
returns-in-Some c = record {
  row = λ code input m go entered.
      c.in-Ok.ensures.row code input m (λ wanted. needs (nat_le 1 wanted && nat_le wanted 3) (go wanted)) entered
      ∙ wanted_some c.in-Ok.number c.in-Some.wanted go (sym c.in-Some.is ∙ c.of.ensures);
}

pub returns-in-None : goal.returns-in-None
returns-in-None c = record {
  row = λ code input m go entered.
      c.in-Ok.ensures.row code input m (λ wanted. needs (nat_le 1 wanted && nat_le wanted 3) (go wanted)) entered
      ∙ wanted_none c.in-Ok.number (go c.in-Ok.number) (sym c.in-None.is ∙ c.of.ensures);
}

pub returns-in-Err : goal.returns-in-Err
returns-in-Err c = record { row = λ code input m go entered. c.in-Err.ensures.row code input m (λ wanted. needs (nat_le 1 wanted && nat_le wanted 3) (go wanted)) entered }
