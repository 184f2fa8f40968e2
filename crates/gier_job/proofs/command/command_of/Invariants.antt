use Rattle.std.proofs.Common.{◌≡◌, drop}
use Rattle.gier_job.specs.Command.{plain_command, with_settings, IsFew, IsWithin}
use Rattle.gier_job.proofs.command.command_of.Given as goal

-- the sample has few calls, the settings are such that a runner may have, and what is left to set makes of the command so far what all settings make of the plain one
abbrev pub invariant-loop-setting : goal.invariant-loop-setting
invariant-loop-setting l = record {
  rest : with_settings l.command (drop l.setting-index l.settings) ≡ with_settings (plain_command l.check) l.settings;
  few : IsFew l.command.sample;
  within : IsWithin l.command.settings;
}
