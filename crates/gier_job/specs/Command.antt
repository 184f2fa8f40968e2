-- Which lists of words are a command, and which is the first wrong word of all others.
use Rattle.std.specs.Prelude.{◌≡◌, ◌≢◌, ◌≤◌, ◌<◌, ◌^◌, ◌-◌, ◌⊎◌, ℕ, Bool, true, false, List, [], ◌∷◌, Option, None, Some, take}
use Rattle.std.specs.Prelude.{length, codes, All, ⊤}
use Rattle.std.specs.List.{AllZip}
use Rattle.gier_runner.specs.declared.settings.Settings.{Settings}
use Rattle.gier_job.specs.Words.{Makes}
use Rattle.gier_job.specs.declared.words.Key.{Key}
use Rattle.gier_job.specs.declared.words.Key.TheVariants.{Places, Steps, Stack, Report, Table, Sample, Best, Mortem}
use Rattle.gier_job.specs.declared.words.Setting.{Setting}
use Rattle.gier_job.specs.declared.command.Command.{Command}

-- the first word
abbrev pub mode_word : Bool → List ℕ
mode_word true = codes "check"
mode_word false = codes "run"

-- behind `check` only `sample=` may stand
abbrev pub MayStand : Bool → Key → Type 0
MayStand true Sample = ⊤
MayStand true _ = ⊥
MayStand false key = ⊤

abbrev pub NotGiven : Key → List Setting → Type 0
NotGiven key settings = All (λ s. s.key ≢ key) settings

abbrev pub NoKeyTwice : List Setting → Type 0
NoKeyTwice [] = ⊤
NoKeyTwice (s ∷ settings) = NotGiven s.key settings × NoKeyTwice settings

-- a sample has at most 2000 calls
abbrev pub IsFew : Option ℕ → Type 0
IsFew None = ⊤
IsFew (Some calls) = calls ≤ 2000

-- what a runner may be opened with
pub record IsWithin (settings : Settings) : Type 0 where
  pub least : 1 ≤ settings.places
  pub most : settings.places ≤ 64
  pub stack : settings.stack < 2 ^ 24

-- a command that words may ask for
pub record IsPermitted (command : Command) : Type 0 where
  pub few : IsFew command.sample
  pub within : IsWithin command.settings

-- what holds where no word says otherwise
abbrev pub plain_command : Bool → Command
plain_command check = record {
  check = check;
  settings = record { places = 8; steps = 10000000; stack = 20000 };
  report = false;
  table = false;
  sample = None;
  best = false;
  mortem = false;
}

abbrev pub with_key : Command → Key → ℕ → Command
with_key command Places value = record command { settings = record command.settings { places = value } }
with_key command Steps value = record command { settings = record command.settings { steps = value } }
with_key command Stack value = record command { settings = record command.settings { stack = value } }
with_key command Report value = record command { report = true }
with_key command Table value = record command { table = true }
with_key command Sample value = record command { sample = Some value }
with_key command Best value = record command { best = true }
with_key command Mortem value = record command { mortem = true }

abbrev pub with_settings : Command → List Setting → Command
with_settings command [] = command
with_settings command (s ∷ settings) = with_settings (with_key command s.key s.value) settings

-- the words are `check` or `run` and then settings that may stand together, and this is the command that they give
pub record IsCommand (words : List (List ℕ)) (command : Command) : Type 0 where
  pub checks : Bool
  pub rest : List (List ℕ)
  pub settings : List Setting
  pub first : words ≡ mode_word checks ∷ rest
  pub made : AllZip Makes rest settings
  pub allowed : All (λ s. MayStand checks s.key) settings
  pub once : NoKeyTwice settings
  pub means : command ≡ with_settings (plain_command checks) settings

-- the words up to and with this one, counted from 1, are no command, but those before it are one or none at all.
-- With no words the first one is wrong, since it is missing.
pub record IsFirstWrong (words : List (List ℕ)) (number : ℕ) : Type 0 where
  pub least : 1 ≤ number
  pub greatest : (number ≤ length words) ⊎ (number ≡ 1)
  pub before : (number ≡ 1) ⊎ ((command : Command) × IsCommand (take (number - 1) words) command)
  pub wrong : (command : Command) → IsCommand (take number words) command → ⊥
