-- What the words of the command line mean: the first is `check` or `run`, and each other one is `name=value`.
use Rattle.std.specs.Prelude.{◌≡◌, ◌≤◌, ℕ, Bool, true, false, if◌then◌else◌, List, ◌∷◌, ◌++◌, codes, decimal}
use Rattle.gier_job.specs.declared.words.Key.{Key}
use Rattle.gier_job.specs.declared.words.Key.TheVariants.{Places, Steps, Stack, Report, Table, Sample, Best, Mortem}
use Rattle.gier_job.specs.declared.words.Setting.{Setting}

abbrev pub name_of : Key → List ℕ
name_of Places = codes "places"
name_of Steps = codes "steps"
name_of Stack = codes "stack"
name_of Report = codes "report"
name_of Table = codes "table"
name_of Sample = codes "sample"
name_of Best = codes "best"
name_of Mortem = codes "mortem"

-- a flag has `yes` as its one value, which counts as 1
abbrev pub is_flag : Key → Bool
is_flag Report = true
is_flag Table = true
is_flag Best = true
is_flag Mortem = true
is_flag _ = false

abbrev pub least_of : Key → ℕ
least_of Steps = 0
least_of Sample = 0
least_of Stack = 64
least_of _ = 1

abbrev pub greatest_of : Key → ℕ
greatest_of Places = 64
greatest_of Steps = 1000000000000
greatest_of Stack = 1000000
greatest_of Sample = 2000
greatest_of _ = 1

-- numbers are written in digits without a leading zero
abbrev pub value_text : Key → ℕ → List ℕ
value_text key value = if is_flag key then codes "yes" else decimal value

abbrev pub IsPermitted : Key → ℕ → Type 0
IsPermitted key value = (least_of key ≤ value) × (value ≤ greatest_of key)

-- a word that makes a setting
pub record Makes (word : List ℕ) (setting : Setting) : Type 0 where
  pub written : word ≡ name_of setting.key ++ 61 ∷ value_text setting.key setting.value
  pub permitted : IsPermitted setting.key setting.value
