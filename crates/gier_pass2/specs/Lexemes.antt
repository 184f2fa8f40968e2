-- Runs of letters and digits.
use Rattle.std.specs.Prelude.{◌≡◌, ◌<◌, ◌≤◌, ◌^◌, ◌||◌, ℕ, Bool, false, if◌then◌else◌, Option, None, Some, nat_lt}
use Rattle.gier_symbol.specs.declared.symbol.Symbol.{Symbol}
use Rattle.gier_symbol.specs.declared.tag.Tag.TheVariants.{Letter, Digit, Identifier, Number as NumberTag}
use Rattle.gier_symbol.specs.Tags.{number_of}
use Rattle.gier_text.specs.declared.fault.FaultKind.TheVariants.{Number as NumberFault}
use Rattle.gier_text.specs.TablesModel.{TablesModel, AddsFault}
use Rattle.gier_pass2.specs.declared.runs.Lexeme.{Lexeme}
use Rattle.gier_pass2.specs.declared.runs.Lexeme.TheVariants.{Nothing, Name, Number}
use Rattle.gier_pass2.specs.declared.runs.AssembledToken.{AssembledToken}
use Rattle.gier_pass2.specs.ParameterComma.{is_kind}

-- a run of an identifier is at a node, of which there are so many
abbrev pub IsRun : Lexeme → ℕ → Type 0
IsRun Nothing nodes = Unit {0}
IsRun (Name node line plain) nodes = (node < nodes) × (line < 2 ^ 24)
IsRun (Number value line position) nodes = (value ≤ 2 ^ 39) × (line < 2 ^ 24)

-- how many symbols a run gives at its end
abbrev pub lexeme_symbols : Lexeme → ℕ
lexeme_symbols Nothing = 0
lexeme_symbols (Name node line plain) = 1
lexeme_symbols (Number value line position) = 1

-- whether the run has the symbol too
abbrev pub goes_on : Lexeme → Symbol → Bool
goes_on Nothing s = false
goes_on (Name node line plain) s = is_kind Letter s || is_kind Digit s
goes_on (Number value line position) s = is_kind Digit s

-- how many runs a symbol begins
abbrev pub begins : Symbol → ℕ
begins s = if is_kind Letter s then 1 else (if is_kind Digit s then 1 else 0)

-- a number is its value, and where it is too large it is 0, and a fault is added
pub record Values (value at_line at : ℕ) (old : TablesModel) (result : ℕ) (new : TablesModel) : Type 0 where
  pub fits : value < 2 ^ 39 → (result ≡ value) × (new ≡ old)
  pub large : 2 ^ 39 ≤ value → (result ≡ 0) × AddsFault old (record { position = at; line = at_line; kind = NumberFault }) new

-- what a run gives
pub record GivesName (at_line : ℕ) (is_plain : Bool) (word : AssembledToken) : Type 0 where
  pub tag : word.symbol.tag ≡ number_of Identifier
  pub line : word.symbol.line ≡ at_line
  pub plain : word.plain ≡ is_plain

pub record GivesNumber (total at_line : ℕ) (word : AssembledToken) : Type 0 where
  pub symbol : word.symbol ≡ record {
    tag = number_of NumberTag;
    value = if nat_lt total (2 ^ 39) then total
        else 0;
    line = at_line;
  }
  pub plain : word.plain ≡ false

abbrev pub EndsAs : Lexeme → Option AssembledToken → Type 0
EndsAs Nothing None = Unit {0}
EndsAs Nothing (Some word) = ⊥
EndsAs (Name node line plain) None = ⊥
EndsAs (Name node line plain) (Some word) = GivesName line plain word
EndsAs (Number value line position) None = ⊥
EndsAs (Number value line position) (Some word) = GivesNumber value line word
