-- The fault of structure that the pass finds, and how it stands to the definition while symbols are taken.
use Rattle.std.specs.Prelude.{◌≡◌, ◌==◌, ◌||◌, ℕ, Bool, true, false, IsTrue, List, [], ◌∷◌, ◌++◌, length, Option, None, Some}
use Rattle.gier_symbol.specs.declared.symbol.Symbol.{Symbol}
use Rattle.gier_symbol.specs.declared.tag.Tag.{Tag}
use Rattle.gier_symbol.specs.declared.tag.Tag.TheVariants.{Identifier, Number, StringByte}
use Rattle.gier_symbol.specs.Texts.{is_tag_of}
use Rattle.gier_text.specs.declared.fault.Fault.{Fault}
use Rattle.gier_text.specs.declared.fault.FaultKind.TheVariants.{Structure}
use Rattle.gier_text.specs.TablesModel.{TablesModel}
use Rattle.gier_tree.specs.Signs.{Sign, sign_tag}
use Rattle.gier_tree.specs.Structure.{step, step_sign, first_refused, structure_fault}
use Rattle.gier_pass3.specs.Grammar.{wanted_in, StackInvariant}

-- a symbol has a value only where it is an identifier, a number or a byte of a string
abbrev pub has_value : (tag : ℕ) → Bool
has_value tag = is_tag_of Identifier tag || is_tag_of Number tag || is_tag_of StringByte tag

abbrev pub IsBare : Symbol → Type 0
IsBare s = IsTrue (has_value s.tag || s.value == 0)

-- the fault, if any: where it stands is told by how many symbols came before it, and by its line
abbrev pub faults_of : Bool → ℕ → ℕ → List Fault
faults_of true at_position at_line = record { position = at_position; line = at_line; kind = Structure } ∷ []
faults_of false at_position at_line = []

-- the one fault stands at the first symbol that is refused, on this line
pub record IsRefused (read : List Symbol) (line : ℕ) (faults : List Fault) : Type 0 where
  pub before : List Symbol
  pub wrong : Symbol
  pub behind : List Symbol
  pub whole : read ≡ before ++ wrong ∷ behind
  pub begins : structure_fault before ≡ None
  pub refused : structure_fault (before ++ wrong ∷ []) ≡ Some line
  pub told : faults ≡ faults_of true (length before) line

-- the faults are those of these symbols' structure: none, or one on that line
abbrev pub AreFound : Option ℕ → (read : List Symbol) → List Fault → Type 0
AreFound None read faults = faults ≡ []
AreFound (Some line) read faults = IsRefused read line faults

-- no symbol was refused yet, and the pass wants what the grammar does
pub record GoesOn (t : TablesModel) (read : List Symbol) : Type 0 where
  pub none : t.faults ≡ []
  pub items : StackInvariant t
  pub same : (more : List Symbol) → structure_fault (read ++ more) ≡ first_refused more (wanted_in t)

-- a symbol was refused, whatever follows
pub record HasFailed (t : TablesModel) (read : List Symbol) : Type 0 where
  pub line : ℕ
  pub refused : IsRefused read line t.faults
  pub same : (more : List Symbol) → structure_fault (read ++ more) ≡ Some line

abbrev pub FaultInvariant : (stopped : Bool) → TablesModel → (read : List Symbol) → Type 0
FaultInvariant false t read = GoesOn t read
FaultInvariant true t read = HasFailed t read

-- before a symbol of this kind some grammar symbols are nothing
pub record Passes (kind : Tag) (t u : TablesModel) : Type 0 where
  pub items : StackInvariant u
  pub same : (sign : Sign) (line : ℕ) → sign_tag sign ≡ kind → step_sign sign line (wanted_in t) ≡ step_sign sign line (wanted_in u)

-- the symbol was taken: the pass wants what the grammar does behind it
pub record Takes (s : Symbol) (t u : TablesModel) : Type 0 where
  pub items : StackInvariant u
  pub same : (more : List Symbol) → first_refused (s ∷ more) (wanted_in t) ≡ first_refused more (wanted_in u)

-- the symbol was taken, or refused
abbrev pub Follows : (stopped : Bool) → Symbol → TablesModel → TablesModel → Type 0
Follows true s t u = step s (wanted_in t) ≡ None
Follows false s t u = Takes s t u
