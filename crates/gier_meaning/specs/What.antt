-- What a name is, as far as room, need and the kinds of actuals ask.
use Rattle.std.specs.Prelude.{◌==◌, ℕ, List, [], ◌∷◌, if◌then◌else◌}
use Rattle.gier_agree.specs.declared.kind.Kind.{Kind}
use Rattle.gier_agree.specs.declared.kind.Kind.TheVariants as kind
use Rattle.gier_tree.specs.declared.kind.Kind.{Kind as Standard}
use Rattle.gier_meaning.specs.Tree.{Name, Identifier, AnEntity, AProcedure, AFormalProcedure, AText, AStandard, AnActual, Formal}
use Rattle.gier_meaning.specs.Tree.{Statement, Statements, Declarations, NoDeclarations, Variables, Arrays, Switch, Procedure}
use Rattle.gier_meaning.specs.Scopes.{identifiers_in, identifier_in, labels, all_labels}
use Rattle.gier_meaning.specs.Outcome.{is_among}

-- a kind is that of an actual that is the name alone; a procedure has beside its own those of its formals
pub data What : Type 0 where
  Unknown : What
  -- a variable or a formal by value, and a formal by name
  IsVariable : Kind → What
  IsByName : Kind → What
  IsArray : Kind → What
  IsLabel IsSwitch IsString : What
  IsProcedure : Kind → List Kind → What
  IsFormalProcedure : Kind → What
  IsStandard : Standard → What

abbrev pub kinds : List Formal → List Kind
kinds [] = []
kinds (formal ∷ formals) = formal.kind ∷ kinds formals

-- as a block's declarations say it of their own identifiers, and elsewhere as before
abbrev pub declared_by : Declarations → ℕ → What → What
declared_by NoDeclarations x outer = outer
declared_by (Variables kind names ds) x outer =
    if is_among x (identifiers_in names) then IsVariable kind else declared_by ds x outer
declared_by (Arrays kind line names bounds ds) x outer =
    if is_among x (identifiers_in names) then IsArray kind else declared_by ds x outer
declared_by (Switch line name elements ds) x outer =
    if is_among x (identifier_in name) then IsSwitch else declared_by ds x outer
declared_by (Procedure line kind own name formals body ds) x outer =
    if is_among x (identifier_in name) then IsProcedure kind (kinds formals) else declared_by ds x outer

-- what a formal of a kind is, in the body of its procedure
abbrev pub formal_what : Kind → What
formal_what kind.IntegerByValue = IsVariable kind.Integer
formal_what kind.BooleanByValue = IsVariable kind.Boolean
formal_what kind.Integer = IsByName kind.Integer
formal_what kind.Boolean = IsByName kind.Boolean
formal_what kind.Label = IsLabel
formal_what kind.IntegerArray = IsArray kind.IntegerArray
formal_what kind.BooleanArray = IsArray kind.BooleanArray
formal_what kind.Switch = IsSwitch
formal_what kind.String = IsString
formal_what kind.Procedure = IsFormalProcedure kind.Procedure
formal_what kind.IntegerProcedure = IsFormalProcedure kind.IntegerProcedure
formal_what kind.BooleanProcedure = IsFormalProcedure kind.BooleanProcedure

abbrev pub specified_by : List Formal → ℕ → What → What
specified_by [] x outer = outer
specified_by (formal ∷ formals) x outer = if x == formal.identifier then formal_what formal.kind else specified_by formals x outer

abbrev pub labels_by : List ℕ → ℕ → What → What
labels_by xs x outer = if is_among x xs then IsLabel else outer

-- of each name, where the declarations or formals that stand in between are asked first
abbrev pub asking_first : (ℕ → What → What) → (Name → What) → Name → What
asking_first own what (Identifier x) = own x (what (Identifier x))
asking_first own what (AnEntity n) = what (AnEntity n)
asking_first own what (AProcedure n) = what (AProcedure n)
asking_first own what (AFormalProcedure n) = what (AFormalProcedure n)
asking_first own what (AText bytes) = what (AText bytes)
asking_first own what (AStandard standard) = what (AStandard standard)
asking_first own what (AnActual meant kind e) = what (AnActual meant kind e)

-- within a block, a procedure and a controlled statement
abbrev pub in_block : Declarations → Statements → (Name → What) → Name → What
in_block ds ss what = asking_first (λ x outer. declared_by ds x (labels_by (all_labels ss) x outer)) what

abbrev pub in_procedure : List Formal → Statement → (Name → What) → Name → What
in_procedure formals body what = asking_first (λ x outer. specified_by formals x (labels_by (labels body) x outer)) what

abbrev pub in_controlled : Statement → (Name → What) → Name → What
in_controlled s what = asking_first (labels_by (labels s)) what
