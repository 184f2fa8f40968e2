-- What words say of the kinds of identifiers, where they are read backward: of a specification and of a procedure the last word
-- comes first.
use Rattle.std.specs.Prelude.{◌==◌, ℕ, Bool, List, [], ◌∷◌, if◌then◌else◌}
use Rattle.std.specs.List.{list_any}
use Rattle.gier_symbol.specs.declared.tag.Tag.{Tag}
use Rattle.gier_symbol.specs.declared.tag.Tag.TheVariants.{Array as ArrayWord, Switch as SwitchWord, Procedure as ProcedureWord}
use Rattle.gier_symbol.specs.declared.tag.Tag.TheVariants.{String as StringWord, Label as LabelWord}
use Rattle.gier_tree.specs.declared.kind.Kind.{Kind}
use Rattle.gier_tree.specs.declared.kind.Kind.TheVariants.{Undeclared, Procedure, IntegerProcedure, BooleanProcedure, IntegerValue}
use Rattle.gier_tree.specs.declared.kind.Kind.TheVariants.{BooleanValue, IntegerFormal, BooleanFormal, IntegerArrayFormal}
use Rattle.gier_tree.specs.declared.kind.Kind.TheVariants.{BooleanArrayFormal, LabelFormal, SwitchFormal, StringFormal}
use Rattle.gier_tree.specs.declared.kind.Kind.TheVariants.{ProcedureFormal, IntegerProcedureFormal, BooleanProcedureFormal}
use Rattle.gier_tree.specs.Trees.{ValueType, IntegerType, BooleanType}

-- the identifiers of a specification, and the kind that its words that were read give
pub data Specified : Type 0 where
  MkSpecified : (names : List ℕ) → Kind → Specified

-- what a type says in a specification, where the words behind it gave this kind
abbrev pub typed_specification : ValueType → (behind : Kind) → Kind
typed_specification IntegerType IntegerArrayFormal = IntegerArrayFormal
typed_specification IntegerType ProcedureFormal = IntegerProcedureFormal
typed_specification IntegerType behind = IntegerFormal
typed_specification BooleanType IntegerArrayFormal = BooleanArrayFormal
typed_specification BooleanType ProcedureFormal = BooleanProcedureFormal
typed_specification BooleanType behind = BooleanFormal

-- what another word says; of an array the type is told only before it
abbrev pub worded_specification : Tag → (behind : Kind) → Kind
worded_specification ArrayWord behind = IntegerArrayFormal
worded_specification SwitchWord behind = SwitchFormal
worded_specification ProcedureWord behind = ProcedureFormal
worded_specification StringWord behind = StringFormal
worded_specification LabelWord behind = LabelFormal
worded_specification _ behind = behind

-- the kind of a formal that stands in the value list
abbrev pub by_value : Kind → Kind
by_value IntegerFormal = IntegerValue
by_value BooleanFormal = BooleanValue
by_value kind = kind

-- the kind of a procedure in whose heading these words stand that would specify a formal of this kind
abbrev pub declared_kind : Kind → Kind
declared_kind IntegerProcedureFormal = IntegerProcedure
declared_kind BooleanProcedureFormal = BooleanProcedure
declared_kind kind = Procedure

abbrev pub is_among : (x : ℕ) → List ℕ → Bool
is_among x names = list_any (λ n. n == x) names

-- the kind of a formal: the first specification in the order of the text that names it counts
abbrev pub formal_in : List Specified → (values : List ℕ) → (x : ℕ) → Kind
formal_in [] values x = Undeclared
formal_in (MkSpecified names kind ∷ more) values x =
    if is_among x names then (if is_among x values then by_value kind else kind) else formal_in more values x
