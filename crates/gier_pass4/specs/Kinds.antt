-- What the words before identifiers say of their kind, and of the place and the declaration in which they stand.
use Rattle.std.specs.Prelude.{ℕ, Option, None}
use Rattle.gier_symbol.specs.declared.tag.Tag.{Tag}
use Rattle.gier_symbol.specs.declared.tag.Tag.TheVariants.{Integer as IntegerWord, Boolean as BooleanWord, Array as ArrayWord}
use Rattle.gier_symbol.specs.declared.tag.Tag.TheVariants.{Switch as SwitchWord, Procedure as ProcedureWord}
use Rattle.gier_symbol.specs.declared.tag.Tag.TheVariants.{String as StringWord, Label as LabelWord}
use Rattle.gier_tree.specs.declared.kind.Kind.{Kind}
use Rattle.gier_tree.specs.declared.kind.Kind.TheVariants.{IntegerVariable, BooleanVariable, IntegerArray, BooleanArray}
use Rattle.gier_tree.specs.declared.kind.Kind.TheVariants.{Procedure, IntegerProcedure, BooleanProcedure, IntegerValue}
use Rattle.gier_tree.specs.declared.kind.Kind.TheVariants.{BooleanValue, IntegerFormal, BooleanFormal, IntegerArrayFormal}
use Rattle.gier_tree.specs.declared.kind.Kind.TheVariants.{BooleanArrayFormal, LabelFormal, SwitchFormal, StringFormal}
use Rattle.gier_tree.specs.declared.kind.Kind.TheVariants.{ProcedureFormal, IntegerProcedureFormal, BooleanProcedureFormal}
use Rattle.gier_pass4.specs.declared.marks.ParseState.{ParseState}
use Rattle.gier_pass4.specs.declared.marks.ParseState.TheVariants.{Heading}
use Rattle.gier_pass4.specs.declared.owns.Frame.{Frame}
use Rattle.gier_pass4.specs.declared.owns.Frame.TheVariants.{Beginning}
use Rattle.gier_pass4.specs.declared.owns.Owned.{Owned}
use Rattle.gier_pass4.specs.declared.owns.Owned.TheVariants.{No, Unknown as MayBe, Yes}

-- the kind of a formal that stands in the value list
abbrev pub by_value : Kind → Kind
by_value IntegerFormal = IntegerValue
by_value BooleanFormal = BooleanValue
by_value kind = kind

-- the kind of a procedure in whose heading these words stand that would specify a formal of this kind
abbrev pub declared_by : Kind → Kind
declared_by IntegerProcedureFormal = IntegerProcedure
declared_by BooleanProcedureFormal = BooleanProcedure
declared_by kind = Procedure

-- the kind that `_integer` or `_boolean` gives in a specification, where the words behind it gave this one
abbrev pub integer_before : Kind → Kind
integer_before IntegerArrayFormal = IntegerArrayFormal
integer_before ProcedureFormal = IntegerProcedureFormal
integer_before kind = IntegerFormal

abbrev pub boolean_before : Kind → Kind
boolean_before IntegerArrayFormal = BooleanArrayFormal
boolean_before ProcedureFormal = BooleanProcedureFormal
boolean_before kind = BooleanFormal

-- the kind that a word of a specification gives
abbrev pub specified_by : Kind → Tag → Kind
specified_by behind IntegerWord = integer_before behind
specified_by behind BooleanWord = boolean_before behind
specified_by behind ArrayWord = IntegerArrayFormal
specified_by behind SwitchWord = SwitchFormal
specified_by behind ProcedureWord = ProcedureFormal
specified_by behind StringWord = StringFormal
specified_by behind LabelWord = LabelFormal
specified_by behind _ = behind

-- the kind of variables and of arrays with this type
abbrev pub variable_by : Tag → Kind
variable_by BooleanWord = BooleanVariable
variable_by _ = IntegerVariable

abbrev pub array_by : Tag → Kind
array_by BooleanWord = BooleanArray
array_by _ = IntegerArray

-- the procedure whose heading is being read, where its identifier was read
abbrev pub procedure_of : ParseState → Option ℕ
procedure_of (Heading kind x) = x
procedure_of place = None

-- the place behind a word, where that is one of a specification
abbrev pub said_at : ParseState → Tag → ParseState
said_at (Heading kind x) given = Heading (specified_by kind given) x
said_at place given = place

-- whether it is known of a declaration that it is an own one, where it begins at its end
abbrev pub owned_at : Frame → Owned → Owned
owned_at Beginning No = MayBe
owned_at frame owned = owned

-- the same once a type with this line was read
abbrev pub typed_at : Owned → (line : ℕ) → Owned
typed_at (Yes own) line = Yes (record { fresh = own.fresh; type_line = line })
typed_at owned line = owned
