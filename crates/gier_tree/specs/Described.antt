-- What is known of an identifier where it is used, and the scopes of a hoisted program (5, 5.4.5): in it own declarations declare
-- nothing. Scopes tell of each identifier what it is there; where none declares it, it is undeclared.
use Rattle.std.specs.Prelude.{ℕ, suc, ◌==◌, Bool, true, false, List, [], ◌∷◌, map, length, Option, None, Some, if◌then◌else◌}
use Rattle.std.specs.List.{list_any}
use Rattle.gier_tree.specs.declared.kind.Kind.{Kind}
use Rattle.gier_tree.specs.declared.kind.Kind.TheVariants.{Undeclared, IntegerVariable, BooleanVariable, IntegerArray}
use Rattle.gier_tree.specs.declared.kind.Kind.TheVariants.{BooleanArray, Label, Switch, Procedure, IntegerProcedure}
use Rattle.gier_tree.specs.declared.kind.Kind.TheVariants.{BooleanProcedure, IntegerValue, BooleanValue, IntegerFormal}
use Rattle.gier_tree.specs.declared.kind.Kind.TheVariants.{BooleanFormal, IntegerArrayFormal, BooleanArrayFormal, LabelFormal}
use Rattle.gier_tree.specs.declared.kind.Kind.TheVariants.{SwitchFormal, StringFormal, ProcedureFormal, IntegerProcedureFormal}
use Rattle.gier_tree.specs.declared.kind.Kind.TheVariants.{BooleanProcedureFormal, OutInteger, OutText, OutCr, OutChar, InInteger}
use Rattle.gier_tree.specs.declared.kind.Kind.TheVariants.{InChar, Abs, Sign}
use Rattle.gier_tree.specs.Declaring.{list_of, formals_of, labels_of_statement, labels_of_statements, labels_of_program}
use Rattle.gier_tree.specs.Trees.{Name, Names, ValueType, IntegerType, BooleanType, TypeWord, Segment, MkSegment, NextSegment}
use Rattle.gier_tree.specs.Trees.{ValuePart, NoValues, ValueList, Specifier, ValueSpec, ArraySpec, LabelSpec, SwitchSpec}
use Rattle.gier_tree.specs.Trees.{StringSpec, ProcedureSpec, FunctionSpec, Specification, Heading, MkHeading, LabelPlace}
use Rattle.gier_tree.specs.Trees.{Declaration, DeclareType, DeclareOwn, DeclareArrays, DeclareOwnArrays, DeclareSwitch}
use Rattle.gier_tree.specs.Trees.{DeclareProcedure, Declarations, NoDeclarations, MoreDeclarations, Statement, Statements}
use Rattle.gier_tree.specs.Trees.{Program}

-- its kind; of an array the number of subscripts, of a procedure that of its formals; and the kinds of those
pub record Described : Type 0 where
  pub kind : Kind
  pub count : ℕ
  pub formals : List Kind

abbrev pub Scopes : Type 0
Scopes = ℕ → Described

abbrev pub description : Kind → (count : ℕ) → List Kind → Described
description kind count formals = record { kind = kind; count = count; formals = formals }

abbrev pub plain : Kind → Described
plain kind = description kind 0 []

-- in a scope that declares this identifier
abbrev pub bind : (x : ℕ) → Described → Scopes → Scopes
bind x d scopes y = if y == x then d else scopes y

-- of two declarations of one identifier in a scope the first one counts
abbrev pub bind_all : List Name → Described → Scopes → Scopes
bind_all [] d scopes = scopes
bind_all (x ∷ xs) d scopes = bind x.number d (bind_all xs d scopes)

abbrev pub bind_labels : List LabelPlace → Scopes → Scopes
bind_labels ls scopes = bind_all (map (λ l. l.name) ls) (plain Label) scopes

abbrev pub variable_kind : ValueType → Kind
variable_kind IntegerType = IntegerVariable
variable_kind BooleanType = BooleanVariable

abbrev pub array_kind : ValueType → Kind
array_kind IntegerType = IntegerArray
array_kind BooleanType = BooleanArray

abbrev pub procedure_kind : Option TypeWord → Kind
procedure_kind None = Procedure
procedure_kind (Some t) = function_kind t.type
  where
    function_kind : ValueType → Kind
    function_kind IntegerType = IntegerProcedure
    function_kind BooleanType = BooleanProcedure

-- formals by value, and by name
abbrev pub value_kind : ValueType → Kind
value_kind IntegerType = IntegerValue
value_kind BooleanType = BooleanValue

abbrev pub name_kind : ValueType → Kind
name_kind IntegerType = IntegerFormal
name_kind BooleanType = BooleanFormal

abbrev pub array_formal_kind : ValueType → Kind
array_formal_kind IntegerType = IntegerArrayFormal
array_formal_kind BooleanType = BooleanArrayFormal

abbrev pub function_formal_kind : ValueType → Kind
function_formal_kind IntegerType = IntegerProcedureFormal
function_formal_kind BooleanType = BooleanProcedureFormal

abbrev pub specified_kind : Specifier → (by_value : Bool) → Kind
specified_kind (ValueSpec t) true = value_kind t.type
specified_kind (ValueSpec t) false = name_kind t.type
specified_kind (ArraySpec t l) by_value = array_formal_kind t.type
specified_kind (LabelSpec l) by_value = LabelFormal
specified_kind (SwitchSpec l) by_value = SwitchFormal
specified_kind (StringSpec l) by_value = StringFormal
specified_kind (ProcedureSpec l) by_value = ProcedureFormal
specified_kind (FunctionSpec t l) by_value = function_formal_kind t.type

abbrev pub is_named : (x : ℕ) → Names → Bool
is_named x ns = list_any (λ n. n.number == x) (list_of ns)

abbrev pub is_by_value : (x : ℕ) → ValuePart → Bool
is_by_value x NoValues = false
is_by_value x (ValueList l ns m) = is_named x ns

-- the kind of a formal, by the first specification that names it (5.4.5)
abbrev pub formal_kind : List Specification → ValuePart → (x : ℕ) → Kind
formal_kind [] vs x = Undeclared
formal_kind (s ∷ ss) vs x = if is_named x s.names then specified_kind s.specifier (is_by_value x vs) else formal_kind ss vs x

abbrev pub kind_in : Heading → (x : ℕ) → Kind
kind_in (MkHeading t l y fs m vs ss) x = formal_kind ss vs x

abbrev pub formal_kinds : Heading → List Kind
formal_kinds h = map (λ x. kind_in h x.number) (formals_of h)

abbrev pub bind_formals : Heading → List Name → Scopes → Scopes
bind_formals h [] scopes = scopes
bind_formals h (x ∷ xs) scopes = bind x.number (plain (kind_in h x.number)) (bind_formals h xs scopes)

abbrev pub procedure_described : Heading → Described
procedure_described (MkHeading t l x fs m vs ss) =
    description (procedure_kind t) (length (formals_of (MkHeading t l x fs m vs ss))) (formal_kinds (MkHeading t l x fs m vs ss))

abbrev pub bind_procedure : Heading → Scopes → Scopes
bind_procedure (MkHeading t l x fs m vs ss) scopes = bind x.number (procedure_described (MkHeading t l x fs m vs ss)) scopes

-- the arrays of a segment have as many subscripts as it has bound pairs
abbrev pub bind_segment : ValueType → Segment → Scopes → Scopes
bind_segment t (MkSegment ns l p ps m) scopes = bind_all (list_of ns) (description (array_kind t) (suc (length ps)) []) scopes

abbrev pub bind_segments : ValueType → List NextSegment → Scopes → Scopes
bind_segments t [] scopes = scopes
bind_segments t (s ∷ ss) scopes = bind_segment t s.segment (bind_segments t ss scopes)

abbrev pub bind_declaration : Declaration → Scopes → Scopes
bind_declaration (DeclareType t ns) scopes = bind_all (list_of ns) (plain (variable_kind t.type)) scopes
bind_declaration (DeclareOwn l t ns) scopes = scopes
bind_declaration (DeclareArrays t l s ss) scopes = bind_segment t.type s (bind_segments t.type ss scopes)
bind_declaration (DeclareOwnArrays k t l s ss) scopes = scopes
bind_declaration (DeclareSwitch l x m e es) scopes = bind x.number (plain Switch) scopes
bind_declaration (DeclareProcedure h s) scopes = bind_procedure h scopes

abbrev pub bind_declarations : Declarations → Scopes → Scopes
bind_declarations NoDeclarations scopes = scopes
bind_declarations (MoreDeclarations d l ds) scopes = bind_declaration d (bind_declarations ds scopes)

-- within a block, a procedure, a controlled statement, and a program
abbrev pub block_scopes : Declaration → Declarations → Statement → Statements → Scopes → Scopes
block_scopes d ds s ss scopes =
    bind_declaration d (bind_declarations ds (bind_labels (labels_of_statement s (labels_of_statements ss [])) scopes))

abbrev pub procedure_scopes : Heading → Statement → Scopes → Scopes
procedure_scopes h s scopes = bind_formals h (formals_of h) (bind_labels (labels_of_statement s []) scopes)

abbrev pub turn_scopes : Statement → Scopes → Scopes
turn_scopes s scopes = bind_labels (labels_of_statement s []) scopes

-- the standard identifiers stand in the outermost scope
abbrev pub bind_standard : List Kind → (x : ℕ) → Scopes → Scopes
bind_standard [] x scopes = scopes
bind_standard (kind ∷ kinds) x scopes = bind x (plain kind) (bind_standard kinds (suc x) scopes)

abbrev pub standard_scopes : Scopes
standard_scopes =
    bind_standard (OutInteger ∷ OutText ∷ OutCr ∷ OutChar ∷ InInteger ∷ InChar ∷ Abs ∷ Sign ∷ []) 0 (λ x. plain Undeclared)

abbrev pub program_scopes : Program → Scopes
program_scopes t = bind_labels (labels_of_program t) standard_scopes
