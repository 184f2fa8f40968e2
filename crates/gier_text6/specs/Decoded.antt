-- Tags, kinds and constructs by their numbers, as symbols tell them.
use Rattle.std.specs.Prelude.{◌==◌, ℕ, List, [], ◌∷◌, Option, None, Some, find}
use Rattle.gier_symbol.specs.declared.tag.Tag.{Tag}
use Rattle.gier_symbol.specs.declared.tag.Tag.TheVariants.{Number, StringBegin, StringByte, StringEnd, TextEnd, Plus, Minus}
use Rattle.gier_symbol.specs.declared.tag.Tag.TheVariants.{Times, Div, Power, Less, NotGreater, Equal, NotLess, Greater}
use Rattle.gier_symbol.specs.declared.tag.Tag.TheVariants.{NotEqual, Not, And, Or, Impl, Equiv, True, False, Comma, Colon}
use Rattle.gier_symbol.specs.declared.tag.Tag.TheVariants.{Semicolon, Becomes, LeftParenthesis, RightParenthesis, LeftBracket}
use Rattle.gier_symbol.specs.declared.tag.Tag.TheVariants.{RightBracket, Begin, End, If, Then, Else, For, Step, Until, While}
use Rattle.gier_symbol.specs.declared.tag.Tag.TheVariants.{Do, Goto, Integer, Boolean, Array, Switch as SwitchTag}
use Rattle.gier_symbol.specs.declared.tag.Tag.TheVariants.{Procedure as ProcedureTag, String, Label as LabelTag, Value}
use Rattle.gier_symbol.specs.declared.tag.Tag.TheVariants.{LeadingPlus, LeadingMinus, LabelColon, Declaring, Formal}
use Rattle.gier_symbol.specs.declared.tag.Tag.TheVariants.{ValueListed, Specified, OpenMark, ShutMark, Entry, Description, Used}
use Rattle.gier_symbol.specs.declared.tag.Tag.TheVariants.{Place, Count}
use Rattle.gier_symbol.specs.Tags.{number_of}
use Rattle.gier_tree.specs.declared.construct.Construct.{Construct}
use Rattle.gier_tree.specs.declared.construct.Construct.TheVariants.{Program, Block, Compound, TypeDeclaration, ArraySegment}
use Rattle.gier_tree.specs.declared.construct.Construct.TheVariants.{SwitchDeclaration, ProcedureDeclaration, ProcedureBody}
use Rattle.gier_tree.specs.declared.construct.Construct.TheVariants.{ForStatement, ControlledStatement, ConditionalStatement}
use Rattle.gier_tree.specs.declared.construct.Construct.TheVariants.{Actual, Subscript, Bound, SwitchElement, ForElement, GoTo}
use Rattle.gier_tree.specs.declared.construct.Construct.TheVariants.{ConditionalExpression}
use Rattle.gier_tree.specs.Constructs.{construct_number}
use Rattle.gier_tree.specs.declared.kind.Kind.{Kind}
use Rattle.gier_tree.specs.declared.kind.Kind.TheVariants.{Undeclared, IntegerVariable, BooleanVariable, IntegerArray}
use Rattle.gier_tree.specs.declared.kind.Kind.TheVariants.{BooleanArray, Label, Switch, Procedure, IntegerProcedure}
use Rattle.gier_tree.specs.declared.kind.Kind.TheVariants.{BooleanProcedure, IntegerValue, BooleanValue, IntegerFormal}
use Rattle.gier_tree.specs.declared.kind.Kind.TheVariants.{BooleanFormal, IntegerArrayFormal, BooleanArrayFormal, LabelFormal}
use Rattle.gier_tree.specs.declared.kind.Kind.TheVariants.{SwitchFormal, StringFormal, ProcedureFormal, IntegerProcedureFormal}
use Rattle.gier_tree.specs.declared.kind.Kind.TheVariants.{BooleanProcedureFormal, OutInteger, OutText, OutCr, OutChar}
use Rattle.gier_tree.specs.declared.kind.Kind.TheVariants.{InInteger, InChar, Abs, Sign}
use Rattle.gier_tree.specs.Kinds.{kind_number}

-- the tags that text 5 has
abbrev pub tags_of_text5 : List Tag
tags_of_text5 =
    Number ∷ StringBegin ∷ StringByte ∷ StringEnd ∷ TextEnd ∷ Plus ∷ Minus ∷ Times ∷ Div ∷ Power ∷ Less ∷ NotGreater ∷ Equal
    ∷ NotLess ∷ Greater ∷ NotEqual ∷ Not ∷ And ∷ Or ∷ Impl ∷ Equiv ∷ True ∷ False ∷ Comma ∷ Colon ∷ Semicolon ∷ Becomes
    ∷ LeftParenthesis ∷ RightParenthesis ∷ LeftBracket ∷ RightBracket ∷ Begin ∷ End ∷ If ∷ Then ∷ Else ∷ For ∷ Step ∷ Until
    ∷ While ∷ Do ∷ Goto ∷ Integer ∷ Boolean ∷ Array ∷ SwitchTag ∷ ProcedureTag ∷ String ∷ LabelTag ∷ Value ∷ LeadingPlus
    ∷ LeadingMinus ∷ LabelColon ∷ Declaring ∷ Formal ∷ ValueListed ∷ Specified ∷ OpenMark ∷ ShutMark ∷ Entry ∷ Description
    ∷ Used ∷ Place ∷ Count ∷ []

abbrev pub tag_at : ℕ → Option Tag
tag_at n = find (λ tag. number_of tag == n) tags_of_text5

abbrev pub all_kinds : List Kind
all_kinds =
    Undeclared ∷ IntegerVariable ∷ BooleanVariable ∷ IntegerArray ∷ BooleanArray ∷ Label ∷ Switch ∷ Procedure
    ∷ IntegerProcedure ∷ BooleanProcedure ∷ IntegerValue ∷ BooleanValue ∷ IntegerFormal ∷ BooleanFormal ∷ IntegerArrayFormal
    ∷ BooleanArrayFormal ∷ LabelFormal ∷ SwitchFormal ∷ StringFormal ∷ ProcedureFormal ∷ IntegerProcedureFormal
    ∷ BooleanProcedureFormal ∷ OutInteger ∷ OutText ∷ OutCr ∷ OutChar ∷ InInteger ∷ InChar ∷ Abs ∷ Sign ∷ []

abbrev pub kind_by : Option Kind → Kind
kind_by None = Undeclared
kind_by (Some kind) = kind

abbrev pub kind_at : ℕ → Kind
kind_at n = kind_by (find (λ kind. kind_number kind == n) all_kinds)

abbrev pub all_constructs : List Construct
all_constructs =
    Program ∷ Block ∷ Compound ∷ TypeDeclaration ∷ ArraySegment ∷ SwitchDeclaration ∷ ProcedureDeclaration ∷ ProcedureBody
    ∷ ForStatement ∷ ControlledStatement ∷ ConditionalStatement ∷ Actual ∷ Subscript ∷ Bound ∷ SwitchElement ∷ ForElement ∷ GoTo
    ∷ ConditionalExpression ∷ []

abbrev pub construct_at : ℕ → Option Construct
construct_at n = find (λ construct. construct_number construct == n) all_constructs
