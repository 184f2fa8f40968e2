-- The tags, kinds and constructs that numbers of a text stand for.
use Rattle.std.specs.Prelude.{Bool, ◌==◌, ℕ, List, [], ◌∷◌, Option, None, Some, find}
use Rattle.gier_symbol.specs.declared.symbol.Symbol.{Symbol}
use Rattle.gier_tree.specs.declared.construct.Construct.{Construct}
use Rattle.gier_tree.specs.Constructs.{construct_number}
use Rattle.gier_symbol.specs.declared.tag.Tag.{Tag}
use Rattle.gier_symbol.specs.declared.tag.Tag.TheVariants.{Letter, Number, Plus, Minus, Times, Div, Power, Less, NotGreater}
use Rattle.gier_symbol.specs.declared.tag.Tag.TheVariants.{Equal, NotLess, Greater, NotEqual, Not, And, Or, Impl, Equiv, True}
use Rattle.gier_symbol.specs.declared.tag.Tag.TheVariants.{False, Semicolon, LeftParenthesis, RightParenthesis, If, Then, Else}
use Rattle.gier_symbol.specs.declared.tag.Tag.TheVariants.{LeadingPlus, LeadingMinus, OpenMark, ShutMark, Used, Place, Count}
use Rattle.gier_symbol.specs.declared.tag.Tag.TheVariants.{Operation as TOperation, While as TWhile, Step, Until}
use Rattle.gier_symbol.specs.Tags.{number_of as tag_number}
use Rattle.gier_tree.specs.declared.kind.Kind.{Kind}
use Rattle.gier_tree.specs.declared.kind.Kind.TheVariants.{Undeclared, IntegerVariable, BooleanVariable, IntegerArray}
use Rattle.gier_tree.specs.declared.kind.Kind.TheVariants.{BooleanArray, Label, Switch, Procedure, IntegerProcedure}
use Rattle.gier_tree.specs.declared.kind.Kind.TheVariants.{BooleanProcedure, IntegerValue, BooleanValue, IntegerFormal}
use Rattle.gier_tree.specs.declared.kind.Kind.TheVariants.{BooleanFormal, IntegerArrayFormal, BooleanArrayFormal, LabelFormal}
use Rattle.gier_tree.specs.declared.kind.Kind.TheVariants.{SwitchFormal, StringFormal, ProcedureFormal, IntegerProcedureFormal}
use Rattle.gier_tree.specs.declared.kind.Kind.TheVariants.{BooleanProcedureFormal, OutInteger, OutText, OutCr, OutChar}
use Rattle.gier_tree.specs.declared.kind.Kind.TheVariants.{InInteger, InChar, Abs, Sign}
use Rattle.gier_tree.specs.Kinds.{kind_number}

abbrev pub all_kinds : List Kind
all_kinds = Undeclared ∷ IntegerVariable ∷ BooleanVariable ∷ IntegerArray ∷ BooleanArray ∷ Label ∷ Switch ∷ Procedure
    ∷ IntegerProcedure ∷ BooleanProcedure ∷ IntegerValue ∷ BooleanValue ∷ IntegerFormal ∷ BooleanFormal ∷ IntegerArrayFormal
    ∷ BooleanArrayFormal ∷ LabelFormal ∷ SwitchFormal ∷ StringFormal ∷ ProcedureFormal ∷ IntegerProcedureFormal
    ∷ BooleanProcedureFormal ∷ OutInteger ∷ OutText ∷ OutCr ∷ OutChar ∷ InInteger ∷ InChar ∷ Abs ∷ Sign ∷ []

abbrev pub kind_by : Option Kind → Kind
kind_by None = Undeclared
kind_by (Some k) = k

abbrev pub kind_at : ℕ → Kind
kind_at n = kind_by (find (λ k. kind_number k == n) all_kinds)

abbrev pub all_tags : List Tag
all_tags = Number ∷ Plus ∷ Minus ∷ Times ∷ Div ∷ Power ∷ Less ∷ NotGreater ∷ Equal ∷ NotLess ∷ Greater ∷ NotEqual ∷ Not ∷ And
    ∷ Or ∷ Impl ∷ Equiv ∷ True ∷ False ∷ Semicolon ∷ LeftParenthesis ∷ RightParenthesis ∷ If ∷ Then ∷ Else ∷ LeadingPlus
    ∷ LeadingMinus ∷ OpenMark ∷ ShutMark ∷ Used ∷ Place ∷ Count ∷ TOperation ∷ TWhile ∷ Step ∷ Until ∷ []

abbrev pub tag_by : Option Tag → Tag
tag_by None = Letter
tag_by (Some t) = t

abbrev pub tag_at : ℕ → Tag
tag_at n = tag_by (find (λ t. tag_number t == n) all_tags)

-- whether a mark is one of this construct
abbrev pub is_mark : Construct → Symbol → Bool
is_mark c s = s.value == construct_number c
