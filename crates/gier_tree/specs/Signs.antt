-- What a symbol of an assembled program is, apart from its line: the letters in which the grammar is written.
use Rattle.std.specs.Prelude.{◌==◌, ℕ, Bool, true, false, List, [], ◌∷◌, find, Option, Some}
use Rattle.gier_symbol.specs.declared.symbol.Symbol.{Symbol}
use Rattle.gier_symbol.specs.declared.tag.Tag.{Tag}
use Rattle.gier_symbol.specs.declared.tag.Tag.TheVariants.{Letter, Identifier, Number, StringBegin, StringByte, StringEnd}
use Rattle.gier_symbol.specs.declared.tag.Tag.TheVariants.{TextEnd, Power, Not, And, Or, Impl, Equiv, Comma, Colon, Semicolon}
use Rattle.gier_symbol.specs.declared.tag.Tag.TheVariants.{Becomes, LeftParenthesis, RightParenthesis, LeftBracket, RightBracket}
use Rattle.gier_symbol.specs.declared.tag.Tag.TheVariants.{Begin, End, If, Then, Else, For, Step, Until, While, Do, Goto, Array}
use Rattle.gier_symbol.specs.declared.tag.Tag.TheVariants.{Switch, Procedure, String, Label, Value, Own}
use Rattle.gier_symbol.specs.Tags.{number_of}
use Rattle.gier_tree.specs.Trees.{Adding, Add, Subtract, Multiplying, Multiply, Divide, Comparing, LessThan, AtMost, EqualTo}
use Rattle.gier_tree.specs.Trees.{AtLeast, MoreThan, Unequal, ValueType, IntegerType, BooleanType}
use Rattle.gier_tree.specs.Spell.{adding_tag, multiplying_tag, comparing_tag, logical_tag, type_tag}

pub data Sign : Type 0 where
  SName : (number : ℕ) → Sign
  SNumber : (value : ℕ) → Sign
  SByte : (byte : ℕ) → Sign
  SStringBegin : Sign
  SStringEnd : Sign
  STextEnd : Sign
  SAdding : Adding → Sign
  SMultiplying : Multiplying → Sign
  SPower : Sign
  SComparing : Comparing → Sign
  SNot : Sign
  SAnd : Sign
  SOr : Sign
  SImpl : Sign
  SEquiv : Sign
  SLogical : Bool → Sign
  SComma : Sign
  SColon : Sign
  SSemicolon : Sign
  SBecomes : Sign
  SLeftParenthesis : Sign
  SRightParenthesis : Sign
  SLeftBracket : Sign
  SRightBracket : Sign
  SBegin : Sign
  SEnd : Sign
  SIf : Sign
  SThen : Sign
  SElse : Sign
  SFor : Sign
  SStep : Sign
  SUntil : Sign
  SWhile : Sign
  SDo : Sign
  SGoto : Sign
  SType : ValueType → Sign
  SArray : Sign
  SSwitch : Sign
  SProcedure : Sign
  SString : Sign
  SLabel : Sign
  SValue : Sign
  SOwn : Sign
  -- a symbol that no program has
  SStrange : Sign

abbrev pub sign_tag : Sign → Tag
sign_tag (SName number) = Identifier
sign_tag (SNumber value) = Number
sign_tag (SByte byte) = StringByte
sign_tag SStringBegin = StringBegin
sign_tag SStringEnd = StringEnd
sign_tag STextEnd = TextEnd
sign_tag (SAdding o) = adding_tag o
sign_tag (SMultiplying o) = multiplying_tag o
sign_tag SPower = Power
sign_tag (SComparing o) = comparing_tag o
sign_tag SNot = Not
sign_tag SAnd = And
sign_tag SOr = Or
sign_tag SImpl = Impl
sign_tag SEquiv = Equiv
sign_tag (SLogical b) = logical_tag b
sign_tag SComma = Comma
sign_tag SColon = Colon
sign_tag SSemicolon = Semicolon
sign_tag SBecomes = Becomes
sign_tag SLeftParenthesis = LeftParenthesis
sign_tag SRightParenthesis = RightParenthesis
sign_tag SLeftBracket = LeftBracket
sign_tag SRightBracket = RightBracket
sign_tag SBegin = Begin
sign_tag SEnd = End
sign_tag SIf = If
sign_tag SThen = Then
sign_tag SElse = Else
sign_tag SFor = For
sign_tag SStep = Step
sign_tag SUntil = Until
sign_tag SWhile = While
sign_tag SDo = Do
sign_tag SGoto = Goto
sign_tag (SType t) = type_tag t
sign_tag SArray = Array
sign_tag SSwitch = Switch
sign_tag SProcedure = Procedure
sign_tag SString = String
sign_tag SLabel = Label
sign_tag SValue = Value
sign_tag SOwn = Own
sign_tag SStrange = Letter

-- the signs without a value
abbrev pub plain_signs : List Sign
plain_signs = SStringBegin ∷ SStringEnd ∷ STextEnd ∷ SAdding Add ∷ SAdding Subtract ∷ SMultiplying Multiply ∷ SMultiplying Divide
    ∷ SPower ∷ SComparing LessThan ∷ SComparing AtMost ∷ SComparing EqualTo ∷ SComparing AtLeast ∷ SComparing MoreThan
    ∷ SComparing Unequal ∷ SNot ∷ SAnd ∷ SOr ∷ SImpl ∷ SEquiv ∷ SLogical true ∷ SLogical false ∷ SComma ∷ SColon ∷ SSemicolon
    ∷ SBecomes ∷ SLeftParenthesis ∷ SRightParenthesis ∷ SLeftBracket ∷ SRightBracket ∷ SBegin ∷ SEnd ∷ SIf ∷ SThen ∷ SElse ∷ SFor
    ∷ SStep ∷ SUntil ∷ SWhile ∷ SDo ∷ SGoto ∷ SType IntegerType ∷ SType BooleanType ∷ SArray ∷ SSwitch ∷ SProcedure ∷ SString
    ∷ SLabel ∷ SValue ∷ SOwn ∷ []

abbrev pub has_tag : (tag : ℕ) → Sign → Bool
has_tag tag sign = tag == number_of (sign_tag sign)

abbrev pub plain_by : Option Sign → (no_value : Bool) → Sign
plain_by (Some sign) true = sign
plain_by found no_value = SStrange

abbrev pub sign_by : (name number byte : Bool) → (tag value : ℕ) → Sign
sign_by true number byte tag value = SName value
sign_by false true byte tag value = SNumber value
sign_by false false true tag value = SByte value
sign_by false false false tag value = plain_by (find (has_tag tag) plain_signs) (value == 0)

abbrev pub sign_of : Symbol → Sign
sign_of s = sign_by (s.tag == number_of Identifier) (s.tag == number_of Number) (s.tag == number_of StringByte) s.tag s.value
