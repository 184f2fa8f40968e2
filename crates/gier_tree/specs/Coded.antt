-- The code of expressions, addresses, label values and calls.
use Rattle.std.specs.Prelude.{ℕ, zero, suc, ◌+◌, ◌-◌, ◌*◌, ◌^◌, Bool, true, false, nat_lt, List, [], ◌∷◌, length, map, drop}
use Rattle.std.specs.Prelude.{Option, None, Some}
use Rattle.gier_order.specs.declared.operation.Operation.{Operation}
use Rattle.gier_order.specs.declared.operation.Operation.TheVariants.{Take as OTake, Short as OShort, Long as OLong}
use Rattle.gier_order.specs.declared.operation.Operation.TheVariants.{Keep as OKeep, Addr as OAddr, Fetch as OFetch, Add as OAdd}
use Rattle.gier_order.specs.declared.operation.Operation.TheVariants.{Sub as OSub, Mul as OMul, Div as ODiv, Pow as OPow}
use Rattle.gier_order.specs.declared.operation.Operation.TheVariants.{Neg as ONeg, Lt as OLt, Le as OLe, Eq as OEq, Ge as OGe}
use Rattle.gier_order.specs.declared.operation.Operation.TheVariants.{Gt as OGt, Ne as ONe, Not as ONot, And as OAnd, Or as OOr}
use Rattle.gier_order.specs.declared.operation.Operation.TheVariants.{Impl as OImpl, Equiv as OEquiv, Jump as OJump}
use Rattle.gier_order.specs.declared.operation.Operation.TheVariants.{False as OFalse, Index as OIndex, Call as OCall}
use Rattle.gier_order.specs.declared.operation.Operation.TheVariants.{Formal as OFormal, Thunk as OThunk, Value as OValue}
use Rattle.gier_order.specs.declared.operation.Operation.TheVariants.{Place as OPlace, NameL as ONameL, Pass as OPass}
use Rattle.gier_order.specs.declared.operation.Operation.TheVariants.{Back as OBack, Give as OGive, Lib as OLib}
use Rattle.gier_order.specs.declared.operation.Operation.TheVariants.{Switch as OSwitch, SwForm as OSwForm, Lab as OLab}
use Rattle.gier_order.specs.declared.operation.Operation.TheVariants.{Base as OBase, Kinds as OKinds, Agree as OAgree}
use Rattle.gier_order.specs.declared.operation.Operation.TheVariants.{ByVal as OByVal, CallF as OCallF}
use Rattle.gier_agree.specs.declared.kind.Kind.{Kind as Fitting}
use Rattle.gier_agree.specs.declared.kind.Kind.TheVariants.{IntegerByValue as FIntegerValue, BooleanByValue as FBooleanValue}
use Rattle.gier_agree.specs.declared.kind.Kind.TheVariants.{Integer as FInteger, Boolean as FBoolean, Label as FLabel}
use Rattle.gier_agree.specs.declared.kind.Kind.TheVariants.{IntegerArray as FIntegerArray, BooleanArray as FBooleanArray}
use Rattle.gier_agree.specs.declared.kind.Kind.TheVariants.{Switch as FSwitch, String as FString, Procedure as FProcedure}
use Rattle.gier_agree.specs.declared.kind.Kind.TheVariants.{IntegerProcedure as FIntegerProcedure}
use Rattle.gier_agree.specs.declared.kind.Kind.TheVariants.{BooleanProcedure as FBooleanProcedure}
use Rattle.gier_agree.specs.Kinds.{number_of as fitting_number}
use Rattle.gier_agree.specs.Packed.{kinds_word}
use Rattle.gier_symbol.specs.declared.symbol.Symbol.{Symbol}
use Rattle.gier_tree.specs.declared.kind.Kind.{Kind}
use Rattle.gier_tree.specs.declared.kind.Kind.TheVariants.{IntegerVariable, BooleanVariable, IntegerArray, BooleanArray, Label}
use Rattle.gier_tree.specs.declared.kind.Kind.TheVariants.{Switch, Procedure, IntegerProcedure, BooleanProcedure, IntegerValue}
use Rattle.gier_tree.specs.declared.kind.Kind.TheVariants.{BooleanValue, IntegerFormal, BooleanFormal, IntegerArrayFormal}
use Rattle.gier_tree.specs.declared.kind.Kind.TheVariants.{BooleanArrayFormal, LabelFormal, SwitchFormal, StringFormal}
use Rattle.gier_tree.specs.declared.kind.Kind.TheVariants.{ProcedureFormal, IntegerProcedureFormal, BooleanProcedureFormal}
use Rattle.gier_tree.specs.declared.kind.Kind.TheVariants.{OutText}
use Rattle.gier_tree.specs.Kinds.{kind_number}
use Rattle.gier_tree.specs.Described.{Scopes}
use Rattle.gier_tree.specs.Lines.{first_expr}
use Rattle.gier_tree.specs.Need.{need_expr}
use Rattle.gier_tree.specs.Orders.{State, Following, Code, order, with_label, room_order, data_word, define, needs, new, no_code}
use Rattle.gier_tree.specs.Orders.{data_words, jumped_over}
use Rattle.gier_tree.specs.Places.{Placed, Places}
use Rattle.gier_tree.specs.Room.{call_header}
use Rattle.gier_tree.specs.Written.{name_alone}
use Rattle.gier_tree.specs.Trees.{Name, Byte, Adding, Add, Subtract, Multiplying, Multiply, Divide, Comparing, LessThan, AtMost}
use Rattle.gier_tree.specs.Trees.{EqualTo, AtLeast, MoreThan, Unequal, Expr, OneSimple, IfExpr, Simple, OneImplication}
use Rattle.gier_tree.specs.Trees.{Equivalent, Implication, OneDisjunction, Implies, Disjunction, OneConjunction, Either}
use Rattle.gier_tree.specs.Trees.{Conjunction, OneNegation, Both, Negation, OneRelation, Negated, Relation, OneArithmetic}
use Rattle.gier_tree.specs.Trees.{Compared, Arithmetic, OneTerm, Signed, Summed, Term, OneFactor, Multiplied, Factor, OnePrimary}
use Rattle.gier_tree.specs.Trees.{Raised, Primary, Numeral, Logical, Bracketed, OneCall, OneElement, Call, Alone, WithActuals}
use Rattle.gier_tree.specs.Trees.{Subscripted, Actual, OneExpr, AString, Actuals, NoActuals, MoreActuals, Exprs, NoExprs}
use Rattle.gier_tree.specs.Trees.{MoreExprs}

abbrev pub scopes_of : Places → Scopes
scopes_of p x = (p x).what

-- the operation of an operator
abbrev pub adding_operation : Adding → Operation
adding_operation Add = OAdd
adding_operation Subtract = OSub

abbrev pub multiplying_operation : Multiplying → Operation
multiplying_operation Multiply = OMul
multiplying_operation Divide = ODiv

abbrev pub comparing_operation : Comparing → Operation
comparing_operation LessThan = OLt
comparing_operation AtMost = OLe
comparing_operation EqualTo = OEq
comparing_operation AtLeast = OGe
comparing_operation MoreThan = OGt
comparing_operation Unequal = ONe

-- two operands: the first one waits in a working place while the second is evaluated
abbrev pub both : Operation → (line : ℕ) → Code → Code → Code
both op line a b level w st go =
    a level w st (λ s. order OKeep 0 w line s (λ s1. b level (w + 1) s1 (λ s2. order op 0 w line s2 go)))

abbrev pub then_order : Operation → (line : ℕ) → Code → Code
then_order op line a level w st go = a level w st (λ s. order op 0 0 line s go)

abbrev pub sign_code : Adding → (line : ℕ) → Code → Code
sign_code Add line a = a
sign_code Subtract line a = then_order ONeg line a

-- a number, and a logical value
abbrev pub number_code : (small : Bool) → (value line : ℕ) → Code
number_code true value line level w st go = order OShort 0 value line st go
number_code false value line level w st go = order OLong 0 0 line st (λ s. data_word value line s go)

abbrev pub logical_number : Bool → ℕ
logical_number true = 1
logical_number false = 0

-- a conditional expression, also one that gives a label
abbrev pub choice : (line : ℕ) → (test so otherwise : Code) → Code
choice line test so otherwise level w st go =
    test level w st (λ s. new s (λ x s1. with_label OFalse 0 x line s1 (λ s2. so level w s2 (λ s3. new s3 (λ y s4.
    with_label OJump 0 y line s4 (λ s5. define x s5 (λ s6. otherwise level w s6 (λ s7. define y s7 go))))))))

-- the address of a variable, a formal, or a function's value
abbrev pub address_of : Placed → (line : ℕ) → State → Following → List Symbol
address_of at line st go = by_kind at.what.kind
  where
    by_kind : Kind → List Symbol
    by_kind IntegerFormal = order OPlace at.level at.address line st go
    by_kind BooleanFormal = order OPlace at.level at.address line st go
    by_kind IntegerProcedure = order OAddr (suc at.level) call_header line st go
    by_kind BooleanProcedure = order OAddr (suc at.level) call_header line st go
    by_kind kind = order OAddr at.level at.address line st go

abbrev pub value_of : Placed → (line : ℕ) → State → Following → List Symbol
value_of at line st go = by_kind at.what.kind
  where
    by_kind : Kind → List Symbol
    by_kind IntegerFormal = order OValue at.level at.address line st go
    by_kind BooleanFormal = order OValue at.level at.address line st go
    by_kind kind = order OTake at.level at.address line st go

-- an array, by its descriptor's address; of a formal that is its value
abbrev pub array_of : Placed → (line : ℕ) → State → Following → List Symbol
array_of at line st go = by_kind at.what.kind
  where
    by_kind : Kind → List Symbol
    by_kind IntegerArrayFormal = order OTake at.level at.address line st go
    by_kind BooleanArrayFormal = order OTake at.level at.address line st go
    by_kind kind = order OAddr at.level at.address line st go

-- subscripts, each in its working place
abbrev pub subscripts_code : (line : ℕ) → List Code → Code
subscripts_code line [] level w st go = go st
subscripts_code line (c ∷ cs) level w st go =
    c level w st (λ s. order OKeep 0 w line s (λ s1. subscripts_code line cs level (w + 1) s1 go))

abbrev pub element_code : Placed → (line : ℕ) → List Code → Code
element_code at line cs level w st go =
    array_of at line st (λ s. order OKeep 0 w line s (λ s1. subscripts_code line cs level (w + 1) s1 (λ s2.
    order OIndex (length cs) w line s2 go)))

-- a label, and a switch designator
abbrev pub label_code : Placed → (line : ℕ) → Code
label_code at line level w st go = by_kind at.what.kind
  where
    by_kind : Kind → List Symbol
    by_kind Label = with_label OLab at.level at.address line st go
    by_kind kind = order ONameL at.level at.address line st go

abbrev pub switch_code : Placed → (line : ℕ) → Code → Code
switch_code at line subscript level w st go = subscript level w st (λ s. by_kind at.what.kind s)
  where
    by_kind : Kind → Following
    by_kind Switch s = with_label OSwitch at.level at.address line s go
    by_kind kind s = order OSwForm at.level at.address line s go

-- an evaluation, which stands behind a jump; its working places are behind its header
abbrev pub evaluation : (kind need line : ℕ) → Code → State → Following → List Symbol
evaluation kind need line body st go =
    room_order OThunk kind call_header line st (λ s. body 0 call_header s (λ s1. needs need s1 go))

-- an actual by name: the evaluation, and its address and the activation in two places
abbrev pub by_name : (kind need line : ℕ) → Code → (v : ℕ) → State → Following → List Symbol
by_name kind need line body v st go =
    jumped_over line st (λ start s. evaluation kind need line body s)
    (λ start s. with_label OShort 0 start line s (λ s1. order OKeep 0 v line s1 (λ s2. order OBase 0 0 line s2 (λ s3.
    order OKeep 0 (v + 1) line s3 go))))

-- the words of a string: the number of its bytes, and the bytes, five to a word, the first in the highest bits
abbrev pub five_bytes : (n : ℕ) → List ℕ → ℕ
five_bytes zero bytes = 0
five_bytes (suc n) [] = 0
five_bytes (suc n) (b ∷ bytes) = b * 256 ^ n + five_bytes n bytes

abbrev pub bytes_words : (fuel : ℕ) → List ℕ → List ℕ
bytes_words fuel [] = []
bytes_words zero (b ∷ bytes) = []
bytes_words (suc fuel) (b ∷ bytes) = five_bytes 5 (b ∷ bytes) ∷ bytes_words fuel (drop 5 (b ∷ bytes))

abbrev pub string_words : List ℕ → List ℕ
string_words bytes = length bytes ∷ bytes_words (length bytes) bytes

abbrev pub string_code : List ℕ → (line : ℕ) → State → Following → List Symbol
string_code bytes line st go =
    jumped_over line st (λ start s. data_words (string_words bytes) line s) (λ start s. with_label OShort 0 start line s go)

-- the kinds of formals and actuals at a call of a formal procedure, ten to a word, four bits each, the first in the highest bits
abbrev pub packed_words : (fuel : ℕ) → List Fitting → List ℕ
packed_words fuel [] = []
packed_words zero (k ∷ kinds) = []
packed_words (suc fuel) (k ∷ kinds) = kinds_word (map fitting_number (k ∷ kinds)) ∷ packed_words fuel (drop 10 (k ∷ kinds))

abbrev pub packed_kinds : List Fitting → List ℕ
packed_kinds kinds = packed_words (length kinds) kinds

abbrev pub formal_fitting : Kind → Fitting
formal_fitting IntegerValue = FIntegerValue
formal_fitting BooleanValue = FBooleanValue
formal_fitting IntegerFormal = FInteger
formal_fitting BooleanFormal = FBoolean
formal_fitting LabelFormal = FLabel
formal_fitting IntegerArrayFormal = FIntegerArray
formal_fitting BooleanArrayFormal = FBooleanArray
formal_fitting SwitchFormal = FSwitch
formal_fitting StringFormal = FString
formal_fitting ProcedureFormal = FProcedure
formal_fitting IntegerProcedureFormal = FIntegerProcedure
formal_fitting BooleanProcedureFormal = FBooleanProcedure
formal_fitting kind = FInteger

-- what an identifier alone is as such an actual
abbrev pub name_fitting : Kind → Fitting
name_fitting BooleanVariable = FBoolean
name_fitting BooleanValue = FBoolean
name_fitting BooleanFormal = FBoolean
name_fitting IntegerArray = FIntegerArray
name_fitting IntegerArrayFormal = FIntegerArray
name_fitting BooleanArray = FBooleanArray
name_fitting BooleanArrayFormal = FBooleanArray
name_fitting Label = FLabel
name_fitting LabelFormal = FLabel
name_fitting Switch = FSwitch
name_fitting SwitchFormal = FSwitch
name_fitting StringFormal = FString
name_fitting Procedure = FProcedure
name_fitting ProcedureFormal = FProcedure
name_fitting IntegerProcedure = FIntegerProcedure
name_fitting IntegerProcedureFormal = FIntegerProcedure
name_fitting BooleanProcedure = FBooleanProcedure
name_fitting BooleanProcedureFormal = FBooleanProcedure
name_fitting kind = FInteger

-- the type of what an identifier with subscripts or actuals gives
abbrev pub part_fitting : Kind → Fitting
part_fitting BooleanArray = FBoolean
part_fitting BooleanArrayFormal = FBoolean
part_fitting Switch = FLabel
part_fitting SwitchFormal = FLabel
part_fitting BooleanProcedure = FBoolean
part_fitting BooleanProcedureFormal = FBoolean
part_fitting kind = FInteger

-- alone, as an operand or in parentheses, a function is called
abbrev pub alone_fitting : Kind → Fitting
alone_fitting BooleanProcedure = FBoolean
alone_fitting BooleanProcedureFormal = FBoolean
alone_fitting IntegerProcedure = FInteger
alone_fitting IntegerProcedureFormal = FInteger
alone_fitting kind = name_fitting kind

abbrev mutual
  pub expr_fitting : Places → Expr → Fitting
  expr_fitting p (OneSimple s) = simple_fitting p s
  expr_fitting p (IfExpr l c m s n e) = simple_fitting p s

  pub simple_fitting : Places → Simple → Fitting
  simple_fitting p (OneImplication i) = implication_fitting p i
  simple_fitting p (Equivalent s l i) = FBoolean

  pub implication_fitting : Places → Implication → Fitting
  implication_fitting p (OneDisjunction d) = disjunction_fitting p d
  implication_fitting p (Implies i l d) = FBoolean

  pub disjunction_fitting : Places → Disjunction → Fitting
  disjunction_fitting p (OneConjunction c) = conjunction_fitting p c
  disjunction_fitting p (Either d l c) = FBoolean

  pub conjunction_fitting : Places → Conjunction → Fitting
  conjunction_fitting p (OneNegation (OneRelation (OneArithmetic a))) = arithmetic_fitting p a
  conjunction_fitting p c = FBoolean

  pub arithmetic_fitting : Places → Arithmetic → Fitting
  arithmetic_fitting p (OneTerm (OneFactor (OnePrimary q))) = primary_fitting p q
  arithmetic_fitting p a = FInteger

  pub primary_fitting : Places → Primary → Fitting
  primary_fitting p (Numeral n l) = FInteger
  primary_fitting p (Logical b l) = FBoolean
  primary_fitting p (Bracketed l e m) = expr_fitting p e
  primary_fitting p (OneCall (Alone x)) = alone_fitting (p x.number).what.kind
  primary_fitting p (OneCall (WithActuals x l a more m)) = part_fitting (p x.number).what.kind
  primary_fitting p (OneElement (Subscripted x l e es m)) = part_fitting (p x.number).what.kind

-- what code needs to know of an actual: its code as a value, as a label, and as an address where it is an element; the
-- identifier that it is alone; the bytes of a string; what it is at a call of a formal procedure; the words that its evaluation
-- needs; its first line
pub record Part : Type 0 where
  pub value : Code
  pub label : Code
  pub element : Option Code
  pub name : Option Placed
  pub string : Option (List ℕ)
  pub fitting : Fitting
  pub need : ℕ
  pub line : ℕ

-- an actual for a formal by name
abbrev pub name_evaluation : Placed → (value : Code) → (need line v : ℕ) → State → Following → List Symbol
name_evaluation at value need line v st go = by_kind at.what.kind
  where
    variable : List Symbol
    variable = by_name 1 need line (λ level w s k. address_of at line s (λ s1. order OGive 0 0 line s1 k)) v st go

    by_kind : Kind → List Symbol
    by_kind IntegerVariable = variable
    by_kind BooleanVariable = variable
    by_kind IntegerValue = variable
    by_kind BooleanValue = variable
    by_kind IntegerFormal =
        by_name 3 need line (λ level w s k. order OPass at.level at.address line s (λ s1. order OBack 0 0 line s1 k)) v st go
    by_kind BooleanFormal =
        by_name 3 need line (λ level w s k. order OPass at.level at.address line s (λ s1. order OBack 0 0 line s1 k)) v st go
    by_kind kind = by_name 0 need line (then_order OBack line value) v st go

abbrev pub value_evaluation : Option Code → Option Placed → Part → (v : ℕ) → State → Following → List Symbol
value_evaluation (Some element) name a v st go = by_name 1 a.need a.line (then_order OGive a.line element) v st go
value_evaluation None (Some at) a v st go = name_evaluation at a.value a.need a.line v st go
value_evaluation None None a v st go = by_name 0 a.need a.line (then_order OBack a.line a.value) v st go

-- a declared procedure with formals stands with their kinds
abbrev pub declared_actual : Placed → (line : ℕ) → State → Following → List Symbol
declared_actual at line st go = by_count at.what.count
  where
    by_count : ℕ → List Symbol
    by_count zero = with_label OShort 0 at.address line st go
    by_count (suc n) = jumped_over line st (λ start s k. with_label OKinds (suc n) at.address line s (λ s1.
        data_words (packed_kinds (map formal_fitting at.what.formals)) line s1 k))
        (λ start s. with_label OShort 0 start line s go)

-- a switch or procedure as an actual
abbrev pub entity_actual : Placed → (line v : ℕ) → State → Following → List Symbol
entity_actual at line v st go = by_kind at.what.kind
  where
    formal : List Symbol
    formal = order OTake at.level at.address line st (λ s. order OKeep 0 v line s (λ s1.
        order OTake at.level (suc at.address) line s1 (λ s2. order OKeep 0 (v + 1) line s2 go)))

    based : Following
    based s = order OKeep 0 v line s (λ s1. order OBase at.level 0 line s1 (λ s2. order OKeep 0 (v + 1) line s2 go))

    by_kind : Kind → List Symbol
    by_kind SwitchFormal = formal
    by_kind ProcedureFormal = formal
    by_kind IntegerProcedureFormal = formal
    by_kind BooleanProcedureFormal = formal
    by_kind Switch = with_label OShort 0 at.address line st based
    by_kind kind = declared_actual at line st based

abbrev pub named_actual : Option Placed → (Placed → List Symbol) → (otherwise : List Symbol) → List Symbol
named_actual None f otherwise = otherwise
named_actual (Some at) f otherwise = f at

abbrev pub string_actual : Option (List ℕ) → Option Placed → (line : ℕ) → State → Following → List Symbol
string_actual (Some bytes) name line st go = string_code bytes line st go
string_actual None (Some at) line st go = order OTake at.level at.address line st go
string_actual None None line st go = go st

-- an actual for a formal of this kind, at v
abbrev pub actual_code : Kind → (level v : ℕ) → Part → State → Following → List Symbol
actual_code IntegerValue level v a st go = a.value level v st (λ s. order OKeep 0 v a.line s go)
actual_code BooleanValue level v a st go = a.value level v st (λ s. order OKeep 0 v a.line s go)
actual_code IntegerFormal level v a st go = value_evaluation a.element a.name a v st go
actual_code BooleanFormal level v a st go = value_evaluation a.element a.name a v st go
actual_code LabelFormal level v a st go = by_name 2 a.need a.line (then_order OBack a.line a.label) v st go
actual_code IntegerArrayFormal level v a st go =
    named_actual a.name (λ at. array_of at a.line st (λ s. order OKeep 0 v a.line s go)) (go st)
actual_code BooleanArrayFormal level v a st go =
    named_actual a.name (λ at. array_of at a.line st (λ s. order OKeep 0 v a.line s go)) (go st)
actual_code StringFormal level v a st go = string_actual a.string a.name a.line st (λ s. order OKeep 0 v a.line s go)
actual_code kind level v a st go = named_actual a.name (λ at. entity_actual at a.line v st go) (go st)

-- the actuals of a declared procedure, each at its two places
abbrev pub actuals_code : List Kind → (level v : ℕ) → List Part → State → Following → List Symbol
actuals_code kinds level v [] st go = go st
actuals_code [] level v (a ∷ more) st go = go st
actuals_code (k ∷ kinds) level v (a ∷ more) st go = actual_code k level v a st (λ s. actuals_code kinds level (v + 2) more s go)

-- at a call of a formal procedure each actual is told by what it is; afterwards those that formals want by value are evaluated
abbrev pub fitting_kind : Fitting → Kind
fitting_kind FInteger = IntegerFormal
fitting_kind FBoolean = BooleanFormal
fitting_kind FLabel = LabelFormal
fitting_kind FIntegerArray = IntegerArrayFormal
fitting_kind FBooleanArray = BooleanArrayFormal
fitting_kind FSwitch = SwitchFormal
fitting_kind FString = StringFormal
fitting_kind FProcedure = ProcedureFormal
fitting_kind FIntegerProcedure = IntegerProcedureFormal
fitting_kind FBooleanProcedure = BooleanProcedureFormal
fitting_kind FIntegerValue = IntegerFormal
fitting_kind FBooleanValue = BooleanFormal

abbrev pub value_wanted : Placed → (i level v line : ℕ) → State → Following → List Symbol
value_wanted at i level v line st go =
    order OShort 0 i line st (λ s. order OByVal at.level at.address line s (λ s1. new s1 (λ x s2.
    with_label OFalse 0 x line s2 (λ s3. order OValue level v line s3 (λ s4. order OKeep 0 v line s4 (λ s5.
    define x s5 go))))))

abbrev pub values_wanted : Placed → (i level v line : ℕ) → List Fitting → State → Following → List Symbol
values_wanted at i level v line [] st go = go st
values_wanted at i level v line (FInteger ∷ kinds) st go =
    value_wanted at i level v line st (λ s. values_wanted at (suc i) level (v + 2) line kinds s go)
values_wanted at i level v line (FBoolean ∷ kinds) st go =
    value_wanted at i level v line st (λ s. values_wanted at (suc i) level (v + 2) line kinds s go)
values_wanted at i level v line (kind ∷ kinds) st go = values_wanted at (suc i) level (v + 2) line kinds st go

abbrev pub formal_call : Placed → (line : ℕ) → List Part → Code
formal_call at line [] level w st go = order OFormal at.level at.address line st go
formal_call at line (a ∷ more) level w st go =
    let parts = a ∷ more in
    let kinds = map (λ (q : Part). q.fitting) parts in
    order OAgree at.level at.address line st
    (λ s.
    data_word (length parts) line s
    (λ s1. data_words (packed_kinds kinds) line s1 (λ s2. actuals_code (map fitting_kind kinds) level w parts s2
    (λ s3. values_wanted at 1 level w line kinds s3 (λ s4. order OShort 0 w line s4 (λ s5.
    order OCallF at.level at.address line s5 go))))))

abbrev pub declared_call : Placed → (line : ℕ) → List Part → Code
declared_call at line parts level w st go = actuals_code at.what.formals level w parts st (λ s. order OShort 0 w line s (λ s1.
    with_label OCall at.level at.address line s1 go))

-- a standard procedure; its number is its place in their order
abbrev pub library : Kind → (line : ℕ) → State → Following → List Symbol
library kind line st go = order OLib 0 (kind_number kind - 30) line st go

abbrev pub standard_call : Kind → (line : ℕ) → List Part → Code
standard_call kind line [] level w st go = library kind line st go
standard_call OutText line (a ∷ more) level w st go = string_actual a.string a.name a.line st (λ s. library OutText line s go)
standard_call kind line (a ∷ more) level w st go = a.value level w st (λ s. library kind line s go)

abbrev pub call_code : Placed → (line : ℕ) → List Part → Code
call_code at line parts = by_kind at.what.kind
  where
    by_kind : Kind → Code
    by_kind Procedure = declared_call at line parts
    by_kind IntegerProcedure = declared_call at line parts
    by_kind BooleanProcedure = declared_call at line parts
    by_kind ProcedureFormal = formal_call at line parts
    by_kind IntegerProcedureFormal = formal_call at line parts
    by_kind BooleanProcedureFormal = formal_call at line parts
    by_kind kind = standard_call kind line parts

-- an identifier alone: the value of a variable or formal, or a call
abbrev pub alone_code : Placed → (line : ℕ) → Code
alone_code at line = by_kind at.what.kind
  where
    taken : Code
    taken level w st go = value_of at line st go

    by_kind : Kind → Code
    by_kind IntegerVariable = taken
    by_kind BooleanVariable = taken
    by_kind IntegerValue = taken
    by_kind BooleanValue = taken
    by_kind IntegerFormal = taken
    by_kind BooleanFormal = taken
    by_kind kind = call_code at line []

abbrev pub placed_name : Places → Option Name → Option Placed
placed_name p None = None
placed_name p (Some x) = Some (p x.number)

-- an identifier alone that is an actual is told by what it is, any other actual by its type
abbrev pub actual_fitting : Option Placed → Fitting → Fitting
actual_fitting None type = type
actual_fitting (Some at) type = name_fitting at.what.kind

abbrev pub string_part : List Byte → (line : ℕ) → Part
string_part bs line = record {
  value = no_code;
  label = no_code;
  element = None;
  name = None;
  string = Some (map (λ (b : Byte). b.value) bs);
  fitting = FString;
  need = 0;
  line = line;
}

abbrev mutual
  pub code_expr : Places → Expr → Code
  code_expr p (OneSimple s) = code_simple p s
  code_expr p (IfExpr l c m s n e) = choice l (code_expr p c) (code_simple p s) (code_expr p e)

  pub code_simple : Places → Simple → Code
  code_simple p (OneImplication i) = code_implication p i
  code_simple p (Equivalent s l i) = both OEquiv l (code_simple p s) (code_implication p i)

  pub code_implication : Places → Implication → Code
  code_implication p (OneDisjunction d) = code_disjunction p d
  code_implication p (Implies i l d) = both OImpl l (code_implication p i) (code_disjunction p d)

  pub code_disjunction : Places → Disjunction → Code
  code_disjunction p (OneConjunction c) = code_conjunction p c
  code_disjunction p (Either d l c) = both OOr l (code_disjunction p d) (code_conjunction p c)

  pub code_conjunction : Places → Conjunction → Code
  code_conjunction p (OneNegation n) = code_negation p n
  code_conjunction p (Both c l n) = both OAnd l (code_conjunction p c) (code_negation p n)

  pub code_negation : Places → Negation → Code
  code_negation p (OneRelation r) = code_relation p r
  code_negation p (Negated l r) = then_order ONot l (code_relation p r)

  pub code_relation : Places → Relation → Code
  code_relation p (OneArithmetic a) = code_arithmetic p a
  code_relation p (Compared a o l b) = both (comparing_operation o) l (code_arithmetic p a) (code_arithmetic p b)

  pub code_arithmetic : Places → Arithmetic → Code
  code_arithmetic p (OneTerm t) = code_term p t
  code_arithmetic p (Signed o l t) = sign_code o l (code_term p t)
  code_arithmetic p (Summed a o l t) = both (adding_operation o) l (code_arithmetic p a) (code_term p t)

  pub code_term : Places → Term → Code
  code_term p (OneFactor f) = code_factor p f
  code_term p (Multiplied t o l f) = both (multiplying_operation o) l (code_term p t) (code_factor p f)

  pub code_factor : Places → Factor → Code
  code_factor p (OnePrimary q) = code_primary p q
  code_factor p (Raised f l q) = both OPow l (code_factor p f) (code_primary p q)

  pub code_primary : Places → Primary → Code
  code_primary p (Numeral n l) = number_code (nat_lt n (2 ^ 24)) n l
  code_primary p (Logical b l) = number_code true (logical_number b) l
  code_primary p (Bracketed l e m) = code_expr p e
  code_primary p (OneCall c) = code_call p c
  code_primary p (OneElement (Subscripted x l e es m)) =
      then_order OFetch x.line (element_code (p x.number) x.line (code_expr p e ∷ code_exprs p es))

  pub code_call : Places → Call → Code
  code_call p (Alone x) = alone_code (p x.number) x.line
  code_call p (WithActuals x l a more m) = call_code (p x.number) x.line (part_of p a ∷ parts_of p more)

  pub code_exprs : Places → Exprs → List Code
  code_exprs p NoExprs = []
  code_exprs p (MoreExprs l e es) = code_expr p e ∷ code_exprs p es

  -- the address of an element alone
  pub code_address : Places → Expr → Option Code
  code_address p (OneSimple (OneImplication (OneDisjunction (OneConjunction (OneNegation (OneRelation (OneArithmetic (OneTerm
      (OneFactor (OnePrimary (OneElement (Subscripted x l e es m)))))))))))) =
      Some (element_code (p x.number) x.line (code_expr p e ∷ code_exprs p es))
  code_address p e = None

  -- a label value
  pub code_label : Places → Expr → Code
  code_label p (OneSimple s) = code_simple_label p s
  code_label p (IfExpr l c m s n e) = choice l (code_expr p c) (code_simple_label p s) (code_label p e)

  pub code_simple_label : Places → Simple → Code
  code_simple_label p (OneImplication (OneDisjunction (OneConjunction (OneNegation (OneRelation (OneArithmetic (OneTerm (OneFactor
      (OnePrimary q))))))))) = code_primary_label p q
  code_simple_label p s = no_code

  pub code_primary_label : Places → Primary → Code
  code_primary_label p (Bracketed l e m) = code_label p e
  code_primary_label p (OneCall (Alone x)) = label_code (p x.number) x.line
  code_primary_label p (OneElement (Subscripted x l e es m)) = switch_code (p x.number) x.line (code_expr p e)
  code_primary_label p q = no_code

  pub part_of : Places → Actual → Part
  part_of p (OneExpr e) =
      let name = placed_name p (name_alone e) in
      record {
        value = code_expr p e;
        label = code_label p e;
        element = code_address p e;
        name = name;
        string = None;
        fitting = actual_fitting name (expr_fitting p e);
        need = need_expr (scopes_of p) e;
        line = first_expr e;
      }
  part_of p (AString l bs m) = string_part bs l

  pub parts_of : Places → Actuals → List Part
  parts_of p NoActuals = []
  parts_of p (MoreActuals l a more) = part_of p a ∷ parts_of p more
