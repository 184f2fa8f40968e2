-- How the parts of expressions stand in the texts 3 to 6. The four texts differ in how used identifiers are written and, for the
-- last, in the order of operators and their operands.
use Rattle.std.specs.Prelude.{ℕ, suc, ◌+◌, ◌-◌, ◌*◌, ◌^◌, ◌&&◌, min, zero, Bool, true, false, nat_lt, List, [], ◌∷◌, Option, None}
use Rattle.std.specs.Prelude.{Some, if◌then◌else◌}
use Rattle.gier_symbol.specs.declared.symbol.Symbol.{Symbol}
use Rattle.gier_symbol.specs.declared.tag.Tag.{Tag}
use Rattle.gier_symbol.specs.declared.tag.Tag.TheVariants.{Identifier, Number, StringBegin, StringEnd, Power, Not, And, Or, Impl}
use Rattle.gier_symbol.specs.declared.tag.Tag.TheVariants.{Equiv, Comma, LeftParenthesis, RightParenthesis, LeftBracket}
use Rattle.gier_symbol.specs.declared.tag.Tag.TheVariants.{RightBracket, If, Then, Else, LeadingPlus, LeadingMinus, OpenMark}
use Rattle.gier_symbol.specs.declared.tag.Tag.TheVariants.{ShutMark, Used, Place, Count, Operation, Subscripted as SubscriptedTag}
use Rattle.gier_symbol.specs.declared.tag.Tag.TheVariants.{Called}
use Rattle.gier_symbol.specs.ByTag.{sym, word}
use Rattle.gier_symbol.specs.Tags.{number_of}
use Rattle.gier_tree.specs.Constructs.{construct_number}
use Rattle.gier_tree.specs.declared.construct.Construct.{Construct}
use Rattle.gier_tree.specs.declared.construct.Construct.TheVariants.{Actual as MActual, Subscript as MSubscript}
use Rattle.gier_tree.specs.declared.construct.Construct.TheVariants.{ConditionalExpression as MConditional}
use Rattle.gier_tree.specs.declared.kind.Kind.{Kind}
use Rattle.gier_tree.specs.declared.kind.Kind.TheVariants.{IntegerArray, BooleanArray, Procedure, IntegerProcedure}
use Rattle.gier_tree.specs.declared.kind.Kind.TheVariants.{BooleanProcedure, IntegerValue, BooleanValue, IntegerFormal}
use Rattle.gier_tree.specs.declared.kind.Kind.TheVariants.{BooleanFormal, LabelFormal, StringFormal, ProcedureFormal}
use Rattle.gier_tree.specs.declared.kind.Kind.TheVariants.{IntegerProcedureFormal, BooleanProcedureFormal, OutInteger, OutText}
use Rattle.gier_tree.specs.declared.kind.Kind.TheVariants.{OutChar, InInteger, InChar, Abs, Sign}
use Rattle.gier_tree.specs.Kinds.{kind_number}
use Rattle.gier_tree.specs.Described.{Described}
use Rattle.gier_tree.specs.Hoist.{first_fresh}
use Rattle.gier_tree.specs.Lines.{first_expr, last_expr}
use Rattle.gier_tree.specs.Need.{count_exprs, count_actuals}
use Rattle.gier_tree.specs.Places.{Placed, Places}
use Rattle.gier_tree.specs.Spell.{ident, adding_tag, multiplying_tag, comparing_tag, logical_tag, spell_bytes}
use Rattle.gier_tree.specs.Trees.{Name, Adding, Add, Subtract, Expr, OneSimple, IfExpr, Simple, OneImplication, Equivalent}
use Rattle.gier_tree.specs.Trees.{Implication, OneDisjunction, Implies, Disjunction, OneConjunction, Either, Conjunction}
use Rattle.gier_tree.specs.Trees.{OneNegation, Both, Negation, OneRelation, Negated, Relation, OneArithmetic, Compared}
use Rattle.gier_tree.specs.Trees.{Arithmetic, OneTerm, Signed, Summed, Term, OneFactor, Multiplied, Factor, OnePrimary, Raised}
use Rattle.gier_tree.specs.Trees.{Primary, Numeral, Logical, Bracketed, OneCall, OneElement, Call, Alone, WithActuals, Element}
use Rattle.gier_tree.specs.Trees.{Subscripted, Actual, OneExpr, AString, Actuals, NoActuals, MoreActuals, Exprs, NoExprs}
use Rattle.gier_tree.specs.Trees.{MoreExprs}

-- text 3 has marks, text 4 the entries of scopes, text 5 places in place of used identifiers, text 6 operators behind their
-- operands
pub data Stage : Type 0 where
  Marked : Stage
  Collected : Stage
  Distributed : Stage
  Polished : Stage

-- a text is written of a program with these own quantities, in their order
pub record Text : Type 0 where
  pub stage : Stage
  pub owns : List Name

-- a mark
abbrev pub opens : Construct → (line : ℕ) → Symbol
opens c line = sym OpenMark (construct_number c) line

abbrev pub shuts : Construct → (line : ℕ) → Symbol
shuts c line = sym ShutMark (construct_number c) line

-- the number with which an identifier was written: of an own quantity that of its declaration
abbrev pub own_name : List Name → (i : ℕ) → ℕ
own_name [] i = 0
own_name (x ∷ xs) zero = x.number
own_name (x ∷ xs) (suc i) = own_name xs i

abbrev pub number_written : List Name → (x : ℕ) → ℕ
number_written owns x = if nat_lt x first_fresh then x else own_name owns (x - first_fresh)

-- the description of a used identifier, its place, and of arrays and procedures a count
abbrev pub count_behind : Kind → (count line : ℕ) → List Symbol → List Symbol
count_behind IntegerArray count line rest = sym Count count line ∷ rest
count_behind BooleanArray count line rest = sym Count count line ∷ rest
count_behind Procedure count line rest = sym Count count line ∷ rest
count_behind IntegerProcedure count line rest = sym Count count line ∷ rest
count_behind BooleanProcedure count line rest = sym Count count line ∷ rest
count_behind kind count line rest = rest

-- the greatest address that a text tells; only a program that is wrong for its number of pairs has a greater one
abbrev pub greatest_address : ℕ
greatest_address = 2 ^ 24 - 1

-- level and address as one number
abbrev pub place_number : Placed → ℕ
place_number at = at.level * 2 ^ 24 + min at.address greatest_address

abbrev pub described_use : Placed → (line : ℕ) → List Symbol → List Symbol
described_use at line rest = sym Used (kind_number at.what.kind) line ∷ sym Place (place_number at) line
    ∷ count_behind at.what.kind at.what.count line rest

abbrev pub used_in : Stage → List Name → Placed → Name → List Symbol → List Symbol
used_in Marked owns at x rest = ident x ∷ rest
used_in Collected owns at x rest = sym Identifier (number_written owns x.number) x.line ∷ rest
used_in Distributed owns at x rest = described_use at x.line rest
used_in Polished owns at x rest = described_use at x.line rest

abbrev pub used_name : Text → Places → Name → List Symbol → List Symbol
used_name t p x rest = used_in t.stage t.owns (p x.number) x rest

-- a symbol that stands between operands or parts, but not in the last of these texts, and one that stands behind them there alone
abbrev pub separator : Stage → Symbol → List Symbol → List Symbol
separator Polished s rest = rest
separator stage s rest = s ∷ rest

abbrev pub behind : Stage → Symbol → List Symbol → List Symbol
behind Polished s rest = s ∷ rest
behind stage s rest = rest

abbrev pub operation : Tag → (line : ℕ) → Symbol
operation tag line = sym Operation (number_of tag) line

-- what ends subscripts or actuals
abbrev pub closing_bracket : Stage → (bracket count : Symbol) → List Symbol → List Symbol
closing_bracket Polished bracket count rest = count ∷ rest
closing_bracket stage bracket count rest = bracket ∷ rest

abbrev pub leading_tag : Adding → Tag
leading_tag Add = LeadingPlus
leading_tag Subtract = LeadingMinus

-- an identifier alone may be a call (3.2, 4.7): of a function without formals, of a formal function, of a function that reads
abbrev pub no_formals : (count : ℕ) → Bool
no_formals zero = true
no_formals (suc n) = false

abbrev pub is_called_alone : Kind → (count : ℕ) → Bool
is_called_alone IntegerProcedure count = no_formals count
is_called_alone BooleanProcedure count = no_formals count
is_called_alone IntegerProcedureFormal count = true
is_called_alone BooleanProcedureFormal count = true
is_called_alone InInteger count = true
is_called_alone InChar count = true
is_called_alone kind count = false

abbrev pub is_reading : Kind → Bool
is_reading InInteger = true
is_reading InChar = true
is_reading kind = false

-- as an actual it is one where the formal wants a value or a label; at a call of a formal procedure only where it reads
abbrev pub wants_value : Kind → Bool
wants_value IntegerValue = true
wants_value BooleanValue = true
wants_value IntegerFormal = true
wants_value BooleanFormal = true
wants_value LabelFormal = true
wants_value kind = false

-- the formals of what is called, where they are known
pub data Expected : Type 0 where
  Unknown : Expected
  Known : List Kind → Expected

abbrev pub expected_kinds : Described → Expected
expected_kinds d = expected_by d.kind d.formals
  where
    expected_by : Kind → List Kind → Expected
    expected_by ProcedureFormal formals = Unknown
    expected_by IntegerProcedureFormal formals = Unknown
    expected_by BooleanProcedureFormal formals = Unknown
    expected_by OutInteger formals = Known (IntegerValue ∷ [])
    expected_by OutChar formals = Known (IntegerValue ∷ [])
    expected_by Abs formals = Known (IntegerValue ∷ [])
    expected_by Sign formals = Known (IntegerValue ∷ [])
    expected_by OutText formals = Known (StringFormal ∷ [])
    expected_by kind formals = Known formals

abbrev pub further_expected : Expected → Expected
further_expected Unknown = Unknown
further_expected (Known []) = Known []
further_expected (Known (kind ∷ kinds)) = Known kinds

abbrev pub is_called_as : Expected → Described → Bool
is_called_as Unknown d = is_reading d.kind
is_called_as (Known []) d = false
is_called_as (Known (kind ∷ kinds)) d = wants_value kind && is_called_alone d.kind d.count

-- the identifier that an expression is, where it is one alone
abbrev pub name_alone : Expr → Option Name
name_alone (OneSimple (OneImplication (OneDisjunction (OneConjunction (OneNegation (OneRelation (OneArithmetic (OneTerm (OneFactor
    (OnePrimary (OneCall (Alone x)))))))))))) = Some x
name_alone e = None

abbrev pub called_alone : Stage → (called : Bool) → (line : ℕ) → List Symbol → List Symbol
called_alone stage true line rest = behind stage (sym Called 0 line) rest
called_alone stage false line rest = rest

-- a name alone, which may be a call
abbrev pub text_name : Text → Places → (called : Bool) → Name → List Symbol → List Symbol
text_name t p called x rest = used_name t p x (called_alone t.stage called x.line rest)

abbrev pub actual_by : Option Name → Text → Places → Expected → (written : List Symbol) → List Symbol → List Symbol
actual_by None t p e written rest = written
actual_by (Some x) t p e written rest = text_name t p (is_called_as e (p x.number).what) x rest

abbrev mutual
  pub text_expr : Text → Places → Expr → List Symbol → List Symbol
  text_expr t p (OneSimple s) rest = text_simple t p s rest
  text_expr t p (IfExpr l c m s n e) rest = opens MConditional l ∷ word If l
      ∷ text_expr t p c (word Then m ∷ text_simple t p s (word Else n
      ∷ text_expr t p e (shuts MConditional (last_expr e) ∷ rest)))

  pub text_simple : Text → Places → Simple → List Symbol → List Symbol
  text_simple t p (OneImplication i) rest = text_implication t p i rest
  text_simple t p (Equivalent s l i) rest =
      text_simple t p s (separator t.stage (word Equiv l) (text_implication t p i (behind t.stage (operation Equiv l) rest)))

  pub text_implication : Text → Places → Implication → List Symbol → List Symbol
  text_implication t p (OneDisjunction d) rest = text_disjunction t p d rest
  text_implication t p (Implies i l d) rest =
      text_implication t p i (separator t.stage (word Impl l) (text_disjunction t p d (behind t.stage (operation Impl l) rest)))

  pub text_disjunction : Text → Places → Disjunction → List Symbol → List Symbol
  text_disjunction t p (OneConjunction c) rest = text_conjunction t p c rest
  text_disjunction t p (Either d l c) rest =
      text_disjunction t p d (separator t.stage (word Or l) (text_conjunction t p c (behind t.stage (operation Or l) rest)))

  pub text_conjunction : Text → Places → Conjunction → List Symbol → List Symbol
  text_conjunction t p (OneNegation n) rest = text_negation t p n rest
  text_conjunction t p (Both c l n) rest =
      text_conjunction t p c (separator t.stage (word And l) (text_negation t p n (behind t.stage (operation And l) rest)))

  pub text_negation : Text → Places → Negation → List Symbol → List Symbol
  text_negation t p (OneRelation r) rest = text_relation t p r rest
  text_negation t p (Negated l r) rest =
      separator t.stage (word Not l) (text_relation t p r (behind t.stage (operation Not l) rest))

  pub text_relation : Text → Places → Relation → List Symbol → List Symbol
  text_relation t p (OneArithmetic a) rest = text_arithmetic t p a rest
  text_relation t p (Compared a o l b) rest =
      text_arithmetic t p a (separator t.stage (word (comparing_tag o) l) (text_arithmetic t p b (behind t.stage
      (operation (comparing_tag o) l) rest)))

  pub text_arithmetic : Text → Places → Arithmetic → List Symbol → List Symbol
  text_arithmetic t p (OneTerm m) rest = text_term t p m rest
  text_arithmetic t p (Signed o l m) rest =
      separator t.stage (word (leading_tag o) l) (text_term t p m (behind t.stage (operation (leading_tag o) l) rest))
  text_arithmetic t p (Summed a o l m) rest =
      text_arithmetic t p a (separator t.stage (word (adding_tag o) l) (text_term t p m (behind t.stage
      (operation (adding_tag o) l) rest)))

  pub text_term : Text → Places → Term → List Symbol → List Symbol
  text_term t p (OneFactor f) rest = text_factor t p f rest
  text_term t p (Multiplied m o l f) rest =
      text_term t p m (separator t.stage (word (multiplying_tag o) l) (text_factor t p f (behind t.stage
      (operation (multiplying_tag o) l) rest)))

  pub text_factor : Text → Places → Factor → List Symbol → List Symbol
  text_factor t p (OnePrimary q) rest = text_primary t p q rest
  text_factor t p (Raised f l q) rest =
      text_factor t p f (separator t.stage (word Power l) (text_primary t p q (behind t.stage (operation Power l) rest)))

  pub text_primary : Text → Places → Primary → List Symbol → List Symbol
  text_primary t p (Numeral n l) rest = sym Number n l ∷ rest
  text_primary t p (Logical b l) rest = word (logical_tag b) l ∷ rest
  text_primary t p (Bracketed l e m) rest = word LeftParenthesis l ∷ text_expr t p e (word RightParenthesis m ∷ rest)
  text_primary t p (OneCall c) rest = text_call t p c rest
  text_primary t p (OneElement e) rest = text_element t p e rest

  pub text_call : Text → Places → Call → List Symbol → List Symbol
  text_call t p (Alone x) rest = text_name t p (is_called_alone (p x.number).what.kind (p x.number).what.count) x rest
  text_call t p (WithActuals x l a more m) rest =
      let e = expected_kinds (p x.number).what in
      used_name t p x (separator t.stage (word LeftParenthesis l) (text_actual t p e a (text_actuals t p (further_expected e) more
      (closing_bracket t.stage (word RightParenthesis m) (sym Called (suc (count_actuals more)) l) rest))))

  pub text_element : Text → Places → Element → List Symbol → List Symbol
  text_element t p (Subscripted x l e es m) rest =
      used_name t p x
      (separator t.stage (word LeftBracket l) (opens MSubscript (first_expr e)
      ∷ text_expr t p e (shuts MSubscript (last_expr e) ∷ text_subscripts t p es
      (closing_bracket t.stage (word RightBracket m) (sym SubscriptedTag (suc (count_exprs es)) l) rest))))

  pub text_actual : Text → Places → Expected → Actual → List Symbol → List Symbol
  text_actual t p e (OneExpr x) rest = opens MActual (first_expr x)
      ∷ actual_by (name_alone x) t p e (text_expr t p x (shuts MActual (last_expr x) ∷ rest)) (shuts MActual (last_expr x) ∷ rest)
  text_actual t p e (AString l bs m) rest =
      opens MActual l ∷ word StringBegin l ∷ spell_bytes bs (word StringEnd m ∷ shuts MActual m ∷ rest)

  pub text_actuals : Text → Places → Expected → Actuals → List Symbol → List Symbol
  text_actuals t p e NoActuals rest = rest
  text_actuals t p e (MoreActuals l a more) rest =
      separator t.stage (word Comma l) (text_actual t p e a (text_actuals t p (further_expected e) more rest))

  pub text_subscripts : Text → Places → Exprs → List Symbol → List Symbol
  text_subscripts t p NoExprs rest = rest
  text_subscripts t p (MoreExprs l e es) rest = separator t.stage (word Comma l) (opens MSubscript (first_expr e)
      ∷ text_expr t p e (shuts MSubscript (last_expr e) ∷ text_subscripts t p es rest))
