-- What an example is: a program, its data, the permitted steps and words, and what is told of its run; and short forms for trees.
use Rattle.std.specs.Prelude.{◌≡◌, ℕ, List, [], Option, Some}
use Rattle.gier_tree.specs.Trees.{Name, NextName, Byte, LabelPlace, TypeWord, IntegerType, BooleanType, Expr, Simple, OneSimple}
use Rattle.gier_tree.specs.Trees.{Implication, OneImplication, Disjunction, OneDisjunction, Conjunction, OneConjunction, Negation}
use Rattle.gier_tree.specs.Trees.{OneNegation, Relation, OneRelation, Arithmetic, OneArithmetic, Term, OneTerm, Factor, OneFactor}
use Rattle.gier_tree.specs.Trees.{Numeral, OneCall, Alone, only, Basic, Statement, OneUnconditional, MkUnconditional, Program}
use Rattle.gier_meaning.specs.Live.{Shape, Activation, Stop}
use Rattle.gier_meaning.specs.Observation.{Ending, Observation}

pub record Example : Type 0 where
  pub program : Program
  pub unread : List ℕ
  pub permitted : ℕ
  pub limit : ℕ
  pub told : Observation

-- a definition of the meaning tells of this program what the example says
abbrev pub IsTold : ((limit : ℕ) → Program → (unread : List ℕ) → (permitted : ℕ) → Observation) → Example → Type 0
IsTold meaning example = meaning example.limit example.program example.unread example.permitted ≡ example.told

abbrev pub told_as : List ℕ → Ending → (steps words : ℕ) → List ℕ → Option Stop → Observation
told_as printed ending steps words unread stop =
    record { printed = printed; ending = ending; steps = steps; words = words; unread = unread; stop = stop }

abbrev pub live : Shape → ℕ → Activation
live shape words = record { shape = shape; words = words }

abbrev pub stop_at : List Activation → (line : ℕ) → Option Stop
stop_at activations line = Some (record { live = activations; line = line })

-- short forms
abbrev pub name : (number line : ℕ) → Name
name number line = record { number = number; line = line }

abbrev pub comma_name : (comma number line : ℕ) → NextName
comma_name comma number line = record { comma = comma; name = name number line }

abbrev pub byte : (value line : ℕ) → Byte
byte value line = record { value = value; line = line }

abbrev pub label_place : (number line colon : ℕ) → LabelPlace
label_place number line colon = record { name = name number line; colon = colon }

abbrev pub integer_word : ℕ → TypeWord
integer_word line = record { type = IntegerType; line = line }

abbrev pub boolean_word : ℕ → TypeWord
boolean_word line = record { type = BooleanType; line = line }

abbrev pub simple_expr : Simple → Expr
simple_expr e = OneSimple e

abbrev pub implication_expr : Implication → Expr
implication_expr e = simple_expr (OneImplication e)

abbrev pub disjunction_expr : Disjunction → Expr
disjunction_expr e = implication_expr (OneDisjunction e)

abbrev pub conjunction_expr : Conjunction → Expr
conjunction_expr e = disjunction_expr (OneConjunction e)

abbrev pub negation_expr : Negation → Expr
negation_expr e = conjunction_expr (OneNegation e)

abbrev pub relation_expr : Relation → Expr
relation_expr e = negation_expr (OneRelation e)

abbrev pub sum_expr : Arithmetic → Expr
sum_expr e = relation_expr (OneArithmetic e)

abbrev pub term_expr : Term → Expr
term_expr e = sum_expr (OneTerm e)

abbrev pub factor_expr : Factor → Expr
factor_expr e = term_expr (OneFactor e)

abbrev pub number : (value line : ℕ) → Expr
number value line = only (Numeral value line)

abbrev pub alone : (number line : ℕ) → Expr
alone number line = only (OneCall (Alone (name number line)))

abbrev pub plainly : Basic → Statement
plainly s = OneUnconditional (MkUnconditional [] s)
