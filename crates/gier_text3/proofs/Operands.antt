-- Where the pass is before and behind an operand, and what ends expressions: symbols before which what may follow is nothing.
use Rattle.std.proofs.Common.{◌≡◌, ◌∙◌, ℕ, Bool, true, false, List, [], ◌∷◌, refl, sym as back, ap}
use Rattle.std.specs.Prelude.{None, Some}
use Rattle.std.proofs.lemmas.Bool.{false≢true}
use Rattle.gier_symbol.specs.declared.symbol.Symbol.{Symbol}
use Rattle.gier_symbol.specs.declared.tag.Tag.TheVariants.{Identifier, Number, StringBegin, StringEnd, Power, Not, And, Or, Impl, Equiv, Comma, Colon, Semicolon, Becomes, LeftParenthesis, RightParenthesis, LeftBracket, RightBracket, If, Then, Else, End, Step, Until, While, Do}
use Rattle.gier_symbol.specs.ByTag.{sym, word}
use Rattle.gier_tree.specs.declared.construct.Construct.TheVariants.{Program as CProgram, Block as CBlock, Compound as CCompound, TypeDeclaration as CTypeDeclaration, ArraySegment as CArraySegment, SwitchDeclaration as CSwitchDeclaration, ProcedureDeclaration as CProcedureDeclaration, ProcedureBody as CProcedureBody, ForStatement as CForStatement, ControlledStatement as CControlledStatement, ConditionalStatement as CConditionalStatement, Actual as CActual, Subscript as CSubscript, Bound as CBound, SwitchElement as CSwitchElement, ForElement as CForElement, GoTo as CGoTo, ConditionalExpression as CConditionalExpression}
use Rattle.gier_tree.specs.Spell.{ident, adding_tag, multiplying_tag, comparing_tag, logical_tag}
use Rattle.gier_tree.specs.Written.{opens, shuts, leading_tag}
use Rattle.gier_tree.specs.Trees.{Name, Adding, Add, Subtract, Multiplying, Multiply, Divide, Comparing, LessThan, AtMost, EqualTo, AtLeast, MoreThan, Unequal}
use Rattle.gier_grammar.specs.declared.grammar_symbol.GrammarSymbol.TheVariants.{OpenActual, ShutActual, OpenSubscript, ShutSubscript, OpenBound, ShutBound, OpenSwitchElement, ShutSwitchElement, OpenForElement, ShutForElement, ShutConditionalExpression, ShutGoTo, ShutConditionalStatement, ShutForStatement, ShutControlledStatement, OpenControlledStatement, OpenArraySegment, ShutArraySegment, OpenProcedureBody, ShutProcedureBody, ShutProcedureDeclaration, ShutSwitchDeclaration, ShutTypeDeclaration, ShutBlock, ShutCompound, ShutProgram, OpenProgram, Expression as GExpression, Simple as GSimple, Actual as GActual, Right as GRight, Then as GThen, Else as GElse, MayNot as GMayNot, MaySign as GMaySign, Primary as GPrimary, MayPower as GMayPower, MayTimes as GMayTimes, MaySum as GMaySum, MayRelation as GMayRelation, MayAnd as GMayAnd, MayOr as GMayOr, MayImplication as GMayImplication, MayEquivalence as GMayEquivalence, MayPart as GMayPart, SubscriptTail as GSubscriptTail, StringRest as GStringRest, ActualTail as GActualTail, RightParenthesis as GRightParenthesis, AfterRightName as GAfterRightName, AfterRightElement as GAfterRightElement}
use Rattle.gier_grammar.specs.declared.stack_entry.StackEntry.{StackEntry}
use Rattle.gier_text3.specs.PurePass.{WriterState, pass3, pass3_from}
use Rattle.gier_grammar.specs.StackEntries.{entry}

-- nothing is looked ahead
abbrev pub at : (last owns : ℕ) → WriterState
at l n = record { lookahead = []; name = None; last = l; owns = n }

-- what may stand behind the first operand of an expression
abbrev pub tail : List StackEntry → List StackEntry
tail st = entry GMayPower 0 ∷ entry GMayTimes 0 ∷ entry GMaySum 0 ∷ entry GMayRelation 0 ∷ entry GMayAnd 0 ∷ entry GMayOr 0 ∷ entry GMayImplication 0 ∷ entry GMayEquivalence 0 ∷ st

-- where an operand may begin: what is wanted before it, and behind it
pub data Start : Type 0 where
  Inner : List StackEntry → Start
  InnerSign : List StackEntry → Start
  InnerNot : List StackEntry → Start
  AtSimple : List StackEntry → Start
  AtExpression : List StackEntry → Start
  AtActual : List StackEntry → Start
  AtRight : List StackEntry → Start

abbrev pub before : Start → List StackEntry
before (Inner st) = entry GPrimary 0 ∷ st
before (InnerSign st) = entry GMaySign 0 ∷ entry GPrimary 0 ∷ st
before (InnerNot st) = entry GMayNot 0 ∷ entry GMaySign 0 ∷ entry GPrimary 0 ∷ st
before (AtSimple st) = entry GSimple 0 ∷ st
before (AtExpression st) = entry GExpression 0 ∷ st
before (AtActual st) = entry GActual 0 ∷ st
before (AtRight st) = entry GRight 0 ∷ st

abbrev pub behind : Start → List StackEntry
behind (Inner st) = st
behind (InnerSign st) = st
behind (InnerNot st) = st
behind (AtSimple st) = tail st
behind (AtExpression st) = tail st
behind (AtActual st) = tail st
behind (AtRight st) = tail st

-- behind an identifier, and behind its subscripts
abbrev pub part : Start → List StackEntry
part (AtRight st) = entry GAfterRightName 0 ∷ st
part a = entry GMayPart 0 ∷ behind a

abbrev pub after_element : Start → List StackEntry
after_element (AtRight st) = entry GAfterRightElement 0 ∷ st
after_element a = behind a

abbrev pub takes_sign : Start → Bool
takes_sign (Inner st) = false
takes_sign a = true

abbrev pub takes_not : Start → Bool
takes_not (Inner st) = false
takes_not (InnerSign st) = false
takes_not a = true

-- there is a symbol, and it stands on this line
pub record Begins (k : List Symbol) (line : ℕ) : Type 0 where
  pub first : Symbol
  pub rest : List Symbol
  pub is : k ≡ first ∷ rest
  pub on : first.line ≡ line

-- what is wanted is nothing before these symbols
abbrev pub Same : (k : List Symbol) → (before behind : List StackEntry → List StackEntry) → Type 0
Same k before behind = (st : List StackEntry) (l n : ℕ) → pass3 k (before st) (at l n) ≡ pass3 k (behind st) (at l n)

abbrev pub Skips : StackEntry → List Symbol → Type 0
Skips i k = Same k (λ st. i ∷ st) (λ st. st)

abbrev pub Comes : List Symbol → Type 0
Comes k = (s : Symbol) × ((w : List Symbol) × (k ≡ s ∷ w))

pub record EndsPrimary (k : List Symbol) : Type 0 where
  pub comes : Comes k
  pub part : Skips (entry GMayPart 0) k
  pub right : Same k (λ st. entry GAfterRightName 0 ∷ st) tail
  pub element : Same k (λ st. entry GAfterRightElement 0 ∷ st) tail

pub record EndsFactor (k : List Symbol) : Type 0 where
  pub lower : EndsPrimary k
  pub skips : Skips (entry GMayPower 0) k

pub record EndsTerm (k : List Symbol) : Type 0 where
  pub lower : EndsFactor k
  pub skips : Skips (entry GMayTimes 0) k

pub record EndsArithmetic (k : List Symbol) : Type 0 where
  pub lower : EndsTerm k
  pub skips : Skips (entry GMaySum 0) k

pub record EndsRelation (k : List Symbol) : Type 0 where
  pub lower : EndsArithmetic k
  pub skips : Skips (entry GMayRelation 0) k

pub record EndsConjunction (k : List Symbol) : Type 0 where
  pub lower : EndsRelation k
  pub skips : Skips (entry GMayAnd 0) k

pub record EndsDisjunction (k : List Symbol) : Type 0 where
  pub lower : EndsConjunction k
  pub skips : Skips (entry GMayOr 0) k

pub record EndsImplication (k : List Symbol) : Type 0 where
  pub lower : EndsDisjunction k
  pub skips : Skips (entry GMayImplication 0) k

pub record EndsExpr (k : List Symbol) : Type 0 where
  pub lower : EndsImplication k
  pub skips : Skips (entry GMayEquivalence 0) k

pub ends_comma : (i : ℕ) (w : List Symbol) → EndsExpr (word Comma i ∷ w)
ends_comma i w = record { lower = record { lower = record { lower = record { lower = record { lower = record { lower = record { lower = record { lower = record { comes = (word Comma i, (w, refl)); part = λ st l n. refl; right = λ st l n. refl; element = λ st l n. refl }; skips = λ st l n. refl }; skips = λ st l n. refl }; skips = λ st l n. refl }; skips = λ st l n. refl }; skips = λ st l n. refl }; skips = λ st l n. refl }; skips = λ st l n. refl }; skips = λ st l n. refl }

pub ends_colon : (i : ℕ) (w : List Symbol) → EndsExpr (word Colon i ∷ w)
ends_colon i w = record { lower = record { lower = record { lower = record { lower = record { lower = record { lower = record { lower = record { lower = record { comes = (word Colon i, (w, refl)); part = λ st l n. refl; right = λ st l n. refl; element = λ st l n. refl }; skips = λ st l n. refl }; skips = λ st l n. refl }; skips = λ st l n. refl }; skips = λ st l n. refl }; skips = λ st l n. refl }; skips = λ st l n. refl }; skips = λ st l n. refl }; skips = λ st l n. refl }

pub ends_semicolon : (i : ℕ) (w : List Symbol) → EndsExpr (word Semicolon i ∷ w)
ends_semicolon i w = record { lower = record { lower = record { lower = record { lower = record { lower = record { lower = record { lower = record { lower = record { comes = (word Semicolon i, (w, refl)); part = λ st l n. refl; right = λ st l n. refl; element = λ st l n. refl }; skips = λ st l n. refl }; skips = λ st l n. refl }; skips = λ st l n. refl }; skips = λ st l n. refl }; skips = λ st l n. refl }; skips = λ st l n. refl }; skips = λ st l n. refl }; skips = λ st l n. refl }

pub ends_right_parenthesis : (i : ℕ) (w : List Symbol) → EndsExpr (word RightParenthesis i ∷ w)
ends_right_parenthesis i w = record { lower = record { lower = record { lower = record { lower = record { lower = record { lower = record { lower = record { lower = record { comes = (word RightParenthesis i, (w, refl)); part = λ st l n. refl; right = λ st l n. refl; element = λ st l n. refl }; skips = λ st l n. refl }; skips = λ st l n. refl }; skips = λ st l n. refl }; skips = λ st l n. refl }; skips = λ st l n. refl }; skips = λ st l n. refl }; skips = λ st l n. refl }; skips = λ st l n. refl }

pub ends_right_bracket : (i : ℕ) (w : List Symbol) → EndsExpr (word RightBracket i ∷ w)
ends_right_bracket i w = record { lower = record { lower = record { lower = record { lower = record { lower = record { lower = record { lower = record { lower = record { comes = (word RightBracket i, (w, refl)); part = λ st l n. refl; right = λ st l n. refl; element = λ st l n. refl }; skips = λ st l n. refl }; skips = λ st l n. refl }; skips = λ st l n. refl }; skips = λ st l n. refl }; skips = λ st l n. refl }; skips = λ st l n. refl }; skips = λ st l n. refl }; skips = λ st l n. refl }

pub ends_then : (i : ℕ) (w : List Symbol) → EndsExpr (word Then i ∷ w)
ends_then i w = record { lower = record { lower = record { lower = record { lower = record { lower = record { lower = record { lower = record { lower = record { comes = (word Then i, (w, refl)); part = λ st l n. refl; right = λ st l n. refl; element = λ st l n. refl }; skips = λ st l n. refl }; skips = λ st l n. refl }; skips = λ st l n. refl }; skips = λ st l n. refl }; skips = λ st l n. refl }; skips = λ st l n. refl }; skips = λ st l n. refl }; skips = λ st l n. refl }

pub ends_else : (i : ℕ) (w : List Symbol) → EndsExpr (word Else i ∷ w)
ends_else i w = record { lower = record { lower = record { lower = record { lower = record { lower = record { lower = record { lower = record { lower = record { comes = (word Else i, (w, refl)); part = λ st l n. refl; right = λ st l n. refl; element = λ st l n. refl }; skips = λ st l n. refl }; skips = λ st l n. refl }; skips = λ st l n. refl }; skips = λ st l n. refl }; skips = λ st l n. refl }; skips = λ st l n. refl }; skips = λ st l n. refl }; skips = λ st l n. refl }

pub ends_end : (i : ℕ) (w : List Symbol) → EndsExpr (word End i ∷ w)
ends_end i w = record { lower = record { lower = record { lower = record { lower = record { lower = record { lower = record { lower = record { lower = record { comes = (word End i, (w, refl)); part = λ st l n. refl; right = λ st l n. refl; element = λ st l n. refl }; skips = λ st l n. refl }; skips = λ st l n. refl }; skips = λ st l n. refl }; skips = λ st l n. refl }; skips = λ st l n. refl }; skips = λ st l n. refl }; skips = λ st l n. refl }; skips = λ st l n. refl }

pub ends_step : (i : ℕ) (w : List Symbol) → EndsExpr (word Step i ∷ w)
ends_step i w = record { lower = record { lower = record { lower = record { lower = record { lower = record { lower = record { lower = record { lower = record { comes = (word Step i, (w, refl)); part = λ st l n. refl; right = λ st l n. refl; element = λ st l n. refl }; skips = λ st l n. refl }; skips = λ st l n. refl }; skips = λ st l n. refl }; skips = λ st l n. refl }; skips = λ st l n. refl }; skips = λ st l n. refl }; skips = λ st l n. refl }; skips = λ st l n. refl }

pub ends_until : (i : ℕ) (w : List Symbol) → EndsExpr (word Until i ∷ w)
ends_until i w = record { lower = record { lower = record { lower = record { lower = record { lower = record { lower = record { lower = record { lower = record { comes = (word Until i, (w, refl)); part = λ st l n. refl; right = λ st l n. refl; element = λ st l n. refl }; skips = λ st l n. refl }; skips = λ st l n. refl }; skips = λ st l n. refl }; skips = λ st l n. refl }; skips = λ st l n. refl }; skips = λ st l n. refl }; skips = λ st l n. refl }; skips = λ st l n. refl }

pub ends_while : (i : ℕ) (w : List Symbol) → EndsExpr (word While i ∷ w)
ends_while i w = record { lower = record { lower = record { lower = record { lower = record { lower = record { lower = record { lower = record { lower = record { comes = (word While i, (w, refl)); part = λ st l n. refl; right = λ st l n. refl; element = λ st l n. refl }; skips = λ st l n. refl }; skips = λ st l n. refl }; skips = λ st l n. refl }; skips = λ st l n. refl }; skips = λ st l n. refl }; skips = λ st l n. refl }; skips = λ st l n. refl }; skips = λ st l n. refl }

pub ends_do : (i : ℕ) (w : List Symbol) → EndsExpr (word Do i ∷ w)
ends_do i w = record { lower = record { lower = record { lower = record { lower = record { lower = record { lower = record { lower = record { lower = record { comes = (word Do i, (w, refl)); part = λ st l n. refl; right = λ st l n. refl; element = λ st l n. refl }; skips = λ st l n. refl }; skips = λ st l n. refl }; skips = λ st l n. refl }; skips = λ st l n. refl }; skips = λ st l n. refl }; skips = λ st l n. refl }; skips = λ st l n. refl }; skips = λ st l n. refl }

pub ends_power : (i : ℕ) (w : List Symbol) → EndsPrimary (word Power i ∷ w)
ends_power i w = record { comes = (word Power i, (w, refl)); part = λ st l n. refl; right = λ st l n. refl; element = λ st l n. refl }

pub ends_and : (i : ℕ) (w : List Symbol) → EndsRelation (word And i ∷ w)
ends_and i w = record { lower = record { lower = record { lower = record { lower = record { comes = (word And i, (w, refl)); part = λ st l n. refl; right = λ st l n. refl; element = λ st l n. refl }; skips = λ st l n. refl }; skips = λ st l n. refl }; skips = λ st l n. refl }; skips = λ st l n. refl }

pub ends_or : (i : ℕ) (w : List Symbol) → EndsConjunction (word Or i ∷ w)
ends_or i w = record { lower = record { lower = record { lower = record { lower = record { lower = record { comes = (word Or i, (w, refl)); part = λ st l n. refl; right = λ st l n. refl; element = λ st l n. refl }; skips = λ st l n. refl }; skips = λ st l n. refl }; skips = λ st l n. refl }; skips = λ st l n. refl }; skips = λ st l n. refl }

pub ends_impl : (i : ℕ) (w : List Symbol) → EndsDisjunction (word Impl i ∷ w)
ends_impl i w = record { lower = record { lower = record { lower = record { lower = record { lower = record { lower = record { comes = (word Impl i, (w, refl)); part = λ st l n. refl; right = λ st l n. refl; element = λ st l n. refl }; skips = λ st l n. refl }; skips = λ st l n. refl }; skips = λ st l n. refl }; skips = λ st l n. refl }; skips = λ st l n. refl }; skips = λ st l n. refl }

pub ends_equiv : (i : ℕ) (w : List Symbol) → EndsImplication (word Equiv i ∷ w)
ends_equiv i w = record { lower = record { lower = record { lower = record { lower = record { lower = record { lower = record { lower = record { comes = (word Equiv i, (w, refl)); part = λ st l n. refl; right = λ st l n. refl; element = λ st l n. refl }; skips = λ st l n. refl }; skips = λ st l n. refl }; skips = λ st l n. refl }; skips = λ st l n. refl }; skips = λ st l n. refl }; skips = λ st l n. refl }; skips = λ st l n. refl }

pub ends_times : (o : Multiplying) (i : ℕ) (w : List Symbol) → EndsFactor (word (multiplying_tag o) i ∷ w)
ends_times Multiply i w = record { lower = record { comes = (word (multiplying_tag Multiply) i, (w, refl)); part = λ st l n. refl; right = λ st l n. refl; element = λ st l n. refl }; skips = λ st l n. refl }
ends_times Divide i w = record { lower = record { comes = (word (multiplying_tag Divide) i, (w, refl)); part = λ st l n. refl; right = λ st l n. refl; element = λ st l n. refl }; skips = λ st l n. refl }

pub ends_sum : (o : Adding) (i : ℕ) (w : List Symbol) → EndsTerm (word (adding_tag o) i ∷ w)
ends_sum Add i w = record { lower = record { lower = record { comes = (word (adding_tag Add) i, (w, refl)); part = λ st l n. refl; right = λ st l n. refl; element = λ st l n. refl }; skips = λ st l n. refl }; skips = λ st l n. refl }
ends_sum Subtract i w = record { lower = record { lower = record { comes = (word (adding_tag Subtract) i, (w, refl)); part = λ st l n. refl; right = λ st l n. refl; element = λ st l n. refl }; skips = λ st l n. refl }; skips = λ st l n. refl }

pub ends_comparing : (o : Comparing) (i : ℕ) (w : List Symbol) → EndsArithmetic (word (comparing_tag o) i ∷ w)
ends_comparing LessThan i w = record { lower = record { lower = record { lower = record { comes = (word (comparing_tag LessThan) i, (w, refl)); part = λ st l n. refl; right = λ st l n. refl; element = λ st l n. refl }; skips = λ st l n. refl }; skips = λ st l n. refl }; skips = λ st l n. refl }
ends_comparing AtMost i w = record { lower = record { lower = record { lower = record { comes = (word (comparing_tag AtMost) i, (w, refl)); part = λ st l n. refl; right = λ st l n. refl; element = λ st l n. refl }; skips = λ st l n. refl }; skips = λ st l n. refl }; skips = λ st l n. refl }
ends_comparing EqualTo i w = record { lower = record { lower = record { lower = record { comes = (word (comparing_tag EqualTo) i, (w, refl)); part = λ st l n. refl; right = λ st l n. refl; element = λ st l n. refl }; skips = λ st l n. refl }; skips = λ st l n. refl }; skips = λ st l n. refl }
ends_comparing AtLeast i w = record { lower = record { lower = record { lower = record { comes = (word (comparing_tag AtLeast) i, (w, refl)); part = λ st l n. refl; right = λ st l n. refl; element = λ st l n. refl }; skips = λ st l n. refl }; skips = λ st l n. refl }; skips = λ st l n. refl }
ends_comparing MoreThan i w = record { lower = record { lower = record { lower = record { comes = (word (comparing_tag MoreThan) i, (w, refl)); part = λ st l n. refl; right = λ st l n. refl; element = λ st l n. refl }; skips = λ st l n. refl }; skips = λ st l n. refl }; skips = λ st l n. refl }
ends_comparing Unequal i w = record { lower = record { lower = record { lower = record { comes = (word (comparing_tag Unequal) i, (w, refl)); part = λ st l n. refl; right = λ st l n. refl; element = λ st l n. refl }; skips = λ st l n. refl }; skips = λ st l n. refl }; skips = λ st l n. refl }

-- an operator is taken
pub take_times : (o : Multiplying) (i : ℕ) (w : List Symbol) (st : List StackEntry) (l n : ℕ) → pass3 (word (multiplying_tag o) i ∷ w) (entry GMayTimes 0 ∷ st) (at l n) ≡ word (multiplying_tag o) i ∷ pass3 w (before (Inner (entry GMayPower 0 ∷ entry GMayTimes 0 ∷ st))) (at i n)
take_times Multiply i w st l n = refl
take_times Divide i w st l n = refl

pub take_sum : (o : Adding) (i : ℕ) (w : List Symbol) (st : List StackEntry) (l n : ℕ) → pass3 (word (adding_tag o) i ∷ w) (entry GMaySum 0 ∷ st) (at l n) ≡ word (adding_tag o) i ∷ pass3 w (before (Inner (entry GMayPower 0 ∷ entry GMayTimes 0 ∷ entry GMaySum 0 ∷ st))) (at i n)
take_sum Add i w st l n = refl
take_sum Subtract i w st l n = refl

pub take_comparing : (o : Comparing) (i : ℕ) (w : List Symbol) (st : List StackEntry) (l n : ℕ) → pass3 (word (comparing_tag o) i ∷ w) (entry GMayRelation 0 ∷ st) (at l n) ≡ word (comparing_tag o) i ∷ pass3 w (before (InnerSign (entry GMayPower 0 ∷ entry GMayTimes 0 ∷ entry GMaySum 0 ∷ st))) (at i n)
take_comparing LessThan i w st l n = refl
take_comparing AtMost i w st l n = refl
take_comparing EqualTo i w st l n = refl
take_comparing AtLeast i w st l n = refl
take_comparing MoreThan i w st l n = refl
take_comparing Unequal i w st l n = refl

-- an operand begins
pub take_number : (a : Start) (v i : ℕ) (w : List Symbol) (op : Bool) (l n : ℕ) → pass3_from op (sym Number v i ∷ w) (before a) (at l n) ≡ sym Number v i ∷ pass3 w (behind a) (at i n)
take_number (Inner st) v i w op l n = refl
take_number (InnerSign st) v i w op l n = refl
take_number (InnerNot st) v i w op l n = refl
take_number (AtSimple st) v i w op l n = refl
take_number (AtExpression st) v i w op l n = refl
take_number (AtActual st) v i w op l n = refl
take_number (AtRight st) v i w op l n = refl

pub take_logical : (a : Start) (b : Bool) (i : ℕ) (w : List Symbol) (op : Bool) (l n : ℕ) → pass3_from op (word (logical_tag b) i ∷ w) (before a) (at l n) ≡ word (logical_tag b) i ∷ pass3 w (behind a) (at i n)
take_logical (Inner st) true i w op l n = refl
take_logical (Inner st) false i w op l n = refl
take_logical (InnerSign st) true i w op l n = refl
take_logical (InnerSign st) false i w op l n = refl
take_logical (InnerNot st) true i w op l n = refl
take_logical (InnerNot st) false i w op l n = refl
take_logical (AtSimple st) true i w op l n = refl
take_logical (AtSimple st) false i w op l n = refl
take_logical (AtExpression st) true i w op l n = refl
take_logical (AtExpression st) false i w op l n = refl
take_logical (AtActual st) true i w op l n = refl
take_logical (AtActual st) false i w op l n = refl
take_logical (AtRight st) true i w op l n = refl
take_logical (AtRight st) false i w op l n = refl

pub take_group : (a : Start) (i : ℕ) (w : List Symbol) (op : Bool) (l n : ℕ) → pass3_from op (word LeftParenthesis i ∷ w) (before a) (at l n) ≡ word LeftParenthesis i ∷ pass3 w (entry GExpression 0 ∷ entry GRightParenthesis 0 ∷ behind a) (at i n)
take_group (Inner st) i w op l n = refl
take_group (InnerSign st) i w op l n = refl
take_group (InnerNot st) i w op l n = refl
take_group (AtSimple st) i w op l n = refl
take_group (AtExpression st) i w op l n = refl
take_group (AtActual st) i w op l n = refl
take_group (AtRight st) i w op l n = refl

pub take_name : (a : Start) (x : Name) (w : List Symbol) (op : Bool) (l n : ℕ) → pass3_from op (ident x ∷ w) (before a) (at l n) ≡ ident x ∷ pass3 w (part a) (at x.line n)
take_name (Inner st) x w op l n = refl
take_name (InnerSign st) x w op l n = refl
take_name (InnerNot st) x w op l n = refl
take_name (AtSimple st) x w op l n = refl
take_name (AtExpression st) x w op l n = refl
take_name (AtActual st) x w op l n = refl
take_name (AtRight st) x w op l n = refl

pub take_sign : (a : Start) (o : Adding) (i : ℕ) (w : List Symbol) (op : Bool) (l n : ℕ) → takes_sign a ≡ true → pass3_from op (word (adding_tag o) i ∷ w) (before a) (at l n) ≡ word (leading_tag o) i ∷ pass3 w (before (Inner (behind a))) (at i n)
take_sign (Inner st) Add i w op l n h = absurd (false≢true h)
take_sign (Inner st) Subtract i w op l n h = absurd (false≢true h)
take_sign (InnerSign st) Add i w op l n h = refl
take_sign (InnerSign st) Subtract i w op l n h = refl
take_sign (InnerNot st) Add i w op l n h = refl
take_sign (InnerNot st) Subtract i w op l n h = refl
take_sign (AtSimple st) Add i w op l n h = refl
take_sign (AtSimple st) Subtract i w op l n h = refl
take_sign (AtExpression st) Add i w op l n h = refl
take_sign (AtExpression st) Subtract i w op l n h = refl
take_sign (AtActual st) Add i w op l n h = refl
take_sign (AtActual st) Subtract i w op l n h = refl
take_sign (AtRight st) Add i w op l n h = refl
take_sign (AtRight st) Subtract i w op l n h = refl

pub take_not : (a : Start) (i : ℕ) (w : List Symbol) (op : Bool) (l n : ℕ) → takes_not a ≡ true → pass3_from op (word Not i ∷ w) (before a) (at l n) ≡ word Not i ∷ pass3 w (before (InnerSign (behind a))) (at i n)
take_not (Inner st) i w op l n h = absurd (false≢true h)
take_not (InnerSign st) i w op l n h = absurd (false≢true h)
take_not (InnerNot st) i w op l n h = refl
take_not (AtSimple st) i w op l n h = refl
take_not (AtExpression st) i w op l n h = refl
take_not (AtActual st) i w op l n h = refl
take_not (AtRight st) i w op l n h = refl

pub take_actuals : (a : Start) (i : ℕ) (w : List Symbol) (l n : ℕ) → pass3 (word LeftParenthesis i ∷ w) (part a) (at l n) ≡ word LeftParenthesis i ∷ pass3 w (entry OpenActual 0 ∷ entry GActual 0 ∷ entry ShutActual 0 ∷ entry GActualTail 0 ∷ behind a) (at i n)
take_actuals (Inner st) i w l n = refl
take_actuals (InnerSign st) i w l n = refl
take_actuals (InnerNot st) i w l n = refl
take_actuals (AtSimple st) i w l n = refl
take_actuals (AtExpression st) i w l n = refl
take_actuals (AtActual st) i w l n = refl
take_actuals (AtRight st) i w l n = refl

pub take_subscripts : (a : Start) (i : ℕ) (w : List Symbol) (l n : ℕ) → pass3 (word LeftBracket i ∷ w) (part a) (at l n) ≡ word LeftBracket i ∷ pass3 w (entry OpenSubscript 0 ∷ entry GExpression 0 ∷ entry ShutSubscript 0 ∷ entry GSubscriptTail 0 ∷ after_element a) (at i n)
take_subscripts (Inner st) i w l n = refl
take_subscripts (InnerSign st) i w l n = refl
take_subscripts (InnerNot st) i w l n = refl
take_subscripts (AtSimple st) i w l n = refl
take_subscripts (AtExpression st) i w l n = refl
take_subscripts (AtActual st) i w l n = refl
take_subscripts (AtRight st) i w l n = refl

pub name_ends : (a : Start) (k : List Symbol) (l n : ℕ) → EndsPrimary k → pass3 k (part a) (at l n) ≡ pass3 k (behind a) (at l n)
name_ends (Inner st) k l n e = e.part (behind (Inner st)) l n
name_ends (InnerSign st) k l n e = e.part (behind (InnerSign st)) l n
name_ends (InnerNot st) k l n e = e.part (behind (InnerNot st)) l n
name_ends (AtSimple st) k l n e = e.part (behind (AtSimple st)) l n
name_ends (AtExpression st) k l n e = e.part (behind (AtExpression st)) l n
name_ends (AtActual st) k l n e = e.part (behind (AtActual st)) l n
name_ends (AtRight st) k l n e = e.right st l n

pub element_ends : (a : Start) (k : List Symbol) (l n : ℕ) → EndsPrimary k → pass3 k (after_element a) (at l n) ≡ pass3 k (behind a) (at l n)
element_ends (Inner st) k l n e = refl
element_ends (InnerSign st) k l n e = refl
element_ends (InnerNot st) k l n e = refl
element_ends (AtSimple st) k l n e = refl
element_ends (AtExpression st) k l n e = refl
element_ends (AtActual st) k l n e = refl
element_ends (AtRight st) k l n e = e.element st l n

pub not_sign : (a : Start) → takes_not a ≡ true → takes_sign a ≡ true
not_sign (Inner st) h = absurd (false≢true h)
not_sign (InnerSign st) h = refl
not_sign (InnerNot st) h = refl
not_sign (AtSimple st) h = refl
not_sign (AtExpression st) h = refl
not_sign (AtActual st) h = refl
not_sign (AtRight st) h = refl

-- where a whole expression may stand
pub data Whole : Type 0 where
  WExpression : Whole
  WActual : Whole
  WRight : Whole

abbrev pub start_of : Whole → List StackEntry → Start
start_of WExpression st = AtExpression st
start_of WActual st = AtActual st
start_of WRight st = AtRight st

pub whole_behind : (u : Whole) (st : List StackEntry) → behind (start_of u st) ≡ tail st
whole_behind WExpression st = refl
whole_behind WActual st = refl
whole_behind WRight st = refl

pub whole_not : (u : Whole) (st : List StackEntry) → takes_not (start_of u st) ≡ true
whole_not WExpression st = refl
whole_not WActual st = refl
whole_not WRight st = refl

pub take_if : (u : Whole) (st : List StackEntry) (i : ℕ) (w : List Symbol) (op : Bool) (l n : ℕ) → pass3_from op (word If i ∷ w) (before (start_of u st)) (at l n) ≡ opens CConditionalExpression i ∷ word If i ∷ pass3 w (entry GExpression 0 ∷ entry GThen 0 ∷ entry GSimple 0 ∷ entry GElse 0 ∷ entry GExpression 0 ∷ entry ShutConditionalExpression 0 ∷ st) (at i n)
take_if WExpression st i w op l n = refl
take_if WActual st i w op l n = refl
take_if WRight st i w op l n = refl

-- marks
pub open_actual : (k : List Symbol) (line : ℕ) (op : Bool) (st : List StackEntry) (c : WriterState) → Begins k line → pass3_from op k (entry OpenActual 0 ∷ st) c ≡ opens CActual line ∷ pass3_from true k st c
open_actual k line op st c b = rw (b.is) (ap (λ i. opens CActual i ∷ pass3_from true (b.first ∷ b.rest) st c) b.on)

pub shut_actual : (k : List Symbol) (st : List StackEntry) (c : WriterState) → Comes k → pass3 k (entry ShutActual 0 ∷ st) c ≡ shuts CActual c.last ∷ pass3 k st c
shut_actual k st c b = rw (b.1.1) refl

pub open_subscript : (k : List Symbol) (line : ℕ) (op : Bool) (st : List StackEntry) (c : WriterState) → Begins k line → pass3_from op k (entry OpenSubscript 0 ∷ st) c ≡ opens CSubscript line ∷ pass3_from true k st c
open_subscript k line op st c b = rw (b.is) (ap (λ i. opens CSubscript i ∷ pass3_from true (b.first ∷ b.rest) st c) b.on)

pub shut_subscript : (k : List Symbol) (st : List StackEntry) (c : WriterState) → Comes k → pass3 k (entry ShutSubscript 0 ∷ st) c ≡ shuts CSubscript c.last ∷ pass3 k st c
shut_subscript k st c b = rw (b.1.1) refl

pub open_bound : (k : List Symbol) (line : ℕ) (op : Bool) (st : List StackEntry) (c : WriterState) → Begins k line → pass3_from op k (entry OpenBound 0 ∷ st) c ≡ opens CBound line ∷ pass3_from true k st c
open_bound k line op st c b = rw (b.is) (ap (λ i. opens CBound i ∷ pass3_from true (b.first ∷ b.rest) st c) b.on)

pub shut_bound : (k : List Symbol) (st : List StackEntry) (c : WriterState) → Comes k → pass3 k (entry ShutBound 0 ∷ st) c ≡ shuts CBound c.last ∷ pass3 k st c
shut_bound k st c b = rw (b.1.1) refl

pub open_switch_element : (k : List Symbol) (line : ℕ) (op : Bool) (st : List StackEntry) (c : WriterState) → Begins k line → pass3_from op k (entry OpenSwitchElement 0 ∷ st) c ≡ opens CSwitchElement line ∷ pass3_from true k st c
open_switch_element k line op st c b = rw (b.is) (ap (λ i. opens CSwitchElement i ∷ pass3_from true (b.first ∷ b.rest) st c) b.on)

pub shut_switch_element : (k : List Symbol) (st : List StackEntry) (c : WriterState) → Comes k → pass3 k (entry ShutSwitchElement 0 ∷ st) c ≡ shuts CSwitchElement c.last ∷ pass3 k st c
shut_switch_element k st c b = rw (b.1.1) refl

pub open_for_element : (k : List Symbol) (line : ℕ) (op : Bool) (st : List StackEntry) (c : WriterState) → Begins k line → pass3_from op k (entry OpenForElement 0 ∷ st) c ≡ opens CForElement line ∷ pass3_from true k st c
open_for_element k line op st c b = rw (b.is) (ap (λ i. opens CForElement i ∷ pass3_from true (b.first ∷ b.rest) st c) b.on)

pub shut_for_element : (k : List Symbol) (st : List StackEntry) (c : WriterState) → Comes k → pass3 k (entry ShutForElement 0 ∷ st) c ≡ shuts CForElement c.last ∷ pass3 k st c
shut_for_element k st c b = rw (b.1.1) refl

pub shut_conditional_expression : (k : List Symbol) (st : List StackEntry) (c : WriterState) → Comes k → pass3 k (entry ShutConditionalExpression 0 ∷ st) c ≡ shuts CConditionalExpression c.last ∷ pass3 k st c
shut_conditional_expression k st c b = rw (b.1.1) refl

pub shut_go_to : (k : List Symbol) (st : List StackEntry) (c : WriterState) → Comes k → pass3 k (entry ShutGoTo 0 ∷ st) c ≡ shuts CGoTo c.last ∷ pass3 k st c
shut_go_to k st c b = rw (b.1.1) refl

pub shut_conditional_statement : (k : List Symbol) (st : List StackEntry) (c : WriterState) → Comes k → pass3 k (entry ShutConditionalStatement 0 ∷ st) c ≡ shuts CConditionalStatement c.last ∷ pass3 k st c
shut_conditional_statement k st c b = rw (b.1.1) refl

pub shut_for_statement : (k : List Symbol) (st : List StackEntry) (c : WriterState) → Comes k → pass3 k (entry ShutForStatement 0 ∷ st) c ≡ shuts CForStatement c.last ∷ pass3 k st c
shut_for_statement k st c b = rw (b.1.1) refl

pub shut_controlled_statement : (k : List Symbol) (st : List StackEntry) (c : WriterState) → Comes k → pass3 k (entry ShutControlledStatement 0 ∷ st) c ≡ shuts CControlledStatement c.last ∷ pass3 k st c
shut_controlled_statement k st c b = rw (b.1.1) refl

pub open_controlled_statement : (k : List Symbol) (line : ℕ) (op : Bool) (st : List StackEntry) (c : WriterState) → Begins k line → pass3_from op k (entry OpenControlledStatement 0 ∷ st) c ≡ opens CControlledStatement line ∷ pass3_from true k st c
open_controlled_statement k line op st c b = rw (b.is) (ap (λ i. opens CControlledStatement i ∷ pass3_from true (b.first ∷ b.rest) st c) b.on)

pub open_array_segment : (k : List Symbol) (line : ℕ) (op : Bool) (st : List StackEntry) (c : WriterState) → Begins k line → pass3_from op k (entry OpenArraySegment 0 ∷ st) c ≡ opens CArraySegment line ∷ pass3_from true k st c
open_array_segment k line op st c b = rw (b.is) (ap (λ i. opens CArraySegment i ∷ pass3_from true (b.first ∷ b.rest) st c) b.on)

pub shut_array_segment : (k : List Symbol) (st : List StackEntry) (c : WriterState) → Comes k → pass3 k (entry ShutArraySegment 0 ∷ st) c ≡ shuts CArraySegment c.last ∷ pass3 k st c
shut_array_segment k st c b = rw (b.1.1) refl

pub open_procedure_body : (k : List Symbol) (line : ℕ) (op : Bool) (st : List StackEntry) (c : WriterState) → Begins k line → pass3_from op k (entry OpenProcedureBody 0 ∷ st) c ≡ opens CProcedureBody line ∷ pass3_from true k st c
open_procedure_body k line op st c b = rw (b.is) (ap (λ i. opens CProcedureBody i ∷ pass3_from true (b.first ∷ b.rest) st c) b.on)

pub shut_procedure_body : (k : List Symbol) (st : List StackEntry) (c : WriterState) → Comes k → pass3 k (entry ShutProcedureBody 0 ∷ st) c ≡ shuts CProcedureBody c.last ∷ pass3 k st c
shut_procedure_body k st c b = rw (b.1.1) refl

pub shut_procedure_declaration : (k : List Symbol) (st : List StackEntry) (c : WriterState) → Comes k → pass3 k (entry ShutProcedureDeclaration 0 ∷ st) c ≡ shuts CProcedureDeclaration c.last ∷ pass3 k st c
shut_procedure_declaration k st c b = rw (b.1.1) refl

pub shut_switch_declaration : (k : List Symbol) (st : List StackEntry) (c : WriterState) → Comes k → pass3 k (entry ShutSwitchDeclaration 0 ∷ st) c ≡ shuts CSwitchDeclaration c.last ∷ pass3 k st c
shut_switch_declaration k st c b = rw (b.1.1) refl

pub shut_type_declaration : (k : List Symbol) (st : List StackEntry) (c : WriterState) → Comes k → pass3 k (entry ShutTypeDeclaration 0 ∷ st) c ≡ shuts CTypeDeclaration c.last ∷ pass3 k st c
shut_type_declaration k st c b = rw (b.1.1) refl

pub shut_block : (k : List Symbol) (st : List StackEntry) (c : WriterState) → Comes k → pass3 k (entry ShutBlock 0 ∷ st) c ≡ shuts CBlock c.last ∷ pass3 k st c
shut_block k st c b = rw (b.1.1) refl

pub shut_compound : (k : List Symbol) (st : List StackEntry) (c : WriterState) → Comes k → pass3 k (entry ShutCompound 0 ∷ st) c ≡ shuts CCompound c.last ∷ pass3 k st c
shut_compound k st c b = rw (b.1.1) refl

pub shut_program : (k : List Symbol) (st : List StackEntry) (c : WriterState) → Comes k → pass3 k (entry ShutProgram 0 ∷ st) c ≡ shuts CProgram c.last ∷ pass3 k st c
shut_program k st c b = rw (b.1.1) refl

pub open_program : (k : List Symbol) (line : ℕ) (op : Bool) (st : List StackEntry) (c : WriterState) → Begins k line → pass3_from op k (entry OpenProgram 0 ∷ st) c ≡ opens CProgram line ∷ pass3_from true k st c
open_program k line op st c b = rw (b.is) (ap (λ i. opens CProgram i ∷ pass3_from true (b.first ∷ b.rest) st c) b.on)
