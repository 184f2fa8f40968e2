-- The pass as a pure function: from the symbols of text 6 that are still to come, and what it knows, to what it writes of text 7.
-- So far of expressions, of actuals that are evaluated, and of switches.
use Rattle.std.specs.Prelude.{◌==◌, ◌^◌, ℕ, true, nat_lt, List, [], ◌∷◌, Option, None, Some}
use Rattle.gier_order.specs.declared.operation.Operation.TheVariants.{Short as OShort}
use Rattle.gier_symbol.specs.declared.symbol.Symbol.{Symbol}
use Rattle.gier_symbol.specs.declared.tag.Tag.{Tag}
use Rattle.gier_symbol.specs.declared.tag.Tag.TheVariants.{Number, True, False, LeftParenthesis, RightParenthesis, If, Then}
use Rattle.gier_symbol.specs.declared.tag.Tag.TheVariants.{Else, OpenMark, ShutMark, Used, Place, Count}
use Rattle.gier_symbol.specs.declared.tag.Tag.TheVariants.{Operation as TOperation}
use Rattle.gier_text7.specs.Answers.{Answer, given, order_of}
use Rattle.gier_text7.specs.PassState.{Mentioned, Pass, at, Go, empty}
use Rattle.gier_tree.specs.declared.construct.Construct.TheVariants.{Actual as ActualMark, ConditionalExpression, SwitchElement}
use Rattle.gier_tree.specs.declared.construct.Construct.TheVariants.{SwitchDeclaration}
use Rattle.gier_text7.specs.Tags.{kind_at, tag_at, is_mark}
use Rattle.gier_text7.specs.Ahead.{elements_ahead}
use Rattle.gier_text7.specs.Operands.{operand, gives, settle, number_of_size, operator}
use Rattle.gier_text7.specs.Marks.{begins_at, condition, otherwise, shut_mark, open_mark}

abbrev pub with_place : Option Mentioned → ℕ → Option Mentioned
with_place None v = None
with_place (Some x) v = Some (record { kind = x.kind; place = v; line = x.line })

abbrev pub take : Tag → Symbol → ℕ → Go → Pass → Answer
take Used s n next c = settle c.held (λ c.
    next (at c.level c.free c.high c.full c.value (Some
    (record { kind = kind_at s.value; place = 0; line = s.line })) c.stack c.known)) c
take Place s n next c = next (at c.level c.free c.high c.full c.value (with_place c.held s.value) c.stack c.known)
take Count s n next c = next c
take Number s n next c = settle c.held (operand (number_of_size (nat_lt s.value (2 ^ 24)) s.value s.line next)) c
take True s n next c = settle c.held (operand (gives (order_of OShort 0 1 s.line) s.line 0 next)) c
take False s n next c = settle c.held (operand (gives (order_of OShort 0 0 s.line) s.line 0 next)) c
take TOperation s n next c = settle c.held (operator (tag_at s.value) s.line next) c
take LeftParenthesis s n next c = settle c.held (operand (λ c. next (empty c.stack c))) c
take RightParenthesis s n next c = settle c.held (λ c. next (at c.level c.free c.high true c.value None c.stack c.known)) c
take If s n next c = settle c.held (λ c. begins_at s.line next c.stack c) c
take Then s n next c = settle c.held (λ c. condition next c.stack c) c
take Else s n next c = settle c.held (λ c. otherwise next c.stack c) c
take OpenMark s n next c = open_mark (is_mark ActualMark s) (is_mark ConditionalExpression s) (is_mark SwitchElement s) (is_mark
    SwitchDeclaration s) s.line n next c
take ShutMark s n next c = shut_mark (is_mark ActualMark s) (is_mark ConditionalExpression s) (is_mark SwitchElement s) (is_mark
    SwitchDeclaration s) next c
take tag s n next c = settle c.held (λ c. next (empty c.stack c)) c

abbrev pub go : List Symbol → Pass → Answer
go [] c = given [] []
go (s ∷ w) c = take (tag_at s.tag) s (elements_ahead w) (go w) c
