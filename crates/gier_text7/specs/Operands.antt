-- Operands: an operand in hand is kept before the next one, and the first operand of an actual begins its evaluation.
use Rattle.std.specs.Prelude.{◌+◌, ◌-◌, ◌*◌, ◌^◌, ℕ, suc, Bool, true, false, max, ◌∷◌, Option, None, Some}
use Rattle.gier_order.specs.declared.operation.Operation.{Operation}
use Rattle.gier_order.specs.declared.operation.Operation.TheVariants.{Take as OTake, Short as OShort, Long as OLong}
use Rattle.gier_order.specs.declared.operation.Operation.TheVariants.{Keep as OKeep, Add as OAdd, Sub as OSub, Mul as OMul}
use Rattle.gier_order.specs.declared.operation.Operation.TheVariants.{Div as ODiv, Pow as OPow, Neg as ONeg, Lt as OLt}
use Rattle.gier_order.specs.declared.operation.Operation.TheVariants.{Le as OLe, Eq as OEq, Ge as OGe, Gt as OGt, Ne as ONe}
use Rattle.gier_order.specs.declared.operation.Operation.TheVariants.{Not as ONot, And as OAnd, Or as OOr, Impl as OImpl}
use Rattle.gier_order.specs.declared.operation.Operation.TheVariants.{Equiv as OEquiv, Jump as OJump, Thunk as OThunk}
use Rattle.gier_order.specs.declared.operation.Operation.TheVariants.{Value as OValue, NameL as ONameL, Lab as OLab}
use Rattle.gier_symbol.specs.declared.symbol.Symbol.{Symbol}
use Rattle.gier_symbol.specs.declared.tag.Tag.{Tag}
use Rattle.gier_symbol.specs.declared.tag.Tag.TheVariants.{Plus, Minus, Times, Div, Power, Less, NotGreater, Equal, NotLess}
use Rattle.gier_symbol.specs.declared.tag.Tag.TheVariants.{Greater, NotEqual, Not, And, Or, Impl, Equiv, LeadingMinus, Word}
use Rattle.gier_symbol.specs.declared.tag.Tag.TheVariants.{LabelPlace, LabelOrder}
use Rattle.gier_symbol.specs.ByTag.{sym}
use Rattle.gier_tree.specs.declared.kind.Kind.{Kind}
use Rattle.gier_tree.specs.declared.kind.Kind.TheVariants.{Label, IntegerFormal, BooleanFormal, LabelFormal}
use Rattle.gier_tree.specs.Orders.{number_of, behind_word, first_label}
use Rattle.gier_tree.specs.Room.{call_header}
use Rattle.gier_text7.specs.Answers.{Answer, put, hole, fill, order_of, placed_order, labelled_of, room_of}
use Rattle.gier_text7.specs.PassState.{Mentioned, Pass, at, Go, labels_more, actual_line, below, Evaluation}

abbrev pub kept : Bool → Pass → Pass
kept true c = at c.level (c.free + 1) (max c.high (c.free + 1)) false c.value None c.stack (behind_word c.known 0)
kept false c = c

abbrev pub begun_by : Option ℕ → Pass → Pass
begun_by (Some line) c =
    let after = first_label + c.known.labels in
    let start = first_label + suc c.known.labels in
    at 0 call_header call_header c.full c.value None (Evaluation line after start c.free c.high c.level
    ∷ below c.stack) (behind_word (labels_more (behind_word (labels_more c.known) line)) line)
begun_by None c = kept c.full c

abbrev pub keep_hole : Bool → Pass → Answer → Answer
keep_hole true c a = hole (λ line. order_of OKeep 0 c.free line) a
keep_hole false c a = a

abbrev pub thunk_hole : (line labels : ℕ) → Answer → Answer
thunk_hole line labels a = put (labelled_of OJump 0 (first_label + labels) line) (put (sym LabelPlace (first_label + suc labels)
    line) (hole (λ kind. room_of OThunk kind call_header line) a))

abbrev pub begins_by : Option ℕ → Pass → Answer → Answer
begins_by (Some line) c a = thunk_hole line c.known.labels a
begins_by None c a = keep_hole c.full c a

abbrev pub settled : Pass → Pass
settled b = at b.level b.free b.high b.full b.value None b.stack b.known

abbrev pub operand : Go → Pass → Answer
operand next c = begins_by (actual_line c.stack) c (next (settled (begun_by (actual_line c.stack) c)))

-- an order that gives a value, and one behind which the next symbols find all as it was
abbrev pub gives : Symbol → (line value : ℕ) → Go → Pass → Answer
gives o line v next c = put o (next (at c.level c.free c.high true v None c.stack (behind_word c.known line)))

abbrev pub name_order : Kind → (place line : ℕ) → Symbol
name_order IntegerFormal place line = placed_order OValue place line
name_order BooleanFormal place line = placed_order OValue place line
name_order LabelFormal place line = placed_order ONameL place line
name_order Label place line = sym LabelOrder (number_of OLab * 2 ^ 32 + place) line
name_order kind place line = placed_order OTake place line

abbrev pub name_result : Kind → ℕ
name_result LabelFormal = 2
name_result Label = 2
name_result kind = 0

abbrev pub alone : Mentioned → Go → Pass → Answer
alone x next c = operand (gives (name_order x.kind x.place x.line) x.line (name_result x.kind) next) c

abbrev pub settle : Option Mentioned → Go → Pass → Answer
settle None next c = next c
settle (Some x) next c = alone x next (at c.level c.free c.high c.full c.value None c.stack c.known)

abbrev pub number_of_size : (small : Bool) → (value line : ℕ) → Go → Pass → Answer
number_of_size true value line next c = gives (order_of OShort 0 value line) line 0 next c
number_of_size false value line next c =
    put (order_of OLong 0 0 line) (put (sym Word value line) (next
    (at c.level c.free c.high true 0 None c.stack (behind_word (behind_word c.known line) line))))

abbrev pub binary : Operation → (line : ℕ) → Go → Pass → Answer
binary op line next c = fill line (put (order_of op 0 (c.free - 1) line) (next
    (at c.level (c.free - 1) c.high true 0 None c.stack (behind_word c.known line))))

abbrev pub unary : Operation → (line : ℕ) → Go → Pass → Answer
unary op line next c = gives (order_of op 0 0 line) line 0 next c

abbrev pub operator : Tag → (line : ℕ) → Go → Pass → Answer
operator Plus line next c = binary OAdd line next c
operator Minus line next c = binary OSub line next c
operator Times line next c = binary OMul line next c
operator Div line next c = binary ODiv line next c
operator Power line next c = binary OPow line next c
operator Less line next c = binary OLt line next c
operator NotGreater line next c = binary OLe line next c
operator Equal line next c = binary OEq line next c
operator NotLess line next c = binary OGe line next c
operator Greater line next c = binary OGt line next c
operator NotEqual line next c = binary ONe line next c
operator And line next c = binary OAnd line next c
operator Or line next c = binary OOr line next c
operator Impl line next c = binary OImpl line next c
operator Equiv line next c = binary OEquiv line next c
operator Not line next c = unary ONot line next c
operator LeadingMinus line next c = unary ONeg line next c
operator tag line next c = next (at c.level c.free c.high true 0 None c.stack c.known)
