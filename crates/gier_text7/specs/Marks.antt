-- What the words and marks of a construct do.
use Rattle.std.specs.Prelude.{◌+◌, ◌-◌, ℕ, zero, suc, Bool, true, false, max, List, ◌∷◌, None}
use Rattle.gier_order.specs.declared.operation.Operation.TheVariants.{Short as OShort, Keep as OKeep, Jump as OJump}
use Rattle.gier_order.specs.declared.operation.Operation.TheVariants.{False as OFalse, Thunk as OThunk, Back as OBack}
use Rattle.gier_order.specs.declared.operation.Operation.TheVariants.{Base as OBase}
use Rattle.gier_symbol.specs.declared.tag.Tag.TheVariants.{Word, LabelPlace, LabelWord, Need}
use Rattle.gier_symbol.specs.ByTag.{sym}
use Rattle.gier_tree.specs.Orders.{State, behind_word, first_label}
use Rattle.gier_tree.specs.Room.{call_header}
use Rattle.gier_text7.specs.Answers.{Answer, put, fill, order_of, labelled_of, room_of}
use Rattle.gier_text7.specs.PassState.{Open, Pass, at, Go, labels_more, empty, Chosen, Calls, Actual, Evaluation, Block}
use Rattle.gier_text7.specs.PassState.{SwitchOf, Inside}
use Rattle.gier_text7.specs.Operands.{operand, settle}

abbrev pub begins_at : (line : ℕ) → Go → List Open → Pass → Answer
begins_at line next (Chosen l label ∷ st) c = next (empty (Chosen line label ∷ st) c)
begins_at line next st c = next (empty st c)

abbrev pub condition : Go → List Open → Pass → Answer
condition next (Chosen line label ∷ st) c =
    let x = first_label + c.known.labels in
    put (labelled_of OFalse 0 x line) (next (at c.level c.free c.high false c.value None (Chosen line x ∷ st)
    (behind_word (labels_more c.known) line)))
condition next st c = next (empty st c)

abbrev pub otherwise : Go → List Open → Pass → Answer
otherwise next (Chosen line label ∷ st) c =
    let y = first_label + c.known.labels in
    put (labelled_of OJump 0 y line) (put (sym LabelPlace label line) (next
    (at c.level c.free c.high false c.value None (Chosen line y ∷ st) (behind_word (labels_more c.known) line))))
otherwise next st c = next (empty st c)

abbrev pub chosen : Go → List Open → Pass → Answer
chosen next (Chosen line label ∷ st) c =
    put (sym LabelPlace label c.known.line) (next (at c.level c.free c.high true c.value None st c.known))
chosen next st c = next (at c.level c.free c.high true c.value None st c.known)

abbrev pub actual_ends : Go → List Open → Pass → Answer
actual_ends next (Evaluation line after start free high level ∷ Calls n ∷ st) c =
    put (order_of OBack 0 0 line) (fill c.value (put (sym Need (c.high - call_header) line)
    (put (sym LabelPlace after line) (put (labelled_of OShort 0 start line)
    (put (order_of OKeep 0 free line) (put (order_of OBase 0 0 line) (put (order_of OKeep 0 (free + 1) line)
    (next (at level (free + 2) (max high (free + 2)) false c.value None (Calls (suc n) ∷ st)
    (behind_word (behind_word (behind_word (behind_word (behind_word c.known line) line) line) line) line))))))))))
actual_ends next st c = next (empty st c)

-- switches: the number of elements is seen ahead, so that labels have their numbers at once
abbrev pub table : (n line : ℕ) → State → (State → Answer) → Answer
table zero line s next = next s
table (suc n) line s next = put (sym LabelWord (first_label + s.labels) line) (table n line (behind_word (labels_more s) line) next)

abbrev pub switch_begins : (line n : ℕ) → Go → List Open → Pass → Answer
switch_begins line n next (Block number ∷ st) c =
    let over = first_label + c.known.labels in
    put (labelled_of OJump 0 over line) (put (sym LabelPlace number line) (put (sym Word n line)
    (table n line (behind_word (behind_word (labels_more c.known) line) line)
    (λ s. next (at c.level c.free c.high false c.value None (SwitchOf line over (suc c.known.labels) ∷ Block (suc number) ∷ st)
    s)))))
switch_begins line n next st c = next (empty st c)

abbrev pub element_begins : (line : ℕ) → Go → List Open → Pass → Answer
element_begins line next (SwitchOf l over j ∷ st) c =
    put (sym LabelPlace (first_label + j) c.known.line) (put (room_of OThunk 2 call_header line) (next
    (at 0 call_header call_header false c.value None (Inside line c.free c.high c.level ∷ SwitchOf l over (suc j)
    ∷ st) (behind_word c.known line))))
element_begins line next st c = next (empty st c)

abbrev pub element_ends : Go → List Open → Pass → Answer
element_ends next (Inside line free high level ∷ st) c =
    put (order_of OBack 0 0 line) (put (sym Need (c.high - call_header) line) (next
    (at level free high false c.value None st (behind_word c.known line))))
element_ends next st c = next (empty st c)

abbrev pub switch_ends : Go → List Open → Pass → Answer
switch_ends next (SwitchOf l over j ∷ st) c = put (sym LabelPlace over c.known.line) (next (empty st c))
switch_ends next st c = next (empty st c)

abbrev pub shut_other : (element switch : Bool) → Go → Pass → Answer
shut_other true b next c = element_ends next c.stack c
shut_other false true next c = switch_ends next c.stack c
shut_other false false next c = next (empty c.stack c)

abbrev pub open_other : (element switch : Bool) → (line n : ℕ) → Go → Pass → Answer
open_other true b line n next c = element_begins line next c.stack c
open_other false true line n next c = switch_begins line n next c.stack c
open_other false false line n next c = next (empty c.stack c)

abbrev pub shut_mark : (actual conditional element switch : Bool) → Go → Pass → Answer
shut_mark true b element switch next c = actual_ends next c.stack c
shut_mark false true element switch next c = settle c.held (λ c. chosen next c.stack c) c
shut_mark false false element switch next c = settle c.held (shut_other element switch next) c

abbrev pub open_mark : (actual conditional element switch : Bool) → (line n : ℕ) → Go → Pass → Answer
open_mark true b element switch line n next c = next (empty (Actual line ∷ c.stack) c)
open_mark false true element switch line n next c = settle c.held (operand (λ c. next (empty (Chosen 0 0 ∷ c.stack) c))) c
open_mark false false element switch line n next c = settle c.held (open_other element switch line n next) c
