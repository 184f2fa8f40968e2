-- A whole order: its word is read and decoded, and its row is the effect of its operation.
use Rattle.std.specs.Prelude.{◌≡◌, ◌≢◌, ◌<◌, ◌||◌, ◌==◌, ℕ, Bool, true, false, IsTrue, List, [], ◌∷◌, Option, None, Some}
use Rattle.std.proofs.Common.{◌⊎◌, inl, inr, refl, ap, sym, subst, ◌∙◌}
use Rattle.gier_order.specs.Codes.{order_at}
use Rattle.gier_order.specs.Table.{operation_at}
use Rattle.gier_order.specs.declared.object.Object.{Object}
use Rattle.gier_order.specs.declared.order.Order.{Order}
use Rattle.gier_order.specs.declared.operation.Operation.{Operation}
use Rattle.gier_order.specs.declared.operation.Operation.TheVariants.{Start, Long, Stop, Proc, Thunk, Kinds, Jump, False, Turn, Go, Return, Back, Give, Value, Place, NameL, Pass, Switch, SwForm, Call, Formal, CallF, Agree, ByVal, Lib, Keep, Put, Block, Leave, Array, Lab, Take, Short, Addr, Fetch, Neg, Not, Index, Base, Test, Add, Sub, Mul, Div, Pow, Lt, Le, Eq, Ge, Gt, Ne, And, Or, Impl, Equiv}
use Rattle.gier_order.specs.Flat.Row.{Regs, Odd as OddStep, Row, needs, odd, behind_ref, On}
use Rattle.gier_order.specs.Flat.Rows.{effect, does, row as row_of_order, on_order}
use Rattle.gier_exec.specs.Numbers.{is_start, is_jump, is_plain, is_evaluation, is_choice}
use Rattle.gier_exec.specs.declared.stop.Stop.TheVariants.{Ended, Alarm, Steps, Odd}
use Rattle.gier_exec.specs.declared.stop.Miss.{Miss}
use Rattle.gier_exec.specs.declared.stop.Miss.TheVariants.{Drum, Stop as Stopped}
use Rattle.gier_exec.specs.declared.stop.Quit.{Quit}
use Rattle.gier_exec.specs.declared.stop.Quit.TheVariants.{Miss as Missed, Read, Write}
use Rattle.gier_exec.specs.Rows.{word_in, code_in, reading_row}
use Rattle.gier_exec.proofs.Referrings.{word_read}
use Rattle.gier_exec.proofs.Starting.{starts_alike}

pub entered_of : (entered : Bool) (operation : Operation) → operation ≢ Start → IsTrue (entered || is_start operation) → entered ≡ true
entered_of true operation other h = refl
entered_of false Start other h = absurd (other refl)
entered_of false operation other h = h

-- the orders on procedures that are called, or whose kinds are looked at
abbrev pub NotCalling : Operation → Type 0
NotCalling operation = (operation ≢ Call) × (operation ≢ Formal) × (operation ≢ CallF) × (operation ≢ Agree) × (operation ≢ ByVal)

abbrev pub NotListed : Operation → Type 0
NotListed operation = (operation ≢ Long) × (operation ≢ Stop) × (operation ≢ Proc) × (operation ≢ Thunk) × (operation ≢ Kinds) × (operation ≢ Jump) × (operation ≢ False) × (operation ≢ Turn) × (operation ≢ Go) × NotCalling operation

-- the orders that leave or begin evaluations
abbrev pub NotEvaluating : Operation → Type 0
NotEvaluating operation = (operation ≢ Return) × (operation ≢ Back) × (operation ≢ Give) × (operation ≢ Value) × (operation ≢ Place) × (operation ≢ NameL) × (operation ≢ Pass) × (operation ≢ Switch) × (operation ≢ SwForm)

pub plain_of : (operation : Operation) → NotListed operation → NotEvaluating operation → operation ≢ Lib → is_plain operation ≡ true
plain_of Long h g other = absurd (h.0 refl)
plain_of Stop h g other = absurd (h.1 refl)
plain_of Proc h g other = absurd (h.2 refl)
plain_of Thunk h g other = absurd (h.3 refl)
plain_of Kinds h g other = absurd (h.4 refl)
plain_of Jump h g other = absurd (h.5 refl)
plain_of False h g other = absurd (h.6 refl)
plain_of Turn h g other = absurd (h.7 refl)
plain_of Go h g other = absurd (h.8 refl)
plain_of Return h g other = absurd (g.0 refl)
plain_of Back h g other = absurd (g.1 refl)
plain_of Give h g other = absurd (g.2 refl)
plain_of Value h g other = absurd (g.3 refl)
plain_of Place h g other = absurd (g.4 refl)
plain_of NameL h g other = absurd (g.5 refl)
plain_of Pass h g other = absurd (g.6 refl)
plain_of Switch h g other = absurd (g.7 refl)
plain_of SwForm h g other = absurd (g.8 refl)
plain_of Call h g other = absurd (h.9.0 refl)
plain_of Formal h g other = absurd (h.9.1 refl)
plain_of CallF h g other = absurd (h.9.2 refl)
plain_of Agree h g other = absurd (h.9.3 refl)
plain_of ByVal h g other = absurd (h.9.4 refl)
plain_of Lib h g other = absurd (other refl)
plain_of Keep h g other = refl
plain_of Put h g other = refl
plain_of Block h g other = refl
plain_of Leave h g other = refl
plain_of Array h g other = refl
plain_of Lab h g other = refl
plain_of Start h g other = refl
plain_of Take h g other = refl
plain_of Short h g other = refl
plain_of Addr h g other = refl
plain_of Fetch h g other = refl
plain_of Neg h g other = refl
plain_of Not h g other = refl
plain_of Index h g other = refl
plain_of Base h g other = refl
plain_of Test h g other = refl
plain_of Add h g other = refl
plain_of Sub h g other = refl
plain_of Mul h g other = refl
plain_of Div h g other = refl
plain_of Pow h g other = refl
plain_of Lt h g other = refl
plain_of Le h g other = refl
plain_of Eq h g other = refl
plain_of Ge h g other = refl
plain_of Gt h g other = refl
plain_of Ne h g other = refl
plain_of And h g other = refl
plain_of Or h g other = refl
plain_of Impl h g other = refl
plain_of Equiv h g other = refl

pub jump_of : (operation : Operation) → (operation ≡ Jump) ⊎ ((operation ≡ False) ⊎ ((operation ≡ Turn) ⊎ ((operation ≡ Go) ⊎ ((operation ≡ Return) ⊎ ((operation ≡ Back) ⊎ (operation ≡ Give))))))
    → (is_jump operation ≡ true) × (operation ≢ Start)
jump_of operation (inl e) = (rw e refl, rw e (λ f. absurd cc))
jump_of operation (inr (inl e)) = (rw e refl, rw e (λ f. absurd cc))
jump_of operation (inr (inr (inl e))) = (rw e refl, rw e (λ f. absurd cc))
jump_of operation (inr (inr (inr (inl e)))) = (rw e refl, rw e (λ f. absurd cc))
jump_of operation (inr (inr (inr (inr (inl e))))) = (rw e refl, rw e (λ f. absurd cc))
jump_of operation (inr (inr (inr (inr (inr (inl e)))))) = (rw e refl, rw e (λ f. absurd cc))
jump_of operation (inr (inr (inr (inr (inr (inr e)))))) = (rw e refl, rw e (λ f. absurd cc))

pub back_is : (operation : Operation) → operation ≢ Jump → operation ≢ False → operation ≢ Turn → operation ≢ Go → operation ≢ Return → operation ≢ Give → is_jump operation ≡ true → operation ≡ Back
back_is Jump a b c d e f is = absurd (a refl)
back_is False a b c d e f is = absurd (b refl)
back_is Turn a b c d e f is = absurd (c refl)
back_is Go a b c d e f is = absurd (d refl)
back_is Return a b c d e f is = absurd (e refl)
back_is Give a b c d e f is = absurd (f refl)
back_is Back a b c d e f is = refl
back_is operation a b c d e f is = absurd cc

pub evaluation_of : (operation : Operation) → (operation ≡ Value) ⊎ ((operation ≡ Place) ⊎ ((operation ≡ NameL) ⊎ (operation ≡ Pass))) → (is_evaluation operation ≡ true) × (operation ≢ Start)
evaluation_of operation (inl e) = (rw e refl, rw e (λ f. absurd cc))
evaluation_of operation (inr (inl e)) = (rw e refl, rw e (λ f. absurd cc))
evaluation_of operation (inr (inr (inl e))) = (rw e refl, rw e (λ f. absurd cc))
evaluation_of operation (inr (inr (inr e))) = (rw e refl, rw e (λ f. absurd cc))

pub choice_of : (operation : Operation) → (operation ≡ Switch) ⊎ (operation ≡ SwForm) → (is_choice operation ≡ true) × (operation ≢ Start)
choice_of operation (inl e) = (rw e refl, rw e (λ f. absurd cc))
choice_of operation (inr e) = (rw e refl, rw e (λ f. absurd cc))

pub head_odd : (code : List ℕ) (size : ℕ) (m : Regs) (operation : Operation) (l a : ℕ) → (operation ≡ Proc) ⊎ ((operation ≡ Thunk) ⊎ (operation ≡ Kinds)) → effect code size m operation l a ≡ odd
head_odd code size m operation l a (inl e) = rw e refl
head_odd code size m operation l a (inr (inl e)) = rw e refl
head_odd code size m operation l a (inr (inr e)) = rw e refl

needs_yes : (b : Bool) (row : Row) → b ≡ true → needs b row ≡ row
needs_yes true row e = refl
needs_yes false row e = absurd cc

needs_no : (b : Bool) (row : Row) → b ≡ false → needs b row ≡ odd
needs_no true row e = absurd cc
needs_no false row e = refl

pub does_is : (code : List ℕ) (size : ℕ) (m : Regs) (order : Order) (operation : Operation) → operation_at order.op ≡ Some operation → IsTrue (m.started || is_start operation)
    → does code size m order (operation_at order.op) ≡ effect code size m operation order.level order.address
does_is code size m order operation e h =
    ap (λ found. does code size m order found) e
    ∙ needs_yes (m.started || (order.op == 1)) (effect code size m operation order.level order.address) (ap (λ b. m.started || b) (starts_alike order.op operation e) ∙ h)

pub does_odd : (code : List ℕ) (size : ℕ) (m : Regs) (order : Order) (operation : Operation) → operation_at order.op ≡ Some operation → (m.started || is_start operation) ≡ false
    → does code size m order (operation_at order.op) ≡ odd
does_odd code size m order operation e h =
    ap (λ found. does code size m order found) e
    ∙ needs_no (m.started || (order.op == 1)) (effect code size m operation order.level order.address) (ap (λ b. m.started || b) (starts_alike order.op operation e) ∙ h)

pub row_none : (tracks : List (List ℕ)) (object : Object) (size : ℕ) (m : Regs) (word : ℕ) → m.place < object.words → word ≡ word_in tracks object m.place → order_at word ≡ None
    → row_of_order (code_in tracks object) size m ≡ reading_row (m.place ∷ []) OddStep
row_none tracks object size m word lt is none =
    word_read tracks object m.place word _ lt is
    ∙ ap (λ found. behind_ref m.place (on_order (code_in tracks object) size m (λ order. does (code_in tracks object) size m order (operation_at order.op)) found)) none

pub row_some : (tracks : List (List ℕ)) (object : Object) (size : ℕ) (m : Regs) (word : ℕ) (order : Order) → m.place < object.words → word ≡ word_in tracks object m.place → order_at word ≡ Some order
    → row_of_order (code_in tracks object) size m ≡ behind_ref m.place (does (code_in tracks object) size m order (operation_at order.op))
row_some tracks object size m word order lt is some =
    word_read tracks object m.place word _ lt is
    ∙ ap (λ found. behind_ref m.place (on_order (code_in tracks object) size m (λ order. does (code_in tracks object) size m order (operation_at order.op)) found)) some
