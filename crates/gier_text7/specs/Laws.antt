-- What the pass writes.
use Rattle.std.specs.Prelude.{◌≡◌, ◌+◌, ℕ, suc, true, false, max, List, ◌∷◌, None}
use Rattle.gier_order.specs.declared.operation.Operation.TheVariants.{Back as OBack}
use Rattle.gier_symbol.specs.declared.symbol.Symbol.{Symbol}
use Rattle.gier_symbol.specs.declared.tag.Tag.TheVariants.{Switch as TSwitch, Becomes, While as TWhile, Step, Until}
use Rattle.gier_symbol.specs.ByTag.{word}
use Rattle.gier_tree.specs.declared.construct.Construct.TheVariants.{Actual as MActual, SwitchDeclaration as MSwitch}
use Rattle.gier_tree.specs.Coded.{scopes_of, code_expr, code_label, by_name, then_order}
use Rattle.gier_tree.specs.Lines.{first_expr, last_expr}
use Rattle.gier_tree.specs.Need.{need_expr, count_exprs}
use Rattle.gier_tree.specs.Orders.{State, Following}
use Rattle.gier_tree.specs.Places.{Places}
use Rattle.gier_tree.specs.Trees.{Name, Expr, Exprs}
use Rattle.gier_tree.specs.Text7.{elements_of, switch_declared}
use Rattle.gier_tree.specs.Texts.{declares, text_switch_element, text_switch_elements}
use Rattle.gier_tree.specs.Written.{name_alone, opens, shuts, text_expr}
use Rattle.gier_text7.specs.Answers.{given}
use Rattle.gier_text7.specs.PassState.{Open, at, Calls, Block}
use Rattle.gier_text7.specs.Ahead.{elements_ahead, while_ahead, until_onto}
use Rattle.gier_text7.specs.PurePass.{go}
use Rattle.gier_text7.specs.Codes.{Gives, Codes, polished, PrimariesAreCoded}

abbrev pub ExpressionsAreCoded : Type 0
ExpressionsAreCoded = (os : List Name) (p : Places) → PrimariesAreCoded os p → (x : Expr)
    → Codes (name_alone x) (text_expr (polished os) p x) (code_expr p x) (need_expr (scopes_of p) x)

-- an actual by name that isn't an identifier or an element alone
abbrev pub EvaluationsAreCoded : Type 0
EvaluationsAreCoded = (os : List Name) (p : Places) → PrimariesAreCoded os p → (x : Expr) → name_alone x ≡ None
    → (level w h v n : ℕ) (st : List Open) (s : State) (next : Following) (f : List ℕ) (k : List Symbol)
    → ((s : State) → go k (at level (w + 2) (max h (w + 2)) false 0 None (Calls (suc n) ∷ st) s) ≡ given (next s) f)
    → go (opens MActual (first_expr x)
    ∷ text_expr (polished os) p x (shuts MActual (last_expr x) ∷ k)) (at level w h false v None (Calls n ∷ st) s)
    ≡ given (by_name 0 (need_expr (scopes_of p) x) (first_expr x) (then_order OBack (first_expr x) (code_expr p x)) w s next) f

-- a switch whose elements are right
abbrev pub SwitchesAreCoded : Type 0
SwitchesAreCoded = (os : List Name) (p : Places)
    → ((x : Expr) → Gives 2 (name_alone x) (text_expr (polished os) p x) (code_label p x) (need_expr (scopes_of p) x))
    → (l m n j : ℕ) (x : Name) (e : Expr) (es : Exprs) (level w h v : ℕ) (st : List Open) (s : State) (next : Following)
    → (f : List ℕ) (k : List Symbol)
    → n ≡ (p x.number).address
    → ((v : ℕ) (s : State) → go k (at level w h false v None (Block (suc n) ∷ st) s) ≡ given (next s) f)
    → go (opens MSwitch l ∷ word TSwitch l ∷ declares x ∷ word Becomes m
    ∷ text_switch_element (polished os) p e (text_switch_elements (polished os) p es (shuts MSwitch j
    ∷ k))) (at level w h false v None (Block n ∷ st) s)
    ≡ given (switch_declared p l x (e ∷ elements_of es) s next) f

-- of a switch that comes the number of further elements is seen, whatever their expressions are
abbrev pub ElementsAreSeen : Type 0
ElementsAreSeen = (os : List Name) (p : Places) (xs : Exprs) (e : ℕ) (k : List Symbol)
    → elements_ahead (text_switch_elements (polished os) p xs (shuts MSwitch e ∷ k)) ≡ count_exprs xs

-- the record of a step expression is its text, put before what is to follow it
abbrev pub StepsAreRecorded : Type 0
StepsAreRecorded = (onto : List Symbol) (os : List Name) (p : Places) (x : Expr) (m : ℕ) (k : List Symbol)
    → until_onto onto (text_expr (polished os) p x (word Until m ∷ k)) ≡ text_expr (polished os) p x onto

-- whether an element of a for list has `_while` is seen behind any expression
abbrev pub WhileIsSeen : Type 0
WhileIsSeen = (os : List Name) (p : Places) (x : Expr) (m : ℕ) (k : List Symbol)
    → while_ahead (text_expr (polished os) p x (word TWhile m ∷ k)) ≡ true

abbrev pub StepIsSeen : Type 0
StepIsSeen = (os : List Name) (p : Places) (x : Expr) (m : ℕ) (k : List Symbol)
    → while_ahead (text_expr (polished os) p x (word Step m ∷ k)) ≡ false
