-- When the pass writes a piece of code over a piece of text, whatever stands behind both.
use Rattle.std.specs.Prelude.{◌≡◌, ◌+◌, ◌*◌, ◌^◌, ◌≤◌, ℕ, Bool, true, false, max, List, ◌∷◌, Option, None, Some}
use Rattle.gier_order.specs.declared.operation.Operation.TheVariants.{Keep as OKeep}
use Rattle.gier_symbol.specs.declared.symbol.Symbol.{Symbol}
use Rattle.gier_tree.specs.declared.kind.Kind.{Kind}
use Rattle.gier_tree.specs.declared.kind.Kind.TheVariants.{IntegerVariable, BooleanVariable, IntegerValue, BooleanValue}
use Rattle.gier_tree.specs.declared.kind.Kind.TheVariants.{IntegerFormal, BooleanFormal}
use Rattle.gier_tree.specs.Coded.{scopes_of, code_primary}
use Rattle.gier_tree.specs.Need.{need_primary}
use Rattle.gier_tree.specs.Orders.{State, Following, Code, behind_word}
use Rattle.gier_tree.specs.Places.{Places}
use Rattle.gier_tree.specs.Trees.{Name, OneCall, OneElement, Alone, WithActuals, Element, Actual as ActualTree, Actuals}
use Rattle.gier_tree.specs.Written.{place_number, Text, Polished, opens, text_primary}
use Rattle.gier_text7.specs.Answers.{given, hole, order_of}
use Rattle.gier_text7.specs.PassState.{Mentioned, Open, at, actual_line, Actual}
use Rattle.gier_text7.specs.Operands.{begun_by, thunk_hole, alone}
use Rattle.gier_text7.specs.PurePass.{go}

-- these symbols use a held identifier as an operand
abbrev pub Settles : List Symbol → Type 0
Settles k = (level w h : ℕ) (full : Bool) (v : ℕ) (x : Mentioned) (st : List Open) (s : State)
    → go k (at level w h full v (Some x) st s) ≡ alone x (go k) (at level w h full v None st s)

abbrev pub SettlesIf : Option Name → List Symbol → Type 0
SettlesIf None k = ℕ
SettlesIf (Some x) k = Settles k

-- no evaluation begins with the next operand
abbrev pub Quiet : List Open → Type 0
Quiet st = actual_line st ≡ None

abbrev pub on_line : ℕ → State → State
on_line m s = record { labels = s.labels; line = m; words = s.words }

-- over this text the pass writes this code, and goes on behind it with a value
abbrev pub Gives : (value : ℕ) → Option Name → (List Symbol → List Symbol) → Code → (need : ℕ) → Type 0
Gives r o text code need = (level w h m v : ℕ) (st : List Open) (s : State) (next : Following) (f : List ℕ) (k : List Symbol)
    → w ≤ h → Quiet st → SettlesIf o k
    → ((s : State) → go k (at level w (max h (w + need)) true r None st s) ≡ given (next s) f)
    → go (text k) (at level w h false v None st (on_line m s)) ≡ given (code level w s next) f

abbrev pub Codes : Option Name → (List Symbol → List Symbol) → Code → (need : ℕ) → Type 0
Codes o text code need = Gives 0 o text code need

-- a text begins with an operand
pub record Starts (o : Option Name) (text : List Symbol → List Symbol) : Type 0 where
  pub full : (level w h v : ℕ) (st : List Open) (s : State) (k : List Symbol) → Quiet st → SettlesIf o k
      → go (text k) (at level w h true v None st s)
      ≡ hole (λ line. order_of OKeep 0 w line) (go (text k) (at level (w + 1) (max h (w + 1)) false v None st (behind_word s 0)))
  pub opens : (level w h v line : ℕ) (st : List Open) (s : State) (k : List Symbol) → SettlesIf o k
      → let c = at level w h false v None (Actual line ∷ st) s in go (text k) c
      ≡ thunk_hole line s.labels (go (text k) (begun_by (Some line) c))
  pub settles : (k : List Symbol) → Settles (text k)

abbrev pub polished : List Name → Text
polished os = record { stage = Polished; owns = os }

abbrev pub is_cell : Kind → Bool
is_cell IntegerVariable = true
is_cell BooleanVariable = true
is_cell IntegerValue = true
is_cell BooleanValue = true
is_cell IntegerFormal = true
is_cell BooleanFormal = true
is_cell kind = false

-- addresses are small enough to be told by a text
abbrev pub HasNearPlaces : Places → Type 0
HasNearPlaces p = (y : ℕ) → place_number (p y) ≡ (p y).level * 2 ^ 24 + (p y).address

-- what the pass writes over calls, elements, and identifiers alone that are no cells; the pure pass doesn't take these yet
pub record PrimariesAreCoded (os : List Name) (p : Places) : Type 0 where
  pub near : HasNearPlaces p
  pub called : (x : Name) → is_cell (p x.number).what.kind ≡ false
      → Codes (Some x) (text_primary (polished os) p (OneCall (Alone x))) (code_primary p (OneCall (Alone x))) 0
  pub begun : (x : Name) → is_cell (p x.number).what.kind ≡ false
      → Starts (Some x) (text_primary (polished os) p (OneCall (Alone x)))
  pub calls : (x : Name) (l : ℕ) (a : ActualTree) (more : Actuals) (m : ℕ)
      → let c = OneCall (WithActuals x l a more m) in
      Codes None (text_primary (polished os) p c) (code_primary p c) (need_primary (scopes_of p) c)
  pub call_starts : (x : Name) (l : ℕ) (a : ActualTree) (more : Actuals) (m : ℕ)
      → Starts None (text_primary (polished os) p (OneCall (WithActuals x l a more m)))
  pub elements : (e : Element) → Codes None (text_primary (polished os) p (OneElement e)) (code_primary p (OneElement
      e)) (need_primary (scopes_of p) (OneElement e))
  pub element_starts : (e : Element) → Starts None (text_primary (polished os) p (OneElement e))
