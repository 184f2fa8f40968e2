-- Where an expression is wanted it is read as the items of its levels read it; and where it is wanted as part of something else,
-- as where it is wanted alone.
use Rattle.std.proofs.Common.{◌≡◌, ℕ, List, [], ◌∷◌, ◌++◌, Option, Some, None, Bool, true, false, refl, ap, ◌∙◌, subst}
use Rattle.std.specs.Prelude.{nat_lt}
use Rattle.gier_symbol.specs.declared.symbol.Symbol.{Symbol}
use Rattle.gier_tree.specs.Trees.{Adding, Expr, OneSimple, IfExpr, Simple, Primary, Numeral, Logical, Bracketed, OneExpr}
use Rattle.gier_tree.specs.Spell.{spell_simple}
use Rattle.gier_tree.specs.Signs.{Sign, SName, SNumber, SStringBegin, SAdding, SNot, SLogical, SLeftParenthesis, SRightParenthesis, SIf, SThen, SElse, sign_of}
use Rattle.gier_tree.specs.Wanted.{NoNot, ANot, NoSign, ASign, Item, Want, WantExpr, WantSimple, MayNot, MaySign, WantPrimary, MayPart, WantActual, WantRight, Trees, tail_items, shut_simple, simple_of}
use Rattle.gier_tree.specs.Taking.{name_at, primary_of, simple_act, expr_act, no_lefts}
use Rattle.gier_tree.specs.Structure.{with_tree, gather, build_act, build_at, build}
use Rattle.gier_tree.proofs.Ends.{Starts, begins, false_true}
use Rattle.gier_tree.proofs.Levels.{open_simple, same_simple}

-- the items of a simple expression
abbrev pub simple_items : List Item
simple_items = MayNot ∷ MaySign ∷ WantPrimary ∷ tail_items

abbrev pub shut_at : (st : List Item) → Option (Trees (simple_items ++ st)) → Option (Simple × Trees st)
shut_at st None = None
shut_at st (Some ts) = Some (shut_simple ts)

abbrev pub map_first : {T U R : Type 0} → (T → U) → Option (T × R) → Option (U × R)
map_first f None = None
map_first f (Some r) = Some (f r.0, r.1)

enter_not : (l : ℕ) (st : List Item) (o : Option (Trees (MaySign ∷ WantPrimary ∷ tail_items ++ st))) → gather (MaySign ∷ WantPrimary ∷ tail_items) st (λ ts. simple_of (ANot l) ts.0 ts.1.0 ts.1.1) o ≡ shut_at st (gather [] (MaySign ∷ WantPrimary ∷ tail_items ++ st) (λ ts. ANot l) o)
enter_not l st None = refl
enter_not l st (Some ts) = refl

enter_sign : (s : Adding) (l : ℕ) (st : List Item) (o : Option (Trees (WantPrimary ∷ tail_items ++ st))) → gather (WantPrimary ∷ tail_items) st (λ ts. simple_of NoNot (ASign s l) ts.0 ts.1) o ≡ shut_at st (with_tree NoNot (gather [] (WantPrimary ∷ tail_items ++ st) (λ ts. ASign s l) o))
enter_sign s l st None = refl
enter_sign s l st (Some ts) = refl

enter_primary : (p : Primary) (st : List Item) (o : Option (Trees (tail_items ++ st))) → gather tail_items st (λ ts. simple_of NoNot NoSign p ts) o ≡ shut_at st (with_tree NoNot (with_tree NoSign (gather [] (tail_items ++ st) (λ ts. p) o)))
enter_primary p st None = refl
enter_primary p st (Some ts) = refl

enter_name : (x l : ℕ) (st : List Item) (o : Option (Trees (MayPart ∷ tail_items ++ st))) → gather (MayPart ∷ tail_items) st (λ ts. simple_of NoNot NoSign (primary_of (name_at x l) ts.0) ts.1) o ≡ shut_at st (with_tree NoNot (with_tree NoSign (gather (MayPart ∷ []) (tail_items ++ st) (λ ts. primary_of (name_at x l) ts.0) o)))
enter_name x l st None = refl
enter_name x l st (Some ts) = refl

enter_bracket : (l : ℕ) (st : List Item) (o : Option (Trees (WantExpr ∷ Want SRightParenthesis ∷ tail_items ++ st))) → gather (WantExpr ∷ Want SRightParenthesis ∷ tail_items) st (λ ts. simple_of NoNot NoSign (Bracketed l ts.0 ts.1.0) ts.1.1) o ≡ shut_at st (with_tree NoNot (with_tree NoSign (gather (WantExpr ∷ Want SRightParenthesis ∷ []) (tail_items ++ st) (λ ts. Bracketed l ts.0 ts.1.0) o)))
enter_bracket l st None = refl
enter_bracket l st (Some ts) = refl

enters : (g : Sign) (l : ℕ) (next : (st : List Item) → Option (Trees st)) (st : List Item) → build_at g l next (WantSimple ∷ st) ≡ shut_at st (build_at g l next (simple_items ++ st))
enters SNot l next st = enter_not l st (next (MaySign ∷ WantPrimary ∷ tail_items ++ st))
enters (SAdding s) l next st = enter_sign s l st (next (WantPrimary ∷ tail_items ++ st))
enters (SNumber v) l next st = enter_primary (Numeral v l) st (next (tail_items ++ st))
enters (SLogical b) l next st = enter_primary (Logical b l) st (next (tail_items ++ st))
enters (SName x) l next st = enter_name x l st (next (MayPart ∷ tail_items ++ st))
enters SLeftParenthesis l next st = enter_bracket l st (next (WantExpr ∷ Want SRightParenthesis ∷ tail_items ++ st))
enters _ l next st = refl

pub enter_simple : (w : List Symbol) (st : List Item) → build w (WantSimple ∷ st) ≡ shut_at st (build w (simple_items ++ st))
enter_simple [] st = refl
enter_simple (s ∷ w) st = enters (sign_of s) s.line (build w) st

gather_map : {T U : Type 0} (is st : List Item) (f : T → U) (g : Trees is → T) (o : Option (Trees (is ++ st))) → gather is st (λ ts. f (g ts)) o ≡ map_first f (gather is st g o)
gather_map is st f g None = refl
gather_map is st f g (Some ts) = refl

simple_map : {U : Type 0} (f : Simple → U) (g : Sign) (l : ℕ) (next : (st : List Item) → Option (Trees st)) (st : List Item) (a : Option (Trees st)) → build_act (simple_act f g l) st next a ≡ map_first f (build_at g l next (WantSimple ∷ st))
simple_map f SNot l next st a = gather_map (MaySign ∷ WantPrimary ∷ tail_items) st f (λ ts. simple_of (ANot l) ts.0 ts.1.0 ts.1.1) (next (MaySign ∷ WantPrimary ∷ tail_items ++ st))
simple_map f (SAdding s) l next st a = gather_map (WantPrimary ∷ tail_items) st f (λ ts. simple_of NoNot (ASign s l) ts.0 ts.1) (next (WantPrimary ∷ tail_items ++ st))
simple_map f (SNumber v) l next st a = gather_map tail_items st f (λ ts. simple_of NoNot NoSign (Numeral v l) ts) (next (tail_items ++ st))
simple_map f (SLogical b) l next st a = gather_map tail_items st f (λ ts. simple_of NoNot NoSign (Logical b l) ts) (next (tail_items ++ st))
simple_map f (SName x) l next st a = gather_map (MayPart ∷ tail_items) st f (λ ts. simple_of NoNot NoSign (primary_of (name_at x l) ts.0) ts.1) (next (MayPart ∷ tail_items ++ st))
simple_map f SLeftParenthesis l next st a = gather_map (WantExpr ∷ Want SRightParenthesis ∷ tail_items) st f (λ ts. simple_of NoNot NoSign (Bracketed l ts.0 ts.1.0) ts.1.1) (next (WantExpr ∷ Want SRightParenthesis ∷ tail_items ++ st))
simple_map f _ l next st a = refl

abbrev pub if_items : List Item
if_items = WantExpr ∷ Want SThen ∷ WantSimple ∷ Want SElse ∷ WantExpr ∷ []

-- an expression as a part
expr_map : {U : Type 0} (f : Expr → U) (g : Sign) (l : ℕ) (next : (st : List Item) → Option (Trees st)) (st : List Item) (a : Option (Trees st)) → build_act (expr_act f g l) st next a ≡ map_first f (build_at g l next (WantExpr ∷ st))
expr_map f SIf l next st a = gather_map if_items st f (λ ts. IfExpr l ts.0 ts.1.0 ts.1.1.0 ts.1.1.1.0 ts.1.1.1.1.0) (next (if_items ++ st))
expr_map f SNot l next st a = gather_map (MaySign ∷ WantPrimary ∷ tail_items) st f (λ ts. OneSimple (simple_of (ANot l) ts.0 ts.1.0 ts.1.1)) (next (MaySign ∷ WantPrimary ∷ tail_items ++ st))
expr_map f (SAdding s) l next st a = gather_map (WantPrimary ∷ tail_items) st f (λ ts. OneSimple (simple_of NoNot (ASign s l) ts.0 ts.1)) (next (WantPrimary ∷ tail_items ++ st))
expr_map f (SNumber v) l next st a = gather_map tail_items st f (λ ts. OneSimple (simple_of NoNot NoSign (Numeral v l) ts)) (next (tail_items ++ st))
expr_map f (SLogical b) l next st a = gather_map tail_items st f (λ ts. OneSimple (simple_of NoNot NoSign (Logical b l) ts)) (next (tail_items ++ st))
expr_map f (SName x) l next st a = gather_map (MayPart ∷ tail_items) st f (λ ts. OneSimple (simple_of NoNot NoSign (primary_of (name_at x l) ts.0) ts.1)) (next (MayPart ∷ tail_items ++ st))
expr_map f SLeftParenthesis l next st a = gather_map (WantExpr ∷ Want SRightParenthesis ∷ tail_items) st f (λ ts. OneSimple (simple_of NoNot NoSign (Bracketed l ts.0 ts.1.0) ts.1.1)) (next (WantExpr ∷ Want SRightParenthesis ∷ tail_items ++ st))
expr_map f _ l next st a = refl

simple_expr : (g : Sign) (l : ℕ) (next : (st : List Item) → Option (Trees st)) (st : List Item) → nat_lt (begins g) 3 ≡ true → build_at g l next (WantExpr ∷ st) ≡ map_first OneSimple (build_at g l next (WantSimple ∷ st))
simple_expr SIf l next st h = absurd (false_true h)
simple_expr g l next st h = simple_map OneSimple g l next st (build_at g l next st)

pub enter_expr : (w : List Symbol) (st : List Item) → Starts 3 w → build w (WantExpr ∷ st) ≡ map_first OneSimple (build w (WantSimple ∷ st))
enter_expr [] st h = absurd h
enter_expr (s ∷ w) st h = simple_expr (sign_of s) s.line (build w) st h

-- an expression as an actual, and behind `:=` where it doesn't begin with a name
actual_expr : (g : Sign) (l : ℕ) (next : (st : List Item) → Option (Trees st)) (st : List Item) → nat_lt (begins g) 4 ≡ true → build_at g l next (WantActual ∷ st) ≡ map_first OneExpr (build_at g l next (WantExpr ∷ st))
actual_expr SStringBegin l next st h = absurd (false_true h)
actual_expr g l next st h = expr_map OneExpr g l next st (build_at g l next st)

pub enter_actual : (w : List Symbol) (st : List Item) → Starts 4 w → build w (WantActual ∷ st) ≡ map_first OneExpr (build w (WantExpr ∷ st))
enter_actual [] st h = absurd h
enter_actual (s ∷ w) st h = actual_expr (sign_of s) s.line (build w) st h

abbrev pub is_name : Sign → Bool
is_name (SName x) = true
is_name g = false

abbrev IsYes : Bool → Type 0
IsYes true = Unit {0}
IsYes false = ⊥

pub enter_right : (g : Sign) (l : ℕ) (next : (st : List Item) → Option (Trees st)) (st : List Item) → is_name g ≡ false → build_at g l next (WantRight ∷ st) ≡ map_first no_lefts (build_at g l next (WantExpr ∷ st))
enter_right (SName x) l next st h = absurd (subst IsYes h tt)
enter_right g l next st h = expr_map no_lefts g l next st (build_at g l next st)

-- what the items of a simple expression read is that expression
pub simple_read : (s : Simple) (k : List Symbol) (st : List Item) (r : Trees st) → build (spell_simple s k) (simple_items ++ st) ≡ Some (open_simple s [] r) → build (spell_simple s k) (WantSimple ∷ st) ≡ Some (s, r)
simple_read s k st r b = enter_simple (spell_simple s k) st ∙ ap (shut_at st) b ∙ ap (λ (y : Simple × Trees st). Some y) (same_simple s [] r)
