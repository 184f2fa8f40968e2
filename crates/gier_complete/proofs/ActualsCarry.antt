-- Actuals and calls carry each claim.
use Rattle.std.proofs.Common.{ℕ, suc, ◌+◌, ◌*◌, List, [], ◌∷◌, Option, None, Some}
use Rattle.std.specs.Prelude.{⊤, ◌^◌}
use Rattle.gier_order.specs.declared.operation.Operation.TheVariants as op
use Rattle.gier_agree.specs.declared.kind.Kind.{Kind as Fitting}
use Rattle.gier_agree.specs.declared.kind.Kind.TheVariants as fit
use Rattle.gier_tree.specs.declared.kind.Kind.{Kind}
use Rattle.gier_tree.specs.declared.kind.Kind.TheVariants as kind
use Rattle.gier_tree.specs.Coded.{Part, by_name, then_order, address_of, name_evaluation, value_evaluation}
use Rattle.gier_tree.specs.Coded.{string_actual, value_wanted, values_wanted}
use Rattle.gier_tree.specs.Orders.{State, Following, Code, order, first_label}
use Rattle.gier_tree.specs.Places.{Placed}
use Rattle.gier_complete.proofs.EachKind.{with_kind, each_kind}
use Rattle.gier_complete.proofs.Passing.{Ahead, Claim, IsCarried, Carries, CodeCarries, one, more}
use Rattle.gier_complete.proofs.PiecesCarry.{then_carries, address_carries, by_name_carries}
use Rattle.gier_complete.proofs.PiecesCarry.{string_carries}

module _ (P : Claim) (h : IsCarried P) where
  abbrev pub OptionCarries : Option Code → Type 0
  OptionCarries None = ⊤
  OptionCarries (Some c) = CodeCarries P c

  pub record PartCarries (a : Part) : Type 0 where
    pub value : CodeCarries P a.value
    pub label : CodeCarries P a.label
    pub element : OptionCarries a.element

  abbrev pub PartsCarry : List Part → Type 0
  PartsCarry [] = ⊤
  PartsCarry (a ∷ more) = PartCarries a × PartsCarry more

  variable_carries : (at : Placed) (need line v : ℕ) → Carries P (by_name 1 need line (λ level w s k. address_of at line s (λ s1. order op.Give 0 0 line s1 k)) v)
  variable_carries at need line v = by_name_carries P h 1 need line (λ level w s k. address_of at line s (λ s1. order op.Give 0 0 line s1 k))
      (λ level w m q k. address_carries P h at line m _ (λ s1. h.an_order op.Give tt (0 * 2 ^ 24 + 0) line m _ _ (k _))) v

  formal_carries : (l a need line v : ℕ) → Carries P (by_name 3 need line (λ level w s k. order op.Pass l a line s (λ s1. order op.Back 0 0 line s1 k)) v)
  formal_carries l a need line v = by_name_carries P h 3 need line (λ level w s k. order op.Pass l a line s (λ s1. order op.Back 0 0 line s1 k))
      (λ level w m q k st. h.an_order op.Pass tt _ _ m _ _ (h.an_order op.Back tt _ _ m _ _ (k _))) v

  name_by_kind : (at : Placed) (c : Code) → CodeCarries P c → (need line v : ℕ) (n : Ahead) (go : Following) → ((s : State) → P n s (go s)) → (st : State) → (kd : Kind) → P n st (name_evaluation (with_kind at kd) c need line v st go)
  name_by_kind at c pc need line v n go k st =
      let other : P n st (by_name 0 need line (then_order op.Back line c) v st go) = by_name_carries P h 0 need line (then_order op.Back line c) (then_carries P h op.Back tt line c pc) v n go k st in
      let variable : (kd : Kind) → P n st (by_name 1 need line (λ level w s k. address_of (with_kind at kd) line s (λ s1. order op.Give 0 0 line s1 k)) v st go) = λ kd. variable_carries (with_kind at kd) need line v n go k st in
      let formal : P n st (by_name 3 need line (λ level w s k. order op.Pass at.level at.address line s (λ s1. order op.Back 0 0 line s1 k)) v st go) = formal_carries at.level at.address need line v n go k st in
      each_kind (λ kd. P n st (name_evaluation (with_kind at kd) c need line v st go)) other (variable kind.IntegerVariable) (variable kind.BooleanVariable) other other other other other other other (variable kind.IntegerValue) (variable kind.BooleanValue) formal formal other other other other other other other other other other other other other other other other

  name_carries : (at : Placed) (c : Code) → CodeCarries P c → (need line v : ℕ) → Carries P (name_evaluation at c need line v)
  name_carries at c pc need line v n go k st = name_by_kind at c pc need line v n go k st at.what.kind

  pub value_actual : (element : Option Code) (name : Option Placed) (a : Part) → OptionCarries element → PartCarries a → (v : ℕ) → Carries P (value_evaluation element name a v)
  value_actual (Some c) name a pc pa v = by_name_carries P h 1 a.need a.line (then_order op.Give a.line c) (then_carries P h op.Give tt a.line c pc) v
  value_actual None (Some at) a pc pa v = name_carries at a.value pa.value a.need a.line v
  value_actual None None a pc pa v = by_name_carries P h 0 a.need a.line (then_order op.Back a.line a.value) (then_carries P h op.Back tt a.line a.value pa.value) v

  pub string_passes : (string : Option (List ℕ)) (name : Option Placed) (line : ℕ) → Carries P (string_actual string name line)
  string_passes (Some bytes) name line n go k st = string_carries P h bytes line n go k st
  string_passes None (Some at) line n go k st = h.an_order op.Take tt _ _ n _ _ (k _)
  string_passes None None line n go k st = k st

  value_wanted_carries : (at : Placed) (i level v line : ℕ) → Carries P (value_wanted at i level v line)
  value_wanted_carries at i level v line n go k st =
      let n1 = more n (one (first_label + st.labels)) in
      h.an_order op.Short tt _ _ n _ _ (h.an_order op.ByVal tt _ _ n _ _ (h.a_new n _ _ (h.a_use _ _ n1 _ _ (h.an_order op.Value tt _ _ n1 _ _
      (h.an_order op.Keep tt _ _ n1 _ _ (h.a_place _ _ n _ _ (k _)))))))

  pub values_wanted_carries : (at : Placed) (i level v line : ℕ) (kinds : List Fitting) → Carries P (values_wanted at i level v line kinds)
  values_wanted_carries at i level v line [] n go k st = k st
  values_wanted_carries at i level v line (fit.Integer ∷ kinds) n go k st = value_wanted_carries at i level v line n _ (values_wanted_carries at (suc i) level (v + 2) line kinds n go k) st
  values_wanted_carries at i level v line (fit.Boolean ∷ kinds) n go k st = value_wanted_carries at i level v line n _ (values_wanted_carries at (suc i) level (v + 2) line kinds n go k) st
  values_wanted_carries at i level v line (fit.IntegerByValue ∷ kinds) n go k st = values_wanted_carries at (suc i) level (v + 2) line kinds n go k st
  values_wanted_carries at i level v line (fit.BooleanByValue ∷ kinds) n go k st = values_wanted_carries at (suc i) level (v + 2) line kinds n go k st
  values_wanted_carries at i level v line (fit.Label ∷ kinds) n go k st = values_wanted_carries at (suc i) level (v + 2) line kinds n go k st
  values_wanted_carries at i level v line (fit.IntegerArray ∷ kinds) n go k st = values_wanted_carries at (suc i) level (v + 2) line kinds n go k st
  values_wanted_carries at i level v line (fit.BooleanArray ∷ kinds) n go k st = values_wanted_carries at (suc i) level (v + 2) line kinds n go k st
  values_wanted_carries at i level v line (fit.Switch ∷ kinds) n go k st = values_wanted_carries at (suc i) level (v + 2) line kinds n go k st
  values_wanted_carries at i level v line (fit.String ∷ kinds) n go k st = values_wanted_carries at (suc i) level (v + 2) line kinds n go k st
  values_wanted_carries at i level v line (fit.Procedure ∷ kinds) n go k st = values_wanted_carries at (suc i) level (v + 2) line kinds n go k st
  values_wanted_carries at i level v line (fit.IntegerProcedure ∷ kinds) n go k st = values_wanted_carries at (suc i) level (v + 2) line kinds n go k st
  values_wanted_carries at i level v line (fit.BooleanProcedure ∷ kinds) n go k st = values_wanted_carries at (suc i) level (v + 2) line kinds n go k st
