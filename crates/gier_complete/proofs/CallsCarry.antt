-- Actuals and calls carry each claim.
use Rattle.std.proofs.Common.{ℕ, zero, suc, ◌+◌, ◌*◌, List, [], ◌∷◌, Option, None, Some, map}
use Rattle.std.specs.Prelude.{◌^◌}
use Rattle.gier_symbol.specs.declared.symbol.Symbol.{Symbol}
use Rattle.gier_order.specs.declared.operation.Operation.TheVariants as op
use Rattle.gier_tree.specs.declared.kind.Kind.{Kind}
use Rattle.gier_tree.specs.declared.kind.Kind.TheVariants as kind
use Rattle.gier_tree.specs.Coded.{Part, by_name, then_order, value_of, array_of, value_evaluation, declared_actual, entity_actual}
use Rattle.gier_tree.specs.Coded.{named_actual, string_actual, actual_code, actuals_code, packed_kinds, formal_fitting, fitting_kind}
use Rattle.gier_tree.specs.Coded.{formal_call, declared_call, standard_call, call_code, alone_code, library}
use Rattle.gier_tree.specs.Orders.{State, Following, order, with_label, data_words}
use Rattle.gier_tree.specs.Places.{Placed}
use Rattle.gier_complete.proofs.EachKind.{with_kind, each_kind}
use Rattle.gier_complete.proofs.Passing.{Ahead, Claim, IsCarried, Carries, CodeCarries}
use Rattle.gier_complete.proofs.PiecesCarry.{then_carries, value_carries, array_carries, by_name_carries, words_carry, jumped_carries}
use Rattle.gier_complete.proofs.ActualsCarry.{PartCarries, PartsCarry, value_actual, string_passes, values_wanted_carries}

module _ (P : Claim) (h : IsCarried P) where
  declared_by_count : (at : Placed) (line : ℕ) (n : Ahead) (go : Following) → ((s : State) → P n s (go s)) → (st : State) → (count : ℕ) → P n st (declared_actual (record { what = record { kind = at.what.kind; count = count; formals = at.what.formals }; level = at.level; address = at.address }) line st go)
  declared_by_count at line n go k st zero = h.a_use _ _ n _ _ (k _)
  declared_by_count at line n go k st (suc c) =
      let kinds = packed_kinds (map formal_fitting at.what.formals) in
      jumped_carries P h line (λ start s q. with_label op.Kinds (suc c) at.address line s (λ s1. data_words kinds line s1 q))
      (λ start m q r s. h.a_use _ _ m _ _ (words_carry P h kinds line m q r _)) n
      (λ start s. with_label op.Short 0 start line s go) (λ start s. h.a_use _ _ n _ _ (k _)) st

  declared_carries : (at : Placed) (line : ℕ) → Carries P (declared_actual at line)
  declared_carries at line n go k st = declared_by_count at line n go k st at.what.count

  entity_by_kind : (at : Placed) (line v : ℕ) (n : Ahead) (go : Following) → ((s : State) → P n s (go s)) → (st : State) → (kd : Kind) → P n st (entity_actual (with_kind at kd) line v st go)
  entity_by_kind at line v n go k st =
      let based : (s : State) → P n s (order op.Keep 0 v line s (λ s1. order op.Base at.level 0 line s1 (λ s2. order op.Keep 0 (v + 1) line s2 go))) = λ s. h.an_order op.Keep tt _ _ n _ _ (h.an_order op.Base tt _ _ n _ _ (h.an_order op.Keep tt _ _ n _ _ (k _))) in
      let formal : P n st (order op.Take at.level at.address line st (λ s. order op.Keep 0 v line s (λ s1. order op.Take at.level (suc at.address) line s1 (λ s2. order op.Keep 0 (v + 1) line s2 go)))) = h.an_order op.Take tt _ _ n _ _ (h.an_order op.Keep tt _ _ n _ _ (h.an_order op.Take tt _ _ n _ _ (h.an_order op.Keep tt _ _ n _ _ (k _)))) in
      let own : P n st (with_label op.Short 0 at.address line st (λ s. order op.Keep 0 v line s (λ s1. order op.Base at.level 0 line s1 (λ s2. order op.Keep 0 (v + 1) line s2 go)))) = h.a_use _ _ n _ _ (based _) in
      let declared : (kd : Kind) → P n st (declared_actual (with_kind at kd) line st (λ s. order op.Keep 0 v line s (λ s1. order op.Base at.level 0 line s1 (λ s2. order op.Keep 0 (v + 1) line s2 go)))) = λ kd. declared_carries (with_kind at kd) line n _ based st in
      each_kind (λ kd. P n st (entity_actual (with_kind at kd) line v st go)) (declared kind.Undeclared) (declared kind.IntegerVariable) (declared kind.BooleanVariable) (declared kind.IntegerArray) (declared kind.BooleanArray) (declared kind.Label) own (declared kind.Procedure) (declared kind.IntegerProcedure) (declared kind.BooleanProcedure) (declared kind.IntegerValue) (declared kind.BooleanValue) (declared kind.IntegerFormal) (declared kind.BooleanFormal) (declared kind.IntegerArrayFormal) (declared kind.BooleanArrayFormal) (declared kind.LabelFormal) formal (declared kind.StringFormal) formal formal formal (declared kind.OutInteger) (declared kind.OutText) (declared kind.OutCr) (declared kind.OutChar) (declared kind.InInteger) (declared kind.InChar) (declared kind.Abs) (declared kind.Sign)

  entity_carries : (at : Placed) (line v : ℕ) → Carries P (entity_actual at line v)
  entity_carries at line v n go k st = entity_by_kind at line v n go k st at.what.kind

  named_carries : (n : Ahead) (st : State) (name : Option Placed) (f : Placed → List Symbol) (otherwise : List Symbol) → ((at : Placed) → P n st (f at)) → P n st otherwise → P n st (named_actual name f otherwise)
  named_carries n st None f otherwise pf po = po
  named_carries n st (Some at) f otherwise pf po = pf at

  actual_carries : (level v : ℕ) (a : Part) → PartCarries P h a → (n : Ahead) (go : Following) → ((s : State) → P n s (go s)) → (st : State) → (kd : Kind) → P n st (actual_code kd level v a st go)
  actual_carries level v a pa n go k st =
      let value : P n st (a.value level v st (λ s. order op.Keep 0 v a.line s go)) = pa.value level v n _ (λ s. h.an_order op.Keep tt _ _ n _ _ (k _)) st in
      let named : P n st (value_evaluation a.element a.name a v st go) = value_actual P h a.element a.name a pa.element pa v n go k st in
      let label : P n st (by_name 2 a.need a.line (then_order op.Back a.line a.label) v st go) = by_name_carries P h 2 a.need a.line (then_order op.Back a.line a.label) (then_carries P h op.Back tt a.line a.label pa.label) v n go k st in
      let array : P n st (named_actual a.name (λ at. array_of at a.line st (λ s. order op.Keep 0 v a.line s go)) (go st)) = named_carries n st a.name _ _ (λ at. array_carries P h at a.line n _ (λ s. h.an_order op.Keep tt (0 * 2 ^ 24 + v) a.line n _ _ (k _)) st) (k st) in
      let string : P n st (string_actual a.string a.name a.line st (λ s. order op.Keep 0 v a.line s go)) = string_passes P h a.string a.name a.line n _ (λ s. h.an_order op.Keep tt (0 * 2 ^ 24 + v) a.line n _ _ (k _)) st in
      let entity : P n st (named_actual a.name (λ at. entity_actual at a.line v st go) (go st)) = named_carries n st a.name _ _ (λ at. entity_carries at a.line v n go k st) (k st) in
      each_kind (λ kd. P n st (actual_code kd level v a st go)) entity entity entity entity entity entity entity entity entity entity value value named named array array label entity string entity entity entity entity entity entity entity entity entity entity entity

  actuals_carry : (kinds : List Kind) (level v : ℕ) (parts : List Part) → PartsCarry P h parts → Carries P (actuals_code kinds level v parts)
  actuals_carry kinds level v [] all n go k st = k st
  actuals_carry [] level v (a ∷ more) all n go k st = k st
  actuals_carry (kd ∷ kinds) level v (a ∷ more) all n go k st = actual_carries level v a all.0 n _ (λ s. actuals_carry kinds level (v + 2) more all.1 n go k s) st kd

  formal_call_carries : (at : Placed) (line : ℕ) (parts : List Part) → PartsCarry P h parts → CodeCarries P (formal_call at line parts)
  formal_call_carries at line [] all level w n go k st = h.an_order op.Formal tt _ _ n _ _ (k _)
  formal_call_carries at line (a ∷ more) all level w n go k st =
      let kinds = map (λ (q : Part). q.fitting) (a ∷ more) in
      h.an_order op.Agree tt _ _ n _ _ (h.a_word _ _ n _ _ (words_carry P h (packed_kinds kinds) line n _
      (λ s2. actuals_carry (map fitting_kind kinds) level w (a ∷ more) all n _
      (λ s3. values_wanted_carries P h at 1 level w line kinds n _
      (λ s4. h.an_order op.Short tt (0 * 2 ^ 24 + w) line n _ _ (h.an_order op.CallF tt _ line n _ _ (k _))) s3) s2) _))

  declared_call_carries : (at : Placed) (line : ℕ) (parts : List Part) → PartsCarry P h parts → CodeCarries P (declared_call at line parts)
  declared_call_carries at line parts all level w n go k st =
      actuals_carry at.what.formals level w parts all n _ (λ s. h.an_order op.Short tt (0 * 2 ^ 24 + w) line n _ _ (h.a_use _ line n _ _ (k _))) st

  standard_by_kind : (line : ℕ) (a : Part) (more : List Part) → PartCarries P h a → (level w : ℕ) (n : Ahead) (go : Following) → ((s : State) → P n s (go s)) → (st : State) → (kd : Kind) → P n st (standard_call kd line (a ∷ more) level w st go)
  standard_by_kind line a more pa level w n go k st =
      let valued : (kd : Kind) → P n st (a.value level w st (λ s. library kd line s go)) = λ kd. pa.value level w n _ (λ s. h.an_order op.Lib tt _ _ n _ _ (k _)) st in
      let text : P n st (string_actual a.string a.name a.line st (λ s. library kind.OutText line s go)) = string_passes P h a.string a.name a.line n (λ s. library kind.OutText line s go) (λ s. h.an_order op.Lib tt _ _ n _ _ (k _)) st in
      each_kind (λ kd. P n st (standard_call kd line (a ∷ more) level w st go)) (valued kind.Undeclared) (valued kind.IntegerVariable) (valued kind.BooleanVariable) (valued kind.IntegerArray) (valued kind.BooleanArray) (valued kind.Label) (valued kind.Switch) (valued kind.Procedure) (valued kind.IntegerProcedure) (valued kind.BooleanProcedure) (valued kind.IntegerValue) (valued kind.BooleanValue) (valued kind.IntegerFormal) (valued kind.BooleanFormal) (valued kind.IntegerArrayFormal) (valued kind.BooleanArrayFormal) (valued kind.LabelFormal) (valued kind.SwitchFormal) (valued kind.StringFormal) (valued kind.ProcedureFormal) (valued kind.IntegerProcedureFormal) (valued kind.BooleanProcedureFormal) (valued kind.OutInteger) text (valued kind.OutCr) (valued kind.OutChar) (valued kind.InInteger) (valued kind.InChar) (valued kind.Abs) (valued kind.Sign)

  standard_carries : (kd : Kind) (line : ℕ) (parts : List Part) → PartsCarry P h parts → CodeCarries P (standard_call kd line parts)
  standard_carries kd line [] all level w n go k st = h.an_order op.Lib tt _ _ n _ _ (k _)
  standard_carries kd line (a ∷ more) all level w n go k st = standard_by_kind line a more all.0 level w n go k st kd

  call_by_kind : (at : Placed) (line : ℕ) (parts : List Part) → PartsCarry P h parts → (level w : ℕ) (n : Ahead) (go : Following) → ((s : State) → P n s (go s)) → (st : State) → (kd : Kind) → P n st (call_code (with_kind at kd) line parts level w st go)
  call_by_kind at line parts all level w n go k st =
      let declared : (kd : Kind) → P n st (declared_call (with_kind at kd) line parts level w st go) = λ kd. declared_call_carries (with_kind at kd) line parts all level w n go k st in
      let formal : (kd : Kind) → P n st (formal_call (with_kind at kd) line parts level w st go) = λ kd. formal_call_carries (with_kind at kd) line parts all level w n go k st in
      let standard : (kd : Kind) → P n st (standard_call kd line parts level w st go) = λ kd. standard_carries kd line parts all level w n go k st in
      each_kind (λ kd. P n st (call_code (with_kind at kd) line parts level w st go)) (standard kind.Undeclared) (standard kind.IntegerVariable) (standard kind.BooleanVariable) (standard kind.IntegerArray) (standard kind.BooleanArray) (standard kind.Label) (standard kind.Switch) (declared kind.Procedure) (declared kind.IntegerProcedure) (declared kind.BooleanProcedure) (standard kind.IntegerValue) (standard kind.BooleanValue) (standard kind.IntegerFormal) (standard kind.BooleanFormal) (standard kind.IntegerArrayFormal) (standard kind.BooleanArrayFormal) (standard kind.LabelFormal) (standard kind.SwitchFormal) (standard kind.StringFormal) (formal kind.ProcedureFormal) (formal kind.IntegerProcedureFormal) (formal kind.BooleanProcedureFormal) (standard kind.OutInteger) (standard kind.OutText) (standard kind.OutCr) (standard kind.OutChar) (standard kind.InInteger) (standard kind.InChar) (standard kind.Abs) (standard kind.Sign)

  pub call_carries : (at : Placed) (line : ℕ) (parts : List Part) → PartsCarry P h parts → CodeCarries P (call_code at line parts)
  call_carries at line parts all level w n go k st = call_by_kind at line parts all level w n go k st at.what.kind

  alone_by_kind : (at : Placed) (line level w : ℕ) (n : Ahead) (go : Following) → ((s : State) → P n s (go s)) → (st : State) → (kd : Kind) → P n st (alone_code (with_kind at kd) line level w st go)
  alone_by_kind at line level w n go k st =
      let taken : (kd : Kind) → P n st (value_of (with_kind at kd) line st go) = λ kd. value_carries P h (with_kind at kd) line n go k st in
      let called : (kd : Kind) → P n st (call_code (with_kind at kd) line [] level w st go) = λ kd. call_carries (with_kind at kd) line [] tt level w n go k st in
      each_kind (λ kd. P n st (alone_code (with_kind at kd) line level w st go)) (called kind.Undeclared) (taken kind.IntegerVariable) (taken kind.BooleanVariable) (called kind.IntegerArray) (called kind.BooleanArray) (called kind.Label) (called kind.Switch) (called kind.Procedure) (called kind.IntegerProcedure) (called kind.BooleanProcedure) (taken kind.IntegerValue) (taken kind.BooleanValue) (taken kind.IntegerFormal) (taken kind.BooleanFormal) (called kind.IntegerArrayFormal) (called kind.BooleanArrayFormal) (called kind.LabelFormal) (called kind.SwitchFormal) (called kind.StringFormal) (called kind.ProcedureFormal) (called kind.IntegerProcedureFormal) (called kind.BooleanProcedureFormal) (called kind.OutInteger) (called kind.OutText) (called kind.OutCr) (called kind.OutChar) (called kind.InInteger) (called kind.InChar) (called kind.Abs) (called kind.Sign)

  pub alone_carries : (at : Placed) (line : ℕ) → CodeCarries P (alone_code at line)
  alone_carries at line level w n go k st = alone_by_kind at line level w n go k st at.what.kind
