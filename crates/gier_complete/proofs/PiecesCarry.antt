-- The pieces of which the code of expressions is put together carry each claim.
use Rattle.std.proofs.Common.{ℕ, suc, ◌+◌, ◌*◌, List, [], ◌∷◌, length}
use Rattle.std.specs.Prelude.{⊤, ◌^◌, Bool, true, false}
use Rattle.gier_symbol.specs.declared.symbol.Symbol.{Symbol}
use Rattle.gier_order.specs.declared.operation.Operation.{Operation}
use Rattle.gier_order.specs.declared.operation.Operation.TheVariants as op
use Rattle.gier_tree.specs.declared.kind.Kind.{Kind}
use Rattle.gier_tree.specs.Coded.{both, then_order, sign_code, number_code, choice, address_of, value_of, array_of, subscripts_code}
use Rattle.gier_tree.specs.Coded.{element_code, label_code, switch_code, evaluation, by_name, string_code, string_words}
use Rattle.gier_tree.specs.Orders.{State, Following, Code, no_code, number_of, order, with_label, data_words, jumped_over, first_label}
use Rattle.gier_tree.specs.Places.{Placed}
use Rattle.gier_tree.specs.Room.{call_header}
use Rattle.gier_tree.specs.Trees.{Adding, Add, Subtract}
use Rattle.gier_complete.proofs.EachKind.{with_kind, each_kind}
use Rattle.gier_complete.proofs.Passing.{IsNoStop, Ahead, Claim, IsCarried, Carries, CodeCarries, one, more, roomed, place_first}

module _ (P : Claim) (h : IsCarried P) where
  pub nothing_carries : CodeCarries P no_code
  nothing_carries level w n go k = k

  pub both_carries : (o : Operation) → IsNoStop o → (line : ℕ) (a b : Code) → CodeCarries P a → CodeCarries P b → CodeCarries P (both o line a b)
  both_carries o other line a b pa pb level w n go k =
      pa level w n _ (λ s. h.an_order op.Keep tt _ _ n _ _ (pb level (w + 1) n _ (λ s2. h.an_order o other _ _ n _ _ (k _)) _))

  pub then_carries : (o : Operation) → IsNoStop o → (line : ℕ) (a : Code) → CodeCarries P a → CodeCarries P (then_order o line a)
  then_carries o other line a pa level w n go k = pa level w n _ (λ s. h.an_order o other _ _ n _ _ (k _))

  pub choice_carries : (line : ℕ) (a b c : Code) → CodeCarries P a → CodeCarries P b → CodeCarries P c → CodeCarries P (choice line a b c)
  choice_carries line a b c pa pb pc level w n go k =
      pa level w n _ (λ s.
      let n1 = more n (one (first_label + s.labels)) in
      h.a_new n _ _ (h.a_use _ _ n1 _ _ (pb level w n1 _ (λ s3.
      let y = first_label + s3.labels in
      h.a_new n1 _ _ (h.a_use _ _ (more n1 (one y)) _ _ (place_first P h (first_label + s.labels) y _ n _ _
      (pc level w (more n (one y)) _ (λ s7. h.a_place _ _ n _ _ (k _)) _)))) _)))

  pub sign_carries : (sign : Adding) (line : ℕ) (a : Code) → CodeCarries P a → CodeCarries P (sign_code sign line a)
  sign_carries Add line a pa = pa
  sign_carries Subtract line a pa = then_carries op.Neg tt line a pa

  pub number_carries : (small : Bool) (value line : ℕ) → CodeCarries P (number_code small value line)
  number_carries true value line level w n go k st = h.an_order op.Short tt _ _ n _ _ (k _)
  number_carries false value line level w n go k st = h.an_order op.Long tt _ _ n _ _ (h.a_word _ _ n _ _ (k _))

  address_by_kind : (at : Placed) (line : ℕ) (n : Ahead) (go : Following) → ((s : State) → P n s (go s)) → (st : State) → (kind : Kind) → P n st (address_of (with_kind at kind) line st go)
  address_by_kind at line n go k st =
      let other : P n st (order op.Addr at.level at.address line st go) = h.an_order op.Addr tt _ _ n _ _ (k _) in
      let formal : P n st (order op.Place at.level at.address line st go) = h.an_order op.Place tt _ _ n _ _ (k _) in
      let called : P n st (order op.Addr (suc at.level) call_header line st go) = h.an_order op.Addr tt _ _ n _ _ (k _) in
      each_kind (λ kind. P n st (address_of (with_kind at kind) line st go)) other other other other other other other other called called other other formal formal other other other other other other other other other other other other other other other other

  pub address_carries : (at : Placed) (line : ℕ) → Carries P (address_of at line)
  address_carries at line n go k st = address_by_kind at line n go k st at.what.kind

  value_by_kind : (at : Placed) (line : ℕ) (n : Ahead) (go : Following) → ((s : State) → P n s (go s)) → (st : State) → (kind : Kind) → P n st (value_of (with_kind at kind) line st go)
  value_by_kind at line n go k st =
      let other : P n st (order op.Take at.level at.address line st go) = h.an_order op.Take tt _ _ n _ _ (k _) in
      let formal : P n st (order op.Value at.level at.address line st go) = h.an_order op.Value tt _ _ n _ _ (k _) in
      each_kind (λ kind. P n st (value_of (with_kind at kind) line st go)) other other other other other other other other other other other other formal formal other other other other other other other other other other other other other other other other

  pub value_carries : (at : Placed) (line : ℕ) → Carries P (value_of at line)
  value_carries at line n go k st = value_by_kind at line n go k st at.what.kind

  array_by_kind : (at : Placed) (line : ℕ) (n : Ahead) (go : Following) → ((s : State) → P n s (go s)) → (st : State) → (kind : Kind) → P n st (array_of (with_kind at kind) line st go)
  array_by_kind at line n go k st =
      let other : P n st (order op.Addr at.level at.address line st go) = h.an_order op.Addr tt _ _ n _ _ (k _) in
      let formal : P n st (order op.Take at.level at.address line st go) = h.an_order op.Take tt _ _ n _ _ (k _) in
      each_kind (λ kind. P n st (array_of (with_kind at kind) line st go)) other other other other other other other other other other other other other other formal formal other other other other other other other other other other other other other other

  pub array_carries : (at : Placed) (line : ℕ) → Carries P (array_of at line)
  array_carries at line n go k st = array_by_kind at line n go k st at.what.kind

  label_of : (at : Placed) (line level w : ℕ) (n : Ahead) (go : Following) → ((s : State) → P n s (go s)) → (st : State) → (kind : Kind) → P n st (label_code (with_kind at kind) line level w st go)
  label_of at line level w n go k st =
      let other : P n st (order op.NameL at.level at.address line st go) = h.an_order op.NameL tt _ _ n _ _ (k _) in
      let own : P n st (with_label op.Lab at.level at.address line st go) = h.a_use _ _ n _ _ (k _) in
      each_kind (λ kind. P n st (label_code (with_kind at kind) line level w st go)) other other other other other own other other other other other other other other other other other other other other other other other other other other other other other other

  pub label_carries : (at : Placed) (line : ℕ) → CodeCarries P (label_code at line)
  label_carries at line level w n go k st = label_of at line level w n go k st at.what.kind

  switch_of : (at : Placed) (line : ℕ) (c : Code) → CodeCarries P c → (level w : ℕ) (n : Ahead) (go : Following) → ((s : State) → P n s (go s)) → (st : State) → (kind : Kind) → P n st (switch_code (with_kind at kind) line c level w st go)
  switch_of at line c pc level w n go k st =
      let other : P n st (c level w st (λ s. order op.SwForm at.level at.address line s go)) = pc level w n _ (λ s. h.an_order op.SwForm tt _ _ n _ _ (k _)) st in
      let own : P n st (c level w st (λ s. with_label op.Switch at.level at.address line s go)) = pc level w n _ (λ s. h.a_use _ _ n _ _ (k _)) st in
      each_kind (λ kind. P n st (switch_code (with_kind at kind) line c level w st go)) other other other other other other own other other other other other other other other other other other other other other other other other other other other other other other

  pub switch_carries : (at : Placed) (line : ℕ) (c : Code) → CodeCarries P c → CodeCarries P (switch_code at line c)
  switch_carries at line c pc level w n go k st = switch_of at line c pc level w n go k st at.what.kind

  -- codes in a list
  abbrev pub AllCarry : List Code → Type 0
  AllCarry [] = ⊤
  AllCarry (c ∷ cs) = CodeCarries P c × AllCarry cs

  pub subscripts_carry : (line : ℕ) (cs : List Code) → AllCarry cs → CodeCarries P (subscripts_code line cs)
  subscripts_carry line [] all level w n go k st = k st
  subscripts_carry line (c ∷ cs) all level w n go k st =
      all.0 level w n _ (λ s. h.an_order op.Keep tt _ _ n _ _ (subscripts_carry line cs all.1 level (w + 1) n go k _)) st

  pub element_carries : (at : Placed) (line : ℕ) (cs : List Code) → AllCarry cs → CodeCarries P (element_code at line cs)
  element_carries at line cs all level w n go k st =
      array_carries at line n _ (λ s. h.an_order op.Keep tt (0 * 2 ^ 24 + w) line n _ _
      (subscripts_carry line cs all level (w + 1) n _ (λ s2. h.an_order op.Index tt (length cs * 2 ^ 24 + w) line n _ _ (k _)) _)) st

  -- an evaluation has its room before it and its need behind it
  pub evaluation_carries : (kind need line : ℕ) (body : Code) → CodeCarries P body → Carries P (evaluation kind need line body)
  evaluation_carries kind need line body pb n go k st =
      h.a_room _ _ n _ _ (pb 0 call_header (roomed n) _ (λ s1. h.a_need _ _ n _ _ (k _)) _)

  pub words_carry : (words : List ℕ) (line : ℕ) → Carries P (data_words words line)
  words_carry [] line n go k st = k st
  words_carry (v ∷ vs) line n go k st = h.a_word _ _ n _ _ (words_carry vs line n go k _)

  pub jumped_carries : (line : ℕ) (piece : (start : ℕ) → State → Following → List Symbol) → ((start : ℕ) → Carries P (piece start)) → (n : Ahead) (go : (start : ℕ) → Following) → ((start : ℕ) (s : State) → P n s (go start s)) → (st : State) → P n st (jumped_over line st piece go)
  jumped_carries line piece pp n go k st =
      let n1 = more n (one (first_label + st.labels)) in
      h.a_new n _ _ (h.a_use _ _ n1 _ _ (h.a_new n1 _ _ (h.a_place _ _ n1 _ _ (pp _ n1 _ (λ s4. h.a_place _ _ n _ _ (k _ _)) _))))

  pub by_name_carries : (kind need line : ℕ) (body : Code) → CodeCarries P body → (v : ℕ) → Carries P (by_name kind need line body v)
  by_name_carries kind need line body pb v n go k st =
      jumped_carries line (λ start s. evaluation kind need line body s) (λ start. evaluation_carries kind need line body pb) n _
      (λ start s. h.a_use (number_of op.Short * 2 ^ 32 + 0 * 2 ^ 24 + start) line n _ _ (h.an_order op.Keep tt (0 * 2 ^ 24 + v) line n _ _
      (h.an_order op.Base tt (0 * 2 ^ 24 + 0) line n _ _ (h.an_order op.Keep tt (0 * 2 ^ 24 + (v + 1)) line n _ _ (k _))))) st

  pub string_carries : (bytes : List ℕ) (line : ℕ) → Carries P (string_code bytes line)
  string_carries bytes line n go k st =
      jumped_carries line (λ start s. data_words (string_words bytes) line s) (λ start. words_carry (string_words bytes) line) n _
      (λ start s. h.a_use (number_of op.Short * 2 ^ 32 + 0 * 2 ^ 24 + start) line n _ _ (k _)) st
