-- What holds where a symbol has no fault, and which types then are equal.
use Rattle.std.proofs.Common.{◌≡◌, ◌≢◌, ◌≤◌, ℕ, suc, Bool, true, false, List, [], ◌∷◌, refl, subst, arith}
use Rattle.std.specs.Prelude.{◌==◌, ◌&&◌, not}
use Rattle.std.proofs.lemmas.Bool.{eqb-false}
use Rattle.gier_kinds.specs.ExprFaults.{too_long, operand_fault, operands_fault}
use Rattle.gier_kinds.specs.Faults.{TypeFault, ListTooLong, WrongOperand, falls, on_symbol}
use Rattle.gier_kinds.specs.Types.{ExprType, OfInteger, OfBoolean, OfLabel, Unknown, agree, either_type, is_known}

pub silent : (line : ℕ) (kinds : List TypeFault) → on_symbol line kinds ≡ [] → kinds ≡ []
silent line [] e = refl
silent line (kind ∷ kinds) e = cc

pub not_fallen : (c : Bool) (kind : TypeFault) → falls c kind ≡ [] → c ≡ false
not_fallen false kind e = refl
not_fallen true kind e = cc

pub holds : (c : Bool) (kind : TypeFault) → falls (not c) kind ≡ [] → c ≡ true
holds true kind e = refl
holds false kind e = cc

pub holds_on : (c : Bool) (kind : TypeFault) (line : ℕ) → on_symbol line (falls (not c) kind) ≡ [] → c ≡ true
holds_on c kind line e = holds c kind (silent line (falls (not c) kind) e)

pub both : (a b : Bool) → (a && b) ≡ true → (a ≡ true) × (b ≡ true)
both true b e = (refl, e)
both false b e = cc

pub one_type : (a b : ExprType) → is_known a ≡ true → is_known b ≡ true → agree a b ≡ true → (b ≡ a) × (either_type a b ≡ a)
one_type OfInteger OfInteger k h e = (refl, refl)
one_type OfBoolean OfBoolean k h e = (refl, refl)
one_type OfLabel OfLabel k h e = (refl, refl)
one_type OfInteger OfBoolean k h e = cc
one_type OfInteger OfLabel k h e = cc
one_type OfBoolean OfInteger k h e = cc
one_type OfBoolean OfLabel k h e = cc
one_type OfLabel OfInteger k h e = cc
one_type OfLabel OfBoolean k h e = cc
one_type Unknown b k h e = cc
one_type OfInteger Unknown k h e = cc
one_type OfBoolean Unknown k h e = cc
one_type OfLabel Unknown k h e = cc

-- of a type that is fair and known
abbrev pub Typed : (ExprType → Type 0) → ExprType → Type 0
Typed Fair t = Fair t × (is_known t ≡ true)

module _ (taken : ExprType) (known : is_known taken ≡ true) (line : ℕ) where
  pub takes : (Fair : ExprType → Type 0) (t : ExprType) → agree taken t ≡ true → Typed Fair t → Fair taken
  takes Fair t e h = subst Fair (one_type taken t known h.1 e).0 h.0

  pub one_operand : (Fair : ExprType → Type 0) (t : ExprType) → operand_fault taken t line ≡ [] → Typed Fair t → Fair taken
  one_operand Fair t e h = takes Fair t (holds_on (agree taken t) WrongOperand line e) h

  pub two_operands : (Fair More : ExprType → Type 0) (t u : ExprType) → operands_fault taken t u line ≡ [] → Typed Fair t → Typed More u
      → Fair taken × More taken
  two_operands Fair More t u e h k =
      let a = both (agree taken t) (agree taken u) (holds_on (agree taken t && agree taken u) WrongOperand line e) in
      (takes Fair t a.0 h, takes More u a.1 k)

-- a list that isn't too long here may have one more
pub one_more : (most before : ℕ) → before ≤ most → too_long most before ≡ [] → suc before ≤ most
one_more most before le e =
    let other : before ≢ most = eqb-false before most (not_fallen (before == most) ListTooLong e) in
    omega (arith, le, other)
