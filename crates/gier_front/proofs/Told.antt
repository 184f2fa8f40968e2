-- What a pass writes over a list that is told.
use Rattle.std.proofs.Common.{◌≡◌, ◌++◌, ◌∙◌, ℕ, List, [], Option, None, Some, sym, ap, subst, refl}
use Rattle.std.specs.Prelude.{Result, Ok, Err, OnOk}
use Rattle.gier_symbol.specs.declared.symbol.Symbol.{Symbol}
use Rattle.gier_text.specs.declared.text.Way.{Way}
use Rattle.gier_text.specs.View.{View, Appends, OrdersLeft, IsLeftIn, in_way}
use Rattle.gier_front.specs.declared.stop.FrontStop.{FrontStop}
use Rattle.gier_front.specs.declared.stop.FrontStop.TheVariants.{Errors, Read, Drum, Spoilt}
use Rattle.gier_front.specs.Passes.{IsToldAs, IsNothing, IfDriven}

-- the list that is handed over is the one that was read
pub handed : (P : List Symbol → Type 0) (held : Option (List Symbol)) (way : Way) (left : Option (List Symbol)) (read : List Symbol) → IsToldAs P held → OrdersLeft held way left → IsLeftIn left read → (list : List Symbol) × P list × (read ≡ in_way way list)
handed P None way left read told orders is = absurd told
handed P (Some list) way left read told orders is = (list, told, sym (subst (λ l. IsLeftIn l read) orders is))

-- the output holds just what was written
pub written_all : (P : List Symbol → Type 0) (old new : Option (List Symbol)) (written : List Symbol) → IsToldAs IsNothing old → Appends old written new → P written → IsToldAs P new
written_all P None new written blank appends holds = absurd blank
written_all P (Some list) new written blank appends holds = subst (λ n. IsToldAs P n) (sym appends) (subst (λ (l : List Symbol). P (l ++ written)) (sym blank) holds)

pub on_ok : {T E : Type 0} (r : Result T E) (P : Type 0) → P → OnOk r P
on_ok (Ok x) P p = p
on_ok (Err e) P p = tt

pub is_told : (held : Option (List Symbol)) (list : List Symbol) → held ≡ Some list → IsToldAs (λ l. l ≡ list) held
is_told held list is = subst (IsToldAs (λ l. l ≡ list)) (sym is) refl

pub told_is : (held : Option (List Symbol)) (list : List Symbol) → IsToldAs (λ l. l ≡ list) held → held ≡ Some list
told_is None list told = absurd told
told_is (Some l) list told = ap Some told

pub if_driven : {T : Type 0} (r : Result T FrontStop) (P : Type 0) → P → IfDriven r P
if_driven (Ok x) P p = p
if_driven (Err Errors) P p = p
if_driven (Err Read) P p = tt
if_driven (Err Drum) P p = tt
if_driven (Err (Spoilt odd)) P p = tt
