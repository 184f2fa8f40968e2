-- One step of AGREE: two words with packed kinds are compared.
use Rattle.std.specs.Prelude.{ℕ, if◌then◌else◌, List}
use Rattle.gier_word.specs.declared.alarm.Alarm.TheVariants.{Parameters}
use Rattle.gier_order.specs.Flat.Row.{Regs, Alarmed, Ends, Row, plain, needs, reads}
use Rattle.gier_order.specs.Flat.Kinds.{is_packed, all_fit}

-- the kinds of formals at an address and of actuals at another one, of which so many are left, and what follows where they fit
abbrev pub match_row : (code : List ℕ) (m : Regs) (formals actuals left : ℕ) → Row → Row
match_row code m formals actuals left next =
    reads code formals (λ wanted. needs (is_packed 1 left wanted) (
    reads code actuals (λ given. needs (is_packed 3 left given) (
    if all_fit wanted given then next else plain (Ends (Alarmed Parameters) m)))))
