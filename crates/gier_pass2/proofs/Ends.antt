-- The end is never held back, and never given twice.
use Rattle.std.proofs.Common.{◌≡◌, ◌+◌, ◌∙◌, ℕ, List, [], ◌∷◌, ◌++◌, arith, refl, Bool, true, false}
use Rattle.std.specs.Prelude.{if◌then◌else◌}
use Rattle.std.proofs.lemmas.Bool.Decides.{nat_tests}
use Rattle.gier_symbol.specs.declared.symbol.Symbol.{Symbol}
use Rattle.gier_pass2.specs.Lexemes.{begins}
use Rattle.gier_symbol.specs.declared.tag.Tag.TheVariants.{Letter, Digit, Colon as ColonTag, LeftParenthesis, RightParenthesis}
use Rattle.gier_pass2.specs.declared.commas.PendingComma.{PendingComma}
use Rattle.gier_pass2.specs.declared.commas.PendingComma.TheVariants.{Nothing, Shut, Name, Colon}
use Rattle.gier_pass2.specs.Letters.{is_end, end_in, ends, ends_with}
use Rattle.gier_pass2.specs.Invariant.{Closes}
use Rattle.gier_pass2.specs.ParameterComma.{symbols_of, given_by, given_behind, waits_after, is_kind, anew}
use Rattle.gier_pass2.proofs.InvariantSteps.{ends_append, with_append}

-- a sign of another kind is no end
shut_inner : (s : Symbol) → is_kind RightParenthesis s ≡ true → is_end s ≡ false
shut_inner s h = grind (arith, nat_tests)

open_inner : (s : Symbol) → is_kind LeftParenthesis s ≡ true → is_end s ≡ false
open_inner s h = grind (arith, nat_tests)

colon_inner : (s : Symbol) → is_kind ColonTag s ≡ true → is_end s ≡ false
colon_inner s h = grind (arith, nat_tests)

-- what is given and what waits then have the end of the symbol
unless : (test : Bool) (s : Symbol) → ends (if test then [] else s ∷ []) + ends (symbols_of (if test then Shut s else Nothing)) ≡ end_in (is_end s)
unless true s = omega arith
unless false s = omega arith

passed_ends : (waiting : PendingComma) (s : Symbol) → ends (symbols_of waiting) ≡ 0 → ends (given_behind waiting s) + ends (symbols_of (anew s)) ≡ end_in (is_end s)
passed_ends waiting s none = omega (arith, none, unless (is_kind RightParenthesis s) s, ends_append (symbols_of waiting) (if is_kind RightParenthesis s then [] else s ∷ []))

choice : (test : Bool) (xs ys : List Symbol) (v w : PendingComma) (n : ℕ) → (test ≡ true → ends xs + ends (symbols_of v) ≡ n) → ends ys + ends (symbols_of w) ≡ n → ends (if test then xs else ys) + ends (symbols_of (if test then v else w)) ≡ n
choice true xs ys v w n h k = h refl
choice false xs ys v w n h k = k

pub given_ends : (waiting : PendingComma) (s : Symbol) (plain : Bool) → ends (symbols_of waiting) ≡ 0 → ends (given_by waiting s plain) + ends (symbols_of (waits_after waiting s plain)) ≡ end_in (is_end s)
given_ends Nothing s plain none = passed_ends Nothing s none
given_ends (Shut shut) s plain none = choice plain [] (given_behind (Shut shut) s) (Name shut s) (anew s) (end_in (is_end s)) (λ is. omega (arith, none)) (passed_ends (Shut shut) s none)
given_ends (Name shut name) s plain none = choice (is_kind ColonTag s) [] (given_behind (Name shut name) s) (Colon shut name s) (anew s) (end_in (is_end s)) (λ is. omega (arith, none)) (passed_ends (Name shut name) s none)
given_ends (Colon shut name colon) s plain none = choice (is_kind LeftParenthesis s) _ (given_behind (Colon shut name colon) s) Nothing (anew s) (end_in (is_end s)) (λ is. rw (open_inner s is) refl) (passed_ends (Colon shut name colon) s none)

-- the same of lists that hold what is given behind what was
pub fed_ends : (waiting : PendingComma) (s : Symbol) (plain : Bool) (old new : List Symbol) (waits : PendingComma) → ends (symbols_of waiting) ≡ 0 → ends old ≡ 0 → new ≡ old ++ given_by waiting s plain → waits ≡ waits_after waiting s plain → ends new + ends (symbols_of waits) ≡ end_in (is_end s)
fed_ends waiting s plain old new waits none empty given is = rw (given, is) (omega (arith, empty, ends_append old (given_by waiting s plain), given_ends waiting s plain none))

end_shut : (s : Symbol) → is_end s ≡ true → is_kind RightParenthesis s ≡ false
end_shut s h = grind (arith, nat_tests)

end_open : (s : Symbol) → is_end s ≡ true → is_kind LeftParenthesis s ≡ false
end_open s h = grind (arith, nat_tests)

end_colon : (s : Symbol) → is_end s ≡ true → is_kind ColonTag s ≡ false
end_colon s h = grind (arith, nat_tests)

-- nothing waits behind the end
pub after_end : (waiting : PendingComma) (s : Symbol) → is_end s ≡ true → waits_after waiting s false ≡ Nothing
after_end Nothing s h = rw (end_shut s h) refl
after_end (Shut shut) s h = rw (end_shut s h) refl
after_end (Name shut name) s h = rw (end_colon s h, end_shut s h) refl
after_end (Colon shut name colon) s h = rw (end_open s h, end_shut s h) refl

-- the end is given last
pub end_given : (waiting : PendingComma) (s : Symbol) → is_end s ≡ true → given_by waiting s false ≡ symbols_of waiting ++ s ∷ []
end_given Nothing s h = rw (end_shut s h) refl
end_given (Shut shut) s h = rw (end_shut s h) refl
end_given (Name shut name) s h = rw (end_colon s h, end_shut s h) refl
end_given (Colon shut name colon) s h = rw (end_open s h, end_shut s h) refl

pub end_closes : (waiting : PendingComma) (s : Symbol) (old new : List Symbol) → new ≡ old ++ given_by waiting s false → is_end s ≡ true → Closes new
end_closes waiting s old new given h = λ before.
    rw (given, end_given waiting s h) (with_append before old (symbols_of waiting ++ s ∷ []) ∙ with_append (ends_with before old) (symbols_of waiting) (s ∷ []) ∙ h)

waits_none : (test : Bool) (waiting : PendingComma) (s : Symbol) (new : List Symbol) (waits : PendingComma) → is_end s ≡ test → ends new + ends (symbols_of waits) ≡ end_in test → waits ≡ waits_after waiting s false → ends (symbols_of waits) ≡ 0
waits_none true waiting s new waits h sum is = rw (is, after_end waiting s h) refl
waits_none false waiting s new waits h sum is = omega (arith, sum)

pub no_end_waits : (waiting : PendingComma) (s : Symbol) (new : List Symbol) (waits : PendingComma) → ends new + ends (symbols_of waits) ≡ end_in (is_end s) → waits ≡ waits_after waiting s false → ends (symbols_of waits) ≡ 0
no_end_waits waiting s new waits sum is = waits_none (is_end s) waiting s new waits refl sum is

pub end_begins : (s : Symbol) → is_end s ≡ true → begins s ≡ 0
end_begins s h = let a : is_kind Letter s ≡ false = grind (arith, nat_tests) in let b : is_kind Digit s ≡ false = grind (arith, nat_tests) in rw (a, b) refl
