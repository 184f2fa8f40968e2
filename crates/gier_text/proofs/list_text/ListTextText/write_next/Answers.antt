use Rattle.std.proofs.Common.{◌≡◌, arith, List, [], ◌∷◌, ◌++◌, Bool, true, false, cond, All}
use Rattle.std.proofs.lemmas.List.Elements.{All-append}
use Rattle.gier_symbol.specs.declared.symbol.Symbol.{Symbol}
use Rattle.gier_symbol.specs.Symbols.{IsSymbol}
use Rattle.gier_text.proofs.list_text.ListTextText.write_next.Goals as goal

one : (s : Symbol) → IsSymbol s → All (λ (x : Symbol). IsSymbol x) (s ∷ [])
one s known = λ k d below. let none_before : k ≡ 0 = omega arith in rw none_before known

pushed : (b : Bool) (xs : List Symbol) (s : Symbol) → IsSymbol s → All (λ (x : Symbol). IsSymbol x) xs → All (λ (x : Symbol). IsSymbol x) (cond b (xs ++ s ∷ []) xs)
pushed true xs s known h = All-append (λ (x : Symbol). IsSymbol x) xs (s ∷ []) h (one s known)
pushed false xs s known h = h

pub invariant_of-self-clause-symbols : goal.invariant_of-self-clause-symbols
invariant_of-self-clause-symbols c = rw c.push.ensures.items (pushed _ c.args.self.now.list.items c.args.s c.requires.symbol c.args.self.now.symbols)
