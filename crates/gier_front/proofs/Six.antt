-- Text 6 lies on the drum as it was written.
use Rattle.std.proofs.Common.{◌≡◌, ◌∙◌, ℕ, List, Option, sym, subst}
use Rattle.gier_symbol.specs.declared.symbol.Symbol.{Symbol}
use Rattle.gier_text.specs.SymbolsOnTracks.{symbols_of, all_symbols, text_on}
use Rattle.gier_text.specs.Own.{found_on}
use Rattle.gier_front.specs.Passes.{IsToldAs}

-- a text that was turned has nothing in its buffer
pub told_on : (P : List Symbol → Type 0) (tracks : Option (List (List ℕ))) (first loaded : ℕ) (buffer : List ℕ) (count place symbols : ℕ)
    (held : Option (List Symbol)) → all_symbols (symbols_of tracks first loaded buffer count) ≡ held → loaded ≡ 0 → first ≡ place → symbols ≡ count
    → IsToldAs P held → IsToldAs P (text_on tracks place symbols)
told_on P tracks first loaded buffer count place symbols held is none begins all h =
    let here : IsToldAs P (text_on tracks first count) =
    subst (λ (o : Option (List Symbol)). IsToldAs P o) (sym is ∙ found_on tracks first loaded buffer count none) h in
    subst (λ (f : ℕ). IsToldAs P (text_on tracks f symbols)) begins
    (subst (λ (n : ℕ). IsToldAs P (text_on tracks first n)) (sym all) here)
