-- A text of which nothing was written holds nothing, over a drum that tells its tracks.
use Rattle.std.proofs.Common.{◌≡◌, ℕ, List, [], Option, None, Some, true, refl}
use Rattle.std.specs.Prelude.{is_some}
use Rattle.gier_symbol.specs.declared.symbol.Symbol.{Symbol}
use Rattle.gier_text.specs.SymbolsOnTracks.{all_symbols, symbols_of}
use Rattle.gier_front.specs.Passes.{IsToldAs, IsNothing}

pub blank_told : (tracks : Option (List (List ℕ))) (first loaded : ℕ) (buffer : List ℕ) (count : ℕ) → count ≡ 0 → is_some tracks ≡ true → IsToldAs IsNothing (all_symbols (symbols_of tracks first loaded buffer count))
unfolding symbols_of
blank_told None first loaded buffer count none all_symbols = cc
blank_told (Some tracks) first loaded buffer count none all_symbols = rw none refl
