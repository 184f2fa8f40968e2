-- Assembling gives no more symbols than there were, and a new number at most for each of them.
use Rattle.std.proofs.Common.{◌≡◌, ◌≤◌, ◌<◌, ◌+◌, ℕ, zero, suc, List, [], ◌∷◌, length, refl, ap, arith, Bool, true, false, Option, None, Some}
use Rattle.std.specs.Prelude.{All, ⊤, take_while}
use Rattle.std.specs.Str.{bytes_eq}
use Rattle.std.proofs.lemmas.List.{length-append}
use Rattle.std.proofs.lemmas.List.Elements.{All-cons, All-head, All-nil, All-tail}
use Rattle.std.proofs.lemmas.List.Quantifiers.{position-Some}
use Rattle.gier_symbol.specs.declared.symbol.Symbol.{Symbol}
use Rattle.gier_symbol.specs.declared.tag.Tag.TheVariants.{Letter, Digit}
use Rattle.gier_symbol.specs.Assembly.{Lexeme, AName, ANumber, ASymbol, Piece, runs, run_at, is, is_letter_or_digit, pieces, place_of, number_by, known_by, with_commas, comma_at, begins_group, standard_names}
use Rattle.gier_symbol.specs.Reading.{symbols_of}
use Rattle.gier_sizes.specs.Symbols.{AssembledSymbolsAreFew, NumbersAreSmall, IsNumberedBelow, most_names}
use Rattle.gier_sizes.proofs.ReadSymbols.{IsUnnumbered, read_few, read_unnumbered}

-- runs are no more than symbols
few_at : (letter digit : Bool) (s : Symbol) (rest : List Symbol) (go_on : ℕ → List Lexeme) (n : ℕ) → ((k : ℕ) → length (go_on k) ≤ n)
    → length (run_at letter digit s rest go_on) ≤ suc n
few_at true digit s rest go_on n h = omega (arith, h (length (take_while is_letter_or_digit rest)))
few_at false true s rest go_on n h = omega (arith, h (length (take_while (is Digit) rest)))
few_at false false s rest go_on n h = omega (arith, h 0)

few_runs : (symbols : List Symbol) (taken : ℕ) → length (runs symbols taken) ≤ length symbols
few_runs [] taken = omega arith
few_runs (s ∷ rest) (suc taken) = omega (arith, few_runs rest taken)
few_runs (s ∷ rest) zero = few_at (is Letter s) (is Digit s) s rest (runs rest) (length rest) (few_runs rest)

-- what isn't assembled has no number
abbrev IsPlain : Lexeme → Type 0
IsPlain (AName name line) = ⊤
IsPlain (ANumber value line) = ⊤
IsPlain (ASymbol s) = IsUnnumbered s

plain_at : (letter digit : Bool) (s : Symbol) (rest : List Symbol) (go_on : ℕ → List Lexeme) → IsUnnumbered s
    → ((k : ℕ) → All IsPlain (go_on k)) → All IsPlain (run_at letter digit s rest go_on)
plain_at true digit s rest go_on u h = All-cons IsPlain _ (go_on _) tt (h _)
plain_at false true s rest go_on u h = All-cons IsPlain _ (go_on _) tt (h _)
plain_at false false s rest go_on u h = All-cons IsPlain (ASymbol s) (go_on 0) u (h 0)

plain_runs : (symbols : List Symbol) (taken : ℕ) → All IsUnnumbered symbols → All IsPlain (runs symbols taken)
plain_runs [] taken h = All-nil IsPlain
plain_runs (s ∷ rest) (suc taken) h = plain_runs rest taken (All-tail IsUnnumbered s rest h)
plain_runs (s ∷ rest) zero h = plain_at (is Letter s) (is Digit s) s rest (runs rest) (All-head IsUnnumbered s rest h)
    (λ k. plain_runs rest k (All-tail IsUnnumbered s rest h))

-- a name has a known number or the next one, and at most one more is known behind it
below_by : (place : Option ℕ) (name : List ℕ) (known : List (List ℕ)) (n bound : ℕ) → place_of name known ≡ place
    → length known + suc n ≤ bound → (number_by place known < bound) × (length (known_by place name known) + n ≤ bound)
below_by None name known n bound h fits = (omega (arith, fits), omega (arith, fits, length-append known (name ∷ [])))
below_by (Some place) name known n bound h fits =
    let found = position-Some (bytes_eq name) known place [] h in
    (omega (arith, fits, found.0), omega (arith, fits))

same_length : (r : List Lexeme) (known : List (List ℕ)) → length (pieces r known) ≡ length r
same_length [] known = refl
same_length (AName name line ∷ rest) known = ap suc (same_length rest (known_by (place_of name known) name known))
same_length (ANumber value line ∷ rest) known = ap suc (same_length rest known)
same_length (ASymbol s ∷ rest) known = ap suc (same_length rest known)

abbrev IsPieceBelow : (bound : ℕ) → Piece → Type 0
IsPieceBelow bound p = IsNumberedBelow bound p.symbol

pieces_below : (r : List Lexeme) (known : List (List ℕ)) (bound : ℕ) → length known + length r ≤ bound → All IsPlain r
    → All (IsPieceBelow bound) (pieces r known)
pieces_below [] known bound fits h = All-nil (IsPieceBelow bound)
pieces_below (AName name line ∷ rest) known bound fits h =
    let place = place_of name known in
    let below = below_by place name known (length rest) bound refl fits in
    All-cons (IsPieceBelow bound) _ (pieces rest (known_by place name known)) (λ e. below.0)
    (pieces_below rest (known_by place name known) bound below.1 (All-tail IsPlain (AName name line) rest h))
pieces_below (ANumber value line ∷ rest) known bound fits h = All-cons (IsPieceBelow bound) _ (pieces rest known) (λ e. absurd (omega (arith, e)))
    (pieces_below rest known bound (omega (arith, fits)) (All-tail IsPlain (ANumber value line) rest h))
pieces_below (ASymbol s ∷ rest) known bound fits h = All-cons (IsPieceBelow bound) _ (pieces rest known)
    (λ e. omega (arith, fits, All-head IsPlain (ASymbol s) rest h e))
    (pieces_below rest known bound (omega (arith, fits)) (All-tail IsPlain (ASymbol s) rest h))

-- parameter commas take the place of more symbols
few_comma_at : (group : Bool) (s : Symbol) (n : ℕ) (go_on : ℕ → List Symbol) → ((k : ℕ) → length (go_on k) ≤ n)
    → length (comma_at group s go_on) ≤ suc n
few_comma_at true s n go_on h = omega (arith, h 3)
few_comma_at false s n go_on h = omega (arith, h 0)

few_commas : (ps : List Piece) (taken : ℕ) → length (with_commas ps taken) ≤ length ps
few_commas [] taken = omega arith
few_commas (p ∷ rest) (suc taken) = omega (arith, few_commas rest taken)
few_commas (p ∷ rest) zero = few_comma_at (begins_group p rest) p.symbol (length rest) (with_commas rest) (few_commas rest)

comma_below : (group : Bool) (s : Symbol) (bound : ℕ) (go_on : ℕ → List Symbol) → IsNumberedBelow bound s
    → ((k : ℕ) → All (IsNumberedBelow bound) (go_on k)) → All (IsNumberedBelow bound) (comma_at group s go_on)
comma_below true s bound go_on b h = All-cons (IsNumberedBelow bound) _ (go_on 3) (λ e. absurd (omega (arith, e))) (h 3)
comma_below false s bound go_on b h = All-cons (IsNumberedBelow bound) s (go_on 0) b (h 0)

commas_below : (ps : List Piece) (taken bound : ℕ) → All (IsPieceBelow bound) ps → All (IsNumberedBelow bound) (with_commas ps taken)
commas_below [] taken bound h = All-nil (IsNumberedBelow bound)
commas_below (p ∷ rest) (suc taken) bound h = commas_below rest taken bound (All-tail (IsPieceBelow bound) p rest h)
commas_below (p ∷ rest) zero bound h = comma_below (begins_group p rest) p.symbol bound (with_commas rest)
    (All-head (IsPieceBelow bound) p rest h) (λ k. commas_below rest k bound (All-tail (IsPieceBelow bound) p rest h))

runs_few : (text : List ℕ) → length (runs (symbols_of text).symbols 0) ≤ length text + 1
runs_few text = omega (arith, few_runs (symbols_of text).symbols 0, read_few text)

pub assembled_few : AssembledSymbolsAreFew
assembled_few text =
    let r = runs (symbols_of text).symbols 0 in
    omega (arith, few_commas (pieces r standard_names) 0, same_length r standard_names, runs_few text)

pub numbers_small : NumbersAreSmall
numbers_small text =
    let r = runs (symbols_of text).symbols 0 in
    commas_below (pieces r standard_names) 0 (most_names text)
    (pieces_below r standard_names (most_names text) (omega (arith, runs_few text))
    (plain_runs (symbols_of text).symbols 0 (read_unnumbered text)))
