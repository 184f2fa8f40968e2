-- Runs behind runs: their names, their pieces and their faults.
use Rattle.std.proofs.Common.{◌≡◌, ℕ, ◌∙◌, List, [], ◌∷◌, ◌++◌, refl, ap, Bool, true, false}
use Rattle.gier_symbol.specs.Assembly.{Lexeme, AName, ANumber, ASymbol, Piece, pieces, place_of, known_by, number_by, value_by, is_large, fault_by, number_faults}
use Rattle.gier_symbol.specs.ByTag.{sym}
use Rattle.gier_symbol.specs.Listing.{FaultAt, SymbolFault}
use Rattle.gier_symbol.specs.declared.tag.Tag.TheVariants.{Identifier, Number}
use Rattle.gier_pass2.specs.Reading.{names_after}

pub names_more : (xs ys : List Lexeme) (known : List (List ℕ)) → names_after (xs ++ ys) known ≡ names_after ys (names_after xs known)
names_more [] ys known = refl
names_more (AName name line ∷ xs) ys known = names_more xs ys (known_by (place_of name known) name known)
names_more (ANumber value line ∷ xs) ys known = names_more xs ys known
names_more (ASymbol s ∷ xs) ys known = names_more xs ys known

pub pieces_more : (xs ys : List Lexeme) (known : List (List ℕ)) → pieces (xs ++ ys) known ≡ pieces xs known ++ pieces ys (names_after xs known)
pieces_more [] ys known = refl
pieces_more (AName name line ∷ xs) ys known = ap (λ
    (l : List Piece). record { run = AName name line; symbol = sym Identifier (number_by (place_of name known) known) line } ∷ l)
    (pieces_more xs ys (known_by (place_of name known) name known))
pieces_more (ANumber value line ∷ xs) ys known = ap
    (λ (l : List Piece). record { run = ANumber value line; symbol = sym Number (value_by (is_large value) value) line } ∷ l)
    (pieces_more xs ys known)
pieces_more (ASymbol s ∷ xs) ys known = ap (λ (l : List Piece). record { run = ASymbol s; symbol = s } ∷ l) (pieces_more xs ys known)

fault_more : (large : Bool) (line : ℕ) (xs ys : List (FaultAt SymbolFault)) → fault_by large line (xs ++ ys) ≡ fault_by large line xs ++ ys
fault_more true line xs ys = refl
fault_more false line xs ys = refl

pub faults_more : (xs ys : List Lexeme) → number_faults (xs ++ ys) ≡ number_faults xs ++ number_faults ys
faults_more [] ys = refl
faults_more (AName name line ∷ xs) ys = faults_more xs ys
faults_more (ANumber value line ∷ xs) ys = ap (λ (l : List (FaultAt SymbolFault)). fault_by (is_large value) line l) (faults_more xs ys)
    ∙ fault_more (is_large value) line (number_faults xs) (number_faults ys)
faults_more (ASymbol s ∷ xs) ys = faults_more xs ys
