-- Lists of cells that may be no symbols: what an appended cell, a reversal and a read do to the list of their symbols.
use Rattle.std.proofs.Common.{◌≡◌, List, [], ◌∷◌, ◌++◌, reverse, refl, ap, sym, ◌∙◌, Option, None, Some}
use Rattle.std.specs.Option.{option_map}
use Rattle.std.proofs.lemmas.List.{reverse-append}
use Rattle.gier_symbol.specs.declared.symbol.Symbol.{Symbol}
use Rattle.gier_text.specs.declared.text.Way.{Way}
use Rattle.gier_text.specs.declared.text.Way.TheVariants.{Forward, Backward}
use Rattle.gier_text.specs.View.{Appends, OrdersLeft, LeftFrom}
use Rattle.gier_text.specs.SymbolsOnTracks.{all_some}

-- the cells in the order of reading
abbrev pub ordered_cells : Way → List (Option Symbol) → List (Option Symbol)
ordered_cells Forward xs = xs
ordered_cells Backward xs = reverse xs

mapped_more : (o : Option (List Symbol)) (x s : Symbol) → option_map (λ (l : List Symbol). x ∷ l) (option_map (λ (l : List Symbol). l ++ s ∷ []) o) ≡ option_map (λ (l : List Symbol). l ++ s ∷ []) (option_map (λ (l : List Symbol). x ∷ l) o)
mapped_more None x s = refl
mapped_more (Some l) x s = refl

all_more : (xs : List (Option Symbol)) (s : Symbol) → all_some (xs ++ Some s ∷ []) ≡ option_map (λ (l : List Symbol). l ++ s ∷ []) (all_some xs)
all_more [] s = refl
all_more (None ∷ xs) s = refl
all_more (Some x ∷ xs) s = ap (option_map (λ (l : List Symbol). x ∷ l)) (all_more xs s) ∙ mapped_more (all_some xs) x s

appended : (o : Option (List Symbol)) (s : Symbol) → Appends o (s ∷ []) (option_map (λ (l : List Symbol). l ++ s ∷ []) o)
appended None s = tt
appended (Some l) s = refl

pub appends_cell : (xs : List (Option Symbol)) (s : Symbol) → Appends (all_some xs) (s ∷ []) (all_some (xs ++ Some s ∷ []))
appends_cell xs s = rw (all_more xs s) (appended (all_some xs) s)

all_none : (xs : List (Option Symbol)) → all_some (xs ++ None ∷ []) ≡ None
all_none [] = refl
all_none (None ∷ xs) = refl
all_none (Some x ∷ xs) = ap (option_map (λ (l : List Symbol). x ∷ l)) (all_none xs)

reversed_more : (o : Option (List Symbol)) (x : Symbol) → option_map (λ (l : List Symbol). l ++ x ∷ []) (option_map (λ (l : List Symbol). reverse l) o) ≡ option_map (λ (l : List Symbol). reverse l) (option_map (λ (l : List Symbol). x ∷ l) o)
reversed_more None x = refl
reversed_more (Some l) x = ap Some (sym (reverse-append (x ∷ []) l))

all-reverse : (xs : List (Option Symbol)) → all_some (reverse xs) ≡ option_map (λ (l : List Symbol). reverse l) (all_some xs)
all-reverse [] = refl
all-reverse (None ∷ xs) = ap (λ (l : List (Option Symbol)). all_some l) (reverse-append (None ∷ []) xs) ∙ all_none (reverse xs)
all-reverse (Some x ∷ xs) =
    ap (λ (l : List (Option Symbol)). all_some l) (reverse-append (Some x ∷ []) xs)
    ∙ all_more (reverse xs) x
    ∙ ap (option_map (λ (l : List Symbol). l ++ x ∷ [])) (all-reverse xs)
    ∙ reversed_more (all_some xs) x

orders_same : (o : Option (List Symbol)) → OrdersLeft o Forward o
orders_same None = tt
orders_same (Some l) = refl

orders_reversed : (o : Option (List Symbol)) → OrdersLeft o Backward (option_map (λ (l : List Symbol). reverse l) o)
orders_reversed None = tt
orders_reversed (Some l) = refl

pub orders_cells : (way : Way) (xs : List (Option Symbol)) → OrdersLeft (all_some xs) way (all_some (ordered_cells way xs))
orders_cells Forward xs = orders_same (all_some xs)
orders_cells Backward xs = rw (all-reverse xs) (orders_reversed (all_some xs))

left_after : (o : Option (List Symbol)) (s : Symbol) → LeftFrom (option_map (λ (l : List Symbol). s ∷ l) o) (s ∷ []) o
left_after None s = tt
left_after (Some rest) s = (rest, refl, refl)

pub reads_cell : (rest : List (Option Symbol)) (s : Symbol) → LeftFrom (all_some (Some s ∷ rest)) (s ∷ []) (all_some rest)
reads_cell rest s = left_after (all_some rest) s
