-- How symbols are cut into runs, one symbol after the other.
use Rattle.std.proofs.Common.{◌≡◌, ℕ, ◌∙◌, List, [], ◌∷◌, ◌++◌, length, refl, sym, ap, Bool, true, false, arith}
use Rattle.std.specs.Prelude.{take_while, map, ◌&&◌}
use Rattle.std.specs.List.{list_all}
use Rattle.std.proofs.lemmas.Bool.Decides.{nat_tests}
use Rattle.std.proofs.lemmas.List.{append-nil, append_assoc}
use Rattle.std.proofs.lemmas.List.Sums.{take_while-cons}
use Rattle.gier_symbol.specs.declared.symbol.Symbol.{Symbol}
use Rattle.gier_symbol.specs.declared.tag.Tag.TheVariants.{Letter, Digit}
use Rattle.gier_symbol.specs.Assembly.{Lexeme as RunOf, AName, ANumber, is, is_letter_or_digit, byte_of, decimal, runs, run_at}
use Rattle.gier_pass2.specs.declared.runs.Lexeme.{Lexeme}
use Rattle.gier_pass2.specs.declared.runs.Lexeme.TheVariants.{Nothing, Name, Number}
use Rattle.gier_pass2.specs.Lexemes.{goes_on}
use Rattle.gier_pass2.specs.Reading.{IsCut, IsRunOf, IsName, IsNumber, run_ended, begun_by}
use Rattle.gier_pass2.specs.Tree.{Tree}

pub and_both : (a b : Bool) → (a && b) ≡ true → (a ≡ true) × (b ≡ true)
and_both true b h = (refl, h)
and_both false b h = cc

-- no symbol, or first one that fails the test
pub Stops : (Symbol → Bool) → List Symbol → Type 0
Stops p [] = Unit {0}
Stops p (s ∷ rest) = p s ≡ false

taken_none : (p : Symbol → Bool) (ys : List Symbol) → Stops p ys → take_while p ys ≡ []
unfolding Stops
taken_none p [] stops = refl
taken_none p (y ∷ ys) stops = take_while-cons p y ys ∙ rw stops refl

pub taken_all : (p : Symbol → Bool) (xs ys : List Symbol) → list_all p xs ≡ true → Stops p ys → take_while p (xs ++ ys) ≡ xs
taken_all p [] ys h stops = taken_none p ys stops
taken_all p (x ∷ xs) ys h stops =
    let both = and_both (p x) (list_all p xs) h in
    take_while-cons p x (xs ++ ys) ∙ rw both.0 (ap (λ (l : List Symbol). x ∷ l) (taken_all p xs ys both.1 stops))

-- symbols that were taken already are left out
pub runs_skip : (xs ys : List Symbol) → runs (xs ++ ys) (length xs) ≡ runs ys 0
runs_skip [] ys = refl
runs_skip (x ∷ xs) ys = runs_skip xs ys

at_letter : (first : Symbol) (rest : List Symbol) → is Letter first ≡ true
    → runs (first ∷ rest) 0 ≡ run_at true false first rest (runs rest)
at_letter first rest h = rw h refl

name_run : (first : Symbol) (more ys : List Symbol) → is Letter first ≡ true → list_all is_letter_or_digit more ≡ true
    → Stops is_letter_or_digit ys → runs (first ∷ more ++ ys) 0 ≡ AName (map byte_of (first ∷ more)) first.line ∷ runs ys 0
name_run first more ys letter signs stops =
    at_letter first (more ++ ys) letter
    ∙ rw (taken_all is_letter_or_digit more ys signs stops)
    (ap (λ (l : List RunOf). AName (map byte_of (first ∷ more)) first.line ∷ l) (runs_skip more ys))

no_letter : (s : Symbol) → is Digit s ≡ true → is Letter s ≡ false
no_letter s h = grind (arith, nat_tests)

at_digit : (first : Symbol) (rest : List Symbol) → is Digit first ≡ true → runs (first ∷ rest) 0 ≡ run_at false true first rest (runs rest)
at_digit first rest h = rw (no_letter first h, h) refl

number_run : (first : Symbol) (more ys : List Symbol) → is Digit first ≡ true → list_all (is Digit) more ≡ true → Stops (is Digit) ys
    → runs (first ∷ more ++ ys) 0 ≡ ANumber (decimal 0 (first ∷ more)) first.line ∷ runs ys 0
number_run first more ys digit digits stops =
    at_digit first (more ++ ys) digit
    ∙ rw (taken_all (is Digit) more ys digits stops) (ap (λ (l : List RunOf). ANumber (decimal 0 (first ∷ more)) first.line ∷ l)
    (runs_skip more ys))

-- the run of some symbols alone
pub name_alone : (tree : Tree) (node line : ℕ) (plain : Bool) (pending : List Symbol) → IsName tree node line plain pending
    → runs pending 0 ≡ AName (map byte_of pending) line ∷ []
unfolding Stops
name_alone tree node line plain pending h =
    rw (h.symbols, sym h.line) (ap (λ (l : List Symbol). runs (h.first ∷ l) 0) (sym (append-nil h.more))
    ∙ name_run h.first h.more [] h.letter h.signs tt)

pub number_alone : (total line : ℕ) (pending : List Symbol) → IsNumber total line pending
    → runs pending 0 ≡ ANumber (decimal 0 pending) line ∷ []
unfolding Stops
number_alone total line pending h =
    rw (h.symbols, sym h.line) (ap (λ (l : List Symbol). runs (h.first ∷ l) 0) (sym (append-nil h.more))
    ∙ number_run h.first h.more [] h.digit h.digits tt)

name_ends : (tree : Tree) (node line : ℕ) (plain : Bool) (pending ys : List Symbol) → IsName tree node line plain pending
    → Stops is_letter_or_digit ys → runs (pending ++ ys) 0 ≡ runs pending 0 ++ runs ys 0
name_ends tree node line plain pending ys h stops =
    rw (name_alone tree node line plain pending h) (rw (h.symbols, sym h.line) (name_run h.first h.more ys h.letter h.signs stops))

number_ends : (total line : ℕ) (pending ys : List Symbol) → IsNumber total line pending → Stops (is Digit) ys
    → runs (pending ++ ys) 0 ≡ runs pending 0 ++ runs ys 0
number_ends total line pending ys h stops =
    rw (number_alone total line pending h) (rw (h.symbols, sym h.line) (number_run h.first h.more ys h.digit h.digits stops))

-- a run ends before what doesn't go on with it
pub run_ends : (tree : Tree) (current : Lexeme) (pending : List Symbol) (s : Symbol) (rest : List Symbol) → IsRunOf tree current pending
    → goes_on current s ≡ false → runs (pending ++ s ∷ rest) 0 ≡ runs pending 0 ++ runs (s ∷ rest) 0
unfolding Stops
run_ends tree Nothing pending s rest h stops = rw h refl
run_ends tree (Name node line plain) pending s rest h stops = name_ends tree node line plain pending (s ∷ rest) h stops
run_ends tree (Number value line position) pending s rest h stops = number_ends value line pending (s ∷ rest) h stops

-- what a symbol begins or ends
either : (letter digit : Bool) (s : Symbol) (rest : List Symbol) → is Letter s ≡ letter → is Digit s ≡ digit
    → runs (s ∷ rest) 0 ≡ run_ended s ++ runs (begun_by s ++ rest) 0
either true digit s rest h k = let sign : is_letter_or_digit s ≡ true = rw h refl in rw sign refl
either false true s rest h k = let sign : is_letter_or_digit s ≡ true = rw (h, k) refl in rw sign refl
either false false s rest h k = let none : is_letter_or_digit s ≡ false = rw (h, k) refl in rw none (rw (h, k) refl)

pub begun_runs : (s : Symbol) (rest : List Symbol) → runs (s ∷ rest) 0 ≡ run_ended s ++ runs (begun_by s ++ rest) 0
begun_runs s rest = either (is Letter s) (is Digit s) s rest refl refl

pub cut_none : IsCut [] [] []
cut_none = λ rest. refl

pub cut_on : (read pending : List Symbol) (done : List RunOf) (s : Symbol) → IsCut read done pending
    → IsCut (read ++ s ∷ []) done (pending ++ s ∷ [])
cut_on read pending done s cut = λ rest.
    rw (append_assoc read (s ∷ []) rest, append_assoc pending (s ∷ []) rest) (cut (s ∷ rest))

pub cut_next : (tree : Tree) (current : Lexeme) (read pending : List Symbol) (done : List RunOf) (s : Symbol) → IsRunOf tree current pending
    → goes_on current s ≡ false → IsCut read done pending → IsCut (read ++ s ∷ []) ((done ++ runs pending 0) ++ run_ended s) (begun_by s)
cut_next tree current read pending done s h stops cut = λ rest.
    rw (
      append_assoc read (s ∷ []) rest,
      append_assoc (done ++ runs pending 0) (run_ended s) (runs (begun_by s ++ rest) 0),
      append_assoc done
          (runs pending 0) (run_ended s ++ runs (begun_by s ++ rest) 0),
    )
    (cut (s ∷ rest) ∙ ap (λ (l : List RunOf). done ++ l)
    (run_ends tree current pending s rest h stops ∙ ap (λ (l : List RunOf). runs pending 0 ++ l) (begun_runs s rest)))
