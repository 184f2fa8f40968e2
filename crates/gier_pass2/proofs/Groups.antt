-- What is written of one more piece, and what waits then.
use Rattle.std.proofs.Common.{◌≡◌, ℕ, ◌∙◌, List, [], ◌∷◌, ◌++◌, refl, sym, ap, Bool, true, false, arith}
use Rattle.std.specs.Prelude.{◌&&◌, if◌then◌else◌}
use Rattle.std.specs.List.{list_all}
use Rattle.std.proofs.lemmas.Bool.Decides.{nat_tests}
use Rattle.std.proofs.lemmas.List.{append-nil, append_assoc}
use Rattle.gier_symbol.specs.declared.symbol.Symbol.{Symbol}
use Rattle.gier_symbol.specs.declared.tag.Tag.TheVariants.{Identifier, Number, RightParenthesis, LeftParenthesis, Colon as ColonTag}
use Rattle.gier_symbol.specs.Assembly.{Lexeme, AName, ANumber, ASymbol, Piece, is, is_group, begins_group, with_commas}
use Rattle.gier_symbol.specs.Bytes.{is_letter}
use Rattle.gier_pass2.specs.declared.commas.PendingComma.{PendingComma}
use Rattle.gier_pass2.specs.declared.commas.PendingComma.TheVariants.{Nothing, Shut, Name, Colon}
use Rattle.gier_pass2.specs.Grouping.{IsHeld, IsGrouped, IsAs, symbol_piece, name_piece}
use Rattle.gier_pass2.specs.ParameterComma.{symbols_of, given_by, given_behind, waits_after, anew, is_kind, comma_at}

-- the four parts of a group
shuts : Lexeme → Bool
shuts (AName name line) = false
shuts (ANumber value line) = false
shuts (ASymbol s) = is RightParenthesis s

plain_in : Lexeme → Bool
plain_in (AName name line) = list_all is_letter name
plain_in (ANumber value line) = false
plain_in (ASymbol s) = false

colon_in : Lexeme → Bool
colon_in (AName name line) = false
colon_in (ANumber value line) = false
colon_in (ASymbol s) = is ColonTag s

opens : Lexeme → Bool
opens (AName name line) = false
opens (ANumber value line) = false
opens (ASymbol s) = is LeftParenthesis s

and_false : (a : Bool) → (a && false) ≡ false
and_false true = refl
and_false false = refl

group_by : (a b c d : Lexeme) → is_group a b c d ≡ (shuts a && plain_in b && colon_in c && opens d)
unfolding shuts plain_in colon_in opens
group_by (AName name line) b c d = refl
group_by (ANumber value line) b c d = refl
group_by (ASymbol s) (AName name line) (ASymbol t) (ASymbol u) = refl
group_by (ASymbol s) (AName name line) (ASymbol t) (AName n l) = sym
    (and_false (is RightParenthesis s && list_all is_letter name && is ColonTag t))
group_by (ASymbol s) (AName name line) (ASymbol t) (ANumber n l) = sym
    (and_false (is RightParenthesis s && list_all is_letter name && is ColonTag t))
group_by (ASymbol s) (AName name line) (AName n l) d = rw (and_false (is RightParenthesis s && list_all is_letter name)) refl
group_by (ASymbol s) (AName name line) (ANumber n l) d = rw (and_false (is RightParenthesis s && list_all is_letter name)) refl
group_by (ASymbol s) (ANumber value line) c d = rw (and_false (is RightParenthesis s)) refl
group_by (ASymbol s) (ASymbol t) c d = rw (and_false (is RightParenthesis s)) refl

-- no group begins where a part is missing
no_first : (p : Piece) (rest : List Piece) → shuts p.run ≡ false → begins_group p rest ≡ false
no_first p [] h = refl
no_first p (b ∷ []) h = refl
no_first p (b ∷ c ∷ []) h = refl
no_first p (b ∷ c ∷ d ∷ rest) h = group_by p.run b.run c.run d.run ∙ rw h refl

no_second : (p b : Piece) (rest : List Piece) → plain_in b.run ≡ false → begins_group p (b ∷ rest) ≡ false
no_second p b [] h = refl
no_second p b (c ∷ []) h = refl
no_second p b (c ∷ d ∷ rest) h = group_by p.run b.run c.run d.run ∙ rw (h, and_false (shuts p.run)) refl

no_third : (p b c : Piece) (rest : List Piece) → colon_in c.run ≡ false → begins_group p (b ∷ c ∷ rest) ≡ false
no_third p b c [] h = refl
no_third p b c (d ∷ rest) h = group_by p.run b.run c.run d.run ∙ rw (h, and_false (shuts p.run && plain_in b.run)) refl

no_fourth : (p b c d : Piece) (rest : List Piece) → opens d.run ≡ false → begins_group p (b ∷ c ∷ d ∷ rest) ≡ false
no_fourth p b c d rest h = group_by p.run b.run c.run d.run ∙ rw (h, and_false (shuts p.run && plain_in b.run && colon_in c.run)) refl

given_alone : (p : Piece) (rest : List Piece) → begins_group p rest ≡ false → with_commas (p ∷ rest) 0 ≡ p.symbol ∷ with_commas rest 0
given_alone p rest h = rw h refl

-- what the symbol of a run tells of it
as_shut : (r : Lexeme) (s : Symbol) (plain : Bool) → IsAs r s plain → shuts r ≡ is RightParenthesis s
unfolding shuts
as_shut (AName name line) s plain h = rw h.0 refl
as_shut (ANumber value line) s plain h = rw h.0 refl
as_shut (ASymbol t) s plain h = rw h.0 refl

as_plain : (r : Lexeme) (s : Symbol) (plain : Bool) → IsAs r s plain → plain_in r ≡ plain
unfolding plain_in
as_plain (AName name line) s plain h = h.1
as_plain (ANumber value line) s plain h = sym h.1
as_plain (ASymbol t) s plain h = sym h.1

as_colon : (r : Lexeme) (s : Symbol) (plain : Bool) → IsAs r s plain → colon_in r ≡ is ColonTag s
unfolding colon_in
as_colon (AName name line) s plain h = rw h.0 refl
as_colon (ANumber value line) s plain h = rw h.0 refl
as_colon (ASymbol t) s plain h = rw h.0 refl

as_open : (r : Lexeme) (s : Symbol) (plain : Bool) → IsAs r s plain → opens r ≡ is LeftParenthesis s
unfolding opens
as_open (AName name line) s plain h = rw h.0 refl
as_open (ANumber value line) s plain h = rw h.0 refl
as_open (ASymbol t) s plain h = rw h.0 refl

no_word : (s : Symbol) (P : Type 0) → is Identifier s ≡ false → is Identifier s ≡ true → P
no_word s P h k = cc

no_number : (s : Symbol) (P : Type 0) → is Number s ≡ false → is Number s ≡ true → P
no_number s P h k = cc

only_symbol : (r : Lexeme) (s : Symbol) (plain : Bool) → IsAs r s plain → is Identifier s ≡ false → is Number s ≡ false → r ≡ ASymbol s
only_symbol (AName name line) s plain h k m = no_word s _ k (rw h.0 refl)
only_symbol (ANumber value line) s plain h k m = no_number s _ m (rw h.0 refl)
only_symbol (ASymbol t) s plain h k m = ap ASymbol h.0

shut_symbol : (r : Lexeme) (s : Symbol) (plain : Bool) → IsAs r s plain → is RightParenthesis s ≡ true → r ≡ ASymbol s
shut_symbol r s plain h k = only_symbol r s plain h (grind (arith, nat_tests)) (grind (arith, nat_tests))

colon_symbol : (r : Lexeme) (s : Symbol) (plain : Bool) → IsAs r s plain → is ColonTag s ≡ true → r ≡ ASymbol s
colon_symbol r s plain h k = only_symbol r s plain h (grind (arith, nat_tests)) (grind (arith, nat_tests))

open_symbol : (r : Lexeme) (s : Symbol) (plain : Bool) → IsAs r s plain → is LeftParenthesis s ≡ true → r ≡ ASymbol s
open_symbol r s plain h k = only_symbol r s plain h (grind (arith, nat_tests)) (grind (arith, nat_tests))

colon_no_shut : (s : Symbol) → is ColonTag s ≡ true → is RightParenthesis s ≡ false
colon_no_shut s h = grind (arith, nat_tests)

piece_is : (p : Piece) (r : Lexeme) (s : Symbol) → p.run ≡ r → p.symbol ≡ s → p ≡ record { run = r; symbol = s }
piece_is p r s h k = rw (sym h, sym k) refl

-- a name of letters only
as_name : (r : Lexeme) (s : Symbol) → IsAs r s true → (letters : List ℕ) × (line : ℕ) × (r ≡ AName letters line) ×
    (list_all is_letter letters ≡ true)
as_name (AName name line) s h = (name, line, refl, h.1)
as_name (ANumber value line) s h = let e : true ≡ false = h.1 in absurd cc
as_name (ASymbol t) s h = let e : true ≡ false = h.1 in absurd cc

-- behind pieces that wait one more is read: these symbols are given, and then those wait
pub record Moves (held : List Piece) (p : Piece) (given : List Symbol) (waiting : PendingComma) : Type 0 where
  pub now : List Piece
  pub waits : IsHeld waiting now
  pub gives : (rest : List Piece) → with_commas (held ++ p ∷ rest) 0 ≡ given ++ with_commas (now ++ rest) 0

anew_by : (test : Bool) (p : Piece) (s : Symbol) (plain : Bool) → IsAs p.run s plain → p.symbol ≡ s → is RightParenthesis s ≡ test
    → Moves [] p (if test then [] else s ∷ []) (if test then Shut s else Nothing)
anew_by true p s plain h k test = record {
  now = symbol_piece s ∷ [];
  waits = (refl, test);
  gives = λ rest. rw (piece_is p (ASymbol s) s (shut_symbol p.run s plain h test) k) refl;
}
anew_by false p s plain h k test = record {
  now = [];
  waits = refl;
  gives = λ rest. given_alone p rest (no_first p rest (as_shut p.run s plain h ∙ test)) ∙ rw k refl;
}

anew_moves : (p : Piece) (s : Symbol) (plain : Bool) → IsAs p.run s plain → p.symbol ≡ s
    → Moves [] p (if is_kind RightParenthesis s then [] else s ∷ []) (anew s)
anew_moves p s plain h k = anew_by (is RightParenthesis s) p s plain h k refl

-- what waited is given, and the piece comes anew
released : (held : List Piece) (p : Piece) (front back : List Symbol) (waiting : PendingComma)
    → ((rest : List Piece) → with_commas (held ++ p ∷ rest) 0 ≡ front ++ with_commas (p ∷ rest) 0) → Moves [] p back waiting
    → Moves held p (front ++ back) waiting
released held p front back waiting given moves = record {
  now = moves.now;
  waits = moves.waits;
  gives = λ rest. given rest ∙ rw (append_assoc front back (with_commas (moves.now ++ rest) 0))
      (ap (λ (l : List Symbol). front ++ l) (moves.gives rest));
}

moves_by : (test : Bool) (held : List Piece) (p : Piece) (some none : List Symbol) (v w : PendingComma) (kind : Bool) → kind ≡ test
    → (kind ≡ true → Moves held p some v) → (kind ≡ false → Moves held p none w)
    → Moves held p (if kind then some else none) (if kind then v else w)
moves_by true held p some none v w kind is h k = rw is (h is)
moves_by false held p some none v w kind is h k = rw is (k is)

shut_moves : (shut : Symbol) (p : Piece) (s : Symbol) (plain : Bool) → IsAs p.run s plain → p.symbol ≡ s → is RightParenthesis shut ≡ true
    → Moves (symbol_piece shut ∷ []) p (given_by (Shut shut) s plain) (waits_after (Shut shut) s plain)
shut_moves shut p s true h k first =
    let found = as_name p.run s h in
    record {
      now = symbol_piece shut ∷ p ∷ [];
      waits = (
        found.0,
        found.1,
        ap (λ (q : Piece). symbol_piece shut ∷ q ∷ [])
            (piece_is p (AName found.0 found.1) s found.2 k),
        first,
        found.3,
      );
      gives = λ rest. refl;
    }
shut_moves shut p s false h k first =
    released (symbol_piece shut ∷ []) p (shut ∷ []) _ _
    (λ rest. given_alone (symbol_piece shut) (p ∷ rest) (no_second (symbol_piece shut) p rest (as_plain p.run s false h)))
    (anew_moves p s false h k)

name_moves : (shut name : Symbol) (letters : List ℕ) (line : ℕ) (p : Piece) (s : Symbol) (plain : Bool) → IsAs p.run s plain
    → p.symbol ≡ s → is RightParenthesis shut ≡ true → list_all is_letter letters ≡ true
    → Moves (symbol_piece shut ∷ name_piece letters line name ∷ []) p (given_by (Name shut name) s plain)
    (waits_after (Name shut name) s plain)
unfolding shuts
name_moves shut name letters line p s plain h k first second =
    let held = symbol_piece shut ∷ name_piece letters line name ∷ [] in
    moves_by (is ColonTag s) held p [] (given_behind (Name shut name) s) (Colon shut name s) (anew s) (is ColonTag s) refl
    (λ third. record {
      now = symbol_piece shut ∷ name_piece letters line name ∷ p ∷ [];
      waits = (
        letters,
        line,
        ap (λ (q : Piece). symbol_piece shut ∷ name_piece letters line name ∷ q ∷ [])
            (piece_is p (ASymbol s) s (colon_symbol p.run s plain h third) k),
        first,
        second,
        third,
      );
      gives = λ rest. refl;
    })
    (λ other. released held p (shut ∷ name ∷ []) _ _
    (λ rest. given_alone (symbol_piece shut) (name_piece letters line name ∷ p ∷ rest)
    (no_third (symbol_piece shut) (name_piece letters line name) p rest (as_colon p.run s plain h ∙ other))
    ∙ ap (λ (l : List Symbol). shut ∷ l) (given_alone (name_piece letters line name) (p ∷ rest)
    (no_first (name_piece letters line name) (p ∷ rest) refl)))
    (anew_moves p s plain h k))

group_all : (shut name colon s : Symbol) (letters : List ℕ) (line : ℕ) (rest : List Piece) → is RightParenthesis shut ≡ true
    → list_all is_letter letters ≡ true → is ColonTag colon ≡ true → is LeftParenthesis s ≡ true
    → with_commas (symbol_piece shut ∷ name_piece letters line name ∷ symbol_piece colon ∷ symbol_piece s ∷ rest) 0 ≡ comma_at shut.line ∷
    with_commas rest 0
group_all shut name colon s letters line rest first second third fourth = rw (first, second, third, fourth) refl

colon_moves : (shut name colon : Symbol) (letters : List ℕ) (line : ℕ) (p : Piece) (s : Symbol) (plain : Bool) → IsAs p.run s plain
    → p.symbol ≡ s → is RightParenthesis shut ≡ true → list_all is_letter letters ≡ true → is ColonTag colon ≡ true
    → Moves (symbol_piece shut ∷ name_piece letters line name ∷ symbol_piece colon ∷ []) p (given_by (Colon shut name colon) s plain)
    (waits_after (Colon shut name colon) s plain)
unfolding shuts
colon_moves shut name colon letters line p s plain h k first second third =
    let held = symbol_piece shut ∷ name_piece letters line name ∷ symbol_piece colon ∷ [] in
    let named = name_piece letters line name in
    moves_by (is LeftParenthesis s) held p (comma_at shut.line ∷ []) (given_behind (Colon shut name colon) s) Nothing (anew s)
    (is LeftParenthesis s) refl
    (λ fourth. record {
      now = [];
      waits = refl;
      gives = λ rest. ap (λ (q : Piece). with_commas (symbol_piece shut ∷ named ∷ symbol_piece colon ∷ q ∷ rest) 0)
          (piece_is p (ASymbol s) s (open_symbol p.run s plain h fourth) k) ∙
          (group_all shut name colon s letters line rest first second third fourth);
    })
    (λ other. released held p (shut ∷ name ∷ colon ∷ []) _ _
    (λ rest. given_alone (symbol_piece shut) (named ∷ symbol_piece colon ∷ p ∷ rest)
    (no_fourth (symbol_piece shut) named (symbol_piece colon) p rest (as_open p.run s plain h ∙ other))
    ∙ ap (λ (l : List Symbol). shut ∷ l) (given_alone named (symbol_piece colon ∷ p ∷ rest)
    (no_first named (symbol_piece colon ∷ p ∷ rest) refl)
    ∙ ap (λ (l : List Symbol). name ∷ l) (given_alone (symbol_piece colon) (p ∷ rest)
    (no_first (symbol_piece colon) (p ∷ rest) (colon_no_shut colon third)))))
    (anew_moves p s plain h k))

all_moves : (waiting : PendingComma) (held : List Piece) (p : Piece) (s : Symbol) (plain : Bool) → IsHeld waiting held → IsAs p.run s plain
    → p.symbol ≡ s → Moves held p (given_by waiting s plain) (waits_after waiting s plain)
all_moves Nothing held p s plain w h k = rw w (anew_moves p s plain h k)
all_moves (Shut shut) held p s plain w h k = rw w.0 (shut_moves shut p s plain h k w.1)
all_moves (Name shut name) held p s plain w h k = rw w.2 (name_moves shut name w.0 w.1 p s plain h k w.3 w.4)
all_moves (Colon shut name colon) held p s plain w h k = rw w.2 (colon_moves shut name colon w.0 w.1 p s plain h k w.3 w.4 w.5)

-- one more piece
pub grouped_more : (waiting waits : PendingComma) (done : List Piece) (written given : List Symbol) (p : Piece) (s : Symbol) (plain : Bool)
    → IsGrouped waiting done written → IsAs p.run s plain → p.symbol ≡ s → waits ≡ waits_after waiting s plain
    → given ≡ given_by waiting s plain → IsGrouped waits (done ++ p ∷ []) (written ++ given)
grouped_more waiting waits done written given p s plain h kind is w g =
    let moves = all_moves waiting h.held p s plain h.waits kind is in
    rw (w, g) (record {
      held = moves.now;
      waits = moves.waits;
      gives = λ rest. rw (
        append_assoc done (p ∷ []) rest,
        append_assoc written (given_by waiting s plain)
            (with_commas (moves.now ++ rest) 0),
      ) (h.gives (p ∷ rest) ∙ ap (λ (l : List Symbol). written ++ l) (moves.gives rest));
    })

held_alone : (waiting : PendingComma) (held : List Piece) → IsHeld waiting held → with_commas held 0 ≡ symbols_of waiting
held_alone Nothing held w = rw w refl
held_alone (Shut shut) held w = rw w.0 refl
held_alone (Name shut name) held w = rw w.2 refl
held_alone (Colon shut name colon) held w = rw w.2 refl

-- what waits at the end is given
pub grouped_whole : (waiting : PendingComma) (done : List Piece) (written : List Symbol) → IsGrouped waiting done written
    → with_commas done 0 ≡ written ++ symbols_of waiting
grouped_whole waiting done written h =
    ap (λ (l : List Piece). with_commas l 0) (sym (append-nil done)) ∙ h.gives []
    ∙ ap (λ (l : List Piece). written ++ with_commas l 0) (append-nil h.held) ∙ ap (λ (l : List Symbol). written ++ l)
    (held_alone waiting h.held h.waits)

pub grouped_none : IsGrouped Nothing [] []
grouped_none = record { held = []; waits = refl; gives = λ rest. refl }
