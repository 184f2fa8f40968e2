-- Reading and skipping pass over bytes that are taken already and stand on one line.
use Rattle.std.proofs.Common.{◌≡◌, ◌+◌, ◌++◌, ◌∙◌, ℕ, suc, Bool, true, false, List, [], ◌∷◌, length, drop, eqb, refl, ap, arith}
use Rattle.std.specs.Prelude.{◌&&◌}
use Rattle.std.specs.List.{list_all}
use Rattle.std.proofs.lemmas.Bool.Decides.{nat_tests}
use Rattle.gier_symbol.specs.declared.word.Spelling.{Spelling}
use Rattle.gier_symbol.specs.declared.word.Spelling.TheVariants.{Plain, Quoted}
use Rattle.gier_symbol.specs.Reading.{read, line_behind}
use Rattle.gier_symbol.specs.Spans.{skipped_length}
use Rattle.gier_symbol.specs.Words.{is_name_letter, word_byte}

-- none of these bytes ends a line
abbrev pub InLine : List ℕ → Type 0
InLine [] = Unit {0}
InLine (byte ∷ bytes) = (eqb byte 10 ≡ false) × InLine bytes

pub in_line_push : (bytes : List ℕ) (byte : ℕ) → InLine bytes → eqb byte 10 ≡ false → InLine (bytes ++ byte ∷ [])
in_line_push [] byte h k = (k, tt)
in_line_push (b ∷ bytes) byte h k = (h.0, in_line_push bytes byte h.1 k)

pub and_both : (a b : Bool) → (a && b) ≡ true → (a ≡ true) × (b ≡ true)
and_both true b h = (refl, h)
and_both false b h = cc

pub letter_in_line : (spelling : Spelling) (byte : ℕ) → is_name_letter spelling byte ≡ true → eqb byte 10 ≡ false
letter_in_line Plain byte h = grind (arith, nat_tests)
letter_in_line Quoted byte h = grind (arith, nat_tests)

pub letters_in_line : (spelling : Spelling) (letters : List ℕ) → list_all (is_name_letter spelling) letters ≡ true → InLine letters
letters_in_line spelling [] h = tt
letters_in_line spelling (byte ∷ letters) h =
    let both = and_both (is_name_letter spelling byte) (list_all (is_name_letter spelling) letters) h in
    (letter_in_line spelling byte both.0, letters_in_line spelling letters both.1)

pub read_over : (spelling : Spelling) (bytes rest : List ℕ) (n : ℕ) (fresh : Bool) (line : ℕ) → InLine bytes
    → read spelling (bytes ++ rest) (length bytes + n) fresh line ≡ read spelling rest n fresh line
read_over spelling [] rest n fresh line h = let e : 0 + n ≡ n = omega arith in ap (λ (k : ℕ). read spelling rest k fresh line) e
read_over spelling (byte ∷ bytes) rest n fresh line h =
    let e : suc (length bytes) + n ≡ suc (length bytes + n) = omega arith in
    let same : line_behind byte line ≡ line = rw h.0 refl in
    ap (λ (k : ℕ). read spelling (byte ∷ bytes ++ rest) k fresh line) e
    ∙ ap (λ (l : ℕ). read spelling (bytes ++ rest) (length bytes + n) fresh l) same
    ∙ read_over spelling bytes rest n fresh line h.1

pub read_all_of : (spelling : Spelling) (bytes rest : List ℕ) (fresh : Bool) (line : ℕ) → InLine bytes
    → read spelling (bytes ++ rest) (length bytes) fresh line ≡ read spelling rest 0 fresh line
read_all_of spelling bytes rest fresh line h =
    let e : length bytes ≡ length bytes + 0 = omega arith in
    ap (λ (k : ℕ). read spelling (bytes ++ rest) k fresh line) e ∙ read_over spelling bytes rest 0 fresh line h

pub skipped_over : (spelling : Spelling) (bytes rest : List ℕ)
    → skipped_length spelling (bytes ++ rest) (length bytes) ≡ length bytes + skipped_length spelling rest 0
skipped_over spelling [] rest = let e : (n : ℕ) → n ≡ 0 + n = λ n. omega arith in e (skipped_length spelling rest 0)
skipped_over spelling (byte ∷ bytes) rest =
    let e : suc (length bytes + skipped_length spelling rest 0) ≡ suc (length bytes) + skipped_length spelling rest 0 = omega arith in
    ap suc (skipped_over spelling bytes rest) ∙ e

pub dropped : (bytes rest : List ℕ) → drop (length bytes) (bytes ++ rest) ≡ rest
dropped [] rest = refl
dropped (byte ∷ bytes) rest = dropped bytes rest

pub word_line : (spelling : Spelling) (line : ℕ) → line_behind (word_byte spelling) line ≡ line
word_line Plain line = refl
word_line Quoted line = refl
