-- The lines of the words of programs, and the places of these words in text 7, as an independent model gives them.
use Rattle.std.specs.Prelude.{◌≡◌, ◌++◌, ℕ, List, [], ◌∷◌, Option, Some, codes}
use Rattle.std.specs.Option.{option_map}
use Rattle.gier_symbol.specs.Assembly.{assembly}
use Rattle.gier_symbol.specs.Reading.{symbols_of}
use Rattle.gier_tree.specs.Structure.{program_spelled}
use Rattle.gier_tree.specs.Text7.{text7}
use Rattle.gier_tree.specs.WordLines.{word_lines, line_at, place_at}

abbrev pub assigning : List ℕ
assigning = codes "_begin\n_procedure p(x); _integer x;\n  x := 1;\np(2+3)\n_end"

abbrev pub jumping : List ℕ
jumping =
    codes "_begin _integer i;\nagain:\n  _if i < 2 _then\n  _begin i := i + 1;\n    _goto again _end\n" ++ codes "_end"

abbrev pub counting : List ℕ
counting = codes "_begin\n_procedure p;\n_begin _own _integer c;\nc := c + 1 _end;\np _end"

-- the lines of all words of a program's object
abbrev pub lines_of : (program : List ℕ) → Option (List ℕ)
lines_of program = option_map (λ t. word_lines (text7 t)) (program_spelled (assembly (symbols_of program).symbols).symbols)

-- the line of one word, and how many symbols stand before it
abbrev pub word_of : (program : List ℕ) → (address : ℕ) → Option (ℕ × ℕ)
word_of program address = option_map (λ t. (line_at (text7 t) address, place_at (text7 t) address))
    (program_spelled (assembly (symbols_of program).symbols).symbols)

pub record AreLines : Type 0 where
  pub assigned : lines_of assigning ≡ Some (1 ∷ 1 ∷ 2 ∷ 2 ∷ 2 ∷ 3 ∷ 3 ∷ 3 ∷ 3 ∷ 2 ∷ 4 ∷ 4 ∷ 4 ∷ 4 ∷ 4 ∷ 4 ∷ 4 ∷ 4 ∷ 4 ∷ 4 ∷ 4 ∷ 4 ∷ 4 ∷ 1
      ∷ 1 ∷ [])
  pub jumped : lines_of jumping ≡ Some (1 ∷ 1 ∷ 3 ∷ 3 ∷ 3 ∷ 3 ∷ 3 ∷ 4 ∷ 4 ∷ 4 ∷ 4 ∷ 4 ∷ 4 ∷ 4 ∷ 5 ∷ 5 ∷ 1 ∷ 1 ∷ [])
  pub counted : lines_of counting ≡ Some (1 ∷ 1 ∷ 1 ∷ 2 ∷ 2 ∷ 2 ∷ 3 ∷ 4 ∷ 4 ∷ 4 ∷ 4 ∷ 4 ∷ 4 ∷ 4 ∷ 3 ∷ 2 ∷ 5 ∷ 5 ∷ 1 ∷ 1 ∷ 1 ∷ [])
  pub start : word_of assigning 0 ≡ Some (1, 0)
  pub entry : word_of assigning 10 ≡ Some (4, 13)
  pub value : word_of assigning 17 ≡ Some (4, 23)
  pub target : word_of jumping 15 ≡ Some (5, 16)
  pub behind : word_of counting 16 ≡ Some (5, 20)
