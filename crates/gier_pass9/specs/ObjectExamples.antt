-- The words of the objects of some texts.
use Rattle.std.specs.Prelude.{◌≡◌, ℕ, List, [], ◌∷◌}
use Rattle.gier_symbol.specs.declared.symbol.Symbol.{Symbol}
use Rattle.gier_tree.specs.CodeExamples.{code_sums_8, code_sums_object, code_loops_8, code_loops_object, code_arrays_8}
use Rattle.gier_tree.specs.CodeExamples.{code_arrays_object}
use Rattle.gier_tree.specs.CodeExamples.{code_calls_8, code_calls_object, code_formals_8, code_formals_object, code_own_8}
use Rattle.gier_tree.specs.CodeExamples.{code_own_object}
use Rattle.gier_tree.specs.Object.{text8_of}
use Rattle.gier_tree.specs.SpellExamples.{row}
use Rattle.gier_pass9.specs.ObjectOfText.{object_words}
use Rattle.gier_pass9.specs.Objects.{IsText7}

-- a text 7: START with an open room, a jump to the label before it and one to a label behind, and STOP
abbrev pub jumps_7 : List Symbol
jumps_7 = row 124 4311744515 1 ∷ row 121 8388608 1 ∷ row 122 115972505600 1 ∷ row 122 115972505601 1 ∷ row 121 8388609 1
    ∷ row 130 0 1
    ∷ row 125 4 1 ∷ row 126 4 1 ∷ []

-- the address of the label behind is known, and the mark of the other one stays
abbrev pub jumps_8 : List Symbol
jumps_8 = row 129 16777223 1 ∷ row 121 8388608 1 ∷ row 122 115972505600 1 ∷ row 155 3 1 ∷ row 130 0 1 ∷ []

abbrev pub jumps_object : List ℕ
jumps_object = 4311744519 ∷ 115964116993 ∷ 115964116995 ∷ 8589934592 ∷ []

-- the objects of this text, and of the programs whose texts 8 are given
pub record AreMade : Type 0 where
  pub jumps_fit : IsText7 16 jumps_7
  pub jumps_are : text8_of jumps_7 ≡ jumps_8
  pub jumps : object_words 16 jumps_8 ≡ jumps_object
  pub sums : object_words 1000 code_sums_8 ≡ code_sums_object
  pub loops : object_words 1000 code_loops_8 ≡ code_loops_object
  pub arrays : object_words 1000 code_arrays_8 ≡ code_arrays_object
  pub calls : object_words 1000 code_calls_8 ≡ code_calls_object
  pub formals : object_words 1000 code_formals_8 ≡ code_formals_object
  pub own : object_words 1000 code_own_8 ≡ code_own_object
