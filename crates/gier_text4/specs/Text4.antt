-- What the pure pass writes of a program: its text 4.
use Rattle.std.specs.Prelude.{◌≡◌, ◌==◌, Bool, true, nat_lt, if◌then◌else◌}
use Rattle.std.specs.List.{All}
use Rattle.gier_symbol.specs.declared.symbol.Symbol.{Symbol}
use Rattle.gier_symbol.specs.declared.tag.Tag.TheVariants.{Identifier, Declaring}
use Rattle.gier_symbol.specs.Tags.{number_of}
use Rattle.gier_tree.specs.Hoist.{first_fresh}
use Rattle.gier_tree.specs.TextExamples.{text_sums, text_labels, text_arrays, text_calls, text_own}
use Rattle.gier_tree.specs.TextsOf.{text3, text4}
use Rattle.gier_tree.specs.Trees.{Program}
use Rattle.gier_text4.specs.PurePass.{pass4_text}

-- over text 3 of a program it writes text 4 of the program
abbrev pub WritesText4Of : Program → Type 0
WritesText4Of program = pass4_text (text3 program) ≡ text4 program

-- the number of an identifier that is used or declared is below the fresh ones
abbrev pub is_small_name : Symbol → Bool
is_small_name s = if s.tag == number_of Identifier then nat_lt s.value first_fresh
    else (if s.tag == number_of Declaring then nat_lt s.value first_fresh else true)

abbrev pub WritesText4 : Type 0
WritesText4 = (program : Program) → All (λ s. is_small_name s ≡ true) (text3 program) → WritesText4Of program

-- so of some programs
pub record AreWritten : Type 0 where
  pub sums : WritesText4Of text_sums
  pub labels : WritesText4Of text_labels
  pub arrays : WritesText4Of text_arrays
  pub calls : WritesText4Of text_calls
  pub own : WritesText4Of text_own
