-- The marks as symbols: which line a mark has, and what is known of constructs that were opened at the same symbol.
use Rattle.std.specs.Prelude.{Bool, true, false, Option, None, Some, ℕ, if◌then◌else◌}
use Rattle.gier_symbol.specs.declared.symbol.Symbol.{Symbol}
use Rattle.gier_symbol.specs.declared.tag.Tag.TheVariants.{OpenMark, ShutMark}
use Rattle.gier_symbol.specs.Tags.{number_of as tag_number}
use Rattle.gier_tree.specs.Constructs.{construct_number}
use Rattle.gier_grammar.specs.declared.grammar_symbol.Mark.{Mark}
use Rattle.gier_grammar.specs.declared.grammar_symbol.Mark.TheVariants.{Open, Shut}

-- a mark as a symbol
abbrev pub mark_symbol : Mark → ℕ → Symbol
mark_symbol (Open construct) line = record { tag = tag_number OpenMark; value = construct_number construct; line = line }
mark_symbol (Shut construct) line = record { tag = tag_number ShutMark; value = construct_number construct; line = line }

-- a construct begins with the symbol that is met and ends with the last one; where it was opened at this very symbol,
-- it has none, and the line of the one that follows
abbrev pub line_by : Mark → ℕ → ℕ → Bool → ℕ
line_by (Open construct) here last opened = here
line_by (Shut construct) here last opened = if opened then here else last

-- whether a construct was opened at this symbol, and not shut
abbrev pub opened_by : Option Mark → Bool → Bool
opened_by None opened = opened
opened_by (Some (Open construct)) opened = true
opened_by (Some (Shut construct)) opened = false
