-- Used identifiers: what each comes to with the symbol behind it.
use Rattle.std.specs.Prelude.{ℕ, Bool, true, false, not, List, ◌∷◌}
use Rattle.gier_symbol.specs.declared.symbol.Symbol.{Symbol}
use Rattle.gier_symbol.specs.declared.tag.Tag.TheVariants.{Called}
use Rattle.gier_symbol.specs.ByTag.{sym}
use Rattle.gier_tree.specs.Described.{Described}
use Rattle.gier_tree.specs.Written.{expected_kinds, is_called_alone}
use Rattle.gier_kinds.specs.AllowedUses.{alone_type, element_type, left_type, is_controllable, is_statement}
use Rattle.gier_kinds.specs.ExprFaults.{CallPlace, InExpression, AsStatement, may_be_called, wanted_of}
use Rattle.gier_kinds.specs.Faults.{TypeFault, WrongUse, falls}
use Rattle.gier_kinds.specs.Types.{ExprType, OfLabel, Unknown, is_known}
use Rattle.gier_text6.specs.PassState.{Context, AtStatement, AtVariable, Use, Held, AUse, AnElement, Open, Parenthesis}
use Rattle.gier_text6.specs.PassState.{Brackets, Calls, LeftPart, World, Found, Core, core, raises, writes}
use Rattle.gier_text6.specs.Entering.{use_described, open_at}

-- a use that isn't allowed falls on the identifier
abbrev pub unless_allowed : (allowed : Bool) → List TypeFault
unless_allowed allowed = falls (not allowed) WrongUse

abbrev pub faulty_use : Use → (allowed : Bool) → Found → Found
faulty_use u allowed F = raises u.position u.line (unless_allowed allowed) F

-- an identifier alone may be a call
abbrev pub calls_if : Bool → (line : ℕ) → Found → Found
calls_if true line F = writes (sym Called 0 line) F
calls_if false line F = F

abbrev pub statement_alone : Use → World → List Open → ExprType → Found → Core
statement_alone u W st v F =
    core W st v (writes (sym Called 0 u.line) (faulty_use u (is_statement u.kind u.count) F))

abbrev pub operand_alone : Use → World → List Open → ExprType → Found → Core
operand_alone u W st v F =
    core W st (alone_type u.kind u.count)
    (calls_if (is_called_alone u.kind u.count) u.line (faulty_use u (is_known (alone_type u.kind u.count)) F))

abbrev pub use_alone : Context → Use → World → List Open → ExprType → Found → Core
use_alone AtStatement u W st v F = statement_alone u W st v F
use_alone context u W st v F = operand_alone u W st v F

-- what is held ends as an identifier alone or as an operand
abbrev pub settle : Held → Core → Core
settle (AUse u) c = use_alone u.context u c.world c.stack c.value c.found
settle held c = c

-- a `:=` behind a controlled variable, an identifier or an element
abbrev pub left_part : Use → ExprType → (position line : ℕ) → Core → Core
left_part u t n l c = core c.world (LeftPart t n l ∷ c.stack) c.value (faulty_use u (is_known t) c.found)

abbrev pub use_becomes : Context → Use → (position line : ℕ) → Core → Core
use_becomes AtVariable u n l c = core c.world c.stack c.value (faulty_use u (is_controllable u.kind) c.found)
use_becomes context u n l c = left_part u (left_type u.kind (open_at u.number c.world.numbered)) n l c

abbrev pub element_becomes : ExprType → (at_position at_line position line : ℕ) → Core → Core
element_becomes OfLabel q i n l c =
    core c.world (LeftPart Unknown n l ∷ c.stack) c.value (raises q i (unless_allowed false) c.found)
element_becomes t q i n l c = core c.world (LeftPart t n l ∷ c.stack) c.value c.found

abbrev pub becomes : Held → (position line : ℕ) → Core → Core
becomes (AUse u) n l c = use_becomes u.context u n l c
becomes (AnElement t q i) n l c = element_becomes t q i n l c
becomes held n l c = c

abbrev pub written : Symbol → Core → Core
written s c = core c.world c.stack c.value (writes s c.found)

-- a `[` or `(` behind an identifier begins a list, and isn't written
abbrev pub left_bracket : Held → Symbol → (position : ℕ) → Core → Core
left_bracket (AUse u) s n c =
    core c.world (Brackets u 0 n s.line true ∷ c.stack) c.value (faulty_use u (is_known (element_type u.kind)) c.found)
left_bracket held s n c = written s c

abbrev pub call_place : Context → CallPlace
call_place AtStatement = AsStatement
call_place context = InExpression

abbrev pub call_begins : CallPlace → Described → (at_position at_line position line : ℕ) → Core → Core
call_begins place d q i n l c =
    core c.world (Calls d (wanted_of place d) (expected_kinds d) 0 n l true ∷ c.stack) c.value
    (raises q i (unless_allowed (may_be_called place d)) c.found)

abbrev pub left_parenthesis : Held → Symbol → (position : ℕ) → Core → Core
left_parenthesis (AUse u) s n c = call_begins (call_place u.context) (use_described c.world u) u.position u.line n s.line c
left_parenthesis held s n c = core c.world (Parenthesis ∷ c.stack) c.value (writes s c.found)
