-- What ends: operators with their right operand, assignments with their right side, and lists with their bracket.
use Rattle.std.specs.Prelude.{◌++◌, ◌&&◌, ℕ, Bool, not, nat_le, List, [], ◌∷◌, if◌then◌else◌}
use Rattle.gier_symbol.specs.declared.symbol.Symbol.{Symbol}
use Rattle.gier_symbol.specs.declared.tag.Tag.{Tag}
use Rattle.gier_symbol.specs.declared.tag.Tag.TheVariants.{Subscripted, Called}
use Rattle.gier_symbol.specs.ByTag.{sym}
use Rattle.gier_tree.specs.Written.{operation}
use Rattle.gier_kinds.specs.Actuals.{known_formals, is_other_count}
use Rattle.gier_kinds.specs.AllowedUses.{called_type, element_type}
use Rattle.gier_kinds.specs.ExprFaults.{is_other_number, actual_fault}
use Rattle.gier_kinds.specs.Faults.{TypeFault, WrongSubscripts, WrongCount, WrongAssignment, WrongOperand, falls}
use Rattle.gier_kinds.specs.Types.{ExprType, agree}
use Rattle.gier_text6.specs.Operators.{level_of, takes_of, gives_of}
use Rattle.gier_text6.specs.PassState.{Context, AtStatement, AtLeftPart, Held, Nothing, AnElement, Open, Waits, Parenthesis}
use Rattle.gier_text6.specs.PassState.{Brackets, Calls, LeftPart, World, Found, Core, core, raises, writes}
use Rattle.gier_text6.specs.Uses.{written}

-- a right operand is a fault where the left one wasn't
abbrev pub right_fault : Tag → (left : Bool) → ExprType → List TypeFault
right_fault tag left v = falls (left && not (agree (takes_of tag) v)) WrongOperand

-- the operators that bind at least as strongly as this level end
abbrev pub finish : (level : ℕ) → World → List Open → ExprType → Found → Core
finish level W [] v F = core W [] v F
finish level W (Waits tag q l left ∷ st) v F =
    if nat_le level (level_of tag)
    then finish level W st (gives_of tag) (writes (operation tag l) (raises q l (right_fault tag left v) F))
    else core W (Waits tag q l left ∷ st) v F
finish level W (e ∷ st) v F = core W (e ∷ st) v F

abbrev pub finished : (level : ℕ) → Core → Core
finished level c = finish level c.world c.stack c.value c.found

-- a right side ends, for the innermost left part first
abbrev pub assigned : World → List Open → ExprType → Found → Core
assigned W [] v F = core W [] v F
assigned W (LeftPart t q l ∷ st) v F = assigned W st v (raises q l (falls (not (agree t v)) WrongAssignment) F)
assigned W (e ∷ st) v F = core W (e ∷ st) v F

abbrev pub ended : Core → Core
ended c = assigned c.world c.stack c.value c.found

-- an element where a left part may stand is held
abbrev pub element_held : Context → ExprType → (position line : ℕ) → Held
element_held AtStatement t q l = AnElement t q l
element_held AtLeftPart t q l = AnElement t q l
element_held context t q l = Nothing

abbrev pub held_behind : List Open → Held
held_behind (Brackets u n q l first ∷ st) = element_held u.context (element_type u.kind) u.position u.line
held_behind st = Nothing

abbrev pub right_bracket : List Open → Symbol → Core → Core
right_bracket (Brackets u n q l first ∷ st) s c =
    core c.world st (element_type u.kind) (writes (sym Subscripted n l)
    (raises q l (falls (is_other_number u.kind u.count n) WrongSubscripts ++ falls (not first) WrongSubscripts) c.found))
right_bracket st s c = written s c

abbrev pub right_parenthesis : List Open → Symbol → Core → Core
right_parenthesis (Parenthesis ∷ st) s c = core c.world st c.value (writes s c.found)
right_parenthesis (Calls d w e n q l first ∷ st) s c =
    core c.world st (called_type d.kind d.count) (writes (sym Called n l)
    (raises q l (falls (is_other_count (known_formals d) n) WrongCount ++ actual_fault first) c.found))
right_parenthesis st s c = written s c

-- between subscripts and actuals it isn't written
abbrev pub comma : List Open → Symbol → Core → Core
comma (Brackets u n q l first ∷ st) s c = c
comma (Calls d w e n q l first ∷ st) s c = c
comma st s c = written s c
