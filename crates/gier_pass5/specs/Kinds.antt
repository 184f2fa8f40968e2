-- What the kinds in descriptions have in common.
use Rattle.std.specs.Prelude.{◌==◌, ◌||◌, ◌&&◌, ℕ, Bool, true, false, nat_le, if◌then◌else◌}
use Rattle.gier_tree.specs.Kinds.{kind_number}
use Rattle.gier_tree.specs.declared.kind.Kind.{Kind}
use Rattle.gier_tree.specs.declared.kind.Kind.TheVariants.{IntegerVariable, BooleanVariable, IntegerArray, BooleanArray, Label}
use Rattle.gier_tree.specs.declared.kind.Kind.TheVariants.{Switch, Procedure as ProcedureKind, IntegerProcedure}
use Rattle.gier_tree.specs.declared.kind.Kind.TheVariants.{BooleanProcedure, OutInteger, Sign}
use Rattle.gier_pass5.specs.declared.kinds.Class.{Class}
use Rattle.gier_pass5.specs.declared.kinds.Class.TheVariants.{Variable, Array, Numbered, Procedure, Function, Formal, Standard}

-- whether a kind has this number
abbrev pub is_of : ℕ → Kind → Bool
is_of number kind = number == kind_number kind

-- what the kind with this number is; the standard procedures stand behind each other
abbrev pub class_at : ℕ → Class
class_at number =
    if is_of number IntegerVariable || is_of number BooleanVariable then Variable
    else (if is_of number IntegerArray || is_of number BooleanArray then Array
    else (if is_of number Label || is_of number Switch then Numbered
    else (if is_of number ProcedureKind then Procedure
    else (if is_of number IntegerProcedure || is_of number BooleanProcedure then Function
    else (if nat_le (kind_number OutInteger) number && nat_le number (kind_number Sign) then Standard
    else Formal)))))

abbrev pub is_counted : Class → Bool
is_counted Variable = false
is_counted Array = true
is_counted Numbered = false
is_counted Procedure = true
is_counted Function = true
is_counted Formal = false
is_counted Standard = false
