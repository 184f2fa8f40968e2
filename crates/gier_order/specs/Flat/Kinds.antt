-- The packed kinds of formals and actuals, as AGREE and BYVAL look at them: ten to a word.
use Rattle.std.specs.Prelude.{◌+◌, ◌/◌, ◌==◌, ◌&&◌, ◌||◌, ℕ, zero, suc, Bool, true, false, nat_lt, nat_le, if◌then◌else◌, List}
use Rattle.std.specs.Prelude.{[], ◌∷◌, Option, None, Some}
use Rattle.std.specs.List.{slice_get}
use Rattle.gier_agree.specs.declared.kind.Kind.{Kind}
use Rattle.gier_agree.specs.declared.kind.Kind.TheVariants.{IntegerByValue, BooleanByValue, Integer, Boolean, Label, IntegerArray}
use Rattle.gier_agree.specs.declared.kind.Kind.TheVariants.{BooleanArray, Switch, String, Procedure, IntegerProcedure}
use Rattle.gier_agree.specs.declared.kind.Kind.TheVariants.{BooleanProcedure}
use Rattle.gier_agree.specs.Kinds.{number_of, wanted_by}
use Rattle.gier_agree.specs.Packed.{kind_in}
use Rattle.gier_order.specs.declared.order.Order.{Order}
use Rattle.gier_order.specs.Table.{row_of}
use Rattle.gier_order.specs.declared.operation.Operation.{Operation}
use Rattle.gier_order.specs.declared.operation.Operation.TheVariants.{Proc, Kinds}

-- kinds in a word
abbrev pub group : ℕ
group = 10

-- how many words so many kinds fill
abbrev pub groups_for : ℕ → ℕ
groups_for count = (count + 9) / group

-- an order with this operation
abbrev pub is_a : Operation → Order → Bool
is_a operation order = order.op == (row_of operation).number

-- what stands at the address of a procedure that is handed over
pub data Handed : Type 0 where
  Bare : Handed
  Kinded : (formals : ℕ) → Handed
  Neither : Handed

-- PROC, or KINDS with 1 to 80 formals
abbrev pub formals_handed : Order → Handed
formals_handed order =
    if is_a Proc order then Bare
    else (if is_a Kinds order && (nat_le 1 order.level && nat_le order.level 80) then Kinded order.level else Neither)

-- whether so many formals are those that are handed over
abbrev pub has_formals : ℕ → Handed → Bool
has_formals count Bare = false
has_formals count (Kinded n) = n == count
has_formals count Neither = false

-- the field at a place is a kind from `first` on, where it is one of the first `left`, and else 0
abbrev pub is_field : (first left word at : ℕ) → Bool
is_field first left word at =
    if nat_lt at left then nat_le first (kind_in word at) && nat_le (kind_in word at) 12 else kind_in word at == 0

abbrev pub are_fields : (first left word n : ℕ) → Bool
are_fields first left word zero = true
are_fields first left word (suc n) = are_fields first left word n && is_field first left word n

-- all fields of a word that has the first `left` kinds of a list
abbrev pub is_packed : (first left word : ℕ) → Bool
is_packed first left word = are_fields first left word group

abbrev pub kinds : List Kind
kinds = IntegerByValue ∷ BooleanByValue ∷ Integer ∷ Boolean ∷ Label ∷ IntegerArray ∷ BooleanArray ∷ Switch ∷ String ∷ Procedure
    ∷ IntegerProcedure ∷ BooleanProcedure ∷ []

-- the kind with a number
abbrev pub kind_of : ℕ → Option Kind
kind_of zero = None
kind_of (suc n) = slice_get kinds n

abbrev pub takes : Option Kind → ℕ → Bool
takes None actual = false
takes (Some kind) actual = number_of (wanted_by kind) == actual

-- an actual fits a formal, or there are none
abbrev pub is_pair : (formal actual : ℕ) → Bool
is_pair formal actual = takes (kind_of formal) actual || ((formal == 0) && (actual == 0))

abbrev pub are_pairs : (formals actuals n : ℕ) → Bool
are_pairs formals actuals zero = true
are_pairs formals actuals (suc n) = are_pairs formals actuals n && is_pair (kind_in formals n) (kind_in actuals n)

-- all pairs of two words
abbrev pub all_fit : (formals actuals : ℕ) → Bool
all_fit formals actuals = are_pairs formals actuals group
