-- A number that no kind has is that of a formal.
use Rattle.std.proofs.Common.{◌≡◌, ◌≢◌, ◌&&◌, ℕ, false, arith, refl}
use Rattle.std.specs.Prelude.{nat_le}
use Rattle.std.proofs.lemmas.Bool.Decides.{nat_tests}
use Rattle.gier_tree.specs.Kinds.{kind_number}
use Rattle.gier_tree.specs.declared.kind.Kind.{Kind}
use Rattle.gier_tree.specs.declared.kind.Kind.TheVariants.{IntegerVariable, BooleanVariable, IntegerArray, BooleanArray, Label, Switch, Procedure, IntegerProcedure, BooleanProcedure, OutInteger, OutText, OutCr, OutChar, InInteger, InChar, Abs, Sign}
use Rattle.gier_pass5.specs.declared.kinds.Class.TheVariants.{Formal}
use Rattle.gier_pass5.specs.Kinds.{class_at, is_of}

isnt : (number : ℕ) (kind : Kind) → kind_number kind ≢ number → is_of number kind ≡ false
isnt number kind other = grind (arith, nat_tests, other)

isnt_standard : (number : ℕ) → ((kind : Kind) → kind_number kind ≢ number) → (nat_le 31 number && nat_le number 38) ≡ false
isnt_standard number none = grind (arith, nat_tests, none OutInteger, none OutText, none OutCr, none OutChar, none InInteger, none InChar, none Abs, none Sign)

pub formal_where_none : (number : ℕ) → ((kind : Kind) → kind_number kind ≢ number) → Formal ≡ class_at number
formal_where_none number none = rw (isnt number IntegerVariable (none IntegerVariable), isnt number BooleanVariable (none BooleanVariable), isnt number IntegerArray (none IntegerArray), isnt number BooleanArray (none BooleanArray), isnt number Label (none Label), isnt number Switch (none Switch), isnt number Procedure (none Procedure), isnt number IntegerProcedure (none IntegerProcedure), isnt number BooleanProcedure (none BooleanProcedure), isnt_standard number none) refl
