-- The numbers of the constructs, as marks tell them.
use Rattle.std.specs.Prelude.{ℕ}
use Rattle.gier_tree.specs.declared.construct.Construct.{Construct}
use Rattle.gier_tree.specs.declared.construct.Construct.TheVariants.{Program, Block, Compound, TypeDeclaration, ArraySegment}
use Rattle.gier_tree.specs.declared.construct.Construct.TheVariants.{SwitchDeclaration, ProcedureDeclaration, ProcedureBody}
use Rattle.gier_tree.specs.declared.construct.Construct.TheVariants.{ForStatement, ControlledStatement, ConditionalStatement}
use Rattle.gier_tree.specs.declared.construct.Construct.TheVariants.{Actual, Subscript, Bound, SwitchElement, ForElement, GoTo}
use Rattle.gier_tree.specs.declared.construct.Construct.TheVariants.{ConditionalExpression}

abbrev pub construct_number : Construct → ℕ
construct_number Program = 1
construct_number Block = 2
construct_number Compound = 3
construct_number TypeDeclaration = 4
construct_number ArraySegment = 5
construct_number SwitchDeclaration = 6
construct_number ProcedureDeclaration = 7
construct_number ProcedureBody = 8
construct_number ForStatement = 9
construct_number ControlledStatement = 10
construct_number ConditionalStatement = 11
construct_number Actual = 12
construct_number Subscript = 13
construct_number Bound = 14
construct_number SwitchElement = 15
construct_number ForElement = 16
construct_number GoTo = 17
construct_number ConditionalExpression = 18
