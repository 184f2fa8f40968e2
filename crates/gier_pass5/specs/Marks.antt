-- Which constructs are scopes.
use Rattle.std.specs.Prelude.{Bool, true, false}
use Rattle.gier_tree.specs.declared.construct.Construct.{Construct}
use Rattle.gier_tree.specs.declared.construct.Construct.TheVariants.{Program, Block, ProcedureDeclaration, ControlledStatement}

abbrev pub has_scope : Construct → Bool
has_scope Program = true
has_scope Block = true
has_scope ProcedureDeclaration = true
has_scope ControlledStatement = true
has_scope construct = false
