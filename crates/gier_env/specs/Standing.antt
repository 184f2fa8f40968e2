-- The standard procedures, which the outermost activation declares, in order of their identifier numbers.
use Rattle.gier_tree.specs.declared.kind.Kind.TheVariants.{OutInteger, OutText, OutCr, OutChar, InInteger, InChar, Abs, Sign}
use Rattle.gier_env.specs.Env.{Bindings, NoBindings, Means, AStandard}

abbrev pub standard_bindings : Bindings
standard_bindings =
    Means 0 (AStandard OutInteger) (Means 1 (AStandard OutText) (Means 2 (AStandard OutCr) (Means 3 (AStandard OutChar)
    (Means 4 (AStandard InInteger) (Means 5 (AStandard InChar) (Means 6 (AStandard Abs) (Means 7 (AStandard Sign) NoBindings)))))))
