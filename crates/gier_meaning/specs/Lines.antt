-- The line of an expression's first symbol.
use Rattle.std.specs.Prelude.{ℕ}
use Rattle.gier_meaning.specs.Tree.{Expr, Number, Logical, Alone, Subscripted, Called, Bracketed, Prefixed, Joined, IfExpr}
use Rattle.gier_meaning.specs.Tree.{Quoted, Element, Once, StepUntil, While}

abbrev pub line_of : Expr → ℕ
line_of (Number value line) = line
line_of (Logical value line) = line
line_of (Alone name line) = line
line_of (Subscripted name line subscripts) = line
line_of (Called name line actuals) = line
line_of (Bracketed line e) = line
line_of (Prefixed op line e) = line
line_of (Joined a op line b) = line_of a
line_of (IfExpr line test a b) = line
line_of (Quoted bytes line) = line

-- of an element of a for list
abbrev pub element_line : Element → ℕ
element_line (Once e) = line_of e
element_line (StepUntil a b c) = line_of a
element_line (While e test) = line_of e
