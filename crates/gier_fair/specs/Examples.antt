-- A small fair program, and programs that aren't fair: each has one thing wrong.
use Rattle.std.specs.Prelude.{[], ◌∷◌}
use Rattle.gier_tree.specs.SpellExamples.{at}
use Rattle.gier_tree.specs.Trees.{Add, LessThan, OneSimple, OneImplication, OneDisjunction, OneConjunction, OneNegation}
use Rattle.gier_tree.specs.Trees.{OneRelation, OneArithmetic, Compared, OneTerm, Summed, OneFactor, OnePrimary, Numeral}
use Rattle.gier_tree.specs.Trees.{OneCall, Alone, WithActuals, OneExpr, NoActuals, only, MkCompound, NoStatements}
use Rattle.gier_tree.specs.Trees.{MoreStatements, OneUnconditional, OneConditional, MkUnconditional, Jump, CallStatement}
use Rattle.gier_tree.specs.Trees.{IfElse, Expr, Statement, Program, MkProgram}
use Rattle.gier_fair.specs.Fair.{IsFair}

-- 1 + 2, and 2 < 1
abbrev pub sum : Expr
sum = OneSimple (OneImplication (OneDisjunction (OneConjunction (OneNegation (OneRelation (OneArithmetic
    (Summed (OneTerm (OneFactor (OnePrimary (Numeral 1 2)))) Add 2 (OneFactor (OnePrimary (Numeral 2 2))))))))))

abbrev pub test : Expr
test = OneSimple (OneImplication (OneDisjunction (OneConjunction (OneNegation (OneRelation
    (Compared (OneTerm (OneFactor (OnePrimary (Numeral 2 3)))) LessThan 3 (OneTerm (OneFactor (OnePrimary (Numeral 1 3))))))))))

-- again: outinteger(1 + 2)
abbrev pub printing : Statement
printing =
    OneUnconditional (MkUnconditional (record { name = at 8 2; colon = 2 } ∷ [])
    (CallStatement (WithActuals (at 0 2) 2 (OneExpr sum) NoActuals 2)))

-- _goto, to what is an expression of its own
abbrev pub jumping : Expr → Statement
jumping e = OneUnconditional (MkUnconditional [] (Jump 3 e))

-- _if 2 < 1 _then _goto again _else outcr
abbrev pub choosing : Statement
choosing =
    OneConditional (IfElse [] 3 test 3 (MkUnconditional [] (Jump 3 (only (OneCall (Alone (at 8 3)))))) 4
    (OneUnconditional (MkUnconditional [] (CallStatement (Alone (at 2 4))))))

-- a label and another statement
abbrev pub with : Statement → Program
with s = MkProgram [] (MkCompound 1 printing (MoreStatements 2 s NoStatements) 5) 5

pub record AreExamples : Type 0 where
  pub fair : IsFair (with choosing)
  -- a go to a number, a go to an identifier that isn't declared, and a label twice
  pub number : IsFair (with (jumping sum)) → ⊥
  pub undeclared : IsFair (with (jumping (only (OneCall (Alone (at 9 3)))))) → ⊥
  pub twice : IsFair (with printing) → ⊥
