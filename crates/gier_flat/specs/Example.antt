-- Programs for which the law's premises hold: a label, a conditional statement with a go to it, and what is printed,
-- a string of two words too; and blocks, one within the other, with a go to out of the inner one and an own variable.
use Rattle.std.specs.Prelude.{ℕ, [], ◌∷◌}
use Rattle.gier_tree.specs.SpellExamples.{at}
use Rattle.gier_tree.specs.Trees.{Add, LessThan, OneSimple, OneImplication, OneDisjunction, OneConjunction, OneNegation}
use Rattle.gier_tree.specs.Trees.{OneRelation, OneArithmetic, Compared, OneTerm, Summed, OneFactor, OnePrimary, Numeral}
use Rattle.gier_tree.specs.Trees.{Byte, AString, OneCall, Alone, WithActuals, OneExpr, NoActuals, only, MkCompound, NoStatements}
use Rattle.gier_tree.specs.Trees.{MoreStatements, OneUnconditional, OneConditional, MkUnconditional, Jump, CallStatement}
use Rattle.gier_tree.specs.Trees.{IfThen, IfElse, OneName, Assign, OneGroup, MkBlock, DeclareType, MkNames, IntegerType}
use Rattle.gier_tree.specs.Trees.{BooleanType, DeclareOwn, NoDeclarations, MoreDeclarations, Primary, Relation, Term, Expr}
use Rattle.gier_tree.specs.Trees.{Statement, Program, MkProgram}

-- 1 + 2, and 2 < 1
abbrev pub sum : Expr
sum = OneSimple (OneImplication (OneDisjunction (OneConjunction (OneNegation (OneRelation (OneArithmetic
    (Summed (OneTerm (OneFactor (OnePrimary (Numeral 1 2)))) Add 2 (OneFactor (OnePrimary (Numeral 2 2))))))))))

abbrev pub test : Expr
test = OneSimple (OneImplication (OneDisjunction (OneConjunction (OneNegation (OneRelation
    (Compared (OneTerm (OneFactor (OnePrimary (Numeral 2 3)))) LessThan 3 (OneTerm (OneFactor (OnePrimary (Numeral 1 3))))))))))

-- again: outinteger(1 + 2)
abbrev pub printing : Statement
printing =
    OneUnconditional (MkUnconditional (record { name = at 8 2; colon = 2 } ∷ [])
    (CallStatement (WithActuals (at 0 2) 2 (OneExpr sum) NoActuals 2)))

-- _if 2 < 1 _then _goto again _else outcr
abbrev pub choosing : Statement
choosing =
    OneConditional (IfElse [] 3 test 3 (MkUnconditional [] (Jump 3 (only (OneCall (Alone (at 8 3)))))) 4
    (OneUnconditional (MkUnconditional [] (CallStatement (Alone (at 2 4))))))

-- outtext(`hello!')
abbrev pub byte : (value : ℕ) → Byte
byte value = record { value = value; line = 5 }

abbrev pub greeting : Statement
greeting =
    OneUnconditional (MkUnconditional [] (CallStatement (WithActuals (at 1 5) 5
    (AString 5 (byte 104 ∷ byte 101 ∷ byte 108 ∷ byte 108 ∷ byte 111 ∷ byte 33 ∷ []) 5) NoActuals 5)))

abbrev pub example : Program
example = MkProgram [] (MkCompound 1 printing (MoreStatements 2 choosing (MoreStatements 4 greeting NoStatements)) 5) 5

abbrev pub variable : (number line : ℕ) → Primary
variable number line = OneCall (Alone (at number line))

abbrev pub term : Primary → Term
term q = OneFactor (OnePrimary q)

abbrev pub relation : Relation → Expr
relation r = OneSimple (OneImplication (OneDisjunction (OneConjunction (OneNegation (OneRelation r)))))

-- i := 1, b := i < 3, i := i + 1, n := n + 1
abbrev pub assign : (number line : ℕ) → Expr → Statement
assign number line e =
    OneUnconditional (MkUnconditional [] (Assign (record { left = OneName (at number line); becomes = line }) [] e))

abbrev pub beginning : Statement
beginning = assign 9 2 (only (Numeral 1 2))

abbrev pub asking : Statement
asking = assign 10 4 (relation (Compared (OneTerm (term (variable 9 4))) LessThan 4 (OneTerm (term (Numeral 3 4)))))

abbrev pub counting : Statement
counting = assign 9 5 (relation (OneArithmetic (Summed (OneTerm (term (variable 9 5))) Add 5 (term (Numeral 1 5)))))

abbrev pub keeping : Statement
keeping = assign 12 4 (relation (OneArithmetic (Summed (OneTerm (term (variable 12 4))) Add 4 (term (Numeral 1 4)))))

-- _goto again
abbrev pub going : Statement
going = OneUnconditional (MkUnconditional [] (Jump 5 (only (variable 8 5))))

-- _if b _then _begin i := i + 1; _goto again _end
abbrev pub deciding : Statement
deciding =
    OneConditional (IfThen [] 5 (only (variable 10 5)) 5 (MkUnconditional [] (OneGroup (MkCompound 5 counting
    (MoreStatements 5 going NoStatements) 5))))

-- outinteger(i)
abbrev pub telling : Statement
telling =
    OneUnconditional (MkUnconditional [] (CallStatement (WithActuals (at 0 6) 6 (OneExpr (only (variable 9 6))) NoActuals 6)))

-- again: _begin _Boolean b, c; _own _integer n; b := i < 3; n := n + 1; .. _end
abbrev pub inner_block : Statement
inner_block =
    OneUnconditional (MkUnconditional (record { name = at 8 3; colon = 3 } ∷ []) (OneGroup (MkBlock 3
    (DeclareType (record { type = BooleanType; line = 3 }) (MkNames (at 10 3) (record { comma = 3; name = at 11 3 } ∷ []))) 3
    (MoreDeclarations (DeclareOwn 3 (record { type = IntegerType; line = 3 }) (MkNames (at 12 3) [])) 3 NoDeclarations) asking
    (MoreStatements 4 keeping (MoreStatements 4 deciding (MoreStatements 5 telling NoStatements))) 6)))

-- _begin _integer i; i := 1; again: .. _end
abbrev pub nested : Program
nested =
    MkProgram [] (MkBlock 1 (DeclareType (record { type = IntegerType; line = 1 }) (MkNames (at 9 1) [])) 1 NoDeclarations
    beginning (MoreStatements 2 inner_block NoStatements) 6) 6
