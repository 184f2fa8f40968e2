-- How what stands at each item is spelled, before the symbols that follow.
use Rattle.std.proofs.Common.{◌≡◌, ℕ, List, [], ◌∷◌, refl}
use Rattle.gier_symbol.specs.declared.symbol.Symbol.{Symbol}
use Rattle.gier_symbol.specs.declared.tag.Tag.TheVariants.{Number, StringEnd, TextEnd, Array, Procedure, Colon, Semicolon, Becomes, LeftParenthesis, RightParenthesis, LeftBracket, RightBracket, Begin, End, If, Then, Else, Own, Step, Until, While, Do}
use Rattle.gier_symbol.specs.ByTag.{sym as symbol, word}
use Rattle.gier_tree.specs.Trees.{Name, Expr, OneCall, OneElement, Alone, Actuals, Exprs, TypeWord, LabelPlace, Declarations, NoDeclarations, MoreDeclarations, Statements, Statement, OneUnconditional, OneConditional, OneLoop, MkUnconditional, IfThen, IfElse, IfLoop, MkLoop, Program, MkProgram}
use Rattle.gier_tree.specs.Spell.{ident, type_tag, spell_bytes, spell_expr, spell_simple, spell_primary, spell_actual, spell_actuals, spell_exprs, spell_next_names, spell_names, spell_type, spell_next_pairs, spell_segment, spell_next_segments, spell_constant, spell_further_pairs, spell_fixed, spell_next_fixed, spell_formals, spell_values, spell_specifier, spell_specifications, spell_labels, spell_lefts, spell_turns, spell_next_turns, spell_declaration, spell_declarations, spell_group, spell_statements, spell_statement, spell_unconditional, spell_conditional, spell_loop}
use Rattle.gier_tree.specs.Signs.{sign_tag}
use Rattle.gier_tree.specs.Wanted.{Ended, NoNot, NoSign, Part, NoPart, SomeSubscripts, SomeActuals, Right, AfterElement, ElementIsLeft, ElementIsOperand, AfterRight, NameIsLeft, NameIsOperand, NameHasSubscripts, NameHasActuals, AfterName, NameLabels, NameAssigned, ElementAssigned, NameCalled, NameAlone, MayBeElse, NoElse, AnElse, Branch, BranchLoop, BranchUnconditional, AfterBranchName, BranchLabels, BranchAssigned, BranchElement, BranchCalled, BranchAlone, MayBeStep, NoStep, AStep, AWhile, AfterType, TypeNames, TypeArrays, TypeProcedure, AfterOwnType, OwnNames, OwnArrays, MayBeWord, NoWord, ArrayWord, ProcedureWord, Item, Want, WantName, WantNumber, WantExpr, WantSimple, MayNot, MaySign, WantPrimary, MayPower, MayTimes, MaySum, MayRelation, MayAnd, MayOr, MayImpl, MayEquiv, MayPart, WantSubscripts, WantActual, WantActuals, WantBytes, WantRight, WantAfterRight, WantAfterElement, MayNames, MayExprs, WantType, WantAfterType, WantAfterOwnType, WantSegment, WantPairs, MaySegments, WantConstant, WantFixed, WantFurther, MayFixed, MayFormals, MayValues, MaySpecifications, MayWord, MayDeclarations, WantStatement, WantAfterName, WantBranch, WantAfterBranchName, MayElse, MayStep, WantTurns, WantStatements, WantProgram, TreeOf, Trees}
use Rattle.gier_tree.specs.Taking.{call_of, element_of, primary_of, right_of, label_statement, label_branch, label_program, named_statement, named_branch, conditional_of, group_of, turns_of, declare_by_type, declare_own, specifier_of}
use Rattle.gier_tree.proofs.OperatorTails.{spell_powers, spell_products, spell_sums, spell_ands, spell_ors, spell_impls, spell_equivs, spell_may_relation, spell_may_sign, spell_may_not, spell_tails}
use Rattle.gier_pass3.proofs.Joined.{simple_of_spelled}

abbrev pub spell_more_exprs : Ended Exprs → List Symbol → List Symbol
spell_more_exprs es k = spell_exprs es.more (word RightBracket es.end ∷ k)

abbrev pub spell_more_actuals : Ended Actuals → List Symbol → List Symbol
spell_more_actuals as' k = spell_actuals as'.more (word RightParenthesis as'.end ∷ k)

abbrev pub spell_part : Part → List Symbol → List Symbol
spell_part NoPart k = k
spell_part (SomeSubscripts l e es) k = word LeftBracket l ∷ spell_expr e (spell_more_exprs es k)
spell_part (SomeActuals l a as') k = word LeftParenthesis l ∷ spell_actual a (spell_more_actuals as' k)

abbrev pub spell_right : Right → List Symbol → List Symbol
spell_right r k = spell_lefts r.lefts (spell_expr r.value k)

abbrev pub spell_after_element : AfterElement → List Symbol → List Symbol
spell_after_element (ElementIsLeft m r) k = word Becomes m ∷ spell_right r k
spell_after_element (ElementIsOperand t) k = spell_tails t k

abbrev pub spell_after_right : AfterRight → List Symbol → List Symbol
spell_after_right (NameIsLeft m r) k = word Becomes m ∷ spell_right r k
spell_after_right (NameIsOperand t) k = spell_tails t k
spell_after_right (NameHasSubscripts l e es a) k = word LeftBracket l ∷ spell_expr e (spell_more_exprs es (spell_after_element a k))
spell_after_right (NameHasActuals l a as' t) k = word LeftParenthesis l ∷ spell_actual a (spell_more_actuals as' (spell_tails t k))

abbrev pub spell_after_name : AfterName → List Symbol → List Symbol
spell_after_name (NameLabels m s) k = word Colon m ∷ spell_statement s k
spell_after_name (NameAssigned m r) k = word Becomes m ∷ spell_right r k
spell_after_name (ElementAssigned l e es m r) k = word LeftBracket l ∷ spell_expr e (spell_more_exprs es (word Becomes m ∷ spell_right r k))
spell_after_name (NameCalled l a as') k = word LeftParenthesis l ∷ spell_actual a (spell_more_actuals as' k)
spell_after_name NameAlone k = k

abbrev pub spell_may_else : MayBeElse → List Symbol → List Symbol
spell_may_else NoElse k = k
spell_may_else (AnElse l s) k = word Else l ∷ spell_statement s k

abbrev pub spell_branch : Branch → List Symbol → List Symbol
spell_branch (BranchLoop f) k = spell_loop f k
spell_branch (BranchUnconditional u e) k = spell_unconditional u (spell_may_else e k)

abbrev pub spell_after_branch : AfterBranchName → List Symbol → List Symbol
spell_after_branch (BranchLabels m b) k = word Colon m ∷ spell_branch b k
spell_after_branch (BranchAssigned m r e) k = word Becomes m ∷ spell_right r (spell_may_else e k)
spell_after_branch (BranchElement l c es m r e) k = word LeftBracket l ∷ spell_expr c (spell_more_exprs es (word Becomes m ∷ spell_right r (spell_may_else e k)))
spell_after_branch (BranchCalled l a as' e) k = word LeftParenthesis l ∷ spell_actual a (spell_more_actuals as' (spell_may_else e k))
spell_after_branch (BranchAlone e) k = spell_may_else e k

abbrev pub spell_may_step : MayBeStep → List Symbol → List Symbol
spell_may_step NoStep k = k
spell_may_step (AStep l b m c) k = word Step l ∷ spell_expr b (word Until m ∷ spell_expr c k)
spell_may_step (AWhile l f) k = word While l ∷ spell_expr f k

abbrev pub spell_after_type : AfterType → List Symbol → List Symbol
spell_after_type (TypeNames ns) k = spell_names ns k
spell_after_type (TypeArrays l s ss) k = word Array l ∷ spell_segment s (spell_next_segments ss k)
spell_after_type (TypeProcedure l x fs m vs ss s) k = word Procedure l ∷ ident x ∷ spell_formals fs (word Semicolon m ∷ spell_values vs (spell_specifications ss (spell_statement s k)))

abbrev pub spell_after_own : AfterOwnType → List Symbol → List Symbol
spell_after_own (OwnNames ns) k = spell_names ns k
spell_after_own (OwnArrays l s ss) k = word Array l ∷ spell_fixed s (spell_next_fixed ss k)

abbrev pub spell_may_word : MayBeWord → List Symbol → List Symbol
spell_may_word NoWord k = k
spell_may_word (ArrayWord l) k = word Array l ∷ k
spell_may_word (ProcedureWord l) k = word Procedure l ∷ k

abbrev pub spell_whole : Program → List Symbol → List Symbol
spell_whole (MkProgram ls g l) k = spell_labels ls (spell_group g (word TextEnd l ∷ k))

abbrev pub spell_item : (i : Item) → TreeOf i → List Symbol → List Symbol
spell_item (Want g) l k = word (sign_tag g) l ∷ k
spell_item WantName x k = ident x ∷ k
spell_item WantNumber n k = symbol Number n.value n.line ∷ k
spell_item WantExpr e k = spell_expr e k
spell_item WantSimple s k = spell_simple s k
spell_item MayNot n k = spell_may_not n k
spell_item MaySign g k = spell_may_sign g k
spell_item WantPrimary p k = spell_primary p k
spell_item MayPower ns k = spell_powers ns k
spell_item MayTimes ns k = spell_products ns k
spell_item MaySum ns k = spell_sums ns k
spell_item MayRelation m k = spell_may_relation m k
spell_item MayAnd ns k = spell_ands ns k
spell_item MayOr ns k = spell_ors ns k
spell_item MayImpl ns k = spell_impls ns k
spell_item MayEquiv ns k = spell_equivs ns k
spell_item MayPart p k = spell_part p k
spell_item WantSubscripts es k = spell_more_exprs es k
spell_item WantActual a k = spell_actual a k
spell_item WantActuals as' k = spell_more_actuals as' k
spell_item WantBytes bs k = spell_bytes bs.more (word StringEnd bs.end ∷ k)
spell_item WantRight r k = spell_right r k
spell_item WantAfterRight a k = spell_after_right a k
spell_item WantAfterElement a k = spell_after_element a k
spell_item MayNames ns k = spell_next_names ns k
spell_item MayExprs es k = spell_exprs es k
spell_item WantType t k = spell_type t k
spell_item WantAfterType a k = spell_after_type a k
spell_item WantAfterOwnType a k = spell_after_own a k
spell_item WantSegment s k = spell_segment s k
spell_item WantPairs ps k = spell_next_pairs ps.more (word RightBracket ps.end ∷ k)
spell_item MaySegments ss k = spell_next_segments ss k
spell_item WantConstant c k = spell_constant c k
spell_item WantFixed s k = spell_fixed s k
spell_item (WantFurther n) ps k = spell_further_pairs n ps.more (word RightBracket ps.end ∷ k)
spell_item MayFixed ss k = spell_next_fixed ss k
spell_item MayFormals fs k = spell_formals fs k
spell_item MayValues vs k = spell_values vs k
spell_item MaySpecifications ss k = spell_specifications ss k
spell_item MayWord w k = spell_may_word w k
spell_item MayDeclarations ds k = spell_declarations ds k
spell_item WantStatement s k = spell_statement s k
spell_item WantAfterName a k = spell_after_name a k
spell_item WantBranch b k = spell_branch b k
spell_item WantAfterBranchName a k = spell_after_branch a k
spell_item MayElse e k = spell_may_else e k
spell_item MayStep m k = spell_may_step m k
spell_item WantTurns ts k = spell_next_turns ts.more (word Do ts.end ∷ k)
spell_item WantStatements ss k = spell_statements ss.more (word End ss.end ∷ k)
spell_item WantProgram p k = spell_whole p k

abbrev pub spell_all : (st : List Item) → Trees st → List Symbol → List Symbol
spell_all [] ts k = k
spell_all (i ∷ st) ts k = spell_item i ts.0 (spell_all st ts.1 k)

-- what is made of parts is spelled as its parts
pub primary_spelled : (x : Name) (p : Part) (k : List Symbol) → spell_primary (primary_of x p) k ≡ ident x ∷ spell_part p k
primary_spelled x NoPart k = refl
primary_spelled x (SomeSubscripts l e es) k = refl
primary_spelled x (SomeActuals l a as') k = refl

pub right_spelled : (x : Name) (a : AfterRight) (k : List Symbol) → spell_right (right_of x a) k ≡ ident x ∷ spell_after_right a k
right_spelled x (NameIsLeft m r) k = refl
right_spelled x (NameIsOperand t) k = simple_of_spelled NoNot NoSign (OneCall (Alone x)) (t.powers, (t.products, (t.sums, (t.relation, (t.ands, (t.ors, (t.impls, (t.equivs, tt)))))))) k
right_spelled x (NameHasSubscripts l e es (ElementIsLeft m r)) k = refl
right_spelled x (NameHasSubscripts l e es (ElementIsOperand t)) k = simple_of_spelled NoNot NoSign (OneElement (element_of x l e es)) (t.powers, (t.products, (t.sums, (t.relation, (t.ands, (t.ors, (t.impls, (t.equivs, tt)))))))) k
right_spelled x (NameHasActuals l a as' t) k = simple_of_spelled NoNot NoSign (OneCall (call_of x l a as')) (t.powers, (t.products, (t.sums, (t.relation, (t.ands, (t.ors, (t.impls, (t.equivs, tt)))))))) k

labelled : (p : LabelPlace) (s : Statement) (k : List Symbol) → spell_statement (label_statement p s) k ≡ ident p.name ∷ word Colon p.colon ∷ spell_statement s k
labelled p (OneUnconditional (MkUnconditional ls b)) k = refl
labelled p (OneConditional (IfThen ls l e m u)) k = refl
labelled p (OneConditional (IfElse ls l e m u n s)) k = refl
labelled p (OneConditional (IfLoop ls l e m f)) k = refl
labelled p (OneLoop (MkLoop ls l x m t ts n s)) k = refl

pub statement_spelled : (x : Name) (a : AfterName) (k : List Symbol) → spell_statement (named_statement x a) k ≡ ident x ∷ spell_after_name a k
statement_spelled x (NameLabels m s) k = labelled (record { name = x; colon = m }) s k
statement_spelled x (NameAssigned m r) k = refl
statement_spelled x (ElementAssigned l e es m r) k = refl
statement_spelled x (NameCalled l a as') k = refl
statement_spelled x NameAlone k = refl

labelled_branch : (p : LabelPlace) (b : Branch) (k : List Symbol) → spell_branch (label_branch p b) k ≡ ident p.name ∷ word Colon p.colon ∷ spell_branch b k
labelled_branch p (BranchLoop (MkLoop ls l x m t ts n s)) k = refl
labelled_branch p (BranchUnconditional (MkUnconditional ls b) e) k = refl

pub branch_spelled : (x : Name) (a : AfterBranchName) (k : List Symbol) → spell_branch (named_branch x a) k ≡ ident x ∷ spell_after_branch a k
branch_spelled x (BranchLabels m b) k = labelled_branch (record { name = x; colon = m }) b k
branch_spelled x (BranchAssigned m r e) k = refl
branch_spelled x (BranchElement l c es m r e) k = refl
branch_spelled x (BranchCalled l a as' e) k = refl
branch_spelled x (BranchAlone e) k = refl

pub conditional_spelled : (l : ℕ) (e : Expr) (m : ℕ) (b : Branch) (k : List Symbol) → spell_conditional (conditional_of l e m b) k ≡ word If l ∷ spell_expr e (word Then m ∷ spell_branch b k)
conditional_spelled l e m (BranchLoop f) k = refl
conditional_spelled l e m (BranchUnconditional u NoElse) k = refl
conditional_spelled l e m (BranchUnconditional u (AnElse n s)) k = refl

pub group_spelled : (l : ℕ) (ds : Declarations) (s : Statement) (ss : Ended Statements) (k : List Symbol) → spell_group (group_of l ds s ss) k ≡ word Begin l ∷ spell_declarations ds (spell_statement s (spell_statements ss.more (word End ss.end ∷ k)))
group_spelled l NoDeclarations s ss k = refl
group_spelled l (MoreDeclarations d m ds) s ss k = refl

pub turns_spelled : (e : Expr) (m : MayBeStep) (k : List Symbol) → spell_turns (turns_of e m) k ≡ spell_expr e (spell_may_step m k)
turns_spelled e NoStep k = refl
turns_spelled e (AStep l b m c) k = refl
turns_spelled e (AWhile l f) k = refl

pub typed_spelled : (t : TypeWord) (a : AfterType) (k : List Symbol) → spell_declaration (declare_by_type t a) k ≡ word (type_tag t.type) t.line ∷ spell_after_type a k
typed_spelled t (TypeNames ns) k = refl
typed_spelled t (TypeArrays l s ss) k = refl
typed_spelled t (TypeProcedure l x fs m vs ss s) k = refl

pub own_spelled : (l : ℕ) (t : TypeWord) (a : AfterOwnType) (k : List Symbol) → spell_declaration (declare_own l t a) k ≡ word Own l ∷ spell_type t (spell_after_own a k)
own_spelled l t (OwnNames ns) k = refl
own_spelled l t (OwnArrays m s ss) k = refl

pub specifier_spelled : (t : TypeWord) (w : MayBeWord) (k : List Symbol) → spell_specifier (specifier_of t w) k ≡ word (type_tag t.type) t.line ∷ spell_may_word w k
specifier_spelled t NoWord k = refl
specifier_spelled t (ArrayWord l) k = refl
specifier_spelled t (ProcedureWord l) k = refl

pub program_spelled : (p : LabelPlace) (t : Program) (k : List Symbol) → spell_whole (label_program p t) k ≡ ident p.name ∷ word Colon p.colon ∷ spell_whole t k
program_spelled p (MkProgram ls g l) k = refl
