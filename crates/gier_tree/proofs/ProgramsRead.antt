-- Each program is read from its spelling, so two programs with one spelling are equal.
use Rattle.std.proofs.Common.{◌≡◌, ℕ, List, [], ◌∷◌, ◌++◌, Option, Some, None, refl, sym as back, ap, ◌∙◌}
use Rattle.gier_symbol.specs.declared.symbol.Symbol.{Symbol}
use Rattle.gier_symbol.specs.declared.tag.Tag.TheVariants.{TextEnd, Semicolon, Becomes, RightParenthesis, RightBracket, End, If, Then, Else, For, Step, Until, While, Do, Array, Procedure}
use Rattle.gier_symbol.specs.ByTag.{word}
use Rattle.gier_tree.specs.Trees.{Name, Expr, Alone, WithActuals, Subscripted, NoExprs, MkNames, ValueType, IntegerType, BooleanType, Formals, ValuePart, Specification, MkHeading, LabelPlace, LeftSide, OneName, LeftElement, LeftPart, Turns, OneValue, StepUntil, WhileTrue, NextTurns, Declaration, DeclareType, DeclareOwn, DeclareArrays, DeclareOwnArrays, DeclareSwitch, DeclareProcedure, Declarations, NoDeclarations, MoreDeclarations, Group, MkBlock, MkCompound, Statements, NoStatements, MoreStatements, Statement, OneUnconditional, OneConditional, OneLoop, Unconditional, MkUnconditional, Basic, OneGroup, Assign, Jump, CallStatement, Dummy, Conditional, IfThen, IfElse, IfLoop, Loop, MkLoop, Program, MkProgram}
use Rattle.gier_tree.specs.Spell.{ident, type_tag, spell_expr, spell_actuals, spell_exprs, spell_next_names, spell_segment, spell_next_segments, spell_fixed, spell_next_fixed, spell_formals, spell_values, spell_specifications, spell_labels, spell_left, spell_lefts, spell_turns, spell_next_turns, spell_declaration, spell_declarations, spell_group, spell_statements, spell_statement, spell_unconditional, spell_basic, spell_conditional, spell_loop, spell_program}
use Rattle.gier_tree.specs.Signs.{STextEnd, SColon, SSemicolon, SBecomes, SThen, SUntil}
use Rattle.gier_tree.specs.Wanted.{Ended, NameLabels, NameAssigned, ElementAssigned, NameCalled, MayBeElse, NoElse, AnElse, Branch, BranchLoop, BranchUnconditional, BranchLabels, BranchAssigned, BranchElement, BranchCalled, MayBeStep, NoStep, AStep, AWhile, TypeNames, TypeArrays, TypeProcedure, OwnNames, OwnArrays, Item, Want, WantName, WantExpr, WantSubscripts, WantActual, WantActuals, WantRight, MayNames, MayExprs, WantType, WantAfterType, WantAfterOwnType, WantSegment, MaySegments, WantFixed, MayFixed, MayDeclarations, WantStatement, WantAfterName, WantBranch, WantAfterBranchName, MayElse, MayStep, WantTurns, WantStatements, WantProgram, Trees}
use Rattle.gier_tree.specs.Taking.{name_at, type_at, basic, label_statement, label_branch, label_program, label_at, named_statement, basic_branch, named_branch, conditional_of, group_of, turns_of, loop_items, loop_of, procedure_items, declare_by_type, declare_own}
use Rattle.gier_tree.specs.Structure.{with_tree, gather, build, first_tree, program_spelled}
use Rattle.gier_tree.proofs.Ends.{Ends, actuals_end, exprs_end}
use Rattle.gier_tree.proofs.ExpressionsRead.{expr_built, actual_built, actuals_built, exprs_built}
use Rattle.gier_tree.proofs.RightSides.{right_built}
use Rattle.gier_tree.proofs.Follows.{EndsBy, even_else, ends_any, pass_statement, pass_after_name, pass_else, pass_branch, pass_branch_name, Headless, pass_declarations, pass_specifications, statement_headless, statements_headless, statements_end}
use Rattle.gier_tree.proofs.Parts.{names_built, more_exprs_built, switch_ends, segment_built, segments_built, fixed_built, fixeds_built, heading_built}

-- labels before what is read already
abbrev label_all : List LabelPlace → Statement → Statement
label_all [] s = s
label_all (l ∷ ls) s = label_statement l (label_all ls s)

labels_built : (ls : List LabelPlace) (w : List Symbol) (st : List Item) (s : Statement) (r : Trees st) → build w (WantStatement ∷ st) ≡ Some (s, r) → build (spell_labels ls w) (WantStatement ∷ st) ≡ Some (label_all ls s, r)
labels_built [] w st s r b = b
labels_built (l ∷ ls) w st s r b = ap (λ o. gather (WantAfterName ∷ []) st (λ ts. named_statement (name_at l.name.number l.name.line) ts.0) (gather (WantStatement ∷ []) st (λ ts. NameLabels l.colon ts.0) o)) (labels_built ls w st s r b)

label_basic : (ls : List LabelPlace) (b : Basic) → label_all ls (basic b) ≡ OneUnconditional (MkUnconditional ls b)
label_basic [] b = refl
label_basic (l ∷ ls) b = ap (label_statement l) (label_basic ls b)

label_then : (ls : List LabelPlace) (l : ℕ) (e : Expr) (m : ℕ) (u : Unconditional) → label_all ls (OneConditional (IfThen [] l e m u)) ≡ OneConditional (IfThen ls l e m u)
label_then [] l e m u = refl
label_then (p ∷ ls) l e m u = ap (label_statement p) (label_then ls l e m u)

label_else : (ls : List LabelPlace) (l : ℕ) (e : Expr) (m : ℕ) (u : Unconditional) (n : ℕ) (s : Statement) → label_all ls (OneConditional (IfElse [] l e m u n s)) ≡ OneConditional (IfElse ls l e m u n s)
label_else [] l e m u n s = refl
label_else (p ∷ ls) l e m u n s = ap (label_statement p) (label_else ls l e m u n s)

label_if_loop : (ls : List LabelPlace) (l : ℕ) (e : Expr) (m : ℕ) (f : Loop) → label_all ls (OneConditional (IfLoop [] l e m f)) ≡ OneConditional (IfLoop ls l e m f)
label_if_loop [] l e m f = refl
label_if_loop (p ∷ ls) l e m f = ap (label_statement p) (label_if_loop ls l e m f)

label_for : (ls : List LabelPlace) (l : ℕ) (x : Name) (m : ℕ) (t : Turns) (ts : List NextTurns) (n : ℕ) (s : Statement) → label_all ls (OneLoop (MkLoop [] l x m t ts n s)) ≡ OneLoop (MkLoop ls l x m t ts n s)
label_for [] l x m t ts n s = refl
label_for (p ∷ ls) l x m t ts n s = ap (label_statement p) (label_for ls l x m t ts n s)

-- the same of branches
abbrev branch_all : List LabelPlace → Branch → Branch
branch_all [] b = b
branch_all (l ∷ ls) b = label_branch l (branch_all ls b)

branch_labels : (ls : List LabelPlace) (w : List Symbol) (st : List Item) (c : Branch) (r : Trees st) → build w (WantBranch ∷ st) ≡ Some (c, r) → build (spell_labels ls w) (WantBranch ∷ st) ≡ Some (branch_all ls c, r)
branch_labels [] w st c r b = b
branch_labels (l ∷ ls) w st c r b = ap (λ o. gather (WantAfterBranchName ∷ []) st (λ ts. named_branch (name_at l.name.number l.name.line) ts.0) (gather (WantBranch ∷ []) st (λ ts. BranchLabels l.colon ts.0) o)) (branch_labels ls w st c r b)

branch_basic : (ls : List LabelPlace) (b : Basic) (e : MayBeElse) → branch_all ls (basic_branch b e) ≡ BranchUnconditional (MkUnconditional ls b) e
branch_basic [] b e = refl
branch_basic (l ∷ ls) b e = ap (label_branch l) (branch_basic ls b e)

branch_for : (ls : List LabelPlace) (l : ℕ) (x : Name) (m : ℕ) (t : Turns) (ts : List NextTurns) (n : ℕ) (s : Statement) → branch_all ls (BranchLoop (MkLoop [] l x m t ts n s)) ≡ BranchLoop (MkLoop ls l x m t ts n s)
branch_for [] l x m t ts n s = refl
branch_for (p ∷ ls) l x m t ts n s = ap (label_branch p) (branch_for ls l x m t ts n s)

-- assignments
assign_read : (q : LeftSide) (m : ℕ) (ps : List LeftPart) (e : Expr) (k : List Symbol) (st : List Item) (r : Trees st) → Ends 1 k → build k st ≡ Some r → build (spell_left q (word Becomes m ∷ spell_lefts ps (spell_expr e k))) (WantStatement ∷ st) ≡ Some (basic (Assign (record { left = q; becomes = m }) ps e), r)
assign_read (OneName x) m ps e k st r h b = ap (λ o. gather (WantAfterName ∷ []) st (λ ts. named_statement (name_at x.number x.line) ts.0) (gather (WantRight ∷ []) st (λ ts. NameAssigned m ts.0) o)) (right_built ps e k st r h b)
assign_read (LeftElement (Subscripted x l c es n)) m ps e k st r h b =
    ap (λ o. gather (WantAfterName ∷ []) st (λ ts. named_statement (name_at x.number x.line) ts.0) (gather (WantExpr ∷ WantSubscripts ∷ Want SBecomes ∷ WantRight ∷ []) st (λ ts. ElementAssigned l ts.0 ts.1.0 ts.1.1.0 ts.1.1.1.0) o))
    (expr_built c (spell_exprs es (word RightBracket n ∷ word Becomes m ∷ spell_lefts ps (spell_expr e k))) (WantSubscripts ∷ Want SBecomes ∷ WantRight ∷ st) (record { more = es; end = n }, (m, (record { lefts = ps; value = e }, r))) (exprs_end es n (word Becomes m ∷ spell_lefts ps (spell_expr e k)))
    (exprs_built es n (word Becomes m ∷ spell_lefts ps (spell_expr e k)) (Want SBecomes ∷ WantRight ∷ st) (m, (record { lefts = ps; value = e }, r)) (ap (gather [] (WantRight ∷ st) (λ ts. m)) (right_built ps e k st r h b))))

assign_branch : (q : LeftSide) (m : ℕ) (ps : List LeftPart) (e : Expr) (k : List Symbol) (st : List Item) (el : MayBeElse) (r : Trees st) → Ends 1 k → build k (MayElse ∷ st) ≡ Some (el, r) → build (spell_left q (word Becomes m ∷ spell_lefts ps (spell_expr e k))) (WantBranch ∷ st) ≡ Some (basic_branch (Assign (record { left = q; becomes = m }) ps e) el, r)
assign_branch (OneName x) m ps e k st el r h b = ap (λ o. gather (WantAfterBranchName ∷ []) st (λ ts. named_branch (name_at x.number x.line) ts.0) (gather (WantRight ∷ MayElse ∷ []) st (λ ts. BranchAssigned m ts.0 ts.1.0) o)) (right_built ps e k (MayElse ∷ st) (el, r) h b)
assign_branch (LeftElement (Subscripted x l c es n)) m ps e k st el r h b =
    ap (λ o. gather (WantAfterBranchName ∷ []) st (λ ts. named_branch (name_at x.number x.line) ts.0) (gather (WantExpr ∷ WantSubscripts ∷ Want SBecomes ∷ WantRight ∷ MayElse ∷ []) st (λ ts. BranchElement l ts.0 ts.1.0 ts.1.1.0 ts.1.1.1.0 ts.1.1.1.1.0) o))
    (expr_built c (spell_exprs es (word RightBracket n ∷ word Becomes m ∷ spell_lefts ps (spell_expr e k))) (WantSubscripts ∷ Want SBecomes ∷ WantRight ∷ MayElse ∷ st) (record { more = es; end = n }, (m, (record { lefts = ps; value = e }, (el, r)))) (exprs_end es n (word Becomes m ∷ spell_lefts ps (spell_expr e k)))
    (exprs_built es n (word Becomes m ∷ spell_lefts ps (spell_expr e k)) (Want SBecomes ∷ WantRight ∷ MayElse ∷ st) (m, (record { lefts = ps; value = e }, (el, r))) (ap (gather [] (WantRight ∷ MayElse ∷ st) (λ ts. m)) (right_built ps e k (MayElse ∷ st) (el, r) h b))))

-- what stands within a group
abbrev inside : Group → List Symbol → List Symbol
inside (MkBlock l d m ds s ss n) k = spell_declaration d (word Semicolon m ∷ spell_declarations ds (spell_statement s (spell_statements ss (word End n ∷ k))))
inside (MkCompound l s ss n) k = spell_statement s (spell_statements ss (word End n ∷ k))

abbrev declared_in : Group → Declarations
declared_in (MkBlock l d m ds s ss n) = MoreDeclarations d m ds
declared_in (MkCompound l s ss n) = NoDeclarations

abbrev first_in : Group → Statement
first_in (MkBlock l d m ds s ss n) = s
first_in (MkCompound l s ss n) = s

abbrev others_in : Group → Ended Statements
others_in (MkBlock l d m ds s ss n) = record { more = ss; end = n }
others_in (MkCompound l s ss n) = record { more = ss; end = n }

abbrev group_items : List Item
group_items = MayDeclarations ∷ WantStatement ∷ WantStatements ∷ []

group_read : (g : Group) (k : List Symbol) (st : List Item) (r : Trees st) → build (inside g k) (group_items ++ st) ≡ Some (declared_in g, (first_in g, (others_in g, r))) → build (spell_group g k) (WantStatement ∷ st) ≡ Some (basic (OneGroup g), r)
group_read (MkBlock l d m ds s ss n) k st r b = ap (gather group_items st (λ ts. basic (OneGroup (group_of l ts.0 ts.1.0 ts.1.1.0)))) b
group_read (MkCompound l s ss n) k st r b = ap (gather group_items st (λ ts. basic (OneGroup (group_of l ts.0 ts.1.0 ts.1.1.0)))) b

group_branch : (g : Group) (k : List Symbol) (st : List Item) (e : MayBeElse) (r : Trees st) → build (inside g k) (group_items ++ MayElse ∷ st) ≡ Some (declared_in g, (first_in g, (others_in g, (e, r)))) → build (spell_group g k) (WantBranch ∷ st) ≡ Some (basic_branch (OneGroup g) e, r)
group_branch (MkBlock l d m ds s ss n) k st e r b = ap (gather (group_items ++ MayElse ∷ []) st (λ ts. basic_branch (OneGroup (group_of l ts.0 ts.1.0 ts.1.1.0)) ts.1.1.1.0)) b
group_branch (MkCompound l s ss n) k st e r b = ap (gather (group_items ++ MayElse ∷ []) st (λ ts. basic_branch (OneGroup (group_of l ts.0 ts.1.0 ts.1.1.0)) ts.1.1.1.0)) b

-- for statements, where the controlled statement is read
abbrev first_value : Turns → Expr
first_value (OneValue e) = e
first_value (StepUntil a l b m c) = a
first_value (WhileTrue e l f) = e

abbrev step_of : Turns → MayBeStep
step_of (OneValue e) = NoStep
step_of (StepUntil a l b m c) = AStep l b m c
step_of (WhileTrue e l f) = AWhile l f

turns_same : (t : Turns) → turns_of (first_value t) (step_of t) ≡ t
turns_same (OneValue e) = refl
turns_same (StepUntil a l b m c) = refl
turns_same (WhileTrue e l f) = refl

-- what ends an element of a for list
abbrev EndsTurns : List Symbol → Type 0
EndsTurns k = (st : List Item) → build k (MayStep ∷ st) ≡ with_tree NoStep (build k st)

turns_built : (t : Turns) (k : List Symbol) (st : List Item) (r : Trees st) → Ends 1 k → EndsTurns k → build k st ≡ Some r → build (spell_turns t k) (WantExpr ∷ MayStep ∷ st) ≡ Some (first_value t, (step_of t, r))
turns_built (OneValue e) k st r h p b = expr_built e k (MayStep ∷ st) (NoStep, r) h (p st ∙ ap (with_tree NoStep) b)
turns_built (StepUntil a l c m d) k st r h p b =
    expr_built a (word Step l ∷ spell_expr c (word Until m ∷ spell_expr d k)) (MayStep ∷ st) (AStep l c m d, r) refl
    (ap (gather (WantExpr ∷ Want SUntil ∷ WantExpr ∷ []) st (λ ts. AStep l ts.0 ts.1.0 ts.1.1.0))
    (expr_built c (word Until m ∷ spell_expr d k) (Want SUntil ∷ WantExpr ∷ st) (m, (d, r)) refl (ap (gather [] (WantExpr ∷ st) (λ ts. m)) (expr_built d k st r h b))))
turns_built (WhileTrue e l f) k st r h p b =
    expr_built e (word While l ∷ spell_expr f k) (MayStep ∷ st) (AWhile l f, r) refl (ap (gather (WantExpr ∷ []) st (λ ts. AWhile l ts.0)) (expr_built f k st r h b))

turns_end : (ts : List NextTurns) (n : ℕ) (k : List Symbol) → Ends 1 (spell_next_turns ts (word Do n ∷ k))
turns_end [] n k = refl
turns_end (t ∷ ts) n k = refl

turns_pass : (ts : List NextTurns) (n : ℕ) (k : List Symbol) → EndsTurns (spell_next_turns ts (word Do n ∷ k))
turns_pass [] n k = λ st. refl
turns_pass (t ∷ ts) n k = λ st. refl

next_turns_built : (ts : List NextTurns) (n : ℕ) (k : List Symbol) (st : List Item) (r : Trees st) → build k st ≡ Some r → build (spell_next_turns ts (word Do n ∷ k)) (WantTurns ∷ st) ≡ Some (record { more = ts; end = n }, r)
next_turns_built [] n k st r b = ap (gather [] st (λ ts. record { more = []; end = n })) b
next_turns_built (t ∷ ts) n k st r b =
    ap (gather (WantExpr ∷ MayStep ∷ WantTurns ∷ []) st (λ us. record { more = record { comma = t.comma; turns = turns_of us.0 us.1.0 } ∷ us.1.1.0.more; end = us.1.1.0.end }))
    (turns_built t.turns (spell_next_turns ts (word Do n ∷ k)) (WantTurns ∷ st) (record { more = ts; end = n }, r) (turns_end ts n k) (turns_pass ts n k) (next_turns_built ts n k st r b))
    ∙ ap (λ (u : Turns). Some (record { more = record { comma = t.comma; turns = u } ∷ ts; end = n }, r)) (turns_same t.turns)

loop_read : (x : Name) (m : ℕ) (t : Turns) (ts : List NextTurns) (n : ℕ) (w : List Symbol) (st : List Item) (s : Statement) (r : Trees st) → build w (WantStatement ∷ st) ≡ Some (s, r) → build (ident x ∷ word Becomes m ∷ spell_turns t (spell_next_turns ts (word Do n ∷ w))) (loop_items ++ st) ≡ Some (x, (m, (first_value t, (step_of t, (record { more = ts; end = n }, (s, r))))))
loop_read x m t ts n w st s r b =
    ap (λ o. gather [] (Want SBecomes ∷ WantExpr ∷ MayStep ∷ WantTurns ∷ WantStatement ∷ st) (λ us. name_at x.number x.line) (gather [] (WantExpr ∷ MayStep ∷ WantTurns ∷ WantStatement ∷ st) (λ us. m) o))
    (turns_built t (spell_next_turns ts (word Do n ∷ w)) (WantTurns ∷ WantStatement ∷ st) (record { more = ts; end = n }, (s, r)) (turns_end ts n w) (turns_pass ts n w) (next_turns_built ts n w (WantStatement ∷ st) (s, r) b))

-- declarations, where bodies of procedures are read
at_typed : (v : ValueType) (l : ℕ) (w : List Symbol) (st : List Item) → build (word (type_tag v) l ∷ w) (MayDeclarations ∷ st) ≡ gather (WantAfterType ∷ Want SSemicolon ∷ MayDeclarations ∷ []) st (λ ts. MoreDeclarations (declare_by_type (type_at v l) ts.0) ts.1.0 ts.1.1.0) (build w (WantAfterType ∷ Want SSemicolon ∷ MayDeclarations ∷ st))
at_typed IntegerType l w st = refl
at_typed BooleanType l w st = refl

at_type : (v : ValueType) (l : ℕ) (w : List Symbol) (st : List Item) → build (word (type_tag v) l ∷ w) (WantType ∷ st) ≡ gather [] st (λ ts. type_at v l) (build w st)
at_type IntegerType l w st = refl
at_type BooleanType l w st = refl

-- the semicolon behind a declaration, and what follows
abbrev end_items : List Item
end_items = Want SSemicolon ∷ MayDeclarations ∷ []

procedure_read : (x : Name) (fs : Formals) (m : ℕ) (vs : ValuePart) (ss : List Specification) (w : List Symbol) (st : List Item) (s : Statement) (r : Trees st) → Headless 1 w → build w (WantStatement ∷ st) ≡ Some (s, r) → build (ident x ∷ spell_formals fs (word Semicolon m ∷ spell_values vs (spell_specifications ss w))) (procedure_items ++ st) ≡ Some (x, (fs, (m, (vs, (ss, (s, r))))))
procedure_read x fs m vs ss w st s r h b = heading_built x fs m vs ss w (WantStatement ∷ st) (s, r) h (pass_specifications w (WantStatement ∷ st) (s, r) h b)

mutual
  pub declaration_built : (d : Declaration) (l : ℕ) (k : List Symbol) (st : List Item) (ds : Declarations) (r : Trees st) → build k (MayDeclarations ∷ st) ≡ Some (ds, r) → build (spell_declaration d (word Semicolon l ∷ k)) (MayDeclarations ∷ st) ≡ Some (MoreDeclarations d l ds, r)
  declaration_built (DeclareType t (MkNames x ns)) l k st ds r b =
      at_typed t.type t.line (ident x ∷ spell_next_names ns (word Semicolon l ∷ k)) st
      ∙ ap (λ o. gather (WantAfterType ∷ end_items) st (λ ts. MoreDeclarations (declare_by_type (type_at t.type t.line) ts.0) ts.1.0 ts.1.1.0) (gather (MayNames ∷ []) (end_items ++ st) (λ ts. TypeNames (MkNames (name_at x.number x.line) ts.0)) o))
      (names_built ns (word Semicolon l ∷ k) (end_items ++ st) (l, (ds, r)) (ap (λ o. with_tree [] (gather [] (MayDeclarations ∷ st) (λ ts. l) o)) b))
  declaration_built (DeclareOwn n t (MkNames x ns)) l k st ds r b =
      ap (gather (WantType ∷ WantAfterOwnType ∷ end_items) st (λ ts. MoreDeclarations (declare_own n ts.0 ts.1.0) ts.1.1.0 ts.1.1.1.0))
      (at_type t.type t.line (ident x ∷ spell_next_names ns (word Semicolon l ∷ k)) (WantAfterOwnType ∷ end_items ++ st)
      ∙ ap (λ o. gather [] (WantAfterOwnType ∷ end_items ++ st) (λ ts. type_at t.type t.line) (gather (MayNames ∷ []) (end_items ++ st) (λ ts. OwnNames (MkNames (name_at x.number x.line) ts.0)) o))
      (names_built ns (word Semicolon l ∷ k) (end_items ++ st) (l, (ds, r)) (ap (λ o. with_tree [] (gather [] (MayDeclarations ∷ st) (λ ts. l) o)) b)))
  declaration_built (DeclareArrays t n s ss) l k st ds r b =
      at_typed t.type t.line (word Array n ∷ spell_segment s (spell_next_segments ss (word Semicolon l ∷ k))) st
      ∙ ap (λ o. gather (WantAfterType ∷ end_items) st (λ ts. MoreDeclarations (declare_by_type (type_at t.type t.line) ts.0) ts.1.0 ts.1.1.0) (gather (WantSegment ∷ MaySegments ∷ []) (end_items ++ st) (λ ts. TypeArrays n ts.0 ts.1.0) o))
      (segment_built s (spell_next_segments ss (word Semicolon l ∷ k)) (MaySegments ∷ end_items ++ st) (ss, (l, (ds, r)))
      (segments_built ss (word Semicolon l ∷ k) (end_items ++ st) (l, (ds, r)) (ap (λ o. with_tree [] (gather [] (MayDeclarations ∷ st) (λ ts. l) o)) b)))
  declaration_built (DeclareOwnArrays q t n s ss) l k st ds r b =
      ap (gather (WantType ∷ WantAfterOwnType ∷ end_items) st (λ ts. MoreDeclarations (declare_own q ts.0 ts.1.0) ts.1.1.0 ts.1.1.1.0))
      (at_type t.type t.line (word Array n ∷ spell_fixed s (spell_next_fixed ss (word Semicolon l ∷ k))) (WantAfterOwnType ∷ end_items ++ st)
      ∙ ap (λ o. gather [] (WantAfterOwnType ∷ end_items ++ st) (λ ts. type_at t.type t.line) (gather (WantFixed ∷ MayFixed ∷ []) (end_items ++ st) (λ ts. OwnArrays n ts.0 ts.1.0) o))
      (fixed_built s (spell_next_fixed ss (word Semicolon l ∷ k)) (MayFixed ∷ end_items ++ st) (ss, (l, (ds, r)))
      (fixeds_built ss (word Semicolon l ∷ k) (end_items ++ st) (l, (ds, r)) (ap (λ o. with_tree [] (gather [] (MayDeclarations ∷ st) (λ ts. l) o)) b))))
  declaration_built (DeclareSwitch n x m e es) l k st ds r b =
      ap (λ o. gather (WantName ∷ Want SBecomes ∷ WantExpr ∷ MayExprs ∷ end_items) st (λ ts. MoreDeclarations (DeclareSwitch n ts.0 ts.1.0 ts.1.1.0 ts.1.1.1.0) ts.1.1.1.1.0 ts.1.1.1.1.1.0) (gather [] (Want SBecomes ∷ WantExpr ∷ MayExprs ∷ end_items ++ st) (λ ts. name_at x.number x.line) (gather [] (WantExpr ∷ MayExprs ∷ end_items ++ st) (λ ts. m) o)))
      (expr_built e (spell_exprs es (word Semicolon l ∷ k)) (MayExprs ∷ end_items ++ st) (es, (l, (ds, r))) (switch_ends es l k)
      (more_exprs_built es l k (end_items ++ st) (l, (ds, r)) (ap (λ o. with_tree NoExprs (gather [] (MayDeclarations ∷ st) (λ ts. l) o)) b)))
  declaration_built (DeclareProcedure (MkHeading None n x fs m vs ss) s) l k st ds r b =
      ap (gather (procedure_items ++ end_items) st (λ ts. MoreDeclarations (DeclareProcedure (MkHeading None n ts.0 ts.1.0 ts.1.1.0 ts.1.1.1.0 ts.1.1.1.1.0) ts.1.1.1.1.1.0) ts.1.1.1.1.1.1.0 ts.1.1.1.1.1.1.1.0))
      (procedure_read x fs m vs ss (spell_statement s (word Semicolon l ∷ k)) (end_items ++ st) s (l, (ds, r)) (statement_headless s (word Semicolon l ∷ k) refl)
      (statement_built s (word Semicolon l ∷ k) (end_items ++ st) (l, (ds, r)) refl (ap (gather [] (MayDeclarations ∷ st) (λ ts. l)) b)))
  declaration_built (DeclareProcedure (MkHeading (Some t) n x fs m vs ss) s) l k st ds r b =
      at_typed t.type t.line (word Procedure n ∷ ident x ∷ spell_formals fs (word Semicolon m ∷ spell_values vs (spell_specifications ss (spell_statement s (word Semicolon l ∷ k))))) st
      ∙ ap (λ o. gather (WantAfterType ∷ end_items) st (λ ts. MoreDeclarations (declare_by_type (type_at t.type t.line) ts.0) ts.1.0 ts.1.1.0) (gather procedure_items (end_items ++ st) (λ ts. TypeProcedure n ts.0 ts.1.0 ts.1.1.0 ts.1.1.1.0 ts.1.1.1.1.0 ts.1.1.1.1.1.0) o))
      (procedure_read x fs m vs ss (spell_statement s (word Semicolon l ∷ k)) (end_items ++ st) s (l, (ds, r)) (statement_headless s (word Semicolon l ∷ k) refl)
      (statement_built s (word Semicolon l ∷ k) (end_items ++ st) (l, (ds, r)) refl (ap (gather [] (MayDeclarations ∷ st) (λ ts. l)) b)))

  pub declarations_built : (ds : Declarations) (k : List Symbol) (st : List Item) (r : Trees st) → build k (MayDeclarations ∷ st) ≡ Some (NoDeclarations, r) → build (spell_declarations ds k) (MayDeclarations ∷ st) ≡ Some (ds, r)
  declarations_built NoDeclarations k st r b = b
  declarations_built (MoreDeclarations d l ds) k st r b = declaration_built d l (spell_declarations ds k) st ds r (declarations_built ds k st r b)

  pub inside_built : (g : Group) (k : List Symbol) (st : List Item) (r : Trees st) → build k st ≡ Some r → build (inside g k) (group_items ++ st) ≡ Some (declared_in g, (first_in g, (others_in g, r)))
  inside_built (MkBlock l d m ds s ss n) k st r b =
      declaration_built d m (spell_declarations ds (spell_statement s (spell_statements ss (word End n ∷ k)))) (WantStatement ∷ WantStatements ∷ st) ds (s, (record { more = ss; end = n }, r))
      (declarations_built ds (spell_statement s (spell_statements ss (word End n ∷ k))) (WantStatement ∷ WantStatements ∷ st) (s, (record { more = ss; end = n }, r))
      (pass_declarations (spell_statement s (spell_statements ss (word End n ∷ k))) (WantStatement ∷ WantStatements ∷ st) (s, (record { more = ss; end = n }, r)) (statement_headless s (spell_statements ss (word End n ∷ k)) (statements_headless ss n k))
      (statement_built s (spell_statements ss (word End n ∷ k)) (WantStatements ∷ st) (record { more = ss; end = n }, r) (statements_end ss n k) (statements_built ss n k st r b))))
  inside_built (MkCompound l s ss n) k st r b =
      pass_declarations (spell_statement s (spell_statements ss (word End n ∷ k))) (WantStatement ∷ WantStatements ∷ st) (s, (record { more = ss; end = n }, r)) (statement_headless s (spell_statements ss (word End n ∷ k)) (statements_headless ss n k))
      (statement_built s (spell_statements ss (word End n ∷ k)) (WantStatements ∷ st) (record { more = ss; end = n }, r) (statements_end ss n k) (statements_built ss n k st r b))

  pub statements_built : (ss : Statements) (n : ℕ) (k : List Symbol) (st : List Item) (r : Trees st) → build k st ≡ Some r → build (spell_statements ss (word End n ∷ k)) (WantStatements ∷ st) ≡ Some (record { more = ss; end = n }, r)
  statements_built NoStatements n k st r b = ap (gather [] st (λ ts. record { more = NoStatements; end = n })) b
  statements_built (MoreStatements l s ss) n k st r b =
      ap (gather (WantStatement ∷ WantStatements ∷ []) st (λ ts. record { more = MoreStatements l ts.0 ts.1.0.more; end = ts.1.0.end }))
      (statement_built s (spell_statements ss (word End n ∷ k)) (WantStatements ∷ st) (record { more = ss; end = n }, r) (statements_end ss n k) (statements_built ss n k st r b))

  pub statement_built : (s : Statement) (k : List Symbol) (st : List Item) (r : Trees st) → EndsBy 1 k → build k st ≡ Some r → build (spell_statement s k) (WantStatement ∷ st) ≡ Some (s, r)
  statement_built (OneUnconditional (MkUnconditional ls c)) k st r h b = labels_built ls (spell_basic c k) st (basic c) r (basic_built c k st r (even_else k h) b) ∙ ap (λ (s : Statement). Some (s, r)) (label_basic ls c)
  statement_built (OneConditional c) k st r h b = conditional_built c k st r h b
  statement_built (OneLoop f) k st r h b = loop_built f k st r h b

  pub basic_built : (c : Basic) (k : List Symbol) (st : List Item) (r : Trees st) → EndsBy 2 k → build k st ≡ Some r → build (spell_basic c k) (WantStatement ∷ st) ≡ Some (basic c, r)
  basic_built (OneGroup g) k st r h b = group_read g k st r (inside_built g k st r b)
  basic_built (Assign p ps e) k st r h b = assign_read p.left p.becomes ps e k st r (ends_any k h) b
  basic_built (Jump l e) k st r h b = ap (gather (WantExpr ∷ []) st (λ ts. basic (Jump l ts.0))) (expr_built e k st r (ends_any k h) b)
  basic_built (CallStatement (Alone x)) k st r h b = ap (gather (WantAfterName ∷ []) st (λ ts. named_statement (name_at x.number x.line) ts.0)) (pass_after_name k st r h b)
  basic_built (CallStatement (WithActuals x l a more m)) k st r h b =
      ap (λ o. gather (WantAfterName ∷ []) st (λ ts. named_statement (name_at x.number x.line) ts.0) (gather (WantActual ∷ WantActuals ∷ []) st (λ ts. NameCalled l ts.0 ts.1.0) o))
      (actual_built a (spell_actuals more (word RightParenthesis m ∷ k)) (WantActuals ∷ st) (record { more = more; end = m }, r) (actuals_end more m k) (actuals_built more m k st r b))
  basic_built Dummy k st r h b = pass_statement k st r h b

  pub branch_built : (u : Unconditional) (k : List Symbol) (st : List Item) (e : MayBeElse) (r : Trees st) → EndsBy 2 k → build k (MayElse ∷ st) ≡ Some (e, r) → build (spell_unconditional u k) (WantBranch ∷ st) ≡ Some (BranchUnconditional u e, r)
  branch_built (MkUnconditional ls c) k st e r h b = branch_labels ls (spell_basic c k) st (basic_branch c e) r (basic_branch_built c k st e r h b) ∙ ap (λ (q : Branch). Some (q, r)) (branch_basic ls c e)

  pub basic_branch_built : (c : Basic) (k : List Symbol) (st : List Item) (e : MayBeElse) (r : Trees st) → EndsBy 2 k → build k (MayElse ∷ st) ≡ Some (e, r) → build (spell_basic c k) (WantBranch ∷ st) ≡ Some (basic_branch c e, r)
  basic_branch_built (OneGroup g) k st e r h b = group_branch g k st e r (inside_built g k (MayElse ∷ st) (e, r) b)
  basic_branch_built (Assign p ps c) k st e r h b = assign_branch p.left p.becomes ps c k st e r (ends_any k h) b
  basic_branch_built (Jump l c) k st e r h b = ap (gather (WantExpr ∷ MayElse ∷ []) st (λ ts. basic_branch (Jump l ts.0) ts.1.0)) (expr_built c k (MayElse ∷ st) (e, r) (ends_any k h) b)
  basic_branch_built (CallStatement (Alone x)) k st e r h b = ap (gather (WantAfterBranchName ∷ []) st (λ ts. named_branch (name_at x.number x.line) ts.0)) (pass_branch_name k st e r h b)
  basic_branch_built (CallStatement (WithActuals x l a more m)) k st e r h b =
      ap (λ o. gather (WantAfterBranchName ∷ []) st (λ ts. named_branch (name_at x.number x.line) ts.0) (gather (WantActual ∷ WantActuals ∷ MayElse ∷ []) st (λ ts. BranchCalled l ts.0 ts.1.0 ts.1.1.0) o))
      (actual_built a (spell_actuals more (word RightParenthesis m ∷ k)) (WantActuals ∷ MayElse ∷ st) (record { more = more; end = m }, (e, r)) (actuals_end more m k) (actuals_built more m k (MayElse ∷ st) (e, r) b))
  basic_branch_built Dummy k st e r h b = pass_branch k st e r h b

  pub conditional_built : (c : Conditional) (k : List Symbol) (st : List Item) (r : Trees st) → EndsBy 1 k → build k st ≡ Some r → build (spell_conditional c k) (WantStatement ∷ st) ≡ Some (OneConditional c, r)
  conditional_built (IfThen ls l e m u) k st r h b =
      labels_built ls (word If l ∷ spell_expr e (word Then m ∷ spell_unconditional u k)) st (OneConditional (IfThen [] l e m u)) r
      (ap (gather (WantExpr ∷ Want SThen ∷ WantBranch ∷ []) st (λ ts. OneConditional (conditional_of l ts.0 ts.1.0 ts.1.1.0)))
      (expr_built e (word Then m ∷ spell_unconditional u k) (Want SThen ∷ WantBranch ∷ st) (m, (BranchUnconditional u NoElse, r)) refl
      (ap (gather [] (WantBranch ∷ st) (λ ts. m)) (branch_built u k st NoElse r (even_else k h) (pass_else k st r h b)))))
      ∙ ap (λ (s : Statement). Some (s, r)) (label_then ls l e m u)
  conditional_built (IfElse ls l e m u n s) k st r h b =
      labels_built ls (word If l ∷ spell_expr e (word Then m ∷ spell_unconditional u (word Else n ∷ spell_statement s k))) st (OneConditional (IfElse [] l e m u n s)) r
      (ap (gather (WantExpr ∷ Want SThen ∷ WantBranch ∷ []) st (λ ts. OneConditional (conditional_of l ts.0 ts.1.0 ts.1.1.0)))
      (expr_built e (word Then m ∷ spell_unconditional u (word Else n ∷ spell_statement s k)) (Want SThen ∷ WantBranch ∷ st) (m, (BranchUnconditional u (AnElse n s), r)) refl
      (ap (gather [] (WantBranch ∷ st) (λ ts. m))
      (branch_built u (word Else n ∷ spell_statement s k) st (AnElse n s) r refl (ap (gather (WantStatement ∷ []) st (λ ts. AnElse n ts.0)) (statement_built s k st r h b))))))
      ∙ ap (λ (q : Statement). Some (q, r)) (label_else ls l e m u n s)
  conditional_built (IfLoop ls l e m f) k st r h b =
      labels_built ls (word If l ∷ spell_expr e (word Then m ∷ spell_loop f k)) st (OneConditional (IfLoop [] l e m f)) r
      (ap (gather (WantExpr ∷ Want SThen ∷ WantBranch ∷ []) st (λ ts. OneConditional (conditional_of l ts.0 ts.1.0 ts.1.1.0)))
      (expr_built e (word Then m ∷ spell_loop f k) (Want SThen ∷ WantBranch ∷ st) (m, (BranchLoop f, r)) refl
      (ap (gather [] (WantBranch ∷ st) (λ ts. m)) (loop_branch_built f k st r h b))))
      ∙ ap (λ (s : Statement). Some (s, r)) (label_if_loop ls l e m f)

  pub loop_built : (f : Loop) (k : List Symbol) (st : List Item) (r : Trees st) → EndsBy 1 k → build k st ≡ Some r → build (spell_loop f k) (WantStatement ∷ st) ≡ Some (OneLoop f, r)
  loop_built (MkLoop ls l x m t ts n s) k st r h b =
      labels_built ls (word For l ∷ ident x ∷ word Becomes m ∷ spell_turns t (spell_next_turns ts (word Do n ∷ spell_statement s k))) st (OneLoop (MkLoop [] l x m t ts n s)) r
      (ap (gather loop_items st (λ us. OneLoop (loop_of l us))) (loop_read x m t ts n (spell_statement s k) st s r (statement_built s k st r h b))
      ∙ ap (λ (u : Turns). Some (OneLoop (MkLoop [] l x m u ts n s), r)) (turns_same t))
      ∙ ap (λ (q : Statement). Some (q, r)) (label_for ls l x m t ts n s)

  pub loop_branch_built : (f : Loop) (k : List Symbol) (st : List Item) (r : Trees st) → EndsBy 1 k → build k st ≡ Some r → build (spell_loop f k) (WantBranch ∷ st) ≡ Some (BranchLoop f, r)
  loop_branch_built (MkLoop ls l x m t ts n s) k st r h b =
      branch_labels ls (word For l ∷ ident x ∷ word Becomes m ∷ spell_turns t (spell_next_turns ts (word Do n ∷ spell_statement s k))) st (BranchLoop (MkLoop [] l x m t ts n s)) r
      (ap (gather loop_items st (λ us. BranchLoop (loop_of l us))) (loop_read x m t ts n (spell_statement s k) st s r (statement_built s k st r h b))
      ∙ ap (λ (u : Turns). Some (BranchLoop (MkLoop [] l x m u ts n s), r)) (turns_same t))
      ∙ ap (λ (q : Branch). Some (q, r)) (branch_for ls l x m t ts n s)

-- a program
abbrev program_all : List LabelPlace → Program → Program
program_all [] t = t
program_all (l ∷ ls) t = label_program l (program_all ls t)

program_labels : (ls : List LabelPlace) (w : List Symbol) (t : Program) → build w (WantProgram ∷ []) ≡ Some (t, tt) → build (spell_labels ls w) (WantProgram ∷ []) ≡ Some (program_all ls t, tt)
program_labels [] w t b = b
program_labels (l ∷ ls) w t b = ap (λ o. gather (Want SColon ∷ WantProgram ∷ []) [] (λ ts. label_program (label_at (name_at l.name.number l.name.line) ts.0) ts.1.0) (gather [] (WantProgram ∷ []) (λ ts. l.colon) o)) (program_labels ls w t b)

program_labelled : (ls : List LabelPlace) (g : Group) (l : ℕ) → program_all ls (MkProgram [] g l) ≡ MkProgram ls g l
program_labelled [] g l = refl
program_labelled (p ∷ ls) g l = ap (label_program p) (program_labelled ls g l)

group_program : (g : Group) (l : ℕ) → build (inside g (word TextEnd l ∷ [])) (group_items ++ Want STextEnd ∷ []) ≡ Some (declared_in g, (first_in g, (others_in g, (l, tt)))) → build (spell_group g (word TextEnd l ∷ [])) (WantProgram ∷ []) ≡ Some (MkProgram [] g l, tt)
group_program (MkBlock k d m ds s ss n) l b = ap (gather (group_items ++ Want STextEnd ∷ []) [] (λ ts. MkProgram [] (group_of k ts.0 ts.1.0 ts.1.1.0) ts.1.1.1.0)) b
group_program (MkCompound k s ss n) l b = ap (gather (group_items ++ Want STextEnd ∷ []) [] (λ ts. MkProgram [] (group_of k ts.0 ts.1.0 ts.1.1.0) ts.1.1.1.0)) b

pub program_built : (t : Program) → build (spell_program t) (WantProgram ∷ []) ≡ Some (t, tt)
program_built (MkProgram ls g l) =
    program_labels ls (spell_group g (word TextEnd l ∷ [])) (MkProgram [] g l) (group_program g l (inside_built g (word TextEnd l ∷ []) (Want STextEnd ∷ []) (l, tt) refl))
    ∙ ap (λ (t : Program). Some (t, tt)) (program_labelled ls g l)

-- what is written is read
pub written_spelled : (t : Program) → program_spelled (spell_program t) ≡ Some t
written_spelled t = ap (λ (o : Option (Program × Unit {0})). first_tree o) (program_built t)

abbrev or_else : Program → Option Program → Program
or_else t None = t
or_else t (Some u) = u

-- two programs with one spelling are equal
pub one_program : (t u : Program) → spell_program t ≡ spell_program u → t ≡ u
one_program t u q = ap (or_else t) (back (written_spelled t) ∙ ap program_spelled q ∙ written_spelled u)
