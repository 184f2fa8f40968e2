-- The code of each statement, declaration and group carries each claim, and has the places of its labels.
use Rattle.std.proofs.Common.{suc, ◌∷◌}
use Rattle.gier_order.specs.declared.operation.Operation.TheVariants as op
use Rattle.gier_tree.specs.Coded.{scopes_of, code_expr, code_label}
use Rattle.gier_tree.specs.Entries.{block_entries, procedure_entries, turn_entries, entries_numbers, numbers_unconditional}
use Rattle.gier_tree.specs.Lines.{first_heading}
use Rattle.gier_tree.specs.Need.{need_statement, need_block}
use Rattle.gier_tree.specs.Orders.{Code, no_code, also}
use Rattle.gier_tree.specs.OwnCount.{owns_in_unconditional}
use Rattle.gier_tree.specs.Places.{Places, block_places, procedure_places, turn_places}
use Rattle.gier_tree.specs.Room.{block_words}
use Rattle.gier_tree.specs.Text7.{labels_code, segment_code, segments_code, elements_of, if_code, if_else_code, for_code}
use Rattle.gier_tree.specs.Text7.{code_declaration, code_declarations, code_group, code_statements, code_statement}
use Rattle.gier_tree.specs.Text7.{code_unconditional, code_basic, code_conditional, code_loop}
use Rattle.gier_tree.specs.Texts.{Where, inner, further, behind_statement, behind_declaration, behind_declarations}
use Rattle.gier_tree.specs.Trees.{Declaration, DeclareType, DeclareOwn, DeclareArrays, DeclareOwnArrays, DeclareSwitch}
use Rattle.gier_tree.specs.Trees.{DeclareProcedure, Declarations, NoDeclarations, MoreDeclarations, Group, MkBlock, MkCompound}
use Rattle.gier_tree.specs.Trees.{Statements, NoStatements, MoreStatements, Statement, OneUnconditional, OneConditional, OneLoop}
use Rattle.gier_tree.specs.Trees.{Unconditional, MkUnconditional, Basic, OneGroup, Assign, Jump, CallStatement, Dummy}
use Rattle.gier_tree.specs.Trees.{Conditional, IfThen, IfElse, IfLoop, Loop, MkLoop}
use Rattle.gier_complete.proofs.Passing.{Claim, IsCarried, CodeCarries, CodeCarriesSo, none, joined, plainly}
use Rattle.gier_complete.proofs.PlacedLabels.{placed_labels, placed_declaration, placed_declarations, placed_group}
use Rattle.gier_complete.proofs.PlacedLabels.{placed_statements, placed_statement, placed_unconditional, placed_basic}
use Rattle.gier_complete.proofs.PlacedLabels.{placed_conditional, placed_loop}
use Rattle.gier_complete.proofs.PiecesCarry.{nothing_carries, then_carries}
use Rattle.gier_complete.proofs.ExpressionsCarry.{expr_carries, code_call_carries, label_value_carries}
use Rattle.gier_complete.proofs.ConstructsCarry.{also_carries, also_so, if_so, if_else_so, block_so, labels_so}
use Rattle.gier_complete.proofs.ConstructsCarry.{assignment_carries, for_so, segment_carries, segments_carry}
use Rattle.gier_complete.proofs.ConstructsCarry.{switch_so, procedure_so}

module _ (P : Claim) (h : IsCarried P) where
  no_labels : (c : Code) → CodeCarries P c → CodeCarriesSo P none c
  no_labels c k level w = plainly P h (c level w) (k level w)

  mutual
    declaration_so : (p : Places) (at : Where) (d : Declaration) → CodeCarriesSo P (placed_declaration p at d) (code_declaration p at d)
    declaration_so p at (DeclareType y ns) = no_labels no_code (nothing_carries P h)
    declaration_so p at (DeclareOwn l y ns) = no_labels no_code (nothing_carries P h)
    declaration_so p at (DeclareArrays y l s ss) = no_labels (also (segment_code p s) (segments_code p ss)) (also_carries P h (segment_code p s) (segments_code p ss) (segment_carries P h p s) (segments_carry P h p ss))
    declaration_so p at (DeclareOwnArrays o y l s ss) = no_labels no_code (nothing_carries P h)
    declaration_so p at (DeclareSwitch l x m e es) = λ level w. switch_so P h p l x (e ∷ elements_of es)
    declaration_so p at (DeclareProcedure g s) =
        let q = procedure_places (suc at.level) at.numbers g s p in
        let w1 = inner at (procedure_entries g s) in
        λ level w. procedure_so P h p (suc at.level) (need_statement (scopes_of q) s) (first_heading g) g
        (placed_statement q w1 s) (code_statement q w1 s) (statement_so q w1 s)

    declarations_so : (p : Places) (at : Where) (ds : Declarations) → CodeCarriesSo P (placed_declarations p at ds) (code_declarations p at ds)
    declarations_so p at NoDeclarations = no_labels no_code (nothing_carries P h)
    declarations_so p at (MoreDeclarations d l ds) =
        let behind = behind_declaration at d in
        also_so P h (placed_declaration p at d) (placed_declarations p behind ds) (code_declaration p at d) (code_declarations p behind ds)
        (declaration_so p at d) (declarations_so p behind ds)

    pub group_so : (p : Places) (at : Where) (g : Group) → CodeCarriesSo P (placed_group p at g) (code_group p at g)
    group_so p at (MkBlock l d m ds s ss e) =
        let q = block_places (suc at.level) at.numbers d ds s ss p in
        let w1 = inner at (block_entries d ds s ss) in
        let w2 = behind_declaration w1 d in
        let w3 = behind_declarations w2 ds in
        let w4 = behind_statement w3 s in
        let body = also (code_statement q w3 s) (code_statements q w4 ss) in
        let in_body = joined (placed_statement q w3 s) (placed_statements q w4 ss) in
        let rest = also (code_declarations q w2 ds) body in
        let in_rest = joined (placed_declarations q w2 ds) in_body in
        λ level w. block_so P h (suc at.level) (need_block (scopes_of q) d ds s ss) l (block_words d ds)
        (joined (placed_declaration q w1 d) in_rest) (also (code_declaration q w1 d) rest)
        (also_so P h (placed_declaration q w1 d) in_rest (code_declaration q w1 d) rest (declaration_so q w1 d)
        (also_so P h (placed_declarations q w2 ds) in_body (code_declarations q w2 ds) body (declarations_so q w2 ds)
        (also_so P h (placed_statement q w3 s) (placed_statements q w4 ss) (code_statement q w3 s) (code_statements q w4 ss)
        (statement_so q w3 s) (statements_so q w4 ss))))
    group_so p at (MkCompound l s ss e) =
        let behind = behind_statement at s in
        also_so P h (placed_statement p at s) (placed_statements p behind ss) (code_statement p at s) (code_statements p behind ss)
        (statement_so p at s) (statements_so p behind ss)

    statements_so : (p : Places) (at : Where) (ss : Statements) → CodeCarriesSo P (placed_statements p at ss) (code_statements p at ss)
    statements_so p at NoStatements = no_labels no_code (nothing_carries P h)
    statements_so p at (MoreStatements l s ss) =
        let behind = behind_statement at s in
        also_so P h (placed_statement p at s) (placed_statements p behind ss) (code_statement p at s) (code_statements p behind ss)
        (statement_so p at s) (statements_so p behind ss)

    statement_so : (p : Places) (at : Where) (s : Statement) → CodeCarriesSo P (placed_statement p at s) (code_statement p at s)
    statement_so p at (OneUnconditional u) = unconditional_so p at u
    statement_so p at (OneConditional c) = conditional_so p at c
    statement_so p at (OneLoop f) = loop_so p at f

    unconditional_so : (p : Places) (at : Where) (u : Unconditional) → CodeCarriesSo P (placed_unconditional p at u) (code_unconditional p at u)
    unconditional_so p at (MkUnconditional ls b) =
        also_so P h (placed_labels p ls) (placed_basic p at b) (labels_code p ls) (code_basic p at b) (labels_so P h p ls) (basic_so p at b)

    basic_so : (p : Places) (at : Where) (b : Basic) → CodeCarriesSo P (placed_basic p at b) (code_basic p at b)
    basic_so p at (OneGroup g) = group_so p at g
    basic_so p at (Assign q qs e) = no_labels (code_basic p at (Assign q qs e)) (assignment_carries P h p q qs e)
    basic_so p at (Jump l e) = no_labels (code_basic p at (Jump l e)) (then_carries P h op.Go tt l (code_label p e) (label_value_carries P h p e))
    basic_so p at (CallStatement c) = no_labels (code_basic p at (CallStatement c)) (code_call_carries P h p c)
    basic_so p at Dummy = no_labels no_code (nothing_carries P h)

    conditional_so : (p : Places) (at : Where) (c : Conditional) → CodeCarriesSo P (placed_conditional p at c) (code_conditional p at c)
    conditional_so p at (IfThen ls l e m u) =
        also_so P h (placed_labels p ls) (placed_unconditional p at u) (labels_code p ls) (if_code l (code_expr p e) (code_unconditional p at u)) (labels_so P h p ls)
        (if_so P h l (placed_unconditional p at u) (code_expr p e) (code_unconditional p at u) (expr_carries P h p e) (unconditional_so p at u))
    conditional_so p at (IfElse ls l e m u n s) =
        let behind = further at (numbers_unconditional u) (owns_in_unconditional u) in
        also_so P h (placed_labels p ls) (joined (placed_unconditional p at u) (placed_statement p behind s)) (labels_code p ls)
        (if_else_code l (code_expr p e) (code_unconditional p at u) (code_statement p behind s)) (labels_so P h p ls)
        (if_else_so P h l (placed_unconditional p at u) (placed_statement p behind s) (code_expr p e) (code_unconditional p at u) (code_statement p behind s)
        (expr_carries P h p e) (unconditional_so p at u) (statement_so p behind s))
    conditional_so p at (IfLoop ls l e m f) =
        also_so P h (placed_labels p ls) (placed_loop p at f) (labels_code p ls) (if_code l (code_expr p e) (code_loop p at f)) (labels_so P h p ls)
        (if_so P h l (placed_loop p at f) (code_expr p e) (code_loop p at f) (expr_carries P h p e) (loop_so p at f))

    loop_so : (p : Places) (at : Where) (f : Loop) → CodeCarriesSo P (placed_loop p at f) (code_loop p at f)
    loop_so p at (MkLoop ls l x m t ts n s) =
        let q = turn_places at.level at.numbers s p in
        let behind = further at (entries_numbers (turn_entries s)) 0 in
        also_so P h (placed_labels p ls) (placed_statement q behind s) (labels_code p ls) (for_code p l x t ts (code_statement q behind s)) (labels_so P h p ls)
        (for_so P h p l (placed_statement q behind s) x t ts (code_statement q behind s) (statement_so q behind s))
