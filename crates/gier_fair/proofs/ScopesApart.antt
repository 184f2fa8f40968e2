-- What a part without faults of scopes declares is distinct, and apart from what its scope declares before it.
use Rattle.std.proofs.Common.{◌≡◌, suc, List, [], ◌∷◌, sym, subst}
use Rattle.std.specs.Prelude.{◌++◌}
use Rattle.gier_tree.specs.Declaring.{list_of, name_of_heading, names_of_segment, names_of_segments, own_names, labels_of_statement, labels_of_statements, labels_of_unconditional, labels_of_basic, labels_of_group, labels_of_conditional, labels_of_loop}
use Rattle.gier_tree.specs.Trees.{LabelPlace, Segment, MkSegment, NextSegment, Declaration, DeclareType, DeclareOwn, DeclareArrays, DeclareOwnArrays, DeclareSwitch, DeclareProcedure, Declarations, NoDeclarations, MoreDeclarations, Group, MkBlock, MkCompound, Statements, NoStatements, MoreStatements, Statement, OneUnconditional, OneConditional, OneLoop, Unconditional, MkUnconditional, Basic, OneGroup, Assign, Jump, CallStatement, Dummy, Conditional, IfThen, IfElse, IfLoop, Loop, MkLoop}
use Rattle.gier_scope.specs.Around.{Around, behind, behind_labels, behind_statement, in_procedure, in_turn}
use Rattle.gier_scope.specs.Places.{in_bounds, too_deep, heading_faults}
use Rattle.gier_scope.specs.ScopeFaults.{places_in, uses_in, labels_in, faults_segment, faults_segments, faults_declaration, faults_declarations, faults_group, faults_statements, faults_statement, faults_unconditional, faults_basic, faults_conditional, faults_loop, procedure_line}
use Rattle.gier_scope.specs.Scopes.{Scope, scope_of, label_names, declared_by, declared_by_all}
use Rattle.gier_scope.specs.Uses.{uses_expr, uses_exprs, uses_pairs, uses_list}
use Rattle.gier_fair.proofs.Apart.{Apart, nothing_apart, names_apart, more_apart, labels_apart}
use Rattle.gier_fair.proofs.LabelsOf.{split_statement, split_unconditional}
use Rattle.gier_fair.proofs.Lists.{both_empty, three_empty, four_empty}

-- the labels of a part
abbrev pub labels : List LabelPlace → Scope
labels ls = scope_of (label_names ls)

segment_apart : (a : Around) (g : Segment) → faults_segment a g ≡ [] → Apart a.before (scope_of (names_of_segment g))
segment_apart a (MkSegment ns l p ps m) e =
    names_apart a.before (list_of ns) (both_empty (places_in a (list_of ns)) (in_bounds a.scopes (uses_pairs p ps)) e).0

segments_apart : (a : Around) (gs : List NextSegment) → faults_segments a gs ≡ [] → Apart a.before (scope_of (names_of_segments gs))
segments_apart a [] e = nothing_apart a.before
segments_apart a (g ∷ gs) e =
    let b = behind (names_of_segment g.segment) a in
    let q = both_empty (faults_segment a g.segment) (faults_segments b gs) e in
    more_apart a.before (names_of_segment g.segment) (names_of_segments gs) (segment_apart a g.segment q.0) (segments_apart b gs q.1)

pub declaration_apart : (a : Around) (d : Declaration) → faults_declaration a d ≡ [] → Apart a.before (scope_of (declared_by d))
declaration_apart a (DeclareType t ns) e = names_apart a.before (list_of ns) e
declaration_apart a (DeclareOwn l t ns) e = names_apart a.before (list_of ns) e
declaration_apart a (DeclareArrays t l g gs) e =
    let b = behind (names_of_segment g) a in
    let q = both_empty (faults_segment a g) (faults_segments b gs) e in
    more_apart a.before (names_of_segment g) (names_of_segments gs) (segment_apart a g q.0) (segments_apart b gs q.1)
declaration_apart a (DeclareOwnArrays k t l g gs) e = names_apart a.before (own_names (DeclareOwnArrays k t l g gs)) e
declaration_apart a (DeclareSwitch l x m s ss) e =
    names_apart a.before (x ∷ []) (both_empty (places_in a (x ∷ [])) (uses_in a (uses_expr s ++ uses_exprs ss)) e).0
declaration_apart a (DeclareProcedure h s) e =
    let deep = too_deep (suc a.level) (procedure_line h) in
    let named = places_in a (name_of_heading h ∷ []) in
    names_apart a.before (name_of_heading h ∷ []) (four_empty deep named (heading_faults h) (faults_statement (in_procedure h s a) s) e).1

pub declarations_apart : (a : Around) (ds : Declarations) → faults_declarations a ds ≡ [] → Apart a.before (scope_of (declared_by_all ds))
declarations_apart a NoDeclarations e = nothing_apart a.before
declarations_apart a (MoreDeclarations d l ds) e =
    let b = behind (declared_by d) a in
    let q = both_empty (faults_declaration a d) (faults_declarations b ds) e in
    more_apart a.before (declared_by d) (declared_by_all ds) (declaration_apart a d q.0) (declarations_apart b ds q.1)

-- labels, and then those of another part
then_labels : (before : Scope) (ls ms all : List LabelPlace) → all ≡ ls ++ ms → Apart before (labels ls) → Apart (labels ls ++ before) (labels ms) → Apart before (labels all)
then_labels before ls ms all same h k = subst (λ ls. Apart before (labels ls)) (sym same) (labels_apart before ls ms h k)

mutual
  pub statement_apart : (a : Around) (s : Statement) → faults_statement a s ≡ [] → Apart a.before (labels (labels_of_statement s []))
  statement_apart a (OneUnconditional u) e = unconditional_apart a u e
  statement_apart a (OneConditional c) e = conditional_apart a c e
  statement_apart a (OneLoop f) e = loop_apart a f e

  pub statements_apart : (a : Around) (ss : Statements) → faults_statements a ss ≡ [] → Apart a.before (labels (labels_of_statements ss []))
  statements_apart a NoStatements e = nothing_apart a.before
  statements_apart a (MoreStatements l s ss) e =
      let b = behind_statement s a in
      let q = both_empty (faults_statement a s) (faults_statements b ss) e in
      then_labels a.before (labels_of_statement s []) (labels_of_statements ss []) (labels_of_statements (MoreStatements l s ss) []) (split_statement s (labels_of_statements ss [])) (statement_apart a s q.0) (statements_apart b ss q.1)

  unconditional_apart : (a : Around) (u : Unconditional) → faults_unconditional a u ≡ [] → Apart a.before (labels (labels_of_unconditional u []))
  unconditional_apart a (MkUnconditional ls b) e =
      let q = both_empty (labels_in a ls) (faults_basic (behind_labels ls a) b) e in
      labels_apart a.before ls (labels_of_basic b []) (names_apart a.before (label_names ls) q.0) (basic_apart (behind_labels ls a) b q.1)

  basic_apart : (a : Around) (b : Basic) → faults_basic a b ≡ [] → Apart a.before (labels (labels_of_basic b []))
  basic_apart a (OneGroup g) e = group_apart a g e
  basic_apart a (Assign p ps x) e = nothing_apart a.before
  basic_apart a (Jump l x) e = nothing_apart a.before
  basic_apart a (CallStatement c) e = nothing_apart a.before
  basic_apart a Dummy e = nothing_apart a.before

  pub group_apart : (a : Around) (g : Group) → faults_group a g ≡ [] → Apart a.before (labels (labels_of_group g []))
  group_apart a (MkBlock l d m ds s ss n) e = nothing_apart a.before
  group_apart a (MkCompound l s ss m) e =
      let b = behind_statement s a in
      let q = both_empty (faults_statement a s) (faults_statements b ss) e in
      then_labels a.before (labels_of_statement s []) (labels_of_statements ss []) (labels_of_group (MkCompound l s ss m) []) (split_statement s (labels_of_statements ss [])) (statement_apart a s q.0) (statements_apart b ss q.1)

  conditional_apart : (a : Around) (c : Conditional) → faults_conditional a c ≡ [] → Apart a.before (labels (labels_of_conditional c []))
  conditional_apart a (IfThen ls l x m u) e =
      let b = behind_labels ls a in
      let q = three_empty (labels_in a ls) (uses_in a (uses_expr x)) (faults_unconditional b u) e in
      labels_apart a.before ls (labels_of_unconditional u []) (names_apart a.before (label_names ls) q.0) (unconditional_apart b u q.2)
  conditional_apart a (IfElse ls l x m u n s) e =
      let b = behind_labels ls a in
      let c = behind_labels (labels_of_unconditional u []) b in
      let q = four_empty (labels_in a ls) (uses_in a (uses_expr x)) (faults_unconditional b u) (faults_statement c s) e in
      labels_apart a.before ls (labels_of_unconditional u (labels_of_statement s [])) (names_apart a.before (label_names ls) q.0)
      (then_labels b.before (labels_of_unconditional u []) (labels_of_statement s []) (labels_of_unconditional u (labels_of_statement s [])) (split_unconditional u (labels_of_statement s [])) (unconditional_apart b u q.2) (statement_apart c s q.3))
  conditional_apart a (IfLoop ls l x m f) e =
      let b = behind_labels ls a in
      let q = three_empty (labels_in a ls) (uses_in a (uses_expr x)) (faults_loop b f) e in
      labels_apart a.before ls (labels_of_loop f []) (names_apart a.before (label_names ls) q.0) (loop_apart b f q.2)

  loop_apart : (a : Around) (f : Loop) → faults_loop a f ≡ [] → Apart a.before (labels (labels_of_loop f []))
  loop_apart a (MkLoop ls l x m t ts n s) e =
      let q = three_empty (labels_in a ls) (uses_in a (x ∷ uses_list t ts)) (faults_statement (in_turn s a) s) e in
      labels_apart a.before ls [] (names_apart a.before (label_names ls) q.0) (nothing_apart (labels ls ++ a.before))
