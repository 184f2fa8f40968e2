-- The faults of scopes of a program as it was written, in the order of its symbols. Each part adds those of its own symbols to
-- those of its parts, by what stands around it; what is wrong at a single place is said in Places.
use Rattle.std.specs.Prelude.{◌++◌, ℕ, suc, List, [], ◌∷◌}
use Rattle.gier_tree.specs.Declaring.{list_of, name_of_heading, names_of_segment, own_names, labels_of_unconditional}
use Rattle.gier_tree.specs.Trees.{Name, Segment, MkSegment, NextSegment, Heading, MkHeading, LabelPlace, Declaration, DeclareType}
use Rattle.gier_tree.specs.Trees.{DeclareOwn, DeclareArrays, DeclareOwnArrays, DeclareSwitch, DeclareProcedure, Declarations}
use Rattle.gier_tree.specs.Trees.{NoDeclarations, MoreDeclarations, Group, MkBlock, MkCompound, Statements, NoStatements}
use Rattle.gier_tree.specs.Trees.{MoreStatements, Statement, OneUnconditional, OneConditional, OneLoop, Unconditional}
use Rattle.gier_tree.specs.Trees.{MkUnconditional, Basic, OneGroup, Assign, Jump, CallStatement, Dummy, Conditional, IfThen}
use Rattle.gier_tree.specs.Trees.{IfElse, IfLoop, Loop, MkLoop, Program, MkProgram}
use Rattle.gier_scope.specs.Around.{Around, behind, behind_labels, behind_statement, in_block, in_procedure, in_turn, in_program}
use Rattle.gier_scope.specs.Faults.{ScopeFaults}
use Rattle.gier_scope.specs.Places.{declared_twice, not_declared, in_bounds, heading_faults, too_deep}
use Rattle.gier_scope.specs.Scopes.{label_names, declared_by, declared_by_all}
use Rattle.gier_scope.specs.Uses.{uses_expr, uses_exprs, uses_call, uses_pairs, uses_parts, uses_list}

-- places that declare, uses, and labels, where a part stands
abbrev pub places_in : Around → List Name → ScopeFaults
places_in a xs = declared_twice a.before xs

abbrev pub uses_in : Around → List Name → ScopeFaults
uses_in a xs = not_declared a.scopes xs

abbrev pub labels_in : Around → List LabelPlace → ScopeFaults
labels_in a ls = places_in a (label_names ls)

-- the arrays of a segment, and then its bounds (5.2)
abbrev pub faults_segment : Around → Segment → ScopeFaults
faults_segment a (MkSegment ns l p ps m) = places_in a (list_of ns) ++ in_bounds a.scopes (uses_pairs p ps)

abbrev pub faults_segments : Around → List NextSegment → ScopeFaults
faults_segments a [] = []
faults_segments a (s ∷ ss) = faults_segment a s.segment ++ faults_segments (behind (names_of_segment s.segment) a) ss

abbrev pub procedure_line : Heading → ℕ
procedure_line (MkHeading t l x fs m vs ss) = l

abbrev mutual
  pub faults_declaration : Around → Declaration → ScopeFaults
  faults_declaration a (DeclareType t ns) = places_in a (list_of ns)
  faults_declaration a (DeclareOwn l t ns) = places_in a (list_of ns)
  faults_declaration a (DeclareArrays t l s ss) = faults_segment a s ++ faults_segments (behind (names_of_segment s) a) ss
  faults_declaration a (DeclareOwnArrays k t l s ss) = places_in a (own_names (DeclareOwnArrays k t l s ss))
  faults_declaration a (DeclareSwitch l x m e es) = places_in a (x ∷ []) ++ uses_in a (uses_expr e ++ uses_exprs es)
  faults_declaration a (DeclareProcedure h s) =
      too_deep (suc a.level) (procedure_line h) ++ places_in a (name_of_heading h ∷ []) ++ heading_faults h
      ++ faults_statement (in_procedure h s a) s

  pub faults_declarations : Around → Declarations → ScopeFaults
  faults_declarations a NoDeclarations = []
  faults_declarations a (MoreDeclarations d l ds) = faults_declaration a d ++ faults_declarations (behind (declared_by d) a) ds

  pub faults_group : Around → Group → ScopeFaults
  faults_group a (MkBlock l d m ds s ss n) =
      let b = in_block d ds s ss a in
      let c = behind (declared_by d) b in
      let e = behind (declared_by_all ds) c in
      too_deep b.level l ++ faults_declaration b d ++ faults_declarations c ds
      ++ faults_statement e s ++ faults_statements (behind_statement s e) ss
  faults_group a (MkCompound l s ss m) = faults_statement a s ++ faults_statements (behind_statement s a) ss

  pub faults_statements : Around → Statements → ScopeFaults
  faults_statements a NoStatements = []
  faults_statements a (MoreStatements l s ss) = faults_statement a s ++ faults_statements (behind_statement s a) ss

  pub faults_statement : Around → Statement → ScopeFaults
  faults_statement a (OneUnconditional u) = faults_unconditional a u
  faults_statement a (OneConditional c) = faults_conditional a c
  faults_statement a (OneLoop f) = faults_loop a f

  pub faults_unconditional : Around → Unconditional → ScopeFaults
  faults_unconditional a (MkUnconditional ls b) = labels_in a ls ++ faults_basic (behind_labels ls a) b

  pub faults_basic : Around → Basic → ScopeFaults
  faults_basic a (OneGroup g) = faults_group a g
  faults_basic a (Assign p ps e) = uses_in a (uses_parts p ps ++ uses_expr e)
  faults_basic a (Jump l e) = uses_in a (uses_expr e)
  faults_basic a (CallStatement c) = uses_in a (uses_call c)
  faults_basic a Dummy = []

  pub faults_conditional : Around → Conditional → ScopeFaults
  faults_conditional a (IfThen ls l e m u) =
      labels_in a ls ++ uses_in a (uses_expr e) ++ faults_unconditional (behind_labels ls a) u
  faults_conditional a (IfElse ls l e m u n s) =
      let b = behind_labels ls a in
      labels_in a ls ++ uses_in a (uses_expr e) ++ faults_unconditional b u
      ++ faults_statement (behind_labels (labels_of_unconditional u []) b) s
  faults_conditional a (IfLoop ls l e m f) = labels_in a ls ++ uses_in a (uses_expr e) ++ faults_loop (behind_labels ls a) f

  pub faults_loop : Around → Loop → ScopeFaults
  faults_loop a (MkLoop ls l x m t ts n s) = labels_in a ls ++ uses_in a (x ∷ uses_list t ts) ++ faults_statement (in_turn s a) s

abbrev pub scope_faults : Program → ScopeFaults
scope_faults (MkProgram ls g l) = let a = in_program (MkProgram ls g l) in labels_in a ls ++ faults_group (behind_labels ls a) g
