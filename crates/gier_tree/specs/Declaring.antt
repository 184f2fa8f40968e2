-- The identifiers that declarations, headings and labels declare, in the order of the text. Each function takes what follows.
use Rattle.std.specs.Prelude.{List, [], ◌∷◌, ◌++◌, map}
use Rattle.gier_tree.specs.Trees.{Name, Names, MkNames, Segment, MkSegment, NextSegment, FixedSegment, MkFixed, NextFixed}
use Rattle.gier_tree.specs.Trees.{Heading, MkHeading, Formals, NoFormals, FormalList, LabelPlace, Declaration, DeclareOwn}
use Rattle.gier_tree.specs.Trees.{DeclareOwnArrays, Group, MkBlock, MkCompound, Statements, NoStatements, MoreStatements}
use Rattle.gier_tree.specs.Trees.{Statement, OneUnconditional, OneConditional, OneLoop, Unconditional, MkUnconditional, Basic}
use Rattle.gier_tree.specs.Trees.{OneGroup, Assign, Jump, CallStatement, Dummy, Conditional, IfThen, IfElse, IfLoop, Loop, MkLoop}
use Rattle.gier_tree.specs.Trees.{Program, MkProgram}

abbrev pub list_of : Names → List Name
list_of (MkNames x ns) = x ∷ map (λ n. n.name) ns

abbrev pub names_of_segment : Segment → List Name
names_of_segment (MkSegment ns l p ps m) = list_of ns

abbrev pub names_of_segments : List NextSegment → List Name
names_of_segments [] = []
names_of_segments (s ∷ ss) = names_of_segment s.segment ++ names_of_segments ss

abbrev pub names_of_fixed : FixedSegment → List Name
names_of_fixed (MkFixed ns l p ps m) = list_of ns

abbrev pub names_of_fixeds : List NextFixed → List Name
names_of_fixeds [] = []
names_of_fixeds (s ∷ ss) = names_of_fixed s.segment ++ names_of_fixeds ss

-- the formals of a heading (5.4.3)
abbrev pub formal_names : Formals → List Name
formal_names NoFormals = []
formal_names (FormalList l ns m) = list_of ns

abbrev pub formals_of : Heading → List Name
formals_of (MkHeading t l x fs m vs ss) = formal_names fs

abbrev pub name_of_heading : Heading → Name
name_of_heading (MkHeading t l x fs m vs ss) = x

-- the own quantities of a declaration (5)
abbrev pub own_names : Declaration → List Name
own_names (DeclareOwn l t ns) = list_of ns
own_names (DeclareOwnArrays k t l s ss) = names_of_fixed s ++ names_of_fixeds ss
own_names d = []

-- the labels that belong to the scope in which a statement stands: those of it and of the parts of compounds and
-- conditionals, but none within a block or a controlled statement (4.1.3, 4.6.6)
abbrev mutual
  pub labels_of_statement : Statement → List LabelPlace → List LabelPlace
  labels_of_statement (OneUnconditional u) rest = labels_of_unconditional u rest
  labels_of_statement (OneConditional c) rest = labels_of_conditional c rest
  labels_of_statement (OneLoop f) rest = labels_of_loop f rest

  pub labels_of_statements : Statements → List LabelPlace → List LabelPlace
  labels_of_statements NoStatements rest = rest
  labels_of_statements (MoreStatements l s ss) rest = labels_of_statement s (labels_of_statements ss rest)

  pub labels_of_unconditional : Unconditional → List LabelPlace → List LabelPlace
  labels_of_unconditional (MkUnconditional ls b) rest = ls ++ labels_of_basic b rest

  pub labels_of_basic : Basic → List LabelPlace → List LabelPlace
  labels_of_basic (OneGroup g) rest = labels_of_group g rest
  labels_of_basic (Assign p ps e) rest = rest
  labels_of_basic (Jump l e) rest = rest
  labels_of_basic (CallStatement c) rest = rest
  labels_of_basic Dummy rest = rest

  pub labels_of_group : Group → List LabelPlace → List LabelPlace
  labels_of_group (MkBlock l d m ds s ss n) rest = rest
  labels_of_group (MkCompound l s ss m) rest = labels_of_statement s (labels_of_statements ss rest)

  pub labels_of_conditional : Conditional → List LabelPlace → List LabelPlace
  labels_of_conditional (IfThen ls l e m u) rest = ls ++ labels_of_unconditional u rest
  labels_of_conditional (IfElse ls l e m u n s) rest = ls ++ labels_of_unconditional u (labels_of_statement s rest)
  labels_of_conditional (IfLoop ls l e m f) rest = ls ++ labels_of_loop f rest

  pub labels_of_loop : Loop → List LabelPlace → List LabelPlace
  labels_of_loop (MkLoop ls l x m t ts n s) rest = ls ++ rest

abbrev pub labels_of_program : Program → List LabelPlace
labels_of_program (MkProgram ls g l) = ls ++ labels_of_group g []
