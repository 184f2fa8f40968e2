-- The entries of a scope: the identifiers that it declares, in the order of the text, with what is known of each. The labels of a
-- scope come last. Where own quantities are hoisted, an own declaration has no entry in its place.
use Rattle.std.specs.Prelude.{ℕ, suc, ◌+◌, List, [], ◌∷◌, ◌++◌, map, length}
use Rattle.gier_tree.specs.declared.kind.Kind.{Kind}
use Rattle.gier_tree.specs.declared.kind.Kind.TheVariants.{IntegerVariable, BooleanVariable, IntegerArray, BooleanArray, Label}
use Rattle.gier_tree.specs.declared.kind.Kind.TheVariants.{Switch, Procedure, IntegerProcedure, BooleanProcedure, IntegerValue}
use Rattle.gier_tree.specs.declared.kind.Kind.TheVariants.{BooleanValue, IntegerFormal, BooleanFormal, IntegerArrayFormal}
use Rattle.gier_tree.specs.declared.kind.Kind.TheVariants.{BooleanArrayFormal, LabelFormal, SwitchFormal, StringFormal}
use Rattle.gier_tree.specs.declared.kind.Kind.TheVariants.{ProcedureFormal, IntegerProcedureFormal, BooleanProcedureFormal}
use Rattle.gier_tree.specs.Declaring.{list_of, formals_of, name_of_heading, labels_of_statement, labels_of_statements}
use Rattle.gier_tree.specs.Declaring.{labels_of_program}
use Rattle.gier_tree.specs.Described.{Described, description, plain, variable_kind, array_kind, kind_in, procedure_described}
use Rattle.gier_tree.specs.Room.{descriptor}
use Rattle.gier_tree.specs.Trees.{Name, ValueType, Segment, MkSegment, NextSegment, Heading, LabelPlace, Declaration, DeclareType}
use Rattle.gier_tree.specs.Trees.{DeclareOwn, DeclareArrays, DeclareOwnArrays, DeclareSwitch, DeclareProcedure, Declarations}
use Rattle.gier_tree.specs.Trees.{NoDeclarations, MoreDeclarations, Group, MkBlock, MkCompound, Statements, NoStatements}
use Rattle.gier_tree.specs.Trees.{MoreStatements, Statement, OneUnconditional, OneConditional, OneLoop, Unconditional}
use Rattle.gier_tree.specs.Trees.{MkUnconditional, Basic, OneGroup, Assign, Jump, CallStatement, Dummy, Conditional, IfThen}
use Rattle.gier_tree.specs.Trees.{IfElse, IfLoop, Loop, MkLoop, Program}

pub record Entry : Type 0 where
  pub name : Name
  pub what : Described

abbrev pub entry : Described → Name → Entry
entry what x = record { name = x; what = what }

abbrev pub segment_entries : ValueType → Segment → List Entry
segment_entries t (MkSegment ns l p ps m) = map (entry (description (array_kind t) (suc (length ps)) [])) (list_of ns)

abbrev pub segments_entries : ValueType → List NextSegment → List Entry
segments_entries t [] = []
segments_entries t (s ∷ ss) = segment_entries t s.segment ++ segments_entries t ss

abbrev pub declaration_entries : Declaration → List Entry
declaration_entries (DeclareType t ns) = map (entry (plain (variable_kind t.type))) (list_of ns)
declaration_entries (DeclareOwn l t ns) = []
declaration_entries (DeclareArrays t l s ss) = segment_entries t.type s ++ segments_entries t.type ss
declaration_entries (DeclareOwnArrays k t l s ss) = []
declaration_entries (DeclareSwitch l x m e es) = entry (plain Switch) x ∷ []
declaration_entries (DeclareProcedure h s) = entry (procedure_described h) (name_of_heading h) ∷ []

abbrev pub declarations_entries : Declarations → List Entry
declarations_entries NoDeclarations = []
declarations_entries (MoreDeclarations d l ds) = declaration_entries d ++ declarations_entries ds

abbrev pub label_entries : List LabelPlace → List Entry
label_entries ls = map (λ l. entry (plain Label) l.name) ls

-- of a block, a procedure, a controlled statement, and a program
abbrev pub block_entries : Declaration → Declarations → Statement → Statements → List Entry
block_entries d ds s ss =
    declaration_entries d ++ declarations_entries ds ++ label_entries (labels_of_statement s (labels_of_statements ss []))

abbrev pub procedure_entries : Heading → Statement → List Entry
procedure_entries h s = map (λ x. entry (plain (kind_in h x.number)) x) (formals_of h) ++ label_entries (labels_of_statement s [])

abbrev pub turn_entries : Statement → List Entry
turn_entries s = label_entries (labels_of_statement s [])

abbrev pub program_entries : Program → List Entry
program_entries t = label_entries (labels_of_program t)

-- the words of an activation that an identifier has
abbrev pub kind_words : Kind → (count : ℕ) → ℕ
kind_words IntegerVariable count = 1
kind_words BooleanVariable count = 1
kind_words IntegerArray count = descriptor count
kind_words BooleanArray count = descriptor count
kind_words IntegerValue count = 2
kind_words BooleanValue count = 2
kind_words IntegerFormal count = 2
kind_words BooleanFormal count = 2
kind_words IntegerArrayFormal count = 2
kind_words BooleanArrayFormal count = 2
kind_words LabelFormal count = 2
kind_words SwitchFormal count = 2
kind_words StringFormal count = 2
kind_words ProcedureFormal count = 2
kind_words IntegerProcedureFormal count = 2
kind_words BooleanProcedureFormal count = 2
kind_words kind count = 0

-- labels, switches and procedures are numbered
abbrev pub kind_numbers : Kind → ℕ
kind_numbers Label = 1
kind_numbers Switch = 1
kind_numbers Procedure = 1
kind_numbers IntegerProcedure = 1
kind_numbers BooleanProcedure = 1
kind_numbers kind = 0

abbrev pub entries_numbers : List Entry → ℕ
entries_numbers [] = 0
entries_numbers (e ∷ es) = kind_numbers e.what.kind + entries_numbers es

-- how many labels, switches and procedures the scopes within a part declare
abbrev mutual
  pub numbers_declaration : Declaration → ℕ
  numbers_declaration (DeclareType t ns) = 0
  numbers_declaration (DeclareOwn l t ns) = 0
  numbers_declaration (DeclareArrays t l s ss) = 0
  numbers_declaration (DeclareOwnArrays k t l s ss) = 0
  numbers_declaration (DeclareSwitch l x m e es) = 0
  numbers_declaration (DeclareProcedure h s) = entries_numbers (procedure_entries h s) + numbers_statement s

  pub numbers_declarations : Declarations → ℕ
  numbers_declarations NoDeclarations = 0
  numbers_declarations (MoreDeclarations d l ds) = numbers_declaration d + numbers_declarations ds

  pub numbers_group : Group → ℕ
  numbers_group (MkBlock l d m ds s ss n) = entries_numbers (block_entries d ds s ss) + numbers_declaration d
      + numbers_declarations ds + numbers_statement s + numbers_statements ss
  numbers_group (MkCompound l s ss m) = numbers_statement s + numbers_statements ss

  pub numbers_statements : Statements → ℕ
  numbers_statements NoStatements = 0
  numbers_statements (MoreStatements l s ss) = numbers_statement s + numbers_statements ss

  pub numbers_statement : Statement → ℕ
  numbers_statement (OneUnconditional u) = numbers_unconditional u
  numbers_statement (OneConditional c) = numbers_conditional c
  numbers_statement (OneLoop f) = numbers_loop f

  pub numbers_unconditional : Unconditional → ℕ
  numbers_unconditional (MkUnconditional ls b) = numbers_basic b

  pub numbers_basic : Basic → ℕ
  numbers_basic (OneGroup g) = numbers_group g
  numbers_basic (Assign p ps e) = 0
  numbers_basic (Jump l e) = 0
  numbers_basic (CallStatement c) = 0
  numbers_basic Dummy = 0

  pub numbers_conditional : Conditional → ℕ
  numbers_conditional (IfThen ls l e m u) = numbers_unconditional u
  numbers_conditional (IfElse ls l e m u n s) = numbers_unconditional u + numbers_statement s
  numbers_conditional (IfLoop ls l e m f) = numbers_loop f

  pub numbers_loop : Loop → ℕ
  numbers_loop (MkLoop ls l x m t ts n s) = entries_numbers (turn_entries s) + numbers_statement s
