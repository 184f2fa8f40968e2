-- Kinds of formals, labels of scopes and lines, each told for texts and again for meanings.
use Rattle.std.specs.Prelude.{◌≡◌, ℕ, List, [], map, Option}
use Rattle.gier_tree.specs.Coded.{formal_fitting}
use Rattle.gier_tree.specs.Declaring.{labels_of_statement, labels_of_program}
use Rattle.gier_tree.specs.Described.{formal_kinds}
use Rattle.gier_tree.specs.Hoist as hoist
use Rattle.gier_tree.specs.Lines.{first_program, first_heading, first_name, group_begin}
use Rattle.gier_tree.specs.Texts.{fixed_count}
use Rattle.gier_tree.specs.Trees as tree
use Rattle.gier_meaning.specs.Plain as plain
use Rattle.gier_meaning.specs.Scopes.{labels}
use Rattle.gier_meaning.specs.What.{kinds}

-- the kinds that the formals of a heading want of actuals; one without a specification counts as an integer by name
abbrev pub FormalsAreEqual : Type 0
FormalsAreEqual = (type : Option tree.TypeWord) (l : ℕ) (x : tree.Name) (fs : tree.Formals) (m : ℕ) (vs : tree.ValuePart)
    (ss : List tree.Specification)
    → map formal_fitting (formal_kinds (tree.MkHeading type l x fs m vs ss)) ≡ kinds (plain.formals fs vs ss)

abbrev pub label_numbers : List tree.LabelPlace → List ℕ
label_numbers ls = map (λ l. l.name.number) ls

-- the labels of the scope in which a statement stands, and those of a program
abbrev pub LabelsAreEqual : Type 0
LabelsAreEqual = (s : tree.Statement) → label_numbers (labels_of_statement s []) ≡ labels (plain.statement s)

abbrev pub ProgramLabelsAreEqual : Type 0
ProgramLabelsAreEqual = (t : tree.Program) → label_numbers (labels_of_program t) ≡ labels (plain.plain t).statement

-- the lines of first symbols
pub record LinesAreEqual : Type 0 where
  pub program : (t : tree.Program) → hoist.first_line t ≡ first_program t
  pub hoisted_group : (g : tree.Group) → hoist.begin_line g ≡ group_begin g
  pub group : (g : tree.Group) → plain.begin_line g ≡ group_begin g
  pub names : (ns : tree.Names) → plain.first_line ns ≡ first_name ns
  pub heading : (type : Option tree.TypeWord) (l : ℕ) (x : tree.Name) (fs : tree.Formals) (m : ℕ) (vs : tree.ValuePart)
      (ss : List tree.Specification) → plain.heading_line type l ≡ first_heading (tree.MkHeading type l x fs m vs ss)

-- the own quantities of a segment, counted for hoisting and for texts
abbrev pub CountsAreEqual : Type 0
CountsAreEqual = (s : tree.FixedSegment) → hoist.count_fixed s ≡ fixed_count s
