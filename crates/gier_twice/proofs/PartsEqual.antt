-- Kinds of formals, labels and lines are the same for texts and for meanings.
use Rattle.std.proofs.Common.{◌≡◌, ◌∙◌, ◌++◌, ℕ, Bool, true, false, List, [], ◌∷◌, refl, sym as back, ap, ap₂, append-nil}
use Rattle.std.specs.Prelude.{map, Option, None, Some}
use Rattle.gier_agree.specs.declared.kind.Kind.{Kind as Fitting}
use Rattle.gier_tree.specs.declared.kind.Kind.{Kind}
use Rattle.gier_tree.specs.Coded.{formal_fitting}
use Rattle.gier_tree.specs.Declaring.{list_of, labels_of_statement, labels_of_program, labels_of_group}
use Rattle.gier_tree.specs.Described as scope
use Rattle.gier_tree.specs.Hoist as hoist
use Rattle.gier_tree.specs.Lines.{first_program, first_heading, first_name, group_begin}
use Rattle.gier_tree.specs.Texts.{fixed_count}
use Rattle.gier_tree.specs.Trees as tree
use Rattle.gier_tree.specs.Trees.{LabelPlace, MkHeading, MkNames, MkProgram, MkBlock, MkCompound, TypeWord, ValueType, IntegerType, BooleanType}
use Rattle.gier_meaning.specs.Plain as plain
use Rattle.gier_meaning.specs.Scopes.{labels}
use Rattle.gier_meaning.specs.What.{kinds}
use Rattle.gier_twice.specs.SameParts.{label_numbers, LinesAreEqual}
use Rattle.gier_twice.proofs.SameScopes.{formal_by, label_names, labels_same, list_same, numbers}

specified_fitting : (s : tree.Specifier) (b : Bool) → formal_fitting (scope.specified_kind s b) ≡ plain.specified_kind s b
specified_fitting (tree.ValueSpec t) b = typed t.type b
  where
    typed : (t : ValueType) (b : Bool) → formal_fitting (scope.specified_kind (tree.ValueSpec (record { type = t; line = 0 })) b) ≡ plain.passed_kind t b
    typed IntegerType true = refl
    typed IntegerType false = refl
    typed BooleanType true = refl
    typed BooleanType false = refl
specified_fitting (tree.ArraySpec t l) b = typed t.type
  where
    typed : (t : ValueType) → formal_fitting (scope.array_formal_kind t) ≡ plain.array_kind t
    typed IntegerType = refl
    typed BooleanType = refl
specified_fitting (tree.LabelSpec l) b = refl
specified_fitting (tree.SwitchSpec l) b = refl
specified_fitting (tree.StringSpec l) b = refl
specified_fitting (tree.ProcedureSpec l) b = refl
specified_fitting (tree.FunctionSpec t l) b = typed t.type
  where
    typed : (t : ValueType) → formal_fitting (scope.function_formal_kind t) ≡ plain.function_kind t
    typed IntegerType = refl
    typed BooleanType = refl

listed_formals : (ss : List tree.Specification) (vs : tree.ValuePart) (xs : List tree.Name)
    → map formal_fitting (map (λ x. scope.formal_kind ss vs x.number) xs) ≡ kinds (plain.formals_from vs ss xs)
listed_formals ss vs [] = refl
listed_formals ss vs (x ∷ xs) =
    ap₂ (λ k ks. k ∷ ks) (formal_by (λ k g. formal_fitting k ≡ g) refl specified_fitting ss vs x.number) (listed_formals ss vs xs)

pub formals_equal : (type : Option TypeWord) (l : ℕ) (x : tree.Name) (fs : tree.Formals) (m : ℕ) (vs : tree.ValuePart)
    (ss : List tree.Specification)
    → map formal_fitting (scope.formal_kinds (MkHeading type l x fs m vs ss)) ≡ kinds (plain.formals fs vs ss)
formals_equal type l x tree.NoFormals m vs ss = refl
formals_equal type l x (tree.FormalList k ns n) m vs ss =
    listed_formals ss vs (list_of ns) ∙ ap (λ xs. kinds (plain.formals_from vs ss xs)) (back (list_same ns))

numbers_same : (ls : List LabelPlace) → label_numbers ls ≡ numbers (label_names ls)
numbers_same [] = refl
numbers_same (l ∷ ls) = ap (λ r. l.name.number ∷ r) (numbers_same ls)

pub labels_equal : (s : tree.Statement) → label_numbers (labels_of_statement s []) ≡ labels (plain.statement s)
labels_equal s = numbers_same (labels_of_statement s []) ∙ labels_same s [] ∙ append-nil (labels (plain.statement s))

pub program_labels_equal : (t : tree.Program) → label_numbers (labels_of_program t) ≡ labels (plain.plain t).statement
program_labels_equal (MkProgram ls g l) =
    labels_equal (tree.OneUnconditional (tree.MkUnconditional ls (tree.OneGroup g)))

pub lines_equal : LinesAreEqual
lines_equal = record {
  program = program;
  hoisted_group = hoisted;
  group = group;
  names = names;
  heading = heading;
}
  where
    hoisted : (g : tree.Group) → hoist.begin_line g ≡ group_begin g
    hoisted (MkBlock l d m ds s ss n) = refl
    hoisted (MkCompound l s ss m) = refl

    group : (g : tree.Group) → plain.begin_line g ≡ group_begin g
    group (MkBlock l d m ds s ss n) = refl
    group (MkCompound l s ss m) = refl

    program : (t : tree.Program) → hoist.first_line t ≡ first_program t
    program (MkProgram [] (MkBlock l d m ds s ss n) e) = refl
    program (MkProgram [] (MkCompound l s ss m) e) = refl
    program (MkProgram (p ∷ ls) g e) = refl

    names : (ns : tree.Names) → plain.first_line ns ≡ first_name ns
    names (MkNames x ns) = refl

    heading : (type : Option TypeWord) (l : ℕ) (x : tree.Name) (fs : tree.Formals) (m : ℕ) (vs : tree.ValuePart)
        (ss : List tree.Specification) → plain.heading_line type l ≡ first_heading (MkHeading type l x fs m vs ss)
    heading None l x fs m vs ss = refl
    heading (Some t) l x fs m vs ss = refl

pub counts_equal : (s : tree.FixedSegment) → hoist.count_fixed s ≡ fixed_count s
counts_equal (tree.MkFixed ns l p ps m) = refl
