-- The labels of a statement stand before those of what follows it, and hoisting changes none of them.
use Rattle.std.proofs.Common.{◌≡◌, ℕ, List, [], refl, ap, sym, ◌∙◌}
use Rattle.std.specs.Prelude.{◌++◌, ◌+◌}
use Rattle.std.proofs.lemmas.List.{append_assoc, append-nil}
use Rattle.gier_tree.specs.Declaring.{labels_of_statement, labels_of_statements, labels_of_unconditional, labels_of_basic, labels_of_group, labels_of_conditional, labels_of_loop}
use Rattle.gier_tree.specs.Hoist.{hoist_group, hoist_statements, hoist_statement, hoist_unconditional, hoist_basic, hoist_conditional, hoist_loop}
use Rattle.gier_tree.specs.OwnCount.{owns_in_statement, owns_in_unconditional}
use Rattle.gier_tree.specs.Rename.{Renaming}
use Rattle.gier_tree.specs.Trees.{LabelPlace, Group, MkBlock, MkCompound, Statements, NoStatements, MoreStatements, Statement, OneUnconditional, OneConditional, OneLoop, Unconditional, MkUnconditional, Basic, OneGroup, Assign, Jump, CallStatement, Dummy, Conditional, IfThen, IfElse, IfLoop, Loop, MkLoop}

-- what puts some labels before those that follow
abbrev Puts : (List LabelPlace → List LabelPlace) → Type 0
Puts of = (rest : List LabelPlace) → of rest ≡ of [] ++ rest

first_put : (ls : List LabelPlace) → Puts (λ rest. ls ++ rest)
first_put ls rest = ap (λ xs. xs ++ rest) (sym (append-nil ls))

both_put : (of by : List LabelPlace → List LabelPlace) → Puts of → Puts by → Puts (λ rest. of (by rest))
both_put of by h k rest =
    h (by rest) ∙ ap (λ xs. of [] ++ xs) (k rest) ∙ sym (append_assoc (of []) (by []) rest) ∙ ap (λ xs. xs ++ rest) (sym (h (by [])))

mutual
  pub split_statement : (s : Statement) (rest : List LabelPlace) → labels_of_statement s rest ≡ labels_of_statement s [] ++ rest
  split_statement (OneUnconditional u) rest = split_unconditional u rest
  split_statement (OneConditional c) rest = split_conditional c rest
  split_statement (OneLoop f) rest = split_loop f rest

  pub split_statements : (ss : Statements) (rest : List LabelPlace) → labels_of_statements ss rest ≡ labels_of_statements ss [] ++ rest
  split_statements NoStatements rest = refl
  split_statements (MoreStatements l s ss) rest = both_put (labels_of_statement s) (labels_of_statements ss) (λ r. split_statement s r) (λ r. split_statements ss r) rest

  pub split_unconditional : (u : Unconditional) (rest : List LabelPlace) → labels_of_unconditional u rest ≡ labels_of_unconditional u [] ++ rest
  split_unconditional (MkUnconditional ls b) rest = both_put (λ r. ls ++ r) (labels_of_basic b) (first_put ls) (λ r. split_basic b r) rest

  split_basic : (b : Basic) (rest : List LabelPlace) → labels_of_basic b rest ≡ labels_of_basic b [] ++ rest
  split_basic (OneGroup g) rest = split_group g rest
  split_basic (Assign p ps e) rest = refl
  split_basic (Jump l e) rest = refl
  split_basic (CallStatement c) rest = refl
  split_basic Dummy rest = refl

  split_group : (g : Group) (rest : List LabelPlace) → labels_of_group g rest ≡ labels_of_group g [] ++ rest
  split_group (MkBlock l d m ds s ss n) rest = refl
  split_group (MkCompound l s ss m) rest = both_put (labels_of_statement s) (labels_of_statements ss) (λ r. split_statement s r) (λ r. split_statements ss r) rest

  split_conditional : (c : Conditional) (rest : List LabelPlace) → labels_of_conditional c rest ≡ labels_of_conditional c [] ++ rest
  split_conditional (IfThen ls l e m u) rest = both_put (λ r. ls ++ r) (labels_of_unconditional u) (first_put ls) (λ r. split_unconditional u r) rest
  split_conditional (IfElse ls l e m u n s) rest =
      both_put (λ r. ls ++ r) (λ r. labels_of_unconditional u (labels_of_statement s r)) (first_put ls)
      (λ r. both_put (labels_of_unconditional u) (labels_of_statement s) (λ q. split_unconditional u q) (λ q. split_statement s q) r) rest
  split_conditional (IfLoop ls l e m f) rest = both_put (λ r. ls ++ r) (labels_of_loop f) (first_put ls) (λ r. split_loop f r) rest

  split_loop : (f : Loop) (rest : List LabelPlace) → labels_of_loop f rest ≡ labels_of_loop f [] ++ rest
  split_loop (MkLoop ls l x m t ts n s) rest = first_put ls rest

mutual
  pub same_statement : (s : Statement) (i : ℕ) (f : Renaming) (rest : List LabelPlace) → labels_of_statement (hoist_statement s i f) rest ≡ labels_of_statement s rest
  same_statement (OneUnconditional u) i f rest = same_unconditional u i f rest
  same_statement (OneConditional c) i f rest = same_conditional c i f rest
  same_statement (OneLoop x) i f rest = same_loop x i f rest

  pub same_statements : (ss : Statements) (i : ℕ) (f : Renaming) (rest : List LabelPlace) → labels_of_statements (hoist_statements ss i f) rest ≡ labels_of_statements ss rest
  same_statements NoStatements i f rest = refl
  same_statements (MoreStatements l s ss) i f rest =
      same_statement s i f (labels_of_statements (hoist_statements ss (i + owns_in_statement s) f) rest) ∙ ap (labels_of_statement s) (same_statements ss (i + owns_in_statement s) f rest)

  same_unconditional : (u : Unconditional) (i : ℕ) (f : Renaming) (rest : List LabelPlace) → labels_of_unconditional (hoist_unconditional u i f) rest ≡ labels_of_unconditional u rest
  same_unconditional (MkUnconditional ls b) i f rest = ap (λ xs. ls ++ xs) (same_basic b i f rest)

  same_basic : (b : Basic) (i : ℕ) (f : Renaming) (rest : List LabelPlace) → labels_of_basic (hoist_basic b i f) rest ≡ labels_of_basic b rest
  same_basic (OneGroup g) i f rest = same_group g i f rest
  same_basic (Assign p ps e) i f rest = refl
  same_basic (Jump l e) i f rest = refl
  same_basic (CallStatement c) i f rest = refl
  same_basic Dummy i f rest = refl

  pub same_group : (g : Group) (i : ℕ) (f : Renaming) (rest : List LabelPlace) → labels_of_group (hoist_group g i f) rest ≡ labels_of_group g rest
  same_group (MkBlock l d m ds s ss n) i f rest = refl
  same_group (MkCompound l s ss m) i f rest =
      same_statement s i f (labels_of_statements (hoist_statements ss (i + owns_in_statement s) f) rest) ∙ ap (labels_of_statement s) (same_statements ss (i + owns_in_statement s) f rest)

  same_conditional : (c : Conditional) (i : ℕ) (f : Renaming) (rest : List LabelPlace) → labels_of_conditional (hoist_conditional c i f) rest ≡ labels_of_conditional c rest
  same_conditional (IfThen ls l e m u) i f rest = ap (λ xs. ls ++ xs) (same_unconditional u i f rest)
  same_conditional (IfElse ls l e m u n s) i f rest =
      ap (λ xs. ls ++ xs) (same_unconditional u i f (labels_of_statement (hoist_statement s (i + owns_in_unconditional u) f) rest) ∙ ap (labels_of_unconditional u) (same_statement s (i + owns_in_unconditional u) f rest))
  same_conditional (IfLoop ls l e m x) i f rest = ap (λ xs. ls ++ xs) (same_loop x i f rest)

  same_loop : (x : Loop) (i : ℕ) (f : Renaming) (rest : List LabelPlace) → labels_of_loop (hoist_loop x i f) rest ≡ labels_of_loop x rest
  same_loop (MkLoop ls l x m t ts n s) i f rest = refl
