-- The labels of a scope: the same in the tree that is spelt and in the one that is executed; each has an entity of its own.
use Rattle.std.proofs.Common.{◌≡◌, ℕ, zero, suc, ◌+◌, ◌<◌, Bool, true, false, List, [], ◌∷◌, ◌++◌, length, refl, sym, ap, ◌∙◌, arith}
use Rattle.std.specs.Prelude.{map, ◌==◌, ◌||◌, if◌then◌else◌}
use Rattle.std.proofs.lemmas.Bool.{eq-eqb, ne_eqb}
use Rattle.std.proofs.lemmas.List.{append_assoc, append-nil}
use Rattle.gier_tree.specs.Declaring.{labels_of_statement, labels_of_statements, labels_of_unconditional, labels_of_basic, labels_of_group, labels_of_conditional, labels_of_loop}
use Rattle.gier_tree.specs.Trees as tree
use Rattle.gier_tree.specs.Trees.{LabelPlace}
use Rattle.gier_meaning.specs.Plain.{with_labels, statement, statements, unconditional, basic, group, conditional, loop}
use Rattle.gier_meaning.specs.Scopes.{labels, all_labels}
use Rattle.gier_meaning.specs.State.{State, ALabel, with_entity}
use Rattle.gier_meaning.specs.Tree.{Statement}
use Rattle.gier_meaning.specs.TurnLabels.{entities_from, labels_made}
use Rattle.gier_meaning.specs.Outcome.{is_among}

-- the identifiers of labels
abbrev pub identifiers : List LabelPlace → List ℕ
identifiers ls = map (λ l. l.name.number) ls

identifiers_both : (a b : List LabelPlace) → identifiers (a ++ b) ≡ identifiers a ++ identifiers b
identifiers_both [] b = refl
identifiers_both (l ∷ a) b = ap (λ xs. l.name.number ∷ xs) (identifiers_both a b)

labels_labelled : (ls : List LabelPlace) (s : Statement) → labels (with_labels ls s) ≡ identifiers ls ++ labels s
labels_labelled [] s = refl
labels_labelled (l ∷ ls) s = ap (λ xs. l.name.number ∷ xs) (labels_labelled ls s)

-- labels in front of a statement whose own are known
in_front : (ls all rest : List LabelPlace) (s : Statement) → identifiers all ≡ labels s ++ identifiers rest → identifiers (ls ++ all) ≡ labels (with_labels ls s) ++ identifiers rest
in_front ls all rest s e =
    identifiers_both ls all ∙ ap (λ xs. identifiers ls ++ xs) e ∙ sym (append_assoc (identifiers ls) (labels s) (identifiers rest))
    ∙ sym (ap (λ xs. xs ++ identifiers rest) (labels_labelled ls s))

mutual
  pub same_statement : (s : tree.Statement) (rest : List LabelPlace) → identifiers (labels_of_statement s rest) ≡ labels (statement s) ++ identifiers rest
  same_statement (tree.OneUnconditional u) rest = same_unconditional u rest
  same_statement (tree.OneConditional c) rest = same_conditional c rest
  same_statement (tree.OneLoop f) rest = same_loop f rest

  pub same_statements : (ss : tree.Statements) (rest : List LabelPlace) → identifiers (labels_of_statements ss rest) ≡ all_labels (statements ss) ++ identifiers rest
  same_statements tree.NoStatements rest = refl
  same_statements (tree.MoreStatements l s ss) rest =
      same_statement s (labels_of_statements ss rest) ∙ ap (λ xs. labels (statement s) ++ xs) (same_statements ss rest)
      ∙ sym (append_assoc (labels (statement s)) (all_labels (statements ss)) (identifiers rest))

  pub same_unconditional : (u : tree.Unconditional) (rest : List LabelPlace) → identifiers (labels_of_unconditional u rest) ≡ labels (unconditional u) ++ identifiers rest
  same_unconditional (tree.MkUnconditional ls b) rest = in_front ls (labels_of_basic b rest) rest (basic b) (same_basic b rest)

  same_basic : (b : tree.Basic) (rest : List LabelPlace) → identifiers (labels_of_basic b rest) ≡ labels (basic b) ++ identifiers rest
  same_basic (tree.OneGroup g) rest = same_group g rest
  same_basic (tree.Assign p ps e) rest = refl
  same_basic (tree.Jump l e) rest = refl
  same_basic (tree.CallStatement c) rest = refl
  same_basic tree.Dummy rest = refl

  pub same_group : (g : tree.Group) (rest : List LabelPlace) → identifiers (labels_of_group g rest) ≡ labels (group g) ++ identifiers rest
  same_group (tree.MkBlock l d m ds s ss n) rest = refl
  same_group (tree.MkCompound l s ss m) rest =
      same_statement s (labels_of_statements ss rest) ∙ ap (λ xs. labels (statement s) ++ xs) (same_statements ss rest)
      ∙ sym (append_assoc (labels (statement s)) (all_labels (statements ss)) (identifiers rest))

  same_conditional : (c : tree.Conditional) (rest : List LabelPlace) → identifiers (labels_of_conditional c rest) ≡ labels (conditional c) ++ identifiers rest
  same_conditional (tree.IfThen ls l e m u) rest =
      in_front ls (labels_of_unconditional u rest) rest _ (same_unconditional u rest)
  same_conditional (tree.IfElse ls l e m u n s) rest =
      in_front ls (labels_of_unconditional u (labels_of_statement s rest)) rest _
      (same_unconditional u (labels_of_statement s rest) ∙ ap (λ xs. labels (unconditional u) ++ xs) (same_statement s rest)
      ∙ sym (append_assoc (labels (unconditional u)) (labels (statement s)) (identifiers rest)))
  same_conditional (tree.IfLoop ls l e m f) rest = in_front ls (labels_of_loop f rest) rest _ (same_loop f rest)

  same_loop : (f : tree.Loop) (rest : List LabelPlace) → identifiers (labels_of_loop f rest) ≡ labels (loop f) ++ identifiers rest
  same_loop (tree.MkLoop ls l x m t ts n s) rest = in_front ls rest rest _ refl

pub same_program : (ls : List LabelPlace) (g : tree.Group) → identifiers (ls ++ labels_of_group g []) ≡ labels (with_labels ls (group g))
same_program ls g = in_front ls (labels_of_group g []) [] (group g) (same_group g []) ∙ append-nil (labels (with_labels ls (group g)))

-- ---- as many entities from n on

pub entities_count : (n : ℕ) (xs : List ℕ) → length (entities_from n xs) ≡ length xs
entities_count n [] = refl
entities_count n (x ∷ xs) = ap suc (entities_count (suc n) xs)

pub or_true : (t : Bool) → (t || true) ≡ true
or_true true = refl
or_true false = refl

pub among_entities : (n : ℕ) (xs : List ℕ) (d k : ℕ) → d < length xs → k ≡ n + d → is_among k (entities_from n xs) ≡ true
among_entities n [] d k below e = absurd (omega (arith, below))
among_entities n (x ∷ xs) zero k below e = ap (λ t. t || is_among k (entities_from (suc n) xs)) (eq-eqb k n (omega (arith, e)))
among_entities n (x ∷ xs) (suc d) k below e =
    ap (λ t. (k == n) || t) (among_entities (suc n) xs d k (omega (arith, below)) (omega (arith, e))) ∙ or_true (k == n)

-- ---- the store that the labels of a scope leave

pub older_kept : {K : Type 0} (n : ℕ) (xs : List ℕ) (s : State K) (k : ℕ) → k < n → (labels_made (entities_from n xs) s).store k ≡ s.store k
older_kept n [] s k below = refl
older_kept n (x ∷ xs) s k below =
    older_kept (suc n) xs (with_entity n ALabel s) k (omega (arith, below))
    ∙ ap (λ t. if t then ALabel else s.store k) (ne_eqb k n (λ e. absurd (omega (arith, e, below))))

pub label_made : {K : Type 0} (n : ℕ) (xs : List ℕ) (s : State K) (d k : ℕ) → d < length xs → k ≡ n + d → (labels_made (entities_from n xs) s).store k ≡ ALabel
label_made n [] s d k below e = absurd (omega (arith, below))
label_made n (x ∷ xs) s zero k below e =
    older_kept (suc n) xs (with_entity n ALabel s) k (omega (arith, e))
    ∙ ap (λ t. if t then ALabel else s.store k) (eq-eqb k n (omega (arith, e)))
label_made n (x ∷ xs) s (suc d) k below e = label_made (suc n) xs (with_entity n ALabel s) d k (omega (arith, below)) (omega (arith, e))

-- all else is as before
pub record IsSame {K : Type 0} (s s1 : State K) : Type 0 where
  pub fresh : s1.fresh ≡ s.fresh
  pub unread : s1.unread ≡ s.unread
  pub printed : s1.printed ≡ s.printed
  pub left : s1.left ≡ s.left
  pub most : s1.most ≡ s.most

pub labels_same : {K : Type 0} (ns : List ℕ) (s : State K) → IsSame s (labels_made ns s)
labels_same [] s = record { fresh = refl; unread = refl; printed = refl; left = refl; most = refl }
labels_same (n ∷ ns) s =
    let r = labels_same ns (with_entity n ALabel s) in
    record { fresh = r.fresh; unread = r.unread; printed = r.printed; left = r.left; most = r.most }
