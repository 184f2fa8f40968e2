-- Behind the code of labels and of designational expressions stands what follows it.
use Rattle.std.proofs.Common.{◌≡◌, ℕ, List, [], ◌∷◌, sym, subst, arith}
use Rattle.gier_symbol.specs.declared.symbol.Symbol.{Symbol}
use Rattle.gier_order.specs.declared.operation.Operation.TheVariants as op
use Rattle.gier_tree.specs.declared.kind.Kind.{Kind}
use Rattle.gier_tree.specs.declared.kind.Kind.TheVariants.{Label}
use Rattle.gier_tree.specs.Coded.{label_code, code_expr, code_label, code_simple_label, code_primary_label}
use Rattle.gier_tree.specs.Text7.{labels_code}
use Rattle.gier_tree.specs.Places.{Places}
use Rattle.gier_tree.specs.Trees.{Expr, OneSimple, IfExpr, Simple, OneImplication, OneDisjunction, OneConjunction, OneNegation, OneRelation, OneArithmetic, OneTerm, OneFactor, Primary, OnePrimary, Bracketed, OneCall, Alone, LabelPlace}
use Rattle.gier_tree.specs.Words.{HasStop}
use Rattle.gier_flat.specs.Fair.{FairTarget, FairTargetSimple, FairTargetPrimary}
use Rattle.gier_flat.proofs.Orders.{defined}
use Rattle.gier_flat.proofs.AllPasses.{expr_passes}
use Rattle.gier_flat.proofs.Continuations.{Passes, passes_labelled, passes_choice}

module _ (text : List Symbol) (size : ℕ) (ends : HasStop text) where
  passes_nothing : Passes text size ends (λ st go. go st)
  passes_nothing st go at = (st, at, omega arith)

  pub passes_labels : (p : Places) (ls : List LabelPlace) (level w : ℕ) → Passes text size ends (labels_code p ls level w)
  passes_labels p [] level w = passes_nothing
  passes_labels p (l ∷ ls) level w = λ st go at. passes_labels p ls level w st go (defined text size ends (p l.name.number).address st (λ s. labels_code p ls level w s go) at)

  passes_label : (kind : Kind) (count : ℕ) (formals : List Kind) (l a line level w : ℕ) → kind ≡ Label → Passes text size ends (label_code (record { what = record { kind = kind; count = count; formals = formals }; level = l; address = a }) line level w)
  passes_label kind count formals l a line level w e = subst (λ k. Passes text size ends (label_code (record { what = record { kind = k; count = count; formals = formals }; level = l; address = a }) line level w)) (sym e) (passes_labelled text size ends op.Lab l a line)

  module _ (p : Places) where
    mutual
      pub passes_target : (e : Expr) → FairTarget p e → (level w : ℕ) → Passes text size ends (code_label p e level w)
      passes_target (OneSimple s) f = passes_target_simple s f
      passes_target (IfExpr l c m s n e) f = passes_choice text size ends l (code_expr p c) (code_simple_label p s) (code_label p e) (expr_passes text size ends p c) (passes_target_simple s f.1) (passes_target e f.2)

      pub passes_target_simple : (s : Simple) → FairTargetSimple p s → (level w : ℕ) → Passes text size ends (code_simple_label p s level w)
      passes_target_simple (OneImplication (OneDisjunction (OneConjunction (OneNegation (OneRelation (OneArithmetic (OneTerm (OneFactor (OnePrimary q))))))))) f = passes_target_primary q f
      passes_target_simple s f = absurd f

      passes_target_primary : (q : Primary) → FairTargetPrimary p q → (level w : ℕ) → Passes text size ends (code_primary_label p q level w)
      passes_target_primary (Bracketed l e m) f = passes_target e f
      passes_target_primary (OneCall (Alone x)) f = λ level w. passes_label (p x.number).what.kind (p x.number).what.count (p x.number).what.formals (p x.number).level (p x.number).address x.line level w f
      passes_target_primary q f = absurd f
