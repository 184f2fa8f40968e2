-- Behind a piece of code stands what follows it.
use Rattle.std.proofs.Common.{ℕ, suc, ◌+◌, ◌≤◌, List, arith}
use Rattle.gier_symbol.specs.declared.symbol.Symbol.{Symbol}
use Rattle.gier_order.specs.declared.operation.Operation.{Operation}
use Rattle.gier_order.specs.declared.operation.Operation.TheVariants as op
use Rattle.gier_tree.specs.Orders.{State, Following, Code, with_label, define, new, behind_word, first_label}
use Rattle.gier_tree.specs.Coded.{choice}
use Rattle.gier_tree.specs.Words.{HasStop}
use Rattle.gier_flat.proofs.Positions.{At}
use Rattle.gier_flat.proofs.Orders.{labelled_next, defined}

module _ (text : List Symbol) (size : ℕ) (ends : HasStop text) where
  abbrev pub Piece : Type 0
  Piece = State → Following → List Symbol

  abbrev pub Passes : Piece → Type 0
  Passes c = (st : State) (go : Following) → At text st (c st go) → (st1 : State) × At text st1 (go st1) × (st.words ≤ st1.words)

  pub passes_labelled : (o : Operation) (l label line : ℕ) → Passes (with_label o l label line)
  passes_labelled o l label line st go at = (behind_word st line, labelled_next text size ends o l label line st go at, omega arith)

  pub passes_choice : (line : ℕ) (a b c : Code) → ((level w : ℕ) → Passes (a level w)) → ((level w : ℕ) → Passes (b level w)) → ((level w : ℕ) → Passes (c level w)) → (level w : ℕ) → Passes (choice line a b c level w)
  passes_choice line a b c pa pb pc level w st go at =
      let behind_c : ℕ → Following = λ y s7. define y s7 go in
      let at_c : ℕ → Following = λ y s6. c level w s6 (behind_c y) in
      let behind_b : ℕ → Following = λ x s3. new s3 (λ y s4. with_label op.Jump 0 y line s4 (λ s5. define x s5 (at_c y))) in
      let behind_a : Following = λ s. new s (λ x s1. with_label op.False 0 x line s1 (λ s2. b level w s2 (behind_b x))) in
      let ra = pa level w st behind_a at in
      let x : ℕ = first_label + ra.0.labels in
      let sx : State = record { labels = suc ra.0.labels; line = ra.0.line; words = ra.0.words } in
      let rf = passes_labelled op.False 0 x line sx (λ s2. b level w s2 (behind_b x)) ra.1 in
      let rb = pb level w rf.0 (behind_b x) rf.1 in
      let y : ℕ = first_label + rb.0.labels in
      let sy : State = record { labels = suc rb.0.labels; line = rb.0.line; words = rb.0.words } in
      let rj = passes_labelled op.Jump 0 y line sy (λ s5. define x s5 (at_c y)) rb.1 in
      let rc = pc level w rj.0 (behind_c y) (defined text size ends x rj.0 (at_c y) rj.1) in
      (rc.0, defined text size ends y rc.0 go rc.1, omega (arith, ra.2, rf.2, rb.2, rj.2, rc.2))
