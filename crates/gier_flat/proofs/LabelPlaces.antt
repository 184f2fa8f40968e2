-- The labels of a scope have their places in the code of its statements, so their addresses are known; and a scope has the labels that
-- its identifiers mean.
use Rattle.std.proofs.Common.{◌≡◌, ℕ, suc, ◌+◌, ◌<◌, ◌≤◌, Bool, true, false, List, [], ◌∷◌, ◌++◌, length, Some, refl, sym, ap, ◌∙◌, subst, arith}
use Rattle.std.specs.Prelude.{◌^◌, ◌==◌, ◌||◌, ⊤}
use Rattle.std.proofs.lemmas.Bool.{eq-eqb, eqb-true}
use Rattle.gier_symbol.specs.declared.tag.Tag.TheVariants.{LabelPlace as PlaceTag}
use Rattle.gier_symbol.specs.ByTag.{sym as tagged}
use Rattle.gier_order.specs.declared.operation.Operation.TheVariants as op
use Rattle.gier_tree.specs.Coded.{code_expr}
use Rattle.gier_tree.specs.Declaring.{labels_of_statement, labels_of_statements, labels_of_unconditional, labels_of_basic, labels_of_group, labels_of_conditional, labels_of_loop}
use Rattle.gier_tree.specs.Entries.{numbers_unconditional}
use Rattle.gier_tree.specs.Object.{address_of}
use Rattle.gier_tree.specs.Orders as code
use Rattle.gier_tree.specs.Orders.{Following, Code, define, new, with_label, first_label}
use Rattle.gier_tree.specs.OwnCount.{owns_in_unconditional}
use Rattle.gier_tree.specs.Places.{Places}
use Rattle.gier_tree.specs.Text7.{labels_code, if_code, if_else_code, code_statement, code_statements, code_unconditional, code_basic, code_group, code_conditional, code_loop}
use Rattle.gier_tree.specs.Texts.{Where, behind_statement, further}
use Rattle.gier_tree.specs.Trees.{LabelPlace, Group, MkBlock, MkCompound, Statements, NoStatements, MoreStatements, Statement, OneUnconditional, OneConditional, OneLoop, Unconditional, MkUnconditional, Basic, OneGroup, Assign, Jump, CallStatement, Dummy, Conditional, IfThen, IfElse, IfLoop, Loop, MkLoop}
use Rattle.gier_meaning.specs.Outcome.{is_among}
use Rattle.gier_meaning.specs.Scopes.{labels, all_labels, identifier_in}
use Rattle.gier_meaning.specs.Tree as plain
use Rattle.gier_env.specs.Env.{Env, AnEntity, found, denotation}
use Rattle.gier_env.specs.Statements.{is_label, has, have}
use Rattle.gier_flat.proofs.Positions.{At, within}
use Rattle.gier_flat.proofs.OrderRows.{object}
use Rattle.gier_flat.proofs.Orders.{placed, defined}
use Rattle.gier_flat.proofs.Continuations.{Passes, passes_labelled}
use Rattle.gier_flat.proofs.StatementContinuations.{passes_labels}
use Rattle.gier_flat.proofs.AllPasses.{expr_passes, statement_passes}
use Rattle.gier_flat.proofs.Labels.{or_true}
use Rattle.gier_flat.proofs.Setting.{Setting}

module _ (setting : Setting) where
  -- the place of this label stands in the text, behind a word
  pub record IsPlaced (label : ℕ) : Type 0 where
    pub small : label < 2 ^ 24
    pub above : 0 < address_of setting.text label 0
    pub below : address_of setting.text label 0 < length (object setting.text)

  abbrev pub ArePlaced : Places → List LabelPlace → Type 0
  ArePlaced q [] = ⊤
  ArePlaced q (l ∷ ls) = IsPlaced (q l.name.number).address × ArePlaced q ls

  one_placed : (label : ℕ) (st : code.State) (go : Following) → At setting.text st (define label st go) → 0 < st.words → IsPlaced label
  one_placed label st go at some =
      let r = placed setting.text setting.size setting.ends setting.right st label st.line (go st) at in
      let lt : st.words < length (object setting.text) = within setting.text setting.ends st (tagged PlaceTag label st.line ∷ go st) at in
      record { small = r.0; above = omega (arith, r.1, some); below = omega (arith, r.1, lt) }

  module _ (q : Places) where
    in_front : (ls all : List LabelPlace) → ArePlaced q all → (level w : ℕ) (st : code.State) (go : Following) → At setting.text st (labels_code q ls level w st go) → 0 < st.words → ArePlaced q (ls ++ all)
    in_front [] all a level w st go at some = a
    in_front (l ∷ ls) all a level w st go at some = (
      one_placed (q l.name.number).address st (λ s. labels_code q ls level w s go) at some,
      in_front ls all a level w st go (defined setting.text setting.size setting.ends (q l.name.number).address st (λ s. labels_code q ls level w s go) at) some,
    )

    behind_labels : (ls : List LabelPlace) (level w : ℕ) → Passes setting.text setting.size setting.ends (labels_code q ls level w)
    behind_labels ls level w = passes_labels setting.text setting.size setting.ends q ls level w

    -- the statement under a condition, and the other one
    so_at : (line : ℕ) (test so : Code) → ((level w : ℕ) → Passes setting.text setting.size setting.ends (test level w)) → (level w : ℕ) (st : code.State) (behind : ℕ → Following)
        → At setting.text st (test level w st (λ s. new s (λ x s1. with_label op.False 0 x line s1 (λ s2. so level w s2 (behind x)))))
        → (x : ℕ) × (st1 : code.State) × At setting.text st1 (so level w st1 (behind x)) × (st.words ≤ st1.words)
    so_at line test so pt level w st behind at =
        let r = pt level w st (λ s. new s (λ x s1. with_label op.False 0 x line s1 (λ s2. so level w s2 (behind x)))) at in
        let x : ℕ = first_label + r.0.labels in
        let sx : code.State = record { labels = suc r.0.labels; line = r.0.line; words = r.0.words } in
        let rf = passes_labelled setting.text setting.size setting.ends op.False 0 x line sx (λ s2. so level w s2 (behind x)) r.1 in
        (x, rf.0, rf.1, omega (arith, r.2, rf.2))

    other_at : (line x : ℕ) (other : Code) (level w : ℕ) (st : code.State) (behind : ℕ → Following)
        → At setting.text st (new st (λ y s4. with_label op.Jump 0 y line s4 (λ s5. define x s5 (λ s6. other level w s6 (behind y)))))
        → (y : ℕ) × (st1 : code.State) × At setting.text st1 (other level w st1 (behind y)) × (st.words ≤ st1.words)
    other_at line x other level w st behind at =
        let y : ℕ = first_label + st.labels in
        let sy : code.State = record { labels = suc st.labels; line = st.line; words = st.words } in
        let rj = passes_labelled setting.text setting.size setting.ends op.Jump 0 y line sy (λ s5. define x s5 (λ s6. other level w s6 (behind y))) at in
        (y, rj.0, defined setting.text setting.size setting.ends x rj.0 (λ s6. other level w s6 (behind y)) rj.1, omega (arith, rj.2))

    mutual
      pub placed_statement : (at : Where) (s : Statement) (rest : List LabelPlace) → ArePlaced q rest → (level w : ℕ) (st : code.State) (go : Following) → At setting.text st (code_statement q at s level w st go) → 0 < st.words → ArePlaced q (labels_of_statement s rest)
      placed_statement at (OneUnconditional u) rest a level w st go stands some = placed_unconditional at u rest a level w st go stands some
      placed_statement at (OneConditional c) rest a level w st go stands some = placed_conditional at c rest a level w st go stands some
      placed_statement at (OneLoop f) rest a level w st go stands some = placed_loop at f rest a level w st go stands some

      pub placed_statements : (at : Where) (ss : Statements) (rest : List LabelPlace) → ArePlaced q rest → (level w : ℕ) (st : code.State) (go : Following) → At setting.text st (code_statements q at ss level w st go) → 0 < st.words → ArePlaced q (labels_of_statements ss rest)
      placed_statements at NoStatements rest a level w st go stands some = a
      placed_statements at (MoreStatements l s ss) rest a level w st go stands some =
          let r = statement_passes setting.text setting.size setting.ends q at s level w st (λ s1. code_statements q (behind_statement at s) ss level w s1 go) stands in
          placed_statement at s (labels_of_statements ss rest) (placed_statements (behind_statement at s) ss rest a level w r.0 go r.1 (omega (arith, some, r.2))) level w st
          (λ s1. code_statements q (behind_statement at s) ss level w s1 go) stands some

      placed_unconditional : (at : Where) (u : Unconditional) (rest : List LabelPlace) → ArePlaced q rest → (level w : ℕ) (st : code.State) (go : Following) → At setting.text st (code_unconditional q at u level w st go) → 0 < st.words → ArePlaced q (labels_of_unconditional u rest)
      placed_unconditional at (MkUnconditional ls b) rest a level w st go stands some =
          let r = behind_labels ls level w st (λ s1. code_basic q at b level w s1 go) stands in
          in_front ls (labels_of_basic b rest) (placed_basic at b rest a level w r.0 go r.1 (omega (arith, some, r.2))) level w st (λ s1. code_basic q at b level w s1 go) stands some

      placed_basic : (at : Where) (b : Basic) (rest : List LabelPlace) → ArePlaced q rest → (level w : ℕ) (st : code.State) (go : Following) → At setting.text st (code_basic q at b level w st go) → 0 < st.words → ArePlaced q (labels_of_basic b rest)
      placed_basic at (OneGroup g) rest a level w st go stands some = placed_group at g rest a level w st go stands some
      placed_basic at (Assign p ps e) rest a level w st go stands some = a
      placed_basic at (Jump l e) rest a level w st go stands some = a
      placed_basic at (CallStatement c) rest a level w st go stands some = a
      placed_basic at Dummy rest a level w st go stands some = a

      placed_group : (at : Where) (g : Group) (rest : List LabelPlace) → ArePlaced q rest → (level w : ℕ) (st : code.State) (go : Following) → At setting.text st (code_group q at g level w st go) → 0 < st.words → ArePlaced q (labels_of_group g rest)
      placed_group at (MkBlock l d m ds s ss n) rest a level w st go stands some = a
      placed_group at (MkCompound l s ss n) rest a level w st go stands some =
          let r = statement_passes setting.text setting.size setting.ends q at s level w st (λ s1. code_statements q (behind_statement at s) ss level w s1 go) stands in
          placed_statement at s (labels_of_statements ss rest) (placed_statements (behind_statement at s) ss rest a level w r.0 go r.1 (omega (arith, some, r.2))) level w st
          (λ s1. code_statements q (behind_statement at s) ss level w s1 go) stands some

      placed_conditional : (at : Where) (c : Conditional) (rest : List LabelPlace) → ArePlaced q rest → (level w : ℕ) (st : code.State) (go : Following) → At setting.text st (code_conditional q at c level w st go) → 0 < st.words → ArePlaced q (labels_of_conditional c rest)
      placed_conditional at (IfThen ls l e m u) rest a level w st go stands some =
          let so : Code = code_unconditional q at u in
          let r = behind_labels ls level w st (λ s1. if_code l (code_expr q e) so level w s1 go) stands in
          let t = so_at l (code_expr q e) so (expr_passes setting.text setting.size setting.ends q e) level w r.0 (λ x s3. define x s3 go) r.1 in
          in_front ls (labels_of_unconditional u rest) (placed_unconditional at u rest a level w t.1 (λ s3. define t.0 s3 go) t.2 (omega (arith, some, r.2, t.3))) level w st
          (λ s1. if_code l (code_expr q e) so level w s1 go) stands some
      placed_conditional at (IfElse ls l e m u n s) rest a level w st go stands some =
          let so : Code = code_unconditional q at u in
          let at1 : Where = further at (numbers_unconditional u) (owns_in_unconditional u) in
          let other : Code = code_statement q at1 s in
          let behind : ℕ → Following = λ x s3. new s3 (λ y s4. with_label op.Jump 0 y l s4 (λ s5. define x s5 (λ s6. other level w s6 (λ s7. define y s7 go)))) in
          let r = behind_labels ls level w st (λ s1. if_else_code l (code_expr q e) so other level w s1 go) stands in
          let t = so_at l (code_expr q e) so (expr_passes setting.text setting.size setting.ends q e) level w r.0 behind r.1 in
          let b = statement_passes setting.text setting.size setting.ends q at (OneUnconditional u) level w t.1 (behind t.0) t.2 in
          let o = other_at l t.0 other level w b.0 (λ y s7. define y s7 go) b.1 in
          in_front ls (labels_of_unconditional u (labels_of_statement s rest))
          (placed_unconditional at u (labels_of_statement s rest) (placed_statement at1 s rest a level w o.1 (λ s7. define o.0 s7 go) o.2 (omega (arith, some, r.2, t.3, b.2, o.3))) level w t.1 (behind t.0) t.2 (omega (arith, some, r.2, t.3)))
          level w st (λ s1. if_else_code l (code_expr q e) so other level w s1 go) stands some
      placed_conditional at (IfLoop ls l e m f) rest a level w st go stands some =
          let so : Code = code_loop q at f in
          let r = behind_labels ls level w st (λ s1. if_code l (code_expr q e) so level w s1 go) stands in
          let t = so_at l (code_expr q e) so (expr_passes setting.text setting.size setting.ends q e) level w r.0 (λ x s3. define x s3 go) r.1 in
          in_front ls (labels_of_loop f rest) (placed_loop at f rest a level w t.1 (λ s3. define t.0 s3 go) t.2 (omega (arith, some, r.2, t.3))) level w st
          (λ s1. if_code l (code_expr q e) so level w s1 go) stands some

      placed_loop : (at : Where) (f : Loop) (rest : List LabelPlace) → ArePlaced q rest → (level w : ℕ) (st : code.State) (go : Following) → At setting.text st (code_loop q at f level w st go) → 0 < st.words → ArePlaced q (labels_of_loop f rest)
      placed_loop at (MkLoop ls l x m t ts n s) rest a level w st go stands some = in_front ls rest a level w st _ stands some

-- ---- the labels that a scope has

among_both : (x : ℕ) (xs ys : List ℕ) → is_among x (xs ++ ys) ≡ (is_among x xs || is_among x ys)
among_both x [] ys = refl
among_both x (y ∷ xs) ys = by (x == y) (is_among x (xs ++ ys)) (is_among x xs) (is_among x ys) (among_both x xs ys)
  where
    by : (t a b c : Bool) → a ≡ (b || c) → (t || a) ≡ ((t || b) || c)
    by true a b c e = refl
    by false a b c e = e

one_of : (a b : Bool) (c d : Bool) → (a || b) ≡ true → (a ≡ true → c ≡ true) → (b ≡ true → d ≡ true) → (c || d) ≡ true
one_of true b c d e f g = ap (λ t. t || d) (f refl)
one_of false b c d e f g = ap (λ t. c || t) (g e) ∙ or_true c

either_of : (x : ℕ) (xs ys : List ℕ) (c d : Bool) → is_among x (xs ++ ys) ≡ true → (is_among x xs ≡ true → c ≡ true) → (is_among x ys ≡ true → d ≡ true) → (c || d) ≡ true
either_of x xs ys c d e f g = one_of (is_among x xs) (is_among x ys) c d (sym (among_both x xs ys) ∙ e) f g

module _ (env : Env) (x label : ℕ) (means : found env x ≡ Some (AnEntity label)) where
  none : {A : Type 0} → false ≡ true → A
  none e = absurd (subst (λ t. elim t as (λ _. Type 0) [ true ↦ ⊥ | false ↦ Unit {0} ]) e tt)

  named : (n : plain.Name) → is_among x (identifier_in n) ≡ true → is_label label (denotation env n) ≡ true
  named (plain.Identifier y) e = by (x == y) refl e
    where
      by : (t : Bool) → (x == y) ≡ t → (t || false) ≡ true → is_label label (found env y) ≡ true
      by true f g = ap (is_label label) (sym (ap (found env) (eqb-true x y f)) ∙ means) ∙ eq-eqb label label refl
      by false f g = none g
  named (plain.AnEntity n) e = none e
  named (plain.AProcedure n) e = none e
  named (plain.AFormalProcedure n) e = none e
  named (plain.AText bytes) e = none e
  named (plain.AStandard standard) e = none e
  named (plain.AnActual meant kind v) e = none e

  mutual
    pub has_label : (s : plain.Statement) → is_among x (labels s) ≡ true → has label env s ≡ true
    has_label (plain.Labelled name s) e = either_of x (identifier_in name) (labels s) _ _ e (named name) (has_label s)
    has_label plain.Dummy e = none e
    has_label (plain.Compound ss) e = have_label ss e
    has_label (plain.Block line ds ss) e = none e
    has_label (plain.Assign lefts v) e = none e
    has_label (plain.GoTo line v) e = none e
    has_label (plain.CallOf v) e = none e
    has_label (plain.If test s) e = has_label s e
    has_label (plain.IfElse test s other) e = either_of x (labels s) (labels other) _ _ e (has_label s) (has_label other)
    has_label (plain.For line variable place list s) e = none e

    pub have_label : (ss : plain.Statements) → is_among x (all_labels ss) ≡ true → have label env ss ≡ true
    have_label plain.NoStatements e = none e
    have_label (plain.MoreStatements s ss) e = either_of x (labels s) (all_labels ss) _ _ e (has_label s) (have_label ss)
