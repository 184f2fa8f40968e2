-- The rest of a statement from a label on.
use Rattle.std.proofs.Common.{◌≡◌, ℕ, suc, ◌+◌, ◌≤◌, Bool, true, false, List, [], ◌∷◌, Option, Some, None, refl, sym, ◌∙◌, subst, arith}
use Rattle.std.specs.Prelude.{◌||◌, max, ⊤}
use Rattle.gier_symbol.specs.declared.symbol.Symbol.{Symbol}
use Rattle.gier_order.specs.declared.operation.Operation.TheVariants as op
use Rattle.gier_order.specs.Flat.Run.{one}
use Rattle.gier_tree.specs.declared.kind.Kind.{Kind}
use Rattle.gier_tree.specs.declared.kind.Kind.TheVariants.{Label}
use Rattle.gier_tree.specs.Orders as code
use Rattle.gier_tree.specs.Orders.{Following, Code, behind_word}
use Rattle.gier_tree.specs.Object as object
use Rattle.gier_tree.specs.Coded.{scopes_of, code_expr}
use Rattle.gier_tree.specs.Need.{need_expr}
use Rattle.gier_env.specs.Statements.{run}
use Rattle.gier_meaning.specs.Tree.{Assign}
use Rattle.gier_tree.specs.Places.{Placed, Places}
use Rattle.gier_meaning.specs.Plain.{expr}
use Rattle.gier_meaning.specs.Live.{Live}
use Rattle.gier_meaning.specs.State.{Entity, State}
use Rattle.gier_meaning.specs.Outcome.{Outcome, Gives, Finished, Done, then_do}
use Rattle.gier_env.specs.Env.{Env, Denoted, AnEntity, AProcedure, AFormalProcedure, AText, AStandard, AnActual, found}
use Rattle.gier_env.specs.Tasks.{Next}
use Rattle.gier_env.specs.Closures.{Closure}
use Rattle.gier_flat.proofs.Positions.{At}
use Rattle.gier_flat.proofs.OrderRows.{Machine}
use Rattle.gier_flat.proofs.StackRelation.{Known, Shows, RunInvariant, RefinesOutcome, Behind, here_after}
use Rattle.gier_flat.proofs.Composition.{follow_then, follow_on, onwards, wants}
use Rattle.gier_flat.proofs.Orders.{labelled_next}
use Rattle.gier_flat.proofs.Values.{Shown}
use Rattle.gier_flat.proofs.Assignments.{NothingShown}
use Rattle.gier_flat.proofs.NextRuns.{RunsStatement, AreWithin, NextRuns}
use Rattle.gier_flat.proofs.Statements.{labels_runs, statement_runs, statements_run}
use Rattle.gier_flat.proofs.Orders.{placed}
use Rattle.gier_flat.proofs.Expressions.{jump_reach}
use Rattle.gier_env.specs.Statements.{has, have, is_label, resume, resume_all}
use Rattle.std.proofs.lemmas.Bool.{eqb-true}
use Rattle.gier_flat.proofs.AllPasses.{expr_passes, unconditional_passes, statement_passes}
use Rattle.gier_flat.proofs.Continuations.{Passes}
use Rattle.gier_flat.proofs.Expressions.{there, there_after}
use Rattle.gier_flat.specs.Fair.{FairLabels, FairStatement, FairStatements, FairUnconditional, FairBasic, FairConditional}
use Rattle.gier_flat.proofs.Orders.{defined}
use Rattle.gier_symbol.specs.declared.tag.Tag.TheVariants.{LabelPlace as LabelPlaceTag}
use Rattle.gier_symbol.specs.ByTag.{sym as tagged}
use Rattle.gier_tree.specs.Orders.{define, new, also, first_label}
use Rattle.gier_tree.specs.Text7.{labels_code, if_code, if_else_code, code_statement, code_statements, code_unconditional, code_basic, code_group, code_conditional}
use Rattle.gier_tree.specs.Texts.{Where, behind_statement, further}
use Rattle.gier_tree.specs.Entries.{numbers_unconditional}
use Rattle.gier_tree.specs.OwnCount.{owns_in_unconditional}
use Rattle.gier_tree.specs.Need.{need_statement, need_statements, need_unconditional, need_basic, need_conditional}
use Rattle.gier_tree.specs.Trees.{LabelPlace, MkBlock, MkCompound, Statements, NoStatements, MoreStatements, Statement, OneUnconditional, OneConditional, OneLoop, Unconditional, MkUnconditional, Basic, OneGroup, Assign, Jump, CallStatement, Dummy, Conditional, IfThen, IfElse, IfLoop}
use Rattle.gier_meaning.specs.Plain.{statement, statements, unconditional, basic, conditional, with_labels as with_labels}
use Rattle.gier_meaning.specs.Tree as plain_tree
use Rattle.gier_env.specs.Statements.{run_all}
use Rattle.gier_meaning.specs.Outcome.{either}
use Rattle.gier_flat.proofs.Setting.{Setting}

abbrev IsNoLabel : Kind → Type 0
IsNoLabel Label = ⊥
IsNoLabel kind = ⊤

module _ (setting : Setting) where
  module _ (n : ℕ) (env : Env) (p : Places) (lives : Live) (next : Next) (label : ℕ) where
    abbrev Shown_none : Shown setting.text setting.size setting.ends setting.small Finished
    Shown_none = NothingShown setting

    -- the machine stands at the label, which is in this piece of code
    abbrev pub Resumes : (need : ℕ) → (c : (w : ℕ) → code.State → Following → List Symbol) → Bool → (State Closure → Outcome Closure Finished) → Type 1
    Resumes need c within v = (K : Known) (w : ℕ) (m : Machine) (s : State Closure) (st : code.State) (go : Following) → s.left ≤ n → RunInvariant setting.text setting.size K w need env p m s lives → K.label label m.regs.base m.regs.place → At setting.text st (c w st go) → within ≡ true → RefinesOutcome setting.text setting.size Finished K K.label m s (Behind setting.text setting.size go) m.regs.base m.regs.top (Shown_none K) (v s)

    -- its place is that of the label that stands here
    stands_here : (K : Known) (m : Machine) (store : ℕ → Entity Closure) (words : ℕ → ℕ) (b : ℕ) (kind : Kind) (at : Placed) (d : Option Denoted) (st : code.State) (rest : List Symbol) → ((e b a b1 a1 : ℕ) → K.label e b a → K.label e b1 a1 → (b ≡ b1) × (a ≡ a1)) → kind ≡ Label → Shows setting.text K words store b kind at d → is_label label d ≡ true → K.label label m.regs.base m.regs.place → At setting.text st (tagged LabelPlaceTag at.address st.line ∷ rest) → m.regs.place ≡ st.words
    stands_here K m store words b Label at (Some (AnEntity e)) st rest one is v it lab there_it =
        let same : e ≡ label = eqb-true e label it in
        let both = one label m.regs.base m.regs.place v.0 (object.address_of setting.text at.address 0) lab (subst (λ x. K.label x v.0 (object.address_of setting.text at.address 0)) same v.3) in
        both.1 ∙ (placed setting.text setting.size setting.ends setting.right st at.address st.line rest there_it).1
    stands_here K m store words b Label at None st rest one is v it lab there_it = absurd v
    stands_here K m store words b Label at (Some (AProcedure e)) st rest one is v it lab there_it = absurd v
    stands_here K m store words b Label at (Some (AFormalProcedure e)) st rest one is v it lab there_it = absurd v
    stands_here K m store words b Label at (Some (AText e)) st rest one is v it lab there_it = absurd v
    stands_here K m store words b Label at (Some (AStandard e)) st rest one is v it lab there_it = absurd v
    stands_here K m store words b Label at (Some (AnActual meant k e xe)) st rest one is v it lab there_it = absurd v
    stands_here K m store words b kind at d st rest one is v it lab there_it = absurd (subst IsNoLabel is tt)

    run_all_labels : (ls : List LabelPlace) (x : plain_tree.Statement) (s : State Closure) → run setting.size next (with_labels ls x) env lives s ≡ run setting.size next x env lives s
    run_all_labels [] x s = refl
    run_all_labels (l ∷ ls) x s = run_all_labels ls x s

    -- the first label is the one that is looked for, or it is passed over
    first_label_of : (l : LabelPlace) (ls : List LabelPlace) → FairLabels p (l ∷ ls) → (c : Code) (level need : ℕ) (x : plain_tree.Statement) → RunsStatement setting n env p lives need (c level) (λ s. run setting.size next x env lives s) → Resumes need (also (labels_code p ls) c level) (has label env (with_labels ls x)) (λ s. resume setting.size next label (with_labels ls x) env lives s) → Resumes need (also (labels_code p (l ∷ ls)) c level) (has label env (with_labels (l ∷ ls) x)) (λ s. resume setting.size next label (with_labels (l ∷ ls) x) env lives s)
    first_label_of l ls f c level need x runs res K w m s st go le h lab at within = by (is_label label (found env l.name.number)) refl within
      where
        by : (t : Bool) → is_label label (found env l.name.number) ≡ t → (t || has label env (with_labels ls x)) ≡ true → RefinesOutcome setting.text setting.size Finished K K.label m s (Behind setting.text setting.size go) m.regs.base m.regs.top (Shown_none K) (either t s (λ s1. run setting.size next (with_labels ls x) env lives s1) (λ s1. resume setting.size next label (with_labels ls x) env lives s1))
        by true it within =
            let at_rest : Following = λ s1. labels_code p ls level w s1 (λ s2. c level w s2 go) in
            let sees = h.sees in
            let here = stands_here K m s.store m.regs.words sees.0 (p l.name.number).what.kind (p l.name.number) (found env l.name.number) st (at_rest st) h.one_label f.0 (h.frames env p sees.0 sees.3 l.name.number) it lab at in
            subst (λ u. RefinesOutcome setting.text setting.size Finished K K.label m s (Behind setting.text setting.size go) m.regs.base m.regs.top (Shown_none K) u) (sym (run_all_labels ls x s))
            (labels_runs setting n env p lives next ls c level need (λ s1. run setting.size next x env lives s1) runs K w m s st go le h (defined setting.text setting.size setting.ends (p l.name.number).address st at_rest at) here)
        by false it within =
            let at_rest : Following = λ s1. labels_code p ls level w s1 (λ s2. c level w s2 go) in
            res K w m s st go le h lab (defined setting.text setting.size setting.ends (p l.name.number).address st at_rest at) within

    resume_labels : (ls : List LabelPlace) → FairLabels p ls → (c : Code) (level need : ℕ) (x : plain_tree.Statement) → RunsStatement setting n env p lives need (c level) (λ s. run setting.size next x env lives s) → Resumes need (c level) (has label env x) (λ s. resume setting.size next label x env lives s) → Resumes need (also (labels_code p ls) c level) (has label env (with_labels ls x)) (λ s. resume setting.size next label (with_labels ls x) env lives s)
    resume_labels [] f c level need x runs res = res
    resume_labels (l ∷ ls) f c level need x runs res = first_label_of l ls f c level need x runs (resume_labels ls f.1 c level need x runs res)

    -- one behind the other
    resume_seq : (a b : Code) (level na nb : ℕ) (inside more : Bool) (va ra rb vb : State Closure → Outcome Closure Finished) → ((w : ℕ) → Passes setting.text setting.size setting.ends (a level w)) → Resumes na (a level) inside ra → RunsStatement setting n env p lives nb (b level) vb → Resumes nb (b level) more rb → Resumes (max na nb) (also a b level) (inside || more) (λ s. either inside s (λ s1. then_do (ra s1) (λ d s2. vb s2)) (λ s1. rb s1))
    resume_seq a b level na nb true more va ra rb vb pa resa runb resb K w m s st go le h lab at within =
        let behind_a : Following = λ s1. b level w s1 go in
        follow_then setting.text setting.size Finished Finished K K.label m s (Behind setting.text setting.size behind_a) m.regs.base m.regs.top (Shown_none K) (ra s) (Behind setting.text setting.size go) m.regs.base m.regs.top (Shown_none K) (λ d s1. vb s1)
        (resa K w m s st behind_a le (wants setting.text setting.size K w (max na nb) na env p m s lives (omega arith) h) lab at refl)
        (λ d s1 m1 reach goal shown af.
        let fewer = af.fewer in
        let h1 = wants setting.text setting.size K w (max na nb) nb env p m1 s1 lives (omega arith) (here_after setting.text setting.size K w (max na nb) env p m m1 s s1 lives h af) in
        onwards setting.text setting.size Finished K K.label m m1 s s1 (Behind setting.text setting.size go) m.regs.base m.regs.top (Shown_none K) (vb s1) reach af
        (runb K w m1 s1 goal.0 go (omega (arith, fewer, le)) h1 goal.1 goal.2))
    resume_seq a b level na nb false more va ra rb vb pa resa runb resb K w m s st go le h lab at within =
        let skip = pa w st (λ s1. b level w s1 go) at in
        resb K w m s skip.0 go le (wants setting.text setting.size K w (max na nb) nb env p m s lives (omega arith) h) lab skip.1 within

    -- into the branch of a conditional statement
    resume_if : (line level na nb : ℕ) (a b : Code) (inside : Bool) (vb : State Closure → Outcome Closure Finished) → ((w : ℕ) → Passes setting.text setting.size setting.ends (a level w)) → Resumes nb (b level) inside vb → Resumes (max na nb) (if_code line a b level) inside vb
    resume_if line level na nb a b inside vb pa rb K w m s st go le h lab at within =
        let behind_b : ℕ → Following = λ x s3. define x s3 go in
        let behind_a : Following = λ s0. new s0 (λ x s1. code.with_label op.False 0 x line s1 (λ s2. b level w s2 (behind_b x))) in
        let skip = pa w st behind_a at in
        let x : ℕ = first_label + skip.0.labels in
        let sx : code.State = record { labels = suc skip.0.labels; line = skip.0.line; words = skip.0.words } in
        let from_b : Following = λ s2. b level w s2 (behind_b x) in
        let s2 : code.State = behind_word sx line in
        follow_on setting.text setting.size Finished K K.label m s (Behind setting.text setting.size (behind_b x)) (Behind setting.text setting.size go) m.regs.base m.regs.top m.regs.base m.regs.top (Shown_none K) (Shown_none K) (vb s)
        (rb K w m s s2 (behind_b x) le (wants setting.text setting.size K w (max na nb) nb env p m s lives (omega arith) h) lab (labelled_next setting.text setting.size setting.ends op.False 0 x line sx from_b skip.1) within)
        (λ d s3 m3 reach3 goal3 shown3 af3. (m3, reach3, (goal3.0, defined setting.text setting.size setting.ends x goal3.0 go goal3.1, goal3.2), tt, af3))

    resume_choice : (line level na nb nc : ℕ) (a b c : Code) (inside other : Bool) (vb vc : State Closure → Outcome Closure Finished) → ((w : ℕ) → Passes setting.text setting.size setting.ends (a level w)) → ((w : ℕ) → Passes setting.text setting.size setting.ends (b level w)) → ((w : ℕ) → Passes setting.text setting.size setting.ends (c level w)) → Resumes nb (b level) inside vb → Resumes nc (c level) other vc → Resumes (max na (max nb nc)) (if_else_code line a b c level) (inside || other) (λ s. either inside s (λ s1. vb s1) (λ s1. vc s1))
    resume_choice line level na nb nc a b c inside other vb vc pa pb pc rb rc K w m s st go le h lab at within =
        let behind_c : ℕ → Following = λ y s7. define y s7 go in
        let at_c : ℕ → Following = λ y s6. c level w s6 (behind_c y) in
        let behind_b : ℕ → Following = λ x s3. new s3 (λ y s4. code.with_label op.Jump 0 y line s4 (λ s5. define x s5 (at_c y))) in
        let behind_a : Following = λ s0. new s0 (λ x s1. code.with_label op.False 0 x line s1 (λ s2. b level w s2 (behind_b x))) in
        let skip = pa w st behind_a at in
        let x : ℕ = first_label + skip.0.labels in
        let sx : code.State = record { labels = suc skip.0.labels; line = skip.0.line; words = skip.0.words } in
        let from_b : Following = λ s2. b level w s2 (behind_b x) in
        by inside other rb rc x K w m s (behind_word sx line) go le h lab (labelled_next setting.text setting.size setting.ends op.False 0 x line sx from_b skip.1) within
      where
        by : (inside other : Bool) → Resumes nb (b level) inside vb → Resumes nc (c level) other vc → (x : ℕ) (K : Known) (w : ℕ) (m : Machine) (s : State Closure) (st : code.State) (go : Following) → s.left ≤ n → RunInvariant setting.text setting.size K w (max na (max nb nc)) env p m s lives → K.label label m.regs.base m.regs.place → At setting.text st (b level w st (λ s3. new s3 (λ y s4. code.with_label op.Jump 0 y line s4 (λ s5. define x s5 (λ s6. c level w s6 (λ s7. define y s7 go)))))) → (inside || other) ≡ true → RefinesOutcome setting.text setting.size Finished K K.label m s (Behind setting.text setting.size go) m.regs.base m.regs.top (Shown_none K) (either inside s (λ s1. vb s1) (λ s1. vc s1))
        by true other rb rc x K w m s st go le h lab at within =
            let most : ℕ = max na (max nb nc) in
            let behind_c : ℕ → Following = λ y s7. define y s7 go in
            let at_c : ℕ → Following = λ y s6. c level w s6 (behind_c y) in
            let behind_b : Following = λ s3. new s3 (λ y s4. code.with_label op.Jump 0 y line s4 (λ s5. define x s5 (at_c y))) in
            follow_on setting.text setting.size Finished K K.label m s (Behind setting.text setting.size behind_b) (Behind setting.text setting.size go) m.regs.base m.regs.top m.regs.base m.regs.top (Shown_none K) (Shown_none K) (vb s)
            (rb K w m s st behind_b le (wants setting.text setting.size K w most nb env p m s lives (omega arith) h) lab at refl)
            (λ v s3 m3 reach3 goal3 shown3 af3.
            let h3 = here_after setting.text setting.size K w most env p m m3 s s3 lives h af3 in
            let sb : code.State = goal3.0 in
            let y3 : ℕ = first_label + sb.labels in
            let sy3 : code.State = record { labels = suc sb.labels; line = sb.line; words = sb.words } in
            let s53 : code.State = behind_word sy3 line in
            let after_jump : Following = λ s5. define x s5 (at_c y3) in
            let at53 = labelled_next setting.text setting.size setting.ends op.Jump 0 y3 line sy3 after_jump goal3.1 in
            let skip = pc w s53 (behind_c y3) (defined setting.text setting.size setting.ends x s53 (at_c y3) at53) in
            let far_on : suc sy3.words ≤ skip.0.words = let e = skip.2 in omega arith in
            let jumps_to = jump_reach setting n env p lives K w most m3 s3 y3 line sy3 skip.0 after_jump go h3 goal3.1 goal3.2 skip.1 far_on in
            let m4 : Machine = there setting n env p lives K w most m3 s3 skip.0.words h3 in
            let last : RefinesOutcome setting.text setting.size Finished K K.label m3 s3 (Behind setting.text setting.size go) m3.regs.base m3.regs.top (Shown_none K) (Gives v s3) =
            (m4, jumps_to, (skip.0, defined setting.text setting.size setting.ends y3 skip.0 go skip.1, refl), tt, there_after setting n env p lives K w most m3 s3 skip.0.words h3) in
            onwards setting.text setting.size Finished K K.label m m3 s s3 (Behind setting.text setting.size go) m.regs.base m.regs.top (Shown_none K) (Gives v s3) reach3 af3 last)
        by false other rb rc x K w m s st go le h lab at within =
            let most : ℕ = max na (max nb nc) in
            let behind_c : ℕ → Following = λ y s7. define y s7 go in
            let at_c : ℕ → Following = λ y s6. c level w s6 (behind_c y) in
            let behind_b : Following = λ s3. new s3 (λ y s4. code.with_label op.Jump 0 y line s4 (λ s5. define x s5 (at_c y))) in
            let skip = pb w st behind_b at in
            let y : ℕ = first_label + skip.0.labels in
            let sy : code.State = record { labels = suc skip.0.labels; line = skip.0.line; words = skip.0.words } in
            let s5 : code.State = behind_word sy line in
            let after_jump : Following = λ s5. define x s5 (at_c y) in
            let at_x = labelled_next setting.text setting.size setting.ends op.Jump 0 y line sy after_jump skip.1 in
            follow_on setting.text setting.size Finished K K.label m s (Behind setting.text setting.size (behind_c y)) (Behind setting.text setting.size go) m.regs.base m.regs.top m.regs.base m.regs.top (Shown_none K) (Shown_none K) (vc s)
            (rc K w m s s5 (behind_c y) le (wants setting.text setting.size K w most nc env p m s lives (omega arith) h) lab (defined setting.text setting.size setting.ends x s5 (at_c y) at_x) within)
            (λ d s3 m3 reach3 goal3 shown3 af3. (m3, reach3, (goal3.0, defined setting.text setting.size setting.ends y goal3.0 go goal3.1, goal3.2), tt, af3))

    no_label : (need : ℕ) (c : (w : ℕ) → code.State → Following → List Symbol) (v : State Closure → Outcome Closure Finished) → Resumes need c false v
    no_label need c v K w m s st go le h lab at within = absurd (subst (λ t. elim t as (λ _. Type 0) [ true ↦ ⊥ | false ↦ Unit {0} ]) within tt)

    module _ (deeper : NextRuns setting n next) where
      basic_run : (at : Where) → AreWithin p at.level → (b : Basic) → FairBasic p at b → (level : ℕ) → RunsStatement setting n env p lives (need_basic (scopes_of p) b) (code_basic p at b level) (λ st. run setting.size next (basic b) env lives st)
      basic_run at below b f level = statement_runs setting n env p lives next deeper at below (OneUnconditional (MkUnconditional [] b)) (tt, f) level

      mutual
        pub resume_statement : (at : Where) → AreWithin p at.level → (s : Statement) → FairStatement p at s → (level : ℕ) → Resumes (need_statement (scopes_of p) s) (code_statement p at s level) (has label env (statement s)) (λ st. resume setting.size next label (statement s) env lives st)
        resume_statement at below (OneUnconditional u) f level = resume_unconditional at below u f level
        resume_statement at below (OneConditional c) f level = resume_conditional at below c f level
        resume_statement at below (OneLoop x) f level = absurd f

        pub resume_statements : (at : Where) → AreWithin p at.level → (ss : Statements) → FairStatements p at ss → (level : ℕ) → Resumes (need_statements (scopes_of p) ss) (code_statements p at ss level) (have label env (statements ss)) (λ st. resume_all setting.size next label (statements ss) env lives st)
        resume_statements at below NoStatements f level = no_label 0 (code_statements p at NoStatements level) (λ st. Gives Done st)
        resume_statements at below (MoreStatements l s ss) f level =
            resume_seq (code_statement p at s) (code_statements p (behind_statement at s) ss) level (need_statement (scopes_of p) s) (need_statements (scopes_of p) ss) (has label env (statement s)) (have label env (statements ss))
            (λ st. Gives Done st) (λ st. resume setting.size next label (statement s) env lives st) (λ st. resume_all setting.size next label (statements ss) env lives st) (λ st. run_all setting.size next (statements ss) env lives st)
            (statement_passes setting.text setting.size setting.ends p at s level) (resume_statement at below s f.0 level) (statements_run setting n env p lives next deeper (behind_statement at s) below ss f.1 level) (resume_statements (behind_statement at s) below ss f.1 level)

        resume_unconditional : (at : Where) → AreWithin p at.level → (u : Unconditional) → FairUnconditional p at u → (level : ℕ) → Resumes (need_unconditional (scopes_of p) u) (code_unconditional p at u level) (has label env (unconditional u)) (λ st. resume setting.size next label (unconditional u) env lives st)
        resume_unconditional at below (MkUnconditional ls b) f level = resume_labels ls f.0 (code_basic p at b) level (need_basic (scopes_of p) b) (basic b) (basic_run at below b f.1 level) (resume_basic at below b f.1 level)

        resume_basic : (at : Where) → AreWithin p at.level → (b : Basic) → FairBasic p at b → (level : ℕ) → Resumes (need_basic (scopes_of p) b) (code_basic p at b level) (has label env (basic b)) (λ st. resume setting.size next label (basic b) env lives st)
        resume_basic at below (OneGroup (MkBlock l d m ds s ss k)) f level = no_label 0 (code_group p at (MkBlock l d m ds s ss k) level) (λ st. Gives Done st)
        resume_basic at below (OneGroup (MkCompound l s ss k)) f level =
            resume_seq (code_statement p at s) (code_statements p (behind_statement at s) ss) level (need_statement (scopes_of p) s) (need_statements (scopes_of p) ss) (has label env (statement s)) (have label env (statements ss))
            (λ st. Gives Done st) (λ st. resume setting.size next label (statement s) env lives st) (λ st. resume_all setting.size next label (statements ss) env lives st) (λ st. run_all setting.size next (statements ss) env lives st)
            (statement_passes setting.text setting.size setting.ends p at s level) (resume_statement at below s f.0 level) (statements_run setting n env p lives next deeper (behind_statement at s) below ss f.1 level) (resume_statements (behind_statement at s) below ss f.1 level)
        resume_basic at below (Assign q qs e) f level = no_label (need_basic (scopes_of p) (Assign q qs e)) (code_basic p at (Assign q qs e) level) (λ st. Gives Done st)
        resume_basic at below (Jump l e) f level = no_label (need_basic (scopes_of p) (Jump l e)) (code_basic p at (Jump l e) level) (λ st. Gives Done st)
        resume_basic at below (CallStatement c) f level = no_label (need_basic (scopes_of p) (CallStatement c)) (code_basic p at (CallStatement c) level) (λ st. Gives Done st)
        resume_basic at below Dummy f level = no_label 0 (code_basic p at Dummy level) (λ st. Gives Done st)

        resume_conditional : (at : Where) → AreWithin p at.level → (c : Conditional) → FairConditional p at c → (level : ℕ) → Resumes (need_conditional (scopes_of p) c) (code_conditional p at c level) (has label env (conditional c)) (λ st. resume setting.size next label (conditional c) env lives st)
        resume_conditional at below (IfThen ls l e m u) f level =
            let whole : Conditional = IfThen [] l e m u in
            resume_labels ls f.0 (if_code l (code_expr p e) (code_unconditional p at u)) level (need_conditional (scopes_of p) whole) (plain_tree.If (expr e) (unconditional u))
            (statement_runs setting n env p lives next deeper at below (OneConditional whole) (tt, f.1, f.2) level)
            (resume_if l level (need_expr (scopes_of p) e) (need_unconditional (scopes_of p) u) (code_expr p e) (code_unconditional p at u) (has label env (unconditional u)) (λ st. resume setting.size next label (unconditional u) env lives st) (expr_passes setting.text setting.size setting.ends p e level) (resume_unconditional at below u f.2 level))
        resume_conditional at below (IfElse ls l e m u k s) f level =
            let at1 : Where = further at (numbers_unconditional u) (owns_in_unconditional u) in
            let whole : Conditional = IfElse [] l e m u k s in
            resume_labels ls f.0 (if_else_code l (code_expr p e) (code_unconditional p at u) (code_statement p at1 s)) level (need_conditional (scopes_of p) whole) (plain_tree.IfElse (expr e) (unconditional u) (statement s))
            (statement_runs setting n env p lives next deeper at below (OneConditional whole) (tt, f.1, f.2, f.3) level)
            (resume_choice l level (need_expr (scopes_of p) e) (need_unconditional (scopes_of p) u) (need_statement (scopes_of p) s) (code_expr p e) (code_unconditional p at u) (code_statement p at1 s) (has label env (unconditional u)) (has label env (statement s)) (λ st. resume setting.size next label (unconditional u) env lives st) (λ st. resume setting.size next label (statement s) env lives st)
            (expr_passes setting.text setting.size setting.ends p e level) (unconditional_passes setting.text setting.size setting.ends p at u level) (statement_passes setting.text setting.size setting.ends p at1 s level) (resume_unconditional at below u f.2 level) (resume_statement at1 below s f.3 level))
        resume_conditional at below (IfLoop ls l e m x) f level = absurd f
