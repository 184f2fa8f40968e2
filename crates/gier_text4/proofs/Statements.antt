-- Over text 3 of declarations and statements the pass writes text 4, and notes entries.
use Rattle.std.proofs.Common.{◌≡◌, ◌∙◌, ◌+◌, ℕ, suc, List, [], ◌∷◌, length, refl, sym as back, ap, arith}
use Rattle.std.specs.Prelude.{map}
use Rattle.gier_symbol.specs.declared.symbol.Symbol.{Symbol}
use Rattle.gier_symbol.specs.declared.tag.Tag.TheVariants.{Begin, End, Semicolon, Switch, If, Then, Else, For, Do, Becomes}
use Rattle.gier_symbol.specs.ByTag.{word}
use Rattle.gier_tree.specs.declared.construct.Construct.TheVariants.{Block as MBlock, Compound as MCompound}
use Rattle.gier_tree.specs.declared.construct.Construct.TheVariants.{SwitchDeclaration as MSwitch, ForStatement as MFor}
use Rattle.gier_tree.specs.declared.construct.Construct.TheVariants.{ProcedureDeclaration as MProcedure, ProcedureBody as MBody}
use Rattle.gier_tree.specs.declared.construct.Construct.TheVariants.{ControlledStatement as MControlled}
use Rattle.gier_tree.specs.declared.construct.Construct.TheVariants.{ConditionalStatement as MConditional}
use Rattle.gier_tree.specs.Declaring.{list_of, own_names, formals_of, labels_of_statement, labels_of_statements, labels_of_group}
use Rattle.gier_tree.specs.Declaring.{labels_of_unconditional, labels_of_basic, labels_of_conditional, labels_of_loop}
use Rattle.gier_tree.specs.Described.{plain, kind_in}
use Rattle.gier_tree.specs.Entries.{entry, label_entries, block_entries, procedure_entries}
use Rattle.gier_tree.specs.Lines.{first_statement, last_statement, last_exprs, last_expr, first_heading, last_heading}
use Rattle.gier_tree.specs.Lines.{first_conditional}
use Rattle.gier_tree.specs.Lines.{last_conditional, first_loop, last_loop}
use Rattle.gier_tree.specs.OwnCount.{count_owns, owns_of_declaration, owns_of_declarations, owns_of_group, owns_of_statements}
use Rattle.gier_tree.specs.OwnCount.{owns_of_statement, owns_of_unconditional, owns_of_basic, owns_of_conditional, owns_of_loop}
use Rattle.gier_tree.specs.OwnCount.{owns_in_declaration, owns_in_declarations, owns_in_statement, owns_in_unconditional}
use Rattle.gier_tree.specs.Places.{Places, block_places, procedure_places, turn_places}
use Rattle.gier_tree.specs.Texts.{Where, inner, further, behind_statement, behind_declaration, behind_declarations, next_line}
use Rattle.gier_tree.specs.Texts.{all_entries, entries_of, entries_of_all, declares, text_heading, text_declaration}
use Rattle.gier_tree.specs.Texts.{text_declarations, text_group, text_statements, text_statement, text_unconditional, text_basic}
use Rattle.gier_tree.specs.Texts.{text_conditional, text_loop, text_own, text_own_arrays, text_turns, text_next_turns}
use Rattle.gier_tree.specs.Texts.{text_switch_element, text_switch_elements}
use Rattle.gier_tree.specs.Trees.{Name, Expr, Heading, LabelPlace, Declaration, DeclareType, DeclareOwn, DeclareArrays}
use Rattle.gier_tree.specs.Trees.{DeclareOwnArrays}
use Rattle.gier_tree.specs.Trees.{DeclareSwitch, DeclareProcedure, Declarations, NoDeclarations, MoreDeclarations, Group, MkBlock}
use Rattle.gier_tree.specs.Trees.{MkCompound, Statements, NoStatements, MoreStatements, Statement, OneUnconditional, OneConditional}
use Rattle.gier_tree.specs.Trees.{OneLoop, Unconditional, MkUnconditional, Basic, OneGroup, Assign, Jump, CallStatement, Dummy}
use Rattle.gier_tree.specs.Trees.{Conditional, IfThen, IfElse, IfLoop, Loop, MkLoop}
use Rattle.gier_tree.specs.Written.{Marked, Collected, opens, shuts, text_expr, used_name}
use Rattle.gier_tree.specs.Entries.{numbers_unconditional, entries_numbers, turn_entries}
use Rattle.gier_written.specs.Renamed.{collected_text}
use Rattle.gier_text4.specs.PurePass.{step}
use Rattle.gier_text4.specs.State.{NotOwn, Frame, InSwitch, MkState, put, lined}
use Rattle.gier_text4.proofs.Copying.{fold_written, marked_text, Copies, copies, both, one}
use Rattle.gier_text4.proofs.CopiedExpressions.{copied_expr}
use Rattle.gier_text4.proofs.CopiedStatements.{copied_assignment, copied_jump, copied_call_statement, copied_for, copied_switch}
use Rattle.gier_text4.proofs.Calm.{calm}
use Rattle.gier_text4.proofs.DeclaredVariables.{variables_declared, own_variables_declared}
use Rattle.gier_text4.proofs.DeclaredArrays.{all_app, arrays_declared}
use Rattle.gier_text4.proofs.OwnArrays.{own_arrays_declared}
use Rattle.gier_text4.proofs.Headings.{heading_read}
use Rattle.gier_text4.proofs.Scopes.{lined_entries, lined_block, marked_all}
use Rattle.gier_text4.proofs.Standing.{hoisted_text, hoisted_entries, Stands, IsFramed, behind_declaration_framed}
use Rattle.gier_text4.proofs.Standing.{behind_declarations_framed, behind_statement_framed, count_statement, count_declaration}
use Rattle.gier_text4.proofs.Standing.{count_declarations, moved, same_at, copied_at, labelled}

-- a condition, up to `_then`
condition_copied : (os : List Name) (p q : Places) (l m : ℕ) (e : Expr) → Copies os
    (λ k. word If l ∷ text_expr (marked_text os) p e (word Then m ∷ k)) (λ k. word If l
    ∷ text_expr (collected_text os) q e (word Then m ∷ k))
condition_copied os p q l m e = both (one os (word If l) refl refl) (both (copied_expr os p q e) (one os (word Then m) refl refl))

-- entries of a procedure's scope
procedure_lined : (h : Heading) (s : Statement) (l : ℕ) (k : List Symbol)
    → lined l (all_entries (map (λ x. entry (plain (kind_in h x.number)) x) (formals_of h)) 0
    (all_entries (label_entries (labels_of_statement s [])) 0 [])) k ≡ all_entries (procedure_entries h s) l k
procedure_lined h s l k =
    let formals = map (λ x. entry (plain (kind_in h x.number)) x) (formals_of h) in
    let labels = label_entries (labels_of_statement s []) in
    lined_entries formals l (all_entries labels 0 []) k
    ∙ ap (all_entries formals l) (lined_entries labels l [] k)
    ∙ back (all_app formals labels l k)

mutual
  pub declaration_stands : (os : List Name) (fr : Frame) (d w : List Symbol) (p q : Places) (u v : Where) (i j : ℕ) (next : ℕ)
      (x : Declaration)
      (r : List Declaration) (k o e : List Symbol) (es : List (List Symbol)) → u.owns ≡ i → v.owns ≡ i
      → j ≡ i + owns_in_declaration x
      → IsFramed fr (owns_of_declaration x r) → Stands os fr d w k o r j e es
      → Stands os fr d w (text_declaration (marked_text os) p u next x k) (text_declaration (collected_text
      os) q v next x o) (owns_of_declaration x r) i
      (entries_of Collected x i 0 e) es
  declaration_stands os fr d w p q u v i j next (DeclareType t ns) r k o e es au av n f h =
      variables_declared os t.type t.line ns k o (hoisted_text r i d) e es (hoisted_entries r i w) fr (same_at os fr d w k o r i
      j e es n h)
  declaration_stands os fr d w p q u v i j next (DeclareOwn l t ns) r k o e es au av n f h =
      let i1 = i + length (list_of ns) in
      let n1 : j ≡ i1 = omega (arith, n) in
      ap (λ y. fold_written os (text_own Marked l t ns y k)) au
      ∙ own_variables_declared os l t.type t.line ns i k o (hoisted_text r i1 d) e es (hoisted_entries r i1 w) fr f
      (moved os fr d w k o r i1 j e es n1 h)
  declaration_stands os fr d w p q u v i j next (DeclareArrays t l s ss) r k o e es au av n f h =
      arrays_declared os p q t.type t.line l s ss k o (hoisted_text r i d) e es (hoisted_entries r i w) fr (same_at os fr d w k
      o r i j e es n h)
  declaration_stands os fr d w p q u v i j next (DeclareOwnArrays y t l s ss) r k o e es au av n f h =
      let i1 = i + length (own_names (DeclareOwnArrays y t l s ss)) in
      let n1 : j ≡ i1 = omega (arith, n) in
      ap (λ z. fold_written os (text_own_arrays Marked y t l s ss z k)) au
      ∙ own_arrays_declared os y t.type t.line l s ss i k o (hoisted_text r i1 d) e es (hoisted_entries r i1 w) fr f
      (moved os fr d w k o r i1 j e es n1 h)
  declaration_stands os fr d w p q u v i j next (DeclareSwitch l x m y ys) r k o e es au av n f h =
      let s = shuts MSwitch (last_exprs (last_expr y) ys) in
      let d1 = hoisted_text r i d in
      let w1 = hoisted_entries r i w in
      let g : List Symbol → List Symbol =
      λ z. text_switch_element (marked_text os) p y (text_switch_elements (marked_text os) p ys z) in
      let g' : List Symbol → List Symbol =
      λ z. text_switch_element (collected_text os) q y (text_switch_elements (collected_text os) q ys z) in
      let c = copied_switch os p q m y ys in
      let k1 : List Symbol = s ∷ k in
      let h1 : fold_written os k1 ≡ MkState (s ∷ o) d1 (e ∷ es) w1 [] NotOwn InSwitch fr =
      ap (step s) (same_at os fr d w k o r i j e es n h) in
      let h2 : fold_written os (word Becomes m ∷ g k1)
      ≡ MkState (word Becomes m ∷ g' (s ∷ o)) d1 (e ∷ es) w1 [] NotOwn InSwitch fr =
      copies os (λ z. word Becomes m ∷ g z) (λ z. word Becomes m ∷ g' z) c k1 ∙ ap (put (λ z. word Becomes m ∷ g' z)) h1 in
      ap (λ z. step (opens MSwitch l) (step (word Switch l) (step (declares x) z))) h2
  declaration_stands os fr d w p q u v i j next (DeclareProcedure hd s) r k o e es au av n f h =
      let l0 = first_heading hd in
      let lb = first_statement s next in
      let ls = labels_of_statement s [] in
      let p1 = procedure_places (suc u.level) u.numbers hd s p in
      let q1 = procedure_places (suc v.level) v.numbers hd s q in
      let u1 = inner u (procedure_entries hd s) in
      let v1 = inner v (procedure_entries hd s) in
      let m1 = shuts MBody (last_statement s next) in
      let m2 = shuts MProcedure (last_statement s (last_heading hd)) in
      let k0 : List Symbol = m1 ∷ m2 ∷ k in
      let o0 : List Symbol = m1 ∷ m2 ∷ o in
      let k1 = text_statement (marked_text os) p1 u1 next s k0 in
      let o1 = text_statement (collected_text os) q1 v1 next s o0 in
      let h0 : Stands os fr d w k0 o0 r j [] (e ∷ es) = ap (λ z. step m1 (step m2 z)) h in
      let h1 = statement_stands os fr d w p1 q1 u1 v1 i j next s [] r k0 o0 [] (e ∷ es) au av n f h0 in
      let d1 = hoisted_text (owns_of_statement s r) i d in
      let w1 = hoisted_entries (owns_of_statement s r) i w in
      heading_read os hd l0 lb k1 o1 d1 (all_entries (label_entries ls) 0 []) e es w1 fr h1
      ∙ ap (λ z. calm (opens MProcedure l0 ∷ z) d1 (entries_of Collected (DeclareProcedure hd s) i 0 e ∷ es) w1 fr)
      (procedure_lined hd s l0 (text_heading hd (opens MBody lb ∷ o1)))

  pub declarations_stand : (os : List Name) (fr : Frame) (d w : List Symbol) (p q : Places) (u v : Where) (i j : ℕ) (x :
      Declarations)
      (r : List Declaration) (k o e : List Symbol) (es : List (List Symbol)) → u.owns ≡ i → v.owns ≡ i
      → j ≡ i + owns_in_declarations x
      → IsFramed fr (owns_of_declarations x r) → Stands os fr d w k o r j e es
      → Stands os fr d w (text_declarations (marked_text os) p u x k) (text_declarations (collected_text
      os) q v x o) (owns_of_declarations x r) i
      (entries_of_all Collected x i 0 e) es
  declarations_stand os fr d w p q u v i j NoDeclarations r k o e es au av n f h = same_at os fr d w k o r i j e es n h
  declarations_stand os fr d w p q u v i j (MoreDeclarations x m ds) r k o e es au av n f h =
      let i1 = i + owns_in_declaration x in
      let n1 : j ≡ i1 + owns_in_declarations ds = omega (arith, n, count_declaration x (owns_of_declarations ds [])) in
      let u1 = behind_declaration u x in
      let v1 = behind_declaration v x in
      let k1 : List Symbol = word Semicolon m ∷ text_declarations (marked_text os) p u1 ds k in
      let o1 : List Symbol = word Semicolon m ∷ text_declarations (collected_text os) q v1 ds o in
      let h1 = declarations_stand os fr d w p q u1 v1 i1 j ds r k o e es (ap (λ z. z + owns_in_declaration x) au)
      (ap (λ z. z + owns_in_declaration x) av) n1 (behind_declaration_framed fr x (owns_of_declarations ds r) f) h in
      declaration_stands os fr d w p q u v i i1 m x (owns_of_declarations ds r) k1 o1 (entries_of_all Collected ds i1 0 e) es au
      av refl f
      (ap (step (word Semicolon m)) h1)

  pub statement_stands : (os : List Name) (fr : Frame) (d w : List Symbol) (p q : Places) (u v : Where) (i j : ℕ) (next : ℕ) (x
      : Statement) (a : List LabelPlace)
      (r : List Declaration) (k o e : List Symbol) (es : List (List Symbol)) → u.owns ≡ i → v.owns ≡ i → j ≡ i + owns_in_statement x
      → IsFramed fr (owns_of_statement x r) → Stands os fr d w k o r j (all_entries (label_entries a) 0 e) es
      → Stands os fr d w (text_statement (marked_text os) p u next x k) (text_statement (collected_text
      os) q v next x o) (owns_of_statement x r) i
      (all_entries (label_entries (labels_of_statement x a)) 0 e) es
  statement_stands os fr d w p q u v i j next (OneUnconditional x) a r k o e es au av n f h =
      unconditional_stands os fr d w p q u v i j next x a r k o e es au av n f h
  statement_stands os fr d w p q u v i j next (OneConditional x) a r k o e es au av n f h =
      conditional_stands os fr d w p q u v i j next x a r k o e es au av n f h
  statement_stands os fr d w p q u v i j next (OneLoop x) a r k o e es au av n f h =
      loop_stands os fr d w p q u v i j next x a r k o e es au av n f h

  pub unconditional_stands : (os : List Name) (fr : Frame) (d w : List Symbol) (p q : Places) (u v : Where) (i j : ℕ) (next : ℕ)
      (x : Unconditional) (a : List LabelPlace)
      (r : List Declaration) (k o e : List Symbol) (es : List (List Symbol)) → u.owns ≡ i → v.owns ≡ i
      → j ≡ i + owns_in_unconditional x
      → IsFramed fr (owns_of_unconditional x r) → Stands os fr d w k o r j (all_entries (label_entries a) 0 e) es
      → Stands os fr d w (text_unconditional (marked_text os) p u next x k) (text_unconditional (collected_text
      os) q v next x o) (owns_of_unconditional x r) i
      (all_entries (label_entries (labels_of_unconditional x a)) 0 e) es
  unconditional_stands os fr d w p q u v i j next (MkUnconditional ls b) a r k o e es au av n f h =
      labelled os fr d w (text_basic (marked_text os) p u b k) (text_basic (collected_text os) q v b o) (owns_of_basic b r) i ls
      (labels_of_basic b a) e es (basic_stands os fr d w p q u v i j b a r k o e es au av n f h)

  pub basic_stands : (os : List Name) (fr : Frame) (d w : List Symbol) (p q : Places) (u v : Where) (i j : ℕ) (x : Basic) (a :
      List LabelPlace)
      (r : List Declaration) (k o e : List Symbol) (es : List (List Symbol)) → u.owns ≡ i → v.owns ≡ i
      → j ≡ i + count_owns (owns_of_basic x [])
      → IsFramed fr (owns_of_basic x r) → Stands os fr d w k o r j (all_entries (label_entries a) 0 e) es
      → Stands os fr d w (text_basic (marked_text os) p u x k) (text_basic (collected_text os) q v x o) (owns_of_basic x r) i
      (all_entries (label_entries (labels_of_basic x a)) 0 e) es
  basic_stands os fr d w p q u v i j (OneGroup x) a r k o e es au av n f h =
      group_stands os fr d w p q u v i j x a r k o e es au av n f h
  basic_stands os fr d w p q u v i j (Assign x xs b) a r k o e es au av n f h =
      let e1 = all_entries (label_entries a) 0 e in
      copied_at os (text_basic (marked_text os) p u (Assign x xs b)) (text_basic (collected_text os) q v (Assign x xs b))
      (copied_assignment os p q u v x xs b) fr d w k o r i e1 es (same_at os fr d w k o r i j e1 es n h)
  basic_stands os fr d w p q u v i j (Jump l b) a r k o e es au av n f h =
      let e1 = all_entries (label_entries a) 0 e in
      copied_at os (text_basic (marked_text os) p u (Jump l b)) (text_basic (collected_text os) q v (Jump l b))
      (copied_jump os p q u v l b) fr d w k o r i e1 es (same_at os fr d w k o r i j e1 es n h)
  basic_stands os fr d w p q u v i j (CallStatement x) a r k o e es au av n f h =
      let e1 = all_entries (label_entries a) 0 e in
      copied_at os (text_basic (marked_text os) p u (CallStatement x)) (text_basic (collected_text os) q v (CallStatement x))
      (copied_call_statement os p q x) fr d w k o r i e1 es (same_at os fr d w k o r i j e1 es n h)
  basic_stands os fr d w p q u v i j Dummy a r k o e es au av n f h =
      same_at os fr d w k o r i j (all_entries (label_entries a) 0 e) es n h

  pub statements_stand : (os : List Name) (fr : Frame) (d w : List Symbol) (p q : Places) (u v : Where) (i j : ℕ) (next : ℕ) (x
      : Statements) (a : List LabelPlace)
      (r : List Declaration) (k o e : List Symbol) (es : List (List Symbol)) → u.owns ≡ i → v.owns ≡ i
      → j ≡ i + count_owns (owns_of_statements x [])
      → IsFramed fr (owns_of_statements x r) → Stands os fr d w k o r j (all_entries (label_entries a) 0 e) es
      → Stands os fr d w (text_statements (marked_text os) p u next x k) (text_statements (collected_text
      os) q v next x o) (owns_of_statements x r) i
      (all_entries (label_entries (labels_of_statements x a)) 0 e) es
  statements_stand os fr d w p q u v i j next NoStatements a r k o e es au av n f h =
      same_at os fr d w k o r i j (all_entries (label_entries a) 0 e) es n h
  statements_stand os fr d w p q u v i j next (MoreStatements l s ss) a r k o e es au av n f h =
      let i1 = i + owns_in_statement s in
      let n1 : j ≡ i1 + count_owns (owns_of_statements ss []) = omega (arith, n, count_statement s (owns_of_statements ss [])) in
      let u1 = behind_statement u s in
      let v1 = behind_statement v s in
      let h1 = statements_stand os fr d w p q u1 v1 i1 j next ss a r k o e es (ap (λ z. z + owns_in_statement s) au)
      (ap (λ z. z + owns_in_statement s) av) n1 (behind_statement_framed fr s (owns_of_statements ss r) f) h in
      ap (step (word Semicolon l)) (statement_stands os fr d w p q u v i i1 (next_line ss next) s (labels_of_statements ss a)
      (owns_of_statements ss r) (text_statements (marked_text os) p u1 next ss k) (text_statements (collected_text
      os) q v1 next ss o) e es
      au av refl f h1)

  pub group_stands : (os : List Name) (fr : Frame) (d w : List Symbol) (p q : Places) (u v : Where) (i j : ℕ) (x : Group) (a :
      List LabelPlace)
      (r : List Declaration) (k o e : List Symbol) (es : List (List Symbol)) → u.owns ≡ i → v.owns ≡ i
      → j ≡ i + count_owns (owns_of_group x [])
      → IsFramed fr (owns_of_group x r) → Stands os fr d w k o r j (all_entries (label_entries a) 0 e) es
      → Stands os fr d w (text_group (marked_text os) p u x k) (text_group (collected_text os) q v x o) (owns_of_group x r) i
      (all_entries (label_entries (labels_of_group x a)) 0 e) es
  group_stands os fr d w p q u v i j (MkCompound l s ss m) a r k o e es au av n f h =
      let i1 = i + owns_in_statement s in
      let n1 : j ≡ i1 + count_owns (owns_of_statements ss []) = omega (arith, n, count_statement s (owns_of_statements ss [])) in
      let u1 = behind_statement u s in
      let v1 = behind_statement v s in
      let k0 : List Symbol = word End m ∷ shuts MCompound m ∷ k in
      let o0 : List Symbol = word End m ∷ shuts MCompound m ∷ o in
      let k1 = text_statements (marked_text os) p u1 m ss k0 in
      let o1 = text_statements (collected_text os) q v1 m ss o0 in
      let h0 : Stands os fr d w k0 o0 r j (all_entries (label_entries a) 0 e) es =
      ap (λ z. step (word End m) (step (shuts MCompound m) z)) h in
      let h1 = statements_stand os fr d w p q u1 v1 i1 j m ss a r k0 o0 e es (ap (λ z. z + owns_in_statement s) au)
      (ap (λ z. z + owns_in_statement s) av) n1 (behind_statement_framed fr s (owns_of_statements ss r) f) h0 in
      ap (λ z. step (opens MCompound l) (step (word Begin l) z)) (statement_stands os fr d w p q u v i i1 (next_line ss m) s
      (labels_of_statements ss a) (owns_of_statements ss r) k1 o1 e es au av refl f h1)
  group_stands os fr d w p q u v i j (MkBlock l x m ds s ss z) a r k o e es au av n f h =
      let e1 = all_entries (label_entries a) 0 e in
      let j1 = i + owns_in_declaration x in
      let j2 = j1 + owns_in_declarations ds in
      let j3 = j2 + owns_in_statement s in
      let r1 = owns_of_statements ss r in
      let r2 = owns_of_statement s r1 in
      let r3 = owns_of_declarations ds r2 in
      let f3 = behind_declaration_framed fr x r3 f in
      let f2 = behind_declarations_framed fr ds r2 f3 in
      let f1 = behind_statement_framed fr s r1 f2 in
      let p1 = block_places (suc u.level) u.numbers x ds s ss p in
      let q1 = block_places (suc v.level) v.numbers x ds s ss q in
      let u1 = inner u (block_entries x ds s ss) in
      let v1 = inner v (block_entries x ds s ss) in
      let u2 = behind_declaration u1 x in
      let v2 = behind_declaration v1 x in
      let u3 = behind_declarations u2 ds in
      let v3 = behind_declarations v2 ds in
      let u4 = behind_statement u3 s in
      let v4 = behind_statement v3 s in
      let n3 : j ≡ j3 + count_owns (owns_of_statements ss []) = omega (
        arith,
        n,
        count_declaration x (owns_of_declarations ds (owns_of_statement s (owns_of_statements ss []))),
        count_declarations ds (owns_of_statement s (owns_of_statements ss [])),
        count_statement s (owns_of_statements ss []),
      ) in
      let au2 : u2.owns ≡ j1 = ap (λ y. y + owns_in_declaration x) au in
      let av2 : v2.owns ≡ j1 = ap (λ y. y + owns_in_declaration x) av in
      let au3 : u3.owns ≡ j2 = ap (λ y. y + owns_in_declarations ds) au2 in
      let av3 : v3.owns ≡ j2 = ap (λ y. y + owns_in_declarations ds) av2 in
      let ls = labels_of_statement s (labels_of_statements ss []) in
      let k0 : List Symbol = word End z ∷ shuts MBlock z ∷ k in
      let o0 : List Symbol = word End z ∷ shuts MBlock z ∷ o in
      let k1 = text_statements (marked_text os) p1 u4 z ss k0 in
      let o1 = text_statements (collected_text os) q1 v4 z ss o0 in
      let k2 = text_statement (marked_text os) p1 u3 (next_line ss z) s k1 in
      let o2 = text_statement (collected_text os) q1 v3 (next_line ss z) s o1 in
      let k3 : List Symbol = word Semicolon m ∷ text_declarations (marked_text os) p1 u2 ds k2 in
      let o3 : List Symbol = word Semicolon m ∷ text_declarations (collected_text os) q1 v2 ds o2 in
      let k4 : List Symbol = word Begin l ∷ text_declaration (marked_text os) p1 u1 m x k3 in
      let o4 : List Symbol = word Begin l ∷ text_declaration (collected_text os) q1 v1 m x o3 in
      let b2 = all_entries (label_entries ls) 0 [] in
      let b3 = entries_of_all Collected ds j1 0 b2 in
      let b4 = entries_of Collected x i 0 b3 in
      let h0 : Stands os fr d w k0 o0 r j [] (e1 ∷ es) = ap (λ y. step (word End z) (step (shuts MBlock z) y)) h in
      let h1 = statements_stand os fr d w p1 q1 u4 v4 j3 j z ss [] r k0 o0 [] (e1 ∷ es) (ap (λ y. y + owns_in_statement s) au3)
      (ap (λ y. y + owns_in_statement s) av3) n3 f1 h0 in
      let h2 = statement_stands os fr d w p1 q1 u3 v3 j2 j3 (next_line ss z) s (labels_of_statements ss []) r1 k1 o1 [] (e1
      ∷ es) au3 av3
      refl f2 h1 in
      let h3 = declarations_stand os fr d w p1 q1 u2 v2 j1 j2 ds r2 k2 o2 b2 (e1 ∷ es) au2 av2 refl f3 h2 in
      let h4 = declaration_stands os fr d w p1 q1 u1 v1 i j1 m x r3 k3 o3 b3 (e1
      ∷ es) au av refl f (ap (step (word Semicolon m)) h3) in
      let h5 : Stands os fr d w k4 o4 (owns_of_declaration x r3) i b4 (e1 ∷ es) = ap (step (word Begin l)) h4 in
      let d5 = hoisted_text (owns_of_declaration x r3) i d in
      let w5 = hoisted_entries (owns_of_declaration x r3) i w in
      ap (λ y. fold_written os (opens MBlock l ∷ y)) (marked_all ds (u.owns + owns_in_declaration x) l k4)
      ∙ ap (step (opens MBlock l)) h5
      ∙ ap (λ y. calm (opens MBlock l ∷ y) d5 (e1 ∷ es) w5 fr) (lined_block x ds ls i j1 l o4)
      ∙ ap (λ y. calm (opens MBlock l ∷ entries_of Collected x y l (entries_of_all Collected ds (y + owns_in_declaration x) l
      (all_entries (label_entries ls) l o4))) d5 (e1 ∷ es) w5 fr) (back av)

  pub conditional_stands : (os : List Name) (fr : Frame) (d w : List Symbol) (p q : Places) (u v : Where) (i j : ℕ) (next : ℕ)
      (x : Conditional) (a : List LabelPlace)
      (r : List Declaration) (k o e : List Symbol) (es : List (List Symbol)) → u.owns ≡ i → v.owns ≡ i
      → j ≡ i + count_owns (owns_of_conditional x [])
      → IsFramed fr (owns_of_conditional x r) → Stands os fr d w k o r j (all_entries (label_entries a) 0 e) es
      → Stands os fr d w (text_conditional (marked_text os) p u next x k) (text_conditional (collected_text
      os) q v next x o) (owns_of_conditional x r) i
      (all_entries (label_entries (labels_of_conditional x a)) 0 e) es
  conditional_stands os fr d w p q u v i j next (IfThen ls l b m x) a r k o e es au av n f h =
      let y = shuts MConditional (last_conditional (IfThen ls l b m x)) in
      let k1 : List Symbol = y ∷ k in
      let o1 : List Symbol = y ∷ o in
      let k2 = text_unconditional (marked_text os) p u next x k1 in
      let o2 = text_unconditional (collected_text os) q v next x o1 in
      let h2 = unconditional_stands os fr d w p q u v i j next x a r k1 o1 e es au av n f (ap (step y) h) in
      ap (step (opens MConditional (first_conditional (IfThen ls l b m x)))) (labelled os fr d w
      (word If l ∷ text_expr (marked_text os) p b (word Then m ∷ k2)) (word If l
      ∷ text_expr (collected_text os) q b (word Then m ∷ o2))
      (owns_of_unconditional x r) i ls (labels_of_unconditional x a) e es
      (copied_at os (λ y. word If l ∷ text_expr (marked_text os) p b (word Then m ∷ y))
      (λ y. word If l ∷ text_expr (collected_text os) q b (word Then m ∷ y)) (condition_copied os p q l m b) fr d w k2 o2
      (owns_of_unconditional x r) i (all_entries (label_entries (labels_of_unconditional x a)) 0 e) es h2))
  conditional_stands os fr d w p q u v i j next (IfElse ls l b m x z s) a r k o e es au av n f h =
      let y = shuts MConditional (last_conditional (IfElse ls l b m x z s)) in
      let i1 = i + owns_in_unconditional x in
      let n1 : j ≡ i1 + owns_in_statement s = omega (arith, n, count_statement (OneUnconditional x) (owns_of_statement s [])) in
      let u1 = further u (numbers_unconditional x) (owns_in_unconditional x) in
      let v1 = further v (numbers_unconditional x) (owns_in_unconditional x) in
      let k1 : List Symbol = y ∷ k in
      let o1 : List Symbol = y ∷ o in
      let k2 : List Symbol = word Else z ∷ text_statement (marked_text os) p u1 next s k1 in
      let o2 : List Symbol = word Else z ∷ text_statement (collected_text os) q v1 next s o1 in
      let k3 = text_unconditional (marked_text os) p u z x k2 in
      let o3 = text_unconditional (collected_text os) q v z x o2 in
      let h2 = statement_stands os fr d w p q u1 v1 i1 j next s a r k1 o1 e es (ap (λ c. c + owns_in_unconditional x) au)
      (ap (λ c. c + owns_in_unconditional x) av) n1 (behind_statement_framed fr (OneUnconditional x) (owns_of_statement s r) f)
      (ap (step y) h) in
      let h3 = unconditional_stands os fr d w p q u v i i1 z x (labels_of_statement s a) (owns_of_statement s r) k2 o2 e es au
      av refl f
      (ap (step (word Else z)) h2) in
      ap (step (opens MConditional (first_conditional (IfElse ls l b m x z s)))) (labelled os fr d w
      (word If l ∷ text_expr (marked_text os) p b (word Then m ∷ k3)) (word If l
      ∷ text_expr (collected_text os) q b (word Then m ∷ o3))
      (owns_of_unconditional x (owns_of_statement s r)) i ls (labels_of_unconditional x (labels_of_statement s a)) e es
      (copied_at os (λ y. word If l ∷ text_expr (marked_text os) p b (word Then m ∷ y))
      (λ y. word If l ∷ text_expr (collected_text os) q b (word Then m ∷ y)) (condition_copied os p q l m b) fr d w k3 o3
      (owns_of_unconditional x (owns_of_statement s r)) i (all_entries (label_entries
      (labels_of_unconditional x (labels_of_statement s a))) 0 e) es h3))
  conditional_stands os fr d w p q u v i j next (IfLoop ls l b m x) a r k o e es au av n f h =
      let y = shuts MConditional (last_conditional (IfLoop ls l b m x)) in
      let k1 : List Symbol = y ∷ k in
      let o1 : List Symbol = y ∷ o in
      let k2 = text_loop (marked_text os) p u next x k1 in
      let o2 = text_loop (collected_text os) q v next x o1 in
      let h2 = loop_stands os fr d w p q u v i j next x a r k1 o1 e es au av n f (ap (step y) h) in
      ap (step (opens MConditional (first_conditional (IfLoop ls l b m x)))) (labelled os fr d w
      (word If l ∷ text_expr (marked_text os) p b (word Then m ∷ k2)) (word If l
      ∷ text_expr (collected_text os) q b (word Then m ∷ o2))
      (owns_of_loop x r) i ls (labels_of_loop x a) e es
      (copied_at os (λ y. word If l ∷ text_expr (marked_text os) p b (word Then m ∷ y))
      (λ y. word If l ∷ text_expr (collected_text os) q b (word Then m ∷ y)) (condition_copied os p q l m b) fr d w k2 o2
      (owns_of_loop x r) i (all_entries (label_entries (labels_of_loop x a)) 0 e) es h2))

  pub loop_stands : (os : List Name) (fr : Frame) (d w : List Symbol) (p q : Places) (u v : Where) (i j : ℕ) (next : ℕ) (x :
      Loop) (a : List LabelPlace)
      (r : List Declaration) (k o e : List Symbol) (es : List (List Symbol)) → u.owns ≡ i → v.owns ≡ i
      → j ≡ i + count_owns (owns_of_loop x [])
      → IsFramed fr (owns_of_loop x r) → Stands os fr d w k o r j (all_entries (label_entries a) 0 e) es
      → Stands os fr d w (text_loop (marked_text os) p u next x k) (text_loop (collected_text os) q v next x o) (owns_of_loop x r) i
      (all_entries (label_entries (labels_of_loop x a)) 0 e) es
  loop_stands os fr d w p q u v i j next (MkLoop ls l x m t ts z s) a r k o e es au av n f h =
      let e1 = all_entries (label_entries a) 0 e in
      let lb = first_statement s next in
      let bs = labels_of_statement s [] in
      let m1 = shuts MControlled (last_statement s next) in
      let m2 = shuts MFor (last_loop (MkLoop ls l x m t ts z s)) in
      let u1 = further u (entries_numbers (turn_entries s)) 0 in
      let v1 = further v (entries_numbers (turn_entries s)) 0 in
      let au1 : u1.owns ≡ i = omega (arith, au) in
      let av1 : v1.owns ≡ i = omega (arith, av) in
      let p1 = turn_places u.level u.numbers s p in
      let q1 = turn_places v.level v.numbers s q in
      let k0 : List Symbol = m1 ∷ m2 ∷ k in
      let o0 : List Symbol = m1 ∷ m2 ∷ o in
      let k1 = text_statement (marked_text os) p1 u1 next s k0 in
      let o1 = text_statement (collected_text os) q1 v1 next s o0 in
      let h0 : Stands os fr d w k0 o0 r j [] (e1 ∷ es) = ap (λ y. step m1 (step m2 y)) h in
      let h1 = statement_stands os fr d w p1 q1 u1 v1 i j next s [] r k0 o0 [] (e1 ∷ es) au1 av1 n f h0 in
      let r1 = owns_of_statement s r in
      let k2 : List Symbol = opens MControlled lb ∷ k1 in
      let o2 : List Symbol = opens MControlled lb ∷ all_entries (label_entries bs) lb o1 in
      let h2 : Stands os fr d w k2 o2 r1 i e1 es =
      ap (step (opens MControlled lb)) h1
      ∙ ap (λ y. calm (opens MControlled lb ∷ y) (hoisted_text r1 i d) (e1 ∷ es) (hoisted_entries r1 i w) fr)
      (lined_entries (label_entries bs) lb [] o1) in
      let g : List Symbol → List Symbol = λ y. word For l ∷ used_name (marked_text os) p x (word Becomes m
      ∷ text_turns (marked_text os) p t (text_next_turns (marked_text os) p ts (word Do z ∷ y))) in
      let g' : List Symbol → List Symbol = λ y. word For l ∷ used_name (collected_text os) q x (word Becomes m
      ∷ text_turns (collected_text os) q t (text_next_turns (collected_text os) q ts (word Do z ∷ y))) in
      ap (step (opens MFor (first_loop (MkLoop ls l x m t ts z s)))) (labelled os fr d w (g k2) (g' o2) r1 i ls a e es
      (copied_at os g g' (copied_for os p q l x m t ts z) fr d w k2 o2 r1 i e1 es h2))
