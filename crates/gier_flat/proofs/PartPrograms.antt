-- Fair statements and programs of the part's form are of the part.
use Rattle.std.proofs.Common.{ℕ, suc, Bool, false, List, [], ◌∷◌, ◌++◌, refl, ap, ◌∙◌, subst}
use Rattle.std.specs.List.{AllByRecursion}
use Rattle.gier_tree.specs.Declaring.{labels_of_statement, labels_of_statements, labels_of_unconditional, labels_of_basic, labels_of_group, labels_of_conditional}
use Rattle.gier_tree.specs.Entries.{block_entries, declaration_entries, declarations_entries, label_entries, numbers_unconditional}
use Rattle.gier_tree.specs.Hoist.{hoist}
use Rattle.gier_tree.specs.OwnCount.{owns_in_unconditional}
use Rattle.gier_tree.specs.Places.{Places, block_places, program_places, standard_places}
use Rattle.gier_tree.specs.Room.{block_header}
use Rattle.gier_tree.specs.Texts.{Where, further, behind_statement, behind_declaration, behind_declarations, inner}
use Rattle.gier_tree.specs.Trees.{Call, Alone, WithActuals, OneExpr, AString, NoActuals, MoreActuals, LabelPlace}
use Rattle.gier_tree.specs.Trees.{LeftSide, OneName, LeftElement, LeftPart, Group, MkBlock, MkCompound, Statements, NoStatements}
use Rattle.gier_tree.specs.Trees.{MoreStatements, Statement, OneUnconditional, OneConditional, OneLoop, Unconditional}
use Rattle.gier_tree.specs.Trees.{MkUnconditional, Basic, OneGroup, Assign, Jump, CallStatement, Dummy, Conditional, IfThen}
use Rattle.gier_tree.specs.Trees.{IfElse, IfLoop, Program, MkProgram}
use Rattle.gier_tree.specs.Written.{name_alone}
use Rattle.gier_kinds.specs.Around.{hide}
use Rattle.gier_kinds.specs.Types.{ExprType, OfBoolean, is_known}
use Rattle.gier_fair.specs.Expressions as fair_expression
use Rattle.gier_fair.specs.Fair as fair
use Rattle.gier_fair.specs.InScope.{InScopeGroup, InScopeStatements, InScopeStatement, InScopeUnconditional, InScopeBasic, InScopeConditional, in_program}
use Rattle.gier_fair.proofs.WholePrograms.{programs_are_fair}
use Rattle.gier_flat.specs.BlockRooms.{RoomGroup, RoomStatements, RoomStatement, RoomUnconditional, RoomBasic, RoomConditional, RoomProgram}
use Rattle.gier_flat.specs.Fair.{FairLabels, FairLeft, FairLefts, FairCalled, FairGroup, FairStatements, FairStatement, FairUnconditional, FairBasic, FairConditional, FairProgram}
use Rattle.gier_flat.specs.Part.{PartLeft, PartLefts, PartCalled, PartGroup, PartStatements, PartStatement, PartUnconditional, PartBasic, PartConditional, PartProgram}
use Rattle.gier_flat.specs.WrittenLaw.{FaultlessRuns}
use Rattle.gier_flat.proofs.FromPremises.{run_is_meaning}
use Rattle.gier_flat.proofs.PartKinds.{AreKnown, IsValueType, cell, cell_type, line_end, prints, printing_takes, standard_known, known_inside, labels_ordinary, block_known, labels_stand}
use Rattle.gier_flat.proofs.PartExpressions.{expr_fair, expr_targets, passed}

front : (p : Places) (ls rest : List LabelPlace) → FairLabels p (ls ++ rest) → FairLabels p ls × FairLabels p rest
front p [] rest h = (tt, h)
front p (l ∷ ls) rest h = let r = front p ls rest h.1 in ((h.0, r.0), r.1)

module _ (p : Places) (k : AreKnown p) (f : ℕ → Bool) where
  left_fair : (q : LeftSide) → PartLeft q → (t : ExprType) → fair.FairLeft p f t q → FairLeft p q
  left_fair (OneName x) h t g = cell x.number (p x.number).what.kind (f x.number) (k x.number) (ap is_known g.0 ∙ g.1)
  left_fair (LeftElement e) h t g = absurd h

  left_value : (q : LeftSide) → PartLeft q → (t : ExprType) → fair.FairLeft p f t q → IsValueType t
  left_value (OneName x) h t g = subst IsValueType g.0 (cell_type x.number (p x.number).what.kind (f x.number) (k x.number) (ap is_known g.0 ∙ g.1))
  left_value (LeftElement e) h t g = absurd h

  lefts_fair : (qs : List LeftPart) → PartLefts qs → (t : ExprType) → AllByRecursion (λ part. fair.FairLeft p f t part.left) qs → FairLefts p qs
  lefts_fair [] h t g = tt
  lefts_fair (q ∷ qs) h t g = (left_fair q.left h.0 t g.0, lefts_fair qs h.1 t g.1)

  called_fair : (c : Call) → PartCalled c → fair.FairCallStatement p c → FairCalled p c
  called_fair (Alone x) h g = line_end x.number (p x.number).what.kind (p x.number).what.count (k x.number) h g
  called_fair (WithActuals x l (OneExpr y) NoActuals m) h g =
      let is = prints x.number (p x.number).what.kind (p x.number).what.count (k x.number) h.0 g.0 in
      let same = printing_takes (p x.number).what.kind (p x.number).what.formals is in
      (is, passed p k y (name_alone y) refl (subst (λ w. fair_expression.FairPassed p w (name_alone y) (λ u. fair_expression.FairExpr p u y)) same g.2) (λ u w e. expr_fair p k y h.1 u w e))
  called_fair (WithActuals x l (OneExpr y) (MoreActuals n a more) m) h g = absurd h
  called_fair (WithActuals x l (AString n bs i) more m) h g = absurd h

-- the labels of a part and of what follows it are labels
mutual
  statement_fair : (s : Statement) (p : Places) (f : ℕ → Bool) (w : Where) (rest : List LabelPlace) → AreKnown p → PartStatement s → RoomStatement p w s → InScopeStatement p w s → fair.FairStatement p f w s
      → FairLabels p (labels_of_statement s rest) → FairStatement p w s × FairLabels p rest
  statement_fair (OneUnconditional u) p f w rest k h r i g ls = unconditional_fair u p f w rest k h r i g ls
  statement_fair (OneConditional c) p f w rest k h r i g ls = conditional_fair c p f w rest k h r i g ls
  statement_fair (OneLoop x) p f w rest k h r i g ls = absurd h

  statements_fair : (ss : Statements) (p : Places) (f : ℕ → Bool) (w : Where) (rest : List LabelPlace) → AreKnown p → PartStatements ss → RoomStatements p w ss → InScopeStatements p w ss → fair.FairStatements p f w ss
      → FairLabels p (labels_of_statements ss rest) → FairStatements p w ss × FairLabels p rest
  statements_fair NoStatements p f w rest k h r i g ls = (tt, ls)
  statements_fair (MoreStatements l s ss) p f w rest k h r i g ls =
      let a = statement_fair s p f w (labels_of_statements ss rest) k h.0 r.0 i.0 g.0 ls in
      let b = statements_fair ss p f (behind_statement w s) rest k h.1 r.1 i.1 g.1 a.1 in
      ((a.0, b.0), b.1)

  unconditional_fair : (u : Unconditional) (p : Places) (f : ℕ → Bool) (w : Where) (rest : List LabelPlace) → AreKnown p → PartUnconditional u → RoomUnconditional p w u → InScopeUnconditional p w u → fair.FairUnconditional p f w u
      → FairLabels p (labels_of_unconditional u rest) → FairUnconditional p w u × FairLabels p rest
  unconditional_fair (MkUnconditional own b) p f w rest k h r i g ls =
      let a = front p own (labels_of_basic b rest) ls in
      let c = basic_fair b p f w rest k h r i g a.1 in
      ((a.0, c.0), c.1)

  basic_fair : (b : Basic) (p : Places) (f : ℕ → Bool) (w : Where) (rest : List LabelPlace) → AreKnown p → PartBasic b → RoomBasic p w b → InScopeBasic p w b → fair.FairBasic p f w b
      → FairLabels p (labels_of_basic b rest) → FairBasic p w b × FairLabels p rest
  basic_fair (OneGroup x) p f w rest k h r i g ls = group_fair x p f w rest k h r i g ls
  basic_fair (Assign q qs e) p f w rest k h r i g ls =
      ((left_fair p k f q.left h.0 g.0 g.1.0, lefts_fair p k f qs h.1 g.0 g.1.1, expr_fair p k e h.2 g.0 (left_value p k f q.left h.0 g.0 g.1.0) g.2), ls)
  basic_fair (Jump l e) p f w rest k h r i g ls = (expr_targets p k e h g, ls)
  basic_fair (CallStatement c) p f w rest k h r i g ls = (called_fair p k f c h g, ls)
  basic_fair Dummy p f w rest k h r i g ls = (tt, ls)

  group_fair : (x : Group) (p : Places) (f : ℕ → Bool) (w : Where) (rest : List LabelPlace) → AreKnown p → PartGroup x → RoomGroup p w x → InScopeGroup p w x → fair.FairGroup p f w x
      → FairLabels p (labels_of_group x rest) → FairGroup p w x × FairLabels p rest
  group_fair (MkBlock l d m ds s ss n) p f w rest k h r i g ls =
      let q = block_places (suc w.level) w.numbers d ds s ss p in
      let es = block_entries d ds s ss in
      let w3 = behind_declarations (behind_declaration (inner w es) d) ds in
      let all = labels_of_statement s (labels_of_statements ss []) in
      let known : AreKnown q = block_known (suc w.level) block_header w.numbers d ds all p h.0 h.1 k in
      let own : FairLabels q all = labels_stand (suc w.level) block_header w.numbers (declaration_entries d ++ declarations_entries ds) all p i.1 in
      let a = statement_fair s q (hide es f) w3 (labels_of_statements ss []) known h.2 r.1 i.4 g.2 own in
      let b = statements_fair ss q (hide es f) (behind_statement w3 s) [] known h.3 r.2 i.5 g.3 a.1 in
      ((record { level = i.0; distinct = i.1; first = h.0; others = h.1; room = r.0 }, a.0, b.0), ls)
  group_fair (MkCompound l s ss m) p f w rest k h r i g ls =
      let a = statement_fair s p f w (labels_of_statements ss rest) k h.0 r.0 i.0 g.0 ls in
      let b = statements_fair ss p f (behind_statement w s) rest k h.1 r.1 i.1 g.1 a.1 in
      ((a.0, b.0), b.1)

  conditional_fair : (c : Conditional) (p : Places) (f : ℕ → Bool) (w : Where) (rest : List LabelPlace) → AreKnown p → PartConditional c → RoomConditional p w c → InScopeConditional p w c → fair.FairConditional p f w c
      → FairLabels p (labels_of_conditional c rest) → FairConditional p w c × FairLabels p rest
  conditional_fair (IfThen own l e m u) p f w rest k h r i g ls =
      let a = front p own (labels_of_unconditional u rest) ls in
      let b = unconditional_fair u p f w rest k h.1 r i.1 g.1 a.1 in
      ((a.0, expr_fair p k e h.0 OfBoolean tt g.0, b.0), b.1)
  conditional_fair (IfElse own l e m u n s) p f w rest k h r i g ls =
      let a = front p own (labels_of_unconditional u (labels_of_statement s rest)) ls in
      let b = unconditional_fair u p f w (labels_of_statement s rest) k h.1 r.0 i.1 g.1 a.1 in
      let c = statement_fair s p f (further w (numbers_unconditional u) (owns_in_unconditional u)) rest k h.2 r.1 i.2 g.2 b.1 in
      ((a.0, expr_fair p k e h.0 OfBoolean tt g.0, b.0, c.0), c.1)
  conditional_fair (IfLoop own l e m x) p f w rest k h r i g ls = absurd h

program_fair : (t : Program) → PartProgram t → RoomProgram t → fair.IsFair t → FairProgram t
program_fair (MkProgram ls g l) h r i =
    let t = MkProgram ls g l in
    let all = ls ++ labels_of_group g [] in
    let p = program_places t in
    let known : AreKnown p = known_inside 1 0 0 (label_entries all) standard_places (labels_ordinary all) standard_known in
    let own : FairLabels p all = labels_stand 1 0 0 [] all standard_places i.scopes.0 in
    let a = front p ls (labels_of_group g []) own in
    (a.0, (group_fair g p (λ x. false) (in_program t) [] known h r i.scopes.1 i.uses a.1).0)

pub faultless_runs : FaultlessRuns
faultless_runs t h =
    let r = programs_are_fair t h.few_names h.scopes in
    run_is_meaning t (record { part = program_fair (hoist t) h.part h.blocks (r.1 h.types); scopes = r.0; short = h.short; few = h.few; room = h.room })
