-- Programs whose scopes are right, and which have no faults of types, are fair.
use Rattle.std.proofs.Common.{◌≡◌, ℕ, suc, Bool, false, [], ◌∷◌, refl, subst}
use Rattle.std.specs.Prelude.{◌++◌}
use Rattle.std.specs.List.{flat_map}
use Rattle.gier_tree.specs.Declaring.{name_of_heading}
use Rattle.gier_tree.specs.Described.{Scopes, block_scopes, procedure_scopes, turn_scopes, program_scopes}
use Rattle.gier_tree.specs.Entries.{entries_numbers, block_entries, procedure_entries, turn_entries, numbers_unconditional}
use Rattle.gier_tree.specs.OwnCount.{owns_in_unconditional}
use Rattle.gier_tree.specs.Places.{Places, block_places, procedure_places, turn_places, program_places}
use Rattle.gier_tree.specs.Texts.{Where, further, behind_statement, behind_declaration, behind_declarations, inner}
use Rattle.gier_tree.specs.Trees.{NextSegment, LeftPart, NextTurns, Declaration, DeclareType, DeclareOwn, DeclareArrays, DeclareOwnArrays, DeclareSwitch, DeclareProcedure, Declarations, NoDeclarations, MoreDeclarations, Group, MkBlock, MkCompound, Statements, NoStatements, MoreStatements, Statement, OneUnconditional, OneConditional, OneLoop, Unconditional, MkUnconditional, Basic, OneGroup, Assign, Jump, CallStatement, Dummy, Conditional, IfThen, IfElse, IfLoop, Loop, MkLoop, MkProgram}
use Rattle.gier_scope.specs.Scopes.{Scope}
use Rattle.gier_scope.specs.Uses.{uses_expr, uses_exprs, uses_left, uses_parts, uses_turns}
use Rattle.gier_kinds.specs.AllowedUses.{is_controllable}
use Rattle.gier_kinds.specs.Around.{Around, hide, within_named}
use Rattle.gier_kinds.specs.ExprFaults as fault
use Rattle.gier_kinds.specs.ExprTypes.{type_expr}
use Rattle.gier_kinds.specs.Faults.{TypeFaults, WrongUse, WrongCondition, WrongTarget}
use Rattle.gier_kinds.specs.Headings.{faults_heading}
use Rattle.gier_kinds.specs.TypeFaults.{faults_segment, faults_target, faults_targets, faults_part, faults_turns, faults_condition, faults_declaration, faults_declarations, faults_group, faults_statements, faults_statement, faults_unconditional, faults_basic, faults_conditional, faults_loop}
use Rattle.gier_kinds.specs.Types.{OfBoolean, OfLabel}
use Rattle.gier_fair.specs.Described.{described, AreDeclared}
use Rattle.gier_fair.specs.Fair.{FairSegment, FairLeft, FairTurns, FairDeclaration, FairDeclarations, FairGroup, FairStatements, FairStatement, FairUnconditional, FairBasic, FairConditional, FairLoop}
use Rattle.gier_fair.specs.InScope.{identifiers, in_program, InScopeSegment, InScopeDeclaration, InScopeDeclarations, InScopeGroup, InScopeStatements, InScopeStatement, InScopeUnconditional, InScopeBasic, InScopeConditional, InScopeLoop}
use Rattle.gier_fair.specs.Laws.{TypesAreFair}
use Rattle.gier_fair.proofs.FairExpressions.{Declared, fair_expr}
use Rattle.gier_fair.proofs.Lists.{both_empty, three_empty, four_empty, each_left, each_right, each_empty, each_of, each_with}
use Rattle.gier_fair.proofs.Parts.{fair_heading, of_type, fair_segment, fair_targets, fair_turns, fair_part, fair_call_statement}
use Rattle.gier_fair.proofs.PlacesTell.{in_block, in_procedure, in_turn, in_whole}
use Rattle.gier_fair.proofs.Silence.{holds_on}

abbrev around : Places → (ℕ → Bool) → Around
around p f = record { scopes = described p; within = f }

-- no faults in these scopes, told by places
moved : (faults : Scopes → TypeFaults) (s t : Scopes) → s ≡ t → faults s ≡ [] → faults t ≡ []
moved faults s t same e = subst (λ s. faults s ≡ []) same e

mutual
  pub fair_declaration : (p : Places) (f : ℕ → Bool) (own : Scope) (w : Where) (d : Declaration) → InScopeDeclaration p own w d → faults_declaration (around p f) d ≡ [] → FairDeclaration p f w d
  fair_declaration p f own w (DeclareType t ns) h e = tt
  fair_declaration p f own w (DeclareOwn l t ns) h e = tt
  fair_declaration p f own w (DeclareArrays t l g gs) h e =
      let more = λ (next : NextSegment). faults_segment (described p) next.segment in
      let q = both_empty (faults_segment (described p) g) (flat_map more gs) e in
      (fair_segment p own g h.0 q.0, each_with (λ next. InScopeSegment p own next.segment) (λ next. more next ≡ []) (λ next. FairSegment p next.segment) (λ next k u. fair_segment p own next.segment k u) gs h.1 (each_empty more gs q.1))
  fair_declaration p f own w (DeclareOwnArrays k t l g gs) h e = tt
  fair_declaration p f own w (DeclareSwitch l x m s ss) h e =
      let q = both_empty (faults_target (described p) m s) (faults_targets (described p) ss) e in
      (of_type p OfLabel refl WrongTarget m s (each_left (Declared p) (uses_expr s) (uses_exprs ss) h) q.0, fair_targets p ss (each_right (Declared p) (uses_expr s) (uses_exprs ss) h) q.1)
  fair_declaration p f own w (DeclareProcedure head s) h e =
      let g = hide (procedure_entries head s) (within_named (name_of_heading head) f) in
      let q = procedure_places (suc w.level) w.numbers head s p in
      let faults = λ (at : Scopes). faults_statement (record { scopes = at; within = g }) s in
      let r = both_empty (faults_heading head) (faults (procedure_scopes head s (described p))) e in
      (fair_heading head h.1 r.0, fair_statement q g (inner w (procedure_entries head s)) s h.3 (moved faults (procedure_scopes head s (described p)) (described q) (in_procedure (suc w.level) w.numbers head s p) r.1))

  pub fair_declarations : (p : Places) (f : ℕ → Bool) (own : Scope) (w : Where) (ds : Declarations) → InScopeDeclarations p own w ds → faults_declarations (around p f) ds ≡ [] → FairDeclarations p f w ds
  fair_declarations p f own w NoDeclarations h e = tt
  fair_declarations p f own w (MoreDeclarations d l ds) h e =
      let q = both_empty (faults_declaration (around p f) d) (faults_declarations (around p f) ds) e in
      (fair_declaration p f own w d h.0 q.0, fair_declarations p f own (behind_declaration w d) ds h.1 q.1)

  pub fair_group : (p : Places) (f : ℕ → Bool) (w : Where) (g : Group) → InScopeGroup p w g → faults_group (around p f) g ≡ [] → FairGroup p f w g
  fair_group p f w (MkBlock l d m ds s ss n) h e =
      let g = hide (block_entries d ds s ss) f in
      let q = block_places (suc w.level) w.numbers d ds s ss p in
      let own = identifiers (block_entries d ds s ss) in
      let w1 = inner w (block_entries d ds s ss) in
      let w2 = behind_declaration w1 d in
      let w3 = behind_declarations w2 ds in
      let b : Scopes → Around = λ at. record { scopes = at; within = g } in
      let faults = λ (at : Scopes). faults_declaration (b at) d ++ faults_declarations (b at) ds ++ faults_statement (b at) s ++ faults_statements (b at) ss in
      let told = moved faults (block_scopes d ds s ss (described p)) (described q) (in_block (suc w.level) w.numbers d ds s ss p) e in
      let r = four_empty (faults_declaration (around q g) d) (faults_declarations (around q g) ds) (faults_statement (around q g) s) (faults_statements (around q g) ss) told in
      (fair_declaration q g own w1 d h.2 r.0, fair_declarations q g own w2 ds h.3 r.1, fair_statement q g w3 s h.4 r.2, fair_statements q g (behind_statement w3 s) ss h.5 r.3)
  fair_group p f w (MkCompound l s ss m) h e =
      let q = both_empty (faults_statement (around p f) s) (faults_statements (around p f) ss) e in
      (fair_statement p f w s h.0 q.0, fair_statements p f (behind_statement w s) ss h.1 q.1)

  pub fair_statements : (p : Places) (f : ℕ → Bool) (w : Where) (ss : Statements) → InScopeStatements p w ss → faults_statements (around p f) ss ≡ [] → FairStatements p f w ss
  fair_statements p f w NoStatements h e = tt
  fair_statements p f w (MoreStatements l s ss) h e =
      let q = both_empty (faults_statement (around p f) s) (faults_statements (around p f) ss) e in
      (fair_statement p f w s h.0 q.0, fair_statements p f (behind_statement w s) ss h.1 q.1)

  pub fair_statement : (p : Places) (f : ℕ → Bool) (w : Where) (s : Statement) → InScopeStatement p w s → faults_statement (around p f) s ≡ [] → FairStatement p f w s
  fair_statement p f w (OneUnconditional u) h e = fair_unconditional p f w u h e
  fair_statement p f w (OneConditional c) h e = fair_conditional p f w c h e
  fair_statement p f w (OneLoop x) h e = fair_loop p f w x h e

  pub fair_unconditional : (p : Places) (f : ℕ → Bool) (w : Where) (u : Unconditional) → InScopeUnconditional p w u → faults_unconditional (around p f) u ≡ [] → FairUnconditional p f w u
  fair_unconditional p f w (MkUnconditional ls b) h e = fair_basic p f w b h e

  pub fair_basic : (p : Places) (f : ℕ → Bool) (w : Where) (b : Basic) → InScopeBasic p w b → faults_basic (around p f) b ≡ [] → FairBasic p f w b
  fair_basic p f w (OneGroup g) h e = fair_group p f w g h e
  fair_basic p f w (Assign q qs x) h e =
      let lefts = faults_part (around p f) (type_expr (described p) x) in
      let r = both_empty (flat_map lefts (q ∷ qs)) (fault.faults_expr (described p) x) e in
      let used = λ (part : LeftPart). uses_left part.left in
      let right = fair_expr p x (each_right (Declared p) (uses_parts q qs) (uses_expr x) h) r.1 in
      let left = each_of used (Declared p) (q ∷ qs) (each_left (Declared p) (uses_parts q qs) (uses_expr x) h) in
      (type_expr (described p) x, each_with (λ part. AreDeclared p (used part)) (λ part. lefts part ≡ []) (λ part. FairLeft p f (type_expr (described p) x) part.left) (λ part k u. fair_part p f (type_expr (described p) x) right.1 part k u) (q ∷ qs) left (each_empty lefts (q ∷ qs) r.0), right.0)
  fair_basic p f w (Jump l x) h e = of_type p OfLabel refl WrongTarget l x h e
  fair_basic p f w (CallStatement c) h e = fair_call_statement p c h e
  fair_basic p f w Dummy h e = tt

  pub fair_conditional : (p : Places) (f : ℕ → Bool) (w : Where) (c : Conditional) → InScopeConditional p w c → faults_conditional (around p f) c ≡ [] → FairConditional p f w c
  fair_conditional p f w (IfThen ls l x m u) h e =
      let q = both_empty (faults_condition (described p) l x) (faults_unconditional (around p f) u) e in
      (of_type p OfBoolean refl WrongCondition l x h.0 q.0, fair_unconditional p f w u h.1 q.1)
  fair_conditional p f w (IfElse ls l x m u n s) h e =
      let q = three_empty (faults_condition (described p) l x) (faults_unconditional (around p f) u) (faults_statement (around p f) s) e in
      (of_type p OfBoolean refl WrongCondition l x h.0 q.0, fair_unconditional p f w u h.1 q.1, fair_statement p f (further w (numbers_unconditional u) (owns_in_unconditional u)) s h.2 q.2)
  fair_conditional p f w (IfLoop ls l x m y) h e =
      let q = both_empty (faults_condition (described p) l x) (faults_loop (around p f) y) e in
      (of_type p OfBoolean refl WrongCondition l x h.0 q.0, fair_loop p f w y h.1 q.1)

  pub fair_loop : (p : Places) (f : ℕ → Bool) (w : Where) (x : Loop) → InScopeLoop p w x → faults_loop (around p f) x ≡ [] → FairLoop p f w x
  fair_loop p f w (MkLoop ls l x m t ts n s) h e =
      let g = hide (turn_entries s) f in
      let q = turn_places w.level w.numbers s p in
      let controlled = is_controllable (p x.number).what.kind in
      let next_turns = λ (next : NextTurns). faults_turns (described p) next.comma next.turns in
      let next_uses = λ (next : NextTurns). uses_turns next.turns in
      let faults = λ (at : Scopes). faults_statement (record { scopes = at; within = g }) s in
      let r = four_empty (fault.use_fault controlled x) (faults_turns (described p) m t) (flat_map next_turns ts) (faults (turn_scopes s (described p))) e in
      let first = each_left (Declared p) (uses_turns t) (flat_map next_uses ts) h.0.1 in
      let others = each_of next_uses (Declared p) ts (each_right (Declared p) (uses_turns t) (flat_map next_uses ts) h.0.1) in
      (holds_on controlled WrongUse x.line r.0, fair_turns p m t first r.1, each_with (λ next. AreDeclared p (next_uses next)) (λ next. next_turns next ≡ []) (λ next. FairTurns p next.turns) (λ next k u. fair_turns p next.comma next.turns k u) ts others (each_empty next_turns ts r.2), fair_statement q g (further w (entries_numbers (turn_entries s)) 0) s h.2 (moved faults (turn_scopes s (described p)) (described q) (in_turn w.level w.numbers s p) r.3))

pub types_are_fair : TypesAreFair
types_are_fair (MkProgram ls g l) h e =
    let t = MkProgram ls g l in
    let faults = λ (at : Scopes). faults_group (record { scopes = at; within = λ x. false }) g in
    let told = moved faults (program_scopes t) (described (program_places t)) (in_whole t) e in
    record { scopes = h; uses = fair_group (program_places t) (λ x. false) (in_program t) g h.1 told }
