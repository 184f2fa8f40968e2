-- Own quantities have numbers below the fresh ones, if all identifiers that text 3 declares have.
use Rattle.std.proofs.Common.{◌≡◌, ◌+◌, ◌++◌, ℕ, zero, suc, true, nat_lt, List, [], ◌∷◌, length, refl, sym as back, ap, subst}
use Rattle.std.specs.List.{All}
use Rattle.std.proofs.lemmas.List.Elements.{All-head, All-tail}
use Rattle.gier_symbol.specs.declared.symbol.Symbol.{Symbol}
use Rattle.gier_symbol.specs.declared.tag.Tag.TheVariants.{Declaring, OwnNumber, Comma, Semicolon, LeftBracket, RightBracket}
use Rattle.gier_symbol.specs.declared.tag.Tag.TheVariants.{Own, Array}
use Rattle.gier_symbol.specs.declared.tag.Tag.TheVariants.{Switch, Begin, End, If, Then, Else, For, Do, Becomes, TextEnd}
use Rattle.gier_symbol.specs.ByTag.{sym, word}
use Rattle.gier_tree.specs.declared.construct.Construct.TheVariants.{Program as MProgram, Block as MBlock, Compound as MCompound}
use Rattle.gier_tree.specs.declared.construct.Construct.TheVariants.{TypeDeclaration as MType, ArraySegment as MSegment}
use Rattle.gier_tree.specs.declared.construct.Construct.TheVariants.{SwitchDeclaration as MSwitch, ForStatement as MFor}
use Rattle.gier_tree.specs.declared.construct.Construct.TheVariants.{ProcedureDeclaration as MProcedure, ProcedureBody as MBody}
use Rattle.gier_tree.specs.declared.construct.Construct.TheVariants.{ControlledStatement as MControlled}
use Rattle.gier_tree.specs.declared.construct.Construct.TheVariants.{ConditionalStatement as MConditional}
use Rattle.gier_tree.specs.Declaring.{list_of, names_of_fixed, names_of_fixeds}
use Rattle.gier_tree.specs.Hoist.{first_fresh}
use Rattle.gier_tree.specs.Lines.{last_name, last_expr, last_exprs, first_heading, last_heading, first_statement, last_statement}
use Rattle.gier_tree.specs.Lines.{first_conditional, last_conditional, first_loop, last_loop, first_program, group_end}
use Rattle.gier_tree.specs.Entries.{block_entries, procedure_entries, turn_entries, program_entries, entries_numbers}
use Rattle.gier_tree.specs.Entries.{numbers_unconditional}
use Rattle.gier_tree.specs.OwnCount.{owns_of_declaration, owns_of_declarations, owns_of_group, owns_of_statements}
use Rattle.gier_tree.specs.OwnCount.{owns_of_statement}
use Rattle.gier_tree.specs.OwnCount.{owns_of_unconditional, owns_of_basic, owns_of_conditional, owns_of_loop, owns_of_program}
use Rattle.gier_tree.specs.OwnCount.{owns_in_declaration, owns_in_unconditional}
use Rattle.gier_tree.specs.Places.{Places, block_places, procedure_places, turn_places, program_places}
use Rattle.gier_tree.specs.Texts.{Where, inner, further, behind_statement, behind_declaration, behind_declarations, next_line}
use Rattle.gier_tree.specs.Texts.{declares}
use Rattle.gier_tree.specs.Texts.{names_as, owns_as, text_fixed, text_fixeds, fixed_count, text_fixed_pair, text_further_pairs}
use Rattle.gier_tree.specs.Texts.{text_segment, text_segments, text_heading, text_labels, text_declaration, text_declarations}
use Rattle.gier_tree.specs.Texts.{text_group}
use Rattle.gier_tree.specs.Texts.{text_statements, text_statement, text_unconditional, text_basic, text_conditional, text_loop}
use Rattle.gier_tree.specs.Texts.{text_switch_element, text_switch_elements, text_turns, text_next_turns}
use Rattle.gier_tree.specs.Spell.{spell_type}
use Rattle.gier_tree.specs.TextsOf.{names_of_owns, text3}
use Rattle.gier_tree.specs.Trees.{Name, Expr, NextName, MkNames, most_further, FixedSegment, MkFixed, NextFixed, Declaration}
use Rattle.gier_tree.specs.Trees.{DeclareType}
use Rattle.gier_tree.specs.Trees.{DeclareOwn, DeclareArrays, DeclareOwnArrays, DeclareSwitch, DeclareProcedure, Declarations}
use Rattle.gier_tree.specs.Trees.{NoDeclarations, MoreDeclarations, Group, MkBlock, MkCompound, Statements, NoStatements}
use Rattle.gier_tree.specs.Trees.{MoreStatements, Statement, OneUnconditional, OneConditional, OneLoop, Unconditional}
use Rattle.gier_tree.specs.Trees.{MkUnconditional, Basic, OneGroup, Assign, Jump, CallStatement, Dummy, Conditional, IfThen}
use Rattle.gier_tree.specs.Trees.{IfElse, IfLoop, Loop, MkLoop, Program, MkProgram}
use Rattle.gier_tree.specs.Written.{opens, shuts, text_expr, used_name}
use Rattle.gier_written.specs.Renamed.{AreSmall}
use Rattle.gier_text4.specs.Text4.{is_small_name}
use Rattle.gier_text4.proofs.Copying.{marked_text}
use Rattle.gier_text4.proofs.Dropping.{Drops, behind, after, first}
use Rattle.gier_text4.proofs.DroppedExpressions.{dropped_expr}
use Rattle.gier_text4.proofs.DroppedStatements.{dropped_assignment, dropped_jump, dropped_call_statement, dropped_for}
use Rattle.gier_text4.proofs.DroppedStatements.{dropped_switch}
use Rattle.gier_text4.proofs.DroppedStatements.{dropped_labels}
use Rattle.gier_text4.proofs.DroppedDeclarations.{dropped_names, dropped_type, dropped_segment, dropped_segments, dropped_fixed}
use Rattle.gier_text4.proofs.DroppedDeclarations.{dropped_further, dropped_heading}
use Rattle.gier_text4.proofs.Scopes.{marked_all}

abbrev pub IsSmall : Symbol → Type 0
IsSmall s = is_small_name s ≡ true

abbrev pub Smalls : List Symbol → Type 0
Smalls k = All IsSmall k

small_more : (x : Name) (xs : List Name) → nat_lt x.number first_fresh ≡ true → AreSmall xs → AreSmall (x ∷ xs)
small_more x xs a f zero = a
small_more x xs a f (suc j) = f j

names_app : (a b c : List Name) → (a ++ b) ++ c ≡ a ++ (b ++ c)
names_app [] b c = refl
names_app (x ∷ a) b c = ap (λ z. x ∷ z) (names_app a b c)

-- own declarations
owns_small : (ns : List NextName) (x : Name) (i : ℕ) (k : List Symbol) (r : List Name) → Smalls (owns_as (MkNames x ns) i k)
    → (Smalls k → AreSmall r) → AreSmall (list_of (MkNames x ns) ++ r)
owns_small [] x i k r h f =
    let k1 : List Symbol = sym OwnNumber i x.line ∷ k in
    small_more x r (All-head IsSmall (declares x) k1 h) (f (All-tail IsSmall (sym OwnNumber i x.line) k
    (All-tail IsSmall (declares x) k1 h)))
owns_small (n ∷ ns) x i k r h f =
    let k3 = owns_as (MkNames n.name ns) (suc i) k in
    let k2 : List Symbol = word Comma n.comma ∷ k3 in
    let k1 : List Symbol = sym OwnNumber i x.line ∷ k2 in
    small_more x (list_of (MkNames n.name ns) ++ r) (All-head IsSmall (declares x) k1 h)
    (owns_small ns n.name (suc i) k r (All-tail IsSmall (word Comma n.comma) k3 (All-tail IsSmall (sym OwnNumber i x.line) k2
    (All-tail IsSmall (declares x) k1 h))) f)

fixed_small : (s : FixedSegment) (i : ℕ) (k : List Symbol) (r : List Name) → Smalls (text_fixed s i k)
    → (Smalls k → AreSmall r) → AreSmall (names_of_fixed s ++ r)
fixed_small (MkFixed (MkNames x ns) l q qs m) i k r h f =
    let g : List Symbol → List Symbol = λ z. word LeftBracket l ∷ text_fixed_pair q (text_further_pairs most_further qs
    (word RightBracket m ∷ shuts MSegment m ∷ z)) in
    let c : Drops IsSmall g = after (first IsSmall (word LeftBracket l)) (after (dropped_fixed IsSmall q)
    (after (dropped_further IsSmall most_further qs) (after (first IsSmall (word RightBracket m))
    (first IsSmall (shuts MSegment m))))) in
    owns_small ns x i (g k) r (All-tail IsSmall (opens MSegment x.line) (owns_as (MkNames x ns) i (g k)) h)
    (λ h1. f (behind IsSmall g c k h1))

fixeds_small : (ss : List NextFixed) (i : ℕ) (k : List Symbol) (r : List Name) → Smalls (text_fixeds ss i k)
    → (Smalls k → AreSmall r) → AreSmall (names_of_fixeds ss ++ r)
fixeds_small [] i k r h f = f h
fixeds_small (s ∷ ss) i k r h f =
    let i1 = i + fixed_count s.segment in
    let k1 = text_fixeds ss i1 k in
    subst AreSmall (back (names_app (names_of_fixed s.segment) (names_of_fixeds ss) r))
    (fixed_small s.segment i k1 (names_of_fixeds ss ++ r) (All-tail IsSmall (word Comma s.comma) (text_fixed s.segment i k1) h)
    (λ h1. fixeds_small ss i1 k r h1 f))

-- a condition, up to `_then`
dropped_condition : (os : List Name) (p : Places) (l m : ℕ) (e : Expr)
    → Drops IsSmall (λ k. word If l ∷ text_expr (marked_text os) p e (word Then m ∷ k))
dropped_condition os p l m e = after (first IsSmall (word If l)) (after (dropped_expr IsSmall os p e) (first IsSmall (word Then m)))

mutual
  small_declaration : (os : List Name) (p : Places) (u : Where) (next : ℕ) (x : Declaration) (r : List Declaration) (k : List
      Symbol)
      → Smalls (text_declaration (marked_text os) p u next x k) → (Smalls k → AreSmall (names_of_owns r))
      → AreSmall (names_of_owns (owns_of_declaration x r))
  small_declaration os p u next (DeclareType t ns) r k h f =
      f (behind IsSmall (λ z. opens MType t.line ∷ spell_type t (names_as Declaring ns (shuts MType (last_name ns) ∷ z)))
      (after (first IsSmall (opens MType t.line)) (after (dropped_type IsSmall t) (after (dropped_names IsSmall Declaring ns)
      (first IsSmall (shuts MType (last_name ns)))))) k h)
  small_declaration os p u next (DeclareOwn l t (MkNames x ns)) r k h f =
      let s = shuts MType (last_name (MkNames x ns)) in
      let k1 : List Symbol = s ∷ k in
      let k2 = owns_as (MkNames x ns) u.owns k1 in
      owns_small ns x u.owns k1 (names_of_owns r) (behind IsSmall (λ z. opens MType l ∷ word Own l ∷ spell_type t z)
      (after (first IsSmall (opens MType l)) (after (first IsSmall (word Own l)) (dropped_type IsSmall t))) k2 h)
      (λ h1. f (All-tail IsSmall s k h1))
  small_declaration os p u next (DeclareArrays t l s ss) r k h f =
      f (behind IsSmall (λ z. spell_type t (word Array l
      ∷ text_segment (marked_text os) p s (text_segments (marked_text os) p ss z)))
      (after (dropped_type IsSmall t) (after (first IsSmall (word Array l)) (after (dropped_segment IsSmall os p s)
      (dropped_segments IsSmall os p ss)))) k h)
  small_declaration os p u next (DeclareOwnArrays y t l s ss) r k h f =
      let i1 = u.owns + fixed_count s in
      let k1 = text_fixeds ss i1 k in
      let k2 = text_fixed s u.owns k1 in
      subst AreSmall (back (names_app (names_of_fixed s) (names_of_fixeds ss) (names_of_owns r)))
      (fixed_small s u.owns k1 (names_of_fixeds ss ++ names_of_owns r)
      (behind IsSmall (λ z. word Own y
      ∷ spell_type t (word Array l ∷ z)) (after (first IsSmall (word Own y)) (after (dropped_type IsSmall t)
      (first IsSmall (word Array l)))) k2 h) (λ h1. fixeds_small ss i1 k (names_of_owns r) h1 f))
  small_declaration os p u next (DeclareSwitch l x m e es) r k h f =
      let s = shuts MSwitch (last_exprs (last_expr e) es) in
      f (behind IsSmall (λ z. opens MSwitch l ∷ word Switch l ∷ declares x ∷ word Becomes m
      ∷ text_switch_element (marked_text os) p e
      (text_switch_elements (marked_text os) p es (s
      ∷ z))) (after (first IsSmall (opens MSwitch l)) (after (first IsSmall (word Switch l))
      (after (first IsSmall (declares x)) (after (dropped_switch IsSmall os p m e es) (first IsSmall s))))) k h)
  small_declaration os p u next (DeclareProcedure hd s) r k h f =
      let m1 = shuts MBody (last_statement s next) in
      let m2 = shuts MProcedure (last_statement s (last_heading hd)) in
      let p1 = procedure_places (suc u.level) u.numbers hd s p in
      let u1 = inner u (procedure_entries hd s) in
      let k0 : List Symbol = m1 ∷ m2 ∷ k in
      let k1 = text_statement (marked_text os) p1 u1 next s k0 in
      let m3 = opens MBody (first_statement s next) in
      small_statement os p1 u1 next s r k0 (behind IsSmall (λ z. opens MProcedure (first_heading hd) ∷ text_heading hd (m3 ∷ z))
      (after (first IsSmall (opens MProcedure (first_heading hd))) (after (dropped_heading IsSmall hd) (first IsSmall m3))) k1 h)
      (λ h1. f (behind IsSmall (λ z. m1 ∷ m2 ∷ z) (after (first IsSmall m1) (first IsSmall m2)) k h1))

  small_declarations : (os : List Name) (p : Places) (u : Where) (x : Declarations) (r : List Declaration) (k : List Symbol)
      → Smalls (text_declarations (marked_text os) p u x k) → (Smalls k → AreSmall (names_of_owns r))
      → AreSmall (names_of_owns (owns_of_declarations x r))
  small_declarations os p u NoDeclarations r k h f = f h
  small_declarations os p u (MoreDeclarations x m ds) r k h f =
      let u1 = behind_declaration u x in
      let k1 = text_declarations (marked_text os) p u1 ds k in
      let k2 : List Symbol = word Semicolon m ∷ k1 in
      small_declaration os p u m x (owns_of_declarations ds r) k2 h
      (λ h1. small_declarations os p u1 ds r k (All-tail IsSmall (word Semicolon m) k1 h1) f)

  small_group : (os : List Name) (p : Places) (u : Where) (x : Group) (r : List Declaration) (k : List Symbol)
      → Smalls (text_group (marked_text os) p u x k) → (Smalls k → AreSmall (names_of_owns r))
      → AreSmall (names_of_owns (owns_of_group x r))
  small_group os p u (MkCompound l s ss m) r k h f =
      let u1 = behind_statement u s in
      let k0 : List Symbol = word End m ∷ shuts MCompound m ∷ k in
      let k1 = text_statements (marked_text os) p u1 m ss k0 in
      let k2 = text_statement (marked_text os) p u (next_line ss m) s k1 in
      small_statement os p u (next_line ss m) s (owns_of_statements ss r) k1
      (behind IsSmall (λ z. opens MCompound l ∷ word Begin l
      ∷ z) (after (first IsSmall (opens MCompound l)) (first IsSmall (word Begin l))) k2 h)
      (λ h1. small_statements os p u1 m ss r k0 h1 (λ h2. f (behind IsSmall (λ z. word End m ∷ shuts MCompound m ∷ z)
      (after (first IsSmall (word End m)) (first IsSmall (shuts MCompound m))) k h2)))
  small_group os p u (MkBlock l x m ds s ss y) r k h f =
      let p1 = block_places (suc u.level) u.numbers x ds s ss p in
      let u1 = inner u (block_entries x ds s ss) in
      let u2 = behind_declaration u1 x in
      let u3 = behind_declarations u2 ds in
      let u4 = behind_statement u3 s in
      let k0 : List Symbol = word End y ∷ shuts MBlock y ∷ k in
      let k1 = text_statements (marked_text os) p1 u4 y ss k0 in
      let k2 = text_statement (marked_text os) p1 u3 (next_line ss y) s k1 in
      let k3 = text_declarations (marked_text os) p1 u2 ds k2 in
      let k4 : List Symbol = word Semicolon m ∷ k3 in
      let k5 = text_declaration (marked_text os) p1 u1 m x k4 in
      let k6 : List Symbol = word Begin l ∷ k5 in
      let h0 : Smalls (opens MBlock l ∷ k6) =
      subst (λ z. Smalls (opens MBlock l ∷ z)) (marked_all ds (u.owns + owns_in_declaration x) l k6) h in
      small_declaration os p1 u1 m x (owns_of_declarations ds (owns_of_statement s (owns_of_statements ss r))) k4
      (behind IsSmall (λ z. opens MBlock l ∷ word Begin l
      ∷ z) (after (first IsSmall (opens MBlock l)) (first IsSmall (word Begin l))) k5 h0)
      (λ h1. small_declarations os p1 u2 ds (owns_of_statement s (owns_of_statements ss r)) k2 (All-tail IsSmall
      (word Semicolon m) k3 h1)
      (λ h2. small_statement os p1 u3 (next_line ss y) s (owns_of_statements ss r) k1 h2
      (λ h3. small_statements os p1 u4 y ss r k0 h3 (λ h4. f (behind IsSmall (λ z. word End y ∷ shuts MBlock y ∷ z)
      (after (first IsSmall (word End y)) (first IsSmall (shuts MBlock y))) k h4)))))

  small_statements : (os : List Name) (p : Places) (u : Where) (next : ℕ) (x : Statements) (r : List Declaration) (k : List Symbol)
      → Smalls (text_statements (marked_text os) p u next x k) → (Smalls k → AreSmall (names_of_owns r))
      → AreSmall (names_of_owns (owns_of_statements x r))
  small_statements os p u next NoStatements r k h f = f h
  small_statements os p u next (MoreStatements l s ss) r k h f =
      let u1 = behind_statement u s in
      let k1 = text_statements (marked_text os) p u1 next ss k in
      let k2 = text_statement (marked_text os) p u (next_line ss next) s k1 in
      small_statement os p u (next_line ss next) s (owns_of_statements ss r) k1 (All-tail IsSmall (word Semicolon l) k2 h)
      (λ h1. small_statements os p u1 next ss r k h1 f)

  small_statement : (os : List Name) (p : Places) (u : Where) (next : ℕ) (x : Statement) (r : List Declaration) (k : List Symbol)
      → Smalls (text_statement (marked_text os) p u next x k) → (Smalls k → AreSmall (names_of_owns r))
      → AreSmall (names_of_owns (owns_of_statement x r))
  small_statement os p u next (OneUnconditional x) r k h f = small_unconditional os p u next x r k h f
  small_statement os p u next (OneConditional x) r k h f = small_conditional os p u next x r k h f
  small_statement os p u next (OneLoop x) r k h f = small_loop os p u next x r k h f

  small_unconditional : (os : List Name) (p : Places) (u : Where) (next : ℕ) (x : Unconditional) (r : List Declaration) (k :
      List Symbol)
      → Smalls (text_unconditional (marked_text os) p u next x k) → (Smalls k → AreSmall (names_of_owns r))
      → AreSmall (names_of_owns (owns_of_unconditional x r))
  small_unconditional os p u next (MkUnconditional ls b) r k h f =
      small_basic os p u b r k (behind IsSmall (text_labels ls) (dropped_labels IsSmall ls) (text_basic (marked_text os) p u b
      k) h) f

  small_basic : (os : List Name) (p : Places) (u : Where) (x : Basic) (r : List Declaration) (k : List Symbol)
      → Smalls (text_basic (marked_text os) p u x k) → (Smalls k → AreSmall (names_of_owns r))
      → AreSmall (names_of_owns (owns_of_basic x r))
  small_basic os p u (OneGroup g) r k h f = small_group os p u g r k h f
  small_basic os p u (Assign x xs e) r k h f =
      f (behind IsSmall (text_basic (marked_text os) p u (Assign x xs e)) (dropped_assignment IsSmall os p u x xs e) k h)
  small_basic os p u (Jump l e) r k h f =
      f (behind IsSmall (text_basic (marked_text os) p u (Jump l e)) (dropped_jump IsSmall os p u l e) k h)
  small_basic os p u (CallStatement x) r k h f =
      f (behind IsSmall (text_basic (marked_text os) p u (CallStatement x)) (dropped_call_statement IsSmall os p x) k h)
  small_basic os p u Dummy r k h f = f h

  small_conditional : (os : List Name) (p : Places) (u : Where) (next : ℕ) (x : Conditional) (r : List Declaration) (k : List
      Symbol)
      → Smalls (text_conditional (marked_text os) p u next x k) → (Smalls k → AreSmall (names_of_owns r))
      → AreSmall (names_of_owns (owns_of_conditional x r))
  small_conditional os p u next (IfThen ls l e m x) r k h f =
      let s = shuts MConditional (last_conditional (IfThen ls l e m x)) in
      let k1 : List Symbol = s ∷ k in
      small_unconditional os p u next x r k1 (behind IsSmall (λ z. opens MConditional (first_conditional (IfThen ls l e m x))
      ∷ text_labels ls (word If l
      ∷ text_expr (marked_text os) p e (word Then m
      ∷ z))) (after (first IsSmall (opens MConditional (first_conditional (IfThen ls l e m x))))
      (after (dropped_labels IsSmall ls) (dropped_condition os p l m e))) (text_unconditional (marked_text os) p u next x k1) h)
      (λ h1. f (All-tail IsSmall s k h1))
  small_conditional os p u next (IfElse ls l e m x y c) r k h f =
      let s = shuts MConditional (last_conditional (IfElse ls l e m x y c)) in
      let u1 = further u (numbers_unconditional x) (owns_in_unconditional x) in
      let k1 : List Symbol = s ∷ k in
      let k2 = text_statement (marked_text os) p u1 next c k1 in
      let k3 : List Symbol = word Else y ∷ k2 in
      small_unconditional os p u y x (owns_of_statement c r) k3 (behind IsSmall (λ z.
      opens MConditional (first_conditional (IfElse ls l e m x y c)) ∷ text_labels ls (word If l
      ∷ text_expr (marked_text os) p e (word Then m
      ∷ z))) (after (first IsSmall (opens MConditional (first_conditional (IfElse ls l e m x y c))))
      (after (dropped_labels IsSmall ls) (dropped_condition os p l m e))) (text_unconditional (marked_text os) p u y x k3) h)
      (λ h1. small_statement os p u1 next c r k1 (All-tail IsSmall (word Else y) k2 h1) (λ h2. f (All-tail IsSmall s k h2)))
  small_conditional os p u next (IfLoop ls l e m x) r k h f =
      let s = shuts MConditional (last_conditional (IfLoop ls l e m x)) in
      let k1 : List Symbol = s ∷ k in
      small_loop os p u next x r k1 (behind IsSmall (λ z. opens MConditional (first_conditional (IfLoop ls l e m x))
      ∷ text_labels ls (word If l
      ∷ text_expr (marked_text os) p e (word Then m
      ∷ z))) (after (first IsSmall (opens MConditional (first_conditional (IfLoop ls l e m x))))
      (after (dropped_labels IsSmall ls) (dropped_condition os p l m e))) (text_loop (marked_text os) p u next x k1) h)
      (λ h1. f (All-tail IsSmall s k h1))

  small_loop : (os : List Name) (p : Places) (u : Where) (next : ℕ) (x : Loop) (r : List Declaration) (k : List Symbol)
      → Smalls (text_loop (marked_text os) p u next x k) → (Smalls k → AreSmall (names_of_owns r))
      → AreSmall (names_of_owns (owns_of_loop x r))
  small_loop os p u next (MkLoop ls l x m t ts y s) r k h f =
      let m1 = shuts MControlled (last_statement s next) in
      let m2 = shuts MFor (last_loop (MkLoop ls l x m t ts y s)) in
      let m3 = opens MControlled (first_statement s next) in
      let m4 = opens MFor (first_loop (MkLoop ls l x m t ts y s)) in
      let u1 = further u (entries_numbers (turn_entries s)) 0 in
      let p1 = turn_places u.level u.numbers s p in
      let k0 : List Symbol = m1 ∷ m2 ∷ k in
      let k1 = text_statement (marked_text os) p1 u1 next s k0 in
      small_statement os p1 u1 next s r k0 (behind IsSmall (λ z. m4 ∷ text_labels ls (word For l ∷ used_name (marked_text os) p x
      (word Becomes m ∷ text_turns (marked_text os) p t (text_next_turns (marked_text os) p ts (word Do y ∷ m3 ∷ z)))))
      (after (first IsSmall m4) (after (dropped_labels IsSmall ls)
      (after (dropped_for IsSmall os p l x m t ts y) (first IsSmall m3)))) k1 h)
      (λ h1. f (behind IsSmall (λ z. m1 ∷ m2 ∷ z) (after (first IsSmall m1) (first IsSmall m2)) k h1))

no_owns : AreSmall []
no_owns j = refl

pub program_small : (t : Program) → Smalls (text3 t) → AreSmall (names_of_owns (owns_of_program t))
program_small (MkProgram ls g l) h =
    let t = MkProgram ls g l in
    let os = names_of_owns (owns_of_group g []) in
    let u : Where = record { level = 1; numbers = entries_numbers (program_entries t); owns = 0 } in
    let k : List Symbol = shuts MProgram (group_end g) ∷ sym TextEnd (length os) l ∷ [] in
    small_group os (program_places t) u g [] k (behind IsSmall (λ z. opens MProgram (first_program t) ∷ text_labels ls z)
    (after (first IsSmall (opens MProgram (first_program t))) (dropped_labels IsSmall ls))
    (text_group (marked_text os) (program_places t) u g k) h) (λ h1. no_owns)
