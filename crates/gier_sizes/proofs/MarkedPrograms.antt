-- Text 3 of statements and declarations beside their spelling, and of programs.
use Rattle.std.proofs.Common.{◌+◌, ℕ, suc, List, [], ◌∷◌, length, ap, arith}
use Rattle.gier_symbol.specs.declared.symbol.Symbol.{Symbol}
use Rattle.gier_symbol.specs.declared.tag.Tag.TheVariants.{Declaring, TextEnd}
use Rattle.gier_symbol.specs.ByTag.{sym, word}
use Rattle.gier_tree.specs.declared.construct.Construct.TheVariants.{Program as MProgram}
use Rattle.gier_tree.specs.Lines.{group_end}
use Rattle.gier_tree.specs.Entries.{entries_numbers, block_entries, procedure_entries, turn_entries, program_entries, numbers_unconditional}
use Rattle.gier_tree.specs.OwnCount.{owns_in_declaration, owns_in_unconditional, owns_of_program}
use Rattle.gier_tree.specs.Places.{Places, block_places, procedure_places, turn_places, program_places}
use Rattle.gier_tree.specs.Spell.{spell_labels, spell_declaration, spell_declarations, spell_group, spell_statements, spell_statement, spell_unconditional, spell_basic, spell_conditional, spell_loop}
use Rattle.gier_tree.specs.Texts.{text_labels, entries_of_all, fixed_count, next_line, Where, further, behind_statement, behind_declaration, behind_declarations, inner, text_declaration, text_declarations, text_group, text_statements, text_statement, text_unconditional, text_basic, text_conditional, text_loop}
use Rattle.gier_tree.specs.TextsOf.{names_of_owns}
use Rattle.gier_tree.specs.Trees.{Name, LabelPlace, Alone, WithActuals, Declaration, DeclareType, DeclareOwn, DeclareArrays, DeclareOwnArrays, DeclareSwitch, DeclareProcedure, Declarations, NoDeclarations, MoreDeclarations, Group, MkBlock, MkCompound, Statements, NoStatements, MoreStatements, Statement, OneUnconditional, OneConditional, OneLoop, Unconditional, MkUnconditional, Basic, OneGroup, Assign, Jump, CallStatement, Dummy, Conditional, IfThen, IfElse, IfLoop, Loop, MkLoop, MkProgram}
use Rattle.gier_tree.specs.Written.{Marked, shuts}
use Rattle.gier_sizes.specs.Text3.{Text3IsShort, Text3FitsItsBytes}
use Rattle.gier_sizes.proofs.AssembledSymbols.{assembled_few}
use Rattle.gier_sizes.proofs.Slack.{Fits, pays, pays_before, plain, mark}
use Rattle.gier_sizes.proofs.MarkedExpressions.{marked, enclosed, expr, call}
use Rattle.gier_sizes.proofs.MarkedParts.{names, owns, segment, segments, fixed, fixeds, elements, heading, labels, labels_before, lefts, turns, next_turns}

-- in text 3 a scope has no entries
begins : {k : ℕ} {xs ys : List Symbol} (m a b : Symbol) (ds : Declarations) (i line : ℕ) → Fits (suc k) xs ys → Fits k (m ∷ entries_of_all Marked ds i line (a ∷ xs)) (b ∷ ys)
begins m a b NoDeclarations i line h = pays_before h
begins m a b (MoreDeclarations d l ds) i line h = begins m a b ds (i + owns_in_declaration d) line h

mutual
  declaration : {k : ℕ} {xs ys : List Symbol} (os : List Name) (p : Places) (w : Where) (next : ℕ) (x : Declaration) → Fits k xs ys → Fits k (text_declaration (marked os) p w next x xs) (spell_declaration x ys)
  declaration os p w next (DeclareType y ns) h = pays_before (names Declaring ns (mark h))
  declaration os p w next (DeclareOwn l y ns) h = pays_before (plain (owns ns w.owns (mark h)))
  declaration os p w next (DeclareArrays y l s ss) h = plain (plain (segment os p s (segments os p ss h)))
  declaration os p w next (DeclareOwnArrays i y l s ss) h =
      plain (plain (plain (fixed s w.owns (fixeds ss (w.owns + fixed_count s) h))))
  declaration os p w next (DeclareSwitch l x m e es) h = pays_before (plain (pays (enclosed _ _ os p e (elements os p es (mark h)))))
  declaration os p w next (DeclareProcedure x s) h =
      heading _ x (mark (statement os (procedure_places (suc w.level) w.numbers x s p) (inner w (procedure_entries x s)) next s
      (mark (mark h))))

  declarations : {k : ℕ} {xs ys : List Symbol} (os : List Name) (p : Places) (w : Where) (x : Declarations) → Fits k xs ys → Fits k (text_declarations (marked os) p w x xs) (spell_declarations x ys)
  declarations os p w NoDeclarations h = h
  declarations os p w (MoreDeclarations d l ds) h =
      declaration os p w l d (plain (declarations os p (behind_declaration w d) ds h))

  group : {k : ℕ} {xs ys : List Symbol} (os : List Name) (p : Places) (w : Where) (x : Group) → Fits k xs ys → Fits k (text_group (marked os) p w x xs) (spell_group x ys)
  group os p w (MkBlock l d m ds s ss n) h =
      let q = block_places (suc w.level) w.numbers d ds s ss p in
      let w1 = inner w (block_entries d ds s ss) in
      let w2 = behind_declaration w1 d in
      let w3 = behind_declarations w2 ds in
      begins _ _ _ ds (w.owns + owns_in_declaration d) l
      (declaration os q w1 m d (plain (declarations os q w2 ds (statement os q w3 (next_line ss n) s
      (statements os q (behind_statement w3 s) n ss (plain (mark h)))))))
  group os p w (MkCompound l s ss n) h =
      pays_before (statement os p w (next_line ss n) s (statements os p (behind_statement w s) n ss (plain (mark h))))

  statements : {k : ℕ} {xs ys : List Symbol} (os : List Name) (p : Places) (w : Where) (end : ℕ) (x : Statements) → Fits k xs ys → Fits k (text_statements (marked os) p w end x xs) (spell_statements x ys)
  statements os p w end NoStatements h = h
  statements os p w end (MoreStatements l s ss) h =
      plain (statement os p w (next_line ss end) s (statements os p (behind_statement w s) end ss h))

  statement : {k : ℕ} {xs ys : List Symbol} (os : List Name) (p : Places) (w : Where) (next : ℕ) (x : Statement) → Fits k xs ys → Fits k (text_statement (marked os) p w next x xs) (spell_statement x ys)
  statement os p w next (OneUnconditional u) h = unconditional os p w next u h
  statement os p w next (OneConditional c) h = conditional os p w next c h
  statement os p w next (OneLoop x) h = loop os p w next x h

  unconditional : {k : ℕ} {xs ys : List Symbol} (os : List Name) (p : Places) (w : Where) (next : ℕ) (x : Unconditional) → Fits k xs ys → Fits k (text_unconditional (marked os) p w next x xs) (spell_unconditional x ys)
  unconditional os p w next (MkUnconditional ls b) h = labels ls (basic os p w b h)

  basic : {k : ℕ} {xs ys : List Symbol} (os : List Name) (p : Places) (w : Where) (x : Basic) → Fits k xs ys → Fits k (text_basic (marked os) p w x xs) (spell_basic x ys)
  basic os p w (OneGroup g) h = group os p w g h
  basic os p w (Assign q qs e) h = lefts os p (q ∷ qs) (expr os p e h)
  basic os p w (Jump l e) h = pays_before (expr os p e (mark h))
  basic os p w (CallStatement (Alone x)) h = plain h
  basic os p w (CallStatement (WithActuals x l a more m)) h = call os p (WithActuals x l a more m) h
  basic os p w Dummy h = h

  conditional : {k : ℕ} {xs ys : List Symbol} (os : List Name) (p : Places) (w : Where) (next : ℕ) (x : Conditional) → Fits k xs ys → Fits k (text_conditional (marked os) p w next x xs) (spell_conditional x ys)
  conditional os p w next (IfThen ls l e m u) h =
      labels_before _ _ _ ls (expr os p e (plain (unconditional os p w next u (mark h))))
  conditional os p w next (IfElse ls l e m u n s) h =
      labels_before _ _ _ ls (expr os p e (plain (unconditional os p w n u (plain (statement os p
      (further w (numbers_unconditional u) (owns_in_unconditional u)) next s (mark h))))))
  conditional os p w next (IfLoop ls l e m x) h = labels_before _ _ _ ls (expr os p e (plain (loop os p w next x (mark h))))

  loop : {k : ℕ} {xs ys : List Symbol} (os : List Name) (p : Places) (w : Where) (next : ℕ) (x : Loop) → Fits k xs ys → Fits k (text_loop (marked os) p w next x xs) (spell_loop x ys)
  loop os p w next (MkLoop ls l x m u us n s) h =
      labels_before _ _ _ ls (plain (pays (turns os p u (next_turns os p us (pays (mark (statement os
      (turn_places w.level w.numbers s p) (further w (entries_numbers (turn_entries s)) 0) next s (mark (mark h)))))))))

-- behind the mark before the whole
behind_mark : (os : List Name) (p : Places) (w : Where) (ls : List LabelPlace) (g : Group) (m end : Symbol) (line : ℕ) → Fits 0 (text_labels ls (text_group (marked os) p w g (m ∷ end ∷ []))) (spell_labels ls (spell_group g (word TextEnd line ∷ [])))
behind_mark os p w ls g m end line = labels ls (group os p w g (record { few = omega arith }))

pub text3_short : Text3IsShort
text3_short (MkProgram ls g l) =
    let t = MkProgram ls g l in
    let w : Where = record { level = 1; numbers = entries_numbers (program_entries t); owns = 0 } in
    let own_names = names_of_owns (owns_of_program t) in
    let all = behind_mark own_names (program_places t) w ls g (shuts MProgram (group_end g)) (sym TextEnd (length own_names) l) l in
    omega (arith, all.few)

pub text3_fits : Text3FitsItsBytes
text3_fits text t written = omega (arith, text3_short t, ap length written, assembled_few text)
