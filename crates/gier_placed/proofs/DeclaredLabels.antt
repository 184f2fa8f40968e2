-- The places of declared labels, switches and procedures in the code of a part: those of the scopes within it have the row of
-- numbers that is counted for them, and those of the scope around it the numbers that its places tell.
use Rattle.std.proofs.Common.{◌≡◌, ℕ, suc, ◌+◌, Bool, true, false, List, [], ◌∷◌, Option, None, Some, refl, sym, ap, ◌∙◌, arith}
use Rattle.std.specs.Prelude.{◌++◌, map, if◌then◌else◌}
use Rattle.gier_tree.specs.Declaring.{list_of, formals_of, labels_of_statement, labels_of_statements, labels_of_unconditional}
use Rattle.gier_tree.specs.Declaring.{labels_of_basic, labels_of_group, labels_of_conditional, labels_of_loop}
use Rattle.gier_tree.specs.Described.{Described, plain, variable_kind, array_kind, procedure_kind, kind_in}
use Rattle.gier_tree.specs.Described.{formal_kind, specified_kind, is_named, is_by_value}
use Rattle.gier_tree.specs.Entries.{entry, entries_numbers, kind_numbers, segment_entries, segments_entries, declaration_entries}
use Rattle.gier_tree.specs.Entries.{declarations_entries, label_entries, block_entries, procedure_entries, turn_entries}
use Rattle.gier_tree.specs.Entries.{numbers_declaration, numbers_declarations, numbers_group, numbers_statements}
use Rattle.gier_tree.specs.Entries.{numbers_statement, numbers_unconditional, numbers_basic, numbers_conditional, numbers_loop}
use Rattle.gier_tree.specs.OwnCount.{owns_in_unconditional}
use Rattle.gier_tree.specs.Places.{Places, block_places, procedure_places, turn_places, first_formal}
use Rattle.gier_tree.specs.Room.{block_header}
use Rattle.gier_tree.specs.Texts.{Where, inner, further, behind_statement, behind_declaration, behind_declarations}
use Rattle.gier_tree.specs.Trees.{Name, ValueType, IntegerType, BooleanType, TypeWord, Segment, MkSegment, NextSegment}
use Rattle.gier_tree.specs.Trees.{Specification}
use Rattle.gier_tree.specs.Trees.{Specifier, ValueSpec, ArraySpec, LabelSpec, SwitchSpec, StringSpec, ProcedureSpec, FunctionSpec}
use Rattle.gier_tree.specs.Trees.{ValuePart, Heading, MkHeading, LabelPlace, Declaration, DeclareType, DeclareOwn, DeclareArrays}
use Rattle.gier_tree.specs.Trees.{DeclareOwnArrays, DeclareSwitch, DeclareProcedure, Declarations, NoDeclarations}
use Rattle.gier_tree.specs.Trees.{MoreDeclarations, Group, MkBlock, MkCompound, Statements, NoStatements, MoreStatements}
use Rattle.gier_tree.specs.Trees.{Statement, OneUnconditional, OneConditional, OneLoop, Unconditional, MkUnconditional, Basic}
use Rattle.gier_tree.specs.Trees.{OneGroup, Assign, Jump, CallStatement, Dummy, Conditional, IfThen, IfElse, IfLoop, Loop, MkLoop}
use Rattle.gier_scope.specs.Scopes.{Scope}
use Rattle.gier_fair.specs.InScope.{identifiers, InScopeDeclaration, InScopeDeclarations, InScopeGroup, InScopeStatements}
use Rattle.gier_fair.specs.InScope.{InScopeStatement, InScopeUnconditional, InScopeBasic, InScopeConditional, InScopeLoop}
use Rattle.gier_fair.proofs.LabelsOf.{split_statement, split_unconditional}
use Rattle.gier_complete.proofs.PlacedLabels.{placed_labels, placed_declaration, placed_declarations, placed_group}
use Rattle.gier_complete.proofs.PlacedLabels.{placed_statements, placed_statement, placed_unconditional, placed_basic}
use Rattle.gier_complete.proofs.PlacedLabels.{placed_conditional, placed_loop}
use Rattle.gier_placed.proofs.OwnNumbers.{counted, entries_weight, own_numbers, both_entries, both_labels, label_entries_weight}
use Rattle.gier_placed.proofs.Weights.{row, rows, row_from}

-- which kinds are numbered
variables_uncounted : (t : ValueType) → kind_numbers (variable_kind t) ≡ 0
variables_uncounted IntegerType = refl
variables_uncounted BooleanType = refl

arrays_uncounted : (t : ValueType) → kind_numbers (array_kind t) ≡ 0
arrays_uncounted IntegerType = refl
arrays_uncounted BooleanType = refl

procedures_counted : (t : Option TypeWord) → kind_numbers (procedure_kind t) ≡ 1
procedures_counted None = refl
procedures_counted (Some t) = by t.type
  where
    by : (v : ValueType) → kind_numbers (procedure_kind (Some (record { type = v; line = t.line }))) ≡ 1
    by IntegerType = refl
    by BooleanType = refl

specified_uncounted : (s : Specifier) (v : Bool) → kind_numbers (specified_kind s v) ≡ 0
specified_uncounted (ValueSpec t) v = by t.type v
  where
    by : (x : ValueType) (v : Bool) → kind_numbers (specified_kind (ValueSpec (record { type = x; line = t.line })) v) ≡ 0
    by IntegerType true = refl
    by IntegerType false = refl
    by BooleanType true = refl
    by BooleanType false = refl
specified_uncounted (ArraySpec t l) v = by t.type
  where
    by : (x : ValueType) → kind_numbers (specified_kind (ArraySpec (record { type = x; line = t.line }) l) v) ≡ 0
    by IntegerType = refl
    by BooleanType = refl
specified_uncounted (LabelSpec l) v = refl
specified_uncounted (SwitchSpec l) v = refl
specified_uncounted (StringSpec l) v = refl
specified_uncounted (ProcedureSpec l) v = refl
specified_uncounted (FunctionSpec t l) v = by t.type
  where
    by : (x : ValueType) → kind_numbers (specified_kind (FunctionSpec (record { type = x; line = t.line }) l) v) ≡ 0
    by IntegerType = refl
    by BooleanType = refl

formal_uncounted : (ss : List Specification) (vs : ValuePart) (x : ℕ) → kind_numbers (formal_kind ss vs x) ≡ 0
formal_uncounted [] vs x = refl
formal_uncounted (s ∷ ss) vs x = by (is_named x s.names) (formal_uncounted ss vs x)
  where
    by : (b : Bool) → kind_numbers (formal_kind ss vs x) ≡ 0
        → kind_numbers (if b then specified_kind s.specifier (is_by_value x vs) else formal_kind ss vs x) ≡ 0
    by true rest = specified_uncounted s.specifier (is_by_value x vs)
    by false rest = rest

kind_uncounted : (h : Heading) (x : ℕ) → kind_numbers (kind_in h x) ≡ 0
kind_uncounted (MkHeading t l y fs m vs ss) x = formal_uncounted ss vs x

-- sums
none_more : (n : ℕ) → n ≡ 0 + n
none_more n = omega arith

add_up : (a b x y r s z q : ℕ) → a ≡ x + r → b ≡ y + s → z ≡ x + y → q ≡ r + s → a + b ≡ z + q
add_up a b x y r s z q e1 e2 e3 e4 = omega arith

add_before : (x a y r z : ℕ) → a ≡ y + r → z ≡ x + y → x + a ≡ z + r
add_before x a y r z e1 e2 = omega arith

add_scope : (x a y r s q : ℕ) → a ≡ y + s → y ≡ r → q ≡ r + s → x + a ≡ (x + 0) + q
add_scope x a y r s q e1 e2 e3 = omega arith

add_block : (pd pds ps pss e f l m ef efl lm r0 r1 r2 r3 r4 q1 q2 q3 q4 : ℕ) → pd ≡ e + r1 → pds ≡ f + r2 → ps ≡ l + r3
    → pss ≡ m + r4
    → efl ≡ r0 → efl ≡ ef + lm → ef ≡ e + f → lm ≡ l + m → q1 ≡ r0 + r1 → q2 ≡ q1 + r2 → q3 ≡ q2 + r3 → q4 ≡ q3 + r4
    → pd + (pds + (ps + pss)) ≡ 0 + q4
add_block pd pds ps pss e f l m ef efl lm r0 r1 r2 r3 r4 q1 q2 q3 q4 e1 e2 e3 e4 e5 e6 e7 e8 e9 e10 e11 e12 = omega arith

module _ (weight : ℕ → ℕ) where
  abbrev labels_weight : Places → List LabelPlace → ℕ
  labels_weight p ls = placed_labels p ls weight

  -- entries that aren't numbered
  named_uncounted : (p : Places) (what : Described) → kind_numbers what.kind ≡ 0 → (xs : List Name)
      → entries_weight weight p (map (entry what) xs) ≡ 0
  named_uncounted p what none [] = refl
  named_uncounted p what none (x ∷ xs) =
      ap (λ n. counted n (weight (p x.number).address) + entries_weight weight p (map (entry what) xs)) none
      ∙ (let rest : entries_weight weight p (map (entry what) xs) ≡ 0 = named_uncounted p what none xs in ap (λ n. 0 + n) rest)

  formals_uncounted : (p : Places) (h : Heading) (xs : List Name)
      → entries_weight weight p (map (λ x. entry (plain (kind_in h x.number)) x) xs) ≡ 0
  formals_uncounted p h [] = refl
  formals_uncounted p h (x ∷ xs) =
      ap (λ n. counted n (weight (p x.number).address) + entries_weight weight p (map
      (λ y. entry (plain (kind_in h y.number)) y) xs)) (kind_uncounted h x.number)
      ∙ ap (λ n. 0 + n) (formals_uncounted p h xs)

  segment_uncounted : (p : Places) (t : ValueType) (s : Segment) → entries_weight weight p (segment_entries t s) ≡ 0
  segment_uncounted p t (MkSegment ns l b bs m) = named_uncounted p _ (arrays_uncounted t) (list_of ns)

  segments_uncounted : (p : Places) (t : ValueType) (ss : List NextSegment) → entries_weight weight p (segments_entries t ss) ≡ 0
  segments_uncounted p t [] = refl
  segments_uncounted p t (s ∷ ss) =
      both_entries weight p (segment_entries t s.segment) (segments_entries t ss)
      ∙ ap (λ n. n + entries_weight weight p (segments_entries t ss)) (segment_uncounted p t s.segment)
      ∙ ap (λ n. 0 + n) (segments_uncounted p t ss)

  -- one part behind another, and labels before a part
  part_behind : (p : Places) (ls ms : List LabelPlace) (from c d a b : ℕ) → a ≡ labels_weight p ls + row weight from c
      → b ≡ labels_weight p ms + row weight (from + c) d → a + b ≡ labels_weight p (ls ++ ms) + row weight from (c + d)
  part_behind p ls ms from c d a b h k =
      add_up a b (labels_weight p ls) (labels_weight p ms) (row weight from c) (row weight (from + c) d) (labels_weight p (ls
      ++ ms)) (row weight from (c + d))
      h k (both_labels weight p ls ms) (rows weight from c d)

  labels_before : (p : Places) (ls ms : List LabelPlace) (r a : ℕ) → a ≡ labels_weight p ms + r
      → labels_weight p ls + a ≡ labels_weight p (ls ++ ms) + r
  labels_before p ls ms r a h =
      add_before (labels_weight p ls) a (labels_weight p ms) r (labels_weight p (ls ++ ms)) h (both_labels weight p ls ms)

  split_as : (p : Places) (xs ys : List LabelPlace) (a r : ℕ) → xs ≡ ys → a ≡ labels_weight p ys + r → a ≡ labels_weight p xs + r
  split_as p xs ys a r e h = h ∙ ap (λ zs. labels_weight p zs + r) (sym e)

  nothing_placed : (e : ℕ) → e ≡ 0 → 0 ≡ e + 0
  nothing_placed e h = omega arith

  mutual
    declaration_is : (p : Places) (own : Scope) (w : Where) (d : Declaration) → InScopeDeclaration p own w d
        → placed_declaration p w d weight
        ≡ entries_weight weight p (declaration_entries d) + row weight w.numbers (numbers_declaration d)
    declaration_is p own w (DeclareType t ns) h = nothing_placed _ (named_uncounted p _ (variables_uncounted t.type) (list_of ns))
    declaration_is p own w (DeclareOwn l t ns) h = refl
    declaration_is p own w (DeclareArrays t l s ss) h =
        nothing_placed _ (both_entries weight p (segment_entries t.type s) (segments_entries t.type ss)
        ∙ ap (λ n. n + entries_weight weight p (segments_entries t.type ss)) (segment_uncounted p t.type s)
        ∙ ap (λ n. 0 + n) (segments_uncounted p t.type ss))
    declaration_is p own w (DeclareOwnArrays k t l s ss) h = refl
    declaration_is p own w (DeclareSwitch l x m e es) h = let one : weight (p x.number).address
        ≡ (weight (p x.number).address + 0) + 0 = omega arith in one
    declaration_is p own w (DeclareProcedure (MkHeading t l x fs m vs ss) s) h =
        let g = MkHeading t l x fs m vs ss in
        let q = procedure_places (suc w.level) w.numbers g s p in
        let es = procedure_entries g s in
        let formals = map (λ y. entry (plain (kind_in g y.number)) y) (formals_of g) in
        let labels = label_entries (labels_of_statement s []) in
        let body : placed_statement q (inner w es) s weight
        ≡ labels_weight q (labels_of_statement s []) + row weight (w.numbers + entries_numbers es) (numbers_statement s) =
        statement_is q (inner w es) s h.3 in
        let scope : labels_weight q (labels_of_statement s []) ≡ row weight w.numbers (entries_numbers es) =
        label_entries_weight weight q (labels_of_statement s []) ∙ none_more (entries_weight weight q labels)
        ∙ ap (λ n. n + entries_weight weight q labels) (sym (formals_uncounted q g (formals_of g)))
        ∙ sym (both_entries weight q formals labels) ∙ own_numbers weight (suc w.level) (first_formal g) w.numbers es p h.2 in
        add_scope (weight (p x.number).address) (placed_statement q (inner w es) s weight) (labels_weight q (labels_of_statement
        s []))
        (row weight w.numbers (entries_numbers es)) (row weight (w.numbers + entries_numbers es) (numbers_statement s))
        (row weight w.numbers (entries_numbers es + numbers_statement s)) body scope (rows weight w.numbers (entries_numbers
        es) (numbers_statement s))
        ∙ ap (λ n. (counted n (weight (p x.number).address) + 0) + row weight w.numbers (entries_numbers es + numbers_statement
        s)) (sym (procedures_counted t))

    declarations_are : (p : Places) (own : Scope) (w : Where) (ds : Declarations) → InScopeDeclarations p own w ds
        → placed_declarations p w ds weight
        ≡ entries_weight weight p (declarations_entries ds) + row weight w.numbers (numbers_declarations ds)
    declarations_are p own w NoDeclarations h = refl
    declarations_are p own w (MoreDeclarations d l ds) h =
        let c = numbers_declaration d in
        let k = numbers_declarations ds in
        add_up (placed_declaration p w d weight) (placed_declarations p (behind_declaration w d) ds weight)
        (entries_weight weight p (declaration_entries d)) (entries_weight weight p (declarations_entries ds))
        (row weight w.numbers c) (row weight (w.numbers + c) k) (entries_weight weight p (declaration_entries d
        ++ declarations_entries ds)) (row weight w.numbers (c + k))
        (declaration_is p own w d h.0) (declarations_are p own (behind_declaration w d) ds h.1)
        (both_entries weight p (declaration_entries d) (declarations_entries ds)) (rows weight w.numbers c k)

    pub group_is : (p : Places) (w : Where) (g : Group) → InScopeGroup p w g
        → placed_group p w g weight ≡ labels_weight p (labels_of_group g []) + row weight w.numbers (numbers_group g)
    group_is p w (MkBlock l d m ds s ss n) h =
        let q = block_places (suc w.level) w.numbers d ds s ss p in
        let es = block_entries d ds s ss in
        let w1 = inner w es in
        let w2 = behind_declaration w1 d in
        let w3 = behind_declarations w2 ds in
        let w4 = behind_statement w3 s in
        let c0 = entries_numbers es in
        let c1 = c0 + numbers_declaration d in
        let c2 = c1 + numbers_declarations ds in
        let c3 = c2 + numbers_statement s in
        let labels = labels_of_statement s (labels_of_statements ss []) in
        let all : labels_weight q labels
        ≡ labels_weight q (labels_of_statement s []) + labels_weight q (labels_of_statements ss []) =
        ap (labels_weight q) (split_statement s (labels_of_statements ss []))
        ∙ both_labels weight q (labels_of_statement s []) (labels_of_statements ss []) in
        let third : w.numbers + c0 + numbers_declaration d ≡ w.numbers + c1 = omega arith in
        let fourth : w.numbers + c0 + numbers_declaration d + numbers_declarations ds ≡ w.numbers + c2 = omega arith in
        let fifth : w.numbers + c0 + numbers_declaration d + numbers_declarations ds + numbers_statement s
        ≡ w.numbers + c3 = omega arith in
        add_block (placed_declaration q w1 d weight) (placed_declarations q w2 ds weight) (placed_statement q w3 s weight)
        (placed_statements q w4 ss weight)
        (entries_weight weight q (declaration_entries d)) (entries_weight weight q (declarations_entries ds))
        (labels_weight q (labels_of_statement s [])) (labels_weight q (labels_of_statements ss []))
        (entries_weight weight q (declaration_entries d
        ++ declarations_entries ds)) (entries_weight weight q es) (labels_weight q labels)
        (row weight w.numbers c0) (row weight (w.numbers + c0) (numbers_declaration d)) (row weight (w.numbers +
        c1) (numbers_declarations ds))
        (row weight (w.numbers + c2) (numbers_statement s)) (row weight (w.numbers + c3) (numbers_statements ss))
        (row weight w.numbers c1) (row weight w.numbers c2) (row weight w.numbers c3) (row weight w.numbers (c3 +
        numbers_statements ss))
        (declaration_is q (identifiers es) w1 d h.2)
        (declarations_are q (identifiers es) w2 ds h.3
        ∙ ap (λ r. entries_weight weight q (declarations_entries ds) + r) (row_from weight _ _ (numbers_declarations ds) third))
        (statement_is q w3 s h.4 ∙ ap (λ r.
        labels_weight q (labels_of_statement s []) + r) (row_from weight _ _ (numbers_statement s) fourth))
        (statements_are q w4 ss h.5 ∙ ap (λ r.
        labels_weight q (labels_of_statements ss []) + r) (row_from weight _ _ (numbers_statements ss) fifth))
        (own_numbers weight (suc w.level) block_header w.numbers es p h.1)
        (both_entries weight q (declaration_entries d ++ declarations_entries ds) (label_entries labels)
        ∙ ap (λ n. entries_weight weight q (declaration_entries d
        ++ declarations_entries ds) + n) (sym (label_entries_weight weight q labels)))
        (both_entries weight q (declaration_entries d) (declarations_entries ds)) all
        (rows weight w.numbers c0 (numbers_declaration d)) (rows weight w.numbers c1 (numbers_declarations
        ds)) (rows weight w.numbers c2 (numbers_statement s))
        (rows weight w.numbers c3 (numbers_statements ss))
    group_is p w (MkCompound l s ss m) h =
        split_as p _ _ _ _ (split_statement s (labels_of_statements ss []))
        (part_behind p (labels_of_statement s []) (labels_of_statements ss []) w.numbers (numbers_statement
        s) (numbers_statements ss)
        (placed_statement p w s weight) (placed_statements p (behind_statement w
        s) ss weight) (statement_is p w s h.0) (statements_are p (behind_statement w s) ss h.1))

    statements_are : (p : Places) (w : Where) (ss : Statements) → InScopeStatements p w ss
        → placed_statements p w ss weight
        ≡ labels_weight p (labels_of_statements ss []) + row weight w.numbers (numbers_statements ss)
    statements_are p w NoStatements h = refl
    statements_are p w (MoreStatements l s ss) h =
        split_as p _ _ _ _ (split_statement s (labels_of_statements ss []))
        (part_behind p (labels_of_statement s []) (labels_of_statements ss []) w.numbers (numbers_statement
        s) (numbers_statements ss)
        (placed_statement p w s weight) (placed_statements p (behind_statement w
        s) ss weight) (statement_is p w s h.0) (statements_are p (behind_statement w s) ss h.1))

    statement_is : (p : Places) (w : Where) (s : Statement) → InScopeStatement p w s
        → placed_statement p w s weight ≡ labels_weight p (labels_of_statement s []) + row weight w.numbers (numbers_statement s)
    statement_is p w (OneUnconditional u) h = unconditional_is p w u h
    statement_is p w (OneConditional c) h = conditional_is p w c h
    statement_is p w (OneLoop f) h = loop_is p w f h

    unconditional_is : (p : Places) (w : Where) (u : Unconditional) → InScopeUnconditional p w u
        → placed_unconditional p w u weight
        ≡ labels_weight p (labels_of_unconditional u []) + row weight w.numbers (numbers_unconditional u)
    unconditional_is p w (MkUnconditional ls b) h =
        labels_before p ls (labels_of_basic b []) _ (placed_basic p w b weight) (basic_is p w b h)

    basic_is : (p : Places) (w : Where) (b : Basic) → InScopeBasic p w b
        → placed_basic p w b weight ≡ labels_weight p (labels_of_basic b []) + row weight w.numbers (numbers_basic b)
    basic_is p w (OneGroup g) h = group_is p w g h
    basic_is p w (Assign q qs e) h = refl
    basic_is p w (Jump l e) h = refl
    basic_is p w (CallStatement c) h = refl
    basic_is p w Dummy h = refl

    conditional_is : (p : Places) (w : Where) (c : Conditional) → InScopeConditional p w c
        → placed_conditional p w c weight
        ≡ labels_weight p (labels_of_conditional c []) + row weight w.numbers (numbers_conditional c)
    conditional_is p w (IfThen ls l e m u) h =
        labels_before p ls (labels_of_unconditional u []) _ (placed_unconditional p w u weight) (unconditional_is p w u h.1)
    conditional_is p w (IfElse ls l e m u n s) h =
        let behind = further w (numbers_unconditional u) (owns_in_unconditional u) in
        labels_before p ls (labels_of_unconditional u (labels_of_statement s [])) (row weight w.numbers (numbers_unconditional u
        + numbers_statement s))
        (placed_unconditional p w u weight + placed_statement p behind s weight)
        (split_as p _ _ _ _ (split_unconditional u (labels_of_statement s []))
        (part_behind p (labels_of_unconditional u []) (labels_of_statement s []) w.numbers (numbers_unconditional
        u) (numbers_statement s)
        (placed_unconditional p w u weight) (placed_statement p behind s weight) (unconditional_is p w u h.1) (statement_is p
        behind s h.2)))
    conditional_is p w (IfLoop ls l e m f) h =
        labels_before p ls (labels_of_loop f []) _ (placed_loop p w f weight) (loop_is p w f h.1)

    loop_is : (p : Places) (w : Where) (f : Loop) → InScopeLoop p w f
        → placed_loop p w f weight ≡ labels_weight p (labels_of_loop f []) + row weight w.numbers (numbers_loop f)
    loop_is p w (MkLoop ls l x m t ts n s) h =
        let es = turn_entries s in
        let q = turn_places w.level w.numbers s p in
        let behind = further w (entries_numbers es) 0 in
        let body : placed_statement q behind s weight
        ≡ labels_weight q (labels_of_statement s []) + row weight (w.numbers + entries_numbers es) (numbers_statement s) =
        statement_is q behind s h.2 in
        let scope : labels_weight q (labels_of_statement s []) ≡ row weight w.numbers (entries_numbers es) =
        label_entries_weight weight q (labels_of_statement s []) ∙ own_numbers weight w.level 0 w.numbers es p h.1 in
        labels_before p ls [] (row weight w.numbers (entries_numbers es + numbers_statement s)) (placed_statement q behind s weight)
        (let both : row weight w.numbers (entries_numbers es + numbers_statement s)
        ≡ row weight w.numbers (entries_numbers es) + row weight (w.numbers + entries_numbers es) (numbers_statement s) =
        rows weight w.numbers (entries_numbers es) (numbers_statement s) in omega arith)
