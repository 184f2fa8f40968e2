-- Rooms and kinds are the same of a closed tree and of the tree itself.
use Rattle.std.proofs.Common.{◌≡◌, ℕ, suc, ◌+◌, ◌*◌, max, length, Bool, true, false, List, [], ◌∷◌, ◌++◌, refl, sym, ap, ap₂, ◌∙◌, subst, true≢false}
use Rattle.std.specs.Prelude.{◌==◌, ◌||◌, if◌then◌else◌}
use Rattle.gier_agree.specs.declared.kind.Kind.{Kind}
use Rattle.gier_meaning.specs.Tree.{Name, Identifier, AnEntity, AProcedure, AFormalProcedure, AText, AStandard, AnActual, Expr, Number, Logical, Alone, Subscripted, Called, Bracketed, Prefixed, Joined, IfExpr, Quoted, Exprs, NoExprs, MoreExprs, Element, Once, StepUntil, While, Formal, Statement, Labelled, Dummy, Compound, Block, Assign, GoTo, CallOf, If, IfElse, For, Statements, NoStatements, MoreStatements, Declarations, NoDeclarations, Variables, Arrays, Switch, Procedure}
use Rattle.gier_meaning.specs.Outcome.{is_among}
use Rattle.gier_meaning.specs.Scopes.{identifier_in, identifiers_in, labels, all_labels, declared_names, of_block, identifiers_of, formal_identifiers, of_procedure}
use Rattle.gier_meaning.specs.What.{What, IsLabel, IsVariable, IsArray, IsSwitch, IsProcedure, kinds, formal_what, declared_by, specified_by, labels_by, asking_first, in_block, in_procedure}
use Rattle.gier_meaning.specs.Room.{count, element_need, passed_need, formals_of, call_need, value_words, declared_words, need, need_behind, first_need, greatest_need, passed_needs, turn_need, turns_need, bounds_need, statement_need, statements_need, evaluation_room, block_room, procedure_room}
use Rattle.gier_meaning.specs.Passing.{value_kind, alone_kind, meant_alone, expr_kind, actual_kind, actual_kinds, meant}
use Rattle.gier_meaning.specs.Maps.{Map, map_without, hidden_from, hidden_in_body}
use Rattle.gier_meaning.specs.Close.{close_name, close, close_all, close_left, close_lefts, close_element, close_elements, close_names, close_in, close_statements, close_declarations}
use Rattle.gier_copy.proofs.Closing.{Stays, Proper, Keeps, keeps_left, keeps_right, keeps_hidden, proper_hidden, labels_stay, all_labels_stay, names_stay, identifier_stays, quantities_first, procedures_first, block_identifiers, among_append}

-- what closed names are, and what names are
abbrev pub Match : (ℕ → Name) → (Name → What) → (Name → What) → Type 0
Match f closed open_ = (n : Name) → closed (close_name f n) ≡ open_ n

count_same : (f : ℕ → Name) (es : Exprs) → count (close_all f es) ≡ count es
count_same f NoExprs = refl
count_same f (MoreExprs e es) = ap suc (count_same f es)

count_left : (m : Map) (es : Exprs) → count (close_lefts m es) ≡ count es
count_left m NoExprs = refl
count_left m (MoreExprs e es) = ap suc (count_left m es)

module _ (f : ℕ → Name) (w v : Name → What) (match : Match f w v) where
  mutual
    need_same : (e : Expr) → need w (close f e) ≡ need v e
    need_same (Number value line) = refl
    need_same (Logical b line) = refl
    need_same (Alone n line) = refl
    need_same (Subscripted n line es) =
        ap₂ (λ u c. element_need u c (need_behind w 1 (close_all f es)) (first_need w (close_all f es))) (match n) (count_same f es)
        ∙ ap₂ (element_need (v n) (count es)) (behind_same 1 es) (first_same es)
    need_same (Called n line es) =
        ap₂ (λ u c. call_need u c (passed_needs w 0 (formals_of u) (close_all f es)) (greatest_need w (close_all f es))) (match n)
        (count_same f es)
        ∙ ap₂ (call_need (v n) (count es)) (passed_same 0 (formals_of (v n)) es) (greatest_same es)
    need_same (Bracketed line e) = need_same e
    need_same (Prefixed op line e) = need_same e
    need_same (Joined a op line b) = ap₂ (λ x y. max x (1 + y)) (need_same a) (need_same b)
    need_same (IfExpr line test a b) = ap₂ (λ x y. max x y) (need_same test) (ap₂ (λ x y. max x y) (need_same a) (need_same b))
    need_same (Quoted bytes line) = refl

    behind_same : (i : ℕ) (es : Exprs) → need_behind w i (close_all f es) ≡ need_behind v i es
    behind_same i NoExprs = refl
    behind_same i (MoreExprs e es) = ap₂ (λ x y. max (i + x) y) (need_same e) (behind_same (suc i) es)

    first_same : (es : Exprs) → first_need w (close_all f es) ≡ first_need v es
    first_same NoExprs = refl
    first_same (MoreExprs e es) = need_same e

    greatest_same : (es : Exprs) → greatest_need w (close_all f es) ≡ greatest_need v es
    greatest_same NoExprs = refl
    greatest_same (MoreExprs e es) = ap₂ (λ x y. max x y) (need_same e) (greatest_same es)

    passed_same : (i : ℕ) (formals : List Kind) (es : Exprs) → passed_needs w i formals (close_all f es) ≡ passed_needs v i formals es
    passed_same i formals NoExprs = refl
    passed_same i [] (MoreExprs e es) = refl
    passed_same i (formal ∷ formals) (MoreExprs e es) = ap₂ (λ x y. max (passed_need formal i x) y) (need_same e)
        (passed_same (suc (suc i)) formals es)

  pub room_same : (e : Expr) → evaluation_room w (close f e) ≡ evaluation_room v e
  room_same e = ap (λ x. 5 + x) (need_same e)

  turn_same : (g : ℕ → Name) (e : Element) → turn_need w (close_element (record { used = f; assigned = g }) e) ≡ turn_need v e
  turn_same g (Once e) = ap (λ x. 1 + x) (need_same e)
  turn_same g (StepUntil a b c) = ap₂ (λ x y. max (1 + x) y) (need_same a) (ap₂ (λ x y. max (1 + x) (2 + y)) (need_same c) (need_same b))
  turn_same g (While e test) = ap₂ (λ x y. max (1 + x) y) (need_same e) (need_same test)

  turns_same : (g : ℕ → Name) (es : List Element) → turns_need w (close_elements (record { used = f; assigned = g }) es) ≡ turns_need v es
  turns_same g [] = refl
  turns_same g (e ∷ es) = ap₂ (λ x y. max x y) (turn_same g e) (turns_same g es)

  left_same : (g : ℕ → Name) (e : Expr) → need w (close_left (record { used = f; assigned = g }) e) ≡ need v e
  left_same g (Number value line) = refl
  left_same g (Logical b line) = refl
  left_same g (Alone n line) = refl
  left_same g (Subscripted n line es) = need_same (Subscripted n line es)
  left_same g (Called n line es) = need_same (Called n line es)
  left_same g (Bracketed line e) = need_same e
  left_same g (Prefixed op line e) = need_same e
  left_same g (Joined a op line b) = need_same (Joined a op line b)
  left_same g (IfExpr line test a b) = need_same (IfExpr line test a b)
  left_same g (Quoted bytes line) = refl

  lefts_same : (g : ℕ → Name) (i : ℕ) (es : Exprs) → need_behind w i (close_lefts (record { used = f; assigned = g }) es)
      ≡ need_behind v i es
  lefts_same g i NoExprs = refl
  lefts_same g i (MoreExprs e es) = ap₂ (λ x y. max (i + x) y) (left_same g e) (lefts_same g (suc i) es)

  -- ---- kinds

  pub expr_kind_same : (e : Expr) → expr_kind w (close f e) ≡ expr_kind v e
  expr_kind_same (Number value line) = refl
  expr_kind_same (Logical b line) = refl
  expr_kind_same (Alone n line) = ap value_kind (match n)
  expr_kind_same (Subscripted n line es) = ap value_kind (match n)
  expr_kind_same (Called n line es) = ap value_kind (match n)
  expr_kind_same (Bracketed line e) = expr_kind_same e
  expr_kind_same (Prefixed op line e) = refl
  expr_kind_same (Joined a op line b) = refl
  expr_kind_same (IfExpr line test a b) = expr_kind_same a
  expr_kind_same (Quoted bytes line) = refl

  pub actual_kind_same : (e : Expr) → actual_kind w (close f e) ≡ actual_kind v e
  actual_kind_same (Number value line) = refl
  actual_kind_same (Logical b line) = refl
  actual_kind_same (Alone n line) = ap alone_kind (match n)
  actual_kind_same (Subscripted n line es) = ap value_kind (match n)
  actual_kind_same (Called n line es) = ap value_kind (match n)
  actual_kind_same (Bracketed line e) = expr_kind_same e
  actual_kind_same (Prefixed op line e) = refl
  actual_kind_same (Joined a op line b) = refl
  actual_kind_same (IfExpr line test a b) = expr_kind_same a
  actual_kind_same (Quoted bytes line) = refl

  pub actual_kinds_same : (es : Exprs) → actual_kinds w (close_all f es) ≡ actual_kinds v es
  actual_kinds_same NoExprs = refl
  actual_kinds_same (MoreExprs e es) = ap₂ ◌∷◌ (actual_kind_same e) (actual_kinds_same es)

  pub meant_same : (e : Expr) → meant w (close f e) ≡ meant v e
  meant_same (Number value line) = refl
  meant_same (Logical b line) = refl
  meant_same (Alone n line) = ap meant_alone (match n)
  meant_same (Subscripted n line es) = refl
  meant_same (Called n line es) = refl
  meant_same (Bracketed line e) = refl
  meant_same (Prefixed op line e) = refl
  meant_same (Joined a op line b) = refl
  meant_same (IfExpr line test a b) = refl
  meant_same (Quoted bytes line) = refl

-- ---- what an inner scope says first

pub record Covers (own : ℕ → What → What) (xs : List ℕ) : Type 0 where
  pub inside : (x : ℕ) (a b : What) → is_among x xs ≡ true → own x a ≡ own x b
  pub outside : (x : ℕ) (a : What) → is_among x xs ≡ false → own x a ≡ a

asked : (own : ℕ → What → What) (xs : List ℕ) (covers : Covers own xs) (w : Name → What) (x : ℕ) (t : Bool) (n : Name) (r : What)
    → Stays n x → is_among x xs ≡ t → w n ≡ r → asking_first own w (if t then Identifier x else n) ≡ own x r
asked own xs covers w x true n r stays e p = covers.inside x (w (Identifier x)) r e
asked own xs covers w x false (Identifier y) r stays e p =
    covers.outside y (w (Identifier y)) (ap (λ z. is_among z xs) stays ∙ e) ∙ p ∙ sym (covers.outside x r e)
asked own xs covers w x false (AnEntity n) r stays e p = p ∙ sym (covers.outside x r e)
asked own xs covers w x false (AProcedure n) r stays e p = p ∙ sym (covers.outside x r e)
asked own xs covers w x false (AFormalProcedure n) r stays e p = p ∙ sym (covers.outside x r e)
asked own xs covers w x false (AText bytes) r stays e p = p ∙ sym (covers.outside x r e)
asked own xs covers w x false (AStandard standard) r stays e p = p ∙ sym (covers.outside x r e)
asked own xs covers w x false (AnActual meant kind a) r stays e p = p ∙ sym (covers.outside x r e)

pub asking_same : (own : ℕ → What → What) (xs : List ℕ) → Covers own xs → (f : ℕ → Name) (w v : Name → What) → Proper f → Match f w v
    → Match (hidden_from xs f) (asking_first own w) (asking_first own v)
asking_same own xs covers f w v proper match (Identifier x) =
    asked own xs covers w x (is_among x xs) (f x) (v (Identifier x)) (proper x) refl (match (Identifier x))
asking_same own xs covers f w v proper match (AnEntity n) = match (AnEntity n)
asking_same own xs covers f w v proper match (AProcedure n) = match (AProcedure n)
asking_same own xs covers f w v proper match (AFormalProcedure n) = match (AFormalProcedure n)
asking_same own xs covers f w v proper match (AText bytes) = match (AText bytes)
asking_same own xs covers f w v proper match (AStandard standard) = match (AStandard standard)
asking_same own xs covers f w v proper match (AnActual meant kind e) = match (AnActual meant kind e)

cover_labels : (xs : List ℕ) → Covers (labels_by xs) xs
cover_labels xs = record {
  inside = λ x a b e. ap (λ t. if t then IsLabel else a) e ∙ sym (ap (λ t. if t then IsLabel else b) e);
  outside = λ x a e. ap (λ t. if t then IsLabel else a) e;
}

-- first one that covers some, then one that covers others
in_two : (t u : Bool) → (t || u) ≡ true → (P : Type 0) → (t ≡ true → P) → (t ≡ false → u ≡ true → P) → P
in_two true u e P p q = p refl
in_two false u e P p q = q refl e

out_first : (t u : Bool) → (t || u) ≡ false → t ≡ false
out_first true u e = e
out_first false u e = refl

out_second : (t u : Bool) → (t || u) ≡ false → u ≡ false
out_second true u e = elim (true≢false e) [ ]
out_second false u e = e

cover_two : (own more : ℕ → What → What) (xs ys : List ℕ) → Covers own xs → Covers more ys → Covers (λ x a. own x (more x a)) (xs ++ ys)
cover_two own more xs ys c d = record {
  inside = λ x a b e. in_two (is_among x xs) (is_among x ys) (sym (among_append x xs ys) ∙ e) (own x (more x a) ≡ own x (more x b))
      (λ p. c.inside x (more x a) (more x b) p) (λ p q. ap (own x) (d.inside x a b q));
  outside = λ x a e.
      let both = sym (among_append x xs ys) ∙ e in
      c.outside x (more x a) (out_first (is_among x xs) (is_among x ys) both)
      ∙ d.outside x a (out_second (is_among x xs) (is_among x ys) both);
}

cover_one : (xs : List ℕ) (what : What) → Covers (λ x a. if is_among x xs then what else a) xs
cover_one xs what = record {
  inside = λ x a b e. ap (λ t. if t then what else a) e ∙ sym (ap (λ t. if t then what else b) e);
  outside = λ x a e. ap (λ t. if t then what else a) e;
}

cover_nothing : Covers (λ x a. a) []
cover_nothing = record { inside = λ x a b e. elim (true≢false (sym e)) [ ]; outside = λ x a e. refl }

-- it asks the first, and the others where that does not say it
declared_covers : (ds : Declarations) → Covers (declared_by ds) (identifiers_of (declared_names ds))
declared_covers NoDeclarations = cover_nothing
declared_covers (Variables kind ns ds) =
    subst (Covers (declared_by (Variables kind ns ds))) (sym (quantities_first (identifiers_in ns) (declared_names ds)))
    (first_covers (identifiers_in ns) (IsVariable kind) (declared_by ds) (identifiers_of (declared_names ds)) (declared_covers ds))
  where
    first_covers : (xs : List ℕ) (what : What) (more : ℕ → What → What) (ys : List ℕ) → Covers more ys
        → Covers (λ x a. if is_among x xs then what else more x a) (xs ++ ys)
    first_covers xs what more ys c = cover_two (λ x a. if is_among x xs then what else a) more xs ys (cover_one xs what) c
declared_covers (Arrays kind line ns bounds ds) =
    subst (Covers (declared_by (Arrays kind line ns bounds ds))) (sym (quantities_first (identifiers_in ns) (declared_names ds)))
    (cover_two (λ x a. if is_among x (identifiers_in ns) then IsArray kind else a) (declared_by ds) (identifiers_in ns)
    (identifiers_of (declared_names ds)) (cover_one (identifiers_in ns) (IsArray kind)) (declared_covers ds))
declared_covers (Switch line n elements ds) =
    subst (Covers (declared_by (Switch line n elements ds))) (sym (quantities_first (identifier_in n) (declared_names ds)))
    (cover_two (λ x a. if is_among x (identifier_in n) then IsSwitch else a) (declared_by ds) (identifier_in n)
    (identifiers_of (declared_names ds)) (cover_one (identifier_in n) IsSwitch) (declared_covers ds))
declared_covers (Procedure line kind own n formals body ds) =
    subst (Covers (declared_by (Procedure line kind own n formals body ds))) (sym (procedures_first (identifier_in n) (declared_names ds)))
    (cover_two (λ x a. if is_among x (identifier_in n) then IsProcedure kind (kinds formals) else a) (declared_by ds) (identifier_in n)
    (identifiers_of (declared_names ds)) (cover_one (identifier_in n) (IsProcedure kind (kinds formals))) (declared_covers ds))

block_covers : (ds : Declarations) (ss : Statements)
    → Covers (λ x a. declared_by ds x (labels_by (all_labels ss) x a)) (identifiers_of (of_block ds ss))
block_covers ds ss =
    subst (Covers (λ x a. declared_by ds x (labels_by (all_labels ss) x a))) (sym (block_identifiers ds ss))
    (cover_two (declared_by ds) (labels_by (all_labels ss)) (identifiers_of (declared_names ds)) (all_labels ss) (declared_covers ds)
    (cover_labels (all_labels ss)))

specified_covers : (formals : List Formal) → Covers (specified_by formals) (formal_identifiers formals)
specified_covers [] = cover_nothing
specified_covers (formal ∷ formals) = record {
  inside = λ x a b e. one (x == formal.identifier) (is_among x (formal_identifiers formals)) (formal_what formal.kind)
      (specified_by formals x a) (specified_by formals x b) e ((specified_covers formals).inside x a b);
  outside = λ x a e. other (x == formal.identifier) (is_among x (formal_identifiers formals)) (formal_what formal.kind)
      (specified_by formals x a) a e ((specified_covers formals).outside x a);
}
  where
    one : (t u : Bool) (k p q : What) → (t || u) ≡ true → (u ≡ true → p ≡ q) → (if t then k else p) ≡ (if t then k else q)
    one true u k p q e h = refl
    one false u k p q e h = h e

    other : (t u : Bool) (k p q : What) → (t || u) ≡ false → (u ≡ false → p ≡ q) → (if t then k else p) ≡ q
    other true u k p q e h = elim (true≢false e) [ ]
    other false u k p q e h = h e

procedure_covers : (formals : List Formal) (body : Statement)
    → Covers (λ x a. specified_by formals x (labels_by (labels body) x a)) (of_procedure formals body)
procedure_covers formals body = cover_two (specified_by formals) (labels_by (labels body)) (formal_identifiers formals) (labels body)
    (specified_covers formals) (cover_labels (labels body))

-- ---- statements, blocks and procedures

mutual
  pub statement_same : (m : Map) (w v : Name → What) → Proper m.used → Match m.used w v → (s : Statement) → statement_need w (close_in m s)
      ≡ statement_need v s
  statement_same m w v proper match (Labelled n s) = statement_same m w v proper match s
  statement_same m w v proper match Dummy = refl
  statement_same m w v proper match (Compound ss) = statements_same m w v proper match ss
  statement_same m w v proper match (Block line ds ss) = refl
  statement_same m w v proper match (Assign lefts e) =
      ap₂ (λ x y. max x y) (ap₂ (λ x y. x + y) (count_left m lefts) (need_same m.used w v match e))
      (lefts_same m.used w v match m.assigned 0 lefts)
  statement_same m w v proper match (GoTo line e) = need_same m.used w v match e
  statement_same m w v proper match (CallOf e) = need_same m.used w v match e
  statement_same m w v proper match (If test s) = ap₂ (λ x y. max x y) (need_same m.used w v match test)
      (statement_same m w v proper match s)
  statement_same m w v proper match (IfElse test s other) =
      ap₂ (λ x y. max x y) (need_same m.used w v match test)
      (ap₂ (λ x y. max x y) (statement_same m w v proper match s) (statement_same m w v proper match other))
  statement_same m w v proper match (For line variable place elements s) =
      let xs : List ℕ = labels s in
      let m1 : Map = map_without xs m in
      ap (λ u. 1 + max (statement_need (asking_first (labels_by u) w) (close_in m1 s)) (turns_need w (close_elements m elements)))
      (labels_stay m1 s (keeps_hidden xs m.used))
      ∙ ap₂ (λ x y. 1 + max x y)
      (statement_same m1 (asking_first (labels_by xs) w) (asking_first (labels_by xs) v) (proper_hidden xs m.used proper)
      (asking_same (labels_by xs) xs (cover_labels xs) m.used w v proper match) s)
      (turns_same m.used w v match m.assigned elements)

  pub statements_same : (m : Map) (w v : Name → What) → Proper m.used → Match m.used w v → (ss : Statements)
      → statements_need w (close_statements m ss) ≡ statements_need v ss
  statements_same m w v proper match NoStatements = refl
  statements_same m w v proper match (MoreStatements s ss) = ap₂ (λ x y. max x y) (statement_same m w v proper match s)
      (statements_same m w v proper match ss)

bounds_same : (m : Map) (w v : Name → What) → Match m.used w v → (ds : Declarations) → bounds_need w (close_declarations m ds)
    ≡ bounds_need v ds
bounds_same m w v match NoDeclarations = refl
bounds_same m w v match (Variables kind ns ds) = bounds_same m w v match ds
bounds_same m w v match (Arrays kind line ns bounds ds) =
    ap₂ (λ x y. max x y) (ap₂ (λ x y. max x y) (count_same m.used bounds) (behind_same m.used w v match 0 bounds))
    (bounds_same m w v match ds)
bounds_same m w v match (Switch line n elements ds) = bounds_same m w v match ds
bounds_same m w v match (Procedure line kind own n formals body ds) = bounds_same m w v match ds

length_names : (m : Map) (ns : List Name) → length (close_names m ns) ≡ length ns
length_names m [] = refl
length_names m (n ∷ ns) = ap suc (length_names m ns)

words_same : (m : Map) (ds : Declarations) → declared_words (close_declarations m ds) ≡ declared_words ds
words_same m NoDeclarations = refl
words_same m (Variables kind ns ds) = ap₂ (λ x y. x + y) (length_names m ns) (words_same m ds)
words_same m (Arrays kind line ns bounds ds) =
    ap₂ (λ x y. x + y) (ap₂ (λ x y. x * (2 + y)) (length_names m ns) (count_same m.used bounds)) (words_same m ds)
words_same m (Switch line n elements ds) = words_same m ds
words_same m (Procedure line kind own n formals body ds) = words_same m ds

declared_by_same : (m : Map) (ds : Declarations) → Keeps m.used (identifiers_of (declared_names ds)) → declared_by (close_declarations m ds)
    ≡ declared_by ds
declared_by_same m NoDeclarations k = refl
declared_by_same m (Variables kind ns ds) k =
    let k1 = subst (Keeps m.used) (quantities_first (identifiers_in ns) (declared_names ds)) k in
    ap₂ (λ u F. λ x a. if is_among x u then IsVariable kind else F x a)
    (names_stay m ns (keeps_left (identifiers_in ns) (identifiers_of (declared_names ds)) k1))
    (declared_by_same m ds (keeps_right (identifiers_in ns) (identifiers_of (declared_names ds)) k1))
declared_by_same m (Arrays kind line ns bounds ds) k =
    let k1 = subst (Keeps m.used) (quantities_first (identifiers_in ns) (declared_names ds)) k in
    ap₂ (λ u F. λ x a. if is_among x u then IsArray kind else F x a)
    (names_stay m ns (keeps_left (identifiers_in ns) (identifiers_of (declared_names ds)) k1))
    (declared_by_same m ds (keeps_right (identifiers_in ns) (identifiers_of (declared_names ds)) k1))
declared_by_same m (Switch line n elements ds) k =
    let k1 = subst (Keeps m.used) (quantities_first (identifier_in n) (declared_names ds)) k in
    ap₂ (λ u F. λ x a. if is_among x u then IsSwitch else F x a)
    (identifier_stays m.used n (keeps_left (identifier_in n) (identifiers_of (declared_names ds)) k1))
    (declared_by_same m ds (keeps_right (identifier_in n) (identifiers_of (declared_names ds)) k1))
declared_by_same m (Procedure line kind own n formals body ds) k =
    let k1 = subst (Keeps m.used) (procedures_first (identifier_in n) (declared_names ds)) k in
    ap₂ (λ u F. λ x a. if is_among x u then IsProcedure kind (kinds formals) else F x a)
    (identifier_stays m.used n (keeps_left (identifier_in n) (identifiers_of (declared_names ds)) k1))
    (declared_by_same m ds (keeps_right (identifier_in n) (identifiers_of (declared_names ds)) k1))

pub block_same : (m : Map) (w v : Name → What) → Proper m.used → Match m.used w v → (ds : Declarations) (ss : Statements)
    → block_room w (close_declarations (map_without (identifiers_of (of_block ds ss)) m) ds)
    (close_statements (map_without (identifiers_of (of_block ds ss)) m) ss) ≡ block_room v ds ss
block_same m w v proper match ds ss =
    let xs : List ℕ = identifiers_of (of_block ds ss) in
    let m1 : Map = map_without xs m in
    let ds1 : Declarations = close_declarations m1 ds in
    let ss1 : Statements = close_statements m1 ss in
    let k = subst (Keeps m1.used) (block_identifiers ds ss) (keeps_hidden xs m.used) in
    let asks : in_block ds1 ss1 w ≡ in_block ds ss w =
    ap₂ (λ F u. asking_first (λ x a. F x (labels_by u x a)) w)
    (declared_by_same m1 ds (keeps_left (identifiers_of (declared_names ds)) (all_labels ss) k))
    (all_labels_stay m1 ss (keeps_right (identifiers_of (declared_names ds)) (all_labels ss) k)) in
    let match1 : Match m1.used (in_block ds ss w) (in_block ds ss v) =
    asking_same (λ x a. declared_by ds x (labels_by (all_labels ss) x a)) xs (block_covers ds ss) m.used w v proper match in
    let p = proper_hidden xs m.used proper in
    ap (λ u. 3 + declared_words ds1 + max (bounds_need u ds1) (statements_need u ss1)) asks
    ∙ ap₂ (λ x y. 3 + x + y) (words_same m1 ds)
    (ap₂ (λ x y. max x y) (bounds_same m1 (in_block ds ss w) (in_block ds ss v) match1 ds)
    (statements_same m1 (in_block ds ss w) (in_block ds ss v) p match1 ss))

pub procedure_same : (m : Map) (w v : Name → What) → Proper m.used → Match m.used w v
    → (kind : Kind) (own : ℕ) (formals : List Formal) (body : Statement)
    → procedure_room w kind formals (close_in (hidden_in_body kind own (of_procedure formals body) m) body)
    ≡ procedure_room v kind formals body
procedure_same m w v proper match kind own formals body =
    let xs : List ℕ = of_procedure formals body in
    let m1 : Map = hidden_in_body kind own xs m in
    let body1 : Statement = close_in m1 body in
    let asks : in_procedure formals body1 w ≡ in_procedure formals body w =
    ap (λ u. asking_first (λ x a. specified_by formals x (labels_by u x a)) w)
    (labels_stay m1 body (keeps_right (formal_identifiers formals) (labels body) (keeps_hidden xs m.used))) in
    let match1 : Match m1.used (in_procedure formals body w) (in_procedure formals body v) =
    asking_same (λ x a. specified_by formals x (labels_by (labels body) x a)) xs (procedure_covers formals body) m.used w v proper match in
    ap (λ u. 5 + 2 * length formals + value_words kind + statement_need u body1) asks
    ∙ ap (λ x. 5 + 2 * length formals + value_words kind + x)
    (statement_same m1 (in_procedure formals body w) (in_procedure formals body v) (proper_hidden xs m.used proper) match1 body)
