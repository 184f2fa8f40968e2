-- The parts of declarations and headings, and assignments, are read from their spelling. Where a list ends, a premise says that
-- nothing more of it stands there.
use Rattle.std.proofs.Common.{◌≡◌, ℕ, zero, suc, List, [], ◌∷◌, ◌++◌, Some, refl, ap, ◌∙◌}
use Rattle.gier_symbol.specs.declared.symbol.Symbol.{Symbol}
use Rattle.gier_symbol.specs.declared.tag.Tag.TheVariants.{Comma, Colon, Semicolon, RightParenthesis, LeftBracket, RightBracket, Array, Procedure}
use Rattle.gier_symbol.specs.ByTag.{word}
use Rattle.gier_tree.specs.Trees.{Name, Add, Subtract, Exprs, NoExprs, MoreExprs, NextName, Names, MkNames, ValueType, IntegerType, BooleanType, BoundPair, MkPair, NextPair, Segment, MkSegment, NextSegment, Constant, Unsigned, WithSign, MkFixedPair, NoFurther, MoreFurther, FurtherPairs, most_further, FixedSegment, MkFixed, NextFixed, Formals, NoFormals, FormalList, ValuePart, NoValues, ValueList, Specifier, ValueSpec, ArraySpec, LabelSpec, SwitchSpec, StringSpec, ProcedureSpec, FunctionSpec, Specification}
use Rattle.gier_tree.specs.Spell.{ident, type_tag, spell_expr, spell_exprs, spell_next_names, spell_names, spell_pair, spell_next_pairs, spell_segment, spell_next_segments, spell_constant, spell_further_pairs, spell_fixed, spell_next_fixed, spell_formals, spell_values, spell_specifier, spell_specifications}
use Rattle.gier_tree.specs.Signs.{SColon, SSemicolon, SRightParenthesis, SLeftBracket}
use Rattle.gier_tree.specs.Wanted.{NoWord, ArrayWord, ProcedureWord, Item, Want, WantName, WantNumber, WantExpr, MayNames, MayExprs, WantSegment, WantPairs, MaySegments, WantConstant, WantFixed, WantFurther, MayFixed, MayFormals, MayValues, MaySpecifications, MayWord, Trees}
use Rattle.gier_tree.specs.Taking.{name_at, type_at, specifier_of, specification_of, segment_items, fixed_items}
use Rattle.gier_tree.specs.Structure.{with_tree, gather, build}
use Rattle.gier_tree.proofs.Ends.{Ends}
use Rattle.gier_tree.proofs.ExpressionsRead.{expr_built}
use Rattle.gier_tree.proofs.Follows.{Headless, pass_values, specifications_headless}

-- identifiers
pub names_built : (ns : List NextName) (k : List Symbol) (st : List Item) (r : Trees st) → build k (MayNames ∷ st) ≡ Some ([], r) → build (spell_next_names ns k) (MayNames ∷ st) ≡ Some (ns, r)
names_built [] k st r b = b
names_built (n ∷ ns) k st r b = ap (λ o. gather (WantName ∷ MayNames ∷ []) st (λ ts. record { comma = n.comma; name = ts.0 } ∷ ts.1.0) (gather [] (MayNames ∷ st) (λ ts. name_at n.name.number n.name.line) o)) (names_built ns k st r b)

-- expressions behind commas
pub switch_ends : (es : Exprs) (l : ℕ) (k : List Symbol) → Ends 1 (spell_exprs es (word Semicolon l ∷ k))
switch_ends NoExprs l k = refl
switch_ends (MoreExprs m e es) l k = refl

pub more_exprs_built : (es : Exprs) (l : ℕ) (k : List Symbol) (st : List Item) (r : Trees st) → build (word Semicolon l ∷ k) (MayExprs ∷ st) ≡ Some (NoExprs, r) → build (spell_exprs es (word Semicolon l ∷ k)) (MayExprs ∷ st) ≡ Some (es, r)
more_exprs_built NoExprs l k st r b = b
more_exprs_built (MoreExprs m e es) l k st r b = ap (gather (WantExpr ∷ MayExprs ∷ []) st (λ ts. MoreExprs m ts.0 ts.1.0)) (expr_built e (spell_exprs es (word Semicolon l ∷ k)) (MayExprs ∷ st) (es, r) (switch_ends es l k) (more_exprs_built es l k st r b))

-- bound pairs
pairs_ends : (ps : List NextPair) (m : ℕ) (k : List Symbol) → Ends 1 (spell_next_pairs ps (word RightBracket m ∷ k))
pairs_ends [] m k = refl
pairs_ends (p ∷ ps) m k = refl

pair_next : (c : ℕ) (p : BoundPair) (ps : List NextPair) (m : ℕ) (k : List Symbol) (st : List Item) (r : Trees st) → build (spell_next_pairs ps (word RightBracket m ∷ k)) (WantPairs ∷ st) ≡ Some (record { more = ps; end = m }, r) → build (word Comma c ∷ spell_pair p (spell_next_pairs ps (word RightBracket m ∷ k))) (WantPairs ∷ st) ≡ Some (record { more = record { comma = c; pair = p } ∷ ps; end = m }, r)
pair_next c (MkPair a l e) ps m k st r b =
    ap (gather (WantExpr ∷ Want SColon ∷ WantExpr ∷ WantPairs ∷ []) st (λ ts. record { more = record { comma = c; pair = MkPair ts.0 ts.1.0 ts.1.1.0 } ∷ ts.1.1.1.0.more; end = ts.1.1.1.0.end }))
    (expr_built a (word Colon l ∷ spell_expr e (spell_next_pairs ps (word RightBracket m ∷ k))) (Want SColon ∷ WantExpr ∷ WantPairs ∷ st) (l, (e, (record { more = ps; end = m }, r))) refl
    (ap (gather [] (WantExpr ∷ WantPairs ∷ st) (λ ts. l)) (expr_built e (spell_next_pairs ps (word RightBracket m ∷ k)) (WantPairs ∷ st) (record { more = ps; end = m }, r) (pairs_ends ps m k) b)))

pub pairs_built : (ps : List NextPair) (m : ℕ) (k : List Symbol) (st : List Item) (r : Trees st) → build k st ≡ Some r → build (spell_next_pairs ps (word RightBracket m ∷ k)) (WantPairs ∷ st) ≡ Some (record { more = ps; end = m }, r)
pairs_built [] m k st r b = ap (gather [] st (λ ts. record { more = []; end = m })) b
pairs_built (p ∷ ps) m k st r b = pair_next p.comma p.pair ps m k st r (pairs_built ps m k st r b)

pub segment_built : (s : Segment) (k : List Symbol) (st : List Item) (r : Trees st) → build k st ≡ Some r → build (spell_segment s k) (WantSegment ∷ st) ≡ Some (s, r)
segment_built (MkSegment (MkNames x ns) l (MkPair a c e) ps m) k st r b =
    ap (gather segment_items st (λ ts. MkSegment (MkNames (name_at x.number x.line) ts.0) ts.1.0 (MkPair ts.1.1.0 ts.1.1.1.0 ts.1.1.1.1.0) ts.1.1.1.1.1.0.more ts.1.1.1.1.1.0.end))
    (names_built ns (word LeftBracket l ∷ spell_expr a (word Colon c ∷ spell_expr e (spell_next_pairs ps (word RightBracket m ∷ k)))) (Want SLeftBracket ∷ WantExpr ∷ Want SColon ∷ WantExpr ∷ WantPairs ∷ st) (l, (a, (c, (e, (record { more = ps; end = m }, r)))))
    (ap (λ o. with_tree [] (gather [] (WantExpr ∷ Want SColon ∷ WantExpr ∷ WantPairs ∷ st) (λ ts. l) o))
    (expr_built a (word Colon c ∷ spell_expr e (spell_next_pairs ps (word RightBracket m ∷ k))) (Want SColon ∷ WantExpr ∷ WantPairs ∷ st) (c, (e, (record { more = ps; end = m }, r))) refl
    (ap (gather [] (WantExpr ∷ WantPairs ∷ st) (λ ts. c))
    (expr_built e (spell_next_pairs ps (word RightBracket m ∷ k)) (WantPairs ∷ st) (record { more = ps; end = m }, r) (pairs_ends ps m k) (pairs_built ps m k st r b))))))

pub segments_built : (ss : List NextSegment) (k : List Symbol) (st : List Item) (r : Trees st) → build k (MaySegments ∷ st) ≡ Some ([], r) → build (spell_next_segments ss k) (MaySegments ∷ st) ≡ Some (ss, r)
segments_built [] k st r b = b
segments_built (s ∷ ss) k st r b = ap (gather (WantSegment ∷ MaySegments ∷ []) st (λ ts. record { comma = s.comma; segment = ts.0 } ∷ ts.1.0)) (segment_built s.segment (spell_next_segments ss k) (MaySegments ∷ st) (ss, r) (segments_built ss k st r b))

-- own arrays
constant_built : (c : Constant) (k : List Symbol) (st : List Item) (r : Trees st) → build k st ≡ Some r → build (spell_constant c k) (WantConstant ∷ st) ≡ Some (c, r)
constant_built (Unsigned v l) k st r b = ap (gather [] st (λ ts. Unsigned v l)) b
constant_built (WithSign Add n v l) k st r b = ap (λ o. gather (WantNumber ∷ []) st (λ ts. WithSign Add n ts.0.value ts.0.line) (gather [] st (λ ts. record { value = v; line = l }) o)) b
constant_built (WithSign Subtract n v l) k st r b = ap (λ o. gather (WantNumber ∷ []) st (λ ts. WithSign Subtract n ts.0.value ts.0.line) (gather [] st (λ ts. record { value = v; line = l }) o)) b

further_built : (n : ℕ) (ps : FurtherPairs n) (m : ℕ) (k : List Symbol) (st : List Item) (r : Trees st) → build k st ≡ Some r → build (spell_further_pairs n ps (word RightBracket m ∷ k)) (WantFurther n ∷ st) ≡ Some (record { more = ps; end = m }, r)
further_built zero ps m k st r b = ap (gather [] st (λ ts. record { more = ps; end = m })) b
further_built (suc n) NoFurther m k st r b = ap (gather [] st (λ ts. record { more = NoFurther; end = m })) b
further_built (suc n) (MoreFurther l (MkFixedPair a c e) more) m k st r b =
    ap (gather (WantConstant ∷ Want SColon ∷ WantConstant ∷ WantFurther n ∷ []) st (λ ts. record { more = MoreFurther l (MkFixedPair ts.0 ts.1.0 ts.1.1.0) ts.1.1.1.0.more; end = ts.1.1.1.0.end }))
    (constant_built a (word Colon c ∷ spell_constant e (spell_further_pairs n more (word RightBracket m ∷ k))) (Want SColon ∷ WantConstant ∷ WantFurther n ∷ st) (c, (e, (record { more = more; end = m }, r)))
    (ap (gather [] (WantConstant ∷ WantFurther n ∷ st) (λ ts. c))
    (constant_built e (spell_further_pairs n more (word RightBracket m ∷ k)) (WantFurther n ∷ st) (record { more = more; end = m }, r) (further_built n more m k st r b))))

pub fixed_built : (s : FixedSegment) (k : List Symbol) (st : List Item) (r : Trees st) → build k st ≡ Some r → build (spell_fixed s k) (WantFixed ∷ st) ≡ Some (s, r)
fixed_built (MkFixed (MkNames x ns) l (MkFixedPair a c e) ps m) k st r b =
    ap (gather fixed_items st (λ ts. MkFixed (MkNames (name_at x.number x.line) ts.0) ts.1.0 (MkFixedPair ts.1.1.0 ts.1.1.1.0 ts.1.1.1.1.0) ts.1.1.1.1.1.0.more ts.1.1.1.1.1.0.end))
    (names_built ns (word LeftBracket l ∷ spell_constant a (word Colon c ∷ spell_constant e (spell_further_pairs most_further ps (word RightBracket m ∷ k)))) (Want SLeftBracket ∷ WantConstant ∷ Want SColon ∷ WantConstant ∷ WantFurther most_further ∷ st) (l, (a, (c, (e, (record { more = ps; end = m }, r)))))
    (ap (λ o. with_tree [] (gather [] (WantConstant ∷ Want SColon ∷ WantConstant ∷ WantFurther most_further ∷ st) (λ ts. l) o))
    (constant_built a (word Colon c ∷ spell_constant e (spell_further_pairs most_further ps (word RightBracket m ∷ k))) (Want SColon ∷ WantConstant ∷ WantFurther most_further ∷ st) (c, (e, (record { more = ps; end = m }, r)))
    (ap (gather [] (WantConstant ∷ WantFurther most_further ∷ st) (λ ts. c))
    (constant_built e (spell_further_pairs most_further ps (word RightBracket m ∷ k)) (WantFurther most_further ∷ st) (record { more = ps; end = m }, r) (further_built most_further ps m k st r b))))))

pub fixeds_built : (ss : List NextFixed) (k : List Symbol) (st : List Item) (r : Trees st) → build k (MayFixed ∷ st) ≡ Some ([], r) → build (spell_next_fixed ss k) (MayFixed ∷ st) ≡ Some (ss, r)
fixeds_built [] k st r b = b
fixeds_built (s ∷ ss) k st r b = ap (gather (WantFixed ∷ MayFixed ∷ []) st (λ ts. record { comma = s.comma; segment = ts.0 } ∷ ts.1.0)) (fixed_built s.segment (spell_next_fixed ss k) (MayFixed ∷ st) (ss, r) (fixeds_built ss k st r b))

-- headings
formals_built : (fs : Formals) (l : ℕ) (k : List Symbol) (st : List Item) (r : Trees st) → build (word Semicolon l ∷ k) st ≡ Some r → build (spell_formals fs (word Semicolon l ∷ k)) (MayFormals ∷ st) ≡ Some (fs, r)
formals_built NoFormals l k st r b = ap (with_tree NoFormals) b
formals_built (FormalList n (MkNames x ns) m) l k st r b =
    ap (λ o. gather (WantName ∷ MayNames ∷ Want SRightParenthesis ∷ []) st (λ ts. FormalList n (MkNames ts.0 ts.1.0) ts.1.1.0) (gather [] (MayNames ∷ Want SRightParenthesis ∷ st) (λ ts. name_at x.number x.line) o))
    (names_built ns (word RightParenthesis m ∷ word Semicolon l ∷ k) (Want SRightParenthesis ∷ st) (m, r) (ap (λ o. with_tree [] (gather [] st (λ ts. m) o)) b))

values_built : (vs : ValuePart) (k : List Symbol) (st : List Item) (r : Trees st) → Headless 2 k → build k st ≡ Some r → build (spell_values vs k) (MayValues ∷ st) ≡ Some (vs, r)
values_built NoValues k st r h b = pass_values k st r h b
values_built (ValueList n (MkNames x ns) m) k st r h b =
    ap (λ o. gather (WantName ∷ MayNames ∷ Want SSemicolon ∷ []) st (λ ts. ValueList n (MkNames ts.0 ts.1.0) ts.1.1.0) (gather [] (MayNames ∷ Want SSemicolon ∷ st) (λ ts. name_at x.number x.line) o))
    (names_built ns (word Semicolon m ∷ k) (Want SSemicolon ∷ st) (m, r) (ap (λ o. with_tree [] (gather [] st (λ ts. m) o)) b))

-- the identifiers of a specification, and what follows
abbrev name_items : List Item
name_items = WantName ∷ MayNames ∷ Want SSemicolon ∷ MaySpecifications ∷ []

abbrev first_of : Names → Name
first_of (MkNames x ns) = x

abbrev others_of : Names → List NextName
others_of (MkNames x ns) = ns

same_names : (ns : Names) → MkNames (first_of ns) (others_of ns) ≡ ns
same_names (MkNames x ns) = refl

specified_names : (ns : Names) (m : ℕ) (k : List Symbol) (st : List Item) (ss : List Specification) (r : Trees st) → build k (MaySpecifications ∷ st) ≡ Some (ss, r) → build (spell_names ns (word Semicolon m ∷ k)) (name_items ++ st) ≡ Some (first_of ns, (others_of ns, (m, (ss, r))))
specified_names (MkNames x ns) m k st ss r b = ap (gather [] (MayNames ∷ Want SSemicolon ∷ MaySpecifications ∷ st) (λ ts. name_at x.number x.line)) (names_built ns (word Semicolon m ∷ k) (Want SSemicolon ∷ MaySpecifications ∷ st) (m, (ss, r)) (ap (λ o. with_tree [] (gather [] (MaySpecifications ∷ st) (λ ts. m) o)) b))

name_after_type : (ns : Names) (k : List Symbol) (st : List Item) → build (spell_names ns k) (MayWord ∷ st) ≡ with_tree NoWord (build (spell_names ns k) st)
name_after_type (MkNames x ns) k st = refl

at_specified_type : (v : ValueType) (l : ℕ) (w : List Symbol) (st : List Item) → build (word (type_tag v) l ∷ w) (MaySpecifications ∷ st) ≡ gather (MayWord ∷ name_items) st (λ ts. specification_of (specifier_of (type_at v l) ts.0) ts.1.0 ts.1.1.0 ts.1.1.1.0 ∷ ts.1.1.1.1.0) (build w (MayWord ∷ name_items ++ st))
at_specified_type IntegerType l w st = refl
at_specified_type BooleanType l w st = refl

specification_built : (s : Specifier) (ns : Names) (m : ℕ) (k : List Symbol) (st : List Item) (ss : List Specification) (r : Trees st) → build k (MaySpecifications ∷ st) ≡ Some (ss, r) → build (spell_specifier s (spell_names ns (word Semicolon m ∷ k))) (MaySpecifications ∷ st) ≡ Some (record { specifier = s; names = MkNames (first_of ns) (others_of ns); semicolon = m } ∷ ss, r)
specification_built (ValueSpec t) ns m k st ss r b = at_specified_type t.type t.line (spell_names ns (word Semicolon m ∷ k)) st ∙ ap (gather (MayWord ∷ name_items) st (λ ts. specification_of (specifier_of (type_at t.type t.line) ts.0) ts.1.0 ts.1.1.0 ts.1.1.1.0 ∷ ts.1.1.1.1.0)) (name_after_type ns (word Semicolon m ∷ k) (name_items ++ st) ∙ ap (with_tree NoWord) (specified_names ns m k st ss r b))
specification_built (ArraySpec t l) ns m k st ss r b = at_specified_type t.type t.line (word Array l ∷ spell_names ns (word Semicolon m ∷ k)) st ∙ ap (λ o. gather (MayWord ∷ name_items) st (λ ts. specification_of (specifier_of (type_at t.type t.line) ts.0) ts.1.0 ts.1.1.0 ts.1.1.1.0 ∷ ts.1.1.1.1.0) (gather [] (name_items ++ st) (λ ts. ArrayWord l) o)) (specified_names ns m k st ss r b)
specification_built (LabelSpec l) ns m k st ss r b = ap (gather name_items st (λ ts. specification_of (LabelSpec l) ts.0 ts.1.0 ts.1.1.0 ∷ ts.1.1.1.0)) (specified_names ns m k st ss r b)
specification_built (SwitchSpec l) ns m k st ss r b = ap (gather name_items st (λ ts. specification_of (SwitchSpec l) ts.0 ts.1.0 ts.1.1.0 ∷ ts.1.1.1.0)) (specified_names ns m k st ss r b)
specification_built (StringSpec l) ns m k st ss r b = ap (gather name_items st (λ ts. specification_of (StringSpec l) ts.0 ts.1.0 ts.1.1.0 ∷ ts.1.1.1.0)) (specified_names ns m k st ss r b)
specification_built (ProcedureSpec l) ns m k st ss r b = ap (gather name_items st (λ ts. specification_of (ProcedureSpec l) ts.0 ts.1.0 ts.1.1.0 ∷ ts.1.1.1.0)) (specified_names ns m k st ss r b)
specification_built (FunctionSpec t l) ns m k st ss r b = at_specified_type t.type t.line (word Procedure l ∷ spell_names ns (word Semicolon m ∷ k)) st ∙ ap (λ o. gather (MayWord ∷ name_items) st (λ ts. specification_of (specifier_of (type_at t.type t.line) ts.0) ts.1.0 ts.1.1.0 ts.1.1.1.0 ∷ ts.1.1.1.1.0) (gather [] (name_items ++ st) (λ ts. ProcedureWord l) o)) (specified_names ns m k st ss r b)

specifications_built : (ss : List Specification) (k : List Symbol) (st : List Item) (r : Trees st) → build k (MaySpecifications ∷ st) ≡ Some ([], r) → build (spell_specifications ss k) (MaySpecifications ∷ st) ≡ Some (ss, r)
specifications_built [] k st r b = b
specifications_built (s ∷ ss) k st r b =
    specification_built s.specifier s.names s.semicolon (spell_specifications ss k) st ss r (specifications_built ss k st r b)
    ∙ ap (λ (ns : Names). Some (record { specifier = s.specifier; names = ns; semicolon = s.semicolon } ∷ ss, r)) (same_names s.names)

-- what stands behind `_procedure` up to the body
pub heading_built : (x : Name) (fs : Formals) (m : ℕ) (vs : ValuePart) (ss : List Specification) (k : List Symbol) (st : List Item) (r : Trees st) → Headless 1 k → build k (MaySpecifications ∷ st) ≡ Some ([], r) → build (ident x ∷ spell_formals fs (word Semicolon m ∷ spell_values vs (spell_specifications ss k))) (WantName ∷ MayFormals ∷ Want SSemicolon ∷ MayValues ∷ MaySpecifications ∷ st) ≡ Some (x, (fs, (m, (vs, (ss, r)))))
heading_built x fs m vs ss k st r h b =
    ap (gather [] (MayFormals ∷ Want SSemicolon ∷ MayValues ∷ MaySpecifications ∷ st) (λ ts. name_at x.number x.line))
    (formals_built fs m (spell_values vs (spell_specifications ss k)) (Want SSemicolon ∷ MayValues ∷ MaySpecifications ∷ st) (m, (vs, (ss, r)))
    (ap (gather [] (MayValues ∷ MaySpecifications ∷ st) (λ ts. m))
    (values_built vs (spell_specifications ss k) (MaySpecifications ∷ st) (ss, r) (specifications_headless ss k h) (specifications_built ss k st r b))))
