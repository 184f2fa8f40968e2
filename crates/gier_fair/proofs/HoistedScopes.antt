-- Parts without faults of scopes are in scope when they are hoisted.
use Rattle.std.proofs.Common.{◌≡◌, ◌≤◌, ◌⊎◌, inl, inr, ℕ, suc, Bool, true, false, List, [], ◌∷◌, refl, ap, ap₂, sym, subst, ◌∙◌, arith}
use Rattle.std.specs.Prelude.{◌++◌, ◌+◌, not, map, nat_lt}
use Rattle.std.specs.List.{AllByRecursion}
use Rattle.std.proofs.lemmas.Bool.Decides.{nat_tests}
use Rattle.std.proofs.lemmas.List.{append_assoc, append-nil}
use Rattle.gier_tree.specs.Declaring.{list_of, formals_of, name_of_heading, labels_of_statement, labels_of_statements, names_of_segment, labels_of_unconditional}
use Rattle.gier_tree.specs.Described.{kind_in, plain}
use Rattle.gier_tree.specs.Entries.{Entry, entry, entries_numbers, declaration_entries, declarations_entries, label_entries, block_entries, procedure_entries, turn_entries, numbers_unconditional}
use Rattle.gier_tree.specs.Hoist.{first_fresh, fresh, hide_labels, behind_declarations, within_block, within_procedure, within_turn, hoist_declaration, hoist_declarations, hoist_group, hoist_statements, hoist_statement, hoist_unconditional, hoist_basic, hoist_conditional, hoist_loop}
use Rattle.gier_tree.specs.OwnCount.{count_owns, owns_of_declarations, owns_of_group, owns_of_statements, owns_of_statement, owns_of_unconditional, owns_of_conditional, owns_of_loop, owns_of_basic, owns_in_declaration, owns_in_declarations, owns_in_statement, owns_in_unconditional}
use Rattle.gier_tree.specs.Places.{Places, first_formal, block_places, procedure_places, turn_places}
use Rattle.gier_tree.specs.Rename.{Renaming, rename, rename_segment, rename_segments}
use Rattle.gier_tree.specs.Room.{block_header}
use Rattle.gier_tree.specs.Texts as text
use Rattle.gier_tree.specs.Texts.{Where, further, inner}
use Rattle.gier_tree.specs.Trees.{Name, Segment, MkSegment, NextSegment, Declaration, DeclareType, DeclareOwn, DeclareArrays, DeclareOwnArrays, DeclareSwitch, DeclareProcedure, Declarations, NoDeclarations, MoreDeclarations, Group, MkBlock, MkCompound, Statements, NoStatements, MoreStatements, Statement, OneUnconditional, OneConditional, OneLoop, Unconditional, MkUnconditional, Basic, OneGroup, Assign, Jump, CallStatement, Dummy, Conditional, IfThen, IfElse, IfLoop, Loop, MkLoop}
use Rattle.gier_scope.specs.Around.{Around, behind, behind_labels, behind_statement, in_block, in_procedure, in_turn}
use Rattle.gier_scope.specs.Faults.{NotDeclared, LocalInBound, TooDeep, fault_where}
use Rattle.gier_scope.specs.Places.{not_declared, in_bound, in_bounds, too_deep, heading_faults, greatest_level}
use Rattle.gier_scope.specs.ScopeFaults.{places_in, uses_in, labels_in, faults_segment, faults_segments, faults_declaration, faults_declarations, faults_group, faults_statements, faults_statement, faults_unconditional, faults_basic, faults_conditional, faults_loop, procedure_line}
use Rattle.gier_scope.specs.Scopes.{Scope, scope_of, declares, is_declared, label_names, declared_by, declared_by_all, block_scope, procedure_scope, turn_scope}
use Rattle.gier_scope.specs.Uses.{uses_expr, uses_exprs, uses_call, uses_pairs, uses_parts, uses_list}
use Rattle.gier_fair.specs.Described.{described, AreDeclared}
use Rattle.gier_fair.specs.FewNames.{AreBelowFresh, FewNamesDeclaration, FewNamesDeclarations, FewNamesGroup, FewNamesStatements, FewNamesStatement, FewNamesUnconditional, FewNamesBasic, FewNamesConditional, FewNamesLoop}
use Rattle.gier_fair.specs.Hoisted.{IsSeen, Sees, ScopesAreFair}
use Rattle.gier_fair.specs.InScope.{AreDistinct, identifiers, InScopeSegment, InScopeDeclaration, InScopeDeclarations, InScopeGroup, InScopeStatements, InScopeStatement, InScopeUnconditional, InScopeBasic, InScopeConditional, InScopeLoop}
use Rattle.gier_fair.proofs.Apart.{no_fault, lacks, contrary, Apart, joined, outside_both, labels_apart, distinct_both, more_apart, SomeOf, all_of, both_of}
use Rattle.gier_fair.proofs.Headings.{heading_right}
use Rattle.gier_fair.proofs.HoistedEntries.{declaration_seen, declarations_seen, labels_seen, formals_seen, formal_identifiers, label_identifiers, joined_identifiers, declaration_identifiers, declarations_identifiers, declaration_some, declarations_some, block_names}
use Rattle.gier_fair.proofs.LabelsOf.{split_statement, same_statement, same_statements}
use Rattle.gier_fair.proofs.Layers.{AtLayer, Layer, neither_in, hidden, both_layers, kept_by, kept_by_all, names_by_all, declaration_layer, declarations_layer, AreSeen, within}
use Rattle.gier_fair.proofs.Lists.{both_empty, three_empty, four_empty, five_empty, each_empty, each_with, each_both}
use Rattle.gier_fair.proofs.OwnsOf.{counted_declaration, counted_declarations, counted_statement, counted_unconditional}
use Rattle.gier_fair.proofs.PlacesTell.{bind_entries, told}
use Rattle.gier_fair.proofs.RenamedUses.{mapped, renamed_expr, renamed_call, renamed_pairs, renamed_assignment, renamed_loop, renamed_elements}
use Rattle.gier_fair.proofs.ScopesApart.{labels, declaration_apart, declarations_apart, statement_apart, statements_apart}

not_false : (c : Bool) → not c ≡ false → c ≡ true
not_false true e = refl
not_false false e = cc

level_right : (level line : ℕ) → too_deep level line ≡ [] → level ≤ greatest_level
level_right level line e = by (nat_lt greatest_level level) refl (no_fault (nat_lt greatest_level level) TooDeep line e)
  where
    by : (c : Bool) → nat_lt greatest_level level ≡ c → c ≡ false → level ≤ greatest_level
    by c q r = grind (arith, nat_tests)

-- the labels of a block's statements
joined_labels : (a : Around) (s : Statement) (ss : Statements) → faults_statement a s ≡ [] → faults_statements (behind_statement s a) ss ≡ []
    → Apart a.before (labels (labels_of_statement s [] ++ labels_of_statements ss []))
joined_labels a s ss e h = labels_apart a.before (labels_of_statement s []) (labels_of_statements ss []) (statement_apart a s e) (statements_apart (behind_statement s a) ss h)

-- what is apart from declarations, told one after the other from the last, is so from all of them
moved_apart : (xs ys zs all : Scope) → all ≡ xs ++ ys → Apart (ys ++ (xs ++ [])) zs → Apart (all ++ []) zs
moved_apart xs ys zs all same h = (
  h.0,
  λ n q.
      let out = outside_both ys (xs ++ []) n (h.1 n q) in
      let other = outside_both xs [] n out.1 in
      joined all [] n ∙ neither_in (declares all n) false (ap (λ s. declares s n) same ∙ joined xs ys n ∙ neither_in (declares xs n) (declares ys n) other.0 out.0) refl,
)

module _ (owns : ℕ) where
  abbrev SeesAll : List Scope → Renaming → Places → Type 0
  SeesAll scopes f p = Sees owns (λ x. is_declared scopes x) f (described p)

  -- ---- uses

  renamed_declared : (scopes : List Scope) (f : Renaming) (p : Places) → SeesAll scopes f p → (xs : List Name) → AllByRecursion (λ x. is_declared scopes x.number ≡ true) xs → AreDeclared p (map (rename f) xs)
  renamed_declared scopes f p k [] h = tt
  renamed_declared scopes f p k (x ∷ xs) h = (k.sees x.number h.0, renamed_declared scopes f p k xs h.1)

  declared : (scopes : List Scope) (f : Renaming) (p : Places) → SeesAll scopes f p → (xs ys : List Name) → ys ≡ map (rename f) xs → not_declared scopes xs ≡ [] → AreDeclared p ys
  declared scopes f p k xs ys same e =
      let one = λ (x : Name). fault_where (not (is_declared scopes x.number)) NotDeclared x.line in
      let all = each_with (λ x. one x ≡ []) (λ x. one x ≡ []) (λ x. is_declared scopes x.number ≡ true) (λ x q r. not_false (is_declared scopes x.number) (no_fault (not (is_declared scopes x.number)) NotDeclared x.line q)) xs (each_empty one xs e) (each_empty one xs e) in
      subst (AreDeclared p) (sym same) (renamed_declared scopes f p k xs all)

  -- ---- bounds

  module _ (block : Scope) (outer : List Scope) (f : Renaming) (p : Places) (k : SeesAll (block ∷ outer) f p) (own : Scope)
      (local : (x : ℕ) → declares block x ≡ false → declares own (f x) ≡ false) where
    renamed_outside : (xs : List Name) → AllByRecursion (λ x. declares block x.number ≡ false) xs → AllByRecursion (λ x. declares own x.number ≡ false) (map (rename f) xs)
    renamed_outside [] h = tt
    renamed_outside (x ∷ xs) h = (local x.number h.0, renamed_outside xs h.1)

    bounds : (xs ys : List Name) → ys ≡ map (rename f) xs → in_bounds (block ∷ outer) xs ≡ [] → AreDeclared p ys × AllByRecursion (λ x. declares own x.number ≡ false) ys
    bounds xs ys same e =
        let one = λ (x : Name). fault_where (declares block x.number) LocalInBound x.line in
        let two = λ (x : Name). fault_where (not (is_declared (block ∷ outer) x.number)) NotDeclared x.line in
        let each = each_empty (in_bound (block ∷ outer)) xs e in
        let a = each_with (λ x. in_bound (block ∷ outer) x ≡ []) (λ x. in_bound (block ∷ outer) x ≡ []) (λ x. declares block x.number ≡ false) (λ x q r. no_fault (declares block x.number) LocalInBound x.line (both_empty (one x) (two x) q).0) xs each each in
        let b = each_with (λ x. in_bound (block ∷ outer) x ≡ []) (λ x. in_bound (block ∷ outer) x ≡ []) (λ x. is_declared (block ∷ outer) x.number ≡ true) (λ x q r. not_false (is_declared (block ∷ outer) x.number) (no_fault (not (is_declared (block ∷ outer) x.number)) NotDeclared x.line (both_empty (one x) (two x) q).1)) xs each each in
        (subst (AreDeclared p) (sym same) (renamed_declared (block ∷ outer) f p k xs b), subst (AllByRecursion (λ x. declares own x.number ≡ false)) (sym same) (renamed_outside xs a))

    pub segment_in : (before : Scope) (level : ℕ) (g : Segment) → faults_segment (record { scopes = block ∷ outer; before = before; level = level }) g ≡ [] → InScopeSegment p own (rename_segment f g)
    segment_in before level (MkSegment ns l b bs m) e =
        let a : Around = record { scopes = block ∷ outer; before = before; level = level } in
        let r = bounds (uses_pairs b bs) _ (renamed_pairs f b bs) (both_empty (places_in a (list_of ns)) (in_bounds (block ∷ outer) (uses_pairs b bs)) e).1 in
        (r.0, r.1)

    pub segments_in : (before : Scope) (level : ℕ) (gs : List NextSegment) → faults_segments (record { scopes = block ∷ outer; before = before; level = level }) gs ≡ []
        → AllByRecursion (λ next. InScopeSegment p own next.segment) (rename_segments f gs)
    segments_in before level [] e = tt
    segments_in before level (g ∷ gs) e =
        let a : Around = record { scopes = block ∷ outer; before = before; level = level } in
        let q = both_empty (faults_segment a g.segment) (faults_segments (behind (names_of_segment g.segment) a) gs) e in
        (segment_in before level g.segment q.0, segments_in (scope_of (names_of_segment g.segment) ++ before) level gs q.1)

  -- ---- scopes within

  -- a bound sees nothing of its own block, also where it uses own quantities
  local_by : (names own : Scope) (f g : Renaming) → SomeOf own names → AreBelowFresh names → Layer owns names own f g → ((x : ℕ) → (f x ≡ x) ⊎ (first_fresh ≤ f x))
      → (x : ℕ) → declares names x ≡ false → declares own (g x) ≡ false
  local_by names own f g some few layer stays x out = by (layer x) (stays x)
    where
      above : (y : ℕ) → first_fresh ≤ y → declares own y ≡ false
      above y le = lacks (declares own y) (λ q. let lt = few y (some.1 y q) in absurd (omega (arith, le, lt)))

      by : AtLayer owns names own x (f x) (g x) → (f x ≡ x) ⊎ (first_fresh ≤ f x) → declares own (g x) ≡ false
      by (inl u) (inl v) = subst (λ y. declares own y ≡ false) (sym (u.1 ∙ v)) (lacks (declares own x) (λ q. contrary (declares names x) (some.1 x q) out))
      by (inl u) (inr v) = subst (λ y. declares own y ≡ false) (sym u.1) (above (f x) v)
      by (inr (inl u)) v = absurd (contrary (declares names x) (some.1 x u.1) out)
      by (inr (inr u)) v = subst (λ y. declares own y ≡ false) (sym u.2) (above (fresh u.0) (omega arith))

  -- what a scope with these entries sees
  new : (scopes : List Scope) (names : Scope) (es : List Entry) (level address number : ℕ) (f g : Renaming) (p : Places) → AreSeen es → Layer owns names (identifiers es) f g → SeesAll scopes f p
      → Sees owns (λ x. is_declared (names ∷ scopes) x) g (bind_entries es (described p))
  new scopes names es level address number f g p h layer k = within owns (λ x. is_declared scopes x) f g (described p) names es h layer k

  mutual
    pub declaration_in : (block : Scope) (outer : List Scope) (before : Scope) (level : ℕ) (p : Places) (own : Scope) (f : Renaming) (i : ℕ) (w : Where) (d : Declaration)
        → SeesAll (block ∷ outer) f p → ((x : ℕ) → declares block x ≡ false → declares own (f x) ≡ false) → w.level ≡ level → FewNamesDeclaration d → i + owns_in_declaration d ≤ owns
        → faults_declaration (record { scopes = block ∷ outer; before = before; level = level }) d ≡ [] → InScopeDeclaration p own w (hoist_declaration d i f)
    declaration_in block outer before level p own f i w (DeclareType t ns) k local at few le e = tt
    declaration_in block outer before level p own f i w (DeclareOwn l t ns) k local at few le e = tt
    declaration_in block outer before level p own f i w (DeclareArrays t l g gs) k local at few le e =
        let a : Around = record { scopes = block ∷ outer; before = before; level = level } in
        let q = both_empty (faults_segment a g) (faults_segments (behind (names_of_segment g) a) gs) e in
        (segment_in block outer f p k own local before level g q.0, segments_in block outer f p k own local (scope_of (names_of_segment g) ++ before) level gs q.1)
    declaration_in block outer before level p own f i w (DeclareOwnArrays z t l g gs) k local at few le e = tt
    declaration_in block outer before level p own f i w (DeclareSwitch l x m s ss) k local at few le e =
        let a : Around = record { scopes = block ∷ outer; before = before; level = level } in
        declared (block ∷ outer) f p k (uses_expr s ++ uses_exprs ss) _ (renamed_elements f s ss) (both_empty (places_in a (x ∷ [])) (uses_in a (uses_expr s ++ uses_exprs ss)) e).1
    declaration_in block outer before level p own f i w (DeclareProcedure h s) k local at few le e =
        let a : Around = record { scopes = block ∷ outer; before = before; level = level } in
        let deep = too_deep (suc level) (procedure_line h) in
        let q = four_empty deep (places_in a (name_of_heading h ∷ [])) (heading_faults h) (faults_statement (in_procedure h s a) s) e in
        let right = heading_right h q.2 in
        let ls = labels_of_statement s [] in
        let formals = scope_of (formals_of h) in
        let g = within_procedure h s f in
        let t = hoist_statement s i g in
        let same : labels_of_statement t [] ≡ ls = same_statement s i g [] in
        let es = procedure_entries h t in
        let fs = map (λ (x : Name). entry (plain (kind_in h x.number)) x) (formals_of h) in
        let names : identifiers es ≡ formals ++ labels ls = joined_identifiers fs (label_entries (labels_of_statement t [])) ∙ ap₂ (λ a b. a ++ b) (formal_identifiers h (formals_of h)) (label_identifiers (labels_of_statement t []) ∙ ap labels same) in
        let layer : Layer owns (formals ++ labels ls) (formals ++ labels ls) f g = both_layers owns (labels ls) (labels ls) formals formals f (hide_labels ls f) g (hidden owns (label_names ls) f) (hidden owns (formals_of h) (hide_labels ls f)) in
        let whole : procedure_scope h s ≡ formals ++ labels ls = mapped (λ x. x.number) (formals_of h) (label_names ls) in
        let layer1 = subst (λ xs. Layer owns (procedure_scope h s) xs f g) (sym names) (subst (λ xs. Layer owns xs (formals ++ labels ls) f g) (sym whole) layer) in
        let seen = each_both (λ e. IsSeen e.what) fs (label_entries (labels_of_statement t [])) (formals_seen h (formals_of h) right.0.every) (labels_seen (labels_of_statement t [])) in
        let k1 = subst (Sees owns (λ x. is_declared (procedure_scope h s ∷ block ∷ outer) x) g) (told (suc w.level) (first_formal h) w.numbers es p) (new (block ∷ outer) (procedure_scope h s) es (suc w.level) (first_formal h) w.numbers f g p seen layer1 k) in
        let apart = statement_apart (in_procedure h s a) s q.3 in
        let distinct = subst AreDistinct (sym names) (distinct_both formals (labels ls) right.1.0 apart.0 apart.1) in
        let up = level_right (suc level) (procedure_line h) q.0 in
        (subst (λ n. suc n ≤ greatest_level) (sym at) up, right.0, distinct, statement_in (in_procedure h s a) (procedure_places (suc w.level) w.numbers h t p) g i (inner w es) s k1 (ap suc at) few le q.3)

    pub declarations_in : (block : Scope) (outer : List Scope) (before : Scope) (level : ℕ) (p : Places) (own : Scope) (f : Renaming) (i : ℕ) (w : Where) (ds : Declarations)
        → SeesAll (block ∷ outer) f p → ((x : ℕ) → declares block x ≡ false → declares own (f x) ≡ false) → w.level ≡ level → FewNamesDeclarations ds → i + owns_in_declarations ds ≤ owns
        → faults_declarations (record { scopes = block ∷ outer; before = before; level = level }) ds ≡ [] → InScopeDeclarations p own w (hoist_declarations ds i f)
    declarations_in block outer before level p own f i w NoDeclarations k local at few le e = tt
    declarations_in block outer before level p own f i w (MoreDeclarations d l ds) k local at few le e =
        let a : Around = record { scopes = block ∷ outer; before = before; level = level } in
        let counted = counted_declaration d (owns_of_declarations ds []) in
        let q = both_empty (faults_declaration a d) (faults_declarations (behind (declared_by d) a) ds) e in (
          declaration_in block outer before level p own f i w d k local at few.0 (omega (arith, le, counted)) q.0,
          declarations_in block outer (scope_of (declared_by d) ++ before) level p own f (i + owns_in_declaration d) (text.behind_declaration w (hoist_declaration d i f)) ds k local at few.1 (omega (arith, le, counted)) q.1,
        )

    pub group_in : (a : Around) (p : Places) (f : Renaming) (i : ℕ) (w : Where) (g : Group) → SeesAll a.scopes f p → w.level ≡ a.level → FewNamesGroup g → i + count_owns (owns_of_group g []) ≤ owns
        → faults_group a g ≡ [] → InScopeGroup p w (hoist_group g i f)
    group_in a p f i w (MkBlock l d m ds s ss n) k at few le e =
        let block = block_scope d ds s ss in
        let b = in_block d ds s ss a in
        let c = behind (declared_by d) b in
        let o = behind (declared_by_all ds) c in
        let q = five_empty (too_deep b.level l) (faults_declaration b d) (faults_declarations c ds) (faults_statement o s) (faults_statements (behind_statement s o) ss) e in
        let g = within_block d ds s ss i f in
        let j = i + owns_in_declaration d in
        let j2 = j + owns_in_declarations ds in
        let j3 = j2 + owns_in_statement s in
        let c1 = counted_declaration d (owns_of_declarations ds (owns_of_statement s (owns_of_statements ss []))) in
        let c2 = counted_declarations ds (owns_of_statement s (owns_of_statements ss [])) in
        let c3 = counted_statement s (owns_of_statements ss []) in
        let ls = labels_of_statement s (labels_of_statements ss []) in
        let d1 = hoist_declaration d i g in
        let ds1 = hoist_declarations ds j g in
        let s1 = hoist_statement s j2 g in
        let ss1 = hoist_statements ss j3 g in
        let ls1 = labels_of_statement s1 (labels_of_statements ss1 []) in
        let same : ls1 ≡ ls = same_statement s j2 g (labels_of_statements ss1 []) ∙ ap (labels_of_statement s) (same_statements ss j3 g []) in
        let es = block_entries d1 ds1 s1 ss1 in
        let kept = kept_by owns d ++ (kept_by_all owns ds ++ labels ls) in
        let all = scope_of (declared_by d) ++ (names_by_all owns ds ++ labels ls) in
        let names : block ≡ all = block_names owns d ds ls in
        let ids : identifiers es ≡ kept =
        joined_identifiers (declaration_entries d1 ++ declarations_entries ds1) (label_entries ls1)
        ∙ ap₂ (λ a b. a ++ b) (joined_identifiers (declaration_entries d1) (declarations_entries ds1) ∙ ap₂ (λ a b. a ++ b) (declaration_identifiers owns d i g) (declarations_identifiers owns ds j g)) (label_identifiers ls1 ∙ ap labels same)
        ∙ append_assoc (kept_by owns d) (kept_by_all owns ds) (labels ls) in
        let f1 = hide_labels ls f in
        let f2 = behind_declarations ds j f1 in
        let layer : Layer owns all kept f g =
        both_layers owns (names_by_all owns ds ++ labels ls) (kept_by_all owns ds ++ labels ls) (scope_of (declared_by d)) (kept_by owns d) f f2 g
        (both_layers owns (labels ls) (labels ls) (names_by_all owns ds) (kept_by_all owns ds) f f1 f2 (hidden owns (label_names ls) f) (declarations_layer owns ds j f1 (omega (arith, le, c1, c2))))
        (declaration_layer owns d i f2 (omega (arith, le, c1))) in
        let layer1 = subst (λ xs. Layer owns block xs f g) (sym ids) (subst (λ xs. Layer owns xs kept f g) (sym names) layer) in
        let some : SomeOf kept all = both_of (kept_by owns d) (scope_of (declared_by d)) (kept_by_all owns ds ++ labels ls) (names_by_all owns ds ++ labels ls) (declaration_some owns d)
        (both_of (kept_by_all owns ds) (names_by_all owns ds) (labels ls) (labels ls) (declarations_some owns ds) (all_of (labels ls))) in
        let some1 = subst (λ xs. SomeOf xs block) (sym ids) (subst (SomeOf kept) (sym names) some) in
        let seen = each_both (λ e. IsSeen e.what) (declaration_entries d1 ++ declarations_entries ds1) (label_entries ls1) (each_both (λ e. IsSeen e.what) (declaration_entries d1) (declarations_entries ds1) (declaration_seen d1) (declarations_seen ds1)) (labels_seen ls1) in
        let place = block_places (suc w.level) w.numbers d1 ds1 s1 ss1 p in
        let k1 : SeesAll (block ∷ a.scopes) g place = subst (Sees owns (λ x. is_declared (block ∷ a.scopes) x) g) (told (suc w.level) block_header w.numbers es p) (new a.scopes block es (suc w.level) block_header w.numbers f g p seen layer1 k) in
        let label_apart : Apart o.before (labels ls) = subst (λ ls. Apart o.before (labels ls)) (sym (split_statement s (labels_of_statements ss []))) (joined_labels o s ss q.3 q.4) in
        let first : Apart [] (scope_of (declared_by d)) = declaration_apart b d q.1 in
        let nil : scope_of (declared_by d) ++ [] ≡ scope_of (declared_by d) = append-nil (scope_of (declared_by d)) in
        let both : Apart [] (scope_of (declared_by d ++ declared_by_all ds)) = more_apart [] (declared_by d) (declared_by_all ds) first (declarations_apart c ds q.2) in
        let before : o.before ≡ scope_of (declared_by_all ds) ++ (scope_of (declared_by d) ++ []) = refl in
        let distinct : AreDistinct block = (more_apart [] (declared_by d ++ declared_by_all ds) (label_names ls) both (moved_apart (scope_of (declared_by d)) (scope_of (declared_by_all ds)) (labels ls) (scope_of (declared_by d ++ declared_by_all ds)) (mapped (λ x. x.number) (declared_by d) (declared_by_all ds)) label_apart)).0 in
        let local = local_by block (identifiers es) f g some1 few.0 layer1 k.stays in
        let w1 = inner w es in
        let w2 = text.behind_declaration w1 d1 in
        let w3 = text.behind_declarations w2 ds1 in
        let up = ap suc at in (
          subst (λ n. suc n ≤ greatest_level) (sym at) (level_right b.level l q.0),
          some1.0 distinct,
          declaration_in block a.scopes [] b.level place (identifiers es) g i w1 d k1 local up few.1 (omega (arith, le, c1)) q.1,
          declarations_in block a.scopes (scope_of (declared_by d) ++ []) b.level place (identifiers es) g j w2 ds k1 local up few.2 (omega (arith, le, c1, c2)) q.2,
          statement_in o place g j2 w3 s k1 up few.3 (omega (arith, le, c1, c2, c3)) q.3,
          statements_in (behind_statement s o) place g j3 (text.behind_statement w3 s1) ss k1 up few.4 (omega (arith, le, c1, c2, c3)) q.4,
        )
    group_in a p f i w (MkCompound l s ss n) k at few le e =
        let counted = counted_statement s (owns_of_statements ss []) in
        let q = both_empty (faults_statement a s) (faults_statements (behind_statement s a) ss) e in (
          statement_in a p f i w s k at few.0 (omega (arith, le, counted)) q.0,
          statements_in (behind_statement s a) p f (i + owns_in_statement s) (text.behind_statement w (hoist_statement s i f)) ss k at few.1 (omega (arith, le, counted)) q.1,
        )

    pub statements_in : (a : Around) (p : Places) (f : Renaming) (i : ℕ) (w : Where) (ss : Statements) → SeesAll a.scopes f p → w.level ≡ a.level → FewNamesStatements ss → i + count_owns (owns_of_statements ss []) ≤ owns
        → faults_statements a ss ≡ [] → InScopeStatements p w (hoist_statements ss i f)
    statements_in a p f i w NoStatements k at few le e = tt
    statements_in a p f i w (MoreStatements l s ss) k at few le e =
        let counted = counted_statement s (owns_of_statements ss []) in
        let q = both_empty (faults_statement a s) (faults_statements (behind_statement s a) ss) e in (
          statement_in a p f i w s k at few.0 (omega (arith, le, counted)) q.0,
          statements_in (behind_statement s a) p f (i + owns_in_statement s) (text.behind_statement w (hoist_statement s i f)) ss k at few.1 (omega (arith, le, counted)) q.1,
        )

    pub statement_in : (a : Around) (p : Places) (f : Renaming) (i : ℕ) (w : Where) (s : Statement) → SeesAll a.scopes f p → w.level ≡ a.level → FewNamesStatement s → i + owns_in_statement s ≤ owns
        → faults_statement a s ≡ [] → InScopeStatement p w (hoist_statement s i f)
    statement_in a p f i w (OneUnconditional u) k at few le e = unconditional_in a p f i w u k at few le e
    statement_in a p f i w (OneConditional c) k at few le e = conditional_in a p f i w c k at few le e
    statement_in a p f i w (OneLoop x) k at few le e = loop_in a p f i w x k at few le e

    unconditional_in : (a : Around) (p : Places) (f : Renaming) (i : ℕ) (w : Where) (u : Unconditional) → SeesAll a.scopes f p → w.level ≡ a.level → FewNamesUnconditional u → i + count_owns (owns_of_unconditional u []) ≤ owns
        → faults_unconditional a u ≡ [] → InScopeUnconditional p w (hoist_unconditional u i f)
    unconditional_in a p f i w (MkUnconditional ls b) k at few le e =
        basic_in (behind_labels ls a) p f i w b k at few le (both_empty (labels_in a ls) (faults_basic (behind_labels ls a) b) e).1

    basic_in : (a : Around) (p : Places) (f : Renaming) (i : ℕ) (w : Where) (b : Basic) → SeesAll a.scopes f p → w.level ≡ a.level → FewNamesBasic b → i + count_owns (owns_of_basic b []) ≤ owns
        → faults_basic a b ≡ [] → InScopeBasic p w (hoist_basic b i f)
    basic_in a p f i w (OneGroup g) k at few le e = group_in a p f i w g k at few le e
    basic_in a p f i w (Assign q qs x) k at few le e = declared a.scopes f p k (uses_parts q qs ++ uses_expr x) _ (renamed_assignment f q qs x) e
    basic_in a p f i w (Jump l x) k at few le e = declared a.scopes f p k (uses_expr x) _ (renamed_expr f x) e
    basic_in a p f i w (CallStatement c) k at few le e = declared a.scopes f p k (uses_call c) _ (renamed_call f c) e
    basic_in a p f i w Dummy k at few le e = tt

    conditional_in : (a : Around) (p : Places) (f : Renaming) (i : ℕ) (w : Where) (c : Conditional) → SeesAll a.scopes f p → w.level ≡ a.level → FewNamesConditional c → i + count_owns (owns_of_conditional c []) ≤ owns
        → faults_conditional a c ≡ [] → InScopeConditional p w (hoist_conditional c i f)
    conditional_in a p f i w (IfThen ls l x m u) k at few le e =
        let b = behind_labels ls a in
        let q = three_empty (labels_in a ls) (uses_in a (uses_expr x)) (faults_unconditional b u) e in
        (declared a.scopes f p k (uses_expr x) _ (renamed_expr f x) q.1, unconditional_in b p f i w u k at few le q.2)
    conditional_in a p f i w (IfElse ls l x m u n s) k at few le e =
        let b = behind_labels ls a in
        let c = behind_labels (labels_of_unconditional u []) b in
        let q = four_empty (labels_in a ls) (uses_in a (uses_expr x)) (faults_unconditional b u) (faults_statement c s) e in
        let counted = counted_unconditional u (owns_of_statement s []) in (
          declared a.scopes f p k (uses_expr x) _ (renamed_expr f x) q.1,
          unconditional_in b p f i w u k at few.0 (omega (arith, le, counted)) q.2,
          statement_in c p f (i + owns_in_unconditional u) (further w (numbers_unconditional (hoist_unconditional u i f)) (owns_in_unconditional (hoist_unconditional u i f))) s k at few.1 (omega (arith, le, counted)) q.3,
        )
    conditional_in a p f i w (IfLoop ls l x m y) k at few le e =
        let b = behind_labels ls a in
        let q = three_empty (labels_in a ls) (uses_in a (uses_expr x)) (faults_loop b y) e in
        (declared a.scopes f p k (uses_expr x) _ (renamed_expr f x) q.1, loop_in b p f i w y k at few le q.2)

    loop_in : (a : Around) (p : Places) (f : Renaming) (i : ℕ) (w : Where) (x : Loop) → SeesAll a.scopes f p → w.level ≡ a.level → FewNamesLoop x → i + count_owns (owns_of_loop x []) ≤ owns
        → faults_loop a x ≡ [] → InScopeLoop p w (hoist_loop x i f)
    loop_in a p f i w (MkLoop ls l x m t ts n s) k at few le e =
        let q = three_empty (labels_in a ls) (uses_in a (x ∷ uses_list t ts)) (faults_statement (in_turn s a) s) e in
        let own = labels_of_statement s [] in
        let g = within_turn s f in
        let s1 = hoist_statement s i g in
        let es = turn_entries s1 in
        let same : labels_of_statement s1 [] ≡ own = same_statement s i g [] in
        let ids : identifiers es ≡ labels own = label_identifiers (labels_of_statement s1 []) ∙ ap labels same in
        let layer = subst (λ xs. Layer owns (turn_scope s) xs f g) (sym ids) (hidden owns (label_names own) f) in
        let k1 = subst (Sees owns (λ x. is_declared (turn_scope s ∷ a.scopes) x) g) (told w.level 0 w.numbers es p) (new a.scopes (turn_scope s) es w.level 0 w.numbers f g p (labels_seen (labels_of_statement s1 [])) layer k) in (
          declared a.scopes f p k (x ∷ uses_list t ts) _ (renamed_loop f x t ts) q.1,
          subst AreDistinct (sym ids) (statement_apart (in_turn s a) s q.2).0,
          statement_in (in_turn s a) (turn_places w.level w.numbers s1 p) g i (further w (entries_numbers es) 0) s k1 at few le q.2,
        )

pub scopes_are_fair : ScopesAreFair
scopes_are_fair owns a p f i w s k at few le e = statement_in owns a p f i w s k at few le e
