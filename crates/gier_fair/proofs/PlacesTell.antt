-- Places tell of each identifier what scopes tell.
use Rattle.std.proofs.Common.{◌≡◌, ℕ, suc, Bool, true, false, List, [], ◌∷◌, length, refl, ap, sym, ◌∙◌}
use Rattle.std.specs.Prelude.{◌++◌, ◌==◌, ◌+◌, map, if◌then◌else◌}
use Rattle.std.proofs.Math.Path.{fun_ext}
use Rattle.gier_tree.specs.declared.kind.Kind.TheVariants.{Label}
use Rattle.gier_tree.specs.Declaring.{list_of, formals_of, labels_of_statement, labels_of_statements, labels_of_program}
use Rattle.gier_tree.specs.Described.{Described, Scopes, bind, bind_all, bind_labels, bind_formals, bind_segment, bind_segments, bind_declaration, bind_declarations, block_scopes, procedure_scopes, turn_scopes, program_scopes, kind_in, plain, description, array_kind}
use Rattle.gier_tree.specs.Entries.{Entry, entry, kind_words, kind_numbers, segment_entries, segments_entries, declaration_entries, declarations_entries, label_entries, block_entries, procedure_entries, turn_entries, program_entries}
use Rattle.gier_tree.specs.Places.{Placed, Places, place_all, block_places, procedure_places, turn_places, program_places, first_formal, standard_places}
use Rattle.gier_tree.specs.Room.{block_header}
use Rattle.gier_tree.specs.Trees.{Name, ValueType, Segment, MkSegment, NextSegment, Heading, MkHeading, LabelPlace, Declaration, DeclareType, DeclareOwn, DeclareArrays, DeclareOwnArrays, DeclareSwitch, DeclareProcedure, Declarations, NoDeclarations, MoreDeclarations, Statement, Statements, Program}
use Rattle.gier_fair.specs.Described.{described}

-- scopes within a scope of these entries
abbrev pub bind_entries : List Entry → Scopes → Scopes
bind_entries [] scopes = scopes
bind_entries (e ∷ es) scopes = bind e.name.number e.what (bind_entries es scopes)

chosen : (c : Bool) (a b : Placed) (d : Described) → b.what ≡ d → (if c then a else b).what ≡ (if c then a.what else d)
chosen true a b d e = refl
chosen false a b d e = e

placed : (level address number : ℕ) (es : List Entry) (p : Places) (x : ℕ) → (place_all level address number es p x).what ≡ bind_entries es (described p) x
placed level address number [] p x = refl
placed level address number (e ∷ es) p x = chosen (x == e.name.number) _ _ _ (placed level (address + kind_words e.what.kind e.what.count) (number + kind_numbers e.what.kind) es p x)

pub told : (level address number : ℕ) (es : List Entry) (p : Places) → bind_entries es (described p) ≡ described (place_all level address number es p)
told level address number es p = sym (fun_ext (λ x. placed level address number es p x))

joined : (es more : List Entry) (s : Scopes) → bind_entries (es ++ more) s ≡ bind_entries es (bind_entries more s)
joined [] more s = refl
joined (e ∷ es) more s = ap (bind e.name.number e.what) (joined es more s)

all_bound : (xs : List Name) (d : Described) (s : Scopes) → bind_all xs d s ≡ bind_entries (map (entry d) xs) s
all_bound [] d s = refl
all_bound (x ∷ xs) d s = ap (bind x.number d) (all_bound xs d s)

labels_bound : (ls : List LabelPlace) (s : Scopes) → bind_labels ls s ≡ bind_entries (label_entries ls) s
labels_bound [] s = refl
labels_bound (l ∷ ls) s = ap (bind l.name.number (plain Label)) (labels_bound ls s)

formals_bound : (h : Heading) (xs : List Name) (s : Scopes) → bind_formals h xs s ≡ bind_entries (map (λ x. entry (plain (kind_in h x.number)) x) xs) s
formals_bound h [] s = refl
formals_bound h (x ∷ xs) s = ap (bind x.number (plain (kind_in h x.number))) (formals_bound h xs s)

segment_bound : (t : ValueType) (g : Segment) (s : Scopes) → bind_segment t g s ≡ bind_entries (segment_entries t g) s
segment_bound t (MkSegment ns l p ps m) s = all_bound (list_of ns) (description (array_kind t) (suc (length ps)) []) s

segments_bound : (t : ValueType) (gs : List NextSegment) (s : Scopes) → bind_segments t gs s ≡ bind_entries (segments_entries t gs) s
segments_bound t [] s = refl
segments_bound t (g ∷ gs) s =
    segment_bound t g.segment (bind_segments t gs s) ∙ ap (bind_entries (segment_entries t g.segment)) (segments_bound t gs s)
    ∙ sym (joined (segment_entries t g.segment) (segments_entries t gs) s)

declaration_bound : (d : Declaration) (s : Scopes) → bind_declaration d s ≡ bind_entries (declaration_entries d) s
declaration_bound (DeclareType t ns) s = all_bound (list_of ns) _ s
declaration_bound (DeclareOwn l t ns) s = refl
declaration_bound (DeclareArrays t l g gs) s =
    segment_bound t.type g (bind_segments t.type gs s) ∙ ap (bind_entries (segment_entries t.type g)) (segments_bound t.type gs s)
    ∙ sym (joined (segment_entries t.type g) (segments_entries t.type gs) s)
declaration_bound (DeclareOwnArrays k t l g gs) s = refl
declaration_bound (DeclareSwitch l x m e es) s = refl
declaration_bound (DeclareProcedure (MkHeading t l x fs m vs ss) b) s = refl

declarations_bound : (ds : Declarations) (s : Scopes) → bind_declarations ds s ≡ bind_entries (declarations_entries ds) s
declarations_bound NoDeclarations s = refl
declarations_bound (MoreDeclarations d l ds) s =
    declaration_bound d (bind_declarations ds s) ∙ ap (bind_entries (declaration_entries d)) (declarations_bound ds s)
    ∙ sym (joined (declaration_entries d) (declarations_entries ds) s)

pub in_block : (level number : ℕ) (d : Declaration) (ds : Declarations) (b : Statement) (bs : Statements) (p : Places)
    → block_scopes d ds b bs (described p) ≡ described (block_places level number d ds b bs p)
in_block level number d ds b bs p =
    let ls = label_entries (labels_of_statement b (labels_of_statements bs [])) in
    let s = described p in
    let labels = bind_labels (labels_of_statement b (labels_of_statements bs [])) s in
    let inner : bind_declarations ds labels ≡ bind_entries (declarations_entries ds) (bind_entries ls s) =
    declarations_bound ds labels ∙ ap (bind_entries (declarations_entries ds)) (labels_bound (labels_of_statement b (labels_of_statements bs [])) s) in
    declaration_bound d (bind_declarations ds labels) ∙ ap (bind_entries (declaration_entries d)) inner
    ∙ sym (joined (declaration_entries d) (declarations_entries ds) (bind_entries ls s))
    ∙ sym (joined (declaration_entries d ++ declarations_entries ds) ls s)
    ∙ sym (fun_ext (λ x. placed level block_header number (block_entries d ds b bs) p x))

pub in_procedure : (level number : ℕ) (h : Heading) (b : Statement) (p : Places)
    → procedure_scopes h b (described p) ≡ described (procedure_places level number h b p)
in_procedure level number h b p =
    let s = described p in
    let ls = labels_of_statement b [] in
    let fs = map (λ x. entry (plain (kind_in h x.number)) x) (formals_of h) in
    formals_bound h (formals_of h) (bind_labels ls s) ∙ ap (bind_entries fs) (labels_bound ls s) ∙ sym (joined fs (label_entries ls) s)
    ∙ sym (fun_ext (λ x. placed level (first_formal h) number (procedure_entries h b) p x))

pub in_turn : (level number : ℕ) (b : Statement) (p : Places) → turn_scopes b (described p) ≡ described (turn_places level number b p)
in_turn level number b p =
    labels_bound (labels_of_statement b []) (described p) ∙ sym (fun_ext (λ x. placed level 0 number (turn_entries b) p x))

pub in_whole : (t : Program) → program_scopes t ≡ described (program_places t)
in_whole t =
    labels_bound (labels_of_program t) (described standard_places) ∙ sym (fun_ext (λ x. placed 1 0 0 (program_entries t) standard_places x))
