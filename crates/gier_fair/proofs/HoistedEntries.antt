-- The entries of scopes of the hoisted program: their identifiers are some of those that the written scope declares, and each is
-- described.
use Rattle.std.proofs.Common.{◌≡◌, ◌≢◌, ℕ, suc, List, [], ◌∷◌, length, Option, None, Some, refl, ap, ap₂, sym, ◌∙◌}
use Rattle.std.specs.Prelude.{◌++◌, ◌+◌, map}
use Rattle.std.proofs.lemmas.List.{append_assoc}
use Rattle.gier_tree.specs.declared.kind.Kind.TheVariants.{Undeclared}
use Rattle.gier_tree.specs.Declaring.{list_of, names_of_segment, names_of_segments, own_names}
use Rattle.gier_tree.specs.Described.{Described, kind_in, plain, description, variable_kind, array_kind, procedure_kind, procedure_described}
use Rattle.gier_tree.specs.Entries.{Entry, entry, segment_entries, segments_entries, declaration_entries, declarations_entries, label_entries}
use Rattle.gier_tree.specs.Hoist.{hoist_declaration, hoist_declarations}
use Rattle.gier_tree.specs.OwnCount.{owns_in_declaration}
use Rattle.gier_tree.specs.Rename.{Renaming, rename_segment, rename_segments}
use Rattle.gier_tree.specs.Trees.{Name, LabelPlace, ValueType, IntegerType, BooleanType, TypeWord, Segment, MkSegment, NextSegment, Heading, MkHeading, Declaration, DeclareType, DeclareOwn, DeclareArrays, DeclareOwnArrays, DeclareSwitch, DeclareProcedure, Declarations, NoDeclarations, MoreDeclarations}
use Rattle.std.specs.List.{AllByRecursion}
use Rattle.gier_scope.specs.Scopes.{scope_of, label_names, declared_by, declared_by_all}
use Rattle.gier_fair.specs.Hoisted.{IsSeen}
use Rattle.gier_fair.specs.InScope.{identifiers}
use Rattle.gier_fair.proofs.Apart.{SomeOf, all_of, none_of, both_of}
use Rattle.gier_fair.proofs.Layers.{AreSeen, kept_by, kept_by_all, names_by_all}
use Rattle.gier_fair.proofs.Lists.{each_both}
use Rattle.gier_fair.proofs.RenamedUses.{mapped}
use Rattle.gier_fair.proofs.ScopesApart.{labels}

named_seen : (w : Described) → IsSeen w → (xs : List Name) → AreSeen (map (entry w) xs)
named_seen w h [] = tt
named_seen w h (x ∷ xs) = (h, named_seen w h xs)

variable_seen : (t : ValueType) → variable_kind t ≢ Undeclared
variable_seen IntegerType e = cc
variable_seen BooleanType e = cc

array_seen : (t : ValueType) → array_kind t ≢ Undeclared
array_seen IntegerType e = cc
array_seen BooleanType e = cc

function_seen : (t : ValueType) (l : ℕ) → procedure_kind (Some (record { type = t; line = l })) ≢ Undeclared
function_seen IntegerType l e = cc
function_seen BooleanType l e = cc

procedure_seen : (t : Option TypeWord) → procedure_kind t ≢ Undeclared
procedure_seen None e = cc
procedure_seen (Some t) e = function_seen t.type t.line e

heading_seen : (h : Heading) → IsSeen (procedure_described h)
heading_seen (MkHeading t l x fs m vs ss) = procedure_seen t

segment_seen : (t : ValueType) (g : Segment) → AreSeen (segment_entries t g)
segment_seen t (MkSegment ns l p ps m) = named_seen (description (array_kind t) (suc (length ps)) []) (array_seen t) (list_of ns)

segments_seen : (t : ValueType) (gs : List NextSegment) → AreSeen (segments_entries t gs)
segments_seen t [] = tt
segments_seen t (g ∷ gs) = each_both (λ e. IsSeen e.what) (segment_entries t g.segment) (segments_entries t gs) (segment_seen t g.segment) (segments_seen t gs)

pub declaration_seen : (d : Declaration) → AreSeen (declaration_entries d)
declaration_seen (DeclareType t ns) = named_seen (plain (variable_kind t.type)) (variable_seen t.type) (list_of ns)
declaration_seen (DeclareOwn l t ns) = tt
declaration_seen (DeclareArrays t l g gs) = each_both (λ e. IsSeen e.what) (segment_entries t.type g) (segments_entries t.type gs) (segment_seen t.type g) (segments_seen t.type gs)
declaration_seen (DeclareOwnArrays k t l g gs) = tt
declaration_seen (DeclareSwitch l x m e es) = ((λ e. cc), tt)
declaration_seen (DeclareProcedure h s) = (heading_seen h, tt)

pub declarations_seen : (ds : Declarations) → AreSeen (declarations_entries ds)
declarations_seen NoDeclarations = tt
declarations_seen (MoreDeclarations d l ds) = each_both (λ e. IsSeen e.what) (declaration_entries d) (declarations_entries ds) (declaration_seen d) (declarations_seen ds)

pub labels_seen : (ls : List LabelPlace) → AreSeen (label_entries ls)
labels_seen [] = tt
labels_seen (l ∷ ls) = ((λ e. cc), labels_seen ls)

pub formals_seen : (h : Heading) (xs : List Name) → AllByRecursion (λ x. kind_in h x.number ≢ Undeclared) xs → AreSeen (map (λ x. entry (plain (kind_in h x.number)) x) xs)
formals_seen h [] k = tt
formals_seen h (x ∷ xs) k = (k.0, formals_seen h xs k.1)

-- ---- their identifiers

pub named_identifiers : (w : Described) (xs : List Name) → identifiers (map (entry w) xs) ≡ scope_of xs
named_identifiers w [] = refl
named_identifiers w (x ∷ xs) = ap (λ ys. x.number ∷ ys) (named_identifiers w xs)

pub formal_identifiers : (h : Heading) (xs : List Name) → identifiers (map (λ x. entry (plain (kind_in h x.number)) x) xs) ≡ scope_of xs
formal_identifiers h [] = refl
formal_identifiers h (x ∷ xs) = ap (λ ys. x.number ∷ ys) (formal_identifiers h xs)

pub label_identifiers : (ls : List LabelPlace) → identifiers (label_entries ls) ≡ labels ls
label_identifiers [] = refl
label_identifiers (l ∷ ls) = ap (λ ys. l.name.number ∷ ys) (label_identifiers ls)

pub joined_identifiers : (es fs : List Entry) → identifiers (es ++ fs) ≡ identifiers es ++ identifiers fs
joined_identifiers es fs = mapped (λ e. e.name.number) es fs

segment_identifiers : (t : ValueType) (f : Renaming) (g : Segment) → identifiers (segment_entries t (rename_segment f g)) ≡ scope_of (names_of_segment g)
segment_identifiers t f (MkSegment ns l p ps m) = named_identifiers _ (list_of ns)

segments_identifiers : (t : ValueType) (f : Renaming) (gs : List NextSegment) → identifiers (segments_entries t (rename_segments f gs)) ≡ scope_of (names_of_segments gs)
segments_identifiers t f [] = refl
segments_identifiers t f (g ∷ gs) =
    joined_identifiers (segment_entries t (rename_segment f g.segment)) (segments_entries t (rename_segments f gs))
    ∙ ap₂ (λ a b. a ++ b) (segment_identifiers t f g.segment) (segments_identifiers t f gs)
    ∙ sym (mapped (λ x. x.number) (names_of_segment g.segment) (names_of_segments gs))

pub declaration_identifiers : (owns : ℕ) (d : Declaration) (i : ℕ) (f : Renaming) → identifiers (declaration_entries (hoist_declaration d i f)) ≡ kept_by owns d
declaration_identifiers owns (DeclareType t ns) i f = named_identifiers (plain (variable_kind t.type)) (list_of ns)
declaration_identifiers owns (DeclareOwn l t ns) i f = refl
declaration_identifiers owns (DeclareArrays t l g gs) i f =
    joined_identifiers (segment_entries t.type (rename_segment f g)) (segments_entries t.type (rename_segments f gs))
    ∙ ap₂ (λ a b. a ++ b) (segment_identifiers t.type f g) (segments_identifiers t.type f gs)
    ∙ sym (mapped (λ x. x.number) (names_of_segment g) (names_of_segments gs))
declaration_identifiers owns (DeclareOwnArrays k t l g gs) i f = refl
declaration_identifiers owns (DeclareSwitch l x m e es) i f = refl
declaration_identifiers owns (DeclareProcedure h s) i f = refl

pub declarations_identifiers : (owns : ℕ) (ds : Declarations) (i : ℕ) (f : Renaming) → identifiers (declarations_entries (hoist_declarations ds i f)) ≡ kept_by_all owns ds
declarations_identifiers owns NoDeclarations i f = refl
declarations_identifiers owns (MoreDeclarations d l ds) i f =
    joined_identifiers (declaration_entries (hoist_declaration d i f)) (declarations_entries (hoist_declarations ds (i + owns_in_declaration d) f))
    ∙ ap₂ (λ a b. a ++ b) (declaration_identifiers owns d i f) (declarations_identifiers owns ds (i + owns_in_declaration d) f)

pub declaration_some : (owns : ℕ) (d : Declaration) → SomeOf (kept_by owns d) (scope_of (declared_by d))
declaration_some owns (DeclareType t ns) = all_of (scope_of (list_of ns))
declaration_some owns (DeclareOwn l t ns) = none_of (scope_of (list_of ns))
declaration_some owns (DeclareArrays t l g gs) = all_of (scope_of (names_of_segment g ++ names_of_segments gs))
declaration_some owns (DeclareOwnArrays k t l g gs) = none_of (scope_of (own_names (DeclareOwnArrays k t l g gs)))
declaration_some owns (DeclareSwitch l x m e es) = all_of (x.number ∷ [])
declaration_some owns (DeclareProcedure h s) = all_of (scope_of (declared_by (DeclareProcedure h s)))

pub declarations_some : (owns : ℕ) (ds : Declarations) → SomeOf (kept_by_all owns ds) (names_by_all owns ds)
declarations_some owns NoDeclarations = all_of []
declarations_some owns (MoreDeclarations d l ds) =
    both_of (kept_by owns d) (scope_of (declared_by d)) (kept_by_all owns ds) (names_by_all owns ds) (declaration_some owns d) (declarations_some owns ds)

all_names : (owns : ℕ) (ds : Declarations) → scope_of (declared_by_all ds) ≡ names_by_all owns ds
all_names owns NoDeclarations = refl
all_names owns (MoreDeclarations d l ds) =
    mapped (λ x. x.number) (declared_by d) (declared_by_all ds) ∙ ap (λ xs. scope_of (declared_by d) ++ xs) (all_names owns ds)

pub block_names : (owns : ℕ) (d : Declaration) (ds : Declarations) (ls : List LabelPlace)
    → scope_of (declared_by d ++ declared_by_all ds ++ label_names ls) ≡ scope_of (declared_by d) ++ (names_by_all owns ds ++ labels ls)
block_names owns d ds ls =
    mapped (λ x. x.number) (declared_by d ++ declared_by_all ds) (label_names ls)
    ∙ ap (λ xs. xs ++ labels ls) (mapped (λ x. x.number) (declared_by d) (declared_by_all ds) ∙ ap (λ xs. scope_of (declared_by d) ++ xs) (all_names owns ds))
    ∙ append_assoc (scope_of (declared_by d)) (names_by_all owns ds) (labels ls)
