-- Entries of a scope get the line of its mark.
use Rattle.std.proofs.Common.{◌≡◌, ◌∙◌, ◌+◌, ℕ, suc, List, [], ◌∷◌, refl, ap}
use Rattle.gier_symbol.specs.declared.symbol.Symbol.{Symbol}
use Rattle.gier_symbol.specs.declared.tag.Tag.TheVariants.{Entry as EntryTag, Description, OwnEntry}
use Rattle.gier_symbol.specs.ByTag.{sym}
use Rattle.gier_tree.specs.declared.kind.Kind.{Kind}
use Rattle.gier_tree.specs.declared.kind.Kind.TheVariants.{IntegerArray, BooleanArray}
use Rattle.gier_tree.specs.Declaring.{own_names}
use Rattle.gier_tree.specs.Described.{Described}
use Rattle.gier_tree.specs.Entries.{Entry, declaration_entries, label_entries}
use Rattle.gier_tree.specs.Hoist.{fresh}
use Rattle.gier_tree.specs.Kinds.{kind_number}
use Rattle.gier_tree.specs.OwnCount.{owns_in_declaration}
use Rattle.gier_tree.specs.Texts.{kinds_listed, behind_entry, all_entries, own_entries, entries_of, entries_of_all}
use Rattle.gier_tree.specs.Trees.{Name, LabelPlace, Declaration, Declarations, NoDeclarations, MoreDeclarations}
use Rattle.gier_tree.specs.Written.{Marked, Collected}
use Rattle.gier_text4.specs.State.{lined}

lined_kinds : (ks : List Kind) (l : ℕ) (r k : List Symbol) → lined l (kinds_listed ks 0 r) k ≡ kinds_listed ks l (lined l r k)
lined_kinds [] l r k = refl
lined_kinds (c ∷ ks) l r k = ap (λ z. sym Description (kind_number c) l ∷ z) (lined_kinds ks l r k)

lined_behind : (kind : Kind) (a : Described) (l : ℕ) (r k : List Symbol)
    → lined l (behind_entry kind a 0 r) k ≡ behind_entry kind a l (lined l r k)
lined_behind IntegerArray a l r k = refl
lined_behind BooleanArray a l r k = refl
lined_behind _ a l r k = lined_kinds a.formals l r k

pub lined_entries : (es : List Entry) (l : ℕ) (r k : List Symbol) → lined l (all_entries es 0 r) k ≡ all_entries es l (lined l r k)
lined_entries [] l r k = refl
lined_entries (e ∷ es) l r k =
    ap (λ z. sym EntryTag e.name.number l ∷ sym Description (kind_number e.what.kind) l ∷ z)
    (lined_behind e.what.kind e.what l (all_entries es 0 r) k ∙ ap (behind_entry e.what.kind e.what l) (lined_entries es l r k))

lined_owns : (xs : List Name) (i l : ℕ) (r k : List Symbol) → lined l (own_entries xs i 0 r) k ≡ own_entries xs i l (lined l r k)
lined_owns [] i l r k = refl
lined_owns (x ∷ xs) i l r k = ap (λ z. sym EntryTag x.number l ∷ sym OwnEntry (fresh i) l ∷ z) (lined_owns xs (suc i) l r k)

lined_of : (x : Declaration) (i l : ℕ) (r k : List Symbol)
    → lined l (entries_of Collected x i 0 r) k ≡ entries_of Collected x i l (lined l r k)
lined_of x i l r k =
    lined_entries (declaration_entries x) l (own_entries (own_names x) i 0 r) k
    ∙ ap (all_entries (declaration_entries x) l) (lined_owns (own_names x) i l r k)

lined_all : (ds : Declarations) (i l : ℕ) (r k : List Symbol)
    → lined l (entries_of_all Collected ds i 0 r) k ≡ entries_of_all Collected ds i l (lined l r k)
lined_all NoDeclarations i l r k = refl
lined_all (MoreDeclarations x m ds) i l r k =
    lined_of x i l (entries_of_all Collected ds (i + owns_in_declaration x) 0 r) k
    ∙ ap (entries_of Collected x i l) (lined_all ds (i + owns_in_declaration x) l r k)

-- those of a block
pub lined_block : (x : Declaration) (ds : Declarations) (ls : List LabelPlace) (i j l : ℕ) (k : List Symbol)
    → lined l (entries_of Collected x i 0 (entries_of_all Collected ds j 0 (all_entries (label_entries ls) 0 []))) k
    ≡ entries_of Collected x i l (entries_of_all Collected ds j l (all_entries (label_entries ls) l k))
lined_block x ds ls i j l k =
    lined_of x i l (entries_of_all Collected ds j 0 (all_entries (label_entries ls) 0 [])) k
    ∙ ap (entries_of Collected x i l) (lined_all ds j l (all_entries (label_entries ls) 0 []) k
    ∙ ap (entries_of_all Collected ds j l) (lined_entries (label_entries ls) l [] k))

-- text 3 has none
pub marked_all : (ds : Declarations) (i l : ℕ) (k : List Symbol) → entries_of_all Marked ds i l k ≡ k
marked_all NoDeclarations i l k = refl
marked_all (MoreDeclarations x m ds) i l k = marked_all ds (i + owns_in_declaration x) l k
